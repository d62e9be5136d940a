use Rattle.psac_values.proofs.Terms.{◌≡◌, ℕ, suc, ◌+◌, ◌*◌, sym, ap, subst, ◌∙◌, arith, one_more, ValueView, Carries, Knows, Tells}
use Rattle.psac_values.proofs.Acts.{looks, loads}
use Rattle.psac_values.proofs.Carrying.{known_low, words_read, carries_looked}
use Rattle.psac_values.proofs.values.Values.read.Goals as goal

pub load-first-requires : goal.load-first-requires
load-first-requires c =
    let is = c.pass.view_is in
    let p = c.pass.invariant.1 in
    let t = ap (λ p. p.table) is ∙ (c.requires.table ∙ sym c.self.view_is) in
    let k = c.requires.known in
    let low = known_low _ _ _ _ _ c.pass.inside.seat.me.0 p c.args.m k.0 (subst (λ (v : ValueView). Knows v c.args.m k.0) (sym (ap (λ p. p.knows) is)) k.1) in
    (t, omega (arith, ap (λ z. z.words) t, p.words_is, low), looks _ _ _ _ _ c.pass.inside.seat.me.0 c.pass.inside.seat.me.1 p.live)

pub load-second-requires : goal.load-second-requires
load-second-requires c =
    let is = c.pass.view_is in
    let p = c.pass.invariant.1 in
    let t = ap (λ p. p.table) is ∙ (c.requires.table ∙ sym c.self.view_is) in
    let k = c.requires.known in
    let low = known_low _ _ _ _ _ c.pass.inside.seat.me.0 p c.args.m k.0 (subst (λ (v : ValueView). Knows v c.args.m k.0) (sym (ap (λ p. p.knows) is)) k.1) in
    let l = c.load-first.ensures in
    (l.0 ∙ t, omega (arith, ap (λ z. z.words) t, p.words_is, low), loads _ _ _ _ _ c.load-first.new.seat.me.0 c.load-first.new.seat.me.1 (ap (λ m. m.0.claims.live) l.2.looked_is ∙ p.live))

pub load-third-requires : goal.load-third-requires
load-third-requires c =
    let is = c.pass.view_is in
    let p = c.pass.invariant.1 in
    let t = ap (λ p. p.table) is ∙ (c.requires.table ∙ sym c.self.view_is) in
    let k = c.requires.known in
    let low = known_low _ _ _ _ _ c.pass.inside.seat.me.0 p c.args.m k.0 (subst (λ (v : ValueView). Knows v c.args.m k.0) (sym (ap (λ p. p.knows) is)) k.1) in
    let l = c.load-first.ensures in
    let s = c.load-second.ensures in
    (s.0 ∙ (l.0 ∙ t), omega (arith, ap (λ z. z.words) t, p.words_is, low), loads _ _ _ _ _ c.load-second.new.seat.me.0 c.load-second.new.seat.me.1 (ap (λ m. m.0.claims.live) (s.2.same ∙ l.2.looked_is) ∙ p.live))

two_more : (n : ℕ) → n + 2 ≡ suc (suc n)
two_more n = omega arith

pub returns-clause-words : goal.returns-clause-words
returns-clause-words c = λ ws knows.
    let p = c.pass.invariant.1 in
    let v = c.pass.inside.seat.me.0 in
    let l = c.load-first.ensures.2 in
    let s = c.load-second.ensures.2 in
    let t = c.load-third.ensures.2 in
    let n = p.count_is in
    let i = 1 + 2 * c.pass.inside.count + 3 * c.args.m.slot in
    words_read _ _ _ _ _ v p c.args.m ws i c.load-first.result c.load-second.result c.load-third.result (subst (λ (v : ValueView). Knows v c.args.m ws) (sym (ap (λ p. p.knows) c.pass.view_is)) knows)
    (omega (arith, n)) l.tells
    (subst (λ (x : ℕ × ValueView). Tells x.1 x.0 c.load-second.result) (λ j. (one_more i j, ap (λ m. m.0) l.looked_is j)) s.tells)
    (subst (λ (x : ℕ × ValueView). Tells x.1 x.0 c.load-third.result) (λ j. (two_more i j, ap (λ m. m.0) (s.same ∙ l.looked_is) j)) t.tells)

pub invariant_of-pass : goal.invariant_of-pass
invariant_of-pass c =
    let l = c.load-first.ensures in
    let s = c.load-second.ensures in
    let t = c.load-third.ensures in
    let e = t.2.same ∙ (s.2.same ∙ l.2.looked_is) in
    (ap (λ m. m.1) e ∙ c.pass.invariant.0, subst (λ (x : ℕ × ValueView). Carries c.pass.inside.fixed c.pass.inside.count c.pass.inside.head c.pass.inside.room x.0 x.1) (λ j. (ap (λ z. z.words) (sym (t.0 ∙ (s.0 ∙ l.0))) j, ap (λ m. m.0) (sym e) j)) (carries_looked _ _ _ _ _ c.pass.inside.seat.me.0 c.pass.invariant.1))
