use Rattle.psac_values.proofs.Terms.{◌+◌, ◌*◌, sym, ap, subst, ◌∙◌, arith, inr, ⊎_elim, true≢false, eq-eqb, eqb-true, IsSole, ValueView, IsLive, IsOut}
use Rattle.psac_values.proofs.Acts.{loads}
use Rattle.psac_values.proofs.Carrying.{told_out, out_low}
use Rattle.psac_values.proofs.values.Values.is_live.Goals as goal

pub returns-then-slot-pass-clause-dead : goal.returns-then-slot-pass-clause-dead
returns-then-slot-pass-clause-dead c = λ _ live.
    let p = c.pass.invariant.1 in
    let v = c.pass.inside.seat.me.0 in
    let a = c.if-m-pass.false in
    let b = c.if-slot-pass.true in
    ⊎_elim (λ l. let x = l.0 in omega (arith, x, a, p.fixed_is)) (λ (o : IsOut c.args.m v). let x = out_low _ _ _ _ _ v p c.args.m o in omega (arith, x, a, b))
    (subst (λ (v : ValueView). IsLive c.args.m v) (sym (ap (λ p. p.knows) c.pass.view_is)) live)

pub load-word-requires : goal.load-word-requires
load-word-requires c =
    let p = c.pass.invariant.1 in
    let t = ap (λ p. p.table) c.pass.view_is ∙ (c.requires.table ∙ sym c.self.view_is) in
    let w = ap (λ z. z.words) t in
    (t, omega (arith, w, p.words_is, c.if-slot-pass.false), loads _ _ _ _ _ c.pass.inside.seat.me.0 c.pass.inside.seat.me.1 p.live)

pub returns-clause-live : goal.returns-clause-live
returns-clause-live c = λ e.
    let p = c.pass.invariant.1 in
    let v = c.pass.inside.seat.me.0 in
    let sole = subst (λ (v : ValueView). IsSole v.claims) (sym (ap (λ p. p.knows) c.pass.view_is)) c.requires.sole in
    let told = told_out _ _ _ _ _ v p c.args.m sole.0 _ c.load-word.result sole.1 c.load-word.ensures.2.tells (omega (arith, c.if-m-pass.false)) c.if-slot-pass.false (omega arith) in
    let n = eqb-true c.load-word.result (2 * c.from.result + 1) e in
    subst (λ (v : ValueView). IsLive c.args.m v) (ap (λ p. p.knows) c.pass.view_is) (inr (told.0 (omega (arith, n, c.from.ensures))))

pub returns-clause-dead : goal.returns-clause-dead
returns-clause-dead c = λ e live.
    let p = c.pass.invariant.1 in
    let v = c.pass.inside.seat.me.0 in
    let a = c.if-m-pass.false in
    let g = c.from.ensures in
    let f = p.fixed_is in
    let sole = subst (λ (v : ValueView). IsSole v.claims) (sym (ap (λ p. p.knows) c.pass.view_is)) c.requires.sole in
    let told = told_out _ _ _ _ _ v p c.args.m sole.0 _ c.load-word.result sole.1 c.load-word.ensures.2.tells (omega (arith, a)) c.if-slot-pass.false (omega arith) in
    ⊎_elim (λ l. let x = l.0 in omega (arith, x, a, f))
    (λ (o : IsOut c.args.m v). let n = told.1 o in true≢false (sym (eq-eqb c.load-word.result (2 * c.from.result + 1) (omega (arith, n, g))) ∙ e))
    (subst (λ (v : ValueView). IsLive c.args.m v) (sym (ap (λ p. p.knows) c.pass.view_is)) live)
