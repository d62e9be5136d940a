use Rattle.psac_readers.proofs.Terms.{ℕ, zero, suc, true, false, true≢false, ◌≡◌, ◌<◌, sym, ap, subst, ◌∙◌, arith, sum_by, not, ◌==◌, eqb-true, IsSole, deads}
use Rattle.psac_readers.proofs.Acts.{loads}
use Rattle.psac_readers.proofs.Links.{on_then}
use Rattle.psac_readers.proofs.readers.Readers.is_dead.Goals as goal

pub load-found-requires : goal.load-found-requires
load-found-requires c =
    let is = c.pass.view_is in
    let p = c.pass.invariant.1 in
    let t = ap (λ p. p.table) is ∙ (c.requires.table ∙ sym c.self.view_is) in
    let n = ap (λ p. p.knows.claims.count) is in
    (t, omega (arith, ap (λ z. z.words) t, p.words_is, c.requires.inside, n, p.links_is), loads _ _ _ _ c.pass.inside.seat.me.0 c.pass.inside.seat.me.1 p.live _)

-- what was found is whether the link is dead
told : (c : goal.After-load-found) → c.load-found.result ≡ sum_by (deads c.args.link.index) c.args.pass.now.knows.links
told c =
    let iv = ap (λ p. p.knows) c.pass.view_is in
    let p = c.pass.invariant.1 in
    let l = c.args.link.index in
    let n = ap (λ u. u.claims.count) iv in
    subst (λ u. c.load-found.result ≡ sum_by (deads l) u.links) iv (c.load-found.ensures.2.alone (subst (λ u. IsSole u.claims) (sym iv) c.requires.sole) l (omega (arith, c.requires.inside, n)) (omega (arith, p.links_is, p.mods_is)))

some_of : (a : ℕ) → not (a == 0) ≡ true → 0 < a
some_of zero e = absurd (true≢false (sym e))
some_of (suc a) e = omega arith

none_of : (a : ℕ) → not (a == 0) ≡ false → a ≡ 0
none_of a e = eqb-true a 0 (on_then (a == 0) e)

pub returns-clause-dead : goal.returns-clause-dead
returns-clause-dead c = λ e. let t = told c in let s = some_of c.load-found.result e in omega (arith, t, s)

pub returns-clause-other : goal.returns-clause-other
returns-clause-other c = λ e. let t = told c in let s = none_of c.load-found.result e in omega (arith, t, s)
