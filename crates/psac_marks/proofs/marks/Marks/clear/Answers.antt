use Rattle.psac_marks.proofs.Terms.{ℕ, sym, ap, subst, ◌∙◌, arith, MarksView, Carries, Bare}
use Rattle.psac_marks.proofs.Keeps.{own_alone}
use Rattle.psac_marks.proofs.Families.{bare_below}
use Rattle.psac_marks.proofs.Acts.{clears}
use Rattle.psac_marks.proofs.Carrying.{own_low, carries_cleared}
use Rattle.psac_marks.proofs.marks.Marks.clear.Goals as goal

pub store-requires : goal.store-requires
store-requires c =
    let is = c.pass.view_is in
    let p = c.pass.invariant.1 in
    let v = c.pass.inside.seat.me.0 in
    let x = c.args.node.slot in
    let t = ap (λ p. p.table) is ∙ (c.requires.table ∙ sym c.self.view_is) in
    let own = own_low _ _ _ _ v p c.args.node _ (ap (λ p. p.knows) is) c.requires.own in
    let n = p.nodes_is in
    let bare = subst (λ k. Bare k x) (sym (ap (λ p. p.knows) is)) c.requires.bare in (
      t,
      omega (arith, ap (λ z. z.words) t, p.words_is, own.1),
      clears _ _ _ v c.pass.inside.seat.me.1 p.live x _ (omega (arith, own.1, n))
          (λ s h at. (own_alone _ s.words s.views h _ v at x own.0, bare_below _ s.words s.views h _ v at p.live x own.0 bare)) (omega (arith, n)),
    )

pub invariant_of-pass : goal.invariant_of-pass
invariant_of-pass c =
    let p = c.pass.invariant.1 in
    let s = c.store.ensures in
    let e = s.2 c.args.node.slot (omega (arith, p.nodes_is)) in
    (ap (λ m. m.1) e ∙ c.pass.invariant.0, subst (λ (x : ℕ × MarksView). Carries c.pass.inside.nodes c.pass.inside.head c.pass.inside.room x.0 x.1) (λ j. (ap (λ z. z.words) (sym s.0) j, ap (λ m. m.0) (sym e) j)) (carries_cleared _ _ _ _ c.pass.inside.seat.me.0 p c.args.node.slot))
