use Rattle.psac_readers.proofs.Terms.{ℕ, length, sym, ap, subst, ◌∙◌, arith, ReadersView, Carries}
use Rattle.psac_readers.proofs.Sides.{splits_at}
use Rattle.psac_readers.proofs.Carrying.{carries_left, carries_right}
use Rattle.psac_readers.proofs.readers.Readers.fork.Goals as goal

pub split_seat-other-requires : goal.split_seat-other-requires
split_seat-other-requires g c =
    let is = c.pass.view_is in
    let p = c.pass.invariant.1 in
    let t = ap (λ p. p.table) is ∙ (c.requires.table ∙ sym c.self.view_is) in
    let short = ap (λ p. length p.knows.claims.branch) is in
    let s = c.requires.short in
    (t, omega (arith, ap (λ z. z.words) t, p.words_is), λ s h at. splits_at g.D.ReadersSplit.set_shared g.D.ReadersSplit.set_right g.D.ReadersSplit.link_right _ _ s.words s.views h _ c.pass.inside.seat.me.0 at p.live (ap (λ p. p.knows.claims.over) is ∙ c.requires.room) (omega (arith, short, s)))

pub invariant_of-result : goal.invariant_of-result
invariant_of-result g c =
    let s = c.split_seat-other.ensures in
    (ap (λ m. m.1) s.2 ∙ c.pass.invariant.0, subst (λ (x : ℕ × ReadersView). Carries c.pass.inside.links c.pass.inside.mods c.pass.inside.head c.pass.inside.room x.0 x.1) (λ j. (ap (λ z. z.words) (sym s.0) j, ap (λ m. m.0) (sym s.2) j)) (carries_left _ _ _ _ _ c.pass.inside.seat.me.0 c.pass.invariant.1 g.D.ReadersSplit.set_shared g.D.ReadersSplit.set_right g.D.ReadersSplit.link_right))

pub invariant_of-result-2 : goal.invariant_of-result-2
invariant_of-result-2 g c =
    let s = c.split_seat-other.ensures in
    (ap (λ m. m.1) s.4, subst (λ (x : ℕ × ReadersView). Carries c.pass.inside.links c.pass.inside.mods c.pass.inside.head c.pass.inside.room x.0 x.1) (λ j. (ap (λ z. z.words) (sym s.3) j, ap (λ m. m.0) (sym s.4) j)) (carries_right _ _ _ _ _ c.pass.inside.seat.me.0 c.pass.invariant.1 g.D.ReadersSplit.set_shared g.D.ReadersSplit.set_right g.D.ReadersSplit.link_right))
