use Rattle.psac_readers.proofs.Terms.{ℕ, ◌<◌, sym, ap, subst, ◌∙◌, arith, sum_by, ReadersView, alive, Carries}
use Rattle.psac_readers.proofs.Acts.{leaves}
use Rattle.psac_readers.proofs.Carrying.{alive_low, carries_dead}
use Rattle.psac_readers.proofs.readers.Readers.leave.Goals as goal

pub store-requires : goal.store-requires
store-requires c =
    let is = c.pass.view_is in
    let p = c.pass.invariant.1 in
    let t = ap (λ p. p.table) is ∙ (c.requires.table ∙ sym c.self.view_is) in
    let live = subst (λ k. 0 < sum_by (alive c.args.link.index) k.links) (sym (ap (λ p. p.knows) is)) c.requires.live in
    let low = alive_low _ _ _ _ _ c.pass.inside.seat.me.0 p c.args.link.index live in
    (t, omega (arith, ap (λ z. z.words) t, p.words_is, low), leaves _ _ _ _ c.pass.inside.seat.me.0 c.pass.inside.seat.me.1 p.live c.args.link.index _ live (omega (arith, p.links_is, p.mods_is)))

pub invariant_of-pass : goal.invariant_of-pass
invariant_of-pass c =
    let p = c.pass.invariant.1 in
    let s = c.store.ensures in
    let e = s.2 c.args.link.index (omega (arith, p.links_is, p.mods_is)) in
    (ap (λ m. m.1) e ∙ c.pass.invariant.0, subst (λ (x : ℕ × ReadersView). Carries c.pass.inside.links c.pass.inside.mods c.pass.inside.head c.pass.inside.room x.0 x.1) (λ j. (ap (λ z. z.words) (sym s.0) j, ap (λ m. m.0) (sym e) j)) (carries_dead _ _ _ _ _ c.pass.inside.seat.me.0 p c.args.link.index))
