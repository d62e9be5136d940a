use Rattle.std.proofs.Common.{ℕ, ◌≤◌, ◌∷◌, [], sym, subst, ap}
use Rattle.std.specs.Prelude.{sum_by}
use Rattle.psac_slots.specs.Handles.{Member}
use Rattle.psac_readers.specs.declared.view.ReadersView.{ReadersView}
use Rattle.psac_readers.specs.Chained.{named, mods_of}
use Rattle.psac_reclaim.specs.Gave.{Cleaned}
use Rattle.psac_reclaim.proofs.Cleaning.{cleaned_one, cleaned_idle, swept_before}
use Rattle.psac_reclaim.proofs.part.sweep_one.Goals as goal

pub sweep-requires-clause-walk : goal.sweep-requires-clause-walk
sweep-requires-clause-walk c = subst (λ (u : ReadersView). Member c.args.seen.from.slot (mods_of u.walk)) (sym (ap (λ p. p.knows) c.is_dead.ensures.same)) (c.requires.sets c.args.seen.from.slot c.requires.read.inside)

pub returns-then-is_dead-clause-cleaned : goal.returns-then-is_dead-clause-cleaned
returns-then-is_dead-clause-cleaned c =
    let m = c.args.seen.from.slot in
    let e = ap (λ p. p.knows) c.is_dead.ensures.same in
    let w = c.sweep.new.pass.knows in
    let u = c.is_dead.new.pass.knows in
    subst (λ (v : ReadersView). Cleaned (m ∷ []) v w) e (cleaned_one u w m (subst (λ (v : ReadersView). (l : ℕ) → sum_by (named l) v.links ≤ 1) (sym e) c.requires.once) c.sweep.ensures.swept)

pub returns-else-is_dead-clause-cleaned : goal.returns-else-is_dead-clause-cleaned
returns-else-is_dead-clause-cleaned c =
    let m = c.args.seen.from.slot in
    let v = c.args.pass.now.knows in
    let e = ap (λ p. p.knows) c.is_dead.ensures.same in
    subst (λ (w : ReadersView). Cleaned (m ∷ []) v w) (sym e) (cleaned_idle m v c.requires.begun (swept_before m c.args.seen.link.index v c.requires.read.left (c.is_dead.ensures.other c.if-is_dead.false)))
