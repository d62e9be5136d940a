use Rattle.std.proofs.Common.{◌≡◌, ℕ, suc, ◌+◌, ◌∷◌, ◌++◌, [], List, take, get_or, sym, subst, ap, ◌∙◌, arith}
use Rattle.psac_ops.specs.declared.plain.Plain.TheVariants.{Nil}
use Rattle.psac_slots.specs.Handles.{Member}
use Rattle.psac_record.specs.declared.parts.Seen.{Seen}
use Rattle.psac_reclaim.specs.Gave.{Cleaned, slots_of}
use Rattle.psac_reclaim.proofs.Cleaning.{cleaned_then, left_on}
use Rattle.psac_reclaim.proofs.Taking.{get_or_in, slots_more}
use Rattle.psac_reclaim.proofs.part.sweep_all.Goals as goal

abbrev none : Seen
none = record { from = record { slot = 0; generation = 0 }; link = record { index = 0 }; value = Nil }

pub sweep_one-requires-clause-once : goal.sweep_one-requires-clause-once
sweep_one-requires-clause-once c = λ l. let a = c.loop-seen.invariant.1.once l in let b = c.requires.once l in omega (arith, a, b)

pub sweep_one-requires-clause-sets : goal.sweep_one-requires-clause-sets
sweep_one-requires-clause-sets c = λ m l.
    let s = c.loop-seen.invariant.1.same in
    subst (λ (z : List ℕ). Member m z) (sym s.sets_are) (c.requires.sets m (let e = s.mods in omega (arith, l, e)))

pub sweep_one-requires-clause-read : goal.sweep_one-requires-clause-read
sweep_one-requires-clause-read c =
    let xs = c.args.reads.now in
    let i = c.loop-seen.seen-index in
    let r = c.requires.reads (get_or xs i none) (get_or_in xs i none c.loop-seen-test.true) in
    let k = c.loop-seen.invariant.1 in
    let m = k.same.mods in
    let n = k.same.count in
    let x = r.inside in
    let y = r.low in
    record {
      inside = omega (arith, m, x);
      low = omega (arith, n, y);
      left = left_on (slots_of (take i xs)) (get_or xs i none).from.slot (get_or xs i none).link.index c.args.pass.now.knows c.loop-seen.pass.knows k r.left;
    }

pub loop-seen-preserved : goal.loop-seen-preserved
loop-seen-preserved c =
    let i = c.loop-seen.seen-index in
    let xs = c.args.reads.now in
    let v = c.args.pass.now.knows in
    let u = c.loop-seen.pass.knows in
    let w = c.sweep_one.new.pass.knows in
    let inv = c.loop-seen.invariant in
    let one : suc i ≡ i + 1 = omega arith in
    let e : slots_of (take i xs) ++ (get_or xs i none).from.slot ∷ [] ≡ slots_of (take (i + 1) xs) = sym (slots_more xs i none c.loop-seen-test.true) ∙ ap (λ (k : ℕ). slots_of (take k xs)) one in
    (c.sweep_one.ensures.table ∙ inv.0, subst (λ (z : List ℕ). Cleaned z v w) e (cleaned_then (slots_of (take i xs)) ((get_or xs i none).from.slot ∷ []) v u w inv.1 c.sweep_one.ensures.cleaned))
