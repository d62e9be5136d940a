-- What a pass has of the grid and of the new record where subtrees were given back.
use Rattle.std.proofs.Common.{◌≡◌, ℕ, pos, ◌+◌, ◌*◌, ◌<◌, true, List, Some, sym, ap, ◌∙◌, subst, inl, inr, arith}
use Rattle.std.specs.Prelude.{option_and_then}
use Rattle.std.proofs.lemmas.Bool.{eq-eqb, eqb-true}
use Rattle.psac_ops.specs.declared.plain.Handle.{Handle}
use Rattle.psac_ops.specs.declared.plain.Plain.{Plain}
use Rattle.psac_ops.specs.declared.plain.Plain.TheVariants.{Int}
use Rattle.psac_ops.specs.Words.{of_words}
use Rattle.psac_slots.specs.Handles.{Member, slot_times}
use Rattle.psac_slots.specs.Claiming.{times}
use Rattle.psac_slots.proofs.Pairs.{member_filter}
use Rattle.psac_slots.proofs.Removed.{member_times, found}
use Rattle.psac_values.specs.declared.view.OwnedView.{OwnedView}
use Rattle.psac_fork.specs.declared.tables.Pass.{Pass}
use Rattle.psac_inputs.specs.Grid.{Grid, IsGrid}
use Rattle.psac_model.specs.declared.ends.Caps.{Caps}
use Rattle.psac_plain.specs.Opened.{first_output}
use Rattle.psac_record.specs.Kept.{Kept, made_of}
use Rattle.psac_reclaim.specs.Parts.{nodes_of, in_all, Outside, is_outside}
use Rattle.psac_reclaim.specs.Gave.{is_other}
use Rattle.psac_reclaim.proofs.Owing.{values_stand, values_age, nodes_age}
use Rattle.psac_stage.specs.Places.{fixed_slots}
use Rattle.psac_stage.specs.Holding.{words_in, all_known, value_in, entries}
use Rattle.psac_stage.specs.Resting.{HasAll, IsRested}
use Rattle.psac_stage.specs.Reclaiming.{Owes, GaveBack, IsSlotOf, GridStands, ModsStand}
use Rattle.psac_stage.proofs.Clears.{words_filter, entries_filter}
use Rattle.psac_stage.proofs.Storing.{inside}

outside_is : (gone : List Handle) (s : ℕ) → Outside gone s → is_outside gone s ≡ true
outside_is gone s n = eq-eqb (slot_times s gone) 0 (none (λ p. let q = found s gone p in n q.0 q.1 q.2))
  where
    none : (0 < slot_times s gone → ⊥) → slot_times s gone ≡ 0
    none f = omega (arith, f)

is_out : (gone : List Handle) (s : ℕ) → is_outside gone s ≡ true → Outside gone s
is_out gone s t h i e =
    let z = eqb-true (slot_times s gone) 0 t in
    let a = member_times h gone i in
    let b = ap (λ x. slot_times x gone) e in
    absurd (omega (arith, z, a, b))

module _ (new : Kept) (ks : List Kept) (z w : Pass) (rest : IsRested z) (o : Owes new ks z) (b : GaveBack new ks z w) where
  abbrev gone : List Handle
  gone = in_all made_of ks

  stays : (s : ℕ) → Outside gone s → (x : OwnedView) → x.of.slot ≡ s → is_other gone x ≡ true
  stays s n x e = subst (λ y. is_outside gone y ≡ true) (sym e) (outside_is gone s n)

  words_stay : (s : ℕ) → Outside gone s → words_in s w.values.knows.mine ≡ words_in s z.values.knows.mine
  words_stay s n = ap (words_in s) b.values.mine ∙ words_filter (is_other gone) s z.values.knows.mine (stays s n)

  entries_stay : (s : ℕ) → Outside gone s → entries s w.values.knows.mine ≡ entries s z.values.knows.mine
  entries_stay s n = ap (entries s) b.values.mine ∙ entries_filter (is_other gone) s z.values.knows.mine (stays s n)

  away : ((m : Handle) → Member m (made_of new) → Outside gone m.slot) × ((s : ℕ) → s < z.values.knows.fixed → Outside gone s)
  away = values_stand (made_of new) gone z.values.knows o.values rest.mods.whole

  pub had : (x : OwnedView) → Member x w.values.knows.mine → Member x z.values.knows.mine × Outside gone x.of.slot
  had x i =
      let q = member_filter (is_other gone) x z.values.knows.mine (subst (Member x) b.values.mine i) in
      (q.0, is_out gone x.of.slot q.1)

  value_stays : (s : ℕ) (x : Plain) → Outside gone s → value_in s z.values.knows.mine ≡ Some x → value_in s w.values.knows.mine ≡ Some x
  value_stays s x n h = ap (λ y. option_and_then of_words (option_and_then all_known y)) (words_stay s n) ∙ h

  rested : IsRested w
  rested =
      record {
        mods = record { drawn = b.values.begun.1; over = b.values.begun.2; counter = b.values.begun.0; whole = b.values.whole };
        links = record { drawn = b.readers.begun.1; over = b.readers.begun.2; counter = b.readers.begun.0; whole = b.readers.whole };
        nodes = record { drawn = b.marks.begun.1; over = b.marks.begun.2; counter = b.marks.begun.0; whole = b.marks.whole };
      }

  module _ (g : Grid) (outs : ℕ) (caps : Caps) (age : ℕ) (ok : IsGrid g) (all : HasAll g outs caps age z) where
    low : (s : ℕ) → s < fixed_slots g outs → Outside gone s
    low s l = away.1 s (subst (λ n. s < n) (sym all.fixed.fixed_is) l)

    pub has_left : HasAll g outs caps (age + 1) w
    has_left =
        let mods = values_age (made_of new) gone z.values.knows w.values.knows age o.values b.values all.young_mods.free all.young_mods.out in
        let nodes = nodes_age (nodes_of new) (in_all nodes_of ks) z.marks.knows w.marks.knows age o.marks b.marks all.young_nodes.free all.young_nodes.out in
        record {
          mods = record { branch = b.values.branch ∙ all.mods.branch; count_is = b.values.count ∙ all.mods.count_is };
          links = record { branch = b.readers.branch ∙ all.links.branch; count_is = b.readers.count ∙ all.links.count_is };
          nodes = record { branch = b.marks.branch ∙ all.nodes.branch; count_is = b.marks.count ∙ all.nodes.count_is };
          young_mods = record { free = mods.0; out = λ h i. let y = mods.1 h i in omega (arith, y) };
          young_nodes = record { free = nodes.0; out = λ h i. let y = nodes.1 h i in omega (arith, y) };
          fixed = record {
            fixed_is = b.values.fixed ∙ all.fixed.fixed_is;
            once = λ s l. entries_stay s (low s l) ∙ all.fixed.once s l;
            first = λ x i l. all.fixed.first x (had x i).0 l;
            alone = b.values.known ∙ all.fixed.alone;
          };
          grid = record {
            cells = λ r c x h. value_stays (r * g.cols + c) x (low (r * g.cols + c) (inside g ok outs r c x h)) (all.grid.cells r c x h);
            row_count = value_stays (first_output g + outs) (Int (pos g.rows)) (low (first_output g + outs) (omega arith)) all.grid.row_count;
          };
          sets = record {
            mods_is = b.readers.mods ∙ all.sets.mods_is;
            all = λ m l. let e = ap (times m) b.readers.sets in let t = all.sets.all m l in omega (arith, e, t);
            alone = b.readers.shared ∙ all.sets.alone;
          };
          alone = b.marks.shared ∙ all.alone;
        }

pub grid_stands : GridStands
grid_stands g outs caps age new ks z w ok all rest o b = (has_left new ks z w rest o b g outs caps age ok all, rested new ks z w rest o b)

pub mods_stand : ModsStand
mods_stand new ks z w rest o b = record {
  words = λ s i. words_stay new ks z w rest o b s (out s i);
  once = λ s i. entries_stay new ks z w rest o b s (out s i);
  only = had new ks z w rest o b;
}
  where
    out : (s : ℕ) → IsSlotOf z.values.knows.fixed new s → Outside (in_all made_of ks) s
    out s (inl l) = (away new ks z w rest o b).1 s l
    out s (inr q) = subst (Outside (in_all made_of ks)) q.2 ((away new ks z w rest o b).0 q.0 q.1)
