-- A pass that has the inputs, and may write the outputs, is ready for main's body.
use Rattle.std.proofs.Common.{◌≡◌, ℕ, suc, pos, ◌+◌, ◌*◌, ◌<◌, ◌==◌, true, false, List, [], ◌∷◌, length, Option, Some, None, slice_get, refl, ap, sym, ◌∙◌, subst, arith, inl, inr, add-zero}
use Rattle.std.proofs.lemmas.Bool.Decides.{nat_tests}
use Rattle.std.proofs.lemmas.Option.{slice_get_within}
use Rattle.psac_ops.specs.declared.plain.Handle.{Handle}
use Rattle.psac_ops.specs.declared.plain.Plain.{Plain}
use Rattle.psac_ops.specs.declared.plain.Plain.TheVariants as plain
use Rattle.psac_ops.specs.Value.{Value, ref}
use Rattle.psac_ops.specs.Named.{cell_value, value_of, renamed}
use Rattle.psac_slots.specs.Handles.{Member}
use Rattle.psac_values.specs.declared.view.OwnedView.{OwnedView}
use Rattle.psac_values.specs.declared.view.KnownView.{KnownView}
use Rattle.psac_values.specs.declared.view.ValueView.{ValueView}
use Rattle.psac_values.specs.Knowing.{Has}
use Rattle.psac_inputs.specs.Grid.{Grid, IsGrid, IsCellValue}
use Rattle.psac_model.specs.Names.{Name, Input, Rows, Env, bind, bound}
use Rattle.psac_model.specs.Fresh.{World, grid_heap}
use Rattle.psac_model.specs.Series.{has}
use Rattle.psac_naming.specs.Alike.{Alike, Both}
use Rattle.psac_naming.specs.Naming.{IsNamed}
use Rattle.psac_laws.specs.Standing.{params}
use Rattle.psac_laws.proofs.Heaps.{IsHeld}
use Rattle.psac_laws.proofs.Places.{some_is, not_both, nat_is, test_or}
use Rattle.psac_laws.proofs.Rules.{or_is, or_not}
use Rattle.psac_laws.proofs.Opening.{IsChecked, opening_safe}
use Rattle.psac_plain.specs.Opened.{at_slot, first_output, output_env, setting_over}
use Rattle.psac_plain.proofs.Beginning as begin
use Rattle.psac_plain.proofs.Cells.{slot_below}
use Rattle.psac_trace.specs.Rights.{Heap, held as held_in, In, Named, Sees, Ready, Shares, Tidy}
use Rattle.psac_trace.proofs.Bound.{bound_old, bound_new}
use Rattle.psac_trace.proofs.Heaps.{not_in, handle_by}
use Rattle.psac_stage.specs.Places.{base_heap, fixed_slots}
use Rattle.psac_stage.specs.Holding.{HasGrid, HasFixed, IsBare}
use Rattle.psac_stage.proofs.Entries.{AllIn, all_inputs, held_from, cell_inside, cell_plain}
use Rattle.psac_stage.proofs.Holding.{value_sees}
use Rattle.psac_stage.proofs.Members.{entry_of}
use Rattle.psac_stage.proofs.Starts.{start, place, named_place, start_both}

-- a destination is bound to the output of a place where it stands
abbrev pub Stands : ℕ → List ℕ → Env Handle → ℕ → Type 0
Stands k ds env x = (i : ℕ) × (bound x (output_env k ds env) ≡ Some (ref (at_slot (k + i)))) × (slice_get ds i ≡ Some x)

outputs_old : (k : ℕ) (ds : List ℕ) (env : Env Handle) (x : ℕ) → has x ds ≡ false → bound x (output_env k ds env) ≡ bound x env
outputs_old k [] env x h = refl
outputs_old k (d ∷ ds) env x h =
    let b = or_not (d == x) (has x ds) h in
    outputs_old (suc k) ds (bind d (ref (at_slot k)) env) x b.1 ∙ bound_old d x (ref (at_slot k)) env b.0

pub outputs_stand : (k : ℕ) (ds : List ℕ) (env : Env Handle) (x : ℕ) → has x ds ≡ true → Stands k ds env x
outputs_stand k [] env x h = absurd cc
outputs_stand k (d ∷ ds) env x h =
    let env' = bind d (ref (at_slot k)) env in
    elim (test_or (has x ds)) [
      | inl t ↦
          (let r = outputs_stand (suc k) ds env' x t in
          let q : suc k + r.0 ≡ k + suc r.0 = omega arith in
          (suc r.0, r.1 ∙ ap (λ z. Some (ref (at_slot z))) q, r.2))
      | inr t ↦
          elim (or_is (d == x) (has x ds) h) [
            | inl q ↦ (0, outputs_old (suc k) ds env' x t ∙ bound_new d x (ref (at_slot k)) env q ∙ ap (λ z. Some (ref (at_slot z))) (sym (add-zero k)), ap Some (nat_is d x q))
            | inr q ↦ absurd (not_both q t)
          ]
    ]

ref_is : {m n : Handle} → Some (ref m) ≡ Some (ref n) → m ≡ n
ref_is h = cc

some_by : (T : Handle → Name → Type 0) (o : Option (Value Handle)) (y : Value Name) → Both (Alike T) o (Some y) → (x : Value Handle) × (o ≡ Some x)
some_by T None y h = absurd h
some_by T (Some x) y h = (x, refl)

same_slot : (a b : ℕ) → at_slot a ≡ at_slot b → a ≡ b
same_slot a b h = ap (λ (m : Handle). m.slot) h

-- what is so of each input: the pass knows its value, which names nothing, and it stands before or behind the outputs
pub record IsInput (g : Grid) (outs : ℕ) (v : ValueView) (base : Heap) (m : Handle) (x : Value Handle) : Type 0 where
  pub sees : Sees v m x
  pub plain : Named base x
  pub apart : (i : ℕ) → i < outs → m ≡ at_slot (first_output g + i) → ⊥

plain_cell : (f : Name → Handle) (base : Heap) (x : Plain) → IsCellValue x → (renamed f (cell_value x) ≡ value_of x) × Named base (value_of x)
plain_cell f base plain.Nil h = (refl, tt)
plain_cell f base (plain.Bool b) h = (refl, tt)
plain_cell f base (plain.Int i) h = (refl, tt)
plain_cell f base (plain.Text t) h = (refl, tt)
plain_cell f base (plain.Ref a) h = absurd cc
plain_cell f base (plain.Pair a b) h = absurd cc

module _ (w : World) (g : Grid) (ok : IsGrid g) (checked : IsChecked w) (v : ValueView) (fixed : HasFixed (fixed_slots g (length w.main.dests)) v) (grid : HasGrid g (length w.main.dests) v) where
  abbrev ds : List ℕ
  ds = w.main.dests

  abbrev outs : ℕ
  outs = length ds

  abbrev base : Heap
  base = base_heap g ds

  abbrev env : Env Handle
  env = output_env (first_output g) ds []

  -- a fixed slot's entry is of its one handle
  the_fixed : (s : ℕ) → s < fixed_slots g outs → (o : OwnedView) → Member o v.mine → o.of.slot ≡ s → o.of ≡ at_slot s
  the_fixed s low o i e = handle_by o.of (at_slot s) e (fixed.first o i (omega (arith, e, low)))

  inputs : AllIn (λ n y. IsInput g outs v base (place g ds ok n) (renamed (place g ds ok) y)) (grid_heap g)
  inputs =
      all_inputs (λ n y. IsInput g outs v base (place g ds ok n) (renamed (place g ds ok) y)) g
      (record {
        sees = value_sees v (at_slot (first_output g + outs)) (plain.Int (pos g.rows)) (the_fixed (first_output g + outs) (omega arith)) grid.row_count;
        plain = tt;
        apart = λ i low e. let q : first_output g + outs ≡ first_output g + i = same_slot (first_output g + outs) (first_output g + i) e in omega (arith, q, low);
      })
      (λ r c x h.
      let i = cell_inside g ok r c x h in
      let low = slot_below g.cols g.room r c i.0 i.1 in
      let fine = cell_plain g ok r c x h in
      let p = plain_cell (place g ds ok) base x fine in
      record {
        sees = subst (Sees v (at_slot (r * g.cols + c))) (sym p.0) (value_sees v (at_slot (r * g.cols + c)) x (the_fixed (r * g.cols + c) (omega (arith, low))) (grid.cells r c x h));
        plain = subst (Named base) (sym p.0) p.1;
        apart = λ k below e. let q : r * g.cols + c ≡ first_output g + k = same_slot (r * g.cols + c) (first_output g + k) e in omega (arith, q, low);
      })

  of_input : (m : Handle) (x : Value Handle) → held_in base m ≡ Some x → IsInput g outs v base m x
  of_input m x e = held_from (place g ds ok) (IsInput g outs v base) (grid_heap g) inputs m x e

  in_base : (n : Name) → begin.IsOpen g ds ok n → IsHeld (grid_heap g) n → In base (place g ds ok n)
  in_base n i h =
      let b = start_both g ds ok (place g ds ok n) n (named_place g ds ok n i) in
      some_by (IsNamed (start g ds ok)) (held_in base (place g ds ok n)) h.0 (subst (Both (Alike (IsNamed (start g ds ok))) (held_in base (place g ds ok n))) h.1 b)

  not_output : (i : ℕ) → i < outs → held_in base (at_slot (first_output g + i)) ≡ None
  not_output i low = not_in base (at_slot (first_output g + i)) (λ h. (of_input (at_slot (first_output g + i)) h.0 h.1).apart i low refl)

  pub has_output : (i : ℕ) → i < outs → Has v (at_slot (first_output g + i))
  has_output i low =
      let below : first_output g + i < fixed_slots g outs = omega (arith, low) in
      let e = entry_of (first_output g + i) v.mine (fixed.once (first_output g + i) below) in
      (e.0, e.1, the_fixed (first_output g + i) below e.0 e.1 e.2)

  stands : (x : ℕ) → has x ds ≡ true → Stands (first_output g) ds [] x
  stands x i = outputs_stand (first_output g) ds [] x i

  pub first_ready : Ready (setting_over g w.texts outs) (params w.main) [] env v base
  first_ready =
      let safe = opening_safe w g ok.whole ok.even checked in
      record {
        same = refl;
        closed = λ m x e. (of_input m x e).plain;
        cells = λ r c p q.
            let a : r < g.room = grind (arith, nat_tests) in
            let b : c < g.cols = grind (arith, nat_tests) in
            in_base (Input r c) (a, b) (safe.cells r c p q);
        row_count = in_base Rows tt safe.row_count;
        sees = λ m x e. (of_input m x e).sees;
        knows = λ x i. absurd (let f : has x [] ≡ true = subst (λ z. has x z ≡ true) checked.bare i in cc);
        opens = λ x i l.
            let b = stands x i in
            let low = slice_get_within ds b.0 x b.2 in
            (at_slot (first_output g + b.0), b.1, not_output b.0 low, has_output b.0 low);
        apart = λ x y m i k j l e f.
            let a = stands x i in
            let b = stands y j in
            let q : first_output g + a.0 ≡ first_output g + b.0 = same_slot (first_output g + a.0) (first_output g + b.0) (sym (ref_is (sym e ∙ a.1)) ∙ ref_is (sym f ∙ b.1)) in
            let p : a.0 ≡ b.0 = omega (arith, q) in
            some_is (sym a.2 ∙ ap (slice_get ds) p ∙ b.2);
      }

  pub first_tidy : IsBare (fixed_slots g outs) v → Tidy v
  first_tidy bare =
      record {
        single = λ m n h k e.
            let a = the_fixed h.0.of.slot (bare h.0 h.1) h.0 h.1 refl in
            let b = the_fixed k.0.of.slot (bare k.0 k.1) k.0 k.1 refl in
            let q : h.0.of.slot ≡ k.0.of.slot = ap (λ (z : Handle). z.slot) h.2 ∙ e ∙ ap (λ (z : Handle). z.slot) (sym k.2) in
            sym h.2 ∙ a ∙ ap at_slot q ∙ sym b ∙ k.2;
        apart = λ m n h k. absurd (none_shared n k);
        one = λ m n h k e. absurd (none_shared m h);
        labels = λ e i. absurd (no_known e i);
      }
    where
      no_known : (e : KnownView) → Member e v.known → ⊥
      no_known e i = subst (Member e) fixed.alone i

      none_shared : (m : Handle) → Shares v m → ⊥
      none_shared m h = no_known h.0 h.1
