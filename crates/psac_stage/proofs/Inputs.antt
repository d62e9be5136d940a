-- The slots that a batch changes are those of inputs.
use Rattle.std.proofs.Common.{◌≡◌, ℕ, suc, ◌+◌, ◌<◌, ◌==◌, Bool, true, false, not, nat_lt, List, [], ◌∷◌, map, length, subst, inl, inr, ⊎_elim, arith}
use Rattle.std.specs.List.{All}
use Rattle.std.proofs.lemmas.Bool.Decides.{nat_tests}
use Rattle.psac_slots.specs.Handles.{Member}
use Rattle.psac_slots.proofs.Pairs.{member_cases, member_map, member_filter}
use Rattle.psac_values.specs.declared.view.ValueView.{ValueView}
use Rattle.psac_inputs.specs.declared.batch.Edit.{Edit}
use Rattle.psac_inputs.specs.Grid.{Grid, IsGrid, cell}
use Rattle.psac_inputs.specs.Batch.{Batch, is_value, netted, IsBatch, GoesInto}
use Rattle.psac_model.specs.Fresh.{World, when}
use Rattle.psac_laws.proofs.Opening.{IsChecked}
use Rattle.psac_plain.specs.Opened.{at_slot, first_output}
use Rattle.psac_plain.proofs.Cells.{slot_below}
use Rattle.psac_trace.specs.Rights.{In}
use Rattle.psac_stage.specs.Places.{base_heap, fixed_slots}
use Rattle.psac_stage.specs.Holding.{HasFixed, HasGrid}
use Rattle.psac_stage.specs.Staging.{cell_slot, changed}
use Rattle.psac_stage.proofs.Readies.{first_ready}

pub all_member : {A : Type 0} (Q : A → Type 0) (xs : List A) → All Q xs → (x : A) → Member x xs → Q x
all_member Q [] h x i = absurd i
all_member Q (y ∷ xs) h x (inl e) = subst Q e (h 0 y (omega arith))
all_member Q (y ∷ xs) h x (inr i) = all_member Q xs (λ k d l. h (suc k) d (omega (arith, l))) x i

when_is : (b : Bool) (x s : ℕ) → Member s (when b x) → x ≡ s
when_is true x s (inl e) = e
when_is true x s (inr i) = absurd i
when_is false x s i = absurd i

below_test : (r n : ℕ) → r < n → nat_lt r n ≡ true
below_test r n h = grind (arith, nat_tests)

module _ (w : World) (g : Grid) (ok : IsGrid g) (checked : IsChecked w) (v : ValueView)
    (fixed : HasFixed (fixed_slots g (length w.main.dests)) v) (grid : HasGrid g (length w.main.dests) v) (b : Batch)
    (sound : IsBatch b) (goes : GoesInto b g) where
  abbrev outs : ℕ
  outs = length w.main.dests

  abbrev IsInput : ℕ → Type 0
  IsInput s = In (base_heap g w.main.dests) (at_slot s) × (s < fixed_slots g outs)

  cell_input : (e : Edit) → Member e b.edits → IsInput (cell_slot g e)
  cell_input e i =
      let p = all_member (λ (x : Edit). (x.row < b.room) × (x.col < b.cols)) b.edits sound.inside e i in
      let row : e.row < g.room = subst (λ n. e.row < n) goes.room p.0 in
      let col : e.col < g.cols = subst (λ n. e.col < n) goes.cols p.1 in
      let low = slot_below g.cols g.room e.row e.col row col in (
        (first_ready w g ok checked v fixed grid).cells e.row e.col (below_test e.row g.room row) (below_test e.col g.cols col),
        omega
            (arith, low),
      )

  pub inputs_in : (s : ℕ) → Member s (changed g outs b) → IsInput s
  inputs_in s i =
      let one = map (cell_slot g) (netted g b.edits) in
      let two = when (not (b.rows == g.rows)) (first_output g + outs) in
      ⊎_elim
      (λ (j : Member s one).
      let e = member_map (cell_slot g) s (netted g b.edits) j in
      subst IsInput e.2 (cell_input e.0 (member_filter (λ (x : Edit). not (is_value x.value (cell x.row x.col g))) e.0 b.edits e.1).0))
      (λ (j : Member s two).
      subst IsInput (when_is (not (b.rows == g.rows)) (first_output g + outs) s j)
      ((first_ready w g ok checked v fixed grid).row_count, omega arith))
      (member_cases s one two i)
