-- Where the record of main's body stands once the grid has changed.
use Rattle.std.proofs.Common.{◌≡◌, ℕ, ◌+◌, ◌*◌, ◌≤◌, ◌<◌, true, List, [], map, length, refl, ap, sym, ◌∙◌, subst, arith}
use Rattle.std.proofs.lemmas.Option.{slice_get_within}
use Rattle.psac_ops.specs.declared.plain.Handle.{Handle}
use Rattle.psac_ops.specs.Named.{same_handle}
use Rattle.psac_values.specs.declared.view.ValueView.{ValueView}
use Rattle.psac_inputs.specs.Grid.{Grid, IsGrid}
use Rattle.psac_model.specs.Fresh.{World, grid_heap, levels}
use Rattle.psac_model.specs.Expression.{Setting}
use Rattle.psac_model.specs.declared.ends.End.TheVariants.{Done}
use Rattle.psac_model.specs.Series.{has}
use Rattle.psac_laws.specs.Standing.{Standing, series_of, params}
use Rattle.psac_laws.proofs.Rules.{Leaves, leaves}
use Rattle.psac_laws.proofs.Opening.{IsChecked}
use Rattle.psac_plain.specs.Slots.{cell_place}
use Rattle.psac_plain.specs.Opened.{at_slot, first_output, output_env}
use Rattle.psac_plain.proofs.Cells.{slot_below}
use Rattle.psac_traced.specs.Rec.{Rec}
use Rattle.psac_traced.specs.Traced.{traced}
use Rattle.psac_traced.specs.Places.{Makes}
use Rattle.psac_traced.specs.Bodies.{IsCode}
use Rattle.psac_traced.specs.Bodies as code
use Rattle.psac_trace.specs.Rights.{In, Target, Ready}
use Rattle.psac_trace.proofs.Heaps.{not_in}
use Rattle.psac_trace.proofs.Results.{ref_is}
use Rattle.psac_repair.specs.Scope.{Scope}
use Rattle.psac_repair.specs.Mends.{Needs}
use Rattle.psac_repair.specs.Stood.{Stood}
use Rattle.psac_repair.proofs.Steps.{scope_of}
use Rattle.psac_stage.specs.Places.{base_heap, place_of, fixed_slots}
use Rattle.psac_stage.specs.Holding.{HasFixed, HasGrid}
use Rattle.psac_stage.specs.Recorded.{setting_at, places_at, LeftBy}
use Rattle.psac_stage.proofs.Entries.{all_inputs, held_from, cell_inside}
use Rattle.psac_stage.proofs.Readies.{first_ready, outputs_stand}

-- the inputs stand in fixed slots
pub base_low : (g : Grid) → IsGrid g → (ds : List ℕ) (m : Handle) → In (base_heap g ds) m → m.slot < fixed_slots g (length ds)
base_low g ok ds m i =
    held_from (place_of g (length ds)) (λ n x. n.slot < fixed_slots g (length ds)) (grid_heap g)
    (all_inputs (λ n y. (place_of g (length ds) n).slot < fixed_slots g (length ds)) g (omega arith) (λ r c x h.
    let p = cell_inside g ok r c x h in
    let low = slot_below g.cols g.room r c p.0 p.1 in
    omega (arith, low)))
    m i.0 i.1

-- destinations of main are outputs
target_low : (g : Grid) (w : World) (st : Standing) → st ≡ params w.main → (left : List ℕ) (m : Handle)
    → Target st left (places_at w g) m → m.slot < fixed_slots g (length w.main.dests)
target_low g w st is left m t =
    let s = outputs_stand (first_output g) w.main.dests [] t.0 (subst (λ (z : Standing). has t.0 z.unwritten ≡ true) is t.1) in
    let e : at_slot (first_output g + s.0) ≡ m = ref_is (sym s.1 ∙ t.3) in
    let low = slice_get_within w.main.dests s.0 t.0 s.2 in
    let f = ap (λ (z : Handle). z.slot) e in
    omega (arith, low, f)

module _ (w : World) (g h : Grid) (opened : h.opened ≡ g.opened) (room : h.room ≡ g.room) (cols : h.cols ≡ g.cols) where
  pub first_same : first_output h ≡ first_output g
  first_same = ap (λ n. n * h.cols) room ∙ ap (λ n. g.room * n) cols

  -- main reads by the same numbers
  setting_same : setting_at w h ≡ setting_at w g
  setting_same =
      ap (λ z. let s : Setting Handle = record {
        opened = z;
        room = h.room;
        cols = h.cols;
        texts = w.texts;
        cell = cell_place h.cols;
        row_count = at_slot (h.room * h.cols + length w.main.dests);
        same = same_handle;
      } in s) opened
      ∙ ap (λ z. let s : Setting Handle = record {
        opened = g.opened;
        room = z;
        cols = h.cols;
        texts = w.texts;
        cell = cell_place
            h.cols;
        row_count = at_slot (z * h.cols + length w.main.dests);
        same = same_handle;
      } in s) room
      ∙ ap (λ z. let s : Setting Handle = record {
        opened = g.opened;
        room = g.room;
        cols = z;
        texts = w.texts;
        cell = cell_place z;
        row_count = at_slot (g.room * z + length w.main.dests);
        same = same_handle;
      } in s) cols

  places_same : places_at w h ≡ places_at w g
  places_same = ap (λ n. output_env n w.main.dests []) first_same

  module _ (okg : IsGrid g) (okh : IsGrid h) (checked : IsChecked w) (v u : ValueView)
      (fixed : HasFixed (fixed_slots g (length w.main.dests)) v) (grid : HasGrid g (length w.main.dests) v)
      (fixed_now : HasFixed (fixed_slots h (length w.main.dests)) u) (grid_now : HasGrid h (length w.main.dests) u) where
    abbrev ds : List ℕ
    ds = w.main.dests

    abbrev pub body_left : Leaves (map series_of w.main.body) (params w.main) []
    body_left = leaves (map series_of w.main.body) (params w.main) [] checked.start.body

    abbrev left : List ℕ
    left = body_left.end.unwritten

    pub ready_before : Ready (setting_at w g) (params w.main) left (places_at w g) v (base_heap g ds)
    ready_before = subst (λ z. Ready (setting_at w g) (params w.main) z (places_at w g) v (base_heap g ds)) (sym body_left.unwritten)
        (first_ready w g okg checked v fixed grid)

    ready_now : Ready (setting_at w h) (params w.main) left (places_at w h) u (base_heap h ds)
    ready_now = subst (λ z. Ready (setting_at w h) (params w.main) z (places_at w h) u (base_heap h ds)) (sym body_left.unwritten)
        (first_ready w h okh checked u fixed_now grid_now)

    scope_before : Scope (setting_at w h) (params w.main) left (places_at w h) (base_heap g ds)
    scope_before =
        subst (λ s. Scope s (params w.main) left (places_at w h) (base_heap g ds)) (sym setting_same)
        (subst (λ e. Scope (setting_at w g) (params w.main) left e (base_heap g ds)) (sym places_same)
        (scope_of (setting_at w g) (params w.main) left (places_at w g) v (base_heap g ds) ready_before))

    -- a record of main's body whose modifiables lie behind the fixed slots
    module _ (r : Rec Handle) (left_it : LeftBy w g r) (high : (m : Handle) → Makes r m → fixed_slots g (length ds) ≤ m.slot) where
      ran : traced (setting_at w h) w.program.funcs levels w.main.body (places_at w h) (base_heap g ds) r Done
      ran =
          subst (λ s. traced s w.program.funcs levels w.main.body (places_at w h) (base_heap g ds) r Done) (sym setting_same)
          (subst (λ e. traced (setting_at w g) w.program.funcs levels w.main.body e (base_heap g ds) r Done) (sym places_same) left_it)

      fixed_is : fixed_slots h (length ds) ≡ fixed_slots g (length ds)
      fixed_is = ap (λ n. n + (length ds + 1)) first_same

      pub stood : Stood (setting_at w h) w.program.funcs (IsCode w.program.funcs w.main.body) u r levels w.main.body (places_at w h)
          (base_heap g ds) (base_heap h ds) (params w.main) body_left.end
      stood =
          record {
            so = code.itself;
            meets = body_left.meets;
            left_it = ran;
            before = scope_before;
            ready = ready_now;
            unmade = λ m i. not_in (base_heap g ds) m (λ j. let low = base_low g okg ds m j in let b = high m i in omega (arith, low, b));
            unused = λ m i. not_in (base_heap h ds) m (λ j. let low = base_low h okh ds m j in let b = high m i in omega
                (arith, low, b, fixed_is));
            beside = λ m i t. let low = target_low h w (params w.main) refl left m t in let b = high m i in omega (arith, low, b, fixed_is);
          }

      pub stands : Needs (setting_at w h) w.program.funcs (IsCode w.program.funcs w.main.body) r u
      stands = (levels, w.main.body, places_at w h, base_heap g ds, base_heap h ds, params w.main, body_left.end, stood)
