-- What a record of main's body reads and writes: fixed slots, and what it made.
use Rattle.std.proofs.Common.{◌≡◌, ℕ, suc, ◌+◌, ◌<◌, List, [], ◌∷◌, length, refl, subst, arith, add-zero}
use Rattle.std.proofs.lemmas.Bool.Decides.{nat_tests}
use Rattle.psac_ops.specs.declared.plain.Handle.{Handle}
use Rattle.psac_ops.specs.declared.plain.Plain.{Plain}
use Rattle.psac_ops.specs.declared.plain.Plain.TheVariants as plain
use Rattle.psac_ops.specs.Value.{ref}
use Rattle.psac_ops.specs.Named.{cell_value, renamed}
use Rattle.psac_inputs.specs.Grid.{Grid, IsGrid}
use Rattle.psac_model.specs.Names.{Name, Env, Heap, bind}
use Rattle.psac_model.specs.Fresh.{World, grid_heap, levels}
use Rattle.psac_naming.specs.Alike.{Alike, AlikeRead, Each, Envs, Settings}
use Rattle.psac_naming.proofs.Actions.{bind_alike}
use Rattle.psac_plain.specs.Opened.{at_slot, first_output, output_env}
use Rattle.psac_plain.proofs.Cells.{slot_below}
use Rattle.psac_traced.specs.Rec.{Rec, writes}
use Rattle.psac_traced.specs.Renamed.{reads_named}
use Rattle.psac_traced.specs.Places.{Makes}
use Rattle.psac_traced.specs.Scoped.{On, Or, ReadsOf, Scoped}
use Rattle.psac_traced.proofs.Scoped.{traced_scoped}
use Rattle.psac_model.specs.declared.ends.End.TheVariants.{Done}
use Rattle.psac_stage.specs.Places.{place_of, fixed_slots, base_heap}
use Rattle.psac_stage.specs.Recorded.{setting_at, places_at, LeftBy}
use Rattle.psac_stage.proofs.Entries.{AllIn, all_inputs, cell_inside}

cell_on : (T : Handle → Handle → Type 0) (f : Name → Handle) (x : Plain) → Alike T (renamed f (cell_value x)) (renamed f (cell_value x))
cell_on T f plain.Nil = tt
cell_on T f (plain.Bool b) = refl
cell_on T f (plain.Int i) = refl
cell_on T f (plain.Text t) = (refl, refl)
cell_on T f (plain.Ref a) = tt
cell_on T f (plain.Pair a b) = tt

module _ (K : Handle → Type 0) where
  each_on : (f : Name → Handle) (heap : Heap) → AllIn (λ n y. K (f n) × Alike (On K) (renamed f y) (renamed f y)) heap
      → Each (AlikeRead (On K)) (reads_named f heap) (reads_named f heap)
  each_on f [] a = tt
  each_on f (p ∷ heap) a = (((a.0.0, refl), a.0.1), each_on f heap a.1)

  outputs_on : (k : ℕ) (ds : List ℕ) (env : Env Handle) → ((i : ℕ) → i < length ds → K (at_slot (k + i))) → Envs (On K) env env
      → Envs (On K) (output_env k ds env) (output_env k ds env)
  outputs_on k [] env f h = h
  outputs_on k (d ∷ ds) env f h =
      let here : K (at_slot k) = subst (λ n. K (at_slot n)) (add-zero k) (f 0 (omega arith)) in
      outputs_on (suc k) ds (bind d (ref (at_slot k)) env) (λ i l. let e : k + suc i ≡ suc k + i = omega arith in subst
      (λ n. K (at_slot n)) e (f (suc i) (omega (arith, l))))
      (bind_alike (On K) d (ref (at_slot k)) (ref (at_slot k)) env env (here, refl) h)

module _ (w : World) (g : Grid) (ok : IsGrid g) where
  abbrev ds : List ℕ
  ds = w.main.dests

  abbrev outs : ℕ
  outs = length ds

  -- of a fixed slot
  abbrev pub Low : Handle → Type 0
  Low m = m.slot < fixed_slots g outs

  settings_low : Settings (On Low) (setting_at w g) (setting_at w g)
  settings_low =
      record {
        opened = refl;
        room = refl;
        cols = refl;
        texts = refl;
        cells = λ r c p q.
            let a : r < g.room = grind (arith, nat_tests) in
            let b : c < g.cols = grind (arith, nat_tests) in
            let low = slot_below g.cols g.room r c a b in
            (omega (arith, low), refl);
        row_count = (omega arith, refl);
      }

  places_low : Envs (On Low) (places_at w g) (places_at w g)
  places_low = outputs_on Low (first_output g) ds [] (λ i l. omega (arith, l)) tt

  inputs_low : ReadsOf Low (base_heap g ds)
  inputs_low =
      each_on Low (place_of g outs) (grid_heap g)
      (all_inputs (λ n y. Low (place_of g outs n) × Alike (On Low) (renamed (place_of g outs) y) (renamed (place_of g outs) y)) g
      (omega arith, refl)
      (λ r c x h.
      let i = cell_inside g ok r c x h in
      let low = slot_below g.cols g.room r c i.0 i.1 in
      (omega (arith, low), cell_on (On Low) (place_of g outs) x)))

  pub scoped_low : (r : Rec Handle) → LeftBy w g r → Scoped Low r × ReadsOf (Or Low (Makes r)) (writes r)
  scoped_low r t =
      traced_scoped (setting_at w g) w.program.funcs Low settings_low levels Low (λ m i. i) w.main.body (places_at w g) (base_heap g ds) r
      Done places_low inputs_low t
