-- A record of main's body over the inputs shows the fresh run.
use Rattle.std.proofs.Common.{◌≡◌, ℕ, ◌≤◌, List, [], ◌∷◌, ◌++◌, length, Some, pos, refl, ap, sym, ◌∙◌, arith, length-append}
use Rattle.psac_ops.specs.declared.plain.Handle.{Handle}
use Rattle.psac_ops.specs.Value.{int}
use Rattle.psac_ops.specs.Named.{same_handle}
use Rattle.psac_inputs.specs.Grid.{Grid, IsGrid}
use Rattle.psac_model.specs.declared.ends.End.{End}
use Rattle.psac_model.specs.declared.ends.End.TheVariants.{Done}
use Rattle.psac_model.specs.Names.{Name, Heap}
use Rattle.psac_model.specs.Tree.{Tree, size_of}
use Rattle.psac_model.specs.Run.{Ran}
use Rattle.psac_model.specs.Fresh.{World, fresh, setting, levels}
use Rattle.psac_naming.specs.Naming.{Naming, IsNamed, IsOneToOne}
use Rattle.psac_plain.specs.Opened.{cell_places, output_places, opened_places, first_output, output_env, setting_over}
use Rattle.psac_plain.proofs.Beginning.{begin_linked, begin_unused, begin_settings, begin_envs, cells_count, outs_count}
use Rattle.psac_plain.proofs.Linked.{handles_told}
use Rattle.psac_traced.specs.Rec.{Rec, tree_of}
use Rattle.psac_traced.specs.Traced.{traced}
use Rattle.psac_traced.specs.Places.{names, name_in, Makes, IsApart, HasName}
use Rattle.psac_traced.specs.Serial.{Serial}
use Rattle.psac_traced.proofs.Alike.{tree_image, reads_image}
use Rattle.psac_traced.proofs.Has.{name_in_is}
use Rattle.psac_traced.proofs.Serial.{serial_size}
use Rattle.psac_traced.proofs.Fresh.{fresh_traced}
use Rattle.psac_stage.specs.Places.{fixed_slots, base_heap, name_of, heap_of, run_of}
use Rattle.psac_stage.proofs.Starts.{start, one, opening_is, start_heaps}

ran_is : (r : Ran Name Heap) (t : Tree Name) (h : Heap) (e : End) → t ≡ r.tree → h ≡ r.heap → e ≡ r.end → record { tree = t; heap = h; end = e } ≡ r
ran_is r t h e p q s =
    ap (λ z. let x : Ran Name Heap = record { tree = z; heap = h; end = e } in x) p ∙ ap (λ z. let x : Ran Name Heap = record { tree = r.tree; heap = z; end = e } in x) q
    ∙ ap (λ z. let x : Ran Name Heap = record { tree = r.tree; heap = r.heap; end = z } in x) s

module _ (w : World) (g : Grid) (ok : IsGrid g) where
  abbrev ds : List ℕ
  ds = w.main.dests

  abbrev pub all_named : Rec Handle → Naming Handle
  all_named r = start g ds ok ++ names [] r

  -- a record of main's body
  abbrev pub IsRecord : Rec Handle → End → Type 0
  IsRecord r end =
      traced (setting_over g w.texts (length ds)) w.program.funcs levels w.main.body (output_env (first_output g) ds []) (base_heap g ds) r end

  places_count : length (opened_places g ds) ≡ fixed_slots g (length ds)
  places_count =
      omega (arith, cells_count g ds ok, length-append (cell_places g.cells) (output_places ds ++ Some (int (pos g.rows)) ∷ []), length-append (output_places ds) (Some (int (pos g.rows)) ∷ []), outs_count g ds ok)

  -- what is an input or an output has no slot behind these
  pub named_low : (m : Handle) → HasName (start g ds ok) m → fixed_slots g (length ds) ≤ m.slot → ⊥
  named_low m h far = let below = ((begin_linked g ds ok).within m h.0 h.1).1 in omega (arith, below, far, places_count)

  pub behind_names : (r : Rec Handle) → ((m : Handle) → Makes r m → fixed_slots g (length ds) ≤ m.slot) → (m : Handle) → HasName (start g ds ok) m → Makes r m → ⊥
  behind_names r behind m h k = named_low m h (behind m k)

  pub shows : (r : Rec Handle) (end : End) → IsApart r → ((m : Handle) → Makes r m → fixed_slots g (length ds) ≤ m.slot) → IsRecord r end → Serial (all_named r) r (base_heap g ds) end (fresh w g)
  shows r end apart behind t =
      fresh_traced w g (setting_over g w.texts (length ds)) handles_told (start g ds ok) (one g ds ok) (begin_settings g ds ok w.texts) (begin_unused g ds ok) (output_env (first_output g) ds []) (begin_envs g ds ok) (base_heap g ds) (start_heaps g ds ok) r end apart
      (behind_names r behind)
      t

  name_is : (r : Rec Handle) → IsOneToOne (all_named r) → (m : Handle) (n : Name) → IsNamed (all_named r) m n → name_of g ds r m ≡ n
  name_is r single m n i =
      ap (λ ns. name_in same_handle (ns ++ names [] r) m) (opening_is g ds ok) ∙ name_in_is same_handle handles_told (all_named r) single m n i

  -- a done record shows the fresh run, by the names that it gives
  pub run_is : (r : Rec Handle) → Serial (all_named r) r (base_heap g ds) Done (fresh w g) → run_of g ds r ≡ fresh w g
  run_is r s =
      ran_is (fresh w g) _ _ _
      (tree_image (IsNamed (all_named r)) (name_of g ds r) (name_is r s.one) r (fresh w g).tree s.trees)
      (reads_image (IsNamed (all_named r)) (name_of g ds r) (name_is r s.one) (heap_of g ds r) (fresh w g).heap s.heaps)
      (sym s.ends)

  pub size_is : (r : Rec Handle) (end : End) → Serial (all_named r) r (base_heap g ds) end (fresh w g) → size_of (tree_of r) ≡ size_of (fresh w g).tree
  size_is r end s = serial_size (setting_over g w.texts (length ds)) (setting w.texts g) handles_told refl w.program.funcs (all_named r) r (base_heap g ds) end (fresh w g) s
