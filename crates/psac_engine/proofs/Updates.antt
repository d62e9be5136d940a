-- A record of main's body over one grid, and a repair of it over another one: what the model says of that commit.
use Rattle.std.proofs.Common.{◌≡◌, ◌≢◌, ◌≤◌, ◌<◌, ℕ, ◌+◌, ◌*◌, List, [], ◌∷◌, ◌++◌, length, AllPairs, Contains, Ok, Some, refl, ap, sym, ◌∙◌, subst, ⊎_elim, arith}
use Rattle.std.specs.List.{All}
use Rattle.psac_ops.specs.declared.plain.Handle.{Handle}
use Rattle.psac_ops.specs.declared.plain.Plain.{Plain}
use Rattle.psac_ops.specs.Named.{same_handle}
use Rattle.psac_inputs.specs.Grid.{Grid, IsGrid}
use Rattle.psac_model.specs.declared.ends.Caps.{Caps}
use Rattle.psac_model.specs.declared.ends.CapKind.{CapKind}
use Rattle.psac_model.specs.declared.ends.End.{End}
use Rattle.psac_model.specs.declared.ends.End.TheVariants.{Done}
use Rattle.psac_model.specs.Names.{Name, Input, Out, Rows, Made, Heap}
use Rattle.psac_model.specs.Expression.{Setting}
use Rattle.psac_model.specs.Tree.{size_of, add_size}
use Rattle.psac_model.specs.Fresh.{World, fresh, outcome, ended, main_of, setting, row_heap, cells_heap, grid_heap}
use Rattle.psac_model.specs.Series.{meets}
use Rattle.psac_model.specs.Work.{anew_work}
use Rattle.psac_naming.specs.Naming.{IsNamed}
use Rattle.psac_plain.specs.Opened.{at_slot, first_output, output_env, setting_over}
use Rattle.psac_plain.proofs.Beginning.{named_by, place_of, out_names, begin_unused, begin_settings, begin_envs}
use Rattle.psac_plain.proofs.Cells.{names_in, even_first, even_rest}
use Rattle.psac_plain.proofs.Linked.{handles_told}
use Rattle.psac_traced.specs.Rec.{Rec, tree_of}
use Rattle.psac_traced.specs.Renamed.{Heaps}
use Rattle.psac_traced.specs.Bodies.{itself}
use Rattle.psac_traced.specs.Serial.{Serial}
use Rattle.psac_traced.specs.Places.{names, Makes, IsApart, HasName}
use Rattle.psac_traced.proofs.Bodies.{code_closed}
use Rattle.psac_traced.proofs.Fresh.{fresh_mended}
use Rattle.psac_traced.specs.Mending.{mended, work_of}
use Rattle.psac_cut.specs.Within.{cap_of, count_of}
use Rattle.psac_cut_repair.specs.Creates.{cut_drew}
use Rattle.psac_cut_repair.specs.Update.{Update, Code, Repairs, CutsShort, IsNew, IsInCaps}
use Rattle.psac_cut_repair.specs.Modes.{work_from}
use Rattle.psac_cut_repair.proofs.Modes.{full_runs_anew, done_repair_fits, ended_repair_fits}
use Rattle.psac_stage.specs.Places.{fixed_slots, base_heap, run_of}
use Rattle.psac_stage.proofs.Starts.{start, one, start_heaps}
use Rattle.psac_engine.proofs.Mains.{ground_is}
use Rattle.psac_engine.proofs.Shows.{IsRecord, all_named, behind_names, named_low, run_is, size_is}

-- the names of the inputs are those of each grid of the same shape

names_after : (r k : ℕ) (xs ys : List Plain) (a b : Heap) → length xs ≡ length ys → names_in a ≡ names_in b → names_in (row_heap r k xs ++ a) ≡ names_in (row_heap r k ys ++ b)
names_after r k [] [] a b e same = same
names_after r k [] (y ∷ ys) a b e same = absurd (omega (arith, e))
names_after r k (x ∷ xs) [] a b e same = absurd (omega (arith, e))
names_after r k (x ∷ xs) (y ∷ ys) a b e same = ap (λ z. Input r k ∷ z) (names_after r (k + 1) xs ys a b (omega (arith, e)) same)

names_cells : (cols r : ℕ) (xs ys : List (List Plain)) → All (λ row. length row ≡ cols) xs → All (λ row. length row ≡ cols) ys → length xs ≡ length ys → names_in (cells_heap r xs) ≡ names_in (cells_heap r ys)
names_cells cols r [] [] a b e = refl
names_cells cols r [] (y ∷ ys) a b e = absurd (omega (arith, e))
names_cells cols r (x ∷ xs) [] a b e = absurd (omega (arith, e))
names_cells cols r (x ∷ xs) (y ∷ ys) a b e =
    names_after r 0 x y (cells_heap (r + 1) xs) (cells_heap (r + 1) ys) (even_first cols x xs a ∙ sym (even_first cols y ys b)) (names_cells cols (r + 1) xs ys (even_rest cols x xs a) (even_rest cols y ys b) (omega (arith, e)))

named_same : (f k : Name → Handle) (ns : List Name) → ((n : Name) → f n ≡ k n) → named_by f ns ≡ named_by k ns
named_same f k [] e = refl
named_same f k (n ∷ ns) e = ap (λ z. (z, n) ∷ named_by f ns) (e n) ∙ ap (λ z. (k n, n) ∷ z) (named_same f k ns e)

-- both grids have as many rows and columns, and were opened with as many rows
module _ (w : World) (g h : Grid) (ok : IsGrid g) (now : IsGrid h) (opened : h.opened ≡ g.opened) (room : h.room ≡ g.room) (cols : h.cols ≡ g.cols) where
  abbrev ds : List ℕ
  ds = w.main.dests

  abbrev pub ground : Setting Handle
  ground = setting_over g w.texts (length ds)

  pub first_same : first_output h ≡ first_output g
  first_same = ap (λ z. z * h.cols) room ∙ ap (λ z. g.room * z) cols

  pub ground_same : setting_over h w.texts (length ds) ≡ ground
  ground_same = ground_is g w.texts (length ds) h.opened h.room h.cols (first_output h + length ds) opened room cols (ap (λ z. z + length ds) first_same)

  place_same : (n : Name) → place_of h ds now n ≡ place_of g ds ok n
  place_same (Input r c) = ap (λ z. at_slot (r * z + c)) cols
  place_same (Out i) = ap (λ z. at_slot (z + i)) first_same
  place_same Rows = ap (λ z. at_slot (z + length ds)) first_same
  place_same (Made p) = refl

  input_names : names_in (grid_heap h) ≡ names_in (grid_heap g)
  input_names =
      ap (λ z. Rows ∷ z)
      (names_cells g.cols 0 h.cells g.cells (subst (λ z. All (λ row. length row ≡ z) h.cells) cols now.even) ok.even (now.whole ∙ room ∙ sym ok.whole))

  pub starts_same : start h ds now ≡ start g ds ok
  starts_same =
      named_same (place_of h ds now) (place_of g ds ok) (names_in (grid_heap h) ++ out_names 0 ds) place_same
      ∙ ap (λ z. named_by (place_of g ds ok) (z ++ out_names 0 ds)) input_names

  pub still : setting w.texts g ≡ setting w.texts h
  still =
      ap (λ z. let s : Setting Name = record (setting w.texts g) { opened = z } in s) (sym opened)
      ∙ ap (λ z. let s : Setting Name = record (setting w.texts g) { opened = h.opened; room = z } in s) (sym room)
      ∙ ap (λ z. let s : Setting Name = record (setting w.texts g) { opened = h.opened; room = h.room; cols = z } in s) (sym cols)

  -- a record of main's body over the first one
  module _ (rule : meets w.program ≡ Ok tt) (main : main_of w.program ≡ Some w.main) (old : Rec Handle) (apart : IsApart old) (behind : (m : Handle) → Makes old m → fixed_slots g (length ds) ≤ m.slot) (t : IsRecord w g ok old Done) where
    abbrev pub update : Update Handle w g h
    update =
        record {
          rule = rule;
          main = main;
          whole = now.whole;
          even = now.even;
          still = still;
          setting = ground;
          same = handles_told;
          base = start g ds ok;
          one = one g ds ok;
          inputs = begin_settings g ds ok w.texts;
          unused = begin_unused g ds ok;
          env = output_env (first_output g) ds [];
          envs = begin_envs g ds ok;
          heap = base_heap g ds;
          heaps = start_heaps g ds ok;
          other = base_heap h ds;
          others = subst (λ z. Heaps (IsNamed z) (base_heap h ds) (grid_heap h)) starts_same (start_heaps h ds now);
          old = old;
          apart = apart;
          outside = behind_names w g ok old behind;
          left_it = t;
        }

    abbrev created : Rec Handle → List Handle
    created new = (mended same_handle old new).created

    -- what was made is neither an input nor an output, and the old record didn't make it
    pub is_new : (new : Rec Handle) → AllPairs (λ x y. x ≢ y) (created new) → ((m : Handle) → Contains (created new) m → fixed_slots g (length ds) ≤ m.slot) → ((m : Handle) → Contains (created new) m → Makes old m → ⊥) → IsNew update new
    is_new new distinct far fresh_one =
        record {
          distinct = distinct;
          anew = λ m i. ⊎_elim (λ (k : HasName (start g ds ok) m). named_low w g ok m k (far m i)) (λ (k : Makes old m). fresh_one m i k);
        }

    module _ (new : Rec Handle) (is : IsNew update new) where
      pub new_serial : (end : End) → Repairs update new end → Serial (all_named w h now new) new (base_heap h ds) end (fresh w h)
      new_serial end m =
          subst (λ z. Serial (z ++ names [] new) new (base_heap h ds) end (fresh w h)) (sym starts_same)
          (fresh_mended w g update.setting update.same update.base update.one update.inputs update.unused update.env update.envs update.heap update.heaps h update.still update.other update.others
          (Code update) (code_closed w.program.funcs w.main.body) itself old new apart update.outside t is.distinct is.anew end m)

      -- the new record shows the fresh run over the later grid
      pub new_shows : Repairs update new Done → run_of h ds new ≡ fresh w h
      new_shows m = run_is w h now new (new_serial Done m)

      pub new_size : Repairs update new Done → size_of (tree_of new) ≡ size_of (fresh w h).tree
      new_size m = size_is w h now new Done (new_serial Done m)

      module _ (caps : Caps) where
        pub repaired_work : Repairs update new Done → IsInCaps (add_size (size_of (tree_of old)) (mended same_handle old new).added) caps → work_from w caps g h ≡ work_of (mended same_handle old new)
        repaired_work m within = done_repair_fits w g h update new caps is m within

        pub repaired_outcome : (end : End) → Repairs update new end → IsInCaps (add_size (size_of (tree_of old)) (mended same_handle old new).added) caps → outcome w caps h ≡ ended end (fresh w h).tree (fresh w h).heap
        repaired_outcome end m within = ended_repair_fits w g h update new end caps is m within

        pub cut_work : (n : ℕ) (kind : CapKind) → CutsShort update new n → cap_of kind caps < count_of kind (add_size (size_of (tree_of old)) (cut_drew same_handle old new n)) → work_from w caps g h ≡ anew_work (size_of (fresh w h).tree)
        cut_work n kind cut more = full_runs_anew w g h update new n caps kind is cut more
