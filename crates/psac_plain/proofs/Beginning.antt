-- The places as a run begins stand for the names of the inputs and outputs.
use Rattle.std.proofs.Common.{◌≡◌, ℕ, suc, zero, pos, ◌+◌, ◌*◌, ◌<◌, true, List, [], ◌∷◌, ◌++◌, length, Option, Some, None, slice_get, refl, ap, sym, ◌∙◌, subst, arith, inl, inr, add-zero, length-append}
use Rattle.std.specs.List.{All}
use Rattle.std.proofs.lemmas.Bool.Decides.{nat_tests}
use Rattle.std.proofs.lemmas.List.{length-map}
use Rattle.psac_ops.specs.declared.plain.Handle.{Handle}
use Rattle.psac_ops.specs.declared.plain.Plain.{Plain}
use Rattle.psac_ops.specs.declared.plain.Plain.TheVariants as plain
use Rattle.psac_ops.specs.declared.plain.TextId.{TextId}
use Rattle.psac_ops.specs.Value.{Value, int, ref}
use Rattle.psac_ops.specs.Named.{value_of, cell_value}
use Rattle.psac_inputs.specs.Grid.{Grid, IsGrid, IsCellValue}
use Rattle.psac_model.specs.Names.{Name, Input, Out, Rows, Made, held, same_name}
use Rattle.psac_model.specs.Fresh.{grid_heap, cells_heap, main_env, setting}
use Rattle.psac_model.specs.Names.{Env, bind}
use Rattle.psac_naming.specs.Alike.{Alike, Both, Envs, Settings}
use Rattle.psac_naming.specs.Naming.{Naming, IsNamed, Unused}
use Rattle.psac_naming.proofs.Names.{nat_is, name_same}
use Rattle.psac_naming.proofs.Actions.{bind_alike}
use Rattle.psac_plain.specs.Slots.{joined}
use Rattle.psac_plain.specs.Opened.{cell_places, output_places, opened_places, first_output, at_slot, output_env, setting_over}
use Rattle.psac_plain.proofs.Lists.{get_here, get_before, get_after}
use Rattle.psac_plain.proofs.Linked.{Linked}
use Rattle.psac_plain.proofs.Cells.{IsAmong, among_either, among_left, among_right, names_in, held_none, held_cells, all_get, cells_either, cells_among, get_map, places_count, get_cell, slots_apart, slot_below}

-- names with the places that they have
abbrev pub named_by : {M : Type 0} → (Name → M) → List Name → Naming M
named_by place [] = []
named_by place (n ∷ ns) = (place n, n) ∷ named_by place ns

named_among : {M : Type 0} (place : Name → M) (ns : List Name) (m : M) (n : Name) → IsNamed (named_by place ns) m n → (place n ≡ m) × IsAmong ns n
named_among place [] m n h = absurd h
named_among place (x ∷ ns) m n (inl h) = (ap place (sym h.1) ∙ h.0, inl h.1)
named_among place (x ∷ ns) m n (inr h) = let p = named_among place ns m n h in (p.0, inr p.1)

pub among_named : {M : Type 0} (place : Name → M) (ns : List Name) (n : Name) → IsAmong ns n → IsNamed (named_by place ns) (place n) n
among_named place [] n h = absurd h
among_named place (x ∷ ns) n (inl h) = inl (ap place h, h)
among_named place (x ∷ ns) n (inr h) = inr (among_named place ns n h)

abbrev pub out_names : ℕ → List ℕ → List Name
out_names k [] = []
out_names k (d ∷ ds) = Out k ∷ out_names (k + 1) ds

out_either : (k : ℕ) (ds : List ℕ) (n : Name) → IsAmong (out_names k ds) n → (i : ℕ) × (n ≡ Out (k + i)) × (i < length ds)
out_either k [] n h = absurd h
out_either k (d ∷ ds) n (inl h) = (0, sym h ∙ ap Out (sym (add-zero k)), omega arith)
out_either k (d ∷ ds) n (inr h) =
    let p = out_either (k + 1) ds n h in
    let e : (k + 1) + p.0 ≡ k + suc p.0 = omega arith in
    (suc p.0, p.1 ∙ ap Out e, omega (arith, p.2))

out_among : (k : ℕ) (ds : List ℕ) (i : ℕ) → i < length ds → IsAmong (out_names k ds) (Out (k + i))
out_among k [] i h = absurd (omega arith)
out_among k (d ∷ ds) zero h = inl (ap Out (sym (add-zero k)))
out_among k (d ∷ ds) (suc i) h =
    let e : (k + 1) + i ≡ k + suc i = omega arith in
    inr (subst (λ x. IsAmong (out_names (k + 1) ds) (Out x)) e (out_among (k + 1) ds i (omega arith)))

out_is : (i j : ℕ) → Out i ≡ Out j → i ≡ j
out_is i j h = nat_is i j (subst (λ n. same_name (Out i) n ≡ true) h (name_same (Out i)))

out_input : (i r c : ℕ) → Out i ≡ Input r c → ⊥
out_input i r c h = cc

no_value : ℕ → Option (Value Handle)
no_value d = None

cell_alike : (T : Handle → Name → Type 0) (v : Plain) → IsCellValue v → Alike T (value_of v) (cell_value v)
cell_alike T plain.Nil h = tt
cell_alike T (plain.Bool b) h = refl
cell_alike T (plain.Int i) h = refl
cell_alike T (plain.Text t) h = (refl, refl)
cell_alike T (plain.Ref a) h = absurd cc
cell_alike T (plain.Pair a b) h = absurd cc

module _ (g : Grid) (ds : List ℕ) (ok : IsGrid g) where
  abbrev pub slot_of : Name → ℕ
  slot_of (Input r c) = r * g.cols + c
  slot_of (Out i) = first_output g + i
  slot_of Rows = first_output g + length ds
  slot_of (Made p) = 0

  abbrev pub place_of : Name → Handle
  place_of n = at_slot (slot_of n)

  -- the names that a run begins with
  abbrev pub IsOpen : Name → Type 0
  IsOpen (Input r c) = (r < g.room) × (c < g.cols)
  IsOpen (Out i) = i < length ds
  IsOpen Rows = Unit {0}
  IsOpen (Made p) = ⊥

  abbrev pub all_names : List Name
  all_names = names_in (grid_heap g) ++ out_names 0 ds

  abbrev pub begun : Naming Handle
  begun = named_by place_of all_names

  open_of_input : (n : Name) → IsAmong (names_in (grid_heap g)) n → IsOpen n
  open_of_input n (inl h) = subst IsOpen h tt
  open_of_input n (inr h) =
      let p = cells_either g.cols 0 g.cells ok.even n h in
      let below : 0 + p.0 < g.room = omega (arith, p.3, ok.whole) in
      subst IsOpen (sym p.2) (below, p.4)

  open_of_out : (n : Name) → IsAmong (out_names 0 ds) n → IsOpen n
  open_of_out n h =
      let p = out_either 0 ds n h in
      let below : 0 + p.0 < length ds = omega (arith, p.2) in
      subst IsOpen (sym p.1) below

  open_of : (n : Name) → IsAmong all_names n → IsOpen n
  open_of n h =
      elim (among_either (names_in (grid_heap g)) (out_names 0 ds) n h) [ inl i ↦ open_of_input n i | inr i ↦ open_of_out n i ]

  among_of : (n : Name) → IsOpen n → IsAmong all_names n
  among_of (Input r c) h =
      let z : 0 + r ≡ r = omega arith in
      let at = cells_among g.cols 0 g.cells ok.even r c (omega (arith, h.0, ok.whole)) h.1 in
      among_left (names_in (grid_heap g)) (out_names 0 ds) (Input r c) (inr (subst (λ x. IsAmong (names_in (cells_heap 0 g.cells)) (Input x c)) z at))
  among_of (Out i) h =
      let z : 0 + i ≡ i = omega arith in
      among_right (names_in (grid_heap g)) (out_names 0 ds) (Out i) (subst (λ x. IsAmong (out_names 0 ds) (Out x)) z (out_among 0 ds i h))
  among_of Rows h = among_left (names_in (grid_heap g)) (out_names 0 ds) Rows (inl refl)
  among_of (Made p) h = absurd h

  pub named_open : (n : Name) → IsOpen n → IsNamed begun (place_of n) n
  named_open n h = among_named place_of all_names n (among_of n h)

  open_named : (m : Handle) (n : Name) → IsNamed begun m n → (place_of n ≡ m) × IsOpen n
  open_named m n h =
      let p = named_among place_of all_names m n h in
      (p.0, open_of n p.1)

  below_room : (r c : ℕ) → r < g.room → c < g.cols → r * g.cols + c < first_output g
  below_room r c h i = slot_below g.cols g.room r c h i

  -- two names that a run begins with have two places
  apart : (n l : Name) → IsOpen n → IsOpen l → slot_of n ≡ slot_of l → n ≡ l
  apart (Input r c) (Input s d) h i e =
      let p = slots_apart g.cols r s c d h.1 i.1 e in
      ap (λ x. Input x c) p.0 ∙ ap (Input s) p.1
  apart (Input r c) (Out j) h i e = absurd (omega (arith, e, below_room r c h.0 h.1))
  apart (Input r c) Rows h i e = absurd (omega (arith, e, below_room r c h.0 h.1))
  apart (Out j) (Input r c) h i e = absurd (omega (arith, e, below_room r c i.0 i.1))
  apart Rows (Input r c) h i e = absurd (omega (arith, e, below_room r c i.0 i.1))
  apart (Out j) (Out k) h i e =
      let p : j ≡ k = omega (arith, e) in
      ap Out p
  apart (Out j) Rows h i e = absurd (omega (arith, e, h))
  apart Rows (Out j) h i e = absurd (omega (arith, e, i))
  apart Rows Rows h i e = refl
  apart (Made p) l h i e = absurd h
  apart n (Made p) h i e = absurd i

  pub cells_count : length (cell_places g.cells) ≡ first_output g
  cells_count = places_count g.cols g.cells ok.even ∙ ap (λ x. x * g.cols) ok.whole

  pub outs_count : length (output_places ds) ≡ length ds
  unfolding no_value
  outs_count = length-map ds no_value

  all_count : length (opened_places g ds) ≡ first_output g + (length ds + 1)
  all_count =
      omega (arith, cells_count, length-append (cell_places g.cells) (output_places ds ++ Some (int (pos g.rows)) ∷ []), length-append (output_places ds) (Some (int (pos g.rows)) ∷ []), outs_count)

  slot_within : (n : Name) → IsOpen n → slot_of n < length (opened_places g ds)
  slot_within (Input r c) h = omega (arith, all_count, below_room r c h.0 h.1)
  slot_within (Out i) h = omega (arith, all_count, h)
  slot_within Rows h = omega (arith, all_count)
  slot_within (Made p) h = absurd h

  get_after_cells : (i : ℕ) → slice_get (opened_places g ds) (first_output g + i) ≡ slice_get (output_places ds ++ Some (int (pos g.rows)) ∷ []) i
  get_after_cells i = get_after (cell_places g.cells) (output_places ds ++ Some (int (pos g.rows)) ∷ []) (first_output g) i (sym cells_count)

  same_cell : (T : Handle → Name → Type 0) (r c : ℕ) → r < g.room → c < g.cols → Both (Alike T) (joined (slice_get (opened_places g ds) (r * g.cols + c))) (held (grid_heap g) (Input r c))
  same_cell T r c h i =
      let a = get_here g.cells r (omega (arith, h, ok.whole)) in
      let wide : length a.0 ≡ g.cols = all_get (λ x. length x ≡ g.cols) g.cells ok.even r a.0 a.1 in
      let b = get_here a.0 c (omega (arith, i, wide)) in
      let fine : IsCellValue b.0 = all_get IsCellValue a.0 (all_get (All IsCellValue) g.cells ok.plain r a.0 a.1) c b.0 b.1 in
      let z : 0 + r ≡ r = omega arith in
      let p : slice_get (opened_places g ds) (r * g.cols + c) ≡ Some (Some (value_of b.0)) =
      get_before (cell_places g.cells) (output_places ds ++ Some (int (pos g.rows)) ∷ []) (r * g.cols + c) (omega (arith, cells_count, below_room r c h i)) ∙ get_cell g.cols g.cells ok.even r c a.0 b.0 a.1 b.1 in
      let q : held (cells_heap 0 g.cells) (Input r c) ≡ Some (cell_value b.0) = subst (λ x. held (cells_heap 0 g.cells) (Input x c) ≡ Some (cell_value b.0)) z (held_cells 0 g.cells r c a.0 b.0 a.1 b.1) in
      rw (p, q) (cell_alike T b.0 fine)

  input_out : (i : ℕ) → IsAmong (names_in (grid_heap g)) (Out i) → ⊥
  input_out i (inl h) = cc
  input_out i (inr h) = let p = cells_either g.cols 0 g.cells ok.even (Out i) h in out_input i (0 + p.0) p.1 p.2

  held_out : (i : ℕ) → held (grid_heap g) (Out i) ≡ None
  held_out i = held_none (grid_heap g) (Out i) (input_out i)

  same_open : (T : Handle → Name → Type 0) (n : Name) → IsOpen n → Both (Alike T) (joined (slice_get (opened_places g ds) (slot_of n))) (held (grid_heap g) n)
  same_open T (Input r c) h = same_cell T r c h.0 h.1
  same_open T (Out i) h =
      let e = get_here ds i h in
      let p : slice_get (opened_places g ds) (first_output g + i) ≡ Some None =
      get_after_cells i ∙ get_before (output_places ds) (Some (int (pos g.rows)) ∷ []) i (omega (arith, h, outs_count)) ∙ get_map (λ d. None) ds i e.0 e.1 in
      rw (p, held_out i) tt
  same_open T Rows h =
      let z : length ds ≡ length ds + 0 = omega arith in
      let p : slice_get (opened_places g ds) (first_output g + length ds) ≡ Some (Some (int (pos g.rows))) =
      get_after_cells (length ds) ∙ ap (slice_get (output_places ds ++ Some (int (pos g.rows)) ∷ [])) z ∙ get_after (output_places ds) (Some (int (pos g.rows)) ∷ []) (length ds) 0 (sym (outs_count)) in
      rw p refl
  same_open T (Made q) h = absurd h

  begin_one : (m k : Handle) (n l : Name) → IsNamed begun m n → IsNamed begun k l → (m ≡ k → n ≡ l) × (n ≡ l → m ≡ k)
  begin_one m k n l h i =
      let a = open_named m n h in
      let b = open_named k l i in
      (λ e. apart n l a.1 b.1 (ap (λ x. x.slot) (a.0 ∙ e ∙ sym b.0)), λ e. sym a.0 ∙ ap place_of e ∙ b.0)

  pub begin_linked : Linked begun (opened_places g ds) (grid_heap g)
  begin_linked =
      record {
        one = begin_one;
        within = λ m n h.
            let a = open_named m n h in
            (ap (λ x. x.generation) (sym a.0), subst (λ x. x.slot < length (opened_places g ds)) a.0 (slot_within n a.1));
        same = λ m n h.
            let a = open_named m n h in
            subst (λ x. Both (Alike (IsNamed begun)) (joined (slice_get (opened_places g ds) x.slot)) (held (grid_heap g) n)) a.0 (same_open (IsNamed begun) n a.1);
        no_more = λ n none. held_none (grid_heap g) n (λ h. none (place_of n) (among_named place_of all_names n (among_left (names_in (grid_heap g)) (out_names 0 ds) n h)));
      }

  pub begin_unused : Unused [] begun
  begin_unused m q h = (open_named m (Made q) h).1

  pub begin_settings : (texts : List TextId) → Settings (IsNamed begun) (setting_over g texts (length ds)) (setting texts g)
  begin_settings texts =
      record {
        opened = refl;
        room = refl;
        cols = refl;
        texts = refl;
        cells = λ r c h i.
            let a : r < g.room = grind (arith, nat_tests) in
            let b : c < g.cols = grind (arith, nat_tests) in
            named_open (Input r c) (a, b);
        row_count = named_open Rows tt;
      }

  envs_from : (k i : ℕ) (outs : List ℕ) (env : Env Handle) (env' : Env Name) → ((j : ℕ) → j < length outs → IsNamed begun (at_slot (k + j)) (Out (i + j))) → Envs (IsNamed begun) env env' → Envs (IsNamed begun) (output_env k outs env) (main_env i outs env')
  envs_from k i [] env env' h e = e
  envs_from k i (d ∷ outs) env env' h e =
      let first : IsNamed begun (at_slot k) (Out i) =
      subst (λ x. IsNamed begun (at_slot x) (Out i)) (add-zero k) (subst (λ x. IsNamed begun (at_slot (k + 0)) (Out x)) (add-zero i) (h 0 (omega arith))) in
      envs_from (suc k) (i + 1) outs (bind d (ref (at_slot k)) env) (bind d (ref (Out i)) env') (λ j l.
      let a : k + suc j ≡ suc k + j = omega arith in
      let b : i + suc j ≡ (i + 1) + j = omega arith in
      subst (λ x. IsNamed begun (at_slot x) (Out ((i + 1) + j))) a (subst (λ x. IsNamed begun (at_slot (k + suc j)) (Out x)) b (h (suc j) (omega arith)))) (bind_alike (IsNamed begun) d (ref (at_slot k)) (ref (Out i)) env env' first e)

  pub begin_envs : Envs (IsNamed begun) (output_env (first_output g) ds []) (main_env 0 ds [])
  begin_envs =
      envs_from (first_output g) 0 ds [] [] (λ j l.
      let z : j ≡ 0 + j = omega arith in
      subst (λ x. IsNamed begun (at_slot (first_output g + j)) (Out x)) z (named_open (Out j) l)) tt
