-- A batch that is put in gives other values to what it changes: so each mark that it makes stands over a block that
-- read other words.
use Rattle.std.proofs.Common.{◌≡◌, ◌≢◌, ℕ, zero, suc, ◌+◌, ◌*◌, ◌≤◌, ◌<◌, ◌==◌, Bool, true, false, not, pos, List, []}
use Rattle.std.proofs.Common.{◌∷◌, map, length, Some, None, refl, ap, sym, ◌∙◌, subst, inl, inr, ⊎_elim, arith}
use Rattle.std.specs.Prelude.{slice_get, slice_set, get_or, option_and_then}
use Rattle.std.proofs.lemmas.Bool.Decides.{Decides-int_eq}
use Rattle.std.proofs.lemmas.Option.{slice_get-get_or}
use Rattle.psac_ops.specs.declared.plain.Handle.{Handle}
use Rattle.psac_ops.specs.declared.plain.Plain.{Plain}
use Rattle.psac_ops.specs.declared.plain.Plain.TheVariants as plain
use Rattle.psac_ops.specs.Value.{Value}
use Rattle.psac_ops.specs.Table.{same_value}
use Rattle.psac_ops.specs.Named.{value_of, same_handle}
use Rattle.psac_slots.specs.Handles.{Member}
use Rattle.psac_slots.specs.Claiming.{Accounted}
use Rattle.psac_slots.proofs.Pairs.{member_left, member_right, member_cases, member_map, member_filter}
use Rattle.psac_inputs.specs.declared.batch.Edit.{Edit}
use Rattle.psac_inputs.specs.Grid.{Grid, IsGrid, cell, with_cell}
use Rattle.psac_inputs.specs.Batch.{Batch, is_value, netted, with_edits, put_all, IsOneEach, IsBatch, GoesInto}
use Rattle.psac_inputs.proofs.CellWrites.{written, read, get-set}
use Rattle.psac_inputs.proofs.EditLists.{edits_past}
use Rattle.psac_model.specs.declared.ends.Caps.{Caps}
use Rattle.psac_model.specs.Fresh.{World, when}
use Rattle.psac_laws.proofs.Opening.{IsChecked}
use Rattle.psac_laws.proofs.Places.{nat_same, some_is, not_both}
use Rattle.psac_plain.specs.Opened.{at_slot, first_output}
use Rattle.psac_plain.proofs.Cells.{all_get}
use Rattle.psac_plain.proofs.Linked.{handles_told}
use Rattle.psac_traced.specs.Holds.{EachOf, EachRead}
use Rattle.psac_record.specs.declared.parts.Seen.{Seen}
use Rattle.psac_record.specs.Kept.{Kept, E, A, W, S, P, R, bare, reads_of}
use Rattle.psac_trace.specs.Rights.{In}
use Rattle.psac_repair.specs.Divided.{writes_slot}
use Rattle.psac_repair.specs.Going.{Views}
use Rattle.psac_repair.specs.Marks.{Present}
use Rattle.psac_repair.specs.Founded.{Coherent, Founded}
use Rattle.psac_repair.specs.FoundLaws.{RootRaised}
use Rattle.psac_repair.proofs.Forked.{Touches, slot_touch}
use Rattle.psac_repair.proofs.Founds.{roots_found}
use Rattle.psac_repair.proofs.Starting.{in_puts}
use Rattle.psac_stage.specs.Places.{base_heap, fixed_slots}
use Rattle.psac_stage.specs.Holding.{value_in, entries}
use Rattle.psac_stage.specs.Resting.{AllOf}
use Rattle.psac_stage.specs.Recorded.{seen_of, Recorded}
use Rattle.psac_stage.specs.Staging.{cell_slot, changed, Changes}
use Rattle.psac_stage.proofs.Apart.{makes_member}
use Rattle.psac_stage.proofs.Awake.{few_now, alone_now, has_now, known_has, still, put_out}
use Rattle.psac_stage.proofs.Bounds.{made_high}
use Rattle.psac_stage.proofs.Inputs.{all_member, inputs_in}
use Rattle.psac_stage.proofs.Known.{known_value, value_seen, value_present}
use Rattle.psac_stage.proofs.Paths.{link_from}
use Rattle.psac_stage.proofs.Placed.{room_kept, cols_kept}

-- each read of a record, by what its blocks saw
module _ (Q : Handle → Value Handle → Type 0) where
  each_of : (rs : List Seen) → ((s : Seen) → Member s rs → Q s.from (value_of s.value)) → EachOf Q (reads_of rs)
  each_of [] f = tt
  each_of (s ∷ rs) f = (f s (inl refl), each_of rs (λ r i. f r (inr i)))

  pub each_seen : (t : Kept) → ((s : Seen) → Member s (seen_of t) → Q s.from (value_of s.value)) → EachRead Q (bare t)
  each_seen E f = tt
  each_seen (A m r) f = each_seen r f
  each_seen (W m x r) f = each_seen r f
  each_seen (S n t r) f = (
    each_seen t (λ s i. f s (member_left s (seen_of t) (seen_of r) i)),
    each_seen r (λ s i. f s (member_right s (seen_of t) (seen_of r) i)),
  )
  each_seen (P n t r) f = (
    each_seen t (λ s i. f s (member_left s (seen_of t) (seen_of r) i)),
    each_seen r (λ s i. f s (member_right s (seen_of t) (seen_of r) i)),
  )
  each_seen (R b t) f = (
    each_of b.reads (λ s i. f s (member_left s b.reads (seen_of t) i)),
    each_seen t (λ s i. f s (member_right s b.reads (seen_of t) i)),
  )

-- a value is the same as itself
itself : (x : Plain) → same_value same_handle (value_of x) (value_of x) ≡ true
itself plain.Nil = refl
itself (plain.Bool true) = refl
itself (plain.Bool false) = refl
itself (plain.Int i) = (Decides-int_eq i i).1 refl
itself (plain.Text t) = rw (nat_same t.id) (nat_same t.len)
itself (plain.Ref h) = handles_told.itself h
itself (plain.Pair g h) = rw (handles_told.itself g) (handles_told.itself h)

-- a cell that is there stays there
set_some : {X : Type 0} (xs : List X) (i j : ℕ) (x y : X) → slice_get xs j ≡ Some y
    → (z : X) × (slice_get (slice_set xs i x) j ≡ Some z)
set_some [] i j x y h = absurd (let e : None ≡ Some y = h in cc)
set_some (w ∷ ws) zero zero x y h = (x, refl)
set_some (w ∷ ws) zero (suc j) x y h = (y, h)
set_some (w ∷ ws) (suc i) zero x y h = (y, h)
set_some (w ∷ ws) (suc i) (suc j) x y h = set_some ws i j x y h

written_some : (r c s d : ℕ) (v y : Plain) (rows : List (List Plain)) → read r c rows ≡ Some y
    → (z : Plain) × (read r c (written s d v rows) ≡ Some z)
written_some r c s d v y [] h = (y, h)
written_some zero c zero d v y (row ∷ rows) h = set_some row d c v y h
written_some zero c (suc s) d v y (row ∷ rows) h = (y, h)
written_some (suc r) c zero d v y (row ∷ rows) h = (y, h)
written_some (suc r) c (suc s) d v y (row ∷ rows) h = written_some r c s d v y rows h

-- and holds what was written there
written_here : (r c : ℕ) (v y : Plain) (rows : List (List Plain)) → read r c rows ≡ Some y
    → read r c (written r c v rows) ≡ Some v
written_here r c v y [] h = absurd (let e : None ≡ Some y = h in cc)
written_here zero c v y (row ∷ rows) h = get-set row c v y h
written_here (suc r) c v y (row ∷ rows) h = written_here r c v y rows h

edits_some : (es : List Edit) (g : Grid) (r c : ℕ) (y : Plain) → cell r c g ≡ Some y
    → (z : Plain) × (cell r c (with_edits es g) ≡ Some z)
edits_some [] g r c y h = (y, h)
edits_some (e ∷ es) g r c y h =
    let o = written_some r c e.row e.col e.value y g.cells h in
    edits_some es (with_cell e.row e.col e.value g) r c o.0 o.1

-- of edits no two of which are of one cell, each stands in the grid
pub edit_in : (es : List Edit) (g : Grid) (e : Edit) (y : Plain) → IsOneEach es → Member e es
    → cell e.row e.col g ≡ Some y → cell e.row e.col (with_edits es g) ≡ Some e.value
edit_in [] g e y one i h = absurd i
edit_in (f ∷ fs) g e y one (inl q) h =
    subst (λ (z : Edit). cell z.row z.col (with_edits (f ∷ fs) g) ≡ Some z.value) q
    (let there : cell f.row f.col g ≡ Some y = subst (λ (z : Edit). cell z.row z.col g ≡ Some y) (sym q) h in
    let o = edits_some fs g f.row f.col y there in
    ap (cell f.row f.col) (edits_past f fs g one.0) ∙ written_here f.row f.col f.value o.0 (with_edits fs g).cells o.1)
edit_in (f ∷ fs) g e y one (inr i) h =
    let o = written_some e.row e.col f.row f.col f.value y g.cells h in
    edit_in fs (with_cell f.row f.col f.value g) e o.0 one.1 i o.1

-- what is left of the edits gives other values
pub other_value : (g : Grid) (es : List Edit) (e : Edit) (x : Plain) → Member e (netted g es)
    → cell e.row e.col g ≡ Some x → Member e es × (value_of e.value ≢ value_of x)
other_value g es e x i h =
    let q = member_filter (λ (f : Edit). not (is_value f.value (cell f.row f.col g))) e es i in (
      q.0,
      λ same.
          let a : is_value e.value (cell e.row e.col g) ≡ true =
          ap (is_value e.value) h ∙ ap (same_value same_handle (value_of e.value)) (sym same) ∙ itself e.value in
          not_both q.1 (ap not a),
    )

-- a cell of a grid is there
cell_there : (g : Grid) → IsGrid g → (r c : ℕ) → r < g.room → c < g.cols → (x : Plain) × (cell r c g ≡ Some x)
cell_there g ok r c low few =
    let l = ok.whole in
    let here = slice_get-get_or g.cells r [] (omega (arith, l, low)) in
    let n = all_get (λ (row : List Plain). length row ≡ g.cols) g.cells ok.even r (get_or g.cells r []) here in (
      get_or (get_or g.cells r []) c plain.Nil,
      ap
          (option_and_then (λ (row : List Plain). slice_get row c)) here
          ∙ slice_get-get_or (get_or g.cells r []) c plain.Nil (omega (arith, n, few)),
    )

when_true : (b : Bool) (x s : ℕ) → Member s (when b x) → (b ≡ true) × (x ≡ s)
when_true true x s (inl e) = (refl, e)
when_true true x s (inr i) = absurd i
when_true false x s i = absurd i

rows_other : (n m : ℕ) → not (n == m) ≡ true → value_of (plain.Int (pos m)) ≢ value_of (plain.Int (pos n))
rows_other n m t e =
    let same : m ≡ n = cc in
    not_both t (ap not (subst (λ z. (n == z) ≡ true) (sym same) (nat_same n)))

module _ (w : World) (g : Grid) (b : Batch) (okg : IsGrid g) (sound : IsBatch b) (goes : GoesInto b g)
    (checked : IsChecked w) (caps : Caps) (age : ℕ) (k : Kept) (p q : Views)
    (all : AllOf g (length w.main.dests) caps age p.values p.readers p.marks)
    (now : AllOf (put_all b g) (length w.main.dests) caps age q.values q.readers q.marks)
    (whole : Accounted p.values.claims)
    (rec : Recorded w g k p.values p.readers p.marks) (a : Changes (changed g (length w.main.dests) b) p q) where
  abbrev outs : ℕ
  outs = length w.main.dests

  abbrev ss : List ℕ
  ss = changed g outs b

  abbrev Other : ℕ → Type 0
  Other s = (x y : Plain) → value_in s p.values.mine ≡ Some x → value_in s q.values.mine ≡ Some y
      → value_of x ≢ value_of y

  -- a slot that changes gets another value
  cell_other : (e : Edit) → Member e (netted g b.edits) → Other (cell_slot g e)
  cell_other e i x y h j same =
      let in_batch = (member_filter (λ (f : Edit). not (is_value f.value (cell f.row f.col g))) e b.edits i).0 in
      let at = all_member (λ (f : Edit). (f.row < b.room) × (f.col < b.cols)) b.edits sound.inside e in_batch in
      let row = subst (λ n. e.row < n) goes.room at.0 in
      let there = cell_there g okg e.row e.col row (subst (λ n. e.col < n) goes.cols at.1) in
      let other = other_value g b.edits e there.0 i there.1 in
      let was : x ≡ there.0 = some_is (sym h ∙ all.grid.cells e.row e.col there.0 there.1) in
      let put = now.grid.cells e.row e.col e.value (edit_in b.edits g e there.0 sound.each in_batch there.1) in
      let here = subst (λ n. value_in (e.row * n + e.col) q.values.mine ≡ Some e.value) (cols_kept b.edits g) put in
      let is : y ≡ e.value = some_is (sym j ∙ here) in
      other.1 (ap value_of (sym is) ∙ sym same ∙ ap value_of was)

  count_other : not (b.rows == g.rows) ≡ true → Other (first_output g + outs)
  count_other t x y h j same =
      let first : first_output (put_all b g) ≡ first_output g =
      ap (λ n. n * (with_edits b.edits g).cols) (room_kept b.edits g) ∙ ap (λ n. g.room * n) (cols_kept b.edits g) in
      let was = some_is (sym h ∙ all.grid.row_count) in
      let rows = plain.Int (pos b.rows) in
      let put = subst (λ n. value_in (n + outs) q.values.mine ≡ Some rows) first now.grid.row_count in
      let is = some_is (sym j ∙ put) in
      rows_other b.rows g.rows t (ap value_of (sym was) ∙ same ∙ ap value_of is)

  other_at : (s : ℕ) → Member s ss → Other s
  other_at s i =
      let one = map (cell_slot g) (netted g b.edits) in
      let two = when (not (b.rows == g.rows)) (first_output g + outs) in
      ⊎_elim
      (λ (j : Member s one).
      let e = member_map (cell_slot g) s (netted g b.edits) j in
      subst Other e.2 (cell_other e.0 e.1))
      (λ (j : Member s two).
      let t = when_true (not (b.rows == g.rows)) (first_output g + outs) s j in
      subst Other t.1 (count_other t.0))
      (member_cases s one two i)

  few : (s : ℕ) → entries s q.values.mine ≤ 1
  few = few_now k ss p q a all.fixed.alone rec.values

  alone : q.values.known ≡ []
  alone = alone_now k ss p q a all.fixed.alone rec.values

  -- what a block read isn't present where it changed
  changed_at : (s : Seen) → Member s (seen_of k) → Member s.from.slot ss
      → Present q.values s.from (value_of s.value) → ⊥
  changed_at s i j present =
      let before = rec.values.read s i in
      let was = known_value s.from s.value p.values.mine (rec.values.once s.from.slot) before in
      let is = a.has s.from.slot j in
      let has = has_now k ss p q a all.fixed.alone rec.values s.from
      (known_has k ss p q a all.fixed.alone rec.values s.from s.value before) in
      let sees = value_seen q.values few alone s.from is.0 has is.1 in
      other_at s.from.slot j s.value is.0 was is.1 (present (value_of is.0) sees)

  root : RootRaised p.readers q.values p.marks q.marks k ss a.marks a.found
  root =
      record {
        nodes = rec.nodes.nodes;
        once = rec.nodes.once;
        unmarked = λ x i. rec.nodes.unmarked x;
        fits = rec.nodes.fits;
        readers = λ s l i j o e. link_from k p.marks rec.nodes p.readers rec.links l j e;
        changed = each_seen (λ m x. Member m.slot ss → Present q.values m x → ⊥) k changed_at;
        becomes = a.becomes;
        within = a.within;
      }

  pub founded_now : Founded q.values q.marks k
  founded_now = roots_found p.readers q.values p.marks q.marks k ss a.marks a.found root

  -- what the record made or wrote doesn't change
  inputs : (s : ℕ) → Member s ss → In (base_heap g w.main.dests) (at_slot s) × (s < fixed_slots g outs)
  inputs = inputs_in w g okg checked p.values all.fixed all.grid b sound goes

  touched_out : (n : Handle) → Touches (bare k) n → Member n.slot ss → ⊥
  touched_out n (inl made) j =
      let high = made_high k p.values rec.values whole n (makes_member (bare k) n made) in
      let low = (inputs n.slot j).1 in
      let f = all.fixed.fixed_is in
      omega (arith, high, low, f)
  touched_out n (inr wrote) j =
      let x = in_puts k n wrote in
      put_out k ss p q a all.fixed.alone rec.values (fixed_slots g outs) all.fixed (base_heap g w.main.dests) inputs
      rec.fresh n x.0 x.1 j

  coherent_at : (s : Seen) → Member s (seen_of k) → writes_slot (bare k) s.from.slot ≡ true
      → Present q.values s.from (value_of s.value)
  coherent_at s i t =
      let n = slot_touch (bare k) s.from.slot t in
      value_present q.values few alone s.from s.value
      (still k ss p q a all.fixed.alone rec.values s.from s.value (rec.values.read s i)
      (λ j. touched_out n.0 n.1 (subst (λ z. Member z ss) (sym n.2) j)))

  pub coherent_now : Coherent q.values k
  coherent_now = each_seen (λ m x. writes_slot (bare k) m.slot ≡ true → Present q.values m x) k coherent_at
