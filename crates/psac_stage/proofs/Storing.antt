-- Values that are stored in fixed slots.
use Rattle.std.proofs.Common.{◌≡◌, ℕ, suc, zero, pos, ◌+◌, ◌*◌, ◌<◌, ◌≤◌, ◌/◌, ◌%◌, ◌==◌, true, false, cond, List, [], ◌∷◌, map, drop, length, Some, slice_get, refl, ap, sym, ◌∙◌, subst, inl, inr, arith}
use Rattle.std.specs.Prelude.{option_and_then, slice_set}
use Rattle.std.specs.List.{All}
use Rattle.std.proofs.lemmas.Bool.{eq-eqb, ne_eqb, cases_eq}
use Rattle.std.proofs.lemmas.List.{drop_more, drop_all}
use Rattle.std.proofs.lemmas.Option.{get_or_from_slice_get, slice_get_within}
use Rattle.psac_ops.specs.declared.plain.Handle.{Handle}
use Rattle.psac_ops.specs.declared.plain.Plain.{Plain}
use Rattle.psac_ops.specs.declared.plain.Plain.TheVariants as plain
use Rattle.psac_ops.specs.Words.{words_of, of_words}
use Rattle.psac_slots.specs.Handles.{Member, slot_times}
use Rattle.psac_slots.proofs.Pairs.{member_map, map_member}
use Rattle.psac_values.specs.declared.view.OwnedView.{OwnedView}
use Rattle.psac_values.specs.declared.view.ValueView.{ValueView}
use Rattle.psac_values.specs.Knowing.{Has, all_words, three_of, rewritten, wrote}
use Rattle.psac_inputs.specs.declared.batch.Edit.{Edit}
use Rattle.psac_inputs.specs.Grid.{Grid, IsGrid, cell, with_cell}
use Rattle.psac_inputs.specs.Batch.{Batch, GoesInto, IsBatch, with_edits, put_all}
use Rattle.psac_inputs.proofs.CellWrites.{read, written, read_other, even-written}
use Rattle.psac_inputs.proofs.Putting.{of_edit}
use Rattle.psac_laws.proofs.Places.{none_some, some_is, nat_is, test_or}
use Rattle.psac_plain.specs.Opened.{at_slot, first_output}
use Rattle.psac_plain.proofs.Cells.{slots_apart, slot_below, all_get}
use Rattle.psac_trace.proofs.Heaps.{handle_by}
use Rattle.psac_stage.specs.Holding.{words_in, all_known, value_in, entries, HasGrid, HasFixed, IsBare}
use Rattle.psac_stage.specs.Places.{fixed_slots}
use Rattle.psac_stage.specs.Storing.{HasCells, handles, SameSlots, Stored}
use Rattle.psac_stage.proofs.Members.{entry_of}
use Rattle.psac_stage.proofs.Placed.{room_kept, cols_kept}
use Rattle.psac_stage.proofs.Counts.{sum_map}
use Rattle.psac_stage.proofs.Entries.{cell_inside}
use Rattle.psac_stage.proofs.Holding.{then_is, known_all}

-- slots

of_entry : OwnedView → Handle
of_entry w = w.of

entries_slots : (s : ℕ) (mine : List OwnedView) → slot_times s (handles mine) ≡ entries s mine
unfolding of_entry
entries_slots s mine = sum_map of_entry (λ (h : Handle). cond (h.slot == s) 1 0) mine

module _ (v u : ValueView) (same : SameSlots v u) where
  pub entries_same : (s : ℕ) → entries s u.mine ≡ entries s v.mine
  entries_same s = sym (entries_slots s u.mine) ∙ ap (slot_times s) same.slots ∙ entries_slots s v.mine

  -- each entry has one of the same modifiable before
  pub member_before : (o : OwnedView) → Member o u.mine → (b : OwnedView) × Member b v.mine × (b.of ≡ o.of)
  member_before o i = member_map (λ (w : OwnedView). w.of) o.of v.mine (subst (Member o.of) same.slots (map_member (λ (w : OwnedView). w.of) o u.mine i))

  pub fixed_same : (n : ℕ) → HasFixed n v → HasFixed n u
  fixed_same n f =
      record {
        fixed_is = same.fixed ∙ f.fixed_is;
        once = λ s low. entries_same s ∙ f.once s low;
        first = λ o i low.
            let b = member_before o i in
            let e = ap (λ (h : Handle). h.slot) b.2 in
            ap (λ (h : Handle). h.generation) (sym b.2) ∙ f.first b.0 b.1 (omega (arith, e, low));
        alone = same.known ∙ f.alone;
      }

  pub bare_same : (n : ℕ) → IsBare n v → IsBare n u
  bare_same n f o i =
      let b = member_before o i in
      let e = ap (λ (h : Handle). h.slot) b.2 in
      let low = f b.0 b.1 in
      omega (arith, e, low)

pub same_none : (v : ValueView) → SameSlots v v
same_none v = record { claims = refl; fixed = refl; known = refl; slots = refl; looks = refl }

pub same_then : (v u x : ValueView) → SameSlots v u → SameSlots u x → SameSlots v x
same_then v u x a b =
    record {
      claims = b.claims ∙ a.claims;
      fixed = b.fixed ∙ a.fixed;
      known = b.known ∙ a.known;
      slots = b.slots ∙ a.slots;
      looks = b.looks ∙ a.looks;
    }

-- a fixed slot may be written
pub may_write : (n s : ℕ) (v : ValueView) → HasFixed n v → s < n → Has v (at_slot s)
may_write n s v f low =
    let e = entry_of s v.mine (f.once s low) in
    (e.0, e.1, handle_by e.0.of (at_slot s) e.2 (f.first e.0 e.1 (omega (arith, e.2, low))))

-- words

three_words : (x : Plain) → three_of (words_of x) ≡ words_of x
three_words plain.Nil = refl
three_words (plain.Bool b) = refl
three_words (plain.Int i) = refl
three_words (plain.Text t) = refl
three_words (plain.Ref h) = refl
three_words (plain.Pair g h) = refl

slots_rewritten : (s : ℕ) (ws : List ℕ) (mine : List OwnedView) → handles (map (rewritten s ws) mine) ≡ handles mine
slots_rewritten s ws [] = refl
slots_rewritten s ws (o ∷ mine) = ap (λ z. o.of ∷ z) (slots_rewritten s ws mine)

words_here : (s : ℕ) (ws : List ℕ) (mine : List OwnedView) (o : OwnedView) → Member o mine → o.of.slot ≡ s → words_in s (map (rewritten s ws) mine) ≡ Some (all_words ws)
words_here s ws [] o i e = absurd i
words_here s ws (y ∷ mine) o i e =
    elim (test_or (y.of.slot == s)) [
      | inl t ↦ rw t refl
      | inr t ↦ rw t (words_here s ws mine o (later i t) e)
    ]
  where
    later : Member o (y ∷ mine) → (y.of.slot == s) ≡ false → Member o mine
    later (inl q) t = absurd (let z : (y.of.slot == s) ≡ true = subst (λ (w : OwnedView). (w.of.slot == s) ≡ true) (sym q) (eq-eqb o.of.slot s e) in cc)
    later (inr j) t = j

words_else : (s k : ℕ) (ws : List ℕ) (mine : List OwnedView) → (k ≡ s → ⊥) → words_in k (map (rewritten s ws) mine) ≡ words_in k mine
words_else s k ws [] d = refl
words_else s k ws (y ∷ mine) d =
    elim (test_or (y.of.slot == k)) [
      | inl t ↦
          (let z : (y.of.slot == s) ≡ false = ne_eqb y.of.slot s (λ q. d (sym (nat_is y.of.slot k t) ∙ q)) in
          rw (t, z) refl)
      | inr t ↦ rw t (words_else s k ws mine d)
    ]

pub stored : (n s : ℕ) (x : Plain) (ws : List ℕ) (v u : ValueView) → HasFixed n v → s < n → ws ≡ words_of x → of_words ws ≡ Some x → u ≡ wrote s (three_of ws) v → Stored s x v u
stored n s x ws v u f low is back e =
    let w = may_write n s v f low in
    let three : three_of ws ≡ ws = ap three_of is ∙ three_words x ∙ sym is in
    let mine : u.mine ≡ map (rewritten s (three_of ws)) v.mine = ap (λ (z : ValueView). z.mine) e in
    let here : words_in s u.mine ≡ Some (all_words ws) =
    ap (words_in s) mine ∙ words_here s (three_of ws) v.mine w.0 w.1 (ap (λ (h : Handle). h.slot) w.2) ∙ ap (λ z. Some (all_words z)) three in
    record {
      same = record {
        claims = ap (λ (z : ValueView). z.claims) e;
        fixed = ap (λ (z : ValueView). z.fixed) e;
        known = ap (λ (z : ValueView). z.known) e;
        slots = ap handles mine ∙ slots_rewritten s (three_of ws) v.mine;
        looks = ap (λ (z : ValueView). z.looks) e;
      };
      here = ap (λ z. option_and_then of_words (option_and_then all_known z)) here ∙ ap (option_and_then of_words) (known_all ws) ∙ back;
      others = λ k d. ap (value_in k) mine ∙ ap (λ z. option_and_then of_words (option_and_then all_known z)) (words_else s k (three_of ws) v.mine d);
    }

-- cells

-- so many cells have their words
abbrev pub HasFirst : Grid → ℕ → ValueView → Type 0
HasFirst g n v = (r c : ℕ) (x : Plain) → cell r c g ≡ Some x → r * g.cols + c < n → value_in (r * g.cols + c) v.mine ≡ Some x

cell_col : (g : Grid) → All (λ row. length row ≡ g.cols) g.cells → (r c : ℕ) (x : Plain) → cell r c g ≡ Some x → c < g.cols
cell_col g even r c x h =
    let a = then_is (λ (row : List Plain). slice_get row c) (slice_get g.cells r) x h in
    let wide : length a.0 ≡ g.cols = all_get (λ row. length row ≡ g.cols) g.cells even r a.0 a.1 in
    omega (arith, slice_get_within a.0 c x a.2, wide)

pub first_more : (g : Grid) → All (λ row. length row ≡ g.cols) g.cells → (n r c : ℕ) (x : Plain) (v u : ValueView) → n ≡ r * g.cols + c → c < g.cols → cell r c g ≡ Some x → Stored n x v u → HasFirst g n v → HasFirst g (n + 1) u
first_more g even n r c x v u is low at s has p q y h below =
    elim (cases_eq (p * g.cols + q) n) [
      | inl e ↦
          (let a = slots_apart g.cols p r q c (cell_col g even p q y h) low (e ∙ is) in
          let same : cell p q g ≡ cell r c g = ap (λ z. cell z q g) a.0 ∙ ap (λ z. cell r z g) a.1 in
          let one : y ≡ x = some_is (sym h ∙ same ∙ at) in
          ap (λ z. value_in z u.mine) e ∙ s.here ∙ ap Some (sym one))
      | inr d ↦ s.others (p * g.cols + q) d ∙ has p q y h (omega (arith, d, below))
    ]

-- an edit

get_here : (xs : List Plain) (i : ℕ) (v x : Plain) → slice_get (slice_set xs i v) i ≡ Some x → x ≡ v
get_here [] i v x h = absurd (none_some h)
get_here (y ∷ ys) zero v x h = sym (some_is h)
get_here (y ∷ ys) (suc i) v x h = get_here ys i v x h

read_here : (r c : ℕ) (v x : Plain) (rows : List (List Plain)) → read r c (written r c v rows) ≡ Some x → x ≡ v
read_here r c v x [] h = absurd (none_some h)
read_here zero c v x (row ∷ rows) h = get_here row c v x h
read_here (suc r) c v x (row ∷ rows) h = read_here r c v x rows h

cells_edited : (g : Grid) → All (λ row. length row ≡ g.cols) g.cells → (r c : ℕ) (y : Plain) (v u : ValueView) → c < g.cols → Stored (r * g.cols + c) y v u → HasCells g v → HasCells (with_cell r c y g) u
cells_edited g even r c y v u low s has p q x h =
    elim (cases_eq p r) [
      | inl a ↦
          elim (cases_eq q c) [
            | inl b ↦
                (let k : read r c (written r c y g.cells) ≡ Some x = subst (λ z. read z c (written r c y g.cells) ≡ Some x) a (subst (λ z. read p z (written r c y g.cells) ≡ Some x) b h) in
                ap (λ z. value_in (z * g.cols + q) u.mine) a ∙ ap (λ z. value_in (r * g.cols + z) u.mine) b ∙ s.here ∙ ap Some (sym (read_here r c y x g.cells k)))
            | inr d ↦ elsewhere (λ e f. d f)
          ]
      | inr d ↦ elsewhere (λ e f. d e)
    ]
  where
    elsewhere : (p ≡ r → q ≡ c → ⊥) → value_in (p * g.cols + q) u.mine ≡ Some x
    elsewhere apart =
        let before : cell p q g ≡ Some x = sym (read_other p q r c y g.cells apart) ∙ h in
        s.others (p * g.cols + q) (λ e. let z = slots_apart g.cols p r q c (cell_col g even p q x before) low e in apart z.0 z.1) ∙ has p q x before

-- the edits so far
pub record Edited (g : Grid) (edits : List Edit) (i : ℕ) (v : ValueView) : Type 0 where
  pub now : Grid
  pub cols : now.cols ≡ g.cols
  pub even : All (λ row. length row ≡ now.cols) now.cells
  pub rest : with_edits (drop i edits) now ≡ with_edits edits g
  pub cells : HasCells now v

pub edited_none : (g : Grid) (edits : List Edit) (v : ValueView) → IsGrid g → HasCells g v → Edited g edits 0 v
edited_none g edits v ok has = record { now = g; cols = refl; even = ok.even; rest = drop_none edits; cells = has }
  where
    drop_none : (es : List Edit) → with_edits (drop 0 es) g ≡ with_edits es g
    drop_none [] = refl
    drop_none (e ∷ es) = refl

pub edited_more : (g : Grid) (edits : List Edit) (i : ℕ) (e : Edit) (v u : ValueView) → slice_get edits i ≡ Some e → e.col < g.cols → Stored (e.row * g.cols + e.col) e.value v u → Edited g edits i v → Edited g edits (i + 1) u
edited_more g edits i e v u is low s d =
    let next : drop i edits ≡ e ∷ drop (i + 1) edits =
    drop_more edits i e (slice_get_within edits i e is) ∙ ap (λ f. f ∷ drop (i + 1) edits) (get_or_from_slice_get edits i e e is) in
    record {
      now = with_cell e.row e.col e.value d.now;
      cols = d.cols;
      even = even-written d.now.cols e.row e.col e.value d.now.cells d.even;
      rest = ap (λ es. with_edits es d.now) (sym next) ∙ d.rest;
      cells = cells_edited d.now d.even e.row e.col e.value v u (omega (arith, low, d.cols)) (subst (λ n. Stored (e.row * n + e.col) e.value v u) (sym d.cols) s) d.cells;
    }

pub edited_all : (g : Grid) (edits : List Edit) (i : ℕ) (v : ValueView) → length edits ≤ i → Edited g edits i v → HasCells (with_edits edits g) v
edited_all g edits i v over d =
    subst (λ h. HasCells h v) (ap (λ es. with_edits es d.now) (sym (drop_all i edits over)) ∙ d.rest) d.cells

pub edit_inside : (g : Grid) (b : Batch) (i : ℕ) (e : Edit) → IsBatch b → GoesInto b g → slice_get b.edits i ≡ Some e → (e.row < g.room) × (e.col < g.cols)
edit_inside g b i e sound goes is =
    let here = of_edit (λ (e : Edit). (e.row < b.room) × (e.col < b.cols)) b.edits i e sound.inside is in
    (omega (arith, here.0, goes.room), omega (arith, here.1, goes.cols))

-- the number of rows behind the cells
pub placed : (g : Grid) (ok : IsGrid g) (outs : ℕ) (v u : ValueView) → HasCells g v → Stored (first_output g + outs) (plain.Int (pos g.rows)) v u → HasGrid g outs u
placed g ok outs v u has s =
    record {
      cells = λ r c x h.
          let i = cell_inside g ok r c x h in
          let low = slot_below g.cols g.room r c i.0 i.1 in
          s.others (r * g.cols + c) (λ e. omega (arith, e, low)) ∙ has r c x h;
      row_count = s.here;
    }

-- for the loops

pub first_is : (g : Grid) (room cols : ℕ) → room ≡ g.room → cols ≡ g.cols → room * cols ≡ first_output g
first_is g room cols a b = ap (λ z. z * cols) a ∙ ap (λ z. g.room * z) b

pos_of : (room k n : ℕ) → n < room * k → 0 < k
pos_of room zero n h = absurd (omega arith)
pos_of room (suc k) n h = omega arith

whole_of : (n k : ℕ) → 0 < k → n ≡ (n / k) * k + n % k
whole_of n k h = omega arith

rest_of : (n k : ℕ) → 0 < k → n % k < k
rest_of n k h = omega arith

pub first_placed : (g : Grid) → IsGrid g → (room cols n : ℕ) (x : Plain) (v u : ValueView) → room ≡ g.room → cols ≡ g.cols → n < room * cols → cell (n / cols) (n % cols) g ≡ Some x → Stored n x v u → HasFirst g n v → HasFirst g (n + 1) u
first_placed g ok room cols n x v u a b low at s has =
    let k : 0 < g.cols = subst (λ z. 0 < z) b (pos_of room cols n low) in
    first_more g ok.even n (n / g.cols) (n % g.cols) x v u (whole_of n g.cols k) (rest_of n g.cols k) (subst (λ z. cell (n / z) (n % z) g ≡ Some x) b at) s has

pub first_none : (g : Grid) (v : ValueView) → HasFirst g 0 v
first_none g v r c x h low = absurd (omega (arith, low))

pub first_all : (g : Grid) → IsGrid g → (room cols n : ℕ) (v : ValueView) → room ≡ g.room → cols ≡ g.cols → room * cols ≤ n → HasFirst g n v → HasCells g v
first_all g ok room cols n v a b over has r c x h =
    let i = cell_inside g ok r c x h in
    let low = slot_below g.cols g.room r c i.0 i.1 in
    has r c x h (omega (arith, low, over, first_is g room cols a b))

-- the slot of an edit
pub edit_slot : (g : Grid) → IsGrid g → (b : Batch) (i : ℕ) (e : Edit) (cols : ℕ) → IsBatch b → GoesInto b g → slice_get b.edits i ≡ Some e → cols ≡ g.cols → (e.row * cols + e.col < first_output g) × (e.row * cols + e.col < 65536)
edit_slot g ok b i e cols sound goes is same =
    let p = edit_inside g b i e sound goes is in
    let low : e.row * g.cols + e.col < first_output g = slot_below g.cols g.room e.row e.col p.0 p.1 in
    let z : e.row * cols + e.col ≡ e.row * g.cols + e.col = ap (λ n. e.row * n + e.col) same in
    (omega (arith, low, z), omega (arith, low, z, ok.fits))

pub edited_next : (g : Grid) (b : Batch) (i : ℕ) (e : Edit) (cols : ℕ) (v u : ValueView) → IsBatch b → GoesInto b g → slice_get b.edits i ≡ Some e → cols ≡ g.cols → Stored (e.row * cols + e.col) e.value v u → Edited g b.edits i v → Edited g b.edits (i + 1) u
edited_next g b i e cols v u sound goes is same s d =
    edited_more g b.edits i e v u is (edit_inside g b i e sound goes is).1 (subst (λ n. Stored (e.row * n + e.col) e.value v u) same s) d

-- a batch puts nothing outside
pub put_numbers : (b : Batch) (g : Grid) → ((put_all b g).room ≡ g.room) × ((put_all b g).cols ≡ g.cols)
put_numbers b g = (room_kept b.edits g, cols_kept b.edits g)

-- so it goes into the grid that it was put into by its room and its columns
pub room_goes : (b : Batch) (g h : Grid) → GoesInto b g → h ≡ put_all b g → b.room ≡ h.room
room_goes b g h goes is = goes.room ∙ sym (put_numbers b g).0 ∙ sym (ap (λ (z : Grid). z.room) is)

pub cols_goes : (b : Batch) (g h : Grid) → GoesInto b g → h ≡ put_all b g → b.cols ≡ h.cols
cols_goes b g h goes is = goes.cols ∙ sym (put_numbers b g).1 ∙ sym (ap (λ (z : Grid). z.cols) is)

pub put_cells_same : (b : Batch) (g : Grid) (v : ValueView) → HasCells (with_edits b.edits g) v → HasCells (put_all b g) v
put_cells_same b g v has = has

pub first_put : (b : Batch) (g h : Grid) → h ≡ put_all b g → first_output h ≡ first_output g
first_put b g h e = let n = put_numbers b g in ap first_output e ∙ ap (λ z. z * (put_all b g).cols) n.0 ∙ ap (λ z. g.room * z) n.1

-- the grid after its cells and its number of rows were stored
pub placed_grid : (h : Grid) (ok : IsGrid h) (room cols outs : ℕ) (x : Plain) (v u : ValueView) → HasCells h v → room ≡ h.room → cols ≡ h.cols → x ≡ plain.Int (pos h.rows) → Stored (room * cols + outs) x v u → HasGrid h outs u
placed_grid h ok room cols outs x v u has a c e s =
    let z : room * cols + outs ≡ first_output h + outs = ap (λ k. k + outs) (first_is h room cols a c) in
    placed h ok outs v u has (subst (λ k. Stored k (plain.Int (pos h.rows)) v u) z (subst (λ y. Stored (room * cols + outs) y v u) e s))

-- the same of what a batch was put in
pub placed_all : (b : Batch) (g h : Grid) (ok : IsGrid h) (room cols outs : ℕ) (x : Plain) (v u : ValueView) → h ≡ put_all b g → HasCells (with_edits b.edits g) v → room ≡ h.room → cols ≡ h.cols → x ≡ plain.Int (pos h.rows) → Stored (room * cols + outs) x v u → HasGrid h outs u
placed_all b g h ok room cols outs x v u is has a c e s =
    placed_grid h ok room cols outs x v u (subst (λ k. HasCells k v) (sym is) (put_cells_same b g v has)) a c e s

-- each cell's slot is a fixed one
pub inside : (g : Grid) → IsGrid g → (outs r c : ℕ) (x : Plain) → cell r c g ≡ Some x → r * g.cols + c < fixed_slots g outs
inside g ok outs r c x h =
    let i = cell_inside g ok r c x h in
    let low = slot_below g.cols g.room r c i.0 i.1 in
    omega (arith, low)
