-- What a pass has of an engine after more was made, however that ended.
use Rattle.std.proofs.Common.{◌≡◌, ℕ, pos, ◌+◌, ◌*◌, ◌<◌, ◌≤◌, ◌==◌, cond, List, [], ◌∷◌, length, Option, Some, None, slice_get, refl, ap, sym, ◌∙◌, subst, inl, inr, arith}
use Rattle.std.proofs.lemmas.Bool.{cases_lt}
use Rattle.std.proofs.lemmas.List.Sums.{sum_by-cons}
use Rattle.psac_ops.specs.declared.plain.Handle.{Handle}
use Rattle.psac_ops.specs.declared.plain.Plain.{Plain}
use Rattle.psac_ops.specs.declared.plain.Plain.TheVariants as plain
use Rattle.psac_ops.specs.Value.{Value, nil, bool, int, text}
use Rattle.psac_ops.specs.Named.{cell_value, value_of}
use Rattle.psac_slots.specs.Handles.{Member, IsDistinct, slot_times}
use Rattle.psac_slots.specs.declared.view.ClaimView.{ClaimView}
use Rattle.psac_values.specs.declared.view.OwnedView.{OwnedView}
use Rattle.psac_values.specs.declared.view.ValueView.{ValueView}
use Rattle.psac_values.specs.Knowing.{Has}
use Rattle.psac_values.specs.Steps.{Lacks}
use Rattle.psac_fork.specs.declared.tables.Pass.{Pass}
use Rattle.psac_inputs.specs.Grid.{Grid, IsGrid, IsCellValue, cell}
use Rattle.psac_model.specs.declared.ends.Caps.{Caps}
use Rattle.psac_model.specs.declared.ends.CapKind.TheVariants as cap
use Rattle.psac_model.specs.Names.{Name, Input, Rows, held}
use Rattle.psac_model.specs.Fresh.{cells_heap}
use Rattle.psac_naming.specs.Alike.{Alike, Both}
use Rattle.psac_naming.specs.Naming.{IsNamed}
use Rattle.psac_laws.proofs.Places.{nat_is, test_or, zero_or}
use Rattle.psac_plain.specs.Opened.{at_slot, first_output}
use Rattle.psac_plain.proofs.Cells.{held_cells}
use Rattle.psac_trace.specs.Rights.{held as held_in, Within, Sees, Kept as Stays}
use Rattle.psac_trace.specs.Grown.{Differ, MoreClaims, MoreValues, claims_in}
use Rattle.psac_stage.specs.Places.{fixed_slots, base_heap}
use Rattle.psac_stage.specs.Holding.{entries, HasGrid, HasFixed}
use Rattle.psac_stage.specs.Resting.{IsTop, IsYoung, HasAll}
use Rattle.psac_stage.proofs.Members.{counted_in, entry_of}
use Rattle.psac_stage.proofs.Holding.{then_is, value_one, sees_value}
use Rattle.psac_stage.proofs.Entries.{cell_inside, cell_plain}
use Rattle.psac_stage.proofs.Starts.{start, named_place, start_both}
use Rattle.std.specs.Prelude.{sum_by}
use Rattle.psac_readers.specs.Chained.{mods_of}
use Rattle.psac_model.specs.declared.ends.CapKind.{CapKind}

-- the values of the inputs in the base

alike_cell : (T : Handle → Name → Type 0) (y : Value Handle) (x : Plain) → IsCellValue x → Alike T y (cell_value x) → y ≡ value_of x
alike_cell T nil plain.Nil p h = refl
alike_cell T (bool a) (plain.Bool b) p h = ap bool h
alike_cell T (int a) (plain.Int b) p h = ap int h
alike_cell T (text i k) (plain.Text t) p h = ap (λ z. text z k) h.0 ∙ ap (text t.id) h.1
alike_cell T y (plain.Ref m) p h = absurd cc
alike_cell T y (plain.Pair m n) p h = absurd cc
alike_cell T _ _ p h = absurd h

cell_by : (T : Handle → Name → Type 0) (o : Option (Value Handle)) (x : Plain) → IsCellValue x → Both (Alike T) o (Some (cell_value x))
    → o ≡ Some (value_of x)
cell_by T None x p h = absurd h
cell_by T (Some y) x p h = ap Some (alike_cell T y x p h)

module _ (g : Grid) (ok : IsGrid g) (ds : List ℕ) where
  pub base_cell : (r c : ℕ) (x : Plain) → cell r c g ≡ Some x → held_in (base_heap g ds) (at_slot (r * g.cols + c)) ≡ Some (value_of x)
  base_cell r c x h =
      let a = then_is (λ (row : List Plain). slice_get row c) (slice_get g.cells r) x h in
      let z : 0 + r ≡ r = omega arith in
      let q : held (cells_heap 0 g.cells) (Input r c) ≡ Some (cell_value x) = subst
      (λ k. held (cells_heap 0 g.cells) (Input k c) ≡ Some (cell_value x)) z (held_cells 0 g.cells r c a.0 x a.1 a.2) in
      let T = IsNamed (start g ds ok) in
      let b = start_both g ds ok (at_slot (r * g.cols + c)) (Input r c) (named_place g ds ok (Input r c) (cell_inside g ok r c x h)) in
      cell_by T (held_in (base_heap g ds) (at_slot (r * g.cols + c))) x (cell_plain g ok r c x h)
      (subst (Both (Alike T) (held_in (base_heap g ds) (at_slot (r * g.cols + c)))) q b)

  pub base_rows : held_in (base_heap g ds) (at_slot (first_output g + length ds)) ≡ Some (value_of (plain.Int (pos g.rows)))
  base_rows =
      let T = IsNamed (start g ds ok) in
      cell_by T (held_in (base_heap g ds) (at_slot (first_output g + length ds))) (plain.Int (pos g.rows)) refl
      (start_both g ds ok (at_slot (first_output g + length ds)) Rows (named_place g ds ok Rows tt))

-- what a pass lacks lies behind the inputs and outputs
pub lacked_behind : (n : ℕ) (v : ValueView) → HasFixed n v → (s : ℕ) → Lacks v s → n ≤ s
lacked_behind n v fixed s l =
    elim (cases_lt s n) [
      | inl low ↦ (let e = entry_of s v.mine (fixed.once s low) in absurd (l.mine e.0 e.1 e.2))
      | inr high ↦ high
    ]

-- slots that differ
pub differ_distinct : (hs : List Handle) → Differ hs → IsDistinct hs
differ_distinct [] d s = omega arith
differ_distinct (m ∷ ms) d s =
    let c = sum_by-cons (λ (h : Handle). cond (h.slot == s) 1 0) m ms in
    let r = differ_distinct ms d.1 s in
    elim (test_or (m.slot == s)) [
      | inl t ↦
          (let o : ◌≡◌ {A = ℕ} (cond (m.slot == s) 1 0) 1 = ap (λ b. cond b 1 0) t in
          elim (zero_or (slot_times s ms)) [
            | inl z ↦ omega (arith, c, o, z)
            | inr more ↦
                (let q = counted_in (λ (h : Handle). h.slot == s) ms more in
                absurd (d.0 q.0 q.1 (nat_is q.0.slot s q.2 ∙ sym (nat_is m.slot s t))))
          ])
      | inr t ↦ (let o : ◌≡◌ {A = ℕ} (cond (m.slot == s) 1 0) 0 = ap (λ b. cond b 1 0) t in omega (arith, c, o, r))
    ]

-- from one pass to another, by which these modifiables were made, and other things: all that lasts however the call ended
pub record Grew (p q : Pass) (mods : List Handle) : Type 0 where
  pub stays : Stays p.values.knows q.values.knows
  pub many : CapKind → ℕ
  pub claims : (c : CapKind) → MoreClaims (claims_in c p) (claims_in c q) (many c)
  pub values : MoreValues p.values.knows q.values.knows mods
  pub sets : q.readers.knows.mods ≡ p.readers.knows.mods
  pub walk : (f : ℕ → ℕ) → sum_by f (mods_of q.readers.knows.walk) ≡ sum_by f (mods_of p.readers.knows.walk)
  pub shared : q.readers.knows.shared ≡ p.readers.knows.shared
  pub nodes_shared : q.marks.knows.shared ≡ p.marks.knows.shared

young_more : (age : ℕ) (c d : ClaimView) (n : ℕ) → MoreClaims c d n → IsYoung age c → IsYoung age d
young_more age c d n m y =
    record {
      free = λ h i. y.free h (subst (Member h) m.list i);
      out = λ h i. elim (m.held h i) [ inl j ↦ y.out h j | inr j ↦ y.free h j ];
    }

top_more : (most : ℕ) (c d : ClaimView) (n : ℕ) → MoreClaims c d n → IsTop most c → IsTop most d
top_more most c d n m y = record { branch = m.branch ∙ y.branch; count_is = m.count ∙ y.count_is }

module _ (g : Grid) (ok : IsGrid g) (ds : List ℕ) (caps : Caps) (age : ℕ) (p q : Pass) (all : HasAll g (length ds) caps age p)
    (once : (s : ℕ) → entries s p.values.knows.mine ≤ 1) (mods : List Handle) (grew : Grew p q mods) where
  abbrev fixed : ℕ
  fixed = fixed_slots g (length ds)

  -- what was made lies behind the inputs and outputs
  pub grown_behind : (m : Handle) → Member m mods → fixed ≤ m.slot
  grown_behind m i = lacked_behind fixed p.values.knows all.fixed m.slot (grew.values.lacked m i)

  pub grown_distinct : IsDistinct mods
  grown_distinct = differ_distinct mods grew.values.differ

  pub grown_entries : (s : ℕ) → entries s q.values.knows.mine ≡ entries s p.values.knows.mine + slot_times s mods
  grown_entries s = grew.values.mine (λ (h : Handle). cond (h.slot == s) 1 0)

  none_grown : (s : ℕ) → s < fixed → slot_times s mods ≡ 0
  none_grown s low =
      elim (zero_or (slot_times s mods)) [
        | inl z ↦ z
        | inr more ↦
            (let k = counted_in (λ (h : Handle). h.slot == s) mods more in
            let e = nat_is k.0.slot s k.2 in
            let b = grown_behind k.0 k.1 in
            absurd (omega (arith, e, b, low)))
      ]

  -- where something was made nothing was before
  none_then : (s : ℕ) → 0 < slot_times s mods → entries s p.values.knows.mine ≡ 0
  none_then s more =
      elim (zero_or (entries s p.values.knows.mine)) [
        | inl z ↦ z
        | inr had ↦
            (let k = counted_in (λ (h : Handle). h.slot == s) mods more in
            let o = counted_in (λ (y : OwnedView). y.of.slot == s) p.values.knows.mine had in
            absurd ((grew.values.lacked k.0 k.1).mine o.0 o.1 (nat_is o.0.of.slot s o.2 ∙ sym (nat_is k.0.slot s k.2))))
      ]

  pub grown_few : (s : ℕ) → entries s q.values.knows.mine ≤ 1
  grown_few s =
      elim (zero_or (slot_times s mods)) [
        | inl z ↦ omega (arith, grown_entries s, z, once s)
        | inr more ↦ omega (arith, grown_entries s, none_then s more, grown_distinct s)
      ]

  pub grown_alone : q.values.knows.known ≡ []
  grown_alone = grew.stays.known ∙ all.fixed.alone

  fixed_grown : HasFixed fixed q.values.knows
  fixed_grown =
      record {
        fixed_is = grew.stays.fixed ∙ all.fixed.fixed_is;
        once = λ s low. grown_entries s ∙ (let z = none_grown s low in let o = all.fixed.once s low in omega (arith, z, o));
        first = λ o i low.
            let e = entry_of o.of.slot p.values.knows.mine (all.fixed.once o.of.slot low) in
            let mine : Has q.values.knows e.0.of = grew.stays.mine e.0.of (e.0, e.1, refl) in
            let same : o.of ≡ e.0.of = grew.stays.tidy.single o.of e.0.of (o, i, refl) mine (sym e.2) in
            ap (λ (z : Handle). z.generation) same ∙ all.fixed.first e.0 e.1 (omega (arith, e.2, low));
        alone = grown_alone;
      }

  module _ (sees : Within (base_heap g ds) (Sees q.values.knows)) where
    grid_grown : HasGrid g (length ds) q.values.knows
    grid_grown =
        record {
          cells = λ r c x h.
              let k = sees_value q.values.knows (at_slot (r * g.cols + c)) (value_of x) grown_alone (grown_few (r * g.cols + c))
              (sees (at_slot (r * g.cols + c)) (value_of x) (base_cell g ok ds r c x h)) in
              k.known ∙ ap Some (value_one k.value x k.is);
          row_count =
              (let k = sees_value q.values.knows (at_slot (first_output g + length ds)) (value_of (plain.Int (pos g.rows))) grown_alone
              (grown_few (first_output g + length ds)) (sees (at_slot (first_output g + length ds))
              (value_of (plain.Int (pos g.rows))) (base_rows g ok ds)) in
              k.known ∙ ap Some (value_one k.value (plain.Int (pos g.rows)) k.is));
        }

    pub all_grown : HasAll g (length ds) caps age q
    all_grown =
        record {
          mods = top_more caps.mods _ _ _ (grew.claims cap.Mods) all.mods;
          links = top_more caps.links _ _ _ (grew.claims cap.Links) all.links;
          nodes = top_more caps.nodes _ _ _ (grew.claims cap.Nodes) all.nodes;
          young_mods = young_more age _ _ _ (grew.claims cap.Mods) all.young_mods;
          young_nodes = young_more age _ _ _ (grew.claims cap.Nodes) all.young_nodes;
          fixed = fixed_grown;
          grid = grid_grown;
          sets = record {
            mods_is = grew.sets ∙ all.sets.mods_is;
            all = λ m low. let e = grew.walk (λ x. cond (x == m) 1 0) in let a = all.sets.all m low in omega (arith, e, a);
            alone = grew.shared ∙ all.sets.alone;
          };
          alone = grew.nodes_shared ∙ all.alone;
        }
