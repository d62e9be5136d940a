-- What is told of the handles of inputs, of outputs and of what the record that is kept made.
use Rattle.std.proofs.Common.{◌≡◌, ◌⊎◌, ◌+◌, ◌*◌, ◌-◌, ◌<◌, ◌≤◌, ℕ, zero, suc, true, false, nat_le, nat_lt, List, [], ◌∷◌, ◌++◌, map, length, Option, Some, None, refl, ap, sym, ◌∙◌, subst, inl, inr, arith, suc-mul, zero-mul}
use Rattle.std.specs.Prelude.{option_map, is_some}
use Rattle.std.proofs.lemmas.Bool.{cases_lt}
use Rattle.std.proofs.lemmas.Bool.Decides.{nat_tests}
use Rattle.psac_ops.specs.declared.plain.Handle.{Handle}
use Rattle.psac_ops.specs.declared.plain.Plain.{Plain}
use Rattle.psac_ops.specs.Value.{Value}
use Rattle.psac_ops.specs.Named.{value_of, same_handle}
use Rattle.psac_ops.specs.Words.{of_words}
use Rattle.psac_slots.specs.Handles.{Member}
use Rattle.psac_slots.specs.Claiming.{Accounted}
use Rattle.psac_slots.proofs.Pairs.{member_left as in_left, member_right as in_right, member_cases, map_member}
use Rattle.psac_values.specs.declared.view.ValueView.{ValueView}
use Rattle.psac_values.specs.Steps.{made_handle}
use Rattle.psac_values.specs.Knowing.{IsLive}
use Rattle.psac_inputs.specs.Grid.{Grid, IsGrid}
use Rattle.psac_model.specs.declared.ends.End.TheVariants.{Done}
use Rattle.psac_model.specs.Names.{Path, Name, Input, Out, Rows, Made, held, same_name}
use Rattle.psac_model.specs.Fresh.{World, fresh, grid_heap, levels}
use Rattle.psac_naming.specs.Alike.{Alike, Both}
use Rattle.psac_naming.specs.Naming.{Naming, IsNamed}
use Rattle.psac_naming.proofs.Namings.{named_left, named_right, named_either, tests_names}
use Rattle.psac_naming.proofs.Trees.{both_more}
use Rattle.psac_laws.specs.Standing.{params}
use Rattle.psac_laws.proofs.Opening.{IsChecked}
use Rattle.psac_laws.proofs.Places.{none_some, some_is, not_both}
use Rattle.psac_plain.specs.Opened.{at_slot, first_output}
use Rattle.psac_plain.proofs.Beginning as begin
use Rattle.psac_plain.proofs.Beginning.{begin_linked}
use Rattle.psac_plain.proofs.Cells.{slot_below}
use Rattle.psac_plain.proofs.Linked.{handles_told}
use Rattle.psac_traced.specs.Rec as rec
use Rattle.psac_traced.specs.Rec.{Rec, held_by, writes}
use Rattle.psac_traced.specs.Places.{names, Makes}
use Rattle.psac_traced.specs.Serial.{Serial}
use Rattle.psac_traced.specs.Mending.{made_by}
use Rattle.psac_traced.proofs.Alike.{held_alike}
use Rattle.psac_traced.proofs.Places.{names_made, names_under, made_named}
use Rattle.psac_record.specs.declared.record.Record.{Record}
use Rattle.psac_record.specs.Kept.{Kept, E, A, W, S, P, R, bare, made_of}
use Rattle.psac_record.specs.Shown.{kept_of, rec_of}
use Rattle.psac_trace.specs.Rights.{Heap, In, Sees, Ready, held as held_in}
use Rattle.psac_trace.specs.Raising.{puts}
use Rattle.psac_trace.proofs.Heaps.{held_front, held_either, one_is, handle_by}
use Rattle.psac_stage.specs.Places.{fixed_slots, base_heap, heap_of}
use Rattle.psac_stage.specs.Holding.{HasFixed, HasGrid, entries, all_known}
use Rattle.psac_stage.specs.Recorded.{setting_at, places_at, LeftBy, HasMade}
use Rattle.psac_stage.proofs.Apart.{makes_member}
use Rattle.psac_stage.proofs.Bounds.{out_made, out_high, out_apart}
use Rattle.psac_stage.proofs.Holding.{then_is, known_is, value_one, sees_value}
use Rattle.psac_stage.proofs.Known.{known_entry}
use Rattle.psac_stage.proofs.Readies.{first_ready}
use Rattle.psac_stage.proofs.Starts.{start, one, place, named_place, start_both, held_is}
use Rattle.psac_engine.specs.Held.{made_names, value_named}
use Rattle.psac_engine.specs.Looking.{KnownAs, is_open}
use Rattle.psac_engine.proofs.Aging.{in_same}
use Rattle.psac_engine.proofs.Outputs.{output_bound}
use Rattle.psac_engine.proofs.Shows.{all_named, named_low, shows}
use Rattle.psac_engine.proofs.Written.{made_written, done_written}

-- a slot of a grid is that of a cell
split : (room cols s : ℕ) → s < room * cols → (r : ℕ) × (c : ℕ) × (r < room) × (c < cols) × (r * cols + c ≡ s)
split zero cols s low = absurd (omega (arith, low, zero-mul cols))
split (suc room) cols s low =
    let more = suc-mul room cols in
    elim (cases_lt s cols) [
      | inl l ↦ (0, s, omega arith, l, (let z = zero-mul cols in omega (arith, z)))
      | inr h ↦
          (let t = split room cols (s - cols) (omega (arith, low, more, h)) in
          let k = suc-mul t.0 cols in
          let a = t.2 in
          let b = t.4 in
          (suc t.0, t.1, omega (arith, a), t.3, omega (arith, b, k, h)))
    ]

-- what was written is a part of the record
put_of : (k : Kept) (m : Handle) (y : Value Handle) → held_in (writes (bare k)) m ≡ Some y
    → (x : Plain) × Member {A = Handle × Plain} (m, x) (puts k) × (value_of x ≡ y)
put_of E m y e = absurd (none_some e)
put_of (A n r) m y e = put_of r m y e
put_of (W n v r) m y e =
    elim (held_either (writes (bare r)) ((n, value_of v) ∷ []) m y e) [
      | inl i ↦ (let p = put_of r m y i in (p.0, inr p.1, p.2))
      | inr i ↦
          (let s = one_is n m (value_of v) y i.1 in
          (v, inl (ap (λ (z : Handle). (z, v)) s.0), s.1))
    ]
put_of (S n t r) m y e =
    elim (held_either (writes (bare r)) (writes (bare t)) m y e) [
      | inl i ↦ (let p = put_of r m y i in (p.0, in_right (m, p.0) (puts t) (puts r) p.1, p.2))
      | inr i ↦ (let p = put_of t m y i.1 in (p.0, in_left (m, p.0) (puts t) (puts r) p.1, p.2))
    ]
put_of (P n t r) m y e =
    elim (held_either (writes (bare r)) (writes (bare t)) m y e) [
      | inl i ↦ (let p = put_of r m y i in (p.0, in_right (m, p.0) (puts t) (puts r) p.1, p.2))
      | inr i ↦ (let p = put_of t m y i.1 in (p.0, in_left (m, p.0) (puts t) (puts r) p.1, p.2))
    ]
put_of (R b t) m y e = put_of t m y e

-- what stands among the made
pub member_makes : (r : Rec Handle) (m : Handle) → Member m (made_by r) → Makes r m
member_makes rec.E m i = absurd i
member_makes (rec.A n r) m (inl e) = inl e
member_makes (rec.A n r) m (inr i) = inr (member_makes r m i)
member_makes (rec.W n v r) m i = member_makes r m i
member_makes (rec.S t r) m i =
    elim (member_cases m (made_by t) (made_by r) i) [ inl j ↦ inl (member_makes t m j) | inr j ↦ inr (member_makes r m j) ]
member_makes (rec.P t r) m i =
    elim (member_cases m (made_by t) (made_by r) i) [ inl j ↦ inl (member_makes t m j) | inr j ↦ inr (member_makes r m j) ]
member_makes (rec.R room block env reads t) m i = member_makes t m i

module _ (w : World) (g : Grid) (ok : IsGrid g) (checked : IsChecked w) (v : ValueView)
    (fixed : HasFixed (fixed_slots g (length w.main.dests)) v) (grid : HasGrid g (length w.main.dests) v)
    (whole : Accounted v.claims) where
  abbrev ds : List ℕ
  ds = w.main.dests

  abbrev outs : ℕ
  outs = length ds

  abbrev first : ℕ
  first = first_output g

  abbrev base : Heap
  base = base_heap g ds

  abbrev at : Name → Handle
  at = place g ds ok

  abbrev IsThere : Name → Type 0
  IsThere = begin.IsOpen g ds ok

  ready : Ready (setting_at w g) (params w.main) [] (places_at w g) v base
  ready = first_ready w g ok checked v fixed grid

  -- the name of a fixed slot
  fixed_name : (m : Handle) → m.slot < fixed_slots g outs → m.generation ≡ 0 → (n : Name) × IsThere n × (at n ≡ m)
  fixed_name m low none =
      elim (cases_lt m.slot first) [
        | inl l ↦
            (let s = split g.room g.cols m.slot l in
            (Input s.0 s.1, (s.2, s.3), handle_by (at_slot (s.0 * g.cols + s.1)) m s.4 (sym none)))
        | inr h ↦
            elim (cases_lt m.slot (first + outs)) [
              | inl l ↦
                  (let e : first + (m.slot - first) ≡ m.slot = omega (arith, h) in
                  let b : m.slot - first < outs = omega (arith, h, l) in
                  (Out (m.slot - first), b, handle_by (at_slot (first + (m.slot - first))) m e (sym none)))
              | inr k ↦
                  (let e : first + outs ≡ m.slot = omega (arith, low, k) in
                  (Rows, tt, handle_by (at_slot (first + outs)) m e (sym none)))
            ]
      ]

  named_there : (m : Handle) (n : Name) → IsThere n → at n ≡ m → IsNamed (start g ds ok) m n
  named_there m n i e = subst (λ z. IsNamed (start g ds ok) z n) e (named_place g ds ok n i)

  -- a name of those that are there from the start
  start_low : (m : Handle) (n : Name) → IsNamed (start g ds ok) m n → (m.slot < fixed_slots g outs) × (m.generation ≡ 0)
  start_low m n i =
      let low : m.slot < fixed_slots g outs =
      elim (cases_lt m.slot (fixed_slots g outs)) [ inl l ↦ l | inr h ↦ absurd (named_low w g ok m (n, i) h) ] in
      (low, ((begin_linked g ds ok).within m n i).0)

  start_there : (m : Handle) (n : Name) → IsNamed (start g ds ok) m n → IsThere n × (at n ≡ m)
  start_there m n i =
      let l = start_low m n i in
      let f = fixed_name m l.0 l.1 in
      let e : f.0 ≡ n = (one g ds ok m m f.0 n (named_there m f.0 f.1 f.2) i).0 refl in
      (subst IsThere e f.1, subst (λ z. at z ≡ m) e f.2)

  seen_known : (m : Handle) (y : Value Handle) → Sees v m y → (x : Plain) × KnownAs v m x × (value_of x ≡ y)
  seen_known m y s = (s.1, (s.0, s.2, s.3), s.4)

  same_known : (m : Handle) (x z : Plain) → entries m.slot v.mine ≤ 1 → KnownAs v m x → KnownAs v m z → x ≡ z
  same_known m x z few k l =
      let a = sees_value v m (value_of x) fixed.alone few (k.0, x, k.1, k.2, refl) in
      let b = sees_value v m (value_of z) fixed.alone few (l.0, z, l.1, l.2, refl) in
      sym (value_one a.value x a.is) ∙ some_is (sym a.known ∙ b.known) ∙ value_one b.value z b.is

  few_fixed : (s : ℕ) → s < fixed_slots g outs → entries s v.mine ≤ 1
  few_fixed s low = let e = fixed.once s low in omega (arith, e)

  -- an input
  input_in : (n : Name) → IsThere n → ((i : ℕ) → n ≡ Out i → ⊥) → In base (at n)
  input_in (Input r c) i off =
      let a : nat_lt r g.room ≡ true = let l = i.0 in grind (arith, nat_tests) in
      let b : nat_lt c g.cols ≡ true = let l = i.1 in grind (arith, nat_tests) in
      ready.cells r c a b
  input_in Rows i off = ready.row_count
  input_in (Out k) i off = absurd (off k refl)
  input_in (Made p) i off = absurd i

  input_tells : (m : Handle) (n : Name) → IsNamed (start g ds ok) m n → ((i : ℕ) → n ≡ Out i → ⊥) → (x : Plain) → KnownAs v m x
      → Both (Alike (IsNamed (start g ds ok))) (Some (value_of x)) (held (grid_heap g) n)
  input_tells m n i off x k =
      let t = start_there m n i in
      let b = subst (In base) t.1 (input_in n t.0 off) in
      let s = seen_known m b.0 (ready.sees m b.0 b.1) in
      let e : value_of x ≡ b.0 = ap value_of (same_known m x s.0 (few_fixed m.slot (start_low m n i).0) k s.1) ∙ s.2 in
      subst (λ o. Both (Alike (IsNamed (start g ds ok))) o (held (grid_heap g) n)) (b.1 ∙ ap Some (sym e)) (start_both g ds ok m n i)

  -- what a record left
  module _ (k : Kept) (left_it : LeftBy w g (bare k)) (made : HasMade k v) where
    abbrev r : Rec Handle
    r = bare k

    high : (m : Handle) → Makes r m → fixed_slots g outs ≤ m.slot
    high m i =
        let a = out_high k v made.out whole m (makes_member r m i) in
        let e = fixed.fixed_is in
        omega (arith, a, e)

    pub serial : Serial (all_named w g ok r) r base Done (fresh w g)
    serial = shows w g ok r Done (out_apart k v made.out whole) high left_it

    pub written_made : (m : Handle) → Makes r m → In (writes r) m
    written_made =
        made_written (setting_at w g) w.program.funcs checked.each levels w.main.body (places_at w g) base r (params w.main) []
        checked.start.body left_it

    written_out : (i : ℕ) → i < outs → In (writes r) (at (Out i))
    written_out i low =
        let b = output_bound w g ok checked i low in
        done_written (setting_at w g) w.program.funcs checked.each levels w.main.body (places_at w g) base r (params w.main) []
        checked.start.body left_it (at (Out i)) (b.0, b.1, refl, b.2)

    put_known : (m : Handle) (y : Value Handle) → held_in (writes r) m ≡ Some y → (x : Plain) × KnownAs v m x × (value_of x ≡ y)
    put_known m y e =
        let p = put_of k m y e in
        let o = known_entry m p.0 v.mine (made.wrote m p.0 p.1) in
        let a = then_is of_words (all_known o.0.words) p.0 o.3 in
        (p.0, (a.0, inl (o.0, o.1, o.2, known_is o.0.words a.0 a.1), a.2), p.2)

    record_tells : (m : Handle) (n : Name) → IsNamed (all_named w g ok r) m n → In (writes r) m → (x : Plain) → KnownAs v m x
        → Both (Alike (IsNamed (all_named w g ok r))) (Some (value_of x)) (held (fresh w g).heap n)
    record_tells m n i b x known =
        let T = IsNamed (all_named w g ok r) in
        let p = put_known m b.0 b.1 in
        let e : value_of x ≡ b.0 = ap value_of (same_known m x p.0 (made.once m.slot) known p.1) ∙ p.2 in
        let here : held_by same_handle (heap_of g ds r) m ≡ Some (value_of x) = held_front (writes r) base m b.0 b.1 ∙ ap Some (sym e) in
        let s = serial in
        let both = held_alike T same_handle same_name (tests_names (all_named w g ok r) same_handle same_name s.one handles_told refl)
        (heap_of g ds r) (fresh w g).heap m n s.heaps i in
        subst (Both (Alike T) (Some (value_of x))) (held_is (fresh w g).heap n)
        (subst (λ o. Both (Alike T) o (held_by same_name (fresh w g).heap n)) here both)

    out_live : (m : Handle) → Makes r m → IsLive m v
    out_live m i = inr (out_made k v made.out whole m (makes_member r m i))

    live_made : (h : Handle) → Member h v.claims.held → Makes r (made_handle v.fixed h)
    live_made h i =
        member_makes r (made_handle v.fixed h)
        (in_same (made_of k) (map (made_handle v.fixed) v.claims.held) (λ f. sym (made.out f)) (made_handle v.fixed h)
        (map_member (made_handle v.fixed) h v.claims.held i))

  -- what is kept, and what is out
  abbrev pub Keeping : Option Record → Type 0
  Keeping None = v.claims.held ≡ []
  Keeping (Some x) = LeftBy w g (rec_of x) × HasMade (kept_of x) v

  abbrev pub all_names : Option Record → Naming Handle
  all_names kept = start g ds ok ++ made_names kept

  pub live_of : (kept : Option Record) → Keeping kept → (m : Handle) (n : Name) → IsNamed (all_names kept) m n → IsLive m v
  live_of kept h m n i = by kept h (named_either (start g ds ok) (made_names kept) m n i)
    where
      by : (o : Option Record) → Keeping o → IsNamed (start g ds ok) m n ⊎ IsNamed (made_names o) m n → IsLive m v
      by o k (inl j) = let l = start_low m n j in inl (subst (λ z. m.slot < z) (sym fixed.fixed_is) l.0, l.1)
      by None k (inr j) = absurd j
      by (Some x) k (inr j) = out_live (kept_of x) k.0 k.1 m (names_made [] (rec_of x) m n j)

  pub name_of : (kept : Option Record) → Keeping kept → (m : Handle) → IsLive m v → (n : Name) × IsNamed (all_names kept) m n
  name_of kept h m (inl l) =
      let f = fixed_name m (subst (λ z. m.slot < z) fixed.fixed_is l.0) l.1 in
      (f.0, named_left (start g ds ok) (made_names kept) m f.0 (named_there m f.0 f.1 f.2))
  name_of None h m (inr l) = absurd (subst (Member l.0) h l.1)
  name_of (Some x) h m (inr l) =
      let i = subst (Makes (rec_of x)) l.2 (live_made (kept_of x) h.0 h.1 l.0 l.1) in
      let n = made_named [] (rec_of x) m i in
      (n.0, named_right (start g ds ok) (names [] (rec_of x)) m n.0 n.1)

  -- the slot of an output
  out_open : (m : Handle) (i : ℕ) → i < outs → at (Out i) ≡ m → is_open false first outs m.slot ≡ true
  out_open m i low e =
      let s : first + i ≡ m.slot = ap (λ (z : Handle). z.slot) e in
      let a : nat_le first m.slot ≡ true = grind (arith, nat_tests) in
      let b : nat_lt m.slot (first + outs) ≡ true = grind (arith, nat_tests) in
      rw (a, b) refl

  -- what is asked for is known
  known_there : (kept : Option Record) → Keeping kept → (m : Handle) (n : Name) → IsThere n → at n ≡ m
      → is_open (is_some kept) first outs m.slot ≡ false → (x : Plain) × KnownAs v m x
  known_there kept h m (Input r c) i e shut =
      let b = subst (In base) e (input_in (Input r c) i (λ k q. cc)) in
      let s = seen_known m b.0 (ready.sees m b.0 b.1) in (s.0, s.1)
  known_there kept h m Rows i e shut =
      let b = subst (In base) e (input_in Rows i (λ k q. cc)) in
      let s = seen_known m b.0 (ready.sees m b.0 b.1) in (s.0, s.1)
  known_there None h m (Out k) i e shut = absurd (not_both (out_open m k i e) shut)
  known_there (Some x) h m (Out k) i e shut =
      let b = subst (In (writes (rec_of x))) e (written_out (kept_of x) h.0 h.1 k i) in
      let p = put_known (kept_of x) h.0 h.1 m b.0 b.1 in (p.0, p.1)
  known_there kept h m (Made p) i e shut = absurd i

  pub known_live : (kept : Option Record) → Keeping kept → (m : Handle) → IsLive m v → is_open (is_some kept) first outs m.slot ≡ false
      → (x : Plain) × KnownAs v m x
  known_live kept h m (inl l) shut =
      let f = fixed_name m (subst (λ z. m.slot < z) fixed.fixed_is l.0) l.1 in
      known_there kept h m f.0 f.1 f.2 shut
  known_live None h m (inr l) shut = absurd (subst (Member l.0) h l.1)
  known_live (Some x) h m (inr l) shut =
      let i = subst (Makes (rec_of x)) l.2 (live_made (kept_of x) h.0 h.1 l.0 l.1) in
      let b = written_made (kept_of x) h.0 h.1 m i in
      let p = put_known (kept_of x) h.0 h.1 m b.0 b.1 in (p.0, p.1)

  -- the value that is told is the name's
  abbrev pub IsTold : Option Record → Plain → Name → Type 0
  IsTold kept x n =
      Both (Alike (IsNamed (all_names kept))) (Some (value_of x)) (value_named g (option_map (λ (k : Record). fresh w g) kept) n)

  from_start : (kept : Option Record) (o : Option (Value Handle)) (p : Option (Value Name)) → Both (Alike (IsNamed (start g ds ok))) o p
      → Both (Alike (IsNamed (all_names kept))) o p
  from_start kept o p b =
      both_more (IsNamed (start g ds ok)) (IsNamed (all_names kept)) (named_left (start g ds ok) (made_names kept)) o p b

  told_start : (kept : Option Record) → Keeping kept → (m : Handle) (n : Name) → IsNamed (start g ds ok) m n
      → is_open (is_some kept) first outs m.slot ≡ false → (x : Plain) → KnownAs v m x → IsTold kept x n
  told_start kept h m (Input r c) i shut x k =
      from_start kept (Some (value_of x)) (held (grid_heap g) (Input r c)) (input_tells m (Input r c) i (λ j q. cc) x k)
  told_start kept h m Rows i shut x k =
      from_start kept (Some (value_of x)) (held (grid_heap g) Rows) (input_tells m Rows i (λ j q. cc) x k)
  told_start None h m (Out j) i shut x k =
      let t = start_there m (Out j) i in absurd (not_both (out_open m j t.0 t.1) shut)
  told_start (Some y) h m (Out j) i shut x k =
      let t = start_there m (Out j) i in
      record_tells (kept_of y) h.0 h.1 m (Out j) (named_left (start g ds ok) (names [] (rec_of y)) m (Out j) i)
      (subst (In (writes (rec_of y))) t.1 (written_out (kept_of y) h.0 h.1 j t.0)) x k
  told_start kept h m (Made p) i shut x k = absurd (start_there m (Made p) i).0

  told_made : (y : Record) → LeftBy w g (rec_of y) → HasMade (kept_of y) v → (m : Handle) (p : Path)
      → IsNamed (names [] (rec_of y)) m (Made p)
      → (x : Plain) → KnownAs v m x → IsTold (Some y) x (Made p)
  told_made y a b m p i x k =
      record_tells (kept_of y) a b m (Made p) (named_right (start g ds ok) (names [] (rec_of y)) m (Made p) i)
      (written_made (kept_of y) a b m (names_made [] (rec_of y) m (Made p) i)) x k

  pub told : (kept : Option Record) → Keeping kept → (m : Handle) (n : Name) → IsNamed (all_names kept) m n
      → is_open (is_some kept) first outs m.slot ≡ false → (x : Plain) → KnownAs v m x → IsTold kept x n
  told kept h m n i shut x k = by kept h shut (named_either (start g ds ok) (made_names kept) m n i)
    where
      by : (o : Option Record) → Keeping o → is_open (is_some o) first outs m.slot ≡ false
          → IsNamed (start g ds ok) m n ⊎ IsNamed (made_names o) m n → IsTold o x n
      by o h shut (inl j) = told_start o h m n j shut x k
      by None h shut (inr j) = absurd j
      by (Some y) h shut (inr j) =
          let u = names_under [] (rec_of y) m n j in
          subst (IsTold (Some y) x) (sym u.1)
          (told_made y h.0 h.1 m u.0 (subst (IsNamed (names [] (rec_of y)) m) u.1 j) x k)

  -- an output, where no run is kept
  abbrev pub IsOut : Name → Type 0
  IsOut (Out i) = Unit {0}
  IsOut n = ⊥

  out_there : (m : Handle) (n : Name) → IsThere n → at n ≡ m → is_open false first outs m.slot ≡ true → IsOut n
  out_there m (Out i) h e o = tt
  out_there m (Input r c) h e o =
      let s : r * g.cols + c ≡ m.slot = ap (λ (z : Handle). z.slot) e in
      let low = slot_below g.cols g.room r c h.0 h.1 in
      let a : nat_le first m.slot ≡ false = grind (arith, nat_tests) in
      absurd (not_both o (rw a refl))
  out_there m Rows h e o =
      let s : first + outs ≡ m.slot = ap (λ (z : Handle). z.slot) e in
      let a : nat_le first m.slot ≡ true = grind (arith, nat_tests) in
      let b : nat_lt m.slot (first + outs) ≡ false = grind (arith, nat_tests) in
      absurd (not_both o (rw (a, b) refl))
  out_there m (Made p) h e o = absurd h

  pub unwritten : (kept : Option Record) (m : Handle) (n : Name) → IsNamed (all_names kept) m n
      → is_open (is_some kept) first outs m.slot ≡ true → (kept ≡ None) × IsOut n
  unwritten None m n i o =
      elim (named_either (start g ds ok) [] m n i) [
        | inl j ↦ (let t = start_there m n j in (refl, out_there m n t.0 t.1 o))
        | inr j ↦ absurd j
      ]
  unwritten (Some x) m n i o = absurd cc
