-- The cells of a grid, by places and by names.
use Rattle.std.proofs.Common.{length-append, ◌≡◌, ◌≢◌, ℕ, suc, zero, ◌+◌, ◌*◌, ◌<◌, true, false, List, [], ◌∷◌, ◌++◌, length, map, Some, None, slice_get, refl, ap, sym, ◌∙◌, subst, arith, ◌⊎◌, inl, inr, add-zero, ◌==◌}
use Rattle.std.specs.List.{All}
use Rattle.std.proofs.lemmas.List.{length-map}
use Rattle.std.proofs.lemmas.Option.{slice_get_within, get_or_from_slice_get}
use Rattle.std.proofs.Math.Nat.{suc-mul, zero-mul}
use Rattle.psac_ops.specs.declared.plain.Plain.{Plain}
use Rattle.psac_ops.specs.Named.{value_of, cell_value}
use Rattle.psac_model.specs.Names.{Name, Input, Heap, held, same_name}
use Rattle.psac_model.specs.Fresh.{row_heap, cells_heap}
use Rattle.psac_naming.proofs.Names.{nat_is, and_is, name_same, name_differs}
use Rattle.psac_plain.specs.Opened.{row_places, cell_places}
use Rattle.psac_plain.proofs.Lists.{none_some, some_is, get_before, get_after}

abbrev pub IsAmong : List Name → Name → Type 0
IsAmong [] n = ⊥
IsAmong (x ∷ xs) n = (x ≡ n) ⊎ IsAmong xs n

pub among_either : (xs ys : List Name) (n : Name) → IsAmong (xs ++ ys) n → IsAmong xs n ⊎ IsAmong ys n
among_either [] ys n h = inr h
among_either (x ∷ xs) ys n (inl h) = inl (inl h)
among_either (x ∷ xs) ys n (inr h) = elim (among_either xs ys n h) [ inl i ↦ inl (inr i) | inr i ↦ inr i ]

pub among_left : (xs ys : List Name) (n : Name) → IsAmong xs n → IsAmong (xs ++ ys) n
among_left [] ys n h = absurd h
among_left (x ∷ xs) ys n (inl h) = inl h
among_left (x ∷ xs) ys n (inr h) = inr (among_left xs ys n h)

pub among_right : (xs ys : List Name) (n : Name) → IsAmong ys n → IsAmong (xs ++ ys) n
among_right [] ys n h = h
among_right (x ∷ xs) ys n h = inr (among_right xs ys n h)

abbrev pub names_in : Heap → List Name
names_in = map (λ pair. pair.0)

pub input_is : (r c s d : ℕ) → Input r c ≡ Input s d → (r ≡ s) × (c ≡ d)
input_is r c s d h =
    let b = and_is (r == s) (c == d) (subst (λ n. same_name (Input r c) n ≡ true) h (name_same (Input r c))) in
    (nat_is r s b.0, nat_is c d b.1)

-- a heap has nothing for a name that it doesn't list
pub held_none : (heap : Heap) (n : Name) → (IsAmong (names_in heap) n → ⊥) → held heap n ≡ None
held_none [] n h = refl
held_none (p ∷ heap) n h =
    let d : same_name p.0 n ≡ false = name_differs p.0 n (λ q. h (inl q)) in
    rw d (held_none heap n (λ i. h (inr i)))

row_either : (r k : ℕ) (row : List Plain) (rest : Heap) (n : Name) → IsAmong (names_in (row_heap r k row ++ rest)) n → ((i : ℕ) × (n ≡ Input r (k + i)) × (i < length row)) ⊎ IsAmong (names_in rest) n
row_either r k [] rest n h = inr h
row_either r k (v ∷ row) rest n (inl h) = inl (0, sym h ∙ ap (Input r) (sym (add-zero k)), omega arith)
row_either r k (v ∷ row) rest n (inr h) =
    elim (row_either r (k + 1) row rest n h) [
      | inl p ↦
          (let e : (k + 1) + p.0 ≡ k + suc p.0 = omega arith in
          inl (suc p.0, p.1 ∙ ap (Input r) e, omega (arith, p.2)))
      | inr p ↦ inr p
    ]

row_among : (r k : ℕ) (row : List Plain) (rest : Heap) (c : ℕ) → c < length row → IsAmong (names_in (row_heap r k row ++ rest)) (Input r (k + c))
row_among r k [] rest c h = absurd (omega arith)
row_among r k (v ∷ row) rest zero h = inl (ap (Input r) (sym (add-zero k)))
row_among r k (v ∷ row) rest (suc c) h =
    let e : (k + 1) + c ≡ k + suc c = omega arith in
    inr (subst (λ x. IsAmong (names_in (row_heap r (k + 1) row ++ rest)) (Input r x)) e (row_among r (k + 1) row rest c (omega arith)))

row_skip : (r k : ℕ) (row : List Plain) (rest : Heap) (n : Name) → IsAmong (names_in rest) n → IsAmong (names_in (row_heap r k row ++ rest)) n
row_skip r k [] rest n h = h
row_skip r k (v ∷ row) rest n h = inr (row_skip r (k + 1) row rest n h)

held_row : (r k : ℕ) (row : List Plain) (rest : Heap) (c : ℕ) (v : Plain) → slice_get row c ≡ Some v → held (row_heap r k row ++ rest) (Input r (k + c)) ≡ Some (cell_value v)
held_row r k [] rest c v h = absurd (none_some h)
held_row r k (a ∷ row) rest zero v h = rw (add-zero k, name_same (Input r k)) (ap (λ x. Some (cell_value x)) (some_is h))
held_row r k (a ∷ row) rest (suc c) v h =
    let e : k + suc c ≡ (k + 1) + c = omega arith in
    let d : same_name (Input r k) (Input r (k + suc c)) ≡ false = name_differs _ _ (λ q. let f : k ≡ k + suc c = (input_is _ _ _ _ q).1 in omega (arith, f)) in
    rw (d, e) (held_row r (k + 1) row rest c v h)

held_skip : (r k : ℕ) (row : List Plain) (rest : Heap) (s c : ℕ) → r ≢ s → held (row_heap r k row ++ rest) (Input s c) ≡ held rest (Input s c)
held_skip r k [] rest s c h = refl
held_skip r k (v ∷ row) rest s c h =
    let d : same_name (Input r k) (Input s c) ≡ false = name_differs _ _ (λ q. h (input_is _ _ _ _ q).0) in
    rw d (held_skip r (k + 1) row rest s c h)

pub held_cells : (s : ℕ) (cells : List (List Plain)) (r c : ℕ) (row : List Plain) (v : Plain) → slice_get cells r ≡ Some row → slice_get row c ≡ Some v → held (cells_heap s cells) (Input (s + r) c) ≡ Some (cell_value v)
held_cells s [] r c row v h i = absurd (none_some h)
held_cells s (a ∷ cells) zero c row v h i =
    let e : slice_get a c ≡ Some v = ap (λ x. slice_get x c) (some_is h) ∙ i in
    let z : 0 + c ≡ c = omega arith in
    let at = held_row s 0 a (cells_heap (s + 1) cells) c v e in
    rw (add-zero s) (subst (λ x. held (row_heap s 0 a ++ cells_heap (s + 1) cells) (Input s x) ≡ Some (cell_value v)) z at)
held_cells s (a ∷ cells) (suc r) c row v h i =
    let e : s + suc r ≡ (s + 1) + r = omega arith in
    held_skip s 0 a (cells_heap (s + 1) cells) (s + suc r) c (λ q. omega (arith, q)) ∙ rw e (held_cells (s + 1) cells r c row v h i)

pub even_first : (cols : ℕ) (row : List Plain) (cells : List (List Plain)) → All (λ x. length x ≡ cols) (row ∷ cells) → length row ≡ cols
even_first cols row cells all = all 0 row (omega arith)

pub even_rest : (cols : ℕ) (row : List Plain) (cells : List (List Plain)) → All (λ x. length x ≡ cols) (row ∷ cells) → All (λ x. length x ≡ cols) cells
even_rest cols row cells all = λ i d h. all (suc i) d (omega arith)

pub all_get : {X : Type 0} (P : X → Type 0) (xs : List X) → All P xs → (i : ℕ) (x : X) → slice_get xs i ≡ Some x → P x
all_get P xs all i x h = subst P (get_or_from_slice_get xs i x x h) (all i x (slice_get_within xs i x h))

pub cells_either : (cols s : ℕ) (cells : List (List Plain)) → All (λ x. length x ≡ cols) cells → (n : Name) → IsAmong (names_in (cells_heap s cells)) n → (r : ℕ) × (c : ℕ) × (n ≡ Input (s + r) c) × (r < length cells) × (c < cols)
cells_either cols s [] all n h = absurd h
cells_either cols s (row ∷ cells) all n h =
    elim (row_either s 0 row (cells_heap (s + 1) cells) n h) [
      | inl p ↦
          (let z : 0 + p.0 ≡ p.0 = omega arith in
          (0, p.0, p.1 ∙ ap (Input s) z ∙ ap (λ x. Input x p.0) (sym (add-zero s)), omega arith, omega (arith, p.2, even_first cols row cells all)))
      | inr p ↦
          (let q = cells_either cols (s + 1) cells (even_rest cols row cells all) n p in
          let e : (s + 1) + q.0 ≡ s + suc q.0 = omega arith in
          (suc q.0, q.1, q.2 ∙ ap (λ x. Input x q.1) e, omega (arith, q.3), q.4))
    ]

pub cells_among : (cols s : ℕ) (cells : List (List Plain)) → All (λ x. length x ≡ cols) cells → (r c : ℕ) → r < length cells → c < cols → IsAmong (names_in (cells_heap s cells)) (Input (s + r) c)
cells_among cols s [] all r c h i = absurd (omega arith)
cells_among cols s (row ∷ cells) all zero c h i =
    let z : 0 + c ≡ c = omega arith in
    let at = row_among s 0 row (cells_heap (s + 1) cells) c (omega (arith, i, even_first cols row cells all)) in
    subst (λ x. IsAmong (names_in (row_heap s 0 row ++ cells_heap (s + 1) cells)) (Input x c)) (sym (add-zero s))
    (subst (λ x. IsAmong (names_in (row_heap s 0 row ++ cells_heap (s + 1) cells)) (Input s x)) z at)
cells_among cols s (row ∷ cells) all (suc r) c h i =
    let e : (s + 1) + r ≡ s + suc r = omega arith in
    let at = cells_among cols (s + 1) cells (even_rest cols row cells all) r c (omega arith) i in
    row_skip s 0 row (cells_heap (s + 1) cells) (Input (s + suc r) c) (subst (λ x. IsAmong (names_in (cells_heap (s + 1) cells)) (Input x c)) e at)

pub get_map : {X Y : Type 0} (f : X → Y) (xs : List X) (i : ℕ) (x : X) → slice_get xs i ≡ Some x → slice_get (map f xs) i ≡ Some (f x)
get_map f [] i x h = absurd (none_some h)
get_map f (a ∷ xs) zero x h = ap (λ y. Some (f y)) (some_is h)
get_map f (a ∷ xs) (suc i) x h = get_map f xs i x h

pub places_count : (cols : ℕ) (cells : List (List Plain)) → All (λ x. length x ≡ cols) cells → length (cell_places cells) ≡ length cells * cols
places_count cols [] all = sym (zero-mul cols)
places_count cols (row ∷ cells) all =
    omega (arith, length-append (row_places row) (cell_places cells), length-map row (λ v. Some (value_of v)), even_first cols row cells all, places_count cols cells (even_rest cols row cells all), suc-mul (length cells) cols)

pub get_cell : (cols : ℕ) (cells : List (List Plain)) → All (λ x. length x ≡ cols) cells → (r c : ℕ) (row : List Plain) (v : Plain) → slice_get cells r ≡ Some row → slice_get row c ≡ Some v → slice_get (cell_places cells) (r * cols + c) ≡ Some (Some (value_of v))
get_cell cols [] all r c row v h i = absurd (none_some h)
get_cell cols (a ∷ cells) all zero c row v h i =
    let e : slice_get a c ≡ Some v = ap (λ x. slice_get x c) (some_is h) ∙ i in
    let z : zero * cols + c ≡ c = omega (arith, zero-mul cols) in
    rw z
    (get_before (row_places a) (cell_places cells) c (omega (arith, length-map a (λ x. Some (value_of x)), slice_get_within a c v e)) ∙ get_map (λ x. Some (value_of x)) a c v e)
get_cell cols (a ∷ cells) all (suc r) c row v h i =
    let z : suc r * cols + c ≡ cols + (r * cols + c) = omega (arith, suc-mul r cols) in
    rw z
    (get_after (row_places a) (cell_places cells) cols (r * cols + c) (omega (arith, length-map a (λ x. Some (value_of x)), even_first cols a cells all)) ∙ get_cell cols cells (even_rest cols a cells all) r c row v h i)

-- places of cells are apart, and below the room's
pub slots_apart : (k r s c d : ℕ) → c < k → d < k → r * k + c ≡ s * k + d → (r ≡ s) × (c ≡ d)
slots_apart k zero zero c d h i e = (refl, omega (arith, e, zero-mul k))
slots_apart k zero (suc s) c d h i e = absurd (omega (arith, e, zero-mul k, suc-mul s k, h))
slots_apart k (suc r) zero c d h i e = absurd (omega (arith, e, zero-mul k, suc-mul r k, i))
slots_apart k (suc r) (suc s) c d h i e =
    let p = slots_apart k r s c d h i (omega (arith, e, suc-mul r k, suc-mul s k)) in
    (ap suc p.0, p.1)

pub slot_below : (k room r c : ℕ) → r < room → c < k → r * k + c < room * k
slot_below k zero r c h i = absurd (omega arith)
slot_below k (suc room) zero c h i = omega (arith, i, zero-mul k, suc-mul room k)
slot_below k (suc room) (suc r) c h i =
    let p = slot_below k room r c (omega arith) i in
    omega (arith, p, suc-mul room k, suc-mul r k)
