-- A name that is written once is written at one place.
use Rattle.std.proofs.Common.{◌≡◌, ℕ, ◌+◌, ◌≤◌, ◌==◌, true, false, if◌then◌else◌, [], ◌∷◌, Option, Some, None, refl, ap, sym, ◌∙◌, subst, arith, ◌⊎◌, inl, inr}
use Rattle.psac_ops.specs.Value.{Value}
use Rattle.psac_model.specs.Names.{Path, Name, same_name}
use Rattle.psac_model.specs.Tree.{Tree, E, A, W, S, P, R}
use Rattle.psac_laws.specs.Writes.{times}
use Rattle.psac_laws.specs.Places.{part_at}
use Rattle.psac_laws.proofs.Places.{none_some, some_is, test_or, nat_is, name_same}

wrote_here : (n m : Name) (u : Value Name) (rest : Tree Name) → n ≡ m → 1 ≤ times m (W n u rest)
wrote_here n m u rest e = let t : same_name n m ≡ true = subst (λ z. same_name n z ≡ true) e (name_same n) in rw t (omega arith)

more_times : (n m : Name) (u : Value Name) (rest : Tree Name) → 1 ≤ times m rest → 1 ≤ times m (W n u rest)
more_times n m u rest h = elim (same_name n m) as (λ b. 1 ≤ (if b then 1 else 0) + times m rest) [ true ↦ omega arith | false ↦ omega arith ]

-- a part that is a W counts
pub counts : (tree : Tree Name) (q : Path) (m : Name) (v : Value Name) (more : Tree Name) → part_at q tree ≡ Some (W m v more) → 1 ≤ times m tree
counts E [] m v more e = absurd (let c : E ≡ W m v more = some_is e in cc)
counts E (x ∷ q) m v more e = absurd (none_some e)
counts (A rest) [] m v more e = absurd (let c : A rest ≡ W m v more = some_is e in cc)
counts (A rest) (x ∷ q) m v more e =
    elim (test_or (x == 3)) [
      | inl t ↦ counts rest q m v more (rw t at e)
      | inr t ↦ (let f : None ≡ Some (W m v more) = rw t at e in absurd (none_some f))
    ]
counts (W n u rest) [] m v more e = let c : W n u rest ≡ W m v more = some_is e in let d : n ≡ m = cc in wrote_here n m u rest d
counts (W n u rest) (x ∷ q) m v more e =
    elim (test_or (x == 3)) [
      | inl t ↦ more_times n m u rest (counts rest q m v more (rw t at e))
      | inr t ↦ (let f : None ≡ Some (W m v more) = rw t at e in absurd (none_some f))
    ]
counts (S t rest) [] m v more e = absurd (let c : S t rest ≡ W m v more = some_is e in cc)
counts (S t rest) (x ∷ q) m v more e =
    elim (test_or (x == 0)) [
      | inl z ↦ (let c = counts t q m v more (rw z at e) in omega arith)
      | inr z ↦
          elim (test_or (x == 1)) [
            | inl y ↦ (let c = counts rest q m v more (rw (z, y) at e) in omega arith)
            | inr y ↦ (let f : None ≡ Some (W m v more) = rw (z, y) at e in absurd (none_some f))
          ]
    ]
counts (P l r) [] m v more e = absurd (let c : P l r ≡ W m v more = some_is e in cc)
counts (P l r) (x ∷ q) m v more e =
    elim (test_or (x == 0)) [
      | inl z ↦ (let c = counts l q m v more (rw z at e) in omega arith)
      | inr z ↦
          elim (test_or (x == 1)) [
            | inl y ↦ (let c = counts r q m v more (rw (z, y) at e) in omega arith)
            | inr y ↦ (let f : None ≡ Some (W m v more) = rw (z, y) at e in absurd (none_some f))
          ]
    ]
counts (R b c d t) [] m v more e = absurd (let k : R b c d t ≡ W m v more = some_is e in cc)
counts (R b c d t) (x ∷ q) m v more e =
    elim (test_or (x == 2)) [
      | inl z ↦ counts t q m v more (rw z at e)
      | inr z ↦ (let f : None ≡ Some (W m v more) = rw z at e in absurd (none_some f))
    ]

only_way : {T : Type 0} (x n : ℕ) (o : Option T) {y : T} → (if x == n then o else None) ≡ Some y → (x ≡ n) × (o ≡ Some y)
only_way x n o {y} e =
    elim (test_or (x == n)) [
      | inl t ↦ (nat_is x n t, rw t at e)
      | inr t ↦ (let f : None ≡ Some y = rw t at e in absurd (none_some f))
    ]

either_way : {T : Type 0} (x : ℕ) (o k : Option T) {y : T} → (if x == 0 then o else (if x == 1 then k else None)) ≡ Some y → ((x ≡ 0) × (o ≡ Some y)) ⊎ ((x ≡ 1) × (k ≡ Some y))
either_way x o k {y} e =
    elim (test_or (x == 0)) [
      | inl t ↦ inl (nat_is x 0 t, rw t at e)
      | inr t ↦
          elim (test_or (x == 1)) [
            | inl s ↦ inr (nat_is x 1 s, rw (t, s) at e)
            | inr s ↦ (let f : None ≡ Some y = rw (t, s) at e in absurd (none_some f))
          ]
    ]

under_one : (n m : Name) (w : Value Name) (rest : Tree Name) → times m (W n w rest) ≤ 1 → times m rest ≤ 1
under_one n m w rest h =
    elim (test_or (same_name n m)) [
      | inl t ↦ (let k : 1 + times m rest ≤ 1 = rw t at h in omega arith)
      | inr t ↦ (let k : 0 + times m rest ≤ 1 = rw t at h in omega arith)
    ]

-- a name that is written once is written at one place
pub one_place : (tree : Tree Name) (m : Name) → times m tree ≤ 1 → (p q : Path) (v u : Value Name) (x y : Tree Name) → part_at p tree ≡ Some (W m v x) → part_at q tree ≡ Some (W m u y) → p ≡ q
one_place E m o [] q v u x y e f = absurd (let c : E ≡ W m v x = some_is e in cc)
one_place E m o (a ∷ p) q v u x y e f = absurd (none_some e)
one_place (A rest) m o [] q v u x y e f = absurd (let c : A rest ≡ W m v x = some_is e in cc)
one_place (A rest) m o (a ∷ p) [] v u x y e f = absurd (let c : A rest ≡ W m u y = some_is f in cc)
one_place (A rest) m o (a ∷ p) (b ∷ q) v u x y e f =
    let c = only_way a 3 _ e in
    let d = only_way b 3 _ f in
    ap (λ z. z ∷ p) (c.0 ∙ sym d.0) ∙ ap (λ z. b ∷ z) (one_place rest m o p q v u x y c.1 d.1)
one_place (W n w rest) m o [] [] v u x y e f = refl
one_place (W n w rest) m o [] (b ∷ q) v u x y e f =
    absurd (
    let c : W n w rest ≡ W m v x = some_is e in
    let g : n ≡ m = cc in
    let t : same_name n m ≡ true = subst (λ z. same_name n z ≡ true) g (name_same n) in
    let k : 1 + times m rest ≤ 1 = rw t at o in
    let d = only_way b 3 _ f in
    let j = counts rest q m u y d.1 in
    omega arith)
one_place (W n w rest) m o (a ∷ p) [] v u x y e f =
    absurd (
    let c : W n w rest ≡ W m u y = some_is f in
    let g : n ≡ m = cc in
    let t : same_name n m ≡ true = subst (λ z. same_name n z ≡ true) g (name_same n) in
    let k : 1 + times m rest ≤ 1 = rw t at o in
    let d = only_way a 3 _ e in
    let j = counts rest p m v x d.1 in
    omega arith)
one_place (W n w rest) m o (a ∷ p) (b ∷ q) v u x y e f =
    let c = only_way a 3 _ e in
    let d = only_way b 3 _ f in
    ap (λ z. z ∷ p) (c.0 ∙ sym d.0) ∙ ap (λ z. b ∷ z) (one_place rest m (under_one n m w rest o) p q v u x y c.1 d.1)
one_place (S t rest) m o [] q v u x y e f = absurd (let c : S t rest ≡ W m v x = some_is e in cc)
one_place (S t rest) m o (a ∷ p) [] v u x y e f = absurd (let c : S t rest ≡ W m u y = some_is f in cc)
one_place (S t rest) m o (a ∷ p) (b ∷ q) v u x y e f =
    elim (either_way a _ _ e) [
      | inl c ↦
          elim (either_way b _ _ f) [
            | inl d ↦ ap (λ z. z ∷ p) (c.0 ∙ sym d.0) ∙ ap (λ z. b ∷ z) (one_place t m (omega arith) p q v u x y c.1 d.1)
            | inr d ↦ absurd (let i = counts t p m v x c.1 in let j = counts rest q m u y d.1 in omega arith)
          ]
      | inr c ↦
          elim (either_way b _ _ f) [
            | inl d ↦ absurd (let i = counts rest p m v x c.1 in let j = counts t q m u y d.1 in omega arith)
            | inr d ↦ ap (λ z. z ∷ p) (c.0 ∙ sym d.0) ∙ ap (λ z. b ∷ z) (one_place rest m (omega arith) p q v u x y c.1 d.1)
          ]
    ]
one_place (P t rest) m o [] q v u x y e f = absurd (let c : P t rest ≡ W m v x = some_is e in cc)
one_place (P t rest) m o (a ∷ p) [] v u x y e f = absurd (let c : P t rest ≡ W m u y = some_is f in cc)
one_place (P t rest) m o (a ∷ p) (b ∷ q) v u x y e f =
    elim (either_way a _ _ e) [
      | inl c ↦
          elim (either_way b _ _ f) [
            | inl d ↦ ap (λ z. z ∷ p) (c.0 ∙ sym d.0) ∙ ap (λ z. b ∷ z) (one_place t m (omega arith) p q v u x y c.1 d.1)
            | inr d ↦ absurd (let i = counts t p m v x c.1 in let j = counts rest q m u y d.1 in omega arith)
          ]
      | inr c ↦
          elim (either_way b _ _ f) [
            | inl d ↦ absurd (let i = counts rest p m v x c.1 in let j = counts t q m u y d.1 in omega arith)
            | inr d ↦ ap (λ z. z ∷ p) (c.0 ∙ sym d.0) ∙ ap (λ z. b ∷ z) (one_place rest m (omega arith) p q v u x y c.1 d.1)
          ]
    ]
one_place (R i j k t) m o [] q v u x y e f = absurd (let c : R i j k t ≡ W m v x = some_is e in cc)
one_place (R i j k t) m o (a ∷ p) [] v u x y e f = absurd (let c : R i j k t ≡ W m u y = some_is f in cc)
one_place (R i j k t) m o (a ∷ p) (b ∷ q) v u x y e f =
    let c = only_way a 2 _ e in
    let d = only_way b 2 _ f in
    ap (λ z. z ∷ p) (c.0 ∙ sym d.0) ∙ ap (λ z. b ∷ z) (one_place t m o p q v u x y c.1 d.1)
