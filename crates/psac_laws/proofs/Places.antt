-- Names and paths.
use Rattle.std.proofs.Common.{◌≡◌, ◌≢◌, ℕ, suc, zero, ◌≤◌, ◌==◌, ◌&&◌, Bool, true, false, [], ◌∷◌, ◌++◌, Some, None, refl, ap, sym, ◌∙◌, subst, arith, ◌⊎◌, inl, inr, append_assoc}
use Rattle.std.proofs.lemmas.Bool.Decides.{nat_tests}
use Rattle.psac_model.specs.Names.{Path, Name, Input, Out, Rows, Made, same_path, same_name}

pub none_some : {X : Type 0} {x : X} → None ≡ Some x → ⊥
none_some h = cc

pub some_is : {X : Type 0} {x y : X} → Some x ≡ Some y → x ≡ y
some_is h = cc

pub nat_same : (n : ℕ) → (n == n) ≡ true
nat_same n = grind (arith, nat_tests)

pub nat_is : (m n : ℕ) → (m == n) ≡ true → m ≡ n
nat_is m n h = grind (arith, nat_tests)

pub and_is : (a b : Bool) → (a && b) ≡ true → (a ≡ true) × (b ≡ true)
and_is true true h = (refl, refl)
and_is true false h = absurd cc
and_is false b h = absurd cc

pub path_same : (p : Path) → same_path p p ≡ true
path_same [] = refl
path_same (x ∷ p) = rw (nat_same x) (path_same p)

pub path_is : (p q : Path) → same_path p q ≡ true → p ≡ q
path_is [] [] h = refl
path_is [] (y ∷ q) h = absurd cc
path_is (x ∷ p) [] h = absurd cc
path_is (x ∷ p) (y ∷ q) h =
    let b = and_is (x == y) (same_path p q) h in
    ap (λ z. z ∷ p) (nat_is x y b.0) ∙ ap (λ z. y ∷ z) (path_is p q b.1)

pub name_same : (n : Name) → same_name n n ≡ true
name_same (Input r c) = rw (nat_same r) (nat_same c)
name_same (Out i) = nat_same i
name_same Rows = refl
name_same (Made p) = path_same p

pub name_is : (m n : Name) → same_name m n ≡ true → m ≡ n
name_is (Input r c) (Input s d) h =
    let b = and_is (r == s) (c == d) h in
    ap (λ z. Input z c) (nat_is r s b.0) ∙ ap (λ z. Input s z) (nat_is c d b.1)
name_is (Out i) (Out j) h = ap Out (nat_is i j h)
name_is Rows Rows h = refl
name_is (Made p) (Made q) h = ap Made (path_is p q h)
name_is _ _ h = absurd cc

pub not_true : (b : Bool) → (b ≡ true → ⊥) → b ≡ false
not_true true h = absurd (h refl)
not_true false h = refl

pub name_differs : (m n : Name) → m ≢ n → same_name m n ≡ false
name_differs m n h = not_true (same_name m n) (λ t. h (name_is m n t))

pub made_is : (p q : Path) → Made p ≡ Made q → p ≡ q
made_is p q h = path_is p q (subst (λ n. same_name (Made p) n ≡ true) h (name_same (Made p)))

pub front_gone : (p q r : Path) → p ++ q ≡ p ++ r → q ≡ r
front_gone [] q r h = h
front_gone (x ∷ p) q r h = front_gone p q r cc

-- what stands under one turn isn't under another
pub turns_differ : (p q r : Path) (a b : ℕ) → a ≢ b → (p ++ a ∷ []) ++ q ≡ (p ++ b ∷ []) ++ r → ⊥
turns_differ p q r a b d h =
    let e : a ∷ q ≡ b ∷ r = front_gone p (a ∷ q) (b ∷ r) (sym (append_assoc p (a ∷ []) q) ∙ h ∙ append_assoc p (b ∷ []) r) in
    d cc

pub test_or : (b : Bool) → (b ≡ true) ⊎ (b ≡ false)
test_or true = inl refl
test_or false = inr refl

pub not_both : {b : Bool} → b ≡ true → b ≡ false → ⊥
not_both h k = cc

pub zero_or : (n : ℕ) → (n ≡ 0) ⊎ (1 ≤ n)
zero_or zero = inl refl
zero_or (suc n) = inr (omega arith)
