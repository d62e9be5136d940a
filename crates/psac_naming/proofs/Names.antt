-- Names and paths that are told apart.
use Rattle.std.proofs.Common.{◌≡◌, ◌≢◌, ℕ, ◌==◌, ◌&&◌, Bool, true, false, [], ◌∷◌, ◌++◌, length, refl, ap, sym, ◌∙◌, subst, arith, append_assoc, length-append}
use Rattle.std.proofs.lemmas.Bool.Decides.{nat_tests}
use Rattle.psac_model.specs.Names.{Path, Name, Input, Out, Rows, Made, same_path, same_name}

pub nat_same : (n : ℕ) → (n == n) ≡ true
nat_same n = grind (arith, nat_tests)

pub nat_is : (m n : ℕ) → (m == n) ≡ true → m ≡ n
nat_is m n h = grind (arith, nat_tests)

pub and_is : (a b : Bool) → (a && b) ≡ true → (a ≡ true) × (b ≡ true)
and_is true true h = (refl, refl)
and_is true false h = absurd cc
and_is false b h = absurd cc

path_same : (p : Path) → same_path p p ≡ true
path_same [] = refl
path_same (x ∷ p) = rw (nat_same x) (path_same p)

path_is : (p q : Path) → same_path p q ≡ true → p ≡ q
path_is [] [] h = refl
path_is [] (y ∷ q) h = absurd cc
path_is (x ∷ p) [] h = absurd cc
path_is (x ∷ p) (y ∷ q) h =
    let b = and_is (x == y) (same_path p q) h in
    ap (λ z. z ∷ p) (nat_is x y b.0) ∙ ap (λ z. y ∷ z) (path_is p q b.1)

pub name_same : (n : Name) → same_name n n ≡ true
name_same (Input r c) = rw (nat_same r) (nat_same c)
name_same (Out i) = nat_same i
name_same Rows = refl
name_same (Made p) = path_same p

pub name_is : (m n : Name) → same_name m n ≡ true → m ≡ n
name_is (Input r c) (Input s d) h =
    let b = and_is (r == s) (c == d) h in
    ap (λ z. Input z c) (nat_is r s b.0) ∙ ap (λ z. Input s z) (nat_is c d b.1)
name_is (Out i) (Out j) h = ap Out (nat_is i j h)
name_is Rows Rows h = refl
name_is (Made p) (Made q) h = ap Made (path_is p q h)
name_is _ _ h = absurd cc

not_true : (b : Bool) → (b ≡ true → ⊥) → b ≡ false
not_true true h = absurd (h refl)
not_true false h = refl

pub name_differs : (m n : Name) → m ≢ n → same_name m n ≡ false
name_differs m n h = not_true (same_name m n) (λ t. h (name_is m n t))

pub made_is : (p q : Path) → Made p ≡ Made q → p ≡ q
made_is p q h = path_is p q (subst (λ n. same_name (Made p) n ≡ true) h (name_same (Made p)))

front_gone : (p q r : Path) → p ++ q ≡ p ++ r → q ≡ r
front_gone [] q r h = h
front_gone (x ∷ p) q r h = front_gone p q r cc

-- what stands under one turn isn't under another
pub turns_differ : (p q r : Path) (a b : ℕ) → a ≢ b → (p ++ a ∷ []) ++ q ≡ (p ++ b ∷ []) ++ r → ⊥
turns_differ p q r a b d h =
    let e : a ∷ q ≡ b ∷ r = front_gone p (a ∷ q) (b ∷ r) (sym (append_assoc p (a ∷ []) q) ∙ h ∙ append_assoc p (b ∷ []) r) in
    d cc

pub longer : (path : Path) (q : Path) → path ≡ (path ++ 3 ∷ []) ++ q → ⊥
longer path q e = omega (arith, ap length e, length-append (path ++ 3 ∷ []) q, length-append path (3 ∷ []))
