-- Tests of lists of paths, turn by turn.
use Rattle.std.proofs.Common.{◌≡◌, ℕ, suc, Bool, true, false, ◌&&◌, ◌||◌, nat_lt, List, [], ◌∷◌, ◌++◌, length, refl, ap, ◌∙◌, arith}
use Rattle.std.specs.List.{list_any}
use Rattle.std.proofs.lemmas.Bool.Decides.{nat_tests}
use Rattle.std.proofs.lemmas.List.Folds.{list_any-append}
use Rattle.psac_model.specs.Names.{Path}
use Rattle.psac_model.specs.Redo.{is_prefix, is_above, is_inside}
use Rattle.psac_naming.proofs.Names.{nat_same}
use Rattle.psac_traced.specs.Redone.{under}

any_under : (f g : Path → Bool) (x : ℕ) → ((z : Path) → f (x ∷ z) ≡ g z) → (zs : List Path) → list_any f (under x zs) ≡ list_any g zs
any_under f g x h [] = refl
any_under f g x h (z ∷ zs) = ap (λ b. b || list_any f (under x zs)) (h z) ∙ ap (λ b. g z || b) (any_under f g x h zs)

any_none : (f : Path → Bool) (zs : List Path) → ((z : Path) → f z ≡ false) → list_any f zs ≡ false
any_none f [] h = refl
any_none f (z ∷ zs) h = ap (λ b. b || list_any f zs) (h z) ∙ any_none f zs h

any_past : (f : Path → Bool) (x : ℕ) → ((z : Path) → f (x ∷ z) ≡ false) → (zs : List Path) → list_any f (under x zs) ≡ false
any_past f x h zs = any_under f (λ z. false) x h zs ∙ any_none (λ z. false) zs (λ z. refl)

or_false : (b : Bool) → (b || false) ≡ b
or_false true = refl
or_false false = refl

-- where the first turn is this one, of two
any_left : (f g : Path → Bool) (x y : ℕ) → ((z : Path) → f (x ∷ z) ≡ g z) → ((z : Path) → f (y ∷ z) ≡ false) → (a b : List Path) → list_any f (under x a ++ under y b) ≡ list_any g a
any_left f g x y h k a b =
    list_any-append f (under x a) (under y b) ∙ ap (λ c. c || list_any f (under y b)) (any_under f g x h a) ∙ ap (λ c. list_any g a || c) (any_past f y k b) ∙ or_false (list_any g a)

any_right : (f g : Path → Bool) (x y : ℕ) → ((z : Path) → f (y ∷ z) ≡ g z) → ((z : Path) → f (x ∷ z) ≡ false) → (a b : List Path) → list_any f (under x a ++ under y b) ≡ list_any g b
any_right f g x y h k a b =
    list_any-append f (under x a) (under y b) ∙ ap (λ c. c || list_any f (under y b)) (any_past f x k a) ∙ any_under f g y h b

pub above_same : (x : ℕ) (z q : Path) → is_above (x ∷ z) (x ∷ q) ≡ is_above z q
above_same x z q =
    ap (λ b. (b && is_prefix z q) && nat_lt (suc (length z)) (suc (length q))) (nat_same x) ∙ ap (λ b. is_prefix z q && b) (grind (arith, nat_tests))

prefix_same : (x : ℕ) (z q : Path) → is_prefix (x ∷ q) (x ∷ z) ≡ is_prefix q z
prefix_same x z q = ap (λ b. b && is_prefix q z) (nat_same x)

above_root : (z : Path) → is_above z [] ≡ false
above_root [] = refl
above_root (x ∷ z) = refl

above_one : (x : ℕ) (q : Path) → is_above [] (x ∷ q) ≡ true
above_one x q = grind (arith, nat_tests)

-- strictly inside one of the blocks
pub inside_root : (zs : List Path) → is_inside zs [] ≡ false
inside_root zs = any_none (λ z. is_above z []) zs above_root

pub inside_under : (x : ℕ) (zs : List Path) (q : Path) → is_inside (under x zs) (x ∷ q) ≡ is_inside zs q
inside_under x zs q = any_under (λ z. is_above z (x ∷ q)) (λ z. is_above z q) x (λ z. above_same x z q) zs

pub inside_left : (a b : List Path) (q : Path) → is_inside (under 0 a ++ under 1 b) (0 ∷ q) ≡ is_inside a q
inside_left a b q = any_left (λ z. is_above z (0 ∷ q)) (λ z. is_above z q) 0 1 (λ z. above_same 0 z q) (λ z. refl) a b

pub inside_right : (a b : List Path) (q : Path) → is_inside (under 0 a ++ under 1 b) (1 ∷ q) ≡ is_inside b q
inside_right a b q = any_right (λ z. is_above z (1 ∷ q)) (λ z. is_above z q) 0 1 (λ z. above_same 1 z q) (λ z. refl) a b

pub inside_here : (x : ℕ) (q : Path) → is_inside ([] ∷ []) (x ∷ q) ≡ true
inside_here x q = ap (λ b. b || false) (above_one x q)

-- on the way to one of the blocks
abbrev pub leads : Path → List Path → Bool
leads q zs = list_any (is_prefix q) zs

pub leads_under : (x : ℕ) (zs : List Path) (q : Path) → leads (x ∷ q) (under x zs) ≡ leads q zs
leads_under x zs q = any_under (is_prefix (x ∷ q)) (is_prefix q) x (λ z. prefix_same x z q) zs

pub leads_left : (a b : List Path) (q : Path) → leads (0 ∷ q) (under 0 a ++ under 1 b) ≡ leads q a
leads_left a b q = any_left (is_prefix (0 ∷ q)) (is_prefix q) 0 1 (λ z. prefix_same 0 z q) (λ z. refl) a b

pub leads_right : (a b : List Path) (q : Path) → leads (1 ∷ q) (under 0 a ++ under 1 b) ≡ leads q b
leads_right a b q = any_right (is_prefix (1 ∷ q)) (is_prefix q) 0 1 (λ z. prefix_same 1 z q) (λ z. refl) a b
