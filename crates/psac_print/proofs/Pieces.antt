-- Pieces appended one after another.
use Rattle.std.proofs.Common.{◌≡◌, ℕ, List, [], ◌∷◌, ◌++◌, length, get_or, map, refl, sym, ap, ◌∙◌, append_assoc, arith}
use Rattle.std.specs.Prelude.{true, ◌&&◌, eqb, codes}
use Rattle.std.proofs.lemmas.Bool.{and_parts, eqb-true}
use Rattle.psac_ops.specs.declared.op.Op.{Op}
use Rattle.psac_ops.specs.Written.{name_of, is_infix}
use Rattle.psac_syntax.specs.declared.program.Expr.{Expr}
use Rattle.psac_spelling.specs.Canonical.{between, applied}

pub two : (t t1 t2 a b w : List ℕ) → t1 ≡ t ++ a → t2 ≡ t1 ++ b → w ≡ a ++ b → t2 ≡ t ++ w
two t t1 t2 a b w h1 h2 is = h2 ∙ ap (λ x. x ++ b) h1 ∙ append_assoc t a b ∙ ap (λ x. t ++ x) (sym is)

pub three : (t t1 t2 t3 a b c w : List ℕ) → t1 ≡ t ++ a → t2 ≡ t1 ++ b → t3 ≡ t2 ++ c → w ≡ a ++ b ++ c → t3 ≡ t ++ w
three t t1 t2 t3 a b c w h1 h2 h3 is = two t t2 t3 (a ++ b) c w (two t t1 t2 a b _ h1 h2 refl) h3 is

pub four : (t t1 t2 t3 t4 a b c d w : List ℕ) → t1 ≡ t ++ a → t2 ≡ t1 ++ b → t3 ≡ t2 ++ c → t4 ≡ t3 ++ d → w ≡ a ++ b ++ c ++ d → t4 ≡ t ++ w
four t t1 t2 t3 t4 a b c d w h1 h2 h3 h4 is = two t t3 t4 (a ++ b ++ c) d w (three t t1 t2 t3 a b c _ h1 h2 h3 refl) h4 is

pub five : (t t1 t2 t3 t4 t5 a b c d e w : List ℕ) → t1 ≡ t ++ a → t2 ≡ t1 ++ b → t3 ≡ t2 ++ c → t4 ≡ t3 ++ d → t5 ≡ t4 ++ e → w ≡ a ++ b ++ c ++ d ++ e → t5 ≡ t ++ w
five t t1 t2 t3 t4 t5 a b c d e w h1 h2 h3 h4 h5 is = two t t4 t5 (a ++ b ++ c ++ d) e w (four t t1 t2 t3 t4 a b c d _ h1 h2 h3 h4 refl) h5 is

both : (xs : List Expr) (l r : Expr) → length xs ≡ 2 → l ≡ get_or xs 0 l → r ≡ get_or xs 1 r → xs ≡ l ∷ r ∷ []
both [] l r two a b = absurd cc
both (x ∷ []) l r two a b = absurd cc
both (x ∷ y ∷ []) l r two a b = cc
both (x ∷ y ∷ z ∷ zs) l r two a b = absurd (omega arith)

spaced : (a l s n r z : List ℕ) → a ++ l ++ s ++ n ++ s ++ r ++ z ≡ a ++ l ++ (s ++ n ++ s) ++ r ++ z
spaced a l s n r z = simp append_assoc

taken : (op : Op) (args : List (List ℕ)) → is_infix op ≡ true → applied op args ≡ between (name_of op) args
taken op args h = rw h refl

-- an operator between its two arguments
pub stands : (op : Op) (f : Expr → List ℕ) (xs : List Expr) (l r : Expr) → (is_infix op && eqb (length xs) 2) ≡ true → l ≡ get_or xs 0 l → r ≡ get_or xs 1 r
    → applied op (map f xs) ≡ codes "(" ++ f l ++ (codes " " ++ name_of op ++ codes " ") ++ f r ++ codes ")"
stands op f xs l r h a b =
    let parts = and_parts (is_infix op) (eqb (length xs) 2) h in
    ap (λ z. applied op (map f z)) (both xs l r (eqb-true (length xs) 2 parts.1) a b) ∙ taken op (f l ∷ f r ∷ []) parts.0 ∙ spaced (codes "(") (f l) (codes " ") (name_of op) (f r) (codes ")")
