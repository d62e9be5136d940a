-- Numbers of `read` tokens, which rise.
use Rattle.std.specs.Prelude.{◌≡◌, ◌≤◌, ◌⊎◌, ℕ, ◌+◌, List, [], ◌∷◌, ◌++◌}
use Rattle.psac_tokens.specs.declared.token.Kind.{Kind}
use Rattle.psac_tokens.specs.declared.token.Kind.TheVariants as k
use Rattle.psac_tokens.specs.declared.token.Token.{Token}
use Rattle.psac_grammar.specs.Marked.{Marked}

-- each is more than those before it, and the first is as large as this
abbrev pub Rising : ℕ → List ℕ → Type 0
Rising n [] = Unit {0}
Rising n (x ∷ xs) = (n ≤ x) × Rising (x + 1) xs

-- the first list is the second with some left out
abbrev pub IsPart : List ℕ → List ℕ → Type 0
IsPart [] ys = Unit {0}
IsPart (x ∷ xs) [] = ⊥
IsPart (x ∷ xs) (y ∷ ys) = ((x ≡ y) × IsPart xs ys) ⊎ IsPart (x ∷ xs) ys

abbrev pub read_number : Kind → ℕ → List ℕ
read_number k.Read n = n ∷ []
read_number _ n = []

abbrev pub numbers_in : List Token → List ℕ
numbers_in [] = []
numbers_in (t ∷ ts) = read_number t.kind t.index ++ numbers_in ts

abbrev pub marked_in : List Marked → List ℕ
marked_in [] = []
marked_in (m ∷ ms) = read_number m.0.kind m.0.index ++ marked_in ms
