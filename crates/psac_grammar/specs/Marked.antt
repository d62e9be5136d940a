-- Tokens beside the limit that each exceeds, if any.
use Rattle.std.specs.Prelude.{◌≡◌, ℕ, Bool, true, false, nat_lt, nat_le, if◌then◌else◌, List, [], ◌∷◌, map}
use Rattle.psac_tokens.specs.declared.token.Kind.{Kind}
use Rattle.psac_tokens.specs.declared.token.Kind.TheVariants as k
use Rattle.psac_tokens.specs.declared.token.Token.{Token}

-- Which limit a token exceeds. Of some that is known only once the next token is seen: there it may turn out that a lower one is exceeded.
pub data Mark : Type 0 where
  fine : Mark
  over : (which : ℕ) → Mark
  late : (which : ℕ) → Mark

abbrev pub Marked : Type 0
Marked = Token × Mark

abbrev pub plain : List Marked → List Token
plain = map (λ m. m.0)

-- no token exceeds a limit
abbrev pub AllFine : List Marked → Type 0
AllFine [] = Unit {0}
AllFine (m ∷ ms) = (m.1 ≡ fine) × AllFine ms

abbrev pub max_funcs : ℕ
max_funcs = 256

abbrev pub max_statements : ℕ
max_statements = 64

abbrev pub max_bodies : ℕ
max_bodies = 32

abbrev pub max_parens : ℕ
max_parens = 64

abbrev pub max_depth : ℕ
max_depth = 64

abbrev pub max_names : ℕ
max_names = 24

-- values of a call, and destinations of one
abbrev pub max_given : ℕ
max_given = 24

-- the limit that is exceeded where a count isn't below its most
abbrev pub below : ℕ → ℕ → ℕ → Mark
below n most which = if nat_lt n most then fine else over which

-- the limit on a NAME or on an INT
abbrev pub size_limit : Kind → ℕ
size_limit k.Name = 6
size_limit _ = 7

-- An operand: the limit on depth may stand at it too, and goes before.
abbrev pub by_size : Token → Mark
by_size t = if t.over then late (size_limit t.kind) else fine

-- a NAME outside expressions, beside another limit
abbrev pub by_length : Mark → Token → Mark
by_length m t = if t.over then over 6 else m

abbrev pub by_name : Token → Mark
by_name = by_length fine

-- a NAME that is bound beside this many others
abbrev pub by_names : ℕ → Token → Mark
by_names names = by_length (below names max_names 8)

-- a destination of a call, behind this many others
abbrev pub by_dests : ℕ → Token → Mark
by_dests count = by_length (below count max_given 9)

-- the first token of a value of a call, behind this many others
abbrev pub by_values : ℕ → Mark
by_values count = below count max_given 9

abbrev pub by_parens : ℕ → Mark
by_parens parens = below parens max_parens 5

abbrev pub by_bodies : ℕ → Mark
by_bodies depth = below depth max_bodies 4

abbrev pub by_statements : ℕ → Mark
by_statements count = below count max_statements 3

abbrev pub by_funcs : ℕ → Mark
by_funcs count = below count max_funcs 2

abbrev pub token : Token → Marked
token t = (t, fine)

abbrev pub is_deep : ℕ → Bool
is_deep depth = if nat_le depth max_depth then false else true

-- The limit on depth goes before those that are known late.
abbrev pub deepened : Mark → Mark
deepened (over which) = over which
deepened _ = late 5

-- the last token makes an expression too deep, if one is
abbrev pub ends_deep : Bool → List Marked → List Marked
ends_deep too [] = []
ends_deep too (m ∷ []) = (m.0, if too then deepened m.1 else m.1) ∷ []
ends_deep too (m ∷ n ∷ ms) = m ∷ ends_deep too (n ∷ ms)

-- a limit of the first token, where it exceeds no lower one
abbrev pub or_else : Mark → Mark → Mark
or_else fine m = m
or_else m _ = m

abbrev pub begins_with : Mark → List Marked → List Marked
begins_with m [] = []
begins_with m (t ∷ ms) = (t.0, or_else t.1 m) ∷ ms
