-- Which tokens are operators of a level, and which are none.
use Rattle.std.proofs.Common.{◌≡◌, ℕ, zero, suc, ◌<◌, ◌≤◌, Bool, true, false, List, ◌∷◌, Option, Some, None, refl, sym, ap, rules, ◌∙◌, arith}
use denote.Enum.Bare.{same_true}
use Rattle.psac_ops.specs.declared.op.Op.{Op}
use Rattle.psac_tokens.specs.contracts.token.Kind.{the_type}
use Rattle.psac_tokens.specs.declared.token.Kind.{Kind}
use Rattle.psac_tokens.specs.declared.token.Kind.TheVariants as kinds
use Rattle.psac_tokens.specs.declared.token.Token.{Token}
use Rattle.psac_grammar.specs.Grammar.{operator_at, is_chain, product_of, sum_of, comparison_of, and_of, or_of}
use Rattle.psac_grammar.specs.Machine.{same_kind, first_of, tail, operators, pass, built, move, rows_on, rows_made, after_rows, make}

pub is_kind : (k : Kind) (t : Token) → same_kind t.kind k ≡ true → t.kind ≡ k
is_kind k t h = same_true the_type (search rules) _ _ h

-- the level of which a token is an operator; 0 if it is none
abbrev pub level_of : Kind → ℕ
level_of kinds.Star = 1
level_of kinds.Slash = 1
level_of kinds.Percent = 1
level_of kinds.Plus = 2
level_of kinds.Minus = 2
level_of kinds.Equal = 3
level_of kinds.Unequal = 3
level_of kinds.Less = 3
level_of kinds.AtMost = 3
level_of kinds.Greater = 3
level_of kinds.AtLeast = 3
level_of kinds.And = 4
level_of kinds.Or = 5
level_of _ = 0

product_level : (k : Kind) (o : Op) → product_of k ≡ Some o → level_of k ≡ 1
product_level kinds.Star o h = refl
product_level kinds.Slash o h = refl
product_level kinds.Percent o h = refl
product_level _ o h = absurd cc

sum_level : (k : Kind) (o : Op) → sum_of k ≡ Some o → level_of k ≡ 2
sum_level kinds.Plus o h = refl
sum_level kinds.Minus o h = refl
sum_level _ o h = absurd cc

comparison_level : (k : Kind) (o : Op) → comparison_of k ≡ Some o → level_of k ≡ 3
comparison_level kinds.Equal o h = refl
comparison_level kinds.Unequal o h = refl
comparison_level kinds.Less o h = refl
comparison_level kinds.AtMost o h = refl
comparison_level kinds.Greater o h = refl
comparison_level kinds.AtLeast o h = refl
comparison_level _ o h = absurd cc

and_level : (k : Kind) (o : Op) → and_of k ≡ Some o → level_of k ≡ 4
and_level kinds.And o h = refl
and_level _ o h = absurd cc

or_level : (k : Kind) (o : Op) → or_of k ≡ Some o → level_of k ≡ 5
or_level kinds.Or o h = refl
or_level _ o h = absurd cc

pub its_level : (n : ℕ) (k : Kind) (o : Op) → operator_at n k ≡ Some o → level_of k ≡ n
unfolding operator_at
its_level zero k o h = absurd cc
its_level (suc zero) k o h = product_level k o h
its_level (suc (suc zero)) k o h = sum_level k o h
its_level (suc (suc (suc zero))) k o h = comparison_level k o h
its_level (suc (suc (suc (suc zero)))) k o h = and_level k o h
its_level (suc (suc (suc (suc (suc zero))))) k o h = or_level k o h
its_level (suc (suc (suc (suc (suc (suc n)))))) k o h = absurd cc

-- a token is no operator of another level
none_or : (o : Option Op) → ((p : Op) → o ≡ Some p → ⊥) → o ≡ None
none_or None h = refl
none_or (Some p) h = absurd (h p refl)

pub other_level : (n : ℕ) (k : Kind) → (level_of k ≡ n → ⊥) → operator_at n k ≡ None
other_level n k h = none_or (operator_at n k) (λ p e. h (its_level n k p e))

no_zero : (k : Kind) (o : Op) → operator_at 0 k ≡ Some o → ⊥
unfolding operator_at
no_zero k o h = cc

-- a token that is no operator
pub no_operator : (k : Kind) → level_of k ≡ 0 → (n : ℕ) → operator_at n k ≡ None
no_operator k h n = none_or (operator_at n k) (λ p e. by n p e (sym h ∙ its_level n k p e))
  where
    by : (n : ℕ) (p : Op) → operator_at n k ≡ Some p → 0 ≡ n → ⊥
    by zero p e z = no_zero k p e
    by (suc n) p e z = omega (arith, z)

-- an operator of one level is none of a lower one
pub one_level : (m n : ℕ) (k : Kind) (o : Op) → operator_at n k ≡ Some o → m < n → operator_at m k ≡ None
one_level m n k o h lt = other_level m k (λ e. omega (arith, lt, e, its_level n k o h))

-- ---- what stands behind an expression

abbrev pub upto_of : Bool → ℕ → ℕ
upto_of true n = n
upto_of false n = suc n

-- Behind operators up to a level, those below this one would go on.
abbrev pub upto : ℕ → ℕ
upto n = upto_of (is_chain n) n

pub no_parens : Kind → Type 0
no_parens k = same_kind k kinds.LeftParen ≡ false

-- no operator that would go on comes next, and no parenthesis
pub record Stops (n : ℕ) (ts : List Token) : Type 0 where
  pub none : (m : ℕ) → m < upto n → operator_at m (first_of ts).kind ≡ None
  pub plain : same_kind (first_of ts).kind kinds.LeftParen ≡ false

pub record Quiet (ts : List Token) : Type 0 where
  pub none : (m : ℕ) → operator_at m (first_of ts).kind ≡ None
  pub plain : same_kind (first_of ts).kind kinds.LeftParen ≡ false

pub quiet_at : {t : Token} {ts : List Token} (k : Kind) → t.kind ≡ k → level_of k ≡ 0 → same_kind k kinds.LeftParen ≡ false → Quiet (t ∷ ts)
quiet_at {t} {ts} k is h j = record { none = λ m. rw is (no_operator k h m); plain = rw is j }

pub upto_le : (n : ℕ) → upto n ≤ suc n
upto_le n = by (is_chain n)
  where
    by : (b : Bool) → upto_of b n ≤ suc n
    by true = omega arith
    by false = omega arith

pub le_upto : (n : ℕ) → n ≤ upto n
le_upto n = by (is_chain n)
  where
    by : (b : Bool) → n ≤ upto_of b n
    by true = omega arith
    by false = omega arith

pub stops_quiet : (n : ℕ) (ts : List Token) → Quiet ts → Stops n ts
stops_quiet n ts q = record { none = λ m lt. q.none m; plain = q.plain }

-- what stops operators up to a level stops those below
pub stops_lower : (n : ℕ) (ts : List Token) → Stops (suc n) ts → Stops n ts
stops_lower n ts h = record { none = λ m lt. h.none m (omega (arith, lt, upto_le n, le_upto (suc n))); plain = h.plain }

no_operator_parens : (b : Bool) (t : Token) (n : ℕ) (o : Op) → same_kind t.kind kinds.LeftParen ≡ b → operator_at n t.kind ≡ Some o → b ≡ false
no_operator_parens false t n o is h = refl
no_operator_parens true t n o is h = absurd (let e : None ≡ Some o = sym (no_operator t.kind (ap level_of (is_kind kinds.LeftParen t is)) n) ∙ h in cc)

-- an operator stops those of lower levels
pub stops_operator : (m n : ℕ) (t : Token) (ts : List Token) (o : Op) → operator_at n t.kind ≡ Some o → upto m ≤ n → Stops m (t ∷ ts)
stops_operator m n t ts o h le = record { none = λ i lt. one_level i n t.kind o h (omega (arith, lt, le)); plain = no_operator_parens (same_kind t.kind kinds.LeftParen) t n o refl h }

-- ---- moves of expressions

pub tail_passes : (m p : ℕ) (ts : List Token) → operator_at m (first_of ts).kind ≡ None → move (tail m p) (first_of ts) ≡ pass built
unfolding move
tail_passes m p ts h = rw h refl

pub operator_moves : (m p : ℕ) (t : Token) (o : Op) → operator_at m t.kind ≡ Some o → move (tail m p) t ≡ operators (Some o) m p
unfolding move
operator_moves m p t o h = rw h refl

rows_pass : (k : Kind) (p : ℕ) → same_kind k kinds.LeftParen ≡ false → rows_on k p ≡ pass rows_made
rows_pass kinds.LeftParen p h = absurd cc
rows_pass _ p h = refl

pub rows_passes : (p : ℕ) (ts : List Token) → same_kind (first_of ts).kind kinds.LeftParen ≡ false → move (after_rows p) (first_of ts) ≡ pass rows_made
unfolding move
rows_passes p ts h = rows_pass (first_of ts).kind p h

pub make_passes : (f : _) (t : Token) → move (make f) t ≡ pass f
unfolding move
make_passes f t = refl
