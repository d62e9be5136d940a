-- How each operator is spelled.
use Rattle.std.proofs.Common.{◌≡◌, ℕ, suc, zero, ◌<◌, true, false, List, [], ◌∷◌, ◌++◌, append-nil, append_assoc, refl, ap, subst, ◌∙◌, arith, Some}
use Rattle.std.specs.Prelude.{codes}
use Rattle.psac_ops.specs.declared.op.Op.{Op}
use Rattle.psac_ops.specs.declared.op.Op.TheVariants as op
use Rattle.psac_ops.specs.Written.{name_of, is_infix}
use Rattle.psac_syntax.specs.declared.program.Expr.{Expr}
use Rattle.psac_syntax.specs.declared.program.Program.{Program}
use Rattle.psac_tokens.specs.declared.token.Kind.{Kind}
use Rattle.psac_tokens.specs.declared.token.Kind.TheVariants as k
use Rattle.psac_tokens.specs.declared.token.Token.{Token}
use Rattle.psac_tokens.specs.Lex.{reserved, front}
use Rattle.psac_grammar.specs.Grammar.{one, two, start_of, operator_at, product_of, sum_of, comparison_of, and_of, or_of, apply_one, apply_two}
use Rattle.psac_spelling.specs.Canonical.{expr_text, applied, between, named}
use Rattle.psac_spelling.proofs.Layers.{apply_text, cell_text}
use Rattle.psac_spelling.proofs.Pieces.{plain, Bare, kind_text, Fronts}
use Rattle.psac_spelling.proofs.Words.{fixed, fronts_at}

-- an operator between operands of a level
pub record Infix (n : ℕ) (kind : Kind) (o : Op) : Type 0 where
  pub bare : Bare kind
  pub low : n < 6
  pub stands : is_infix o ≡ true
  pub spelled : name_of o ≡ kind_text kind
  pub fronts : (p : Program) (z : List ℕ) → Fronts p (plain kind bare) (32 ∷ z)

is_op : {n : ℕ} {kind : Kind} {a b : Op} → Some a ≡ Some b → Infix n kind a → Infix n kind b
is_op {n} {kind} {a} {b} h x = let e : a ≡ b = cc in subst (Infix n kind) e x

product_infix : (kind : Kind) (o : Op) → product_of kind ≡ Some o → Infix 1 kind o
unfolding front
product_infix k.Star o h = is_op h (record { bare = tt; low = omega arith; stands = refl; spelled = refl; fronts = λ p z. fronts_at p (plain k.Star tt) 42 [] (32 ∷ z) refl refl refl })
product_infix k.Slash o h = is_op h (record { bare = tt; low = omega arith; stands = refl; spelled = refl; fronts = λ p z. fronts_at p (plain k.Slash tt) 47 [] (32 ∷ z) refl refl refl })
product_infix k.Percent o h = is_op h (record { bare = tt; low = omega arith; stands = refl; spelled = refl; fronts = λ p z. fronts_at p (plain k.Percent tt) 37 [] (32 ∷ z) refl refl refl })
product_infix _ o h = absurd cc

sum_infix : (kind : Kind) (o : Op) → sum_of kind ≡ Some o → Infix 2 kind o
unfolding front
sum_infix k.Plus o h = is_op h (record { bare = tt; low = omega arith; stands = refl; spelled = refl; fronts = λ p z. fronts_at p (plain k.Plus tt) 43 [] (32 ∷ z) refl refl refl })
sum_infix k.Minus o h = is_op h (record { bare = tt; low = omega arith; stands = refl; spelled = refl; fronts = λ p z. fronts_at p (plain k.Minus tt) 45 [] (32 ∷ z) refl refl refl })
sum_infix _ o h = absurd cc

comparison_infix : (kind : Kind) (o : Op) → comparison_of kind ≡ Some o → Infix 3 kind o
unfolding front
comparison_infix k.Equal o h = is_op h (record { bare = tt; low = omega arith; stands = refl; spelled = refl; fronts = λ p z. fronts_at p (plain k.Equal tt) 61 (61 ∷ []) (32 ∷ z) refl refl refl })
comparison_infix k.Unequal o h = is_op h (record { bare = tt; low = omega arith; stands = refl; spelled = refl; fronts = λ p z. fronts_at p (plain k.Unequal tt) 33 (61 ∷ []) (32 ∷ z) refl refl refl })
comparison_infix k.Less o h = is_op h (record { bare = tt; low = omega arith; stands = refl; spelled = refl; fronts = λ p z. fronts_at p (plain k.Less tt) 60 [] (32 ∷ z) refl refl refl })
comparison_infix k.AtMost o h = is_op h (record { bare = tt; low = omega arith; stands = refl; spelled = refl; fronts = λ p z. fronts_at p (plain k.AtMost tt) 60 (61 ∷ []) (32 ∷ z) refl refl refl })
comparison_infix k.Greater o h = is_op h (record { bare = tt; low = omega arith; stands = refl; spelled = refl; fronts = λ p z. fronts_at p (plain k.Greater tt) 62 [] (32 ∷ z) refl refl refl })
comparison_infix k.AtLeast o h = is_op h (record { bare = tt; low = omega arith; stands = refl; spelled = refl; fronts = λ p z. fronts_at p (plain k.AtLeast tt) 62 (61 ∷ []) (32 ∷ z) refl refl refl })
comparison_infix _ o h = absurd cc

and_infix : (kind : Kind) (o : Op) → and_of kind ≡ Some o → Infix 4 kind o
unfolding reserved
and_infix k.And o h = is_op h (record { bare = tt; low = omega arith; stands = refl; spelled = refl; fronts = λ p z. fixed p (32 ∷ z) k.And tt refl refl refl })
and_infix _ o h = absurd cc

or_infix : (kind : Kind) (o : Op) → or_of kind ≡ Some o → Infix 5 kind o
unfolding reserved
or_infix k.Or o h = is_op h (record { bare = tt; low = omega arith; stands = refl; spelled = refl; fronts = λ p z. fixed p (32 ∷ z) k.Or tt refl refl refl })
or_infix _ o h = absurd cc

pub infix_of : (n : ℕ) (kind : Kind) (o : Op) → operator_at n kind ≡ Some o → Infix n kind o
unfolding operator_at
infix_of zero kind o h = absurd cc
infix_of (suc zero) kind o h = product_infix kind o h
infix_of (suc (suc zero)) kind o h = sum_infix kind o h
infix_of (suc (suc (suc zero))) kind o h = comparison_infix kind o h
infix_of (suc (suc (suc (suc zero)))) kind o h = and_infix kind o h
infix_of (suc (suc (suc (suc (suc zero))))) kind o h = or_infix kind o h
infix_of (suc (suc (suc (suc (suc (suc n)))))) kind o h = absurd cc

taken : (o : Op) (args : List (List ℕ)) → is_infix o ≡ true → applied o args ≡ between (name_of o) args
taken o args h = rw h refl

called : (o : Op) (args : List (List ℕ)) → is_infix o ≡ false → applied o args ≡ named (name_of o) args
called o args h = rw h refl

pub infix_text : (p : Program) (o : Op) (kind : Kind) (a b : Expr) → is_infix o ≡ true → name_of o ≡ kind_text kind
    → expr_text p (apply_two o a b) ≡ codes "(" ++ expr_text p a ++ codes " " ++ kind_text kind ++ codes " " ++ expr_text p b ++ codes ")"
infix_text p o kind a b h name =
    apply_text p o (a ∷ b ∷ []) ∙ taken o (expr_text p a ∷ expr_text p b ∷ []) h ∙ ap (λ n. between n (expr_text p a ∷ expr_text p b ∷ [])) name

one_joined : (n l : List ℕ) → named n (l ∷ []) ≡ n ++ codes "(" ++ l ++ codes ")"
one_joined n l = simp append-nil

two_joined : (n l r : List ℕ) → named n (l ∷ r ∷ []) ≡ n ++ codes "(" ++ l ++ codes ", " ++ r ++ codes ")"
two_joined n l r = simp (append-nil, append_assoc)

one_text : (p : Program) (o : Op) (kind : Kind) (a : Expr) → is_infix o ≡ false → name_of o ≡ kind_text kind
    → expr_text p (apply_one o a) ≡ kind_text kind ++ codes "(" ++ expr_text p a ++ codes ")"
one_text p o kind a h name =
    apply_text p o (a ∷ []) ∙ called o (expr_text p a ∷ []) h ∙ ap (λ n. named n (expr_text p a ∷ [])) name ∙ one_joined (kind_text kind) (expr_text p a)

two_text : (p : Program) (o : Op) (kind : Kind) (a b : Expr) → is_infix o ≡ false → name_of o ≡ kind_text kind
    → expr_text p (apply_two o a b) ≡ kind_text kind ++ codes "(" ++ expr_text p a ++ codes ", " ++ expr_text p b ++ codes ")"
two_text p o kind a b h name =
    apply_text p o (a ∷ b ∷ []) ∙ called o (expr_text p a ∷ expr_text p b ∷ []) h ∙ ap (λ n. named n (expr_text p a ∷ expr_text p b ∷ [])) name ∙ two_joined (kind_text kind) (expr_text p a) (expr_text p b)

-- a word before one argument
pub record OneOf (kind : Kind) (f : Expr → Expr) : Type 0 where
  pub bare : Bare kind
  pub starts : (t : Token) → start_of kind t ≡ one f
  pub text : (p : Program) (a : Expr) → expr_text p (f a) ≡ kind_text kind ++ codes "(" ++ expr_text p a ++ codes ")"
  pub fronts : (p : Program) (z : List ℕ) → Fronts p (plain kind bare) (40 ∷ z)

same_one : {f g : Expr → Expr} → one f ≡ one g → f ≡ g
same_one h = cc

is_one : {kind : Kind} {f g : Expr → Expr} → one f ≡ one g → OneOf kind f → OneOf kind g
is_one {kind} {f} {g} h x = subst (OneOf kind) (same_one h) x

pub one_of : (kind : Kind) (t : Token) (f : Expr → Expr) → start_of kind t ≡ one f → OneOf kind f
unfolding reserved
one_of k.Not t f h = is_one h (record { bare = tt; starts = λ t. refl; text = λ p a. one_text p op.Not k.Not a refl refl; fronts = λ p z. fixed p (40 ∷ z) k.Not tt refl refl refl })
one_of k.Neg t f h = is_one h (record { bare = tt; starts = λ t. refl; text = λ p a. one_text p op.Neg k.Neg a refl refl; fronts = λ p z. fixed p (40 ∷ z) k.Neg tt refl refl refl })
one_of k.Abs t f h = is_one h (record { bare = tt; starts = λ t. refl; text = λ p a. one_text p op.Abs k.Abs a refl refl; fronts = λ p z. fixed p (40 ∷ z) k.Abs tt refl refl refl })
one_of k.Len t f h = is_one h (record { bare = tt; starts = λ t. refl; text = λ p a. one_text p op.Len k.Len a refl refl; fronts = λ p z. fixed p (40 ∷ z) k.Len tt refl refl refl })
one_of k.Fst t f h = is_one h (record { bare = tt; starts = λ t. refl; text = λ p a. one_text p op.Fst k.Fst a refl refl; fronts = λ p z. fixed p (40 ∷ z) k.Fst tt refl refl refl })
one_of k.Snd t f h = is_one h (record { bare = tt; starts = λ t. refl; text = λ p a. one_text p op.Snd k.Snd a refl refl; fronts = λ p z. fixed p (40 ∷ z) k.Snd tt refl refl refl })
one_of _ t f h = absurd cc

-- a word before two arguments
pub record TwoOf (kind : Kind) (f : Expr → Expr → Expr) : Type 0 where
  pub bare : Bare kind
  pub starts : (t : Token) → start_of kind t ≡ two f
  pub text : (p : Program) (a b : Expr) → expr_text p (f a b) ≡ kind_text kind ++ codes "(" ++ expr_text p a ++ codes ", " ++ expr_text p b ++ codes ")"
  pub fronts : (p : Program) (z : List ℕ) → Fronts p (plain kind bare) (40 ∷ z)

same_two : {f g : Expr → Expr → Expr} → two f ≡ two g → f ≡ g
same_two h = cc

is_two : {kind : Kind} {f g : Expr → Expr → Expr} → two f ≡ two g → TwoOf kind f → TwoOf kind g
is_two {kind} {f} {g} h x = subst (TwoOf kind) (same_two h) x

pub two_of : (kind : Kind) (t : Token) (f : Expr → Expr → Expr) → start_of kind t ≡ two f → TwoOf kind f
unfolding reserved
two_of k.Min t f h = is_two h (record { bare = tt; starts = λ t. refl; text = λ p a b. two_text p op.Min k.Min a b refl refl; fronts = λ p z. fixed p (40 ∷ z) k.Min tt refl refl refl })
two_of k.Max t f h = is_two h (record { bare = tt; starts = λ t. refl; text = λ p a b. two_text p op.Max k.Max a b refl refl; fronts = λ p z. fixed p (40 ∷ z) k.Max tt refl refl refl })
two_of k.Pair t f h = is_two h (record { bare = tt; starts = λ t. refl; text = λ p a b. two_text p op.Pair k.Pair a b refl refl; fronts = λ p z. fixed p (40 ∷ z) k.Pair tt refl refl refl })
two_of k.Cell t f h = is_two h (record { bare = tt; starts = λ t. refl; text = cell_text; fronts = λ p z. fixed p (40 ∷ z) k.Cell tt refl refl refl })
two_of _ t f h = absurd cc
