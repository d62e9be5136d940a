-- Operands and operators, as the code meets them.
use Rattle.std.proofs.Common.{◌≡◌, ℕ, ◌-◌, Bool, true, false, not, List, [], ◌∷◌, Option, Some, None, refl, sym, ◌∙◌}
use Rattle.psac_ops.specs.declared.op.Op.{Op}
use Rattle.psac_syntax.specs.declared.program.Expr.TheVariants as expr
use Rattle.psac_tokens.specs.declared.token.Kind.{Kind}
use Rattle.psac_tokens.specs.declared.token.Kind.TheVariants as kinds
use Rattle.psac_tokens.specs.declared.token.Token.{Token}
use Rattle.psac_grammar.specs.Marked.{fine, over, late, by_parens}
use Rattle.psac_grammar.specs.Grammar.{operator_at, is_chain, start_of}
use Rattle.psac_grammar.specs.Machine.{Symbol, mark, make, level, tail, tails, after_rows, again, joined, rows_made, rows_on, same_kind, of_expr, Move, take, pass, refuse, move, also, operand, built}
use Rattle.psac_lang.proofs.Moves.{not_true, not_false, kind_is}

pub deep_is : (b : Bool) → b ≡ true → not b ≡ false
deep_is b h = rw h refl

pub fits_is : (b : Bool) → b ≡ false → not b ≡ true
fits_is b h = rw h refl

module _ (m p : ℕ) (t u : Token) (o : Option Op) (same : t ≡ u) (is : o ≡ operator_at m t.kind) where
  pub no_operator : o ≡ None → move (tail m p) u ≡ pass built
  unfolding move
  no_operator none = rw (← same, sym is ∙ none) refl

  pub an_operator : (op : Op) → o ≡ Some op → move (tail m p) u ≡ take fine (level (m - 1) p ∷ make (joined op) ∷ again (is_chain m) m p) []
  unfolding move
  an_operator op some = rw (← same, sym is ∙ some) refl

also-fine : (x : Move) → also fine x ≡ x
also-fine (take fine more new) = refl
also-fine (take (over w) more new) = refl
also-fine (take (late w) more new) = refl
also-fine (pass f) = refl
also-fine refuse = refl

pub level_moves : (m p : ℕ) (t : Token) → move (level m p) t ≡ also fine (operand (start_of t.kind t) t p (tails m p))
unfolding move
level_moves m p t = sym (also-fine (operand (start_of t.kind t) t p (tails m p)))

pub operand_fine : (x : Symbol) (t : Token) (p : ℕ) (more : List Symbol) → move x t ≡ operand (start_of t.kind t) t p more → move x t ≡ also fine (operand (start_of t.kind t) t p more)
operand_fine x t p more is = is ∙ sym (also-fine (operand (start_of t.kind t) t p more))

-- ---- the number of rows

rows_other : (k : Kind) (p : ℕ) → same_kind k kinds.LeftParen ≡ false → rows_on k p ≡ pass rows_made
rows_other kinds.LeftParen p h = absurd cc
rows_other _ p h = refl

module _ (p : ℕ) (t u : Token) (same : t ≡ u) where
  pub rows_alone : true ≡ not (same_kind t.kind kinds.LeftParen) → move (after_rows p) u ≡ pass rows_made
  unfolding move
  rows_alone h = rw (← same) (rows_other t.kind p (not_true _ h))

  pub rows_counted : false ≡ not (same_kind t.kind kinds.LeftParen) → move (after_rows p) u ≡ take (by_parens p) (mark kinds.RightParen ∷ []) (of_expr expr.RowCount 1 ∷ [])
  unfolding move
  rows_counted h = rw (← same, kind_is kinds.LeftParen t.kind (not_false _ h)) refl
