use Rattle.std.proofs.Common.{◌≡◌, ◌+◌, ◌≤◌, ◌*◌, length, List, ◌∷◌}
use Rattle.psac_grammar.specs.Machine.{Symbol, tail, Item, run}
use Rattle.psac_lang.specs.Reads.{operand_item}
use Rattle.psac_lang.proofs.expression.+expr.Given as goal

abbrev pub decreases-expr : goal.decreases-expr
decreases-expr l = length l.tokens.now.1 * 16 + 11

abbrev pub decreases-fact : goal.decreases-fact
decreases-fact l = length l.tokens.now.1 * 16 + 10

abbrev pub decreases-inner : goal.decreases-inner
decreases-inner l = length l.tokens.now.1 * 16 + 9

abbrev pub decreases-one : goal.decreases-one
decreases-one l = length l.tokens.now.1 * 16 + 9

abbrev pub decreases-two : goal.decreases-two
decreases-two l = length l.tokens.now.1 * 16 + 9

abbrev pub decreases-tails : goal.decreases-tails
decreases-tails l = length l.tokens.now.1 * 16 + 2 + l.upto

abbrev pub decreases-tail : goal.decreases-tail
decreases-tail l = length l.tokens.now.1 * 16 + 1

abbrev pub invariant-tail-more : goal.invariant-tail-more
invariant-tail-more l = record {
  reads : (s : List Symbol) (vs : List Item) → run l.fn.tokens (tail l.level l.parens ∷ s) (operand_item l.fn.left ∷ vs) ≡ run l.tokens (tail l.level l.parens ∷ s) (operand_item l.all ∷ vs);
  shorter : length l.tokens.1 ≤ length l.fn.tokens.1;
  within : l.all.depth ≤ 64;
}

abbrev pub decreases-tail-more : goal.decreases-tail-more
decreases-tail-more l = length l.tokens.1
