use Rattle.std.proofs.Common.{◌≡◌, ◌+◌, ◌*◌, ◌≤◌, length, List, [], ◌∷◌}
use Rattle.psac_tokens.specs.declared.token.Kind.TheVariants.{RightBrace}
use Rattle.psac_grammar.specs.Machine.{Symbol, statements, mark, Item, of_stmts, run}
use Rattle.psac_lang.proofs.statement.+body.Given as goal

abbrev pub decreases-body : goal.decreases-body
decreases-body l = length l.tokens.now.1 * 8 + 4

abbrev pub decreases-statement : goal.decreases-statement
decreases-statement l = length l.tokens.now.1 * 8 + 3

abbrev pub decreases-read_rest : goal.decreases-read_rest
decreases-read_rest l = length l.tokens.now.1 * 8 + 2

abbrev pub decreases-if_rest : goal.decreases-if_rest
decreases-if_rest l = length l.tokens.now.1 * 8 + 2

abbrev pub decreases-par_rest : goal.decreases-par_rest
decreases-par_rest l = length l.tokens.now.1 * 8 + 2

abbrev pub decreases-block : goal.decreases-block
decreases-block l = length l.tokens.now.1 * 8 + 1

abbrev pub invariant-body-stmts : goal.invariant-body-stmts
invariant-body-stmts l = record {
  reads : (s : List Symbol) (vs : List Item) → run l.fn.tokens (statements l.bodies l.names 0 ∷ mark RightBrace ∷ s) (of_stmts [] ∷ vs) ≡ run l.tokens (statements l.bodies l.scope (length l.stmts) ∷ mark RightBrace ∷ s) (of_stmts l.stmts ∷ vs);
  shorter : length l.tokens.1 ≤ length l.fn.tokens.1;
  room : l.scope ≤ 24;
}

abbrev pub decreases-body-stmts : goal.decreases-body-stmts
decreases-body-stmts l = length l.tokens.1
