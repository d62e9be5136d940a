-- Of a parsed program, a number is that of one read block.
use Rattle.std.proofs.Common.{◌≡◌, ◌≢◌, ℕ, List, [], AllPairs, Some, ap, sym, ◌∙◌, subst}
use Rattle.psac_syntax.specs.declared.program.Func.{Func}
use Rattle.psac_syntax.specs.declared.program.Program.{Program}
use Rattle.psac_tokens.specs.Lex.{lexemes}
use Rattle.psac_grammar.specs.Language.{IsParsed}
use Rattle.psac_model.specs.Fresh.{main_of}
use Rattle.psac_traced.specs.Bodies.{IsNumbered}
use Rattle.psac_traced.specs.Blocks.{numbers_of}
use Rattle.psac_traced.proofs.Blocks.{main_numbered}
use Rattle.psac_numbers.specs.Rising.{Rising, numbers_in}
use Rattle.psac_numbers.proofs.Rising.{part_rising, rising_distinct, tokens_rising, marked_is}
use Rattle.psac_numbers.proofs.Statements.{text_part}

pub program_distinct : (p : Program) → IsParsed p → AllPairs (λ m n. m ≢ n) (numbers_of p.funcs)
program_distinct p parsed =
    let h = parsed.1 in
    let same : p.funcs ≡ h.funcs = ap (λ (z : Program). z.funcs) h.is in
    let rising : Rising 0 (numbers_of h.funcs) =
    part_rising 0 (numbers_of h.funcs) _ (text_part h.ms h.funcs h.grammar) (subst (Rising 0) (sym (marked_is h.ms ∙ ap numbers_in h.tokens)) (tokens_rising [] [] 0 (lexemes parsed.0))) in
    subst (λ z. AllPairs (λ m n. m ≢ n) (numbers_of z)) (sym same) (rising_distinct 0 (numbers_of h.funcs) rising)

pub parsed_numbered : (p : Program) (main : Func) → IsParsed p → main_of p ≡ Some main → IsNumbered p.funcs main.body
parsed_numbered p main h is = main_numbered p main is (program_distinct p h)
