use Rattle.std.proofs.Common.{arith, ◌≡◌, ◌∙◌, ap, sym, refl, subst, inl, Ok}
use Rattle.psac_grammar.specs.Machine.{run_with, start, begun, nothing_behind, all_limits}
use Rattle.psac_tokens.specs.Number as number
use Rattle.psac_grammar.specs.Language.{IsProgram, program}
use Rattle.psac_grammar.proofs.Whole.{accepted_program}
use Rattle.psac_lang.proofs.Answered.{not_failed, is_program, at_place, at_limit}
use Rattle.psac_lang.proofs.program.parse.Goals as goal

pub returns-in-Ok-clause-text : goal.returns-in-Ok-clause-text
returns-in-Ok-clause-text c =
    let bytes = c.args.bytes.now in
    let h = ap (λ ts. run_with all_limits ts nothing_behind start begun) (sym (c.deref.ensures.value ∙ c.in_ok-tokens.ensures.tokens)) ∙ c.in-Ok.ensures in
    let names_is : c.in_ok-tokens.field-0.names ≡ number.names bytes = c.in_ok-tokens.ensures.names in
    let texts_is : c.in_ok-tokens.field-0.texts ≡ number.texts bytes = c.in_ok-tokens.ensures.texts in
    let reads_is : c.in_ok-tokens.field-0.reads ≡ number.reads bytes = c.in_ok-tokens.ensures.reads in
    let is : program bytes c.in-Ok.funcs ≡ record { names = c.in_ok-tokens.field-0.names; texts = c.in_ok-tokens.field-0.texts; funcs = c.in-Ok.funcs; blocks = c.in_ok-tokens.field-0.reads } = rw (names_is, texts_is, reads_is) refl in
    subst (IsProgram bytes) is (accepted_program bytes c.in-Ok.funcs (omega arith) h)

pub returns-in-Ok-clause-only : goal.returns-in-Ok-clause-only
returns-in-Ok-clause-only c p x =
    let bytes = c.args.bytes.now in
    let h = ap (λ ts. run_with all_limits ts nothing_behind start begun) (sym (c.deref.ensures.value ∙ c.in_ok-tokens.ensures.tokens)) ∙ c.in-Ok.ensures in
    let names_is : c.in_ok-tokens.field-0.names ≡ number.names bytes = c.in_ok-tokens.ensures.names in
    let texts_is : c.in_ok-tokens.field-0.texts ≡ number.texts bytes = c.in_ok-tokens.ensures.texts in
    let reads_is : c.in_ok-tokens.field-0.reads ≡ number.reads bytes = c.in_ok-tokens.ensures.reads in
    let is : program bytes c.in-Ok.funcs ≡ record { names = c.in_ok-tokens.field-0.names; texts = c.in_ok-tokens.field-0.texts; funcs = c.in-Ok.funcs; blocks = c.in_ok-tokens.field-0.reads } = rw (names_is, texts_is, reads_is) refl in
    inl (ap Ok (sym is ∙ sym (is_program bytes p x c.in-Ok.funcs h)))

pub returns-in-Err-Syntax-clause-only : goal.returns-in-Err-Syntax-clause-only
returns-in-Err-Syntax-clause-only c p x =
    let m = rw c.in-Err-Syntax.field-0-is at c.in-Err-Syntax.ensures in
    absurd (not_failed c.args.bytes.now p x _ m.0 (ap (λ ts. run_with all_limits ts nothing_behind start begun) (sym (c.deref.ensures.value ∙ c.in_ok-tokens.ensures.tokens)) ∙ m.1))

pub returns-in-Err-Limit-clause-only : goal.returns-in-Err-Limit-clause-only
returns-in-Err-Limit-clause-only c p x =
    let m = rw c.in-Err-Limit.field-0-is at c.in-Err-Limit.ensures in
    absurd (not_failed c.args.bytes.now p x _ m.0 (ap (λ ts. run_with all_limits ts nothing_behind start begun) (sym (c.deref.ensures.value ∙ c.in_ok-tokens.ensures.tokens)) ∙ m.1))

pub returns-in-Err-Syntax-clause-syntax : goal.returns-in-Err-Syntax-clause-syntax
returns-in-Err-Syntax-clause-syntax c line column same =
    let m = rw c.in-Err-Syntax.field-0-is at c.in-Err-Syntax.ensures in
    let a : c.in-Err-Syntax.line ≡ line = cc in
    let b : c.in-Err-Syntax.column ≡ column = cc in
    at_place c.args.bytes.now _ _ line column m.0 (omega arith) (ap (λ ts. run_with all_limits ts nothing_behind start begun) (sym (c.deref.ensures.value ∙ c.in_ok-tokens.ensures.tokens)) ∙ m.1) a b

pub returns-in-Err-Limit-clause-limit : goal.returns-in-Err-Limit-clause-limit
returns-in-Err-Limit-clause-limit c which line same =
    let m = rw c.in-Err-Limit.field-0-is at c.in-Err-Limit.ensures in
    let a : c.in-Err-Limit.which ≡ which = cc in
    let b : c.in-Err-Limit.line ≡ line = cc in
    at_limit c.args.bytes.now _ _ which line m.0 (omega arith) (ap (λ ts. run_with all_limits ts nothing_behind start begun) (sym (c.deref.ensures.value ∙ c.in_ok-tokens.ensures.tokens)) ∙ m.1) a b
