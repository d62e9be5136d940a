-- Texts and their first faults, computed from the definitions.
use Rattle.std.proofs.Common.{◌≡◌, ℕ, zero, suc, List, [], ◌∷◌, ◌++◌, refl, codes}
use Rattle.psac_tokens.specs.Lex.{reserved, front, lexemes_from}
use Rattle.psac_tokens.specs.Number.{tokens}
use Rattle.psac_grammar.specs.Grammar.{operator_at}
use Rattle.psac_grammar.specs.Machine.{Fault, syntax, limit, Answer, accepted, failed, all_limits, nothing_behind, move, step, run_with, start, begun}

data Outcome : Type 0 where
  fault : Fault → Outcome
  whole : Outcome

abbrev outcome : Answer → Outcome
outcome (accepted vs) = whole
outcome (failed f left) = fault f

abbrev of_text : List ℕ → Outcome
of_text bytes = outcome (run_with all_limits (tokens bytes) nothing_behind start begun)

abbrev line : List ℕ → List ℕ
line text = text ++ 10 ∷ []

abbrev times : ℕ → List ℕ → List ℕ
times zero text = []
times (suc n) text = text ++ times n text

abbrev writes : List ℕ
writes = codes "func main(; out) { write out = "

abbrev calls : List ℕ
calls = codes "func main(; out) { call f("

-- a sum of one more than so many numbers, each behind the first on a line of its own
abbrev chain : ℕ → List ℕ
chain n = line (codes "1") ++ times n (line (codes "+ 1"))

row_no_text : of_text ([]) ≡ fault (syntax 1 1)
unfolding run_with step move operator_at front lexemes_from reserved
row_no_text = refl

-- a missing end stands where a next byte would
row_ends_early : of_text (codes "func main(;) {") ≡ fault (syntax 1 15)
unfolding run_with step move operator_at front lexemes_from reserved
row_ends_early = refl

row_ends_early_line : of_text (line (codes "func main(;) {")) ≡ fault (syntax 2 1)
unfolding run_with step move operator_at front lexemes_from reserved
row_ends_early_line = refl

row_no_expression : of_text (writes ++ codes "; }") ≡ fault (syntax 1 32)
unfolding run_with step move operator_at front lexemes_from reserved
row_no_expression = refl

-- no two comparisons stand side by side
row_comparison_chain : of_text (writes ++ codes "1 == 2 == 3; }") ≡ fault (syntax 1 39)
unfolding run_with step move operator_at front lexemes_from reserved
row_comparison_chain = refl

row_row_count : of_text (writes ++ codes "rows() + rows; }") ≡ whole
unfolding run_with step move operator_at front lexemes_from reserved
row_row_count = refl

row_row_count_of : of_text (writes ++ codes "rows(1); }") ≡ fault (syntax 1 37)
unfolding run_with step move operator_at front lexemes_from reserved
row_row_count_of = refl

-- a fifth read is no part of the grammar
row_fifth_read : of_text (codes "func main(;) { read 1 as a, 2 as b, 3 as c, 4 as d, 5 as e { } }") ≡ fault (syntax 1 51)
unfolding run_with step move operator_at front lexemes_from reserved
row_fifth_read = refl

row_no_else : of_text (codes "func main(;) { if 1 { } }") ≡ fault (syntax 1 25)
unfolding run_with step move operator_at front lexemes_from reserved
row_no_else = refl

-- the parenthesis that is open beside 64 others
row_parens : of_text (line writes ++ times 65 (codes "(")) ≡ fault (limit 5 2)
unfolding run_with step move operator_at front lexemes_from reserved
row_parens = refl

-- an operand that ends is too deep, whatever stands behind it
row_depth_then_refused : of_text (line writes ++ chain 64 ++ codes "}") ≡ fault (limit 5 66)
unfolding run_with step move operator_at front lexemes_from reserved
row_depth_then_refused = refl

-- an operand that goes on is too deep at its end
row_depth_goes_on : of_text (line writes ++ chain 64 ++ codes "* 2; }") ≡ fault (limit 5 67)
unfolding run_with step move operator_at front lexemes_from reserved
row_depth_goes_on = refl

row_long_name : of_text (line writes ++ times 33 (codes "a") ++ codes "; }") ≡ fault (limit 6 2)
unfolding run_with step move operator_at front lexemes_from reserved
row_long_name = refl

row_long_name_refused : of_text (line writes ++ times 33 (codes "a") ++ codes " }") ≡ fault (limit 6 2)
unfolding run_with step move operator_at front lexemes_from reserved
row_long_name_refused = refl

-- at one token the lower limit goes before
row_deep_and_long : of_text (line writes ++ chain 63 ++ codes "+ " ++ times 33 (codes "a") ++ codes "; }") ≡ fault (limit 5 66)
unfolding run_with step move operator_at front lexemes_from reserved
row_deep_and_long = refl

row_long_goes_on : of_text (line writes ++ chain 63 ++ codes "+ " ++ times 33 (codes "a") ++ codes " * 2; }") ≡ fault (limit 6 66)
unfolding run_with step move operator_at front lexemes_from reserved
row_long_goes_on = refl

row_value_25 : of_text (line (calls ++ times 24 (codes "1, ")) ++ codes "1; out); }") ≡ fault (limit 9 2)
unfolding run_with step move operator_at front lexemes_from reserved
row_value_25 = refl

row_value_25_long : of_text (line (calls ++ times 24 (codes "1, ")) ++ times 33 (codes "a") ++ codes "; out); }") ≡ fault (limit 6 2)
unfolding run_with step move operator_at front lexemes_from reserved
row_value_25_long = refl

row_dest_25 : of_text (line (calls ++ codes ";" ++ times 24 (codes "out, ")) ++ codes "out); }") ≡ fault (limit 9 2)
unfolding run_with step move operator_at front lexemes_from reserved
row_dest_25 = refl

row_name_25 : of_text (line (codes "func main(" ++ times 11 (codes "a, ") ++ codes "a; " ++ times 12 (codes "b, ")) ++ codes "c) { }") ≡ fault (limit 8 2)
unfolding run_with step move operator_at front lexemes_from reserved
row_name_25 = refl

row_body_33 : of_text (line (codes "func main(; out) { " ++ times 31 (codes "par { ") ++ codes "par") ++ codes "{") ≡ fault (limit 4 2)
unfolding run_with step move operator_at front lexemes_from reserved
row_body_33 = refl
