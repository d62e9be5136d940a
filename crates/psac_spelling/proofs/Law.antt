-- The canonical text of a program is read back as the same program, but for its lines.
use Rattle.std.proofs.Common.{◌≡◌, ℕ, ◌+◌, ◌≤◌, List, [], ◌∷◌, ◌++◌, append-nil, length, map, refl, sym, ap, subst, ◌∙◌, arith}
use Rattle.std.specs.Prelude.{flat_map}
use Rattle.psac_syntax.specs.declared.program.Func.{Func}
use Rattle.psac_syntax.specs.declared.program.Program.{Program}
use Rattle.psac_tokens.specs.declared.token.Kind.TheVariants as k
use Rattle.psac_tokens.specs.declared.token.Token.{Token}
use Rattle.psac_tokens.specs.Lex.{lexemes}
use Rattle.psac_tokens.specs.Number.{tokens, names, texts, reads}
use Rattle.psac_grammar.specs.Marked.{fine, Marked, plain, token, AllFine}
use Rattle.psac_grammar.specs.Grammar.{IsFuncs, IsText}
use Rattle.psac_grammar.specs.Language.{IsProgram, program, max_bytes}
use Rattle.psac_spelling.specs.Canonical.{canonical, func_text}
use Rattle.psac_spelling.specs.Unlined.{func_unlined, ReadsBack}
use Rattle.psac_spelling.proofs.Pieces.{Piece, Spelled, nothing}
use Rattle.psac_spelling.proofs.Lexing.{lexes}
use Rattle.psac_spelling.proofs.Found.{all_sound}
use Rattle.psac_spelling.proofs.Replays.{Replays, replays, carried, NoneOver, Numbered, Counted, numbered}
use Rattle.psac_spelling.proofs.Tokens.{cargo, replay_good, replay_loads, fines, fines-append, plain-fines, all_fine, fine_parts}
use Rattle.psac_spelling.proofs.Prints.{carries_none, none_behind}
use Rattle.psac_spelling.proofs.Functions.{FuncsAgain, funcs}
use Rattle.psac_spelling.proofs.Within.{text_fits, none_over}

-- what a program's own text numbers
own_replays : (bytes : List ℕ) (fs : List Func) → NoneOver (tokens bytes) → Replays (program bytes fs) [] [] 0 (flat_map carried (tokens bytes))
own_replays bytes fs over = replays (program bytes fs) [] [] 0 (lexemes bytes) (all_sound (length bytes + 1) bytes (record { line = 1; column = 1 })) over refl refl refl

whole_text : (ts : List Token) (last : Token) (new : List Func) (f : Func) (fs : List Func) → IsFuncs 0 (fines ts) new → map func_unlined new ≡ map func_unlined (f ∷ fs) → last.kind ≡ k.End → IsText (fines ts ++ token last ∷ []) new
whole_text ts last [] f fs good same ends = absurd cc
whole_text ts last (g ∷ gs) f fs good same ends = IsText.text (fines ts) g gs last good ends

module _ (bytes : List ℕ) (f : Func) (fs : List Func) (p : Program) (qs : List Piece) (short : length (canonical p) ≤ max_bytes)
    (numbers : Numbered qs (tokens (canonical p))) (counts : Counted p (names (canonical p)) (texts (canonical p)) (reads (canonical p))) (again : FuncsAgain 0 (fines numbers.tokens) (f ∷ fs)) (is : p.funcs ≡ f ∷ fs) where
  all_fines : fines (numbers.tokens ++ numbers.last ∷ []) ≡ fines numbers.tokens ++ token numbers.last ∷ []
  all_fines = fines-append numbers.tokens (numbers.last ∷ [])

  back : ReadsBack p (canonical p)
  back = record {
    program = program (canonical p) again.new;
    is = record {
      ms = fines (numbers.tokens ++ numbers.last ∷ []);
      funcs = again.new;
      short = short;
      tokens = plain-fines (numbers.tokens ++ numbers.last ∷ []) ∙ sym numbers.split;
      grammar = subst (λ ms. IsText ms again.new) (sym all_fines) (whole_text numbers.tokens numbers.last again.new f fs again.good again.same numbers.ends);
      limits = all_fine (numbers.tokens ++ numbers.last ∷ []);
      is = refl;
    };
    same = rw (counts.names, counts.texts, counts.reads, again.same, is) refl;
  }

read_back : (p : Program) (bytes : List ℕ) (ms : List Marked) (fs : List Func) → p ≡ program bytes fs → plain ms ≡ tokens bytes → IsText ms fs → AllFine ms → length (canonical p) ≤ max_bytes → ReadsBack p (canonical p)
read_back p bytes _ _ is same (IsText.text ms f fs e x ends) ok short =
    let over = subst NoneOver same (none_over (ms ++ token e ∷ []) (text_fits (ms ++ token e ∷ []) (f ∷ fs) (IsText.text ms f fs e x ends) ok)) in
    let cs : cargo (ms ++ token e ∷ []) ≡ cargo ms = none_behind e fine ms (carries_none e k.End ends tt) in
    let own : Replays (program bytes (f ∷ fs)) [] [] 0 (flat_map carried (tokens bytes)) = own_replays bytes (f ∷ fs) over in
    let mine : Replays p [] [] 0 (cargo ms) = subst (λ q. Replays q [] [] 0 (cargo ms)) (sym is) (subst (Replays (program bytes (f ∷ fs)) [] [] 0) (ap (flat_map carried) (sym same) ∙ cs) own) in
    let y = funcs p 0 ms (f ∷ fs) x (fine_parts ms (token e ∷ []) ok).0 (replay_good p (cargo ms) [] [] 0 mine) in
    let funcs_is : p.funcs ≡ f ∷ fs = ap (λ (q : Program). q.funcs) is in
    let spelled : Spelled p (canonical p) y.qs =
    subst (λ z. Spelled p z y.qs) (append-nil (flat_map (func_text p) (f ∷ fs)) ∙ ap (flat_map (func_text p)) (sym funcs_is)) (subst (Spelled p (flat_map (func_text p) (f ∷ fs) ++ [])) (append-nil y.qs) (y.spelled [] [] (nothing p))) in
    let read = lexes p (length (canonical p) + 1) (canonical p) y.qs (record { line = 1; column = 1 }) (omega arith) spelled in
    let got = numbered p [] [] 0 y.qs (lexemes (canonical p)) read (replay_loads p y.qs [] [] 0 (subst (Replays p [] [] 0) (sym y.carries) mine)) in
    back bytes f fs p y.qs short got.0 got.1 (y.derives got.0.tokens got.0.are) funcs_is

pub reads_back : (p : Program) (bytes : List ℕ) → IsProgram bytes p → length (canonical p) ≤ max_bytes → ReadsBack p (canonical p)
reads_back p bytes x short = read_back p bytes x.ms x.funcs x.is x.tokens x.grammar x.limits short
