-- What the machine accepts without limits is in the grammar.
use Rattle.std.proofs.Common.{◌≡◌, ℕ, false, List, [], ◌∷◌, ◌++◌, Option, Some, None, refl, sym, ap, ◌∙◌}
use Rattle.std.proofs.lemmas.List.{append-nil}
use Rattle.psac_syntax.specs.declared.program.Func.{Func}
use Rattle.psac_tokens.specs.declared.token.Kind.TheVariants as kinds
use Rattle.psac_tokens.specs.declared.token.Token.{Token}
use Rattle.psac_tokens.specs.declared.token.TheConstants.{NOTHING}
use Rattle.psac_grammar.specs.Marked.{Mark, fine, over, late, Marked, plain, token}
use Rattle.psac_grammar.specs.Grammar as g
use Rattle.psac_grammar.specs.Grammar.{IsText, IsFuncs}
use Rattle.psac_grammar.specs.Machine.{Symbol, Item, of_funcs, Move, take, pass, refuse, move, Behind, behind, Step, go, stop, done, accepted, no_limits, settled, exceeds, after, next, last, start, begun, step, run_with}
use Rattle.psac_grammar.proofs.Derives.{Needed, Derives, Takes, Passes, splits}
use Rattle.psac_grammar.proofs.Passed.{passed}
use Rattle.psac_grammar.proofs.Taken.{taken}

-- what is known of shorter lists of tokens
abbrev Sound : List Token → List Item → Type 0
Sound ts ws = (l : Behind) (s : List Symbol) (vs : List Item) → run_with no_limits ts l s vs ≡ accepted ws → Derives s vs ts ws

pub lax_settled : (o : Option ℕ) (line : ℕ) (r : Step) → settled false o line r ≡ r
lax_settled None line r = refl
lax_settled (Some w) line r = refl

pub lax_exceeds : (m : Mark) (t : Token) (r : Step) → exceeds false m t r ≡ r
lax_exceeds fine t r = refl
lax_exceeds (late w) t r = refl
lax_exceeds (over w) t r = refl

step_sound : (l : Behind) (s : List Symbol) (vs : List Item) (t : Token) (ts : List Token) (ws : List Item) → Sound ts ws → next (step no_limits l s vs t) t ts (run_with no_limits ts) ≡ accepted ws → Derives s vs (t ∷ ts) ws
unfolding step
step_sound l [] vs t ts ws ih h = absurd (let e : next (done vs) t ts (run_with no_limits ts) ≡ accepted ws = ap (λ r. next r t ts (run_with no_limits ts)) (sym (lax_settled l.late l.line (done vs))) ∙ h in cc)
step_sound l (x ∷ s) vs t ts ws ih h = by (λ us j. step_sound l s us t ts ws ih j) (move x t) (taken x t vs ts s ws) (passed x t vs (t ∷ ts) s ws) h
  where
    by : ((us : List Item) → next (step no_limits l s us t) t ts (run_with no_limits ts) ≡ accepted ws → Derives s us (t ∷ ts) ws)
        → (m : Move) → Takes (Derives (x ∷ s) vs (t ∷ ts) ws) vs ts s ws m → Passes (Derives (x ∷ s) vs (t ∷ ts) ws) vs (t ∷ ts) s ws m
        → next (after no_limits l m t s vs (λ us. step no_limits l s us t)) t ts (run_with no_limits ts) ≡ accepted ws → Derives (x ∷ s) vs (t ∷ ts) ws
    by on (take m more new) takes passes h =
        takes (ih (behind t m) (more ++ s) (new ++ vs)
        (ap (λ r. next r t ts (run_with no_limits ts)) (sym (lax_settled l.late l.line (exceeds false m t (go (behind t m) (more ++ s) (new ++ vs))) ∙ lax_exceeds m t (go (behind t m) (more ++ s) (new ++ vs)))) ∙ h))
    by on (pass f) takes passes h = passes (on (f vs).1 h)
    by on refuse takes passes h = absurd (let e : next (stop _) t ts (run_with no_limits ts) ≡ accepted ws = ap (λ r. next r t ts (run_with no_limits ts)) (sym (lax_settled l.late l.line (stop _))) ∙ h in cc)

end_sound : (l : Behind) (s : List Symbol) (vs ws : List Item) → last (step no_limits l s vs NOTHING) ≡ accepted ws → Derives s vs [] ws
unfolding step
end_sound l [] vs ws h = (refl, (let e : accepted vs ≡ accepted ws = ap last (sym (lax_settled l.late l.line (done vs))) ∙ h in cc))
end_sound l (x ∷ s) vs ws h = by (λ us j. end_sound l s us ws j) (move x NOTHING) (passed x NOTHING vs [] s ws) h
  where
    by : ((us : List Item) → last (step no_limits l s us NOTHING) ≡ accepted ws → Derives s us [] ws)
        → (m : Move) → Passes (Derives (x ∷ s) vs [] ws) vs [] s ws m → last (after no_limits l m NOTHING s vs (λ us. step no_limits l s us NOTHING)) ≡ accepted ws → Derives (x ∷ s) vs [] ws
    by on (take m more new) passes h =
        absurd (let r = go (behind NOTHING m) (more ++ s) (new ++ vs) in let e : last r ≡ accepted ws = ap last (sym (lax_settled l.late l.line (exceeds false m NOTHING r) ∙ lax_exceeds m NOTHING r)) ∙ h in cc)
    by on (pass f) passes h = passes (on (f vs).1 h)
    by on refuse passes h = absurd (let e : last (stop _) ≡ accepted ws = ap last (sym (lax_settled l.late l.line (stop _))) ∙ h in cc)

pub sound : (ts : List Token) (ws : List Item) → Sound ts ws
unfolding run_with
sound [] ws l s vs h = end_sound l s vs ws h
sound (t ∷ ts) ws l s vs h = step_sound l s vs t ts ws (sound ts ws) h

-- ---- whole texts

-- the tokens are a text, limits aside
pub record Text (ts : List Token) (fs : List Func) : Type 0 where
  pub ms : List Marked
  pub grammar : IsText ms fs
  pub tokens : plain ms ≡ ts

-- what is accepted is what was built of functions
pub record Accepted (ts : List Token) (ws : List Item) : Type 0 where
  pub fs : List Func
  pub text : Text ts fs
  pub is : of_funcs fs ∷ [] ≡ ws

some_text : (ms : List Marked) (fs : List Func) (e : Token) → IsFuncs 0 ms fs → Needed 0 fs → e.kind ≡ kinds.End → IsText (ms ++ token e ∷ []) fs
some_text ms [] e good some is = absurd some
some_text ms (f ∷ fs) e good some is = g.text ms f fs e good is

pub accepted_text : (ts : List Token) (l : Behind) (ws : List Item) → run_with no_limits ts l start begun ≡ accepted ws → Accepted ts ws
accepted_text ts l ws h =
    let d : Derives start begun ts ws = sound ts ws l start begun h in
    let e = d.after in
    let ends : e.rest ≡ [] = e.after.0 in
    record {
      fs = d.x;
      text = record {
        ms = d.ms ++ token e.t ∷ [];
        grammar = some_text d.ms d.x e.t d.good.0 d.good.1 e.is;
        tokens = sym (append-nil (plain (d.ms ++ token e.t ∷ []))) ∙ sym (splits d.ms (token e.t ∷ []) [] d.split (e.split ∙ ap (λ (r : List Token). e.t ∷ r) ends));
      };
      is = e.after.1;
    }
