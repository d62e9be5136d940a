-- Where the machine stops, there the first fault of the text stands.
use Rattle.std.proofs.Common.{◌≡◌, ℕ, ◌≤◌, true, List, [], ◌∷◌, ◌++◌, length, Option, Some, None, ◌⊎◌, inl, inr, ap, subst, ◌∙◌}
use Rattle.std.proofs.lemmas.List.{append-nil}
use Rattle.psac_tokens.specs.declared.token.Kind.{Kind}
use Rattle.psac_tokens.specs.declared.token.Kind.TheVariants as kinds
use Rattle.psac_tokens.specs.declared.token.Token.{Token}
use Rattle.psac_tokens.specs.declared.token.TheConstants.{NOTHING}
use Rattle.psac_tokens.specs.Number.{tokens}
use Rattle.psac_grammar.specs.Marked.{over}
use Rattle.psac_grammar.specs.Language.{SyntaxAt, TokenLimitAt, LimitAt, max_bytes}
use Rattle.psac_grammar.specs.Machine.{Symbol, mark, Item, move, Behind, nothing_behind, behind, Step, go, stop, done, syntax, limit, failed, no_limits, late_limits, all_limits, settled, after, last, first_of, start, begun, function_at, step, run_with}
use Rattle.psac_grammar.proofs.Walks.{walk, walk_same, StopsWith, Ends, where_stuck, reached}
use Rattle.psac_grammar.proofs.Stops.{NoLimit, AtOnce, Late, cause}
use Rattle.psac_grammar.proofs.Last.{reached_last}
use Rattle.psac_grammar.proofs.Ends.{EndsTokens, tokens_end, last_kind}
use Rattle.psac_grammar.proofs.Texts.{last_of, last_step}
use Rattle.psac_grammar.proofs.Syntaxes.{syntax_there}
use Rattle.psac_grammar.proofs.Limits.{at_once_there, late_there}

stopped : (r : Step) (t : Token) (w i : ℕ) → StopsWith r t (limit w i) → r ≡ stop (limit w i)
stopped (go l s vs) t w i h = absurd h
stopped (stop f) t w i h = ap stop h
stopped (done vs) t w i h = absurd cc

stopped_last : (r : Step) (w i : ℕ) → last r ≡ failed (limit w i) [] → r ≡ stop (limit w i)
stopped_last (go l s vs) w i h = absurd cc
stopped_last (stop f) w i h = let e : f ≡ limit w i = cc in ap stop e
stopped_last (done vs) w i h = absurd cc

start_calm : (k : Kind) (u : Token) → NoLimit (after late_limits nothing_behind (function_at k u 0) u (mark kinds.End ∷ []) begun (λ us. step late_limits nothing_behind (mark kinds.End ∷ []) us u))
start_calm kinds.Func u = tt
start_calm _ u = tt

-- At the first token no limit is known late.
start_quiet : (u : Token) → NoLimit (step late_limits nothing_behind start begun u)
unfolding step move
start_quiet u = start_calm u.kind u

start_is : {l : Behind} {s : List Symbol} {vs : List Item} → go nothing_behind start begun ≡ go l s vs → (nothing_behind ≡ l) × (start ≡ s) × (begun ≡ vs)
start_is h = (cc, cc, cc)

nothing_walked : (l : Behind) (s : List Symbol) (vs : List Item) → walk all_limits [] nothing_behind start begun ≡ go l s vs → (nothing_behind ≡ l) × (start ≡ s) × (begun ≡ vs)
unfolding walk
nothing_walked l s vs h = start_is h

pub first_not_late : (pre : List Token) (u : Token) (l : Behind) (s : List Symbol) (vs : List Item) (w i : ℕ) → pre ≡ [] → walk all_limits pre nothing_behind start begun ≡ go l s vs → step late_limits l s vs u ≡ stop (limit w i) → ⊥
first_not_late pre u l s vs w i none walked h =
    let e = nothing_walked l s vs (subst (λ r. walk all_limits r nothing_behind start begun ≡ go l s vs) none walked) in
    let same : step late_limits nothing_behind start begun u ≡ stop (limit w i) = rw (e.0, e.1, e.2) h in
    subst NoLimit same (start_quiet u)

late_limit : (bytes : List ℕ) (w i : ℕ) (pre post : List Token) (l : Behind) (s : List Symbol) (vs : List Item) → length bytes ≤ max_bytes → tokens bytes ≡ pre ++ post → walk all_limits pre nothing_behind start begun ≡ go l s vs
    → Late l s vs (first_of post) w i → TokenLimitAt bytes w i
late_limit bytes w i pre post l s vs short is walked x = by (last_of pre)
  where
    by : (pre ≡ []) ⊎ ((p : List Token) × ((t : Token) × (pre ≡ p ++ t ∷ []))) → TokenLimitAt bytes w i
    by (inl none) = absurd (first_not_late pre (first_of post) l s vs w i none walked x.stops)
    by (inr y) =
        let walked' = subst (λ r. walk all_limits r nothing_behind start begun ≡ go l s vs) y.1.1 walked in
        let z = last_step all_limits y.0 y.1.0 l s vs nothing_behind start begun walked' in
        late_there bytes w i y.0 y.1.0 post l s vs short (is ∙ ap (λ r. r ++ post) y.1.1) walked' (x.line ∙ z.line) x.stops

-- Behind the last token nothing is left to read.
all_read : (bytes : List ℕ) (pre : List Token) (l : Behind) (s : List Symbol) (vs : List Item) → tokens bytes ≡ pre ++ [] → walk all_limits pre nothing_behind start begun ≡ go l s vs → s ≡ []
all_read bytes pre l s vs is walked = by (last_of pre)
  where
    ends : EndsTokens pre
    ends = subst EndsTokens (is ∙ append-nil pre) (tokens_end bytes)

    by : (pre ≡ []) ⊎ ((p : List Token) × ((t : Token) × (pre ≡ p ++ t ∷ []))) → s ≡ []
    by (inl none) = absurd (subst EndsTokens none ends)
    by (inr y) =
        let lax = walk_same all_limits no_limits pre nothing_behind l start s begun vs (tt, tt) walked in
        let z = last_step no_limits y.0 y.1.0 l s vs nothing_behind start begun (subst (λ r. walk no_limits r nothing_behind start begun ≡ go l s vs) y.1.1 lax) in
        reached_last z.l z.s z.vs y.1.0 l s vs (reached y.0 nothing_behind z.l z.s z.vs z.walked) (last_kind y.0 y.1.0 (subst EndsTokens y.1.1 ends)) z.steps

empty_late : (l : Behind) (vs : List Item) (u : Token) (k : Behind) (q : List Symbol) (us : List Item) → step late_limits l [] vs u ≡ go k q us → ⊥
unfolding step
empty_late l vs u k q us h = by l.late h
  where
    by : (o : Option ℕ) → settled true o l.line (done vs) ≡ go k q us → ⊥
    by None h = cc
    by (Some w) h = cc

empty_syntax : (l : Behind) (vs : List Item) (i j : ℕ) → last (step all_limits l [] vs NOTHING) ≡ failed (syntax i j) [] → ⊥
unfolding step
empty_syntax l vs i j h = by l.late h
  where
    by : (o : Option ℕ) → last (settled true o l.line (done vs)) ≡ failed (syntax i j) [] → ⊥
    by None h = cc
    by (Some w) h = let e : failed (limit w l.line) [] ≡ failed (syntax i j) [] = h in cc

-- A fault of syntax stands where the machine stops at one.
pub syntax_place : (bytes : List ℕ) (line column : ℕ) (left : List Token) → length bytes ≤ max_bytes → run_with all_limits (tokens bytes) nothing_behind start begun ≡ failed (syntax line column) left → SyntaxAt bytes line column
syntax_place bytes line column left short h = let x = where_stuck all_limits (tokens bytes) nothing_behind start begun (syntax line column) left h in by x.post x.l' x.s' x.vs' x.pre x.tokens x.walked x.here
  where
    by : (post : List Token) (l : Behind) (s : List Symbol) (vs : List Item) (pre : List Token) → tokens bytes ≡ pre ++ post → walk all_limits pre nothing_behind start begun ≡ go l s vs → Ends all_limits post l s vs (syntax line column) → SyntaxAt bytes line column
    by [] l s vs pre is walked here = absurd (empty_syntax l vs line column (subst (λ r. last (step all_limits l r vs NOTHING) ≡ failed (syntax line column) []) (all_read bytes pre l s vs is walked) here))
    by (u ∷ post) l s vs pre is walked here = syntax_there bytes line column pre u post l s vs short is walked here

-- A limit is exceeded where the machine stops at one.
pub limit_place : (bytes : List ℕ) (which line : ℕ) (left : List Token) → length bytes ≤ max_bytes → run_with all_limits (tokens bytes) nothing_behind start begun ≡ failed (limit which line) left → LimitAt bytes which line
limit_place bytes which line left short h = let x = where_stuck all_limits (tokens bytes) nothing_behind start begun (limit which line) left h in inr (by x.post x.l' x.s' x.vs' x.pre x.tokens x.walked x.here)
  where
    by : (post : List Token) (l : Behind) (s : List Symbol) (vs : List Item) (pre : List Token) → tokens bytes ≡ pre ++ post → walk all_limits pre nothing_behind start begun ≡ go l s vs → Ends all_limits post l s vs (limit which line) → TokenLimitAt bytes which line
    by [] l s vs pre is walked here = at (cause l s vs NOTHING which line (stopped_last (step all_limits l s vs NOTHING) which line here))
      where
        at : AtOnce l s vs NOTHING which line ⊎ Late l s vs NOTHING which line → TokenLimitAt bytes which line
        at (inl a) = absurd (empty_late l vs NOTHING (behind NOTHING (over which)) a.s2 a.v2 (subst (λ r. step late_limits l r vs NOTHING ≡ go (behind NOTHING (over which)) a.s2 a.v2) (all_read bytes pre l s vs is walked) a.late_goes))
        at (inr b) = late_limit bytes which line pre [] l s vs short is walked b
    by (u ∷ post) l s vs pre is walked here = at (cause l s vs u which line stop_is)
      where
        stop_is : step all_limits l s vs u ≡ stop (limit which line)
        stop_is = stopped (step all_limits l s vs u) u which line here

        at : AtOnce l s vs u which line ⊎ Late l s vs u which line → TokenLimitAt bytes which line
        at (inl a) = at_once_there bytes which line pre u post l s vs short is walked stop_is a
        at (inr b) = late_limit bytes which line pre (u ∷ post) l s vs short is walked b
