-- The machine over the first tokens of a text, and where it stops.
use Rattle.std.proofs.Common.{◌≡◌, ℕ, ◌≤◌, List, [], ◌∷◌, ◌++◌, length, length-append, inl, inr, refl, sym, ap, subst, ◌∙◌, arith}
use Rattle.psac_tokens.specs.declared.token.Token.{Token}
use Rattle.psac_tokens.specs.declared.token.TheConstants.{NOTHING}
use Rattle.psac_grammar.specs.Machine.{Symbol, Item, Behind, Step, go, stop, done, Fault, limit, Answer, accepted, failed, syntax_at, Counted, no_limits, next, last, start, begun, step, run_with}
use Rattle.psac_grammar.proofs.Same.{Fewer, Same, step_same}
use Rattle.psac_grammar.proofs.Fills.{Reachable, at_start, at_last, between}
use Rattle.psac_grammar.proofs.Fits.{Left, left_step, start_step}

abbrev pub and_then : Step → (Behind → List Symbol → List Item → Step) → Step
and_then (go l s vs) f = f l s vs
and_then (stop e) f = stop e
and_then (done vs) f = done vs

unfoldable pub walk : Counted → List Token → Behind → List Symbol → List Item → Step
walk c [] l s vs = go l s vs
walk c (t ∷ ts) l s vs = and_then (step c l s vs t) (walk c ts)

-- ---- walks and runs

same_run : (c : Counted) (post : List Token) (l l' : Behind) (s s' : List Symbol) (vs vs' : List Item) → go l s vs ≡ go l' s' vs' → run_with c post l s vs ≡ run_with c post l' s' vs'
same_run c post l l' s s' vs vs' h = cc

append_over : (c : Counted) (t : Token) (pre post : List Token) (l' : Behind) (s' : List Symbol) (vs' : List Item) → ((l : Behind) (s : List Symbol) (vs : List Item) → walk c pre l s vs ≡ go l' s' vs' → run_with c (pre ++ post) l s vs ≡ run_with c post l' s' vs')
    → (r : Step) → and_then r (walk c pre) ≡ go l' s' vs' → next r t (pre ++ post) (run_with c (pre ++ post)) ≡ run_with c post l' s' vs'
append_over c t pre post l' s' vs' ih (go l s vs) h = ih l s vs h
append_over c t pre post l' s' vs' ih (stop e) h = absurd cc
append_over c t pre post l' s' vs' ih (done vs) h = absurd cc

pub run-append : (c : Counted) (pre post : List Token) (l l' : Behind) (s s' : List Symbol) (vs vs' : List Item) → walk c pre l s vs ≡ go l' s' vs' → run_with c (pre ++ post) l s vs ≡ run_with c post l' s' vs'
unfolding run_with walk
run-append c [] post l l' s s' vs vs' h = same_run c post l l' s s' vs vs' h
run-append c (t ∷ pre) post l l' s s' vs vs' h = append_over c t pre post l' s' vs' (λ l1 s1 vs1 j. run-append c pre post l1 l' s1 s' vs1 vs' j) (step c l s vs t) h

walk_on : (c : Counted) (post : List Token) (l l' : Behind) (s s' : List Symbol) (vs vs' : List Item) → go l s vs ≡ go l' s' vs' → walk c post l s vs ≡ walk c post l' s' vs'
walk_on c post l l' s s' vs vs' h = cc

walk_over : (c : Counted) (pre post : List Token) (l' : Behind) (s' : List Symbol) (vs' : List Item) → ((l : Behind) (s : List Symbol) (vs : List Item) → walk c pre l s vs ≡ go l' s' vs' → walk c (pre ++ post) l s vs ≡ walk c post l' s' vs')
    → (r : Step) → and_then r (walk c pre) ≡ go l' s' vs' → and_then r (walk c (pre ++ post)) ≡ walk c post l' s' vs'
walk_over c pre post l' s' vs' ih (go l s vs) h = ih l s vs h
walk_over c pre post l' s' vs' ih (stop e) h = absurd cc
walk_over c pre post l' s' vs' ih (done vs) h = absurd cc

pub walk-append : (c : Counted) (pre post : List Token) (l l' : Behind) (s s' : List Symbol) (vs vs' : List Item) → walk c pre l s vs ≡ go l' s' vs' → walk c (pre ++ post) l s vs ≡ walk c post l' s' vs'
unfolding walk
walk-append c [] post l l' s s' vs vs' h = walk_on c post l l' s s' vs vs' h
walk-append c (t ∷ pre) post l l' s s' vs vs' h = walk_over c pre post l' s' vs' (λ l1 s1 vs1 j. walk-append c pre post l1 l' s1 s' vs1 vs' j) (step c l s vs t) h

pub walk_one : (c : Counted) (t : Token) (l : Behind) (s : List Symbol) (vs : List Item) (l' : Behind) (s' : List Symbol) (vs' : List Item) → step c l s vs t ≡ go l' s' vs' → walk c (t ∷ []) l s vs ≡ go l' s' vs'
unfolding walk
walk_one c t l s vs l' s' vs' h = rw h refl

-- ---- where a run stops

abbrev pub StopsWith : Step → Token → Fault → Type 0
StopsWith (go l s vs) t f = ⊥
StopsWith (stop e) t f = e ≡ f
StopsWith (done vs) t f = syntax_at t ≡ f

abbrev pub Ends : Counted → List Token → Behind → List Symbol → List Item → Fault → Type 0
Ends c [] l s vs f = last (step c l s vs NOTHING) ≡ failed f []
Ends c (t ∷ ts) l s vs f = StopsWith (step c l s vs t) t f

pub record Stuck (c : Counted) (ts : List Token) (l : Behind) (s : List Symbol) (vs : List Item) (f : Fault) (left : List Token) : Type 0 where
  pub pre : List Token
  pub post : List Token
  pub l' : Behind
  pub s' : List Symbol
  pub vs' : List Item
  pub tokens : ts ≡ pre ++ post
  pub left_is : left ≡ post
  pub walked : walk c pre l s vs ≡ go l' s' vs'
  pub here : Ends c post l' s' vs' f

fault_is : {e f : Fault} {xs ys : List Token} → failed e xs ≡ failed f ys → e ≡ f
fault_is h = cc

pub left_is : {e f : Fault} {xs ys : List Token} → failed e xs ≡ failed f ys → xs ≡ ys
left_is h = cc

stuck_over : (c : Counted) (t : Token) (ts : List Token) (l : Behind) (s : List Symbol) (vs : List Item) (f : Fault) (left : List Token) → ((l : Behind) (s : List Symbol) (vs : List Item) → run_with c ts l s vs ≡ failed f left → Stuck c ts l s vs f left)
    → (r : Step) → step c l s vs t ≡ r → next r t ts (run_with c ts) ≡ failed f left → Stuck c (t ∷ ts) l s vs f left
unfolding walk
stuck_over c t ts l s vs f left ih (go l1 s1 vs1) is h =
    let x = ih l1 s1 vs1 h in
    record { pre = t ∷ x.pre; post = x.post; l' = x.l'; s' = x.s'; vs' = x.vs'; tokens = ap (λ (r : List Token). t ∷ r) x.tokens; left_is = x.left_is; walked = rw is x.walked; here = x.here }
stuck_over c t ts l s vs f left ih (stop e) is h =
    record { pre = []; post = t ∷ ts; l' = l; s' = s; vs' = vs; tokens = refl; left_is = sym (left_is h); walked = refl; here = rw is (fault_is h) }
stuck_over c t ts l s vs f left ih (done us) is h =
    record { pre = []; post = t ∷ ts; l' = l; s' = s; vs' = vs; tokens = refl; left_is = sym (left_is h); walked = refl; here = rw is (fault_is h) }

last_left : (r : Step) (f : Fault) (left : List Token) → last r ≡ failed f left → (left ≡ []) × (last r ≡ failed f [])
last_left (go l s vs) f left h = let e = left_is h in (sym e, h ∙ ap (failed f) (sym e))
last_left (stop g) f left h = let e = left_is h in (sym e, h ∙ ap (failed f) (sym e))
last_left (done vs) f left h = absurd cc

pub where_stuck : (c : Counted) (ts : List Token) (l : Behind) (s : List Symbol) (vs : List Item) (f : Fault) (left : List Token) → run_with c ts l s vs ≡ failed f left → Stuck c ts l s vs f left
unfolding run_with walk
where_stuck c [] l s vs f left h =
    let y = last_left (step c l s vs NOTHING) f left h in
    record { pre = []; post = []; l' = l; s' = s; vs' = vs; tokens = refl; left_is = y.0; walked = refl; here = y.1 }
where_stuck c (t ∷ ts) l s vs f left h = stuck_over c t ts l s vs f left (λ l1 s1 vs1 j. where_stuck c ts l1 s1 vs1 f left j) (step c l s vs t) refl h

-- What is left is no more than there was.
abbrev pub Short : ℕ → Answer → Type 0
Short n (accepted ws) = Unit {0}
Short n (failed f left) = length left ≤ n

pub run_short : (c : Counted) (ts : List Token) (l : Behind) (s : List Symbol) (vs : List Item) → Short (length ts) (run_with c ts l s vs)
run_short c ts l s vs = by (run_with c ts l s vs) refl
  where
    by : (a : Answer) → run_with c ts l s vs ≡ a → Short (length ts) a
    by (accepted ws) is = tt
    by (failed f left) is = let x = where_stuck c ts l s vs f left is in omega (arith, ap length x.tokens, ap length x.left_is, length-append x.pre x.post)

-- ---- walks with fewer limits

walk_fewer : (c d : Counted) (ts : List Token) (l' : Behind) (s' : List Symbol) (vs' : List Item) → ((l : Behind) (s : List Symbol) (vs : List Item) → walk c ts l s vs ≡ go l' s' vs' → walk d ts l s vs ≡ go l' s' vs')
    → (x y : Step) → Same x y → and_then x (walk c ts) ≡ go l' s' vs' → and_then y (walk d ts) ≡ go l' s' vs'
walk_fewer c d ts l' s' vs' ih x y (inl at) h = absurd (let e : stop (limit at.0 at.1) ≡ go l' s' vs' = ap (λ r. and_then r (walk c ts)) (sym at.2) ∙ h in cc)
walk_fewer c d ts l' s' vs' ih x y (inr same) h = subst (λ r. and_then r (walk d ts) ≡ go l' s' vs') same (by x h)
  where
    by : (x : Step) → and_then x (walk c ts) ≡ go l' s' vs' → and_then x (walk d ts) ≡ go l' s' vs'
    by (go l s vs) h = ih l s vs h
    by (stop e) h = absurd cc
    by (done vs) h = absurd cc

pub walk_same : (c d : Counted) (ts : List Token) (l l' : Behind) (s s' : List Symbol) (vs vs' : List Item) → Fewer d c → walk c ts l s vs ≡ go l' s' vs' → walk d ts l s vs ≡ go l' s' vs'
unfolding walk
walk_same c d [] l l' s s' vs vs' f h = h
walk_same c d (t ∷ ts) l l' s s' vs vs' f h = walk_fewer c d ts l' s' vs' (λ l1 s1 vs1 j. walk_same c d ts l1 l' s1 s' vs1 vs' f j) (step c l s vs t) (step d l s vs t) (step_same c d l s vs t f) h

-- ---- what is reached

left_over : (ts : List Token) (l' : Behind) (s' : List Symbol) (vs' : List Item) → ((l : Behind) (s : List Symbol) (vs : List Item) → Left s → walk no_limits ts l s vs ≡ go l' s' vs' → Left s')
    → (r : Step) → ((l : Behind) (s : List Symbol) (vs : List Item) → r ≡ go l s vs → Left s) → and_then r (walk no_limits ts) ≡ go l' s' vs' → Left s'
left_over ts l' s' vs' ih (go l s vs) first h = ih l s vs (first l s vs refl) h
left_over ts l' s' vs' ih (stop e) first h = absurd cc
left_over ts l' s' vs' ih (done vs) first h = absurd cc

stack_is : {l k : Behind} {s q : List Symbol} {vs ws : List Item} → go l s vs ≡ go k q ws → s ≡ q
stack_is h = cc

left_walk : (ts : List Token) (l l' : Behind) (s s' : List Symbol) (vs vs' : List Item) → Left s → walk no_limits ts l s vs ≡ go l' s' vs' → Left s'
unfolding walk
left_walk [] l l' s s' vs vs' d h = subst Left (stack_is h) d
left_walk (t ∷ ts) l l' s s' vs vs' d h = left_over ts l' s' vs' (λ l1 s1 vs1 e j. left_walk ts l1 l' s1 s' vs1 vs' e j) (step no_limits l s vs t) (λ l1 s1 vs1 is. left_step l s vs t l1 s1 vs1 d is) h

pub left_start : (t : Token) (ts : List Token) (l l' : Behind) (s' : List Symbol) (vs vs' : List Item) → walk no_limits (t ∷ ts) l start vs ≡ go l' s' vs' → Left s'
unfolding walk
left_start t ts l l' s' vs vs' h = left_over ts l' s' vs' (λ l1 s1 vs1 e j. left_walk ts l1 l' s1 s' vs1 vs' e j) (step no_limits l start vs t) (λ l1 s1 vs1 is. start_step l vs t l1 s1 vs1 is) h

left_reachable : (s : List Symbol) (vs : List Item) → Left s → Reachable s vs
left_reachable s vs (inl none) = subst (λ r. Reachable r vs) (sym none) (at_last vs)
left_reachable s vs (inr g) = between s vs g

start_reachable : (s : List Symbol) (vs : List Item) (l l' : Behind) → go l start begun ≡ go l' s vs → Reachable s vs
start_reachable s vs l l' h = let a : start ≡ s = cc in let b : begun ≡ vs = cc in subst (λ r. Reachable r vs) a (subst (λ r. Reachable start r) b at_start)

pub reached : (ts : List Token) (l l' : Behind) (s' : List Symbol) (vs' : List Item) → walk no_limits ts l start begun ≡ go l' s' vs' → Reachable s' vs'
unfolding walk
reached [] l l' s' vs' h = start_reachable s' vs' l l' h
reached (t ∷ ts) l l' s' vs' h = left_reachable s' vs' (left_start t ts l l' s' begun vs' h)
