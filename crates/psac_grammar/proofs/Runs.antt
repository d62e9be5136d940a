-- The machine, step by step.
use Rattle.std.proofs.Common.{◌≡◌, ℕ, suc, Bool, true, false, cond, not, ◌||◌, List, [], ◌∷◌, ◌++◌, Option, Some, None, refl, ap, ◌∙◌, append_assoc}
use Rattle.psac_tokens.specs.declared.token.Kind.{Kind}
use Rattle.psac_tokens.specs.declared.token.Kind.TheVariants as kinds
use Rattle.psac_tokens.specs.declared.token.Token.{Token}
use Rattle.psac_tokens.specs.declared.token.TheConstants.{NOTHING}
use Rattle.psac_grammar.specs.Marked.{Mark, fine, over, late}
use Rattle.psac_grammar.specs.Grammar.{Start, constant, one, two, inner, row_word, no_start, start_of, top}
use Rattle.psac_grammar.specs.Machine.{Symbol, make, level, tail, values, more_values, value_made, tails, operand, values_at, same_kind, Item, Built, Move, take, pass, refuse, move, Behind, behind, Step, go, stop, done, Answer, failed, limit, syntax_at, Counted, no_limits, counts_late, counts_over, settled, exceeds, after, next, last, step, first_of, run_with}

-- a limit of the token before, in front of these tokens
abbrev pub by_late : Bool → Option ℕ → ℕ → List Token → Answer → Answer
by_late counts None line left a = a
by_late counts (Some w) line left a = cond counts (failed (limit w line) left) a

-- a limit of the token in front of these others
abbrev pub by_over : Bool → Mark → Token → List Token → Answer → Answer
by_over counts (over w) t ts a = cond counts (failed (limit w t.line) (t ∷ ts)) a
by_over counts fine t ts a = a
by_over counts (late w) t ts a = a

-- both of them, in the order in which they count
abbrev pub past : Counted → Behind → Token → Mark → List Token → Answer → Answer
past c l t m ts a = by_late (counts_late c) l.late l.line (t ∷ ts) (by_over (counts_over c) m t ts a)

next_settled : (b : Bool) (o : Option ℕ) (line : ℕ) (t : Token) (ts : List Token) (r : Step) (on : Behind → List Symbol → List Item → Answer) → next (settled b o line r) t ts on ≡ by_late b o line (t ∷ ts) (next r t ts on)
next_settled b None line t ts r on = refl
next_settled true (Some w) line t ts r on = refl
next_settled false (Some w) line t ts r on = refl

next_exceeds : (b : Bool) (m : Mark) (t : Token) (ts : List Token) (r : Step) (on : Behind → List Symbol → List Item → Answer) → next (exceeds b m t r) t ts on ≡ by_over b m t ts (next r t ts on)
next_exceeds b fine t ts r on = refl
next_exceeds b (late w) t ts r on = refl
next_exceeds true (over w) t ts r on = refl
next_exceeds false (over w) t ts r on = refl

last_settled : (b : Bool) (o : Option ℕ) (line : ℕ) (r : Step) → last (settled b o line r) ≡ by_late b o line [] (last r)
last_settled b None line r = refl
last_settled true (Some w) line r = refl
last_settled false (Some w) line r = refl

-- takes a token
pub takes : (c : Counted) (t : Token) (ts : List Token) (l : Behind) (x : Symbol) (s : List Symbol) (vs : List Item) (m : Mark) (more : List Symbol) (new : List Item)
    → move x t ≡ take m more new → run_with c (t ∷ ts) l (x ∷ s) vs ≡ past c l t m ts (run_with c ts (behind t m) (more ++ s) (new ++ vs))
unfolding run_with step
takes c t ts l x s vs m more new is =
    rw is (next_settled (counts_late c) l.late l.line t ts (exceeds (counts_over c) m t (go (behind t m) (more ++ s) (new ++ vs))) (run_with c ts)
    ∙ ap (by_late (counts_late c) l.late l.line (t ∷ ts)) (next_exceeds (counts_over c) m t ts (go (behind t m) (more ++ s) (new ++ vs)) (run_with c ts)))

-- stays at the token
pub passes : (c : Counted) (ts : List Token) (l : Behind) (x : Symbol) (s : List Symbol) (vs : List Item) (f : List Item → Built) → move x (first_of ts) ≡ pass f → (not (counts_late c) || (f vs).0) ≡ true
    → run_with c ts l (x ∷ s) vs ≡ run_with c ts l s (f vs).1
unfolding run_with step
passes c [] l x s vs f is ok = rw is (rw ok refl)
passes c (t ∷ ts) l x s vs f is ok = rw is (rw ok refl)

pub too_deep : (c : Counted) (ts : List Token) (l : Behind) (x : Symbol) (s : List Symbol) (vs : List Item) (f : List Item → Built) → move x (first_of ts) ≡ pass f → (f vs).0 ≡ false → counts_late c ≡ true
    → run_with c ts l (x ∷ s) vs ≡ failed (limit 5 l.line) ts
unfolding run_with step
too_deep c [] l x s vs f is deep counts = rw is (rw (counts, deep) refl)
too_deep c (t ∷ ts) l x s vs f is deep counts = rw is (rw (counts, deep) refl)

pub refuses : (c : Counted) (ts : List Token) (l : Behind) (x : Symbol) (s : List Symbol) (vs : List Item) → move x (first_of ts) ≡ refuse
    → run_with c ts l (x ∷ s) vs ≡ by_late (counts_late c) l.late l.line ts (failed (syntax_at (first_of ts)) ts)
unfolding run_with step
refuses c [] l x s vs is = rw is (last_settled (counts_late c) l.late l.line (stop (syntax_at NOTHING)))
refuses c (t ∷ ts) l x s vs is = rw is (next_settled (counts_late c) l.late l.line t ts (stop (syntax_at t)) (run_with c ts))

-- ---- what was before

-- Where no limit counts, the token before does not matter.
none_settled : (o q : Option ℕ) (i j : ℕ) (r : Step) → settled false o i r ≡ settled false q j r
none_settled None None i j r = refl
none_settled None (Some w) i j r = refl
none_settled (Some w) None i j r = refl
none_settled (Some w) (Some v) i j r = refl

step_lax : (l k : Behind) (s : List Symbol) (vs : List Item) (t : Token) → step no_limits l s vs t ≡ step no_limits k s vs t
unfolding step
step_lax l k [] vs t = none_settled l.late k.late l.line k.line (done vs)
step_lax l k (x ∷ s) vs t = by (λ ws. step_lax l k s ws t) (move x t)
  where
    by : ((ws : List Item) → step no_limits l s ws t ≡ step no_limits k s ws t)
        → (m : Move) → after no_limits l m t s vs (λ ws. step no_limits l s ws t) ≡ after no_limits k m t s vs (λ ws. step no_limits k s ws t)
    by on (take m more new) = none_settled l.late k.late l.line k.line (exceeds false m t (go (behind t m) (more ++ s) (new ++ vs)))
    by on (pass f) = on (f vs).1
    by on refuse = none_settled l.late k.late l.line k.line (stop (syntax_at t))

pub run_lax : (ts : List Token) (l k : Behind) (s : List Symbol) (vs : List Item) → run_with no_limits ts l s vs ≡ run_with no_limits ts k s vs
unfolding run_with
run_lax [] l k s vs = ap last (step_lax l k s vs NOTHING)
run_lax (t ∷ ts) l k s vs = ap (λ r. next r t ts (run_with no_limits ts)) (step_lax l k s vs t)

-- Behind a token that makes an expression too deep, the machine stops whatever comes.
step_five : (c : Counted) (line : ℕ) (s : List Symbol) (vs : List Item) (t : Token) → counts_late c ≡ true → step c (record { line = line; late = Some 5 }) s vs t ≡ stop (limit 5 line)
unfolding step
step_five c line [] vs t h = rw h refl
step_five c line (x ∷ s) vs t h = by (λ ws. step_five c line s ws t h) (move x t)
  where
    room : (ok : Bool) (r : Step) → r ≡ stop (limit 5 line) → cond (not (counts_late c) || ok) r (stop (limit 5 line)) ≡ stop (limit 5 line)
    room true r e = rw h e
    room false r e = rw h refl

    by : ((ws : List Item) → step c (record { line = line; late = Some 5 }) s ws t ≡ stop (limit 5 line))
        → (m : Move) → after c (record { line = line; late = Some 5 }) m t s vs (λ ws. step c (record { line = line; late = Some 5 }) s ws t) ≡ stop (limit 5 line)
    by on (take m more new) = rw h refl
    by on (pass f) = room (f vs).0 (step c (record { line = line; late = Some 5 }) s (f vs).1 t) (on (f vs).1)
    by on refuse = rw h refl

pub run_five : (c : Counted) (ts : List Token) (line : ℕ) (s : List Symbol) (vs : List Item) → counts_late c ≡ true → run_with c ts (record { line = line; late = Some 5 }) s vs ≡ failed (limit 5 line) ts
unfolding run_with
run_five c [] line s vs h = ap last (step_five c line s vs NOTHING h)
run_five c (t ∷ ts) line s vs h = ap (λ r. next r t ts (run_with c ts)) (step_five c line s vs t h)

-- ---- operators

-- what an operand expects behind it may as well stand on the stack
shifted : (c : Counted) (l : Behind) (k : Start) (t : Token) (p : ℕ) (more ys s : List Symbol) (vs : List Item) (on other : List Item → Step)
    → after c l (operand k t p (more ++ ys)) t s vs on ≡ after c l (operand k t p more) t (ys ++ s) vs other
shifted c l (constant e) t p more ys s vs on other = rw (append_assoc more ys s) refl
shifted c l (one f) t p more ys s vs on other = rw (append_assoc more ys s) refl
shifted c l (two f) t p more ys s vs on other = rw (append_assoc more ys s) refl
shifted c l inner t p more ys s vs on other = rw (append_assoc more ys s) refl
shifted c l row_word t p more ys s vs on other = rw (append_assoc more ys s) refl
shifted c l no_start t p more ys s vs on other = refl

pub level_starts : (c : Counted) (m p : ℕ) (ts : List Token) (l : Behind) (s : List Symbol) (vs : List Item) → run_with c ts l (level (suc m) p ∷ s) vs ≡ run_with c ts l (level m p ∷ tail (suc m) p ∷ s) vs
unfolding run_with step move
level_starts c m p [] l s vs = ap last (shifted c l (start_of NOTHING.kind NOTHING) NOTHING p (tails m p) (tail (suc m) p ∷ []) s vs (λ ws. step c l s ws NOTHING) (λ ws. step c l (tail (suc m) p ∷ s) ws NOTHING))
level_starts c m p (t ∷ ts) l s vs = ap (λ r. next r t ts (run_with c ts)) (shifted c l (start_of t.kind t) t p (tails m p) (tail (suc m) p ∷ []) s vs (λ ws. step c l s ws t) (λ ws. step c l (tail (suc m) p ∷ s) ws t))

-- a value is what the list of values begins with, unless it is empty
values_operand : (k : Kind) (t : Token) → same_kind k kinds.Semicolon ≡ false → values_at k t ≡ operand (start_of k t) t 0 (tails top 0 ++ (make value_made ∷ more_values 1 ∷ []))
values_operand kinds.Semicolon t h = absurd cc
values_operand _ t h = refl

pub values_start : (c : Counted) (t : Token) (ts : List Token) (l : Behind) (s : List Symbol) (vs : List Item) → same_kind t.kind kinds.Semicolon ≡ false
    → run_with c (t ∷ ts) l (values ∷ s) vs ≡ run_with c (t ∷ ts) l (level top 0 ∷ make value_made ∷ more_values 1 ∷ s) vs
unfolding run_with step move
values_start c t ts l s vs h =
    rw (values_operand t.kind t h) (ap (λ r. next r t ts (run_with c ts)) (shifted c l (start_of t.kind t) t 0 (tails top 0) (make value_made ∷ more_values 1 ∷ []) s vs (λ ws. step c l s ws t) (λ ws. step c l (make value_made ∷ more_values 1 ∷ s) ws t)))
