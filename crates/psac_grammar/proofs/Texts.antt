-- Texts that begin with what the machine has read.
use Rattle.std.proofs.Common.{◌≡◌, ℕ, suc, Bool, true, false, cond, not, ◌||◌, List, [], ◌∷◌, ◌++◌, length, Option, Some, None, ◌⊎◌, inl, inr, refl, sym, ap, subst, ◌∙◌, append_assoc}
use Rattle.psac_syntax.specs.declared.program.Func.{Func}
use Rattle.psac_tokens.specs.declared.token.Token.{Token}
use Rattle.psac_grammar.specs.Marked.{Mark, fine, over, late, Marked, plain}
use Rattle.psac_grammar.specs.Grammar.{IsText}
use Rattle.psac_grammar.specs.Language.{Begins}
use Rattle.psac_grammar.specs.Machine.{Symbol, Item, of_funcs, Move, take, pass, refuse, move, Behind, nothing_behind, behind, Step, go, stop, done, limit, accepted, syntax_at, Counted, no_limits, counts_late, counts_over, settled, exceeds, after, next, start, begun, step, run_with}
use Rattle.psac_grammar.proofs.Runs.{run_lax}
use Rattle.psac_grammar.proofs.Through.{through}
use Rattle.psac_grammar.proofs.Sound.{accepted_text}
use Rattle.psac_grammar.proofs.Whole.{at_end, text_read}
use Rattle.psac_grammar.proofs.Fills.{Reachable, fill, filled}
use Rattle.psac_grammar.proofs.Walks.{and_then, walk, run-append}
use Rattle.psac_grammar.proofs.Stops.{NotGo}
use Rattle.psac_grammar.proofs.Fronts.{from, through_lax}

-- A text goes on with these tokens.
pub record Completed (pre more : List Token) : Type 0 where
  pub ms : List Marked
  pub fs : List Func
  pub good : IsText ms fs
  pub tokens : plain ms ≡ pre ++ more

pub completed : (pre : List Token) (l : Behind) (s : List Symbol) (vs : List Item) → walk no_limits pre nothing_behind start begun ≡ go l s vs → Reachable s vs → Completed pre (fill s)
completed pre l s vs walked reach =
    let x = filled s vs reach in
    let a = accepted_text (pre ++ fill s) nothing_behind x.0 (run-append no_limits pre (fill s) nothing_behind l start s begun vs walked ∙ run_lax (fill s) l nothing_behind s vs ∙ x.1) in
    record { ms = a.text.ms; fs = a.fs; good = a.text.grammar; tokens = a.text.tokens }

pub completed_begins : (pre more : List Token) → Completed pre more → Begins pre
completed_begins pre more x = record { ms = x.ms; funcs = x.fs; more = more; grammar = x.good; tokens = x.tokens }

-- the answer of a text is that of the tokens behind those that were read
pub answers : (c : Counted) (pre more : List Token) (ms : List Marked) (fs : List Func) (l : Behind) (s : List Symbol) (vs : List Item) → IsText ms fs → plain ms ≡ pre ++ more → walk c pre nothing_behind start begun ≡ go l s vs
    → through c (from None 0) ms [] (at_end c fs) ≡ run_with c more l s vs
answers c pre more ms fs l s vs good tokens walked =
    sym (text_read c ms fs good) ∙ ap (λ r. run_with c r nothing_behind start begun) tokens ∙ run-append c pre more nothing_behind l start s begun vs walked

refused_run : (u : Token) (more : List Token) (ws : List Item) (r : Step) → NotGo r → next r u more (run_with no_limits more) ≡ accepted ws → ⊥
refused_run u more ws (go l s vs) n h = n
refused_run u more ws (stop f) n h = cc
refused_run u more ws (done vs) n h = cc

run_refused : (u : Token) (more : List Token) (l : Behind) (s : List Symbol) (vs : List Item) (ws : List Item) → NotGo (step no_limits l s vs u) → run_with no_limits (u ∷ more) l s vs ≡ accepted ws → ⊥
unfolding run_with
run_refused u more l s vs ws n h = refused_run u more ws (step no_limits l s vs u) n h

-- Where the machine does not go on, no text does.
pub nowhere : (pre : List Token) (u : Token) (l : Behind) (s : List Symbol) (vs : List Item) → walk no_limits pre nothing_behind start begun ≡ go l s vs → NotGo (step no_limits l s vs u) → Begins (pre ++ u ∷ []) → ⊥
nowhere pre u l s vs walked n b =
    let tokens : plain b.ms ≡ pre ++ u ∷ b.more = b.tokens ∙ append_assoc pre (u ∷ []) b.more in
    run_refused u b.more l s vs (of_funcs b.funcs ∷ []) n (sym (answers no_limits pre (u ∷ b.more) b.ms b.funcs l s vs b.grammar tokens walked) ∙ through_lax b.funcs (from None 0) b.ms)

-- ---- parts of a text

pub record Cut (ms : List Marked) (pre post : List Token) : Type 0 where
  pub front : List Marked
  pub back : List Marked
  pub parts : ms ≡ front ++ back
  pub first : plain front ≡ pre
  pub second : plain back ≡ post

pub cut : (ms : List Marked) (pre post : List Token) → plain ms ≡ pre ++ post → Cut ms pre post
cut ms [] post h = record { front = []; back = ms; parts = refl; first = refl; second = h }
cut [] (p ∷ pre) post h = absurd cc
cut (m ∷ ms) (p ∷ pre) post h =
    let below : plain ms ≡ pre ++ post = cc in
    let same : m.0 ≡ p = cc in
    let y = cut ms pre post below in
    record { front = m ∷ y.front; back = y.back; parts = ap (λ (r : List Marked). m ∷ r) y.parts; first = rw (same, y.first) refl; second = y.second }

-- with one token taken out
pub record CutAt (ms : List Marked) (pre : List Token) (t : Token) (post : List Token) : Type 0 where
  pub front : List Marked
  pub mark : Mark
  pub back : List Marked
  pub parts : ms ≡ front ++ (t, mark) ∷ back
  pub first : plain front ≡ pre
  pub second : plain back ≡ post

pub cut_at : (ms : List Marked) (pre : List Token) (t : Token) (post : List Token) → plain ms ≡ pre ++ t ∷ post → CutAt ms pre t post
cut_at ms pre t post h = let x = cut ms pre (t ∷ post) h in by x.back x
  where
    by : (back : List Marked) → Cut ms pre (t ∷ post) → CutAt ms pre t post
    by _ x = at x.back x.parts x.second
      where
        at : (back : List Marked) → ms ≡ x.front ++ back → plain back ≡ t ∷ post → CutAt ms pre t post
        at [] parts second = absurd cc
        at ((u, m) ∷ back) parts second =
            let same : u ≡ t = cc in
            let below : plain back ≡ post = cc in
            let P : Token → Type 0 = λ r. ms ≡ x.front ++ (r, m) ∷ back in
            record { front = x.front; mark = m; back = back; parts = subst P same parts; first = x.first; second = below }

pub plain-count : (ms : List Marked) → length (plain ms) ≡ length ms
plain-count [] = refl
plain-count (m ∷ ms) = ap suc (plain-count ms)

-- the last of some tokens, if there are any
pub last_of : (ts : List Token) → (ts ≡ []) ⊎ ((pre : List Token) × ((t : Token) × (ts ≡ pre ++ t ∷ [])))
last_of [] = inl refl
last_of (t ∷ ts) = inr (by (last_of ts))
  where
    by : (ts ≡ []) ⊎ ((pre : List Token) × ((u : Token) × (ts ≡ pre ++ u ∷ []))) → (pre : List Token) × ((u : Token) × (t ∷ ts ≡ pre ++ u ∷ []))
    by (inl none) = ([], (t, ap (λ (r : List Token). t ∷ r) none))
    by (inr x) = (t ∷ x.0, (x.1.0, ap (λ (r : List Token). t ∷ r) x.1.1))

-- ---- the line of the token before

line_is : {l k : Behind} {s q : List Symbol} {vs ws : List Item} → go l s vs ≡ go k q ws → k.line ≡ l.line
line_is h = cc

settled_go : (b : Bool) (o : Option ℕ) (i : ℕ) (r : Step) (l : Behind) (s : List Symbol) (vs : List Item) → settled b o i r ≡ go l s vs → r ≡ go l s vs
settled_go b None i r l s vs h = h
settled_go true (Some w) i r l s vs h = absurd cc
settled_go false (Some w) i r l s vs h = h

exceeds_go : (b : Bool) (m : Mark) (t : Token) (r : Step) (l : Behind) (s : List Symbol) (vs : List Item) → exceeds b m t r ≡ go l s vs → r ≡ go l s vs
exceeds_go b fine t r l s vs h = h
exceeds_go b (late w) t r l s vs h = h
exceeds_go true (over w) t r l s vs h = absurd cc
exceeds_go false (over w) t r l s vs h = h

room_go : (b : Bool) (i : ℕ) (r : Step) (l : Behind) (s : List Symbol) (vs : List Item) → cond b r (stop (limit 5 i)) ≡ go l s vs → r ≡ go l s vs
room_go true i r l s vs h = h
room_go false i r l s vs h = absurd cc

step_line : (c : Counted) (l : Behind) (s : List Symbol) (vs : List Item) (t : Token) (l' : Behind) (s' : List Symbol) (vs' : List Item) → step c l s vs t ≡ go l' s' vs' → l'.line ≡ t.line
unfolding step
step_line c l [] vs t l' s' vs' h = absurd (let e : done vs ≡ go l' s' vs' = settled_go (counts_late c) l.late l.line (done vs) l' s' vs' h in cc)
step_line c l (x ∷ s) vs t l' s' vs' h = by (λ us j. step_line c l s us t l' s' vs' j) (move x t) h
  where
    by : ((us : List Item) → step c l s us t ≡ go l' s' vs' → l'.line ≡ t.line) → (m : Move) → after c l m t s vs (λ us. step c l s us t) ≡ go l' s' vs' → l'.line ≡ t.line
    by on (take m more new) h =
        line_is (exceeds_go (counts_over c) m t (go (behind t m) (more ++ s) (new ++ vs)) l' s' vs' (settled_go (counts_late c) l.late l.line (exceeds (counts_over c) m t (go (behind t m) (more ++ s) (new ++ vs))) l' s' vs' h))
    by on (pass p) h = on (p vs).1 (room_go (not (counts_late c) || (p vs).0) l.line (step c l s (p vs).1 t) l' s' vs' h)
    by on refuse h = absurd (let e : stop (syntax_at t) ≡ go l' s' vs' = settled_go (counts_late c) l.late l.line (stop (syntax_at t)) l' s' vs' h in cc)

-- the last step of a walk
pub record LastStep (c : Counted) (pre : List Token) (t : Token) (l' : Behind) (s' : List Symbol) (vs' : List Item) (l0 : Behind) (s0 : List Symbol) (v0 : List Item) : Type 0 where
  pub l : Behind
  pub s : List Symbol
  pub vs : List Item
  pub walked : walk c pre l0 s0 v0 ≡ go l s vs
  pub steps : step c l s vs t ≡ go l' s' vs'
  pub line : l'.line ≡ t.line

one_step : (c : Counted) (t : Token) (l : Behind) (s : List Symbol) (vs : List Item) (l' : Behind) (s' : List Symbol) (vs' : List Item) → (r : Step) → and_then r (walk c []) ≡ go l' s' vs' → r ≡ go l' s' vs'
unfolding walk
one_step c t l s vs l' s' vs' (go k q us) h = h
one_step c t l s vs l' s' vs' (stop f) h = absurd cc
one_step c t l s vs l' s' vs' (done us) h = absurd cc

last_over : (c : Counted) (u : Token) (pre : List Token) (t : Token) (l' : Behind) (s' : List Symbol) (vs' : List Item) (l0 : Behind) (s0 : List Symbol) (v0 : List Item)
    → ((l : Behind) (s : List Symbol) (vs : List Item) → walk c (pre ++ t ∷ []) l s vs ≡ go l' s' vs' → LastStep c pre t l' s' vs' l s vs) → (r : Step) → step c l0 s0 v0 u ≡ r → and_then r (walk c (pre ++ t ∷ [])) ≡ go l' s' vs' → LastStep c (u ∷ pre) t l' s' vs' l0 s0 v0
unfolding walk
last_over c u pre t l' s' vs' l0 s0 v0 ih (go l1 s1 v1) is h = let x = ih l1 s1 v1 h in record { l = x.l; s = x.s; vs = x.vs; walked = rw is x.walked; steps = x.steps; line = x.line }
last_over c u pre t l' s' vs' l0 s0 v0 ih (stop f) is h = absurd cc
last_over c u pre t l' s' vs' l0 s0 v0 ih (done us) is h = absurd cc

pub last_step : (c : Counted) (pre : List Token) (t : Token) (l' : Behind) (s' : List Symbol) (vs' : List Item) (l0 : Behind) (s0 : List Symbol) (v0 : List Item) → walk c (pre ++ t ∷ []) l0 s0 v0 ≡ go l' s' vs' → LastStep c pre t l' s' vs' l0 s0 v0
unfolding walk
last_step c [] t l' s' vs' l0 s0 v0 h =
    let e = one_step c t l0 s0 v0 l' s' vs' (step c l0 s0 v0 t) h in
    record { l = l0; s = s0; vs = v0; walked = refl; steps = e; line = step_line c l0 s0 v0 t l' s' vs' e }
last_step c (u ∷ pre) t l' s' vs' l0 s0 v0 h = last_over c u pre t l' s' vs' l0 s0 v0 (λ l s vs j. last_step c pre t l' s' vs' l s vs j) (step c l0 s0 v0 u) refl h
