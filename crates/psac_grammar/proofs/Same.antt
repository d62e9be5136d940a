-- The machine with more limits beside the one with fewer.
use Rattle.std.proofs.Common.{◌≡◌, ℕ, Bool, true, false, cond, not, ◌||◌, List, [], ◌∷◌, ◌++◌, Option, Some, None, ◌⊎◌, inl, inr, refl, ap, subst}
use Rattle.psac_tokens.specs.declared.token.Token.{Token}
use Rattle.psac_tokens.specs.declared.token.TheConstants.{NOTHING}
use Rattle.psac_grammar.specs.Marked.{Mark, fine, over, late}
use Rattle.psac_grammar.specs.Machine.{Symbol, Item, Move, take, pass, refuse, move, Behind, behind, Step, go, stop, done, Fault, limit, Answer, failed, syntax_at, Counted, counts_late, counts_over, settled, exceeds, after, next, last, step, run_with}

-- what counts in one way counts in the other
abbrev pub Under : Bool → Bool → Type 0
Under true false = ⊥
Under true true = Unit {0}
Under false b = Unit {0}

abbrev pub Fewer : Counted → Counted → Type 0
Fewer d c = Under (counts_late d) (counts_late c) × Under (counts_over d) (counts_over c)

abbrev pub AtLimit : Step → Type 0
AtLimit r = (w : ℕ) × (i : ℕ) × (r ≡ stop (limit w i))

abbrev pub Same : Step → Step → Type 0
Same x y = AtLimit x ⊎ (x ≡ y)

settled_same : (b e : Bool) (o : Option ℕ) (i : ℕ) (x y : Step) → Under e b → Same x y → Same (settled b o i x) (settled e o i y)
settled_same b e None i x y u h = h
settled_same true e (Some w) i x y u h = inl (w, i, refl)
settled_same false false (Some w) i x y u h = h
settled_same false true (Some w) i x y u h = absurd u

exceeds_same : (b e : Bool) (m : Mark) (t : Token) (x : Step) → Under e b → Same (exceeds b m t x) (exceeds e m t x)
exceeds_same b e fine t x u = inr refl
exceeds_same b e (late w) t x u = inr refl
exceeds_same true e (over w) t x u = inl (w, t.line, refl)
exceeds_same false false (over w) t x u = inr refl
exceeds_same false true (over w) t x u = absurd u

room_same : (b e ok : Bool) (i : ℕ) (x y : Step) → Under e b → Same x y → Same (cond (not b || ok) x (stop (limit 5 i))) (cond (not e || ok) y (stop (limit 5 i)))
room_same true true true i x y u h = h
room_same true false true i x y u h = h
room_same false false true i x y u h = h
room_same false true true i x y u h = absurd u
room_same true e false i x y u h = inl (5, i, refl)
room_same false false false i x y u h = h
room_same false true false i x y u h = absurd u

pub step_same : (c d : Counted) (l : Behind) (s : List Symbol) (vs : List Item) (t : Token) → Fewer d c → Same (step c l s vs t) (step d l s vs t)
unfolding step
step_same c d l [] vs t f = settled_same (counts_late c) (counts_late d) l.late l.line (done vs) (done vs) f.0 (inr refl)
step_same c d l (x ∷ s) vs t f = by (λ us. step_same c d l s us t f) (move x t)
  where
    by : ((us : List Item) → Same (step c l s us t) (step d l s us t)) → (m : Move) → Same (after c l m t s vs (λ us. step c l s us t)) (after d l m t s vs (λ us. step d l s us t))
    by on (take m more new) =
        settled_same (counts_late c) (counts_late d) l.late l.line (exceeds (counts_over c) m t (go (behind t m) (more ++ s) (new ++ vs))) (exceeds (counts_over d) m t (go (behind t m) (more ++ s) (new ++ vs))) f.0
        (exceeds_same (counts_over c) (counts_over d) m t (go (behind t m) (more ++ s) (new ++ vs)) f.1)
    by on (pass p) = room_same (counts_late c) (counts_late d) (p vs).0 l.line (step c l s (p vs).1 t) (step d l s (p vs).1 t) f.0 (on (p vs).1)
    by on refuse = settled_same (counts_late c) (counts_late d) l.late l.line (stop (syntax_at t)) (stop (syntax_at t)) f.0 (inr refl)

abbrev pub Limited : Answer → Type 0
Limited a = (f : Fault) × (left : List Token) × (a ≡ failed f left)

next_same : (x y : Step) (t : Token) (ts : List Token) (f h : Behind → List Symbol → List Item → Answer) → Same x y → ((l : Behind) (s : List Symbol) (vs : List Item) → Limited (f l s vs) ⊎ (f l s vs ≡ h l s vs)) → Limited (next x t ts f) ⊎ (next x t ts f ≡ next y t ts h)
next_same x y t ts f h (inl at) ih = inl (limit at.0 at.1, t ∷ ts, ap (λ r. next r t ts f) at.2)
next_same x y t ts f h (inr same) ih = subst (λ r. Limited (next x t ts f) ⊎ (next x t ts f ≡ next r t ts h)) same (by x)
  where
    by : (x : Step) → Limited (next x t ts f) ⊎ (next x t ts f ≡ next x t ts h)
    by (go l s vs) = ih l s vs
    by (stop e) = inr refl
    by (done vs) = inr refl

last_same : (x y : Step) → Same x y → Limited (last x) ⊎ (last x ≡ last y)
last_same x y (inl at) = inl (limit at.0 at.1, [], ap last at.2)
last_same x y (inr same) = inr (ap last same)

pub run_same : (c d : Counted) (ts : List Token) (l : Behind) (s : List Symbol) (vs : List Item) → Fewer d c → Limited (run_with c ts l s vs) ⊎ (run_with c ts l s vs ≡ run_with d ts l s vs)
unfolding run_with
run_same c d [] l s vs f = last_same _ _ (step_same c d l s vs NOTHING f)
run_same c d (t ∷ ts) l s vs f = next_same _ _ t ts (run_with c ts) (run_with d ts) (step_same c d l s vs t f) (λ l1 s1 vs1. run_same c d ts l1 s1 vs1 f)
