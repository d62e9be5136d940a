-- Why the machine stops at a token, and what it does there at other tokens.
use Rattle.std.proofs.Common.{◌≡◌, ℕ, Bool, true, false, cond, not, ◌||◌, List, [], ◌∷◌, ◌++◌, Option, Some, None, ◌⊎◌, inl, inr, refl, sym, ap, subst, ◌∙◌}
use Rattle.psac_tokens.specs.declared.token.Token.{Token}
use Rattle.psac_grammar.specs.Marked.{Mark, fine, over, late}
use Rattle.psac_grammar.specs.Machine.{Symbol, functions, Item, Built, Move, take, pass, refuse, move, Behind, behind, Step, go, stop, done, syntax, limit, syntax_at, Counted, no_limits, late_limits, all_limits, settled, exceeds, after, first_of, begun, step}
use Rattle.psac_grammar.proofs.Sorts.{passing, pass_of, IsTake, NoPass, pass_or_take, stands, calm, calm_pass}
use Rattle.psac_grammar.proofs.Same.{Same, step_same}
use Rattle.psac_grammar.proofs.Fills.{Reachable, at_start, at_last, between, deep, token_first, deep_calm, fill}

-- it stops, and at no limit
abbrev pub Ended : Step → Type 0
Ended (go l s vs) = ⊥
Ended (stop (syntax i j)) = Unit {0}
Ended (stop (limit w i)) = ⊥
Ended (done vs) = Unit {0}

abbrev pub NoLimit : Step → Type 0
NoLimit (go l s vs) = Unit {0}
NoLimit (stop (syntax i j)) = Unit {0}
NoLimit (stop (limit w i)) = ⊥
NoLimit (done vs) = Unit {0}

abbrev pub NotGo : Step → Type 0
NotGo (go l s vs) = ⊥
NotGo (stop f) = Unit {0}
NotGo (done vs) = Unit {0}

ended_same : (x y : Step) → Same x y → Ended x → Ended y
ended_same x y (inl at) h = absurd (subst Ended at.2 h)
ended_same x y (inr same) h = subst Ended same h

not_go : (x : Step) → Ended x → NotGo x
not_go (go l s vs) h = absurd h
not_go (stop f) h = tt
not_go (done vs) h = tt

-- where it ends so with limits, it does so without
pub ended_lax : (l : Behind) (s : List Symbol) (vs : List Item) (t : Token) → Ended (step all_limits l s vs t) → NotGo (step no_limits l s vs t)
ended_lax l s vs t h = not_go (step no_limits l s vs t) (ended_same _ _ (step_same all_limits no_limits l s vs t (tt, tt)) h)

-- ---- nothing is pending where the machine ends at no limit

settled_none : (o : Option ℕ) (i : ℕ) (r : Step) → Ended (settled true o i r) → o ≡ None
settled_none None i r h = refl
settled_none (Some w) i r h = absurd h

room_ended : (ok : Bool) (i : ℕ) (r : Step) → Ended (cond (not true || ok) r (stop (limit 5 i))) → (ok ≡ true) × Ended r
room_ended true i r h = (refl, h)
room_ended false i r h = absurd h

none_pending : (l : Behind) (s : List Symbol) (vs : List Item) (t : Token) → Ended (step all_limits l s vs t) → l.late ≡ None
unfolding step
none_pending l [] vs t h = settled_none l.late l.line (done vs) h
none_pending l (x ∷ s) vs t h = by (λ us j. none_pending l s us t j) (move x t) h
  where
    by : ((us : List Item) → Ended (step all_limits l s us t) → l.late ≡ None) → (m : Move) → Ended (after all_limits l m t s vs (λ us. step all_limits l s us t)) → l.late ≡ None
    by on (take m more new) h = settled_none l.late l.line _ h
    by on (pass p) h = on (p vs).1 (room_ended (p vs).0 l.line (step all_limits l s (p vs).1 t) h).1
    by on refuse h = settled_none l.late l.line _ h

none_settled : (b : Bool) (o : Option ℕ) (i : ℕ) (r : Step) → o ≡ None → settled b o i r ≡ r
none_settled b None i r h = refl
none_settled b (Some w) i r h = absurd cc

no_limit_over : (m : Mark) (t : Token) (l : Behind) (s : List Symbol) (vs : List Item) → NoLimit (exceeds false m t (go l s vs))
no_limit_over fine t l s vs = tt
no_limit_over (over w) t l s vs = tt
no_limit_over (late w) t l s vs = tt

no_limit_take : (l : Behind) (m : Move) (v : Token) (s : List Symbol) (vs : List Item) (on : List Item → Step) → l.late ≡ None → NoPass m → NoLimit (after late_limits l m v s vs on)
no_limit_take l (take m more new) v s vs on none h = subst NoLimit (sym (none_settled true l.late l.line _ none)) (no_limit_over m v (behind v m) (more ++ s) (new ++ vs))
no_limit_take l (pass f) v s vs on none h = absurd h
no_limit_take l refuse v s vs on none h = subst NoLimit (sym (none_settled true l.late l.line (stop (syntax_at v)) none)) tt

take_no_pass : (m : Move) → IsTake m → NoPass m
take_no_pass (take m more new) h = tt
take_no_pass (pass f) h = absurd h
take_no_pass refuse h = tt

taken_not_ended : (l : Behind) (m : Move) (t : Token) (s : List Symbol) (vs : List Item) (on : List Item → Step) → l.late ≡ None → IsTake m → Ended (after all_limits l m t s vs on) → ⊥
taken_not_ended l (take m more new) t s vs on none h e = by m (subst Ended (none_settled true l.late l.line _ none) e)
  where
    by : (m : Mark) → Ended (exceeds true m t (go (behind t m) (more ++ s) (new ++ vs))) → ⊥
    by fine e = e
    by (over w) e = e
    by (late w) e = e
taken_not_ended l (pass f) t s vs on none h e = h
taken_not_ended l refuse t s vs on none h e = h

passed_is : (c : Counted) (l : Behind) (m : Move) (f : List Item → Built) (t : Token) (s : List Symbol) (vs : List Item) (on : List Item → Step) → m ≡ pass f → after c l m t s vs on ≡ after c l (pass f) t s vs on
passed_is c l m f t s vs on is = rw is refl

quiet_on : (l : Behind) (s : List Symbol) (vs : List Item) (u v : Token) → Ended (step all_limits l s vs u) → l.late ≡ None → NoLimit (step late_limits l s vs v)
unfolding step
quiet_on l [] vs u v h none = subst NoLimit (sym (none_settled true l.late l.line (done vs) none)) tt
quiet_on l (x ∷ s) vs u v h none = by (passing x) refl (λ us j. quiet_on l s us u v j none)
  where
    passes : ((us : List Item) → Ended (step all_limits l s us u) → NoLimit (step late_limits l s us v)) → (f : List Item → Built) → move x u ≡ pass f → (move x v ≡ pass f) ⊎ IsTake (move x v) → NoLimit (after late_limits l (move x v) v s vs (λ us. step late_limits l s us v))
    passes go_on f at_u (inr took) = no_limit_take l (move x v) v s vs _ none (take_no_pass (move x v) took)
    passes go_on f at_u (inl at_v) =
        let r = room_ended (f vs).0 l.line (step all_limits l s (f vs).1 u) (subst Ended (passed_is all_limits l (move x u) f u s vs (λ us. step all_limits l s us u) at_u) h) in
        subst NoLimit (sym (passed_is late_limits l (move x v) f v s vs (λ us. step late_limits l s us v) at_v)) (rw r.0 (go_on (f vs).1 r.1))

    by : (b : Bool) → passing x ≡ b → ((us : List Item) → Ended (step all_limits l s us u) → NoLimit (step late_limits l s us v)) → NoLimit (after late_limits l (move x v) v s vs (λ us. step late_limits l s us v))
    by false is go_on = no_limit_take l (move x v) v s vs _ none (stands x v is)
    by true is go_on = at (pass_or_take x u is)
      where
        at : (move x u ≡ pass (pass_of x)) ⊎ IsTake (move x u) → NoLimit (after late_limits l (move x v) v s vs (λ us. step late_limits l s us v))
        at (inl p) = passes go_on (pass_of x) p (pass_or_take x v is)
        at (inr took) = absurd (taken_not_ended l (move x u) u s vs _ none took h)

-- Where the machine ends at no limit, it does not stop at one that is known late, whatever comes.
pub quiet : (l : Behind) (s : List Symbol) (vs : List Item) (u v : Token) → Ended (step all_limits l s vs u) → NoLimit (step late_limits l s vs v)
quiet l s vs u v h = quiet_on l s vs u v h (none_pending l s vs u h)

-- ---- the token at which a limit is exceeded

-- the token ahead exceeds it
pub record AtOnce (l : Behind) (s : List Symbol) (vs : List Item) (t : Token) (w i : ℕ) : Type 0 where
  pub s2 : List Symbol
  pub v2 : List Item
  pub late_goes : step late_limits l s vs t ≡ go (behind t (over w)) s2 v2
  pub lax_goes : step no_limits l s vs t ≡ go (behind t (over w)) s2 v2
  pub line : i ≡ t.line

-- the token behind does
pub record Late (l : Behind) (s : List Symbol) (vs : List Item) (t : Token) (w i : ℕ) : Type 0 where
  pub stops : step late_limits l s vs t ≡ stop (limit w i)
  pub line : i ≡ l.line

-- the same of steps, by what they are
record AtOnceOf (x y : Step) (t : Token) (w i : ℕ) : Type 0 where
  s2 : List Symbol
  v2 : List Item
  late_goes : x ≡ go (behind t (over w)) s2 v2
  lax_goes : y ≡ go (behind t (over w)) s2 v2
  line : i ≡ t.line

record LateOf (x : Step) (j w i : ℕ) : Type 0 where
  stops : x ≡ stop (limit w i)
  line : i ≡ j

Cause : Step → Step → ℕ → Token → ℕ → ℕ → Type 0
Cause x y j t w i = AtOnceOf x y t w i ⊎ LateOf x j w i

limit_is : {w v i j : ℕ} → stop (limit w i) ≡ stop (limit v j) → (w ≡ v) × (i ≡ j)
limit_is h = (cc, cc)

cause_pending : (w : ℕ) (j : ℕ) (t : Token) (v i : ℕ) (x y : Step) → stop (limit w j) ≡ stop (limit v i) → Cause (stop (limit w j)) y j t v i
unfolding Cause
cause_pending w j t v i x y h = inr (record { stops = h; line = sym (limit_is h).1 })

cause_take : (o : Option ℕ) (j : ℕ) (m : Mark) (t : Token) (s : List Symbol) (vs : List Item) (w i : ℕ) → settled true o j (exceeds true m t (go (behind t m) s vs)) ≡ stop (limit w i)
    → Cause (settled true o j (exceeds false m t (go (behind t m) s vs))) (settled false o j (exceeds false m t (go (behind t m) s vs))) j t w i
unfolding Cause
cause_take (Some v) j m t s vs w i h = inr (record { stops = h; line = sym (limit_is h).1 })
cause_take None j fine t s vs w i h = absurd cc
cause_take None j (late v) t s vs w i h = absurd cc
cause_take None j (over v) t s vs w i h =
    let e = limit_is h in
    let P : ℕ → Type 0 = λ r. go (behind t (over v)) s vs ≡ go (behind t (over r)) s vs in
    inl (record { s2 = s; v2 = vs; late_goes = subst P e.0 refl; lax_goes = subst P e.0 refl; line = sym e.1 })

cause_refuse : (o : Option ℕ) (j : ℕ) (t : Token) (y : Step) (w i : ℕ) → settled true o j (stop (syntax_at t)) ≡ stop (limit w i) → Cause (settled true o j (stop (syntax_at t))) y j t w i
unfolding Cause
cause_refuse (Some v) j t y w i h = inr (record { stops = h; line = sym (limit_is h).1 })
cause_refuse None j t y w i h = absurd cc

cause_done : (o : Option ℕ) (j : ℕ) (vs : List Item) (t : Token) (y : Step) (w i : ℕ) → settled true o j (done vs) ≡ stop (limit w i) → Cause (settled true o j (done vs)) y j t w i
unfolding Cause
cause_done (Some v) j vs t y w i h = inr (record { stops = h; line = sym (limit_is h).1 })
cause_done None j vs t y w i h = absurd cc

cause_pass : (ok : Bool) (j : ℕ) (t : Token) (r x y : Step) (w i : ℕ) → (r ≡ stop (limit w i) → Cause x y j t w i) → cond (not true || ok) r (stop (limit 5 j)) ≡ stop (limit w i) → Cause (cond (not true || ok) x (stop (limit 5 j))) y j t w i
unfolding Cause
cause_pass true j t r x y w i on h = on h
cause_pass false j t r x y w i on h = inr (record { stops = h; line = sym (limit_is h).1 })

cause_of : (l : Behind) (s : List Symbol) (vs : List Item) (t : Token) (w i : ℕ) → step all_limits l s vs t ≡ stop (limit w i) → Cause (step late_limits l s vs t) (step no_limits l s vs t) l.line t w i
unfolding step
cause_of l [] vs t w i h = cause_done l.late l.line vs t _ w i h
cause_of l (x ∷ s) vs t w i h = by (λ us j. cause_of l s us t w i j) (move x t) h
  where
    by : ((us : List Item) → step all_limits l s us t ≡ stop (limit w i) → Cause (step late_limits l s us t) (step no_limits l s us t) l.line t w i) → (m : Move) → after all_limits l m t s vs (λ us. step all_limits l s us t) ≡ stop (limit w i)
        → Cause (after late_limits l m t s vs (λ us. step late_limits l s us t)) (after no_limits l m t s vs (λ us. step no_limits l s us t)) l.line t w i
    by on (take m more new) h = cause_take l.late l.line m t (more ++ s) (new ++ vs) w i h
    by on (pass p) h = cause_pass (p vs).0 l.line t (step all_limits l s (p vs).1 t) (step late_limits l s (p vs).1 t) (step no_limits l s (p vs).1 t) w i (on (p vs).1) h
    by on refuse h = cause_refuse l.late l.line t _ w i h

pub cause : (l : Behind) (s : List Symbol) (vs : List Item) (t : Token) (w i : ℕ) → step all_limits l s vs t ≡ stop (limit w i) → AtOnce l s vs t w i ⊎ Late l s vs t w i
unfolding Cause
cause l s vs t w i h = by (cause_of l s vs t w i h)
  where
    by : AtOnceOf (step late_limits l s vs t) (step no_limits l s vs t) t w i ⊎ LateOf (step late_limits l s vs t) l.line w i → AtOnce l s vs t w i ⊎ Late l s vs t w i
    by (inl a) = inl (record { s2 = a.s2; v2 = a.v2; late_goes = a.late_goes; lax_goes = a.lax_goes; line = a.line })
    by (inr b) = inr (record { stops = b.stops; line = b.line })

-- ---- a limit that is known late, where no text goes on

-- the token behind exceeds it, unless a lower one goes before
pub record Pending (l : Behind) (w i : ℕ) : Type 0 where
  pub late : l.late ≡ Some w
  pub line : l.line ≡ i

settled_stops : (l : Behind) (w i : ℕ) (r : Step) → Pending l w i → settled true l.late l.line r ≡ stop (limit w i)
settled_stops l w i r p = rw (p.late, p.line) refl

-- a symbol that does not pass the token
settles : (l : Behind) (w i : ℕ) (m : Move) (v : Token) (s : List Symbol) (vs : List Item) (on : List Item → Step) → Pending l w i → NoPass m → after late_limits l m v s vs on ≡ stop (limit w i)
settles l w i (take m more new) v s vs on p h = settled_stops l w i _ p
settles l w i (pass f) v s vs on p h = absurd h
settles l w i refuse v s vs on p h = settled_stops l w i _ p

lax_goes_on : (l : Behind) (m : Move) (t : Token) (s : List Symbol) (vs : List Item) (on : List Item → Step) → IsTake m → NotGo (after no_limits l m t s vs on) → ⊥
lax_goes_on l (take m more new) t s vs on h n = by l.late m n
  where
    by : (o : Option ℕ) (m : Mark) → NotGo (settled false o l.line (exceeds false m t (go (behind t m) (more ++ s) (new ++ vs)))) → ⊥
    by None fine n = n
    by None (over w) n = n
    by None (late w) n = n
    by (Some v) fine n = n
    by (Some v) (over w) n = n
    by (Some v) (late w) n = n
lax_goes_on l (pass f) t s vs on h n = h
lax_goes_on l refuse t s vs on h n = h

pending_is : (o : Option ℕ) (j w i : ℕ) (r : Step) → NoLimit r → settled true o j r ≡ stop (limit w i) → (o ≡ Some w) × (j ≡ i)
pending_is None j w i r n h = absurd (subst NoLimit h n)
pending_is (Some v) j w i r n h = let e = limit_is h in (ap Some e.0, e.1)

stands_pending : (l : Behind) (w i : ℕ) (m : Move) (u : Token) (s : List Symbol) (vs : List Item) (on other : List Item → Step) → NoPass m → NotGo (after no_limits l m u s vs other) → after late_limits l m u s vs on ≡ stop (limit w i) → Pending l w i
stands_pending l w i (take m more new) u s vs on other h n e = absurd (lax_goes_on l (take m more new) u s vs other tt n)
stands_pending l w i (pass f) u s vs on other h n e = absurd h
stands_pending l w i refuse u s vs on other h n e = let y = pending_is l.late l.line w i (stop (syntax_at u)) tt e in record { late = y.0; line = y.1 }

-- what a pass that is within the limit on depth leaves to do, and one that is not
room_stops : (ok : Bool) (j w i : ℕ) (r : Step) → cond (not true || ok) r (stop (limit 5 j)) ≡ stop (limit w i) → ((ok ≡ true) × (r ≡ stop (limit w i))) ⊎ ((ok ≡ false) × ((w ≡ 5) × (j ≡ i)))
room_stops true j w i r h = inl (refl, h)
room_stops false j w i r h = let e = limit_is h in inr (refl, (sym e.0, e.1))

-- A limit is pending, or it is the one on depth.
pub pending : (l : Behind) (s : List Symbol) (vs : List Item) (u : Token) (w i : ℕ) → step late_limits l s vs u ≡ stop (limit w i) → NotGo (step no_limits l s vs u) → (w ≡ 5) ⊎ Pending l w i
unfolding step
pending l [] vs u w i h n = let y = pending_is l.late l.line w i (done vs) tt h in inr (record { late = y.0; line = y.1 })
pending l (x ∷ s) vs u w i h n = by (λ us j k. pending l s us u w i j k) (move x u) h n
  where
    by : ((us : List Item) → step late_limits l s us u ≡ stop (limit w i) → NotGo (step no_limits l s us u) → (w ≡ 5) ⊎ Pending l w i)
        → (m : Move) → after late_limits l m u s vs (λ us. step late_limits l s us u) ≡ stop (limit w i) → NotGo (after no_limits l m u s vs (λ us. step no_limits l s us u)) → (w ≡ 5) ⊎ Pending l w i
    by on (take m more new) h n = absurd (lax_goes_on l (take m more new) u s vs (λ us. step no_limits l s us u) tt n)
    by on (pass p) h n = at (room_stops (p vs).0 l.line w i (step late_limits l s (p vs).1 u) h)
      where
        at : (((p vs).0 ≡ true) × (step late_limits l s (p vs).1 u ≡ stop (limit w i))) ⊎ (((p vs).0 ≡ false) × ((w ≡ 5) × (l.line ≡ i))) → (w ≡ 5) ⊎ Pending l w i
        at (inl y) = on (p vs).1 y.1 n
        at (inr y) = inl y.1.0
    by on refuse h n = inr (stands_pending l w i refuse u s vs (λ us. step late_limits l s us u) (λ us. step no_limits l s us u) tt n h)

-- A token at which what may be passed is passed meets the same stop.
stops_calm : (l : Behind) (s : List Symbol) (vs : List Item) (u v : Token) (w i : ℕ) → calm v.kind ≡ true → step late_limits l s vs u ≡ stop (limit w i) → NotGo (step no_limits l s vs u) → step late_limits l s vs v ≡ stop (limit w i)
unfolding step
stops_calm l [] vs u v w i q h n = h
stops_calm l (x ∷ s) vs u v w i q h n = by (passing x) refl (λ us j k. stops_calm l s us u v w i q j k)
  where
    passes : ((us : List Item) → step late_limits l s us u ≡ stop (limit w i) → NotGo (step no_limits l s us u) → step late_limits l s us v ≡ stop (limit w i)) → (f : List Item → Built) → move x u ≡ pass f → move x v ≡ pass f → after late_limits l (move x v) v s vs (λ us. step late_limits l s us v) ≡ stop (limit w i)
    passes go_on f at_u at_v =
        at (room_stops (f vs).0 l.line w i (step late_limits l s (f vs).1 u) (sym (passed_is late_limits l (move x u) f u s vs (λ us. step late_limits l s us u) at_u) ∙ h))
      where
        lax : NotGo (step no_limits l s (f vs).1 u)
        lax = subst NotGo (passed_is no_limits l (move x u) f u s vs (λ us. step no_limits l s us u) at_u) n

        at : (((f vs).0 ≡ true) × (step late_limits l s (f vs).1 u ≡ stop (limit w i))) ⊎ (((f vs).0 ≡ false) × ((w ≡ 5) × (l.line ≡ i))) → after late_limits l (move x v) v s vs (λ us. step late_limits l s us v) ≡ stop (limit w i)
        at (inl y) = passed_is late_limits l (move x v) f v s vs (λ us. step late_limits l s us v) at_v ∙ rw y.0 (go_on (f vs).1 y.1 lax)
        at (inr y) = passed_is late_limits l (move x v) f v s vs (λ us. step late_limits l s us v) at_v ∙ rw (y.0, y.1.0, y.1.1) refl

    by : (b : Bool) → passing x ≡ b → ((us : List Item) → step late_limits l s us u ≡ stop (limit w i) → NotGo (step no_limits l s us u) → step late_limits l s us v ≡ stop (limit w i)) → after late_limits l (move x v) v s vs (λ us. step late_limits l s us v) ≡ stop (limit w i)
    by false is go_on =
        settles l w i (move x v) v s vs _ (stands_pending l w i (move x u) u s vs (λ us. step late_limits l s us u) (λ us. step no_limits l s us u) (stands x u is) n h) (stands x v is)
    by true is go_on = at (pass_or_take x u is)
      where
        at : (move x u ≡ pass (pass_of x)) ⊎ IsTake (move x u) → after late_limits l (move x v) v s vs (λ us. step late_limits l s us v) ≡ stop (limit w i)
        at (inl p) = passes go_on (pass_of x) p (calm_pass x v is q)
        at (inr took) = absurd (lax_goes_on l (move x u) u s vs (λ us. step no_limits l s us u) took n)

stops_standing : (l : Behind) (x : Symbol) (s : List Symbol) (vs : List Item) (u v : Token) (w i : ℕ) → passing x ≡ false → step late_limits l (x ∷ s) vs u ≡ stop (limit w i) → NotGo (step no_limits l (x ∷ s) vs u) → step late_limits l (x ∷ s) vs v ≡ stop (limit w i)
unfolding step
stops_standing l x s vs u v w i is h n =
    settles l w i (move x v) v s vs (λ us. step late_limits l s us v) (stands_pending l w i (move x u) u s vs (λ us. step late_limits l s us u) (λ us. step no_limits l s us u) (stands x u is) n h) (stands x v is)

empty_stops : (l : Behind) (vs : List Item) (u v : Token) → step late_limits l [] vs u ≡ step late_limits l [] vs v
unfolding step
empty_stops l vs u v = refl

-- The first token of a completion meets the stop that the token meets with which no text goes on.
pub stops_filled : (l : Behind) (s : List Symbol) (vs : List Item) (u : Token) (w i : ℕ) → Reachable s vs → step late_limits l s vs u ≡ stop (limit w i) → NotGo (step no_limits l s vs u) → step late_limits l s vs (first_of (fill s)) ≡ stop (limit w i)
stops_filled l _ _ u w i at_start h n = stops_standing l (functions 0) _ begun u _ w i refl h n
stops_filled l _ vs u w i (at_last _) h n = empty_stops l vs _ u ∙ h
stops_filled l _ vs u w i (between s _ (deep _ d)) h n = stops_calm l s vs u (first_of (fill s)) w i (deep_calm s d) h n
stops_filled l _ vs u w i (between _ _ (token_first k by new s lie g)) h n = stops_standing l _ s vs u _ w i refl h n

stops_on : (l : Behind) (s : List Symbol) (vs : List Item) (u v : Token) (w i : ℕ) → (w ≡ 5 → ⊥) → Pending l w i → step late_limits l s vs u ≡ stop (limit w i) → NotGo (step no_limits l s vs u) → step late_limits l s vs v ≡ stop (limit w i)
unfolding step
stops_on l [] vs u v w i other q h n = h
stops_on l (x ∷ s) vs u v w i other q h n = by (passing x) refl (λ us j k. stops_on l s us u v w i other q j k)
  where
    passes : ((us : List Item) → step late_limits l s us u ≡ stop (limit w i) → NotGo (step no_limits l s us u) → step late_limits l s us v ≡ stop (limit w i)) → (f : List Item → Built) → move x u ≡ pass f → (move x v ≡ pass f) ⊎ IsTake (move x v)
        → after late_limits l (move x v) v s vs (λ us. step late_limits l s us v) ≡ stop (limit w i)
    passes go_on f at_u (inr took) = settles l w i (move x v) v s vs _ q (take_no_pass (move x v) took)
    passes go_on f at_u (inl at_v) =
        at (room_stops (f vs).0 l.line w i (step late_limits l s (f vs).1 u) (sym (passed_is late_limits l (move x u) f u s vs (λ us. step late_limits l s us u) at_u) ∙ h))
      where
        lax : NotGo (step no_limits l s (f vs).1 u)
        lax = subst NotGo (passed_is no_limits l (move x u) f u s vs (λ us. step no_limits l s us u) at_u) n

        at : (((f vs).0 ≡ true) × (step late_limits l s (f vs).1 u ≡ stop (limit w i))) ⊎ (((f vs).0 ≡ false) × ((w ≡ 5) × (l.line ≡ i))) → after late_limits l (move x v) v s vs (λ us. step late_limits l s us v) ≡ stop (limit w i)
        at (inl y) = passed_is late_limits l (move x v) f v s vs (λ us. step late_limits l s us v) at_v ∙ rw y.0 (go_on (f vs).1 y.1 lax)
        at (inr y) = absurd (other y.1.0)

    by : (b : Bool) → passing x ≡ b → ((us : List Item) → step late_limits l s us u ≡ stop (limit w i) → NotGo (step no_limits l s us u) → step late_limits l s us v ≡ stop (limit w i))
        → after late_limits l (move x v) v s vs (λ us. step late_limits l s us v) ≡ stop (limit w i)
    by false is go_on = settles l w i (move x v) v s vs _ q (stands x v is)
    by true is go_on = at (pass_or_take x u is)
      where
        at : (move x u ≡ pass (pass_of x)) ⊎ IsTake (move x u) → after late_limits l (move x v) v s vs (λ us. step late_limits l s us v) ≡ stop (limit w i)
        at (inl p) = passes go_on (pass_of x) p (pass_or_take x v is)
        at (inr took) = absurd (lax_goes_on l (move x u) u s vs (λ us. step no_limits l s us u) took n)

-- A limit that is pending, and not the one on depth, stops the machine whatever comes.
pub stops_any : (l : Behind) (s : List Symbol) (vs : List Item) (u v : Token) (w i : ℕ) → (w ≡ 5 → ⊥) → step late_limits l s vs u ≡ stop (limit w i) → NotGo (step no_limits l s vs u) → step late_limits l s vs v ≡ stop (limit w i)
stops_any l s vs u v w i other h n = from (pending l s vs u w i h n)
  where
    from : (w ≡ 5) ⊎ Pending l w i → step late_limits l s vs v ≡ stop (limit w i)
    from (inl five) = absurd (other five)
    from (inr q) = stops_on l s vs u v w i other q h n
