-- Where the first fault of a text stands, there the machine stops: no other answer fits the text.
use Rattle.std.proofs.Common.{◌≡◌, ℕ, ◌<◌, ◌≤◌, true, false, eqb, List, [], ◌∷◌, ◌++◌, length, length-append, Some, None, ◌⊎◌, inl, inr, refl, sym, ap, subst, ◌∙◌, append_assoc, arith}
use Rattle.std.proofs.lemmas.Bool.Decides.{eqb_tells}
use Rattle.std.proofs.lemmas.List.{map-append, append-nil}
use Rattle.psac_syntax.specs.declared.program.Func.{Func}
use Rattle.psac_tokens.specs.declared.token.Token.{Token}
use Rattle.psac_tokens.specs.declared.token.TheConstants.{NOTHING}
use Rattle.psac_tokens.specs.Number.{tokens}
use Rattle.psac_grammar.specs.Marked.{Mark, fine, over, late, Marked, plain, AllFine}
use Rattle.psac_grammar.specs.Grammar.{IsText}
use Rattle.psac_grammar.specs.Language.{Begins, WithinLimits, SyntaxAt, EndsNoneTooDeep, Decides, TokenLimitAt}
use Rattle.psac_grammar.specs.Machine.{Symbol, Item, Behind, nothing_behind, Step, go, stop, done, Fault, syntax, limit, Answer, accepted, failed, syntax_at, Counted, no_limits, late_limits, all_limits, next, last, first_of, start, begun, step, run_with}
use Rattle.psac_grammar.proofs.Through.{through}
use Rattle.psac_grammar.proofs.Whole.{at_end, text_read}
use Rattle.psac_grammar.proofs.Fills.{Reachable, fill}
use Rattle.psac_grammar.proofs.Same.{Same, step_same}
use Rattle.psac_grammar.proofs.Walks.{walk, walk_same, run-append, walk-append, walk_one, StopsWith, Short, run_short, reached, left_is}
use Rattle.psac_grammar.proofs.Stops.{Ended, NoLimit, NotGo, quiet, AtOnce, Late, cause, stops_filled, stops_any}
use Rattle.psac_grammar.proofs.Fronts.{from, Passed, through_fine, short_through, late_stops, short_is}
use Rattle.psac_grammar.proofs.Texts.{Completed, completed, completed_begins, answers, Cut, cut, plain-count, last_of, last_step}
use Rattle.psac_grammar.proofs.Syntaxes.{stop_place}
use Rattle.psac_grammar.proofs.Marks.{limit_first, LateMark, late_mark}
use Rattle.psac_grammar.proofs.Places.{first_not_late}

-- ---- the machine goes over what is within the limits

record Longer (c : Counted) (ts more : List Token) (l : Behind) (s : List Symbol) (vs : List Item) : Type 0 where
  f : Fault
  left : List Token
  is : run_with c ts l s vs ≡ failed f left
  longer : length more < length left

record Gone (c : Counted) (pre : List Token) (l : Behind) (s : List Symbol) (vs : List Item) : Type 0 where
  l' : Behind
  s' : List Symbol
  vs' : List Item
  walked : walk c pre l s vs ≡ go l' s' vs'

longer_over : (c : Counted) (t : Token) (pre more : List Token) (l : Behind) (s : List Symbol) (vs : List Item) → ((k : Behind) (q : List Symbol) (us : List Item) → Gone c pre k q us ⊎ Longer c (pre ++ more) more k q us) → (r : Step) → step c l s vs t ≡ r
    → Gone c (t ∷ pre) l s vs ⊎ Longer c (t ∷ pre ++ more) more l s vs
unfolding walk run_with
longer_over c t pre more l s vs ih (stop f) is = inr (record { f = f; left = t ∷ pre ++ more; is = rw is refl; longer = omega (arith, length-append pre more) })
longer_over c t pre more l s vs ih (done us) is = inr (record { f = syntax_at t; left = t ∷ pre ++ more; is = rw is refl; longer = omega (arith, length-append pre more) })
longer_over c t pre more l s vs ih (go k q us) is = by (ih k q us)
  where
    by : Gone c pre k q us ⊎ Longer c (pre ++ more) more k q us → Gone c (t ∷ pre) l s vs ⊎ Longer c (t ∷ pre ++ more) more l s vs
    by (inl x) = inl (record { l' = x.l'; s' = x.s'; vs' = x.vs'; walked = rw is x.walked })
    by (inr x) = inr (record { f = x.f; left = x.left; is = rw is x.is; longer = x.longer })

gone_or_longer : (c : Counted) (pre more : List Token) (l : Behind) (s : List Symbol) (vs : List Item) → Gone c pre l s vs ⊎ Longer c (pre ++ more) more l s vs
unfolding walk
gone_or_longer c [] more l s vs = inl (record { l' = l; s' = s; vs' = vs; walked = refl })
gone_or_longer c (t ∷ pre) more l s vs = longer_over c t pre more l s vs (λ k q us. gone_or_longer c pre more k q us) (step c l s vs t) refl

not_longer : (c : Counted) (ts more : List Token) (l : Behind) (s : List Symbol) (vs : List Item) (a : Answer) → run_with c ts l s vs ≡ a → Short (length more) a → Longer c ts more l s vs → ⊥
not_longer c ts more l s vs (accepted ws) is h x = let e : accepted ws ≡ failed x.f x.left = sym is ∙ x.is in cc
not_longer c ts more l s vs (failed f left) is h x = let e : failed f left ≡ failed x.f x.left = sym is ∙ x.is in omega (arith, h, x.longer, ap length (left_is e))

goes_over : (c : Counted) (pre more : List Token) (a : Answer) → run_with c (pre ++ more) nothing_behind start begun ≡ a → Short (length more) a → Gone c pre nothing_behind start begun
goes_over c pre more a is h = by (gone_or_longer c pre more nothing_behind start begun)
  where
    by : Gone c pre nothing_behind start begun ⊎ Longer c (pre ++ more) more nothing_behind start begun → Gone c pre nothing_behind start begun
    by (inl x) = x
    by (inr x) = absurd (not_longer c (pre ++ more) more nothing_behind start begun a is h x)

-- the answer of a text the first tokens of which are within the limits
record Over (c : Counted) (pre : List Token) (back : List Marked) (fs : List Func) : Type 0 where
  l : Behind
  s : List Symbol
  vs : List Item
  walked : walk c pre nothing_behind start begun ≡ go l s vs
  at : ℕ
  is : run_with c (plain back) l s vs ≡ through c (from None at) back [] (at_end c fs)

over_front : (c : Counted) (front back : List Marked) (fs : List Func) → IsText (front ++ back) fs → AllFine front → Over c (plain front) back fs
over_front c front back fs good fines =
    record { l = x.l'; s = x.s'; vs = x.vs'; walked = x.walked; at = y.at; is = sym (answers c (plain front) (plain back) (front ++ back) fs x.l' x.s' x.vs' good whole x.walked) ∙ y.is }
  where
    whole : plain (front ++ back) ≡ plain front ++ plain back
    whole = map-append (λ m. m.0) front back

    y : Passed c fs 0 front back
    y = through_fine c fs 0 front back fines

    answer : run_with c (plain front ++ plain back) nothing_behind start begun ≡ through c (from None y.at) back [] (at_end c fs)
    answer = ap (λ r. run_with c r nothing_behind start begun) (sym whole) ∙ text_read c (front ++ back) fs good ∙ y.is

    x : Gone c (plain front) nothing_behind start begun
    x = goes_over c (plain front) (plain back) _ answer (short_is (length back) (length (plain back)) _ _ (sym (plain-count back)) refl (short_through c fs (from None y.at) back))

-- ---- a fault of syntax

same_go : (x y : Step) → Same x y → (k : Behind) (q : List Symbol) (us : List Item) → x ≡ go k q us → NotGo y → ⊥
same_go x y (inl at) k q us is n = let e : stop (limit at.0 at.1) ≡ go k q us = sym at.2 ∙ is in cc
same_go x y (inr same) k q us is n = subst NotGo (sym same ∙ is) n

go_or_not : (r : Step) → ((k : Behind) × ((q : List Symbol) × ((us : List Item) × (r ≡ go k q us)))) ⊎ NotGo r
go_or_not (go k q us) = inl (k, (q, (us, refl)))
go_or_not (stop f) = inr tt
go_or_not (done us) = inr tt

-- Where no text goes on with a token, neither does the machine.
not_on : (pre : List Token) (u : Token) (l : Behind) (s : List Symbol) (vs : List Item) → walk no_limits pre nothing_behind start begun ≡ go l s vs → (Begins (pre ++ u ∷ []) → ⊥) → NotGo (step no_limits l s vs u)
not_on pre u l s vs walked none = by (go_or_not (step no_limits l s vs u))
  where
    by : ((k : Behind) × ((q : List Symbol) × ((us : List Item) × (step no_limits l s vs u ≡ go k q us)))) ⊎ NotGo (step no_limits l s vs u) → NotGo (step no_limits l s vs u)
    by (inr n) = n
    by (inl x) =
        let more = walk-append no_limits pre (u ∷ []) nothing_behind l start s begun vs walked ∙ walk_one no_limits u l s vs x.0 x.1.0 x.1.1.0 x.1.1.1 in
        absurd (none (completed_begins (pre ++ u ∷ []) (fill x.1.0) (completed (pre ++ u ∷ []) x.0 x.1.0 x.1.1.0 more (reached (pre ++ u ∷ []) nothing_behind x.0 x.1.0 x.1.1.0 more))))

late_not_fine : (f : List Marked) (t : Token) (w : ℕ) → AllFine (f ++ (t, late w) ∷ []) → ⊥
late_not_fine [] t w h = let e : late w ≡ fine = h.0 in cc
late_not_fine (x ∷ f) t w h = late_not_fine f t w h.1

plain_last : (f : List Marked) (t : Token) (m : Mark) → plain (f ++ (t, m) ∷ []) ≡ plain f ++ t ∷ []
plain_last f t m = map-append (λ m. m.0) f ((t, m) ∷ [])

-- What is within the limits in each text leaves no limit that is known late.
no_late : (pre : List Token) (u : Token) (l : Behind) (s : List Symbol) (vs : List Item) (w i : ℕ) → walk all_limits pre nothing_behind start begun ≡ go l s vs → WithinLimits pre → NotGo (step no_limits l s vs u) → step late_limits l s vs u ≡ stop (limit w i) → ⊥
no_late pre u l s vs w i walked within n h = by (last_of pre)
  where
    lax : walk no_limits pre nothing_behind start begun ≡ go l s vs
    lax = walk_same all_limits no_limits pre nothing_behind l start s begun vs (tt, tt) walked

    reach : Reachable s vs
    reach = reached pre nothing_behind l s vs lax

    x : Completed pre (fill s)
    x = completed pre l s vs lax reach

    by : (pre ≡ []) ⊎ ((p : List Token) × ((t : Token) × (pre ≡ p ++ t ∷ []))) → ⊥
    by (inl none) = first_not_late pre u l s vs w i none walked h
    by (inr y) =
        let p = y.0 in
        let t = y.1.0 in
        let whole : plain x.ms ≡ p ++ t ∷ fill s = x.tokens ∙ ap (λ r. r ++ fill s) y.1.1 ∙ append_assoc p (t ∷ []) (fill s) in
        let walked' = subst (λ r. walk all_limits r nothing_behind start begun ≡ go l s vs) y.1.1 walked in
        let z = late_mark p t (fill s) x.ms x.fs l s vs w i x.good whole walked' (limit_first (fill s) late_limits l s vs w i (stops_filled l s vs u w i reach h n)) in
        let parts : x.ms ≡ (z.front ++ (t, late w) ∷ []) ++ z.back = z.parts ∙ sym (append_assoc z.front ((t, late w) ∷ []) z.back) in
        late_not_fine z.front t w (within (z.front ++ (t, late w) ∷ []) z.back x.fs (subst (λ r. IsText r x.fs) parts x.good) (plain_last z.front t (late w) ∙ ap (λ r. r ++ t ∷ []) z.first ∙ sym y.1.1))

stops_there : (ts : List Token) (l : Behind) (s : List Symbol) (vs : List Item) (u : Token) (f : Fault) → StopsWith (step all_limits l s vs u) u f → run_with all_limits (u ∷ ts) l s vs ≡ failed f (u ∷ ts)
unfolding run_with
stops_there ts l s vs u f h = by (step all_limits l s vs u) h
  where
    by : (r : Step) → StopsWith r u f → next r u ts (run_with all_limits ts) ≡ failed f (u ∷ ts)
    by (go k q us) h = absurd h
    by (stop g) h = ap (λ e. failed e (u ∷ ts)) h
    by (done us) h = ap (λ e. failed e (u ∷ ts)) h

-- The machine stops at the place of a fault of syntax.
pub syntax_answer : (bytes : List ℕ) (line column : ℕ) → SyntaxAt bytes line column → (left : List Token) × (run_with all_limits (tokens bytes) nothing_behind start begun ≡ failed (syntax line column) left)
syntax_answer bytes line column x =
    (x.here ∷ x.behind, ap (λ r. run_with all_limits r nothing_behind start begun) x.tokens ∙ run-append all_limits x.before (x.here ∷ x.behind) nothing_behind o.l start o.s begun o.vs walked ∙ stops_there x.behind o.l o.s o.vs x.here (syntax line column) there)
  where
    b : Begins x.before
    b = x.begins

    parts : Cut b.ms x.before b.more
    parts = cut b.ms x.before b.more b.tokens

    good : IsText (parts.front ++ parts.back) b.funcs
    good = subst (λ r. IsText r b.funcs) parts.parts b.grammar

    o : Over all_limits (plain parts.front) parts.back b.funcs
    o = over_front all_limits parts.front parts.back b.funcs good (x.limits parts.front parts.back b.funcs good parts.first)

    walked : walk all_limits x.before nothing_behind start begun ≡ go o.l o.s o.vs
    walked = subst (λ r. walk all_limits r nothing_behind start begun ≡ go o.l o.s o.vs) parts.first o.walked

    lax : walk no_limits x.before nothing_behind start begun ≡ go o.l o.s o.vs
    lax = walk_same all_limits no_limits x.before nothing_behind o.l start o.s begun o.vs (tt, tt) walked

    refused : NotGo (step no_limits o.l o.s o.vs x.here)
    refused = not_on x.before x.here o.l o.s o.vs lax x.nothing

    here_is : syntax_at x.here ≡ syntax line column
    here_is = rw (x.line_is, x.column_is) refl

    placed : (r : Step) → step all_limits o.l o.s o.vs x.here ≡ r → StopsWith r x.here (syntax line column)
    placed (go k q us) is = absurd (same_go (step all_limits o.l o.s o.vs x.here) (step no_limits o.l o.s o.vs x.here) (step_same all_limits no_limits o.l o.s o.vs x.here (tt, tt)) k q us is refused)
    placed (done us) is = here_is
    placed (stop (syntax i j)) is = sym (stop_place o.l o.s o.vs x.here i j (subst (λ r. StopsWith r x.here (syntax i j)) (sym is) refl)) ∙ here_is
    placed (stop (limit w i)) is = absurd (by (cause o.l o.s o.vs x.here w i is))
      where
        by : AtOnce o.l o.s o.vs x.here w i ⊎ Late o.l o.s o.vs x.here w i → ⊥
        by (inl a) = subst NotGo a.lax_goes refused
        by (inr z) = no_late x.before x.here o.l o.s o.vs w i walked x.limits refused z.stops

    there : StopsWith (step all_limits o.l o.s o.vs x.here) x.here (syntax line column)
    there = placed (step all_limits o.l o.s o.vs x.here) refl

-- ---- a limit

-- the step at the next token, of which the machine stops with all tokens left
step_stops : (c : Counted) (ts : List Token) (l : Behind) (s : List Symbol) (vs : List Item) (w i : ℕ) → run_with c ts l s vs ≡ failed (limit w i) ts → step c l s vs (first_of ts) ≡ stop (limit w i)
unfolding run_with
step_stops c [] l s vs w i h = by (step c l s vs NOTHING) h
  where
    by : (r : Step) → last r ≡ failed (limit w i) [] → r ≡ stop (limit w i)
    by (go k q us) h = absurd cc
    by (stop f) h = let e : f ≡ limit w i = cc in ap stop e
    by (done us) h = absurd cc
step_stops c (t ∷ ts) l s vs w i h = by (step c l s vs t) h
  where
    long : (a : Answer) → Short (length ts) a → a ≡ failed (limit w i) (t ∷ ts) → ⊥
    long (accepted ws) le h = cc
    long (failed f left) le h = omega (arith, le, ap length (left_is h))

    by : (r : Step) → next r t ts (run_with c ts) ≡ failed (limit w i) (t ∷ ts) → r ≡ stop (limit w i)
    by (go k q us) h = absurd (long (run_with c ts k q us) (run_short c ts k q us) h)
    by (stop f) h = let e : f ≡ limit w i = cc in ap stop e
    by (done us) h = absurd (let e : failed (syntax_at t) (t ∷ ts) ≡ failed (limit w i) (t ∷ ts) = h in cc)

-- where it is exceeded at once
over_answer : (bytes : List ℕ) (which line : ℕ) (x : TokenLimitAt bytes which line) → x.mark ≡ over which → (left : List Token) × (run_with all_limits (tokens bytes) nothing_behind start begun ≡ failed (limit which line) left)
over_answer bytes which line x mark_is =
    (x.here ∷ x.behind, ap (λ r. run_with all_limits r nothing_behind start begun) x.tokens ∙ run-append all_limits (plain x.front) (x.here ∷ x.behind) nothing_behind o.l start o.s begun o.vs o.walked ∙ limit_first (x.here ∷ x.behind) all_limits o.l o.s o.vs which line there)
  where
    good : IsText (x.front ++ (x.here, over which) ∷ x.back) x.funcs
    good = subst (λ m. IsText (x.front ++ (x.here, m) ∷ x.back) x.funcs) mark_is x.grammar

    o : Over all_limits (plain x.front) ((x.here, over which) ∷ x.back) x.funcs
    o = over_front all_limits x.front ((x.here, over which) ∷ x.back) x.funcs good x.limits

    run : run_with all_limits (plain ((x.here, over which) ∷ x.back)) o.l o.s o.vs ≡ failed (limit which line) (plain ((x.here, over which) ∷ x.back))
    run = o.is ∙ ap (λ r. failed (limit which x.here.line) (x.here ∷ r)) (append-nil (plain x.back)) ∙ ap (λ i. failed (limit which i) (x.here ∷ plain x.back)) (sym x.line_is)

    there : step all_limits o.l o.s o.vs x.here ≡ stop (limit which line)
    there = step_stops all_limits (plain ((x.here, over which) ∷ x.back)) o.l o.s o.vs which line run

all_end : (fs : List Func) (w line : ℕ) → at_end all_limits fs (from (Some w) line) ≡ failed (limit w line) []
unfolding at_end run_with step
all_end fs w line = refl

all_stops : (fs : List Func) (w line : ℕ) (back : List Marked) → through all_limits (from (Some w) line) back [] (at_end all_limits fs) ≡ failed (limit w line) (plain back)
all_stops fs w line [] = all_end fs w line
all_stops fs w line (m ∷ back) = ap (failed (limit w line)) (append-nil (plain (m ∷ back)))

limit_same : {v w i j : ℕ} → stop (limit v i) ≡ stop (limit w j) → v ≡ w
limit_same h = cc

-- where it is known late
module _ (bytes : List ℕ) (which line : ℕ) (x : TokenLimitAt bytes which line) (mark_is : x.mark ≡ late which) where
  pre : List Token
  pre = plain x.front ++ x.here ∷ []

  good : IsText (x.front ++ (x.here, late which) ∷ x.back) x.funcs
  good = subst (λ m. IsText (x.front ++ (x.here, m) ∷ x.back) x.funcs) mark_is x.grammar

  whole : plain (x.front ++ (x.here, late which) ∷ x.back) ≡ pre ++ plain x.back
  unfolding pre
  whole = map-append (λ m. m.0) x.front ((x.here, late which) ∷ x.back) ∙ sym (append_assoc (plain x.front) (x.here ∷ []) (plain x.back))

  all_run : run_with all_limits (pre ++ plain x.back) nothing_behind start begun ≡ failed (limit which x.here.line) (plain x.back)
  all_run =
      ap (λ r. run_with all_limits r nothing_behind start begun) (sym whole) ∙ text_read all_limits (x.front ++ (x.here, late which) ∷ x.back) x.funcs good
      ∙ (through_fine all_limits x.funcs 0 x.front ((x.here, late which) ∷ x.back) x.limits).is ∙ all_stops x.funcs which x.here.line x.back

  late_run : run_with late_limits (pre ++ plain x.back) nothing_behind start begun ≡ failed (limit which x.here.line) (plain x.back)
  late_run =
      ap (λ r. run_with late_limits r nothing_behind start begun) (sym whole) ∙ text_read late_limits (x.front ++ (x.here, late which) ∷ x.back) x.funcs good
      ∙ (through_fine late_limits x.funcs 0 x.front ((x.here, late which) ∷ x.back) x.limits).is ∙ late_stops x.funcs which x.here.line x.back

  gone : Gone all_limits pre nothing_behind start begun
  gone = let n : length (plain x.back) ≤ length (plain x.back) = omega arith in goes_over all_limits pre (plain x.back) (failed (limit which x.here.line) (plain x.back)) all_run n

  l : Behind
  l = gone.l'

  s : List Symbol
  s = gone.s'

  vs : List Item
  vs = gone.vs'

  walked : walk all_limits pre nothing_behind start begun ≡ go l s vs
  unfolding l s vs
  walked = gone.walked

  lax : walk no_limits pre nothing_behind start begun ≡ go l s vs
  lax = walk_same all_limits no_limits pre nothing_behind l start s begun vs (tt, tt) walked

  all_stop : step all_limits l s vs (first_of (plain x.back)) ≡ stop (limit which x.here.line)
  all_stop = step_stops all_limits (plain x.back) l s vs which x.here.line (sym (run-append all_limits pre (plain x.back) nothing_behind l start s begun vs walked) ∙ all_run)

  late_stop : step late_limits l s vs (first_of (plain x.back)) ≡ stop (limit which x.here.line)
  late_stop =
      step_stops late_limits (plain x.back) l s vs which x.here.line
      (sym (run-append late_limits pre (plain x.back) nothing_behind l start s begun vs (walk_same all_limits late_limits pre nothing_behind l start s begun vs (tt, tt) walked)) ∙ late_run)

  -- where no text goes on with the next token, the machine stops there at the same limit
  u : Token
  u = first_of x.behind

  line_there : l.line ≡ x.here.line
  unfolding pre l s vs
  line_there = (last_step all_limits (plain x.front) x.here l s vs nothing_behind start begun walked).line

  deep_there : (i : ℕ) → NotGo (step no_limits l s vs u) → step late_limits l s vs u ≡ stop (limit 5 i) → EndsNoneTooDeep (plain x.front) x.here → ⊥
  unfolding pre
  deep_there i n h none = none y.front y.back z.fs (subst Read y.parts z.good) y.first
    where
      reach : Reachable s vs
      reach = reached pre nothing_behind l s vs lax

      z : Completed pre (fill s)
      z = completed pre l s vs lax reach

      y : LateMark z.ms (plain x.front) x.here (fill s) 5
      y =
          late_mark (plain x.front) x.here (fill s) z.ms z.fs l s vs 5 i z.good (z.tokens ∙ append_assoc (plain x.front) (x.here ∷ []) (fill s)) walked
          (limit_first (fill s) late_limits l s vs 5 i (stops_filled l s vs u 5 i reach h n))

      Read : List Marked → Type 0
      Read ms = IsText ms z.fs

  which_is : (w i : ℕ) → NotGo (step no_limits l s vs u) → step late_limits l s vs u ≡ stop (limit w i) → ((which ≡ 5) ⊎ EndsNoneTooDeep (plain x.front) x.here) → w ≡ which
  which_is w i n h decides = by (eqb_tells w 5)
    where
      by : ((eqb w 5 ≡ true) × (w ≡ 5)) ⊎ ((eqb w 5 ≡ false) × (w ≡ 5 → ⊥)) → w ≡ which
      by (inr y) = limit_same (sym (stops_any l s vs u (first_of (plain x.back)) w i y.1 h n) ∙ late_stop)
      by (inl y) = deep decides
        where
          deep : ((which ≡ 5) ⊎ EndsNoneTooDeep (plain x.front) x.here) → w ≡ which
          deep (inl e) = y.1 ∙ sym e
          deep (inr none) = absurd (deep_there i n (subst (λ k. step late_limits l s vs u ≡ stop (limit k i)) y.1 h) none)

  ended_there : Ended (step all_limits l s vs u) → ⊥
  ended_there h = subst NoLimit late_stop (quiet l s vs u (first_of (plain x.back)) h)

  refused_there : NotGo (step no_limits l s vs u) → ((which ≡ 5) ⊎ EndsNoneTooDeep (plain x.front) x.here) → step all_limits l s vs u ≡ stop (limit which line)
  refused_there n decides = by (step all_limits l s vs u) refl
    where
      by : (r : Step) → step all_limits l s vs u ≡ r → step all_limits l s vs u ≡ stop (limit which line)
      by (go k q us) is = absurd (same_go (step all_limits l s vs u) (step no_limits l s vs u) (step_same all_limits no_limits l s vs u (tt, tt)) k q us is n)
      by (done us) is = absurd (ended_there (subst Ended (sym is) tt))
      by (stop (syntax i j)) is = absurd (ended_there (subst Ended (sym is) tt))
      by (stop (limit w i)) is = at (cause l s vs u w i is)
        where
          at : AtOnce l s vs u w i ⊎ Late l s vs u w i → step all_limits l s vs u ≡ stop (limit which line)
          at (inl a) = absurd (subst NotGo a.lax_goes n)
          at (inr z) =
              let w_is = which_is w i n z.stops decides in
              let i_is : i ≡ line = z.line ∙ line_there ∙ sym x.line_is in
              is ∙ ap (λ k. stop (limit k i)) w_is ∙ ap (λ k. stop (limit which k)) i_is

  decided : Decides which (plain x.front) x.here x.behind x.back → step all_limits l s vs u ≡ stop (limit which line)
  unfolding pre u
  decided (inl y) = let P : Token → Type 0 = λ t. step all_limits l s vs t ≡ stop (limit which x.here.line) in subst P (ap first_of y.1) all_stop ∙ ap (λ i. stop (limit which i)) (sym x.line_is)
  decided (inr y) = refused_there (not_on pre (first_of x.behind) l s vs lax (λ b. y.0 (subst Begins (append_assoc (plain x.front) (x.here ∷ []) (first_of x.behind ∷ [])) b))) y.1

  late_answer : Decides which (plain x.front) x.here x.behind x.back → (left : List Token) × (run_with all_limits (tokens bytes) nothing_behind start begun ≡ failed (limit which line) left)
  unfolding pre u
  late_answer d =
      let tokens_are : tokens bytes ≡ pre ++ x.behind = x.tokens ∙ sym (append_assoc (plain x.front) (x.here ∷ []) x.behind) in
      (x.behind, ap (λ r. run_with all_limits r nothing_behind start begun) tokens_are ∙ run-append all_limits pre x.behind nothing_behind l start s begun vs walked ∙ limit_first x.behind all_limits l s vs which line (decided d))

-- The machine stops where a token exceeds a limit first of all.
pub limit_answer : (bytes : List ℕ) (which line : ℕ) → TokenLimitAt bytes which line → (left : List Token) × (run_with all_limits (tokens bytes) nothing_behind start begun ≡ failed (limit which line) left)
limit_answer bytes which line x = by x.exceeds
  where
    by : (x.mark ≡ over which) ⊎ ((x.mark ≡ late which) × Decides which (plain x.front) x.here x.behind x.back) → (left : List Token) × (run_with all_limits (tokens bytes) nothing_behind start begun ≡ failed (limit which line) left)
    by (inl h) = over_answer bytes which line x h
    by (inr h) = late_answer bytes which line x h.0 h.1
