-- Where the machine stops at a fault of syntax, one stands in the text.
use Rattle.std.proofs.Common.{◌≡◌, ℕ, ◌≤◌, Bool, true, false, cond, List, [], ◌∷◌, ◌++◌, length, Option, Some, None, ◌⊎◌, inl, inr, refl, sym, ap, subst, ◌∙◌, append_assoc, arith}
use Rattle.std.proofs.lemmas.List.{map-append}
use Rattle.psac_syntax.specs.declared.program.Func.{Func}
use Rattle.psac_tokens.specs.declared.token.Token.{Token}
use Rattle.psac_tokens.specs.declared.token.TheConstants.{NOTHING}
use Rattle.psac_tokens.specs.Number.{tokens}
use Rattle.psac_grammar.specs.Marked.{Mark, fine, over, late, Marked, plain, AllFine}
use Rattle.psac_grammar.specs.Language.{WithinLimits, SyntaxAt, max_bytes}
use Rattle.psac_grammar.specs.Machine.{Symbol, Item, Move, take, pass, refuse, move, Behind, nothing_behind, behind, Step, go, stop, done, syntax, limit, Answer, accepted, failed, syntax_at, no_limits, late_limits, all_limits, settled, exceeds, after, next, last, first_of, start, begun, step, run_with}
use Rattle.psac_grammar.proofs.Through.{through}
use Rattle.psac_grammar.proofs.Whole.{at_end}
use Rattle.psac_grammar.proofs.Fills.{fill}
use Rattle.psac_grammar.proofs.Walks.{walk, walk_same, StopsWith, Short, run_short, reached, left_is}
use Rattle.psac_grammar.proofs.Stops.{Ended, NoLimit, ended_lax, quiet}
use Rattle.psac_grammar.proofs.Fronts.{from, NoneLate, none_late, NoneOver, none_over, none_over_front, fine_both, through_fine, late_stops, short_is}
use Rattle.psac_grammar.proofs.Texts.{completed, completed_begins, answers, nowhere, cut_at, plain-count, last_of}

pub ended_stop : (r : Step) (t : Token) (i j : ℕ) → StopsWith r t (syntax i j) → Ended r
ended_stop (go l s vs) t i j h = absurd h
ended_stop (stop (syntax a b)) t i j h = tt
ended_stop (stop (limit a b)) t i j h = absurd cc
ended_stop (done vs) t i j h = tt

settled_syntax : (b : Bool) (o : Option ℕ) (n : ℕ) (r : Step) (t : Token) (i j : ℕ) → StopsWith (settled b o n r) t (syntax i j) → StopsWith r t (syntax i j)
settled_syntax b None n r t i j h = h
settled_syntax true (Some w) n r t i j h = absurd (let e : limit w n ≡ syntax i j = h in cc)
settled_syntax false (Some w) n r t i j h = h

taken_syntax : (b : Bool) (m : Mark) (t : Token) (l : Behind) (s : List Symbol) (vs : List Item) (i j : ℕ) → StopsWith (exceeds b m t (go l s vs)) t (syntax i j) → ⊥
taken_syntax b fine t l s vs i j h = h
taken_syntax b (late w) t l s vs i j h = h
taken_syntax true (over w) t l s vs i j h = let e : limit w t.line ≡ syntax i j = h in cc
taken_syntax false (over w) t l s vs i j h = h

room_syntax : (b : Bool) (n : ℕ) (r : Step) (t : Token) (i j : ℕ) → StopsWith (cond b r (stop (limit 5 n))) t (syntax i j) → StopsWith r t (syntax i j)
room_syntax true n r t i j h = h
room_syntax false n r t i j h = absurd (let e : limit 5 n ≡ syntax i j = h in cc)

-- it stands at the token
pub stop_place : (l : Behind) (s : List Symbol) (vs : List Item) (t : Token) (i j : ℕ) → StopsWith (step all_limits l s vs t) t (syntax i j) → syntax_at t ≡ syntax i j
unfolding step
stop_place l [] vs t i j h = settled_syntax true l.late l.line (done vs) t i j h
stop_place l (x ∷ s) vs t i j h = by (λ us k. stop_place l s us t i j k) (move x t) h
  where
    by : ((us : List Item) → StopsWith (step all_limits l s us t) t (syntax i j) → syntax_at t ≡ syntax i j) → (m : Move) → StopsWith (after all_limits l m t s vs (λ us. step all_limits l s us t)) t (syntax i j) → syntax_at t ≡ syntax i j
    by on (take m more new) h = absurd (taken_syntax true m t (behind t m) (more ++ s) (new ++ vs) i j (settled_syntax true l.late l.line (exceeds true m t (go (behind t m) (more ++ s) (new ++ vs))) t i j h))
    by on (pass p) h = on (p vs).1 (room_syntax (p vs).0 l.line (step all_limits l s (p vs).1 t) t i j h)
    by on refuse h = settled_syntax true l.late l.line (stop (syntax_at t)) t i j h

pub line_of : {a b i j : ℕ} → syntax a b ≡ syntax i j → i ≡ a
line_of h = cc

pub column_of : {a b i j : ℕ} → syntax a b ≡ syntax i j → j ≡ b
column_of h = cc

-- where no late limit stops the machine, none does
no_stop : (ts : List Token) (l : Behind) (s : List Symbol) (vs : List Item) (w i : ℕ) → NoLimit (step late_limits l s vs (first_of ts)) → run_with late_limits ts l s vs ≡ failed (limit w i) ts → ⊥
unfolding run_with
no_stop [] l s vs w i n h = by (step late_limits l s vs NOTHING) n h
  where
    by : (r : Step) → NoLimit r → last r ≡ failed (limit w i) [] → ⊥
    by (go k q us) n h = cc
    by (stop (syntax a b)) n h = cc
    by (stop (limit a b)) n h = n
    by (done us) n h = cc
no_stop (t ∷ ts) l s vs w i n h = by (step late_limits l s vs t) n h
  where
    long : (a : Answer) → Short (length ts) a → a ≡ failed (limit w i) (t ∷ ts) → ⊥
    long (accepted ws) le h = cc
    long (failed f left) le h = omega (arith, le, ap length (left_is h))

    by : (r : Step) → NoLimit r → next r t ts (run_with late_limits ts) ≡ failed (limit w i) (t ∷ ts) → ⊥
    by (go k q us) n h = long (run_with late_limits ts k q us) (run_short late_limits ts k q us) h
    by (stop (syntax a b)) n h = let e : failed (syntax a b) (t ∷ ts) ≡ failed (limit w i) (t ∷ ts) = h in cc
    by (stop (limit a b)) n h = n
    by (done us) n h = cc

over_last : (f : List Marked) (t : Token) (w : ℕ) → NoneOver (f ++ (t, over w) ∷ []) → ⊥
over_last [] t w h = h.0
over_last (x ∷ f) t w h = over_last f t w h.1

fine_append : (f : List Marked) (t : Token) → AllFine f → AllFine (f ++ (t, fine) ∷ [])
fine_append [] t h = (refl, tt)
fine_append (x ∷ f) t h = (h.0, fine_append f t h.1)

no_tokens : (f : List Marked) → plain f ≡ [] → f ≡ []
no_tokens [] h = refl
no_tokens (x ∷ f) h = absurd cc

-- the last mark of what was read, where no late limit stops the machine behind it
last_fine : (fs : List Func) (f : List Marked) (t : Token) (m : Mark) (back : List Marked) (l : Behind) (s : List Symbol) (vs : List Item) → NoneLate f → NoneOver (f ++ (t, m) ∷ []) → NoLimit (step late_limits l s vs (first_of (plain back)))
    → through late_limits (from None 0) (f ++ (t, m) ∷ back) [] (at_end late_limits fs) ≡ run_with late_limits (plain back) l s vs → AllFine (f ++ (t, m) ∷ [])
last_fine fs f t fine back l s vs lates overs calm run = fine_append f t (fine_both f lates (none_over_front f ((t, fine) ∷ []) overs))
last_fine fs f t (over w) back l s vs lates overs calm run = absurd (over_last f t w overs)
last_fine fs f t (late w) back l s vs lates overs calm run =
    let y = through_fine late_limits fs 0 f ((t, late w) ∷ back) (fine_both f lates (none_over_front f ((t, late w) ∷ []) overs)) in
    absurd (no_stop (plain back) l s vs w t.line calm (sym run ∙ y.is ∙ late_stops fs w t.line back))

-- what was read is within the limits, in each text that begins so
within : (pre : List Token) (u : Token) (l : Behind) (s : List Symbol) (vs : List Item) → walk all_limits pre nothing_behind start begun ≡ go l s vs → Ended (step all_limits l s vs u) → WithinLimits pre
within pre u l s vs walked ended front back fs good first = by (last_of pre)
  where
    after_late : walk late_limits pre nothing_behind start begun ≡ go l s vs
    after_late = walk_same all_limits late_limits pre nothing_behind l start s begun vs (tt, tt) walked

    whole : plain (front ++ back) ≡ pre ++ plain back
    whole = map-append (λ m. m.0) front back ∙ ap (λ r. r ++ plain back) first

    all_marks : NoneOver front
    all_marks =
        none_over fs None 0 front back
        (short_is (length (plain back)) (length back) _ _ (plain-count back) (sym (answers all_limits pre (plain back) (front ++ back) fs l s vs good whole walked)) (run_short all_limits (plain back) l s vs))

    late_run : through late_limits (from None 0) (front ++ back) [] (at_end late_limits fs) ≡ run_with late_limits (plain back) l s vs
    late_run = answers late_limits pre (plain back) (front ++ back) fs l s vs good whole after_late

    at : (f : List Marked) (t : Token) (m : Mark) → front ≡ f ++ (t, m) ∷ [] → AllFine front
    at f t m parts =
        let P : List Marked → Type 0 = λ r. through late_limits (from None 0) r [] (at_end late_limits fs) ≡ run_with late_limits (plain back) l s vs in
        let run = subst P (ap (λ r. r ++ back) parts ∙ append_assoc f ((t, m) ∷ []) back) late_run in
        let lates = none_late fs 0 f (t, m) back (short_is (length (plain back)) (length back) _ _ (plain-count back) (sym run) (run_short late_limits (plain back) l s vs)) in
        subst AllFine (sym parts) (last_fine fs f t m back l s vs lates (subst NoneOver parts all_marks) (quiet l s vs u (first_of (plain back)) ended) run)

    by : (pre ≡ []) ⊎ ((p : List Token) × ((t : Token) × (pre ≡ p ++ t ∷ []))) → AllFine front
    by (inl none) = subst AllFine (sym (no_tokens front (first ∙ none))) tt
    by (inr x) = let y = cut_at front x.0 x.1.0 [] (first ∙ x.1.1) in at y.front x.1.0 y.mark (y.parts ∙ ap (λ r. y.front ++ (x.1.0, y.mark) ∷ r) (no_tokens y.back y.second))

pub syntax_there : (bytes : List ℕ) (line column : ℕ) (pre : List Token) (u : Token) (post : List Token) (l : Behind) (s : List Symbol) (vs : List Item) → length bytes ≤ max_bytes → tokens bytes ≡ pre ++ u ∷ post
    → walk all_limits pre nothing_behind start begun ≡ go l s vs → StopsWith (step all_limits l s vs u) u (syntax line column) → SyntaxAt bytes line column
syntax_there bytes line column pre u post l s vs short is walked h =
    let ended = ended_stop (step all_limits l s vs u) u line column h in
    let place = stop_place l s vs u line column h in
    let lax = walk_same all_limits no_limits pre nothing_behind l start s begun vs (tt, tt) walked in
    record {
      before = pre;
      here = u;
      behind = post;
      short = short;
      tokens = is;
      line_is = line_of place;
      column_is = column_of place;
      begins = completed_begins pre (fill s) (completed pre l s vs lax (reached pre nothing_behind l s vs lax));
      limits = within pre u l s vs walked ended;
      nothing = nowhere pre u l s vs lax (ended_lax l s vs u ended);
    }
