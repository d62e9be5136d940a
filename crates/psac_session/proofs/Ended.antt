-- How a session ends.
use Rattle.std.proofs.Common.{◌≡◌, ◌∙◌, ℕ, ◌+◌, ◌-◌, Bool, true, List, [], ◌∷◌, ◌++◌, ◌⊎◌, inl, inr, Option, Some, None, length, take, drop, slice_index, refl, ap, sym, subst, arith, append_assoc, length-append}
use Rattle.std.specs.Prelude.{IfSome, slice_get, false}
use Rattle.std.specs.List.{list_any}
use Rattle.std.specs.Io.KnownBytes.{Consumes, IsAtEnd}
use Rattle.std.proofs.lemmas.List.{append-nil, drop_all, take-append-le}
use Rattle.std.proofs.lemmas.List.Folds.{list_any-append}
use Rattle.std.proofs.Math.Seq.{take-append_seam, take-append-add, take-length}
use Rattle.psac_base.specs.Feeds.{NoFeed, lines_of}
use Rattle.psac_base.specs.Lines.{GivesLine, NoFeedBeforePiece}
use Rattle.psac_base.specs.Outside.{Appended}
use Rattle.psac_base.proofs.Splits.{last_is_last, whole_is_next}
use Rattle.psac_base.proofs.Wrote.{Appended-append, Appended-nil}
use Rattle.psac_model.specs.declared.ends.Shown.{Shown}
use Rattle.psac_model.specs.Fresh.{World}
use Rattle.psac_report.specs.Script.{Command, Commit, command_of}
use Rattle.psac_report.specs.Session.{State, shown_now}
use Rattle.psac_report.specs.Steps.{Step, is_quit, quits as quits_, replies_by}
use Rattle.psac_session.specs.Answered.{Answer, AnsweredLong, AnsweredTo, AnsweredWhole, IsScript, ReadOut}
use Rattle.psac_session.specs.Attended.{Attended, AttendedPart, Foretold, Hearing}
use Rattle.psac_session.specs.Heard.{Heard, IsNext, Outward, Shows, commits, heard_by, heard_where, is_commit, shows_after}
use Rattle.psac_session.specs.Turned.{BrokeOff, IsExpected, text_of}
use Rattle.psac_session.proofs.Adding.{Heard-append, Heard-nil}
use Rattle.psac_session.proofs.Replies.{replies_quit, shows_quit}
use Rattle.psac_session.proofs.Fed.{Fed, going_on}
use Rattle.psac_session.proofs.Turn.{Behind, Going, Over, cut_all, cut_whole, heard_then, line_then}

-- what is answered to lines from a state on
abbrev from_state : World → Step → State → Answer
from_state w step start lines = replies_by w step lines start

-- what is heard of lines from a state on
abbrev heard_from : World → Step → State → Hearing
heard_from w step start lines = shows_after w step lines start

-- what is left of a script that is told
abbrev rest_of : Option (List ℕ) → List ℕ
rest_of None = []
rest_of (Some xs) = xs

is_script : (left left' : Option (List ℕ)) (bytes : List ℕ) → Consumes left left' bytes → IsScript left (bytes ++ rest_of left')
is_script None left' bytes took = tt
is_script (Some xs) None bytes took = absurd took
is_script (Some xs) (Some ys) bytes took = took

is_rest : (left : Option (List ℕ)) → IsScript left (rest_of left)
is_rest None = tt
is_rest (Some xs) = refl

none_left : (left : Option (List ℕ)) → IsAtEnd left → rest_of left ≡ []
none_left None at_end = refl
none_left (Some xs) at_end = at_end

whole_script : (left left' : Option (List ℕ)) (bytes : List ℕ) → Consumes left left' bytes → IsAtEnd left' → IsScript left bytes
whole_script left left' bytes took at_end = rw (none_left left' at_end, append-nil bytes) at (is_script left left' bytes took)

pub consumes_nil : (left : Option (List ℕ)) (bytes : List ℕ) → bytes ≡ [] → Consumes left left bytes
consumes_nil None bytes none = tt
consumes_nil (Some xs) bytes none = rw none refl

-- nothing was written, and nothing heard
pub nothing : (answer : Answer) (hearing : Hearing) (left : Option (List ℕ)) (before : Outward) → AttendedPart answer hearing left before before
nothing answer hearing left before = record {
  script = rest_of left;
  is_script = is_rest left;
  written = (0, omega arith, Appended-nil before.0);
  count = 0;
  within = omega arith;
  heard = Heard-nil before.1;
}

-- the whole is a part
pub whole_part : (answer : Answer) (hearing : Hearing) (left : Option (List ℕ)) (before now : Outward) → Attended answer hearing left before now
    → AttendedPart answer hearing left before now
whole_part answer hearing left before now all =
    let text = answer (lines_of all.script) in
    let shows = hearing (lines_of all.script) in
    record {
      script = all.script;
      is_script = all.is_script;
      written = (length text, omega arith, subst (λ (xs : List ℕ). Appended before.0 now.0 xs) (sym (take-length text)) all.adds.0);
      count = length shows;
      within = omega arith;
      heard = subst (λ (xs : Shows). Heard before.1 now.1 xs) (sym (take-length shows)) all.adds.1;
    }

get_at : (xs : Shows) (x : Option (List Shown)) (ys : Shows) → slice_get (xs ++ x ∷ ys) (length xs) ≡ Some x
get_at [] x ys = refl
get_at (z ∷ xs) x ys = get_at xs x ys

not_both : (command : Option Command) → commits command ≡ true → quits_ command ≡ false
not_both (Some Commit) is = refl
not_both _ is = absurd (cc)

no_quit_commit : (text : List ℕ) → is_commit text ≡ true → is_quit text ≡ false
no_quit_commit text is = not_both (command_of text) is

module _ (w : World) (step : Step) (start : State) where
  reported : (bytes more : List ℕ) (given : ℕ) (s : State) (before now : Outward) → (g : Going w step start bytes given s before now)
      → replies_by w step (lines_of (bytes ++ more)) start ≡ g.done ++ replies_by w step (lines_of (drop given (bytes ++ more))) s
  reported bytes more given s before now g =
      ap (λ (ls : List (List ℕ)). replies_by w step ls start) (cut_all bytes more given g.lines g.within g.cut)
      ∙ sym (g.rest (lines_of (drop given (bytes ++ more))))

  heard_whole : (bytes more : List ℕ) (given : ℕ) (s : State) (before now : Outward) → (g : Going w step start bytes given s before now)
      → shows_after w step (lines_of (bytes ++ more)) start ≡ g.seen ++ shows_after w step (lines_of (drop given (bytes ++ more))) s
  heard_whole bytes more given s before now g =
      ap (λ (ls : List (List ℕ)). shows_after w step ls start) (cut_all bytes more given g.lines g.within g.cut)
      ∙ sym (g.rest_seen (lines_of (drop given (bytes ++ more))))

  -- a line that was given is the next one of the script
  next_of : (bytes : List ℕ) (left' : Option (List ℕ)) (given given' : ℕ) (ended' : Bool) (s : State) (before now : Outward) (text : List ℕ)
      → (g : Going w step start bytes given s before now) → GivesLine bytes given given' ended' text → (ended' ≡ true → IsAtEnd left')
      → (more : List (List ℕ)) × (lines_of (bytes ++ rest_of left') ≡ g.lines ++ text ∷ more)
  next_of bytes left' given given' ended' s before now text g (inl whole) at_end = (
    lines_of (drop given' (bytes ++ rest_of left')),
    cut_all bytes (rest_of left') given g.lines g.within g.cut
        ∙ ap (λ (ls : List (List ℕ)). g.lines ++ ls) (whole_is_next bytes (rest_of left') given given' text whole),
  )
  next_of bytes left' given given' ended' s before now text g (inr last) at_end = (
    [],
    rw (none_left left' (at_end last.0), append-nil bytes)
        (cut_whole bytes given g.lines g.within g.cut ∙ ap (λ (ls : List (List ℕ)). g.lines ++ ls) (last_is_last bytes given given' text last.1)),
  )

  stops : (bytes : List ℕ) (left' : Option (List ℕ)) (given given' : ℕ) (ended' : Bool) (s : State) (before now : Outward) (text : List ℕ)
      → (g : Going w step start bytes given s before now) → GivesLine bytes given given' ended' text → (ended' ≡ true → IsAtEnd left') → is_quit text ≡ true
      → IsAtEnd left' ⊎ (list_any is_quit (lines_of bytes) ≡ true)
  stops bytes left' given given' ended' s before now text g (inl whole) at_end quit =
      let more = lines_of (drop given' (bytes ++ [])) in
      let lines : lines_of (bytes ++ []) ≡ g.lines ++ text ∷ more =
      cut_all bytes [] given g.lines g.within g.cut ∙ ap (λ (ls : List (List ℕ)). g.lines ++ ls) (whole_is_next bytes [] given given' text whole) in
      let there : list_any is_quit (lines_of (bytes ++ [])) ≡ true =
      ap (list_any is_quit) lines ∙ list_any-append is_quit g.lines (text ∷ more) ∙ rw (g.no_quit, quit) refl in
      inr (rw (append-nil bytes) at there)
  stops bytes left' given given' ended' s before now text g (inr last) at_end quit = inl (at_end last.0)

  behind_told : (bytes : List ℕ) (given : ℕ) → Behind bytes given → (given ≡ 0) ⊎ (slice_index bytes (given - 1) ≡ 10)
  behind_told bytes given (inl zero) = inl zero
  behind_told bytes given (inr some) = inr some.1

  answered_to : (bytes : List ℕ) (far given : ℕ) (s : State) (before now : Outward) → Going w step start bytes given s before now → NoFeed bytes given far
      → AnsweredTo (from_state w step start) bytes far before.0 now.0
  answered_to bytes far given s before now g none =
      let lines : lines_of (take given bytes) ≡ g.lines = rw (append-nil (take given bytes), append-nil g.lines) at (g.cut []) in
      let report : g.done ≡ replies_by w step (lines_of (take given bytes)) start =
      sym (append-nil g.done) ∙ g.rest [] ∙ ap (λ (ls : List (List ℕ)). replies_by w step ls start) (append-nil g.lines ∙ sym lines) in
      record {
        upto = given;
        within = g.within;
        behind = behind_told bytes given g.behind;
        none = none;
        no_quit = rw lines g.no_quit;
        written = subst (λ (xs : List ℕ). Appended before.0 now.0 xs) report g.adds.0;
      }

  next_told : (all : Shows) (heard0 heard : Option Shows) (seen hear later : Shows) (before : Shows) (shown : Option (List Shown)) → all ≡ before ++ ((seen ++ hear) ++ later)
      → heard0 ≡ Some before → Heard heard0 heard seen → hear ≡ shown ∷ [] → IsNext all heard shown
  next_told all heard0 None seen hear later before shown is first heard one = tt
  next_told all heard0 (Some now) seen hear later before shown is first heard one =
      let told : now ≡ before ++ seen = rw first at heard in
      let at : all ≡ now ++ shown ∷ later =
      is ∙ ap (λ (xs : Shows). before ++ xs) (append_assoc seen hear later) ∙ sym (append_assoc before seen (hear ++ later))
      ∙ ap (λ (xs : Shows). (before ++ seen) ++ (xs ++ later)) one ∙ ap (λ (xs : Shows). xs ++ shown ∷ later) (sym told) in
      rw at (get_at now shown later)

module _ {w : World} {step : Step} {start : State} {bytes : List ℕ} {first left : Option (List ℕ)} {m n given : ℕ}
    {ended : Bool} {s : State} {before now : Outward} (f : Fed w step start bytes first left m n given ended s before now) where
  -- where the lines that were given are answered
  pub part_going : Going w step start bytes given s before now
      → AttendedPart (from_state w step start) (heard_from w step start) first before now
  part_going g =
      let more = replies_by w step (lines_of (drop given (bytes ++ rest_of left))) s in
      let whole = reported w step start bytes (rest_of left) given s before now g in
      let same : g.done ≡ take (length g.done) (replies_by w step (lines_of (bytes ++ rest_of left)) start) =
      sym (ap (take (length g.done)) whole ∙ take-append_seam g.done more) in
      let later = shows_after w step (lines_of (drop given (bytes ++ rest_of left))) s in
      let all = heard_whole w step start bytes (rest_of left) given s before now g in
      let front : g.seen ≡ take (length g.seen) (shows_after w step (lines_of (bytes ++ rest_of left)) start) =
      sym (ap (take (length g.seen)) all ∙ take-append_seam g.seen later) in
      record {
        script = bytes ++ rest_of left;
        is_script = is_script first left bytes f.took;
        written = (length g.done, omega (arith, ap length whole, length-append g.done more), subst (λ (xs : List ℕ). Appended before.0 now.0 xs) same g.adds.0);
        count = length g.seen;
        within = omega (arith, ap length all, length-append g.seen later);
        heard = subst (λ (xs : Shows). Heard before.1 now.1 xs) front g.adds.1;
      }

  -- a first part of the reply to a line was written
  pub part_wrote : (given' : ℕ) (after : Outward) (text : List ℕ) → GivesLine bytes given given' ended text
      → BrokeOff w step s text now after → AttendedPart (from_state w step start) (heard_from w step start) first before after
  part_wrote given' after text line broke =
      let g = going_on f.state line in
      let next = next_of w step start bytes left given given' ended s before now text g line f.at_end in
      let s' = (step s (command_of text)).0 in
      let out = text_of w (step s (command_of text)) in
      let hear = heard_by w (command_of text) s' in
      let more = replies_by w step next.0 s' in
      let later = shows_after w step next.0 s' in
      let part = broke.written in
      let report = replies_by w step (lines_of (bytes ++ rest_of left)) start in
      let shows = shows_after w step (lines_of (bytes ++ rest_of left)) start in
      let whole : report ≡ g.done ++ (out ++ more) =
      ap (λ (ls : List (List ℕ)). replies_by w step ls start) next.1 ∙ sym (g.rest (text ∷ next.0))
      ∙ ap (λ (xs : List ℕ). g.done ++ xs) (line_then w step text out next.0 s s' broke.other refl refl) in
      let front : take (length g.done + part.0) report ≡ g.done ++ take part.0 out =
      ap (take (length g.done + part.0)) whole ∙ take-append-add g.done (out ++ more) part.0
      ∙ ap (λ (xs : List ℕ). g.done ++ xs) (take-append-le part.0 out more part.1) in
      let all : shows ≡ (g.seen ++ hear) ++ later =
      ap (λ (ls : List (List ℕ)). shows_after w step ls start) next.1 ∙ sym (g.rest_seen (text ∷ next.0))
      ∙ ap (λ (xs : Shows). g.seen ++ xs) (heard_then w step text next.0 s s' broke.other refl) ∙ sym (append_assoc g.seen hear later) in
      let heard : g.seen ++ hear ≡ take (length (g.seen ++ hear)) shows =
      sym (ap (take (length (g.seen ++ hear))) all ∙ take-append_seam (g.seen ++ hear) later) in
      record {
        script = bytes ++ rest_of left;
        is_script = is_script first left bytes f.took;
        written = (
          length g.done + part.0,
          omega (arith, ap length whole, length-append g.done (out ++ more), length-append out more, part.1),
          subst (λ (xs : List ℕ). Appended before.0 after.0 xs) (sym front) (Appended-append before.0 now.0 after.0 g.done (take part.0 out) g.adds.0 part.2),
        );
        count = length (g.seen ++ hear);
        within = omega (arith, ap length all, length-append (g.seen ++ hear) later);
        heard = subst (λ (xs : Shows). Heard before.1 after.1 xs) heard (Heard-append before.1 now.1 after.1 g.seen hear g.adds.1 broke.heard);
      }

  -- `quit` was given
  pub quits : (given' : ℕ) (text : List ℕ) → GivesLine bytes given given' ended text → is_quit text ≡ true
      → Attended (from_state w step start) (heard_from w step start) first before now
  quits given' text line quit =
      let g = going_on f.state line in
      let next = next_of w step start bytes left given given' ended s before now text g line f.at_end in
      let all : g.done ≡ replies_by w step (lines_of (bytes ++ rest_of left)) start =
      sym (append-nil g.done) ∙ ap (λ (xs : List ℕ). g.done ++ xs) (sym (replies_quit w step text next.0 s quit)) ∙ g.rest (text ∷ next.0)
      ∙ ap (λ (ls : List (List ℕ)). replies_by w step ls start) (sym next.1) in
      let shows : g.seen ≡ shows_after w step (lines_of (bytes ++ rest_of left)) start =
      sym (append-nil g.seen) ∙ ap (λ (xs : Shows). g.seen ++ xs) (sym (shows_quit w step text next.0 s quit)) ∙ g.rest_seen (text ∷ next.0)
      ∙ ap (λ (ls : List (List ℕ)). shows_after w step ls start) (sym next.1) in
      record {
        script = bytes ++ rest_of left;
        is_script = is_script first left bytes f.took;
        adds = (subst (λ (xs : List ℕ). Appended before.0 now.0 xs) all g.adds.0, subst (λ (xs : Shows). Heard before.1 now.1 xs) shows g.adds.1);
      }

  pub quits_read : (given' : ℕ) (text : List ℕ) → GivesLine bytes given given' ended text → is_quit text ≡ true → ReadOut first left m n
  quits_read given' text line quit =
      let g = going_on f.state line in
      record { bytes = bytes; took = f.took; count = f.count; stop = stops w step start bytes left given given' ended s before now text g line f.at_end quit }

  ends_by : Going w step start bytes given s before now ⊎ Over w step start bytes given ended before now
      → given ≡ length bytes → IsAtEnd left → Attended (from_state w step start) (heard_from w step start) first before now
  ends_by (inl g) all at_end =
      let none : drop given bytes ≡ [] = drop_all given bytes (omega (arith, all)) in
      let lines : lines_of bytes ≡ g.lines ++ [] = cut_whole bytes given g.lines g.within g.cut ∙ ap (λ (xs : List ℕ). g.lines ++ lines_of xs) none in
      let report : g.done ≡ replies_by w step (lines_of bytes) start =
      sym (append-nil g.done) ∙ g.rest [] ∙ ap (λ (ls : List (List ℕ)). replies_by w step ls start) (sym lines) in
      let shows : g.seen ≡ shows_after w step (lines_of bytes) start =
      sym (append-nil g.seen) ∙ g.rest_seen [] ∙ ap (λ (ls : List (List ℕ)). shows_after w step ls start) (sym lines) in
      record {
        script = bytes;
        is_script = whole_script first left bytes f.took at_end;
        adds = (subst (λ (xs : List ℕ). Appended before.0 now.0 xs) report g.adds.0, subst (λ (xs : Shows). Heard before.1 now.1 xs) shows g.adds.1);
      }
  ends_by (inr over) all at_end =
      record {
        script = bytes;
        is_script = whole_script first left bytes f.took at_end;
        adds = over.adds;
      }

  -- no line was left
  pub ends : given ≡ length bytes → IsAtEnd left → Attended (from_state w step start) (heard_from w step start) first before now
  ends all at_end = ends_by f.state all at_end

  -- a read failed
  pub breaks : NoFeed bytes given (length bytes) → Going w step start bytes given s before now
      → AnsweredWhole (from_state w step start) first left before.0 now.0
  breaks none g =
      record { bytes = bytes; took = f.took; answered = answered_to w step start bytes (length bytes) given s before now g none }

  -- too much was read
  pub too_long : length bytes ≡ 16777217 → NoFeedBeforePiece bytes given → Going w step start bytes given s before now
      → AnsweredLong (from_state w step start) first left before.0 now.0
  too_long long none g =
      let near : NoFeed bytes given 16773121 = λ k low high feed. none.none k low (omega (arith, none.piece, long)) feed in
      record { bytes = bytes; took = f.took; count = long; answered = answered_to w step start bytes 16773121 given s before now g near }

  -- what a line that is given shows is next of what is to be heard
  pub foreseen : (given' : ℕ) (text : List ℕ) (course : Option Shows) → GivesLine bytes given given' ended text
      → IfSome course (Foretold (heard_from w step start) first before.1) → IsExpected w step s text course now.1
  foreseen given' text None line told = tt
  foreseen given' text (Some all) line told = λ commits.
      let g = going_on f.state line in
      let next = next_of w step start bytes left given given' ended s before now text g line f.at_end in
      let s' = (step s (command_of text)).0 in
      let shown = shown_now w s' in
      let hear = heard_by w (command_of text) s' in
      let later = shows_after w step next.0 s' in
      let script : told.script ≡ bytes ++ rest_of left = rw told.is_script at (is_script first left bytes f.took) in
      let whole : shows_after w step (lines_of told.script) start ≡ (g.seen ++ hear) ++ later =
      ap (λ (xs : List ℕ). shows_after w step (lines_of xs) start) script ∙ ap (λ (ls : List (List ℕ)). shows_after w step ls start) next.1
      ∙ sym (g.rest_seen (text ∷ next.0))
      ∙ ap (λ (xs : Shows). g.seen ++ xs) (heard_then w step text next.0 s s' (no_quit_commit text commits) refl) ∙ sym (append_assoc g.seen hear later) in
      next_told w step start all before.1 now.1 g.seen hear later told.before shown (told.is_told ∙ ap (λ (xs : Shows). told.before ++ xs) whole) told.is_before g.adds.1
      (ap (λ (is : Bool). heard_where is shown) commits)
