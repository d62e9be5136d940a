-- How a session that is watched ends.
use Rattle.std.proofs.Common.{◌≡◌, ◌∙◌, ◌⊎◌, inl, inr, ◌≤◌, ◌+◌, refl, ap, sym, subst, arith, ℕ, suc, List, [], ◌∷◌, ◌++◌, length, length-append, take, Option, Some, None}
use Rattle.std.proofs.lemmas.List.{take-append-le}
use Rattle.std.proofs.Math.Seq.{take-append-add}
use Rattle.psac_base.specs.Causes.{Rose}
use Rattle.psac_base.specs.Feeds.{lines_of}
use Rattle.psac_base.specs.Outside.{Appended, AppendedPart}
use Rattle.psac_base.proofs.Wrote.{Appended-append, Appended-nil}
use Rattle.psac_session.specs.Answered.{Answer}
use Rattle.psac_session.specs.Attended.{Hearing}
use Rattle.psac_session.specs.Heard.{Heard, Outward, Shows}
use Rattle.psac_session.specs.declared.end.SessionEnd.{SessionEnd}
use Rattle.psac_session.specs.declared.end.SessionEnd.TheVariants as end
use Rattle.psac_publish.specs.declared.seen.Seen.{Seen}
use Rattle.psac_publish.specs.History.{nothing}
use Rattle.psac_watch.specs.Held.{IsFollowed, IsHeld, SourceView}
use Rattle.psac_watch.specs.Published.{heard_in, outputs_of}
use Rattle.psac_watch.specs.Showed.{Showed}
use Rattle.psac_run.proofs.Parts.{some_script}
use Rattle.psac_watch.proofs.Growing.{none_shown}
use Rattle.psac_watch.specs.Ended.{IsEnded, IsWatched, IsWatchedPart}
use Rattle.psac_watch.specs.Watched.{IsSeenWhole, count_line, course_of}

none_done : end.NoMemory ≡ end.Done → ⊥
none_done e = cc

-- a session that ended well may be said to have ended for want of memory
pub held_or_none : (answer : Answer) (hearing : Hearing) (script script_now : SourceView) (before now : Outward)
    (faults faults_now : ℕ) (ended said : SessionEnd)
    → IsHeld answer hearing script script_now before now faults faults_now ended
    → (said ≡ ended) ⊎ ((ended ≡ end.Done) × (said ≡ end.NoMemory))
    → IsHeld answer hearing script script_now before now faults faults_now said
held_or_none answer hearing script script_now before now faults faults_now ended said held (inl same) = rw same held
held_or_none answer hearing script script_now before now faults faults_now ended said held (inr (done, none)) =
    rw none (record {
      done = λ e. absurd (none_done e);
      read = λ e. absurd (none_done e);
      part = held.part;
      source = λ e. absurd (let bad : end.NoMemory ≡ end.SourceFailed = e in cc);
      broken = λ e. absurd (let bad : end.NoMemory ≡ end.SourceFailed = e in cc);
      sink = λ e. absurd (let bad : end.NoMemory ≡ end.SinkFailed = e in cc);
      later = held.later;
      long = (
        λ e. absurd (let bad : end.NoMemory ≡ end.TooLong = e in cc),
        λ much. absurd (let bad : end.Done ≡ end.TooLong = sym done ∙ held.long.1 much in cc),
      );
      much = λ e. absurd (let bad : end.NoMemory ≡ end.TooLong = e in cc);
    })

-- ---- texts, one behind another

-- a first part of the first text is one of both
first_of : (before now : Option (List ℕ)) (xs ys : List ℕ) → AppendedPart before now xs → AppendedPart before now (xs ++ ys)
first_of before now xs ys part =
    let low : part.0 ≤ length (xs ++ ys) = omega (arith, part.1, length-append xs ys) in
    (part.0, low, subst (λ t. Appended before now t) (sym (take-append-le part.0 xs ys part.1)) part.2)

-- behind the whole of the first text, a first part of the second one
more_of : (a b c : Option (List ℕ)) (xs ys : List ℕ) → Appended a b xs → AppendedPart b c ys → AppendedPart a c (xs ++ ys)
more_of a b c xs ys whole part =
    let low : length xs + part.0 ≤ length (xs ++ ys) = omega (arith, part.1, length-append xs ys) in (
      length xs + part.0,
      low,
      subst (λ t. Appended a c t) (sym (take-append-add xs ys part.0))
          (Appended-append a b c xs (take part.0 ys) whole part.2),
    )

-- nothing was written
none_of : (a : Option (List ℕ)) (xs : List ℕ) → AppendedPart a a xs
none_of a xs = (0, omega arith, Appended-nil a)

-- ---- counts

outputs_length : (log : List Seen) → length (outputs_of log) ≡ length log
outputs_length [] = refl
outputs_length (s ∷ log) = ap suc (outputs_length log)

-- as many values were published as there were commits, and one before them
counted : (log : List Seen) (shows : Shows) (count : ℕ) → Heard (heard_in (nothing ∷ [])) (heard_in log) shows
    → length log ≡ count + 1 → length shows ≡ count
counted log shows count heard many =
    let all : length log ≡ length (outputs_of (nothing ∷ []) ++ shows) = sym (outputs_length log) ∙ ap length heard in
    omega (arith, all, length-append (outputs_of (nothing ∷ [])) shows, many)

-- ---- the whole

module _ (answer : Answer) (hearing : Hearing) (script script_now : SourceView) (before mid now : Option (List ℕ))
    (faults faults_mid faults_now : ℕ) (seen seen_now : Option (List Seen)) (ended : SessionEnd) (count code : ℕ)
    (last : Option ℕ) where
  whole_of : IsFollowed answer hearing script script_now before mid faults faults_mid ended count
      → (ended ≡ end.Done) × Appended mid now (count_line count)
      → Showed (course_of hearing script.left) None last seen seen_now → last ≡ Some count
      → IsSeenWhole answer hearing script.left before now seen seen_now
  whole_of followed done showed is =
      let all = followed.held.done done.0 in
      let shows = hearing (lines_of all.script) in
      let number : length shows ≡ count = counted followed.log shows count all.adds.1 followed.counted in
      record {
        script = all.script;
        is_script = all.is_script;
        written = Appended-append before mid now (answer (lines_of all.script)) (count_line (length shows)) all.adds.0
            (rw number done.1);
        showed = rw number (rw is at showed);
      }

  part_of : IsFollowed answer hearing script script_now before mid faults faults_mid ended count
      → (ended ≡ end.Done → AppendedPart mid now (count_line count)) → (ended ≡ end.Done) ⊎ (now ≡ mid)
      → IsWatchedPart answer hearing script.left before now
  part_of followed part (inl done) =
      let all = followed.held.done done in
      let shows = hearing (lines_of all.script) in
      let number : length shows ≡ count = counted followed.log shows count all.adds.1 followed.counted in
      record {
        script = all.script;
        is_script = all.is_script;
        written = more_of before mid now (answer (lines_of all.script)) (count_line (length shows)) all.adds.0
            (rw number (part done));
      }
  part_of followed part (inr same) =
      let some = followed.held.part in
      record {
        script = some.script;
        is_script = some.is_script;
        written = rw same (first_of before mid (answer (lines_of some.script))
            (count_line (length (hearing (lines_of some.script)))) some.written);
      }

  sink_of : IsFollowed answer hearing script script_now before mid faults faults_mid ended count
      → faults_mid ≤ faults_now → (ended ≡ end.SinkFailed) ⊎ Rose faults_mid faults_now → Rose faults faults_now
  sink_of followed later (inl failed) = let rose = followed.held.sink failed in omega (arith, rose, later)
  sink_of followed later (inr rose) = omega (arith, followed.held.later, rose)

  same_of : (ended ≡ end.Done) ⊎ (now ≡ mid) → (bad : SessionEnd) → ended ≡ bad → (bad ≡ end.Done → ⊥) → mid ≡ now
  same_of (inl done) bad is other = absurd (other (sym is ∙ done))
  same_of (inr same) bad is other = sym same

  -- what was read, written and shown, and the status
  pub watched : IsFollowed answer hearing script script_now before mid faults faults_mid ended count
      → IsEnded ended count mid now faults_mid faults_now code
      → Showed (course_of hearing script.left) None last seen seen_now → (ended ≡ end.Done → last ≡ Some count)
      → IsWatched answer hearing script script_now before now faults faults_now seen seen_now code
  watched followed is_ended showed is =
      let held = followed.held in
      record {
        status = is_ended.status;
        whole = λ zero. let done = is_ended.done zero in whole_of followed done showed (is done.0);
        read = λ zero. held.read (is_ended.done zero).0;
        part = part_of followed is_ended.part is_ended.same;
        shown = record { last = last; showed = showed };
        source = λ six. held.source (is_ended.source six);
        broken = λ six.
            let failed = is_ended.source six in
            rw (same_of is_ended.same end.SourceFailed failed (λ e. cc)) at (held.broken failed);
        sink = λ seven. sink_of followed is_ended.later (is_ended.sink seven);
        long = (λ eight. held.long.0 (is_ended.long.0 eight), λ much. is_ended.long.1 (held.long.1 much));
        much = λ eight.
            let long = is_ended.long.0 eight in
            rw (same_of is_ended.same end.TooLong long (λ e. cc)) at (held.much long);
      }

-- where no history could be opened, nothing was read, written or shown
pub unopened : (answer : Answer) (hearing : Hearing) (script : SourceView) (held : Option (List ℕ)) (faults : ℕ)
    (seen : Option (List Seen)) → IsWatched answer hearing script script held held faults faults seen seen 9
unopened answer hearing script held faults seen = record {
  status = inr (inr (inr (inr refl)));
  whole = λ e. absurd (omega arith);
  read = λ e. absurd (omega arith);
  part = record {
    script = (some_script script.left).0;
    is_script = (some_script script.left).1;
    written = none_of held _;
  };
  shown = record { last = None; showed = none_shown (course_of hearing script.left) None seen };
  source = λ e. absurd (omega arith);
  broken = λ e. absurd (omega arith);
  sink = λ e. absurd (omega arith);
  long = (λ e. absurd (omega arith), λ much. absurd (omega (arith, much)));
  much = λ e. absurd (omega arith);
}
