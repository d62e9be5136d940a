-- What is known behind a call that asks for a line.
use Rattle.std.proofs.Common.{◌≡◌, ◌∙◌, ℕ, ◌+◌, ◌⊎◌, Bool, true, List, Option, inl, inr, length, ap, refl, arith, length-append}
use Rattle.std.specs.Io.KnownBytes.{Consumes, IsAtEnd}
use Rattle.psac_base.specs.Lines.{EndsAtEnd, GivesLine, Grew}
use Rattle.psac_inputs.specs.Texts.{Texts}
use Rattle.psac_model.specs.Fresh.{World}
use Rattle.psac_report.specs.Script.{command_of}
use Rattle.psac_report.specs.Session.{State, step_of}
use Rattle.psac_report.specs.Steps.{Step}
use Rattle.psac_engine.specs.declared.engine.Engine.{Engine}
use Rattle.psac_engine.specs.Engine.{caps_in, world_in}
use Rattle.psac_session.specs.Heard.{Outward}
use Rattle.psac_session.specs.State.{opening}
use Rattle.psac_session.specs.Turned.{TookLine, text_of}
use Rattle.psac_session.proofs.Taken.{adds_at}
use Rattle.psac_session.proofs.Turn.{Going, Over, end_noted, finished, grown, took_all, went_on}

-- what was read since the beginning, and that the lines that were given of it are answered
pub record Fed (w : World) (step : Step) (start : State) (bytes : List ℕ) (first left : Option (List ℕ)) (m n given : ℕ)
    (ended : Bool) (s : State) (before now : Outward) : Type 0 where
  pub took : Consumes first left bytes
  pub count : n ≡ m + length bytes
  pub at_end : ended ≡ true → IsAtEnd left
  pub state : Going w step start bytes given s before now ⊎ Over w step start bytes given ended before now

-- the end that was noted before the call stays noted
still_ended : (ended ended' : Bool) (left : Option (List ℕ)) → EndsAtEnd ended ended' left → ended ≡ true → ended' ≡ true
still_ended ended ended' left (inl same) noted = same ∙ noted
still_ended ended ended' left (inr now) noted = now.0

state_fed : (w : World) (step : Step) (start : State) (bytes bytes' : List ℕ) (left left' : Option (List ℕ)) (n n' given : ℕ)
    (ended ended' : Bool) (s : State) (before now : Outward)
    → Grew bytes bytes' left left' n n' → EndsAtEnd ended ended' left' → (ended ≡ true → bytes' ≡ bytes)
    → Going w step start bytes given s before now ⊎ Over w step start bytes given ended before now
    → Going w step start bytes' given s before now ⊎ Over w step start bytes' given ended' before now
state_fed w step start bytes bytes' left left' n n' given ended ended' s before now grew noted still (inl going) =
    inl (grown w step start bytes grew.got bytes' given s before now grew.bytes going)
state_fed w step start bytes bytes' left left' n n' given ended ended' s before now grew noted still (inr over) =
    let same : bytes' ≡ bytes = still over.at_end in
    inr (rw same (record { adds = over.adds; all = over.all; at_end = still_ended ended ended' left' noted over.at_end }))

-- behind a call that read on, or left the source as it was
pub fed : (e : Engine) (texts : Texts) {A : Type 0} (left_in : A → Option (List ℕ)) {source source' : A} {bytes bytes' : List ℕ}
    {first : Option (List ℕ)} {m n n' given : ℕ} {ended ended' : Bool} {s : State} {before now : Outward}
    → (ended ≡ true → (source' ≡ source) × (bytes' ≡ bytes))
    → Grew bytes bytes' (left_in source) (left_in source') n n' → EndsAtEnd ended ended' (left_in source')
    → Consumes first (left_in source) bytes → n ≡ m + length bytes → (ended ≡ true → IsAtEnd (left_in source))
    → Going (world_in e) (step_of (world_in e) (caps_in e)) (opening e texts) bytes given s before now
    ⊎ Over (world_in e) (step_of (world_in e) (caps_in e)) (opening e texts) bytes given ended before now
    → Fed (world_in e) (step_of (world_in e) (caps_in e)) (opening e texts) bytes' first (left_in source') m n' given ended' s
    before now
fed e texts left_in {source} {source'} {bytes} {bytes'} {first} {m} {n} {n'} {given} {ended} {ended'} {s} {before} {now} still grew noted
    took count at_end state = record {
      took = took_all bytes bytes' first (left_in source) (left_in source') n n' grew took;
      count = omega (arith, grew.count, count, ap length grew.bytes, length-append bytes grew.got);
      at_end = end_noted ended ended' (left_in source) (left_in source') noted at_end (λ over. ap left_in (still over).0);
      state =
          state_fed (world_in e) (step_of (world_in e) (caps_in e)) (opening e texts) bytes bytes' (left_in source) (left_in source')
          n n' given ended ended' s before now grew noted (λ over. (still over).1) state;
    }

not_over : {bytes text : List ℕ} {given given' : ℕ} {ended : Bool} → GivesLine bytes given given' ended text → given ≡ length bytes → ⊥
not_over (inl whole) all = omega (arith, all, whole.is_end.low, whole.is_end.high)
not_over (inr last) all = omega (arith, all, last.1.some)

module _ {w : World} {step : Step} {start : State} {bytes : List ℕ} {given : ℕ} {ended : Bool} {s : State}
    {before now : Outward} where
  -- where a line was given, the last one wasn't answered before
  pub going_on : {given' : ℕ} {text : List ℕ}
      → Going w step start bytes given s before now ⊎ Over w step start bytes given ended before now
      → GivesLine bytes given given' ended text → Going w step start bytes given s before now
  going_on (inl going) line = going
  going_on (inr over) line = absurd (not_over line over.all)

  -- nor where there was no answer to whether there is one
  pub going_yet : Going w step start bytes given s before now ⊎ Over w step start bytes given ended before now
      → ((ended ≡ true) × (given ≡ length bytes) → ⊥) → Going w step start bytes given s before now
  going_yet (inl going) open_ = going
  going_yet (inr over) open_ = absurd (open_ (over.at_end, over.all))

  -- a line was given and answered
  pub turn : {given' : ℕ} {text : List ℕ} {s' : State} {after : Outward} → GivesLine bytes given given' ended text
      → TookLine w step s s' text now after → Going w step start bytes given s before now
      → Going w step start bytes given' s' before after ⊎ Over w step start bytes given' ended before after
  turn {given'} {text} {s'} {after} (inl whole) took going =
      inl (went_on w step start bytes text (text_of w (step s (command_of text))) given given' s s' before now after took.other
      took.state refl whole going (adds_at w step s s' text now after took))
  turn {given'} {text} {s'} {after} (inr last) took going =
      inr (finished w step start bytes text (text_of w (step s (command_of text))) given given' ended s s' before now after took.other
      took.state refl last.0 last.1 going (adds_at w step s s' text now after took))
