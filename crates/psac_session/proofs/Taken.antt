-- What the carrying out of a line, its hearing and its reply make together.
use Rattle.std.proofs.Common.{◌≡◌, ◌∙◌, ℕ, Bool, true, List, Option, Some, None, refl, sym, option_map}
use Rattle.std.specs.Prelude.{IfSome}
use Rattle.psac_base.specs.Outside.{Appended, AppendedPart}
use Rattle.psac_inputs.specs.Texts.{Texts}
use Rattle.psac_model.specs.declared.ends.Shown.{Shown}
use Rattle.psac_model.specs.declared.ends.Caps.{Caps}
use Rattle.psac_model.specs.Fresh.{World}
use Rattle.psac_model.specs.Names.{Name, Heap}
use Rattle.psac_model.specs.Outputs.{outputs_from}
use Rattle.psac_model.specs.Run.{Ran}
use Rattle.psac_report.specs.Script.{command_of}
use Rattle.psac_report.specs.Session.{State, shown_now, step_of}
use Rattle.psac_report.specs.Steps.{Step}
use Rattle.psac_engine.specs.declared.engine.Engine.{Engine}
use Rattle.psac_engine.specs.Engine.{grid_in, kept_in, world_in}
use Rattle.psac_engine.specs.Held.{AreNamed, HandlesGo, nothing_dropped}
use Rattle.psac_session.specs.declared.desk.Desk.{Desk}
use Rattle.psac_session.specs.Heard.{Adds, Heard, IsNext, Outward, Shows, heard_by, heard_where, is_commit, shown_in}
use Rattle.psac_session.specs.Handles.{AreHeld, state_in}
use Rattle.psac_session.specs.State.{kept_of}
use Rattle.psac_session.specs.Turned.{BrokeOff, IsExpected, TookLine, text_of}
use Rattle.psac_session.proofs.Goes.{state_goes}
use Rattle.psac_session.proofs.Told.{Told}

shown_kept : (w : World) (kept : Option (Ran Name Heap)) → option_map (λ r. outputs_from r.heap 0 w.main.dests) kept
    ≡ option_map (λ k. outputs_from k.heap 0 w.main.dests) (option_map kept_of kept)
shown_kept w None = refl
shown_kept w (Some r) = refl

shown_by : (v w : World) (kept : Option (Ran Name Heap)) → v ≡ w → option_map (λ r. outputs_from r.heap 0 v.main.dests) kept
    ≡ option_map (λ k. outputs_from k.heap 0 w.main.dests) (option_map kept_of kept)
shown_by v w kept same = rw same (shown_kept w kept)

-- what an engine shows is what its state shows
pub shown_is : (w : World) (e : Engine) (d : Desk) (texts : Texts) → world_in e ≡ w → shown_in e ≡ shown_now w (state_in e d texts)
shown_is w e d texts same = shown_by (world_in e) w (kept_in e) same

pub state_same : (e e' : Engine) (d : Desk) (texts : Texts) → kept_in e' ≡ kept_in e → grid_in e' ≡ grid_in e → HandlesGo e e' nothing_dropped → AreNamed e' → AreHeld e d.places.held
    → state_in e' d texts ≡ state_in e d texts
state_same e e' d texts kept grid go are known = state_goes e e' d.batch texts d.places.held kept grid go are known

pub expected_now : (w : World) (step : Step) (s s' : State) (line out : List ℕ) (told : Bool) (course heard : Option Shows) (shown : Option (List Shown))
    → Told w step s s' line out told → shown ≡ shown_now w s' → IsExpected w step s line course heard → told ≡ true → IfSome course (λ all. IsNext all heard shown)
expected_now w step s s' line out told None heard shown is same expected commits = tt
expected_now w step s s' line out told (Some all) None shown is same expected commits = tt
expected_now w step s s' line out told (Some all) (Some seen) shown is same expected commits =
    rw (same, is.state) (expected (sym is.commit ∙ commits))

heard_is : (w : World) (step : Step) (s s' : State) (line out : List ℕ) (told : Bool) (shown : Option (List Shown)) → Told w step s s' line out told → shown ≡ shown_now w s'
    → heard_where told shown ≡ heard_where (is_commit line) (shown_now w (step s (command_of line)).0)
heard_is w step s s' line out told shown is same = rw (same, is.state, is.commit) refl

pub took : (w : World) (step : Step) (s s' s'' : State) (line out : List ℕ) (told : Bool) (shown : Option (List Shown)) (before now : Outward)
    → Told w step s s' line out told → s'' ≡ s' → shown ≡ shown_now w s' → Appended before.0 now.0 out → Heard before.1 now.1 (heard_where told shown)
    → TookLine w step s s'' line before now
took w step s s' s'' line out told shown before now is after same wrote heard = record {
  other = is.other;
  state = after ∙ is.state;
  adds = (rw is.text at wrote, rw (heard_is w step s s' line out told shown is same) at heard);
}

pub broke_off : (w : World) (step : Step) (s s' : State) (line out : List ℕ) (told : Bool) (shown : Option (List Shown)) (before now : Outward)
    → Told w step s s' line out told → shown ≡ shown_now w s' → AppendedPart before.0 now.0 out → Heard before.1 now.1 (heard_where told shown)
    → BrokeOff w step s line before now
broke_off w step s s' line out told shown before now is same wrote heard = record {
  other = is.other;
  written = rw is.text at wrote;
  heard = rw (heard_is w step s s' line out told shown is same) at heard;
}

-- the same at worlds, caps and lines that are equal
pub took_at : (v w : World) (caps most : Caps) (s s' : State) (line text : List ℕ) (before now : Outward) → v ≡ w → caps ≡ most → line ≡ text
    → TookLine v (step_of v caps) s s' line before now → TookLine w (step_of w most) s s' text before now
took_at v w caps most s s' line text before now same_world same_caps same_line is = rw (same_world, same_caps, same_line) at is

pub broke_at : (v w : World) (caps most : Caps) (s : State) (line text : List ℕ) (before now : Outward) → v ≡ w → caps ≡ most → line ≡ text
    → BrokeOff v (step_of v caps) s line before now → BrokeOff w (step_of w most) s text before now
broke_at v w caps most s line text before now same_world same_caps same_line is = rw (same_world, same_caps, same_line) at is

pub expected_at : (v w : World) (caps most : Caps) (s : State) (line text : List ℕ) (course told heard : Option Shows) → v ≡ w → caps ≡ most → line ≡ text → course ≡ told
    → IsExpected w (step_of w most) s text told heard → IsExpected v (step_of v caps) s line course heard
expected_at v w caps most s line text course told heard same_world same_caps same_line same is = rw (same_world, same_caps, same_line, same) is

-- what was written and heard, by the state behind it
pub adds_at : (w : World) (step : Step) (s s' : State) (line : List ℕ) (before now : Outward) → TookLine w step s s' line before now
    → Adds before now (text_of w (step s (command_of line))) (heard_by w (command_of line) s')
adds_at w step s s' line before now took = (took.adds.0, rw took.state took.adds.1)
