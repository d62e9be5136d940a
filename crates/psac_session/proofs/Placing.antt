-- What places are made to hold, and what is told of it, is the definition's step.
use Rattle.std.proofs.Common.{◌≡◌, ◌∙◌, ℕ, nat_lt, Bool, true, false, List, Option, Some, None, Result, Ok, Err, refl, sym, ap, subst, length}
use Rattle.std.specs.Prelude.{slice_set}
use Rattle.psac_ops.specs.declared.plain.Handle.{Handle}
use Rattle.psac_ops.specs.declared.plain.Plain.{Plain}
use Rattle.psac_ops.specs.Table.{◌>>=◌}
use Rattle.psac_ops.specs.Value.{Value, nil, bool, int, text, ref, pair}
use Rattle.psac_ops.specs.Named.{value_of}
use Rattle.psac_inputs.specs.Batch.{Batch}
use Rattle.psac_inputs.specs.Texts.{Texts}
use Rattle.psac_model.specs.Names.{Name, Out}
use Rattle.psac_model.specs.Fresh.{World}
use Rattle.psac_model.specs.Outputs.{shown_of}
use Rattle.psac_naming.specs.Alike.{Alike}
use Rattle.psac_naming.specs.Naming.{Naming, IsNamed}
use Rattle.psac_report.specs.Session.{Reply, State, Nothing, Holds, RefusedKind, RefusedRange, held_told, held_reply, hold_by, hold_out, hold_told, place_count, value_at, with_place}
use Rattle.psac_script.specs.declared.reply.Reply.{Reply as Answer}
use Rattle.psac_script.specs.Replies.{reply_view}
use Rattle.psac_engine.specs.declared.engine.Engine.{Engine}
use Rattle.psac_engine.specs.Engine.{grid_in, kept_in}
use Rattle.psac_engine.specs.Held.{AreNamed, HandlesGo, Names, names_in, nothing_dropped}
use Rattle.psac_session.specs.declared.hold.Part.{Part}
use Rattle.psac_session.specs.Read.{IsPart, IsRead, handle_of, name_of}
use Rattle.psac_session.specs.Handles.{AreHeld, state_of}
use Rattle.psac_session.proofs.Goes.{held_put, names_stay, state_goes, state_put}
use Rattle.psac_session.proofs.Reading.{part_is}

shown_alike : (T : Handle → Name → Type 0) (x : Value Handle) (v : Value Name) → Alike T x v → shown_of x ≡ shown_of v
shown_alike T nil nil alike = refl
shown_alike T (bool b) (bool c) alike = rw alike refl
shown_alike T (int i) (int j) alike = rw alike refl
shown_alike T (text i k) (text j l) alike = rw (alike.0, alike.1) refl
shown_alike T (ref m) (ref n) alike = refl
shown_alike T (pair g h) (pair m n) alike = refl
shown_alike T _ _ alike = absurd alike

pub value_told : (ns : Naming Handle) (place : ℕ) (x : Plain) (v : Result (Value Name) Reply) → IsRead ns (Ok x) v
    → Holds place (shown_of (value_of x)) ≡ held_told place v
value_told ns place x (Ok v) read = ap (Holds place) (shown_alike (IsNamed ns) (value_of x) v read)
value_told ns place x (Err reply) read = absurd read

pub error_told : (ns : Naming Handle) (place : ℕ) (answer : Answer) (v : Result (Value Name) Reply)
    → IsRead ns (Err answer) v → reply_view answer ≡ held_told place v
error_told ns place answer (Ok v) read = absurd read
error_told ns place answer (Err reply) read = read

pub held_is : (place : ℕ) (b : Bool) (s : State) (reply : Reply) → b ≡ nat_lt place place_count → b ≡ true
    → reply ≡ held_told place (value_at s place) → reply ≡ held_reply place s
held_is place b s reply has there is = rw (sym has ∙ there) is

pub held_refused : (place : ℕ) (b : Bool) (s : State) → b ≡ nat_lt place place_count → b ≡ false
    → RefusedRange ≡ held_reply place s
held_refused place b s has none = rw (sym has ∙ none) refl

kind_by : (part : Part) (n : Option Handle) (ns : Naming Handle) (r : Result Name Reply) → IsPart ns n r → n ≡ None
    → r ≡ Err RefusedKind
kind_by part None ns r is none = is
kind_by part (Some m) ns r is none = absurd (cc)

no_part : (ns : Naming Handle) (part : Part) (x : Plain) (v : Result (Value Name) Reply) → IsRead ns (Ok x) v
    → handle_of part x ≡ None → (v >>= name_of part) ≡ Err RefusedKind
no_part ns part x (Ok v) read none = kind_by part (handle_of part x) ns (name_of part v) (part_is ns part x v read) none
no_part ns part x (Err reply) read none = absurd read

name_by : (ns : Naming Handle) (h : Option Handle) (m : Handle) (r : Result Name Reply) → IsPart ns h r → h ≡ Some m
    → (n : Name) × (r ≡ Ok n) × IsNamed ns m n
name_by ns None m r is some = absurd (cc)
name_by ns (Some h) m (Ok n) is some = let same : h ≡ m = cc in (n, refl, subst (λ g. IsNamed ns g n) same is)
name_by ns (Some h) m (Err reply) is some = absurd is

a_part : (ns : Naming Handle) (part : Part) (x : Plain) (m : Handle) (v : Result (Value Name) Reply)
    → IsRead ns (Ok x) v → handle_of part x ≡ Some m
    → (n : Name) × ((v >>= name_of part) ≡ Ok n) × IsNamed ns m n
a_part ns part x m (Ok v) read some = name_by ns (handle_of part x) m (name_of part v) (part_is ns part x v read) some
a_part ns part x m (Err reply) read some = absurd read

no_value : (ns : Naming Handle) (part : Part) (answer : Answer) (v : Result (Value Name) Reply)
    → IsRead ns (Err answer) v → (v >>= name_of part) ≡ Err (reply_view answer)
no_value ns part answer (Ok v) read = absurd read
no_value ns part answer (Err reply) read = ap Err (sym read)

hold_is : (part : Part) (place source : ℕ) (a b : Bool) (s : State) → a ≡ nat_lt place place_count
    → b ≡ nat_lt source place_count → a ≡ true → b ≡ true
    → hold_by (name_of part) place source s ≡ hold_told place s (value_at s source >>= name_of part)
hold_is part place source a b s has has_source there source_there =
    rw (sym has ∙ there, sym has_source ∙ source_there) refl

pub hold_refused : (part : Part) (place source : ℕ) (a : Bool) (s : State) → a ≡ nat_lt place place_count → a ≡ false
    → hold_by (name_of part) place source s ≡ (s, RefusedRange)
hold_refused part place source a s has none = rw (sym has ∙ none) refl

pub source_refused : (part : Part) (place source : ℕ) (a b : Bool) (s : State) → a ≡ nat_lt place place_count
    → b ≡ nat_lt source place_count → a ≡ true → b ≡ false
    → hold_by (name_of part) place source s ≡ (s, RefusedRange)
source_refused part place source a b s has has_source there none = rw (sym has ∙ there, sym has_source ∙ none) refl

module _ (e f : Engine) (kept : kept_in f ≡ kept_in e) (grid : grid_in f ≡ grid_in e)
    (go : HandlesGo e f nothing_dropped) (are : AreNamed f)
    (held : List (Option Handle)) (known : AreHeld e held) (part : Part) (place source : ℕ) (a d : Bool)
    (has : a ≡ nat_lt place place_count) (has_source : d ≡ nat_lt source place_count) (there : a ≡ true)
    (source_there : d ≡ true) (b : Batch) (texts : Texts) where
  same : state_of f b texts held ≡ state_of e b texts held
  same = state_goes e f b texts held kept grid go are known

  pub part_held : (x : Plain) (m : Handle) → IsRead (names_in e) (Ok x) (value_at (state_of e b texts held) source)
      → handle_of part x ≡ Some m
      → hold_by (name_of part) place source (state_of e b texts held) ≡ (
        state_of f b texts (slice_set held place (Some
            m)),
        Nothing,
      )
  part_held x m read some =
      let s = state_of e b texts held in
      let told = a_part (names_in e) part x m (value_at s source) read some in
      hold_is part place source a d s has has_source there source_there
      ∙ ap (hold_told place s) told.1
      ∙ ap (λ t. (with_place place told.0 t, Nothing)) (sym same)
      ∙ ap (λ t. (t, Nothing)) (state_put f b texts held place m told.0 are (names_stay e f go m told.0 told.2))

  pub kind_refused : (x : Plain) → IsRead (names_in e) (Ok x) (value_at (state_of e b texts held) source)
      → handle_of part x ≡ None
      → hold_by (name_of part) place source (state_of e b texts held) ≡ (state_of f b texts held, RefusedKind)
  kind_refused x read none =
      let s = state_of e b texts held in
      hold_is part place source a d s has has_source there source_there
      ∙ ap (hold_told place s) (no_part (names_in e) part x (value_at s source) read none)
      ∙ ap (λ t. (t, RefusedKind)) (sym same)

  pub source_unread : (answer : Answer) → IsRead (names_in e) (Err answer) (value_at (state_of e b texts held) source)
      → hold_by (name_of part) place source (state_of e b texts held) ≡ (state_of f b texts held, reply_view answer)
  source_unread answer read =
      let s = state_of e b texts held in
      hold_is part place source a d s has has_source there source_there
      ∙ ap (hold_told place s) (no_value (names_in e) part answer (value_at s source) read)
      ∙ ap (λ t. (t, reply_view answer)) (sym same)

  -- and what is held then has a name
  pub part_known : (x : Plain) (m : Handle) → IsRead (names_in e) (Ok x) (value_at (state_of e b texts held) source)
      → handle_of part x ≡ Some m
      → AreHeld f held → AreHeld f (slice_set held place (Some m))
  part_known x m read some now =
      let told = a_part (names_in e) part x m (value_at (state_of e b texts held) source) read some in
      held_put f held place m told.0 (names_stay e f go m told.0 told.2) now

pub out_held : (w : World) (e : Engine) (b : Batch) (texts : Texts) (held : List (Option Handle))
    → (place out : ℕ) (m : Handle) (a d : Bool) → a ≡ nat_lt place place_count
    → d ≡ nat_lt out (length w.main.dests) → a ≡ true → d ≡ true → AreNamed e → Names e m (Out out)
    → hold_out w place out (state_of e b texts held)
    ≡ (state_of e b texts (slice_set held place (Some m)), Nothing)
out_held w e b texts held place out m a d has has_out there out_there are named =
    rw (sym has ∙ there, sym has_out ∙ out_there) (ap (λ t. (t, Nothing)) (state_put e b texts held place m (Out out)
    are named))

-- the state and the reply after what tells of a place
pub held_step : (place : ℕ) (s s' : State) (reply : Reply) → reply ≡ held_reply place s → s' ≡ s
    → ◌≡◌ {A = State × Reply} (s, held_reply place s) (s', reply)
held_step place s s' reply told same = rw (same, told) refl
