-- What an engine says of its handles, as the places of a session need it.
use Rattle.std.proofs.Common.{◌≡◌, ◌∙◌, ℕ, Bool, true, false, List, Option, Some, refl, ap, subst, map, option_map}
use Rattle.std.specs.Prelude.{slice_set}
use Rattle.std.proofs.lemmas.List.{map-set}
use Rattle.psac_ops.specs.declared.plain.Handle.{Handle}
use Rattle.psac_inputs.specs.Batch.{Batch, empty_batch}
use Rattle.psac_inputs.specs.Texts.{Texts}
use Rattle.psac_model.specs.Names.{Path, Name, Input, Out, Rows, Made}
use Rattle.psac_report.specs.Session.{Holding, gone_stale, with_place}
use Rattle.psac_engine.specs.declared.engine.Engine.{Engine}
use Rattle.psac_engine.specs.Engine.{grid_in, kept_in}
use Rattle.psac_engine.specs.Held.{AreNamed, GoesOn, HandlesGo, IsOutlived, Names, names_in, nothing_dropped}
use Rattle.psac_session.specs.Holding.{name_among, none_held, place_of, place_among, places_among, made_where}
use Rattle.psac_session.specs.declared.desk.Desk.{Desk}
use Rattle.psac_session.specs.Handles.{AreHeld, state_in, state_of}
use Rattle.psac_session.specs.State.{no_places, opening, state_at}
use Rattle.psac_session.proofs.Holding.{Goes, begins_known, found, no_places_held, name_is, no_name, places_go, places_stay, all_known, known_put, named_known}

-- a name that a handle has is the one that is found
pub name_told : (e : Engine) → AreNamed e → (m : Handle) (n : Name) → Names e m n → name_among (names_in e) m ≡ Some n
name_told e are m n named = name_is (names_in e) m n (λ k is. are.one m k n is named) named

module _ (e f : Engine) (drop : Path → Bool) (go : HandlesGo e f drop) where
  stays : (m : Handle) (n : Name) → Names e m n → made_where drop n ≡ false → Names f m n
  stays m (Input r c) named lost = go.fixed m (Input r c) refl named
  stays m (Out i) named lost = go.fixed m (Out i) refl named
  stays m Rows named lost = go.fixed m Rows refl named
  stays m (Made p) named lost = subst (λ b. GoesOn b f m p) lost (go.made m p named)

  ends : (m : Handle) (n : Name) → Names e m n → made_where drop n ≡ true → IsOutlived f m
  ends m (Input r c) named lost = absurd (cc)
  ends m (Out i) named lost = absurd (cc)
  ends m Rows named lost = absurd (cc)
  ends m (Made p) named lost = subst (λ b. GoesOn b f m p) lost (go.made m p named)

  module _ (are : AreNamed f) where
    goes : Goes (names_in e) (names_in f) (IsOutlived e) (IsOutlived f) (made_where drop)
    goes = record {
      kept = λ m n is lost. name_told f are m n (stays m n (found (names_in e) m n is) lost);
      gone = λ m n is lost. ends m n (found (names_in e) m n is) lost;
      outlived = go.outlived;
      unnamed = λ m out. no_name (names_in f) m (λ n named. are.none m n out named);
    }

    pub held_go : (held : List (Option Handle)) → AreHeld e held → AreHeld f held
    held_go held known =
        (are, all_known (names_in e) (names_in f) (IsOutlived e) (IsOutlived f) (made_where drop) goes held known.1)

    -- what is dropped is stale at each place
    pub places_lost : (held : List (Option Handle)) → AreHeld e held
        → places_among (names_in f) held ≡ map (option_map (gone_stale (made_where drop))) (places_among (names_in e)
        held)
    places_lost held known =
        places_go (names_in e) (names_in f) (IsOutlived e) (IsOutlived f) (made_where drop) goes held known.1

none_lost : (n : Name) → made_where nothing_dropped n ≡ false
none_lost (Input r c) = refl
none_lost (Out i) = refl
none_lost Rows = refl
none_lost (Made p) = refl

-- where no handle is dropped each keeps its name
pub names_stay : (e f : Engine) → HandlesGo e f nothing_dropped → (m : Handle) (n : Name) → Names e m n → Names f m n
names_stay e f go m n named = stays e f nothing_dropped go m n named (none_lost n)

-- and the places are what they were
pub places_same : (e f : Engine) → HandlesGo e f nothing_dropped → AreNamed f → (held : List (Option Handle))
    → AreHeld e held → places_among (names_in f) held ≡ places_among (names_in e) held
places_same e f go are held known =
    places_lost e f nothing_dropped go are held known ∙ places_stay (made_where nothing_dropped) none_lost
    (places_among (names_in e) held)

-- and so is the state
pub state_goes : (e f : Engine) (b : Batch) (texts : Texts) (held : List (Option Handle)) → kept_in f ≡ kept_in e
    → grid_in f ≡ grid_in e → HandlesGo e f nothing_dropped → AreNamed f → AreHeld e held
    → state_of f b texts held ≡ state_of e b texts held
state_goes e f b texts held kept grid go are known = rw (places_same e f go are held known, kept, grid) refl

-- a place that holds the handle of a name holds that name
pub state_put : (e : Engine) (b : Batch) (texts : Texts) (held : List (Option Handle)) (i : ℕ) (m : Handle) (n : Name)
    → AreNamed e → Names e m n
    → with_place i n (state_of e b texts held) ≡ state_of e b texts (slice_set held i (Some m))
state_put e b texts held i m n are named =
    let there : place_among (names_in e) m ≡ Holding n = ap place_of (name_told e are m n named) in
    rw (map-set (option_map (place_among (names_in e))) held i (Some m), there) refl

pub held_put : (e : Engine) (held : List (Option Handle)) (i : ℕ) (m : Handle) (n : Name) → Names e m n → AreHeld e held
    → AreHeld e (slice_set held i (Some m))
held_put e held i m n named known = (
  known.0,
  known_put (names_in e) (IsOutlived e) held i (Some m) known.1 (named_known (names_in e) (IsOutlived e) m n (name_told
      e known.0 m n named)),
)

-- no handle is held
pub state_begins : (e : Engine) (d : Desk) (texts : Texts) → d.batch ≡ empty_batch (grid_in e)
    → d.places.held ≡ none_held → state_in e d texts ≡ opening e texts
unfolding no_places
state_begins e d texts empty none =
    rw (empty, none) (ap (state_at e (empty_batch (grid_in e)) texts) (no_places_held (names_in e)))

pub held_begins : (e : Engine) (held : List (Option Handle)) → AreNamed e → held ≡ none_held → AreHeld e held
held_begins e held are none = rw none (are, begins_known (names_in e) (IsOutlived e))
