-- Who alone may touch which slot, what several passes know, and how both are divided and united.
use Rattle.std.specs.Prelude.{◌≡◌, ◌≢◌, ℕ, ◌<◌, List, [], ◌∷◌, ◌++◌, map, filter, length, Bool, true, false, not, ◌&&◌, ltb}
use mathlib.Core.Option.{some}
use lib.ListN.{get_elem?}
use Rattle.psac_slots.specs.Branches.{is_prefix, stem}
use Rattle.psac_slots.specs.Handles.{Member}

-- how what one pass alone has (W) is lent to both sides of a fork (E), with the branch as its label, and comes back
pub record Ways (W E : Type 0) : Type 0 where
  pub slot : W → ℕ
  pub of : E → ℕ
  pub label : E → List Bool
  pub lend : List Bool → W → E
  pub back : E → W
  pub lent_of : (b : List Bool) (w : W) → of (lend b w) ≡ slot w
  pub lent_label : (b : List Bool) (w : W) → label (lend b w) ≡ b
  pub back_slot : (e : E) → slot (back e) ≡ of e

pub record Rights (W E : Type 0) : Type 0 where
  pub live : Bool
  pub branch : List Bool
  -- what no other pass touches
  pub alone : List W
  -- what others know too
  pub shared : List E

module _ {W E : Type 0} (k : Ways W E) where
  pub record Own (r : Rights W E) : Type 0 where
    -- a label is a proper prefix of the branch
    pub labels : (e : E) → Member e r.shared → (is_prefix (k.label e) r.branch ≡ true) × (length (k.label e) < length r.branch)
    pub single : (w x : W) → Member w r.alone → Member x r.alone → k.slot w ≡ k.slot x → w ≡ x
    pub one : (e f : E) → Member e r.shared → Member f r.shared → k.of e ≡ k.of f → e ≡ f
    pub apart : (w : W) → Member w r.alone → (e : E) → Member e r.shared → k.of e ≢ k.slot w
    pub awake : (e : E) → Member e r.shared → r.live ≡ true
    pub rises : (w : W) → Member w r.alone → r.live ≡ true

  pub record Beside (r s : Rights W E) : Type 0 where
    pub alone : (w x : W) → Member w r.alone → Member x s.alone → k.slot w ≢ k.slot x
    pub apart : (w : W) → Member w r.alone → (e : E) → Member e s.shared → k.of e ≢ k.slot w
    pub one : (e f : E) → Member e r.shared → Member f s.shared → k.of e ≡ k.of f → e ≡ f
    -- each live pass below the label has it
    pub below : (e : E) → Member e r.shared → s.live ≡ true → is_prefix (k.label e) s.branch ≡ true → Member e s.shared

  pub record Divided (all : List (Rights W E)) : Type 0 where
    pub own : (i : ℕ) (r : Rights W E) → get_elem? all i ≡ some r → Own r
    pub beside : (i j : ℕ) (r s : Rights W E) → get_elem? all i ≡ some r → get_elem? all j ≡ some s → i ≢ j → Beside r s

  module _ (shared to_right : ℕ → Bool) where
    abbrev pub stays : W → Bool
    stays w = not (shared (k.slot w)) && not (to_right (k.slot w))

    abbrev pub goes : W → Bool
    goes w = not (shared (k.slot w)) && to_right (k.slot w)

    abbrev pub lends : W → Bool
    lends w = shared (k.slot w)

    abbrev pub told : Rights W E → List E
    told r = r.shared ++ map (k.lend r.branch) (filter lends r.alone)

    abbrev pub left_rights : Rights W E → Rights W E
    left_rights r = record { live = r.live; branch = r.branch ++ false ∷ []; alone = filter stays r.alone; shared = told r }

    abbrev pub right_rights : Rights W E → Rights W E
    right_rights r = record { live = r.live; branch = r.branch ++ true ∷ []; alone = filter goes r.alone; shared = told r }

  -- the label is above the branch that a join gives
  abbrev pub above : List Bool → E → Bool
  above b e = ltb (length (k.label e)) (length b)

  abbrev pub comes_back : List Bool → E → Bool
  comes_back b e = not (above b e)

  abbrev pub united : Rights W E → Rights W E → Rights W E
  united r s = record {
    live = r.live;
    branch = stem r.branch;
    alone = (r.alone ++ s.alone) ++ map k.back (filter (comes_back (stem r.branch)) r.shared);
    shared = filter (above (stem r.branch)) r.shared;
  }

  -- of two passes that are joined: what one of them has alone the other lacks, and what the right one shares the left one shares
  pub record Met (lefts rights : List W) (left_told right_told : List E) : Type 0 where
    pub alone : (w x : W) → Member w lefts → Member x rights → k.slot w ≢ k.slot x
    pub left : (w : W) (e : E) → Member w lefts → Member e right_told → k.of e ≢ k.slot w
    pub right : (w : W) (e : E) → Member w rights → Member e left_told → k.of e ≢ k.slot w
    pub same : (e : E) → Member e right_told → Member e left_told

abbrev pub no_rights : {W E : Type 0} → Rights W E
no_rights = record { live = false; branch = []; alone = []; shared = [] }
