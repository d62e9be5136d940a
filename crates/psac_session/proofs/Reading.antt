-- What is read at a place is the definition's value.
use Rattle.std.proofs.Common.{◌≡◌, ◌∙◌, ℕ, Bool, true, false, if◌then◌else◌, List, [], ◌∷◌, Option, Some, None, Result, Ok, Err, refl, sym, ap, subst}
use Rattle.std.specs.Prelude.{option_map, option_and_then, slice_get}
use Rattle.std.proofs.lemmas.Option.{slice_get-map}
use Rattle.psac_ops.specs.declared.plain.Handle.{Handle}
use Rattle.psac_ops.specs.declared.plain.Plain.{Plain}
use Rattle.psac_ops.specs.declared.plain.Plain.TheVariants as plain
use Rattle.psac_ops.specs.Value.{Value, nil, bool, int, text, ref, pair}
use Rattle.psac_ops.specs.Named.{value_of}
use Rattle.psac_inputs.specs.Grid.{Grid}
use Rattle.psac_inputs.specs.Batch.{Batch}
use Rattle.psac_inputs.specs.Texts.{Texts}
use Rattle.psac_model.specs.Names.{Name, Input, Out, Rows, Made, Heap, held, same_name}
use Rattle.psac_model.specs.Fresh.{grid_heap}
use Rattle.psac_model.specs.Run.{Ran}
use Rattle.psac_naming.specs.Alike.{Alike, Both}
use Rattle.psac_naming.specs.Naming.{Naming, IsNamed}
use Rattle.psac_report.specs.Session.{State, value_at, value_in, value_of_place, value_or_none}
use Rattle.psac_script.specs.declared.reply.Reply.{Reply as Answer}
use Rattle.psac_script.specs.declared.reply.Reply.TheVariants as answer
use Rattle.psac_naming.proofs.Names.{name_is}
use Rattle.psac_stage.proofs.Entries.{AllIn, all_inputs}
use Rattle.psac_engine.specs.declared.engine.Engine.{Engine}
use Rattle.psac_engine.specs.declared.held.Held.{Held}
use Rattle.psac_engine.specs.declared.held.Held.TheVariants as told
use Rattle.psac_engine.specs.Engine.{grid_in, kept_in}
use Rattle.psac_engine.specs.Held.{Names, Tells, names_in}
use Rattle.psac_session.specs.Holding.{name_among, place_of, place_among}
use Rattle.psac_session.specs.Read.{IsPart, IsRead, handle_of, name_of}
use Rattle.psac_session.specs.declared.hold.Part.{Part}
use Rattle.psac_session.specs.declared.hold.Part.TheVariants.{Referred, First, Second}
use Rattle.psac_session.specs.Handles.{state_of}
use Rattle.psac_session.specs.State.{kept_of}
use Rattle.psac_session.proofs.Holding.{found, unfound}

-- what is answered to what an engine tells
abbrev pub read_of : Held → Result Plain Answer
read_of (told.Value x) = Ok x
read_of told.Stale = Err answer.Stale
read_of told.Unwritten = Err answer.NoRecord

-- what the heap of inputs has of a name
held_input : (Q : Name → Value Name → Type 0) (heap : Heap) → AllIn Q heap → (n : Name) (y : Value Name)
    → held heap n ≡ Some y → Q n y
held_input Q [] all n y is = absurd (cc)
held_input Q (p ∷ heap) all n y is = held_at Q p heap all n y (held_input Q heap all.1 n y) (same_name p.0 n) refl is
  where
    held_at : (Q : Name → Value Name → Type 0) (p : Name × Value Name) (heap : Heap) → AllIn Q (p ∷ heap)
        → (n : Name) (y : Value Name) → (held heap n ≡ Some y → Q n y)
        → (b : Bool) → same_name p.0 n ≡ b → (if b then Some p.1 else held heap n) ≡ Some y → Q n y
    held_at Q p heap all n y rest true same is =
        let value : p.1 ≡ y = cc in
        subst (λ m. Q m y) (name_is p.0 n same) (subst (Q p.0) value all.0)
    held_at Q p heap all n y rest false same is = rest is

-- is what the grid has
input_value : (s : State) (g : Grid) → s.grid ≡ g → (n : Name) (y : Value Name) → held (grid_heap g) n ≡ Some y
    → value_in s n ≡ Some y
input_value s g grid n y is =
    held_input (λ m v. value_in s m ≡ Some v) (grid_heap g)
    (all_inputs (λ m v. value_in s m ≡ Some v) g (rw grid refl) (λ r c x cell_is. rw (grid, cell_is) refl)) n y is

run_value : (s : State) (kept : Option (Ran Name Heap)) (n : Name) → s.kept ≡ option_map kept_of kept
    → option_and_then (λ k. held k.heap n) s.kept ≡ option_and_then (λ r. held r.heap n) kept
run_value s None n is = rw is refl
run_value s (Some r) n is = rw is refl

value_read : (ns : Naming Handle) (x : Plain) (v : Option (Value Name))
    → Both (Alike (IsNamed ns)) (Some (value_of x)) v → IsRead ns (Ok x) (value_or_none v)
value_read ns x (Some v) alike = alike
value_read ns x None alike = absurd alike

none_read : (ns : Naming Handle) (v : Option (Value Name)) → v ≡ None
    → IsRead ns (Err answer.NoRecord) (value_or_none v)
none_read ns (Some v) none = absurd (cc)
none_read ns None none = refl

input_read : (ns : Naming Handle) (s : State) (g : Grid) (n : Name) (x : Plain) (v : Option (Value Name)) → s.grid ≡ g
    → held (grid_heap g) n ≡ v
    → Both (Alike (IsNamed ns)) (Some (value_of x)) v → IsRead ns (Ok x) (value_or_none (value_in s n))
input_read ns s g n x (Some y) grid is alike = rw (input_value s g grid n y is) alike
input_read ns s g n x None grid is alike = absurd alike

run_read : (ns : Naming Handle) (x : Plain) (v w : Option (Value Name)) → w ≡ v
    → Both (Alike (IsNamed ns)) (Some (value_of x)) v → IsRead ns (Ok x) (value_or_none w)
run_read ns x v w same alike = rw same (value_read ns x v alike)

named_read : (e : Engine) (s : State) (n : Name) (t : Held) → s.grid ≡ grid_in e
    → s.kept ≡ option_map kept_of (kept_in e) → Tells e n t
    → IsRead (names_in e) (read_of t) (value_or_none (value_in s n))
named_read e s (Input r c) (told.Value x) grid kept tells =
    input_read (names_in e) s (grid_in e) (Input r c) x (held (grid_heap (grid_in e)) (Input r c)) grid refl tells
named_read e s Rows (told.Value x) grid kept tells =
    input_read (names_in e) s (grid_in e) Rows x (held (grid_heap (grid_in e)) Rows) grid refl tells
named_read e s (Out i) (told.Value x) grid kept tells =
    run_read (names_in e) x _ _ (run_value s (kept_in e) (Out i) kept) tells
named_read e s (Made p) (told.Value x) grid kept tells =
    run_read (names_in e) x _ _ (run_value s (kept_in e) (Made p) kept) tells
named_read e s (Out i) told.Unwritten grid kept tells =
    none_read (names_in e) (value_in s (Out i)) (run_value s (kept_in e) (Out i) kept ∙ ap (option_and_then (λ r. held
    r.heap (Out i))) tells)
named_read e s (Input r c) told.Unwritten grid kept tells = absurd tells
named_read e s Rows told.Unwritten grid kept tells = absurd tells
named_read e s (Made p) told.Unwritten grid kept tells = absurd tells
named_read e s (Input r c) told.Stale grid kept tells = absurd tells
named_read e s Rows told.Stale grid kept tells = absurd tells
named_read e s (Out i) told.Stale grid kept tells = absurd tells
named_read e s (Made p) told.Stale grid kept tells = absurd tells

module _ (e : Engine) (b : Batch) (texts : Texts) (handles : List (Option Handle)) where
  place_read : (m : Handle) (x : Option Name) (t : Held) → name_among (names_in e) m ≡ x
      → ((n : Name) → Names e m n → Tells e n t) → (((n : Name) → Names e m n → ⊥) → t ≡ told.Stale)
      → IsRead (names_in e) (read_of t) (value_of_place (state_of e b texts handles) (Some (place_of x)))
  place_read m None t is named stale = rw (stale (λ n has. unfound (names_in e) m n is has)) refl
  place_read m (Some n) t is named stale =
      named_read e (state_of e b texts handles) n t refl refl (named n (found (names_in e) m n is))

  value_place : (place : ℕ) (x : Option Handle) → slice_get handles place ≡ Some x
      → value_at (state_of e b texts handles) place ≡ value_of_place (state_of e b texts handles) (option_map
      (place_among (names_in e)) x)
  value_place place x is =
      ap (λ p. value_of_place (state_of e b texts handles) (option_and_then (λ q. q) p))
      (slice_get-map (option_map (place_among (names_in e))) handles place ∙ ap (option_map (option_map (place_among
      (names_in e)))) is)

  -- nothing is held at the place
  pub empty_read : (place : ℕ) → slice_get handles place ≡ Some None
      → IsRead (names_in e) (Err answer.RefusedEmpty) (value_at (state_of e b texts handles) place)
  empty_read place is = rw (value_place place None is) refl

  -- the engine tells of the handle that is held at the place
  pub handle_read : (place : ℕ) (m : Handle) (t : Held) → slice_get handles place ≡ Some (Some m)
      → ((n : Name) → Names e m n → Tells e n t) → (((n : Name) → Names e m n → ⊥) → t ≡ told.Stale)
      → IsRead (names_in e) (read_of t) (value_at (state_of e b texts handles) place)
  handle_read place m t is named stale =
      subst (IsRead (names_in e) (read_of t)) (sym (value_place place (Some m) is)) (place_read m (name_among (names_in
      e) m) t refl named stale)

-- the modifiable that the value names
pub part_is : (ns : Naming Handle) (part : Part) (x : Plain) (v : Value Name) → Alike (IsNamed ns) (value_of x) v
    → IsPart ns (handle_of part x) (name_of part v)
part_is ns Referred plain.Nil nil alike = refl
part_is ns Referred (plain.Bool b) (bool c) alike = refl
part_is ns Referred (plain.Int i) (int j) alike = refl
part_is ns Referred (plain.Text t) (text id len) alike = refl
part_is ns Referred (plain.Ref h) (ref n) alike = alike
part_is ns Referred (plain.Pair g h) (pair m n) alike = refl
part_is ns First plain.Nil nil alike = refl
part_is ns First (plain.Bool b) (bool c) alike = refl
part_is ns First (plain.Int i) (int j) alike = refl
part_is ns First (plain.Text t) (text id len) alike = refl
part_is ns First (plain.Ref h) (ref n) alike = refl
part_is ns First (plain.Pair g h) (pair m n) alike = alike.0
part_is ns Second plain.Nil nil alike = refl
part_is ns Second (plain.Bool b) (bool c) alike = refl
part_is ns Second (plain.Int i) (int j) alike = refl
part_is ns Second (plain.Text t) (text id len) alike = refl
part_is ns Second (plain.Ref h) (ref n) alike = refl
part_is ns Second (plain.Pair g h) (pair m n) alike = alike.1
part_is ns part _ _ alike = absurd alike
