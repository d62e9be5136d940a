-- Which modifiable a handle is of, what is told of it, and what becomes of it in a commit.
use Rattle.std.specs.Prelude.{◌≡◌, ℕ, suc, ◌≤◌, Bool, true, false, List, [], ◌++◌, Option, Some, None, Result, Ok, Err, option_and_then}
use Rattle.psac_ops.specs.declared.plain.Handle.{Handle}
use Rattle.psac_ops.specs.Value.{Value}
use Rattle.psac_ops.specs.Named.{value_of}
use Rattle.psac_slots.specs.Handles.{Member}
use Rattle.psac_slots.specs.declared.view.ClaimView.{ClaimView}
use Rattle.psac_values.specs.Steps.{made_handle}
use Rattle.psac_fork.specs.declared.tables.Pass.{Pass}
use Rattle.psac_inputs.specs.Grid.{Grid}
use Rattle.psac_model.specs.declared.ends.Mode.{Mode}
use Rattle.psac_model.specs.declared.ends.Mode.TheVariants.{Repair, Anew}
use Rattle.psac_model.specs.declared.ends.Work.{Work}
use Rattle.psac_model.specs.Names.{Path, Name, Input, Out, Rows, Made, Heap, held}
use Rattle.psac_model.specs.Run.{Ran}
use Rattle.psac_model.specs.Fresh.{grid_heap}
use Rattle.psac_model.specs.Redo.{redo, is_inside}
use Rattle.psac_naming.specs.Alike.{Alike, Both}
use Rattle.psac_naming.specs.Naming.{Naming, IsNamed}
use Rattle.psac_traced.specs.Places.{names}
use Rattle.psac_record.specs.declared.record.Record.{Record}
use Rattle.psac_record.specs.Shown.{rec_of}
use Rattle.psac_stage.specs.Places.{opening}
use Rattle.psac_engine.specs.declared.answer.Answer.{Answer}
use Rattle.psac_engine.specs.declared.engine.Engine.{Engine}
use Rattle.psac_engine.specs.declared.held.Held.{Held}
use Rattle.psac_engine.specs.declared.held.Held.TheVariants.{Value as Told, Unwritten}
use Rattle.psac_engine.specs.Engine.{grid_in, kept_in, world_in}
use Rattle.psac_engine.specs.Repaired.{Stands}

-- what the record that is kept made, by paths
abbrev pub made_names : Option Record → Naming Handle
made_names None = []
made_names (Some r) = names [] (rec_of r)

-- the inputs and outputs with their names, and beside them what was made
abbrev pub names_in : Engine → Naming Handle
names_in e = opening e.grid (world_in e).main.dests ++ made_names e.kept

-- the handle is of the modifiable of this name
abbrev pub Names : Engine → Handle → Name → Type 0
Names e m n = IsNamed (names_in e) m n

-- the value of a name: an input's is the grid's, and each other one's is that of the run that is kept
abbrev pub value_named : Grid → Option (Ran Name Heap) → Name → Option (Value Name)
value_named g kept (Input r c) = held (grid_heap g) (Input r c)
value_named g kept Rows = held (grid_heap g) Rows
value_named g kept n = option_and_then (λ r. held r.heap n) kept

-- what is told of the modifiable of this name
abbrev pub Tells : Engine → Name → Held → Type 0
Tells e n (Told x) = Both (Alike (Names e)) (Some (value_of x)) (value_named (grid_in e) (kept_in e) n)
Tells e (Out i) Unwritten = kept_in e ≡ None
Tells e n _ = ⊥

-- of the slots of a table this one is in a generation that isn't below this one
pub record Since (c : ClaimView) (slot age : ℕ) : Type 0 where
  pub now : Handle
  pub stands : Stands c now
  pub same : now.slot ≡ slot
  pub late : age ≤ now.generation

-- a made slot that is in a later generation than the handle: it is of no modifiable
pub record IsOutlived (e : Engine) (m : Handle) : Type 0 where
  pub pass : Pass
  pub had : e.pass ≡ Some pass
  pub of : Handle
  pub made : made_handle pass.values.knows.fixed of ≡ m
  pub later : Since pass.values.knows.claims of.slot (suc of.generation)

-- each slot that a table has it has still, in the same generation or a later one
abbrev pub Rises : ClaimView → ClaimView → Type 0
Rises c d = (h : Handle) → Stands c h → Since d h.slot h.generation

-- and what was out is in a later one
abbrev pub Renews : ClaimView → ClaimView → Type 0
Renews c d = (h : Handle) → Member h c.held → Since d h.slot (suc h.generation)

-- no record is kept of a repair
abbrev pub IsAnew : {X E : Type 0} → Result (Work × X) E → Type 0
IsAnew (Ok kept) = kept.0.mode ≡ Anew
IsAnew (Err e) = Unit {0}

-- what becomes of the generations of a table
pub record Ages {X E : Type 0} (c d : ClaimView) (told : Result (Work × X) E) : Type 0 where
  pub rises : Rises c d
  pub renews : IsAnew told → Renews c d

-- whether a commit drops what was made at a path. It drops all of it, or where it repairs what stood inside the blocks that
-- ran again
abbrev pub drops_in : Mode → List Path → Path → Bool
drops_in Repair zs p = is_inside zs p
drops_in Anew zs p = true

abbrev pub drops : Option (Ran Name Heap) → Option (Ran Name Heap) → Result Work Answer → Path → Bool
drops (Some old) (Some new) (Ok work) p = drops_in work.mode (redo old.tree new.tree) p
drops old new told p = true

-- a handle of what was made at a path afterwards
abbrev pub GoesOn : Bool → Engine → Handle → Path → Type 0
GoesOn true f m p = IsOutlived f m
GoesOn false f m p = Names f m (Made p)

abbrev pub is_made : Name → Bool
is_made (Made p) = true
is_made n = false

-- handles of inputs and outputs stay so. One of what was made is outlived, or is of the same name still; and one that is
-- outlived stays so
pub record HandlesGo (e f : Engine) (drop : Path → Bool) : Type 0 where
  pub fixed : (m : Handle) (n : Name) → is_made n ≡ false → Names e m n → Names f m n
  pub made : (m : Handle) (p : Path) → Names e m (Made p) → GoesOn (drop p) f m p
  pub outlived : (m : Handle) → IsOutlived e m → IsOutlived f m

abbrev pub nothing_dropped : Path → Bool
nothing_dropped p = false

-- a handle is of one modifiable at most, and one that is outlived is of none
pub record AreNamed (e : Engine) : Type 0 where
  pub one : (m : Handle) (n k : Name) → Names e m n → Names e m k → n ≡ k
  pub none : (m : Handle) (n : Name) → IsOutlived e m → Names e m n → ⊥
