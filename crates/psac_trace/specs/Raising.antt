-- What a run needs of the readers of the destinations that it didn't make, and which of them it raises.
use Rattle.std.specs.Prelude.{◌≡◌, ◌≢◌, ◌⊎◌, ℕ, ◌+◌, ◌≤◌, ◌<◌, false, List, [], ◌∷◌, ◌++◌, Some}
use Rattle.psac_ops.specs.declared.plain.Handle.{Handle}
use Rattle.psac_ops.specs.declared.plain.Plain.{Plain}
use Rattle.psac_ops.specs.Named.{value_of}
use Rattle.psac_ops.specs.Words.{words_of}
use Rattle.psac_syntax.specs.declared.program.Stmt.{Stmt}
use Rattle.psac_slots.specs.Handles.{Member, word_of}
use Rattle.psac_slots.specs.Claiming.{times}
use Rattle.psac_values.specs.declared.view.ValueView.{ValueView}
use Rattle.psac_values.specs.Steps.{Lacks}
use Rattle.psac_values.specs.Knowing.{Has, Knows}
use Rattle.psac_readers.specs.declared.view.Stage.TheVariants.{In}
use Rattle.psac_readers.specs.declared.view.LinkView.{LinkView}
use Rattle.psac_readers.specs.declared.view.ReadersView.{ReadersView}
use Rattle.psac_readers.specs.Chained.{mods_of}
use Rattle.psac_marks.specs.declared.view.MarksView.{MarksView}
use Rattle.psac_marks.specs.Passes.{IsBusy}
use Rattle.psac_raise.specs.Raise.{IsSlot, LeadUp, LeadUpIn, with_marks}
use Rattle.psac_fork.specs.declared.tables.Pass.{Pass}
use Rattle.psac_fork.specs.declared.tables.Tables.{Tables}
use Rattle.psac_fork.specs.Whole.{IsOf}
use Rattle.psac_model.specs.Names.{Env}
use Rattle.psac_model.specs.Expression.{Setting}
use Rattle.psac_laws.specs.Standing.{Standing, series}
use Rattle.psac_record.specs.Kept.{Kept, E, A, W, S, P, R}
use Rattle.psac_trace.specs.Rights.{Heap, Sees, Target, Ready}
use Rattle.psac_trace.specs.Asking.{Looked}
use Rattle.psac_trace.specs.Fit.{is_spare}
use Rattle.psac_trace.specs.Told.{Ended, Good, Fault, Other}

-- what a record wrote, in its order
abbrev pub puts : Kept → List (Handle × Plain)
puts E = []
puts (A m rest) = puts rest
puts (W m v rest) = (m, v) ∷ puts rest
puts (S node t rest) = puts t ++ puts rest
puts (P node l r) = puts l ++ puts r
puts (R reading t) = puts t

-- each live reader of the modifiable in the slot is known to be marked
abbrev pub AllBusy : ReadersView → MarksView → ℕ → Type 0
AllBusy r n s = (k : LinkView) (h : Handle) → Member k r.links → k.of ≡ s → k.stage ≡ In → k.node ≡ Some (word_of h) → IsSlot h.slot → IsBusy n h.slot

-- the pass can raise all readers of the modifiable, and knows its words
pub record Raisable (p : Pass) (m : Handle) : Type 0 where
  pub inside : m.slot < p.readers.knows.mods
  pub walk : Member m.slot (mods_of p.readers.knows.walk)
  pub leads : LeadUp p.readers.knows p.marks.knows m.slot
  pub words : (ws : List ℕ) × Knows p.values.knows m ws

-- from one view to another, where these were written
pub record Rewrote (v u : ValueView) (ws : List (Handle × Plain)) : Type 0 where
  -- what isn't written keeps its words
  pub stays : (m : Handle) (us : List ℕ) → Knows v m us → ((x : Plain) → Member (m, x) ws → ⊥) → Knows u m us
  pub owned : (m : Handle) (x : Plain) → Member (m, x) ws → Has u m
  -- words that are known were known before, or they are written, or are of what the pass lacked
  pub learned : (m : Handle) (us : List ℕ) → Knows u m us → Knows v m us ⊎ (((x : Plain) × Member (m, x) ws × (us ≡ words_of x)) ⊎ Lacks v m.slot)

-- none of the old destinations is one that a claim may give
abbrev pub Aged : List Handle → ValueView → Type 0
Aged olds v = (m : Handle) → Member m olds → is_spare v.fixed v.claims.list m.slot ≡ false

-- where a pass is ready for statements, it can raise the readers of each old destination that is to be written
pub record Warns (w : Setting Handle) (olds : List Handle) (body : List Stmt) (env : Env Handle) (p : Pass) : Type 0 where
  pub aged : Aged olds p.values.knows
  pub base : Heap
  pub st : Standing
  pub end : Standing
  pub meets : series body st ≡ Some end
  pub ready : Ready w st end.unwritten env p.values.knows base
  pub may : (m : Handle) → Member m olds → Target st end.unwritten env m → Raisable p m

-- what is marked anew where these were written stands wherever the live readers of all old destinations that got other values lead up
abbrev pub Only : List Handle → Pass → Pass → List (Handle × Plain) → Type 0
Only olds p q ws =
    (ns : List ℕ) → ((m : Handle) (x : Plain) → Member m olds → Member (m, x) ws → (Sees p.values.knows m (value_of x) → ⊥)
    → LeadUpIn p.readers.knows p.marks.knows ns m.slot)
    → (y : ℕ) → times y p.marks.knows.marked < times y q.marks.knows.marked → Member y ns

-- what a run raised that made these writes
pub record Raises (olds : List Handle) (p q : Pass) (ws : List (Handle × Plain)) : Type 0 where
  -- the live readers of each old destination that got other words
  pub warned : (m : Handle) (x : Plain) (us : List ℕ) → Member m olds → Member (m, x) ws → Knows p.values.knows m us → us ≢ words_of x → AllBusy p.readers.knows q.marks.knows m.slot
  -- and no more
  pub only : Only olds p q ws
  -- what isn't written keeps its words
  pub stays : (m : Handle) (us : List ℕ) → Knows p.values.knows m us → ((x : Plain) → Member (m, x) ws → ⊥) → Knows q.values.knows m us
  pub owned : (m : Handle) (x : Plain) → Member (m, x) ws → Has q.values.knows m
  -- and what is written is known
  pub told : (m : Handle) (x : Plain) → Member (m, x) ws → Sees q.values.knows m (value_of x)

-- without old destinations nothing is marked
abbrev pub Calm : List Handle → Pass → Pass → Type 0
Calm olds p q = olds ≡ [] → (y : ℕ) → times y q.marks.knows.marked ≡ times y p.marks.knows.marked

-- where a run stopped its record is thrown away, and no more is said of the readers of what it wrote
abbrev pub RaisesBy : List Handle → Pass → Pass → Ended Kept → Type 0
RaisesBy olds p q (Good k) = Raises olds p q (puts k)
RaisesBy olds p q (Fault k i n) = Only olds p q (puts k)
RaisesBy olds p q (Other k why) = Calm olds p q

-- the old destinations of a side that runs after another one on its pass
abbrev pub olds_after : List Handle → Ended Kept → List Handle
olds_after olds (Good k) = olds
olds_after olds e = []

-- from one pass to another, before these words are written: at an old destination that has others the readers are raised
pub record Roused (t : Tables) (olds : List Handle) (m : Handle) (ws : List ℕ) (p q : Pass) : Type 0 where
  pub of : IsOf q t
  pub looked : Looked p.values.knows q.values.knows
  -- one look at most, at the words that it has
  pub looks : (n : ℕ) × (n ≤ 1) × (q.values.knows.looks ≡ p.values.knows.looks + n)
  pub claims : q.readers.knows.claims ≡ p.readers.knows.claims
  pub mods : q.readers.knows.mods ≡ p.readers.knows.mods
  pub walk : mods_of q.readers.knows.walk ≡ mods_of p.readers.knows.walk
  pub shared : q.readers.knows.shared ≡ p.readers.knows.shared
  pub links : q.readers.knows.links ≡ p.readers.knows.links
  pub marks : (xs : List ℕ) × (ys : List ℕ) × (q.marks.knows ≡ with_marks xs ys p.marks.knows)
  pub warned : (us : List ℕ) → Member m olds → Knows p.values.knows m us → us ≢ ws → AllBusy p.readers.knows q.marks.knows m.slot
  -- and no more, where neither these words nor their value are known
  pub only : (ns : List ℕ) → (Member m olds → (Knows p.values.knows m ws → ⊥)
      → ((x : Plain) → ws ≡ words_of x → Sees p.values.knows m (value_of x) → ⊥)
      → LeadUpIn p.readers.knows p.marks.knows ns m.slot)
      → (y : ℕ) → times y p.marks.knows.marked < times y q.marks.knows.marked → Member y ns
