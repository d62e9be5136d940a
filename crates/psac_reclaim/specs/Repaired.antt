-- What a repair leaves of a pass, by every weight: what was there, what is gone, and what was made in its place. And what that is
-- worth where the pass regains its tables, and where what is gone is given back.
use Rattle.std.specs.Prelude.{◌≡◌, ℕ, ◌+◌, ◌<◌, ◌≤◌, List, map, Some, sum_by}
use Rattle.psac_ops.specs.declared.plain.Handle.{Handle}
use Rattle.psac_slots.specs.Handles.{Member, slot_times}
use Rattle.psac_slots.specs.Claiming.{Accounted, times}
use Rattle.psac_values.specs.declared.view.ValueView.{ValueView}
use Rattle.psac_values.specs.Steps as values
use Rattle.psac_readers.specs.declared.view.Stage.TheVariants.{In, Dead}
use Rattle.psac_readers.specs.declared.view.LinkView.{LinkView}
use Rattle.psac_readers.specs.declared.view.ReadersView.{ReadersView}
use Rattle.psac_readers.specs.Chained.{mods_of}
use Rattle.psac_readers.specs.Steps as readers
use Rattle.psac_marks.specs.declared.view.OwnView.{OwnView}
use Rattle.psac_marks.specs.declared.view.MarksView.{MarksView}
use Rattle.psac_marks.specs.Passes.{IsKept}
use Rattle.psac_marks.specs.Steps as marks
use Rattle.psac_record.specs.Kept.{Stands}
use Rattle.psac_reclaim.specs.Parts.{Outside}
use Rattle.psac_reclaim.specs.Gave.{out_of}
use Rattle.psac_reclaim.specs.Owed.{entered, ValuesOwed, ReadersOwed, MarksOwed, ValuesLeft, MarksLeft}

-- the new list has what the old one had, but for what is gone, and what was made
abbrev pub Traded : {X : Type 0} → (old new gone made : List X) → Type 0
Traded {X} old new gone made = (g : X → ℕ) → sum_by g new + sum_by g gone ≡ sum_by g old + sum_by g made

-- of modifiables: the record's were out before, and what was made is out beside them
pub record ValuesTraded (old new gone made : List Handle) (v u : ValueView) : Type 0 where
  pub traded : Traded old new gone made
  pub before : (g : Handle → ℕ) → sum_by g (out_of v) ≡ sum_by g old
  pub out : (g : Handle → ℕ) → sum_by g (out_of u) ≡ sum_by g (out_of v) + sum_by g made
  pub young : (h : Handle) → Member h u.claims.held → h.generation < 4294967295

-- of links: those that are gone were left, and others entered
pub record LinksTraded (old new gone made : List Stands) (v u : ReadersView) : Type 0 where
  pub traded : Traded old new gone made
  pub before : (g : LinkView → ℕ) → sum_by g v.links ≡ sum_by g (map (entered In) old)
  pub links : (g : LinkView → ℕ) → sum_by g u.links + sum_by (λ (s : Stands). g (entered In s)) gone ≡ sum_by g v.links + (sum_by (λ (s : Stands). g (entered Dead s)) gone + sum_by (λ (s : Stands). g (entered In s)) made)
  -- the pass alone has each set of the table
  pub sets : (m : ℕ) → m < u.mods → Member m (mods_of u.walk)

-- of nodes: those that are gone are dropped, and no others; no node of the new record is marked
pub record NodesTraded (old new gone made : List Handle) (v u : MarksView) : Type 0 where
  pub traded : Traded old new gone made
  pub before : (g : Handle → ℕ) → sum_by g v.claims.held ≡ sum_by g old
  pub held : (g : Handle → ℕ) → sum_by g u.claims.held ≡ sum_by g v.claims.held + sum_by g made
  pub undropped : (x : ℕ) → IsKept v x
  pub dropped : (x : ℕ) → times x u.dropped ≡ times x v.dropped + slot_times x gone
  -- the parent of a node that isn't dropped isn't
  pub above : (o : OwnView) (p : ℕ) → Member o u.own → IsKept u o.node.slot → o.parent ≡ Some p → IsKept u p
  pub unmarked : (n : Handle) → Member n new → times n.slot u.marked ≡ 0
  pub young : (h : Handle) → Member h u.claims.held → h.generation < 4294967295

-- what a pass that regained its tables and begins anew knows
abbrev pub values_anew : ℕ → ValueView → ValueView
values_anew n u = values.rewound (values.learned n u)

abbrev pub readers_anew : ℕ → ReadersView → ReadersView
readers_anew n u = readers.rewound (readers.regained n u)

abbrev pub marks_anew : ℕ → MarksView → MarksView
marks_anew n u = marks.rewound (marks.regained n u)

-- what is gone may go back
abbrev pub ValuesAreOwed : Type 0
ValuesAreOwed = (old new gone made : List Handle) (v u : ValueView) (n : ℕ) → ValuesTraded old new gone made v u
    → ValuesOwed new gone (values_anew n u)

abbrev pub LinksAreOwed : Type 0
LinksAreOwed = (old new gone made : List Stands) (v u : ReadersView) (n : ℕ) → LinksTraded old new gone made v u
    → ReadersOwed new gone (readers_anew n u)

abbrev pub NodesAreOwed : Type 0
NodesAreOwed =
    (old new gone made : List Handle) (v u : MarksView) (n : ℕ) → NodesTraded old new gone made v u → marks.Holds (marks_anew n u)
    → marks.IsClosed (marks_anew n u) → MarksOwed new gone (marks_anew n u)

-- no slot of what is kept, and no fixed one, is a slot of what goes
abbrev pub ValuesStand : Type 0
ValuesStand =
    (kept gone : List Handle) (v : ValueView) → ValuesOwed kept gone v → Accounted v.claims
    → ((m : Handle) → Member m kept → Outside gone m.slot) × ((s : ℕ) → s < v.fixed → Outside gone s)

abbrev pub NodesStand : Type 0
NodesStand =
    (kept gone : List Handle) (v : MarksView) → MarksOwed kept gone v → Accounted v.claims → (n : Handle) → Member n kept
    → Outside gone n.slot

-- what the pass had of what is kept it has once that is given back which goes, and nothing else: of nodes, each with its parent
abbrev pub NodesStay : Type 0
NodesStay =
    (kept gone : List Handle) (v w : MarksView) → MarksOwed kept gone v → Accounted v.claims → MarksLeft kept gone v w → (o : OwnView)
    → (Member o w.own → Member o v.own × Member o.node kept) × (Member o v.own → Member o.node kept → Member o w.own)

-- none is older than the age
abbrev pub Young : ℕ → List Handle → Type 0
Young age hs = (h : Handle) → Member h hs → h.generation ≤ age

-- what goes back is a generation older
abbrev pub ValuesAge : Type 0
ValuesAge =
    (kept gone : List Handle) (v w : ValueView) (age : ℕ) → ValuesOwed kept gone v → ValuesLeft kept gone v w → Young age v.claims.list
    → Young age v.claims.held → Young (age + 1) w.claims.list × Young age w.claims.held

abbrev pub NodesAge : Type 0
NodesAge =
    (kept gone : List Handle) (v w : MarksView) (age : ℕ) → MarksOwed kept gone v → MarksLeft kept gone v w → Young age v.claims.list
    → Young age v.claims.held → Young (age + 1) w.claims.list × Young age w.claims.held
