-- What holds between two commits of a pass and the record that is kept. Each fact is one that has at most one proof, or one that
-- can be told from what it names.
use Rattle.std.specs.Prelude.{◌≡◌, ℕ, ◌<◌, ◌≤◌, Bool, true, List, [], ◌∷◌, ◌++◌, map, length, if◌then◌else◌, Option, Some, None, option_and_then, sum_by}
use Rattle.std.specs.List.{list_any}
use Rattle.psac_ops.specs.declared.plain.Plain.{Plain}
use Rattle.psac_ops.specs.declared.plain.Handle.{Handle}
use Rattle.psac_ops.specs.Named.{same_handle}
use Rattle.psac_ops.specs.Words.{of_words}
use Rattle.psac_slots.specs.Handles.{Member, slot_times}
use Rattle.psac_slots.specs.Claiming.{times}
use Rattle.psac_values.specs.declared.view.OwnedView.{OwnedView}
use Rattle.psac_values.specs.declared.view.ValueView.{ValueView}
use Rattle.psac_readers.specs.declared.view.Stage.TheVariants.{In}
use Rattle.psac_readers.specs.declared.view.LinkView.{LinkView}
use Rattle.psac_readers.specs.declared.view.ReadersView.{ReadersView}
use Rattle.psac_readers.specs.Steps.{Holds}
use Rattle.psac_marks.specs.declared.view.MarksView.{MarksView}
use Rattle.psac_inputs.specs.Grid.{Grid}
use Rattle.psac_model.specs.declared.ends.End.TheVariants.{Done}
use Rattle.psac_model.specs.Expression.{Setting}
use Rattle.psac_model.specs.Names.{Env}
use Rattle.psac_model.specs.Fresh.{World, levels}
use Rattle.psac_plain.specs.Opened.{first_output, output_env, setting_over}
use Rattle.psac_traced.specs.Rec.{Rec, writes}
use Rattle.psac_traced.specs.Traced.{traced}
use Rattle.psac_traced.specs.Bodies.{IsCode}
use Rattle.psac_record.specs.declared.parts.Seen.{Seen}
use Rattle.psac_record.specs.Kept.{Kept, E, A, W, S, P, R, nodes_in, made_of, links_of, bare}
use Rattle.psac_trace.specs.Rights.{held, In as IsIn}
use Rattle.psac_trace.specs.Fit.{Rooted}
use Rattle.psac_trace.specs.Raising.{puts}
use Rattle.psac_repair.specs.Mends.{Needs}
use Rattle.psac_repair.specs.Marks.{Nodes}
use Rattle.psac_repair.specs.Planted.{slots, Once, Families}
use Rattle.psac_repair.specs.Going.{Views, Before}
use Rattle.psac_reclaim.specs.Gave.{out_of}
use Rattle.psac_reclaim.specs.Owed.{entered}
use Rattle.psac_stage.specs.Places.{base_heap}
use Rattle.psac_stage.specs.Holding.{all_known, entries}

-- the pass alone may write the modifiable
abbrev pub has_of : Handle → List OwnedView → Bool
has_of m mine = list_any (λ o. same_handle o.of m) mine

-- what it knows of the words of the modifiable; the first entry counts
abbrev pub words_of : Handle → List OwnedView → Option (List (Option ℕ))
words_of m [] = None
words_of m (o ∷ mine) = if same_handle o.of m then Some o.words else words_of m mine

-- the value that it knows of a modifiable that it may write
abbrev pub known_of : Handle → List OwnedView → Option Plain
known_of m mine = option_and_then of_words (option_and_then all_known (words_of m mine))

-- what the blocks of a record read, in tree order
abbrev pub seen_of : Kept → List Seen
seen_of E = []
seen_of (A m rest) = seen_of rest
seen_of (W m v rest) = seen_of rest
seen_of (S node t rest) = seen_of t ++ seen_of rest
seen_of (P node l r) = seen_of l ++ seen_of r
seen_of (R reading t) = reading.reads ++ seen_of t

-- what expressions of main read over the grid, and main's destinations
abbrev pub setting_at : World → Grid → Setting Handle
setting_at w g = setting_over g w.texts (length w.main.dests)

abbrev pub places_at : World → Grid → Env Handle
places_at w g = output_env (first_output g) w.main.dests []

-- a run of main's body over the grid may leave the record
abbrev pub LeftBy : World → Grid → Rec Handle → Type 0
LeftBy w g r =
    traced (setting_at w g) w.program.funcs levels w.main.body (places_at w g) (base_heap g w.main.dests) r Done

-- of modifiables: what the record made is out, the pass has it beside the fixed slots, each once, and knows what was written. Each
-- block read what is there
pub record HasMade (k : Kept) (v : ValueView) : Type 0 where
  pub out : (f : Handle → ℕ) → sum_by f (out_of v) ≡ sum_by f (made_of k)
  pub once : (s : ℕ) → entries s v.mine ≤ 1
  pub mine : (o : OwnedView) → Member o v.mine → v.fixed ≤ o.of.slot → 0 < slot_times o.of.slot (made_of k)
  pub made : (m : Handle) → Member m (made_of k) → has_of m v.mine ≡ true
  pub wrote : (m : Handle) (x : Plain) → Member (m, x) (puts k) → known_of m v.mine ≡ Some x
  pub read : (s : Seen) → Member s (seen_of k) → known_of s.from v.mine ≡ Some s.value

-- of nodes: those that are out are the record's, and stand as they stand in it; none is marked, and none dropped
pub record HasNodes (k : Kept) (m : MarksView) : Type 0 where
  pub out : (f : Handle → ℕ) → sum_by f m.claims.held ≡ sum_by f (nodes_in k)
  pub nodes : Nodes m None k
  pub families : Families m k
  pub once : Once k
  pub rooted : Rooted m
  pub fits : (x : ℕ) → Member x (slots k) → x < 4294967296
  pub unmarked : (x : ℕ) → times x m.marked ≡ 0
  pub undropped : (x : ℕ) → times x m.dropped ≡ 0

-- of links: the pass has those of the record, all live, and no others
pub record HasLinks (k : Kept) (r : ReadersView) : Type 0 where
  pub links : (f : LinkView → ℕ) → sum_by f r.links ≡ sum_by f (map (entered In) (links_of k))
  pub holds : Holds r

-- the record of a run over the grid, as a pass at rest has it, beside all that it has of the grid
pub record Recorded (w : World) (g : Grid) (k : Kept) (v : ValueView) (r : ReadersView) (m : MarksView) : Type 0 where
  pub left_it : LeftBy w g (bare k)
  -- no input was written
  pub fresh : (m : Handle) → IsIn (writes (bare k)) m → held (base_heap g w.main.dests) m ≡ None
  pub values : HasMade k v
  pub nodes : HasNodes k m
  pub links : HasLinks k r

-- what repairing the record over the grid begins with, where main's body left it over another one
abbrev pub Mendable : World → Grid → Kept → Views → Type 0
Mendable w g k p =
    Before (Needs (setting_at w g) w.program.funcs (IsCode w.program.funcs w.main.body))
    w.program.funcs [] None (bare k) k p
