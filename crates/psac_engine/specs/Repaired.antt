-- What a repair makes of the record that is kept, and of the slots of its tables.
use Rattle.std.specs.Prelude.{◌≡◌, ◌⊎◌, ◌+◌, ◌*◌, ◌≤◌, List, Result, Ok, Err}
use Rattle.psac_ops.specs.declared.plain.Handle.{Handle}
use Rattle.psac_slots.specs.Handles.{Member, later}
use Rattle.psac_slots.specs.Claiming.{Accounted}
use Rattle.psac_slots.specs.declared.view.ClaimView.{ClaimView}
use Rattle.psac_values.specs.Steps.{made_handle}
use Rattle.psac_inputs.specs.Grid.{Grid}
use Rattle.psac_model.specs.declared.ends.End.TheVariants.{Done}
use Rattle.psac_model.specs.declared.ends.Mode.TheVariants as mode
use Rattle.psac_model.specs.declared.ends.Work.{Work}
use Rattle.psac_model.specs.Fresh.{World}
use Rattle.psac_traced.specs.Bodies.{IsCode}
use Rattle.psac_traced.specs.Mended.{Mended}
use Rattle.psac_record.specs.declared.record.Record.{Record}
use Rattle.psac_record.specs.Kept.{Kept, bare, nodes_in, made_of, all_of}
use Rattle.psac_record.specs.Shown.{kept_of}
use Rattle.psac_repair.specs.Counted.{looks_for}
use Rattle.psac_repair.specs.Exchanged.{Exchanged}
use Rattle.psac_repair.specs.Going.{Views}
use Rattle.psac_repair.specs.Taking.{taken, given}
use Rattle.psac_stage.specs.Places.{base_heap}
use Rattle.psac_stage.specs.Recorded.{setting_at}

-- a table has the slot in this generation: it is free, or out
abbrev pub Stands : ClaimView → Handle → Type 0
Stands c h = Member h c.list ⊎ Member h c.held

-- of the slots of a table those of these are a generation later, and each other one is in the generation that it was in
pub record Aged (name : Handle → Handle) (gone : List Handle) (c d : ClaimView) : Type 0 where
  -- each slot stands once
  pub once : Accounted d
  pub next : (h : Handle) → Stands c h → Member (name h) gone → Stands d (later h)
  pub same : (h : Handle) → Stands c h → (Member (name h) gone → ⊥) → Stands d h

-- a record over the grid, by which an old one was replaced, and the tables before and after
pub record Repaired (w : World) (g : Grid) (old new : Kept) (p q : Views) : Type 0 where
  -- each outermost block that read other values than are there now ran again, once, and all else is as it was
  pub mended : Mended (setting_at w g) w.program.funcs (IsCode w.program.funcs w.main.body) (base_heap g w.main.dests) (bare old)
      (bare new) Done
  -- what stood strictly inside these blocks is gone and what they ran now is there; each other node, modifiable and link is kept
  pub exchanged : Exchanged old new (taken old new) (given old new)
  -- a generation rises by one where a node or a modifiable is gone, and nowhere else
  pub nodes : Aged (λ n. n) (all_of nodes_in (taken old new)) p.marks.claims q.marks.claims
  pub mods : Aged (made_handle p.values.fixed) (all_of made_of (taken old new)) p.values.claims q.values.claims

-- how often words were looked at and nodes asked for their marks, where a repair of this work put a record in place of an
-- old one
pub record IsSpent (work : Work) (old new : Kept) (p q : Views) : Type 0 where
  -- a look at each read of a block that ran again or stands round one that did, and as many as the runs are counted for
  pub looks : q.values.looks ≤ p.values.looks + looks_for old new
  -- one ask, and at most four for each node that was visited
  pub asks : q.marks.asks ≤ p.marks.asks + (1 + 4 * work.visited)

-- a record that is kept beside the work of a repair is repaired from the old one, with no more looks and asks
abbrev pub RepairsTo : {E : Type 0} → World → Grid → Kept → Views → Views → Result (Work × Record) E → Type 0
RepairsTo w g old p q (Ok kept) =
    kept.0.mode ≡ mode.Repair → Repaired w g old (kept_of kept.1) p q × IsSpent kept.0 old (kept_of kept.1) p q
RepairsTo w g old p q (Err e) = Unit {0}
