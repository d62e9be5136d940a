-- What the model says of a commit whose repair stopped.
use Rattle.std.proofs.Common.{◌≡◌, ℕ, length, Some, Err, refl, sym, subst, arith}
use Rattle.psac_ops.specs.Named.{same_handle}
use Rattle.psac_fork.specs.declared.tables.Pass.{Pass}
use Rattle.psac_fork.specs.declared.tables.Tables.{Tables}
use Rattle.psac_inputs.specs.Grid.{Grid}
use Rattle.psac_model.specs.declared.ends.Caps.{Caps}
use Rattle.psac_model.specs.declared.ends.End.TheVariants.{Stop}
use Rattle.psac_model.specs.declared.ends.FaultKind.{FaultKind}
use Rattle.psac_model.specs.Tree.{size_of}
use Rattle.psac_model.specs.Fresh.{World, fresh, outcome, ended}
use Rattle.psac_model.specs.Work.{anew_work}
use Rattle.psac_traced.specs.Mending.{mended}
use Rattle.psac_cut_repair.specs.Creates.{cut_drew}
use Rattle.psac_cut_repair.specs.Modes.{work_from}
use Rattle.psac_record.specs.Kept.{Kept, bare, counts}
use Rattle.psac_trace.specs.declared.halt.Halt.TheVariants as halt
use Rattle.psac_trace.specs.Grown.{Cause}
use Rattle.psac_repair.specs.declared.outcome.Stop.{Stop as Stopping}
use Rattle.psac_repair.specs.declared.outcome.Stop.TheVariants as stop
use Rattle.psac_repair.specs.Ended.{Fault, Other}
use Rattle.psac_repair.specs.Outcomes.{stopped}
use Rattle.psac_repair.specs.Going.{views}
use Rattle.psac_repair.proofs.Drawing.{count_add}
use Rattle.psac_stage.specs.Places.{base_heap}
use Rattle.psac_stage.specs.Resting.{HasAll}
use Rattle.psac_stage.specs.Settling.{Settles}
use Rattle.psac_engine.specs.declared.answer.Answer.TheVariants as answer
use Rattle.psac_engine.specs.Commit.{Answers}
use Rattle.psac_engine.specs.Mending.{Staged, Told, StoppedFor}
use Rattle.psac_engine.proofs.Fits.{too_full, in_caps}
use Rattle.psac_engine.proofs.Repairs.{made_new, outcome_now, cut_now}
use Rattle.psac_engine.proofs.Tellings.{Tells, tells}

module _ (w : World) (g h : Grid) (caps : Caps) (age : ℕ) (t : Tables) (k : Kept) (p : Pass) (s : Staged w g h caps age t k p)
    (q z : Pass) (new : Kept) (settles : Settles q z) (all : HasAll h (length w.main.dests) caps age z) where
  -- a repair that met a fault
  module _ (kind : FaultKind) (line : ℕ) (a : Told w h k new (views p) (views q) (Fault kind line)) where
    fault_told : Tells w g h caps age t k p s q a.lasting.drawn (Fault kind line)
    fault_told = tells w g h caps age t k p s q new (Fault kind line) a

    pub fault_outcome : outcome w caps h ≡ ended (Stop kind line) (fresh w h).tree (fresh w h).heap
    fault_outcome =
        let r = fault_told in
        let d = mended same_handle (bare k) r.0 in
        let fits = in_caps w g h caps age t k p s q z a.lasting settles a.gone a.made a.relinks.relinked a.room all a.links_drew d.added
        r.5 in
        outcome_now w g h caps age t k p s r.0 (made_new w g h caps age t k p s q.values.knows r.0 r.4) (Stop kind line)
        (r.1.run (base_heap h w.main.dests) (λ m x e. e)) fits

    pub fault_answered : Answers caps (Some (fresh w g)) (outcome w caps h) (Err (answer.Fault kind line))
    fault_answered = subst (λ o. Answers caps (Some (fresh w g)) o (Err (answer.Fault kind line))) (sym fault_outcome) (refl, refl)

  -- a repair for which a table was full
  module _ (c : Cause) (a : Told w h k new (views p) (views q) (Other (Some c))) where
    pub full_work : work_from w caps g h ≡ anew_work (size_of (fresh w h).tree)
    full_work =
        let r = tells w g h caps age t k p s q new (Other (Some c)) a in
        let more = too_full w g h caps age t k p s q z a.lasting settles c a.full in
        let drew = r.4 c.which in
        let sum = count_add c.which (counts k) (cut_drew same_handle (bare k) r.0 r.1) in
        cut_now w g h caps age t k p s r.0 (made_new w g h caps age t k p s q.values.knows r.0 r.3) r.1 c.which
        (r.2.run (base_heap h w.main.dests) (λ m x e. e)) (omega (arith, more, drew, sum))

  pub stopped_for : (why : Stopping) → Told w h k new (views p) (views q) (stopped why) → StoppedFor w g h caps why
  stopped_for (stop.Halt (halt.Fault kind line)) a = fault_answered kind line a
  stopped_for (stop.Halt (halt.Full which at)) a = full_work (record { which = which; index = at.index; room = at.room }) a
  stopped_for (stop.Halt halt.NoMemory) a = tt
  stopped_for stop.Unsettled a = tt
