-- The commits of a bench, one more at a time.
use Rattle.std.proofs.Common.{◌≡◌, ◌∙◌, ℕ, ◌+◌, Option, Result, Err, refl, sym, ap, arith}
use Rattle.std.specs.Prelude.{fold, option_map}
use Rattle.std.specs.List.{range_with_len}
use Rattle.psac_inputs.specs.Batch.{Batch, GoesInto, empty_batch, put_all}
use Rattle.psac_inputs.specs.Grid.{Grid}
use Rattle.psac_inputs.specs.Texts.{Texts}
use Rattle.psac_model.specs.declared.ends.CapKind.{CapKind}
use Rattle.psac_model.specs.declared.ends.Caps.{Caps}
use Rattle.psac_model.specs.declared.ends.FaultKind.{FaultKind}
use Rattle.psac_model.specs.declared.ends.Work.{Work}
use Rattle.psac_model.specs.Fresh.{World, outcome}
use Rattle.psac_model.specs.Names.{Name, Heap}
use Rattle.psac_model.specs.Run.{Ran}
use Rattle.psac_report.specs.Report.{Totals, bench_batch, bench_commit, counted_commit, with_reply}
use Rattle.psac_report.specs.Session.{Reply, Faulted, TooLarge, State, committed}
use Rattle.psac_engine.specs.declared.answer.Answer.{Answer}
use Rattle.psac_engine.specs.declared.answer.Answer.TheVariants as answer
use Rattle.psac_engine.specs.Commit.{Answers, kept_after}
use Rattle.psac_stage.proofs.Placed.{cols_kept}
use Rattle.psac_session.specs.Replied.{IsReplyTo}
use Rattle.psac_session.specs.State.{kept_of, no_places}
use Rattle.psac_session.proofs.Stepped.{commit_step}
use Rattle.psac_bench.specs.Totals.{with_failed}
use Rattle.psac_bench.proofs.Edits.{folded_more}

pub rows_same : (b b' : Batch) (g g' : Grid) → g' ≡ put_all b g → b' ≡ empty_batch g' → b'.rows ≡ b.rows
rows_same b b' g g' grid empty = ap (λ (x : Batch). x.rows) empty ∙ ap (λ (h : Grid). h.rows) grid

pub cols_same : (b b' : Batch) (g g' : Grid) → GoesInto b g → g' ≡ put_all b g → b' ≡ empty_batch g' → b'.cols ≡ b.cols
cols_same b b' g g' goes grid empty =
    ap (λ (x : Batch). x.cols) empty ∙ ap (λ (h : Grid). h.cols) grid ∙ cols_kept b.edits g ∙ sym goes.cols

abbrev state : Grid → Texts → Option (Ran Name Heap) → Grid → State
state g texts kept staged = record { grid = g; texts = texts; kept = option_map kept_of kept; staged = staged; places = no_places }

-- one commit, counted
pub counted : (w : World) (caps : Caps) (g g' : Grid) (texts : Texts) (old kept : Option (Ran Name Heap)) (b b' : Batch) (result : Result Work Answer) (reply : Reply) (t t' : Totals)
    → g' ≡ put_all b g → b' ≡ empty_batch g' → Answers caps old (outcome w caps g') result → kept ≡ kept_after w g' result → IsReplyTo result reply → t' ≡ with_reply t reply
    → counted_commit t (committed w caps (state g texts old (put_all b g))) ≡ (state g' texts kept (put_all b' g'), t')
counted w caps g g' texts old kept b b' result reply t t' grid empty answers kept_is replies total =
    ap (counted_commit t) (commit_step w caps g (put_all b g) g' texts old b' kept result reply grid empty answers kept_is replies)
    ∙ ap (λ (x : Totals). (state g' texts kept (put_all b' g'), x)) (sym total)

-- the reply to a commit after which no run is kept, and its count
failed_reply : (a : Answer) (t : Totals) → (a ≡ answer.NoMemory → ⊥) → (reply : Reply) × IsReplyTo (Err a) reply × (with_failed t ≡ with_reply t reply)
failed_reply (answer.Fault kind line) t other = (Faulted kind line, refl, refl)
failed_reply (answer.Full which) t other = (TooLarge, refl, refl)
failed_reply answer.NoMemory t other = absurd (other refl)

pub counted_failed : (w : World) (caps : Caps) (g g' : Grid) (texts : Texts) (old kept : Option (Ran Name Heap)) (b b' : Batch) (a : Answer) (t t' : Totals)
    → g' ≡ put_all b g → b' ≡ empty_batch g' → Answers caps old (outcome w caps g') (Err a) → kept ≡ kept_after w g' (Err a) → (a ≡ answer.NoMemory → ⊥) → t' ≡ with_failed t
    → counted_commit t (committed w caps (state g texts old (put_all b g))) ≡ (state g' texts kept (put_all b' g'), t')
counted_failed w caps g g' texts old kept b b' a t t' grid empty answers kept_is other total =
    let told = failed_reply a t other in
    counted w caps g g' texts old kept b b' (Err a) told.0 t t' grid empty answers kept_is told.1 (total ∙ told.2)

pub fault_is_other : (a : Answer) (kind : FaultKind) (line : ℕ) → a ≡ answer.Fault kind line → a ≡ answer.NoMemory → ⊥
fault_is_other a kind line is none = let bad : answer.Fault kind line ≡ answer.NoMemory = sym is ∙ none in cc

pub full_is_other : (a : Answer) (which : CapKind) → a ≡ answer.Full which → a ≡ answer.NoMemory → ⊥
full_is_other a which is none = let bad : answer.Full which ≡ answer.NoMemory = sym is ∙ none in cc

-- one more batch
pub batch_step : (w w' : World) (caps caps' : Caps) (cells i : ℕ) (s0 s s1 s2 : State) (t0 t t2 : Totals)
    → fold (bench_commit w caps cells) (s0, t0) (range_with_len 1 i) ≡ (s, t)
    → s1 ≡ record s { staged = bench_batch cells (i + 1) s.staged } → w' ≡ w → caps' ≡ caps
    → counted_commit t (committed w' caps' s1) ≡ (s2, t2)
    → fold (bench_commit w caps cells) (s0, t0) (range_with_len 1 (i + 1)) ≡ (s2, t2)
batch_step w w' caps caps' cells i s0 s s1 s2 t0 t t2 before staged world most step =
    folded_more (bench_commit w caps cells) (s0, t0) 1 i (i + 1) (omega arith)
    ∙ ap (λ (x : State × Totals). bench_commit w caps cells x (i + 1)) before
    ∙ rw (← world, ← most, ← staged) step
