-- What is found of a text is the verdict on the fresh run.
use Rattle.std.proofs.Common.{◌≡◌, ◌∙◌, ℕ, List, [], ◌∷◌, Option, None, Some, is_some, IfSome, true, refl, ap, sym, subst, Err}
use Rattle.std.specs.Prelude.{codes}
use Rattle.std.proofs.Math.Logic.{∥∥₁_elim}
use Rattle.std.specs.Coded.{Coded-set, coded_list, coded_ℕ}
use Rattle.psac_ops.specs.declared.plain.TextId.{TextId}
use Rattle.psac_syntax.specs.declared.program.Program.{Program}
use Rattle.psac_inputs.specs.Grid.{Grid}
use Rattle.psac_inputs.specs.Batch.{Batch, empty_batch, put_all}
use Rattle.psac_inputs.specs.Texts.{Texts}
use Rattle.psac_model.specs.declared.ends.FaultKind.{FaultKind}
use Rattle.psac_model.specs.declared.ends.CapKind.{CapKind}
use Rattle.psac_model.specs.declared.ends.Caps.{Caps}
use Rattle.psac_model.specs.declared.ends.End.{End}
use Rattle.psac_model.specs.declared.ends.End.TheVariants.{Done, Stop}
use Rattle.psac_model.specs.Names.{Name, Heap}
use Rattle.psac_model.specs.Tree.{Tree}
use Rattle.psac_model.specs.Run.{Ran}
use Rattle.psac_model.specs.Fresh.{World, Outcome, Full, Fault, Good, fresh, outcome, judged, ended}
use Rattle.psac_record.specs.declared.record.Record.{Record}
use Rattle.psac_record.specs.Shown.{rec_of}
use Rattle.psac_report.specs.Printed.{fault_line}
use Rattle.psac_report.specs.Dump.{Verdict, Stopped, compared_with, dump, dump_by, dump_report, verdict, verdict_by}
use Rattle.psac_engine.specs.declared.answer.Answer.TheVariants as answer
use Rattle.psac_engine.specs.Commit.{Answers}
use Rattle.psac_engine.specs.Running.{Shows}
use Rattle.psac_engine.specs.Sound.{world_with, fresh_over}
use Rattle.psac_engine.proofs.Engines.{good_means}
use Rattle.psac_cert.specs.declared.judge.CertifyFault.TheVariants as fault
use Rattle.psac_cert.specs.Compared.{IsUndecided}
use Rattle.psac_cert.specs.Told.{record_dump}
use Rattle.psac_cert.proofs.Dumped.{shown_dump}

-- a run that is kept ends well
pub settled : (w : World) (caps : Caps) (g : Grid) (kept : Option (Ran Name Heap)) → is_some kept ≡ true
    → IfSome kept (λ r. (r ≡ fresh w g) × (outcome w caps g ≡ Good r.tree r.heap)) → (fresh w g).end ≡ Done
settled w caps g None some is = absurd cc
settled w caps g (Some r) some is = (good_means w caps g r.tree r.heap is.1).1

-- a record that shows the fresh run
pub kept_dump : (p : Program) (ids : List TextId) (g : Grid) (caps : Caps) (texts : Texts) (tree : Record)
    → ∥ Shows (world_with p ids) g caps (rec_of tree) ∥₁
    → record_dump p g texts tree ≡ dump p.names texts (fresh (world_with p ids) g).tree
kept_dump p ids g caps texts tree shows = ∥∥₁_elim shows (Coded-set (coded_list coded_ℕ) _ _) (λ s. shown_dump p g texts tree ids caps s)

kept_verdict : (p : Program) (ids : List TextId) (g : Grid) (caps : Caps) (texts : Texts) (text : List ℕ) (tree : Record) (v : Verdict)
    → ∥ Shows (world_with p ids) g caps (rec_of tree) ∥₁ → (fresh (world_with p ids) g).end ≡ Done
    → v ≡ compared_with text (record_dump p g texts tree) → v ≡ verdict (world_with p ids) g texts text
unfolding verdict
kept_verdict p ids g caps texts text tree v shows done is =
    let w : World = world_with p ids in
    is ∙ ap (λ (xs : List ℕ). compared_with text xs) (kept_dump p ids g caps texts tree shows)
    ∙ ap (λ (end : End). verdict_by p.names texts text end (fresh w g).tree) (sym done)

-- told of a program and a grid that are the same
pub found_there : (p told : Program) (ids : List TextId) (g seen : Grid) (caps : Caps) (texts : Texts) (text : List ℕ)
    → (tree : Record) (v : Verdict) → told ≡ p → seen ≡ g
    → ∥ Shows (world_with p ids) g caps (rec_of tree) ∥₁ → (fresh (world_with p ids) g).end ≡ Done
    → v ≡ compared_with text (record_dump told seen texts tree) → v ≡ verdict (world_with p ids) g texts text
found_there p told ids g seen caps texts text tree v same_program same_grid shows done is =
    kept_verdict p ids g caps texts text tree v shows done
    (is ∙ ap (λ (q : Program). compared_with text (record_dump q seen texts tree)) same_program
    ∙ ap (λ (h : Grid). compared_with text (record_dump p h texts tree)) same_grid)

-- what is written of a run that is kept
pub kept_report : (p : Program) (ids : List TextId) (g : Grid) (caps : Caps) (texts : Texts) (tree : Record) (kept : Option (Ran Name Heap))
    → ∥ Shows (world_with p ids) g caps (rec_of tree) ∥₁ → is_some kept ≡ true
    → IfSome kept (λ r. (r ≡ fresh (world_with p ids) g) × (outcome (world_with p ids) caps g ≡ Good r.tree r.heap))
    → record_dump p g texts tree ≡ dump_report (world_with p ids) caps g texts
unfolding dump_report
kept_report p ids g caps texts tree None shows some is = absurd cc
kept_report p ids g caps texts tree (Some r) shows some is =
    let w : World = world_with p ids in
    kept_dump p ids g caps texts tree shows ∙ ap (λ (x : Ran Name Heap). dump p.names texts x.tree) (sym is.0)
    ∙ ap (λ (o : Outcome). dump_by w texts o) (sym is.1)

ended_stop : (end : End) (t : Tree Name) (h : Heap) (k : FaultKind) (line : ℕ) → ended end t h ≡ Fault k line → end ≡ Stop k line
ended_stop Done t h k line e = absurd cc
ended_stop (Stop why at) t h k line e = cc

judged_stop : (kinds : List CapKind) (r : Ran Name Heap) (k : FaultKind) (line : ℕ) → judged kinds r ≡ Fault k line → r.end ≡ Stop k line
judged_stop [] r k line e = ended_stop r.end r.tree r.heap k line e
judged_stop (x ∷ xs) r k line e = absurd cc

-- an empty batch leaves the grid
pub nothing_put : (b : Batch) (g now told : Grid) → told ≡ g → b ≡ empty_batch told → now ≡ put_all b g → now ≡ g
nothing_put b g now told same empty put = put ∙ ap (λ (x : Batch). put_all x g) (empty ∙ ap (λ (x : Grid). empty_batch x) same)

-- a commit that answers a fault
pub stopped_verdict : (w : World) (caps : Caps) (old : Option (Ran Name Heap)) (g now : Grid) (texts : Texts) (text : List ℕ) (why : FaultKind) (line : ℕ) → now ≡ g
    → Answers caps old (outcome w caps now) (Err (answer.Fault why line)) → Stopped why line ≡ verdict w g texts text
unfolding verdict
stopped_verdict w caps old g now texts text why line same told =
    by (outcome w caps g) refl (subst (λ (x : Grid). Answers caps old (outcome w caps x) (Err (answer.Fault why line))) same told)
  where
    by : (o : Outcome) → outcome w caps g ≡ o → Answers caps old o (Err (answer.Fault why line))
        → Stopped why line ≡ verdict_by w.program.names texts text (fresh w g).end (fresh w g).tree
    by (Good t h) is told = absurd told
    by (Full over) is told = absurd told
    by (Fault k l) is told =
        rw (told.0, told.1) (ap (λ (end : End). verdict_by w.program.names texts text end (fresh w g).tree)
        (sym (judged_stop (fresh_over w g caps) (fresh w g) k l is)))

-- and that a cap is passed
pub undecided : (w : World) (caps : Caps) (old : Option (Ran Name Heap)) (g now : Grid) (which : CapKind) → now ≡ g
    → Answers caps old (outcome w caps now) (Err (answer.Full which))
    → IsUndecided (outcome w caps g) (fault.Full which)
undecided w caps old g now which same told =
    by (outcome w caps g) (subst (λ (x : Grid). Answers caps old (outcome w caps x) (Err (answer.Full which))) same told)
  where
    by : (o : Outcome) → Answers caps old o (Err (answer.Full which)) → IsUndecided o (fault.Full which)
    by (Good t h) told = absurd told
    by (Full over) told = told
    by (Fault k l) told = absurd told

-- and of one that a commit doesn't keep
pub stopped_report : (w : World) (caps : Caps) (old : Option (Ran Name Heap)) (g : Grid) (texts : Texts) (kind : FaultKind) (line : ℕ)
    → Answers caps old (outcome w caps g) (Err (answer.Fault kind line)) → fault_line kind line ≡ dump_report w caps g texts
unfolding dump_report
stopped_report w caps old g texts kind line told = by (outcome w caps g) told
  where
    by : (o : Outcome) → Answers caps old o (Err (answer.Fault kind line)) → fault_line kind line ≡ dump_by w texts o
    by (Good t h) told = absurd told
    by (Full over) told = absurd told
    by (Fault k l) told = rw (told.0, told.1) refl

pub full_report : (w : World) (caps : Caps) (old : Option (Ran Name Heap)) (g : Grid) (texts : Texts) (which : CapKind)
    → Answers caps old (outcome w caps g) (Err (answer.Full which)) → codes "full\n" ≡ dump_report w caps g texts
unfolding dump_report
full_report w caps old g texts which told = by (outcome w caps g) told
  where
    by : (o : Outcome) → Answers caps old o (Err (answer.Full which)) → codes "full\n" ≡ dump_by w texts o
    by (Good t h) told = absurd told
    by (Full over) told = refl
    by (Fault k l) told = absurd told
