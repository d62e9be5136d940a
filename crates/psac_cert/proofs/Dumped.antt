-- The lines of a record are the dump of the tree that it shows.
use Rattle.std.proofs.Common.{◌≡◌, ◌∙◌, ℕ, List, [], ◌++◌, ap}
use Rattle.std.specs.Prelude.{codes}
use Rattle.psac_ops.specs.declared.plain.Handle.{Handle}
use Rattle.psac_ops.specs.declared.plain.TextId.{TextId}
use Rattle.psac_syntax.specs.declared.program.Program.{Program}
use Rattle.psac_inputs.specs.Grid.{Grid}
use Rattle.psac_inputs.specs.Texts.{Texts}
use Rattle.psac_model.specs.declared.ends.Caps.{Caps}
use Rattle.psac_model.specs.Names.{Name, Heap}
use Rattle.psac_model.specs.Run.{Ran}
use Rattle.psac_model.specs.Fresh.{fresh}
use Rattle.psac_traced.specs.Rec.{Rec, tree_of}
use Rattle.psac_traced.specs.Renamed.{rec_named}
use Rattle.psac_record.specs.declared.record.Record.{Record}
use Rattle.psac_record.specs.Shown.{kept_of, rec_of}
use Rattle.psac_report.specs.Dump.{dump, parts}
use Rattle.psac_stage.specs.Places.{name_of}
use Rattle.psac_engine.specs.Running.{Shows}
use Rattle.psac_engine.specs.Sound.{world_with}
use Rattle.psac_cert.specs.declared.dictionary.Dictionary.{Dictionary}
use Rattle.psac_cert.specs.Lines.{lines_of, named}
use Rattle.psac_cert.specs.Told.{dests_of, record_dump}
use Rattle.psac_cert.proofs.Renaming.{rec_same}

pub dumped : (d : Dictionary) (tree : Record) (p : Program) (g : Grid) (texts : Texts) (left : List ℕ) → d.program.now ≡ p → d.texts.now ≡ texts
    → ((h : Handle) → named d h ≡ name_of g (dests_of p) (rec_of tree) h) → left ≡ lines_of d (kept_of tree)
    → codes "psac record 1\n" ++ left ≡ record_dump p g texts tree
unfolding dump
dumped d tree p g texts left same_program same_texts names is =
    let mine : Rec Name = rec_named (named d) (rec_of tree) in
    ap (λ (xs : List ℕ). codes "psac record 1\n" ++ xs)
    (is ∙ ap (λ (q : Program). parts q.names d.texts.now (tree_of mine)) same_program ∙ ap (λ (t : Texts). parts p.names t (tree_of mine)) same_texts
    ∙ ap (λ (r : Rec Name). parts p.names texts (tree_of r)) (rec_same (named d) (name_of g (dests_of p) (rec_of tree)) names (rec_of tree)))

-- where the record shows the fresh run, it is the dump of that run's tree
pub shown_dump : (p : Program) (g : Grid) (texts : Texts) (tree : Record) (ids : List TextId) (caps : Caps) → Shows (world_with p ids) g caps (rec_of tree)
    → record_dump p g texts tree ≡ dump p.names texts (fresh (world_with p ids) g).tree
shown_dump p g texts tree ids caps shows = ap (λ (r : Ran Name Heap). dump p.names texts r.tree) shows.run
