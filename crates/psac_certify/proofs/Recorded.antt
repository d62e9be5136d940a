-- What is written of a record that is kept, of one that isn't, and of one that is too large.
use Rattle.std.proofs.Common.{◌≡◌, ◌∙◌, ◌⊎◌, inl, inr, refl, ap, arith, ℕ, List, [], Option, IfSome, is_some, true}
use Rattle.std.specs.Prelude.{codes}
use Rattle.psac_base.specs.Outside.{Appended, AppendedPart}
use Rattle.psac_ops.specs.declared.plain.TextId.{TextId}
use Rattle.psac_syntax.specs.declared.program.Program.{Program}
use Rattle.psac_inputs.specs.Grid.{Grid}
use Rattle.psac_inputs.specs.Texts.{Texts}
use Rattle.psac_model.specs.declared.ends.CapKind.{CapKind}
use Rattle.psac_model.specs.declared.ends.Caps.{Caps}
use Rattle.psac_model.specs.Names.{Name, Heap}
use Rattle.psac_model.specs.Run.{Ran}
use Rattle.psac_model.specs.Fresh.{World, Outcome, Full, Fault, Good, fresh, outcome}
use Rattle.psac_record.specs.declared.record.Record.{Record}
use Rattle.psac_record.specs.Shown.{rec_of}
use Rattle.psac_report.specs.Dump.{dump_report}
use Rattle.psac_engine.specs.Running.{Shows}
use Rattle.psac_engine.specs.Sound.{world_with}
use Rattle.psac_cert.specs.declared.judge.CertifyFault.TheVariants as fault
use Rattle.psac_cert.specs.Compared.{IsUndecided}
use Rattle.psac_cert.specs.Told.{record_dump}
use Rattle.psac_cert.proofs.Judging.{kept_report}
use Rattle.psac_certify.specs.Answer.{IsTooLarge}

-- of a program and a grid that are told
pub told_report : (p told : Program) (ids : List TextId) (g seen : Grid) (caps : Caps) (texts : Texts) (tree : Record)
    (kept : Option (Ran Name Heap))
    → told ≡ p → seen ≡ g → ∥ Shows (world_with p ids) g caps (rec_of tree) ∥₁ → is_some kept ≡ true
    → IfSome kept (λ r. (r ≡ fresh (world_with p ids) g) × (outcome (world_with p ids) caps g ≡ Good r.tree r.heap))
    → record_dump told seen texts tree ≡ dump_report (world_with p ids) caps g texts
told_report p told ids g seen caps texts tree kept same_program same_grid shows some is =
    ap (λ (q : Program). record_dump q seen texts tree) same_program ∙ ap (λ (h : Grid). record_dump p h texts tree)
    same_grid
    ∙ kept_report p ids g caps texts tree kept shows some is

pub report_same : (w1 w : World) (c1 c : Caps) (g1 g : Grid) (texts : Texts) → w1 ≡ w → c1 ≡ c → g1 ≡ g
    → dump_report w1 c1 g1 texts ≡ dump_report w c g texts
report_same w1 w c1 c g1 g texts of_world of_caps of_grid = rw (of_world, of_caps, of_grid) refl

pub too_large : (w : World) (caps : Caps) (g : Grid) (which : CapKind)
    → IsUndecided (outcome w caps g) (fault.Full which) → IsTooLarge w caps g (codes "full\n")
too_large w caps g which told = by (outcome w caps g) refl told
  where
    by : (o : Outcome) → outcome w caps g ≡ o → IsUndecided o (fault.Full which) → IsTooLarge w caps g (codes "full\n")
    by (Full over) is told = record { over = over; is_over = is; is_text = refl }
    by (Fault why line) is told = absurd told
    by (Good tree heap) is told = absurd told

-- nothing is a first part, too
pub part_or_none : (code : ℕ) (before now : Option (List ℕ)) (text : List ℕ) → (code ≡ 7 → AppendedPart before now text)
    → (code ≡ 9 → Appended before now [])
    → (code ≡ 7) ⊎ (code ≡ 9) → AppendedPart before now text
part_or_none code before now text part none (inl seven) = part seven
part_or_none code before now text part none (inr nine) = (0, omega arith, none nine)
