-- Lists of different lengths.
use Rattle.std.proofs.Common.{◌≡◌, ◌≢◌, ◌≤◌, ℕ, zero, List, [], ◌∷◌, length, drop, min, Err, suc, refl, ap, arith}
use Rattle.psac_ops.specs.declared.plain.Plain.{Plain}
use Rattle.psac_ops.specs.declared.plain.Handle.{Handle}
use Rattle.psac_ops.specs.Named.{values_of, value_of}
use Rattle.psac_model.specs.declared.ends.FaultKind.TheVariants.{Kind}
use Rattle.psac_model.specs.Names.{Env, bind}
use Rattle.psac_model.specs.Run.{bound_to, with_reads}
use Rattle.psac_syntax.specs.declared.program.ReadItem.{ReadItem}
use Rattle.psac_plain.specs.declared.ask.Seen.{Seen}
use Rattle.psac_plain.specs.Running.{reads_view}

pub bound_uneven : (xs : List ℕ) (vs : List Plain) (env : Env Handle) → length xs ≢ length vs → bound_to xs (values_of vs) env ≡ Err Kind
bound_uneven [] [] env h = absurd (h refl)
bound_uneven [] (v ∷ vs) env h = refl
bound_uneven (x ∷ xs) [] env h = refl
bound_uneven (x ∷ xs) (v ∷ vs) env h = bound_uneven xs vs (bind x (value_of v) env) (λ e. h (ap suc e))

none_read : (env : Env Handle) (items : List ReadItem) → with_reads env items [] ≡ env
none_read env [] = refl
none_read env (item ∷ items) = refl

-- where either list ends, no more reads are bound
pub reads_over : (env : Env Handle) (items : List ReadItem) (seen : List Seen) (i : ℕ) → min (length items) (length seen) ≤ i → with_reads env (drop i items) (reads_view (drop i seen)) ≡ env
reads_over env [] seen zero h = refl
reads_over env [] seen (suc i) h = refl
reads_over env (item ∷ items) [] zero h = refl
reads_over env (item ∷ items) (s ∷ seen) zero h = absurd (omega arith)
reads_over env (item ∷ items) [] (suc i) h = none_read env (drop i items)
reads_over env (item ∷ items) (s ∷ seen) (suc i) h = reads_over env items seen i (omega arith)
