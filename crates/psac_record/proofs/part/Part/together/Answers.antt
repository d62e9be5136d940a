use Rattle.std.proofs.Common.{◌∙◌, ap, sym}
use Rattle.psac_record.specs.Kept.{A, W, S, P, R}
use Rattle.psac_record.specs.Shown.{kept_of}
use Rattle.psac_record.specs.Opened.{part_of}
use Rattle.psac_record.proofs.Layers.{shown_made, shown_wrote, shown_stepped, shown_both, shown_block}
use Rattle.psac_record.proofs.part.Part.together.Goals as goal

pub returns-in-Made : goal.returns-in-Made
returns-in-Made c =
    ap (λ s. s.0) (shown_made _) ∙ ap (λ v. A v.modifiable (kept_of c.in-Made.rest)) c.deref_mut.ensures.value ∙ sym (ap part_of c.in-Made.is)

pub returns-in-Wrote : goal.returns-in-Wrote
returns-in-Wrote c =
    ap (λ s. s.0) (shown_wrote _) ∙ ap (λ v. W v.modifiable v.value (kept_of c.in-Wrote.rest)) c.deref_mut-in-Wrote.ensures.value ∙ sym (ap part_of c.in-Wrote.is)

pub returns-in-Step : goal.returns-in-Step
returns-in-Step c =
    ap (λ s. s.0) (shown_stepped _) ∙ ap (λ v. S v.node (kept_of v.inner) (kept_of c.in-Step.rest)) c.deref_mut-in-Step-2.ensures.value ∙ ap (λ v. S v.node (kept_of c.in-Step.inner) (kept_of c.in-Step.rest)) c.deref_mut-in-Step.ensures.value ∙ sym (ap part_of c.in-Step.is)

pub returns-in-Both : goal.returns-in-Both
returns-in-Both c =
    ap (λ s. s.0) (shown_both _) ∙ ap (λ v. P v.node (kept_of v.left) (kept_of c.in-Both.right)) c.deref_mut-in-Both-2.ensures.value ∙ ap (λ v. P v.node (kept_of c.in-Both.left) (kept_of c.in-Both.right)) c.deref_mut-in-Both.ensures.value ∙ sym (ap part_of c.in-Both.is)

pub returns-in-Block : goal.returns-in-Block
returns-in-Block c =
    ap (λ s. s.0) (shown_block _) ∙ ap (λ v. R v.reading (kept_of c.in-Block.inner)) c.deref_mut-in-Block.ensures.value ∙ sym (ap part_of c.in-Block.is)
