use Rattle.std.proofs.Common.{◌∙◌, ap, refl}
use Rattle.psac_record.specs.Kept.{A, W, S, P, R}
use Rattle.psac_record.specs.Shown.{shown, kept_of}
use Rattle.psac_record.proofs.Layers.{shown_made, shown_wrote, shown_stepped, shown_both, shown_block}
use Rattle.psac_record.proofs.Chains.{put_before}
use Rattle.psac_record.proofs.chain.linked.Goals as goal

pub returns-in-Made : goal.returns-in-Made
returns-in-Made c =
    put_before c.args.tree _ c.args.chain _ _ _ refl (ap shown c.in-Made.is ∙ shown_made c.in-Made.place) (shown_made _) (ap (λ v. A v.modifiable (kept_of v.rest)) c.deref_mut.ensures.value)

pub returns-in-Wrote : goal.returns-in-Wrote
returns-in-Wrote c =
    put_before c.args.tree _ c.args.chain _ _ _ refl (ap shown c.in-Wrote.is ∙ shown_wrote c.in-Wrote.place) (shown_wrote _) (ap (λ v. W v.modifiable v.value (kept_of v.rest)) c.deref_mut-in-Wrote.ensures.value)

pub returns-in-Step : goal.returns-in-Step
returns-in-Step c =
    put_before c.args.tree _ c.args.chain _ _ _ refl (ap shown c.in-Step.is ∙ shown_stepped c.in-Step.place) (shown_stepped _) (ap (λ v. S v.node (kept_of v.inner) (kept_of v.rest)) c.deref_mut-in-Step.ensures.value)

pub returns-in-Both : goal.returns-in-Both
returns-in-Both c =
    put_before c.args.tree _ c.args.chain _ _ _ refl (ap shown c.in-Both.is ∙ shown_both c.in-Both.place) (shown_both _) (ap (λ v. P v.node (kept_of v.left) (kept_of v.right)) c.deref_mut-in-Both.ensures.value)

pub returns-in-Block : goal.returns-in-Block
returns-in-Block c =
    put_before c.args.tree _ c.args.chain _ _ _ refl (ap shown c.in-Block.is ∙ shown_block c.in-Block.place) (shown_block _) (ap (λ v. R v.reading (kept_of v.inner)) c.deref_mut-in-Block.ensures.value)
