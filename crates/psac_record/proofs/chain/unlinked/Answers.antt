use Rattle.std.proofs.Common.{◌∙◌, ap, refl}
use Rattle.psac_record.specs.Kept.{A, W, S, P, R}
use Rattle.psac_record.specs.Shown.{shown, kept_of}
use Rattle.psac_record.proofs.Layers.{shown_made, shown_wrote, shown_stepped, shown_both, shown_block}
use Rattle.psac_record.proofs.Chains.{same_tree, taken_off}
use Rattle.psac_record.proofs.chain.unlinked.Goals as goal

pub returns-in-Made-clause-first : goal.returns-in-Made-clause-first
returns-in-Made-clause-first c =
    same_tree c.args.chain _ _ _ _ _ (ap shown c.in-Made.is ∙ shown_made c.in-Made.place) (shown_made _) (ap (λ v. A v.modifiable (kept_of v.rest)) c.deref_mut.ensures.value)

pub returns-in-Made-clause-all : goal.returns-in-Made-clause-all
returns-in-Made-clause-all c =
    taken_off c.args.chain _ c.in-Made.place.value.next c.replace-rest.result _ _ _ refl (ap shown c.in-Made.is ∙ shown_made c.in-Made.place) (shown_made _) (ap (λ v. A v.modifiable (kept_of v.rest)) c.deref_mut.ensures.value) (c.replace-rest.ensures.value ∙ ap (λ v. v.next) c.deref_mut.ensures.value)

pub returns-in-Wrote-clause-first : goal.returns-in-Wrote-clause-first
returns-in-Wrote-clause-first c =
    same_tree c.args.chain _ _ _ _ _ (ap shown c.in-Wrote.is ∙ shown_wrote c.in-Wrote.place) (shown_wrote _) (ap (λ v. W v.modifiable v.value (kept_of v.rest)) c.deref_mut-in-Wrote.ensures.value)

pub returns-in-Wrote-clause-all : goal.returns-in-Wrote-clause-all
returns-in-Wrote-clause-all c =
    taken_off c.args.chain _ c.in-Wrote.place.value.next c.replace-rest-in-Wrote.result _ _ _ refl (ap shown c.in-Wrote.is ∙ shown_wrote c.in-Wrote.place) (shown_wrote _) (ap (λ v. W v.modifiable v.value (kept_of v.rest)) c.deref_mut-in-Wrote.ensures.value) (c.replace-rest-in-Wrote.ensures.value ∙ ap (λ v. v.next) c.deref_mut-in-Wrote.ensures.value)

pub returns-in-Step-clause-first : goal.returns-in-Step-clause-first
returns-in-Step-clause-first c =
    same_tree c.args.chain _ _ _ _ _ (ap shown c.in-Step.is ∙ shown_stepped c.in-Step.place) (shown_stepped _) (ap (λ v. S v.node (kept_of v.inner) (kept_of v.rest)) c.deref_mut-in-Step.ensures.value)

pub returns-in-Step-clause-all : goal.returns-in-Step-clause-all
returns-in-Step-clause-all c =
    taken_off c.args.chain _ c.in-Step.place.value.next c.replace-rest-in-Step.result _ _ _ refl (ap shown c.in-Step.is ∙ shown_stepped c.in-Step.place) (shown_stepped _) (ap (λ v. S v.node (kept_of v.inner) (kept_of v.rest)) c.deref_mut-in-Step.ensures.value) (c.replace-rest-in-Step.ensures.value ∙ ap (λ v. v.next) c.deref_mut-in-Step.ensures.value)

pub returns-in-Both-clause-first : goal.returns-in-Both-clause-first
returns-in-Both-clause-first c =
    same_tree c.args.chain _ _ _ _ _ (ap shown c.in-Both.is ∙ shown_both c.in-Both.place) (shown_both _) (ap (λ v. P v.node (kept_of v.left) (kept_of v.right)) c.deref_mut-in-Both.ensures.value)

pub returns-in-Both-clause-all : goal.returns-in-Both-clause-all
returns-in-Both-clause-all c =
    taken_off c.args.chain _ c.in-Both.place.value.next c.replace-rest-in-Both.result _ _ _ refl (ap shown c.in-Both.is ∙ shown_both c.in-Both.place) (shown_both _) (ap (λ v. P v.node (kept_of v.left) (kept_of v.right)) c.deref_mut-in-Both.ensures.value) (c.replace-rest-in-Both.ensures.value ∙ ap (λ v. v.next) c.deref_mut-in-Both.ensures.value)

pub returns-in-Block-clause-first : goal.returns-in-Block-clause-first
returns-in-Block-clause-first c =
    same_tree c.args.chain _ _ _ _ _ (ap shown c.in-Block.is ∙ shown_block c.in-Block.place) (shown_block _) (ap (λ v. R v.reading (kept_of v.inner)) c.deref_mut-in-Block.ensures.value)

pub returns-in-Block-clause-all : goal.returns-in-Block-clause-all
returns-in-Block-clause-all c =
    taken_off c.args.chain _ c.in-Block.place.value.next c.replace-rest-in-Block.result _ _ _ refl (ap shown c.in-Block.is ∙ shown_block c.in-Block.place) (shown_block _) (ap (λ v. R v.reading (kept_of v.inner)) c.deref_mut-in-Block.ensures.value) (c.replace-rest-in-Block.ensures.value ∙ ap (λ v. v.next) c.deref_mut-in-Block.ensures.value)
