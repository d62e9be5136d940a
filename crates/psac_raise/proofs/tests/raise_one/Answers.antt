-- The one reader is a root that the pass has.
use Rattle.std.proofs.Common.{◌≡◌, ◌<◌, List, [], ◌∷◌, None, refl, sym, ap, ◌∙◌, subst, inl, ⊎_elim, arith}
use Rattle.psac_slots.specs.Handles.{Member}
use Rattle.psac_readers.specs.declared.view.LinkView.{LinkView}
use Rattle.psac_readers.specs.declared.view.ReadersView.{ReadersView}
use Rattle.psac_readers.specs.Chained.{mods_of}
use Rattle.psac_readers.proofs.Links.{mods_forget}
use Rattle.psac_marks.specs.declared.view.OwnView.{OwnView}
use Rattle.psac_marks.specs.declared.view.MarksView.{MarksView}
use Rattle.psac_marks.specs.Marked.{own_place}
use Rattle.psac_marks.specs.Passes.{Owns}
use Rattle.psac_marks.proofs.Callers.{claimed_own, claimed_dropped, owns_claimed, leads_root}
use Rattle.psac_raise.proofs.tests.raise_one.Goals as goal

pub raise_readers-requires-clause-paths : goal.raise_readers-requires-clause-paths
raise_readers-requires-clause-paths c k i of e =
    let claimed = c.in-Ok.ensures.ok in
    let own = subst (λ (os : List OwnView). Member (record { node = c.in-Ok.node; parent = None }) os) (sym (claimed_own c.args.nodes.knows c.in-Ok.node None c.claim.new.pass.knows claimed)) (inl refl) in
    let kept : c.claim.new.pass.knows.dropped ≡ [] = claimed_dropped c.args.nodes.knows c.in-Ok.node None c.claim.new.pass.knows claimed ∙ c.requires.empty.1 in
    let low : c.in-Ok.node.slot < 4294967296 = omega arith in
    let from = subst (λ (z : ReadersView). Member k z.links) c.in-Ok-enter.ensures.ok.3 i in
    ⊎_elim
    (λ q. (c.in-Ok.node, low, ap (λ (z : LinkView). z.node) (sym q), (own_place c.claim.new.pass.knows.claims.branch (record { node = c.in-Ok.node; parent = None }) ∷ [], leads_root c.claim.new.pass.knows c.in-Ok.node kept own)))
    (λ (j : Member k c.args.sets.knows.links). absurd (subst (Member k) c.requires.empty.0 j))
    from

pub raise_readers-requires-clause-walk : goal.raise_readers-requires-clause-walk
raise_readers-requires-clause-walk c =
    subst (Member c.args.m.slot) (sym (ap (λ (z : ReadersView). mods_of z.walk) c.in-Ok-enter.ensures.ok.3 ∙ mods_forget c.args.m.slot c.args.sets.knows.walk)) c.requires.walk

pub is_marked-requires-clause-own : goal.is_marked-requires-clause-own
is_marked-requires-clause-own c =
    subst (λ (z : MarksView). Owns z c.in-Ok.node) (sym c.raise_readers.ensures.raised.becomes)
    (owns_claimed c.args.nodes.knows c.in-Ok.node None c.claim.new.pass.knows c.in-Ok.ensures.ok)
