use Rattle.std.proofs.Common.{◌≡◌, ℕ, List, sym, subst, ap, inl, ◌∙◌}
use Rattle.psac_slots.specs.Handles.{Member}
use Rattle.psac_slots.proofs.Pairs.{map_member}
use Rattle.psac_record.specs.declared.part.Part.{Part}
use Rattle.psac_record.specs.declared.parts.Seen.{Seen}
use Rattle.psac_record.specs.Kept.{stands}
use Rattle.psac_record.specs.Opened.{part_of}
use Rattle.psac_reclaim.specs.Parts.{made_here, node_here, links_here}
use Rattle.psac_values.specs.declared.view.ValueView.{ValueView}
use Rattle.psac_reclaim.specs.Gave.{ValuesGave, Cleaned, slots_of, sets_of}
use Rattle.psac_reclaim.proofs.Giving.{values_none}
use Rattle.psac_reclaim.proofs.Taking.{sets_are}
use Rattle.psac_reclaim.proofs.part.give_part.Goals as goal

pub give_made-requires-clause-out : goal.give_made-requires-clause-out
give_made-requires-clause-out c = (c.requires.made c.deref.result.now.modifiable (subst (λ (p : Part). Member c.deref.result.now.modifiable (made_here (part_of p))) (sym c.in-Made.is) (inl (sym (ap (λ x. x.modifiable) c.deref.ensures))))).0

pub give_made-requires-clause-next : goal.give_made-requires-clause-next
give_made-requires-clause-next c = (c.requires.made c.deref.result.now.modifiable (subst (λ (p : Part). Member c.deref.result.now.modifiable (made_here (part_of p))) (sym c.in-Made.is) (inl (sym (ap (λ x. x.modifiable) c.deref.ensures))))).1

pub give_node-requires-clause-may : goal.give_node-requires-clause-may
give_node-requires-clause-may c = c.requires.node c.deref-in-Step.result.now.node (subst (λ (p : Part). Member c.deref-in-Step.result.now.node (node_here (part_of p))) (sym c.in-Step.is) (inl (sym (ap (λ x. x.node) c.deref-in-Step.ensures))))

pub give_node-requires-in-Both-clause-may : goal.give_node-requires-in-Both-clause-may
give_node-requires-in-Both-clause-may c = c.requires.node c.deref-in-Both.result.now.node (subst (λ (p : Part). Member c.deref-in-Both.result.now.node (node_here (part_of p))) (sym c.in-Both.is) (inl (sym (ap (λ x. x.node) c.deref-in-Both.ensures))))

pub give_node-requires-in-Block-clause-may : goal.give_node-requires-in-Block-clause-may
give_node-requires-in-Block-clause-may c = c.requires.node c.deref-in-Block.result.now.reading.node (subst (λ (p : Part). Member c.deref-in-Block.result.now.reading.node (node_here (part_of p))) (sym c.in-Block.is) (inl (sym (ap (λ x. x.reading.node) c.deref-in-Block.ensures))))

pub sweep_all-requires-clause-reads : goal.sweep_all-requires-clause-reads
sweep_all-requires-clause-reads c = λ s m.
    let e : c.as_slice.result.now ≡ c.in-Block.place.value.reading.reads = c.as_slice.ensures ∙ ap (λ x. x.reading.reads) c.deref-in-Block-2.ensures in
    let g = c.requires.reads (stands c.in-Block.place.value.reading.node s) (subst (λ (p : Part). Member (stands c.in-Block.place.value.reading.node s) (links_here (part_of p))) (sym c.in-Block.is)
    (map_member (stands c.in-Block.place.value.reading.node) s c.in-Block.place.value.reading.reads (subst (λ (z : List Seen). Member s z) e m))) in
    record { inside = g.inside; low = g.low; left = g.left }

pub returns-in-Block-clause-readers : goal.returns-in-Block-clause-readers
returns-in-Block-clause-readers c =
    let e : c.as_slice.result.now ≡ c.in-Block.place.value.reading.reads = c.as_slice.ensures ∙ ap (λ x. x.reading.reads) c.deref-in-Block-2.ensures in
    subst (λ (z : List ℕ). Cleaned z c.args.readers.now.knows c.sweep_all.new.pass.knows) (ap slots_of e ∙ sym (sets_are c.in-Block.place.value.reading.node c.in-Block.place.value.reading.reads) ∙ sym (ap (λ (p : Part). sets_of (links_here (part_of p))) c.in-Block.is)) c.sweep_all.ensures.cleaned

-- in all other cases no modifiable goes back
none_here : (part other : Part) (v : ValueView) → part ≡ other → ValuesGave (made_here (part_of other)) v v
    → ValuesGave (made_here (part_of part)) v v
none_here part other v e g = subst (λ (p : Part). ValuesGave (made_here (part_of p)) v v) (sym e) g

pub returns-in-End-clause-values : goal.returns-in-End-clause-values
returns-in-End-clause-values c = none_here c.args.part.now _ c.args.values.now.knows c.in-End.is (values_none c.args.values.now.knows c.requires.begun.0)

pub returns-in-Wrote-clause-values : goal.returns-in-Wrote-clause-values
returns-in-Wrote-clause-values c = none_here c.args.part.now _ c.args.values.now.knows c.in-Wrote.is (values_none c.args.values.now.knows c.requires.begun.0)

pub returns-in-Step-clause-values : goal.returns-in-Step-clause-values
returns-in-Step-clause-values c = none_here c.args.part.now _ c.args.values.now.knows c.in-Step.is (values_none c.args.values.now.knows c.requires.begun.0)

pub returns-in-Both-clause-values : goal.returns-in-Both-clause-values
returns-in-Both-clause-values c = none_here c.args.part.now _ c.args.values.now.knows c.in-Both.is (values_none c.args.values.now.knows c.requires.begun.0)

pub returns-in-Block-clause-values : goal.returns-in-Block-clause-values
returns-in-Block-clause-values c = none_here c.args.part.now _ c.args.values.now.knows c.in-Block.is (values_none c.args.values.now.knows c.requires.begun.0)
