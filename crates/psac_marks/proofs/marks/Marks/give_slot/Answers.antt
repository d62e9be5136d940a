use Rattle.psac_marks.proofs.Terms.{refl, sym, ap, subst, ◌∙◌, inr, Handle, Pass, MarksView, released, Childless}
use Rattle.psac_marks.proofs.marks.Marks.give_slot.Goals as goal

pub put_back-requires-clause-children : goal.put_back-requires-clause-children
put_back-requires-clause-children c = subst (λ (p : Pass MarksView). Childless p.knows c.args.slot) (sym c.in-Some.ensures.same) c.requires.children

pub put_back-requires-clause-next : goal.put_back-requires-clause-next
put_back-requires-clause-next c = c.requires.next (record { slot = c.args.slot; generation = c.in-Some.generation }) c.in-Some.ensures.out.0

pub returns-in-Some-clause-gave : goal.returns-in-Some-clause-gave
returns-in-Some-clause-gave c =
    let g : Handle = record { slot = c.args.slot; generation = c.in-Some.generation } in
    inr (g, c.in-Some.ensures.out.0, refl, c.put_back.ensures.gave ∙ ap (λ (p : Pass MarksView). released g p.knows) c.in-Some.ensures.same)
