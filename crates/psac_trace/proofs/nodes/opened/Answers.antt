use Rattle.std.proofs.Common.{◌≡◌, List, [], ◌∷◌, map, Some, IfOk, IfErr, refl, ap, sym, ◌∙◌, subst}
use Rattle.psac_ops.specs.declared.plain.Handle.{Handle}
use Rattle.psac_marks.specs.Passes.{Keeps}
use Rattle.psac_plain.specs.Running.{reads_view}
use Rattle.psac_record.specs.declared.parts.Seen.{Seen as Linked}
use Rattle.psac_record.specs.Kept.{reads_of, stands}
use Rattle.psac_trace.specs.declared.halt.Halt.{Halt}
use Rattle.psac_trace.specs.Running.{Opens, HaltsFor, nodes_only, links_only}
use Rattle.psac_trace.proofs.Reading.{unlinked, unlinked_reads, unbegun, unbegun_is, step_halt, block_halt, block_opens, block_keeps, node_keeps, links_halt, memory_lost}
use Rattle.psac_trace.proofs.nodes.opened.Goals as goal

abbrev no_handle : Handle
no_handle = record { slot = 0; generation = 0 }

pub returns-in-Err-clause-err : goal.returns-in-Err-clause-err
returns-in-Err-clause-err c =
    let t = c.args.tables.now in
    let p = c.args.pass in
    let q = c.stepped-first.result.1 in
    let seen = c.args.seen.now in
    let r = unbegun c.args.level c.args.number c.args.env.now no_handle (map unlinked seen) in
    (no_handle, r, unbegun_is c.args.level c.args.number c.args.env.now (reads_view seen) no_handle (map unlinked seen) (unlinked_reads seen), step_halt t p q c.args.parent no_handle r c.in-Err.halt (subst (λ z. IfErr z (HaltsFor t p q (nodes_only ((no_handle, c.args.parent) ∷ [])))) c.in-Err.is (c.stepped-first.ensures.err no_handle)))

pub returns-in-Err-second-clause-err : goal.returns-in-Err-second-clause-err
returns-in-Err-second-clause-err c =
    let t = c.args.tables.now in
    let p = c.args.pass in
    let p1 = c.stepped-first.result.1 in
    let p2 = c.stepped-second.result.1 in
    let node = c.in-Ok.node in
    let seen = c.args.seen.now in
    let one = subst (λ z. IfOk z (λ (h : Handle). Opens t p p1 (nodes_only ((h, c.args.parent) ∷ [])) × Keeps p1.marks.knows h)) c.in-Ok.is c.stepped-first.ensures.ok in
    let r = unbegun c.args.level c.args.number c.args.env.now no_handle (map unlinked seen) in
    (node, r, unbegun_is c.args.level c.args.number c.args.env.now (reads_view seen) no_handle (map unlinked seen) (unlinked_reads seen), block_halt t p p1 p2 p2 c.args.parent node one.0 r c.in-Err-second.halt (subst (λ z. IfErr z (HaltsFor t p1 p2 (nodes_only ((no_handle, Some node) ∷ [])))) c.in-Err-second.is (c.stepped-second.ensures.err no_handle)))

pub returns-in-Ok-begun-clause-ok : goal.returns-in-Ok-begun-clause-ok
returns-in-Ok-begun-clause-ok c =
    let t = c.args.tables.now in
    let p = c.args.pass in
    let p1 = c.stepped-first.result.1 in
    let p2 = c.stepped-second.result.1 in
    let p3 = c.linked-all.result.1 in
    let node = c.in-Ok.node in
    let block = c.in-Ok-second.block in
    let all = c.in-Ok-all.all.items in
    let one = subst (λ z. IfOk z (λ (h : Handle). Opens t p p1 (nodes_only ((h, c.args.parent) ∷ [])) × Keeps p1.marks.knows h)) c.in-Ok.is c.stepped-first.ensures.ok in
    let two = subst (λ z. IfOk z (λ (h : Handle). Opens t p1 p2 (nodes_only ((h, Some node) ∷ [])) × Keeps p2.marks.knows h)) c.in-Ok-second.is c.stepped-second.ensures.ok in
    let op = subst (λ z. IfOk z (λ x. Opens t p2 p3 (links_only (map (stands block) x.items)) × (reads_of x.items ≡ reads_view c.args.seen.now))) c.in-Ok-all.is c.linked-all.ensures.ok in
    let r = c.in-Ok-begun.reading in
    let e = c.in-Ok-begun.ensures in (
      block_opens t p p1 p2 p3 c.args.parent node one.0 block two.0 all r op.0 e.1 (e.2 ∙ c.deref.ensures.value),
      block_keeps t p p1 p2 p3 c.args.parent node one.0 block two.0 all op.0 node (node_keeps t p p1 p2 p3 c.args.parent node one.0 block two.0 node one.1),
      subst (λ z. Keeps p3.marks.knows z) (sym e.1) (block_keeps t p p1 p2 p3 c.args.parent node one.0 block two.0 all op.0 block two.1),
      record { level = e.0.level; block = e.0.block; env = e.0.env; reads = e.0.reads ∙ ap reads_of c.deref.ensures.value ∙ op.1 },
    )

pub returns-in-Ok-all-clause-err : goal.returns-in-Ok-all-clause-err
returns-in-Ok-all-clause-err c =
    let t = c.args.tables.now in
    let p = c.args.pass in
    let p1 = c.stepped-first.result.1 in
    let p2 = c.stepped-second.result.1 in
    let p3 = c.linked-all.result.1 in
    let node = c.in-Ok.node in
    let block = c.in-Ok-second.block in
    let all = c.in-Ok-all.all.items in
    let one = subst (λ z. IfOk z (λ (h : Handle). Opens t p p1 (nodes_only ((h, c.args.parent) ∷ [])) × Keeps p1.marks.knows h)) c.in-Ok.is c.stepped-first.ensures.ok in
    let two = subst (λ z. IfOk z (λ (h : Handle). Opens t p1 p2 (nodes_only ((h, Some node) ∷ [])) × Keeps p2.marks.knows h)) c.in-Ok-second.is c.stepped-second.ensures.ok in
    let op = subst (λ z. IfOk z (λ x. Opens t p2 p3 (links_only (map (stands block) x.items)) × (reads_of x.items ≡ reads_view c.args.seen.now))) c.in-Ok-all.is c.linked-all.ensures.ok in
    let r = unbegun c.args.level c.args.number c.args.env.now block all in
    (node, r, unbegun_is c.args.level c.args.number c.args.env.now (reads_view c.args.seen.now) block all op.1, memory_lost t p p3 _ (block_opens t p p1 p2 p3 c.args.parent node one.0 block two.0 all r op.0 refl refl))

pub returns-clause-err : goal.returns-clause-err
returns-clause-err c =
    let t = c.args.tables.now in
    let p = c.args.pass in
    let p1 = c.stepped-first.result.1 in
    let p2 = c.stepped-second.result.1 in
    let p3 = c.linked-all.result.1 in
    let node = c.in-Ok.node in
    let block = c.in-Ok-second.block in
    let one = subst (λ z. IfOk z (λ (h : Handle). Opens t p p1 (nodes_only ((h, c.args.parent) ∷ [])) × Keeps p1.marks.knows h)) c.in-Ok.is c.stepped-first.ensures.ok in
    let two = subst (λ z. IfOk z (λ (h : Handle). Opens t p1 p2 (nodes_only ((h, Some node) ∷ [])) × Keeps p2.marks.knows h)) c.in-Ok-second.is c.stepped-second.ensures.ok in
    let w = subst (λ z. IfErr z (λ (h : Halt). (x : List Linked) × (reads_of x ≡ reads_view c.args.seen.now) × HaltsFor t p2 p3 (links_only (map (stands block) x)) h)) c.in-Err-all.is c.linked-all.ensures.err in
    let r = unbegun c.args.level c.args.number c.args.env.now block w.0 in
    (node, r, unbegun_is c.args.level c.args.number c.args.env.now (reads_view c.args.seen.now) block w.0 w.1, links_halt t p p1 p2 p3 c.args.parent node one.0 block two.0 w.0 r c.in-Err-all.halt refl refl w.2)
