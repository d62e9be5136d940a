use Rattle.std.proofs.Common.{sym, subst}
use Rattle.psac_ops.specs.declared.plain.Handle.{Handle}
use Rattle.psac_marks.specs.Steps.{dropping}
use Rattle.psac_marks.specs.Passes.{Owns, Bare}
use Rattle.psac_record.specs.Shown.{kept_of}
use Rattle.psac_repair.specs.Taken.{nodes_up}
use Rattle.psac_repair.proofs.Grafting.{bare_owns, bare_block}
use Rattle.psac_repair.proofs.redo.bared.Goals as goal

pub clear-requires-clause-own : goal.clear-requires-clause-own
clear-requires-clause-own c =
    let q = c.requires.stands in
    let m = c.args.pass.marks.knows in
    let t = kept_of c.args.inner.now in
    subst (λ z. Owns z c.args.node) (sym c.detach_nodes.ensures.detached) (subst (Owns (dropping (nodes_up t) m)) q.3 (bare_owns m q.0 q.1 q.2 t q.4))

pub clear-requires-clause-bare : goal.clear-requires-clause-bare
clear-requires-clause-bare c =
    let q = c.requires.stands in
    let m = c.args.pass.marks.knows in
    let t = kept_of c.args.inner.now in
    subst (λ z. Bare z c.args.node.slot) (sym c.detach_nodes.ensures.detached) (subst (λ (h : Handle). Bare (dropping (nodes_up t) m) h.slot) q.3 (bare_block m q.0 q.1 q.2 t q.4))
