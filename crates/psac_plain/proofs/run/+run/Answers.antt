use Rattle.std.proofs.Common.{arith, ◌∙◌, [], ◌∷◌, ◌++◌}
use Rattle.std.proofs.lemmas.Result.{IfOk-weaker}
use Rattle.psac_model.specs.Run.{run}
use Rattle.psac_plain.specs.Slots.{slots, setting_by, env_of}
use Rattle.psac_plain.specs.Running.{places_of, action_view}
use Rattle.psac_plain.proofs.Arms.{run_empty, run_deep, run_stop, run_acts, body_splits, rest_is, at_bind, at_make, at_branch, at_called, at_reads, at_pair}
use Rattle.psac_plain.proofs.run.+run.Goals as goal

pub run_body-returns-in_default : goal.run_body-returns-in_default
run_body-returns-in_default t c = λ path. run_empty _ _ c.args.room c.args.body.now _ _ path _ c.in_default.len_below

pub run_body-returns-then-room-eq0 : goal.run_body-returns-then-room-eq0
run_body-returns-then-room-eq0 t c = λ path.
    run_deep _ _ _ _ c.s-item.result _ _ _ path _ c.if-room-eq0.true (body_splits _ _ c.in-len1-up.len_at_least c.s-item.is) c.line.ensures

pub run_body-returns-in-Ok : goal.run_body-returns-in-Ok
run_body-returns-in-Ok t c =
    IfOk-weaker c.act_on.result _ _ (λ end h path.
    run_acts _ _ c.args.room c.args.body.now c.s-item.result (action_view (env_of c.args.env.items) c.in-Ok.action) (env_of c.args.env.items) (places_of c.args.heap.now.items) path end _ _ _ (omega arith)
    (body_splits _ _ c.in-len1-up.len_at_least c.s-item.is) (rw (← c.deref.ensures.value, ← c.deref-2.ensures.value) c.in-Ok.ensures) (rw (← rest_is c.args.body.now) (h path))) c.act_on.ensures

pub run_body-returns-in-Fault : goal.run_body-returns-in-Fault
run_body-returns-in-Fault t c = λ path.
    let e = rw c.in-Fault.is at c.in-Err.ensures in
    run_stop _ _ c.args.room c.args.body.now c.s-item.result _ c.in-Fault.kind (env_of c.args.env.items) (places_of c.args.heap.now.items) path _ (omega arith) (body_splits _ _ c.in-len1-up.len_at_least c.s-item.is) c.line-in-Fault.ensures (rw (← c.deref.ensures.value, ← c.deref-2.ensures.value) e)

pub act_on-returns-in_ok-bind_to-in-Bind : goal.act_on-returns-in_ok-bind_to-in-Bind
act_on-returns-in_ok-bind_to-in-Bind t c =
    let deeper = run slots (setting_by c.args.opening.now) c.args.funcs.now c.args.room in
    rw c.in-Bind.is
    (IfOk-weaker c.run_body.result _ _ (λ end h path. at_bind deeper c.args.rest.now c.args.env.items _ c.in-Bind.name c.in-Bind.value (places_of c.args.heap.now.items) path end _ _ _ c.in_ok-bind_to-in-Bind.ensures (h path)) c.run_body.ensures)

pub act_on-returns-in_ok-bind_to-in-Make : goal.act_on-returns-in_ok-bind_to-in-Make
act_on-returns-in_ok-bind_to-in-Make t c =
    let deeper = run slots (setting_by c.args.opening.now) c.args.funcs.now c.args.room in
    rw c.in-Make.is
    (IfOk-weaker c.run_body-in-Make.result _ _ (λ end h path. at_make deeper c.args.rest.now c.args.env.items _ c.in-Make.name c.in_ok-made-in-Make.made c.args.heap.now.items _ path end _ _ _ _ c.in_ok-made-in-Make.ensures.made c.in_ok-made-in-Make.ensures.heap c.grow.ensures c.in_ok-bind_to-in-Make.ensures (h (path ++ 3 ∷ []))) c.run_body-in-Make.ensures)

pub act_on-returns-in_ok-end-in-Branch : goal.act_on-returns-in_ok-end-in-Branch
act_on-returns-in_ok-end-in-Branch t c =
    rw c.in-Branch.is
    (IfOk-weaker c.go_on.result _ _ (λ told h. at_branch (setting_by c.args.opening.now) c.args.funcs.now c.args.room c.args.rest.now c.in-Branch.body.now c.in_ok-inner-in-Branch.inner.items c.args.env.items c.inner_env.new.env.items (places_of c.args.heap.now.items) _ _ c.in_ok-end-in-Branch.end told c.args.size.now _ _ _ c.grow-in-Branch.ensures c.in_ok-inner-in-Branch.ensures.inner c.in_ok-inner-in-Branch.ensures.kept c.in_ok-end-in-Branch.ensures h) c.go_on.ensures)

pub act_on-returns-in_ok-end-in-Called : goal.act_on-returns-in_ok-end-in-Called
act_on-returns-in_ok-end-in-Called t c =
    rw c.in-Called.is
    (IfOk-weaker c.go_on-in-Called.result _ _ (λ told h. at_called (setting_by c.args.opening.now) c.args.funcs.now c.args.room c.args.rest.now c.in-Called.body.now (env_of c.in-Called.inner.items) (env_of c.args.env.items) (places_of c.args.heap.now.items) _ _ c.in_ok-end-in-Called.end told c.args.size.now _ _ _ c.grow-in-Called.ensures c.in_ok-end-in-Called.ensures h) c.go_on-in-Called.ensures)

pub act_on-returns-in_ok-end-in-Block : goal.act_on-returns-in_ok-end-in-Block
act_on-returns-in_ok-end-in-Block t c =
    rw c.in-Block.is
    (IfOk-weaker c.go_on-in-Block.result _ _ (λ told h. at_reads (setting_by c.args.opening.now) c.args.funcs.now c.args.room c.args.rest.now c.in-Block.field-0 c.in-Block.seen.items c.deref.result.now c.in-Block.items.now c.in-Block.body.now c.in_ok-inner-in-Block.inner.items c.args.env.items c.inner_env-in-Block.new.env.items c.bind_seen.new.env.items (places_of c.args.heap.now.items) _ _ c.in_ok-end-in-Block.end told c.len.result c.one_block.result c.args.size.now _ _ _ _ c.grow-in-Block.ensures c.grow-in-Block-2.ensures c.one_block.ensures (c.len.ensures ∙ c.in-Block.seen.ok.0) c.in_ok-inner-in-Block.ensures.inner c.deref.ensures.value c.in_ok-bind_seen-in-Block.ensures c.in_ok-inner-in-Block.ensures.kept c.in_ok-end-in-Block.ensures h) c.go_on-in-Block.ensures)

pub act_on-returns-in_ok-second-in-Sides : goal.act_on-returns-in_ok-second-in-Sides
act_on-returns-in_ok-second-in-Sides t c =
    rw c.in-Sides.is
    (IfOk-weaker c.go_on-in-Sides.result _ _ (λ told h. at_pair (setting_by c.args.opening.now) c.args.funcs.now c.args.room c.args.rest.now c.in-Sides.left.now c.in-Sides.right.now c.in_ok-copy-in-Sides.copy.items c.deref-in-Sides.result.now c.in_ok-again-in-Sides.again.items c.args.env.items c.inner_env-in-Sides.new.env.items (places_of c.args.heap.now.items) _ _ _ c.in_ok-first-in-Sides.first c.in_ok-second-in-Sides.second c.first_stop-end.result told c.args.size.now _ _ _ _ _ c.grow-in-Sides.ensures c.grow-in-Sides-2.ensures c.in_ok-copy-in-Sides.ensures.items c.deref-in-Sides.ensures.value c.in_ok-again-in-Sides.ensures.inner c.in_ok-again-in-Sides.ensures.kept c.first_stop-end.ensures c.in_ok-first-in-Sides.ensures c.in_ok-second-in-Sides.ensures h) c.go_on-in-Sides.ensures)
