use Rattle.std.proofs.Common.{◌≡◌, ◌<◌, ◌-◌, List, Some, ap, sym, subst, refl, ◌∙◌, arith}
use Rattle.psac_ops.specs.declared.plain.Handle.{Handle}
use Rattle.psac_ops.specs.Named.{value_of as plain_value}
use Rattle.psac_model.specs.Fresh.{levels}
use Rattle.psac_model.specs.Run.{Action, Make, Put, Body, Block, with_reads}
use Rattle.psac_plain.specs.declared.ask.Seen.{Seen}
use Rattle.psac_plain.specs.declared.binding.Binding.{Binding}
use Rattle.psac_plain.specs.Slots.{env_of}
use Rattle.psac_plain.specs.Running.{action_view, reads_view}
use Rattle.psac_record.specs.Kept.{E, A, W, S, P, R}
use Rattle.psac_record.specs.Shown.{kept_of}
use Rattle.psac_trace.specs.Told.{did, ended_of, halted}
use Rattle.psac_trace.specs.Running.{Begins, Leaves}
use Rattle.psac_trace.specs.Worlds.{BeginsIn, LeavesIn, LeavesAfterIn}
use Rattle.psac_trace.proofs.Handing.{site, stepped_on, stepped_not, opened_on, opened_not, acts_begin, acts_leave}
use Rattle.psac_trace.proofs.Passes.{leaves_unbound, begins_bind, leaves_bind, leaves_unnamed, begins_make, leaves_make_on, leaves_full}
use Rattle.psac_trace.proofs.Passes.{put_may, put_mine, begins_put, leaves_put_on}
use Rattle.psac_trace.proofs.Passes.{begins_any, after_halt, leaves_no_inner, begins_inner, begins_after_inner, leaves_inner}
use Rattle.psac_trace.proofs.Passes.{leaves_no_block, leaves_unentered, begins_block, begins_after_block, leaves_block}
use Rattle.psac_trace.proofs.Passes.{leaves_no_par, begins_par, begins_after_par, leaves_par, leaves_no_sides, begins_first, leaves_out}
use Rattle.psac_trace.proofs.Passes.{begins_second, leaves_second, begins_left, begins_right, join_sides, leaves_joined}
use Rattle.psac_trace.proofs.Passes.{leaves_end, whole_is, leaves_deep, asks, leaves_stop, begins_act, leaves_act_on}
use Rattle.psac_trace.proofs.run.+run.Goals as goal

-- what an action asks for

pub act_on-run_body-requires-after_bounds : goal.act_on-run_body-requires-after_bounds
act_on-run_body-requires-after_bounds g n c κs within =
    let env = env_of c.args.env.now in
    let at = site c.args.world.now c.args.level c.args.rest.now env c.args.parent c.args.pass in
    begins_bind at (action_view env c.args.action) c.in-Bind.name (plain_value c.in-Bind.value) (env_of c.deref.result.now) (ap (action_view env) c.in-Bind.is) (ap env_of c.deref.ensures.value ∙ c.in-Ok.ensures) c.requires

pub act_on-returns-in-Ok : goal.act_on-returns-in-Ok
act_on-returns-in-Ok g n c =
    let env = env_of c.args.env.now in
    let at = site c.args.world.now c.args.level c.args.rest.now env c.args.parent c.args.pass in
    let k = c.run_body.ensures in
    (k.0, leaves_bind at (action_view env c.args.action) c.in-Bind.name (plain_value c.in-Bind.value) (env_of c.deref.result.now) (ap (action_view env) c.in-Bind.is) (ap env_of c.deref.ensures.value ∙ c.in-Ok.ensures) c.run_body.result.1 (ended_of k.0 c.run_body.result.0) k.1)

pub act_on-returns-in-Err : goal.act_on-returns-in-Err
act_on-returns-in-Err g n c =
    let env = env_of c.args.env.now in
    let at = site c.args.world.now c.args.level c.args.rest.now env c.args.parent c.args.pass in
    (E, leaves_unbound at (action_view env c.args.action) c.in-Bind.name (plain_value c.in-Bind.value) (ap (action_view env) c.in-Bind.is) c.requires)

pub act_on-run_new-requires-after_bounds : goal.act_on-run_new-requires-after_bounds
act_on-run_new-requires-after_bounds g n c κs within =
    let env = env_of c.args.env.now in
    let at = site c.args.world.now c.args.level c.args.rest.now env c.args.parent c.args.pass in
    acts_begin at _ _ (ap (action_view env) c.in-Make.is) c.requires

pub act_on-returns-in-Make : goal.act_on-returns-in-Make
act_on-returns-in-Make g n c =
    let env = env_of c.args.env.now in
    let at = site c.args.world.now c.args.level c.args.rest.now env c.args.parent c.args.pass in
    acts_leave at _ _ (ap (action_view env) c.in-Make.is) c.run_new.result.1 c.run_new.result.0 c.run_new.ensures

pub act_on-run_put-requires-after_bounds : goal.act_on-run_put-requires-after_bounds
act_on-run_put-requires-after_bounds g n c κs within =
    let env = env_of c.args.env.now in
    let at = site c.args.world.now c.args.level c.args.rest.now env c.args.parent c.args.pass in
    acts_begin at _ _ (ap (action_view env) c.in-Put.is) c.requires

pub act_on-returns-in-Put : goal.act_on-returns-in-Put
act_on-returns-in-Put g n c =
    let env = env_of c.args.env.now in
    let at = site c.args.world.now c.args.level c.args.rest.now env c.args.parent c.args.pass in
    acts_leave at _ _ (ap (action_view env) c.in-Put.is) c.run_put.result.1 c.run_put.result.0 c.run_put.ensures

pub act_on-run_inner-requires-after_bounds : goal.act_on-run_inner-requires-after_bounds
act_on-run_inner-requires-after_bounds g n c κs within =
    let env = env_of c.args.env.now in
    let at = site c.args.world.now c.args.level c.args.rest.now env c.args.parent c.args.pass in
    acts_begin at _ _ (ap (action_view env) c.in-Branch.is) c.requires

pub act_on-returns-in-Branch : goal.act_on-returns-in-Branch
act_on-returns-in-Branch g n c =
    let env = env_of c.args.env.now in
    let at = site c.args.world.now c.args.level c.args.rest.now env c.args.parent c.args.pass in
    acts_leave at _ _ (ap (action_view env) c.in-Branch.is) c.run_inner.result.1 c.run_inner.result.0 c.run_inner.ensures

pub act_on-run_inner-requires-in-Called-after_bounds : goal.act_on-run_inner-requires-in-Called-after_bounds
act_on-run_inner-requires-in-Called-after_bounds g n c κs within =
    let env = env_of c.args.env.now in
    let at = site c.args.world.now c.args.level c.args.rest.now env c.args.parent c.args.pass in
    let called : List Binding → Action Handle = λ l. Body c.in-Called.body.now (env_of l) in
    acts_begin at _ _ (ap (action_view env) c.in-Called.is ∙ ap called (sym c.deref-in-Called.ensures.value)) c.requires

pub act_on-returns-in-Called : goal.act_on-returns-in-Called
act_on-returns-in-Called g n c =
    let env = env_of c.args.env.now in
    let at = site c.args.world.now c.args.level c.args.rest.now env c.args.parent c.args.pass in
    let called : List Binding → Action Handle = λ l. Body c.in-Called.body.now (env_of l) in
    let ran = c.run_inner-in-Called in
    acts_leave at _ _ (ap (action_view env) c.in-Called.is ∙ ap called (sym c.deref-in-Called.ensures.value)) ran.result.1 ran.result.0 ran.ensures

pub act_on-run_read-requires-after_bounds : goal.act_on-run_read-requires-after_bounds
act_on-run_read-requires-after_bounds g n c κs within =
    let env = env_of c.args.env.now in
    let at = site c.args.world.now c.args.level c.args.rest.now env c.args.parent c.args.pass in
    let b = c.in-Block in
    let block : List Seen → Action Handle = λ l. Block b.number (reads_view l) b.body.now (with_reads env b.items.now (reads_view l)) in
    acts_begin at _ _ (ap (action_view env) b.is ∙ ap block (sym c.deref-in-Block.ensures.value)) c.requires

pub act_on-returns-in-Block : goal.act_on-returns-in-Block
act_on-returns-in-Block g n c =
    let env = env_of c.args.env.now in
    let at = site c.args.world.now c.args.level c.args.rest.now env c.args.parent c.args.pass in
    let b = c.in-Block in
    let block : List Seen → Action Handle = λ l. Block b.number (reads_view l) b.body.now (with_reads env b.items.now (reads_view l)) in
    acts_leave at _ _ (ap (action_view env) b.is ∙ ap block (sym c.deref-in-Block.ensures.value)) c.run_read.result.1 c.run_read.result.0 c.run_read.ensures

pub act_on-run_par-requires-after_bounds : goal.act_on-run_par-requires-after_bounds
act_on-run_par-requires-after_bounds g n c κs within =
    let env = env_of c.args.env.now in
    let at = site c.args.world.now c.args.level c.args.rest.now env c.args.parent c.args.pass in
    acts_begin at _ _ (ap (action_view env) c.in-Sides.is) c.requires

pub act_on-returns-in-Sides : goal.act_on-returns-in-Sides
act_on-returns-in-Sides g n c =
    let env = env_of c.args.env.now in
    let at = site c.args.world.now c.args.level c.args.rest.now env c.args.parent c.args.pass in
    acts_leave at _ _ (ap (action_view env) c.in-Sides.is) c.run_par.result.1 c.run_par.result.0 c.run_par.ensures

-- new

pub run_new-run_body-r-requires-after_bounds : goal.run_new-run_body-r-requires-after_bounds
run_new-run_body-r-requires-after_bounds g n c κs within =
    let at = site c.args.world.now c.args.level c.args.rest.now (env_of c.args.env.now) c.args.parent c.args.pass in
    let k = c.in-Ok.ensures in
    begins_make at (Make c.args.name) c.args.name c.in-Ok.m _ c.requires (record { table = k.table; readers = refl; marks = refl }) k.ok k.new k.room (env_of c.deref.result.now) refl (ap env_of c.deref.ensures.value ∙ c.in-Ok-bound_in.ensures)

pub run_new-returns-in-Ok-bound_in : goal.run_new-returns-in-Ok-bound_in
run_new-returns-in-Ok-bound_in g n c =
    let at = site c.args.world.now c.args.level c.args.rest.now (env_of c.args.env.now) c.args.parent c.args.pass in
    let k = c.in-Ok.ensures in
    let m = c.in-Ok.m in
    let l = c.run_body-r.ensures in
    let last = A m (did l.0 c.run_body-r.result.0) in
    (last, leaves_make_on at (Make c.args.name) _ c.run_body-r.result.1 (ended_of l.0 c.run_body-r.result.0) (ended_of last c.after_made.result) c.args.name m (env_of c.deref.result.now) l.1 c.requires (record { table = k.table; readers = refl; marks = refl }) k.ok k.new k.room refl (ap env_of c.deref.ensures.value ∙ c.in-Ok-bound_in.ensures) (c.after_made.ensures l.0))

pub run_new-returns-in-Err-bound_in : goal.run_new-returns-in-Err-bound_in
run_new-returns-in-Err-bound_in g n c =
    let at = site c.args.world.now c.args.level c.args.rest.now (env_of c.args.env.now) c.args.parent c.args.pass in
    let k = c.in-Ok.ensures in
    (A c.in-Ok.m E, leaves_unnamed at (Make c.args.name) c.args.name c.in-Ok.m _ c.requires (record { table = k.table; readers = refl; marks = refl }) k.ok k.new k.room refl)

pub run_new-returns-in-Err : goal.run_new-returns-in-Err
run_new-returns-in-Err g n c =
    let at = site c.args.world.now c.args.level c.args.rest.now (env_of c.args.env.now) c.args.parent c.args.pass in
    let k = c.in-Err.ensures in
    (E, leaves_full at (Make c.args.name) _ c.in-Err.full c.args.name c.requires (record { table = k.table; readers = refl; marks = refl }) k.full.0 k.full.1 k.full.2 refl)

-- write

pub run_put-warned-pass-requires-clause-of : goal.run_put-warned-pass-requires-clause-of
run_put-warned-pass-requires-clause-of g n c = c.requires.of

pub run_put-warned-pass-requires-clause-may : goal.run_put-warned-pass-requires-clause-may
run_put-warned-pass-requires-clause-may g n c =
    let at = site c.args.world.now c.args.level c.args.rest.now (env_of c.args.env.now) c.args.parent c.args.pass in
    let words = c.to_words-words in
    put_may at (Put c.args.m (plain_value c.args.v)) c.args.m c.args.v words.result refl words.ensures.words words.ensures.back c.requires

pub run_put-write-requires-clause-mine : goal.run_put-write-requires-clause-mine
run_put-write-requires-clause-mine g n c =
    let at = site c.args.world.now c.args.level c.args.rest.now (env_of c.args.env.now) c.args.parent c.args.pass in
    let words = c.to_words-words in
    put_mine at (Put c.args.m (plain_value c.args.v)) c.args.m c.args.v words.result refl words.ensures.words words.ensures.back c.requires c.warned-pass.result c.warned-pass.ensures

pub run_put-run_body-r-requires-after_bounds : goal.run_put-run_body-r-requires-after_bounds
run_put-run_body-r-requires-after_bounds g n c κs within =
    let at = site c.args.world.now c.args.level c.args.rest.now (env_of c.args.env.now) c.args.parent c.args.pass in
    let words = c.to_words-words in
    begins_put at (Put c.args.m (plain_value c.args.v)) c.args.m c.args.v words.result refl words.ensures.words words.ensures.back c.requires c.warned-pass.result c.warned-pass.ensures _ (record { table = c.write.ensures.table; readers = refl; marks = refl }) c.write.ensures.wrote

pub run_put-returns : goal.run_put-returns
run_put-returns g n c =
    let at = site c.args.world.now c.args.level c.args.rest.now (env_of c.args.env.now) c.args.parent c.args.pass in
    let words = c.to_words-words in
    let l = c.run_body-r.ensures in
    let last = W c.args.m c.args.v (did l.0 c.run_body-r.result.0) in
    (last, leaves_put_on at (Put c.args.m (plain_value c.args.v)) c.warned-pass.result _ c.run_body-r.result.1 (ended_of l.0 c.run_body-r.result.0) (ended_of last c.after_wrote.result) c.args.m c.args.v words.result l.1 c.requires refl words.ensures.words words.ensures.back c.warned-pass.ensures (record { table = c.write.ensures.table; readers = refl; marks = refl }) c.write.ensures.wrote (c.after_wrote.ensures l.0))

-- if and call

pub run_inner-run_body-t-requires-after_bounds : goal.run_inner-run_body-t-requires-after_bounds
run_inner-run_body-t-requires-after_bounds g n c κs within =
    let at = site c.args.world.now c.args.level c.args.rest.now (env_of c.args.env.now) c.args.parent c.args.pass in
    let s = stepped_on at c.stepped-claimed.result.1 _ c.in-Ok.node c.in-Ok.is c.stepped-claimed.ensures.ok in
    begins_inner at c.args.body.now (env_of c.args.inner.now) c.requires s

pub run_inner-go_on-requires-after_bounds : goal.run_inner-go_on-requires-after_bounds
run_inner-go_on-requires-after_bounds g n c κs within =
    let env = env_of c.args.env.now in
    let at = site c.args.world.now c.args.level c.args.rest.now env c.args.parent c.args.pass in
    let s = stepped_on at c.stepped-claimed.result.1 _ c.in-Ok.node c.in-Ok.is c.stepped-claimed.ensures.ok in
    let t = c.run_body-t.result.0 in
    let u = c.run_body-t.result.1 in
    let l = c.run_body-t.ensures in
    begins_any at.w at.funcs at.olds at.t s.node l.0 E t at.rest env u (begins_after_inner at c.args.body.now (env_of c.args.inner.now) c.requires s u (ended_of l.0 t) l.1)

pub run_inner-returns-in-Ok : goal.run_inner-returns-in-Ok
run_inner-returns-in-Ok g n c =
    let at = site c.args.world.now c.args.level c.args.rest.now (env_of c.args.env.now) c.args.parent c.args.pass in
    let s = stepped_on at c.stepped-claimed.result.1 _ c.in-Ok.node c.in-Ok.is c.stepped-claimed.ensures.ok in
    let l = c.run_body-t.ensures in
    let x = c.go_on.ensures l.0 in
    (x.0, leaves_inner at c.args.body.now (env_of c.args.inner.now) c.requires s c.run_body-t.result.1 (ended_of l.0 c.run_body-t.result.0) l.1 c.go_on.result.1 (ended_of x.0 c.go_on.result.0) x.1)

pub run_inner-returns-in-Err : goal.run_inner-returns-in-Err
run_inner-returns-in-Err g n c =
    let at = site c.args.world.now c.args.level c.args.rest.now (env_of c.args.env.now) c.args.parent c.args.pass in
    let nobody : Handle = record { slot = 0; generation = 0 } in
    let q = c.stepped-claimed.result.1 in
    let x = stepped_not at q _ nobody c.in-Err.halt c.in-Err.is (c.stepped-claimed.ensures.err nobody) in
    (S nobody E E, leaves_no_inner at c.args.body.now (env_of c.args.inner.now) c.requires q nobody c.in-Err.halt x)

-- read

pub run_read-run_body-t-requires-after_bounds : goal.run_read-run_body-t-requires-after_bounds
run_read-run_body-t-requires-after_bounds g n c κs within =
    let env = env_of c.args.env.now in
    let at = site c.args.world.now c.args.level c.args.rest.now env c.args.parent c.args.pass in
    let reads = reads_view c.args.seen.now in
    let inner = with_reads env c.args.items.now reads in
    let s = opened_on at c.opened-begun.result.1 c.args.level c.args.number reads _ c.in-Ok.node c.in-Ok.reading c.in-Ok.is c.opened-begun.ensures.ok in
    let env_is : env_of c.deref.result.now ≡ inner = ap env_of c.deref.ensures.value ∙ c.in-Ok-entered.ensures in
    subst (λ z. BeginsIn c.args.world.now c.args.body.now z (Some s.reading.node) s.pass) (sym env_is) (begins_block at c.args.number c.args.level reads c.args.body.now inner c.requires s)

pub run_read-go_on-requires-after_bounds : goal.run_read-go_on-requires-after_bounds
run_read-go_on-requires-after_bounds g n c κs within =
    let env = env_of c.args.env.now in
    let at = site c.args.world.now c.args.level c.args.rest.now env c.args.parent c.args.pass in
    let reads = reads_view c.args.seen.now in
    let inner = with_reads env c.args.items.now reads in
    let s = opened_on at c.opened-begun.result.1 c.args.level c.args.number reads _ c.in-Ok.node c.in-Ok.reading c.in-Ok.is c.opened-begun.ensures.ok in
    let env_is : env_of c.deref.result.now ≡ inner = ap env_of c.deref.ensures.value ∙ c.in-Ok-entered.ensures in
    let l = c.run_body-t.ensures in
    let u = c.run_body-t.result.1 in
    let e = ended_of l.0 c.run_body-t.result.0 in
    let last = R s.reading (did l.0 c.run_body-t.result.0) in
    let left = subst (λ z. LeavesIn c.args.world.now c.args.level c.args.body.now z (Some s.reading.node) s.pass u e) env_is l.1 in
    begins_any at.w at.funcs at.olds at.t s.node last E c.in_block-t.result at.rest env u (begins_after_block at c.args.number c.args.level reads c.args.body.now inner c.requires s u e (ended_of last c.in_block-t.result) (c.in_block-t.ensures l.0) left)

pub run_read-returns-in-Ok-entered : goal.run_read-returns-in-Ok-entered
run_read-returns-in-Ok-entered g n c =
    let env = env_of c.args.env.now in
    let at = site c.args.world.now c.args.level c.args.rest.now env c.args.parent c.args.pass in
    let reads = reads_view c.args.seen.now in
    let inner = with_reads env c.args.items.now reads in
    let s = opened_on at c.opened-begun.result.1 c.args.level c.args.number reads _ c.in-Ok.node c.in-Ok.reading c.in-Ok.is c.opened-begun.ensures.ok in
    let env_is : env_of c.deref.result.now ≡ inner = ap env_of c.deref.ensures.value ∙ c.in-Ok-entered.ensures in
    let l = c.run_body-t.ensures in
    let u = c.run_body-t.result.1 in
    let e = ended_of l.0 c.run_body-t.result.0 in
    let last = R s.reading (did l.0 c.run_body-t.result.0) in
    let left = subst (λ z. LeavesIn c.args.world.now c.args.level c.args.body.now z (Some s.reading.node) s.pass u e) env_is l.1 in
    let x = c.go_on.ensures last in
    (x.0, leaves_block at c.args.number c.args.level reads c.args.body.now inner c.requires s u e (ended_of last c.in_block-t.result) (c.in_block-t.ensures l.0) left refl c.go_on.result.1 (ended_of x.0 c.go_on.result.0) x.1)

pub run_read-returns-in-Err-entered : goal.run_read-returns-in-Err-entered
run_read-returns-in-Err-entered g n c =
    let env = env_of c.args.env.now in
    let at = site c.args.world.now c.args.level c.args.rest.now env c.args.parent c.args.pass in
    let reads = reads_view c.args.seen.now in
    let s = opened_on at c.opened-begun.result.1 c.args.level c.args.number reads _ c.in-Ok.node c.in-Ok.reading c.in-Ok.is c.opened-begun.ensures.ok in
    (S s.node (R s.reading E) E, leaves_unentered at c.args.number c.args.level reads c.args.body.now (with_reads env c.args.items.now reads) c.requires s.reading s.began refl s.node s.pass s.opens)

pub run_read-returns-in-Err : goal.run_read-returns-in-Err
run_read-returns-in-Err g n c =
    let env = env_of c.args.env.now in
    let at = site c.args.world.now c.args.level c.args.rest.now env c.args.parent c.args.pass in
    let reads = reads_view c.args.seen.now in
    let q = c.opened-begun.result.1 in
    let x = opened_not at q c.args.level c.args.number reads _ c.in-Err.halt c.in-Err.is c.opened-begun.ensures.err in
    (S x.0 (R x.1 E) E, leaves_no_block at c.args.number c.args.level reads c.args.body.now (with_reads env c.args.items.now reads) c.requires x.1 x.2 refl q x.0 c.in-Err.halt x.3)

-- par

pub run_par-run_both-t-requires-after_bounds : goal.run_par-run_both-t-requires-after_bounds
run_par-run_both-t-requires-after_bounds g n c κs within =
    let at = site c.args.world.now c.args.level c.args.rest.now (env_of c.args.env.now) c.args.parent c.args.pass in
    let s = stepped_on at c.stepped-claimed.result.1 _ c.in-Ok.node c.in-Ok.is c.stepped-claimed.ensures.ok in
    begins_par at c.args.left.now c.args.right.now c.requires s

pub run_par-go_on-requires-after_bounds : goal.run_par-go_on-requires-after_bounds
run_par-go_on-requires-after_bounds g n c κs within =
    let env = env_of c.args.env.now in
    let at = site c.args.world.now c.args.level c.args.rest.now env c.args.parent c.args.pass in
    let s = stepped_on at c.stepped-claimed.result.1 _ c.in-Ok.node c.in-Ok.is c.stepped-claimed.ensures.ok in
    let t = c.run_both-t.result.0 in
    let u = c.run_both-t.result.1 in
    let l = c.run_both-t.ensures in
    begins_any at.w at.funcs at.olds at.t s.node l.0 E t at.rest env u (begins_after_par at c.args.left.now c.args.right.now c.requires s u (ended_of l.0 t) l.1)

pub run_par-returns-in-Ok : goal.run_par-returns-in-Ok
run_par-returns-in-Ok g n c =
    let at = site c.args.world.now c.args.level c.args.rest.now (env_of c.args.env.now) c.args.parent c.args.pass in
    let s = stepped_on at c.stepped-claimed.result.1 _ c.in-Ok.node c.in-Ok.is c.stepped-claimed.ensures.ok in
    let l = c.run_both-t.ensures in
    let x = c.go_on.ensures l.0 in
    (x.0, leaves_par at c.args.left.now c.args.right.now c.requires s c.run_both-t.result.1 (ended_of l.0 c.run_both-t.result.0) l.1 c.go_on.result.1 (ended_of x.0 c.go_on.result.0) x.1)

pub run_par-returns-in-Err : goal.run_par-returns-in-Err
run_par-returns-in-Err g n c =
    let at = site c.args.world.now c.args.level c.args.rest.now (env_of c.args.env.now) c.args.parent c.args.pass in
    let nobody : Handle = record { slot = 0; generation = 0 } in
    let q = c.stepped-claimed.result.1 in
    let x = stepped_not at q _ nobody c.in-Err.halt c.in-Err.is (c.stepped-claimed.ensures.err nobody) in
    (S nobody E E, leaves_no_par at c.args.left.now c.args.right.now c.requires q nobody c.in-Err.halt x)

-- both sides

pub run_both-returns-in-Err : goal.run_both-returns-in-Err
run_both-returns-in-Err g n c =
    let at = site c.args.world.now c.args.level c.args.rest.now (env_of c.args.env.now) c.args.parent c.args.pass in
    let nobody : Handle = record { slot = 0; generation = 0 } in
    let q = c.stepped-claimed.result.1 in
    let x = stepped_not at q _ nobody c.in-Err.halt c.in-Err.is (c.stepped-claimed.ensures.err nobody) in
    (P nobody E E, leaves_no_sides at c.args.left.now c.args.right.now c.requires q nobody c.in-Err.halt x)

pub run_both-run_body-l-requires-after_bounds : goal.run_both-run_body-l-requires-after_bounds
run_both-run_body-l-requires-after_bounds g n c κs within =
    let at = site c.args.world.now c.args.level c.args.rest.now (env_of c.args.env.now) c.args.parent c.args.pass in
    let s = stepped_on at c.stepped-claimed.result.1 _ c.in-Ok.par c.in-Ok.is c.stepped-claimed.ensures.ok in
    begins_first at c.args.left.now c.args.right.now c.requires s

pub run_both-returns-then-ran_out : goal.run_both-returns-then-ran_out
run_both-returns-then-ran_out g n c =
    let at = site c.args.world.now c.args.level c.args.rest.now (env_of c.args.env.now) c.args.parent c.args.pass in
    let s = stepped_on at c.stepped-claimed.result.1 _ c.in-Ok.par c.in-Ok.is c.stepped-claimed.ensures.ok in
    let l = c.run_body-l.ensures in
    (P s.node l.0 E, leaves_out at c.args.left.now c.args.right.now c.requires s c.run_body-l.result.1 l.0 c.run_body-l.result.0 (sym (c.ran_out.ensures l.0) ∙ c.if-ran_out.true) l.1)

pub run_both-run_body-r-requires-after_bounds : goal.run_both-run_body-r-requires-after_bounds
run_both-run_body-r-requires-after_bounds g n c κs within =
    let env = env_of c.args.env.now in
    let at = site c.args.world.now c.args.level c.args.rest.now env c.args.parent c.args.pass in
    let s = stepped_on at c.stepped-claimed.result.1 _ c.in-Ok.par c.in-Ok.is c.stepped-claimed.ensures.ok in
    let l = c.run_body-l.ensures in
    let u = c.run_body-l.result.1 in
    subst (λ z. Begins at.w at.funcs z at.t c.args.right.now env (Some s.node) u) (sym (c.still_old.ensures l.0))
    (begins_second at c.args.left.now c.args.right.now c.requires s u (ended_of l.0 c.run_body-l.result.0) (sym (c.ran_out.ensures l.0) ∙ c.if-ran_out.false) l.1)

pub run_both-returns-then-pass-ge62 : goal.run_both-returns-then-pass-ge62
run_both-returns-then-pass-ge62 g n c =
    let env = env_of c.args.env.now in
    let at = site c.args.world.now c.args.level c.args.rest.now env c.args.parent c.args.pass in
    let s = stepped_on at c.stepped-claimed.result.1 _ c.in-Ok.par c.in-Ok.is c.stepped-claimed.ensures.ok in
    let l = c.run_body-l.ensures in
    let u = c.run_body-l.result.1 in
    let m = c.run_body-r.ensures in
    let q = c.run_body-r.result.1 in
    let two = ended_of m.0 c.run_body-r.result.0 in
    let last = P s.node (did l.0 c.run_body-l.result.0) (did m.0 c.run_body-r.result.0) in
    (last, leaves_second at c.args.left.now c.args.right.now c.requires s u (ended_of l.0 c.run_body-l.result.0) (sym (c.ran_out.ensures l.0) ∙ c.if-ran_out.false) l.1 q two (ended_of last c.paired.result) (subst (λ z. Leaves at.w at.deep at.first z at.t c.args.right.now env (Some s.node) u q two) (c.still_old.ensures l.0) m.1) (c.paired.ensures l.0 m.0))

pub run_both-run_sides-l-requires-clause-left : goal.run_both-run_sides-l-requires-clause-left
run_both-run_sides-l-requires-clause-left g n c κs within =
    let at = site c.args.world.now c.args.level c.args.rest.now (env_of c.args.env.now) c.args.parent c.args.pass in
    let s = stepped_on at c.stepped-claimed.result.1 _ c.in-Ok.par c.in-Ok.is c.stepped-claimed.ensures.ok in
    let f = c.fork_for-mine.ensures in
    begins_left at c.args.left.now c.args.right.now c.requires s c.fork_for-mine.result.0 c.fork_for-mine.result.1 f.of f.left_values f.right_values f.left_readers f.right_readers f.left_marks f.right_marks

pub run_both-run_sides-l-requires-clause-right : goal.run_both-run_sides-l-requires-clause-right
run_both-run_sides-l-requires-clause-right g n c κs within =
    let at = site c.args.world.now c.args.level c.args.rest.now (env_of c.args.env.now) c.args.parent c.args.pass in
    let s = stepped_on at c.stepped-claimed.result.1 _ c.in-Ok.par c.in-Ok.is c.stepped-claimed.ensures.ok in
    let f = c.fork_for-mine.ensures in
    begins_right at c.args.left.now c.args.right.now c.requires s c.fork_for-mine.result.0 c.fork_for-mine.result.1 f.of f.left_values f.right_values f.left_readers f.right_readers f.left_marks f.right_marks

pub run_both-join-pass-requires-clause-of : goal.run_both-join-pass-requires-clause-of
run_both-join-pass-requires-clause-of g n c = (c.run_sides-l.ensures.left.1.moves.of, c.run_sides-l.ensures.right.1.moves.of)

pub run_both-join-pass-requires-clause-sides : goal.run_both-join-pass-requires-clause-sides
run_both-join-pass-requires-clause-sides g n c =
    let at = site c.args.world.now c.args.level c.args.rest.now (env_of c.args.env.now) c.args.parent c.args.pass in
    let s = stepped_on at c.stepped-claimed.result.1 _ c.in-Ok.par c.in-Ok.is c.stepped-claimed.ensures.ok in
    let f = c.fork_for-mine.ensures in
    let l = c.run_sides-l.ensures.left in
    let r = c.run_sides-l.ensures.right in
    let k = join_sides at c.args.left.now c.args.right.now c.requires s c.fork_for-mine.result.0 c.fork_for-mine.result.1 f.of f.left_values f.right_values f.left_readers f.right_readers f.left_marks f.right_marks c.run_sides-l.result.0.1 c.run_sides-l.result.1.1 (ended_of l.0 c.run_sides-l.result.0.0) (ended_of r.0 c.run_sides-l.result.1.0) l.1 r.1 in
    (k.0, (k.1, k.2))

pub run_both-returns : goal.run_both-returns
run_both-returns g n c =
    let at = site c.args.world.now c.args.level c.args.rest.now (env_of c.args.env.now) c.args.parent c.args.pass in
    let s = stepped_on at c.stepped-claimed.result.1 _ c.in-Ok.par c.in-Ok.is c.stepped-claimed.ensures.ok in
    let f = c.fork_for-mine.ensures in
    let l = c.run_sides-l.ensures.left in
    let r = c.run_sides-l.ensures.right in
    let ones = ended_of l.0 c.run_sides-l.result.0.0 in
    let twos = ended_of r.0 c.run_sides-l.result.1.0 in
    let j = c.join-pass.ensures in
    let last = P s.node (did l.0 c.run_sides-l.result.0.0) (did r.0 c.run_sides-l.result.1.0) in
    (last, leaves_joined at c.args.left.now c.args.right.now c.requires s c.fork_for-mine.result.0 c.fork_for-mine.result.1 f.of f.left_values f.right_values f.left_readers f.right_readers f.left_marks f.right_marks c.run_sides-l.result.0.1 c.run_sides-l.result.1.1 ones twos l.1 r.1 c.join-pass.result j.of j.values j.united j.readers j.once j.marks j.united_marks (ended_of last c.paired-2.result) (c.paired-2.ensures l.0 r.0))

-- statements

pub run_body-returns-in_default : goal.run_body-returns-in_default
run_body-returns-in_default g n c =
    (E, leaves_end c.args.world.now (env_of c.args.env.now) c.args.parent c.args.pass (levels - c.args.level) c.args.body.now _ c.in_default.len_below c.empty.ensures c.requires)

pub run_body-returns-then-level-ge300 : goal.run_body-returns-then-level-ge300
run_body-returns-then-level-ge300 g n c =
    let env = env_of c.args.env.now in
    let is = whole_is c.args.world.now env c.args.parent c.args.pass c.args.body.now c.s-item.result c.in-len1-up.len_at_least c.s-item.is in
    let deep : levels - c.args.level ≡ 0 = omega (arith, c.if-level-ge300.true) in
    (E, leaves_deep c.args.world.now env c.args.parent c.args.pass (levels - c.args.level) c.args.body.now c.s-item.result _ c.line.result is deep c.line.ensures c.requires)

pub run_body-asked-requires-clause-readable : goal.run_body-asked-requires-clause-readable
run_body-asked-requires-clause-readable g n c =
    let env = env_of c.args.env.now in
    let is = whole_is c.args.world.now env c.args.parent c.args.pass c.args.body.now c.s-item.result c.in-len1-up.len_at_least c.s-item.is in
    asks c.args.world.now env c.args.parent c.args.pass c.args.body.now c.s-item.result _ is c.requires

pub run_body-act_on-requires-after_bounds : goal.run_body-act_on-requires-after_bounds
run_body-act_on-requires-after_bounds g n c κs within =
    let env = env_of c.args.env.now in
    let is = whole_is c.args.world.now env c.args.parent c.args.pass c.args.body.now c.s-item.result c.in-len1-up.len_at_least c.s-item.is in
    begins_act c.args.world.now env c.args.parent c.args.pass c.args.body.now c.s-item.result _ is c.requires _ (record { table = c.asked.ensures.table; readers = refl; marks = refl }) c.asked.ensures.looked (action_view env c.in-Ok.action) c.in-Ok.ensures.asked

pub run_body-returns-in-Ok : goal.run_body-returns-in-Ok
run_body-returns-in-Ok g n c =
    let env = env_of c.args.env.now in
    let is = whole_is c.args.world.now env c.args.parent c.args.pass c.args.body.now c.s-item.result c.in-len1-up.len_at_least c.s-item.is in
    let low : c.args.level < levels = omega (arith, c.if-level-ge300.false) in
    let l = c.act_on.ensures in
    let e = ended_of l.0 c.act_on.result.0 in
    (l.0, leaves_act_on c.args.world.now env c.args.parent c.args.pass _ c.act_on.result.1 e c.args.level c.args.body.now c.s-item.result _ (action_view env c.in-Ok.action) l.1 is c.requires (record { table = c.asked.ensures.table; readers = refl; marks = refl }) c.asked.ensures.looked c.in-Ok.ensures.looks c.in-Ok.ensures.asked low)

pub run_body-returns-in-Err : goal.run_body-returns-in-Err
run_body-returns-in-Err g n c =
    let env = env_of c.args.env.now in
    let room = levels - c.args.level in
    let is = whole_is c.args.world.now env c.args.parent c.args.pass c.args.body.now c.s-item.result c.in-len1-up.len_at_least c.s-item.is in
    let low : 0 < room = omega (arith, c.if-level-ge300.false) in
    (E, leaves_stop c.args.world.now env c.args.parent c.args.pass c.args.body.now c.s-item.result _ is c.requires _ (record { table = c.asked.ensures.table; readers = refl; marks = refl }) c.asked.ensures.looked room c.in-Err.halt c.line-in-Err.result (halted E c.stopped.result) c.in-Err.ensures.unlooked low c.line-in-Err.ensures c.in-Err.ensures.asked c.stopped.ensures)

-- behind a compound statement

pub go_on-returns-in-Ok : goal.go_on-returns-in-Ok
go_on-returns-in-Ok g n c =
    λ j.
    let l = c.run_body-r.ensures in
    let e = ended_of l.0 c.run_body-r.result.0 in
    let last = S c.args.node (kept_of c.in-Ok.t) (did l.0 c.run_body-r.result.0) in
    (last, subst (λ z. LeavesAfterIn c.args.world.now c.args.level c.args.node (ended_of j z) c.args.rest.now (env_of c.args.env.now) c.args.pass c.run_body-r.result.1 (ended_of last c.after_step.result)) (sym c.in-Ok.is) (e, l.1, c.after_step.ensures l.0))

pub go_on-returns-in-Err : goal.go_on-returns-in-Err
go_on-returns-in-Err g n c =
    let at = site c.args.world.now c.args.level c.args.rest.now (env_of c.args.env.now) (Some c.args.node) c.args.pass in
    let h = c.in-Err.h in
    λ j. (S c.args.node j E, subst (λ z. LeavesAfterIn c.args.world.now c.args.level c.args.node (ended_of j z) at.rest at.env at.p at.p (halted (S c.args.node j E) h)) (sym c.in-Err.is) (after_halt at.w at.deep at.first at.olds at.t c.args.node j h at.rest at.env at.p))
