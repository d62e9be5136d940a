use Rattle.std.proofs.Common.{◌<◌, ap, sym, ◌∙◌, subst, length, Ok, Err, None}
use Rattle.psac_model.specs.Fresh.{World, nodes_of, outcome}
use Rattle.psac_model.specs.Work.{anew_work}
use Rattle.psac_record.specs.Shown.{kept_of}
use Rattle.psac_trace.specs.Told.{Good, ended_of, halted}
use Rattle.psac_engine.specs.Commit.{Answers}
use Rattle.psac_engine.proofs.Anews.{main_begins, joined, now_all, now_answered, now_shows, now_heap, now_outputs, whole_size}
use Rattle.psac_engine.proofs.Calls.{begins_call, leaves_call, leaves_ok, leaves_err, answer_halted}
use Rattle.psac_stage.proofs.Settles.{settled_rested}
use Rattle.psac_engine.proofs.Kept.{few_nodes}
use Rattle.psac_stage.proofs.First.{first_recorded}
use Rattle.psac_model.specs.declared.ends.CapKind.TheVariants as cap
use Rattle.psac_trace.specs.Grown.{count}
use Rattle.psac_engine.proofs.Rising.{rises_then, settled_rises, none_rises}
use Rattle.psac_engine.proofs.anew.run_anew.Goals as goal

pub run_main-told-requires-clause-begins : goal.run_main-told-requires-clause-begins
run_main-told-requires-clause-begins g c κs lives =
    let w : World = record { program = c.args.program.now; texts = c.args.texts.now; main = c.args.main.now } in
    let m = c.requires.may in
    begins_call c.args.grid.now c.args.texts.now c.as_slice-funcs.result.now c.args.program.now.funcs c.args.main.now c.args.tables.now c.args.pass c.as_slice-funcs.ensures
    (main_begins w c.args.grid.now c.rows.ensures.sound c.requires.checked m.0 m.1 c.args.tables.now c.args.pass m.4)

pub settled-pass-requires-clause-of : goal.settled-pass-requires-clause-of
settled-pass-requires-clause-of g c = c.run_main-told.ensures.1.moves.of

pub settled-pass-requires-clause-joined : goal.settled-pass-requires-clause-joined
settled-pass-requires-clause-joined g c =
    let w : World = record { program = c.args.program.now; texts = c.args.texts.now; main = c.args.main.now } in
    let m = c.requires.may in
    let k = c.run_main-told.ensures in
    let l = leaves_call c.args.grid.now c.args.texts.now c.as_slice-funcs.result.now c.args.program.now.funcs c.args.main.now c.args.tables.now c.args.pass c.as_slice-funcs.ensures c.run_main-told.result.1 k.0 (ended_of k.0 c.run_main-told.result.0) k.1 in
    joined w c.args.grid.now c.rows.ensures.sound c.requires.checked m.0 m.1 c.args.tables.now c.args.pass m.4 c.run_main-told.result.1 (ended_of k.0 c.run_main-told.result.0) l

pub worked-work-requires : goal.worked-work-requires
worked-work-requires g c =
    let w : World = record { program = c.args.program.now; texts = c.args.texts.now; main = c.args.main.now } in
    let m = c.requires.may in
    let k = c.run_main-told.ensures in
    let r = kept_of c.in-Ok.record in
    let l = leaves_ok c.args.grid.now c.args.texts.now c.as_slice-funcs.result.now c.args.program.now.funcs c.args.main.now c.args.tables.now c.args.pass c.as_slice-funcs.ensures c.run_main-told.result.1 k.0 c.run_main-told.result.0 c.in-Ok.record c.in-Ok.is k.1 in
    let s = whole_size w c.args.grid.now c.rows.ensures.sound c.requires.checked m.0 m.1 c.args.tables.now c.args.pass m.4 c.run_main-told.result.1 r l c.settled-pass.result c.settled-pass.ensures.settles m.2 in
    subst (λ z. nodes_of z < 4294967296) (sym (c.size.ensures ∙ s.0)) s.1

pub cleared-pass-requires-clause-all : goal.cleared-pass-requires-clause-all
cleared-pass-requires-clause-all g c =
    let w : World = record { program = c.args.program.now; texts = c.args.texts.now; main = c.args.main.now } in
    let m = c.requires.may in
    let k = c.run_main-told.ensures in
    let l = leaves_call c.args.grid.now c.args.texts.now c.as_slice-funcs.result.now c.args.program.now.funcs c.args.main.now c.args.tables.now c.args.pass c.as_slice-funcs.ensures c.run_main-told.result.1 k.0 (ended_of k.0 c.run_main-told.result.0) k.1 in
    let all = now_all w c.args.grid.now c.rows.ensures.sound c.requires.checked m.0 m.1 c.args.tables.now c.args.pass m.4 c.run_main-told.result.1 (ended_of k.0 c.run_main-told.result.0) l c.settled-pass.result c.settled-pass.ensures.settles in
    (c.args.grid.now, length c.args.main.now.dests, m.0, m.1, all, m.3)

pub cleared-pass-requires-clause-rested : goal.cleared-pass-requires-clause-rested
cleared-pass-requires-clause-rested g c = settled_rested c.run_main-told.result.1 c.settled-pass.result c.settled-pass.ensures.settles

pub returns-in-Ok-clause-rested : goal.returns-in-Ok-clause-rested
returns-in-Ok-clause-rested g c = settled_rested c.run_main-told.result.1 c.settled-pass.result c.settled-pass.ensures.settles

pub returns-in-Ok-clause-run : goal.returns-in-Ok-clause-run
returns-in-Ok-clause-run g c caps age may =
    let w : World = record { program = c.args.program.now; texts = c.args.texts.now; main = c.args.main.now } in
    let m = c.requires.may in
    let k = c.run_main-told.ensures in
    let r = kept_of c.in-Ok.record in
    let q = c.run_main-told.result.1 in
    let z = c.settled-pass.result in
    let s = c.settled-pass.ensures.settles in
    let ok = c.rows.ensures.sound in
    let l = leaves_ok c.args.grid.now c.args.texts.now c.as_slice-funcs.result.now c.args.program.now.funcs c.args.main.now c.args.tables.now c.args.pass c.as_slice-funcs.ensures q k.0 c.run_main-told.result.0 c.in-Ok.record c.in-Ok.is k.1 in
    let size = whole_size w c.args.grid.now ok c.requires.checked m.0 m.1 c.args.tables.now c.args.pass m.4 q r l z s m.2 in (
      now_all w c.args.grid.now ok c.requires.checked caps age c.args.tables.now c.args.pass may q (Good r) l z s,
      now_shows w c.args.grid.now ok c.requires.checked caps age c.args.tables.now c.args.pass may q r l z s,
      now_heap w c.args.grid.now ok c.requires.checked caps age c.args.tables.now c.args.pass may q r l z s,
      now_outputs w c.args.grid.now ok c.requires.checked caps age c.args.tables.now c.args.pass may q r l z s,
      subst (λ x. Answers caps None (outcome w caps c.args.grid.now) (Ok x)) (sym (c.worked-work.ensures ∙ ap anew_work (c.size.ensures ∙ size.0)))
          (now_answered w c.args.grid.now ok c.requires.checked caps age c.args.tables.now c.args.pass may q (Good r) l z s),
      first_recorded w c.args.grid.now caps age c.args.tables.now r c.args.pass q z ok c.requires.checked (few_nodes m.0 caps c.args.pass m.2 m.4.all.nodes may.all.nodes) may l s,
    )

pub returns-in-Err-clause-run : goal.returns-in-Err-clause-run
returns-in-Err-clause-run g c caps age may =
    let w : World = record { program = c.args.program.now; texts = c.args.texts.now; main = c.args.main.now } in
    let k = c.run_main-told.ensures in
    let q = c.run_main-told.result.1 in
    let z = c.settled-pass.result in
    let s = c.settled-pass.ensures.settles in
    let ok = c.rows.ensures.sound in
    let outs = length c.args.main.now.dests in
    let l = leaves_err c.args.grid.now c.args.texts.now c.as_slice-funcs.result.now c.args.program.now.funcs c.args.main.now c.args.tables.now c.args.pass c.as_slice-funcs.ensures q k.0 c.run_main-told.result.0 c.in-Err.halt c.in-Err.is k.1 in
    let all = now_all w c.args.grid.now ok c.requires.checked caps age c.args.tables.now c.args.pass may q (halted k.0 c.in-Err.halt) l z s in (
      c.cleared-pass.ensures.all c.args.grid.now outs caps age ok all,
      c.cleared-pass.ensures.clear c.args.grid.now outs caps age all,
      subst (λ x. Answers caps None (outcome w caps c.args.grid.now) x) (answer_halted k.0 c.in-Err.halt ∙ ap Err (sym c.answer_of.ensures))
          (now_answered w c.args.grid.now ok c.requires.checked caps age c.args.tables.now c.args.pass may q (halted k.0 c.in-Err.halt) l z s),
    )

pub returns-in-Ok-clause-rises : goal.returns-in-Ok-clause-rises
returns-in-Ok-clause-rises g c =
    let m = c.requires.may in
    let k = c.run_main-told.ensures in
    settled_rises c.args.pass c.run_main-told.result.1 c.settled-pass.result m.4.rested.mods (count cap.Mods k.1.made)
    (k.1.moves.claims cap.Mods) c.settled-pass.ensures.settles

pub returns-in-Err-clause-rises : goal.returns-in-Err-clause-rises
returns-in-Err-clause-rises g c =
    let m = c.requires.may in
    let k = c.run_main-told.ensures in
    let p = c.args.pass in
    let q = c.run_main-told.result.1 in
    let z = c.settled-pass.result in
    let s = c.settled-pass.ensures.settles in
    let v = c.cleared-pass.result.values.knows in
    rises_then p.values.knows.claims z.values.knows.claims v.claims
    (settled_rises p q z m.4.rested.mods (count cap.Mods k.1.made) (k.1.moves.claims cap.Mods) s)
    (none_rises z.values.knows v (settled_rested q z s).mods c.cleared-pass.ensures.values)
