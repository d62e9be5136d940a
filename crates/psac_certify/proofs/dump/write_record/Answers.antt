use Rattle.std.proofs.Common.{List, ℕ, subst}
use Rattle.psac_base.specs.Outside.{Appended, AppendedPart}
use Rattle.psac_engine.specs.Engine.{caps_in, grid_in, kept_in, world_in}
use Rattle.psac_certify.proofs.Recorded.{told_report}
use Rattle.psac_certify.proofs.dump.write_record.Goals as goal

pub returns-in-Ok-clause-whole : goal.returns-in-Ok-clause-whole
returns-in-Ok-clause-whole g c = λ _.
    let e = c.args.engine.now in
    let w = world_in e in
    let same = told_report w.program c.program-program.result.now w.texts (grid_in e) c.grid-grid.result.now (caps_in e)
    c.args.texts.now c.in-Some.tree.now (kept_in e)
    c.program-program.ensures.value c.grid-grid.ensures.value c.in-Some.ensures.shows c.requires
    c.grid-grid.ensures.sound in
    subst (λ (xs : List ℕ). Appended (g.K.Sink.held c.args.out.now) (g.K.Sink.held c.dump.new.out) xs) same
    c.in-Ok.ensures.ok

pub returns-in-Err-SinkFailed-clause-part : goal.returns-in-Err-SinkFailed-clause-part
returns-in-Err-SinkFailed-clause-part g c = λ _.
    let e = c.args.engine.now in
    let w = world_in e in
    let same = told_report w.program c.program-program.result.now w.texts (grid_in e) c.grid-grid.result.now (caps_in e)
    c.args.texts.now c.in-Some.tree.now (kept_in e)
    c.program-program.ensures.value c.grid-grid.ensures.value c.in-Some.ensures.shows c.requires
    c.grid-grid.ensures.sound in
    subst (λ (xs : List ℕ). AppendedPart (g.K.Sink.held c.args.out.now) (g.K.Sink.held c.dump.new.out) xs) same
    c.in-Err-SinkFailed.ensures.part

pub returns-in-Err-NoMemory-clause-part : goal.returns-in-Err-NoMemory-clause-part
returns-in-Err-NoMemory-clause-part g c = λ _.
    let e = c.args.engine.now in
    let w = world_in e in
    let same = told_report w.program c.program-program.result.now w.texts (grid_in e) c.grid-grid.result.now (caps_in e)
    c.args.texts.now c.in-Some.tree.now (kept_in e)
    c.program-program.ensures.value c.grid-grid.ensures.value c.in-Some.ensures.shows c.requires
    c.grid-grid.ensures.sound in
    subst (λ (xs : List ℕ). AppendedPart (g.K.Sink.held c.args.out.now) (g.K.Sink.held c.dump.new.out) xs) same
    c.in-Err-NoMemory.ensures.part
