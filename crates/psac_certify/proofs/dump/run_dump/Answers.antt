use Rattle.std.proofs.Common.{◌≡◌, ◌∙◌, List, ℕ, refl, subst}
use Rattle.psac_base.specs.Outside.{Appended, AppendedPart}
use Rattle.psac_engine.specs.Engine.{caps_in, grid_in, kept_in, world_in}
use Rattle.psac_cert.proofs.Judging.{full_report, nothing_put, stopped_report}
use Rattle.psac_certify.proofs.Recorded.{part_or_none, report_same}
use Rattle.psac_certify.proofs.dump.run_dump.Goals as goal

pub returns-in-Ok-commit-clause-part : goal.returns-in-Ok-commit-clause-part
returns-in-Ok-commit-clause-part g c = λ bad.
    let e = c.args.opened.now.engine in
    let now = c.commit.new.self in
    let grid : grid_in now ≡ grid_in e =
    nothing_put c.in-Ok.batch (grid_in e) (grid_in now) c.grid.result.now c.grid.ensures.value c.in-Ok.ensures.empty
    c.commit.ensures.grid in
    let same = report_same (world_in now) (world_in e) (caps_in now) (caps_in e) (grid_in now) (grid_in e)
    c.args.opened.now.texts c.commit.ensures.world c.commit.ensures.caps grid in
    subst (λ (xs : List ℕ). AppendedPart (g.K.Sink.held c.args.out.now) (g.K.Sink.held c.write_record.new.out) xs) same
    (c.write_record.ensures.part bad)

pub returns-in-Err-Fault-clause-whole : goal.returns-in-Err-Fault-clause-whole
returns-in-Err-Fault-clause-whole g c = λ zero.
    let e = c.args.opened.now.engine in
    let now = grid_in c.commit.new.self in
    let grid : now ≡ grid_in e =
    nothing_put c.in-Ok.batch (grid_in e) now c.grid.result.now c.grid.ensures.value c.in-Ok.ensures.empty
    c.commit.ensures.grid in
    let same = stopped_report (world_in e) (caps_in e) (kept_in e) now c.args.opened.now.texts c.in-Err-Fault.kind
    c.in-Err-Fault.line
    (rw c.in-Err-Fault.field-0-is at c.in-Err-Fault.ensures.answer)
    ∙ report_same (world_in e) (world_in e) (caps_in e) (caps_in e) now (grid_in e) c.args.opened.now.texts refl refl
    grid in
    subst (λ (xs : List ℕ). Appended (g.K.Sink.held c.args.out.now) (g.K.Sink.held c.write_reply.new.out) xs) same
    (c.write_reply.ensures.whole zero)

pub returns-in-Err-Fault-clause-part : goal.returns-in-Err-Fault-clause-part
returns-in-Err-Fault-clause-part g c = λ bad.
    let e = c.args.opened.now.engine in
    let now = grid_in c.commit.new.self in
    let grid : now ≡ grid_in e =
    nothing_put c.in-Ok.batch (grid_in e) now c.grid.result.now c.grid.ensures.value c.in-Ok.ensures.empty
    c.commit.ensures.grid in
    let same = stopped_report (world_in e) (caps_in e) (kept_in e) now c.args.opened.now.texts c.in-Err-Fault.kind
    c.in-Err-Fault.line
    (rw c.in-Err-Fault.field-0-is at c.in-Err-Fault.ensures.answer)
    ∙ report_same (world_in e) (world_in e) (caps_in e) (caps_in e) now (grid_in e) c.args.opened.now.texts refl refl
    grid in
    subst (λ (xs : List ℕ). AppendedPart (g.K.Sink.held c.args.out.now) (g.K.Sink.held c.write_reply.new.out) xs) same
    (part_or_none c.write_reply.result.code _ _ _ c.write_reply.ensures.part c.write_reply.ensures.nothing bad)

pub returns-in-Err-Full-clause-whole : goal.returns-in-Err-Full-clause-whole
returns-in-Err-Full-clause-whole g c = λ zero.
    let e = c.args.opened.now.engine in
    let now = grid_in c.commit.new.self in
    let grid : now ≡ grid_in e =
    nothing_put c.in-Ok.batch (grid_in e) now c.grid.result.now c.grid.ensures.value c.in-Ok.ensures.empty
    c.commit.ensures.grid in
    let same = full_report (world_in e) (caps_in e) (kept_in e) now c.args.opened.now.texts c.in-Err-Full.field-0-0
    (rw c.in-Err-Full.field-0-is at c.in-Err-Full.ensures.answer)
    ∙ report_same (world_in e) (world_in e) (caps_in e) (caps_in e) now (grid_in e) c.args.opened.now.texts refl refl
    grid in
    subst (λ (xs : List ℕ). Appended (g.K.Sink.held c.args.out.now) (g.K.Sink.held c.write_reply-in-Err-Full.new.out)
    xs) same (c.write_reply-in-Err-Full.ensures.whole zero)

pub returns-in-Err-Full-clause-part : goal.returns-in-Err-Full-clause-part
returns-in-Err-Full-clause-part g c = λ bad.
    let e = c.args.opened.now.engine in
    let now = grid_in c.commit.new.self in
    let grid : now ≡ grid_in e =
    nothing_put c.in-Ok.batch (grid_in e) now c.grid.result.now c.grid.ensures.value c.in-Ok.ensures.empty
    c.commit.ensures.grid in
    let same = full_report (world_in e) (caps_in e) (kept_in e) now c.args.opened.now.texts c.in-Err-Full.field-0-0
    (rw c.in-Err-Full.field-0-is at c.in-Err-Full.ensures.answer)
    ∙ report_same (world_in e) (world_in e) (caps_in e) (caps_in e) now (grid_in e) c.args.opened.now.texts refl refl
    grid in
    subst (λ (xs : List ℕ). AppendedPart (g.K.Sink.held c.args.out.now)
    (g.K.Sink.held c.write_reply-in-Err-Full.new.out) xs) same
    (part_or_none c.write_reply-in-Err-Full.result.code _ _ _ c.write_reply-in-Err-Full.ensures.part
    c.write_reply-in-Err-Full.ensures.nothing bad)
