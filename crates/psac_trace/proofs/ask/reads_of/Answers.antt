use Rattle.std.proofs.Common.{length, ap, sym, ◌∙◌, refl}
use Rattle.psac_plain.specs.Slots.{env_of, setting_by}
use Rattle.psac_trace.specs.Asking.{looked_by}
use Rattle.psac_trace.proofs.Sources.{seen_count, all_seen, all_read, reads_halt}
use Rattle.psac_trace.proofs.ask.reads_of.Goals as goal

pub look_at-requires-clause-sees : goal.look_at-requires-clause-sees
look_at-requires-clause-sees c =
    let s = c.requires.sought in
    all_seen (setting_by c.args.opening.now) refl (env_of c.args.env.now) c.args.pass.now.knows s.0 c.args.items.now c.in-Ok.sources.items s.1 c.in-Ok.ensures

pub returns-in-Ok-clause-ok : goal.returns-in-Ok-clause-ok
returns-in-Ok-clause-ok c =
    let v = c.args.pass.now.knows in
    let ss = c.in-Ok.sources.items in
    c.look_at.ensures.looked ∙ ap (λ n. looked_by n v) (sym (seen_count v (length ss) ss c.look_at.new.all.items c.look_at.ensures.seen))

pub returns-in-Ok-clause-seen : goal.returns-in-Ok-clause-seen
returns-in-Ok-clause-seen c = λ heap s.
    all_read (setting_by c.args.opening.now) refl (env_of c.args.env.now) c.args.pass.now.knows heap c.args.items.now c.in-Ok.sources.items c.look_at.new.all.items s c.in-Ok.ensures c.look_at.ensures.seen

pub returns-in-Err-clause-seen : goal.returns-in-Err-clause-seen
returns-in-Err-clause-seen c = λ heap s.
    reads_halt (setting_by c.args.opening.now) refl (env_of c.args.env.now) c.args.pass.now.knows heap c.in-Err.halt c.args.items.now s c.in-Err.ensures
