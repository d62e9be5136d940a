use Rattle.std.proofs.Common.{sym}
use Rattle.psac_trace.proofs.Sources.{seen_value, never_none}
use Rattle.psac_trace.proofs.ask.seen_at.Goals as goal

pub read-words-requires-clause-known : goal.read-words-requires-clause-known
read-words-requires-clause-known c = let s = c.requires.sees in (s.1.0, s.1.2)

pub unreachable-requires : goal.unreachable-requires
unreachable-requires c =
    let s = c.requires.sees in
    never_none c.args.pass.now.knows c.args.from _ c.read-words.ensures.words s.0 s.1 (sym c.in_default.ensures.value)

pub returns-clause-value : goal.returns-clause-value
returns-clause-value c = seen_value c.args.pass.now.knows c.args.from _ c.read-words.ensures.words c.in-Some.value (sym c.in-Some.ensures.value)
