use Rattle.std.proofs.Common.{sym}
use Rattle.psac_engine.proofs.Showing.{slot_known, slot_some, slot_shown}
use Rattle.psac_engine.proofs.show.show_slot.Goals as goal

pub read-words-requires-clause-known : goal.read-words-requires-clause-known
read-words-requires-clause-known c =
    let f = c.requires.fixed in
    let s = slot_known f.0 c.args.slot c.args.pass.now.knows f.1 f.2 c.requires.value in
    (s.words, s.known)

pub unreachable-requires : goal.unreachable-requires
unreachable-requires c =
    let f = c.requires.fixed in
    let v = c.args.pass.now.knows in
    let s = slot_known f.0 c.args.slot v f.1 f.2 c.requires.value in
    slot_some c.args.slot v s c.read-words.result c.from_words.result (c.read-words.ensures.words s.words s.known) c.from_words.ensures.value c.in_default.is

pub returns-clause-value : goal.returns-clause-value
returns-clause-value c =
    let f = c.requires.fixed in
    let v = c.args.pass.now.knows in
    let s = slot_known f.0 c.args.slot v f.1 f.2 c.requires.value in
    slot_shown c.args.slot v s c.read-words.result c.from_words.result c.in-Some.value c.show.result (c.read-words.ensures.words s.words s.known) c.from_words.ensures.value (sym c.in-Some.is) c.show.ensures
