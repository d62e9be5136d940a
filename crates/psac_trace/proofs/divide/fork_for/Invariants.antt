use Rattle.std.proofs.Common.{false}
use Rattle.psac_plain.specs.Slots.{env_of}
use Rattle.psac_trace.specs.Divided.{neither, writes_slot, sets_shared}
use Rattle.psac_trace.specs.Fit.{both_have}
use Rattle.psac_trace.proofs.divide.fork_for.Given as goal

abbrev pub ghosts-divided-D-ValuesSplit : goal.ghosts-divided-D-ValuesSplit
ghosts-divided-D-ValuesSplit a = record { shared = neither a.left.now a.right.now (env_of a.env.now); to_right = writes_slot a.right.now (env_of a.env.now) }

abbrev pub ghosts-divided-D-ReadersSplit : goal.ghosts-divided-D-ReadersSplit
ghosts-divided-D-ReadersSplit a = record { set_shared = sets_shared a.left.now a.right.now (env_of a.env.now) a.pass.values.knows; set_right = writes_slot a.right.now (env_of a.env.now); link_right = λ l. false }

abbrev pub ghosts-divided-D-MarksSplit : goal.ghosts-divided-D-MarksSplit
ghosts-divided-D-MarksSplit a = record { node_shared = both_have a.pass.marks.knows; node_right = λ x. false }
