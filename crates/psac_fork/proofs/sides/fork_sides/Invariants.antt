use Rattle.psac_fork.specs.Parts.{lists, lists_link, neither}
use Rattle.psac_fork.proofs.sides.fork_sides.Given as goal

abbrev pub ghosts-divided-D-ValuesSplit : goal.ghosts-divided-D-ValuesSplit
ghosts-divided-D-ValuesSplit a = record { shared = neither a.left.now.mods.items a.right.now.mods.items; to_right = lists a.right.now.mods.items }

abbrev pub ghosts-divided-D-ReadersSplit : goal.ghosts-divided-D-ReadersSplit
ghosts-divided-D-ReadersSplit a = record { set_shared = neither a.left.now.mods.items a.right.now.mods.items; set_right = lists a.right.now.mods.items; link_right = lists_link a.right.now.links.items }

abbrev pub ghosts-divided-D-MarksSplit : goal.ghosts-divided-D-MarksSplit
ghosts-divided-D-MarksSplit a = record { node_shared = neither a.left.now.nodes.items a.right.now.nodes.items; node_right = lists a.right.now.nodes.items }
