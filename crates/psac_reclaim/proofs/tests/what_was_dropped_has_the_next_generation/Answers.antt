use Rattle.psac_reclaim.proofs.tests.what_was_dropped_has_the_next_generation.Goals as goal

pub make_and_drop-requires-clause-tree : goal.make_and_drop-requires-clause-tree
make_and_drop-requires-clause-tree g c = c.empty-tree.ensures
