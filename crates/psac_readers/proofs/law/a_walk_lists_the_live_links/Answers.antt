use Rattle.psac_readers.proofs.Walks.{whole_walk}
use Rattle.psac_readers.proofs.law.a_walk_lists_the_live_links.Goals as goal

pub returns : goal.returns
returns c = λ v m chain set once. whole_walk v m chain set once
