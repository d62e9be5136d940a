use Rattle.psac_lang.proofs.reading.bound.Goals as goal

pub returns-clause-reads : goal.returns-clause-reads
returns-clause-reads c s vs = rw (← c.below.ensures.value) (c.named.ensures.takes s vs)
