use Rattle.std.proofs.Common.{sym}
use Rattle.psac_record.proofs.Layers.{kept_end, kept_made, kept_wrote, kept_stepped, kept_both, kept_block}
use Rattle.psac_record.proofs.record.Record.look.Goals as goal

pub returns-in-End : goal.returns-in-End
returns-in-End c = sym (kept_end _ c.in-End.is)

pub returns-in-Made : goal.returns-in-Made
returns-in-Made c = rw (c.deref.ensures, c.deref-in-Made.ensures) (kept_made _ _ c.in-Made.is)

pub returns-in-Wrote : goal.returns-in-Wrote
returns-in-Wrote c =
    rw (c.deref-in-Wrote.ensures, c.deref-in-Wrote-2.ensures, c.deref-in-Wrote-3.ensures) (kept_wrote _ _ c.in-Wrote.is)

pub returns-in-Step : goal.returns-in-Step
returns-in-Step c =
    rw (c.deref-in-Step.ensures, c.deref-in-Step-2.ensures, c.deref-in-Step-3.ensures) (kept_stepped _ _ c.in-Step.is)

pub returns-in-Both : goal.returns-in-Both
returns-in-Both c =
    rw (c.deref-in-Both.ensures, c.deref-in-Both-2.ensures, c.deref-in-Both-3.ensures) (kept_both _ _ c.in-Both.is)

pub returns-in-Block : goal.returns-in-Block
returns-in-Block c = rw (c.deref-in-Block.ensures, c.deref-in-Block-2.ensures) (kept_block _ _ c.in-Block.is)
