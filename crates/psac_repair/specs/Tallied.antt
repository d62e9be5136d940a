-- The numbers of a repair in 64 bits: a count that would pass the greatest number stays there.
use Rattle.psac_ops.specs.declared.plain.Handle.{Handle}
use Rattle.psac_model.specs.declared.ends.Work.{Work}
use Rattle.psac_model.specs.Plain.{capped, capped_count}
use Rattle.psac_traced.specs.Mending.{Mending}
use Rattle.psac_repair.specs.declared.tally.Tally.{Tally}

abbrev pub tally_of : Mending Handle → Tally
tally_of d = record { visited = capped_count d.visited; rerun = capped_count d.rerun; removed = capped d.removed; added = capped d.added }

abbrev pub capped_work : Work → Work
capped_work k =
    record k {
      visited = capped_count k.visited;
      rerun = capped_count k.rerun;
      inside = capped_count k.inside;
      dropped = capped_count k.dropped;
      nodes = capped_count k.nodes;
      mods = capped_count k.mods;
      links = capped_count k.links;
    }
