use Rattle.std.proofs.Common.{◌≡◌, ◌++◌, drop, map}
use Rattle.psac_traced.specs.Holds.{EachOf}
use Rattle.psac_record.specs.Kept.{reads_of, stands}
use Rattle.psac_plain.specs.Running.{reads_view}
use Rattle.psac_trace.specs.Rights.{Sees}
use Rattle.psac_trace.specs.Running.{Opens, links_only}
use Rattle.psac_trace.proofs.nodes.linked.Given as goal

abbrev pub invariant-loop-s : goal.invariant-loop-s
invariant-loop-s l =
    record {
      opens : Opens l.tables l.initial.pass l.pass (links_only (map (stands l.node) l.all.items));
      reads : reads_of l.all.items ++ reads_view (drop l.s-index l.seen) ≡ reads_view l.seen;
      sights : EachOf (Sees l.initial.pass.values.knows) (reads_view (drop l.s-index l.seen));
    }
