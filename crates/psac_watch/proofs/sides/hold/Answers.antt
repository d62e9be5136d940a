use Rattle.psac_watch.proofs.sides.hold.Goals as goal

pub returns : goal.returns
returns g c = record {
  done = c.session_with-end.ensures.done;
  read = c.session_with-end.ensures.read;
  part = c.session_with-end.ensures.part;
  source = c.session_with-end.ensures.source;
  broken = c.session_with-end.ensures.broken;
  sink = c.session_with-end.ensures.sink;
  later = c.session_with-end.ensures.later;
  long = c.session_with-end.ensures.long;
  much = c.session_with-end.ensures.much;
}
