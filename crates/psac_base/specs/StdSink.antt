-- What a sink over a writer stands on.
use Rattle.psac_base.specs.declared.std_sink.StdSink.{StdSink}

abbrev pub writer_of : {W : Type 0} → StdSink W → W
writer_of s = s.writer
