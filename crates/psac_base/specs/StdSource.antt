-- What a source over a reader stands on.
use Rattle.psac_base.specs.declared.std_source.StdSource.{StdSource}

abbrev pub reader_of : {R : Type 0} → StdSource R → R
reader_of s = s.reader
