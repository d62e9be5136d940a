-- What a source in memory was made with, and how often it was called.
use Rattle.std.specs.Prelude.{ℕ, List}
use Rattle.psac_base.specs.declared.mem_source.MemSource.{MemSource}

-- how many bytes one read gives at most
abbrev pub piece_of : MemSource → ℕ
piece_of s = s.piece

-- the numbers of the reads that fail
abbrev pub fails_of : MemSource → List ℕ
fails_of s = s.calls.fails.items

-- how many reads there were, failed ones too
abbrev pub calls_of : MemSource → ℕ
calls_of s = s.calls.made
