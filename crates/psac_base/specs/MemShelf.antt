-- What a shelf in memory was made with, and how often it was called.
use Rattle.std.specs.Prelude.{ℕ, List}
use Rattle.psac_base.specs.Files.{named}
use Rattle.psac_base.specs.declared.mem_shelf.MemShelf.{MemShelf}

-- its files, by name and bytes
abbrev pub files_of : MemShelf → List (List ℕ × List ℕ)
files_of s = named s.files.items

-- the numbers of the loads that fail
abbrev pub fails_of : MemShelf → List ℕ
fails_of s = s.calls.fails.items

-- how many loads there were, failed ones too
abbrev pub calls_of : MemShelf → ℕ
calls_of s = s.calls.made
