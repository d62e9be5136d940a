-- What a sink in memory was made with, and how often it was called.
use Rattle.std.specs.Prelude.{ℕ, List, ◌++◌, length, Option, Some, None, nat_le, if◌then◌else◌}
use Rattle.psac_base.specs.declared.mem_sink.MemSink.{MemSink}

-- how many bytes it can tell
abbrev pub room_of : MemSink → ℕ
room_of s = s.room

-- how many bytes one write takes at most
abbrev pub piece_of : MemSink → ℕ
piece_of s = s.piece

-- the numbers of the writes that fail
abbrev pub fails_of : MemSink → List ℕ
fails_of s = s.calls.fails.items

-- how many writes there were, failed ones too
abbrev pub calls_of : MemSink → ℕ
calls_of s = s.calls.made

-- what is told after more bytes were written: nothing once they are more than there is room for
abbrev pub held_within : ℕ → Option (List ℕ) → List ℕ → Option (List ℕ)
held_within room None bytes = None
held_within room (Some held) bytes = if nat_le (length (held ++ bytes)) room then Some (held ++ bytes) else None
