-- Lines of a source.
use Rattle.std.specs.Prelude.{◌≡◌, ◌⊎◌, ℕ, ◌+◌, ◌≤◌, ◌<◌, Bool, true, List, ◌++◌, length, drop, slice_index, slice_range, Option}
use Rattle.std.specs.Io.KnownBytes.{Consumes, IsAtEnd}
use Rattle.psac_base.specs.Feeds.{NoFeed, line_text}
use Rattle.psac_base.specs.declared.lines.Lines.{Lines}

-- the bytes that were read so far
abbrev pub bytes_of : Lines → List ℕ
bytes_of l = l.bytes.items

-- how many of them the lines so far had
abbrev pub given_of : Lines → ℕ
given_of l = l.at

-- a read gave no byte
abbrev pub has_ended : Lines → Bool
has_ended l = l.ended

abbrev pub is_live : Lines → Bool
is_live l = l.live

-- more bytes were read, and the source lost them
pub record Grew (before now : List ℕ) (left left_now : Option (List ℕ)) (taken taken_now : ℕ) : Type 0 where
  pub got : List ℕ
  pub bytes : now ≡ before ++ got
  pub source : Consumes left left_now got
  pub count : taken_now ≡ taken + length got

-- a line that begins at `from` ends here
pub record IsEnd (bytes : List ℕ) (from end : ℕ) : Type 0 where
  pub low : from ≤ end
  pub high : end < length bytes
  pub feed : slice_index bytes end ≡ 10
  pub first : NoFeed bytes from end

-- no line ends from there on before the last piece
pub record NoFeedBeforePiece (bytes : List ℕ) (from : ℕ) : Type 0 where
  pub before : ℕ
  pub piece : length bytes ≤ before + 4096
  pub none : NoFeed bytes from before

-- more was read since no line ended: none ends before the last piece of it, of at most 4,096 bytes
pub record WasNeeded (before now : List ℕ) (from : ℕ) : Type 0 where
  pub earlier : ℕ
  pub behind : length before ≤ earlier
  pub piece : length now ≤ earlier + 4096
  pub none : NoFeed now from earlier

-- the end is noted only where the source is at its end
abbrev pub EndsAtEnd : Bool → Bool → Option (List ℕ) → Type 0
EndsAtEnd before now left = (now ≡ before) ⊎ ((now ≡ true) × IsAtEnd left)

-- a whole line stands there, and the next one begins behind its end
pub record GivesWhole (bytes : List ℕ) (from to : ℕ) (text : List ℕ) : Type 0 where
  pub stop : ℕ
  pub is_end : IsEnd bytes from stop
  pub next : to ≡ stop + 1
  pub is_text : text ≡ line_text (slice_range bytes from stop)

-- the last line stands there, without an end
pub record GivesLast (bytes : List ℕ) (from to : ℕ) (text : List ℕ) : Type 0 where
  pub some : from < length bytes
  pub open_end : NoFeed bytes from (length bytes)
  pub next : to ≡ length bytes
  pub is_text : text ≡ drop from bytes

-- the next line is given; the last one only where the source has ended
abbrev pub GivesLine : List ℕ → ℕ → ℕ → Bool → List ℕ → Type 0
GivesLine bytes from to ended text = GivesWhole bytes from to text ⊎ ((ended ≡ true) × GivesLast bytes from to text)
