-- Which of the program's calls the words are handed to.
use Rattle.std.specs.Prelude.{ℕ, if◌then◌else◌, List, codes, option_map, slice_get, unwrap_or}
use Rattle.std.specs.Str.{bytes_eq}
use Rattle.psac_command.specs.declared.call.TopCall.{TopCall}
use Rattle.psac_command.specs.declared.call.TopCall.TheVariants.{Run, Bench, Dump, Certify, Watch}

-- the call that a mode names; one that names none is left to that which tells of other words
abbrev pub call_named : List ℕ → TopCall
call_named mode =
    if bytes_eq mode (codes "bench") then Bench else
    if bytes_eq mode (codes "dump") then Dump else
    if bytes_eq mode (codes "certify") then Certify else
    if bytes_eq mode (codes "watch") then Watch else
    Run

-- the call for words, the program's own name first
abbrev pub call_by : List (List ℕ) → TopCall
call_by words = unwrap_or (option_map call_named (slice_get words 1)) Run
