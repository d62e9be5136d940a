-- What was published of a session.
use Rattle.std.specs.Prelude.{◌≡◌, ◌+◌, List, length, map, Option, Some}
use Rattle.psac_publish.specs.declared.seen.Seen.{Seen}
use Rattle.psac_publish.specs.History.{last_commit}
use Rattle.psac_session.specs.Heard.{Shows}

-- the outputs of the values, in order
abbrev pub outputs_of : List Seen → Shows
outputs_of log = map (λ s. s.outputs) log

-- what was heard by what published these values
abbrev pub heard_in : List Seen → Option Shows
heard_in log = Some (outputs_of log)

-- there is one value for each number of commits from 0 on
abbrev pub IsCounted : List Seen → Type 0
IsCounted log = length log ≡ last_commit log + 1
