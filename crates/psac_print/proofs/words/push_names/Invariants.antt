use Rattle.std.proofs.Common.{◌≡◌, [], ◌++◌, drop, map}
use Rattle.psac_spelling.specs.Canonical.{name_text, behind}
use Rattle.psac_print.proofs.words.push_names.Given as goal

abbrev pub invariant-loop-name : goal.invariant-loop-name
invariant-loop-name l =
    l.text.items ++ behind l.before (map (name_text l.program) (drop l.name-index l.names)) ≡ l.initial.text.items ++ behind [] (map (name_text l.program) l.names)
