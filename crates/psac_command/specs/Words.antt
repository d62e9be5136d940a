-- The command line as one simple command, and what its words give.
use Rattle.std.specs.Prelude.{Bool, true, false, List, [], ◌∷◌, Option, Some, codes}
use Rattle.clap.specs.Words.{App, Kinds, Rule, Text, fault_of, first_of, matches_of, new_app, new_rule, with_rule}
use Rattle.clap.specs.declared.builder.action.ArgAction.TheVariants.{Set}

-- a word that must be there
abbrev pub positional : Text → Rule
positional id = record (new_rule id) { required = true; action = Some Set }

-- an option that takes one word
abbrev pub option : Text → Rule
option id = record (new_rule id) { long = Some id; action = Some Set }

abbrev pub bare_app : App
bare_app =
    let a = new_app (codes "psac") in
    record a { top = record a.top { disable_help_flag = true; disable_version_flag = true } }

abbrev pub with_words : App → App
with_words app = with_rule (with_rule (with_rule app (positional (codes "mode"))) (positional (codes "program"))) (positional (codes "input"))

-- three words, and five options
abbrev pub psac_app : App
psac_app =
    with_rule (with_rule (with_rule (with_rule (with_rule (with_words bare_app) (option (codes "workers"))) (option (codes "nodes")))
    (option (codes "mods"))) (option (codes "links"))) (option (codes "rows"))

abbrev pub is_free : Kinds → Bool
is_free [] = true
is_free (kind ∷ kinds) = false

-- the words are of the command's form
abbrev pub is_taken : List Text → Bool
is_taken words = is_free (fault_of psac_app words)

-- the text that the words give for a name
abbrev pub given : Text → List Text → Option Text
given id words = first_of id (matches_of psac_app words)
