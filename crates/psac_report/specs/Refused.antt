-- The lines for words, a program or an input that isn't accepted.
use Rattle.std.specs.Prelude.{ℕ, List, [], ◌++◌, codes}
use Rattle.std.specs.Fmt.{decimal}
use Rattle.psac_inputs.specs.declared.fault.InputFault.{InputFault}
use Rattle.psac_inputs.specs.declared.fault.InputFault.TheVariants.{Utf8, Ragged, Cells, Texts, NoMemory}
use Rattle.psac_model.specs.Series.{Breach, UnknownName, Rebound, ReadBeforeWrite, WrittenTwice, NotWritten, BranchesDiffer, WrittenInBothSides, UnknownFunction, Arity, NoMain, WrongSort}
use Rattle.psac_report.specs.Printed.{line_of}

abbrev pub usage_line : List ℕ
usage_line =
    line_of (codes "usage: psac MODE PROGRAM INPUT [--workers N] [--nodes N] [--mods N] [--links N] [--rows N]")

abbrev pub program_line : ℕ → List ℕ → List ℕ
program_line line told = line_of (codes "program line " ++ decimal line ++ told)

abbrev pub syntax_line : ℕ → ℕ → List ℕ
syntax_line line column = program_line line (codes " column " ++ decimal column ++ codes " syntax")

abbrev pub limit_line : ℕ → ℕ → List ℕ
limit_line which line = program_line line (codes " limit " ++ decimal which)

abbrev pub breach_text : Breach → List ℕ
breach_text UnknownName = codes " unknown name"
breach_text Rebound = codes " rebound"
breach_text ReadBeforeWrite = codes " read before write"
breach_text WrittenTwice = codes " written twice"
breach_text NotWritten = codes " not written"
breach_text BranchesDiffer = codes " branches differ"
breach_text WrittenInBothSides = codes " written in both sides"
breach_text UnknownFunction = codes " unknown function"
breach_text Arity = codes " arity"
breach_text NoMain = codes " no main"
breach_text WrongSort = codes " wrong sort"

abbrev pub breach_line : Breach → ℕ → List ℕ
breach_line wrong line = program_line line (breach_text wrong)

abbrev pub record_line : ℕ → List ℕ → List ℕ
record_line n told = line_of (codes "input record " ++ decimal n ++ told)

abbrev pub input_line : InputFault → List ℕ
input_line (Utf8 n) = record_line n (codes " not utf-8")
input_line (Ragged n) = record_line n (codes " ragged")
input_line (Cells n) = record_line n (codes " too many cells")
input_line (Texts n) = record_line n (codes " too many texts")
input_line NoMemory = []
