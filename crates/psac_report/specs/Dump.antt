-- A record as text.
use Rattle.std.specs.Prelude.{ℕ, nat_eq, if◌then◌else◌, List, [], ◌++◌, flat_map, slice_get, unwrap_or, codes}
use Rattle.std.specs.Fmt.{decimal}
use Rattle.psac_ops.specs.Value.{Value, ref, pair}
use Rattle.psac_inputs.specs.Texts.{Texts}
use Rattle.std.specs.Str.{bytes_eq}
use Rattle.std.specs.List.{common_prefix_len}
use Rattle.psac_inputs.specs.Grid.{Grid}
use Rattle.psac_model.specs.declared.ends.FaultKind.{FaultKind}
use Rattle.psac_model.specs.declared.ends.End.{End}
use Rattle.psac_model.specs.declared.ends.End.TheVariants.{Done, Stop}
use Rattle.psac_model.specs.declared.ends.Caps.{Caps}
use Rattle.psac_model.specs.Run.{Ran}
use Rattle.psac_model.specs.Fresh.{World, fresh, Outcome, Full, Fault, Good, outcome}
use Rattle.psac_model.specs.Names.{Name, Input, Out, Rows, Made, Heap}
use Rattle.psac_model.specs.Tree.{Tree, E, A, W, S, P, R}
use Rattle.psac_report.specs.Printed.{line_of, value_text, fault_line}
use Rattle.psac_model.specs.Outputs.{shown_of}

abbrev pub name_text : Name → List ℕ
name_text (Input r c) = codes "c/" ++ decimal r ++ codes "/" ++ decimal c
name_text (Out i) = codes "o/" ++ decimal i
name_text Rows = codes "r"
name_text (Made path) = codes "m/" ++ flat_map decimal path

-- a value as it is printed, with the names of its references
abbrev pub named_text : Texts → Value Name → List ℕ
named_text texts (ref m) = codes "&" ++ name_text m
named_text texts (pair m n) = codes "&" ++ name_text m ++ codes "," ++ name_text n
named_text texts v = value_text texts (shown_of v)

module _ (words : List (List ℕ)) (texts : Texts) where
  abbrev pub bound_text : ℕ × Value Name → List ℕ
  bound_text b = codes " " ++ unwrap_or (slice_get words b.0) [] ++ codes "=" ++ named_text texts b.1

  abbrev pub read_text : Name × Value Name → List ℕ
  read_text r = codes " " ++ name_text r.0 ++ codes "=" ++ named_text texts r.1

  -- a line for each part, a part before what follows it
  abbrev pub parts : Tree Name → List ℕ
  parts E = codes "E\n"
  parts (A rest) = codes "A\n" ++ parts rest
  parts (W m v rest) = line_of (codes "W " ++ name_text m ++ codes " " ++ named_text texts v) ++ parts rest
  parts (S t rest) = codes "S\n" ++ parts t ++ parts rest
  parts (P l r) = codes "P\n" ++ parts l ++ parts r
  parts (R block env reads t) =
      line_of (codes "R " ++ decimal block ++ flat_map bound_text env ++ codes " |" ++ flat_map read_text reads) ++ parts t

  unfoldable pub dump : Tree Name → List ℕ
  dump tree = codes "psac record 1\n" ++ parts tree

-- what a text that is to be a dump is found to be
pub data Verdict : Type 0 where
  Yes : Verdict
  -- the length of the longest front that it has in common with the dump
  No : (at : ℕ) → Verdict
  Stopped : (kind : FaultKind) (line : ℕ) → Verdict

abbrev pub compared_with : List ℕ → List ℕ → Verdict
compared_with bytes right = if bytes_eq bytes right then Yes else No (common_prefix_len nat_eq bytes right)

abbrev pub verdict_by : List (List ℕ) → Texts → List ℕ → End → Tree Name → Verdict
verdict_by words texts bytes Done tree = compared_with bytes (dump words texts tree)
verdict_by words texts bytes (Stop kind line) tree = Stopped kind line

abbrev pub verdict_of : List (List ℕ) → Texts → List ℕ → Ran Name Heap → Verdict
verdict_of words texts bytes r = verdict_by words texts bytes r.end r.tree

unfoldable pub verdict : World → Grid → Texts → List ℕ → Verdict
verdict w g texts bytes = verdict_of w.program.names texts bytes (fresh w g)

abbrev pub verdict_line : Verdict → List ℕ
verdict_line Yes = codes "yes\n"
verdict_line (No n) = line_of (codes "no " ++ decimal n)
verdict_line (Stopped kind line) = fault_line kind line

-- the report of the mode that writes the record
abbrev pub dump_by : World → Texts → Outcome → List ℕ
dump_by w texts (Full which) = codes "full\n"
dump_by w texts (Fault kind line) = fault_line kind line
dump_by w texts (Good tree heap) = dump w.program.names texts tree

unfoldable pub dump_report : World → Caps → Grid → Texts → List ℕ
dump_report w caps g texts = dump_by w texts (outcome w caps g)
