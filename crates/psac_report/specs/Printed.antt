-- The printed lines.
use Rattle.std.specs.Prelude.{ℕ, ◌/◌, ◌%◌, ◌==◌, ◌||◌, nat_lt, Bool as Truth, true, false, if◌then◌else◌, List, [], ◌∷◌, ◌++◌, flat_map, slice_get, unwrap_or, codes}
use Prim.Native.String.{String}
use Rattle.std.specs.Fmt.{decimal, signed_decimal, digit_glyph}
use Rattle.psac_inputs.specs.Texts.{Texts}
use Rattle.psac_model.specs.declared.ends.FaultKind.{FaultKind}
use Rattle.psac_model.specs.declared.ends.FaultKind.TheVariants as fault
use Rattle.psac_model.specs.declared.ends.Size.{Size}
use Rattle.psac_model.specs.declared.ends.Mode.{Mode}
use Rattle.psac_model.specs.declared.ends.Mode.TheVariants.{Repair, Anew}
use Rattle.psac_model.specs.declared.ends.Work.{Work}
use Rattle.psac_model.specs.declared.ends.Shown.{Shown}
use Rattle.psac_model.specs.declared.ends.Shown.TheVariants as shown

abbrev pub line_of : List ℕ → List ℕ
line_of bytes = bytes ++ 10 ∷ []

-- a word, an equals sign and a number
abbrev pub count : String → ℕ → List ℕ
count word n = codes word ++ 61 ∷ decimal n

abbrev pub hexadecimal : ℕ → List ℕ
hexadecimal c = digit_glyph false (c / 16) ∷ digit_glyph false (c % 16) ∷ []

-- a byte within quotes
abbrev pub escaped : ℕ → List ℕ
escaped c =
    if c == 34 then codes "\\\"" else
    if c == 92 then codes "\\\\" else
    if c == 10 then codes "\\n" else
    if nat_lt c 32 || (c == 127) then codes "\\x" ++ hexadecimal c else c ∷ []

abbrev pub quoted : List ℕ → List ℕ
quoted bytes = codes "\"" ++ flat_map escaped bytes ++ codes "\""

abbrev pub truth_text : Truth → List ℕ
truth_text true = codes "true"
truth_text false = codes "false"

-- the bytes of the text at a place of the list
abbrev pub text_bytes : Texts → ℕ → List ℕ
text_bytes texts id = unwrap_or (slice_get texts id) []

abbrev pub value_text : Texts → Shown → List ℕ
value_text texts shown.Nil = codes "nil"
value_text texts (shown.Bool b) = truth_text b
value_text texts (shown.Int i) = signed_decimal i
value_text texts (shown.Text t) = quoted (text_bytes texts t.id)
value_text texts shown.Ref = codes "ref"
value_text texts shown.Pair = codes "pair"

abbrev pub mode_text : Mode → List ℕ
mode_text Repair = codes "mode=repair"
mode_text Anew = codes "mode=anew"

abbrev pub work_line : Work → List ℕ
work_line w =
    line_of
    (mode_text w.mode ++ count " visited" w.visited ++ count " rerun" w.rerun ++ count " inside" w.inside ++ count " dropped" w.dropped
    ++ count " nodes" w.nodes ++ count " mods" w.mods ++ count " links" w.links)

abbrev pub size_line : Size → List ℕ
size_line z = line_of (count "S" z.s ++ count " P" z.p ++ count " R" z.r ++ count " mods" z.mods ++ count " links" z.links)

abbrev pub fault_text : FaultKind → List ℕ
fault_text fault.Kind = codes "kind"
fault_text fault.Overflow = codes "overflow"
fault_text fault.DivZero = codes "divzero"
fault_text fault.Range = codes "range"
fault_text fault.TooDeep = codes "depth"

abbrev pub fault_line : FaultKind → ℕ → List ℕ
fault_line kind line = line_of (codes "fault " ++ fault_text kind ++ codes " line " ++ decimal line)

-- a name and what is shown of its value
abbrev pub output_line : Texts → List ℕ → Shown → List ℕ
output_line texts name v = line_of (name ++ codes " = " ++ value_text texts v)

-- a line for each name and value
abbrev pub output_lines : Texts → List (List ℕ) → List Shown → List ℕ
output_lines texts (name ∷ names) (v ∷ vs) = output_line texts name v ++ output_lines texts names vs
output_lines texts _ _ = []

abbrev pub held_line : Texts → ℕ → Shown → List ℕ
held_line texts place v = output_line texts (codes "held " ++ decimal place) v
