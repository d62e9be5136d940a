-- How each operator is written.
use Prim.Native.String.{String}
use Rattle.std.specs.Prelude.{ℕ, ◌&&◌, ◌==◌, Bool, true, false, List, codes}
use Rattle.std.specs.Str.{bytes_eq}
use Rattle.psac_ops.specs.declared.op.Op.{Op}
use Rattle.psac_ops.specs.declared.op.Op.TheVariants as op
use Rattle.psac_ops.specs.Table.{arity, same_bool}

abbrev pub spelling_of : Op → String
spelling_of op.Add = "+"
spelling_of op.Sub = "-"
spelling_of op.Mul = "*"
spelling_of op.Div = "/"
spelling_of op.Rem = "%"
spelling_of op.Eq = "=="
spelling_of op.Ne = "!="
spelling_of op.Lt = "<"
spelling_of op.Le = "<="
spelling_of op.Gt = ">"
spelling_of op.Ge = ">="
spelling_of op.And = "and"
spelling_of op.Or = "or"
spelling_of op.Not = "not"
spelling_of op.Neg = "neg"
spelling_of op.Abs = "abs"
spelling_of op.Min = "min"
spelling_of op.Max = "max"
spelling_of op.Len = "len"
spelling_of op.Pair = "pair"
spelling_of op.Fst = "fst"
spelling_of op.Snd = "snd"

abbrev pub name_of : Op → List ℕ
name_of op = codes (spelling_of op)

-- written between its arguments
abbrev pub is_infix : Op → Bool
is_infix op.Not = false
is_infix op.Neg = false
is_infix op.Abs = false
is_infix op.Min = false
is_infix op.Max = false
is_infix op.Len = false
is_infix op.Pair = false
is_infix op.Fst = false
is_infix op.Snd = false
is_infix _ = true

-- this is how the operator is written
abbrev pub is_row : List ℕ → ℕ → Bool → Op → Bool
is_row name args between op = bytes_eq name (name_of op) && (args == arity op) && same_bool between (is_infix op)
