-- The rows of the table of operators.
use Rattle.std.specs.Prelude.{ℕ, Bool, List, [], ◌∷◌, map}
use Rattle.std.specs.Str.{bytes_eq}
use Rattle.psac_ops.specs.declared.op.Op.{Op}
use Rattle.psac_ops.specs.declared.op.Op.TheVariants as op
use Rattle.psac_ops.specs.declared.rows.OpRow.{OpRow}
use Rattle.psac_ops.specs.Written.{is_row}

-- this is how the row's operator is written
abbrev pub is_right : OpRow → Bool
is_right row = is_row row.name.now row.arity row.infix row.op

abbrev pub has_name : List ℕ → OpRow → Bool
has_name name row = bytes_eq row.name.now name

abbrev pub names_of : List OpRow → List (List ℕ)
names_of = map (λ row. row.name.now)

-- the operators, in the order of the table
abbrev pub in_order : List Op
in_order =
    op.Add ∷ op.Sub ∷ op.Mul ∷ op.Div ∷ op.Rem ∷ op.Eq ∷ op.Ne ∷ op.Lt ∷ op.Le ∷ op.Gt ∷ op.Ge ∷ op.And ∷ op.Or
    ∷ op.Not ∷ op.Neg ∷ op.Abs ∷ op.Min ∷ op.Max ∷ op.Len ∷ op.Pair ∷ op.Fst ∷ op.Snd ∷ []
