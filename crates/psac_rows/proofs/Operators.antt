-- The operators and the word form of values, computed.
use Rattle.std.proofs.Common.{◌≡◌, refl, pos, negsuc, true, [], ◌∷◌, Some, None, Ok, Err, codes, map, ◌^◌, ◌-◌}
use Rattle.psac_rows.specs.Opened.{opened, column}
use Rattle.psac_ops.specs.declared.op.Op.TheVariants as op
use Rattle.psac_ops.specs.declared.op.OpFault.TheVariants.{Kind, Overflow, DivZero}
use Rattle.psac_ops.specs.declared.plain.Plain.TheVariants as plain
use Rattle.psac_ops.specs.Value.{nil, bool, int, ref, pair}
use Rattle.psac_ops.specs.Table.{applied}
use Rattle.psac_ops.specs.Words.{words_of, of_words}
use Rattle.psac_base.specs.Number.{int_of}
use Rattle.psac_inputs.specs.Grid.{widened, with_rows, with_cell, room_for}
use Rattle.psac_inputs.specs.Batch.{empty_batch, batch_set, batch_rows, put_all}
use Rattle.psac_model.specs.Names.{Input, Out, same_name}
use Rattle.psac_report.specs.Printed.{quoted}

quotient_of_least : applied same_name op.Div (int (negsuc (2 ^ 63 - 1)) ∷ int (negsuc 0) ∷ []) ≡ Err Overflow
quotient_of_least = refl

remainder_of_least : applied same_name op.Rem (int (negsuc (2 ^ 63 - 1)) ∷ int (negsuc 0) ∷ []) ≡ Ok (int (pos 0))
remainder_of_least = refl

quotient : applied same_name op.Div (int (negsuc 6) ∷ int (pos 2) ∷ []) ≡ Ok (int (negsuc 2))
quotient = refl

remainder : applied same_name op.Rem (int (negsuc 6) ∷ int (pos 2) ∷ []) ≡ Ok (int (negsuc 0))
remainder = refl

by_zero : applied same_name op.Rem (int (negsuc 6) ∷ int (pos 0) ∷ []) ≡ Err DivZero
by_zero = refl

kind_first : applied same_name op.Div (nil ∷ int (pos 0) ∷ []) ≡ Err Kind
kind_first = refl

absolute : applied same_name op.Abs (int (negsuc (2 ^ 63 - 1)) ∷ []) ≡ Err Overflow
absolute = refl

opposite : applied same_name op.Neg (int (pos 5) ∷ []) ≡ Ok (int (negsuc 4))
opposite = refl

smaller : applied same_name op.Min (int (negsuc 4) ∷ int (pos 2) ∷ []) ≡ Ok (int (negsuc 4))
smaller = refl

greater : applied same_name op.Ge (int (pos 2) ∷ int (pos 2) ∷ []) ≡ Ok (bool true)
greater = refl

product : applied same_name op.Mul (int (pos (2 ^ 32)) ∷ int (negsuc (2 ^ 31 - 1)) ∷ []) ≡ Ok (int (negsuc (2 ^ 63 - 1)))
product = refl

product_over : applied same_name op.Mul (int (pos (2 ^ 32)) ∷ int (pos (2 ^ 31)) ∷ []) ≡ Err Overflow
product_over = refl

second : applied same_name op.Snd (pair (Input 0 1) (Out 2) ∷ []) ≡ Ok (ref (Out 2))
second = refl

unequal : applied same_name op.Ne (int (pos 2) ∷ nil ∷ []) ≡ Ok (bool true)
unequal = refl

words_back : of_words (words_of (plain.Pair (record { slot = 7; generation = 9 }) (record { slot = 1; generation = 0 }))) ≡ Some (plain.Pair (record { slot = 7; generation = 9 }) (record { slot = 1; generation = 0 }))
words_back = refl

words_of_least : words_of (plain.Int (negsuc (2 ^ 63 - 1))) ≡ (2 ∷ 2 ^ 63 ∷ 0 ∷ [])
words_of_least = refl

least_back : of_words (2 ∷ 2 ^ 63 ∷ 0 ∷ []) ≡ Some (plain.Int (negsuc (2 ^ 63 - 1)))
least_back = refl

no_words : of_words (1 ∷ 2 ∷ 0 ∷ []) ≡ None
no_words = refl

escapes : quoted (34 ∷ 92 ∷ 10 ∷ 9 ∷ 127 ∷ 200 ∷ 97 ∷ []) ≡ 34 ∷ 92 ∷ 34 ∷ 92 ∷ 92 ∷ 92 ∷ 110 ∷ 92 ∷ 120 ∷ 48 ∷ 57 ∷ 92 ∷ 120 ∷ 55 ∷ 102 ∷ 200 ∷ 97 ∷ 34 ∷ []
unfolding opened
escapes = refl

fields : map int_of (codes "007" ∷ codes "-0" ∷ codes "+5" ∷ codes "-9223372036854775808" ∷ codes "9223372036854775808" ∷ codes "" ∷ codes "0" ∷ codes "1.5" ∷ codes " 5" ∷ []) ≡ (None ∷ None ∷ None ∷ Some (negsuc (2 ^ 63 - 1)) ∷ None ∷ None ∷ Some (pos 0) ∷ None ∷ None ∷ [])
fields = refl

-- a batch over a grid with room gives what the staged grid gives
batch_agrees : put_all (batch_set 2 0 (plain.Int (pos 7)) (batch_rows 3 (batch_rows 1 (empty_batch (widened 4 (column (1 ∷ 2 ∷ []))))))) (widened 4 (column (1 ∷ 2 ∷ []))) ≡ with_cell 2 0 (plain.Int (pos 7)) (with_rows 3 (with_rows 1 (widened 4 (column (1 ∷ 2 ∷ [])))))
batch_agrees = refl

rooms : (room_for 4 2 1 ∷ room_for 70000 2 1 ∷ room_for 0 2 1 ∷ room_for 70000 2 3 ∷ room_for 5 0 0 ∷ []) ≡ (4 ∷ 65536 ∷ 2 ∷ 21845 ∷ 0 ∷ [])
rooms = refl
