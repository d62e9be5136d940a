-- The first part of a line, and the others.
use Rattle.std.proofs.Common.{◌≡◌, ℕ, ◌+◌, ◌-◌, List, [], ◌∷◌, ◌∙◌, length, take, drop, position, Option, Some, None, Bool, true, false, cond, nat_lt, sym, ap, subst, arith, refl}
use Rattle.std.specs.List.{position_or_len, join_with_byte}
use Rattle.std.proofs.lemmas.Bool.{ltb-true, ltb-false}
use Rattle.std.proofs.lemmas.Slice.{between_to_end}
use Rattle.std.proofs.lemmas.List.Sums.{fails_before_first}
use Rattle.std.proofs.lemmas.List.Splits.{slice_split_first, slice_split_none, length-slice_split, join_with_byte-slice_split}
use Rattle.psac_script.specs.Parts.{is_space, parts_of, parts_left, joined}

chosen : (b : Bool) (n at : ℕ) → cond b (Some n) None ≡ Some at → (b ≡ true) × (n ≡ at)
chosen true n at e = (refl, cc)
chosen false n at e = absurd (cc)

not_chosen : (b : Bool) (n : ℕ) → cond b (Some n) None ≡ None → b ≡ false
not_chosen true n e = absurd (cc)
not_chosen false n e = refl

-- a line that has a space is its first part and the parts behind that space
pub first_part : (line : List ℕ) (at : ℕ) → position is_space line ≡ Some at → parts_of line ≡ take at line ∷ parts_of (drop (at + 1) line)
first_part line at e =
    let is = chosen (nat_lt (position_or_len is_space line) (length line)) (position_or_len is_space line) at e in
    let low = ltb-true (position_or_len is_space line) (length line) is.0 in
    let P : ℕ → Type 0 = λ n. parts_of line ≡ take n line ∷ parts_of (drop (n + 1) line) in
    subst P is.1 (slice_split_first is_space line 0 low)

-- the same, of what is left of a line
pub next_part : (parts : List (List ℕ)) (line : List ℕ) (at : ℕ) → parts_of line ≡ parts → Some at ≡ position is_space line → parts ≡ take at line ∷ parts_of (take (length line - (at + 1)) (drop (at + 1) line))
next_part parts line at left found =
    sym left ∙ first_part line at (sym found) ∙ rw (between_to_end line (at + 1) (length line) (omega arith)) refl

-- a line without a space is one part
pub only_part : (line : List ℕ) → position is_space line ≡ None → parts_of line ≡ line ∷ []
only_part line e =
    let none = not_chosen (nat_lt (position_or_len is_space line) (length line)) (position_or_len is_space line) e in
    let long = ltb-false (position_or_len is_space line) (length line) none in
    slice_split_none is_space line (λ k d low. fails_before_first is_space line k d (omega arith))

pub last_part : (parts : List (List ℕ)) (line : List ℕ) → parts_of line ≡ parts → None ≡ position is_space line → parts ≡ line ∷ []
last_part parts line left none = sym left ∙ only_part line (sym none)

joined_parts : (parts : List (List ℕ)) (line : List ℕ) → parts ≡ parts_of line → join_with_byte 32 parts ≡ line → Some line ≡ joined parts
joined_parts [] line e whole = absurd (omega (arith, ap length e, length-slice_split is_space line))
joined_parts (part ∷ parts) line e whole = ap Some (sym whole)

-- what is left of a line is its parts, joined
pub joined_left : (left : Option (List ℕ)) → left ≡ joined (parts_left left)
joined_left None = refl
joined_left (Some line) = joined_parts (parts_of line) line refl (join_with_byte-slice_split 32 line)
