-- A value as three words of 64 bits, and back.
use Rattle.std.specs.Prelude.{ℕ, zero, suc, ◌+◌, ◌*◌, ◌/◌, ◌%◌, ◌^◌, Bool as Truth, true, false, List, [], ◌∷◌, Option, Some, None}
use Rattle.std.specs.Int.{cast_signed, cast_unsigned, w64}
use Rattle.psac_ops.specs.declared.plain.Handle.{Handle}
use Rattle.psac_ops.specs.declared.plain.TextId.{TextId}
use Rattle.psac_ops.specs.declared.plain.Plain.{Plain}
use Rattle.psac_ops.specs.declared.plain.Plain.TheVariants.{Nil, Bool, Int, Text, Ref, Pair}

abbrev pub bit_of : Truth → ℕ
bit_of false = 0
bit_of true = 1

-- two numbers of 32 bits in one word, the first below
abbrev pub both_in : ℕ → ℕ → ℕ
both_in low high = low + high * 2 ^ 32

abbrev pub low_of : ℕ → ℕ
low_of word = word % 2 ^ 32

abbrev pub high_of : ℕ → ℕ
high_of word = word / 2 ^ 32

abbrev pub handle_word : Handle → ℕ
handle_word h = both_in h.slot h.generation

-- the kind, and what the value holds; an Int is its 64 bits in two's complement
abbrev pub words_of : Plain → List ℕ
words_of Nil = 0 ∷ 0 ∷ 0 ∷ []
words_of (Bool b) = 1 ∷ bit_of b ∷ 0 ∷ []
words_of (Int i) = 2 ∷ cast_unsigned w64 i ∷ 0 ∷ []
words_of (Text t) = 3 ∷ both_in t.id t.len ∷ 0 ∷ []
words_of (Ref h) = 4 ∷ handle_word h ∷ 0 ∷ []
words_of (Pair g h) = 5 ∷ handle_word g ∷ handle_word h ∷ []

-- a word that has to be 0
abbrev pub where_zero : ℕ → Option Plain → Option Plain
where_zero zero value = value
where_zero _ value = None

abbrev pub truth_of : ℕ → Option Plain
truth_of zero = Some (Bool false)
truth_of (suc zero) = Some (Bool true)
truth_of _ = None

abbrev pub text_of : ℕ → TextId
text_of word = record { id = low_of word; len = high_of word }

abbrev pub handle_of : ℕ → Handle
handle_of word = record { slot = low_of word; generation = high_of word }

-- the value whose kind is the first word
abbrev pub of_kind : ℕ → ℕ → ℕ → Option Plain
of_kind zero a b = where_zero a (where_zero b (Some Nil))
of_kind (suc zero) a b = where_zero b (truth_of a)
of_kind (suc (suc zero)) a b = where_zero b (Some (Int (cast_signed w64 a)))
of_kind (suc (suc (suc zero))) a b = where_zero b (Some (Text (text_of a)))
of_kind (suc (suc (suc (suc zero)))) a b = where_zero b (Some (Ref (handle_of a)))
of_kind (suc (suc (suc (suc (suc zero))))) a b = Some (Pair (handle_of a) (handle_of b))
of_kind _ a b = None

-- the value that has these words, if one has
abbrev pub of_words : List ℕ → Option Plain
of_words (k ∷ a ∷ b ∷ []) = of_kind k a b
of_words _ = None
