-- The parts of subtrees one after another.
use Rattle.std.proofs.Common.{◌≡◌, ℕ, zero, suc, ◌<◌, List, [], ◌∷◌, ◌++◌, map, length, take, get_or, refl, ap, inl, inr, arith}
use Rattle.psac_ops.specs.declared.plain.Handle.{Handle}
use Rattle.psac_slots.specs.Handles.{Member}
use Rattle.psac_record.specs.declared.parts.Seen.{Seen}
use Rattle.psac_record.specs.Kept.{stands}
use Rattle.psac_reclaim.specs.Gave.{slots_of, sets_of}

pub get_or_in : {A : Type 0} (xs : List A) (i : ℕ) (d : A) → i < length xs → Member (get_or xs i d) xs
get_or_in [] i d l = absurd (omega arith)
get_or_in (x ∷ xs) zero d l = inl refl
get_or_in (x ∷ xs) (suc i) d l = inr (get_or_in xs i d (omega arith))

pub slots_more : (xs : List Seen) (i : ℕ) (d : Seen) → i < length xs → slots_of (take (suc i) xs) ≡ slots_of (take i xs) ++ (get_or xs i d).from.slot ∷ []
slots_more [] i d l = absurd (omega arith)
slots_more (x ∷ xs) zero d l = refl
slots_more (x ∷ xs) (suc i) d l = ap (λ (z : List ℕ). x.from.slot ∷ z) (slots_more xs i d (omega arith))

pub sets_are : (node : Handle) (reads : List Seen) → sets_of (map (stands node) reads) ≡ slots_of reads
sets_are node [] = refl
sets_are node (s ∷ reads) = ap (λ (z : List ℕ). s.from.slot ∷ z) (sets_are node reads)
