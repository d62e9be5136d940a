-- How a parallel node divides what a pass has: by the records of its sides.
use Rattle.std.specs.Prelude.{ℕ, Bool, false, not, ◌==◌, ◌&&◌, ◌||◌, ltb, List, [], ◌∷◌, ◌++◌, map}
use Rattle.psac_ops.specs.declared.plain.Handle.{Handle}
use Rattle.psac_slots.specs.Claiming.{times}
use Rattle.psac_marks.specs.declared.view.MarksView.{MarksView}
use Rattle.psac_traced.specs.Rec.{Rec, writes}
use Rattle.psac_traced.specs.Mending.{made_by}
use Rattle.psac_ops.specs.Value.{Value}
use Rattle.psac_record.specs.Kept.{Kept, links_of}
use Rattle.psac_repair.specs.Planted.{slots}
use Rattle.psac_repair.specs.Taken.{indexes}

abbrev pub some : {A : Type 0} → (A → Bool) → List A → Bool
some f [] = false
some f (x ∷ xs) = f x || some f xs

-- what a record made or wrote
abbrev pub touched : Rec Handle → List Handle
touched r = made_by r ++ map (λ (p : Handle × Value Handle). p.0) (writes r)

-- the record made or wrote a modifiable in the slot
abbrev pub writes_slot : Rec Handle → ℕ → Bool
writes_slot r s = some (λ (m : Handle). m.slot == s) (touched r)

abbrev pub neither : Rec Handle → Rec Handle → ℕ → Bool
neither l r s = not (writes_slot l s) && not (writes_slot r s)

-- the slot is that of a node of the record
abbrev pub has_node : Kept → ℕ → Bool
has_node k x = ltb 0 (times x (slots k))

abbrev pub has_link : Kept → ℕ → Bool
has_link k l = ltb 0 (times l (indexes (links_of k)))

-- nodes of neither side that aren't dropped: ancestors, and those that the walk comes to later
abbrev pub outside : MarksView → Kept → Kept → ℕ → Bool
outside m l r x = (times x m.dropped == 0) && (not (has_node l x) && not (has_node r x))
