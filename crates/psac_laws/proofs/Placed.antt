-- The heap that a tree leaves, and where its reads stand.
use Rattle.std.specs.Prelude.{◌≡◌, [], ◌∷◌, Some}
use Rattle.psac_model.specs.Names.{Name, Heap, held}
use Rattle.psac_model.specs.Tree.{Tree, E, A, W, S, P, R, Reads}

-- a heap with all that a tree writes, in order
abbrev pub written : Tree Name → Heap → Heap
written E heap = heap
written (A rest) heap = written rest heap
written (W m v rest) heap = written rest ((m, v) ∷ heap)
written (S t rest) heap = written rest (written t heap)
written (P l r) heap = written r (written l heap)
written (R block env reads t) heap = written t heap

abbrev pub AllHeld : Heap → Reads Name → Type 0
AllHeld heap [] = Unit {0}
AllHeld heap (r ∷ rs) = (held heap r.0 ≡ Some r.1) × AllHeld heap rs

-- each block read what was held before, or was written by what stands before it; what one side of a par writes isn't
-- before the other side
abbrev pub Placed : Heap → Tree Name → Type 0
Placed heap E = Unit {0}
Placed heap (A rest) = Placed heap rest
Placed heap (W m v rest) = Placed ((m, v) ∷ heap) rest
Placed heap (S t rest) = Placed heap t × Placed (written t heap) rest
Placed heap (P l r) = Placed heap l × Placed heap r
Placed heap (R block env reads t) = AllHeld heap reads × Placed heap t
