-- What subtrees have: the modifiables that they made, their nodes, and the links of their reads.
use Rattle.std.specs.Prelude.{◌≢◌, List, [], ◌∷◌, ◌++◌, map, ℕ, Bool, ◌==◌}
use Rattle.psac_ops.specs.declared.plain.Handle.{Handle}
use Rattle.psac_slots.specs.Handles.{Member, slot_times}
use Rattle.psac_record.specs.Kept.{Kept, E, A, W, S, P, R, Stands, stands}

-- the nodes in tree order
abbrev pub nodes_of : Kept → List Handle
nodes_of E = []
nodes_of (A m rest) = nodes_of rest
nodes_of (W m v rest) = nodes_of rest
nodes_of (S node t rest) = node ∷ (nodes_of t ++ nodes_of rest)
nodes_of (P node l r) = node ∷ (nodes_of l ++ nodes_of r)
nodes_of (R reading t) = reading.node ∷ nodes_of t

-- what the first part alone has
abbrev pub made_here : Kept → List Handle
made_here (A m rest) = m ∷ []
made_here k = []

abbrev pub node_here : Kept → List Handle
node_here (S node t rest) = node ∷ []
node_here (P node l r) = node ∷ []
node_here (R reading t) = reading.node ∷ []
node_here k = []

abbrev pub links_here : Kept → List Stands
links_here (R reading t) = map (stands reading.node) reading.reads
links_here k = []

-- of all subtrees, one after another
abbrev pub in_all : {X : Type 0} → (Kept → List X) → List Kept → List X
in_all f [] = []
in_all f (k ∷ more) = f k ++ in_all f more

-- none of the handles is of the slot
abbrev pub Outside : List Handle → ℕ → Type 0
Outside hs s = (h : Handle) → Member h hs → h.slot ≢ s

-- and as a test
abbrev pub is_outside : List Handle → ℕ → Bool
is_outside hs s = slot_times s hs == 0
