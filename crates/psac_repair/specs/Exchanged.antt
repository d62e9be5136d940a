-- What a repair took off a record and put in its place, by every weight.
use Rattle.std.specs.Prelude.{◌≡◌, ℕ, ◌+◌, true, List, [], ◌++◌, map, sum_by}
use Rattle.psac_ops.specs.declared.plain.Handle.{Handle}
use Rattle.psac_ops.specs.declared.plain.Plain.{Plain}
use Rattle.psac_ops.specs.Named.{same_handle}
use Rattle.psac_slots.specs.Claiming.{times}
use Rattle.psac_values.specs.declared.view.ValueView.{ValueView}
use Rattle.psac_values.specs.Steps as values
use Rattle.psac_values.specs.Knowing.{United}
use Rattle.psac_marks.specs.declared.view.OwnView.{OwnView}
use Rattle.psac_marks.specs.declared.view.MarksView.{MarksView}
use Rattle.psac_marks.specs.Steps as marks
use Rattle.psac_marks.specs.Steps.{dropping}
use Rattle.psac_traced.specs.Mending.{unlike}
use Rattle.psac_record.specs.declared.parts.Reading.{Reading}
use Rattle.psac_record.specs.Kept.{Kept, A, W, S, P, R, Stands, links_of, nodes_in, made_of, reads_of, added, all_of}
use Rattle.psac_trace.specs.Rights.{Tidy, Kept as Stays}
use Rattle.psac_trace.specs.Grown.{MoreValues, MoreNodes}
use Rattle.psac_repair.specs.Divided.{has_node, outside}
use Rattle.psac_repair.specs.Planted.{slots}
use Rattle.psac_repair.specs.Taken.{nodes_up}
use Rattle.psac_repair.specs.Taking.{taken, given}
use Rattle.psac_repair.specs.Rewired.{reads_in}
use Rattle.psac_repair.specs.WatchLaws.{left_view, right_view}
use Rattle.psac_repair.specs.Counted.{done}

-- of records: subtrees that are gone, and others that were made
pub record Exchanged (old new : Kept) (gone made : List Kept) : Type 0 where
  pub nodes : (g : Handle → ℕ) → sum_by g (nodes_in new) + sum_by g (all_of nodes_in gone) ≡ sum_by g (nodes_in old) + sum_by g (all_of nodes_in made)
  pub mods : (g : Handle → ℕ) → sum_by g (made_of new) + sum_by g (all_of made_of gone) ≡ sum_by g (made_of old) + sum_by g (all_of made_of made)
  pub links : (g : Stands → ℕ) → sum_by g (links_of new) + sum_by g (all_of links_of gone) ≡ sum_by g (links_of old) + sum_by g (all_of links_of made)
  -- the definition's modifiables
  pub created : (done old new).created ≡ all_of made_of made
  pub dropped : (done old new).dropped ≡ all_of made_of gone

abbrev pub ExchangedKept : Type 0
ExchangedKept = (k : Kept) → Exchanged k k [] []

abbrev pub ExchangedMade : Type 0
ExchangedMade = (m : Handle) (k u : Kept) (gone made : List Kept) → Exchanged k u gone made → Exchanged (A m k) (A m u) gone made

abbrev pub ExchangedWrote : Type 0
ExchangedWrote = (m : Handle) (x y : Plain) (k u : Kept) (gone made : List Kept) → Exchanged k u gone made → Exchanged (W m x k) (W m y u) gone made

abbrev pub ExchangedParts : Type 0
ExchangedParts = (n : Handle) (t k u w : Kept) (gone left made new : List Kept) → Exchanged t u gone made → Exchanged k w left new → Exchanged (S n t k) (S n u w) (gone ++ left) (made ++ new)

abbrev pub ExchangedSides : Type 0
ExchangedSides = (n : Handle) (l k u w : Kept) (gone left made new : List Kept) → Exchanged l u gone made → Exchanged k w left new → Exchanged (P n l k) (P n u w) (gone ++ left) (made ++ new)

abbrev pub ExchangedBlock : Type 0
ExchangedBlock = (b : Reading) (t u : Kept) (gone made : List Kept) → Exchanged t u gone made → Exchanged (R b t) (R b u) gone made

abbrev pub ExchangedAgain : Type 0
ExchangedAgain = (b c : Reading) (t u : Kept) → c.node ≡ b.node → reads_in c ≡ reads_in b → unlike same_handle (reads_of b.reads) (reads_of c.reads) ≡ true → Exchanged (R b t) (R c u) (added t []) (added u [])

-- what a pass made, and the slots that it dropped, are those of the subtrees by which the new record differs
pub record Replaced (old new : Kept) (mods nodes : List Handle) (gone : List ℕ) : Type 0 where
  pub mods_are : mods ≡ all_of made_of (given old new)
  pub nodes_are : nodes ≡ all_of nodes_in (given old new)
  pub gone_are : gone ≡ all_of slots (taken old new)
  pub exchanged : Exchanged old new (taken old new) (given old new)

-- of a pass's nodes: these are held beside those before, and these slots are dropped
pub record Swapped (m n : MarksView) (gone : List ℕ) (made : List Handle) : Type 0 where
  pub held : (g : Handle → ℕ) → sum_by g n.claims.held ≡ sum_by g m.claims.held + sum_by g made
  pub dropped : (x : ℕ) → times x n.dropped ≡ times x m.dropped + times x gone

abbrev pub SwappedThen : Type 0
SwappedThen = (m n q : MarksView) (a b : List ℕ) (x y : List Handle) → Swapped m n a x → Swapped n q b y → Swapped m q (a ++ b) (x ++ y)

abbrev pub SwappedSides : Type 0
SwappedSides =
    (m a b j : MarksView) (l k : Kept) (s t : List ℕ) (x y : List Handle) → Swapped (marks.left_of (outside m l k) (has_node k) m) a s x → Swapped (marks.right_of (outside m l k) (has_node k) m) b t y → j ≡ marks.joined a b → Swapped m j (s ++ t) (x ++ y)

-- the nodes of a subtree were dropped, and others made
abbrev pub SwappedAgain : Type 0
SwappedAgain = (m n q : MarksView) (t : Kept) (made : List OwnView) → n ≡ dropping (nodes_up t) m → MoreNodes n q made → Swapped m q (slots t) (map (λ (o : OwnView). o.node) made)

-- of modifiables: one call after another, and both sides of a par
abbrev pub ValuesThen : Type 0
ValuesThen = (v u x : ValueView) (a b : List Handle) → Stays v u → Stays u x → MoreValues v u a → MoreValues u x b → MoreValues v x (a ++ b)

abbrev pub ValuesSides : Type 0
ValuesSides =
    (v a b j : ValueView) (l k : Kept) (x y : List Handle) → Tidy v → Stays (left_view l k v) a → Stays (right_view l k v) b → j ≡ values.joined a b → United a b j → MoreValues (left_view l k v) a x → MoreValues (right_view l k v) b y → MoreValues v j (x ++ y)
