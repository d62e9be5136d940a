-- The record of a run with all that is kept beside it: the node of each S, P and R, and the link of each read.
use Rattle.std.specs.Prelude.{ℕ, Bool, true, false, List, [], ◌∷◌, ◌++◌, map, Option, Some, None, suc, ◌+◌, ◌-◌}
use Rattle.psac_ops.specs.declared.plain.Handle.{Handle}
use Rattle.psac_ops.specs.declared.plain.Plain.{Plain}
use Rattle.psac_ops.specs.Named.{value_of}
use Rattle.psac_readers.specs.declared.readers.Link.{Link}
use Rattle.psac_model.specs.declared.ends.Size.{Size}
use Rattle.psac_model.specs.Names.{Env}
use Rattle.psac_model.specs.Fresh.{levels}
use Rattle.psac_model.specs.Tree.{Reads, size_of}
use Rattle.psac_traced.specs.Rec as rec
use Rattle.psac_traced.specs.Rec.{Rec, tree_of}
use Rattle.psac_traced.specs.Mending.{made_by}
use Rattle.psac_record.specs.declared.parts.Binding.{Binding}
use Rattle.psac_record.specs.declared.parts.Seen.{Seen}
use Rattle.psac_record.specs.declared.parts.Reading.{Reading}

pub data Kept : Type 0 where
  E : Kept
  A : (m : Handle) (rest : Kept) → Kept
  W : (m : Handle) (v : Plain) (rest : Kept) → Kept
  S : (node : Handle) (t rest : Kept) → Kept
  P : (node : Handle) (l r : Kept) → Kept
  R : (reading : Reading) (t : Kept) → Kept

-- the environment of the definitions leaves out which destinations are new
abbrev pub env_of : List Binding → Env Handle
env_of = map (λ b. (b.name, value_of b.value))

abbrev pub reads_of : List Seen → Reads Handle
reads_of = map (λ s. (s.from, value_of s.value))

-- the record without its nodes and links
abbrev pub bare : Kept → Rec Handle
bare E = rec.E
bare (A m rest) = rec.A m (bare rest)
bare (W m v rest) = rec.W m (value_of v) (bare rest)
bare (S node t rest) = rec.S (bare t) (bare rest)
bare (P node l r) = rec.P (bare l) (bare r)
bare (R reading t) = rec.R (levels - reading.level) reading.block (env_of reading.env) (reads_of reading.reads) (bare t)

-- the nodes in tree order, each with its parent: the nearest node above it
abbrev pub nodes_below : Option Handle → Kept → List (Handle × Option Handle)
nodes_below above E = []
nodes_below above (A m rest) = nodes_below above rest
nodes_below above (W m v rest) = nodes_below above rest
nodes_below above (S node t rest) = (node, above) ∷ nodes_below (Some node) t ++ nodes_below (Some node) rest
nodes_below above (P node l r) = (node, above) ∷ nodes_below (Some node) l ++ nodes_below (Some node) r
nodes_below above (R reading t) = (reading.node, above) ∷ nodes_below (Some reading.node) t

-- the same without their parents
abbrev pub nodes_in : Kept → List Handle
nodes_in E = []
nodes_in (A m rest) = nodes_in rest
nodes_in (W m v rest) = nodes_in rest
nodes_in (S node t rest) = node ∷ (nodes_in t ++ nodes_in rest)
nodes_in (P node l r) = node ∷ (nodes_in l ++ nodes_in r)
nodes_in (R reading t) = reading.node ∷ nodes_in t

-- a link, the modifiable that was read, and the node of the block that read it
pub record Stands : Type 0 where
  pub link : Link
  pub of : Handle
  pub node : Handle

abbrev pub stands : Handle → Seen → Stands
stands node s = record { link = s.link; of = s.from; node = node }

-- the links in tree order
abbrev pub links_of : Kept → List Stands
links_of E = []
links_of (A m rest) = links_of rest
links_of (W m v rest) = links_of rest
links_of (S node t rest) = links_of t ++ links_of rest
links_of (P node l r) = links_of l ++ links_of r
links_of (R reading t) = map (stands reading.node) reading.reads ++ links_of t

-- the modifiables that were made, in tree order
abbrev pub made_of : Kept → List Handle
made_of k = made_by (bare k)

abbrev pub counts : Kept → Size
counts k = size_of (tree_of (bare k))

abbrev pub is_end : Kept → Bool
is_end E = true
is_end k = false

abbrev pub is_none : List Kept → Bool
is_none [] = true
is_none (k ∷ more) = false

-- a subtree in front of others; one that is E alone is left out
abbrev pub added : Kept → List Kept → List Kept
added E more = more
added k more = k ∷ more

-- what several subtrees have, one after the other
abbrev pub all_of : {X : Type 0} → (Kept → List X) → List Kept → List X
all_of f [] = []
all_of f (k ∷ more) = f k ++ all_of f more

-- how many parts a tree has
abbrev pub parts : Kept → ℕ
parts E = 0
parts (A m rest) = suc (parts rest)
parts (W m v rest) = suc (parts rest)
parts (S node t rest) = suc (parts t + parts rest)
parts (P node l r) = suc (parts l + parts r)
parts (R reading t) = suc (parts t)

abbrev pub parts_of_all : List Kept → ℕ
parts_of_all [] = 0
parts_of_all (k ∷ more) = parts k + parts_of_all more

-- the first part of the first subtree, and the list with what stood in it in front
abbrev pub parted : List Kept → Option (Kept × List Kept)
parted [] = None
parted (E ∷ more) = Some (E, more)
parted (A m rest ∷ more) = Some (A m E, added rest more)
parted (W m v rest ∷ more) = Some (W m v E, added rest more)
parted (S node t rest ∷ more) = Some (S node E E, added t (added rest more))
parted (P node l r ∷ more) = Some (P node E E, added l (added r more))
parted (R reading t ∷ more) = Some (R reading E, added t more)
