-- How the links of a record stand in a pass, and what going through a part of it leaves of links.
use Rattle.std.specs.Prelude.{◌≡◌, ℕ, ◌+◌, ◌≤◌, List, [], ◌∷◌, Some, sum_by}
use Rattle.psac_slots.specs.Handles.{Member, word_of}
use Rattle.psac_readers.specs.declared.view.Stage.TheVariants.{In, Dead}
use Rattle.psac_readers.specs.declared.view.LinkView.{LinkView}
use Rattle.psac_readers.specs.declared.view.ReadersView.{ReadersView}
use Rattle.psac_readers.specs.Chained.{named, mods_of}
use Rattle.psac_record.specs.Kept.{Kept, Stands, links_of}
use Rattle.psac_repair.specs.Taken.{indexes}

-- a link of the record as a pass has it, and as it has it once it was left
abbrev pub standing : Stands → LinkView
standing s = record { link = s.link.index; of = s.of.slot; node = Some (word_of s.node); stage = In }

abbrev pub left_link : Stands → LinkView
left_link s = record { link = s.link.index; of = s.of.slot; node = Some (word_of s.node); stage = Dead }

abbrev pub Distinct : List ℕ → Type 0
Distinct [] = Unit {0}
Distinct (x ∷ xs) = (Member x xs → ⊥) × Distinct xs

-- the pass has no link twice
abbrev pub LinksOnce : ReadersView → Type 0
LinksOnce r = (l : ℕ) → sum_by (named l) r.links ≤ 1

-- each link of the record is the pass's, and live; none stands in the record twice
pub record Linked (r : ReadersView) (k : Kept) : Type 0 where
  pub live : (s : Stands) → Member s (links_of k) → Member (standing s) r.links
  pub once : Distinct (indexes (links_of k))

-- from one view to another, by which these were left and these entered
pub record Relinked (r q : ReadersView) (gone made : List Stands) : Type 0 where
  pub branch : q.claims.branch ≡ r.claims.branch
  pub mods : q.mods ≡ r.mods
  pub links : (g : LinkView → ℕ) → sum_by g q.links + sum_by (λ (s : Stands). g (standing s)) gone ≡ sum_by g r.links + (sum_by (λ (s : Stands). g (left_link s)) gone + sum_by (λ (s : Stands). g (standing s)) made)
  -- all others stand as they stood
  pub keeps : (k : LinkView) → Member k r.links → (Member k.link (indexes gone) → ⊥) → Member k q.links
  pub walk : (g : ℕ → ℕ) → sum_by g (mods_of q.walk) ≡ sum_by g (mods_of r.walk)
  pub shared : q.shared ≡ r.shared
