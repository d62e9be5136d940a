-- What a run that was cut short drew, beside what a whole run has.
use Rattle.std.specs.Prelude.{ℕ, ◌≤◌}
use Rattle.psac_model.specs.declared.ends.Size.{Size}
use Rattle.psac_model.specs.declared.ends.Caps.{Caps}
use Rattle.psac_model.specs.declared.ends.CapKind.{CapKind}
use Rattle.psac_model.specs.declared.ends.CapKind.TheVariants.{Nodes, Mods, Links}
use Rattle.psac_model.specs.Tree.{size_of, add_size}
use Rattle.psac_model.specs.Fresh.{nodes_of}
use Rattle.psac_traced.specs.Rec.{Rec, tree_of}

-- so many modifiables alone
abbrev pub some_mods : ℕ → Size
some_mods n = record { s = 0; p = 0; r = 0; mods = n; links = 0 }

-- what was drawn: the parts of a record, and modifiables in vain
abbrev pub drew : {N : Type 0} → Rec N → ℕ → Size
drew r n = add_size (size_of (tree_of r)) (some_mods n)

-- of each kind that has a cap, at most as many
pub record IsWithin (some whole : Size) : Type 0 where
  pub nodes : nodes_of some ≤ nodes_of whole
  pub mods : some.mods ≤ whole.mods
  pub links : some.links ≤ whole.links

-- how many of a kind that has a cap, and the cap
abbrev pub count_of : CapKind → Size → ℕ
count_of Nodes z = nodes_of z
count_of Mods z = z.mods
count_of Links z = z.links

abbrev pub cap_of : CapKind → Caps → ℕ
cap_of Nodes caps = caps.nodes
cap_of Mods caps = caps.mods
cap_of Links caps = caps.links
