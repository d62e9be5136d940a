-- What a repair did, told from the old record and the new one.
use Rattle.std.specs.Prelude.{ℕ, zero, suc, ◌+◌, Bool, false, not, ◌||◌, if◌then◌else◌, List, [], ◌∷◌, ◌++◌}
use Rattle.psac_ops.specs.Table.{same_value}
use Rattle.psac_model.specs.declared.ends.Size.{Size}
use Rattle.psac_model.specs.declared.ends.Work.{Work}
use Rattle.psac_model.specs.declared.ends.Mode.TheVariants.{Repair}
use Rattle.psac_model.specs.Tree.{Reads, size_of, no_size, add_size}
use Rattle.psac_model.specs.Fresh.{nodes_of}
use Rattle.psac_traced.specs.Rec.{Rec, E, A, W, S, P, R, tree_of}

-- the modifiables that a record made
abbrev pub made_by : {N : Type 0} → Rec N → List N
made_by E = []
made_by (A m rest) = m ∷ made_by rest
made_by (W m v rest) = made_by rest
made_by (S t rest) = made_by t ++ made_by rest
made_by (P l r) = made_by l ++ made_by r
made_by (R room block env reads t) = made_by t

pub record Mending (N : Type 0) : Type 0 where
  -- the modifiables of what was thrown away, and of what was made in its place
  pub dropped : List N
  pub created : List N
  -- how many nodes stand on the way to the blocks that were run again, themselves included
  pub visited : ℕ
  -- how many blocks were run again
  pub rerun : ℕ
  -- the sizes of what was thrown away and of what was made
  pub removed : Size
  pub added : Size

abbrev pub untouched : {N : Type 0} → Mending N
untouched = record { dropped = []; created = []; visited = 0; rerun = 0; removed = no_size; added = no_size }

abbrev pub beside : {N : Type 0} → Mending N → Mending N → Mending N
beside a b =
    record { dropped = a.dropped ++ b.dropped; created = a.created ++ b.created; visited = a.visited + b.visited; rerun = a.rerun + b.rerun; removed = add_size a.removed b.removed; added = add_size a.added b.added }

-- one more where something was run again
abbrev pub visits : ℕ → ℕ → ℕ
visits zero n = n
visits (suc rerun) n = suc n

abbrev pub below : {N : Type 0} → Mending N → Mending N
below d = record d { visited = visits d.rerun d.visited }

-- a block that was run again
abbrev pub anew : {N : Type 0} → Rec N → Rec N → Mending N
anew t u =
    record { dropped = made_by t; created = made_by u; visited = 1; rerun = 1; removed = size_of (tree_of t); added = size_of (tree_of u) }

module _ {N : Type 0} (same : N → N → Bool) where
  -- two reads of the same modifiables gave other values
  abbrev pub unlike : Reads N → Reads N → Bool
  unlike (r ∷ rs) (s ∷ ss) = not (same_value same r.1 s.1) || unlike rs ss
  unlike _ _ = false

  abbrev pub mended : Rec N → Rec N → Mending N
  mended (A m old) (A n new) = mended old new
  mended (W m v old) (W n u new) = mended old new
  mended (S t old) (S u new) = below (beside (mended t u) (mended old new))
  mended (P t old) (P u new) = below (beside (mended t u) (mended old new))
  mended (R room b e reads t) (R level c f again u) = if unlike reads again then anew t u else below (mended t u)
  mended _ _ = untouched

-- the numbers of a repair's work
abbrev pub work_of : {N : Type 0} → Mending N → Work
work_of d =
    record { mode = Repair; visited = d.visited; rerun = d.rerun; inside = d.added.r; dropped = d.removed.r; nodes = nodes_of d.added; mods = d.added.mods; links = d.added.links }
