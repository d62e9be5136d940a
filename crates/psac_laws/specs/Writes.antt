-- How often a tree writes a name.
use Rattle.std.specs.Prelude.{ℕ, ◌+◌, if◌then◌else◌}
use Rattle.psac_model.specs.Names.{Name, same_name}
use Rattle.psac_model.specs.Tree.{Tree, E, A, W, S, P, R}

-- how many parts of a tree write a name
abbrev pub times : Name → Tree Name → ℕ
times m E = 0
times m (A rest) = times m rest
times m (W n v rest) = (if same_name n m then 1 else 0) + times m rest
times m (S t rest) = times m t + times m rest
times m (P l r) = times m l + times m r
times m (R block env reads t) = times m t
