-- A whole walk of a set, by `first` and then by `next`.
use Rattle.std.specs.Prelude.{◌≡◌, ℕ, List, [], ◌∷◌, ◌≤◌, Option, Some, None, cond, ◌==◌, sum_by}
use Rattle.psac_readers.specs.declared.view.LinkView.{LinkView}
use Rattle.psac_readers.specs.declared.view.ReadersView.{ReadersView}
use Rattle.psac_readers.specs.Chained.{is_live, times}
use Rattle.psac_readers.specs.Steps.{next_live, behind}

-- along the chain, where the answer is this one, the answers are these links and then none
abbrev pub Answers : List LinkView → List ℕ → Option ℕ → List ℕ → Type 0
Answers ks chain answer [] = answer ≡ None
Answers ks chain answer (l ∷ ls) = (answer ≡ Some l) × Answers ks chain (next_live ks (behind l chain)) ls

-- of one link: is it l, live in the set of m
abbrev pub live_in : ℕ → ℕ → LinkView → ℕ
live_in m l k = cond (k.link == l) (cond (k.of == m) (is_live k.stage) 0) 0

-- a walk of the set along its chain ends, and has listed its live links, each once
pub record Walked (v : ReadersView) (m : ℕ) (chain : List ℕ) : Type 0 where
  pub links : List ℕ
  pub walk : Answers v.links chain (next_live v.links chain) links
  pub lists : (l : ℕ) → times l links ≡ sum_by (live_in m l) v.links
  pub once : (l : ℕ) → times l links ≤ 1
  -- there is one walk
  pub only : (ls : List ℕ) → Answers v.links chain (next_live v.links chain) ls → ls ≡ links
