-- What a pass has of nodes where nothing was done, over one call after another, and over both sides of a fork.
use Rattle.std.proofs.Common.{◌≡◌, ℕ, ◌+◌, Bool, false, List, [], ◌++◌, map, refl, ap, sym, ◌∙◌, subst, arith}
use Rattle.std.specs.Prelude.{filter, sum_by}
use Rattle.std.proofs.lemmas.List.{map-append}
use Rattle.std.proofs.lemmas.List.Sums.{sum_by-append}
use Rattle.psac_slots.specs.Branches.{stem}
use Rattle.psac_slots.specs.Divided.{told, above, comes_back}
use Rattle.psac_slots.proofs.Turns.{stem_push}
use Rattle.psac_marks.specs.declared.view.OwnView.{OwnView}
use Rattle.psac_marks.specs.declared.view.MarksView.{MarksView}
use Rattle.psac_marks.specs.Marked.{ways, rights_of}
use Rattle.psac_marks.specs.Steps.{left_of, right_of, joined, cleared, dropping}
use Rattle.psac_record.specs.Kept.{Kept}
use Rattle.psac_trace.specs.Fit.{Rooted}
use Rattle.psac_trace.specs.Grown.{MoreNodes, nodes_in as handles_in}
use Rattle.psac_trace.proofs.Sums.{joined_sum, above_is}
use Rattle.psac_repair.specs.Divided.{has_node, outside}
use Rattle.psac_repair.specs.Taken.{nodes_up}
use Rattle.psac_repair.specs.Exchanged.{Swapped}
use Rattle.psac_repair.proofs.Exchanging.{swapped_then, swapped_sides}

-- these nodes are the pass's beside those before
abbrev pub Owned : MarksView → MarksView → List OwnView → Type 0
Owned m n made = (g : OwnView → ℕ) → sum_by g n.own ≡ sum_by g m.own + sum_by g made

pub swapped_none : (m : MarksView) → Swapped m m [] []
swapped_none m = record { held = λ g. (let a : sum_by g [] ≡ 0 = refl in omega (arith, a)); dropped = λ x. omega arith }

pub owned_none : (m : MarksView) → Owned m m []
owned_none m g = let a : sum_by g [] ≡ 0 = refl in omega (arith, a)

pub owned_then : (m n q : MarksView) (x y : List OwnView) → Owned m n x → Owned n q y → Owned m q (x ++ y)
owned_then m n q x y a b g = let c = a g in let d = b g in let e = sum_by-append g x y in omega (arith, c, d, e)

handles_both : (x y : List OwnView) → handles_in x ++ handles_in y ≡ handles_in (x ++ y)
handles_both x y = sym (map-append (λ (o : OwnView). o.node) x y)

pub swapped_turn : (m n q : MarksView) (a b : List ℕ) (x y : List OwnView) → Swapped m n a (handles_in x) → Swapped n q b (handles_in y)
    → Swapped m q (a ++ b) (handles_in (x ++ y))
swapped_turn m n q a b x y one two =
    subst (Swapped m q (a ++ b)) (handles_both x y) (swapped_then m n q a b (handles_in x) (handles_in y) one two)

pub swapped_both : (m a b j : MarksView) (l k : Kept) (s t : List ℕ) (x y : List OwnView)
    → Swapped (left_of (outside m l k) (has_node k) m) a s (handles_in x)
    → Swapped (right_of (outside m l k) (has_node k) m) b t (handles_in y) → j ≡ joined a b → Swapped m j (s ++ t) (handles_in (x ++ y))
swapped_both m a b j l k s t x y one two is =
    subst (Swapped m j (s ++ t)) (handles_both x y) (swapped_sides m a b j l k s t (handles_in x) (handles_in y) one two is)

-- what a run made once nodes were dropped and one was cleared it made beside what was before
pub made_after : (m n : MarksView) (k : Kept) (s : ℕ) (made : List OwnView) → MoreNodes (cleared s (dropping (nodes_up k) m)) n made
    → MoreNodes (dropping (nodes_up k) m) n made
made_after m n k s made a =
    record {
      branch = a.branch;
      own = a.own;
      held = a.held;
      shared = a.shared;
      dropped = a.dropped;
      has = a.has;
      differ = a.differ;
      lacked = a.lacked;
      gained = a.gained;
    }

-- both sides of a par
abbrev Branched : (S N : ℕ → Bool) (v l : MarksView) → Type 0
Branched S N v l = l.claims.branch ≡ (left_of S N v).claims.branch

abbrev Shares : (S N : ℕ → Bool) (v l : MarksView) → Type 0
Shares S N v l = l.shared ≡ (left_of S N v).shared

module _ (S N : ℕ → Bool) (v l r j : MarksView) (root : Rooted v) (of : Branched S N v l) (same : Shares S N v l) (is : j ≡ joined l r) where
  stem_is : stem l.claims.branch ≡ v.claims.branch
  stem_is = ap stem of ∙ stem_push v.claims.branch false

  own_is : j.own ≡ (l.own ++ r.own) ++ map ways.back (filter (comes_back ways v.claims.branch) (told ways S N (rights_of v)))
  own_is =
      ap (λ (z : MarksView). z.own) is
      ∙ ap (λ c. (l.own ++ r.own) ++ map ways.back (filter (comes_back ways c) l.shared)) stem_is
      ∙ ap (λ k. (l.own ++ r.own) ++ map ways.back (filter (comes_back ways v.claims.branch) k)) same

  pub owned_both : (a b : List OwnView) → Owned (left_of S N v) l a → Owned (right_of S N v) r b → Owned v j (a ++ b)
  owned_both a b ml mr g =
      let c = joined_sum ways S N (rights_of v) root.labels (λ w. refl) g l.own r.own (sum_by g a) (sum_by g b) (ml g) (mr g) in
      let d = ap (sum_by g) own_is in
      let e = sum_by-append g a b in
      omega (arith, c, d, e)

  pub shared_both : j.shared ≡ v.shared
  shared_both =
      ap (λ (z : MarksView). z.shared) is ∙ ap (λ c. filter (above ways c) l.shared) stem_is ∙ ap (filter (above ways v.claims.branch)) same
      ∙ above_is ways S N (rights_of v) root.labels
