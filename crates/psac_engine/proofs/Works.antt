-- The numbers of a repair's work are below the greatest number of 64 bits, where the record and what was made are within the caps.
use Rattle.std.proofs.Common.{◌≡◌, ℕ, zero, suc, ◌<◌, ◌≤◌, ◌^◌, Bool, true, false, if◌then◌else◌, refl, arith}
use Rattle.std.proofs.lemmas.Bool.Decides.{nat_tests}
use Rattle.psac_ops.specs.declared.plain.Handle.{Handle}
use Rattle.psac_ops.specs.Named.{same_handle}
use Rattle.psac_model.specs.declared.ends.Caps.{Caps}
use Rattle.psac_model.specs.declared.ends.Size.{Size}
use Rattle.psac_model.specs.Tree.{size_of, add_size}
use Rattle.psac_model.specs.Fresh.{nodes_of}
use Rattle.psac_model.specs.Plain.{capped_count}
use Rattle.psac_traced.specs.Rec.{Rec, A, W, S, P, R, tree_of}
use Rattle.psac_traced.specs.Mending.{Mending, mended, beside, below, anew, visits, unlike, work_of}
use Rattle.psac_cut_repair.specs.Update.{IsInCaps}
use Rattle.psac_repair.specs.Tallied.{capped_work}
use Rattle.psac_engine.specs.Commit.{IsCaps}

-- no more was visited, run again or thrown away than there was
abbrev Few : Mending Handle → Size → Type 0
Few d z = (d.visited ≤ nodes_of z) × (d.rerun ≤ z.r) × (d.removed.r ≤ z.r)

visits_most : (n m : ℕ) → visits n m ≤ suc m
visits_most zero m = omega arith
visits_most (suc n) m = omega arith

few_both : (a b : Mending Handle) (x y : Size) → Few a x → Few b y → Few (beside a b) (add_size x y)
few_both a b x y f g = (omega (arith, f.0, g.0), omega (arith, f.1, g.1), omega (arith, f.2, g.2))

few_below : (d : Mending Handle) (x z : Size) → Few d x → suc (nodes_of x) ≤ nodes_of z → x.r ≤ z.r → Few (below d) z
few_below d x z f more r = (
  (let v = visits_most d.rerun d.visited in omega (arith, v, f.0, more)),
  omega (arith, f.1, r),
  omega (arith, f.2, r),
)

few_block : (b : Bool) (t u : Rec Handle) (z : Size) → suc (nodes_of (size_of (tree_of t))) ≤ nodes_of z
    → suc (size_of (tree_of t)).r ≤ z.r → Few (mended same_handle t u) (size_of (tree_of t))
    → Few (if b then anew t u else below (mended same_handle t u)) z
few_block true t u z more r f = (omega (arith, more), omega (arith, r), omega (arith, r))
few_block false t u z more r f = few_below (mended same_handle t u) (size_of (tree_of t)) z f more (omega (arith, r))

few : (old new : Rec Handle) → Few (mended same_handle old new) (size_of (tree_of old))
few (A m old) (A n new) = let f = few old new in (omega (arith, f.0), omega (arith, f.1), omega (arith, f.2))
few (W m v old) (W n x new) = few old new
few (S t old) (S u new) =
    few_below (beside (mended same_handle t u) (mended same_handle old new)) (add_size (size_of (tree_of t)) (size_of (tree_of old)))
    (size_of (tree_of (S t old)))
    (few_both (mended same_handle t u) (mended same_handle old new) (size_of (tree_of t)) (size_of (tree_of old)) (few t u) (few old new))
    (omega arith) (omega arith)
few (P t old) (P u new) =
    few_below (beside (mended same_handle t u) (mended same_handle old new)) (add_size (size_of (tree_of t)) (size_of (tree_of old)))
    (size_of (tree_of (P t old)))
    (few_both (mended same_handle t u) (mended same_handle old new) (size_of (tree_of t)) (size_of (tree_of old)) (few t u) (few old new))
    (omega arith) (omega arith)
few (R room b e reads t) (R level c f again u) =
    few_block (unlike same_handle reads again) t u (size_of (tree_of (R room b e reads t))) (omega arith) (omega arith) (few t u)
few _ _ = (omega arith, omega arith, omega arith)

small_count : (n : ℕ) → n < 2 ^ 32 → capped_count n ≡ n
small_count n small = grind (arith, nat_tests)

-- the numbers stand as they are
pub whole_work : (old new : Rec Handle) (caps : Caps) → IsCaps caps
    → IsInCaps (add_size (size_of (tree_of old)) (mended same_handle old new).added) caps
    → capped_work (work_of (mended same_handle old new)) ≡ work_of (mended same_handle old new)
whole_work old new caps fit within =
    let d = mended same_handle old new in
    let f = few old new in
    let a = within.nodes in
    let b = within.mods in
    let c = within.links in
    rw (
      small_count d.visited (omega (arith, f.0, a)),
      small_count d.rerun (omega (arith, f.1, a)),
      small_count d.added.r (omega (arith, a)),
      small_count d.removed.r (omega (arith, f.2, a)),
      small_count (nodes_of d.added) (omega (arith, a)),
      small_count d.added.mods (omega (arith, b)),
      small_count d.added.links (omega (arith, c)),
    )
    refl
