-- The numbers of a repair are those of the definition.
use Rattle.std.proofs.Common.{◌≡◌, ℕ, ◌+◌, Bool, true, false, if◌then◌else◌, List, [], ◌∷◌, ◌++◌, length, refl, ap, ◌∙◌, zero-add, one-add}
use Rattle.std.proofs.lemmas.List.{length-map}
use Rattle.psac_model.specs.declared.ends.Size.{Size}
use Rattle.psac_model.specs.Names.{Path, Name}
use Rattle.psac_model.specs.Tree.{Tree, add_size, one_s, one_p, one_r, one_mod}
use Rattle.psac_model.specs.Fresh.{nodes_of}
use Rattle.psac_model.specs.Redo.{redo, is_inside}
use Rattle.psac_model.specs.Work.{part, counted, repair_of}
use Rattle.psac_traced.specs.Rec.{Rec, A, W, S, P, R, tree_of}
use Rattle.psac_traced.specs.Renamed.{rec_named, reads_named}
use Rattle.psac_traced.specs.Mending.{unlike, mended, anew, below, visits, work_of}
use Rattle.psac_traced.specs.Redone.{redone, under, Tells}
use Rattle.psac_traced.proofs.Redone.{redo_is, rerun_is, from_root}
use Rattle.psac_traced.proofs.Sizes.{size_named, skipped, nodes_add, here, turned, counted_whole}
use Rattle.psac_traced.proofs.Turns.{inside_root, inside_under, inside_left, inside_right, inside_here, leads, leads_under, leads_left, leads_right}

no_node : (b : Bool) (n : ℕ) → nodes_of (part b one_mod) + n ≡ n
no_node true n = zero-add n
no_node false n = zero-add n

-- a node that is counted where it leads to a block
some_lead : (z : Size) → nodes_of z ≡ 1 → (zs : List Path) (v : ℕ) → nodes_of (part (leads [] zs) z) + v ≡ visits (length zs) v
some_lead z one [] v = zero-add v
some_lead z one (x ∷ zs) v = ap (λ n. n + v) one ∙ one-add v

module _ {M : Type 0} (same : M → M → Bool) (f g : M → Name) where
  abbrev old_of : Rec M → Tree Name
  old_of r = tree_of (rec_named f r)

  abbrev new_of : Rec M → Tree Name
  new_of s = tree_of (rec_named g s)

  -- what a test counts of the old and of the new record is what was thrown away and what was made
  abbrev IsCounted : Path → (Path → Bool) → Rec M → Rec M → Type 0
  IsCounted p test r s = (counted test p (old_of r) ≡ (mended same r s).removed) × (counted test p (new_of s) ≡ (mended same r s).added)

  -- of two parts under a node that isn't inside a block
  inside_both : (z : Size) (p : Path) (test : Path → Bool) (t u r s : Rec M) → test p ≡ false → IsCounted (p ++ 0 ∷ []) test t u → IsCounted (p ++ 1 ∷ []) test r s → (add_size (part (test p) z) (add_size (counted test (p ++ 0 ∷ []) (old_of t)) (counted test (p ++ 1 ∷ []) (old_of r))) ≡ add_size (mended same t u).removed (mended same r s).removed) × (add_size (part (test p) z) (add_size (counted test (p ++ 0 ∷ []) (new_of u)) (counted test (p ++ 1 ∷ []) (new_of s))) ≡ add_size (mended same t u).added (mended same r s).added)
  inside_both z p test t u r s off i j = (
    skipped (test p) z _ off ∙ ap (λ x. add_size x (counted test (p ++ 1 ∷ []) (old_of r))) i.0 ∙ ap (add_size (mended same t u).removed) j.0,
    skipped (test p) z _ off ∙ ap (λ x. add_size x (counted test (p ++ 1 ∷ []) (new_of s))) i.1 ∙ ap (add_size (mended same t u).added) j.1,
  )

  -- what stands inside the blocks
  inside_is : (r s : Rec M) (p : Path) (test : Path → Bool) → ((q : Path) → test (p ++ q) ≡ is_inside (redone same r s) q) → IsCounted p test r s
  inside_is (A m r) (A n s) p test h =
      let zs = under 3 (redone same r s) in
      let off : test p ≡ false = here test p (is_inside zs) h ∙ inside_root zs in
      let i = inside_is r s (p ++ 3 ∷ []) test (λ q. turned test p (is_inside zs) h 3 q ∙ inside_under 3 (redone same r s) q) in
      (skipped (test p) one_mod _ off ∙ i.0, skipped (test p) one_mod _ off ∙ i.1)
  inside_is (W m v r) (W n u s) p test h =
      inside_is r s (p ++ 3 ∷ []) test (λ q. turned test p (is_inside (under 3 (redone same r s))) h 3 q ∙ inside_under 3 (redone same r s) q)
  inside_is (S t r) (S u s) p test h =
      let a = redone same t u in
      let b = redone same r s in
      let zs = under 0 a ++ under 1 b in
      inside_both one_s p test t u r s (here test p (is_inside zs) h ∙ inside_root zs)
      (inside_is t u (p ++ 0 ∷ []) test (λ q. turned test p (is_inside zs) h 0 q ∙ inside_left a b q))
      (inside_is r s (p ++ 1 ∷ []) test (λ q. turned test p (is_inside zs) h 1 q ∙ inside_right a b q))
  inside_is (P t r) (P u s) p test h =
      let a = redone same t u in
      let b = redone same r s in
      let zs = under 0 a ++ under 1 b in
      inside_both one_p p test t u r s (here test p (is_inside zs) h ∙ inside_root zs)
      (inside_is t u (p ++ 0 ∷ []) test (λ q. turned test p (is_inside zs) h 0 q ∙ inside_left a b q))
      (inside_is r s (p ++ 1 ∷ []) test (λ q. turned test p (is_inside zs) h 1 q ∙ inside_right a b q))
  inside_is (R room b e reads t) (R level c k again u) p test h =
      let zs : Bool → List Path = λ d. if d then [] ∷ [] else under 2 (redone same t u) in
      elim (unlike same reads again) as (λ d. ((q : Path) → test (p ++ q) ≡ is_inside (zs d) q) → (add_size (part (test p) (one_r (length (reads_named f reads)))) (counted test (p ++ 2 ∷ []) (old_of t)) ≡ (if d then anew t u else below (mended same t u)).removed) × (add_size (part (test p) (one_r (length (reads_named g again)))) (counted test (p ++ 2 ∷ []) (new_of u)) ≡ (if d then anew t u else below (mended same t u)).added)) [
        | true ↦ λ k.
            (let off : test p ≡ false = here test p (is_inside (zs true)) k ∙ inside_root (zs true) in
            let on : (q : Path) → test ((p ++ 2 ∷ []) ++ q) ≡ true = λ q. turned test p (is_inside (zs true)) k 2 q ∙ inside_here 2 q in (
              skipped (test p) _ _ off ∙ counted_whole true test (p ++ 2 ∷ []) (old_of t) on ∙ size_named f t,
              skipped (test p) _ _ off ∙ counted_whole true test (p ++ 2 ∷ []) (new_of u) on ∙ size_named g u,
            ))
        | false ↦ λ k.
            (let off : test p ≡ false = here test p (is_inside (zs false)) k ∙ inside_root (zs false) in
            let i = inside_is t u (p ++ 2 ∷ []) test (λ q. turned test p (is_inside (zs false)) k 2 q ∙ inside_under 2 (redone same t u) q) in
            (skipped (test p) _ _ off ∙ i.0, skipped (test p) _ _ off ∙ i.1))
      ] h
  inside_is r s p test h = (counted_whole false test p (old_of r) h, counted_whole false test p (new_of s) h)

  -- a node above two parts is on the way where one of them is
  way_both : (z : Size) → nodes_of z ≡ 1 → (b : Bool) (x y : Size) (t u r s : Rec M) → b ≡ leads [] (under 0 (redone same t u) ++ under 1 (redone same r s)) → nodes_of x ≡ (mended same t u).visited → nodes_of y ≡ (mended same r s).visited → nodes_of (add_size (part b z) (add_size x y)) ≡ visits ((mended same t u).rerun + (mended same r s).rerun) ((mended same t u).visited + (mended same r s).visited)
  way_both z one b x y t u r s on i j =
      nodes_add (part b z) (add_size x y)
      ∙ ap (λ n. nodes_of (part b z) + n) (nodes_add x y ∙ ap (λ n. n + nodes_of y) i ∙ ap (λ n. (mended same t u).visited + n) j)
      ∙ ap (λ c. nodes_of (part c z) + ((mended same t u).visited + (mended same r s).visited)) on
      ∙ some_lead z one (under 0 (redone same t u) ++ under 1 (redone same r s)) ((mended same t u).visited + (mended same r s).visited)
      ∙ ap (λ n. visits n ((mended same t u).visited + (mended same r s).visited)) (rerun_is same (S t r) (S u s))

  -- what stands on the way to the blocks
  way_is : (r s : Rec M) (p : Path) (test : Path → Bool) → ((q : Path) → test (p ++ q) ≡ leads q (redone same r s)) → nodes_of (counted test p (old_of r)) ≡ (mended same r s).visited
  way_is (A m r) (A n s) p test h =
      nodes_add (part (test p) one_mod) (counted test (p ++ 3 ∷ []) (old_of r))
      ∙ no_node (test p) (nodes_of (counted test (p ++ 3 ∷ []) (old_of r)))
      ∙ way_is r s (p ++ 3 ∷ []) test (λ q. turned test p (λ z. leads z (under 3 (redone same r s))) h 3 q ∙ leads_under 3 (redone same r s) q)
  way_is (W m v r) (W n u s) p test h =
      way_is r s (p ++ 3 ∷ []) test (λ q. turned test p (λ z. leads z (under 3 (redone same r s))) h 3 q ∙ leads_under 3 (redone same r s) q)
  way_is (S t r) (S u s) p test h =
      let a = redone same t u in
      let b = redone same r s in
      let g : Path → Bool = λ z. leads z (under 0 a ++ under 1 b) in
      way_both one_s refl (test p) (counted test (p ++ 0 ∷ []) (old_of t)) (counted test (p ++ 1 ∷ []) (old_of r)) t u r s (here test p g h)
      (way_is t u (p ++ 0 ∷ []) test (λ q. turned test p g h 0 q ∙ leads_left a b q))
      (way_is r s (p ++ 1 ∷ []) test (λ q. turned test p g h 1 q ∙ leads_right a b q))
  way_is (P t r) (P u s) p test h =
      let a = redone same t u in
      let b = redone same r s in
      let g : Path → Bool = λ z. leads z (under 0 a ++ under 1 b) in
      way_both one_p refl (test p) (counted test (p ++ 0 ∷ []) (old_of t)) (counted test (p ++ 1 ∷ []) (old_of r)) t u r s (here test p g h)
      (way_is t u (p ++ 0 ∷ []) test (λ q. turned test p g h 0 q ∙ leads_left a b q))
      (way_is r s (p ++ 1 ∷ []) test (λ q. turned test p g h 1 q ∙ leads_right a b q))
  way_is (R room b e reads t) (R level c k again u) p test h =
      let zs : Bool → List Path = λ d. if d then [] ∷ [] else under 2 (redone same t u) in
      let links = length (reads_named f reads) in
      let inner = counted test (p ++ 2 ∷ []) (old_of t) in
      elim (unlike same reads again) as (λ d. ((q : Path) → test (p ++ q) ≡ leads q (zs d)) → nodes_of (add_size (part (test p) (one_r links)) inner) ≡ (if d then anew t u else below (mended same t u)).visited) [
        | true ↦ λ k.
            (let g : Path → Bool = λ z. leads z (zs true) in
            let off : (q : Path) → test ((p ++ 2 ∷ []) ++ q) ≡ false = λ q. turned test p g k 2 q in
            nodes_add (part (test p) (one_r links)) inner
            ∙ ap (λ c. nodes_of (part c (one_r links)) + nodes_of inner) (here test p g k)
            ∙ ap (λ z. 1 + nodes_of z) (counted_whole false test (p ++ 2 ∷ []) (old_of t) off))
        | false ↦ λ k.
            (let g : Path → Bool = λ z. leads z (zs false) in
            nodes_add (part (test p) (one_r links)) inner
            ∙ ap (λ n. nodes_of (part (test p) (one_r links)) + n) (way_is t u (p ++ 2 ∷ []) test (λ q. turned test p g k 2 q ∙ leads_under 2 (redone same t u) q))
            ∙ ap (λ c. nodes_of (part c (one_r links)) + (mended same t u).visited) (here test p g k)
            ∙ some_lead (one_r links) refl (under 2 (redone same t u)) (mended same t u).visited
            ∙ ap (λ n. visits n (mended same t u).visited) (length-map (redone same t u) (λ (z : Path). 2 ∷ z) ∙ rerun_is same t u))
      ] h
  way_is r s p test h = ap nodes_of (counted_whole false test p (old_of r) h)

  -- the work of a repair, where the names tell what the test for the same modifiable tells
  pub repaired_work : (r s : Rec M) → Tells same f g [] [] r s → work_of (mended same r s) ≡ repair_of (redo (old_of r) (new_of s)) (old_of r) (new_of s)
  unfolding redo
  repaired_work r s h =
      let zs = redone same r s in
      let i = inside_is r s [] (is_inside zs) (λ q. refl) in
      let v = way_is r s [] (λ q. leads q zs) (λ q. refl) in
      rw (redo_is same f g [] [] r s h, from_root zs, i.0, i.1, v, rerun_is same r s) refl
