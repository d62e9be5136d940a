-- Counts that stay at the greatest number, added up.
use Rattle.std.proofs.Common.{◌≡◌, ◌≢◌, ℕ, zero, suc, ◌+◌, refl, ap, ◌∙◌, arith}
use Rattle.std.proofs.lemmas.Grind.{common_steps}
use Rattle.psac_ops.specs.declared.plain.Handle.{Handle}
use Rattle.psac_model.specs.declared.ends.Size.{Size}
use Rattle.psac_model.specs.Tree.{add_size}
use Rattle.psac_model.specs.Plain.{capped, capped_count}
use Rattle.psac_traced.specs.Mending.{Mending, visits, beside, below}
use Rattle.psac_repair.specs.declared.tally.Tally.{Tally}
use Rattle.psac_repair.specs.Tallied.{tally_of}

pub count_both : (a b : ℕ) → capped_count (capped_count a + capped_count b) ≡ capped_count (a + b)
count_both a b = grind (arith, common_steps)

pub count_three : (a b c : ℕ) → capped_count (capped_count (capped_count a + capped_count b) + capped_count c) ≡ capped_count ((a + b) + c)
count_three a b c = grind (arith, common_steps)

pub count_one : (a : ℕ) → capped_count (capped_count a + 1) ≡ capped_count (suc a)
count_one a = grind (arith, common_steps)

pub capped_both : (a b : Size) → capped (add_size (capped a) (capped b)) ≡ capped (add_size a b)
capped_both a b =
    rw (count_both a.s b.s, count_both a.p b.p, count_both a.r b.r, count_both a.mods b.mods, count_both a.links b.links) refl

zero_is : (n : ℕ) → capped_count n ≡ 0 → n ≡ 0
zero_is n e = grind (arith, common_steps, e)

pub visits_none : (rerun n : ℕ) → capped_count rerun ≡ 0 → capped_count n ≡ capped_count (visits rerun n)
visits_none zero n e = refl
visits_none (suc k) n e = absurd (let z = zero_is (suc k) e in omega (arith, z))

pub visits_one : (rerun n : ℕ) → capped_count rerun ≢ 0 → capped_count (capped_count n + 1) ≡ capped_count (visits rerun n)
visits_one zero n h = absurd (h refl)
visits_one (suc k) n h = count_one n

same_tally : (v w r s : ℕ) (a b x y : Size) → v ≡ w → r ≡ s → a ≡ b → x ≡ y → (let t : Tally = record { visited = v; rerun = r; removed = a; added = x } in t ≡ record { visited = w; rerun = s; removed = b; added = y })
same_tally v w r s a b x y e f g h = rw (e, f, g, h) refl

pub tally_below : (s : Tally) (d : Mending Handle) (n : ℕ) → s ≡ tally_of d → s.rerun ≢ 0 → n ≡ capped_count (s.visited + 1) → (let t : Tally = record { visited = n; rerun = s.rerun; removed = s.removed; added = s.added } in t ≡ tally_of (below d))
tally_below s d n e ne is =
    same_tally n (capped_count (visits d.rerun d.visited)) s.rerun (capped_count d.rerun) s.removed (capped d.removed) s.added (capped d.added)
    (is ∙ ap (λ (z : Tally). capped_count (z.visited + 1)) e ∙ visits_one d.rerun d.visited (λ z. ne (ap (λ (t : Tally). t.rerun) e ∙ z)))
    (ap (λ (z : Tally). z.rerun) e)
    (ap (λ (z : Tally). z.removed) e)
    (ap (λ (z : Tally). z.added) e)

pub tally_beside : (s o : Tally) (a b : Mending Handle) (v r : ℕ) (x y : Size) → s ≡ tally_of a → o ≡ tally_of b → v ≡ capped_count (s.visited + o.visited) → r ≡ capped_count (s.rerun + o.rerun) → x ≡ capped (add_size s.removed o.removed) → y ≡ capped (add_size s.added o.added) → (let t : Tally = record { visited = v; rerun = r; removed = x; added = y } in t ≡ tally_of (beside a b))
tally_beside s o a b v r x y e f i j k l =
    same_tally v (capped_count (a.visited + b.visited)) r (capped_count (a.rerun + b.rerun)) x (capped (add_size a.removed b.removed)) y (capped (add_size a.added b.added))
    (i ∙ ap (λ (z : Tally). capped_count (z.visited + o.visited)) e ∙ ap (λ (z : Tally). capped_count (capped_count a.visited + z.visited)) f ∙ count_both a.visited b.visited)
    (j ∙ ap (λ (z : Tally). capped_count (z.rerun + o.rerun)) e ∙ ap (λ (z : Tally). capped_count (capped_count a.rerun + z.rerun)) f ∙ count_both a.rerun b.rerun)
    (k ∙ ap (λ (z : Tally). capped (add_size z.removed o.removed)) e ∙ ap (λ (z : Tally). capped (add_size (capped a.removed) z.removed)) f ∙ capped_both a.removed b.removed)
    (l ∙ ap (λ (z : Tally). capped (add_size z.added o.added)) e ∙ ap (λ (z : Tally). capped (add_size (capped a.added) z.added)) f ∙ capped_both a.added b.added)
