-- What a pass may write once dropped parts went back is of fixed slots and of the new record.
use Rattle.std.proofs.Common.{◌≡◌, ℕ, zero, suc, ◌+◌, ◌<◌, ◌≤◌, ◌==◌, Bool, true, false, cond, List, [], ◌∷◌, refl, sym, ap, ◌∙◌, subst, arith}
use Rattle.std.specs.Prelude.{filter, sum_by}
use Rattle.std.proofs.lemmas.List.Sums.{sum_by-cons}
use Rattle.std.proofs.lemmas.Bool.{eq-eqb, eqb-true}
use Rattle.psac_ops.specs.declared.plain.Handle.{Handle}
use Rattle.psac_slots.specs.Handles.{Member, slot_times}
use Rattle.psac_slots.proofs.Removed.{found}
use Rattle.psac_values.specs.declared.view.OwnedView.{OwnedView}
use Rattle.psac_values.specs.declared.view.ValueView.{ValueView}
use Rattle.psac_fork.specs.declared.tables.Pass.{Pass}
use Rattle.psac_record.specs.Kept.{Kept, made_of, all_of}
use Rattle.psac_trace.specs.Grown.{Differ}
use Rattle.psac_repair.specs.Taking.{taken, given}
use Rattle.psac_repair.specs.Going.{Views, views}
use Rattle.psac_reclaim.specs.Parts.{in_all}
use Rattle.psac_stage.specs.Holding.{entries}
use Rattle.psac_stage.specs.Resting.{IsRested}
use Rattle.psac_stage.specs.Settling.{Settles}
use Rattle.psac_stage.specs.Reclaiming.{Repairs, Owes, GaveBack, HasSlots, SlotsRecorded}
use Rattle.psac_reclaim.specs.Gave.{is_other}
use Rattle.psac_reclaim.proofs.Lists.{member_le, member_of}
use Rattle.psac_stage.proofs.Reclaiming.{all_same}
use Rattle.psac_stage.proofs.Left.{had}

filter_fewer : (f : OwnedView → Bool) (g : OwnedView → ℕ) (xs : List OwnedView) → sum_by g (filter f xs) ≤ sum_by g xs
filter_fewer f g [] = omega arith
filter_fewer f g (x ∷ xs) = by (filter_fewer f g xs) (f x)
  where
    by : sum_by g (filter f xs) ≤ sum_by g xs → (b : Bool) → sum_by g (cond b (x ∷ filter f xs) (filter f xs)) ≤ sum_by g (x ∷ xs)
    by r true = let c = sum_by-cons g x xs in let d = sum_by-cons g x (filter f xs) in omega (arith, c, d, r)
    by r false = let c = sum_by-cons g x xs in omega (arith, c, r)

-- where no slot stands twice
differ_once : (s : ℕ) (ms : List Handle) → Differ ms → slot_times s ms ≤ 1
differ_once s [] d = omega arith
differ_once s (m ∷ ms) d =
    let c = sum_by-cons (λ (h : Handle). cond (h.slot == s) 1 0) m ms in
    let r = differ_once s ms d.1 in
    by (m.slot == s) refl c r
  where
    by : (b : Bool) → (m.slot == s) ≡ b → slot_times s (m ∷ ms) ≡ cond (m.slot == s) 1 0 + slot_times s ms → slot_times s ms ≤ 1 → slot_times s (m ∷ ms) ≤ 1
    by false e c r = let t : ◌≡◌ {A = ℕ} (cond (m.slot == s) 1 0) 0 = ap {B = ℕ} (λ b. cond b 1 0) e in omega (arith, c, t, r)
    by true e c r =
        let t : ◌≡◌ {A = ℕ} (cond (m.slot == s) 1 0) 1 = ap {B = ℕ} (λ b. cond b 1 0) e in
        let z : slot_times s ms ≡ 0 = none (λ p. let q = found s ms p in d.0 q.0 q.1 (q.2 ∙ sym (eqb-true m.slot s e))) in
        omega (arith, c, t, z)
      where
        none : (0 < slot_times s ms → ⊥) → slot_times s ms ≡ 0
        none f = omega (arith, f)

entry_at : (s : ℕ) (mine : List OwnedView) → 0 < entries s mine → (o : OwnedView) × Member o mine × (o.of.slot ≡ s)
entry_at s mine p =
    let q = member_of (λ (o : OwnedView). cond (o.of.slot == s) 1 0) mine p in
    (q.0, q.1, is (q.0.of.slot == s) refl q.2)
  where
    is : {n : ℕ} (b : Bool) → (n == s) ≡ b → 0 < cond b 1 0 → n ≡ s
    is {n} true e p = eqb-true n s e
    is {n} false e p = absurd (omega (arith, p))

module _ (k new : Kept) (p : Views) (q z w : Pass) (r : Repairs k new p (views q)) (s : Settles q z) (rest : IsRested z) (o : Owes new (taken k new) z)
    (b : GaveBack new (taken k new) z w) (same : q.values.knows.fixed ≡ p.values.fixed) (h : HasSlots k p.values)
  where
    abbrev made : List Handle
    made = all_of made_of (given k new)

    entries_sum : (x : ℕ) → entries x z.values.knows.mine ≡ entries x p.values.mine + slot_times x made
    entries_sum x = ap (λ (v : ValueView). entries x v.mine) s.values ∙ r.values.mine (λ m. cond (m.slot == x) 1 0)

    lacks : (x : ℕ) → 0 < slot_times x made → 0 < entries x p.values.mine → ⊥
    lacks x i j = let m = found x made i in let y = entry_at x p.values.mine j in (r.values.lacked m.0 m.1).mine y.0 y.1 (y.2 ∙ sym m.2)

    once : (x : ℕ) → entries x w.values.knows.mine ≤ 1
    once x = by (slot_times x made) refl
      where
        fewer : entries x w.values.knows.mine ≤ entries x z.values.knows.mine
        fewer =
            let f = ap (entries x) b.values.mine in
            let a = filter_fewer (is_other (in_all made_of (taken k new))) (λ (y : OwnedView). cond (y.of.slot == x) 1 0) z.values.knows.mine in
            omega (arith, f, a)

        none : (0 < entries x p.values.mine → ⊥) → entries x p.values.mine ≡ 0
        none f = omega (arith, f)

        by : (n : ℕ) → slot_times x made ≡ n → entries x w.values.knows.mine ≤ 1
        by zero i = let e = entries_sum x in let l = h.once x in let f = fewer in omega (arith, f, e, l, i)
        by (suc n) i =
            let e = entries_sum x in
            let d = differ_once x made r.values.differ in
            let g = none (lacks x (omega (arith, i))) in
            let f = fewer in
            omega (arith, f, e, d, g)

    -- what was there is the old record's, or was made
    there : (x : ℕ) → p.values.fixed ≤ x → 0 < entries x z.values.knows.mine → 0 < slot_times x (made_of k) + slot_times x made
    there x low i = by (entries x p.values.mine) refl
      where
        by : (n : ℕ) → entries x p.values.mine ≡ n → 0 < slot_times x (made_of k) + slot_times x made
        by zero e = let t = entries_sum x in omega (arith, t, e, i)
        by (suc n) e =
            let y = entry_at x p.values.mine (omega (arith, e)) in
            let g = subst (λ v. 0 < slot_times v (made_of k)) y.2 (h.mine y.0 y.1 (subst (λ v. p.values.fixed ≤ v) (sym y.2) low)) in
            omega (arith, g)

    mine : (y : OwnedView) → Member y w.values.knows.mine → w.values.knows.fixed ≤ y.of.slot → 0 < slot_times y.of.slot (made_of new)
    mine y i low =
        let x = y.of.slot in
        let q = had new (taken k new) z w rest o b y i in
        let a = member_le (λ (v : OwnedView). cond (v.of.slot == x) 1 0) y z.values.knows.mine q.0 in
        let t : ◌≡◌ {A = ℕ} (cond (y.of.slot == x) 1 0) 1 = ap {B = ℕ} (λ c. cond c 1 0) (eq-eqb x x refl) in
        let f = b.values.fixed in
        let g = ap (λ (v : ValueView). v.fixed) s.values in
        let j = there x (omega (arith, f, g, same, low)) (omega (arith, a, t)) in
        let e = r.exchanged.mods (λ (m : Handle). cond (m.slot == x) 1 0) in
        let n = none (λ c. let m = found x (in_all made_of (taken k new)) c in q.1 m.0 m.1 m.2) in
        let v = ap (slot_times x) (all_same made_of (taken k new)) in
        omega (arith, j, e, n, v)
      where
        none : (0 < slot_times y.of.slot (in_all made_of (taken k new)) → ⊥) → slot_times y.of.slot (in_all made_of (taken k new)) ≡ 0
        none f = omega (arith, f)

pub slots_recorded : SlotsRecorded
slots_recorded k new p q z w r s rest o b same h =
    record { once = once k new p q z w r s rest o b same h; mine = mine k new p q z w r s rest o b same h }
