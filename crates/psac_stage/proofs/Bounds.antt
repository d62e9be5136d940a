-- Which slots a pass has where a record is kept: fixed ones, and those that are out.
use Rattle.std.proofs.Common.{◌≡◌, ◌⊎◌, ℕ, ◌+◌, ◌≤◌, ◌<◌, ◌==◌, true, false, cond, List, [], ◌∷◌, map, refl, ap, ◌∙◌, subst, inl, inr, arith}
use Rattle.std.specs.Prelude.{sum_by}
use Rattle.std.proofs.lemmas.Bool.{cases_lt}
use Rattle.std.proofs.lemmas.Bool.Decides.{nat_tests}
use Rattle.std.proofs.lemmas.List.Sums.{sum_by-cons}
use Rattle.psac_ops.specs.declared.plain.Handle.{Handle}
use Rattle.psac_ops.specs.Named.{same_handle}
use Rattle.psac_slots.specs.Handles.{Member, IsDistinct, slot_times, once_below}
use Rattle.psac_slots.specs.Claiming.{Accounted}
use Rattle.psac_slots.specs.declared.view.ClaimView.{ClaimView}
use Rattle.psac_slots.proofs.Pairs.{member_map}
use Rattle.psac_values.specs.declared.view.ValueView.{ValueView}
use Rattle.psac_values.specs.Steps.{made_handle}
use Rattle.psac_values.specs.Knowing.{Has}
use Rattle.psac_laws.proofs.Places.{nat_is, nat_same, test_or}
use Rattle.psac_laws.proofs.Rules.{or_is}
use Rattle.psac_plain.proofs.Linked.{handles_told}
use Rattle.psac_traced.specs.Places.{IsApart}
use Rattle.psac_record.specs.Kept.{Kept, made_of, bare}
use Rattle.psac_trace.specs.Fit.{is_spare}
use Rattle.psac_trace.proofs.Leading.{member_sum, sum_member, zero_or}
use Rattle.psac_reclaim.specs.Gave.{out_of}
use Rattle.psac_stage.specs.Recorded.{HasMade}
use Rattle.psac_stage.proofs.Apart.{apart_distinct}
use Rattle.psac_stage.proofs.Counts.{once_low, sum_map}
use Rattle.psac_stage.proofs.Members.{counted_in, in_counted}

once_most : (k n : ℕ) → once_below k n ≤ 1
once_most k n = grind (arith, nat_tests)

-- a slot that is out is one of the table's
pub held_low : (c : ClaimView) → Accounted c → (h : Handle) → Member h c.held → h.slot < c.count
held_low c a h i =
    let n = in_counted (λ (x : Handle). x.slot == h.slot) c.held h i (nat_same h.slot) in
    let s = a.slots h.slot in
    once_low h.slot c.count (omega (arith, n, s))

-- and stands there once
pub held_once : (c : ClaimView) → Accounted c → (s : ℕ) → slot_times s c.held ≤ 1
held_once c a s = let e = a.slots s in let o = once_most s c.count in omega (arith, e, o)

-- and isn't free
held_free : (c : ClaimView) → Accounted c → (h x : Handle) → Member h c.held → Member x c.list → x.slot ≡ h.slot → ⊥
held_free c a h x i j e =
    let n = in_counted (λ (y : Handle). y.slot == h.slot) c.held h i (nat_same h.slot) in
    let m = in_counted (λ (y : Handle). y.slot == h.slot) c.list x j (subst (λ z. (x.slot == z) ≡ true) e (nat_same x.slot)) in
    let s = a.slots h.slot in
    let o = once_most h.slot c.count in
    omega (arith, n, m, s, o)

shifted : (n a b : ℕ) → ((n + a) == (n + b)) ≡ (a == b)
shifted n a b = grind (arith, nat_tests)

sum_shift : (n s : ℕ) (hs : List Handle) → sum_by (λ (h : Handle). cond ((n + h.slot) == (n + s)) 1 0) hs ≡ slot_times s hs
sum_shift n s [] = refl
sum_shift n s (h ∷ hs) =
    let a = sum_by-cons (λ (x : Handle). cond ((n + x.slot) == (n + s)) 1 0) h hs in
    let b = sum_by-cons (λ (x : Handle). cond (x.slot == s) 1 0) h hs in
    let c = sum_shift n s hs in
    let e : ◌≡◌ {A = ℕ} (cond ((n + h.slot) == (n + s)) 1 0) (cond (h.slot == s) 1 0) = ap (λ t. cond t 1 0) (shifted n h.slot s) in
    omega (arith, a, b, c, e)

spare_at : (n : ℕ) (hs : List Handle) (s : ℕ) → is_spare n hs s ≡ true → (h : Handle) × Member h hs × (n + h.slot ≡ s)
spare_at n [] s h = absurd cc
spare_at n (x ∷ hs) s h =
    elim (or_is ((n + x.slot) == s) (is_spare n hs s) h) [
      | inl t ↦ (x, inl refl, nat_is (n + x.slot) s t)
      | inr t ↦ (let r = spare_at n hs s t in (r.0, inr r.1, r.2))
    ]

-- a record whose modifiables are what is out
module _ (k : Kept) (v : ValueView) (out : (f : Handle → ℕ) → sum_by f (out_of v) ≡ sum_by f (made_of k)) (whole : Accounted v.claims) where
  pub out_made : (m : Handle) → Member m (made_of k) → (c : Handle) × Member c v.claims.held × (made_handle v.fixed c ≡ m)
  out_made m i =
      let f : Handle → ℕ = λ x. cond (same_handle x m) 1 0 in
      let one : f m ≡ 1 = ap (λ t. cond t 1 0) (handles_told.itself m) in
      let here = member_sum f m (made_of k) i (omega (arith, one)) in
      let sum = out f in
      let q = sum_member f (map (made_handle v.fixed) v.claims.held) (omega (arith, here, sum)) in
      let c = member_map (made_handle v.fixed) q.0 v.claims.held q.1 in
      (c.0, c.1, c.2 ∙ is q.0 q.2)
    where
      is : (x : Handle) → 0 < cond (same_handle x m) 1 0 → x ≡ m
      is x h = elim (test_or (same_handle x m))
          [ inl t ↦ handles_told.alone x m t | inr t ↦ absurd (let z : 0 < 0 = rw t at h in omega (arith, z)) ]

  out_at : (m : Handle) → Member m (made_of k) → (c : Handle) × Member c v.claims.held × (v.fixed + c.slot ≡ m.slot)
  out_at m i = let c = out_made m i in (c.0, c.1, ap (λ (z : Handle). z.slot) c.2)

  -- what was made lies behind the fixed slots
  pub out_high : (m : Handle) → Member m (made_of k) → v.fixed ≤ m.slot
  out_high m i = let c = out_at m i in let e = c.2 in omega (arith, e)

  pub out_distinct : IsDistinct (made_of k)
  out_distinct s =
      let f : Handle → ℕ = λ x. cond (x.slot == s) 1 0 in
      let sum = out f in
      let as_held = sum_map (made_handle v.fixed) f v.claims.held in
      let few = held_few in
      omega (arith, sum, as_held, few)
    where
      held_few : sum_by (λ (x : Handle). cond ((v.fixed + x.slot) == s) 1 0) v.claims.held ≤ 1
      held_few =
          elim (zero_or (sum_by (λ (x : Handle). cond ((v.fixed + x.slot) == s) 1 0) v.claims.held)) [
            | inl z ↦ omega (arith, z)
            | inr more ↦
                (let q = counted_in (λ (x : Handle). (v.fixed + x.slot) == s) v.claims.held more in
                let e : v.fixed + q.0.slot ≡ s = nat_is (v.fixed + q.0.slot) s q.2 in
                let few = held_once v.claims whole q.0.slot in
                let sum = sum_shift v.fixed q.0.slot v.claims.held in
                subst (λ z. sum_by (λ (x : Handle). cond ((v.fixed + x.slot) == z) 1 0) v.claims.held ≤ 1) e (omega (arith, few, sum)))
          ]

  pub out_apart : IsApart (bare k)
  out_apart = apart_distinct (bare k) out_distinct

module _ (k : Kept) (v : ValueView) (made : HasMade k v) (whole : Accounted v.claims) where
  -- the slot is fixed, or out
  abbrev pub At : ℕ → Type 0
  At s = (s < v.fixed) ⊎ ((c : Handle) × Member c v.claims.held × (v.fixed + c.slot ≡ s))

  pub made_out : (m : Handle) → Member m (made_of k) → (c : Handle) × Member c v.claims.held × (made_handle v.fixed c ≡ m)
  made_out = out_made k v made.out whole

  made_at : (m : Handle) → Member m (made_of k) → (c : Handle) × Member c v.claims.held × (v.fixed + c.slot ≡ m.slot)
  made_at = out_at k v made.out whole

  -- what was made lies behind the fixed slots
  pub made_high : (m : Handle) → Member m (made_of k) → v.fixed ≤ m.slot
  made_high = out_high k v made.out whole

  pub made_is_at : (m : Handle) → Member m (made_of k) → At m.slot
  made_is_at m i = inr (made_at m i)

  pub has_at : (m : Handle) → Has v m → At m.slot
  has_at m h =
      elim (cases_lt m.slot v.fixed) [
        | inl low ↦ inl low
        | inr high ↦
            (let e = ap (λ (z : Handle). z.slot) h.2 in
            let t = made.mine h.0 h.1 (omega (arith, e, high)) in
            let q = counted_in (λ (x : Handle). x.slot == h.0.of.slot) (made_of k) t in
            let c = made_at q.0 q.1 in
            inr (c.0, c.1, c.2 ∙ nat_is q.0.slot h.0.of.slot q.2 ∙ e))
      ]

  pub at_low : (s : ℕ) → At s → s < v.fixed + v.claims.count
  at_low s (inl low) = omega (arith, low)
  at_low s (inr (c, i, e)) = let l = held_low v.claims whole c i in omega (arith, l, e)

  pub at_unspared : (s : ℕ) → At s → is_spare v.fixed v.claims.list s ≡ false
  at_unspared s a =
      elim (test_or (is_spare v.fixed v.claims.list s)) [
        | inr t ↦ t
        | inl t ↦ absurd (let h = spare_at v.fixed v.claims.list s t in clash h.0 h.1 h.2 a)
      ]
    where
      clash : (h : Handle) → Member h v.claims.list → v.fixed + h.slot ≡ s → At s → ⊥
      clash h i e (inl low) = omega (arith, e, low)
      clash h i e (inr (c, j, f)) = held_free v.claims whole c h j i (omega (arith, e, f))

  pub distinct : IsDistinct (made_of k)
  distinct = out_distinct k v made.out whole

  pub apart : IsApart (bare k)
  apart = out_apart k v made.out whole
