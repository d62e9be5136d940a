-- A record whose modifiables stand in different slots makes none twice.
use Rattle.std.proofs.Common.{◌≡◌, ℕ, ◌+◌, ◌<◌, ◌==◌, cond, List, [], ◌∷◌, ◌++◌, refl, inl, inr, arith}
use Rattle.std.proofs.lemmas.List.Sums.{sum_by-append}
use Rattle.psac_ops.specs.declared.plain.Handle.{Handle}
use Rattle.psac_slots.specs.Handles.{Member, IsDistinct, slot_times}
use Rattle.psac_slots.proofs.Pairs.{member_left, member_right}
use Rattle.psac_laws.proofs.Places.{nat_same}
use Rattle.psac_traced.specs.Rec.{Rec, E, A, W, S, P, R}
use Rattle.psac_traced.specs.Places.{Makes, IsApart}
use Rattle.psac_traced.specs.Mending.{made_by}
use Rattle.psac_stage.proofs.Members.{in_counted}

pub makes_member : (r : Rec Handle) (m : Handle) → Makes r m → Member m (made_by r)
makes_member E m h = absurd h
makes_member (A k r) m (inl e) = inl e
makes_member (A k r) m (inr h) = inr (makes_member r m h)
makes_member (W k v r) m h = makes_member r m h
makes_member (S t r) m (inl h) = member_left m (made_by t) (made_by r) (makes_member t m h)
makes_member (S t r) m (inr h) = member_right m (made_by t) (made_by r) (makes_member r m h)
makes_member (P l r) m (inl h) = member_left m (made_by l) (made_by r) (makes_member l m h)
makes_member (P l r) m (inr h) = member_right m (made_by l) (made_by r) (makes_member r m h)
makes_member (R room block env reads t) m h = makes_member t m h

makes_counted : (r : Rec Handle) (m : Handle) → Makes r m → 0 < slot_times m.slot (made_by r)
makes_counted r m h = in_counted (λ (k : Handle). k.slot == m.slot) (made_by r) m (makes_member r m h) (nat_same m.slot)

times_append : (s : ℕ) (xs ys : List Handle) → slot_times s (xs ++ ys) ≡ slot_times s xs + slot_times s ys
times_append s xs ys = sum_by-append (λ (h : Handle). cond (h.slot == s) 1 0) xs ys

distinct_left : (xs ys : List Handle) → IsDistinct (xs ++ ys) → IsDistinct xs
distinct_left xs ys h s = omega (arith, h s, times_append s xs ys)

distinct_right : (xs ys : List Handle) → IsDistinct (xs ++ ys) → IsDistinct ys
distinct_right xs ys h s = omega (arith, h s, times_append s xs ys)

both_apart : (t r : Rec Handle) → IsDistinct (made_by t ++ made_by r) → (m : Handle) → Makes t m → Makes r m → ⊥
both_apart t r h m i j =
    let a = makes_counted t m i in
    let b = makes_counted r m j in
    omega (arith, h m.slot, times_append m.slot (made_by t) (made_by r))

pub apart_distinct : (r : Rec Handle) → IsDistinct (made_by r) → IsApart r
apart_distinct E h = tt
apart_distinct (A m r) h = (
  λ i. both_apart (A m E) r h m (inl refl) i,
  apart_distinct r (distinct_right (m ∷ []) (made_by r) h),
)
apart_distinct (W m v r) h = apart_distinct r h
apart_distinct (S t r) h = (
  apart_distinct t (distinct_left (made_by t) (made_by r) h),
  apart_distinct r (distinct_right (made_by t) (made_by r) h),
  both_apart t r h,
)
apart_distinct (P t r) h = (
  apart_distinct t (distinct_left (made_by t) (made_by r) h),
  apart_distinct r (distinct_right (made_by t) (made_by r) h),
  both_apart t r h,
)
apart_distinct (R room block env reads t) h = apart_distinct t h
