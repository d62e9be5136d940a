-- What a repair threw away is nowhere in the new record, and all else that the old one made is.
use Rattle.std.proofs.Common.{Bool, true, false, if◌then◌else◌, [], ◌∷◌, ◌++◌, Contains, sym, ◌∙◌, subst, ◌⊎◌, inl, inr, arith}
use Rattle.std.proofs.lemmas.List.Elements.{Contains-append_left, Contains-append_right, Contains-append_cases, Contains-push_cases}
use Rattle.psac_traced.specs.Rec.{Rec, E, A, W, S, P, R}
use Rattle.psac_traced.specs.Places.{Makes, IsApart}
use Rattle.psac_traced.specs.Mending.{made_by, unlike, mended, anew, below}
use Rattle.psac_traced.specs.Repaired.{WhereLike, Repaired, Grown}
use Rattle.psac_traced.proofs.Told.{made_contains}
use Rattle.psac_traced.proofs.Renewed.{new_made}

module _ {N : Type 0} where
  none_contained : (m : N) → Contains [] m → ⊥
  none_contained m h = let lt = h.1 in omega arith

  contains_made : (r : Rec N) (m : N) → Contains (made_by r) m → Makes r m
  contains_made E m h = absurd (none_contained m h)
  contains_made (A k r) m h =
      elim (Contains-append_cases (k ∷ []) (made_by r) m h) [
        | inl i ↦ elim (Contains-push_cases [] k m i) [ inl j ↦ absurd (none_contained m j) | inr j ↦ inl j ]
        | inr i ↦ inr (contains_made r m i)
      ]
  contains_made (W k v r) m h = contains_made r m h
  contains_made (S t r) m h =
      elim (Contains-append_cases (made_by t) (made_by r) m h) [ inl i ↦ inl (contains_made t m i) | inr i ↦ inr (contains_made r m i) ]
  contains_made (P t r) m h =
      elim (Contains-append_cases (made_by t) (made_by r) m h) [ inl i ↦ inl (contains_made t m i) | inr i ↦ inr (contains_made r m i) ]
  contains_made (R room block env reads t) m h = contains_made t m h

module _ {N : Type 0} (same : N → N → Bool) where
  -- what was thrown away the old record made
  pub dropped_made : (r s : Rec N) (m : N) → Contains (mended same r s).dropped m → Makes r m
  dropped_made (A k r) (A n s) m h = inr (dropped_made r s m h)
  dropped_made (W k v r) (W n u s) m h = dropped_made r s m h
  dropped_made (S t r) (S u s) m h =
      elim (Contains-append_cases (mended same t u).dropped (mended same r s).dropped m h) [ inl i ↦ inl (dropped_made t u m i) | inr i ↦ inr (dropped_made r s m i) ]
  dropped_made (P t r) (P u s) m h =
      elim (Contains-append_cases (mended same t u).dropped (mended same r s).dropped m h) [ inl i ↦ inl (dropped_made t u m i) | inr i ↦ inr (dropped_made r s m i) ]
  dropped_made (R room b e reads t) (R level c f again u) m h =
      elim (unlike same reads again) as (λ d. Contains (if d then anew t u else below (mended same t u)).dropped m → Makes t m) [ true ↦ λ i. contains_made t m i | false ↦ λ i. dropped_made t u m i ] h
  dropped_made _ _ m h = absurd (none_contained m h)

  -- what the old record made was thrown away, or the new one has it
  pub old_made : (r s : Rec N) → Repaired same r s → (m : N) → Makes r m → Makes s m ⊎ Contains (mended same r s).dropped m
  old_made E E re m h = absurd h
  old_made (A k r) (A n s) re m (inl h) = inl (inl (sym re.0 ∙ h))
  old_made (A k r) (A n s) re m (inr h) = elim (old_made r s re.1 m h) [ inl i ↦ inl (inr i) | inr i ↦ inr i ]
  old_made (W k v r) (W n u s) re m h = old_made r s re.2 m h
  old_made (S t r) (S u s) re m (inl h) =
      elim (old_made t u re.0 m h) [ inl i ↦ inl (inl i) | inr i ↦ inr (Contains-append_left (mended same t u).dropped (mended same r s).dropped m i) ]
  old_made (S t r) (S u s) re m (inr h) =
      elim (old_made r s re.1 m h) [ inl i ↦ inl (inr i) | inr i ↦ inr (Contains-append_right (mended same t u).dropped (mended same r s).dropped m i) ]
  old_made (P t r) (P u s) re m (inl h) =
      elim (old_made t u re.0 m h) [ inl i ↦ inl (inl i) | inr i ↦ inr (Contains-append_left (mended same t u).dropped (mended same r s).dropped m i) ]
  old_made (P t r) (P u s) re m (inr h) =
      elim (old_made r s re.1 m h) [ inl i ↦ inl (inr i) | inr i ↦ inr (Contains-append_right (mended same t u).dropped (mended same r s).dropped m i) ]
  old_made (R room b e reads t) (R level c f again u) re m h =
      elim (unlike same reads again) as (λ d. WhereLike d (Repaired same t u) → Makes u m ⊎ Contains (if d then anew t u else below (mended same t u)).dropped m) [
        | true ↦ λ like. inr (made_contains t m h)
        | false ↦ λ like. old_made t u like m h
      ] re.4
  old_made _ _ re m h = absurd re

  -- one of two parts of the old record made it, and the new one has it in the other
  elsewhere : (t r s : Rec N) → Grown same r s → ((m : N) → Makes t m → Makes r m → ⊥) → ((m : N) → Contains (mended same r s).created m → Makes t m → ⊥) → (m : N) → Makes t m → Makes s m → ⊥
  elsewhere t r s re apart fresh m h k = elim (new_made same r s re m k) [ inl i ↦ apart m h i | inr i ↦ fresh m i h ]

  both_gone : (t r u s : Rec N) → Grown same t u → Grown same r s → ((m : N) → Makes t m → Makes r m → ⊥) → ((m : N) → Contains ((mended same t u).created ++ (mended same r s).created) m → Makes t m ⊎ Makes r m → ⊥) → ((m : N) → Contains (mended same t u).dropped m → Makes u m → ⊥) → ((m : N) → Contains (mended same r s).dropped m → Makes s m → ⊥) → (m : N) → Contains ((mended same t u).dropped ++ (mended same r s).dropped) m → Makes u m ⊎ Makes s m → ⊥
  both_gone t r u s re rest apart fresh one two m h k =
      let a = (mended same t u).created in
      let b = (mended same r s).created in
      elim (Contains-append_cases (mended same t u).dropped (mended same r s).dropped m h) [
        | inl i ↦
            elim k [
              | inl j ↦ one m i j
              | inr j ↦ elsewhere t r s rest apart (λ l x y. fresh l (Contains-append_right a b l x) (inl y)) m (dropped_made t u m i) j
            ]
        | inr i ↦
            elim k [
              | inl j ↦ elsewhere r t u re (λ l x y. apart l y x) (λ l x y. fresh l (Contains-append_left a b l x) (inr y)) m (dropped_made r s m i) j
              | inr j ↦ two m i j
            ]
      ]

  pub dropped_gone : (r s : Rec N) → Grown same r s → IsApart r → ((m : N) → Contains (mended same r s).created m → Makes r m → ⊥) → (m : N) → Contains (mended same r s).dropped m → Makes s m → ⊥
  dropped_gone r E re apart fresh m h k = k
  dropped_gone (A l r) (A n s) re apart fresh m h (inl k) = apart.0 (subst (Makes r) (sym k ∙ sym re.0) (dropped_made r s m h))
  dropped_gone (A l r) (A n s) re apart fresh m h (inr k) = dropped_gone r s re.1 apart.1 (λ z i j. fresh z i (inr j)) m h k
  dropped_gone (W l v r) (W n u s) re apart fresh m h k = dropped_gone r s re apart fresh m h k
  dropped_gone (S t r) (S u s) re apart fresh m h k =
      both_gone t r u s re.0 re.1 apart.2 fresh
      (dropped_gone t u re.0 apart.0 (λ z i j. fresh z (Contains-append_left (mended same t u).created (mended same r s).created z i) (inl j)))
      (dropped_gone r s re.1 apart.1 (λ z i j. fresh z (Contains-append_right (mended same t u).created (mended same r s).created z i) (inr j))) m h k
  dropped_gone (P t r) (P u s) re apart fresh m h k =
      both_gone t r u s re.0 re.1 apart.2 fresh
      (dropped_gone t u re.0 apart.0 (λ z i j. fresh z (Contains-append_left (mended same t u).created (mended same r s).created z i) (inl j)))
      (dropped_gone r s re.1 apart.1 (λ z i j. fresh z (Contains-append_right (mended same t u).created (mended same r s).created z i) (inr j))) m h k
  dropped_gone (R room b e reads t) (R level c f again u) re apart fresh m h k =
      elim (unlike same reads again) as (λ d. WhereLike d (Grown same t u) → ((z : N) → Contains (if d then anew t u else below (mended same t u)).created z → Makes t z → ⊥) → Contains (if d then anew t u else below (mended same t u)).dropped m → ⊥) [
        | true ↦ λ like new i. new m (made_contains u m k) (contains_made t m i)
        | false ↦ λ like new i. dropped_gone t u like apart new m i k
      ] re fresh h
  dropped_gone _ _ re apart fresh m h k = absurd re
