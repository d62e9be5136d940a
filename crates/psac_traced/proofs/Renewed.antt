-- A new record makes nothing twice, where the old one doesn't and what was made anew is new.
use Rattle.std.proofs.Common.{◌≢◌, ◌<◌, ◌+◌, Bool, true, false, if◌then◌else◌, List, [], ◌∷◌, ◌++◌, length, Contains, AllPairs, refl, sym, ◌∙◌, subst, ◌⊎◌, inl, inr, arith, length-append}
use Rattle.std.proofs.lemmas.List.{get_or_append_left, get_or-append-add}
use Rattle.std.proofs.lemmas.List.Elements.{Contains-append_left, Contains-append_right}
use Rattle.psac_traced.specs.Rec.{Rec, E, A, W, S, P, R}
use Rattle.psac_traced.specs.Places.{Makes, IsApart}
use Rattle.psac_traced.specs.Mending.{made_by, unlike, mended, anew, below}
use Rattle.psac_traced.specs.Repaired.{Grown, WhereLike}
use Rattle.psac_traced.proofs.Told.{made_contains}

module _ {N : Type 0} where
  -- no two of a list are the same
  abbrev pub IsDistinct : List N → Type 0
  IsDistinct xs = AllPairs (λ x y. x ≢ y) xs

  distinct_left : (xs ys : List N) → IsDistinct (xs ++ ys) → IsDistinct xs
  distinct_left xs ys h i j d lt lj e =
      let long = length-append xs ys in
      let li : i < length xs = omega arith in
      h i j d lt (omega arith) (get_or_append_left xs ys d i li ∙ e ∙ sym (get_or_append_left xs ys d j lj))

  distinct_right : (xs ys : List N) → IsDistinct (xs ++ ys) → IsDistinct ys
  distinct_right xs ys h i j d lt lj e =
      let long = length-append xs ys in
      h (length xs + i) (length xs + j) d (omega arith) (omega arith) (get_or-append-add xs ys i d ∙ e ∙ sym (get_or-append-add xs ys j d))

  distinct_across : (xs ys : List N) → IsDistinct (xs ++ ys) → (m : N) → Contains xs m → Contains ys m → ⊥
  distinct_across xs ys h m x y =
      let long = length-append xs ys in
      let lx = x.1 in
      let ly = y.1 in
      h x.0 (length xs + y.0) m (omega arith) (omega arith) (get_or_append_left xs ys m x.0 lx ∙ x.2 ∙ sym y.2 ∙ sym (get_or-append-add xs ys y.0 m))

  -- a record whose list of what it made has nothing twice
  pub apart_listed : (r : Rec N) → IsDistinct (made_by r) → IsApart r
  apart_listed E h = tt
  apart_listed (A m r) h = (
    λ i. distinct_across (m ∷ []) (made_by r) h m (made_contains (A m E) m (inl refl)) (made_contains r m i),
    apart_listed r (distinct_right (m ∷ []) (made_by r) h),
  )
  apart_listed (W m v r) h = apart_listed r h
  apart_listed (S t r) h = (
    apart_listed t (distinct_left (made_by t) (made_by r) h),
    apart_listed r (distinct_right (made_by t) (made_by r) h),
    λ m i j. distinct_across (made_by t) (made_by r) h m (made_contains t m i) (made_contains r m j),
  )
  apart_listed (P t r) h = (
    apart_listed t (distinct_left (made_by t) (made_by r) h),
    apart_listed r (distinct_right (made_by t) (made_by r) h),
    λ m i j. distinct_across (made_by t) (made_by r) h m (made_contains t m i) (made_contains r m j),
  )
  apart_listed (R room block env reads t) h = apart_listed t h

module _ {N : Type 0} (same : N → N → Bool) where
  -- what the new record made the old one did, or it was made anew
  pub new_made : (r s : Rec N) → Grown same r s → (m : N) → Makes s m → Makes r m ⊎ Contains (mended same r s).created m
  new_made r E re m h = absurd h
  new_made (A k r) (A n s) re m (inl h) = inl (inl (re.0 ∙ h))
  new_made (A k r) (A n s) re m (inr h) = elim (new_made r s re.1 m h) [ inl i ↦ inl (inr i) | inr i ↦ inr i ]
  new_made (W k v r) (W n u s) re m h = new_made r s re m h
  new_made (S t r) (S u s) re m (inl h) =
      elim (new_made t u re.0 m h) [ inl i ↦ inl (inl i) | inr i ↦ inr (Contains-append_left (mended same t u).created (mended same r s).created m i) ]
  new_made (S t r) (S u s) re m (inr h) =
      elim (new_made r s re.1 m h) [ inl i ↦ inl (inr i) | inr i ↦ inr (Contains-append_right (mended same t u).created (mended same r s).created m i) ]
  new_made (P t r) (P u s) re m (inl h) =
      elim (new_made t u re.0 m h) [ inl i ↦ inl (inl i) | inr i ↦ inr (Contains-append_left (mended same t u).created (mended same r s).created m i) ]
  new_made (P t r) (P u s) re m (inr h) =
      elim (new_made r s re.1 m h) [ inl i ↦ inl (inr i) | inr i ↦ inr (Contains-append_right (mended same t u).created (mended same r s).created m i) ]
  new_made (R room b e reads t) (R level c f again u) re m h =
      elim (unlike same reads again) as (λ d. WhereLike d (Grown same t u) → Makes t m ⊎ Contains (if d then anew t u else below (mended same t u)).created m) [
        | true ↦ λ like. inr (made_contains u m h)
        | false ↦ λ like. new_made t u like m h
      ] re
  new_made _ _ re m h = absurd re

  -- two parts that make nothing twice, of which neither makes what the other does
  both_apart : (t r u s : Rec N) → Grown same t u → Grown same r s → ((m : N) → Makes t m → Makes r m → ⊥) → ((m : N) → Contains ((mended same t u).created ++ (mended same r s).created) m → Makes t m ⊎ Makes r m → ⊥) → IsDistinct ((mended same t u).created ++ (mended same r s).created) → (m : N) → Makes u m → Makes s m → ⊥
  both_apart t r u s re rest apart fresh distinct m h k =
      let a = (mended same t u).created in
      let b = (mended same r s).created in
      elim (new_made t u re m h) [
        | inl i ↦ elim (new_made r s rest m k) [ inl j ↦ apart m i j | inr j ↦ fresh m (Contains-append_right a b m j) (inl i) ]
        | inr i ↦ elim (new_made r s rest m k) [ inl j ↦ fresh m (Contains-append_left a b m i) (inr j) | inr j ↦ distinct_across a b distinct m i j ]
      ]

  pub new_apart : (r s : Rec N) → Grown same r s → IsApart r → ((m : N) → Contains (mended same r s).created m → Makes r m → ⊥) → IsDistinct (mended same r s).created → IsApart s
  new_apart r E re apart fresh distinct = tt
  new_apart (A k r) (A n s) re apart fresh distinct = (
    λ h. elim (new_made r s re.1 n h) [ inl i ↦ apart.0 (subst (Makes r) (sym re.0) i) | inr i ↦ fresh n i (inl re.0) ],
    new_apart r s re.1 apart.1 (λ m i j. fresh m i (inr j)) distinct,
  )
  new_apart (W k v r) (W n u s) re apart fresh distinct = new_apart r s re apart fresh distinct
  new_apart (S t r) (S u s) re apart fresh distinct =
      let a = (mended same t u).created in
      let b = (mended same r s).created in (
        new_apart t u re.0 apart.0 (λ m i j. fresh m (Contains-append_left a b m i) (inl j)) (distinct_left a b distinct),
        new_apart r s re.1 apart.1 (λ m i j. fresh m (Contains-append_right a b m i) (inr j)) (distinct_right a b distinct),
        both_apart t r u s re.0 re.1 apart.2 fresh distinct,
      )
  new_apart (P t r) (P u s) re apart fresh distinct =
      let a = (mended same t u).created in
      let b = (mended same r s).created in (
        new_apart t u re.0 apart.0 (λ m i j. fresh m (Contains-append_left a b m i) (inl j)) (distinct_left a b distinct),
        new_apart r s re.1 apart.1 (λ m i j. fresh m (Contains-append_right a b m i) (inr j)) (distinct_right a b distinct),
        both_apart t r u s re.0 re.1 apart.2 fresh distinct,
      )
  new_apart (R room b e reads t) (R level c f again u) re apart fresh distinct =
      elim (unlike same reads again) as (λ d. WhereLike d (Grown same t u) → ((m : N) → Contains (if d then anew t u else below (mended same t u)).created m → Makes t m → ⊥) → IsDistinct (if d then anew t u else below (mended same t u)).created → IsApart u) [
        | true ↦ λ like new apart_list. apart_listed u apart_list
        | false ↦ λ like new apart_list. new_apart t u like apart new apart_list
      ] re fresh distinct
  new_apart _ _ re apart fresh distinct = absurd re
