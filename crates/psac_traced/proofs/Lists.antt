-- How many modifiables a repair threw away and made.
use Rattle.std.proofs.Common.{◌≡◌, ◌+◌, Bool, true, false, if◌then◌else◌, ◌++◌, length, refl, ap, sym, ◌∙◌, arith, length-append, zero-add}
use Rattle.psac_model.specs.Tree.{size_of}
use Rattle.psac_traced.specs.Rec.{Rec, E, A, W, S, P, R, tree_of}
use Rattle.psac_traced.specs.Mending.{made_by, Mending, unlike, mended, anew, below}

made_long : {N : Type 0} (r : Rec N) → length (made_by r) ≡ (size_of (tree_of r)).mods
made_long E = refl
made_long (A m r) = let h = made_long r in omega arith
made_long (W m v r) = made_long r
made_long (S t r) = let h = made_long t in let k = made_long r in omega (arith, length-append (made_by t) (made_by r))
made_long (P t r) = let h = made_long t in let k = made_long r in omega (arith, length-append (made_by t) (made_by r))
made_long (R room block env reads t) = made_long t ∙ sym (zero-add (size_of (tree_of t)).mods)

module _ {M : Type 0} (same : M → M → Bool) where
  lists_both : (a b : Mending M) → (length a.dropped ≡ a.removed.mods) × (length a.created ≡ a.added.mods) → (length b.dropped ≡ b.removed.mods) × (length b.created ≡ b.added.mods) → (length (a.dropped ++ b.dropped) ≡ a.removed.mods + b.removed.mods) × (length (a.created ++ b.created) ≡ a.added.mods + b.added.mods)
  lists_both a b h k =
      (length-append a.dropped b.dropped ∙ ap (λ n. n + length b.dropped) h.0 ∙ ap (λ n. a.removed.mods + n) k.0, length-append a.created b.created ∙ ap (λ n. n + length b.created) h.1 ∙ ap (λ n. a.added.mods + n) k.1)

  -- as many as the sizes say
  pub lists_are : (r s : Rec M) → (length (mended same r s).dropped ≡ (mended same r s).removed.mods) × (length (mended same r s).created ≡ (mended same r s).added.mods)
  lists_are (A m r) (A n s) = lists_are r s
  lists_are (W m v r) (W n u s) = lists_are r s
  lists_are (S t r) (S u s) = lists_both (mended same t u) (mended same r s) (lists_are t u) (lists_are r s)
  lists_are (P t r) (P u s) = lists_both (mended same t u) (mended same r s) (lists_are t u) (lists_are r s)
  lists_are (R room b e reads t) (R level c k again u) =
      elim (unlike same reads again) as (λ d. (length (if d then anew t u else below (mended same t u)).dropped ≡ (if d then anew t u else below (mended same t u)).removed.mods) × (length (if d then anew t u else below (mended same t u)).created ≡ (if d then anew t u else below (mended same t u)).added.mods)) [
        | true ↦ (made_long t, made_long u)
        | false ↦ lists_are t u
      ]
  lists_are _ _ = (refl, refl)
