-- The blocks that were run again are those of the definition.
use Rattle.std.proofs.Common.{◌≡◌, ℕ, ◌+◌, Bool, true, false, if◌then◌else◌, List, [], ◌∷◌, ◌++◌, length, refl, ap, sym, ◌∙◌, append_assoc, append-nil, arith, length-append}
use Rattle.std.proofs.lemmas.List.{length-map}
use Rattle.psac_model.specs.Names.{Path, Name}
use Rattle.psac_model.specs.Redo.{redo_from}
use Rattle.psac_traced.specs.Rec.{Rec, A, W, S, P, R, tree_of}
use Rattle.psac_traced.specs.Renamed.{rec_named}
use Rattle.psac_traced.specs.Mending.{unlike, mended, anew, below}
use Rattle.psac_traced.specs.Repaired.{WhereLike}
use Rattle.psac_traced.specs.Redone.{redone, under, from, Tells}

from_append : (p : Path) (a b : List Path) → from p (a ++ b) ≡ from p a ++ from p b
from_append p [] b = refl
from_append p (z ∷ a) b = ap (λ zs. (p ++ z) ∷ zs) (from_append p a b)

pub from_under : (p : Path) (x : ℕ) (zs : List Path) → from (p ++ x ∷ []) zs ≡ from p (under x zs)
from_under p x [] = refl
from_under p x (z ∷ zs) = ap (λ q. q ∷ from (p ++ x ∷ []) zs) (append_assoc p (x ∷ []) z) ∙ ap (λ qs. (p ++ x ∷ z) ∷ qs) (from_under p x zs)

pub from_both : (p : Path) (zs a b : List Path) → (zs ++ from (p ++ 0 ∷ []) a) ++ from (p ++ 1 ∷ []) b ≡ zs ++ from p (under 0 a ++ under 1 b)
from_both p zs a b =
    append_assoc zs (from (p ++ 0 ∷ []) a) (from (p ++ 1 ∷ []) b)
    ∙ ap (λ c. zs ++ (c ++ from (p ++ 1 ∷ []) b)) (from_under p 0 a)
    ∙ ap (λ c. zs ++ (from p (under 0 a) ++ c)) (from_under p 1 b)
    ∙ ap (λ c. zs ++ c) (sym (from_append p (under 0 a) (under 1 b)))

pub from_root : (zs : List Path) → from [] zs ≡ zs
from_root [] = refl
from_root (z ∷ zs) = ap (λ qs. z ∷ qs) (from_root zs)

module _ {M : Type 0} (same : M → M → Bool) (f g : M → Name) where
  pub redo_is : (p : Path) (zs : List Path) (r s : Rec M) → Tells same f g p zs r s → redo_from p (tree_of (rec_named f r)) (tree_of (rec_named g s)) zs ≡ zs ++ from p (redone same r s)
  redo_is p zs (A m r) (A n s) h = redo_is (p ++ 3 ∷ []) zs r s h ∙ ap (λ c. zs ++ c) (from_under p 3 (redone same r s))
  redo_is p zs (W m v r) (W n u s) h = redo_is (p ++ 3 ∷ []) zs r s h ∙ ap (λ c. zs ++ c) (from_under p 3 (redone same r s))
  redo_is p zs (S t r) (S u s) h =
      ap (redo_from (p ++ 1 ∷ []) (tree_of (rec_named f r)) (tree_of (rec_named g s))) (redo_is (p ++ 0 ∷ []) zs t u h.0)
      ∙ redo_is (p ++ 1 ∷ []) (zs ++ from (p ++ 0 ∷ []) (redone same t u)) r s h.1
      ∙ from_both p zs (redone same t u) (redone same r s)
  redo_is p zs (P t r) (P u s) h =
      ap (redo_from (p ++ 1 ∷ []) (tree_of (rec_named f r)) (tree_of (rec_named g s))) (redo_is (p ++ 0 ∷ []) zs t u h.0)
      ∙ redo_is (p ++ 1 ∷ []) (zs ++ from (p ++ 0 ∷ []) (redone same t u)) r s h.1
      ∙ from_both p zs (redone same t u) (redone same r s)
  redo_is p zs (R room b e reads t) (R level c k again u) h =
      ap (λ d. if d then zs ++ p ∷ [] else redo_from (p ++ 2 ∷ []) (tree_of (rec_named f t)) (tree_of (rec_named g u)) zs) (sym h.0)
      ∙ elim (unlike same reads again) as (λ d. WhereLike d (Tells same f g (p ++ 2 ∷ []) zs t u) → (if d then zs ++ p ∷ [] else redo_from (p ++ 2 ∷ []) (tree_of (rec_named f t)) (tree_of (rec_named g u)) zs) ≡ zs ++ from p (if d then [] ∷ [] else under 2 (redone same t u))) [
        | true ↦ λ k. ap (λ q. zs ++ q ∷ []) (sym (append-nil p))
        | false ↦ λ k. redo_is (p ++ 2 ∷ []) zs t u k ∙ ap (λ c. zs ++ c) (from_under p 2 (redone same t u))
      ] h.1
  redo_is p zs _ _ h = sym (append-nil zs)

module _ {M : Type 0} (same : M → M → Bool) where
  rerun_both : (a b : List Path) (m n : ℕ) → length a ≡ m → length b ≡ n → length (under 0 a ++ under 1 b) ≡ m + n
  rerun_both a b m n h k = omega (arith, length-append (under 0 a) (under 1 b), length-map a (λ (z : Path). 0 ∷ z), length-map b (λ (z : Path). 1 ∷ z), h, k)

  pub rerun_is : (r s : Rec M) → length (redone same r s) ≡ (mended same r s).rerun
  rerun_is (A m r) (A n s) = length-map (redone same r s) (λ z. 3 ∷ z) ∙ rerun_is r s
  rerun_is (W m v r) (W n u s) = length-map (redone same r s) (λ z. 3 ∷ z) ∙ rerun_is r s
  rerun_is (S t r) (S u s) = rerun_both (redone same t u) (redone same r s) _ _ (rerun_is t u) (rerun_is r s)
  rerun_is (P t r) (P u s) = rerun_both (redone same t u) (redone same r s) _ _ (rerun_is t u) (rerun_is r s)
  rerun_is (R room b e reads t) (R level c k again u) =
      elim (unlike same reads again) as (λ d. length (if d then [] ∷ [] else under 2 (redone same t u)) ≡ (if d then anew t u else below (mended same t u)).rerun) [ true ↦ refl | false ↦ length-map (redone same t u) (λ z. 2 ∷ z) ∙ rerun_is t u ]
  rerun_is _ _ = refl
