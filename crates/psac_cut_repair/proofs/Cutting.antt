-- Each repair is one that was cut short, after all of it; and what a repair that was cut short kept it took from the old record.
use Rattle.std.proofs.Common.{◌≡◌, ℕ, Bool, true, false, if◌then◌else◌, List, [], ◌∷◌, ◌++◌, refl, ap, sym, ◌∙◌, subst, inl, inr, arith}
use Rattle.psac_syntax.specs.declared.program.Stmt.{Stmt}
use Rattle.psac_syntax.specs.declared.program.Func.{Func}
use Rattle.psac_model.specs.declared.ends.End.{End}
use Rattle.psac_model.specs.declared.ends.End.TheVariants.{Done, Stop}
use Rattle.psac_model.specs.Expression.{Setting}
use Rattle.psac_model.specs.Tree.{Reads}
use Rattle.psac_model.specs.Run.{with_reads}
use Rattle.psac_naming.specs.Naming.{IsSameTest}
use Rattle.psac_traced.specs.Rec.{Rec, E, A, W, S, P, R, HeapOf, writes}
use Rattle.psac_traced.specs.Mending.{Mending, unlike, mended, anew, below}
use Rattle.psac_traced.specs.Mended.{Behind, Mended}
use Rattle.psac_traced.specs.Repaired.{Grown, WhereLike}
use Rattle.psac_traced.proofs.Kept.{kept_untouched, mended_grown}
use Rattle.psac_cut.proofs.Cutting.{cut_whole}
use Rattle.psac_cut_repair.specs.CutMended.{CutMended}

module _ {N : Type 0} (same : N → N → Bool) (is : IsSameTest same) where
  not_run : (b : Bool) → (if b then anew {N = N} E E else below (mended same E E)).rerun ≡ 0 → b ≡ false
  not_run true e = absurd (omega (arith, e))
  not_run false e = refl

  -- reads aren't unlike themselves
  pub like_itself : (reads : Reads N) → unlike same reads reads ≡ false
  like_itself reads = not_run (unlike same reads reads) (ap (λ (d : Mending N). d.rerun) (kept_untouched same is (R 0 0 [] reads E)))

module _ {N : Type 0} (w : Setting N) (funcs : List Func) (Q : List Stmt → Type 0) where
  behind_cut : (e : End) (other : HeapOf N) (t u old new : Rec N) (end : End) → Mended w funcs Q other t u e → CutMended w funcs Q other t u 0 → (Mended w funcs Q (writes u ++ other) old new end → CutMended w funcs Q (writes u ++ other) old new 0) → Behind e (Mended w funcs Q (writes u ++ other) old new end) new end → CutMended w funcs Q other (S t old) (S u new) 0
  behind_cut Done other t u old new end m c f h = inr (m, f h)
  behind_cut (Stop k line) other t u old new end m c f h = inl (c, h.0)

  -- a repair that is done, or stops by itself
  pub mended_cut : (other : HeapOf N) (old new : Rec N) (end : End) → Mended w funcs Q other old new end → CutMended w funcs Q other old new 0
  mended_cut other old E end h = refl
  mended_cut other (A m old) (A k new) end h = (h.0, mended_cut other old new end h.1)
  mended_cut other (W m v old) (W k u new) end h = (h.0, h.1, mended_cut ((k, u) ∷ other) old new end h.2)
  mended_cut other (S t old) (S u new) end h =
      behind_cut h.0 other t u old new end h.1 (mended_cut other t u h.0 h.1) (mended_cut (writes u ++ other) old new end) h.2
  mended_cut other (P l k) (P t u) end h = inr (h.0, h.2, mended_cut (writes t ++ other) k u h.1 h.3)
  mended_cut other (R room b saved reads t) (R level c kept again u) end h = (
    h.0,
    h.1,
    h.2,
    h.3,
    h.4,
    elim h.5 [
      | inl i ↦ inl (i.0, mended_cut other t u end i.1)
      | inr i ↦ inr (i.0, λ s rest line items body is q. cut_whole w funcs room body (with_reads saved items again) other u end (i.1 s rest line items body is q))
    ],
  )
  mended_cut other _ _ end h = absurd h

  module _ (is : IsSameTest w.same) where
    pub cut_grown : (other : HeapOf N) (old new : Rec N) (n : ℕ) → CutMended w funcs Q other old new n → Grown w.same old new
    cut_grown other old E n h = tt
    cut_grown other (A m old) (A k new) n h = (h.0, cut_grown other old new n h.1)
    cut_grown other (W m v old) (W k u new) n h = cut_grown ((k, u) ∷ other) old new n h.2
    cut_grown other (S t old) (S u new) n (inl h) = (cut_grown other t u n h.0, subst (Grown w.same old) (sym h.1) tt)
    cut_grown other (S t old) (S u new) n (inr h) = (mended_grown w is funcs Q other t u Done h.0, cut_grown (writes u ++ other) old new n h.1)
    cut_grown other (P l k) (P t u) n (inl h) = (cut_grown other l t h.0 h.2, cut_grown other k u h.1 h.3)
    cut_grown other (P l k) (P t u) n (inr h) = (mended_grown w is funcs Q other l t h.0 h.1, cut_grown (writes t ++ other) k u n h.2)
    cut_grown other (R room b saved reads t) (R level c kept again u) n h =
        elim h.5 [
          | inl i ↦ subst (λ z. WhereLike z (Grown w.same t u)) (sym (ap (λ z. unlike w.same z again) i.0 ∙ like_itself w.same is again)) (cut_grown other t u n i.1)
          | inr i ↦ subst (λ z. WhereLike z (Grown w.same t u)) (sym i.0) tt
        ]
    cut_grown other _ _ n h = absurd h
