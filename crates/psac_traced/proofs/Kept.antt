-- What a repair keeps, and what it has compared.
use Rattle.std.proofs.Common.{◌≡◌, Bool, true, false, not, ◌==◌, ◌||◌, List, [], ◌∷◌, ◌++◌, refl, ap, sym, ◌∙◌, subst, inl, inr}
use Rattle.std.proofs.lemmas.Bool.Decides.{Decides-int_eq}
use Rattle.psac_ops.specs.Value.{Value, nil, bool, int, text, ref, pair}
use Rattle.psac_ops.specs.Table.{same_value, same_bool}
use Rattle.psac_syntax.specs.declared.program.Stmt.{Stmt}
use Rattle.psac_syntax.specs.declared.program.Func.{Func}
use Rattle.psac_model.specs.declared.ends.End.{End}
use Rattle.psac_model.specs.declared.ends.End.TheVariants.{Done, Stop}
use Rattle.psac_model.specs.Expression.{Setting}
use Rattle.psac_model.specs.Tree.{Reads}
use Rattle.psac_naming.specs.Naming.{IsSameTest}
use Rattle.psac_naming.proofs.Names.{nat_same, nat_is, and_is}
use Rattle.psac_traced.specs.Rec.{Rec, E, A, W, S, P, R, HeapOf, writes}
use Rattle.psac_traced.specs.Holds.{read_names, Holds}
use Rattle.psac_traced.specs.Mending.{unlike, untouched, beside, below, mended}
use Rattle.psac_traced.specs.Repaired.{Repaired, Grown, WhereLike}
use Rattle.psac_traced.specs.Mended.{Behind, Mended}
use Rattle.psac_traced.proofs.Again.{not_done, first_left}

bool_itself : (b : Bool) → same_bool b b ≡ true
bool_itself true = refl
bool_itself false = refl

bool_is : (a b : Bool) → same_bool a b ≡ true → a ≡ b
bool_is true b h = sym h
bool_is false true h = absurd cc
bool_is false false h = refl

-- what isn't so, or else
neither : (b c : Bool) → (not b || c) ≡ false → (b ≡ true) × (c ≡ false)
neither true c h = (refl, h)
neither false c h = absurd cc

module _ {N : Type 0} (same : N → N → Bool) (is : IsSameTest same) where
  value_itself : (v : Value N) → same_value same v v ≡ true
  value_itself nil = refl
  value_itself (bool b) = bool_itself b
  value_itself (int i) = (Decides-int_eq i i).1 refl
  value_itself (text a k) = rw (nat_same a) (nat_same k)
  value_itself (ref m) = is.itself m
  value_itself (pair m n) = rw (is.itself m) (is.itself n)

  value_is : (v u : Value N) → same_value same v u ≡ true → v ≡ u
  value_is nil nil h = refl
  value_is (bool a) (bool b) h = ap bool (bool_is a b h)
  value_is (int a) (int b) h = ap int ((Decides-int_eq a b).0 h)
  value_is (text a k) (text b l) h =
      let i = and_is (a == b) (k == l) h in
      ap (λ z. text z k) (nat_is a b i.0) ∙ ap (text b) (nat_is k l i.1)
  value_is (ref m) (ref n) h = ap ref (is.alone m n h)
  value_is (pair k l) (pair m n) h =
      let i = and_is (same k m) (same l n) h in
      ap (λ z. pair z l) (is.alone k m i.0) ∙ ap (pair m) (is.alone l n i.1)
  value_is _ _ h = absurd cc

  unlike_itself : (reads : Reads N) → unlike same reads reads ≡ false
  unlike_itself [] = refl
  unlike_itself (r ∷ reads) = ap (λ b. not b || unlike same reads reads) (value_itself r.1) ∙ unlike_itself reads

  -- reads of the same modifiables that aren't unlike are the same
  pub like_is : (reads again : Reads N) → read_names reads ≡ read_names again → unlike same reads again ≡ false → reads ≡ again
  like_is [] [] n h = refl
  like_is [] (s ∷ ss) n h = absurd cc
  like_is (r ∷ rs) [] n h = absurd cc
  like_is (r ∷ rs) (s ∷ ss) n h =
      let i = neither (same_value same r.1 s.1) (unlike same rs ss) h in
      let head : r.0 ≡ s.0 = cc in
      let tail : read_names rs ≡ read_names ss = cc in
      ap (λ z. (z, r.1) ∷ rs) head ∙ ap (λ z. (s.0, z) ∷ rs) (value_is r.1 s.1 i.0) ∙ ap (λ z. s ∷ z) (like_is rs ss tail i.1)

  -- nothing is run again between a record and itself
  pub kept_untouched : (r : Rec N) → mended same r r ≡ untouched
  kept_untouched E = refl
  kept_untouched (A m r) = kept_untouched r
  kept_untouched (W m v r) = kept_untouched r
  kept_untouched (S t r) = ap (λ d. below (beside d (mended same r r))) (kept_untouched t) ∙ ap (λ d. below (beside untouched d)) (kept_untouched r)
  kept_untouched (P t r) = ap (λ d. below (beside d (mended same r r))) (kept_untouched t) ∙ ap (λ d. below (beside untouched d)) (kept_untouched r)
  kept_untouched (R room b saved reads t) = rw (unlike_itself reads) (ap below (kept_untouched t))

module _ {N : Type 0} (w : Setting N) (is : IsSameTest w.same) (funcs : List Func) (Q : List Stmt → Type 0) where
  -- a record whose reads give the same over the other heap comes of itself there
  pub kept_mended : (other : HeapOf N) (r : Rec N) → Holds w.same other r → Mended w funcs Q other r r Done
  kept_mended other E h = refl
  kept_mended other (A m r) h = (refl, kept_mended other r h)
  kept_mended other (W m v r) h = (refl, refl, kept_mended ((m, v) ∷ other) r h)
  kept_mended other (S t r) h = (Done, kept_mended other t h.0, kept_mended (writes t ++ other) r h.1)
  kept_mended other (P l r) h = (Done, Done, kept_mended other l h.0, kept_mended (writes l ++ other) r h.1, refl)
  kept_mended other (R room b saved reads t) h = (refl, refl, refl, refl, h.0, inl (refl, kept_mended other t h.1))

  done_behind : (e : End) (more : Type 0) (new : Rec N) → Behind e more new Done → (e ≡ Done) × more
  done_behind Done more new h = (refl, h)
  done_behind (Stop k line) more new h = not_done k line h.1

  -- a new record that is done is the old one but inside blocks whose reads are unlike
  pub mended_repaired : (other : HeapOf N) (old new : Rec N) → Mended w funcs Q other old new Done → Repaired w.same old new
  mended_repaired other E E h = tt
  mended_repaired other (A m old) (A n new) h = (h.0, mended_repaired other old new h.1)
  mended_repaired other (W m v old) (W n u new) h = (h.0, h.1, mended_repaired ((n, u) ∷ other) old new h.2)
  mended_repaired other (S t old) (S u new) h =
      let d = done_behind h.0 (Mended w funcs Q (writes u ++ other) old new Done) new h.2 in
      (mended_repaired other t u (subst (Mended w funcs Q other t u) d.0 h.1), mended_repaired (writes u ++ other) old new d.1)
  mended_repaired other (P l k) (P t u) h =
      let d = first_left h.0 h.1 h.4 in
      (mended_repaired other l t (subst (Mended w funcs Q other l t) d.0 h.2), mended_repaired (writes t ++ other) k u (subst (Mended w funcs Q (writes t ++ other) k u) d.1 h.3))
  mended_repaired other (R room b saved reads t) (R level c kept again u) h = (
    h.0,
    h.1,
    h.2,
    h.3,
    elim h.5 [
      | inl i ↦ subst (λ z. WhereLike z (Repaired w.same t u)) (sym (ap (λ z. unlike w.same z again) i.0 ∙ unlike_itself w.same is again)) (mended_repaired other t u i.1)
      | inr i ↦ subst (λ z. WhereLike z (Repaired w.same t u)) (sym i.0) tt
    ],
  )
  mended_repaired other _ _ h = absurd h

  behind_grown : (e : End) (more : Type 0) (old new : Rec N) (end : End) → (more → Grown w.same old new) → Behind e more new end → Grown w.same old new
  behind_grown Done more old new end f h = f h
  behind_grown (Stop k line) more old new end f h = subst (Grown w.same old) (sym h.0) tt

  pub mended_grown : (other : HeapOf N) (old new : Rec N) (end : End) → Mended w funcs Q other old new end → Grown w.same old new
  mended_grown other E E end h = tt
  mended_grown other (A m old) (A n new) end h = (h.0, mended_grown other old new end h.1)
  mended_grown other (W m v old) (W n u new) end h = mended_grown ((n, u) ∷ other) old new end h.2
  mended_grown other (S t old) (S u new) end h =
      (mended_grown other t u h.0 h.1, behind_grown h.0 (Mended w funcs Q (writes u ++ other) old new end) old new end (mended_grown (writes u ++ other) old new end) h.2)
  mended_grown other (P l k) (P t u) end h = (mended_grown other l t h.0 h.2, mended_grown (writes t ++ other) k u h.1 h.3)
  mended_grown other (R room b saved reads t) (R level c kept again u) end h =
      elim h.5 [
        | inl i ↦ subst (λ z. WhereLike z (Grown w.same t u)) (sym (ap (λ z. unlike w.same z again) i.0 ∙ unlike_itself w.same is again)) (mended_grown other t u end i.1)
        | inr i ↦ subst (λ z. WhereLike z (Grown w.same t u)) (sym i.0) tt
      ]
  mended_grown other _ _ end h = absurd h
