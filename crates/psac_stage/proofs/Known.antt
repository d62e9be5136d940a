-- What a pass knows of a modifiable, by its handle and by its slot.
use Rattle.std.proofs.Common.{◌≡◌, ℕ, ◌≤◌, ◌==◌, true, false, cond, List, [], ◌∷◌, Option, Some, refl, ap, sym, ◌∙◌, subst, inl, inr, arith}
use Rattle.std.specs.Prelude.{option_and_then}
use Rattle.std.proofs.lemmas.List.Sums.{sum_by-cons}
use Rattle.psac_ops.specs.declared.plain.Handle.{Handle}
use Rattle.psac_ops.specs.declared.plain.Plain.{Plain}
use Rattle.psac_ops.specs.Named.{same_handle, value_of}
use Rattle.psac_ops.specs.Words.{of_words}
use Rattle.psac_slots.specs.Handles.{Member}
use Rattle.psac_values.specs.declared.view.OwnedView.{OwnedView}
use Rattle.psac_values.specs.declared.view.ValueView.{ValueView}
use Rattle.psac_values.specs.Knowing.{Has}
use Rattle.psac_laws.proofs.Places.{none_some, some_is, nat_same, test_or, not_both}
use Rattle.psac_laws.proofs.Rules.{or_is}
use Rattle.psac_plain.proofs.Linked.{handles_told}
use Rattle.psac_trace.specs.Rights.{Sees}
use Rattle.psac_repair.specs.Marks.{Present}
use Rattle.psac_stage.specs.Holding.{all_known, value_in, entries}
use Rattle.psac_stage.specs.Recorded.{has_of, words_of, known_of}
use Rattle.psac_stage.proofs.Holding.{then_is, known_all, one_words, value_one, value_sees, sees_value}
use Rattle.psac_stage.proofs.Members.{in_counted}

-- the entry of a modifiable
words_entry : (m : Handle) (mine : List OwnedView) (ws : List (Option ℕ)) → words_of m mine ≡ Some ws
    → (o : OwnedView) × Member o mine × (o.of ≡ m) × (o.words ≡ ws)
words_entry m [] ws h = absurd (none_some h)
words_entry m (o ∷ mine) ws h =
    elim (test_or (same_handle o.of m)) [
      | inl t ↦ (let q : Some o.words ≡ Some ws = rw t at h in (o, inl refl, handles_told.alone o.of m t, some_is q))
      | inr t ↦ (let q : words_of m mine ≡ Some ws = rw t at h in let r = words_entry m mine ws q in (r.0, inr r.1, r.2, r.3))
    ]

pub known_entry : (m : Handle) (x : Plain) (mine : List OwnedView) → known_of m mine ≡ Some x
    → (o : OwnedView) × Member o mine × (o.of ≡ m) × (option_and_then of_words (all_known o.words) ≡ Some x)
known_entry m x mine h =
    let a = then_is of_words (option_and_then all_known (words_of m mine)) x h in
    let b = then_is all_known (words_of m mine) a.0 a.1 in
    let c = words_entry m mine b.0 b.1 in
    (c.0, c.1, c.2, ap (λ z. option_and_then of_words (all_known z)) c.3 ∙ ap (option_and_then of_words) b.2 ∙ a.2)

-- where no slot stands twice
pub known_value : (m : Handle) (x : Plain) (mine : List OwnedView) → entries m.slot mine ≤ 1 → known_of m mine ≡ Some x
    → value_in m.slot mine ≡ Some x
known_value m x mine few h =
    let e = known_entry m x mine h in
    ap (λ z. option_and_then of_words (option_and_then all_known z))
    (one_words m.slot mine e.0 few e.1 (ap (λ (z : Handle). z.slot) e.2)) ∙ e.3

more_none : (s : ℕ) (o y : OwnedView) (mine : List OwnedView) → entries s (y ∷ mine) ≤ 1 → y.of.slot ≡ s → Member o mine → o.of.slot ≡ s → ⊥
more_none s o y mine few a i b =
    let c = sum_by-cons (λ (w : OwnedView). cond (w.of.slot == s) 1 0) y mine in
    let n = in_counted (λ (w : OwnedView). w.of.slot == s) mine o i (subst (λ z. (o.of.slot == z) ≡ true) b (nat_same o.of.slot)) in
    let z : ◌≡◌ {A = ℕ} (cond (y.of.slot == s) 1 0) 1 = ap (λ t. cond t 1 0)
    (subst (λ z. (y.of.slot == z) ≡ true) a (nat_same y.of.slot)) in
    omega (arith, c, n, few, z)

fewer : (s : ℕ) (y : OwnedView) (mine : List OwnedView) → entries s (y ∷ mine) ≤ 1 → entries s mine ≤ 1
fewer s y mine few = let c = sum_by-cons (λ (w : OwnedView). cond (w.of.slot == s) 1 0) y mine in omega (arith, c, few)

pub one_entry : (s : ℕ) (mine : List OwnedView) → entries s mine ≤ 1 → (o b : OwnedView) → Member o mine → Member b mine
    → o.of.slot ≡ s → b.of.slot ≡ s → o ≡ b
one_entry s [] few o b i j e f = absurd i
one_entry s (y ∷ mine) few o b (inl p) (inl q) e f = sym p ∙ q
one_entry s (y ∷ mine) few o b (inl p) (inr j) e f = absurd (more_none s b y mine few (ap (λ (z : OwnedView). z.of.slot) p ∙ e) j f)
one_entry s (y ∷ mine) few o b (inr i) (inl q) e f = absurd (more_none s o y mine few (ap (λ (z : OwnedView). z.of.slot) q ∙ f) i e)
one_entry s (y ∷ mine) few o b (inr i) (inr j) e f = one_entry s mine (fewer s y mine few) o b i j e f

any_entry : (m : Handle) (mine : List OwnedView) → has_of m mine ≡ true → (o : OwnedView) × Member o mine × (o.of ≡ m)
any_entry m [] h = absurd cc
any_entry m (o ∷ mine) h =
    elim (or_is (same_handle o.of m) (has_of m mine) h) [
      | inl t ↦ (o, inl refl, handles_told.alone o.of m t)
      | inr t ↦ (let r = any_entry m mine t in (r.0, inr r.1, r.2))
    ]

pub has_is : (v : ValueView) (m : Handle) → has_of m v.mine ≡ true → Has v m
has_is v m h = any_entry m v.mine h

-- what a pass sees of what it alone may write
module _ (u : ValueView) (few : (s : ℕ) → entries s u.mine ≤ 1) (alone : u.known ≡ []) where
  pub one_has : (m : Handle) → Has u m → (o : OwnedView) → Member o u.mine → o.of.slot ≡ m.slot → o.of ≡ m
  one_has m h o i e = ap (λ (z : OwnedView). z.of)
      (one_entry m.slot u.mine (few m.slot) o h.0 i h.1 e (ap (λ (z : Handle). z.slot) h.2)) ∙ h.2

  pub value_seen : (m : Handle) (x : Plain) → Has u m → value_in m.slot u.mine ≡ Some x → Sees u m (value_of x)
  value_seen m x h e = value_sees u m x (one_has m h) e

  pub value_present : (m : Handle) (x : Plain) → value_in m.slot u.mine ≡ Some x → Present u m (value_of x)
  value_present m x e y s =
      let n = sees_value u m y alone (few m.slot) s in
      ap value_of (some_is (sym e ∙ n.known)) ∙ n.is

-- what a pass sees it knows by its handle
known_first : (m : Handle) (mine : List OwnedView) (o : OwnedView) → entries m.slot mine ≤ 1 → Member o mine → o.of ≡ m
    → words_of m mine ≡ Some o.words
known_first m [] o few i e = absurd i
known_first m (y ∷ mine) o few i e =
    elim (test_or (same_handle y.of m)) [
      | inl t ↦
          (let s = ap (λ (z : Handle). z.slot) (handles_told.alone y.of m t) in
          let q : y ≡ o = one_entry m.slot (y ∷ mine) few y o (inl refl) i s (ap (λ (z : Handle). z.slot) e) in
          rw t (ap (λ (z : OwnedView). Some z.words) q))
      | inr t ↦ rw t (known_first m mine o (fewer m.slot y mine few) (behind i t) e)
    ]
  where
    behind : Member o (y ∷ mine) → same_handle y.of m ≡ false → Member o mine
    behind (inl q) t = absurd (not_both (subst (λ (z : OwnedView). same_handle z.of m ≡ true) (sym q)
        (subst (λ z. same_handle o.of z ≡ true) e (handles_told.itself o.of))) t)
    behind (inr j) t = j

pub known_seen : (v : ValueView) (m : Handle) (x : Plain) → v.known ≡ [] → entries m.slot v.mine ≤ 1 → Sees v m (value_of x)
    → known_of m v.mine ≡ Some x
known_seen v m x alone few (ws, p, inl (o, i, e, w), k, is) =
    ap (λ z. option_and_then of_words (option_and_then all_known z)) (known_first m v.mine o few i e ∙ ap Some w)
    ∙ ap (option_and_then of_words) (known_all ws) ∙ k ∙ ap Some (value_one p x is)
known_seen v m x alone few (ws, p, inr (e, i, r, w), k, is) = absurd (subst (Member e) alone i)

pub has_told : (mine : List OwnedView) (m : Handle) (o : OwnedView) → Member o mine → o.of ≡ m → has_of m mine ≡ true
has_told [] m o i e = absurd i
has_told (y ∷ mine) m o (inl q) e =
    let t : same_handle y.of m ≡ true = subst (λ (z : OwnedView). same_handle z.of m ≡ true) (sym q)
    (subst (λ z. same_handle o.of z ≡ true) e (handles_told.itself o.of)) in
    rw t refl
has_told (y ∷ mine) m o (inr i) e = elim (test_or (same_handle y.of m)) [ inl t ↦ rw t refl | inr t ↦ rw t (has_told mine m o i e) ]
