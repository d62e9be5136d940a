-- What a pass knows, by the value that it has of a slot.
use Rattle.std.proofs.Common.{◌≡◌, ℕ, ◌≤◌, ◌==◌, true, cond, List, [], ◌∷◌, Option, Some, None, refl, ap, sym, ◌∙◌, subst, inl, inr, arith}
use Rattle.std.specs.Prelude.{option_map, option_and_then}
use Rattle.psac_ops.specs.declared.plain.Handle.{Handle}
use Rattle.std.proofs.lemmas.List.Sums.{sum_by-cons}
use Rattle.psac_ops.specs.declared.plain.Plain.{Plain}
use Rattle.psac_ops.specs.declared.plain.Plain.TheVariants as plain
use Rattle.psac_ops.specs.Value.{Value, nil, bool, int, text, ref, pair}
use Rattle.psac_ops.specs.Named.{value_of}
use Rattle.psac_ops.specs.Words.{of_words}
use Rattle.psac_slots.specs.Handles.{Member}
use Rattle.psac_values.specs.declared.view.OwnedView.{OwnedView}
use Rattle.psac_values.specs.declared.view.ValueView.{ValueView}
use Rattle.psac_values.specs.Knowing.{all_words}
use Rattle.psac_laws.proofs.Places.{none_some, some_is, nat_is, nat_same, test_or}
use Rattle.psac_trace.specs.Rights.{Sees}
use Rattle.psac_stage.specs.Holding.{words_in, all_known, value_in, entries}
use Rattle.psac_stage.proofs.Members.{in_counted}

pub then_is : {A B : Type 0} (f : A → Option B) (o : Option A) (y : B) → option_and_then f o ≡ Some y → (z : A) × (o ≡ Some z) × (f z ≡ Some y)
then_is f None y h = absurd (none_some h)
then_is f (Some z) y h = (z, refl, h)

map_is : {A B : Type 0} (f : A → B) (o : Option A) (y : B) → option_map f o ≡ Some y → (z : A) × (o ≡ Some z) × (f z ≡ y)
map_is f None y h = absurd (none_some h)
map_is f (Some z) y h = (z, refl, some_is h)

pub known_is : (ws : List (Option ℕ)) (xs : List ℕ) → all_known ws ≡ Some xs → ws ≡ all_words xs
known_is [] xs h = ap all_words (some_is h)
known_is (None ∷ ws) xs h = absurd (none_some h)
known_is (Some x ∷ ws) xs h =
    let a = map_is (λ (ys : List ℕ). x ∷ ys) (all_known ws) xs h in
    ap (λ z. Some x ∷ z) (known_is ws a.0 a.1) ∙ ap all_words a.2

-- the entry of a slot
pub words_member : (s : ℕ) (mine : List OwnedView) (ws : List (Option ℕ)) → words_in s mine ≡ Some ws → (w : OwnedView) × Member w mine × (w.of.slot ≡ s) × (w.words ≡ ws)
words_member s [] ws h = absurd (none_some h)
words_member s (w ∷ mine) ws h =
    elim (test_or (w.of.slot == s)) [
      | inl t ↦ (let q : Some w.words ≡ Some ws = rw t at h in (w, inl refl, nat_is w.of.slot s t, some_is q))
      | inr t ↦
          (let q : words_in s mine ≡ Some ws = rw t at h in
          let r = words_member s mine ws q in
          (r.0, inr r.1, r.2, r.3))
    ]

pub value_sees : (v : ValueView) (m : Handle) (x : Plain) → ((w : OwnedView) → Member w v.mine → w.of.slot ≡ m.slot → w.of ≡ m) → value_in m.slot v.mine ≡ Some x → Sees v m (value_of x)
value_sees v m x one h =
    let a = then_is of_words (option_and_then all_known (words_in m.slot v.mine)) x h in
    let b = then_is all_known (words_in m.slot v.mine) a.0 a.1 in
    let c = words_member m.slot v.mine b.0 b.1 in
    (a.0, x, inl (c.0, c.1, one c.0 c.1 c.2, c.3 ∙ known_is b.0 a.0 b.2), a.2, refl)

pub known_all : (ws : List ℕ) → all_known (all_words ws) ≡ Some ws
known_all [] = refl
known_all (w ∷ ws) = ap (option_map (λ (xs : List ℕ). w ∷ xs)) (known_all ws)

-- the one entry of a slot
pub one_words : (s : ℕ) (mine : List OwnedView) (o : OwnedView) → entries s mine ≤ 1 → Member o mine → o.of.slot ≡ s → words_in s mine ≡ Some o.words
one_words s [] o h i e = absurd i
one_words s (y ∷ mine) o h (inl q) e =
    let t : (y.of.slot == s) ≡ true = subst (λ (z : OwnedView). (z.of.slot == s) ≡ true) (sym q) (subst (λ z. (o.of.slot == z) ≡ true) e (nat_same o.of.slot)) in
    rw t (ap (λ (z : OwnedView). Some z.words) q)
one_words s (y ∷ mine) o h (inr i) e =
    let c = sum_by-cons (λ (w : OwnedView). cond (w.of.slot == s) 1 0) y mine in
    let n = in_counted (λ (w : OwnedView). w.of.slot == s) mine o i (subst (λ z. (o.of.slot == z) ≡ true) e (nat_same o.of.slot)) in
    elim (test_or (y.of.slot == s)) [
      | inl t ↦ absurd (let z : ◌≡◌ {A = ℕ} (cond (y.of.slot == s) 1 0) 1 = ap (λ b. cond b 1 0) t in omega (arith, c, n, h, z))
      | inr t ↦
          (let z : ◌≡◌ {A = ℕ} (cond (y.of.slot == s) 1 0) 0 = ap (λ b. cond b 1 0) t in
          rw t (one_words s mine o (omega (arith, c, h, z)) i e))
    ]

back : Value Handle → Plain
back nil = plain.Nil
back (bool b) = plain.Bool b
back (int i) = plain.Int i
back (text i k) = plain.Text (record { id = i; len = k })
back (ref m) = plain.Ref m
back (pair m n) = plain.Pair m n

back_is : (x : Plain) → back (value_of x) ≡ x
unfolding back
back_is plain.Nil = refl
back_is (plain.Bool b) = refl
back_is (plain.Int i) = refl
back_is (plain.Text t) = refl
back_is (plain.Ref m) = refl
back_is (plain.Pair m n) = refl

-- a value is told by its names
pub value_one : (x y : Plain) → value_of x ≡ value_of y → x ≡ y
value_one x y h = sym (back_is x) ∙ ap back h ∙ back_is y

pub record Knowing (v : ValueView) (m : Handle) (y : Value Handle) : Type 0 where
  pub value : Plain
  pub known : value_in m.slot v.mine ≡ Some value
  pub is : value_of value ≡ y

pub sees_value : (v : ValueView) (m : Handle) (y : Value Handle) → v.known ≡ [] → entries m.slot v.mine ≤ 1 → Sees v m y → Knowing v m y
sees_value v m y alone few (ws, p, inl (o, i, e, w), k, is) =
    let a : words_in m.slot v.mine ≡ Some (all_words ws) = one_words m.slot v.mine o few i (ap (λ (z : Handle). z.slot) e) ∙ ap Some w in
    record {
      value = p;
      known = ap (λ z. option_and_then of_words (option_and_then all_known z)) a ∙ ap (option_and_then of_words) (known_all ws) ∙ k;
      is = is;
    }
sees_value v m y alone few (ws, p, inr (e, i, r, w), k, is) = absurd (subst (Member e) alone i)
