-- Parameters and what they are bound to.
use Rattle.std.proofs.Common.{◌≡◌, ℕ, ◌==◌, true, false, not, List, [], ◌∷◌, map, Some, Ok, ap, sym, ◌∙◌, subst, inl, inr}
use Rattle.psac_ops.specs.declared.plain.Handle.{Handle}
use Rattle.psac_ops.specs.Value.{Value, ref}
use Rattle.psac_model.specs.Names.{Env, bound, bind}
use Rattle.psac_model.specs.Expression.{in_order}
use Rattle.psac_model.specs.Run.{bound_to, reference, destination}
use Rattle.psac_model.specs.Series.{has}
use Rattle.psac_laws.specs.Standing.{distinct}
use Rattle.psac_laws.proofs.Places.{nat_is, nat_same, and_is, test_or, not_both}
use Rattle.psac_laws.proofs.Rules.{or_is, or_not, or_left, or_right, not_is}
use Rattle.psac_laws.proofs.Values.{Each}
use Rattle.psac_laws.proofs.Results.{ok_is, ok_then}
use Rattle.psac_trace.specs.Rights.{Heap, Named}
use Rattle.psac_trace.proofs.Results.{destination_is, ref_is}
use Rattle.psac_trace.proofs.Bound.{bound_old, bound_new}

-- names that aren't parameters are bound as before
pub to_old : (x : ℕ) (xs : List ℕ) (vs : List (Value Handle)) (base e : Env Handle) → bound_to xs vs base ≡ Ok e → has x xs ≡ false → bound x e ≡ bound x base
to_old x [] [] base e h k = ap (bound x) (sym (ok_is h))
to_old x [] (v ∷ vs) base e h k = absurd cc
to_old x (y ∷ xs) [] base e h k = absurd cc
to_old x (y ∷ xs) (v ∷ vs) base e h k =
    let b = or_not (y == x) (has x xs) k in
    to_old x xs vs (bind y v base) e h b.1 ∙ bound_old y x v base b.0

pub to_known : (h : Heap) (x : ℕ) (xs : List ℕ) (vs : List (Value Handle)) (base e : Env Handle) → Each (Named h) vs → bound_to xs vs base ≡ Ok e → has x xs ≡ true → (v : Value Handle) × (bound x e ≡ Some v) × Named h v
to_known h x [] vs base e k p i = absurd cc
to_known h x (y ∷ xs) [] base e k p i = absurd cc
to_known h x (y ∷ xs) (v ∷ vs) base e k p i =
    elim (test_or (has x xs)) [
      | inl t ↦ to_known h x xs vs (bind y v base) e k.1 p t
      | inr t ↦
          elim (or_is (y == x) (has x xs) i) [
            | inl q ↦ (v, to_old x xs vs (bind y v base) e p t ∙ bound_new y x v base q, k.0)
            | inr q ↦ absurd (not_both q t)
          ]
    ]

-- parameters that stand for destinations, one for one
pub record Linked (env : Env Handle) (ps dests : List ℕ) (e : Env Handle) : Type 0 where
  pub to : (x : ℕ) → has x ps ≡ true → (d : ℕ) × (has d dests ≡ true) × ((m : Handle) × (bound d env ≡ Some (ref m)) × (bound x e ≡ Some (ref m)))
  pub from : (d : ℕ) → has d dests ≡ true → (x : ℕ) × (has x ps ≡ true) × ((m : Handle) × (bound d env ≡ Some (ref m)) × (bound x e ≡ Some (ref m)))
  pub once : (x y : ℕ) (m : Handle) → has x ps ≡ true → has y ps ≡ true → bound x e ≡ Some (ref m) → bound y e ≡ Some (ref m) → x ≡ y

abbrev pub Apart : Env Handle → List ℕ → Type 0
Apart env dests = (c d : ℕ) (m : Handle) → has c dests ≡ true → has d dests ≡ true → bound c env ≡ Some (ref m) → bound d env ≡ Some (ref m) → c ≡ d

pub linked : (env : Env Handle) (ps dests : List ℕ) (ds : List (Value Handle)) (base e : Env Handle) → in_order (map (reference env) dests) ≡ Ok ds → bound_to ps ds base ≡ Ok e → distinct ps ≡ true → distinct dests ≡ true → Apart env dests → Linked env ps dests e
linked env [] [] ds base e o h p q apart = record { to = λ x k. absurd cc; from = λ d k. absurd cc; once = λ x y m k. absurd cc }
linked env [] (d ∷ dests) ds base e o h p q apart =
    let a = ok_then (reference env d) _ ds o in
    let b = ok_then (in_order (map (reference env) dests)) _ ds a.2 in
    absurd (let c : bound_to [] (a.0 ∷ b.0) base ≡ Ok e = subst (λ z. bound_to [] z base ≡ Ok e) (sym (ok_is b.2)) h in cc)
linked env (x ∷ ps) [] ds base e o h p q apart =
    absurd (let c : bound_to (x ∷ ps) [] base ≡ Ok e = subst (λ z. bound_to (x ∷ ps) z base ≡ Ok e) (sym (ok_is o)) h in cc)
linked env (x ∷ ps) (d ∷ dests) ds base e o h p q apart =
    let a = ok_then (reference env d) _ ds o in
    let b = ok_then (in_order (map (reference env) dests)) _ ds a.2 in
    let c : bound_to ps b.0 (bind x a.0 base) ≡ Ok e = subst (λ z. bound_to (x ∷ ps) z base ≡ Ok e) (sym (ok_is b.2)) h in
    let g = ok_then (destination env d) _ a.0 a.1 in
    let is : bound d env ≡ Some (ref g.0) = destination_is env d g.0 g.1 in
    let pd = and_is (not (has x ps)) (distinct ps) p in
    let qd = and_is (not (has d dests)) (distinct dests) q in
    let np : has x ps ≡ false = not_is (has x ps) pd.0 in
    let nq : has d dests ≡ false = not_is (has d dests) qd.0 in
    let r = linked env ps dests b.0 (bind x a.0 base) e b.1 c pd.1 qd.1 (λ c c' m i j. apart c c' m (or_right (d == c) (has c dests) i) (or_right (d == c') (has c' dests) j)) in
    let head : (y : ℕ) → (x == y) ≡ true → bound y e ≡ Some (ref g.0) = λ y t.
    to_old y ps b.0 (bind x a.0 base) e c (subst (λ n. has n ps ≡ false) (nat_is x y t) np)
    ∙ bound_new x y a.0 base t
    ∙ ap Some (sym (ok_is g.2)) in
    let first_only : (y : ℕ) (m : Handle) → has y ps ≡ true → bound y e ≡ Some (ref m) → bound d env ≡ Some (ref m) → ⊥ = λ y m j k l.
    let t = r.to y j in
    let same : t.2.0 ≡ m = ref_is (sym t.2.2 ∙ k) in
    let eq : d ≡ t.0 = apart d t.0 m (or_left (d == d) (has d dests) (nat_same d)) (or_right (d == t.0) (has t.0 dests) t.1) l (t.2.1 ∙ ap (λ n. Some (ref n)) same) in
    not_both t.1 (subst (λ n. has n dests ≡ false) eq nq) in
    record {
      to = λ y k.
          elim (or_is (x == y) (has y ps) k) [
            | inl t ↦ (d, or_left (d == d) (has d dests) (nat_same d), (g.0, is, head y t))
            | inr t ↦ (let u = r.to y t in (u.0, or_right (d == u.0) (has u.0 dests) u.1, u.2))
          ];
      from = λ c k.
          elim (or_is (d == c) (has c dests) k) [
            | inl t ↦ (x, or_left (x == x) (has x ps) (nat_same x), (g.0, subst (λ n. bound n env ≡ Some (ref g.0)) (nat_is d c t) is, head x (nat_same x)))
            | inr t ↦ (let u = r.from c t in (u.0, or_right (x == u.0) (has u.0 ps) u.1, u.2))
          ];
      once = λ y z m i j k l.
          elim (or_is (x == y) (has y ps) i) [
            | inl s ↦
                elim (or_is (x == z) (has z ps) j) [
                  | inl t ↦ sym (nat_is x y s) ∙ nat_is x z t
                  | inr t ↦ absurd (first_only z m t l (is ∙ ap (λ n. Some (ref n)) (ref_is (sym (head y s) ∙ k))))
                ]
            | inr s ↦
                elim (or_is (x == z) (has z ps) j) [
                  | inl t ↦ absurd (first_only y m s k (is ∙ ap (λ n. Some (ref n)) (ref_is (sym (head z t) ∙ l))))
                  | inr t ↦ r.once y z m s t k l
                ]
          ];
    }
