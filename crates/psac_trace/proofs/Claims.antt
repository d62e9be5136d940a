-- What claims add up to in a table, over one call after another and over both sides of a fork.
use Rattle.std.proofs.Common.{◌≡◌, ◌⊎◌, ℕ, zero, suc, ◌+◌, ◌≤◌, ◌<◌, false, List, [], ◌∷◌, ◌++◌, length, drop, take, refl, ap, sym, ◌∙◌, subst, inl, inr, ⊎_elim, arith, length-append}
use Rattle.std.specs.Prelude.{cond, ltb}
use Rattle.std.proofs.lemmas.Grind.{common_steps}
use Rattle.std.proofs.lemmas.Bool.{lt-ltb, ltb-true}
use Rattle.psac_ops.specs.declared.plain.Handle.{Handle}
use Rattle.psac_slots.specs.Branches.{stem}
use Rattle.psac_slots.specs.Handles.{Member}
use Rattle.psac_slots.specs.Claiming.{times, entry, drew, left_of, right_of, joined}
use Rattle.psac_slots.specs.declared.view.ClaimView.{ClaimView}
use Rattle.psac_slots.proofs.Pairs.{member_cases}
use Rattle.psac_slots.proofs.Turns.{stem_push}
use Rattle.psac_laws.proofs.Places.{not_true}
use Rattle.psac_trace.specs.Grown.{MoreClaims}

pub times_append : (x : ℕ) (xs ys : List ℕ) → times x (xs ++ ys) ≡ times x xs + times x ys
times_append x xs ys = grind (arith, common_steps)

pub append_none : {A : Type 0} (xs : List A) → xs ++ [] ≡ xs
append_none [] = refl
append_none (x ∷ xs) = ap (λ z. x ∷ z) (append_none xs)

pub entry_past : {A : Type 0} (list : List A) (n : ℕ) → length list ≤ n → take 1 (drop n list) ≡ []
entry_past [] zero h = refl
entry_past [] (suc n) h = refl
entry_past (x ∷ list) zero h = absurd (omega arith)
entry_past (x ∷ list) (suc n) h = entry_past list n (omega arith)

-- what a claim gives stood in the list
pub entry_in : {A : Type 0} (x : A) (list : List A) (n : ℕ) → Member x (take 1 (drop n list)) → Member x list
entry_in x [] zero h = h
entry_in x [] (suc n) h = h
entry_in x (y ∷ list) zero h = ⊎_elim (λ (e : y ≡ x). inl e) (λ (b : ⊥). absurd b) h
entry_in x (y ∷ list) (suc n) h = inr (entry_in x list n h)

pub claims_none : (c : ClaimView) → MoreClaims c c 0
claims_none c = record { branch = refl; list = refl; count = refl; head = refl; drawn = omega arith; drew = λ k. omega arith; held = λ h i. inl i }

-- nothing of the claims has changed
pub claims_same : (c d : ClaimView) → d ≡ c → MoreClaims c d 0
claims_same c d e = subst (λ z. MoreClaims c z 0) (sym e) (claims_none c)

pub claims_then : (c d e : ClaimView) (m n : ℕ) → MoreClaims c d m → MoreClaims d e n → MoreClaims c e (m + n)
claims_then c d e m n a b =
    record {
      branch = b.branch ∙ a.branch;
      list = b.list ∙ a.list;
      count = b.count ∙ a.count;
      head = b.head ∙ a.head;
      drawn = let p = a.drawn in let q = b.drawn in omega (arith, p, q);
      drew = λ k. let p = a.drew k in let q = b.drew k in omega (arith, p, q);
      held = λ h i. ⊎_elim (λ (j : Member h d.held). a.held h j) (λ (j : Member h d.list). inr (subst (Member h) a.list j)) (b.held h i);
    }

module _ (c : ClaimView) (n : ℕ) where
  drawn_grows : length (drew c n).drawn ≡ length c.drawn + 1
  drawn_grows = length-append c.drawn (n ∷ [])

  drew_grows : (k : ℕ) → times k c.drawn ≤ times k (drew c n).drawn
  drew_grows k = let a = times_append k c.drawn (n ∷ []) in omega (arith, a)

  held_from : (h : Handle) → Member h (drew c n).held → Member h c.held ⊎ Member h c.list
  held_from h i =
      ⊎_elim (λ (j : Member h c.held). inl j) (λ (j : Member h (entry c.list n)). inr (entry_in h c.list n j)) (member_cases h c.held (entry c.list n) i)

  -- a claim
  pub claims_drew : n < length c.list → MoreClaims c (drew c n) 1
  claims_drew l =
      let z : (drew c n).over ≡ c.over + 0 = ap (λ b. c.over + cond b 0 1) (lt-ltb n (length c.list) l) in
      let d = drawn_grows in
      record { branch = refl; list = refl; count = refl; head = refl; drawn = omega (arith, z, d); drew = drew_grows; held = held_from }

  -- a claim in vain
  pub over_past : length c.list ≤ n → (drew c n).over ≡ c.over + 1
  over_past l = ap (λ b. c.over + cond b 0 1) (not_true (ltb n (length c.list)) (λ t. let q = ltb-true n (length c.list) t in omega (arith, q, l)))

  pub claims_past : length c.list ≤ n → MoreClaims c (drew c n) 0
  claims_past l =
      let z = over_past l in
      let d = drawn_grows in
      record { branch = refl; list = refl; count = refl; head = refl; drawn = omega (arith, z, d); drew = drew_grows; held = held_from }

  pub drawn_more : times n c.drawn < times n (drew c n).drawn
  drawn_more =
      let a = times_append n c.drawn (n ∷ []) in
      let b : times n (n ∷ []) ≡ 1 = grind (arith, common_steps) in
      omega (arith, a, b)

-- both sides of a fork
pub claims_joined : (c l r j : ClaimView) (a b : ℕ) → j ≡ joined l r → MoreClaims (left_of c) l a → MoreClaims (right_of c) r b → MoreClaims c j (a + b)
claims_joined c l r j a b is ml mr =
    subst (λ z. MoreClaims c z (a + b)) (sym is)
    (record {
      branch = ap stem ml.branch ∙ stem_push c.branch false;
      list = ml.list;
      count = ml.count;
      head = ml.head;
      drawn =
          let p = ml.drawn in
          let q = mr.drawn in
          let d = length-append l.drawn r.drawn in
          let z : length (right_of c).drawn ≡ 0 = refl in
          omega (arith, p, q, d, z);
      drew = λ k. let p = ml.drew k in let q = times_append k l.drawn r.drawn in omega (arith, p, q);
      held = λ h i.
          ⊎_elim
          (λ (x : Member h l.held). ml.held h x)
          (λ (x : Member h r.held). ⊎_elim (λ (y : ⊥). absurd y) (λ (y : Member h c.list). inr y) (mr.held h x))
          (member_cases h l.held r.held i);
    })

-- what is drawn on a side is drawn after the join
pub drawn_left : (c l r j : ClaimView) (k : ℕ) → j ≡ joined l r → times k c.drawn < times k l.drawn → times k c.drawn < times k j.drawn
drawn_left c l r j k is h = let p = times_append k l.drawn r.drawn in let q = ap (λ (z : ClaimView). times k z.drawn) is in omega (arith, h, p, q)

pub drawn_right : (c l r j : ClaimView) (k : ℕ) → j ≡ joined l r → times k c.drawn ≤ times k l.drawn → 0 < times k r.drawn → times k c.drawn < times k j.drawn
drawn_right c l r j k is h o = let p = times_append k l.drawn r.drawn in let q = ap (λ (z : ClaimView). times k z.drawn) is in omega (arith, h, o, p, q)
