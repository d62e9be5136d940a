-- Members of lists, and facts of each pair of two places.
use Rattle.psac_slots.proofs.Terms.{◌≡◌, ◌≢◌, ◌⊎◌, ℕ, zero, suc, ◌<◌, ◌≤◌, List, [], ◌∷◌, ◌++◌, map, length, set, take, drop, Bool, true, false, true≢false, cond, refl, sym, ap, ◌∙◌, subst, inl, inr, ⊎_elim, arith, filter, some, some-ne-none, some-injective, get_elem?, at_set, at_snoc, Member}
use Rattle.psac_slots.proofs.Sums.{all_set, at_new}

module _ {A : Type 0} where
  pub member_left : (x : A) (xs ys : List A) → Member x xs → Member x (xs ++ ys)
  member_left x [] ys h = absurd h
  member_left x (z ∷ xs) ys h = ⊎_elim (λ e. inl e) (λ r. inr (member_left x xs ys r)) h

  pub member_right : (x : A) (xs ys : List A) → Member x ys → Member x (xs ++ ys)
  member_right x [] ys h = h
  member_right x (z ∷ xs) ys h = inr (member_right x xs ys h)

  pub member_cases : (x : A) (xs ys : List A) → Member x (xs ++ ys) → Member x xs ⊎ Member x ys
  member_cases x [] ys h = inr h
  member_cases x (z ∷ xs) ys h = ⊎_elim (λ e. inl (inl e)) (λ r. ⊎_elim (λ a. inl (inr a)) (λ b. inr b) (member_cases x xs ys r)) h

  filter_one : (f : A → Bool) (x y : A) (ys fs : List A) → (Member x fs → Member x ys × (f x ≡ true)) → (b : Bool) → f y ≡ b → Member x (cond b (y ∷ fs) fs) → Member x (y ∷ ys) × (f x ≡ true)
  filter_one f x y ys fs more true is h = ⊎_elim (λ (e : y ≡ x). (inl e, ap f (sym e) ∙ is)) (λ r. let q = more r in (inr q.0, q.1)) h
  filter_one f x y ys fs more false is h = let q = more h in (inr q.0, q.1)

  pub member_filter : (f : A → Bool) (x : A) (ys : List A) → Member x (filter f ys) → Member x ys × (f x ≡ true)
  member_filter f x [] h = absurd h
  member_filter f x (y ∷ ys) h = filter_one f x y ys (filter f ys) (λ r. member_filter f x ys r) (f y) refl h

  filter_in : (f : A → Bool) (x y : A) (fs : List A) → f x ≡ true → ((y ≡ x) ⊎ Member x fs) → (b : Bool) → f y ≡ b → Member x (cond b (y ∷ fs) fs)
  filter_in f x y fs t h true is = h
  filter_in f x y fs t h false is = ⊎_elim (λ (e : y ≡ x). absurd (true≢false (sym t ∙ (ap f (sym e) ∙ is)))) (λ r. r) h

  pub filter_member : (f : A → Bool) (x : A) (ys : List A) → Member x ys → f x ≡ true → Member x (filter f ys)
  filter_member f x [] h t = absurd h
  filter_member f x (y ∷ ys) h t = filter_in f x y (filter f ys) t (⊎_elim (λ e. inl e) (λ r. inr (filter_member f x ys r t)) h) (f y) refl

  pub one_after : (F : A → Type 0) (views : List A) (id : ℕ) (l r : A)
      → ((j : ℕ) (u : A) → get_elem? views j ≡ some u → F u) → F l → F r → (j : ℕ) (u : A) → get_elem? (set views id l ++ r ∷ []) j ≡ some u → F u
  one_after F views id l r old fl fr j u e = ⊎_elim
      (λ x. all_set (λ _ y. F y) views id l fl (λ i y n d. old i y d) j u x)
      (λ (x : r ≡ u). subst F x fr)
      (at_snoc (set views id l) r u j e)

  -- a fact of each pair of two places, after one view changed
  pub pairs_set : (F : A → A → Type 0) (views : List A) (id : ℕ) (l : A)
      → ((i j : ℕ) (v u : A) → get_elem? views i ≡ some v → get_elem? views j ≡ some u → i ≢ j → F v u)
      → ((j : ℕ) (u : A) → j ≢ id → get_elem? views j ≡ some u → F l u × F u l)
      → (i j : ℕ) (v u : A) → get_elem? (set views id l) i ≡ some v → get_elem? (set views id l) j ≡ some u → i ≢ j → F v u
  pairs_set F views id l old beside i j v u ei ej n =
      ⊎_elim
      (λ (a : (i ≡ id) × (l ≡ v)). ⊎_elim
      (λ (b : (j ≡ id) × (l ≡ u)). absurd (n (a.0 ∙ sym b.0)))
      (λ (b : (j ≢ id) × (get_elem? views j ≡ some u)). subst (λ z. F z u) a.1 (beside j u b.0 b.1).0)
      (at_set views id j l u ej))
      (λ (a : (i ≢ id) × (get_elem? views i ≡ some v)). ⊎_elim
      (λ (b : (j ≡ id) × (l ≡ u)). subst (λ z. F v z) b.1 (beside i v a.0 a.1).1)
      (λ (b : (j ≢ id) × (get_elem? views j ≡ some u)). old i j v u a.1 b.1 n)
      (at_set views id j l u ej))
      (at_set views id i l v ei)

  -- and after one more came
  pub pairs_end : (F : A → A → Type 0) (views : List A) (r : A)
      → ((i j : ℕ) (v u : A) → get_elem? views i ≡ some v → get_elem? views j ≡ some u → i ≢ j → F v u)
      → ((j : ℕ) (u : A) → get_elem? views j ≡ some u → F r u × F u r)
      → (i j : ℕ) (v u : A) → get_elem? (views ++ r ∷ []) i ≡ some v → get_elem? (views ++ r ∷ []) j ≡ some u → i ≢ j → F v u
  pairs_end F views r old beside i j v u ei ej n =
      ⊎_elim
      (λ (x : (i < length views) × (get_elem? views i ≡ some v)). ⊎_elim
      (λ (y : (j < length views) × (get_elem? views j ≡ some u)). old i j v u x.1 y.1 n)
      (λ (y : (j ≡ length views) × (r ≡ u)). subst (λ z. F v z) y.1 (beside i v x.1).1)
      (at_new views r u j ej))
      (λ (x : (i ≡ length views) × (r ≡ v)). ⊎_elim
      (λ (y : (j < length views) × (get_elem? views j ≡ some u)). subst (λ z. F z u) x.1 (beside j u y.1).0)
      (λ (y : (j ≡ length views) × (r ≡ u)). absurd (n (x.0 ∙ sym y.0)))
      (at_new views r u j ej))
      (at_new views r v i ei)

pub member_map : {A B : Type 0} (f : A → B) (z : B) (xs : List A) → Member z (map f xs) → (x : A) × Member x xs × (f x ≡ z)
member_map f z [] h = absurd h
member_map f z (x ∷ xs) h = ⊎_elim (λ e. (x, inl refl, e)) (λ r. let q = member_map f z xs r in (q.0, inr q.1, q.2)) h

pub map_member : {A B : Type 0} (f : A → B) (x : A) (xs : List A) → Member x xs → Member (f x) (map f xs)
map_member f x [] h = absurd h
map_member f x (y ∷ xs) h = ⊎_elim (λ e. inl (ap f e)) (λ r. inr (map_member f x xs r)) h

pub entry_at : {A : Type 0} (l : List A) (n : ℕ) (x : A) → Member x (take 1 (drop n l)) → get_elem? l n ≡ some x
entry_at [] zero x m = absurd m
entry_at [] (suc n) x m = absurd m
entry_at (y ∷ l) zero x m = ⊎_elim (λ e. ap some e) (λ b. absurd b) m
entry_at (y ∷ l) (suc n) x m = entry_at l n x m

pub later_member : {A : Type 0} (l : List A) (c k : ℕ) (x : A) → c ≤ k → get_elem? l k ≡ some x → Member x (drop c l)
later_member [] c k x le e = absurd (some-ne-none x (sym e))
later_member (y ∷ l) zero zero x le e = inl (some-injective y x e)
later_member (y ∷ l) zero (suc k) x le e = inr (later_member l zero k x (omega arith) e)
later_member (y ∷ l) (suc c) zero x le e = absurd (omega arith)
later_member (y ∷ l) (suc c) (suc k) x le e = later_member l c k x (omega arith) e
