-- An operator gives values that are alike for values that are alike.
use Rattle.std.proofs.Common.{◌≡◌, ℤ, pos, negsuc, zero, suc, Bool, true, false, not, ◌&&◌, ◌||◌, if◌then◌else◌, List, [], ◌∷◌, Result, Ok, Err, refl, ap, ◌∙◌, subst}
use Rattle.std.specs.Prelude.{ℕ, ◌+ℤ◌, ◌-ℤ◌, ◌*ℤ◌, int_div, int_lt, int_le, nat_abs, neg_ℤ}
use Rattle.std.specs.Ordering.{int_eq}
use Rattle.psac_ops.specs.declared.op.Op.{Op}
use Rattle.psac_ops.specs.declared.op.Op.TheVariants as op
use Rattle.psac_ops.specs.declared.op.OpFault.{OpFault}
use Rattle.psac_ops.specs.Value.{Value, nil, bool, int, text, ref, pair}
use Rattle.psac_ops.specs.Table.{applied, of_one, of_two, fits_64, in_64, as_int, as_bool, as_ref, as_pair, as_len, ints, bools, same_bool, same_value, quotient_of, remainder_of}
use Rattle.psac_naming.specs.Alike.{Agree, Each, Alike, Tests}
use Rattle.psac_naming.proofs.Agrees.{agree_then}

abbrev pub Same : {A : Type 0} → A → A → Type 0
Same x y = x ≡ y

module _ {M N : Type 0} (T : M → N → Type 0) where
  abbrev pub TwoTied : M × M → N × N → Type 0
  TwoTied a b = T a.0 b.0 × T a.1 b.1

  pub as_int_alike : (v : Value M) (u : Value N) → Alike T v u → Agree Same (as_int v) (as_int u)
  as_int_alike nil nil h = refl
  as_int_alike (bool a) (bool b) h = refl
  as_int_alike (int a) (int b) h = h
  as_int_alike (text i k) (text j l) h = refl
  as_int_alike (ref m) (ref n) h = refl
  as_int_alike (pair k l) (pair m n) h = refl
  as_int_alike _ _ h = absurd h

  as_bool_alike : (v : Value M) (u : Value N) → Alike T v u → Agree Same (as_bool v) (as_bool u)
  as_bool_alike nil nil h = refl
  as_bool_alike (bool a) (bool b) h = h
  as_bool_alike (int a) (int b) h = refl
  as_bool_alike (text i k) (text j l) h = refl
  as_bool_alike (ref m) (ref n) h = refl
  as_bool_alike (pair k l) (pair m n) h = refl
  as_bool_alike _ _ h = absurd h

  as_ref_alike : (v : Value M) (u : Value N) → Alike T v u → Agree T (as_ref v) (as_ref u)
  as_ref_alike nil nil h = refl
  as_ref_alike (bool a) (bool b) h = refl
  as_ref_alike (int a) (int b) h = refl
  as_ref_alike (text i k) (text j l) h = refl
  as_ref_alike (ref m) (ref n) h = h
  as_ref_alike (pair k l) (pair m n) h = refl
  as_ref_alike _ _ h = absurd h

  as_pair_alike : (v : Value M) (u : Value N) → Alike T v u → Agree TwoTied (as_pair v) (as_pair u)
  as_pair_alike nil nil h = refl
  as_pair_alike (bool a) (bool b) h = refl
  as_pair_alike (int a) (int b) h = refl
  as_pair_alike (text i k) (text j l) h = refl
  as_pair_alike (ref m) (ref n) h = refl
  as_pair_alike (pair k l) (pair m n) h = h
  as_pair_alike _ _ h = absurd h

  as_len_alike : (v : Value M) (u : Value N) → Alike T v u → Agree Same (as_len v) (as_len u)
  as_len_alike nil nil h = refl
  as_len_alike (bool a) (bool b) h = refl
  as_len_alike (int a) (int b) h = refl
  as_len_alike (text i k) (text j l) h = h.1
  as_len_alike (ref m) (ref n) h = refl
  as_len_alike (pair k l) (pair m n) h = refl
  as_len_alike _ _ h = absurd h

  in_64_alike : (i : ℤ) → Agree (Alike T) (in_64 i) (in_64 i)
  in_64_alike i = elim (fits_64 i) as (λ b. Agree (Alike T) (if b then Ok (int i) else Err OpFault.Overflow) (if b then Ok (int i) else Err OpFault.Overflow)) [ true ↦ refl | false ↦ refl ]

  quotient_alike : (a b : ℤ) → Agree (Alike T) (quotient_of a b) (quotient_of a b)
  quotient_alike a (pos zero) = refl
  quotient_alike a (pos (suc n)) = in_64_alike (int_div a (pos (suc n)))
  quotient_alike a (negsuc n) = in_64_alike (int_div a (negsuc n))

  remainder_alike : (a b : ℤ) → Agree (Alike T) (remainder_of a b) (remainder_of a b)
  remainder_alike a (pos zero) = refl
  remainder_alike a (pos (suc n)) = refl
  remainder_alike a (negsuc zero) = refl
  remainder_alike a (negsuc (suc n)) = refl

  -- the same whole numbers give values that are alike
  ints_alike : (f : ℤ → ℤ → Result (Value M) OpFault) (g : ℤ → ℤ → Result (Value N) OpFault) → ((a b : ℤ) → Agree (Alike T) (f a b) (g a b)) → (v x : Value M) (u y : Value N) → Alike T v u → Alike T x y → Agree (Alike T) (ints f v x) (ints g u y)
  ints_alike f g t v x u y h k =
      agree_then Same (Alike T) (as_int v) (as_int u) _ _ (as_int_alike v u h) (λ a b e.
      agree_then Same (Alike T) (as_int x) (as_int y) _ _ (as_int_alike x y k) (λ c d q.
      subst (λ z. Agree (Alike T) (f a c) (g z d)) e (subst (λ z. Agree (Alike T) (f a c) (g a z)) q (t a c))))

  bools_alike : (f : Bool → Bool → Bool) → (v x : Value M) (u y : Value N) → Alike T v u → Alike T x y → Agree (Alike T) (bools f v x) (bools f u y)
  bools_alike f v x u y h k =
      agree_then Same (Alike T) (as_bool v) (as_bool u) _ _ (as_bool_alike v u h) (λ a b e.
      agree_then Same (Alike T) (as_bool x) (as_bool y) _ _ (as_bool_alike x y k) (λ c d q. ap (λ z. f z c) e ∙ ap (f b) q))

  module _ (p : M → M → Bool) (q : N → N → Bool) (tests : Tests T p q) where
    same_nil : (x : Value M) (y : Value N) → Alike T x y → same_value p nil x ≡ same_value q nil y
    same_nil nil nil k = refl
    same_nil (bool c) (bool d) k = refl
    same_nil (int c) (int d) k = refl
    same_nil (text i l) (text j m) k = refl
    same_nil (ref m) (ref n) k = refl
    same_nil (pair l m) (pair n o) k = refl
    same_nil _ _ k = absurd k

    same_bools : (a b : Bool) (x : Value M) (y : Value N) → a ≡ b → Alike T x y → same_value p (bool a) x ≡ same_value q (bool b) y
    same_bools a b nil nil h k = refl
    same_bools a b (bool c) (bool d) h k = ap (λ z. same_bool z c) h ∙ ap (same_bool b) k
    same_bools a b (int c) (int d) h k = refl
    same_bools a b (text i l) (text j m) h k = refl
    same_bools a b (ref m) (ref n) h k = refl
    same_bools a b (pair l m) (pair n o) h k = refl
    same_bools a b _ _ h k = absurd k

    same_ints : (a b : ℤ) (x : Value M) (y : Value N) → a ≡ b → Alike T x y → same_value p (int a) x ≡ same_value q (int b) y
    same_ints a b nil nil h k = refl
    same_ints a b (bool c) (bool d) h k = refl
    same_ints a b (int c) (int d) h k = ap (λ z. int_eq z c) h ∙ ap (int_eq b) k
    same_ints a b (text i l) (text j m) h k = refl
    same_ints a b (ref m) (ref n) h k = refl
    same_ints a b (pair l m) (pair n o) h k = refl
    same_ints a b _ _ h k = absurd k

    same_texts : (a b c d : ℕ) (x : Value M) (y : Value N) → (a ≡ b) × (c ≡ d) → Alike T x y → same_value p (text a c) x ≡ same_value q (text b d) y
    same_texts a b c d nil nil h k = refl
    same_texts a b c d (bool e) (bool f) h k = refl
    same_texts a b c d (int e) (int f) h k = refl
    same_texts a b c d (text i l) (text j m) h k = rw (h.0, h.1, k.0, k.1) refl
    same_texts a b c d (ref m) (ref n) h k = refl
    same_texts a b c d (pair l m) (pair n o) h k = refl
    same_texts a b c d _ _ h k = absurd k

    same_refs : (a : M) (b : N) (x : Value M) (y : Value N) → T a b → Alike T x y → same_value p (ref a) x ≡ same_value q (ref b) y
    same_refs a b nil nil h k = refl
    same_refs a b (bool c) (bool d) h k = refl
    same_refs a b (int c) (int d) h k = refl
    same_refs a b (text i l) (text j m) h k = refl
    same_refs a b (ref m) (ref n) h k = tests a m b n h k
    same_refs a b (pair l m) (pair n o) h k = refl
    same_refs a b _ _ h k = absurd k

    same_pairs : (a c : M) (b d : N) (x : Value M) (y : Value N) → T a b × T c d → Alike T x y → same_value p (pair a c) x ≡ same_value q (pair b d) y
    same_pairs a c b d nil nil h k = refl
    same_pairs a c b d (bool e) (bool f) h k = refl
    same_pairs a c b d (int e) (int f) h k = refl
    same_pairs a c b d (text i l) (text j m) h k = refl
    same_pairs a c b d (ref m) (ref n) h k = refl
    same_pairs a c b d (pair l m) (pair n o) h k = ap (λ z. z && p c m) (tests a l b n h.0 k.0) ∙ ap (λ z. q b n && z) (tests c m d o h.1 k.1)
    same_pairs a c b d _ _ h k = absurd k

    pub same_value_alike : (v x : Value M) (u y : Value N) → Alike T v u → Alike T x y → same_value p v x ≡ same_value q u y
    same_value_alike nil x nil y h k = same_nil x y k
    same_value_alike (bool a) x (bool b) y h k = same_bools a b x y h k
    same_value_alike (int a) x (int b) y h k = same_ints a b x y h k
    same_value_alike (text a c) x (text b d) y h k = same_texts a b c d x y h k
    same_value_alike (ref a) x (ref b) y h k = same_refs a b x y h k
    same_value_alike (pair a c) x (pair b d) y h k = same_pairs a c b d x y h k
    same_value_alike _ x _ y h k = absurd h

    two_alike : (o : Op) (v x : Value M) (u y : Value N) → Alike T v u → Alike T x y → Agree (Alike T) (of_two p o v x) (of_two q o u y)
    two_alike op.Add v x u y h k = ints_alike (λ a b. in_64 (a +ℤ b)) (λ a b. in_64 (a +ℤ b)) (λ a b. in_64_alike (a +ℤ b)) v x u y h k
    two_alike op.Sub v x u y h k = ints_alike (λ a b. in_64 (a -ℤ b)) (λ a b. in_64 (a -ℤ b)) (λ a b. in_64_alike (a -ℤ b)) v x u y h k
    two_alike op.Mul v x u y h k = ints_alike (λ a b. in_64 (a *ℤ b)) (λ a b. in_64 (a *ℤ b)) (λ a b. in_64_alike (a *ℤ b)) v x u y h k
    two_alike op.Div v x u y h k = ints_alike quotient_of quotient_of quotient_alike v x u y h k
    two_alike op.Rem v x u y h k = ints_alike remainder_of remainder_of remainder_alike v x u y h k
    two_alike op.Eq v x u y h k = same_value_alike v x u y h k
    two_alike op.Ne v x u y h k = ap not (same_value_alike v x u y h k)
    two_alike op.Lt v x u y h k = ints_alike (λ a b. Ok (bool (int_lt a b))) (λ a b. Ok (bool (int_lt a b))) (λ a b. refl) v x u y h k
    two_alike op.Le v x u y h k = ints_alike (λ a b. Ok (bool (int_le a b))) (λ a b. Ok (bool (int_le a b))) (λ a b. refl) v x u y h k
    two_alike op.Gt v x u y h k = ints_alike (λ a b. Ok (bool (int_lt b a))) (λ a b. Ok (bool (int_lt b a))) (λ a b. refl) v x u y h k
    two_alike op.Ge v x u y h k = ints_alike (λ a b. Ok (bool (int_le b a))) (λ a b. Ok (bool (int_le b a))) (λ a b. refl) v x u y h k
    two_alike op.And v x u y h k = bools_alike (λ a b. a && b) v x u y h k
    two_alike op.Or v x u y h k = bools_alike (λ a b. a || b) v x u y h k
    two_alike op.Min v x u y h k = ints_alike (λ a b. Ok (int (if int_le a b then a else b))) (λ a b. Ok (int (if int_le a b then a else b))) (λ a b. refl) v x u y h k
    two_alike op.Max v x u y h k = ints_alike (λ a b. Ok (int (if int_le a b then b else a))) (λ a b. Ok (int (if int_le a b then b else a))) (λ a b. refl) v x u y h k
    two_alike op.Pair v x u y h k =
        agree_then T (Alike T) (as_ref v) (as_ref u) _ _ (as_ref_alike v u h) (λ m n i.
        agree_then T (Alike T) (as_ref x) (as_ref y) _ _ (as_ref_alike x y k) (λ a b j. (i, j)))
    two_alike _ v x u y h k = refl

    one_alike : (o : Op) (v : Value M) (u : Value N) → Alike T v u → Agree (Alike T) (of_one o v) (of_one o u)
    one_alike op.Not v u h = agree_then Same (Alike T) (as_bool v) (as_bool u) _ _ (as_bool_alike v u h) (λ a b e. ap not e)
    one_alike op.Neg v u h =
        agree_then Same (Alike T) (as_int v) (as_int u) _ _ (as_int_alike v u h) (λ a b e.
        subst (λ z. Agree (Alike T) (in_64 (neg_ℤ a)) (in_64 (neg_ℤ z))) e (in_64_alike (neg_ℤ a)))
    one_alike op.Abs v u h =
        agree_then Same (Alike T) (as_int v) (as_int u) _ _ (as_int_alike v u h) (λ a b e.
        subst (λ z. Agree (Alike T) (in_64 (pos (nat_abs a))) (in_64 (pos (nat_abs z)))) e (in_64_alike (pos (nat_abs a))))
    one_alike op.Len v u h = agree_then Same (Alike T) (as_len v) (as_len u) _ _ (as_len_alike v u h) (λ a b e. ap pos e)
    one_alike op.Fst v u h = agree_then TwoTied (Alike T) (as_pair v) (as_pair u) _ _ (as_pair_alike v u h) (λ a b e. e.0)
    one_alike op.Snd v u h = agree_then TwoTied (Alike T) (as_pair v) (as_pair u) _ _ (as_pair_alike v u h) (λ a b e. e.1)
    one_alike _ v u h = refl

    pub applied_alike : (o : Op) (vs : List (Value M)) (us : List (Value N)) → Each (Alike T) vs us → Agree (Alike T) (applied p o vs) (applied q o us)
    applied_alike o [] [] h = refl
    applied_alike o (v ∷ []) (u ∷ []) h = one_alike o v u h.0
    applied_alike o (v ∷ w ∷ []) (u ∷ x ∷ []) h = two_alike o v w u x h.0 h.1.0
    applied_alike o (v ∷ w ∷ y ∷ vs) (u ∷ x ∷ z ∷ us) h = refl
    applied_alike o [] (u ∷ us) h = absurd h
    applied_alike o (v ∷ vs) [] h = absurd h
    applied_alike o (v ∷ []) (u ∷ x ∷ us) h = absurd h.1
    applied_alike o (v ∷ w ∷ vs) (u ∷ []) h = absurd h.1
    applied_alike o (v ∷ w ∷ []) (u ∷ x ∷ z ∷ us) h = absurd h.1.1
    applied_alike o (v ∷ w ∷ y ∷ vs) (u ∷ x ∷ []) h = absurd h.1.1
