-- The names that are read off a record are one to one.
use Rattle.std.proofs.Common.{◌≢◌, ℕ, [], ◌∷◌, ◌++◌, refl, ap, sym, ◌∙◌, subst, inl, inr, arith, append-nil}
use Rattle.psac_model.specs.Names.{Path, Name, Made}
use Rattle.psac_naming.specs.Naming.{Naming, IsNamed, IsOneToOne, Unused, IsUnder}
use Rattle.psac_naming.proofs.Names.{made_is, turns_differ, longer}
use Rattle.psac_naming.proofs.Namings.{named_left, named_right, named_either, wider}
use Rattle.psac_traced.specs.Rec.{Rec, E, A, W, S, P, R}
use Rattle.psac_traced.specs.Renamed.{Recs, Tied, IsOnly}
use Rattle.psac_traced.specs.Places.{Placed, names, Makes, IsApart}

zero_is_not_one : (let zero_number : ℕ = 0 in zero_number ≢ 1)
zero_is_not_one e = omega arith

-- a name isn't under both turns of one path
turns_apart : (p : Path) (n : Name) → IsUnder (p ++ 0 ∷ []) n → IsUnder (p ++ 1 ∷ []) n → ⊥
turns_apart p n h k = turns_differ p h.0 k.0 0 1 zero_is_not_one (made_is ((p ++ 0 ∷ []) ++ h.0) ((p ++ 1 ∷ []) ++ k.0) (sym h.1 ∙ k.1))

module _ {M : Type 0} where
  pub names_under : (p : Path) (r : Rec M) (m : M) (n : Name) → IsNamed (names p r) m n → IsUnder p n
  names_under p E m n h = absurd h
  names_under p (A k r) m n (inl h) = ([], sym h.1 ∙ ap Made (sym (append-nil p)))
  names_under p (A k r) m n (inr h) = wider p (3 ∷ []) n (names_under (p ++ 3 ∷ []) r m n h)
  names_under p (W k v r) m n h = wider p (3 ∷ []) n (names_under (p ++ 3 ∷ []) r m n h)
  names_under p (S t r) m n h =
      elim (named_either (names (p ++ 0 ∷ []) t) (names (p ++ 1 ∷ []) r) m n h) [
        | inl i ↦ wider p (0 ∷ []) n (names_under (p ++ 0 ∷ []) t m n i)
        | inr i ↦ wider p (1 ∷ []) n (names_under (p ++ 1 ∷ []) r m n i)
      ]
  names_under p (P t r) m n h =
      elim (named_either (names (p ++ 0 ∷ []) t) (names (p ++ 1 ∷ []) r) m n h) [
        | inl i ↦ wider p (0 ∷ []) n (names_under (p ++ 0 ∷ []) t m n i)
        | inr i ↦ wider p (1 ∷ []) n (names_under (p ++ 1 ∷ []) r m n i)
      ]
  names_under p (R room block env reads t) m n h = wider p (2 ∷ []) n (names_under (p ++ 2 ∷ []) t m n h)

  -- what has a name was made
  pub names_made : (p : Path) (r : Rec M) (m : M) (n : Name) → IsNamed (names p r) m n → Makes r m
  names_made p E m n h = absurd h
  names_made p (A k r) m n (inl h) = inl h.0
  names_made p (A k r) m n (inr h) = inr (names_made (p ++ 3 ∷ []) r m n h)
  names_made p (W k v r) m n h = names_made (p ++ 3 ∷ []) r m n h
  names_made p (S t r) m n h =
      elim (named_either (names (p ++ 0 ∷ []) t) (names (p ++ 1 ∷ []) r) m n h) [
        | inl i ↦ inl (names_made (p ++ 0 ∷ []) t m n i)
        | inr i ↦ inr (names_made (p ++ 1 ∷ []) r m n i)
      ]
  names_made p (P t r) m n h =
      elim (named_either (names (p ++ 0 ∷ []) t) (names (p ++ 1 ∷ []) r) m n h) [
        | inl i ↦ inl (names_made (p ++ 0 ∷ []) t m n i)
        | inr i ↦ inr (names_made (p ++ 1 ∷ []) r m n i)
      ]
  names_made p (R room block env reads t) m n h = names_made (p ++ 2 ∷ []) t m n h

  -- what was made has a name
  pub made_named : (p : Path) (r : Rec M) (m : M) → Makes r m → (n : Name) × IsNamed (names p r) m n
  made_named p E m h = absurd h
  made_named p (A k r) m (inl h) = (Made p, inl (h, refl))
  made_named p (A k r) m (inr h) = let i = made_named (p ++ 3 ∷ []) r m h in (i.0, inr i.1)
  made_named p (W k v r) m h = made_named (p ++ 3 ∷ []) r m h
  made_named p (S t r) m (inl h) = let i = made_named (p ++ 0 ∷ []) t m h in (i.0, named_left (names (p ++ 0 ∷ []) t) (names (p ++ 1 ∷ []) r) m i.0 i.1)
  made_named p (S t r) m (inr h) = let i = made_named (p ++ 1 ∷ []) r m h in (i.0, named_right (names (p ++ 0 ∷ []) t) (names (p ++ 1 ∷ []) r) m i.0 i.1)
  made_named p (P t r) m (inl h) = let i = made_named (p ++ 0 ∷ []) t m h in (i.0, named_left (names (p ++ 0 ∷ []) t) (names (p ++ 1 ∷ []) r) m i.0 i.1)
  made_named p (P t r) m (inr h) = let i = made_named (p ++ 1 ∷ []) r m h in (i.0, named_right (names (p ++ 0 ∷ []) t) (names (p ++ 1 ∷ []) r) m i.0 i.1)
  made_named p (R room block env reads t) m h = made_named (p ++ 2 ∷ []) t m h

  -- two one-to-one namings that share no modifiable and no name
  pub one_both : (a b : Naming M) → IsOneToOne a → IsOneToOne b → ((m : M) (n l : Name) → IsNamed a m n → IsNamed b m l → ⊥) → ((m k : M) (n : Name) → IsNamed a m n → IsNamed b k n → ⊥) → IsOneToOne (a ++ b)
  one_both a b one two apart names_apart m k n l h i =
      elim (named_either a b m n h) [
        | inl p ↦
            elim (named_either a b k l i) [
              | inl q ↦ one m k n l p q
              | inr q ↦ ((λ e. absurd (apart k n l (subst (λ z. IsNamed a z n) e p) q)), (λ e. absurd (names_apart m k l (subst (IsNamed a m) e p) q)))
            ]
        | inr p ↦
            elim (named_either a b k l i) [
              | inl q ↦ ((λ e. absurd (apart m l n (subst (λ z. IsNamed a z l) (sym e) q) p)), (λ e. absurd (names_apart k m n (subst (IsNamed a k) (sym e) q) p)))
              | inr q ↦ two m k n l p q
            ]
      ]

  one_pair : (m : M) (n : Name) → IsOneToOne ((m, n) ∷ [])
  one_pair m n k l i j (inl h) (inl g) = ((λ e. sym h.1 ∙ g.1), (λ e. sym h.0 ∙ g.0))
  one_pair m n k l i j (inr h) g = absurd h
  one_pair m n k l i j (inl h) (inr g) = absurd g

  names_two : (p : Path) (t r : Rec M) → IsOneToOne (names (p ++ 0 ∷ []) t) → IsOneToOne (names (p ++ 1 ∷ []) r) → ((m : M) → Makes t m → Makes r m → ⊥) → IsOneToOne (names (p ++ 0 ∷ []) t ++ names (p ++ 1 ∷ []) r)
  names_two p t r one two apart =
      one_both (names (p ++ 0 ∷ []) t) (names (p ++ 1 ∷ []) r) one two
      (λ m n l i j. apart m (names_made (p ++ 0 ∷ []) t m n i) (names_made (p ++ 1 ∷ []) r m l j))
      (λ m k n i j. turns_apart p n (names_under (p ++ 0 ∷ []) t m n i) (names_under (p ++ 1 ∷ []) r k n j))

  -- a record that made nothing twice
  names_one : (p : Path) (r : Rec M) → IsApart r → IsOneToOne (names p r)
  names_one p E h = λ m k n l i j. absurd i
  names_one p (A m r) h =
      one_both ((m, Made p) ∷ []) (names (p ++ 3 ∷ []) r) (one_pair m (Made p)) (names_one (p ++ 3 ∷ []) r h.1)
      (λ k n l i j. elim i [ inl e ↦ h.0 (subst (Makes r) (sym e.0) (names_made (p ++ 3 ∷ []) r k l j)) | inr e ↦ absurd e ])
      (λ k o n i j. elim i [
        | inl e ↦ (let u = names_under (p ++ 3 ∷ []) r o n j in longer p u.0 (made_is p ((p ++ 3 ∷ []) ++ u.0) (e.1 ∙ u.1)))
        | inr e ↦ absurd e
      ])
  names_one p (W m v r) h = names_one (p ++ 3 ∷ []) r h
  names_one p (S t r) h = names_two p t r (names_one (p ++ 0 ∷ []) t h.0) (names_one (p ++ 1 ∷ []) r h.1) h.2
  names_one p (P t r) h = names_two p t r (names_one (p ++ 0 ∷ []) t h.0) (names_one (p ++ 1 ∷ []) r h.1) h.2
  names_one p (R room block env reads t) h = names_one (p ++ 2 ∷ []) t h

  -- names that are given beside those of a record that begins at an unused path
  pub names_more : (ns : Naming M) (p : Path) (r : Rec M) → IsOneToOne ns → Unused p ns → IsApart r → ((m : M) (n : Name) → IsNamed ns m n → Makes r m → ⊥) → IsOneToOne (ns ++ names p r)
  names_more ns p r one un apart new =
      one_both ns (names p r) one (names_one p r apart)
      (λ m n l i j. new m n i (names_made p r m l j))
      (λ m k n i j. let u = names_under p r k n j in un m u.0 (subst (IsNamed ns m) u.1 i))

  pub only_one : (ns : Naming M) → IsOneToOne ns → IsOnly (IsNamed ns)
  only_one ns one m n k h i = (one m m n k h i).0 refl

  module _ (T : M → Name → Type 0) where
    -- a relation that has the names of a record ties what it made
    pub names_tied : (p : Path) (r : Rec M) → ((m : M) (n : Name) → IsNamed (names p r) m n → T m n) → Tied T r
    names_tied p E h = tt
    names_tied p (A m r) h = (Made p, h m (Made p) (inl (refl, refl)), names_tied (p ++ 3 ∷ []) r (λ k n i. h k n (inr i)))
    names_tied p (W m v r) h = names_tied (p ++ 3 ∷ []) r h
    names_tied p (S t r) h =
        (names_tied (p ++ 0 ∷ []) t (λ m n i. h m n (named_left (names (p ++ 0 ∷ []) t) (names (p ++ 1 ∷ []) r) m n i)), names_tied (p ++ 1 ∷ []) r (λ m n i. h m n (named_right (names (p ++ 0 ∷ []) t) (names (p ++ 1 ∷ []) r) m n i)))
    names_tied p (P t r) h =
        (names_tied (p ++ 0 ∷ []) t (λ m n i. h m n (named_left (names (p ++ 0 ∷ []) t) (names (p ++ 1 ∷ []) r) m n i)), names_tied (p ++ 1 ∷ []) r (λ m n i. h m n (named_right (names (p ++ 0 ∷ []) t) (names (p ++ 1 ∷ []) r) m n i)))
    names_tied p (R room block env reads t) h = names_tied (p ++ 2 ∷ []) t h

    -- what is alike by such a relation has its paths for names
    pub alike_placed : IsOnly T → (p : Path) (r : Rec M) (s : Rec Name) → ((m : M) (n : Name) → IsNamed (names p r) m n → T m n) → Recs T r s → Placed p s
    alike_placed only p E E h k = tt
    alike_placed only p (A m r) (A n s) h k =
        (only m n (Made p) k.0 (h m (Made p) (inl (refl, refl))), alike_placed only (p ++ 3 ∷ []) r s (λ l o i. h l o (inr i)) k.1)
    alike_placed only p (W m v r) (W n u s) h k = alike_placed only (p ++ 3 ∷ []) r s h k.2
    alike_placed only p (S t r) (S u s) h k =
        (alike_placed only (p ++ 0 ∷ []) t u (λ m n i. h m n (named_left (names (p ++ 0 ∷ []) t) (names (p ++ 1 ∷ []) r) m n i)) k.0, alike_placed only (p ++ 1 ∷ []) r s (λ m n i. h m n (named_right (names (p ++ 0 ∷ []) t) (names (p ++ 1 ∷ []) r) m n i)) k.1)
    alike_placed only p (P t r) (P u s) h k =
        (alike_placed only (p ++ 0 ∷ []) t u (λ m n i. h m n (named_left (names (p ++ 0 ∷ []) t) (names (p ++ 1 ∷ []) r) m n i)) k.0, alike_placed only (p ++ 1 ∷ []) r s (λ m n i. h m n (named_right (names (p ++ 0 ∷ []) t) (names (p ++ 1 ∷ []) r) m n i)) k.1)
    alike_placed only p (R room block env reads t) (R level again env' seen u) h k = alike_placed only (p ++ 2 ∷ []) t u h k.4
    alike_placed only p _ _ h k = absurd k
