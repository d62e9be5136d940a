-- A naming that grows.
use Rattle.std.proofs.Common.{◌≡◌, ◌≢◌, ℕ, Bool, true, false, [], ◌∷◌, ◌++◌, refl, ap, sym, ◌∙◌, subst, ◌⊎◌, inl, inr, append_assoc, append-nil}
use Rattle.psac_model.specs.Names.{Path, Name, Made, same_name}
use Rattle.psac_naming.specs.Alike.{Tests}
use Rattle.psac_naming.specs.Naming.{Naming, IsNamed, IsOneToOne, IsSameTest, Unused, IsUnder}
use Rattle.psac_naming.proofs.Names.{name_same, name_is, made_is, turns_differ, longer}

bool_same : (a b : Bool) → (a ≡ true → b ≡ true) → (b ≡ true → a ≡ true) → a ≡ b
bool_same true b f g = sym (f refl)
bool_same false true f g = g refl
bool_same false false f g = refl

pub wider : (path a : Path) (n : Name) → IsUnder (path ++ a) n → IsUnder path n
wider path a n h = (a ++ h.0, h.1 ∙ ap Made (append_assoc path a h.0))

module _ {M : Type 0} where
  pub named_left : (ns more : Naming M) (m : M) (n : Name) → IsNamed ns m n → IsNamed (ns ++ more) m n
  named_left [] more m n h = absurd h
  named_left (p ∷ ns) more m n (inl h) = inl h
  named_left (p ∷ ns) more m n (inr h) = inr (named_left ns more m n h)

  pub named_right : (ns more : Naming M) (m : M) (n : Name) → IsNamed more m n → IsNamed (ns ++ more) m n
  named_right [] more m n h = h
  named_right (p ∷ ns) more m n h = inr (named_right ns more m n h)

  pub named_either : (ns more : Naming M) (m : M) (n : Name) → IsNamed (ns ++ more) m n → IsNamed ns m n ⊎ IsNamed more m n
  named_either [] more m n h = inr h
  named_either (p ∷ ns) more m n (inl h) = inl (inl h)
  named_either (p ∷ ns) more m n (inr h) = elim (named_either ns more m n h) [ inl i ↦ inl (inr i) | inr i ↦ inr i ]

  -- more names behind some more
  pub named_wider : (ns a b : Naming M) (m : M) (n : Name) → IsNamed (ns ++ a) m n → IsNamed (ns ++ (a ++ b)) m n
  named_wider ns a b m n h = subst (λ xs. IsNamed xs m n) (append_assoc ns a b) (named_left (ns ++ a) b m n h)

  -- a test for the same modifiable tells what the names tell
  pub tests_names : (ns : Naming M) (same : M → M → Bool) (test : Name → Name → Bool) → IsOneToOne ns → IsSameTest same → test ≡ same_name → Tests (IsNamed ns) same test
  tests_names ns same test one is names m k n l h i =
      bool_same (same m k) (test n l)
      (λ t. subst (λ p. p n l ≡ true) (sym names) (subst (λ x. same_name n x ≡ true) ((one m k n l h i).0 (is.alone m k t)) (name_same n)))
      (λ t. subst (λ x. same m x ≡ true) ((one m k n l h i).1 (name_is n l (subst (λ p. p n l ≡ true) names t))) (is.itself m))

  pub unused_below : (path a : Path) (ns : Naming M) → Unused path ns → Unused (path ++ a) ns
  unused_below path a ns h m q e = h m (a ++ q) (subst (λ p. IsNamed ns m (Made p)) (append_assoc path a q) e)

  pub unused_here : (path : Path) (ns : Naming M) → Unused path ns → (m : M) → IsNamed ns m (Made path) → ⊥
  unused_here path ns h m e = h m [] (subst (λ p. IsNamed ns m (Made p)) (sym (append-nil path)) e)

  pub unused_after : (path : Path) (a b : ℕ) (w : Path) (ns more : Naming M) → a ≢ b → Unused path ns → ((m : M) (n : Name) → IsNamed more m n → IsUnder (path ++ a ∷ w) n) → Unused (path ++ b ∷ []) (ns ++ more)
  unused_after path a b w ns more d h k m q e =
      elim (named_either ns more m (Made ((path ++ b ∷ []) ++ q)) e) [
        | inl p ↦ unused_below path (b ∷ []) ns h m q p
        | inr p ↦
            (let u = k m (Made ((path ++ b ∷ []) ++ q)) p in
            turns_differ path (w ++ u.0) q a b d (sym (made_is ((path ++ b ∷ []) ++ q) ((path ++ a ∷ w) ++ u.0) u.1 ∙ append_assoc path (a ∷ w) u.0 ∙ sym (append_assoc path (a ∷ []) (w ++ u.0)))))
      ]

  pub unused_made : (path : Path) (ns : Naming M) (m : M) → Unused path ns → Unused (path ++ 3 ∷ []) (ns ++ (m, Made path) ∷ [])
  unused_made path ns m un k q e =
      elim (named_either ns ((m, Made path) ∷ []) k (Made ((path ++ 3 ∷ []) ++ q)) e) [
        | inl p ↦ unused_below path (3 ∷ []) ns un k q p
        | inr (inl p) ↦ longer path q (made_is path ((path ++ 3 ∷ []) ++ q) p.1)
        | inr (inr p) ↦ absurd p
      ]

  pub only_made : (path : Path) (m k : M) (n : Name) → IsNamed ((m, Made path) ∷ []) k n → IsUnder path n
  only_made path m k n (inl p) = ([], sym p.1 ∙ ap Made (sym (append-nil path)))
  only_made path m k n (inr p) = absurd p

  pub none_below : (path : Path) (m : M) (n : Name) → IsNamed [] m n → IsUnder path n
  none_below path m n h = absurd h

  pub both_below : (path : Path) (a b : Naming M) → ((m : M) (n : Name) → IsNamed a m n → IsUnder path n) → ((m : M) (n : Name) → IsNamed b m n → IsUnder path n) → (m : M) (n : Name) → IsNamed (a ++ b) m n → IsUnder path n
  both_below path a b f g m n e = elim (named_either a b m n e) [ inl p ↦ f m n p | inr p ↦ g m n p ]
