-- Heaps put one before the other.
use Rattle.std.proofs.Common.{◌≡◌, ◌≢◌, ◌⊎◌, ℕ, true, false, ◌==◌, if◌then◌else◌, [], ◌∷◌, ◌++◌, Some, None, refl, ap, sym, ◌∙◌, subst, inl, inr, ⊎_elim}
use Rattle.psac_ops.specs.declared.plain.Handle.{Handle}
use Rattle.psac_ops.specs.Value.{Value, nil, bool, int, text, ref, pair}
use Rattle.psac_ops.specs.Named.{same_handle}
use Rattle.psac_laws.proofs.Places.{none_some, some_is, test_or, nat_is, nat_same, and_is, not_both}
use Rattle.psac_trace.specs.Rights.{Heap, held, In, Named, Wider}

pub in_or_not : (base : Heap) (m : Handle) → (In base m) ⊎ (held base m ≡ None)
in_or_not base m = elim (held base m) as (λ o. ((x : Value Handle) × (o ≡ Some x)) ⊎ (o ≡ None)) [ Some x ↦ inl (x, refl) | None ↦ inr refl ]

pub not_in : (base : Heap) (m : Handle) → (In base m → ⊥) → held base m ≡ None
not_in base m f = ⊎_elim (λ (i : In base m). absurd (f i)) (λ (n : held base m ≡ None). n) (in_or_not base m)

pub in_and_none : {X : Type 0} (base : Heap) (m : Handle) → In base m → held base m ≡ None → X
in_and_none base m i n = absurd (none_some (sym n ∙ i.1))

pub held_front : (a b : Heap) (m : Handle) (x : Value Handle) → held a m ≡ Some x → held (a ++ b) m ≡ Some x
held_front [] b m x h = absurd (none_some h)
held_front (p ∷ a) b m x h =
    elim (same_handle p.0 m) as (λ t. (if t then Some p.1 else held a m) ≡ Some x → (if t then Some p.1 else held (a ++ b) m) ≡ Some x) [
      | true ↦ λ e. e
      | false ↦ λ e. held_front a b m x e
    ] h

pub held_back : (a b : Heap) (m : Handle) → held a m ≡ None → held (a ++ b) m ≡ held b m
held_back [] b m h = refl
held_back (p ∷ a) b m h =
    elim (same_handle p.0 m) as (λ t. (if t then Some p.1 else held a m) ≡ None → (if t then Some p.1 else held (a ++ b) m) ≡ held b m) [
      | true ↦ λ e. absurd (none_some (sym e))
      | false ↦ λ e. held_back a b m e
    ] h

-- what stands in the whole stands in front, or else behind
pub held_either : (a b : Heap) (m : Handle) (x : Value Handle) → held (a ++ b) m ≡ Some x → (held a m ≡ Some x) ⊎ ((held a m ≡ None) × (held b m ≡ Some x))
held_either a b m x h =
    ⊎_elim
    (λ (i : In a m). inl (i.1 ∙ sym (held_front a b m i.0 i.1) ∙ h))
    (λ (n : held a m ≡ None). inr (n, sym (held_back a b m n) ∙ h))
    (in_or_not a m)

pub in_front : (a b : Heap) (m : Handle) → In a m → In (a ++ b) m
in_front a b m i = (i.0, held_front a b m i.0 i.1)

pub in_back : (a b : Heap) (m : Handle) → In b m → In (a ++ b) m
in_back a b m i =
    ⊎_elim
    (λ (j : In a m). in_front a b m j)
    (λ (n : held a m ≡ None). (i.0, held_back a b m n ∙ i.1))
    (in_or_not a m)

pub in_either : (a b : Heap) (m : Handle) → In (a ++ b) m → (In a m) ⊎ (In b m)
in_either a b m i =
    ⊎_elim (λ (h : held a m ≡ Some i.0). inl (i.0, h)) (λ (h : (held a m ≡ None) × (held b m ≡ Some i.0)). inr (i.0, h.1)) (held_either a b m i.0 i.1)

pub named_more : (a b : Heap) → ((m : Handle) → In a m → In b m) → (x : Value Handle) → Named a x → Named b x
named_more a b f nil h = tt
named_more a b f (bool t) h = tt
named_more a b f (int i) h = tt
named_more a b f (text i k) h = tt
named_more a b f (ref m) h = f m h
named_more a b f (pair m n) h = (f m h.0, f n h.1)

pub names_back : (a b : Heap) (x : Value Handle) → Named b x → Named (a ++ b) x
names_back a b x h = named_more b (a ++ b) (λ m i. in_back a b m i) x h

-- more in front of both
pub within_front : (a b h : Heap) → Wider b h → Wider (a ++ b) (a ++ h)
within_front a b h w m x e =
    ⊎_elim
    (λ (i : held a m ≡ Some x). held_front a h m x i)
    (λ (n : (held a m ≡ None) × (held b m ≡ Some x)). held_back a h m n.0 ∙ w m x n.1)
    (held_either a b m x e)

-- more in front of one
pub within_fresh : (a b h : Heap) → ((m : Handle) → In a m → held b m ≡ None) → Wider b h → Wider b (a ++ h)
within_fresh a b h f w m x e =
    ⊎_elim
    (λ (i : In a m). absurd (none_some (sym (f m i) ∙ e)))
    (λ (n : held a m ≡ None). held_back a h m n ∙ w m x e)
    (in_or_not a m)

pub handle_by : (a b : Handle) → a.slot ≡ b.slot → a.generation ≡ b.generation → a ≡ b
handle_by a b p q = ap (λ (n : ℕ). record { slot = n; generation = a.generation }) p ∙ ap (λ (n : ℕ). record { slot = b.slot; generation = n }) q

pub handle_is : (a b : Handle) → same_handle a b ≡ true → a ≡ b
handle_is a b h =
    let p = and_is (a.slot == b.slot) (a.generation == b.generation) h in
    handle_by a b (nat_is a.slot b.slot p.0) (nat_is a.generation b.generation p.1)

pub handle_same : (a : Handle) → same_handle a a ≡ true
handle_same a = rw (nat_same a.slot, nat_same a.generation) refl

pub handle_or : (a b : Handle) → (a ≡ b) ⊎ ((a ≢ b) × (same_handle a b ≡ false))
handle_or a b =
    ⊎_elim
    (λ (t : same_handle a b ≡ true). inl (handle_is a b t))
    (λ (f : same_handle a b ≡ false). inr (λ e. not_both (subst (λ c. same_handle a c ≡ true) e (handle_same a)) f, f))
    (test_or (same_handle a b))

pub one_is : (m n : Handle) (y x : Value Handle) → held ((m, y) ∷ []) n ≡ Some x → (m ≡ n) × (y ≡ x)
one_is m n y x e =
    ⊎_elim
    (λ (p : m ≡ n). (p, some_is (sym (ap (λ t. if t then Some y else None) (subst (λ k. same_handle m k ≡ true) p (handle_same m))) ∙ e)))
    (λ (p : (m ≢ n) × (same_handle m n ≡ false)). absurd (none_some (sym (ap (λ t. if t then Some y else None) p.1) ∙ e)))
    (handle_or m n)

pub at_one : (m : Handle) (y : Value Handle) → held ((m, y) ∷ []) m ≡ Some y
at_one m y = ap (λ t. if t then Some y else None) (handle_same m)

abbrev pub Fresh : Heap → Heap → Type 0
Fresh ws base = (m : Handle) → In ws m → held base m ≡ None

pub fresh_then : (base ws more : Heap) → Fresh ws base → Fresh more (ws ++ base) → Fresh (more ++ ws) base
fresh_then base ws more f g m i =
    ⊎_elim
    (λ (j : In more m). not_in base m (λ k. in_and_none (ws ++ base) m (in_back ws base m k) (g m j)))
    (λ (j : In ws m). f m j)
    (in_either more ws m i)

pub fresh_sides : (base one two : Heap) → Fresh one base → Fresh two base → Fresh (two ++ one) base
fresh_sides base one two f g m i = ⊎_elim (λ (j : In two m). g m j) (λ (j : In one m). f m j) (in_either two one m i)

pub wider_in : (a b c : Heap) (m : Handle) → In (a ++ c) m → In (a ++ (b ++ c)) m
wider_in a b c m i = ⊎_elim (λ (j : In a m). in_front a (b ++ c) m j) (λ (j : In c m). in_back a (b ++ c) m (in_back b c m j)) (in_either a c m i)
