-- Places keep a naming.
use Rattle.std.proofs.Common.{◌≡◌, ◌≢◌, ◌+◌, ◌<◌, true, false, [], ◌∷◌, ◌++◌, length, Some, None, slice_get, refl, ap, sym, ◌∙◌, subst, arith, ◌⊎◌, inl, inr, length-append, ◌==◌}
use Rattle.std.proofs.lemmas.List.{length-set}
use Rattle.psac_ops.specs.declared.plain.Handle.{Handle}
use Rattle.psac_ops.specs.Value.{Value}
use Rattle.psac_ops.specs.Named.{same_handle}
use Rattle.psac_model.specs.Names.{Path, Name, Made, Heap, held, same_name}
use Rattle.psac_naming.specs.Alike.{Alike, Both}
use Rattle.psac_naming.specs.Naming.{Naming, IsNamed, IsOneToOne, IsSameTest, Keeps}
use Rattle.psac_naming.proofs.Names.{nat_same, nat_is, and_is, name_same, name_differs}
use Rattle.psac_naming.proofs.Namings.{named_left, named_either}
use Rattle.psac_naming.proofs.Trees.{both_more}
use Rattle.psac_plain.specs.Slots.{Places, joined, slots}
use Rattle.psac_plain.proofs.Lists.{same_or, get_before, get_after, get_set_within, get_set_other}

-- each named place is there, with what the heap has for its name; the heap has no others
pub record Linked (ns : Naming Handle) (places : Places) (heap : Heap) : Type 0 where
  pub one : IsOneToOne ns
  pub within : (m : Handle) (n : Name) → IsNamed ns m n → (m.generation ≡ 0) × (m.slot < length places)
  pub same : (m : Handle) (n : Name) → IsNamed ns m n → Both (Alike (IsNamed ns)) (joined (slice_get places m.slot)) (held heap n)
  pub no_more : (n : Name) → ((m : Handle) → IsNamed ns m n → ⊥) → held heap n ≡ None

handle_is : (g h : Handle) → g.slot ≡ h.slot → g.generation ≡ h.generation → g ≡ h
handle_is g h p q =
    let first : g ≡ record { slot = h.slot; generation = g.generation } = ap (λ s. record { slot = s; generation = g.generation }) p in
    first ∙ ap (λ s. record { slot = h.slot; generation = s }) q

pub handles_told : IsSameTest same_handle
handles_told =
    record {
      itself = λ m. rw (nat_same m.slot) (nat_same m.generation);
      alone = λ m k e.
          let b = and_is (m.slot == k.slot) (m.generation == k.generation) e in
          handle_is m k (nat_is m.slot k.slot b.0) (nat_is m.generation k.generation b.1);
    }

put_same : (ns : Naming Handle) (places : Places) (heap : Heap) (m : Handle) (n : Name) (v : Value Handle) (u : Value Name) → Linked ns places heap → IsNamed ns m n → Alike (IsNamed ns) v u → (k : Handle) (l : Name) → IsNamed ns k l → (m.slot ≡ k.slot) ⊎ (m.slot ≢ k.slot) → Both (Alike (IsNamed ns)) (joined (slice_get (slots.put places m v) k.slot)) (held ((n, u) ∷ heap) l)
put_same ns places heap m n v u lk is al k l e (inl s) =
    let here : slice_get (slots.put places m v) k.slot ≡ Some (Some v) = ap (slice_get (slots.put places m v)) (sym s) ∙ get_set_within places m.slot (Some v) (lk.within m n is).1 in
    let m_is : m ≡ k = handle_is m k s ((lk.within m n is).0 ∙ sym (lk.within k l e).0) in
    let t : same_name n l ≡ true = subst (λ x. same_name n x ≡ true) ((lk.one m k n l is e).0 m_is) (name_same n) in
    rw (here, t) al
put_same ns places heap m n v u lk is al k l e (inr d) =
    let other : slice_get (slots.put places m v) k.slot ≡ slice_get places k.slot = get_set_other places m.slot k.slot (Some v) d in
    let t : same_name n l ≡ false = name_differs n l (λ q. d (ap (λ x. x.slot) ((lk.one m k n l is e).1 q))) in
    rw (other, t) (lk.same k l e)

put_linked : (ns : Naming Handle) (places : Places) (heap : Heap) (m : Handle) (n : Name) (v : Value Handle) (u : Value Name) → Linked ns places heap → IsNamed ns m n → Alike (IsNamed ns) v u → Linked ns (slots.put places m v) ((n, u) ∷ heap)
put_linked ns places heap m n v u lk is al =
    record {
      one = lk.one;
      within = λ k l e. ((lk.within k l e).0, rw (length-set places m.slot (Some v)) (lk.within k l e).1);
      same = λ k l e. put_same ns places heap m n v u lk is al k l e (same_or m.slot k.slot);
      no_more = λ l none.
          let t : same_name n l ≡ false = name_differs n l (λ q. none m (subst (IsNamed ns m) q is)) in
          rw t (lk.no_more l none);
    }

module _ (ns : Naming Handle) (places : Places) (heap : Heap) (path : Path) (lk : Linked ns places heap) (un : (m : Handle) → IsNamed ns m (Made path) → ⊥) where
  made : Handle
  made = slots.fresh path places

  now : Naming Handle
  now = ns ++ (made, Made path) ∷ []

  open_one : (m k : Handle) (n l : Name) → IsNamed ns m n ⊎ IsNamed ((made, Made path) ∷ []) m n → IsNamed ns k l ⊎ IsNamed ((made, Made path) ∷ []) k l → (m ≡ k → n ≡ l) × (n ≡ l → m ≡ k)
  unfolding made
  open_one m k n l (inl h) (inl i) = lk.one m k n l h i
  open_one m k n l (inl h) (inr (inl i)) = (
    λ e. absurd (omega (arith, (lk.within m n h).1, ap (λ x. x.slot) e, ap (λ x. x.slot) i.0)),
    λ e. absurd (un m (subst (IsNamed ns m) (e ∙ sym i.1) h)),
  )
  open_one m k n l (inr (inl h)) (inl i) = (
    λ e. absurd (omega (arith, (lk.within k l i).1, ap (λ x. x.slot) e, ap (λ x. x.slot) h.0)),
    λ e. absurd (un k (subst (IsNamed ns k) (sym e ∙ sym h.1) i)),
  )
  open_one m k n l (inr (inl h)) (inr (inl i)) = (λ e. sym h.1 ∙ i.1, λ e. sym h.0 ∙ i.0)
  open_one m k n l (inr (inr h)) i = absurd h
  open_one m k n l h (inr (inr i)) = absurd i

  open_within : (m : Handle) (n : Name) → IsNamed ns m n ⊎ IsNamed ((made, Made path) ∷ []) m n → (m.generation ≡ 0) × (m.slot < length (places ++ None ∷ []))
  unfolding made
  open_within m n (inl h) = ((lk.within m n h).0, omega (arith, (lk.within m n h).1, length-append places (None ∷ [])))
  open_within m n (inr (inl h)) = (sym (ap (λ x. x.generation) h.0), omega (arith, ap (λ x. x.slot) h.0, length-append places (None ∷ [])))
  open_within m n (inr (inr h)) = absurd h

  open_same : (m : Handle) (n : Name) → IsNamed ns m n ⊎ IsNamed ((made, Made path) ∷ []) m n → Both (Alike (IsNamed now)) (joined (slice_get (places ++ None ∷ []) m.slot)) (held heap n)
  unfolding made now
  open_same m n (inl h) =
      let p : slice_get (places ++ None ∷ []) m.slot ≡ slice_get places m.slot = get_before places (None ∷ []) m.slot (lk.within m n h).1 in
      rw p (both_more (IsNamed ns) (IsNamed now) (named_left ns ((made, Made path) ∷ [])) (joined (slice_get places m.slot)) (held heap n) (lk.same m n h))
  open_same m n (inr (inl h)) =
      let at : m.slot ≡ length places + 0 = omega (arith, ap (λ x. x.slot) h.0) in
      let p : slice_get (places ++ None ∷ []) m.slot ≡ Some None = ap (slice_get (places ++ None ∷ [])) at ∙ get_after places (None ∷ []) (length places) 0 refl in
      let q : held heap n ≡ None = subst (λ x. held heap x ≡ None) h.1 (lk.no_more (Made path) un) in
      rw (p, q) tt
  open_same m n (inr (inr h)) = absurd h

  open_linked : Linked (ns ++ (slots.fresh path places, Made path) ∷ []) (slots.opened places (slots.fresh path places)) heap
  unfolding made now
  open_linked =
      record {
        one = λ m k n l e f. open_one m k n l (named_either ns ((made, Made path) ∷ []) m n e) (named_either ns ((made, Made path) ∷ []) k l f);
        within = λ m n e. open_within m n (named_either ns ((made, Made path) ∷ []) m n e);
        same = λ m n e. open_same m n (named_either ns ((made, Made path) ∷ []) m n e);
        no_more = λ n none. lk.no_more n (λ m e. none m (named_left ns ((made, Made path) ∷ []) m n e));
      }

pub places_keep : Keeps slots Linked
places_keep =
    record {
      one = λ ns places heap lk. lk.one;
      gets = λ ns places heap m n lk is. lk.same m n is;
      puts = λ ns places heap m n v u lk is al. put_linked ns places heap m n v u lk is al;
      opens = λ ns places heap path lk un. open_linked ns places heap path lk un;
    }
