-- Stores beside the words of a view, and entries of a free list.
use Rattle.psac_values.proofs.Terms.{◌≢◌, ℕ, ◌<◌, ◌≤◌, List, [], ◌∷◌, set, take, ◌∙◌, inl, ⊎_elim, arith, Option, Some, set_else, Handle, Member, at_less, OwnedView, KnownView, StateView, ValueView, state_at, value_at, Whole, Stated, Fits}

module _ (fixed count : ℕ) (words : List ℕ) (i x : ℕ) where
  pub whole_else : (h : Handle) (ws : List (Option ℕ)) → ((j : ℕ) → j < 3 → value_at count h.slot j ≢ i) → Whole fixed count words h ws → Whole fixed count (set words i x) h ws
  whole_else h ws n p = record {
    long = p.long;
    low = p.low;
    stands = λ j y e. set_else words i (value_at count h.slot j) x (n j (let l = at_less ws j (Some y) e in let z = p.long in omega (arith, l, z))) ∙ p.stands j y e;
  }

  pub stated_else : (t : StateView) → state_at count t.of.slot ≢ i → Stated count words t → Stated count (set words i x) t
  stated_else t n p = record { low = p.low; stands = set_else words i (state_at count t.of.slot) x n ∙ p.stands }

  -- a store to a word that is none of the view's
  pub fits_else : (v : ValueView)
      → ((w : OwnedView) → Member w v.mine → (j : ℕ) → j < 3 → value_at count w.of.slot j ≢ i)
      → ((e : KnownView) → Member e v.known → (j : ℕ) → j < 3 → value_at count e.of.slot j ≢ i)
      → ((t : StateView) → Member t v.states → state_at count t.of.slot ≢ i)
      → Fits fixed count words v → Fits fixed count (set words i x) v
  fits_else v a b c f = record {
    fixed_is = f.fixed_is;
    mine = λ w m. whole_else w.of w.words (a w m) (f.mine w m);
    known = λ e m. whole_else e.of e.words (b e m) (f.known e m);
    states = λ t m. stated_else t (c t m) (f.states t m);
    held_is = f.held_is;
    met = f.met;
  }

  -- a store to the counter or the ring
  pub fits_low : (v : ValueView) → i ≤ count → Fits fixed count words v → Fits fixed count (set words i x) v
  fits_low v l = fits_else v (λ w m j k q. omega (arith, q, l)) (λ e m j k q. omega (arith, q, l)) (λ t m q. omega (arith, q, l))

pub first_only : {A : Type 0} (x : A) (l : List A) → Member x (take 1 l) → Member x l
first_only x [] m = m
first_only x (y ∷ l) m = ⊎_elim (λ e. inl e) (λ b. absurd b) m
