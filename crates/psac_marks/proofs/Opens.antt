-- The words at the start meet the rule of marks.
use Rattle.psac_marks.proofs.Terms.{◌≡◌, ℕ, zero, suc, ◌+◌, ◌*◌, ◌<◌, ◌≤◌, [], ◌∷◌, ◌++◌, map, length, refl, sym, ap, ◌∙◌, subst, ⊎_elim, arith, None, length-append, at_past, ring_length, fresh_at, none_some, IfSome, cases_lt, at_longer, some, get_elem?, Member, word_of, fresh, Own, Rights, length-fresh, OwnView, SharedView, MarksView, Place, Grown, Raising, Stating, rights_of, tree_of, marks_of, states_of, ways, Meeting, Marked, first_view, blank, first_words, Carries}
use Rattle.psac_slots.proofs.Opens as slots

pub length-blank : (n : ℕ) → length (blank n) ≡ 3 * n
length-blank zero = refl
length-blank (suc n) = let a = length-append (blank n) (0 ∷ 0 ∷ 2 ∷ []) in let b = length-blank n in omega (arith, a, b)

-- the three words of a free node
blank_at : (n x j w : ℕ) → x < n → get_elem? (0 ∷ 0 ∷ 2 ∷ []) j ≡ some w → get_elem? (blank n) (3 * x + j) ≡ some w
blank_at zero x j w l e = absurd (omega (arith, l))
blank_at (suc n) x j w l e = ⊎_elim
    (λ (s : x < n). at_longer (blank n) (0 ∷ 0 ∷ 2 ∷ []) (3 * x + j) w (blank_at n x j w s e))
    (λ (g : n ≤ x). let is : 3 * x + j ≡ length (blank n) + j = let a = length-blank n in omega (arith, a, l, g) in ap (get_elem? (blank n ++ (0 ∷ 0 ∷ 2 ∷ []))) is ∙ (at_past (blank n) (0 ∷ 0 ∷ 2 ∷ []) j ∙ e))
    (cases_lt x n)

module _ (nodes : ℕ) (fits : nodes < 4294967296) where
  word_at : (i x j w : ℕ) → x < nodes → i ≡ nodes + (3 * x + j) → get_elem? (0 ∷ 0 ∷ 2 ∷ []) j ≡ some w → get_elem? (first_words nodes nodes) (suc i) ≡ some w
  word_at i x j w l is e =
      let spot : i ≡ length (map word_of (fresh nodes)) + (3 * x + j) = let a = ring_length nodes in omega (arith, a, is) in
      ap (get_elem? (map word_of (fresh nodes) ++ blank nodes)) spot ∙ (at_past (map word_of (fresh nodes)) (blank nodes) (3 * x + j) ∙ blank_at nodes x j w l e)

  pub length_first : length (first_words nodes nodes) ≡ suc (nodes + 3 * nodes)
  length_first =
      omega (arith, length-append (map word_of (fresh nodes)) (blank nodes), ring_length nodes, length-blank nodes)

  pub opens : Marked nodes (first_words nodes nodes) (first_view nodes ∷ [])
  opens =
      let v = first_view nodes in
      let two : (i : ℕ) (r : Rights OwnView SharedView) → get_elem? (rights_of v ∷ []) i ≡ some r → (i ≡ 0) × (rights_of v ≡ r) = slots.only (rights_of v) in
      let tree : (i : ℕ) (g : Grown) → get_elem? (tree_of v ∷ []) i ≡ some g → (i ≡ 0) × (tree_of v ≡ g) = slots.only (tree_of v) in
      let mark : (i : ℕ) (r : Raising) → get_elem? (marks_of v ∷ []) i ≡ some r → (i ≡ 0) × (marks_of v ≡ r) = slots.only (marks_of v) in
      let state : (i : ℕ) (s : Stating) → get_elem? (states_of v ∷ []) i ≡ some s → (i ≡ 0) × (states_of v ≡ s) = slots.only (states_of v) in
      let nowhere : (i : ℕ) (g : Grown) (e : Place) → get_elem? (tree_of v ∷ []) i ≡ some g → Member e g.places → ⊥ = λ i g e d m. subst (λ (k : Grown). Member e k.places) (sym (tree i g d).1) m in
      record {
        counter = 0;
        head = 0;
        list = fresh nodes;
        parent = λ _. None;
        long = (let l = length_first in omega (arith, l));
        claims = slots.opens nodes (blank nodes) fits;
        rights = record {
          own = λ i r e. subst (Own ways) (two i r e).1 record { labels = λ x m. absurd m; single = λ w x m. absurd m; one = λ x y m. absurd m; apart = λ w m. absurd m; awake = λ _ _. refl; rises = λ _ _. refl };
          beside = λ i j r s e f n. absurd (n ((two i r e).0 ∙ sym (two j s f).0));
        };
        tree = record {
          hung = λ x l. word_at (suc (nodes + 3 * x)) x 1 0 l (omega arith) refl;
          free = λ x e. refl;
          parents = λ i g e d m. absurd (nowhere i g e d m);
          out = λ i g e d m. absurd (nowhere i g e d m);
          had = λ x p. absurd (gone x p);
          dropped = λ i g x d p. absurd (gone x (subst (λ (k : Grown). 0 < Rattle.psac_slots.specs.Claiming.times x k.dropped) (sym (tree i g d).1) p));
          above = λ i g e p d m. absurd (nowhere i g e d m);
          nested = λ i j g f e o d b m. absurd (nowhere i g e d m);
        };
        climbs = record {
          stored = λ x l. word_at (nodes + 3 * x) x 0 0 l (omega arith) refl;
          once = λ x. omega arith;
          marked = λ i r x d p. absurd (gone x (subst (λ (k : Raising). 0 < Rattle.psac_slots.specs.Claiming.times x k.marked) (sym (mark i r d).1) p));
          busy = λ i r x d p. absurd (gone x (subst (λ (k : Raising). 0 < Rattle.psac_slots.specs.Claiming.times x k.busy) (sym (mark i r d).1) p));
          climb = λ i r x d p. absurd (none_some x (subst (λ (k : Raising). k.climb ≡ Rattle.std.proofs.Common.Some x) (sym (mark i r d).1) p));
          supported = λ i r e d m. absurd (subst (λ (k : Raising). Member e k.places) (sym (mark i r d).1) m);
        };
        states = record {
          known = λ i s t d m. absurd (subst (λ (k : Stating). Member t k.states) (sym (state i s d).1) m);
          held_is = λ i s d. subst (λ (k : Stating). map Rattle.psac_marks.specs.Marked.handle_of k.states ≡ k.held) (state i s d).1 refl;
          free = λ k x le e. let q = fresh_at nodes k x e in word_at (suc (suc (nodes + 3 * x.slot))) x.slot 2 2 q.0 (omega arith) refl ∙ ap (λ g. some (2 * g)) (sym q.1);
        };
        met = λ i u e. subst (λ (k : MarksView). IfSome k.met Meeting) (slots.only v i u e).1 tt;
      }
    where
      gone : (x : ℕ) → 0 < 0 → ⊥
      gone x p = omega (arith, p)

  pub first_carries : (size : ℕ) → suc (nodes + 3 * nodes) ≡ size → Carries nodes 0 nodes size (first_view nodes)
  first_carries size e = record {
    live = refl;
    nodes_is = refl;
    head_is = refl;
    room_is = length-fresh nodes;
    room_fits = omega arith;
    head_fits = omega arith;
    words_is = e;
    small = fits;
    climb = refl;
    out = λ t m. absurd m;
    held_is = refl;
    low = λ k m. absurd m;
  }
