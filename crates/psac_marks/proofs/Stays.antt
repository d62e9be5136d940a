-- What steps make of the states.
use Rattle.psac_marks.proofs.Terms.{◌≡◌, ◌≢◌, ℕ, suc, ◌+◌, ◌*◌, ◌<◌, ◌≤◌, List, [], ◌∷◌, ◌++◌, map, length, set, refl, sym, ap, ◌∙◌, subst, ⊎_elim, arith, cond, map-append, eq-eqb, ne_eqb, cases_eq, some, get_elem?, set_here, set_else, Handle, Member, all_set, member_cases, member_map, StateView, state_at, handle_of, Stating, IsStated, AreStated, new_state, put}

stated_else : (nodes : ℕ) (words : List ℕ) (i x : ℕ) (t : StateView) → state_at nodes t.of.slot ≢ i → IsStated nodes words t → IsStated nodes (set words i x) t
stated_else nodes words i x t n p = record { low = p.low; stands = set_else words i (state_at nodes t.of.slot) x n ∙ p.stands }

-- a store beside the states
pub states_else : (nodes counter : ℕ) (list : List Handle) (words : List ℕ) (all : List Stating) (i x : ℕ) → ((y : ℕ) → state_at nodes y ≢ i) → AreStated nodes counter list words all → AreStated nodes counter list (set words i x) all
states_else nodes counter list words all i x far h = record {
  known = λ j s t e m. stated_else nodes words i x t (far t.of.slot) (h.known j s t e m);
  held_is = h.held_is;
  free = λ k y le e. set_else words i (state_at nodes y.slot) x (far y.slot) ∙ h.free k y le e;
}

pub back_again : (es : List Handle) → map handle_of (map new_state es) ≡ es
back_again [] = refl
back_again (e ∷ es) = ap (λ l. e ∷ l) (back_again es)

pub put_of : (x n : ℕ) (ts : List StateView) → map handle_of (map (put x n) ts) ≡ map handle_of ts
put_of x n [] = refl
put_of x n (t ∷ ts) = ap (λ l. t.of ∷ l) (put_of x n ts)

module _ (nodes counter : ℕ) (list : List Handle) (words : List ℕ) (all : List Stating) (h : AreStated nodes counter list words all) (id : ℕ) (s : Stating) (at : get_elem? all id ≡ some s) where
  -- a claim
  pub states_draw : (es : List Handle) → ((x : Handle) → Member x es → (get_elem? list counter ≡ some x) × (x.slot < nodes))
      → AreStated nodes (suc counter) list words (set all id (record { states = s.states ++ map new_state es; held = s.held ++ es }))
  states_draw es drawn =
      let u : Stating = record { states = s.states ++ map new_state es; held = s.held ++ es } in
      record {
        known = λ j k t d m. all_set (λ _ (z : Stating). (y : StateView) → Member y z.states → IsStated nodes words y) all id u
            (λ y q. ⊎_elim
            (λ o. h.known id s y at o)
            (λ o. let x = member_map new_state y es o in let w = drawn x.0 x.1 in subst (IsStated nodes words) x.2 record { low = w.1; stands = h.free counter x.0 (omega arith) w.0 })
            (member_cases y s.states (map new_state es) q))
            (λ i z n e. λ y q. h.known i z y e q) j k d t m;
        held_is = all_set (λ _ (z : Stating). map handle_of z.states ≡ z.held) all id u
            (map-append handle_of s.states (map new_state es) ∙ (λ i. h.held_is id s at i ++ back_again es i))
            (λ i z n e. h.held_is i z e);
        free = λ k y le e. h.free k y (omega (arith, le)) e;
      }

  -- a store to the state of a slot that the pass claimed
  pub states_put : (x n : ℕ) → x < nodes → nodes + 3 * nodes < length words
      → ((j : ℕ) (z : Stating) (t : StateView) → j ≢ id → get_elem? all j ≡ some z → Member t z.states → t.of.slot ≢ x)
      → ((k : ℕ) (y : Handle) → counter ≤ k → get_elem? list k ≡ some y → y.slot ≢ x)
      → AreStated nodes counter list (set words (state_at nodes x) n) (set all id (record { states = map (put x n) s.states; held = s.held }))
  states_put x n small long alone undrawn =
      let i = state_at nodes x in
      let u : Stating = record { states = map (put x n) s.states; held = s.held } in
      record {
        known = λ j k t d m. all_set (λ _ (z : Stating). (y : StateView) → Member y z.states → IsStated nodes (set words i n) y) all id u
            (λ y q. let o = member_map (put x n) y s.states q in subst (IsStated nodes (set words i n)) o.2 (put_one o.0 (h.known id s o.0 at o.1)))
            (λ j' z ne e. λ y q. stated_else nodes words i n y (λ same. alone j' z y ne e q (omega (arith, same))) (h.known j' z y e q)) j k d t m;
        held_is = all_set (λ _ (z : Stating). map handle_of z.states ≡ z.held) all id u (put_of x n s.states ∙ h.held_is id s at) (λ j z ne e. h.held_is j z e);
        free = λ k y le e. set_else words i (state_at nodes y.slot) n (λ same. undrawn k y le e (omega (arith, same))) ∙ h.free k y le e;
      }
    where
      put_one : (t : StateView) → IsStated nodes words t → IsStated nodes (set words (state_at nodes x) n) (put x n t)
      put_one t p = record {
        low = p.low;
        stands = ⊎_elim
            (λ (e : t.of.slot ≡ x). ap (λ y. get_elem? (set words (state_at nodes x) n) (state_at nodes y)) e ∙ (set_here words (state_at nodes x) n (omega (arith, small, long)) ∙ ap (λ b. some (cond b n t.word)) (sym (eq-eqb t.of.slot x e))))
            (λ (ne : t.of.slot ≢ x). set_else words (state_at nodes x) (state_at nodes t.of.slot) n (λ q. ne (omega (arith, q))) ∙ (p.stands ∙ ap (λ b. some (cond b n t.word)) (sym (ne_eqb t.of.slot x ne))))
            (cases_eq t.of.slot x);
      }
