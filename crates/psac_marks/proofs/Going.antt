-- What the four stores of a node's going make of a view.
use Rattle.psac_marks.proofs.Terms.{◌≡◌, ◌≢◌, ℕ, suc, ◌+◌, ◌*◌, ◌/◌, ◌%◌, ◌<◌, ◌≤◌, List, [], ◌∷◌, map, Bool, true, false, refl, sym, ap, ◌∙◌, subst, ⊎_elim, arith, Option, Some, None, cond, none_some, filter, not, ◌==◌, eq-eqb, ne_eqb, cases_eq, cases_lt, Handle, Member, later, removed, slot_times, times, Accounted, accounted_returned, member_map, map_member, member_filter, member_times, found, OwnView, StateView, MarksView, own_place, shared_place, handle_of, free_word, state_at, other_own, other_state, hang, hung, put, stated, cleared, gave, released, Tells, Carries, Owns, Bare, Childless, filtered}
use Rattle.psac_slots.proofs.Carrying as ring
use Rattle.psac_marks.proofs.Carrying.{renewed, ring_here}
use Rattle.psac_marks.proofs.Parts.{each_place, times_gone, place_own, place_shared}
use Rattle.psac_marks.proofs.Giving.{MayGo}

-- the node isn't marked, is a root, and its state says that it is free
abbrev pub leaving : Handle → MarksView → MarksView
leaving g v = stated g.slot (free_word (later g)) (hung g.slot None (cleared g.slot v))

pub bare : (v : MarksView) (x : ℕ) → Childless v x → Bare v x
bare v x f o m is kept = let a = f o m is in absurd (omega (arith, a, kept))

-- the state of what is held
pub state_of : (nodes head room words : ℕ) (v : MarksView) → Carries nodes head room words v → (g : Handle) → Member g v.claims.held → (t : StateView) × Member t v.states × (t.of ≡ g)
state_of nodes head room words v p g m = member_map handle_of g v.states (subst (Member g) (sym p.held_is) m)

pub may_go : (nodes head room words : ℕ) (v : MarksView) → Carries nodes head room words v → (g : Handle) → Member g v.claims.held → Owns v g → Childless v g.slot → MayGo (leaving g v) g
may_go nodes head room words v p g m own free =
    let x = g.slot in
    let t = state_of nodes head room words v p g m in
    let slot = ap (λ (h : Handle). h.slot) own.2 in
    record {
      climb = p.climb;
      own = hang x None own.0;
      has = map_member (hang x None) own.0 v.own own.1;
      slot = slot;
      root = ap (λ b. cond b None own.0.parent) (eq-eqb own.0.node.slot x slot);
      unmarked = times_gone x v.marked;
      idle = times_gone x v.busy;
      childless = λ o mo is.
          let k = member_map (hang x None) o v.own mo in
          subst (λ (z : OwnView). 0 < times z.node.slot v.dropped) k.2 (⊎_elim
          (λ (e : k.0.node.slot ≡ x). absurd (none_some x (sym (ap (λ b. cond b None k.0.parent) (eq-eqb k.0.node.slot x e)) ∙ (ap (λ (z : OwnView). z.parent) k.2 ∙ is))))
          (λ (n : k.0.node.slot ≢ x). free k.0 k.1 (sym (ap (λ b. cond b None k.0.parent) (ne_eqb k.0.node.slot x n)) ∙ (ap (λ (z : OwnView). z.parent) k.2 ∙ is)))
          (cases_eq k.0.node.slot x));
      state = put x (free_word (later g)) t.0;
      known = map_member (put x (free_word (later g))) t.0 v.states t.1;
      of = t.2;
      word = ap (λ b. cond b (free_word (later g)) t.0.word) (eq-eqb t.0.of.slot x (ap (λ (h : Handle). h.slot) t.2));
    }

hung_one : (x : ℕ) (par : Option ℕ) (o : OwnView) (ns ms : List OwnView) → ns ≡ ms → (b : Bool) → (o.node.slot == x) ≡ b → cond (not b) (hang x par o ∷ ns) ns ≡ cond (not b) (o ∷ ms) ms
hung_one x par o ns ms e true is = e
hung_one x par o ns ms e false is = λ i. record { node = o.node; parent = cond (is i) par o.parent } ∷ e i

hung_others : (x : ℕ) (par : Option ℕ) (os : List OwnView) → filter (other_own x) (map (hang x par) os) ≡ filter (other_own x) os
hung_others x par [] = refl
hung_others x par (o ∷ os) = hung_one x par o (filter (other_own x) (map (hang x par) os)) (filter (other_own x) os) (hung_others x par os) (o.node.slot == x) refl

put_one : (x n : ℕ) (t : StateView) (ns ms : List StateView) → ns ≡ ms → (b : Bool) → (t.of.slot == x) ≡ b → cond (not b) (put x n t ∷ ns) ns ≡ cond (not b) (t ∷ ms) ms
put_one x n t ns ms e true is = e
put_one x n t ns ms e false is = λ i. record { of = t.of; word = cond (is i) n t.word } ∷ e i

put_others : (x n : ℕ) (ts : List StateView) → filter (other_state x) (map (put x n) ts) ≡ filter (other_state x) ts
put_others x n [] = refl
put_others x n (t ∷ ts) = put_one x n t (filter (other_state x) (map (put x n) ts)) (filter (other_state x) ts) (put_others x n ts) (t.of.slot == x) refl

-- what was changed of the node goes with it
pub released_is : (g : Handle) (v : MarksView) → gave g (leaving g v) ≡ released g v
released_is g v = λ i. record (released g v) { own = hung_others g.slot None v.own i; states = put_others g.slot (free_word (later g)) v.states i }

pub released_whole : (g : Handle) (v : MarksView) → Member g v.claims.held → Accounted v.claims → Accounted (released g v).claims
released_whole g v m a = accounted_returned v.claims a (later g) (member_times g v.claims.held m)

module _ (nodes head room words : ℕ) (v : MarksView) (p : Carries nodes head room words v) (g : Handle) (m : Member g v.claims.held) (fit : Accounted v.claims) where
  -- what is out has room in the ring
  pub has_room : room < nodes
  has_room = let a = ring.has_room v.claims fit g (member_times g v.claims.held m) in let c = p.room_is in let d = p.nodes_is in omega (arith, a, c, d)

  pub carries_released : Carries nodes head (room + 1) words (released g v)
  carries_released = renewed nodes head room words v p head (room + 1) (released g v) (ring.ringed_returned nodes head room v.claims (ring_here nodes head room words v p) (later g) has_room)
      p.climb (filtered handle_of g.slot v.states ∙ ap (removed g.slot) p.held_is) (λ t mt. p.out t (member_filter (other_state g.slot) t v.states mt).0)
      (each_place (released g v) (λ e. e.node.slot < nodes)
      (λ o mo. p.low (own_place v.claims.branch o) (place_own v o (member_filter (other_own g.slot) o v.own mo).0)) (λ s ms. p.low (shared_place s) (place_shared v s ms)))

-- what the state of a slot tells a sole pass
module _ (nodes head room words : ℕ) (v : MarksView) (p : Carries nodes head room words v) (x i n : ℕ) (sole : v.claims.counter ≡ Some 0) (t : Tells v i n) (low : x < nodes) (is : i ≡ state_at nodes x) where
  stated_out : (g : Handle) → Member g v.claims.held → g.slot ≡ x → n ≡ suc (2 * g.generation)
  stated_out g m e =
      let s = state_of nodes head room words v p g m in
      let slot = ap (λ (h : Handle). h.slot) s.2 in
      omega (arith, t.state s.0 s.1 (omega (arith, is, p.nodes_is, slot, e)), (p.out s.0 s.1).0, ap (λ (h : Handle). h.generation) s.2)

  pub was_free : n % 2 ≡ 0 → slot_times x v.claims.held ≡ 0
  was_free even = ⊎_elim
      (λ (some : 0 < slot_times x v.claims.held). let g = found x v.claims.held some in let o = stated_out g.0 g.1 g.2 in absurd (omega (arith, o, even)))
      (λ (z : slot_times x v.claims.held ≤ 0). omega (arith, z))
      (cases_lt 0 (slot_times x v.claims.held))

  pub was_out : (n % 2 ≡ 0 → ⊥) → (let g : Handle = record { slot = x; generation = n / 2 } in Member g v.claims.held × Owns v g)
  was_out odd = ⊎_elim
      (λ (some : 0 < slot_times x v.claims.held).
      let g = found x v.claims.held some in
      let slot = g.2 in
      let made : g.0.generation ≡ n / 2 = omega (arith, stated_out g.0 g.1 slot) in
      let same : g.0 ≡ record { slot = x; generation = n / 2 } = λ j. record { slot = slot j; generation = made j } in
      subst (λ (h : Handle). Member h v.claims.held × Owns v h) same (g.1, (t.holds 0 sole).owned g.0 g.1))
      (λ (z : slot_times x v.claims.held ≤ 0). let k = p.nodes_is in let f = t.free 0 x sole (omega (arith, low, k)) (omega (arith, z)) (omega (arith, is, k)) in let e = f.1 in absurd (odd (omega (arith, e))))
      (cases_lt 0 (slot_times x v.claims.held))
