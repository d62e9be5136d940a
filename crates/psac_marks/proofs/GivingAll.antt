-- All nodes are given back, one after another.
use Rattle.psac_marks.proofs.Terms.{◌≡◌, ◌≢◌, ℕ, suc, ◌<◌, ◌≤◌, List, [], ◌∷◌, ◌++◌, map, Bool, true, false, ltb, sym, ap, ◌∙◌, subst, ⊎_elim, arith, append_assoc, append-nil, filter, not, ◌==◌, map-append, ne_eqb, lt-ltb, le-ltb, cases_lt, Handle, Member, later, slot_times, removed, only, by_slot, times, map_member, member_filter, filter_member, member_times, found, filter_twice, filter_all, filter_none, from_next, from_here, only_one, only_none, removed_none, OwnView, StateView, MarksView, handle_of, HasOwn, Holds, other, other_own, other_state, dropping, released, gave_all, Carries, Childless}
use Rattle.psac_marks.proofs.Counted.{times_both, times_member, times_in}

abbrev pub node_from : ℕ → ℕ → Bool
node_from n x = not (ltb x n)

abbrev pub held_from : ℕ → Handle → Bool
held_from n h = node_from n h.slot

abbrev pub own_from : ℕ → OwnView → Bool
own_from n o = node_from n o.node.slot

abbrev pub states_from : ℕ → StateView → Bool
states_from n t = node_from n t.of.slot

-- the nodes below n were given back
abbrev pub gave_below : ℕ → MarksView → MarksView
gave_below n v = record v {
  claims = record v.claims { list = v.claims.list ++ map later (by_slot n v.claims.held); held = filter (held_from n) v.claims.held };
  own = filter (own_from n) v.own;
  marked = filter (node_from n) v.marked;
  busy = filter (node_from n) v.busy;
  dropped = filter (node_from n) v.dropped;
  states = filter (states_from n) v.states;
}

-- what stands of the node n goes
abbrev pub gave_slot : ℕ → MarksView → MarksView
gave_slot n v = record v {
  claims = record v.claims { list = v.claims.list ++ map later (only n v.claims.held); held = removed n v.claims.held };
  own = filter (other_own n) v.own;
  marked = filter (other n) v.marked;
  busy = filter (other n) v.busy;
  dropped = filter (other n) v.dropped;
  states = filter (other_state n) v.states;
}

-- what a sole pass has before it gives all back
pub record Ready (v : MarksView) : Type 0 where
  pub holds : Holds v
  pub dropped : (x : ℕ) → 0 < slot_times x v.claims.held → 0 < times x v.dropped
  pub held_is : map handle_of v.states ≡ v.claims.held
  pub low : (h : Handle) → Member h v.claims.held → h.slot < v.claims.count

none_below : (s : ℕ) → not (ltb s 0) ≡ true
none_below s = ap not (le-ltb s 0 (omega arith))

pub begins : (v : MarksView) → gave_below 0 v ≡ v
begins v = λ i. record v {
  claims = record v.claims { list = append-nil v.claims.list i; held = filter_all (held_from 0) v.claims.held (λ x _. none_below x.slot) i };
  own = filter_all (own_from 0) v.own (λ x _. none_below x.node.slot) i;
  marked = filter_all (node_from 0) v.marked (λ x _. none_below x) i;
  busy = filter_all (node_from 0) v.busy (λ x _. none_below x) i;
  dropped = filter_all (node_from 0) v.dropped (λ x _. none_below x) i;
  states = filter_all (states_from 0) v.states (λ x _. none_below x.of.slot) i;
}

here_only : (n : ℕ) (hs : List Handle) → only n (filter (held_from n) hs) ≡ only n hs
here_only n hs = filter_twice (λ (h : Handle). h.slot == n) (held_from n) (λ (h : Handle). h.slot == n) hs (λ x. from_here x.slot n)

goes_on : (n : ℕ) (v : MarksView) → gave_slot n (gave_below n v) ≡ gave_below (suc n) v
goes_on n v =
    let l = v.claims.list in
    let hs = v.claims.held in
    let list : (l ++ map later (by_slot n hs)) ++ map later (only n (filter (held_from n) hs)) ≡ l ++ map later (by_slot n hs ++ only n hs)
    = ap (λ z. (l ++ map later (by_slot n hs)) ++ map later z) (here_only n hs) ∙ (append_assoc l (map later (by_slot n hs)) (map later (only n hs)) ∙ ap (λ z. l ++ z) (sym (map-append later (by_slot n hs) (only n hs)))) in
    let nodes : (xs : List ℕ) → filter (other n) (filter (node_from n) xs) ≡ filter (node_from (suc n)) xs = λ xs. filter_twice (other n) (node_from n) (node_from (suc n)) xs (λ x. from_next x n) in
    λ i. record v {
      claims = record v.claims { list = list i; held = filter_twice (λ (h : Handle). not (h.slot == n)) (held_from n) (held_from (suc n)) hs (λ x. from_next x.slot n) i };
      own = filter_twice (other_own n) (own_from n) (own_from (suc n)) v.own (λ x. from_next x.node.slot n) i;
      marked = nodes v.marked i;
      busy = nodes v.busy i;
      dropped = nodes v.dropped i;
      states = filter_twice (other_state n) (states_from n) (states_from (suc n)) v.states (λ x. from_next x.of.slot n) i;
    }

-- a node that was out
gave_one : (v : MarksView) (h : Handle) (n : ℕ) → h.slot ≡ n → only n v.claims.held ≡ h ∷ [] → released h v ≡ gave_slot n v
gave_one v h n is one = (λ i. record v {
  claims = record v.claims { list = v.claims.list ++ map later (sym one i); held = removed (is i) v.claims.held };
  own = filter (other_own (is i)) v.own;
  marked = filter (other (is i)) v.marked;
  busy = filter (other (is i)) v.busy;
  dropped = filter (other (is i)) v.dropped;
  states = filter (other_state (is i)) v.states;
})

self_from : (n : ℕ) → node_from n n ≡ true
self_from n = ap not (le-ltb n n (omega arith))

module _ (v : MarksView) (r : Ready v) (n : ℕ) where
  pub gives_held : (h : Handle) → Member h (gave_below n v).claims.held → h.slot ≡ n → released h (gave_below n v) ≡ gave_below (suc n) v
  gives_held h m is =
      let old = (member_filter (held_from n) h v.claims.held m).0 in
      gave_one (gave_below n v) h n is (here_only n v.claims.held ∙ (ap (λ k. only k v.claims.held) (sym is) ∙ only_one h v.claims.held r.holds.once old)) ∙ goes_on n v

  -- where the slot isn't out, nothing of it is left
  module _ (none : slot_times n (gave_below n v).claims.held ≡ 0) where
    not_held : (h : Handle) → Member h v.claims.held → h.slot ≢ n
    not_held h m is =
        let k = member_times h (filter (held_from n) v.claims.held) (filter_member (held_from n) h v.claims.held m (ap (node_from n) is ∙ self_from n)) in
        omega (arith, k, ap (λ s. slot_times s (filter (held_from n) v.claims.held)) is, none)

    not_own : (o : OwnView) → Member o v.own → o.node.slot ≢ n
    not_own o m = not_held o.node (r.holds.out o m)

    stay_nodes : (xs : List ℕ) → ((x : ℕ) → 0 < times x xs → HasOwn v.own x) → filter (other n) (filter (node_from n) xs) ≡ filter (node_from n) xs
    stay_nodes xs own = filter_all (other n) (filter (node_from n) xs) (λ x m.
        let o = own x (omega (arith, times_member x xs (member_filter (node_from n) x xs m).0)) in
        ap not (ne_eqb x n (λ e. not_own o.0 o.1 (o.2 ∙ e))))

    pub gives_none : gave_below n v ≡ gave_below (suc n) v
    gives_none = sym (λ i. record v {
      claims = record v.claims {
        list = (ap (λ l. (gave_below n v).claims.list ++ map later l) (only_none n (gave_below n v).claims.held none) ∙ append-nil (gave_below n v).claims.list) i;
        held = removed_none n (gave_below n v).claims.held none i;
      };
      own = filter_all (other_own n) (filter (own_from n) v.own) (λ o m. ap not (ne_eqb o.node.slot n (not_own o (member_filter (own_from n) o v.own m).0))) i;
      marked = stay_nodes v.marked r.holds.marked i;
      busy = stay_nodes v.busy r.holds.busy i;
      dropped = stay_nodes v.dropped r.holds.dropped i;
      states = filter_all (other_state n) (filter (states_from n) v.states) (λ t m. ap not (ne_eqb t.of.slot n (not_held t.of (subst (Member t.of) r.held_is (map_member handle_of t v.states (member_filter (states_from n) t v.states m).0))))) i;
    }) ∙ goes_on n v

  -- all that is left is dropped
  pub all_childless : (x : ℕ) → Childless (gave_below n v) x
  all_childless x o m is =
      let q = member_filter (own_from n) o v.own m in
      let k = member_times o.node v.claims.held (r.holds.out o q.0) in
      omega (arith, r.dropped o.node.slot (omega (arith, k)), times_in (node_from n) o.node.slot v.dropped q.1)

  pub ends : n ≡ v.claims.count → gave_below n v ≡ gave_all v
  ends is =
      let past : (s : ℕ) → s < v.claims.count → not (ltb s n) ≡ false = λ s l. ap not (lt-ltb s n (omega (arith, l, is))) in
      let own : (o : OwnView) → Member o v.own → o.node.slot < v.claims.count = λ o m. r.low o.node (r.holds.out o m) in
      let nodes : (xs : List ℕ) → ((x : ℕ) → 0 < times x xs → HasOwn v.own x) → filter (node_from n) xs ≡ [] = λ xs f. filter_none (node_from n) xs (λ x m.
      let k = times_member x xs m in let o = f x (omega (arith, k)) in past x (subst (λ s. s < v.claims.count) o.2 (own o.0 o.1))) in
      λ i. record v {
        claims = record v.claims { list = v.claims.list ++ map later (by_slot (is i) v.claims.held); held = filter_none (held_from n) v.claims.held (λ x m. past x.slot (r.low x m)) i };
        own = filter_none (own_from n) v.own (λ o m. past o.node.slot (own o m)) i;
        marked = nodes v.marked r.holds.marked i;
        busy = nodes v.busy r.holds.busy i;
        dropped = nodes v.dropped r.holds.dropped i;
        states = filter_none (states_from n) v.states (λ t m. past t.of.slot (r.low t.of (subst (Member t.of) r.held_is (map_member handle_of t v.states m)))) i;
      }

-- a held slot is one of the table's
pub held_below : (nodes head room words : ℕ) (v : MarksView) → Carries nodes head room words v → (h : Handle) → Member h v.claims.held → h.slot < nodes
held_below nodes head room words v p h m =
    let q = Rattle.psac_slots.proofs.Pairs.member_map handle_of h v.states (subst (Member h) (sym p.held_is) m) in
    subst (λ (k : Handle). k.slot < nodes) q.2 (p.out q.0 q.1).1

-- once all that is out is dropped
pub ready : (v : MarksView) (xs : List ℕ) → Holds v → ((x : ℕ) → 0 < times x xs → 0 < slot_times x v.claims.held) → ((x : ℕ) → 0 < slot_times x v.claims.held → 0 < times x (dropping xs v).dropped)
    → map handle_of v.states ≡ v.claims.held → ((h : Handle) → Member h v.claims.held → h.slot < v.claims.count) → Ready (dropping xs v)
ready v xs h out all held low = record {
  holds = record {
    once = h.once;
    out = h.out;
    owned = h.owned;
    marked = h.marked;
    busy = h.busy;
    dropped = λ x p. ⊎_elim
        (λ (q : 0 < times x v.dropped). h.dropped x q)
        (λ (q : times x v.dropped ≤ 0).
        let g = found x v.claims.held (out x (omega (arith, times_both x v.dropped xs, p, q))) in
        let o = h.owned g.0 g.1 in
        (o.0, o.1, ap (λ (k : Handle). k.slot) o.2 ∙ g.2))
        (cases_lt 0 (times x v.dropped));
  };
  dropped = all;
  held_is = held;
  low = low;
}
