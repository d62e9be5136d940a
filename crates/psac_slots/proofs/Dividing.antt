-- Splits and joins keep the division of the rights.
use Rattle.psac_slots.proofs.Terms.{◌≡◌, ◌≢◌, ◌⊎◌, ℕ, ◌<◌, ◌≤◌, List, [], ◌∷◌, ◌++◌, map, length, set, Bool, true, false, true≢false, refl, sym, ap, ◌∙◌, subst, inl, inr, ⊎_elim, arith, length-append, filter, not, and_parts, lt-ltb, ltb-true, cases_lt, set_comm, some, get_elem?, at_set, is_prefix, stem, Member, Ways, Rights, Own, Beside, Divided, stays, goes, lends, told, left_rights, right_rights, above, comes_back, united, no_rights, Met}
use Rattle.psac_slots.proofs.Sums.{all_set}
use Rattle.psac_slots.proofs.Pairs.{member_left, member_cases, member_filter, filter_member, member_map, one_after, pairs_set, pairs_end}
use Rattle.psac_slots.proofs.Turns.{same_head, with_head, prefix_refl, prefix_long, prefix_cases, prefix_next, stem_push}

pub off : (b : Bool) → not b ≡ true → b ≡ true → ⊥
off true e t = true≢false (sym e)
off false e t = true≢false (sym t)

pub is_off : (b : Bool) → not b ≡ true → b ≡ false
is_off true e = absurd (true≢false (sym e))
is_off false e = refl

pub prefix_short_length : (a b : List Bool) → is_prefix a b ≡ true → length a ≤ length b
prefix_short_length [] b e = omega arith
prefix_short_length (x ∷ a) [] e = absurd (true≢false (sym e))
prefix_short_length (x ∷ a) (y ∷ b) e = let r = prefix_short_length a b (same_head x y a b e).1 in omega (arith, r)

-- a prefix of a branch and one turn is that, or a prefix of the branch
pub prefix_cut : (a b : List Bool) (x : Bool) → is_prefix a (b ++ x ∷ []) ≡ true → length a ≤ length b → is_prefix a b ≡ true
prefix_cut [] b x e l = refl
prefix_cut (y ∷ a) [] x e l = absurd (omega arith)
prefix_cut (y ∷ a) (z ∷ b) x e l = let q = same_head y z a (b ++ x ∷ []) e in with_head y z a b q.0 (prefix_cut a b x q.1 (omega (arith, l)))

pub prefix_whole : (a b : List Bool) → is_prefix a b ≡ true → length b ≤ length a → a ≡ b
prefix_whole [] [] e l = refl
prefix_whole [] (x ∷ b) e l = absurd (omega arith)
prefix_whole (x ∷ a) [] e l = absurd (true≢false (sym e))
prefix_whole (x ∷ a) (y ∷ b) e l = let q = same_head x y a b e in let r = prefix_whole a b q.1 (omega (arith, l)) in λ i. q.0 i ∷ r i

-- what begins a branch that begins another begins that one
pub prefix_through : (a b c : List Bool) → is_prefix a b ≡ true → is_prefix b c ≡ true → is_prefix a c ≡ true
prefix_through [] b c p q = refl
prefix_through (x ∷ a) [] c p q = absurd (true≢false (sym p))
prefix_through (x ∷ a) (y ∷ b) [] p q = absurd (true≢false (sym q))
prefix_through (x ∷ a) (y ∷ b) (z ∷ c) p q = let s = same_head x y a b p in let t = same_head y z b c q in with_head x z a c (s.0 ∙ t.0) (prefix_through a b c s.1 t.1)

-- neither branch begins the other
abbrev pub Strangers : List Bool → List Bool → Type 0
Strangers a b = (is_prefix a b ≡ false) × (is_prefix b a ≡ false)

module _ {W E : Type 0} (k : Ways W E) where
  module _ (shared to_right : ℕ → Bool) where
    -- what is told is old, or was the pass's alone and is shared from here on
    abbrev pub Lent : Rights W E → E → Type 0
    Lent r e = (w : W) × Member w r.alone × (shared (k.slot w) ≡ true) × (k.lend r.branch w ≡ e)

    pub told_cases : (r : Rights W E) (e : E) → Member e (told k shared to_right r) → Member e r.shared ⊎ Lent r e
    told_cases r e h = ⊎_elim (λ p. inl p)
        (λ q. let x = member_map (k.lend r.branch) e (filter (lends k shared to_right) r.alone) q in let y = member_filter (lends k shared to_right) x.0 r.alone x.1 in inr (x.0, y.0, y.1, x.2))
        (member_cases e r.shared (map (k.lend r.branch) (filter (lends k shared to_right) r.alone)) h)

    pub lent_slot : (r : Rights W E) (e : E) → (l : Lent r e) → k.of e ≡ k.slot l.0
    lent_slot r e l = ap k.of (sym l.3) ∙ k.lent_of r.branch l.0

    lent_label : (r : Rights W E) (e : E) → Lent r e → k.label e ≡ r.branch
    lent_label r e l = ap k.label (sym l.3) ∙ k.lent_label r.branch l.0

    module _ (r : Rights W E) (o : Own k r) (live : r.live ≡ true) where
      side_own : (x : Bool) (walk : List W) → ((m : W) → Member m walk → Member m r.alone × (shared (k.slot m) ≡ false)) → Own k record { live = r.live; branch = r.branch ++ x ∷ []; alone = walk; shared = told k shared to_right r }
      side_own x walk mine = record {
        labels = λ e h. let l = length-append r.branch (x ∷ []) in ⊎_elim
            (λ p. let q = o.labels e p in (prefix_long (k.label e) r.branch x q.0, (let s = q.1 in omega (arith, s, l))))
            (λ (p : Lent r e). let s = lent_label r e p in (
              subst (λ b. is_prefix b (r.branch ++ x ∷ []) ≡ true) (sym s) (prefix_long r.branch r.branch x (prefix_refl r.branch)),
              (let t = ap length s in omega (arith, t, l)),
            ))
            (told_cases r e h);
        single = λ w x hw hx is. o.single w x (mine w hw).0 (mine x hx).0 is;
        one = λ e f he hf is. ⊎_elim
            (λ p. ⊎_elim (λ q. o.one e f p q is) (λ (q : Lent r f). absurd (o.apart q.0 q.1 e p (is ∙ lent_slot r f q))) (told_cases r f hf))
            (λ (p : Lent r e). ⊎_elim (λ q. absurd (o.apart p.0 p.1 f q (sym is ∙ lent_slot r e p)))
            (λ (q : Lent r f). sym p.3 ∙ (ap (k.lend r.branch) (o.single p.0 q.0 p.1 q.1 (sym (lent_slot r e p) ∙ (is ∙ lent_slot r f q))) ∙ q.3)) (told_cases r f hf))
            (told_cases r e he);
        apart = λ m h e he is. let w = mine m h in ⊎_elim (λ p. o.apart m w.0 e p is)
            (λ (p : Lent r e). true≢false (sym p.2 ∙ (ap shared (sym (lent_slot r e p) ∙ is) ∙ w.1)))
            (told_cases r e he);
        awake = λ _ _. live;
        rises = λ _ _. live;
      }

      -- a side, beside another pass
      side_beside : (x : Bool) (walk : List W) → ((m : W) → Member m walk → Member m r.alone × (shared (k.slot m) ≡ false)) → (s : Rights W E) → Own k s → Beside k r s → Beside k s r → (s.live ≡ true → Strangers r.branch s.branch)
          → (let l : Rights W E = record { live = r.live; branch = r.branch ++ x ∷ []; alone = walk; shared = told k shared to_right r } in Beside k l s × Beside k s l)
      side_beside x walk mine s os rs sr strange = (
        record {
          alone = λ m n h. rs.alone m n (mine m h).0;
          apart = λ m h. rs.apart m (mine m h).0;
          one = λ e f he hf is. ⊎_elim (λ p. rs.one e f p hf is) (λ (p : Lent r e). absurd (rs.apart p.0 p.1 f hf (sym is ∙ lent_slot r e p))) (told_cases r e he);
          below = λ e he ls pre. ⊎_elim (λ p. rs.below e p ls pre)
              (λ (p : Lent r e). absurd (true≢false (sym pre ∙ (ap (λ b. is_prefix b s.branch) (lent_label r e p) ∙ (strange ls).0))))
              (told_cases r e he);
        },
        record {
          alone = λ m n h g. sr.alone m n h (mine n g).0;
          apart = λ m h e he is. ⊎_elim (λ p. sr.apart m h e p is) (λ (p : Lent r e). rs.alone p.0 m p.1 h (sym (lent_slot r e p) ∙ is)) (told_cases r e he);
          one = λ e f he hf is. ⊎_elim (λ p. sr.one e f he p is) (λ (p : Lent r f). absurd (rs.apart p.0 p.1 e he (is ∙ lent_slot r f p))) (told_cases r f hf);
          below = λ e he ll pre. member_left e r.shared (map (k.lend r.branch) (filter (lends k shared to_right) r.alone)) (sr.below e he live (⊎_elim (λ p. p)
              (λ p. absurd (true≢false (sym (prefix_through r.branch (k.label e) s.branch p (os.labels e he).0) ∙ (strange (os.awake e he)).0)))
              (prefix_cases (k.label e) r.branch x pre)));
        },
      )

    pub on_left : (r : Rights W E) (m : W) → Member m (filter (stays k shared to_right) r.alone) → Member m r.alone × (shared (k.slot m) ≡ false) × (to_right (k.slot m) ≡ false)
    on_left r m h = let q = member_filter (stays k shared to_right) m r.alone h in let p = and_parts _ _ q.1 in (q.0, is_off (shared (k.slot m)) p.0, is_off (to_right (k.slot m)) p.1)

    pub on_right : (r : Rights W E) (m : W) → Member m (filter (goes k shared to_right) r.alone) → Member m r.alone × (shared (k.slot m) ≡ false) × (to_right (k.slot m) ≡ true)
    on_right r m h = let q = member_filter (goes k shared to_right) m r.alone h in let p = and_parts _ _ q.1 in (q.0, is_off (shared (k.slot m)) p.0, p.1)

    pub divides : (all : List (Rights W E)) (id : ℕ) (r : Rights W E) → Divided k all → get_elem? all id ≡ some r → r.live ≡ true
        → ((j : ℕ) (s : Rights W E) → j ≢ id → get_elem? all j ≡ some s → s.live ≡ true → Strangers r.branch s.branch)
        → Divided k (set all id (left_rights k shared to_right r) ++ right_rights k shared to_right r ∷ [])
    divides all id r d at live strange =
        let l = left_rights k shared to_right r in
        let q = right_rights k shared to_right r in
        let o = d.own id r at in
        let wl : (m : W) → Member m l.alone → Member m r.alone × (shared (k.slot m) ≡ false) = λ m h. let z = on_left r m h in (z.0, z.1) in
        let wr : (m : W) → Member m q.alone → Member m r.alone × (shared (k.slot m) ≡ false) = λ m h. let z = on_right r m h in (z.0, z.1) in
        let ol = side_own r o live false l.alone wl in
        let or = side_own r o live true q.alone wr in
        let near : (j : ℕ) (s : Rights W E) → j ≢ id → get_elem? all j ≡ some s → Beside k l s × Beside k s l × Beside k q s × Beside k s q = λ j s n e.
        let rs = d.beside id j r s at e (λ p. n (sym p)) in
        let sr = d.beside j id s r e at n in
        let a = side_beside r o live false l.alone wl s (d.own j s e) rs sr (strange j s n e) in
        let b = side_beside r o live true q.alone wr s (d.own j s e) rs sr (strange j s n e) in
        (a.0, a.1, b.0, b.1) in
        record {
          own = one_after (Own k) all id l q d.own ol or;
          beside = pairs_end (Beside k) (set all id l) q
              (pairs_set (Beside k) all id l d.beside (λ j s n e. let z = near j s n e in (z.0, z.1)))
              (λ j s e. ⊎_elim
              (λ (x : (j ≡ id) × (l ≡ s)). subst (λ z. Beside k q z × Beside k z q) x.1 (
                record {
                  alone = λ m n h g is. true≢false (sym (on_right r m h).2 ∙ (ap to_right is ∙ (on_left r n g).2));
                  apart = or.apart;
                  one = or.one;
                  below = λ e h _ _. h;
                },
                record {
                  alone = λ m n h g is. true≢false (sym (on_right r n g).2 ∙ (ap to_right (sym is) ∙ (on_left r m h).2));
                  apart = ol.apart;
                  one = ol.one;
                  below = λ e h _ _. h;
                },
              ))
              (λ (x : (j ≢ id) × (get_elem? all j ≡ some s)). let z = near j s x.0 x.1 in (z.2, z.3))
              (at_set all id j l s e));
        }

  none_own : Own k no_rights
  none_own = record { labels = λ e h. absurd h; single = λ w x h g is. absurd h; one = λ e f h g is. absurd h; apart = λ m h e g is. absurd h; awake = λ e h. absurd h; rises = λ w h. absurd h }

  none_beside : (s : Rights W E) → Beside k no_rights s × Beside k s no_rights
  none_beside s = (
    record { alone = λ m n h g. absurd h; apart = λ m h e g is. absurd h; one = λ e f h g is. absurd h; below = λ e h l p. absurd h },
    record { alone = λ m n h g. absurd g; apart = λ m h e g is. absurd g; one = λ e f h g is. absurd g; below = λ e h l p. absurd (true≢false (sym l)) },
  )

  module _ (all : List (Rights W E)) (id other : ℕ) (r s : Rights W E) (b : List Bool) (d : Divided k all) (ar : get_elem? all id ≡ some r) (at_s : get_elem? all other ≡ some s) (two : other ≢ id) (live : r.live ≡ true) (alive : s.live ≡ true) (rb : r.branch ≡ b ++ false ∷ []) (sb : s.branch ≡ b ++ true ∷ []) where
    base : stem r.branch ≡ b
    base = ap stem rb ∙ stem_push b false

    pub is_above : (e : E) → Member e (united k r s).shared → Member e r.shared × (length (k.label e) < length b)
    is_above e h = let q = member_filter (above k (stem r.branch)) e r.shared h in let l = ltb-true (length (k.label e)) (length (stem r.branch)) q.1 in let z = ap length base in (q.0, omega (arith, l, z))

    -- a label of one side that is not above the branch is the branch
    is_whole : (e : E) → Member e r.shared → length b ≤ length (k.label e) → k.label e ≡ b
    is_whole e h l = let q = (d.own id r ar).labels e h in
        let z = ap length rb in let y = length-append b (false ∷ []) in let x = q.1 in
        prefix_whole (k.label e) b (prefix_cut (k.label e) b false (ap (λ c. is_prefix (k.label e) c) (sym rb) ∙ q.0) (omega (arith, z, y, x))) l

    pub came_back : (e : E) → Member e r.shared → comes_back k (stem r.branch) e ≡ true → k.label e ≡ b
    came_back e h t = is_whole e h (⊎_elim (λ (l : length (k.label e) < length b). absurd (off (above k (stem r.branch) e) t (lt-ltb (length (k.label e)) (length (stem r.branch)) (let z = ap length base in omega (arith, l, z))))) (λ g. g) (cases_lt (length (k.label e)) (length b)))

    abbrev pub Back : W → Type 0
    Back m = (e : E) × Member e r.shared × (k.back e ≡ m) × (k.label e ≡ b)

    pub back_of : (m : W) → (p : Back m) → k.of p.0 ≡ k.slot m
    back_of m p = sym (k.back_slot p.0) ∙ ap k.slot p.2

    pub alone_cases : (m : W) → Member m (united k r s).alone → Member m r.alone ⊎ (Member m s.alone ⊎ Back m)
    alone_cases m h = ⊎_elim
        (λ x. ⊎_elim (λ p. inl p) (λ q. inr (inl q)) (member_cases m r.alone s.alone x))
        (λ y. let q = member_map k.back m (filter (comes_back k (stem r.branch)) r.shared) y in let z = member_filter (comes_back k (stem r.branch)) q.0 r.shared q.1 in inr (inr (q.0, z.0, q.2, came_back q.0 z.0 z.1)))
        (member_cases m (r.alone ++ s.alone) (map k.back (filter (comes_back k (stem r.branch)) r.shared)) h)

    -- what the right side shares, the left side shares
    pub shared_same : (e : E) → Member e s.shared → Member e r.shared
    shared_same e m =
        let o = (d.own other s at_s).labels e m in
        let n = ap length sb in
        let z = length-append b (true ∷ []) in
        let l = o.1 in
        (d.beside other id s r at_s ar two).below e m live (ap (λ c. is_prefix (k.label e) c) rb ∙ prefix_long (k.label e) b false (prefix_cut (k.label e) b true (ap (λ c. is_prefix (k.label e) c) (sym sb) ∙ o.0) (omega (arith, n, z, l))))

    pub meets : Met k r.alone s.alone r.shared s.shared
    meets =
        let rs = d.beside id other r s ar at_s (λ p. two (sym p)) in
        let sr = d.beside other id s r at_s ar two in
        record { alone = rs.alone; left = λ w e p q. rs.apart w p e q; right = λ w e p q. sr.apart w p e q; same = shared_same }

    module _ (strange : (j : ℕ) (u : Rights W E) → j ≢ id → j ≢ other → get_elem? all j ≡ some u → u.live ≡ true → Strangers r.branch u.branch × Strangers s.branch u.branch) where
      -- no third pass has what has this label
      pub none_there : (j : ℕ) (u : Rights W E) → j ≢ id → j ≢ other → get_elem? all j ≡ some u → (e : E) → Member e u.shared → k.label e ≡ b → ⊥
      none_there j u n o at e h is =
          let ou = d.own j u at in
          let q = ou.labels e h in
          let w = strange j u n o at (ou.awake e h) in
          let p : is_prefix b u.branch ≡ true = ap (λ c. is_prefix c u.branch) (sym is) ∙ q.0 in
          ⊎_elim
          (λ (x : is_prefix (b ++ false ∷ []) u.branch ≡ true). true≢false (sym x ∙ (ap (λ c. is_prefix c u.branch) (sym rb) ∙ w.0.0)))
          (λ y. ⊎_elim
          (λ (x : is_prefix (b ++ true ∷ []) u.branch ≡ true). true≢false (sym x ∙ (ap (λ c. is_prefix c u.branch) (sym sb) ∙ w.1.0)))
          (λ (x : u.branch ≡ b). let l = q.1 in let y = ap length x in let z = ap length is in absurd (omega (arith, l, y, z)))
          y)
          (prefix_next b u.branch p)

      united_own : Own k (united k r s)
      united_own =
          let o = d.own id r ar in
          let sr = d.beside other id s r at_s ar two in record {
            labels = λ e h. let q = is_above e h in let p = o.labels e q.0 in let l = q.1 in let z = ap length base in
                (subst (λ c. is_prefix (k.label e) c ≡ true) (sym base) (prefix_cut (k.label e) b false (ap (λ c. is_prefix (k.label e) c) (sym rb) ∙ p.0) (omega (arith, l))), omega (arith, l, z));
            single = λ w x hw hx is.
                let rs = d.beside id other r s ar at_s (λ p. two (sym p)) in ⊎_elim
                (λ p. ⊎_elim
                (λ q. o.single w x p q is)
                (λ y. ⊎_elim (λ q. absurd (rs.alone w x p q is)) (λ (q : Back x). absurd (o.apart w p q.0 q.1 (back_of x q ∙ sym is))) y)
                (alone_cases x hx))
                (λ z. ⊎_elim
                (λ p. ⊎_elim
                (λ q. absurd (sr.alone w x p q is))
                (λ y. ⊎_elim (λ q. (d.own other s at_s).single w x p q is) (λ (q : Back x). absurd (sr.apart w p q.0 q.1 (back_of x q ∙ sym is))) y)
                (alone_cases x hx))
                (λ (p : Back w). ⊎_elim
                (λ q. absurd (o.apart x q p.0 p.1 (back_of w p ∙ is)))
                (λ y. ⊎_elim (λ q. absurd (sr.apart x q p.0 p.1 (back_of w p ∙ is)))
                (λ (q : Back x). sym p.2 ∙ (ap k.back (o.one p.0 q.0 p.1 q.1 (back_of w p ∙ (is ∙ sym (back_of x q)))) ∙ q.2)) y)
                (alone_cases x hx))
                z)
                (alone_cases w hw);
            one = λ e f he hf is. o.one e f (is_above e he).0 (is_above f hf).0 is;
            apart = λ m h e g is. let q = is_above e g in ⊎_elim
                (λ p. o.apart m p e q.0 is)
                (λ y. ⊎_elim
                (λ p. sr.apart m p e q.0 is)
                (λ (x : Back m). let t = ap k.label (o.one e x.0 q.0 x.1 (is ∙ sym (back_of m x))) in let z = ap length (t ∙ x.3) in let l = q.1 in absurd (omega (arith, z, l)))
                y)
                (alone_cases m h);
            awake = λ _ _. live;
            rises = λ _ _. live;
          }

      united_beside : (j : ℕ) (u : Rights W E) → j ≢ id → j ≢ other → get_elem? all j ≡ some u → Beside k (united k r s) u × Beside k u (united k r s)
      united_beside j u n o at =
          let ru = d.beside id j r u ar at (λ p. n (sym p)) in
          let su = d.beside other j s u at_s at (λ p. o (sym p)) in
          let ur = d.beside j id u r at ar n in
          let clash : (m x : W) → Member m (united k r s).alone → Member x u.alone → k.slot m ≢ k.slot x = λ m x h g is. ⊎_elim
          (λ p. ru.alone m x p g is)
          (λ y. ⊎_elim (λ p. su.alone m x p g is) (λ (p : Back m). ur.apart x g p.0 p.1 (back_of m p ∙ is)) y)
          (alone_cases m h) in (
            record {
              alone = clash;
              apart = λ m h e g is. ⊎_elim
                  (λ p. ru.apart m p e g is)
                  (λ y. ⊎_elim (λ p. su.apart m p e g is) (λ (x : Back m). none_there j u n o at e g (ap k.label (sym (ru.one x.0 e x.1 g (back_of m x ∙ sym is))) ∙ x.3)) y)
                  (alone_cases m h);
              one = λ e f he hf is. ru.one e f (is_above e he).0 hf is;
              below = λ e he. ru.below e (is_above e he).0;
            },
            record {
              alone = λ m x h g is. clash x m g h (sym is);
              apart = λ m h e g. ur.apart m h e (is_above e g).0;
              one = λ e f he hf is. ur.one e f he (is_above f hf).0 is;
              below = λ e he _ pre.
                  let p : is_prefix (k.label e) b ≡ true = ap (λ c. is_prefix (k.label e) c) (sym base) ∙ pre in
                  let has = ur.below e he live (ap (λ c. is_prefix (k.label e) c) rb ∙ prefix_long (k.label e) b false p) in
                  let less : length (k.label e) < length (stem r.branch) = let z = ap length base in ⊎_elim (λ (l : length (k.label e) < length b). omega (arith, l, z))
                  (λ (g : length b ≤ length (k.label e)). absurd (none_there j u n o at e he (prefix_whole (k.label e) b p g))) (cases_lt (length (k.label e)) (length b)) in
                  filter_member (above k (stem r.branch)) e r.shared has (lt-ltb (length (k.label e)) (length (stem r.branch)) less);
            },
          )

      pub unites : Divided k (set (set all id (united k r s)) other no_rights)
      unites = record {
        own = all_set (λ _ z. Own k z) (set all id (united k r s)) other no_rights none_own
            (λ j u n e. all_set (λ _ z. Own k z) all id (united k r s) united_own (λ i y o q. d.own i y q) j u e);
        beside = subst (λ vs. (i j : ℕ) (v u : Rights W E) → get_elem? vs i ≡ some v → get_elem? vs j ≡ some u → i ≢ j → Beside k v u) (sym (set_comm all id other (united k r s) no_rights (λ p. two (sym p))))
            (pairs_set (Beside k) (set all other no_rights) id (united k r s)
            (pairs_set (Beside k) all other no_rights d.beside (λ j u n e. none_beside u))
            (λ j u n e. ⊎_elim
            (λ (x : (j ≡ other) × (no_rights ≡ u)). subst (λ z. Beside k (united k r s) z × Beside k z (united k r s)) x.1 (let z = none_beside (united k r s) in (z.1, z.0)))
            (λ (x : (j ≢ other) × (get_elem? all j ≡ some u)). united_beside j u n x.0 x.1)
            (at_set all other j no_rights u e)));
      }

  -- nobody has the slot
  abbrev pub Unknown : List (Rights W E) → W → Type 0
  Unknown all w = (j : ℕ) (s : Rights W E) → get_elem? all j ≡ some s → ((x : W) → Member x s.alone → k.slot x ≢ k.slot w) × ((e : E) → Member e s.shared → k.of e ≢ k.slot w)

  module _ (all : List (Rights W E)) (id : ℕ) (r : Rights W E) (d : Divided k all) (at : get_elem? all id ≡ some r) (live : r.live ≡ true) (alone : List W) where
    -- what one pass alone has becomes another list: of slots that it had, or that nobody has
    pub changes : ((w : W) → Member w alone → ((x : W) × Member x r.alone × (k.slot x ≡ k.slot w)) ⊎ Unknown all w)
        → ((w x : W) → Member w alone → Member x alone → k.slot w ≡ k.slot x → w ≡ x)
        → Divided k (set all id (record { live = r.live; branch = r.branch; alone = alone; shared = r.shared }))
    changes from single =
        let l : Rights W E = record { live = r.live; branch = r.branch; alone = alone; shared = r.shared } in
        let o = d.own id r at in
        let From : W → Type 0 = λ w. (x : W) × Member x r.alone × (k.slot x ≡ k.slot w) in
        let ol : Own k l = record {
          labels = o.labels;
          single = single;
          one = o.one;
          apart = λ w h e he is. ⊎_elim (λ (x : From w). o.apart x.0 x.1 e he (is ∙ sym x.2)) (λ (u : Unknown all w). (u id r at).1 e he is) (from w h);
          awake = o.awake;
          rises = λ _ _. live;
        } in
        record {
          own = all_set (λ _ z. Own k z) all id l ol (λ j u n e. d.own j u e);
          beside = pairs_set (Beside k) all id l d.beside (λ j s n e.
              let rs = d.beside id j r s at e (λ p. n (sym p)) in
              let sr = d.beside j id s r e at n in (
                record {
                  alone = λ w x h g is. ⊎_elim (λ (y : From w). rs.alone y.0 x y.1 g (y.2 ∙ is)) (λ (u : Unknown all w). (u j s e).0 x g (sym is)) (from w h);
                  apart = λ w h f g is. ⊎_elim (λ (y : From w). rs.apart y.0 y.1 f g (is ∙ sym y.2)) (λ (u : Unknown all w). (u j s e).1 f g is) (from w h);
                  one = rs.one;
                  below = rs.below;
                },
                record {
                  alone = λ w x h g is. ⊎_elim (λ (y : From x). sr.alone w y.0 h y.1 (is ∙ sym y.2)) (λ (u : Unknown all x). (u j s e).0 w h is) (from x g);
                  apart = sr.apart;
                  one = sr.one;
                  below = sr.below;
                },
              ));
        }
