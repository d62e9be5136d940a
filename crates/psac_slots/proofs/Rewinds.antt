-- A sole pass learns the counter, sets it back, and gives slots back.
use Rattle.psac_slots.proofs.Terms.{◌≡◌, ◌≢◌, ◌⊎◌, ℕ, zero, suc, ◌+◌, ◌-◌, ◌%◌, ◌^◌, ◌<◌, ◌≤◌, List, [], ◌∷◌, ◌++◌, length, set, take, drop, Bool, true, false, true≢false, cond, refl, sym, ap, ◌∙◌, subst, inl, inr, ⊎_elim, arith, Some, length-set, length-append, mod-lt, sum_by, ◌==◌, All, sum_by_push, All-push, lt-ltb, le-ltb, cases_lt, cases_eq, eq-eqb, ne_eqb, add-mod_right, some, get_elem?, set_here, set_else, one_turn, ClaimView, Handle, Member, word_of, IsHandle, later, slot_times, removed, once_below, weight, times, place, Fits, Claimed, Accounted, DrewBelow, spent, learned, counted, turned, rewound, returned, gave}
use Rattle.psac_slots.proofs.Sums.{bit, sum_set, sum_at, sum_none, all_set, at_drop, at_new, at_less}
use Rattle.psac_slots.proofs.Removed.{member_times, removed_gone, removed_else, removed_length, at_most_once}
use Rattle.psac_slots.proofs.Keeps.{apart_same, none_beside, idle}

-- one turn less is the same place
turned_place : (count a k : ℕ) → (a < count) ⊎ (count ≤ a) → (turned count a + k) % count ≡ (a + k) % count
turned_place count a k (inl l) = ap (λ (b : Bool). (cond b a (a - count) + k) % count) (lt-ltb a count l)
turned_place count a k (inr g) = ap (λ (b : Bool). (cond b a (a - count) + k) % count) (le-ltb a count g)
    ∙ (sym (add-mod_right ((a - count) + k) count) ∙ ap (λ (n : ℕ). n % count) (omega (arith, g)))

pub turned_low : (count a : ℕ) → a ≤ count + count → (a < count) ⊎ (count ≤ a) → turned count a ≤ count
turned_low count a l (inl x) = rw (lt-ltb a count x) (omega (arith, x))
turned_low count a l (inr g) = rw (le-ltb a count g) (omega (arith, l, g))

all_drop : (c : ℕ) (l : List Handle) → All IsHandle l → All IsHandle (drop c l)
all_drop zero l a = a
all_drop (suc c) [] a = a
all_drop (suc c) (x ∷ l) a = all_drop c l (λ k d b. a (suc k) d (omega arith))

pub parts : (c : ℕ) (l : List Handle) → length (take c l) + length (drop c l) ≡ length l
parts zero l = omega arith
parts (suc c) [] = omega arith
parts (suc c) (x ∷ l) = let r = parts c l in omega (arith, r)

pub taken_few : (c : ℕ) (l : List Handle) → c ≤ length l → length (take c l) ≡ c
taken_few zero l p = refl
taken_few (suc c) [] p = absurd (omega (arith, p))
taken_few (suc c) (x ∷ l) p = ap suc (taken_few c l (omega (arith, p)))

pub taken_all : (c : ℕ) (l : List Handle) → length l ≤ c → length (take c l) ≡ length l
taken_all zero [] p = refl
taken_all zero (x ∷ l) p = absurd (omega (arith, p))
taken_all (suc c) [] p = refl
taken_all (suc c) (x ∷ l) p = ap suc (taken_all c l (omega (arith, p)))

-- a pass that knows the counter knows how much of the list is gone
pub gone_is : (v : ClaimView) (room n gone k : ℕ) → length v.list ≡ room → v.counter ≡ Some k → n ≡ k → ((l : List Handle) → length l ≡ room → length (take n l) ≡ gone) → length (take (counted v.counter) v.list) ≡ gone
gone_is v room n gone k e knows is took = ap (λ (i : ℕ). length (take i v.list)) (ap counted knows ∙ sym is) ∙ took v.list e

-- what is left of the ring
pub rest_is : (v : ClaimView) (count head room gone : ℕ) → length v.list ≡ room → room ≤ count → head ≤ count → length (take (counted v.counter) v.list) ≡ gone
    → (length (drop (counted v.counter) v.list) ≡ room - gone) × (room - gone ≤ count) × (head + gone ≤ count + count) × (turned count (head + gone) ≤ count)
rest_is v count head room gone b c d e =
    let a = parts (counted v.counter) v.list in
    let low : head + gone ≤ count + count = omega (arith, a, b, c, d, e) in
    (omega (arith, a, b, e), omega (arith, c), low, turned_low count (head + gone) low (cases_lt (head + gone) count))

-- where something is left, the whole counter was taken
whole_taken : (c : ℕ) (l : List Handle) → 0 < length (drop c l) → length (take c l) ≡ c
whole_taken zero l p = refl
whole_taken (suc c) [] p = absurd (omega (arith, p))
whole_taken (suc c) (x ∷ l) p = ap suc (whole_taken c l p)

module _ (count c head : ℕ) (list : List Handle) (words : List ℕ) (views : List ClaimView) (h : Claimed count c head list words views) (id : ℕ) (v : ClaimView) (at : get_elem? views id ≡ some v) (live : v.live ≡ true) (empty : v.branch ≡ []) where
  pub alone : (j : ℕ) (u : ClaimView) → j ≢ id → get_elem? views j ≡ some u → u.live ≡ false
  alone j u n e = none_beside views id j v u h.weights at e n live empty

  -- what all passes have in some way is what the sole one has
  pub alone_sum : (f : ClaimView → ℕ) → f spent ≡ 0 → ((u : ClaimView) → u.drawn ≡ [] → u.held ≡ [] → f u ≡ 0) → sum_by f views ≡ f v
  alone_sum f none gone =
      let b = sum_none f (set views id spent) (all_set (λ _ (u : ClaimView). f u ≡ 0) views id spent none (λ j u n e. let g = (h.each j u e).gone (alone j u n e) in gone u g.0 g.1)) in
      omega (arith, sum_set f views id v spent at, b, none)

  pub drawn_all : DrewBelow c v
  drawn_all k = let a = alone_sum (λ (u : ClaimView). times k u.drawn) refl (λ u d _. ap (times k) d) in let b = h.drawn k in omega (arith, a, b)

  pub accounted : v.counter ≡ Some c → Accounted (rewound v)
  accounted knows =
      let f = h.each id v at in
      let list_is : (rewound v).list ≡ drop c list = λ i. drop (ap counted knows i) (f.list_is live i) in
      let count_is = f.count_is live in
      record {
        all = let a = alone_sum (λ (u : ClaimView). length u.held) refl (λ u _ d. ap length d) in let b = h.all in let n = ap length list_is in omega (arith, a, b, n, count_is);
        slots = λ s. let a = alone_sum (λ (u : ClaimView). slot_times s u.held) refl (λ u _ d. ap (slot_times s) d) in let b = h.slots s in let n = ap (slot_times s) list_is in let m = ap (once_below s) count_is in omega (arith, a, b, n, m);
      }

  pub learns_at : Claimed count c head list words (set views id (learned c v))
  learns_at =
      let w = learned c v in
      let mine = h.each id v at in
      record {
        long = h.long;
        head_low = h.head_low;
        counter_is = h.counter_is;
        stored = h.stored;
        sized = h.sized;
        room = h.room;
        weights = let a = sum_set weight views id v w at in let t : weight w ≡ weight v = refl in let b = h.weights in omega (arith, a, b, t);
        over = let a = sum_set (λ (u : ClaimView). u.over) views id v w at in let o = h.over in omega (arith, a, o);
        drawn = λ k. let a = sum_set (λ (u : ClaimView). times k u.drawn) views id v w at in omega (arith, a, h.drawn k);
        slots = λ x. let a = sum_set (λ (u : ClaimView). slot_times x u.held) views id v w at in omega (arith, a, h.slots x);
        all = let a = sum_set (λ (u : ClaimView). length u.held) views id v w at in let o = h.all in omega (arith, a, o);
        each = all_set (λ _ u. Fits count c head list u) views id w
            record { over = mine.over; count_is = mine.count_is; head_is = mine.head_is; list_is = mine.list_is; short = mine.short; gone = mine.gone; sole = (refl, live, empty) }
            (λ j u n e. h.each j u e);
        apart = apart_same views id v w h.apart at live refl;
      }

  -- the list is its undrawn part, and the counter is 0
  pub rewinds_at : v.counter ≡ Some c → Claimed count 0 (turned count (head + length (take c list))) (drop c list) (set words 0 0) (set views id (rewound v))
  rewinds_at knows =
      let w = rewound v in
      let f = h.each id v at in
      let counter : counted v.counter ≡ c = ap counted knows in
      let taken = parts c list in
      let top = h.head_low in
      let fits = h.room in
      let head_is : w.head ≡ turned count (head + length (take c list)) = λ i. turned (f.count_is live i) (f.head_is live i + length (take (counter i) (f.list_is live i))) in
      let list_is : w.list ≡ drop c list = λ i. drop (counter i) (f.list_is live i) in
      record {
        long = (let a = h.long in let b = length-set words 0 0 in omega (arith, a, b));
        head_low = turned_low count (head + length (take c list)) (omega (arith, top, taken, fits)) (cases_lt (head + length (take c list)) count);
        counter_is = set_here words 0 0 (let a = h.long in omega (arith, a));
        stored = λ k x e.
            let t = whole_taken c list (omega (arith, at_less (drop c list) k x e)) in
            set_else words 0 (place count (turned count (head + length (take c list)) + k)) 0 (λ q. absurd (omega (arith, q)))
            ∙ (ap (λ (i : ℕ). get_elem? words (suc i)) (turned_place count (head + length (take c list)) k (cases_lt (head + length (take c list)) count))
            ∙ (ap (λ (i : ℕ). get_elem? words (place count i)) (let z : (head + length (take c list)) + k ≡ head + (c + k) = omega (arith, t) in z) ∙ h.stored (c + k) x (sym (at_drop list c k) ∙ e)));
        sized = all_drop c list h.sized;
        room = (omega (arith, taken, fits), h.room.1);
        weights = let a = sum_set weight views id v w at in let t : weight w ≡ weight v = refl in let b = h.weights in omega (arith, a, b, t);
        over = let z = sum_none (λ (u : ClaimView). u.over) (set views id w) (all_set (λ _ (u : ClaimView). u.over ≡ 0) views id w refl
            (λ j u n e. let g = (h.each j u e).over in let t : weight u ≡ 0 = ap (λ x. cond x (2 ^ (62 - length u.branch)) 0) (alone j u n e) in omega (arith, g, t))) in omega (arith, z);
        drawn = λ k. sum_none (λ (u : ClaimView). times k u.drawn) (set views id w) (all_set (λ _ (u : ClaimView). times k u.drawn ≡ 0) views id w refl (λ j u n e. ap (times k) ((h.each j u e).gone (alone j u n e)).0))
            ∙ sym (ap {B = ℕ} (λ (b : Bool). cond b 1 0) (le-ltb k 0 (omega arith)));
        slots = λ x. let a = sum_set (λ (u : ClaimView). slot_times x u.held) views id v w at in let o = h.slots x in omega (arith, a, o);
        all = let a = sum_set (λ (u : ClaimView). length u.held) views id v w at in let o = h.all in omega (arith, a, o);
        each = all_set (λ _ u. Fits count 0 (turned count (head + length (take c list))) (drop c list) u) views id w
            record { over = omega arith; count_is = f.count_is; head_is = λ _. head_is; list_is = λ _. list_is; short = f.short; gone = λ z. absurd (true≢false (sym live ∙ z)); sole = (refl, live, empty) }
            (λ j u n e. idle count c 0 head (turned count (head + length (take c list))) list (drop c list) u (alone j u n e) (h.each j u e));
        apart = apart_same views id v w h.apart at live refl;
      }

  -- a slot goes behind the list, with some generation
  pub returns_at : c ≡ 0 → (x : Handle) → Member x v.held → (g : ℕ) → g < 4294967296
      → (let y : Handle = record { slot = x.slot; generation = g } in Claimed count c head (list ++ y ∷ []) (set words (place count (head + length list)) (word_of y)) (set views id (returned y v)))
  returns_at none x has g next =
      let y : Handle = record { slot = x.slot; generation = g } in
      let w = returned y v in
      let f = h.each id v at in
      let here = member_times x v.held has in
      let once = at_most_once x.slot count in
      let whole = sum_at (λ (u : ClaimView). slot_times x.slot u.held) views id v at in
      let one = h.slots x.slot in
      let len = removed_length x.slot v.held in
      let d : drop c list ≡ list = ap (λ (k : ℕ). drop k list) none in
      let d' : drop c (list ++ y ∷ []) ≡ list ++ y ∷ [] = ap (λ (k : ℕ). drop k (list ++ y ∷ [])) none in
      let dl = ap length d in
      let longer = length-append list (y ∷ []) in
      let every = h.all in
      let held = sum_at (λ (u : ClaimView). length u.held) views id v at in
      let room : length list < count = omega (arith, every, held, dl, len, here) in
      let p = place count (head + length list) in
      let long = h.long in
      let low : p < length words = let m = mod-lt (head + length list) {m = count} (omega (arith, room)) in omega (arith, m, long) in
      let size : x.slot < 4294967296 = small in
      record {
        long = (let b = length-set words p (word_of y) in omega (arith, long, b));
        head_low = h.head_low;
        counter_is = set_else words p 0 (word_of y) (λ q. absurd (omega (arith, q))) ∙ h.counter_is;
        stored = λ k z e. ⊎_elim
            (λ (o : (k < length list) × (get_elem? list k ≡ some z)). set_else words p (place count (head + k)) (word_of y)
            (λ q. let b = o.0 in let t = one_turn (head + k) (head + length list) count (omega (arith, b)) (omega (arith, b, room)) (omega (arith, q)) in absurd (omega (arith, t, b)))
            ∙ h.stored k z o.1)
            (λ (o : (k ≡ length list) × (y ≡ z)). subst (λ i. get_elem? (set words p (word_of y)) i ≡ some (word_of z)) (ap (λ (i : ℕ). place count (head + i)) (sym o.0))
            (set_here words p (word_of y) low ∙ ap (λ (q : Handle). some (word_of q)) o.1))
            (at_new list y z k e);
        sized = All-push IsHandle list (y) h.sized (size, omega (arith, next));
        room = (omega (arith, longer, room), h.room.1);
        weights = let a = sum_set weight views id v w at in let t : weight w ≡ weight v = refl in let b = h.weights in omega (arith, a, b, t);
        over = let a = sum_set (λ (u : ClaimView). u.over) views id v w at in let o = h.over in omega (arith, a, o, none);
        drawn = λ k. let a = sum_set (λ (u : ClaimView). times k u.drawn) views id v w at in omega (arith, a, h.drawn k);
        slots = λ z. let a = sum_set (λ (u : ClaimView). slot_times z u.held) views id v w at in
            let b = sum_by_push (λ (q : Handle). cond (q.slot == z) 1 0) list (y) in
            let e = ap (slot_times z) d' in
            let i = ap (slot_times z) d in
            ⊎_elim
            (λ (same : z ≡ x.slot). let t : bit (x.slot == z) ≡ 1 = ap bit (eq-eqb x.slot z (sym same)) in
            let r : slot_times z (removed x.slot v.held) ≡ 0 = ap (λ k. slot_times k (removed x.slot v.held)) same ∙ removed_gone x.slot v.held in
            let r' : slot_times z v.held ≡ 1 = ap (λ k. slot_times k v.held) same ∙ omega (arith, here, once, whole, one) in
            let o = h.slots z in omega (arith, a, b, e, i, t, r, r', o))
            (λ (other : z ≢ x.slot). let t : bit (x.slot == z) ≡ 0 = ap bit (ne_eqb x.slot z (λ q. other (sym q))) in
            let o = h.slots z in omega (arith, a, b, e, i, t, removed_else z x.slot v.held other, o))
            (cases_eq z x.slot);
        all = let a = sum_set (λ (u : ClaimView). length u.held) views id v w at in let e = ap length d' in
            omega (arith, a, e, dl, longer, every, len, here, once, whole, one);
        each = all_set (λ _ u. Fits count c head (list ++ y ∷ []) u) views id w
            record { over = f.over; count_is = f.count_is; head_is = f.head_is; list_is = λ l. ap (λ z. z ++ y ∷ []) (f.list_is l); short = f.short; gone = λ z. absurd (true≢false (sym live ∙ z)); sole = f.sole }
            (λ j u n e. idle count c c head head list (list ++ y ∷ []) u (alone j u n e) (h.each j u e));
        apart = apart_same views id v w h.apart at live refl;
      }
    where
      small : x.slot < 4294967296
      small = ⊎_elim (λ (l : x.slot < count). let r = h.room.1 in omega (arith, l, r))
          (λ (g : count ≤ x.slot). let z : once_below x.slot count ≡ 0 = ap (λ (b : Bool). cond b 1 0) (le-ltb x.slot count g) in
          let here = member_times x v.held has in let whole = sum_at (λ (u : ClaimView). slot_times x.slot u.held) views id v at in let one = h.slots x.slot in absurd (omega (arith, z, here, whole, one)))
          (cases_lt x.slot count)

  -- and with the next one
  pub gives_at : c ≡ 0 → (x : Handle) → Member x v.held → x.generation < 4294967295
      → Claimed count c head (list ++ later x ∷ []) (set words (place count (head + length list)) (word_of (later x))) (set views id (gave x v))
  gives_at none x has next = returns_at none x has (suc x.generation) (omega (arith, next))
