-- A claim, a split and a join keep the rule of claims.
use Rattle.psac_slots.proofs.Terms.{◌≡◌, ◌≢◌, ◌⊎◌, ℕ, suc, ◌+◌, ◌-◌, ◌%◌, ◌^◌, ◌<◌, ◌≤◌, List, [], ◌∷◌, ◌++◌, length, set, drop, Bool, true, false, true≢false, cond, ltb, refl, sym, ap, ◌∙◌, subst, inl, inr, ⊎_elim, arith, Option, Some, None, length-append, length-set, mod-lt, sum_by, ◌==◌, IfSome, sum_by-append, sum_by_push, lt-ltb, le-ltb, cases_lt, cases_Bool, pow_pos, set_comm, pow-suc, some, get_elem?, set_else, set_here, ClaimView, Handle, is_prefix, stem, slot_times, weight, times, place, Fits, Apart, Claimed, entry, counted_on, drew, left_of, right_of, joined, spent}
use Rattle.psac_slots.proofs.Sums.{sum_set, sum_two, sum_le, all_set, all_end, at_less, cut_one, once_below_more}
use Rattle.psac_slots.proofs.Pairs.{pairs_set, pairs_end}
use Rattle.psac_slots.proofs.Turns.{prefix_refl, prefix_short, prefix_long, prefix_cases, prefix_next, sides_apart, stem_push}

abbrev Parted : ClaimView → ClaimView → Type 0
Parted v u = v.live ≡ true → u.live ≡ true → is_prefix v.branch u.branch ≡ false

-- the other branches after one view became w
apart_set : (views : List ClaimView) (id : ℕ) (w : ClaimView) → Apart views
    → (w.live ≡ true → (j : ℕ) (u : ClaimView) → j ≢ id → get_elem? views j ≡ some u → u.live ≡ true → (is_prefix w.branch u.branch ≡ false) × (is_prefix u.branch w.branch ≡ false))
    → Apart (set views id w)
apart_set views id w h mine = pairs_set Parted views id w h (λ j u n e. (λ lw lu. (mine lw j u n e lu).0, λ lu lw. (mine lw j u n e lu).1))

-- a view with the branch that it had
pub apart_same : (views : List ClaimView) (id : ℕ) (v w : ClaimView) → Apart views → get_elem? views id ≡ some v → v.live ≡ true → w.branch ≡ v.branch → Apart (set views id w)
apart_same views id v w h at live same = apart_set views id w h (λ lw j u n e lu. (
  ap (λ (b : List Bool). is_prefix b u.branch) same ∙ h id j v u at e (λ p. n (sym p)) live lu,
  ap (λ (b : List Bool). is_prefix u.branch b) same ∙ h j id u v e at n lu live,
))

weight_of : (v : ClaimView) → v.live ≡ true → weight v ≡ 2 ^ (62 - length v.branch)
weight_of v live = ap (λ b. cond b (2 ^ (62 - length v.branch)) 0) live

pub weight_live : (v : ClaimView) → v.live ≡ true → 0 < weight v
weight_live v live = let p = pow_pos (62 - length v.branch) in let e = weight_of v live in omega (arith, p, e)

pub weight_whole : (v : ClaimView) → v.live ≡ true → v.branch ≡ [] → weight v ≡ 2 ^ 62
weight_whole v live empty = weight_of v live ∙ ap (λ (b : List Bool). 2 ^ (62 - length b)) empty

-- beside a pass with the empty branch no other is live
pub none_beside : (views : List ClaimView) (id j : ℕ) (v u : ClaimView) → sum_by weight views ≡ 2 ^ 62 → get_elem? views id ≡ some v → get_elem? views j ≡ some u → j ≢ id → v.live ≡ true → v.branch ≡ [] → u.live ≡ false
none_beside views id j v u all at e n live empty = ⊎_elim
    (λ (t : u.live ≡ true). let two = sum_two weight views j id u v n e at in let b = weight_live u t in let c = weight_whole v live empty in absurd (omega (arith, two, all, b, c)))
    (λ f. f)
    (cases_Bool u.live)

-- a view that is not live, or that knows no counter, tells nothing of it
sole_goes : (o : Option ℕ) (c d : ℕ) (u : ClaimView) → (u.live ≡ true → u.branch ≡ [] → ⊥) → IfSome o (λ k. (k ≡ c) × (u.live ≡ true) × (u.branch ≡ [])) → IfSome o (λ k. (k ≡ d) × (u.live ≡ true) × (u.branch ≡ []))
sole_goes None c d u never h = tt
sole_goes (Some k) c d u never h = absurd (never h.1 h.2)

-- what another view says still holds, whatever the counter, the ring and the list become
pub idle : (count c d h g : ℕ) (l m : List Handle) (u : ClaimView) → u.live ≡ false → Fits count c h l u → Fits count d g m u
idle count c d h g l m u dead f = record {
  over = f.over;
  count_is = f.count_is;
  head_is = λ t. absurd (true≢false (sym t ∙ dead));
  list_is = λ t. absurd (true≢false (sym t ∙ dead));
  short = f.short;
  gone = f.gone;
  sole = sole_goes u.counter c d u (λ t e. absurd (true≢false (sym t ∙ dead))) f.sole;
}

-- the counter is at most the room plus 2 ^ 62
pub bounded : (count c head : ℕ) (list : List Handle) (words : List ℕ) (views : List ClaimView) → Claimed count c head list words views → c ≤ length list + 2 ^ 62
bounded count c head list words views h = let s = sum_le (λ (v : ClaimView). v.over) weight views (λ i v e. (h.each i v e).over) in let a = h.weights in let o = h.over in omega (arith, s, a, o)

abbrev past : ℕ → List Handle → ℕ
past c l = cond (ltb c (length l)) 0 1

over_more : (c room : ℕ) → (c < room) ⊎ (room ≤ c) → suc c - room ≡ (c - room) + cond (ltb c room) 0 1
over_more c room (inl l) = rw (lt-ltb c room l) (omega arith)
over_more c room (inr g) = rw (le-ltb c room g) (omega arith)

cond_small : (b : Bool) → cond b 0 1 ≤ 1
cond_small true = omega arith
cond_small false = omega arith

sole_on : (o : Option ℕ) (c : ℕ) (u : ClaimView) → IfSome o (λ k. (k ≡ c) × (u.live ≡ true) × (u.branch ≡ [])) → IfSome (counted_on o c) (λ k. (k ≡ suc c) × (u.live ≡ true) × (u.branch ≡ []))
sole_on None c u h = tt
sole_on (Some k) c u h = (refl, h.1, h.2)

module _ (count c head : ℕ) (list : List Handle) (words : List ℕ) (views : List ClaimView) (h : Claimed count c head list words views) (id : ℕ) (v : ClaimView) (at : get_elem? views id ≡ some v) (live : v.live ≡ true) where
  pub draws_at : v.over ≡ 0 → Claimed count (suc c) head list (set words 0 ((c + 1) % 2 ^ 64)) (set views id (drew v c))
  draws_at none =
      let w : ClaimView = drew v c in
      let mine = h.each id v at in
      let same : v.list ≡ list = mine.list_is live in
      let room = h.room in
      let small : (c + 1) % 2 ^ 64 ≡ suc c = omega (arith, bounded count c head list words views h, room) in
      let one = weight_live v live in
      let cut = cut_one c list in
      record {
        long = (let l = h.long in let m = length-set words 0 ((c + 1) % 2 ^ 64) in omega (arith, l, m));
        head_low = h.head_low;
        counter_is = set_here words 0 ((c + 1) % 2 ^ 64) (let l = h.long in omega (arith, l)) ∙ ap some small;
        stored = λ k x e. set_else words 0 (place count (head + k)) ((c + 1) % 2 ^ 64) (λ q. absurd (omega (arith, q))) ∙ h.stored k x e;
        sized = h.sized;
        room = h.room;
        weights = let s = sum_set weight views id v w at in let t : weight w ≡ weight v = refl in omega (arith, s, h.weights, t);
        over = let s = sum_set (λ (u : ClaimView). u.over) views id v w at in let m = over_more c (length list) (cases_lt c (length list)) in
            let r = ap (past c) same in let o = h.over in omega (arith, s, m, r, o);
        drawn = λ k. let s = sum_set (λ (u : ClaimView). times k u.drawn) views id v w at in let p = sum_by_push (λ (x : ℕ). cond (x == k) 1 0) v.drawn c in let o = once_below_more k c in omega (arith, s, p, o, h.drawn k);
        slots = λ x. let s = sum_set (λ (u : ClaimView). slot_times x u.held) views id v w at in
            let f : Handle → ℕ = λ (y : Handle). cond (y.slot == x) 1 0 in
            let q : slot_times x (entry v.list c) ≡ slot_times x (entry list c) = ap (λ (l : List Handle). slot_times x (entry l c)) same in
            let d : slot_times x (drop c list) ≡ slot_times x (entry list c) + slot_times x (drop (suc c) list) = ap (slot_times x) cut ∙ sum_by-append f (entry list c) (drop (suc c) list) in
            omega (arith, s, sum_by-append f v.held (entry v.list c), q, d, h.slots x);
        all = let s = sum_set (λ (u : ClaimView). length u.held) views id v w at in
            let q : length (entry v.list c) ≡ length (entry list c) = ap (λ (l : List Handle). length (entry l c)) same in
            let d : length (drop c list) ≡ length (entry list c) + length (drop (suc c) list) = ap length cut ∙ length-append (entry list c) (drop (suc c) list) in
            let a = h.all in omega (arith, s, length-append v.held (entry v.list c), q, d, a);
        each = all_set (λ _ u. Fits count (suc c) head list u) views id w
            (record { over = (let b = cond_small (ltb c (length v.list)) in let t : weight w ≡ weight v = refl in omega (arith, b, one, none, t)); count_is = mine.count_is; head_is = mine.head_is; list_is = mine.list_is; short = mine.short; gone = λ z. absurd (true≢false (sym live ∙ z)); sole = sole_on v.counter c v mine.sole })
            (λ j u n e. let f = h.each j u e in record { over = f.over; count_is = f.count_is; head_is = f.head_is; list_is = f.list_is; short = f.short; gone = f.gone; sole = sole_goes u.counter c (suc c) u (λ lu empty. true≢false (sym live ∙ none_beside views j id u v h.weights e at (λ p. n (sym p)) lu empty)) f.sole });
        apart = apart_same views id v w h.apart at live refl;
      }

-- a store past the ring
pub else_at : (count c head : ℕ) (list : List Handle) (words : List ℕ) (views : List ClaimView) (i w : ℕ) → count < i → Claimed count c head list words views → Claimed count c head list (set words i w) views
else_at count c head list words views i w far h = record {
  long = (let l = h.long in let m = length-set words i w in omega (arith, l, m));
  head_low = h.head_low;
  counter_is = set_else words i 0 w (λ q. absurd (omega (arith, q, far))) ∙ h.counter_is;
  stored = λ k x e. set_else words i (place count (head + k)) w
      (λ q. let g = at_less list k x e in let r = h.room in let m = mod-lt (head + k) {m = count} (omega (arith, g, r)) in absurd (omega (arith, q, far, m)))
      ∙ h.stored k x e;
  sized = h.sized;
  room = h.room;
  weights = h.weights;
  over = h.over;
  drawn = h.drawn;
  slots = h.slots;
  all = h.all;
  each = h.each;
  apart = h.apart;
}

halves : (n : ℕ) → n < 62 → 2 ^ (62 - (n + 1)) + 2 ^ (62 - (n + 1)) ≡ 2 ^ (62 - n)
halves n l = let e : 62 - n ≡ suc (62 - (n + 1)) = omega arith in rw e (let p = pow-suc 2 (62 - (n + 1)) in omega (arith, p))

apart_end : (views : List ClaimView) (r : ClaimView) → Apart views
    → ((j : ℕ) (u : ClaimView) → get_elem? views j ≡ some u → u.live ≡ true → (is_prefix r.branch u.branch ≡ false) × (is_prefix u.branch r.branch ≡ false))
    → Apart (views ++ r ∷ [])
apart_end views r h mine = pairs_end Parted views r h (λ j u e. (λ _ lu. (mine j u e lu).0, λ lu _. (mine j u e lu).1))

-- a side of a branch is apart from what the branch was apart from
pub side_apart : (b o : List Bool) (x : Bool) → is_prefix b o ≡ false → is_prefix o b ≡ false → (is_prefix (b ++ x ∷ []) o ≡ false) × (is_prefix o (b ++ x ∷ []) ≡ false)
side_apart b o x p q = (
  ⊎_elim (λ (t : is_prefix (b ++ x ∷ []) o ≡ true). absurd (true≢false (sym (prefix_short b x o t) ∙ p))) (λ f. f) (cases_Bool (is_prefix (b ++ x ∷ []) o)),
  ⊎_elim (λ (t : is_prefix o (b ++ x ∷ []) ≡ true). ⊎_elim (λ y. absurd (true≢false (sym y ∙ q))) (λ y. absurd (true≢false (sym y ∙ p))) (prefix_cases o b x t)) (λ f. f) (cases_Bool (is_prefix o (b ++ x ∷ []))),
)

pub splits_at : (count c head : ℕ) (list : List Handle) (words : List ℕ) (views : List ClaimView) → Claimed count c head list words views
    → (id : ℕ) (v : ClaimView) → get_elem? views id ≡ some v → v.live ≡ true → v.over ≡ 0 → length v.branch < 62
    → Claimed count c head list words (set views id (left_of v) ++ right_of v ∷ [])
splits_at count c head list words views h id v at live none short =
    let l = left_of v in
    let r = right_of v in
    let mid : List ClaimView = set views id l in
    let mine = h.each id v at in
    let len_l : length l.branch ≡ length v.branch + 1 = length-append v.branch (false ∷ []) in
    let len_r : length r.branch ≡ length v.branch + 1 = length-append v.branch (true ∷ []) in
    let wl : weight l ≡ 2 ^ (62 - (length v.branch + 1)) = weight_of l live ∙ ap (λ (k : ℕ). 2 ^ (62 - k)) len_l in
    let wr : weight r ≡ 2 ^ (62 - (length v.branch + 1)) = ap (λ (k : ℕ). 2 ^ (62 - k)) len_r in
    let wv = weight_of v live in
    let half = halves (length v.branch) short in
    record {
      long = h.long;
      head_low = h.head_low;
      counter_is = h.counter_is;
      stored = h.stored;
      sized = h.sized;
      room = h.room;
      weights = let a = sum_set weight views id v l at in let b = sum_by_push weight mid r in omega (arith, a, b, wl, wr, wv, half, h.weights);
      over = let a = sum_set (λ (u : ClaimView). u.over) views id v l at in let b = sum_by_push (λ (u : ClaimView). u.over) mid r in let o = h.over in omega (arith, a, b, o);
      drawn = λ k. let a = sum_set (λ (u : ClaimView). times k u.drawn) views id v l at in let b = sum_by_push (λ (u : ClaimView). times k u.drawn) mid r in omega (arith, a, b, h.drawn k);
      slots = λ x. let a = sum_set (λ (u : ClaimView). slot_times x u.held) views id v l at in let b = sum_by_push (λ (u : ClaimView). slot_times x u.held) mid r in omega (arith, a, b, h.slots x);
      all = let a = sum_set (λ (u : ClaimView). length u.held) views id v l at in let b = sum_by_push (λ (u : ClaimView). length u.held) mid r in let o = h.all in omega (arith, a, b, o);
      each = all_end (λ _ u. Fits count c head list u) mid r
          (all_set (λ _ u. Fits count c head list u) views id l (record { over = omega (arith, none); count_is = mine.count_is; head_is = mine.head_is; list_is = mine.list_is; short = λ _. omega (arith, len_l, short); gone = λ z. absurd (true≢false (sym live ∙ z)); sole = tt }) (λ j u n e. h.each j u e))
          (λ j. record { over = omega arith; count_is = λ _. mine.count_is live; head_is = λ _. mine.head_is live; list_is = λ _. mine.list_is live; short = λ _. omega (arith, len_r, short); gone = λ (z : true ≡ false). absurd (true≢false z); sole = tt });
      apart = apart_end mid r
          (apart_set views id l h.apart (λ ll j u n e lu. side_apart v.branch u.branch false (h.apart id j v u at e (λ p. n (sym p)) live lu) (h.apart j id u v e at n lu live)))
          (all_set (λ _ (u : ClaimView). u.live ≡ true → (is_prefix r.branch u.branch ≡ false) × (is_prefix u.branch r.branch ≡ false)) views id l
          (λ _. let t = sides_apart v.branch in (t.1, t.0))
          (λ j u n e lu. side_apart v.branch u.branch true (h.apart id j v u at e (λ p. n (sym p)) live lu) (h.apart j id u v e at n lu live)));
    }

-- what is apart from both sides of a branch is apart from the branch
whole_apart : (b o l r : List Bool) → l ≡ b ++ false ∷ [] → r ≡ b ++ true ∷ [] → is_prefix l o ≡ false → is_prefix o l ≡ false → is_prefix r o ≡ false → (is_prefix b o ≡ false) × (is_prefix o b ≡ false)
whole_apart b o l r el er p q s = (
  ⊎_elim
      (λ (t : is_prefix b o ≡ true). ⊎_elim
      (λ (x : is_prefix (b ++ false ∷ []) o ≡ true). absurd (true≢false (sym x ∙ (ap (λ (y : List Bool). is_prefix y o) (sym el) ∙ p))))
      (λ y. ⊎_elim
      (λ (x : is_prefix (b ++ true ∷ []) o ≡ true). absurd (true≢false (sym x ∙ (ap (λ (z : List Bool). is_prefix z o) (sym er) ∙ s))))
      (λ (x : o ≡ b). absurd (true≢false (sym (prefix_long o b false (ap (λ (z : List Bool). is_prefix o z) (sym x) ∙ prefix_refl o)) ∙ (ap (λ (z : List Bool). is_prefix o z) (sym el) ∙ q))))
      y)
      (prefix_next b o t))
      (λ f. f)
      (cases_Bool (is_prefix b o)),
  ⊎_elim (λ (t : is_prefix o b ≡ true). absurd (true≢false (sym (prefix_long o b false t) ∙ (ap (λ (z : List Bool). is_prefix o z) (sym el) ∙ q)))) (λ f. f) (cases_Bool (is_prefix o b)),
)

pub joins_at : (count c head : ℕ) (list : List Handle) (words : List ℕ) (views : List ClaimView) → Claimed count c head list words views
    → (id other : ℕ) (v w : ClaimView) (b : List Bool) → get_elem? views id ≡ some v → get_elem? views other ≡ some w → ¬ (other ≡ id) → v.live ≡ true → w.live ≡ true → v.branch ≡ b ++ false ∷ [] → w.branch ≡ b ++ true ∷ []
    → Claimed count c head list words (set (set views id (joined v w)) other spent)
joins_at count c head list words views h id other v w b at was two live alive lb rb =
    let m = joined v w in
    let mid : List ClaimView = set views id m in
    let there : get_elem? mid other ≡ some w = set_else views id other m two ∙ was in
    let mine = h.each id v at in
    let theirs = h.each other w was in
    let base : m.branch ≡ b = ap stem lb ∙ stem_push b false in
    let lv : length v.branch ≡ length b + 1 = ap length lb ∙ length-append b (false ∷ []) in
    let lw : length w.branch ≡ length b + 1 = ap length rb ∙ length-append b (true ∷ []) in
    let fits = mine.short live in
    let wm : weight m ≡ 2 ^ (62 - length b) = weight_of m live ∙ ap (λ (l : List Bool). 2 ^ (62 - length l)) base in
    let wv : weight v ≡ 2 ^ (62 - (length b + 1)) = weight_of v live ∙ ap (λ (k : ℕ). 2 ^ (62 - k)) lv in
    let ww : weight w ≡ 2 ^ (62 - (length b + 1)) = weight_of w alive ∙ ap (λ (k : ℕ). 2 ^ (62 - k)) lw in
    let half = halves (length b) (omega (arith, lv, fits)) in
    let wn : weight spent ≡ 0 = refl in
    record {
      long = h.long;
      head_low = h.head_low;
      counter_is = h.counter_is;
      stored = h.stored;
      sized = h.sized;
      room = h.room;
      weights = let x = sum_set weight views id v m at in let y = sum_set weight mid other w spent there in omega (arith, x, y, wm, wv, ww, wn, half, h.weights);
      over = let x = sum_set (λ (u : ClaimView). u.over) views id v m at in let y = sum_set (λ (u : ClaimView). u.over) mid other w spent there in let o = h.over in omega (arith, x, y, o);
      drawn = λ k. let x = sum_set (λ (u : ClaimView). times k u.drawn) views id v m at in let y = sum_set (λ (u : ClaimView). times k u.drawn) mid other w spent there in
          let a = sum_by-append (λ (z : ℕ). cond (z == k) 1 0) v.drawn w.drawn in omega (arith, x, y, a, h.drawn k);
      slots = λ z. let x = sum_set (λ (u : ClaimView). slot_times z u.held) views id v m at in let y = sum_set (λ (u : ClaimView). slot_times z u.held) mid other w spent there in
          let a = sum_by-append (λ (q : Handle). cond (q.slot == z) 1 0) v.held w.held in omega (arith, x, y, a, h.slots z);
      all = let x = sum_set (λ (u : ClaimView). length u.held) views id v m at in let y = sum_set (λ (u : ClaimView). length u.held) mid other w spent there in
          let a = length-append v.held w.held in let o = h.all in omega (arith, x, y, a, o);
      each = all_set (λ _ u. Fits count c head list u) mid other spent
          (record { over = omega arith; count_is = λ (e : false ≡ true). absurd (true≢false (sym e)); head_is = λ (e : false ≡ true). absurd (true≢false (sym e)); list_is = λ (e : false ≡ true). absurd (true≢false (sym e)); short = λ (e : false ≡ true). absurd (true≢false (sym e)); gone = λ _. (refl, refl); sole = tt })
          (λ j u n e. all_set (λ i (y : ClaimView). Fits count c head list y) views id m
          (record { over = let p = mine.over in let q = theirs.over in omega (arith, p, q, wm, wv, ww, half); count_is = mine.count_is; head_is = mine.head_is; list_is = mine.list_is; short = λ _. let g = ap length base in omega (arith, g, lv, fits); gone = λ z. absurd (true≢false (sym live ∙ z)); sole = tt })
          (λ i y o d. h.each i y d) j u e);
      apart = subst Apart (sym (set_comm views id other m spent (λ p. two (sym p))))
          (apart_set (set views other spent) id m
          (apart_set views other spent h.apart (λ (e : false ≡ true). absurd (true≢false (sym e))))
          (λ _ i y o' d lu'. all_set (λ j (u : ClaimView). j ≢ id → u.live ≡ true → (is_prefix m.branch u.branch ≡ false) × (is_prefix u.branch m.branch ≡ false)) views other spent
          (λ _ (e : false ≡ true). absurd (true≢false (sym e)))
          (λ j u n e o lu. subst (λ (c : List Bool). (is_prefix c u.branch ≡ false) × (is_prefix u.branch c ≡ false)) (sym base)
          (whole_apart b u.branch v.branch w.branch lb rb (h.apart id j v u at e (λ p. o (sym p)) live lu) (h.apart j id u v e at o lu live) (h.apart other j w u was e (λ p. n (sym p)) alive lu)))
          i y d o' lu')
          );
    }
