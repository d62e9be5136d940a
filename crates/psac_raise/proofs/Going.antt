-- A walk of a set that raises each reader that it comes to.
use Rattle.std.proofs.Common.{◌≡◌, ◌⊎◌, ℕ, zero, suc, ◌+◌, ◌<◌, ◌≤◌, ◌==◌, Bool, true, false, List, [], ◌∷◌, ◌++◌, length, Option, Some, None, refl, ap, sym, ◌∙◌, subst, inl, inr, ⊎_elim, arith, append_assoc}
use Rattle.std.specs.Prelude.{cond, sum_by, IfSome}
use Rattle.std.proofs.lemmas.List.Sums.{sum_by-cons, sum_by-append}
use Rattle.std.proofs.lemmas.Bool.{eq-eqb, eqb-true}
use Rattle.psac_ops.specs.declared.plain.Handle.{Handle}
use Rattle.psac_slots.specs.Handles.{Member, word_of}
use Rattle.psac_slots.specs.Claiming.{times as marks_times}
use Rattle.psac_readers.specs.declared.view.Stage.{Stage}
use Rattle.psac_readers.specs.declared.view.Stage.TheVariants.{Claimed, UnderWay, In, Dead}
use Rattle.psac_readers.specs.declared.view.LinkView.{LinkView}
use Rattle.psac_readers.specs.declared.view.ReadersView.{ReadersView}
use Rattle.psac_readers.specs.declared.readers.Link.{Link}
use Rattle.psac_readers.specs.Chained.{named, alive, is_live, times, mods_of}
use Rattle.psac_readers.specs.Steps.{IsSet, learned, behind, next_live, node_in, set_of, chain_of}
use Rattle.psac_readers.specs.Passes.{First, OnWalk, found}
use Rattle.psac_readers.specs.Walked.{Answers, live_in}
use Rattle.psac_readers.proofs.Walking.{chain_learn, next_found, behind_on}
use Rattle.psac_readers.proofs.Walks.{whole_walk}
use Rattle.psac_slots.proofs.Pairs.{member_cases}
use Rattle.psac_marks.specs.declared.view.MarksView.{MarksView}
use Rattle.psac_marks.specs.Marked.{Place}
use Rattle.psac_marks.specs.Passes.{IsBusy, Leads, Rises, one_of, climbed}
use Rattle.psac_marks.proofs.Callers.{leads_on}
use Rattle.psac_raise.specs.Raise.{IsSlot, LeadUp, LeadUpIn, with_marks, Raised, left_of}

not_both : {X : Type 0} {b : Bool} → b ≡ true → b ≡ false → X
not_both h k = absurd (let e : true ≡ false = sym h ∙ k in cc)

zero_or : (n : ℕ) → (n ≡ 0) ⊎ (0 < n)
zero_or zero = inl refl
zero_or (suc n) = inr (omega arith)

test_or : (b : Bool) → (b ≡ true) ⊎ (b ≡ false)
test_or true = inl refl
test_or false = inr refl

-- sums and members
member_sum : {A : Type 0} (g : A → ℕ) (x : A) (xs : List A) → Member x xs → 0 < g x → 0 < sum_by g xs
member_sum g x [] i h = absurd i
member_sum g x (y ∷ ys) i h =
    let c = sum_by-cons g y ys in
    ⊎_elim
    (λ (e : y ≡ x). let k : 0 < g y = subst (λ z. 0 < g z) (sym e) h in omega (arith, c, k))
    (λ (j : Member x ys). let m = member_sum g x ys j h in omega (arith, c, m))
    i

sum_member : {A : Type 0} (g : A → ℕ) (xs : List A) → 0 < sum_by g xs → (x : A) × Member x xs × (0 < g x)
sum_member g [] h = absurd (let z : sum_by g [] ≡ 0 = refl in omega (arith, h, z))
sum_member g (x ∷ xs) h =
    let c = sum_by-cons g x xs in
    elim (zero_or (g x)) [
      | inl z ↦ (let m = sum_member g xs (omega (arith, c, z, h)) in (m.0, inr m.1, m.2))
      | inr o ↦ (x, inl refl, o)
    ]

-- the only link of its number is the one that is found
named_one : (l : ℕ) (k : LinkView) → k.link ≡ l → named l k ≡ 1
named_one l k e = ap {B = ℕ} (λ b. cond b 1 0) (eq-eqb k.link l e)

first_is : (l : ℕ) (ks : List LinkView) (k : LinkView) → Member k ks → k.link ≡ l → sum_by (named l) ks ≤ 1 → (node_in l ks ≡ k.node) × (set_of l ks ≡ k.of)
first_is l [] k i e once = absurd i
first_is l (y ∷ ys) k i e once =
    let c = sum_by-cons (named l) y ys in
    ⊎_elim
    (λ (q : y ≡ k).
    let t : (y.link == l) ≡ true = eq-eqb y.link l (ap (λ (z : LinkView). z.link) q ∙ e) in
    (ap (λ b. cond b y.node (node_in l ys)) t ∙ ap (λ (z : LinkView). z.node) q, ap (λ b. cond b y.of (set_of l ys)) t ∙ ap (λ (z : LinkView). z.of) q))
    (λ (j : Member k ys).
    let more = member_sum (named l) k ys j (let o = named_one l k e in omega (arith, o)) in
    elim (test_or (y.link == l)) [
      | inl t ↦ absurd (let o : named l y ≡ 1 = ap {B = ℕ} (λ b. cond b 1 0) t in omega (arith, c, o, more, once))
      | inr t ↦
          (let r = first_is l ys k j e (omega (arith, c, once)) in
          (ap (λ b. cond b y.node (node_in l ys)) t ∙ r.0, ap (λ b. cond b y.of (set_of l ys)) t ∙ r.1))
    ])
    i

live_in_is : (s : Stage) → 0 < is_live s → s ≡ In
live_in_is In h = refl
live_in_is Claimed h = absurd (omega arith)
live_in_is (UnderWay n) h = absurd (omega arith)
live_in_is Dead h = absurd (omega arith)

-- a live link
live_link : (l : ℕ) (ks : List LinkView) → 0 < sum_by (alive l) ks → (k : LinkView) × Member k ks × (k.link ≡ l) × (k.stage ≡ In)
live_link l ks h =
    let q = sum_member (alive l) ks h in
    elim (test_or (q.0.link == l)) [
      | inl t ↦ (q.0, q.1, eqb-true q.0.link l t, live_in_is q.0.stage (let o = q.2 in let e : alive l q.0 ≡ is_live q.0.stage = ap (λ b. cond b (is_live q.0.stage) 0) t in omega (arith, o, e)))
      | inr t ↦ absurd (let o = q.2 in let e : alive l q.0 ≡ 0 = ap (λ b. cond b (is_live q.0.stage) 0) t in omega (arith, o, e))
    ]

-- words tell slots
pub slot_is : (g h : Handle) → word_of g ≡ word_of h → IsSlot g.slot → IsSlot h.slot → g.slot ≡ h.slot
slot_is g h e a b = omega arith

some_is : {A : Type 0} {x y : A} → (let o : Option A = Some x in o ≡ Some y) → x ≡ y
some_is h = cc

none_some : {A : Type 0} (x : A) → (let o : Option A = None in o ≡ Some x) → ⊥
none_some x h = cc

-- marks that were raised
times_two : (x : ℕ) (xs ys : List ℕ) → marks_times x (xs ++ ys) ≡ marks_times x xs + marks_times x ys
times_two x xs ys = sum_by-append (λ (k : ℕ). cond (k == x) 1 0) xs ys

pub marks_busy : (xs ys : List ℕ) (n : MarksView) (x : ℕ) → IsBusy n x → IsBusy (with_marks xs ys n) x
marks_busy xs ys n x b =
    ⊎_elim
    (λ (h : 0 < marks_times x n.marked). inl (let d = times_two x n.marked xs in omega (arith, d, h)))
    (λ (h : 0 < marks_times x n.busy). inr (let d = times_two x n.busy ys in omega (arith, d, h)))
    b

pub marks_then : (xs ys more : List ℕ) (end : Option ℕ) (n : MarksView) → climbed more end (with_marks xs ys n) ≡ with_marks (xs ++ more) (ys ++ one_of end) n
marks_then xs ys more end n = rw (append_assoc n.marked xs more, append_assoc n.busy ys (one_of end)) refl

climbed_busy : (xs : List ℕ) (end : Option ℕ) (n : MarksView) (x : ℕ) → IsBusy n x → IsBusy (climbed xs end n) x
climbed_busy xs end n x b = marks_busy xs (one_of end) n x b

-- what a raise marks stands on the path
rises_on : (v : MarksView) (us : List ℕ) (x : ℕ) (path : List Place) → Leads v x path → ((e : Place) → Member e path → Member e.node.slot us) → (xs : List ℕ) (end : Option ℕ) → Rises v x xs end → (y : ℕ) → Member y xs → Member y us
rises_on v us x path l i [] end r y j = absurd j
rises_on v us x [] l i (z ∷ zs) end r y j = absurd l
rises_on v us x (e ∷ es) l i (z ∷ zs) end r y j =
    ⊎_elim
    (λ (q : z ≡ y). subst (λ a. Member a us) (l.0 ∙ sym r.0 ∙ q) (i e (inl refl)))
    (λ (q : Member y zs).
    ⊎_elim
    (λ (top : (e.parent ≡ None) × (zs ≡ []) × (end ≡ None)). absurd (subst (Member y) top.1 q))
    (λ (up : (p : ℕ) × (e.parent ≡ Some p) × Rises v p zs end).
    ⊎_elim
    (λ (none : e.parent ≡ None). absurd (none_some up.0 (sym none ∙ up.1)))
    (λ (rest : IsBusy v x ⊎ ((p : ℕ) × (e.parent ≡ Some p) × Leads v p es)).
    ⊎_elim
    (λ (b : IsBusy v x). absurd (r.1 b))
    (λ (on : (p : ℕ) × (e.parent ≡ Some p) × Leads v p es).
    rises_on v us on.0 es on.2 (λ f k. i f (inr k)) zs end (subst (λ a. Rises v a zs end) (some_is (sym up.1 ∙ on.1)) up.2) y q)
    rest)
    l.3)
    (r.3 e l.1 l.0))
    j

-- a chain gets shorter
behind_short : (l : ℕ) (ls : List ℕ) → 0 < times l ls → length (behind l ls) < length ls
behind_short l [] h = absurd (omega arith)
behind_short l (x ∷ xs) h =
    elim (test_or (x == l)) [
      | inl t ↦ (let e : behind l (x ∷ xs) ≡ xs = ap (λ b. cond b xs (behind l xs)) t in let f = ap length e in omega (arith, f))
      | inr t ↦
          (let e : behind l (x ∷ xs) ≡ behind l xs = ap (λ b. cond b xs (behind l xs)) t in
          let f = ap length e in
          let z : times l (x ∷ xs) ≡ times l xs = ap {B = ℕ} (λ b. cond b 1 0 + times l xs) t ∙ zero_sum (times l xs) in
          let more = behind_short l xs (omega (arith, z, h)) in
          omega (arith, f, more))
    ]
  where
    zero_sum : (n : ℕ) → 0 + n ≡ n
    zero_sum n = omega arith

behind_after : (l k : ℕ) (chain : List ℕ) → ((x : ℕ) → times x chain ≤ 1) → 0 < times k (behind l chain) → length (behind k chain) < length (behind l chain)
behind_after l k [] d h = absurd (omega arith)
behind_after l k (x ∷ xs) d h =
    let c : (y : ℕ) → times y (x ∷ xs) ≡ cond (x == y) 1 0 + times y xs = λ y. refl in
    elim (test_or (x == l)) [
      | inl t ↦
          (let e : behind l (x ∷ xs) ≡ xs = ap (λ b. cond b xs (behind l xs)) t in
          let in_xs : 0 < times k xs = subst (λ z. 0 < times k z) e h in
          let away : (x == k) ≡ false = not_there x k xs (d k) in_xs in
          let f : behind k (x ∷ xs) ≡ behind k xs = ap (λ b. cond b xs (behind k xs)) away in
          let short = behind_short k xs in_xs in
          let a = ap length e in
          let b = ap length f in
          omega (arith, short, a, b))
      | inr t ↦
          (let e : behind l (x ∷ xs) ≡ behind l xs = ap (λ b. cond b xs (behind l xs)) t in
          let later : 0 < times k (behind l xs) = subst (λ z. 0 < times k z) e h in
          let in_xs = behind_on k l xs later in
          let away : (x == k) ≡ false = not_there x k xs (d k) in_xs in
          let f : behind k (x ∷ xs) ≡ behind k xs = ap (λ b. cond b xs (behind k xs)) away in
          let short = behind_after l k xs (λ y. let p = d y in let q = c y in omega (arith, p, q)) later in
          let a = ap length e in
          let b = ap length f in
          omega (arith, short, a, b))
    ]
  where
    not_there : (x k : ℕ) (xs : List ℕ) → times k (x ∷ xs) ≤ 1 → 0 < times k xs → (x == k) ≡ false
    not_there x k xs p q =
        elim (test_or (x == k)) [
          | inl t ↦ absurd (let e : times k (x ∷ xs) ≡ 1 + times k xs = ap {B = ℕ} (λ b. cond b 1 0 + times k xs) t in omega (arith, e, p, q))
          | inr t ↦ t
        ]

-- so far: the links that are still to come, and what was raised
pub record Going (r : ReadersView) (s : ℕ) (n : MarksView) (v : ReadersView) (m : MarksView) (at : Option Link) : Type 0 where
  pub chain : List ℕ
  pub is : v ≡ learned s chain r
  pub set : IsSet r s chain
  pub once : (l : ℕ) → sum_by (named l) r.links ≤ 1
  pub has : Member s (mods_of r.walk)
  pub rest : List ℕ
  pub walk : Answers r.links chain (found at) rest
  pub on : IfSome at (λ l. OnWalk v s l.index)
  pub marks : List ℕ
  pub busy : List ℕ
  pub becomes : m ≡ with_marks marks busy n
  pub within : (us : List ℕ) → LeadUpIn r n us s → (x : ℕ) → Member x marks → Member x us
  pub warned : (k : LinkView) (h : Handle) → Member k r.links → k.of ≡ s → k.stage ≡ In → k.node ≡ Some (word_of h) → IsSlot h.slot → times k.link rest ≡ 0 → IsBusy m h.slot

-- at the first link
pub going_start : (r w : ReadersView) (s : ℕ) (n : MarksView) (at : Option Link) → Member s (mods_of r.walk) → First r s at w → ((l : ℕ) → sum_by (named l) w.links ≤ 1) → IfSome at (λ l. OnWalk w s l.index) → Going r s n w n at
going_start r w s n at has f once on =
    let single : (l : ℕ) → sum_by (named l) r.links ≤ 1 = subst (λ (z : ReadersView). (l : ℕ) → sum_by (named l) z.links ≤ 1) f.1 once in
    let whole = whole_walk r s f.0 f.2 single in
    record {
      chain = f.0;
      is = f.1;
      set = f.2;
      once = single;
      has = has;
      rest = whole.links;
      walk = subst (λ o. Answers r.links f.0 o whole.links) (sym f.3) whole.walk;
      on = on;
      marks = [];
      busy = [];
      becomes = none_more n;
      within = λ us p x i. absurd i;
      warned = λ k h i of e node low gone.
          let a : live_in s k.link k ≡ 1 = ap (λ b. cond b (cond (k.of == s) (is_live k.stage) 0) 0) (eq-eqb k.link k.link refl) ∙ ap (λ b. cond b (is_live k.stage) 0) (eq-eqb k.of s of) ∙ ap is_live e in
          let there = member_sum (live_in s k.link) k r.links i (omega (arith, a)) in
          let times_is = whole.lists k.link in
          absurd (omega (arith, there, times_is, gone));
    }
  where
    append_none : (xs : List ℕ) → xs ≡ xs ++ []
    append_none [] = refl
    append_none (x ∷ xs) = ap (λ z. x ∷ z) (append_none xs)

    none_more : (n : MarksView) → n ≡ with_marks [] [] n
    none_more n = λ i. record n { marked = append_none n.marked i; busy = append_none n.busy i }

module _ (r : ReadersView) (s : ℕ) (n : MarksView) (v : ReadersView) (m : MarksView) (link : Link) (g : Going r s n v m (Some link)) where
  same_links : v.links ≡ r.links
  same_links = ap (λ (z : ReadersView). z.links) g.is

  pub chain_here : chain_of s v.walk ≡ Some g.chain
  chain_here = ap (λ (z : ReadersView). chain_of s z.walk) g.is ∙ chain_learn s g.chain r.walk g.has

  -- the link that was come to
  reader : (k : LinkView) × Member k r.links × (k.link ≡ link.index) × (k.stage ≡ In)
  reader = live_link link.index r.links (subst (λ ks. 0 < sum_by (alive link.index) ks) same_links g.on.live)

  found_node : (node_in link.index r.links ≡ reader.0.node) × (set_of link.index r.links ≡ reader.0.of)
  found_node = first_is link.index r.links reader.0 reader.1 reader.2 (g.once link.index)

  of_set : reader.0.of ≡ s
  of_set = sym found_node.1 ∙ ap (set_of link.index) (sym same_links) ∙ g.on.set

  pub own_link : 0 < sum_by (named link.index) v.links
  own_link =
      subst (λ ks. 0 < sum_by (named link.index) ks) (sym same_links)
      (member_sum (named link.index) reader.0 r.links reader.1 (let o = named_one link.index reader.0 reader.2 in omega (arith, o)))

  -- its node leads up
  module _ (up : LeadUp r n s) (h : Handle) (low : IsSlot h.slot) (node : node_in link.index v.links ≡ Some (word_of h)) where
    node_is : reader.0.node ≡ Some (word_of h)
    node_is = sym found_node.0 ∙ ap (node_in link.index) (sym same_links) ∙ node

    same_slot : (k : Handle) → IsSlot k.slot → Some (word_of k) ≡ Some (word_of h) → k.slot ≡ h.slot
    same_slot k l e = slot_is k h (some_is e) l low

    pub leads_here : (path : List Place) × Leads m h.slot path
    leads_here =
        let q = up reader.0 reader.1 of_set reader.3 in
        let e = same_slot q.0 q.1 (sym q.2 ∙ node_is) in
        (q.3.0, subst (λ z. Leads z h.slot q.3.0) (sym g.becomes) (leads_on n (with_marks g.marks g.busy n) (λ p i. i) refl (λ x b. marks_busy g.marks g.busy n x b) h.slot q.3.0 (subst (λ x. Leads n x q.3.0) e q.3.1)))

    path_within : (us : List ℕ) → LeadUpIn r n us s → (xs : List ℕ) (end : Option ℕ) → Rises m h.slot xs end → (x : ℕ) → Member x xs → Member x us
    path_within us p xs end rises x i =
        let q = p reader.0 reader.1 of_set reader.3 in
        let e = same_slot q.0 q.1 (sym q.2 ∙ node_is) in
        let leads = subst (λ z. Leads z h.slot q.3.0) (sym g.becomes) (leads_on n (with_marks g.marks g.busy n) (λ y j. j) refl (λ y b. marks_busy g.marks g.busy n y b) h.slot q.3.0 (subst (λ y. Leads n y q.3.0) e q.3.1)) in
        rises_on m us h.slot q.3.0 leads q.3.2 xs end rises x i

    rest_is : (ls : List ℕ) → Answers r.links g.chain (Some link.index) ls → (more : List ℕ) × (ls ≡ link.index ∷ more) × Answers r.links g.chain (next_live r.links (behind link.index g.chain)) more
    rest_is [] a = absurd (none_some link.index (sym a))
    rest_is (l ∷ ls) a =
        let e : link.index ≡ l = some_is a.0 in
        (ls, ap (λ z. z ∷ ls) (sym e), subst (λ z. Answers r.links g.chain (next_live r.links (behind z g.chain)) ls) (sym e) a.1)

    -- and the walk goes on
    pub going_on : (m' : MarksView) (xs : List ℕ) (end : Option ℕ) → Rises m h.slot xs end → m' ≡ climbed xs end m → IsBusy m' h.slot → (at : Option Link) → found at ≡ next_live v.links (behind link.index g.chain) → IfSome at (λ l. OnWalk v s l.index) → Going r s n v m' at
    going_on m' xs end rises is busy at next on =
        let q = rest_is g.rest g.walk in
        let becomes : m' ≡ with_marks (g.marks ++ xs) (g.busy ++ one_of end) n = is ∙ ap (climbed xs end) g.becomes ∙ marks_then g.marks g.busy xs end n in
        record {
          chain = g.chain;
          is = g.is;
          set = g.set;
          once = g.once;
          has = g.has;
          rest = q.0;
          walk = subst (λ o. Answers r.links g.chain o q.0) (sym (next ∙ ap (λ ks. next_live ks (behind link.index g.chain)) same_links)) q.2;
          on = on;
          marks = g.marks ++ xs;
          busy = g.busy ++ one_of end;
          becomes = becomes;
          within = λ us p x i. ⊎_elim (λ (j : Member x g.marks). g.within us p x j) (λ (j : Member x xs). path_within us p xs end rises x j) (member_cases x g.marks xs i);
          warned = λ k z i of e node' low' gone.
              elim (test_or (k.link == link.index)) [
                | inl t ↦
                    (let same = first_is link.index r.links k i (eqb-true k.link link.index t) (g.once link.index) in
                    let slot = same_slot z low' (sym node' ∙ sym same.0 ∙ found_node.0 ∙ node_is) in
                    subst (IsBusy m') (sym slot) busy)
                | inr t ↦
                    (let none : times k.link g.rest ≡ 0 = ap (times k.link) q.1 ∙ ap (λ b. cond b 1 0 + times k.link q.0) (other_way k.link link.index t) ∙ zero_and (times k.link q.0) gone in
                    subst (λ y. IsBusy y z.slot) (sym is) (climbed_busy xs end m z.slot (g.warned k z i of e node' low' none)))
              ];
        }
      where
        other_way : (a b : ℕ) → (a == b) ≡ false → (b == a) ≡ false
        other_way a b t = elim (test_or (b == a)) [ inl u ↦ absurd (not_both (eq-eqb a b (sym (eqb-true b a u))) t) | inr u ↦ u ]

        zero_and : (x : ℕ) → x ≡ 0 → 0 + x ≡ 0
        zero_and x e = omega arith

    -- with fewer links to come
    pub going_shorter : (w : ReadersView) (at : Option Link) → w ≡ v → found at ≡ next_live v.links (behind link.index g.chain) → left_of (chain_of s w.walk) at < left_of (chain_of s v.walk) (Some link)
    going_shorter w at same next =
        subst (λ o. left_of o at < left_of (chain_of s v.walk) (Some link)) (sym (ap (λ (z : ReadersView). chain_of s z.walk) same ∙ chain_here))
        (subst (λ o. left_of (Some g.chain) at < left_of o (Some link)) (sym chain_here) (by at next))
      where
        by : (o : Option Link) → found o ≡ next_live v.links (behind link.index g.chain) → left_of (Some g.chain) o < suc (length (behind link.index g.chain))
        by None e = omega arith
        by (Some k) e =
            let there = next_found v.links (behind link.index g.chain) k.index (sym e) in
            let a = behind_after link.index k.index g.chain (λ x. (g.set x).1) there.0 in
            omega (arith, a)

-- at the end
pub going_end : (r : ReadersView) (s : ℕ) (n : MarksView) (v : ReadersView) (m : MarksView) → Going r s n v m None → Raised r s n m
going_end r s n v m g =
    let none : g.rest ≡ [] = by g.rest g.walk in
    record { marks = g.marks; found = g.busy; becomes = g.becomes; within = g.within; warned = λ k h i of e node low. g.warned k h i of e node low (ap (times k.link) none) }
  where
    by : (ls : List ℕ) → Answers r.links g.chain None ls → ls ≡ []
    by [] a = refl
    by (l ∷ ls) a = absurd (none_some l a.0)
