-- Links part by part: what a part begins with, and what both parts leave.
use Rattle.std.proofs.Common.{◌≡◌, ◌⊎◌, ◌==◌, ℕ, ◌+◌, ◌≤◌, ◌<◌, Bool, true, false, List, [], ◌∷◌, ◌++◌, map, cond, Option, Some, None, refl, ap, sym, ◌∙◌, subst, inl, inr, ⊎_elim, arith}
use Rattle.std.specs.Prelude.{sum_by, IfSome}
use Rattle.std.proofs.lemmas.List.Sums.{sum_by-append, sum_by-cons}
use Rattle.psac_ops.specs.declared.plain.Handle.{Handle}
use Rattle.psac_ops.specs.declared.plain.Plain.{Plain}
use Rattle.psac_slots.specs.Handles.{Member, word_of}
use Rattle.psac_slots.proofs.Pairs.{member_left, member_right, member_cases, map_member, member_map}
use Rattle.psac_laws.proofs.Places.{nat_is, nat_same, test_or, not_true, not_both}
use Rattle.psac_readers.specs.declared.view.Stage.{Stage}
use Rattle.psac_readers.specs.declared.view.Stage.TheVariants.{Claimed, UnderWay, In, Dead}
use Rattle.psac_readers.specs.declared.view.LinkView.{LinkView}
use Rattle.psac_readers.specs.declared.view.ReadersView.{ReadersView}
use Rattle.psac_readers.specs.Chained.{named, is_live, mods_of}
use Rattle.psac_marks.specs.declared.view.MarksView.{MarksView}
use Rattle.psac_marks.specs.declared.view.OwnView.{OwnView}
use Rattle.psac_marks.specs.declared.view.SharedView.{SharedView}
use Rattle.psac_marks.specs.Marked.{Place, places, own_place, shared_place}
use Rattle.psac_marks.specs.Passes.{IsKept, IsBusy, Leads}
use Rattle.psac_marks.proofs.Parts.{place_own, place_shared, place_cases}
use Rattle.psac_raise.specs.Raise.{LeadsIn}
use Rattle.psac_record.specs.declared.parts.Seen.{Seen}
use Rattle.psac_record.specs.Kept.{Kept, E, A, W, S, P, R, Stands, stands, links_of, bare}
use Rattle.psac_traced.specs.Rec.{writes}
use Rattle.psac_trace.specs.Raising.{puts}
use Rattle.psac_trace.proofs.Leading.{sum_member, zero_or}
use Rattle.psac_trace.proofs.Heaps.{in_front, in_back}
use Rattle.psac_trace.proofs.Raised.{puts_in}
use Rattle.psac_repair.specs.Divided.{writes_slot}
use Rattle.psac_repair.specs.Marks.{Sits, Nodes}
use Rattle.psac_repair.specs.Taken.{indexes}
use Rattle.psac_repair.specs.Planted.{slots, Planted, Passed}
use Rattle.psac_repair.specs.Linked.{standing, left_link, Distinct, LinksOnce, Linked, Relinked}
use Rattle.psac_repair.specs.Rewired.{Writes, Unread, Ordered, NodeIn, Wired, Relinks, Rewired}
use Rattle.psac_repair.proofs.Leaving.{indexes_append}
use Rattle.psac_repair.proofs.Linking.{member_sum, named_here, relinked_none, relinked_then, distinct_front, distinct_back, distinct_apart}
use Rattle.psac_repair.proofs.Passing.{kept_on}
use Rattle.psac_repair.proofs.Forked.{Touches, touch_slot, slot_touch}

-- what was written is touched
pub wrote_slot : (k : Kept) (s : ℕ) → Writes k s → writes_slot (bare k) s ≡ true
wrote_slot k s w = subst (λ z. writes_slot (bare k) z ≡ true) w.2 (touch_slot (bare k) w.0.0 (inr (puts_in k w.0.0 w.0.1 w.1)))

-- what a step doesn't touch neither part does
pub free_first : (n : Handle) (t k : Kept) (s : ℕ) → writes_slot (bare (S n t k)) s ≡ false → writes_slot (bare t) s ≡ false
free_first n t k s e =
    not_true (writes_slot (bare t) s) (λ a.
    let q = slot_touch (bare t) s a in
    let up : Touches (bare (S n t k)) q.0 = ⊎_elim (λ b. inl (inl b)) (λ b. inr (in_back (writes (bare k)) (writes (bare t)) q.0 b)) q.1 in
    not_both (subst (λ z. writes_slot (bare (S n t k)) z ≡ true) q.2 (touch_slot (bare (S n t k)) q.0 up)) e)

pub free_second : (n : Handle) (t k : Kept) (s : ℕ) → writes_slot (bare (S n t k)) s ≡ false → writes_slot (bare k) s ≡ false
free_second n t k s e =
    not_true (writes_slot (bare k) s) (λ a.
    let q = slot_touch (bare k) s a in
    let up : Touches (bare (S n t k)) q.0 = ⊎_elim (λ b. inl (inr b)) (λ b. inr (in_front (writes (bare k)) (writes (bare t)) q.0 b)) q.1 in
    not_both (subst (λ z. writes_slot (bare (S n t k)) z ≡ true) q.2 (touch_slot (bare (S n t k)) q.0 up)) e)

pub writes_first : (n : Handle) (t k : Kept) (s : ℕ) → Writes t s → Writes (S n t k) s
writes_first n t k s w = (w.0, member_left w.0 (puts t) (puts k) w.1, w.2)

pub writes_second : (n : Handle) (t k : Kept) (s : ℕ) → Writes k s → Writes (S n t k) s
writes_second n t k s w = (w.0, member_right w.0 (puts t) (puts k) w.1, w.2)

-- one link
abbrev pub same_node : Option ℕ → Option ℕ → Bool
same_node None None = true
same_node (Some x) (Some y) = x == y
same_node _ _ = false

pub node_same : (o : Option ℕ) → same_node o o ≡ true
node_same None = refl
node_same (Some x) = nat_same x

pub node_is : (o p : Option ℕ) → same_node o p ≡ true → o ≡ p
node_is None None h = refl
node_is (Some x) (Some y) h = ap (λ (n : ℕ). Some n) (nat_is x y h)
node_is None (Some y) h = absurd cc
node_is (Some x) None h = absurd cc

live_is : (s : Stage) → 0 < is_live s → s ≡ In
live_is Claimed h = absurd (omega (arith, h))
live_is (UnderWay n) h = absurd (omega (arith, h))
live_is In h = refl
live_is Dead h = absurd (omega (arith, h))

pub same_link : (k l : LinkView) → k.link ≡ l.link → k.of ≡ l.of → k.node ≡ l.node → k.stage ≡ l.stage → k ≡ l
same_link k l a b c d =
    ap (λ x. record k { link = x }) a
    ∙ ap (λ x. record k { link = l.link; of = x }) b
    ∙ ap (λ x. record k { link = l.link; of = l.of; node = x }) c
    ∙ ap (λ x. record { link = l.link; of = l.of; node = l.node; stage = x }) d

abbrev pub like : LinkView → LinkView → ℕ
like l k = cond (k.link == l.link) (cond (k.of == l.of) (cond (same_node k.node l.node) (is_live k.stage) 0) 0) 0

pub like_here : (l : LinkView) → l.stage ≡ In → like l l ≡ 1
like_here l e = rw (nat_same l.link, nat_same l.of, node_same l.node) (ap is_live e)

pub like_is : (l k : LinkView) → l.stage ≡ In → 0 < like l k → k ≡ l
like_is l k e h =
    elim (test_or (k.link == l.link)) [
      | inl p ↦
          elim (test_or (k.of == l.of)) [
            | inl q ↦
                elim (test_or (same_node k.node l.node)) [
                  | inl s ↦ (let z : 0 < is_live k.stage = rw (p, q, s) at h in same_link k l (nat_is k.link l.link p) (nat_is k.of l.of q) (node_is k.node l.node s) (live_is k.stage z ∙ sym e))
                  | inr s ↦ absurd (let z : 0 < 0 = rw (p, q, s) at h in omega (arith, z))
                ]
            | inr q ↦ absurd (let z : 0 < 0 = rw (p, q) at h in omega (arith, z))
          ]
      | inr p ↦ absurd (let z : 0 < 0 = rw p at h in omega (arith, z))
    ]

dead_not : (l : LinkView) (s : Stands) → l.stage ≡ In → like l (left_link s) ≡ 0
dead_not l s e =
    elim (test_or (s.link.index == l.link)) [
      | inl p ↦
          elim (test_or (s.of.slot == l.of)) [
            | inl q ↦
                elim (test_or (same_node (Some (word_of s.node)) l.node)) [
                  | inl t ↦ rw (p, q, t) refl
                  | inr t ↦ rw (p, q, t) refl
                ]
            | inr q ↦ rw (p, q) refl
          ]
      | inr p ↦ rw p refl
    ]

pub dead_none : (l : LinkView) (ss : List Stands) → l.stage ≡ In → sum_by (λ (s : Stands). like l (left_link s)) ss ≡ 0
dead_none l [] e = refl
dead_none l (s ∷ ss) e =
    let a = sum_by-cons (λ (z : Stands). like l (left_link z)) s ss in
    let b = dead_none l ss e in
    let c = dead_not l s e in
    omega (arith, a, b, c)

-- a live link was there before, or it entered
pub link_back : (r q : ReadersView) (gone made : List Stands) → Relinked r q gone made → (l : LinkView) → Member l q.links → l.stage ≡ In → Member l r.links ⊎ ((s : Stands) × Member s made × (standing s ≡ l))
link_back r q gone made m l i e =
    let a = member_sum (like l) l q.links i in
    let b = like_here l e in
    let c = m.links (like l) in
    let d = dead_none l gone e in
    elim (zero_or (sum_by (like l) r.links)) [
      | inr p ↦ (let f = sum_member (like l) r.links p in inl (subst (λ z. Member z r.links) (like_is l f.0 e f.2) f.1))
      | inl z ↦
          (let f = sum_member (λ (s : Stands). like l (standing s)) made (omega (arith, a, b, c, d, z)) in
          inr (f.0, f.1, like_is l (standing f.0) e f.2))
    ]

-- indexes and sums
pub index_sum : (l : ℕ) (ss : List Stands) → Member l (indexes ss) → 1 ≤ sum_by (λ (s : Stands). named l (standing s)) ss
index_sum l ss i =
    let q = member_map (λ (s : Stands). s.link.index) l ss i in
    let a = member_sum (λ (s : Stands). named l (standing s)) q.0 ss q.1 in
    let b : named l (standing q.0) ≡ 1 = subst (λ z. named z (standing q.0) ≡ 1) q.2 (named_here q.0) in
    omega (arith, a, b)

named_is : (l : ℕ) (k : LinkView) → 0 < named l k → k.link ≡ l
named_is l k h =
    elim (test_or (k.link == l)) [
      | inl p ↦ nat_is k.link l p
      | inr p ↦ absurd (let z : 0 < 0 = rw p at h in omega (arith, z))
    ]

pub sum_index : (l : ℕ) (ss : List Stands) → 0 < sum_by (λ (s : Stands). named l (standing s)) ss → Member l (indexes ss)
sum_index l ss h =
    let f = sum_member (λ (s : Stands). named l (standing s)) ss h in
    subst (λ z. Member z (indexes ss)) (named_is l (standing f.0) f.2) (map_member (λ (s : Stands). s.link.index) f.0 ss f.1)

-- links are only added
pub named_more : (r q : ReadersView) (gone made : List Stands) → Relinked r q gone made → (l : ℕ) → sum_by (named l) q.links ≡ sum_by (named l) r.links + sum_by (λ (s : Stands). named l (standing s)) made
named_more r q gone made m l =
    let a = m.links (named l) in
    let b : sum_by (λ (s : Stands). named l (standing s)) gone ≡ sum_by (λ (s : Stands). named l (left_link s)) gone = refl in
    omega (arith, a, b)

-- a link of a record stands in the pass
pub live_sum : (r : ReadersView) (k : Kept) (l : ℕ) → Linked r k → Member l (indexes (links_of k)) → 1 ≤ sum_by (named l) r.links
live_sum r k l h i =
    let q = member_map (λ (s : Stands). s.link.index) l (links_of k) i in
    let a = member_sum (named l) (standing q.0) r.links (h.live q.0 q.1) in
    let b : named l (standing q.0) ≡ 1 = subst (λ z. named z (standing q.0) ≡ 1) q.2 (named_here q.0) in
    omega (arith, a, b)

pub index_of : (s : Stands) (k : Kept) → Member s (links_of k) → Member s.link.index (indexes (links_of k))
index_of s k i = map_member (λ (z : Stands). z.link.index) s (links_of k) i

pub distinct_both : (xs ys : List ℕ) → Distinct xs → Distinct ys → ((x : ℕ) → Member x xs → Member x ys → ⊥) → Distinct (xs ++ ys)
distinct_both [] ys d e a = e
distinct_both (x ∷ xs) ys d e a = (
  λ i. ⊎_elim (λ (j : Member x xs). d.0 j) (λ (j : Member x ys). a x (inl refl) j) (member_cases x xs ys i),
  distinct_both xs ys d.1 e (λ z i j. a z (inr i) j),
)

pub index_cases : (l : ℕ) (a b : List Stands) → Member l (indexes (a ++ b)) → Member l (indexes a) ⊎ Member l (indexes b)
index_cases l a b i = member_cases l (indexes a) (indexes b) (subst (Member l) (indexes_append a b) i)

pub index_left : (l : ℕ) (a b : List Stands) → Member l (indexes a) → Member l (indexes (a ++ b))
index_left l a b i = subst (Member l) (sym (indexes_append a b)) (member_left l (indexes a) (indexes b) i)

pub index_right : (l : ℕ) (a b : List Stands) → Member l (indexes b) → Member l (indexes (a ++ b))
index_right l a b i = subst (Member l) (sym (indexes_append a b)) (member_right l (indexes a) (indexes b) i)

-- what covers the new links of both parts, and how both add up
pub covers_both : (t k u v made new : List Stands)
    → ((x : ℕ) → Member x (indexes u) → Member x (indexes t) ⊎ Member x (indexes made))
    → ((x : ℕ) → Member x (indexes v) → Member x (indexes k) ⊎ Member x (indexes new))
    → (x : ℕ) → Member x (indexes (u ++ v)) → Member x (indexes (t ++ k)) ⊎ Member x (indexes (made ++ new))
covers_both t k u v made new a b x i = ⊎_elim
    (λ (j : Member x (indexes u)). ⊎_elim
    (λ (c : Member x (indexes t)). inl (index_left x t k c))
    (λ (c : Member x (indexes made)). inr (index_left x made new c))
    (a x j))
    (λ (j : Member x (indexes v)). ⊎_elim
    (λ (c : Member x (indexes k)). inl (index_right x t k c))
    (λ (c : Member x (indexes new)). inr (index_right x made new c))
    (b x j))
    (index_cases x u v i)

pub sums_both : (t k u v gone left made new : List Stands)
    → ((g : Stands → ℕ) → sum_by g u + sum_by g gone ≡ sum_by g t + sum_by g made)
    → ((g : Stands → ℕ) → sum_by g v + sum_by g left ≡ sum_by g k + sum_by g new)
    → (g : Stands → ℕ) → sum_by g (u ++ v) + sum_by g (gone ++ left) ≡ sum_by g (t ++ k) + sum_by g (made ++ new)
sums_both t k u v gone left made new a b g =
    let e = sum_by-append g u v in
    let f = sum_by-append g t k in
    let h = sum_by-append g gone left in
    let i = sum_by-append g made new in
    let y = a g in
    let z = b g in
    omega (arith, e, f, h, i, y, z)

-- links are of nodes of the record
pub reads_node : (n : Handle) (reads : List Seen) (s : Stands) → Member s (map (stands n) reads) → s.node ≡ n
reads_node n reads s i = let q = member_map (stands n) s reads i in ap (λ (z : Stands). z.node) (sym q.2)

pub node_in : (k : Kept) (s : Stands) → Member s (links_of k) → Member s.node.slot (slots k)
node_in E s i = absurd i
node_in (A m r) s i = node_in r s i
node_in (W m v r) s i = node_in r s i
node_in (S n t r) s i =
    inr (⊎_elim
    (λ (j : Member s (links_of t)). member_left s.node.slot (slots t) (slots r) (node_in t s j))
    (λ (j : Member s (links_of r)). member_right s.node.slot (slots t) (slots r) (node_in r s j))
    (member_cases s (links_of t) (links_of r) i))
node_in (P n t r) s i =
    inr (⊎_elim
    (λ (j : Member s (links_of t)). member_left s.node.slot (slots t) (slots r) (node_in t s j))
    (λ (j : Member s (links_of r)). member_right s.node.slot (slots t) (slots r) (node_in r s j))
    (member_cases s (links_of t) (links_of r) i))
node_in (R b t) s i =
    ⊎_elim
    (λ (j : Member s (map (stands b.node) b.reads)). inl (ap (λ (z : Handle). z.slot) (sym (reads_node b.node b.reads s j))))
    (λ (j : Member s (links_of t)). inr (node_in t s j))
    (member_cases s (map (stands b.node) b.reads) (links_of t) i)

-- paths, by what stands in these slots alone
pub led_more : (v w : MarksView) (us : List ℕ) → ((e : Place) → Member e (places v) → Member e.node.slot us → Member e (places w)) → ((x : ℕ) → Member x us → IsKept v x → IsKept w x) → ((x : ℕ) → Member x us → IsBusy v x → IsBusy w x) → (x : ℕ) (path : List Place) → Leads v x path → ((e : Place) → Member e path → Member e.node.slot us) → Leads w x path
led_more v w us more kept busy x [] l i = absurd l
led_more v w us more kept busy x (e ∷ es) l i =
    let here : Member x us = subst (λ z. Member z us) l.0 (i e (inl refl)) in (
      l.0,
      more e l.1 (i e (inl refl)),
      kept x here l.2,
      ⊎_elim
          (λ (a : e.parent ≡ None). inl a)
          (λ (a : IsBusy v x ⊎ ((p : ℕ) × (e.parent ≡ Some p) × Leads v p es)).
          inr (⊎_elim
          (λ (b : IsBusy v x). inl (busy x here b))
          (λ (b : (p : ℕ) × (e.parent ≡ Some p) × Leads v p es). inr (b.0, b.1, led_more v w us more kept busy b.0 es b.2 (λ f j. i f (inr j))))
          a))
          l.3,
    )

pub led_on : (v w : MarksView) (us : List ℕ) → ((e : Place) → Member e (places v) → Member e.node.slot us → Member e (places w)) → ((x : ℕ) → Member x us → IsKept v x → IsKept w x) → ((x : ℕ) → Member x us → IsBusy v x → IsBusy w x) → (x : ℕ) → LeadsIn v us x → LeadsIn w us x
led_on v w us more kept busy x l = (l.0, led_more v w us more kept busy x l.0 l.1 l.2, l.2)

pub led_wider : (v : MarksView) (us ws : List ℕ) → ((x : ℕ) → Member x us → Member x ws) → (x : ℕ) → LeadsIn v us x → LeadsIn v ws x
led_wider v us ws wider x l = (l.0, l.1, λ e i. wider e.node.slot (l.2 e i))

-- a node leads up where what stands above it does
pub led_node : (m : MarksView) (ws : List ℕ) (above : Option Handle) (h : Handle) → Sits m above h → IfSome above (λ c. LeadsIn m ws c.slot) → Member h.slot ws → LeadsIn m ws h.slot
led_node m ws None h s up i =
    let e : Place = own_place m.claims.branch (record { node = h; parent = None }) in
    (e ∷ [], (refl, place_own m (record { node = h; parent = None }) s.0, s.1, inl refl), λ f j. ⊎_elim (λ (d : e ≡ f). subst (λ (z : Place). Member z.node.slot ws) d i) (λ (d : Member f []). absurd d) j)
led_node m ws (Some c) h s up i =
    let e : Place = own_place m.claims.branch (record { node = h; parent = Some c.slot }) in (
      e ∷ up.0,
      (refl, place_own m (record { node = h; parent = Some c.slot }) s.0, s.1, inr (inr (c.slot, refl, up.1))),
      λ f j. ⊎_elim (λ (d : e ≡ f). subst (λ (z : Place). Member z.node.slot ws) d i) (λ (d : Member f up.0). up.2 f d) j,
    )

-- below a node that leads there both of its parts do
led_pair : (m : MarksView) (ws : List ℕ) (n : Handle) (t r : Kept) → LeadsIn m ws n.slot
    → ((x : ℕ) → Member x (slots t) → LeadsIn m ws x) → ((x : ℕ) → Member x (slots r) → LeadsIn m ws x)
    → (x : ℕ) → Member x (slots (S n t r)) → LeadsIn m ws x
led_pair m ws n t r here first second x i =
    elim i [
      | inl e ↦ subst (LeadsIn m ws) e here
      | inr j ↦ ⊎_elim (first x) (second x) (member_cases x (slots t) (slots r) j)
    ]

pub led_nodes : (m : MarksView) (ws : List ℕ) (above : Option Handle) (k : Kept) → Nodes m above k → IfSome above (λ c. LeadsIn m ws c.slot) → ((x : ℕ) → Member x (slots k) → Member x ws) → (x : ℕ) → Member x (slots k) → LeadsIn m ws x
led_nodes m ws above E ns up all x i = absurd i
led_nodes m ws above (A h r) ns up all x i = led_nodes m ws above r ns up all x i
led_nodes m ws above (W h v r) ns up all x i = led_nodes m ws above r ns up all x i
led_nodes m ws above (S n t r) ns up all x i =
    let here : LeadsIn m ws n.slot = led_node m ws above n ns.0 up (all n.slot (inl refl)) in
    led_pair m ws n t r here
    (led_nodes m ws (Some n) t ns.1 here (λ y b. all y (inr (member_left y (slots t) (slots r) b))))
    (led_nodes m ws (Some n) r ns.2 here (λ y b. all y (inr (member_right y (slots t) (slots r) b)))) x i
led_nodes m ws above (P n t r) ns up all x i =
    let here : LeadsIn m ws n.slot = led_node m ws above n ns.0 up (all n.slot (inl refl)) in
    led_pair m ws n t r here
    (led_nodes m ws (Some n) t ns.1 here (λ y b. all y (inr (member_left y (slots t) (slots r) b))))
    (led_nodes m ws (Some n) r ns.2 here (λ y b. all y (inr (member_right y (slots t) (slots r) b)))) x i
led_nodes m ws above (R b t) ns up all x i =
    let here : LeadsIn m ws b.node.slot = led_node m ws above b.node ns.0 up (all b.node.slot (inl refl)) in
    elim i [
      | inl e ↦ subst (LeadsIn m ws) e here
      | inr j ↦ led_nodes m ws (Some b.node) t ns.1 here (λ y c. all y (inr c)) x j
    ]

pub above_wider : (m : MarksView) (us ws : List ℕ) (above : Option Handle) → ((x : ℕ) → Member x us → Member x ws) → IfSome above (λ c. LeadsIn m us c.slot) → IfSome above (λ c. LeadsIn m ws c.slot)
above_wider m us ws None wider up = tt
above_wider m us ws (Some c) wider up = led_wider m us ws wider c.slot up

pub node_wider : (us ws : List ℕ) (o : Option ℕ) → ((x : ℕ) → Member x us → Member x ws) → NodeIn us o → NodeIn ws o
node_wider us ws o wider n = (n.0, n.1, n.2, wider n.0.slot n.3)

-- a set that the pass has it has on
one_at : (s x : ℕ) → 0 < cond (x == s) 1 0 → x ≡ s
one_at s x h =
    elim (test_or (x == s)) [
      | inl e ↦ nat_is x s e
      | inr e ↦ absurd (let z : 0 < 0 = rw e at h in omega (arith, z))
    ]

pub walk_stays : (r q : ReadersView) (gone made : List Stands) → Relinked r q gone made → (s : ℕ) → Member s (mods_of r.walk) → Member s (mods_of q.walk)
walk_stays r q gone made m s i =
    let g : ℕ → ℕ = λ x. cond (x == s) 1 0 in
    let one : g s ≡ 1 = ap {B = ℕ} (λ b. cond b 1 0) (nat_same s) in
    let here = member_sum g s (mods_of r.walk) i in
    let sum = m.walk g in
    let b = sum_member g (mods_of q.walk) (omega (arith, here, one, sum)) in
    subst (λ z. Member z (mods_of q.walk)) (one_at s b.0 b.2) b.1

-- what was made, or written, before the rest
pub wired_made : (r : ReadersView) (m : MarksView) (us : List ℕ) (above : Option Handle) (h : Handle) (k : Kept) → Wired r m us above (A h k) → Wired r m us above k
wired_made r m us above h k w =
    record { linked = record { live = w.linked.live; once = w.linked.once }; once = w.once; walk = w.walk; readers = w.readers; led = w.led; above_led = w.above_led; fits = w.fits }

pub wired_wrote : (r : ReadersView) (m : MarksView) (us : List ℕ) (above : Option Handle) (h : Handle) (x : Plain) (k : Kept) → Wired r m us above (W h x k) → Wired r m us above k
wired_wrote r m us above h x k w =
    let on : (s : ℕ) → Writes k s → Writes (W h x k) s = λ s p. (p.0, inr p.1, p.2) in
    record {
      linked = record { live = w.linked.live; once = w.linked.once };
      once = w.once;
      walk = λ s p. w.walk s (on s p);
      readers = λ s l p. w.readers s l (on s p);
      led = w.led;
      above_led = w.above_led;
      fits = w.fits;
    }

pub rewired_made : (r q : ReadersView) (h : Handle) (k w : Kept) (gone made : List Stands) → Rewired r q k w gone made → Rewired r q (A h k) (A h w) gone made
rewired_made r q h k w gone made a =
    record { relinked = a.relinked; linked = record { live = a.linked.live; once = a.linked.once }; once = a.once; gone_is = a.gone_is; entered = a.entered; covers = a.covers; sums = a.sums }

pub rewired_wrote : (r q : ReadersView) (h : Handle) (x : Plain) (k w : Kept) (gone made : List Stands) → Rewired r q k w gone made → Rewired r q (W h x k) (W h x w) gone made
rewired_wrote r q h x k w gone made a =
    record { relinked = a.relinked; linked = record { live = a.linked.live; once = a.linked.once }; once = a.once; gone_is = a.gone_is; entered = a.entered; covers = a.covers; sums = a.sums }

pub relinks_of : (r q : ReadersView) (old new : Kept) (gone made : List Stands) → Rewired r q old new gone made → Relinks r q old gone made
relinks_of r q old new gone made a = record { relinked = a.relinked; once = a.once; gone_is = a.gone_is; entered = a.entered }

-- a record that is kept
pub rewired_kept : (r : ReadersView) (k : Kept) → Linked r k → LinksOnce r → Rewired r r k k [] []
rewired_kept r k h o =
    record { relinked = relinked_none r; linked = h; once = o; gone_is = λ l i. absurd i; entered = λ l i. absurd i; covers = λ l i. inl i; sums = λ g. refl }

-- a part, and the rest behind it
module _ (r : ReadersView) (m : MarksView) (us : List ℕ) (above : Option Handle) (n : Handle) (t k : Kept) (p : Planted m us above (S n t k)) (w : Wired r m us above (S n t k)) (o : Ordered (S n t k)) where
  abbrev outer : List ℕ
  outer = n.slot ∷ us

  abbrev wide : List ℕ
  wide = n.slot ∷ us ++ slots k

  parts_once : Distinct (indexes (links_of t) ++ indexes (links_of k))
  parts_once = subst Distinct (indexes_append (links_of t) (links_of k)) w.linked.once

  pub parts_apart : (l : ℕ) → Member l (indexes (links_of t)) → Member l (indexes (links_of k)) → ⊥
  parts_apart = distinct_apart (indexes (links_of t)) (indexes (links_of k)) parts_once

  pub part_linked : Linked r t
  part_linked = record { live = λ s i. w.linked.live s (member_left s (links_of t) (links_of k) i); once = distinct_front (indexes (links_of t)) (indexes (links_of k)) parts_once }

  pub rest_linked : Linked r k
  rest_linked = record { live = λ s i. w.linked.live s (member_right s (links_of t) (links_of k) i); once = distinct_back (indexes (links_of t)) (indexes (links_of k)) parts_once }

  pub node_led : LeadsIn m outer n.slot
  node_led = led_node m outer above n p.nodes.0 (above_wider m us outer above (λ x i. inr i) w.above_led) (inl refl)

  pub outer_led : (x : ℕ) → Member x outer → LeadsIn m outer x
  outer_led x (inl e) = subst (LeadsIn m outer) e node_led
  outer_led x (inr i) = led_wider m us outer (λ y j. inr j) x (w.led x i)

  in_wide : (x : ℕ) → Member x outer → Member x wide
  in_wide x (inl e) = inl e
  in_wide x (inr i) = inr (member_left x us (slots k) i)

  rest_wide : (x : ℕ) → Member x (slots k) → Member x wide
  rest_wide x i = inr (member_right x us (slots k) i)

  pub wired_part : Wired r m wide (Some n) t
  wired_part =
      record {
        linked = part_linked;
        once = w.once;
        walk = λ s a. w.walk s (writes_first n t k s a);
        readers = λ s l a i e f.
            ⊎_elim
            (λ (c : (x : Stands) × Member x (links_of t ++ links_of k) × (standing x ≡ l)).
            ⊎_elim
            (λ (d : Member c.0 (links_of t)). inl (c.0, d, c.2))
            (λ (d : Member c.0 (links_of k)).
            let slot : Member c.0.node.slot (slots k) = node_in k c.0 d in
            inr (c.0.node, w.fits c.0.node.slot (inr (member_right c.0.node.slot (slots t) (slots k) slot)), ap (λ (z : LinkView). z.node) (sym c.2), rest_wide c.0.node.slot slot))
            (member_cases c.0 (links_of t) (links_of k) c.1))
            (λ (c : NodeIn us l.node). inr (node_wider us wide l.node (λ x j. in_wide x (inr j)) c))
            (w.readers s l (writes_first n t k s a) i e f);
        led = λ x i. ⊎_elim
            (λ (j : Member x outer). led_wider m outer wide in_wide x (outer_led x j))
            (λ (j : Member x (slots k)). led_nodes m wide (Some n) k p.nodes.2 (led_wider m outer wide in_wide n.slot node_led) rest_wide x j)
            (member_cases x outer (slots k) i);
        above_led = led_wider m outer wide in_wide n.slot node_led;
        fits = λ x i. w.fits x (inr (member_left x (slots t) (slots k) i));
      }

  -- the rest stands as it stood
  module _ (q : ReadersView) (gone made : List Stands) (a : Relinks r q t gone made) where
    pub rest_still : Linked q k
    rest_still =
        record {
          live = λ s i. a.relinked.keeps (standing s) (rest_linked.live s i) (λ j. parts_apart s.link.index (a.gone_is s.link.index j) (index_of s k i));
          once = rest_linked.once;
        }

    pub wired_rest : (x : MarksView) → Passed m x wide (slots t) → Unread made k → Wired q x outer (Some n) k
    wired_rest x c free =
        let out : (y : ℕ) → Member y outer → Member y (slots t) → ⊥ = λ y i j. elim i [
          | inl e ↦ p.once.0 (member_left n.slot (slots t) (slots k) (subst (λ z. Member z (slots t)) (sym e) j))
          | inr h ↦ p.apart y h (inr (member_left y (slots t) (slots k) j))
        ] in
        let more : (e : Place) → Member e (places m) → Member e.node.slot outer → Member e (places x) = λ e i j. place_on e i in
        let on : (y : ℕ) → LeadsIn m outer y → LeadsIn x outer y = led_on m x outer more (λ y i h. kept_on m x wide (slots t) c y (out y i) h) (λ y i h. c.busy y (out y i) h) in
        record {
          linked = rest_still;
          once = a.once;
          walk = λ s d.
              let b = w.walk s (writes_second n t k s d) in
              (subst (λ z. s < z) (sym a.relinked.mods) b.0, walk_stays r q gone made a.relinked s b.1);
          readers = λ s l d i e f.
              ⊎_elim
              (λ (b : Member l r.links). old s l d b e f)
              (λ (b : (y : Stands) × Member y made × (standing y ≡ l)).
              let same : b.0.of.slot ≡ s = ap (λ (z : LinkView). z.of) b.2 ∙ e in
              absurd (not_both (wrote_slot k s d) (ap (writes_slot (bare k)) (sym same) ∙ free b.0 b.1)))
              (link_back r q gone made a.relinked l i f);
          led = λ y i. on y (outer_led y i);
          above_led = on n.slot node_led;
          fits = λ y i. w.fits y (inr (member_right y (slots t) (slots k) i));
        }
      where
        place_on : (e : Place) → Member e (places m) → Member e (places x)
        place_on e i =
            ⊎_elim
            (λ (y : (o : OwnView) × Member o m.own × (own_place m.claims.branch o ≡ e)).
            subst (λ z. Member z (places x)) (ap (λ b. own_place b y.0) c.branch ∙ y.2) (place_own x y.0 (c.keeps y.0 y.1)))
            (λ (y : (o : SharedView) × Member o m.shared × (shared_place o ≡ e)).
            subst (λ z. Member z (places x)) y.2 (place_shared x y.0 (subst (Member y.0) (sym c.shared) y.1)))
            (place_cases m e i)

        old : (s : ℕ) (l : LinkView) → Writes k s → Member l r.links → l.of ≡ s → l.stage ≡ In → ((y : Stands) × Member y (links_of k) × (standing y ≡ l)) ⊎ NodeIn outer l.node
        old s l d i e f =
            ⊎_elim
            (λ (y : (y : Stands) × Member y (links_of t ++ links_of k) × (standing y ≡ l)).
            ⊎_elim
            (λ (g : Member y.0 (links_of t)).
            let same : y.0.of.slot ≡ s = ap (λ (z : LinkView). z.of) y.2 ∙ e in
            absurd (not_both (wrote_slot k s d) (ap (writes_slot (bare k)) (sym same) ∙ o.0 y.0 g)))
            (λ (g : Member y.0 (links_of k)). inl (y.0, g, y.2))
            (member_cases y.0 (links_of t) (links_of k) y.1))
            (λ (y : NodeIn us l.node). inr (node_wider us outer l.node (λ z j. inr j) y))
            (w.readers s l (writes_second n t k s d) i e f)

    pub relinks_turn : (x : ReadersView) (left new : List Stands) → Relinks q x k left new → Relinks r x (S n t k) (gone ++ left) (made ++ new)
    relinks_turn x left new b =
        record {
          relinked = relinked_then r q x gone made left new a.relinked b.relinked;
          once = b.once;
          gone_is = λ l i. ⊎_elim
              (λ (j : Member l (indexes gone)). index_left l (links_of t) (links_of k) (a.gone_is l j))
              (λ (j : Member l (indexes left)). index_right l (links_of t) (links_of k) (b.gone_is l j))
              (index_cases l gone left i);
          entered = λ l i. ⊎_elim
              (λ (j : Member l (indexes made)). a.entered l j)
              (λ (j : Member l (indexes new)). let z = b.entered l j in let y = named_more r q gone made a.relinked l in omega (arith, z, y))
              (index_cases l made new i);
        }

  -- and so does what stands now in place of the part
  module _ (q : ReadersView) (u : Kept) (gone made : List Stands) (a : Rewired r q t u gone made) where
    -- what stands in place of the part, the rest has not
    new_not_rest : (l : ℕ) → Member l (indexes (links_of u)) → Member l (indexes (links_of k)) → ⊥
    new_not_rest l i j =
        ⊎_elim
        (λ (c : Member l (indexes (links_of t))). parts_apart l c j)
        (λ (c : Member l (indexes made)). let z = a.entered l c in let y = live_sum r k l rest_linked j in absurd (omega (arith, z, y)))
        (a.covers l i)

    -- both parts, one after the other
    pub rewired_turn : (x : ReadersView) (v : Kept) (left new : List Stands) → Rewired q x k v left new → Rewired r x (S n t k) (S n u v) (gone ++ left) (made ++ new)
    rewired_turn x v left new b =
        record {
          relinked = both.relinked;
          linked = record {
            live = λ s i. ⊎_elim (λ (j : Member s (links_of u)). first_live s j) (λ (j : Member s (links_of v)). b.linked.live s j) (member_cases s (links_of u) (links_of v) i);
            once = subst Distinct (sym (indexes_append (links_of u) (links_of v))) (distinct_both (indexes (links_of u)) (indexes (links_of v)) a.linked.once b.linked.once both_apart);
          };
          once = both.once;
          gone_is = both.gone_is;
          entered = both.entered;
          covers = covers_both (links_of t) (links_of k) (links_of u) (links_of v) made new a.covers b.covers;
          sums = sums_both (links_of t) (links_of k) (links_of u) (links_of v) gone left made new a.sums b.sums;
        }
      where
        both : Relinks r x (S n t k) (gone ++ left) (made ++ new)
        both = relinks_turn q gone made (relinks_of r q t u gone made a) x left new (relinks_of q x k v left new b)

        first_live : (s : Stands) → Member s (links_of u) → Member (standing s) x.links
        first_live s j = b.relinked.keeps (standing s) (a.linked.live s j) (λ c. new_not_rest s.link.index (index_of s u j) (b.gone_is s.link.index c))

        both_apart : (l : ℕ) → Member l (indexes (links_of u)) → Member l (indexes (links_of v)) → ⊥
        both_apart l i j =
            ⊎_elim
            (λ (c : Member l (indexes (links_of k))). new_not_rest l i c)
            (λ (c : Member l (indexes new)). let z = b.entered l c in let y = live_sum q u l a.linked i in absurd (omega (arith, z, y)))
            (b.covers l j)

-- a record of the same links
pub relinks_as : (r q : ReadersView) (old old' : Kept) (gone made : List Stands) → links_of old ≡ links_of old' → Relinks r q old gone made → Relinks r q old' gone made
relinks_as r q old old' gone made e a = record { relinked = a.relinked; once = a.once; gone_is = λ l i. subst (λ z. Member l (indexes z)) e (a.gone_is l i); entered = a.entered }

pub rewired_as : (r q : ReadersView) (old new old' new' : Kept) (gone made : List Stands) → links_of old ≡ links_of old' → links_of new ≡ links_of new' → Rewired r q old new gone made → Rewired r q old' new' gone made
rewired_as r q old new old' new' gone made e f a =
    record {
      relinked = a.relinked;
      linked = record { live = λ s i. a.linked.live s (subst (Member s) (sym f) i); once = subst (λ z. Distinct (indexes z)) f a.linked.once };
      once = a.once;
      gone_is = λ l i. subst (λ z. Member l (indexes z)) e (a.gone_is l i);
      entered = a.entered;
      covers = λ l i. subst (λ z. Member l (indexes z) ⊎ Member l (indexes made)) e (a.covers l (subst (λ z. Member l (indexes z)) (sym f) i));
      sums = λ g. ap (λ z. sum_by g z + sum_by g gone) (sym f) ∙ a.sums g ∙ ap (λ z. sum_by g z + sum_by g made) e;
    }
