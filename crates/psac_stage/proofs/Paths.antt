-- All who read a modifiable lead up, where a pass has the nodes and links of a record.
use Rattle.std.proofs.Common.{◌≡◌, ℕ, ◌<◌, ◌==◌, Bool, true, false, cond, List, [], ◌∷◌, ◌++◌, map, Option, Some, None, refl, ap, sym, ◌∙◌, subst, inl, inr, ⊎_elim, arith}
use Rattle.std.specs.Prelude.{IfSome}
use Rattle.psac_ops.specs.declared.plain.Handle.{Handle}
use Rattle.psac_slots.specs.Handles.{Member}
use Rattle.psac_slots.proofs.Pairs.{member_left, member_right, member_cases, member_map, map_member}
use Rattle.psac_readers.specs.declared.view.Stage.{Stage}
use Rattle.psac_readers.specs.declared.view.Stage.TheVariants.{Claimed, UnderWay, In, Dead}
use Rattle.psac_readers.specs.declared.view.LinkView.{LinkView}
use Rattle.psac_readers.specs.declared.view.ReadersView.{ReadersView}
use Rattle.psac_readers.specs.Chained.{is_live}
use Rattle.psac_marks.specs.declared.view.MarksView.{MarksView}
use Rattle.psac_marks.specs.Marked.{Place, own_place, shared_place}
use Rattle.psac_raise.specs.Raise.{LeadsIn, LeadUp, LeadUpIn}
use Rattle.psac_record.specs.Kept.{Kept, E, A, W, S, P, R, Stands, stands, links_of}
use Rattle.psac_laws.proofs.Places.{nat_is, nat_same, test_or}
use Rattle.psac_trace.specs.Grown.{as_own}
use Rattle.psac_trace.proofs.Leading.{member_sum, sum_member}
use Rattle.psac_repair.specs.Marks.{Sits, Nodes}
use Rattle.psac_repair.specs.Planted.{slots}
use Rattle.psac_repair.specs.Linked.{standing}
use Rattle.psac_reclaim.specs.Owed.{entered}
use Rattle.psac_stage.specs.Recorded.{HasNodes, HasLinks}

-- live links that are the same

abbrev pub same_node : Option ℕ → Option ℕ → Bool
same_node None None = true
same_node (Some x) (Some y) = x == y
same_node _ _ = false

pub node_same : (o : Option ℕ) → same_node o o ≡ true
node_same None = refl
node_same (Some x) = nat_same x

pub node_is : (o p : Option ℕ) → same_node o p ≡ true → o ≡ p
node_is None None h = refl
node_is (Some x) (Some y) h = ap (λ (n : ℕ). Some n) (nat_is x y h)
node_is None (Some y) h = absurd cc
node_is (Some x) None h = absurd cc

live_is : (s : Stage) → 0 < is_live s → s ≡ In
live_is Claimed h = absurd (omega (arith, h))
live_is (UnderWay n) h = absurd (omega (arith, h))
live_is In h = refl
live_is Dead h = absurd (omega (arith, h))

-- 1 where a live link is this one
abbrev same_link : LinkView → LinkView → ℕ
same_link l k = cond (k.link == l.link) (cond (k.of == l.of) (cond (same_node k.node l.node) (is_live k.stage) 0) 0) 0

itself : (l : LinkView) → l.stage ≡ In → same_link l l ≡ 1
itself l e = rw (nat_same l.link, nat_same l.of, node_same l.node) (ap is_live e)

fields : (k l : LinkView) → k.link ≡ l.link → k.of ≡ l.of → k.node ≡ l.node → k.stage ≡ l.stage → k ≡ l
fields k l a b c d =
    ap (λ z. record { link = z; of = k.of; node = k.node; stage = k.stage }) a
    ∙ ap (λ z. record { link = l.link; of = z; node = k.node; stage = k.stage }) b
    ∙ ap (λ z. record { link = l.link; of = l.of; node = z; stage = k.stage }) c
    ∙ ap (λ z. record { link = l.link; of = l.of; node = l.node; stage = z }) d

link_is : (l k : LinkView) → l.stage ≡ In → 0 < same_link l k → k ≡ l
link_is l k e h =
    elim (test_or (k.link == l.link)) [
      | inl p ↦
          elim (test_or (k.of == l.of)) [
            | inl q ↦
                elim (test_or (same_node k.node l.node)) [
                  | inl t ↦
                      fields k l (nat_is k.link l.link p) (nat_is k.of l.of q) (node_is k.node l.node t)
                      (live_is k.stage (let z : 0 < is_live k.stage = rw (p, q, t) at h in z) ∙ sym e)
                  | inr t ↦ absurd (let z : 0 < 0 = rw (p, q, t) at h in omega (arith, z))
                ]
            | inr q ↦ absurd (let z : 0 < 0 = rw (p, q) at h in omega (arith, z))
          ]
      | inr p ↦ absurd (let z : 0 < 0 = rw p at h in omega (arith, z))
    ]

-- a link's node is one of the record's
pub link_slot : (k : Kept) (t : Stands) → Member t (links_of k) → Member t.node.slot (slots k)
link_slot E t i = absurd i
link_slot (A m r) t i = link_slot r t i
link_slot (W m v r) t i = link_slot r t i
link_slot (S n l r) t i =
    ⊎_elim
    (λ (j : Member t (links_of l)). inr (member_left t.node.slot (slots l) (slots r) (link_slot l t j)))
    (λ (j : Member t (links_of r)). inr (member_right t.node.slot (slots l) (slots r) (link_slot r t j)))
    (member_cases t (links_of l) (links_of r) i)
link_slot (P n l r) t i =
    ⊎_elim
    (λ (j : Member t (links_of l)). inr (member_left t.node.slot (slots l) (slots r) (link_slot l t j)))
    (λ (j : Member t (links_of r)). inr (member_right t.node.slot (slots l) (slots r) (link_slot r t j)))
    (member_cases t (links_of l) (links_of r) i)
link_slot (R b u) t i =
    ⊎_elim
    (λ (j : Member t (map (stands b.node) b.reads)). let q = member_map (stands b.node) t b.reads j in inl
    (ap (λ (z : Stands). z.node.slot) q.2))
    (λ (j : Member t (links_of u)). inr (link_slot u t j))
    (member_cases t (map (stands b.node) b.reads) (links_of u) i)

module _ (k : Kept) (m : MarksView) (has : HasNodes k m) where
  module _ (us : List ℕ) where
    abbrev Above : Option Handle → Type 0
    Above above = IfSome above (λ h. LeadsIn m us h.slot)

    lead_here : (above : Option Handle) (n : Handle) → Sits m above n → Member n.slot us → Above above → LeadsIn m us n.slot
    lead_here None n s i a =
        let p : Place = own_place m.claims.branch (as_own (n, None)) in (
          p ∷ [],
          (
            refl,
            member_left p (map (own_place m.claims.branch) m.own) (map shared_place m.shared)
                (map_member (own_place m.claims.branch) (as_own (n, None)) m.own s.0),
            s.1,
            inl refl,
          ),
          λ e j. elim j
              [ inl q ↦ subst (λ (z : Place). Member z.node.slot us) q i | inr z ↦ absurd z ],
        )
    lead_here (Some h) n s i a =
        let p : Place = own_place m.claims.branch (as_own (n, Some h)) in (
          p ∷ a.0,
          (
            refl,
            member_left p (map (own_place m.claims.branch) m.own) (map shared_place m.shared)
                (map_member (own_place m.claims.branch) (as_own (n, Some h)) m.own s.0),
            s.1,
            inr (inr (h.slot, refl, a.1)),
          ),
          λ e j. elim j
              [ inl q ↦ subst (λ (z : Place). Member z.node.slot us) q i | inr z ↦ a.2 e z ],
        )

    leads_two : (n : Handle) (l r : Kept) → LeadsIn m us n.slot → ((x : ℕ) → Member x (slots l) → LeadsIn m us x)
        → ((x : ℕ) → Member x (slots r) → LeadsIn m us x) → (x : ℕ) → Member x (n.slot ∷ slots l ++ slots r) → LeadsIn m us x
    leads_two n l r here one two x (inl e) = subst (LeadsIn m us) e here
    leads_two n l r here one two x (inr i) = ⊎_elim (one x) (two x) (member_cases x (slots l) (slots r) i)

    leads_all : (above : Option Handle) (t : Kept) → Nodes m above t → ((x : ℕ) → Member x (slots t) → Member x us) → Above above
        → (x : ℕ) → Member x (slots t) → LeadsIn m us x
    leads_all above E s f a x i = absurd i
    leads_all above (A h r) s f a x i = leads_all above r s f a x i
    leads_all above (W h v r) s f a x i = leads_all above r s f a x i
    leads_all above (S n l r) s f a x i =
        let here = lead_here above n s.0 (f n.slot (inl refl)) a in
        leads_two n l r here
        (λ y j. leads_all (Some n) l s.1 (λ z q. f z (inr (member_left z (slots l) (slots r) q))) here y j)
        (λ y j. leads_all (Some n) r s.2 (λ z q. f z (inr (member_right z (slots l) (slots r) q))) here y j)
        x i
    leads_all above (P n l r) s f a x i =
        let here = lead_here above n s.0 (f n.slot (inl refl)) a in
        leads_two n l r here
        (λ y j. leads_all (Some n) l s.1 (λ z q. f z (inr (member_left z (slots l) (slots r) q))) here y j)
        (λ y j. leads_all (Some n) r s.2 (λ z q. f z (inr (member_right z (slots l) (slots r) q))) here y j)
        x i
    leads_all above (R b t) s f a x (inl e) = subst (LeadsIn m us) e (lead_here above b.node s.0 (f b.node.slot (inl refl)) a)
    leads_all above (R b t) s f a x (inr i) = leads_all (Some b.node) t s.1 (λ y j. f y (inr j))
        (lead_here above b.node s.0 (f b.node.slot (inl refl)) a) x i

  pub node_leads : (x : ℕ) → Member x (slots k) → LeadsIn m (slots k) x
  node_leads x i = leads_all (slots k) None k has.nodes (λ y j. j) tt x i

  module _ (r : ReadersView) (links : HasLinks k r) where
    -- each live link of the pass is one of the record's, and the other way round
    pub link_from : (l : LinkView) → Member l r.links → l.stage ≡ In → (t : Stands) × Member t (links_of k) × (standing t ≡ l)
    link_from l i e =
        let here = member_sum (same_link l) l r.links i (let o = itself l e in omega (arith, o)) in
        let sum = links.links (same_link l) in
        let q = sum_member (same_link l) (map (entered In) (links_of k)) (omega (arith, here, sum)) in
        let t = member_map (entered In) q.0 (links_of k) q.1 in
        (t.0, t.1, t.2 ∙ link_is l q.0 e q.2)

    pub link_here : (t : Stands) → Member t (links_of k) → Member (standing t) r.links
    link_here t i =
        let l = standing t in
        let there = member_sum (same_link l) l (map (entered In) (links_of k)) (map_member (entered In) t (links_of k) i)
        (let o = itself l refl in omega (arith, o)) in
        let sum = links.links (same_link l) in
        let q = sum_member (same_link l) r.links (omega (arith, there, sum)) in
        subst (λ z. Member z r.links) (link_is l q.0 refl q.2) q.1

    -- all readers of a modifiable lead up within the record
    pub readers_lead : (s : ℕ) → LeadUpIn r m (slots k) s
    readers_lead s l i o e =
        let t = link_from l i e in
        let slot = link_slot k t.0 t.1 in
        (t.0.node, has.fits t.0.node.slot slot, ap (λ (z : LinkView). z.node) (sym t.2), node_leads t.0.node.slot slot)

    pub readers_up : (s : ℕ) → LeadUp r m s
    readers_up s l i o e = let b = readers_lead s l i o e in (b.0, b.1, b.2, (b.3.0, b.3.1))
