-- Paths and links, from one pass to another.
use Rattle.std.proofs.Common.{◌≡◌, ◌⊎◌, ℕ, ◌<◌, ◌==◌, zero, suc, Bool, true, false, List, [], ◌∷◌, map, Option, Some, None, refl, ap, sym, ◌∙◌, subst, inl, inr, ⊎_elim, arith}
use Rattle.std.specs.Prelude.{cond, sum_by}
use Rattle.std.proofs.lemmas.List.Sums.{sum_by-cons}
use Rattle.psac_slots.specs.Handles.{Member}
use Rattle.psac_slots.proofs.Pairs.{member_left, member_right, member_cases, member_map, map_member}
use Rattle.psac_readers.specs.declared.view.Stage.{Stage}
use Rattle.psac_readers.specs.declared.view.Stage.TheVariants.{Claimed, UnderWay, In, Dead}
use Rattle.psac_readers.specs.declared.view.LinkView.{LinkView}
use Rattle.psac_readers.specs.declared.view.ReadersView.{ReadersView}
use Rattle.psac_readers.specs.Chained.{is_live}
use Rattle.psac_marks.specs.declared.view.MarksView.{MarksView}
use Rattle.psac_marks.specs.declared.view.OwnView.{OwnView}
use Rattle.psac_marks.specs.Marked as marks_rule
use Rattle.psac_marks.specs.Marked.{Place, places}
use Rattle.psac_marks.specs.Passes.{IsKept, IsBusy, Leads}
use Rattle.psac_raise.specs.Raise.{LeadUp, LeadUpIn}
use Rattle.psac_record.specs.Kept.{Stands}
use Rattle.psac_laws.proofs.Places.{nat_is, nat_same, test_or}
use Rattle.psac_trace.specs.Grown.{MoreNodes, MoreMarks, MoreLinks, as_link}
use Rattle.psac_trace.specs.Raising.{AllBusy}

-- a path stays where all that is kept stays, and what is kept and busy is
pub leads_more : (v w : MarksView) → ((e : Place) → Member e (places v) → IsKept v e.node.slot → Member e (places w)) → ((x : ℕ) → IsKept v x → IsKept w x) → ((x : ℕ) → IsKept v x → IsBusy v x → IsBusy w x) → (x : ℕ) (path : List Place) → Leads v x path → Leads w x path
leads_more v w more kept busy x [] l = absurd l
leads_more v w more kept busy x (e ∷ es) l = (
  l.0,
  more e l.1 (subst (IsKept v) (sym l.0) l.2),
  kept x l.2,
  ⊎_elim
      (λ (r : e.parent ≡ None). inl r)
      (λ (q : IsBusy v x ⊎ ((p : ℕ) × (e.parent ≡ Some p) × Leads v p es)). inr (⊎_elim (λ (b : IsBusy v x). inl (busy x l.2 b)) (λ (p : (p : ℕ) × (e.parent ≡ Some p) × Leads v p es). inr (p.0, p.1, leads_more v w more kept busy p.0 es p.2)) q))
      l.3,
)

module _ (v u : MarksView) (a : List OwnView) (m : MoreNodes v u a) where
  pub place_on : (e : Place) → Member e (places v) → Member e (places u)
  place_on e i =
      ⊎_elim
      (λ (j : Member e (map (marks_rule.own_place v.claims.branch) v.own)).
      let q = member_map (marks_rule.own_place v.claims.branch) e v.own j in
      member_left e (map (marks_rule.own_place u.claims.branch) u.own) (map marks_rule.shared_place u.shared)
      (subst (λ b. Member e (map (marks_rule.own_place b) u.own)) (sym m.branch) (subst (λ z. Member z (map (marks_rule.own_place v.claims.branch) u.own)) q.2 (map_member (marks_rule.own_place v.claims.branch) q.0 u.own (m.has q.0 q.1)))))
      (λ (j : Member e (map marks_rule.shared_place v.shared)).
      member_right e (map (marks_rule.own_place u.claims.branch) u.own) (map marks_rule.shared_place u.shared) (subst (λ s. Member e (map marks_rule.shared_place s)) (sym m.shared) j))
      (member_cases e (map (marks_rule.own_place v.claims.branch) v.own) (map marks_rule.shared_place v.shared) i)

  pub leads_on : MoreMarks v u → (x : ℕ) (path : List Place) → Leads v x path → Leads u x path
  leads_on k = leads_more v u (λ e i h. place_on e i) (λ x h. m.dropped x ∙ h) (λ x h b. k.busy x b)

-- sums and members
pub member_sum : {A : Type 0} (g : A → ℕ) (x : A) (xs : List A) → Member x xs → 0 < g x → 0 < sum_by g xs
member_sum g x [] i h = absurd i
member_sum g x (y ∷ ys) i h =
    let c = sum_by-cons g y ys in
    ⊎_elim
    (λ (e : y ≡ x). let k : 0 < g y = subst (λ z. 0 < g z) (sym e) h in omega (arith, c, k))
    (λ (j : Member x ys). let m = member_sum g x ys j h in omega (arith, c, m))
    i

pub zero_or : (n : ℕ) → (n ≡ 0) ⊎ (0 < n)
zero_or zero = inl refl
zero_or (suc n) = inr (omega arith)

pub sum_member : {A : Type 0} (g : A → ℕ) (xs : List A) → 0 < sum_by g xs → (x : A) × Member x xs × (0 < g x)
sum_member g [] h = absurd (let z : sum_by g [] ≡ 0 = refl in omega (arith, h, z))
sum_member g (x ∷ xs) h =
    let c = sum_by-cons g x xs in
    elim (zero_or (g x)) [
      | inl z ↦ (let m = sum_member g xs (omega (arith, c, z, h)) in (m.0, inr m.1, m.2))
      | inr o ↦ (x, inl refl, o)
    ]

-- a live link of a set, by its node
abbrev same_node : Option ℕ → Option ℕ → Bool
same_node None None = true
same_node (Some x) (Some y) = x == y
same_node _ _ = false

node_same : (o : Option ℕ) → same_node o o ≡ true
node_same None = refl
node_same (Some x) = nat_same x

node_is : (o p : Option ℕ) → same_node o p ≡ true → o ≡ p
node_is None None h = refl
node_is (Some x) (Some y) h = ap (λ (n : ℕ). Some n) (nat_is x y h)
node_is None (Some y) h = absurd cc
node_is (Some x) None h = absurd cc

live_is : (s : Stage) → 0 < is_live s → s ≡ In
live_is Claimed h = absurd (omega (arith, h))
live_is (UnderWay n) h = absurd (omega (arith, h))
live_is In h = refl
live_is Dead h = absurd (omega (arith, h))

abbrev alike : ℕ → Option ℕ → LinkView → ℕ
alike s n k = cond (k.of == s) (cond (same_node k.node n) (is_live k.stage) 0) 0

alike_at : (s : ℕ) (k : LinkView) → k.of ≡ s → k.stage ≡ In → alike s k.node k ≡ 1
alike_at s k o i = rw (ap (λ z. z == s) o ∙ nat_same s, node_same k.node) (ap is_live i)

alike_is : (s : ℕ) (n : Option ℕ) (k : LinkView) → 0 < alike s n k → (k.of ≡ s) × (k.stage ≡ In) × (k.node ≡ n)
alike_is s n k h =
    elim (test_or (k.of == s)) [
      | inl p ↦
          elim (test_or (same_node k.node n)) [
            | inl q ↦ (nat_is k.of s p, live_is k.stage (let z : 0 < is_live k.stage = rw (p, q) at h in z), node_is k.node n q)
            | inr q ↦ absurd (let z : 0 < 0 = rw (p, q) at h in omega (arith, z))
          ]
      | inr p ↦ absurd (let z : 0 < 0 = rw p at h in omega (arith, z))
    ]

-- the live link of the set with this node, if there is one
abbrev pub LiveIn : ReadersView → ℕ → Option ℕ → Type 0
LiveIn r s n = (k : LinkView) × Member k r.links × (k.of ≡ s) × (k.stage ≡ In) × (k.node ≡ n)

module _ (v u : ReadersView) (made : List Stands) (m : MoreLinks v u made) where
  pub link_on : (s : ℕ) (k : LinkView) → Member k v.links → k.of ≡ s → k.stage ≡ In → LiveIn u s k.node
  link_on s k i o e =
      let g = alike s k.node in
      let one = alike_at s k o e in
      let here = member_sum g k v.links i (omega (arith, one)) in
      let sum = m.links g in
      let b = sum_member g u.links (omega (arith, here, sum)) in
      let c = alike_is s k.node b.0 b.2 in
      (b.0, b.1, c.0, c.1, c.2)

  pub link_from : (s : ℕ) (k : LinkView) → Member k u.links → k.of ≡ s → k.stage ≡ In → LiveIn v s k.node ⊎ ((x : Stands) × Member x made × (x.of.slot ≡ s))
  link_from s k i o e =
      let g = alike s k.node in
      let one = alike_at s k o e in
      let here = member_sum g k u.links i (omega (arith, one)) in
      let sum = m.links g in
      elim (zero_or (sum_by g v.links)) [
        | inr p ↦ (let b = sum_member g v.links p in let c = alike_is s k.node b.0 b.2 in inl (b.0, b.1, c.0, c.1, c.2))
        | inl z ↦
            (let b = sum_member (λ (x : Stands). g (as_link x)) made (omega (arith, here, sum, z)) in
            let c = alike_is s k.node (as_link b.0) b.2 in
            inr (b.0, b.1, c.0))
      ]

-- what leads up on one pass leads up on another, whose live links of the set are some of the first one's
abbrev pub FewerIn : ReadersView → ReadersView → ℕ → Type 0
FewerIn r r' s = (k : LinkView) → Member k r'.links → k.of ≡ s → k.stage ≡ In → LiveIn r s k.node

module _ (r r' : ReadersView) (n n' : MarksView) (s : ℕ) (fewer : FewerIn r r' s) (on : (x : ℕ) (path : List Place) → Leads n x path → Leads n' x path) where
  pub lead_up : LeadUp r n s → LeadUp r' n' s
  lead_up l k i o e =
      let b = fewer k i o e in
      let c = l b.0 b.1 b.2 b.3 in
      (c.0, c.1, sym b.4 ∙ c.2, (c.3.0, on c.0.slot c.3.0 c.3.1))

  pub lead_up_in : (us : List ℕ) → LeadUpIn r n us s → LeadUpIn r' n' us s
  lead_up_in us l k i o e =
      let b = fewer k i o e in
      let c = l b.0 b.1 b.2 b.3 in
      (c.0, c.1, sym b.4 ∙ c.2, (c.3.0, on c.0.slot c.3.0 c.3.1, c.3.2))

-- what is busy on one pass is busy on another, whose live links of the set have the first one's
pub busy_on : (r r' : ReadersView) (n n' : MarksView) (s : ℕ) → FewerIn r' r s → ((x : ℕ) → IsBusy n x → IsBusy n' x) → AllBusy r' n s → AllBusy r n' s
busy_on r r' n n' s more on b k h i o e w low =
    let c = more k i o e in
    on h.slot (b c.0 h c.1 c.2 c.3 (c.4 ∙ w) low)
