-- What stands of a pass's nodes and marks where others were gone through.
use Rattle.std.proofs.Common.{◌∷◌, ◌≡◌, ◌≢◌, ◌⊎◌, ℕ, ◌<◌, List, [], ◌++◌, Option, Some, refl, ap, sym, ◌∙◌, subst, inl, inr, ⊎_elim, arith}
use Rattle.psac_ops.specs.declared.plain.Handle.{Handle}
use Rattle.psac_slots.specs.Handles.{Member}
use Rattle.psac_slots.specs.Claiming.{times}
use Rattle.psac_slots.proofs.Pairs.{member_left, member_right, member_cases}
use Rattle.psac_laws.proofs.Places.{zero_or}
use Rattle.psac_marks.specs.declared.view.OwnView.{OwnView}
use Rattle.psac_marks.specs.declared.view.SharedView.{SharedView}
use Rattle.psac_marks.specs.declared.view.MarksView.{MarksView}
use Rattle.psac_marks.specs.Marked.{Place, places, own_place, shared_place, Has}
use Rattle.psac_marks.specs.Steps.{Lacks, cleared, dropping}
use Rattle.psac_marks.specs.Passes.{IsKept, slot_of, IsBusy}
use Rattle.psac_marks.proofs.Parts.{place_own, place_shared, place_cases, times_else}
use Rattle.psac_marks.proofs.Counted.{times_both, times_member, times_found}
use Rattle.psac_record.specs.Kept.{Kept, E, A, W, S, P, R}
use Rattle.psac_repair.specs.Taken.{nodes_up}
use Rattle.psac_repair.specs.Marks.{Sits, Nodes}
use Rattle.psac_repair.specs.Planted.{slots, tops, Apart, Children, Families, NoneMarked, IsMade, Passed}

pub times_none : (x : ℕ) (xs : List ℕ) → (Member x xs → ⊥) → times x xs ≡ 0
times_none x xs out = elim (zero_or (times x xs)) [ inl e ↦ e | inr p ↦ absurd (out (times_found x xs (omega (arith, p)))) ]

pub in_or_out : (x : ℕ) (xs : List ℕ) → Member x xs ⊎ (Member x xs → ⊥)
in_or_out x xs =
    elim (zero_or (times x xs)) [
      | inl e ↦ inr (λ i. let q = times_member x xs i in absurd (omega (arith, q, e)))
      | inr p ↦ inl (times_found x xs (omega (arith, p)))
    ]

pub top_in : (k : Kept) (x : ℕ) → Member x (tops k) → Member x (slots k)
top_in E x i = i
top_in (A m r) x i = top_in r x i
top_in (W m v r) x i = top_in r x i
top_in (S n t r) x i = elim i [ inl e ↦ inl e | inr j ↦ absurd j ]
top_in (P n l r) x i = elim i [ inl e ↦ inl e | inr j ↦ absurd j ]
top_in (R b t) x i = elim i [ inl e ↦ inl e | inr j ↦ absurd j ]

-- an own node with this slot, which isn't dropped
pub record Here (m : MarksView) (x : ℕ) : Type 0 where
  pub own : OwnView
  pub is : Member own m.own
  pub slot : own.node.slot ≡ x
  pub kept : IsKept m x

here_one : (m : MarksView) (above : Option Handle) (h : Handle) (x : ℕ) → Sits m above h → h.slot ≡ x → Here m x
here_one m above h x s e = record { own = record { node = h; parent = slot_of above }; is = s.0; slot = e; kept = subst (IsKept m) e s.1 }

pub node_at : (m : MarksView) (above : Option Handle) (k : Kept) → Nodes m above k → (x : ℕ) → Member x (slots k) → Here m x
node_at m above E ns x i = absurd i
node_at m above (A h r) ns x i = node_at m above r ns x i
node_at m above (W h v r) ns x i = node_at m above r ns x i
node_at m above (S n t r) ns x (inl e) = here_one m above n x ns.0 e
node_at m above (S n t r) ns x (inr i) =
    ⊎_elim (λ (j : Member x (slots t)). node_at m (Some n) t ns.1 x j) (λ (j : Member x (slots r)). node_at m (Some n) r ns.2 x j) (member_cases x (slots t) (slots r) i)
node_at m above (P n t r) ns x (inl e) = here_one m above n x ns.0 e
node_at m above (P n t r) ns x (inr i) =
    ⊎_elim (λ (j : Member x (slots t)). node_at m (Some n) t ns.1 x j) (λ (j : Member x (slots r)). node_at m (Some n) r ns.2 x j) (member_cases x (slots t) (slots r) i)
node_at m above (R b t) ns x (inl e) = here_one m above b.node x ns.0 e
node_at m above (R b t) ns x (inr i) = node_at m (Some b.node) t ns.1 x i

pub own_has : (m : MarksView) (x : ℕ) → Here m x → Has (places m) x
own_has m x h = (own_place m.claims.branch h.own, place_own m h.own h.is, h.slot)

pub lacks_not : (m : MarksView) (x : ℕ) → Lacks m x → Has (places m) x → ⊥
lacks_not m x l h = l h.0 h.1 h.2

module _ (m n : MarksView) (us inside : List ℕ) (p : Passed m n us inside) where
  pub kept_on : (x : ℕ) → (Member x inside → ⊥) → IsKept m x → IsKept n x
  kept_on x out k = let d = p.dropped x in let z = times_none x p.gone (λ i. out (p.gone_is x i)) in omega (arith, d, z, k)

  pub kept_back : (x : ℕ) → IsKept n x → IsKept m x
  kept_back x k = let d = p.dropped x in omega (arith, d, k)

  pub has_on : (x : ℕ) → Has (places m) x → Has (places n) x
  has_on x h =
      ⊎_elim
      (λ (q : (o : OwnView) × Member o m.own × (own_place m.claims.branch o ≡ h.0)).
      (own_place n.claims.branch q.0, place_own n q.0 (p.keeps q.0 q.1), ap (λ (e : Place). e.node.slot) q.2 ∙ h.2))
      (λ (q : (s : SharedView) × Member s m.shared × (shared_place s ≡ h.0)).
      (shared_place q.0, place_shared n q.0 (subst (Member q.0) (sym p.shared) q.1), ap (λ (e : Place). e.node.slot) q.2 ∙ h.2))
      (place_cases m h.0 h.1)

  pub lacks_back : (x : ℕ) → Lacks n x → Lacks m x
  lacks_back x l e i is = lacks_not n x l (has_on x (e, i, is))

  sits_on : (above : Option Handle) (h : Handle) → (Member h.slot inside → ⊥) → Sits m above h → Sits n above h
  sits_on above h out s = (p.keeps (record { node = h; parent = slot_of above }) s.0, kept_on h.slot out s.1)

  pub nodes_on : (above : Option Handle) (k : Kept) → Apart inside (slots k) → Nodes m above k → Nodes n above k
  nodes_on above E out ns = tt
  nodes_on above (A h r) out ns = nodes_on above r out ns
  nodes_on above (W h x r) out ns = nodes_on above r out ns
  nodes_on above (S c t r) out ns = (
    sits_on above c (λ i. out c.slot i (inl refl)) ns.0,
    nodes_on (Some c) t (λ x i j. out x i (inr (member_left x (slots t) (slots r) j))) ns.1,
    nodes_on (Some c) r (λ x i j. out x i (inr (member_right x (slots t) (slots r) j))) ns.2,
  )
  nodes_on above (P c t r) out ns = (
    sits_on above c (λ i. out c.slot i (inl refl)) ns.0,
    nodes_on (Some c) t (λ x i j. out x i (inr (member_left x (slots t) (slots r) j))) ns.1,
    nodes_on (Some c) r (λ x i j. out x i (inr (member_right x (slots t) (slots r) j))) ns.2,
  )
  nodes_on above (R b t) out ns = (sits_on above b.node (λ i. out b.node.slot i (inl refl)) ns.0, nodes_on (Some b.node) t (λ x i j. out x i (inr j)) ns.1)

  -- what was made stands below none of the nodes that were there outside
  pub children_on : (x : ℕ) (ys : List ℕ) → (Member x inside → ⊥) → Has (places m) x → Children m x ys → Children n x ys
  children_on x ys out h c o i e k =
      ⊎_elim
      (λ (j : Member o m.own). c o j e (kept_back o.node.slot k))
      (λ (j : Member o p.made). absurd (⊎_elim (λ (a : Member x inside). out a) (λ (a : IsMade p.made x). lacks_not m x (subst (Lacks m) a.2 (p.new a.0 a.1)) h) (p.below o x j e)))
      (p.own o i)

  pub families_on : (above : Option Handle) (k : Kept) → Apart inside (slots k) → Nodes m above k → Families m k → Families n k
  families_on above E out ns f = tt
  families_on above (A h r) out ns f = families_on above r out ns f
  families_on above (W h x r) out ns f = families_on above r out ns f
  families_on above (S c t r) out ns f = (
    children_on c.slot (tops t ++ tops r) (λ i. out c.slot i (inl refl)) (own_has m c.slot (here_one m above c c.slot ns.0 refl)) f.0,
    families_on (Some c) t (λ x i j. out x i (inr (member_left x (slots t) (slots r) j))) ns.1 f.1,
    families_on (Some c) r (λ x i j. out x i (inr (member_right x (slots t) (slots r) j))) ns.2 f.2,
  )
  families_on above (P c t r) out ns f = (
    children_on c.slot (tops t ++ tops r) (λ i. out c.slot i (inl refl)) (own_has m c.slot (here_one m above c c.slot ns.0 refl)) f.0,
    families_on (Some c) t (λ x i j. out x i (inr (member_left x (slots t) (slots r) j))) ns.1 f.1,
    families_on (Some c) r (λ x i j. out x i (inr (member_right x (slots t) (slots r) j))) ns.2 f.2,
  )
  families_on above (R b t) out ns f = (
    children_on b.node.slot (tops t) (λ i. out b.node.slot i (inl refl)) (own_has m b.node.slot (here_one m above b.node b.node.slot ns.0 refl)) f.0,
    families_on (Some b.node) t (λ x i j. out x i (inr j)) ns.1 f.1,
  )

  pub none_on : (xs : List ℕ) → Apart inside xs → Apart us xs → NoneMarked m xs → NoneMarked n xs
  none_on xs out free z x i =
      let a = p.marked x (λ j. out x j i) in
      let b = times_none x p.raised (λ j. ⊎_elim (λ (c : Member x us). free x c i) (λ (c : Member x inside). out x c i) (p.raised_is x j)) in
      let c = z x i in
      omega (arith, a, b, c)

  pub had_on : ((x : ℕ) → Member x us → Has (places m) x) → ((x : ℕ) → Member x inside → Has (places m) x) → ((x : ℕ) → 0 < times x m.marked → Has (places m) x) → (x : ℕ) → 0 < times x n.marked → Has (places n) x
  had_on known old had x more =
      has_on x (⊎_elim
      (λ (i : Member x inside). old x i)
      (λ (out : Member x inside → ⊥). elim (zero_or (times x m.marked)) [
        | inr a ↦ had x (omega (arith, a))
        | inl a ↦
            ⊎_elim
            (λ (c : Member x us). known x c)
            (λ (c : Member x inside). old x c)
            (p.raised_is x (times_found x p.raised (let b = p.marked x out in omega (arith, a, b, more))))
      ])
      (in_or_out x inside))

-- only counts and marks of nodes inside changed
passed_counts : (m : MarksView) (us inside marked busy : List ℕ)
    → ((x : ℕ) → (Member x inside → ⊥) → times x marked ≡ times x m.marked)
    → ((x : ℕ) → (Member x inside → ⊥) → IsBusy m x → IsBusy (record m { marked = marked; busy = busy }) x)
    → Passed m (record m { marked = marked; busy = busy }) us inside
passed_counts m us inside marked busy same on =
    record {
      made = [];
      gone = [];
      raised = [];
      branch = refl;
      shared = refl;
      keeps = λ o j. j;
      own = λ o j. inl j;
      has = λ o j. absurd j;
      new = λ o j. absurd j;
      below = λ o p j. absurd j;
      dropped = λ z. omega arith;
      gone_is = λ z j. absurd j;
      marked = λ z out. let t = same z out in omega (arith, t);
      raised_is = λ z j. absurd j;
      busy = on;
    }

-- nothing was done
pub passed_none : (m : MarksView) (us inside : List ℕ) → Passed m m us inside
passed_none m us inside = passed_counts m us inside m.marked m.busy (λ x out. refl) (λ x out b. b)

-- a node was cleared
pub passed_cleared : (m : MarksView) (us inside : List ℕ) (x : ℕ) → Member x inside → Passed m (cleared x m) us inside
passed_cleared m us inside x i =
    let else_one : (z : ℕ) → (Member z inside → ⊥) → z ≢ x = λ z out e. out (subst (λ y. Member y inside) (sym e) i) in
    passed_counts m us inside (cleared x m).marked (cleared x m).busy
    (λ z out. times_else z x m.marked (else_one z out))
    (λ z out b.
    elim b [
      | inl a ↦ inl (let t = times_else z x m.marked (else_one z out) in omega (arith, t, a))
      | inr a ↦ inr (let t = times_else z x m.busy (else_one z out) in omega (arith, t, a))
    ])

-- nodes inside were dropped
pub passed_dropping : (m : MarksView) (us inside xs : List ℕ) → ((x : ℕ) → Member x xs → Member x inside) → Passed m (dropping xs m) us inside
passed_dropping m us inside xs into =
    record {
      made = [];
      gone = xs;
      raised = [];
      branch = refl;
      shared = refl;
      keeps = λ o i. i;
      own = λ o i. inl i;
      has = λ o i. absurd i;
      new = λ o i. absurd i;
      below = λ o p i. absurd i;
      dropped = λ x. times_both x m.dropped xs;
      gone_is = into;
      marked = λ x out. omega arith;
      raised_is = λ x i. absurd i;
      busy = λ x out b. b;
    }

pub up_in : (k : Kept) (x : ℕ) → Member x (nodes_up k) → Member x (slots k)
up_in E x i = i
up_in (A m r) x i = up_in r x i
up_in (W m v r) x i = up_in r x i
up_in (S n t r) x i =
    ⊎_elim
    (λ (a : Member x (nodes_up t ++ nodes_up r)). inr (⊎_elim
    (λ (b : Member x (nodes_up t)). member_left x (slots t) (slots r) (up_in t x b))
    (λ (b : Member x (nodes_up r)). member_right x (slots t) (slots r) (up_in r x b))
    (member_cases x (nodes_up t) (nodes_up r) a)))
    (λ (a : Member x (n.slot ∷ [])). elim a [ inl e ↦ inl e | inr j ↦ absurd j ])
    (member_cases x (nodes_up t ++ nodes_up r) (n.slot ∷ []) i)
up_in (P n t r) x i =
    ⊎_elim
    (λ (a : Member x (nodes_up t ++ nodes_up r)). inr (⊎_elim
    (λ (b : Member x (nodes_up t)). member_left x (slots t) (slots r) (up_in t x b))
    (λ (b : Member x (nodes_up r)). member_right x (slots t) (slots r) (up_in r x b))
    (member_cases x (nodes_up t) (nodes_up r) a)))
    (λ (a : Member x (n.slot ∷ [])). elim a [ inl e ↦ inl e | inr j ↦ absurd j ])
    (member_cases x (nodes_up t ++ nodes_up r) (n.slot ∷ []) i)
up_in (R b t) x i =
    ⊎_elim
    (λ (a : Member x (nodes_up t)). inr (up_in t x a))
    (λ (a : Member x (b.node.slot ∷ [])). elim a [ inl e ↦ inl e | inr j ↦ absurd j ])
    (member_cases x (nodes_up t) (b.node.slot ∷ []) i)

pub passed_off : (m n : MarksView) (k : Kept) → n ≡ dropping (nodes_up k) m → (us : List ℕ) → Passed m n us (slots k)
passed_off m n k e us = subst (λ z. Passed m z us (slots k)) (sym e) (passed_dropping m us (slots k) (nodes_up k) (up_in k))

-- one part, and then another
pub passed_then : (m q n : MarksView) (us one two inside first second : List ℕ) → Passed m q one first → Passed q n two second → ((x : ℕ) → Member x first → Member x inside) → ((x : ℕ) → Member x second → Member x inside) → ((x : ℕ) → Member x one → Member x us ⊎ Member x inside) → ((x : ℕ) → Member x two → Member x us ⊎ Member x inside) → Passed m n us inside
passed_then m q n us one two inside first second a b into more left right =
    record {
      made = a.made ++ b.made;
      gone = a.gone ++ b.gone;
      raised = a.raised ++ b.raised;
      branch = b.branch ∙ a.branch;
      shared = b.shared ∙ a.shared;
      keeps = λ o i. b.keeps o (a.keeps o i);
      own = λ o i.
          ⊎_elim
          (λ (j : Member o q.own). ⊎_elim (λ (c : Member o m.own). inl c) (λ (c : Member o a.made). inr (member_left o a.made b.made c)) (a.own o j))
          (λ (j : Member o b.made). inr (member_right o a.made b.made j))
          (b.own o i);
      has = λ o i. ⊎_elim (λ (j : Member o a.made). b.keeps o (a.has o j)) (λ (j : Member o b.made). b.has o j) (member_cases o a.made b.made i);
      new = λ o i.
          ⊎_elim
          (λ (j : Member o a.made). a.new o j)
          (λ (j : Member o b.made). lacks_back m q one first a o.node.slot (b.new o j))
          (member_cases o a.made b.made i);
      below = λ o p i e.
          ⊎_elim
          (λ (j : Member o a.made). ⊎_elim (λ (c : Member p first). inl (into p c)) (λ (c : IsMade a.made p). inr (c.0, member_left c.0 a.made b.made c.1, c.2)) (a.below o p j e))
          (λ (j : Member o b.made). ⊎_elim (λ (c : Member p second). inl (more p c)) (λ (c : IsMade b.made p). inr (c.0, member_right c.0 a.made b.made c.1, c.2)) (b.below o p j e))
          (member_cases o a.made b.made i);
      dropped = λ x. let c = a.dropped x in let d = b.dropped x in let e = times_both x a.gone b.gone in omega (arith, c, d, e);
      gone_is = λ x i. ⊎_elim (λ (j : Member x a.gone). into x (a.gone_is x j)) (λ (j : Member x b.gone). more x (b.gone_is x j)) (member_cases x a.gone b.gone i);
      marked = λ x out.
          let c = a.marked x (λ i. out (into x i)) in
          let d = b.marked x (λ i. out (more x i)) in
          let e = times_both x a.raised b.raised in
          omega (arith, c, d, e);
      raised_is = λ x i.
          ⊎_elim
          (λ (j : Member x a.raised). ⊎_elim (λ (c : Member x one). left x c) (λ (c : Member x first). inr (into x c)) (a.raised_is x j))
          (λ (j : Member x b.raised). ⊎_elim (λ (c : Member x two). right x c) (λ (c : Member x second). inr (more x c)) (b.raised_is x j))
          (member_cases x a.raised b.raised i);
      busy = λ x out c. b.busy x (λ i. out (more x i)) (a.busy x (λ i. out (into x i)) c);
    }
