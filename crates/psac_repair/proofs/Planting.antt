-- A walk through a record, node by node: what each part begins with, and what the parts leave the whole leaves.
use Rattle.std.proofs.Common.{◌≡◌, ◌⊎◌, ℕ, List, [], ◌∷◌, ◌++◌, Option, Some, refl, sym, subst, inl, inr, ⊎_elim}
use Rattle.psac_ops.specs.declared.plain.Handle.{Handle}
use Rattle.psac_ops.specs.declared.plain.Plain.{Plain}
use Rattle.psac_slots.specs.Handles.{Member}
use Rattle.psac_slots.specs.Claiming.{times}
use Rattle.psac_slots.proofs.Pairs.{member_left, member_right, member_cases}
use Rattle.psac_marks.specs.declared.view.MarksView.{MarksView}
use Rattle.psac_marks.specs.Marked.{places, Has}
use Rattle.psac_marks.specs.Steps.{Lacks, cleared}
use Rattle.psac_marks.specs.Passes.{IsKept, Owns, Bare, slot_of}
use Rattle.psac_marks.proofs.Parts.{times_gone}
use Rattle.psac_record.specs.declared.parts.Reading.{Reading}
use Rattle.psac_record.specs.Kept.{Kept, E, A, W, S, P, R}
use Rattle.psac_repair.specs.Marks.{Unmarked}
use Rattle.psac_repair.specs.Planted.{slots, tops, Apart, Children, NoneMarked, Planted, Passed, Replanted, Halves}
use Rattle.psac_repair.proofs.Passing.{top_in, Here, node_at, own_has, lacks_not, kept_on, has_on, lacks_back, nodes_on, children_on, families_on, none_on, had_on, passed_none, passed_cleared, passed_then}

-- all nodes of a record are kept
pub replanted_kept : (m : MarksView) (us : List ℕ) (above : Option Handle) (k : Kept) → Planted m us above k → NoneMarked m (slots k) → Replanted m m us above k k
replanted_kept m us above k p z =
    record { passed = passed_none m us (slots k); nodes = p.nodes; families = p.families; once = p.once; tops_are = refl; unmarked = z; covers = λ x i. inl i }

pub none_below : (m : MarksView) (above : Option Handle) (k : Kept) → Unmarked m above k → NoneMarked m (slots k)
none_below m above E u x i = absurd i
none_below m above (A h r) u x i = none_below m above r u x i
none_below m above (W h v r) u x i = none_below m above r u x i
none_below m above (S n t r) u x (inl e) = subst (λ z. times z m.marked ≡ 0) e u.0
none_below m above (S n t r) u x (inr i) = ⊎_elim (λ (j : Member x (slots t)). none_below m (Some n) t u.1 x j) (λ (j : Member x (slots r)). none_below m (Some n) r u.2 x j) (member_cases x (slots t) (slots r) i)
none_below m above (P n t r) u x (inl e) = subst (λ z. times z m.marked ≡ 0) e u.0
none_below m above (P n t r) u x (inr i) = ⊎_elim (λ (j : Member x (slots t)). none_below m (Some n) t u.1 x j) (λ (j : Member x (slots r)). none_below m (Some n) r u.2 x j) (member_cases x (slots t) (slots r) i)
none_below m above (R b t) u x (inl e) = subst (λ z. times z m.marked ≡ 0) e u.0
none_below m above (R b t) u x (inr i) = none_below m (Some b.node) t u.1 x i

-- behind what was made or written
pub planted_made : (m : MarksView) (us : List ℕ) (above : Option Handle) (h : Handle) (r : Kept) → Planted m us above (A h r) → Planted m us above r
planted_made m us above h r p = record { nodes = p.nodes; families = p.families; once = p.once; apart = p.apart; known = p.known; had = p.had }

pub replanted_made : (m n : MarksView) (us : List ℕ) (above : Option Handle) (h : Handle) (r u : Kept) → Replanted m n us above r u → Replanted m n us above (A h r) (A h u)
replanted_made m n us above h r u a =
    record { passed = a.passed; nodes = a.nodes; families = a.families; once = a.once; tops_are = a.tops_are; unmarked = a.unmarked; covers = a.covers }

pub planted_wrote : (m : MarksView) (us : List ℕ) (above : Option Handle) (h : Handle) (v : Plain) (r : Kept) → Planted m us above (W h v r) → Planted m us above r
planted_wrote m us above h v r p = record { nodes = p.nodes; families = p.families; once = p.once; apart = p.apart; known = p.known; had = p.had }

pub replanted_wrote : (m n : MarksView) (us : List ℕ) (above : Option Handle) (h : Handle) (v : Plain) (r u : Kept) → Replanted m n us above r u → Replanted m n us above (W h v r) (W h v u)
replanted_wrote m n us above h v r u a =
    record { passed = a.passed; nodes = a.nodes; families = a.families; once = a.once; tops_are = a.tops_are; unmarked = a.unmarked; covers = a.covers }

-- a part and the rest behind it, and the sides of a par one after the other
module _ (m : MarksView) (us : List ℕ) (above : Option Handle) (n : Handle) (t r : Kept) (p : Planted m us above (S n t r)) where
  abbrev pub part_outside : List ℕ
  part_outside = n.slot ∷ us ++ slots r

  abbrev pub rest_outside : List ℕ
  rest_outside = n.slot ∷ us

  abbrev top_here : Here m n.slot
  top_here = node_at m above (S n t r) p.nodes n.slot (inl refl)

  us_not_part : Apart us (slots t)
  us_not_part x i j = p.apart x i (inr (member_left x (slots t) (slots r) j))

  us_not_rest : Apart us (slots r)
  us_not_rest x i j = p.apart x i (inr (member_right x (slots t) (slots r) j))

  node_not_part : Member n.slot (slots t) → ⊥
  node_not_part i = p.once.0 (member_left n.slot (slots t) (slots r) i)

  node_not_rest : Member n.slot (slots r) → ⊥
  node_not_rest i = p.once.0 (member_right n.slot (slots t) (slots r) i)

  pub planted_part : Planted m part_outside (Some n) t
  planted_part =
      record {
        nodes = p.nodes.1;
        families = p.families.1;
        once = p.once.2;
        apart = λ x i j. elim i [
          | inl e ↦ node_not_part (subst (λ z. Member z (slots t)) (sym e) j)
          | inr k ↦ ⊎_elim (λ (a : Member x us). us_not_part x a j) (λ (a : Member x (slots r)). p.once.1 x j a) (member_cases x us (slots r) k)
        ];
        known = λ x i. elim i [
          | inl e ↦ subst (λ z. Has (places m) z × IsKept m z) e (own_has m n.slot top_here, top_here.kept)
          | inr k ↦ ⊎_elim (λ (a : Member x us). p.known x a) (λ (a : Member x (slots r)). let h = node_at m (Some n) r p.nodes.2 x a in (own_has m x h, h.kept)) (member_cases x us (slots r) k)
        ];
        had = p.had;
      }

  module _ (q : MarksView) (u : Kept) (a : Replanted m q part_outside (Some n) t u) where
    node_kept : IsKept q n.slot
    node_kept = kept_on m q part_outside (slots t) a.passed n.slot node_not_part top_here.kept

    node_has : Has (places q) n.slot
    node_has = has_on m q part_outside (slots t) a.passed n.slot (own_has m n.slot top_here)

    pub planted_rest : Planted q rest_outside (Some n) r
    planted_rest =
        record {
          nodes = nodes_on m q part_outside (slots t) a.passed (Some n) r p.once.1 p.nodes.2;
          families = families_on m q part_outside (slots t) a.passed (Some n) r p.once.1 p.nodes.2 p.families.2;
          once = p.once.3;
          apart = λ x i j. elim i [ inl e ↦ node_not_rest (subst (λ z. Member z (slots r)) (sym e) j) | inr k ↦ us_not_rest x k j ];
          known = λ x i. elim i [
            | inl e ↦ subst (λ z. Has (places q) z × IsKept q z) e (node_has, node_kept)
            | inr k ↦ (has_on m q part_outside (slots t) a.passed x (p.known x k).0, kept_on m q part_outside (slots t) a.passed x (λ j. us_not_part x k j) (p.known x k).1)
          ];
          had = had_on m q part_outside (slots t) a.passed (λ x i. (planted_part.known x i).0) (λ x i. own_has m x (node_at m (Some n) t p.nodes.1 x i)) p.had;
        }

    -- what stands now in place of the part, the rest lacks
    part_not_rest : Apart (slots r) (slots u)
    part_not_rest x i j = ⊎_elim (λ (c : Member x (slots t)). p.once.1 x c i) (λ (c : Lacks m x). lacks_not m x c (own_has m x (node_at m (Some n) r p.nodes.2 x i))) (a.covers x j)

    outside_not_part : Apart rest_outside (slots u)
    outside_not_part x i j =
        ⊎_elim
        (λ (c : Member x (slots t)). elim i [ inl e ↦ node_not_part (subst (λ z. Member z (slots t)) (sym e) c) | inr k ↦ us_not_part x k c ])
        (λ (c : Lacks m x). elim i [ inl e ↦ lacks_not m x c (subst (Has (places m)) e (own_has m n.slot top_here)) | inr k ↦ lacks_not m x c (p.known x k).0 ])
        (a.covers x j)

    module _ (x : MarksView) (w : Kept) (b : Replanted q x rest_outside (Some n) r w) where
      -- one part after the other
      pub halves_turn : Halves m x us n t r u w
      halves_turn =
          record {
            passed = passed_then m q x rest_outside part_outside rest_outside (slots t ++ slots r) (slots t) (slots r) a.passed b.passed
                (λ z i. member_left z (slots t) (slots r) i)
                (λ z i. member_right z (slots t) (slots r) i)
                (λ z i. elim i [ inl e ↦ inl (inl e) | inr k ↦ ⊎_elim (λ (c : Member z us). inl (inr c)) (λ (c : Member z (slots r)). inr (member_right z (slots t) (slots r) c)) (member_cases z us (slots r) k) ])
                (λ z i. inl i);
            nodes = (nodes_on q x rest_outside (slots r) b.passed (Some n) u part_not_rest a.nodes, b.nodes);
            families = (families_on q x rest_outside (slots r) b.passed (Some n) u part_not_rest a.nodes a.families, b.families);
            once = (a.once, b.once);
            apart = λ z i j. ⊎_elim (λ (c : Member z (slots r)). part_not_rest z c i) (λ (c : Lacks q z). lacks_not q z c (own_has q z (node_at q (Some n) u a.nodes z i))) (b.covers z j);
            tops_are = (a.tops_are, b.tops_are);
            unmarked = (none_on q x rest_outside (slots r) b.passed (slots u) part_not_rest outside_not_part a.unmarked, b.unmarked);
            first_covers = a.covers;
            second_covers = λ z i. ⊎_elim (λ (d : Member z (slots r)). inl d) (λ (d : Lacks q z). inr (lacks_back m q part_outside (slots t) a.passed z d)) (b.covers z i);
          }

  -- behind both parts the node is cleared
  module _ (x : MarksView) (u w : Kept) (h : Halves m x us n t r u w) where
    abbrev below : List ℕ
    below = slots t ++ slots r

    node_not_below : Member n.slot below → ⊥
    node_not_below = p.once.0

    us_not_below : Apart us below
    us_not_below z i j = p.apart z i (inr j)

    node_own : Member (record { node = n; parent = slot_of above }) x.own
    node_own = h.passed.keeps (record { node = n; parent = slot_of above }) p.nodes.0.0

    pub step_owns : Owns x n
    step_owns = (record { node = n; parent = slot_of above }, node_own, refl)

    step_children : Children x n.slot (tops u ++ tops w)
    step_children =
        subst (λ z. Children x n.slot (z ++ tops w)) (sym h.tops_are.0) (subst (λ z. Children x n.slot (tops t ++ z)) (sym h.tops_are.1)
        (children_on m x rest_outside below h.passed n.slot (tops t ++ tops r) node_not_below (own_has m n.slot top_here) p.families.0))

    pub step_bare : Bare x n.slot
    step_bare o i e k =
        ⊎_elim
        (λ (c : Member o.node.slot (tops u)). h.unmarked.0 o.node.slot (top_in u o.node.slot c))
        (λ (c : Member o.node.slot (tops w)). h.unmarked.1 o.node.slot (top_in w o.node.slot c))
        (member_cases o.node.slot (tops u) (tops w) (step_children o i e k))

    abbrev y : MarksView
    y = cleared n.slot x

    clear : Passed x y us (n.slot ∷ [])
    clear = passed_cleared x us (n.slot ∷ []) n.slot (inl refl)

    node_out : (s : ℕ) → (Member s below → ⊥) → Has (places m) s → (v : Kept) → ((z : ℕ) → Member z (slots v) → Member z below ⊎ Lacks m z) → Member s (slots v) → ⊥
    node_out s out has v covers i = ⊎_elim (λ (c : Member s below). out c) (λ (c : Lacks m s). lacks_not m s c has) (covers s i)

    first_below : (z : ℕ) → Member z (slots u) → Member z below ⊎ Lacks m z
    first_below z i = ⊎_elim (λ (c : Member z (slots t)). inl (member_left z (slots t) (slots r) c)) (λ (c : Lacks m z). inr c) (h.first_covers z i)

    second_below : (z : ℕ) → Member z (slots w) → Member z below ⊎ Lacks m z
    second_below z i = ⊎_elim (λ (c : Member z (slots r)). inl (member_right z (slots t) (slots r) c)) (λ (c : Lacks m z). inr c) (h.second_covers z i)

    node_not : (v : Kept) → ((z : ℕ) → Member z (slots v) → Member z below ⊎ Lacks m z) → Apart (n.slot ∷ []) (slots v)
    node_not v covers z i j = elim i [ inl e ↦ node_out z (λ c. node_not_below (subst (λ g. Member g below) (sym e) c)) (subst (Has (places m)) e (own_has m n.slot top_here)) v covers j | inr k ↦ absurd k ]

    us_not : (v : Kept) → ((z : ℕ) → Member z (slots v) → Member z below ⊎ Lacks m z) → Apart us (slots v)
    us_not v covers z i j = node_out z (λ c. us_not_below z i c) (p.known z i).0 v covers j

    pub replanted_step : Replanted m y us above (S n t r) (S n u w)
    replanted_step =
        let whole = n.slot ∷ below in
        record {
          passed = passed_then m x y us rest_outside us whole below whole h.passed (passed_cleared x us whole n.slot (inl refl)) (λ z i. inr i) (λ z i. i) (λ z i. elim i [ inl e ↦ inr (inl e) | inr k ↦ inl k ]) (λ z i. inl i);
          nodes = (
            (node_own, kept_on m x rest_outside below h.passed n.slot node_not_below top_here.kept),
            nodes_on x y us (n.slot ∷ []) clear (Some n) u (node_not u first_below) h.nodes.0,
            nodes_on x y us (n.slot ∷ []) clear (Some n) w (node_not w second_below) h.nodes.1,
          );
          families = (
            step_children,
            families_on x y us (n.slot ∷ []) clear (Some n) u (node_not u first_below) h.nodes.0 h.families.0,
            families_on x y us (n.slot ∷ []) clear (Some n) w (node_not w second_below) h.nodes.1 h.families.1,
          );
          once = (
            λ i. ⊎_elim (λ (c : Member n.slot (slots u)). node_not u first_below n.slot (inl refl) c) (λ (c : Member n.slot (slots w)). node_not w second_below n.slot (inl refl) c) (member_cases n.slot (slots u) (slots w) i),
            h.apart,
            h.once.0,
            h.once.1,
          );
          tops_are = refl;
          unmarked = λ z i. elim i [
            | inl e ↦ subst (λ g. times g y.marked ≡ 0) e (times_gone n.slot x.marked)
            | inr k ↦
                ⊎_elim
                (λ (c : Member z (slots u)). none_on x y us (n.slot ∷ []) clear (slots u) (node_not u first_below) (us_not u first_below) h.unmarked.0 z c)
                (λ (c : Member z (slots w)). none_on x y us (n.slot ∷ []) clear (slots w) (node_not w second_below) (us_not w second_below) h.unmarked.1 z c)
                (member_cases z (slots u) (slots w) k)
          ];
          covers = λ z i. elim i [
            | inl e ↦ inl (inl e)
            | inr k ↦
                ⊎_elim
                (λ (c : Member z (slots u)). ⊎_elim (λ (d : Member z below). inl (inr d)) (λ (d : Lacks m z). inr d) (first_below z c))
                (λ (c : Member z (slots w)). ⊎_elim (λ (d : Member z below). inl (inr d)) (λ (d : Lacks m z). inr d) (second_below z c))
                (member_cases z (slots u) (slots w) k)
          ];
        }

-- a par has the same nodes as a part before a rest
pub planted_pair : (m : MarksView) (us : List ℕ) (above : Option Handle) (n : Handle) (l r : Kept) → Planted m us above (P n l r) → Planted m us above (S n l r)
planted_pair m us above n l r p = record { nodes = p.nodes; families = p.families; once = p.once; apart = p.apart; known = p.known; had = p.had }

pub replanted_pair : (m q : MarksView) (us : List ℕ) (above : Option Handle) (n : Handle) (l r u w : Kept) → Replanted m q us above (S n l r) (S n u w) → Replanted m q us above (P n l r) (P n u w)
replanted_pair m q us above n l r u w a =
    record { passed = a.passed; nodes = a.nodes; families = a.families; once = a.once; tops_are = a.tops_are; unmarked = a.unmarked; covers = a.covers }

-- a read block that is gone into
module _ (m : MarksView) (us : List ℕ) (above : Option Handle) (b : Reading) (t : Kept) (p : Planted m us above (R b t)) where
  abbrev pub inner_outside : List ℕ
  inner_outside = b.node.slot ∷ us

  abbrev block_here : Here m b.node.slot
  block_here = node_at m above (R b t) p.nodes b.node.slot (inl refl)

  pub planted_inner : Planted m inner_outside (Some b.node) t
  planted_inner =
      record {
        nodes = p.nodes.1;
        families = p.families.1;
        once = p.once.1;
        apart = λ x i j. elim i [ inl e ↦ p.once.0 (subst (λ z. Member z (slots t)) (sym e) j) | inr k ↦ p.apart x k (inr j) ];
        known = λ x i. elim i [ inl e ↦ subst (λ z. Has (places m) z × IsKept m z) e (own_has m b.node.slot block_here, block_here.kept) | inr k ↦ p.known x k ];
        had = p.had;
      }

  module _ (x : MarksView) (u : Kept) (a : Replanted m x inner_outside (Some b.node) t u) where
    block_children : Children x b.node.slot (tops u)
    block_children = subst (Children x b.node.slot) (sym a.tops_are) (children_on m x inner_outside (slots t) a.passed b.node.slot (tops t) p.once.0 (own_has m b.node.slot block_here) p.families.0)

    block_own : Member (record { node = b.node; parent = slot_of above }) x.own
    block_own = a.passed.keeps (record { node = b.node; parent = slot_of above }) p.nodes.0.0

    pub block_owns : Owns x b.node
    block_owns = (record { node = b.node; parent = slot_of above }, block_own, refl)

    pub block_bare : Bare x b.node.slot
    block_bare o i e k = a.unmarked o.node.slot (top_in u o.node.slot (block_children o i e k))

    abbrev z : MarksView
    z = cleared b.node.slot x

    block_clear : Passed x z us (b.node.slot ∷ [])
    block_clear = passed_cleared x us (b.node.slot ∷ []) b.node.slot (inl refl)

    block_not_new : Apart (b.node.slot ∷ []) (slots u)
    block_not_new g i j =
        elim i [
          | inl e ↦ ⊎_elim (λ (c : Member g (slots t)). p.once.0 (subst (λ y. Member y (slots t)) (sym e) c)) (λ (c : Lacks m g). lacks_not m g c (subst (Has (places m)) e (own_has m b.node.slot block_here))) (a.covers g j)
          | inr k ↦ absurd k
        ]

    us_not_new : Apart us (slots u)
    us_not_new g i j = ⊎_elim (λ (c : Member g (slots t)). p.apart g i (inr c)) (λ (c : Lacks m g). lacks_not m g c (p.known g i).0) (a.covers g j)

    pub replanted_block : Replanted m z us above (R b t) (R b u)
    replanted_block =
        let whole = b.node.slot ∷ slots t in
        let inner : Passed m x us whole = passed_then m x x us inner_outside us whole (slots t) whole a.passed (passed_none x us whole) (λ g i. inr i) (λ g i. i) (λ g i. elim i [ inl e ↦ inr (inl e) | inr k ↦ inl k ]) (λ g i. inl i) in
        record {
          passed = passed_then m x z us us us whole whole whole inner (passed_cleared x us whole b.node.slot (inl refl)) (λ g i. i) (λ g i. i) (λ g i. inl i) (λ g i. inl i);
          nodes = (
            (block_own, kept_on m x inner_outside (slots t) a.passed b.node.slot p.once.0 block_here.kept),
            nodes_on x z us (b.node.slot ∷ []) block_clear (Some b.node) u block_not_new a.nodes,
          );
          families = (block_children, families_on x z us (b.node.slot ∷ []) block_clear (Some b.node) u block_not_new a.nodes a.families);
          once = (λ i. block_not_new b.node.slot (inl refl) i, a.once);
          tops_are = refl;
          unmarked = λ g i. elim i [
            | inl e ↦ subst (λ y. times y z.marked ≡ 0) e (times_gone b.node.slot x.marked)
            | inr k ↦ none_on x z us (b.node.slot ∷ []) block_clear (slots u) block_not_new us_not_new a.unmarked g k
          ];
          covers = λ g i. elim i [
            | inl e ↦ inl (inl e)
            | inr k ↦ ⊎_elim (λ (c : Member g (slots t)). inl (inr c)) (λ (c : Lacks m g). inr c) (a.covers g k)
          ];
        }
