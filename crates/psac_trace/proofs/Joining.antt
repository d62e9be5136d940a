-- What both sides of a par added to the nodes and to the links, together.
use Rattle.std.proofs.Common.{◌≡◌, ◌≢◌, ℕ, ◌+◌, ◌≤◌, ◌<◌, ◌&&◌, Bool, true, false, not, List, [], ◌∷◌, ◌++◌, map, length, refl, ap, sym, ◌∙◌, subst, inl, inr, ⊎_elim, arith}
use Rattle.std.specs.Prelude.{filter, sum_by, ltb}
use Rattle.std.proofs.lemmas.List.Sums.{sum_by-append}
use Rattle.std.proofs.lemmas.List.Filters.{sum_by-filter_both}
use Rattle.psac_slots.specs.Branches.{stem}
use Rattle.psac_slots.specs.Handles.{Member}
use Rattle.psac_slots.specs.Claiming.{times}
use Rattle.psac_slots.specs.Divided.{stays, goes, lends, told, above, comes_back}
use Rattle.psac_slots.proofs.Pairs.{member_left, member_right, member_cases, member_map, map_member, filter_member}
use Rattle.psac_slots.proofs.Turns.{stem_push}
use Rattle.psac_readers.specs.declared.view.LinkView.{LinkView}
use Rattle.psac_readers.specs.declared.view.WalkView.{WalkView}
use Rattle.psac_readers.specs.declared.view.SharedView.{SharedView as SetView}
use Rattle.psac_readers.specs.declared.view.ReadersView.{ReadersView}
use Rattle.psac_readers.specs.Chained as readers_rule
use Rattle.psac_readers.specs.Steps as readers
use Rattle.psac_marks.specs.declared.view.OwnView.{OwnView}
use Rattle.psac_marks.specs.declared.view.SharedView.{SharedView as NodeView}
use Rattle.psac_marks.specs.declared.view.MarksView.{MarksView}
use Rattle.psac_marks.specs.Marked as marks_rule
use Rattle.psac_marks.specs.Marked.{Place}
use Rattle.psac_marks.specs.Steps as marks
use Rattle.psac_marks.specs.Steps.{Lacks}
use Rattle.psac_record.specs.Kept.{Stands}
use Rattle.psac_laws.proofs.Places.{test_or}
use Rattle.psac_marks.specs.Passes.{IsBusy, United as UnitedNodes}
use Rattle.psac_trace.specs.Fit.{Rooted, both_have}
use Rattle.psac_trace.specs.Grown.{MoreNodes, MoreMarks, MoreLinks, as_link}
use Rattle.psac_trace.proofs.Claims.{times_append}
use Rattle.psac_trace.proofs.Growing.{own_has, nodes_differ}
use Rattle.psac_trace.proofs.Sums.{joined_sum, above_is, back_is, keeps_all}

and_false : (b : Bool) → (b && false) ≡ false
and_false true = refl
and_false false = refl

pub none_of : {A : Type 0} (f : A → Bool) (xs : List A) → ((x : A) → f x ≡ false) → filter f xs ≡ []
none_of f [] h = refl
none_of f (x ∷ xs) h = rw (h x) (none_of f xs h)

-- nodes, where both sides have all that isn't dropped
module _ (v l r j : MarksView) (a b : List OwnView) (rooted : Rooted v) (ml : MoreNodes (marks.left_of (both_have v) (λ x. false) v) l a) (mr : MoreNodes (marks.right_of (both_have v) (λ x. false) v) r b) (is : j ≡ marks.joined l r) (un : UnitedNodes l r j) where
  abbrev S : ℕ → Bool
  S = both_have v

  abbrev N : ℕ → Bool
  N = λ x. false

  stem_is : stem l.claims.branch ≡ v.claims.branch
  stem_is = ap stem ml.branch ∙ stem_push v.claims.branch false

  own_is : j.own ≡ (l.own ++ r.own) ++ map marks_rule.ways.back (filter (comes_back marks_rule.ways v.claims.branch) (told marks_rule.ways S N (marks_rule.rights_of v)))
  own_is =
      ap (λ (z : MarksView). z.own) is
      ∙ ap (λ c. (l.own ++ r.own) ++ map marks_rule.ways.back (filter (comes_back marks_rule.ways c) l.shared)) stem_is
      ∙ ap (λ k. (l.own ++ r.own) ++ map marks_rule.ways.back (filter (comes_back marks_rule.ways v.claims.branch) k)) ml.shared

  not_over : (x : ℕ) → marks.goes_over S N v x ≡ false
  not_over x = ap (λ t. ltb 0 (times x (map marks_rule.ways.slot v.own)) && t) (and_false (not (S x))) ∙ and_false (ltb 0 (times x (map marks_rule.ways.slot v.own)))

  abbrev lent : OwnView → NodeView
  lent = marks_rule.ways.lend v.claims.branch

  -- what the pass has a side has: the kept nodes both do, and the others the left one
  shared_has : (s : NodeView) → Member s v.shared → Member (marks_rule.shared_place s) (map marks_rule.shared_place (marks.now_shared S N v))
  shared_has s i = map_member marks_rule.shared_place s (marks.now_shared S N v) (member_left s v.shared (map lent (filter (lends marks_rule.ways S N) v.own)) i)

  lent_has : (o : OwnView) → Member o v.own → S o.node.slot ≡ true → Member (marks_rule.shared_place (lent o)) (map marks_rule.shared_place (marks.now_shared S N v))
  lent_has o i s =
      map_member marks_rule.shared_place (lent o) (marks.now_shared S N v)
      (member_right (lent o) v.shared (map lent (filter (lends marks_rule.ways S N) v.own)) (map_member lent o (filter (lends marks_rule.ways S N) v.own) (filter_member (lends marks_rule.ways S N) o v.own i s)))

  kept_has : (o : OwnView) → Member o v.own → S o.node.slot ≡ false → Member o (marks.left_of S N v).own
  kept_has o i s = filter_member (stays marks_rule.ways S N) o v.own i (rw s refl)

  lacked_by : (x : ℕ) → ((s : NodeView) → Member (marks_rule.shared_place s) (map marks_rule.shared_place (marks.now_shared S N v)) → s.node.slot ≢ x) → ((o : OwnView) → Member o (marks.left_of S N v).own → o.node.slot ≢ x) → Lacks v x
  lacked_by x both left e i =
      ⊎_elim
      (λ (j : Member e (map (marks_rule.own_place v.claims.branch) v.own)).
      let q = member_map (marks_rule.own_place v.claims.branch) e v.own j in
      λ z.
      (let here : q.0.node.slot ≡ x = ap (λ (p : Place). p.node.slot) q.2 ∙ z in
      elim (test_or (S q.0.node.slot)) [
        | inl s ↦ both (lent q.0) (lent_has q.0 q.1 s) here
        | inr s ↦ left q.0 (kept_has q.0 q.1 s) here
      ]))
      (λ (j : Member e (map marks_rule.shared_place v.shared)).
      let q = member_map marks_rule.shared_place e v.shared j in
      λ z. both q.0 (shared_has q.0 q.1) (ap (λ (p : Place). p.node.slot) q.2 ∙ z))
      (member_cases e (map (marks_rule.own_place v.claims.branch) v.own) (map marks_rule.shared_place v.shared) i)

  left_lacked : (x : ℕ) → Lacks (marks.left_of S N v) x → Lacks v x
  left_lacked x k =
      lacked_by x
      (λ s i. k (marks_rule.shared_place s) (member_right (marks_rule.shared_place s) (map (marks_rule.own_place (marks.left_of S N v).claims.branch) (marks.left_of S N v).own) (map marks_rule.shared_place (marks.now_shared S N v)) i))
      (λ o i. k (marks_rule.own_place (marks.left_of S N v).claims.branch o) (own_has (marks.left_of S N v) o i))

  right_lacked : (o : OwnView) → Member o r.own → Lacks (marks.right_of S N v) o.node.slot → Lacks v o.node.slot
  right_lacked o own k =
      lacked_by o.node.slot
      (λ s i. k (marks_rule.shared_place s) (member_right (marks_rule.shared_place s) (map (marks_rule.own_place (marks.right_of S N v).claims.branch) (marks.right_of S N v).own) (map marks_rule.shared_place (marks.now_shared S N v)) i))
      (λ m i e. un.left_alone m (ml.has m i) (marks_rule.own_place r.claims.branch o) (own_has r o own) (sym e))

  pub nodes_joined : MoreNodes v j (a ++ b)
  nodes_joined =
      record {
        branch = ap (λ (z : MarksView). z.claims.branch) is ∙ stem_is;
        own = λ g.
            let c = joined_sum marks_rule.ways S N (marks_rule.rights_of v) rooted.labels (λ w. refl) g l.own r.own (sum_by g a) (sum_by g b) (ml.own g) (mr.own g) in
            let d = ap (sum_by g) own_is in
            let e = sum_by-append g a b in
            omega (arith, c, d, e);
        held = λ g.
            let f : OwnView → ℕ = λ o. g o.node in
            let c = ap (λ (z : MarksView). sum_by g z.claims.held) is in
            let d = sum_by-append g l.claims.held r.claims.held in
            let p = ml.held g in
            let q = mr.held g in
            let z : sum_by g [] ≡ 0 = refl in
            let e = sum_by-append f a b in
            omega (arith, c, d, p, q, z, e);
        shared =
            ap (λ (z : MarksView). z.shared) is
            ∙ ap (λ c. filter (above marks_rule.ways c) l.shared) stem_is
            ∙ ap (filter (above marks_rule.ways v.claims.branch)) ml.shared
            ∙ above_is marks_rule.ways S N (marks_rule.rights_of v) rooted.labels;
        dropped = λ x.
            let c = ap (λ (z : MarksView). times x z.dropped) is in
            let d = times_append x l.dropped r.dropped in
            let p = ml.dropped x ∙ ap (times x) (keeps_all (λ y. not (marks.goes_over S N v y)) v.dropped (λ y i. ap not (not_over y))) in
            let q = mr.dropped x ∙ ap (times x) (none_of (marks.goes_over S N v) v.dropped not_over) in
            let z : times x [] ≡ 0 = refl in
            omega (arith, c, d, p, q, z);
        has = λ o i.
            let back = map marks_rule.ways.back (filter (comes_back marks_rule.ways v.claims.branch) (told marks_rule.ways S N (marks_rule.rights_of v))) in
            subst (Member o) (sym own_is)
            (elim (test_or (S o.node.slot)) [
              | inl t ↦
                  (let lent : NodeView = marks_rule.ways.lend v.claims.branch o in
                  let m = map_member (marks_rule.ways.lend v.claims.branch) o (filter (lends marks_rule.ways S N) v.own) (filter_member (lends marks_rule.ways S N) o v.own i t) in
                  let n = subst (Member lent) (sym (back_is marks_rule.ways S N (marks_rule.rights_of v) rooted.labels (λ w. refl))) m in
                  member_right o (l.own ++ r.own) back (map_member marks_rule.ways.back lent (filter (comes_back marks_rule.ways v.claims.branch) (told marks_rule.ways S N (marks_rule.rights_of v))) n))
              | inr t ↦
                  (let k : (not (S o.node.slot) && not false) ≡ true = rw t refl in
                  member_left o (l.own ++ r.own) back (member_left o l.own r.own (ml.has o (filter_member (stays marks_rule.ways S N) o v.own i k))))
            ]);
        differ = nodes_differ a b ml.differ mr.differ (λ x y i k e. un.left_alone x (ml.gained x i) (marks_rule.own_place r.claims.branch y) (own_has r y (mr.gained y k)) e);
        lacked = λ o i. ⊎_elim (λ (k : Member o a). left_lacked o.node.slot (ml.lacked o k)) (λ (k : Member o b). right_lacked o (mr.gained o k) (mr.lacked o k)) (member_cases o a b i);
        gained = λ o i.
            let back = map marks_rule.ways.back (filter (comes_back marks_rule.ways v.claims.branch) (told marks_rule.ways S N (marks_rule.rights_of v))) in
            subst (Member o) (sym own_is)
            (⊎_elim
            (λ (k : Member o a). member_left o (l.own ++ r.own) back (member_left o l.own r.own (ml.gained o k)))
            (λ (k : Member o b). member_left o (l.own ++ r.own) back (member_right o l.own r.own (mr.gained o k)))
            (member_cases o a b i));
      }

-- links
pub mods_filter : (f : ℕ → Bool) (ws : List WalkView) → readers_rule.mods_of (filter (λ (e : WalkView). f e.of) ws) ≡ filter f (readers_rule.mods_of ws)
mods_filter f [] = refl
mods_filter f (e ∷ ws) =
    elim (test_or (f e.of)) [
      | inl t ↦ rw t (ap (λ z. e.of ∷ z) (mods_filter f ws))
      | inr t ↦ rw t (mods_filter f ws)
    ]

pub mods_append : (xs ys : List WalkView) → readers_rule.mods_of (xs ++ ys) ≡ readers_rule.mods_of xs ++ readers_rule.mods_of ys
mods_append [] ys = refl
mods_append (x ∷ xs) ys = ap (λ z. x.of ∷ z) (mods_append xs ys)

pub mods_unknown : (es : List SetView) → readers_rule.mods_of (map readers.unknown es) ≡ map readers_rule.ways.back es
mods_unknown [] = refl
mods_unknown (e ∷ es) = ap (λ z. e.of ∷ z) (mods_unknown es)

module _ (shared to_right link_right : ℕ → Bool) (v l r j : ReadersView) (a b : List Stands) (labels : (e : SetView) → Member e v.shared → length e.label < length v.claims.branch) (ml : MoreLinks (readers.left_of shared to_right link_right v) l a) (mr : MoreLinks (readers.right_of shared to_right link_right v) r b) (is : j ≡ readers.joined l r) (one : (l : ℕ) → sum_by (readers_rule.named l) j.links ≤ 1) where
  set_stem : stem l.claims.branch ≡ v.claims.branch
  set_stem = ap stem ml.branch ∙ stem_push v.claims.branch false

  walk_is : readers_rule.mods_of j.walk ≡ (readers_rule.mods_of l.walk ++ readers_rule.mods_of r.walk) ++ map readers_rule.ways.back (filter (comes_back readers_rule.ways v.claims.branch) (told readers_rule.ways shared to_right (readers_rule.rights_of v)))
  walk_is =
      ap (λ (z : ReadersView). readers_rule.mods_of z.walk) is
      ∙ mods_append (l.walk ++ r.walk) (map readers.unknown (filter (comes_back readers_rule.ways (stem l.claims.branch)) l.shared))
      ∙ ap (λ z. z ++ readers_rule.mods_of (map readers.unknown (filter (comes_back readers_rule.ways (stem l.claims.branch)) l.shared))) (mods_append l.walk r.walk)
      ∙ ap (λ z. (readers_rule.mods_of l.walk ++ readers_rule.mods_of r.walk) ++ z) (mods_unknown (filter (comes_back readers_rule.ways (stem l.claims.branch)) l.shared))
      ∙ ap (λ c. (readers_rule.mods_of l.walk ++ readers_rule.mods_of r.walk) ++ map readers_rule.ways.back (filter (comes_back readers_rule.ways c) l.shared)) set_stem
      ∙ ap (λ k. (readers_rule.mods_of l.walk ++ readers_rule.mods_of r.walk) ++ map readers_rule.ways.back (filter (comes_back readers_rule.ways v.claims.branch) k)) ml.shared

  pub links_sum : (g : LinkView → ℕ) → sum_by g j.links ≡ sum_by g v.links + sum_by (λ (s : Stands). g (as_link s)) (a ++ b)
  links_sum g =
      let f : Stands → ℕ = λ s. g (as_link s) in
      let c = ap (λ (z : ReadersView). sum_by g z.links) is in
      let d = sum_by-append g l.links r.links in
      let p = ml.links g in
      let q = mr.links g in
      let e = sum_by-append f a b in
      let h = sum_by-filter_both (readers.right_link shared to_right link_right) (λ k. not (readers.right_link shared to_right link_right k)) (λ k. refl) g v.links in
      omega (arith, c, d, p, q, e, h)

  pub walk_sum : (g : ℕ → ℕ) → sum_by g (readers_rule.mods_of j.walk) ≡ sum_by g (readers_rule.mods_of v.walk)
  walk_sum g =
      let p = ml.walk g ∙ ap (sum_by g) (mods_filter (stays readers_rule.ways shared to_right) v.walk) in
      let q = mr.walk g ∙ ap (sum_by g) (mods_filter (goes readers_rule.ways shared to_right) v.walk) in
      let p' : sum_by g (readers_rule.mods_of l.walk) ≡ sum_by g (filter (stays readers_rule.ways shared to_right) (readers_rule.mods_of v.walk)) + 0 = omega (arith, p) in
      let q' : sum_by g (readers_rule.mods_of r.walk) ≡ sum_by g (filter (goes readers_rule.ways shared to_right) (readers_rule.mods_of v.walk)) + 0 = omega (arith, q) in
      let c = joined_sum readers_rule.ways shared to_right (readers_rule.rights_of v) labels (λ w. refl) g (readers_rule.mods_of l.walk) (readers_rule.mods_of r.walk) 0 0 p' q' in
      let d = ap (sum_by g) walk_is in
      omega (arith, c, d)

  pub sets_shared : j.shared ≡ v.shared
  sets_shared =
      ap (λ (z : ReadersView). z.shared) is
      ∙ ap (λ c. filter (above readers_rule.ways c) l.shared) set_stem
      ∙ ap (filter (above readers_rule.ways v.claims.branch)) ml.shared
      ∙ above_is readers_rule.ways shared to_right (readers_rule.rights_of v) labels

  pub links_joined : MoreLinks v j (a ++ b)
  links_joined =
      record { branch = ap (λ (z : ReadersView). z.claims.branch) is ∙ set_stem; mods = ap (λ (z : ReadersView). z.mods) is ∙ ml.mods; links = links_sum; once = λ l h. one l; walk = walk_sum; shared = sets_shared }

-- marks, where both sides have all that isn't dropped
module _ (v l r j : MarksView) (ml : MoreMarks (marks.left_of (both_have v) (λ x. false) v) l) (mr : MoreMarks (marks.right_of (both_have v) (λ x. false) v) r) (is : j ≡ marks.joined l r) where
  goes_none : (x : ℕ) → marks.goes_over (both_have v) (λ y. false) v x ≡ false
  goes_none x = ap (λ t. ltb 0 (times x (map marks_rule.ways.slot v.own)) && t) (and_false (not (both_have v x))) ∙ and_false (ltb 0 (times x (map marks_rule.ways.slot v.own)))

  left_busy : (x : ℕ) → IsBusy v x → IsBusy (marks.left_of (both_have v) (λ y. false) v) x
  left_busy x h =
      let keeps : (xs : List ℕ) → filter (λ y. not (marks.goes_over (both_have v) (λ z. false) v y)) xs ≡ xs = λ xs. keeps_all (λ y. not (marks.goes_over (both_have v) (λ z. false) v y)) xs (λ y i. ap not (goes_none y)) in
      ⊎_elim
      (λ (i : 0 < times x v.marked). inl (subst (λ z. 0 < times x z) (sym (keeps v.marked)) i))
      (λ (i : 0 < times x v.busy). inr (subst (λ z. 0 < times x z) (sym (keeps (v.busy ++ v.marked))) (let p = times_append x v.busy v.marked in omega (arith, p, i))))
      h

  pub marks_joined : MoreMarks v j
  marks_joined =
      record {
        marked = λ x.
            let c = ap (λ (z : MarksView). times x z.marked) is in
            let d = times_append x l.marked r.marked in
            let p = ml.marked x in
            let q = mr.marked x in
            let e = ap (times x) (keeps_all (λ y. not (marks.goes_over (both_have v) (λ z. false) v y)) v.marked (λ y i. ap not (goes_none y))) in
            omega (arith, c, d, p, q, e);
        busy = λ x h.
            subst (λ (z : MarksView). IsBusy z x) (sym is)
            (⊎_elim
            (λ (i : 0 < times x l.marked). inl (let p = times_append x l.marked r.marked in omega (arith, p, i)))
            (λ (i : 0 < times x l.busy). inr (let p = times_append x l.busy r.busy in omega (arith, p, i)))
            (ml.busy x (left_busy x h)));
        asks =
            let c = ap (λ (z : MarksView). z.asks) is in
            let d = ml.asks in
            let e = mr.asks in
            omega (arith, c, d, e);
      }
