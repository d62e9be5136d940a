-- What is made adds up: over one call after another, and over both sides of a fork.
use Rattle.std.proofs.Common.{◌≡◌, ℕ, ◌<◌, ◌==◌, Bool, true, false, List, [], ◌∷◌, ◌++◌, map, Option, refl, ap, sym, ◌∙◌, subst, inl, inr, ⊎_elim, arith}
use Rattle.std.specs.Prelude.{filter, sum_by, cond}
use Rattle.std.proofs.lemmas.List.{map-append}
use Rattle.std.proofs.lemmas.List.Sums.{sum_by-append, sum_by-cons}
use Rattle.psac_ops.specs.declared.plain.Handle.{Handle}
use Rattle.psac_slots.specs.Branches.{stem}
use Rattle.psac_slots.specs.Handles.{Member, word_of}
use Rattle.psac_slots.specs.Claiming.{times}
use Rattle.psac_slots.specs.Divided.{told, stays, goes, lends, comes_back}
use Rattle.psac_slots.proofs.Pairs.{member_left, member_right, member_cases, member_map, map_member, filter_member}
use Rattle.psac_slots.proofs.Turns.{stem_push}
use Rattle.psac_values.specs.declared.view.OwnedView.{OwnedView}
use Rattle.psac_values.specs.declared.view.ValueView.{ValueView}
use Rattle.psac_values.specs.Valued as values_rule
use Rattle.psac_values.specs.Steps as values
use Rattle.psac_values.specs.Steps.{Lacks, made_handle, new_owned}
use Rattle.psac_values.specs.Knowing.{Has, Claims, United, wrote, rewritten}
use Rattle.psac_readers.specs.declared.view.WalkView.{WalkView}
use Rattle.psac_readers.specs.declared.view.SharedView.{SharedView as SetView}
use Rattle.psac_readers.specs.declared.view.ReadersView.{ReadersView}
use Rattle.psac_readers.specs.Chained.{named, mods_of}
use Rattle.psac_record.specs.Kept.{Stands}
use Rattle.psac_readers.specs.Steps as readers
use Rattle.psac_marks.specs.declared.view.OwnView.{OwnView}
use Rattle.psac_marks.specs.declared.view.MarksView.{MarksView}
use Rattle.psac_marks.specs.Marked as marks_rule
use Rattle.psac_marks.specs.Steps.{Lacks as LacksNode}
use Rattle.psac_marks.specs.Passes.{Claims as ClaimsNode, Keeps, IsKept, IsDropped, Parted}
use Rattle.psac_laws.proofs.Places.{test_or, not_both, nat_is, nat_same, not_true}
use Rattle.psac_trace.specs.Rights.{Tidy, Kept}
use Rattle.psac_trace.specs.Asking.{Looked}
use Rattle.psac_trace.specs.Fit.{Rooted, both_have}
use Rattle.psac_trace.specs.Grown.{Differ, MoreValues, MoreNodes, MoreMarks, MoreLinks, as_link, nodes_in}
use Rattle.psac_trace.proofs.Sums.{joined_sum, sum_map}
use Rattle.psac_trace.proofs.Views.{claimed_has}
use Rattle.psac_trace.proofs.Leading.{place_on, zero_or}

-- modifiables
pub values_none : (v : ValueView) → MoreValues v v []
values_none v =
    record {
      mine = λ g. let a : sum_by g [] ≡ 0 = refl in omega (arith, a);
      held = λ g. let a : sum_by g [] ≡ 0 = refl in omega (arith, a);
      differ = tt;
      lacked = λ m i. absurd i;
      has = λ m i. absurd i;
    }

-- two lists that have no slot in common
pub differ_append : (a b : List Handle) → Differ a → Differ b → ((m n : Handle) → Member m a → Member n b → n.slot ≡ m.slot → ⊥) → Differ (a ++ b)
differ_append [] b da db f = db
differ_append (m ∷ a) b da db f = (
  λ n i e. ⊎_elim (λ (j : Member n a). da.0 n j e) (λ (j : Member n b). f m n (inl refl) j e) (member_cases n a b i),
  differ_append a b da.1 db (λ x y i j e. f x y (inr i) j e),
)

-- what the pass has later it lacked before, if it lacks it now
pub lacks_before : (v u : ValueView) → Kept v u → (s : ℕ) → Lacks u s → Lacks v s
lacks_before v u k s l =
    record {
      mine = λ w i e. let h = k.mine w.of (w, i, refl) in l.mine h.0 h.1 (ap (λ (z : Handle). z.slot) h.2 ∙ e);
      known = λ x i e. l.known x (subst (Member x) (sym k.known) i) e;
    }

pub values_then : (v u x : ValueView) (a b : List Handle) → Kept v u → Kept u x → MoreValues v u a → MoreValues u x b → MoreValues v x (a ++ b)
values_then v u x a b kv ku m n =
    record {
      mine = λ g. let p = m.mine g in let q = n.mine g in let r = sum_by-append g a b in omega (arith, p, q, r);
      held = λ g. let p = m.held g in let q = n.held g in let r = sum_by-append g a b in omega (arith, p, q, r);
      differ = differ_append a b m.differ n.differ (λ y z i j e. let h = m.has y i in (n.lacked z j).mine h.0 h.1 (ap (λ (o : Handle). o.slot) h.2 ∙ sym e));
      lacked = λ y i. ⊎_elim (λ (j : Member y a). m.lacked y j) (λ (j : Member y b). lacks_before v u kv y.slot (n.lacked y j)) (member_cases y a b i);
      has = λ y i. ⊎_elim (λ (j : Member y a). ku.mine y (m.has y j)) (λ (j : Member y b). n.has y j) (member_cases y a b i);
    }

pub values_same : (v u : ValueView) → u.mine ≡ v.mine → u.claims.held ≡ v.claims.held → u.fixed ≡ v.fixed → MoreValues v u []
values_same v u m h f =
    record {
      mine = λ g. let a = ap (sum_by (λ (o : OwnedView). g o.of)) m in let z : sum_by g [] ≡ 0 = refl in omega (arith, a, z);
      held = λ g.
          let a = ap (λ n. sum_by (λ (x : Handle). g (made_handle n x)) u.claims.held) f ∙ ap (sum_by (λ (x : Handle). g (made_handle v.fixed x))) h in
          let z : sum_by g [] ≡ 0 = refl in
          omega (arith, a, z);
      differ = tt;
      lacked = λ y i. absurd i;
      has = λ y i. absurd i;
    }

pub values_looked : (v u : ValueView) → Looked v u → MoreValues v u []
values_looked v u l = values_same v u (ap (λ (z : ValueView). z.mine) l.1) (ap (λ (z : ValueView). z.claims.held) l.1) (ap (λ (z : ValueView). z.fixed) l.1)

pub values_wrote : (v : ValueView) (s : ℕ) (ws : List ℕ) → MoreValues v (wrote s ws v) []
values_wrote v s ws =
    record {
      mine = λ g. let a : sum_by g [] ≡ 0 = refl in let b = sum_map (rewritten s ws) (λ (o : OwnedView). g o.of) v.mine in omega (arith, a, b);
      held = λ g. let a : sum_by g [] ≡ 0 = refl in omega (arith, a);
      differ = tt;
      lacked = λ y i. absurd i;
      has = λ y i. absurd i;
    }

pub values_claimed : (v u : ValueView) (m : Handle) → Claims v m u → Lacks v m.slot → MoreValues v u (m ∷ [])
values_claimed v u m c lacks =
    let mine_is : u.mine ≡ v.mine ++ new_owned v.fixed c.1 ∷ [] = ap (λ (z : ValueView). z.mine) c.5 ∙ ap (λ es. v.mine ++ map (new_owned v.fixed) es) c.3 in
    let held_is : u.claims.held ≡ v.claims.held ++ c.1 ∷ [] = ap (λ (z : ValueView). z.claims.held) c.5 ∙ ap (λ es. v.claims.held ++ es) c.3 in
    let fixed_is : u.fixed ≡ v.fixed = ap (λ (z : ValueView). z.fixed) c.5 in
    record {
      mine = λ g.
          let f : OwnedView → ℕ = λ o. g o.of in
          let a = ap (sum_by f) mine_is in
          let b = sum_by-append f v.mine (new_owned v.fixed c.1 ∷ []) in
          let e : f (new_owned v.fixed c.1) ≡ g m = ap g (sym c.4) in
          let d = sum_by-cons f (new_owned v.fixed c.1) [] in
          let k = sum_by-cons g m [] in
          let z : sum_by f [] ≡ 0 = refl in
          let y : sum_by g [] ≡ 0 = refl in
          omega (arith, a, b, e, d, k, z, y);
      held = λ g.
          let f : ℕ → Handle → ℕ = λ n h. g (made_handle n h) in
          let a = ap (λ n. sum_by (f n) u.claims.held) fixed_is ∙ ap (sum_by (f v.fixed)) held_is in
          let b = sum_by-append (f v.fixed) v.claims.held (c.1 ∷ []) in
          let e : f v.fixed c.1 ≡ g m = ap g (sym c.4) in
          let d = sum_by-cons (f v.fixed) c.1 [] in
          let k = sum_by-cons g m [] in
          let z : sum_by (f v.fixed) [] ≡ 0 = refl in
          let y : sum_by g [] ≡ 0 = refl in
          omega (arith, a, b, e, d, k, z, y);
      differ = (λ n i. absurd i, tt);
      lacked = λ n i. ⊎_elim (λ (e : m ≡ n). subst (λ z. Lacks v z.slot) e lacks) (λ (b : ⊥). absurd b) i;
      has = λ n i. ⊎_elim (λ (e : m ≡ n). subst (Has u) e (claimed_has v u m c lacks)) (λ (b : ⊥). absurd b) i;
    }

-- both sides of a par
module _ (shared to_right : ℕ → Bool) (v l r j : ValueView) (a b : List Handle) (t : Tidy v) (kl : Kept (values.left_of shared to_right v) l) (kr : Kept (values.right_of shared to_right v) r) (is : j ≡ values.joined l r) (un : United l r j) where
  -- what a side makes neither side had
  pub left_lacked : (m : Handle) → Has l m → Lacks (values.left_of shared to_right v) m.slot → Lacks v m.slot
  left_lacked m h k =
      record {
        mine = λ w i e.
            elim (test_or (shared w.of.slot)) [
              | inl s ↦
                  k.known (values_rule.ways.lend v.claims.branch w)
                  (member_right (values_rule.ways.lend v.claims.branch w) v.known (map (values_rule.ways.lend v.claims.branch) (filter (lends values_rule.ways shared to_right) v.mine))
                  (map_member (values_rule.ways.lend v.claims.branch) w (filter (lends values_rule.ways shared to_right) v.mine) (filter_member (lends values_rule.ways shared to_right) w v.mine i s))) e
              | inr s ↦
                  elim (test_or (to_right w.of.slot)) [
                    | inl q ↦
                        (let g = kr.mine w.of (w, filter_member (goes values_rule.ways shared to_right) w v.mine i (rw (s, q) refl), refl) in
                        (un.right_alone g.0 g.1).mine h.0 h.1 (ap (λ (z : Handle). z.slot) h.2 ∙ sym e ∙ ap (λ (z : Handle). z.slot) (sym g.2)))
                    | inr q ↦ k.mine w (filter_member (stays values_rule.ways shared to_right) w v.mine i (rw (s, q) refl)) e
                  ]
            ];
        known = λ x i. k.known x (member_left x v.known (map (values_rule.ways.lend v.claims.branch) (filter (lends values_rule.ways shared to_right) v.mine)) i);
      }

  pub right_lacked : (m : Handle) → Has r m → Lacks (values.right_of shared to_right v) m.slot → Lacks v m.slot
  right_lacked m h k =
      record {
        mine = λ w i e.
            elim (test_or (shared w.of.slot)) [
              | inl s ↦
                  k.known (values_rule.ways.lend v.claims.branch w)
                  (member_right (values_rule.ways.lend v.claims.branch w) v.known (map (values_rule.ways.lend v.claims.branch) (filter (lends values_rule.ways shared to_right) v.mine))
                  (map_member (values_rule.ways.lend v.claims.branch) w (filter (lends values_rule.ways shared to_right) v.mine) (filter_member (lends values_rule.ways shared to_right) w v.mine i s))) e
              | inr s ↦
                  elim (test_or (to_right w.of.slot)) [
                    | inl q ↦ k.mine w (filter_member (goes values_rule.ways shared to_right) w v.mine i (rw (s, q) refl)) e
                    | inr q ↦
                        (let g = kl.mine w.of (w, filter_member (stays values_rule.ways shared to_right) w v.mine i (rw (s, q) refl), refl) in
                        (un.left_alone g.0 g.1).mine h.0 h.1 (ap (λ (z : Handle). z.slot) h.2 ∙ sym e ∙ ap (λ (z : Handle). z.slot) (sym g.2)))
                  ]
            ];
        known = λ x i. k.known x (member_left x v.known (map (values_rule.ways.lend v.claims.branch) (filter (lends values_rule.ways shared to_right) v.mine)) i);
      }

  stem_values : stem l.claims.branch ≡ v.claims.branch
  stem_values = ap stem kl.branch ∙ stem_push v.claims.branch false

  pub mine_joined : j.mine ≡ (l.mine ++ r.mine) ++ map values_rule.ways.back (filter (comes_back values_rule.ways v.claims.branch) (told values_rule.ways shared to_right (values_rule.rights_of v)))
  mine_joined =
      ap (λ (z : ValueView). z.mine) is
      ∙ ap (λ c. (l.mine ++ r.mine) ++ map values_rule.ways.back (filter (comes_back values_rule.ways c) l.known)) stem_values
      ∙ ap (λ k. (l.mine ++ r.mine) ++ map values_rule.ways.back (filter (comes_back values_rule.ways v.claims.branch) k)) kl.known

  pub values_joined : MoreValues (values.left_of shared to_right v) l a → MoreValues (values.right_of shared to_right v) r b → MoreValues v j (a ++ b)
  values_joined ml mr =
      record {
        mine = λ g.
            let f : OwnedView → ℕ = λ o. g o.of in
            let c = joined_sum values_rule.ways shared to_right (values_rule.rights_of v) t.labels (λ w. refl) f l.mine r.mine (sum_by g a) (sum_by g b) (ml.mine g) (mr.mine g) in
            let d = ap (sum_by f) mine_joined in
            let e = sum_by-append g a b in
            omega (arith, c, d, e);
        held = λ g.
            let f : ℕ → Handle → ℕ = λ n h. g (made_handle n h) in
            let fixed_is : j.fixed ≡ l.fixed = ap (λ (z : ValueView). z.fixed) is in
            let c = ap (λ n. sum_by (f n) j.claims.held) fixed_is ∙ ap (λ (z : ValueView). sum_by (f l.fixed) z.claims.held) is in
            let d = sum_by-append (f l.fixed) l.claims.held r.claims.held in
            let same : sum_by (f l.fixed) r.claims.held ≡ sum_by (f r.fixed) r.claims.held = ap (λ n. sum_by (f n) r.claims.held) (kl.fixed ∙ sym kr.fixed) in
            let p = ml.held g in
            let q = mr.held g in
            let z : sum_by (f v.fixed) [] ≡ 0 = refl in
            let e = sum_by-append g a b in
            omega (arith, c, d, same, p, q, z, e);
        differ = differ_append a b ml.differ mr.differ (λ y z i h e.
            let one = ml.has y i in
            let two = mr.has z h in
            (un.left_alone one.0 one.1).mine two.0 two.1 (ap (λ (o : Handle). o.slot) two.2 ∙ e ∙ ap (λ (o : Handle). o.slot) (sym one.2)));
        lacked = λ y i. ⊎_elim (λ (h : Member y a). left_lacked y (ml.has y h) (ml.lacked y h)) (λ (h : Member y b). right_lacked y (mr.has y h) (mr.lacked y h)) (member_cases y a b i);
        has = λ y i. ⊎_elim (λ (h : Member y a). un.has y (inl (ml.has y h))) (λ (h : Member y b). un.has y (inr (mr.has y h))) (member_cases y a b i);
      }

-- nodes
pub nodes_none : (v : MarksView) → MoreNodes v v []
nodes_none v =
    record {
      branch = refl;
      own = λ g. let a : sum_by g [] ≡ 0 = refl in omega (arith, a);
      held = λ g. let a : sum_by (λ (o : OwnView). g o.node) [] ≡ 0 = refl in omega (arith, a);
      shared = refl;
      dropped = λ x. refl;
      has = λ o i. i;
      differ = tt;
      lacked = λ o i. absurd i;
      gained = λ o i. absurd i;
    }

-- what the pass owns has a place
pub own_has : (v : MarksView) (o : OwnView) → Member o v.own → Member (marks_rule.own_place v.claims.branch o) (marks_rule.places v)
own_has v o i =
    member_left (marks_rule.own_place v.claims.branch o) (map (marks_rule.own_place v.claims.branch) v.own) (map marks_rule.shared_place v.shared)
    (map_member (marks_rule.own_place v.claims.branch) o v.own i)

-- two lists of nodes that have no slot in common
pub nodes_differ : (a b : List OwnView) → Differ (nodes_in a) → Differ (nodes_in b) → ((x y : OwnView) → Member x a → Member y b → y.node.slot ≡ x.node.slot → ⊥) → Differ (nodes_in (a ++ b))
nodes_differ a b da db f =
    subst Differ (sym (map-append (λ (o : OwnView). o.node) a b))
    (differ_append (nodes_in a) (nodes_in b) da db (λ m n i j e.
    let x = member_map (λ (o : OwnView). o.node) m a i in
    let y = member_map (λ (o : OwnView). o.node) n b j in
    f x.0 y.0 x.1 y.1 (ap (λ (h : Handle). h.slot) y.2 ∙ e ∙ ap (λ (h : Handle). h.slot) (sym x.2))))

pub nodes_then : (v u x : MarksView) (a b : List OwnView) → MoreNodes v u a → MoreNodes u x b → MoreNodes v x (a ++ b)
nodes_then v u x a b m n =
    record {
      branch = n.branch ∙ m.branch;
      own = λ g. let p = m.own g in let q = n.own g in let r = sum_by-append g a b in omega (arith, p, q, r);
      held = λ g. let p = m.held g in let q = n.held g in let r = sum_by-append (λ (o : OwnView). g o.node) a b in omega (arith, p, q, r);
      shared = n.shared ∙ m.shared;
      dropped = λ y. n.dropped y ∙ m.dropped y;
      has = λ o i. n.has o (m.has o i);
      differ = nodes_differ a b m.differ n.differ (λ y z i j e. n.lacked z j (marks_rule.own_place u.claims.branch y) (own_has u y (m.gained y i)) (sym e));
      lacked = λ o i. ⊎_elim (λ (j : Member o a). m.lacked o j) (λ (j : Member o b). λ p h. n.lacked o j p (place_on v u a m p h)) (member_cases o a b i);
      gained = λ o i. ⊎_elim (λ (j : Member o a). n.has o (m.gained o j)) (λ (j : Member o b). n.gained o j) (member_cases o a b i);
    }

pub nodes_same : (v u : MarksView) → u.own ≡ v.own → u.claims.held ≡ v.claims.held → u.shared ≡ v.shared → u.dropped ≡ v.dropped → u.claims.branch ≡ v.claims.branch → MoreNodes v u []
nodes_same v u own held shared dropped branch =
    record {
      branch = branch;
      own = λ g. let p = ap (sum_by g) own in let a : sum_by g [] ≡ 0 = refl in omega (arith, p, a);
      held = λ g. let p = ap (sum_by g) held in let a : sum_by (λ (o : OwnView). g o.node) [] ≡ 0 = refl in omega (arith, p, a);
      shared = shared;
      dropped = λ x. ap (times x) dropped;
      has = λ o i. subst (Member o) (sym own) i;
      differ = tt;
      lacked = λ o i. absurd i;
      gained = λ o i. absurd i;
    }

-- a parent that is kept is kept on
pub keeps_on : (v u : MarksView) (a : List OwnView) → MoreNodes v u a → (h : Handle) → Keeps v h → Keeps u h
keeps_on v u a m h k = (k.0, place_on v u a m k.0 k.1, k.2, m.dropped h.slot ∙ k.3)

pub nodes_claimed : (v u : MarksView) (h : Handle) (par : Option ℕ) → ClaimsNode v h par u → LacksNode v h.slot → MoreNodes v u (record { node = h; parent = par } ∷ [])
nodes_claimed v u h par c new =
    let one : OwnView = record { node = h; parent = par } in
    record {
      branch = ap (λ (z : MarksView). z.claims.branch) c.becomes;
      own = λ g.
          let a = ap (λ (z : MarksView). sum_by g z.own) c.becomes in
          let b = sum_by-cons g one v.own in
          let d = sum_by-cons g one [] in
          let z : sum_by g [] ≡ 0 = refl in
          omega (arith, a, b, d, z);
      held = λ g.
          let f : OwnView → ℕ = λ o. g o.node in
          let a = ap (λ (z : MarksView). sum_by g z.claims.held) c.becomes in
          let e = ap (λ es. sum_by g (v.claims.held ++ es)) c.entry in
          let b = sum_by-append g v.claims.held (h ∷ []) in
          let d = sum_by-cons f one [] in
          let k = sum_by-cons g h [] in
          let z : sum_by f [] ≡ 0 = refl in
          let y : sum_by g [] ≡ 0 = refl in
          omega (arith, a, e, b, d, k, z, y);
      shared = ap (λ (z : MarksView). z.shared) c.becomes;
      dropped = λ x. ap (λ (z : MarksView). times x z.dropped) c.becomes;
      has = λ o i. subst (λ (z : MarksView). Member o z.own) (sym c.becomes) (inr i);
      differ = (λ n i. absurd i, tt);
      lacked = λ o i. ⊎_elim (λ (e : one ≡ o). subst (λ (z : OwnView). LacksNode v z.node.slot) e new) (λ (b : ⊥). absurd b) i;
      gained = λ o i. ⊎_elim (λ (e : one ≡ o). subst (λ z. Member z u.own) e (subst (λ (z : MarksView). Member one z.own) (sym c.becomes) (inl refl))) (λ (b : ⊥). absurd b) i;
    }

-- the division at a par
kept_is : (v : MarksView) (x : ℕ) → IsKept v x → both_have v x ≡ true
kept_is v x k = ap (λ n. n == 0) k ∙ nat_same 0

has_slot : (v : MarksView) (x : ℕ) → IsDropped v x → both_have v x ≡ false
has_slot v x d = not_true (both_have v x) (λ t. let e = nat_is (times x v.dropped) 0 t in omega (arith, d, e))

-- where no kept node lies below a dropped one, both sides can have all that is kept
pub parted : (v : MarksView) → Rooted v → Parted (both_have v) (λ x. false) v
parted v r =
    record {
      families = λ o c i j e k s. absurd (not_both (kept_is v o.node.slot (r.kept c o.node.slot j k e).0) s);
      dropped = λ x d. has_slot v x d;
    }

-- links
pub links_none : (v : ReadersView) → MoreLinks v v []
links_none v =
    record {
      branch = refl;
      mods = refl;
      links = λ g. let a : sum_by (λ (s : Stands). g (as_link s)) [] ≡ 0 = refl in omega (arith, a);
      once = λ l h. let a : sum_by (λ (s : Stands). named l (as_link s)) [] ≡ 0 = refl in absurd (omega (arith, a, h));
      walk = λ g. refl;
      shared = refl;
    }

pub links_then : (v u x : ReadersView) (a b : List Stands) → MoreLinks v u a → MoreLinks u x b → MoreLinks v x (a ++ b)
links_then v u x a b m n =
    record {
      branch = n.branch ∙ m.branch;
      mods = n.mods ∙ m.mods;
      links = λ g. let p = m.links g in let q = n.links g in let r = sum_by-append (λ (s : Stands). g (as_link s)) a b in omega (arith, p, q, r);
      once = λ l h.
          let f : Stands → ℕ = λ s. named l (as_link s) in
          let q = n.links (named l) in
          let r = sum_by-append f a b in
          elim (zero_or (sum_by f b)) [
            | inl z ↦ (let c = m.once l (omega (arith, h, r, z)) in omega (arith, q, z, c))
            | inr z ↦ n.once l z
          ];
      walk = λ g. n.walk g ∙ m.walk g;
      shared = n.shared ∙ m.shared;
    }

pub links_same : (v u : ReadersView) → u.claims.branch ≡ v.claims.branch → u.mods ≡ v.mods → u.links ≡ v.links → u.walk ≡ v.walk → u.shared ≡ v.shared → MoreLinks v u []
links_same v u branch mods links walk shared =
    record {
      branch = branch;
      mods = mods;
      links = λ g. let p = ap (sum_by g) links in let a : sum_by (λ (s : Stands). g (as_link s)) [] ≡ 0 = refl in omega (arith, p, a);
      once = λ l h. let a : sum_by (λ (s : Stands). named l (as_link s)) [] ≡ 0 = refl in absurd (omega (arith, a, h));
      walk = λ g. ap (λ z. sum_by g (mods_of z)) walk;
      shared = shared;
    }

pub has_same : (v u : ReadersView) → u.walk ≡ v.walk → u.shared ≡ v.shared → (x : ℕ) → readers.Has x v → readers.Has x u
has_same v u walk shared x h =
    ⊎_elim
    (λ (i : Member x (mods_of v.walk)). inl (subst (λ z. Member x (mods_of z)) (sym walk) i))
    (λ (i : (e : SetView) × Member e v.shared × (e.of ≡ x)). inr (i.0, subst (Member i.0) (sym shared) i.1, i.2))
    h

pub links_entered : (v u : ReadersView) (s : Stands) → readers.Entered v s.of.slot (word_of s.node) s.link.index u → sum_by (named s.link.index) v.links ≡ 0 → MoreLinks v u (s ∷ [])
links_entered v u s e new =
    record {
      branch = ap (λ (z : ReadersView). z.claims.branch) e.3;
      mods = ap (λ (z : ReadersView). z.mods) e.3;
      links = λ g.
          let f : Stands → ℕ = λ t. g (as_link t) in
          let a = ap (λ (z : ReadersView). sum_by g z.links) e.3 in
          let b = sum_by-cons g (as_link s) v.links in
          let d = sum_by-cons f s [] in
          let z : sum_by f [] ≡ 0 = refl in
          omega (arith, a, b, d, z);
      once = λ l h.
          let a = ap (λ (z : ReadersView). sum_by (named l) z.links) e.3 in
          let b = sum_by-cons (named l) (as_link s) v.links in
          let d = sum_by-cons (λ (t : Stands). named l (as_link t)) s [] in
          let z : sum_by (λ (t : Stands). named l (as_link t)) [] ≡ 0 = refl in
          elim (test_or (s.link.index == l)) [
            | inl t ↦
                (let one : named l (as_link s) ≡ 1 = ap {B = ℕ} (λ b. cond b 1 0) t in
                let none : sum_by (named l) v.links ≡ 0 = subst (λ n. sum_by (named n) v.links ≡ 0) (nat_is s.link.index l t) new in
                omega (arith, a, b, one, none))
            | inr t ↦ (let none : named l (as_link s) ≡ 0 = ap {B = ℕ} (λ b. cond b 1 0) t in absurd (omega (arith, d, z, none, h)))
          ];
      walk = λ g.
          let a = ap (λ (z : ReadersView). sum_by g (mods_of z.walk)) e.3 in
          let b = sum_map (λ (x : WalkView). x.of) g (map (readers.forget s.of.slot) v.walk) in
          let c = sum_map (readers.forget s.of.slot) (λ (x : WalkView). g x.of) v.walk in
          let d = sum_map (λ (x : WalkView). x.of) g v.walk in
          omega (arith, a, b, c, d);
      shared = ap (λ (z : ReadersView). z.shared) e.3;
    }

-- marks
pub marks_none : (v : MarksView) → MoreMarks v v
marks_none v = record { marked = λ x. omega arith; busy = λ x h. h; asks = refl }

pub marks_then : (v u x : MarksView) → MoreMarks v u → MoreMarks u x → MoreMarks v x
marks_then v u x a b =
    record {
      marked = λ y. (let p = a.marked y in let q = b.marked y in omega (arith, p, q));
      busy = λ y h. b.busy y (a.busy y h);
      asks = b.asks ∙ a.asks;
    }

pub marks_same : (v u : MarksView) → u.marked ≡ v.marked → u.busy ≡ v.busy → u.asks ≡ v.asks → MoreMarks v u
marks_same v u m b a =
    record {
      marked = λ x. let p = ap (times x) m in omega (arith, p);
      busy = λ x h. ⊎_elim (λ (i : 0 < times x v.marked). inl (subst (λ z. 0 < times x z) (sym m) i)) (λ (i : 0 < times x v.busy). inr (subst (λ z. 0 < times x z) (sym b) i)) h;
      asks = a;
    }
