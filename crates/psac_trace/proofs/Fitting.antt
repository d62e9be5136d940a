-- What holds of a pass between two calls holds after each of them, and on both sides of a fork and after the join.
use Rattle.std.proofs.Common.{◌≡◌, ◌⊎◌, ℕ, zero, suc, ◌+◌, ◌≤◌, ◌<◌, ◌==◌, ◌||◌, ◌&&◌, Bool, true, false, not, List, [], ◌∷◌, ◌++◌, map, length, Option, Some, None, refl, ap, sym, ◌∙◌, subst, inl, inr, ⊎_elim, arith, length-append}
use Rattle.std.specs.Prelude.{filter, ltb}
use Rattle.std.proofs.lemmas.Bool.{lt-ltb, ltb-true}
use Rattle.psac_ops.specs.declared.plain.Handle.{Handle}
use Rattle.psac_slots.specs.Branches.{stem}
use Rattle.psac_slots.specs.Handles.{Member}
use Rattle.psac_slots.specs.Claiming.{times}
use Rattle.psac_slots.specs.Divided.{stays, goes, lends, told, above, comes_back}
use Rattle.psac_slots.proofs.Pairs.{member_left, member_right, member_cases, member_map, map_member, member_filter, filter_member}
use Rattle.psac_slots.proofs.Turns.{stem_push}
use Rattle.psac_values.specs.declared.view.OwnedView.{OwnedView}
use Rattle.psac_values.specs.declared.view.KnownView.{KnownView}
use Rattle.psac_values.specs.declared.view.ValueView.{ValueView}
use Rattle.psac_values.specs.Valued as values_rule
use Rattle.psac_values.specs.Steps as values
use Rattle.psac_values.specs.Knowing.{Has as MayWrite}
use Rattle.psac_readers.specs.declared.view.SharedView.{SharedView as SetView}
use Rattle.psac_readers.specs.declared.view.ReadersView.{ReadersView}
use Rattle.psac_readers.specs.Chained as readers_rule
use Rattle.psac_readers.specs.Chained.{mods_of}
use Rattle.psac_readers.specs.Steps as readers
use Rattle.psac_marks.specs.declared.view.OwnView.{OwnView}
use Rattle.psac_marks.specs.declared.view.SharedView.{SharedView as NodeView}
use Rattle.psac_marks.specs.declared.view.MarksView.{MarksView}
use Rattle.psac_marks.specs.Marked as marks_rule
use Rattle.psac_marks.specs.Marked.{Place, places, HasOwn}
use Rattle.psac_marks.specs.Steps as marks
use Rattle.psac_marks.specs.Passes.{Claims as ClaimsNode, Keeps, IsKept, IsDropped, slot_of, United}
use Rattle.psac_laws.proofs.Places.{test_or, not_both, not_true, and_is, nat_is, nat_same, some_is}
use Rattle.psac_laws.proofs.Rules.{or_left, or_right}
use Rattle.psac_trace.specs.Fit.{AtHand, SetsReady, Rooted, ParentKept, both_have, is_spare}
use Rattle.psac_trace.specs.Grown.{MoreNodes}
use Rattle.psac_trace.proofs.Joining.{none_of, mods_filter, mods_append, mods_unknown}
use Rattle.psac_trace.proofs.Sums.{keeps_all}

not_is : (b : Bool) → not b ≡ true → b ≡ false
not_is true h = absurd cc
not_is false h = refl

-- sets

-- another view of values that may write and know no more
pub sets_values : (v u : ValueView) (r : ReadersView) → ((m : Handle) → MayWrite u m → MayWrite v m) → u.known ≡ v.known → u.claims.list ≡ v.claims.list → u.fixed ≡ v.fixed → SetsReady v r → SetsReady u r
sets_values v u r mine known list fixed s =
    record {
      mine = λ m h. s.mine m (mine m h);
      known = λ e i. s.known e (subst (Member e) known i);
      spare = λ h i. subst (λ n. AtHand (n + h.slot) r) (sym fixed) (s.spare h (subst (Member h) list i));
      labels = s.labels;
    }

-- a claim
pub sets_claimed : (v u : ValueView) (r : ReadersView) (m : Handle) → ((k : Handle) → MayWrite u k → (m ≡ k) ⊎ MayWrite v k) → u.known ≡ v.known → u.claims.list ≡ v.claims.list → u.fixed ≡ v.fixed → ((h : Handle) × Member h v.claims.list × (v.fixed + h.slot ≡ m.slot)) → SetsReady v r → SetsReady u r
sets_claimed v u r m cases known list fixed from s =
    record {
      mine = λ k h. ⊎_elim (λ (e : m ≡ k). subst (λ n. AtHand n r) (from.2 ∙ ap (λ (z : Handle). z.slot) e) (s.spare from.0 from.1)) (λ (i : MayWrite v k). s.mine k i) (cases k h);
      known = λ e i. s.known e (subst (Member e) known i);
      spare = λ h i. subst (λ n. AtHand (n + h.slot) r) (sym fixed) (s.spare h (subst (Member h) list i));
      labels = s.labels;
    }

-- other links and chains
pub sets_links : (v : ValueView) (r u : ReadersView) → u.mods ≡ r.mods → ((m : ℕ) → readers.Has m r → readers.Has m u) → u.shared ≡ r.shared → u.claims.branch ≡ r.claims.branch → SetsReady v r → SetsReady v u
sets_links v r u mods has shared branch s =
    let at : (n : ℕ) → AtHand n r → AtHand n u = λ n a. (subst (λ z. n < z) (sym mods) a.0, has n a.1) in
    record {
      mine = λ m h. at m.slot (s.mine m h);
      known = λ e i. let k = s.known e i in (subst (λ z. e.of.slot < z) (sym mods) k.0, (k.1.0, subst (Member k.1.0) (sym shared) k.1.1, k.1.2, k.1.3));
      spare = λ h i. at (v.fixed + h.slot) (s.spare h i);
      labels = λ f i. subst (λ z. length f.label < length z) (sym branch) (s.labels f (subst (Member f) shared i));
    }

pub spare_is : (fixed : ℕ) (h : Handle) (hs : List Handle) → Member h hs → is_spare fixed hs (fixed + h.slot) ≡ true
spare_is fixed h [] i = absurd i
spare_is fixed h (x ∷ hs) i =
    ⊎_elim
    (λ (e : x ≡ h). or_left (fixed + x.slot == fixed + h.slot) (is_spare fixed hs (fixed + h.slot)) (subst (λ (z : Handle). (fixed + z.slot == fixed + h.slot) ≡ true) (sym e) (nat_same (fixed + h.slot))))
    (λ (j : Member h hs). or_right (fixed + x.slot == fixed + h.slot) (is_spare fixed hs (fixed + h.slot)) (spare_is fixed h hs j))
    i

-- both sides of a fork: what is shared of values is shared of sets, and each set goes where its modifiable may be written
module _ (shared to_right : ℕ → Bool) (v : ValueView) (r : ReadersView) (same : r.claims.branch ≡ v.claims.branch) (s : SetsReady v r) where
  abbrev sets : ℕ → Bool
  sets n = shared n || is_spare v.fixed v.claims.list n

  abbrev told_sets : List SetView
  told_sets = told readers_rule.ways sets to_right (readers_rule.rights_of r)

  -- a set that was at hand both sides share, or it is alone and goes with its slot
  set_cases : (n : ℕ) → readers.Has n r → ((f : SetView) × Member f told_sets × (f.of ≡ n) × (length f.label ≤ length v.claims.branch)) ⊎ ((sets n ≡ false) × Member n (mods_of r.walk))
  set_cases n h =
      ⊎_elim
      (λ (i : Member n (mods_of r.walk)).
      elim (test_or (sets n)) [
        | inl t ↦
            inl (
              readers_rule.labelled r.claims.branch n,
              member_right (readers_rule.labelled r.claims.branch n) r.shared (map (readers_rule.ways.lend r.claims.branch) (filter (lends readers_rule.ways sets to_right) (mods_of r.walk)))
                  (map_member (readers_rule.ways.lend r.claims.branch) n (filter (lends readers_rule.ways sets to_right) (mods_of r.walk)) (filter_member (lends readers_rule.ways sets to_right) n (mods_of r.walk) i t)),
              refl,
              (let e = ap length same in omega (arith, e)),
            )
        | inr t ↦ inr (t, i)
      ])
      (λ (i : (e : SetView) × Member e r.shared × (e.of ≡ n)).
      inl (i.0, member_left i.0 r.shared (map (readers_rule.ways.lend r.claims.branch) (filter (lends readers_rule.ways sets to_right) (mods_of r.walk))) i.1, i.2, (let l = s.labels i.0 i.1 in let e = ap length same in omega (arith, l, e))))
      h

  module _ (u : ReadersView) (c : Bool) (mods : u.mods ≡ r.mods) (shares : u.shared ≡ told_sets) (branch : u.claims.branch ≡ r.claims.branch ++ c ∷ []) where
    side_shared : (n : ℕ) → (f : SetView) × Member f told_sets × (f.of ≡ n) × (length f.label ≤ length v.claims.branch) → readers.Has n u
    side_shared n f = inr (f.0, subst (Member f.0) (sym shares) f.1, f.2)

    side_known : (e : KnownView) → Member e (values.now_known shared to_right v) → (e.of.slot < u.mods) × ((f : SetView) × Member f u.shared × (f.of ≡ e.of.slot) × (length f.label ≤ length e.label))
    side_known e i =
        ⊎_elim
        (λ (j : Member e v.known).
        let k = s.known e j in
        (subst (λ z. e.of.slot < z) (sym mods) k.0, (k.1.0, subst (Member k.1.0) (sym shares) (member_left k.1.0 r.shared (map (readers_rule.ways.lend r.claims.branch) (filter (lends readers_rule.ways sets to_right) (mods_of r.walk))) k.1.1), k.1.2, k.1.3)))
        (λ (j : Member e (map (values_rule.ways.lend v.claims.branch) (filter (lends values_rule.ways shared to_right) v.mine))).
        let q = member_map (values_rule.ways.lend v.claims.branch) e (filter (lends values_rule.ways shared to_right) v.mine) j in
        let o = member_filter (lends values_rule.ways shared to_right) q.0 v.mine q.1 in
        let is : q.0.of ≡ e.of = ap (λ (z : KnownView). z.of) q.2 in
        let label : length e.label ≡ length v.claims.branch = ap (λ (z : KnownView). length z.label) (sym q.2) in
        let slot : q.0.of.slot ≡ e.of.slot = ap (λ (z : Handle). z.slot) is in
        let a = s.mine q.0.of (q.0, o.0, refl) in
        let t : sets q.0.of.slot ≡ true = or_left (shared q.0.of.slot) (is_spare v.fixed v.claims.list q.0.of.slot) o.1 in
        ⊎_elim
        (λ (f : (f : SetView) × Member f told_sets × (f.of ≡ q.0.of.slot) × (length f.label ≤ length v.claims.branch)).
        (subst (λ z. z < u.mods) slot (subst (λ z. q.0.of.slot < z) (sym mods) a.0), (f.0, subst (Member f.0) (sym shares) f.1, f.2 ∙ slot, (let x = f.3 in omega (arith, x, label)))))
        (λ (f : (sets q.0.of.slot ≡ false) × Member q.0.of.slot (mods_of r.walk)). absurd (not_both t f.0))
        (set_cases q.0.of.slot a.1))
        (member_cases e v.known (map (values_rule.ways.lend v.claims.branch) (filter (lends values_rule.ways shared to_right) v.mine)) i)

    side_spare : (h : Handle) → Member h v.claims.list → AtHand (v.fixed + h.slot) u
    side_spare h i =
        let a = s.spare h i in
        let t : sets (v.fixed + h.slot) ≡ true = or_right (shared (v.fixed + h.slot)) (is_spare v.fixed v.claims.list (v.fixed + h.slot)) (spare_is v.fixed h v.claims.list i) in (
          subst (λ z. v.fixed + h.slot < z) (sym mods) a.0,
          ⊎_elim
              (λ (f : (f : SetView) × Member f told_sets × (f.of ≡ v.fixed + h.slot) × (length f.label ≤ length v.claims.branch)). side_shared (v.fixed + h.slot) f)
              (λ (f : (sets (v.fixed + h.slot) ≡ false) × Member (v.fixed + h.slot) (mods_of r.walk)). absurd (not_both t f.0))
              (set_cases (v.fixed + h.slot) a.1),
        )

    side_labels : (f : SetView) → Member f u.shared → length f.label < length u.claims.branch
    side_labels f i =
        let n : length u.claims.branch ≡ length r.claims.branch + 1 = ap length branch ∙ length-append r.claims.branch (c ∷ []) in
        ⊎_elim
        (λ (j : Member f r.shared). let l = s.labels f j in omega (arith, n, l))
        (λ (j : Member f (map (readers_rule.ways.lend r.claims.branch) (filter (lends readers_rule.ways sets to_right) (mods_of r.walk)))).
        let q = member_map (readers_rule.ways.lend r.claims.branch) f (filter (lends readers_rule.ways sets to_right) (mods_of r.walk)) j in
        let e : length f.label ≡ length r.claims.branch = ap (λ (z : SetView). length z.label) (sym q.2) in
        omega (arith, n, e))
        (member_cases f r.shared (map (readers_rule.ways.lend r.claims.branch) (filter (lends readers_rule.ways sets to_right) (mods_of r.walk))) (subst (Member f) shares i))

  abbrev L : ReadersView
  L = readers.left_of sets to_right (λ l. false) r

  abbrev K : ReadersView
  K = readers.right_of sets to_right (λ l. false) r

  pub sets_left : SetsReady (values.left_of shared to_right v) L
  sets_left =
      record {
        mine = λ m h.
            let q = member_filter (stays values_rule.ways shared to_right) h.0 v.mine h.1 in
            let b = and_is (not (shared h.0.of.slot)) (not (to_right h.0.of.slot)) q.1 in
            let slot : h.0.of.slot ≡ m.slot = ap (λ (z : Handle). z.slot) h.2 in
            let a = s.mine m (h.0, q.0, h.2) in (
              a.0,
              ⊎_elim
                  (λ (f : (f : SetView) × Member f told_sets × (f.of ≡ m.slot) × (length f.label ≤ length v.claims.branch)). side_shared L false refl refl refl m.slot f)
                  (λ (f : (sets m.slot ≡ false) × Member m.slot (mods_of r.walk)).
                  let t : to_right m.slot ≡ false = ap to_right (sym slot) ∙ not_is (to_right h.0.of.slot) b.1 in
                  inl (subst (Member m.slot) (sym (mods_filter (stays readers_rule.ways sets to_right) r.walk)) (filter_member (stays readers_rule.ways sets to_right) m.slot (mods_of r.walk) f.1 (rw (f.0, t) refl))))
                  (set_cases m.slot a.1),
            );
        known = side_known L false refl refl refl;
        spare = side_spare L false refl refl refl;
        labels = side_labels L false refl refl refl;
      }

  pub sets_right : SetsReady (values.right_of shared to_right v) K
  sets_right =
      record {
        mine = λ m h.
            let q = member_filter (goes values_rule.ways shared to_right) h.0 v.mine h.1 in
            let b = and_is (not (shared h.0.of.slot)) (to_right h.0.of.slot) q.1 in
            let slot : h.0.of.slot ≡ m.slot = ap (λ (z : Handle). z.slot) h.2 in
            let a = s.mine m (h.0, q.0, h.2) in (
              a.0,
              ⊎_elim
                  (λ (f : (f : SetView) × Member f told_sets × (f.of ≡ m.slot) × (length f.label ≤ length v.claims.branch)). side_shared K true refl refl refl m.slot f)
                  (λ (f : (sets m.slot ≡ false) × Member m.slot (mods_of r.walk)).
                  let t : to_right m.slot ≡ true = ap to_right (sym slot) ∙ b.1 in
                  inl (subst (Member m.slot) (sym (mods_filter (goes readers_rule.ways sets to_right) r.walk)) (filter_member (goes readers_rule.ways sets to_right) m.slot (mods_of r.walk) f.1 (rw (f.0, t) refl))))
                  (set_cases m.slot a.1),
            );
        known = side_known K true refl refl refl;
        spare = side_spare K true refl refl refl;
        labels = side_labels K true refl refl refl;
      }

-- after the join of both sides
module _ (l r j : ValueView) (lr rr jr : ReadersView) (b : List Bool) (lb : stem l.claims.branch ≡ b) (rb : stem lr.claims.branch ≡ b) (is : j ≡ values.joined l r) (ris : jr ≡ readers.joined lr rr) (shares : rr.shared ≡ lr.shared) (mods : rr.mods ≡ lr.mods) (sl : SetsReady l lr) (sr : SetsReady r rr) where
  walk_parts : mods_of jr.walk ≡ (mods_of lr.walk ++ mods_of rr.walk) ++ map readers_rule.ways.back (filter (comes_back readers_rule.ways b) lr.shared)
  walk_parts =
      ap (λ (z : ReadersView). mods_of z.walk) ris
      ∙ mods_append (lr.walk ++ rr.walk) (map readers.unknown (filter (comes_back readers_rule.ways (stem lr.claims.branch)) lr.shared))
      ∙ ap (λ z. z ++ mods_of (map readers.unknown (filter (comes_back readers_rule.ways (stem lr.claims.branch)) lr.shared))) (mods_append lr.walk rr.walk)
      ∙ ap (λ z. (mods_of lr.walk ++ mods_of rr.walk) ++ z) (mods_unknown (filter (comes_back readers_rule.ways (stem lr.claims.branch)) lr.shared))
      ∙ ap (λ c. (mods_of lr.walk ++ mods_of rr.walk) ++ map readers_rule.ways.back (filter (comes_back readers_rule.ways c) lr.shared)) rb

  shared_part : jr.shared ≡ filter (above readers_rule.ways b) lr.shared
  shared_part = ap (λ (z : ReadersView). z.shared) ris ∙ ap (λ c. filter (above readers_rule.ways c) lr.shared) rb

  from_shared : (n : ℕ) (f : SetView) → Member f lr.shared → f.of ≡ n → readers.Has n jr
  from_shared n f i e =
      elim (test_or (above readers_rule.ways b f)) [
        | inl t ↦ inr (f, subst (Member f) (sym shared_part) (filter_member (above readers_rule.ways b) f lr.shared i t), e)
        | inr t ↦
            inl (subst (Member n) (sym walk_parts)
            (member_right n (mods_of lr.walk ++ mods_of rr.walk) (map readers_rule.ways.back (filter (comes_back readers_rule.ways b) lr.shared))
            (subst (λ z. Member z (map readers_rule.ways.back (filter (comes_back readers_rule.ways b) lr.shared))) e
            (map_member readers_rule.ways.back f (filter (comes_back readers_rule.ways b) lr.shared) (filter_member (comes_back readers_rule.ways b) f lr.shared i (ap not t))))))
      ]

  from_walk : (n : ℕ) → Member n (mods_of lr.walk ++ mods_of rr.walk) → readers.Has n jr
  from_walk n i = inl (subst (Member n) (sym walk_parts) (member_left n (mods_of lr.walk ++ mods_of rr.walk) (map readers_rule.ways.back (filter (comes_back readers_rule.ways b) lr.shared)) i))

  jr_mods : jr.mods ≡ lr.mods
  jr_mods = ap (λ (z : ReadersView). z.mods) ris

  left_hand : (n : ℕ) → AtHand n lr → AtHand n jr
  left_hand n a = (
    subst (λ z. n < z) (sym jr_mods) a.0,
    ⊎_elim (λ (i : Member n (mods_of lr.walk)). from_walk n (member_left n (mods_of lr.walk) (mods_of rr.walk) i)) (λ (i : (f : SetView) × Member f lr.shared × (f.of ≡ n)). from_shared n i.0 i.1 i.2) a.1,
  )

  right_hand : (n : ℕ) → AtHand n rr → AtHand n jr
  right_hand n a = (
    subst (λ z. n < z) (sym (jr_mods ∙ sym mods)) a.0,
    ⊎_elim
        (λ (i : Member n (mods_of rr.walk)). from_walk n (member_right n (mods_of lr.walk) (mods_of rr.walk) i))
        (λ (i : (f : SetView) × Member f rr.shared × (f.of ≡ n)). from_shared n i.0 (subst (Member i.0) shares i.1) i.2)
        a.1,
  )

  pub sets_joined : SetsReady j jr
  sets_joined =
      record {
        mine = λ m h.
            let mine_is : j.mine ≡ (l.mine ++ r.mine) ++ map values_rule.ways.back (filter (comes_back values_rule.ways (stem l.claims.branch)) l.known) = ap (λ (z : ValueView). z.mine) is in
            ⊎_elim
            (λ (i : Member h.0 (l.mine ++ r.mine)).
            ⊎_elim (λ (x : Member h.0 l.mine). left_hand m.slot (sl.mine m (h.0, x, h.2))) (λ (x : Member h.0 r.mine). right_hand m.slot (sr.mine m (h.0, x, h.2))) (member_cases h.0 l.mine r.mine i))
            (λ (i : Member h.0 (map values_rule.ways.back (filter (comes_back values_rule.ways (stem l.claims.branch)) l.known))).
            let q = member_map values_rule.ways.back h.0 (filter (comes_back values_rule.ways (stem l.claims.branch)) l.known) i in
            let o = member_filter (comes_back values_rule.ways (stem l.claims.branch)) q.0 l.known q.1 in
            let slot : q.0.of.slot ≡ m.slot = ap (λ (z : OwnedView). z.of.slot) q.2 ∙ ap (λ (z : Handle). z.slot) h.2 in
            let k = sl.known q.0 o.0 in
            left_hand m.slot (subst (λ z. z < lr.mods) slot k.0, inr (k.1.0, k.1.1, k.1.2 ∙ slot)))
            (member_cases h.0 (l.mine ++ r.mine) (map values_rule.ways.back (filter (comes_back values_rule.ways (stem l.claims.branch)) l.known)) (subst (Member h.0) mine_is h.1));
        known = λ e i.
            let o = member_filter (above values_rule.ways (stem l.claims.branch)) e l.known (subst (Member e) (ap (λ (z : ValueView). z.known) is) i) in
            let k = sl.known e o.0 in
            let low : length e.label < length b = ltb-true (length e.label) (length b) (subst (λ z. ltb (length e.label) (length z) ≡ true) lb o.1) in
            let f = k.1.0 in
            let up : above readers_rule.ways b f ≡ true = lt-ltb (length f.label) (length b) (let x = k.1.3 in omega (arith, x, low)) in
            (subst (λ z. e.of.slot < z) (sym jr_mods) k.0, (f, subst (Member f) (sym shared_part) (filter_member (above readers_rule.ways b) f lr.shared k.1.1 up), k.1.2, k.1.3));
        spare = λ h i.
            let list : j.claims.list ≡ l.claims.list = ap (λ (z : ValueView). z.claims.list) is in
            let fixed : j.fixed ≡ l.fixed = ap (λ (z : ValueView). z.fixed) is in
            subst (λ n. AtHand (n + h.slot) jr) (sym fixed) (left_hand (l.fixed + h.slot) (sl.spare h (subst (Member h) list i)));
        labels = λ f i.
            let o = member_filter (above readers_rule.ways b) f lr.shared (subst (Member f) shared_part i) in
            let branch : jr.claims.branch ≡ b = ap (λ (z : ReadersView). z.claims.branch) ris ∙ rb in
            subst (λ z. length f.label < length z) (sym branch) (ltb-true (length f.label) (length b) o.1);
      }

-- nodes

-- what the pass had it has
pub has_on : (v u : MarksView) (a : List OwnView) → MoreNodes v u a → (x : ℕ) → marks_rule.Has (places v) x → marks_rule.Has (places u) x
has_on v u a m x h =
    ⊎_elim
    (λ (i : Member h.0 (map (marks_rule.own_place v.claims.branch) v.own)).
    let q = member_map (marks_rule.own_place v.claims.branch) h.0 v.own i in
    let e : Place = marks_rule.own_place u.claims.branch q.0 in
    (e, member_left e (map (marks_rule.own_place u.claims.branch) u.own) (map marks_rule.shared_place u.shared) (map_member (marks_rule.own_place u.claims.branch) q.0 u.own (m.has q.0 q.1)), ap (λ (z : Place). z.node.slot) q.2 ∙ h.2))
    (λ (i : Member h.0 (map marks_rule.shared_place v.shared)).
    (h.0, member_right h.0 (map (marks_rule.own_place u.claims.branch) u.own) (map marks_rule.shared_place u.shared) (subst (λ s. Member h.0 (map marks_rule.shared_place s)) (sym m.shared) i), h.2))
    (member_cases h.0 (map (marks_rule.own_place v.claims.branch) v.own) (map marks_rule.shared_place v.shared) h.1)

pub rooted_same : (v u : MarksView) → u.own ≡ v.own → u.shared ≡ v.shared → u.dropped ≡ v.dropped → u.claims.branch ≡ v.claims.branch → Rooted v → Rooted u
rooted_same v u own shared dropped branch r =
    let places_is : places u ≡ places v = ap (λ b. map (marks_rule.own_place b) u.own ++ map marks_rule.shared_place u.shared) branch ∙ ap (λ o. map (marks_rule.own_place v.claims.branch) o ++ map marks_rule.shared_place u.shared) own ∙ ap (λ s. map (marks_rule.own_place v.claims.branch) v.own ++ map marks_rule.shared_place s) shared in
    let keep : (x : ℕ) → IsKept v x → IsKept u x = λ x k. ap (times x) dropped ∙ k in
    record {
      kept = λ c p i k e.
          let b = r.kept c p (subst (Member c) own i) (sym (ap (times c.node.slot) dropped) ∙ k) e in
          (keep p b.0, subst (λ z. marks_rule.Has z p) (sym places_is) b.1);
      dropped = λ x d. subst (λ z. HasOwn z x) (sym own) (r.dropped x (subst (λ z. 0 < times x z) dropped d));
      shared = λ e i. keep e.node.slot (r.shared e (subst (Member e) shared i));
      labels = λ e i. subst (λ z. length e.label < length z) (sym branch) (r.labels e (subst (Member e) shared i));
    }

-- a new node below one that is kept
pub rooted_claimed : (v u : MarksView) (h : Handle) (par : Option Handle) → ClaimsNode v h (slot_of par) u → MoreNodes v u (record { node = h; parent = slot_of par } ∷ []) → ParentKept par v → Rooted v → Rooted u
rooted_claimed v u h par c m parent r =
    let dropped_is : u.dropped ≡ v.dropped = ap (λ (z : MarksView). z.dropped) c.becomes in
    let own_is : u.own ≡ record { node = h; parent = slot_of par } ∷ v.own = ap (λ (z : MarksView). z.own) c.becomes in
    let keep : (x : ℕ) → IsKept v x → IsKept u x = λ x k. ap (times x) dropped_is ∙ k in
    record {
      kept = λ o p i k e.
          let both : IsKept v p × marks_rule.Has (places v) p = ⊎_elim
          (λ (q : record { node = h; parent = slot_of par } ≡ o). of_parent par parent p (ap (λ (z : OwnView). z.parent) q ∙ e))
          (λ (q : Member o v.own). r.kept o p q (sym (ap (times o.node.slot) dropped_is) ∙ k) e)
          (subst (Member o) own_is i) in
          (keep p both.0, has_on v u (record { node = h; parent = slot_of par } ∷ []) m p both.1);
      dropped = λ x d. let o = r.dropped x (subst (λ z. 0 < times x z) dropped_is d) in (o.0, m.has o.0 o.1, o.2);
      shared = λ e i. keep e.node.slot (r.shared e (subst (Member e) m.shared i));
      labels = λ e i. subst (λ b. length e.label < length b) (sym m.branch) (r.labels e (subst (Member e) m.shared i));
    }
  where
    of_parent : (o : Option Handle) → ParentKept o v → (p : ℕ) → slot_of o ≡ Some p → IsKept v p × marks_rule.Has (places v) p
    of_parent None k p e = absurd cc
    of_parent (Some q) k p e = let s : q.slot ≡ p = some_is e in (subst (IsKept v) s k.3, (k.0, k.1, ap (λ (z : Handle). z.slot) k.2 ∙ s))

-- a division by which both sides have all that is kept
module _ (v : MarksView) (r : Rooted v) where
  abbrev S : ℕ → Bool
  S = both_have v

  abbrev N : ℕ → Bool
  N = λ x. false

  abbrev ML : MarksView
  ML = marks.left_of S N v

  abbrev MR : MarksView
  MR = marks.right_of S N v

  kept_shared : (x : ℕ) → IsKept v x → S x ≡ true
  kept_shared x k = ap (λ n. n == 0) k ∙ nat_same 0

  dropped_not : (x : ℕ) → IsDropped v x → S x ≡ false
  dropped_not x d = not_true (S x) (λ t. let e = nat_is (times x v.dropped) 0 t in omega (arith, d, e))

  shared_kept : (x : ℕ) → S x ≡ true → IsKept v x
  shared_kept x t = nat_is (times x v.dropped) 0 t

  and_no : (b : Bool) → (b && false) ≡ false
  and_no true = refl
  and_no false = refl

  over_none : (x : ℕ) → marks.goes_over S N v x ≡ false
  over_none x = ap (λ t. ltb 0 (times x (map marks_rule.ways.slot v.own)) && t) (and_no (not (S x))) ∙ and_no (ltb 0 (times x (map marks_rule.ways.slot v.own)))

  pub left_dropped : ML.dropped ≡ v.dropped
  left_dropped = keeps_all (λ y. not (marks.goes_over S N v y)) v.dropped (λ y i. ap not (over_none y))

  pub right_dropped : MR.dropped ≡ []
  right_dropped = none_of (marks.goes_over S N v) v.dropped over_none

  told_kept : (e : NodeView) → Member e (marks.now_shared S N v) → IsKept v e.node.slot
  told_kept e i =
      ⊎_elim
      (λ (j : Member e v.shared). r.shared e j)
      (λ (j : Member e (map (marks_rule.ways.lend v.claims.branch) (filter (lends marks_rule.ways S N) v.own))).
      let q = member_map (marks_rule.ways.lend v.claims.branch) e (filter (lends marks_rule.ways S N) v.own) j in
      let o = member_filter (lends marks_rule.ways S N) q.0 v.own q.1 in
      subst (IsKept v) (ap (λ (z : NodeView). z.node.slot) q.2) (shared_kept q.0.node.slot o.1))
      (member_cases e v.shared (map (marks_rule.ways.lend v.claims.branch) (filter (lends marks_rule.ways S N) v.own)) i)

  told_labels : (c : Bool) (e : NodeView) → Member e (marks.now_shared S N v) → length e.label < length (v.claims.branch ++ c ∷ [])
  told_labels c e i =
      let n = length-append v.claims.branch (c ∷ []) in
      ⊎_elim
      (λ (j : Member e v.shared). let l = r.labels e j in omega (arith, n, l))
      (λ (j : Member e (map (marks_rule.ways.lend v.claims.branch) (filter (lends marks_rule.ways S N) v.own))).
      let q = member_map (marks_rule.ways.lend v.claims.branch) e (filter (lends marks_rule.ways S N) v.own) j in
      let l : length e.label ≡ length v.claims.branch = ap (λ (z : NodeView). length z.label) (sym q.2) in
      omega (arith, n, l))
      (member_cases e v.shared (map (marks_rule.ways.lend v.claims.branch) (filter (lends marks_rule.ways S N) v.own)) i)

  pub rooted_left : Rooted ML
  rooted_left =
      record {
        kept = λ c p i k e.
            let q = member_filter (stays marks_rule.ways S N) c v.own i in
            let b = and_is (not (S c.node.slot)) (not false) q.1 in
            absurd (not_both (kept_shared c.node.slot (sym (ap (times c.node.slot) left_dropped) ∙ k)) (not_is (S c.node.slot) b.0));
        dropped = λ x d.
            let dv : IsDropped v x = subst (λ z. 0 < times x z) left_dropped d in
            let o = r.dropped x dv in
            let s : S o.0.node.slot ≡ false = ap S o.2 ∙ dropped_not x dv in
            (o.0, filter_member (stays marks_rule.ways S N) o.0 v.own o.1 (rw s refl), o.2);
        shared = λ e i. ap (times e.node.slot) left_dropped ∙ told_kept e i;
        labels = told_labels false;
      }

  pub rooted_right : Rooted MR
  rooted_right =
      record {
        kept = λ c p i k e.
            let q = member_filter (goes marks_rule.ways S N) c v.own i in
            let b = and_is (not (S c.node.slot)) false q.1 in
            absurd (not_both b.1 refl);
        dropped = λ x d. let z : 0 < times x [] = subst (λ y. 0 < times x y) right_dropped d in absurd (omega (arith, z));
        shared = λ e i. ap (times e.node.slot) right_dropped;
        labels = told_labels true;
      }

  -- a node that is kept both sides have
  pub told_place : (e : Place) → Member e (places v) → IsKept v e.node.slot → Member e (map marks_rule.shared_place (marks.now_shared S N v))
  told_place e i k =
      ⊎_elim
      (λ (j : Member e (map (marks_rule.own_place v.claims.branch) v.own)).
      let q = member_map (marks_rule.own_place v.claims.branch) e v.own j in
      let s : S q.0.node.slot ≡ true = kept_shared q.0.node.slot (subst (IsKept v) (sym (ap (λ (z : Place). z.node.slot) q.2)) k) in
      let lent : NodeView = marks_rule.ways.lend v.claims.branch q.0 in
      subst (λ z. Member z (map marks_rule.shared_place (marks.now_shared S N v))) q.2
      (map_member marks_rule.shared_place lent (marks.now_shared S N v)
      (member_right lent v.shared (map (marks_rule.ways.lend v.claims.branch) (filter (lends marks_rule.ways S N) v.own))
      (map_member (marks_rule.ways.lend v.claims.branch) q.0 (filter (lends marks_rule.ways S N) v.own) (filter_member (lends marks_rule.ways S N) q.0 v.own q.1 s)))))
      (λ (j : Member e (map marks_rule.shared_place v.shared)).
      let q = member_map marks_rule.shared_place e v.shared j in
      subst (λ z. Member z (map marks_rule.shared_place (marks.now_shared S N v))) q.2
      (map_member marks_rule.shared_place q.0 (marks.now_shared S N v) (member_left q.0 v.shared (map (marks_rule.ways.lend v.claims.branch) (filter (lends marks_rule.ways S N) v.own)) q.1)))
      (member_cases e (map (marks_rule.own_place v.claims.branch) v.own) (map marks_rule.shared_place v.shared) i)

  pub keeps_left : (h : Handle) → Keeps v h → Keeps ML h
  keeps_left h k =
      let kept : IsKept v k.0.node.slot = subst (IsKept v) (sym (ap (λ (z : Handle). z.slot) k.2)) k.3 in
      (k.0, member_right k.0 (map (marks_rule.own_place ML.claims.branch) ML.own) (map marks_rule.shared_place ML.shared) (told_place k.0 k.1 kept), k.2, ap (times h.slot) left_dropped ∙ k.3)

  pub keeps_right : (h : Handle) → Keeps v h → Keeps MR h
  keeps_right h k =
      let kept : IsKept v k.0.node.slot = subst (IsKept v) (sym (ap (λ (z : Handle). z.slot) k.2)) k.3 in
      (k.0, member_right k.0 (map (marks_rule.own_place MR.claims.branch) MR.own) (map marks_rule.shared_place MR.shared) (told_place k.0 k.1 kept), k.2, ap (times h.slot) right_dropped)

  -- after the join
  module _ (l k j : MarksView) (a b : List OwnView) (ml : MoreNodes ML l a) (mr : MoreNodes MR k b) (mj : MoreNodes v j (a ++ b)) (is : j ≡ marks.joined l k) (un : United l k j) (rl : Rooted l) (rr : Rooted k) where
    from_left : (x : ℕ) → IsKept l x → IsKept v x
    from_left x h = sym (ap (times x) left_dropped) ∙ sym (ml.dropped x) ∙ h

    to_left : (x : ℕ) → IsKept v x → IsKept l x
    to_left x h = ml.dropped x ∙ ap (times x) left_dropped ∙ h

    all_right : (x : ℕ) → IsKept k x
    all_right x = mr.dropped x ∙ ap (times x) right_dropped

    from_joined : (x : ℕ) → IsKept j x → IsKept v x
    from_joined x h = sym (mj.dropped x) ∙ h

    to_joined : (x : ℕ) → IsKept v x → IsKept j x
    to_joined x h = mj.dropped x ∙ h

    -- what the right side has isn't dropped
    right_place : (x : ℕ) → marks_rule.Has (places k) x → IsKept v x
    right_place x h =
        elim (test_or (S x)) [
          | inl t ↦ shared_kept x t
          | inr t ↦
              (let d : IsDropped v x = dropped_some x t in
              let o = r.dropped x d in
              let s : S o.0.node.slot ≡ false = ap S o.2 ∙ t in
              let here : Member o.0 l.own = ml.has o.0 (filter_member (stays marks_rule.ways S N) o.0 v.own o.1 (rw s refl)) in
              ⊎_elim
              (λ (i : Member h.0 (map (marks_rule.own_place k.claims.branch) k.own)).
              let q = member_map (marks_rule.own_place k.claims.branch) h.0 k.own i in
              absurd (un.right_alone q.0 q.1 (marks_rule.own_place l.claims.branch o.0) (member_left (marks_rule.own_place l.claims.branch o.0) (map (marks_rule.own_place l.claims.branch) l.own) (map marks_rule.shared_place l.shared) (map_member (marks_rule.own_place l.claims.branch) o.0 l.own here)) (o.2 ∙ sym h.2 ∙ sym (ap (λ (z : Place). z.node.slot) q.2))))
              (λ (i : Member h.0 (map marks_rule.shared_place k.shared)).
              let q = member_map marks_rule.shared_place h.0 k.shared i in
              subst (IsKept v) (ap (λ (z : Place). z.node.slot) q.2 ∙ h.2) (told_kept q.0 (subst (Member q.0) mr.shared q.1)))
              (member_cases h.0 (map (marks_rule.own_place k.claims.branch) k.own) (map marks_rule.shared_place k.shared) h.1))
        ]
      where
        some_of : (n : ℕ) → (n == 0) ≡ false → 0 < n
        some_of zero t = absurd (not_both (nat_same 0) t)
        some_of (suc n) t = omega arith

        dropped_some : (x : ℕ) → S x ≡ false → IsDropped v x
        dropped_some x t = some_of (times x v.dropped) t

    stem_left : stem l.claims.branch ≡ v.claims.branch
    stem_left = ap stem ml.branch ∙ stem_push v.claims.branch false

    -- what comes back was the pass's own
    back_own : (c : OwnView) (f : NodeView) → marks_rule.ways.back f ≡ c → comes_back marks_rule.ways (stem l.claims.branch) f ≡ true → Member f (marks.now_shared S N v) → Member c v.own
    back_own c f e t i =
        ⊎_elim
        (λ (x : Member f v.shared).
        let low = lt-ltb (length f.label) (length v.claims.branch) (r.labels f x) in
        absurd (not_both (subst (λ z. comes_back marks_rule.ways z f ≡ true) stem_left t) (ap not low)))
        (λ (x : Member f (map (marks_rule.ways.lend v.claims.branch) (filter (lends marks_rule.ways S N) v.own))).
        let q = member_map (marks_rule.ways.lend v.claims.branch) f (filter (lends marks_rule.ways S N) v.own) x in
        let o = member_filter (lends marks_rule.ways S N) q.0 v.own q.1 in
        subst (λ z. Member z v.own) (ap marks_rule.ways.back q.2 ∙ e) o.0)
        (member_cases f v.shared (map (marks_rule.ways.lend v.claims.branch) (filter (lends marks_rule.ways S N) v.own)) i)

    pub rooted_joined : Rooted j
    rooted_joined =
        record {
          kept = λ c p i h e.
              let own_is : j.own ≡ (l.own ++ k.own) ++ map marks_rule.ways.back (filter (comes_back marks_rule.ways (stem l.claims.branch)) l.shared) = ap (λ (z : MarksView). z.own) is in
              ⊎_elim
              (λ (x : Member c (l.own ++ k.own)).
              ⊎_elim
              (λ (y : Member c l.own). let q = rl.kept c p y (to_left c.node.slot (from_joined c.node.slot h)) e in (to_joined p (from_left p q.0), un.has p (inl q.1)))
              (λ (y : Member c k.own). let q = rr.kept c p y (all_right c.node.slot) e in (to_joined p (right_place p q.1), un.has p (inr q.1)))
              (member_cases c l.own k.own x))
              (λ (x : Member c (map marks_rule.ways.back (filter (comes_back marks_rule.ways (stem l.claims.branch)) l.shared))).
              let q = member_map marks_rule.ways.back c (filter (comes_back marks_rule.ways (stem l.claims.branch)) l.shared) x in
              let f = member_filter (comes_back marks_rule.ways (stem l.claims.branch)) q.0 l.shared q.1 in
              let old : Member c v.own = back_own c q.0 q.2 f.1 (subst (Member q.0) ml.shared f.0) in
              let w = r.kept c p old (from_joined c.node.slot h) e in
              (to_joined p w.0, has_on v j (a ++ b) mj p w.1))
              (member_cases c (l.own ++ k.own) (map marks_rule.ways.back (filter (comes_back marks_rule.ways (stem l.claims.branch)) l.shared)) (subst (Member c) own_is i));
          dropped = λ x d. let o = r.dropped x (subst (λ n. 0 < n) (mj.dropped x) d) in (o.0, mj.has o.0 o.1, o.2);
          shared = λ e i. to_joined e.node.slot (r.shared e (subst (Member e) mj.shared i));
          labels = λ e i. subst (λ z. length e.label < length z) (sym mj.branch) (r.labels e (subst (Member e) mj.shared i));
        }
