-- What a fork and a join make of what a pass has and knows.
use Rattle.std.proofs.Common.{◌≡◌, ◌≢◌, ◌⊎◌, ℕ, ◌+◌, ◌<◌, Bool, true, false, not, List, [], ◌∷◌, ◌++◌, map, length, refl, ap, sym, ◌∙◌, subst, inl, inr, ⊎_elim, arith, length-append}
use Rattle.std.specs.Prelude.{filter}
use Rattle.std.proofs.lemmas.Bool.{lt-ltb, ltb-true}
use Rattle.psac_ops.specs.declared.plain.Handle.{Handle}
use Rattle.psac_ops.specs.Value.{Value}
use Rattle.psac_slots.specs.Branches.{stem}
use Rattle.psac_slots.specs.Handles.{Member}
use Rattle.psac_slots.specs.Divided.{stays, goes, lends, above, comes_back}
use Rattle.psac_slots.proofs.Pairs.{member_left, member_right, member_cases, member_map, map_member, member_filter, filter_member}
use Rattle.psac_slots.proofs.Turns.{stem_push}
use Rattle.psac_values.specs.declared.view.OwnedView.{OwnedView}
use Rattle.psac_values.specs.declared.view.KnownView.{KnownView}
use Rattle.psac_values.specs.declared.view.ValueView.{ValueView}
use Rattle.psac_values.specs.Valued.{ways}
use Rattle.psac_values.specs.Steps.{left_of, right_of, now_known, joined}
use Rattle.psac_values.specs.Knowing.{Has, all_words, United}
use Rattle.psac_laws.proofs.Places.{test_or, not_both, not_true, and_is}
use Rattle.psac_trace.specs.Rights.{Sees, Shares, Tidy, Kept}

slot_at : (m n : Handle) → m ≡ n → m.slot ≡ n.slot
slot_at m n e = ap (λ (z : Handle). z.slot) e

abbrev pub lent : List Bool → OwnedView → KnownView
lent b w = ways.lend b w

module _ (shared to_right : ℕ → Bool) (v : ValueView) where
  abbrev Left : ValueView
  Left = left_of shared to_right v

  abbrev Right : ValueView
  Right = right_of shared to_right v

  abbrev told : List KnownView
  told = now_known shared to_right v

  pub left_has : (m : Handle) → Has v m → shared m.slot ≡ false → to_right m.slot ≡ false → Has Left m
  left_has m h p q =
      let e = slot_at h.0.of m h.2 in
      let a : shared h.0.of.slot ≡ false = ap shared e ∙ p in
      let b : to_right h.0.of.slot ≡ false = ap to_right e ∙ q in
      (h.0, filter_member (stays ways shared to_right) h.0 v.mine h.1 (rw (a, b) refl), h.2)

  pub right_has : (m : Handle) → Has v m → shared m.slot ≡ false → to_right m.slot ≡ true → Has Right m
  right_has m h p q =
      let e = slot_at h.0.of m h.2 in
      let a : shared h.0.of.slot ≡ false = ap shared e ∙ p in
      let b : to_right h.0.of.slot ≡ true = ap to_right e ∙ q in
      (h.0, filter_member (goes ways shared to_right) h.0 v.mine h.1 (rw (a, b) refl), h.2)

  not_is : (b : Bool) → not b ≡ true → b ≡ false
  not_is true h = absurd cc
  not_is false h = refl

  pub left_from : (m : Handle) → Has Left m → Has v m × (shared m.slot ≡ false) × (to_right m.slot ≡ false)
  left_from m h =
      let q = member_filter (stays ways shared to_right) h.0 v.mine h.1 in
      let b = and_is (not (shared h.0.of.slot)) (not (to_right h.0.of.slot)) q.1 in
      let e = slot_at h.0.of m h.2 in
      ((h.0, q.0, h.2), ap shared (sym e) ∙ not_is (shared h.0.of.slot) b.0, ap to_right (sym e) ∙ not_is (to_right h.0.of.slot) b.1)

  pub right_from : (m : Handle) → Has Right m → Has v m × (shared m.slot ≡ false) × (to_right m.slot ≡ true)
  right_from m h =
      let q = member_filter (goes ways shared to_right) h.0 v.mine h.1 in
      let b = and_is (not (shared h.0.of.slot)) (to_right h.0.of.slot) q.1 in
      let e = slot_at h.0.of m h.2 in
      ((h.0, q.0, h.2), ap shared (sym e) ∙ not_is (shared h.0.of.slot) b.0, ap to_right (sym e) ∙ b.1)

  pub lent_in : (w : OwnedView) → Member w v.mine → shared w.of.slot ≡ true → Member (lent v.claims.branch w) told
  lent_in w i s =
      member_right (lent v.claims.branch w) v.known (map (ways.lend v.claims.branch) (filter (lends ways shared to_right) v.mine))
      (map_member (ways.lend v.claims.branch) w (filter (lends ways shared to_right) v.mine) (filter_member (lends ways shared to_right) w v.mine i s))

  -- what both sides know: what was known, and what is lent
  pub told_cases : (e : KnownView) → Member e told → Member e v.known ⊎ ((w : OwnedView) × Member w v.mine × (shared w.of.slot ≡ true) × (lent v.claims.branch w ≡ e))
  told_cases e i =
      ⊎_elim
      (λ (a : Member e v.known). inl a)
      (λ (b : Member e (map (ways.lend v.claims.branch) (filter (lends ways shared to_right) v.mine))).
      let q = member_map (ways.lend v.claims.branch) e (filter (lends ways shared to_right) v.mine) b in
      let f = member_filter (lends ways shared to_right) q.0 v.mine q.1 in
      inr (q.0, f.0, f.1, q.2))
      (member_cases e v.known (map (ways.lend v.claims.branch) (filter (lends ways shared to_right) v.mine)) i)

  pub told_known : (e : KnownView) → Member e v.known → Member e told
  told_known e i = member_left e v.known (map (ways.lend v.claims.branch) (filter (lends ways shared to_right) v.mine)) i

  -- what goes to neither side alone both see
  pub see_told : (u : ValueView) → u.known ≡ told → (m : Handle) (x : Value Handle) → Sees v m x → ((w : OwnedView) → Member w v.mine → w.of ≡ m → (shared w.of.slot ≡ true) ⊎ Member w u.mine) → Sees u m x
  see_told u k m x s f = (
    s.0,
    s.1,
    ⊎_elim
        (λ (a : (w : OwnedView) × Member w v.mine × (w.of ≡ m) × (w.words ≡ all_words s.0)). ⊎_elim
        (λ (t : shared a.0.of.slot ≡ true). inr (lent v.claims.branch a.0, subst (Member (lent v.claims.branch a.0)) (sym k) (lent_in a.0 a.1 t), a.2, a.3))
        (λ (i : Member a.0 u.mine). inl (a.0, i, a.2, a.3))
        (f a.0 a.1 a.2))
        (λ (a : (e : KnownView) × Member e v.known × (e.of ≡ m) × (e.words ≡ all_words s.0)). inr (a.0, subst (Member a.0) (sym k) (told_known a.0 a.1), a.2, a.3))
        s.2,
    s.3,
    s.4,
  )

  pub left_sees : (m : Handle) (x : Value Handle) → Sees v m x → (Has v m → to_right m.slot ≡ false) → Sees Left m x
  left_sees m x s f =
      see_told Left refl m x s (λ w i e.
      ⊎_elim
      (λ (t : shared w.of.slot ≡ true). inl t)
      (λ (t : shared w.of.slot ≡ false).
      let r : to_right w.of.slot ≡ false = ap to_right (slot_at w.of m e) ∙ f (w, i, e) in
      inr (filter_member (stays ways shared to_right) w v.mine i (rw (t, r) refl)))
      (test_or (shared w.of.slot)))

  pub right_sees : (m : Handle) (x : Value Handle) → Sees v m x → (Has v m → shared m.slot ≡ false → to_right m.slot ≡ true) → Sees Right m x
  right_sees m x s f =
      see_told Right refl m x s (λ w i e.
      ⊎_elim
      (λ (t : shared w.of.slot ≡ true). inl t)
      (λ (t : shared w.of.slot ≡ false).
      let z = slot_at w.of m e in
      let r : to_right w.of.slot ≡ true = ap to_right z ∙ f (w, i, e) (ap shared (sym z) ∙ t) in
      inr (filter_member (goes ways shared to_right) w v.mine i (rw (t, r) refl)))
      (test_or (shared w.of.slot)))

  module _ (t : Tidy v) where
    -- what both sides know is tidy beside what one keeps
    side_tidy : (u : ValueView) (c : Bool) → u.known ≡ told → u.claims.branch ≡ v.claims.branch ++ c ∷ [] → ((m : Handle) → Has u m → Has v m × (shared m.slot ≡ false)) → Tidy u
    side_tidy u c k b from =
        let cases : (n : Handle) → Shares u n → Shares v n ⊎ (Has v n × (shared n.slot ≡ true)) = λ n s. ⊎_elim
        (λ (a : Member s.0 v.known). inl (s.0, a, s.2))
        (λ (a : (w : OwnedView) × Member w v.mine × (shared w.of.slot ≡ true) × (lent v.claims.branch w ≡ s.0)).
        let of : a.0.of ≡ n = ap (λ (z : KnownView). z.of) a.3 ∙ s.2 in
        inr ((a.0, a.1, of), ap shared (sym (slot_at a.0.of n of)) ∙ a.2))
        (told_cases s.0 (subst (Member s.0) k s.1)) in
        record {
          single = λ m n h g e. t.single m n (from m h).0 (from n g).0 e;
          apart = λ m n h s e. ⊎_elim
              (λ (a : Shares v n). t.apart m n (from m h).0 a e)
              (λ (a : Has v n × (shared n.slot ≡ true)). not_both a.1 (ap shared (sym e) ∙ (from m h).1))
              (cases n s);
          one = λ m n s r e. ⊎_elim
              (λ (a : Shares v m). ⊎_elim
              (λ (d : Shares v n). t.one m n a d e)
              (λ (d : Has v n × (shared n.slot ≡ true)). absurd (t.apart n m d.0 a (sym e)))
              (cases n r))
              (λ (a : Has v m × (shared m.slot ≡ true)). ⊎_elim
              (λ (d : Shares v n). absurd (t.apart m n a.0 d e))
              (λ (d : Has v n × (shared n.slot ≡ true)). t.single m n a.0 d.0 e)
              (cases n r))
              (cases m s);
          labels = λ e i.
              let l : length u.claims.branch ≡ length v.claims.branch + 1 = ap length b ∙ length-append v.claims.branch (c ∷ []) in
              ⊎_elim
              (λ (a : Member e v.known). let z = t.labels e a in omega (arith, z, l))
              (λ (a : (w : OwnedView) × Member w v.mine × (shared w.of.slot ≡ true) × (lent v.claims.branch w ≡ e)).
              let z : length v.claims.branch ≡ length e.label = ap (λ (y : KnownView). length y.label) a.3 in
              omega (arith, z, l))
              (told_cases e (subst (Member e) k i));
        }

    pub left_tidy : Tidy Left
    left_tidy = side_tidy Left false refl refl (λ m h. let f = left_from m h in (f.0, f.1))

    pub right_tidy : Tidy Right
    right_tidy = side_tidy Right true refl refl (λ m h. let f = right_from m h in (f.0, f.1))

    filter_keeps : {A : Type 0} (f : A → Bool) (xs ys : List A) → ((x : A) → Member x xs → f x ≡ true) → filter f (xs ++ ys) ≡ xs ++ filter f ys
    filter_keeps f [] ys h = refl
    filter_keeps f (x ∷ xs) ys h = rw (h x (inl refl)) (ap (λ z. x ∷ z) (filter_keeps f xs ys (λ y i. h y (inr i))))

    filter_drops : {A : Type 0} (f : A → Bool) (xs : List A) → ((x : A) → Member x xs → f x ≡ false) → filter f xs ≡ []
    filter_drops f [] h = refl
    filter_drops f (x ∷ xs) h = rw (h x (inl refl)) (filter_drops f xs (λ y i. h y (inr i)))

    module _ (l r j : ValueView) (kl : Kept Left l) (kr : Kept Right r) (is : j ≡ joined l r) (un : United l r j) where
      stem_is : stem l.claims.branch ≡ v.claims.branch
      stem_is = ap stem kl.branch ∙ stem_push v.claims.branch false

      is_above : (e : KnownView) → Member e v.known → above ways v.claims.branch e ≡ true
      is_above e i = lt-ltb (length e.label) (length v.claims.branch) (t.labels e i)

      is_lent : (e : KnownView) → Member e (map (ways.lend v.claims.branch) (filter (lends ways shared to_right) v.mine)) → above ways v.claims.branch e ≡ false
      is_lent e i =
          let q = member_map (ways.lend v.claims.branch) e (filter (lends ways shared to_right) v.mine) i in
          let z : length v.claims.branch ≡ length e.label = ap (λ (y : KnownView). length y.label) q.2 in
          not_true (above ways v.claims.branch e) (λ b. let k = ltb-true (length e.label) (length v.claims.branch) b in omega (arith, k, z))

      -- what was known before is known again, and no more
      pub joined_known : j.known ≡ v.known
      joined_known =
          ap (λ (z : ValueView). z.known) is
          ∙ ap (λ b. filter (above ways b) l.known) stem_is
          ∙ ap (filter (above ways v.claims.branch)) kl.known
          ∙ filter_keeps (above ways v.claims.branch) v.known (map (ways.lend v.claims.branch) (filter (lends ways shared to_right) v.mine)) is_above
          ∙ ap (λ z. v.known ++ z) (filter_drops (above ways v.claims.branch) (map (ways.lend v.claims.branch) (filter (lends ways shared to_right) v.mine)) is_lent)
          ∙ append_none v.known
        where
          append_none : {A : Type 0} (xs : List A) → xs ++ [] ≡ xs
          append_none [] = refl
          append_none (x ∷ xs) = ap (λ z. x ∷ z) (append_none xs)

      pub joined_branch : j.claims.branch ≡ v.claims.branch
      joined_branch = ap (λ (z : ValueView). z.claims.branch) is ∙ stem_is

      mine_is : j.mine ≡ (l.mine ++ r.mine) ++ map ways.back (filter (comes_back ways v.claims.branch) told)
      mine_is =
          ap (λ (z : ValueView). z.mine) is
          ∙ ap (λ b. (l.mine ++ r.mine) ++ map ways.back (filter (comes_back ways b) l.known)) stem_is
          ∙ ap (λ k. (l.mine ++ r.mine) ++ map ways.back (filter (comes_back ways v.claims.branch) k)) kl.known

      pub joined_cases : (m : Handle) → Has j m → Has l m ⊎ (Has r m ⊎ (Has v m × (shared m.slot ≡ true)))
      joined_cases m h =
          let back = map ways.back (filter (comes_back ways v.claims.branch) told) in
          ⊎_elim
          (λ (a : Member h.0 (l.mine ++ r.mine)). ⊎_elim
          (λ (b : Member h.0 l.mine). inl (h.0, b, h.2))
          (λ (b : Member h.0 r.mine). inr (inl (h.0, b, h.2)))
          (member_cases h.0 l.mine r.mine a))
          (λ (a : Member h.0 back).
          let q = member_map ways.back h.0 (filter (comes_back ways v.claims.branch) told) a in
          let f = member_filter (comes_back ways v.claims.branch) q.0 told q.1 in
          let of : q.0.of ≡ m = ap (λ (z : OwnedView). z.of) q.2 ∙ h.2 in
          ⊎_elim
          (λ (k : Member q.0 v.known). absurd (not_both (is_above q.0 k) (not_is (above ways v.claims.branch q.0) f.1)))
          (λ (k : (w : OwnedView) × Member w v.mine × (shared w.of.slot ≡ true) × (lent v.claims.branch w ≡ q.0)).
          let same : k.0.of ≡ m = ap (λ (z : KnownView). z.of) k.3 ∙ of in
          inr (inr ((k.0, k.1, same), ap shared (sym (slot_at k.0.of m same)) ∙ k.2)))
          (told_cases q.0 f.0))
          (member_cases h.0 (l.mine ++ r.mine) back (subst (Member h.0) mine_is h.1))

      pub joined_has : (m : Handle) → Has v m → Has j m
      joined_has m h =
          ⊎_elim
          (λ (s : shared m.slot ≡ true).
          let e = lent v.claims.branch h.0 in
          let i : Member e told = lent_in h.0 h.1 (ap shared (slot_at h.0.of m h.2) ∙ s) in
          let gone : above ways v.claims.branch e ≡ false = not_true (above ways v.claims.branch e) (λ b. let k = ltb-true (length v.claims.branch) (length v.claims.branch) b in omega (arith, k)) in
          let back = map ways.back (filter (comes_back ways v.claims.branch) told) in
          let k : Member (ways.back e) back = map_member ways.back e (filter (comes_back ways v.claims.branch) told) (filter_member (comes_back ways v.claims.branch) e told i (ap not gone)) in
          (ways.back e, subst (Member (ways.back e)) (sym mine_is) (member_right (ways.back e) (l.mine ++ r.mine) back k), h.2))
          (λ (s : shared m.slot ≡ false). ⊎_elim
          (λ (q : to_right m.slot ≡ true). un.has m (inr (kr.mine m (right_has m h s q))))
          (λ (q : to_right m.slot ≡ false). un.has m (inl (kl.mine m (left_has m h s q))))
          (test_or (to_right m.slot)))
          (test_or (shared m.slot))

      pub shares_left : (n : Handle) → Shares v n → Shares l n
      shares_left n s = (s.0, subst (Member s.0) (sym kl.known) (told_known s.0 s.1), s.2)

      pub lent_left : (n : Handle) → Has v n → shared n.slot ≡ true → Shares l n
      lent_left n h s = (lent v.claims.branch h.0, subst (Member (lent v.claims.branch h.0)) (sym kl.known) (lent_in h.0 h.1 (ap shared (slot_at h.0.of n h.2) ∙ s)), h.2)

      -- what one side has the other lacks
      pub left_right : (m n : Handle) → Has l m → Has r n → m.slot ≢ n.slot
      left_right m n h g e = (un.left_alone h.0 h.1).mine g.0 g.1 (slot_at g.0.of n g.2 ∙ sym e ∙ sym (slot_at h.0.of m h.2))

      pub right_shares : (m n : Handle) → Has r m → Shares l n → m.slot ≢ n.slot
      right_shares m n h s e = (un.right_alone h.0 h.1).known s.0 s.1 (slot_at s.0.of n s.2 ∙ sym e ∙ sym (slot_at h.0.of m h.2))

      pub joined_tidy : Tidy j
      joined_tidy =
          let back : (n : Handle) → Shares j n → Shares v n = λ n s. (s.0, subst (Member s.0) joined_known s.1, s.2) in
          record {
            single = λ m n h g e. ⊎_elim
                (λ (a : Has l m). ⊎_elim
                (λ (b : Has l n). kl.tidy.single m n a b e)
                (λ (b : Has r n ⊎ (Has v n × (shared n.slot ≡ true))). ⊎_elim
                (λ (d : Has r n). absurd (left_right m n a d e))
                (λ (d : Has v n × (shared n.slot ≡ true)). absurd (kl.tidy.apart m n a (lent_left n d.0 d.1) e)) b)
                (joined_cases n g))
                (λ (a : Has r m ⊎ (Has v m × (shared m.slot ≡ true))). ⊎_elim
                (λ (c : Has r m). ⊎_elim
                (λ (b : Has l n). absurd (left_right n m b c (sym e)))
                (λ (b : Has r n ⊎ (Has v n × (shared n.slot ≡ true))). ⊎_elim
                (λ (d : Has r n). kr.tidy.single m n c d e)
                (λ (d : Has v n × (shared n.slot ≡ true)). absurd (right_shares m n c (lent_left n d.0 d.1) e)) b)
                (joined_cases n g))
                (λ (c : Has v m × (shared m.slot ≡ true)). ⊎_elim
                (λ (b : Has l n). absurd (kl.tidy.apart n m b (lent_left m c.0 c.1) (sym e)))
                (λ (b : Has r n ⊎ (Has v n × (shared n.slot ≡ true))). ⊎_elim
                (λ (d : Has r n). absurd (right_shares n m d (lent_left m c.0 c.1) (sym e)))
                (λ (d : Has v n × (shared n.slot ≡ true)). t.single m n c.0 d.0 e) b)
                (joined_cases n g)) a)
                (joined_cases m h);
            apart = λ m n h s e. ⊎_elim
                (λ (a : Has l m). kl.tidy.apart m n a (shares_left n (back n s)) e)
                (λ (a : Has r m ⊎ (Has v m × (shared m.slot ≡ true))). ⊎_elim
                (λ (c : Has r m). right_shares m n c (shares_left n (back n s)) e)
                (λ (c : Has v m × (shared m.slot ≡ true)). t.apart m n c.0 (back n s) e) a)
                (joined_cases m h);
            one = λ m n s r e. t.one m n (back m s) (back n r) e;
            labels = λ e i. subst (λ z. length e.label < length z) (sym joined_branch) (t.labels e (subst (Member e) joined_known i));
          }

      pub joined_kept : Kept v j
      joined_kept = record { branch = joined_branch; fixed = ap (λ (z : ValueView). z.fixed) is ∙ kl.fixed; known = joined_known; mine = joined_has; tidy = joined_tidy }

      sees_joined : (m : Handle) (x : Value Handle) → Sees l m x ⊎ Sees r m x → Sees j m x
      sees_joined m x s = ⊎_elim
          (λ (a : Sees l m x). (a.0, a.1, un.knows m a.0 (inl a.2), a.3, a.4))
          (λ (a : Sees r m x). (a.0, a.1, un.knows m a.0 (inr a.2), a.3, a.4))
          s

      pub joined_sees_left : (m : Handle) (x : Value Handle) → Sees l m x → Sees j m x
      joined_sees_left m x s = sees_joined m x (inl s)

      pub joined_sees_right : (m : Handle) (x : Value Handle) → Sees r m x → Sees j m x
      joined_sees_right m x s = sees_joined m x (inr s)

      -- what the left side has the right one doesn't see, and the other way round
      pub left_unseen : {X : Type 0} (m : Handle) (x : Value Handle) → Has l m → Sees r m x → X
      left_unseen m x h s = ⊎_elim
          (λ (a : (w : OwnedView) × Member w r.mine × (w.of ≡ m) × (w.words ≡ all_words s.0)). absurd (left_right m m h (a.0, a.1, a.2) refl))
          (λ (a : (e : KnownView) × Member e r.known × (e.of ≡ m) × (e.words ≡ all_words s.0)). absurd ((un.left_alone h.0 h.1).known a.0 a.1 (slot_at a.0.of m a.2 ∙ sym (slot_at h.0.of m h.2))))
          s.2

      pub right_unseen : {X : Type 0} (m : Handle) (x : Value Handle) → Has r m → Sees l m x → X
      right_unseen m x h s = ⊎_elim
          (λ (a : (w : OwnedView) × Member w l.mine × (w.of ≡ m) × (w.words ≡ all_words s.0)). absurd (left_right m m (a.0, a.1, a.2) h refl))
          (λ (a : (e : KnownView) × Member e l.known × (e.of ≡ m) × (e.words ≡ all_words s.0)). absurd (right_shares m m h (a.0, a.1, a.2) refl))
          s.2
