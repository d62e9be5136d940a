-- What a claim and a write make of what a pass has and knows.
use Rattle.std.proofs.Common.{◌≡◌, ◌≢◌, ◌⊎◌, ℕ, ◌==◌, ◌<◌, true, false, List, [], ◌∷◌, ◌++◌, map, length, Some, refl, ap, sym, ◌∙◌, subst, inl, inr, ⊎_elim}
use Rattle.std.specs.Prelude.{cond}
use Rattle.psac_ops.specs.declared.plain.Handle.{Handle}
use Rattle.psac_ops.specs.declared.plain.Plain.{Plain}
use Rattle.psac_ops.specs.declared.plain.Plain.TheVariants as plain
use Rattle.psac_ops.specs.Value.{Value, nil, bool, int, text, ref, pair}
use Rattle.psac_ops.specs.Named.{value_of}
use Rattle.psac_ops.specs.Words.{of_words, words_of}
use Rattle.psac_slots.specs.Handles.{Member}
use Rattle.psac_slots.proofs.Pairs.{member_left, member_right, member_cases, member_map, map_member}
use Rattle.psac_values.specs.declared.view.OwnedView.{OwnedView}
use Rattle.psac_values.specs.declared.view.KnownView.{KnownView}
use Rattle.psac_values.specs.declared.view.ValueView.{ValueView}
use Rattle.psac_values.specs.Steps.{Lacks, new_owned}
use Rattle.psac_values.specs.Knowing.{Has, Claims, three_of, all_words, rewritten, wrote}
use Rattle.psac_laws.proofs.Places.{nat_is, nat_same, not_true}
use Rattle.psac_trace.specs.Rights.{Sees, Shares, Tidy, Kept}
use Rattle.psac_trace.specs.Asking.{Looked}

pub kept_same : (v : ValueView) → Tidy v → Kept v v
kept_same v t = record { branch = refl; fixed = refl; known = refl; mine = λ m h. h; tidy = t }

pub kept_then : (v u x : ValueView) → Kept v u → Kept u x → Kept v x
kept_then v u x a b =
    record { branch = b.branch ∙ a.branch; fixed = b.fixed ∙ a.fixed; known = b.known ∙ a.known; mine = λ m h. b.mine m (a.mine m h); tidy = b.tidy }

pub tidy_looked : (v u : ValueView) → Looked v u → Tidy v → Tidy u
tidy_looked v u l t = subst Tidy (sym l.1) (record { single = t.single; apart = t.apart; one = t.one; labels = t.labels })

pub kept_looked : (v u : ValueView) → Looked v u → Tidy v → Kept v u
kept_looked v u l t =
    record {
      branch = ap (λ (z : ValueView). z.claims.branch) l.1;
      fixed = ap (λ (z : ValueView). z.fixed) l.1;
      known = ap (λ (z : ValueView). z.known) l.1;
      mine = λ m h. subst (λ z. Has z m) (sym l.1) h;
      tidy = tidy_looked v u l t;
    }

module _ (v u : ValueView) (m : Handle) (c : Claims v m u) (l : Lacks v m.slot) where
  abbrev new_one : OwnedView
  new_one = new_owned v.fixed c.1

  pub mine_is : u.mine ≡ v.mine ++ new_one ∷ []
  mine_is = ap (λ (z : ValueView). z.mine) c.5 ∙ ap (λ es. v.mine ++ map (new_owned v.fixed) es) c.3

  pub known_is : u.known ≡ v.known
  known_is = ap (λ (z : ValueView). z.known) c.5

  branch_is : u.claims.branch ≡ v.claims.branch
  branch_is = ap (λ (z : ValueView). z.claims.branch) c.5

  pub claimed_has : Has u m
  claimed_has = (new_one, subst (Member new_one) (sym mine_is) (member_right new_one v.mine (new_one ∷ []) (inl refl)), sym c.4)

  pub claimed_old : (k : Handle) → Has v k → Has u k
  claimed_old k h = (h.0, subst (Member h.0) (sym mine_is) (member_left h.0 v.mine (new_one ∷ []) h.1), h.2)

  pub claimed_cases : (k : Handle) → Has u k → (m ≡ k) ⊎ Has v k
  claimed_cases k h =
      ⊎_elim
      (λ (a : Member h.0 v.mine). inr (h.0, a, h.2))
      (λ (b : Member h.0 (new_one ∷ [])). ⊎_elim (λ (e : new_one ≡ h.0). inl (c.4 ∙ ap (λ (z : OwnedView). z.of) e ∙ h.2)) (λ (x : ⊥). absurd x) b)
      (member_cases h.0 v.mine (new_one ∷ []) (subst (Member h.0) mine_is h.1))

  pub claimed_shares : (k : Handle) → Shares u k → Shares v k
  claimed_shares k s = (s.0, subst (Member s.0) known_is s.1, s.2)

  pub claimed_sees : (k : Handle) (x : Value Handle) → Sees v k x → Sees u k x
  claimed_sees k x s = (
    s.0,
    s.1,
    ⊎_elim
        (λ (a : (w : OwnedView) × Member w v.mine × (w.of ≡ k) × (w.words ≡ all_words s.0)). inl (a.0, subst (Member a.0) (sym mine_is) (member_left a.0 v.mine (new_one ∷ []) a.1), a.2, a.3))
        (λ (a : (e : KnownView) × Member e v.known × (e.of ≡ k) × (e.words ≡ all_words s.0)). inr (a.0, subst (Member a.0) (sym known_is) a.1, a.2, a.3))
        s.2,
    s.3,
    s.4,
  )

  -- the claimed slot is one that the pass neither had nor knew
  pub not_had : (k : Handle) → Has v k → k.slot ≢ m.slot
  not_had k h e = l.mine h.0 h.1 (ap (λ (z : Handle). z.slot) h.2 ∙ e)

  pub not_shared : (k : Handle) → Shares v k → k.slot ≢ m.slot
  not_shared k h e = l.known h.0 h.1 (ap (λ (z : Handle). z.slot) h.2 ∙ e)

  pub not_seen : {X : Type 0} (x : Value Handle) → Sees v m x → X
  not_seen x s =
      ⊎_elim
      (λ (a : (w : OwnedView) × Member w v.mine × (w.of ≡ m) × (w.words ≡ all_words s.0)). absurd (not_had m (a.0, a.1, a.2) refl))
      (λ (a : (e : KnownView) × Member e v.known × (e.of ≡ m) × (e.words ≡ all_words s.0)). absurd (not_shared m (a.0, a.1, a.2) refl))
      s.2

  pub claimed_tidy : Tidy v → Tidy u
  claimed_tidy t =
      record {
        single = λ a b h k e.
            ⊎_elim
            (λ (p : m ≡ a). ⊎_elim
            (λ (q : m ≡ b). sym p ∙ q)
            (λ (q : Has v b). absurd (not_had b q (sym e ∙ ap (λ (z : Handle). z.slot) (sym p))))
            (claimed_cases b k))
            (λ (p : Has v a). ⊎_elim
            (λ (q : m ≡ b). absurd (not_had a p (e ∙ ap (λ (z : Handle). z.slot) (sym q))))
            (λ (q : Has v b). t.single a b p q e)
            (claimed_cases b k))
            (claimed_cases a h);
        apart = λ a b h k e.
            ⊎_elim
            (λ (p : m ≡ a). not_shared b (claimed_shares b k) (sym e ∙ ap (λ (z : Handle). z.slot) (sym p)))
            (λ (p : Has v a). t.apart a b p (claimed_shares b k) e)
            (claimed_cases a h);
        one = λ a b h k e. t.one a b (claimed_shares a h) (claimed_shares b k) e;
        labels = λ e i. subst (λ z. length e.label < length z) (sym branch_is) (t.labels e (subst (Member e) known_is i));
      }

  pub claimed_kept : Tidy v → Kept v u
  claimed_kept t = record { branch = branch_is; fixed = ap (λ (z : ValueView). z.fixed) c.5; known = known_is; mine = claimed_old; tidy = claimed_tidy t }

-- what is known of the same words
pub sees_same : (v u : ValueView) → u.mine ≡ v.mine → u.known ≡ v.known → (m : Handle) (x : Value Handle) → Sees v m x → Sees u m x
sees_same v u mine known m x s = (
  s.0,
  s.1,
  ⊎_elim
      (λ (a : (w : OwnedView) × Member w v.mine × (w.of ≡ m) × (w.words ≡ all_words s.0)). inl (a.0, subst (Member a.0) (sym mine) a.1, a.2, a.3))
      (λ (a : (e : KnownView) × Member e v.known × (e.of ≡ m) × (e.words ≡ all_words s.0)). inr (a.0, subst (Member a.0) (sym known) a.1, a.2, a.3))
      s.2,
  s.3,
  s.4,
)

plain_of : Value Handle → Plain
plain_of nil = plain.Nil
plain_of (bool b) = plain.Bool b
plain_of (int i) = plain.Int i
plain_of (text id len) = plain.Text (record { id = id; len = len })
plain_of (ref m) = plain.Ref m
plain_of (pair m n) = plain.Pair m n

plain_back : (p : Plain) → plain_of (value_of p) ≡ p
unfolding plain_of
plain_back plain.Nil = refl
plain_back (plain.Bool b) = refl
plain_back (plain.Int i) = refl
plain_back (plain.Text t) = refl
plain_back (plain.Ref h) = refl
plain_back (plain.Pair g h) = refl

-- no two plain values are the same value
pub value_is : (p q : Plain) → value_of p ≡ value_of q → p ≡ q
value_is p q e = sym (plain_back p) ∙ ap plain_of e ∙ plain_back q

pub three_is : (p : Plain) → of_words (three_of (words_of p)) ≡ of_words (words_of p)
three_is plain.Nil = refl
three_is (plain.Bool b) = refl
three_is (plain.Int i) = refl
three_is (plain.Text t) = refl
three_is (plain.Ref h) = refl
three_is (plain.Pair g h) = refl

module _ (v : ValueView) (m : Handle) (ws : List ℕ) (t : Tidy v) (mine : Has v m) where
  abbrev after : ValueView
  after = wrote m.slot ws v

  pub wrote_has : (k : Handle) → Has v k → Has after k
  wrote_has k h = (rewritten m.slot ws h.0, map_member (rewritten m.slot ws) h.0 v.mine h.1, h.2)

  pub wrote_from : (k : Handle) → Has after k → Has v k
  wrote_from k h = let q = member_map (rewritten m.slot ws) h.0 v.mine h.1 in (q.0, q.1, ap (λ (z : OwnedView). z.of) q.2 ∙ h.2)

  pub wrote_here : (p : Plain) → of_words ws ≡ Some p → Sees after m (value_of p)
  wrote_here p e =
      let h : OwnedView = mine.0 in
      let here : (h.of.slot == m.slot) ≡ true = ap (λ (z : Handle). z.slot == m.slot) mine.2 ∙ nat_same m.slot in
      (ws, p, inl (rewritten m.slot ws h, map_member (rewritten m.slot ws) h v.mine mine.1, mine.2, ap (λ b. cond b (all_words ws) h.words) here), e, refl)

  pub wrote_else : (k : Handle) (x : Value Handle) → m ≢ k → Sees v k x → Sees after k x
  wrote_else k x d s = (
    s.0,
    s.1,
    ⊎_elim
        (λ (a : (w : OwnedView) × Member w v.mine × (w.of ≡ k) × (w.words ≡ all_words s.0)).
        let far : (a.0.of.slot == m.slot) ≡ false = not_true (a.0.of.slot == m.slot) (λ e. d (t.single m k mine (a.0, a.1, a.2) (sym (nat_is a.0.of.slot m.slot e) ∙ ap (λ (z : Handle). z.slot) a.2))) in
        inl (rewritten m.slot ws a.0, map_member (rewritten m.slot ws) a.0 v.mine a.1, a.2, ap (λ b. cond b (all_words ws) a.0.words) far ∙ a.3))
        (λ (a : (e : KnownView) × Member e v.known × (e.of ≡ k) × (e.words ≡ all_words s.0)). inr a)
        s.2,
    s.3,
    s.4,
  )

  pub wrote_tidy : Tidy after
  wrote_tidy =
      record {
        single = λ a b h k e. t.single a b (wrote_from a h) (wrote_from b k) e;
        apart = λ a b h k e. t.apart a b (wrote_from a h) k e;
        one = t.one;
        labels = t.labels;
      }

  pub wrote_kept : Kept v after
  wrote_kept = record { branch = refl; fixed = refl; known = refl; mine = wrote_has; tidy = wrote_tidy }
