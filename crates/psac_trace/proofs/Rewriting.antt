-- Which words are written, and which are known as before: over one call after another, and over both sides of a fork.
use Rattle.std.specs.Prelude.{cond}
use Rattle.std.proofs.Common.{◌≡◌, ◌⊎◌, ℕ, ◌==◌, Bool, true, List, [], ◌∷◌, ◌++◌, map, refl, ap, sym, ◌∙◌, subst, inl, inr, ⊎_elim}
use Rattle.std.specs.Prelude.{filter}
use Rattle.psac_ops.specs.declared.plain.Handle.{Handle}
use Rattle.psac_ops.specs.declared.plain.Plain.{Plain}
use Rattle.psac_ops.specs.declared.plain.Plain.TheVariants as plain
use Rattle.psac_ops.specs.Words.{words_of}
use Rattle.psac_slots.specs.Handles.{Member}
use Rattle.psac_slots.specs.Divided.{stays, goes, told, comes_back}
use Rattle.psac_slots.proofs.Pairs.{member_left, member_right, member_cases, member_map, member_filter}
use Rattle.psac_values.specs.declared.view.OwnedView.{OwnedView}
use Rattle.psac_values.specs.declared.view.KnownView.{KnownView}
use Rattle.psac_values.specs.declared.view.ValueView.{ValueView}
use Rattle.psac_values.specs.Valued as values_rule
use Rattle.psac_values.specs.Steps as values
use Rattle.psac_values.specs.Steps.{Lacks, new_owned}
use Rattle.psac_values.specs.Knowing.{Has, Knows, Claims, United, all_words, three_of, rewritten, wrote}
use Rattle.psac_laws.proofs.Places.{nat_is, test_or}
use Rattle.psac_trace.specs.Rights.{Tidy, Kept as Stays}
use Rattle.psac_trace.specs.Asking.{Looked}
use Rattle.psac_trace.specs.Raising.{Rewrote}
use Rattle.psac_trace.proofs.Views.{mine_is, known_is, wrote_has}
use Rattle.psac_trace.proofs.Forks.{told_cases, joined_known}
use Rattle.psac_trace.proofs.Growing.{lacks_before, left_lacked, right_lacked, mine_joined}
use Rattle.psac_trace.proofs.Raised.{claimed_knows, wrote_knows}
use Rattle.psac_trace.proofs.Uniting.{knows_either}

knows_same : (v u : ValueView) → u.mine ≡ v.mine → u.known ≡ v.known → (m : Handle) (us : List ℕ) → Knows v m us → Knows u m us
knows_same v u mine known m us k =
    ⊎_elim
    (λ (a : (w : OwnedView) × Member w v.mine × (w.of ≡ m) × (w.words ≡ all_words us)). inl (a.0, subst (Member a.0) (sym mine) a.1, a.2, a.3))
    (λ (a : (e : KnownView) × Member e v.known × (e.of ≡ m) × (e.words ≡ all_words us)). inr (a.0, subst (Member a.0) (sym known) a.1, a.2, a.3))
    k

-- the same words
pub rewrote_same : (v u : ValueView) → u.mine ≡ v.mine → u.known ≡ v.known → Rewrote v u []
rewrote_same v u mine known =
    record {
      stays = λ m us k n. knows_same v u mine known m us k;
      owned = λ m x i. absurd i;
      learned = λ m us k. inl (knows_same u v (sym mine) (sym known) m us k);
    }

pub rewrote_none : (v : ValueView) → Rewrote v v []
rewrote_none v = rewrote_same v v refl refl

pub rewrote_looked : (v u : ValueView) → Looked v u → Rewrote v u []
rewrote_looked v u l = rewrote_same v u (ap (λ (z : ValueView). z.mine) l.1) (ap (λ (z : ValueView). z.known) l.1)

pub rewrote_opened : (v u : ValueView) → u ≡ v → Rewrote v u []
rewrote_opened v u e = subst (λ z. Rewrote v z []) (sym e) (rewrote_none v)

-- what was made has no words that were known
pub rewrote_claimed : (v u : ValueView) (m : Handle) → Claims v m u → Lacks v m.slot → Rewrote v u []
rewrote_claimed v u m c l =
    record {
      stays = λ n us k d. claimed_knows v u m c l n us k;
      owned = λ n x i. absurd i;
      learned = λ n us k.
          ⊎_elim
          (λ (a : (w : OwnedView) × Member w u.mine × (w.of ≡ n) × (w.words ≡ all_words us)).
          ⊎_elim
          (λ (j : Member a.0 v.mine). inl (inl (a.0, j, a.2, a.3)))
          (λ (j : Member a.0 (new_owned v.fixed c.1 ∷ [])).
          ⊎_elim
          (λ (e : new_owned v.fixed c.1 ≡ a.0). inr (inr (subst (λ (z : Handle). Lacks v z.slot) (c.4 ∙ ap (λ (z : OwnedView). z.of) e ∙ a.2) l)))
          (λ (b : ⊥). absurd b)
          j)
          (member_cases a.0 v.mine (new_owned v.fixed c.1 ∷ []) (subst (Member a.0) (mine_is v u m c l) a.1)))
          (λ (a : (e : KnownView) × Member e u.known × (e.of ≡ n) × (e.words ≡ all_words us)). inl (inr (a.0, subst (Member a.0) (known_is v u m c l) a.1, a.2, a.3)))
          k;
    }

words_are : (us ws : List ℕ) → all_words us ≡ all_words ws → us ≡ ws
words_are [] [] e = refl
words_are [] (w ∷ ws) e = absurd cc
words_are (u ∷ us) [] e = absurd cc
words_are (u ∷ us) (w ∷ ws) e =
    let h : u ≡ w = cc in
    let t : all_words us ≡ all_words ws = cc in
    ap (λ z. z ∷ us) h ∙ ap (λ z. w ∷ z) (words_are us ws t)

three_words : (p : Plain) → three_of (words_of p) ≡ words_of p
three_words plain.Nil = refl
three_words (plain.Bool b) = refl
three_words (plain.Int i) = refl
three_words (plain.Text t) = refl
three_words (plain.Ref h) = refl
three_words (plain.Pair g h) = refl

pub rewrote_wrote : (v : ValueView) (m : Handle) (x : Plain) (ws : List ℕ) → ws ≡ words_of x → Tidy v → Has v m → Rewrote v (wrote m.slot (three_of ws) v) ((m, x) ∷ [])
rewrote_wrote v m x ws words t mine =
    record {
      stays = λ n us k d. wrote_knows v m (three_of ws) t mine n us (λ e. d x (inl (ap (λ z. (z, x)) e))) k;
      owned = λ n y i. ⊎_elim
          (λ (e : (m, x) ≡ (n, y)). subst (Has (wrote m.slot (three_of ws) v)) (ap (λ (z : Handle × Plain). z.0) e) (wrote_has v m (three_of ws) t mine m mine))
          (λ (b : ⊥). absurd b)
          i;
      learned = λ n us k.
          ⊎_elim
          (λ (a : (w : OwnedView) × Member w (map (rewritten m.slot (three_of ws)) v.mine) × (w.of ≡ n) × (w.words ≡ all_words us)).
          let q = member_map (rewritten m.slot (three_of ws)) a.0 v.mine a.1 in
          let of : q.0.of ≡ n = ap (λ (z : OwnedView). z.of) q.2 ∙ a.2 in
          let has : cond (q.0.of.slot == m.slot) (all_words (three_of ws)) q.0.words ≡ all_words us = ap (λ (z : OwnedView). z.words) q.2 ∙ a.3 in
          elim (test_or (q.0.of.slot == m.slot)) [
            | inl e ↦
                (let here : m ≡ n = t.single m n mine (q.0, q.1, of) (sym (nat_is q.0.of.slot m.slot e) ∙ ap (λ (z : Handle). z.slot) of) in
                let new : all_words us ≡ all_words (three_of ws) = sym has ∙ ap (λ b. cond b (all_words (three_of ws)) q.0.words) e in
                inr (inl (x, inl (ap (λ z. (z, x)) here), words_are us (three_of ws) new ∙ ap three_of words ∙ three_words x)))
            | inr e ↦ inl (inl (q.0, q.1, of, sym (ap (λ b. cond b (all_words (three_of ws)) q.0.words) e) ∙ has))
          ])
          (λ (a : (e : KnownView) × Member e v.known × (e.of ≡ n) × (e.words ≡ all_words us)). inl (inr a))
          k;
    }

-- what was learned, under more writes
abbrev Learned : ValueView → List (Handle × Plain) → Handle → List ℕ → Type 0
Learned v ws m us = Knows v m us ⊎ (((x : Plain) × Member (m, x) ws × (us ≡ words_of x)) ⊎ Lacks v m.slot)

pub rewrote_then : (v u x : ValueView) (a b : List (Handle × Plain)) → Stays v u → Stays u x → Rewrote v u a → Rewrote u x b → Rewrote v x (a ++ b)
rewrote_then v u x a b ku kx ra rb =
    record {
      stays = λ m us k n. rb.stays m us (ra.stays m us k (λ y i. n y (member_left (m, y) a b i))) (λ y i. n y (member_right (m, y) a b i));
      owned = λ m y i. ⊎_elim (λ (j : Member (m, y) a). kx.mine m (ra.owned m y j)) (λ (j : Member (m, y) b). rb.owned m y j) (member_cases (m, y) a b i);
      learned = λ m us k. ⊎_elim (λ (y : Knows u m us). before m us (ra.learned m us y)) (λ (y : ((z : Plain) × Member (m, z) b × (us ≡ words_of z)) ⊎ Lacks u m.slot). ⊎_elim
          (λ (z : (z : Plain) × Member (m, z) b × (us ≡ words_of z)). inr (inl (z.0, member_right (m, z.0) a b z.1, z.2)))
          (λ (z : Lacks u m.slot). inr (inr (lacks_before v u ku m.slot z)))
          y) (rb.learned m us k);
    }
  where
    before : (m : Handle) (us : List ℕ) → Learned v a m us → Learned v (a ++ b) m us
    before m us l =
        ⊎_elim
        (λ (y : Knows v m us). inl y)
        (λ (y : ((z : Plain) × Member (m, z) a × (us ≡ words_of z)) ⊎ Lacks v m.slot).
        ⊎_elim (λ (z : (z : Plain) × Member (m, z) a × (us ≡ words_of z)). inr (inl (z.0, member_left (m, z.0) a b z.1, z.2))) (λ (z : Lacks v m.slot). inr (inr z)) y)
        l

-- both sides of a par
module _ (shared to_right : ℕ → Bool) (v : ValueView) where
  abbrev VL : ValueView
  VL = values.left_of shared to_right v

  abbrev VR : ValueView
  VR = values.right_of shared to_right v

  known_told : (m : Handle) (us : List ℕ) (e : KnownView) → Member e (values.now_known shared to_right v) → e.of ≡ m → e.words ≡ all_words us → Knows v m us
  known_told m us e i of words =
      ⊎_elim
      (λ (j : Member e v.known). inr (e, j, of, words))
      (λ (j : (w : OwnedView) × Member w v.mine × (shared w.of.slot ≡ true) × (values_rule.ways.lend v.claims.branch w ≡ e)).
      inl (j.0, j.1, ap (λ (z : KnownView). z.of) j.3 ∙ of, ap (λ (z : KnownView). z.words) j.3 ∙ words))
      (told_cases shared to_right v e i)

  knows_of_left : (m : Handle) (us : List ℕ) → Knows VL m us → Knows v m us
  knows_of_left m us k =
      ⊎_elim
      (λ (a : (w : OwnedView) × Member w VL.mine × (w.of ≡ m) × (w.words ≡ all_words us)). inl (a.0, (member_filter (stays values_rule.ways shared to_right) a.0 v.mine a.1).0, a.2, a.3))
      (λ (a : (e : KnownView) × Member e VL.known × (e.of ≡ m) × (e.words ≡ all_words us)). known_told m us a.0 a.1 a.2 a.3)
      k

  knows_of_right : (m : Handle) (us : List ℕ) → Knows VR m us → Knows v m us
  knows_of_right m us k =
      ⊎_elim
      (λ (a : (w : OwnedView) × Member w VR.mine × (w.of ≡ m) × (w.words ≡ all_words us)). inl (a.0, (member_filter (goes values_rule.ways shared to_right) a.0 v.mine a.1).0, a.2, a.3))
      (λ (a : (e : KnownView) × Member e VR.known × (e.of ≡ m) × (e.words ≡ all_words us)). known_told m us a.0 a.1 a.2 a.3)
      k

  module _ (t : Tidy v) (l r j : ValueView) (kl : Stays VL l) (kr : Stays VR r) (is : j ≡ values.joined l r) (un : United l r j) (a b : List (Handle × Plain)) (ra : Rewrote VL l a) (rb : Rewrote VR r b) where
    learned_left : (m : Handle) (us : List ℕ) → Has l m → Knows l m us → Learned v (a ++ b) m us
    learned_left m us h k =
        ⊎_elim
        (λ (y : Knows VL m us). inl (knows_of_left m us y))
        (λ (y : ((z : Plain) × Member (m, z) a × (us ≡ words_of z)) ⊎ Lacks VL m.slot).
        ⊎_elim
        (λ (z : (z : Plain) × Member (m, z) a × (us ≡ words_of z)). inr (inl (z.0, member_left (m, z.0) a b z.1, z.2)))
        (λ (z : Lacks VL m.slot). inr (inr (left_lacked shared to_right v l r j [] [] t kl kr is un m h z)))
        y)
        (ra.learned m us k)

    learned_right : (m : Handle) (us : List ℕ) → Has r m → Knows r m us → Learned v (a ++ b) m us
    learned_right m us h k =
        ⊎_elim
        (λ (y : Knows VR m us). inl (knows_of_right m us y))
        (λ (y : ((z : Plain) × Member (m, z) b × (us ≡ words_of z)) ⊎ Lacks VR m.slot).
        ⊎_elim
        (λ (z : (z : Plain) × Member (m, z) b × (us ≡ words_of z)). inr (inl (z.0, member_right (m, z.0) a b z.1, z.2)))
        (λ (z : Lacks VR m.slot). inr (inr (right_lacked shared to_right v l r j [] [] t kl kr is un m h z)))
        y)
        (rb.learned m us k)

    learned_joined : (m : Handle) (us : List ℕ) → Knows j m us → Learned v (a ++ b) m us
    learned_joined m us k =
        let from = filter (comes_back values_rule.ways v.claims.branch) (told values_rule.ways shared to_right (values_rule.rights_of v)) in
        let back = map values_rule.ways.back from in
        ⊎_elim
        (λ (x : (w : OwnedView) × Member w j.mine × (w.of ≡ m) × (w.words ≡ all_words us)).
        ⊎_elim
        (λ (y : Member x.0 (l.mine ++ r.mine)).
        ⊎_elim
        (λ (z : Member x.0 l.mine). learned_left m us (x.0, z, x.2) (inl (x.0, z, x.2, x.3)))
        (λ (z : Member x.0 r.mine). learned_right m us (x.0, z, x.2) (inl (x.0, z, x.2, x.3)))
        (member_cases x.0 l.mine r.mine y))
        (λ (y : Member x.0 back).
        let q = member_map values_rule.ways.back x.0 from y in
        let f = member_filter (comes_back values_rule.ways v.claims.branch) q.0 (told values_rule.ways shared to_right (values_rule.rights_of v)) q.1 in
        inl (known_told m us q.0 f.0 (ap (λ (z : OwnedView). z.of) q.2 ∙ x.2) (ap (λ (z : OwnedView). z.words) q.2 ∙ x.3)))
        (member_cases x.0 (l.mine ++ r.mine) back (subst (Member x.0) (mine_joined shared to_right v l r j [] [] t kl kr is un) x.1)))
        (λ (x : (e : KnownView) × Member e j.known × (e.of ≡ m) × (e.words ≡ all_words us)).
        inl (inr (x.0, subst (Member x.0) (joined_known shared to_right v t l r j kl kr is un) x.1, x.2, x.3)))
        k

    pub rewrote_joined : Rewrote v j (a ++ b)
    rewrote_joined =
        record {
          stays = λ m us k n.
              elim (knows_either shared to_right v m us k) [
                | inl y ↦ un.knows m us (inl (ra.stays m us y (λ x i. n x (member_left (m, x) a b i))))
                | inr y ↦ un.knows m us (inr (rb.stays m us y (λ x i. n x (member_right (m, x) a b i))))
              ];
          owned = λ m x i.
              elim (member_cases (m, x) a b i) [
                | inl y ↦ un.has m (inl (ra.owned m x y))
                | inr y ↦ un.has m (inr (rb.owned m x y))
              ];
          learned = learned_joined;
        }
