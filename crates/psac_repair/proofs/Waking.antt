-- What both sides of a par read and what is there, on their parts of the pass, and what both leave to the blocks outside.
use Rattle.std.proofs.Common.{◌≡◌, ◌⊎◌, ℕ, Bool, true, false, not, List, [], ◌∷◌, ◌++◌, map, refl, ap, ◌∙◌, subst, inl, inr, ⊎_elim}
use Rattle.std.specs.Prelude.{filter, cond}
use Rattle.psac_ops.specs.declared.plain.Handle.{Handle}
use Rattle.psac_ops.specs.Value.{Value}
use Rattle.psac_slots.specs.Branches.{stem}
use Rattle.psac_slots.specs.Handles.{Member}
use Rattle.psac_slots.specs.Divided.{stays, goes, comes_back, above}
use Rattle.psac_slots.proofs.Pairs.{member_left, member_right, member_cases, member_map, member_filter, filter_member}
use Rattle.psac_laws.proofs.Places.{test_or, not_both}
use Rattle.psac_values.specs.declared.view.OwnedView.{OwnedView}
use Rattle.psac_values.specs.declared.view.KnownView.{KnownView}
use Rattle.psac_values.specs.declared.view.ValueView.{ValueView}
use Rattle.psac_values.specs.Valued.{ways}
use Rattle.psac_values.specs.Steps as values
use Rattle.psac_values.specs.Knowing.{Has, Knows, all_words, United}
use Rattle.psac_readers.specs.declared.view.LinkView.{LinkView}
use Rattle.psac_readers.specs.declared.view.ReadersView.{ReadersView}
use Rattle.psac_readers.specs.Steps as readers
use Rattle.psac_marks.specs.declared.view.MarksView.{MarksView}
use Rattle.psac_marks.specs.Steps as marks
use Rattle.psac_marks.specs.Passes.{IsBusy}
use Rattle.psac_traced.specs.Holds.{EachOf}
use Rattle.psac_record.specs.declared.parts.Seen.{Seen}
use Rattle.psac_record.specs.Kept.{Kept as Tree, E, A, W, S, P, R, Stands, stands, links_of, reads_of}
use Rattle.psac_trace.specs.Rights.{Sees, Shares, Tidy, Kept}
use Rattle.psac_trace.proofs.Forks.{told_cases, left_has, right_has, left_from, right_from, left_sees, right_sees, left_unseen, right_unseen}
use Rattle.psac_trace.proofs.Uniting.{busy_joined}
use Rattle.psac_repair.specs.Seen.{Known}
use Rattle.psac_repair.specs.Marks.{Present}
use Rattle.psac_repair.specs.Planted.{slots}
use Rattle.psac_repair.specs.Watched.{Watched, AwakeIn, Woken}

-- a record is watched on another view that knows what it read, and no other words of it
known_same : (v u : ValueView) (node : Handle) (reads : List Seen) → ((s : Stands) → Member s (map (stands node) reads) → (x : Value Handle) → Sees v s.of x → Sees u s.of x) → Known v reads → Known u reads
known_same v u node [] f k = tt
known_same v u node (s ∷ reads) f k = ((k.0.0, f (stands node s) (inl refl) k.0.0 k.0.1), known_same v u node reads (λ z i. f z (inr i)) k.1)

present_same : (v u : ValueView) (node : Handle) (reads : List Seen) → ((s : Stands) → Member s (map (stands node) reads) → (x : Value Handle) → Sees v s.of x → (y : Value Handle) → Sees u s.of y → Sees v s.of y) → Known v reads → EachOf (Present v) (reads_of reads) → EachOf (Present u) (reads_of reads)
present_same v u node [] back k p = tt
present_same v u node (s ∷ reads) back k p = (λ y z. p.0 y (back (stands node s) (inl refl) k.0.0 k.0.1 y z), present_same v u node reads (λ z i. back z (inr i)) k.1 p.1)

pub watched_same : (v u : ValueView) (m n : MarksView) (k : Tree) → ((s : Stands) → Member s (links_of k) → (x : Value Handle) → Sees v s.of x → Sees u s.of x) → ((s : Stands) → Member s (links_of k) → (x : Value Handle) → Sees v s.of x → (y : Value Handle) → Sees u s.of y → Sees v s.of y) → ((x : ℕ) → Member x (slots k) → IsBusy m x → IsBusy n x) → Watched v m k → Watched u n k
watched_same v u m n E f back busy w = tt
watched_same v u m n (A h k) f back busy w = watched_same v u m n k f back busy w
watched_same v u m n (W h x k) f back busy w = watched_same v u m n k f back busy w
watched_same v u m n (S c t k) f back busy w = (
  watched_same v u m n t (λ s i. f s (member_left s (links_of t) (links_of k) i)) (λ s i. back s (member_left s (links_of t) (links_of k) i)) (λ x i. busy x (inr (member_left x (slots t) (slots k) i))) w.0,
  watched_same v u m n k (λ s i. f s (member_right s (links_of t) (links_of k) i)) (λ s i. back s (member_right s (links_of t) (links_of k) i)) (λ x i. busy x (inr (member_right x (slots t) (slots k) i))) w.1,
)
watched_same v u m n (P c t k) f back busy w = (
  watched_same v u m n t (λ s i. f s (member_left s (links_of t) (links_of k) i)) (λ s i. back s (member_left s (links_of t) (links_of k) i)) (λ x i. busy x (inr (member_left x (slots t) (slots k) i))) w.0,
  watched_same v u m n k (λ s i. f s (member_right s (links_of t) (links_of k) i)) (λ s i. back s (member_right s (links_of t) (links_of k) i)) (λ x i. busy x (inr (member_right x (slots t) (slots k) i))) w.1,
)
watched_same v u m n (R b t) f back busy w = (
  (
    known_same v u b.node b.reads (λ s i. f s (member_left s (map (stands b.node) b.reads) (links_of t) i)) w.0.0,
    ⊎_elim
        (λ (p : EachOf (Present v) (reads_of b.reads)). inl (present_same v u b.node b.reads (λ s i. back s (member_left s (map (stands b.node) b.reads) (links_of t) i)) w.0.0 p))
        (λ (p : IsBusy m b.node.slot). inr (busy b.node.slot (inl refl) p))
        w.0.1,
  ),
  watched_same v u m n t (λ s i. f s (member_right s (map (stands b.node) b.reads) (links_of t) i)) (λ s i. back s (member_right s (map (stands b.node) b.reads) (links_of t) i)) (λ x i. busy x (inr i)) w.1,
)

module _ (shared to_right : ℕ → Bool) (v : ValueView) where
  abbrev VL : ValueView
  VL = values.left_of shared to_right v

  abbrev VR : ValueView
  VR = values.right_of shared to_right v

  -- a side knows no words but those that were known
  told_back : (h : Handle) (us : List ℕ) (e : KnownView) → Member e (values.now_known shared to_right v) → e.of ≡ h → e.words ≡ all_words us → Knows v h us
  told_back h us e i of words =
      ⊎_elim
      (λ (a : Member e v.known). inr (e, a, of, words))
      (λ (a : (w : OwnedView) × Member w v.mine × (shared w.of.slot ≡ true) × (ways.lend v.claims.branch w ≡ e)).
      inl (a.0, a.1, ap (λ (z : KnownView). z.of) a.3 ∙ of, ap (λ (z : KnownView). z.words) a.3 ∙ words))
      (told_cases shared to_right v e i)

  seen_back : (of : ValueView) → ((w : OwnedView) → Member w of.mine → Member w v.mine)
      → ((e : KnownView) → Member e of.known → Member e VL.known) → (h : Handle) (x : Value Handle) → Sees of h x → Sees v h x
  seen_back of mine known h x s = (
    s.0,
    s.1,
    ⊎_elim
        (λ (a : (w : OwnedView) × Member w of.mine × (w.of ≡ h) × (w.words ≡ all_words s.0)). inl (a.0, mine a.0 a.1, a.2, a.3))
        (λ (a : (e : KnownView) × Member e of.known × (e.of ≡ h) × (e.words ≡ all_words s.0)). told_back h s.0 a.0 (known a.0 a.1) a.2 a.3)
        s.2,
    s.3,
    s.4,
  )

  pub left_back : (h : Handle) (x : Value Handle) → Sees VL h x → Sees v h x
  left_back = seen_back VL (λ w i. (member_filter (stays ways shared to_right) w v.mine i).0) (λ e i. i)

  pub right_back : (h : Handle) (x : Value Handle) → Sees VR h x → Sees v h x
  right_back = seen_back VR (λ w i. (member_filter (goes ways shared to_right) w v.mine i).0) (λ e i. i)

-- what both know together one of them knows
pub seen_parts : (l r j : ValueView) → j ≡ values.joined l r → (h : Handle) (x : Value Handle) → Sees j h x → Sees l h x ⊎ Sees r h x
seen_parts l r j is h x s =
    ⊎_elim
    (λ (a : Knows l h s.0). inl (s.0, s.1, a, s.3, s.4))
    (λ (a : Knows r h s.0). inr (s.0, s.1, a, s.3, s.4))
    (parts (subst (λ z. Knows z h s.0) is s.2))
  where
    parts : Knows (values.joined l r) h s.0 → Knows l h s.0 ⊎ Knows r h s.0
    parts k =
        ⊎_elim
        (λ (a : (w : OwnedView) × Member w (values.joined l r).mine × (w.of ≡ h) × (w.words ≡ all_words s.0)).
        ⊎_elim
        (λ (b : Member a.0 (l.mine ++ r.mine)).
        ⊎_elim (λ (c : Member a.0 l.mine). inl (inl (a.0, c, a.2, a.3))) (λ (c : Member a.0 r.mine). inr (inl (a.0, c, a.2, a.3))) (member_cases a.0 l.mine r.mine b))
        (λ (b : Member a.0 (map ways.back (filter (comes_back ways (stem l.claims.branch)) l.known))).
        let q = member_map ways.back a.0 (filter (comes_back ways (stem l.claims.branch)) l.known) b in
        let f = member_filter (comes_back ways (stem l.claims.branch)) q.0 l.known q.1 in
        inl (inr (q.0, f.0, ap (λ (z : OwnedView). z.of) q.2 ∙ a.2, ap (λ (z : OwnedView). z.words) q.2 ∙ a.3)))
        (member_cases a.0 (l.mine ++ r.mine) (map ways.back (filter (comes_back ways (stem l.claims.branch)) l.known)) a.1))
        (λ (a : (e : KnownView) × Member e (values.joined l r).known × (e.of ≡ h) × (e.words ≡ all_words s.0)).
        inl (inr (a.0, (member_filter (above ways (stem l.claims.branch)) a.0 l.known a.1).0, a.2, a.3)))
        k

-- where the words of a modifiable went at a division
module _ (shared to_right : ℕ → Bool) (v : ValueView) (tidy : Tidy v) where
  abbrev SL : ValueView
  SL = values.left_of shared to_right v

  abbrev SR : ValueView
  SR = values.right_of shared to_right v

  -- to both sides, or to one
  pub data Where (h : Handle) (x : Value Handle) : Type 0 where
    Both : (one : Sees SL h x) (two : Sees SR h x) (no_left : Has SL h → ⊥) (no_right : Has SR h → ⊥) → Where h x
    Left : (has : Has SL h) (one : Sees SL h x) (s : shared h.slot ≡ false) (t : to_right h.slot ≡ false) → Where h x
    Right : (has : Has SR h) (two : Sees SR h x) (s : shared h.slot ≡ false) (t : to_right h.slot ≡ true) → Where h x

  known_both : (h : Handle) (x : Value Handle) → Sees v h x → Shares v h → Where h x
  known_both h x s y =
      let no : Has v h → ⊥ = λ q. tidy.apart h h q y refl in
      Both (left_sees shared to_right v h x s (λ q. absurd (no q))) (right_sees shared to_right v h x s (λ q e. absurd (no q))) (λ q. no (left_from shared to_right v h q).0) (λ q. no (right_from shared to_right v h q).0)

  known_own : (h : Handle) (x : Value Handle) → Sees v h x → Has v h → Where h x
  known_own h x s y =
      elim (test_or (shared h.slot)) [
        | inl e ↦
            (let told = lent_seen e in
            Both told.0 told.1 (λ q. not_both e (left_from shared to_right v h q).1) (λ q. not_both e (right_from shared to_right v h q).1))
        | inr e ↦
            elim (test_or (to_right h.slot)) [
              | inl t ↦ Right (right_has shared to_right v h y e t) (right_sees shared to_right v h x s (λ q f. t)) e t
              | inr t ↦ Left (left_has shared to_right v h y e t) (left_sees shared to_right v h x s (λ q. t)) e t
            ]
      ]
    where
      lent_seen : shared h.slot ≡ true → Sees SL h x × Sees SR h x
      lent_seen e =
          let two : Sees SR h x = right_sees shared to_right v h x s (λ q f. absurd (not_both e f)) in
          (both_know two, two)
        where
          both_know : Sees SR h x → Sees SL h x
          both_know z = (
            z.0,
            z.1,
            ⊎_elim
                (λ (q : (w : OwnedView) × Member w SR.mine × (w.of ≡ h) × (w.words ≡ all_words z.0)). absurd (not_both e (right_from shared to_right v h (q.0, q.1, q.2)).1))
                (λ (q : (w : KnownView) × Member w SR.known × (w.of ≡ h) × (w.words ≡ all_words z.0)). inr q)
                z.2,
            z.3,
            z.4,
          )

  pub where_known : (h : Handle) (x : Value Handle) → Sees v h x → Where h x
  where_known h x s =
      ⊎_elim
      (λ (q : (w : OwnedView) × Member w v.mine × (w.of ≡ h) × (w.words ≡ all_words s.0)). known_own h x s (q.0, q.1, q.2))
      (λ (q : (e : KnownView) × Member e v.known × (e.of ≡ h) × (e.words ≡ all_words s.0)). known_both h x s (q.0, q.1, q.2))
      s.2

  -- what both sides did to words, joined
  module _ (a b j : ValueView) (ka : Kept SL a) (kb : Kept SR b) (is : j ≡ values.joined a b) (un : United a b j) where
    to_joined : (h : Handle) (x : Value Handle) → Sees a h x ⊎ Sees b h x → Sees j h x
    to_joined h x s = ⊎_elim (λ (y : Sees a h x). (y.0, y.1, un.knows h y.0 (inl y.2), y.3, y.4)) (λ (y : Sees b h x). (y.0, y.1, un.knows h y.0 (inr y.2), y.3, y.4)) s

    from_parts : (h : Handle) → ((y : Value Handle) → Sees a h y → Sees v h y) → ((y : Value Handle) → Sees b h y → Sees v h y) → (y : Value Handle) → Sees j h y → Sees v h y
    from_parts h f g y s = ⊎_elim (λ (q : Sees a h y). f y q) (λ (q : Sees b h y). g y q) (seen_parts a b j is h y s)

    -- what both know and neither touched
    pub steady_joined : (touched : ℕ → Bool) → ((s : ℕ) → touched s ≡ false → shared s ≡ true) → ((h : Handle) (x : Value Handle) → Sees SL h x → touched h.slot ≡ false → Sees a h x × ((y : Value Handle) → Sees a h y → Sees SL h y)) → ((h : Handle) (x : Value Handle) → Sees SR h x → touched h.slot ≡ false → Sees b h x × ((y : Value Handle) → Sees b h y → Sees SR h y)) → (h : Handle) (x : Value Handle) → Sees v h x → touched h.slot ≡ false → Sees j h x × ((y : Value Handle) → Sees j h y → Sees v h y)
    steady_joined touched free sa sb h x s t = by (where_known h x s)
      where
        by : Where h x → Sees j h x × ((y : Value Handle) → Sees j h y → Sees v h y)
        by (Both one two none nor) =
            let p = sa h x one t in
            let q = sb h x two t in
            (to_joined h x (inl p.0), from_parts h (λ y z. left_back shared to_right v h y (p.1 y z)) (λ y z. right_back shared to_right v h y (q.1 y z)))
        by (Left has one e f) = absurd (not_both (free h.slot t) e)
        by (Right has two e f) = absurd (not_both (free h.slot t) e)

    module _ (links : ℕ → Bool) (r : ReadersView) (am bm jm : MarksView) (us : List ℕ) (wa : Woken (readers.left_of shared to_right links r) SL a am us) (wb : Woken (readers.right_of shared to_right links r) SR b bm us) (marked : jm ≡ marks.joined am bm) where
      abbrev RL : ReadersView
      RL = readers.left_of shared to_right links r

      abbrev RR : ReadersView
      RR = readers.right_of shared to_right links r

      goes_left : (h : Handle) (l : LinkView) → l.of ≡ h.slot → shared h.slot ≡ false → to_right h.slot ≡ false → readers.right_link shared to_right links l ≡ false
      goes_left h l o e t = ap (λ z. cond z (links l.link) (to_right l.of)) (ap shared o ∙ e) ∙ ap to_right o ∙ t

      goes_over : (h : Handle) (l : LinkView) → l.of ≡ h.slot → shared h.slot ≡ false → to_right h.slot ≡ true → readers.right_link shared to_right links l ≡ true
      goes_over h l o e t = ap (λ z. cond z (links l.link) (to_right l.of)) (ap shared o ∙ e) ∙ ap to_right o ∙ t

      awake_left : (h : Handle) → shared h.slot ≡ false → to_right h.slot ≡ false → AwakeIn RL am us h.slot → AwakeIn r jm us h.slot
      awake_left h e t w l g i o d c low k =
          busy_joined am bm jm marked g.slot (inl (w l g (filter_member (λ z. not (readers.right_link shared to_right links z)) l r.links i (ap not (goes_left h l o e t))) o d c low k))

      awake_right : (h : Handle) → shared h.slot ≡ false → to_right h.slot ≡ true → AwakeIn RR bm us h.slot → AwakeIn r jm us h.slot
      awake_right h e t w l g i o d c low k =
          busy_joined am bm jm marked g.slot (inr (w l g (filter_member (readers.right_link shared to_right links) l r.links i (goes_over h l o e t)) o d c low k))

      same_joined : (h : Handle) (x : Value Handle) → Where h x → ((y : Value Handle) → Sees j h y → Sees v h y) ⊎ (Has v h × AwakeIn r jm us h.slot)
      same_joined h x (Both one two none nor) =
          elim (wa.same h x one) [
            | inr q ↦ absurd (none q.0)
            | inl f ↦
                elim (wb.same h x two) [
                  | inr q ↦ absurd (nor q.0)
                  | inl g ↦ inl (from_parts h (λ y s. left_back shared to_right v h y (f y s)) (λ y s. right_back shared to_right v h y (g y s)))
                ]
          ]
      same_joined h x (Left has one e t) =
          elim (wa.same h x one) [
            | inr q ↦ inr ((left_from shared to_right v h q.0).0, awake_left h e t q.1)
            | inl f ↦ inl (from_parts h (λ y s. left_back shared to_right v h y (f y s)) (λ y s. left_unseen shared to_right v tidy a b j ka kb is un h y (ka.mine h has) s))
          ]
      same_joined h x (Right has two e t) =
          elim (wb.same h x two) [
            | inr q ↦ inr ((right_from shared to_right v h q.0).0, awake_right h e t q.1)
            | inl f ↦ inl (from_parts h (λ y s. right_unseen shared to_right v tidy a b j ka kb is un h y (kb.mine h has) s) (λ y s. right_back shared to_right v h y (f y s)))
          ]

      knows_joined : (h : Handle) (x : Value Handle) → Where h x → (y : Value Handle) × Sees j h y
      knows_joined h x (Both one two none nor) = let q = wa.knows h x one in (q.0, to_joined h q.0 (inl q.1))
      knows_joined h x (Left has one e t) = let q = wa.knows h x one in (q.0, to_joined h q.0 (inl q.1))
      knows_joined h x (Right has two e t) = let q = wb.knows h x two in (q.0, to_joined h q.0 (inr q.1))

      pub woken_joined : Woken r v j jm us
      woken_joined = record { knows = λ h x s. knows_joined h x (where_known h x s); same = λ h x s. same_joined h x (where_known h x s) }
