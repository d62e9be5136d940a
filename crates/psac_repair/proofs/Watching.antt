-- What the blocks of a record read and what is there now, part by part.
use Rattle.std.proofs.Common.{◌≡◌, ◌⊎◌, ℕ, ◌≤◌, ◌<◌, List, [], ◌∷◌, map, cond, Option, Some, refl, ap, sym, ◌∙◌, subst, inl, inr, ⊎_elim, arith}
use Rattle.std.specs.Prelude.{sum_by}
use Rattle.std.proofs.lemmas.List.Sums.{sum_by-cons}
use Rattle.psac_ops.specs.declared.plain.Handle.{Handle}
use Rattle.psac_ops.specs.Value.{Value}
use Rattle.psac_slots.specs.Handles.{Member, word_of}
use Rattle.psac_slots.specs.Claiming.{times}
use Rattle.psac_slots.proofs.Pairs.{member_left, member_right, member_map}
use Rattle.psac_laws.proofs.Places.{nat_same, some_is}
use Rattle.psac_values.specs.declared.view.OwnedView.{OwnedView}
use Rattle.psac_values.specs.declared.view.KnownView.{KnownView}
use Rattle.psac_values.specs.declared.view.ValueView.{ValueView}
use Rattle.psac_values.specs.Knowing.{Has, all_words}
use Rattle.psac_readers.specs.declared.view.LinkView.{LinkView}
use Rattle.psac_readers.specs.declared.view.ReadersView.{ReadersView}
use Rattle.psac_readers.specs.Chained.{named}
use Rattle.psac_marks.specs.declared.view.MarksView.{MarksView}
use Rattle.psac_marks.specs.Steps.{IsClosed}
use Rattle.psac_marks.specs.Passes.{IsBusy}
use Rattle.psac_raise.specs.Raise.{IsSlot}
use Rattle.psac_raise.proofs.Going.{slot_is}
use Rattle.psac_traced.specs.Holds.{EachOf, EachRead}
use Rattle.psac_record.specs.declared.parts.Seen.{Seen}
use Rattle.psac_record.specs.Kept.{Kept as Tree, E, A, W, S, P, R, Stands, stands, links_of, reads_of, bare}
use Rattle.psac_trace.specs.Rights.{Sees, Kept}
use Rattle.psac_trace.specs.Asking.{Looked}
use Rattle.psac_repair.specs.Seen.{Known}
use Rattle.psac_repair.specs.Marks.{Present, Nodes}
use Rattle.psac_repair.specs.Taken.{indexes}
use Rattle.psac_repair.specs.Planted.{slots, NoneMarked}
use Rattle.psac_repair.specs.Linked.{standing, LinksOnce, Linked, Relinked}
use Rattle.psac_repair.specs.Watched.{Watched, Woken}
use Rattle.psac_repair.proofs.Linking.{member_sum}
use Rattle.psac_repair.proofs.Passing.{node_at}
use Rattle.psac_repair.proofs.Rewiring.{node_in}

-- what the pass has afterwards and knew before, it had before
pub had_before : (v u : ValueView) → Kept v u → (h : Handle) (x : Value Handle) → Sees v h x → Has u h → Has v h
had_before v u k h x s has =
    ⊎_elim
    (λ (a : (w : OwnedView) × Member w v.mine × (w.of ≡ h) × (w.words ≡ all_words s.0)). (a.0, a.1, a.2))
    (λ (a : (e : KnownView) × Member e v.known × (e.of ≡ h) × (e.words ≡ all_words s.0)).
    absurd (k.tidy.apart h h has (a.0, subst (Member a.0) (sym k.known) a.1, a.2) refl))
    s.2

-- a link stands once
named_at : (l : ℕ) (k : LinkView) → k.link ≡ l → named l k ≡ 1
named_at l k e = let a : named k.link k ≡ 1 = ap {B = ℕ} (λ b. cond b 1 0) (nat_same k.link) in subst (λ z. named z k ≡ 1) e a

one_of : (l : ℕ) (ks : List LinkView) (a b : LinkView) → Member a ks → Member b ks → a.link ≡ l → b.link ≡ l → sum_by (named l) ks ≤ 1 → a ≡ b
one_of l [] a b i j e f o = absurd i
one_of l (k ∷ ks) a b (inl g) (inl h) e f o = sym g ∙ h
one_of l (k ∷ ks) a b (inl g) (inr h) e f o =
    let c = sum_by-cons (named l) k ks in
    let d = named_at l k (ap (λ (z : LinkView). z.link) g ∙ e) in
    let m = member_sum (named l) b ks h in
    let n = named_at l b f in
    absurd (omega (arith, c, d, m, n, o))
one_of l (k ∷ ks) a b (inr g) (inl h) e f o =
    let c = sum_by-cons (named l) k ks in
    let d = named_at l k (ap (λ (z : LinkView). z.link) h ∙ f) in
    let m = member_sum (named l) a ks g in
    let n = named_at l a e in
    absurd (omega (arith, c, d, m, n, o))
one_of l (k ∷ ks) a b (inr g) (inr h) e f o = let c = sum_by-cons (named l) k ks in one_of l ks a b g h e f (omega (arith, c, o))

-- a link of a node outside is none of those that were left
pub links_stay : (r q : ReadersView) (t : Tree) (us : List ℕ) (gone made : List Stands) → LinksOnce r → Linked r t → ((x : ℕ) → Member x (slots t) → IsSlot x) → ((x : ℕ) → Member x us → Member x (slots t) → ⊥) → Relinked r q gone made → ((l : ℕ) → Member l (indexes gone) → Member l (indexes (links_of t))) → (l : LinkView) (h : Handle) → Member l r.links → l.node ≡ Some (word_of h) → IsSlot h.slot → Member h.slot us → Member l q.links
links_stay r q t us gone made once linked fits out m left l h i e low j =
    m.keeps l i (λ g.
    let y = member_map (λ (z : Stands). z.link.index) l.link (links_of t) (left l.link g) in
    let same = one_of l.link r.links (standing y.0) l (linked.live y.0 y.1) i y.2 refl (once l.link) in
    let inside = node_in t y.0 y.1 in
    let word : word_of y.0.node ≡ word_of h = some_is (ap (λ (z : LinkView). z.node) same ∙ e) in
    let slot = slot_is y.0.node h word (fits y.0.node.slot inside) low in
    out h.slot j (subst (λ z. Member z (slots t)) slot inside))

-- the pass knows it still
pub known_still : (r : ReadersView) (v u : ValueView) (n : MarksView) (us : List ℕ) → Woken r v u n us → (reads : List Seen) → Known v reads → Known u reads
known_still r v u n us w [] k = tt
known_still r v u n us w (s ∷ reads) k = (w.knows s.from k.0.0 k.0.1, known_still r v u n us w reads k.1)

-- reads that saw what was present see it still, or their block is awake
reads_still : (r : ReadersView) (v u : ValueView) (n : MarksView) (us : List ℕ) → Woken r v u n us → (node : Handle) → IsSlot node.slot → Member node.slot us → (reads : List Seen) → ((s : Stands) → Member s (map (stands node) reads) → Member (standing s) r.links) → Known v reads → EachOf (Present v) (reads_of reads) → EachOf (Present u) (reads_of reads) ⊎ IsBusy n node.slot
reads_still r v u n us w node low i [] live k p = inl tt
reads_still r v u n us w node low i (s ∷ reads) live k p =
    elim (w.same s.from k.0.0 k.0.1) [
      | inl f ↦
          elim (reads_still r v u n us w node low i reads (λ z j. live z (inr j)) k.1 p.1) [
            | inl more ↦ inl (λ y sy. p.0 y (f y sy), more)
            | inr b ↦ inr b
          ]
      | inr a ↦ inr (a.1 (standing (stands node s)) node (live (stands node s) (inl refl)) refl refl refl low i)
    ]

-- what stands outside a part is watched on
pub watched_on : (r : ReadersView) (v u : ValueView) (m n : MarksView) (us : List ℕ) → Woken r v u n us → (k : Tree) → ((s : Stands) → Member s (links_of k) → Member (standing s) r.links) → ((x : ℕ) → Member x (slots k) → Member x us) → ((x : ℕ) → Member x (slots k) → IsSlot x) → ((x : ℕ) → Member x (slots k) → IsBusy m x → IsBusy n x) → Watched v m k → Watched u n k
watched_on r v u m n us w E live inside low busy h = tt
watched_on r v u m n us w (A c k) live inside low busy h = watched_on r v u m n us w k live inside low busy h
watched_on r v u m n us w (W c x k) live inside low busy h = watched_on r v u m n us w k live inside low busy h
watched_on r v u m n us w (S c t k) live inside low busy h = (
  watched_on r v u m n us w t (λ s i. live s (member_left s (links_of t) (links_of k) i)) (λ x i. inside x (inr (member_left x (slots t) (slots k) i))) (λ x i. low x (inr (member_left x (slots t) (slots k) i))) (λ x i. busy x (inr (member_left x (slots t) (slots k) i))) h.0,
  watched_on r v u m n us w k (λ s i. live s (member_right s (links_of t) (links_of k) i)) (λ x i. inside x (inr (member_right x (slots t) (slots k) i))) (λ x i. low x (inr (member_right x (slots t) (slots k) i))) (λ x i. busy x (inr (member_right x (slots t) (slots k) i))) h.1,
)
watched_on r v u m n us w (P c t k) live inside low busy h = (
  watched_on r v u m n us w t (λ s i. live s (member_left s (links_of t) (links_of k) i)) (λ x i. inside x (inr (member_left x (slots t) (slots k) i))) (λ x i. low x (inr (member_left x (slots t) (slots k) i))) (λ x i. busy x (inr (member_left x (slots t) (slots k) i))) h.0,
  watched_on r v u m n us w k (λ s i. live s (member_right s (links_of t) (links_of k) i)) (λ x i. inside x (inr (member_right x (slots t) (slots k) i))) (λ x i. low x (inr (member_right x (slots t) (slots k) i))) (λ x i. busy x (inr (member_right x (slots t) (slots k) i))) h.1,
)
watched_on r v u m n us w (R b t) live inside low busy h = (
  (
    known_still r v u n us w b.reads h.0.0,
    ⊎_elim
        (λ (p : EachOf (Present v) (reads_of b.reads)). reads_still r v u n us w b.node (low b.node.slot (inl refl)) (inside b.node.slot (inl refl)) b.reads (λ s i. live s (member_left s (map (stands b.node) b.reads) (links_of t) i)) h.0.0 p)
        (λ (p : IsBusy m b.node.slot). inr (busy b.node.slot (inl refl) p))
        h.0.1,
  ),
  watched_on r v u m n us w t (λ s i. live s (member_right s (map (stands b.node) b.reads) (links_of t) i)) (λ x i. inside x (inr i)) (λ x i. low x (inr i)) (λ x i. busy x (inr i)) h.1,
)

-- nothing happened
pub woken_none : (r : ReadersView) (v : ValueView) (n : MarksView) (us : List ℕ) → Woken r v v n us
woken_none r v n us = record { knows = λ h x s. (x, s); same = λ h x s. inl (λ y z. z) }

-- other marks, for fewer nodes outside
pub woken_busy : (r : ReadersView) (v u : ValueView) (n x : MarksView) (ws us : List ℕ) → ((y : ℕ) → Member y us → Member y ws) → ((y : ℕ) → Member y us → IsBusy n y → IsBusy x y) → Woken r v u n ws → Woken r v u x us
woken_busy r v u n x ws us wider on w =
    record {
      knows = w.knows;
      same = λ h y s. elim (w.same h y s) [
        | inl f ↦ inl f
        | inr a ↦ inr (a.0, λ l g i e f c low j. on g.slot j (a.1 l g i e f c low (wider g.slot j)))
      ];
    }

-- one part after another
pub woken_then : (r q : ReadersView) (v u z : ValueView) (n x : MarksView) (us : List ℕ) → Kept v u → ((l : LinkView) (h : Handle) → Member l r.links → l.node ≡ Some (word_of h) → IsSlot h.slot → Member h.slot us → Member l q.links) → ((y : ℕ) → Member y us → IsBusy n y → IsBusy x y) → Woken r v u n us → Woken q u z x us → Woken r v z x us
woken_then r q v u z n x us k stay on a b =
    record {
      knows = λ h y s. let c = a.knows h y s in b.knows h c.0 c.1;
      same = λ h y s.
          let c = a.knows h y s in
          elim (a.same h y s) [
            | inr f ↦ inr (f.0, λ l g i e d w low j. on g.slot j (f.1 l g i e d w low j))
            | inl f ↦
                elim (b.same h c.0 c.1) [
                  | inl g ↦ inl (λ w i. f w (g w i))
                  | inr g ↦ inr (had_before v u k h y s g.0, λ l o i e d w low j. g.1 l o (stay l o i w low j) e d w low j)
                ]
          ];
    }

-- looks change nothing
pub woken_looked : (r : ReadersView) (v u z : ValueView) (n : MarksView) (us : List ℕ) → Looked v u → Woken r u z n us → Woken r v z n us
woken_looked r v u z n us l w = go (subst (λ y. Woken r y z n us) l.1 w)
  where
    go : Woken r (record v { looks = l.0 }) z n us → Woken r v z n us
    go a = record { knows = λ h x s. a.knows h x s; same = λ h x s. a.same h x s }

-- where no node of a record is marked, it read what is present
pub quiet_watched : (v : ValueView) (m : MarksView) → IsClosed m → (above : Option Handle) (k : Tree) → Nodes m above k → NoneMarked m (slots k) → Watched v m k → EachRead (Present v) (bare k)
quiet_watched v m closed above E ns z w = tt
quiet_watched v m closed above (A h k) ns z w = quiet_watched v m closed above k ns z w
quiet_watched v m closed above (W h x k) ns z w = quiet_watched v m closed above k ns z w
quiet_watched v m closed above (S n t k) ns z w = (
  quiet_watched v m closed (Some n) t ns.1 (λ x i. z x (inr (member_left x (slots t) (slots k) i))) w.0,
  quiet_watched v m closed (Some n) k ns.2 (λ x i. z x (inr (member_right x (slots t) (slots k) i))) w.1,
)
quiet_watched v m closed above (P n t k) ns z w = (
  quiet_watched v m closed (Some n) t ns.1 (λ x i. z x (inr (member_left x (slots t) (slots k) i))) w.0,
  quiet_watched v m closed (Some n) k ns.2 (λ x i. z x (inr (member_right x (slots t) (slots k) i))) w.1,
)
quiet_watched v m closed above (R b t) ns z w = (
  ⊎_elim
      (λ (p : EachOf (Present v) (reads_of b.reads)). p)
      (λ (p : IsBusy m b.node.slot).
      let none = z b.node.slot (inl refl) in
      absurd (⊎_elim
      (λ (i : 0 < times b.node.slot m.marked). omega (arith, i, none))
      (λ (i : 0 < times b.node.slot m.busy).
      let o = node_at m above (R b t) ns b.node.slot (inl refl) in
      let c : 0 < times b.node.slot m.marked = subst (λ y. 0 < times y m.marked) o.slot (closed.busy o.own o.is (subst (λ y. 0 < times y m.busy) (sym o.slot) i)) in
      omega (arith, c, none))
      p))
      w.0.1,
  quiet_watched v m closed (Some b.node) t ns.1 (λ x i. z x (inr i)) w.1,
)
