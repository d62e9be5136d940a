-- The laws of marks and the blocks that they stand over.
use Rattle.std.proofs.Common.{◌≡◌, ℕ, ◌+◌, ◌<◌, ◌&&◌, Bool, true, false, not, List, [], ◌∷◌, map}
use Rattle.std.proofs.Common.{Option, None, refl, ap, sym, ◌∙◌, subst, inl, inr, ⊎_elim, arith}
use Rattle.psac_ops.specs.declared.plain.Handle.{Handle}
use Rattle.psac_ops.specs.declared.plain.Plain.{Plain}
use Rattle.psac_ops.specs.Value.{Value}
use Rattle.psac_ops.specs.Named.{value_of}
use Rattle.psac_slots.specs.Handles.{Member}
use Rattle.psac_slots.specs.Claiming.{times}
use Rattle.psac_slots.proofs.Pairs.{member_left, member_right, member_filter}
use Rattle.psac_laws.proofs.Places.{zero_or}
use Rattle.psac_values.specs.declared.view.ValueView.{ValueView}
use Rattle.psac_values.specs.Knowing.{United}
use Rattle.psac_readers.specs.declared.view.LinkView.{LinkView}
use Rattle.psac_readers.specs.declared.view.ReadersView.{ReadersView}
use Rattle.psac_readers.specs.Steps as readers
use Rattle.psac_marks.specs.declared.view.MarksView.{MarksView}
use Rattle.psac_marks.specs.Steps as marks
use Rattle.psac_marks.specs.Marked.{Place}
use Rattle.psac_marks.specs.Passes.{Leads}
use Rattle.psac_marks.proofs.Counted.{times_both, times_in, times_out, times_found}
use Rattle.psac_raise.specs.Raise.{LeadsIn, LeadUpIn}
use Rattle.psac_traced.specs.Rec.{writes}
use Rattle.psac_traced.specs.Places.{Makes}
use Rattle.psac_traced.specs.Holds.{EachOf, EachRead}
use Rattle.psac_traced.proofs.Holds.{each_read_more}
use Rattle.psac_record.specs.declared.parts.Seen.{Seen}
use Rattle.psac_record.specs.Kept.{Kept as Tree, E, A, W, S, P, R, Stands, stands, links_of, reads_of, bare}
use Rattle.psac_trace.specs.Rights.{In, Sees}
use Rattle.psac_trace.specs.Fit.{Rooted}
use Rattle.psac_trace.specs.Raising.{puts}
use Rattle.psac_trace.proofs.Heaps.{in_front}
use Rattle.psac_trace.proofs.Forks.{left_sees, right_sees}
use Rattle.psac_repair.specs.Divided.{neither, writes_slot, has_link, has_node, outside}
use Rattle.psac_repair.specs.Marks.{Present, IsMarked}
use Rattle.psac_repair.specs.Planted.{slots, NoneMarked, Planted}
use Rattle.psac_repair.specs.Linked.{standing}
use Rattle.psac_repair.specs.Rewired.{Unread, Ordered, Wired}
use Rattle.psac_repair.specs.LinkLaws.{left_pass, right_pass}
use Rattle.psac_repair.specs.WatchLaws.{left_view, right_view}
use Rattle.psac_repair.specs.Counted.{done}
use Rattle.psac_repair.specs.Founded.{AllPresent, Coherent, Founded, Altered, LeadOut, OnlyWoken, Idle}
use Rattle.psac_repair.specs.FoundLaws.{NoneFounded, FewerFounded, UnmarkedFounded, SomethingRuns, RootRaised}
use Rattle.psac_repair.specs.FoundLaws.{RootsFound}
use Rattle.psac_repair.specs.FoundLaws.{MadeFounds, WroteFounds, SidesFound, SidesFoundUp, BlocksFound}
use Rattle.psac_repair.specs.FoundLaws.{RunsOnly}
use Rattle.psac_repair.proofs.Forked.{slot_touch, touch_slot}
use Rattle.psac_repair.proofs.Rewiring.{led_on, led_wider, link_back, node_in}
use Rattle.psac_repair.proofs.Rerunning.{readers_lead}
use Rattle.psac_repair.proofs.Parting.{filter_some, left_kept, right_kept, beside_not_right, not_over, L, K}
use Rattle.psac_repair.proofs.Dividing.{busy_left, busy_right, left_place, right_place, outer_not_here}
use Rattle.psac_repair.proofs.Waking.{left_back, right_back}
use Rattle.psac_repair.proofs.Counting.{same_block, other_block}
use Rattle.psac_repair.proofs.Founding.{whole_first, whole_second, no_sum, led_marked, written_seen, out_of, into_one}
use Rattle.psac_repair.proofs.Founding.{without_one}
use Rattle.psac_repair.proofs.Beneath.{Beneath, led_past, each_both, read_at, founded_by}

pub none_founded : NoneFounded
none_founded r m u us k ns within leads y i more = absurd (omega (arith, more))

pub fewer_founded : FewerFounded
fewer_founded r m n x u us k fewer only ns within leads y i more = only ns within leads y i
    (let f = fewer y i in omega (arith, more, f))

one_unmarked : (m : MarksView) (xs : List ℕ) (x : ℕ) → NoneMarked m xs → Member x xs → 0 < times x m.marked → ⊥
one_unmarked m xs x none i more = let e = none x i in omega (arith, e, more)

pub unmarked_founded : UnmarkedFounded
unmarked_founded v m E none = tt
unmarked_founded v m (A h k) none = unmarked_founded v m k none
unmarked_founded v m (W h x k) none = unmarked_founded v m k none
unmarked_founded v m (S c t k) none = (
  λ i a. one_unmarked m (slots (S c t k)) c.slot none (inl refl) i,
  unmarked_founded v m t (λ y i. none y (inr (member_left y (slots t) (slots k) i))),
  unmarked_founded v m k (λ y i. none y (inr (member_right y (slots t) (slots k) i))),
)
unmarked_founded v m (P c t k) none = (
  λ i a. one_unmarked m (slots (P c t k)) c.slot none (inl refl) i,
  unmarked_founded v m t (λ y i. none y (inr (member_left y (slots t) (slots k) i))),
  unmarked_founded v m k (λ y i. none y (inr (member_right y (slots t) (slots k) i))),
)
unmarked_founded v m (R b t) none = (
  λ i a. one_unmarked m (slots (R b t)) b.node.slot none (inl refl) i,
  unmarked_founded v m t (λ y i. none y (inr i)),
)

-- a record whose readers of these slots were raised
module _ (r : ReadersView) (u : ValueView) (m x : MarksView) (k : Tree) (ss news found : List ℕ)
    (raised : RootRaised r u m x k ss news found) where
  abbrev Other : Handle → Value Handle → Type 0
  Other h y = Member h.slot ss → Present u h y → ⊥

  abbrev Both : Handle → Value Handle → Type 0
  Both h y = Other h y × Present u h y

  lead_past : (g : Handle) (j : Tree) → ((s : Stands) → Beneath k g.slot s → Member s (links_of j)) → EachRead Other
      (bare j)
      → AllPresent u j → (s : ℕ) → Member s ss → LeadUpIn r m (without_one g.slot (slots k)) s
  lead_past g j below other all s i l c e f =
      let y = raised.readers s l i c e f in
      let of : y.0.of.slot ≡ s = ap (λ (z : LinkView). z.of) y.2 ∙ e in
      let bad : Beneath k g.slot y.0 → ⊥ = λ under.
      (let a = read_at Both j (each_both Other (Present u) Both (λ h z p q. (p, q)) (bare j) other all) y.0
      (below y.0 under) in
      a.1.0 (subst (λ z. Member z ss) (sym of) i) a.1.1) in (
        y.0.node,
        raised.fits y.0.node.slot (node_in k y.0 y.1),
        ap (λ (z : LinkView). z.node) (sym y.2),
        led_past m (without_one g.slot (slots k)) g.slot k
            (λ z a d. into_one g.slot z (slots k) a d) None raised.nodes tt y.0 y.1 bad,
      )

  one_raised : (g : Handle) (j : Tree) → Member g.slot (slots k) →
      ((s : Stands) → Beneath k g.slot s → Member s (links_of j))
      → EachRead Other (bare j) → (IsMarked m g → AllPresent u j → ⊥) → IsMarked x g → AllPresent u j → ⊥
  one_raised g j here below other was now all =
      let sum : times g.slot x.marked ≡ times g.slot m.marked + times g.slot news =
      ap (λ (z : MarksView). times g.slot z.marked) raised.becomes ∙ times_both g.slot m.marked news in
      let none = raised.unmarked g.slot here in
      let new : Member g.slot news = times_found g.slot news (omega (arith, sum, none, now)) in
      out_of g.slot (slots k) (raised.within (without_one g.slot (slots k)) (lead_past g j below other all) g.slot new)

  root_is : Founded u x k
  root_is =
      founded_by Other u u m x k one_raised k (λ y i. i) raised.once (λ y s i q. q) raised.changed
      (unmarked_founded u m k raised.unmarked)

pub roots_found : RootsFound
roots_found r u m x k ss news found raised = root_is r u m x k ss news found raised

pub something_runs : SomethingRuns
something_runs v k new other idle =
    elim (zero_or (done k new).rerun) [
      | inl e ↦ absurd (other (idle e))
      | inr e ↦ omega (arith, e)
    ]

-- what was made or written before the rest
weaker : (v : ValueView) (k : Tree) (f : ℕ → Bool) → ((s : ℕ) → writes_slot (bare k) s ≡ true → f s ≡ true) → EachRead
    (λ m x. f m.slot ≡ true → Present v m x) (bare k) → Coherent v k
weaker v k f wider = each_read_more (λ m x. f m.slot ≡ true → Present v m x)
    (λ m x. writes_slot (bare k) m.slot ≡ true → Present v m x) (λ m x a e. a (wider m.slot e)) (bare k)

made_wider : (h : Handle) (k : Tree) (s : ℕ) → writes_slot (bare k) s ≡ true → writes_slot (bare (A h k)) s ≡ true
made_wider h k s e =
    let a = slot_touch (bare k) s e in
    subst (λ z. writes_slot (bare (A h k)) z ≡ true) a.2
    (touch_slot (bare (A h k)) a.0 (⊎_elim (λ (i : Makes (bare k) a.0). inl (inr i))
    (λ (i : In (writes (bare k)) a.0). inr i) a.1))

wrote_wider : (h : Handle) (x : Plain) (k : Tree) (s : ℕ) → writes_slot (bare k) s ≡ true → writes_slot
    (bare (W h x k)) s ≡ true
wrote_wider h x k s e =
    let a = slot_touch (bare k) s e in
    subst (λ z. writes_slot (bare (W h x k)) z ≡ true) a.2
    (touch_slot (bare (W h x k)) a.0 (⊎_elim (λ (i : Makes (bare k) a.0). inl i)
    (λ (i : In (writes (bare k)) a.0). inr (in_front (writes (bare k)) ((h, value_of x) ∷ []) a.0 i)) a.1))

pub made_founds : MadeFounds
made_founds v m h k =
    record {
      coherent = weaker v k (writes_slot (bare (A h k))) (made_wider h k);
      founded = λ f. f;
      only = λ r u n us only ns within leads. only ns within leads;
      idle = λ u i e. i e;
    }

pub wrote_founds : WroteFounds
wrote_founds v m h x k =
    record {
      coherent = weaker v k (writes_slot (bare (W h x k))) (wrote_wider h x k);
      founded = λ f. f;
      only = λ r u n us only ns within leads. only ns within (λ g a. leads g (a.0, inr a.1, a.2, a.3, a.4));
      idle = λ u i e. i e;
    }

-- on another view, where what was read is seen there too, and on marks of which no more are set
founded_map : (v u : ValueView) (m n : MarksView) (Q : Handle → Value Handle → Type 0) →
    ((h : Handle) (x : Value Handle) → Q h x → Present u h x → Present v h x) → (k : Tree) → EachRead Q (bare k) →
    ((y : ℕ) → Member y (slots k) → 0 < times y n.marked → 0 < times y m.marked) → Founded v m k → Founded u n k
founded_map v u m n Q back E q marks f = tt
founded_map v u m n Q back (A h k) q marks f = founded_map v u m n Q back k q marks f
founded_map v u m n Q back (W h x k) q marks f = founded_map v u m n Q back k q marks f
founded_map v u m n Q back (S c t k) q marks f = (
  λ i a. f.0 (marks c.slot (inl refl) i) (each_both Q (Present u) (Present v) back (bare (S c t k)) q a),
  founded_map v u m n Q back t q.0 (λ y i. marks y (inr (member_left y (slots t) (slots k) i))) f.1,
  founded_map v u m n Q back k q.1 (λ y i. marks y (inr (member_right y (slots t) (slots k) i))) f.2,
)
founded_map v u m n Q back (P c t k) q marks f = (
  λ i a. f.0 (marks c.slot (inl refl) i) (each_both Q (Present u) (Present v) back (bare (P c t k)) q a),
  founded_map v u m n Q back t q.0 (λ y i. marks y (inr (member_left y (slots t) (slots k) i))) f.1,
  founded_map v u m n Q back k q.1 (λ y i. marks y (inr (member_right y (slots t) (slots k) i))) f.2,
)
founded_map v u m n Q back (R b t) q marks f = (
  λ i a. f.0 (marks b.node.slot (inl refl) i) (each_both Q (Present u) (Present v) back (bare (R b t)) q a),
  founded_map v u m n Q back t q.1 (λ y i. marks y (inr i)) f.1,
)

-- none of the reads is of what the record k made or wrote
abbrev FreeOf : Tree → Handle → Value Handle → Type 0
FreeOf k h x = writes_slot (bare k) h.slot ≡ false

free_reads : (k : Tree) (node : Handle) (reads : List Seen) →
    ((s : Stands) → Member s (map (stands node) reads) → writes_slot (bare k) s.of.slot ≡ false) → EachOf (FreeOf k)
    (reads_of reads)
free_reads k node [] f = tt
free_reads k node (r ∷ reads) f = (f (stands node r) (inl refl), free_reads k node reads (λ s i. f s (inr i)))

free_each : (k j : Tree) → Unread (links_of j) k → EachRead (FreeOf k) (bare j)
free_each k E f = tt
free_each k (A h j) f = free_each k j f
free_each k (W h x j) f = free_each k j f
free_each k (S c t j) f = (
  free_each k t (λ s i. f s (member_left s (links_of t) (links_of j) i)),
  free_each k j
      (λ s i. f s (member_right s (links_of t) (links_of j) i)),
)
free_each k (P c t j) f = (
  free_each k t (λ s i. f s (member_left s (links_of t) (links_of j) i)),
  free_each k j
      (λ s i. f s (member_right s (links_of t) (links_of j) i)),
)
free_each k (R b t) f = (
  free_reads k b.node b.reads
      (λ s i. f s (member_left s (map (stands b.node) b.reads) (links_of t) i)),
  free_each k t
      (λ s i. f s (member_right s (map (stands b.node) b.reads) (links_of t) i)),
)

is_not : (b : Bool) → not b ≡ false → b ≡ true
is_not true h = refl
is_not false h = absurd cc

-- both sides of a par
module _ (r : ReadersView) (v : ValueView) (m : MarksView) (us : List ℕ) (above : Option Handle) (n : Handle)
    (l k : Tree) (rooted : Rooted m) (p : Planted m us above (P n l k)) (w : Wired r m us above (P n l k))
    (o : Ordered (P n l k)) (marked : IsMarked m n) (co : Coherent v (P n l k)) (fo : Founded v m (P n l k)) where
  abbrev Sets : ℕ → Bool
  Sets = neither (bare l) (bare k)

  abbrev Goes : ℕ → Bool
  Goes = writes_slot (bare k)

  abbrev LV : ValueView
  LV = left_view l k v

  abbrev RV : ValueView
  RV = right_view l k v

  abbrev LM : MarksView
  LM = L m rooted us above n l k p

  abbrev RM : MarksView
  RM = K m rooted us above n l k p

  abbrev Over : ℕ → Bool
  Over = marks.goes_over (outside m l k) (has_node k) m

  to_left : (h : Handle) (x : Value Handle) → FreeOf k h x → Present LV h x → Present v h x
  to_left h x f a y s = a y (left_sees Sets Goes v h y s (λ has. f))

  to_right : (h : Handle) (x : Value Handle) → FreeOf l h x → Present RV h x → Present v h x
  to_right h x f a y s = a y (right_sees Sets Goes v h y s
      (λ has e. is_not (Goes h.slot) (ap (λ z. not z && not (Goes h.slot)) (sym f) ∙ e)))

  marks_left : (y : ℕ) → 0 < times y LM.marked → 0 < times y m.marked
  marks_left y i = (filter_some (λ z. not (Over z)) y m.marked i).1

  marks_right : (y : ℕ) → 0 < times y RM.marked → 0 < times y m.marked
  marks_right y i = (filter_some Over y m.marked i).1

  coherent_left : Coherent LV l
  coherent_left =
      each_read_more (λ h x. writes_slot (bare (P n l k)) h.slot ≡ true → Present v h x)
      (λ h x. writes_slot (bare l) h.slot ≡ true → Present LV h x)
      (λ h x a e y s. a (whole_first n l k h.slot e) y (left_back Sets Goes v h y s)) (bare l) co.0

  coherent_right : Coherent RV k
  coherent_right =
      each_read_more (λ h x. writes_slot (bare (P n l k)) h.slot ≡ true → Present v h x)
      (λ h x. writes_slot (bare k) h.slot ≡ true → Present RV h x)
      (λ h x a e y s. a (whole_second n l k h.slot e) y (right_back Sets Goes v h y s)) (bare k) co.1

  founded_left : Founded LV LM l
  founded_left = founded_map v LV m LM (FreeOf k) to_left l (free_each k l o.0) (λ y i. marks_left y) fo.1

  founded_right : Founded RV RM k
  founded_right = founded_map v RV m RM (FreeOf l) to_right k (free_each l k o.1) (λ y i. marks_right y) fo.2

  sides_idle : (u w' : Tree) → Idle LV l u → Idle RV k w' → Idle v (P n l k) (P n u w')
  sides_idle u w' one two e =
      let none = no_sum (done l u).rerun (done k w').rerun e in (
        each_both (FreeOf k) (Present LV) (Present v) to_left (bare l) (free_each k l o.0) (one none.0),
        each_both (FreeOf l) (Present RV) (Present v) to_right (bare k) (free_each l k o.1) (two none.1),
      )

  module _ (a b j : ValueView) (x y z : MarksView) (un : United a b j) (is : z ≡ marks.joined x y)
      (one : OnlyWoken (left_pass l k r) LM a x (n.slot ∷ us) l)
      (two : OnlyWoken (right_pass l k r) RM b y (n.slot ∷ us) k) (ns : List ℕ)
      (within : (e : ℕ) → Member e ns → Member e us)
      (leads : (h : Handle) → Altered j (P n l k) h → LeadOut r m us ns h.slot) where
    side_ns : List ℕ
    side_ns = n.slot ∷ ns

    side_within : (e : ℕ) → Member e (n.slot ∷ ns) → Member e (n.slot ∷ us)
    side_within e (inl i) = inl i
    side_within e (inr i) = inr (within e i)

    -- on the whole pass
    lead_whole : (h : Handle) → Altered j (P n l k) h → LeadOut r m (n.slot ∷ us) (n.slot ∷ ns) h.slot
    lead_whole h alt q g i e f d low (inl same) = subst (LeadsIn m (n.slot ∷ ns)) same
        (led_marked m (n.slot ∷ ns) above n p.nodes.0 marked (inl refl))
    lead_whole h alt q g i e f d low (inr c) = led_wider m ns (n.slot ∷ ns) (λ s t. inr t) g.slot
        (leads h alt q g i e f d low c)

    on_left : (e : ℕ) → LeadsIn m (n.slot ∷ ns) e → LeadsIn LM (n.slot ∷ ns) e
    on_left =
        led_on m LM (n.slot ∷ ns) (λ e i c. left_place r m us above n l k rooted p w o e i
        (side_within e.node.slot c)) (λ e i h. left_kept m rooted us above n l k p e h)
        (λ e i h. busy_left r m us above n l k rooted p w o e
        (λ c. beside_not_right m rooted us above n l k p e (side_within e i) c) h)

    on_right : (e : ℕ) → LeadsIn m (n.slot ∷ ns) e → LeadsIn RM (n.slot ∷ ns) e
    on_right =
        led_on m RM (n.slot ∷ ns) (λ e i c. right_place r m us above n l k rooted p w o e i
        (side_within e.node.slot c)) (λ e i h. right_kept m rooted us above n l k p e h)
        (λ e i h. busy_right r m us above n l k rooted p w o e
        (outer_not_here r m us above n l k rooted p w o e (side_within e i)) h)

    altered_left : (h : Handle) → Altered a l h → Altered j (P n l k) h
    altered_left h c = (
      c.0,
      member_left (h, c.0) (puts l) (puts k) c.1,
      c.2,
      (c.3.0, c.3.1, un.knows h c.3.0 (inl c.3.2), c.3.3, c.3.4),
      c.4,
    )

    altered_right : (h : Handle) → Altered b k h → Altered j (P n l k) h
    altered_right h c = (
      c.0,
      member_right (h, c.0) (puts l) (puts k) c.1,
      c.2,
      (c.3.0, c.3.1, un.knows h c.3.0 (inr c.3.2), c.3.3, c.3.4),
      c.4,
    )

    lead_left : (h : Handle) → Altered a l h → LeadOut (left_pass l k r) LM (n.slot ∷ us) (n.slot ∷ ns) h.slot
    lead_left h c q g i e f d low in_us =
        on_left g.slot (lead_whole h (altered_left h c) q g
        (member_filter (λ s. not (readers.right_link Sets Goes (has_link k) s)) q r.links i).0 e f d low in_us)

    lead_right : (h : Handle) → Altered b k h → LeadOut (right_pass l k r) RM (n.slot ∷ us) (n.slot ∷ ns) h.slot
    lead_right h c q g i e f d low in_us =
        on_right g.slot (lead_whole h (altered_right h c) q g
        (member_filter (readers.right_link Sets Goes (has_link k)) q r.links i).0 e f d low in_us)

    past_node : (e : ℕ) → Member e us → Member e (n.slot ∷ ns) → Member e ns
    past_node e i (inl same) = absurd (p.apart e i (inl same))
    past_node e i (inr c) = c

    not_over_here : (e : ℕ) → Member e us → Over e ≡ false
    not_over_here e i = not_over m rooted us above n l k p e
        (λ c. beside_not_right m rooted us above n l k p e (inr i) c)

    joined_only : (e : ℕ) → Member e us → times e m.marked < times e z.marked → Member e ns
    joined_only e i more =
        let sum : times e z.marked ≡ times e x.marked + times e y.marked = ap (λ (d : MarksView). times e d.marked) is
        ∙ times_both e x.marked y.marked in
        let same : times e LM.marked ≡ times e m.marked = times_in (λ d. not (Over d)) e m.marked
        (ap not (not_over_here e i)) in
        let none : times e RM.marked ≡ 0 = times_out Over e m.marked (not_over_here e i) in
        elim (zero_or (times e y.marked)) [
          | inl q ↦ past_node e i (one (n.slot ∷ ns) side_within lead_left e (inr i)
              (omega (arith, more, sum, same, q)))
          | inr q ↦ past_node e i (two (n.slot ∷ ns) side_within lead_right e (inr i) (omega (arith, none, q)))
        ]

  pub sides_are : SidesFound r v m us n l k
  sides_are =
      record {
        left = (coherent_left, founded_left);
        right = (coherent_right, founded_right);
        both = joined_only;
        idle = sides_idle;
      }

pub sides_found : SidesFoundUp
sides_found r v m us above n l k rooted p w o marked co fo = sides_are r v m us above n l k rooted p w o marked co fo

-- a read block
pub blocks_found : BlocksFound
blocks_found r v m us above b t p marked co fo =
    record {
      body = (co.1, fo.1);
      same = λ u x only ns within leads y i more. past y ns i
          (only (b.node.slot ∷ ns) (λ e c. wider ns within e c) (λ h a. lead ns h.slot (leads h a)) y (inr i) more);
      idle = λ a all one e. (all, one (ap (λ z. z.rerun) (sym (same_block b t a)) ∙ e));
      again = λ c a other e. absurd (let d : 1 ≡ 0 = ap (λ z. z.rerun) (sym (other_block b c t a other)) ∙ e in omega
          (arith, d));
    }
  where
    past : (y : ℕ) (ns : List ℕ) → Member y us → Member y (b.node.slot ∷ ns) → Member y ns
    past y ns i (inl e) = absurd (p.apart y i (inl e))
    past y ns i (inr c) = c

    wider : (ns : List ℕ) → ((e : ℕ) → Member e ns → Member e us) → (e : ℕ) → Member e (b.node.slot ∷ ns) → Member e
        (b.node.slot ∷ us)
    wider ns within e (inl c) = inl c
    wider ns within e (inr c) = inr (within e c)

    lead : (ns : List ℕ) (s : ℕ) → LeadOut r m us ns s → LeadOut r m (b.node.slot ∷ us) (b.node.slot ∷ ns) s
    lead ns s leads l g i e f d low (inl c) = subst (LeadsIn m (b.node.slot ∷ ns)) c
        (led_marked m (b.node.slot ∷ ns) above b.node p.nodes.0 marked (inl refl))
    lead ns s leads l g i e f d low (inr c) = led_wider m ns (b.node.slot ∷ ns) (λ z q. inr q) g.slot
        (leads l g i e f d low c)

-- a path begins with its node
first_in : (m : MarksView) (us : List ℕ) (x : ℕ) (path : List Place) → Leads m x path →
    ((e : Place) → Member e path → Member e.node.slot us) → Member x us
first_in m us x [] l i = absurd l
first_in m us x (e ∷ es) l i = subst (λ z. Member z us) l.0 (i e (inl refl))

pub runs_only : RunsOnly
runs_only r q v u m x n us above b t ws own p w o left fewer on run ns within leads y i more =
    run.only ns lead y (let f = fewer y i in omega (arith, more, f))
  where
    lead : (h : Handle) (c d : Plain) → Member (h, c) (puts t) → Member (h, d) ws → (Sees v h (value_of d) → ⊥)
        → LeadUpIn q x ns h.slot
    lead h c d ic id other l j e f =
        let up = readers_lead r m us above b t p w o q left m (λ z a. a) h.slot ((h, c), ic, refl) l j e f in
        let here : Member up.0.slot us = first_in m us up.0.slot up.3.0 up.3.1 up.3.2 in
        let alt : Altered u (R b t) h = (
          c,
          ic,
          value_of d,
          run.told h d id,
          λ same. other
              (subst (Sees v h) same (written_seen v t h c own ic).1),
        ) in
        ⊎_elim
        (λ (a : Member l r.links). (up.0, up.1, up.2, on ns within up.0.slot (leads h alt l up.0 a e f up.2 up.1 here)))
        (λ (a : (s : Stands) × Member s [] × (standing s ≡ l)). absurd a.1)
        (link_back r q (links_of t) [] left l j f)
