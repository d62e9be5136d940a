-- Marks and the blocks that they stand over, where two parts stand one after the other.
use Rattle.std.proofs.Common.{◌≡◌, ◌≢◌, ◌⊎◌, ◌==◌, ℕ, ◌+◌, ◌-◌, ◌<◌, true, false, not, List, [], ◌∷◌, ◌++◌}
use Rattle.std.proofs.Common.{Option, Some, refl, ap, sym, ◌∙◌, subst, inl, inr, ⊎_elim, arith}
use Rattle.std.specs.Prelude.{filter}
use Rattle.psac_ops.specs.declared.plain.Handle.{Handle}
use Rattle.psac_ops.specs.declared.plain.Plain.{Plain}
use Rattle.psac_ops.specs.Value.{Value}
use Rattle.psac_ops.specs.Named.{value_of}
use Rattle.psac_slots.specs.Handles.{Member, word_of}
use Rattle.psac_slots.specs.Claiming.{times}
use Rattle.psac_slots.proofs.Pairs.{member_left, member_right, member_cases, member_filter, filter_member}
use Rattle.psac_laws.proofs.Places.{nat_is, nat_same, some_is, zero_or, test_or, not_both}
use Rattle.psac_values.specs.declared.view.ValueView.{ValueView}
use Rattle.psac_values.specs.Knowing.{Has}
use Rattle.psac_readers.specs.declared.view.LinkView.{LinkView}
use Rattle.psac_readers.specs.declared.view.ReadersView.{ReadersView}
use Rattle.psac_marks.specs.declared.view.OwnView.{OwnView}
use Rattle.psac_marks.specs.declared.view.SharedView.{SharedView}
use Rattle.psac_marks.specs.declared.view.MarksView.{MarksView}
use Rattle.psac_marks.specs.Marked.{Place, places, own_place, shared_place}
use Rattle.psac_marks.specs.Passes.{slot_of}
use Rattle.psac_marks.proofs.Parts.{place_own, place_shared, place_cases}
use Rattle.psac_raise.specs.Raise.{IsSlot, LeadsIn}
use Rattle.psac_raise.proofs.Going.{slot_is}
use Rattle.psac_traced.specs.Holds.{EachRead}
use Rattle.psac_record.specs.Kept.{Kept as Tree, E, A, W, S, P, R, Stands, links_of, bare}
use Rattle.psac_trace.specs.Rights.{Sees, Tidy}
use Rattle.psac_trace.specs.Raising.{puts}
use Rattle.psac_trace.proofs.Heaps.{handle_or}
use Rattle.psac_trace.proofs.Raised.{slots_apart}
use Rattle.psac_repair.specs.Divided.{writes_slot}
use Rattle.psac_repair.specs.Marks.{Present, IsMarked, Sits}
use Rattle.psac_repair.specs.Stood.{Owned}
use Rattle.psac_repair.specs.Planted.{slots, Planted, Passed}
use Rattle.psac_repair.specs.Linked.{standing}
use Rattle.psac_repair.specs.Rewired.{Unread, Ordered, NodeIn, Wired, Relinks}
use Rattle.psac_repair.specs.Watched.{Watched, Steady}
use Rattle.psac_repair.specs.Counted.{done}
use Rattle.psac_repair.specs.Founded.{AllPresent, Coherent, Founded, Altered, LeadOut, OnlyWoken, Idle}
use Rattle.psac_repair.specs.FoundLaws.{PartsFound, StepsFound, TurnsFound}
use Rattle.psac_repair.proofs.Passing.{kept_on}
use Rattle.psac_repair.proofs.Rewiring.{wrote_slot, free_first, free_second, writes_first, link_back}
use Rattle.psac_repair.proofs.Rewiring.{led_on, led_wider, led_nodes, node_in}
use Rattle.psac_repair.proofs.Dividing.{pair_planted, pair_wired, pair_ordered}
use Rattle.psac_repair.proofs.Beneath.{Beneath, led_past, each_both, read_at, IsKnown, watched_known}
use Rattle.psac_repair.proofs.Beneath.{founded_by}

-- what a record wrote the pass has, and knows
pub written_seen : (v : ValueView) (k : Tree) (h : Handle) (x : Plain) → Owned v (bare k) → Member (h, x) (puts k)
    → Has v h × Sees v h (value_of x)
written_seen v E h x o i = absurd i
written_seen v (A n r) h x o i = written_seen v r h x o.1 i
written_seen v (W n y r) h x o i =
    ⊎_elim
    (λ (e : (n, y) ≡ (h, x)). (
      subst (λ (z : Handle). Has v z) (ap (λ (z : Handle × Plain). z.0) e) o.0,
      subst
          (λ (z : Handle × Plain). Sees v z.0 (value_of z.1)) e o.1,
    ))
    (λ (j : Member (h, x) (puts r)). written_seen v r h x o.2 j)
    i
written_seen v (S n t r) h x o i =
    ⊎_elim (λ (j : Member (h, x) (puts t)). written_seen v t h x o.0 j)
    (λ (j : Member (h, x) (puts r)). written_seen v r h x o.1 j) (member_cases (h, x) (puts t) (puts r) i)
written_seen v (P n t r) h x o i =
    ⊎_elim (λ (j : Member (h, x) (puts t)). written_seen v t h x o.0 j)
    (λ (j : Member (h, x) (puts r)). written_seen v r h x o.1 j) (member_cases (h, x) (puts t) (puts r) i)
written_seen v (R b t) h x o i = written_seen v t h x o i

-- what a part touched the whole did
pub whole_first : (n : Handle) (t k : Tree) (s : ℕ) → writes_slot (bare t) s ≡ true → writes_slot
    (bare (S n t k)) s ≡ true
whole_first n t k s e = elim (test_or (writes_slot (bare (S n t k)) s))
    [ inl f ↦ f | inr f ↦ absurd (not_both e (free_first n t k s f)) ]

pub whole_second : (n : Handle) (t k : Tree) (s : ℕ) → writes_slot (bare k) s ≡ true → writes_slot
    (bare (S n t k)) s ≡ true
whole_second n t k s e = elim (test_or (writes_slot (bare (S n t k)) s))
    [ inl f ↦ f | inr f ↦ absurd (not_both e (free_second n t k s f)) ]

-- a number is less than another one, or that one less than a third
pub less_or : (i j k : ℕ) → i < k → (i < j) ⊎ (j < k)
less_or i j k h = elim (zero_or (j - i)) [ inl z ↦ inr (omega (arith, z, h)) | inr z ↦ inl (omega (arith, z)) ]

pub no_sum : (a b : ℕ) → a + b ≡ 0 → (a ≡ 0) × (b ≡ 0)
no_sum a b e = (omega (arith, e), omega (arith, e))

-- a node that the pass has alone and that is marked leads up by itself
pub led_marked : (m : MarksView) (ws : List ℕ) (above : Option Handle) (n : Handle) → Sits m above n → IsMarked m n
    → Member n.slot ws → LeadsIn m ws n.slot
led_marked m ws above n s b i =
    let o : OwnView = record { node = n; parent = slot_of above } in
    let e : Place = own_place m.claims.branch o in (
      e ∷ [],
      (refl, place_own m o s.0, s.1, inr (inl (inl b))),
      λ f j. ⊎_elim
          (λ (d : e ≡ f). subst (λ (z : Place). Member z.node.slot ws) d i) (λ (d : Member f []). absurd d) j,
    )

-- a list without one of its members
abbrev pub without_one : ℕ → List ℕ → List ℕ
without_one x = filter (λ y. not (y == x))

pub out_of : (x : ℕ) (ws : List ℕ) → Member x (without_one x ws) → ⊥
out_of x ws i = not_both ((member_filter (λ y. not (y == x)) x ws i).1) (ap not (nat_same x))

pub into_one : (x y : ℕ) (ws : List ℕ) → Member y ws → y ≢ x → Member y (without_one x ws)
into_one x y ws i d =
    filter_member (λ z. not (z == x)) y ws i
    (elim (test_or (y == x)) [
      | inl e ↦ absurd (d (nat_is y x e))
      | inr e ↦ ap not e
    ])

module _ (r : ReadersView) (v : ValueView) (m : MarksView) (us : List ℕ) (above : Option Handle) (n : Handle)
    (t k : Tree) (tidy : Tidy v) (own : Owned v (bare (S n t k))) (p : Planted m us above (S n t k))
    (w : Wired r m us above (S n t k)) (o : Ordered (S n t k)) (watched : Watched v m (S n t k))
    (marked : IsMarked m n) (co : Coherent v (S n t k)) (fo : Founded v m t × Founded v m k) where
  abbrev wide : List ℕ
  wide = n.slot ∷ us ++ slots k

  -- what is so of each read of the whole
  abbrev Told : Handle → Value Handle → Type 0
  Told h x = (writes_slot (bare (S n t k)) h.slot ≡ true → Present v h x) × IsKnown v h x

  told_first : EachRead Told (bare t)
  told_first = each_both (λ h x. writes_slot (bare (S n t k)) h.slot ≡ true → Present v h x) (IsKnown v) Told
      (λ h x a b. (a, b)) (bare t) co.0 (watched_known v m t watched.0)

  told_rest : EachRead Told (bare k)
  told_rest = each_both (λ h x. writes_slot (bare (S n t k)) h.slot ≡ true → Present v h x) (IsKnown v) Told
      (λ h x a b. (a, b)) (bare k) co.1 (watched_known v m k watched.1)

  pub part_coherent : Coherent v t
  part_coherent = each_both Told Told (λ h x. writes_slot (bare t) h.slot ≡ true → Present v h x)
      (λ h x a b e. a.0 (whole_first n t k h.slot e)) (bare t) told_first told_first

  -- behind the first part
  module _ (u : ValueView) (x : MarksView) (steady : Steady v u t) where
    present_back : (h : Handle) (y : Value Handle) → Told h y → Present u h y → Present v h y
    present_back h y a b =
        elim (test_or (writes_slot (bare t) h.slot)) [
          | inl e ↦ a.0 (whole_first n t k h.slot e)
          | inr e ↦ λ z s. b z ((steady h z s e).0)
        ]

    pub all_back : (j : Tree) → EachRead Told (bare j) → AllPresent u j → AllPresent v j
    all_back j a b = each_both Told (Present u) (Present v) (λ h y c d. present_back h y c d) (bare j) a b

    rest_coherent : Coherent u k
    rest_coherent =
        each_both Told Told (λ h y. writes_slot (bare k) h.slot ≡ true → Present u h y)
        (λ h y a b e.
        let free : writes_slot (bare t) h.slot ≡ false = elim
        (test_or (writes_slot (bare t) h.slot)) [ inl f ↦ absurd (not_both e (o.3 h.slot f)) | inr f ↦ f ] in
        λ z s. a.0 (whole_second n t k h.slot e) z ((steady h a.1.0 a.1.1 free).1 z s))
        (bare k) told_rest told_rest

    -- a read of what was altered isn't of what is present
    not_present : (j : Tree) → EachRead Told (bare j) → AllPresent u j → (h : Handle) → Altered u t h → (s : Stands)
        → Member s (links_of j) → s.of.slot ≡ h.slot → ⊥
    not_present j a b h alt s i e =
        let both : (y : Value Handle) × (Told s.of y × Present u s.of y) = read_at (λ g y. Told g y × Present u g y) j
        (each_both Told (Present u) (λ g y. Told g y × Present u g y) (λ g y c d. (c, d)) (bare j) a b) s i in
        let had = written_seen v t h alt.0 own.0 alt.1 in
        elim (handle_or s.of h) [
          | inr d ↦ slots_apart v tidy s.of h both.1.0.1.0 both.1.0.1.1 had.0 d.0 e
          | inl f ↦
              (let touched : writes_slot (bare (S n t k)) s.of.slot ≡ true = subst
              (λ z. writes_slot (bare (S n t k)) z ≡ true) (sym e)
              (wrote_slot (S n t k) h.slot (writes_first n t k h.slot ((h, alt.0), alt.1, refl))) in
              let was : both.0 ≡ value_of alt.0 = both.1.0.0 touched (value_of alt.0)
              (subst (λ z. Sees v z (value_of alt.0)) (sym f) had.1) in
              let now : both.0 ≡ alt.2 = both.1.1 alt.2 (subst (λ z. Sees u z alt.2) (sym f) alt.3) in
              alt.4 (sym was ∙ now))
        ]

    module _ (c : Passed m x wide (slots t)) (only : OnlyWoken r m u x wide t) where
      -- one node of the second part
      module _ (g : Handle) (j : Tree) (here : Member g.slot (slots k))
          (below : (s : Stands) → Beneath k g.slot s → Member s (links_of j)) (told : EachRead Told (bare j))
          (was : IsMarked m g → AllPresent v j → ⊥) where
        abbrev past : List ℕ
        past = without_one g.slot wide

        not_outside : (y : ℕ) → Member y (n.slot ∷ us) → y ≢ g.slot
        not_outside y (inl e) d = p.once.0
            (member_right n.slot (slots t) (slots k) (subst (λ z. Member z (slots k)) (sym d ∙ sym e) here))
        not_outside y (inr i) d = p.apart y i
            (inr (member_right y (slots t) (slots k) (subst (λ z. Member z (slots k)) (sym d) here)))

        outer_past : (y : ℕ) → Member y (n.slot ∷ us) → Member y past
        outer_past y (inl e) = into_one g.slot y wide (inl e) (not_outside y (inl e))
        outer_past y (inr i) = into_one g.slot y wide (inr (member_left y us (slots k) i)) (not_outside y (inr i))

        node_past : LeadsIn m past n.slot
        node_past = led_marked m past above n p.nodes.0 marked (outer_past n.slot (inl refl))

        us_past : (y : ℕ) → Member y us → LeadsIn m past y
        us_past y i = led_wider m us past (λ z a. outer_past z (inr a)) y (w.led y i)

        out_past : AllPresent u j → (h : Handle) → Altered u t h → LeadOut r m wide past h.slot
        out_past all h alt l b i e f d low inside =
            ⊎_elim
            (λ (a : (s : Stands) × Member s (links_of t ++ links_of k) × (standing s ≡ l)). read_past a.0 a.1 a.2)
            (λ (a : NodeIn us l.node).
            let same : word_of a.0 ≡ word_of b = some_is (sym a.2 ∙ d) in
            subst (LeadsIn m past) (slot_is a.0 b same a.1 low) (us_past a.0.slot a.3))
            (w.readers h.slot l (writes_first n t k h.slot ((h, alt.0), alt.1, refl)) i e f)
          where
            not_first : Member b.slot (slots t) → Member b.slot wide → ⊥
            not_first a (inl e') = p.once.0
                (member_left n.slot (slots t) (slots k) (subst (λ z. Member z (slots t)) (sym e') a))
            not_first a (inr q) =
                ⊎_elim
                (λ (z : Member b.slot us). p.apart b.slot z (inr (member_left b.slot (slots t) (slots k) a)))
                (λ (z : Member b.slot (slots k)). p.once.1 b.slot a z)
                (member_cases b.slot us (slots k) q)

            read_past : (s : Stands) → Member s (links_of t ++ links_of k) → standing s ≡ l → LeadsIn m past b.slot
            read_past s a is =
                let same : word_of s.node ≡ word_of b = some_is (ap (λ (z : LinkView). z.node) is ∙ d) in
                let fits : IsSlot s.node.slot = w.fits s.node.slot (node_in (S n t k) s a) in
                let slot : s.node.slot ≡ b.slot = slot_is s.node b same fits low in
                let of : s.of.slot ≡ h.slot = ap (λ (z : LinkView). z.of) is ∙ e in
                ⊎_elim
                (λ (q : Member s (links_of t)). absurd
                (not_first (subst (λ z. Member z (slots t)) slot (node_in t s q)) inside))
                (λ (q : Member s (links_of k)).
                subst (LeadsIn m past) slot
                (led_past m past g.slot k
                (λ y a' d'. into_one g.slot y wide (inr (member_right y us (slots k) a')) d')
                (Some n) p.nodes.2 node_past s q
                (λ under. not_present j told all h alt s (below s under) of)))
                (member_cases s (links_of t) (links_of k) a)

        pub one_founded : IsMarked x g → AllPresent u j → ⊥
        one_founded now all =
            elim (zero_or (times g.slot m.marked)) [
              | inr old ↦ was (omega (arith, old)) (all_back j told all)
              | inl none ↦
                  out_of g.slot wide
                  (only past (λ y i. (member_filter (λ z. not (z == g.slot)) y wide i).0) (out_past all) g.slot
                  (inr (member_right g.slot us (slots k) here)) (omega (arith, now, none)))
            ]

      pub rest_founded : Coherent u k × Founded u x k
      rest_founded = (
        rest_coherent,
        founded_by Told v u m x k one_founded k (λ y i. i) p.once.3
            (λ y s i q. q) told_rest fo.1,
      )

  -- both parts
  module _ (q : ReadersView) (u z : ValueView) (x y : MarksView) (gone made : List Stands)
      (re : Relinks r q t gone made) (unread : Unread made k) (one : Steady v u t)
      (two : Steady u z k) (c : Passed m x wide (slots t)) (first : OnlyWoken r m u x wide t)
      (second : OnlyWoken q x z y (n.slot ∷ us) k) where
    out : (e : ℕ) → Member e (n.slot ∷ us) → Member e (slots t) → ⊥
    out e (inl i) j = p.once.0 (member_left n.slot (slots t) (slots k) (subst (λ d. Member d (slots t)) (sym i) j))
    out e (inr i) j = p.apart e i (inr (member_left e (slots t) (slots k) j))

    place_on : (e : Place) → Member e (places m) → Member e (places x)
    place_on e i =
        ⊎_elim
        (λ (d : (g : OwnView) × Member g m.own × (own_place m.claims.branch g ≡ e)).
        subst (λ b. Member b (places x)) (ap (λ b. own_place b d.0) c.branch ∙ d.2) (place_own x d.0 (c.keeps d.0 d.1)))
        (λ (d : (g : SharedView) × Member g m.shared × (shared_place g ≡ e)).
        subst (λ b. Member b (places x)) d.2 (place_shared x d.0 (subst (Member d.0) (sym c.shared) d.1)))
        (place_cases m e i)

    still_sits : Sits x above n
    still_sits = (
      c.keeps (record { node = n; parent = slot_of above }) p.nodes.0.0,
      kept_on m x wide
          (slots t) c n.slot (out n.slot (inl refl)) p.nodes.0.1,
    )

    still_marked : IsMarked x n
    still_marked = let e = c.marked n.slot (out n.slot (inl refl)) in omega (arith, e, marked)

    module _ (ns : List ℕ) (within : (e : ℕ) → Member e ns → Member e us)
        (leads : (h : Handle) → Altered z (S n t k) h → LeadOut r m us ns h.slot) where
      -- what the first part altered stays altered
      altered_on : (h : Handle) → Altered u t h → Altered z (S n t k) h
      altered_on h a = (
        a.0,
        member_left (h, a.0) (puts t) (puts k) a.1,
        a.2,
        (two h a.2 a.3 (o.3 h.slot (wrote_slot t h.slot ((h, a.0), a.1, refl)))).0,
        a.4,
      )

      abbrev first_ns : List ℕ
      first_ns = n.slot ∷ ns ++ slots k

      node_first : LeadsIn m first_ns n.slot
      node_first = led_marked m first_ns above n p.nodes.0 marked (inl refl)

      lead_first : (h : Handle) → Altered u t h → LeadOut r m wide first_ns h.slot
      lead_first h a l b i e f d low (inl is) = subst (LeadsIn m first_ns) is node_first
      lead_first h a l b i e f d low (inr j) =
          ⊎_elim
          (λ (g : Member b.slot us). led_wider m ns first_ns (λ s s'. inr (member_left s ns (slots k) s')) b.slot
          (leads h (altered_on h a) l b i e f d low g))
          (λ (g : Member b.slot (slots k)). led_nodes m first_ns (Some n) k p.nodes.2 node_first
          (λ s s'. inr (member_right s ns (slots k) s')) b.slot g)
          (member_cases b.slot us (slots k) j)

      first_within : (e : ℕ) → Member e first_ns → Member e wide
      first_within e (inl i) = inl i
      first_within e (inr i) =
          inr (⊎_elim (λ (j : Member e ns). member_left e us (slots k) (within e j))
          (λ (j : Member e (slots k)). member_right e us (slots k) j) (member_cases e ns (slots k) i))

      led_behind : (e : ℕ) → LeadsIn m ns e → LeadsIn x ns e
      led_behind =
          led_on m x ns (λ d i j. place_on d i) (λ d i h. kept_on m x wide (slots t) c d (out d (inr (within d i))) h)
          (λ d i h. c.busy d (out d (inr (within d i))) h)

      lead_second : (h : Handle) → Altered z k h → LeadOut q x (n.slot ∷ us) (n.slot ∷ ns) h.slot
      lead_second h a l b i e f d low (inl is) = subst (LeadsIn x (n.slot ∷ ns)) is
          (led_marked x (n.slot ∷ ns) above n still_sits still_marked (inl refl))
      lead_second h a l b i e f d low (inr j) =
          ⊎_elim
          (λ (g : Member l r.links).
          led_wider x ns (n.slot ∷ ns) (λ s s'. inr s') b.slot
          (led_behind b.slot (leads h (a.0, member_right (h, a.0) (puts t) (puts k) a.1, a.2, a.3, a.4) l b g e f d
          low j)))
          (λ (g : (s : Stands) × Member s made × (standing s ≡ l)).
          let same : g.0.of.slot ≡ h.slot = ap (λ (s : LinkView). s.of) g.2 ∙ e in
          absurd (not_both (wrote_slot k h.slot ((h, a.0), a.1, refl))
          (ap (writes_slot (bare k)) (sym same) ∙ unread g.0 g.1)))
          (link_back r q gone made re.relinked l i f)

      second_within : (e : ℕ) → Member e (n.slot ∷ ns) → Member e (n.slot ∷ us)
      second_within e (inl i) = inl i
      second_within e (inr i) = inr (within e i)

      not_node : (e : ℕ) → Member e us → n.slot ≡ e → ⊥
      not_node e i is = p.apart e i (inl is)

      woken_both : (e : ℕ) → Member e us → times e m.marked < times e y.marked → Member e ns
      woken_both e i more =
          elim (less_or (times e m.marked) (times e x.marked) (times e y.marked) more) [
            | inl a ↦
                elim (first first_ns first_within lead_first e (inr (member_left e us (slots k) i)) a) [
                  | inl is ↦ absurd (not_node e i is)
                  | inr j ↦ ⊎_elim (λ (g : Member e ns). g)
                      (λ (g : Member e (slots k)). absurd (p.apart e i (inr (member_right e (slots t) (slots k) g))))
                      (member_cases e ns (slots k) j)
                ]
            | inr a ↦
                elim (second (n.slot ∷ ns) second_within lead_second e (inr i) a) [
                  | inl is ↦ absurd (not_node e i is)
                  | inr j ↦ j
                ]
          ]

  -- nothing ran again in either
  pub parts_idle : (u : ValueView) (a b : Tree) → Steady v u t → Idle v t a → Idle u k b → Idle v (S n t k) (S n a b)
  parts_idle u a b steady one two e =
      let none = no_sum (done t a).rerun (done k b).rerun e in
      (one none.0, all_back u m steady k told_rest (two none.1))

  pub parts_found : PartsFound r v m us n (S n) t k
  parts_found =
      record {
        part = (part_coherent, fo.0);
        rest = λ u x steady c only. rest_founded u x steady c only;
        both = λ q u z x y gone made re unread one two c first second. woken_both q u z x y gone made re unread
            one two c first second;
        idle = parts_idle;
      }

pub steps_found : StepsFound
steps_found r v m us above n t k tidy own p w o watched marked co fo =
    parts_found r v m us above n t k tidy own p w o watched marked co (fo.1, fo.2)

pub turns_found : TurnsFound
turns_found r v m us above n l k tidy own p w o watched marked co fo =
    let a = parts_found r v m us above n l k tidy own (pair_planted m us above n l k p)
    (pair_wired r m us above n l k w) (pair_ordered n l k o) watched marked co (fo.1, fo.2) in
    record { part = a.part; rest = a.rest; both = a.both; idle = a.idle }
