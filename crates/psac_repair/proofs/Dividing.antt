-- The links of both sides of a par: what each side begins with on its part of the pass, and what both leave, joined.
use Rattle.std.proofs.Common.{◌≡◌, ℕ, ◌+◌, ◌<◌, ◌&&◌, Bool, true, false, not, List, ◌∷◌, ◌++◌, map, length, Option, Some, refl, ap, sym, ◌∙◌, subst, inl, inr, ⊎_elim, arith}
use Rattle.std.specs.Prelude.{sum_by, filter, ltb}
use Rattle.std.proofs.lemmas.List.Sums.{sum_by-append}
use Rattle.std.proofs.lemmas.List.Filters.{sum_by-filter_both}
use Rattle.psac_ops.specs.declared.plain.Handle.{Handle}
use Rattle.psac_slots.specs.Branches.{stem}
use Rattle.psac_slots.specs.Handles.{Member}
use Rattle.psac_slots.specs.Claiming.{times}
use Rattle.psac_slots.specs.Divided.{stays, goes, lends, told, above as above_label, comes_back}
use Rattle.psac_slots.proofs.Pairs.{member_left, member_right, member_cases, map_member, member_filter, filter_member}
use Rattle.psac_slots.proofs.Turns.{stem_push}
use Rattle.psac_laws.proofs.Places.{test_or, not_both}
use Rattle.psac_readers.specs.declared.view.LinkView.{LinkView}
use Rattle.psac_readers.specs.declared.view.SharedView.{SharedView as SetView}
use Rattle.psac_readers.specs.declared.view.ReadersView.{ReadersView}
use Rattle.psac_readers.specs.Chained as readers_rule
use Rattle.psac_readers.specs.Chained.{named, mods_of}
use Rattle.psac_readers.specs.Steps as readers
use Rattle.psac_marks.specs.declared.view.OwnView.{OwnView}
use Rattle.psac_marks.specs.declared.view.SharedView.{SharedView as NodeView}
use Rattle.psac_marks.specs.declared.view.MarksView.{MarksView}
use Rattle.psac_marks.specs.Marked.{Place, places, own_place, shared_place}
use Rattle.psac_marks.specs.Marked as marks_rule
use Rattle.psac_marks.specs.Steps as marks
use Rattle.psac_marks.specs.Passes.{IsKept, IsBusy}
use Rattle.psac_marks.proofs.Parts.{place_shared, place_cases}
use Rattle.psac_marks.proofs.Counted.{times_in, times_both}
use Rattle.psac_raise.specs.Raise.{LeadsIn}
use Rattle.psac_record.specs.Kept.{Kept, S, P, Stands, links_of, bare}
use Rattle.psac_trace.specs.Fit.{Rooted}
use Rattle.psac_trace.proofs.Sums.{joined_sum, above_is}
use Rattle.psac_trace.proofs.Joining.{mods_filter, mods_append, mods_unknown}
use Rattle.psac_repair.specs.Divided.{writes_slot, neither, has_link}
use Rattle.psac_repair.specs.Taken.{indexes}
use Rattle.psac_repair.specs.Planted.{slots, Planted}
use Rattle.psac_repair.specs.Linked.{standing, left_link, Distinct, LinksOnce, Relinked}
use Rattle.psac_repair.specs.Rewired.{Writes, Ordered, NodeIn, Wired, Relinks, Rewired}
use Rattle.psac_repair.proofs.Leaving.{indexes_append}
use Rattle.psac_repair.proofs.Linking.{distinct_front, distinct_back, distinct_apart}
use Rattle.psac_repair.proofs.Passing.{node_at}
use Rattle.psac_repair.proofs.Parting.{is_in, is_out, outside_shared, beside_not_left, beside_not_right, not_over, left_kept, right_kept, Sh, Ri, L, K}
use Rattle.psac_repair.proofs.Rewiring.{wrote_slot, writes_first, writes_second, index_of, index_sum, index_cases, index_left, index_right, live_sum, named_more, distinct_both, node_wider, led_on, outer_led, node_led, covers_both, sums_both}

no_and : (b : Bool) → (b && false) ≡ false
no_and true = refl
no_and false = refl

is_not : (b : Bool) → not b ≡ false → b ≡ true
is_not true h = refl
is_not false h = absurd cc

-- the sides of a par as the parts of a step
pub pair_planted : (m : MarksView) (us : List ℕ) (above : Option Handle) (n : Handle) (l k : Kept) → Planted m us above (P n l k) → Planted m us above (S n l k)
pair_planted m us above n l k p = record { nodes = p.nodes; families = p.families; once = p.once; apart = p.apart; known = p.known; had = p.had }

pub pair_wired : (r : ReadersView) (m : MarksView) (us : List ℕ) (above : Option Handle) (n : Handle) (l k : Kept) → Wired r m us above (P n l k) → Wired r m us above (S n l k)
pair_wired r m us above n l k w =
    record { linked = record { live = w.linked.live; once = w.linked.once }; once = w.once; walk = w.walk; readers = w.readers; led = w.led; above_led = w.above_led; fits = w.fits }

pub pair_ordered : (n : Handle) (l k : Kept) → Ordered (P n l k) → Ordered (S n l k)
pair_ordered n l k o = (o.0, o.3, o.4, o.2)

module _ (r : ReadersView) (m : MarksView) (us : List ℕ) (above : Option Handle) (n : Handle) (l k : Kept) (rooted : Rooted m) (p : Planted m us above (P n l k)) (w : Wired r m us above (P n l k)) (o : Ordered (P n l k)) where
  abbrev Sets : ℕ → Bool
  Sets = neither (bare l) (bare k)

  abbrev Goes : ℕ → Bool
  Goes = writes_slot (bare k)

  abbrev Links : ℕ → Bool
  Links = has_link k

  abbrev pub LR : ReadersView
  LR = readers.left_of Sets Goes Links r

  abbrev pub RR : ReadersView
  RR = readers.right_of Sets Goes Links r

  abbrev LM : MarksView
  LM = L m rooted us above n l k p

  abbrev RM : MarksView
  RM = K m rooted us above n l k p

  abbrev beyond : List ℕ
  beyond = n.slot ∷ us

  sp : Planted m us above (S n l k)
  sp = pair_planted m us above n l k p

  sw : Wired r m us above (S n l k)
  sw = pair_wired r m us above n l k w

  so : Ordered (S n l k)
  so = pair_ordered n l k o

  sides_once : Distinct (indexes (links_of l) ++ indexes (links_of k))
  sides_once = subst Distinct (indexes_append (links_of l) (links_of k)) w.linked.once

  pub sides_apart : (x : ℕ) → Member x (indexes (links_of l)) → Member x (indexes (links_of k)) → ⊥
  sides_apart = distinct_apart (indexes (links_of l)) (indexes (links_of k)) sides_once

  left_alone : (s : ℕ) → Writes l s → Sets s ≡ false
  left_alone s d = ap (λ b. not b && not (Goes s)) (wrote_slot l s d)

  right_alone : (s : ℕ) → Writes k s → Sets s ≡ false
  right_alone s d = ap (λ b. not (writes_slot (bare l) s) && not b) (wrote_slot k s d) ∙ no_and (not (writes_slot (bare l) s))

  left_not_goes : (s : ℕ) → Writes l s → Goes s ≡ false
  left_not_goes s d = o.2 s (wrote_slot l s d)

  -- where a link goes
  stays_left : (s : Stands) → Member s (links_of l) → readers.right_link Sets Goes Links (standing s) ≡ false
  stays_left s i =
      let a : Links s.link.index ≡ false = is_out s.link.index (indexes (links_of k)) (λ j. sides_apart s.link.index (index_of s l i) j) in
      let b : Goes s.of.slot ≡ false = o.0 s i in
      elim (test_or (Sets s.of.slot)) [
        | inl e ↦ rw (e, a) refl
        | inr e ↦ rw (e, b) refl
      ]

  goes_right : (s : Stands) → Member s (links_of k) → readers.right_link Sets Goes Links (standing s) ≡ true
  goes_right s i =
      let a : Links s.link.index ≡ true = is_in s.link.index (indexes (links_of k)) (index_of s k i) in
      let b : writes_slot (bare l) s.of.slot ≡ false = o.1 s i in
      elim (test_or (Sets s.of.slot)) [
        | inl e ↦ rw (e, a) refl
        | inr e ↦
            (let c : Goes s.of.slot ≡ true = is_not (Goes s.of.slot) (ap (λ z. not z && not (Goes s.of.slot)) (sym b) ∙ e) in
            rw (e, c) refl)
      ]

  -- each link is on one side
  pub side_sum : (g : LinkView → ℕ) → sum_by g LR.links + sum_by g RR.links ≡ sum_by g r.links
  side_sum g =
      let h = sum_by-filter_both (readers.right_link Sets Goes Links) (λ z. not (readers.right_link Sets Goes Links z)) (λ z. refl) g r.links in
      omega (arith, h)

  -- nodes outside
  outer_here : (x : ℕ) → Member x beyond → IsKept m x
  outer_here x (inl e) = subst (IsKept m) e (node_at m above (P n l k) p.nodes n.slot (inl refl)).kept
  outer_here x (inr i) = (p.known x i).1

  outer_shared : (x : ℕ) → Member x beyond → Sh m rooted us above n l k p x ≡ true
  outer_shared x i = outside_shared m rooted us above n l k p x (outer_here x i) (beside_not_left m rooted us above n l k p x i) (beside_not_right m rooted us above n l k p x i)

  place_told : (e : Place) → Member e (places m) → Member e.node.slot beyond → (s : NodeView) × Member s (marks.now_shared (Sh m rooted us above n l k p) (Ri m rooted us above n l k p) m) × (shared_place s ≡ e)
  place_told e i j =
      let t : List NodeView = map (marks_rule.ways.lend m.claims.branch) (filter (lends marks_rule.ways (Sh m rooted us above n l k p) (Ri m rooted us above n l k p)) m.own) in
      ⊎_elim
      (λ (y : (z : OwnView) × Member z m.own × (own_place m.claims.branch z ≡ e)).
      let slot : y.0.node.slot ≡ e.node.slot = ap (λ (z : Place). z.node.slot) y.2 in
      let s : NodeView = marks_rule.ways.lend m.claims.branch y.0 in (
        s,
        member_right s m.shared t
            (map_member (marks_rule.ways.lend m.claims.branch) y.0 (filter (lends marks_rule.ways (Sh m rooted us above n l k p) (Ri m rooted us above n l k p)) m.own)
            (filter_member (lends marks_rule.ways (Sh m rooted us above n l k p) (Ri m rooted us above n l k p)) y.0 m.own y.1 (ap (Sh m rooted us above n l k p) slot ∙ outer_shared e.node.slot j))),
        y.2,
      ))
      (λ (y : (z : NodeView) × Member z m.shared × (shared_place z ≡ e)). (y.0, member_left y.0 m.shared t y.1, y.2))
      (place_cases m e i)

  pub left_place : (e : Place) → Member e (places m) → Member e.node.slot beyond → Member e (places LM)
  left_place e i j = let y = place_told e i j in subst (λ z. Member z (places LM)) y.2 (place_shared LM y.0 y.1)

  pub right_place : (e : Place) → Member e (places m) → Member e.node.slot beyond → Member e (places RM)
  right_place e i j = let y = place_told e i j in subst (λ z. Member z (places RM)) y.2 (place_shared RM y.0 y.1)

  abbrev Over : ℕ → Bool
  Over = marks.goes_over (Sh m rooted us above n l k p) (Ri m rooted us above n l k p) m

  abbrev Here : ℕ → Bool
  Here = marks.stays_here (Sh m rooted us above n l k p) (Ri m rooted us above n l k p) m

  pub busy_left : (x : ℕ) → (Member x (slots k) → ⊥) → IsBusy m x → IsBusy LM x
  busy_left x out (inl i) = inl (let c = times_in (λ z. not (Over z)) x m.marked (ap not (not_over m rooted us above n l k p x out)) in omega (arith, c, i))
  busy_left x out (inr i) =
      inr (let c = times_in (λ z. not (Over z)) x (m.busy ++ m.marked) (ap not (not_over m rooted us above n l k p x out)) in let d = times_both x m.busy m.marked in omega (arith, c, d, i))

  told_busy : (x : ℕ) → IsBusy m x → 0 < times x (m.busy ++ m.marked)
  told_busy x (inl i) = let d = times_both x m.busy m.marked in omega (arith, d, i)
  told_busy x (inr i) = let d = times_both x m.busy m.marked in omega (arith, d, i)

  pub busy_right : (x : ℕ) → Here x ≡ false → IsBusy m x → IsBusy RM x
  busy_right x t b = inr (let c = times_in (λ z. not (Here z)) x (m.busy ++ m.marked) (ap not t) in let d = told_busy x b in omega (arith, c, d))

  pub outer_not_here : (x : ℕ) → Member x beyond → Here x ≡ false
  outer_not_here x i =
      ap (λ b. ltb 0 (times x (map marks_rule.ways.slot m.own)) && (not b && not (Ri m rooted us above n l k p x))) (outer_shared x i) ∙ no_and (ltb 0 (times x (map marks_rule.ways.slot m.own)))

  on_left : (x : ℕ) → LeadsIn m beyond x → LeadsIn LM beyond x
  on_left = led_on m LM beyond left_place (λ x i h. left_kept m rooted us above n l k p x h) (λ x i h. busy_left x (λ j. beside_not_right m rooted us above n l k p x i j) h)

  on_right : (x : ℕ) → LeadsIn m beyond x → LeadsIn RM beyond x
  on_right = led_on m RM beyond right_place (λ x i h. right_kept m rooted us above n l k p x h) (λ x i h. busy_right x (outer_not_here x i) h)

  led_beyond : (x : ℕ) → Member x beyond → LeadsIn m beyond x
  led_beyond = outer_led r m us above n l k sp sw so

  led_above : LeadsIn m beyond n.slot
  led_above = node_led r m us above n l k sp sw so

  pub wired_left : Wired LR LM beyond (Some n) l
  wired_left =
      record {
        linked = record {
          live = λ s i. filter_member (λ z. not (readers.right_link Sets Goes Links z)) (standing s) r.links (w.linked.live s (member_left s (links_of l) (links_of k) i)) (ap not (stays_left s i));
          once = distinct_front (indexes (links_of l)) (indexes (links_of k)) sides_once;
        };
        once = λ x. let a = side_sum (named x) in let b = w.once x in omega (arith, a, b);
        walk = λ s d.
            let a = w.walk s (writes_first n l k s d) in
            let f : Sets s ≡ false = left_alone s d in
            let g : Goes s ≡ false = left_not_goes s d in
            (a.0, subst (Member s) (sym (mods_filter (stays readers_rule.ways Sets Goes) r.walk)) (filter_member (stays readers_rule.ways Sets Goes) s (mods_of r.walk) a.1 (rw (f, g) refl)));
        readers = λ s x d i e f.
            ⊎_elim
            (λ (y : (y : Stands) × Member y (links_of l ++ links_of k) × (standing y ≡ x)).
            ⊎_elim
            (λ (g : Member y.0 (links_of l)). inl (y.0, g, y.2))
            (λ (g : Member y.0 (links_of k)).
            let same : y.0.of.slot ≡ s = ap (λ (z : LinkView). z.of) y.2 ∙ e in
            absurd (not_both (wrote_slot l s d) (ap (writes_slot (bare l)) (sym same) ∙ o.1 y.0 g)))
            (member_cases y.0 (links_of l) (links_of k) y.1))
            (λ (y : NodeIn us x.node). inr (node_wider us beyond x.node (λ z j. inr j) y))
            (w.readers s x (writes_first n l k s d) (member_filter (λ z. not (readers.right_link Sets Goes Links z)) x r.links i).0 e f);
        led = λ x i. on_left x (led_beyond x i);
        above_led = on_left n.slot led_above;
        fits = λ x i. w.fits x (inr (member_left x (slots l) (slots k) i));
      }

  pub wired_right : Wired RR RM beyond (Some n) k
  wired_right =
      record {
        linked = record {
          live = λ s i. filter_member (readers.right_link Sets Goes Links) (standing s) r.links (w.linked.live s (member_right s (links_of l) (links_of k) i)) (goes_right s i);
          once = distinct_back (indexes (links_of l)) (indexes (links_of k)) sides_once;
        };
        once = λ x. let a = side_sum (named x) in let b = w.once x in omega (arith, a, b);
        walk = λ s d.
            let a = w.walk s (writes_second n l k s d) in
            let f : Sets s ≡ false = right_alone s d in
            let g : Goes s ≡ true = wrote_slot k s d in
            (a.0, subst (Member s) (sym (mods_filter (goes readers_rule.ways Sets Goes) r.walk)) (filter_member (goes readers_rule.ways Sets Goes) s (mods_of r.walk) a.1 (rw (f, g) refl)));
        readers = λ s x d i e f.
            ⊎_elim
            (λ (y : (y : Stands) × Member y (links_of l ++ links_of k) × (standing y ≡ x)).
            ⊎_elim
            (λ (g : Member y.0 (links_of l)).
            let same : y.0.of.slot ≡ s = ap (λ (z : LinkView). z.of) y.2 ∙ e in
            absurd (not_both (wrote_slot k s d) (ap (writes_slot (bare k)) (sym same) ∙ o.0 y.0 g)))
            (λ (g : Member y.0 (links_of k)). inl (y.0, g, y.2))
            (member_cases y.0 (links_of l) (links_of k) y.1))
            (λ (y : NodeIn us x.node). inr (node_wider us beyond x.node (λ z j. inr j) y))
            (w.readers s x (writes_second n l k s d) (member_filter (readers.right_link Sets Goes Links) x r.links i).0 e f);
        led = λ x i. on_right x (led_beyond x i);
        above_led = on_right n.slot led_above;
        fits = λ x i. w.fits x (inr (member_right x (slots l) (slots k) i));
      }

  -- and joined
  module _ (a b j : ReadersView) (gone left made new : List Stands) (labels : (e : SetView) → Member e r.shared → length e.label < length r.claims.branch) (ra : Relinks LR a l gone made) (rb : Relinks RR b k left new) (is : j ≡ readers.joined a b) (once : LinksOnce j) where
    stem_is : stem a.claims.branch ≡ r.claims.branch
    stem_is = ap stem ra.relinked.branch ∙ stem_push r.claims.branch false

    links_is : (g : LinkView → ℕ) → sum_by g j.links ≡ sum_by g a.links + sum_by g b.links
    links_is g = let c = ap (λ (z : ReadersView). sum_by g z.links) is in let d = sum_by-append g a.links b.links in omega (arith, c, d)

    walk_is : mods_of j.walk ≡ (mods_of a.walk ++ mods_of b.walk) ++ map readers_rule.ways.back (filter (comes_back readers_rule.ways r.claims.branch) (told readers_rule.ways Sets Goes (readers_rule.rights_of r)))
    walk_is =
        ap (λ (z : ReadersView). mods_of z.walk) is
        ∙ mods_append (a.walk ++ b.walk) (map readers.unknown (filter (comes_back readers_rule.ways (stem a.claims.branch)) a.shared))
        ∙ ap (λ z. z ++ mods_of (map readers.unknown (filter (comes_back readers_rule.ways (stem a.claims.branch)) a.shared))) (mods_append a.walk b.walk)
        ∙ ap (λ z. (mods_of a.walk ++ mods_of b.walk) ++ z) (mods_unknown (filter (comes_back readers_rule.ways (stem a.claims.branch)) a.shared))
        ∙ ap (λ c. (mods_of a.walk ++ mods_of b.walk) ++ map readers_rule.ways.back (filter (comes_back readers_rule.ways c) a.shared)) stem_is
        ∙ ap (λ z. (mods_of a.walk ++ mods_of b.walk) ++ map readers_rule.ways.back (filter (comes_back readers_rule.ways r.claims.branch) z)) ra.relinked.shared

    walk_sum : (g : ℕ → ℕ) → sum_by g (mods_of j.walk) ≡ sum_by g (mods_of r.walk)
    walk_sum g =
        let c = ra.relinked.walk g ∙ ap (sum_by g) (mods_filter (stays readers_rule.ways Sets Goes) r.walk) in
        let d = rb.relinked.walk g ∙ ap (sum_by g) (mods_filter (goes readers_rule.ways Sets Goes) r.walk) in
        let c' : sum_by g (mods_of a.walk) ≡ sum_by g (filter (stays readers_rule.ways Sets Goes) (mods_of r.walk)) + 0 = omega (arith, c) in
        let d' : sum_by g (mods_of b.walk) ≡ sum_by g (filter (goes readers_rule.ways Sets Goes) (mods_of r.walk)) + 0 = omega (arith, d) in
        let e = joined_sum readers_rule.ways Sets Goes (readers_rule.rights_of r) labels (λ z. refl) g (mods_of a.walk) (mods_of b.walk) 0 0 c' d' in
        let f = ap (sum_by g) walk_is in
        omega (arith, e, f)

    from_left : (z : LinkView) → Member z a.links → Member z j.links
    from_left z i = subst (λ (y : ReadersView). Member z y.links) (sym is) (member_left z a.links b.links i)

    from_right : (z : LinkView) → Member z b.links → Member z j.links
    from_right z i = subst (λ (y : ReadersView). Member z y.links) (sym is) (member_right z a.links b.links i)

    joined_relinked : Relinked r j (gone ++ left) (made ++ new)
    joined_relinked =
        record {
          branch = ap (λ (z : ReadersView). z.claims.branch) is ∙ stem_is;
          mods = ap (λ (z : ReadersView). z.mods) is ∙ ra.relinked.mods;
          links = λ g.
              let c = links_is g in
              let d = ra.relinked.links g in
              let e = rb.relinked.links g in
              let f = side_sum g in
              let h = sum_by-append (λ (s : Stands). g (standing s)) gone left in
              let i = sum_by-append (λ (s : Stands). g (left_link s)) gone left in
              let y = sum_by-append (λ (s : Stands). g (standing s)) made new in
              omega (arith, c, d, e, f, h, i, y);
          keeps = λ z i out.
              elim (test_or (readers.right_link Sets Goes Links z)) [
                | inl t ↦ from_right z (rb.relinked.keeps z (filter_member (readers.right_link Sets Goes Links) z r.links i t) (λ h. out (index_right z.link gone left h)))
                | inr t ↦ from_left z (ra.relinked.keeps z (filter_member (λ y. not (readers.right_link Sets Goes Links y)) z r.links i (ap not t)) (λ h. out (index_left z.link gone left h)))
              ];
          walk = walk_sum;
          shared =
              ap (λ (z : ReadersView). z.shared) is
              ∙ ap (λ c. filter (above_label readers_rule.ways c) a.shared) stem_is
              ∙ ap (filter (above_label readers_rule.ways r.claims.branch)) ra.relinked.shared
              ∙ above_is readers_rule.ways Sets Goes (readers_rule.rights_of r) labels;
        }

    pub relinks_joined : Relinks r j (P n l k) (gone ++ left) (made ++ new)
    relinks_joined =
        record {
          relinked = joined_relinked;
          once = once;
          gone_is = λ x i. ⊎_elim
              (λ (c : Member x (indexes gone)). index_left x (links_of l) (links_of k) (ra.gone_is x c))
              (λ (c : Member x (indexes left)). index_right x (links_of l) (links_of k) (rb.gone_is x c))
              (index_cases x gone left i);
          entered = λ x i.
              let c = named_more LR a gone made ra.relinked x in
              let d = named_more RR b left new rb.relinked x in
              let e = links_is (named x) in
              let f = once x in
              let g = side_sum (named x) in
              ⊎_elim
              (λ (h : Member x (indexes made)). let z = index_sum x made h in omega (arith, c, d, e, f, g, z))
              (λ (h : Member x (indexes new)). let z = index_sum x new h in omega (arith, c, d, e, f, g, z))
              (index_cases x made new i);
        }

    -- with the new record
    module _ (u v : Kept) (xa : Rewired LR a l u gone made) (xb : Rewired RR b k v left new) where
      pub rewired_joined : Rewired r j (P n l k) (P n u v) (gone ++ left) (made ++ new)
      rewired_joined =
          record {
            relinked = joined_relinked;
            linked = record {
              live = λ s i. ⊎_elim (λ (c : Member s (links_of u)). from_left (standing s) (xa.linked.live s c)) (λ (c : Member s (links_of v)). from_right (standing s) (xb.linked.live s c)) (member_cases s (links_of u) (links_of v) i);
              once = subst Distinct (sym (indexes_append (links_of u) (links_of v)))
                  (distinct_both (indexes (links_of u)) (indexes (links_of v)) xa.linked.once xb.linked.once (λ x c d.
                  let e = live_sum a u x xa.linked c in
                  let f = live_sum b v x xb.linked d in
                  let g = links_is (named x) in
                  let h = once x in
                  absurd (omega (arith, e, f, g, h))));
            };
            once = once;
            gone_is = relinks_joined.gone_is;
            entered = relinks_joined.entered;
            covers = covers_both (links_of l) (links_of k) (links_of u) (links_of v) made new xa.covers xb.covers;
            sums = sums_both (links_of l) (links_of k) (links_of u) (links_of v) gone left made new xa.sums xb.sums;
          }
