-- The links of a read block that is gone into, or run again.
use Rattle.std.proofs.Common.{◌≡◌, ◌==◌, ℕ, ◌+◌, ◌≤◌, ◌<◌, Bool, true, false, List, [], ◌∷◌, ◌++◌, cond, Option, Some, refl, ap, sym, ◌∙◌, subst, inl, inr, ⊎_elim, arith}
use Rattle.std.specs.Prelude.{sum_by}
use Rattle.std.proofs.lemmas.List.{append-nil}
use Rattle.std.proofs.lemmas.List.Sums.{sum_by-append, sum_by-cons}
use Rattle.psac_ops.specs.declared.plain.Handle.{Handle}
use Rattle.psac_slots.specs.Handles.{Member, word_of}
use Rattle.psac_slots.proofs.Pairs.{member_left, member_right, member_cases, map_member, member_map}
use Rattle.psac_laws.proofs.Places.{nat_is, nat_same, test_or, not_both}
use Rattle.psac_readers.specs.declared.view.Stage.{Stage}
use Rattle.psac_readers.specs.declared.view.Stage.TheVariants.{Claimed, UnderWay, In, Dead}
use Rattle.psac_readers.specs.declared.view.LinkView.{LinkView}
use Rattle.psac_readers.specs.declared.view.ReadersView.{ReadersView}
use Rattle.psac_readers.specs.Chained.{named, is_live, mods_of}
use Rattle.psac_marks.specs.declared.view.MarksView.{MarksView}
use Rattle.psac_raise.specs.Raise.{IsSlot, LeadsIn, LeadUpIn}
use Rattle.psac_record.specs.declared.parts.Reading.{Reading}
use Rattle.psac_record.specs.Kept.{Kept, R, Stands, links_of, bare}
use Rattle.psac_trace.specs.Grown.{MoreLinks, as_link}
use Rattle.psac_trace.proofs.Leading.{sum_member, zero_or}
use Rattle.psac_repair.specs.Divided.{writes_slot}
use Rattle.psac_repair.specs.Taken.{indexes}
use Rattle.psac_repair.specs.Planted.{Planted}
use Rattle.psac_repair.specs.Linked.{standing, left_link, Distinct, LinksOnce, Linked, Relinked}
use Rattle.psac_repair.specs.Rewired.{Writes, reads_in, Ordered, NodeIn, Wired, Relinks, Rewired}
use Rattle.psac_repair.proofs.Leaving.{indexes_append}
use Rattle.psac_repair.proofs.Linking.{member_sum, named_here, relinked_then, distinct_front, distinct_back, distinct_apart}
use Rattle.psac_repair.proofs.Rewiring.{same_node, node_same, node_is, same_link, dead_none, like, like_here, link_back, index_sum, named_more, distinct_both, index_cases, index_right, reads_node, walk_stays, wrote_slot, led_node, led_wider, above_wider, node_wider}

-- a block, round its body
module _ (r : ReadersView) (m : MarksView) (us : List ℕ) (above : Option Handle) (b : Reading) (t : Kept) (p : Planted m us above (R b t)) (w : Wired r m us above (R b t)) where
  abbrev outer : List ℕ
  outer = b.node.slot ∷ us

  parts_once : Distinct (indexes (reads_in b) ++ indexes (links_of t))
  parts_once = subst Distinct (indexes_append (reads_in b) (links_of t)) w.linked.once

  pub reads_apart : (l : ℕ) → Member l (indexes (reads_in b)) → Member l (indexes (links_of t)) → ⊥
  reads_apart = distinct_apart (indexes (reads_in b)) (indexes (links_of t)) parts_once

  read_live : (s : Stands) → Member s (reads_in b) → Member (standing s) r.links
  read_live s i = w.linked.live s (member_left s (reads_in b) (links_of t) i)

  pub body_linked : Linked r t
  body_linked = record { live = λ s i. w.linked.live s (member_right s (reads_in b) (links_of t) i); once = distinct_back (indexes (reads_in b)) (indexes (links_of t)) parts_once }

  node_led : LeadsIn m outer b.node.slot
  node_led = led_node m outer above b.node p.nodes.0 (above_wider m us outer above (λ x i. inr i) w.above_led) (inl refl)

  pub wired_body : Wired r m outer (Some b.node) t
  wired_body =
      record {
        linked = body_linked;
        once = w.once;
        walk = w.walk;
        readers = λ s l d i e f.
            ⊎_elim
            (λ (c : (x : Stands) × Member x (reads_in b ++ links_of t) × (standing x ≡ l)).
            ⊎_elim
            (λ (g : Member c.0 (reads_in b)).
            let node : c.0.node ≡ b.node = reads_node b.node b.reads c.0 g in
            inr (b.node, w.fits b.node.slot (inl refl), ap (λ (z : LinkView). z.node) (sym c.2) ∙ ap (λ z. Some (word_of z)) node, inl refl))
            (λ (g : Member c.0 (links_of t)). inl (c.0, g, c.2))
            (member_cases c.0 (reads_in b) (links_of t) c.1))
            (λ (c : NodeIn us l.node). inr (node_wider us outer l.node (λ x j. inr j) c))
            (w.readers s l d i e f);
        led = λ x i. elim i [ inl e ↦ subst (LeadsIn m outer) e node_led | inr j ↦ led_wider m us outer (λ y h. inr h) x (w.led x j) ];
        above_led = node_led;
        fits = λ x i. w.fits x (inr i);
      }

  pub relinks_block : (q : ReadersView) (gone made : List Stands) → Relinks r q t gone made → Relinks r q (R b t) gone made
  relinks_block q gone made a = record { relinked = a.relinked; once = a.once; gone_is = λ l i. index_right l (reads_in b) (links_of t) (a.gone_is l i); entered = a.entered }

  -- what the body leaves, and what the block leaves, which has the same links
  pub rewired_block : (q : ReadersView) (c : Reading) (u : Kept) (gone made : List Stands) → reads_in c ≡ reads_in b → Rewired r q t u gone made → Rewired r q (R b t) (R c u) gone made
  rewired_block q c u gone made same a =
      record {
        relinked = a.relinked;
        linked = record {
          live = λ s i. ⊎_elim
              (λ (j : Member s (reads_in c)).
              let k = subst (Member s) same j in
              a.relinked.keeps (standing s) (read_live s k) (λ g. reads_apart s.link.index (map_member (λ (z : Stands). z.link.index) s (reads_in b) k) (a.gone_is s.link.index g)))
              (λ (j : Member s (links_of u)). a.linked.live s j)
              (member_cases s (reads_in c) (links_of u) i);
          once = subst Distinct (sym (indexes_append (reads_in c) (links_of u)))
              (subst (λ z. Distinct (indexes z ++ indexes (links_of u))) (sym same)
              (distinct_both (indexes (reads_in b)) (indexes (links_of u)) (distinct_front (indexes (reads_in b)) (indexes (links_of t)) parts_once) a.linked.once apart));
        };
        once = a.once;
        gone_is = λ l i. index_right l (reads_in b) (links_of t) (a.gone_is l i);
        entered = a.entered;
        covers = λ l i. ⊎_elim
            (λ (j : Member l (indexes (reads_in c))). inl (index_front l (subst (λ z. Member l (indexes z)) same j)))
            (λ (j : Member l (indexes (links_of u))). ⊎_elim (λ (g : Member l (indexes (links_of t))). inl (index_right l (reads_in b) (links_of t) g)) (λ (g : Member l (indexes made)). inr g) (a.covers l j))
            (index_cases l (reads_in c) (links_of u) i);
        sums = λ g.
            let d = sum_by-append g (reads_in c) (links_of u) in
            let e = sum_by-append g (reads_in b) (links_of t) in
            let f = ap (sum_by g) same in
            let h = a.sums g in
            omega (arith, d, e, f, h);
      }
    where
      index_front : (l : ℕ) → Member l (indexes (reads_in b)) → Member l (indexes (reads_in b ++ links_of t))
      index_front l i = subst (Member l) (sym (indexes_append (reads_in b) (links_of t))) (member_left l (indexes (reads_in b)) (indexes (links_of t)) i)

      apart : (l : ℕ) → Member l (indexes (reads_in b)) → Member l (indexes (links_of u)) → ⊥
      apart l i j =
          ⊎_elim
          (λ (g : Member l (indexes (links_of t))). reads_apart l i g)
          (λ (g : Member l (indexes made)).
          let q0 = member_map (λ (z : Stands). z.link.index) l (reads_in b) i in
          let x = member_sum (named l) (standing q0.0) r.links (read_live q0.0 q0.1) in
          let y : named l (standing q0.0) ≡ 1 = subst (λ z. named z (standing q0.0) ≡ 1) q0.2 (named_here q0.0) in
          let z = a.entered l g in
          absurd (omega (arith, x, y, z)))
          (a.covers l j)

  -- once the body's links were left, the live readers of what it wrote lead up outside
  module _ (o : Ordered (R b t)) (q : ReadersView) (left : Relinked r q (links_of t) []) where
    like_most : (l k : LinkView) → like l k ≤ named l.link k
    like_most l k =
        elim (test_or (k.link == l.link)) [
          | inl e ↦
              elim (test_or (k.of == l.of)) [
                | inl f ↦
                    elim (test_or (same_node k.node l.node)) [
                      | inl g ↦ rw (e, f, g) (live_most k.stage)
                      | inr g ↦ rw (e, f, g) (omega arith)
                    ]
                | inr f ↦ rw (e, f) (omega arith)
              ]
          | inr e ↦ rw e (omega arith)
        ]
      where
        live_most : (s : Stage) → is_live s ≤ 1
        live_most Claimed = omega arith
        live_most (UnderWay n) = omega arith
        live_most In = omega arith
        live_most Dead = omega arith

    sum_most : (l : LinkView) (ks : List LinkView) → sum_by (like l) ks ≤ sum_by (named l.link) ks
    sum_most l [] = let z : sum_by (like l) [] ≡ 0 = refl in omega (arith, z)
    sum_most l (k ∷ ks) =
        let d = sum_by-cons (like l) k ks in
        let e = sum_by-cons (named l.link) k ks in
        let f = sum_most l ks in
        let g = like_most l k in
        omega (arith, d, e, f, g)

    not_left : (l : LinkView) (y : Stands) → Member y (links_of t) → standing y ≡ l → Member l q.links → l.stage ≡ In → ⊥
    not_left l y i same j e =
        let d = member_sum (like l) l q.links j in
        let f = like_here l e in
        let g = member_sum (λ (s : Stands). like l (standing s)) y (links_of t) i in
        let h : like l (standing y) ≡ 1 = ap (like l) same ∙ f in
        let k = left.links (like l) in
        let x = sum_most l r.links in
        let z = w.once l.link in
        let v = dead_none l (links_of t) e in
        absurd (omega (arith, d, f, g, h, k, x, z, v))

    pub readers_lead : (n : MarksView) → ((x : ℕ) → LeadsIn m us x → LeadsIn n us x) → (s : ℕ) → Writes t s → LeadUpIn q n us s
    readers_lead n on s d l i e f =
        ⊎_elim
        (λ (c : Member l r.links). old c)
        (λ (c : (y : Stands) × Member y [] × (standing y ≡ l)). absurd c.1)
        (link_back r q (links_of t) [] left l i f)
      where
        at_node : (c : NodeIn us l.node) → (h : Handle) × IsSlot h.slot × (l.node ≡ Some (word_of h)) × LeadsIn n us h.slot
        at_node c = (c.0, c.1, c.2, on c.0.slot (w.led c.0.slot c.3))

        old : Member l r.links → (h : Handle) × IsSlot h.slot × (l.node ≡ Some (word_of h)) × LeadsIn n us h.slot
        old c =
            ⊎_elim
            (λ (y : (y : Stands) × Member y (reads_in b ++ links_of t) × (standing y ≡ l)).
            absurd (⊎_elim
            (λ (g : Member y.0 (reads_in b)).
            let same : y.0.of.slot ≡ s = ap (λ (z : LinkView). z.of) y.2 ∙ e in
            not_both (wrote_slot t s d) (ap (writes_slot (bare t)) (sym same) ∙ o.0 y.0 g))
            (λ (g : Member y.0 (links_of t)). not_left l y.0 g y.2 i f)
            (member_cases y.0 (reads_in b) (links_of t) y.1)))
            at_node
            (w.readers s l d c e f)

    pub set_stays : (s : ℕ) → Writes t s → (s < q.mods) × Member s (mods_of q.walk)
    set_stays s d = let e = w.walk s d in (subst (λ z. s < z) (sym left.mods) e.0, walk_stays r q (links_of t) [] left s e.1)

-- what a tracing run entered
abbrev same_stage : Stage → Stage → Bool
same_stage Claimed Claimed = true
same_stage (UnderWay n) (UnderWay k) = n == k
same_stage In In = true
same_stage Dead Dead = true
same_stage _ _ = false

stage_same : (s : Stage) → same_stage s s ≡ true
stage_same Claimed = refl
stage_same (UnderWay n) = nat_same n
stage_same In = refl
stage_same Dead = refl

stage_is : (s t : Stage) → same_stage s t ≡ true → s ≡ t
stage_is Claimed Claimed h = refl
stage_is (UnderWay n) (UnderWay k) h = ap (λ z. UnderWay z) (nat_is n k h)
stage_is In In h = refl
stage_is Dead Dead h = refl
stage_is Claimed (UnderWay k) h = absurd cc
stage_is Claimed In h = absurd cc
stage_is Claimed Dead h = absurd cc
stage_is (UnderWay n) Claimed h = absurd cc
stage_is (UnderWay n) In h = absurd cc
stage_is (UnderWay n) Dead h = absurd cc
stage_is In Claimed h = absurd cc
stage_is In (UnderWay k) h = absurd cc
stage_is In Dead h = absurd cc
stage_is Dead Claimed h = absurd cc
stage_is Dead (UnderWay k) h = absurd cc
stage_is Dead In h = absurd cc

abbrev exact : LinkView → LinkView → ℕ
exact l k = cond (k.link == l.link) (cond (k.of == l.of) (cond (same_node k.node l.node) (cond (same_stage k.stage l.stage) 1 0) 0) 0) 0

exact_here : (l : LinkView) → exact l l ≡ 1
exact_here l = rw (nat_same l.link, nat_same l.of, node_same l.node, stage_same l.stage) refl

exact_is : (l k : LinkView) → 0 < exact l k → k ≡ l
exact_is l k h =
    elim (test_or (k.link == l.link)) [
      | inl p ↦
          elim (test_or (k.of == l.of)) [
            | inl q ↦
                elim (test_or (same_node k.node l.node)) [
                  | inl s ↦
                      elim (test_or (same_stage k.stage l.stage)) [
                        | inl t ↦ same_link k l (nat_is k.link l.link p) (nat_is k.of l.of q) (node_is k.node l.node s) (stage_is k.stage l.stage t)
                        | inr t ↦ absurd (let z : 0 < 0 = rw (p, q, s, t) at h in omega (arith, z))
                      ]
                  | inr s ↦ absurd (let z : 0 < 0 = rw (p, q, s) at h in omega (arith, z))
                ]
            | inr q ↦ absurd (let z : 0 < 0 = rw (p, q) at h in omega (arith, z))
          ]
      | inr p ↦ absurd (let z : 0 < 0 = rw p at h in omega (arith, z))
    ]

distinct_sums : (ss : List Stands) → ((l : ℕ) → sum_by (λ (s : Stands). named l (standing s)) ss ≤ 1) → Distinct (indexes ss)
distinct_sums [] h = tt
distinct_sums (s ∷ ss) h = (
  λ i.
      let a = sum_by-cons (λ (z : Stands). named s.link.index (standing z)) s ss in
      let b = index_sum s.link.index ss i in
      let c = named_here s in
      let d = h s.link.index in
      absurd (omega (arith, a, b, c, d)),
  distinct_sums ss (λ l. let a = sum_by-cons (λ (z : Stands). named l (standing z)) s ss in let d = h l in omega (arith, a, d)),
)

module _ (q x : ReadersView) (made : List Stands) (m : MoreLinks q x made) (was : LinksOnce q) (each : (l : ℕ) → 0 < sum_by (λ (s : Stands). named l (as_link s)) made → sum_by (named l) x.links ≤ 1) where
  pub entered_all : LinksOnce x
  entered_all l =
      let a = m.links (named l) in
      let b = was l in
      elim (zero_or (sum_by (λ (s : Stands). named l (as_link s)) made)) [
        | inl z ↦ omega (arith, a, b, z)
        | inr p ↦ each l p
      ]

  made_most : (l : ℕ) → sum_by (named l) x.links ≡ sum_by (named l) q.links + sum_by (λ (s : Stands). named l (standing s)) made
  made_most l = m.links (named l)

  pub entered_relinked : Relinked q x [] made
  entered_relinked =
      record {
        branch = m.branch;
        mods = m.mods;
        links = λ g. let a = m.links g in let z : sum_by (λ (s : Stands). g (standing s)) [] ≡ 0 = refl in let y : sum_by (λ (s : Stands). g (left_link s)) [] ≡ 0 = refl in omega (arith, a, z, y);
        keeps = λ k i out.
            let a = member_sum (exact k) k q.links i in
            let b = exact_here k in
            let c = m.links (exact k) in
            let d = sum_member (exact k) x.links (omega (arith, a, b, c)) in
            subst (λ z. Member z x.links) (exact_is k d.0 d.2) d.1;
        walk = m.walk;
        shared = m.shared;
      }

  pub entered_live : (s : Stands) → Member s made → Member (standing s) x.links
  entered_live s i =
      let a = member_sum (λ (z : Stands). exact (standing s) (standing z)) s made i in
      let b = exact_here (standing s) in
      let c = m.links (exact (standing s)) in
      let d = sum_member (exact (standing s)) x.links (omega (arith, a, b, c)) in
      subst (λ z. Member z x.links) (exact_is (standing s) d.0 d.2) d.1

  pub entered_once : Distinct (indexes made)
  entered_once = distinct_sums made (λ l. let a = made_most l in let b = entered_all l in omega (arith, a, b))

  pub entered_new : (l : ℕ) → Member l (indexes made) → sum_by (named l) q.links ≡ 0
  entered_new l i = let a = made_most l in let b = entered_all l in let c = index_sum l made i in omega (arith, a, b, c)

-- a body that was run again: all its links were left, and those of the new record entered
pub rewired_redone : (r q x : ReadersView) (t u : Kept) → LinksOnce r → Relinked r q (links_of t) [] → MoreLinks q x (links_of u) → ((l : ℕ) → 0 < sum_by (λ (s : Stands). named l (as_link s)) (links_of u) → sum_by (named l) x.links ≤ 1) → Rewired r x t u (links_of t) (links_of u)
rewired_redone r q x t u before left m each =
    let was : LinksOnce q = λ l. let a = named_more r q (links_of t) [] left l in let b = before l in let z : sum_by (λ (s : Stands). named l (standing s)) [] ≡ 0 = refl in omega (arith, a, b, z) in
    record {
      relinked = subst (λ z. Relinked r x z (links_of u)) (append-nil (links_of t)) (relinked_then r q x (links_of t) [] [] (links_of u) left (entered_relinked q x (links_of u) m was each));
      linked = record { live = entered_live q x (links_of u) m was each; once = entered_once q x (links_of u) m was each };
      once = entered_all q x (links_of u) m was each;
      gone_is = λ l i. i;
      entered = λ l i.
          let a = entered_new q x (links_of u) m was each l i in
          let b = named_more r q (links_of t) [] left l in
          omega (arith, a, b);
      covers = λ l i. inr i;
      sums = λ g. omega arith;
    }
