-- Both sides of a par, each on its part of the pass: what each begins with, and what both leave once they are joined.
use Rattle.std.proofs.Common.{◌≡◌, ℕ, ◌+◌, Bool, List, ◌∷◌, [], ◌++◌, length, length-append, Option, Some, refl, ap, inl, inr, arith}
use Rattle.std.specs.Prelude.{sum_by}
use Rattle.psac_ops.specs.declared.plain.Handle.{Handle}
use Rattle.psac_slots.specs.Claiming as claiming
use Rattle.psac_slots.specs.declared.view.ClaimView.{ClaimView}
use Rattle.psac_values.specs.declared.view.ValueView.{ValueView}
use Rattle.psac_marks.specs.declared.view.OwnView.{OwnView}
use Rattle.psac_marks.specs.declared.view.MarksView.{MarksView}
use Rattle.psac_marks.specs.Steps as marks
use Rattle.psac_marks.specs.Passes.{Owns, Bare}
use Rattle.psac_model.specs.declared.ends.CapKind.{CapKind}
use Rattle.psac_model.specs.declared.ends.CapKind.TheVariants as cap
use Rattle.psac_traced.specs.Rec as rec
use Rattle.psac_traced.specs.Rec.{Rec}
use Rattle.psac_trace.specs.Grown.{MoreClaims, MoreValues, nodes_in as handles_in}
use Rattle.psac_trace.proofs.Claims.{claims_joined}
use Rattle.psac_trace.proofs.Forks.{left_tidy, right_tidy, joined_kept}
use Rattle.psac_record.specs.Kept.{Kept, S, P, bare, links_of}
use Rattle.psac_repair.specs.Ended.{Ended, Good, Fault, Other, both_ended}
use Rattle.psac_repair.specs.Outcomes.{OnGood}
use Rattle.psac_repair.specs.Laws.{Program, PartOf}
use Rattle.psac_repair.specs.Divided.{neither, writes_slot, has_node, outside}
use Rattle.psac_repair.specs.Planted.{slots, Planted, Passed}
use Rattle.psac_repair.specs.FitLaws.{Unspared}
use Rattle.psac_repair.specs.Exchanged.{Swapped, Replaced}
use Rattle.psac_repair.specs.Taking.{taken, given}
use Rattle.psac_repair.specs.Going.{Views, claims_of, Roomy, Lasting, Beside, Went, WentBelow, AfterBelow}
use Rattle.psac_repair.specs.WalkLaws.{left_side, right_side, Joins}
use Rattle.psac_trace.proofs.Moving.{each_cap}
use Rattle.psac_repair.proofs.Drawing.{long_both}
use Rattle.psac_repair.proofs.Filling.{full_left, full_right, full_both, room_both}
use Rattle.psac_repair.proofs.Adding.{sides_add, sides_stand}
use Rattle.psac_repair.proofs.Sides.{needs_fork_left, needs_fork_right, owned_fork_left, owned_fork_right}
use Rattle.psac_repair.proofs.Passing.{passed_none, passed_then}
use Rattle.psac_repair.proofs.Planting.{planted_pair, replanted_pair, step_owns, step_bare, replanted_step}
use Rattle.psac_repair.proofs.Parting.{planted_left, planted_right}
use Rattle.psac_repair.proofs.Wiring.{sides_wire}
use Rattle.psac_repair.proofs.Wakes.{outside_woke, sides_watch}
use Rattle.psac_repair.proofs.Fitted.{sets_fit, nodes_fit}
use Rattle.psac_repair.proofs.Exchanging.{values_of_sides}
use Rattle.psac_repair.proofs.Owning.{swapped_both, owned_both, shared_both}
use Rattle.psac_repair.proofs.Replacing.{both_all, replaced_parts, replaced_pair}
use Rattle.psac_repair.proofs.Unsharing.{unshared_left, unshared_right}
use Rattle.psac_repair.proofs.Layers.{Q, closed, go, reading, Here, Gone, PartGone}
use Rattle.psac_repair.proofs.Layers.{used_by, touch_first, touch_second, lasting_cleared, rooted_cleared, woken_cleared}

both_good : {A B C : Type 0} (one two : Ended) → (A → B → C) → OnGood one A → OnGood two B → OnGood (both_ended one two) C
both_good (Good a) (Good b) f x y = f x y
both_good (Good a) (Fault k n) f x y = tt
both_good (Good a) (Other why) f x y = tt
both_good (Fault k n) (Good b) f x y = tt
both_good (Fault k n) (Fault j m) f x y = tt
both_good (Fault k n) (Other why) f x y = tt
both_good (Other why) two f x y = tt

-- what was passed below a node was passed with it
passed_whole : (m q : MarksView) (us : List ℕ) (n : Handle) (below : List ℕ) → Passed m q (n.slot ∷ us) below → Passed m q us (n.slot ∷ below)
passed_whole m q us n below a =
    passed_then m m q us us (n.slot ∷ us) (n.slot ∷ below) [] below (passed_none m us []) a (λ x i. absurd i) (λ x i. inr i) (λ x i. inl i) (λ x i. elim i [ inl e ↦ inr (inl e) | inr j ↦ inl j ])

module _ (g : Program) (us : List ℕ) (above : Option Handle) (n : Handle) (l k rest : Kept) (p : Views) (b : Here g us above (rec.S (bare (P n l k)) (bare rest)) (P n l k) p) where
  abbrev pub outer : List ℕ
  outer = n.slot ∷ us

  -- both parts of the pass
  abbrev pub left_part : Views
  left_part = left_side l k p

  abbrev pub right_part : Views
  right_part = right_side l k p

  unspared_l : Unspared p.values l
  unspared_l s i = b.aged s (used_by (bare l) (bare (S n l k)) (touch_first n l k) s i)

  unspared_k : Unspared p.values k
  unspared_k s i = b.aged s (used_by (bare k) (bare (S n l k)) (touch_second n l k) s i)

  module _ (same : p.readers.claims.branch ≡ p.values.claims.branch) where
    pub side_left : Roomy left_part → Here g outer (Some n) (bare l) l left_part
    side_left room =
        record {
          checked = b.checked;
          room = room;
          sets = (sets_fit p.values p.readers l k same unspared_l unspared_k b.sets).left;
          rooted = (nodes_fit p.marks us above n l k b.rooted b.planted).left;
          tidy = left_tidy (neither (bare l) (bare k)) (writes_slot (bare k)) p.values b.tidy;
          owned = owned_fork_left g.setting g.funcs (Q g) (closed g) (go g) (reading g) (bare l) (bare k) (bare rest) b.once p.values b.tidy b.owned.0.0 b.owned.0.1 b.needs;
          once = b.once.0.0;
          needs = needs_fork_left g.setting g.funcs (Q g) (closed g) (go g) (reading g) (bare l) (bare k) (bare rest) b.once p.values b.tidy b.owned.0.0 b.owned.0.1 b.needs;
          planted = planted_left p.marks b.rooted us above n l k b.planted;
          unshared = unshared_left (outside p.marks l k) (has_node k) p.marks b.unshared;
          wired = (sides_wire p.readers p.marks us above n l k b.rooted b.planted b.wired b.ordered).left;
          ordered = b.ordered.3;
          aged = unspared_l;
          watched = (sides_watch p.readers p.values p.marks us above n l k b.rooted b.tidy b.planted b.wired b.ordered).left b.watched.0;
        }

    pub side_right : Roomy right_part → Here g outer (Some n) (bare k) k right_part
    side_right room =
        record {
          checked = b.checked;
          room = room;
          sets = (sets_fit p.values p.readers l k same unspared_l unspared_k b.sets).right;
          rooted = (nodes_fit p.marks us above n l k b.rooted b.planted).right;
          tidy = right_tidy (neither (bare l) (bare k)) (writes_slot (bare k)) p.values b.tidy;
          owned = owned_fork_right g.setting g.funcs (Q g) (closed g) (go g) (reading g) (bare l) (bare k) (bare rest) b.once p.values b.tidy b.owned.0.0 b.owned.0.1 b.needs;
          once = b.once.0.1;
          needs = needs_fork_right g.setting g.funcs (Q g) (closed g) (go g) (reading g) (bare l) (bare k) (bare rest) b.once p.values b.tidy b.owned.0.0 b.owned.0.1 b.needs;
          planted = planted_right p.marks b.rooted us above n l k b.planted;
          unshared = unshared_right (outside p.marks l k) (has_node k) p.marks b.unshared;
          wired = (sides_wire p.readers p.marks us above n l k b.rooted b.planted b.wired b.ordered).right;
          ordered = b.ordered.4;
          aged = unspared_k;
          watched = (sides_watch p.readers p.values p.marks us above n l k b.rooted b.tidy b.planted b.wired b.ordered).right b.watched.1;
        }

    module _ (u w : Kept) (a c j : Views) (one two : Ended) (x : Gone g outer (Some n) l u left_part a one) (y : Gone g outer (Some n) k w right_part c two) (jn : Joins a c j) where
      claims : (d : CapKind) → MoreClaims (claims_of d p) (claims_of d j) (x.lasting.drew d + y.lasting.drew d)
      claims cap.Nodes = claims_joined p.marks.claims a.marks.claims c.marks.claims j.marks.claims (x.lasting.drew cap.Nodes) (y.lasting.drew cap.Nodes) (ap (λ (z : MarksView). z.claims) jn.marks) (x.lasting.claims cap.Nodes) (y.lasting.claims cap.Nodes)
      claims cap.Mods = claims_joined p.values.claims a.values.claims c.values.claims j.values.claims (x.lasting.drew cap.Mods) (y.lasting.drew cap.Mods) (ap (λ (z : ValueView). z.claims) jn.values) (x.lasting.claims cap.Mods) (y.lasting.claims cap.Mods)
      claims cap.Links = claims_joined p.readers.claims a.readers.claims c.readers.claims j.readers.claims (x.lasting.drew cap.Links) (y.lasting.drew cap.Links) (ap (λ z. z.claims) jn.readers) (x.lasting.claims cap.Links) (y.lasting.claims cap.Links)

      -- the claims of each part of the pass, and of the pass that joins them
      left_is : (d : CapKind) → claims_of d left_part ≡ claiming.left_of (claims_of d p)
      left_is = each_cap (λ d. claims_of d left_part ≡ claiming.left_of (claims_of d p)) refl refl refl

      right_is : (d : CapKind) → claims_of d right_part ≡ claiming.right_of (claims_of d p)
      right_is = each_cap (λ d. claims_of d right_part ≡ claiming.right_of (claims_of d p)) refl refl refl

      join_is : (d : CapKind) → claims_of d j ≡ claiming.joined (claims_of d a) (claims_of d c)
      join_is = each_cap (λ d. claims_of d j ≡ claiming.joined (claims_of d a) (claims_of d c)) (ap (λ (z : MarksView). z.claims) jn.marks) (ap (λ (z : ValueView). z.claims) jn.values) (ap (λ z. z.claims) jn.readers)

      indexes : (d : CapKind) → length (claims_of d j).drawn ≡ length (claims_of d p).drawn + (x.lasting.drawn d + y.lasting.drawn d)
      indexes d =
          let e = x.lasting.indexes d in
          let f = y.lasting.indexes d in
          let g = ap (λ (z : ClaimView). length z.drawn) (left_is d) in
          let h = ap (λ (z : ClaimView). length z.drawn) (right_is d) in
          let i = ap (λ (z : ClaimView). length z.drawn) (join_is d) in
          let o = length-append (claims_of d a).drawn (claims_of d c).drawn in
          omega (arith, e, f, g, h, i, o)

      -- the division of the nodes: outside of both sides, and of the right one
      abbrev Sh : ℕ → Bool
      Sh = outside p.marks l k

      abbrev Ri : ℕ → Bool
      Ri = has_node k

      node_branch : a.marks.claims.branch ≡ (marks.left_of Sh Ri p.marks).claims.branch
      node_branch = (x.lasting.claims cap.Nodes).branch

      joined_room : Roomy a → Roomy c → Roomy j
      joined_room ra rc =
          let ev = ap (λ (z : ValueView). z.claims.over) jn.values in
          let er = ap (λ z. z.claims.over) jn.readers in
          let em = ap (λ (z : MarksView). z.claims.over) jn.marks in
          let av = ra.0 in
          let ar = ra.1 in
          let am = ra.2 in
          let cv = rc.0 in
          let cr = rc.1 in
          let cm = rc.2 in
          (omega (arith, ev, av, cv), omega (arith, er, ar, cr), omega (arith, em, am, cm))

      beside_sides : Beside outer l left_part a → Beside outer k right_part c → Beside us (P n l k) p j
      beside_sides d e =
          record {
            room = joined_room d.room e.room;
            sets = (sets_fit p.values p.readers l k same unspared_l unspared_k b.sets).both a.values c.values j.values a.readers c.readers j.readers x.gone x.made y.gone y.made x.lasting.stays x.relinks.relinked y.relinks.relinked jn.values jn.readers d.sets e.sets;
            rooted = (nodes_fit p.marks us above n l k b.rooted b.planted).both a.marks c.marks j.marks d.passed e.passed d.rooted e.rooted jn.marks jn.united_marks jn.dropped jn.kept;
            passed = passed_whole p.marks j.marks us n (slots l ++ slots k) ((nodes_fit p.marks us above n l k b.rooted b.planted).passed a.marks c.marks j.marks d.passed e.passed jn.marks jn.united_marks);
            steady = (sides_watch p.readers p.values p.marks us above n l k b.rooted b.tidy b.planted b.wired b.ordered).beside a.values c.values j.values x.lasting.stays y.lasting.stays jn.values jn.united d.steady e.steady;
          }

      went_sides : Went outer (Some n) l u x.gone x.made left_part a → Went outer (Some n) k w y.gone y.made right_part c → WentBelow us n (P n) l k u w (x.gone ++ y.gone) (x.made ++ y.made) p j
      went_sides d e =
          record {
            halves = sides_stand p.marks a.marks c.marks j.marks us above n l k u w b.rooted b.planted d.replanted e.replanted jn.marks jn.united_marks;
            rewired = (sides_wire p.readers p.marks us above n l k b.rooted b.planted b.wired b.ordered).both a.readers c.readers j.readers u w x.gone y.gone x.made y.made b.sets.labels d.rewired e.rewired jn.readers jn.once;
            gone_is = both_all links_of (taken l u) (taken k w) x.gone y.gone d.gone_is e.gone_is;
            made_is = both_all links_of (given l u) (given k w) x.made y.made d.made_is e.made_is;
            woken = outside_woke p.readers p.values j.values j.marks j.marks outer us (λ z i. inr i) (λ z i h. h)
                ((sides_watch p.readers p.values p.marks us above n l k b.rooted b.tidy b.planted b.wired b.ordered).both a.values c.values j.values a.marks c.marks j.marks x.lasting.stays y.lasting.stays jn.values jn.united jn.marks d.woken e.woken);
          }

      -- what lasts of each side
      abbrev xl : Lasting left_part a
      xl = x.lasting

      abbrev yl : Lasting right_part c
      yl = y.lasting

      abbrev both_mods : List Handle
      both_mods = xl.mods ++ yl.mods

      abbrev both_nodes : List OwnView
      both_nodes = xl.nodes ++ yl.nodes

      abbrev both_gone : List ℕ
      both_gone = xl.gone_nodes ++ yl.gone_nodes

      both_values : MoreValues p.values j.values both_mods
      both_values =
          values_of_sides p.values a.values c.values j.values l k xl.mods yl.mods b.tidy xl.stays yl.stays jn.values jn.united
          xl.values yl.values

      both_swapped : Swapped p.marks j.marks both_gone (handles_in both_nodes)
      both_swapped =
          swapped_both p.marks a.marks c.marks j.marks l k xl.gone_nodes yl.gone_nodes xl.nodes yl.nodes xl.swapped yl.swapped jn.marks

      both_own : (f : OwnView → ℕ) → sum_by f j.marks.own ≡ sum_by f p.marks.own + sum_by f both_nodes
      both_own = owned_both Sh Ri p.marks a.marks c.marks j.marks b.rooted node_branch xl.shared jn.marks xl.nodes yl.nodes xl.own yl.own

      replaced_both : Replaced l u xl.mods (handles_in xl.nodes) xl.gone_nodes → Replaced k w yl.mods (handles_in yl.nodes) yl.gone_nodes
          → Replaced (P n l k) (P n u w) both_mods (handles_in both_nodes) both_gone
      replaced_both d e =
          replaced_pair both_mods (handles_in both_nodes) both_gone n l k u w
          (replaced_parts n l k u w xl.mods yl.mods xl.nodes yl.nodes xl.gone_nodes yl.gone_nodes d e)

      pub sides_after : AfterBelow (PartOf g (bare (P n l k)) (bare rest)) us n (P n) l k u w p j (both_ended one two)
      sides_after =
          record {
            lasting = record {
              stays = joined_kept (neither (bare l) (bare k)) (writes_slot (bare k)) p.values b.tidy a.values c.values j.values x.lasting.stays y.lasting.stays jn.values jn.united;
              drew = λ d. x.lasting.drew d + y.lasting.drew d;
              claims = claims;
              drawn = λ d. x.lasting.drawn d + y.lasting.drawn d;
              indexes = indexes;
              mods = both_mods;
              values = both_values;
              mods_drew = long_both (xl.drew cap.Mods) (yl.drew cap.Mods) xl.mods yl.mods xl.mods_drew yl.mods_drew;
              nodes = both_nodes;
              gone_nodes = both_gone;
              swapped = both_swapped;
              own = both_own;
              nodes_drew = long_both (xl.drew cap.Nodes) (yl.drew cap.Nodes) xl.nodes yl.nodes xl.nodes_drew yl.nodes_drew;
              shared = shared_both Sh Ri p.marks a.marks c.marks j.marks b.rooted node_branch xl.shared jn.marks;
            };
            tells = sides_add g p.values a.values c.values j.values (bare l) (bare k) (bare rest) x.lasting.drawn y.lasting.drawn (λ d. x.lasting.drawn d + y.lasting.drawn d) one two b.once b.tidy b.owned.0.0 b.owned.0.1 b.owned.1 x.lasting.stays y.lasting.stays jn.values jn.united (λ d. refl) x.tells y.tells;
            room = room_both a c j joined_room one two x.room y.room;
            full = full_both p j left_part a right_part c
                (λ z f. full_left p left_part a c j z (left_is z.which) (join_is z.which) f)
                (λ z f. full_right p left_part a right_part c j (x.lasting.drew z.which) z (left_is z.which) (right_is z.which) (join_is z.which) (x.lasting.claims z.which) f)
                one two x.full y.full;
            gone = x.gone ++ y.gone;
            made = x.made ++ y.made;
            links_drew = long_both (x.lasting.drew cap.Links) (y.lasting.drew cap.Links) x.made y.made x.links_drew y.links_drew;
            relinks = (sides_wire p.readers p.marks us above n l k b.rooted b.planted b.wired b.ordered).beside a.readers c.readers j.readers x.gone y.gone x.made y.made b.sets.labels x.relinks y.relinks jn.readers jn.once;
            beside = both_good one two beside_sides x.beside y.beside;
            went = both_good one two went_sides x.went y.went;
            replaced = both_good one two replaced_both x.replaced y.replaced;
          }

  -- both sides are done, and the node is cleared
  module _ (u w : Kept) (q : Views) (z : Rec Handle) (a : AfterBelow (PartOf g (bare (P n l k)) (bare rest)) us n (P n) l k u w p q (Good z)) where
    pl : Planted p.marks us above (S n l k)
    pl = planted_pair p.marks us above n l k b.planted

    pub sides_owns : Owns q.marks n
    sides_owns = step_owns p.marks us above n l k pl q.marks u w a.went.halves

    pub sides_bare : Bare q.marks n.slot
    sides_bare = step_bare p.marks us above n l k pl q.marks u w a.went.halves

    pub sides_done : PartGone g us above rest (P n l k) (P n u w) p (record q { marks = marks.cleared n.slot q.marks }) (Good z)
    sides_done =
        let h = replanted_step p.marks us above n l k pl q.marks u w a.went.halves in
        let d = a.went in
        record {
          lasting = lasting_cleared n p q a.lasting;
          tells = a.tells;
          room = a.room;
          full = tt;
          gone = a.gone;
          made = a.made;
          links_drew = a.links_drew;
          relinks = a.relinks;
          beside = record { room = a.beside.room; sets = a.beside.sets; rooted = rooted_cleared n q.marks a.beside.rooted; passed = h.passed; steady = a.beside.steady };
          went = record {
            replanted = replanted_pair p.marks (marks.cleared n.slot q.marks) us above n l k u w h;
            rewired = d.rewired;
            gone_is = d.gone_is;
            made_is = d.made_is;
            woken = woken_cleared n us p q (λ x i e. b.planted.apart x i (inl e)) d.woken;
          };
          replaced = a.replaced;
        }
