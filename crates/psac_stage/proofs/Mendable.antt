-- A record that is kept may be repaired, once slots of inputs changed.
use Rattle.std.proofs.Common.{◌≡◌, ℕ, ◌+◌, ◌≤◌, ◌<◌, ◌==◌, false, List, [], ◌∷◌, length, None, refl, ap, sym, ◌∙◌, subst, inl, inr, arith}
use Rattle.std.specs.Prelude.{sum_by, cond}
use Rattle.std.proofs.lemmas.List.Sums.{sum_by-cons}
use Rattle.psac_ops.specs.declared.plain.Handle.{Handle}
use Rattle.psac_slots.specs.Handles.{Member}
use Rattle.psac_slots.specs.Claiming.{Accounted, times}
use Rattle.psac_slots.specs.declared.view.ClaimView.{ClaimView}
use Rattle.psac_values.specs.Knowing.{Has}
use Rattle.psac_readers.specs.declared.view.Stage.TheVariants.{In as Live}
use Rattle.psac_readers.specs.Chained.{named, mods_of}
use Rattle.psac_marks.specs.declared.view.MarksView.{MarksView}
use Rattle.psac_inputs.specs.Grid.{Grid, IsGrid}
use Rattle.psac_model.specs.declared.ends.Caps.{Caps}
use Rattle.psac_model.specs.Fresh.{World}
use Rattle.psac_laws.proofs.Opening.{IsChecked}
use Rattle.psac_laws.proofs.Places.{nat_same}
use Rattle.psac_plain.specs.Opened.{at_slot}
use Rattle.psac_record.specs.Kept.{Kept, E, A, W, S, P, R, Stands, links_of, bare}
use Rattle.psac_trace.specs.Rights.{In}
use Rattle.psac_trace.specs.Fit.{SetsReady, Rooted, is_spare}
use Rattle.psac_trace.proofs.Claims.{times_append}
use Rattle.psac_trace.proofs.Fitting.{rooted_same}
use Rattle.psac_repair.specs.Going.{Views, Roomy}
use Rattle.psac_repair.specs.FitLaws.{Unspared}
use Rattle.psac_repair.specs.Laws.{Program, NeedsOf}
use Rattle.psac_repair.specs.Linked.{standing, Distinct, Linked}
use Rattle.psac_repair.specs.Marks.{Nodes}
use Rattle.psac_repair.specs.Planted.{slots, Families, Planted}
use Rattle.psac_repair.specs.Rewired.{Wired}
use Rattle.psac_repair.specs.Stood.{Owned}
use Rattle.psac_repair.specs.Taken.{indexes}
use Rattle.psac_repair.proofs.Forked.{Touches, slot_touch, written_owned}
use Rattle.psac_repair.proofs.Passing.{node_at, own_has}
use Rattle.psac_repair.proofs.Wiring.{records_ordered}
use Rattle.psac_reclaim.specs.Owed.{entered}
use Rattle.psac_stage.specs.Places.{base_heap, fixed_slots}
use Rattle.psac_stage.specs.Resting.{AllOf}
use Rattle.psac_stage.specs.Recorded.{setting_at, Recorded, Mendable}
use Rattle.psac_stage.specs.Staging.{Changes}
use Rattle.psac_stage.proofs.Apart.{makes_member}
use Rattle.psac_stage.proofs.Awake.{has_then, alone_now, tidy_now, owned_now, watched_now}
use Rattle.psac_stage.proofs.Begins.{time_in, low_slot}
use Rattle.psac_stage.proofs.Bounds.{held_once, made_high, made_is_at, has_at, at_low, at_unspared, apart}
use Rattle.psac_stage.proofs.Counts.{sum_map}
use Rattle.psac_stage.proofs.Grounds.{stands}
use Rattle.psac_stage.proofs.Known.{known_entry}
use Rattle.psac_stage.proofs.Paths.{link_from, link_here, readers_lead}

-- links of which no two have one index
index_sum : (l : ℕ) (ss : List Stands) → Member l (indexes ss) → 0 < sum_by (λ (s : Stands). named l (standing s)) ss
index_sum l [] i = absurd i
index_sum l (s ∷ ss) (inl e) =
    let c = sum_by-cons (λ (z : Stands). named l (standing z)) s ss in
    let t : named l (standing s) ≡ 1 = subst (λ n. named n (standing s) ≡ 1) e (itself s.link.index) in
    omega (arith, c, t)
  where
    itself : (n : ℕ) → ◌≡◌ {A = ℕ} (cond (n == n) 1 0) 1
    itself n = ap {B = ℕ} (λ b. cond b 1 0) (nat_same n)
index_sum l (s ∷ ss) (inr i) =
    let c = sum_by-cons (λ (z : Stands). named l (standing z)) s ss in
    let r = index_sum l ss i in
    omega (arith, c, r)

distinct_by : (ss : List Stands) → ((l : ℕ) → sum_by (λ (s : Stands). named l (standing s)) ss ≤ 1) → Distinct (indexes ss)
distinct_by [] f = tt
distinct_by (s ∷ ss) f =
    let c : (l : ℕ) → sum_by (λ (z : Stands). named l (standing z)) (s ∷ ss) ≡ named l (standing s) + sum_by
    (λ (z : Stands). named l (standing z)) ss = λ l. sum_by-cons (λ (z : Stands). named l (standing z)) s ss in (
      λ i.
          let here = index_sum s.link.index (s ∷ []) (inl refl) in
          let one = sum_by-cons (λ (z : Stands). named s.link.index (standing z)) s [] in
          let none : sum_by (λ (z : Stands). named s.link.index (standing z)) [] ≡ 0 = refl in
          let more = index_sum s.link.index ss i in
          let all = c s.link.index in
          let few = f s.link.index in
          omega (arith, here, one, none, more, all, few),
      distinct_by ss (λ l. let all = c l in let few = f l in omega (arith, all, few)),
    )

pub families_same : (m n : MarksView) → n.own ≡ m.own → n.dropped ≡ m.dropped → (k : Kept) → Families m k → Families n k
families_same m n own gone E f = tt
families_same m n own gone (A h r) f = families_same m n own gone r f
families_same m n own gone (W h v r) f = families_same m n own gone r f
families_same m n own gone (S c t r) f = (
  λ o i e h. f.0 o (subst (Member o) own i) e (ap (times o.node.slot) (sym gone) ∙ h),
  families_same m n own gone t f.1,
  families_same m n own gone r f.2,
)
families_same m n own gone (P c t r) f = (
  λ o i e h. f.0 o (subst (Member o) own i) e (ap (times o.node.slot) (sym gone) ∙ h),
  families_same m n own gone t f.1,
  families_same m n own gone r f.2,
)
families_same m n own gone (R b t) f = (
  λ o i e h. f.0 o (subst (Member o) own i) e (ap (times o.node.slot) (sym gone) ∙ h),
  families_same m n own gone t f.1,
)

module _ (w : World) (g h : Grid) (okg : IsGrid g) (okh : IsGrid h) (checked : IsChecked w) (caps : Caps) (age : ℕ) (k : Kept)
    (ss : List ℕ) (p q : Views) (all : AllOf g (length w.main.dests) caps age p.values p.readers p.marks)
    (now : AllOf h (length w.main.dests) caps age q.values q.readers q.marks) (whole : Accounted p.values.claims)
    (links_whole : Accounted p.readers.claims) (over : Roomy p) (rec : Recorded w g k p.values p.readers p.marks) (a : Changes ss p q) where
  abbrev outs : ℕ
  outs = length w.main.dests

  abbrev fixed : ℕ
  fixed = fixed_slots g outs

  fixed_p : p.values.fixed ≡ fixed
  fixed_p = all.fixed.fixed_is

  module _ (opened : h.opened ≡ g.opened) (room : h.room ≡ g.room) (cols : h.cols ≡ g.cols)
      (inputs : (s : ℕ) → Member s ss → In (base_heap g w.main.dests) (at_slot s) × (s < fixed)) where
    own_same : q.marks.own ≡ p.marks.own
    own_same = ap (λ (z : MarksView). z.own) a.becomes

    gone_same : q.marks.dropped ≡ p.marks.dropped
    gone_same = ap (λ (z : MarksView). z.dropped) a.becomes

    -- values
    set_low : (s : ℕ) → s < p.values.fixed + p.values.claims.count → (s < q.readers.mods) × Member s (mods_of q.readers.walk)
    set_low s low =
        let c = all.mods.count_is in
        let m = all.sets.mods_is in (
          subst (λ n. s < n) (sym a.readers.mods) (omega (arith, low, fixed_p, c, m)),
          subst (Member s) (sym a.readers.walk) (time_in s (mods_of p.readers.walk) (all.sets.all s (omega (arith, low, fixed_p, c)))),
        )

    has_low : (m : Handle) → Has p.values m → m.slot < p.values.fixed + p.values.claims.count
    has_low m i = at_low k p.values rec.values whole m.slot (has_at k p.values rec.values whole m i)

    sets_ready : SetsReady q.values q.readers
    sets_ready =
        record {
          mine = λ m i. let s = set_low m.slot (has_low m (has_then k ss p q a all.fixed.alone rec.values m i)) in (s.0, inl s.1);
          known = λ e i. absurd (subst (Member e) (alone_now k ss p q a all.fixed.alone rec.values) i);
          spare = λ c i.
              let low = low_slot p.values.claims whole c (subst (λ (z : ClaimView). Member c z.list) a.same.claims i) in
              let s = set_low (q.values.fixed + c.slot) (let f = a.same.fixed in omega (arith, low, f)) in
              (s.0, inl s.1);
          labels = λ f i. absurd (subst (Member f) (a.readers.shared ∙ all.sets.alone) i);
        }

    owned : Owned q.values (bare k)
    owned = owned_now k ss p q a all.fixed.alone rec.values fixed all.fixed (base_heap g w.main.dests) inputs rec.fresh

    abbrev Free : ℕ → Type 0
    Free s = is_spare p.values.fixed p.values.claims.list s ≡ false

    touched_free : (n : Handle) → Touches (bare k) n → Free n.slot
    touched_free n (inl made) = at_unspared k p.values rec.values whole n.slot
        (made_is_at k p.values rec.values whole n (makes_member (bare k) n made))
    touched_free n (inr wrote) =
        at_unspared k p.values rec.values whole n.slot
        (has_at k p.values rec.values whole n (has_then k ss p q a all.fixed.alone rec.values n
        (written_owned q.values (bare k) owned n wrote)))

    unspared : Unspared q.values k
    unspared s t =
        let n = slot_touch (bare k) s t in
        ap (λ f. is_spare f q.values.claims.list s) a.same.fixed ∙ ap (λ (c : ClaimView). is_spare p.values.fixed c.list s)
        a.same.claims ∙ subst Free n.2 (touched_free n.0 n.1)

    -- nodes
    raised_in : (x : ℕ) → 0 < times x q.marks.marked → Member x (slots k)
    raised_in x more =
        let e = ap (λ (z : MarksView). times x z.marked) a.becomes in
        let b = times_append x p.marks.marked a.marks in
        let z = rec.nodes.unmarked x in
        a.within (slots k) (λ s i. readers_lead k p.marks rec.nodes p.readers rec.links s) x
        (time_in x a.marks (omega (arith, e, b, z, more)))

    nodes_now : Nodes q.marks None k
    nodes_now = subst (λ z. Nodes z None k) (sym a.becomes) rec.nodes.nodes

    planted : Planted q.marks [] None k
    planted =
        record {
          nodes = nodes_now;
          families = families_same p.marks q.marks own_same gone_same k rec.nodes.families;
          once = rec.nodes.once;
          apart = λ x i j. i;
          known = λ x i. absurd i;
          had = λ x more. own_has q.marks x (node_at q.marks None k nodes_now x (raised_in x more));
        }

    rooted : Rooted q.marks
    rooted = rooted_same p.marks q.marks own_same (ap (λ (z : MarksView). z.shared) a.becomes) gone_same
        (ap (λ (z : MarksView). z.claims.branch) a.becomes) rec.nodes.rooted

    -- links
    links_few : (l : ℕ) → sum_by (named l) p.readers.links ≤ 1
    links_few l = let e = rec.links.holds.held l in let o = held_once p.readers.claims links_whole l in omega (arith, e, o)

    linked : Linked q.readers k
    linked =
        record {
          live = λ s i. subst (Member (standing s)) (sym a.readers.links) (link_here k p.marks rec.nodes p.readers rec.links s i);
          once = distinct_by (links_of k) (λ l. let s = rec.links.links (named l) in let m = sum_map (entered Live) (named l)
              (links_of k) in let f = links_few l in omega (arith, s, m, f));
        }

    wired : Wired q.readers q.marks [] None k
    wired =
        record {
          linked = linked;
          once = λ l. subst (λ ls. sum_by (named l) ls ≤ 1) (sym a.readers.links) (links_few l);
          walk = λ s i.
              let o = known_entry i.0.0 i.0.1 p.values.mine (rec.values.wrote i.0.0 i.0.1 i.1) in
              subst (λ n. (n < q.readers.mods) × Member n (mods_of q.readers.walk)) i.2
              (set_low i.0.0.slot (has_low i.0.0 (o.0, o.1, o.2)));
          readers = λ s l i j o e. inl (link_from k p.marks rec.nodes p.readers rec.links l (subst (Member l) a.readers.links j) e);
          led = λ x i. absurd i;
          above_led = tt;
          fits = rec.nodes.fits;
        }

    abbrev code : Program
    code = record { setting = setting_at w h; funcs = w.program.funcs; main = w.main.body; checked = checked.each; same = refl }

    needs : NeedsOf code (bare k) q.values
    needs =
        stands w g h opened room cols okg okh checked p.values q.values all.fixed all.grid now.fixed now.grid (bare k) rec.left_it
        (λ m i. let b = made_high k p.values rec.values whole m (makes_member (bare k) m i) in omega (arith, b, fixed_p))

    pub mendable : Mendable w h k q
    mendable =
        let tidy = tidy_now k ss p q a all.fixed.alone rec.values in
        let once = apart k p.values rec.values whole in
        let watched = watched_now k ss p q a all.fixed.alone rec.values rec.nodes rec.links in
        record {
          checked = checked.each;
          room = (
            ap (λ (c : ClaimView). c.over) a.same.claims ∙ over.0,
            ap (λ (c : ClaimView). c.over) a.readers.claims ∙ over.1,
            ap
                (λ (z : MarksView). z.claims.over) a.becomes ∙ over.2,
          );
          sets = sets_ready;
          rooted = rooted;
          tidy = tidy;
          owned = owned;
          once = once;
          needs = needs;
          planted = planted;
          unshared = λ o e i j. absurd (subst (Member e) now.alone j);
          wired = wired;
          ordered = records_ordered code q.values q.marks k once tidy owned watched needs;
          aged = unspared;
          watched = watched;
        }
