-- A run anew that is done leaves its record so that it may be kept.
use Rattle.std.proofs.Common.{◌≡◌, ℕ, ◌≤◌, ◌<◌, ◌==◌, Bool, true, false, cond, List, [], ◌++◌, map, length, Option, Some, None, refl, ap, sym, ◌∙◌, subst, inl, inr, arith}
use Rattle.std.specs.Prelude.{sum_by}
use Rattle.psac_ops.specs.declared.plain.Handle.{Handle}
use Rattle.psac_ops.specs.declared.plain.Plain.{Plain}
use Rattle.psac_ops.specs.Named.{same_handle, value_of}
use Rattle.psac_slots.specs.Handles.{Member}
use Rattle.psac_slots.specs.Claiming.{times}
use Rattle.psac_values.specs.declared.view.OwnedView.{OwnedView}
use Rattle.psac_values.specs.declared.view.ValueView.{ValueView}
use Rattle.psac_values.specs.Steps.{made_handle}
use Rattle.psac_readers.specs.declared.view.ReadersView.{ReadersView}
use Rattle.psac_readers.specs.declared.view.Stage.TheVariants.{In as Live}
use Rattle.psac_marks.specs.declared.view.OwnView.{OwnView}
use Rattle.psac_marks.specs.declared.view.MarksView.{MarksView}
use Rattle.psac_fork.specs.declared.tables.Pass.{Pass}
use Rattle.psac_fork.specs.declared.tables.Tables.{Tables}
use Rattle.psac_inputs.specs.Grid.{Grid, IsGrid}
use Rattle.psac_model.specs.declared.ends.Caps.{Caps}
use Rattle.psac_model.specs.declared.ends.CapKind.TheVariants as cap
use Rattle.psac_model.specs.declared.ends.End.TheVariants.{Done}
use Rattle.psac_model.specs.Fresh.{World, levels}
use Rattle.psac_laws.specs.Standing.{params}
use Rattle.psac_laws.proofs.Opening.{IsChecked}
use Rattle.psac_laws.proofs.Places.{nat_is, nat_same, test_or}
use Rattle.psac_plain.proofs.Linked.{handles_told}
use Rattle.psac_traced.specs.Bodies.{IsCode}
use Rattle.psac_traced.specs.Holds.{Holds}
use Rattle.psac_traced.specs.Places.{Makes, IsApart}
use Rattle.psac_traced.specs.Rec.{writes}
use Rattle.psac_traced.specs.Traced.{traced}
use Rattle.psac_traced.proofs.Bodies.{code_closed}
use Rattle.psac_traced.proofs.Holds.{traced_holds}
use Rattle.psac_record.specs.Kept.{Kept, nodes_below, nodes_in, links_of, bare}
use Rattle.psac_trace.specs.Rights.{held, Moved}
use Rattle.psac_trace.specs.Grown.{as_own, made_below, Moves}
use Rattle.psac_trace.specs.Told.{Good, Traces}
use Rattle.psac_trace.proofs.Fitting.{rooted_same}
use Rattle.psac_trace.proofs.Leading.{member_sum, sum_member, zero_or}
use Rattle.psac_repair.specs.Marks.{Nodes}
use Rattle.psac_repair.proofs.Along.{goes_along, reads_along}
use Rattle.psac_repair.proofs.Grafting.{once_made}
use Rattle.psac_repair.proofs.Passing.{node_at}
use Rattle.psac_repair.proofs.Steps.{left_of_stood}
use Rattle.psac_reclaim.specs.Owed.{entered}
use Rattle.psac_stage.specs.Places.{base_heap, fixed_slots}
use Rattle.psac_stage.specs.Holding.{entries}
use Rattle.psac_stage.specs.Resting.{MayRun}
use Rattle.psac_stage.specs.Settling.{Settles}
use Rattle.psac_stage.specs.Recorded.{known_of, setting_at, places_at, LeftBy, HasMade, HasNodes, HasLinks, Recorded}
use Rattle.psac_stage.specs.Leaving.{LeavesMain}
use Rattle.psac_stage.proofs.Afters.{behind, distinct, few, alone_now, entries_now, none_before}
use Rattle.psac_stage.proofs.Anew.{Anew, anew_all, put_held, read_held}
use Rattle.psac_stage.proofs.Apart.{apart_distinct, makes_member}
use Rattle.psac_stage.proofs.Begins as begins
use Rattle.psac_stage.proofs.Bounds.{held_low}
use Rattle.psac_stage.proofs.Counts.{sum_map}
use Rattle.psac_stage.proofs.Families.{nodes_by, families_by, below_sum}
use Rattle.psac_stage.proofs.Grounds.{stood}
use Rattle.psac_stage.proofs.Known.{known_seen, has_told}
use Rattle.psac_stage.proofs.Members.{in_counted}
use Rattle.psac_stage.proofs.Mendable.{families_same}
use Rattle.psac_stage.proofs.Paths.{same_node, node_same, node_is}

-- own nodes that are the same
abbrev pub same_own : OwnView → OwnView → ℕ
same_own o x = cond (same_handle x.node o.node) (cond (same_node x.parent o.parent) 1 0) 0

pub own_itself : (o : OwnView) → same_own o o ≡ 1
own_itself o = rw (handles_told.itself o.node, node_same o.parent) refl

pub own_is : (o x : OwnView) → 0 < same_own o x → x ≡ o
own_is o x h =
    elim (test_or (same_handle x.node o.node)) [
      | inl p ↦
          elim (test_or (same_node x.parent o.parent)) [
            | inl q ↦ ap (λ z. record { node = z; parent = x.parent }) (handles_told.alone x.node o.node p) ∙ ap
                (λ z. record { node = o.node; parent = z }) (node_is x.parent o.parent q)
            | inr q ↦ absurd (let z : 0 < 0 = rw (p, q) at h in omega (arith, z))
          ]
      | inr p ↦ absurd (let z : 0 < 0 = rw p at h in omega (arith, z))
    ]

handle_is : (m x : Handle) → 0 < cond (same_handle x m) 1 0 → x ≡ m
handle_is m x h = elim (test_or (same_handle x m))
    [ inl t ↦ handles_told.alone x m t | inr t ↦ absurd (let z : 0 < 0 = rw t at h in omega (arith, z)) ]

none_sum : {A : Type 0} (f : A → ℕ) (xs : List A) → xs ≡ [] → sum_by f xs ≡ 0
none_sum f xs e = ap (sum_by f) e ∙ refl

module _ (w : World) (g : Grid) (caps : Caps) (age : ℕ) (t : Tables) (k : Kept) (p q z : Pass) (ok : IsGrid g) (checked : IsChecked w)
    (small : caps.nodes < 4294967296) (may : MayRun (length w.main.dests) g caps age t p) (leaves : LeavesMain w g t p q (Good k))
    (settles : Settles q z) where
  abbrev outs : ℕ
  outs = length w.main.dests

  moves : Moves t p q (made_below None k)
  moves = subst (Moves t p q) leaves.all leaves.moves

  abbrev v : ValueView
  v = q.values.knows

  -- what the run told
  told : Traces (traced (setting_at w g) w.program.funcs levels) w.main.body (places_at w g) (base_heap g w.main.dests) (bare k) Done ×
      Moved (params w.main) (begins.body_left w g ok checked caps age t p may.of may.all may.rested may.clear).end.unwritten
      (places_at w g) p.values.knows v (base_heap g w.main.dests) (writes (bare k))
  told =
      let left = begins.body_left w g ok checked caps age t p may.of may.all may.rested may.clear in
      let b = leaves.tells (base_heap g w.main.dests) (params w.main) left.end left.meets
      (begins.ready w g ok checked caps age t p may.of may.all may.rested may.clear) in
      (b.0, b.1)

  left_it : LeftBy w g (bare k)
  left_it = told.0.run (base_heap g w.main.dests) (λ m x e. e)

  high : (m : Handle) → Makes (bare k) m → fixed_slots g outs ≤ m.slot
  high m i = behind g ok w.main.dests caps age t p q may.all may.clear (made_below None k) moves m (makes_member (bare k) m i)

  apart : IsApart (bare k)
  apart = apart_distinct (bare k) (distinct g ok w.main.dests caps age t p q may.all may.clear (made_below None k) moves)

  anew : Anew (base_heap g w.main.dests) (bare k)
  anew =
      let n = stood w g g refl refl refl ok ok checked p.values.knows p.values.knows may.all.fixed may.all.grid may.all.fixed
      may.all.grid (bare k) left_it high in
      let Q = IsCode w.program.funcs w.main.body in
      let closed = code_closed w.program.funcs w.main.body in
      let go = goes_along (setting_at w g) w.program.funcs checked.each in
      let reading = reads_along (setting_at w g) in
      let base = base_heap g w.main.dests in
      let l = left_of_stood (setting_at w g) w.program.funcs Q closed go reading p.values.knows (bare k) levels w.main.body
      (places_at w g) base base (params w.main) _ n in
      anew_all (setting_at w g) w.program.funcs Q closed go reading (bare k) levels w.main.body (places_at w g) base (params w.main) _
      apart l

  holds : Holds same_handle (base_heap g w.main.dests) (bare k)
  holds = traced_holds (setting_at w g) w.program.funcs levels w.main.body (places_at w g) (base_heap g w.main.dests) (bare k) Done left_it

  few_now : (s : ℕ) → entries s v.mine ≤ 1
  few_now = few g ok w.main.dests caps age t p q may.all may.clear (made_below None k) moves

  alone : v.known ≡ []
  alone = alone_now g ok w.main.dests caps age t p q may.all may.clear (made_below None k) moves

  known_by : (m : Handle) (x : Plain) → held (writes (bare k) ++ base_heap g w.main.dests) m ≡ Some (value_of x)
      → known_of m v.mine ≡ Some x
  known_by m x e = known_seen v m x alone (few_now m.slot) (told.1.sees m (value_of x) e)

  has_made : HasMade k v
  has_made =
      record {
        out = λ f.
            let a = moves.values.held f in
            let b = sum_map (made_handle v.fixed) f v.claims.held in
            let c = none_sum (λ (h : Handle). f (made_handle p.values.knows.fixed h)) p.values.knows.claims.held may.clear.mods in
            omega (arith, a, b, c);
        once = few_now;
        mine = λ o i high.
            let a = entries_now g ok w.main.dests caps age t p q may.all may.clear (made_below None k) moves o.of.slot in
            let f = moves.stays.fixed ∙ may.all.fixed.fixed_is in
            let b = none_before g ok w.main.dests caps age t p q may.all may.clear (made_below None k) moves o.of.slot
            (omega (arith, high, f)) in
            let n = in_counted (λ (x : OwnedView). x.of.slot == o.of.slot) v.mine o i (nat_same o.of.slot) in
            omega (arith, a, b, n);
        made = λ m i. let h = moves.values.has m i in has_told v.mine m h.0 h.1 h.2;
        wrote = λ m x i. known_by m x (put_held k (base_heap g w.main.dests) anew m x i);
        read = λ s i. known_by s.from s.value (read_held k (base_heap g w.main.dests) anew holds s i);
      }

  made_settled : HasMade k z.values.knows
  made_settled =
      let h = has_made in
      subst (HasMade k) (sym settles.values) (record {
        out = h.out;
        once = h.once;
        mine = h.mine;
        made = h.made;
        wrote = h.wrote;
        read
            = h.read;
      })

  -- nodes
  abbrev m : MarksView
  m = q.marks.knows

  own_below : (o : OwnView) → Member o m.own → Member o (map as_own (nodes_below None k))
  own_below o i =
      let here = member_sum (same_own o) o m.own i (let e = own_itself o in omega (arith, e)) in
      let sum = moves.nodes.own (same_own o) in
      let none = none_sum (same_own o) p.marks.knows.own may.clear.nodes in
      let b = sum_member (same_own o) (map as_own (nodes_below None k)) (omega (arith, here, sum, none)) in
      subst (λ x. Member x (map as_own (nodes_below None k))) (own_is o b.0 b.2) b.1

  undropped : (x : ℕ) → times x m.dropped ≡ 0
  undropped x = moves.nodes.dropped x ∙ ap (times x) may.clear.marks.2

  unmarked : (x : ℕ) → times x m.marked ≡ 0
  unmarked x =
      elim (zero_or (times x m.marked)) [
        | inl n ↦ n
        | inr more ↦
            (let none : times x p.marks.knows.marked ≡ 0 = ap (times x) may.clear.marks.0 in
            absurd (leaves.raises.only [] (λ h y i. absurd i) x (omega (arith, none, more))))
      ]

  held_sum : (f : Handle → ℕ) → sum_by f m.claims.held ≡ sum_by f (nodes_in k)
  held_sum f =
      let a = moves.nodes.held f in
      let b = none_sum f p.marks.knows.claims.held may.clear.nodes_out in
      let c = sum_map as_own (λ (o : OwnView). f o.node) (nodes_below None k) in
      let d = below_sum f None k in
      omega (arith, a, b, c, d)

  has_nodes : HasNodes k m
  has_nodes =
      let nodes = nodes_by m undropped None k (λ o i. moves.nodes.gained o i) in
      let once = once_made None k moves.nodes.differ in
      record {
        out = held_sum;
        nodes = nodes;
        families = families_by m None k once (λ x e s. no_parent x e) (λ o x i e s. own_below o i);
        once = once;
        rooted = moves.fit.nodes;
        fits = λ x i. let n = node_at m None k nodes x i in low n.own n.is x n.slot;
        unmarked = unmarked;
        undropped = undropped;
      }
    where
      no_parent : (x : ℕ) → (let o : Option ℕ = None in o ≡ Some x) → ⊥
      no_parent x e = cc

      low : (o : OwnView) → Member o m.own → (x : ℕ) → o.node.slot ≡ x → x < 4294967296
      low o i x e =
          let f : Handle → ℕ = λ h. cond (same_handle h o.node) 1 0 in
          let one : f o.node ≡ 1 = ap (λ b. cond b 1 0) (handles_told.itself o.node) in
          let here = member_sum (λ (y : OwnView). f y.node) o (map as_own (nodes_below None k)) (own_below o i) (omega (arith, one)) in
          let sum = moves.nodes.held f in
          let h = sum_member f m.claims.held (omega (arith, here, sum)) in
          let n = handle_is o.node h.0 h.2 in
          let held : z.marks.knows.claims.held ≡ m.claims.held = ap (λ (y : MarksView). y.claims.held) settles.marks in
          let count : z.marks.knows.claims.count ≡ m.claims.count = ap (λ (y : MarksView). y.claims.count) settles.marks in
          let l = held_low z.marks.knows.claims settles.whole_nodes h.0 (subst (Member h.0) (sym held) h.1) in
          let c = (moves.claims cap.Nodes).count in
          let most = may.all.nodes.count_is in
          let s = ap (λ (y : Handle). y.slot) n in
          omega (arith, l, count, c, most, s, e, small)

  nodes_settled : HasNodes k z.marks.knows
  nodes_settled =
      let h = has_nodes in
      let e = settles.marks in
      let own = ap (λ (y : MarksView). y.own) e in
      let gone = ap (λ (y : MarksView). y.dropped) e in
      record {
        out = λ f. ap (λ (y : MarksView). sum_by f y.claims.held) e ∙ h.out f;
        nodes = subst (λ y. Nodes y None k) (sym e) h.nodes;
        families = families_same m z.marks.knows own gone k h.families;
        once = h.once;
        rooted = rooted_same m z.marks.knows own (ap (λ (y : MarksView). y.shared) e) gone (ap (λ (y : MarksView). y.claims.branch) e)
            h.rooted;
        fits = h.fits;
        unmarked = λ x. ap (λ (y : MarksView). times x y.marked) e ∙ h.unmarked x;
        undropped = λ x. ap (λ (y : MarksView). times x y.dropped) e ∙ h.undropped x;
      }

  links_settled : HasLinks k z.readers.knows
  links_settled =
      record {
        links = λ f.
            let a = moves.links.links f in
            let b = none_sum f p.readers.knows.links may.clear.links in
            let c = sum_map (entered Live) f (links_of k) in
            let d = ap (λ (y : ReadersView). sum_by f y.links) settles.readers in
            omega (arith, a, b, c, d);
        holds = settles.holds;
      }

  pub first_recorded : Recorded w g k z.values.knows z.readers.knows z.marks.knows
  first_recorded = record { left_it = left_it; fresh = told.0.fresh; values = made_settled; nodes = nodes_settled; links = links_settled }
