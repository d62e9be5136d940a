-- The record that a repair leaves is recorded once what the repair took off went back.
use Rattle.std.proofs.Common.{◌≡◌, ℕ, ◌+◌, ◌<◌, ◌≤◌, cond, List, [], ◌∷◌, ◌++◌, length, Some, false, refl, ap, sym, ◌∙◌, subst, inl, inr, arith}
use Rattle.std.specs.Prelude.{sum_by, option_map}
use Rattle.psac_ops.specs.declared.plain.Handle.{Handle}
use Rattle.psac_ops.specs.declared.plain.Plain.{Plain}
use Rattle.psac_ops.specs.Value.{Value}
use Rattle.psac_ops.specs.Named.{same_handle, value_of}
use Rattle.psac_slots.specs.Handles.{Member}
use Rattle.psac_values.specs.declared.view.ValueView.{ValueView}
use Rattle.psac_values.specs.Knowing.{Has}
use Rattle.psac_fork.specs.declared.tables.Pass.{Pass}
use Rattle.psac_fork.specs.declared.tables.Tables.{Tables}
use Rattle.psac_inputs.specs.Grid.{Grid}
use Rattle.psac_model.specs.declared.ends.Caps.{Caps}
use Rattle.psac_model.specs.declared.ends.End.TheVariants.{Done}
use Rattle.psac_model.specs.Fresh.{World, levels}
use Rattle.psac_model.specs.Series.{has}
use Rattle.psac_laws.specs.Standing.{params}
use Rattle.psac_laws.proofs.Places.{none_some, test_or}
use Rattle.psac_plain.specs.Opened.{at_slot, first_output}
use Rattle.psac_plain.proofs.Linked.{handles_told}
use Rattle.psac_traced.specs.Bodies.{IsCode}
use Rattle.psac_traced.specs.Holds.{Holds}
use Rattle.psac_traced.specs.Places.{Makes}
use Rattle.psac_traced.specs.Rec.{Rec, writes}
use Rattle.psac_traced.specs.Scoped.{Or, ReadsOf}
use Rattle.psac_traced.proofs.Bodies.{code_closed}
use Rattle.psac_traced.proofs.Holds.{traced_holds}
use Rattle.psac_record.specs.Kept.{Kept, bare, made_of, all_of}
use Rattle.psac_trace.specs.Rights.{Heap, held, In, Sees}
use Rattle.psac_trace.proofs.Heaps.{in_either, one_is}
use Rattle.psac_trace.proofs.Leading.{member_sum, sum_member, zero_or}
use Rattle.psac_repair.specs.Ended.{Good}
use Rattle.psac_repair.specs.Going.{views}
use Rattle.psac_repair.specs.Taking.{taken, given}
use Rattle.psac_repair.proofs.Along.{goes_along, reads_along}
use Rattle.psac_repair.proofs.Steps.{left_of_stood}
use Rattle.psac_reclaim.specs.Parts.{in_all, Outside}
use Rattle.psac_reclaim.proofs.Owing.{values_stand}
use Rattle.psac_stage.specs.Places.{base_heap, fixed_slots}
use Rattle.psac_stage.specs.Resting.{HasAll, IsRested}
use Rattle.psac_stage.specs.Settling.{Settles}
use Rattle.psac_stage.specs.Recorded.{known_of, setting_at, places_at, HasMade, Recorded}
use Rattle.psac_stage.specs.Reclaiming.{IsFresh, GaveBack, HasSlots}
use Rattle.psac_stage.proofs.Anew.{Anew, anew_all, put_held, read_held}
use Rattle.psac_stage.proofs.Apart.{makes_member}
use Rattle.psac_stage.proofs.Bounds.{out_high, out_apart}
use Rattle.psac_stage.proofs.Grounds.{base_low, stood}
use Rattle.psac_stage.proofs.Holding.{sees_value}
use Rattle.psac_stage.proofs.Known.{known_seen, has_is, has_told}
use Rattle.psac_stage.proofs.Left.{grid_stands}
use Rattle.psac_stage.proofs.Regained.{places_recorded}
use Rattle.psac_stage.proofs.Slots.{slots_recorded}
use Rattle.psac_engine.specs.Mending.{Staged, Told}
use Rattle.psac_engine.specs.Outputs.{HasOutputs}
use Rattle.psac_engine.specs.Running.{HasHeap}
use Rattle.psac_engine.proofs.Dropping.{has_now, has_slots, has_record, done_told, done_mended, left_now, repairs, owes}
use Rattle.psac_engine.proofs.Outputs.{output_bound, has_outputs}
use Rattle.psac_engine.proofs.Repairs.{made_new, serial_now}
use Rattle.psac_engine.proofs.Scopes.{Low, scoped_low}
use Rattle.psac_engine.proofs.Tellings.{whole_left}

-- what is written is of this sort
written_on : (K : Handle → Type 0) (ws : Heap) → ReadsOf K ws → (m : Handle) → In ws m → K m
written_on K [] h m i = absurd (none_some i.1)
written_on K ((n, y) ∷ ws) h m i =
    elim (in_either ((n, y) ∷ []) ws m i) [
      | inl j ↦ subst K (one_is n m y j.0 j.1).0 h.0.0.0
      | inr j ↦ written_on K ws h.1 m j
    ]

-- what is counted as the handle is it
same_is : (m x : Handle) → 0 < cond (same_handle x m) 1 0 → x ≡ m
same_is m x i = elim (test_or (same_handle x m)) [
  | inl t ↦ handles_told.alone x m t
  | inr t ↦ absurd
      (let z : 0 < 0 = rw t at i in omega (arith, z))
]

module _ (w : World) (g h : Grid) (caps : Caps) (age : ℕ) (t : Tables) (k : Kept) (p : Pass) (s : Staged w g h caps age t k p) (q : Pass)
    (new : Kept) (a : Told w h k new (views p) (views q) (Good (bare new))) (z : Pass) (settles : Settles q z)
    (all : HasAll h (length w.main.dests) caps age z) (rest : IsRested z) (young : ℕ) (fresh : IsFresh young z) (v : Pass)
    (b : GaveBack new (taken k new) z v) where
  abbrev ds : List ℕ
  ds = w.main.dests

  abbrev base : Heap
  base = base_heap h ds

  abbrev r : Rec Handle
  r = bare new

  abbrev gone : List Handle
  gone = in_all made_of (taken k new)

  pub all_back : HasAll h (length ds) caps (age + 1) v × IsRested v
  all_back = grid_stands h (length ds) caps age new (taken k new) z v s.now all rest
      (owes w g h caps age t k p s q new a z settles all young fresh) b

  slots_back : HasSlots new v.values.knows
  slots_back =
      slots_recorded k new (views p) q z v (repairs w g h caps age t k p s q new a) settles rest
      (owes w g h caps age t k p s q new a z settles all young fresh) b a.lasting.stays.fixed
      (has_slots w g h caps age t k p s)

  -- nothing of the new record went back, and no fixed slot did
  away : ((m : Handle) → Member m (made_of new) → Outside gone m.slot) × ((x : ℕ) → x < z.values.knows.fixed → Outside gone x)
  away = values_stand (made_of new) gone z.values.knows (owes w g h caps age t k p s q new a z settles all young fresh).values
      rest.mods.whole

  ours_away : (m : Handle) → Or (Low w h s.now) (Makes r) m → Outside gone m.slot
  ours_away m (inl i) = away.1 m.slot (subst (λ n. m.slot < n) (sym all.fixed.fixed_is) i)
  ours_away m (inr i) = away.0 m (makes_member r m i)

  held_ours : (m : Handle) → In (writes r ++ base) m → Or (Low w h s.now) (Makes r) m
  held_ours m i =
      elim (in_either (writes r) base m i) [
        | inl j ↦ written_on (Or (Low w h s.now) (Makes r)) (writes r)
            (scoped_low w h s.now r (left_now w g h caps age t k p s q new a)).1 m j
        | inr j ↦ inl (base_low h s.now ds m j)
      ]

  -- what the record left is known still
  seen_back : (m : Handle) (x : Value Handle) → held (writes r ++ base) m ≡ Some x → Sees v.values.knows m x
  seen_back m x e =
      let n = (done_told w g h caps age t k p s q new a).1.sees m x e in
      let o : Sees z.values.knows m x = subst (λ (u : ValueView). Sees u m x) (sym settles.values) n in
      (o.0, o.1, b.values.knows m o.0 o.2 (ours_away m (held_ours m (x, e))), o.3, o.4)

  high_now : (m : Handle) → Makes r m → fixed_slots h (length ds) ≤ m.slot
  high_now m i =
      let n = out_high new v.values.knows b.values.out b.values.whole m (makes_member r m i) in
      let e = all_back.0.fixed.fixed_is in
      omega (arith, n, e)

  anew : Anew base r
  anew =
      let left = left_now w g h caps age t k p s q new a in
      let x = p.values.knows in
      let n = stood w h h refl refl refl s.now s.now s.checked x x s.all.fixed s.all.grid s.all.fixed s.all.grid r left high_now in
      let Q = IsCode w.program.funcs w.main.body in
      let closed = code_closed w.program.funcs w.main.body in
      let go = goes_along (setting_at w h) w.program.funcs s.checked.each in
      let reading = reads_along (setting_at w h) in
      let l = left_of_stood (setting_at w h) w.program.funcs Q closed go reading x r levels w.main.body (places_at w h) base base
      (params w.main) _ n in
      anew_all (setting_at w h) w.program.funcs Q closed go reading r levels w.main.body (places_at w h) base (params w.main) _
      (out_apart new v.values.knows b.values.out b.values.whole) l

  holds : Holds same_handle base r
  holds = traced_holds (setting_at w h) w.program.funcs levels w.main.body (places_at w h) base r Done
      (left_now w g h caps age t k p s q new a)

  known_back : (m : Handle) (x : Plain) → held (writes r ++ base) m ≡ Some (value_of x) → known_of m v.values.knows.mine ≡ Some x
  known_back m x e = known_seen v.values.knows m x all_back.0.fixed.alone (slots_back.once m.slot) (seen_back m (value_of x) e)

  -- what the new record made the pass has
  made_had : (m : Handle) → Member m (made_of new) → Has q.values.knows m
  made_had m i =
      let f : Handle → ℕ = λ x. cond (same_handle x m) 1 0 in
      let one : f m ≡ 1 = ap (λ c. cond c 1 0) (handles_told.itself m) in
      let here = member_sum f m (made_of new) i (omega (arith, one)) in
      let e = (repairs w g h caps age t k p s q new a).exchanged.mods f in
      elim (zero_or (sum_by f (made_of k))) [
        | inl none ↦
            (let n = sum_member f (all_of made_of (given k new)) (omega (arith, here, e, none)) in
            let o = (repairs w g h caps age t k p s q new a).values.has n.0 n.1 in
            subst (Has q.values.knows) (same_is m n.0 n.2) (o.0, o.1, o.2))
        | inr more ↦
            (let n = sum_member f (made_of k) more in
            let then = has_is s.before.values n.0 (s.recorded.values.made n.0 n.1) in
            subst (Has q.values.knows) (same_is m n.0 n.2) (a.lasting.stays.mine n.0 (has_now w g h caps age t k p s n.0 then)))
      ]

  made_back : HasMade new v.values.knows
  made_back =
      record {
        out = b.values.out;
        once = slots_back.once;
        mine = slots_back.mine;
        made = λ m i.
            let o : Has z.values.knows m = subst (λ (u : ValueView). Has u m) (sym settles.values) (made_had m i) in
            let n = b.values.has m o (away.0 m i) in
            has_told v.values.knows.mine m n.0 n.1 n.2;
        wrote = λ m x i. known_back m x (put_held new base anew m x i);
        read = λ y i. known_back y.from y.value (read_held new base anew holds y i);
      }

  pub recorded_back : Recorded w h new v.values.knows v.readers.knows v.marks.knows
  recorded_back =
      let count = all.nodes.count_is in
      let small = s.fit.0.1 in
      let n = places_recorded k new (views p) q z v young (has_record w g h caps age t k p s) (repairs w g h caps age t k p s q new a)
      settles fresh (omega (arith, count, small)) b in
      record {
        left_it = left_now w g h caps age t k p s q new a;
        fresh = (done_told w g h caps age t k p s q new a).0.fresh;
        values = made_back;
        nodes = n.0;
        links = n.1;
      }

  heap_back : HasHeap w h r v.values.knows
  heap_back =
      record {
        words = λ m x e.
            let n = sees_value v.values.knows m x all_back.0.fixed.alone (slots_back.once m.slot) (seen_back m x e) in
            ap (option_map value_of) n.known ∙ ap Some n.is;
      }

  pub outputs_back : HasOutputs w h v.values.knows
  outputs_back =
      let d = done_told w g h caps age t k p s q new a in
      let is = made_new w g h caps age t k p s q.values.knows r d.3 in
      has_outputs w h s.now s.checked r Done v.values.knows (serial_now w g h caps age t k p s r is
      (done_mended w g h caps age t k p s q new a))
      (λ i l.
      let o = output_bound w h s.now s.checked i l in
      let left = (whole_left w g h caps age t k p s).unwritten in
      d.1.fills.done (at_slot (first_output h + i)) (o.0, o.1, subst (λ xs. has o.0 xs ≡ false) (sym left) refl, o.2))
      heap_back
