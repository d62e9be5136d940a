-- What a run of main's body over a grid tells of the outcome.
use Rattle.std.proofs.Common.{◌≡◌, ℕ, ◌+◌, ◌<◌, ◌≤◌, List, [], length, Some, None, Ok, Err, Result, ap, sym, ◌∙◌, subst, arith}
use Rattle.std.proofs.lemmas.List.{length-map}
use Rattle.psac_ops.specs.declared.plain.Handle.{Handle}
use Rattle.psac_slots.specs.Handles.{Member, IsDistinct}
use Rattle.psac_slots.specs.Claiming.{Accounted, DrewBelow, times}
use Rattle.psac_slots.specs.declared.view.ClaimView.{ClaimView}
use Rattle.psac_fork.specs.declared.tables.Pass.{Pass}
use Rattle.psac_fork.specs.declared.tables.Tables.{Tables}
use Rattle.psac_fork.specs.Whole.{IsOf}
use Rattle.psac_inputs.specs.Grid.{Grid, IsGrid}
use Rattle.psac_model.specs.declared.ends.Caps.{Caps}
use Rattle.psac_model.specs.declared.ends.CapKind.{CapKind}
use Rattle.psac_model.specs.declared.ends.CapKind.TheVariants as cap
use Rattle.psac_model.specs.declared.ends.End.{End}
use Rattle.psac_model.specs.declared.ends.End.TheVariants.{Done, Stop}
use Rattle.psac_model.specs.declared.ends.Work.{Work}
use Rattle.psac_model.specs.Names.{Env}
use Rattle.psac_model.specs.Expression.{Setting}
use Rattle.psac_model.specs.Tree.{size_of}
use Rattle.psac_model.specs.Fresh.{World, fresh, levels, outcome, over}
use Rattle.psac_model.specs.Work.{anew_work}
use Rattle.psac_laws.specs.Standing.{params}
use Rattle.psac_laws.proofs.Opening.{IsChecked}
use Rattle.psac_plain.specs.Opened.{first_output, output_env, setting_over}
use Rattle.psac_plain.proofs.Beginning.{begin_unused, begin_settings, begin_envs}
use Rattle.psac_plain.proofs.Linked.{handles_told}
use Rattle.psac_traced.specs.Rec.{writes}
use Rattle.psac_traced.specs.Traced.{traced}
use Rattle.psac_traced.specs.Places.{Makes, IsApart}
use Rattle.psac_traced.specs.Serial.{Serial}
use Rattle.psac_cut.specs.CutShort.{cut_short}
use Rattle.psac_cut.specs.Within.{drew, count_of, cap_of}
use Rattle.psac_cut.proofs.Fresh.{fresh_bound, drew_over}
use Rattle.psac_record.specs.Kept.{Kept, bare, counts, made_of, nodes_below}
use Rattle.psac_trace.specs.Rights.{Heap, Within, Sees}
use Rattle.psac_trace.specs.Grown.{Made, MoreClaims, made_below, as_own, claims_in, Cause}
use Rattle.psac_trace.specs.Told.{Ended, Good, Fault, Other, Told, bared}
use Rattle.psac_trace.specs.Running.{Leaves}
use Rattle.psac_trace.proofs.Heaps.{within_fresh}
use Rattle.psac_engine.specs.declared.answer.Answer.{Answer}
use Rattle.psac_engine.specs.declared.answer.Answer.TheVariants as answer
use Rattle.psac_engine.specs.Commit.{Answers}
use Rattle.psac_stage.specs.Places.{fixed_slots, base_heap}
use Rattle.psac_stage.specs.Resting.{HasAll, IsRested, IsCleared}
use Rattle.psac_stage.specs.Settling.{Settles}
use Rattle.psac_stage.proofs.Apart.{apart_distinct, makes_member}
use Rattle.psac_stage.proofs.Starts.{start, one, start_heaps}
use Rattle.psac_engine.proofs.Shows.{IsRecord, all_named, shows, size_is, behind_names}
use Rattle.psac_stage.proofs.Begins.{body_left, ready}
use Rattle.psac_stage.proofs.Afters.{behind, distinct}
use Rattle.psac_stage.proofs.Counts.{drawn_long, once_low}
use Rattle.psac_engine.proofs.Sizes.{nodes_count, mods_count, links_count}
use Rattle.psac_stage.proofs.Settles.{mods_fit, nodes_fit, links_fit}
use Rattle.psac_engine.proofs.Outcomes.{none_over, good_answers, fault_answers, full_answers, wanting}

-- what is answered to an end
abbrev pub answer_of : Ended Kept → Result Work Answer
answer_of (Good k) = Ok (anew_work (counts k))
answer_of (Fault k i n) = Err (answer.Fault i n)
answer_of (Other k (Some c)) = Err (answer.Full c.which)
answer_of (Other k None) = Err answer.NoMemory

-- an index that was drawn past the list is one of more than the list has
drawn_past : (c d : ClaimView) (n counter room index : ℕ) → MoreClaims c d n → c.over ≡ 0 → c.drawn ≡ [] → DrewBelow counter d → room ≤ index → times index c.drawn < times index d.drawn → room < n + d.over
drawn_past c d n counter room index m none empty drew past more =
    let low = once_low index counter (let a = drew index in omega (arith, a, more)) in
    let long = drawn_long counter d.drawn drew in
    let e = m.drawn in
    let z = ap (λ (xs : List ℕ). length xs) empty in
    omega (arith, low, long, e, z, none, past)

list_room : (most : ℕ) (c : ClaimView) → Accounted c → c.held ≡ [] → c.count ≡ most → length c.list ≡ most
list_room most c a none e =
    let z = ap (λ (hs : List Handle). length hs) none in
    omega (arith, a.all, e, z)

module _ (w : World) (g : Grid) (ok : IsGrid g) (checked : IsChecked w) (caps : Caps) (age : ℕ) (t : Tables) (p : Pass) (of : IsOf p t) (all : HasAll g (length w.main.dests) caps age p) (idle : IsRested p) (clear : IsCleared (fixed_slots g (length w.main.dests)) p) where
  abbrev ds : List ℕ
  ds = w.main.dests

  abbrev base : Heap
  base = base_heap g ds

  abbrev ground : Setting Handle
  ground = setting_over g w.texts (length ds)

  abbrev env : Env Handle
  env = output_env (first_output g) ds []

  -- what a run of main's body leaves
  abbrev pub IsLeft : Pass → Ended Kept → Type 0
  IsLeft q e =
      Leaves ground (traced ground w.program.funcs levels) (cut_short ground w.program.funcs levels) [] t w.main.body env None p q e

  module _ (q : Pass) where
    abbrev pub Tells : Ended Kept → Type 0
    Tells e =
        Told (traced ground w.program.funcs levels) (cut_short ground w.program.funcs levels) w.main.body (params w.main) (body_left w g ok checked caps age t p of all idle clear).end.unwritten env p.values.knows q.values.knows base (bared e)

    pub told : (e : Ended Kept) → IsLeft q e → Tells e
    told e l =
        let b = body_left w g ok checked caps age t p of all idle clear in
        l.tells base (params w.main) b.end b.meets (ready w g ok checked caps age t p of all idle clear)

    -- the inputs are known as before
    pub base_seen : (e : Ended Kept) → IsLeft q e → Within base (Sees q.values.knows)
    base_seen (Good k) l =
        let a = told (Good k) l in
        λ m x h. a.1.sees m x (within_fresh (writes (bare k)) base base a.0.fresh (λ n y i. i) m x h)
    base_seen (Fault k i n) l = (told (Fault k i n) l).1
    base_seen (Other k why) l = (told (Other k why) l).1

    made_is : (e : Ended Kept) (l : IsLeft q e) (k : Kept) → l.made.mods ≡ made_of k → IsApart (bare k) × ((m : Handle) → Makes (bare k) m → fixed_slots g (length ds) ≤ m.slot)
    made_is e l k same = (
      apart_distinct (bare k) (subst IsDistinct same (distinct g ok ds caps age t p q all clear l.made l.moves)),
      λ m i. behind g ok ds caps age t p q all clear l.made l.moves m (subst (Member m) (sym same) (makes_member (bare k) m i)),
    )

    -- a record, also of a run that stopped
    pub serial : (e : Ended Kept) (l : IsLeft q e) (k : Kept) (end : End) → l.made.mods ≡ made_of k → IsRecord w g ok (bare k) end → Serial (all_named w g ok (bare k)) (bare k) base end (fresh w g)
    serial e l k end same t = let a = made_is e l k same in shows w g ok (bare k) end a.0 a.1 t

    module _ (z : Pass) (s : Settles q z) (now : HasAll g (length ds) caps age z) where
      -- a whole record is within the caps
      pub within : (e : Ended Kept) (l : IsLeft q e) (k : Kept) → l.made ≡ made_below None k → over (counts k) caps ≡ []
      within e l k is =
          let a = nodes_fit g (length ds) caps age t p q z clear l.made l.moves s now in
          let b = mods_fit g (length ds) caps age t p q z clear l.made l.moves s now in
          let c = links_fit g (length ds) caps age t p q z clear l.made l.moves s now in
          let d = ap (λ (m : Made). length m.nodes) is in
          let f = ap (λ (m : Made). length m.mods) is in
          let h = ap (λ (m : Made). length m.links) is in
          let n = length-map (nodes_below None k) as_own in
          none_over (counts k) caps (omega (arith, a, d, n, nodes_count None k)) (omega (arith, b, f, mods_count k)) (omega (arith, c, h, links_count k))

      pub over_is : (e : Ended Kept) (l : IsLeft q e) (k : Kept) (end : End) → l.made ≡ made_below None k → IsRecord w g ok (bare k) end → over (size_of (fresh w g).tree) caps ≡ []
      over_is e l k end is t =
          let a = serial e l k end (ap (λ (m : Made). m.mods) is) t in
          ap (λ y. over y caps) (sym (size_is w g ok (bare k) end a)) ∙ within e l k is

      -- a table that is full shows that the fresh run has too much
      too_much : (k : Kept) (c : Cause) → IsLeft q (Other k (Some c)) → cap_of c.which caps < count_of c.which (drew (bare k) q.values.knows.claims.over)
      too_much k c l = by c.which c.index c.room l.full.list l.full.past l.full.drew
        where
          by : (which : CapKind) (index room : ℕ) → room ≡ length (claims_in which p).list → room ≤ index → times index (claims_in which p).drawn < times index (claims_in which q).drawn → cap_of which caps < count_of which (drew (bare k) q.values.knows.claims.over)
          by cap.Nodes index room is past more =
              let a = list_room caps.nodes p.marks.knows.claims idle.nodes.whole clear.nodes_out all.nodes.count_is in
              let b = drawn_past p.marks.knows.claims q.marks.knows.claims (length l.made.nodes) s.nodes room index (l.moves.claims cap.Nodes) idle.nodes.over idle.nodes.drawn s.drew_nodes past more in
              let d = l.all.1.0 in
              let n = length-map (nodes_below None k) as_own in
              omega (arith, is, a, b, d, n, nodes_count None k)
          by cap.Mods index room is past more =
              let a = list_room caps.mods p.values.knows.claims idle.mods.whole clear.mods all.mods.count_is in
              let b = drawn_past p.values.knows.claims q.values.knows.claims (length l.made.mods) s.mods room index (l.moves.claims cap.Mods) idle.mods.over idle.mods.drawn s.drew_mods past more in
              let d = ap (λ (ms : List Handle). length ms) l.all.0 in
              omega (arith, is, a, b, d, mods_count k)
          by cap.Links index room is past more =
              let a = list_room caps.links p.readers.knows.claims idle.links.whole clear.links_out all.links.count_is in
              let b = drawn_past p.readers.knows.claims q.readers.knows.claims (length l.made.links) s.links room index (l.moves.claims cap.Links) idle.links.over idle.links.drawn s.drew_links past more in
              let d = l.all.1.1 in
              omega (arith, is, a, b, d, links_count k)

      pub answered : (e : Ended Kept) → IsLeft q e → Answers caps None (outcome w caps g) (answer_of e)
      answered (Good k) l =
          let run = (told (Good k) l).0.run base (λ m x h. h) in
          let a = serial (Good k) l k Done (ap (λ (m : Made). m.mods) l.all) run in
          good_answers caps None w g (anew_work (counts k)) (over_is (Good k) l k Done l.all run) a.ends (ap anew_work (size_is w g ok (bare k) Done a))
      answered (Fault k i n) l =
          let run = (told (Fault k i n) l).0.run base (λ m x h. h) in
          let a = serial (Fault k i n) l k (Stop i n) (ap (λ (m : Made). m.mods) l.all) run in
          fault_answers caps None w g i n (over_is (Fault k i n) l k (Stop i n) l.all run) a.ends
      answered (Other k (Some c)) l =
          let cut = (told (Other k (Some c)) l).0.run base (λ m x h. h) in
          let a = made_is (Other k (Some c)) l k l.all.0 in
          let bound = fresh_bound w g ok.whole ok.even checked ground handles_told (start g ds ok) (one g ds ok) (begin_settings g ds ok w.texts) (begin_unused g ds ok) env (begin_envs g ds ok) base (start_heaps g ds ok) (bare k) q.values.knows.claims.over a.0 (behind_names w g ok (bare k) a.1) cut in
          full_answers caps None w g c.which (drew_over c.which (drew (bare k) q.values.knows.claims.over) (size_of (fresh w g).tree) caps bound (too_much k c l))
      answered (Other k None) l = wanting caps None (outcome w caps g)
