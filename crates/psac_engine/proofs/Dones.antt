-- What a repair came to, by its result, and what is answered where it is done.
use Rattle.std.proofs.Common.{◌≡◌, ℕ, ◌+◌, ◌<◌, length, Some, Result, Ok, Err, IfOk, ap, sym, ◌∙◌, subst}
use Rattle.std.proofs.lemmas.Grind.{merely}
use Rattle.psac_ops.specs.declared.plain.Handle.{Handle}
use Rattle.psac_ops.specs.Named.{same_handle}
use Rattle.psac_fork.specs.declared.tables.Pass.{Pass}
use Rattle.psac_fork.specs.declared.tables.Tables.{Tables}
use Rattle.psac_fork.specs.Whole.{IsOf}
use Rattle.psac_slots.specs.Handles.{Member}
use Rattle.psac_values.specs.declared.view.ValueView.{ValueView}
use Rattle.psac_inputs.specs.Grid.{Grid}
use Rattle.psac_model.specs.declared.ends.Caps.{Caps}
use Rattle.psac_model.specs.declared.ends.CapKind.TheVariants as cap
use Rattle.psac_model.specs.declared.ends.End.TheVariants.{Done}
use Rattle.psac_model.specs.declared.ends.Work.{Work}
use Rattle.psac_model.specs.Tree.{add_size}
use Rattle.psac_model.specs.Fresh.{World, Good as Well, fresh, outcome}
use Rattle.psac_traced.specs.Mending.{Mending, mended, work_of}
use Rattle.psac_cut_repair.specs.Update.{IsInCaps}
use Rattle.psac_record.specs.Dropped.{dropped_of}
use Rattle.psac_record.specs.Shown.{kept_of, rec_of}
use Rattle.psac_record.specs.Kept.{Kept, Stands, bare, counts, made_of, links_of}
use Rattle.psac_repair.specs.declared.outcome.Outcome.{Outcome}
use Rattle.psac_repair.specs.declared.outcome.Stop.{Stop}
use Rattle.psac_repair.specs.declared.tally.Tally.{Tally}
use Rattle.psac_repair.specs.Ended.{Good}
use Rattle.psac_repair.specs.Counted.{Spent}
use Rattle.psac_repair.specs.Outcomes.{stopped, ended_by, end_of, OnGood}
use Rattle.psac_repair.specs.Tallied.{tally_of, capped_work}
use Rattle.psac_repair.specs.Taking.{taken}
use Rattle.psac_repair.specs.Going.{views}
use Rattle.psac_reclaim.specs.Owed.{IsNamed, ValuesNone, ReadersNone, MarksNone}
use Rattle.psac_stage.specs.Resting.{HasAll}
use Rattle.psac_stage.specs.Settling.{Settles}
use Rattle.psac_stage.specs.Reclaiming.{IsFresh, Owes, GaveBack}
use Rattle.psac_stage.proofs.Clears.{rested, cleared, has_all}
use Rattle.psac_stage.proofs.Settles.{settled_all, settled_rested}
use Rattle.psac_stage.proofs.Storing.{inside}
use Rattle.psac_engine.specs.Commit.{Answers}
use Rattle.psac_engine.specs.Repaired.{Repaired, IsSpent}
use Rattle.psac_engine.specs.Running.{Shows}
use Rattle.psac_engine.specs.Mending.{Staged, Came, Told, Finished}
use Rattle.psac_engine.specs.Held.{Ages}
use Rattle.psac_engine.proofs.Aging.{repaired_back, spent_back}
use Rattle.psac_engine.proofs.Fits.{in_caps}
use Rattle.psac_engine.proofs.Dropping.{done_told, done_mended, owes, names}
use Rattle.psac_engine.proofs.Recordings.{all_back, recorded_back, outputs_back}
use Rattle.psac_engine.proofs.Stopped.{stopped_for}
use Rattle.psac_engine.proofs.Tellings.{all_told}
use Rattle.psac_engine.proofs.Repairs.{made_new, outcome_now, shows_now, work_now}
use Rattle.psac_engine.proofs.Works.{whole_work}
use Rattle.psac_engine.proofs.Rising.{rises_then, run_rises, run_holds, none_rises, none_renews}

module _ (w : World) (h : Grid) (t : Tables) (k : Kept) (p q : Pass) (o : Outcome) (c : Came w h t k p q o) where
  -- there is a record
  module _ (numbers : Tally) (is : o.told ≡ Ok numbers) where
    pub came_good : Told w h k (kept_of o.tree) (views p) (views q) (Good (rec_of o.tree))
    came_good = subst (λ x. Told w h k (kept_of o.tree) (views p) (views q) (ended_by x (rec_of o.tree))) is c.told

    abbrev Numbers : Result Tally Stop → Type 0
    Numbers (Ok n) = (n ≡ tally_of (mended same_handle (bare k) (rec_of o.tree))) × (dropped_of o.dropped ≡ taken k (kept_of o.tree))
    Numbers (Err e) = Unit {0}

    counted : (x : Result Tally Stop) → x ≡ Ok numbers → Numbers x → Numbers (Ok numbers)
    counted x e n = subst Numbers e n

    pub came_numbers : (numbers ≡ tally_of (mended same_handle (bare k) (rec_of o.tree))) ×
        (dropped_of o.dropped ≡ taken k (kept_of o.tree))
    came_numbers = counted o.told is (told_numbers o.told c.counts)
      where
        told_numbers : (x : Result Tally Stop) → IfOk x (λ n. (n ≡ tally_of (mended same_handle (bare k) (rec_of o.tree))) ×
            (dropped_of o.dropped ≡ taken k (kept_of o.tree))) → Numbers x
        told_numbers (Ok n) i = i
        told_numbers (Err e) i = tt

  -- there is none
  pub came_stopped : (why : Stop) → o.told ≡ Err why → Told w h k (kept_of o.tree) (views p) (views q) (stopped why)
  came_stopped why is = subst (λ x. Told w h k (kept_of o.tree) (views p) (views q) (ended_by x (rec_of o.tree))) is c.told

module _ (w : World) (g h : Grid) (caps : Caps) (age : ℕ) (t : Tables) (k : Kept) (p : Pass) (s : Staged w g h caps age t k p)
    (q z : Pass) (new : Kept) (a : Told w h k new (views p) (views q) (Good (bare new))) (settles : Settles q z)
    (all : HasAll h (length w.main.dests) caps age z) where
  abbrev d : Mending Handle
  d = mended same_handle (bare k) (bare new)

  done_fits : IsInCaps (add_size (counts k) d.added) caps
  done_fits =
      in_caps w g h caps age t k p s q z a.lasting settles a.gone a.made a.relinks.relinked a.room all a.links_drew d.added
      (done_told w g h caps age t k p s q new a).4

  done_outcome : outcome w caps h ≡ Well (fresh w h).tree (fresh w h).heap
  done_outcome =
      outcome_now w g h caps age t k p s (bare new) (made_new w g h caps age t k p s q.values.knows (bare new)
      (done_told w g h caps age t k p s q new a).3) Done (done_mended w g h caps age t k p s q new a) done_fits

  pub done_shows : Shows w h caps (bare new)
  done_shows =
      record {
        run = shows_now w g h caps age t k p s (bare new) (made_new w g h caps age t k p s q.values.knows (bare new)
            (done_told w g h caps age t k p s q new a).3) (done_mended w g h caps age t k p s q new a);
        good = done_outcome;
      }

  -- the numbers stand as they are
  pub done_work : (work : Work) → work ≡ capped_work (work_of d) → work ≡ work_of d
  done_work work is = is ∙ whole_work (bare k) (bare new) caps s.fit done_fits

  -- and are the model's
  pub done_answers : (work : Work) → work ≡ capped_work (work_of d) → Answers caps (Some (fresh w g)) (outcome w caps h) (Ok work)
  done_answers work is =
      let is_new = made_new w g h caps age t k p s q.values.knows (bare new) (done_told w g h caps age t k p s q new a).3 in
      let model = work_now w g h caps age t k p s (bare new) is_new (done_mended w g h caps age t k p s q new a) done_fits in
      subst (λ o. Answers caps (Some (fresh w g)) o (Ok work)) (sym done_outcome)
      (done_work work is ∙ sym model)

module _ (w : World) (g h : Grid) (caps : Caps) (age : ℕ) (t : Tables) (k : Kept) (p : Pass) (s : Staged w g h caps age t k p) (q : Pass)
    (o : Outcome) (c : Came w h t k p q o) (z : Pass) (settles : Settles q z) where
  abbrev outs : ℕ
  outs = length w.main.dests

  abbrev new : Kept
  new = kept_of o.tree

  -- however the repair ended
  pub came_all : HasAll h outs caps age z
  came_all = settled_all q z settles h outs caps age (all_told w g h caps age t k p s q new (end_of o) c.told)

  pub came_fresh : age < 4294967295 → IsFresh age z
  came_fresh low = (low, came_all.young_mods, came_all.young_nodes)

  -- where it is done
  module _ (numbers : Tally) (is : o.told ≡ Ok numbers) (young : ℕ) (fresh : IsFresh young z) where
    abbrev good : Told w h k new (views p) (views q) (Good (bare new))
    good = came_good w h t k p q o c numbers is

    abbrev counts_are : (numbers ≡ tally_of (mended same_handle (bare k) (bare new))) × (dropped_of o.dropped ≡ taken k new)
    counts_are = came_numbers w h t k p q o c numbers is

    pub came_owes : Owes new (dropped_of o.dropped) z
    came_owes = subst (λ ks. Owes new ks z) (sym counts_are.1) (owes w g h caps age t k p s q new good z settles came_all young fresh)

    pub came_names : (x : Stands) → Member x (links_of new) → IsNamed z.values.knows.fixed (made_of new) x.of
    came_names = names w g h caps age t k p s q new good z settles came_all young fresh

    pub came_finished : (v : Pass) → IsOf v t → GaveBack new (dropped_of o.dropped) z v → (work : Work)
        → ((x : Mending Handle) → numbers ≡ tally_of x → work ≡ capped_work (work_of x))
        → Finished w g h caps (age + 1) t v (Ok (work, o.tree))
    came_finished v of back work worked =
        let b = subst (λ ks. GaveBack new ks z v) counts_are.1 back in
        let rest = settled_rested q z settles in
        let all = all_back w g h caps age t k p s q new good z settles came_all rest young fresh v b in (
          of,
          all.1,
          (
            all.0,
            merely (done_shows w g h caps age t k p s q z new good settles came_all),
            recorded_back w g h caps age t k p s q new good z settles came_all rest young fresh v b,
            outputs_back w g h caps age t k p s q new good z settles came_all rest young fresh v b,
            done_answers w g h caps age t k p s q z new good settles came_all work
                (worked (mended same_handle (bare k) (bare new)) counts_are.0),
          ),
        )

    abbrev Spends : Type 0
    Spends = Spent p.values.knows q.values.knows p.marks.knows q.marks.knows k new

    pub came_repaired : (v : Pass) → GaveBack new (dropped_of o.dropped) z v → (work : Work)
        → ((x : Mending Handle) → numbers ≡ tally_of x → work ≡ capped_work (work_of x))
        → Repaired w h k new (views p) (views v) × IsSpent work k new (views p) (views v)
    came_repaired v back work worked =
        let b = subst (λ ks. GaveBack new ks z v) counts_are.1 back in
        let is_work = done_work w g h caps age t k p s q z new good settles came_all work
        (worked (mended same_handle (bare k) (bare new)) counts_are.0) in (
          repaired_back w g h caps age t k p s q new good z settles came_all young fresh v b,
          spent_back w g h caps age t k p s q new good z settles came_all young fresh v b work
              (ap (λ (x : Work). x.visited) is_work)
              (subst (λ x. OnGood (ended_by x (rec_of o.tree)) Spends) is c.spent),
        )

  -- no generation fell, and those of what was out rose
  pub came_ages : {X E : Type 0} (why : E) (v : Pass) → ValuesNone z.values.knows v.values.knows
      → (let told : Result (Work × X) E = Err why in Ages p.values.knows.claims v.values.knows.claims told)
  came_ages why v none =
      let l = c.told.lasting in
      let rest = (settled_rested q z settles).mods in
      let a = p.values.knows.claims in
      let b = q.values.knows.claims in
      let d = z.values.knows.claims in
      let is = ap (λ (x : ValueView). x.claims) settles.values in
      record {
        rises = rises_then a d v.values.knows.claims
            (run_rises a b s.rested.mods.whole (l.drew cap.Mods) (l.claims cap.Mods) settles.mods d is settles.whole_mods)
            (none_rises z.values.knows v.values.knows rest none);
        renews = λ anew x i.
            none_renews z.values.knows v.values.knows rest none x
            (run_holds a b s.rested.mods.whole (l.drew cap.Mods) (l.claims cap.Mods) settles.mods d is settles.whole_mods x i);
      }

  -- where it stopped, and all that was made went back
  module _ (why : Stop) (is : o.told ≡ Err why) (v : Pass) (of : IsOf v t) (values : ValuesNone z.values.knows v.values.knows)
      (readers : ReadersNone z.readers.knows v.readers.knows) (marks : MarksNone z.marks.knows v.marks.knows) where
    pub came_reset : Finished w g h caps (age + 1) t v (Err why)
    came_reset =
        let a = came_stopped w h t k p q o c why is in (
          record {
            of = of;
            all = has_all h outs caps age z v came_all values readers marks (inside h s.now outs);
            rested = rested h outs caps age z v came_all values readers marks;
            clear = cleared h outs caps age z v came_all values readers marks;
          },
          stopped_for w g h caps age t k p s q z new settles came_all why a,
        )
