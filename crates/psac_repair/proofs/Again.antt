-- How little a block does that runs again.
use Rattle.std.proofs.Common.{◌≡◌, ◌≢◌, ℕ, ◌-◌, ◌≤◌, List, length, Option, Some, Result, Ok, Err}
use Rattle.std.proofs.Common.{refl, ap, sym, subst, inl, inr, arith}
use Rattle.psac_ops.specs.declared.plain.Handle.{Handle}
use Rattle.psac_ops.specs.Named.{value_of}
use Rattle.psac_slots.specs.Handles.{Member}
use Rattle.psac_slots.specs.Claiming.{times}
use Rattle.psac_values.specs.declared.view.ValueView.{ValueView}
use Rattle.psac_marks.specs.declared.view.MarksView.{MarksView}
use Rattle.psac_marks.specs.Steps.{dropping}
use Rattle.psac_marks.proofs.Parts.{times_else}
use Rattle.psac_raise.specs.Raise.{LeadsIn}
use Rattle.psac_fork.specs.declared.tables.Pass.{Pass}
use Rattle.psac_model.specs.Fresh.{levels}
use Rattle.psac_model.specs.Names.{Env}
use Rattle.psac_cut.specs.CutShort.{cut_short}
use Rattle.psac_traced.specs.Rec as rec
use Rattle.psac_traced.specs.Traced.{traced}
use Rattle.psac_record.specs.declared.parts.Reading.{Reading}
use Rattle.psac_record.specs.declared.parts.Seen.{Seen}
use Rattle.psac_record.specs.declared.record.Record.{Record}
use Rattle.psac_record.specs.Kept.{Kept, R, bare}
use Rattle.psac_record.specs.Shown.{kept_of, rec_of}
use Rattle.psac_trace.specs.declared.halt.Halt.{Halt}
use Rattle.psac_trace.specs.declared.halt.Halt.TheVariants as halt
use Rattle.psac_trace.specs.Rights.{Sees}
use Rattle.psac_trace.specs.Told as trace
use Rattle.psac_trace.specs.Raising.{puts}
use Rattle.psac_trace.specs.Running.{Leaves}
use Rattle.psac_repair.specs.declared.world.World.{World}
use Rattle.psac_repair.specs.declared.outcome.Outcome.{Outcome}
use Rattle.psac_repair.specs.Indexed.{Code}
use Rattle.psac_repair.specs.Outcomes.{OnGood, halted, ended_by}
use Rattle.psac_repair.specs.Marks.{IsMarked}
use Rattle.psac_repair.specs.Taken.{nodes_up}
use Rattle.psac_repair.specs.Founded.{OnlyWoken, Idle}
use Rattle.psac_repair.specs.FoundLaws.{RunOnly}
use Rattle.psac_repair.specs.Counted.{Spent}
use Rattle.psac_repair.specs.Rebuilt.{Olds, TakenOff, Replaces}
use Rattle.psac_repair.specs.Changing.{Changed}
use Rattle.psac_repair.specs.Going.{Views, views}
use Rattle.psac_repair.specs.Sparing.{IsFounded, Sparing, Since}
use Rattle.psac_repair.specs.Repairing.{setting_of, BeforeIn, SparesAgain}
use Rattle.psac_repair.proofs.Grafting.{ready, kept_now}
use Rattle.psac_repair.proofs.Rewiring.{led_on}
use Rattle.psac_repair.proofs.Starting.{old_put}
use Rattle.psac_repair.proofs.Counting.{spent_again}
use Rattle.psac_repair.proofs.Founds.{blocks_found, runs_only}
use Rattle.psac_repair.proofs.Sparing.{fewer_marked, since_only, since_idle, since_looks, since_asks}

halted_told : (T : Type 0) (h : Halt) → OnGood (halted h) T
halted_told T (halt.Fault why line) = tt
halted_told T (halt.Full which at) = tt
halted_told T halt.NoMemory = tt

module _ (g : World) (b : Reading) (t rest : Kept) (p : Pass) (again : List Seen)
    (ch : Changed p.values.knows b.reads again)
    (code : Code) (env : Env Handle) (olds : List Handle) (are : Olds olds env t) (q : Pass) (off : TakenOff p q b t)
    (n : Pass) where
  abbrev RunsTo : trace.Ended Kept → Type 0
  RunsTo =
      Leaves (setting_of g) (traced (setting_of g) g.funcs.now (levels - b.level))
      (cut_short (setting_of g) g.funcs.now (levels - b.level)) olds g.tables.now code.1.now env (Some b.node) q n

  abbrev now_block : Reading
  now_block = record b { reads = again }

  values_is : q.values.knows ≡ p.values.knows
  values_is = ap (λ z. z.knows) off.values

  module _ (us : List ℕ) (above : Option Handle)
      (bef : BeforeIn g us above (rec.S (bare (R b t)) (bare rest)) (R b t) (views p))
      (founded : IsFounded (views p) (R b t))
      (marked : IsMarked p.marks.knows b.node) (u : Kept) (l : RunsTo (trace.Good u)) where
    -- outside no marks were set as the record was taken off, and what leads up does so on
    fewer : (y : ℕ) → Member y us → times y q.marks.knows.marked ≤ times y p.marks.knows.marked
    fewer y i =
        subst (λ (z : MarksView). times y z.marked ≤ times y p.marks.knows.marked) (sym off.marks)
        (fewer_marked b.node.slot (dropping (nodes_up t) p.marks.knows) us y i)

    led_off : (ns : List ℕ) → ((y : ℕ) → Member y ns → Member y us) → (y : ℕ) → LeadsIn p.marks.knows ns y
        → LeadsIn q.marks.knows ns y
    led_off ns within y led =
        let m = p.marks.knows in
        let apart : (z : ℕ) → Member z ns → z ≢ b.node.slot = λ z i e. bef.planted.apart z (within z i) (inl (sym e)) in
        subst (λ z. LeadsIn z ns y) (sym off.marks) (led_on m (ready m us above b t bef.planted) ns (λ e i j. i)
        (λ z i k. kept_now m us above b t bef.planted z (λ j. bef.planted.apart z (within z i) (inr j)) k)
        (λ z i c. elim c [
          | inl a ↦ inl (let d = times_else z b.node.slot m.marked (apart z i) in omega (arith, a, d))
          | inr a ↦ inr (let d = times_else z b.node.slot m.busy (apart z i) in omega (arith, a, d))
        ])
        y led)

    run_only : RunOnly q.readers.knows p.values.knows n.values.knows q.marks.knows n.marks.knows t (puts u)
    run_only =
        record {
          told = l.raises.told;
          only = λ ns leads y more.
              l.raises.only ns
              (λ h c i j k.
              let a = old_put olds env t are h i in
              leads h a.0 c a.1 j (subst (λ v. Sees v h (value_of c) → ⊥) values_is k))
              y more;
        }

    again_only : OnlyWoken p.readers.knows p.marks.knows n.values.knows n.marks.knows us (R b t)
    again_only =
        runs_only p.readers.knows q.readers.knows p.values.knows n.values.knows p.marks.knows q.marks.knows
        n.marks.knows us above b
        t (puts u) bef.owned.0 bef.planted bef.wired bef.ordered off.relinked fewer led_off run_only

    again_idle : Idle p.values.knows (R b t) (R now_block u)
    again_idle =
        (blocks_found p.readers.knows p.values.knows p.marks.knows us above b t bef.planted marked founded.0
        founded.1).again
        now_block u ch.other

    again_spent : (before : Views) → Since (length b.reads) 1 before (views p)
        → Spent before.values n.values.knows before.marks n.marks.knows (R b t) (R now_block u)
    again_spent before s =
        let a = l.moves.marks.asks in
        let d = ap (λ (z : MarksView). z.asks) off.marks in
        let e = since_asks (length b.reads) 1 before (views p) s in
        let f = ap (λ (z : ValueView). z.looks) values_is in
        let h = l.looks.count in
        let i = l.looks.most in
        spent_again before.values p.values.knows n.values.knows before.marks n.marks.knows b now_block t u ch.other
        (omega (arith, a, d, e)) (since_looks (length b.reads) 1 before (views p) s) (omega (arith, f, h, i))

    again_spares : (before : Views) → Since (length b.reads) 1 before (views p)
        → Sparing us (R b t) (R now_block u) before (views n)
    again_spares before s =
        record {
          only = since_only (length b.reads) 1 before (views p) s n.values.knows n.marks.knows us (R b t) again_only;
          idle = since_idle (length b.reads) 1 before (views p) s (R b t) (R now_block u) again_idle;
          spent = again_spent before s;
        }

  pub redo_spared : (ran : Result Record Halt) (o : Outcome) → Replaces b again t ran o → (k : Kept)
      → RunsTo (trace.ended_of k ran)
      → SparesAgain g b t rest p n o
  redo_spared (Ok new) o r k l before s us above bef f m =
      let a = r.good new refl in
      subst (λ z. OnGood (ended_by z (rec_of o.tree)) (Sparing us (R b t) (kept_of o.tree) before (views n))) (sym a.1)
      (subst (λ z. Sparing us (R b t) z before (views n)) (sym a.0)
      (again_spares us above bef f m (kept_of new) l before s))
  redo_spared (Err h) o r k l before s us above bef f m =
      let T = Sparing us (R b t) (kept_of o.tree) before (views n) in
      subst (λ z. OnGood (ended_by z (rec_of o.tree)) T) (sym (r.bad h refl)) (halted_told T h)
