-- A run anew, from the call that runs main's body to what is kept.
use Rattle.std.proofs.Common.{◌≡◌, ℕ, ◌+◌, ◌<◌, ◌^◌, List, [], ◌∷◌, length, Some, None, false, refl, ap, sym, ◌∙◌, subst}
use Rattle.std.specs.Prelude.{option_map}
use Rattle.psac_ops.specs.Named.{value_of}
use Rattle.psac_values.specs.declared.view.ValueView.{ValueView}
use Rattle.psac_fork.specs.declared.tables.Pass.{Pass}
use Rattle.psac_fork.specs.declared.tables.Tables.{Tables}
use Rattle.psac_inputs.specs.Grid.{Grid, IsGrid}
use Rattle.psac_model.specs.declared.ends.Caps.{Caps}
use Rattle.psac_model.specs.declared.ends.CapKind.{CapKind}
use Rattle.psac_model.specs.declared.ends.End.TheVariants.{Done}
use Rattle.psac_model.specs.Names.{Name, Heap}
use Rattle.psac_model.specs.Tree.{size_of}
use Rattle.psac_model.specs.Run.{Ran}
use Rattle.psac_model.specs.Plain.{capped}
use Rattle.psac_model.specs.Fresh.{World, Good, fresh, outcome, judged, ended, over, nodes_of}
use Rattle.psac_laws.proofs.Opening.{IsChecked}
use Rattle.psac_record.specs.Kept.{Kept, bare, counts}
use Rattle.psac_trace.specs.Grown.{Made}
use Rattle.psac_trace.specs.Told as told
use Rattle.psac_trace.specs.Told.{Ended}
use Rattle.psac_engine.specs.Commit.{Answers, IsCaps}
use Rattle.psac_stage.specs.Places.{base_heap}
use Rattle.psac_stage.specs.Holding.{value_in}
use Rattle.psac_stage.specs.Resting.{HasAll}
use Rattle.psac_stage.specs.Settling.{Settles}
use Rattle.psac_engine.specs.Tracing.{MainBegins, MainLeaves}
use Rattle.psac_engine.specs.Running.{HasHeap, Shows}
use Rattle.psac_stage.specs.Resting.{MayRun}
use Rattle.psac_stage.proofs.Holding.{sees_value}
use Rattle.psac_stage.proofs.Begins.{begins, body_left}
use Rattle.psac_engine.proofs.Outputs.{output_bound, has_outputs}
use Rattle.psac_engine.specs.Outputs.{HasOutputs}
use Rattle.psac_model.specs.Series.{has}
use Rattle.psac_plain.specs.Opened.{at_slot, first_output}
use Rattle.psac_stage.proofs.Afters.{all_after, alone_now, few}
use Rattle.psac_engine.proofs.Shows.{run_is}
use Rattle.psac_engine.proofs.Uncapped.{uncapped, nodes_small}
use Rattle.psac_stage.proofs.Settles.{settled_all}
use Rattle.psac_engine.proofs.Ends.{answer_of, Tells as TellsOf, told as told_of, base_seen, serial, within, over_is, answered}

judged_good : (kinds : List CapKind) (r : Ran Name Heap) → kinds ≡ [] → r.end ≡ Done → judged kinds r ≡ Good r.tree r.heap
judged_good [] r none e = ap (λ z. ended z r.tree r.heap) e
judged_good (k ∷ ks) r none e = absurd cc

module _ (w : World) (g : Grid) (ok : IsGrid g) (checked : IsChecked w) (caps : Caps) (age : ℕ) (t : Tables) (p : Pass) (may : MayRun (length w.main.dests) g caps age t p) where
  abbrev outs : ℕ
  outs = length w.main.dests

  pub main_begins : MainBegins g w.texts w.program.funcs w.main t p
  main_begins = begins w g ok checked caps age t p may.of may.all may.rested may.clear

  module _ (q : Pass) (e : Ended Kept) (l : MainLeaves g w.texts w.program.funcs w.main t p q e) where
    pub run_all : HasAll g outs caps age q
    run_all =
        all_after g ok w.main.dests caps age t p q may.all may.clear l.made l.moves (base_seen w g ok checked caps age t p may.of may.all may.rested may.clear q e l)

    pub joined : q.depth ≡ 0
    joined = q.deep ∙ ap length run_all.mods.branch

    module _ (z : Pass) (s : Settles q z) where
      pub now_all : HasAll g outs caps age z
      now_all = settled_all q z s g outs caps age run_all

      pub now_answered : Answers caps None (outcome w caps g) (answer_of e)
      now_answered = answered w g ok checked caps age t p may.of may.all may.rested may.clear q z s now_all e l

  module _ (q : Pass) (k : Kept) (l : MainLeaves g w.texts w.program.funcs w.main t p q (told.Good k)) (z : Pass) (s : Settles q z) where
    abbrev all : HasAll g outs caps age z
    all = now_all q (told.Good k) l z s

    run_told : TellsOf w g ok checked caps age t p may.of may.all may.rested may.clear q (told.Good k)
    run_told = told_of w g ok checked caps age t p may.of may.all may.rested may.clear q (told.Good k) l

    none_over : over (counts k) caps ≡ []
    none_over = within w g ok checked caps age t p may.of may.all may.rested may.clear q z s all (told.Good k) l k l.all

    pub now_shows : Shows w g caps (bare k)
    now_shows =
        let run = run_told.0.run (base_heap g w.main.dests) (λ m x h. h) in
        let a = serial w g ok checked caps age t p may.of may.all may.rested may.clear q (told.Good k) l k Done (ap (λ (m : Made). m.mods) l.all) run in
        record {
          run = run_is w g ok (bare k) a;
          good = judged_good (over (size_of (fresh w g).tree) caps) (fresh w g) (over_is w g ok checked caps age t p may.of may.all may.rested may.clear q z s all (told.Good k) l k Done l.all run) a.ends;
        }

    pub now_heap : HasHeap w g (bare k) z.values.knows
    now_heap =
        record {
          words = λ m x h.
              let v = q.values.knows in
              let a = sees_value v m x (alone_now g ok w.main.dests caps age t p q may.all may.clear l.made l.moves) (few g ok w.main.dests caps age t p q may.all may.clear l.made l.moves m.slot) (run_told.1.sees m x h) in
              let mine : z.values.knows.mine ≡ v.mine = ap (λ (u : ValueView). u.mine) s.values in
              ap (λ ms. option_map value_of (value_in m.slot ms)) mine ∙ ap (option_map value_of) a.known ∙ ap Some a.is;
        }

    pub now_outputs : HasOutputs w g z.values.knows
    now_outputs =
        let run = run_told.0.run (base_heap g w.main.dests) (λ m x h. h) in
        let a = serial w g ok checked caps age t p may.of may.all may.rested may.clear q (told.Good k) l k Done (ap (λ (m : Made). m.mods) l.all) run in
        has_outputs w g ok checked (bare k) Done z.values.knows a
        (λ i low.
        let b = output_bound w g ok checked i low in
        let left = (body_left w g ok checked caps age t p may.of may.all may.rested may.clear).unwritten in
        run_told.1.done (at_slot (first_output g + i)) (b.0, b.1, subst (λ xs. has b.0 xs ≡ false) (sym left) refl, b.2))
        now_heap

    -- the counts that the record gives are its size
    pub whole_size : IsCaps caps → (capped (counts k) ≡ counts k) × (nodes_of (counts k) < 2 ^ 32)
    whole_size fit = (uncapped (counts k) caps fit none_over, nodes_small (counts k) caps fit none_over)
