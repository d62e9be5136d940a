-- What a commit answers where a run is kept, from what a run anew answers.
use Rattle.std.proofs.Common.{◌≡◌, ℕ, ◌+◌, ◌<◌, List, length, Option, Some, None, Ok, Err, Result, IsSome, is_some, unwrap_or, refl, ap, sym, ◌∙◌, subst, arith}
use Rattle.std.specs.Prelude.{option_map}
use Rattle.std.proofs.lemmas.Grind.{merely}
use Rattle.psac_fork.specs.declared.tables.Pass.{Pass}
use Rattle.psac_fork.specs.declared.tables.Tables.{Tables}
use Rattle.psac_ops.specs.declared.plain.TextId.{TextId}
use Rattle.psac_syntax.specs.declared.program.Func.{Func}
use Rattle.psac_syntax.specs.declared.program.Program.{Program}
use Rattle.psac_fork.specs.Whole.{IsOf}
use Rattle.psac_inputs.specs.Grid.{Grid, IsGrid}
use Rattle.psac_inputs.specs.Batch.{Batch, IsBatch, GoesInto, put_all}
use Rattle.psac_model.specs.declared.ends.Caps.{Caps}
use Rattle.psac_model.specs.declared.ends.Work.{Work}
use Rattle.psac_model.specs.declared.ends.End.TheVariants.{Done}
use Rattle.psac_model.specs.Names.{Name, Heap}
use Rattle.psac_model.specs.Run.{Ran}
use Rattle.psac_model.specs.Tree.{size_of}
use Rattle.psac_model.specs.Fresh.{World, Outcome, Full, Fault, Good, fresh, outcome, main_of, levels}
use Rattle.psac_model.specs.Series.{meets}
use Rattle.psac_laws.proofs.Opening.{IsChecked}
use Rattle.psac_laws.proofs.Checked.{is_checked}
use Rattle.psac_record.specs.Kept.{Kept, bare}
use Rattle.psac_repair.specs.Going.{views, Roomy}
use Rattle.psac_model.specs.Work.{anew_work}
use Rattle.psac_record.specs.declared.record.Record.{Record}
use Rattle.psac_stage.specs.Resting.{HasAll, IsTop, IsRested, MayRun}
use Rattle.psac_stage.specs.Recorded.{Recorded, setting_at, places_at}
use Rattle.psac_stage.specs.Places.{base_heap}
use Rattle.psac_stage.proofs.Out.{recorded_out}
use Rattle.psac_stage.proofs.Sets.{handle_set}
use Rattle.psac_stage.proofs.Sole.{traced_out}
use Rattle.psac_stage.specs.Staging.{changed, Changes}
use Rattle.psac_stage.proofs.Placed.{opened_kept, room_kept, cols_kept}
use Rattle.psac_stage.proofs.Founding.{coherent_now, founded_now}
use Rattle.psac_stage.proofs.Inputs.{inputs_in}
use Rattle.psac_stage.proofs.Mendable.{mendable}
use Rattle.psac_stage.proofs.Settles.{all_older}
use Rattle.psac_engine.specs.declared.answer.Answer.{Answer}
use Rattle.psac_engine.specs.declared.answer.Answer.TheVariants as answer
use Rattle.psac_engine.specs.Commit.{Answers, IsCaps, work_after}
use Rattle.psac_engine.specs.Running.{HasRun}
use Rattle.psac_repair.specs.declared.outcome.Stop.{Stop}
use Rattle.psac_engine.specs.Mending.{Staged, Keeps, Finished, HasRunFrom}
use Rattle.psac_engine.specs.Sound.{no_func, world_with}

-- without a record the answer doesn't tell what was kept
pub error_answers : (caps : Caps) (one two : Option (Ran Name Heap)) (o : Outcome) (a : Answer) → Answers caps one o (Err a) → Answers caps two o (Err a)
error_answers caps one two (Good tree heap) answer.NoMemory h = tt
error_answers caps one two (Good tree heap) (answer.Fault why line) h = absurd h
error_answers caps one two (Good tree heap) (answer.Full which) h = absurd h
error_answers caps one two (Fault why line) answer.NoMemory h = tt
error_answers caps one two (Fault why line) (answer.Fault k l) h = h
error_answers caps one two (Fault why line) (answer.Full which) h = absurd h
error_answers caps one two (Full which) answer.NoMemory h = tt
error_answers caps one two (Full which) (answer.Fault k l) h = absurd h
error_answers caps one two (Full which) (answer.Full k) h = h

-- the model runs anew too, whatever the outcome's record is
good_anew : (caps : Caps) (old : Option (Ran Name Heap)) (r : Ran Name Heap) (o : Outcome) (work : Work) → o ≡ Good r.tree r.heap → work_after caps old r.tree ≡ anew_work (size_of r.tree) → Answers caps None o (Ok work) → Answers caps old o (Ok work)
good_anew caps old r (Good tree heap) work e same h =
    let tree_is : tree ≡ r.tree = cc in
    h ∙ ap (λ z. anew_work (size_of z)) tree_is ∙ sym same ∙ ap (work_after caps old) (sym tree_is)
good_anew caps old r (Fault why line) work e same h = absurd h
good_anew caps old r (Full which) work e same h = absurd h

-- a pass has as many nodes as its caps say
pub few_nodes : (one caps : Caps) (p : Pass) → IsCaps one → IsTop one.nodes p.marks.knows.claims → IsTop caps.nodes p.marks.knows.claims → caps.nodes < 4294967296
few_nodes one caps p fit a b =
    let most = fit.0.1 in
    let x = a.count_is in
    let y = b.count_is in
    omega (arith, most, x, y)

module _ (w : World) (h : Grid) (caps : Caps) (q : Pass) where
  -- a run anew, where none is kept
  pub from_run : (age : ℕ) (told : Result (Work × Record) Answer) → HasRun w h caps age q told → HasRunFrom w None h caps age q told
  from_run age (Ok kept) r = (r.0, merely r.1, r.5, r.3, r.4)
  from_run age (Err a) r = r

  -- a generation later
  pub older_run : (g : Option Grid) (age : ℕ) (told : Result (Work × Record) Answer) → HasRunFrom w g h caps age q told → HasRunFrom w g h caps (age + 1) q told
  older_run g age (Ok kept) r = (all_older h (length w.main.dests) caps age q r.0, r.1, r.2, r.3, r.4)
  older_run g age (Err a) r = (all_older h (length w.main.dests) caps (age + 1) q r.0, r.1, r.2)

  -- and where the model's commit runs anew
  pub anew_run : (g : Grid) (age : ℕ) (told : Result (Work × Record) Answer) → work_after caps (Some (fresh w g)) (fresh w h).tree ≡ anew_work (size_of (fresh w h).tree) → HasRun w h caps age q told → HasRunFrom w (Some g) h caps age q told
  anew_run g age (Ok kept) same r =
      (r.0, merely r.1, r.5, r.3, good_anew caps (Some (fresh w g)) (fresh w h) (outcome w caps h) kept.0 r.1.good same r.4)
  anew_run g age (Err a) same r = (r.0, r.1, error_answers caps None (Some (fresh w g)) (outcome w caps h) a r.2)

  -- what is known of the tables where a record is kept
  pub kept_all : (g : Option Grid) (age : ℕ) (told : Result (Work × Record) Answer) (kept : Work × Record) → told ≡ Ok kept → HasRunFrom w g h caps age q told → HasAll h (length w.main.dests) caps age q
  kept_all g age told kept is r = (subst (HasRunFrom w g h caps age q) is r).0

-- what a repair came to, by what its end told
module _ (w : World) (g h : Grid) (caps : Caps) (age : ℕ) (t : Tables) (q : Pass) (told : Result (Work × Record) Stop) (f : Finished w g h caps age t q told) where
  pub finished_ok : (kept : Work × Record) → told ≡ Ok kept → Finished w g h caps age t q (Ok kept)
  finished_ok kept is = subst (Finished w g h caps age t q) is f

  pub finished_err : (stop : Stop) → told ≡ Err stop → Finished w g h caps age t q (Err stop)
  finished_err stop is = subst (Finished w g h caps age t q) is f

-- an answer where a repair stopped
pub stopped_run : (w : World) (g h : Grid) (caps : Caps) (age : ℕ) (t : Tables) (q : Pass) (a : Answer) → MayRun (length w.main.dests) h caps age t q → Answers caps (Some (fresh w g)) (outcome w caps h) (Err a) → HasRunFrom w (Some g) h caps age q (Err a)
stopped_run w g h caps age t q a m is = (all_older h (length w.main.dests) caps age q m.all, m.clear, is)

-- what a repair begins with, once a batch was put into the grid
module _ (p : Program) (texts : List TextId) (some : IsSome (main_of p)) (rule : meets p ≡ Ok tt) where
  main_found : main_of p ≡ Some (world_with p texts).main
  main_found = by (main_of p) some
    where
      by : (o : Option Func) → IsSome o → o ≡ Some (unwrap_or o no_func)
      by None none = absurd (cc)
      by (Some f) it = refl

  pub world_checked : IsChecked (world_with p texts)
  world_checked = is_checked (world_with p texts) rule main_found

  pub staged_by : (g : Grid) (b : Batch) (h : Grid) (outs : ℕ) (caps : Caps) (age : ℕ) (t : Tables) (k : Kept) (x y : Pass)
      → outs ≡ length (world_with p texts).main.dests → h ≡ put_all b g → IsGrid g → IsGrid h → IsBatch b → GoesInto b g → IsCaps caps
      → HasAll g (length (world_with p texts).main.dests) caps age x → IsRested x
      → Recorded (world_with p texts) g k x.values.knows x.readers.knows x.marks.knows → IsOf y t
      → (HasAll g outs caps age x → HasAll h outs caps age y) → IsRested y → Changes (changed g outs b) (views x) (views y)
      → Staged (world_with p texts) g h caps age t k y
  staged_by g b h outs caps age t k x y many put ok now sound goes fit had rest rec of then_all rested changes =
      let all = subst (λ n. HasAll h n caps age y) many (then_all (subst (λ n. HasAll g n caps age x) (sym many) had)) in
      let w = world_with p texts in
      let over : Roomy (views x) = (rest.mods.over, rest.links.over, rest.nodes.over) in
      let same : Changes (changed g (length w.main.dests) b) (views x) (views y) = subst (λ n. Changes (changed g n b) (views x) (views y)) many changes in
      let put_in : HasAll (put_all b g) (length w.main.dests) caps age y =
      subst (λ z. HasAll z (length w.main.dests) caps age y) put all in
      let opened : h.opened ≡ g.opened = ap (λ (z : Grid). z.opened) put ∙ opened_kept b.edits g in
      let room : h.room ≡ g.room = ap (λ (z : Grid). z.room) put ∙ room_kept b.edits g in
      let cols : h.cols ≡ g.cols = ap (λ (z : Grid). z.cols) put ∙ cols_kept b.edits g in
      record {
        of = of;
        all = all;
        rested = rested;
        before = views x;
        had = had;
        recorded = rec;
        slots = changed g outs b;
        changes = changes;
        mendable = mendable w g h ok now world_checked caps age k _ (views x) (views y) had all rest.mods.whole rest.links.whole over rec same opened room cols
            (inputs_in w g ok world_checked x.values.knows had.fixed had.grid b sound goes);
        coherent = coherent_now w g b ok sound goes world_checked caps age k (views x) (views y) had put_in
            rest.mods.whole rec same;
        founded = founded_now w g b ok sound goes world_checked caps age k (views x) (views y) had put_in
            rest.mods.whole rec same;
        ok = ok;
        now = now;
        fit = fit;
        checked = world_checked;
        rule = rule;
        main = main_found;
        opened = opened;
        room = room;
        cols = cols;
      }

-- a pass at rest in which nothing is kept may run, once a batch was put into the grid
pub may_by : (w : World) (g : Grid) (caps : Caps) (age : ℕ) (t : Tables) (kept : Option Record) (p : Pass) (outs : ℕ) → outs ≡ length w.main.dests → kept ≡ None → Keeps w g caps age t kept p → MayRun outs g caps age t p
may_by w g caps age t kept p outs many none k =
    subst (λ n. MayRun n g caps age t p) (sym many) (record { of = k.of; all = k.all; rested = k.rested; clear = k.cleared (ap is_some none) })

-- a record that is kept, out of an engine's invariant
pub record_out : (w : World) (g : Grid) (k : Kept) (p : Pass) → ∥ Recorded w g k p.values.knows p.readers.knows p.marks.knows ∥₁ → Recorded w g k p.values.knows p.readers.knows p.marks.knows
record_out w g k p t =
    recorded_out w g k p.values.knows p.readers.knows p.marks.knows
    (traced_out handle_set (setting_at w g) w.program.funcs levels w.main.body (places_at w g) (base_heap g w.main.dests) (bare k) Done)
    t

-- the run that was kept
kept_run : (w : World) (g : Grid) (o : Option Record) → option_map (fresh w) (option_map (λ (r : Record). g) o) ≡ option_map (λ (r : Record). fresh w g) o
kept_run w g None = refl
kept_run w g (Some r) = refl

pub answers_kept : (w : World) (g : Grid) (caps : Caps) (one two : Option Record) (o : Outcome) (told : Result Work Answer) → one ≡ two → Answers caps (option_map (fresh w) (option_map (λ (r : Record). g) one)) o told → Answers caps (option_map (λ (r : Record). fresh w g) two) o told
answers_kept w g caps one two o told same a = subst (λ z. Answers caps z o told) (kept_run w g one ∙ ap (option_map (λ (r : Record). fresh w g)) same) a
