use Rattle.std.proofs.Common.{◌≡◌, ◌+◌, ◌*◌, ◌∙◌, ap, sym, subst, refl, length, None, IsSome, arith}
use Rattle.psac_model.specs.Fresh.{main_of}
use Rattle.psac_values.specs.Steps as values
use Rattle.psac_readers.specs.Steps as readers
use Rattle.psac_record.specs.declared.record.Record.{Record}
use Rattle.std.specs.Option.{ForSome}
use Rattle.psac_fork.specs.declared.tables.Pass.{Pass}
use Rattle.psac_record.specs.Shown.{kept_of, rec_of}
use Rattle.psac_stage.specs.Recorded.{Recorded}
use Rattle.psac_stage.specs.Places.{fixed_slots}
use Rattle.psac_engine.specs.Running.{Shows}
use Rattle.psac_engine.specs.Sound.{world_with}
use Rattle.psac_engine.proofs.Engines.{for_none, for_some, some_not}
use Rattle.psac_engine.proofs.Opens.{fixed_made, of_opened, all_opened, rested_opened, cleared_opened, nothing_opened}
use Rattle.psac_engine.proofs.engine.Engine.open.Goals as goal

pub put_grid-requires-clause-fixed : goal.put_grid-requires-clause-fixed
put_grid-requires-clause-fixed c =
    let g = c.args.grid in
    let outs = c.outputs_of-outs.result in
    let size : c.room.result * c.cols.result + outs + 1 ≡ fixed_slots g outs =
    ap (λ a. a * c.cols.result + outs + 1) c.room.ensures.value ∙ (ap (λ b. g.room * b + outs + 1) c.cols.ensures.value ∙ omega arith) in
    (fixed_slots g outs, fixed_made g outs c.args.caps c.in_ok-tables.pass.values.knows (c.in_ok-tables.ensures.values ∙ ap (λ n. values.first_view n c.args.caps.mods) size), omega arith)

pub invariant_of-result : goal.invariant_of-result
invariant_of-result c =
    let g = c.args.grid in
    let caps = c.args.caps in
    let outs = c.outputs_of-outs.result in
    let w = world_with c.args.program c.args.consts.items in
    let t = c.in_ok-tables.tables in
    let v = c.in_ok-tables.pass.values.knows in
    let of = c.in_ok-tables.ensures.of in
    let same = c.put_grid.ensures.same in
    let words = c.put_grid.ensures.grid in
    let many : outs ≡ length w.main.dests = c.outputs_of-outs.ensures.many in
    let size : c.room.result * c.cols.result + outs + 1 ≡ fixed_slots g outs =
    ap (λ a. a * c.cols.result + outs + 1) c.room.ensures.value ∙ (ap (λ b. g.room * b + outs + 1) c.cols.ensures.value ∙ omega arith) in
    let mods = c.in_ok-tables.ensures.values ∙ ap (λ n. values.first_view n caps.mods) size in
    let links = c.in_ok-tables.ensures.readers ∙ ap (λ n. readers.first_view caps.links (n + caps.mods)) size in
    let nodes = c.in_ok-tables.ensures.marks in
    record {
      main = subst (λ p. IsSome (main_of p)) c.program-2.ensures.same c.program-2.ensures.main;
      texts = c.requires.texts;
      within = c.requires.caps;
      here = refl;
      held = of_opened t _ (c.put_grid.ensures.table ∙ of.0, of.1, of.2);
      all = all_opened g outs caps v _ same words mods links nodes (length w.main.dests) many;
      rested = rested_opened g outs caps v _ same words mods links nodes;
      cleared = cleared_opened g outs caps v _ same words mods links nodes (length w.main.dests) many;
      outputs = nothing_opened w g _;
      small = λ z. some_not (sym z);
      done = λ z. some_not (sym z);
      stands = for_some (λ (p : Pass). ForSome None (λ (x : Record). ∥ Recorded w g (kept_of x) p.values.knows p.readers.knows p.marks.knows ∥₁)) _
          (for_none (λ (x : Record). ∥ Recorded w g (kept_of x) _ _ _ ∥₁) None refl);
      shows = for_none (λ (x : Record). ∥ Shows w g caps (rec_of x) ∥₁) None refl;
    }
