use Rattle.std.proofs.Common.{◌≡◌, ◌∙◌, ◌+◌, ◌*◌, ap, sym, length, is_some, true, false, refl, arith}
use Rattle.std.specs.Option.{ForSome}
use Rattle.psac_fork.specs.declared.tables.Pass.{Pass}
use Rattle.psac_record.specs.declared.record.Record.{Record}
use Rattle.psac_record.specs.Shown.{kept_of}
use Rattle.psac_stage.specs.Recorded.{Recorded}
use Rattle.psac_fork.specs.Whole.{IsOf}
use Rattle.psac_plain.specs.Opened.{first_output}
use Rattle.psac_stage.specs.Places.{fixed_slots}
use Rattle.psac_stage.specs.Resting.{HasAll, IsRested, IsCleared}
use Rattle.psac_engine.specs.Outputs.{HasOutputs}
use Rattle.psac_engine.specs.Sound.{world_with}
use Rattle.psac_engine.proofs.Engines.{for_some, some_not}
use Rattle.psac_engine.proofs.Showing.{all_looked, have_outputs, is_kept, outputs_kept, outputs_looked, outputs_told, rewound_looked, stands_looked}
use Rattle.psac_engine.proofs.Handling.{handles_same, handles_looked}
use Rattle.psac_engine.proofs.engine.Engine.shown.Goals as goal

pub show_slots-told-requires-clause-fixed : goal.show_slots-told-requires-clause-fixed
show_slots-told-requires-clause-fixed c =
    let e = c.args.self.now in
    let outs = length (world_with e.program e.consts.items).main.dests in
    let first : c.room.result * c.cols.result ≡ first_output e.grid = ap (λ a. a * c.cols.result) c.room.ensures.value ∙ ap (λ b. e.grid.room * b) c.cols.ensures.value in
    let many : c.outputs_of-outs.result ≡ outs = c.outputs_of-outs.ensures.many in
    (fixed_slots e.grid outs, (e.all c.in-Some.pass (sym c.in-Some.ensures.value)).fixed, omega (arith, first, many))

pub show_slots-told-requires-clause-values : goal.show_slots-told-requires-clause-values
show_slots-told-requires-clause-values c =
    let e = c.args.self.now in
    let w = world_with e.program e.consts.items in
    let some = is_kept e.kept c.is_none.result c.is_none.ensures c.if-is_none.false in
    let first : c.room.result * c.cols.result ≡ first_output e.grid = ap (λ a. a * c.cols.result) c.room.ensures.value ∙ ap (λ b. e.grid.room * b) c.cols.ensures.value in
    have_outputs w e.grid c.in-Some.pass.values.knows (c.room.result * c.cols.result) c.outputs_of-outs.result (e.outputs c.in-Some.pass (sym c.in-Some.ensures.value) some) first c.outputs_of-outs.ensures.many

pub invariant_of-self : goal.invariant_of-self
invariant_of-self c =
    let e = c.args.self.now in
    let w = world_with e.program e.consts.items in
    let outs = length w.main.dests in
    let age = 1 + 2 * e.commits in
    let p = c.in-Some.pass in
    let at = sym c.in-Some.ensures.value in
    let v = p.values.knows in
    let u = c.show_slots-told.new.pass.knows in
    let only = c.show_slots-told.ensures.looked in
    let some = is_kept e.kept c.is_none.result c.is_none.ensures c.if-is_none.false in
    let of = e.held p at in
    let rested = e.rested p at in
    record {
      main = e.main;
      texts = e.texts;
      within = e.within;
      here = refl;
      held = for_some (λ (q : Pass). IsOf q e.tables) _ (c.show_slots-told.ensures.table ∙ of.0, of.1, of.2);
      all = for_some (λ (q : Pass). HasAll e.grid outs e.caps age q) _ (all_looked e.grid outs e.caps age v u p.readers.knows p.marks.knows only (e.all p at));
      rested = for_some IsRested _ (record { mods = rewound_looked v u only rested.mods; links = rested.links; nodes = rested.nodes });
      cleared = for_some (λ (q : Pass). is_some e.kept ≡ false → IsCleared (fixed_slots e.grid outs) q) _ (λ z. some_not (sym some ∙ z));
      outputs = for_some (λ (q : Pass). is_some e.kept ≡ true → HasOutputs w e.grid q.values.knows) _ (λ z. outputs_looked w e.grid v u only (e.outputs p at some));
      small = e.small;
      done = e.done;
      stands = for_some (λ (q : Pass). ForSome e.kept (λ (k : Record). ∥ Recorded w e.grid (kept_of k) q.values.knows q.readers.knows q.marks.knows ∥₁)) _
          (stands_looked w e.grid e.kept v u p.readers.knows p.marks.knows only (e.stands p at));
      shows = e.shows;
    }

pub returns-in-Ok-clause-shown : goal.returns-in-Ok-clause-shown
returns-in-Ok-clause-shown c =
    let e = c.args.self.now in
    let w = world_with e.program e.consts.items in
    let some = is_kept e.kept c.is_none.result c.is_none.ensures c.if-is_none.false in
    let first : c.room.result * c.cols.result ≡ first_output e.grid = ap (λ a. a * c.cols.result) c.room.ensures.value ∙ ap (λ b. e.grid.room * b) c.cols.ensures.value in
    outputs_kept w e.grid e.kept c.in-Ok.values.items some
    (outputs_told w e.grid c.in-Some.pass.values.knows (c.room.result * c.cols.result) c.outputs_of-outs.result c.in-Ok.values.items (e.outputs c.in-Some.pass (sym c.in-Some.ensures.value) some) first c.outputs_of-outs.ensures.many c.in-Ok.ensures.shown)

pub returns-then-is_none-clause-handles : goal.returns-then-is_none-clause-handles
returns-then-is_none-clause-handles c = handles_same c.args.self.now

pub returns-in-Ok-clause-handles : goal.returns-in-Ok-clause-handles
returns-in-Ok-clause-handles c =
    handles_looked c.args.self.now _ c.in-Some.pass _ (sym c.in-Some.ensures.value) refl refl c.show_slots-told.ensures.looked

pub returns-in-Err-clause-handles : goal.returns-in-Err-clause-handles
returns-in-Err-clause-handles c =
    handles_looked c.args.self.now _ c.in-Some.pass _ (sym c.in-Some.ensures.value) refl refl c.show_slots-told.ensures.looked
