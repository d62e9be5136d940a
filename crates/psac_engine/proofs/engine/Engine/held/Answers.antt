use Rattle.std.proofs.Common.{◌≡◌, ◌∙◌, ◌+◌, ◌*◌, Bool, ap, sym, subst, length, is_some, true, false, Ok, refl, IsSome}
use Rattle.std.specs.Option.{ForSome}
use Rattle.psac_slots.specs.Handles.{Member}
use Rattle.psac_values.specs.declared.view.ValueView.{ValueView}
use Rattle.psac_fork.specs.declared.tables.Pass.{Pass}
use Rattle.psac_fork.specs.Whole.{IsOf}
use Rattle.psac_model.specs.Fresh.{main_of}
use Rattle.psac_model.specs.Series.{meets}
use Rattle.psac_plain.specs.Opened.{first_output}
use Rattle.psac_record.specs.declared.record.Record.{Record}
use Rattle.psac_record.specs.Shown.{kept_of}
use Rattle.psac_stage.specs.Places.{fixed_slots}
use Rattle.psac_stage.specs.Recorded.{Recorded}
use Rattle.psac_stage.specs.Resting.{HasAll, IsRested, IsCleared}
use Rattle.psac_engine.specs.Looking.{Looks}
use Rattle.psac_engine.specs.Outputs.{HasOutputs}
use Rattle.psac_engine.specs.Sound.{world_with}
use Rattle.psac_engine.proofs.Engines.{for_some}
use Rattle.psac_engine.proofs.Handling.{known, named, stale, outlived, open_same, handles_looked}
use Rattle.psac_engine.proofs.Kept.{world_checked}
use Rattle.psac_engine.proofs.Showing.{all_looked, outputs_looked, rewound_looked, stands_looked}
use Rattle.psac_engine.proofs.engine.Engine.held.Goals as goal

pub look_at-told-requires-clause-sole : goal.look_at-told-requires-clause-sole
look_at-told-requires-clause-sole c = let e = c.args.self.now in (0, (e.rested c.in-Some.pass (sym c.in-Some.ensures.value)).mods.counter)

pub look_at-told-requires-clause-known : goal.look_at-told-requires-clause-known
look_at-told-requires-clause-known c = λ live shut.
    let e = c.args.self.now in
    let checked = world_checked e.program e.consts.items (subst (λ z. IsSome (main_of z)) c.program.ensures.same c.program.ensures.main)
    (subst (λ z. meets z ≡ Ok tt) c.program.ensures.same c.program.ensures.met) in
    let first : c.room.result * c.cols.result ≡ first_output e.grid =
    ap (λ a. a * c.cols.result) c.room.ensures.value ∙ ap (λ b. e.grid.room * b) c.cols.ensures.value in
    let same = open_same e c.is_some-kept.result (c.room.result * c.cols.result) c.outputs_of-outs.result c.args.handle.slot
    c.is_some-kept.ensures first c.outputs_of-outs.ensures.many in
    known e c.in-Some.pass (sym c.in-Some.ensures.value) c.room.ensures.sound checked c.args.handle live (sym same ∙ shut)

pub invariant_of-self : goal.invariant_of-self
invariant_of-self c =
    let e = c.args.self.now in
    let w = world_with e.program e.consts.items in
    let outs = length w.main.dests in
    let age = 1 + 2 * e.commits in
    let p = c.in-Some.pass in
    let at = sym c.in-Some.ensures.value in
    let v = p.values.knows in
    let u = c.look_at-told.new.pass.knows in
    let only = c.look_at-told.ensures.looked in
    let of = e.held p at in
    let rested = e.rested p at in
    record {
      main = e.main;
      texts = e.texts;
      within = e.within;
      here = refl;
      held = for_some (λ (q : Pass). IsOf q e.tables) _ (c.look_at-told.ensures.table ∙ of.0, of.1, of.2);
      all = for_some (λ (q : Pass). HasAll e.grid outs e.caps age q) _
          (all_looked e.grid outs e.caps age v u p.readers.knows p.marks.knows only (e.all p at));
      rested = for_some IsRested _ (record { mods = rewound_looked v u only rested.mods; links = rested.links; nodes = rested.nodes });
      cleared = for_some (λ (q : Pass). is_some e.kept ≡ false → IsCleared (fixed_slots e.grid outs) q) _ (λ z.
          let h = e.cleared p at z in
          record {
            mods = ap (λ (x : ValueView). x.claims.held) only ∙ h.mods;
            bare = λ o i. h.bare o (subst (Member o) (ap (λ (x : ValueView). x.mine) only) i);
            links = h.links;
            links_out = h.links_out;
            nodes = h.nodes;
            nodes_out = h.nodes_out;
            marks = h.marks;
          });
      outputs = for_some (λ (q : Pass). is_some e.kept ≡ true → HasOutputs w e.grid q.values.knows) _
          (λ z. outputs_looked w e.grid v u only (e.outputs p at z));
      small = e.small;
      done = e.done;
      stands = for_some (λ (q : Pass). ForSome e.kept (λ (k : Record).
          ∥ Recorded w e.grid (kept_of k) q.values.knows q.readers.knows q.marks.knows ∥₁)) _
          (stands_looked w e.grid e.kept v u p.readers.knows p.marks.knows only (e.stands p at));
      shows = e.shows;
    }

pub returns-clause-named : goal.returns-clause-named
returns-clause-named c = λ n i.
    let e = c.args.self.now in
    let checked = world_checked e.program e.consts.items (subst (λ z. IsSome (main_of z)) c.program.ensures.same c.program.ensures.main)
    (subst (λ z. meets z ≡ Ok tt) c.program.ensures.same c.program.ensures.met) in
    let first : c.room.result * c.cols.result ≡ first_output e.grid =
    ap (λ a. a * c.cols.result) c.room.ensures.value ∙ ap (λ b. e.grid.room * b) c.cols.ensures.value in
    let same = open_same e c.is_some-kept.result (c.room.result * c.cols.result) c.outputs_of-outs.result c.args.handle.slot
    c.is_some-kept.ensures first c.outputs_of-outs.ensures.many in
    let p = c.in-Some.pass in
    let looks = subst (λ (z : Bool). Looks z c.args.handle p.values.knows c.look_at-told.result) same c.look_at-told.ensures.told in
    named e p (sym c.in-Some.ensures.value) c.room.ensures.sound checked c.args.handle c.look_at-told.result looks n i

pub returns-clause-stale : goal.returns-clause-stale
returns-clause-stale c = λ none.
    let e = c.args.self.now in
    let checked = world_checked e.program e.consts.items (subst (λ z. IsSome (main_of z)) c.program.ensures.same c.program.ensures.main)
    (subst (λ z. meets z ≡ Ok tt) c.program.ensures.same c.program.ensures.met) in
    let first : c.room.result * c.cols.result ≡ first_output e.grid =
    ap (λ a. a * c.cols.result) c.room.ensures.value ∙ ap (λ b. e.grid.room * b) c.cols.ensures.value in
    let same = open_same e c.is_some-kept.result (c.room.result * c.cols.result) c.outputs_of-outs.result c.args.handle.slot
    c.is_some-kept.ensures first c.outputs_of-outs.ensures.many in
    let p = c.in-Some.pass in
    let looks = subst (λ (z : Bool). Looks z c.args.handle p.values.knows c.look_at-told.result) same c.look_at-told.ensures.told in
    stale e p (sym c.in-Some.ensures.value) c.room.ensures.sound checked c.args.handle c.look_at-told.result looks none

pub returns-clause-outlived : goal.returns-clause-outlived
returns-clause-outlived c = λ o.
    let e = c.args.self.now in
    let checked = world_checked e.program e.consts.items (subst (λ z. IsSome (main_of z)) c.program.ensures.same c.program.ensures.main)
    (subst (λ z. meets z ≡ Ok tt) c.program.ensures.same c.program.ensures.met) in
    let first : c.room.result * c.cols.result ≡ first_output e.grid =
    ap (λ a. a * c.cols.result) c.room.ensures.value ∙ ap (λ b. e.grid.room * b) c.cols.ensures.value in
    let same = open_same e c.is_some-kept.result (c.room.result * c.cols.result) c.outputs_of-outs.result c.args.handle.slot
    c.is_some-kept.ensures first c.outputs_of-outs.ensures.many in
    let p = c.in-Some.pass in
    let looks = subst (λ (z : Bool). Looks z c.args.handle p.values.knows c.look_at-told.result) same c.look_at-told.ensures.told in
    outlived e p (sym c.in-Some.ensures.value) c.room.ensures.sound checked c.args.handle c.look_at-told.result looks o

pub returns-clause-handles : goal.returns-clause-handles
returns-clause-handles c =
    handles_looked c.args.self.now _ c.in-Some.pass _ (sym c.in-Some.ensures.value) refl refl c.look_at-told.ensures.looked
