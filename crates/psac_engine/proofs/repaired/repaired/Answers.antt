use Rattle.std.proofs.Common.{◌≢◌, AllPairs, None, [], refl, sym, subst}
use Rattle.psac_traced.specs.Blocks.{numbers_of}
use Rattle.psac_numbers.proofs.Program.{program_distinct}
use Rattle.psac_record.specs.Shown.{kept_of}
use Rattle.psac_repair.specs.Counted.{Spent}
use Rattle.psac_repair.specs.Outcomes.{end_of, OnGood}
use Rattle.psac_repair.specs.Going.{views}
use Rattle.psac_repair.proofs.Indexed.{is_indexed}
use Rattle.psac_repair.proofs.Layers.{record_wants}
use Rattle.psac_engine.specs.Sound.{world_with}
use Rattle.psac_engine.specs.Mending.{Told}
use Rattle.psac_engine.proofs.Mendings.{around, begins_here, told_here, spent_here}
use Rattle.psac_engine.proofs.Repairs.{program}
use Rattle.psac_engine.proofs.repaired.repaired.Goals as goal

pub blocks_of-requires : goal.blocks_of-requires
blocks_of-requires g c =
    record {
      distinct = subst (λ fs. AllPairs (λ m n. m ≢ n) (numbers_of fs)) (sym c.as_slice-funcs.ensures)
          (program_distinct c.program-program.result.now c.program-program.ensures.parsed);
    }

pub returns-in_default-blocks_of : goal.returns-in_default-blocks_of
returns-in_default-blocks_of g c grid caps age s =
    let w = world_with c.args.program.now c.args.texts.now in
    let k = kept_of c.args.tree in
    let new = kept_of c.no_memory.result.tree in
    let p = views c.args.pass in
    record {
      of = s.of;
      told = subst (λ e. Told w c.args.grid.now k new p p e) (sym c.no_memory.ensures.end)
          (record_wants (program w grid c.args.grid.now caps age c.args.tables.now k c.args.pass s) [] None k new p s.mendable);
      counts = c.no_memory.ensures.counts k;
      spent = subst (λ e. OnGood e (Spent p.values p.values p.marks p.marks k new)) (sym c.no_memory.ensures.end) tt;
    }

pub repair-requires-clause-begins : goal.repair-requires-clause-begins
repair-requires-clause-begins g c κs within =
    let a = c.args in
    let q = c.program-program.result.now in
    let f = c.in-Some.main.now in
    let s = c.as_slice-funcs in
    let b = c.as_slice-2 in
    let world = around a.crew a.tables c.ground.result a.texts s.result b.result c.as_slice-3.result in (
      is_indexed q f (sym c.in-Some.ensures) world c.in-Ok.blocks.items s.ensures b.ensures c.as_slice-3.ensures.value c.in-Ok.ensures,
      [],
      None,
      begins_here a.program.now q a.texts.now a.grid.now f c.program-program.ensures.same (sym c.in-Some.ensures) world
          c.as_slice.result.now
          c.ground.ensures c.as_slice.ensures refl s.ensures b.ensures (kept_of a.tree) (views a.pass) c.requires.3.mendable,
    )

pub returns : goal.returns
returns g c grid caps age s =
    let a = c.args in
    let f = c.in-Some.main.now in
    let r = c.repair in
    let b = c.as_slice-2 in
    let world = around a.crew a.tables c.ground.result a.texts c.as_slice-funcs.result b.result c.as_slice-3.result in
    record {
      of = r.ensures.of;
      told = told_here a.program.now c.program-program.result.now a.texts.now a.grid.now f c.program-program.ensures.same
          (sym c.in-Some.ensures) world c.as_slice.result.now c.ground.ensures c.as_slice.ensures refl c.as_slice-funcs.ensures b.ensures
          (kept_of a.tree) (kept_of r.result.0.tree) a.pass r.result.1 (end_of r.result.0) s.mendable r.ensures.left;
      counts = r.ensures.counts;
      spent = spent_here a.program.now c.program-program.result.now a.texts.now a.grid.now f
          c.program-program.ensures.same (sym c.in-Some.ensures) world c.as_slice.result.now c.ground.ensures
          c.as_slice.ensures refl c.as_slice-funcs.ensures b.ensures (kept_of a.tree) a.pass r.result.1 r.result.0
          s.mendable s.coherent s.founded r.ensures.spares;
    }
