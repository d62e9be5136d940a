use Rattle.std.proofs.Common.{◌≡◌, ◌<◌, ℕ, ◌-◌, length, List, Some, ap, sym, ◌∙◌, subst}
use Rattle.std.specs.Prelude.{slice_index_or}
use Rattle.std.proofs.lemmas.Option.{get_or_from_slice_get}
use Rattle.psac_ops.specs.declared.plain.Handle.{Handle}
use Rattle.psac_model.specs.Fresh.{levels}
use Rattle.psac_model.specs.Run.{with_reads}
use Rattle.psac_plain.specs.declared.binding.Binding.{Binding}
use Rattle.psac_plain.specs.Slots.{env_of}
use Rattle.psac_cut.specs.CutShort.{cut_short}
use Rattle.psac_traced.specs.Traced.{traced}
use Rattle.psac_record.specs.declared.parts.Seen.{Seen}
use Rattle.psac_record.specs.Kept.{R, reads_of, env_of as kept_env_of}
use Rattle.psac_record.specs.Shown.{kept_of}
use Rattle.psac_trace.specs.Running.{Begins, Leaves}
use Rattle.psac_trace.specs.Told.{ended_of}
use Rattle.psac_repair.specs.Indexed.{Code}
use Rattle.psac_repair.specs.Rebuilt.{Olds}
use Rattle.psac_repair.specs.Repairing.{setting_of}
use Rattle.psac_repair.proofs.Again.{redo_spared}
use Rattle.psac_repair.proofs.Spending.{stopped_since}
use Rattle.psac_repair.specs.Outcomes.{is_good}
use Rattle.psac_repair.proofs.Redone.{code_at, code_within, block_linked, run_begins, redo_counts, redo_undone, redo_left}
use Rattle.psac_repair.proofs.redo.redo_block.Goals as goal

pub bounds-world-deref : goal.bounds-world-deref
bounds-world-deref g c =
    let need = c.requires.begins in
    let g0 = c.args.world.now in
    subst (λ z. z < length g0.blocks.now) (sym (ap (λ z. z.reading.block) c.deref.ensures)) (code_within g0 need.1 need.2 c.args.place.value.reading (kept_of c.args.inner) (kept_of c.args.rest.now) c.args.pass need.3 need.0)

pub returns-in_default-clause-left : goal.returns-in_default-clause-left
returns-in_default-clause-left g c = redo_undone c.args.world.now (R c.args.place.value.reading (kept_of c.args.inner)) (kept_of c.args.rest.now) c.args.pass c.no_memory.result c.no_memory.ensures.end

pub returns-in_default-clause-spares : goal.returns-in_default-clause-spares
returns-in_default-clause-spares g c =
    let b = c.args.place.value.reading in
    let o = c.no_memory in
    stopped_since c.args.world.now c.args.pass o.result (ap is_good o.ensures.end) (length b.reads) b.node
    (R b (kept_of c.args.inner)) (kept_of c.args.rest.now) c.args.pass

pub bared-pass-requires-clause-linked : goal.bared-pass-requires-clause-linked
bared-pass-requires-clause-linked g c =
    let need = c.requires.begins in
    block_linked c.args.world.now need.1 need.2 c.args.place.value.reading (kept_of c.args.inner) (kept_of c.args.rest.now) c.args.pass need.3

pub run_block-ran-requires-after_bounds : goal.run_block-ran-requires-after_bounds
run_block-ran-requires-after_bounds g c κs within =
    let g0 = c.args.world.now in
    let b = c.args.place.value.reading in
    let t = kept_of c.args.inner in
    let rest = kept_of c.args.rest.now in
    let p = c.args.pass in
    let need = c.requires.begins in
    let at = code_at g0 need.1 need.2 b t rest p need.3 need.0 in
    let code = slice_index_or g0.blocks.now c.deref.result.now.reading.block c.index-world-deref.result in
    let here : code ≡ at.0 = ap (λ (z : ℕ). slice_index_or g0.blocks.now z c.index-world-deref.result) (ap (λ z. z.reading.block) c.deref.ensures) ∙ get_or_from_slice_get g0.blocks.now b.block at.0 c.index-world-deref.result at.1 in
    let found = at.1 ∙ ap (λ (z : Code). Some z) (sym here) in
    let env = env_of c.deref-6.result.now in
    let env_is = ap env_of c.deref-6.ensures.value ∙ c.in-Ok.ensures.0 ∙ ap (λ z. with_reads (kept_env_of z.reading.env) code.0.now (reads_of c.as_slice.result.now)) c.deref-2.ensures ∙ ap (λ (z : List Seen). with_reads (kept_env_of b.env) code.0.now (reads_of z)) c.as_slice.ensures in
    let olds = c.deref-4.result.now in
    let are = subst (λ (xs : List Handle). Olds xs env t) (sym c.deref-4.ensures.value) (subst (λ (es : List Binding). Olds c.in-Ok.olds.items (env_of es) t) (sym c.deref-6.ensures.value) c.in-Ok.ensures.1) in
    let node : c.deref-3.result.now.reading.node ≡ b.node = ap (λ z. z.reading.node) c.deref-3.ensures in
    let off = c.bared-pass.ensures.off b (sym node) in
    let q = c.bared-pass.result in
    subst (λ (z : Handle). Begins (setting_of g0) g0.funcs.now olds g0.tables.now code.1.now env (Some z) q) (sym node)
    (run_begins g0 need.1 need.2 b t rest p need.3 c.args.again c.requires.changed need.0 code found env env_is olds are q c.bared-pass.ensures.of off)

pub returns-clause-left : goal.returns-clause-left
returns-clause-left g c =
    let g0 = c.args.world.now in
    let b = c.args.place.value.reading in
    let t = kept_of c.args.inner in
    let rest = kept_of c.args.rest.now in
    let p = c.args.pass in
    let need = c.requires.begins in
    let at = code_at g0 need.1 need.2 b t rest p need.3 need.0 in
    let code = slice_index_or g0.blocks.now c.deref.result.now.reading.block c.index-world-deref.result in
    let here : code ≡ at.0 = ap (λ (z : ℕ). slice_index_or g0.blocks.now z c.index-world-deref.result) (ap (λ z. z.reading.block) c.deref.ensures) ∙ get_or_from_slice_get g0.blocks.now b.block at.0 c.index-world-deref.result at.1 in
    let found = at.1 ∙ ap (λ (z : Code). Some z) (sym here) in
    let env = env_of c.deref-6.result.now in
    let env_is = ap env_of c.deref-6.ensures.value ∙ c.in-Ok.ensures.0 ∙ ap (λ z. with_reads (kept_env_of z.reading.env) code.0.now (reads_of c.as_slice.result.now)) c.deref-2.ensures ∙ ap (λ (z : List Seen). with_reads (kept_env_of b.env) code.0.now (reads_of z)) c.as_slice.ensures in
    let olds = c.deref-4.result.now in
    let are = subst (λ (xs : List Handle). Olds xs env t) (sym c.deref-4.ensures.value) (subst (λ (es : List Binding). Olds c.in-Ok.olds.items (env_of es) t) (sym c.deref-6.ensures.value) c.in-Ok.ensures.1) in
    let node : c.deref-3.result.now.reading.node ≡ b.node = ap (λ z. z.reading.node) c.deref-3.ensures in
    let off = c.bared-pass.ensures.off b (sym node) in
    let q = c.bared-pass.result in
    let n = c.run_block-ran.result.1 in
    let ran = c.run_block-ran.result.0 in
    let k = c.run_block-ran.ensures in
    let w = setting_of g0 in
    let level : c.deref-5.result.now.reading.level ≡ b.level = ap (λ z. z.reading.level) c.deref-5.ensures in
    let left = subst (λ (z : Handle). Leaves w (traced w g0.funcs.now (levels - b.level)) (cut_short w g0.funcs.now (levels - b.level)) olds g0.tables.now code.1.now env (Some z) q n (ended_of k.0 ran)) node
    (subst (λ (z : ℕ). Leaves w (traced w g0.funcs.now (levels - z)) (cut_short w g0.funcs.now (levels - z)) olds g0.tables.now code.1.now env (Some c.deref-3.result.now.reading.node) q n (ended_of k.0 ran)) level k.1) in
    redo_left g0 b t rest p c.args.again c.requires.changed need.0 code found env env_is olds are q c.bared-pass.ensures.of off n ran c.replaced.result c.replaced.ensures k.0 left

pub returns-clause-spares : goal.returns-clause-spares
returns-clause-spares g c =
    let g0 = c.args.world.now in
    let b = c.args.place.value.reading in
    let t = kept_of c.args.inner in
    let rest = kept_of c.args.rest.now in
    let p = c.args.pass in
    let need = c.requires.begins in
    let at = code_at g0 need.1 need.2 b t rest p need.3 need.0 in
    let code = slice_index_or g0.blocks.now c.deref.result.now.reading.block c.index-world-deref.result in
    let env = env_of c.deref-6.result.now in
    let olds = c.deref-4.result.now in
    let are = subst (λ (xs : List Handle). Olds xs env t) (sym c.deref-4.ensures.value)
    (subst (λ (es : List Binding). Olds c.in-Ok.olds.items (env_of es) t) (sym c.deref-6.ensures.value)
    c.in-Ok.ensures.1) in
    let node : c.deref-3.result.now.reading.node ≡ b.node = ap (λ z. z.reading.node) c.deref-3.ensures in
    let off = c.bared-pass.ensures.off b (sym node) in
    let q = c.bared-pass.result in
    let n = c.run_block-ran.result.1 in
    let ran = c.run_block-ran.result.0 in
    let k = c.run_block-ran.ensures in
    let w = setting_of g0 in
    let level : c.deref-5.result.now.reading.level ≡ b.level = ap (λ z. z.reading.level) c.deref-5.ensures in
    let left = subst (λ (z : Handle). Leaves w (traced w g0.funcs.now (levels - b.level))
    (cut_short w g0.funcs.now (levels - b.level)) olds g0.tables.now code.1.now env (Some z) q n (ended_of k.0 ran))
    node
    (subst (λ (z : ℕ). Leaves w (traced w g0.funcs.now (levels - z)) (cut_short w g0.funcs.now (levels - z))
    olds g0.tables.now code.1.now env (Some c.deref-3.result.now.reading.node) q n (ended_of k.0 ran)) level k.1) in
    redo_spared g0 b t rest p c.args.again c.requires.changed code env olds are q off n ran c.replaced.result
    c.replaced.ensures k.0 left

pub returns-clause-counts : goal.returns-clause-counts
returns-clause-counts g c = redo_counts c.args.place.value.reading (kept_of c.args.inner) c.args.again c.run_block-ran.result.0 c.replaced.result c.requires.changed.other c.replaced.ensures
