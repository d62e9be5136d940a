use Rattle.std.proofs.Common.{rules, ◌∙◌, subst, ap, sym}
use Rattle.std.specs.Prelude.{not}
use Rattle.indexmap.proofs.CallerLemmas.{filter-RetainsPairs}
use Rattle.psac_inputs.specs.declared.batch.Edit.{Edit}
use Rattle.psac_inputs.specs.Grid.{cell}
use Rattle.psac_inputs.specs.Batch.{Batch, GoesInto, IsBatch, batch_net, is_value, put_all}
use Rattle.psac_inputs.specs.Staged.{edit_of, edits_of, shown}
use Rattle.psac_inputs.proofs.EditMap.{edits-filter}
use Rattle.psac_inputs.proofs.Netting.{goes-net, net_sound, put_all-net}
use Rattle.psac_inputs.proofs.batch.Batch.net.Goals as goal

pub returns-clause-left : goal.returns-clause-left
returns-clause-left c =
    let test : Edit → _ = λ e. not (is_value e.value (cell e.row e.col c.args.grid.now)) in
    let kept = filter-RetainsPairs _ (λ e. test (edit_of e)) _ (λ k v b w g call. search rules) _ _ c.retain.ensures.filtered in
    ap (λ es. record (shown c.self.inside) { edits = es }) (ap edits_of kept ∙ edits-filter test c.self.inside.edits.entries)
    ∙ ap (batch_net c.args.grid.now) c.self.view_is

pub invariant_of-self : goal.invariant_of-self
invariant_of-self c =
    let sound : IsBatch c.args.self.now = subst IsBatch c.self.view_is c.self.invariant in
    subst IsBatch (sym (returns-clause-left c)) (net_sound c.args.self.now c.args.grid.now sound)

pub returns-clause-staged : goal.returns-clause-staged
returns-clause-staged c =
    let sound : IsBatch c.args.self.now = subst IsBatch c.self.view_is c.self.invariant in
    ap (λ (b : Batch). put_all b c.args.grid.now) (returns-clause-left c) ∙ put_all-net c.args.self.now c.args.grid.now sound

pub returns-clause-goes : goal.returns-clause-goes
returns-clause-goes c = λ goes.
    let sound : IsBatch c.args.self.now = subst IsBatch c.self.view_is c.self.invariant in
    let Into : Batch → Type 0 = λ b. GoesInto b c.args.grid.now in
    subst Into (sym (returns-clause-left c)) (goes-net c.args.self.now c.args.grid.now sound goes)
