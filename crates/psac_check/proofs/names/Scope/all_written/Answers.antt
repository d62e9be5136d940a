use Rattle.std.proofs.Common.{◌≡◌, length, take, drop, ◌-◌, ap, sym, ◌∙◌}
use Rattle.std.proofs.lemmas.List.{drop-map}
use Rattle.psac_model.specs.Series.{Scope}
use Rattle.psac_check.specs.declared.names.Dest.{Dest}
use Rattle.psac_check.specs.Scopes.{dests_of}
use Rattle.psac_check.proofs.Walks.{rest_is}
use Rattle.psac_check.proofs.names.Scope.all_written.Goals as goal

pub returns : goal.returns
returns c =
    let n = c.args.since in
    let e : dests_of (take (length c.deref.result.now - n) (drop n c.deref.result.now)) ≡ drop n c.args.self.now.dests =
    ap dests_of (rest_is n c.deref.result.now ∙ ap (λ z. drop n z) c.deref.ensures.value) ∙ sym (drop-map (λ (d : Dest). (d.name, d.line)) n c.self.inside.dests.items) ∙ ap (λ (s : Scope). drop n s.dests) c.self.view_is in
    rw e at c.are_written.ensures
