use Rattle.psac_ops.specs.Named.{values_of}
use Rattle.psac_model.specs.Run.{func_named}
use Rattle.psac_trace.proofs.Ordered.{called_for}
use Rattle.psac_trace.proofs.ask.called_by.Goals as goal

pub returns-clause-looks : goal.returns-clause-looks
returns-clause-looks c = λ env.
    called_for env (func_named c.args.func c.args.funcs.now) (values_of c.args.values.now) (values_of c.args.dests.now) c.called.result (c.called.ensures env)
