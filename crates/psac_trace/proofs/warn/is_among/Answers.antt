use Rattle.std.proofs.Common.{drop, slice_index_or, refl, sym, subst, inl}
use Rattle.psac_ops.specs.declared.plain.Handle.{Handle}
use Rattle.psac_slots.specs.Handles.{Member}
use Rattle.psac_trace.proofs.Heaps.{handle_by}
use Rattle.psac_trace.proofs.Reading.{drop_at}
use Rattle.psac_trace.proofs.Rousing.{drop_member}
use Rattle.psac_trace.proofs.warn.is_among.Goals as goal

abbrev no_handle : Handle
no_handle = record { slot = 0; generation = 0 }

pub returns-then-old-m-2-clause-yes : goal.returns-then-old-m-2-clause-yes
returns-then-old-m-2-clause-yes c = λ e.
    let olds = c.args.olds.now in
    let i = c.loop-old.old-index in
    let o = slice_index_or olds i no_handle in
    let here : Member o (drop i olds) = subst (Member o) (sym (drop_at olds i no_handle c.loop-old-test.true)) (inl refl) in
    subst (λ z. Member z olds) (handle_by o c.args.m c.if-old-m.true c.if-old-m-2.true) (drop_member o olds i here)
