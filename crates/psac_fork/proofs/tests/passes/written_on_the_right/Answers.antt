use Rattle.std.proofs.Common.{◌≡◌, ℕ, List, [], ◌∷◌, cond, sym, ap, subst, inl}
use Rattle.std.proofs.lemmas.Bool.{eq-eqb}
use Rattle.psac_ops.specs.declared.plain.Handle.{Handle}
use Rattle.psac_slots.specs.Handles.{Member}
use Rattle.psac_slots.proofs.Pairs.{map_member}
use Rattle.psac_values.specs.declared.view.ValueView.{ValueView}
use Rattle.psac_values.specs.Knowing.{Has, Knows, all_words, wrote, rewritten}
use Rattle.psac_fork.proofs.tests.passes.written_on_the_right.Goals as goal

told : (v w : ValueView) (m : Handle) (ws : List ℕ) → Has v m → w ≡ wrote m.slot ws v → Knows w m ws
told v w m ws has e =
    let x = rewritten m.slot ws has.0 in
    inl (x, subst (λ (u : ValueView). Member x u.mine) (sym e) (map_member (rewritten m.slot ws) has.0 v.mine has.1), has.2, ap (λ t. cond t (all_words ws) has.0.words) (eq-eqb has.0.of.slot m.slot (ap (λ (h : Handle). h.slot) has.2)))

pub write-requires-clause-mine : goal.write-requires-clause-mine
write-requires-clause-mine c = c.fork_sides-left.ensures.right_has c.args.m c.requires.mine c.requires.goes

pub read-requires-clause-known : goal.read-requires-clause-known
read-requires-clause-known c = (7 ∷ 8 ∷ 9 ∷ [], told _ _ c.args.m (7 ∷ 8 ∷ 9 ∷ []) (c.fork_sides-left.ensures.right_has c.args.m c.requires.mine c.requires.goes) c.write.ensures.wrote)
