use Rattle.std.proofs.Common.{◌≡◌, ℕ, List, [], ◌∷◌, map, true, false, cond, refl, sym, ap, subst, inr}
use Rattle.std.specs.Prelude.{filter}
use Rattle.std.proofs.lemmas.Bool.{eq-eqb}
use Rattle.psac_ops.specs.declared.plain.Handle.{Handle}
use Rattle.psac_slots.specs.Handles.{Member}
use Rattle.psac_slots.specs.Divided.{lends}
use Rattle.psac_slots.proofs.Pairs.{map_member, member_right, filter_member}
use Rattle.psac_values.specs.declared.view.ValueView.{ValueView}
use Rattle.psac_values.specs.Valued.{ways}
use Rattle.psac_values.specs.Steps.{right_of}
use Rattle.psac_values.specs.Knowing.{Has, Knows, all_words, wrote, rewritten}
use Rattle.psac_fork.proofs.tests.values.read_on_the_right.Goals as goal

told : (v w r : ValueView) (m : Handle) (ws : List ℕ) → Has v m → w ≡ wrote m.slot ws v → r ≡ right_of (λ s. true) (λ s. false) w → Knows r m ws
told v w r m ws has e f =
    let x = rewritten m.slot ws has.0 in
    let mem = subst (λ (u : ValueView). Member x u.mine) (sym e) (map_member (rewritten m.slot ws) has.0 v.mine has.1) in
    let b = w.claims.branch in
    let lent = filter (lends ways (λ s. true) (λ s. false)) w.mine in
    let y = ways.lend b x in
    let known = member_right y w.known (map (ways.lend b) lent) (map_member (ways.lend b) x lent (filter_member (lends ways (λ s. true) (λ s. false)) x w.mine mem refl)) in
    inr (y, subst (λ (u : ValueView). Member y u.known) (sym f) known, has.2, ap (λ t. cond t (all_words ws) has.0.words) (eq-eqb has.0.of.slot m.slot (ap (λ (h : Handle). h.slot) has.2)))

pub read-requires-clause-known : goal.read-requires-clause-known
read-requires-clause-known c = (7 ∷ 8 ∷ 9 ∷ [], told _ _ _ c.args.m (7 ∷ 8 ∷ 9 ∷ []) c.requires.mine c.write.ensures.wrote c.fork-left.ensures.right)
