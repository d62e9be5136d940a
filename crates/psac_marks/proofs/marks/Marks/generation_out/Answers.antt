use Rattle.psac_marks.proofs.Terms.{◌≡◌, ◌/◌, sym, ap, subst, ◌∙◌, arith, Member, slot_times, MarksView, Owns}
use Rattle.psac_marks.proofs.Acts.{loads}
use Rattle.psac_marks.proofs.Going.{was_out, was_free}
use Rattle.psac_marks.proofs.marks.Marks.generation_out.Goals as goal

pub load-word-requires : goal.load-word-requires
load-word-requires c =
    let is = c.pass.view_is in
    let p = c.pass.invariant.1 in
    let t = ap (λ p. p.table) is ∙ (c.requires.table ∙ sym c.self.view_is) in
    let n = p.nodes_is in
    let k = ap (λ p. p.knows.claims.count) is in
    let b = c.requires.below in
    (t, omega (arith, ap (λ z. z.words) t, p.words_is, n, k, b), loads _ _ _ c.pass.inside.seat.me.0 c.pass.inside.seat.me.1 p.live _)

pub returns-then-word-eq0-clause-free : goal.returns-then-word-eq0-clause-free
returns-then-word-eq0-clause-free c = λ _.
    let is = ap (λ p. p.knows) c.pass.view_is in
    let p = c.pass.invariant.1 in
    let k = ap (λ (u : MarksView). u.claims.count) is in
    subst (λ (u : MarksView). slot_times c.args.slot u.claims.held ≡ 0) is
    (was_free _ _ _ _ c.pass.inside.seat.me.0 p c.args.slot _ c.load-word.result (ap (λ (u : MarksView). u.claims.counter) is ∙ c.requires.begun) c.load-word.ensures.2.tells (omega (arith, p.nodes_is, k, c.requires.below)) (omega arith) c.if-word-eq0.true)

pub returns-clause-out : goal.returns-clause-out
returns-clause-out c =
    let is = ap (λ p. p.knows) c.pass.view_is in
    let p = c.pass.invariant.1 in
    let k = ap (λ (u : MarksView). u.claims.count) is in
    subst (λ (u : MarksView). Member (record { slot = c.args.slot; generation = c.load-word.result / 2 }) u.claims.held × Owns u (record { slot = c.args.slot; generation = c.load-word.result / 2 })) is
    (was_out _ _ _ _ c.pass.inside.seat.me.0 p c.args.slot _ c.load-word.result (ap (λ (u : MarksView). u.claims.counter) is ∙ c.requires.begun) c.load-word.ensures.2.tells (omega (arith, p.nodes_is, k, c.requires.below)) (omega arith) c.if-word-eq0.false)

pub overflow_cast-result : goal.overflow_cast-result
overflow_cast-result c = let o = returns-clause-out c in let l = c.requires.next (record { slot = c.args.slot; generation = c.load-word.result / 2 }) o.0 in omega (arith, l)
