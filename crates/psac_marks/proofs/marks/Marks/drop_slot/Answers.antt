use Rattle.psac_marks.proofs.Terms.{◌≡◌, ℕ, Option, Some, None, true, true≢false, sym, ap, subst, ◌∙◌, inr, arith, is_some, IfSome, Handle, Member, member_times, MarksView, HasOwn, detached, Carries, Owns}
use Rattle.psac_marks.proofs.Acts.{detaches}
use Rattle.psac_marks.proofs.Carrying.{carries_detached}
use Rattle.psac_marks.proofs.marks.Marks.drop_slot.Goals as goal

some_of : (o : Option ℕ) (P : ℕ → Type 0) → is_some o ≡ true → IfSome o P → (g : ℕ) × P g
some_of None P e h = absurd (true≢false (sym e))
some_of (Some g) P e h = (g, h)

-- the slot's node is out, and the pass owns it
abbrev Here : ℕ → MarksView → Type 0
Here x v = (g : ℕ) × (Member (record { slot = x; generation = g }) v.claims.held × Owns v (record { slot = x; generation = g }))

owned : (x : ℕ) (v : MarksView) → Here x v → HasOwn v.own x
owned x v g = (g.1.1.0, g.1.1.1, ap (λ (h : Handle). h.slot) g.1.1.2)

pub load-requires : goal.load-requires
load-requires c =
    let is = c.pass.view_is ∙ c.generation_out.ensures.same in
    let p = c.pass.invariant.1 in
    let v = c.pass.inside.seat.me.0 in
    let t = ap (λ p. p.table) is ∙ (c.requires.table ∙ sym c.self.view_is) in
    let n = p.nodes_is in
    let k = ap (λ p. p.knows.claims.count) is in
    let o = subst (Here c.args.slot) (sym (ap (λ p. p.knows) is)) (some_of c.generation_out.result _ (sym c.is_some.ensures ∙ c.if-is_some.true) c.generation_out.ensures.out) in
    (t, omega (arith, ap (λ z. z.words) t, p.words_is, n, k, c.requires.below), detaches _ _ _ v c.pass.inside.seat.me.1 p.live c.args.slot _ (owned c.args.slot v o) (omega (arith, n)))

pub invariant_of-pass : goal.invariant_of-pass
invariant_of-pass c =
    let p = c.pass.invariant.1 in
    let s = c.load.ensures in
    let e = s.2 c.args.slot (omega (arith, p.nodes_is)) in
    (ap (λ m. m.1) e ∙ c.pass.invariant.0, subst (λ (x : ℕ × MarksView). Carries c.pass.inside.nodes c.pass.inside.head c.pass.inside.room x.0 x.1) (λ j. (ap (λ z. z.words) (sym s.0) j, ap (λ m. m.0) (sym e) j)) (carries_detached _ _ _ _ c.pass.inside.seat.me.0 p c.args.slot))

pub returns-then-is_some-clause-dropped : goal.returns-then-is_some-clause-dropped
returns-then-is_some-clause-dropped c =
    let is = ap (λ p. p.knows) (c.pass.view_is ∙ c.generation_out.ensures.same) in
    let n = c.pass.invariant.1.nodes_is in
    let o = some_of c.generation_out.result _ (sym c.is_some.ensures ∙ c.if-is_some.true) c.generation_out.ensures.out in
    let m = member_times (record { slot = c.args.slot; generation = o.0 }) c.args.pass.now.knows.claims.held o.1.0 in
    inr (omega (arith, m), ap (λ m. m.0) (c.load.ensures.2 c.args.slot (omega (arith, n))) ∙ ap (detached c.args.slot) is)
