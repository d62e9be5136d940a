use Rattle.psac_marks.proofs.Terms.{ℕ, zero, suc, ◌<◌, ◌≡◌, true≢false, sym, ap, subst, ◌∙◌, arith, ◌==◌, not, IsTrue, ne_eqb, Handle, times, MarksView, IsClosed, Carries, Owns}
use Rattle.psac_marks.proofs.Acts.{asks}
use Rattle.psac_marks.proofs.Carrying.{own_low, carries_asked}
use Rattle.psac_marks.proofs.marks.Marks.is_marked.Goals as goal

pub load-mark-requires : goal.load-mark-requires
load-mark-requires c =
    let is = c.pass.view_is in
    let p = c.pass.invariant.1 in
    let v = c.pass.inside.seat.me.0 in
    let t = ap (λ p. p.table) is ∙ (c.requires.table ∙ sym c.self.view_is) in
    let own = own_low _ _ _ _ v p c.args.node _ (ap (λ p. p.knows) is) c.requires.own in
    (t, omega (arith, ap (λ z. z.words) t, p.words_is, own.1), asks _ _ _ v c.pass.inside.seat.me.1 p.live _)

pub invariant_of-pass : goal.invariant_of-pass
invariant_of-pass c =
    let s = c.load-mark.ensures in
    let e = s.2.counted in
    (ap (λ m. m.1) e ∙ c.pass.invariant.0, subst (λ (x : ℕ × MarksView). Carries c.pass.inside.nodes c.pass.inside.head c.pass.inside.room x.0 x.1) (λ j. (ap (λ z. z.words) (sym s.0) j, ap (λ m. m.0) (sym e) j)) (carries_asked _ _ _ _ c.pass.inside.seat.me.0 c.pass.invariant.1))

told : (n t : ℕ) → n ≡ t → (IsTrue (not (n == 0)) → 0 < t) × (0 < t → IsTrue (not (n == 0)))
told zero t e = (λ h. absurd (true≢false (sym h)), λ p. absurd (omega (arith, e, p)))
told (suc n) t e = (λ h. omega (arith, e), λ p. ap not (ne_eqb (suc n) 0 (λ q. absurd (omega (arith, q)))))

pub returns-clause-marked : goal.returns-clause-marked
returns-clause-marked c =
    let p = c.pass.invariant.1 in
    let n = p.nodes_is in
    let know = ap (λ p. p.knows) c.pass.view_is in
    let own = subst (λ k. Owns k c.args.node) (sym know) c.requires.own in
    let m = c.load-mark.ensures.2.tells c.args.node.slot (own.0, own.1, ap (λ (h : Handle). h.slot) own.2) (omega (arith, n)) in
    told c.load-mark.result (times c.args.node.slot c.args.pass.now.knows.marked) (m ∙ ap (λ (k : MarksView). times c.args.node.slot k.marked) know)

pub returns-clause-closed : goal.returns-clause-closed
returns-clause-closed c = subst IsClosed (ap (λ p. p.knows) c.pass.view_is) (c.load-mark.ensures.2.closed c.pass.invariant.1.climb)
