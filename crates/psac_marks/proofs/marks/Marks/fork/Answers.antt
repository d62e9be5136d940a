use Rattle.psac_marks.proofs.Terms.{ℕ, ◌≡◌, ◌<◌, length, sym, ap, subst, ◌∙◌, arith, not, Member, times, SharedView, MarksView, HasOwn, left_of, right_of, goes_over, Carries, Parted}
use Rattle.psac_marks.proofs.Acts.{loads}
use Rattle.psac_marks.proofs.Splitting.{splits_at, left_dropped, right_dropped, side_kept}
use Rattle.psac_marks.proofs.Handed.{carries_left, carries_right}
use Rattle.psac_marks.proofs.marks.Marks.fork.Given as given
use Rattle.psac_marks.proofs.marks.Marks.fork.Goals as goal

pub load-requires : goal.load-requires
load-requires g c =
    let p = c.pass.invariant.1 in
    let t = ap (λ p. p.table) c.pass.view_is ∙ (c.requires.table ∙ sym c.self.view_is) in
    (t, omega (arith, ap (λ z. z.words) t, p.words_is), loads _ _ _ c.pass.inside.seat.me.0 c.pass.inside.seat.me.1 p.live _)

pub split_seat-other-requires : goal.split_seat-other-requires
split_seat-other-requires g c =
    let is = c.pass.view_is in
    let p = c.pass.invariant.1 in
    let n = c.load.ensures in
    let t = ap (λ p. p.table) is ∙ (c.requires.table ∙ sym c.self.view_is) in
    let short = ap (λ p. length p.knows.claims.branch) is in
    let k : c.pass.inside.seat.me.0 ≡ _ = ap (λ p. p.knows) is in
    let m = ap (λ m. m.0) n.2.same in
    let short2 = ap (λ (v : MarksView). length v.claims.branch) m in (
      n.0 ∙ t,
      omega (arith, ap (λ z. z.words) t, p.words_is),
      λ s h at. splits_at g.D.MarksSplit.node_shared g.D.MarksSplit.node_right _ s.words s.views h _ c.load.new.seat.me.0 at (subst (Parted g.D.MarksSplit.node_shared g.D.MarksSplit.node_right) (sym (m ∙ k)) c.requires.parted)
          (ap (λ (v : MarksView). v.claims.live) m ∙ p.live) (ap (λ (v : MarksView). v.claims.over) m ∙ (ap (λ p. p.knows.claims.over) is ∙ c.requires.room)) (omega (arith, short, short2, c.requires.short)) (ap (λ (v : MarksView). v.climb) m ∙ p.climb),
    )

pub invariant_of-result : goal.invariant_of-result
invariant_of-result g c =
    let s = c.split_seat-other.ensures in
    let n = c.load.ensures in
    let e = ap (λ m. left_of g.D.MarksSplit.node_shared g.D.MarksSplit.node_right m.0) n.2.same in
    (ap (λ m. m.1) s.2 ∙ (ap (λ m. m.1) n.2.same ∙ c.pass.invariant.0), subst (λ (x : ℕ × MarksView). Carries c.pass.inside.nodes c.pass.inside.head c.pass.inside.room x.0 x.1) (λ j. (ap (λ z. z.words) (sym (s.0 ∙ n.0)) j, sym (ap (λ m. m.0) s.2 ∙ e) j)) (carries_left _ _ _ _ c.pass.inside.seat.me.0 c.pass.invariant.1 g.D.MarksSplit.node_shared g.D.MarksSplit.node_right))

pub invariant_of-result-2 : goal.invariant_of-result-2
invariant_of-result-2 g c =
    let s = c.split_seat-other.ensures in
    let n = c.load.ensures in
    let e = ap (λ m. right_of g.D.MarksSplit.node_shared g.D.MarksSplit.node_right m.0) n.2.same in
    (ap (λ m. m.1) s.4, subst (λ (x : ℕ × MarksView). Carries c.pass.inside.nodes c.pass.inside.head c.pass.inside.room x.0 x.1) (λ j. (ap (λ z. z.words) (sym (s.3 ∙ n.0)) j, sym (ap (λ m. m.0) s.4 ∙ e) j)) (carries_right _ _ _ _ c.pass.inside.seat.me.0 c.pass.invariant.1 g.D.MarksSplit.node_shared g.D.MarksSplit.node_right))

-- the division is one of what the pass had
parted : (g : given.Over) (c : goal.After-split_seat-other g) → Parted g.D.MarksSplit.node_shared g.D.MarksSplit.node_right c.pass.inside.seat.me.0
parted g c = subst (Parted g.D.MarksSplit.node_shared g.D.MarksSplit.node_right) (sym (ap (λ p. p.knows) c.pass.view_is)) c.requires.parted

pub returns-clause-left_dropped : goal.returns-clause-left_dropped
returns-clause-left_dropped g c =
    let n = c.load.ensures.2 in
    let u = c.pass.inside.seat.me.0 in
    let e = ap (λ m. m.0) c.split_seat-other.ensures.2 ∙ ap (λ m. left_of g.D.MarksSplit.node_shared g.D.MarksSplit.node_right m.0) n.same in
    subst (λ (v : MarksView). (x : ℕ) → 0 < times x v.dropped → HasOwn v.own x) (sym e) (left_dropped g.D.MarksSplit.node_shared g.D.MarksSplit.node_right u (parted g c) (λ x p. n.tells.dropped x p))

pub returns-clause-left_kept : goal.returns-clause-left_kept
returns-clause-left_kept g c =
    let n = c.load.ensures.2 in
    let u = c.pass.inside.seat.me.0 in
    let e = ap (λ m. m.0) c.split_seat-other.ensures.2 ∙ ap (λ m. left_of g.D.MarksSplit.node_shared g.D.MarksSplit.node_right m.0) n.same in
    subst (λ (v : MarksView). (x : SharedView) → Member x v.shared → times x.node.slot v.dropped ≡ 0) (sym e) (side_kept g.D.MarksSplit.node_shared g.D.MarksSplit.node_right u (parted g c) (λ x p. n.tells.kept x p) (λ x. not (goes_over g.D.MarksSplit.node_shared g.D.MarksSplit.node_right u x)))

pub returns-clause-right_dropped : goal.returns-clause-right_dropped
returns-clause-right_dropped g c =
    let n = c.load.ensures.2 in
    let u = c.pass.inside.seat.me.0 in
    let e = ap (λ m. m.0) c.split_seat-other.ensures.4 ∙ ap (λ m. right_of g.D.MarksSplit.node_shared g.D.MarksSplit.node_right m.0) n.same in
    subst (λ (v : MarksView). (x : ℕ) → 0 < times x v.dropped → HasOwn v.own x) (sym e) (right_dropped g.D.MarksSplit.node_shared g.D.MarksSplit.node_right u (parted g c) (λ x p. n.tells.dropped x p))

pub returns-clause-right_kept : goal.returns-clause-right_kept
returns-clause-right_kept g c =
    let n = c.load.ensures.2 in
    let u = c.pass.inside.seat.me.0 in
    let e = ap (λ m. m.0) c.split_seat-other.ensures.4 ∙ ap (λ m. right_of g.D.MarksSplit.node_shared g.D.MarksSplit.node_right m.0) n.same in
    subst (λ (v : MarksView). (x : SharedView) → Member x v.shared → times x.node.slot v.dropped ≡ 0) (sym e) (side_kept g.D.MarksSplit.node_shared g.D.MarksSplit.node_right u (parted g c) (λ x p. n.tells.kept x p) (goes_over g.D.MarksSplit.node_shared g.D.MarksSplit.node_right u))
