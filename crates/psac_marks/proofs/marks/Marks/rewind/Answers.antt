use Rattle.psac_marks.proofs.Terms.{ℕ, ◌≡◌, sym, ap, subst, ◌∙◌, arith, refl, ◌+◌, ◌-◌, IsSole, Accounted, turned, gone_is, rest_is, MarksView, rewound, Holds, IsClosed, Carries}
use Rattle.psac_marks.proofs.Acts.{loads}
use Rattle.psac_marks.proofs.Regaining.{rewinds}
use Rattle.psac_marks.proofs.Handed.{carries_rewound, holds_rewound}
use Rattle.psac_marks.proofs.marks.Marks.rewind.Goals as goal

pub load-counter-requires : goal.load-counter-requires
load-counter-requires c =
    let p = c.pass.invariant.1 in
    let t = ap (λ p. p.table) c.pass.view_is ∙ (c.requires.table ∙ sym c.self.view_is) in
    (t, omega (arith, ap (λ z. z.words) t, p.words_is), loads _ _ _ c.pass.inside.seat.me.0 c.pass.inside.seat.me.1 p.live _)

pub store-requires : goal.store-requires
store-requires c =
    let is = c.pass.view_is in
    let p = c.pass.invariant.1 in
    let t = ap (λ p. p.table) is ∙ (c.requires.table ∙ sym c.self.view_is) in
    let l = c.load-counter.ensures in
    let sole = subst (λ (v : MarksView). IsSole v.claims) (sym (ap (λ p. p.knows) is)) c.requires.sole in
    (l.0 ∙ t, omega (arith, ap (λ z. z.words) t, p.words_is), rewinds _ _ _ c.load-counter.new.seat.me.0 c.load-counter.new.seat.me.1 (sole.0, ap (λ m. m.0.claims.counter) l.2.same ∙ sole.1))

pub turned_back-pass-inside-requires : goal.turned_back-pass-inside-requires
turned_back-pass-inside-requires c =
    let p = c.pass.invariant.1 in
    let sole = subst (λ (v : MarksView). IsSole v.claims) (sym (ap (λ p. p.knows) c.pass.view_is)) c.requires.sole in
    let v = c.pass.inside.seat.me.0 in
    let g = gone_is v.claims _ _ _ sole.0 p.room_is sole.1 (c.load-counter.ensures.2.tells.counter sole.0 refl sole.1) c.taken-gone.ensures in
    omega (arith, (rest_is v.claims _ _ _ _ p.room_is p.room_fits p.head_fits g).2, c.from.ensures, c.from-2.ensures)

pub returns-clause-whole : goal.returns-clause-whole
returns-clause-whole c =
    let l = c.load-counter.ensures.2 in
    let e = ap (λ m. m.0) c.store.ensures.2 ∙ ap (λ m. rewound m.0) l.same in
    subst (λ (v : MarksView). Accounted v.claims) (sym e) (l.tells.whole (subst (λ (v : MarksView). IsSole v.claims) (sym (ap (λ p. p.knows) c.pass.view_is)) c.requires.sole))

pub returns-clause-holds : goal.returns-clause-holds
returns-clause-holds c =
    let l = c.load-counter.ensures.2 in
    let e = ap (λ m. m.0) c.store.ensures.2 ∙ ap (λ m. rewound m.0) l.same in
    let sole = subst (λ (v : MarksView). IsSole v.claims) (sym (ap (λ p. p.knows) c.pass.view_is)) c.requires.sole in
    subst Holds (sym e) (holds_rewound c.pass.inside.seat.me.0 (l.tells.holds sole.0 sole.1))

pub returns-clause-closed : goal.returns-clause-closed
returns-clause-closed c =
    let l = c.load-counter.ensures.2 in
    let k = l.tells.closed c.pass.invariant.1.climb in
    subst IsClosed (sym (ap (λ m. m.0) c.store.ensures.2 ∙ ap (λ m. rewound m.0) l.same)) record { upwards = k.upwards; busy = k.busy }

pub invariant_of-pass : goal.invariant_of-pass
invariant_of-pass c =
    let p = c.pass.invariant.1 in
    let l = c.load-counter.ensures in
    let s = c.store.ensures in
    let e = ap (λ m. rewound m.0) l.2.same in
    let sole = subst (λ (v : MarksView). IsSole v.claims) (sym (ap (λ p. p.knows) c.pass.view_is)) c.requires.sole in
    let v = c.pass.inside.seat.me.0 in
    let g = gone_is v.claims _ _ _ sole.0 p.room_is sole.1 (l.2.tells.counter sole.0 refl sole.1) c.taken-gone.ensures in
    let head : turned c.pass.inside.nodes (c.pass.inside.head + c.taken-gone.result) ≡ c.turned_back-pass-inside.result = (λ i. turned c.pass.inside.nodes (sym c.from.ensures i + sym c.from-2.ensures i)) ∙ sym c.turned_back-pass-inside.ensures in (
      ap (λ m. m.1) s.2 ∙ (ap (λ m. m.1) l.2.same ∙ c.pass.invariant.0),
      subst (λ (x : ℕ × ℕ × MarksView). Carries c.pass.inside.nodes x.0 (c.pass.inside.room - c.taken-gone.result) x.1 x.2) (λ i. (head i, ap (λ z. z.words) (sym (s.0 ∙ l.0)) i, sym (ap (λ m. m.0) s.2 ∙ e) i))
          (carries_rewound _ _ _ _ v p c.taken-gone.result g),
    )
