use Rattle.psac_values.proofs.Terms.{ℕ, ◌-◌, refl, ◌≡◌, ◌+◌, ◌%◌, ◌/◌, ◌<◌, Some, sym, ap, subst, ◌∙◌, arith, Member, IsDistinct, ValueView, Handle, Tells, gave, gave_slot, made_handle, Carries, IsOut, claimed_as}
use Rattle.psac_values.proofs.Acts.{loads}
use Rattle.psac_values.proofs.Giving.{was_out, was_free, gave_one}
use Rattle.psac_values.proofs.values.Values.give_slot.Goals as goal

pub load-word-requires : goal.load-word-requires
load-word-requires c =
    let is = c.pass.view_is in
    let p = c.pass.invariant.1 in
    let t = ap (λ p. p.table) is ∙ (c.requires.table ∙ sym c.self.view_is) in
    (t, omega (arith, ap (λ z. z.words) t, p.words_is, p.count_is, ap (λ p. p.knows.claims.count) is, c.requires.below), loads _ _ _ _ _ c.pass.inside.seat.me.0 c.pass.inside.seat.me.1 p.live)

-- what an odd state says of the slot
odd_out : (fixed count head room words : ℕ) (v : ValueView) (p : Carries fixed count head room words v) (s n i : ℕ) (old : ValueView) → v ≡ old → old.claims.counter ≡ Some 0 → s < old.claims.count → i ≡ count + s + 1 → Tells v i n → n % 2 ≡ 1
    → IsOut (record { slot = fixed + s; generation = n / 2 }) v
odd_out fixed count head room words v p s n i old e sole below is t odd =
    was_out fixed count head room words v p s 0 i n (ap (λ (u : ValueView). u.claims.counter) e ∙ sole) t (omega (arith, p.count_is, ap (λ (u : ValueView). u.claims.count) e, below)) (omega (arith, is)) odd

pub put_back-requires-clause-out : goal.put_back-requires-clause-out
put_back-requires-clause-out c =
    let is = ap (λ p. p.knows) c.pass.view_is in
    let o = odd_out _ _ _ _ _ _ c.pass.invariant.1 c.args.slot c.load-word.result _ _ is c.requires.begun c.requires.below refl c.load-word.ensures.2.tells c.if-word-eq1.true in
    subst (λ (u : ValueView). IsOut (record { slot = c.pass.inside.fixed + c.args.slot; generation = c.load-word.result / 2 }) u) (sym (ap (λ m. m.0) c.load-word.ensures.2.same)) o

pub overflow_cast-m : goal.overflow_cast-m
overflow_cast-m c =
    let is = ap (λ p. p.knows) c.pass.view_is in
    let o = odd_out _ _ _ _ _ _ c.pass.invariant.1 c.args.slot c.load-word.result _ _ is c.requires.begun c.requires.below refl c.load-word.ensures.2.tells c.if-word-eq1.true in
    omega (arith, c.requires.next o.0 (subst (λ (u : ValueView). Member o.0 u.claims.held) is o.1), ap (λ (x : Handle). x.generation) o.2)

pub put_back-requires-clause-next : goal.put_back-requires-clause-next
put_back-requires-clause-next c =
    let is = ap (λ p. p.knows) c.pass.view_is in
    let o = odd_out _ _ _ _ _ _ c.pass.invariant.1 c.args.slot c.load-word.result _ _ is c.requires.begun c.requires.below refl c.load-word.ensures.2.tells c.if-word-eq1.true in
    omega (arith, c.requires.next o.0 (subst (λ (u : ValueView). Member o.0 u.claims.held) is o.1), ap (λ (x : Handle). x.generation) o.2)

given : (s fixed f : ℕ) (h m : Handle) (u v w : ValueView) → u ≡ v → v ≡ w → IsDistinct v.claims.held → Member h v.claims.held → made_handle f h ≡ m → m.slot ≡ fixed + s → v.fixed ≡ fixed → f ≡ v.fixed → gave (claimed_as m u) u ≡ gave_slot s w
given s fixed f h m u v w e e2 d has is ms fx fv =
    let sl = ap (λ (x : Handle). x.slot) is in
    let slot : m.slot - v.fixed ≡ h.slot = omega (arith, sl, ms, fx, fv) in
    (λ j. gave (claimed_as m (e j)) (e j))
    ∙ ((λ j. gave (record { slot = slot j; generation = sym (ap (λ (x : Handle). x.generation) is) j }) v) ∙ (gave_one v h s d has (omega (arith, sl, ms, fx, fv)) ∙ ap (gave_slot s) e2))

pub returns-then-word-eq1-clause-gave : goal.returns-then-word-eq1-clause-gave
returns-then-word-eq1-clause-gave c =
    let is = ap (λ p. p.knows) c.pass.view_is in
    let o = odd_out _ _ _ _ _ _ c.pass.invariant.1 c.args.slot c.load-word.result _ _ is c.requires.begun c.requires.below refl c.load-word.ensures.2.tells c.if-word-eq1.true in
    let l = c.load-word.ensures.2 in
    c.put_back.ensures.gave ∙ given c.args.slot c.pass.inside.fixed c.pass.inside.seat.me.0.fixed o.0 _ _ c.pass.inside.seat.me.0 _ (ap (λ m. m.0) l.same) is l.tells.once o.1 o.2 refl c.pass.invariant.1.fixed_is refl

pub returns-then-word-eq1-clause-whole : goal.returns-then-word-eq1-clause-whole
returns-then-word-eq1-clause-whole c = c.put_back.ensures.whole

pub returns-else-word-eq1-clause-gave : goal.returns-else-word-eq1-clause-gave
returns-else-word-eq1-clause-gave c =
    let is = ap (λ p. p.knows) c.pass.view_is in
    let p = c.pass.invariant.1 in
    let l = c.load-word.ensures.2 in
    let low : c.args.slot < c.pass.inside.count = omega (arith, p.count_is, ap (λ (u : ValueView). u.claims.count) is, c.requires.below) in
    let free = was_free _ _ _ _ _ c.pass.inside.seat.me.0 p c.args.slot 0 _ c.load-word.result (ap (λ (u : ValueView). u.claims.counter) is ∙ c.requires.begun) l.tells low (omega arith) c.if-word-eq1.false in
    ap (λ m. m.0) l.same ∙ (sym free ∙ ap (gave_slot c.args.slot) is)
