use Rattle.psac_marks.proofs.Terms.{◌≡◌, ◌≢◌, ◌<◌, [], ◌∷◌, ◌++◌, sym, ap, subst, ◌∙◌, ⊎_elim, arith, append_assoc, ◌==◌, cases_eq, Member, slot_times, times, bit, found, MarksView, detached}
use Rattle.psac_marks.proofs.Parts.{times_push, bit_same, bit_other}
use Rattle.psac_marks.proofs.Counted.{times_both}
use Rattle.psac_marks.proofs.GivingAll.{held_below}
use Rattle.psac_marks.proofs.marks.Marks.drop_all.Goals as goal

pub drop_slot-requires-clause-next : goal.drop_slot-requires-clause-next
drop_slot-requires-clause-next c = λ h m. c.requires.next h (subst (λ (u : MarksView). Member h u.claims.held) c.loop-slot.invariant.1.1 m)

pub loop-slot-preserved : goal.loop-slot-preserved
loop-slot-preserved c =
    let i = c.loop-slot.invariant in
    let g = c.drop_slot.ensures in
    let n = c.loop-slot.slot in
    let old = c.args.pass.now.knows in
    let u = c.loop-slot.pass.knows in
    let xs = i.1.0 in
    let e : slot_times n u.claims.held ≡ slot_times n old.claims.held = ap (λ (w : MarksView). slot_times n w.claims.held) i.1.1 in
    ⊎_elim
    (λ (q : (slot_times n u.claims.held ≡ 0) × (c.drop_slot.new.pass.knows ≡ u)).
    let none = q.0 in (
      g.table ∙ i.0,
      (
        xs,
        q.1 ∙ i.1.1,
        i.1.2,
        λ x l p. ⊎_elim
            (λ (s : x ≡ n). let a = ap (λ k. slot_times k old.claims.held) s in absurd (omega (arith, none, e, a, p)))
            (λ (d : x ≢ n). i.1.3 x (omega (arith, l, d)) p)
            (cases_eq x n),
      ),
    ))
    (λ (q : (0 < slot_times n u.claims.held) × (c.drop_slot.new.pass.knows ≡ detached n u)).
    let some = q.0 in (
      g.table ∙ i.0,
      (
        xs ++ n ∷ [],
        q.1 ∙ (ap (detached n) i.1.1 ∙ (λ j. record old { dropped = append_assoc old.dropped xs (n ∷ []) j })),
        λ x p. ⊎_elim
            (λ (s : n ≡ x). let a = ap (λ k. slot_times k old.claims.held) s in omega (arith, some, e, a))
            (λ (d : n ≢ x). i.1.2 x (let a = times_push x xs n in let b = bit_other n x d in omega (arith, a, b, p)))
            (cases_eq n x),
        λ x l p. let a = times_push x xs n in let b = times_both x old.dropped xs in let b2 = times_both x old.dropped (xs ++ n ∷ []) in ⊎_elim
            (λ (s : n ≡ x). let o : bit (n == x) ≡ 1 = subst (λ k. bit (n == k) ≡ 1) s (bit_same n) in omega (arith, a, b2, o))
            (λ (d : n ≢ x). let o = i.1.3 x (omega (arith, l, d)) p in omega (arith, a, b, b2, o))
            (cases_eq n x),
      ),
    ))
    g.dropped

pub returns-clause-all : goal.returns-clause-all
returns-clause-all c = λ x p.
    let i = c.loop-slot.invariant in
    let is = ap (λ p. p.knows) c.pass.view_is in
    let f = found x c.args.pass.now.knows.claims.held p in
    let l = held_below _ _ _ _ c.pass.inside.seat.me.0 c.pass.invariant.1 f.0 (subst (λ (u : MarksView). Member f.0 u.claims.held) (sym is) f.1) in
    let a = c.loop-slot-test.false in
    subst (λ (u : MarksView). 0 < times x u.dropped) (sym i.1.1) (i.1.3 x (omega (arith, l, a, c.loop-slot.auto.slot-end, f.2)) p)
