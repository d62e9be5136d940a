use Rattle.psac_readers.proofs.Terms.{ℕ, sym, ap, subst, ◌∙◌, arith, Member, ReadersView, mods_of, IsSet, learned, Carries}
use Rattle.psac_readers.proofs.Acts.{begins}
use Rattle.psac_readers.proofs.Carrying.{carries_learned}
use Rattle.psac_readers.proofs.readers.Readers.head_of.Goals as goal

pub load-requires : goal.load-requires
load-requires c =
    let is = c.pass.view_is in
    let p = c.pass.invariant.1 in
    let t = ap (λ p. p.table) is ∙ (c.requires.table ∙ sym c.self.view_is) in
    let li = p.links_is in
    let mi = p.mods_is in
    let im = ap (λ p. p.knows.mods) is in
    let ins = c.requires.inside in
    let has = subst (λ k. Member c.args.m (mods_of k.walk)) (sym (ap (λ p. p.knows) is)) c.requires.walk in
    (t, omega (arith, ap (λ z. z.words) t, p.words_is, ins, im, mi), begins _ _ _ _ c.pass.inside.seat.me.0 c.pass.inside.seat.me.1 p.live c.args.m _ (omega (arith, ins, im)) has (omega (arith, li)))

pub invariant_of-pass : goal.invariant_of-pass
invariant_of-pass c =
    let p = c.pass.invariant.1 in
    let li = p.links_is in
    let has = subst (λ k. Member c.args.m (mods_of k.walk)) (sym (ap (λ p. p.knows) c.pass.view_is)) c.requires.walk in
    let b = c.load.ensures in
    let q = b.2 c.args.m (omega (arith, li)) has in
    (ap (λ m. m.1) q.1 ∙ c.pass.invariant.0, subst (λ (x : ℕ × ReadersView). Carries c.pass.inside.links c.pass.inside.mods c.pass.inside.head c.pass.inside.room x.0 x.1) (λ j. (ap (λ z. z.words) (sym b.0) j, ap (λ m. m.0) (sym q.1) j)) (carries_learned _ _ _ _ _ c.pass.inside.seat.me.0 p c.args.m q.0))

pub returns-clause-head : goal.returns-clause-head
returns-clause-head c =
    let iv = ap (λ p. p.knows) c.pass.view_is in
    let li = c.pass.invariant.1.links_is in
    let q = c.load.ensures.2 c.args.m (omega (arith, li)) (subst (λ k. Member c.args.m (mods_of k.walk)) (sym iv) c.requires.walk) in
    (q.0, ap (λ m. m.0) q.1 ∙ ap (learned c.args.m q.0) iv, subst (λ v. IsSet v c.args.m q.0) iv q.3, q.2)
