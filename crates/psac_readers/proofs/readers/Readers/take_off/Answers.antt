use Rattle.psac_readers.proofs.Terms.{◌+◌, sym, ap, subst, ◌∙◌, arith, Accounted, ReadersView, Going}
use Rattle.psac_readers.proofs.Sweeping.{sets_out}
use Rattle.psac_readers.proofs.readers.Readers.take_off.Goals as goal

pub loop-word-init : goal.loop-word-init
loop-word-init c =
    let h = c.head_of-word.ensures.head in
    let w = c.args.pass.now.knows in
    let li = c.pass.invariant.1.links_is in
    let k = ap (λ (u : ReadersView). u.claims.count) (ap (λ p. p.knows) c.pass.view_is) in (
      c.head_of-word.ensures.table,
      ap (λ (u : ReadersView). u.claims.counter) h.1 ∙ c.requires.begun,
      subst (λ u. Going c.args.all w c.args.m u (c.pass.inside.links + c.args.m + 1) c.head_of-word.result) (sym h.1) (sets_out c.args.all w c.args.m (c.pass.inside.links + c.args.m + 1) c.head_of-word.result h.0 c.requires.inside c.requires.walk h.2 h.3 (omega (arith, li, k))),
      subst (λ (u : ReadersView). Accounted u.claims) (sym h.1) c.requires.whole,
    )

pub loop-word-smaller : goal.loop-word-smaller
loop-word-smaller c = c.turn-place.ensures.less c.args.pass.now.knows c.args.m c.loop-word.invariant.2
