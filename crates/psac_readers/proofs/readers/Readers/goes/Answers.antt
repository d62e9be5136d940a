use Rattle.psac_readers.proofs.Terms.{◌<◌, sym, ap, subst, ◌∙◌, arith, sum_by, eqb-true, named, alive}
use Rattle.psac_readers.proofs.Acts.{loads}
use Rattle.psac_readers.proofs.Links.{on_then}
use Rattle.psac_readers.proofs.Walking.{named_low, all_whole}
use Rattle.psac_readers.proofs.readers.Readers.goes.Goals as goal

pub load-dead-requires : goal.load-dead-requires
load-dead-requires c =
    let is = c.pass.view_is in
    let p = c.pass.invariant.1 in
    let t = ap (λ p. p.table) is ∙ (c.requires.table ∙ sym c.self.view_is) in
    let own = subst (λ v. 0 < sum_by (named c.args.link) v.links) (sym (ap (λ p. p.knows) is)) c.requires.own in
    let low = named_low _ c.args.link c.pass.inside.seat.me.0.links p.fine own in
    (t, omega (arith, ap (λ z. z.words) t, p.words_is, low), loads _ _ _ _ c.pass.inside.seat.me.0 c.pass.inside.seat.me.1 p.live _)

pub returns-clause-stays : goal.returns-clause-stays
returns-clause-stays c = λ e.
    let iv = ap (λ p. p.knows) c.pass.view_is in
    let p = c.pass.invariant.1 in
    let l = c.args.link in
    let own = subst (λ u. 0 < sum_by (named l) u.links) (sym iv) c.requires.own in
    let d = c.load-dead.ensures.2.dead l (omega (arith, p.links_is, p.mods_is)) own in
    let a = (all_whole _ l c.pass.inside.seat.me.0.links p.fine).0 in
    (c.if-all.false, subst (λ u. 0 < sum_by (alive l) u.links) iv (omega (arith, a, d, eqb-true c.load-dead.result 0 (on_then _ e), own)))
