use Rattle.psac_readers.proofs.Terms.{◌<◌, sym, ap, subst, ◌∙◌, arith, sum_by, named, Walks}
use Rattle.psac_readers.proofs.Acts.{loads}
use Rattle.psac_readers.proofs.Walking.{chain_named, named_low, all_whole}
use Rattle.psac_readers.proofs.readers.Readers.after.Goals as goal

pub load-requires : goal.load-requires
load-requires c =
    let is = c.pass.view_is in
    let p = c.pass.invariant.1 in
    let t = ap (λ p. p.table) is ∙ (c.requires.table ∙ sym c.self.view_is) in
    let k = c.requires.walk in
    let own = subst (λ v. 0 < sum_by (named c.args.link) v.links) (sym (ap (λ p. p.knows) is)) (chain_named c.args.pass.now.knows k.0 c.args.link k.1 k.2.2 k.3) in
    let low = named_low _ c.args.link c.pass.inside.seat.me.0.links p.fine own in
    (t, omega (arith, ap (λ z. z.words) t, p.words_is, low), loads _ _ _ _ c.pass.inside.seat.me.0 c.pass.inside.seat.me.1 p.live _)

pub returns-clause-next : goal.returns-clause-next
returns-clause-next c = λ m ls walks on.
    let iv = ap (λ p. p.knows) c.pass.view_is in
    let p = c.pass.invariant.1 in
    let li = p.links_is in
    let mi = p.mods_is in
    let v = c.pass.inside.seat.me.0 in
    let k : Walks v m ls = subst (λ u. Walks u m ls) (sym iv) walks in
    let s = (all_whole _ c.args.link v.links p.fine).1 in
    c.load.ensures.2.next c.args.link m ls k.0 (omega (arith, li, mi)) k.1 on (omega (arith, s, chain_named v m c.args.link ls k.2 on))
