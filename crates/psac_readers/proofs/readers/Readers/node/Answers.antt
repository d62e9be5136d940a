use Rattle.psac_readers.proofs.Terms.{◌<◌, sym, ap, subst, ◌∙◌, arith, Some, div-add-mod', sum_by, named, node_in}
use Rattle.psac_readers.proofs.Acts.{loads}
use Rattle.psac_readers.proofs.Walking.{named_low, node_known}
use Rattle.psac_readers.proofs.readers.Readers.node.Goals as goal

pub load-word-requires : goal.load-word-requires
load-word-requires c =
    let is = c.pass.view_is in
    let p = c.pass.invariant.1 in
    let t = ap (λ p. p.table) is ∙ (c.requires.table ∙ sym c.self.view_is) in
    let own = subst (λ k. 0 < sum_by (named c.args.link.index) k.links) (sym (ap (λ p. p.knows) is)) c.requires.own in
    let low = named_low _ c.args.link.index c.pass.inside.seat.me.0.links p.fine own in
    (t, omega (arith, ap (λ z. z.words) t, p.words_is, low), loads _ _ _ _ c.pass.inside.seat.me.0 c.pass.inside.seat.me.1 p.live _)

pub returns-clause-node : goal.returns-clause-node
returns-clause-node c =
    let is = ap (λ p. p.knows) c.pass.view_is in
    let p = c.pass.invariant.1 in
    let own = subst (λ k. 0 < sum_by (named c.args.link.index) k.links) (sym is) c.requires.own in
    let k = node_known _ c.args.link.index c.pass.inside.seat.me.0.links p.fine own in
    let e = c.load-word.ensures.2.node c.args.link.index k.0 (omega (arith, p.links_is, p.mods_is)) k.1 in
    sym (ap (λ v. node_in c.args.link.index v.links) is) ∙ (k.1 ∙ ap Some (sym e ∙ sym (div-add-mod' c.load-word.result 4294967296)))
