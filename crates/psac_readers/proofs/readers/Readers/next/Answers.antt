use Rattle.psac_readers.proofs.Terms.{ℕ, List, ◌≡◌, ◌<◌, ◌≤◌, sym, ap, subst, ◌∙◌, arith, same_some, sum_by, ReadersView, Each, named, times, Fine, chain_of, set_of, next_live, behind, or_empty, has_word, from_word, Walks}
use Rattle.psac_readers.proofs.Acts.{loads}
use Rattle.psac_readers.proofs.Walking.{chain_named, named_low, all_whole, word_behind, behind_on, on_walk}
use Rattle.psac_readers.proofs.readers.Readers.next.Goals as goal

pub load-word-requires : goal.load-word-requires
load-word-requires c =
    let is = c.pass.view_is in
    let p = c.pass.invariant.1 in
    let t = ap (λ p. p.table) is ∙ (c.requires.table ∙ sym c.self.view_is) in
    let k = c.requires.walk in
    let own = subst (λ v. 0 < sum_by (named c.args.link.index) v.links) (sym (ap (λ p. p.knows) is)) (chain_named c.args.pass.now.knows (set_of c.args.link.index c.args.pass.now.knows.links) c.args.link.index k.0 k.1.2 k.2) in
    let low = named_low _ c.args.link.index c.pass.inside.seat.me.0.links p.fine own in
    (t, omega (arith, ap (λ z. z.words) t, p.words_is, low), loads _ _ _ _ c.pass.inside.seat.me.0 c.pass.inside.seat.me.1 p.live _)

pub live_from-requires : goal.live_from-requires
live_from-requires c =
    let is = c.pass.view_is in
    let iv = ap (λ p. p.knows) is in
    let p = c.pass.invariant.1 in
    let z = p.words_is in
    let li = p.links_is in
    let mi = p.mods_is in
    let l = c.args.link.index in
    let k = subst (λ v. (ls : List ℕ) × Walks v (set_of l v.links) ls × (0 < times l ls)) (sym iv) c.requires.walk in
    let ls = k.0 in
    let v = c.pass.inside.seat.me.0 in
    let own = chain_named v (set_of l v.links) l ls k.1.2 k.2 in
    let b = c.load-word.ensures in
    let same = b.2.same in
    let on = (all_whole _ l v.links p.fine).1 in
    let n = b.2.next l (set_of l v.links) ls k.1.0 (omega (arith, li, mi)) k.1.1 k.2 (omega (arith, on, own)) in
    let li2 = ap (λ m. m.0.claims.count) same in
    let mi2 = ap (λ m. m.0.mods) same in
    let u = c.load-word.new.seat.me.0 in
    let walks : Walks u (set_of l u.links) ls = subst (λ x. Walks x (set_of l x.links) ls) (ap (λ m. m.0) (sym same)) k.1 in
    let chain : or_empty (chain_of (set_of c.from.result u.links) u.walk) ≡ ls = ap (λ x. or_empty (chain_of (set_of x u.links) u.walk)) c.from.ensures ∙ ap or_empty walks.1 in (
      b.0 ∙ (ap (λ p. p.table) is ∙ (c.requires.table ∙ sym c.self.view_is)),
      (
        omega (arith, li, li2),
        (
          omega (arith, mi, mi2),
          (
            omega (arith, z, ap (λ z. z.words) b.0),
            (
              ap (λ m. m.0.claims.live) same ∙ p.live,
              (
                subst (λ (x : ReadersView). Each (Fine c.pass.inside.links) x.links) (ap (λ m. m.0) (sym same)) p.fine,
                (
                  (set_of l u.links, subst (Walks u (set_of l u.links)) (sym chain) walks),
                  subst (has_word c.load-word.result) (sym chain) (word_behind c.load-word.result l ls (λ x. (k.1.2 x).1) n).0,
                ),
              ),
            ),
          ),
        ),
      ),
    )

pub returns-clause-next : goal.returns-clause-next
returns-clause-next c = λ us at_us.
    let iv = ap (λ p. p.knows) c.pass.view_is in
    let p = c.pass.invariant.1 in
    let l = c.args.link.index in
    let k = subst (λ v. (ls : List ℕ) × Walks v (set_of l v.links) ls × (0 < times l ls)) (sym iv) c.requires.walk in
    let ls = k.0 in
    let v = c.pass.inside.seat.me.0 in
    let own = chain_named v (set_of l v.links) l ls k.1.2 k.2 in
    let b = c.load-word.ensures in
    let same = b.2.same in
    let on = (all_whole _ l v.links p.fine).1 in
    let n = b.2.next l (set_of l v.links) ls k.1.0 (omega (arith, p.links_is, p.mods_is)) k.1.1 k.2 (omega (arith, on, own)) in
    let u = c.load-word.new.seat.me.0 in
    let walks : Walks u (set_of l u.links) ls = subst (λ x. Walks x (set_of l x.links) ls) (ap (λ m. m.0) (sym same)) k.1 in
    let chain : or_empty (chain_of (set_of c.from.result u.links) u.walk) ≡ ls = ap (λ x. or_empty (chain_of (set_of x u.links) u.walk)) c.from.ensures ∙ ap or_empty walks.1 in
    let us_is : ls ≡ us = same_some ls us (sym k.1.1 ∙ (ap (λ x. chain_of (set_of l x.links) x.walk) iv ∙ at_us)) in
    c.live_from.ensures.found ∙ ((λ j. next_live (ap (λ m. m.0.links) same j) (from_word c.load-word.result (chain j))) ∙ ((λ j. next_live (iv j).links ((word_behind c.load-word.result l ls (λ x. (k.1.2 x).1) n).1 j)) ∙ ap (λ x. next_live c.args.pass.now.knows.links (behind l x)) us_is))

pub returns-clause-found : goal.returns-clause-found
returns-clause-found c =
    let iv = ap (λ p. p.knows) c.pass.view_is in
    let k = c.requires.walk in
    let l = c.args.link.index in
    let old = c.args.pass.now.knows in
    on_walk c.live_from.result old (set_of l old.links) k.0 (behind l k.0) k.1 (λ y q. behind_on y l k.0 q) (subst (λ v. (x : ℕ) → sum_by (named x) v.links ≤ 1) iv c.load-word.ensures.2.once) (returns-clause-next c k.0 k.1.1)
