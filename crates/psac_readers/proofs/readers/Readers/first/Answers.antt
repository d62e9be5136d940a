use Rattle.psac_readers.proofs.Terms.{ℕ, List, ◌≡◌, ◌≤◌, sym, ap, subst, ◌∙◌, arith, Some, sum_by, IfSome, ReadersView, Member, Each, mods_of, named, Fine, IsSet, chain_of, learned, next_live, Carries, Walks, OnWalk, or_empty, has_word, from_word}
use Rattle.psac_readers.proofs.Acts.{begins}
use Rattle.psac_readers.proofs.Carrying.{carries_learned}
use Rattle.psac_readers.proofs.Walking.{chain_learn, word_whole, on_walk}
use Rattle.psac_readers.proofs.readers.Readers.first.Goals as goal

pub load-word-requires : goal.load-word-requires
load-word-requires c =
    let is = c.pass.view_is in
    let p = c.pass.invariant.1 in
    let t = ap (λ p. p.table) is ∙ (c.requires.table ∙ sym c.self.view_is) in
    let li = p.links_is in
    let mi = p.mods_is in
    let im = ap (λ p. p.knows.mods) is in
    let ins = c.requires.inside in
    let has = subst (λ k. Member c.args.m.slot (mods_of k.walk)) (sym (ap (λ p. p.knows) is)) c.requires.walk in
    (t, omega (arith, ap (λ z. z.words) t, p.words_is, ins, im, mi), begins _ _ _ _ c.pass.inside.seat.me.0 c.pass.inside.seat.me.1 p.live c.args.m.slot _ (omega (arith, ins, im)) has (omega (arith, li)))

pub live_from-requires : goal.live_from-requires
live_from-requires c =
    let is = c.pass.view_is in
    let p = c.pass.invariant.1 in
    let li = p.links_is in
    let mi = p.mods_is in
    let z = p.words_is in
    let has = subst (λ k. Member c.args.m.slot (mods_of k.walk)) (sym (ap (λ p. p.knows) is)) c.requires.walk in
    let b = c.load-word.ensures in
    let q = b.2 c.args.m.slot (omega (arith, li)) has in
    let ls = q.0 in
    let li2 = ap (λ m. m.0.claims.count) q.1 in
    let mi2 = ap (λ m. m.0.mods) q.1 in
    let known : chain_of c.args.m.slot c.load-word.new.seat.me.0.walk ≡ Some ls = ap (λ m. chain_of c.args.m.slot m.0.walk) q.1 ∙ chain_learn c.args.m.slot ls c.pass.inside.seat.me.0.walk has in
    let chain : or_empty (chain_of c.from.result c.load-word.new.seat.me.0.walk) ≡ ls = ap (λ x. or_empty (chain_of x c.load-word.new.seat.me.0.walk)) c.from.ensures ∙ ap or_empty known in (
      b.0 ∙ (ap (λ p. p.table) is ∙ (c.requires.table ∙ sym c.self.view_is)),
      (
        omega (arith, li, li2),
        (
          omega (arith, mi, mi2),
          (
            omega (arith, z, ap (λ z. z.words) b.0),
            (
              ap (λ m. m.0.claims.live) q.1 ∙ p.live,
              (
                subst (λ (x : ReadersView). Each (Fine c.pass.inside.links) x.links) (ap (λ m. m.0) (sym q.1)) p.fine,
                (
                  (c.args.m.slot, (omega (arith, c.requires.inside, ap (λ p. p.knows.mods) is, mi2), known ∙ ap Some (sym chain), subst (λ (x : ReadersView × List ℕ). IsSet x.0 c.args.m.slot x.1) (λ j. (ap (λ m. m.0) (sym q.1) j, sym chain j)) q.3)),
                  subst (has_word c.load-word.result) (sym chain) (word_whole c.load-word.result ls q.2).0,
                ),
              ),
            ),
          ),
        ),
      ),
    )

pub invariant_of-pass : goal.invariant_of-pass
invariant_of-pass c =
    let p = c.pass.invariant.1 in
    let li = p.links_is in
    let has = subst (λ k. Member c.args.m.slot (mods_of k.walk)) (sym (ap (λ p. p.knows) c.pass.view_is)) c.requires.walk in
    let b = c.load-word.ensures in
    let q = b.2 c.args.m.slot (omega (arith, li)) has in
    let s = c.live_from.ensures.seat in
    let e = s.1 ∙ q.1 in
    (ap (λ m. m.1) e ∙ c.pass.invariant.0, subst (λ (x : ℕ × ReadersView). Carries c.pass.inside.links c.pass.inside.mods c.pass.inside.head c.pass.inside.room x.0 x.1) (λ j. (ap (λ z. z.words) (sym (s.0 ∙ b.0)) j, ap (λ m. m.0) (sym e) j)) (carries_learned _ _ _ _ _ c.pass.inside.seat.me.0 p c.args.m.slot q.0))

pub returns-clause-first : goal.returns-clause-first
returns-clause-first c =
    let iv = ap (λ p. p.knows) c.pass.view_is in
    let has = subst (λ k. Member c.args.m.slot (mods_of k.walk)) (sym iv) c.requires.walk in
    let q = c.load-word.ensures.2 c.args.m.slot (omega (arith, c.pass.invariant.1.links_is)) has in
    let ls = q.0 in
    let s = c.live_from.ensures in
    let known : chain_of c.args.m.slot c.load-word.new.seat.me.0.walk ≡ Some ls = ap (λ m. chain_of c.args.m.slot m.0.walk) q.1 ∙ chain_learn c.args.m.slot ls c.pass.inside.seat.me.0.walk has in
    let chain : or_empty (chain_of c.from.result c.load-word.new.seat.me.0.walk) ≡ ls = ap (λ x. or_empty (chain_of x c.load-word.new.seat.me.0.walk)) c.from.ensures ∙ ap or_empty known in (
      ls,
      ap (λ m. m.0) (s.seat.1 ∙ q.1) ∙ ap (learned c.args.m.slot ls) iv,
      subst (λ v. IsSet v c.args.m.slot ls) iv q.3,
      s.found ∙ ((λ j. next_live (ap (λ m. m.0.links) q.1 j) (from_word c.load-word.result (chain j))) ∙ (λ j. next_live (iv j).links ((word_whole c.load-word.result ls q.2).1 j))),
    )

pub returns-clause-once : goal.returns-clause-once
returns-clause-once c =
    let p = c.pass.invariant.1 in
    let li = p.links_is in
    let has = subst (λ k. Member c.args.m.slot (mods_of k.walk)) (sym (ap (λ p. p.knows) c.pass.view_is)) c.requires.walk in
    let q = c.load-word.ensures.2 c.args.m.slot (omega (arith, li)) has in
    subst (λ ks. (l : ℕ) → sum_by (named l) ks ≤ 1) (sym (ap (λ m. m.0.links) (c.live_from.ensures.seat.1 ∙ q.1))) q.4

pub returns-clause-found : goal.returns-clause-found
returns-clause-found c =
    let f = returns-clause-first c in
    let iv = ap (λ p. p.knows) c.pass.view_is in
    let has = subst (λ k. Member c.args.m.slot (mods_of k.walk)) (sym iv) c.requires.walk in
    let once = (c.load-word.ensures.2 c.args.m.slot (omega (arith, c.pass.invariant.1.links_is)) has).4 in
    let old = c.args.pass.now.knows in
    let new = learned c.args.m.slot f.0 old in
    let walks : Walks new c.args.m.slot f.0 = (c.requires.inside, chain_learn c.args.m.slot f.0 old.walk c.requires.walk, f.2) in
    subst (λ v. IfSome c.live_from.result (λ l. OnWalk v c.args.m.slot l.index)) (sym f.1) (on_walk c.live_from.result new c.args.m.slot f.0 f.0 walks (λ y q. q) (subst (λ v. (l : ℕ) → sum_by (named l) v.links ≤ 1) iv once) f.3)
