use Rattle.psac_readers.proofs.Terms.{◌≡◌, length, ℕ, List, ◌≢◌, ◌<◌, ◌≤◌, ◌-◌, sym, ap, subst, ◌∙◌, arith, from_word, next_live, sum_by, ReadersView, Each, Fine, Walks, has_word, named, deads, settled, chain_of}
use Rattle.psac_readers.proofs.Acts.{loads}
use Rattle.psac_readers.proofs.Walking.{Turn, turn, turn_live, turn_dead, turn_settled}
use Rattle.psac_readers.proofs.readers.live_from.Given as given
use Rattle.psac_readers.proofs.readers.live_from.Goals as goal

-- the turn at a word of the chain
turn_at : (links : ℕ) (v : ReadersView) (chain : List ℕ) (k : (m : ℕ) × Walks v m chain) (w : ℕ) → Each (Fine links) v.links → w ≢ 0 → has_word w chain → Turn links v w chain
turn_at links v chain k w fine d h = turn links v k.0 w chain k.1.2 fine d h

pub overflow_mul-own : goal.overflow_mul-own
overflow_mul-own g c =
    omega (arith, (turn_at c.args.links c.args.seat.now.me.0 g.chain c.requires.1.1.1.1.1.1.0 c.loop-word.word c.requires.1.1.1.1.1.0 c.loop-word-test.true c.loop-word.invariant.2).low, c.ranges.links.fits, c.ranges.mods.fits)

pub overflow_add-own : goal.overflow_add-own
overflow_add-own g c =
    omega (arith, (turn_at c.args.links c.args.seat.now.me.0 g.chain c.requires.1.1.1.1.1.1.0 c.loop-word.word c.requires.1.1.1.1.1.0 c.loop-word-test.true c.loop-word.invariant.2).low, c.ranges.links.fits, c.ranges.mods.fits)

pub overflow_add-own-in-loop-word : goal.overflow_add-own-in-loop-word
overflow_add-own-in-loop-word g c =
    omega (arith, (turn_at c.args.links c.args.seat.now.me.0 g.chain c.requires.1.1.1.1.1.1.0 c.loop-word.word c.requires.1.1.1.1.1.0 c.loop-word-test.true c.loop-word.invariant.2).low, c.ranges.links.fits, c.ranges.mods.fits)

pub overflow_add-own-in-loop-word-2 : goal.overflow_add-own-in-loop-word-2
overflow_add-own-in-loop-word-2 g c =
    omega (arith, (turn_at c.args.links c.args.seat.now.me.0 g.chain c.requires.1.1.1.1.1.1.0 c.loop-word.word c.requires.1.1.1.1.1.0 c.loop-word-test.true c.loop-word.invariant.2).low, c.ranges.links.fits, c.ranges.mods.fits)

pub overflow_add-own-in-loop-word-3 : goal.overflow_add-own-in-loop-word-3
overflow_add-own-in-loop-word-3 g c =
    omega (arith, (turn_at c.args.links c.args.seat.now.me.0 g.chain c.requires.1.1.1.1.1.1.0 c.loop-word.word c.requires.1.1.1.1.1.0 c.loop-word-test.true c.loop-word.invariant.2).low, c.ranges.links.fits, c.ranges.mods.fits)

pub load-dead-requires : goal.load-dead-requires
load-dead-requires g c =
    let i = c.loop-word.invariant in
    let t = turn_at c.args.links c.args.seat.now.me.0 g.chain c.requires.1.1.1.1.1.1.0 c.loop-word.word c.requires.1.1.1.1.1.0 c.loop-word-test.true c.loop-word.invariant.2 in
    let tab = c.requires.0 in
    (i.0 ∙ tab, omega (arith, t.low, c.requires.1.1.1.0, ap (λ z. z.words) tab), loads _ _ _ _ c.loop-word.seat.me.0 c.loop-word.seat.me.1 (ap (λ m. m.0.claims.live) i.1 ∙ c.requires.1.1.1.1.0) _)

pub overflow_cast-result : goal.overflow_cast-result
overflow_cast-result g c =
    omega (arith, (turn_at c.args.links c.args.seat.now.me.0 g.chain c.requires.1.1.1.1.1.1.0 c.loop-word.word c.requires.1.1.1.1.1.0 c.loop-word-test.true c.loop-word.invariant.2).low, c.ranges.links.fits)

pub returns-then-dead-eq0-clause-found : goal.returns-then-dead-eq0-clause-found
returns-then-dead-eq0-clause-found g c =
    let i = c.loop-word.invariant in
    let v = c.args.seat.now.me.0 in
    let k = c.requires.1.1.1.1.1.1.0 in
    let t = turn c.args.links v k.0 c.loop-word.word g.chain k.1.2 c.requires.1.1.1.1.1.0 c.loop-word-test.true i.2 in
    let e = i.1 in
    let li1 = ap (λ m. m.0.claims.count) e in
    let mi1 = ap (λ m. m.0.mods) e in
    let told = c.load-dead.ensures.2.dead (c.loop-word.word - 1) (omega (arith, c.requires.1.0, c.requires.1.1.0, li1, mi1)) (subst (λ m. 0 < sum_by (named (c.loop-word.word - 1)) m.0.links) (sym e) t.own) ∙ ap (λ m. sum_by (deads (c.loop-word.word - 1)) m.0.links) e in
    sym ((turn_live c.args.links v c.loop-word.word c.load-dead.result g.chain t c.requires.1.1.1.1.1.0 told c.if-dead-eq0.true)) ∙ i.3

pub load-word-requires : goal.load-word-requires
load-word-requires g c =
    let i = c.loop-word.invariant in
    let t = turn_at c.args.links c.args.seat.now.me.0 g.chain c.requires.1.1.1.1.1.1.0 c.loop-word.word c.requires.1.1.1.1.1.0 c.loop-word-test.true c.loop-word.invariant.2 in
    let tab = c.requires.0 in
    let d = c.load-dead.ensures in
    (d.0 ∙ (i.0 ∙ tab), omega (arith, t.low, c.requires.1.1.1.0, ap (λ z. z.words) tab), loads _ _ _ _ c.load-dead.new.seat.me.0 c.load-dead.new.seat.me.1 (ap (λ m. m.0.claims.live) (d.2.same ∙ i.1) ∙ c.requires.1.1.1.1.0) _)

-- a turn at a dead link goes on with what comes behind it
goes_on : (g : given.Over) (c : goal.After-load-word g) → has_word c.load-word.result g.chain × (next_live c.args.seat.now.me.0.links (from_word c.load-word.result g.chain) ≡ next_live c.args.seat.now.me.0.links (from_word c.loop-word.word g.chain))
    × (length (from_word c.load-word.result g.chain) < length (from_word c.loop-word.word g.chain))
goes_on g c =
    let i = c.loop-word.invariant in
    let v = c.args.seat.now.me.0 in
    let k = c.requires.1.1.1.1.1.1.0 in
    let t = turn c.args.links v k.0 c.loop-word.word g.chain k.1.2 c.requires.1.1.1.1.1.0 c.loop-word-test.true i.2 in
    let li = c.requires.1.0 in
    let mi = c.requires.1.1.0 in
    let fine = c.requires.1.1.1.1.1.0 in
    let d = c.load-dead.ensures in
    let e = i.1 in
    let li1 = ap (λ m. m.0.claims.count) e in
    let mi1 = ap (λ m. m.0.mods) e in
    let told = d.2.dead (c.loop-word.word - 1) (omega (arith, li, mi, li1, mi1)) (subst (λ m. 0 < sum_by (named (c.loop-word.word - 1)) m.0.links) (sym e) t.own) ∙ ap (λ m. sum_by (deads (c.loop-word.word - 1)) m.0.links) e in
    let e2 = d.2.same ∙ e in
    let li2 = ap (λ m. m.0.claims.count) e2 in
    let mi2 = ap (λ m. m.0.mods) e2 in
    let front_is = c.load-word.ensures.2.next (c.loop-word.word - 1) k.0 g.chain (let a = k.1.0 in omega (arith, a, mi2)) (omega (arith, li, mi, li2, mi2)) (ap (λ m. chain_of k.0 m.0.walk) e2 ∙ k.1.1) t.on (subst (λ m. 0 < sum_by (settled (c.loop-word.word - 1)) m.0.links) (sym e2) (turn_settled c.args.links v c.loop-word.word g.chain t fine)) in
    let once = subst (λ m. sum_by (named (c.loop-word.word - 1)) m.0.links ≤ 1) e (d.2.once (c.loop-word.word - 1)) in
    turn_dead c.args.links v k.0 c.loop-word.word c.load-dead.result g.chain k.1.2 t fine once told c.if-dead-eq0.false c.load-word.result front_is

pub loop-word-smaller : goal.loop-word-smaller
loop-word-smaller g c = (goes_on g c).2

pub loop-word-preserved : goal.loop-word-preserved
loop-word-preserved g c =
    let i = c.loop-word.invariant in
    let d = c.load-dead.ensures in
    let n = c.load-word.ensures in
    let r = goes_on g c in
    (n.0 ∙ (d.0 ∙ i.0), n.2.same ∙ (d.2.same ∙ i.1), r.0, r.1 ∙ i.3)
