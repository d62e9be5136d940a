use Rattle.psac_readers.proofs.Terms.{◌≡◌, ◌⊎◌, ℕ, suc, ◌-◌, ◌<◌, ◌∷◌, ◌++◌, length, true, sym, ap, subst, ◌∙◌, arith, sum_by, ReadersView, next_at, named, alive, deads, swept_one, Placing, Going}
use Rattle.psac_readers.proofs.Walking.{named_low}
use Rattle.psac_readers.proofs.Sweeping.{first_of, left_over, on_it, walks_it, names_it, leads_on, placed_it, stayed, stayed_rest, went, went_rest, shorter}
use Rattle.psac_readers.proofs.readers.Readers.turn.Goals as goal

pub overflow_cast-link : goal.overflow_cast-link
overflow_cast-link c =
    let q = c.requires.going in
    let f = first_of c.args.word q.2.rest q.2.word_is c.requires.more in
    let own = subst (λ (u : ReadersView). 0 < sum_by (named (c.args.word - 1)) u.links) (sym (ap (λ p. p.knows) c.pass.view_is)) (names_it _ _ _ _ _ _ q.2 f.0 f.1) in
    let p = c.pass.invariant.1 in
    omega (arith, named_low _ (c.args.word - 1) c.pass.inside.seat.me.0.links p.fine own, p.small)

pub after-next-requires-clause-walk : goal.after-next-requires-clause-walk
after-next-requires-clause-walk c =
    let q = c.requires.going in
    let f = first_of c.args.word q.2.rest q.2.word_is c.requires.more in
    (q.1, q.2.kept ++ (c.args.word - 1) ∷ f.0, walks_it _ _ _ _ _ _ q.2 f.0 f.1, on_it _ _ _ _ _ _ q.2 f.0 f.1)

pub goes-requires-clause-own : goal.goes-requires-clause-own
goes-requires-clause-own c =
    let q = c.requires.going in
    let f = first_of c.args.word q.2.rest q.2.word_is c.requires.more in
    subst (λ (u : ReadersView). 0 < sum_by (named (c.args.word - 1)) u.links) (sym (ap (λ p. p.knows) c.after-next.ensures.same)) (names_it _ _ _ _ _ _ q.2 f.0 f.1)

pub free_link-requires-clause-place : goal.free_link-requires-clause-place
free_link-requires-clause-place c =
    let q = c.requires.going in
    let f = first_of c.args.word q.2.rest q.2.word_is c.requires.more in
    let same = ap (λ p. p.knows) (c.goes.ensures.same ∙ c.after-next.ensures.same) in
    let n = leads_on _ _ _ _ _ _ q.2 f.0 f.1 c.after-next.result (c.after-next.ensures.next q.1 (q.2.kept ++ (c.args.word - 1) ∷ f.0) (walks_it _ _ _ _ _ _ q.2 f.0 f.1) (on_it _ _ _ _ _ _ q.2 f.0 f.1)) in
    subst (λ (u : ReadersView). Placing u c.args.before (c.args.word - 1) c.after-next.result) (sym same) (placed_it _ _ _ _ _ _ q.2 f.0 f.1 c.after-next.result n)

pub free_link-requires-clause-own : goal.free_link-requires-clause-own
free_link-requires-clause-own c =
    let q = c.requires.going in
    let f = first_of c.args.word q.2.rest q.2.word_is c.requires.more in
    let same = ap (λ p. p.knows) (c.goes.ensures.same ∙ c.after-next.ensures.same) in
    subst (λ (u : ReadersView). 0 < sum_by (named (c.args.word - 1)) u.links) (sym same) (names_it _ _ _ _ _ _ q.2 f.0 f.1)

-- a link that goes, and one less is left
gone : (c : goal.After-free_link) (v : ReadersView) (m : ℕ) (g : Going c.args.all v m c.args.pass.now.knows c.args.before c.args.word)
    → (k : Going c.args.all v m c.free_link.new.pass.knows c.args.before c.after-next.result) × (length g.rest ≡ suc (length k.rest))
gone c v m g =
    let f = first_of c.args.word g.rest g.word_is c.requires.more in
    let w = c.args.pass.now.knows in
    let before = c.args.before in
    let word = c.args.word in
    let n = leads_on c.args.all v w m before word g f.0 f.1 c.after-next.result (c.after-next.ensures.next m (g.kept ++ (word - 1) ∷ f.0) (walks_it c.args.all v w m before word g f.0 f.1) (on_it c.args.all v w m before word g f.0 f.1)) in
    let same = ap (λ p. p.knows) (c.goes.ensures.same ∙ c.after-next.ensures.same) in
    let why = subst (λ (u : ReadersView). (c.args.all ≡ true) ⊎ (0 < sum_by (deads (word - 1)) u.links)) (ap (λ p. p.knows) c.after-next.ensures.same) (c.goes.ensures.goes c.if-goes.true) in
    subst (λ u. (k : Going c.args.all v m u before c.after-next.result) × (length g.rest ≡ suc (length k.rest))) (sym (c.free_link.ensures.freed ∙ ap (swept_one (word - 1)) same))
    (went c.args.all v w m before word g f.0 f.1 c.after-next.result n why, shorter c.args.all v w m before word g f.0 f.1 ∙ ap (λ l. suc (length l)) (sym (went_rest c.args.all v w m before word g f.0 f.1 c.after-next.result n why)))

pub returns-then-goes-clause-going : goal.returns-then-goes-clause-going
returns-then-goes-clause-going c = λ v m g. (gone c v m g).0

pub returns-then-goes-clause-less : goal.returns-then-goes-clause-less
returns-then-goes-clause-less c = λ v m g.
    let k = gone c v m g in
    let s = k.1 in
    omega (arith, left_over c.args.all v c.free_link.new.pass.knows m c.args.before c.after-next.result k.0, left_over c.args.all v c.args.pass.now.knows m c.args.before c.args.word g, s)

-- and one that stays
stays : (c : goal.After-next_place) (v : ReadersView) (m : ℕ) (g : Going c.args.all v m c.args.pass.now.knows c.args.before c.args.word)
    → (k : Going c.args.all v m c.goes.new.pass.knows c.next_place.result c.after-next.result) × (length g.rest ≡ suc (length k.rest))
stays c v m g =
    let f = first_of c.args.word g.rest g.word_is c.requires.more in
    let w = c.args.pass.now.knows in
    let before = c.args.before in
    let word = c.args.word in
    let n = leads_on c.args.all v w m before word g f.0 f.1 c.after-next.result (c.after-next.ensures.next m (g.kept ++ (word - 1) ∷ f.0) (walks_it c.args.all v w m before word g f.0 f.1) (on_it c.args.all v w m before word g f.0 f.1)) in
    let st = c.goes.ensures.stays c.if-goes.false in
    let up = subst (λ (u : ReadersView). 0 < sum_by (alive (word - 1)) u.links) (ap (λ p. p.knows) c.after-next.ensures.same) st.1 in
    let iv = ap (λ p. p.knows) c.pass.view_is in
    let p = c.pass.invariant.1 in
    let at = c.next_place.ensures ∙ (λ j. next_at ((sym p.links_is ∙ ap (λ (u : ReadersView). u.claims.count) iv) j) ((sym p.mods_is ∙ ap (λ (u : ReadersView). u.mods) iv) j) (word - 1)) in
    subst (λ u. (k : Going c.args.all v m u c.next_place.result c.after-next.result) × (length g.rest ≡ suc (length k.rest))) (sym (ap (λ p. p.knows) (c.goes.ensures.same ∙ c.after-next.ensures.same)))
    (stayed c.args.all v w m before word g f.0 f.1 c.after-next.result c.next_place.result n at st.0 up, shorter c.args.all v w m before word g f.0 f.1 ∙ ap (λ l. suc (length l)) (sym (stayed_rest c.args.all v w m before word g f.0 f.1 c.after-next.result c.next_place.result n at st.0 up)))

pub returns-else-goes-clause-going : goal.returns-else-goes-clause-going
returns-else-goes-clause-going c = λ v m g. (stays c v m g).0

pub returns-else-goes-clause-less : goal.returns-else-goes-clause-less
returns-else-goes-clause-less c = λ v m g.
    let k = stays c v m g in
    let s = k.1 in
    omega (arith, left_over c.args.all v c.goes.new.pass.knows m c.next_place.result c.after-next.result k.0, left_over c.args.all v c.args.pass.now.knows m c.args.before c.args.word g, s)
