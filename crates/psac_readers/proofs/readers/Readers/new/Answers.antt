use Rattle.psac_readers.proofs.Terms.{◌≡◌, ℕ, ◌+◌, ◌*◌, ◌∷◌, [], List, length, sym, subst, arith, ◌∙◌, ap, Readable, first_view, first_words, Carries}
use Rattle.psac_readers.proofs.Opens.{opens, length_words, first_carries}
use Rattle.psac_readers.proofs.readers.Readers.new.Goals as goal

filled : (links n k : ℕ) (ws vs : List ℕ) → n ≡ k → ws ≡ first_words links n → vs ≡ ws → vs ≡ first_words links k
filled links n k ws vs is e f = f ∙ (e ∙ ap (λ i. first_words links i) is)

pub of_words-requires : goal.of_words-requires
of_words-requires c =
    subst (λ ws. Readable c.args.links c.args.mods ws (first_view c.args.links c.args.mods ∷ [])) (sym (filled c.args.links c.loop.counter (c.args.mods + 3 * c.args.links) _ _ (omega (arith, c.loop-test.false, c.loop.auto.counter-end, c.from-2.ensures, c.from-3.ensures)) c.loop.invariant c.deref.ensures.value)) (opens c.args.links c.args.mods (omega (arith, c.ranges.links.fits)))

pub invariant_of-result : goal.invariant_of-result
invariant_of-result c =
    let n = ap length (filled c.args.links c.loop.counter (c.args.mods + 3 * c.args.links) _ _ (omega (arith, c.loop-test.false, c.loop.auto.counter-end, c.from-2.ensures, c.from-3.ensures)) c.loop.invariant c.deref.ensures.value) ∙ length_words c.args.links (c.args.mods + 3 * c.args.links) in
    let o = c.in_ok-table.ensures in
    (ap (λ m. m.1) o.4, subst (Carries c.args.links c.args.mods 0 c.args.links c.in_ok-table.seat.table_id.words) (sym (ap (λ m. m.0) o.4)) (first_carries c.args.links c.args.mods c.in_ok-table.seat.table_id.words (omega (arith, n, ap (λ z. z.words) o.2, o.0)) (let r = c.ranges.links.fits in omega (arith, r))))
