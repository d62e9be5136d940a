use Rattle.psac_marks.proofs.Terms.{◌≡◌, ℕ, ◌∷◌, [], List, length, sym, subst, arith, ◌∙◌, ap, Marked, first_view, first_words, Carries}
use Rattle.psac_marks.proofs.Opens.{opens, length_first, first_carries}
use Rattle.psac_marks.proofs.marks.Marks.new.Goals as goal

filled : (nodes n : ℕ) (ws vs : List ℕ) → n ≡ nodes → ws ≡ first_words nodes n → vs ≡ ws → vs ≡ first_words nodes nodes
filled nodes n ws vs is e f = f ∙ (e ∙ ap (first_words nodes) is)

pub of_words-requires : goal.of_words-requires
of_words-requires c =
    subst (λ ws. Marked c.args.nodes ws (first_view c.args.nodes ∷ [])) (sym (filled c.args.nodes c.blank.counter _ _ (omega (arith, c.blank-test.false, c.blank.auto.counter-end)) c.blank.invariant c.deref.ensures.value)) (opens c.args.nodes (omega (arith, c.ranges.nodes.fits)))

pub invariant_of-result : goal.invariant_of-result
invariant_of-result c =
    let r = c.ranges.nodes.fits in
    let n = ap length (filled c.args.nodes c.blank.counter _ _ (omega (arith, c.blank-test.false, c.blank.auto.counter-end)) c.blank.invariant c.deref.ensures.value) ∙ length_first c.args.nodes (omega (arith, r)) in
    let o = c.in_ok-table.ensures in
    (ap (λ m. m.1) o.4, subst (Carries c.args.nodes 0 c.args.nodes c.in_ok-table.seat.table_id.words) (sym (ap (λ m. m.0) o.4)) (first_carries c.args.nodes (omega (arith, r)) c.in_ok-table.seat.table_id.words (omega (arith, n, ap (λ z. z.words) o.2, o.0))))
