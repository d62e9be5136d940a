use Rattle.psac_values.proofs.Terms.{◌≡◌, ℕ, ◌+◌, ◌*◌, ◌∷◌, ◌++◌, [], List, length, map, sym, subst, arith, ◌∙◌, ap, append_assoc, word_of, fresh, Rule, first_view, first_words, repeated, Carries}
use Rattle.psac_values.proofs.Opens.{opens, length_first, first_carries}
use Rattle.psac_values.proofs.values.Values.new.Goals as goal

filled : (fixed count n : ℕ) (ws vs : List ℕ) → n ≡ 3 * (fixed + count) → ws ≡ ((0 ∷ map word_of (fresh count)) ++ repeated 2 count) ++ repeated 0 n → vs ≡ ws → vs ≡ first_words fixed count
filled fixed count n ws vs is e f = f ∙ (e ∙ (ap (λ k. ((0 ∷ map word_of (fresh count)) ++ repeated 2 count) ++ repeated 0 k) is ∙ append_assoc (0 ∷ map word_of (fresh count)) (repeated 2 count) (repeated 0 (3 * (fixed + count)))))

pub of_words-requires : goal.of_words-requires
of_words-requires c =
    subst (λ ws. Rule c.args.fixed c.args.mods ws (first_view c.args.fixed c.args.mods ∷ [])) (sym (filled c.args.fixed c.args.mods c.values.counter _ _ (omega (arith, c.values-test.false, c.values.auto.counter-end, c.from-2.ensures, c.from-3.ensures)) c.values.invariant c.deref.ensures.value)) (0, 0, fresh c.args.mods, opens c.args.fixed c.args.mods c.requires)

pub invariant_of-result : goal.invariant_of-result
invariant_of-result c =
    let n = ap length (filled c.args.fixed c.args.mods c.values.counter _ _ (omega (arith, c.values-test.false, c.values.auto.counter-end, c.from-2.ensures, c.from-3.ensures)) c.values.invariant c.deref.ensures.value) ∙ length_first c.args.fixed c.args.mods c.requires in
    let o = c.in_ok-table.ensures in
    (ap (λ m. m.1) o.4, subst (Carries c.args.fixed c.args.mods 0 c.args.mods c.in_ok-table.seat.table_id.words) (sym (ap (λ m. m.0) o.4)) (first_carries c.args.fixed c.args.mods c.requires c.in_ok-table.seat.table_id.words (omega (arith, n, ap (λ z. z.words) o.2, o.0))))
