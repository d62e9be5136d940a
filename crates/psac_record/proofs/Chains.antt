-- How a tree stands in a chain.
use Rattle.std.proofs.Common.{◌≡◌, ◌∙◌, ap, sym, refl, List, ◌∷◌, ◌++◌, reverse, length, suc, false, arith}
use Rattle.std.proofs.lemmas.Bool.{true≢false}
use Rattle.std.proofs.lemmas.Grind.{common_steps}
use Rattle.psac_record.specs.declared.record.Record.{Record}
use Rattle.psac_record.specs.Kept.{Kept, E, A, W, S, P, R, added, is_end}
use Rattle.psac_record.specs.Shown.{shown, leads, kept_of, chain_of}

-- the place of a tree leads to a chain
pub put_before : (tree placed chain : Record) (k again : Kept) (more : List Kept) → added k (chain_of chain) ≡ k ∷ chain_of chain → shown tree ≡ leads k more → shown placed ≡ leads again (chain_of chain) → again ≡ k → chain_of placed ≡ added (kept_of tree) (chain_of chain)
put_before tree placed chain k again more whole h p e =
    ap (λ s. s.1) p ∙ ap (λ x. x ∷ chain_of chain) e ∙ sym whole ∙ sym (ap (λ s. added s.0 (chain_of chain)) h)

-- what the place of a tree led to was taken out
pub same_tree : (chain placed : Record) (k again : Kept) (more less : List Kept) → shown chain ≡ leads k more → shown placed ≡ leads again less → again ≡ k → kept_of placed ≡ kept_of chain
same_tree chain placed k again more less h p e = ap (λ s. s.0) p ∙ e ∙ sym (ap (λ s. s.0) h)

pub taken_off : (chain placed next rest : Record) (k again : Kept) (less : List Kept) → added k (chain_of next) ≡ k ∷ chain_of next → shown chain ≡ leads k (chain_of next) → shown placed ≡ leads again less → again ≡ k → rest ≡ next → chain_of chain ≡ added (kept_of placed) (chain_of rest)
taken_off chain placed next rest k again less whole h p e r =
    ap (λ s. s.1) h ∙ sym whole ∙ sym (ap (λ x. added x (chain_of next)) (ap (λ s. s.0) p ∙ e)) ∙ sym (ap (λ x. added (kept_of placed) (chain_of x)) r)

pub reverse_added : (k : Kept) (xs ys : List Kept) → reverse (added k xs) ++ ys ≡ reverse xs ++ added k ys
reverse_added E xs ys = refl
reverse_added (A m rest) xs ys = grind (arith, common_steps)
reverse_added (W m v rest) xs ys = grind (arith, common_steps)
reverse_added (S node t rest) xs ys = grind (arith, common_steps)
reverse_added (P node l r) xs ys = grind (arith, common_steps)
reverse_added (R reading t) xs ys = grind (arith, common_steps)

pub added_longer : (k : Kept) (xs : List Kept) → is_end k ≡ false → length (added k xs) ≡ suc (length xs)
added_longer E xs h = absurd (true≢false h)
added_longer (A m rest) xs h = refl
added_longer (W m v rest) xs h = refl
added_longer (S node t rest) xs h = refl
added_longer (P node l r) xs h = refl
added_longer (R reading t) xs h = refl
