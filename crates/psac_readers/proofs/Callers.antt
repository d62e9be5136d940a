-- What a caller needs of forks and joins.
use Rattle.psac_readers.proofs.Terms.{◌≡◌, ℕ, List, [], ◌∷◌, ◌++◌, map, length, Bool, true, false, refl, ap, ◌∙◌, subst, inr, arith, filter, not, le-ltb, stem, stem_push, WalkView, SharedView, ReadersView, Member, comes_back as returns, mods_of, ways, Has, left_of, right_of, joined, unknown, member_right, map_member, filter_member}
use Rattle.psac_readers.proofs.Sides.{in_told}

module _ (f g : ℕ → Bool) (v : ReadersView) (m : ℕ) (mine : Member m (mods_of v.walk)) where
  pub left_has : Has m (left_of (λ _. true) f g v)
  left_has = inr (in_told (λ _. true) f g v m mine refl)

  pub right_has : Has m (right_of (λ _. true) f g v)
  right_has = inr (in_told (λ _. true) f g v m mine refl)

-- what is shared from the branch on comes back at the join
pub comes_back : (v w : ReadersView) (m : ℕ) (b : List Bool) (e : SharedView) → Member e v.shared → e.of ≡ m → e.label ≡ b → v.claims.branch ≡ b ++ false ∷ [] → Member m (mods_of (joined v w).walk)
comes_back v w m b e had is label lb =
    let s : stem v.claims.branch ≡ b = ap stem lb ∙ stem_push b false in
    let on : returns ways (stem v.claims.branch) e ≡ true = ap not (le-ltb (length e.label) (length (stem v.claims.branch)) (let x = ap length label in let y = ap length s in omega (arith, x, y))) in
    subst (λ x. Member x (mods_of (joined v w).walk)) is
    (map_member (λ (x : WalkView). x.of) (unknown e) (joined v w).walk
    (member_right (unknown e) (v.walk ++ w.walk) (map unknown (filter (returns ways (stem v.claims.branch)) v.shared)) (map_member unknown e (filter (returns ways (stem v.claims.branch)) v.shared) (filter_member (returns ways (stem v.claims.branch)) e v.shared had on))))
