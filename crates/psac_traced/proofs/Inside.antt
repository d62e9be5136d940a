-- Paths that are inside blocks.
use Rattle.std.proofs.Common.{◌≡◌, ℕ, suc, Bool, true, false, ◌==◌, ◌&&◌, ◌||◌, nat_lt, List, [], ◌∷◌, ◌++◌, length, refl, ap, sym, ◌∙◌, ◌⊎◌, inl, inr, arith}
use Rattle.std.proofs.lemmas.Bool.Decides.{nat_tests}
use Rattle.std.proofs.lemmas.List.Folds.{list_any-append}
use Rattle.psac_model.specs.Names.{Path, Name, Input, Out, Rows, Made}
use Rattle.psac_model.specs.Redo.{is_prefix, is_above, is_inside, made_inside}
use Rattle.psac_naming.proofs.Names.{nat_is, and_is}
use Rattle.psac_traced.specs.Redone.{from}
use Rattle.psac_traced.proofs.Turns.{above_same}

pub or_either : (b c : Bool) → (b || c) ≡ true → (b ≡ true) ⊎ (c ≡ true)
or_either true c h = inl refl
or_either false c h = inr h

pub or_left : (b c : Bool) → b ≡ true → (b || c) ≡ true
or_left true c h = refl
or_left false c h = absurd cc

pub or_right : (b c : Bool) → c ≡ true → (b || c) ≡ true
or_right true c h = refl
or_right false c h = h

shorter : (m n : ℕ) → nat_lt (suc m) (suc n) ≡ true → nat_lt m n ≡ true
shorter m n h = grind (arith, nat_tests)

-- a path that is inside blocks from a path on goes on from there
above_from : (p z q : Path) → is_above (p ++ z) q ≡ true → (o : Path) × (q ≡ p ++ o) × (is_above z o ≡ true)
above_from [] z q h = (q, refl, h)
above_from (x ∷ p) z [] h = absurd cc
above_from (x ∷ p) z (y ∷ q) h =
    let a = and_is ((x == y) && is_prefix (p ++ z) q) (nat_lt (suc (length (p ++ z))) (suc (length q))) h in
    let b = and_is (x == y) (is_prefix (p ++ z) q) a.0 in
    let c = above_from p z q (rw (b.1) (shorter (length (p ++ z)) (length q) a.1)) in
    (c.0, ap (λ n. n ∷ q) (sym (nat_is x y b.0)) ∙ ap (λ n. x ∷ n) c.1, c.2)

pub inside_from : (p : Path) (ws : List Path) (q : Path) → is_inside (from p ws) q ≡ true → (o : Path) × (q ≡ p ++ o) × (is_inside ws o ≡ true)
inside_from p [] q h = absurd cc
inside_from p (z ∷ ws) q h =
    elim (or_either (is_above (p ++ z) q) (is_inside (from p ws) q) h) [
      | inl e ↦ (let a = above_from p z q e in (a.0, a.1, or_left (is_above z a.0) (is_inside ws a.0) a.2))
      | inr e ↦ (let a = inside_from p ws q e in (a.0, a.1, or_right (is_above z a.0) (is_inside ws a.0) a.2))
    ]

above_beyond : (p z o : Path) → is_above (p ++ z) (p ++ o) ≡ is_above z o
above_beyond [] z o = refl
above_beyond (x ∷ p) z o = above_same x (p ++ z) (p ++ o) ∙ above_beyond p z o

pub inside_beyond : (p : Path) (ws : List Path) (o : Path) → is_inside (from p ws) (p ++ o) ≡ is_inside ws o
inside_beyond p [] o = refl
inside_beyond p (z ∷ ws) o = ap (λ b. b || is_inside (from p ws) (p ++ o)) (above_beyond p z o) ∙ ap (λ b. is_above z o || b) (inside_beyond p ws o)

-- a name that was made inside some blocks was so inside more
pub name_more : (zs ws : List Path) (n : Name) → made_inside zs n ≡ true → made_inside (zs ++ ws) n ≡ true
name_more zs ws (Made q) h = list_any-append (λ z. is_above z q) zs ws ∙ or_left (is_inside zs q) (is_inside ws q) h
name_more zs ws (Input r c) h = h
name_more zs ws (Out i) h = h
name_more zs ws Rows h = h

pub not_true : (b : Bool) → (b ≡ true → ⊥) → b ≡ false
not_true true h = absurd (h refl)
not_true false h = refl

-- a name that was made outside all blocks was so outside a part of them
pub name_out : (all zs : List Path) → ((q : Path) → is_inside zs q ≡ true → is_inside all q ≡ true) → (n : Name) → made_inside all n ≡ false → made_inside zs n ≡ false
name_out all zs part (Made q) h = not_true (is_inside zs q) (λ e. let i : is_inside all q ≡ true = part q e in absurd cc)
name_out all zs part (Input r c) h = refl
name_out all zs part (Out i) h = refl
name_out all zs part Rows h = refl
