-- What the lexer skips are blanks and comments.
use Rattle.std.proofs.Common.{◌≡◌, ℕ, zero, suc, ◌≤◌, ◌==◌, true, false, not, if◌then◌else◌, List, [], ◌∷◌}
use Rattle.std.proofs.Common.{◌++◌, length, length-append, ◌⊎◌, inl, inr, refl, ap, sym, ◌∙◌, subst, arith}
use Rattle.psac_model.specs.Series.{has}
use Rattle.psac_tokens.specs.declared.place.Place.{Place}
use Rattle.psac_tokens.specs.Lex.{after, is_blank, skip}
use Rattle.psac_laws.proofs.Places.{nat_is, test_or}
use Rattle.psac_series.specs.Blanks.{Leaves, none, blank, comment, last_comment}

-- a comment that ends
record Ended (z : List ℕ) (p : Place) : Type 0 where
  text : List ℕ
  more : List ℕ
  from : Place
  is : z ≡ text ++ 10 ∷ more
  free : has 10 text ≡ false
  goes : skip true z p ≡ skip false more from

in_comment : (z : List ℕ) (p : Place) → ((has 10 z ≡ false) × ((skip true z p).0 ≡ [])) ⊎ Ended z p
in_comment [] p = inl (refl, refl)
in_comment (b ∷ z) p =
    elim (test_or (b == 10)) [
      | inl t ↦
          inr (record {
            text = [];
            more = z;
            from = after b p;
            is = ap (λ x. x ∷ z) (nat_is b 10 t);
            free = refl;
            goes = ap (λ x. skip (not x) z (after b p)) t;
          })
      | inr t ↦
          elim (in_comment z (after b p)) [
            | inl q ↦ inl (rw (t, q.0) refl, ap (λ x. (skip (not x) z (after b p)).0) t ∙ q.1)
            | inr q ↦
                inr (record {
                  text = b ∷ q.text;
                  more = q.more;
                  from = q.from;
                  is = ap (λ x. b ∷ x) q.is;
                  free = rw (t, q.free) refl;
                  goes = ap (λ x. skip (not x) z (after b p)) t ∙ q.goes;
                })
          ]
    ]

skipped_within : (n : ℕ) (z : List ℕ) (p : Place) → length z ≤ n → Leaves z (skip false z p).0
skipped_within n [] p h = none [] tt
skipped_within zero (b ∷ z) p h = absurd (omega arith)
skipped_within (suc n) (b ∷ z) p h =
    let later : Place = after b p in
    let other : List ℕ × Place = if is_blank b then skip false z later else (b ∷ z, p) in
    elim (test_or (b == 35)) [
      | inl t ↦
          (let is : (if b == 35 then skip true z later else other).0 ≡ (skip true z later).0 = ap
          (λ x. (if x then skip true z later else other).0) t in
          let hash : 35 ≡ b = sym (nat_is b 35 t) in
          subst (λ r. Leaves (b ∷ z) r) (sym is) (subst (λ x. Leaves (x ∷ z) (skip true z later).0) hash
          (elim (in_comment z later) [
            | inl q ↦ subst (λ r. Leaves (35 ∷ z) r) (sym q.1) (last_comment z q.0)
            | inr q ↦
                (let short : length q.more ≤ n = omega (arith, h, ap length q.is, length-append q.text (10 ∷ q.more)) in
                let rest : List ℕ = (skip false q.more q.from).0 in
                subst (λ r. Leaves (35 ∷ z) r) (sym (ap (λ (x : List ℕ × Place). x.0) q.goes))
                (subst (λ x. Leaves (35 ∷ x) rest) (sym q.is)
                (comment q.text q.more rest q.free (blank 10 q.more rest refl (skipped_within n q.more q.from short)))))
          ])))
      | inr t ↦
          (let is : (if b == 35 then skip true z later else other).0 ≡ other.0 = ap
          (λ x. (if x then skip true z later else other).0) t in
          subst (λ r. Leaves (b ∷ z) r) (sym is) (elim (test_or (is_blank b)) [
            | inl u ↦ subst (λ r. Leaves (b ∷ z) r)
                (sym (ap (λ x. (if x then skip false z later else (b ∷ z, p)).0) u))
                (blank b z _ u (skipped_within n z later (omega arith)))
            | inr u ↦ subst (λ r. Leaves (b ∷ z) r)
                (sym (ap (λ x. (if x then skip false z later else (b ∷ z, p)).0) u)) (none (b ∷ z) (u, t))
          ]))
    ]

pub skipped : (z : List ℕ) (p : Place) → Leaves z (skip false z p).0
skipped z p = skipped_within (length z) z p (omega arith)
