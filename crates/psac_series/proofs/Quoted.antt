-- Where the lexer closes a TEXT, and what it takes it for.
use Rattle.std.proofs.Common.{◌≡◌, ℕ, suc, ◌+◌, ◌==◌, ◌||◌, Bool, true, false, if◌then◌else◌, nat_lt}
use Rattle.std.proofs.Common.{List, [], ◌∷◌, ◌++◌, length, take, Some, inl, inr, refl, ap, sym, ◌∙◌, subst, arith}
use Rattle.psac_tokens.specs.Lex.{closing, content}
use Rattle.psac_laws.proofs.Places.{nat_is, none_some, some_is, test_or}
use Rattle.psac_series.specs.Quoted.{IsPlain, Escapes, quote, backslash, line_feed, Closes, close, plain, escaped}

-- the backslash that stands before an escaped byte
abbrev behind : Bool → List ℕ → List ℕ
behind true z = 92 ∷ z
behind false z = z

-- bytes are closed behind so many of them, which end at a place
record Closed (is_escaped : Bool) (at n : ℕ) (z : List ℕ) : Type 0 where
  len : ℕ
  is : n ≡ at + len
  closes : Closes (behind is_escaped (take len z)) (content is_escaped z)

escapes : (b : ℕ) → (b == 34 || b == 92 || b == 110) ≡ true → Escapes b (if b == 110 then 10 else b)
escapes b h =
    elim (test_or (b == 34)) [
      | inl t ↦ subst (λ x. Escapes x (if x == 110 then 10 else x)) (sym (nat_is b 34 t)) quote
      | inr t ↦
          elim (test_or (b == 92)) [
            | inl u ↦ subst (λ x. Escapes x (if x == 110 then 10 else x)) (sym (nat_is b 92 u)) backslash
            | inr u ↦
                (let v : (b == 110) ≡ true = rw (t, u) at h in
                subst (λ x. Escapes x (if x == 110 then 10 else x)) (sym (nat_is b 110 v)) line_feed)
          ]
    ]

escape_closed : (at n b : ℕ) (z : List ℕ) → (b == 34) ≡ false → (b == 92) ≡ true → Closed true (at + 1) n z
    → Closed false at n (b ∷ z)
escape_closed at n b z t u r = record {
  len = suc r.len;
  is = omega (arith, r.is);
  closes = rw (t, u) (subst (λ x. Closes (x ∷ take r.len z) (content true z)) (sym (nat_is b 92 u)) r.closes);
}

plain_closed : (at n b : ℕ) (z : List ℕ) → IsPlain b → Closed false (at + 1) n z → Closed false at n (b ∷ z)
plain_closed at n b z p r = record {
  len = suc r.len;
  is = omega (arith, r.is);
  closes = rw (p.no_quote, p.no_backslash) (plain b (take r.len z) (content false z) p r.closes);
}

closed : (is_escaped : Bool) (at n : ℕ) (z : List ℕ) → closing is_escaped at z ≡ Some n → Closed is_escaped at n z
closed is_escaped at n [] h = absurd (none_some h)
closed true at n (b ∷ z) h =
    elim (test_or (b == 34 || b == 92 || b == 110)) [
      | inl t ↦
          (let r : Closed false (at + 1) n z = closed false (at + 1) n z (rw t at h) in
          record {
            len = suc r.len;
            is = omega (arith, r.is);
            closes = escaped b (if b == 110 then 10 else b) (take r.len z) (content false z) (escapes b t) r.closes;
          })
      | inr t ↦ absurd (none_some (rw t at h))
    ]
closed false at n (b ∷ z) h =
    elim (test_or (b == 34)) [
      | inl t ↦
          record {
            len = 1;
            is = sym (some_is (rw t at h));
            closes = rw t (subst (λ x. Closes (x ∷ []) []) (sym (nat_is b 34 t)) close);
          }
      | inr t ↦
          elim (test_or (b == 92)) [
            | inl u ↦
                escape_closed at n b z t u (closed true (at + 1) n z (rw (t, u) at h))
            | inr u ↦
                elim (test_or (nat_lt b 32 || b == 127)) [
                  | inl v ↦ absurd (none_some (rw (t, u, v) at h))
                  | inr v ↦
                      plain_closed at n b z (record { no_quote = t; no_backslash = u; no_control = v })
                      (closed false (at + 1) n z (rw (t, u, v) at h))
                ]
          ]
    ]

pub closes_at : (z : List ℕ) (n : ℕ) → closing false 0 z ≡ Some n → Closes (take n z) (content false z)
closes_at z n h =
    let r : Closed false 0 n z = closed false 0 n z h in
    let is : r.len ≡ n = omega (arith, r.is) in
    subst (λ k. Closes (take k z) (content false z)) is r.closes

ends_from : (at : ℕ) (spelled bytes rest : List ℕ) → Closes spelled bytes
    → closing false at (spelled ++ rest) ≡ Some (at + length spelled)
ends_from at _ _ rest close = refl
ends_from at _ _ rest (plain b spelled bytes p k) =
    rw (p.no_quote, p.no_backslash, p.no_control) (ends_from (at + 1) spelled bytes rest k ∙ ap Some (omega arith))
ends_from at _ _ rest (escaped _ _ spelled bytes quote k) =
    ends_from (at + 1 + 1) spelled bytes rest k ∙ ap Some (omega arith)
ends_from at _ _ rest (escaped _ _ spelled bytes backslash k) =
    ends_from (at + 1 + 1) spelled bytes rest k ∙ ap Some (omega arith)
ends_from at _ _ rest (escaped _ _ spelled bytes line_feed k) =
    ends_from (at + 1 + 1) spelled bytes rest k ∙ ap Some (omega arith)

pub ends : (spelled bytes rest : List ℕ) → Closes spelled bytes
    → closing false 0 (spelled ++ rest) ≡ Some (length spelled)
ends spelled bytes rest k = ends_from 0 spelled bytes rest k ∙ ap Some (omega arith)

pub stands_for : (spelled bytes rest : List ℕ) → Closes spelled bytes → content false (spelled ++ rest) ≡ bytes
stands_for _ _ rest close = refl
stands_for _ _ rest (plain b spelled bytes p k) =
    rw (p.no_quote, p.no_backslash) (ap (λ x. b ∷ x) (stands_for spelled bytes rest k))
stands_for _ _ rest (escaped _ _ spelled bytes quote k) = ap (λ x. 34 ∷ x) (stands_for spelled bytes rest k)
stands_for _ _ rest (escaped _ _ spelled bytes backslash k) = ap (λ x. 92 ∷ x) (stands_for spelled bytes rest k)
stands_for _ _ rest (escaped _ _ spelled bytes line_feed k) = ap (λ x. 10 ∷ x) (stands_for spelled bytes rest k)
