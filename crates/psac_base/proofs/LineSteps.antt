-- Steps of a search for the end of a line.
use Rattle.std.proofs.Common.{◌≡◌, ◌≤◌, ◌+◌, ℕ, List, ◌++◌, length, slice_index, Option, Some, None}
use Rattle.std.proofs.Common.{arith, append_assoc, length-append, inl, inr, ap, sym, ◌∙◌, Bool, true, false}
use Rattle.std.proofs.Math.ListN.{get_or-append}
use Rattle.std.specs.Io.KnownBytes.{Consumes}
use Rattle.psac_base.specs.Feeds.{NoFeed}
use Rattle.psac_base.specs.Lines.{EndsAtEnd, Grew, WasNeeded}

Consumes-append : (a b c : Option (List ℕ)) (xs ys : List ℕ) → Consumes a b xs → Consumes b c ys → Consumes a c (xs ++ ys)
Consumes-append None b c xs ys before after = tt
Consumes-append (Some a) None c xs ys before after = absurd before
Consumes-append (Some a) (Some b) None xs ys before after = absurd after
Consumes-append (Some a) (Some b) (Some c) xs ys before after = rw (append_assoc xs ys c, ← after) before

-- what two readings brought
pub Grew-then : (a b c : List ℕ) (left left' left'' : Option (List ℕ)) (n n' n'' : ℕ)
    → Grew a b left left' n n' → Grew b c left' left'' n' n'' → Grew a c left left'' n n''
Grew-then a b c left left' left'' n n' n'' before after = record {
  got = before.got ++ after.got;
  bytes = rw (after.bytes, before.bytes, append_assoc a before.got after.got);
  source = Consumes-append left left' left'' before.got after.got before.source after.source;
  count = omega (arith, before.count, after.count, length-append before.got after.got);
}

pub NoFeed-join : (bytes : List ℕ) (from middle to : ℕ) → NoFeed bytes from middle → NoFeed bytes middle to → NoFeed bytes from to
NoFeed-join bytes from middle to before after = λ k low high feed. grind (arith, before k, after k)

-- a piece that was read where no line ended was needed
pub WasNeeded-then : (first bytes now : List ℕ) (from : ℕ) (left left' : Option (List ℕ)) (n n' : ℕ)
    → length first ≤ length bytes → NoFeed bytes from (length bytes) → Grew bytes now left left' n n'
    → length now ≤ length bytes + 4096 → WasNeeded first now from
WasNeeded-then first bytes now from left left' n n' behind none grew piece = record {
  earlier = length bytes;
  behind = behind;
  piece = piece;
  none = λ k low high feed. none k low high
      (sym (get_or-append bytes grew.got 0 k high) ∙ ap (λ xs. slice_index xs k) (sym grew.bytes) ∙ feed);
}

-- the end is noted once
pub EndsAtEnd-then : (a b c : Bool) (left left' : Option (List ℕ)) → b ≡ false → EndsAtEnd a b left → EndsAtEnd b c left' → EndsAtEnd a c left'
EndsAtEnd-then a b c left left' going (inl same) (inl still) = inl (still ∙ same)
EndsAtEnd-then a b c left left' going (inr noted) (inl still) = absurd (let bad : false ≡ true = sym going ∙ noted.0 in cc bad)
EndsAtEnd-then a b c left left' going before (inr now) = inr now

-- where the end was noted at first it is noted now
pub over_twice : (before now : Bool) (left : Option (List ℕ)) → now ≡ false → before ≡ true → EndsAtEnd before now left → ⊥
over_twice before now left going over (inl same) = let bad : false ≡ true = sym going ∙ same ∙ over in cc bad
over_twice before now left going over (inr noted) = let bad : false ≡ true = sym going ∙ noted.0 in cc bad
