-- The first words and the first view meet the rule.
use Rattle.psac_readers.proofs.Terms.{◌≡◌, ℕ, zero, suc, ◌+◌, ◌*◌, ◌<◌, ◌≤◌, [], ◌∷◌, ◌++◌, map, length, true, false, true≢false, refl, sym, ap, ◌∙◌, subst, ⊎_elim, arith, Some, length-append, at_past, ring_length, same_some, cases_lt, some, get_elem?, at_longer, at_last, length-fresh, Own, Each, Seen, Tells, Readable, rights_of, ways, dead_at, first_walk, first_view, zeros, first_words, Carries}
use Rattle.psac_slots.specs.Handles as handles
use Rattle.psac_slots.proofs.Opens as laws
use Rattle.psac_readers.proofs.Links.{each_append}

pub length-zeros : (n : ℕ) → length (zeros n) ≡ n
length-zeros zero = refl
length-zeros (suc n) = omega (arith, length-append (zeros n) (0 ∷ []), length-zeros n)

at_zero : (n k : ℕ) → k < n → get_elem? (zeros n) k ≡ some 0
at_zero zero k l = absurd (omega arith)
at_zero (suc n) k l = ⊎_elim
    (λ (a : k < n). at_longer (zeros n) (0 ∷ []) k 0 (at_zero n k a))
    (λ (b : n ≤ k). let e : n ≡ k = omega (arith, l, b) in subst (λ i. get_elem? (zeros n ++ 0 ∷ []) i ≡ some 0) e (at_last (zeros n) 0 n (length-zeros n)))
    (cases_lt k n)

pub length_words : (links n : ℕ) → length (first_words links n) ≡ suc (links + n)
length_words links n = let a = length-append (map handles.word_of (handles.fresh links)) (zeros n) in let b = ring_length links in let d = length-zeros n in omega (arith, a, b, d)

zero_word : (links n k : ℕ) → k < n → get_elem? (first_words links n) (suc (links + k)) ≡ some 0
zero_word links n k l = ap (λ i. get_elem? (map handles.word_of (handles.fresh links) ++ zeros n) (i + k)) (sym (ring_length links)) ∙ (at_past (map handles.word_of (handles.fresh links)) (zeros n) k ∙ at_zero n k l)

pub opens : (links mods : ℕ) → links < 4294967296 → Readable links mods (first_words links (mods + 3 * links)) (first_view links mods ∷ [])
opens links mods fits =
    let n = mods + 3 * links in
    let v = first_view links mods in
    record {
      counter = 0;
      head = 0;
      list = handles.fresh links;
      claims = laws.opens links (zeros n) fits;
      rights = record {
        own = λ i r e. subst (Own ways) (laws.only (rights_of v) i r e).1 record { labels = λ e h. absurd h; single = λ w x mw mx is. is; one = λ e f h g is. absurd h; apart = λ m h e g is. absurd g; awake = λ e h. absurd h; rises = λ _ _. refl };
        beside = λ i j r s ei ej d. absurd (d ((laws.only (rights_of v) i r ei).0 ∙ sym (laws.only (rights_of v) j s ej).0));
      };
      sets = record {
        next = λ _. 0;
        chain = λ _. [];
        beyond = λ _ _. refl;
        long = (let a = length_words links n in omega (arith, a));
        heads = λ m lt. (0, zero_word links n m (omega (arith, lt)), refl);
        stored = λ l lt. let e : dead_at links mods l ≡ suc (links + (mods + 3 * l + 1)) = omega arith in ap (λ i. get_elem? (first_words links n) i) e ∙ zero_word links n (mods + 3 * l + 1) (omega (arith, lt));
        counted = λ m l. refl;
        owed = λ l. refl;
        tells = λ id u e. subst (Tells links mods (first_words links n) (λ _. 0) (λ _. [])) (laws.only v id u e).1 record { mods_is = λ _. refl; known = tt; placed = tt; whole = λ m h l. refl; seen = seen_first mods; gone = λ (e : true ≡ false). absurd (true≢false e) };
      };
    }
  where
    seen_first : (mods : ℕ) → Each (Seen (λ _. [])) (first_walk mods)
    seen_first zero = tt
    seen_first (suc mods) = each_append (Seen (λ _. [])) (first_walk mods) (record { of = mods; chain = Some [] } ∷ []) (seen_first mods) ((λ ls e. same_some [] ls e), tt)

pub first_carries : (links mods words : ℕ) → suc (links + (mods + 3 * links)) ≡ words → links < 4294967296 → Carries links mods 0 links words (first_view links mods)
first_carries links mods words e small = record {
  live = refl;
  links_is = refl;
  mods_is = refl;
  head_is = refl;
  room_is = length-fresh links;
  room_fits = omega arith;
  head_fits = omega arith;
  words_is = e;
  small = small;
  fine = tt;
}
