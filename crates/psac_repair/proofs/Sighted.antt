-- What a pass sees of a modifiable is what its words say.
use Rattle.std.proofs.Common.{◌≡◌, not, true, false, inl, inr, ℕ, suc, ◌-◌, ◌≤◌, List, [], ◌∷◌, length, take, drop, get_or, Some, None, Result, Ok, Err, OnOk, refl, ap, sym, ◌∙◌, subst, arith}
use Rattle.psac_ops.specs.declared.plain.Handle.{Handle}
use Rattle.psac_ops.specs.declared.plain.Plain.{Plain}
use Rattle.psac_ops.specs.Value.{Value}
use Rattle.psac_ops.specs.Named.{value_of}
use Rattle.psac_ops.specs.Words.{of_words}
use Rattle.psac_values.specs.declared.view.ValueView.{ValueView}
use Rattle.psac_values.specs.Knowing.{Knows}
use Rattle.psac_ops.specs.Named.{same_handle}
use Rattle.psac_ops.specs.Table.{same_value}
use Rattle.psac_inputs.proofs.Netting.{same_plains}
use Rattle.psac_traced.specs.Holds.{read_names, EachOf}
use Rattle.psac_traced.specs.Mending.{unlike}
use Rattle.psac_record.specs.Kept.{reads_of}
use Rattle.psac_repair.specs.Marks.{Present}
use Rattle.psac_laws.proofs.Places.{none_some, some_is, test_or}
use Rattle.psac_laws.proofs.Rules.{or_not}
use Rattle.psac_trace.specs.Rights.{Sees}
use Rattle.psac_trace.specs.Asking.{Looked}
use Rattle.psac_trace.proofs.Asked.{sees_looked, looked_same}
use Rattle.psac_record.specs.declared.parts.Seen.{Seen}
use Rattle.psac_repair.specs.Seen.{Known, SeenNow, Now}

module _ (v : ValueView) (m : Handle) (ws : List ℕ) (is : (us : List ℕ) → Knows v m us → ws ≡ us) where
  pub value_is : (p : Plain) → of_words ws ≡ Some p → (x : Value Handle) → Sees v m x → value_of p ≡ x
  value_is p words x s =
      let e : s.1 ≡ p = some_is (sym s.3 ∙ ap of_words (sym (is s.0 s.2)) ∙ words) in
      ap value_of (sym e) ∙ s.4

  pub never : {X : Type 0} → of_words ws ≡ None → (x : Value Handle) → Sees v m x → X
  never words x s = absurd (none_some (sym words ∙ ap of_words (is s.0 s.2) ∙ s.3))

pub known_on : (v u : ValueView) → Looked v u → (reads : List Seen) → Known v reads → Known u reads
known_on v u l [] k = tt
known_on v u l (s ∷ reads) k = ((k.0.0, sees_looked v u s.from k.0.0 l k.0.1), known_on v u l reads k.1)

pub seen_back : (v u : ValueView) → Looked v u → (reads again : List Seen) → SeenNow u reads again → SeenNow v reads again
seen_back v u l [] [] s = tt
seen_back v u l [] (t ∷ again) s = absurd s
seen_back v u l (r ∷ reads) [] s = absurd s
seen_back v u l (r ∷ reads) (t ∷ again) s = (s.0, s.1, λ x k. s.2 x (sees_looked v u r.from x l k), seen_back v u l reads again s.3)

all_taken : {A : Type 0} (xs : List A) → take (length xs) xs ≡ xs
all_taken [] = refl
all_taken (x ∷ xs) = ap (λ z. x ∷ z) (all_taken xs)

rest_is : {A : Type 0} (x : A) (xs : List A) → take (length (x ∷ xs) - 1) (drop 1 (x ∷ xs)) ≡ xs
rest_is x xs = let e : suc (length xs) - 1 ≡ length xs = omega arith in ap (λ n. take n xs) e ∙ all_taken xs

-- the rest of the reads, on a pass that looked
pub known_rest : (v u : ValueView) (reads : List Seen) → Looked v u → 1 ≤ length reads → Known v reads → Known u (take (length reads - 1) (drop 1 reads))
known_rest v u [] l n k = absurd (omega (arith, n))
known_rest v u (s ∷ reads) l n k = subst (Known u) (sym (rest_is s reads)) (known_on v u l reads k.1)

-- the first read, and then the rest
pub seen_first : (v u : ValueView) (reads : List Seen) (none : Seen) (value : Plain) (more : List Seen) → Looked v u → 1 ≤ length reads → ((x : Value Handle) → Sees v (get_or reads 0 none).from x → value_of value ≡ x) → SeenNow u (take (length reads - 1) (drop 1 reads)) more → SeenNow v reads (record { from = (get_or reads 0 none).from; link = (get_or reads 0 none).link; value = value } ∷ more)
seen_first v u [] none value more l n is h = absurd (omega (arith, n))
seen_first v u (s ∷ reads) none value more l n is h = (refl, refl, is, seen_back v u l reads more (subst (λ z. SeenNow u z more) (rest_is s reads) h))

pub looked_none : (v : ValueView) → Looked v v
looked_none v = looked_same v

pub on_ok : {X Y : Type 0} {A B : Type 0} (r : Result X Y) → (A → B) → OnOk r A → OnOk r B
on_ok (Ok x) f h = f h
on_ok (Err e) f h = h

pub known_of : (v : ValueView) (ss : List Seen) → EachOf (λ m x. (y : Value Handle) × Sees v m y) (reads_of ss) → Known v ss
known_of v [] k = tt
known_of v (s ∷ ss) k = (k.0, known_of v ss k.1)

names_now : (v : ValueView) (reads again : List Seen) → SeenNow v reads again → read_names (reads_of reads) ≡ read_names (reads_of again)
names_now v [] [] s = refl
names_now v [] (t ∷ again) s = absurd s
names_now v (r ∷ reads) [] s = absurd s
names_now v (r ∷ reads) (t ∷ again) s = rw (s.0, names_now v reads again s.3) refl

each_now : (v : ValueView) (reads again : List Seen) → SeenNow v reads again → EachOf (λ m y. (x : Value Handle) → Sees v m x → y ≡ x) (reads_of again)
each_now v [] [] s = tt
each_now v [] (t ∷ again) s = absurd s
each_now v (r ∷ reads) [] s = absurd s
each_now v (r ∷ reads) (t ∷ again) s = (λ x k. s.2 x (subst (λ m. Sees v m x) (sym s.0) k), each_now v reads again s.3)

pub now_of : (v : ValueView) (reads again : List Seen) → SeenNow v reads again → Now v (reads_of reads) (reads_of again)
now_of v reads again s = record { names = names_now v reads again s; seen = each_now v reads again s }

-- where nothing differs, what was read is present
pub same_present : (v : ValueView) (reads again : List Seen) → SeenNow v reads again → unlike same_handle (reads_of reads) (reads_of again) ≡ false → EachOf (Present v) (reads_of reads)
same_present v [] [] s e = tt
same_present v [] (t ∷ again) s e = absurd s
same_present v (r ∷ reads) [] s e = absurd s
same_present v (r ∷ reads) (t ∷ again) s e =
    let b = or_not (not (same_value same_handle (value_of r.value) (value_of t.value))) (unlike same_handle (reads_of reads) (reads_of again)) e in
    let same : r.value ≡ t.value = same_plains r.value t.value (elim (test_or (same_value same_handle (value_of r.value) (value_of t.value))) [ inl i ↦ i | inr i ↦ (let bad : true ≡ false = ap not (sym i) ∙ b.0 in absurd cc) ]) in
    (λ y k. ap value_of same ∙ s.2 y k, same_present v reads again s.3 b.1)
