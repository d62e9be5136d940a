-- Records, read one after the other.
use Rattle.std.proofs.Common.{◌≡◌, ℕ, ◌+◌, ◌*◌, ◌≤◌, ◌<◌, true, false, List, [], ◌∷◌, ◌++◌, ◌∙◌, arith, refl, sym, ap, append_assoc}
use Rattle.std.specs.Prelude.{Result, Ok, Err, drop, nat_lt, slice_get, Some}
use Rattle.std.proofs.lemmas.Option.{get_or_from_slice_get, slice_get_within}
use Rattle.std.proofs.lemmas.List.{drop_more}
use Rattle.psac_ops.specs.declared.plain.Plain.{Plain}
use Rattle.psac_ops.specs.Table.{◌>>=◌}
use Rattle.psac_inputs.specs.declared.fault.InputFault.{InputFault}
use Rattle.psac_inputs.specs.declared.fault.InputFault.TheVariants.{Cells}
use Rattle.psac_inputs.specs.Grid.{grid_of, most_cells}
use Rattle.psac_inputs.specs.Texts.{Texts, field}
use Rattle.psac_inputs.specs.Load.{columns, fault_at, fields_of, loaded, record_of, records_from}

abbrev pub Rows : Type 0
Rows = Result (List (List Plain) × Texts) InputFault

-- rows, and those that are read behind them
abbrev pub after : List (List Plain) → Rows → Rows
after rows (Ok more) = Ok (rows ++ more.0, more.1)
after rows (Err e) = Err e

pub after_none : (rows : Rows) → after [] rows ≡ rows
after_none (Ok more) = refl
after_none (Err e) = refl

after_one : (rows : List (List Plain)) (row : List Plain) (more : Rows)
    → after (rows ++ row ∷ []) more ≡ after rows (more >>= λ rest. Ok (row ∷ rest.0, rest.1))
after_one rows row (Ok more) = ap (λ all. Ok (all, more.1)) (append_assoc rows (row ∷ []) more.0)
after_one rows row (Err e) = refl

-- one record more
pub record_step : (cols n : ℕ) (rows : List (List Plain)) (row : List Plain) (fields : List (List ℕ)) (more : List (List (List ℕ))) (ts us : Texts) (target : Rows)
    → record_of cols n fields ts ≡ Ok (row, us) → after rows (records_from cols n (fields ∷ more) ts) ≡ target
    → after (rows ++ row ∷ []) (records_from cols (n + 1) more us) ≡ target
record_step cols n rows row fields more ts us target is told =
    let next : records_from cols n (fields ∷ more) ts ≡ (records_from cols (n + 1) more us >>= λ rest. Ok (row ∷ rest.0, rest.1)) = rw is refl in
    after_one rows row (records_from cols (n + 1) more us) ∙ sym (ap (after rows) next) ∙ told

-- the faulty record
pub record_fault : (cols n : ℕ) (rows : List (List Plain)) (fields : List (List ℕ)) (more : List (List (List ℕ))) (ts : Texts) (target : Rows) (e : InputFault)
    → record_of cols n fields ts ≡ Err e → after rows (records_from cols n (fields ∷ more) ts) ≡ target → target ≡ Err e
record_fault cols n rows fields more ts target e is told =
    let next : records_from cols n (fields ∷ more) ts ≡ Err e = rw is refl in
    sym told ∙ ap (after rows) next

-- what the records make of an input
pub loaded_ok : (records : List (List (List ℕ))) (ts us : Texts) (rows : List (List Plain)) → records_from (columns records) 1 records ts ≡ Ok (rows, us)
    → loaded records ts ≡ Ok (grid_of (columns records) rows, us)
loaded_ok records ts us rows is = rw is refl

pub loaded_err : (records : List (List (List ℕ))) (ts : Texts) (e : InputFault) → records_from (columns records) 1 records ts ≡ Err e → loaded records ts ≡ Err e
loaded_err records ts e is = rw is refl

abbrev pub one_cell : Plain → List Plain
one_cell value = value ∷ []

abbrev pub one_field : List ℕ → List (List ℕ)
one_field line = line ∷ []

-- a line within the limit is its field
pub line_record : (n : ℕ) (line : List ℕ) (ts : Texts) → n ≤ 65536 → record_of 1 n (line ∷ []) ts ≡ fields_of n (line ∷ []) ts
line_record n line ts fits =
    let small : nat_lt most_cells (n * 1) ≡ false = grind (arith, fits) in
    rw small refl

-- a line too many
pub line_cells : (n : ℕ) (line : List ℕ) (ts : Texts) → 65536 < n → record_of 1 n (line ∷ []) ts ≡ Err (Cells n)
line_cells n line ts high =
    let large : nat_lt most_cells (n * 1) ≡ true = grind (arith, high) in
    rw large refl

-- a field, and the others from the texts that it leaves
abbrev first_of : Result (Plain × Texts) InputFault → (Texts → Result (List Plain × Texts) InputFault) → Result (List Plain × Texts) InputFault
first_of r more = do
  first ← r
  rest ← more first.1
  Ok (first.0 ∷ rest.0, rest.1)

-- the cells of a record, and those of its other fields
abbrev pub joined : List Plain → Result (List Plain × Texts) InputFault → Result (List Plain × Texts) InputFault
joined row (Ok more) = Ok (row ++ more.0, more.1)
joined row (Err e) = Err e

joined_none : (r : Result (List Plain × Texts) InputFault) → joined [] r ≡ r
joined_none (Ok more) = refl
joined_none (Err e) = refl

behind : (cell : Plain) (r : Result (List Plain × Texts) InputFault) → (r >>= λ rest. Ok (cell ∷ rest.0, rest.1)) ≡ joined (cell ∷ []) r
behind cell (Ok more) = refl
behind cell (Err e) = refl

joined_then : (front back : List Plain) (r : Result (List Plain × Texts) InputFault) → joined (front ++ back) r ≡ joined front (joined back r)
joined_then front back (Ok more) = ap (λ all. Ok (all, more.1)) (append_assoc front back more.0)
joined_then front back (Err e) = refl

drop_at_place : {X : Type 0} (xs : List X) (k : ℕ) (x : X) → slice_get xs k ≡ Some x → drop k xs ≡ x ∷ drop (k + 1) xs
drop_at_place xs k x is = drop_more xs k x (slice_get_within xs k x is) ∙ ap (λ y. y ∷ drop (k + 1) xs) (get_or_from_slice_get xs k x x is)

-- the first of some fields
one_more : (n : ℕ) (bytes : List ℕ) (more : List (List ℕ)) (ts us : Texts) (one : List Plain) → fields_of n (bytes ∷ []) ts ≡ Ok (one, us)
    → fields_of n (bytes ∷ more) ts ≡ joined one (fields_of n more us)
one_more n bytes more ts us one is = by (fault_at n (field bytes ts)) is
  where
    by : (r : Result (Plain × Texts) InputFault) → first_of r (λ us. Ok ([], us)) ≡ Ok (one, us)
        → first_of r (fields_of n more) ≡ joined one (fields_of n more us)
    by (Ok first) is =
        let p : ◌≡◌ {A = List Plain × Texts} (first.0 ∷ [], first.1) (one, us) = cc is in
        let cells : first.0 ∷ [] ≡ one = ap (λ (q : List Plain × Texts). q.0) p in
        let texts : first.1 ≡ us = ap (λ (q : List Plain × Texts). q.1) p in
        rw (← cells, ← texts) (behind first.0 (fields_of n more first.1))
    by (Err e) is = absurd (cc is)

one_fault : (n : ℕ) (bytes : List ℕ) (more : List (List ℕ)) (ts : Texts) (e : InputFault) → fields_of n (bytes ∷ []) ts ≡ Err e
    → fields_of n (bytes ∷ more) ts ≡ Err e
one_fault n bytes more ts e is = by (fault_at n (field bytes ts)) is
  where
    by : (r : Result (Plain × Texts) InputFault) → first_of r (λ us. Ok ([], us)) ≡ Err e → first_of r (fields_of n more) ≡ Err e
    by (Ok first) is = absurd (cc is)
    by (Err f) is = is

-- one field more
pub field_step : (n k : ℕ) (fields : List (List ℕ)) (bytes : List ℕ) (old before new one row : List Plain) (ts us : Texts) (target : Result (List Plain × Texts) InputFault)
    → slice_get fields k ≡ Some bytes → fields_of n (bytes ∷ []) ts ≡ Ok (one, us) → new ≡ before ++ one → before ≡ old ++ row
    → joined row (fields_of n (drop k fields) ts) ≡ target
    → (more : List Plain) × (new ≡ old ++ more) × (joined more (fields_of n (drop (k + 1) fields) us) ≡ target)
field_step n k fields bytes old before new one row ts us target at is added was told =
    let next : drop k fields ≡ bytes ∷ drop (k + 1) fields = drop_at_place fields k bytes at in
    let split : fields_of n (bytes ∷ drop (k + 1) fields) ts ≡ joined one (fields_of n (drop (k + 1) fields) us) = one_more n bytes (drop (k + 1) fields) ts us one is in (
      row ++ one,
      added ∙ rw was (append_assoc old row one),
      joined_then row one (fields_of n (drop (k + 1) fields) us) ∙ ap (joined row) (sym split) ∙ ap (λ fs. joined row (fields_of n fs ts)) (sym next) ∙ told,
    )

pub field_fault : (n k : ℕ) (fields : List (List ℕ)) (bytes : List ℕ) (row : List Plain) (ts : Texts) (e : InputFault) (target : Result (List Plain × Texts) InputFault)
    → slice_get fields k ≡ Some bytes → fields_of n (bytes ∷ []) ts ≡ Err e → joined row (fields_of n (drop k fields) ts) ≡ target → target ≡ Err e
field_fault n k fields bytes row ts e target at is told =
    let next : drop k fields ≡ bytes ∷ drop (k + 1) fields = drop_at_place fields k bytes at in
    let fault : fields_of n (bytes ∷ drop (k + 1) fields) ts ≡ Err e = one_fault n bytes (drop (k + 1) fields) ts e is in
    sym told ∙ ap (λ fs. joined row (fields_of n fs ts)) next ∙ ap (joined row) fault
