-- What csv's reader gives, record by record.
use Rattle.std.proofs.Common.{◌≡◌, ℕ, zero, suc, ◌+◌, ◌*◌, ◌≤◌, ◌<◌, Bool, true, false, List, [], ◌∷◌, ◌++◌, ◌∙◌, length, length-append, arith, refl, sym, ap, true≢false, Option, Some, None, subst, get_or, rules}
use Rattle.std.specs.Prelude.{◌==◌, MatchOption, Ok, Err, IsSome, drop, nat_lt, option_map, slice_get, if◌then◌else◌, unwrap_or}
use Rattle.std.proofs.Math.Nat.{mul-one, mul-zero, one-mul, suc-mul, zero-mul}
use Rattle.std.proofs.lemmas.Nat.{mul-le}
use Rattle.std.proofs.lemmas.Option.{slice_get-get_or}
use Rattle.std.proofs.lemmas.List.{append-nil, drop_more, length_push, take_all}
use Rattle.csv.specs.Machine.{Read, after_end, ends_at_end, ends_with, field_after, fields_after, in_field, is_end, next_record, start_field, start_record, step}
use Rattle.csv.specs.Reading.{Reached, ReadRecord, default_config, records, records_from as csv_from, source_of}
use Rattle.csv.specs.Records.{field_at}
use Rattle.csv.specs.declared.reader.Reader.{Reader}
use Rattle.csv.proofs.ReadFacts.{rows-end, rows-more}
use Rattle.csv.specs.declared.parser.Action.{Action}
use Rattle.csv.specs.declared.parser.Action.TheVariants as act
use Rattle.csv.specs.declared.parser.State.{State}
use Rattle.csv.specs.declared.parser.State.TheVariants as st
use Rattle.psac_ops.specs.declared.plain.Plain.{Plain}
use Rattle.psac_inputs.specs.declared.fault.InputFault.{InputFault}
use Rattle.psac_inputs.specs.declared.fault.InputFault.TheVariants.{Cells, Ragged}
use Rattle.psac_inputs.specs.Grid.{grid_of, most_cells, rows_of}
use Rattle.psac_inputs.specs.Wide.{IsWide}
use Rattle.psac_inputs.proofs.WideRecords.{drop_first}
use Rattle.psac_inputs.proofs.GridRows.{rows_of-append}
use Rattle.psac_inputs.specs.Texts.{Texts}
use Rattle.psac_inputs.specs.Load.{columns, loaded, record_of, records_from}
use Rattle.psac_inputs.proofs.Records.{after, after_none, loaded_err, loaded_ok, record_fault, record_step}

-- behind the end of a record no record has begun
abbrev Ends : State × Action → Type 0
Ends p = is_end p.1 ≡ true → ends_at_end p.0 ≡ false

ends_if : (b : Bool) (p q : State × Action) → Ends p → Ends q → Ends (if b then p else q)
ends_if true p q one two = one
ends_if false p q one two = two

between : (c : ℕ) → ends_at_end (after_end default_config.terminator c) ≡ false
between c = by (c == 13)
  where
    by : (b : Bool) → ends_at_end (if b then st.AfterCr else st.StartRecord) ≡ false
    by true = refl
    by false = refl

ends_in_field : (c : ℕ) → Ends (in_field default_config c)
ends_in_field c =
    ends_if (c == default_config.delimiter) _ _ (λ never. absurd (true≢false (sym never)))
    (ends_if (ends_with default_config.terminator c) _ _ (λ over. between c) (λ never. absurd (true≢false (sym never))))

goes_on : (s : State) (a : Action) → is_end a ≡ false → Ends (s, a)
goes_on s a not_end = λ over. absurd (true≢false (sym over ∙ not_end))

ends_start_field : (c : ℕ) → Ends (start_field default_config c)
ends_start_field c = ends_if (c == default_config.quote) _ _ (goes_on st.InQuoted act.Skip refl) (ends_in_field c)

ends_start_record : (c : ℕ) → Ends (start_record default_config c)
ends_start_record c = ends_if (ends_with default_config.terminator c) _ _ (goes_on st.StartRecord act.Skip refl) (ends_start_field c)

ends_step : (s : State) (c : ℕ) → Ends (step default_config s c)
ends_step st.StartRecord c = ends_start_record c
ends_step st.StartField c = ends_start_field c
ends_step st.InField c = ends_in_field c
ends_step st.InQuoted c = ends_if (c == default_config.quote) _ _ (goes_on st.AfterQuote act.Skip refl) (goes_on st.InQuoted act.Copy refl)
ends_step st.InEscape c = goes_on st.InQuoted act.Copy refl
ends_step st.AfterQuote c = ends_if (c == default_config.quote) _ _ (goes_on st.InQuoted act.Copy refl) (ends_in_field c)
ends_step st.InComment c = ends_if (c == 10) _ _ (goes_on st.StartRecord act.Skip refl) (goes_on st.InComment act.Skip refl)
ends_step st.AfterCr c = ends_if (c == 10) _ _ (goes_on st.StartRecord act.Skip refl) (ends_start_record c)

-- a record has a field, and no record has begun behind it
abbrev pub IsGiven : ℕ → Read → Type 0
IsGiven size r = (0 < length r.0) × (length r.2 ≤ size) × (ends_at_end r.1 ≡ false)

some_same : {X : Type 0} (x y : X) → Some x ≡ Some y → x ≡ y
some_same x y is = cc is

has_field : (a : Action) (fields : List (List ℕ)) (field : List ℕ) → is_end a ≡ true → 0 < length (fields_after a fields field)
has_field act.EndRecord fields field over = omega (arith, length_push fields field)
has_field act.EndField fields field over = absurd (true≢false (sym over))
has_field act.Skip fields field over = absurd (true≢false (sym over))
has_field act.Copy fields field over = absurd (true≢false (sym over))

pub record_given : (s : State) (fields : List (List ℕ)) (field ys : List ℕ) (p : Read) → next_record default_config s fields field ys ≡ Some p → IsGiven (length ys) p
unfolding next_record
record_given s fields field [] p is = by (ends_at_end s) is
  where
    by : (b : Bool) → (if b then Some (fields ++ (field ∷ []), st.StartRecord, []) else None) ≡ Some p → IsGiven 0 p
    by true is =
        let same : ◌≡◌ {A = Read} (fields ++ (field ∷ []), st.StartRecord, []) p = some_same _ _ is in
        subst (IsGiven 0) same (omega (arith, length_push fields field), omega arith, refl)
    by false is = absurd (cc is)
record_given s fields field (c ∷ rest) p is =
    by (is_end (step default_config s c).1) refl is (record_given (step default_config s c).0 (fields_after (step default_config s c).1 fields field) (field_after (step default_config s c).1 c field) rest p)
  where
    by : (b : Bool) → is_end (step default_config s c).1 ≡ b
        → (if b then Some (fields_after (step default_config s c).1 fields field, (step default_config s c).0, rest)
        else next_record default_config (step default_config s c).0 (fields_after (step default_config s c).1 fields field) (field_after (step default_config s c).1 c field) rest) ≡ Some p
        → (next_record default_config (step default_config s c).0 (fields_after (step default_config s c).1 fields field) (field_after (step default_config s c).1 c field) rest ≡ Some p → IsGiven (length rest) p)
        → IsGiven (suc (length rest)) p
    by true over is more =
        let same : ◌≡◌ {A = Read} (fields_after (step default_config s c).1 fields field, (step default_config s c).0, rest) p = some_same _ _ is in
        subst (IsGiven (suc (length rest))) same (has_field (step default_config s c).1 fields field over, omega arith, ends_step s c over)
    by false over is more = let g = more is in (g.0, omega (arith, g.1), g.2)

-- where no record has begun, a record takes a byte at least
pub record_shorter : (s : State) (ys : List ℕ) (p : Read) → ends_at_end s ≡ false → next_record default_config s [] [] ys ≡ Some p → length p.2 < length ys
unfolding next_record
record_shorter s [] p closed is = absurd (let none : None ≡ Some p = (rw closed at is) in cc none)
record_shorter s (c ∷ rest) p closed is = by (is_end (step default_config s c).1) is
  where
    by : (b : Bool)
        → (if b then Some (fields_after (step default_config s c).1 [] [], (step default_config s c).0, rest)
        else next_record default_config (step default_config s c).0 (fields_after (step default_config s c).1 [] []) (field_after (step default_config s c).1 c []) rest) ≡ Some p
        → length p.2 < suc (length rest)
    by true is =
        let same : ◌≡◌ {A = Read} (fields_after (step default_config s c).1 [] [], (step default_config s c).0, rest) p = some_same _ _ is in
        let back : rest ≡ p.2 = ap (λ (r : Read). r.2) same in
        omega (arith, ap length back)
    by false is =
        let g = record_given (step default_config s c).0 (fields_after (step default_config s c).1 [] []) (field_after (step default_config s c).1 c []) rest p is in
        omega (arith, g.1)

-- the records that are left: as many columns as the first of all has fields
abbrev wanted : Option ℕ → List (List (List ℕ)) → ℕ
wanted (Some cols) left = cols
wanted None left = columns left

-- a grid so far, and the records that are left
pub record Going (cols : Option ℕ) (at : ℕ) (cells : List Plain) (s : State) (ys : List ℕ) (ts : Texts) (all : List (List (List ℕ))) (start : Texts) : Type 0 where
  pub fuel : ℕ
  pub enough : length ys < fuel
  pub closed : ends_at_end s ≡ false
  pub none : MatchOption cols (at ≡ 0) (λ c. 0 < c)
  pub whole : length cells ≡ at * unwrap_or cols 0
  pub fits : length cells ≤ 65536
  pub few : unwrap_or cols 0 ≤ 65536
  pub left : csv_from default_config fuel s ys ≡ drop at all
  pub width : wanted cols (csv_from default_config fuel s ys) ≡ columns all
  pub told : after (rows_of (unwrap_or cols 0) at cells) (records_from (columns all) (at + 1) (csv_from default_config fuel s ys) ts) ≡ records_from (columns all) 1 all start

-- all records are left
pub going_start : (text : List ℕ) (ts : Texts) → Going None 0 [] st.StartRecord text ts (records default_config text) ts
going_start text ts = record {
  fuel = length text + 1;
  enough = omega arith;
  closed = refl;
  none = refl;
  whole = omega (arith, zero-mul 0);
  fits = omega arith;
  few = omega arith;
  left = refl;
  width = refl;
  told = after_none (records_from (columns (records default_config text)) 1 (records default_config text) ts);
}

next_left : (fuel : ℕ) (s : State) (ys : List ℕ) (p : Read) → length ys < fuel → next_record default_config s [] [] ys ≡ Some p
    → (k : ℕ) × (fuel ≡ suc k) × (csv_from default_config fuel s ys ≡ p.0 ∷ csv_from default_config k p.1 p.2)
unfolding csv_from
next_left zero s ys p low is = absurd (omega arith)
next_left (suc k) s ys p low is = (k, refl, rw is refl)

none_left : (fuel : ℕ) (s : State) (ys : List ℕ) → length ys < fuel → next_record default_config s [] [] ys ≡ None → csv_from default_config fuel s ys ≡ []
unfolding csv_from
none_left zero s ys low is = absurd (omega arith)
none_left (suc k) s ys low is = rw is refl

-- the cells so far, by the number of columns that the next record has
same_cols : (cols : Option ℕ) (at w : ℕ) (cells : List Plain) → MatchOption cols (at ≡ 0) (λ c. 0 < c) → length cells ≡ at * unwrap_or cols 0
    → unwrap_or cols w ≡ w → (length cells ≡ at * w) × (rows_of (unwrap_or cols 0) at cells ≡ rows_of w at cells)
same_cols None at w cells none whole is = (rw none (omega (arith, whole, none, zero-mul w, mul-zero at)), rw none refl)
same_cols (Some c) at w cells none whole is = (rw (← is) whole, rw is refl)

-- as many columns as all have
record_cols : (cols : Option ℕ) (fields : List (List ℕ)) (left : List (List (List ℕ))) (n : ℕ) → wanted cols (fields ∷ left) ≡ n → unwrap_or cols (length fields) ≡ n
record_cols None fields left n is = is
record_cols (Some c) fields left n is = is

at_few : (at c n : ℕ) → 0 < c → n ≡ at * c → at ≤ n
at_few at c n some is = omega (arith, is, mul-le at 1 at c (omega arith) some, mul-one at)

-- as many records as cells at most
pub few_records : (cols : Option ℕ) (at : ℕ) (cells : List Plain) (s : State) (ys : List ℕ) (ts start : Texts) (all : List (List (List ℕ)))
    → Going cols at cells s ys ts all start → at ≤ 65536
few_records None at cells s ys ts start all g = omega (arith, g.none)
few_records (Some c) at cells s ys ts start all g = omega (arith, at_few at c (length cells) g.none g.whole, g.fits)

-- the cells with those of the next record
pub going_whole : (cols : Option ℕ) (at : ℕ) (cells : List Plain) (s : State) (ys : List ℕ) (ts start : Texts) (all : List (List (List ℕ))) (w n : ℕ)
    → Going cols at cells s ys ts all start → w ≡ unwrap_or cols n → length cells + w ≡ (at + 1) * w
going_whole None at cells s ys ts start all w n g is =
    let one : at + 1 ≡ 1 = omega (arith, g.none) in
    rw (one, one-mul w) (omega (arith, g.whole, mul-zero at))
going_whole (Some c) at cells s ys ts start all w n g is = let e : at + 1 ≡ suc at = omega arith in rw (e, is) (omega (arith, g.whole, suc-mul at c))

width_again : (cols : Option ℕ) (n w : ℕ) → w ≡ unwrap_or cols n → unwrap_or cols w ≡ w
width_again None n w is = refl
width_again (Some c) n w is = sym is

width_some : (cols : Option ℕ) (at n w : ℕ) → MatchOption cols (at ≡ 0) (λ c. 0 < c) → 0 < n → w ≡ unwrap_or cols n → 0 < w
width_some None at n w none some is = rw is some
width_some (Some c) at n w none some is = rw is none

-- one record more
pub going_on : (cols : Option ℕ) (at : ℕ) (cells new row : List Plain) (s t : State) (ys zs : List ℕ) (ts us start : Texts) (all : List (List (List ℕ)))
    (fields : List (List ℕ)) (w : ℕ)
    → Going cols at cells s ys ts all start → next_record default_config s [] [] ys ≡ Some (fields, t, zs) → w ≡ unwrap_or cols (length fields)
    → record_of w (at + 1) fields ts ≡ Ok (row, us) → new ≡ cells ++ row → length new ≡ length cells + w → length new ≤ 65536
    → Going (Some w) (at + 1) new t zs us all start
going_on cols at cells new row s t ys zs ts us start all fields w g is width read added longer fits =
    let given = record_given s [] [] ys (fields, t, zs) is in
    let next = next_left g.fuel s ys (fields, t, zs) g.enough is in
    let left : csv_from default_config g.fuel s ys ≡ fields ∷ csv_from default_config next.0 t zs = next.2 in
    let n : unwrap_or cols (length fields) ≡ columns all = record_cols cols fields _ (columns all) (rw left at g.width) in
    let same : w ≡ columns all = width ∙ n in
    let whole = going_whole cols at cells s ys ts start all w (length fields) g width in
    let cells_are = same_cols cols at w cells g.none g.whole (width_again cols (length fields) w width) in
    let size : length row ≡ w = omega (arith, longer, ap length added, length-append cells row) in
    let this : rows_of w 1 row ≡ row ∷ [] = ap (λ r. r ∷ []) (take_all w row (omega (arith, size))) in
    let rows : rows_of w (at + 1) new ≡ rows_of (unwrap_or cols 0) at cells ++ row ∷ [] =
    ap (rows_of w (at + 1)) added ∙ rows_of-append w at 1 cells row cells_are.0 ∙ rw (← cells_are.1, this) refl in
    let told = ap (λ rs. after (rows_of (unwrap_or cols 0) at cells) (records_from (columns all) (at + 1) rs ts)) (sym left) ∙ g.told in
    record {
      fuel = next.0;
      enough = omega (arith, next.1, record_shorter s ys (fields, t, zs) g.closed is, g.enough);
      closed = given.2;
      none = width_some cols at (length fields) w g.none given.0 width;
      whole = longer ∙ whole;
      fits = fits;
      few = omega (arith, longer, fits);
      left = sym (drop_first [] all at fields (csv_from default_config next.0 t zs) (sym g.left ∙ left)).2;
      width = same;
      told = rw rows (record_step (columns all) (at + 1) (rows_of (unwrap_or cols 0) at cells) row fields (csv_from default_config next.0 t zs) ts us (records_from (columns all) 1 all start) (rw same at read) told);
    }

-- the faulty record
pub going_fault : (cols : Option ℕ) (at : ℕ) (cells : List Plain) (s t : State) (ys zs : List ℕ) (ts start : Texts) (all : List (List (List ℕ)))
    (fields : List (List ℕ)) (w : ℕ) (e : InputFault)
    → Going cols at cells s ys ts all start → next_record default_config s [] [] ys ≡ Some (fields, t, zs) → w ≡ unwrap_or cols (length fields)
    → record_of w (at + 1) fields ts ≡ Err e → loaded all start ≡ Err e
going_fault cols at cells s t ys zs ts start all fields w e g is width read =
    let next = next_left g.fuel s ys (fields, t, zs) g.enough is in
    let left : csv_from default_config g.fuel s ys ≡ fields ∷ csv_from default_config next.0 t zs = next.2 in
    let n : unwrap_or cols (length fields) ≡ columns all = record_cols cols fields _ (columns all) (rw left at g.width) in
    let same : w ≡ columns all = width ∙ n in
    let told = ap (λ rs. after (rows_of (unwrap_or cols 0) at cells) (records_from (columns all) (at + 1) rs ts)) (sym left) ∙ g.told in
    loaded_err all start e (record_fault (columns all) (at + 1) (rows_of (unwrap_or cols 0) at cells) fields (csv_from default_config next.0 t zs) ts (records_from (columns all) 1 all start) e (rw same at read) told)

-- a first record of more fields than there may be cells
pub first_wide : (all : List (List (List ℕ))) (start : Texts) → IsWide 65536 0 all → loaded all start ≡ Err (Cells 1)
first_wide [] start wide = absurd (omega (arith, wide.0))
first_wide (fields ∷ more) start wide =
    let same : (length fields == length fields) ≡ true = grind arith in
    let many : nat_lt most_cells (1 * length fields) ≡ true = grind (arith, wide.1) in
    let is : record_of (length fields) 1 fields start ≡ Err (Cells 1) = rw (same, many) refl in
    loaded_err (fields ∷ more) start (Cells 1) (rw is refl)

-- a later one, which has other fields than the first
pub later_wide : (w at : ℕ) (cells : List Plain) (s : State) (ys : List ℕ) (ts start : Texts) (all : List (List (List ℕ)))
    → Going (Some w) at cells s ys ts all start → IsWide 65536 at all → loaded all start ≡ Err (Ragged (at + 1))
later_wide w at cells s ys ts start all g wide =
    let fields = get_or all at [] in
    let left : csv_from default_config g.fuel s ys ≡ fields ∷ drop (at + 1) all = g.left ∙ drop_more all at [] wide.0 in
    let other : (length fields == columns all) ≡ false = grind (arith, wide.1, g.few, g.width) in
    let is : record_of (columns all) (at + 1) fields ts ≡ Err (Ragged (at + 1)) = rw other refl in
    let told = ap (λ rs. after (rows_of w at cells) (records_from (columns all) (at + 1) rs ts)) (sym left) ∙ g.told in
    loaded_err all start (Ragged (at + 1)) (record_fault (columns all) (at + 1) (rows_of w at cells) fields (drop (at + 1) all) ts _ (Ragged (at + 1)) is told)

last_width : (cols : Option ℕ) → wanted cols [] ≡ unwrap_or cols 0
last_width None = refl
last_width (Some c) = refl

-- no record is left
pub going_end : (cols : Option ℕ) (at : ℕ) (cells : List Plain) (s : State) (ys : List ℕ) (ts start : Texts) (all : List (List (List ℕ)))
    → Going cols at cells s ys ts all start → next_record default_config s [] [] ys ≡ None
    → loaded all start ≡ Ok (grid_of (unwrap_or cols 0) (rows_of (unwrap_or cols 0) at cells), ts)
going_end cols at cells s ys ts start all g is =
    let rows = rows_of (unwrap_or cols 0) at cells in
    let left : csv_from default_config g.fuel s ys ≡ [] = none_left g.fuel s ys g.enough is in
    let width : columns all ≡ unwrap_or cols 0 = sym (rw left at g.width) ∙ last_width cols in
    let told : records_from (columns all) 1 all start ≡ Ok (rows, ts) =
    sym g.told ∙ ap (λ rs. after rows (records_from (columns all) (at + 1) rs ts)) left ∙ ap (λ all. Ok (all, ts)) (append-nil rows) in
    loaded_ok all start ts rows told ∙ rw width refl

-- a read that found a record
pub read_one : {R : Type 0} (rem : R → Option (List ℕ)) (a b : Reader R) (fields : List (List ℕ)) (ys : List ℕ)
    → a.config ≡ default_config → source_of rem a ≡ Some ys → ReadRecord rem a b true fields
    → (zs : List ℕ) × (source_of rem b ≡ Some zs) × (next_record default_config a.state [] [] ys ≡ Some (fields, b.state, zs))
unfolding Reached
read_one rem a b fields ys config source read =
    let m = rows-more rem a b fields default_config a.state ys ys [] config source (refl, refl) read in
    let p = m.2 in
    (m.0, m.1, p.1 ∙ ap Some (λ j. (sym p.2 j, p.3.0 j, p.3.1 j)))

-- the record that a read found, taken in
pub going_next : {R : Type 0} (rem : R → Option (List ℕ)) (a b : Reader R) (cols : Option ℕ) (at : ℕ) (cells new row : List Plain) (ys : List ℕ) (ts us start : Texts)
    (all : List (List (List ℕ))) (fields : List (List ℕ)) (w : ℕ)
    → a.config ≡ default_config → source_of rem a ≡ Some ys → Going cols at cells a.state ys ts all start → ReadRecord rem a b true fields
    → w ≡ unwrap_or cols (length fields) → record_of w (at + 1) fields ts ≡ Ok (row, us) → new ≡ cells ++ row → length new ≡ length cells + w → length new ≤ 65536
    → (zs : List ℕ) × (source_of rem b ≡ Some zs) × Going (Some w) (at + 1) new b.state zs us all start
going_next rem a b cols at cells new row ys ts us start all fields w config source g read width is added longer fits =
    let one = read_one rem a b fields ys config source read in
    (one.0, one.1, going_on cols at cells new row _ _ ys one.0 ts us start all fields w g one.2 width is added longer fits)

-- a field of a record by its place
field_at-slice_get : (fields : List (List ℕ)) (i : ℕ) → field_at fields i ≡ slice_get fields i
unfolding field_at
field_at-slice_get [] i = refl
field_at-slice_get (f ∷ fs) zero = refl
field_at-slice_get (f ∷ fs) (suc i) = field_at-slice_get fs i

pub has_place : {X : Type 0} (now : X → List ℕ) (o : Option X) (fields : List (List ℕ)) (i : ℕ) → option_map now o ≡ field_at fields i → i < length fields → IsSome o
has_place now (Some x) fields i is low = search rules
has_place now None fields i is low =
    absurd (let found : None ≡ Some (get_or fields i []) = is ∙ field_at-slice_get fields i ∙ slice_get-get_or fields i [] low in cc found)

pub field_here : {X : Type 0} (now : X → List ℕ) (o : Option X) (x : X) (fields : List (List ℕ)) (i : ℕ) → option_map now o ≡ field_at fields i → o ≡ Some x
    → slice_get fields i ≡ Some (now x)
field_here now o x fields i is found = sym (field_at-slice_get fields i) ∙ sym is ∙ ap (option_map now) found

-- a read that found none
pub read_none : {R : Type 0} (rem : R → Option (List ℕ)) (a b : Reader R) (ys : List ℕ) → a.config ≡ default_config → source_of rem a ≡ Some ys
    → ReadRecord rem a b false [] → next_record default_config a.state [] [] ys ≡ None
read_none rem a b ys config source read = rows-end rem a b [] default_config ys config source read
