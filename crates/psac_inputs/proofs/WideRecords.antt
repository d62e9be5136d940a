-- The records of a text, counted byte by byte.
use Rattle.std.proofs.Common.{◌≡◌, ℕ, zero, suc, ◌+◌, ◌-◌, ◌≤◌, ◌<◌, Bool, true, false, List, [], ◌∷◌, ◌++◌, ◌∙◌, length, take, drop, get_or, length-drop, arith, refl, sym, subst, ap, Option, Some, None}
use Rattle.std.specs.Prelude.{if◌then◌else◌}
use Rattle.std.proofs.lemmas.List.{drop_more, length_push, take_rest}
use Rattle.csv.specs.Machine.{Read, ends_at_end, field_after, fields_after, is_end, next_record, step}
use Rattle.csv.specs.Reading.{default_config, is_bom, records, records_from, records_next, strip_bom}
use Rattle.csv.specs.declared.parser.Action.{Action}
use Rattle.csv.specs.declared.parser.Action.TheVariants as act
use Rattle.csv.specs.declared.parser.State.{State}
use Rattle.csv.specs.declared.parser.State.TheVariants as st
use Rattle.psac_inputs.specs.Wide.{IsWide, mark_of}
use Rattle.psac_inputs.specs.declared.wide.Mark.{Mark}
use Rattle.psac_inputs.specs.declared.wide.Mark.TheVariants as mark

strip_is : (a b c : ℕ) (rest : List ℕ) → strip_bom (a ∷ b ∷ c ∷ rest) ≡ (if is_bom a b c then rest else a ∷ b ∷ c ∷ rest)
unfolding strip_bom
strip_is a b c rest = refl

-- a text that begins with a byte order mark
pub strip_mark : (text : List ℕ) (b : Bool) → 3 ≤ length text → b ≡ is_bom (get_or text 0 0) (get_or text 1 0) (get_or text 2 0) → b ≡ true
    → take (length text - 3) (drop 3 text) ≡ strip_bom text
strip_mark [] b some is marked = absurd (omega (arith, some))
strip_mark (x ∷ []) b some is marked = absurd (omega (arith, some))
strip_mark (x ∷ y ∷ []) b some is marked = absurd (omega (arith, some))
strip_mark (x ∷ y ∷ z ∷ rest) b some is marked =
    take_rest (x ∷ y ∷ z ∷ rest) 3 ∙ sym (strip_is x y z rest ∙ ap (λ m. if m then rest else x ∷ y ∷ z ∷ rest) (sym is ∙ marked))

-- a text that doesn't
pub strip_none : (text : List ℕ) (b : Bool) → 3 ≤ length text → b ≡ is_bom (get_or text 0 0) (get_or text 1 0) (get_or text 2 0) → b ≡ false
    → text ≡ strip_bom text
strip_none [] b some is plain = absurd (omega (arith, some))
strip_none (x ∷ []) b some is plain = absurd (omega (arith, some))
strip_none (x ∷ y ∷ []) b some is plain = absurd (omega (arith, some))
strip_none (x ∷ y ∷ z ∷ rest) b some is plain =
    sym (strip_is x y z rest ∙ ap (λ m. if m then rest else x ∷ y ∷ z ∷ rest) (sym is ∙ plain))

-- an element by its place, where the list from there on is known
pub drop_first : {X : Type 0} (d : X) (xs : List X) (n : ℕ) (x : X) (more : List X) → drop n xs ≡ x ∷ more
    → (n < length xs) × (get_or xs n d ≡ x) × (drop (n + 1) xs ≡ more)
drop_first d xs n x more is =
    let low : n < length xs = omega (arith, length-drop n xs, ap length is) in
    let both : get_or xs n d ∷ drop (n + 1) xs ≡ x ∷ more = sym (drop_more xs n d low) ∙ is in
    (low, cc both, cc both)

-- the record that is begun, and those behind it
abbrev begun : ℕ → State → List (List ℕ) → List ℕ → List ℕ → List (List (List ℕ))
begun fuel s fields field ys = records_next (records_from default_config fuel) (next_record default_config s fields field ys)

-- so many fields of a record have ended, behind so many records
pub record Counted (s : State) (count at : ℕ) (ys : List ℕ) (all : List (List (List ℕ))) : Type 0 where
  pub fuel : ℕ
  pub enough : length ys ≤ fuel
  pub fields : List (List ℕ)
  pub field : List ℕ
  pub counts : length fields ≡ count
  pub left : begun fuel s fields field ys ≡ drop at all

opened : (fuel k : ℕ) (s : State) (ys : List ℕ) → fuel ≡ suc k → records_from default_config fuel s ys ≡ begun k s [] [] ys
unfolding records_from
opened fuel k s ys is = rw is refl

pub counted_start : (text : List ℕ) → Counted st.StartRecord 0 0 text (records default_config text)
counted_start text = record {
  fuel = length text;
  enough = omega arith;
  fields = [];
  field = [];
  counts = refl;
  left = sym (opened (length text + 1) (length text) st.StartRecord text (omega arith));
}

goes_on : (a : Action) (fields : List (List ℕ)) (field : List ℕ) → mark_of a ≡ mark.Nothing → (is_end a ≡ false) × (length (fields_after a fields field) ≡ length fields)
goes_on act.Skip fields field is = (refl, refl)
goes_on act.Copy fields field is = (refl, refl)
goes_on act.EndField fields field is = absurd (cc is)
goes_on act.EndRecord fields field is = absurd (cc is)

ends_field : (a : Action) (fields : List (List ℕ)) (field : List ℕ) → mark_of a ≡ mark.Field → (is_end a ≡ false) × (length (fields_after a fields field) ≡ length fields + 1)
ends_field act.EndField fields field is = (refl, length_push fields field)
ends_field act.Skip fields field is = absurd (cc is)
ends_field act.Copy fields field is = absurd (cc is)
ends_field act.EndRecord fields field is = absurd (cc is)

ends_record : (a : Action) (fields : List (List ℕ)) (field : List ℕ) → mark_of a ≡ mark.Record → (is_end a ≡ true) × (length (fields_after a fields field) ≡ length fields + 1)
ends_record act.EndRecord fields field is = (refl, length_push fields field)
ends_record act.Skip fields field is = absurd (cc is)
ends_record act.Copy fields field is = absurd (cc is)
ends_record act.EndField fields field is = absurd (cc is)

next_inside : (s : State) (fields : List (List ℕ)) (field : List ℕ) (c : ℕ) (ys : List ℕ) → is_end (step default_config s c).1 ≡ false
    → next_record default_config s fields field (c ∷ ys)
    ≡ next_record default_config (step default_config s c).0 (fields_after (step default_config s c).1 fields field) (field_after (step default_config s c).1 c field) ys
unfolding next_record
next_inside s fields field c ys is = rw is refl

next_end : (s : State) (fields : List (List ℕ)) (field : List ℕ) (c : ℕ) (ys : List ℕ) → is_end (step default_config s c).1 ≡ true
    → next_record default_config s fields field (c ∷ ys) ≡ Some (fields_after (step default_config s c).1 fields field, (step default_config s c).0, ys)
unfolding next_record
next_end s fields field c ys is = rw is refl

next_last : (s : State) (fields : List (List ℕ)) (field : List ℕ) → ends_at_end s ≡ true
    → next_record default_config s fields field [] ≡ Some (fields ++ (field ∷ []), st.StartRecord, [])
unfolding next_record
next_last s fields field is = rw is refl

inside : (s : State) (count n at c : ℕ) (ys : List ℕ) (all : List (List (List ℕ))) (g : Counted s count at (c ∷ ys) all)
    → (is_end (step default_config s c).1 ≡ false) × (length (fields_after (step default_config s c).1 g.fields g.field) ≡ n)
    → Counted (step default_config s c).0 n at ys all
inside s count n at c ys all g goes = record {
  fuel = g.fuel;
  enough = omega (arith, g.enough);
  fields = fields_after (step default_config s c).1 g.fields g.field;
  field = field_after (step default_config s c).1 c g.field;
  counts = goes.1;
  left = ap (records_next (records_from default_config g.fuel)) (sym (next_inside s g.fields g.field c ys goes.0)) ∙ g.left;
}

-- the bytes by the first one
abbrev rest_of : List ℕ → List ℕ
rest_of ys = take (length ys - 1) (drop 1 ys)

front : (ys : List ℕ) → 1 ≤ length ys → ys ≡ get_or ys 0 0 ∷ rest_of ys
front ys some = drop_more ys 0 0 some ∙ ap (λ more. get_or ys 0 0 ∷ more) (sym (take_rest ys 1))

by_front : (s : State) (count at : ℕ) (ys : List ℕ) (all : List (List (List ℕ))) → Counted s count at ys all → 1 ≤ length ys
    → Counted s count at (get_or ys 0 0 ∷ rest_of ys) all
by_front s count at ys all g some = subst (λ bytes. Counted s count at bytes all) (front ys some) g

pub few_left : (at count next_at next n : ℕ) (ys : List ℕ) → at + count + length ys ≤ n → 1 ≤ length ys → next_at + next ≤ at + count + 1
    → next_at + next + length (take (length ys - 1) (drop 1 ys)) ≤ n
few_left at count next_at next n ys few some one = omega (arith, few, some, one, ap length (front ys some))

-- a byte within a field
pub counted_on : (s t : State) (m : Mark) (count at : ℕ) (ys : List ℕ) (all : List (List (List ℕ))) → Counted s count at ys all → 1 ≤ length ys
    → t ≡ (step default_config s (get_or ys 0 0)).0 → m ≡ mark_of (step default_config s (get_or ys 0 0)).1 → m ≡ mark.Nothing
    → Counted t count at (take (length ys - 1) (drop 1 ys)) all
counted_on s t m count at ys all was some to by is =
    let g = by_front s count at ys all was some in
    let goes = goes_on (step default_config s (get_or ys 0 0)).1 g.fields g.field (sym by ∙ is) in
    rw to (inside s count count at (get_or ys 0 0) (rest_of ys) all g (goes.0, goes.1 ∙ g.counts))

-- the end of a field, but not of its record
pub counted_field : (s t : State) (m : Mark) (count at : ℕ) (ys : List ℕ) (all : List (List (List ℕ))) → Counted s count at ys all → 1 ≤ length ys
    → t ≡ (step default_config s (get_or ys 0 0)).0 → m ≡ mark_of (step default_config s (get_or ys 0 0)).1 → m ≡ mark.Field
    → Counted t (count + 1) at (take (length ys - 1) (drop 1 ys)) all
counted_field s t m count at ys all was some to by is =
    let g = by_front s count at ys all was some in
    let goes = ends_field (step default_config s (get_or ys 0 0)).1 g.fields g.field (sym by ∙ is) in
    rw to (inside s count (count + 1) at (get_or ys 0 0) (rest_of ys) all g (goes.0, goes.1 ∙ ap (λ n. n + 1) g.counts))

-- the end of a record
record_ended : (s : State) (count at c : ℕ) (ys : List ℕ) (all : List (List (List ℕ))) → Counted s count at (c ∷ ys) all
    → mark_of (step default_config s c).1 ≡ mark.Record → Counted (step default_config s c).0 0 (at + 1) ys all × IsWide count at all
record_ended s count at c ys all g is =
    let over = ends_record (step default_config s c).1 g.fields g.field is in
    let fields = fields_after (step default_config s c).1 g.fields g.field in
    let next = ap (records_next (records_from default_config g.fuel)) (next_end s g.fields g.field c ys over.0) in
    let first = drop_first [] all at fields (records_from default_config g.fuel (step default_config s c).0 ys) (sym g.left ∙ next) in
    let k = g.fuel - 1 in (
      record {
        fuel = k;
        enough = omega (arith, g.enough);
        fields = [];
        field = [];
        counts = refl;
        left = sym (opened g.fuel k (step default_config s c).0 ys (omega (arith, g.enough))) ∙ sym first.2;
      },
      (first.0, omega (arith, ap length first.1, over.1, g.counts)),
    )

pub counted_record : (s t : State) (m : Mark) (count at : ℕ) (ys : List ℕ) (all : List (List (List ℕ))) → Counted s count at ys all → 1 ≤ length ys
    → t ≡ (step default_config s (get_or ys 0 0)).0 → m ≡ mark_of (step default_config s (get_or ys 0 0)).1 → m ≡ mark.Record
    → Counted t 0 (at + 1) (take (length ys - 1) (drop 1 ys)) all × IsWide count at all
counted_record s t m count at ys all was some to by is =
    let ended = record_ended s count at (get_or ys 0 0) (rest_of ys) all (by_front s count at ys all was some) (sym by ∙ is) in
    rw to ended

-- the end of the text
pub counted_last : (s : State) (count at : ℕ) (ys : List ℕ) (all : List (List (List ℕ))) → Counted s count at ys all → length ys < 1
    → ends_at_end s ≡ true → IsWide count at all
counted_last s count at (c ∷ ys) all g none is = absurd (omega (arith, none))
counted_last s count at [] all g none is =
    let next = ap (records_next (records_from default_config g.fuel)) (next_last s g.fields g.field is) in
    let first = drop_first [] all at (g.fields ++ (g.field ∷ [])) (records_from default_config g.fuel st.StartRecord []) (sym g.left ∙ next) in
    (first.0, omega (arith, ap length first.1, length_push g.fields g.field, g.counts))

pub wide_from : (most count n : ℕ) (all : List (List (List ℕ))) → most ≤ count → IsWide count n all → IsWide most n all
wide_from most count n all high wide = (wide.0, omega (arith, high, wide.1))
