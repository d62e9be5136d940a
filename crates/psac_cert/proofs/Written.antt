-- Pieces that are written one after another.
use Rattle.std.proofs.Common.{◌≡◌, ◌∙◌, ℕ, ◌+◌, ◌≤◌, ◌<◌, List, [], ◌++◌, Option, length, take, Result, Ok, Err, OnOk, OnErr, true, false, refl, ap, sym, subst, arith, append_assoc, length-append}
use Rattle.std.proofs.lemmas.List.{append-nil, take-append-le}
use Rattle.std.proofs.Math.Seq.{take-append_seam, take-append-add}
use Rattle.std.specs.Result.{is_err}
use Rattle.psac_base.specs.Causes.{Rose}
use Rattle.psac_base.specs.Outside.{Appended, AppendedPart}
use Rattle.psac_base.proofs.Wrote.{Appended-append, Appended-nil}

-- what was written, where so much of a text is left
pub record Going (text left : List ℕ) (before now : Option (List ℕ)) : Type 0 where
  pub done : List ℕ
  pub written : Appended before now done
  pub rest : text ≡ done ++ left

pub begins : (text left : List ℕ) (before : Option (List ℕ)) → text ≡ left → Going text left before before
begins text left before all = record { done = []; written = Appended-nil before; rest = all }

-- one more piece was written
pub goes : (text left piece new : List ℕ) (before now after : Option (List ℕ)) → left ≡ piece ++ new → Appended now after piece → Going text left before now → Going text new before after
goes text left piece new before now after next wrote g =
    record {
      done = g.done ++ piece;
      written = Appended-append before now after g.done piece g.written wrote;
      rest = g.rest ∙ ap (λ (xs : List ℕ). g.done ++ xs) next ∙ sym (append_assoc g.done piece new);
    }

-- nothing is left
pub ends : (text left : List ℕ) (before now : Option (List ℕ)) → left ≡ [] → Going text left before now → Appended before now text
ends text left before now none g =
    subst (λ (xs : List ℕ). Appended before now xs) (sym (g.rest ∙ ap (λ (xs : List ℕ). g.done ++ xs) none ∙ append-nil g.done)) g.written

-- what was written so far is a first part
pub part_so_far : (text left : List ℕ) (before now : Option (List ℕ)) → Going text left before now → AppendedPart before now text
part_so_far text left before now g = (
  length g.done,
  (let e = ap length g.rest ∙ length-append g.done left in omega (arith, e)),
  subst (λ (xs : List ℕ). Appended before now xs) (sym (ap (take (length g.done)) g.rest ∙ take-append_seam g.done left)) g.written,
)

-- and so it is where a first part of the next piece was written
pub part_then : (text left piece new : List ℕ) (before now after : Option (List ℕ)) → left ≡ piece ++ new → AppendedPart now after piece → Going text left before now → AppendedPart before after text
part_then text left piece new before now after next part g =
    let whole : text ≡ g.done ++ (piece ++ new) = g.rest ∙ ap (λ (xs : List ℕ). g.done ++ xs) next in
    let front : take (length g.done + part.0) text ≡ g.done ++ take part.0 piece =
    ap (take (length g.done + part.0)) whole ∙ take-append-add g.done (piece ++ new) part.0
    ∙ ap (λ (xs : List ℕ). g.done ++ xs) (take-append-le part.0 piece new part.1) in (
      length g.done + part.0,
      (let e = ap length whole ∙ length-append g.done (piece ++ new) in let f = length-append piece new in let l = part.1 in omega (arith, e, f, l)),
      subst (λ (xs : List ℕ). Appended before after xs) (sym front) (Appended-append before now after g.done (take part.0 piece) g.written part.2),
    )

-- the first piece of a text, and then the rest of it
pub first_part : (first rest : List ℕ) (before after : Option (List ℕ)) → AppendedPart before after first → AppendedPart before after (first ++ rest)
first_part first rest before after part = part_then (first ++ rest) (first ++ rest) first rest before before after refl part (begins (first ++ rest) (first ++ rest) before refl)

pub second_part : (first rest : List ℕ) (before now after : Option (List ℕ)) → Appended before now first → AppendedPart now after rest → AppendedPart before after (first ++ rest)
second_part first rest before now after wrote part =
    part_then (first ++ rest) rest rest [] before now after (sym (append-nil rest)) part
    (goes (first ++ rest) (first ++ rest) first rest before before now refl wrote (begins (first ++ rest) (first ++ rest) before refl))

pub rose_since : (a b c : ℕ) → a ≤ b → Rose b c → Rose a c
rose_since a b c before rose = omega arith

-- what a call tells where it answers an error, and where it doesn't
pub on_err : {T E P : Type 0} (r : Result T E) → is_err r ≡ true → OnErr r P → P
on_err (Ok x) bad told = absurd (cc)
on_err (Err e) bad told = told

pub on_ok : {T E P : Type 0} (r : Result T E) → is_err r ≡ false → OnOk r P → P
on_ok (Ok x) good told = told
on_ok (Err e) good told = absurd (cc)

pub err_weaker : {T E P Q : Type 0} (r : Result T E) → (P → Q) → OnErr r P → OnErr r Q
err_weaker (Ok x) f told = told
err_weaker (Err e) f told = f told

pub nothing_yet : (text : List ℕ) (before : Option (List ℕ)) → AppendedPart before before text
nothing_yet text before = (0, omega arith, Appended-nil before)

pub shorter : (old piece new : List ℕ) → old ≡ piece ++ new → 0 < length piece → length new < length old
shorter old piece new next some =
    let e = ap length next ∙ length-append piece new in
    omega (arith, e, some)
