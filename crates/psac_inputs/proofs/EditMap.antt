-- A map from cells to values, as a list of edits.
use Rattle.std.proofs.Common.{◌≡◌, Bool, true, false, List, [], ◌∷◌, ◌∙◌, refl, sym, ap, cond, true≢false}
use Rattle.std.specs.Prelude.{All, OnOk, Result, Ok, Err, filter, if◌then◌else◌}
use Rattle.std.specs.Result.{is_err}
use Rattle.indexmap.specs.IndexMap.{insert_entry}
use Rattle.std.proofs.lemmas.List.Elements.{All-cons, All-head, All-nil, All-tail}
use Rattle.psac_ops.specs.declared.plain.Plain.{Plain}
use Rattle.psac_inputs.specs.declared.batch.Cell.{Cell}
use Rattle.psac_inputs.specs.declared.batch.Edit.{Edit}
use Rattle.psac_inputs.specs.Batch.{same_cell, with_edit}
use Rattle.psac_inputs.specs.Staged.{edit_of, edits_of}
use Rattle.psac_inputs.proofs.EditLists.{same_places}

-- a pair that joins the map is an edit that joins the list
pub edits-insert : (eq : Cell → Cell → Bool) (es : List (Cell × Plain)) (k : Cell) (v : Plain)
    → ((c : Cell) (u : Plain) → eq k c ≡ same_cell (edit_of (k, v)) (edit_of (c, u)))
    → edits_of (insert_entry eq es k v) ≡ with_edit (edits_of es) (edit_of (k, v))
edits-insert eq [] k v same = refl
edits-insert eq (e ∷ es) k v same = by (eq k e.0) refl (edits-insert eq es k v same)
  where
    by : (b : Bool) → eq k e.0 ≡ b → edits_of (insert_entry eq es k v) ≡ with_edit (edits_of es) (edit_of (k, v))
        → edits_of (if b then (e.0, v) ∷ es else e ∷ insert_entry eq es k v) ≡ with_edit (edits_of (e ∷ es)) (edit_of (k, v))
    by true is rest =
        let here : same_cell (edit_of (k, v)) (edit_of e) ≡ true = sym (same e.0 e.1) ∙ is in
        let p = same_places (edit_of (k, v)) (edit_of e) here in
        rw (here, p.0, p.1) refl
    by false is rest =
        let other : same_cell (edit_of (k, v)) (edit_of e) ≡ false = sym (same e.0 e.1) ∙ is in
        rw other (ap (λ fs. edit_of e ∷ fs) rest)

-- every pair is one of the edits
pub all-pairs : (P : Edit → Type 0) (es : List (Cell × Plain)) → All P (edits_of es) → All (λ e. P (edit_of e)) es
all-pairs P [] all = All-nil (λ e. P (edit_of e))
all-pairs P (e ∷ es) all =
    All-cons (λ e. P (edit_of e)) e es (All-head P (edit_of e) (edits_of es) all) (all-pairs P es (All-tail P (edit_of e) (edits_of es) all))

-- the pairs that are kept
pub edits-filter : (test : Edit → Bool) (es : List (Cell × Plain)) → edits_of (filter (λ e. test (edit_of e)) es) ≡ filter test (edits_of es)
edits-filter test [] = refl
edits-filter test (e ∷ es) = by (test (edit_of e)) (edits-filter test es)
  where
    by : (b : Bool) → edits_of (filter (λ e. test (edit_of e)) es) ≡ filter test (edits_of es)
        → edits_of (cond b (e ∷ filter (λ e. test (edit_of e)) es) (filter (λ e. test (edit_of e)) es)) ≡ cond b (edit_of e ∷ filter test (edits_of es)) (filter test (edits_of es))
    by true rest = ap (λ fs. edit_of e ∷ fs) rest
    by false rest = rest

-- what an insertion that succeeded made
pub inserted : {X E : Type 0} (r : Result X E) → is_err r ≡ false → (eq : Cell → Cell → Bool) (es new : List (Cell × Plain)) (k : Cell) (v : Plain)
    → ((c : Cell) (u : Plain) → eq k c ≡ same_cell (edit_of (k, v)) (edit_of (c, u)))
    → OnOk r (new ≡ insert_entry eq es k v) → edits_of new ≡ with_edit (edits_of es) (edit_of (k, v))
inserted (Ok x) ok eq es new k v same is = ap edits_of is ∙ edits-insert eq es k v same
inserted (Err e) ok eq es new k v same is = absurd (true≢false ok)
