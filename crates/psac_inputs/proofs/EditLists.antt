-- Lists of edits, and the grids that they make.
use Rattle.std.proofs.Common.{◌≡◌, Bool, true, false, List, [], ◌∷◌, ◌∙◌, refl, sym, ap, eq-eqb, true≢false, inl, inr, ◌⊎◌}
use Rattle.std.specs.Prelude.{All, ◌==◌, ◌&&◌, ◌||◌, fold, if◌then◌else◌}
use Rattle.std.specs.List.{list_any}
use Rattle.std.proofs.lemmas.Bool.Decides.{Decides-eqb}
use Rattle.std.proofs.lemmas.List.Elements.{All-cons, All-head, All-tail, All-nil}
use Rattle.psac_inputs.specs.declared.batch.Edit.{Edit}
use Rattle.psac_inputs.specs.Grid.{Grid, with_cell}
use Rattle.psac_inputs.specs.Batch.{IsOneEach, same_cell, with_edit, with_edits}
use Rattle.psac_inputs.proofs.CellWrites.{Apart, written_comm, written_twice}

-- what the test of two cells tells
pub same_places : (e f : Edit) → same_cell e f ≡ true → (e.row ≡ f.row) × (e.col ≡ f.col)
same_places e f same = by (e.row == f.row) (e.col == f.col) (Decides-eqb e.row f.row) (Decides-eqb e.col f.col) same
  where
    by : (p q : Bool) → (p ≡ true → e.row ≡ f.row) × (e.row ≡ f.row → p ≡ true) → (q ≡ true → e.col ≡ f.col) × (e.col ≡ f.col → q ≡ true)
        → (p && q) ≡ true → (e.row ≡ f.row) × (e.col ≡ f.col)
    by true true dp dq h = (dp.0 refl, dq.0 refl)
    by true false dp dq h = absurd (true≢false (sym h))
    by false q dp dq h = absurd (true≢false (sym h))

pub places_same : (e f : Edit) → e.row ≡ f.row → e.col ≡ f.col → same_cell e f ≡ true
places_same e f r c = rw (eq-eqb e.row f.row r, eq-eqb e.col f.col c) refl

pub apart : (e f : Edit) → same_cell e f ≡ false → Apart e.row e.col f.row f.col
apart e f other r c = true≢false (sym (places_same e f r c) ∙ other)

pub same_sym : (e f : Edit) → same_cell e f ≡ false → same_cell f e ≡ false
same_sym e f other = by (same_cell f e) refl
  where
    by : (b : Bool) → same_cell f e ≡ b → b ≡ false
    by false is = refl
    by true is = let p = same_places f e is in absurd (true≢false (sym (places_same e f (sym p.0) (sym p.1)) ∙ other))

-- the same cell is as far from a third
pub same_as : (e f g : Edit) → same_cell e f ≡ true → same_cell f g ≡ same_cell e g
same_as e f g same = let p = same_places e f same in rw (p.0, p.1) refl

pub other_or : (a b : Bool) → (a || b) ≡ false → (a ≡ false) × (b ≡ false)
other_or true b h = absurd (true≢false h)
other_or false b h = (refl, h)

-- a list that leaves a cell alone
pub edits_past : (e : Edit) (es : List Edit) (g : Grid) → list_any (same_cell e) es ≡ false
    → with_edits es (with_cell e.row e.col e.value g) ≡ with_cell e.row e.col e.value (with_edits es g)
edits_past e [] g none = refl
edits_past e (f ∷ fs) g none =
    let h = other_or (same_cell e f) (list_any (same_cell e) fs) none in
    let comm : with_cell f.row f.col f.value (with_cell e.row e.col e.value g) ≡ with_cell e.row e.col e.value (with_cell f.row f.col f.value g) =
    ap (λ rows. record g { cells = rows }) (written_comm f.row f.col e.row e.col f.value e.value g.cells (apart f e (same_sym e f h.0))) in
    ap (with_edits fs) comm ∙ edits_past e fs (with_cell f.row f.col f.value g) h.1

none_same : (e f : Edit) (es : List Edit) → same_cell e f ≡ true → list_any (same_cell f) es ≡ false → list_any (same_cell e) es ≡ false
none_same e f [] same none = refl
none_same e f (g ∷ gs) same none =
    let h = other_or (same_cell f g) (list_any (same_cell f) gs) none in
    rw (← same_as e f g same, h.0) (none_same e f gs same h.1)

-- the last edit of a cell wins
pub with_edits-with_edit : (es : List Edit) (e : Edit) (g : Grid) → IsOneEach es
    → with_edits (with_edit es e) g ≡ with_cell e.row e.col e.value (with_edits es g)
with_edits-with_edit [] e g each = refl
with_edits-with_edit (f ∷ fs) e g each = by (same_cell e f) refl (with_edits-with_edit fs e (with_cell f.row f.col f.value g) each.1)
  where
    by : (b : Bool) → same_cell e f ≡ b
        → with_edits (with_edit fs e) (with_cell f.row f.col f.value g) ≡ with_cell e.row e.col e.value (with_edits fs (with_cell f.row f.col f.value g))
        → with_edits (if b then e ∷ fs else f ∷ with_edit fs e) g ≡ with_cell e.row e.col e.value (with_edits fs (with_cell f.row f.col f.value g))
    by true same rest =
        let p = same_places e f same in
        let none = none_same e f fs same each.0 in
        let over : with_cell e.row e.col e.value (with_cell f.row f.col f.value g) ≡ with_cell e.row e.col e.value g =
        rw (p.0, p.1) (ap (λ rows. record g { cells = rows }) (written_twice f.row f.col e.value f.value g.cells)) in
        ap (with_edits fs) (sym over) ∙ edits_past e fs (with_cell f.row f.col f.value g) none
    by false other rest = rest

any_with_edit : (f e : Edit) (es : List Edit) → same_cell f e ≡ false → list_any (same_cell f) es ≡ false → list_any (same_cell f) (with_edit es e) ≡ false
any_with_edit f e [] other none = rw other refl
any_with_edit f e (g ∷ gs) other none =
    let h = other_or (same_cell f g) (list_any (same_cell f) gs) none in
    by (same_cell e g) h.0 h.1 (any_with_edit f e gs other h.1)
  where
    by : (b : Bool) → same_cell f g ≡ false → list_any (same_cell f) gs ≡ false → list_any (same_cell f) (with_edit gs e) ≡ false
        → list_any (same_cell f) (if b then e ∷ gs else g ∷ with_edit gs e) ≡ false
    by true this those rest = rw (other, those) refl
    by false this those rest = rw (this, rest) refl

pub one_each-with_edit : (es : List Edit) (e : Edit) → IsOneEach es → IsOneEach (with_edit es e)
one_each-with_edit [] e each = (refl, tt)
one_each-with_edit (f ∷ fs) e each = by (same_cell e f) refl (one_each-with_edit fs e each.1)
  where
    by : (b : Bool) → same_cell e f ≡ b → IsOneEach (with_edit fs e) → IsOneEach (if b then e ∷ fs else f ∷ with_edit fs e)
    by true same rest = (none_same e f fs same each.0, each.1)
    by false other rest = (any_with_edit f e fs (same_sym e f other) each.0, rest)

-- what holds of each edit
pub all-with_edit : (P : Edit → Type 0) (es : List Edit) (e : Edit) → All P es → P e → All P (with_edit es e)
all-with_edit P [] e all this = All-cons P e [] this (All-nil P)
all-with_edit P (f ∷ fs) e all this = by (same_cell e f) (all-with_edit P fs e (All-tail P f fs all) this)
  where
    by : (b : Bool) → All P (with_edit fs e) → All P (if b then e ∷ fs else f ∷ with_edit fs e)
    by true rest = All-cons P e fs this (All-tail P f fs all)
    by false rest = All-cons P f (with_edit fs e) (All-head P f fs all) rest

all_apart : (R S : Edit → Type 0) (e : Edit) (es : List Edit) → list_any (same_cell e) es ≡ false → ((f : Edit) → same_cell e f ≡ false → R f → S f)
    → All R es → All S es
all_apart R S e [] none step all = All-nil S
all_apart R S e (f ∷ fs) none step all =
    let h = other_or (same_cell e f) (list_any (same_cell e) fs) none in
    All-cons S f fs (step f h.0 (All-head R f fs all)) (all_apart R S e fs h.1 step (All-tail R f fs all))

-- what holds of the edits of other cells
all_others : (R S : Edit → Type 0) (es : List Edit) (e : Edit) → IsOneEach es → ((f : Edit) → same_cell e f ≡ false → R f → S f) → S e
    → All R es → All S (with_edit es e)
all_others R S [] e each step this all = All-cons S e [] this (All-nil S)
all_others R S (f ∷ fs) e each step this all = by (same_cell e f) refl (all_others R S fs e each.1 step this (All-tail R f fs all))
  where
    by : (b : Bool) → same_cell e f ≡ b → All S (with_edit fs e) → All S (if b then e ∷ fs else f ∷ with_edit fs e)
    by true same rest = All-cons S e fs this (all_apart R S e fs (none_same e f fs same each.0) step (All-tail R f fs all))
    by false other rest = All-cons S f (with_edit fs e) (step f other (All-head R f fs all)) rest

-- some of the edits is of the cell
abbrev pub covers : List Edit → Edit → Bool
covers xs e = list_any (λ x. same_cell x e) xs

-- what holds of the new edits, and of the old ones whose cells they don't have
pub all-covered : (P : Edit → Type 0) (xs es : List Edit) → IsOneEach es → All P xs → All (λ e. (covers xs e ≡ true) ⊎ P e) es
    → All P (fold with_edit es xs)
all-covered P [] es each more all = λ k d low. elim (all k d low) [ inl never ↦ absurd (true≢false (sym never)) | inr is ↦ is ]
all-covered P (x ∷ xs) es each more all =
    all-covered P xs (with_edit es x) (one_each-with_edit es x each) (All-tail P x xs more) (
    all_others (λ e. (covers (x ∷ xs) e ≡ true) ⊎ P e) (λ e. (covers xs e ≡ true) ⊎ P e) es x each (λ f other h. step f other h) (inr (All-head P x xs more)) all)
  where
    step : (f : Edit) → same_cell x f ≡ false → (covers (x ∷ xs) f ≡ true) ⊎ P f → (covers xs f ≡ true) ⊎ P f
    step f other (inl some) = inl (rw other at some)
    step f other (inr is) = inr is

or_true : (a b : Bool) → b ≡ true → (a || b) ≡ true
or_true true b is = refl
or_true false b is = is

-- edits of one cell are as far from a third
same_as_first : (e f g : Edit) → same_cell e f ≡ true → same_cell e g ≡ same_cell f g
same_as_first e f g same = let p = same_places e f same in rw (p.0, p.1) refl

covers_over : (x : Edit) (es : List Edit) (e : Edit) → same_cell x e ≡ true → covers (with_edit es x) e ≡ true
covers_over x [] e same = rw same refl
covers_over x (f ∷ fs) e same = by (same_cell x f) (covers_over x fs e same)
  where
    by : (b : Bool) → covers (with_edit fs x) e ≡ true → covers (if b then x ∷ fs else f ∷ with_edit fs x) e ≡ true
    by true rest = rw same refl
    by false rest = or_true (same_cell f e) (covers (with_edit fs x) e) rest

-- a cell that has an edit keeps one
covers_still : (x : Edit) (es : List Edit) (e : Edit) → covers es e ≡ true → covers (with_edit es x) e ≡ true
covers_still x [] e some = absurd (true≢false (sym some))
covers_still x (f ∷ fs) e some = by (same_cell x f) refl (same_cell f e) refl some (covers_still x fs e)
  where
    by : (b : Bool) → same_cell x f ≡ b → (t : Bool) → same_cell f e ≡ t → (t || covers fs e) ≡ true
        → (covers fs e ≡ true → covers (with_edit fs x) e ≡ true) → covers (if b then x ∷ fs else f ∷ with_edit fs x) e ≡ true
    by true same t at some rest = rw (same_as_first x f e same, at) some
    by false other true at some rest = rw at refl
    by false other false at some rest = or_true (same_cell f e) (covers (with_edit fs x) e) (rest some)

pub covers-fold : (xs es : List Edit) (e : Edit) → (covers es e ≡ true) ⊎ (covers xs e ≡ true) → covers (fold with_edit es xs) e ≡ true
covers-fold [] es e (inl some) = some
covers-fold [] es e (inr never) = absurd (true≢false (sym never))
covers-fold (x ∷ xs) es e (inl some) = covers-fold xs (with_edit es x) e (inl (covers_still x es e some))
covers-fold (x ∷ xs) es e (inr some) = by (same_cell x e) refl some (covers-fold xs (with_edit es x) e)
  where
    by : (t : Bool) → same_cell x e ≡ t → (t || covers xs e) ≡ true
        → ((covers (with_edit es x) e ≡ true) ⊎ (covers xs e ≡ true) → covers (fold with_edit (with_edit es x) xs) e ≡ true)
        → covers (fold with_edit (with_edit es x) xs) e ≡ true
    by true same some rest = rest (inl (covers_over x es e same))
    by false other some rest = rest (inr some)

pub covers-with_edit : (x : Edit) (es : List Edit) (e : Edit) → covers es e ≡ true → covers (with_edit es x) e ≡ true
covers-with_edit = covers_still
