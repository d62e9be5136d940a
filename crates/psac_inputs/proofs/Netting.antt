-- The edits that a grid has already.
use Rattle.std.proofs.Common.{◌≡◌, ◌<◌, ◌≤◌, Bool, true, false, List, [], ◌∷◌, ◌∙◌, refl, sym, ap, true≢false, Option, Some, None, cond}
use Rattle.std.specs.Prelude.{⊤, All, ◌==◌, ◌&&◌, drop, filter, not}
use Rattle.std.specs.List.{list_any}
use Rattle.std.proofs.lemmas.Bool.Decides.{Decides-eqb, Decides-int_eq}
use Rattle.std.proofs.lemmas.List.Elements.{All-cons, All-head, All-tail}
use Rattle.psac_ops.specs.declared.plain.Handle.{Handle}
use Rattle.psac_ops.specs.declared.plain.Plain.{Plain}
use Rattle.psac_ops.specs.declared.plain.Plain.TheVariants.{Nil, Bool as Truth, Int, Text, Ref, Pair}
use Rattle.psac_ops.specs.declared.plain.TextId.{TextId}
use Rattle.psac_ops.specs.Table.{same_bool, same_value}
use Rattle.psac_ops.specs.Named.{same_handle, value_of}
use Rattle.psac_inputs.specs.declared.batch.Edit.{Edit}
use Rattle.psac_inputs.specs.Grid.{Grid, IsCellValue, cell, with_cell}
use Rattle.psac_inputs.specs.Batch.{Batch, GoesInto, IsBatch, IsOneEach, batch_net, is_value, netted, put_all, same_cell, with_edits}
use Rattle.psac_inputs.proofs.CellWrites.{read_other, written_same}
use Rattle.psac_inputs.proofs.EditLists.{apart, other_or, same_sym}

both : (p q : Bool) → (p && q) ≡ true → (p ≡ true) × (q ≡ true)
both true true is = (refl, refl)
both true false is = absurd (true≢false (sym is))
both false q is = absurd (true≢false (sym is))

same_truths : (a b : Bool) → same_bool a b ≡ true → a ≡ b
same_truths true true is = refl
same_truths true false is = absurd (true≢false (sym is))
same_truths false true is = absurd (true≢false (sym is))
same_truths false false is = refl

same_handles : (g h : Handle) → same_handle g h ≡ true → g ≡ h
same_handles g h is =
    let p = both (g.slot == h.slot) (g.generation == h.generation) is in
    let slot : g.slot ≡ h.slot = (Decides-eqb g.slot h.slot).0 p.0 in
    let generation : g.generation ≡ h.generation = (Decides-eqb g.generation h.generation).0 p.1 in
    λ j. record { slot = slot j; generation = generation j }

same_texts : (s t : TextId) → ((s.id == t.id) && (s.len == t.len)) ≡ true → s ≡ t
same_texts s t is =
    let p = both (s.id == t.id) (s.len == t.len) is in
    let id : s.id ≡ t.id = (Decides-eqb s.id t.id).0 p.0 in
    let len : s.len ≡ t.len = (Decides-eqb s.len t.len).0 p.1 in
    λ j. record { id = id j; len = len j }

-- equal values of the language are the same
pub same_plains : (v u : Plain) → same_value same_handle (value_of v) (value_of u) ≡ true → v ≡ u
same_plains Nil Nil is = refl
same_plains (Truth a) (Truth b) is = ap Truth (same_truths a b is)
same_plains (Int a) (Int b) is = ap Int ((Decides-int_eq a b).0 is)
same_plains (Text s) (Text t) is = ap Text (same_texts s t is)
same_plains (Ref g) (Ref h) is = ap Ref (same_handles g h is)
same_plains (Pair g h) (Pair k l) is =
    let p = both (same_handle g k) (same_handle h l) is in
    let first : g ≡ k = same_handles g k p.0 in
    let second : h ≡ l = same_handles h l p.1 in
    cc
same_plains Nil (Truth b) is = absurd (true≢false (sym is))
same_plains Nil (Int b) is = absurd (true≢false (sym is))
same_plains Nil (Text t) is = absurd (true≢false (sym is))
same_plains Nil (Ref h) is = absurd (true≢false (sym is))
same_plains Nil (Pair k l) is = absurd (true≢false (sym is))
same_plains (Truth a) Nil is = absurd (true≢false (sym is))
same_plains (Truth a) (Int b) is = absurd (true≢false (sym is))
same_plains (Truth a) (Text t) is = absurd (true≢false (sym is))
same_plains (Truth a) (Ref h) is = absurd (true≢false (sym is))
same_plains (Truth a) (Pair k l) is = absurd (true≢false (sym is))
same_plains (Int a) Nil is = absurd (true≢false (sym is))
same_plains (Int a) (Truth b) is = absurd (true≢false (sym is))
same_plains (Int a) (Text t) is = absurd (true≢false (sym is))
same_plains (Int a) (Ref h) is = absurd (true≢false (sym is))
same_plains (Int a) (Pair k l) is = absurd (true≢false (sym is))
same_plains (Text s) Nil is = absurd (true≢false (sym is))
same_plains (Text s) (Truth b) is = absurd (true≢false (sym is))
same_plains (Text s) (Int b) is = absurd (true≢false (sym is))
same_plains (Text s) (Ref h) is = absurd (true≢false (sym is))
same_plains (Text s) (Pair k l) is = absurd (true≢false (sym is))
same_plains (Ref g) Nil is = absurd (true≢false (sym is))
same_plains (Ref g) (Truth b) is = absurd (true≢false (sym is))
same_plains (Ref g) (Int b) is = absurd (true≢false (sym is))
same_plains (Ref g) (Text t) is = absurd (true≢false (sym is))
same_plains (Ref g) (Pair k l) is = absurd (true≢false (sym is))
same_plains (Pair g h) Nil is = absurd (true≢false (sym is))
same_plains (Pair g h) (Truth b) is = absurd (true≢false (sym is))
same_plains (Pair g h) (Int b) is = absurd (true≢false (sym is))
same_plains (Pair g h) (Text t) is = absurd (true≢false (sym is))
same_plains (Pair g h) (Ref k) is = absurd (true≢false (sym is))

has_value : (v : Plain) (held : Option Plain) → is_value v held ≡ true → held ≡ Some v
has_value v None is = absurd (true≢false (sym is))
has_value v (Some u) is = ap Some (sym (same_plains v u is))

-- both grids hold the same in the cells of the edits
abbrev Agree : List Edit → Grid → Grid → Type 0
Agree [] g h = ⊤
Agree (e ∷ es) g h = (cell e.row e.col g ≡ cell e.row e.col h) × Agree es g h

agree_self : (es : List Edit) (g : Grid) → Agree es g g
agree_self [] g = tt
agree_self (e ∷ es) g = (refl, agree_self es g)

-- an edit of another cell
agree_past : (e : Edit) (es : List Edit) (g h : Grid) → list_any (same_cell e) es ≡ false → Agree es g h → Agree es (with_cell e.row e.col e.value g) h
agree_past e [] g h none agree = tt
agree_past e (f ∷ fs) g h none agree =
    let others = other_or (same_cell e f) (list_any (same_cell e) fs) none in
    (read_other f.row f.col e.row e.col e.value g.cells (apart f e (same_sym e f others.0)) ∙ agree.0, agree_past e fs g h others.1 agree.1)

edits_left : (es : List Edit) (g h : Grid) → IsOneEach es → Agree es g h → with_edits (netted h es) g ≡ with_edits es g
edits_left [] g h each agree = refl
edits_left (e ∷ es) g h each agree =
    by (is_value e.value (cell e.row e.col h)) refl (edits_left es g h each.1 agree.1) (edits_left es (with_cell e.row e.col e.value g) h each.1 (agree_past e es g h each.0 agree.1))
  where
    by : (b : Bool) → is_value e.value (cell e.row e.col h) ≡ b
        → with_edits (netted h es) g ≡ with_edits es g
        → with_edits (netted h es) (with_cell e.row e.col e.value g) ≡ with_edits es (with_cell e.row e.col e.value g)
        → with_edits (cond (not b) (e ∷ netted h es) (netted h es)) g ≡ with_edits es (with_cell e.row e.col e.value g)
    by true is out rest =
        let same : with_cell e.row e.col e.value g ≡ g =
        ap (λ rows. record g { cells = rows }) (written_same e.row e.col e.value g.cells (agree.0 ∙ has_value e.value (cell e.row e.col h) is)) in
        out ∙ ap (with_edits es) (sym same)
    by false is out rest = rest

-- what is left gives the same grid
pub put_all-net : (b : Batch) (g : Grid) → IsBatch b → put_all (batch_net g b) g ≡ put_all b g
put_all-net b g sound = ap (λ (h : Grid). record h { rows = b.rows }) (edits_left b.edits g g sound.each (agree_self b.edits g))

pub goes-net : (b : Batch) (g : Grid) → IsBatch b → GoesInto b g → GoesInto (batch_net g b) g
goes-net b g sound goes = record {
  room = goes.room;
  cols = goes.cols;
  base = goes.base;
  beyond = ap (λ (h : Grid). drop b.rows h.cells) (put_all-net b g sound) ∙ goes.beyond;
}

all-filter : (P : Edit → Type 0) (test : Edit → Bool) (es : List Edit) → All P es → All P (filter test es)
all-filter P test [] all = all
all-filter P test (e ∷ es) all = by (test e) (all-filter P test es (All-tail P e es all))
  where
    by : (b : Bool) → All P (filter test es) → All P (cond b (e ∷ filter test es) (filter test es))
    by true rest = All-cons P e (filter test es) (All-head P e es all) rest
    by false rest = rest

none-filter : (e : Edit) (test : Edit → Bool) (es : List Edit) → list_any (same_cell e) es ≡ false → list_any (same_cell e) (filter test es) ≡ false
none-filter e test [] none = refl
none-filter e test (f ∷ fs) none =
    let others = other_or (same_cell e f) (list_any (same_cell e) fs) none in
    by (test f) others.0 (none-filter e test fs others.1)
  where
    by : (b : Bool) → same_cell e f ≡ false → list_any (same_cell e) (filter test fs) ≡ false
        → list_any (same_cell e) (cond b (f ∷ filter test fs) (filter test fs)) ≡ false
    by true this rest = rw (this, rest) refl
    by false this rest = rest

one_each-filter : (test : Edit → Bool) (es : List Edit) → IsOneEach es → IsOneEach (filter test es)
one_each-filter test [] each = tt
one_each-filter test (e ∷ es) each = by (test e) (none-filter e test es each.0) (one_each-filter test es each.1)
  where
    by : (b : Bool) → list_any (same_cell e) (filter test es) ≡ false → IsOneEach (filter test es)
        → IsOneEach (cond b (e ∷ filter test es) (filter test es))
    by true none rest = (none, rest)
    by false none rest = rest

pub net_sound : (b : Batch) (g : Grid) → IsBatch b → IsBatch (batch_net g b)
net_sound b g sound =
    let test : Edit → Bool = λ e. not (is_value e.value (cell e.row e.col g)) in
    record {
      fits = sound.fits;
      base = sound.base;
      within = sound.within;
      inside = all-filter (λ e. (e.row < b.room) × (e.col < b.cols)) test b.edits sound.inside;
      plain = all-filter (λ e. IsCellValue e.value) test b.edits sound.plain;
      beyond = all-filter (λ e. b.rows ≤ e.row → e.value ≡ Nil) test b.edits sound.beyond;
      each = one_each-filter test b.edits sound.each;
    }
