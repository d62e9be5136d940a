-- What the walk over two trees adds to the blocks so far stands at its path or below it.
use Rattle.std.proofs.Common.{◌≡◌, true, false, if◌then◌else◌, List, [], ◌∷◌, ◌++◌, ap, sym, ◌∙◌, inl, inr, append_assoc, append-nil}
use Rattle.std.proofs.lemmas.List.Folds.{list_any-append}
use Rattle.psac_model.specs.Names.{Path, Name, Input, Out, Rows, Made}
use Rattle.psac_model.specs.Tree.{Tree}
use Rattle.psac_model.specs.Tree as tree
use Rattle.psac_model.specs.Redo.{is_above, is_inside, made_inside, reads_differ, redo_from}
use Rattle.psac_traced.specs.Redone.{under, from}
use Rattle.psac_traced.proofs.Redone.{from_both, from_under}
use Rattle.psac_traced.proofs.Inside.{or_either, or_left, or_right, inside_beyond, inside_from}
use Rattle.psac_traced.proofs.Turns.{inside_here}

-- each path that is inside some blocks is inside others
abbrev pub IsPart : List Path → List Path → Type 0
IsPart zs ws = (q : Path) → is_inside zs q ≡ true → is_inside ws q ≡ true

pub name_part : (zs ws : List Path) → IsPart zs ws → (n : Name) → made_inside zs n ≡ true → made_inside ws n ≡ true
name_part zs ws part (Made q) h = part q h
name_part zs ws part (Input r c) h = h
name_part zs ws part (Out i) h = h
name_part zs ws part Rows h = h

redo_adds : (p : Path) (old new : Tree Name) (zs : List Path) → (ws : List Path) × (redo_from p old new zs ≡ zs ++ from p ws)
redo_adds p (tree.A old) (tree.A new) zs =
    let i = redo_adds (p ++ 3 ∷ []) old new zs in (under 3 i.0, i.1 ∙ ap (λ c. zs ++ c) (from_under p 3 i.0))
redo_adds p (tree.W m v old) (tree.W n u new) zs =
    let i = redo_adds (p ++ 3 ∷ []) old new zs in (under 3 i.0, i.1 ∙ ap (λ c. zs ++ c) (from_under p 3 i.0))
redo_adds p (tree.S t old) (tree.S u new) zs =
    let i = redo_adds (p ++ 0 ∷ []) t u zs in
    let j = redo_adds (p ++ 1 ∷ []) old new (zs ++ from (p ++ 0 ∷ []) i.0) in
    (under 0 i.0 ++ under 1 j.0, ap (redo_from (p ++ 1 ∷ []) old new) i.1 ∙ j.1 ∙ from_both p zs i.0 j.0)
redo_adds p (tree.P t old) (tree.P u new) zs =
    let i = redo_adds (p ++ 0 ∷ []) t u zs in
    let j = redo_adds (p ++ 1 ∷ []) old new (zs ++ from (p ++ 0 ∷ []) i.0) in
    (under 0 i.0 ++ under 1 j.0, ap (redo_from (p ++ 1 ∷ []) old new) i.1 ∙ j.1 ∙ from_both p zs i.0 j.0)
redo_adds p (tree.R b e reads t) (tree.R c f again u) zs =
    elim (reads_differ zs reads again) as (λ d. (ws : List Path) × ((if d then zs ++ p ∷ [] else redo_from (p ++ 2 ∷ []) t u zs) ≡ zs ++ from p ws)) [
      | true ↦ ([] ∷ [], ap (λ q. zs ++ q ∷ []) (sym (append-nil p)))
      | false ↦ (let i = redo_adds (p ++ 2 ∷ []) t u zs in (under 2 i.0, i.1 ∙ ap (λ c. zs ++ c) (from_under p 2 i.0)))
    ]
redo_adds p _ _ zs = ([], sym (append-nil zs))

pub redo_grows : (p : Path) (old new : Tree Name) (zs : List Path) → IsPart zs (redo_from p old new zs)
redo_grows p old new zs q h =
    let a = redo_adds p old new zs in
    ap (λ z. is_inside z q) a.1 ∙ list_any-append (λ z. is_above z q) zs (from p a.0) ∙ or_left (is_inside zs q) (is_inside (from p a.0) q) h

-- what is inside a block
pub block_inside : (zs : List Path) (p q : Path) → is_inside (zs ++ p ∷ []) ((p ++ 2 ∷ []) ++ q) ≡ true
block_inside zs p q =
    let o = p ++ 2 ∷ q in
    ap (is_inside (zs ++ p ∷ [])) (append_assoc p (2 ∷ []) q)
    ∙ list_any-append (λ z. is_above z o) zs (p ∷ [])
    ∙ or_right (is_inside zs o) (is_inside (p ∷ []) o) (ap (λ z. is_inside (z ∷ []) o) (sym (append-nil p)) ∙ inside_beyond p ([] ∷ []) (2 ∷ q) ∙ inside_here 2 q)

-- the walk in a block adds nothing that isn't inside it
pub redo_below : (p : Path) (old new : Tree Name) (zs : List Path) → IsPart (redo_from (p ++ 2 ∷ []) old new zs) (zs ++ p ∷ [])
redo_below p old new zs q h =
    let a = redo_adds (p ++ 2 ∷ []) old new zs in
    let i = sym (list_any-append (λ z. is_above z q) zs (from (p ++ 2 ∷ []) a.0)) ∙ ap (λ z. is_inside z q) (sym a.1) ∙ h in
    elim (or_either (is_inside zs q) (is_inside (from (p ++ 2 ∷ []) a.0) q) i) [
      | inl e ↦ list_any-append (λ z. is_above z q) zs (p ∷ []) ∙ or_left (is_inside zs q) (is_inside (p ∷ []) q) e
      | inr e ↦ (let o = inside_from (p ++ 2 ∷ []) a.0 q e in ap (is_inside (zs ++ p ∷ [])) o.1 ∙ block_inside zs p o.0)
    ]
