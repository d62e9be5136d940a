-- The names of what an old record made, in the record that a repair makes of it.
use Rattle.std.proofs.Common.{◌≡◌, ◌⊎◌, ℕ, Bool, true, false, if◌then◌else◌, List, [], ◌∷◌, ◌++◌, Contains, refl, ap, sym, ◌∙◌, subst, inl, inr, append_assoc, append-nil}
use Rattle.std.proofs.lemmas.List.Elements.{Contains-append_left, Contains-append_right}
use Rattle.psac_syntax.specs.declared.program.Stmt.{Stmt}
use Rattle.psac_syntax.specs.declared.program.Func.{Func}
use Rattle.psac_model.specs.declared.ends.End.{End}
use Rattle.psac_model.specs.Names.{Path, Name, Input, Out, Rows, Made, Env, Heap, same_name}
use Rattle.psac_model.specs.Expression.{Setting}
use Rattle.psac_model.specs.Run.{Ran}
use Rattle.psac_model.specs.Redo.{redo, is_inside, made_inside}
use Rattle.psac_laws.proofs.Places.{made_is}
use Rattle.psac_naming.specs.Alike.{Envs, Settings}
use Rattle.psac_naming.specs.Naming.{Naming, IsNamed, IsSameTest, Unused}
use Rattle.psac_naming.proofs.Namings.{named_left, named_right, named_either, tests_names}
use Rattle.psac_traced.specs.Rec.{Rec, E, A, W, S, P, R, HeapOf}
use Rattle.psac_traced.specs.Traced.{traced}
use Rattle.psac_traced.specs.Renamed.{Heaps}
use Rattle.psac_traced.specs.Places.{names, Makes, HasName, name_in}
use Rattle.psac_traced.specs.Serial.{Serial}
use Rattle.psac_traced.specs.Scoped.{On, Reading, Scoped}
use Rattle.psac_traced.specs.Mending.{unlike, mended, anew, below}
use Rattle.psac_traced.specs.Repaired.{Repaired, WhereLike}
use Rattle.psac_traced.specs.Redone.{redone, under}
use Rattle.psac_traced.proofs.Alike.{tree_image}
use Rattle.psac_traced.proofs.Places.{made_named, names_made, names_under}
use Rattle.psac_traced.proofs.Scoped.{traced_scoped, scoped_reads}
use Rattle.psac_traced.proofs.Told.{told, made_contains}
use Rattle.psac_traced.proofs.Has.{env_has, heap_has, name_in_is}
use Rattle.psac_traced.proofs.Redone.{redo_is, from_root}
use Rattle.psac_traced.proofs.Turns.{inside_root, inside_under, inside_left, inside_right, inside_here}

-- the blocks that the definition runs again are those whose reads are unlike

unmade : {M : Type 0} (base : Naming M) → Unused [] base → (zs : List Path) (m : M) (n : Name) → IsNamed base m n
    → made_inside zs n ≡ false
unmade base un zs m (Made q) h = absurd (un m q h)
unmade base un zs m (Input r c) h = refl
unmade base un zs m (Out i) h = refl
unmade base un zs m Rows h = refl

module _ {M : Type 0} (w : Setting M) (u : Setting Name) (same : IsSameTest w.same) (plain : u.same ≡ same_name) (funcs : List Func)
    (base : Naming M) (inputs : Settings (IsNamed base) w u) (un : Unused [] base) where
  abbrev Base : M → Type 0
  Base = HasName base

  inputs_on : Settings (On Base) w w
  inputs_on =
      record {
        opened = refl;
        room = refl;
        cols = refl;
        texts = refl;
        cells = λ r c h k. ((u.cell r c, inputs.cells r c h k), refl);
        row_count = ((u.row_count, inputs.row_count), refl);
      }

  scoped : (room : ℕ) (body : List Stmt) (env : Env M) (env' : Env Name) (heap : HeapOf M) (heap' : Heap) (r : Rec M) (end : End)
      → Envs (IsNamed base) env env' → Heaps (IsNamed base) heap heap' → traced w funcs room body env heap r end → Scoped Base r
  scoped room body env env' heap heap' r end e h t =
      (traced_scoped w funcs Base inputs_on room Base (λ m i. i) body env heap r end (env_has (IsNamed base) env env' e)
      (heap_has (IsNamed base) heap heap' h) t).0

  pub redo_redone : (room : ℕ) (body : List Stmt) (env : Env M) (env' : Env Name) (heap again : HeapOf M) (heap' again' : Heap)
      (r s : Rec M) (end last : End) (before after : Ran Name Heap) → Envs (IsNamed base) env env' → Heaps (IsNamed base) heap heap'
      → Heaps (IsNamed base) again again' → traced w funcs room body env heap r end → traced w funcs room body env again s last
      → Serial (base ++ names [] r) r heap end before → Serial (base ++ names [] s) s again last after → Repaired w.same r s
      → ((m : M) → Contains (mended w.same r s).created m → HasName (base ++ names [] r) m → ⊥)
      → redo before.tree after.tree ≡ redone w.same r s
  unfolding redo
  redo_redone room body env env' heap again heap' again' r s end last before after e h k t q old new re fresh =
      let ns = base ++ names [] r in
      let ms = base ++ names [] s in
      let f = name_in w.same ns in
      let g = name_in w.same ms in
      let O : M → Type 0 = HasName ns in
      let f_is : (m : M) (n : Name) → IsNamed ns m n → f m ≡ n = name_in_is w.same same ns old.one in
      let g_is : (m : M) (n : Name) → IsNamed ms m n → g m ≡ n = name_in_is w.same same ms new.one in
      let left : (m : M) (n : Name) → IsNamed base m n → IsNamed ns m n = named_left base (names [] r) in
      let right : (m : M) (n : Name) → IsNamed (names [] r) m n → IsNamed ns m n = named_right base (names [] r) in
      let first : (m : M) (n : Name) → IsNamed base m n → IsNamed ms m n = named_left base (names [] s) in
      let one : (m l : M) → O m → O l → w.same m l ≡ same_name (f m) (f l) =
      λ m l i j. tests_names ns w.same same_name old.one same refl m l i.0 j.0 i.1 j.1
      ∙ ap (λ z. same_name z j.0) (sym (f_is m i.0 i.1)) ∙ ap (same_name (f m)) (sym (f_is l j.0 j.1)) in
      let made : (m : M) → Makes r m → O m = λ m i. (let n = made_named [] r m i in (n.0, right m n.0 n.1)) in
      let reading : Reading O r =
      scoped_reads Base O r (λ m i. (i.0, left m i.0 i.1)) made (scoped room body env env' heap heap' r end e h t) in
      let zs = redone w.same r s in
      let tells = told w.same f g O zs one same.alone [] [] r s re (λ z. refl) Base (λ z i. absurd cc)
      (λ m i. inl (
        (i.0, left m i.0 i.1),
        f_is m i.0 (left m i.0 i.1) ∙ sym (g_is m i.0 (first m i.0 i.1)),
        ap (made_inside zs) (g_is m i.0 (first m i.0 i.1)) ∙ unmade base un zs m i.0 i.1,
      ))
      reading (scoped room body env env' again again' s last e k q) made
      (λ m n i. f_is m n (right m n i))
      (λ m n i. g_is m n (named_right base (names [] s) m n i)) fresh in
      rw (← (tree_image (IsNamed ns) f f_is r before.tree old.trees), ← (tree_image (IsNamed ms) g g_is s after.tree new.trees))
      (redo_is w.same f g [] [] r s tells ∙ from_root zs)

-- what was made keeps its name, or was made inside a block that ran again, and was thrown away
module _ {M : Type 0} (same : M → M → Bool) where
  -- from a path on, of a list of blocks, with the names of the new record and what was thrown away
  pub record Went (p : Path) (zs : List Path) (now : Naming M) (gone : List M) (m : M) (n : Name) : Type 0 where
    pub on : Path
    pub is : n ≡ Made (p ++ on)
    pub goes : ((is_inside zs on ≡ false) × IsNamed now m n) ⊎ ((is_inside zs on ≡ true) × Contains gone m)

  -- behind one turn
  turned : (p : Path) (x : ℕ) (zs ws : List Path) (now more : Naming M) (gone all : List M) (m : M) (n : Name)
      → ((q : Path) → is_inside ws (x ∷ q) ≡ is_inside zs q) → (IsNamed now m n → IsNamed more m n)
      → (Contains gone m → Contains all m) → Went (p ++ x ∷ []) zs now gone m n → Went p ws more all m n
  turned p x zs ws now more gone all m n at named thrown w =
      record {
        on = x ∷ w.on;
        is = w.is ∙ ap Made (append_assoc p (x ∷ []) w.on);
        goes = elim w.goes [
          | inl g ↦ inl (at w.on ∙ g.0, named g.1)
          | inr g ↦ inr (at w.on ∙ g.0, thrown g.1)
        ];
      }

  both_go : (p : Path) (t r u s : Rec M) → ((m : M) (n : Name) → IsNamed (names (p ++ 0 ∷ []) t) m n
      → Went (p ++ 0 ∷ []) (redone same t u) (names (p ++ 0 ∷ []) u) (mended same t u).dropped m n)
      → ((m : M) (n : Name) → IsNamed (names (p ++ 1 ∷ []) r) m n
      → Went (p ++ 1 ∷ []) (redone same r s) (names (p ++ 1 ∷ []) s) (mended same r s).dropped m n)
      → (m : M) (n : Name) → IsNamed (names (p ++ 0 ∷ []) t ++ names (p ++ 1 ∷ []) r) m n
      → Went p (under 0 (redone same t u) ++ under 1 (redone same r s)) (names (p ++ 0 ∷ []) u ++ names (p ++ 1 ∷ []) s)
      ((mended same t u).dropped ++ (mended same r s).dropped) m n
  both_go p t r u s left right m n h =
      let a = redone same t u in
      let b = redone same r s in
      let x = names (p ++ 0 ∷ []) u in
      let y = names (p ++ 1 ∷ []) s in
      let c = (mended same t u).dropped in
      let d = (mended same r s).dropped in
      elim (named_either (names (p ++ 0 ∷ []) t) (names (p ++ 1 ∷ []) r) m n h) [
        | inl i ↦ turned p 0 a (under 0 a ++ under 1 b) x (x ++ y) c (c ++ d) m n (inside_left a b) (named_left x y m n)
            (Contains-append_left c d m) (left m n i)
        | inr i ↦ turned p 1 b (under 0 a ++ under 1 b) y (x ++ y) d (c ++ d) m n (inside_right a b) (named_right x y m n)
            (Contains-append_right c d m) (right m n i)
      ]

  names_go : (p : Path) (r s : Rec M) → Repaired same r s → (m : M) (n : Name) → IsNamed (names p r) m n
      → Went p (redone same r s) (names p s) (mended same r s).dropped m n
  names_go p E E re m n h = absurd h
  names_go p (A k r) (A l s) re m n (inl h) =
      record {
        on = [];
        is = sym h.1 ∙ ap Made (sym (append-nil p));
        goes = inl (inside_root (under 3 (redone same r s)), inl (sym re.0 ∙ h.0, h.1));
      }
  names_go p (A k r) (A l s) re m n (inr h) =
      let zs = redone same r s in
      let d = (mended same r s).dropped in
      let now = names (p ++ 3 ∷ []) s in
      turned p 3 zs (under 3 zs) now ((l, Made p) ∷ now) d d m n (inside_under 3 zs) (λ i. inr i) (λ i. i)
      (names_go (p ++ 3 ∷ []) r s re.1 m n h)
  names_go p (W k v r) (W l u s) re m n h =
      let zs = redone same r s in
      let d = (mended same r s).dropped in
      let now = names (p ++ 3 ∷ []) s in
      turned p 3 zs (under 3 zs) now now d d m n (inside_under 3 zs) (λ i. i) (λ i. i) (names_go (p ++ 3 ∷ []) r s re.2 m n h)
  names_go p (S t r) (S u s) re m n h =
      both_go p t r u s (names_go (p ++ 0 ∷ []) t u re.0) (names_go (p ++ 1 ∷ []) r s re.1) m n h
  names_go p (P t r) (P u s) re m n h =
      both_go p t r u s (names_go (p ++ 0 ∷ []) t u re.0) (names_go (p ++ 1 ∷ []) r s re.1) m n h
  names_go p (R room b e reads t) (R level c f again u) re m n h =
      let now = names (p ++ 2 ∷ []) u in
      elim (unlike same reads again) as (λ d. WhereLike d (Repaired same t u)
      → Went p (if d then [] ∷ [] else under 2 (redone same t u)) now (if d then anew t u else below (mended same t u)).dropped m n) [
        | true ↦ λ like.
            (let i = names_under (p ++ 2 ∷ []) t m n h in
            record {
              on = 2 ∷ i.0;
              is = i.1 ∙ ap Made (append_assoc p (2 ∷ []) i.0);
              goes = inr (inside_here 2 i.0, made_contains t m (names_made (p ++ 2 ∷ []) t m n h));
            })
        | false ↦ λ like.
            (let zs = redone same t u in
            let d = (mended same t u).dropped in
            turned p 2 zs (under 2 zs) now now d d m n (inside_under 2 zs) (λ i. i) (λ i. i) (names_go (p ++ 2 ∷ []) t u like m n h))
      ] re.4
  names_go p _ _ re m n h = absurd re

  -- of the whole record
  pub names_went : (r s : Rec M) → Repaired same r s → (m : M) (q : Path) → IsNamed (names [] r) m (Made q)
      → ((is_inside (redone same r s) q ≡ false) × IsNamed (names [] s) m (Made q))
      ⊎ ((is_inside (redone same r s) q ≡ true) × Contains (mended same r s).dropped m)
  names_went r s re m q h =
      let w = names_go [] r s re m (Made q) h in
      let e : w.on ≡ q = sym (made_is q w.on w.is) in
      elim w.goes [
        | inl g ↦ inl (subst (λ z. is_inside (redone same r s) z ≡ false) e g.0, g.1)
        | inr g ↦ inr (subst (λ z. is_inside (redone same r s) z ≡ true) e g.0, g.1)
      ]
