-- The work of a repair is that of the definition, for the runs by paths that the old and the new record stand for.
use Rattle.std.proofs.Common.{◌≡◌, ℕ, false, List, [], ◌++◌, Contains, refl, ap, sym, ◌∙◌, ◌⊎◌, inl, inr}
use Rattle.psac_syntax.specs.declared.program.Stmt.{Stmt}
use Rattle.psac_syntax.specs.declared.program.Func.{Func}
use Rattle.psac_model.specs.declared.ends.End.{End}
use Rattle.psac_model.specs.declared.ends.End.TheVariants.{Done}
use Rattle.psac_model.specs.Names.{Path, Name, Input, Out, Rows, Made, Env, Heap, same_name}
use Rattle.psac_model.specs.Expression.{Setting}
use Rattle.psac_model.specs.Run.{Ran, by_path, run}
use Rattle.psac_model.specs.Redo.{redo, made_inside}
use Rattle.psac_model.specs.Work.{repair_of}
use Rattle.psac_naming.specs.Alike.{Envs, Settings}
use Rattle.psac_naming.specs.Naming.{Naming, IsNamed, IsOneToOne, IsSameTest, Unused}
use Rattle.psac_naming.proofs.Namings.{named_left, named_right, named_either, tests_names}
use Rattle.psac_traced.specs.Rec.{Rec, HeapOf}
use Rattle.psac_traced.specs.Traced.{traced}
use Rattle.psac_traced.specs.Renamed.{Heaps}
use Rattle.psac_traced.specs.Places.{names, Makes, IsApart, HasName, name_in}
use Rattle.psac_traced.specs.Serial.{Serial, Repairs}
use Rattle.psac_traced.specs.Scoped.{On, Reading, Scoped}
use Rattle.psac_traced.specs.Parts.{IsClosed}
use Rattle.psac_traced.specs.Mended.{Mended}
use Rattle.psac_traced.specs.Mending.{mended, work_of}
use Rattle.psac_traced.specs.Repaired.{Repaired, Grown}
use Rattle.psac_traced.specs.Redone.{redone}
use Rattle.psac_traced.proofs.Alike.{tree_image}
use Rattle.psac_traced.proofs.Places.{made_named, names_made}
use Rattle.psac_traced.proofs.Serial.{traced_serial}
use Rattle.psac_traced.proofs.Mended.{traced_mended}
use Rattle.psac_traced.proofs.Kept.{mended_repaired, mended_grown}
use Rattle.psac_traced.proofs.Renewed.{IsDistinct, new_made, new_apart}
use Rattle.psac_traced.proofs.Scoped.{traced_scoped, scoped_reads}
use Rattle.psac_traced.proofs.Told.{told}
use Rattle.psac_traced.proofs.Has.{env_has, heap_has, name_in_is}
use Rattle.psac_traced.proofs.Counts.{repaired_work}

unmade : {M : Type 0} (base : Naming M) → Unused [] base → (zs : List Path) (m : M) (n : Name) → IsNamed base m n → made_inside zs n ≡ false
unmade base un zs m (Made q) h = absurd (un m q h)
unmade base un zs m (Input r c) h = refl
unmade base un zs m (Out i) h = refl
unmade base un zs m Rows h = refl

module _ {M : Type 0} (w : Setting M) (u : Setting Name) (same : IsSameTest w.same) (plain : u.same ≡ same_name) (funcs : List Func) (base : Naming M) (inputs : Settings (IsNamed base) w u) (un : Unused [] base) where
  abbrev Base : M → Type 0
  Base = HasName base

  inputs_on : Settings (On Base) w w
  inputs_on =
      record {
        opened = refl;
        room = refl;
        cols = refl;
        texts = refl;
        cells = λ r c h k.
            ((u.cell r c, inputs.cells r c h k), refl);
        row_count = ((u.row_count, inputs.row_count), refl);
      }

  scoped : (room : ℕ) (body : List Stmt) (env : Env M) (env' : Env Name) (heap : HeapOf M) (heap' : Heap) (r : Rec M) (end : End) → Envs (IsNamed base) env env' → Heaps (IsNamed base) heap heap' → traced w funcs room body env heap r end → Scoped Base r
  scoped room body env env' heap heap' r end e h t =
      (traced_scoped w funcs Base inputs_on room Base (λ m i. i) body env heap r end (env_has (IsNamed base) env env' e) (heap_has (IsNamed base) heap heap' h) t).0

  -- the old record and the new one, from the same environment over two heaps, with the runs by paths that they stand for
  pub repair_is : (room : ℕ) (body : List Stmt) (env : Env M) (env' : Env Name) (heap again : HeapOf M) (heap' again' : Heap) (r s : Rec M) (end last : End) (before after : Ran Name Heap) → Envs (IsNamed base) env env' → Heaps (IsNamed base) heap heap' → Heaps (IsNamed base) again again' → traced w funcs room body env heap r end → traced w funcs room body env again s last → Serial (base ++ names [] r) r heap end before → Serial (base ++ names [] s) s again last after → Repaired w.same r s → ((m : M) → Contains (mended w.same r s).created m → HasName (base ++ names [] r) m → ⊥) → work_of (mended w.same r s) ≡ repair_of (redo before.tree after.tree) before.tree after.tree
  repair_is room body env env' heap again heap' again' r s end last before after e h k t q old new re fresh =
      let ns = base ++ names [] r in
      let ms = base ++ names [] s in
      let f = name_in w.same ns in
      let g = name_in w.same ms in
      let O : M → Type 0 = HasName ns in
      let f_is : (m : M) (n : Name) → IsNamed ns m n → f m ≡ n = name_in_is w.same same ns old.one in
      let g_is : (m : M) (n : Name) → IsNamed ms m n → g m ≡ n = name_in_is w.same same ms new.one in
      let left : (m : M) (n : Name) → IsNamed base m n → IsNamed ns m n = named_left base (names [] r) in
      let right : (m : M) (n : Name) → IsNamed (names [] r) m n → IsNamed ns m n = named_right base (names [] r) in
      let one : (m l : M) → O m → O l → w.same m l ≡ same_name (f m) (f l) =
      λ m l i j. tests_names ns w.same same_name old.one same refl m l i.0 j.0 i.1 j.1 ∙ ap (λ z. same_name z j.0) (sym (f_is m i.0 i.1)) ∙ ap (same_name (f m)) (sym (f_is l j.0 j.1)) in
      let made : (m : M) → Makes r m → O m = λ m i. (let n = made_named [] r m i in (n.0, right m n.0 n.1)) in
      let reading : Reading O r = scoped_reads Base O r (λ m i. (i.0, left m i.0 i.1)) made (scoped room body env env' heap heap' r end e h t) in
      let zs = redone w.same r s in
      let tells = told w.same f g O zs one same.alone [] [] r s re (λ z. refl) Base (λ z i. absurd cc)
      (λ m i. inl ((i.0, left m i.0 i.1), f_is m i.0 (left m i.0 i.1) ∙ sym (g_is m i.0 (named_left base (names [] s) m i.0 i.1)), ap (made_inside zs) (g_is m i.0 (named_left base (names [] s) m i.0 i.1)) ∙ unmade base un zs m i.0 i.1))
      reading (scoped room body env env' again again' s last e k q) made
      (λ m n i. f_is m n (right m n i))
      (λ m n i. g_is m n (named_right base (names [] s) m n i)) fresh in
      rw (← (tree_image (IsNamed ns) f f_is r before.tree old.trees), ← (tree_image (IsNamed ms) g g_is s after.tree new.trees)) (repaired_work w.same f g r s tells)

  -- what comes of an old record over another heap is what a run may leave there, and stands for the run by paths; also where it stops
  pub mended_serial : (Q : List Stmt → Type 0) → IsClosed funcs Q → IsOneToOne base → (room : ℕ) (body : List Stmt) (env : Env M) (env' : Env Name) (heap other : HeapOf M) (other' : Heap) (r s : Rec M) (end : End) → Q body → Envs (IsNamed base) env env' → Heaps (IsNamed base) other other' → IsApart r → ((m : M) → Base m → Makes r m → ⊥) → traced w funcs room body env heap r Done → Mended w funcs Q other r s end → IsDistinct (mended w.same r s).created → ((m : M) → Contains (mended w.same r s).created m → Base m ⊎ Makes r m → ⊥) → traced w funcs room body env other s end × Serial (base ++ names [] s) s other end (run by_path u funcs room body env' other' [])
  mended_serial Q closed one room body env env' heap other other' r s end q e k apart new t m distinct fresh =
      let grown : Grown w.same r s = mended_grown w same funcs Q other r s end m in
      let stands = traced_mended w funcs Q closed r s room body env heap other end q t m in
      let apart_now : IsApart s = new_apart w.same r s grown apart (λ l i j. fresh l i (inr j)) distinct in
      let new_now : (l : M) (n : Name) → IsNamed base l n → Makes s l → ⊥ =
      λ l n i j. elim (new_made w.same r s grown l j) [ inl a ↦ new l (n, i) a | inr a ↦ fresh l a (inl (n, i)) ] in
      (stands, traced_serial w u same plain funcs base one inputs room body env env' other other' [] s end e k un apart_now new_now stands)

  -- a repair: the new record, and the work
  pub repair_law : (Q : List Stmt → Type 0) → IsClosed funcs Q → IsOneToOne base → (room : ℕ) (body : List Stmt) (env : Env M) (env' : Env Name) (heap other : HeapOf M) (heap' other' : Heap) (r s : Rec M) → Q body → Envs (IsNamed base) env env' → Heaps (IsNamed base) heap heap' → Heaps (IsNamed base) other other' → IsApart r → ((m : M) → Base m → Makes r m → ⊥) → traced w funcs room body env heap r Done → Mended w funcs Q other r s Done → IsDistinct (mended w.same r s).created → ((m : M) → Contains (mended w.same r s).created m → Base m ⊎ Makes r m → ⊥) → Repairs w funcs room body env other (base ++ names [] s) r s (run by_path u funcs room body env' heap' []) (run by_path u funcs room body env' other' [])
  repair_law Q closed one room body env env' heap other heap' other' r s q e h k apart new t m distinct fresh =
      let old = traced_serial w u same plain funcs base one inputs room body env env' heap heap' [] r Done e h un apart (λ l n i j. new l (n, i) j) t in
      let now = mended_serial Q closed one room body env env' heap other other' r s Done q e k apart new t m distinct fresh in
      record {
        stands = now.0;
        serial = now.1;
        work = repair_is room body env env' heap other heap' other' r s Done Done (run by_path u funcs room body env' heap' []) (run by_path u funcs room body env' other' []) e h k t now.0 old now.1 (mended_repaired w same funcs Q other r s m)
            (λ l i j. elim (named_either base (names [] r) l j.0 j.1) [ inl a ↦ fresh l i (inl (j.0, a)) | inr a ↦ fresh l i (inr (names_made [] r l j.0 a)) ]);
      }
