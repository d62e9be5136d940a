-- What a repair of a whole program that was cut short drew is at most what stands inside the blocks that the model runs again.
use Rattle.std.proofs.Common.{◌≡◌, ℕ, List, [], ◌++◌, map, All, Contains, length, refl, ap, sym, ◌∙◌, subst, ◌⊎◌, inl, inr}
use Rattle.psac_syntax.specs.declared.program.Stmt.{Stmt}
use Rattle.psac_inputs.specs.Grid.{Grid}
use Rattle.psac_model.specs.declared.ends.End.TheVariants.{Done}
use Rattle.psac_model.specs.Names.{Path, Name, Env, same_name}
use Rattle.psac_model.specs.Expression.{Setting}
use Rattle.psac_model.specs.Tree.{Tree}
use Rattle.psac_model.specs.Redo.{is_inside, redo, redo_from}
use Rattle.psac_model.specs.Run.{run, by_path}
use Rattle.psac_model.specs.Work.{counted}
use Rattle.psac_model.specs.Fresh.{World, fresh, setting, levels, main_env, grid_heap}
use Rattle.psac_naming.specs.Alike.{Envs, Settings}
use Rattle.psac_naming.specs.Naming.{Naming, IsNamed, IsOneToOne, IsSameTest, Unused}
use Rattle.psac_naming.proofs.Namings.{named_left, named_right, tests_names}
use Rattle.psac_naming.proofs.Trees.{envs_more, reads_more}
use Rattle.psac_laws.specs.Standing.{series_of, params}
use Rattle.psac_laws.proofs.Good.{wider_same}
use Rattle.psac_laws.proofs.Rules.{leaves}
use Rattle.psac_laws.proofs.Opening.{IsChecked, opening_safe}
use Rattle.psac_traced.specs.Rec.{Rec, HeapOf}
use Rattle.psac_traced.specs.Traced.{traced}
use Rattle.psac_traced.specs.Renamed.{Heaps}
use Rattle.psac_traced.specs.Places.{names, Makes, IsApart, HasName, name_in}
use Rattle.psac_traced.specs.Scoped.{On, Reading}
use Rattle.psac_traced.specs.Mending.{mended}
use Rattle.psac_traced.specs.Parts.{IsClosed}
use Rattle.psac_traced.proofs.Alike.{tree_image}
use Rattle.psac_traced.proofs.Places.{names_more, only_one, made_named}
use Rattle.psac_traced.proofs.Scoped.{traced_scoped, scoped_reads}
use Rattle.psac_traced.proofs.Has.{env_has, heap_has, name_in_is}
use Rattle.psac_traced.proofs.Renewed.{IsDistinct, new_made, new_apart}
use Rattle.psac_traced.proofs.Fresh.{fresh_traced}
use Rattle.psac_cut.specs.Within.{IsWithin}
use Rattle.psac_cut_repair.specs.CutMended.{CutMended}
use Rattle.psac_cut_repair.specs.Creates.{creates, cut_drew}
use Rattle.psac_cut_repair.proofs.Cutting.{cut_grown}
use Rattle.psac_cut_repair.proofs.Walked.{old_of}
use Rattle.psac_cut_repair.proofs.Walk.{walk}

-- main's own modifiables and those of the inputs, over any names, with the names that they stand for
module _ {M : Type 0} (w : World) (g h : Grid) (rows : length h.cells ≡ h.room) (even : All (λ row. length row ≡ h.cols) h.cells) (still : setting w.texts g ≡ setting w.texts h) (checked : IsChecked w) (u : Setting M) (same : IsSameTest u.same) (base : Naming M) (one : IsOneToOne base) (inputs : Settings (IsNamed base) u (setting w.texts g)) (un : Unused [] base) (env : Env M) (envs : Envs (IsNamed base) env (main_env 0 w.main.dests [])) (heap other : HeapOf M) (heaps : Heaps (IsNamed base) heap (grid_heap g)) (others : Heaps (IsNamed base) other (grid_heap h)) where
  abbrev Base : M → Type 0
  Base = HasName base

  base_inputs : Settings (On Base) u u
  base_inputs =
      record {
        opened = refl;
        room = refl;
        cols = refl;
        texts = refl;
        cells = λ r c i k.
            (((setting w.texts g).cell r c, inputs.cells r c i k), refl);
        row_count = (((setting w.texts g).row_count, inputs.row_count), refl);
      }

  settings_more : (more : Naming M) → Settings (IsNamed (base ++ more)) u (setting w.texts h)
  settings_more more =
      subst (Settings (IsNamed (base ++ more)) u) still
      (record {
        opened = inputs.opened;
        room = inputs.room;
        cols = inputs.cols;
        texts = inputs.texts;
        cells = λ r c i k. named_left base more (u.cell r c) ((setting w.texts g).cell r c) (inputs.cells r c i k);
        row_count = named_left base more u.row_count (setting w.texts g).row_count inputs.row_count;
      })

  module _ (Q : List Stmt → Type 0) (closed : IsClosed w.program.funcs Q) (main_so : Q w.main.body) (r : Rec M) (apart : IsApart r) (outside : (m : M) → HasName base m → Makes r m → ⊥) (t : traced u w.program.funcs levels w.main.body env heap r Done) where
    pub cut_within : (c : Rec M) (n : ℕ) → IsDistinct (mended u.same r c).created → ((m : M) → Contains (mended u.same r c).created m → HasName base m ⊎ Makes r m → ⊥) → CutMended u w.program.funcs Q other r c n → IsWithin (cut_drew u.same r c n) (creates w g h)
    unfolding fresh redo
    cut_within c n distinct anew cut =
        let grown = cut_grown u w.program.funcs Q same other r c n cut in
        let c_apart : IsApart c = new_apart u.same r c grown apart (λ l i j. anew l i (inr j)) distinct in
        let c_new : (m : M) (k : Name) → IsNamed base m k → Makes c m → ⊥ = λ m k i j. elim (new_made u.same r c grown m j) [ inl a ↦ outside m (k, i) a | inr a ↦ anew m a (inl (k, i)) ] in
        let old = fresh_traced w g u same base one inputs un env envs heap heaps r Done apart outside t in
        let ns : Naming M = base ++ names [] r in
        let more = names [] c in
        let ms : Naming M = base ++ more in
        let T : M → Name → Type 0 = IsNamed ms in
        let single : IsOneToOne ms = names_more base [] c one un c_apart c_new in
        let wide : (m : M) (k : Name) → IsNamed base m k → T m k = named_left base more in
        let f = name_in u.same ns in
        let f' = name_in u.same ms in
        let O : M → Type 0 = HasName ns in
        let f_is : (m : M) (k : Name) → IsNamed ns m k → f m ≡ k = name_in_is u.same same ns old.one in
        let g_is : (m : M) (k : Name) → T m k → f' m ≡ k = name_in_is u.same same ms single in
        let one_name : (m l : M) → O m → O l → u.same m l ≡ same_name (f m) (f l) =
        λ m l i j. tests_names ns u.same same_name old.one same refl m l i.0 j.0 i.1 j.1 ∙ ap (λ z. same_name z j.0) (sym (f_is m i.0 i.1)) ∙ ap (same_name (f m)) (sym (f_is l j.0 j.1)) in
        let made : (m : M) → Makes r m → O m = λ m i. (let k = made_named [] r m i in (k.0, named_right base (names [] r) m k.0 k.1)) in
        let has : (m : M) → Base m → O m = λ m i. (i.0, named_left base (names [] r) m i.0 i.1) in
        let scope = env_has (IsNamed base) env (main_env 0 w.main.dests []) envs in
        let scoped = traced_scoped u w.program.funcs Base base_inputs levels Base (λ m i. i) w.main.body env heap r Done scope (heap_has (IsNamed base) heap (grid_heap g) heaps) t in
        let reading : Reading O r = scoped_reads Base O r has made scoped.0 in
        let start = leaves (map series_of w.main.body) (params w.main) [] checked.start.body in
        let u' = setting w.texts h in
        let walked = walk T (only_one ms single) u u' refl (settings_more more) (tests_names ms u.same u'.same single same refl) same w.program.funcs Q closed Base base_inputs f f' O g_is one_name checked.each levels Base w.main.body (params w.main) start.end env (main_env 0 w.main.dests []) heap other (grid_heap h) (grid_heap h) [] [] r c n main_so start.meets
        (record {
          sets = λ m i. i;
          safe = opening_safe w h rows even checked;
          wider = wider_same (grid_heap h);
          envs = envs_more (IsNamed base) T wide env (main_env 0 w.main.dests []) envs;
          heaps = reads_more (IsNamed base) T wide other (grid_heap h) others;
          scope = scope;
          reach = heap_has (IsNamed base) other (grid_heap h) others;
          known = λ m i. inl (has m i, f_is m i.0 (has m i).1 ∙ sym (g_is m i.0 (wide m i.0 i.1)));
        })
        (record { named = λ m k i. f_is m k (named_right base (names [] r) m k i); made = made; reading = reading })
        (named_right base more) t cut in
        let new = run by_path u' w.program.funcs levels w.main.body (main_env 0 w.main.dests []) (grid_heap h) [] in
        let zs : Tree Name → List Path = λ z. redo_from [] z new.tree [] in
        let image : old_of f r ≡ (fresh w g).tree = tree_image (IsNamed ns) f f_is r (fresh w g).tree old.trees in
        subst (λ z. IsWithin (cut_drew u.same r c n) (counted (is_inside (zs z)) [] new.tree)) image (walked.within (is_inside (zs (old_of f r))) (λ q i. i))
