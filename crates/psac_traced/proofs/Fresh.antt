-- Records of whole programs stand for fresh runs.
use Rattle.std.proofs.Common.{◌≡◌, List, [], ◌++◌, Contains, refl, subst, ◌⊎◌}
use Rattle.psac_syntax.specs.declared.program.Stmt.{Stmt}
use Rattle.psac_inputs.specs.Grid.{Grid}
use Rattle.psac_model.specs.declared.ends.End.{End}
use Rattle.psac_model.specs.declared.ends.End.TheVariants.{Done}
use Rattle.psac_model.specs.Names.{Env}
use Rattle.psac_model.specs.Expression.{Setting}
use Rattle.psac_model.specs.Run.{by_path, run}
use Rattle.psac_model.specs.Fresh.{World, fresh, setting, levels, main_env, grid_heap}
use Rattle.psac_naming.specs.Alike.{Envs, Settings}
use Rattle.psac_naming.specs.Naming.{Naming, IsNamed, IsOneToOne, IsSameTest, Unused}
use Rattle.psac_traced.specs.Rec.{Rec, HeapOf}
use Rattle.psac_traced.specs.Traced.{traced}
use Rattle.psac_traced.specs.Renamed.{Heaps}
use Rattle.psac_traced.specs.Places.{names, Makes, IsApart, HasName}
use Rattle.psac_traced.specs.Mending.{mended}
use Rattle.psac_traced.specs.Parts.{IsClosed}
use Rattle.psac_traced.specs.Mended.{Mended}
use Rattle.psac_traced.specs.Serial.{Serial, Repairs}
use Rattle.psac_traced.proofs.Serial.{traced_serial}
use Rattle.psac_traced.proofs.Renewed.{IsDistinct}
use Rattle.psac_traced.proofs.Repaired.{mended_serial, repair_law}

-- main's own modifiables and those of the inputs, over any names, with the names that they stand for
module _ {M : Type 0} (w : World) (g : Grid) (u : Setting M) (same : IsSameTest u.same) (base : Naming M) (one : IsOneToOne base) (inputs : Settings (IsNamed base) u (setting w.texts g)) (un : Unused [] base) (env : Env M) (envs : Envs (IsNamed base) env (main_env 0 w.main.dests [])) (heap : HeapOf M) (heaps : Heaps (IsNamed base) heap (grid_heap g)) where
  -- a tracing run
  pub fresh_traced : (r : Rec M) (end : End) → IsApart r → ((m : M) → HasName base m → Makes r m → ⊥) → traced u w.program.funcs levels w.main.body env heap r end → Serial (base ++ names [] r) r heap end (fresh w g)
  unfolding fresh
  fresh_traced r end apart new t =
      traced_serial u (setting w.texts g) same refl w.program.funcs base one inputs levels w.main.body env (main_env 0 w.main.dests []) heap (grid_heap g) [] r end envs heaps un apart (λ m n i j. new m (n, i) j) t

  module _ (h : Grid) (still : setting w.texts g ≡ setting w.texts h) (other : HeapOf M) (others : Heaps (IsNamed base) other (grid_heap h)) (Q : List Stmt → Type 0) (closed : IsClosed w.program.funcs Q) (main_so : Q w.main.body) (r s : Rec M) (apart : IsApart r) (new : (m : M) → HasName base m → Makes r m → ⊥) (t : traced u w.program.funcs levels w.main.body env heap r Done) (distinct : IsDistinct (mended u.same r s).created) (anew : (m : M) → Contains (mended u.same r s).created m → HasName base m ⊎ Makes r m → ⊥) where
    -- a repair over the inputs of another grid, also where it stops
    pub fresh_mended : (end : End) → Mended u w.program.funcs Q other r s end → Serial (base ++ names [] s) s other end (fresh w h)
    unfolding fresh
    fresh_mended end m =
        subst (λ z. Serial (base ++ names [] s) s other end (run by_path z w.program.funcs levels w.main.body (main_env 0 w.main.dests []) (grid_heap h) [])) still
        (mended_serial u (setting w.texts g) same refl w.program.funcs base inputs un Q closed one levels w.main.body env (main_env 0 w.main.dests []) heap other (grid_heap h) r s end main_so envs others apart new t m distinct anew).1

    -- and its work, where it is done
    pub fresh_repaired : Mended u w.program.funcs Q other r s Done → Repairs u w.program.funcs levels w.main.body env other (base ++ names [] s) r s (fresh w g) (fresh w h)
    unfolding fresh
    fresh_repaired m =
        subst (λ z. Repairs u w.program.funcs levels w.main.body env other (base ++ names [] s) r s (fresh w g) (run by_path z w.program.funcs levels w.main.body (main_env 0 w.main.dests []) (grid_heap h) [])) still
        (repair_law u (setting w.texts g) same refl w.program.funcs base inputs un Q closed one levels w.main.body env (main_env 0 w.main.dests []) heap other (grid_heap g) (grid_heap h) r s main_so envs heaps others apart new t m distinct anew)
