-- Where the run of a checked program is done, each output is held, and was written once.
use Rattle.std.proofs.Common.{◌≡◌, ℕ, zero, suc, ◌+◌, ◌<◌, ◌==◌, true, false, not, List, [], ◌∷◌, All, map, length, Some, None, refl, ap, sym, ◌∙◌, subst, arith, add-zero}
use Rattle.psac_ops.specs.Value.{ref}
use Rattle.psac_inputs.specs.Grid.{Grid}
use Rattle.psac_model.specs.declared.ends.End.TheVariants.{Done}
use Rattle.psac_model.specs.Names.{Name, Out, Env, bound, bind, held}
use Rattle.psac_model.specs.Fresh.{World, fresh, setting, main_env, grid_heap}
use Rattle.psac_model.specs.Series.{has}
use Rattle.psac_laws.specs.Standing.{series_of, params, distinct}
use Rattle.psac_laws.proofs.Places.{nat_same, and_is}
use Rattle.psac_laws.proofs.Good.{wrote}
use Rattle.psac_laws.proofs.Rules.{leaves, or_left, or_right, or_not, not_is}
use Rattle.psac_laws.proofs.Safe.{Target, ref_is, bound_old, bound_new}
use Rattle.psac_laws.proofs.Sound.{run_sound}
use Rattle.psac_laws.proofs.Calls.{distinct_parts}
use Rattle.psac_laws.proofs.Opening.{IsChecked, opening_safe}
use Rattle.psac_series.specs.Outputs.{IsWritten}

-- a name that is no destination of main is bound as before
main_before : (i : ℕ) (ds : List ℕ) (env : Env Name) (x : ℕ) → has x ds ≡ false
    → bound x (main_env i ds env) ≡ bound x env
main_before i [] env x h = refl
main_before i (d ∷ ds) env x h =
    let b = or_not (d == x) (has x ds) h in
    main_before (i + 1) ds (bind d (ref (Out i)) env) x b.1 ∙ bound_old d x (ref (Out i)) env b.0

-- the destination at a place is bound to the output of that place
record At (i : ℕ) (ds : List ℕ) (env : Env Name) (k : ℕ) : Type 0 where
  name : ℕ
  among : has name ds ≡ true
  is : bound name (main_env i ds env) ≡ Some (ref (Out (i + k)))

at_place : (i : ℕ) (ds : List ℕ) (env : Env Name) (k : ℕ) → distinct ds ≡ true → k < length ds → At i ds env k
at_place i [] env k d l = absurd (omega arith)
at_place i (x ∷ ds) env zero d l =
    let b = and_is (not (has x ds)) (distinct ds) d in
    record {
      name = x;
      among = or_left (x == x) (has x ds) (nat_same x);
      is = main_before (i + 1) ds (bind x (ref (Out i)) env) x (not_is (has x ds) b.0)
          ∙ bound_new x x (ref (Out i)) env (nat_same x) ∙ ap (λ z. Some (ref (Out z))) (sym (add-zero i));
    }
at_place i (x ∷ ds) env (suc k) d l =
    let b = and_is (not (has x ds)) (distinct ds) d in
    let more = at_place (i + 1) ds (bind x (ref (Out i)) env) k b.1 (omega arith) in
    let e : (i + 1) + k ≡ i + suc k = omega arith in
    record {
      name = more.name;
      among = or_right (x == more.name) (has more.name ds) more.among;
      is = more.is
          ∙ ap (λ z. Some (ref (Out z))) e;
    }

module _ (w : World) (g : Grid) (whole : length g.cells ≡ g.room) (even : All (λ row. length row ≡ g.cols) g.cells)
    (checked : IsChecked w) where
  pub each_written : (fresh w g).end ≡ Done → (i : ℕ) → i < length w.main.dests → IsWritten (fresh w g) (Out i)
  unfolding fresh
  each_written done i below =
      let l = leaves (map series_of w.main.body) (params w.main) [] checked.start.body in
      let h = grid_heap g in
      let safe = opening_safe w g whole even checked in
      let env = main_env 0 w.main.dests [] in
      let good = run_sound (setting w.texts g) w.program.funcs checked.each 300 w.main.body
      (params w.main) l.end env h [] l.meets safe in
      let parts = distinct_parts w.main.values w.main.dests checked.start.header in
      let at = at_place 0 w.main.dests [] i parts.second below in
      let e : 0 + i ≡ i = omega arith in
      let is : bound at.name env ≡ Some (ref (Out i)) = subst (λ z. bound at.name env ≡ Some (ref (Out z))) e at.is in
      let target : Target (params w.main) l.end.unwritten env (Out i) =
      (at.name, at.among, subst (λ z. has at.name z ≡ false) (sym l.unwritten) refl, is) in
      let opens = safe.opens at.name at.among in
      let lacks : held h (Out i) ≡ None = subst (λ n. held h n ≡ None) (ref_is (sym opens.1 ∙ is)) opens.2 in
      let left = good.done done (Out i) target in
      record { value = left.0; has_it = left.1; once = wrote good done (Out i) target lacks }
