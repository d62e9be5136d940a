-- From statements that fit, what they ask for fits: each step of a run keeps its environment within the limit.
use Rattle.std.proofs.Common.{◌≡◌, ℕ, ◌+◌, ◌≤◌, ◌<◌, ◌&&◌, nat_le, Bool, true, false, if◌then◌else◌, List, [], ◌∷◌, length, map, Option, Some, None, Ok, refl, ◌∙◌, subst, arith}
use Rattle.std.proofs.lemmas.List.{length-map}
use Rattle.std.proofs.lemmas.Bool.Decides.{nat_tests}
use Rattle.psac_ops.specs.Value.{Value}
use Rattle.psac_syntax.specs.declared.program.Stmt.{Stmt, out-Stmt, map-Stmt}
use Rattle.psac_syntax.specs.declared.program.Stmt.TheOpen.{Stmt-F}
use Rattle.psac_syntax.specs.declared.program.Func.{Func}
use Rattle.psac_syntax.proofs.Folds.{stmt_fold_out}
use Rattle.psac_model.specs.Names.{Env, bind}
use Rattle.psac_model.specs.Expression.{Setting, value_of, in_order}
use Rattle.psac_model.specs.Run.{Store, Action, Bind, Make, Put, Body, Block, Sides, action_of, read_of, with_reads, as_bool, destination, reference, bound_to, call_of, func_named}
use Rattle.psac_scope.specs.Scope.{most_names, Scoping, one_by_one, scoping_step, scoping_of, Fits, FuncsFit, ActFits}
use Rattle.psac_scope.proofs.Lengths.{ok_is, ok_then, in_order_length, bind_length, reads_length, params_length}

-- the layer of a statement
abbrev pub opened : Stmt-F Stmt → Stmt-F Scoping
opened f = map-Stmt Stmt Scoping scoping_of f

pub scoping_out : (s : Stmt) → scoping_of s ≡ scoping_step (opened (out-Stmt s))
unfolding scoping_of
scoping_out s = stmt_fold_out Scoping scoping_step s

-- fewer names
pub fewer : (body : List Stmt) (m n : ℕ) → m ≤ n → Fits body n → Fits body m
fewer body m n h f = let some = f.some in record { count = f.count; some = omega arith; most = f.most; inside = f.inside }

-- no more than the most
pub fits_most : (body : List Stmt) (n : ℕ) → Fits body n → n ≤ most_names
fits_most body n f = let some = f.some in let most = f.most in omega arith

both_true : (a b : Bool) → (a && b) ≡ true → (a ≡ true) × (b ≡ true)
both_true true b h = (refl, h)
both_true false b h = absurd cc

module _ {N H : Type 0} (st : Store N H) (w : Setting N) (funcs : List Func) (fit : FuncsFit funcs) (rest : List Stmt) (env : Env N) (heap : H) (count : ℕ) (some : length env ≤ count) (most : count ≤ most_names) where
  abbrev Behind : ℕ → Type 0
  Behind n = one_by_one (map scoping_of rest) (count + n) ≡ true

  -- the rest, where no name was bound
  still : Behind 0 → Fits rest (length env)
  still b = record { count = count + 0; some = omega arith; most = omega arith; inside = b }

  inner_fits : (body : List Stmt) → one_by_one (map scoping_of body) count ≡ true → Fits body (length env)
  inner_fits body b = record { count = count; some = some; most = most; inside = b }

  bound_fits : (x : ℕ) (v : Value N) → count < most_names → Behind 1 → Fits rest (length (bind x v env))
  bound_fits x v less b = let one = bind_length x v env in record { count = count + 1; some = omega arith; most = omega arith; inside = b }

  called_fits : (o : Option Func) (f : ℕ) (vs ds : List (Value N)) (a : Action N) → func_named f funcs ≡ o → call_of o vs ds ≡ Ok a → Behind 0 → ActFits rest env a
  called_fits None f vs ds a i h b = absurd cc
  called_fits (Some g) f vs ds a i h b =
      let p = ok_then (bound_to g.values vs []) _ a h in
      let q = ok_then (bound_to g.dests ds p.0) _ a p.2 in
      let e : Body g.body q.0 ≡ a = ok_is q.2 in
      let one = params_length g.values vs [] p.0 p.1 in
      let two = params_length g.dests ds p.0 q.0 q.1 in
      subst (ActFits rest env) e (fewer g.body (length q.0) (length g.values + length g.dests) (omega arith) (fit f g i), still b)

  act_fits : (f : Stmt-F Stmt) (a : Action N) → (scoping_step (opened f)).fits count ≡ true → Behind (scoping_step (opened f)).binds → action_of st w funcs env heap f ≡ Ok a → ActFits rest env a
  act_fits (Stmt-F.Let line x e) a t b h =
      let p = ok_then (value_of w env e) _ a h in
      let is : Bind x p.0 ≡ a = ok_is p.2 in
      let less : count < most_names = grind (arith, nat_tests) in
      subst (ActFits rest env) is (omega arith, bound_fits x p.0 less b)
  act_fits (Stmt-F.New line d) a t b h =
      let is : Make d ≡ a = ok_is h in
      let less : count < most_names = grind (arith, nat_tests) in
      subst (ActFits rest env) is (omega arith, λ v. bound_fits d v less b)
  act_fits (Stmt-F.Write line d e) a t b h =
      let p = ok_then (value_of w env e) _ a h in
      let q = ok_then (destination env d) _ a p.2 in
      let is : Put q.0 p.0 ≡ a = ok_is q.2 in
      subst (ActFits rest env) is (still b)
  act_fits (Stmt-F.Read line block items body) a t b h =
      let p = ok_then (in_order (map (read_of st w env heap) items)) _ a h in
      let is : Block block p.0 body (with_reads env items p.0) ≡ a = ok_is p.2 in
      let long : length p.0 ≡ length items = in_order_length (map (read_of st w env heap) items) p.0 p.1 ∙ length-map items _ in
      let i = both_true (nat_le (count + length items) most_names) (one_by_one (map scoping_of body) (count + length items)) t in
      let within : count + length items ≤ most_names = grind (arith, nat_tests) in
      let more = reads_length env items p.0 in
      subst (ActFits rest env) is (omega arith, record { count = count + length items; some = omega arith; most = within; inside = i.1 }, still b)
  act_fits (Stmt-F.If line e first second) a t b h =
      let p = ok_then (value_of w env e) _ a h in
      let q = ok_then (as_bool p.0) _ a p.2 in
      let is : Body (if q.0 then first else second) env ≡ a = ok_is q.2 in
      let i = both_true (one_by_one (map scoping_of first) count) (one_by_one (map scoping_of second) count) t in
      subst (ActFits rest env) is (elim q.0 as (λ z. Fits (if z then first else second) (length env)) [ true ↦ inner_fits first i.0 | false ↦ inner_fits second i.1 ], still b)
  act_fits (Stmt-F.Par line left right) a t b h =
      let is : Sides left right ≡ a = ok_is h in
      let i = both_true (one_by_one (map scoping_of left) count) (one_by_one (map scoping_of right) count) t in
      subst (ActFits rest env) is (inner_fits left i.0, inner_fits right i.1, still b)
  act_fits (Stmt-F.Call line f values dests) a t b h =
      let p = ok_then (in_order (map (value_of w env) values)) _ a h in
      let q = ok_then (in_order (map (reference env) dests)) _ a p.2 in
      called_fits (func_named f funcs) f p.0 q.0 a refl q.2 b

-- from statements to what the first of them asks for
pub fits_act : {N H : Type 0} (st : Store N H) (w : Setting N) (funcs : List Func) → FuncsFit funcs → (s : Stmt) (rest : List Stmt) (env : Env N) (heap : H) (a : Action N) → Fits (s ∷ rest) (length env) → action_of st w funcs env heap (out-Stmt s) ≡ Ok a → ActFits rest env a
fits_act st w funcs fit s rest env heap a f h =
    let is = scoping_out s in
    let i = both_true ((scoping_of s).fits f.count) (one_by_one (map scoping_of rest) (f.count + (scoping_of s).binds)) f.inside in
    act_fits st w funcs fit rest env heap f.count f.some f.most (out-Stmt s) a (subst (λ (z : Scoping). z.fits f.count ≡ true) is i.0) (subst (λ (z : Scoping). one_by_one (map scoping_of rest) (f.count + z.binds) ≡ true) is i.1) h
