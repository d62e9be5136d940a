-- What a statement is, told from what it asks for.
use Rattle.std.proofs.Common.{◌≡◌, ℕ, Bool, true, false, if◌then◌else◌, List, [], map, Option, Some, None, Ok, refl, subst, ◌⊎◌, inl, inr}
use Rattle.psac_ops.specs.Value.{Value}
use Rattle.psac_syntax.specs.declared.program.Expr.{Expr}
use Rattle.psac_syntax.specs.declared.program.Stmt.{Stmt}
use Rattle.psac_syntax.specs.declared.program.Stmt.TheOpen.{Stmt-F}
use Rattle.psac_syntax.specs.declared.program.ReadItem.{ReadItem}
use Rattle.psac_syntax.specs.declared.program.Func.{Func}
use Rattle.psac_model.specs.Names.{Env}
use Rattle.psac_model.specs.Expression.{Setting, value_of, in_order}
use Rattle.psac_model.specs.Tree.{Reads}
use Rattle.psac_model.specs.Run.{Action, Bind, Make, Put, Body, Block, Sides, action_of, read_of, with_reads, destination, reference, as_bool, bound_to, call_of, func_named}
use Rattle.psac_traced.specs.Rec.{HeapOf}
use Rattle.psac_traced.specs.Traced.{listed}
use Rattle.psac_traced.proofs.Results.{ok_is, ok_then}

module _ {N : Type 0} (w : Setting N) (funcs : List Func) (env : Env N) where
  abbrev pub Asked : HeapOf N → Stmt-F Stmt → Action N → Type 0
  Asked heap (Stmt-F.Let line x e) (Bind y v) = Unit {0}
  Asked heap (Stmt-F.New line d) (Make e) = Unit {0}
  Asked heap (Stmt-F.Write line d e) (Put m v) = Unit {0}
  Asked heap (Stmt-F.Read line number items body) (Block block reads inside there) =
      (number ≡ block) × (body ≡ inside) × (in_order (map (read_of (listed w) w env heap) items) ≡ Ok reads) × (with_reads env items reads ≡ there)
  Asked heap (Stmt-F.If line e first second) (Body body there) = (first ≡ body) ⊎ (second ≡ body)
  Asked heap (Stmt-F.Par line left right) (Sides one other) = (left ≡ one) × (right ≡ other)
  Asked heap (Stmt-F.Call line f values dests) (Body body there) = (g : Func) × (func_named f funcs ≡ Some g) × (g.body ≡ body)
  Asked heap _ _ = ⊥

  call_asked : (line f : ℕ) (values : List Expr) (dests : List ℕ) (heap : HeapOf N) (o : Option Func) (vs ds : List (Value N)) (a : Action N) → func_named f funcs ≡ o → call_of o vs ds ≡ Ok a → Asked heap (Stmt-F.Call line f values dests) a
  call_asked line f values dests heap None vs ds a i h = absurd cc
  call_asked line f values dests heap (Some g) vs ds a i h =
      let b = ok_then (bound_to g.values vs []) _ a h in
      let c = ok_then (bound_to g.dests ds b.0) _ a b.2 in
      let e : Body g.body c.0 ≡ a = ok_is c.2 in
      subst (Asked heap (Stmt-F.Call line f values dests)) e (g, i, refl)

  branch : (b : Bool) (first second : List Stmt) → (first ≡ (if b then first else second)) ⊎ (second ≡ (if b then first else second))
  branch true first second = inl refl
  branch false first second = inr refl

  pub asked : (heap : HeapOf N) (f : Stmt-F Stmt) (a : Action N) → action_of (listed w) w funcs env heap f ≡ Ok a → Asked heap f a
  asked heap (Stmt-F.Let line x e) a h =
      let b = ok_then (value_of w env e) _ a h in
      let is : Bind x b.0 ≡ a = ok_is b.2 in
      subst (Asked heap (Stmt-F.Let line x e)) is tt
  asked heap (Stmt-F.New line d) a h =
      let is : Make d ≡ a = ok_is h in
      subst (Asked heap (Stmt-F.New line d)) is tt
  asked heap (Stmt-F.Write line d e) a h =
      let b = ok_then (value_of w env e) _ a h in
      let c = ok_then (destination env d) _ a b.2 in
      let is : Put c.0 b.0 ≡ a = ok_is c.2 in
      subst (Asked heap (Stmt-F.Write line d e)) is tt
  asked heap (Stmt-F.Read line number items body) a h =
      let b = ok_then (in_order (map (read_of (listed w) w env heap) items)) _ a h in
      let is : Block number b.0 body (with_reads env items b.0) ≡ a = ok_is b.2 in
      subst (Asked heap (Stmt-F.Read line number items body)) is (refl, refl, b.1, refl)
  asked heap (Stmt-F.If line e first second) a h =
      let b = ok_then (value_of w env e) _ a h in
      let c = ok_then (as_bool b.0) _ a b.2 in
      let is : Body (if c.0 then first else second) env ≡ a = ok_is c.2 in
      subst (Asked heap (Stmt-F.If line e first second)) is (branch c.0 first second)
  asked heap (Stmt-F.Par line left right) a h =
      let is : Sides left right ≡ a = ok_is h in
      subst (Asked heap (Stmt-F.Par line left right)) is (refl, refl)
  asked heap (Stmt-F.Call line f values dests) a h =
      let b = ok_then (in_order (map (value_of w env) values)) _ a h in
      let c = ok_then (in_order (map (reference env) dests)) _ a b.2 in
      call_asked line f values dests heap (func_named f funcs) b.0 c.0 a refl c.2

  abbrev pub IsBlock : Action N → Type 0
  IsBlock (Block block reads body there) = Unit {0}
  IsBlock _ = ⊥

  -- only a read asks for other things over another heap
  pub asked_there : (heap other : HeapOf N) (f : Stmt-F Stmt) (a : Action N) → action_of (listed w) w funcs env heap f ≡ Ok a → (action_of (listed w) w funcs env other f ≡ Ok a) ⊎ IsBlock a
  asked_there heap other (Stmt-F.Let line x e) a h = inl h
  asked_there heap other (Stmt-F.New line d) a h = inl h
  asked_there heap other (Stmt-F.Write line d e) a h = inl h
  asked_there heap other (Stmt-F.Read line number items body) a h =
      let b = ok_then (in_order (map (read_of (listed w) w env heap) items)) _ a h in
      let is : Block number b.0 body (with_reads env items b.0) ≡ a = ok_is b.2 in
      inr (subst IsBlock is tt)
  asked_there heap other (Stmt-F.If line e first second) a h = inl h
  asked_there heap other (Stmt-F.Par line left right) a h = inl h
  asked_there heap other (Stmt-F.Call line f values dests) a h = inl h

  -- the items of a read that asks for this block
  pub asked_read : (heap : HeapOf N) (f : Stmt-F Stmt) (block : ℕ) (reads : Reads N) (body : List Stmt) (there : Env N) → action_of (listed w) w funcs env heap f ≡ Ok (Block block reads body there) → (items : List ReadItem) × (in_order (map (read_of (listed w) w env heap) items) ≡ Ok reads)
  asked_read heap f block reads body there h = by f (asked heap f (Block block reads body there) h)
    where
      by : (g : Stmt-F Stmt) → Asked heap g (Block block reads body there) → (items : List ReadItem) × (in_order (map (read_of (listed w) w env heap) items) ≡ Ok reads)
      by (Stmt-F.Read line number items inside) i = (items, i.2)
      by _ i = absurd i
