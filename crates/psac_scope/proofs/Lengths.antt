-- How long environments are.
use Rattle.std.proofs.Common.{◌≡◌, ℕ, ◌+◌, ◌≤◌, ◌==◌, true, false, if◌then◌else◌, List, [], ◌∷◌, length, Result, Ok, Err, refl, subst, arith}
use Rattle.psac_ops.specs.Value.{Value, ref}
use Rattle.psac_ops.specs.Table.{◌>>=◌}
use Rattle.psac_syntax.specs.declared.program.ReadItem.{ReadItem}
use Rattle.psac_model.specs.declared.ends.FaultKind.{FaultKind}
use Rattle.psac_model.specs.Names.{Name, Out, Env, bind}
use Rattle.psac_model.specs.Tree.{Reads}
use Rattle.psac_model.specs.Expression.{in_order}
use Rattle.psac_model.specs.Run.{with_reads, bound_to}
use Rattle.psac_model.specs.Fresh.{main_env}

pub ok_is : {A X : Type 0} {x y : A} → (let r : Result A X = Ok x in r ≡ Ok y) → x ≡ y
ok_is h = cc

pub ok_then : {A B X : Type 0} (r : Result A X) (f : A → Result B X) (y : B) → (r >>= f) ≡ Ok y → (x : A) × (r ≡ Ok x) × (f x ≡ Ok y)
ok_then (Ok x) f y h = (x, refl, h)
ok_then (Err k) f y h = absurd cc

pub in_order_length : {A : Type 0} (rs : List (Result A FaultKind)) (xs : List A) → in_order rs ≡ Ok xs → length xs ≡ length rs
in_order_length [] xs h = subst (λ z. length z ≡ 0) (ok_is h) refl
in_order_length (r ∷ rs) xs h =
    let a = ok_then r _ xs h in
    let b = ok_then (in_order rs) _ xs a.2 in
    let more = in_order_length rs b.0 b.1 in
    subst (λ z. length z ≡ length (r ∷ rs)) (ok_is b.2) (omega arith)

module _ {N : Type 0} where
  pub bind_length : (x : ℕ) (v : Value N) (env : Env N) → length (bind x v env) ≤ length env + 1
  bind_length x v [] = omega arith
  bind_length x v (b ∷ env) =
      let more = bind_length x v env in
      elim (b.0 == x) as (λ t. length (if t then (x, v) ∷ env else b ∷ bind x v env) ≤ length (b ∷ env) + 1) [ true ↦ omega arith | false ↦ omega arith ]

  pub reads_length : (env : Env N) (items : List ReadItem) (reads : Reads N) → length (with_reads env items reads) ≤ length env + length reads
  reads_length env [] reads = omega arith
  reads_length env (item ∷ items) [] = omega arith
  reads_length env (item ∷ items) (r ∷ rs) =
      let one = bind_length item.bound r.1 env in
      let more = reads_length (bind item.bound r.1 env) items rs in
      omega arith

  pub params_length : (xs : List ℕ) (vs : List (Value N)) (env inner : Env N) → bound_to xs vs env ≡ Ok inner → length inner ≤ length env + length xs
  params_length [] [] env inner h = let e = ok_is h in subst (λ (z : Env N). length z ≤ length env + 0) e (omega arith)
  params_length (x ∷ xs) (v ∷ vs) env inner h =
      let one = bind_length x v env in
      let more = params_length xs vs (bind x v env) inner h in
      omega arith
  params_length [] (v ∷ vs) env inner h = absurd cc
  params_length (x ∷ xs) [] env inner h = absurd cc

-- main's destinations alone
pub main_length : (i : ℕ) (ds : List ℕ) (env : Env Name) → length (main_env i ds env) ≤ length env + length ds
main_length i [] env = omega arith
main_length i (d ∷ ds) env =
    let one = bind_length d (ref (Out i)) env in
    let more = main_length (i + 1) ds (bind d (ref (Out i)) env) in
    omega arith
