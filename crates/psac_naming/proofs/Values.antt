-- An expression gives values that are alike under environments that are alike.
use Rattle.std.proofs.Common.{◌≡◌, ℕ, ℤ, pos, negsuc, Bool, true, false, ◌&&◌, if◌then◌else◌, [], ◌∷◌, map, Option, Some, None, Result, Ok, Err, refl, ap, sym, subst, nat_lt, ◌==◌, slice_get}
use Rattle.psac_ops.specs.declared.plain.TextId.{TextId}
use Rattle.psac_ops.specs.Value.{Value, ref}
use Rattle.psac_ops.specs.Table.{applied, as_int}
use Rattle.psac_syntax.specs.declared.program.Expr.{Expr, map-Expr, roll-Expr}
use Rattle.psac_syntax.specs.declared.program.Expr.TheOpen.{Expr-F}
use Rattle.psac_syntax.specs.declared.program.Expr.TheFolds.{fold-Expr, fold-roll-Expr, ind-Expr}
use Rattle.psac_syntax.proofs.Folds.{expr_fold_is}
use Rattle.psac_model.specs.declared.ends.FaultKind.{FaultKind}
use Rattle.psac_model.specs.Names.{Env, bound}
use Rattle.psac_model.specs.Expression.{Setting, value_of, value_step, in_order, of_op, cell_at, cell_in, text_at}
use Rattle.psac_naming.specs.Alike.{Agree, Both, Each, Alike, Envs, Settings, Tests}
use Rattle.psac_naming.proofs.Agrees.{agree_then, in_order_agree, each_twice, of_op_agree, or_kind_agree}
use Rattle.psac_naming.proofs.Operators.{Same, as_int_alike, applied_alike}

module _ {M N : Type 0} (T : M → N → Type 0) where
  pub bound_alike : (x : ℕ) (env : Env M) (env' : Env N) → Envs T env env' → Both (Alike T) (bound x env) (bound x env')
  bound_alike x [] [] h = tt
  bound_alike x (a ∷ env) (b ∷ env') h =
      subst (λ n. Both (Alike T) (if a.0 == x then Some a.1 else bound x env) (if n == x then Some b.1 else bound x env')) h.0.0
      (elim (a.0 == x) as (λ t. Both (Alike T) (if t then Some a.1 else bound x env) (if t then Some b.1 else bound x env')) [ true ↦ h.0.1 | false ↦ bound_alike x env env' h.1 ])
  bound_alike x [] (b ∷ env') h = absurd h
  bound_alike x (a ∷ env) [] h = absurd h

  cell_tested : (m : M) (n : N) (p q : Bool) → (p ≡ true → q ≡ true → T m n) → Agree {E = FaultKind} (Alike T) (if p && q then Ok (ref m) else Err FaultKind.Range) (if p && q then Ok (ref n) else Err FaultKind.Range)
  cell_tested m n true true k = k refl refl
  cell_tested m n true false k = refl
  cell_tested m n false q k = refl

  text_alike : (t : Option TextId) → Agree (Alike T) (text_at t) (text_at t)
  text_alike (Some t) = (refl, refl)
  text_alike None = refl

  module _ (w : Setting M) (u : Setting N) (s : Settings T w u) (tests : Tests T w.same u.same) where
    cell_in_alike : (r c : ℤ) → Agree (Alike T) (cell_in w r c) (cell_in u r c)
    cell_in_alike (pos r) (pos c) =
        rw (← s.room, ← s.cols) (cell_tested (w.cell r c) (u.cell r c) (nat_lt r w.room) (nat_lt c w.cols) (s.cells r c))
    cell_in_alike (pos r) (negsuc c) = refl
    cell_in_alike (negsuc r) c = refl

    cell_alike : (v x : Value M) (v' x' : Value N) → Alike T v v' → Alike T x x' → Agree (Alike T) (cell_at w v x) (cell_at u v' x')
    cell_alike v x v' x' h k =
        agree_then Same (Alike T) (of_op (as_int v)) (of_op (as_int v')) _ _ (of_op_agree Same (as_int v) (as_int v') (as_int_alike T v v' h)) (λ a b e.
        agree_then Same (Alike T) (of_op (as_int x)) (of_op (as_int x')) _ _ (of_op_agree Same (as_int x) (as_int x') (as_int_alike T x x' k)) (λ c d f.
        subst (λ y. Agree (Alike T) (cell_in w a c) (cell_in u y d)) e (subst (λ y. Agree (Alike T) (cell_in w a c) (cell_in u a y)) f (cell_in_alike a c))))

    step_alike : {I : Type 0} (env : Env M) (env' : Env N) → Envs T env env' → (f : Expr → Result (Value M) FaultKind) (g : Expr → Result (Value N) FaultKind) (h : I → Expr) → ((i : I) → Agree (Alike T) (f (h i)) (g (h i))) → (y : Expr-F I) → Agree (Alike T) (value_step w env (map-Expr Expr (Result (Value M) FaultKind) f (map-Expr I Expr h y))) (value_step u env' (map-Expr Expr (Result (Value N) FaultKind) g (map-Expr I Expr h y)))
    step_alike env env' e f g h k Expr-F.Nil = tt
    step_alike env env' e f g h k (Expr-F.Bool b) = refl
    step_alike env env' e f g h k (Expr-F.Int i) = refl
    step_alike env env' e f g h k (Expr-F.Text t) = rw (← s.texts) (text_alike (slice_get w.texts t))
    step_alike env env' e f g h k (Expr-F.Name x) = or_kind_agree (Alike T) (bound x env) (bound x env') (bound_alike x env env' e)
    step_alike env env' e f g h k Expr-F.Rows = ap pos s.opened
    step_alike env env' e f g h k Expr-F.Cols = ap pos s.cols
    step_alike env env' e f g h k Expr-F.RowCount = s.row_count
    step_alike env env' e f g h k (Expr-F.Cell a b) =
        agree_then (Alike T) (Alike T) (f (h a)) (g (h a)) _ _ (k a) (λ v v' i.
        agree_then (Alike T) (Alike T) (f (h b)) (g (h b)) _ _ (k b) (λ x x' j. cell_alike v x v' x' i j))
    step_alike env env' e f g h k (Expr-F.Apply op args) =
        agree_then (Each (Alike T)) (Alike T) (in_order (map f (map h args))) (in_order (map g (map h args))) _ _ (in_order_agree (Alike T) (map f (map h args)) (map g (map h args)) (each_twice (Agree (Alike T)) f g h k args)) (λ vs us i.
        of_op_agree (Alike T) (applied w.same op vs) (applied u.same op us) (applied_alike T w.same u.same tests op vs us i))

    folded_alike : (env : Env M) (env' : Env N) → Envs T env env' → (e : Expr) → Agree (Alike T) (fold-Expr (Result (Value M) FaultKind) (value_step w env) e) (fold-Expr (Result (Value N) FaultKind) (value_step u env') e)
    folded_alike env env' h =
        let f : Expr → Result (Value M) FaultKind = fold-Expr (Result (Value M) FaultKind) (value_step w env) in
        let g : Expr → Result (Value N) FaultKind = fold-Expr (Result (Value N) FaultKind) (value_step u env') in
        ind-Expr (λ e. Agree (Alike T) (f e) (g e)) (λ x y is.
        let P : Expr-F Expr → Type 0 = λ z. Agree (Alike T) (value_step w env (map-Expr Expr (Result (Value M) FaultKind) f z)) (value_step u env' (map-Expr Expr (Result (Value N) FaultKind) g z)) in
        let Q : Result (Value M) FaultKind → Type 0 = λ r. Agree (Alike T) r (g (roll-Expr x)) in
        let U : Result (Value N) FaultKind → Type 0 = λ r. Agree (Alike T) (value_step w env (map-Expr Expr (Result (Value M) FaultKind) f x)) r in
        subst Q (sym (fold-roll-Expr (Result (Value M) FaultKind) (value_step w env) x))
        (subst U (sym (fold-roll-Expr (Result (Value N) FaultKind) (value_step u env') x))
        (subst P is (step_alike env env' h f g (λ i. i.0) (λ i. i.1) y))))

    pub value_alike : (env : Env M) (env' : Env N) → Envs T env env' → (e : Expr) → Agree (Alike T) (value_of w env e) (value_of u env' e)
    unfolding value_of
    value_alike env env' h e =
        rw (expr_fold_is (Result (Value M) FaultKind) (value_step w env) e, expr_fold_is (Result (Value N) FaultKind) (value_step u env') e) (folded_alike env env' h e)
