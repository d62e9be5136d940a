-- Expressions that meet the rule evaluate to values that the base knows.
use Rattle.std.proofs.Common.{◌≡◌, ℕ, ℤ, pos, negsuc, Bool, true, false, ◌&&◌, if◌then◌else◌, nat_lt, List, [], ◌∷◌, map, Option, Some, None, Result, Ok, Err, refl, sym, ◌∙◌, subst, slice_get}
use Rattle.std.specs.Prelude.{zero, suc, ◌||◌, ◌+ℤ◌, ◌-ℤ◌, ◌*ℤ◌, neg_ℤ, nat_abs, int_div, int_lt, int_le}
use Rattle.psac_ops.specs.declared.op.Op.{Op}
use Rattle.psac_ops.specs.declared.op.Op.TheVariants as op
use Rattle.psac_ops.specs.declared.op.OpFault.{OpFault}
use Rattle.psac_ops.specs.declared.plain.TextId.{TextId}
use Rattle.psac_ops.specs.declared.plain.Handle.{Handle}
use Rattle.psac_ops.specs.Value.{Value, nil, bool, int, text, ref, pair}
use Rattle.psac_ops.specs.Named.{same_handle}
use Rattle.psac_ops.specs.Table.{applied, of_one, of_two, fits_64, in_64, quotient_of, remainder_of, ints, bools, as_int, as_bool, as_ref, as_pair, as_len}
use Rattle.psac_syntax.specs.declared.program.Expr.{Expr, map-Expr, roll-Expr}
use Rattle.psac_syntax.specs.declared.program.Expr.TheOpen.{Expr-F}
use Rattle.psac_syntax.specs.declared.program.Expr.TheFolds.{fold-Expr, fold-roll-Expr, ind-Expr}
use Rattle.psac_syntax.proofs.Folds.{expr_fold_is}
use Rattle.psac_model.specs.declared.ends.FaultKind.{FaultKind}
use Rattle.psac_model.specs.Names.{Env, bound}
use Rattle.psac_model.specs.Expression.{Setting, value_of, value_step, in_order, or_kind, of_op, cell_at, cell_in, text_at}
use Rattle.psac_model.specs.Series.{has}
use Rattle.psac_laws.specs.Standing.{every, names_step, names_known}
use Rattle.psac_laws.proofs.Places.{and_is}
use Rattle.psac_laws.proofs.Values.{Where, where_then, where_any, Each, in_order_each}
use Rattle.psac_trace.specs.Rights.{Heap, In, Named}

module _ (h : Heap) where
  in_64_known : (i : ℤ) → Where (Named h) (in_64 i)
  in_64_known i = elim (fits_64 i) as (λ b. Where (Named h) (if b then Ok (int i) else Err OpFault.Overflow)) [ true ↦ tt | false ↦ tt ]

  ints_known : (f : ℤ → ℤ → Result (Value Handle) OpFault) → ((a b : ℤ) → Where (Named h) (f a b)) → (v u : Value Handle) → Where (Named h) (ints f v u)
  ints_known f k v u =
      where_then _ (Named h) (as_int v) _ (where_any (as_int v)) (λ a x. where_then _ (Named h) (as_int u) _ (where_any (as_int u)) (λ b y. k a b))

  bools_known : (f : Bool → Bool → Bool) (v u : Value Handle) → Where (Named h) (bools f v u)
  bools_known f v u =
      where_then _ (Named h) (as_bool v) _ (where_any (as_bool v)) (λ a x. where_then _ (Named h) (as_bool u) _ (where_any (as_bool u)) (λ b y. tt))

  quotient_known : (a b : ℤ) → Where (Named h) (quotient_of a b)
  quotient_known a (pos zero) = tt
  quotient_known a (pos (suc n)) = in_64_known (int_div a (pos (suc n)))
  quotient_known a (negsuc n) = in_64_known (int_div a (negsuc n))

  remainder_known : (a b : ℤ) → Where (Named h) (remainder_of a b)
  remainder_known a (pos zero) = tt
  remainder_known a (pos (suc n)) = tt
  remainder_known a (negsuc zero) = tt
  remainder_known a (negsuc (suc n)) = tt

  as_ref_known : (v : Value Handle) → Named h v → Where (In h) (as_ref v)
  as_ref_known nil k = tt
  as_ref_known (bool b) k = tt
  as_ref_known (int i) k = tt
  as_ref_known (text a b) k = tt
  as_ref_known (ref m) k = k
  as_ref_known (pair m n) k = tt

  abbrev BothHeld : Handle × Handle → Type 0
  BothHeld p = In h p.0 × In h p.1

  as_pair_known : (v : Value Handle) → Named h v → Where BothHeld (as_pair v)
  as_pair_known nil k = tt
  as_pair_known (bool b) k = tt
  as_pair_known (int i) k = tt
  as_pair_known (text a b) k = tt
  as_pair_known (ref m) k = tt
  as_pair_known (pair m n) k = k

  two_known : (op : Op) (v u : Value Handle) → Named h v → Named h u → Where (Named h) (of_two same_handle op v u)
  two_known op.Add v u k l = ints_known (λ a b. in_64 (a +ℤ b)) (λ a b. in_64_known (a +ℤ b)) v u
  two_known op.Sub v u k l = ints_known (λ a b. in_64 (a -ℤ b)) (λ a b. in_64_known (a -ℤ b)) v u
  two_known op.Mul v u k l = ints_known (λ a b. in_64 (a *ℤ b)) (λ a b. in_64_known (a *ℤ b)) v u
  two_known op.Div v u k l = ints_known quotient_of quotient_known v u
  two_known op.Rem v u k l = ints_known remainder_of remainder_known v u
  two_known op.Lt v u k l = ints_known (λ a b. Ok (bool (int_lt a b))) (λ a b. tt) v u
  two_known op.Le v u k l = ints_known (λ a b. Ok (bool (int_le a b))) (λ a b. tt) v u
  two_known op.Gt v u k l = ints_known (λ a b. Ok (bool (int_lt b a))) (λ a b. tt) v u
  two_known op.Ge v u k l = ints_known (λ a b. Ok (bool (int_le b a))) (λ a b. tt) v u
  two_known op.And v u k l = bools_known (λ a b. a && b) v u
  two_known op.Or v u k l = bools_known (λ a b. a || b) v u
  two_known op.Min v u k l = ints_known (λ a b. Ok (int (if int_le a b then a else b))) (λ a b. tt) v u
  two_known op.Max v u k l = ints_known (λ a b. Ok (int (if int_le a b then b else a))) (λ a b. tt) v u
  two_known op.Pair v u k l =
      where_then (In h) (Named h) (as_ref v) _ (as_ref_known v k) (λ m x. where_then (In h) (Named h) (as_ref u) _ (as_ref_known u l) (λ n y. (x, y)))
  two_known _ v u k l = tt

  one_known : (op : Op) (v : Value Handle) → Named h v → Where (Named h) (of_one op v)
  one_known op.Not v k = where_then _ (Named h) (as_bool v) _ (where_any (as_bool v)) (λ b x. tt)
  one_known op.Neg v k = where_then _ (Named h) (as_int v) _ (where_any (as_int v)) (λ a x. in_64_known (neg_ℤ a))
  one_known op.Abs v k = where_then _ (Named h) (as_int v) _ (where_any (as_int v)) (λ a x. in_64_known (pos (nat_abs a)))
  one_known op.Len v k = where_then _ (Named h) (as_len v) _ (where_any (as_len v)) (λ n x. tt)
  one_known op.Fst v k = where_then BothHeld (Named h) (as_pair v) _ (as_pair_known v k) (λ p x. x.0)
  one_known op.Snd v k = where_then BothHeld (Named h) (as_pair v) _ (as_pair_known v k) (λ p x. x.1)
  one_known _ v k = tt

  pub applied_known : (op : Op) (vs : List (Value Handle)) → Each (Named h) vs → Where (Named h) (applied same_handle op vs)
  applied_known op [] k = tt
  applied_known op (v ∷ []) k = one_known op v k.0
  applied_known op (v ∷ u ∷ []) k = two_known op v u k.0 k.1.0
  applied_known op (v ∷ u ∷ y ∷ vs) k = tt

  of_op_known : (r : Result (Value Handle) OpFault) → Where (Named h) r → Where (Named h) (of_op r)
  of_op_known (Ok x) k = k
  of_op_known (Err e) k = tt

  or_kind_known : (o : Option (Value Handle)) (v : Value Handle) → o ≡ Some v → Named h v → Where (Named h) (or_kind o)
  or_kind_known o v e k = rw e k

  text_known : (t : Option TextId) → Where (Named h) (text_at t)
  text_known (Some t) = tt
  text_known None = tt

  module _ (w : Setting Handle) (cells : (r c : ℕ) → nat_lt r w.room ≡ true → nat_lt c w.cols ≡ true → In h (w.cell r c)) (row_count : In h w.row_count) (names : w.same ≡ same_handle) where
    cell_tested : (m : Handle) (p q : Bool) → (p ≡ true → q ≡ true → In h m) → Where {X = FaultKind} (Named h) (if p && q then Ok (ref m) else Err FaultKind.Range)
    cell_tested m true true k = k refl refl
    cell_tested m true false k = tt
    cell_tested m false q k = tt

    cell_in_known : (r c : ℤ) → Where (Named h) (cell_in w r c)
    cell_in_known (pos r) (pos c) = cell_tested (w.cell r c) (nat_lt r w.room) (nat_lt c w.cols) (cells r c)
    cell_in_known (pos r) (negsuc c) = tt
    cell_in_known (negsuc r) c = tt

    cell_known : (v u : Value Handle) → Where (Named h) (cell_at w v u)
    cell_known v u =
        where_then _ (Named h) (of_op (as_int v)) _ (where_any (of_op (as_int v))) (λ a x. where_then _ (Named h) (of_op (as_int u)) _ (where_any (of_op (as_int u))) (λ b y. cell_in_known a b))

    module _ (env : Env Handle) (known : List ℕ) (knows : (x : ℕ) → has x known ≡ true → (v : Value Handle) × (bound x env ≡ Some v) × Named h v) where
      each_known : {I : Type 0} (f : Expr → Result (Value Handle) FaultKind) (n : Expr → Bool) (k : I → Expr) → ((i : I) → n (k i) ≡ true → Where (Named h) (f (k i))) → (is : List I) → every (map n (map k is)) ≡ true → Each (Where (Named h)) (map f (map k is))
      each_known f n k ih [] t = tt
      each_known f n k ih (i ∷ is) t =
          let b = and_is (n (k i)) (every (map n (map k is))) t in
          (ih i b.0, each_known f n k ih is b.1)

      step_known : {I : Type 0} (f : Expr → Result (Value Handle) FaultKind) (n : Expr → Bool) (k : I → Expr) → ((i : I) → n (k i) ≡ true → Where (Named h) (f (k i))) → (y : Expr-F I) → names_step known (map-Expr Expr Bool n (map-Expr I Expr k y)) ≡ true → Where (Named h) (value_step w env (map-Expr Expr (Result (Value Handle) FaultKind) f (map-Expr I Expr k y)))
      step_known f n k ih Expr-F.Nil t = tt
      step_known f n k ih (Expr-F.Bool b) t = tt
      step_known f n k ih (Expr-F.Int i) t = tt
      step_known f n k ih (Expr-F.Text i) t = text_known (slice_get w.texts i)
      step_known f n k ih (Expr-F.Name x) t = let b = knows x t in or_kind_known (bound x env) b.0 b.1 b.2
      step_known f n k ih Expr-F.Rows t = tt
      step_known f n k ih Expr-F.Cols t = tt
      step_known f n k ih Expr-F.RowCount t = row_count
      step_known f n k ih (Expr-F.Cell a b) t =
          where_then _ (Named h) (f (k a)) _ (where_any (f (k a))) (λ v x. where_then _ (Named h) (f (k b)) _ (where_any (f (k b))) (λ u y. cell_known v u))
      step_known f n k ih (Expr-F.Apply op args) t =
          where_then (Each (Named h)) (Named h) (in_order (map f (map k args))) _ (in_order_each (Named h) (map f (map k args)) (each_known f n k ih args t)) (λ vs p. of_op_known (applied w.same op vs) (subst (λ z. Where (Named h) (applied z op vs)) (sym names) (applied_known op vs p)))

      folded_known : (e : Expr) → fold-Expr Bool (names_step known) e ≡ true → Where (Named h) (fold-Expr (Result (Value Handle) FaultKind) (value_step w env) e)
      folded_known =
          ind-Expr (λ e. fold-Expr Bool (names_step known) e ≡ true → Where (Named h) (fold-Expr (Result (Value Handle) FaultKind) (value_step w env) e)) (λ x y is.
          let f : Expr → Result (Value Handle) FaultKind = fold-Expr (Result (Value Handle) FaultKind) (value_step w env) in
          let n : Expr → Bool = fold-Expr Bool (names_step known) in
          let P : Expr-F Expr → Type 0 = λ z. names_step known (map-Expr Expr Bool n z) ≡ true → Where (Named h) (value_step w env (map-Expr Expr (Result (Value Handle) FaultKind) f z)) in
          let Q : Result (Value Handle) FaultKind → Type 0 = λ r. n (roll-Expr x) ≡ true → Where (Named h) r in
          let T : Bool → Type 0 = λ b. b ≡ true → Where (Named h) (value_step w env (map-Expr Expr (Result (Value Handle) FaultKind) f x)) in
          subst Q (sym (fold-roll-Expr (Result (Value Handle) FaultKind) (value_step w env) x))
          (subst T (sym (fold-roll-Expr Bool (names_step known) x))
          (subst P is (step_known f n (λ i. i.0) (λ i. i.1) y))))

      pub value_known : (e : Expr) → names_known known e ≡ true → Where (Named h) (value_of w env e)
      unfolding value_of names_known
      value_known e t =
          subst (Where (Named h)) (sym (expr_fold_is (Result (Value Handle) FaultKind) (value_step w env) e))
          (folded_known e (sym (expr_fold_is Bool (names_step known) e) ∙ t))

      pub values_known : (es : List Expr) → every (map (names_known known) es) ≡ true → Each (Where (Named h)) (map (value_of w env) es)
      values_known [] t = tt
      values_known (e ∷ es) t =
          let b = and_is (names_known known e) (every (map (names_known known) es)) t in
          (value_known e b.0, values_known es b.1)
