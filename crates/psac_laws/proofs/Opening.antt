-- The fresh run begins as its claims need.
use Rattle.std.proofs.Common.{◌≡◌, ℕ, suc, zero, pos, ◌+◌, ◌<◌, ◌==◌, true, false, List, [], ◌∷◌, ◌++◌, All, map, length, Option, Some, None, slice_get, refl, ap, sym, ◌∙◌, subst, arith, inl, inr, add-zero}
use Rattle.std.proofs.lemmas.Bool.Decides.{nat_tests}
use Rattle.psac_ops.specs.declared.plain.Plain.{Plain}
use Rattle.psac_ops.specs.declared.plain.Plain.TheVariants as plain
use Rattle.psac_ops.specs.Value.{Value, nil, bool, int, text, ref, pair}
use Rattle.psac_ops.specs.Named.{cell_value}
use Rattle.psac_syntax.specs.declared.program.Func.{Func}
use Rattle.psac_inputs.specs.Grid.{Grid}
use Rattle.psac_model.specs.Names.{Name, Input, Out, Rows, Made, Env, Heap, bound, bind, held, same_name}
use Rattle.psac_model.specs.Fresh.{World, fresh, row_heap, cells_heap, grid_heap, main_env, setting}
use Rattle.psac_model.specs.Run.{func_named}
use Rattle.psac_model.specs.Series.{has}
use Rattle.psac_laws.specs.Standing.{series_of, params, MeetsSeries}
use Rattle.psac_laws.specs.Places.{is_input}
use Rattle.psac_laws.specs.InSeries.{fresh_in, IsInSeries}
use Rattle.psac_laws.proofs.Places.{none_some, some_is, test_or, not_both, nat_is, name_same, name_is}
use Rattle.psac_laws.proofs.Heaps.{IsHeld, Known}
use Rattle.psac_laws.proofs.Good.{wider_same, left_is}
use Rattle.psac_laws.proofs.Rules.{leaves, or_is, or_not}
use Rattle.psac_laws.proofs.Safe.{Safe, ref_is, bound_old, bound_new}
use Rattle.psac_laws.proofs.Sound.{run_sound}
use Rattle.psac_laws.proofs.Order.{reads_after_writes}
use Rattle.psac_laws.proofs.OnePlace.{one_place}

-- a value without references
abbrev IsPlain : Value Name → Type 0
IsPlain (ref m) = ⊥
IsPlain (pair m n) = ⊥
IsPlain _ = Unit {0}

plain_cell : (v : Plain) → IsPlain (cell_value v)
plain_cell plain.Nil = tt
plain_cell (plain.Bool b) = tt
plain_cell (plain.Int i) = tt
plain_cell (plain.Text t) = tt
plain_cell (plain.Ref h) = tt
plain_cell (plain.Pair g h) = tt

-- a heap of inputs with plain values
abbrev Inputs : Heap → Type 0
Inputs [] = Unit {0}
Inputs (p ∷ h) = (is_input p.0 ≡ true) × IsPlain p.1 × Inputs h

inputs_append : (a b : Heap) → Inputs a → Inputs b → Inputs (a ++ b)
inputs_append [] b i j = j
inputs_append (p ∷ a) b i j = (i.0, i.1, inputs_append a b i.2 j)

inputs_row : (r c : ℕ) (vs : List Plain) → Inputs (row_heap r c vs)
inputs_row r c [] = tt
inputs_row r c (v ∷ vs) = (refl, plain_cell v, inputs_row r (c + 1) vs)

inputs_cells : (r : ℕ) (cells : List (List Plain)) → Inputs (cells_heap r cells)
inputs_cells r [] = tt
inputs_cells r (row ∷ rows) = inputs_append (row_heap r 0 row) (cells_heap (r + 1) rows) (inputs_row r 0 row) (inputs_cells (r + 1) rows)

inputs_held : (h : Heap) (m : Name) (v : Value Name) → Inputs h → held h m ≡ Some v → (is_input m ≡ true) × IsPlain v
inputs_held [] m v i e = absurd (none_some e)
inputs_held (p ∷ h) m v i e =
    elim (test_or (same_name p.0 m)) [
      | inl t ↦ (let f : Some p.1 ≡ Some v = rw t at e in (subst (λ n. is_input n ≡ true) (name_is p.0 m t) i.0, subst IsPlain (some_is f) i.1))
      | inr t ↦ (let f : held h m ≡ Some v = rw t at e in inputs_held h m v i.2 f)
    ]

known_plain : (h : Heap) (v : Value Name) → IsPlain v → Known h v
known_plain h nil p = tt
known_plain h (bool b) p = tt
known_plain h (int i) p = tt
known_plain h (text a b) p = tt
known_plain h (ref m) p = absurd p
known_plain h (pair m n) p = absurd p

lacks : (o : Option (Value Name)) (h : Heap) (m : Name) → Inputs h → is_input m ≡ false → held h m ≡ o → o ≡ None
lacks None h m i n e = refl
lacks (Some v) h m i n e = absurd (not_both (inputs_held h m v i e).0 n)

not_input : (h : Heap) (m : Name) → Inputs h → is_input m ≡ false → held h m ≡ None
not_input h m i n = lacks (held h m) h m i n refl

held_first : (a b : Heap) (m : Name) → IsHeld a m → IsHeld (a ++ b) m
held_first [] b m k = absurd (none_some k.1)
held_first (p ∷ a) b m k =
    elim (test_or (same_name p.0 m)) [
      | inl t ↦ (p.1, rw t refl)
      | inr t ↦ (let e : held a m ≡ Some k.0 = rw t at k.1 in let r = held_first a b m (k.0, e) in (r.0, rw t r.1))
    ]

held_second : (a b : Heap) (m : Name) → IsHeld b m → IsHeld (a ++ b) m
held_second [] b m k = k
held_second (p ∷ a) b m k =
    elim (test_or (same_name p.0 m)) [
      | inl t ↦ (p.1, rw t refl)
      | inr t ↦ (let r = held_second a b m k in (r.0, rw t r.1))
    ]

row_held : (r c k : ℕ) (vs : List Plain) → k < length vs → IsHeld (row_heap r c vs) (Input r (c + k))
row_held r c k [] l = absurd (omega arith)
row_held r c zero (v ∷ vs) l = (cell_value v, rw (add-zero c, name_same (Input r c)) refl)
row_held r c (suc k) (v ∷ vs) l =
    let e : (c + 1) + k ≡ c + suc k = omega arith in
    let more = subst (λ z. IsHeld (row_heap r (c + 1) vs) (Input r z)) e (row_held r (c + 1) k vs (omega arith)) in
    held_second ((Input r c, cell_value v) ∷ []) (row_heap r (c + 1) vs) (Input r (c + suc k)) more

cells_held : (r k c cols : ℕ) (cells : List (List Plain)) → All (λ row. length row ≡ cols) cells → k < length cells → c < cols → IsHeld (cells_heap r cells) (Input (r + k) c)
cells_held r k c cols [] even l m = absurd (omega arith)
cells_held r zero c cols (row ∷ rows) even l m =
    let wide : length row ≡ cols = even 0 row (omega arith) in
    let a = row_held r 0 c row (omega (arith, wide)) in
    let e : 0 + c ≡ c = omega arith in
    held_first (row_heap r 0 row) (cells_heap (r + 1) rows) (Input (r + 0) c) (subst (λ z. IsHeld (row_heap r 0 row) (Input z c)) (sym (add-zero r)) (subst (λ z. IsHeld (row_heap r 0 row) (Input r z)) e a))
cells_held r (suc k) c cols (row ∷ rows) even l m =
    let e : (r + 1) + k ≡ r + suc k = omega arith in
    held_second (row_heap r 0 row) (cells_heap (r + 1) rows) (Input (r + suc k) c)
    (subst (λ z. IsHeld (cells_heap (r + 1) rows) (Input z c)) e (cells_held (r + 1) k c cols rows (λ i d n. even (suc i) d (omega arith)) (omega arith) m))

-- main's destinations
main_old : (i : ℕ) (ds : List ℕ) (env : Env Name) (x : ℕ) → has x ds ≡ false → bound x (main_env i ds env) ≡ bound x env
main_old i [] env x h = refl
main_old i (d ∷ ds) env x h =
    let b = or_not (d == x) (has x ds) h in
    main_old (i + 1) ds (bind d (ref (Out i)) env) x b.1 ∙ bound_old d x (ref (Out i)) env b.0

-- a destination is bound to the output of a place where it stands
abbrev Stands : ℕ → List ℕ → Env Name → ℕ → Type 0
Stands i ds env x = (k : ℕ) × (bound x (main_env i ds env) ≡ Some (ref (Out (i + k)))) × (slice_get ds k ≡ Some x)

main_stands : (i : ℕ) (ds : List ℕ) (env : Env Name) (x : ℕ) → has x ds ≡ true → Stands i ds env x
main_stands i [] env x h = absurd cc
main_stands i (d ∷ ds) env x h =
    let env' = bind d (ref (Out i)) env in
    elim (test_or (has x ds)) [
      | inl t ↦
          (let r = main_stands (i + 1) ds env' x t in
          let q : (i + 1) + r.0 ≡ i + suc r.0 = omega arith in
          (suc r.0, r.1 ∙ ap (λ z. Some (ref (Out z))) q, r.2))
      | inr t ↦
          elim (or_is (d == x) (has x ds) h) [
            | inl q ↦ (0, main_old (i + 1) ds env' x t ∙ bound_new d x (ref (Out i)) env q ∙ ap (λ z. Some (ref (Out z))) (sym (add-zero i)), ap Some (nat_is d x q))
            | inr q ↦ absurd (not_both q t)
          ]
    ]

name_out : {i j : ℕ} → Out i ≡ Out j → i ≡ j
name_out h = cc

-- the functions meet the rule, and so does main, which has no values
pub record IsChecked (w : World) : Type 0 where
  pub each : (f : ℕ) (g : Func) → func_named f w.program.funcs ≡ Some g → MeetsSeries g
  pub start : MeetsSeries w.main
  pub bare : w.main.values ≡ []

module _ (w : World) (g : Grid) (whole : length g.cells ≡ g.room) (even : All (λ row. length row ≡ g.cols) g.cells) (checked : IsChecked w) where
  abbrev ds : List ℕ
  ds = w.main.dests

  abbrev h : Heap
  h = grid_heap g

  inputs : Inputs h
  inputs = (refl, tt, inputs_cells 0 g.cells)

  stands : (x : ℕ) → has x ds ≡ true → Stands 0 ds [] x
  stands x i = main_stands 0 ds [] x i

  stands_as : (x : ℕ) (m : Name) (i : has x ds ≡ true) → bound x (main_env 0 ds []) ≡ Some (ref m) → m ≡ Out (0 + (stands x i).0)
  stands_as x m i e = ref_is (sym e ∙ (stands x i).1)

  pub opening_safe : Safe (setting w.texts g) (params w.main) (main_env 0 ds []) h []
  opening_safe =
      record {
        closed = λ m v e. known_plain h v (inputs_held h m v inputs e).1;
        cells = λ r c p q.
            let below : r < length g.cells = grind (arith, nat_tests) in
            let inside : c < g.cols = grind (arith, nat_tests) in
            let e : 0 + r ≡ r = omega arith in
            held_second ((Rows, int (pos g.rows)) ∷ []) (cells_heap 0 g.cells) (Input r c) (subst (λ z. IsHeld (cells_heap 0 g.cells) (Input z c)) e (cells_held 0 r c g.cols g.cells even below inside));
        row_count = (int (pos g.rows), refl);
        names = refl;
        knows = λ x i. absurd (let f : has x [] ≡ true = subst (λ z. has x z ≡ true) checked.bare i in cc);
        opens = λ x i. let b = stands x i in (Out (0 + b.0), b.1, not_input h (Out (0 + b.0)) inputs refl);
        apart = λ x y m i j e f.
            let a = stands x i in
            let b = stands y j in
            let k : 0 + a.0 ≡ 0 + b.0 = name_out (sym (stands_as x m i e) ∙ stands_as y m j f) in
            let l : a.0 ≡ b.0 = omega arith in
            some_is (sym a.2 ∙ ap (slice_get ds) l ∙ b.2);
        fresh = λ m u. not_input h m inputs (ap is_input u.1);
        away = λ x m i e u. let f : Out (0 + (stands x i).0) ≡ Made ([] ++ u.0) = sym (stands_as x m i e) ∙ u.1 in absurd cc;
      }

  pub in_series : IsInSeries w g
  unfolding fresh fresh_in
  in_series =
      let l = leaves (map series_of w.main.body) (params w.main) [] checked.start.body in
      let good = run_sound (setting w.texts g) w.program.funcs checked.each 300 w.main.body (params w.main) l.end (main_env 0 ds []) h [] l.meets opening_safe in
      record {
        once = good.once;
        alone = λ m. one_place _ m (good.once m);
        inputs = λ m k. good.kept m (λ y. elim y [
          | inl u ↦ not_both k (ap is_input u.1)
          | inr t ↦ not_both k (ap is_input (stands_as t.0 m t.1 t.3))
        ]);
        tree = λ a fa. (good.frame a h fa (wider_same h)).tree;
        end = λ a fa. (good.frame a h fa (wider_same h)).end;
        heap = λ a fa m. (good.frame a h fa (wider_same h)).heap m ∙ sym (left_is good m);
        order = reads_after_writes _ h good.placed (λ m own. not_input h m inputs own);
      }
