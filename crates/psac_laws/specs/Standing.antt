-- The series rule by what is known and what is unwritten: a leaner form, which the laws stand over.
use Rattle.std.specs.Prelude.{◌≡◌, ℕ, Bool, true, false, not, ◌&&◌, if◌then◌else◌, List, [], ◌∷◌, ◌++◌, map, Option, Some, None}
use Rattle.psac_syntax.specs.declared.program.Expr.{Expr}
use Rattle.psac_syntax.specs.declared.program.Expr.TheOpen.{Expr-F}
use Rattle.psac_syntax.specs.declared.program.Stmt.{Stmt}
use Rattle.psac_syntax.specs.declared.program.Stmt.TheOpen.{Stmt-F}
use Rattle.psac_syntax.specs.declared.program.ReadItem.{ReadItem}
use Rattle.psac_syntax.specs.declared.program.Func.{Func}
use Rattle.psac_syntax.specs.Folds.{expr_fold, stmt_fold}
use Rattle.psac_model.specs.Series.{has, all_in, without}

-- those of the first that are in the second too
abbrev pub in_both : List ℕ → List ℕ → List ℕ
in_both [] ys = []
in_both (x ∷ xs) ys = if has x ys then x ∷ in_both xs ys else in_both xs ys

abbrev pub distinct : List ℕ → Bool
distinct [] = true
distinct (x ∷ xs) = not (has x xs) && distinct xs

abbrev pub every : List Bool → Bool
every [] = true
every (b ∷ bs) = b && every bs

-- the names in scope
pub record Standing : Type 0 where
  -- values, and destinations that are written
  pub known : List ℕ
  -- destinations that aren't written yet
  pub unwritten : List ℕ

-- an expression names values and written destinations alone
abbrev pub names_step : List ℕ → Expr-F Bool → Bool
names_step known (Expr-F.Name x) = has x known
names_step known (Expr-F.Cell a b) = a && b
names_step known (Expr-F.Apply op args) = every args
names_step known _ = true

unfoldable pub names_known : List ℕ → Expr → Bool
names_known known e = expr_fold Bool (names_step known) e

abbrev pub is_new : Standing → ℕ → Bool
is_new st x = not (has x st.known) && not (has x st.unwritten)

abbrev pub with_value : ℕ → Standing → Standing
with_value x st = record { known = x ∷ st.known; unwritten = st.unwritten }

abbrev pub with_dest : ℕ → Standing → Standing
with_dest d st = record { known = st.known; unwritten = d ∷ st.unwritten }

-- the values that a read binds, each a new name
abbrev pub with_values : List ReadItem → Standing → Option Standing
with_values [] st = Some st
with_values (item ∷ items) st = if is_new st item.bound then with_values items (with_value item.bound st) else None

-- where just these destinations are left unwritten
abbrev pub settled : List ℕ → Standing → Standing
settled left st = record { known = without left st.unwritten ++ st.known; unwritten = left }

abbrev pub only_if : {A : Type 0} → Bool → Option A → Option A
only_if true x = x
only_if false x = None

abbrev pub then_with : {A B : Type 0} → Option A → (A → Option B) → Option B
then_with (Some x) f = f x
then_with None f = None

-- what stands after a statement, where it meets the rule
abbrev pub Rule : Type 0
Rule = Standing → Option Standing

abbrev pub one_by_one : List Rule → Rule
one_by_one [] st = Some st
one_by_one (r ∷ rs) st = then_with (r st) (one_by_one rs)

-- the outer destinations that a body leaves unwritten; it leaves none of its own
abbrev pub left_by : List Rule → Standing → Option (List ℕ)
left_by rs st = then_with (one_by_one rs st) (λ after. only_if (all_in after.unwritten st.unwritten) (Some after.unwritten))

abbrev pub reads_known : List ℕ → List ReadItem → Bool
reads_known known items = every (map (λ item. names_known known item.from) items)

abbrev pub series_step : Stmt-F Rule → Rule
series_step (Stmt-F.Let line x e) st = only_if (names_known st.known e && is_new st x) (Some (with_value x st))
series_step (Stmt-F.New line d) st = only_if (is_new st d) (Some (with_dest d st))
series_step (Stmt-F.Write line d e) st = only_if (names_known st.known e && has d st.unwritten) (Some (settled (without (d ∷ []) st.unwritten) st))
series_step (Stmt-F.Read line block items body) st =
    only_if (reads_known st.known items) (then_with (with_values items st) (λ inner.
    then_with (left_by body inner) (λ left. Some (settled left st))))
series_step (Stmt-F.If line e first second) st =
    only_if (names_known st.known e) (then_with (left_by first st) (λ left.
    then_with (left_by second st) (λ other. only_if (all_in left other && all_in other left) (Some (settled left st)))))
series_step (Stmt-F.Par line left right) st =
    then_with (left_by left st) (λ one.
    then_with (left_by right st) (λ two. only_if (all_in (without one st.unwritten) two) (Some (settled (in_both one two) st))))
series_step (Stmt-F.Call line f values dests) st =
    only_if (every (map (names_known st.known) values) && all_in dests st.unwritten && distinct dests) (Some (settled (without dests st.unwritten) st))

unfoldable pub series_of : Stmt → Rule
series_of s = stmt_fold Rule series_step s

-- what stands after statements that meet the rule one after another
abbrev pub series : List Stmt → Rule
series body = one_by_one (map series_of body)

abbrev pub params : Func → Standing
params f = record { known = f.values; unwritten = f.dests }

-- a function's parameters are distinct, and its body writes each destination
pub record MeetsSeries (f : Func) : Type 0 where
  pub header : distinct (f.values ++ f.dests) ≡ true
  pub body : left_by (map series_of f.body) (params f) ≡ Some []
