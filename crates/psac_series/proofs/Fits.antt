-- In a program that meets the series rule each call fits.
use Rattle.std.proofs.Common.{◌≡◌, ℕ, ◌==◌, Bool, true, List, [], ◌∷◌, map, length, Option, Some, None, Ok, refl, sym, subst}
use Rattle.psac_syntax.specs.declared.program.Expr.{Expr}
use Rattle.psac_syntax.specs.declared.program.Stmt.{Stmt, map-Stmt, roll-Stmt}
use Rattle.psac_syntax.specs.declared.program.Stmt.TheOpen.{Stmt-F}
use Rattle.psac_syntax.specs.declared.program.Stmt.TheFolds.{fold-Stmt, fold-roll-Stmt, ind-Stmt}
use Rattle.psac_syntax.specs.declared.program.Func.{Func}
use Rattle.psac_syntax.proofs.Folds.{stmt_fold_is}
use Rattle.psac_model.specs.Run.{func_named}
use Rattle.psac_model.specs.Series as rule
use Rattle.psac_model.specs.Series.{Arity, BranchesDiffer, WrittenInBothSides, Scope, all_in, without, first_wrong, unless, expr_wrong, dests_wrong, items_wrong, with_items, call_wrong, body_rule, rule_step, rule_of}
use Rattle.psac_laws.specs.Standing.{every}
use Rattle.psac_laws.proofs.Places.{none_some}
use Rattle.psac_laws.proofs.Results.{ok_then}
use Rattle.psac_laws.proofs.Tells.{both_true, unless_is, first_is, parts_right}
use Rattle.psac_laws.proofs.Meets.{so_is}
use Rattle.psac_series.specs.Lean.{takes, calls_step, calls_fit}

call_fits : (s : Scope) (w : List ℕ) (o : Option Func) (values : List Expr) (dests : List ℕ)
    → call_wrong s w o values dests ≡ None → takes o (length values) (length dests) ≡ true
call_fits s w None values dests h = absurd (none_some (sym h))
call_fits s w (Some g) values dests h =
    let a = parts_right (map (expr_wrong s w) values)
    (unless (length values == length g.values) Arity ∷ dests_wrong s w dests ∷ unless
    (length dests == length g.dests) Arity ∷ []) h in
    let b = first_is (unless (length values == length g.values) Arity)
    (dests_wrong s w dests ∷ unless (length dests == length g.dests) Arity ∷ []) a.1 in
    let c = first_is (dests_wrong s w dests) (unless (length dests == length g.dests) Arity ∷ []) b.1 in
    let d = first_is (unless (length dests == length g.dests) Arity) [] c.1 in
    both_true (length values == length g.values) (length dests == length g.dests) (unless_is _ Arity b.0)
    (unless_is _ Arity d.0)

-- where the checker's rule takes a statement, its calls fit
abbrev pub Fits : rule.Rule → Bool → Type 0
Fits c fit = (s : Scope) (w : List ℕ) (told : Scope × List ℕ) → c s w ≡ Ok told → fit ≡ true

module _ {I : Type 0} (f : Stmt → rule.Rule) (q : Stmt → Bool) (k : I → Stmt)
    (ih : (i : I) → Fits (f (k i)) (q (k i))) where
  pub all_fit : (is : List I) → Fits (rule.one_by_one (map f (map k is))) (every (map q (map k is)))
  all_fit [] s w told h = refl
  all_fit (i ∷ is) s w told h =
      let a = ok_then (f (k i) s w) _ told h in
      both_true (q (k i)) (every (map q (map k is))) (ih i s w a.0 a.1) (all_fit is a.0.0 a.0.1 told a.2)

  pub body_fits : (is : List I) (s : Scope) (w after : List ℕ) → body_rule (map f (map k is)) s w ≡ Ok after
      → every (map q (map k is)) ≡ true
  body_fits is s w after h =
      let a = ok_then (rule.one_by_one (map f (map k is)) s w) _ after h in
      all_fit is s w a.0 a.1

  pub layer_fits : (funcs : List Func) (y : Stmt-F I)
      → Fits (rule_step funcs (map-Stmt Stmt rule.Rule f (map-Stmt I Stmt k y)))
      (calls_step funcs (map-Stmt Stmt Bool q (map-Stmt I Stmt k y)))
  layer_fits funcs (Stmt-F.Let line x e) s w told h = refl
  layer_fits funcs (Stmt-F.New line d) s w told h = refl
  layer_fits funcs (Stmt-F.Write line d e) s w told h = refl
  layer_fits funcs (Stmt-F.Read line block items body) s w told h =
      let a = so_is (items_wrong s w s items) line _ told h in
      let b = ok_then (body_rule (map f (map k body)) (with_items items s) w) _ told a.1 in
      body_fits body (with_items items s) w b.0 b.1
  layer_fits funcs (Stmt-F.If line e one other) s w told h =
      let a = so_is (expr_wrong s w e) line _ told h in
      let b = ok_then (body_rule (map f (map k one)) s w) _ told a.1 in
      let c = ok_then (body_rule (map f (map k other)) s w) _ told b.2 in
      both_true (every (map q (map k one))) (every (map q (map k other))) (body_fits one s w b.0 b.1)
      (body_fits other s w c.0 c.1)
  layer_fits funcs (Stmt-F.Par line left right) s w told h =
      let b = ok_then (body_rule (map f (map k left)) s w) _ told h in
      let c = ok_then (body_rule (map f (map k right)) s w) _ told b.2 in
      both_true (every (map q (map k left))) (every (map q (map k right))) (body_fits left s w b.0 b.1)
      (body_fits right s w c.0 c.1)
  layer_fits funcs (Stmt-F.Call line g values dests) s w told h =
      let a = so_is (call_wrong s w (func_named g funcs) values dests) line _ told h in
      call_fits s w (func_named g funcs) values dests a.0

module _ (funcs : List Func) where
  folded_fits : (x : Stmt) → Fits (fold-Stmt rule.Rule (rule_step funcs) x) (fold-Stmt Bool (calls_step funcs) x)
  folded_fits =
      ind-Stmt (λ x. Fits (fold-Stmt rule.Rule (rule_step funcs) x) (fold-Stmt Bool (calls_step funcs) x)) (λ x y is.
      let f : Stmt → rule.Rule = fold-Stmt rule.Rule (rule_step funcs) in
      let q : Stmt → Bool = fold-Stmt Bool (calls_step funcs) in
      let P : Stmt-F Stmt → Type 0 = λ z. Fits (rule_step funcs (map-Stmt Stmt rule.Rule f z))
      (calls_step funcs (map-Stmt Stmt Bool q z)) in
      let C : rule.Rule → Type 0 = λ c. Fits c (q (roll-Stmt x)) in
      let L : Bool → Type 0 = λ r. Fits (rule_step funcs (map-Stmt Stmt rule.Rule f x)) r in
      subst C (sym (fold-roll-Stmt rule.Rule (rule_step funcs) x))
      (subst L (sym (fold-roll-Stmt Bool (calls_step funcs) x))
      (subst P is (layer_fits f q (λ i. i.0) (λ i. i.1) funcs y))))

  pub stmt_fits : (x : Stmt) → Fits (rule_of funcs x) (calls_fit funcs x)
  unfolding rule_of calls_fit
  stmt_fits x =
      subst (λ c. Fits c (calls_fit funcs x)) (sym (stmt_fold_is rule.Rule (rule_step funcs) x))
      (subst (λ r. Fits (fold-Stmt rule.Rule (rule_step funcs) x) r) (sym (stmt_fold_is Bool (calls_step funcs) x))
      (folded_fits x))
