-- Each function of a program that meets the series rule meets the leaner rule.
use Rattle.std.proofs.Common.{◌≡◌, ℕ, ◌==◌, ◌&&◌, ◌||◌, Bool, true, false, not, List, [], ◌∷◌, ◌++◌, map, find, length, Option, Some, None, Ok, refl, ap, sym, ◌∙◌, subst, arith, inl, inr}
use Rattle.std.specs.Prelude.{option_map}
use Rattle.psac_syntax.specs.declared.program.Stmt.{Stmt, map-Stmt, roll-Stmt}
use Rattle.psac_syntax.specs.declared.program.Stmt.TheOpen.{Stmt-F}
use Rattle.psac_syntax.specs.declared.program.Stmt.TheFolds.{fold-Stmt, fold-roll-Stmt, ind-Stmt}
use Rattle.psac_ops.specs.declared.plain.TextId.{TextId}
use Rattle.psac_syntax.specs.declared.program.Func.{Func}
use Rattle.psac_syntax.specs.declared.program.Program.{Program}
use Rattle.psac_syntax.proofs.Folds.{stmt_fold_is}
use Rattle.psac_model.specs.Run.{func_named}
use Rattle.psac_model.specs.Fresh.{World, main_of, world_of}
use Rattle.psac_model.specs.Series as rule
use Rattle.psac_model.specs.Series.{Rebound, NoMain, Fault, Dest, has, dest_names, first_wrong, unless, so, all_written, body_rule, rule_step, rule_of, params_wrong, headers, main_meets, func_meets, bodies, meets}
use Rattle.psac_laws.specs.Standing as lean
use Rattle.psac_laws.specs.Standing.{left_by, series_step, series_of, distinct, MeetsSeries}
use Rattle.psac_laws.specs.Places.{IsIn}
use Rattle.psac_laws.proofs.Places.{none_some, some_is, nat_is, nat_same, test_or, not_both}
use Rattle.psac_laws.proofs.Rules.{or_left}
use Rattle.psac_laws.proofs.Results.{ok_then}
use Rattle.psac_laws.proofs.Tells.{unless_is, first_is, Tells}
use Rattle.psac_laws.proofs.Meets.{so_is}
use Rattle.psac_laws.proofs.Bodies.{Ties, all_ties, body_ties, written_all}
use Rattle.psac_laws.proofs.Layers.{layer_ties}
use Rattle.psac_laws.proofs.Opening.{IsChecked}

map_same : (xs : List Stmt) → map (λ x. x) xs ≡ xs
map_same [] = refl
map_same (x ∷ xs) = ap (λ z. x ∷ z) (map_same xs)

no_member : (xs : List ℕ) → ((x : ℕ) → has x xs ≡ false) → xs ≡ []
no_member [] h = refl
no_member (y ∷ ys) h = absurd (not_both (or_left (y == y) (has y ys) (nat_same y)) (h y))

value_none : (v : Bool) → v ≡ (v || false)
value_none v = grind arith

dest_none : (d : Bool) → d ≡ (d && not false)
dest_none d = grind arith

all_gone : (d a : Bool) → (d ≡ true → a ≡ true) → (d && not a) ≡ false
all_gone d a h = grind arith

params_names : (line : ℕ) (ds : List ℕ) → map (λ (d : Dest). d.0) (map (λ d. (d, line)) ds) ≡ ds
params_names line [] = refl
params_names line (d ∷ ds) = ap (λ z. d ∷ z) (params_names line ds)

params_tell : (g : Func) → Tells (rule.params g) [] (lean.params g)
params_tell g =
    record {
      known = λ x. value_none (has x g.values);
      unwritten = λ x. dest_none (has x g.dests) ∙ ap (λ z. has x z && not false) (sym (params_names g.line g.dests));
      within = λ x k. absurd cc;
    }

params_distinct : (xs : List ℕ) → params_wrong xs ≡ None → distinct xs ≡ true
params_distinct [] h = refl
params_distinct (x ∷ xs) h =
    let a = first_is (unless (not (has x xs)) Rebound) (params_wrong xs ∷ []) h in
    let b = first_is (params_wrong xs) [] a.1 in
    rw (unless_is (not (has x xs)) Rebound a.0, params_distinct xs b.0) refl

module _ (funcs : List Func) where
  folded_ties : (x : Stmt) → Ties (fold-Stmt rule.Rule (rule_step funcs) x) (fold-Stmt lean.Rule series_step x)
  folded_ties =
      ind-Stmt (λ x. Ties (fold-Stmt rule.Rule (rule_step funcs) x) (fold-Stmt lean.Rule series_step x)) (λ x y is.
      let f : Stmt → rule.Rule = fold-Stmt rule.Rule (rule_step funcs) in
      let n : Stmt → lean.Rule = fold-Stmt lean.Rule series_step in
      let P : Stmt-F Stmt → Type 0 = λ z. Ties (rule_step funcs (map-Stmt Stmt rule.Rule f z)) (series_step (map-Stmt Stmt lean.Rule n z)) in
      let C : rule.Rule → Type 0 = λ c. Ties c (n (roll-Stmt x)) in
      let L : lean.Rule → Type 0 = λ r. Ties (rule_step funcs (map-Stmt Stmt rule.Rule f x)) r in
      subst C (sym (fold-roll-Stmt rule.Rule (rule_step funcs) x))
      (subst L (sym (fold-roll-Stmt lean.Rule series_step x))
      (subst P is (layer_ties funcs f n (λ i. i.0) (λ i. i.1) y))))

  pub stmt_ties : (x : Stmt) → Ties (rule_of funcs x) (series_of x)
  unfolding rule_of series_of
  stmt_ties x =
      subst (λ c. Ties c (series_of x)) (sym (stmt_fold_is rule.Rule (rule_step funcs) x))
      (subst (λ r. Ties (fold-Stmt rule.Rule (rule_step funcs) x) r) (sym (stmt_fold_is lean.Rule series_step x)) (folded_ties x))

  pub stmts_ties : (body : List Stmt) → Ties (rule.one_by_one (map (rule_of funcs) body)) (lean.one_by_one (map series_of body))
  stmts_ties body =
      subst (λ z. Ties (rule.one_by_one (map (rule_of funcs) z)) (lean.one_by_one (map series_of z))) (map_same body)
      (all_ties (rule_of funcs) series_of (λ x. x) stmt_ties body)

  pub func_right : (g : Func) → params_wrong (g.values ++ g.dests) ≡ None → func_meets funcs g ≡ Ok tt → MeetsSeries g
  func_right g header h =
      let a = ok_then (body_rule (map (rule_of funcs) g.body) (rule.params g) []) _ tt h in
      let b = body_ties (map (rule_of funcs) g.body) (map series_of g.body) (stmts_ties g.body) (rule.params g) [] (lean.params g) a.0 (params_tell g) a.1 in
      let c = written_all (rule.params g).dests a.0 (Ok tt) tt a.2 in
      let none : b.left ≡ [] = no_member b.left (λ x. b.later.unwritten x ∙ all_gone (has x (dest_names (rule.params g))) (has x a.0) (c.0 x)) in
      record { header = params_distinct (g.values ++ g.dests) header; body = b.is ∙ ap Some none }

  in_right : (seen : List ℕ) (fs : List Func) (g : Func) → headers seen fs ≡ Ok tt → bodies funcs fs ≡ Ok tt → IsIn g fs → MeetsSeries g
  in_right seen [] g h b i = absurd i
  in_right seen (f ∷ fs) g h b i =
      let named = so_is (first_wrong (unless (not (has f.name seen)) Rebound ∷ params_wrong (f.values ++ f.dests) ∷ [])) f.line (headers (f.name ∷ seen) fs) tt h in
      let second = first_is (unless (not (has f.name seen)) Rebound) (params_wrong (f.values ++ f.dests) ∷ []) named.0 in
      let third = first_is (params_wrong (f.values ++ f.dests)) [] second.1 in
      let done = ok_then (func_meets funcs f) _ tt b in
      elim i [
        | inl e ↦ subst MeetsSeries e (func_right f third.0 done.1)
        | inr more ↦ in_right (f.name ∷ seen) fs g named.1 done.2 more
      ]

named_in : (f : ℕ) (fs : List Func) (g : Func) → func_named f fs ≡ Some g → IsIn g fs
named_in f [] g e = absurd (none_some e)
named_in f (h ∷ fs) g e =
    elim (test_or (h.name == f)) [
      | inl t ↦ (let k : Some h ≡ Some g = rw t at e in inl (some_is k))
      | inr t ↦ (let k : func_named f fs ≡ Some g = rw t at e in inr (named_in f fs g k))
    ]

found_in : (test : Func → Bool) (fs : List Func) (g : Func) → find test fs ≡ Some g → IsIn g fs
found_in test [] g e = absurd (none_some e)
found_in test (h ∷ fs) g e =
    elim (test_or (test h)) [
      | inl t ↦ (let k : Some h ≡ Some g = rw t at e in inl (some_is k))
      | inr t ↦ (let k : find test fs ≡ Some g = rw t at e in inr (found_in test fs g k))
    ]

none_long : (xs : List ℕ) → (length xs == 0) ≡ true → xs ≡ []
none_long [] h = refl
none_long (x ∷ xs) h = absurd (let e : length (x ∷ xs) ≡ 0 = nat_is (length (x ∷ xs)) 0 h in omega (arith, e))

world_by : (o : Option Func) (p : Program) (texts : List TextId) (w : World) → option_map (λ f. record { program = p; texts = texts; main = f }) o ≡ Some w → (w.program ≡ p) × (w.texts ≡ texts) × (o ≡ Some w.main)
world_by None p texts w h = absurd (none_some h)
world_by (Some f) p texts w h =
    let e : record { program = p; texts = texts; main = f } ≡ w = some_is h in
    (sym (ap (λ (z : World). z.program) e), sym (ap (λ (z : World). z.texts) e), ap (λ (z : World). Some z.main) e)

-- the world of a program has its main
pub world_is : (p : Program) (texts : List TextId) (w : World) → world_of p texts ≡ Some w → (w.program ≡ p) × (w.texts ≡ texts) × (main_of p ≡ Some w.main)
world_is p texts w h = world_by (main_of p) p texts w h

pub is_checked : (w : World) → meets w.program ≡ Ok tt → main_of w.program ≡ Some w.main → IsChecked w
unfolding meets
is_checked w h m =
    let fs = w.program.funcs in
    let a = ok_then (headers [] fs) _ tt h in
    let b = ok_then (main_meets (main_of w.program)) _ tt a.2 in
    let right : (g : Func) → IsIn g fs → MeetsSeries g = λ g i. in_right fs [] fs g a.1 b.2 i in
    let begun : main_meets (Some w.main) ≡ Ok b.0 = subst (λ z. main_meets z ≡ Ok b.0) m b.1 in
    let bare = so_is (unless (length w.main.values == 0) NoMain) w.main.line (Ok tt) b.0 begun in
    record {
      each = λ f g e. right g (named_in f fs g e);
      start = right w.main (found_in _ fs w.main m);
      bare = none_long w.main.values (unless_is (length w.main.values == 0) NoMain bare.0);
    }
