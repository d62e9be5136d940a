-- The checker's rule accepts exactly the programs of the lean rule.
use Rattle.std.proofs.Common.{◌≡◌, ℕ, ◌==◌, ◌&&◌, ◌||◌, Bool, true, false, not, List, [], ◌∷◌, ◌++◌, map, length, Option, Some, None, Ok, refl, ap, sym, ◌∙◌, subst, arith, inl, inr}
use Rattle.psac_syntax.specs.declared.program.Stmt.{Stmt}
use Rattle.psac_syntax.specs.declared.program.Func.{Func}
use Rattle.psac_syntax.specs.declared.program.Program.{Program}
use Rattle.psac_model.specs.Fresh.{main_of}
use Rattle.psac_model.specs.Series as rule
use Rattle.psac_model.specs.Series.{Rebound, NoMain, Dest, Scope, has, dest_names, first_wrong, unless, all_written, body_rule, rule_of, params_wrong, headers, main_meets, func_meets, bodies, meets}
use Rattle.psac_laws.specs.Places.{IsIn}
use Rattle.psac_laws.specs.Standing as lean
use Rattle.psac_laws.specs.Standing.{left_by, series_of, every, distinct, MeetsSeries}
use Rattle.psac_laws.proofs.Places.{nat_is, nat_same, and_is, not_true, not_both}
use Rattle.psac_laws.proofs.Rules.{or_not, or_left, or_right, not_is, other}
use Rattle.psac_laws.proofs.Results.{ok_then}
use Rattle.psac_laws.proofs.Tells.{unless_is, first_is, Tells}
use Rattle.psac_laws.proofs.Meets.{so_is}
use Rattle.psac_laws.proofs.Calls.{distinct_parts}
use Rattle.psac_laws.proofs.Checked.{stmt_ties, func_right}
use Rattle.psac_series.specs.Lean.{calls_fit, IsFunc, MeetsRule}
use Rattle.psac_series.proofs.Fits.{stmt_fits, body_fits}
use Rattle.psac_series.proofs.Names.{IsApart, first_none}
use Rattle.psac_series.proofs.Takes.{names_of, body_takes, all_written_is, stmt_takes}

map_self : (xs : List Stmt) → map (λ x. x) xs ≡ xs
map_self [] = refl
map_self (x ∷ xs) = ap (λ z. x ∷ z) (map_self xs)

none_long : (xs : List ℕ) → (length xs == 0) ≡ true → xs ≡ []
none_long [] h = refl
none_long (x ∷ xs) h = absurd (let e : length (x ∷ xs) ≡ 0 = nat_is (length (x ∷ xs)) 0 h in omega (arith, e))

flipped : (a b : ℕ) → (a == b) ≡ false → (b == a) ≡ false
flipped a b h = not_true (b == a) (λ t. not_both (subst (λ z. (z == b) ≡ true) (nat_is b a t) (nat_same b)) h)

abbrev name_list : List Func → List ℕ
name_list fs = map (λ f. f.name) fs

name_among : (fs : List Func) (f : Func) → IsIn f fs → has f.name (name_list fs) ≡ true
name_among [] f i = absurd i
name_among (g ∷ fs) f i =
    elim i [
      | inl e ↦ or_left (g.name == f.name) (has f.name (name_list fs))
          (subst (λ (z : Func). (g.name == z.name) ≡ true) e (nat_same g.name))
      | inr k ↦ or_right (g.name == f.name) (has f.name (name_list fs)) (name_among fs f k)
    ]

name_not_among : (fs : List Func) (x : ℕ) → ((f : Func) → IsIn f fs → (x == f.name) ≡ false)
    → has x (name_list fs) ≡ false
name_not_among [] x h = refl
name_not_among (g ∷ fs) x h = rw (flipped x g.name (h g (inl refl)), name_not_among fs x (λ f i. h f (inr i))) refl

-- from the checker's rule
pub record Headed (seen : List ℕ) (fs : List Func) : Type 0 where
  pub names : distinct (name_list fs) ≡ true
  pub new : (f : Func) → IsIn f fs → has f.name seen ≡ false

headed : (seen : List ℕ) (fs : List Func) → headers seen fs ≡ Ok tt → Headed seen fs
headed seen [] h = record { names = refl; new = λ f i. absurd i }
headed seen (g ∷ fs) h =
    let a = so_is (first_wrong (unless (not (has g.name seen)) Rebound ∷ params_wrong (g.values ++ g.dests) ∷ []))
    g.line (headers (g.name ∷ seen) fs) tt h in
    let b = first_is (unless (not (has g.name seen)) Rebound) (params_wrong (g.values ++ g.dests) ∷ []) a.0 in
    let here : has g.name seen ≡ false = not_is (has g.name seen) (unless_is _ Rebound b.0) in
    let more = headed (g.name ∷ seen) fs a.1 in
    let past : (f : Func) → IsIn f fs → ((g.name == f.name) ≡ false) × (has f.name seen ≡ false) = λ f i. or_not
    (g.name == f.name) (has f.name seen) (more.new f i) in
    record {
      names = rw (name_not_among fs g.name (λ f i. (past f i).0), more.names) refl;
      new = λ f i. elim i [ inl e ↦ subst (λ (z : Func). has z.name seen ≡ false) e here | inr k ↦ (past f k).1 ];
    }

begun : (o : Option Func) (r : Unit {0}) → main_meets o ≡ Ok r → (f : Func) × (o ≡ Some f) × (f.values ≡ [])
begun None r h = absurd cc
begun (Some f) r h =
    let a = so_is (unless (length f.values == 0) NoMain) f.line (Ok tt) r h in
    (f, refl, none_long f.values (unless_is _ NoMain a.0))

module _ (funcs : List Func) where
  func_calls : (g : Func) → func_meets funcs g ≡ Ok tt → every (map (calls_fit funcs) g.body) ≡ true
  func_calls g h =
      let a = ok_then (body_rule (map (rule_of funcs) g.body) (rule.params g) []) _ tt h in
      let same = map_self g.body in
      let in_self : body_rule (map (rule_of funcs) (map (λ x. x) g.body)) (rule.params g) [] ≡ Ok a.0 = subst
      (λ z. body_rule (map (rule_of funcs) z) (rule.params g) [] ≡ Ok a.0) (sym same) a.1 in
      subst (λ z. every (map (calls_fit funcs) z) ≡ true) same
      (body_fits (rule_of funcs) (calls_fit funcs) (λ x. x) (stmt_fits funcs) g.body (rule.params g) [] a.0 in_self)

  each_func : (seen : List ℕ) (fs : List Func) (g : Func) → headers seen fs ≡ Ok tt → bodies funcs fs ≡ Ok tt
      → IsIn g fs → IsFunc funcs g
  each_func seen [] g h b i = absurd i
  each_func seen (f ∷ fs) g h b i =
      let named = so_is (first_wrong (unless (not (has f.name seen)) Rebound ∷ params_wrong
      (f.values ++ f.dests) ∷ [])) f.line (headers (f.name ∷ seen) fs) tt h in
      let second = first_is (unless (not (has f.name seen)) Rebound)
      (params_wrong (f.values ++ f.dests) ∷ []) named.0 in
      let third = first_is (params_wrong (f.values ++ f.dests)) [] second.1 in
      let done = ok_then (func_meets funcs f) _ tt b in
      elim i [
        | inl e ↦ subst (IsFunc funcs) e
            (record { meets = func_right funcs f third.0 done.1; calls = func_calls f done.1 })
        | inr more ↦ each_func (f.name ∷ seen) fs g named.1 done.2 more
      ]

pub lean_of : (p : Program) → meets p ≡ Ok tt → MeetsRule p
unfolding meets
lean_of p h =
    let fs = p.funcs in
    let a = ok_then (headers [] fs) _ tt h in
    let b = ok_then (main_meets (main_of p)) _ tt a.2 in
    let first = headed [] fs a.1 in
    let start = begun (main_of p) b.0 b.1 in
    record {
      names = first.names;
      main = start.0;
      found = start.1;
      bare = start.2;
      each =
          λ f i. each_func fs [] fs f a.1 b.2 i;
    }

-- from the lean rule
params_none : (xs : List ℕ) → distinct xs ≡ true → params_wrong xs ≡ None
params_none [] h = refl
params_none (x ∷ xs) h =
    let b = and_is (not (has x xs)) (distinct xs) h in
    first_none (unless (not (has x xs)) Rebound) (params_wrong xs ∷ []) (rw b.0 refl)
    (first_none (params_wrong xs) [] (params_none xs b.1) refl)

headers_done : (seen : List ℕ) (fs : List Func) → distinct (name_list fs) ≡ true
    → ((f : Func) → IsIn f fs → has f.name seen ≡ false)
    → ((f : Func) → IsIn f fs → distinct (f.values ++ f.dests) ≡ true) → headers seen fs ≡ Ok tt
headers_done seen [] d new once = refl
headers_done seen (g ∷ fs) d new once =
    let b = and_is (not (has g.name (name_list fs))) (distinct (name_list fs)) d in
    let gone = not_is (has g.name (name_list fs)) b.0 in
    let here : not (has g.name seen) ≡ true = rw (new g (inl refl)) refl in
    let none = first_none (unless (not (has g.name seen)) Rebound) (params_wrong (g.values ++ g.dests) ∷ [])
    (rw here refl) (first_none (params_wrong (g.values ++ g.dests)) []
    (params_none (g.values ++ g.dests) (once g (inl refl))) refl) in
    rw none
    (headers_done (g.name ∷ seen) fs b.1
    (λ f i. rw (other g.name f.name (name_list fs) gone (name_among fs f i), new f (inr i)) refl)
    (λ f i. once f (inr i)))

dest_list : (line : ℕ) (ds : List ℕ) → names_of (map (λ d. (d, line)) ds) ≡ ds
dest_list line [] = refl
dest_list line (d ∷ ds) = ap (λ z. d ∷ z) (dest_list line ds)

value_none : (v : Bool) → v ≡ (v || false)
value_none v = grind arith

dest_none : (d : Bool) → d ≡ (d && not false)
dest_none d = grind arith

gone_is : (d a : Bool) → false ≡ (d && not a) → d ≡ true → a ≡ true
gone_is d a h k = grind arith

params_tell : (g : Func) → Tells (rule.params g) [] (lean.params g)
params_tell g =
    record {
      known = λ x. value_none (has x g.values);
      unwritten = λ x. dest_none (has x g.dests) ∙ ap (λ z. has x z && not false) (sym (dest_list g.line g.dests));
      within = λ x k. absurd cc;
    }

params_apart : (g : Func) → distinct (g.values ++ g.dests) ≡ true → IsApart (rule.params g)
params_apart g h x k = ap (has x) (dest_list g.line g.dests) ∙ (distinct_parts g.values g.dests h).between x k

module _ (funcs : List Func) where
  func_done : (g : Func) → IsFunc funcs g → func_meets funcs g ≡ Ok tt
  func_done g x =
      let same = map_self g.body in
      let left : left_by (map series_of (map (λ z. z) g.body)) (lean.params g) ≡ Some [] = subst
      (λ z. left_by (map series_of z) (lean.params g) ≡ Some []) (sym same) x.meets.body in
      let calls : every (map (calls_fit funcs) (map (λ z. z) g.body)) ≡ true = subst
      (λ z. every (map (calls_fit funcs) z) ≡ true) (sym same) x.calls in
      let b = body_takes (rule_of funcs) series_of (calls_fit funcs) (λ z. z) (stmt_ties funcs)
      (stmt_takes funcs) g.body (rule.params g) [] (lean.params g) [] (params_tell g)
      (params_apart g x.meets.header) left calls in
      let is : body_rule (map (rule_of funcs) g.body) (rule.params g) [] ≡ Ok b.after = subst
      (λ z. body_rule (map (rule_of funcs) z) (rule.params g) [] ≡ Ok b.after) same b.is in
      rw is (all_written_is (rule.params g).dests b.after (Ok tt)
      (λ y k. gone_is (has y (dest_names (rule.params g))) (has y b.after) (b.later.unwritten y) k))

  bodies_done : (fs : List Func) → ((f : Func) → IsIn f fs → IsFunc funcs f) → bodies funcs fs ≡ Ok tt
  bodies_done [] h = refl
  bodies_done (f ∷ fs) h = rw (func_done f (h f (inl refl))) (bodies_done fs (λ g i. h g (inr i)))

pub meets_of : (p : Program) → MeetsRule p → meets p ≡ Ok tt
unfolding meets
meets_of p x =
    let fs = p.funcs in
    let first = headers_done [] fs x.names (λ f i. refl) (λ f i. (x.each f i).meets.header) in
    let begins : main_meets (main_of p) ≡ Ok tt = subst (λ z. main_meets z ≡ Ok tt) (sym x.found) (rw x.bare refl) in
    rw (first, begins) (bodies_done fs fs x.each)
