-- What statements and bodies do to the scope.
use Rattle.std.proofs.Common.{◌≡◌, ℕ, ◌-◌, ◌≤◌, ◌&&◌, Bool, true, false, IfSome, List, [], ◌∷◌, ◌++◌, map, filter, length, take, drop, Option, Some, None, Result, Ok, Err, refl, ap, sym, ◌∙◌, subst, append_assoc, length-drop, arith, length-append}
use Rattle.std.proofs.lemmas.List.{append-nil, take-append-le}
use Rattle.std.proofs.Math.Seq.{take-length}
use Rattle.psac_ops.specs.Table.{◌>>=◌}
use Rattle.psac_syntax.specs.declared.program.Stmt.{Stmt, out-Stmt}
use Rattle.psac_syntax.specs.declared.program.Stmt.TheOpen.{Stmt-F}
use Rattle.psac_syntax.specs.declared.program.Stmt.TheFolds as folds
use Rattle.psac_syntax.specs.declared.program.Func.{Func}
use Rattle.psac_syntax.specs.declared.program.ReadItem.{ReadItem}
use Rattle.psac_model.specs.Series.{Breach, NotWritten, Fault, unless, without, Scope, Dest, Rule, has, dest_names, so, with_value, with_dest, with_items, items_wrong, one_by_one, all_written, body_rule, rule_step, rule_of}
use Rattle.psac_model.proofs.Ruled.{rule_of_layer}
use Rattle.psac_check.specs.declared.fault.CheckFault.{CheckFault}
use Rattle.psac_check.specs.Faults.{fault_of}
use Rattle.psac_check.specs.Follows.{Fails}

pub rest_is : {A : Type 0} (n : ℕ) (xs : List A) → take (length xs - n) (drop n xs) ≡ drop n xs
rest_is n xs = ap (λ k. take k (drop n xs)) (sym (length-drop n xs)) ∙ take-length (drop n xs)

-- names come behind those that are there
pub record Grows (s t : Scope) : Type 0 where
  pub values : List ℕ
  pub dests : List Dest
  pub values_are : t.values ≡ s.values ++ values
  pub dests_are : t.dests ≡ s.dests ++ dests

stays : (s : Scope) → Grows s s
stays s = record { values = []; dests = []; values_are = sym (append-nil s.values); dests_are = sym (append-nil s.dests) }

grows_then : (a b c : Scope) → Grows a b → Grows b c → Grows a c
grows_then a b c x y =
    record {
      values = x.values ++ y.values;
      dests = x.dests ++ y.dests;
      values_are = y.values_are ∙ ap (λ r. r ++ y.values) x.values_are ∙ append_assoc a.values x.values y.values;
      dests_are = y.dests_are ∙ ap (λ r. r ++ y.dests) x.dests_are ∙ append_assoc a.dests x.dests y.dests;
    }

so_ok : {A : Type 0} (wrong : Option Breach) (line : ℕ) (given : Result A Fault) (a : A) → so wrong line given ≡ Ok a → given ≡ Ok a
so_ok None line given a h = h
so_ok (Some b) line given a h = absurd cc

then_ok : {A B : Type 0} (r : Result A Fault) (more : A → Result B Fault) (b : B) → (r >>= more) ≡ Ok b → (a : A) × (r ≡ Ok a) × (more a ≡ Ok b)
then_ok (Ok a) more b h = (a, refl, h)
then_ok (Err e) more b h = absurd cc

ok_is : {A : Type 0} (a b : A) (r : Result A Fault) → r ≡ Ok a → r ≡ Ok b → a ≡ b
ok_is a b r h k = let e = sym h ∙ k in cc

same_scope : (s : Scope) (w : List ℕ) (d : Scope × List ℕ) (r : Result (Scope × List ℕ) Fault) → r ≡ Ok (s, w) → r ≡ Ok d → Grows s d.0
same_scope s w d r h k = subst (λ z. Grows s z.0) (ok_is (s, w) d r h k) (stays s)

value_grows : (s : Scope) (x : ℕ) → Grows s (with_value x s)
value_grows s x = record { values = x ∷ []; dests = []; values_are = refl; dests_are = sym (append-nil s.dests) }

dest_grows : (s : Scope) (x line : ℕ) → Grows s (with_dest x line s)
dest_grows s x line = record { values = []; dests = (x, line) ∷ []; values_are = sym (append-nil s.values); dests_are = refl }

module _ (funcs : List Func) where
  step_grows : (y : Stmt-F Rule) (s : Scope) (w : List ℕ) (d : Scope × List ℕ) → rule_step funcs y s w ≡ Ok d → Grows s d.0
  step_grows (Stmt-F.Let line x e) s w d h =
      subst (λ z. Grows s z.0) (ok_is (with_value x s, w) d (Ok (with_value x s, w)) refl (so_ok _ line _ d h)) (value_grows s x)
  step_grows (Stmt-F.New line x) s w d h =
      subst (λ z. Grows s z.0) (ok_is (with_dest x line s, w) d (Ok (with_dest x line s, w)) refl (so_ok _ line _ d h)) (dest_grows s x line)
  step_grows (Stmt-F.Write line x e) s w d h = same_scope s (w ++ x ∷ []) d _ refl (so_ok _ line _ d h)
  step_grows (Stmt-F.Read line block items body) s w d h =
      let a = then_ok (body_rule body (with_items items s) w) (λ after. Ok (s, after)) d (so_ok _ line _ d h) in
      same_scope s a.0 d _ refl a.2
  step_grows (Stmt-F.If line e first second) s w d h =
      let a = then_ok (body_rule first s w) _ d (so_ok _ line _ d h) in
      let b = then_ok (body_rule second s w) _ d a.2 in
      same_scope s a.0 d _ refl (so_ok _ line _ d b.2)
  step_grows (Stmt-F.Par line left right) s w d h =
      let a = then_ok (body_rule left s w) _ d h in
      let b = then_ok (body_rule right s w) _ d a.2 in
      same_scope s (a.0 ++ without a.0 b.0) d _ refl (so_ok _ line _ d b.2)
  step_grows (Stmt-F.Call line f values dests) s w d h = same_scope s (w ++ dests) d _ refl (so_ok _ line _ d h)

  stmt_grows : (x : Stmt) (s : Scope) (w : List ℕ) (d : Scope × List ℕ) → rule_of funcs x s w ≡ Ok d → Grows s d.0
  stmt_grows x s w d h = step_grows (folds.map-Stmt Stmt Rule (rule_of funcs) (out-Stmt x)) s w d (sym (ap (λ (r : Rule). r s w) (rule_of_layer funcs x (out-Stmt x) refl)) ∙ h)

  pub all_grow : (body : List Stmt) (s : Scope) (w : List ℕ) (d : Scope × List ℕ) → one_by_one (map (rule_of funcs) body) s w ≡ Ok d → Grows s d.0
  all_grow [] s w d h = same_scope s w d _ refl h
  all_grow (x ∷ body) s w d h =
      let a = then_ok (rule_of funcs x s w) (λ after. one_by_one (map (rule_of funcs) body) after.0 after.1) d h in
      grows_then s a.0.0 d.0 (stmt_grows x s w a.0 a.1) (all_grow body a.0.0 a.0.1 d a.2)

items_grow : (items : List ReadItem) (s : Scope) → Grows s (with_items items s)
items_grow [] s = stays s
items_grow (i ∷ items) s = grows_then s (with_value i.bound s) (with_items items (with_value i.bound s)) (value_grows s i.bound) (items_grow items (with_value i.bound s))

take_front : {A : Type 0} (xs ys : List A) → take (length xs) (xs ++ ys) ≡ xs
take_front xs ys =
    let le : length xs ≤ length xs = omega arith in
    rw take-append-le (take-length xs)

pub grown_dests : {s t : Scope} → Grows s t → length s.dests ≤ length t.dests
grown_dests {s} {t} g = omega (arith, ap length g.dests_are, length-append s.dests g.dests)

-- what was there before
pub grown_back : {s t : Scope} → Grows s t → record { values = take (length s.values) t.values; dests = take (length s.dests) t.dests } ≡ s
grown_back {s} {t} g =
    ap (λ vs. record { values = vs; dests = take (length s.dests) t.dests }) (ap (λ xs. take (length s.values) xs) g.values_are ∙ take_front s.values g.values)
    ∙ ap (λ ds. record { values = s.values; dests = ds }) (ap (λ xs. take (length s.dests) xs) g.dests_are ∙ take_front s.dests g.dests)

pub left_scope : (s t u : Scope) (values dests : ℕ) → Grows s t → values ≡ length s.values → dests ≡ length s.dests → u ≡ record { values = take values t.values; dests = take dests t.dests } → u ≡ s
left_scope s t u values dests g a b h =
    h ∙ ap (λ n. record { values = take n t.values; dests = take dests t.dests }) a ∙ ap (λ n. record { values = take (length s.values) t.values; dests = take n t.dests }) b ∙ grown_back g

pub left_items : (items : List ReadItem) (s t u : Scope) (values dests : ℕ) → t ≡ with_items items s → values ≡ length s.values → dests ≡ length s.dests → u ≡ record { values = take values t.values; dests = take dests t.dests } → u ≡ s
left_items items s t u values dests e a b h = left_scope s t u values dests (subst (Grows s) (sym e) (items_grow items s)) a b h

-- ---- the end of a body

written_stays : {A : Type 0} (f : Fault) (ds : List Dest) (w : List ℕ) (given : Result A Fault) → all_written {A = Unit {0}} ds w (Ok tt) ≡ Err f → all_written ds w given ≡ Err f
written_stays f [] w given h = absurd cc
written_stays {A} f (d ∷ ds) w given h = one (λ k. written_stays f ds w given k) (has d.0 w) h
  where
    one : (all_written {A = Unit {0}} ds w (Ok tt) ≡ Err f → all_written ds w given ≡ Err f) → (b : Bool) → so {A = Unit {0}} (unless b NotWritten) d.1 (all_written ds w (Ok tt)) ≡ Err f → so (unless b NotWritten) d.1 (all_written ds w given) ≡ Err f
    one more true k = more k
    one more false k = let p : Err (NotWritten, d.1) ≡ Err f = k in let e : (NotWritten, d.1) ≡ f = cc in ap (λ z. Err z) e

written_kept : {A : Type 0} (o : Option Fault) (ds : List Dest) (w : List ℕ) (given : Result A Fault) → IfSome o (λ f. all_written {A = Unit {0}} ds w (Ok tt) ≡ Err f) → IfSome o (λ f. all_written ds w given ≡ Err f)
written_kept None ds w given h = h
written_kept (Some f) ds w given h = written_stays f ds w given h

written_fails : {A : Type 0} (e : CheckFault) (ds : List Dest) (w : List ℕ) (given : Result A Fault) → Fails {A = Unit {0}} e (all_written ds w (Ok tt)) → Fails e (all_written ds w given)
written_fails e ds w given h = written_kept (fault_of e) ds w given h

written_passes : {A : Type 0} (ds : List Dest) (w : List ℕ) (given : Result A Fault) (done : Unit {0}) → all_written ds w (Ok tt) ≡ Ok done → all_written ds w given ≡ given
written_passes [] w given done h = refl
written_passes (d ∷ ds) w given done h = one (λ k. written_passes ds w given done k) (has d.0 w) h
  where
    one : (all_written ds w (Ok tt) ≡ Ok done → all_written ds w given ≡ given) → (b : Bool) → so (unless b NotWritten) d.1 (all_written ds w (Ok tt)) ≡ Ok done → so (unless b NotWritten) d.1 (all_written ds w given) ≡ given
    one more true k = more k
    one more false k = absurd cc

module _ (rs : List Rule) (s : Scope) (w : List ℕ) (t : Scope) (v : List ℕ) (ran : one_by_one rs s w ≡ Ok (t, v)) (n : ℕ) (at : n ≡ length s.dests) where
  -- the end of a body that came through
  ended : body_rule rs s w ≡ all_written (drop n t.dests) v (Ok (filter (λ d. has d (dest_names s)) v))
  ended =
      ap (λ z. z >>= λ (after : Scope × List ℕ). all_written (drop (length s.dests) after.0.dests) after.1 (Ok (filter (λ d. has d (dest_names s)) after.1))) ran
      ∙ ap (λ k. all_written (drop k t.dests) v (Ok (filter (λ d. has d (dest_names s)) v))) (sym at)

  pub body_fails : (e : CheckFault) → Fails {A = Unit {0}} e (all_written (drop n t.dests) v (Ok tt)) → Fails e (body_rule rs s w)
  body_fails e h = subst (λ z. Fails e z) (sym ended) (written_fails e (drop n t.dests) v _ h)

  pub body_leaves : (done : Unit {0}) (u : Scope) (left : List ℕ) → all_written (drop n t.dests) v (Ok tt) ≡ Ok done → u ≡ s → left ≡ filter (λ d. has d (dest_names u)) v → body_rule rs s w ≡ Ok left
  body_leaves done u left a b c =
      ended ∙ written_passes (drop n t.dests) v _ done a ∙ ap (λ z. Ok (filter (λ d. has d (dest_names z)) v)) (sym b) ∙ ap Ok (sym c)
