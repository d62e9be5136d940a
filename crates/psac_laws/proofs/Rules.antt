-- What the series rule says at each statement.
use Rattle.std.proofs.Common.{◌≡◌, ℕ, ◌==◌, ◌||◌, Bool, true, false, not, List, [], ◌∷◌, ◌++◌, Option, Some, None, refl, ap, sym, ◌∙◌, subst, ◌⊎◌, inl, inr}
use Rattle.psac_syntax.specs.declared.program.Stmt.{Stmt, out-Stmt, map-Stmt}
use Rattle.psac_syntax.specs.declared.program.Stmt.TheOpen.{Stmt-F}
use Rattle.psac_syntax.proofs.Folds.{stmt_fold_out}
use Rattle.psac_syntax.specs.declared.program.ReadItem.{ReadItem}
use Rattle.psac_model.specs.Series.{has, without, all_in}
use Rattle.psac_laws.specs.Standing.{in_both, Standing, Rule, is_new, with_value, with_values, settled, only_if, then_with, one_by_one, left_by, series_step, series_of, series}
use Rattle.psac_laws.proofs.Places.{none_some, some_is, nat_is, nat_same, and_is, not_true, test_or, not_both}

pub or_is : (a b : Bool) → (a || b) ≡ true → (a ≡ true) ⊎ (b ≡ true)
or_is true b h = inl refl
or_is false b h = inr h

pub or_not : (a b : Bool) → (a || b) ≡ false → (a ≡ false) × (b ≡ false)
or_not true b h = absurd cc
or_not false b h = (refl, h)

pub or_left : (a b : Bool) → a ≡ true → (a || b) ≡ true
or_left a b h = rw h refl

pub or_right : (a b : Bool) → b ≡ true → (a || b) ≡ true
or_right true b h = refl
or_right false b h = h

pub not_is : (b : Bool) → not b ≡ true → b ≡ false
not_is true h = absurd cc
not_is false h = refl

pub has_without : (x : ℕ) (xs ys : List ℕ) → has x (without xs ys) ≡ true → (has x ys ≡ true) × (has x xs ≡ false)
has_without x xs [] h = absurd cc
has_without x xs (y ∷ ys) h =
    elim (test_or (has y xs)) [
      | inl e ↦ (let k : has x (without xs ys) ≡ true = rw e at h in let r = has_without x xs ys k in (or_right (y == x) (has x ys) r.0, r.1))
      | inr e ↦
          (let k : ((y == x) || has x (without xs ys)) ≡ true = rw e at h in
          elim (or_is (y == x) (has x (without xs ys)) k) [
            | inl q ↦ (or_left (y == x) (has x ys) q, subst (λ z. has z xs ≡ false) (nat_is y x q) e)
            | inr q ↦ (let r = has_without x xs ys q in (or_right (y == x) (has x ys) r.0, r.1))
          ])
    ]

pub without_has : (x : ℕ) (xs ys : List ℕ) → has x ys ≡ true → has x xs ≡ false → has x (without xs ys) ≡ true
without_has x xs [] h k = h
without_has x xs (y ∷ ys) h k =
    elim (or_is (y == x) (has x ys) h) [
      | inl q ↦ (let e : has y xs ≡ false = subst (λ z. has z xs ≡ false) (sym (nat_is y x q)) k in rw e (or_left (y == x) (has x (without xs ys)) q))
      | inr q ↦
          elim (test_or (has y xs)) [
            | inl e ↦ rw e (without_has x xs ys q k)
            | inr e ↦ rw e (or_right (y == x) (has x (without xs ys)) (without_has x xs ys q k))
          ]
    ]

pub has_append : (x : ℕ) (xs ys : List ℕ) → has x (xs ++ ys) ≡ true → (has x xs ≡ true) ⊎ (has x ys ≡ true)
has_append x [] ys h = inr h
has_append x (z ∷ xs) ys h =
    elim (or_is (z == x) (has x (xs ++ ys)) h) [
      | inl q ↦ inl (or_left (z == x) (has x xs) q)
      | inr q ↦ elim (has_append x xs ys q) [ inl r ↦ inl (or_right (z == x) (has x xs) r) | inr r ↦ inr r ]
    ]

pub append_left : (x : ℕ) (xs ys : List ℕ) → has x xs ≡ true → has x (xs ++ ys) ≡ true
append_left x [] ys h = absurd cc
append_left x (z ∷ xs) ys h =
    elim (or_is (z == x) (has x xs) h) [
      | inl q ↦ or_left (z == x) (has x (xs ++ ys)) q
      | inr q ↦ or_right (z == x) (has x (xs ++ ys)) (append_left x xs ys q)
    ]

pub append_right : (x : ℕ) (xs ys : List ℕ) → has x ys ≡ true → has x (xs ++ ys) ≡ true
append_right x [] ys h = h
append_right x (z ∷ xs) ys h = or_right (z == x) (has x (xs ++ ys)) (append_right x xs ys h)

pub all_in_has : (x : ℕ) (xs ys : List ℕ) → all_in xs ys ≡ true → has x xs ≡ true → has x ys ≡ true
all_in_has x [] ys h k = absurd cc
all_in_has x (z ∷ xs) ys h k =
    let b = and_is (has z ys) (all_in xs ys) h in
    elim (or_is (z == x) (has x xs) k) [
      | inl q ↦ subst (λ y. has y ys ≡ true) (nat_is z x q) b.0
      | inr q ↦ all_in_has x xs ys b.1 q
    ]

pub all_in_from : (xs ys : List ℕ) → ((x : ℕ) → has x xs ≡ true → has x ys ≡ true) → all_in xs ys ≡ true
all_in_from [] ys h = refl
all_in_from (x ∷ xs) ys h = rw (h x (or_left (x == x) (has x xs) (nat_same x)), all_in_from xs ys (λ y k. h y (or_right (x == y) (has y xs) k))) refl

-- what isn't in the wider list isn't in the other
pub all_in_not : (x : ℕ) (xs ys : List ℕ) → all_in xs ys ≡ true → has x ys ≡ false → has x xs ≡ false
all_in_not x xs ys h k = not_true (has x xs) (λ t. not_both (all_in_has x xs ys h t) k)

pub has_both : (x : ℕ) (xs ys : List ℕ) → has x (in_both xs ys) ≡ true → (has x xs ≡ true) × (has x ys ≡ true)
has_both x [] ys h = absurd cc
has_both x (z ∷ xs) ys h =
    elim (test_or (has z ys)) [
      | inl e ↦
          (let k : ((z == x) || has x (in_both xs ys)) ≡ true = rw e at h in
          elim (or_is (z == x) (has x (in_both xs ys)) k) [
            | inl q ↦ (or_left (z == x) (has x xs) q, subst (λ y. has y ys ≡ true) (nat_is z x q) e)
            | inr q ↦ (let r = has_both x xs ys q in (or_right (z == x) (has x xs) r.0, r.1))
          ])
      | inr e ↦ (let k : has x (in_both xs ys) ≡ true = rw e at h in let r = has_both x xs ys k in (or_right (z == x) (has x xs) r.0, r.1))
    ]

pub both_has : (x : ℕ) (xs ys : List ℕ) → has x xs ≡ true → has x ys ≡ true → has x (in_both xs ys) ≡ true
both_has x [] ys h k = h
both_has x (z ∷ xs) ys h k =
    elim (or_is (z == x) (has x xs) h) [
      | inl q ↦ (let e : has z ys ≡ true = subst (λ y. has y ys ≡ true) (sym (nat_is z x q)) k in rw e (or_left (z == x) (has x (in_both xs ys)) q))
      | inr q ↦
          elim (test_or (has z ys)) [
            | inl e ↦ rw e (or_right (z == x) (has x (in_both xs ys)) (both_has x xs ys q k))
            | inr e ↦ rw e (both_has x xs ys q k)
          ]
    ]

pub only_if_is : {A : Type 0} (b : Bool) (o : Option A) (y : A) → only_if b o ≡ Some y → (b ≡ true) × (o ≡ Some y)
only_if_is true o y h = (refl, h)
only_if_is false o y h = absurd (none_some h)

pub then_is : {A B : Type 0} (o : Option A) (f : A → Option B) (y : B) → then_with o f ≡ Some y → (z : A) × (o ≡ Some z) × (f z ≡ Some y)
then_is (Some x) f y h = (x, refl, h)
then_is None f y h = absurd (none_some h)

-- what a body that meets the rule leaves
pub record Leaves (rs : List Rule) (st : Standing) (left : List ℕ) : Type 0 where
  pub end : Standing
  pub meets : one_by_one rs st ≡ Some end
  pub within : all_in left st.unwritten ≡ true
  pub unwritten : end.unwritten ≡ left

pub leaves : (rs : List Rule) (st : Standing) (left : List ℕ) → left_by rs st ≡ Some left → Leaves rs st left
leaves rs st left h =
    let a = then_is (one_by_one rs st) _ left h in
    let b = only_if_is (all_in a.0.unwritten st.unwritten) (Some a.0.unwritten) left a.2 in
    let e : a.0.unwritten ≡ left = some_is b.1 in
    record { end = a.0; meets = a.1; within = subst (λ z. all_in z st.unwritten ≡ true) e b.0; unwritten = e }

pub with_values_same : (items : List ReadItem) (st inner : Standing) → with_values items st ≡ Some inner → inner.unwritten ≡ st.unwritten
with_values_same [] st inner h = ap (λ (z : Standing). z.unwritten) (sym (some_is h))
with_values_same (item ∷ items) st inner h =
    elim (test_or (is_new st item.bound)) [
      | inl e ↦ (let k : with_values items (with_value item.bound st) ≡ Some inner = rw e at h in with_values_same items (with_value item.bound st) inner k)
      | inr e ↦ (let k : None ≡ Some inner = rw e at h in absurd (none_some k))
    ]

-- a name that may be read, and isn't to be written
abbrev pub IsSettled : ℕ → Standing → Type 0
IsSettled x st = (has x st.known ≡ true) × (has x st.unwritten ≡ false)

settled_on : (x : ℕ) (left : List ℕ) (st : Standing) → all_in left st.unwritten ≡ true → IsSettled x st → IsSettled x (settled left st)
settled_on x left st h k = (append_right x (without left st.unwritten) st.known k.0, all_in_not x left st.unwritten h k.1)

pub settles : (x : ℕ) (left : List ℕ) (st : Standing) → has x st.unwritten ≡ true → has x left ≡ false → IsSettled x (settled left st)
settles x left st h k = (append_left x (without left st.unwritten) st.known (without_has x left st.unwritten h k), k)

pub without_in : (xs ys zs : List ℕ) → ((x : ℕ) → has x ys ≡ true → has x zs ≡ true) → all_in (without xs ys) zs ≡ true
without_in xs [] zs h = refl
without_in xs (y ∷ ys) zs h =
    let k : (x : ℕ) → has x ys ≡ true → has x zs ≡ true = λ x q. h x (or_right (y == x) (has x ys) q) in
    elim (test_or (has y xs)) [
      | inl e ↦ rw e (without_in xs ys zs k)
      | inr e ↦ rw (e, h y (or_left (y == y) (has y ys) (nat_same y))) (without_in xs ys zs k)
    ]

pub without_within : (xs ys : List ℕ) → all_in (without xs ys) ys ≡ true
without_within xs ys = without_in xs ys ys (λ x h. h)

pub both_in : (xs ys zs : List ℕ) → all_in xs zs ≡ true → all_in (in_both xs ys) zs ≡ true
both_in [] ys zs h = refl
both_in (x ∷ xs) ys zs h =
    let b = and_is (has x zs) (all_in xs zs) h in
    elim (test_or (has x ys)) [
      | inl e ↦ rw (e, b.0) (both_in xs ys zs b.1)
      | inr e ↦ rw e (both_in xs ys zs b.1)
    ]

pub new_is : (st : Standing) (x : ℕ) → is_new st x ≡ true → (has x st.known ≡ false) × (has x st.unwritten ≡ false)
new_is st x h =
    let b = and_is (not (has x st.known)) (not (has x st.unwritten)) h in
    (not_is (has x st.known) b.0, not_is (has x st.unwritten) b.1)

pub other : (x y : ℕ) (xs : List ℕ) → has x xs ≡ false → has y xs ≡ true → (x == y) ≡ false
other x y xs h k = not_true (x == y) (λ e. not_both (subst (λ z. has z xs ≡ true) (sym (nat_is x y e)) k) h)

pub step_stays : (x : ℕ) (y : Stmt-F Rule) (st mid : Standing) → series_step y st ≡ Some mid → IsSettled x st → IsSettled x mid
step_stays x (Stmt-F.Let line z e) st mid h k =
    let a = only_if_is _ _ mid h in
    subst (IsSettled x) (some_is a.1) (or_right (z == x) (has x st.known) k.0, k.1)
step_stays x (Stmt-F.New line d) st mid h k =
    let a = only_if_is (is_new st d) _ mid h in
    let n = new_is st d a.0 in
    let e : (d == x) ≡ false = other d x st.known n.0 k.0 in
    subst (IsSettled x) (some_is a.1) (k.0, rw e k.1)
step_stays x (Stmt-F.Write line d e) st mid h k =
    let a = only_if_is _ _ mid h in
    subst (IsSettled x) (some_is a.1) (settled_on x (without (d ∷ []) st.unwritten) st (without_within (d ∷ []) st.unwritten) k)
step_stays x (Stmt-F.Read line block items body) st mid h k =
    let a = only_if_is _ _ mid h in
    let b = then_is (with_values items st) _ mid a.1 in
    let c = then_is (left_by body b.0) _ mid b.2 in
    let l = leaves body b.0 c.0 c.1 in
    let i : all_in c.0 st.unwritten ≡ true = subst (λ z. all_in c.0 z ≡ true) (with_values_same items st b.0 b.1) l.within in
    subst (IsSettled x) (some_is c.2) (settled_on x c.0 st i k)
step_stays x (Stmt-F.If line e first second) st mid h k =
    let a = only_if_is _ _ mid h in
    let b = then_is (left_by first st) _ mid a.1 in
    let c = then_is (left_by second st) _ mid b.2 in
    let d = only_if_is _ _ mid c.2 in
    subst (IsSettled x) (some_is d.1) (settled_on x b.0 st (leaves first st b.0 b.1).within k)
step_stays x (Stmt-F.Par line left right) st mid h k =
    let b = then_is (left_by left st) _ mid h in
    let c = then_is (left_by right st) _ mid b.2 in
    let d = only_if_is _ _ mid c.2 in
    subst (IsSettled x) (some_is d.1) (settled_on x (in_both b.0 c.0) st (both_in b.0 c.0 st.unwritten (leaves left st b.0 b.1).within) k)
step_stays x (Stmt-F.Call line f values dests) st mid h k =
    let a = only_if_is _ _ mid h in
    subst (IsSettled x) (some_is a.1) (settled_on x (without dests st.unwritten) st (without_within dests st.unwritten) k)

-- the rule of a statement, by its parts
abbrev pub opened : Stmt-F Stmt → Stmt-F Rule
opened y = map-Stmt Stmt Rule series_of y

pub series_out : (s : Stmt) (st : Standing) → series_of s st ≡ series_step (opened (out-Stmt s)) st
unfolding series_of
series_out s st = ap (λ (r : Rule). r st) (stmt_fold_out Rule series_step s)

pub record Steps (s : Stmt) (body : List Stmt) (st end : Standing) : Type 0 where
  pub mid : Standing
  pub first : series_step (opened (out-Stmt s)) st ≡ Some mid
  pub rest : series body mid ≡ Some end

pub steps : (s : Stmt) (rest : List Stmt) (st end : Standing) → series (s ∷ rest) st ≡ Some end → Steps s rest st end
steps s rest st end h =
    let a = then_is (series_of s st) (series rest) end h in
    record { mid = a.0; first = sym (series_out s st) ∙ a.1; rest = a.2 }

pub stays : (x : ℕ) (body : List Stmt) (st end : Standing) → series body st ≡ Some end → IsSettled x st → IsSettled x end
stays x [] st end h k = subst (IsSettled x) (some_is h) k
stays x (s ∷ body) st end h k =
    let a = steps s body st end h in
    stays x body a.mid end a.rest (step_stays x (opened (out-Stmt s)) st a.mid a.first k)
