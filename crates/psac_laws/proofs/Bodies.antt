-- A body that meets the series rule meets the leaner rule.
use Rattle.std.proofs.Common.{◌≡◌, ℕ, ◌==◌, ◌&&◌, ◌||◌, Bool, true, false, not, List, [], ◌∷◌, ◌++◌, map, filter, drop, length, Some, Result, Ok, refl, ap, sym, ◌∙◌, subst, arith, inl, inr, append-nil, append_assoc}
use Rattle.std.proofs.Math.Seq.{drop-append_seam}
use Rattle.psac_syntax.specs.declared.program.Stmt.{Stmt}
use Rattle.psac_model.specs.Series as rule
use Rattle.psac_model.specs.Series.{Breach, NotWritten, BranchesDiffer, WrittenInBothSides, Arity, Fault, Scope, Dest, has, all_in, without, dest_names, first_wrong, unless, so, name_wrong, expr_step, expr_wrong, from_wrong, new_wrong, dest_wrong, dests_wrong, items_wrong, with_items, call_wrong, all_written, body_rule, rule_step, rule_of}
use Rattle.psac_laws.specs.Standing as lean
use Rattle.psac_laws.specs.Standing.{Standing, every, names_step, names_known, is_new, with_value, with_values, settled, only_if, then_with, left_by, reads_known, series_step, series_of, distinct}
use Rattle.psac_laws.proofs.Places.{nat_is, and_is, test_or}
use Rattle.psac_laws.proofs.Rules.{or_is, all_in_from}
use Rattle.psac_laws.proofs.Results.{ok_is, ok_then}
use Rattle.psac_laws.proofs.Tells.{has_append_is, both_true, unless_is, Tells, names_append, Later, tells_settled}
use Rattle.psac_laws.proofs.Meets.{so_is}

-- what a rule gives of the checker's scope, the leaner rule gives of a standing that it tells
pub record Step (s : Scope) (w : List ℕ) (st : Standing) (told : Scope × List ℕ) (r : lean.Rule) : Type 0 where
  pub after : Standing
  pub is : r st ≡ Some after
  pub tells : Tells told.0 told.1 after
  pub brought : List Dest
  pub dests : told.0.dests ≡ s.dests ++ brought
  pub grows : (x : ℕ) → has x w ≡ true → has x told.1 ≡ true

abbrev pub Ties : rule.Rule → lean.Rule → Type 0
Ties c r = (s : Scope) (w : List ℕ) (st : Standing) (told : Scope × List ℕ) → Tells s w st → c s w ≡ Ok told → Step s w st told r

pub same_step : (s : Scope) (w : List ℕ) (st : Standing) (made told : Scope × List ℕ) (r : lean.Rule) → made ≡ told → Step s w st made r → Step s w st told r
same_step s w st made told r e x = subst (λ z. Step s w st z r) e x

-- a statement that brings in no destination
pub kept_step : (s : Scope) (w after left : List ℕ) (st : Standing) (r : lean.Rule) → Tells s w st → Later (dest_names s) w after left → r st ≡ Some (settled left st) → Step s w st (s, after) r
kept_step s w after left st r t l e =
    record { after = settled left st; is = e; tells = tells_settled s w after left st t l; brought = []; dests = sym (append-nil s.dests); grows = l.grows }

module _ {I : Type 0} (f : Stmt → rule.Rule) (n : Stmt → lean.Rule) (k : I → Stmt) (ih : (i : I) → Ties (f (k i)) (n (k i))) where
  pub all_ties : (is : List I) → Ties (rule.one_by_one (map f (map k is))) (lean.one_by_one (map n (map k is)))
  all_ties [] s w st told t h = same_step s w st (s, w) told (lean.one_by_one []) (ok_is h) (record { after = st; is = refl; tells = t; brought = []; dests = sym (append-nil s.dests); grows = λ x q. q })
  all_ties (i ∷ is) s w st told t h =
      let a = ok_then (f (k i) s w) _ told h in
      let one = ih i s w st a.0 t a.1 in
      let more = all_ties is a.0.0 a.0.1 one.after told one.tells a.2 in
      record {
        after = more.after;
        is = rw one.is more.is;
        tells = more.tells;
        brought = one.brought ++ more.brought;
        dests = more.dests ∙ ap (λ z. z ++ more.brought) one.dests ∙ append_assoc s.dests one.brought more.brought;
        grows = λ x q. more.grows x (one.grows x q);
      }

pub written_all : {A : Type 0} (ds : List Dest) (w : List ℕ) (told : Result A Fault) (r : A) → all_written ds w told ≡ Ok r → ((x : ℕ) → has x (map (λ (d : Dest). d.0) ds) ≡ true → has x w ≡ true) × (told ≡ Ok r)
written_all [] w told r h = (λ x k. absurd cc, h)
written_all (d ∷ ds) w told r h =
    let a = so_is (unless (has d.0 w) NotWritten) d.1 (all_written ds w told) r h in
    let b = written_all ds w told r a.1 in (
      λ x k.
          elim (or_is (d.0 == x) (has x (map (λ (d : Dest). d.0) ds)) k) [
            | inl q ↦ subst (λ z. has z w ≡ true) (nat_is d.0 x q) (unless_is (has d.0 w) NotWritten a.0)
            | inr q ↦ b.0 x q
          ],
      b.1,
    )

passes : (q more a b : Bool) → (q ≡ true → a ≡ b) → a ≡ true → (q || (more && b)) ≡ ((q || more) && b)
passes q more a b h t = grind arith

fails : (q more a b : Bool) → (q ≡ true → a ≡ b) → a ≡ false → (more && b) ≡ ((q || more) && b)
fails q more a b h t = grind arith

has_filter_is : (p : ℕ → Bool) (x : ℕ) (xs : List ℕ) → has x (filter p xs) ≡ (has x xs && p x)
has_filter_is p x [] = refl
has_filter_is p x (y ∷ ys) =
    elim (test_or (p y)) [
      | inl t ↦ rw t (ap (λ z. (y == x) || z) (has_filter_is p x ys) ∙ passes (y == x) (has x ys) (p y) (p x) (λ q. ap p (nat_is y x q)) t)
      | inr t ↦ rw t (has_filter_is p x ys ∙ fails (y == x) (has x ys) (p y) (p x) (λ q. ap p (nat_is y x q)) t)
    ]

-- a body's rule
pub record Body (s : Scope) (w : List ℕ) (st : Standing) (after : List ℕ) (ls : List lean.Rule) : Type 0 where
  pub left : List ℕ
  pub is : left_by ls st ≡ Some left
  pub later : Later (dest_names s) w after left

pub fits : (d a w l u : Bool) → l ≡ (d && not a) → u ≡ (d && not w) → (w ≡ true → a ≡ true) → l ≡ true → u ≡ true
fits d a w l u f g h k = grind arith

cut_to : (d n w : Bool) → (n ≡ true → w ≡ true) → ((d || n) && not w) ≡ (d && not (w && d))
cut_to d n w h = grind arith

pub body_ties : (rs : List rule.Rule) (ls : List lean.Rule) → Ties (rule.one_by_one rs) (lean.one_by_one ls) → (s : Scope) (w : List ℕ) (st : Standing) (after : List ℕ) → Tells s w st → body_rule rs s w ≡ Ok after → Body s w st after ls
body_ties rs ls b s w st after t h =
    let a = ok_then (rule.one_by_one rs s w) _ after h in
    let ended : Scope = a.0.0 in
    let wrote : List ℕ = a.0.1 in
    let step = b s w st a.0 t a.1 in
    let all = written_all (drop (length s.dests) ended.dests) wrote (Ok (filter (λ d. has d (dest_names s)) wrote)) after a.2 in
    let brought : drop (length s.dests) ended.dests ≡ step.brought = ap (drop (length s.dests)) step.dests ∙ drop-append_seam s.dests step.brought in
    let inner : (x : ℕ) → has x (map (λ (d : Dest). d.0) step.brought) ≡ true → has x wrote ≡ true = λ x q. all.0 x (subst (λ z. has x (map (λ (d : Dest). d.0) z) ≡ true) (sym brought) q) in
    let cut : (x : ℕ) → has x after ≡ (has x wrote && has x (dest_names s)) = λ x. ap (has x) (sym (ok_is all.1)) ∙ has_filter_is (λ d. has d (dest_names s)) x wrote in
    let names : (x : ℕ) → has x (dest_names ended) ≡ (has x (dest_names s) || has x (map (λ (d : Dest). d.0) step.brought)) = λ x.
    ap (λ z. has x (map (λ (d : Dest). d.0) z)) step.dests
    ∙ ap (has x) (names_append s.dests step.brought)
    ∙ has_append_is x (dest_names s) (map (λ (d : Dest). d.0) step.brought) in
    let left : List ℕ = step.after.unwritten in
    let unwritten : (x : ℕ) → has x left ≡ (has x (dest_names s) && not (has x after)) = λ x.
    step.tells.unwritten x
    ∙ ap (λ z. z && not (has x wrote)) (names x)
    ∙ cut_to (has x (dest_names s)) (has x (map (λ (d : Dest). d.0) step.brought)) (has x wrote) (inner x)
    ∙ ap (λ z. has x (dest_names s) && not z) (sym (cut x)) in
    let grows : (x : ℕ) → has x w ≡ true → has x after ≡ true = λ x q. cut x ∙ both_true (has x wrote) (has x (dest_names s)) (step.grows x q) (t.within x q) in
    let within : all_in left st.unwritten ≡ true = all_in_from left st.unwritten (λ x q. fits (has x (dest_names s)) (has x after) (has x w) (has x left) (has x st.unwritten) (unwritten x) (t.unwritten x) (grows x) q) in
    record {
      left = left;
      is = rw (step.is, within) refl;
      later = record { unwritten = unwritten; grows = grows; within = λ x q. (and_is (has x wrote) (has x (dest_names s)) (sym (cut x) ∙ q)).1 };
    }
