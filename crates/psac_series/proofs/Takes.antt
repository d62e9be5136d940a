-- What the lean rule takes, the checker's rule takes, where calls fit.
use Rattle.std.proofs.Common.{◌≡◌, ℕ, ◌==◌, ◌&&◌, ◌||◌, Bool, true, false, not, List, [], ◌∷◌, ◌++◌, map, filter, drop, length, Some, None, Result, Ok, refl, ap, sym, ◌∙◌, subst, arith, inl, inr, append-nil, append_assoc}
use Rattle.std.proofs.Math.Seq.{drop-append_seam}
use Rattle.psac_syntax.specs.declared.program.Stmt.{Stmt, map-Stmt, roll-Stmt}
use Rattle.psac_syntax.specs.declared.program.Stmt.TheOpen.{Stmt-F}
use Rattle.psac_syntax.specs.declared.program.Stmt.TheFolds.{fold-Stmt, fold-roll-Stmt, ind-Stmt}
use Rattle.psac_syntax.specs.declared.program.Func.{Func}
use Rattle.psac_syntax.proofs.Folds.{stmt_fold_is}
use Rattle.psac_model.specs.Run.{func_named}
use Rattle.psac_model.specs.Series as rule
use Rattle.psac_model.specs.Series.{BranchesDiffer, WrittenInBothSides, NotWritten, Fault, Scope, Dest, has, all_in, without, dest_names, first_wrong, unless, new_wrong, dest_wrong, expr_wrong, items_wrong, with_items, call_wrong, dests_wrong, all_written, body_rule, rule_step, rule_of}
use Rattle.psac_laws.specs.Standing as lean
use Rattle.psac_laws.specs.Standing.{Standing, every, names_known, is_new, with_values, settled, left_by, reads_known, series_step, series_of, distinct}
use Rattle.psac_laws.proofs.Places.{some_is, nat_same, nat_is, and_is, test_or, not_both}
use Rattle.psac_laws.proofs.Rules.{or_is, or_not, or_left, or_right, all_in_has, all_in_from, only_if_is, then_is, leaves, not_is}
use Rattle.psac_laws.proofs.Tells.{has_append_is, has_without_is, names_append, Tells, Later}
use Rattle.psac_laws.proofs.Meets.{items_right}
use Rattle.psac_laws.proofs.Bodies.{Ties, all_ties, body_ties}
use Rattle.psac_laws.proofs.Checked.{stmt_ties}
use Rattle.psac_series.specs.Lean.{calls_step, calls_fit}
use Rattle.psac_series.proofs.Names.{IsApart, new_free, new_none, apart_value, apart_dest, apart_items, expr_none, exprs_none, items_none, dests_none, call_none, first_none}

abbrev pub names_of : List Dest → List ℕ
names_of ds = map (λ (d : Dest). d.0) ds

-- the checker's rule takes what it is given, and brings in new destinations alone
pub record Taken (c : rule.Rule) (s : Scope) (w : List ℕ) : Type 0 where
  pub told : Scope × List ℕ
  pub is : c s w ≡ Ok told
  pub apart : IsApart told.0
  pub brought : List Dest
  pub dests : told.0.dests ≡ s.dests ++ brought
  pub new : (x : ℕ) → has x (names_of brought) ≡ true → has x (dest_names s) ≡ false

abbrev pub Takes : rule.Rule → lean.Rule → Bool → Type 0
Takes c r fit = (s : Scope) (w : List ℕ) (st mid : Standing) → Tells s w st → IsApart s → r st ≡ Some mid → fit ≡ true
    → Taken c s w

kept : (c : rule.Rule) (s : Scope) (w after : List ℕ) → IsApart s → c s w ≡ Ok (s, after) → Taken c s w
kept c s w after p e = record {
  told = (s, after);
  is = e;
  apart = p;
  brought = [];
  dests = sym
      (append-nil s.dests);
  new = λ x k. absurd cc;
}

-- destinations that are written
pub all_written_is : {A : Type 0} (ds : List Dest) (w : List ℕ) (told : Result A Fault)
    → ((x : ℕ) → has x (names_of ds) ≡ true → has x w ≡ true) → all_written ds w told ≡ told
all_written_is [] w told h = refl
all_written_is (d ∷ ds) w told h =
    let here : has d.0 w ≡ true = h d.0 (or_left (d.0 == d.0) (has d.0 (names_of ds)) (nat_same d.0)) in
    rw here (all_written_is ds w told (λ x k. h x (or_right (d.0 == x) (has x (names_of ds)) k)))

-- the set that a body leaves written
pub record Inner (rs : List rule.Rule) (s : Scope) (w left : List ℕ) : Type 0 where
  pub after : List ℕ
  pub is : body_rule rs s w ≡ Ok after
  pub later : Later (dest_names s) w after left

within_both : (n f g l m : Bool) → l ≡ (n && not f) → m ≡ (n && not g) → (m ≡ true → l ≡ true) → (f ≡ true → n ≡ true)
    → f ≡ true → g ≡ true
within_both n f g l m h k i j q = grind arith

one_side : (n f g w u one two : Bool) → u ≡ (n && not w) → one ≡ (n && not f) → two ≡ (n && not g)
    → ((u && not one) ≡ true → two ≡ true) → (f ≡ true → n ≡ true) → f ≡ true → (w || (f && not g)) ≡ true
one_side n f g w u one two a b c h j q = grind arith

module _ {I : Type 0} (f : Stmt → rule.Rule) (n : Stmt → lean.Rule) (q : Stmt → Bool) (k : I → Stmt)
    (ties : (i : I) → Ties (f (k i)) (n (k i))) (ih : (i : I) → Takes (f (k i)) (n (k i)) (q (k i))) where
  pub all_take : (is : List I) → Takes (rule.one_by_one (map f (map k is))) (lean.one_by_one (map n (map k is)))
      (every (map q (map k is)))
  all_take [] s w st mid t p h fit = kept (rule.one_by_one []) s w w p refl
  all_take (i ∷ is) s w st mid t p h fit =
      let a = then_is (n (k i) st) _ mid h in
      let b = and_is (q (k i)) (every (map q (map k is))) fit in
      let one = ih i s w st a.0 t p a.1 b.0 in
      let step = ties i s w st one.told t one.is in
      let tells : Tells one.told.0 one.told.1 a.0 = subst (λ z. Tells one.told.0 one.told.1 z)
      (some_is (sym step.is ∙ a.1)) step.tells in
      let more = all_take is one.told.0 one.told.1 a.0 mid tells one.apart a.2 b.1 in
      record {
        told = more.told;
        is = rw one.is more.is;
        apart = more.apart;
        brought = one.brought ++ more.brought;
        dests = more.dests ∙ ap (λ z. z ++ more.brought) one.dests ∙ append_assoc s.dests one.brought more.brought;
        new = λ x j.
            elim (or_is (has x (names_of one.brought)) (has x (names_of more.brought))
            (sym (ap (has x) (names_append one.brought more.brought)
            ∙ has_append_is x (names_of one.brought) (names_of more.brought)) ∙ j)) [
              | inl e ↦ one.new x e
              | inr e ↦
                  (let all : (has x (dest_names s) || has x (names_of one.brought)) ≡ false = sym
                  (ap (λ z. has x (names_of z)) one.dests ∙ ap (has x) (names_append s.dests one.brought)
                  ∙ has_append_is x (dest_names s) (names_of one.brought)) ∙ more.new x e in
                  (or_not (has x (dest_names s)) (has x (names_of one.brought)) all).0)
            ];
      }

  pub body_takes : (is : List I) (s : Scope) (w : List ℕ) (st : Standing) (left : List ℕ) → Tells s w st → IsApart s
      → left_by (map n (map k is)) st ≡ Some left → every (map q (map k is)) ≡ true → Inner (map f (map k is)) s w left
  body_takes is s w st left t p h fit =
      let a = leaves (map n (map k is)) st left h in
      let x = all_take is s w st a.end t p a.meets fit in
      let step = all_ties f n k ties is s w st x.told t x.is in
      let tells : Tells x.told.0 x.told.1 a.end = subst (λ z. Tells x.told.0 x.told.1 z)
      (some_is (sym step.is ∙ a.meets)) step.tells in
      let brought : drop (length s.dests) x.told.0.dests ≡ x.brought = ap (drop (length s.dests)) x.dests
      ∙ drop-append_seam s.dests x.brought in
      let named : (y : ℕ) → has y (dest_names x.told.0) ≡ (has y (dest_names s) || has y (names_of x.brought)) =
      λ y. ap (λ z. has y (names_of z)) x.dests ∙ ap (has y) (names_append s.dests x.brought)
      ∙ has_append_is y (dest_names s) (names_of x.brought) in
      let own : (y : ℕ) → has y (names_of x.brought) ≡ true → has y x.told.1 ≡ true = λ y j.
      elim (test_or (has y x.told.1)) [
        | inl e ↦ e
        | inr e ↦
            (let there : has y (dest_names x.told.0) ≡ true = named y
            ∙ or_right (has y (dest_names s)) (has y (names_of x.brought)) j in
            let open_still : has y a.end.unwritten ≡ true = tells.unwritten y ∙ rw (there, e) refl in
            let left_open : has y left ≡ true = subst (λ z. has y z ≡ true) a.unwritten open_still in
            let outer = and_is (has y (dest_names s)) (not (has y w))
            (sym (t.unwritten y) ∙ all_in_has y left st.unwritten a.within left_open) in
            absurd (not_both outer.0 (x.new y j)))
      ] in
      let after : List ℕ = filter (λ d. has d (dest_names s)) x.told.1 in
      let all : all_written (drop (length s.dests) x.told.0.dests) x.told.1 (Ok after) ≡ Ok after = all_written_is
      (drop (length s.dests) x.told.0.dests) x.told.1 (Ok after)
      (λ y j. own y (subst (λ z. has y (names_of z) ≡ true) brought j)) in
      let is_after : body_rule (map f (map k is)) s w ≡ Ok after = rw x.is all in
      let b = body_ties (map f (map k is)) (map n (map k is)) (all_ties f n k ties is) s w st after t is_after in
      record {
        after = after;
        is = is_after;
        later = subst (λ z. Later (dest_names s) w after z)
            (some_is (sym b.is ∙ h)) b.later;
      }

  pub layer_takes : (funcs : List Func) (y : Stmt-F I)
      → Takes (rule_step funcs (map-Stmt Stmt rule.Rule f (map-Stmt I Stmt k y)))
      (series_step (map-Stmt Stmt lean.Rule n (map-Stmt I Stmt k y)))
      (calls_step funcs (map-Stmt Stmt Bool q (map-Stmt I Stmt k y)))
  layer_takes funcs (Stmt-F.Let line x e) s w st mid t p h fit =
      let a = only_if_is (names_known st.known e && is_new st x) _ mid h in
      let b = and_is (names_known st.known e) (is_new st x) a.0 in
      let none = first_none (new_wrong s x) (expr_wrong s w e ∷ []) (new_none s w st x t b.1)
      (first_none (expr_wrong s w e) [] (expr_none s w st t p e b.0) refl) in
      record {
        told = (rule.with_value x s, w);
        is = rw none refl;
        apart = apart_value s x p
            (new_free s w st x t b.1).1;
        brought = [];
        dests = sym (append-nil s.dests);
        new = λ y j. absurd cc;
      }
  layer_takes funcs (Stmt-F.New line d) s w st mid t p h fit =
      let a = only_if_is (is_new st d) _ mid h in
      let b = new_free s w st d t a.0 in
      record {
        told = (rule.with_dest d line s, w);
        is = rw (new_none s w st d t a.0) refl;
        apart = apart_dest s d line p b.0;
        brought = (d, line) ∷ [];
        dests = refl;
        new = λ y j. elim (or_is (d == y) false j) [
          | inl e ↦ subst (λ z. has z (dest_names s) ≡ false)
              (nat_is d y e) b.1
          | inr e ↦ absurd cc
        ];
      }
  layer_takes funcs (Stmt-F.Write line d e) s w st mid t p h fit =
      let a = only_if_is (names_known st.known e && has d st.unwritten) _ mid h in
      let b = and_is (names_known st.known e) (has d st.unwritten) a.0 in
      let c = and_is (has d (dest_names s)) (not (has d w)) (sym (t.unwritten d) ∙ b.1) in
      let here : dest_wrong s w d ≡ None = rw (not_is (has d w) c.1, c.0) refl in
      let none = first_none (dest_wrong s w d) (expr_wrong s w e ∷ []) here
      (first_none (expr_wrong s w e) [] (expr_none s w st t p e b.0) refl) in
      kept _ s w (w ++ d ∷ []) p (rw none refl)
  layer_takes funcs (Stmt-F.Read line block items body) s w st mid t p h fit =
      let a = only_if_is (reads_known st.known items) _ mid h in
      let b = then_is (with_values items st) _ mid a.1 in
      let c = then_is (left_by (map n (map k body)) b.0) _ mid b.2 in
      let none = items_none s w st t p items s st b.0 t a.0 b.1 in
      let e = items_right s w st t items s st t none in
      let tells : Tells (with_items items s) w b.0 = subst (λ z. Tells (with_items items s) w z)
      (some_is (sym e.is ∙ b.1)) e.tells in
      let x = body_takes body (with_items items s) w b.0 c.0 tells (apart_items w items s st b.0 t p b.1) c.1 fit in
      kept _ s w x.after p (rw (none, x.is) refl)
  layer_takes funcs (Stmt-F.If line e one other) s w st mid t p h fit =
      let a = only_if_is (names_known st.known e) _ mid h in
      let b = then_is (left_by (map n (map k one)) st) _ mid a.1 in
      let c = then_is (left_by (map n (map k other)) st) _ mid b.2 in
      let d = only_if_is (all_in b.0 c.0 && all_in c.0 b.0) _ mid c.2 in
      let both = and_is (all_in b.0 c.0) (all_in c.0 b.0) d.0 in
      let fits = and_is (every (map q (map k one))) (every (map q (map k other))) fit in
      let x = body_takes one s w st b.0 t p b.1 fits.0 in
      let y = body_takes other s w st c.0 t p c.1 fits.1 in
      let on : all_in x.after y.after ≡ true = all_in_from x.after y.after
      (λ z j. within_both (has z (dest_names s)) (has z x.after) (has z y.after) (has z b.0) (has z c.0)
      (x.later.unwritten z) (y.later.unwritten z) (all_in_has z c.0 b.0 both.1) (x.later.within z) j) in
      let back : all_in y.after x.after ≡ true = all_in_from y.after x.after
      (λ z j. within_both (has z (dest_names s)) (has z y.after) (has z x.after) (has z c.0) (has z b.0)
      (y.later.unwritten z) (x.later.unwritten z) (all_in_has z b.0 c.0 both.0) (y.later.within z) j) in
      kept _ s w x.after p (rw (expr_none s w st t p e a.0, x.is, y.is, on, back) refl)
  layer_takes funcs (Stmt-F.Par line left right) s w st mid t p h fit =
      let b = then_is (left_by (map n (map k left)) st) _ mid h in
      let c = then_is (left_by (map n (map k right)) st) _ mid b.2 in
      let d = only_if_is (all_in (without b.0 st.unwritten) c.0) _ mid c.2 in
      let fits = and_is (every (map q (map k left))) (every (map q (map k right))) fit in
      let x = body_takes left s w st b.0 t p b.1 fits.0 in
      let y = body_takes right s w st c.0 t p c.1 fits.1 in
      let apart : all_in x.after (w ++ without y.after x.after) ≡ true = all_in_from x.after
      (w ++ without y.after x.after) (λ z j.
      has_append_is z w (without y.after x.after)
      ∙ ap (λ v. has z w || v) (has_without_is z y.after x.after)
      ∙ one_side (has z (dest_names s)) (has z x.after) (has z y.after) (has z w) (has z st.unwritten) (has z b.0)
      (has z c.0) (t.unwritten z) (x.later.unwritten z) (y.later.unwritten z)
      (λ g. all_in_has z (without b.0 st.unwritten) c.0 d.0 (has_without_is z b.0 st.unwritten ∙ g))
      (x.later.within z) j) in
      kept _ s w (x.after ++ without x.after y.after) p (rw (x.is, y.is, apart) refl)
  layer_takes funcs (Stmt-F.Call line g values dests) s w st mid t p h fit =
      let a = only_if_is (every (map (names_known st.known) values) && all_in dests st.unwritten && distinct dests) _
      mid h in
      let b = and_is (every (map (names_known st.known) values) && all_in dests st.unwritten) (distinct dests) a.0 in
      let c = and_is (every (map (names_known st.known) values)) (all_in dests st.unwritten) b.0 in
      let ready = dests_none s w dests (λ x j.
      let z = and_is (has x (dest_names s)) (not (has x w))
      (sym (t.unwritten x) ∙ all_in_has x dests st.unwritten c.1 j) in
      (z.0, not_is (has x w) z.1)) b.1 in
      kept _ s w (w ++ dests) p (rw (call_none s w (func_named g funcs) values dests fit
      (exprs_none s w st t p values c.0) ready) refl)

module _ (funcs : List Func) where
  folded_ties : (x : Stmt) → Ties (fold-Stmt rule.Rule (rule_step funcs) x) (fold-Stmt lean.Rule series_step x)
  unfolding rule_of series_of
  folded_ties x =
      subst (λ c. Ties c (fold-Stmt lean.Rule series_step x)) (stmt_fold_is rule.Rule (rule_step funcs) x)
      (subst (λ r. Ties (rule_of funcs x) r) (stmt_fold_is lean.Rule series_step x) (stmt_ties funcs x))

  folded_takes : (x : Stmt) → Takes (fold-Stmt rule.Rule (rule_step funcs) x) (fold-Stmt lean.Rule series_step x)
      (fold-Stmt Bool (calls_step funcs) x)
  folded_takes =
      ind-Stmt (λ x. Takes (fold-Stmt rule.Rule (rule_step funcs) x) (fold-Stmt lean.Rule series_step x)
      (fold-Stmt Bool (calls_step funcs) x)) (λ x y is.
      let f : Stmt → rule.Rule = fold-Stmt rule.Rule (rule_step funcs) in
      let n : Stmt → lean.Rule = fold-Stmt lean.Rule series_step in
      let q : Stmt → Bool = fold-Stmt Bool (calls_step funcs) in
      let P : Stmt-F Stmt → Type 0 = λ z. Takes (rule_step funcs (map-Stmt Stmt rule.Rule f z))
      (series_step (map-Stmt Stmt lean.Rule n z)) (calls_step funcs (map-Stmt Stmt Bool q z)) in
      let C : rule.Rule → Type 0 = λ c. Takes c (n (roll-Stmt x)) (q (roll-Stmt x)) in
      let L : lean.Rule → Type 0 = λ r. Takes (rule_step funcs (map-Stmt Stmt rule.Rule f x)) r (q (roll-Stmt x)) in
      let B : Bool → Type 0 = λ b. Takes (rule_step funcs (map-Stmt Stmt rule.Rule f x))
      (series_step (map-Stmt Stmt lean.Rule n x)) b in
      subst C (sym (fold-roll-Stmt rule.Rule (rule_step funcs) x))
      (subst L (sym (fold-roll-Stmt lean.Rule series_step x))
      (subst B (sym (fold-roll-Stmt Bool (calls_step funcs) x))
      (subst P is (layer_takes f n q (λ i. i.0) (λ i. folded_ties i.0) (λ i. i.1) funcs y)))))

  pub stmt_takes : (x : Stmt) → Takes (rule_of funcs x) (series_of x) (calls_fit funcs x)
  unfolding rule_of series_of calls_fit
  stmt_takes x =
      subst (λ c. Takes c (series_of x) (calls_fit funcs x)) (sym (stmt_fold_is rule.Rule (rule_step funcs) x))
      (subst (λ r. Takes (fold-Stmt rule.Rule (rule_step funcs) x) r (calls_fit funcs x))
      (sym (stmt_fold_is lean.Rule series_step x))
      (subst (λ b. Takes (fold-Stmt rule.Rule (rule_step funcs) x) (fold-Stmt lean.Rule series_step x) b)
      (sym (stmt_fold_is Bool (calls_step funcs) x)) (folded_takes x)))
