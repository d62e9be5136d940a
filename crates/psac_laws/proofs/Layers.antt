-- A statement meets the leaner rule where its parts do.
use Rattle.std.proofs.Common.{◌≡◌, ℕ, ◌==◌, ◌&&◌, ◌||◌, Bool, true, false, not, List, [], ◌∷◌, ◌++◌, map, length, Option, Some, None, Ok, refl, ap, sym, ◌∙◌, subst, arith, inl, inr, append-nil}
use Rattle.psac_syntax.specs.declared.program.Expr.{Expr}
use Rattle.psac_syntax.specs.declared.program.Stmt.{Stmt, map-Stmt}
use Rattle.psac_syntax.specs.declared.program.Stmt.TheOpen.{Stmt-F}
use Rattle.psac_syntax.specs.declared.program.Func.{Func}
use Rattle.psac_model.specs.Run.{func_named}
use Rattle.psac_model.specs.Series as rule
use Rattle.psac_model.specs.Series.{Breach, NotWritten, BranchesDiffer, WrittenInBothSides, Arity, Fault, Scope, Dest, has, all_in, without, dest_names, first_wrong, unless, so, name_wrong, expr_step, expr_wrong, from_wrong, new_wrong, dest_wrong, dests_wrong, items_wrong, with_items, call_wrong, all_written, body_rule, rule_step, rule_of}
use Rattle.psac_laws.specs.Standing as lean
use Rattle.psac_laws.specs.Standing.{Standing, every, names_step, names_known, is_new, with_value, with_values, settled, only_if, then_with, left_by, reads_known, series_step, series_of, distinct}
use Rattle.psac_laws.proofs.Places.{none_some, nat_is, and_is}
use Rattle.psac_laws.proofs.Rules.{or_is, all_in_has, all_in_from}
use Rattle.psac_laws.proofs.Results.{ok_is, ok_then}
use Rattle.psac_laws.proofs.Tells.{has_append_is, has_without_is, unless_is, first_is, parts_right, dest_right, dests_right, Tells, tells_new, tells_value, tells_dest, Later, later_by, later_both}
use Rattle.psac_laws.proofs.Meets.{so_is, expr_known, exprs_known, items_right, items_dests}
use Rattle.psac_laws.proofs.Bodies.{fits, same_step, kept_step, Ties, all_ties, Body, body_ties}

shared : (d w f g : Bool) → (f ≡ true → (w || (f && not g)) ≡ true) → ((d && not w) && not (d && not f)) ≡ true → (d && not g) ≡ true
shared d w f g h k = grind arith

pub call_right : (s : Scope) (w : List ℕ) (o : Option Func) (values : List Expr) (dests : List ℕ) → call_wrong s w o values dests ≡ None → (first_wrong (map (expr_wrong s w) values) ≡ None) × (dests_wrong s w dests ≡ None)
call_right s w None values dests h = absurd (none_some (sym h))
call_right s w (Some g) values dests h =
    let a = parts_right (map (expr_wrong s w) values) (unless (length values == length g.values) Arity ∷ dests_wrong s w dests ∷ unless (length dests == length g.dests) Arity ∷ []) h in
    let b = first_is (unless (length values == length g.values) Arity) (dests_wrong s w dests ∷ unless (length dests == length g.dests) Arity ∷ []) a.1 in
    let c = first_is (dests_wrong s w dests) (unless (length dests == length g.dests) Arity ∷ []) b.1 in
    (a.0, c.0)

module _ (funcs : List Func) where
  module _ {I : Type 0} (f : Stmt → rule.Rule) (n : Stmt → lean.Rule) (k : I → Stmt) (ih : (i : I) → Ties (f (k i)) (n (k i))) where
    inner_ties : (body : List I) (s : Scope) (w : List ℕ) (st : Standing) (after : List ℕ) → Tells s w st → body_rule (map f (map k body)) s w ≡ Ok after → Body s w st after (map n (map k body))
    inner_ties body = body_ties (map f (map k body)) (map n (map k body)) (all_ties f n k ih body)

    pub layer_ties : (y : Stmt-F I) → Ties (rule_step funcs (map-Stmt Stmt rule.Rule f (map-Stmt I Stmt k y))) (series_step (map-Stmt Stmt lean.Rule n (map-Stmt I Stmt k y)))
    layer_ties (Stmt-F.Let line x e) s w st told t h =
        let a = so_is (first_wrong (new_wrong s x ∷ expr_wrong s w e ∷ [])) line _ told h in
        let b = first_is (new_wrong s x) (expr_wrong s w e ∷ []) a.0 in
        let c = first_is (expr_wrong s w e) [] b.1 in
        same_step s w st (rule.with_value x s, w) told _ (ok_is a.1) (record {
          after = with_value x st;
          is = rw (expr_known s w st t e c.0, tells_new s w st x t b.0) refl;
          tells = tells_value s w st x t;
          brought = [];
          dests = sym (append-nil s.dests);
          grows = λ y q. q;
        })
    layer_ties (Stmt-F.New line d) s w st told t h =
        let a = so_is (new_wrong s d) line _ told h in
        same_step s w st (rule.with_dest d line s, w) told _ (ok_is a.1) (record {
          after = lean.with_dest d st;
          is = rw (tells_new s w st d t a.0) refl;
          tells = tells_dest s w st d line t a.0;
          brought = (d, line) ∷ [];
          dests = refl;
          grows = λ y q. q;
        })
    layer_ties (Stmt-F.Write line d e) s w st told t h =
        let a = so_is (first_wrong (dest_wrong s w d ∷ expr_wrong s w e ∷ [])) line _ told h in
        let b = first_is (dest_wrong s w d) (expr_wrong s w e ∷ []) a.0 in
        let c = first_is (expr_wrong s w e) [] b.1 in
        let one = dest_right s w d b.0 in
        let vacant : has d st.unwritten ≡ true = t.unwritten d ∙ rw (one.0, one.1) refl in
        let there : (x : ℕ) → has x (d ∷ []) ≡ true → has x (dest_names s) ≡ true = λ x q. elim (or_is (d == x) false q) [ inl e ↦ subst (λ z. has z (dest_names s) ≡ true) (nat_is d x e) one.0 | inr e ↦ absurd cc ] in
        same_step s w st (s, w ++ d ∷ []) told _ (ok_is a.1)
        (kept_step s w (w ++ d ∷ []) (without (d ∷ []) st.unwritten) st _ t (later_by s w (d ∷ []) st t there) (rw (expr_known s w st t e c.0, vacant) refl))
    layer_ties (Stmt-F.Read line block items body) s w st told t h =
        let a = so_is (items_wrong s w s items) line _ told h in
        let b = ok_then (body_rule (map f (map k body)) (with_items items s) w) _ told a.1 in
        let e = items_right s w st t items s st t a.0 in
        let l = inner_ties body (with_items items s) w e.after b.0 e.tells b.1 in
        let names : dest_names (with_items items s) ≡ dest_names s = ap (map (λ (d : Dest). d.0)) (items_dests items s) in
        same_step s w st (s, b.0) told _ (ok_is b.2)
        (kept_step s w b.0 l.left st _ t (subst (λ z. Later z w b.0 l.left) names l.later) (rw (e.reads, e.is, l.is) refl))
    layer_ties (Stmt-F.If line e one other) s w st told t h =
        let a = so_is (expr_wrong s w e) line _ told h in
        let b = ok_then (body_rule (map f (map k one)) s w) _ told a.1 in
        let c = ok_then (body_rule (map f (map k other)) s w) _ told b.2 in
        let d = so_is (unless (all_in b.0 c.0 && all_in c.0 b.0) BranchesDiffer) line _ told c.2 in
        let x = inner_ties one s w st b.0 t b.1 in
        let y = inner_ties other s w st c.0 t c.1 in
        let same = and_is (all_in b.0 c.0) (all_in c.0 b.0) (unless_is (all_in b.0 c.0 && all_in c.0 b.0) BranchesDiffer d.0) in
        let on : all_in x.left y.left ≡ true = all_in_from x.left y.left (λ z q. fits (has z (dest_names s)) (has z b.0) (has z c.0) (has z x.left) (has z y.left) (x.later.unwritten z) (y.later.unwritten z) (all_in_has z c.0 b.0 same.1) q) in
        let back : all_in y.left x.left ≡ true = all_in_from y.left x.left (λ z q. fits (has z (dest_names s)) (has z c.0) (has z b.0) (has z y.left) (has z x.left) (y.later.unwritten z) (x.later.unwritten z) (all_in_has z b.0 c.0 same.0) q) in
        same_step s w st (s, b.0) told _ (ok_is d.1)
        (kept_step s w b.0 x.left st _ t x.later (rw (expr_known s w st t e a.0, x.is, y.is, on, back) refl))
    layer_ties (Stmt-F.Par line left right) s w st told t h =
        let b = ok_then (body_rule (map f (map k left)) s w) _ told h in
        let c = ok_then (body_rule (map f (map k right)) s w) _ told b.2 in
        let d = so_is (unless (all_in b.0 (w ++ without c.0 b.0)) WrittenInBothSides) line _ told c.2 in
        let x = inner_ties left s w st b.0 t b.1 in
        let y = inner_ties right s w st c.0 t c.1 in
        let share : (z : ℕ) → has z b.0 ≡ true → (has z w || (has z b.0 && not (has z c.0))) ≡ true = λ z q.
        sym (has_append_is z w (without c.0 b.0) ∙ ap (λ v. has z w || v) (has_without_is z c.0 b.0)) ∙ all_in_has z b.0 (w ++ without c.0 b.0) (unless_is (all_in b.0 (w ++ without c.0 b.0)) WrittenInBothSides d.0) q in
        let apart : all_in (without x.left st.unwritten) y.left ≡ true = all_in_from (without x.left st.unwritten) y.left (λ z q.
        y.later.unwritten z
        ∙ shared (has z (dest_names s)) (has z w) (has z b.0) (has z c.0) (share z)
        (sym (has_without_is z x.left st.unwritten ∙ ap (λ v. has z st.unwritten && not v) (x.later.unwritten z) ∙ ap (λ v. v && not (has z (dest_names s) && not (has z b.0))) (t.unwritten z)) ∙ q)) in
        same_step s w st (s, b.0 ++ without b.0 c.0) told _ (ok_is d.1)
        (kept_step s w (b.0 ++ without b.0 c.0) (lean.in_both x.left y.left) st _ t (later_both (dest_names s) w b.0 c.0 x.left y.left x.later y.later) (rw (x.is, y.is, apart) refl))
    layer_ties (Stmt-F.Call line g values dests) s w st told t h =
        let a = so_is (call_wrong s w (func_named g funcs) values dests) line _ told h in
        let b = call_right s w (func_named g funcs) values dests a.0 in
        let r = dests_right s w dests b.1 in
        let vacant : all_in dests st.unwritten ≡ true = all_in_from dests st.unwritten (λ x q. t.unwritten x ∙ rw ((r.each x q).0, (r.each x q).1) refl) in
        same_step s w st (s, w ++ dests) told _ (ok_is a.1)
        (kept_step s w (w ++ dests) (without dests st.unwritten) st _ t (later_by s w dests st t (λ x q. (r.each x q).0)) (rw (exprs_known s w st t values b.0, vacant, r.once) refl))
