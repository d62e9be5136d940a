-- What the machine takes for an expression is one.
use Rattle.std.proofs.Common.{◌≡◌, ℕ, zero, suc, ◌+◌, ◌-◌, max, Bool, true, false, List, [], ◌∷◌, ◌++◌, Option, Some, None, refl, sym, ap, subst, ◌∙◌, append_assoc, arith}
use Rattle.std.proofs.lemmas.List.{append-nil}
use Rattle.psac_ops.specs.declared.op.Op.{Op}
use Rattle.psac_syntax.specs.declared.program.Expr.{Expr}
use Rattle.psac_tokens.specs.declared.token.Kind.{Kind}
use Rattle.psac_tokens.specs.declared.token.Kind.TheVariants as kinds
use Rattle.psac_tokens.specs.declared.token.Token.{Token}
use Rattle.psac_grammar.specs.Marked.{Mark, Marked, plain, token, is_deep, ends_deep, by_size, by_parens, by_values, begins_with}
use Rattle.psac_grammar.specs.Grammar as g
use Rattle.psac_grammar.specs.Grammar.{IsExpr, Start, constant, one, two, inner, row_word, no_start, start_of, operator_at, is_chain, top, apply_two}
use Rattle.psac_grammar.specs.Machine.{made_two, made_one, opening, mark, Symbol, make, level, tail, after_rows, value, again, tails, Item, of_expr, Move, take, pass, refuse, operand, operators, also, joined, rows_on}
use Rattle.psac_grammar.proofs.Through.{plain-deep}
use Rattle.psac_grammar.proofs.Derives.{Front, left_by, left_of, Derives, Takes, splits, behind}

lift : (b : Bool) (n p d : ℕ) (fs : List Marked) (a : Expr) → IsExpr n p d fs a → IsExpr (left_by b (suc n)) p d fs a
lift true n p d fs a good = g.alone n p d fs a good
lift false n p d fs a good =
    let less : n ≡ suc n - 1 = omega arith in
    let Q : ℕ → Type 0 = λ m. IsExpr m p d fs a in
    subst Q less good

-- operators above an operand
abbrev Climbed : ℕ → ℕ → List Marked → List Marked → Expr × ℕ → Type 0
Climbed n p fs ms x = IsExpr n p x.1 (fs ++ ms) x.0

climbs : (n p : ℕ) (s : List Symbol) (a : Expr) (d : ℕ) (fs : List Marked) (vs : List Item) (ts : List Token) (ws : List Item) → Derives (tails n p ++ s) (of_expr a d ∷ vs) ts ws → IsExpr 0 p d fs a
    → Front (Climbed n p fs) ts (λ x rest. Derives s (of_expr x.0 x.1 ∷ vs) rest ws)
climbs zero p s a d fs vs ts ws h good = record { ms = []; x = (a, d); rest = ts; good = let P : List Marked → Type 0 = λ ms. IsExpr 0 p d ms a in subst P (sym (append-nil fs)) good; split = refl; after = h }
climbs (suc n) p s a d fs vs ts ws h good =
    let P : List Symbol → Type 0 = λ r. Derives r (of_expr a d ∷ vs) ts ws in
    let y = climbs n p (tail (suc n) p ∷ s) a d fs vs ts ws (subst P (append_assoc (tails n p) (tail (suc n) p ∷ []) s) h) good in
    let z = y.after in
    let Q : List Marked → Type 0 = λ ms. IsExpr (suc n) p z.x.1 ms z.x.0 in
    let whole : IsExpr (suc n) p z.x.1 (fs ++ (y.ms ++ z.ms)) z.x.0 = subst Q (append_assoc fs y.ms z.ms) (z.good (fs ++ y.ms) (lift (is_chain (suc n)) n p y.x.1 (fs ++ y.ms) y.x.0 y.good)) in
    record { ms = y.ms ++ z.ms; x = z.x; rest = z.rest; good = whole; split = splits y.ms z.ms z.rest y.split z.split; after = z.after }

-- an operand and the operators above it
raised : (n p : ℕ) (s : List Symbol) (a : Expr) (d : ℕ) (fs : List Marked) (vs : List Item) (us ts : List Token) (ws : List Item) → Derives (tails n p ++ s) (of_expr a d ∷ vs) ts ws → IsExpr 0 p d fs a → us ≡ plain fs ++ ts
    → Derives (level n p ∷ s) vs us ws
raised n p s a d fs vs us ts ws h good split =
    let y = climbs n p s a d fs vs ts ws h good in
    record { ms = fs ++ y.ms; x = y.x; rest = y.rest; good = y.good; split = splits fs y.ms y.rest split y.split; after = y.after }

pub operand_take : (k : Start) (n p : ℕ) (t : Token) (vs : List Item) (ts : List Token) (s : List Symbol) (ws : List Item) → start_of t.kind t ≡ k → Takes (Derives (level n p ∷ s) vs (t ∷ ts) ws) vs ts s ws (operand k t p (tails n p))
operand_take (constant e) n p t vs ts s ws is = λ h. raised n p s e 1 ((t, by_size t) ∷ []) vs (t ∷ ts) ts ws h (g.whole p t e is) refl
operand_take row_word n p t vs ts s ws is = λ x. raised n p s x.x 1 (token t ∷ x.ms) vs (t ∷ ts) x.rest ws x.after (x.good t is) (behind x.split)
operand_take inner n p t vs ts s ws is = λ x.
    let y = x.after in
    raised n p s x.x.0 x.x.1 ((t, by_parens p) ∷ x.ms ++ token y.t ∷ []) vs (t ∷ ts) y.rest ws y.after (g.parenthesized p x.x.1 t y.t x.ms x.x.0 is x.good y.is) (behind (splits x.ms (token y.t ∷ []) y.rest x.split y.split))
operand_take (one f) n p t vs ts s ws is = λ o.
    let x = o.after in
    let z = x.after in
    let ended : List Marked = ends_deep (is_deep (x.x.1 + 1)) (token z.t ∷ []) in
    raised n p s (f x.x.0) (x.x.1 + 1) (token t ∷ (o.t, by_parens p) ∷ x.ms ++ ended) vs (t ∷ ts) z.rest ws z.after
    (g.with_one p x.x.1 t o.t z.t f x.ms x.x.0 is o.is x.good z.is) (behind (o.split ∙ behind (splits x.ms ended z.rest x.split z.split)))
operand_take (two f) n p t vs ts s ws is = λ o.
    let x = o.after in
    let m = x.after in
    let y = m.after in
    let z = y.after in
    let depth = max x.x.1 y.x.1 + 1 in
    let ended : List Marked = ends_deep (is_deep depth) (token z.t ∷ []) in
    raised n p s (f x.x.0 y.x.0) depth (token t ∷ (o.t, by_parens p) ∷ x.ms ++ (token m.t ∷ y.ms ++ ended)) vs (t ∷ ts) z.rest ws z.after
    (g.with_two p x.x.1 y.x.1 t o.t m.t z.t f x.ms y.ms x.x.0 y.x.0 is o.is x.good m.is y.good z.is)
    (behind (o.split ∙ behind (splits x.ms (token m.t ∷ y.ms ++ ended) z.rest x.split (m.split ∙ behind (splits y.ms ended z.rest y.split z.split)))))
operand_take no_start n p t vs ts s ws is = tt

-- what an operand expects behind it may as well stand on the stack
pub operand_shift : (R : Type 0) (k : Start) (p : ℕ) (t : Token) (more ys : List Symbol) (vs : List Item) (ts : List Token) (s : List Symbol) (ws : List Item) → Takes R vs ts (ys ++ s) ws (operand k t p more) → Takes R vs ts s ws (operand k t p (more ++ ys))
operand_shift R (constant e) p t more ys vs ts s ws h = λ d. h (subst (λ r. Derives r (of_expr e 1 ∷ vs) ts ws) (append_assoc more ys s) d)
operand_shift R row_word p t more ys vs ts s ws h = λ d. h (subst (λ r. Derives (after_rows p ∷ r) vs ts ws) (append_assoc more ys s) d)
operand_shift R inner p t more ys vs ts s ws h = λ d. h (subst (λ r. Derives (level top (p + 1) ∷ mark kinds.RightParen ∷ r) vs ts ws) (append_assoc more ys s) d)
operand_shift R (one f) p t more ys vs ts s ws h = λ d. h (subst (λ r. Derives (opening p ∷ level top (p + 1) ∷ mark kinds.RightParen ∷ make (made_one f) ∷ r) vs ts ws) (append_assoc more ys s) d)
operand_shift R (two f) p t more ys vs ts s ws h = λ d.
    h (subst (λ r. Derives (opening p ∷ level top (p + 1) ∷ mark kinds.Comma ∷ level top (p + 1) ∷ mark kinds.RightParen ∷ make (made_two f) ∷ r) vs ts ws) (append_assoc more ys s) d)
operand_shift R no_start p t more ys vs ts s ws h = tt

-- a value of a call
pub value_take : (c : ℕ) (k : Start) (t : Token) (vs : List Item) (ts : List Token) (s : List Symbol) (ws : List Item) → Takes (Derives (level top 0 ∷ s) vs (t ∷ ts) ws) vs ts s ws (operand k t 0 (tails top 0))
    → Takes (Derives (value c ∷ s) vs (t ∷ ts) ws) vs ts s ws (also (by_values c) (operand k t 0 (tails top 0)))
value_take c k t vs ts s ws h = by (operand k t 0 (tails top 0)) h
  where
    plain_begins : (m : Mark) (ms : List Marked) → plain (begins_with m ms) ≡ plain ms
    plain_begins m [] = refl
    plain_begins m (t ∷ ms) = refl

    from : Derives (level top 0 ∷ s) vs (t ∷ ts) ws → Derives (value c ∷ s) vs (t ∷ ts) ws
    from x = record {
      ms = begins_with (by_values c) x.ms;
      x = x.x;
      rest = x.rest;
      good = record { ns = x.ms; is = refl; good = x.good };
      split = x.split ∙ ap (λ r. r ++ x.rest) (sym (plain_begins (by_values c) x.ms));
      after = x.after;
    }

    by : (m : Move) → Takes (Derives (level top 0 ∷ s) vs (t ∷ ts) ws) vs ts s ws m → Takes (Derives (value c ∷ s) vs (t ∷ ts) ws) vs ts s ws (also (by_values c) m)
    by (take m more new) h = λ d. from (h d)
    by (pass f) h = tt
    by refuse h = tt

pub rows_take : (k : Kind) (p : ℕ) (t : Token) (vs : List Item) (ts : List Token) (s : List Symbol) (ws : List Item) → t.kind ≡ k → Takes (Derives (after_rows p ∷ s) vs (t ∷ ts) ws) vs ts s ws (rows_on k p)
rows_take kinds.LeftParen p t vs ts s ws is = λ z.
    record { ms = (t, by_parens p) ∷ token z.t ∷ []; x = _; rest = z.rest; good = λ w kw. g.row_count p w t z.t kw is z.is; split = behind z.split; after = z.after }
rows_take _ p t vs ts s ws is = tt

-- ---- operators

operator_above : (n : ℕ) (k : Kind) (o : Op) → operator_at n k ≡ Some o → n ≡ suc (n - 1)
unfolding operator_at
operator_above zero k o h = absurd cc
operator_above (suc n) k o h = omega arith

linked : (m p d q : ℕ) (b : Bool) (t : Token) (o : Op) (fs ns : List Marked) (x y : Expr) → is_chain (suc m) ≡ b → operator_at (suc m) t.kind ≡ Some o → IsExpr (left_by b (suc m)) p d fs x → IsExpr m p q ns y
    → IsExpr (suc m) p (max d q + 1) (fs ++ token t ∷ ends_deep (is_deep (max d q + 1)) ns) (apply_two o x y)
linked m p d q true t o fs ns x y is k left right = g.chain m p d q t o fs ns x y is left k right
linked m p d q false t o fs ns x y is k left right =
    let less : suc m - 1 ≡ m = omega arith in
    let Q : ℕ → Type 0 = λ i. IsExpr i p d fs x in
    g.compare m p d q t o fs ns x y is (subst Q less left) k right

linked_at : (n p d q : ℕ) (t : Token) (o : Op) (fs ns : List Marked) (x y : Expr) → n ≡ suc (n - 1) → operator_at n t.kind ≡ Some o → IsExpr (left_of n) p d fs x → IsExpr (n - 1) p q ns y
    → IsExpr n p (max d q + 1) (fs ++ token t ∷ ends_deep (is_deep (max d q + 1)) ns) (apply_two o x y)
linked_at n p d q t o fs ns x y n_is k left right =
    let P : ℕ → Type 0 = λ i. operator_at i t.kind ≡ Some o → IsExpr (left_of i) p d fs x → IsExpr i p (max d q + 1) (fs ++ token t ∷ ends_deep (is_deep (max d q + 1)) ns) (apply_two o x y) in
    let at_suc : P (suc (n - 1)) = λ k l. linked (n - 1) p d q (is_chain (suc (n - 1))) t o fs ns x y refl k l right in
    let at_n : P n = subst P (sym n_is) at_suc in
    at_n k left

-- an operator behind an expression
operator_goes : (b : Bool) (n p : ℕ) (t : Token) (o : Op) (a : Expr) (d : ℕ) (vs : List Item) (ts : List Token) (s : List Symbol) (ws : List Item) → is_chain n ≡ b → operator_at n t.kind ≡ Some o
    → Derives (level (n - 1) p ∷ make (joined o) ∷ again b n p ++ s) (of_expr a d ∷ vs) ts ws → Derives (tail n p ∷ s) (of_expr a d ∷ vs) (t ∷ ts) ws
operator_goes true n p t o a d vs ts s ws chains is x =
    let y = x.after in
    let joined' : List Marked = token t ∷ ends_deep (is_deep (max d x.x.1 + 1)) x.ms in
    let good = λ (fs : List Marked) (left : IsExpr (left_of n) p d fs a).
    let Q : List Marked → Type 0 = λ ms. IsExpr n p y.x.1 ms y.x.0 in
    let R : ℕ → Type 0 = λ m. IsExpr m p (max d x.x.1 + 1) (fs ++ joined') (apply_two o a x.x.0) in
    let same : n ≡ left_of n = rw chains refl in
    subst Q (append_assoc fs joined' y.ms) (y.good (fs ++ joined') (subst R same (linked_at n p d x.x.1 t o fs x.ms a x.x.0 (operator_above n t.kind o is) is left x.good))) in
    record {
      ms = joined' ++ y.ms;
      x = y.x;
      rest = y.rest;
      good = good;
      split = splits joined' y.ms y.rest (behind (x.split ∙ ap (λ r. r ++ x.rest) (sym (plain-deep (is_deep (max d x.x.1 + 1)) x.ms)))) y.split;
      after = y.after;
    }
operator_goes false n p t o a d vs ts s ws chains is x =
    let joined' : List Marked = token t ∷ ends_deep (is_deep (max d x.x.1 + 1)) x.ms in
    record {
      ms = joined';
      x = (apply_two o a x.x.0, max d x.x.1 + 1);
      rest = x.rest;
      good = λ fs left. linked_at n p d x.x.1 t o fs x.ms a x.x.0 (operator_above n t.kind o is) is left x.good;
      split = behind (x.split ∙ ap (λ r. r ++ x.rest) (sym (plain-deep (is_deep (max d x.x.1 + 1)) x.ms)));
      after = x.after;
    }

pub operators_take : (o : Option Op) (n p : ℕ) (t : Token) (vs : List Item) (ts : List Token) (s : List Symbol) (ws : List Item) → operator_at n t.kind ≡ o → Takes (Derives (tail n p ∷ s) vs (t ∷ ts) ws) vs ts s ws (operators o n p)
operators_take None n p t vs ts s ws is = tt
operators_take (Some o) n p t (of_expr a d ∷ vs) ts s ws is = λ x. operator_goes (is_chain n) n p t o a d vs ts s ws refl is x
operators_take (Some o) n p t _ ts s ws is = λ x. tt
