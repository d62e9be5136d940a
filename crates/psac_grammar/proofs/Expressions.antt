-- What is an expression is read by the machine, up to the first token that exceeds a limit.
use Rattle.std.proofs.Common.{◌≡◌, ℕ, zero, suc, ◌+◌, ◌-◌, ◌<◌, ◌≤◌, max, Bool, true, false, cond, List, [], ◌∷◌, ◌++◌, Some, None, refl, sym, subst, ◌∙◌, arith}
use Rattle.psac_ops.specs.declared.op.Op.{Op}
use Rattle.psac_syntax.specs.declared.program.Expr.{Expr}
use Rattle.psac_syntax.specs.declared.program.Expr.TheVariants as expr
use Rattle.psac_tokens.specs.declared.token.Kind.{Kind}
use Rattle.psac_tokens.specs.declared.token.Kind.TheVariants as kinds
use Rattle.psac_tokens.specs.declared.token.Token.{Token}
use Rattle.psac_grammar.specs.Marked.{Mark, fine, over, late, Marked, plain, token, is_deep, ends_deep, by_parens}
use Rattle.psac_grammar.specs.Grammar as g
use Rattle.psac_grammar.specs.Grammar.{IsExpr, Start, constant, one, two, inner, row_word, no_start, start_of, operator_at, is_chain, top, apply_two}
use Rattle.psac_grammar.specs.Machine.{Symbol, mark, make, level, tail, again, opening, after_rows, same_kind, Item, of_expr, take, move, operand, built, joined, made_one, made_two, rows_made, Counted, first_of}
use Rattle.psac_grammar.proofs.Runs.{level_starts}
use Rattle.psac_grammar.proofs.Through.{Follows, compose, goes, nothing, pass_then, then_pass, deepens, EndsWell}
use Rattle.psac_grammar.proofs.Levels.{Stops, Quiet, quiet_at, upto, upto_le, le_upto, stops_quiet, stops_lower, stops_operator, one_level, tail_passes, operator_moves, rows_passes, make_passes}

token_moves : (kind : Kind) (t : Token) → t.kind ≡ kind → same_kind kind kind ≡ true → move (mark kind) t ≡ take fine [] []
unfolding move
token_moves kind t is same = rw (is, same) refl

-- a token of one kind, and those behind it
pub then_mark : {c : Counted} {kind : Kind} {t : Token} {ms : List Marked} {after : List Token} {s s2 : List Symbol} {vs v2 : List Item} → t.kind ≡ kind → same_kind kind kind ≡ true → Follows c ms after s vs s2 v2
    → Follows c (token t ∷ ms) after (mark kind ∷ s) vs s2 v2
then_mark {kind = kind} {t = t} is same h = goes (token_moves kind t is same) h

opening_moves : (p : ℕ) (t : Token) → t.kind ≡ kinds.LeftParen → move (opening p) t ≡ take (by_parens p) [] []
unfolding move
opening_moves p t k = rw k refl

operand_moves : (p : ℕ) (t : Token) (k : Start) → start_of t.kind t ≡ k → move (level 0 p) t ≡ operand k t p []
unfolding move
operand_moves p t k is = rw is refl

row_count_moves : (p : ℕ) (t : Token) → t.kind ≡ kinds.LeftParen → move (after_rows p) t ≡ take (by_parens p) (mark kinds.RightParen ∷ []) (of_expr expr.RowCount 1 ∷ [])
unfolding move
row_count_moves p t k = rw k refl

-- ---- an expression does not end with a token that exceeds a limit at once

size_well : (b : Bool) (t : Token) (w : ℕ) → EndsWell ((t, cond b (late w) fine) ∷ [])
size_well true t w = tt
size_well false t w = tt

well_append : (ms ns : List Marked) → EndsWell ns → EndsWell (ms ++ ns)
well_append [] ns h = h
well_append (m ∷ []) [] h = absurd h
well_append (m ∷ []) (n ∷ ns) h = h
well_append (m ∷ q ∷ ms) ns h = well_append (q ∷ ms) ns h

well_behind : (m : Marked) (ns : List Marked) → EndsWell ns → EndsWell (m ∷ ns)
well_behind m ns h = well_append (m ∷ []) ns h

well_mark : (too : Bool) (t : Token) (m : Mark) → EndsWell ((t, m) ∷ []) → EndsWell (ends_deep too ((t, m) ∷ []))
well_mark false t m h = h
well_mark true t fine h = tt
well_mark true t (late w) h = tt
well_mark true t (over w) h = absurd h

well_deep : (too : Bool) (ms : List Marked) → EndsWell ms → EndsWell (ends_deep too ms)
well_deep too [] h = absurd h
well_deep too ((t, m) ∷ []) h = well_mark too t m h
well_deep too (m ∷ n ∷ ms) h = well_behind m (ends_deep too (n ∷ ms)) (well_deep too (n ∷ ms) h)

pub expr_ends : (n p d : ℕ) (ms : List Marked) (e : Expr) → IsExpr n p d ms e → EndsWell ms
expr_ends _ _ _ _ _ (g.whole p t e is) = size_well t.over t _
expr_ends _ _ _ _ _ (g.rows p w kw) = tt
expr_ends _ _ _ _ _ (g.row_count p w a b kw ka kb) = tt
expr_ends _ _ _ _ _ (g.parenthesized p d a b ms e ka inside kb) = well_behind (a, by_parens p) (ms ++ token b ∷ []) (well_append ms (token b ∷ []) tt)
expr_ends _ _ _ _ _ (g.with_one p d w a b f ms e kw ka inside kb) =
    well_behind (token w) ((a, by_parens p) ∷ ms ++ ends_deep (is_deep (d + 1)) (token b ∷ [])) (well_append ((a, by_parens p) ∷ ms) (ends_deep (is_deep (d + 1)) (token b ∷ [])) (well_deep (is_deep (d + 1)) (token b ∷ []) tt))
expr_ends _ _ _ _ _ (g.with_two p d q w a b c f ms ns x y kw ka good kb well kc) =
    let last' = ends_deep (is_deep (max d q + 1)) (token c ∷ []) in
    well_append (token w ∷ (a, by_parens p) ∷ ms) (token b ∷ ns ++ last') (well_append (token b ∷ ns) last' (well_deep (is_deep (max d q + 1)) (token c ∷ []) tt))
expr_ends _ _ _ _ _ (g.alone n p d ms e inside) = expr_ends n p d ms e inside
expr_ends _ _ _ _ _ (g.chain n p d q t o ms ns a b kind left k right) =
    let last' = ends_deep (is_deep (max d q + 1)) ns in
    well_append ms (token t ∷ last') (well_behind (token t) last' (well_deep (is_deep (max d q + 1)) ns (expr_ends n p q ns b right)))
expr_ends _ _ _ _ _ (g.compare n p d q t o ms ns a b kind left k right) =
    let last' = ends_deep (is_deep (max d q + 1)) ns in
    well_append ms (token t ∷ last') (well_behind (token t) last' (well_deep (is_deep (max d q + 1)) ns (expr_ends n p q ns b right)))

-- ---- operators

-- the operators of the level that go on, if it has any
abbrev pub tail_of : ℕ → ℕ → List Symbol → List Symbol
tail_of zero p s = s
tail_of (suc m) p s = again (is_chain (suc m)) (suc m) p ++ s

pub drops_tail : {c : Counted} (n p : ℕ) {ms : List Marked} {after : List Token} {s s2 : List Symbol} {vs v2 : List Item} → operator_at n (first_of after).kind ≡ None → Follows c ms after s vs (tail_of n p s2) v2 → Follows c ms after s vs s2 v2
drops_tail zero p h j = j
drops_tail {c} (suc n) p {ms} {after} {s} {s2} {vs} {v2} h j = by (is_chain (suc n)) j
  where
    by : (b : Bool) → Follows c ms after s vs (again b (suc n) p ++ s2) v2 → Follows c ms after s vs s2 v2
    by true j = then_pass built (tail_passes (suc n) p after h) refl j
    by false j = j

-- what the machine does with an expression
abbrev pub ReadsExpr : Counted → ℕ → ℕ → ℕ → List Marked → Expr → Type 0
ReadsExpr c n p d ms e = (after : List Token) (s : List Symbol) (vs : List Item) → Stops n after → Follows c ms after (level n p ∷ s) vs (tail_of n p s) (of_expr e d ∷ vs)

-- an expression in front of a token that ends it
bounded : {c : Counted} (p d : ℕ) {ms : List Marked} {e : Expr} → ReadsExpr c top p d ms e → {after : List Token} {s : List Symbol} {vs : List Item} → Quiet after → Follows c ms after (level top p ∷ s) vs s (of_expr e d ∷ vs)
bounded p d reads {after} {s} {vs} q = drops_tail top p (q.none top) (reads after s vs (stops_quiet top after q))

paren_case : {c : Counted} (p d : ℕ) (o z : Token) (ms : List Marked) (e : Expr) → start_of o.kind o ≡ inner → z.kind ≡ kinds.RightParen → ReadsExpr c top (p + 1) d ms e → ReadsExpr c 0 p d ((o, by_parens p) ∷ ms ++ token z ∷ []) e
paren_case p d o z ms e ko kz inside after s vs h =
    goes (operand_moves p o inner ko)
    (compose ms (token z ∷ []) (mark kinds.RightParen ∷ s) (of_expr e d ∷ vs) (bounded (p + 1) d inside (quiet_at kinds.RightParen kz refl refl)) (then_mark kz refl nothing))

one_case : {c : Counted} (p d : ℕ) (w o z : Token) (f : Expr → Expr) (ms : List Marked) (e : Expr) → start_of w.kind w ≡ one f → o.kind ≡ kinds.LeftParen → z.kind ≡ kinds.RightParen → ReadsExpr c top (p + 1) d ms e
    → ReadsExpr c 0 p (d + 1) (token w ∷ (o, by_parens p) ∷ ms ++ ends_deep (is_deep (d + 1)) (token z ∷ [])) (f e)
one_case p d w o z f ms e kw ko kz inside after s vs h =
    let last' = ends_deep (is_deep (d + 1)) (token z ∷ []) in
    goes (operand_moves p w (one f) kw) (goes (opening_moves p o ko)
    (compose ms last' (mark kinds.RightParen ∷ make (made_one f) ∷ s) (of_expr e d ∷ vs) (bounded (p + 1) d inside (quiet_at kinds.RightParen kz refl refl))
    (deepens (is_deep (d + 1)) (made_one f) tt (make_passes (made_one f) (first_of after)) refl (then_mark kz refl nothing))))

two_case : {c : Counted} (p d q : ℕ) (w o m z : Token) (f : Expr → Expr → Expr) (ms ns : List Marked) (x y : Expr) → start_of w.kind w ≡ two f → o.kind ≡ kinds.LeftParen → m.kind ≡ kinds.Comma → z.kind ≡ kinds.RightParen
    → ReadsExpr c top (p + 1) d ms x → ReadsExpr c top (p + 1) q ns y
    → ReadsExpr c 0 p (max d q + 1) (token w ∷ (o, by_parens p) ∷ ms ++ (token m ∷ ns ++ ends_deep (is_deep (max d q + 1)) (token z ∷ []))) (f x y)
two_case p d q w o m z f ms ns x y kw ko km kz first second after s vs h =
    let too = is_deep (max d q + 1) in
    let last' = ends_deep too (token z ∷ []) in
    let made : List Symbol = make (made_two f) ∷ s in
    let rest : List Symbol = level top (p + 1) ∷ mark kinds.RightParen ∷ made in
    goes (operand_moves p w (two f) kw) (goes (opening_moves p o ko)
    (compose ms (token m ∷ ns ++ last') (mark kinds.Comma ∷ rest) (of_expr x d ∷ vs) (bounded (p + 1) d first (quiet_at kinds.Comma km refl refl))
    (then_mark km refl
    (compose ns last' (mark kinds.RightParen ∷ made) (of_expr y q ∷ of_expr x d ∷ vs) (bounded (p + 1) q second (quiet_at kinds.RightParen kz refl refl))
    (deepens too (made_two f) tt (make_passes (made_two f) (first_of after)) refl (then_mark kz refl nothing))))))

-- an operator behind an expression, and what goes on behind its right operand
joins : {c : Counted} (n p d q : ℕ) (t : Token) (o : Op) (ns : List Marked) (x y : Expr) (go_on : Bool) → is_chain (suc n) ≡ go_on → operator_at (suc n) t.kind ≡ Some o → EndsWell ns → ReadsExpr c n p q ns y
    → (after : List Token) (s : List Symbol) (vs : List Item) → Stops (suc n) after
    → Follows c (token t ∷ ends_deep (is_deep (max d q + 1)) ns) after (tail (suc n) p ∷ s) (of_expr x d ∷ vs) (again go_on (suc n) p ++ s) (of_expr (apply_two o x y) (max d q + 1) ∷ vs)
joins {c} n p d q t o ns x y go_on chains k some right after s vs h =
    let less : suc n - 1 ≡ n = omega arith in
    let behind' : List Symbol = make (joined o) ∷ again (is_chain (suc n)) (suc n) p ++ s in
    let one' : List Item = of_expr x d ∷ vs in
    let P : Bool → Type 0 = λ b. Follows c (token t ∷ ends_deep (is_deep (max d q + 1)) ns) after (tail (suc n) p ∷ s) one' (again b (suc n) p ++ s) (of_expr (apply_two o x y) (max d q + 1) ∷ vs) in
    let Q : ℕ → Type 0 = λ m. Follows c (ends_deep (is_deep (max d q + 1)) ns) after (level m p ∷ behind') one' (again (is_chain (suc n)) (suc n) p ++ s) (of_expr (apply_two o x y) (max d q + 1) ∷ vs) in
    subst P chains (goes (operator_moves (suc n) p t o k)
    (subst Q (sym less)
    (deepens (is_deep (max d q + 1)) (joined o) some (make_passes (joined o) (first_of after)) refl
    (drops_tail n p (h.none n (omega (arith, le_upto (suc n)))) (right after behind' one' (stops_lower n after h))))))

chain_case : {c : Counted} (n p d q : ℕ) (t : Token) (o : Op) (ms ns : List Marked) (x y : Expr) → is_chain (suc n) ≡ true → operator_at (suc n) t.kind ≡ Some o → EndsWell ns → ReadsExpr c (suc n) p d ms x → ReadsExpr c n p q ns y
    → ReadsExpr c (suc n) p (max d q + 1) (ms ++ token t ∷ ends_deep (is_deep (max d q + 1)) ns) (apply_two o x y)
chain_case {c} n p d q t o ms ns x y chains k some left right after s vs h =
    let last' = ends_deep (is_deep (max d q + 1)) ns in
    let v2 : List Item = of_expr (apply_two o x y) (max d q + 1) ∷ vs in
    let upto_is : upto (suc n) ≤ suc n = rw chains (omega arith) in
    let P : Bool → Type 0 = λ b. Follows c ms (t ∷ (plain last' ++ after)) (level (suc n) p ∷ s) vs (again b (suc n) p ++ s) (of_expr x d ∷ vs) in
    let R : Bool → Type 0 = λ b. Follows c (ms ++ token t ∷ last') after (level (suc n) p ∷ s) vs (again b (suc n) p ++ s) v2 in
    subst R (sym chains)
    (compose ms (token t ∷ last') (tail (suc n) p ∷ s) (of_expr x d ∷ vs)
    (subst P chains (left (t ∷ (plain last' ++ after)) s vs (stops_operator (suc n) (suc n) t (plain last' ++ after) o k upto_is)))
    (joins n p d q t o ns x y true chains k some right after s vs h))

-- an expression begins as one with looser operators does
lifted : {c : Counted} (n p : ℕ) {ms : List Marked} {after : List Token} {s s2 : List Symbol} {vs v2 : List Item} → Follows c ms after (level n p ∷ tail (suc n) p ∷ s) vs s2 v2 → Follows c ms after (level (suc n) p ∷ s) vs s2 v2
lifted {c} n p {ms} {after} {s} {s2} {vs} {v2} h = record { runs = λ l. level_starts c n p (plain ms ++ after) l s vs ∙ h.runs l }

compare_case : {c : Counted} (n p d q : ℕ) (t : Token) (o : Op) (ms ns : List Marked) (x y : Expr) → is_chain (suc n) ≡ false → operator_at (suc n) t.kind ≡ Some o → EndsWell ns → ReadsExpr c n p d ms x → ReadsExpr c n p q ns y
    → ReadsExpr c (suc n) p (max d q + 1) (ms ++ token t ∷ ends_deep (is_deep (max d q + 1)) ns) (apply_two o x y)
compare_case {c} n p d q t o ms ns x y chains k some left right after s vs h =
    let last' = ends_deep (is_deep (max d q + 1)) ns in
    let ahead : List Token = t ∷ (plain last' ++ after) in
    let v2 : List Item = of_expr (apply_two o x y) (max d q + 1) ∷ vs in
    let R : Bool → Type 0 = λ b. Follows c (ms ++ token t ∷ last') after (level (suc n) p ∷ s) vs (again b (suc n) p ++ s) v2 in
    subst R (sym chains)
    (compose ms (token t ∷ last') (tail (suc n) p ∷ s) (of_expr x d ∷ vs)
    (lifted n p (drops_tail n p (one_level n (suc n) t.kind o k (omega arith)) (left ahead (tail (suc n) p ∷ s) vs (stops_operator n (suc n) t (plain last' ++ after) o k (upto_le n)))))
    (joins n p d q t o ns x y false chains k some right after s vs h))

alone_case : {c : Counted} (n p d : ℕ) (ms : List Marked) (e : Expr) → ReadsExpr c n p d ms e → ReadsExpr c (suc n) p d ms e
alone_case {c} n p d ms e reads after s vs h =
    by (is_chain (suc n)) refl (lifted n p (drops_tail n p (h.none n (omega (arith, le_upto (suc n)))) (reads after (tail (suc n) p ∷ s) vs (stops_lower n after h))))
  where
    by : (b : Bool) → is_chain (suc n) ≡ b → Follows c ms after (level (suc n) p ∷ s) vs (tail (suc n) p ∷ s) (of_expr e d ∷ vs) → Follows c ms after (level (suc n) p ∷ s) vs (again b (suc n) p ++ s) (of_expr e d ∷ vs)
    by true is j = j
    by false is j =
        let lt : suc n < upto (suc n) = rw is (omega arith) in
        then_pass built (tail_passes (suc n) p after (h.none (suc n) lt)) refl j

-- What is an expression is read as it is, up to the first token that exceeds a limit.
pub expr_read : (c : Counted) (n p d : ℕ) (ms : List Marked) (e : Expr) → IsExpr n p d ms e → ReadsExpr c n p d ms e
expr_read c _ _ _ _ _ (g.whole p t e is) = λ after s vs h. goes (operand_moves p t (constant e) is) nothing
expr_read c _ _ _ _ _ (g.rows p w is) = λ after s vs h. goes (operand_moves p w row_word is) (pass_then rows_made (rows_passes p after h.plain) refl nothing)
expr_read c _ _ _ _ _ (g.row_count p w a b is ka kb) = λ after s vs h. goes (operand_moves p w row_word is) (goes (row_count_moves p a ka) (then_mark kb refl nothing))
expr_read c _ _ _ _ _ (g.parenthesized p d o z ms e ko inside kz) = paren_case p d o z ms e ko kz (expr_read c top (p + 1) d ms e inside)
expr_read c _ _ _ _ _ (g.with_one p d w o z f ms e kw ko inside kz) = one_case p d w o z f ms e kw ko kz (expr_read c top (p + 1) d ms e inside)
expr_read c _ _ _ _ _ (g.with_two p d q w o m z f ms ns x y kw ko good km well kz) =
    two_case p d q w o m z f ms ns x y kw ko km kz (expr_read c top (p + 1) d ms x good) (expr_read c top (p + 1) q ns y well)
expr_read c _ _ _ _ _ (g.alone n p d ms e inside) = alone_case n p d ms e (expr_read c n p d ms e inside)
expr_read c _ _ _ _ _ (g.chain n p d q t o ms ns x y chains left k right) =
    chain_case n p d q t o ms ns x y chains k (expr_ends n p q ns y right) (expr_read c (suc n) p d ms x left) (expr_read c n p q ns y right)
expr_read c _ _ _ _ _ (g.compare n p d q t o ms ns x y chains left k right) =
    compare_case n p d q t o ms ns x y chains k (expr_ends n p q ns y right) (expr_read c n p d ms x left) (expr_read c n p q ns y right)

-- an expression, and what stands behind it
pub expr_then : {c : Counted} (p d : ℕ) (ms ns : List Marked) (e : Expr) {after : List Token} {s s2 : List Symbol} {vs v2 : List Item} → IsExpr top p d ms e → Quiet (plain ns ++ after) → Follows c ns after s (of_expr e d ∷ vs) s2 v2
    → Follows c (ms ++ ns) after (level top p ∷ s) vs s2 v2
expr_then {c} p d ms ns e {after} {s} {s2} {vs} {v2} good q h = compose ms ns s (of_expr e d ∷ vs) (bounded p d (expr_read c top p d ms e good) q) h
