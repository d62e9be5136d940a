-- The machine goes from stacks that can be completed to such stacks.
use Rattle.std.proofs.Common.{◌≡◌, ℕ, zero, suc, ◌+◌, ◌-◌, Bool, true, false, cond, ltb, List, [], ◌∷◌, ◌++◌, Option, Some, None, ◌⊎◌, inl, inr, refl, sym, ap, subst, ◌∙◌, append_assoc, arith}
use Rattle.psac_ops.specs.declared.op.Op.{Op}
use Rattle.psac_tokens.specs.declared.token.Kind.{Kind}
use Rattle.psac_tokens.specs.declared.token.Kind.TheVariants as kinds
use Rattle.psac_tokens.specs.declared.token.Token.{Token}
use Rattle.psac_grammar.specs.Marked.{Mark, by_values}
use Rattle.psac_grammar.specs.Grammar.{Start, constant, one, two, inner, row_word, no_start, start_of, operator_at, is_chain, top, most_items, NameList, header_values, header_dests, call_dests}
use Rattle.psac_grammar.specs.Machine.{Symbol, one_of, mark, make, level, tail, after_rows, value, values, more_values, names, more_names, more_items, block, statements, functions, same_kind, tails, again, joined, value_made, Item, Move, take, pass, refuse, move, operand, operators, also, values_at, values_on, closes, names_at, names_on, items_on, statement, function_at, rows_on, Behind, behind, Step, go, stop, done, syntax_at, no_limits, settled, exceeds, after, start, step}
use Rattle.psac_grammar.proofs.Sound.{lax_settled, lax_exceeds}
use Rattle.psac_grammar.proofs.Fills.{lies, all_lie, Deep, bottom, lying, Good, deep, token_first, deep_append}

abbrev Fits : Move → Type 0
Fits (take m more new) = (s : List Symbol) → Deep s → Good (more ++ s)
Fits (pass f) = Unit {0}
Fits refuse = Unit {0}

all_fit : (xs : List Symbol) → all_lie xs ≡ true → (s : List Symbol) → Deep s → Good (xs ++ s)
all_fit xs h s d = deep (xs ++ s) (deep_append xs s h d)

abbrev lie_of : Move → Bool
lie_of (take m more new) = all_lie more
lie_of (pass f) = true
lie_of refuse = true

fit : (m : Move) → lie_of m ≡ true → Fits m
fit (take m more new) h = all_fit more h
fit (pass f) h = tt
fit refuse h = tt

fits_if : (b : Bool) (m : Mark) (more : List Symbol) (new : List Item) → all_lie more ≡ true → Fits (cond b (take m more new) refuse)
fits_if true m more new h = all_fit more h
fits_if false m more new h = tt

deep_tails : (n p : ℕ) (s : List Symbol) → Deep s → Deep (tails n p ++ s)
deep_tails zero p s d = d
deep_tails (suc n) p s d = subst Deep (sym (append_assoc (tails n p) (tail (suc n) p ∷ []) s)) (deep_tails n p (tail (suc n) p ∷ s) (lying (tail (suc n) p) s refl d))

operand_fits : (k : Start) (t : Token) (p : ℕ) (more : List Symbol) → ((s : List Symbol) → Deep s → Deep (more ++ s)) → Fits (operand k t p more)
operand_fits (constant e) t p more h = λ s d. deep _ (h s d)
operand_fits inner t p more h = λ s d. deep _ (lying _ _ refl (lying _ _ refl (h s d)))
operand_fits (one f) t p more h = λ s d. token_first _ _ _ _ refl (deep _ (lying _ _ refl (lying _ _ refl (lying _ _ refl (h s d)))))
operand_fits (two f) t p more h = λ s d. token_first _ _ _ _ refl (deep _ (lying _ _ refl (lying _ _ refl (lying _ _ refl (lying _ _ refl (lying _ _ refl (h s d)))))))
operand_fits row_word t p more h = λ s d. deep _ (lying _ _ refl (h s d))
operand_fits no_start t p more h = tt

operators_fit : (o : Option Op) (n p : ℕ) → Fits (operators o n p)
operators_fit None n p = tt
operators_fit (Some o) n p = by (is_chain n)
  where
    by : (b : Bool) (s : List Symbol) → Deep s → Good ((level (n - 1) p ∷ make (joined o) ∷ again b n p) ++ s)
    by true s d = deep _ (lying _ _ refl (lying _ _ refl (lying _ _ refl d)))
    by false s d = deep _ (lying _ _ refl (lying _ _ refl d))

rows_fit : (k : Kind) (p : ℕ) → Fits (rows_on k p)
rows_fit kinds.LeftParen p = fit (rows_on kinds.LeftParen p) refl
rows_fit _ p = tt

also_fits : (m : Mark) (q : Move) → Fits q → Fits (also m q)
also_fits m (take n more new) h = h
also_fits m (pass f) h = tt
also_fits m refuse h = tt

values_fit : (k : Kind) (t : Token) → Fits (values_at k t)
values_fit kinds.Semicolon t = fit (values_at kinds.Semicolon t) refl
values_fit k t = operand_fits (start_of k t) t 0 (tails top 0 ++ (make value_made ∷ more_values 1 ∷ [])) behind'
  where
    behind' : (s : List Symbol) → Deep s → Deep ((tails top 0 ++ (make value_made ∷ more_values 1 ∷ [])) ++ s)
    behind' s d =
        subst Deep (sym (append_assoc (tails top 0) (make value_made ∷ more_values 1 ∷ []) s)) (deep_tails top 0 (make value_made ∷ more_values 1 ∷ s) (lying _ _ refl (lying _ _ refl d)))

more_values_fit : (k : Kind) (c : ℕ) → Fits (values_on k c)
more_values_fit kinds.Comma c = fit (values_on kinds.Comma c) refl
more_values_fit kinds.Semicolon c = fit (values_on kinds.Semicolon c) refl
more_values_fit _ c = tt

closes_fit : (k : Kind) (l : NameList) (n : ℕ) → Fits (closes k l n)
closes_fit k header_values n = fits_if (same_kind k kinds.Semicolon) _ _ _ refl
closes_fit k header_dests n = fits_if (same_kind k kinds.RightParen) _ _ _ refl
closes_fit k call_dests n = fits_if (same_kind k kinds.RightParen) _ _ _ refl

names_fit : (k : Kind) (t : Token) (l : NameList) (n : ℕ) → Fits (names_at k t l n)
names_fit kinds.Name t l n = fit (names_at kinds.Name t l n) refl
names_fit k t l n = closes_fit k l n

more_names_fit : (k : Kind) (l : NameList) (n : ℕ) → Fits (names_on k l n)
more_names_fit kinds.Comma l n = fit (names_on kinds.Comma l n) refl
more_names_fit k l n = closes_fit k l n

items_fit : (k : Kind) (many b n : ℕ) → Fits (items_on k many b n)
items_fit kinds.Comma many b n = fits_if (ltb many most_items) _ _ [] refl
items_fit kinds.LeftBrace many b n = fit (items_on kinds.LeftBrace many b n) refl
items_fit _ many b n = tt

statement_fits : (k : Kind) (t : Token) (b n c : ℕ) → Fits (statement k t b n c)
statement_fits kinds.Let t b n c = fit (statement kinds.Let t b n c) refl
statement_fits kinds.New t b n c = fit (statement kinds.New t b n c) refl
statement_fits kinds.Write t b n c = fit (statement kinds.Write t b n c) refl
statement_fits kinds.Read t b n c = fit (statement kinds.Read t b n c) refl
statement_fits kinds.If t b n c = fit (statement kinds.If t b n c) refl
statement_fits kinds.Par t b n c = fit (statement kinds.Par t b n c) refl
statement_fits kinds.Call t b n c = λ s d. token_first _ _ _ _ refl (token_first _ _ _ _ refl (deep _ (lying _ _ refl (lying _ _ refl (lying _ _ refl (lying _ _ refl d))))))
statement_fits _ t b n c = tt

pub function_fits : (k : Kind) (t : Token) (c : ℕ) → Fits (function_at k t c)
function_fits kinds.Func t c = λ s d.
    let e : c + 1 ≡ suc c = omega arith in
    token_first _ _ _ _ refl (token_first _ _ _ _ refl (deep _ (lying _ _ refl (lying _ _ refl (lying (functions (c + 1)) _ (ap (λ m. lies (functions m)) e) d)))))
function_fits _ t zero = tt
function_fits _ t (suc c) = tt

fits : (x : Symbol) (t : Token) → Fits (move x t)
unfolding move
fits (one_of k by new) t = fits_if (same_kind t.kind k) (by t) [] (new t) refl
fits (make f) t = tt
fits (tail n p) t = operators_fit (operator_at n t.kind) n p
fits (after_rows p) t = rows_fit t.kind p
fits (level n p) t = operand_fits (start_of t.kind t) t p (tails n p) (deep_tails n p)
fits (value c) t = also_fits (by_values c) _ (operand_fits (start_of t.kind t) t 0 (tails top 0) (deep_tails top 0))
fits values t = values_fit t.kind t
fits (more_values c) t = more_values_fit t.kind c
fits (names l n) t = names_fit t.kind t l n
fits (more_names l n) t = more_names_fit t.kind l n
fits (more_items many b n) t = items_fit t.kind many b n
fits (block b n) t = fits_if (same_kind t.kind kinds.LeftBrace) _ _ _ refl
fits (statements b n c) t = statement_fits t.kind t b n c
fits (functions c) t = function_fits t.kind t c

-- ---- steps

-- all was read, or what is left can be completed
abbrev pub Left : List Symbol → Type 0
Left s = (s ≡ []) ⊎ Good s

go_is : {l k : Behind} {s q : List Symbol} {vs ws : List Item} → go l s vs ≡ go k q ws → s ≡ q
go_is h = cc

taken_is : (l : Behind) (m : Mark) (t : Token) (s : List Symbol) (vs : List Item) (l' : Behind) (s' : List Symbol) (vs' : List Item) → settled false l.late l.line (exceeds false m t (go (behind t m) s vs)) ≡ go l' s' vs' → s ≡ s'
taken_is l m t s vs l' s' vs' h = go_is (sym (lax_settled l.late l.line (exceeds false m t (go (behind t m) s vs)) ∙ lax_exceeds m t (go (behind t m) s vs)) ∙ h)

no_refusal : (l : Behind) (t : Token) (l' : Behind) (s' : List Symbol) (vs' : List Item) → settled false l.late l.line (stop (syntax_at t)) ≡ go l' s' vs' → ⊥
no_refusal l t l' s' vs' h = let e : stop (syntax_at t) ≡ go l' s' vs' = sym (lax_settled l.late l.line (stop (syntax_at t))) ∙ h in cc

one_left : (b : Bool) (l : Behind) (t : Token) (m : Mark) (new : List Item) (s : List Symbol) (vs : List Item) (on : List Item → Step) (l' : Behind) (s' : List Symbol) (vs' : List Item) → Left s → after no_limits l (cond b (take m [] new) refuse) t s vs on ≡ go l' s' vs' → Left s'
one_left true l t m new s vs on l' s' vs' d h = subst Left (taken_is l m t s (new ++ vs) l' s' vs' h) d
one_left false l t m new s vs on l' s' vs' d h = absurd (no_refusal l t l' s' vs' h)

deep_step : (l : Behind) (s : List Symbol) (vs : List Item) (t : Token) (l' : Behind) (s' : List Symbol) (vs' : List Item) → Deep s → step no_limits l s vs t ≡ go l' s' vs' → Left s'
unfolding step move
deep_step l _ vs t l' s' vs' bottom h = one_left (same_kind t.kind kinds.End) l t _ [] [] vs _ l' s' vs' (inl refl) h
deep_step l _ vs t l' s' vs' (lying x s lie d) h = by (λ us j. deep_step l s us t l' s' vs' d j) (move x t) (fits x t) h
  where
    by : ((us : List Item) → step no_limits l s us t ≡ go l' s' vs' → Left s') → (m : Move) → Fits m → after no_limits l m t s vs (λ us. step no_limits l s us t) ≡ go l' s' vs' → Left s'
    by on (take m more new) f h = inr (subst Good (taken_is l m t (more ++ s) (new ++ vs) l' s' vs' h) (f s d))
    by on (pass p) f h = on (p vs).1 h
    by on refuse f h = absurd (no_refusal l t l' s' vs' h)

good_step : (l : Behind) (s : List Symbol) (vs : List Item) (t : Token) (l' : Behind) (s' : List Symbol) (vs' : List Item) → Good s → step no_limits l s vs t ≡ go l' s' vs' → Left s'
unfolding step move
good_step l _ vs t l' s' vs' (deep s d) h = deep_step l s vs t l' s' vs' d h
good_step l _ vs t l' s' vs' (token_first k by new s lie g) h = one_left (same_kind t.kind k) l t (by t) (new t) s vs _ l' s' vs' (inr g) h

empty_step : (l : Behind) (vs : List Item) (t : Token) (l' : Behind) (s' : List Symbol) (vs' : List Item) → step no_limits l [] vs t ≡ go l' s' vs' → ⊥
unfolding step
empty_step l vs t l' s' vs' h = let e : done vs ≡ go l' s' vs' = sym (lax_settled l.late l.line (done vs)) ∙ h in cc

pub left_step : (l : Behind) (s : List Symbol) (vs : List Item) (t : Token) (l' : Behind) (s' : List Symbol) (vs' : List Item) → Left s → step no_limits l s vs t ≡ go l' s' vs' → Left s'
left_step l s vs t l' s' vs' (inl none) h = absurd (empty_step l vs t l' s' vs' (let P : List Symbol → Type 0 = λ r. step no_limits l r vs t ≡ go l' s' vs' in subst P none h))
left_step l s vs t l' s' vs' (inr g) h = good_step l s vs t l' s' vs' g h

pub start_step : (l : Behind) (vs : List Item) (t : Token) (l' : Behind) (s' : List Symbol) (vs' : List Item) → step no_limits l start vs t ≡ go l' s' vs' → Left s'
unfolding step move
start_step l vs t l' s' vs' h = by (function_at t.kind t 0) (function_fits t.kind t 0) (function_stands t.kind t) h
  where
    Stands : Move → Type 0
    Stands (take m more new) = Unit {0}
    Stands (pass f) = ⊥
    Stands refuse = Unit {0}

    function_stands : (k : Kind) (t : Token) → Stands (function_at k t 0)
    function_stands kinds.Func t = tt
    function_stands _ t = tt

    by : (m : Move) → Fits m → Stands m → after no_limits l m t (mark kinds.End ∷ []) vs (λ us. step no_limits l (mark kinds.End ∷ []) us t) ≡ go l' s' vs' → Left s'
    by (take m more new) f stands h = inr (subst Good (taken_is l m t (more ++ (mark kinds.End ∷ [])) (new ++ vs) l' s' vs' h) (f (mark kinds.End ∷ []) bottom))
    by (pass p) f stands h = absurd stands
    by refuse f stands h = absurd (no_refusal l t l' s' vs' h)
