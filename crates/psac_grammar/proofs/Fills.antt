-- Each stack that the machine reaches can be completed to a text, limits aside.
use Rattle.std.proofs.Common.{◌≡◌, ℕ, zero, suc, ◌+◌, Bool, true, false, ◌&&◌, List, [], ◌∷◌, ◌++◌, Option, Some, None, refl, sym, subst, rules, ◌∙◌, append_assoc}
use Rattle.psac_syntax.specs.declared.program.Expr.TheVariants as expr
use Rattle.psac_tokens.specs.declared.token.Kind.{Kind}
use Rattle.psac_tokens.specs.declared.token.Kind.TheVariants as kinds
use Rattle.psac_tokens.specs.declared.token.Token.{Token}
use Rattle.psac_tokens.specs.declared.token.TheConstants.{NOTHING}
use Rattle.psac_grammar.specs.Marked.{Mark, fine, over, late, by_values}
use Rattle.psac_grammar.specs.Grammar.{constant, top, NameList, header_values, header_dests, call_dests}
use Rattle.psac_grammar.specs.Machine.{Symbol, one_of, mark, make, level, tail, after_rows, value, values, more_values, names, more_names, more_items, block, statements, functions, same_kind, tails, of_names, of_stmts, begun_behind, Item, Built, take, pass, move, operand, also, closing_of, behind_list, opens, Behind, nothing_behind, behind, Answer, accepted, no_limits, first_of, start, begun, step, run_with}
use Rattle.psac_grammar.proofs.Runs.{by_late, by_over, past, takes, passes, run_lax}
use Rattle.psac_grammar.proofs.Sorts.{calm, calm_pass}

-- ---- what is left of the machine where no limit counts

pub past_lax : (l : Behind) (t : Token) (m : Mark) (ts : List Token) (a : Answer) → past no_limits l t m ts a ≡ a
past_lax l t m ts a = late_one l.late (by_over false m t ts a) ∙ over_one m
  where
    late_one : (o : Option ℕ) (a : Answer) → by_late false o l.line (t ∷ ts) a ≡ a
    late_one None a = refl
    late_one (Some w) a = refl

    over_one : (m : Mark) → by_over false m t ts a ≡ a
    over_one fine = refl
    over_one (over w) = refl
    over_one (late w) = refl

abbrev Lax : List Token → List Symbol → List Item → Answer
Lax ts s vs = run_with no_limits ts nothing_behind s vs

-- Without limits the machine goes from one state to the other.
record Reaches (ts : List Token) (s : List Symbol) (vs : List Item) (us : List Token) (q : List Symbol) (ws : List Item) : Type 0 where
  runs : Lax ts s vs ≡ Lax us q ws

then : {ts us xs : List Token} {s q r : List Symbol} {vs ws ys : List Item} → Reaches ts s vs us q ws → Reaches us q ws xs r ys → Reaches ts s vs xs r ys
then h j = record { runs = h.runs ∙ j.runs }

lax_take : {t : Token} {ts : List Token} {x : Symbol} {s : List Symbol} {vs : List Item} {m : Mark} {more : List Symbol} {new : List Item} → move x t ≡ take m more new → Reaches (t ∷ ts) (x ∷ s) vs ts (more ++ s) (new ++ vs)
lax_take {t} {ts} {x} {s} {vs} {m} {more} {new} is =
    record {
      runs =
          takes no_limits t ts nothing_behind x s vs m more new is ∙ past_lax nothing_behind t m ts (run_with no_limits ts (behind t m) (more ++ s) (new ++ vs)) ∙ run_lax ts (behind t m) nothing_behind (more ++ s) (new ++ vs);
    }

lax_pass : {ts : List Token} {x : Symbol} {s : List Symbol} {vs : List Item} {f : List Item → Built} → move x (first_of ts) ≡ pass f → Reaches ts (x ∷ s) vs ts s (f vs).1
lax_pass {ts} {x} {s} {vs} {f} is = record { runs = passes no_limits ts nothing_behind x s vs f is refl }

-- ---- stacks

abbrev pub lies_kind : Kind → Bool
lies_kind kinds.End = false
lies_kind kinds.Unreadable = false
lies_kind k = calm k

-- it may lie below others on a stack
abbrev pub lies : Symbol → Bool
lies (one_of k by new) = lies_kind k
lies (functions zero) = false
lies _ = true

-- the kinds of the last token of a text
abbrev pub lasts : Kind → Bool
lasts kinds.End = true
lasts kinds.Unreadable = true
lasts _ = false

pub data Deep : List Symbol → Type 0 where
  bottom : Deep (mark kinds.End ∷ [])
  lying : (x : Symbol) (s : List Symbol) → lies x ≡ true → Deep s → Deep (x ∷ s)

-- Single tokens of any kind, and then a stack of which all may lie below others.
pub data Good : List Symbol → Type 0 where
  deep : (s : List Symbol) → Deep s → Good s
  token_first : (k : Kind) (by : Token → Mark) (new : Token → List Item) (s : List Symbol) → lasts k ≡ false → Good s → Good (one_of k by new ∷ s)

abbrev pub all_lie : List Symbol → Bool
all_lie [] = true
all_lie (x ∷ xs) = lies x && all_lie xs

and_first : (a b : Bool) → (a && b) ≡ true → a ≡ true
and_first true b h = refl
and_first false b h = absurd cc

and_second : (a b : Bool) → (a && b) ≡ true → b ≡ true
and_second true b h = h
and_second false b h = absurd cc

pub deep_append : (xs s : List Symbol) → all_lie xs ≡ true → Deep s → Deep (xs ++ s)
deep_append [] s h d = d
deep_append (x ∷ xs) s h d = lying x (xs ++ s) (and_first (lies x) (all_lie xs) h) (deep_append xs s (and_second (lies x) (all_lie xs) h) d)

-- ---- a completion

abbrev pub some_token : Kind → Token
some_token k = record NOTHING { kind = k }

abbrev body_fill : List Token → List Token
body_fill ts = some_token kinds.LeftBrace ∷ some_token kinds.RightBrace ∷ ts

abbrev dests_fill : List Token → List Token
dests_fill ts = some_token kinds.RightParen ∷ ts

abbrev names_fill : NameList → List Token → List Token
names_fill header_values ts = some_token kinds.Semicolon ∷ dests_fill (body_fill ts)
names_fill header_dests ts = dests_fill (body_fill ts)
names_fill call_dests ts = dests_fill ts

abbrev pub fill_of : Symbol → List Token → List Token
fill_of (one_of k by new) ts = some_token k ∷ ts
fill_of (level n p) ts = some_token kinds.Int ∷ ts
fill_of (value c) ts = some_token kinds.Int ∷ ts
fill_of values ts = some_token kinds.Semicolon ∷ dests_fill ts
fill_of (more_values c) ts = some_token kinds.Semicolon ∷ dests_fill ts
fill_of (names l n) ts = names_fill l ts
fill_of (more_names l n) ts = names_fill l ts
fill_of (more_items many b n) ts = body_fill ts
fill_of (block b n) ts = body_fill ts
fill_of (functions zero) ts = some_token kinds.Func ∷ some_token kinds.Name ∷ some_token kinds.LeftParen ∷ names_fill header_values ts
fill_of _ ts = ts

abbrev pub fill : List Symbol → List Token
fill [] = []
fill (x ∷ s) = fill_of x (fill s)

names_calm : (l : NameList) (ts : List Token) → calm (first_of (names_fill l ts)).kind ≡ true
names_calm header_values ts = refl
names_calm header_dests ts = refl
names_calm call_dests ts = refl

lies_calm : (k : Kind) → lies_kind k ≡ true → calm k ≡ true
lies_calm kinds.End h = refl
lies_calm kinds.Unreadable h = refl
lies_calm k h = h

fill_calm : (x : Symbol) (ts : List Token) → lies x ≡ true → calm (first_of ts).kind ≡ true → calm (first_of (fill_of x ts)).kind ≡ true
fill_calm (one_of k by new) ts h j = lies_calm k h
fill_calm (level n p) ts h j = refl
fill_calm (value c) ts h j = refl
fill_calm values ts h j = refl
fill_calm (more_values c) ts h j = refl
fill_calm (names l n) ts h j = names_calm l ts
fill_calm (more_names l n) ts h j = names_calm l ts
fill_calm (more_items many b n) ts h j = refl
fill_calm (block b n) ts h j = refl
fill_calm (functions zero) ts h j = absurd cc
fill_calm (functions (suc c)) ts h j = j
fill_calm (make f) ts h j = j
fill_calm (tail n p) ts h j = j
fill_calm (after_rows p) ts h j = j
fill_calm (statements b n c) ts h j = j

pub deep_calm : (s : List Symbol) → Deep s → calm (first_of (fill s)).kind ≡ true
deep_calm _ bottom = refl
deep_calm _ (lying x s h d) = fill_calm x (fill s) h (deep_calm s d)

-- the completion of a symbol takes the machine past it
record Skips (x : Symbol) (ts : List Token) (s : List Symbol) (vs : List Item) : Type 0 where
  items : List Item
  skips : Reaches (fill_of x ts) (x ∷ s) vs ts s items

same_itself : (k : Kind) → same_kind k k ≡ true
same_itself k = search rules

one_moves : (k : Kind) (by : Token → Mark) (new : Token → List Item) → move (one_of k by new) (some_token k) ≡ take (by (some_token k)) [] (new (some_token k))
unfolding move
one_moves k by new = rw (same_itself k) refl

tails_end : (n p : ℕ) (ts : List Token) (s : List Symbol) (vs : List Item) → calm (first_of ts).kind ≡ true → Reaches ts (tails n p ++ s) vs ts s vs
tails_end zero p ts s vs q = record { runs = refl }
tails_end (suc n) p ts s vs q =
    let P : List Symbol → Type 0 = λ r. Reaches ts r vs ts s vs in
    subst P (sym (append_assoc (tails n p) (tail (suc n) p ∷ []) s)) (then (tails_end n p ts (tail (suc n) p ∷ s) vs q) (lax_pass (calm_pass (tail (suc n) p) (first_of ts) refl q)))

level_moves : (n p : ℕ) → move (level n p) (some_token kinds.Int) ≡ operand (constant (expr.Int (some_token kinds.Int).number)) (some_token kinds.Int) p (tails n p)
unfolding move
level_moves n p = refl

value_moves : (c : ℕ) → move (value c) (some_token kinds.Int) ≡ also (by_values c) (operand (constant (expr.Int (some_token kinds.Int).number)) (some_token kinds.Int) 0 (tails top 0))
unfolding move
value_moves c = refl

block_moves : (b n : ℕ) → move (block b n) (some_token kinds.LeftBrace) ≡ opens b n
unfolding move
block_moves b n = refl

items_moves : (many b n : ℕ) → move (more_items many b n) (some_token kinds.LeftBrace) ≡ opens b (n + many)
unfolding move
items_moves many b n = refl

values_move : move values (some_token kinds.Semicolon) ≡ take fine (names call_dests 0 ∷ []) (of_names [] ∷ [])
unfolding move
values_move = refl

more_values_move : (c : ℕ) → move (more_values c) (some_token kinds.Semicolon) ≡ take fine (names call_dests 0 ∷ []) (of_names [] ∷ [])
unfolding move
more_values_move c = refl

close_names : (l : NameList) (n : ℕ) → move (names l n) (some_token (closing_of l)) ≡ take fine (behind_list l n) (begun_behind l)
unfolding move
close_names header_values n = refl
close_names header_dests n = refl
close_names call_dests n = refl

close_more_names : (l : NameList) (n : ℕ) → move (more_names l n) (some_token (closing_of l)) ≡ take fine (behind_list l n) (begun_behind l)
unfolding move
close_more_names header_values n = refl
close_more_names header_dests n = refl
close_more_names call_dests n = refl

-- a body that is open
body_skips : (b n : ℕ) (ts : List Token) (s : List Symbol) (vs : List Item) → Reaches (some_token kinds.RightBrace ∷ ts) (statements b n 0 ∷ mark kinds.RightBrace ∷ s) vs ts s vs
body_skips b n ts s vs = then (lax_pass (calm_pass (statements b n 0) (some_token kinds.RightBrace) refl refl)) (lax_take (one_moves kinds.RightBrace (λ t. fine) (λ t. [])))

block_skips : (b n : ℕ) (ts : List Token) (s : List Symbol) (vs : List Item) → Reaches (body_fill ts) (block b n ∷ s) vs ts s (of_stmts [] ∷ vs)
block_skips b n ts s vs = then (lax_take (block_moves b n)) (body_skips (b + 1) n ts s (of_stmts [] ∷ vs))

list_skips : (l : NameList) (n : ℕ) (ts : List Token) (s : List Symbol) (vs : List Item) (x : Symbol) → move x (some_token (closing_of l)) ≡ take fine (behind_list l n) (begun_behind l)
    → (items : List Item) × Reaches (names_fill l ts) (x ∷ s) vs ts s items
list_skips call_dests n ts s vs x is = (vs, lax_take is)
list_skips header_dests n ts s vs x is = (of_stmts [] ∷ vs, then (lax_take is) (block_skips 0 n ts s vs))
list_skips header_values n ts s vs x is = (of_stmts [] ∷ of_names [] ∷ vs, then (lax_take is) (then (lax_take (close_names header_dests n)) (block_skips 0 n ts s (of_names [] ∷ vs))))

skipped : (x : Symbol) (ts : List Token) (s : List Symbol) (vs : List Item) → lies x ≡ true → calm (first_of ts).kind ≡ true → Skips x ts s vs
skipped (one_of k by new) ts s vs h j = record { items = new (some_token k) ++ vs; skips = lax_take (one_moves k by new) }
skipped (level n p) ts s vs h j = record { items = _; skips = then (lax_take (level_moves n p)) (tails_end n p ts s _ j) }
skipped (value c) ts s vs h j = record { items = _; skips = then (lax_take (value_moves c)) (tails_end top 0 ts s _ j) }
skipped values ts s vs h j = record { items = _; skips = then (lax_take values_move) (lax_take (close_names call_dests 0)) }
skipped (more_values c) ts s vs h j = record { items = _; skips = then (lax_take (more_values_move c)) (lax_take (close_names call_dests 0)) }
skipped (names l n) ts s vs h j = let y = list_skips l n ts s vs (names l n) (close_names l n) in record { items = y.0; skips = y.1 }
skipped (more_names l n) ts s vs h j = let y = list_skips l n ts s vs (more_names l n) (close_more_names l n) in record { items = y.0; skips = y.1 }
skipped (more_items many b n) ts s vs h j = record { items = of_stmts [] ∷ vs; skips = then (lax_take (items_moves many b n)) (body_skips (b + 1) (n + many) ts s (of_stmts [] ∷ vs)) }
skipped (block b n) ts s vs h j = record { items = of_stmts [] ∷ vs; skips = block_skips b n ts s vs }
skipped (functions zero) ts s vs h j = absurd cc
skipped (functions (suc c)) ts s vs h j = record { items = _; skips = lax_pass (calm_pass (functions (suc c)) (first_of ts) refl j) }
skipped (make f) ts s vs h j = record { items = _; skips = lax_pass (calm_pass (make f) (first_of ts) refl j) }
skipped (tail n p) ts s vs h j = record { items = _; skips = lax_pass (calm_pass (tail n p) (first_of ts) refl j) }
skipped (after_rows p) ts s vs h j = record { items = _; skips = lax_pass (calm_pass (after_rows p) (first_of ts) refl j) }
skipped (statements b n c) ts s vs h j = record { items = _; skips = lax_pass (calm_pass (statements b n c) (first_of ts) refl j) }

abbrev pub Accepts : List Token → List Symbol → List Item → Type 0
Accepts ts s vs = (ws : List Item) × (run_with no_limits ts nothing_behind s vs ≡ accepted ws)

empty_accepts : (vs : List Item) → Lax [] [] vs ≡ accepted vs
unfolding run_with step
empty_accepts vs = refl

deep_filled : (s : List Symbol) (vs : List Item) → Deep s → Accepts (fill s) s vs
deep_filled _ vs bottom =
    let h : Reaches (some_token kinds.End ∷ []) (mark kinds.End ∷ []) vs [] [] vs = lax_take (one_moves kinds.End (λ t. fine) (λ t. [])) in
    (vs, h.runs ∙ empty_accepts vs)
deep_filled _ vs (lying x s h d) =
    let y = skipped x (fill s) s vs h (deep_calm s d) in
    let z = deep_filled s y.items d in
    (z.0, y.skips.runs ∙ z.1)

good_filled : (s : List Symbol) (vs : List Item) → Good s → Accepts (fill s) s vs
good_filled _ vs (deep s d) = deep_filled s vs d
good_filled _ vs (token_first k by new s h g) =
    let y : Reaches (some_token k ∷ fill s) (one_of k by new ∷ s) vs (fill s) s (new (some_token k) ++ vs) = lax_take (one_moves k by new) in
    let z = good_filled s (new (some_token k) ++ vs) g in
    (z.0, y.runs ∙ z.1)

-- what the machine reaches
pub data Reachable : List Symbol → List Item → Type 0 where
  at_start : Reachable start begun
  at_last : (vs : List Item) → Reachable [] vs
  between : (s : List Symbol) (vs : List Item) → Good s → Reachable s vs

start_filled : Accepts (fill start) start begun
unfolding run_with step move
start_filled = (_, refl)

pub filled : (s : List Symbol) (vs : List Item) → Reachable s vs → Accepts (fill s) s vs
filled _ _ at_start = start_filled
filled _ _ (at_last vs) = (vs, empty_accepts vs)
filled _ _ (between s vs g) = good_filled s vs g
