-- Lists of names, of values and of items, as the code meets them.
use Rattle.std.proofs.Common.{◌≡◌, ℕ, ◌+◌, ◌<◌, Bool, true, false, cond, not, ltb, ◌&&◌, List, [], ◌∷◌, ◌++◌, refl, sym, ap, ◌∙◌, arith}
use Rattle.std.proofs.lemmas.Bool.{ltb-true}
use Rattle.psac_tokens.specs.declared.token.Kind.{Kind}
use Rattle.psac_tokens.specs.declared.token.Kind.TheVariants as kinds
use Rattle.psac_tokens.specs.declared.token.Token.{Token}
use Rattle.psac_grammar.specs.Marked.{fine, by_values, by_bodies}
use Rattle.psac_grammar.specs.Grammar.{NameList, by_list, top, most_items, start_of}
use Rattle.psac_grammar.specs.Machine.{Symbol, mark, make, level, tails, binding, names, more_names, listed, value, values, more_values, more_items, block, name_made, value_made, item_made, same_kind, Item, of_name, of_names, of_stmts, take, refuse, move, also, operand, closing_of, behind_list, begun_behind, closes, names_at, names_on, values_at, values_on, items_on, opens, statements, Ahead, first, run}
use Rattle.psac_grammar.specs.Grammar as grammar
use Rattle.psac_lang.specs.Reads.{taken, item_follows}
use Rattle.psac_lang.proofs.Moves.{not_true, not_false, kind_is, both_take, both_refuse}
use Rattle.psac_lang.proofs.Operands.{operand_fine}

-- ---- names

names_other : (k : Kind) (t : Token) (l : NameList) (n : ℕ) → same_kind k kinds.Name ≡ false → names_at k t l n ≡ closes k l n
names_other kinds.Name t l n h = absurd cc
names_other _ t l n h = refl

more_other : (k : Kind) (l : NameList) (n : ℕ) → same_kind k kinds.Comma ≡ false → names_on k l n ≡ closes k l n
more_other kinds.Comma l n h = absurd cc
more_other _ l n h = refl

module _ (l : NameList) (n : ℕ) (t u : Token) (same : t ≡ u) where
  pub names_close : (k : Kind) → true ≡ not (same_kind t.kind kinds.Name) → k ≡ closing_of l → move (names l n) u ≡ taken u.kind k fine (behind_list l n) (begun_behind l)
  unfolding move
  names_close k h is = rw (← same, is) (names_other t.kind t l n (not_true _ h))

  pub more_close : (k : Kind) → false ≡ same_kind t.kind kinds.Comma → k ≡ closing_of l → move (more_names l n) u ≡ taken u.kind k fine (behind_list l n) (begun_behind l)
  unfolding move
  more_close k h is = rw (← same, is) (more_other t.kind l n (sym h))

  pub more_comma : true ≡ same_kind t.kind kinds.Comma → move (more_names l n) u ≡ taken u.kind kinds.Comma fine (listed l n ∷ make name_made ∷ more_names l (n + 1) ∷ []) []
  unfolding move
  more_comma h = rw (← same, kind_is kinds.Comma t.kind (sym h)) refl

names_name : (l : NameList) (n : ℕ) (t : Token) → t.kind ≡ kinds.Name → move (names l n) t ≡ take (by_list l n t) (make name_made ∷ more_names l (n + 1) ∷ []) (of_name t.index ∷ [])
unfolding move
names_name l n t h = rw h refl

listed_name : (l : NameList) (n : ℕ) (t : Token) → t.kind ≡ kinds.Name → move (listed l n) t ≡ take (by_list l n t) [] (of_name t.index ∷ [])
unfolding move
listed_name l n t h = rw h refl

pub names_first : (c : Ahead) (l : NameList) (n : ℕ) (t : Token) (s : List Symbol) (vs : List Item) → t ≡ first c → false ≡ not (same_kind t.kind kinds.Name) → run c (names l n ∷ s) vs ≡ run c (listed l n ∷ make name_made ∷ more_names l (n + 1) ∷ s) vs
names_first c l n t s vs same h =
    let k : (first c).kind ≡ kinds.Name = ap (λ x. x.kind) (sym same) ∙ kind_is kinds.Name t.kind (not_false _ h) in
    both_take c (names l n) (listed l n) s (make name_made ∷ more_names l (n + 1) ∷ s) vs (by_list l n (first c)) (make name_made ∷ more_names l (n + 1) ∷ []) [] (of_name (first c).index ∷ []) (names_name l n (first c) k) (listed_name l n (first c) k) refl

-- ---- values

values_other : (k : Kind) (t : Token) → same_kind k kinds.Semicolon ≡ false → values_at k t ≡ operand (start_of k t) t 0 (tails top 0 ++ (make value_made ∷ more_values 1 ∷ []))
values_other kinds.Semicolon t h = absurd cc
values_other _ t h = refl

more_values_other : (k : Kind) (n : ℕ) → same_kind k kinds.Comma ≡ false → values_on k n ≡ taken k kinds.Semicolon fine (names grammar.call_dests 0 ∷ []) (of_names [] ∷ [])
more_values_other kinds.Comma n h = absurd cc
more_values_other kinds.Semicolon n h = refl
more_values_other _ n h = refl

module _ (t u : Token) (same : t ≡ u) where
  pub values_close : true ≡ same_kind t.kind kinds.Semicolon → move values u ≡ taken u.kind kinds.Semicolon fine (names grammar.call_dests 0 ∷ []) (of_names [] ∷ [])
  unfolding move
  values_close h = rw (← same, kind_is kinds.Semicolon t.kind (sym h)) refl

  pub values_first : false ≡ same_kind t.kind kinds.Semicolon → move values u ≡ also fine (operand (start_of u.kind u) u 0 (tails top 0 ++ (make value_made ∷ more_values 1 ∷ [])))
  unfolding move
  values_first h = operand_fine values u 0 (tails top 0 ++ (make value_made ∷ more_values 1 ∷ [])) (values_other u.kind u (rw (← same) (sym h)))

  pub values_comma : (n : ℕ) → true ≡ same_kind t.kind kinds.Comma → move (more_values n) u ≡ taken u.kind kinds.Comma fine (value n ∷ make value_made ∷ more_values (n + 1) ∷ []) []
  unfolding move
  values_comma n h = rw (← same, kind_is kinds.Comma t.kind (sym h)) refl

  pub more_values_close : (n : ℕ) → false ≡ same_kind t.kind kinds.Comma → move (more_values n) u ≡ taken u.kind kinds.Semicolon fine (names grammar.call_dests 0 ∷ []) (of_names [] ∷ [])
  unfolding move
  more_values_close n h = rw (← same) (more_values_other t.kind n (sym h))

pub value_moves : (n : ℕ) (t : Token) → move (value n) t ≡ also (by_values n) (operand (start_of t.kind t) t 0 (tails top 0))
unfolding move
value_moves n t = refl

-- ---- items

and_left : (x y : Bool) → x && y ≡ true → x ≡ true
and_left true y h = refl
and_left false y h = absurd cc

and_right : (x y : Bool) → x && y ≡ true → y ≡ true
and_right true y h = h
and_right false y h = absurd cc

and_false : (room : Bool) → room && true ≡ false → room ≡ false
and_false true h = absurd cc
and_false false h = refl

pub items_comma : (many b n : ℕ) (t u : Token) → t ≡ u → item_follows many t.kind ≡ true
    → move (more_items many b n) u ≡ taken u.kind kinds.Comma fine (level top 0 ∷ mark kinds.As ∷ binding (n + many) ∷ make item_made ∷ more_items (many + 1) b n ∷ []) []
unfolding move
items_comma many b n t u same h = rw (← same, kind_is kinds.Comma t.kind (and_right (ltb many most_items) (same_kind t.kind kinds.Comma) h), and_left (ltb many most_items) (same_kind t.kind kinds.Comma) h) refl

pub follows_room : (many : ℕ) (k : Kind) → item_follows many k ≡ true → many < 4
follows_room many k h = ltb-true many 4 (and_left (ltb many most_items) (same_kind k kinds.Comma) h)

items_close : (k : Kind) (many b n : ℕ) → item_follows many k ≡ false → items_on k many b n ≡ cond (same_kind k kinds.LeftBrace) (opens b (n + many)) refuse
items_close kinds.Comma many b n h = rw (and_false (ltb many most_items) h) refl
items_close kinds.LeftBrace many b n h = refl
items_close _ many b n h = refl

items_end_moves : (many b n : ℕ) (t : Token) → item_follows many t.kind ≡ false → move (more_items many b n) t ≡ cond (same_kind t.kind kinds.LeftBrace) (opens b (n + many)) refuse
unfolding move
items_end_moves many b n t h = items_close t.kind many b n h

block_is : (b n : ℕ) (t : Token) → move (block b n) t ≡ cond (same_kind t.kind kinds.LeftBrace) (opens b n) refuse
unfolding move
block_is b n t = refl

pub block_moves : (b n : ℕ) (t : Token) → move (block b n) t ≡ taken t.kind kinds.LeftBrace (by_bodies b) (statements (b + 1) n 0 ∷ mark kinds.RightBrace ∷ []) (of_stmts [] ∷ [])
block_moves b n t = block_is b n t

same_moves : (c : Ahead) (x y : Symbol) (s : List Symbol) (vs : List Item) (same : Bool) (b n : ℕ) → move x (first c) ≡ cond same (opens b n) refuse → move y (first c) ≡ cond same (opens b n) refuse → run c (x ∷ s) vs ≡ run c (y ∷ s) vs
same_moves c x y s vs true b n h j = both_take c x y s s vs (by_bodies b) (statements (b + 1) n 0 ∷ mark kinds.RightBrace ∷ []) (statements (b + 1) n 0 ∷ mark kinds.RightBrace ∷ []) (of_stmts [] ∷ []) h j refl
same_moves c x y s vs false b n h j = both_refuse c x y s s vs h j

pub items_end : (c : Ahead) (many b n : ℕ) (t : Token) (s : List Symbol) (vs : List Item) → t ≡ first c → item_follows many t.kind ≡ false → run c (more_items many b n ∷ s) vs ≡ run c (block b (n + many) ∷ s) vs
items_end c many b n t s vs is h =
    same_moves c (more_items many b n) (block b (n + many)) s vs (same_kind (first c).kind kinds.LeftBrace) b (n + many) (items_end_moves many b n (first c) (rw (← is) h)) (block_is b (n + many) (first c))

-- ---- counts

pub one_more : (n m : ℕ) → n + m + 1 ≡ n + (m + 1)
one_more n m = omega arith

pub both_lengths : (i j n m : ℕ) → n ≡ i → m ≡ j → i + j ≡ n + m
both_lengths i j n m h k = omega arith
