-- What the machine takes for lists, statements or functions is one.
use Rattle.std.proofs.Common.{◌≡◌, ℕ, zero, suc, ◌+◌, ◌<◌, Bool, true, false, cond, ltb, List, [], ◌∷◌, ◌++◌, length, refl, sym, ap, subst, ◌∙◌, append_assoc, arith}
use Rattle.std.proofs.lemmas.Bool.{ltb-true}
use Rattle.std.proofs.lemmas.List.{append-nil}
use Rattle.psac_syntax.specs.declared.program.Expr.{Expr}
use Rattle.psac_syntax.specs.declared.program.Stmt.{Stmt}
use Rattle.psac_syntax.specs.declared.program.Stmt.TheVariants as stmt
use Rattle.psac_syntax.specs.declared.program.ReadItem.{ReadItem}
use Rattle.psac_syntax.specs.declared.program.Func.{Func}
use Rattle.psac_tokens.specs.declared.token.Kind.{Kind}
use Rattle.psac_tokens.specs.declared.token.Kind.TheVariants as kinds
use Rattle.psac_tokens.specs.declared.token.Token.{Token}
use Rattle.psac_grammar.specs.Marked.{Mark, fine, Marked, token, by_name, by_names, by_bodies, by_statements, by_funcs}
use Rattle.psac_grammar.specs.Grammar as g
use Rattle.psac_grammar.specs.Grammar.{IsExpr, start_of, operator_at, top, most_items, item, NameList, header_values, header_dests, call_dests, by_list, IsNames, IsMoreNames, IsValues, IsMoreValues, IsMoreItems, IsStmts, function}
use Rattle.psac_grammar.specs.Machine.{Symbol, one_of, mark, make, level, tail, tails, after_rows, binding, value, values, more_values, names, more_names, more_items, block, statements, functions, same_kind, Item, of_names, of_values, of_items, of_stmts, of_funcs, Move, take, pass, refuse, move, operand, value_made, item_made, closing_of, behind_list, begun_behind, names_at, names_on, values_at, values_on, opens, items_on, statement, function_at}
use Rattle.psac_grammar.proofs.Levels.{is_kind}
use Rattle.psac_grammar.proofs.Derives.{Front, TokenThen, Needed, BlockThen, BehindList, ListThen, ValuesThen, Derives, Takes, any_take, splits, behind}
use Rattle.psac_grammar.proofs.Operands.{operand_take, operand_shift, value_take, rows_take, operators_take}

token_take : (same : Bool) (k : Kind) (by : Token → Mark) (new : Token → List Item) (t : Token) (vs : List Item) (ts : List Token) (s : List Symbol) (ws : List Item) → same_kind t.kind k ≡ same
    → Takes (TokenThen k (t ∷ ts) (λ u rest. Derives s (new u ++ vs) rest ws)) vs ts s ws (cond same (take (by t) [] (new t)) refuse)
token_take true k by new t vs ts s ws is = λ d. record { t = t; rest = ts; is = is_kind k t is; split = refl; after = d }
token_take false k by new t vs ts s ws is = tt

-- ---- names

module _ (l : NameList) (vs : List Item) (s : List Symbol) (ws : List Item) where
  abbrev After : ℕ → List ℕ → List Token → Type 0
  After n so ts = BehindList l n (of_names so ∷ vs) ts (λ us rest. Derives s us rest ws)

  same_after : (n m : ℕ) (so xs : List ℕ) (ts : List Token) → n ≡ m → so ≡ xs → After n so ts → After m xs ts
  same_after n m so xs ts h j a =
      let P : ℕ → Type 0 = λ i. After i xs ts in
      let Q : List ℕ → Type 0 = λ r. After n r ts in
      subst P h (subst Q j a)

  moved : (k : Kind) (n m : ℕ) (so xs : List ℕ) (ts : List Token) → n ≡ m → so ≡ xs → TokenThen k ts (λ z rest. After n so rest) → TokenThen k ts (λ z rest. After m xs rest)
  moved k n m so xs ts h j y = record { t = y.t; rest = y.rest; is = y.is; split = y.split; after = same_after n m so xs y.rest h j y.after }

  behind_is : (k : NameList) (n : ℕ) (so : List ℕ) (ts : List Token) → Derives (behind_list k n ++ s) (begun_behind k ++ of_names so ∷ vs) ts ws → BehindList k n (of_names so ∷ vs) ts (λ us rest. Derives s us rest ws)
  behind_is header_values n so ts d = d
  behind_is header_dests n so ts d = d
  behind_is call_dests n so ts d = d

  -- the list ends here
  ends : (G : List Marked → List ℕ → Type 0) (n : ℕ) (so : List ℕ) (t : Token) (ts : List Token) → G [] [] → t.kind ≡ closing_of l → Derives (behind_list l n ++ s) (begun_behind l ++ of_names so ∷ vs) ts ws
      → ListThen G l n so vs (t ∷ ts) (λ us rest. Derives s us rest ws)
  ends G n so t ts none is d =
      let count : n ≡ n + length {A = ℕ} [] = omega arith in
      record { ms = []; x = []; rest = t ∷ ts; good = none; split = refl; after = record { t = t; rest = ts; is = is; split = refl; after = same_after n (n + length {A = ℕ} []) so (so ++ []) ts count (sym (append-nil so)) (behind_is l n so ts d) } }

  closes_take : (same : Bool) (G : List Marked → List ℕ → Type 0) (n : ℕ) (so : List ℕ) (t : Token) (ts : List Token) → G [] [] → same_kind t.kind (closing_of l) ≡ same
      → Takes (ListThen G l n so vs (t ∷ ts) (λ us rest. Derives s us rest ws)) (of_names so ∷ vs) ts s ws (cond same (take fine (behind_list l n) (begun_behind l)) refuse)
  closes_take true G n so t ts none is = λ d. ends G n so t ts none (is_kind (closing_of l) t is) d
  closes_take false G n so t ts none is = tt

  -- the further names behind one that was read
  further : (n : ℕ) (so : List ℕ) (x : ℕ) (xs : List ℕ) (ts : List Token) → TokenThen (closing_of l) ts (λ z rest. After (n + 1 + length xs) ((so ++ x ∷ []) ++ xs) rest) → TokenThen (closing_of l) ts (λ z rest. After (n + length (x ∷ xs)) (so ++ x ∷ xs) rest)
  further n so x xs ts y =
      let count : n + 1 + length xs ≡ n + length (x ∷ xs) = omega arith in
      moved (closing_of l) (n + 1 + length xs) (n + length (x ∷ xs)) ((so ++ x ∷ []) ++ xs) (so ++ x ∷ xs) ts count (append_assoc so (x ∷ []) xs) y

  names_take : (k : Kind) (n : ℕ) (so : List ℕ) (t : Token) (ts : List Token) → t.kind ≡ k → Takes (ListThen (IsNames l n) l n so vs (t ∷ ts) (λ us rest. Derives s us rest ws)) (of_names so ∷ vs) ts s ws (names_at k t l n)
  names_take kinds.Name n so t ts is = λ y.
      record { ms = (t, by_list l n t) ∷ y.ms; x = t.index ∷ y.x; rest = y.rest; good = g.some l n t y.ms y.x is y.good; split = behind y.split; after = further n so t.index y.x y.rest y.after }
  names_take k n so t ts is = closes_take (same_kind k (closing_of l)) (IsNames l n) n so t ts (g.none l n) (ap (λ i. same_kind i (closing_of l)) is)

  more_names_take : (k : Kind) (n : ℕ) (so : List ℕ) (t : Token) (ts : List Token) → t.kind ≡ k → Takes (ListThen (IsMoreNames l n) l n so vs (t ∷ ts) (λ us rest. Derives s us rest ws)) (of_names so ∷ vs) ts s ws (names_on k l n)
  more_names_take kinds.Comma n so t ts is = λ x.
      let y = x.after in
      record {
        ms = token t ∷ (x.t, by_list l n x.t) ∷ y.ms;
        x = x.t.index ∷ y.x;
        rest = y.rest;
        good = g.more l n t x.t y.ms y.x is x.is y.good;
        split = behind (x.split ∙ behind y.split);
        after = further n so x.t.index y.x y.rest y.after;
      }
  more_names_take k n so t ts is = closes_take (same_kind k (closing_of l)) (IsMoreNames l n) n so t ts (g.none l n) (ap (λ i. same_kind i (closing_of l)) is)

all_names_take : (l : NameList) (n : ℕ) (t : Token) (vs : List Item) (ts : List Token) (s : List Symbol) (ws : List Item) → Takes (Derives (names l n ∷ s) vs (t ∷ ts) ws) vs ts s ws (names_at t.kind t l n)
all_names_take l n t (of_names so ∷ vs) ts s ws = names_take l vs s ws t.kind n so t ts refl
all_names_take l n t _ ts s ws = any_take _ ts s ws (names_at t.kind t l n)

all_more_names_take : (l : NameList) (n : ℕ) (t : Token) (vs : List Item) (ts : List Token) (s : List Symbol) (ws : List Item) → Takes (Derives (more_names l n ∷ s) vs (t ∷ ts) ws) vs ts s ws (names_on t.kind l n)
all_more_names_take l n t (of_names so ∷ vs) ts s ws = more_names_take l vs s ws t.kind n so t ts refl
all_more_names_take l n t _ ts s ws = any_take _ ts s ws (names_on t.kind l n)

-- ---- values

takes_to : (R S : Type 0) (vs : List Item) (ts : List Token) (s : List Symbol) (ws : List Item) (m : Move) → (R → S) → Takes R vs ts s ws m → Takes S vs ts s ws m
takes_to R S vs ts s ws (take m more new) f h = λ d. f (h d)
takes_to R S vs ts s ws (pass p) f h = tt
takes_to R S vs ts s ws refuse f h = tt

module _ (vs : List Item) (s : List Symbol) (ws : List Item) where
  abbrev Dests : List Expr → List Token → Type 0
  Dests es ts = TokenThen kinds.Semicolon ts (λ z rest. Front (IsNames call_dests 0) rest (λ xs rest. TokenThen kinds.RightParen rest (λ q rest. Derives s (of_names xs ∷ of_values es ∷ vs) rest ws)))

  same_dests : (es so : List Expr) (ts : List Token) → es ≡ so → Dests es ts → Dests so ts
  same_dests es so ts h d = let P : List Expr → Type 0 = λ r. Dests r ts in subst P h d

  values_end : (G : List Marked → List Expr → Type 0) (so : List Expr) (t : Token) (ts : List Token) → G [] [] → t.kind ≡ kinds.Semicolon → Derives (names call_dests 0 ∷ s) (of_names [] ∷ of_values so ∷ vs) ts ws
      → ValuesThen G so vs (t ∷ ts) (λ us rest. Derives s us rest ws)
  values_end G so t ts none is d =
      record { ms = []; x = []; rest = t ∷ ts; good = none; split = refl; after = same_dests so (so ++ []) (t ∷ ts) (sym (append-nil so)) (record { t = t; rest = ts; is = is; split = refl; after = d }) }

  values_goes : (so : List Expr) (ts : List Token) → Derives (level top 0 ∷ make value_made ∷ more_values 1 ∷ s) (of_values so ∷ vs) ts ws → ValuesThen IsValues so vs ts (λ us rest. Derives s us rest ws)
  values_goes so ts x =
      let y = x.after in
      record {
        ms = x.ms ++ y.ms;
        x = x.x.0 ∷ y.x;
        rest = y.rest;
        good = g.some x.x.1 x.ms y.ms x.x.0 y.x x.good y.good;
        split = splits x.ms y.ms y.rest x.split y.split;
        after = same_dests ((so ++ x.x.0 ∷ []) ++ y.x) (so ++ x.x.0 ∷ y.x) y.rest (append_assoc so (x.x.0 ∷ []) y.x) y.after;
      }

  values_take : (k : Kind) (so : List Expr) (t : Token) (ts : List Token) → t.kind ≡ k → Takes (ValuesThen IsValues so vs (t ∷ ts) (λ us rest. Derives s us rest ws)) (of_values so ∷ vs) ts s ws (values_at k t)
  values_take kinds.Semicolon so t ts is = λ d. values_end IsValues so t ts g.none is d
  values_take k so t ts is =
      let more : List Symbol = make value_made ∷ more_values 1 ∷ [] in
      let R : Type 0 = Derives (level top 0 ∷ more ++ s) (of_values so ∷ vs) (t ∷ ts) ws in
      let S : Type 0 = ValuesThen IsValues so vs (t ∷ ts) (λ us rest. Derives s us rest ws) in
      operand_shift S (start_of k t) 0 t (tails top 0) more (of_values so ∷ vs) ts s ws
      (takes_to R S (of_values so ∷ vs) ts (more ++ s) ws (operand (start_of k t) t 0 (tails top 0)) (values_goes so (t ∷ ts)) (operand_take (start_of k t) top 0 t (of_values so ∷ vs) ts (more ++ s) ws (ap (λ i. start_of i t) is)))

  more_values_take : (k : Kind) (c : ℕ) (so : List Expr) (t : Token) (ts : List Token) → t.kind ≡ k → Takes (ValuesThen (IsMoreValues c) so vs (t ∷ ts) (λ us rest. Derives s us rest ws)) (of_values so ∷ vs) ts s ws (values_on k c)
  more_values_take kinds.Semicolon c so t ts is = λ d. values_end (IsMoreValues c) so t ts (g.none c) is d
  more_values_take kinds.Comma c so t ts is = λ x.
      let y = x.after in
      let v = x.good in
      let P : List Marked → Type 0 = λ ms. IsMoreValues c (token t ∷ ms ++ y.ms) (x.x.0 ∷ y.x) in
      record {
        ms = token t ∷ x.ms ++ y.ms;
        x = x.x.0 ∷ y.x;
        rest = y.rest;
        good = subst P (sym v.is) (g.more c x.x.1 t v.ns y.ms x.x.0 y.x is v.good y.good);
        split = behind (splits x.ms y.ms y.rest x.split y.split);
        after = same_dests ((so ++ x.x.0 ∷ []) ++ y.x) (so ++ x.x.0 ∷ y.x) y.rest (append_assoc so (x.x.0 ∷ []) y.x) y.after;
      }
  more_values_take _ c so t ts is = tt

all_values_take : (t : Token) (vs : List Item) (ts : List Token) (s : List Symbol) (ws : List Item) → Takes (Derives (values ∷ s) vs (t ∷ ts) ws) vs ts s ws (values_at t.kind t)
all_values_take t (of_values so ∷ vs) ts s ws = values_take vs s ws t.kind so t ts refl
all_values_take t _ ts s ws = any_take _ ts s ws (values_at t.kind t)

all_more_values_take : (c : ℕ) (t : Token) (vs : List Item) (ts : List Token) (s : List Symbol) (ws : List Item) → Takes (Derives (more_values c ∷ s) vs (t ∷ ts) ws) vs ts s ws (values_on t.kind c)
all_more_values_take c t (of_values so ∷ vs) ts s ws = more_values_take vs s ws t.kind c so t ts refl
all_more_values_take c t _ ts s ws = any_take _ ts s ws (values_on t.kind c)

-- ---- bodies

block_goes : (b n : ℕ) (t : Token) (vs : List Item) (ts : List Token) (s : List Symbol) (ws : List Item) → t.kind ≡ kinds.LeftBrace → Derives (statements (b + 1) n 0 ∷ mark kinds.RightBrace ∷ s) (of_stmts [] ∷ vs) ts ws
    → BlockThen b n (t ∷ ts) (λ ss rest. Derives s (of_stmts ss ∷ vs) rest ws)
block_goes b n t vs ts s ws is x = record { t = t; rest = ts; is = is; split = refl; after = x }

block_take : (same : Bool) (b n : ℕ) (t : Token) (vs : List Item) (ts : List Token) (s : List Symbol) (ws : List Item) → same_kind t.kind kinds.LeftBrace ≡ same
    → Takes (BlockThen b n (t ∷ ts) (λ ss rest. Derives s (of_stmts ss ∷ vs) rest ws)) vs ts s ws (cond same (opens b n) refuse)
block_take true b n t vs ts s ws is = λ x. block_goes b n t vs ts s ws (is_kind kinds.LeftBrace t is) x
block_take false b n t vs ts s ws is = tt

-- ---- items

module _ (b n : ℕ) (vs : List Item) (s : List Symbol) (ws : List Item) where
  abbrev Inside : ℕ → List ReadItem → List Token → Type 0
  Inside m items ts = BlockThen b (n + m) ts (λ ss rest. Derives s (of_stmts ss ∷ of_items items ∷ vs) rest ws)

  same_inside : (m q : ℕ) (so items : List ReadItem) (ts : List Token) → m ≡ q → so ≡ items → Inside m so ts → Inside q items ts
  same_inside m q so items ts h j a =
      let P : ℕ → Type 0 = λ i. Inside i items ts in
      let Q : List ReadItem → Type 0 = λ r. Inside m r ts in
      subst P h (subst Q j a)

  abbrev MoreItems : ℕ → List ReadItem → List Token → Type 0
  MoreItems many so ts = Front (IsMoreItems n many) ts (λ items rest. Inside (many + length items) (so ++ items) rest)

  items_goes : (many : ℕ) (t : Token) (so : List ReadItem) (ts : List Token) → t.kind ≡ kinds.Comma → many < most_items
      → Derives (level top 0 ∷ mark kinds.As ∷ binding (n + many) ∷ make item_made ∷ more_items (many + 1) b n ∷ s) (of_items so ∷ vs) ts ws → MoreItems many so (t ∷ ts)
  items_goes many t so ts is lt e =
      let w = e.after in
      let x = w.after in
      let y = x.after in
      let new = item e.x.0 x.t.index in
      let count : many + 1 + length y.x ≡ many + length (new ∷ y.x) = omega arith in
      record {
        ms = token t ∷ e.ms ++ (token w.t ∷ (x.t, by_names (n + many) x.t) ∷ y.ms);
        x = new ∷ y.x;
        rest = y.rest;
        good = g.more n many e.x.1 t w.t x.t e.ms y.ms e.x.0 y.x lt is e.good w.is x.is y.good;
        split = behind (splits e.ms (token w.t ∷ (x.t, by_names (n + many) x.t) ∷ y.ms) y.rest e.split (w.split ∙ behind (x.split ∙ behind y.split)));
        after = same_inside (many + 1 + length y.x) (many + length (new ∷ y.x)) ((so ++ new ∷ []) ++ y.x) (so ++ new ∷ y.x) y.rest count (append_assoc so (new ∷ []) y.x) y.after;
      }

  items_take : (k : Kind) (many : ℕ) (t : Token) (so : List ReadItem) (ts : List Token) → t.kind ≡ k → Takes (MoreItems many so (t ∷ ts)) (of_items so ∷ vs) ts s ws (items_on k many b n)
  items_take kinds.Comma many t so ts is = by (ltb many most_items) refl
    where
      by : (room : Bool) → ltb many most_items ≡ room → Takes (MoreItems many so (t ∷ ts)) (of_items so ∷ vs) ts s ws
          (cond room (take fine (level top 0 ∷ mark kinds.As ∷ binding (n + many) ∷ make item_made ∷ more_items (many + 1) b n ∷ []) []) refuse)
      by true h = λ d. items_goes many t so ts is (ltb-true many most_items h) d
      by false h = tt
  items_take kinds.LeftBrace many t so ts is = λ d.
      let count : many ≡ many + length {A = ReadItem} [] = omega arith in
      record { ms = []; x = []; rest = t ∷ ts; good = g.none n many; split = refl; after = same_inside many (many + length {A = ReadItem} []) so (so ++ []) (t ∷ ts) count (sym (append-nil so)) (block_goes b (n + many) t (of_items so ∷ vs) ts s ws is d) }
  items_take _ many t so ts is = tt

all_items_take : (many b n : ℕ) (t : Token) (vs : List Item) (ts : List Token) (s : List Symbol) (ws : List Item) → Takes (Derives (more_items many b n ∷ s) vs (t ∷ ts) ws) vs ts s ws (items_on t.kind many b n)
all_items_take many b n t (of_items so ∷ vs) ts s ws = items_take b n vs s ws t.kind many t so ts refl
all_items_take many b n t _ ts s ws = any_take _ ts s ws (items_on t.kind many b n)

-- ---- statements

-- a statement that was built, and those behind it
more_built : (so : List Stmt) (made : Stmt) (ss : List Stmt) (vs : List Item) (rest : List Token) (s : List Symbol) (ws : List Item) → Derives s (of_stmts ((so ++ made ∷ []) ++ ss) ∷ vs) rest ws → Derives s (of_stmts (so ++ made ∷ ss) ∷ vs) rest ws
more_built so made ss vs rest s ws h = let P : List Stmt → Type 0 = λ all. Derives s (of_stmts all ∷ vs) rest ws in subst P (append_assoc so (made ∷ []) ss) h

statement_take : (k : Kind) (b n c : ℕ) (t : Token) (so : List Stmt) (vs : List Item) (ts : List Token) (s : List Symbol) (ws : List Item) → t.kind ≡ k
    → Takes (Front (IsStmts b n c) (t ∷ ts) (λ ss rest. Derives s (of_stmts (so ++ ss) ∷ vs) rest ws)) (of_stmts so ∷ vs) ts s ws (statement k t b n c)
statement_take kinds.Let b n c t so vs ts s ws is = λ x.
    let a = x.after in
    let e = a.after in
    let y = e.after in
    let z = y.after in
    let made = stmt.Let t.line x.t.index e.x.0 in
    record {
      ms = (t, by_statements c) ∷ (x.t, by_names n x.t) ∷ token a.t ∷ e.ms ++ token y.t ∷ z.ms;
      x = made ∷ z.x;
      rest = z.rest;
      good = g.bind b n c e.x.1 t x.t a.t y.t e.ms z.ms e.x.0 z.x is x.is a.is e.good y.is z.good;
      split = behind (x.split ∙ behind (a.split ∙ behind (splits e.ms (token y.t ∷ z.ms) z.rest e.split (y.split ∙ behind z.split))));
      after = more_built so made z.x vs z.rest s ws z.after;
    }
statement_take kinds.Write b n c t so vs ts s ws is = λ x.
    let a = x.after in
    let e = a.after in
    let y = e.after in
    let z = y.after in
    let made = stmt.Write t.line x.t.index e.x.0 in
    record {
      ms = (t, by_statements c) ∷ (x.t, by_name x.t) ∷ token a.t ∷ e.ms ++ token y.t ∷ z.ms;
      x = made ∷ z.x;
      rest = z.rest;
      good = g.write b n c e.x.1 t x.t a.t y.t e.ms z.ms e.x.0 z.x is x.is a.is e.good y.is z.good;
      split = behind (x.split ∙ behind (a.split ∙ behind (splits e.ms (token y.t ∷ z.ms) z.rest e.split (y.split ∙ behind z.split))));
      after = more_built so made z.x vs z.rest s ws z.after;
    }
statement_take kinds.New b n c t so vs ts s ws is = λ x.
    let y = x.after in
    let z = y.after in
    let made = stmt.New t.line x.t.index in
    record {
      ms = (t, by_statements c) ∷ (x.t, by_names n x.t) ∷ token y.t ∷ z.ms;
      x = made ∷ z.x;
      rest = z.rest;
      good = g.make b n c t x.t y.t z.ms z.x is x.is y.is z.good;
      split = behind (x.split ∙ behind (y.split ∙ behind z.split));
      after = more_built so made z.x vs z.rest s ws z.after;
    }
statement_take kinds.Read b n c t so vs ts s ws is = λ e.
    let w = e.after in
    let x = w.after in
    let y = x.after in
    let o = y.after in
    let q = o.after in
    let r = q.after in
    let z = r.after in
    let items : List ReadItem = item e.x.0 x.t.index ∷ y.x in
    let made = stmt.Read t.line t.index items q.x in
    let first : List Marked = token w.t ∷ (x.t, by_names n x.t) ∷ y.ms in
    let body : List Marked = (o.t, by_bodies b) ∷ q.ms ++ token r.t ∷ z.ms in
    let count : n + (1 + length y.x) ≡ n + length items = omega arith in
    let P : ℕ → Type 0 = λ m. IsStmts (b + 1) m 0 q.ms q.x in
    record {
      ms = (t, by_statements c) ∷ (e.ms ++ first) ++ body;
      x = made ∷ z.x;
      rest = z.rest;
      good = g.read b n c t o.t r.t (e.ms ++ first) q.ms z.ms items q.x z.x is (g.items n e.x.1 w.t x.t e.ms y.ms e.x.0 y.x e.good w.is x.is y.good) o.is (subst P count q.good) r.is z.good;
      split = behind (splits (e.ms ++ first) body z.rest (splits e.ms first y.rest e.split (w.split ∙ behind (x.split ∙ behind y.split))) (o.split ∙ behind (splits q.ms (token r.t ∷ z.ms) z.rest q.split (r.split ∙ behind z.split))));
      after = more_built so made z.x vs z.rest s ws z.after;
    }
statement_take kinds.If b n c t so vs ts s ws is = λ e.
    let l = e.after in
    let p = l.after in
    let r = p.after in
    let x = r.after in
    let o = x.after in
    let q = o.after in
    let u = q.after in
    let z = u.after in
    let made = stmt.If t.line e.x.0 p.x q.x in
    let second : List Marked = (o.t, by_bodies b) ∷ q.ms ++ token u.t ∷ z.ms in
    let first : List Marked = (l.t, by_bodies b) ∷ p.ms ++ (token r.t ∷ token x.t ∷ second) in
    record {
      ms = (t, by_statements c) ∷ e.ms ++ first;
      x = made ∷ z.x;
      rest = z.rest;
      good = g.choose b n c e.x.1 t l.t r.t x.t o.t u.t e.ms p.ms q.ms z.ms e.x.0 p.x q.x z.x is e.good l.is p.good r.is x.is o.is q.good u.is z.good;
      split = behind (splits e.ms first z.rest e.split (l.split ∙ behind (splits p.ms (token r.t ∷ token x.t ∷ second) z.rest p.split (r.split ∙ behind (x.split ∙ behind (o.split ∙ behind (splits q.ms (token u.t ∷ z.ms) z.rest q.split (u.split ∙ behind z.split))))))));
      after = more_built so made z.x vs z.rest s ws z.after;
    }
statement_take kinds.Par b n c t so vs ts s ws is = λ l.
    let p = l.after in
    let r = p.after in
    let o = r.after in
    let q = o.after in
    let u = q.after in
    let z = u.after in
    let made = stmt.Par t.line p.x q.x in
    let second : List Marked = (o.t, by_bodies b) ∷ q.ms ++ token u.t ∷ z.ms in
    record {
      ms = (t, by_statements c) ∷ (l.t, by_bodies b) ∷ p.ms ++ (token r.t ∷ second);
      x = made ∷ z.x;
      rest = z.rest;
      good = g.both b n c t l.t r.t o.t u.t p.ms q.ms z.ms p.x q.x z.x is l.is p.good r.is o.is q.good u.is z.good;
      split = behind (l.split ∙ behind (splits p.ms (token r.t ∷ second) z.rest p.split (r.split ∙ behind (o.split ∙ behind (splits q.ms (token u.t ∷ z.ms) z.rest q.split (u.split ∙ behind z.split))))));
      after = more_built so made z.x vs z.rest s ws z.after;
    }
statement_take kinds.Call b n c t so vs ts s ws is = λ x.
    let a = x.after in
    let v = a.after in
    let y = v.after in
    let d = y.after in
    let q = d.after in
    let e = q.after in
    let z = e.after in
    let made = stmt.Call t.line x.t.index v.x d.x in
    let last' : List Marked = token q.t ∷ token e.t ∷ z.ms in
    record {
      ms = (t, by_statements c) ∷ (x.t, by_name x.t) ∷ token a.t ∷ v.ms ++ (token y.t ∷ d.ms ++ last');
      x = made ∷ z.x;
      rest = z.rest;
      good = g.call b n c t x.t a.t y.t q.t e.t v.ms d.ms z.ms v.x d.x z.x is x.is a.is v.good y.is d.good q.is e.is z.good;
      split = behind (x.split ∙ behind (a.split ∙ behind (splits v.ms (token y.t ∷ d.ms ++ last') z.rest v.split (y.split ∙ behind (splits d.ms last' z.rest d.split (q.split ∙ behind (e.split ∙ behind z.split)))))));
      after = more_built so made z.x vs z.rest s ws z.after;
    }
statement_take _ b n c t so vs ts s ws is = tt

statements_take : (b n c : ℕ) (t : Token) (vs : List Item) (ts : List Token) (s : List Symbol) (ws : List Item) → Takes (Derives (statements b n c ∷ s) vs (t ∷ ts) ws) vs ts s ws (statement t.kind t b n c)
statements_take b n c t (of_stmts so ∷ vs) ts s ws = statement_take t.kind b n c t so vs ts s ws refl
statements_take b n c t _ ts s ws = any_take _ ts s ws (statement t.kind t b n c)

-- ---- functions

one_needed : (c : ℕ) (f : Func) (fs : List Func) → Needed c (f ∷ fs)
one_needed zero f fs = tt
one_needed (suc c) f fs = tt

function_take : (k : Kind) (c : ℕ) (t : Token) (so : List Func) (vs : List Item) (ts : List Token) (s : List Symbol) (ws : List Item) → t.kind ≡ k → Takes (Derives (functions c ∷ s) (of_funcs so ∷ vs) (t ∷ ts) ws) (of_funcs so ∷ vs) ts s ws (function_at k t c)
function_take kinds.Func c t so vs ts s ws is = λ x.
    let a = x.after in
    let v = a.after in
    let y = v.after in
    let d = y.after in
    let u = d.after in
    let o = u.after in
    let q = o.after in
    let r = q.after in
    let z = r.after in
    let made = function t x.t v.x d.x q.x in
    let body : List Marked = token u.t ∷ (o.t, by_bodies 0) ∷ q.ms ++ token r.t ∷ z.ms in
    let zero_more : 0 + length v.x ≡ length v.x = omega arith in
    let P : ℕ → Type 0 = λ m. IsNames header_dests m d.ms d.x in
    let Q : ℕ → Type 0 = λ m. IsStmts 1 (m + length d.x) 0 q.ms q.x in
    let S : List Func → Type 0 = λ fs. Derives s (of_funcs fs ∷ vs) z.rest ws in
    record {
      ms = (t, by_funcs c) ∷ (x.t, by_name x.t) ∷ token a.t ∷ v.ms ++ (token y.t ∷ d.ms ++ body);
      x = made ∷ z.x;
      rest = z.rest;
      good = (g.func c t x.t a.t y.t u.t o.t r.t v.ms d.ms q.ms z.ms v.x d.x q.x z.x is x.is a.is v.good y.is (subst P zero_more d.good) u.is o.is (subst Q zero_more q.good) r.is z.good.0, one_needed c made z.x);
      split = behind (x.split ∙ behind (a.split ∙ behind (splits v.ms (token y.t ∷ d.ms ++ body) z.rest v.split (y.split ∙ behind (splits d.ms body z.rest d.split (u.split ∙ behind (o.split ∙ behind (splits q.ms (token r.t ∷ z.ms) z.rest q.split (r.split ∙ behind z.split)))))))));
      after = subst S (append_assoc so (made ∷ []) z.x) z.after;
    }
function_take _ zero t so vs ts s ws is = tt
function_take _ (suc c) t so vs ts s ws is = tt

functions_take : (c : ℕ) (t : Token) (vs : List Item) (ts : List Token) (s : List Symbol) (ws : List Item) → Takes (Derives (functions c ∷ s) vs (t ∷ ts) ws) vs ts s ws (function_at t.kind t c)
functions_take c t (of_funcs so ∷ vs) ts s ws = function_take t.kind c t so vs ts s ws refl
functions_take c t _ ts s ws = any_take _ ts s ws (function_at t.kind t c)

pub taken : (x : Symbol) (t : Token) (vs : List Item) (ts : List Token) (s : List Symbol) (ws : List Item) → Takes (Derives (x ∷ s) vs (t ∷ ts) ws) vs ts s ws (move x t)
unfolding move
taken (one_of kind by new) t vs ts s ws = token_take (same_kind t.kind kind) kind by new t vs ts s ws refl
taken (make f) t vs ts s ws = tt
taken (level n p) t vs ts s ws = operand_take (start_of t.kind t) n p t vs ts s ws refl
taken (tail n p) t vs ts s ws = operators_take (operator_at n t.kind) n p t vs ts s ws refl
taken (after_rows p) t vs ts s ws = rows_take t.kind p t vs ts s ws refl
taken (value c) t vs ts s ws = value_take c (start_of t.kind t) t vs ts s ws (operand_take (start_of t.kind t) top 0 t vs ts s ws refl)
taken values t vs ts s ws = all_values_take t vs ts s ws
taken (more_values c) t vs ts s ws = all_more_values_take c t vs ts s ws
taken (names l n) t vs ts s ws = all_names_take l n t vs ts s ws
taken (more_names l n) t vs ts s ws = all_more_names_take l n t vs ts s ws
taken (more_items many b n) t vs ts s ws = all_items_take many b n t vs ts s ws
taken (block b n) t vs ts s ws = block_take (same_kind t.kind kinds.LeftBrace) b n t vs ts s ws refl
taken (statements b n c) t vs ts s ws = statements_take b n c t vs ts s ws
taken (functions c) t vs ts s ws = functions_take c t vs ts s ws
