-- Lists of names, of values and of items are read by the machine, up to the first token that exceeds a limit.
use Rattle.std.proofs.Common.{◌≡◌, ℕ, suc, ◌+◌, ◌<◌, Bool, true, false, cond, ltb, List, [], ◌∷◌, ◌++◌, length, refl, sym, ap, subst, ◌∙◌, append_assoc, arith}
use Rattle.std.proofs.lemmas.Bool.{lt-ltb}
use Rattle.std.proofs.lemmas.List.{append-nil}
use Rattle.psac_syntax.specs.declared.program.Expr.{Expr}
use Rattle.psac_syntax.specs.declared.program.ReadItem.{ReadItem}
use Rattle.psac_tokens.specs.declared.token.Kind.{Kind}
use Rattle.psac_tokens.specs.declared.token.Kind.TheVariants as kinds
use Rattle.psac_tokens.specs.declared.token.Token.{Token}
use Rattle.psac_grammar.specs.Marked.{Mark, fine, over, late, Marked, plain, token, by_names, by_values, by_bodies, or_else, begins_with, max_given}
use Rattle.psac_grammar.specs.Grammar as g
use Rattle.psac_grammar.specs.Grammar.{IsExpr, Start, start_of, top, NameList, header_values, header_dests, call_dests, by_list, IsMoreNames, IsNames, IsMoreValues, IsValues, IsMoreItems, IsItems, most_items, item}
use Rattle.psac_grammar.specs.Machine.{Symbol, mark, make, level, tails, value, values, more_values, names, more_names, listed, binding, more_items, statements, one_of, same_kind, Item, of_expr, of_name, of_names, of_values, of_items, of_stmts, Built, made_one, made_two, opening, after_rows, take, refuse, move, operand, also, name_made, value_made, item_made, closing_of, behind_list, begun_behind, nothing_behind, behind, Answer, Counted, counts_over, counts_late, first_of, run_with}
use Rattle.psac_grammar.proofs.Runs.{values_start, takes, by_over, by_late}
use Rattle.psac_grammar.proofs.Through.{through, Follows, compose, goes, nothing, pass_then}
use Rattle.psac_grammar.proofs.Levels.{Quiet, quiet_at, make_passes, is_kind}
use Rattle.psac_grammar.proofs.Expressions.{then_mark, expr_then}

-- something is built
pub makes : {c : Counted} {ms : List Marked} {after : List Token} {s s2 : List Symbol} {vs v2 : List Item} (f : List Item → Built) → (f vs).0 ≡ true → Follows c ms after s (f vs).1 s2 v2 → Follows c ms after (make f ∷ s) vs s2 v2
makes {c} {ms} {after} f ok h = pass_then f (make_passes f (first_of (plain ms ++ after))) ok h

-- ---- names

name_moves : (by : Token → Mark) (t : Token) → t.kind ≡ kinds.Name → move (one_of kinds.Name by (λ t. of_name t.index ∷ [])) t ≡ take (by t) [] (of_name t.index ∷ [])
unfolding move
name_moves by t k = rw k refl

-- a NAME, and what stands behind it
pub then_name : {c : Counted} (by : Token → Mark) {t : Token} {ms : List Marked} {after : List Token} {s s2 : List Symbol} {vs v2 : List Item} → t.kind ≡ kinds.Name → Follows c ms after s (of_name t.index ∷ vs) s2 v2
    → Follows c ((t, by t) ∷ ms) after (one_of kinds.Name by (λ t. of_name t.index ∷ []) ∷ s) vs s2 v2
then_name by {t} is h = goes (name_moves by t is) h

names_begin : (l : NameList) (n : ℕ) (t : Token) → t.kind ≡ kinds.Name → move (names l n) t ≡ take (by_list l n t) (make name_made ∷ more_names l (n + 1) ∷ []) (of_name t.index ∷ [])
unfolding move
names_begin l n t k = rw k refl

names_close : (l : NameList) (n : ℕ) (t : Token) → t.kind ≡ closing_of l → move (names l n) t ≡ take fine (behind_list l n) (begun_behind l)
unfolding move
names_close header_values n t k = rw k refl
names_close header_dests n t k = rw k refl
names_close call_dests n t k = rw k refl

more_names_go : (l : NameList) (n : ℕ) (t : Token) → t.kind ≡ kinds.Comma → move (more_names l n) t ≡ take fine (listed l n ∷ make name_made ∷ more_names l (n + 1) ∷ []) []
unfolding move
more_names_go l n t k = rw k refl

more_names_close : (l : NameList) (n : ℕ) (t : Token) → t.kind ≡ closing_of l → move (more_names l n) t ≡ take fine (behind_list l n) (begun_behind l)
unfolding move
more_names_close header_values n t k = rw k refl
more_names_close header_dests n t k = rw k refl
more_names_close call_dests n t k = rw k refl

module _ (c : Counted) (l : NameList) (z : Token) (closed : z.kind ≡ closing_of l) (ns : List Marked) (after : List Token) (s s2 : List Symbol) (vs v2 : List Item) where
  -- what goes on behind n names, these so far
  abbrev GoesOn : ℕ → List ℕ → Type 0
  GoesOn n so = Follows c ns after (behind_list l n ++ s) (begun_behind l ++ of_names so ∷ vs) s2 v2

  one_more : (n : ℕ) (so : List ℕ) (x : ℕ) (xs : List ℕ) → GoesOn (n + length (x ∷ xs)) (so ++ x ∷ xs) → GoesOn (n + 1 + length xs) ((so ++ x ∷ []) ++ xs)
  one_more n so x xs h =
      let count : n + length (x ∷ xs) ≡ n + 1 + length xs = omega arith in
      let P : ℕ → Type 0 = λ m. GoesOn m ((so ++ x ∷ []) ++ xs) in
      let Q : List ℕ → Type 0 = λ r. GoesOn (n + length (x ∷ xs)) r in
      subst P count (subst Q (sym (append_assoc so (x ∷ []) xs)) h)

  none_more : (n : ℕ) (so : List ℕ) → GoesOn (n + length {A = ℕ} []) (so ++ []) → GoesOn n so
  none_more n so h =
      let count : n + length {A = ℕ} [] ≡ n = omega arith in
      let P : ℕ → Type 0 = λ m. GoesOn m so in
      let Q : List ℕ → Type 0 = λ r. GoesOn (n + length {A = ℕ} []) r in
      subst P count (subst Q (append-nil so) h)

  pub more_names_read : (n : ℕ) (ms : List Marked) (xs so : List ℕ) → IsMoreNames l n ms xs → GoesOn (n + length xs) (so ++ xs) → Follows c (ms ++ token z ∷ ns) after (more_names l n ∷ s) (of_names so ∷ vs) s2 v2
  more_names_read _ _ _ so (g.none l n) h = goes (more_names_close l n z closed) (none_more n so h)
  more_names_read _ _ _ so (g.more l n m t ms xs km kt good) h =
      goes (more_names_go l n m km) (then_name (by_list l n) kt (makes name_made refl (more_names_read (n + 1) ms xs (so ++ t.index ∷ []) good (one_more n so t.index xs h))))

  -- a list of names, the mark that ends it, and what stands behind it
  pub names_read : (n : ℕ) (ms : List Marked) (xs so : List ℕ) → IsNames l n ms xs → GoesOn (n + length xs) (so ++ xs) → Follows c (ms ++ token z ∷ ns) after (names l n ∷ s) (of_names so ∷ vs) s2 v2
  names_read _ _ _ so (g.none l n) h = goes (names_close l n z closed) (none_more n so h)
  names_read _ _ _ so (g.some l n t ms xs kt good) h = goes (names_begin l n t kt) (makes name_made refl (more_names_read (n + 1) ms xs (so ++ t.index ∷ []) good (one_more n so t.index xs h)))

-- ---- values

-- what an expression begins with, and where it takes the machine
pub record First (p : ℕ) (ms : List Marked) : Type 0 where
  pub t : Token
  pub m : Mark
  pub rest : List Marked
  pub is : ms ≡ (t, m) ∷ rest
  pub more : List Symbol → List Symbol
  pub new : List Item
  pub moves : (xs : List Symbol) → operand (start_of t.kind t) t p xs ≡ take m (more xs) new

first_append : (p : ℕ) (ms ns : List Marked) → First p ms → First p (ms ++ ns)
first_append p ms ns x = record { t = x.t; m = x.m; rest = x.rest ++ ns; is = ap (λ r. r ++ ns) x.is; more = x.more; new = x.new; moves = x.moves }

pub expr_first : (n p d : ℕ) (ms : List Marked) (e : Expr) → IsExpr n p d ms e → First p ms
expr_first _ _ _ _ _ (g.whole p t e is) = record { t = t; m = _; rest = _; is = refl; more = λ xs. xs; new = _; moves = λ xs. ap (λ k. operand k t p xs) is }
expr_first _ _ _ _ _ (g.rows p w is) = record { t = w; m = _; rest = _; is = refl; more = λ xs. after_rows p ∷ xs; new = _; moves = λ xs. ap (λ k. operand k w p xs) is }
expr_first _ _ _ _ _ (g.row_count p w a b is ka kb) = record { t = w; m = _; rest = _; is = refl; more = λ xs. after_rows p ∷ xs; new = _; moves = λ xs. ap (λ k. operand k w p xs) is }
expr_first _ _ _ _ _ (g.parenthesized p d a b ms e is inside kb) = record { t = a; m = _; rest = _; is = refl; more = λ xs. level top (p + 1) ∷ mark kinds.RightParen ∷ xs; new = _; moves = λ xs. ap (λ k. operand k a p xs) is }
expr_first _ _ _ _ _ (g.with_one p d w a b f ms e is ka inside kb) = record { t = w; m = _; rest = _; is = refl; more = λ xs. opening p ∷ level top (p + 1) ∷ mark kinds.RightParen ∷ make (made_one f) ∷ xs; new = _; moves = λ xs. ap (λ k. operand k w p xs) is }
expr_first _ _ _ _ _ (g.with_two p d q w a b z f ms ns x y is ka good kb well kc) = record { t = w; m = _; rest = _; is = refl; more = λ xs. opening p ∷ level top (p + 1) ∷ mark kinds.Comma ∷ level top (p + 1) ∷ mark kinds.RightParen ∷ make (made_two f) ∷ xs; new = _; moves = λ xs. ap (λ k. operand k w p xs) is }
expr_first _ _ _ _ _ (g.alone n p d ms e inside) = expr_first n p d ms e inside
expr_first _ _ _ _ _ (g.chain n p d q t o ms ns a b kind left k right) = first_append p ms _ (expr_first (suc n) p d ms a left)
expr_first _ _ _ _ _ (g.compare n p d q t o ms ns a b kind left k right) = first_append p ms _ (expr_first n p d ms a left)

level_moves : (t : Token) (m : Mark) (more : List Symbol) (new : List Item) → operand (start_of t.kind t) t 0 (tails top 0) ≡ take m more new → move (level top 0) t ≡ take m more new
unfolding move
level_moves t m more new h = h

value_moves : (n : ℕ) (t : Token) (m : Mark) (more : List Symbol) (new : List Item) → operand (start_of t.kind t) t 0 (tails top 0) ≡ take m more new → move (value n) t ≡ take (or_else m (by_values n)) more new
unfolding move
value_moves n t m more new h = ap (also (by_values n)) h

-- A value is read as an expression, and its first token may exceed one more limit.
value_read : {c : Counted} (n : ℕ) (ms : List Marked) {after : List Token} {s s2 : List Symbol} {vs v2 : List Item} → First 0 ms → Follows c ms after (level top 0 ∷ s) vs s2 v2 → Follows c (begins_with (by_values n) ms) after (value n ∷ s) vs s2 v2
value_read {c} n ms {after} {s} {s2} {vs} {v2} x h =
    let P : List Marked → Type 0 = λ r. Follows c (begins_with (by_values n) r) after (value n ∷ s) vs s2 v2 in
    let Q : List Marked → Type 0 = λ r. Follows c r after (level top 0 ∷ s) vs s2 v2 in
    subst P (sym x.is) (from x.t x.m x.rest (x.more (tails top 0)) x.new (x.moves (tails top 0)) (subst Q x.is h))
  where
    from : (t : Token) (m : Mark) (rest : List Marked) (more : List Symbol) (new : List Item) → operand (start_of t.kind t) t 0 (tails top 0) ≡ take m more new
        → Follows c ((t, m) ∷ rest) after (level top 0 ∷ s) vs s2 v2 → Follows c ((t, or_else m (by_values n)) ∷ rest) after (value n ∷ s) vs s2 v2
    from t m rest more new is h =
        record { runs = λ l. takes c t ts l (value n) s vs (or_else m (by_values n)) more new (value_moves n t m more new is) ∙ ap (by_late (counts_late c) l.late l.line (t ∷ ts)) (other (ltb n max_given) m same) }
      where
        ts : List Token
        ts = plain rest ++ after

        reads : Mark → Answer
        reads q = run_with c ts (behind t q) (more ++ s) (new ++ vs)

        goes_through : Mark → Answer
        goes_through q = through c (behind t q) rest after (λ k. run_with c after k s2 v2)

        same : by_over (counts_over c) m t ts (reads m) ≡ by_over (counts_over c) m t ts (goes_through m)
        same = sym (takes c t ts nothing_behind (level top 0) s vs m more new (level_moves t m more new is)) ∙ h.runs nothing_behind

        other : (b : Bool) (m : Mark) → by_over (counts_over c) m t ts (reads m) ≡ by_over (counts_over c) m t ts (goes_through m)
            → by_over (counts_over c) (or_else m (cond b fine (over 9))) t ts (reads (or_else m (cond b fine (over 9)))) ≡ by_over (counts_over c) (or_else m (cond b fine (over 9))) t ts (goes_through (or_else m (cond b fine (over 9))))
        other true fine e = e
        other false fine e = ap (by_over (counts_over c) (over 9) t ts) e
        other b (over w) e = e
        other b (late w) e = e

no_semicolon : (b : Bool) (p : ℕ) (t : Token) (m : Mark) (more : List Symbol) (new : List Item) → same_kind t.kind kinds.Semicolon ≡ b → operand (start_of t.kind t) t p [] ≡ take m more new → b ≡ false
no_semicolon false p t m more new is h = refl
no_semicolon true p t m more new is h =
    absurd (let P : Kind → Type 0 = λ k. operand (start_of k t) t p [] ≡ take m more new in let e : refuse ≡ take m more new = subst P (is_kind kinds.Semicolon t is) h in cc)

-- the first value of a list
values_begin : {c : Counted} (ms ns : List Marked) {after : List Token} {s s2 : List Symbol} {vs v2 : List Item} → First 0 ms → Follows c (ms ++ ns) after (level top 0 ∷ make value_made ∷ more_values 1 ∷ s) vs s2 v2 → Follows c (ms ++ ns) after (values ∷ s) vs s2 v2
values_begin {c} ms ns {after} {s} {s2} {vs} {v2} x h =
    let P : List Marked → Type 0 = λ r. Follows c (r ++ ns) after (values ∷ s) vs s2 v2 in
    let Q : List Marked → Type 0 = λ r. Follows c (r ++ ns) after (level top 0 ∷ make value_made ∷ more_values 1 ∷ s) vs s2 v2 in
    let some = no_semicolon (same_kind x.t.kind kinds.Semicolon) 0 x.t x.m (x.more []) x.new refl (x.moves []) in
    let h' : Follows c ((x.t, x.m) ∷ x.rest ++ ns) after (level top 0 ∷ make value_made ∷ more_values 1 ∷ s) vs s2 v2 = subst Q x.is h in
    subst P (sym x.is) (record { runs = λ l. values_start c x.t (plain (x.rest ++ ns) ++ after) l s vs some ∙ h'.runs l })

values_close : (t : Token) → t.kind ≡ kinds.Semicolon → move values t ≡ take fine (names call_dests 0 ∷ []) (of_names [] ∷ [])
unfolding move
values_close t k = rw k refl

more_values_close : (n : ℕ) (t : Token) → t.kind ≡ kinds.Semicolon → move (more_values n) t ≡ take fine (names call_dests 0 ∷ []) (of_names [] ∷ [])
unfolding move
more_values_close n t k = rw k refl

more_values_go : (n : ℕ) (t : Token) → t.kind ≡ kinds.Comma → move (more_values n) t ≡ take fine (value n ∷ make value_made ∷ more_values (n + 1) ∷ []) []
unfolding move
more_values_go n t k = rw k refl

-- what stands behind a value
pub quiet_more : (n : ℕ) (ms : List Marked) (es : List Expr) (z : Token) (ns : List Marked) (after : List Token) → IsMoreValues n ms es → z.kind ≡ kinds.Semicolon → Quiet (plain (ms ++ token z ∷ ns) ++ after)
quiet_more n _ _ z ns after (g.none _) kz = quiet_at kinds.Semicolon kz refl refl
quiet_more n _ _ z ns after (g.more _ d m ms qs e es km good others) kz = quiet_at kinds.Comma km refl refl

module _ (c : Counted) (z : Token) (closed : z.kind ≡ kinds.Semicolon) (ns : List Marked) (after : List Token) (s s2 : List Symbol) (vs v2 : List Item) where
  abbrev ValuesTo : List Expr → Type 0
  ValuesTo es = Follows c ns after (names call_dests 0 ∷ s) (of_names [] ∷ of_values es ∷ vs) s2 v2

  again_values : (so : List Expr) (e : Expr) (es : List Expr) → ValuesTo (so ++ e ∷ es) → ValuesTo ((so ++ e ∷ []) ++ es)
  again_values so e es h = subst ValuesTo (sym (append_assoc so (e ∷ []) es)) h

  pub more_values_read : (n : ℕ) (ms : List Marked) (es so : List Expr) → IsMoreValues n ms es → ValuesTo (so ++ es) → Follows c (ms ++ token z ∷ ns) after (more_values n ∷ s) (of_values so ∷ vs) s2 v2
  more_values_read _ _ _ so (g.none n) h = goes (more_values_close n z closed) (subst ValuesTo (append-nil so) h)
  more_values_read _ _ _ so (g.more n d m ms qs e es km good others) h =
      let behind' : List Marked = qs ++ token z ∷ ns in
      let P : List Marked → Type 0 = λ r. Follows c r after (value n ∷ make value_made ∷ more_values (n + 1) ∷ s) (of_values so ∷ vs) s2 v2 in
      goes (more_values_go n m km)
      (subst P (sym (append_assoc (begins_with (by_values n) ms) qs (token z ∷ ns)))
      (compose (begins_with (by_values n) ms) behind' (make value_made ∷ more_values (n + 1) ∷ s) (of_expr e d ∷ of_values so ∷ vs)
      (value_read n ms (expr_first top 0 d ms e good) (at_end ms behind' d e good (quiet_more (n + 1) qs es z ns after others closed)))
      (makes value_made refl (more_values_read (n + 1) qs es (so ++ e ∷ []) others (again_values so e es h)))))
    where
      at_end : (ms behind' : List Marked) (d : ℕ) (e : Expr) → IsExpr top 0 d ms e → Quiet (plain behind' ++ after) → {s : List Symbol} {vs : List Item} → Follows c ms (plain behind' ++ after) (level top 0 ∷ s) vs s (of_expr e d ∷ vs)
      at_end ms behind' d e good q {s} {vs} =
          let P : List Marked → Type 0 = λ r. Follows c r (plain behind' ++ after) (level top 0 ∷ s) vs s (of_expr e d ∷ vs) in
          subst P (append-nil ms) (expr_then 0 d ms [] e good q nothing)

  pub values_read : (ms : List Marked) (es : List Expr) → IsValues ms es → ValuesTo es → Follows c (ms ++ token z ∷ ns) after (values ∷ s) (of_values [] ∷ vs) s2 v2
  values_read _ _ g.none h = goes (values_close z closed) h
  values_read _ _ (g.some d ms qs e es good others) h =
      let behind' : List Marked = qs ++ token z ∷ ns in
      let P : List Marked → Type 0 = λ r. Follows c r after (values ∷ s) (of_values [] ∷ vs) s2 v2 in
      subst P (sym (append_assoc ms qs (token z ∷ ns)))
      (values_begin ms behind' (expr_first top 0 d ms e good)
      (expr_then 0 d ms behind' e good (quiet_more 1 qs es z ns after others closed) (makes value_made refl (more_values_read 1 qs es (e ∷ []) others h))))

-- ---- items

items_end : (many b n : ℕ) (t : Token) → t.kind ≡ kinds.LeftBrace → move (more_items many b n) t ≡ take (by_bodies b) (statements (b + 1) (n + many) 0 ∷ mark kinds.RightBrace ∷ []) (of_stmts [] ∷ [])
unfolding move
items_end many b n t k = rw k refl

items_more : (many b n : ℕ) (t : Token) → t.kind ≡ kinds.Comma → many < most_items
    → move (more_items many b n) t ≡ take fine (level top 0 ∷ mark kinds.As ∷ binding (n + many) ∷ make item_made ∷ more_items (many + 1) b n ∷ []) []
unfolding move
items_more many b n t k lt = rw (k, lt-ltb many most_items lt) refl

module _ (c : Counted) (b n : ℕ) (o : Token) (opened : o.kind ≡ kinds.LeftBrace) (ns : List Marked) (after : List Token) (s s2 : List Symbol) (vs v2 : List Item) where
  abbrev ItemsTo : ℕ → List ReadItem → Type 0
  ItemsTo m items = Follows c ns after (statements (b + 1) (n + m) 0 ∷ mark kinds.RightBrace ∷ s) (of_stmts [] ∷ of_items items ∷ vs) s2 v2

  again_items : (count : ℕ) (so : List ReadItem) (x : ReadItem) (xs : List ReadItem) → ItemsTo (count + length (x ∷ xs)) (so ++ x ∷ xs) → ItemsTo (count + 1 + length xs) ((so ++ x ∷ []) ++ xs)
  again_items count so x xs h =
      let more : count + length (x ∷ xs) ≡ count + 1 + length xs = omega arith in
      let P : ℕ → Type 0 = λ m. ItemsTo m ((so ++ x ∷ []) ++ xs) in
      let Q : List ReadItem → Type 0 = λ r. ItemsTo (count + length (x ∷ xs)) r in
      subst P more (subst Q (sym (append_assoc so (x ∷ []) xs)) h)

  no_items : (count : ℕ) (so : List ReadItem) → ItemsTo (count + length {A = ReadItem} []) (so ++ []) → ItemsTo count so
  no_items count so h =
      let more : count + length {A = ReadItem} [] ≡ count = omega arith in
      let P : ℕ → Type 0 = λ m. ItemsTo m so in
      let Q : List ReadItem → Type 0 = λ r. ItemsTo (count + length {A = ReadItem} []) r in
      subst P more (subst Q (append-nil so) h)

  -- one item, and what stands behind it
  an_item : (m d : ℕ) (ms qs : List Marked) (e : Expr) (w t : Token) (so : List ReadItem) (s1 : List Symbol) → IsExpr top 0 d ms e → w.kind ≡ kinds.As → t.kind ≡ kinds.Name
      → Follows c qs after s1 (of_items (so ++ item e t.index ∷ []) ∷ vs) s2 v2
      → Follows c (ms ++ (token w ∷ (t, by_names m t) ∷ qs)) after (level top 0 ∷ mark kinds.As ∷ binding m ∷ make item_made ∷ s1) (of_items so ∷ vs) s2 v2
  an_item m d ms qs e w t so s1 good kw kt h =
      expr_then 0 d ms (token w ∷ (t, by_names m t) ∷ qs) e good (quiet_at kinds.As kw refl refl) (then_mark kw refl (then_name (by_names m) kt (makes item_made refl h)))

  pub more_items_read : (count : ℕ) (ms : List Marked) (items so : List ReadItem) → IsMoreItems n count ms items → ItemsTo (count + length items) (so ++ items)
      → Follows c (ms ++ (o, by_bodies b) ∷ ns) after (more_items count b n ∷ s) (of_items so ∷ vs) s2 v2
  more_items_read _ _ _ so (g.none n count) h = goes (items_end count b n o opened) (no_items count so h)
  more_items_read _ _ _ so (g.more n count d m w t ms qs e items lt km good kw kt others) h =
      let behind' : List Marked = qs ++ (o, by_bodies b) ∷ ns in
      let P : List Marked → Type 0 = λ r. Follows c r after (level top 0 ∷ mark kinds.As ∷ binding (n + count) ∷ make item_made ∷ more_items (count + 1) b n ∷ s) (of_items so ∷ vs) s2 v2 in
      goes (items_more count b n m km lt)
      (subst P (sym (append_assoc ms (token w ∷ (t, by_names (n + count) t) ∷ qs) ((o, by_bodies b) ∷ ns)))
      (an_item (n + count) d ms behind' e w t so (more_items (count + 1) b n ∷ s) good kw kt
      (more_items_read (count + 1) qs items (so ++ item e t.index ∷ []) others (again_items count so (item e t.index) items h))))

  pub items_read : (ms : List Marked) (items : List ReadItem) → IsItems n ms items → ItemsTo (length items) items
      → Follows c (ms ++ (o, by_bodies b) ∷ ns) after (level top 0 ∷ mark kinds.As ∷ binding n ∷ make item_made ∷ more_items 1 b n ∷ s) (of_items [] ∷ vs) s2 v2
  items_read _ _ (g.items n d w t ms qs e items good kw kt others) h =
      let behind' : List Marked = qs ++ (o, by_bodies b) ∷ ns in
      let P : List Marked → Type 0 = λ r. Follows c r after (level top 0 ∷ mark kinds.As ∷ binding n ∷ make item_made ∷ more_items 1 b n ∷ s) (of_items [] ∷ vs) s2 v2 in
      let count : length (item e t.index ∷ items) ≡ 1 + length items = omega arith in
      let Q : ℕ → Type 0 = λ m. ItemsTo m (item e t.index ∷ items) in
      subst P (sym (append_assoc ms (token w ∷ (t, by_names n t) ∷ qs) ((o, by_bodies b) ∷ ns)))
      (an_item n d ms behind' e w t [] (more_items 1 b n ∷ s) good kw kt (more_items_read 1 qs items (item e t.index ∷ []) others (subst Q count h)))
