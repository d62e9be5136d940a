-- Lists of names, of values and of reads are spelled and read back as themselves.
use Rattle.std.proofs.Common.{◌≡◌, ℕ, ◌+◌, ◌<◌, false, List, [], ◌∷◌, ◌++◌, append_assoc, map, refl, sym, ap, subst, ◌∙◌, arith}
use Rattle.std.specs.Prelude.{codes}
use Rattle.psac_syntax.specs.declared.program.Expr.{Expr}
use Rattle.psac_syntax.specs.declared.program.ReadItem.{ReadItem}
use Rattle.psac_syntax.specs.declared.program.Program.{Program}
use Rattle.psac_tokens.specs.declared.token.Kind.TheVariants as k
use Rattle.psac_tokens.specs.declared.token.Token.{Token}
use Rattle.psac_tokens.specs.Lex.{reserved}
use Rattle.psac_grammar.specs.Marked.{Mark, fine, Marked, token, AllFine, by_names, by_values, below, begins_with, max_names, max_given}
use Rattle.psac_grammar.specs.Grammar.{IsExpr, top, NameList, header_values, header_dests, call_dests, by_list, IsMoreNames, IsNames, IsMoreValues, IsValues, IsMoreItems, IsItems, item, most_items}
use Rattle.psac_spelling.specs.Canonical.{expr_text, name_text, item_text, behind, joined}
use Rattle.psac_spelling.proofs.Pieces as pieces
use Rattle.psac_spelling.proofs.Pieces.{Piece, name, Bare, Spelled, space, piece}
use Rattle.psac_spelling.proofs.Words.{Break, fixed, word_fronts}
use Rattle.psac_spelling.proofs.Found.{IsName}
use Rattle.psac_spelling.proofs.Replays.{carried, AreTokens}
use Rattle.psac_spelling.proofs.Tokens.{loads, loads-append, cargo, cargo-append, cargo_begins, AllGood, good_parts, cut, head, no_more, fines, fines-append, fine_parts, begin_fine, begin_with_fine, length_fine, length_is}
use Rattle.psac_spelling.proofs.Prints.{prints, comma, loosest, expr_some, carries_none, none_before}

-- A part of a text has pieces that carry what its tokens did, spell it, and are such a part again.
pub record Part (p : Program) (text : List ℕ) (cs : List Piece) (D : List Token → Type 0) : Type 0 where
  pub qs : List Piece
  pub carries : loads qs ≡ cs
  pub spelled : (z : List ℕ) (rest : List Piece) → Break z → Spelled p z rest → Spelled p (text ++ z) (qs ++ rest)
  pub derives : (ts : List Token) → AreTokens qs ts → D ts

pub expr_part : (p : Program) (n d : ℕ) (ms : List Marked) (e : Expr) → IsExpr n 0 d ms e → AllFine ms → AllGood p (cargo ms) → Part p (expr_text p e) (cargo ms) (λ ts. IsExpr top 0 d (fines ts) e)
expr_part p n d ms e x ok good =
    let y = prints p n 0 d ms e x ok good in
    record { qs = y.qs; carries = y.carries; spelled = y.spelled; derives = λ ts h. loosest (y.derives 0 ts (omega (arith, y.high)) h) }

-- nothing
pub none_part : (p : Program) (D : List Token → Type 0) → D [] → Part p [] [] D
none_part p D h = record { qs = []; carries = refl; spelled = λ z rest at s. s; derives = λ ts a. subst D (sym (no_more ts a)) h }

pub carries_name : (t : Token) → t.kind ≡ k.Name → carried t ≡ name t.index ∷ []
carries_name t is = rw is refl

-- ---- names

pub name_spelled : (p : Program) (i : ℕ) (z : List ℕ) (rest : List Piece) → IsName (name_text p i) → Break z → Spelled p z rest → Spelled p (name_text p i ++ z) (name i ∷ rest)
name_spelled p i z rest good at s = piece p (name i) z rest (word_fronts p (name i) z good.0 good.1 at) s

list_fine : (l : NameList) (n : ℕ) (t u : Token) → by_list l n t ≡ fine → u.over ≡ false → by_list l n u ≡ fine
list_fine header_values n t u h over = length_is (below n max_names 8) u over (length_fine (below n max_names 8) t h).1
list_fine header_dests n t u h over = length_is (below n max_names 8) u over (length_fine (below n max_names 8) t h).1
list_fine call_dests n t u h over = length_is (below n max_given 9) u over (length_fine (below n max_given 9) t h).1

break_behind : (xs : List (List ℕ)) (z : List ℕ) → Break z → Break (behind (codes ", ") xs ++ z)
break_behind [] z at = at
break_behind (x ∷ xs) z at = refl

next_spelled : (x y z : List ℕ) → (codes ", " ++ x ++ y) ++ z ≡ 44 ∷ 32 ∷ (x ++ (y ++ z))
next_spelled x y z = simp append_assoc

first_spelled : (x y z : List ℕ) → ([] ++ x ++ y) ++ z ≡ x ++ (y ++ z)
first_spelled x y z = simp append_assoc

module _ (p : Program) where
  more_names : (l : NameList) (n : ℕ) (ms : List Marked) (xs : List ℕ) → IsMoreNames l n ms xs → AllFine ms → AllGood p (cargo ms) → Part p (behind (codes ", ") (map (name_text p) xs)) (cargo ms) (λ ts. IsMoreNames l n (fines ts) xs)
  more_names _ _ _ _ (IsMoreNames.none l n) ok good = none_part p (λ ts. IsMoreNames l n (fines ts) []) (IsMoreNames.none l n)
  more_names _ _ _ _ (IsMoreNames.more l n c t ms xs hc ht x) ok good =
      let is : cargo (token c ∷ (t, by_list l n t) ∷ ms) ≡ name t.index ∷ cargo ms = none_before c fine ((t, by_list l n t) ∷ ms) (carries_none c k.Comma hc tt) ∙ ap (λ z. z ++ cargo ms) (carries_name t ht) in
      let goods = subst (AllGood p) is good in
      let y = more_names l (n + 1) ms xs x ok.1.1 goods.1 in
      record {
        qs = pieces.plain k.Comma tt ∷ name t.index ∷ y.qs;
        carries = ap (λ z. name t.index ∷ z) y.carries ∙ sym is;
        spelled = λ z rest at s. rw (next_spelled (name_text p t.index) (behind (codes ", ") (map (name_text p) xs)) z)
            (comma p _ _ (space p _ _ (name_spelled p t.index _ _ goods.0 (break_behind (map (name_text p) xs) z at) (y.spelled z rest at s))));
        derives = λ ts h. derived l n t xs y.qs y.derives ok.1.0 ts h;
      }
    where
      derived : (l : NameList) (n : ℕ) (t : Token) (xs : List ℕ) (qs : List Piece) → ((ts : List Token) → AreTokens qs ts → IsMoreNames l (n + 1) (fines ts) xs) → by_list l n t ≡ fine
          → (ts : List Token) → AreTokens (pieces.plain k.Comma tt ∷ name t.index ∷ qs) ts → IsMoreNames l n (fines ts) (t.index ∷ xs)
      derived l n t xs qs rest low ts h =
          let a = head (pieces.plain k.Comma tt) (name t.index ∷ qs) ts h in
          let b = head (name t.index) qs a.more a.rest in
          let split : ts ≡ a.one ∷ b.one ∷ b.more = a.split ∙ ap (λ (z : List Token). a.one ∷ z) b.split in
          rw split (subst (λ i. IsMoreNames l n (token a.one ∷ token b.one ∷ fines b.more) (i ∷ xs)) b.is.holds (rw (list_fine l n t b.one low b.is.fits) at (IsMoreNames.more l n a.one b.one (fines b.more) xs a.is.kind b.is.kind (rest b.more b.rest))))

  pub names_part : (l : NameList) (n : ℕ) (ms : List Marked) (xs : List ℕ) → IsNames l n ms xs → AllFine ms → AllGood p (cargo ms) → Part p (joined (map (name_text p) xs)) (cargo ms) (λ ts. IsNames l n (fines ts) xs)
  names_part _ _ _ _ (IsNames.none l n) ok good = none_part p (λ ts. IsNames l n (fines ts) []) (IsNames.none l n)
  names_part _ _ _ _ (IsNames.some l n t ms xs ht x) ok good =
      let is : cargo ((t, by_list l n t) ∷ ms) ≡ name t.index ∷ cargo ms = ap (λ z. z ++ cargo ms) (carries_name t ht) in
      let goods = subst (AllGood p) is good in
      let y = more_names l (n + 1) ms xs x ok.1 goods.1 in
      record {
        qs = name t.index ∷ y.qs;
        carries = ap (λ z. name t.index ∷ z) y.carries ∙ sym is;
        spelled = λ z rest at s. rw (first_spelled (name_text p t.index) (behind (codes ", ") (map (name_text p) xs)) z)
            (name_spelled p t.index _ _ goods.0 (break_behind (map (name_text p) xs) z at) (y.spelled z rest at s));
        derives = λ ts h. derived l n t xs y.qs y.derives ok.0 ts h;
      }
    where
      derived : (l : NameList) (n : ℕ) (t : Token) (xs : List ℕ) (qs : List Piece) → ((ts : List Token) → AreTokens qs ts → IsMoreNames l (n + 1) (fines ts) xs) → by_list l n t ≡ fine
          → (ts : List Token) → AreTokens (name t.index ∷ qs) ts → IsNames l n (fines ts) (t.index ∷ xs)
      derived l n t xs qs rest low ts h =
          let b = head (name t.index) qs ts h in
          rw b.split (subst (λ i. IsNames l n (token b.one ∷ fines b.more) (i ∷ xs)) b.is.holds (rw (list_fine l n t b.one low b.is.fits) at (IsNames.some l n b.one (fines b.more) xs b.is.kind (rest b.more b.rest))))

  -- ---- values

  more_values : (n : ℕ) (ms : List Marked) (es : List Expr) → IsMoreValues n ms es → AllFine ms → AllGood p (cargo ms) → Part p (behind (codes ", ") (map (expr_text p) es)) (cargo ms) (λ ts. IsMoreValues n (fines ts) es)
  more_values _ _ _ (IsMoreValues.none n) ok good = none_part p (λ ts. IsMoreValues n (fines ts) []) (IsMoreValues.none n)
  more_values _ _ _ (IsMoreValues.more n d c ms ns e es hc x v) ok good =
      let is : cargo (token c ∷ begins_with (by_values n) ms ++ ns) ≡ cargo ms ++ cargo ns =
      none_before c fine (begins_with (by_values n) ms ++ ns) (carries_none c k.Comma hc tt) ∙ cargo-append (begins_with (by_values n) ms) ns ∙ ap (λ z. z ++ cargo ns) (cargo_begins (by_values n) ms) in
      let goods = good_parts p (cargo ms) (cargo ns) (subst (AllGood p) is good) in
      let parts = fine_parts (begins_with (by_values n) ms) ns ok.1 in
      let first = begin_fine (by_values n) ms (expr_some top 0 d ms e x) parts.0 in
      let y = expr_part p top d ms e x first.1 goods.0 in
      let w = more_values (n + 1) ns es v parts.1 goods.1 in
      record {
        qs = pieces.plain k.Comma tt ∷ (y.qs ++ w.qs);
        carries = loads-append y.qs w.qs ∙ ap (λ z. z ++ loads w.qs) y.carries ∙ ap (λ z. cargo ms ++ z) w.carries ∙ sym is;
        spelled = λ z rest at s. rw (next_spelled (expr_text p e) (behind (codes ", ") (map (expr_text p) es)) z, append_assoc y.qs w.qs rest)
            (comma p _ _ (space p _ _ (y.spelled _ _ (break_behind (map (expr_text p) es) z at) (w.spelled z rest at s))));
        derives = λ ts h. derived n d e es y.qs w.qs first.0 y.derives w.derives ts h;
      }
    where
      derived : (n d : ℕ) (e : Expr) (es : List Expr) (xs ys : List Piece) → by_values n ≡ fine → ((ts : List Token) → AreTokens xs ts → IsExpr top 0 d (fines ts) e) → ((ts : List Token) → AreTokens ys ts → IsMoreValues (n + 1) (fines ts) es)
          → (ts : List Token) → AreTokens (pieces.plain k.Comma tt ∷ (xs ++ ys)) ts → IsMoreValues n (fines ts) (e ∷ es)
      derived n d e es xs ys low one rest ts h =
          let a = head (pieces.plain k.Comma tt) (xs ++ ys) ts h in
          let b = cut xs ys a.more a.rest in
          let split : ts ≡ a.one ∷ (b.front ++ b.back) = a.split ∙ ap (λ (z : List Token). a.one ∷ z) b.split in
          rw (split, fines-append b.front b.back)
          (subst (λ fs. IsMoreValues n (token a.one ∷ fs ++ fines b.back) (e ∷ es)) (ap (λ m. begins_with m (fines b.front)) low ∙ begin_with_fine (fines b.front))
          (IsMoreValues.more n d a.one (fines b.front) (fines b.back) e es a.is.kind (one b.front b.first) (rest b.back b.second)))

  pub values_part : (ms : List Marked) (es : List Expr) → IsValues ms es → AllFine ms → AllGood p (cargo ms) → Part p (joined (map (expr_text p) es)) (cargo ms) (λ ts. IsValues (fines ts) es)
  values_part _ _ IsValues.none ok good = none_part p (λ ts. IsValues (fines ts) []) IsValues.none
  values_part _ _ (IsValues.some d ms ns e es x v) ok good =
      let is = cargo-append ms ns in
      let goods = good_parts p (cargo ms) (cargo ns) (subst (AllGood p) is good) in
      let parts = fine_parts ms ns ok in
      let y = expr_part p top d ms e x parts.0 goods.0 in
      let w = more_values 1 ns es v parts.1 goods.1 in
      record {
        qs = y.qs ++ w.qs;
        carries = loads-append y.qs w.qs ∙ ap (λ z. z ++ loads w.qs) y.carries ∙ ap (λ z. cargo ms ++ z) w.carries ∙ sym is;
        spelled = λ z rest at s. rw (first_spelled (expr_text p e) (behind (codes ", ") (map (expr_text p) es)) z, append_assoc y.qs w.qs rest)
            (y.spelled _ _ (break_behind (map (expr_text p) es) z at) (w.spelled z rest at s));
        derives = λ ts h. derived d e es y.qs w.qs y.derives w.derives ts h;
      }
    where
      derived : (d : ℕ) (e : Expr) (es : List Expr) (xs ys : List Piece) → ((ts : List Token) → AreTokens xs ts → IsExpr top 0 d (fines ts) e) → ((ts : List Token) → AreTokens ys ts → IsMoreValues 1 (fines ts) es)
          → (ts : List Token) → AreTokens (xs ++ ys) ts → IsValues (fines ts) (e ∷ es)
      derived d e es xs ys one rest ts h =
          let b = cut xs ys ts h in
          rw (b.split, fines-append b.front b.back) (IsValues.some d (fines b.front) (fines b.back) e es (one b.front b.first) (rest b.back b.second))

-- ---- reads

item_spelled : (e x z : List ℕ) → (e ++ codes " as " ++ x) ++ z ≡ e ++ (32 ∷ 97 ∷ 115 ∷ 32 ∷ (x ++ z))
item_spelled e x z = simp append_assoc

item_pieces : (a b : Piece) (xs ys rest : List Piece) → (xs ++ (a ∷ b ∷ ys)) ++ rest ≡ xs ++ (a ∷ b ∷ (ys ++ rest))
item_pieces a b xs ys rest = simp append_assoc

item_loads : (i : ℕ) (xs ys : List Piece) → loads (xs ++ (pieces.plain k.As tt ∷ name i ∷ ys)) ≡ loads xs ++ (name i ∷ loads ys)
item_loads i xs ys = loads-append xs (pieces.plain k.As tt ∷ name i ∷ ys)

item_cargo : (w t : Token) (m : Mark) (ms ns : List Marked) → w.kind ≡ k.As → t.kind ≡ k.Name → cargo (ms ++ (token w ∷ (t, m) ∷ ns)) ≡ cargo ms ++ (name t.index ∷ cargo ns)
item_cargo w t m ms ns hw ht =
    cargo-append ms (token w ∷ (t, m) ∷ ns) ∙ ap (λ z. cargo ms ++ z) (none_before w fine ((t, m) ∷ ns) (carries_none w k.As hw tt) ∙ ap (λ z. z ++ cargo ns) (carries_name t ht))

pub names_fine : (n : ℕ) (t u : Token) → by_names n t ≡ fine → u.over ≡ false → by_names n u ≡ fine
names_fine n t u h over = length_is (below n max_names 8) u over (length_fine (below n max_names 8) t h).1

module _ (p : Program) where
  -- one item, and those behind it
  as_name : (i : ℕ) (z : List ℕ) (rest : List Piece) → IsName (name_text p i) → Break z → Spelled p z rest → Spelled p (32 ∷ 97 ∷ 115 ∷ 32 ∷ (name_text p i ++ z)) (pieces.plain k.As tt ∷ name i ∷ rest)
  unfolding reserved
  as_name i z rest good at s = space p _ _ (piece p (pieces.plain k.As tt) _ _ (fixed p (32 ∷ (name_text p i ++ z)) k.As tt refl refl refl) (space p _ _ (name_spelled p i z rest good at s)))

  -- the tokens of an item
  record ItemCut (d i : ℕ) (e : Expr) (ys : List Piece) (ts : List Token) : Type 0 where
    front : List Token
    w : Token
    t : Token
    back : List Token
    split : fines ts ≡ fines front ++ (token w ∷ token t ∷ fines back)
    expr : IsExpr top 0 d (fines front) e
    w_is : w.kind ≡ k.As
    t_is : t.kind ≡ k.Name
    index : t.index ≡ i
    over : t.over ≡ false
    rest : AreTokens ys back

  item_cut : (d i : ℕ) (e : Expr) (xs ys : List Piece) → ((ts : List Token) → AreTokens xs ts → IsExpr top 0 d (fines ts) e) → (ts : List Token) → AreTokens (xs ++ (pieces.plain k.As tt ∷ name i ∷ ys)) ts → ItemCut d i e ys ts
  item_cut d i e xs ys one ts h =
      let a = cut xs (pieces.plain k.As tt ∷ name i ∷ ys) ts h in
      let b = head (pieces.plain k.As tt) (name i ∷ ys) a.back a.second in
      let c = head (name i) ys b.more b.rest in
      let split : ts ≡ a.front ++ (b.one ∷ c.one ∷ c.more) = a.split ∙ ap (λ (z : List Token). a.front ++ z) (b.split ∙ ap (λ (z : List Token). b.one ∷ z) c.split) in
      record { front = a.front; w = b.one; t = c.one; back = c.more; split = ap fines split ∙ fines-append a.front (b.one ∷ c.one ∷ c.more); expr = one a.front a.first; w_is = b.is.kind; t_is = c.is.kind; index = c.is.holds; over = c.is.fits; rest = c.rest }

  more_items : (n count : ℕ) (ms : List Marked) (is : List ReadItem) → IsMoreItems n count ms is → AllFine ms → AllGood p (cargo ms) → Part p (behind (codes ", ") (map (item_text p) is)) (cargo ms) (λ ts. IsMoreItems n count (fines ts) is)
  more_items _ _ _ _ (IsMoreItems.none n count) ok good = none_part p (λ ts. IsMoreItems n count (fines ts) []) (IsMoreItems.none n count)
  more_items _ _ _ _ (IsMoreItems.more n count d c w t ms ns e items room hc x hw ht v) ok good =
      let is : cargo (token c ∷ ms ++ (token w ∷ (t, by_names (n + count) t) ∷ ns)) ≡ cargo ms ++ (name t.index ∷ cargo ns) =
      none_before c fine (ms ++ (token w ∷ (t, by_names (n + count) t) ∷ ns)) (carries_none c k.Comma hc tt) ∙ item_cargo w t (by_names (n + count) t) ms ns hw ht in
      let goods = good_parts p (cargo ms) (name t.index ∷ cargo ns) (subst (AllGood p) is good) in
      let parts = fine_parts ms (token w ∷ (t, by_names (n + count) t) ∷ ns) ok.1 in
      let y = expr_part p top d ms e x parts.0 goods.0 in
      let u = more_items n (count + 1) ns items v parts.1.1.1 goods.1.1 in
      record {
        qs = pieces.plain k.Comma tt ∷ (y.qs ++ (pieces.plain k.As tt ∷ name t.index ∷ u.qs));
        carries = item_loads t.index y.qs u.qs ∙ ap (λ z. z ++ (name t.index ∷ loads u.qs)) y.carries ∙ ap (λ z. cargo ms ++ (name t.index ∷ z)) u.carries ∙ sym is;
        spelled = λ z rest at s.
            rw (next_spelled (item_text p (item e t.index)) (behind (codes ", ") (map (item_text p) items)) z, item_spelled (expr_text p e) (name_text p t.index) (behind (codes ", ") (map (item_text p) items) ++ z), item_pieces (pieces.plain k.As tt) (name t.index) y.qs u.qs rest)
            (comma p _ _ (space p _ _ (y.spelled _ _ refl (as_name t.index _ _ goods.1.0 (break_behind (map (item_text p) items) z at) (u.spelled z rest at s)))));
        derives = λ ts h. derived n count d t e items y.qs u.qs room parts.1.1.0 y.derives u.derives ts h;
      }
    where
      derived : (n count d : ℕ) (t : Token) (e : Expr) (items : List ReadItem) (xs ys : List Piece) → count < most_items → by_names (n + count) t ≡ fine → ((ts : List Token) → AreTokens xs ts → IsExpr top 0 d (fines ts) e) → ((ts : List Token) → AreTokens ys ts → IsMoreItems n (count + 1) (fines ts) items)
          → (ts : List Token) → AreTokens (pieces.plain k.Comma tt ∷ (xs ++ (pieces.plain k.As tt ∷ name t.index ∷ ys))) ts → IsMoreItems n count (fines ts) (item e t.index ∷ items)
      derived n count d t e items xs ys room low one rest ts h =
          let a = head (pieces.plain k.Comma tt) (xs ++ (pieces.plain k.As tt ∷ name t.index ∷ ys)) ts h in
          let b = item_cut d t.index e xs ys one a.more a.rest in
          rw (a.split, b.split)
          (subst (λ i. IsMoreItems n count (token a.one ∷ fines b.front ++ (token b.w ∷ token b.t ∷ fines b.back)) (item e i ∷ items)) b.index
          (rw (names_fine (n + count) t b.t low b.over) at (IsMoreItems.more n count d a.one b.w b.t (fines b.front) (fines b.back) e items room a.is.kind b.expr b.w_is b.t_is (rest b.back b.rest))))

  pub items_part : (n : ℕ) (ms : List Marked) (is : List ReadItem) → IsItems n ms is → AllFine ms → AllGood p (cargo ms) → Part p (joined (map (item_text p) is)) (cargo ms) (λ ts. IsItems n (fines ts) is)
  items_part _ _ _ (IsItems.items n d w t ms ns e items x hw ht v) ok good =
      let is = item_cargo w t (by_names n t) ms ns hw ht in
      let goods = good_parts p (cargo ms) (name t.index ∷ cargo ns) (subst (AllGood p) is good) in
      let parts = fine_parts ms (token w ∷ (t, by_names n t) ∷ ns) ok in
      let y = expr_part p top d ms e x parts.0 goods.0 in
      let u = more_items n 1 ns items v parts.1.1.1 goods.1.1 in
      record {
        qs = y.qs ++ (pieces.plain k.As tt ∷ name t.index ∷ u.qs);
        carries = item_loads t.index y.qs u.qs ∙ ap (λ z. z ++ (name t.index ∷ loads u.qs)) y.carries ∙ ap (λ z. cargo ms ++ (name t.index ∷ z)) u.carries ∙ sym is;
        spelled = λ z rest at s.
            rw (first_spelled (item_text p (item e t.index)) (behind (codes ", ") (map (item_text p) items)) z, item_spelled (expr_text p e) (name_text p t.index) (behind (codes ", ") (map (item_text p) items) ++ z), item_pieces (pieces.plain k.As tt) (name t.index) y.qs u.qs rest)
            (y.spelled _ _ refl (as_name t.index _ _ goods.1.0 (break_behind (map (item_text p) items) z at) (u.spelled z rest at s)));
        derives = λ ts h. derived n d t e items y.qs u.qs parts.1.1.0 y.derives u.derives ts h;
      }
    where
      derived : (n d : ℕ) (t : Token) (e : Expr) (items : List ReadItem) (xs ys : List Piece) → by_names n t ≡ fine → ((ts : List Token) → AreTokens xs ts → IsExpr top 0 d (fines ts) e) → ((ts : List Token) → AreTokens ys ts → IsMoreItems n 1 (fines ts) items)
          → (ts : List Token) → AreTokens (xs ++ (pieces.plain k.As tt ∷ name t.index ∷ ys)) ts → IsItems n (fines ts) (item e t.index ∷ items)
      derived n d t e items xs ys low one rest ts h =
          let b = item_cut d t.index e xs ys one ts h in
          rw b.split
          (subst (λ i. IsItems n (fines b.front ++ (token b.w ∷ token b.t ∷ fines b.back)) (item e i ∷ items)) b.index
          (rw (names_fine n t b.t low b.over) at (IsItems.items n d b.w b.t (fines b.front) (fines b.back) e items b.expr b.w_is b.t_is (rest b.back b.rest))))
