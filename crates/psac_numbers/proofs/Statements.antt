-- The blocks of parsed statements have the numbers of `read` tokens, in order.
use Rattle.std.proofs.Common.{◌≡◌, ℕ, ◌+◌, List, [], ◌∷◌, ◌++◌, map, flat_map, length, refl, ap, sym, ◌∙◌, subst, inl, append_assoc, append-nil}
use Rattle.psac_syntax.specs.declared.program.Expr.{Expr}
use Rattle.psac_syntax.specs.declared.program.Stmt.{Stmt}
use Rattle.psac_syntax.specs.declared.program.Stmt.TheOpen.{Stmt-F}
use Rattle.psac_syntax.specs.declared.program.Stmt.TheVariants as stmt
use Rattle.psac_syntax.specs.declared.program.ReadItem.{ReadItem}
use Rattle.psac_syntax.specs.declared.program.Func.{Func}
use Rattle.psac_tokens.specs.declared.token.Kind.TheVariants as k
use Rattle.psac_tokens.specs.declared.token.Token.{Token}
use Rattle.psac_grammar.specs.Marked.{Marked, fine, by_bodies, by_funcs, by_name}
use Rattle.psac_grammar.specs.Grammar.{IsStmts, IsFuncs, IsText, function}
use Rattle.psac_grammar.specs.Grammar as g
use Rattle.psac_traced.specs.Blocks.{Block, blocks_in, blocks_of, numbers_of}
use Rattle.psac_traced.proofs.Blocks.{read_found, found_out, two_found}
use Rattle.psac_numbers.specs.Rising.{IsPart, read_number, marked_in}
use Rattle.psac_numbers.proofs.Rising.{part_behind, part_both, marked_append}

abbrev keys : List Block → List ℕ
keys = map (λ (b : Block). b.0)

keys_append : (a b : List Block) → keys (a ++ b) ≡ keys a ++ keys b
keys_append [] b = refl
keys_append (x ∷ a) b = ap (λ z. x.0 ∷ z) (keys_append a b)

-- the numbers of the blocks in statements
abbrev numbers : List Stmt → List ℕ
numbers ss = keys (flat_map blocks_in ss)

numbers_more : (s : Stmt) (ss : List Stmt) (bs : List Block) → blocks_in s ≡ bs → numbers (s ∷ ss) ≡ keys bs ++ numbers ss
numbers_more s ss bs h = keys_append (blocks_in s) (flat_map blocks_in ss) ∙ ap (λ z. keys z ++ numbers ss) h

skip : (xs : List ℕ) (m : Marked) (ms : List Marked) → IsPart xs (marked_in ms) → IsPart xs (marked_in (m ∷ ms))
skip xs m ms h = part_behind (read_number m.0.kind m.0.index) xs (marked_in ms) h

skips : (xs : List ℕ) (ls ms : List Marked) → IsPart xs (marked_in ms) → IsPart xs (marked_in (ls ++ ms))
skips xs ls ms h = subst (IsPart xs) (sym (marked_append ls ms)) (part_behind (marked_in ls) xs (marked_in ms) h)

two : (xs ys : List ℕ) (ls ms : List Marked) → IsPart xs (marked_in ls) → IsPart ys (marked_in ms) → IsPart (xs ++ ys) (marked_in (ls ++ ms))
two xs ys ls ms h i = subst (IsPart (xs ++ ys)) (sym (marked_append ls ms)) (part_both xs ys (marked_in ls) (marked_in ms) h i)

-- past the number of a token
past : (t : Token) (xs ys : List ℕ) → IsPart xs ys → IsPart xs (read_number t.kind t.index ++ ys)
past t xs ys h = part_behind (read_number t.kind t.index) xs ys h

let_found : (line x : ℕ) (e : Expr) → blocks_in (stmt.Let line x e) ≡ []
let_found line x e = found_out (stmt.Let line x e) (Stmt-F.Let line x e) (stmt.outs-Let line x e)

new_found : (line x : ℕ) → blocks_in (stmt.New line x) ≡ []
new_found line x = found_out (stmt.New line x) (Stmt-F.New line x) (stmt.outs-New line x)

write_found : (line x : ℕ) (e : Expr) → blocks_in (stmt.Write line x e) ≡ []
write_found line x e = found_out (stmt.Write line x e) (Stmt-F.Write line x e) (stmt.outs-Write line x e)

call_found : (line f : ℕ) (values : List Expr) (dests : List ℕ) → blocks_in (stmt.Call line f values dests) ≡ []
call_found line f values dests = found_out (stmt.Call line f values dests) (Stmt-F.Call line f values dests) (stmt.outs-Call line f values dests)

if_found : (line : ℕ) (e : Expr) (one other : List Stmt) → blocks_in (stmt.If line e one other) ≡ flat_map blocks_in one ++ flat_map blocks_in other
if_found line e one other = found_out (stmt.If line e one other) (Stmt-F.If line e one other) (stmt.outs-If line e one other) ∙ two_found one other

par_found : (line : ℕ) (one other : List Stmt) → blocks_in (stmt.Par line one other) ≡ flat_map blocks_in one ++ flat_map blocks_in other
par_found line one other = found_out (stmt.Par line one other) (Stmt-F.Par line one other) (stmt.outs-Par line one other) ∙ two_found one other

block_found : (line n : ℕ) (items : List ReadItem) (body : List Stmt) → blocks_in (stmt.Read line n items body) ≡ (n, items, body) ∷ flat_map blocks_in body
block_found line n items body = read_found (stmt.Read line n items body) line n items body (stmt.outs-Read line n items body)

-- a statement without blocks, with blocks in two bodies, and a block
plain_part : (s : Stmt) (ss : List Stmt) (ys : List ℕ) → blocks_in s ≡ [] → IsPart (numbers ss) ys → IsPart (numbers (s ∷ ss)) ys
plain_part s ss ys h i = subst (λ z. IsPart z ys) (sym (numbers_more s ss [] h)) i

bodies_part : (s : Stmt) (one other ss : List Stmt) (ys : List ℕ) → blocks_in s ≡ flat_map blocks_in one ++ flat_map blocks_in other → IsPart (numbers one ++ (numbers other ++ numbers ss)) ys → IsPart (numbers (s ∷ ss)) ys
bodies_part s one other ss ys h i =
    subst (λ z. IsPart z ys) (sym (numbers_more s ss (flat_map blocks_in one ++ flat_map blocks_in other) h ∙ ap (λ z. z ++ numbers ss) (keys_append (flat_map blocks_in one) (flat_map blocks_in other)) ∙ append_assoc (numbers one) (numbers other) (numbers ss))) i

read_part : (line : ℕ) (w : Token) (items : List ReadItem) (body ss : List Stmt) (ys : List ℕ) → w.kind ≡ k.Read → IsPart (numbers body ++ numbers ss) ys → IsPart (numbers (stmt.Read line w.index items body ∷ ss)) (read_number w.kind w.index ++ ys)
read_part line w items body ss ys h i =
    subst (λ z. IsPart (numbers (stmt.Read line w.index items body ∷ ss)) (read_number z w.index ++ ys)) (sym h)
    (subst (λ z. IsPart z (w.index ∷ ys)) (sym (numbers_more (stmt.Read line w.index items body) ss ((w.index, items, body) ∷ flat_map blocks_in body) (block_found line w.index items body))) (inl (refl, i)))

stmts_part : (b n c : ℕ) (ms : List Marked) (ss : List Stmt) → IsStmts b n c ms ss → IsPart (numbers ss) (marked_in ms)
stmts_part _ _ _ _ _ (g.none b n c) = tt
stmts_part _ _ _ _ _ (g.bind b n c d w t a s xs ns e more i1 i2 i3 i4 i5 rest) =
    let m = numbers more in
    plain_part (stmt.Let w.line t.index e) more _ (let_found w.line t.index e)
    (past w m _ (past t m _ (past a m _ (skips m xs ((s, fine) ∷ ns) (past s m _ (stmts_part b (n + 1) (c + 1) ns more rest))))))
stmts_part _ _ _ _ _ (g.make b n c w t s ns more i1 i2 i3 rest) =
    let m = numbers more in
    plain_part (stmt.New w.line t.index) more _ (new_found w.line t.index) (past w m _ (past t m _ (past s m _ (stmts_part b (n + 1) (c + 1) ns more rest))))
stmts_part _ _ _ _ _ (g.write b n c d w t a s xs ns e more i1 i2 i3 i4 i5 rest) =
    let m = numbers more in
    plain_part (stmt.Write w.line t.index e) more _ (write_found w.line t.index e)
    (past w m _ (past t m _ (past a m _ (skips m xs ((s, fine) ∷ ns) (past s m _ (stmts_part b n (c + 1) ns more rest))))))
stmts_part _ _ _ _ _ (g.read b n c w l r is body ns items inside more i1 i2 i3 within i4 rest) =
    let m = numbers more in
    let x = numbers inside ++ m in
    let behind : List Marked = (l, by_bodies b) ∷ body ++ ((r, fine) ∷ ns) in
    read_part w.line w items inside more (marked_in (is ++ behind)) i1
    (skips x is behind (past l x (marked_in (body ++ ((r, fine) ∷ ns))) (two (numbers inside) m body ((r, fine) ∷ ns) (stmts_part (b + 1) (n + length items) 0 body inside within) (past r m _ (stmts_part b n (c + 1) ns more rest)))))
stmts_part _ _ _ _ _ (g.choose b n c d w l r x o q ms on off ns e one other more i1 i2 i3 first i4 i5 i6 second i7 rest) =
    let m = numbers more in
    let v = numbers other ++ m in
    let z = numbers one ++ v in
    let last : List Marked = (q, fine) ∷ ns in
    let middle : List Marked = (r, fine) ∷ (x, fine) ∷ (o, by_bodies b) ∷ off ++ last in
    bodies_part (stmt.If w.line e one other) one other more _ (if_found w.line e one other)
    (past w z _ (skips z ms ((l, by_bodies b) ∷ on ++ middle) (past l z (marked_in (on ++ middle)) (two (numbers one) v on middle (stmts_part (b + 1) n 0 on one first)
    (past r v _ (past x v _ (past o v _ (two (numbers other) m off last (stmts_part (b + 1) n 0 off other second) (past q m _ (stmts_part b n (c + 1) ns more rest))))))))))
stmts_part _ _ _ _ _ (g.both b n c w l r o q left right ns one other more i1 i2 first i3 i4 second i5 rest) =
    let m = numbers more in
    let v = numbers other ++ m in
    let z = numbers one ++ v in
    let last : List Marked = (q, fine) ∷ ns in
    let middle : List Marked = (r, fine) ∷ (o, by_bodies b) ∷ right ++ last in
    bodies_part (stmt.Par w.line one other) one other more _ (par_found w.line one other)
    (past w z _ (past l z (marked_in (left ++ middle)) (two (numbers one) v left middle (stmts_part (b + 1) n 0 left one first)
    (past r v _ (past o v _ (two (numbers other) m right last (stmts_part (b + 1) n 0 right other second) (past q m _ (stmts_part b n (c + 1) ns more rest))))))))
stmts_part _ _ _ _ _ (g.call b n c w t a s z e vs ds ns values dests more i1 i2 i3 i4 i5 i6 i7 i8 rest) =
    let m = numbers more in
    let last : List Marked = (z, fine) ∷ (e, fine) ∷ ns in
    plain_part (stmt.Call w.line t.index values dests) more _ (call_found w.line t.index values dests)
    (past w m _ (past t m _ (past a m _ (skips m vs ((s, fine) ∷ ds ++ last) (past s m _ (skips m ds last (past z m _ (past e m _ (stmts_part b n (c + 1) ns more rest)))))))))

funcs_part : (c : ℕ) (ms : List Marked) (fs : List Func) → IsFuncs c ms fs → IsPart (numbers_of fs) (marked_in ms)
funcs_part _ _ _ (g.none c) = tt
funcs_part _ _ _ (g.func c w t a s z l r vs ds body ns values dests ss fs i1 i2 i3 i4 i5 i6 i7 i8 within i9 rest) =
    let m = numbers_of fs in
    let x = numbers ss ++ m in
    let last : List Marked = (r, fine) ∷ ns in
    let middle : List Marked = (z, fine) ∷ (l, by_bodies 0) ∷ body ++ last in
    subst (λ y. IsPart y (marked_in ((w, by_funcs c) ∷ (t, by_name t) ∷ (a, fine) ∷ vs ++ ((s, fine) ∷ ds ++ middle)))) (sym (keys_append (flat_map blocks_in ss) (blocks_of fs)))
    (past w x _ (past t x _ (past a x _ (skips x vs ((s, fine) ∷ ds ++ middle) (past s x _ (skips x ds middle (past z x _ (past l x (marked_in (body ++ last)) (two (numbers ss) m body last (stmts_part 1 (length values + length dests) 0 body ss within) (past r m _ (funcs_part (c + 1) ns fs rest)))))))))))

pub text_part : (ms : List Marked) (fs : List Func) → IsText ms fs → IsPart (numbers_of fs) (marked_in ms)
text_part _ _ (g.text ms f fs e h i) =
    subst (λ z. IsPart z (marked_in (ms ++ (e, fine) ∷ []))) (append-nil (numbers_of (f ∷ fs))) (two (numbers_of (f ∷ fs)) [] ms ((e, fine) ∷ []) (funcs_part 0 ms (f ∷ fs) h) tt)
