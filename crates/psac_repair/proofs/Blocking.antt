-- The blocks of a statement are put by its parts.
use Rattle.std.proofs.Common.{◌≡◌, ℕ, List, [], ◌∷◌, ◌++◌, flat_map, refl, ap, sym, ◌∙◌, subst}
use Rattle.psac_syntax.specs.declared.program.Stmt.{Stmt, out-Stmt, map-Stmt}
use Rattle.psac_syntax.specs.declared.program.Stmt.TheOpen.{Stmt-F}
use Rattle.psac_syntax.specs.declared.program.Stmt.TheVariants as st
use Rattle.psac_syntax.specs.declared.program.Expr.{Expr}
use Rattle.psac_syntax.specs.declared.program.ReadItem.{ReadItem}
use Rattle.psac_traced.specs.Blocks.{Block, Found, found, found_in, blocks_in}
use Rattle.psac_traced.proofs.Blocks.{found_out, read_found, two_found}
use Rattle.psac_repair.specs.Indexed.{Code, ArePut}
use Rattle.psac_repair.proofs.Indexed.{then_put}

abbrev all_in : List Stmt → List Block
all_in = flat_map blocks_in

module _ (s : Stmt) (a : List Code) where
  none_put : (f : Stmt-F Stmt) → out-Stmt s ≡ f → found (map-Stmt Stmt Found found_in f) ≡ [] → ArePut (blocks_in s) a a
  none_put f is none = subst (λ z. ArePut z a a) (sym (found_out s f is ∙ none)) (λ b h. h)

  pub let_put : (line x : ℕ) (e : Expr) → s ≡ st.Let line x e → ArePut (blocks_in s) a a
  let_put line x e is = none_put (Stmt-F.Let line x e) (ap out-Stmt is ∙ st.outs-Let line x e) refl

  pub new_put : (line d : ℕ) → s ≡ st.New line d → ArePut (blocks_in s) a a
  new_put line d is = none_put (Stmt-F.New line d) (ap out-Stmt is ∙ st.outs-New line d) refl

  pub write_put : (line d : ℕ) (e : Expr) → s ≡ st.Write line d e → ArePut (blocks_in s) a a
  write_put line d e is = none_put (Stmt-F.Write line d e) (ap out-Stmt is ∙ st.outs-Write line d e) refl

  pub call_put : (line f : ℕ) (values : List Expr) (dests : List ℕ) → s ≡ st.Call line f values dests → ArePut (blocks_in s) a a
  call_put line f values dests is = none_put (Stmt-F.Call line f values dests) (ap out-Stmt is ∙ st.outs-Call line f values dests) refl

module _ (s : Stmt) (a b c : List Code) where
  -- a read block, and the blocks in its body
  module _ (line number : ℕ) (items seen : List ReadItem) (body inner : List Stmt) (e : seen ≡ items) (f : inner ≡ body) where
    read_in : s ≡ st.Read line number items body → blocks_in s ≡ (number, seen, inner) ∷ all_in inner
    read_in is =
        read_found s line number items body (ap out-Stmt is ∙ st.outs-Read line number items body)
        ∙ ap (λ z. (number, z, body) ∷ all_in body) (sym e)
        ∙ ap (λ z. (number, seen, z) ∷ all_in z) (sym f)

    abbrev this : List Block
    this = (number, seen, inner) ∷ []

    pub read_put : s ≡ st.Read line number items body → ArePut this a b → ArePut (all_in inner) b c → ArePut (blocks_in s) a c
    read_put is p q = subst (λ z. ArePut z a c) (sym (read_in is)) (then_put this (all_in inner) a b c p q)

  -- two bodies
  module _ (line : ℕ) (one other first second : List Stmt) (e : first ≡ one) (f : second ≡ other) where
    abbrev Sides : Type 0
    Sides = ArePut (all_in first) a b → ArePut (all_in second) b c → ArePut (blocks_in s) a c

    both_put : blocks_in s ≡ all_in one ++ all_in other → Sides
    both_put is p q =
        let here : blocks_in s ≡ all_in first ++ all_in second =
        is ∙ ap (λ z. all_in z ++ all_in other) (sym e) ∙ ap (λ z. all_in first ++ all_in z) (sym f) in
        subst (λ z. ArePut z a c) (sym here) (then_put (all_in first) (all_in second) a b c p q)

    pub if_put : (v : Expr) → s ≡ st.If line v one other → Sides
    if_put v is = both_put (found_out s (Stmt-F.If line v one other) (ap out-Stmt is ∙ st.outs-If line v one other) ∙ two_found one other)

    pub par_put : s ≡ st.Par line one other → Sides
    par_put is = both_put (found_out s (Stmt-F.Par line one other) (ap out-Stmt is ∙ st.outs-Par line one other) ∙ two_found one other)
