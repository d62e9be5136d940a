-- Statements with bodies, a step at a time.
use Rattle.std.proofs.Common.{◌≡◌, ℕ, ◌&&◌, List, ◌++◌, map, Option, Result, Ok, Err, refl, ap, sym, ◌∙◌, subst}
use Rattle.psac_ops.specs.Table.{◌>>=◌}
use Rattle.psac_syntax.specs.declared.program.Expr.{Expr}
use Rattle.psac_syntax.specs.declared.program.Stmt.{Stmt}
use Rattle.psac_syntax.specs.declared.program.Stmt.TheOpen.{Stmt-F}
use Rattle.psac_syntax.specs.declared.program.Stmt.TheVariants as st
use Rattle.psac_syntax.specs.declared.program.Func.{Func}
use Rattle.psac_syntax.specs.declared.program.ReadItem.{ReadItem}
use Rattle.psac_model.specs.Series.{Breach, BranchesDiffer, WrittenInBothSides, Fault, Scope, Rule, all_in, without, unless, so, expr_wrong, items_wrong, with_items, body_rule, rule_step, rule_of}
use Rattle.psac_check.specs.declared.fault.CheckFault.{CheckFault}
use Rattle.psac_check.specs.Follows.{Fails, Gives}
use Rattle.psac_check.specs.Scopes.{if_left, par_left}
use Rattle.psac_check.proofs.Follow.{so_passes, so_fails, then_fails}
use Rattle.psac_check.proofs.Layers.{rule_read, rule_if, rule_par}

abbrev Done : Type 0
Done = Result (Unit {0}) Fault

fine : Done
fine = Ok tt

module _ (funcs : List Func) (line : ℕ) (first second : List Stmt) (s : Scope) (w : List ℕ) where
  abbrev body_of : List Stmt → Result (List ℕ) Fault
  body_of body = body_rule (map (rule_of funcs) body) s w

  module _ (v : Expr) where
    if_is : rule_of funcs (st.If line v first second) s w ≡ so (expr_wrong s w v) line (body_of first >>= λ one. if_left line s one (body_of second))
    if_is = ap (λ (r : Rule). r s w) (rule_if funcs line v first second)

    pub if_wrong : (e : CheckFault) → Fails {A = Unit {0}} e (so (expr_wrong s w v) line (Ok tt)) → Fails e (rule_of funcs (st.If line v first second) s w)
    if_wrong e h = subst (λ z. Fails e z) (sym if_is) (so_fails e (expr_wrong s w v) line _ h)

    if_begun : (done : Unit {0}) → so (expr_wrong s w v) line (Ok tt) ≡ Ok done → rule_of funcs (st.If line v first second) s w ≡ (body_of first >>= λ one. if_left line s one (body_of second))
    if_begun done a = if_is ∙ so_passes (expr_wrong s w v) line done _ a

    pub if_first : (e : CheckFault) (done : Unit {0}) → so (expr_wrong s w v) line (Ok tt) ≡ Ok done → Fails e (body_of first) → Fails e (rule_of funcs (st.If line v first second) s w)
    if_first e done a h = subst (λ z. Fails e z) (sym (if_begun done a)) (then_fails e (body_of first) _ h)

    pub if_second : (stmt : Stmt) (t : Scope) (last : List Stmt) (done : Unit {0}) (one : List ℕ) → stmt ≡ st.If line v first second → t ≡ s → last ≡ second → so (expr_wrong s w v) line (Ok tt) ≡ Ok done → body_of first ≡ Ok one → rule_of funcs stmt s w ≡ if_left line t one (body_rule (map (rule_of funcs) last) t w)
    if_second stmt t last done one e f g a b =
        ap (λ x. rule_of funcs x s w) e
        ∙ if_begun done a
        ∙ ap (λ z. z >>= λ one. if_left line s one (body_of second)) b
        ∙ ap (λ x. if_left line s one (body_of x)) (sym g)
        ∙ ap (λ x. if_left line x one (body_rule (map (rule_of funcs) last) x w)) (sym f)

  par_is : rule_of funcs (st.Par line first second) s w ≡ (body_of first >>= λ one. par_left line s w one (body_of second))
  par_is = ap (λ (r : Rule). r s w) (rule_par funcs line first second)

  pub par_first : (e : CheckFault) → Fails e (body_of first) → Fails e (rule_of funcs (st.Par line first second) s w)
  par_first e h = subst (λ z. Fails e z) (sym par_is) (then_fails e (body_of first) _ h)

  pub par_second : (stmt : Stmt) (t : Scope) (last : List Stmt) (one : List ℕ) → stmt ≡ st.Par line first second → t ≡ s → last ≡ second → body_of first ≡ Ok one → rule_of funcs stmt s w ≡ par_left line t w one (body_rule (map (rule_of funcs) last) t w)
  par_second stmt t last one e f g b =
      ap (λ x. rule_of funcs x s w) e
      ∙ par_is
      ∙ ap (λ z. z >>= λ one. par_left line s w one (body_of second)) b
      ∙ ap (λ x. par_left line s w one (body_of x)) (sym g)
      ∙ ap (λ x. par_left line x w one (body_rule (map (rule_of funcs) last) x w)) (sym f)

-- both sides of a `par`
pub par_done : (line : ℕ) (s t : Scope) (w one two all : List ℕ) (found : Option Breach) (r : Result (List ℕ) Fault) (done : Unit {0}) → r ≡ Ok two → found ≡ unless (all_in one (w ++ without two one)) WrittenInBothSides → so found line (Ok tt) ≡ Ok done → t ≡ s → all ≡ one ++ without one two → par_left line s w one r ≡ Ok (t, all)
par_done line s t w one two all found r done a b c d e =
    ap (λ z. par_left line s w one z) a
    ∙ ap (λ z. so z line (Ok (s, one ++ without one two))) (sym b)
    ∙ so_passes found line done _ c
    ∙ ap (λ z. Ok (z, one ++ without one two)) (sym d)
    ∙ ap (λ z. Ok (t, z)) (sym e)

-- the body of a `read`
pub read_done : (line : ℕ) (s t u : Scope) (w left : List ℕ) (found : Option Breach) (items : List ReadItem) (rs : List Rule) (done : Unit {0}) → found ≡ items_wrong s w s items → so found line (Ok tt) ≡ Ok done → t ≡ with_items items s → body_rule rs t w ≡ Ok left → u ≡ s → so {A = Scope × List ℕ} (items_wrong s w s items) line (body_rule rs (with_items items s) w >>= λ after. Ok (s, after)) ≡ Ok (u, left)
read_done line s t u w left found items rs done a b c d e =
    ap (λ z. so {A = Scope × List ℕ} z line (body_rule rs (with_items items s) w >>= λ after. Ok (s, after))) (sym a)
    ∙ so_passes found line done _ b
    ∙ ap (λ z. body_rule rs z w >>= λ after. Ok (s, after)) (sym c)
    ∙ ap (λ z. z >>= λ after. Ok (s, after)) d
    ∙ ap (λ z. Ok (z, left)) (sym e)

pub read_as : (funcs : List Func) (line block : ℕ) (items seen : List ReadItem) (body inner : List Stmt) (stmt : Stmt) (s : Scope) (w : List ℕ) → stmt ≡ st.Read line block items body → seen ≡ items → inner ≡ body → rule_of funcs stmt s w ≡ rule_step funcs (Stmt-F.Read line 0 seen (map (rule_of funcs) inner)) s w
read_as funcs line block items seen body inner stmt s w e f g =
    ap (λ x. rule_of funcs x s w) e
    ∙ ap (λ (r : Rule). r s w) (rule_read funcs line block items body)
    ∙ ap (λ x. rule_step funcs (Stmt-F.Read line 0 x (map (rule_of funcs) body)) s w) (sym f)
    ∙ ap (λ x. rule_step funcs (Stmt-F.Read line 0 seen (map (rule_of funcs) x)) s w) (sym g)
