-- A statement of a checked program asks for the same in each manner and on each wider heap.
use Rattle.std.proofs.Common.{◌≡◌, true, List, [], ◌∷◌, map, Option, Some, Result, Ok, Err, refl, ap, ◌∙◌, subst}
use Rattle.psac_ops.specs.Value.{Value, nil, bool, int, text, ref, pair}
use Rattle.psac_ops.specs.Table.{◌>>=◌}
use Rattle.psac_syntax.specs.declared.program.Expr.{Expr}
use Rattle.psac_syntax.specs.declared.program.Stmt.{Stmt}
use Rattle.psac_syntax.specs.declared.program.Stmt.TheOpen.{Stmt-F}
use Rattle.psac_syntax.specs.declared.program.ReadItem.{ReadItem}
use Rattle.psac_syntax.specs.declared.program.Func.{Func}
use Rattle.psac_model.specs.declared.ends.FaultKind.{FaultKind}
use Rattle.psac_model.specs.Names.{Path, Name, Env, Heap, held}
use Rattle.psac_model.specs.Expression.{Setting, value_of, in_order, or_kind}
use Rattle.psac_model.specs.Tree.{Reads}
use Rattle.psac_model.specs.Run.{Manner, by_path, by_path_in, Block, action_of, read_of, target, with_reads}
use Rattle.psac_laws.specs.Manners.{ReadsHeld}
use Rattle.psac_laws.specs.Standing.{Standing, reads_known, names_known, series_step}
use Rattle.psac_laws.proofs.Places.{and_is}
use Rattle.psac_laws.proofs.Heaps.{Known, Wider}
use Rattle.psac_laws.proofs.Rules.{only_if_is, opened}
use Rattle.psac_laws.proofs.Values.{Where, value_known}
use Rattle.psac_laws.proofs.Safe.{Safe, Matches}
use Rattle.psac_laws.proofs.Results.{ok_is, ok_then, or_kind_is}

module _ (w : Setting Name) (env : Env Name) where
  -- one read of a value, with what a heap gives
  abbrev read_by : (Name → Option (Value Name)) → Value Name → Result (Name × Value Name) FaultKind
  read_by get v = do
    m ← target v
    x ← or_kind (get m)
    Ok (m, x)

  -- a value that the heap knows is read alike
  read_value : (a : Manner) (h g : Heap) → ReadsHeld a → Wider h g → (v : Value Name) → Known h v → read_by (a.get g) v ≡ read_by (held h) v
  read_value a h g fa wi nil k = refl
  read_value a h g fa wi (bool b) k = refl
  read_value a h g fa wi (int i) k = refl
  read_value a h g fa wi (text i j) k = refl
  read_value a h g fa wi (ref m) k = rw (fa g m k.0 (wi m k.0 k.1), k.1) refl
  read_value a h g fa wi (pair m n) k = refl

  read_result : (a : Manner) (h g : Heap) → ReadsHeld a → Wider h g → (r : Result (Value Name) FaultKind) → Where (Known h) r → (r >>= read_by (a.get g)) ≡ (r >>= read_by (held h))
  read_result a h g fa wi (Ok v) k = read_value a h g fa wi v k
  read_result a h g fa wi (Err e) k = refl

  read_held : (h : Heap) (item : ReadItem) (r : Name × Value Name) → read_of by_path w env h item ≡ Ok r → held h r.0 ≡ Some r.1
  read_held h item r e =
      let a = ok_then (value_of w env item.from) _ r e in
      let b = ok_then (target a.0) _ r a.2 in
      let c = ok_then (or_kind (held h b.0)) _ r b.2 in
      let q : (b.0, c.0) ≡ r = ok_is c.2 in
      subst (λ (z : Name × Value Name). held h z.0 ≡ Some z.1) q (or_kind_is (held h b.0) c.0 c.1)

  pub reads_match : (h : Heap) (items : List ReadItem) (rs : Reads Name) → in_order (map (read_of by_path w env h) items) ≡ Ok rs → Matches w h items rs
  reads_match h [] [] e = tt
  reads_match h [] (r ∷ rs) e = absurd cc
  reads_match h (item ∷ items) rs e =
      let a = ok_then (read_of by_path w env h item) _ rs e in
      let b = ok_then (in_order (map (read_of by_path w env h) items)) _ rs a.2 in
      let q : a.0 ∷ b.0 ≡ rs = ok_is b.2 in
      subst (Matches w h (item ∷ items)) q (read_held h item a.0 a.1, reads_match h items b.0 b.1)

  module _ (funcs : List Func) (st : Standing) (h : Heap) (path : Path) (s : Safe w st env h path) where
    pub known_at : (e : Expr) → names_known st.known e ≡ true → Where (Known h) (value_of w env e)
    known_at = value_known h w s.cells s.row_count s.names env st.known s.knows

    reads_same : (a : Manner) (g : Heap) → ReadsHeld a → Wider h g → (items : List ReadItem) → reads_known st.known items ≡ true → map (read_of (by_path_in a) w env g) items ≡ map (read_of by_path w env h) items
    reads_same a g fa wi [] t = refl
    reads_same a g fa wi (item ∷ items) t =
        let b = and_is (names_known st.known item.from) (reads_known st.known items) t in
        ap (λ z. z ∷ map (read_of (by_path_in a) w env g) items) (read_result a h g fa wi (value_of w env item.from) (known_at item.from b.0)) ∙ ap (λ z. read_of by_path w env h item ∷ z) (reads_same a g fa wi items b.1)

    -- the same is asked for in each manner and on each wider heap
    pub asks_same : (a : Manner) (g : Heap) → ReadsHeld a → Wider h g → (y : Stmt-F Stmt) (mid : Standing) → series_step (opened y) st ≡ Some mid → action_of (by_path_in a) w funcs env g y ≡ action_of by_path w funcs env h y
    asks_same a g fa wi (Stmt-F.Let line x e) mid t = refl
    asks_same a g fa wi (Stmt-F.New line d) mid t = refl
    asks_same a g fa wi (Stmt-F.Write line d e) mid t = refl
    asks_same a g fa wi (Stmt-F.Read line block items body) mid t =
        let b = only_if_is (reads_known st.known items) _ mid t in
        ap (λ rs. in_order rs >>= λ reads. Ok (Block block reads body (with_reads env items reads))) (reads_same a g fa wi items b.0)
    asks_same a g fa wi (Stmt-F.If line e first second) mid t = refl
    asks_same a g fa wi (Stmt-F.Par line left right) mid t = refl
    asks_same a g fa wi (Stmt-F.Call line f values dests) mid t = refl
