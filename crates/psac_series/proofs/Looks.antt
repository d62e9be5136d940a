-- Of a checked program, a run in a way is alike the run in a manner, and its end hangs on whose stop is told alone.
use Rattle.std.proofs.Common.{◌≡◌, ℕ, zero, suc, Bool, true, false, List, [], ◌∷◌, ◌++◌, map, Some, Result, Ok, Err, refl, ap, sym, ◌∙◌, subst, inl, inr}
use Rattle.psac_ops.specs.Value.{Value, nil, bool, int, text, ref, pair}
use Rattle.psac_ops.specs.Table.{◌>>=◌}
use Rattle.psac_syntax.specs.declared.program.Stmt.{Stmt, out-Stmt}
use Rattle.psac_syntax.specs.declared.program.Stmt.TheOpen.{Stmt-F}
use Rattle.psac_syntax.specs.declared.program.ReadItem.{ReadItem}
use Rattle.psac_syntax.specs.declared.program.Func.{Func}
use Rattle.psac_model.specs.declared.ends.FaultKind.{FaultKind}
use Rattle.psac_model.specs.declared.ends.End.{End}
use Rattle.psac_model.specs.declared.ends.End.TheVariants.{Done}
use Rattle.psac_model.specs.Names.{Path, Name, Made, Env, Heap, bind, held, same_name}
use Rattle.psac_model.specs.Expression.{Setting, value_of, in_order, or_kind}
use Rattle.psac_model.specs.Tree.{A, W, R}
use Rattle.psac_model.specs.Run.{Ran, Deeper, Manner, plainly, Action, Bind, Make, Put, Body, Block, Sides, by_path, by_path_in, under, act, act_or_stop, action_of, read_of, target, with_reads, run, run_none, run_full, run_more, line_of, func_named}
use Rattle.psac_laws.specs.Manners.{ReadsHeld}
use Rattle.psac_laws.specs.Standing.{Standing, series, series_step, names_known, reads_known, MeetsSeries}
use Rattle.psac_laws.proofs.Places.{and_is, test_or}
use Rattle.psac_laws.proofs.Heaps.{Known, Wider}
use Rattle.psac_laws.proofs.Good.{Runs, wider_first, wider_left}
use Rattle.psac_laws.proofs.Pairs.{pair_runs}
use Rattle.psac_laws.proofs.Rules.{only_if_is, opened, steps}
use Rattle.psac_laws.proofs.Values.{Where}
use Rattle.psac_laws.proofs.Safe.{Safe}
use Rattle.psac_laws.proofs.Asks.{known_at, asks_same}
use Rattle.psac_laws.proofs.Acts.{Sound, Goes, Part, Begins, rest_safe}
use Rattle.psac_laws.proofs.Sound.{act_goes, run_sound}
use Rattle.psac_series.specs.Ways.{Way, FindsHeld, told_stop, sides_by, read_by, act_by, act_or_stop_by, action_by, run_by}
use Rattle.psac_series.proofs.Rounds.{by_none, by_full, by_more}
use Rattle.psac_series.proofs.Alike.{Alike, alike_is, alike_self, alike_under, alike_sequence, alike_sides, ends_sequence}

-- the manner with the order of a way
abbrev pub manner_of : Way → Manner
manner_of a = record { get = held; left_first = a.left_first }

pub manner_reads_held : (a : Way) → ReadsHeld (manner_of a)
manner_reads_held a h m v e = e

wider_cons : (h g : Heap) (n : Name) (v : Value Name) → Wider h g → Wider ((n, v) ∷ h) ((n, v) ∷ g)
wider_cons h g n v wi m u e =
    elim (test_or (same_name n m)) [
      | inl t ↦ (let k : Some v ≡ Some u = rw t at e in rw t k)
      | inr t ↦ (let k : held h m ≡ Some u = rw t at e in rw t (wi m u k))
    ]

module _ (w : Setting Name) (funcs : List Func) where
  module _ (a : Way) (finds : FindsHeld a) where
    -- one read of a value, with what a look gives
    abbrev looked : Heap → Value Name → Result (Name × Value Name) FaultKind
    looked heap v = do
      m ← target v
      x ← a.look heap m
      Ok (m, x)

    abbrev plain_looked : Heap → Value Name → Result (Name × Value Name) FaultKind
    plain_looked heap v = do
      m ← target v
      x ← or_kind (held heap m)
      Ok (m, x)

    -- a value that the heap knows is found
    look_known : (h g : Heap) → Wider h g → (v : Value Name) → Known h v → looked g v ≡ plain_looked h v
    look_known h g wi nil k = refl
    look_known h g wi (bool b) k = refl
    look_known h g wi (int i) k = refl
    look_known h g wi (text i j) k = refl
    look_known h g wi (ref m) k = rw (finds g m k.0 (wi m k.0 k.1), k.1) refl
    look_known h g wi (pair m n) k = refl

    look_result : (h g : Heap) → Wider h g → (r : Result (Value Name) FaultKind) → Where (Known h) r
        → (r >>= looked g) ≡ (r >>= plain_looked h)
    look_result h g wi (Ok v) k = look_known h g wi v k
    look_result h g wi (Err e) k = refl

    module _ (st : Standing) (env : Env Name) (h g : Heap) (path : Path) (s : Safe w st env h path)
        (wi : Wider h g) where
      reads_found : (items : List ReadItem) → reads_known st.known items ≡ true
          → map (read_by a w env g) items ≡ map (read_of by_path w env h) items
      reads_found [] t = refl
      reads_found (item ∷ items) t =
          let b = and_is (names_known st.known item.from) (reads_known st.known items) t in
          ap (λ z. z ∷ map (read_by a w env g) items)
          (look_result h g wi (value_of w env item.from) (known_at w env funcs st h path s item.from b.0))
          ∙ ap (λ z. read_of by_path w env h item ∷ z) (reads_found items b.1)

      -- the same is asked for as over the narrower heap
      asks_found : (y : Stmt-F Stmt) (mid : Standing) → series_step (opened y) st ≡ Some mid
          → action_by a w funcs env g y ≡ action_of by_path w funcs env h y
      asks_found (Stmt-F.Let line x e) mid t = refl
      asks_found (Stmt-F.New line d) mid t = refl
      asks_found (Stmt-F.Write line d e) mid t = refl
      asks_found (Stmt-F.Read line block items body) mid t =
          let b = only_if_is (reads_known st.known items) _ mid t in
          ap (λ rs. in_order rs >>= λ reads. Ok (Block block reads body (with_reads env items reads)))
          (reads_found items b.0)
      asks_found (Stmt-F.If line e first second) mid t = refl
      asks_found (Stmt-F.Par line left right) mid t = refl
      asks_found (Stmt-F.Call line f values dests) mid t = refl

  module _ (checked : (f : ℕ) (g : Func) → func_named f funcs ≡ Some g → MeetsSeries g) where
    abbrev fs : ℕ → Manner → Deeper Name Heap
    fs room m = run (by_path_in m) w funcs room

    abbrev sound : (room : ℕ) → Sound w (fs room)
    sound room = run_sound w funcs checked room

    -- deeper runs in a way are alike those in its manner
    abbrev AreAlike : Way → ℕ → Type 0
    AreAlike a room = (body : List Stmt) (st end : Standing) (env : Env Name) (h g : Heap) (path : Path)
        → series body st ≡ Some end → Safe w st env h path → Wider h g
        → Alike (run_by a w funcs room body env g path) (fs room (manner_of a) body env g path)

    module _ (room line : ℕ) (rest : List Stmt) (st mid end : Standing) (env : Env Name) (h g : Heap) (path : Path)
        (more : series rest mid ≡ Some end) (safe : Safe w st env h path) (wi : Wider h g) where
      abbrev goes : Action Name → Type 0
      goes = Goes w funcs (fs room) (sound room) line rest st mid end env h path more safe

      abbrev part : Runs → Type 0
      part = Part w funcs (fs room) (sound room) line rest st mid end env h path more safe

      abbrev begins : List Stmt → Env Name → Path → Type 0
      begins = Begins w funcs (fs room) (sound room) line rest st mid end env h path more safe

      -- where a part is done in a manner, the rest begins as it needs
      after_part : (f : Runs) (q : part f) (m : Manner) → ReadsHeld m → (f m g).end ≡ Done
          → Safe w mid env (f plainly h).heap (path ++ 1 ∷ [])
      after_part f q m reads done = rest_safe w funcs (fs room)
          (sound room) line rest st mid end env h path more safe f q (sym (q.good.frame m g reads wi).end ∙ done)

      -- a side leaves a wider heap
      side_wider : (body : List Stmt) (inner : Env Name) (p : Path) → begins body inner p → (m : Manner) → ReadsHeld m
          → Wider h (fs room m body inner g p).heap
      side_wider body inner p b m reads = wider_first (sound room body b.names b.after inner h p b.meets b.safe) m g
          reads wi

      module _ (a : Way) (finds : FindsHeld a) (ih : AreAlike a room) where
        abbrev m : Manner
        m = manner_of a

        abbrev reads : ReadsHeld m
        reads = manner_reads_held a

        rest_alike : (f : Runs) → part f → (f m g).end ≡ Done
            → Alike (run_by a w funcs room rest env (f m g).heap (path ++ 1 ∷ []))
            (fs room m rest env (f m g).heap (path ++ 1 ∷ []))
        rest_alike f q done =
            ih rest mid end env (f plainly h).heap (f m g).heap (path ++ 1 ∷ []) more (after_part f q m reads done)
            (wider_left q.good m g reads wi)

        sides_alike : (left right : List Stmt) → begins left env (path ++ 0 ∷ 0 ∷ [])
            → begins right env (path ++ 0 ∷ 1 ∷ [])
            → Alike (sides_by (a.left_first path) (a.left_told path)
            (λ before. run_by a w funcs room left env before (path ++ 0 ∷ 0 ∷ []))
            (λ before. run_by a w funcs room right env before (path ++ 0 ∷ 1 ∷ [])) g)
            (pair_runs path (λ n z. fs room n left env z (path ++ 0 ∷ 0 ∷ []))
            (λ n z. fs room n right env z (path ++ 0 ∷ 1 ∷ [])) m g)
        sides_alike left right b c =
            let p = path ++ 0 ∷ 0 ∷ [] in
            let q = path ++ 0 ∷ 1 ∷ [] in
            alike_sides (a.left_first path) (a.left_told path) (λ before. run_by a w funcs room left env before p)
            (λ before. fs room m left env before p) (λ before. run_by a w funcs room right env before q)
            (λ before. fs room m right env before q) g
            (ih left b.names b.after env h g p b.meets b.safe wi)
            (ih right c.names c.after env h g q c.meets c.safe wi)
            (ih right c.names c.after env h (fs room m left env g p).heap q c.meets c.safe
            (side_wider left env p b m reads))
            (ih left b.names b.after env h (fs room m right env g q).heap p b.meets b.safe
            (side_wider right env q c m reads))

        act_alike : (asked : Action Name) → goes asked
            → Alike (act_by a (run_by a w funcs room) asked rest env g path)
            (act (by_path_in m) (fs room m) asked rest env g path)
        act_alike (Bind x v) k = ih rest mid end (bind x v env) h g path more k.3 wi
        act_alike (Make d) k =
            alike_under A _ _ (ih rest mid end (bind d (ref (Made path)) env) h g (path ++ 3 ∷ []) more k.2 wi)
        act_alike (Put n v) k =
            alike_under (W n v) _ _ (ih rest mid end env ((n, v) ∷ h) ((n, v) ∷ g) (path ++ 3 ∷ []) more k.1
            (wider_cons h g n v wi))
        act_alike (Body body inner) k =
            alike_sequence _ _ (λ after. run_by a w funcs room rest env after (path ++ 1 ∷ []))
            (λ after. fs room m rest env after (path ++ 1 ∷ []))
            (ih body k.0.names k.0.after inner h g (path ++ 0 ∷ []) k.0.meets k.0.safe wi)
            (rest_alike (λ n z. fs room n body inner z (path ++ 0 ∷ [])) k.1)
        act_alike (Block block seen body inner) k =
            alike_sequence _ _ (λ after. run_by a w funcs room rest env after (path ++ 1 ∷ []))
            (λ after. fs room m rest env after (path ++ 1 ∷ []))
            (alike_under (R block env seen) _ _
            (ih body k.1.names k.1.after inner h g (path ++ 0 ∷ 2 ∷ []) k.1.meets k.1.safe wi))
            (rest_alike (λ n z. under (R block env seen) (fs room n body inner z (path ++ 0 ∷ 2 ∷ []))) k.2)
        act_alike (Sides left right) k =
            alike_sequence _ _ (λ after. run_by a w funcs room rest env after (path ++ 1 ∷ []))
            (λ after. fs room m rest env after (path ++ 1 ∷ []))
            (sides_alike left right k.0 k.1)
            (rest_alike (pair_runs path (λ n z. fs room n left env z (path ++ 0 ∷ 0 ∷ []))
            (λ n z. fs room n right env z (path ++ 0 ∷ 1 ∷ []))) k.2)

        result_alike : (r : Result (Action Name) FaultKind) → Where goes r
            → Alike (act_or_stop_by a (run_by a w funcs room) r line rest env g path)
            (act_or_stop (by_path_in m) (fs room m) r line rest env g path)
        result_alike (Ok asked) k = act_alike asked k
        result_alike (Err why) k = alike_self _

    pub run_alike : (a : Way) → FindsHeld a → (room : ℕ) → AreAlike a room
    run_alike a finds room [] st end env h g path t s wi =
        alike_is _ _ _ _ (sym (by_none a w funcs room env g path))
        (sym (run_none (by_path_in (manner_of a)) w funcs room env g path)) (alike_self _)
    run_alike a finds zero (x ∷ rest) st end env h g path t s wi =
        alike_is _ _ _ _ (sym (by_full a w funcs x rest env g path))
        (sym (run_full (by_path_in (manner_of a)) w funcs x rest env g path)) (alike_self _)
    run_alike a finds (suc room) (x ∷ rest) st end env h g path t s wi =
        let p = steps x rest st end t in
        let line = line_of (out-Stmt x) in
        let m = manner_of a in
        let asked = action_of by_path w funcs env h (out-Stmt x) in
        alike_is _ _ _ _
        (ap (λ z. act_or_stop_by a (run_by a w funcs room) z line rest env g path)
        (sym (asks_found a finds st env h g path s wi (out-Stmt x) p.mid p.first))
        ∙ sym (by_more a w funcs room x rest env g path))
        (ap (λ z. act_or_stop (by_path_in m) (fs room m) z line rest env g path)
        (sym (asks_same w env funcs st h path s m g (manner_reads_held a) wi (out-Stmt x) p.mid p.first))
        ∙ sym (run_more (by_path_in m) w funcs room x rest env g path))
        (result_alike room line rest st p.mid end env h g path p.rest s wi a finds (run_alike a finds room) asked
        (act_goes w funcs checked (fs room) (sound room) line rest st p.mid end env h path p.rest s
        (out-Stmt x) p.first))

    -- heaps over which the two sides of a par run, and the end that is told of both
    record SideEnds (h : Heap) (told : Bool) (f k : Heap → Ran Name Heap) (e : End) : Type 0 where
      one : Heap
      two : Heap
      one_wider : Wider h one
      two_wider : Wider h two
      is : e ≡ told_stop told (f one).end (k two).end

    side_ends : (h : Heap) (first told : Bool) (f k : Heap → Ran Name Heap) (u : Heap) → Wider h u
        → Wider h (f u).heap → Wider h (k u).heap → SideEnds h told f k (sides_by first told f k u).end
    side_ends h true told f k u wi l r = record { one = u; two = (f u).heap; one_wider = wi; two_wider = l; is = refl }
    side_ends h false told f k u wi l r = record { one = (k u).heap; two = u; one_wider = r; two_wider = wi; is = refl }

    module _ (a b : Way) (fa : FindsHeld a) (fb : FindsHeld b)
        (told : (path : Path) → a.left_told path ≡ b.left_told path) where
      -- deeper runs in both ways end alike
      abbrev SameEnds : ℕ → Type 0
      SameEnds room = (body : List Stmt) (st end : Standing) (env : Env Name) (h u v : Heap) (path : Path)
          → series body st ≡ Some end → Safe w st env h path → Wider h u → Wider h v
          → (run_by a w funcs room body env u path).end ≡ (run_by b w funcs room body env v path).end

      module _ (room line : ℕ) (rest : List Stmt) (st mid end : Standing) (env : Env Name) (h u v : Heap)
          (path : Path) (more : series rest mid ≡ Some end) (safe : Safe w st env h path) (wu : Wider h u)
          (wv : Wider h v) (ih : SameEnds room) where
        rest_ends : (f : Runs) → part room line rest st mid end env h u path more safe wu f → (s r : Ran Name Heap)
            → Alike s (f (manner_of a) u) → Alike r (f (manner_of b) v) → s.end ≡ Done
            → (run_by a w funcs room rest env s.heap (path ++ 1 ∷ [])).end ≡
            (run_by b w funcs room rest env r.heap (path ++ 1 ∷ [])).end
        rest_ends f q s r x y e =
            ih rest mid end env (f plainly h).heap s.heap r.heap (path ++ 1 ∷ []) more
            (after_part room line rest st mid end env h u path more safe wu f q (manner_of a) (manner_reads_held a)
            (x.on e))
            (subst (Wider (f plainly h).heap) (sym x.heap) (wider_left q.good (manner_of a) u (manner_reads_held a) wu))
            (subst (Wider (f plainly h).heap) (sym y.heap) (wider_left q.good (manner_of b) v (manner_reads_held b) wv))

        -- a side leaves a wider heap in a way, too
        way_wider : (c : Way) → FindsHeld c → (z : Heap) (wz : Wider h z) (body : List Stmt) (p : Path)
            → begins room line rest st mid end env h z path more safe wz body env p
            → Wider h (run_by c w funcs room body env z p).heap
        way_wider c fc z wz body p k =
            subst (Wider h) (sym (run_alike c fc room body k.names k.after env h z p k.meets k.safe wz).heap)
            (side_wider room line rest st mid end env h z path more safe wz body env p k (manner_of c)
            (manner_reads_held c))

        pair_ends : (left right : List Stmt) → begins room line rest st mid end env h u path more safe wu left env
            (path ++ 0 ∷ 0 ∷ []) → begins room line rest st mid end env h u path more safe wu right env
            (path ++ 0 ∷ 1 ∷ []) → (sides_by (a.left_first path) (a.left_told path)
            (λ before. run_by a w funcs room left env before (path ++ 0 ∷ 0 ∷ []))
            (λ before. run_by a w funcs room right env before (path ++ 0 ∷ 1 ∷ [])) u).end ≡
            (sides_by (b.left_first path) (b.left_told path)
            (λ before. run_by b w funcs room left env before (path ++ 0 ∷ 0 ∷ []))
            (λ before. run_by b w funcs room right env before (path ++ 0 ∷ 1 ∷ [])) v).end
        pair_ends left right k l =
            let p = path ++ 0 ∷ 0 ∷ [] in
            let q = path ++ 0 ∷ 1 ∷ [] in
            let f : Heap → Ran Name Heap = λ before. run_by a w funcs room left env before p in
            let g : Heap → Ran Name Heap = λ before. run_by a w funcs room right env before q in
            let f' : Heap → Ran Name Heap = λ before. run_by b w funcs room left env before p in
            let g' : Heap → Ran Name Heap = λ before. run_by b w funcs room right env before q in
            let x = side_ends h (a.left_first path) (a.left_told path) f g u wu (way_wider a fa u wu left p k)
            (way_wider a fa u wu right q l) in
            let y = side_ends h (b.left_first path) (b.left_told path) f' g' v wv (way_wider b fb v wv left p k)
            (way_wider b fb v wv right q l) in
            x.is
            ∙ ap (λ z. told_stop z (f x.one).end (g x.two).end) (told path)
            ∙ ap (λ z. told_stop (b.left_told path) z (g x.two).end)
            (ih left k.names k.after env h x.one y.one p k.meets k.safe x.one_wider y.one_wider)
            ∙ ap (λ z. told_stop (b.left_told path) (f' y.one).end z)
            (ih right l.names l.after env h x.two y.two q l.meets l.safe x.two_wider y.two_wider)
            ∙ sym y.is

        act_ends : (asked : Action Name) → goes room line rest st mid end env h u path more safe wu asked
            → (act_by a (run_by a w funcs room) asked rest env u path).end ≡
            (act_by b (run_by b w funcs room) asked rest env v path).end
        act_ends (Bind x e) k = ih rest mid end (bind x e env) h u v path more k.3 wu wv
        act_ends (Make d) k = ih rest mid end (bind d (ref (Made path)) env) h u v (path ++ 3 ∷ []) more k.2 wu wv
        act_ends (Put n e) k =
            ih rest mid end env ((n, e) ∷ h) ((n, e) ∷ u) ((n, e) ∷ v) (path ++ 3 ∷ []) more k.1
            (wider_cons h u n e wu) (wider_cons h v n e wv)
        act_ends (Body body inner) k =
            let p = path ++ 0 ∷ [] in
            ends_sequence _ _ (λ after. run_by a w funcs room rest env after (path ++ 1 ∷ []))
            (λ after. run_by b w funcs room rest env after (path ++ 1 ∷ []))
            (ih body k.0.names k.0.after inner h u v p k.0.meets k.0.safe wu wv)
            (rest_ends (λ n z. fs room n body inner z p) k.1 _ _
            (run_alike a fa room body k.0.names k.0.after inner h u p k.0.meets k.0.safe wu)
            (run_alike b fb room body k.0.names k.0.after inner h v p k.0.meets k.0.safe wv))
        act_ends (Block block seen body inner) k =
            let p = path ++ 0 ∷ 2 ∷ [] in
            ends_sequence _ _ (λ after. run_by a w funcs room rest env after (path ++ 1 ∷ []))
            (λ after. run_by b w funcs room rest env after (path ++ 1 ∷ []))
            (ih body k.1.names k.1.after inner h u v p k.1.meets k.1.safe wu wv)
            (rest_ends (λ n z. under (R block env seen) (fs room n body inner z p)) k.2 _ _
            (alike_under (R block env seen) _ _
            (run_alike a fa room body k.1.names k.1.after inner h u p k.1.meets k.1.safe wu))
            (alike_under (R block env seen) _ _
            (run_alike b fb room body k.1.names k.1.after inner h v p k.1.meets k.1.safe wv)))
        act_ends (Sides left right) k =
            ends_sequence _ _ (λ after. run_by a w funcs room rest env after (path ++ 1 ∷ []))
            (λ after. run_by b w funcs room rest env after (path ++ 1 ∷ []))
            (pair_ends left right k.0 k.1)
            (rest_ends (pair_runs path (λ n z. fs room n left env z (path ++ 0 ∷ 0 ∷ []))
            (λ n z. fs room n right env z (path ++ 0 ∷ 1 ∷ []))) k.2 _ _
            (sides_alike room line rest st mid end env h u path more safe wu a fa
            (run_alike a fa room) left right k.0 k.1)
            (sides_alike room line rest st mid end env h v path more safe wv b fb
            (run_alike b fb room) left right k.0 k.1))

        result_ends : (r : Result (Action Name) FaultKind)
            → Where (goes room line rest st mid end env h u path more safe wu) r
            → (act_or_stop_by a (run_by a w funcs room) r line rest env u path).end ≡
            (act_or_stop_by b (run_by b w funcs room) r line rest env v path).end
        result_ends (Ok asked) k = act_ends asked k
        result_ends (Err why) k = refl

      abbrev end_of : Ran Name Heap → End
      end_of r = r.end

      pub run_ends : (room : ℕ) → SameEnds room
      run_ends room [] st end env h u v path t s wu wv = ap end_of (by_none a w funcs room env u path)
          ∙ sym (ap end_of (by_none b w funcs room env v path))
      run_ends zero (x ∷ rest) st end env h u v path t s wu wv = ap end_of (by_full a w funcs x rest env u path)
          ∙ sym (ap end_of (by_full b w funcs x rest env v path))
      run_ends (suc room) (x ∷ rest) st end env h u v path t s wu wv =
          let p = steps x rest st end t in
          let line = line_of (out-Stmt x) in
          let asked = action_of by_path w funcs env h (out-Stmt x) in
          ap end_of (by_more a w funcs room x rest env u path)
          ∙ ap (λ z. end_of (act_or_stop_by a (run_by a w funcs room) z line rest env u path))
          (asks_found a fa st env h u path s wu (out-Stmt x) p.mid p.first)
          ∙ result_ends room line rest st p.mid end env h u v path p.rest s wu wv (run_ends room) asked
          (act_goes w funcs checked (fs room) (sound room) line rest st p.mid end env h path p.rest s
          (out-Stmt x) p.first)
          ∙ sym (ap end_of (by_more b w funcs room x rest env v path)
          ∙ ap (λ z. end_of (act_or_stop_by b (run_by b w funcs room) z line rest env v path))
          (asks_found b fb st env h v path s wv (out-Stmt x) p.mid p.first))
