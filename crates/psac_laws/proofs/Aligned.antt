-- Two runs of one body, from one environment, differ only inside blocks that read different values.
use Rattle.std.proofs.Common.{◌≡◌, ℕ, suc, zero, List, [], ◌∷◌, ◌++◌, map, Some, Result, Ok, Err, refl, ap, sym, ◌∙◌, subst}
use Rattle.psac_ops.specs.Value.{Value}
use Rattle.psac_ops.specs.Table.{◌>>=◌}
use Rattle.psac_syntax.specs.declared.program.Stmt.{Stmt, out-Stmt}
use Rattle.psac_syntax.specs.declared.program.Stmt.TheOpen.{Stmt-F}
use Rattle.psac_syntax.specs.declared.program.ReadItem.{ReadItem}
use Rattle.psac_syntax.specs.declared.program.Func.{Func}
use Rattle.psac_model.specs.declared.ends.FaultKind.{FaultKind}
use Rattle.psac_model.specs.declared.ends.FaultKind.TheVariants.{TooDeep}
use Rattle.psac_model.specs.declared.ends.End.{End}
use Rattle.psac_model.specs.declared.ends.End.TheVariants.{Done, Stop}
use Rattle.psac_model.specs.Names.{Path, Name, Env, Heap, held}
use Rattle.psac_model.specs.Expression.{Setting, value_of, in_order, or_kind}
use Rattle.psac_model.specs.Tree.{Tree, E, A, W, S, P, R, Reads}
use Rattle.psac_model.specs.Run.{Ran, under, sequence, sequence_by, both, first_stop, Manner, plainly, by_path, by_path_in, Deeper, Action, Bind, Make, Put, Body, Block, Sides, action_of, read_of, act, act_or_stop, line_of, target, with_reads, func_named, run, run_none, run_full, run_more}
use Rattle.psac_laws.specs.Standing.{Standing, series, MeetsSeries}
use Rattle.psac_laws.proofs.Good.{plainly_reads_held, wider_same, wider_first}
use Rattle.psac_laws.proofs.Pairs.{pair_runs}
use Rattle.psac_laws.proofs.Rules.{steps}
use Rattle.psac_laws.proofs.Values.{Where}
use Rattle.psac_laws.proofs.Safe.{Safe}
use Rattle.psac_laws.proofs.Results.{ok_is, ok_then}
use Rattle.psac_laws.proofs.Acts.{Sound, Goes, Begins, rest_safe}
use Rattle.psac_laws.proofs.Sound.{act_goes, run_sound}

-- two trees of one shape: the same writes, and the same blocks with reads of the same names; where the reads are the same, so inside the block
abbrev pub Aligned : Tree Name → Tree Name → Type 0
Aligned E E = Unit {0}
Aligned (A s) (A t) = Aligned s t
Aligned (W m v s) (W n u t) = (m ≡ n) × (v ≡ u) × Aligned s t
Aligned (S a s) (S b t) = Aligned a b × Aligned s t
Aligned (P a s) (P b t) = Aligned a b × Aligned s t
Aligned (R i e rs s) (R j f qs t) = (i ≡ j) × (e ≡ f) × (map (λ (r : Name × Value Name). r.0) rs ≡ map (λ (r : Name × Value Name). r.0) qs) × (rs ≡ qs → Aligned s t)
Aligned _ _ = ⊥

stop_done : {A : Type 0} (k : FaultKind) (n : ℕ) → Stop k n ≡ Done → A
stop_done k n e = absurd (let c : Stop k n ≡ Done = e in cc)

-- a compound statement and its rest that are done
pub record Through (t : Ran Name Heap) (rest : Heap → Ran Name Heap) : Type 0 where
  pub first : t.end ≡ Done
  pub is : sequence t rest ≡ under (S t.tree) (rest t.heap)
  pub last : (rest t.heap).end ≡ Done

through_by : (e : End) (t : Ran Name Heap) (rest : Heap → Ran Name Heap) → t.end ≡ e → (sequence_by e t rest).end ≡ Done → Through t rest
through_by Done t rest q h = record { first = q; is = rw q refl; last = h }
through_by (Stop k n) t rest q h = stop_done k n h

pub through : (t : Ran Name Heap) (rest : Heap → Ran Name Heap) → (sequence t rest).end ≡ Done → Through t rest
through t rest h = through_by t.end t rest refl h

firsts : (a b : End) → first_stop a b ≡ Done → (a ≡ Done) × (b ≡ Done)
firsts Done b e = (refl, e)
firsts (Stop k n) b e = stop_done k n e

seq_aligned : (t u : Ran Name Heap) (f g : Heap → Ran Name Heap) → Through t f → Through u g → Aligned t.tree u.tree → Aligned (f t.heap).tree (g u.heap).tree → Aligned (sequence t f).tree (sequence u g).tree
seq_aligned t u f g x y a b = rw (x.is, y.is) (a, b)

module _ (w : Setting Name) (env : Env Name) (h g : Heap) where
  read_name : (item : ReadItem) (r q : Name × Value Name) → read_of by_path w env h item ≡ Ok r → read_of by_path w env g item ≡ Ok q → r.0 ≡ q.0
  read_name item r q e f =
      let a = ok_then (value_of w env item.from) _ r e in
      let b = ok_then (target a.0) _ r a.2 in
      let c = ok_then (or_kind (held h b.0)) _ r b.2 in
      let i = ok_then (value_of w env item.from) _ q f in
      let j = ok_then (target i.0) _ q i.2 in
      let k = ok_then (or_kind (held g j.0)) _ q j.2 in
      let same_value : a.0 ≡ i.0 = ok_is (sym a.1 ∙ i.1) in
      let same_name : b.0 ≡ j.0 = ok_is (sym b.1 ∙ ap target same_value ∙ j.1) in
      let left : (b.0, c.0) ≡ r = ok_is c.2 in
      let right : (j.0, k.0) ≡ q = ok_is k.2 in
      sym (ap (λ (z : Name × Value Name). z.0) left) ∙ same_name ∙ ap (λ (z : Name × Value Name). z.0) right

  read_names : (items : List ReadItem) (rs qs : Reads Name) → in_order (map (read_of by_path w env h) items) ≡ Ok rs → in_order (map (read_of by_path w env g) items) ≡ Ok qs → map (λ (r : Name × Value Name). r.0) rs ≡ map (λ (r : Name × Value Name). r.0) qs
  read_names [] rs qs e f = ap (map (λ (r : Name × Value Name). r.0)) (sym (ok_is e) ∙ ok_is f)
  read_names (item ∷ items) rs qs e f =
      let a = ok_then (read_of by_path w env h item) _ rs e in
      let b = ok_then (in_order (map (read_of by_path w env h) items)) _ rs a.2 in
      let c = ok_then (read_of by_path w env g item) _ qs f in
      let d = ok_then (in_order (map (read_of by_path w env g) items)) _ qs c.2 in
      let one = read_name item a.0 c.0 a.1 c.1 in
      let more = read_names items b.0 d.0 b.1 d.1 in
      let left : a.0 ∷ b.0 ≡ rs = ok_is b.2 in
      let right : c.0 ∷ d.0 ≡ qs = ok_is d.2 in
      sym (ap (map (λ (r : Name × Value Name). r.0)) left) ∙ ap (λ z. z ∷ map (λ (r : Name × Value Name). r.0) b.0) one ∙ ap (λ z. c.0.0 ∷ z) more ∙ ap (map (λ (r : Name × Value Name). r.0)) right

abbrev pub Aligns : Setting Name → Deeper Name Heap → Type 0
Aligns w f = (body : List Stmt) (st end st' end' : Standing) (env : Env Name) (h g : Heap) (path : Path) → series body st ≡ Some end → series body st' ≡ Some end' → Safe w st env h path → Safe w st' env g path → (f body env h path).end ≡ Done → (f body env g path).end ≡ Done → Aligned (f body env h path).tree (f body env g path).tree

module _ (w : Setting Name) (funcs : List Func) (fs : Manner → Deeper Name Heap) (sound : Sound w fs) (aligns : Aligns w (fs plainly)) (line : ℕ) (rest : List Stmt) (env : Env Name) (path : Path)
    (st mid end : Standing) (h : Heap) (more : series rest mid ≡ Some end) (s : Safe w st env h path)
    (st' mid' end' : Standing) (g : Heap) (more' : series rest mid' ≡ Some end') (s' : Safe w st' env g path) where
  abbrev GoesH : Action Name → Type 0
  GoesH = Goes w funcs fs sound line rest st mid end env h path more s

  abbrev GoesG : Action Name → Type 0
  GoesG = Goes w funcs fs sound line rest st' mid' end' env g path more' s'

  abbrev ran : Action Name → Heap → Ran Name Heap
  ran a k = act by_path (fs plainly) a rest env k path

  begun : (body : List Stmt) (ienv : Env Name) (p : Path) (k : Heap) → Begins w funcs fs sound line rest st mid end env h path more s body ienv p → Begins w funcs fs sound line rest st' mid' end' env g path more' s' body ienv p → (fs plainly body ienv h p).end ≡ Done → (fs plainly body ienv g p).end ≡ Done → Aligned (fs plainly body ienv h p).tree (fs plainly body ienv g p).tree
  begun body ienv p k x y d e = aligns body x.names x.after y.names y.after ienv h g p x.meets y.meets x.safe y.safe d e

  block_aligned : (block : ℕ) (reads qs : Reads Name) (body : List Stmt) (inner inner' : Env Name) → GoesH (Block block reads body inner) → GoesG (Block block qs body inner') → map (λ (r : Name × Value Name). r.0) reads ≡ map (λ (r : Name × Value Name). r.0) qs → (reads ≡ qs → inner ≡ inner') → (ran (Block block reads body inner) h).end ≡ Done → (ran (Block block qs body inner') g).end ≡ Done → Aligned (ran (Block block reads body inner) h).tree (ran (Block block qs body inner') g).tree
  block_aligned block reads qs body inner inner' i j names same d e =
      let p = path ++ 0 ∷ 2 ∷ [] in
      let t = under (R block env reads) (fs plainly body inner h p) in
      let u = under (R block env qs) (fs plainly body inner' g p) in
      let x = through t (λ after. fs plainly rest env after (path ++ 1 ∷ [])) d in
      let y = through u (λ after. fs plainly rest env after (path ++ 1 ∷ [])) e in
      seq_aligned t u _ _ x y (
        refl,
        refl,
        names,
        λ q.
            subst (λ z. Begins w funcs fs sound line rest st' mid' end' env g path more' s' body z p → (fs plainly body z g p).end ≡ Done → Aligned (fs plainly body inner h p).tree (fs plainly body z g p).tree) (same q)
            (λ b f. begun body inner p h i.1 b x.first f) j.1 y.first,
      )
      (aligns rest mid end mid' end' env t.heap u.heap (path ++ 1 ∷ []) more more'
      (rest_safe w funcs fs sound line rest st mid end env h path more s (λ a k. under (R block env reads) (fs a body inner k p)) i.2 x.first)
      (rest_safe w funcs fs sound line rest st' mid' end' env g path more' s' (λ a k. under (R block env qs) (fs a body inner' k p)) j.2 y.first) x.last y.last)

  sides_aligned : (left right : List Stmt) → GoesH (Sides left right) → GoesG (Sides left right) → (ran (Sides left right) h).end ≡ Done → (ran (Sides left right) g).end ≡ Done → Aligned (ran (Sides left right) h).tree (ran (Sides left right) g).tree
  sides_aligned left right i j d e =
      let p = path ++ 0 ∷ 0 ∷ [] in
      let k = path ++ 0 ∷ 1 ∷ [] in
      let l = fs plainly left env h p in
      let m = fs plainly left env g p in
      let q = fs plainly right env l.heap k in
      let r = fs plainly right env m.heap k in
      let t = both l (λ before. fs plainly right env before k) in
      let u = both m (λ before. fs plainly right env before k) in
      let x = through t (λ after. fs plainly rest env after (path ++ 1 ∷ [])) d in
      let y = through u (λ after. fs plainly rest env after (path ++ 1 ∷ [])) e in
      let xs = firsts l.end q.end x.first in
      let ys = firsts m.end r.end y.first in
      let lh = sound left i.0.names i.0.after env h p i.0.meets i.0.safe in
      let lg = sound left j.0.names j.0.after env g p j.0.meets j.0.safe in
      let rh = sound right i.1.names i.1.after env h k i.1.meets i.1.safe in
      let rg = sound right j.1.names j.1.after env g k j.1.meets j.1.safe in
      let qh = rh.frame plainly l.heap plainly_reads_held (wider_first lh plainly h plainly_reads_held (wider_same h)) in
      let qg = rg.frame plainly m.heap plainly_reads_held (wider_first lg plainly g plainly_reads_held (wider_same g)) in
      let inner = begun right env k h i.1 j.1 (sym qh.end ∙ xs.1) (sym qg.end ∙ ys.1) in
      seq_aligned t u _ _ x y (
        begun left env p h i.0 j.0 xs.0 ys.0,
        subst (λ z. Aligned z r.tree) (sym qh.tree) (subst (λ z. Aligned (fs plainly right env h k).tree z) (sym qg.tree) inner),
      )
      (aligns rest mid end mid' end' env t.heap u.heap (path ++ 1 ∷ []) more more'
      (rest_safe w funcs fs sound line rest st mid end env h path more s (pair_runs path (λ a k'. fs a left env k' p) (λ a k'. fs a right env k' k)) i.2 x.first)
      (rest_safe w funcs fs sound line rest st' mid' end' env g path more' s' (pair_runs path (λ a k'. fs a left env k' p) (λ a k'. fs a right env k' k)) j.2 y.first) x.last y.last)

  act_aligned : (a : Action Name) → GoesH a → GoesG a → (ran a h).end ≡ Done → (ran a g).end ≡ Done → Aligned (ran a h).tree (ran a g).tree
  act_aligned (Bind x v) i j d e = aligns rest mid end mid' end' _ h g path more more' i.3 j.3 d e
  act_aligned (Make x) i j d e = aligns rest mid end mid' end' _ h g (path ++ 3 ∷ []) more more' i.2 j.2 d e
  act_aligned (Put m v) i j d e = (refl, refl, aligns rest mid end mid' end' env ((m, v) ∷ h) ((m, v) ∷ g) (path ++ 3 ∷ []) more more' i.1 j.1 d e)
  act_aligned (Body body inner) i j d e =
      let p = path ++ 0 ∷ [] in
      let t = fs plainly body inner h p in
      let u = fs plainly body inner g p in
      let x = through t (λ after. fs plainly rest env after (path ++ 1 ∷ [])) d in
      let y = through u (λ after. fs plainly rest env after (path ++ 1 ∷ [])) e in
      seq_aligned t u _ _ x y (begun body inner p h i.0 j.0 x.first y.first)
      (aligns rest mid end mid' end' env t.heap u.heap (path ++ 1 ∷ []) more more'
      (rest_safe w funcs fs sound line rest st mid end env h path more s (λ a k. fs a body inner k p) i.1 x.first)
      (rest_safe w funcs fs sound line rest st' mid' end' env g path more' s' (λ a k. fs a body inner k p) j.1 y.first) x.last y.last)
  act_aligned (Block block reads body inner) i j d e = block_aligned block reads reads body inner inner i j refl (λ q. refl) d e
  act_aligned (Sides left right) i j d e = sides_aligned left right i j d e

  abbrev asked : Result (Action Name) FaultKind → Heap → Ran Name Heap
  asked r k = act_or_stop by_path (fs plainly) r line rest env k path

  result_aligned : (r : Result (Action Name) FaultKind) → Where GoesH r → Where GoesG r → (asked r h).end ≡ Done → (asked r g).end ≡ Done → Aligned (asked r h).tree (asked r g).tree
  result_aligned (Ok a) i j d e = act_aligned a i j d e
  result_aligned (Err k) i j d e = stop_done k line d

  abbrev block_of : ℕ → List ReadItem → List Stmt → Reads Name → Result (Action Name) FaultKind
  block_of block items body reads = Ok (Block block reads body (with_reads env items reads))

  read_aligned : (block : ℕ) (items : List ReadItem) (body : List Stmt) (r q : Result (Reads Name) FaultKind) → in_order (map (read_of by_path w env h) items) ≡ r → in_order (map (read_of by_path w env g) items) ≡ q → Where GoesH (r >>= block_of block items body) → Where GoesG (q >>= block_of block items body) → (asked (r >>= block_of block items body) h).end ≡ Done → (asked (q >>= block_of block items body) g).end ≡ Done → Aligned (asked (r >>= block_of block items body) h).tree (asked (q >>= block_of block items body) g).tree
  read_aligned block items body (Ok rs) (Ok qs) a b i j d e =
      block_aligned block rs qs body (with_reads env items rs) (with_reads env items qs) i j (read_names w env h g items rs qs a b) (ap (with_reads env items)) d e
  read_aligned block items body (Err k) q a b i j d e = stop_done k line d
  read_aligned block items body (Ok rs) (Err k) a b i j d e = stop_done k line e

  step_aligned : (y : Stmt-F Stmt) → Where GoesH (action_of by_path w funcs env h y) → Where GoesG (action_of by_path w funcs env g y) → (asked (action_of by_path w funcs env h y) h).end ≡ Done → (asked (action_of by_path w funcs env g y) g).end ≡ Done → Aligned (asked (action_of by_path w funcs env h y) h).tree (asked (action_of by_path w funcs env g y) g).tree
  step_aligned (Stmt-F.Let at x a) i j d e = result_aligned (action_of by_path w funcs env h (Stmt-F.Let at x a)) i j d e
  step_aligned (Stmt-F.New at x) i j d e = result_aligned (action_of by_path w funcs env h (Stmt-F.New at x)) i j d e
  step_aligned (Stmt-F.Write at x a) i j d e = result_aligned (action_of by_path w funcs env h (Stmt-F.Write at x a)) i j d e
  step_aligned (Stmt-F.Read at block items body) i j d e = read_aligned block items body _ _ refl refl i j d e
  step_aligned (Stmt-F.If at a one two) i j d e = result_aligned (action_of by_path w funcs env h (Stmt-F.If at a one two)) i j d e
  step_aligned (Stmt-F.Par at one two) i j d e = result_aligned (action_of by_path w funcs env h (Stmt-F.Par at one two)) i j d e
  step_aligned (Stmt-F.Call at f vs ds) i j d e = result_aligned (action_of by_path w funcs env h (Stmt-F.Call at f vs ds)) i j d e

module _ (w : Setting Name) (funcs : List Func) (checked : (f : ℕ) (g : Func) → func_named f funcs ≡ Some g → MeetsSeries g) where
  pub run_aligned : (room : ℕ) → Aligns w (run by_path w funcs room)
  run_aligned room [] st end st' end' env h g path t t' s s' d e =
      rw (run_none by_path w funcs room env h path, run_none by_path w funcs room env g path) tt
  run_aligned zero (x ∷ rest) st end st' end' env h g path t t' s s' d e =
      stop_done TooDeep (line_of (out-Stmt x)) (rw (run_full by_path w funcs x rest env h path) at d)
  run_aligned (suc room) (x ∷ rest) st end st' end' env h g path t t' s s' d e =
      let p = steps x rest st end t in
      let q = steps x rest st' end' t' in
      let fs : Manner → Deeper Name Heap = λ a. run (by_path_in a) w funcs room in
      let line = line_of (out-Stmt x) in
      let i = act_goes w funcs checked fs (run_sound w funcs checked room) line rest st p.mid end env h path p.rest s (out-Stmt x) p.first in
      let j = act_goes w funcs checked fs (run_sound w funcs checked room) line rest st' q.mid end' env g path q.rest s' (out-Stmt x) q.first in
      let a = run_more by_path w funcs room x rest env h path in
      let b = run_more by_path w funcs room x rest env g path in
      let dd = sym (ap (λ (r : Ran Name Heap). r.end) a) ∙ d in
      let ee = sym (ap (λ (r : Ran Name Heap). r.end) b) ∙ e in
      let k = step_aligned w funcs fs (run_sound w funcs checked room) (run_aligned room) line rest env path st p.mid end h p.rest s st' q.mid end' g q.rest s' (out-Stmt x) i j dd ee in
      subst (λ (r : Ran Name Heap). Aligned r.tree (run by_path w funcs (suc room) (x ∷ rest) env g path).tree) (sym a)
      (subst (λ (r : Ran Name Heap). Aligned (act_or_stop by_path (fs plainly) (action_of by_path w funcs env h (out-Stmt x)) line rest env h path).tree r.tree) (sym b) k)
