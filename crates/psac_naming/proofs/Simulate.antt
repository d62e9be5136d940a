-- A run over a store that keeps its naming leaves what the run over names by paths leaves.
use Rattle.std.proofs.Common.{Bool, true, false, ◌≡◌, ◌≢◌, ℕ, suc, zero, List, [], ◌∷◌, ◌++◌, Result, Ok, Err, refl, ap, sym, ◌∙◌, subst, append_assoc, append-nil, arith, inl}
use Rattle.psac_ops.specs.Value.{ref}
use Rattle.psac_syntax.specs.declared.program.Stmt.{Stmt, out-Stmt}
use Rattle.psac_syntax.specs.declared.program.Func.{Func}
use Rattle.psac_model.specs.declared.ends.FaultKind.{FaultKind}
use Rattle.psac_model.specs.declared.ends.FaultKind.TheVariants.{TooDeep}
use Rattle.psac_model.specs.declared.ends.End.{End}
use Rattle.psac_model.specs.declared.ends.End.TheVariants.{Done, Stop}
use Rattle.psac_model.specs.Names.{Path, Name, Made, Env, Heap, bind, same_name}
use Rattle.psac_model.specs.Expression.{Setting}
use Rattle.psac_model.specs.Tree.{Tree, E, R}
use Rattle.psac_model.specs.Run.{Store, Ran, Deeper, Action, Bind, Make, Put, Body, Block, Sides, line_of, act, act_or_stop, run, run_none, run_full, run_more, stopped, under, sequence, sequence_by, both, right_first, sides, first_stop}
use Rattle.psac_naming.specs.Alike.{Agree, Envs, Settings, Trees}
use Rattle.psac_naming.specs.Naming.{Naming, IsNamed, IsSameTest, Unused, IsUnder, Keeps, After, names_like}
use Rattle.psac_naming.proofs.Actions.{AlikeAction, action_alike, bind_alike}
use Rattle.psac_naming.proofs.Namings.{named_left, named_right, named_wider, tests_names, unused_below, unused_here, unused_after, unused_made, wider, only_made, none_below, both_below}
use Rattle.psac_naming.proofs.Trees.{alike_more, envs_more, reads_more, trees_more}

zero_is_not_one : (let zero_number : ℕ = 0 in zero_number ≢ 1)
zero_is_not_one e = omega arith

one_is_not_zero : (let one_number : ℕ = 1 in one_number ≢ 0)
one_is_not_zero e = omega arith

module _ {M H : Type 0} (Linked : Naming M → H → Heap → Type 0) where
  regroup : (ns a b : Naming M) (h : H) (heap : Heap) → Linked ((ns ++ a) ++ b) h heap → Linked (ns ++ (a ++ b)) h heap
  regroup ns a b h heap l = subst (λ xs. Linked xs h heap) (append_assoc ns a b) l

  trees_regroup : (ns a b : Naming M) (t : Tree M) (u : Tree Name) → Trees (IsNamed ((ns ++ a) ++ b)) t u → Trees (IsNamed (ns ++ (a ++ b))) t u
  trees_regroup ns a b t u h = subst (λ xs. Trees (IsNamed xs) t u) (append_assoc ns a b) h

  trees_wider : (ns a b : Naming M) (t : Tree M) (u : Tree Name) → Trees (IsNamed (ns ++ a)) t u → Trees (IsNamed (ns ++ (a ++ b))) t u
  trees_wider ns a b t u h = trees_more (IsNamed (ns ++ a)) (IsNamed (ns ++ (a ++ b))) (named_wider ns a b) t u h

  at_once : (path : Path) (ns : Naming M) (h : H) (heap : Heap) (e : End) → Linked ns h heap → After Linked path ns (record { tree = E; heap = h; end = e }) (record { tree = E; heap = heap; end = e })
  at_once path ns h heap e l =
      record { more = []; below = none_below path; linked = subst (λ xs. Linked xs h heap) (sym (append-nil ns)) l; ends = refl; trees = tt }

  side_unused : (path : Path) (a b : ℕ) (ns more : Naming M) → a ≢ b → Unused path ns → ((m : M) (n : Name) → IsNamed more m n → IsUnder (path ++ 0 ∷ a ∷ []) n) → Unused (path ++ 0 ∷ b ∷ []) (ns ++ more)
  side_unused path a b ns more d un k =
      subst (λ p. Unused p (ns ++ more)) (append_assoc path (0 ∷ []) (b ∷ []))
      (unused_after (path ++ 0 ∷ []) a b [] ns more d (unused_below path (0 ∷ []) ns un)
      (λ m n e. subst (λ p. IsUnder p n) (sym (append_assoc path (0 ∷ []) (a ∷ []))) (k m n e)))

  pair_after : (path : Path) (ns : Naming M) (t : Ran M H) (u : Ran Name Heap) (right : H → Ran M H) (other : Heap → Ran Name Heap) (h : After Linked (path ++ 0 ∷ 0 ∷ []) ns t u) → After Linked (path ++ 0 ∷ 1 ∷ []) (ns ++ h.more) (right t.heap) (other u.heap) → After Linked (path ++ 0 ∷ []) ns (both t right) (both u other)
  pair_after path ns t u right other h k =
      record {
        more = h.more ++ k.more;
        below = both_below (path ++ 0 ∷ []) h.more k.more
            (λ m n e. wider (path ++ 0 ∷ []) (0 ∷ []) n (subst (λ p. IsUnder p n) (sym (append_assoc path (0 ∷ []) (0 ∷ []))) (h.below m n e)))
            (λ m n e. wider (path ++ 0 ∷ []) (1 ∷ []) n (subst (λ p. IsUnder p n) (sym (append_assoc path (0 ∷ []) (1 ∷ []))) (k.below m n e)));
        linked = regroup ns h.more k.more (right t.heap).heap (other u.heap).heap k.linked;
        ends = ap (λ e. first_stop e (right t.heap).end) h.ends ∙ ap (λ e. first_stop u.end e) k.ends;
        trees = (trees_wider ns h.more k.more t.tree u.tree h.trees, trees_regroup ns h.more k.more (right t.heap).tree (other u.heap).tree k.trees);
      }

  -- the same where the right side was run first
  other_pair_after : (path : Path) (ns : Naming M) (left : H → Ran M H) (other : Heap → Ran Name Heap) (t : Ran M H) (u : Ran Name Heap) (k : After Linked (path ++ 0 ∷ 1 ∷ []) ns t u) → After Linked (path ++ 0 ∷ 0 ∷ []) (ns ++ k.more) (left t.heap) (other u.heap) → After Linked (path ++ 0 ∷ []) ns (right_first left t) (right_first other u)
  other_pair_after path ns left other t u k h =
      record {
        more = k.more ++ h.more;
        below = both_below (path ++ 0 ∷ []) k.more h.more
            (λ m n e. wider (path ++ 0 ∷ []) (1 ∷ []) n (subst (λ p. IsUnder p n) (sym (append_assoc path (0 ∷ []) (1 ∷ []))) (k.below m n e)))
            (λ m n e. wider (path ++ 0 ∷ []) (0 ∷ []) n (subst (λ p. IsUnder p n) (sym (append_assoc path (0 ∷ []) (0 ∷ []))) (h.below m n e)));
        linked = regroup ns k.more h.more (left t.heap).heap (other u.heap).heap h.linked;
        ends = ap (λ e. first_stop e t.end) h.ends ∙ ap (λ e. first_stop (other u.heap).end e) k.ends;
        trees = (trees_regroup ns k.more h.more (left t.heap).tree (other u.heap).tree h.trees, trees_wider ns k.more h.more t.tree u.tree k.trees);
      }

  seq_by : (e : End) (path : Path) (a : Path) (ns : Naming M) (t : Ran M H) (u : Ran Name Heap) (rest : H → Ran M H) (other : Heap → Ran Name Heap) (h : After Linked (path ++ a) ns t u) → After Linked (path ++ 1 ∷ []) (ns ++ h.more) (rest t.heap) (other u.heap) → After Linked path ns (sequence_by e t rest) (sequence_by e u other)
  seq_by Done path a ns t u rest other h k =
      record {
        more = h.more ++ k.more;
        below = both_below path h.more k.more (λ m n g. wider path a n (h.below m n g)) (λ m n g. wider path (1 ∷ []) n (k.below m n g));
        linked = regroup ns h.more k.more (rest t.heap).heap (other u.heap).heap k.linked;
        ends = k.ends;
        trees = (trees_wider ns h.more k.more t.tree u.tree h.trees, trees_regroup ns h.more k.more (rest t.heap).tree (other u.heap).tree k.trees);
      }
  seq_by (Stop why line) path a ns t u rest other h k =
      record {
        more = h.more;
        below = λ m n g. wider path a n (h.below m n g);
        linked = h.linked;
        ends = refl;
        trees = (h.trees, tt);
      }

  seq_after : (path a : Path) (ns : Naming M) (t : Ran M H) (u : Ran Name Heap) (rest : H → Ran M H) (other : Heap → Ran Name Heap) (h : After Linked (path ++ a) ns t u) → After Linked (path ++ 1 ∷ []) (ns ++ h.more) (rest t.heap) (other u.heap) → After Linked path ns (sequence t rest) (sequence u other)
  seq_after path a ns t u rest other h k =
      let Q : End → Type 0 = λ e. After Linked path ns (sequence_by t.end t rest) (sequence_by e u other) in
      subst Q h.ends (seq_by t.end path a ns t u rest other h k)

module _ {M H : Type 0} (st : Store M H) (Linked : Naming M → H → Heap → Type 0) (keeps : Keeps st Linked) (w : Setting M) (v : Setting Name) (same : IsSameTest w.same) (names : v.same ≡ same_name) (funcs : List Func) where
  -- the two runs, as deep as they go
  abbrev pub Sims : Deeper M H → Deeper Name Heap → Type 0
  Sims f g = (body : List Stmt) (env : Env M) (env' : Env Name) (h : H) (heap : Heap) (path : Path) (ns : Naming M) → Settings (IsNamed ns) w v → Envs (IsNamed ns) env env' → Linked ns h heap → Unused path ns → After Linked path ns (f body env h path) (g body env' heap path)

  settings_more : (ns more : Naming M) → Settings (IsNamed ns) w v → Settings (IsNamed (ns ++ more)) w v
  settings_more ns more s =
      record {
        opened = s.opened;
        room = s.room;
        cols = s.cols;
        texts = s.texts;
        cells = λ r c h k. named_left ns more (w.cell r c) (v.cell r c) (s.cells r c h k);
        row_count = named_left ns more w.row_count v.row_count s.row_count;
      }

  more_envs : (ns more : Naming M) (env : Env M) (env' : Env Name) → Envs (IsNamed ns) env env' → Envs (IsNamed (ns ++ more)) env env'
  more_envs ns more = envs_more (IsNamed ns) (IsNamed (ns ++ more)) (named_left ns more)

  sides_alike : (f : Deeper M H) (g : Deeper Name Heap) → Sims f g → (b : Bool) (left right : List Stmt) (env : Env M) (env' : Env Name) (h : H) (heap : Heap) (path : Path) (ns : Naming M) → Settings (IsNamed ns) w v → Envs (IsNamed ns) env env' → Linked ns h heap → Unused path ns → After Linked (path ++ 0 ∷ []) ns (sides b (λ y. f left env y (path ++ 0 ∷ 0 ∷ [])) (λ y. f right env y (path ++ 0 ∷ 1 ∷ [])) h) (sides b (λ y. g left env' y (path ++ 0 ∷ 0 ∷ [])) (λ y. g right env' y (path ++ 0 ∷ 1 ∷ [])) heap)
  sides_alike f g d true left right env env' h heap path ns s e l un =
      let t = f left env h (path ++ 0 ∷ 0 ∷ []) in
      let u = g left env' heap (path ++ 0 ∷ 0 ∷ []) in
      let k = d left env env' h heap (path ++ 0 ∷ 0 ∷ []) ns s e l (unused_below path (0 ∷ 0 ∷ []) ns un) in
      let j = d right env env' t.heap u.heap (path ++ 0 ∷ 1 ∷ []) (ns ++ k.more) (settings_more ns k.more s) (more_envs ns k.more env env' e) k.linked (side_unused Linked path 0 1 ns k.more zero_is_not_one un k.below) in
      pair_after Linked path ns t u (λ y. f right env y (path ++ 0 ∷ 1 ∷ [])) (λ y. g right env' y (path ++ 0 ∷ 1 ∷ [])) k j
  sides_alike f g d false left right env env' h heap path ns s e l un =
      let t = f right env h (path ++ 0 ∷ 1 ∷ []) in
      let u = g right env' heap (path ++ 0 ∷ 1 ∷ []) in
      let k = d right env env' h heap (path ++ 0 ∷ 1 ∷ []) ns s e l (unused_below path (0 ∷ 1 ∷ []) ns un) in
      let j = d left env env' t.heap u.heap (path ++ 0 ∷ 0 ∷ []) (ns ++ k.more) (settings_more ns k.more s) (more_envs ns k.more env env' e) k.linked (side_unused Linked path 1 0 ns k.more one_is_not_zero un k.below) in
      other_pair_after Linked path ns (λ y. f left env y (path ++ 0 ∷ 0 ∷ [])) (λ y. g left env' y (path ++ 0 ∷ 0 ∷ [])) t u k j

  act_alike : (f : Deeper M H) (g : Deeper Name Heap) → Sims f g → (rest : List Stmt) (env : Env M) (env' : Env Name) (h : H) (heap : Heap) (path : Path) (ns : Naming M) → Settings (IsNamed ns) w v → Envs (IsNamed ns) env env' → Linked ns h heap → Unused path ns → (a : Action M) (b : Action Name) → AlikeAction (IsNamed ns) a b → After Linked path ns (act st f a rest env h path) (act (names_like st) g b rest env' heap path)
  act_alike f g d rest env env' h heap path ns s e l un (Bind x y) (Bind z u) i =
      subst (λ t. After Linked path ns (act st f (Bind x y) rest env h path) (act (names_like st) g (Bind t u) rest env' heap path)) i.0
      (d rest (bind x y env) (bind x u env') h heap path ns s (bind_alike (IsNamed ns) x y u env env' i.1 e) l un)
  act_alike f g d rest env env' h heap path ns s e l un (Make x) (Make z) i =
      let m = st.fresh path h in
      let made = (m, Made path) ∷ [] in
      let n = ns ++ made in
      let is : IsNamed n m (Made path) = named_right ns made m (Made path) (inl (refl, refl)) in
      let k = d rest (bind x (ref m) env) (bind x (ref (Made path)) env') (st.opened h m) heap (path ++ 3 ∷ []) n (settings_more ns made s)
      (bind_alike (IsNamed n) x (ref m) (ref (Made path)) env env' is (more_envs ns made env env' e)) (keeps.opens ns h heap path l (unused_here path ns un)) (unused_made path ns m un) in
      let t = f rest (bind x (ref m) env) (st.opened h m) (path ++ 3 ∷ []) in
      let u = g rest (bind x (ref (Made path)) env') heap (path ++ 3 ∷ []) in
      subst (λ y. After Linked path ns (act st f (Make x) rest env h path) (act (names_like st) g (Make y) rest env' heap path)) i
      (record {
        more = made ++ k.more;
        below = both_below path made k.more (only_made path m) (λ q o r. wider path (3 ∷ []) o (k.below q o r));
        linked = regroup Linked ns made k.more t.heap u.heap k.linked;
        ends = k.ends;
        trees = trees_regroup Linked ns made k.more t.tree u.tree k.trees;
      })
  act_alike f g d rest env env' h heap path ns s e l un (Put m y) (Put n u) i =
      let k = d rest env env' (st.put h m y) ((n, u) ∷ heap) (path ++ 3 ∷ []) ns s e (keeps.puts ns h heap m n y u l i.0 i.1) (unused_below path (3 ∷ []) ns un) in
      record {
        more = k.more;
        below = λ q o r. wider path (3 ∷ []) o (k.below q o r);
        linked = k.linked;
        ends = k.ends;
        trees = (named_left ns k.more m n i.0, alike_more (IsNamed ns) (IsNamed (ns ++ k.more)) (named_left ns k.more) y u i.1, k.trees);
      }
  act_alike f g d rest env env' h heap path ns s e l un (Body body inner) (Body other inner') i =
      let t = f body inner h (path ++ 0 ∷ []) in
      let u = g body inner' heap (path ++ 0 ∷ []) in
      let k = d body inner inner' h heap (path ++ 0 ∷ []) ns s i.1 l (unused_below path (0 ∷ []) ns un) in
      let next = d rest env env' t.heap u.heap (path ++ 1 ∷ []) (ns ++ k.more) (settings_more ns k.more s) (more_envs ns k.more env env' e) k.linked (unused_after path 0 1 [] ns k.more zero_is_not_one un k.below) in
      subst (λ b. After Linked path ns (act st f (Body body inner) rest env h path) (act (names_like st) g (Body b inner') rest env' heap path)) i.0
      (seq_after Linked path (0 ∷ []) ns t u (λ y. f rest env y (path ++ 1 ∷ [])) (λ y. g rest env' y (path ++ 1 ∷ [])) k next)
  act_alike f g d rest env env' h heap path ns s e l un (Block block reads body inner) (Block again seen other inner') i =
      let t = under (R block env reads) (f body inner h (path ++ 0 ∷ 2 ∷ [])) in
      let u = under (R again env' seen) (g body inner' heap (path ++ 0 ∷ 2 ∷ [])) in
      let k = d body inner inner' h heap (path ++ 0 ∷ 2 ∷ []) ns s i.3 l (unused_below path (0 ∷ 2 ∷ []) ns un) in
      let j : After Linked (path ++ 0 ∷ 2 ∷ []) ns t u = record { more = k.more; below = k.below; linked = k.linked; ends = k.ends; trees = (i.0, more_envs ns k.more env env' e, reads_more (IsNamed ns) (IsNamed (ns ++ k.more)) (named_left ns k.more) reads seen i.1, k.trees) } in
      let next = d rest env env' t.heap u.heap (path ++ 1 ∷ []) (ns ++ k.more) (settings_more ns k.more s) (more_envs ns k.more env env' e) k.linked (unused_after path 0 1 (2 ∷ []) ns k.more zero_is_not_one un k.below) in
      subst (λ b. After Linked path ns (act st f (Block block reads body inner) rest env h path) (act (names_like st) g (Block again seen b inner') rest env' heap path)) i.2
      (seq_after Linked path (0 ∷ 2 ∷ []) ns t u (λ y. f rest env y (path ++ 1 ∷ [])) (λ y. g rest env' y (path ++ 1 ∷ [])) j next)
  act_alike f g d rest env env' h heap path ns s e l un (Sides left right) (Sides other another) i =
      let t = sides (st.left_first path) (λ y. f left env y (path ++ 0 ∷ 0 ∷ [])) (λ y. f right env y (path ++ 0 ∷ 1 ∷ [])) h in
      let u = sides (st.left_first path) (λ y. g left env' y (path ++ 0 ∷ 0 ∷ [])) (λ y. g right env' y (path ++ 0 ∷ 1 ∷ [])) heap in
      let k = sides_alike f g d (st.left_first path) left right env env' h heap path ns s e l un in
      let next = d rest env env' t.heap u.heap (path ++ 1 ∷ []) (ns ++ k.more) (settings_more ns k.more s) (more_envs ns k.more env env' e) k.linked (unused_after path 0 1 [] ns k.more zero_is_not_one un k.below) in
      subst (λ b. After Linked path ns (act st f (Sides left right) rest env h path) (act (names_like st) g (Sides b another) rest env' heap path)) i.0
      (subst (λ b. After Linked path ns (act st f (Sides left right) rest env h path) (act (names_like st) g (Sides left b) rest env' heap path)) i.1
      (seq_after Linked path (0 ∷ []) ns t u (λ y. f rest env y (path ++ 1 ∷ [])) (λ y. g rest env' y (path ++ 1 ∷ [])) k next))
  act_alike f g d rest env env' h heap path ns s e l un _ _ i = absurd i

  act_or_stop_alike : (f : Deeper M H) (g : Deeper Name Heap) → Sims f g → (line : ℕ) (rest : List Stmt) (env : Env M) (env' : Env Name) (h : H) (heap : Heap) (path : Path) (ns : Naming M) → Settings (IsNamed ns) w v → Envs (IsNamed ns) env env' → Linked ns h heap → Unused path ns → (a : Result (Action M) FaultKind) (b : Result (Action Name) FaultKind) → Agree (AlikeAction (IsNamed ns)) a b → After Linked path ns (act_or_stop st f a line rest env h path) (act_or_stop (names_like st) g b line rest env' heap path)
  act_or_stop_alike f g d line rest env env' h heap path ns s e l un (Ok a) (Ok b) i = act_alike f g d rest env env' h heap path ns s e l un a b i
  act_or_stop_alike f g d line rest env env' h heap path ns s e l un (Err k) (Err j) i =
      subst (λ x. After Linked path ns (stopped h k line) (stopped heap x line)) i (at_once Linked path ns h heap (Stop k line) l)
  act_or_stop_alike f g d line rest env env' h heap path ns s e l un (Ok a) (Err j) i = absurd i
  act_or_stop_alike f g d line rest env env' h heap path ns s e l un (Err k) (Ok b) i = absurd i

  -- a run over the store leaves what the run over names by paths leaves
  pub run_alike : (room : ℕ) → Sims (run st w funcs room) (run (names_like st) v funcs room)
  run_alike room [] env env' h heap path ns s e l un =
      rw (run_none st w funcs room env h path, run_none (names_like st) v funcs room env' heap path) (at_once Linked path ns h heap Done l)
  run_alike zero (t ∷ rest) env env' h heap path ns s e l un =
      rw (run_full st w funcs t rest env h path, run_full (names_like st) v funcs t rest env' heap path) (at_once Linked path ns h heap (Stop TooDeep (line_of (out-Stmt t))) l)
  run_alike (suc room) (t ∷ rest) env env' h heap path ns s e l un =
      rw (run_more st w funcs room t rest env h path, run_more (names_like st) v funcs room t rest env' heap path)
      (act_or_stop_alike (run st w funcs room) (run (names_like st) v funcs room) (run_alike room) (line_of (out-Stmt t)) rest env env' h heap path ns s e l un _ _
      (action_alike (IsNamed ns) st (names_like st) w v funcs env env' h heap s (tests_names ns w.same v.same (keeps.one ns h heap l) same names) e (λ m n i. keeps.gets ns h heap m n l i) (out-Stmt t)))
