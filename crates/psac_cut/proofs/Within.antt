-- What a run that was cut short drew is at most what the run by paths has, of statements that meet the series rule.
use Rattle.std.proofs.Common.{◌≡◌, ℕ, suc, zero, List, [], ◌∷◌, ◌++◌, length, Some, Result, Ok, Err, refl, ap, sym, ◌∙◌, subst, ◌⊎◌, inl, inr, append_assoc}
use Rattle.psac_ops.specs.Value.{Value, ref}
use Rattle.psac_syntax.specs.declared.program.Stmt.{Stmt, out-Stmt}
use Rattle.psac_syntax.specs.declared.program.Func.{Func}
use Rattle.psac_model.specs.declared.ends.FaultKind.{FaultKind}
use Rattle.psac_model.specs.declared.ends.End.{End}
use Rattle.psac_model.specs.declared.ends.End.TheVariants.{Done}
use Rattle.psac_model.specs.Names.{Path, Name, Made, Env, Heap, bind, same_name}
use Rattle.psac_model.specs.Expression.{Setting}
use Rattle.psac_model.specs.Tree.{Reads, size_of, add_size, one_s, one_p, one_r}
use Rattle.psac_model.specs.Tree as tree
use Rattle.psac_model.specs.Run.{Ran, Manner, Deeper, Action, Bind, Make, Put, Body, Block, Sides, action_of, line_of, act, act_or_stop, sequence, both, under, plainly, by_path, by_path_in, run, run_more, func_named}
use Rattle.psac_naming.specs.Alike.{Agree, Alike, AlikeRead, Each, Envs, Settings, Tests}
use Rattle.psac_naming.specs.Naming.{IsNamed}
use Rattle.psac_naming.proofs.Actions.{AlikeAction, action_alike, bind_alike}
use Rattle.psac_naming.proofs.Agrees.{each_length}
use Rattle.psac_naming.proofs.Namings.{named_left, named_right}
use Rattle.psac_naming.proofs.Trees.{trees_size}
use Rattle.psac_laws.specs.Standing.{Standing, series, MeetsSeries}
use Rattle.psac_laws.proofs.Heaps.{Wider, wider_written}
use Rattle.psac_laws.proofs.Good.{Runs, Good, plainly_reads_held, wider_same, wider_first, wider_left}
use Rattle.psac_laws.proofs.Rules.{steps}
use Rattle.psac_laws.proofs.Values.{Where}
use Rattle.psac_laws.proofs.Safe.{Safe, May, Target}
use Rattle.psac_laws.proofs.Pairs.{pair_runs}
use Rattle.psac_laws.proofs.Asks.{asks_same}
use Rattle.psac_laws.proofs.Acts.{Sound, Goes, Part, rest_safe}
use Rattle.psac_laws.proofs.Sound.{act_goes, run_sound}
use Rattle.psac_traced.specs.Rec.{Rec, E, A, W, S, P, R, HeapOf, writes, tree_of}
use Rattle.psac_traced.specs.Traced.{listed, traced}
use Rattle.psac_traced.specs.Renamed.{Heaps, Recs, IsOnly}
use Rattle.psac_traced.specs.Places.{names}
use Rattle.psac_traced.proofs.Alike.{held_alike, heaps_then, trees_alike}
use Rattle.psac_traced.proofs.Named.{traced_twin}
use Rattle.psac_traced.proofs.Paths.{ran, action_is, traced_is}
use Rattle.psac_traced.proofs.Places.{names_tied, alike_placed}
use Rattle.psac_cut.specs.CutShort.{Cuts, nothing, cuts, cuts_or_nothing, cut_short}
use Rattle.psac_cut.specs.Within.{drew, IsWithin}
use Rattle.psac_cut.proofs.Sizes.{none_within, made_within, vain_within, broken_within, done_within, sides_within, right_within, block_within}

-- a par whose sides are both done
pair_is : (l : Ran Name Heap) (right : Heap → Ran Name Heap) (x y : Rec Name) (g : Heap) → l ≡ ran x g Done → right (writes x ++ g) ≡ ran y (writes x ++ g) Done → both l right ≡ record { tree = tree.P (tree_of x) (tree_of y); heap = writes y ++ (writes x ++ g); end = Done }
pair_is l right x y g i j = rw (i, j) refl

module _ {M : Type 0} (T : M → Name → Type 0) (only : IsOnly T) (w : Setting M) (u : Setting Name) (plain : u.same ≡ same_name) (settings : Settings T w u) (tests : Tests T w.same u.same) (funcs : List Func) where
  -- the names that are read off a record from a path on
  abbrev pub Named : Path → Rec M → Type 0
  Named p r = (m : M) (k : Name) → IsNamed (names p r) m k → T m k

  -- a part that was run to its end, and the run by paths that it stands for
  record Whole (p : Path) (heap : Heap) (t : Rec M) (end : End) (gave : Ran Name Heap) : Type 0 where
    rec : Rec Name
    alike : Recs T t rec
    is : gave ≡ ran rec heap end

  whole : (room : ℕ) (body : List Stmt) (env : Env M) (env' : Env Name) (heap : HeapOf M) (heap' : Heap) (p : Path) (t : Rec M) (end : End) → Envs T env env' → Heaps T heap heap' → Named p t → traced w funcs room body env heap t end → Whole p heap' t end (run by_path u funcs room body env' heap' p)
  whole room body env env' heap heap' p t end e h named k =
      let twin = traced_twin T w u funcs settings tests room body env env' heap heap' t end e h (names_tied T p t named) k in
      record { rec = twin.rec; alike = twin.alike; is = traced_is u plain funcs room body env' heap' p twin.rec end (alike_placed T only p t twin.rec named twin.alike) twin.stands }

  whole_size : (p : Path) (heap : Heap) (t : Rec M) (end : End) (gave : Ran Name Heap) (x : Whole p heap t end gave) → size_of (tree_of t) ≡ size_of (tree_of x.rec)
  whole_size p heap t end gave x = trees_size T (tree_of t) (tree_of x.rec) (trees_alike T t x.rec x.alike)

  -- deeper statements draw at most what their run has, also over a wider heap
  abbrev pub Bounds : Cuts M → Deeper Name Heap → Type 0
  Bounds first by = (body : List Stmt) (st end : Standing) (env : Env M) (env' : Env Name) (heap : HeapOf M) (g h : Heap) (p : Path) (r : Rec M) (n : ℕ) → series body st ≡ Some end → Safe u st env' h p → Wider h g → Envs T env env' → Heaps T heap g → Named p r → first body env heap r n → IsWithin (drew r n) (size_of (by body env' h p).tree)

  module _ (checked : (f : ℕ) (g : Func) → func_named f funcs ≡ Some g → MeetsSeries g) (room : ℕ) (bounds : Bounds (cut_short w funcs room) (run by_path u funcs room)) where
    abbrev first : Cuts M
    first = cut_short w funcs room

    abbrev fs : Manner → Deeper Name Heap
    fs a = run (by_path_in a) u funcs room

    abbrev sound : Sound u fs
    sound = run_sound u funcs checked room

    module _ (line : ℕ) (rest : List Stmt) (st mid end : Standing) (env : Env M) (env' : Env Name) (heap : HeapOf M) (g h : Heap) (p : Path) (more : series rest mid ≡ Some end) (safe : Safe u st env' h p) (wi : Wider h g) (e : Envs T env env') (hs : Heaps T heap g) where
      abbrev goes : Action Name → Type 0
      goes = Goes u funcs fs sound line rest st mid end env' h p more safe

      abbrev part : Runs → Type 0
      part = Part u funcs fs sound line rest st mid end env' h p more safe

      -- the rest behind a part that is done, over both heaps
      rest_bound : (f : Runs) → part f → (t : Rec M) (x : Rec Name) → Recs T t x → (f plainly g).end ≡ Done → (f plainly g).heap ≡ writes x ++ g → (f plainly g).tree ≡ tree_of x → (r : Rec M) (n : ℕ) → Named (p ++ 1 ∷ []) r → first rest env (writes t ++ heap) r n → IsWithin (drew (S t r) n) (size_of (sequence (f plainly h) (λ after. fs plainly rest env' after (p ++ 1 ∷ []))).tree)
      rest_bound f q t x alike done left is r n named c =
          let same = q.good.frame plainly g plainly_reads_held wi in
          let ended : (f plainly h).end ≡ Done = sym same.end ∙ done in
          let k = rest_safe u funcs fs sound line rest st mid end env' h p more safe f q ended in
          let over : Wider (f plainly h).heap (writes x ++ g) = subst (Wider (f plainly h).heap) left (wider_left q.good plainly g plainly_reads_held wi) in
          let b = bounds rest mid end env env' (writes t ++ heap) (writes x ++ g) (f plainly h).heap (p ++ 1 ∷ []) r n more k over e (heaps_then T t x heap g alike hs) named c in
          let size : size_of (tree_of t) ≡ size_of (f plainly h).tree = trees_size T (tree_of t) (tree_of x) (trees_alike T t x alike) ∙ ap size_of (sym is ∙ same.tree) in
          rw ended (done_within t r n (size_of (f plainly h).tree) _ size b)

      none : (r : Rec M) (n : ℕ) (z : _) → nothing r n → IsWithin (drew r n) z
      none r n z c = subst (λ x. IsWithin (drew x n) z) (sym c.0) (none_within M n z c.1)

      -- a compound statement that is cut short
      broken : (f : Runs) (t r : Rec M) (n : ℕ) → r ≡ E → IsWithin (drew t n) (size_of (f plainly h).tree) → IsWithin (drew (S t r) n) (size_of (sequence (f plainly h) (λ after. fs plainly rest env' after (p ++ 1 ∷ []))).tree)
      broken f t r n i b =
          subst (λ z. IsWithin (drew (S t z) n) (size_of (sequence (f plainly h) (λ after. fs plainly rest env' after (p ++ 1 ∷ []))).tree)) (sym i) (broken_within t n (f plainly h).end (f plainly h) (λ after. fs plainly rest env' after (p ++ 1 ∷ [])) b)

      -- both at once: the names of the parts before the rest, and of the rest
      left_named : (t r : Rec M) → Named p (S t r) → Named (p ++ 0 ∷ []) t
      left_named t r named m k i = named m k (named_left (names (p ++ 0 ∷ []) t) (names (p ++ 1 ∷ []) r) m k i)

      right_named : (t r : Rec M) → Named p (S t r) → Named (p ++ 1 ∷ []) r
      right_named t r named m k i = named m k (named_right (names (p ++ 0 ∷ []) t) (names (p ++ 1 ∷ []) r) m k i)

      turned_named : (c : ℕ) (t : Rec M) → Named ((p ++ 0 ∷ []) ++ c ∷ []) t → Named (p ++ 0 ∷ c ∷ []) t
      turned_named c t named = subst (λ z. Named z t) (append_assoc p (0 ∷ []) (c ∷ [])) named

      body_bound : (body : List Stmt) (inner : Env M) (inner' : Env Name) → Envs T inner inner' → goes (Body body inner') → (t r : Rec M) (n : ℕ) → Named p (S t r) → cuts room (traced w funcs room) first (Body body inner) rest env heap (S t r) n → IsWithin (drew (S t r) n) (size_of (act by_path (fs plainly) (Body body inner') rest env' h p).tree)
      body_bound body inner inner' i k t r n named (inl c) =
          broken (λ a z. fs a body inner' z (p ++ 0 ∷ [])) t r n c.1
          (bounds body k.0.names k.0.after inner inner' heap g h (p ++ 0 ∷ []) t n k.0.meets k.0.safe wi i hs (left_named t r named) c.0)
      body_bound body inner inner' i k t r n named (inr c) =
          let x = whole room body inner inner' heap g (p ++ 0 ∷ []) t Done i hs (left_named t r named) c.0 in
          rest_bound (λ a z. fs a body inner' z (p ++ 0 ∷ [])) k.1 t x.rec x.alike (ap (λ (z : Ran Name Heap). z.end) x.is) (ap (λ (z : Ran Name Heap). z.heap) x.is) (ap (λ (z : Ran Name Heap). z.tree) x.is) r n (right_named t r named) c.1

      block_bound : (block : ℕ) (reads : Reads M) (saw : Reads Name) (body : List Stmt) (inner : Env M) (inner' : Env Name) → Each (AlikeRead T) reads saw → Envs T inner inner' → goes (Block block saw body inner') → (t r : Rec M) (n : ℕ) → Named p (S t r) → cuts room (traced w funcs room) first (Block block reads body inner) rest env heap (S t r) n → IsWithin (drew (S t r) n) (size_of (act by_path (fs plainly) (Block block saw body inner') rest env' h p).tree)
      block_bound block reads saw body inner inner' l i k E r n named c =
          broken (λ a z. under (tree.R block env' saw) (fs a body inner' z (p ++ 0 ∷ 2 ∷ []))) E r n c.0 (none_within M n _ c.1)
      block_bound block reads saw body inner inner' l i k (R level b f seen t) r n named c = by c.3
        where
          in_block : Named (p ++ 0 ∷ 2 ∷ []) t
          in_block = turned_named 2 t (left_named (R level b f seen t) r named)

          by : ((rest_of : Reads M) × (seen ++ rest_of ≡ reads) × first body inner heap t n × (r ≡ E)) ⊎ ((reads ≡ seen) × traced w funcs room body inner heap t Done × first rest env (writes t ++ heap) r n) → IsWithin (drew (S (R level b f seen t) r) n) (size_of (act by_path (fs plainly) (Block block saw body inner') rest env' h p).tree)
          by (inl d) =
              broken (λ a z. under (tree.R block env' saw) (fs a body inner' z (p ++ 0 ∷ 2 ∷ []))) (R level b f seen t) r n d.3
              (block_within level b f seen d.0 reads t n (length saw) _ d.1 (each_length (AlikeRead T) reads saw l) (bounds body k.1.names k.1.after inner inner' heap g h (p ++ 0 ∷ 2 ∷ []) t n k.1.meets k.1.safe wi i hs in_block d.2))
          by (inr d) =
              let x = whole room body inner inner' heap g (p ++ 0 ∷ 2 ∷ []) t Done i hs in_block d.1 in
              let alike : Recs T (R level b f seen t) (R level block env' saw x.rec) = (refl, sym c.1, subst (λ z. Envs T z env') c.2 e, subst (λ z. Each (AlikeRead T) z saw) d.0 l, x.alike) in
              rest_bound (λ a z. under (tree.R block env' saw) (fs a body inner' z (p ++ 0 ∷ 2 ∷ []))) k.2 (R level b f seen t) (R level block env' saw x.rec) alike (ap (λ (z : Ran Name Heap). z.end) x.is) (ap (λ (z : Ran Name Heap). z.heap) x.is) (ap (λ (z : Ran Name Heap). tree.R block env' saw z.tree) x.is) r n (right_named (R level b f seen t) r named) d.2
      block_bound block reads saw body inner inner' l i k _ r n named c = absurd c

      module _ (left right : List Stmt) (k : goes (Sides left right)) where
        abbrev p0 : Path
        p0 = p ++ 0 ∷ 0 ∷ []

        abbrev p1 : Path
        p1 = p ++ 0 ∷ 1 ∷ []

        abbrev runs : Runs
        runs = pair_runs p (λ a z. fs a left env' z p0) (λ a z. fs a right env' z p1)

        left_good : Good (May k.0.names k.0.after.unwritten env' p0) (Target k.0.names k.0.after.unwritten env') h (λ a z. fs a left env' z p0)
        left_good = sound left k.0.names k.0.after env' h p0 k.0.meets k.0.safe

        right_good : Good (May k.1.names k.1.after.unwritten env' p1) (Target k.1.names k.1.after.unwritten env') h (λ a z. fs a right env' z p1)
        right_good = sound right k.1.names k.1.after env' h p1 k.1.meets k.1.safe

        -- the right side has the same tree behind the left side
        behind_left : (fs plainly right env' (fs plainly left env' h p0).heap p1).tree ≡ (fs plainly right env' h p1).tree
        behind_left =
            (right_good.frame plainly (fs plainly left env' h p0).heap plainly_reads_held (wider_first left_good plainly h plainly_reads_held (wider_same h))).tree

        sides_bound : (t r : Rec M) (n : ℕ) → Named p (S t r) → cuts room (traced w funcs room) first (Sides left right) rest env heap (S t r) n → IsWithin (drew (S t r) n) (size_of (act by_path (fs plainly) (Sides left right) rest env' h p).tree)
        sides_bound E r n named c = broken runs E r n c.0 (none_within M n _ c.1)
        sides_bound (P l j) r n named (inl c) =
            let both_named = left_named (P l j) r named in
            let here = bounds left k.0.names k.0.after env env' heap g h p0 l c.0 k.0.meets k.0.safe wi e hs (turned_named 0 l (λ m z i. both_named m z (named_left (names ((p ++ 0 ∷ []) ++ 0 ∷ []) l) (names ((p ++ 0 ∷ []) ++ 1 ∷ []) j) m z i))) c.2 in
            let there = bounds right k.1.names k.1.after env env' heap g h p1 j c.1 k.1.meets k.1.safe wi e hs (turned_named 1 j (λ m z i. both_named m z (named_right (names ((p ++ 0 ∷ []) ++ 0 ∷ []) l) (names ((p ++ 0 ∷ []) ++ 1 ∷ []) j) m z i))) c.3 in
            broken runs (P l j) r n c.5 (sides_within l j c.0 c.1 n _ _ c.4 here (subst (λ z. IsWithin (drew j c.1) (size_of z)) (sym behind_left) there))
        sides_bound (P l j) r n named (inr (inl c)) =
            let both_named = left_named (P l j) r named in
            let x = whole room left env env' heap g p0 l c.0 e hs (turned_named 0 l (λ m z i. both_named m z (named_left (names ((p ++ 0 ∷ []) ++ 0 ∷ []) l) (names ((p ++ 0 ∷ []) ++ 1 ∷ []) j) m z i))) c.1 in
            let over : Wider h (writes x.rec ++ g) = subst (Wider h) (ap (λ (z : Ran Name Heap). z.heap) x.is) (wider_first left_good plainly g plainly_reads_held wi) in
            let there = bounds right k.1.names k.1.after env env' (writes l ++ heap) (writes x.rec ++ g) h p1 j n k.1.meets k.1.safe over e (heaps_then T l x.rec heap g x.alike hs) (turned_named 1 j (λ m z i. both_named m z (named_right (names ((p ++ 0 ∷ []) ++ 0 ∷ []) l) (names ((p ++ 0 ∷ []) ++ 1 ∷ []) j) m z i))) c.2 in
            let size : size_of (tree_of l) ≡ size_of (fs plainly left env' h p0).tree = whole_size p0 g l c.0 _ x ∙ ap size_of (sym (ap (λ (z : Ran Name Heap). z.tree) x.is) ∙ (left_good.frame plainly g plainly_reads_held wi).tree) in
            broken runs (P l j) r n c.3 (right_within l j n _ _ size (subst (λ z. IsWithin (drew j n) (size_of z)) (sym behind_left) there))
        sides_bound (P l j) r n named (inr (inr c)) =
            let both_named = left_named (P l j) r named in
            let x = whole room left env env' heap g p0 l Done e hs (turned_named 0 l (λ m z i. both_named m z (named_left (names ((p ++ 0 ∷ []) ++ 0 ∷ []) l) (names ((p ++ 0 ∷ []) ++ 1 ∷ []) j) m z i))) c.0 in
            let y = whole room right env env' (writes l ++ heap) (writes x.rec ++ g) p1 j Done e (heaps_then T l x.rec heap g x.alike hs) (turned_named 1 j (λ m z i. both_named m z (named_right (names ((p ++ 0 ∷ []) ++ 0 ∷ []) l) (names ((p ++ 0 ∷ []) ++ 1 ∷ []) j) m z i))) c.1 in
            let is = pair_is (fs plainly left env' g p0) (λ z. fs plainly right env' z p1) x.rec y.rec g x.is y.is in
            rest_bound runs k.2 (P l j) (P x.rec y.rec) (x.alike, y.alike) (ap (λ (z : Ran Name Heap). z.end) is) (ap (λ (z : Ran Name Heap). z.heap) is ∙ sym (append_assoc (writes y.rec) (writes x.rec) g)) (ap (λ (z : Ran Name Heap). z.tree) is) r n (right_named (P l j) r named)
            (subst (λ z. first rest env z r n) (sym (append_assoc (writes j) (writes l) heap)) c.2)
        sides_bound _ r n named c = absurd c

      make_bound : (d c : ℕ) → d ≡ c → goes (Make c) → (r : Rec M) (n : ℕ) → Named p r → cuts room (traced w funcs room) first (Make d) rest env heap r n → IsWithin (drew r n) (size_of (act by_path (fs plainly) (Make c) rest env' h p).tree)
      make_bound d c i k E n named t = vain_within M n _ t
      make_bound d c i k (A m r) n named t =
          let there = named m (Made p) (inl (refl, refl)) in
          let envs = subst (λ z. Envs T (bind d (ref m) env) (bind z (ref (Made p)) env')) i (bind_alike T d (ref m) (ref (Made p)) env env' there e) in
          made_within m r n _ (bounds rest mid end (bind d (ref m) env) (bind c (ref (Made p)) env') heap g h (p ++ 3 ∷ []) r n more k.2 wi envs hs (λ m z j. named m z (inr j)) t)
      make_bound d c i k _ n named t = absurd t

      put_bound : (m : M) (b : Name) (v : Value M) (y : Value Name) → T m b → Alike T v y → goes (Put b y) → (r : Rec M) (n : ℕ) → Named p r → cuts room (traced w funcs room) first (Put m v) rest env heap r n → IsWithin (drew r n) (size_of (act by_path (fs plainly) (Put b y) rest env' h p).tree)
      put_bound m b v y i j k E n named t = none_within M n _ t
      put_bound m b v y i j k (W l z r) n named t =
          let il = subst (λ q. T q b) t.0 i in
          let jz = subst (λ q. Alike T q y) t.1 j in
          bounds rest mid end env env' ((l, z) ∷ heap) ((b, y) ∷ g) ((b, y) ∷ h) (p ++ 3 ∷ []) r n more k.1 (wider_written (tree.W b y tree.E) h g wi) e ((il, jz), hs) named t.2
      put_bound m b v y i j k _ n named t = absurd t

      act_bound : (a : Action M) (b : Action Name) → AlikeAction T a b → goes b → (r : Rec M) (n : ℕ) → Named p r → cuts room (traced w funcs room) first a rest env heap r n → IsWithin (drew r n) (size_of (act by_path (fs plainly) b rest env' h p).tree)
      act_bound (Bind x v) (Bind y z) i k r n named c =
          let envs = subst (λ q. Envs T (bind x v env) (bind q z env')) i.0 (bind_alike T x v z env env' i.1 e) in
          bounds rest mid end (bind x v env) (bind y z env') heap g h p r n more k.3 wi envs hs named c
      act_bound (Make d) (Make b) i k r n named c = make_bound d b i k r n named c
      act_bound (Put m v) (Put b y) i k r n named c = put_bound m b v y i.0 i.1 k r n named c
      act_bound (Body body inner) (Body other inner') i k E n named c = none_within M n _ c
      act_bound (Body body inner) (Body other inner') i k (S t r) n named c =
          body_bound other inner inner' i.1 k t r n named (subst (λ z. cuts room (traced w funcs room) first (Body z inner) rest env heap (S t r) n) i.0 c)
      act_bound (Block block reads body inner) (Block again saw other inner') i k E n named c = none_within M n _ c
      act_bound (Block block reads body inner) (Block again saw other inner') i k (S t r) n named c =
          block_bound again reads saw other inner inner' i.1 i.3 k t r n named (subst (λ z. cuts room (traced w funcs room) first (Block z reads other inner) rest env heap (S t r) n) i.0 (subst (λ z. cuts room (traced w funcs room) first (Block block reads z inner) rest env heap (S t r) n) i.2 c))
      act_bound (Sides left right) (Sides other another) i k E n named c = none_within M n _ c
      act_bound (Sides left right) (Sides other another) i k (S t r) n named c =
          sides_bound other another k t r n named (subst (λ z. cuts room (traced w funcs room) first (Sides z another) rest env heap (S t r) n) i.0 (subst (λ z. cuts room (traced w funcs room) first (Sides left z) rest env heap (S t r) n) i.1 c))
      act_bound (Body body inner) (Body other inner') i k _ n named c = absurd c
      act_bound (Block block reads body inner) (Block again saw other inner') i k _ n named c = absurd c
      act_bound (Sides left right) (Sides other another) i k _ n named c = absurd c
      act_bound _ _ i k r n named c = absurd i

      step_bound : (a : Result (Action M) FaultKind) (b : Result (Action Name) FaultKind) → Agree (AlikeAction T) a b → Where goes b → (r : Rec M) (n : ℕ) → Named p r → cuts_or_nothing room (traced w funcs room) first a rest env heap r n → IsWithin (drew r n) (size_of (act_or_stop by_path (fs plainly) b line rest env' h p).tree)
      step_bound (Ok a) (Ok b) i k r n named c = act_bound a b i k r n named c
      step_bound (Err why) (Err same) i k r n named c = none r n _ c
      step_bound (Ok a) (Err why) i k r n named c = absurd i
      step_bound (Err why) (Ok b) i k r n named c = absurd i

  -- what a run that was cut short drew is at most what the run by paths has
  pub cut_bound : ((f : ℕ) (g : Func) → func_named f funcs ≡ Some g → MeetsSeries g) → (room : ℕ) → Bounds (cut_short w funcs room) (run by_path u funcs room)
  unfolding cut_short
  cut_bound checked room [] st end env env' heap g h p r n meets safe wi e hs named c = subst (λ x. IsWithin (drew x n) (size_of (run by_path u funcs room [] env' h p).tree)) (sym c.0) (none_within M n _ c.1)
  cut_bound checked zero (x ∷ rest) st end env env' heap g h p r n meets safe wi e hs named c = subst (λ z. IsWithin (drew z n) (size_of (run by_path u funcs zero (x ∷ rest) env' h p).tree)) (sym c.0) (none_within M n _ c.1)
  cut_bound checked (suc room) (x ∷ rest) st end env env' heap g h p r n meets safe wi e hs named c =
      let q = steps x rest st end meets in
      let fs : Manner → Deeper Name Heap = λ a. run (by_path_in a) u funcs room in
      let line = line_of (out-Stmt x) in
      let bounds = cut_bound checked room in
      let snd : Sound u fs = run_sound u funcs checked room in
      let goes = act_goes u funcs checked fs snd line rest st q.mid end env' h p q.rest safe (out-Stmt x) q.first in
      let over : action_of (listed u) u funcs env' g (out-Stmt x) ≡ action_of by_path u funcs env' h (out-Stmt x) = action_is u plain funcs env' g (out-Stmt x) ∙ asks_same u env' funcs st h p safe plainly g plainly_reads_held wi (out-Stmt x) q.mid q.first in
      let asks = action_alike T (listed w) (listed u) w u funcs env env' heap g settings tests e (λ m k i. held_alike T w.same u.same tests heap g m k hs i) (out-Stmt x) in
      rw (run_more by_path u funcs room x rest env' h p)
      (step_bound checked room bounds line rest st q.mid end env env' heap g h p q.rest safe wi e hs _ _ (subst (λ o. Agree (AlikeAction T) (action_of (listed w) w funcs env heap (out-Stmt x)) o) over asks) goes r n named c)
