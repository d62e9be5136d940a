-- The walk over an old record that a run left, while the run by paths goes over the new heap: what a repair that was cut short drew is at most what
-- stands inside the blocks that are run again there, of statements that meet the series rule.
use Rattle.std.proofs.Common.{◌≡◌, ℕ, suc, zero, ◌+◌, Bool, true, false, List, [], ◌∷◌, ◌++◌, map, Some, Result, Ok, Err, refl, ap, sym, ◌∙◌, subst, inl, inr, append_assoc, zero-add}
use Rattle.psac_ops.specs.Value.{Value, ref}
use Rattle.psac_ops.specs.Table.{◌>>=◌}
use Rattle.psac_syntax.specs.declared.program.Stmt.{Stmt, out-Stmt}
use Rattle.psac_syntax.specs.declared.program.Stmt.TheOpen.{Stmt-F}
use Rattle.psac_syntax.specs.declared.program.ReadItem.{ReadItem}
use Rattle.psac_syntax.specs.declared.program.Func.{Func}
use Rattle.psac_model.specs.declared.ends.FaultKind.{FaultKind}
use Rattle.psac_model.specs.declared.ends.End.{End}
use Rattle.psac_model.specs.declared.ends.End.TheVariants.{Done, Stop}
use Rattle.psac_model.specs.Names.{Path, Name, Made, Env, Heap, bind, same_name}
use Rattle.psac_model.specs.Expression.{Setting, in_order}
use Rattle.psac_model.specs.Tree.{Reads, size_of}
use Rattle.psac_model.specs.Tree as tree
use Rattle.psac_model.specs.Redo.{made_inside, reads_differ, redo_from}
use Rattle.psac_model.specs.Run.{Ran, Manner, Deeper, Action, Bind, Make, Put, Body, Block, Sides, action_of, read_of, with_reads, line_of, first_stop, act, act_or_stop, sequence, both, under, plainly, by_path, by_path_in, run, run_more, func_named}
use Rattle.psac_naming.specs.Alike.{Agree, Alike, AlikeRead, Each, Envs, Settings, Tests}
use Rattle.psac_naming.specs.Naming.{IsNamed, IsSameTest}
use Rattle.psac_naming.proofs.Actions.{AlikeAction, action_alike, bind_alike}
use Rattle.psac_naming.proofs.Namings.{named_left, named_right}
use Rattle.psac_naming.proofs.Trees.{envs_more}
use Rattle.psac_laws.specs.Standing.{Standing, series, MeetsSeries}
use Rattle.psac_laws.proofs.Heaps.{Wider, wider_written}
use Rattle.psac_laws.proofs.Good.{Runs, Good, plainly_reads_held, wider_same, wider_first, wider_left}
use Rattle.psac_laws.proofs.Rules.{steps}
use Rattle.psac_laws.proofs.Values.{Where}
use Rattle.psac_laws.proofs.Safe.{Safe, May, Target}
use Rattle.psac_laws.proofs.Pairs.{pair_runs}
use Rattle.psac_laws.proofs.Asks.{asks_same}
use Rattle.psac_laws.proofs.Acts.{Sound, Goes, Part, rest_safe}
use Rattle.psac_laws.proofs.Sound.{act_goes, run_sound}
use Rattle.psac_traced.specs.Rec.{Rec, E, A, W, S, P, R, HeapOf, writes, tree_of}
use Rattle.psac_traced.specs.Traced.{listed, goes_on, acts, acts_or_stops, traced}
use Rattle.psac_traced.specs.Renamed.{Heaps, Recs, IsOnly, reads_named}
use Rattle.psac_traced.specs.Places.{names, Makes}
use Rattle.psac_traced.specs.Scoped.{On, Or, ReadsOf, Reading}
use Rattle.psac_traced.specs.Holds.{read_names, Sees}
use Rattle.psac_traced.specs.Parts.{IsClosed}
use Rattle.psac_traced.specs.Mending.{unlike}
use Rattle.psac_traced.specs.Mended.{Mended}
use Rattle.psac_traced.proofs.Again.{not_done, first_left, reads_there}
use Rattle.psac_traced.proofs.Alike.{each_append, held_alike, heaps_then, reads_image}
use Rattle.psac_traced.proofs.Asked.{Asked, IsBlock, asked, asked_there}
use Rattle.psac_traced.proofs.Mended.{traced_mended}
use Rattle.psac_traced.proofs.Named.{traced_twin}
use Rattle.psac_traced.proofs.Paths.{ran, action_is, traced_is}
use Rattle.psac_traced.proofs.Places.{names_tied, alike_placed}
use Rattle.psac_traced.proofs.Scoped.{heap_more, traced_scoped}
use Rattle.psac_cut.specs.CutShort.{cut_short}
use Rattle.psac_cut.proofs.Within.{cut_bound}
use Rattle.psac_cut_repair.specs.CutMended.{CutMended}
use Rattle.psac_cut_repair.proofs.Cutting.{like_itself, mended_cut}
use Rattle.psac_cut_repair.proofs.Turned.{redo_grows}
use Rattle.psac_cut_repair.proofs.Differs.{unlike_differ}
use Rattle.psac_cut_repair.proofs.Walked.{old_of, Kept, Known, known_part, Walked, walked_none, walked_bare, walked_made, walked_wrote, walked_both, walked_sides, walked_broken, walked_like, walked_again}

-- a par whose sides are both done
pair_is : (l : Ran Name Heap) (right : Heap → Ran Name Heap) (x y : Rec Name) (z : Heap) → l ≡ ran x z Done → right (writes x ++ z) ≡ ran y (writes x ++ z) Done → both l right ≡ record { tree = tree.P (tree_of x) (tree_of y); heap = writes y ++ (writes x ++ z); end = Done }
pair_is l right x y z i j = rw (i, j) refl

heap_both : {M : Type 0} (K : M → Type 0) (a b : HeapOf M) → ReadsOf K a → ReadsOf K b → ReadsOf K (a ++ b)
heap_both K a b h k = each_append (AlikeRead (On K)) a b a b h k

not_itself : (b : Bool) → b ≡ true → b ≡ false → ⊥
not_itself b h k = cc

-- two names for a modifiable, of the old record and of the new one, and the modifiables that the old one has
module _ {M : Type 0} (T : M → Name → Type 0) (only : IsOnly T) (w : Setting M) (u' : Setting Name) (plain : u'.same ≡ same_name) (settings : Settings T w u') (tests : Tests T w.same u'.same) (is : IsSameTest w.same) (funcs : List Func) (Q : List Stmt → Type 0) (closed : IsClosed funcs Q) (Inputs : M → Type 0) (inputs : Settings (On Inputs) w w) (f g : M → Name) (O : M → Type 0) (g_is : (m : M) (n : Name) → T m n → g m ≡ n) (one_name : (h k : M) → O h → O k → w.same h k ≡ same_name (f h) (f k)) where
  abbrev pub Know : List Path → M → Type 0
  Know = Known f g O

  abbrev pub Walks_to : Path → List Path → Rec M → Rec M → ℕ → tree.Tree Name → Type 0
  Walks_to = Walked w.same f g O

  -- the names that are read off a new record from a path on
  abbrev pub Named : Path → Rec M → Type 0
  Named p c = (m : M) (k : Name) → IsNamed (names p c) m k → T m k

  -- a part of the old record: its names by paths, and what its reads name
  pub record Olden (p : Path) (r : Rec M) : Type 0 where
    pub named : (m : M) (n : Name) → IsNamed (names p r) m n → f m ≡ n
    pub made : (m : M) → Makes r m → O m
    pub reading : Reading O r

  -- where a part of the new run begins: the modifiables that are known there, beside the heap and the environment by paths
  pub record Here (K : M → Type 0) (st : Standing) (env : Env M) (env' : Env Name) (other : HeapOf M) (over h : Heap) (p : Path) (zs : List Path) : Type 0 where
    pub sets : (m : M) → Inputs m → K m
    pub safe : Safe u' st env' h p
    pub wider : Wider h over
    pub envs : Envs T env env'
    pub heaps : Heaps T other over
    pub scope : Envs (On K) env env
    pub reach : ReadsOf K other
    pub known : (k : M) → K k → Know zs k

  abbrev pub Walks : ℕ → Type 1
  Walks room = (K : M → Type 0) (body : List Stmt) (st end : Standing) (env : Env M) (env' : Env Name) (heap other : HeapOf M) (over h : Heap) (p : Path) (zs : List Path) (r c : Rec M) (n : ℕ) → Q body → series body st ≡ Some end → Here K st env env' other over h p zs → Olden p r → Named p c → traced w funcs room body env heap r Done → CutMended w funcs Q other r c n → Walks_to p zs r c n (run by_path u' funcs room body env' h p).tree

  -- parts of records
  left_named : (p : Path) (t r : Rec M) → Named p (S t r) → Named (p ++ 0 ∷ []) t
  left_named p t r named m k i = named m k (named_left (names (p ++ 0 ∷ []) t) (names (p ++ 1 ∷ []) r) m k i)

  right_named : (p : Path) (t r : Rec M) → Named p (S t r) → Named (p ++ 1 ∷ []) r
  right_named p t r named m k i = named m k (named_right (names (p ++ 0 ∷ []) t) (names (p ++ 1 ∷ []) r) m k i)

  turned_named : (p : Path) (c : ℕ) (t : Rec M) → Named ((p ++ 0 ∷ []) ++ c ∷ []) t → Named (p ++ 0 ∷ c ∷ []) t
  turned_named p c t named = subst (λ z. Named z t) (append_assoc p (0 ∷ []) (c ∷ [])) named

  left_olden : (p : Path) (t r : Rec M) → Olden p (S t r) → Olden (p ++ 0 ∷ []) t
  left_olden p t r o =
      record { named = λ m n i. o.named m n (named_left (names (p ++ 0 ∷ []) t) (names (p ++ 1 ∷ []) r) m n i); made = λ m i. o.made m (inl i); reading = o.reading.0 }

  right_olden : (p : Path) (t r : Rec M) → Olden p (S t r) → Olden (p ++ 1 ∷ []) r
  right_olden p t r o =
      record { named = λ m n i. o.named m n (named_right (names (p ++ 0 ∷ []) t) (names (p ++ 1 ∷ []) r) m n i); made = λ m i. o.made m (inr i); reading = o.reading.1 }

  as_parts : (p : Path) (t r : Rec M) → Olden p (P t r) → Olden p (S t r)
  as_parts p t r o = record { named = o.named; made = o.made; reading = o.reading }

  turned_olden : (p : Path) (c : ℕ) (t : Rec M) → Olden ((p ++ 0 ∷ []) ++ c ∷ []) t → Olden (p ++ 0 ∷ c ∷ []) t
  turned_olden p c t o = subst (λ z. Olden z t) (append_assoc p (0 ∷ []) (c ∷ [])) o

  turned_walks : (p : Path) (c : ℕ) (zs : List Path) (r s : Rec M) (n : ℕ) (new : tree.Tree Name) → Walks_to (p ++ 0 ∷ c ∷ []) zs r s n new → Walks_to ((p ++ 0 ∷ []) ++ c ∷ []) zs r s n new
  turned_walks p c zs r s n new x = subst (λ z. Walks_to z zs r s n new) (sym (append_assoc p (0 ∷ []) (c ∷ []))) x

  turned_redo : (p : Path) (c : ℕ) (zs : List Path) (r : Rec M) (new : tree.Tree Name) → redo_from ((p ++ 0 ∷ []) ++ c ∷ []) (old_of f r) new zs ≡ redo_from (p ++ 0 ∷ c ∷ []) (old_of f r) new zs
  turned_redo p c zs r new = ap (λ z. redo_from z (old_of f r) new zs) (append_assoc p (0 ∷ []) (c ∷ []))

  -- what is known, to more
  env_on : (K L : M → Type 0) → ((m : M) → K m → L m) → (env : Env M) → Envs (On K) env env → Envs (On L) env env
  env_on K L up env h = envs_more (On K) (On L) (λ m n i. (up m i.0, i.1)) env env h

  inputs_on : (K : M → Type 0) → ((m : M) → Inputs m → K m) → Settings (On K) w w
  inputs_on K up =
      record {
        opened = refl;
        room = refl;
        cols = refl;
        texts = refl;
        cells = λ r c h k. (let i = inputs.cells r c h k in (up (w.cell r c) i.0, i.1));
        row_count = (up w.row_count inputs.row_count.0, inputs.row_count.1);
      }

  tests_on : (K : M → Type 0) → Tests (On K) w.same w.same
  tests_on K m k n l h i = ap (λ z. w.same z k) h.1 ∙ ap (w.same n) i.1

  -- two names that are the same, of a modifiable of the old record and of one that is known outside the blocks
  known_same : (zs : List Path) (h k : M) → O h → Know zs k → same_name (f h) (g k) ≡ true → made_inside zs (g k) ≡ false → w.same h k ≡ true
  known_same zs h k o (inl i) e out = one_name h k o i.0 ∙ ap (same_name (f h)) i.1 ∙ e
  known_same zs h k o (inr i) e out = absurd (not_itself (made_inside zs (g k)) i out)

  -- a part that was run to its end, and the run by paths that it stands for
  record Whole (p : Path) (over : Heap) (t : Rec M) (end : End) (gave : Ran Name Heap) : Type 0 where
    rec : Rec Name
    alike : Recs T t rec
    gives : gave ≡ ran rec over end

  whole : (room : ℕ) (body : List Stmt) (env : Env M) (env' : Env Name) (other : HeapOf M) (over : Heap) (p : Path) (t : Rec M) (end : End) → Envs T env env' → Heaps T other over → Named p t → traced w funcs room body env other t end → Whole p over t end (run by_path u' funcs room body env' over p)
  whole room body env env' other over p t end e h named k =
      let twin = traced_twin T w u' funcs settings tests room body env env' other over t end e h (names_tied T p t named) k in
      record { rec = twin.rec; alike = twin.alike; gives = traced_is u' plain funcs room body env' over p twin.rec end (alike_placed T only p t twin.rec named twin.alike) twin.stands }

  module _ (checked : (i : ℕ) (c : Func) → func_named i funcs ≡ Some c → MeetsSeries c) (room : ℕ) (walks : Walks room) where
    abbrev fs : Manner → Deeper Name Heap
    fs a = run (by_path_in a) u' funcs room

    abbrev sound : Sound u' fs
    sound = run_sound u' funcs checked room

    done_on : (e : End) (rest : List Stmt) (env : Env M) (heap : HeapOf M) (r : Rec M) → goes_on e (traced w funcs room) rest env heap r Done → (e ≡ Done) × traced w funcs room rest env heap r Done
    done_on Done rest env heap r k = (refl, k)
    done_on (Stop why line) rest env heap r k = not_done why line k.1

    module _ (K : M → Type 0) (line : ℕ) (rest : List Stmt) (st mid end : Standing) (env : Env M) (env' : Env Name) (heap other : HeapOf M) (over h : Heap) (p : Path) (zs : List Path) (more : series rest mid ≡ Some end) (q : Q rest) (at : Here K st env env' other over h p zs) where
      abbrev goes : Action Name → Type 0
      goes = Goes u' funcs fs sound line rest st mid end env' h p more at.safe

      abbrev part : Runs → Type 0
      part = Part u' funcs fs sound line rest st mid end env' h p more at.safe

      abbrev after : Action Name → tree.Tree Name
      after a = (act by_path (fs plainly) a rest env' h p).tree

      -- what a part that was run over the new heap wrote names only what is known, or what it made
      wrote : (L : M → Type 0) → ((m : M) → K m → L m) → (body : List Stmt) (inner : Env M) (there : HeapOf M) (t : Rec M) (e : End) → Envs (On L) inner inner → ReadsOf L there → traced w funcs room body inner there t e → ReadsOf (Or L (Makes t)) (writes t)
      wrote L up body inner there t e scope reach k = (traced_scoped w funcs Inputs inputs room L (λ m i. up m (at.sets m i)) body inner there t e scope reach k).1

      -- the rest behind a part that is done
      rest_walks : (k : Runs) → part k → (t u : Rec M) (x : Rec Name) → Recs T u x → (k plainly over).end ≡ Done → (k plainly over).heap ≡ writes x ++ over → ReadsOf (Or K (Makes u)) (writes u) → Walks_to (p ++ 0 ∷ []) zs t u 0 (k plainly h).tree → (r c : Rec M) (n : ℕ) → Olden (p ++ 1 ∷ []) r → Named (p ++ 1 ∷ []) c → traced w funcs room rest env (writes t ++ heap) r Done → CutMended w funcs Q (writes u ++ other) r c n → Walks_to p zs (S t r) (S u c) n (sequence (k plainly h) (λ z. fs plainly rest env' z (p ++ 1 ∷ []))).tree
      rest_walks k own t u x alike done left made one r c n old named stands cut =
          let same = own.good.frame plainly over plainly_reads_held at.wider in
          let ended : (k plainly h).end ≡ Done = sym same.end ∙ done in
          let there = (k plainly h).heap in
          let ws = redo_from (p ++ 0 ∷ []) (old_of f t) (k plainly h).tree zs in
          let L : M → Type 0 = Or K (Makes u) in
          let here : Here L mid env env' (writes u ++ other) (writes x ++ over) there (p ++ 1 ∷ []) ws = record {
            sets = λ m i. inl (at.sets m i);
            safe = rest_safe u' funcs fs sound line rest st mid end env' h p more at.safe k own ended;
            wider = subst (Wider there) left (wider_left own.good plainly over plainly_reads_held at.wider);
            envs = at.envs;
            heaps = heaps_then T u x other over alike at.heaps;
            scope = env_on K L (λ m i. inl i) env at.scope;
            reach = heap_both L (writes u) other made (heap_more K L (λ m i. inl i) other at.reach);
            known = λ m i. elim i [
              | inl a ↦ known_part f g O zs ws (redo_grows (p ++ 0 ∷ []) (old_of f t) (k plainly h).tree zs) m (at.known m a)
              | inr a ↦ one.known m a
            ];
          } in
          let two = walks L rest mid end env env' (writes t ++ heap) (writes u ++ other) (writes x ++ over) there (p ++ 1 ∷ []) ws r c n q more here old named stands cut in
          rw ended
          (subst (λ z. Walks_to p zs (S t r) (S u c) z (tree.S (k plainly h).tree (fs plainly rest env' there (p ++ 1 ∷ [])).tree)) (zero-add n)
          (walked_both w.same f g O p zs t r u c 0 n (k plainly h).tree (fs plainly rest env' there (p ++ 1 ∷ [])).tree one two))

      -- a compound statement that is cut short
      broken : (k : Runs) (t r u c : Rec M) (n : ℕ) → c ≡ E → Walks_to (p ++ 0 ∷ []) zs t u n (k plainly h).tree → Walks_to p zs (S t r) (S u c) n (sequence (k plainly h) (λ z. fs plainly rest env' z (p ++ 1 ∷ []))).tree
      broken k t r u c n e x =
          subst (λ z. Walks_to p zs (S t r) (S u z) n (sequence (k plainly h) (λ z. fs plainly rest env' z (p ++ 1 ∷ []))).tree) (sym e)
          (walked_broken w.same f g O p zs t r u n (k plainly h).end (k plainly h) (λ z. fs plainly rest env' z (p ++ 1 ∷ [])) x)

      bind_walks : (x z : ℕ) (v : Value M) (y : Value Name) → x ≡ z → Alike T v y → Alike (On K) v v → goes (Bind z y) → (r c : Rec M) (n : ℕ) → Olden p r → Named p c → traced w funcs room rest (bind x v env) heap r Done → CutMended w funcs Q other r c n → Walks_to p zs r c n (after (Bind z y))
      bind_walks x z v y i j self k r c n old named stands cut =
          let here : Here K mid (bind x v env) (bind z y env') other over h p zs = record {
            sets = at.sets;
            safe = k.3;
            wider = at.wider;
            envs = subst (λ a. Envs T (bind x v env) (bind a y env')) i (bind_alike T x v y env env' j at.envs);
            heaps = at.heaps;
            scope = bind_alike (On K) x v v env env self at.scope;
            reach = at.reach;
            known = at.known;
          } in
          walks K rest mid end (bind x v env) (bind z y env') heap other over h p zs r c n q more here old named stands cut

      make_walks : (d e : ℕ) → d ≡ e → goes (Make e) → (m l : M) (r c : Rec M) (n : ℕ) → Olden p (A m r) → Named p (A l c) → traced w funcs room rest (bind d (ref m) env) heap r Done → (m ≡ l) × CutMended w funcs Q other r c n → Walks_to p zs (A m r) (A l c) n (after (Make e))
      make_walks d e i k m l r c n old named stands cut =
          let own : T l (Made p) = named l (Made p) (inl (refl, refl)) in
          let kept : Kept f g O l = subst (Kept f g O) cut.0 (old.made m (inl refl), old.named m (Made p) (inl (refl, refl)) ∙ sym (g_is m (Made p) (subst (λ z. T z (Made p)) (sym cut.0) own))) in
          let L : M → Type 0 = Or K (λ z. l ≡ z) in
          let here : Here L mid (bind d (ref l) env) (bind e (ref (Made p)) env') other over h (p ++ 3 ∷ []) zs = record {
            sets = λ a b. inl (at.sets a b);
            safe = k.2;
            wider = at.wider;
            envs = subst (λ z. Envs T (bind d (ref l) env) (bind z (ref (Made p)) env')) i (bind_alike T d (ref l) (ref (Made p)) env env' own at.envs);
            heaps = at.heaps;
            scope = bind_alike (On L) d (ref l) (ref l) env env (inr refl, refl) (env_on K L (λ a b. inl b) env at.scope);
            reach = heap_more K L (λ a b. inl b) other at.reach;
            known = λ a b. elim b [ inl x ↦ at.known a x | inr x ↦ inl (subst (Kept f g O) x kept) ];
          } in
          let deeper : Olden (p ++ 3 ∷ []) r = record { named = λ a b x. old.named a b (inr x); made = λ a x. old.made a (inr x); reading = old.reading } in
          walked_made w.same f g O p zs m l r c n _ kept
          (walks L rest mid end (bind d (ref l) env) (bind e (ref (Made p)) env') heap other over h (p ++ 3 ∷ []) zs r c n q more here deeper (λ a b x. named a b (inr x)) (subst (λ z. traced w funcs room rest (bind d (ref z) env) heap r Done) cut.0 stands) cut.1)

      put_walks : (m : M) (b : Name) (v : Value M) (y : Value Name) → T m b → Alike T v y → On K m m → Alike (On K) v v → goes (Put b y) → (a l : M) (o x : Value M) (r c : Rec M) (n : ℕ) → Olden p (W a o r) → Named p (W l x c) → (m ≡ a) × (v ≡ o) × traced w funcs room rest env ((a, o) ∷ heap) r Done → (a ≡ l) × (o ≡ x) × CutMended w funcs Q ((l, x) ∷ other) r c n → Walks_to p zs (W a o r) (W l x c) n (after (Put b y))
      put_walks m b v y i j self self_v k a l o x r c n old named stands cut =
          let ml : m ≡ l = stands.0 ∙ cut.0 in
          let vx : v ≡ x = stands.1 ∙ cut.1 in
          let il = subst (λ z. T z b) ml i in
          let jx = subst (λ z. Alike T z y) vx j in
          let wide : Wider ((b, y) ∷ h) ((b, y) ∷ over) = wider_written (tree.W b y tree.E) h over at.wider in
          let mine : ReadsOf K ((l, x) ∷ []) = subst (λ z. ReadsOf K ((z, x) ∷ [])) ml (subst (λ z. ReadsOf K ((m, z) ∷ [])) vx ((self, self_v), tt)) in
          let here : Here K mid env env' ((l, x) ∷ other) ((b, y) ∷ over) ((b, y) ∷ h) (p ++ 3 ∷ []) zs = record {
            sets = at.sets;
            safe = k.1;
            wider = wide;
            envs = at.envs;
            heaps = ((il, jx), at.heaps);
            scope = at.scope;
            reach = heap_both K ((l, x) ∷ []) other mine at.reach;
            known = at.known;
          } in
          let deeper : Olden (p ++ 3 ∷ []) r = record { named = old.named; made = old.made; reading = old.reading } in
          walked_wrote w.same f g O p zs a l o x b y r c n _
          (walks K rest mid end env env' ((a, o) ∷ heap) ((l, x) ∷ other) ((b, y) ∷ over) ((b, y) ∷ h) (p ++ 3 ∷ []) zs r c n q more here deeper named stands.2 cut.2)

      -- a part that begins at a path below
      begins : (body : List Stmt) (now : Standing) (inner : Env M) (inner' : Env Name) (p' : Path) → Safe u' now inner' h p' → Envs T inner inner' → Envs (On K) inner inner → Here K now inner inner' other over h p' zs
      begins body now inner inner' p' safe envs scope =
          record { sets = at.sets; safe = safe; wider = at.wider; envs = envs; heaps = at.heaps; scope = scope; reach = at.reach; known = at.known }

      body_walks : (body : List Stmt) (inner : Env M) (inner' : Env Name) → Envs T inner inner' → Envs (On K) inner inner → Q body → goes (Body body inner') → (t r u c : Rec M) (n : ℕ) → Olden p (S t r) → Named p (S u c) → traced w funcs room body inner heap t Done → traced w funcs room rest env (writes t ++ heap) r Done → CutMended w funcs Q other (S t r) (S u c) n → Walks_to p zs (S t r) (S u c) n (after (Body body inner'))
      body_walks body inner inner' envs scope so k t r u c n old named stands next (inl cut) =
          broken (λ a z. fs a body inner' z (p ++ 0 ∷ [])) t r u c n cut.1
          (walks K body k.0.names k.0.after inner inner' heap other over h (p ++ 0 ∷ []) zs t u n so k.0.meets (begins body k.0.names inner inner' (p ++ 0 ∷ []) k.0.safe envs scope) (left_olden p t r old) (left_named p u c named) stands cut.0)
      body_walks body inner inner' envs scope so k t r u c n old named stands next (inr cut) =
          let one = walks K body k.0.names k.0.after inner inner' heap other over h (p ++ 0 ∷ []) zs t u 0 so k.0.meets (begins body k.0.names inner inner' (p ++ 0 ∷ []) k.0.safe envs scope) (left_olden p t r old) (left_named p u c named) stands (mended_cut w funcs Q other t u Done cut.0) in
          let now = traced_mended w funcs Q closed t u room body inner heap other Done so stands cut.0 in
          let x = whole room body inner inner' other over (p ++ 0 ∷ []) u Done envs at.heaps (left_named p u c named) now in
          rest_walks (λ a z. fs a body inner' z (p ++ 0 ∷ [])) k.1 t u x.rec x.alike (ap (λ (z : Ran Name Heap). z.end) x.gives) (ap (λ (z : Ran Name Heap). z.heap) x.gives) (wrote K (λ m i. i) body inner other u Done scope at.reach now) one r c n (right_olden p t r old) (right_named p u c named) next cut.1

      module _ (number : ℕ) (saw : Reads Name) (first : List Stmt) (inner : Env M) (inner' : Env Name) (envs : Envs T inner inner') (scope : Envs (On K) inner inner) (so : Q first) (k : goes (Block number saw first inner')) where
        abbrev below : Path
        below = p ++ 0 ∷ 2 ∷ []

        abbrev block_runs : Runs
        block_runs a z = under (tree.R number env' saw) (fs a first inner' z below)

        -- the block's node, over the reads of both
        module _ (level label depth tag : ℕ) (saved kept : Env M) (reads again : Reads M) (seen : Each (AlikeRead T) again saw) (reach : ReadsOf K again) (t u : Rec M) (n : ℕ) (old : Olden (p ++ 0 ∷ []) (R level label saved reads t)) (named : Named (p ++ 0 ∷ []) (R depth tag kept again u)) where
          in_olden : Olden below t
          in_olden = turned_olden p 2 t (record { named = old.named; made = old.made; reading = old.reading.1 })

          in_named : Named below u
          in_named = turned_named p 2 u named

          like_walks : reads ≡ again → traced w funcs room first inner heap t Done → CutMended w funcs Q other t u n → Walks_to (p ++ 0 ∷ []) zs (R level label saved reads t) (R depth tag kept again u) n (block_runs plainly h).tree
          like_walks e stands cut =
              walked_like w.same f g O (p ++ 0 ∷ []) zs level depth label tag number saved kept env' reads again saw t u n _ (ap (λ z. unlike w.same z again) e ∙ like_itself w.same is again)
              (turned_walks p 2 zs t u n _ (walks K first k.1.names k.1.after inner inner' heap other over h below zs t u n so k.1.meets (begins first k.1.names inner inner' below k.1.safe envs scope) in_olden in_named stands cut))

          again_walks : unlike w.same reads again ≡ true → cut_short w funcs room first inner other u n → Walks_to (p ++ 0 ∷ []) zs (R level label saved reads t) (R depth tag kept again u) n (block_runs plainly h).tree
          again_walks e cut =
              let bound = cut_bound T only w u' plain settings tests funcs checked room first k.1.names k.1.after inner inner' other over h below u n k.1.meets k.1.safe at.wider envs at.heaps in_named cut in
              let differs = unlike_differ w.same f g O (Know zs) zs (known_same zs) reads again old.reading.0 (heap_more K (Know zs) at.known again reach) e in
              walked_again w.same f g O (p ++ 0 ∷ []) zs level depth label tag number saved kept env' reads again saw t u n _ e
              (subst (λ z. reads_differ zs (reads_named f reads) z ≡ true) (reads_image T g g_is again saw seen) differs)
              (λ m l i. g_is m l (named m l i)) bound

      -- a read block whose reads the new record has
      module _ (number : ℕ) (saw : Reads Name) (first : List Stmt) (items : List ReadItem) (again : Reads M) (inner' : Env Name) (envs : Envs T (with_reads env items again) inner') (scope : Envs (On K) (with_reads env items again) (with_reads env items again)) (so : Q first) (k : goes (Block number saw first inner')) (x : Stmt) (row : ℕ) (eq : out-Stmt x ≡ Stmt-F.Read row number items first) (here : Q (x ∷ rest)) (seen : Each (AlikeRead T) again saw) (reach : ReadsOf K again) (level label depth tag : ℕ) (saved kept : Env M) (reads : Reads M) (rl : room ≡ level) (nl : number ≡ label) (es : env ≡ saved) (t u : Rec M) (stands : traced w funcs room first (with_reads env items reads) heap t Done) where
        abbrev now_env : Env M
        now_env = with_reads env items again

        abbrev before : Rec M
        before = R level label saved reads t

        abbrev now : Rec M
        now = R depth tag kept again u

        labelled : out-Stmt x ≡ Stmt-F.Read row label items first
        labelled = subst (λ z. out-Stmt x ≡ Stmt-F.Read row z items first) nl eq

        as_now : reads ≡ again → traced w funcs room first now_env heap t Done
        as_now e = subst (λ z. traced w funcs room first (with_reads env items z) heap t Done) e stands

        node_walks : (n : ℕ) → Olden (p ++ 0 ∷ []) before → Named (p ++ 0 ∷ []) now → CutMended w funcs Q other before now n → Walks_to (p ++ 0 ∷ []) zs before now n (block_runs number saw first now_env inner' envs scope so k plainly h).tree
        node_walks n old named cut =
            elim cut.5 [
              | inl j ↦ like_walks number saw first now_env inner' envs scope so k level label depth tag saved kept reads again seen reach t u n old named j.0 (as_now j.0) j.1
              | inr j ↦
                  again_walks number saw first now_env inner' envs scope so k level label depth tag saved kept reads again seen reach t u n old named j.0
                  (subst (λ z. cut_short w funcs room first (with_reads z items again) other u n) (sym es)
                  (subst (λ z. cut_short w funcs z first (with_reads saved items again) other u n) (sym rl) (j.1 x rest row items first labelled here)))
            ]

        ran_now : Mended w funcs Q other before now Done → traced w funcs room first now_env other u Done
        ran_now m =
            elim m.5 [
              | inl j ↦ traced_mended w funcs Q closed t u room first now_env heap other Done so (as_now j.0) j.1
              | inr j ↦
                  subst (λ z. traced w funcs room first (with_reads z items again) other u Done) (sym es)
                  (subst (λ z. traced w funcs z first (with_reads saved items again) other u Done) (sym rl) (j.1 x rest row items first labelled here))
            ]

        block_walks : (r c : Rec M) (n : ℕ) → Olden p (S before r) → Named p (S now c) → traced w funcs room rest env (writes t ++ heap) r Done → CutMended w funcs Q other (S before r) (S now c) n → Walks_to p zs (S before r) (S now c) n (after (Block number saw first inner'))
        block_walks r c n old named next (inl cut) =
            broken (block_runs number saw first now_env inner' envs scope so k) before r now c n cut.1
            (node_walks n (left_olden p before r old) (left_named p now c named) cut.0)
        block_walks r c n old named next (inr cut) =
            let m = cut.0 in
            let one = node_walks 0 (left_olden p before r old) (left_named p now c named) (mended_cut w funcs Q other before now Done m) in
            let ran_it = ran_now m in
            let y = whole room first now_env inner' other over (p ++ 0 ∷ 2 ∷ []) u Done envs at.heaps (turned_named p 2 u (left_named p now c named)) ran_it in
            let alike : Recs T now (R room number env' saw y.rec) = (sym (rl ∙ m.0), sym (nl ∙ m.1), subst (λ z. Envs T z env') (es ∙ m.2) at.envs, seen, y.alike) in
            rest_walks (block_runs number saw first now_env inner' envs scope so k) k.2 before now (R room number env' saw y.rec) alike (ap (λ (z : Ran Name Heap). z.end) y.gives) (ap (λ (z : Ran Name Heap). z.heap) y.gives) (wrote K (λ a i. i) first now_env other u Done scope at.reach ran_it) one r c n (right_olden p before r old) (right_named p now c named) next cut.1

      module _ (left right : List Stmt) (lq : Q left) (rq : Q right) (k : goes (Sides left right)) where
        abbrev p0 : Path
        p0 = p ++ 0 ∷ 0 ∷ []

        abbrev p1 : Path
        p1 = p ++ 0 ∷ 1 ∷ []

        abbrev runs : Runs
        runs = pair_runs p (λ a z. fs a left env' z p0) (λ a z. fs a right env' z p1)

        abbrev left_tree : tree.Tree Name
        left_tree = (fs plainly left env' h p0).tree

        abbrev right_tree : tree.Tree Name
        right_tree = (fs plainly right env' (fs plainly left env' h p0).heap p1).tree

        left_good : Good (May k.0.names k.0.after.unwritten env' p0) (Target k.0.names k.0.after.unwritten env') h (λ a z. fs a left env' z p0)
        left_good = sound left k.0.names k.0.after env' h p0 k.0.meets k.0.safe

        right_good : Good (May k.1.names k.1.after.unwritten env' p1) (Target k.1.names k.1.after.unwritten env') h (λ a z. fs a right env' z p1)
        right_good = sound right k.1.names k.1.after env' h p1 k.1.meets k.1.safe

        -- the right side has the same tree behind the left side
        behind_left : right_tree ≡ (fs plainly right env' h p1).tree
        behind_left =
            (right_good.frame plainly (fs plainly left env' h p0).heap plainly_reads_held (wider_first left_good plainly h plainly_reads_held (wider_same h))).tree

        module _ (l j t u : Rec M) (first : traced w funcs room left env heap l Done) (second : traced w funcs room right env (writes l ++ heap) j Done) (old : Olden (p ++ 0 ∷ []) (P l j)) (named : Named (p ++ 0 ∷ []) (P t u)) where
          left_in : Named p0 t
          left_in = turned_named p 0 t (λ m z i. named m z (named_left (names ((p ++ 0 ∷ []) ++ 0 ∷ []) t) (names ((p ++ 0 ∷ []) ++ 1 ∷ []) u) m z i))

          right_in : Named p1 u
          right_in = turned_named p 1 u (λ m z i. named m z (named_right (names ((p ++ 0 ∷ []) ++ 0 ∷ []) t) (names ((p ++ 0 ∷ []) ++ 1 ∷ []) u) m z i))

          left_was : Olden p0 l
          left_was = turned_olden p 0 l (left_olden (p ++ 0 ∷ []) l j (as_parts (p ++ 0 ∷ []) l j old))

          right_was : Olden p1 j
          right_was = turned_olden p 1 j (right_olden (p ++ 0 ∷ []) l j (as_parts (p ++ 0 ∷ []) l j old))

          left_walks : (n : ℕ) → CutMended w funcs Q other l t n → Walks_to p0 zs l t n left_tree
          left_walks n cut =
              walks K left k.0.names k.0.after env env' heap other over h p0 zs l t n lq k.0.meets (begins left k.0.names env env' p0 k.0.safe at.envs at.scope) left_was left_in first cut

          abbrev ws : List Path
          ws = redo_from p0 (old_of f l) left_tree zs

          -- both sides, each by itself
          beside : (a b : ℕ) → Walks_to p0 zs l t a left_tree → Walks_to p1 ws j u b (fs plainly right env' h p1).tree → Walks_to (p ++ 0 ∷ []) zs (P l j) (P t u) (a + b) (tree.P left_tree right_tree)
          beside a b x y =
              walked_sides w.same f g O (p ++ 0 ∷ []) zs l j t u a b left_tree right_tree (turned_walks p 0 zs l t a left_tree x)
              (subst (λ z. Walks_to ((p ++ 0 ∷ []) ++ 1 ∷ []) z j u b right_tree) (sym (turned_redo p 0 zs l left_tree))
              (subst (λ z. Walks_to ((p ++ 0 ∷ []) ++ 1 ∷ []) ws j u b z) (sym behind_left) (turned_walks p 1 ws j u b (fs plainly right env' h p1).tree y)))

          pair_walks : (n : ℕ) → CutMended w funcs Q other (P l j) (P t u) n → Walks_to (p ++ 0 ∷ []) zs (P l j) (P t u) n (tree.P left_tree right_tree)
          pair_walks n (inl cut) =
              let here : Here K k.1.names env env' other over h p1 ws = record {
                sets = at.sets;
                safe = k.1.safe;
                wider = at.wider;
                envs = at.envs;
                heaps = at.heaps;
                scope = at.scope;
                reach = at.reach;
                known = λ m i. known_part f g O zs ws (redo_grows p0 (old_of f l) left_tree zs) m (at.known m i);
              } in
              let two = walks K right k.1.names k.1.after env env' (writes l ++ heap) other over h p1 ws j u cut.1 rq k.1.meets here right_was right_in second cut.3 in
              subst (λ z. Walks_to (p ++ 0 ∷ []) zs (P l j) (P t u) z (tree.P left_tree right_tree)) cut.4 (beside cut.0 cut.1 (left_walks cut.0 cut.2) two)
          pair_walks n (inr cut) =
              let e = cut.0 in
              let ran_it = traced_mended w funcs Q closed l t room left env heap other e lq first cut.1 in
              let one = left_walks 0 (mended_cut w funcs Q other l t e cut.1) in
              let x = whole room left env env' other over p0 t e at.envs at.heaps left_in ran_it in
              let L : M → Type 0 = Or K (Makes t) in
              let made = wrote K (λ m i. i) left env other t e at.scope at.reach ran_it in
              let here : Here L k.1.names env env' (writes t ++ other) (writes x.rec ++ over) h p1 ws = record {
                sets = λ m i. inl (at.sets m i);
                safe = k.1.safe;
                wider = subst (Wider h) (ap (λ (z : Ran Name Heap). z.heap) x.gives) (wider_first left_good plainly over plainly_reads_held at.wider);
                envs = at.envs;
                heaps = heaps_then T t x.rec other over x.alike at.heaps;
                scope = env_on K L (λ m i. inl i) env at.scope;
                reach = heap_both L (writes t) other made (heap_more K L (λ m i. inl i) other at.reach);
                known = λ m i. elim i [
                  | inl a ↦ known_part f g O zs ws (redo_grows p0 (old_of f l) left_tree zs) m (at.known m a)
                  | inr a ↦ one.known m a
                ];
              } in
              let two = walks L right k.1.names k.1.after env env' (writes l ++ heap) (writes t ++ other) (writes x.rec ++ over) h p1 ws j u n rq k.1.meets here right_was right_in second cut.2 in
              subst (λ z. Walks_to (p ++ 0 ∷ []) zs (P l j) (P t u) z (tree.P left_tree right_tree)) (zero-add n) (beside 0 n one two)

        sides_walks : (l j r t u c : Rec M) (n : ℕ) → traced w funcs room left env heap l Done → traced w funcs room right env (writes l ++ heap) j Done → traced w funcs room rest env (writes j ++ (writes l ++ heap)) r Done → Olden p (S (P l j) r) → Named p (S (P t u) c) → CutMended w funcs Q other (S (P l j) r) (S (P t u) c) n → Walks_to p zs (S (P l j) r) (S (P t u) c) n (after (Sides left right))
        sides_walks l j r t u c n first second next old named (inl cut) =
            broken runs (P l j) r (P t u) c n cut.1
            (pair_walks l j t u first second (left_olden p (P l j) r old) (left_named p (P t u) c named) n cut.0)
        sides_walks l j r t u c n first second next old named (inr cut) =
            let m = cut.0 in
            let there = left_olden p (P l j) r old in
            let within = left_named p (P t u) c named in
            let one = pair_walks l j t u first second there within 0 (mended_cut w funcs Q other (P l j) (P t u) Done m) in
            let d = first_left m.0 m.1 m.4 in
            let ran_left = traced_mended w funcs Q closed l t room left env heap other Done lq first (subst (Mended w funcs Q other l t) d.0 m.2) in
            let ran_right = traced_mended w funcs Q closed j u room right env (writes l ++ heap) (writes t ++ other) Done rq second (subst (Mended w funcs Q (writes t ++ other) j u) d.1 m.3) in
            let x = whole room left env env' other over p0 t Done at.envs at.heaps (left_in l j t u first second there within) ran_left in
            let y = whole room right env env' (writes t ++ other) (writes x.rec ++ over) p1 u Done at.envs (heaps_then T t x.rec other over x.alike at.heaps) (right_in l j t u first second there within) ran_right in
            let gives = pair_is (fs plainly left env' over p0) (λ z. fs plainly right env' z p1) x.rec y.rec over x.gives y.gives in
            let L : M → Type 0 = Or K (Makes t) in
            let All : M → Type 0 = Or K (Makes (P t u)) in
            let made = wrote K (λ a i. i) left env other t Done at.scope at.reach ran_left in
            let also = wrote L (λ a i. inl i) right env (writes t ++ other) u Done (env_on K L (λ a i. inl i) env at.scope) (heap_both L (writes t) other made (heap_more K L (λ a i. inl i) other at.reach)) ran_right in
            let all : ReadsOf All (writes u ++ writes t) =
            heap_both All (writes u) (writes t)
            (heap_more (Or L (Makes u)) All (λ a i. elim i [ inl b ↦ elim b [ inl v ↦ inl v | inr v ↦ inr (inl v) ] | inr b ↦ inr (inr b) ]) (writes u) also)
            (heap_more L All (λ a i. elim i [ inl b ↦ inl b | inr b ↦ inr (inl b) ]) (writes t) made) in
            rest_walks runs k.2 (P l j) (P t u) (P x.rec y.rec) (x.alike, y.alike) (ap (λ (z : Ran Name Heap). z.end) gives) (ap (λ (z : Ran Name Heap). z.heap) gives ∙ sym (append_assoc (writes y.rec) (writes x.rec) over)) all one r c n (right_olden p (P l j) r old) (right_named p (P t u) c named)
            (subst (λ z. traced w funcs room rest env z r Done) (sym (append_assoc (writes j) (writes l) heap)) next) cut.1

      -- what stands inside a statement
      abbrev Inside : Action M → Type 0
      Inside (Body body inner) = Q body
      Inside (Sides left right) = Q left × Q right
      Inside _ = Unit {0}

      bare_sides : (left right : List Stmt) (l j r c : Rec M) (n : ℕ) → CutMended w funcs Q other (S (P l j) r) (S E c) n → Walks_to p zs (S (P l j) r) (S E c) n (after (Sides left right))
      bare_sides left right l j r c n (inl cut) =
          subst (λ z. Walks_to p zs (S (P l j) r) (S E z) n (after (Sides left right))) (sym cut.1) (walked_bare w.same f g O p zs (P l j) r n (after (Sides left right)) cut.0)
      bare_sides left right l j r c n (inr cut) = absurd cut.0

      -- a statement that isn't a read
      act_walks : (a : Action M) (b : Action Name) → AlikeAction T a b → AlikeAction (On K) a a → (IsBlock w funcs env a → ⊥) → Inside a → goes b → (r c : Rec M) (n : ℕ) → Olden p r → Named p c → acts room (traced w funcs room) a rest env heap r Done → CutMended w funcs Q other r c n → Walks_to p zs r c n (after b)
      act_walks a b i s none so k r E n old named t cut = walked_none w.same f g O p zs r n (after b) cut
      act_walks (Bind x v) (Bind z y) i s none so k r c n old named t cut = bind_walks x z v y i.0 i.1 s.1 k r c n old named t cut
      act_walks (Make d) (Make e) i s none so k (A m r) (A l c) n old named t cut = make_walks d e i k m l r c n old named t cut
      act_walks (Make d) (Make e) i s none so k (A m r) _ n old named t cut = absurd cut
      act_walks (Make d) (Make e) i s none so k _ _ n old named t cut = absurd t
      act_walks (Put m v) (Put b y) i s none so k (W a o r) (W l x c) n old named t cut = put_walks m b v y i.0 i.1 s.0 s.1 k a l o x r c n old named t cut
      act_walks (Put m v) (Put b y) i s none so k (W a o r) _ n old named t cut = absurd cut
      act_walks (Put m v) (Put b y) i s none so k _ _ n old named t cut = absurd t
      act_walks (Body body inner) (Body body' inner') i s none so k (S a r) (S b c) n old named t cut =
          let d = done_on t.0 rest env (writes a ++ heap) r t.2 in
          body_walks body' inner inner' i.1 s.1 (subst Q i.0 so) k a r b c n old named
          (subst (λ z. traced w funcs room z inner heap a Done) i.0 (subst (traced w funcs room body inner heap a) d.0 t.1)) d.1 cut
      act_walks (Body body inner) (Body body' inner') i s none so k (S a r) _ n old named t cut = absurd cut
      act_walks (Body body inner) (Body body' inner') i s none so k _ _ n old named t cut = absurd t
      act_walks (Sides left right) (Sides left' right') i s none so k (S (P l j) r) (S (P a b) c) n old named t cut =
          let d = done_on (first_stop t.0 t.1) rest env (writes j ++ (writes l ++ heap)) r t.4 in
          let e = first_left t.0 t.1 d.0 in
          sides_walks left' right' (subst Q i.0 so.0) (subst Q i.1 so.1) k l j r a b c n
          (subst (λ z. traced w funcs room z env heap l Done) i.0 (subst (traced w funcs room left env heap l) e.0 t.2))
          (subst (λ z. traced w funcs room z env (writes l ++ heap) j Done) i.1 (subst (traced w funcs room right env (writes l ++ heap) j) e.1 t.3)) d.1 old named cut
      act_walks (Sides left right) (Sides left' right') i s none so k (S (P l j) r) (S E c) n old named t cut = bare_sides left' right' l j r c n cut
      act_walks (Sides left right) (Sides left' right') i s none so k (S (P l j) r) (S _ c) n old named t cut = elim cut [ inl x ↦ absurd x.0 | inr x ↦ absurd x.0 ]
      act_walks (Sides left right) (Sides left' right') i s none so k (S (P l j) r) _ n old named t cut = absurd cut
      act_walks (Sides left right) (Sides left' right') i s none so k _ _ n old named t cut = absurd t
      act_walks (Block number reads body inner) b i s none so k _ _ n old named t cut = absurd (none tt)
      act_walks _ _ i s none so k _ _ n old named t cut = absurd i

      abbrev gone : Result (Action Name) FaultKind → tree.Tree Name
      gone o = (act_or_stop by_path (fs plainly) o line rest env' h p).tree

      step_walks : (a : Action M) (o : Result (Action Name) FaultKind) → Agree (AlikeAction T) (Ok a) o → AlikeAction (On K) a a → (IsBlock w funcs env a → ⊥) → Inside a → Where goes o → (r c : Rec M) (n : ℕ) → Olden p r → Named p c → acts room (traced w funcs room) a rest env heap r Done → CutMended w funcs Q other r c n → Walks_to p zs r c n (gone o)
      step_walks a (Ok b) i s none so k r c n old named t cut = act_walks a b i s none so k r c n old named t cut
      step_walks a (Err why) i s none so k r c n old named t cut = absurd i

      -- a read block that the new record has
      read_walks : (x : Stmt) (row number : ℕ) (items : List ReadItem) (first : List Stmt) (again : Reads M) (o : Result (Action Name) FaultKind) → Agree (AlikeAction T) (Ok (Block number again first (with_reads env items again))) o → AlikeAction (On K) (Block number again first (with_reads env items again)) (Block number again first (with_reads env items again)) → Where goes o → out-Stmt x ≡ Stmt-F.Read row number items first → Q (x ∷ rest) → (level label depth tag : ℕ) (saved kept : Env M) (reads : Reads M) (t r u c : Rec M) (n : ℕ) → room ≡ level → number ≡ label → env ≡ saved → traced w funcs room first (with_reads env items reads) heap t Done → traced w funcs room rest env (writes t ++ heap) r Done → Olden p (S (R level label saved reads t) r) → Named p (S (R depth tag kept again u) c) → CutMended w funcs Q other (S (R level label saved reads t) r) (S (R depth tag kept again u) c) n → Walks_to p zs (S (R level label saved reads t) r) (S (R depth tag kept again u) c) n (gone o)
      read_walks x row number items first again (Ok (Block number' saw first' inner')) i s k eq here level label depth tag saved kept reads t r u c n rl nl es stands next old named cut =
          let eq' : out-Stmt x ≡ Stmt-F.Read row number' items first' = subst (λ z. out-Stmt x ≡ Stmt-F.Read row number' items z) i.2 (subst (λ z. out-Stmt x ≡ Stmt-F.Read row z items first) i.0 eq) in
          block_walks number' saw first' items again inner' i.3 s.3 (closed.block x rest row number' items first' eq' here) k x row eq' here i.1 s.1 level label depth tag saved kept reads rl (sym i.0 ∙ nl) es t u (subst (λ z. traced w funcs room z (with_reads env items reads) heap t Done) i.2 stands) r c n old named next cut
      read_walks x row number items first again (Ok _) i s k eq here level label depth tag saved kept reads t r u c n rl nl es stands next old named cut = absurd i
      read_walks x row number items first again (Err why) i s k eq here level label depth tag saved kept reads t r u c n rl nl es stands next old named cut = absurd i

    -- a statement, told from what it asks for
    module _ (K : M → Type 0) (x : Stmt) (rest : List Stmt) (st end : Standing) (env : Env M) (env' : Env Name) (heap other : HeapOf M) (over h : Heap) (p : Path) (zs : List Path) (meets : series (x ∷ rest) st ≡ Some end) (so : Q (x ∷ rest)) (at : Here K st env env' other over h p zs) where
      abbrev line : ℕ
      line = line_of (out-Stmt x)

      abbrev asks : HeapOf M → Result (Action M) FaultKind
      asks z = action_of (listed w) w funcs env z (out-Stmt x)

      abbrev asks_named : Result (Action Name) FaultKind
      asks_named = action_of by_path u' funcs env' h (out-Stmt x)

      abbrev mid : Standing
      mid = (steps x rest st end meets).mid

      more : series rest mid ≡ Some end
      more = (steps x rest st end meets).rest

      goes_on_here : Where (Goes u' funcs fs sound line rest st mid end env' h p more at.safe) asks_named
      goes_on_here = act_goes u' funcs checked fs sound line rest st mid end env' h p more at.safe (out-Stmt x) (steps x rest st end meets).first

      -- over the new heap it asks for what the run by paths asks for, and for nothing that isn't known
      alike : (o : Result (Action M) FaultKind) → asks other ≡ o → Agree (AlikeAction T) o asks_named
      alike o e =
          let same : action_of (listed u') u' funcs env' over (out-Stmt x) ≡ asks_named = action_is u' plain funcs env' over (out-Stmt x) ∙ asks_same u' env' funcs st h p at.safe plainly over plainly_reads_held at.wider (out-Stmt x) mid (steps x rest st end meets).first in
          subst (λ z. Agree (AlikeAction T) z asks_named) e
          (subst (Agree (AlikeAction T) (asks other)) same
          (action_alike T (listed w) (listed u') w u' funcs env env' other over settings tests at.envs (λ m k i. held_alike T w.same u'.same tests other over m k at.heaps i) (out-Stmt x)))

      itself : (a : Action M) → asks other ≡ Ok a → AlikeAction (On K) a a
      itself a e =
          subst (λ z. Agree (AlikeAction (On K)) z (Ok a)) e
          (subst (Agree (AlikeAction (On K)) (asks other)) e
          (action_alike (On K) (listed w) (listed w) w w funcs env env other other (inputs_on K at.sets) (tests_on K) at.scope (λ m k i. held_alike (On K) w.same w.same (tests_on K) other other m k at.reach i) (out-Stmt x)))

      -- what it asks for stands in the program
      inside : (a : Action M) → asks heap ≡ Ok a → Inside K line rest st mid end env env' heap other over h p zs more (closed.tail x rest so) at a
      inside a e = by a (out-Stmt x) refl (asked w funcs env heap (out-Stmt x) a e)
        where
          by : (a : Action M) (s : Stmt-F Stmt) → out-Stmt x ≡ s → Asked w funcs env heap s a → Inside K line rest st mid end env env' heap other over h p zs more (closed.tail x rest so) at a
          by (Body body inner) (Stmt-F.If row e first second) eq (inl i) = subst Q i (closed.first x rest row e first second eq so)
          by (Body body inner) (Stmt-F.If row e first second) eq (inr i) = subst Q i (closed.second x rest row e first second eq so)
          by (Body body inner) (Stmt-F.Call row i values dests) eq z = subst Q z.2 (closed.called i z.0 z.1)
          by (Body body inner) _ eq z = absurd z
          by (Sides left right) (Stmt-F.Par row one two) eq z = (subst Q z.0 (closed.left x rest row one two eq so), subst Q z.1 (closed.right x rest row one two eq so))
          by (Sides left right) _ eq z = absurd z
          by _ s eq z = tt

      abbrev Steps : Rec M → Rec M → ℕ → Type 0
      Steps r c n = Walks_to p zs r c n (act_or_stop by_path (fs plainly) asks_named line rest env' h p).tree

      plain_step : (a : Action M) → asks heap ≡ Ok a → (IsBlock w funcs env a → ⊥) → (r c : Rec M) (n : ℕ) → Olden p r → Named p c → acts room (traced w funcs room) a rest env heap r Done → CutMended w funcs Q other r c n → Steps r c n
      plain_step a e none r c n old named t cut =
          elim (asked_there w funcs env heap other (out-Stmt x) a e) [
            | inl i ↦
                step_walks K line rest st mid end env env' heap other over h p zs more (closed.tail x rest so) at a asks_named (alike (Ok a) i) (itself a i) none (inside a e) goes_on_here r c n old named t cut
            | inr i ↦ absurd (none i)
          ]

      bare_block : (level label : ℕ) (saved : Env M) (reads : Reads M) (t r c : Rec M) (n : ℕ) → CutMended w funcs Q other (S (R level label saved reads t) r) (S E c) n → Steps (S (R level label saved reads t) r) (S E c) n
      bare_block level label saved reads t r c n (inl cut) =
          subst (λ z. Steps (S (R level label saved reads t) r) (S E z) n) (sym cut.1) (walked_bare w.same f g O p zs (R level label saved reads t) r n _ cut.0)
      bare_block level label saved reads t r c n (inr cut) = absurd cut.0

      -- the reads of the new record are those of the statement over the new heap
      sees_of : (level label depth tag : ℕ) (saved kept : Env M) (reads again : Reads M) (t r u c : Rec M) (n : ℕ) → CutMended w funcs Q other (S (R level label saved reads t) r) (S (R depth tag kept again u) c) n → (read_names reads ≡ read_names again) × Sees w.same other again
      sees_of level label depth tag saved kept reads again t r u c n (inl cut) = (cut.0.3, cut.0.4)
      sees_of level label depth tag saved kept reads again t r u c n (inr cut) = (cut.0.3, cut.0.4)

      read_step : (s : Stmt-F Stmt) → out-Stmt x ≡ s → (number : ℕ) (reads : Reads M) (first : List Stmt) (inner : Env M) → Asked w funcs env heap s (Block number reads first inner) → (r c : Rec M) (n : ℕ) → Olden p r → Named p c → acts room (traced w funcs room) (Block number reads first inner) rest env heap r Done → CutMended w funcs Q other r c n → Steps r c n
      read_step s eq number reads first inner z r E n old named t cut = walked_none w.same f g O p zs r n _ cut
      read_step (Stmt-F.Read row label items body) eq number reads first inner z (S (R level tag saved seen t) r) (S (R depth mark kept again u) c) n old named k cut =
          let eq' : out-Stmt x ≡ Stmt-F.Read row number items first = subst (λ b. out-Stmt x ≡ Stmt-F.Read row number items b) z.1 (subst (λ b. out-Stmt x ≡ Stmt-F.Read row b items body) z.0 eq) in
          let d = k.4 in
          let e = done_on d.0 rest env (writes t ++ heap) r d.2 in
          let sees = sees_of level tag depth mark saved kept seen again t r u c n cut in
          let had : in_order (map (read_of (listed w) w env heap) items) ≡ Ok seen = z.2 ∙ ap Ok k.3 in
          let has = reads_there w env heap other items seen again had sees.0 sees.1 in
          let a = Block number again first (with_reads env items again) in
          let now : asks other ≡ Ok a = ap (action_of (listed w) w funcs env other) eq' ∙ ap (λ o. o >>= λ rs. Ok (Block number rs first (with_reads env items rs))) has in
          let ran_it : traced w funcs room first (with_reads env items seen) heap t Done = subst (λ b. traced w funcs room first (with_reads env items b) heap t Done) k.3 (subst (λ b. traced w funcs room first b heap t Done) (sym z.3) (subst (traced w funcs room first inner heap t) e.0 d.1)) in
          read_walks K line rest st mid end env env' heap other over h p zs more (closed.tail x rest so) at x row number items first again asks_named (alike (Ok a) now) (itself a now) goes_on_here eq' so level tag depth mark saved kept seen t r u c n k.0 k.1 k.2 ran_it e.1 old named cut
      read_step (Stmt-F.Read row label items body) eq number reads first inner z (S (R level tag saved seen t) r) (S E c) n old named k cut = bare_block level tag saved seen t r c n cut
      read_step (Stmt-F.Read row label items body) eq number reads first inner z (S (R level tag saved seen t) r) (S _ c) n old named k cut =
          elim cut [ inl b ↦ absurd b.0 | inr b ↦ absurd b.0 ]
      read_step (Stmt-F.Read row label items body) eq number reads first inner z (S (R level tag saved seen t) r) _ n old named k cut = absurd cut
      read_step (Stmt-F.Read row label items body) eq number reads first inner z _ _ n old named k cut = absurd k
      read_step _ eq number reads first inner z _ _ n old named k cut = absurd z

      any_step : (o : Result (Action M) FaultKind) → asks heap ≡ o → (r c : Rec M) (n : ℕ) → Olden p r → Named p c → acts_or_stops room (traced w funcs room) o line rest env heap r Done → CutMended w funcs Q other r c n → Steps r c n
      any_step (Err why) e r c n old named t cut = not_done why line t.1
      any_step (Ok (Block number reads first inner)) e r c n old named t cut =
          read_step (out-Stmt x) refl number reads first inner (asked w funcs env heap (out-Stmt x) (Block number reads first inner) e) r c n old named t cut
      any_step (Ok a) e r c n old named t cut = plain_step a e (λ i. i) r c n old named t cut

  end_walks : (p : Path) (zs : List Path) (other : HeapOf M) (r c : Rec M) (n : ℕ) (new : tree.Tree Name) → r ≡ E → CutMended w funcs Q other r c n → Walks_to p zs r c n new
  end_walks p zs other r c n new e cut = subst (λ z. Walks_to p zs z c n new) (sym e) (by c (subst (λ z. CutMended w funcs Q other z c n) e cut))
    where
      by : (d : Rec M) → CutMended w funcs Q other E d n → Walks_to p zs E d n new
      by E i = walked_none w.same f g O p zs E n new i
      by _ i = absurd i

  pub walk : ((i : ℕ) (c : Func) → func_named i funcs ≡ Some c → MeetsSeries c) → (room : ℕ) → Walks room
  unfolding traced
  walk checked room K [] st end env env' heap other over h p zs r c n so meets at old named t cut = end_walks p zs other r c n _ t.0 cut
  walk checked zero K (x ∷ rest) st end env env' heap other over h p zs r c n so meets at old named t cut = end_walks p zs other r c n _ t.0 cut
  walk checked (suc room) K (x ∷ rest) st end env env' heap other over h p zs r c n so meets at old named t cut =
      rw (run_more by_path u' funcs room x rest env' h p)
      (any_step checked room (walk checked room) K x rest st end env env' heap other over h p zs meets so at (action_of (listed w) w funcs env heap (out-Stmt x)) refl r c n old named t cut)
