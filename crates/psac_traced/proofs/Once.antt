-- But for what `new` makes, a run may leave one record only.
use Rattle.std.proofs.Common.{◌≡◌, ℕ, suc, zero, List, [], ◌∷◌, ◌++◌, Result, Ok, Err, refl, ap, sym, ◌∙◌, subst}
use Rattle.psac_ops.specs.Value.{Value, ref}
use Rattle.psac_syntax.specs.declared.program.Stmt.{Stmt, out-Stmt}
use Rattle.psac_syntax.specs.declared.program.Func.{Func}
use Rattle.psac_model.specs.declared.ends.FaultKind.{FaultKind}
use Rattle.psac_model.specs.declared.ends.End.{End}
use Rattle.psac_model.specs.declared.ends.End.TheVariants.{Done, Stop}
use Rattle.psac_model.specs.Names.{Env, bind}
use Rattle.psac_model.specs.Expression.{Setting}
use Rattle.psac_model.specs.Tree.{Reads}
use Rattle.psac_model.specs.Run.{Action, Bind, Make, Put, Body, Block, Sides, line_of, first_stop}
use Rattle.psac_naming.specs.Alike.{Agree, Each, Alike, AlikeRead, Envs, Settings, Tests}
use Rattle.psac_naming.proofs.Actions.{AlikeAction, action_alike, bind_alike}
use Rattle.psac_traced.specs.Rec.{Rec, E, A, W, S, P, R, HeapOf, writes}
use Rattle.psac_traced.specs.Traced.{Traces, listed, goes_on, acts, acts_or_stops, traced}
use Rattle.psac_traced.specs.Renamed.{Heaps, Recs, Matched}
use Rattle.psac_traced.proofs.Alike.{held_alike, heaps_then}

module _ {M N : Type 0} (T : M → N → Type 0) where
  -- what the deeper statements leave over either names is alike
  abbrev pub Meets : Traces M → Traces N → Type 0
  Meets deep over = (body : List Stmt) (env : Env M) (env' : Env N) (heap : HeapOf M) (heap' : HeapOf N) (r : Rec M) (s : Rec N) (end last : End) → Envs T env env' → Heaps T heap heap' → Matched T r s → deep body env heap r end → over body env' heap' s last → Recs T r s × (end ≡ last)

  both_stop : (r : Rec M) (s : Rec N) (end last one other : End) → one ≡ other → (r ≡ E) × (end ≡ one) → (s ≡ E) × (last ≡ other) → Recs T r s × (end ≡ last)
  both_stop r s end last one other e t u = (subst (λ x. Recs T x s) (sym t.0) (subst (Recs T E) (sym u.0) tt), t.1 ∙ e ∙ sym u.1)

  module _ (deep : Traces M) (over : Traces N) (go : Meets deep over) where
    on_same : (e : End) → Meets (goes_on e deep) (goes_on e over)
    on_same Done body env env' heap heap' r s end last h k c t u = go body env env' heap heap' r s end last h k c t u
    on_same (Stop why line) body env env' heap heap' r s end last h k c t u = both_stop r s end last _ _ refl t u

    on_met : (e f : End) → e ≡ f → Meets (goes_on e deep) (goes_on f over)
    on_met e f i = subst (λ z. Meets (goes_on e deep) (goes_on z over)) i (on_same e)

    module _ (room : ℕ) (rest : List Stmt) (env : Env M) (env' : Env N) (heap : HeapOf M) (heap' : HeapOf N) (h : Envs T env env') (k : Heaps T heap heap') where
      -- what two actions leave is alike
      abbrev Met : Action M → Action N → Type 0
      Met a b = (r : Rec M) (s : Rec N) (end last : End) → Matched T r s → acts room deep a rest env heap r end → acts room over b rest env' heap' s last → Recs T r s × (end ≡ last)

      make_met : (d e : ℕ) → d ≡ e → Met (Make d) (Make e)
      make_met d e i (A m r) (A n s) end last c t u =
          let b = subst (λ z. Envs T (bind d (ref m) env) (bind z (ref n) env')) i (bind_alike T d (ref m) (ref n) env env' c.0 h) in
          let g = go rest (bind d (ref m) env) (bind e (ref n) env') heap heap' r s end last b k c.1 t u in
          ((c.0, g.0), g.1)
      make_met d e i (A m r) _ end last c t u = absurd u
      make_met d e i _ _ end last c t u = absurd t

      put_met : (m : M) (n : N) (v : Value M) (x : Value N) → T m n → Alike T v x → Met (Put m v) (Put n x)
      put_met m n v x i j (W l y r) (W o z s) end last c t u =
          let il = subst (λ a. T a o) t.0 (subst (T m) u.0 i) in
          let jy = subst (λ a. Alike T a z) t.1 (subst (Alike T v) u.1 j) in
          let g = go rest env env' ((l, y) ∷ heap) ((o, z) ∷ heap') r s end last h ((il, jy), k) c t.2 u.2 in
          ((il, jy, g.0), g.1)
      put_met m n v x i j (W l y r) _ end last c t u = absurd u
      put_met m n v x i j _ _ end last c t u = absurd t

      body_met : (body : List Stmt) (inner : Env M) (inner' : Env N) → Envs T inner inner' → Met (Body body inner) (Body body inner')
      body_met body inner inner' i (S a r) (S b s) end last c t u =
          let one = go body inner inner' heap heap' a b t.0 u.0 i k c.0 t.1 u.1 in
          let g = on_met t.0 u.0 one.1 rest env env' (writes a ++ heap) (writes b ++ heap') r s end last h (heaps_then T a b heap heap' one.0 k) c.1 t.2 u.2 in
          ((one.0, g.0), g.1)
      body_met body inner inner' i (S a r) _ end last c t u = absurd u
      body_met body inner inner' i _ _ end last c t u = absurd t

      block_met : (block : ℕ) (reads : Reads M) (seen : Reads N) (body : List Stmt) (inner : Env M) (inner' : Env N) → Each (AlikeRead T) reads seen → Envs T inner inner' → Met (Block block reads body inner) (Block block seen body inner')
      block_met block reads seen body inner inner' i j (S (R level c e has a) r) (S (R depth d f saw b) s) end last m t u =
          let p = t.4 in
          let q = u.4 in
          let one = go body inner inner' heap heap' a b p.0 q.0 j k m.0 p.1 q.1 in
          let g = on_met p.0 q.0 one.1 rest env env' (writes a ++ heap) (writes b ++ heap') r s end last h (heaps_then T a b heap heap' one.0 k) m.1 p.2 q.2 in
          let envs = subst (λ z. Envs T z f) t.2 (subst (Envs T env) u.2 h) in
          let same_reads = subst (λ z. Each (AlikeRead T) z saw) t.3 (subst (Each (AlikeRead T) reads) u.3 i) in
          (((sym t.0 ∙ u.0, sym t.1 ∙ u.1, envs, same_reads, one.0), g.0), g.1)
      block_met block reads seen body inner inner' i j (S (R level c e has a) r) _ end last m t u = absurd u
      block_met block reads seen body inner inner' i j _ _ end last m t u = absurd t

      sides_met : (left right : List Stmt) → Met (Sides left right) (Sides left right)
      sides_met left right (S (P a c) r) (S (P b d) s) end last m t u =
          let one = go left env env' heap heap' a b t.0 u.0 h k m.0.0 t.2 u.2 in
          let kl = heaps_then T a b heap heap' one.0 k in
          let two = go right env env' (writes a ++ heap) (writes b ++ heap') c d t.1 u.1 h kl m.0.1 t.3 u.3 in
          let ends = ap (λ e. first_stop e t.1) one.1 ∙ ap (first_stop u.0) two.1 in
          let g = on_met (first_stop t.0 t.1) (first_stop u.0 u.1) ends rest env env' (writes c ++ (writes a ++ heap)) (writes d ++ (writes b ++ heap')) r s end last h (heaps_then T c d (writes a ++ heap) (writes b ++ heap') two.0 kl) m.1 t.4 u.4 in
          (((one.0, two.0), g.0), g.1)
      sides_met left right (S (P a c) r) _ end last m t u = absurd u
      sides_met left right _ _ end last m t u = absurd t

      act_met : (a : Action M) (b : Action N) → AlikeAction T a b → Met a b
      act_met (Bind x v) (Bind y z) i r s end last c t u =
          go rest (bind x v env) (bind y z env') heap heap' r s end last (subst (λ o. Envs T (bind x v env) (bind o z env')) i.0 (bind_alike T x v z env env' i.1 h)) k c t u
      act_met (Make d) (Make e) i r s end last c t u = make_met d e i r s end last c t u
      act_met (Put m v) (Put n x) i r s end last c t u = put_met m n v x i.0 i.1 r s end last c t u
      act_met (Body body inner) (Body other inner') i r s end last c t u =
          body_met other inner inner' i.1 r s end last c (subst (λ z. acts room deep (Body z inner) rest env heap r end) i.0 t) u
      act_met (Block block reads body inner) (Block again seen other inner') i r s end last c t u =
          block_met again reads seen other inner inner' i.1 i.3 r s end last c (subst (λ z. acts room deep (Block z reads other inner) rest env heap r end) i.0 (subst (λ z. acts room deep (Block block reads z inner) rest env heap r end) i.2 t)) u
      act_met (Sides left right) (Sides other another) i r s end last c t u =
          sides_met other another r s end last c (subst (λ z. acts room deep (Sides z another) rest env heap r end) i.0 (subst (λ z. acts room deep (Sides left z) rest env heap r end) i.1 t)) u
      act_met _ _ i r s end last c t u = absurd i

      step_met : (line : ℕ) (a : Result (Action M) FaultKind) (b : Result (Action N) FaultKind) → Agree (AlikeAction T) a b → (r : Rec M) (s : Rec N) (end last : End) → Matched T r s → acts_or_stops room deep a line rest env heap r end → acts_or_stops room over b line rest env' heap' s last → Recs T r s × (end ≡ last)
      step_met line (Ok a) (Ok b) i r s end last c t u = act_met a b i r s end last c t u
      step_met line (Err why) (Err same) i r s end last c t u = both_stop r s end last (Stop why line) (Stop same line) (ap (λ z. Stop z line) i) t u
      step_met line (Ok a) (Err why) i r s end last c t u = absurd i
      step_met line (Err why) (Ok b) i r s end last c t u = absurd i

  -- two records that a run may leave, whose made modifiables are tied, are alike and end the same
  pub traced_once : (w : Setting M) (u : Setting N) (funcs : List Func) → Settings T w u → Tests T w.same u.same → (room : ℕ) → Meets (traced w funcs room) (traced u funcs room)
  unfolding traced
  traced_once w u funcs set tests room [] env env' heap heap' r s end last h k c t q = both_stop r s end last Done Done refl t q
  traced_once w u funcs set tests zero (x ∷ rest) env env' heap heap' r s end last h k c t q = both_stop r s end last _ _ refl t q
  traced_once w u funcs set tests (suc room) (x ∷ rest) env env' heap heap' r s end last h k c t q =
      step_met (traced w funcs room) (traced u funcs room) (traced_once w u funcs set tests room) room rest env env' heap heap' h k (line_of (out-Stmt x)) _ _
      (action_alike T (listed w) (listed u) w u funcs env env' heap heap' set tests h (λ m n i. held_alike T w.same u.same tests heap heap' m n k i) (out-Stmt x)) r s end last c t q
