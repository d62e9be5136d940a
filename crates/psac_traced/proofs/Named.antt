-- A record that a run may leave is one that a run over other names may leave, with those names put for its own.
use Rattle.std.proofs.Common.{◌≡◌, ℕ, suc, zero, List, [], ◌∷◌, ◌++◌, Result, Ok, Err, refl, ap, sym, ◌∙◌, subst}
use Rattle.psac_ops.specs.Value.{Value, ref}
use Rattle.psac_syntax.specs.declared.program.Stmt.{Stmt, out-Stmt}
use Rattle.psac_syntax.specs.declared.program.Func.{Func}
use Rattle.psac_model.specs.declared.ends.FaultKind.{FaultKind}
use Rattle.psac_model.specs.declared.ends.End.{End}
use Rattle.psac_model.specs.declared.ends.End.TheVariants.{Done, Stop}
use Rattle.psac_model.specs.Names.{Env, bind}
use Rattle.psac_model.specs.Expression.{Setting}
use Rattle.psac_model.specs.Tree.{Reads}
use Rattle.psac_model.specs.Run.{Action, Bind, Make, Put, Body, Block, Sides, line_of, first_stop}
use Rattle.psac_naming.specs.Alike.{Agree, Each, Alike, AlikeRead, Envs, Settings, Tests}
use Rattle.psac_naming.proofs.Actions.{AlikeAction, action_alike, bind_alike}
use Rattle.psac_traced.specs.Rec.{Rec, E, A, W, S, P, R, HeapOf, writes}
use Rattle.psac_traced.specs.Traced.{Traces, listed, goes_on, acts, acts_or_stops, traced}
use Rattle.psac_traced.specs.Renamed.{Heaps, Recs, Tied, Twin, rec_named}
use Rattle.psac_traced.proofs.Alike.{held_alike, heaps_then, rec_image}

module _ {M N : Type 0} (T : M → N → Type 0) where
  -- what the deeper statements give, with the other names
  abbrev pub Goes : Traces M → Traces N → Type 0
  Goes deep over = (body : List Stmt) (env : Env M) (env' : Env N) (heap : HeapOf M) (heap' : HeapOf N) (r : Rec M) (end : End) → Envs T env env' → Heaps T heap heap' → Tied T r → deep body env heap r end → Twin T r (λ s. over body env' heap' s end)

  stops_twin : (r : Rec M) (end last : End) → (r ≡ E) × (end ≡ last) → Twin T r (λ s. (s ≡ E) × (end ≡ last))
  stops_twin r end last t = record { rec = E; alike = subst (λ x. Recs T x E) (sym t.0) tt; stands = (refl, t.1) }

  module _ (deep : Traces M) (over : Traces N) (go : Goes deep over) where
    on_twin : (e : End) → Goes (goes_on e deep) (goes_on e over)
    on_twin Done body env env' heap heap' r end h k c t = go body env env' heap heap' r end h k c t
    on_twin (Stop why line) body env env' heap heap' r end h k c t = stops_twin r end (Stop why line) t

    module _ (room : ℕ) (rest : List Stmt) (env : Env M) (env' : Env N) (heap : HeapOf M) (heap' : HeapOf N) (h : Envs T env env') (k : Heaps T heap heap') where
      make_twin : (d e : ℕ) → d ≡ e → (r : Rec M) (end : End) → Tied T r → acts room deep (Make d) rest env heap r end → Twin T r (λ s. acts room over (Make e) rest env' heap' s end)
      make_twin d e i (A m r) end c t =
          let b = subst (λ z. Envs T (bind d (ref m) env) (bind z (ref c.0) env')) i (bind_alike T d (ref m) (ref c.0) env env' c.1 h) in
          let g = go rest (bind d (ref m) env) (bind e (ref c.0) env') heap heap' r end b k c.2 t in
          record { rec = A c.0 g.rec; alike = (c.1, g.alike); stands = g.stands }
      make_twin d e i _ end c t = absurd t

      put_twin : (m : M) (n : N) (v : Value M) (u : Value N) → T m n → Alike T v u → (r : Rec M) (end : End) → Tied T r → acts room deep (Put m v) rest env heap r end → Twin T r (λ s. acts room over (Put n u) rest env' heap' s end)
      put_twin m n v u i j (W l x r) end c t =
          let il = subst (λ z. T z n) t.0 i in
          let jx = subst (λ z. Alike T z u) t.1 j in
          let g = go rest env env' ((l, x) ∷ heap) ((n, u) ∷ heap') r end h ((il, jx), k) c t.2 in
          record { rec = W n u g.rec; alike = (il, jx, g.alike); stands = (refl, refl, g.stands) }
      put_twin m n v u i j _ end c t = absurd t

      body_twin : (body : List Stmt) (inner : Env M) (inner' : Env N) → Envs T inner inner' → (r : Rec M) (end : End) → Tied T r → acts room deep (Body body inner) rest env heap r end → Twin T r (λ s. acts room over (Body body inner') rest env' heap' s end)
      body_twin body inner inner' i (S b r) end c t =
          let one = go body inner inner' heap heap' b t.0 i k c.0 t.1 in
          let g = on_twin t.0 rest env env' (writes b ++ heap) (writes one.rec ++ heap') r end h (heaps_then T b one.rec heap heap' one.alike k) c.1 t.2 in
          record { rec = S one.rec g.rec; alike = (one.alike, g.alike); stands = (t.0, one.stands, g.stands) }
      body_twin body inner inner' i _ end c t = absurd t

      block_twin : (block : ℕ) (reads : Reads M) (seen : Reads N) (body : List Stmt) (inner : Env M) (inner' : Env N) → Each (AlikeRead T) reads seen → Envs T inner inner' → (r : Rec M) (end : End) → Tied T r → acts room deep (Block block reads body inner) rest env heap r end → Twin T r (λ s. acts room over (Block block seen body inner') rest env' heap' s end)
      block_twin block reads seen body inner inner' i j (S (R level c f has b) r) end tied t =
          let p = t.4 in
          let one = go body inner inner' heap heap' b p.0 j k tied.0 p.1 in
          let g = on_twin p.0 rest env env' (writes b ++ heap) (writes one.rec ++ heap') r end h (heaps_then T b one.rec heap heap' one.alike k) tied.1 p.2 in
          record {
            rec = S (R room block env' seen one.rec) g.rec;
            alike = ((sym t.0, sym t.1, subst (λ z. Envs T z env') t.2 h, subst (λ z. Each (AlikeRead T) z seen) t.3 i, one.alike), g.alike);
            stands = (refl, refl, refl, refl, (p.0, one.stands, g.stands));
          }
      block_twin block reads seen body inner inner' i j _ end tied t = absurd t

      sides_twin : (left right : List Stmt) (r : Rec M) (end : End) → Tied T r → acts room deep (Sides left right) rest env heap r end → Twin T r (λ s. acts room over (Sides left right) rest env' heap' s end)
      sides_twin left right (S (P l c) r) end tied t =
          let one = go left env env' heap heap' l t.0 h k tied.0.0 t.2 in
          let kl = heaps_then T l one.rec heap heap' one.alike k in
          let two = go right env env' (writes l ++ heap) (writes one.rec ++ heap') c t.1 h kl tied.0.1 t.3 in
          let kr = heaps_then T c two.rec (writes l ++ heap) (writes one.rec ++ heap') two.alike kl in
          let g = on_twin (first_stop t.0 t.1) rest env env' (writes c ++ (writes l ++ heap)) (writes two.rec ++ (writes one.rec ++ heap')) r end h kr tied.1 t.4 in
          record { rec = S (P one.rec two.rec) g.rec; alike = ((one.alike, two.alike), g.alike); stands = (t.0, t.1, one.stands, two.stands, g.stands) }
      sides_twin left right _ end tied t = absurd t

      act_twin : (a : Action M) (b : Action N) → AlikeAction T a b → (r : Rec M) (end : End) → Tied T r → acts room deep a rest env heap r end → Twin T r (λ s. acts room over b rest env' heap' s end)
      act_twin (Bind x v) (Bind y u) i r end c t =
          go rest (bind x v env) (bind y u env') heap heap' r end (subst (λ z. Envs T (bind x v env) (bind z u env')) i.0 (bind_alike T x v u env env' i.1 h)) k c t
      act_twin (Make d) (Make e) i r end c t = make_twin d e i r end c t
      act_twin (Put m v) (Put n u) i r end c t = put_twin m n v u i.0 i.1 r end c t
      act_twin (Body body inner) (Body other inner') i r end c t =
          body_twin other inner inner' i.1 r end c (subst (λ z. acts room deep (Body z inner) rest env heap r end) i.0 t)
      act_twin (Block block reads body inner) (Block again seen other inner') i r end c t =
          block_twin again reads seen other inner inner' i.1 i.3 r end c (subst (λ z. acts room deep (Block z reads other inner) rest env heap r end) i.0 (subst (λ z. acts room deep (Block block reads z inner) rest env heap r end) i.2 t))
      act_twin (Sides left right) (Sides other another) i r end c t =
          sides_twin other another r end c (subst (λ z. acts room deep (Sides z another) rest env heap r end) i.0 (subst (λ z. acts room deep (Sides left z) rest env heap r end) i.1 t))
      act_twin _ _ i r end c t = absurd i

      step_twin : (line : ℕ) (a : Result (Action M) FaultKind) (b : Result (Action N) FaultKind) → Agree (AlikeAction T) a b → (r : Rec M) (end : End) → Tied T r → acts_or_stops room deep a line rest env heap r end → Twin T r (λ s. acts_or_stops room over b line rest env' heap' s end)
      step_twin line (Ok a) (Ok b) i r end c t = act_twin a b i r end c t
      step_twin line (Err why) (Err same) i r end c t =
          stops_twin r end (Stop same line) (t.0, t.1 ∙ ap (λ z. Stop z line) i)
      step_twin line (Ok a) (Err why) i r end c t = absurd i
      step_twin line (Err why) (Ok b) i r end c t = absurd i

  -- a record that a run may leave has a twin that the run over the other names may leave
  pub traced_twin : (w : Setting M) (u : Setting N) (funcs : List Func) → Settings T w u → Tests T w.same u.same → (room : ℕ) → Goes (traced w funcs room) (traced u funcs room)
  unfolding traced
  traced_twin w u funcs s tests room [] env env' heap heap' r end h k c t = stops_twin r end Done t
  traced_twin w u funcs s tests zero (x ∷ rest) env env' heap heap' r end h k c t = stops_twin r end _ t
  traced_twin w u funcs s tests (suc room) (x ∷ rest) env env' heap heap' r end h k c t =
      step_twin (traced w funcs room) (traced u funcs room) (traced_twin w u funcs s tests room) room rest env env' heap heap' h k (line_of (out-Stmt x)) _ _
      (action_alike T (listed w) (listed u) w u funcs env env' heap heap' s tests h (λ m n i. held_alike T w.same u.same tests heap heap' m n k i) (out-Stmt x)) r end c t

-- names that a function puts for the names, of which it tells apart what the tests do
module _ {M N : Type 0} (T : M → N → Type 0) (f : M → N) (is : (m : M) (n : N) → T m n → f m ≡ n) where
  pub traced_named : (w : Setting M) (u : Setting N) (funcs : List Func) → Settings T w u → Tests T w.same u.same → (room : ℕ) (body : List Stmt) (env : Env M) (env' : Env N) (heap : HeapOf M) (heap' : HeapOf N) (r : Rec M) (end : End) → Envs T env env' → Heaps T heap heap' → Tied T r → traced w funcs room body env heap r end → traced u funcs room body env' heap' (rec_named f r) end
  traced_named w u funcs s tests room body env env' heap heap' r end h k c t =
      let g = traced_twin T w u funcs s tests room body env env' heap heap' r end h k c t in
      subst (λ z. traced u funcs room body env' heap' z end) (sym (rec_image T f is r g.rec g.alike)) g.stands
