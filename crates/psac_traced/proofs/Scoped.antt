-- The reads of a record that a run may leave name only what was known before, or was made before them.
use Rattle.std.proofs.Common.{◌≡◌, ℕ, suc, zero, List, [], ◌∷◌, ◌++◌, Result, Ok, Err, refl, ap, sym, ◌∙◌, subst, inl, inr, append_assoc}
use Rattle.psac_ops.specs.Value.{ref}
use Rattle.psac_syntax.specs.declared.program.Stmt.{Stmt, out-Stmt}
use Rattle.psac_syntax.specs.declared.program.Func.{Func}
use Rattle.psac_model.specs.declared.ends.FaultKind.{FaultKind}
use Rattle.psac_model.specs.declared.ends.End.{End}
use Rattle.psac_model.specs.declared.ends.End.TheVariants.{Done, Stop}
use Rattle.psac_model.specs.Names.{Env, bind}
use Rattle.psac_model.specs.Expression.{Setting}
use Rattle.psac_model.specs.Run.{Action, Bind, Make, Put, Body, Block, Sides, line_of, first_stop}
use Rattle.psac_naming.specs.Alike.{Agree, AlikeRead, Envs, Settings, Tests}
use Rattle.psac_naming.proofs.Actions.{AlikeAction, action_alike, bind_alike}
use Rattle.psac_naming.proofs.Trees.{envs_more, reads_more}
use Rattle.psac_traced.specs.Rec.{Rec, E, A, W, S, P, R, HeapOf, writes}
use Rattle.psac_traced.specs.Traced.{Traces, listed, goes_on, acts, acts_or_stops, traced}
use Rattle.psac_traced.specs.Places.{Makes}
use Rattle.psac_traced.specs.Scoped.{On, Or, ReadsOf, Reading, Scoped}
use Rattle.psac_traced.proofs.Alike.{each_append, held_alike}

module _ {M : Type 0} where
  on_more : (K L : M → Type 0) → ((m : M) → K m → L m) → (m n : M) → On K m n → On L m n
  on_more K L f m n h = (f m h.0, h.1)

  pub heap_more : (K L : M → Type 0) → ((m : M) → K m → L m) → (heap : HeapOf M) → ReadsOf K heap → ReadsOf L heap
  heap_more K L f heap h = reads_more (On K) (On L) (on_more K L f) heap heap h

  env_more : (K L : M → Type 0) → ((m : M) → K m → L m) → (env : Env M) → Envs (On K) env env → Envs (On L) env env
  env_more K L f env h = envs_more (On K) (On L) (on_more K L f) env env h

  heap_both : (K : M → Type 0) (a b : HeapOf M) → ReadsOf K a → ReadsOf K b → ReadsOf K (a ++ b)
  heap_both K a b h k = each_append (AlikeRead (On K)) a b a b h k

  -- of what is known, and what a record made
  pub scoped_reads : (K L : M → Type 0) (r : Rec M) → ((m : M) → K m → L m) → ((m : M) → Makes r m → L m) → Scoped K r → Reading L r
  scoped_reads K L E f g h = tt
  scoped_reads K L (A m r) f g h = scoped_reads (Or K (λ k. m ≡ k)) L r (λ k i. elim i [ inl a ↦ f k a | inr a ↦ g k (inl a) ]) (λ k i. g k (inr i)) h
  scoped_reads K L (W m v r) f g h = scoped_reads K L r f g h
  scoped_reads K L (S t r) f g h =
      (scoped_reads K L t f (λ k i. g k (inl i)) h.0, scoped_reads (Or K (Makes t)) L r (λ k i. elim i [ inl a ↦ f k a | inr a ↦ g k (inl a) ]) (λ k i. g k (inr i)) h.1)
  scoped_reads K L (P t r) f g h =
      (scoped_reads K L t f (λ k i. g k (inl i)) h.0, scoped_reads (Or K (Makes t)) L r (λ k i. elim i [ inl a ↦ f k a | inr a ↦ g k (inl a) ]) (λ k i. g k (inr i)) h.1)
  scoped_reads K L (R room block env reads t) f g h = (heap_more K L f reads h.0, scoped_reads K L t f g h.1)

  module _ (w : Setting M) (funcs : List Func) (Inputs : M → Type 0) (inputs : Settings (On Inputs) w w) where
    -- what is known has the inputs
    abbrev pub Scopes : Traces M → Type 1
    Scopes deep = (K : M → Type 0) → ((m : M) → Inputs m → K m) → (body : List Stmt) (env : Env M) (heap : HeapOf M) (r : Rec M) (end : End) → Envs (On K) env env → ReadsOf K heap → deep body env heap r end → Scoped K r × ReadsOf (Or K (Makes r)) (writes r)

    settings_on : (K : M → Type 0) → ((m : M) → Inputs m → K m) → Settings (On K) w w
    settings_on K f =
        record {
          opened = refl;
          room = refl;
          cols = refl;
          texts = refl;
          cells = λ r c h k. on_more Inputs K f (w.cell r c) (w.cell r c) (inputs.cells r c h k);
          row_count = on_more Inputs K f w.row_count w.row_count inputs.row_count;
        }

    tests_on : (K : M → Type 0) → Tests (On K) w.same w.same
    tests_on K m k n l h i = ap (λ z. w.same z k) h.1 ∙ ap (w.same n) i.1

    stops_scoped : (K : M → Type 0) (r : Rec M) (end last : End) → (r ≡ E) × (end ≡ last) → Scoped K r × ReadsOf (Or K (Makes r)) (writes r)
    stops_scoped K r end last t = subst (λ z. Scoped K z × ReadsOf (Or K (Makes z)) (writes z)) (sym t.0) (tt, tt)

    module _ (room : ℕ) (deep : Traces M) (go : Scopes deep) where
      on_scoped : (e : End) → Scopes (goes_on e deep)
      on_scoped Done K f body env heap r end h k t = go K f body env heap r end h k t
      on_scoped (Stop why line) K f body env heap r end h k t = stops_scoped K r end (Stop why line) t

      module _ (K : M → Type 0) (f : (m : M) → Inputs m → K m) (rest : List Stmt) (env : Env M) (heap : HeapOf M) (h : Envs (On K) env env) (k : ReadsOf K heap) where
        -- the rest of a body, behind a part that made and wrote
        after : (e : End) (t r : Rec M) (wt : HeapOf M) (end : End) → ReadsOf (Or K (Makes t)) wt → goes_on e deep rest env (wt ++ heap) r end → Scoped (Or K (Makes t)) r × ReadsOf (Or K (Or (Makes t) (Makes r))) (writes r ++ wt)
        after e t r wt end wrote g =
            let L = Or K (Makes t) in
            let All = Or K (Or (Makes t) (Makes r)) in
            let rest_is = on_scoped e L (λ m i. inl (f m i)) rest env (wt ++ heap) r end (env_more K L (λ m i. inl i) env h) (heap_both L wt heap wrote (heap_more K L (λ m i. inl i) heap k)) g in
            (rest_is.0, heap_both All (writes r) wt (heap_more (Or L (Makes r)) All (λ m i. elim i [ inl a ↦ elim a [ inl b ↦ inl b | inr b ↦ inr (inl b) ] | inr a ↦ inr (inr a) ]) (writes r) rest_is.1) (heap_more L All (λ m i. elim i [ inl a ↦ inl a | inr a ↦ inr (inl a) ]) wt wrote))

        act_scoped : (a : Action M) → AlikeAction (On K) a a → (r : Rec M) (end : End) → acts room deep a rest env heap r end → Scoped K r × ReadsOf (Or K (Makes r)) (writes r)
        act_scoped (Bind x v) i r end t = go K f rest (bind x v env) heap r end (bind_alike (On K) x v v env env i.1 h) k t
        act_scoped (Make d) i (A m r) end t =
            let L = Or K (λ z. m ≡ z) in
            let More = Or K (Makes (A m r)) in
            let g = go L (λ n j. inl (f n j)) rest (bind d (ref m) env) heap r end (bind_alike (On L) d (ref m) (ref m) env env (inr refl, refl) (env_more K L (λ n j. inl j) env h)) (heap_more K L (λ n j. inl j) heap k) t in
            (g.0, heap_more (Or L (Makes r)) More (λ n j. elim j [ inl a ↦ elim a [ inl b ↦ inl b | inr b ↦ inr (inl b) ] | inr a ↦ inr (inr a) ]) (writes r) g.1)
        act_scoped (Put m v) i (W n u r) end t =
            let mv : ReadsOf K ((m, v) ∷ []) = ((i.0, i.1), tt) in
            let nu : ReadsOf K ((n, u) ∷ []) = subst (λ z. ReadsOf K ((z, u) ∷ [])) t.0 (subst (λ z. ReadsOf K ((m, z) ∷ [])) t.1 mv) in
            let g = go K f rest env ((n, u) ∷ heap) r end h (heap_both K ((n, u) ∷ []) heap nu k) t.2 in
            (g.0, heap_both (Or K (Makes r)) (writes r) ((n, u) ∷ []) g.1 (heap_more K (Or K (Makes r)) (λ z j. inl j) ((n, u) ∷ []) nu))
        act_scoped (Body body inner) i (S b r) end t =
            let one = go K f body inner heap b t.0 i.1 k t.1 in
            let g = after t.0 b r (writes b) end one.1 t.2 in
            ((one.0, g.0), g.1)
        act_scoped (Block block reads body inner) i (S (R level c e seen b) r) end t =
            let p = t.4 in
            let one = go K f body inner heap b p.0 i.3 k p.1 in
            let g = after p.0 b r (writes b) end one.1 p.2 in
            (((subst (λ z. ReadsOf K z) t.3 i.1, one.0), g.0), g.1)
        act_scoped (Sides left right) i (S (P l c) r) end t =
            let L = Or K (Makes l) in
            let Both = Or K (Or (Makes l) (Makes c)) in
            let one = go K f left env heap l t.0 h k t.2 in
            let two = go L (λ m j. inl (f m j)) right env (writes l ++ heap) c t.1 (env_more K L (λ m j. inl j) env h) (heap_both L (writes l) heap one.1 (heap_more K L (λ m j. inl j) heap k)) t.3 in
            let wrote : ReadsOf Both (writes c ++ writes l) = heap_both Both (writes c) (writes l) (heap_more (Or L (Makes c)) Both (λ m j. elim j [ inl a ↦ elim a [ inl b ↦ inl b | inr b ↦ inr (inl b) ] | inr a ↦ inr (inr a) ]) (writes c) two.1) (heap_more L Both (λ m j. elim j [ inl a ↦ inl a | inr a ↦ inr (inl a) ]) (writes l) one.1) in
            let g = after (first_stop t.0 t.1) (P l c) r (writes c ++ writes l) end wrote (subst (λ z. goes_on (first_stop t.0 t.1) deep rest env z r end) (sym (append_assoc (writes c) (writes l) heap)) t.4) in
            (((one.0, two.0), g.0), g.1)
        act_scoped _ i _ end t = absurd t

        step_scoped : (line : ℕ) (o : Result (Action M) FaultKind) → Agree (AlikeAction (On K)) o o → (r : Rec M) (end : End) → acts_or_stops room deep o line rest env heap r end → Scoped K r × ReadsOf (Or K (Makes r)) (writes r)
        step_scoped line (Ok a) i r end t = act_scoped a i r end t
        step_scoped line (Err why) i r end t = stops_scoped K r end (Stop why line) t

    pub traced_scoped : (room : ℕ) → Scopes (traced w funcs room)
    unfolding traced
    traced_scoped room K f [] env heap r end h k t = stops_scoped K r end Done t
    traced_scoped zero K f (x ∷ rest) env heap r end h k t = stops_scoped K r end _ t
    traced_scoped (suc room) K f (x ∷ rest) env heap r end h k t =
        step_scoped room (traced w funcs room) (traced_scoped room) K f rest env heap h k (line_of (out-Stmt x)) _
        (action_alike (On K) (listed w) (listed w) w w funcs env env heap heap (settings_on K f) (tests_on K) h (λ m n i. held_alike (On K) w.same w.same (tests_on K) heap heap m n k i) (out-Stmt x)) r end t
