-- What each thing that a statement asks for tells, put together with the rest of its body.
use Rattle.std.proofs.Common.{◌≡◌, ℕ, suc, zero, true, false, ◌==◌, List, [], ◌∷◌, ◌++◌, map, Some, None, Result, refl, ap, sym, ◌∙◌, subst, ⊎_elim, append_assoc, Option, ◌+◌, inl, inr, arith, append-nil}
use Rattle.psac_ops.specs.declared.plain.Handle.{Handle}
use Rattle.psac_ops.specs.declared.plain.Plain.{Plain}
use Rattle.psac_ops.specs.Value.{Value, ref}
use Rattle.psac_ops.specs.Named.{value_of as plain_value}
use Rattle.psac_ops.specs.Words.{of_words}
use Rattle.psac_syntax.specs.declared.program.Stmt.{Stmt, out-Stmt}
use Rattle.psac_syntax.specs.declared.program.Func.{Func}
use Rattle.psac_values.specs.declared.view.ValueView.{ValueView}
use Rattle.psac_values.specs.Steps.{Lacks, left_of, right_of, joined}
use Rattle.psac_values.specs.Knowing.{Has, Claims, United, wrote}
use Rattle.psac_model.specs.declared.ends.FaultKind.{FaultKind}
use Rattle.psac_model.specs.declared.ends.FaultKind.TheVariants.{TooDeep}
use Rattle.psac_model.specs.declared.ends.End.{End}
use Rattle.psac_model.specs.declared.ends.End.TheVariants.{Done, Stop}
use Rattle.psac_model.specs.Names.{Env, bind}
use Rattle.psac_model.specs.Tree.{Reads}
use Rattle.psac_model.specs.Expression.{Setting}
use Rattle.psac_model.specs.Run.{Action, Bind, Make, Put, Body, Block, Sides, action_of, line_of}
use Rattle.psac_model.specs.Series.{has, without, all_in}
use Rattle.psac_laws.specs.Standing.{Standing, settled, in_both, series, series_of}
use Rattle.psac_laws.proofs.Places.{none_some, some_is, nat_same, not_true, not_both}
use Rattle.psac_laws.proofs.Rules.{or_left, has_without, has_both, without_within, both_in, leaves}
use Rattle.psac_traced.specs.Rec.{Rec, E, A, W, S, P, R, writes}
use Rattle.psac_traced.specs.Traced.{Traces as Tracing, listed, acts, acts_or_stops, goes_on, traced}
use Rattle.psac_trace.specs.Rights.{Heap, held, In, Within, Wider, Sees, Tidy, Kept, Ready, Moved, Unchanged}
use Rattle.psac_ops.specs.Named.{same_handle}
use Rattle.psac_cut.specs.CutShort.{Cuts, cuts}
use Rattle.psac_cut.specs.Based.{CutOn}
use Rattle.psac_cut.proofs.Cutting.{StartsEmpty, Shortens}
use Rattle.psac_cut.proofs.Based.{at_let, at_new, at_write, at_body, behind_body, at_block, behind_block, at_sides, behind_sides}
use Rattle.psac_trace.specs.Grown.{Cause}
use Rattle.psac_trace.specs.Told.{Traces, Ended, Good, Fault, Other, Told, Needs, Tells, both_ended, then_ended, Follows, is_other, what}
use Rattle.psac_trace.specs.Running.{Enters, Parts, Goes, NeedsAct, TellsAct, Paired, Both, TellsBoth}
use Rattle.psac_trace.specs.Divided.{neither, writes_slot}
use Rattle.psac_trace.proofs.Results.{ref_is}
use Rattle.psac_trace.proofs.Heaps.{in_or_not, in_and_none, held_back, within_front, within_fresh, one_is, Fresh, fresh_then, fresh_sides}
use Rattle.psac_trace.proofs.Views.{wrote_kept}
use Rattle.psac_trace.proofs.Forks.{joined_sees_left, joined_sees_right}
use Rattle.psac_trace.proofs.Moves.{Narrow, narrow, target_narrow, ready_inner, ready_bind, ready_make, ready_next, ready_left, ready_right, ready_second, moved_none, moved_bind, moved_make, moved_put, moved_then, moved_sides, moved_second, still_bind, still_make, still_put, still_then, still_sides, still_second}

-- what is seen in front of what isn't written is seen
pub within_base : (ws base : Heap) (u : ValueView) → Fresh ws base → Within (ws ++ base) (Sees u) → Within base (Sees u)
within_base ws base u f s m x e =
    ⊎_elim
    (λ (i : In ws m). in_and_none base m (x, e) (f m i))
    (λ (n : held ws m ≡ None). s m x (held_back ws base m n ∙ e))
    (in_or_not ws m)

-- what isn't written of a base is still known, however a call ended
pub told_within : (deep : Tracing Handle) (first : Cuts Handle) (body : List Stmt) (st : Standing) (left : List ℕ) (env : Env Handle) (v u : ValueView) (base : Heap) (e : Ended (Rec Handle)) → Told deep first body st left env v u base e → Within base (Sees u)
told_within deep first body st left env v u base (Good r) t = within_base (writes r) base u t.0.fresh t.1.sees
told_within deep first body st left env v u base (Fault r k n) t = t.1
told_within deep first body st left env v u base (Other r why) t = t.1

-- a call that wants nothing drew nothing in vain
abbrev pub Whole : ValueView → Ended (Rec Handle) → Type 0
Whole u e = is_other e ≡ false → u.claims.over ≡ 0

-- and it is a first part too
pub told_cut : (deep : Tracing Handle) (first : Cuts Handle) → Shortens deep first → (body : List Stmt) (st : Standing) (left : List ℕ) (env : Env Handle) (v u : ValueView) (base : Heap) (e : Ended (Rec Handle)) → Whole u e → Told deep first body st left env v u base e → CutOn same_handle first body env base (what e) u.claims.over
told_cut deep first short body st left env v u base (Good r) o t = subst (CutOn same_handle first body env base r) (sym (o refl)) (record { run = λ heap wi. short body env heap r Done (t.0.run heap wi) })
told_cut deep first short body st left env v u base (Fault r k n) o t = subst (CutOn same_handle first body env base r) (sym (o refl)) (record { run = λ heap wi. short body env heap r (Stop k n) (t.0.run heap wi) })
told_cut deep first short body st left env v u base (Other r why) o t = t.0

pub told_follows : (deep : Tracing Handle) (first : Cuts Handle) → Shortens deep first → (body : List Stmt) (st : Standing) (left : List ℕ) (env : Env Handle) (v u : ValueView) (base : Heap) (e o : Ended (Rec Handle)) → Whole u e → Follows e o → Told deep first body st left env v u base e → Told deep first body st left env v u base o
told_follows deep first short body st left env v u base e (Good r) z f t = subst (Told deep first body st left env v u base) f t
told_follows deep first short body st left env v u base e (Fault r k n) z f t = subst (Told deep first body st left env v u base) f t
told_follows deep first short body st left env v u base e (Other r (Some c)) z f t = subst (Told deep first body st left env v u base) f t
told_follows deep first short body st left env v u base e (Other r None) z f t =
    (subst (λ x. CutOn same_handle first body env base x u.claims.over) f (told_cut deep first short body st left env v u base e z t), told_within deep first body st left env v u base e t)

-- one part before what the rest tells
pub lift_told : (deep over : Tracing Handle) (first part : Cuts Handle) (rest body : List Stmt) (inner env : Env Handle) (v u x : ValueView) (base basis : Heap) (st sr : Standing) (left lr : List ℕ) (f : Rec Handle → Rec Handle)
    → ((heap : Heap) → Wider base heap → (r : Rec Handle) (end : End) → ((h : Heap) → Wider basis h → deep rest inner h r end) → over body env heap (f r) end)
    → ((r : Rec Handle) → Fresh (writes r) basis → Fresh (writes (f r)) base)
    → ((r : Rec Handle) → Fresh (writes r) basis → Moved sr lr inner u x basis (writes r) → Moved st left env v x base (writes (f r)))
    → (Unchanged sr lr inner u x → Unchanged st left env v x)
    → (Within basis (Sees x) → Within base (Sees x))
    → ((r : Rec Handle) (n : ℕ) → CutOn same_handle first rest inner basis r n → CutOn same_handle part body env base (f r) n)
    → (e : Ended (Rec Handle)) → Told deep first rest sr lr inner u x basis e → Told over part body st left env v x base (then_ended f e)
lift_told deep over first part rest body inner env v u x base basis st sr left lr f run fresh moved still sees cut (Good r) t =
    (record { run = λ heap wi. run heap wi r Done t.0.run; fresh = fresh r t.0.fresh }, moved r t.0.fresh t.1, still t.2)
lift_told deep over first part rest body inner env v u x base basis st sr left lr f run fresh moved still sees cut (Fault r k n) t =
    (record { run = λ heap wi. run heap wi r (Stop k n) t.0.run; fresh = fresh r t.0.fresh }, sees t.1, still t.2)
lift_told deep over first part rest body inner env v u x base basis st sr left lr f run fresh moved still sees cut (Other r why) t = (cut r x.claims.over t.0, sees t.1)

pub same_ended : (deep : Tracing Handle) (first : Cuts Handle) (body : List Stmt) (st : Standing) (left : List ℕ) (env : Env Handle) (v u : ValueView) (base : Heap) (e : Ended (Rec Handle)) → Told deep first body st left env v u base (then_ended (λ r. r) e) → Told deep first body st left env v u base e
same_ended deep first body st left env v u base (Good r) t = t
same_ended deep first body st left env v u base (Fault r k n) t = t
same_ended deep first body st left env v u base (Other r why) t = t

module _ (w : Setting Handle) (funcs : List Func) where
  -- a body that is at its end
  run_end : (room : ℕ) (env : Env Handle) (heap : Heap) → traced w funcs room [] env heap E Done
  unfolding traced
  run_end zero env heap = (refl, refl)
  run_end (suc room) env heap = (refl, refl)

  run_deep : (s : Stmt) (rest : List Stmt) (env : Env Handle) (heap : Heap) → traced w funcs 0 (s ∷ rest) env heap E (Stop TooDeep (line_of (out-Stmt s)))
  unfolding traced
  run_deep s rest env heap = (refl, refl)

  pub run_more : (room : ℕ) (s : Stmt) (rest : List Stmt) (env : Env Handle) (heap : Heap) (r : Rec Handle) (end : End) (o : Result (Action Handle) FaultKind) → action_of (listed w) w funcs env heap (out-Stmt s) ≡ o → acts_or_stops room (traced w funcs room) o (line_of (out-Stmt s)) rest env heap r end → traced w funcs (suc room) (s ∷ rest) env heap r end
  unfolding traced
  run_more room s rest env heap r end o e h = subst (λ z. acts_or_stops room (traced w funcs room) z (line_of (out-Stmt s)) rest env heap r end) (sym e) h

  pub tells_end : (room : ℕ) (first : Cuts Handle) (env : Env Handle) (v : ValueView) → Tells w (traced w funcs room) first [] env v v (Good E)
  tells_end room first env v base st end m r =
      (record { run = λ heap wi. run_end room env heap; fresh = λ k i. absurd (none_some i.1) }, moved_none w st end.unwritten env v base r (ap (λ (z : Standing). z.unwritten) (sym (some_is m))), λ n x h d s. s)

  pub tells_deep : (first : Cuts Handle) (s : Stmt) (rest : List Stmt) (env : Env Handle) (v : ValueView) → Tells w (traced w funcs 0) first (s ∷ rest) env v v (Fault E TooDeep (line_of (out-Stmt s)))
  tells_deep first s rest env v base st end m r = (record { run = λ heap wi. run_deep s rest env heap; fresh = λ k i. absurd (none_some i.1) }, r.sees, λ n x h d s. s)

module _ (w : Setting Handle) (room : ℕ) (deep : Tracing Handle) (first : Cuts Handle) (rest : List Stmt) (env : Env Handle) (v : ValueView) where
  -- let
  pub needs_bind : (x : ℕ) (y : Value Handle) → NeedsAct w (Bind x y) rest env v → Needs w rest (bind x y env) v
  needs_bind x y n =
      let r = ready_bind w n.1 n.3.unwritten env v n.0 x y n.5 n.6.0 n.6.2 in
      (n.0, n.2, n.3, n.4, subst (λ z. Ready w z n.3.unwritten (bind x y env) v n.0) n.6.1 r)

  pub tells_bind : (x : ℕ) (y : Value Handle) (u : ValueView) (e : Ended (Rec Handle)) → Tells w deep first rest (bind x y env) v u e → TellsAct w room deep first (Bind x y) rest env v u e
  tells_bind x y u e t base st mid end more r g =
      let here = subst (λ z. Ready w z end.unwritten (bind x y env) v base) g.1 (ready_bind w st end.unwritten env v base x y r g.0 g.2) in
      same_ended (acts room deep (Bind x y)) (cuts room deep first (Bind x y)) rest st end.unwritten env v u base e
      (lift_told deep (acts room deep (Bind x y)) first (cuts room deep first (Bind x y)) rest rest (bind x y env) env v v u base base st mid end.unwritten end.unwritten (λ c. c)
      (λ heap wi c last h. h heap wi)
      (λ c f. f)
      (λ c f mv. moved_bind st end.unwritten env v u base (writes c) x y g.0 (subst (λ z. Moved z end.unwritten (bind x y env) v u base (writes c)) (sym g.1) mv))
      (λ k. still_bind st end.unwritten env v u x y g.0 (subst (λ z. Unchanged z end.unwritten (bind x y env) v u) (sym g.1) k))
      (λ s. s)
      (λ c n. at_let same_handle room deep first rest env base x y c n)
      e (t base mid end more here))

  -- new
  module _ (d : ℕ) (m : Handle) (u : ValueView) (c : Claims v m u) (l : Lacks v m.slot) where
    made_ready : (base : Heap) (st mid end : Standing) → Ready w st end.unwritten env v base → Goes w st mid env v base (Make d) → Ready w mid end.unwritten (bind d (ref m) env) u base
    made_ready base st mid end r g = subst (λ z. Ready w z end.unwritten (bind d (ref m) env) u base) g.1 (ready_make w st end.unwritten env v u base d m c l r g.0)

    pub needs_make : NeedsAct w (Make d) rest env v → Needs w rest (bind d (ref m) env) u
    needs_make n = (n.0, n.2, n.3, n.4, made_ready n.0 n.1 n.2 n.3 n.5 n.6)

    pub tells_make : (x : ValueView) (e : Ended (Rec Handle)) → Tells w deep first rest (bind d (ref m) env) u x e → TellsAct w room deep first (Make d) rest env v x (then_ended (A m) e)
    tells_make x e t base st mid end more r g =
        lift_told deep (acts room deep (Make d)) first (cuts room deep first (Make d)) rest rest (bind d (ref m) env) env v u x base base st mid end.unwritten end.unwritten (A m)
        (λ heap wi k last h. h heap wi)
        (λ k f. f)
        (λ k f mv. moved_make w st end.unwritten env v u base d m c l r g.0 x (writes k) (subst (λ z. Moved z end.unwritten (bind d (ref m) env) u x base (writes k)) (sym g.1) mv))
        (λ k. still_make w st end.unwritten env v u base d m c l r g.0 x (subst (λ z. Unchanged z end.unwritten (bind d (ref m) env) u x) (sym g.1) k))
        (λ s. s)
        (λ k n. at_new same_handle room deep first rest env base d m k n)
        e (t base mid end more (made_ready base st mid end r g))

  -- write
  module _ (m : Handle) (p : Plain) (ws : List ℕ) (is : of_words ws ≡ Some p) (tv : Tidy v) where
    abbrev wrote_view : ValueView
    wrote_view = wrote m.slot ws v

    abbrev one_write : Heap
    one_write = (m, plain_value p) ∷ []

    not_left : (st : Standing) (d : ℕ) → has d (without (d ∷ []) st.unwritten) ≡ false
    not_left st d = not_true (has d (without (d ∷ []) st.unwritten)) (λ j. not_both (or_left (d == d) false (nat_same d)) (has_without d (d ∷ []) st.unwritten j).1)

    pub gone : (st mid end : Standing) (d : ℕ) → has d st.unwritten ≡ true → settled (without (d ∷ []) st.unwritten) st ≡ mid → series rest mid ≡ Some end → has d end.unwritten ≡ false
    gone st mid end d u q more =
        narrow rest st mid end (without (d ∷ []) st.unwritten) q more d u (not_left st d)

    pub may_write : NeedsAct w (Put m (plain_value p)) rest env v → Has v m
    may_write n =
        let g = n.6 in
        let o = n.5.opens g.0 g.1 (gone n.1 n.2 n.3 g.0 g.1 g.2 n.4) in
        subst (Has v) (ref_is (sym o.1 ∙ g.3)) o.3

    put_moved : (base : Heap) (st mid end : Standing) → series rest mid ≡ Some end → Ready w st end.unwritten env v base → (g : Goes w st mid env v base (Put m (plain_value p))) → Moved st (without (g.0 ∷ []) st.unwritten) env v wrote_view base one_write
    put_moved base st mid end more r g = moved_put w st end.unwritten env v base g.0 m p ws r tv g.1 (gone st mid end g.0 g.1 g.2 more) g.3 g.4 is

    pub put_ready : (base : Heap) (st mid end : Standing) → series rest mid ≡ Some end → Ready w st end.unwritten env v base → Has v m → (g : Goes w st mid env v base (Put m (plain_value p))) → Ready w mid end.unwritten env wrote_view (one_write ++ base)
    put_ready base st mid end more r mine g =
        let left = without (g.0 ∷ []) st.unwritten in
        subst (λ z. Ready w z end.unwritten env wrote_view (one_write ++ base)) g.2
        (ready_next w st left end.unwritten env v wrote_view base one_write r (without_within (g.0 ∷ []) st.unwritten) (narrow rest st mid end left g.2 more) (put_moved base st mid end more r g) (wrote_kept v m ws tv mine))

    pub needs_put : NeedsAct w (Put m (plain_value p)) rest env v → Needs w rest env wrote_view
    needs_put n = (one_write ++ n.0, n.2, n.3, n.4, put_ready n.0 n.1 n.2 n.3 n.4 n.5 (may_write n) n.6)

    pub tells_put : (x : ValueView) (e : Ended (Rec Handle)) → Has v m → Kept wrote_view x → Tells w deep first rest env wrote_view x e → TellsAct w room deep first (Put m (plain_value p)) rest env v x (then_ended (W m (plain_value p)) e)
    tells_put x e mine kx t base st mid end more r g =
        let left = without (g.0 ∷ []) st.unwritten in
        let mv = put_moved base st mid end more r g in
        let o = r.opens g.0 g.1 (gone st mid end g.0 g.1 g.2 more) in
        let empty : held base m ≡ None = subst (λ z. held base z ≡ None) (ref_is (sym o.1 ∙ g.3)) o.2 in
        let fresh : Fresh one_write base = λ k i. subst (λ z. held base z ≡ None) (one_is m k (plain_value p) i.0 i.1).0 empty in
        lift_told deep (acts room deep (Put m (plain_value p))) first (cuts room deep first (Put m (plain_value p))) rest rest env env v wrote_view x base (one_write ++ base) st mid end.unwritten end.unwritten (W m (plain_value p))
        (λ heap wi k last h. (refl, refl, h ((m, plain_value p) ∷ heap) (within_front one_write base heap wi)))
        (λ k f. fresh_then base one_write (writes k) fresh f)
        (λ k f b. moved_then st left end.unwritten env v wrote_view x base one_write (writes k) (without_within (g.0 ∷ []) st.unwritten) (narrow rest st mid end left g.2 more) mv (wrote_kept v m ws tv mine) (subst (λ z. Moved z end.unwritten env wrote_view x (one_write ++ base) (writes k)) (sym g.2) b) kx)
        (λ k. still_then st left end.unwritten env v wrote_view x (without_within (g.0 ∷ []) st.unwritten) (narrow rest st mid end left g.2 more) (wrote_kept v m ws tv mine) (still_put st left env v m ws tv mine (g.0, g.1, not_left st g.0, g.3)) (subst (λ z. Unchanged z end.unwritten env wrote_view x) (sym g.2) k))
        (λ s. within_base one_write base x fresh s)
        (λ k n. at_write same_handle room deep first rest env base m (plain_value p) k n)
        e (t (one_write ++ base) mid end more (put_ready base st mid end more r mine g))

  -- what a compound statement leaves, before the rest
  module _ (a : Action Handle) (u : ValueView) (ku : Kept v u) (base : Heap) (st mid end : Standing) (more : series rest mid ≡ Some end) (r : Ready w st end.unwritten env v base) (left : List ℕ) (within : all_in left st.unwritten ≡ true) (q : settled left st ≡ mid) where
    pub seq_ready : (ws : Heap) → Moved st left env v u base ws → Ready w mid end.unwritten env u (ws ++ base)
    seq_ready ws mv = subst (λ z. Ready w z end.unwritten env u (ws ++ base)) q (ready_next w st left end.unwritten env v u base ws r within (narrow rest st mid end left q more) mv ku)

    seq_told : (x : ValueView) (kx : Kept u x) (t : Rec Handle) → Moved st left env v u base (writes t) → Unchanged st left env v u → Fresh (writes t) base
        → ((heap : Heap) → Wider base heap → (k : Rec Handle) (last : End) → deep rest env (writes t ++ heap) k last → acts room deep a rest env heap (S t k) last)
        → ((k : Rec Handle) (n : ℕ) → CutOn same_handle first rest env (writes t ++ base) k n → CutOn same_handle (cuts room deep first a) rest env base (S t k) n)
        → (e : Ended (Rec Handle)) → Tells w deep first rest env u x e → Told (acts room deep a) (cuts room deep first a) rest st end.unwritten env v x base (then_ended (S t) e)
    seq_told x kx t mv still fr run cut e told =
        lift_told deep (acts room deep a) first (cuts room deep first a) rest rest env env v u x base (writes t ++ base) st mid end.unwritten end.unwritten (S t)
        (λ heap wi k last g. run heap wi k last (g (writes t ++ heap) (within_front (writes t) base heap wi)))
        (λ k f. fresh_then base (writes t) (writes k) fr f)
        (λ k f b. moved_then st left end.unwritten env v u x base (writes t) (writes k) within (narrow rest st mid end left q more) mv ku (subst (λ z. Moved z end.unwritten env u x (writes t ++ base) (writes k)) (sym q) b) kx)
        (λ k. still_then st left end.unwritten env v u x within (narrow rest st mid end left q more) ku still (subst (λ z. Unchanged z end.unwritten env u x) (sym q) k))
        (λ s. within_base (writes t) base x fr s)
        cut
        e (told (writes t ++ base) mid end more (seq_ready (writes t) mv))

  -- if and call
  pub inner_moved : (st mid : Standing) (base : Heap) (body : List Stmt) (inner : Env Handle) (g : Enters w st mid env v base body inner) (u : ValueView) (ws : Heap) → Moved g.names g.end.unwritten inner v u base ws → Moved st g.left env v u base ws
  inner_moved st mid base body inner g u ws mv =
      record { closed = mv.closed; sees = mv.sees; done = λ m t. mv.done m (g.into m t); spares = λ m h i. g.out m (mv.spares m h i); owned = mv.owned }

  inner_still : (st mid : Standing) (base : Heap) (body : List Stmt) (inner : Env Handle) (g : Enters w st mid env v base body inner) (u : ValueView) → Unchanged g.names g.end.unwritten inner v u → Unchanged st g.left env v u
  inner_still st mid base body inner g u k m x h d s = k m x h (λ t. d (g.out m t)) s

  -- where a part before the rest stopped, no more is written than the rest leaves
  inner_stop : (st mid end : Standing) (base : Heap) (body : List Stmt) (inner : Env Handle) → series rest mid ≡ Some end → (g : Enters w st mid env v base body inner) (u : ValueView) → Unchanged g.names g.end.unwritten inner v u → Unchanged st end.unwritten env v u
  inner_stop st mid end base body inner more g u k m x h d s = k m x h (λ t. d (target_narrow st g.left end.unwritten env m (narrow rest st mid end g.left g.settles more) (g.out m t))) s

  module _ (body : List Stmt) (inner : Env Handle) where
    pub needs_body : NeedsAct w (Body body inner) rest env v → Needs w body inner v
    needs_body n = let g = n.6 in (n.0, g.names, g.end, g.meets, g.ready)

    pub needs_body_on : (u : ValueView) (t : Rec Handle) → Kept v u → NeedsAct w (Body body inner) rest env v → Tells w deep first body inner v u (Good t) → Needs w rest env u
    needs_body_on u t ku n told =
        let g = n.6 in
        let b = told n.0 g.names g.end g.meets g.ready in
        (writes t ++ n.0, n.2, n.3, n.4, seq_ready (Body body inner) u ku n.0 n.1 n.2 n.3 n.4 n.5 g.left g.within g.settles (writes t) (inner_moved n.1 n.2 n.0 body inner g u (writes t) b.1))

    pub tells_body_on : (u x : ValueView) (t : Rec Handle) (e : Ended (Rec Handle)) → Kept v u → Kept u x → Tells w deep first body inner v u (Good t) → Tells w deep first rest env u x e → TellsAct w room deep first (Body body inner) rest env v x (then_ended (S t) e)
    tells_body_on u x t e ku kx told more_told base st mid end more r g =
        let b = told base g.names g.end g.meets g.ready in
        seq_told (Body body inner) u ku base st mid end more r g.left g.within g.settles x kx t (inner_moved st mid base body inner g u (writes t) b.1) (inner_still st mid base body inner g u b.2) b.0.fresh
        (λ heap wi k last h. (Done, b.0.run heap wi, h)) (λ k n. behind_body same_handle room deep first rest env base body inner t k n b.0.run) e more_told

    pub tells_body_stop : (u : ValueView) (t : Rec Handle) (k : FaultKind) (n : ℕ) → Tells w deep first body inner v u (Fault t k n) → TellsAct w room deep first (Body body inner) rest env v u (Fault (S t E) k n)
    tells_body_stop u t k n told base st mid end more r g =
        let b = told base g.names g.end g.meets g.ready in
        (record { run = λ heap wi. (Stop k n, b.0.run heap wi, (refl, refl)); fresh = b.0.fresh }, b.1, inner_stop st mid end base body inner more g u b.2)

    pub tells_body_cut : (u : ValueView) (t : Rec Handle) (why : Option Cause) → Tells w deep first body inner v u (Other t why) → TellsAct w room deep first (Body body inner) rest env v u (Other (S t E) why)
    tells_body_cut u t why told base st mid end more r g =
        let b = told base g.names g.end g.meets g.ready in
        (at_body same_handle room deep first rest env base body inner t u.claims.over b.0, b.1)

  -- read
  module _ (number : ℕ) (reads : Reads Handle) (body : List Stmt) (inner : Env Handle) where
    pub needs_block : NeedsAct w (Block number reads body inner) rest env v → Needs w body inner v
    needs_block n = let g = n.6 in (n.0, g.names, g.end, g.meets, g.ready)

    pub needs_block_on : (u : ValueView) (t : Rec Handle) → Kept v u → NeedsAct w (Block number reads body inner) rest env v → Tells w deep first body inner v u (Good t) → Needs w rest env u
    needs_block_on u t ku n told =
        let g = n.6 in
        let b = told n.0 g.names g.end g.meets g.ready in
        (writes t ++ n.0, n.2, n.3, n.4, seq_ready (Block number reads body inner) u ku n.0 n.1 n.2 n.3 n.4 n.5 g.left g.within g.settles (writes t) (inner_moved n.1 n.2 n.0 body inner g u (writes t) b.1))

    pub tells_block_on : (u x : ValueView) (t : Rec Handle) (e : Ended (Rec Handle)) → Kept v u → Kept u x → Tells w deep first body inner v u (Good t) → Tells w deep first rest env u x e → TellsAct w room deep first (Block number reads body inner) rest env v x (then_ended (S (R room number env reads t)) e)
    tells_block_on u x t e ku kx told more_told base st mid end more r g =
        let b = told base g.names g.end g.meets g.ready in
        seq_told (Block number reads body inner) u ku base st mid end more r g.left g.within g.settles x kx (R room number env reads t) (inner_moved st mid base body inner g u (writes t) b.1) (inner_still st mid base body inner g u b.2) b.0.fresh
        (λ heap wi k last h. (refl, refl, refl, refl, (Done, b.0.run heap wi, h))) (λ k n. behind_block same_handle room deep first rest env base number reads body inner t k n b.0.run) e more_told

    pub tells_block_stop : (u : ValueView) (t : Rec Handle) (k : FaultKind) (n : ℕ) → Tells w deep first body inner v u (Fault t k n) → TellsAct w room deep first (Block number reads body inner) rest env v u (Fault (S (R room number env reads t) E) k n)
    tells_block_stop u t k n told base st mid end more r g =
        let b = told base g.names g.end g.meets g.ready in
        (record { run = λ heap wi. (refl, refl, refl, refl, (Stop k n, b.0.run heap wi, (refl, refl))); fresh = b.0.fresh }, b.1, inner_stop st mid end base body inner more g u b.2)

    -- whatever the end of the body, the read was begun
    pub tells_block_first : Shortens deep first → (u : ValueView) (e : Ended (Rec Handle)) → Whole u e → Tells w deep first body inner v u e → (why : Option Cause) → TellsAct w room deep first (Block number reads body inner) rest env v u (Other (S (R room number env reads (what e)) E) why)
    tells_block_first short u e z told why base st mid end more r g =
        let b = told base g.names g.end g.meets g.ready in
        let c = told_cut deep first short body g.names g.end.unwritten inner v u base e z b in
        (at_block same_handle room deep first rest env base number reads body inner reads [] (what e) u.claims.over (append-nil reads) c, told_within deep first body g.names g.end.unwritten inner v u base e b)

  -- par
  module _ (ls rs : List Stmt) where
    abbrev BothHere : Standing → List ℕ → ValueView → Heap → Ended (Rec Handle) → Type 0
    BothHere st left j base e = Both room deep first ls rs rest env v st left j base e

    abbrev BothTold : ValueView → Ended (Rec Handle) → Type 0
    BothTold j e = TellsBoth w room deep first ls rs rest env v j e

    pub both_within : (st mid : Standing) (p : Parts st mid ls rs) → all_in (in_both p.one p.two) st.unwritten ≡ true
    both_within st mid p = both_in p.one p.two st.unwritten (leaves (map series_of ls) st p.one p.first).within

    pub needs_par_on : (j : ValueView) (t : Rec Handle) → Kept v j → NeedsAct w (Sides ls rs) rest env v → BothTold j (Good t) → Needs w rest env j
    needs_par_on j t kj n both =
        let p = n.6 in
        let b = both n.0 n.1 n.2 n.3 n.4 n.5 p in
        ((writes b.1 ++ writes b.0) ++ n.0, n.2, n.3, n.4, seq_ready (Sides ls rs) j kj n.0 n.1 n.2 n.3 n.4 n.5 (in_both p.one p.two) (both_within n.1 n.2 p) p.settles (writes b.1 ++ writes b.0) b.4)

    pub tells_par_on : (j x : ValueView) (t : Rec Handle) (e : Ended (Rec Handle)) → Kept v j → Kept j x → BothTold j (Good t) → Tells w deep first rest env j x e → TellsAct w room deep first (Sides ls rs) rest env v x (then_ended (S t) e)
    tells_par_on j x t e kj kx both told base st mid end more r p =
        let b = both base st mid end more r p in
        subst (λ c. Told (acts room deep (Sides ls rs)) (cuts room deep first (Sides ls rs)) rest st end.unwritten env v x base (then_ended (S c) e)) b.2
        (seq_told (Sides ls rs) j kj base st mid end more r (in_both p.one p.two) (both_within st mid p) p.settles x kx (P b.0 b.1) b.4 b.5 b.3.fresh
        (λ heap wi k last h. let q = b.3.run heap wi in (Done, Done, q.0, q.1, subst (λ z. deep rest env z k last) (append_assoc (writes b.1) (writes b.0) heap) h))
        (λ k n. behind_sides same_handle room deep first rest env base ls rs b.0 b.1 k n (λ heap wi. (b.3.run heap wi).0) (λ heap wi. (b.3.run heap wi).1))
        e told)

    pub tells_par_stop : (j : ValueView) (t : Rec Handle) (k : FaultKind) (n : ℕ) → BothTold j (Fault t k n) → TellsAct w room deep first (Sides ls rs) rest env v j (Fault (S t E) k n)
    tells_par_stop j t k n both base st mid end more r p =
        let b = both base st mid end more r p in
        subst (λ c. Told (acts room deep (Sides ls rs)) (cuts room deep first (Sides ls rs)) rest st end.unwritten env v j base (Fault (S c E) k n)) b.2 (
          record {
            run = λ heap wi. (let q = b.3.3.run heap wi in (b.3.0, b.3.1, q.0, q.1, subst (λ z. goes_on z deep rest env (writes b.1 ++ (writes b.0 ++ heap)) E (Stop k n)) (sym b.3.2) (refl, refl)));
            fresh = b.3.3.fresh;
          },
          b.3.4,
          λ m x h d s. b.3.5 m x h (λ z. d (target_narrow st (in_both p.one p.two) end.unwritten env m (narrow rest st mid end (in_both p.one p.two) p.settles more) z)) s,
        )

    pub tells_par_cut : (j : ValueView) (t : Rec Handle) (why : Option Cause) → BothTold j (Other t why) → TellsAct w room deep first (Sides ls rs) rest env v j (Other (S t E) why)
    tells_par_cut j t why both base st mid end more r p = both base st mid end more r p

    paired_by : (base : Heap) (a b : Rec Handle) (e f : End) → Traces deep ls env base a e → Traces deep rs env base b f → Paired deep ls rs env base a b e f
    paired_by base a b e f ta tb =
        record { run = λ heap wi. (ta.run heap wi, tb.run (writes a ++ heap) (within_fresh (writes a) base heap ta.fresh wi)); fresh = fresh_sides base (writes a) (writes b) ta.fresh tb.fresh }

    paired_second : (base : Heap) (a b : Rec Handle) (e f : End) → Traces deep ls env base a e → Traces deep rs env (writes a ++ base) b f → Paired deep ls rs env base a b e f
    paired_second base a b e f ta tb =
        record { run = λ heap wi. (ta.run heap wi, tb.run (writes a ++ heap) (within_front (writes a) base heap wi)); fresh = fresh_then base (writes a) (writes b) ta.fresh tb.fresh }

    pub left_end : (st mid : Standing) (p : Parts st mid ls rs) → (end : Standing) × (series ls st ≡ Some end) × (end.unwritten ≡ p.one)
    left_end st mid p = let l = leaves (map series_of ls) st p.one p.first in (l.end, l.meets, l.unwritten)

    pub right_end : (st mid : Standing) (p : Parts st mid ls rs) → (end : Standing) × (series rs st ≡ Some end) × (end.unwritten ≡ p.two)
    right_end st mid p = let l = leaves (map series_of rs) st p.two p.second in (l.end, l.meets, l.unwritten)

    -- on two forked passes
    module _ (tv : Tidy v) where
      abbrev L : ValueView
      L = left_of (neither ls rs env) (writes_slot rs env) v

      abbrev K : ValueView
      K = right_of (neither ls rs env) (writes_slot rs env) v

      pub part_narrow : (st mid end : Standing) → series rest mid ≡ Some end → (p : Parts st mid ls rs) → Narrow st (in_both p.one p.two) end.unwritten
      part_narrow st mid end more p = narrow rest st mid end (in_both p.one p.two) p.settles more

      pub needs_left : NeedsAct w (Sides ls rs) rest env v → Needs w ls env L
      needs_left n =
          let p = n.6 in
          let e = left_end n.1 n.2 p in
          (n.0, n.1, e.0, e.1, subst (λ z. Ready w n.1 z env L n.0) (sym e.2) (ready_left w n.1 n.2 n.3.unwritten env v n.0 ls rs p tv n.5 (part_narrow n.1 n.2 n.3 n.4 p)))

      pub needs_right : NeedsAct w (Sides ls rs) rest env v → Needs w rs env K
      needs_right n =
          let p = n.6 in
          let e = right_end n.1 n.2 p in
          (n.0, n.1, e.0, e.1, subst (λ z. Ready w n.1 z env K n.0) (sym e.2) (ready_right w n.1 n.2 n.3.unwritten env v n.0 ls rs p tv n.5 (part_narrow n.1 n.2 n.3 n.4 p)))

      module _ (l k j : ValueView) (kl : Kept L l) (kk : Kept K k) (is : j ≡ joined l k) (un : United l k j) where
        pub left_told : (one : Ended (Rec Handle)) → Tells w deep first ls env L l one → (base : Heap) (st mid end : Standing) → series rest mid ≡ Some end → Ready w st end.unwritten env v base → (p : Parts st mid ls rs) → Told deep first ls st p.one env L l base one
        left_told one t base st mid end more r p =
            let e = left_end st mid p in
            let ready = ready_left w st mid end.unwritten env v base ls rs p tv r (part_narrow st mid end more p) in
            subst (λ z. Told deep first ls st z env L l base one) e.2 (t base st e.0 e.1 (subst (λ z. Ready w st z env L base) (sym e.2) ready))

        pub right_told : (two : Ended (Rec Handle)) → Tells w deep first rs env K k two → (base : Heap) (st mid end : Standing) → series rest mid ≡ Some end → Ready w st end.unwritten env v base → (p : Parts st mid ls rs) → Told deep first rs st p.two env K k base two
        right_told two t base st mid end more r p =
            let e = right_end st mid p in
            let ready = ready_right w st mid end.unwritten env v base ls rs p tv r (part_narrow st mid end more p) in
            subst (λ z. Told deep first rs st z env K k base two) e.2 (t base st e.0 e.1 (subst (λ z. Ready w st z env K base) (sym e.2) ready))

        sees_left : (base : Heap) → Within base (Sees l) → Within base (Sees j)
        sees_left base s m x e = joined_sees_left (neither ls rs env) (writes_slot rs env) v tv l k j kl kk is un m x (s m x e)

        sees_right : (base : Heap) → Within base (Sees k) → Within base (Sees j)
        sees_right base s m x e = joined_sees_right (neither ls rs env) (writes_slot rs env) v tv l k j kl kk is un m x (s m x e)

        -- a side that was cut short beside the other
        both_cut : Shortens deep first → (base : Heap) (st : Standing) (a b : List ℕ) (one two : Ended (Rec Handle)) → Whole l one → Whole k two → Told deep first ls st a env L l base one → Told deep first rs st b env K k base two → CutOn same_handle (cuts room deep first (Sides ls rs)) rest env base (S (P (what one) (what two)) E) j.claims.over × Within base (Sees j)
        both_cut short base st a b one two zl zk ta tb =
            let over : l.claims.over + k.claims.over ≡ j.claims.over = sym (ap (λ (z : ValueView). z.claims.over) is) in
            let x = told_cut deep first short ls st a env L l base one zl ta in
            let y = told_cut deep first short rs st b env K k base two zk tb in (
              subst (CutOn same_handle (cuts room deep first (Sides ls rs)) rest env base (S (P (what one) (what two)) E)) over (at_sides same_handle room deep first rest env base ls rs (what one) (what two) l.claims.over k.claims.over x y),
              sees_left base (told_within deep first ls st a env L l base one ta),
            )

        both_still : (base : Heap) (st mid end : Standing) → series rest mid ≡ Some end → Ready w st end.unwritten env v base → (p : Parts st mid ls rs) → Unchanged st p.one env L l → Unchanged st p.two env K k → Unchanged st (in_both p.one p.two) env v j
        both_still base st mid end more r p a b = still_sides w st mid end.unwritten env v base ls rs p tv r (part_narrow st mid end more p) l k j kl kk is un a b

        both_told : Shortens deep first → (base : Heap) (st mid end : Standing) → series rest mid ≡ Some end → (r : Ready w st end.unwritten env v base) → (p : Parts st mid ls rs) → (one two : Ended (Rec Handle)) → Whole l one → Whole k two → Told deep first ls st p.one env L l base one → Told deep first rs st p.two env K k base two → BothHere st (in_both p.one p.two) j base (both_ended P one two)
        both_told short base st mid end more r p (Good a) (Good b) zl zk ta tb =
            (a, b, refl, paired_by base a b Done Done ta.0 tb.0, moved_sides w st mid end.unwritten env v base ls rs p tv r (part_narrow st mid end more p) l k j kl kk is un (writes a) (writes b) ta.1 tb.1, both_still base st mid end more r p ta.2 tb.2)
        both_told short base st mid end more r p (Good a) (Fault b c d) zl zk ta tb = (a, b, refl, (Done, Stop c d, refl, paired_by base a b Done (Stop c d) ta.0 tb.0, sees_right base tb.1, both_still base st mid end more r p ta.2 tb.2))
        both_told short base st mid end more r p (Fault a c d) (Good b) zl zk ta tb = (a, b, refl, (Stop c d, Done, refl, paired_by base a b (Stop c d) Done ta.0 tb.0, sees_left base ta.1, both_still base st mid end more r p ta.2 tb.2))
        both_told short base st mid end more r p (Fault a c d) (Fault b e f) zl zk ta tb = (a, b, refl, (Stop c d, Stop e f, refl, paired_by base a b (Stop c d) (Stop e f) ta.0 tb.0, sees_left base ta.1, both_still base st mid end more r p ta.2 tb.2))
        both_told short base st mid end more r p (Good a) (Other b why) zl zk ta tb = both_cut short base st p.one p.two (Good a) (Other b why) zl zk ta tb
        both_told short base st mid end more r p (Fault a c d) (Other b why) zl zk ta tb = both_cut short base st p.one p.two (Fault a c d) (Other b why) zl zk ta tb
        both_told short base st mid end more r p (Other a why) two zl zk ta tb = both_cut short base st p.one p.two (Other a why) two zl zk ta tb

        pub tells_forked : Shortens deep first → (one two : Ended (Rec Handle)) → Whole l one → Whole k two → Tells w deep first ls env L l one → Tells w deep first rs env K k two → BothTold j (both_ended P one two)
        tells_forked short one two zl zk tl tr base st mid end more r p =
            both_told short base st mid end more r p one two zl zk (left_told one tl base st mid end more r p) (right_told two tr base st mid end more r p)

    -- one after the other on one pass
    pub first_ready : (base : Heap) (st mid end : Standing) → series rest mid ≡ Some end → Ready w st end.unwritten env v base → (p : Parts st mid ls rs) → Ready w st p.one env v base
    first_ready base st mid end more r p = ready_inner w st p.one end.unwritten env v base (λ x u e. narrow rest st mid end (in_both p.one p.two) p.settles more x u (not_true (has x (in_both p.one p.two)) (λ i. not_both (has_both x p.one p.two i).0 e))) r

    pub needs_first : NeedsAct w (Sides ls rs) rest env v → Needs w ls env v
    needs_first n =
        let p = n.6 in
        let e = left_end n.1 n.2 p in
        (n.0, n.1, e.0, e.1, subst (λ z. Ready w n.1 z env v n.0) (sym e.2) (first_ready n.0 n.1 n.2 n.3 n.4 n.5 p))

    module _ (tv : Tidy v) (u : ValueView) (ku : Kept v u) where
      pub first_told : (one : Ended (Rec Handle)) → Tells w deep first ls env v u one → (base : Heap) (st mid end : Standing) → series rest mid ≡ Some end → Ready w st end.unwritten env v base → (p : Parts st mid ls rs) → Told deep first ls st p.one env v u base one
      first_told one t base st mid end more r p =
          let e = left_end st mid p in
          subst (λ z. Told deep first ls st z env v u base one) e.2 (t base st e.0 e.1 (subst (λ z. Ready w st z env v base) (sym e.2) (first_ready base st mid end more r p)))

      pub second_ready : (base : Heap) (st mid end : Standing) → series rest mid ≡ Some end → Ready w st end.unwritten env v base → (p : Parts st mid ls rs) → (one : Heap) → Moved st p.one env v u base one → Ready w st p.two env u (one ++ base)
      second_ready base st mid end more r p one mv = ready_second w st mid end.unwritten env v base ls rs p tv r (narrow rest st mid end (in_both p.one p.two) p.settles more) u ku one mv

      -- where the right side is left out
      pub tells_left_out : StartsEmpty first → (l : Rec Handle) (why : Option Cause) → Tells w deep first ls env v u (Other l why) → BothTold u (Other (P l E) why)
      tells_left_out none l why t base st mid end more r p =
          let told = first_told (Other l why) t base st mid end more r p in
          let sum : u.claims.over + 0 ≡ u.claims.over = omega arith in
          (subst (CutOn same_handle (cuts room deep first (Sides ls rs)) rest env base (S (P l E) E)) sum (at_sides same_handle room deep first rest env base ls rs l E u.claims.over 0 told.0 (record { run = λ heap wi. none rs env heap })), told.1)

      -- after a fault of the left side
      stopped_ready : (base : Heap) (st mid end : Standing) → series rest mid ≡ Some end → Ready w st end.unwritten env v base → (p : Parts st mid ls rs) → Within base (Sees u) → Ready w st p.two env u base
      stopped_ready base st mid end more r p s =
          let n : Narrow st p.two end.unwritten = λ x i e. narrow rest st mid end (in_both p.one p.two) p.settles more x i (not_true (has x (in_both p.one p.two)) (λ k. not_both (has_both x p.one p.two k).1 e)) in
          let q = ready_inner w st p.two end.unwritten env v base n r in
          record { same = q.same; closed = q.closed; cells = q.cells; row_count = q.row_count; sees = s; knows = q.knows; opens = λ x i e. (let b = q.opens x i e in (b.0, b.1, b.2, ku.mine b.0 b.3)); apart = q.apart }

      pub needs_second : (one : Ended (Rec Handle)) → is_other one ≡ false → NeedsAct w (Sides ls rs) rest env v → Tells w deep first ls env v u one → Needs w rs env u
      needs_second (Good a) o n t =
          let p = n.6 in
          let e = right_end n.1 n.2 p in
          let told = first_told (Good a) t n.0 n.1 n.2 n.3 n.4 n.5 p in
          (writes a ++ n.0, n.1, e.0, e.1, subst (λ z. Ready w n.1 z env u (writes a ++ n.0)) (sym e.2) (second_ready n.0 n.1 n.2 n.3 n.4 n.5 p (writes a) told.1))
      needs_second (Fault a c d) o n t =
          let p = n.6 in
          let e = right_end n.1 n.2 p in
          let told = first_told (Fault a c d) t n.0 n.1 n.2 n.3 n.4 n.5 p in
          (n.0, n.1, e.0, e.1, subst (λ z. Ready w n.1 z env u n.0) (sym e.2) (stopped_ready n.0 n.1 n.2 n.3 n.4 n.5 p told.1))
      needs_second (Other a why) o n t = absurd cc

      module _ (j : ValueView) (kj : Kept u j) where
        second_still : (base : Heap) (st mid end : Standing) → series rest mid ≡ Some end → Ready w st end.unwritten env v base → (p : Parts st mid ls rs) → Unchanged st p.one env v u → Unchanged st p.two env u j → Unchanged st (in_both p.one p.two) env v j
        second_still base st mid end more r p a b = still_second w st mid end.unwritten env v base ls rs p tv r (narrow rest st mid end (in_both p.one p.two) p.settles more) u j ku a b

        after_first : (base : Heap) (st mid end : Standing) → series rest mid ≡ Some end → (r : Ready w st end.unwritten env v base) → (p : Parts st mid ls rs) → (a : Rec Handle) → Traces deep ls env base a Done → Moved st p.one env v u base (writes a) → Unchanged st p.one env v u → (two : Ended (Rec Handle)) → Told deep first rs st p.two env u j (writes a ++ base) two → BothHere st (in_both p.one p.two) j base (both_ended P (Good a) two)
        after_first base st mid end more r p a ta mv ua (Good b) tb =
            (a, b, refl, paired_second base a b Done Done ta tb.0, moved_second w st mid end.unwritten env v base ls rs p tv r (narrow rest st mid end (in_both p.one p.two) p.settles more) u ku (writes a) mv j (writes b) kj tb.1, second_still base st mid end more r p ua tb.2)
        after_first base st mid end more r p a ta mv ua (Fault b c d) tb = (a, b, refl, (Done, Stop c d, refl, paired_second base a b Done (Stop c d) ta tb.0, within_base (writes a) base j ta.fresh tb.1, second_still base st mid end more r p ua tb.2))
        after_first base st mid end more r p a ta mv ua (Other b why) tb =
            (record { run = λ heap wi. inr (inl (Done, ta.run heap wi, tb.0.run (writes a ++ heap) (within_front (writes a) base heap wi), refl)) }, within_base (writes a) base j ta.fresh tb.1)

        after_stop : (base : Heap) (st : Standing) (left right : List ℕ) (c : FaultKind) (d : ℕ) (a : Rec Handle) → Traces deep ls env base a (Stop c d) → (Unchanged st right env u j → Unchanged st left env v j) → (two : Ended (Rec Handle)) → Told deep first rs st right env u j base two → BothHere st left j base (both_ended P (Fault a c d) two)
        after_stop base st left right c d a ta still (Good b) tb = (a, b, refl, (Stop c d, Done, refl, paired_by base a b (Stop c d) Done ta tb.0, within_base (writes b) base j tb.0.fresh tb.1.sees, still tb.2))
        after_stop base st left right c d a ta still (Fault b e f) tb = (a, b, refl, (Stop c d, Stop e f, refl, paired_by base a b (Stop c d) (Stop e f) ta tb.0, tb.1, still tb.2))
        after_stop base st left right c d a ta still (Other b why) tb =
            (record { run = λ heap wi. inr (inl (Stop c d, ta.run heap wi, tb.0.run (writes a ++ heap) (within_fresh (writes a) base heap ta.fresh wi), refl)) }, tb.1)

        pub tells_second : (one two : Ended (Rec Handle)) → is_other one ≡ false → Tells w deep first ls env v u one → Tells w deep first rs env u j two → BothTold j (both_ended P one two)
        tells_second (Good a) two o tl tr base st mid end more r p =
            let e = right_end st mid p in
            let told = first_told (Good a) tl base st mid end more r p in
            let ready = second_ready base st mid end more r p (writes a) told.1 in
            after_first base st mid end more r p a told.0 told.1 told.2 two (subst (λ z. Told deep first rs st z env u j (writes a ++ base) two) e.2 (tr (writes a ++ base) st e.0 e.1 (subst (λ z. Ready w st z env u (writes a ++ base)) (sym e.2) ready)))
        tells_second (Fault a c d) two o tl tr base st mid end more r p =
            let e = right_end st mid p in
            let told = first_told (Fault a c d) tl base st mid end more r p in
            let ready = stopped_ready base st mid end more r p told.1 in
            after_stop base st (in_both p.one p.two) p.two c d a told.0 (second_still base st mid end more r p told.2) two (subst (λ z. Told deep first rs st z env u j base two) e.2 (tr base st e.0 e.1 (subst (λ z. Ready w st z env u base) (sym e.2) ready)))
        tells_second (Other a why) two o tl tr base st mid end more r p = absurd cc

    -- where neither side has begun
    pub both_begun : StartsEmpty first → (q : ValueView) → q.claims.over ≡ 0 → ((m : Handle) (x : Value Handle) → Sees v m x → Sees q m x) → (why : Option Cause) → BothTold q (Other (P E E) why)
    both_begun none q over on why base st mid end more r p = (
      subst (CutOn same_handle (cuts room deep first (Sides ls rs)) rest env base (S (P E E) E)) (sym over) (at_sides same_handle room deep first rest env base ls rs E E 0 0 (record { run = λ heap wi. none ls env heap }) (record { run = λ heap wi. none rs env heap })),
      λ m x e. on m x (r.sees m x e),
    )

    -- what both sides tell is that they were cut short too
    both_first : Shortens deep first → (st : Standing) (left : List ℕ) (j : ValueView) (base : Heap) (e : Ended (Rec Handle)) → Whole j e → BothHere st left j base e → CutOn same_handle (cuts room deep first (Sides ls rs)) rest env base (S (what e) E) j.claims.over × Within base (Sees j)
    both_first short st left j base (Good t) z b =
        let sides : CutOn same_handle (cuts room deep first (Sides ls rs)) rest env base (S (P b.0 b.1) E) 0 = record { run = λ heap wi. (let q = b.3.run heap wi in inr (inl (Done, q.0, short rs env (writes b.0 ++ heap) b.1 Done q.1, refl))) } in
        (subst (CutOn same_handle (cuts room deep first (Sides ls rs)) rest env base (S t E)) (sym (z refl)) (subst (λ x. CutOn same_handle (cuts room deep first (Sides ls rs)) rest env base (S x E) 0) b.2 sides), within_base (writes b.1 ++ writes b.0) base j b.3.fresh b.4.sees)
    both_first short st left j base (Fault t k n) z b =
        let sides : CutOn same_handle (cuts room deep first (Sides ls rs)) rest env base (S (P b.0 b.1) E) 0 = record { run = λ heap wi. (let q = b.3.3.run heap wi in inr (inl (b.3.0, q.0, short rs env (writes b.0 ++ heap) b.1 b.3.1 q.1, refl))) } in
        (subst (CutOn same_handle (cuts room deep first (Sides ls rs)) rest env base (S t E)) (sym (z refl)) (subst (λ x. CutOn same_handle (cuts room deep first (Sides ls rs)) rest env base (S x E) 0) b.2 sides), b.3.4)
    both_first short st left j base (Other t why) z b = b

    pub both_follows : Shortens deep first → (j : ValueView) (e o : Ended (Rec Handle)) → Whole j e → Follows e o → BothTold j e → BothTold j o
    both_follows short j e (Good t) z f b base st mid end more r p = subst (BothTold j) f b base st mid end more r p
    both_follows short j e (Fault t k n) z f b base st mid end more r p = subst (BothTold j) f b base st mid end more r p
    both_follows short j e (Other t (Some c)) z f b base st mid end more r p = subst (BothTold j) f b base st mid end more r p
    both_follows short j e (Other t None) z f b base st mid end more r p =
        subst (λ x. CutOn same_handle (cuts room deep first (Sides ls rs)) rest env base (S x E) j.claims.over × Within base (Sees j)) f (both_first short st (in_both p.one p.two) j base e z (b base st mid end more r p))
