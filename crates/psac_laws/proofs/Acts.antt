-- What a statement of a checked program does, and that the rest of its body begins as it needs.
use Rattle.std.proofs.Common.{◌≡◌, ℕ, ◌==◌, ◌||◌, true, false, List, [], ◌∷◌, ◌++◌, map, Some, None, Result, Ok, Err, refl, ap, sym, ◌∙◌, subst, arith, inl, inr, append_assoc, append-nil}
use Rattle.psac_ops.specs.Value.{Value, ref}
use Rattle.psac_syntax.specs.declared.program.Stmt.{Stmt}
use Rattle.psac_syntax.specs.declared.program.ReadItem.{ReadItem}
use Rattle.psac_syntax.specs.declared.program.Func.{Func}
use Rattle.psac_model.specs.declared.ends.FaultKind.{FaultKind}
use Rattle.psac_model.specs.declared.ends.End.TheVariants.{Done, Stop}
use Rattle.psac_model.specs.Names.{Path, Name, Made, Env, Heap, bound, bind, held, same_name}
use Rattle.psac_model.specs.Expression.{Setting}
use Rattle.psac_model.specs.Tree.{R, Reads}
use Rattle.psac_model.specs.Run.{under, Manner, plainly, by_path_in, Deeper, Action, Bind, Make, Put, Body, Block, Sides, act, act_or_stop, with_reads}
use Rattle.psac_laws.proofs.Placed.{AllHeld}
use Rattle.psac_model.specs.Series.{has, without, all_in}
use Rattle.psac_laws.specs.Standing.{in_both, Standing, is_new, with_value, with_dest, with_values, settled, series_of, series}
use Rattle.psac_laws.proofs.Places.{some_is, nat_is, nat_same, not_true, test_or, not_both, name_differs}
use Rattle.psac_laws.proofs.Heaps.{IsHeld, Known, known_more}
use Rattle.psac_laws.proofs.Good.{Runs, Good, good_more, held_left, same_left}
use Rattle.psac_laws.proofs.Steps.{good_at_once, good_made, good_block, good_put, held_cons, here_cons}
use Rattle.psac_laws.proofs.Sequences.{good_seq, seq_runs}
use Rattle.psac_laws.proofs.Pairs.{good_pair, pair_runs}
use Rattle.psac_laws.proofs.Rules.{or_left, or_right, has_without, without_has, has_both, both_has, all_in_has, all_in_not, Leaves, with_values_same, settles, without_within, both_in, new_is, other, stays}
use Rattle.psac_laws.proofs.Values.{Where}
use Rattle.psac_laws.proofs.Safe.{IsUnder, wider_path, turned, ref_is, Target, May, Safe, safe_at, safe_bind, safe_make, bound_old, bound_new, Moved, safe_next, Matches, matches_held, safe_reads}

-- the claims of a run of statements that meet the rule
abbrev pub Sound : Setting Name → (Manner → Deeper Name Heap) → Type 0
Sound w fs = (body : List Stmt) (st end : Standing) (env : Env Name) (h : Heap) (path : Path) → series body st ≡ Some end → Safe w st env h path → Good (May st end.unwritten env path) (Target st end.unwritten env) h (λ a g. fs a body env g path)

module _ (w : Setting Name) (funcs : List Func) (fs : Manner → Deeper Name Heap) (sound : Sound w fs) (line : ℕ) (rest : List Stmt) (st mid end : Standing) (env : Env Name) (h : Heap) (path : Path) (more : series rest mid ≡ Some end) (s : Safe w st env h path) where
  abbrev pub acted : Result (Action Name) FaultKind → Runs
  acted r a g = act_or_stop (by_path_in a) (fs a) r line rest env g path

  abbrev pub Fine : Result (Action Name) FaultKind → Type 0
  Fine r = Good (May st end.unwritten env path) (Target st end.unwritten env) h (acted r)

  pub stopped_fine : (k : FaultKind) → Fine (Err k)
  stopped_fine k =
      good_at_once (May st end.unwritten env path) (Target st end.unwritten env) h (Stop k line) s.closed (λ e m t. absurd (let c : Stop k line ≡ Done = e in cc))

  pub bind_fine : (x : ℕ) (v : Value Name) → is_new st x ≡ true → with_value x st ≡ mid → Known h v → Fine (Ok (Bind x v))
  bind_fine x v n q k =
      let env' = bind x v env in
      let old : (y : ℕ) → has y st.unwritten ≡ true → bound y env' ≡ bound y env = λ y i. bound_old x y v env (other x y st.unwritten (new_is st x n).1 i) in
      let r = sound rest (with_value x st) end env' h path (subst (λ z. series rest z ≡ Some end) (sym q) more) (safe_bind w st env h path x v s n k) in
      good_more _ _ (May st end.unwritten env path) (Target st end.unwritten env) h _ r
      (λ m y. elim y [ inl u ↦ inl u | inr t ↦ inr (t.0, t.1, t.2, sym (old t.0 t.1) ∙ t.3) ])
      (λ m t. (t.0, t.1, t.2, old t.0 t.1 ∙ t.3))

  pub make_fine : (d : ℕ) → is_new st d ≡ true → with_dest d st ≡ mid → Fine (Ok (Make d))
  make_fine d n q =
      let env' = bind d (ref (Made path)) env in
      let st' : Standing = with_dest d st in
      let old : (y : ℕ) → (d == y) ≡ false → bound y env' ≡ bound y env = λ y e. bound_old d y (ref (Made path)) env e in
      let r = sound rest st' end env' h (path ++ 3 ∷ []) (subst (λ z. series rest z ≡ Some end) (sym q) more) (safe_make w st env h path d s n) in
      let step : Good (May st' end.unwritten env' (path ++ 3 ∷ [])) (Target st' end.unwritten env') h _ = good_made _ _ h _ r in
      good_more _ _ (May st end.unwritten env path) (Target st end.unwritten env) h _ step
      (λ m y. elim y [
        | inl u ↦ inl (wider_path path (3 ∷ []) m u)
        | inr t ↦
            elim (test_or (d == t.0)) [
              | inl e ↦ inl ([], ref_is (sym t.3 ∙ bound_new d t.0 (ref (Made path)) env e) ∙ ap Made (sym (append-nil path)))
              | inr e ↦ inr (t.0, subst (λ b. (b || has t.0 st.unwritten) ≡ true) e t.1, t.2, sym (old t.0 e) ∙ t.3)
            ]
      ])
      (λ m t. (t.0, or_right (d == t.0) (has t.0 st.unwritten) t.1, t.2, old t.0 (other d t.0 st.unwritten (new_is st d n).1 t.1) ∙ t.3))

  gone_d : (d : ℕ) → has d (without (d ∷ []) st.unwritten) ≡ false
  gone_d d = not_true (has d (without (d ∷ []) st.unwritten)) (λ t. not_both (or_left (d == d) false (nat_same d)) (has_without d (d ∷ []) st.unwritten t).1)

  only_d : (d x : ℕ) → has x st.unwritten ≡ true → has x (without (d ∷ []) st.unwritten) ≡ false → d ≡ x
  only_d d x j l =
      elim (test_or (d == x)) [
        | inl e ↦ nat_is d x e
        | inr e ↦ absurd (not_both (without_has x (d ∷ []) st.unwritten j (rw e refl)) l)
      ]

  named : (d : ℕ) (m : Name) (x : ℕ) (n : Name) → d ≡ x → bound d env ≡ Some (ref m) → bound x env ≡ Some (ref n) → m ≡ n
  named d m x n e b f = ref_is (sym b ∙ subst (λ z. bound z env ≡ Some (ref n)) (sym e) f)

  pub put_next : (d : ℕ) (m : Name) (v : Value Name) → has d st.unwritten ≡ true → bound d env ≡ Some (ref m) → Known h v → Safe w (settled (without (d ∷ []) st.unwritten) st) env ((m, v) ∷ h) (path ++ 3 ∷ [])
  put_next d m v i b k =
      let left = without (d ∷ []) st.unwritten in
      let h' : Heap = (m, v) ∷ h in
      let moved : Moved w (λ n. m ≡ n) (Target st left env) h h' = record {
        closed = λ n u e.
            elim (test_or (same_name m n)) [
              | inl t ↦ (let p : Some v ≡ Some u = rw t at e in known_more h h' (held_cons h m v) u (subst (Known h) (some_is p) k))
              | inr t ↦ (let p : held h n ≡ Some u = rw t at e in known_more h h' (held_cons h m v) u (s.closed n u p))
            ];
        up = held_cons h m v;
        kept = λ n not_m. rw (name_differs m n not_m) refl;
        done = λ n t. subst (IsHeld h') (named d m t.0 n (only_d d t.0 t.1 t.2) b t.3) (here_cons h m v);
      } in
      let at : (n : Name) → m ≡ n → Target st left env n = λ n e. (d, i, gone_d d, b ∙ ap (λ z. Some (ref z)) e) in
      safe_next w st left env h h' path (3 ∷ []) (λ n. m ≡ n) s (without_within (d ∷ []) st.unwritten) moved (λ n e. inr (at n e)) (λ n u e _. let t = at n e in (t.0, t.1, t.3))

  pub put_fine : (d : ℕ) (m : Name) (v : Value Name) → has d st.unwritten ≡ true → settled (without (d ∷ []) st.unwritten) st ≡ mid → bound d env ≡ Some (ref m) → held h m ≡ None → Safe w mid env ((m, v) ∷ h) (path ++ 3 ∷ []) → Fine (Ok (Put m v))
  put_fine d m v i q b lacks next =
      let left = without (d ∷ []) st.unwritten in
      let st' : Standing = settled left st in
      let more' : series rest st' ≡ Some end = subst (λ z. series rest z ≡ Some end) (sym q) more in
      let r = sound rest st' end env ((m, v) ∷ h) (path ++ 3 ∷ []) more' (subst (λ z. Safe w z env ((m, v) ∷ h) (path ++ 3 ∷ [])) (sym q) next) in
      good_put (May st' end.unwritten env (path ++ 3 ∷ [])) (Target st' end.unwritten env) (May st end.unwritten env path) (Target st end.unwritten env) h _ m v lacks
      (inr (d, i, (stays d rest st' end more' (settles d left st i (gone_d d))).1, b))
      (λ n y. elim y [ inl u ↦ inl (wider_path path (3 ∷ []) n u) | inr t ↦ inr (t.0, (has_without t.0 (d ∷ []) st.unwritten t.1).0, t.2, t.3) ])
      (λ n t. elim (test_or (has t.0 left)) [
        | inl e ↦ inr (t.0, e, t.2, t.3)
        | inr e ↦ inl (named d m t.0 n (only_d d t.0 t.1 e) b t.3)
      ])
      r

  -- a compound statement's own part, which writes some of the destinations that were unwritten
  pub record Part (f : Runs) : Type 0 where
    pub left : List ℕ
    pub within : all_in left st.unwritten ≡ true
    pub settles_to : settled left st ≡ mid
    pub good : Good (May st left env (path ++ 0 ∷ [])) (Target st left env) h f

  rest_from : (f : Runs) (q : Part f) → (f plainly h).end ≡ Done → Safe w (settled q.left st) env (f plainly h).heap (path ++ 1 ∷ [])
  rest_from f q e =
      let may = May st q.left env (path ++ 0 ∷ []) in
      let h' : Heap = (f plainly h).heap in
      let moved : Moved w may (Target st q.left env) h h' = record { closed = q.good.closed; up = held_left q.good; kept = same_left q.good; done = q.good.done e } in
      safe_next w st q.left env h h' path (1 ∷ []) may s q.within moved
      (λ m y. elim y [ inl u ↦ inl (wider_path path (0 ∷ []) m u) | inr t ↦ inr t ])
      (λ m u y _. elim y [ inl z ↦ absurd (turned path 0 1 m (λ b. omega arith) z u) | inr t ↦ (t.0, t.1, t.3) ])

  -- where the part is done, the rest begins as it needs
  pub rest_safe : (f : Runs) (q : Part f) → (f plainly h).end ≡ Done → Safe w mid env (f plainly h).heap (path ++ 1 ∷ [])
  rest_safe f q e = subst (λ z. Safe w z env (f plainly h).heap (path ++ 1 ∷ [])) q.settles_to (rest_from f q e)

  -- the part, and then the rest
  pub compound : (f : Runs) → Part f → Good (May st end.unwritten env path) (Target st end.unwritten env) h (seq_runs f (λ a g. fs a rest env g (path ++ 1 ∷ [])))
  compound f q =
      let left = q.left in
      let may = May st left env (path ++ 0 ∷ []) in
      let st' : Standing = settled left st in
      let more' : series rest st' ≡ Some end = subst (λ z. series rest z ≡ Some end) (sym q.settles_to) more in
      good_seq may (Target st left env) (May st' end.unwritten env (path ++ 1 ∷ [])) (Target st' end.unwritten env) (May st end.unwritten env path) (Target st end.unwritten env) h f (λ a g. fs a rest env g (path ++ 1 ∷ [])) q.good
      (λ e. sound rest st' end env (f plainly h).heap (path ++ 1 ∷ []) more' (rest_from f q e))
      (λ m y. elim y [
        | inl u ↦ inl (wider_path path (0 ∷ []) m u)
        | inr t ↦ inr (t.0, t.1, (stays t.0 rest st' end more' (settles t.0 left st t.1 t.2)).1, t.3)
      ])
      (λ m y. elim y [
        | inl u ↦ inl (wider_path path (1 ∷ []) m u)
        | inr t ↦ inr (t.0, all_in_has t.0 left st.unwritten q.within t.1, t.2, t.3)
      ])
      (λ m t. elim (test_or (has t.0 left)) [
        | inl e ↦ inr (t.0, e, t.2, t.3)
        | inr e ↦ inl (t.0, t.1, e, t.3)
      ])

  -- a body that begins as it needs, at a path
  pub record Begins (body : List Stmt) (ienv : Env Name) (p : Path) : Type 0 where
    pub names : Standing
    pub after : Standing
    pub meets : series body names ≡ Some after
    pub safe : Safe w names ienv h p

  -- what a statement asks for begins as it needs, and so does the rest
  abbrev pub Goes : Action Name → Type 0
  Goes (Bind x v) = (is_new st x ≡ true) × (with_value x st ≡ mid) × Known h v × Safe w mid (bind x v env) h path
  Goes (Make d) = (is_new st d ≡ true) × (with_dest d st ≡ mid) × Safe w mid (bind d (ref (Made path)) env) h (path ++ 3 ∷ [])
  Goes (Put m v) = (held h m ≡ None) × Safe w mid env ((m, v) ∷ h) (path ++ 3 ∷ []) × ((d : ℕ) × (has d st.unwritten ≡ true) × (settled (without (d ∷ []) st.unwritten) st ≡ mid) × (bound d env ≡ Some (ref m)))
  Goes (Body body inner) = Begins body inner (path ++ 0 ∷ []) × Part (λ a g. fs a body inner g (path ++ 0 ∷ []))
  Goes (Block block reads body inner) = AllHeld h reads × Begins body inner (path ++ 0 ∷ 2 ∷ []) × Part (λ a g. under (R block env reads) (fs a body inner g (path ++ 0 ∷ 2 ∷ [])))
  Goes (Sides left right) = Begins left env (path ++ 0 ∷ 0 ∷ []) × Begins right env (path ++ 0 ∷ 1 ∷ []) × Part (pair_runs path (λ a g. fs a left env g (path ++ 0 ∷ 0 ∷ [])) (λ a g. fs a right env g (path ++ 0 ∷ 1 ∷ [])))

  -- a body that leaves these destinations
  pub inner_good : (body : List Stmt) (ist : Standing) (ienv : Env Name) (p : Path) (left : List ℕ) → Leaves (map series_of body) ist left → Safe w ist ienv h p → Good (May ist left ienv p) (Target ist left ienv) h (λ a g. fs a body ienv g p)
  inner_good body ist ienv p left l is =
      subst (λ z. Good (May ist z ienv p) (Target ist z ienv) h (λ a g. fs a body ienv g p)) l.unwritten (sound body ist l.end ienv h p l.meets is)

  pub branch_goes : (body : List Stmt) (left took : List ℕ) → Leaves (map series_of body) st took → all_in left took ≡ true → all_in took left ≡ true → all_in left st.unwritten ≡ true → settled left st ≡ mid → Goes (Body body env)
  branch_goes body left took l one two within q =
      let p = path ++ 0 ∷ [] in
      let is = safe_at w st env h path (0 ∷ []) s in
      let r = inner_good body st env p took l is in (
        record { names = st; after = l.end; meets = l.meets; safe = is },
        record {
          left = left;
          within = within;
          settles_to = q;
          good = good_more (May st took env p) (Target st took env) (May st left env p) (Target st left env) h (λ a g. fs a body env g p) r
              (λ m y. elim y [ inl u ↦ inl u | inr t ↦ inr (t.0, t.1, all_in_not t.0 left took one t.2, t.3) ])
              (λ m t. (t.0, t.1, all_in_not t.0 took left two t.2, t.3));
        },
      )

  under_two : (c : ℕ) (m : Name) → IsUnder (path ++ 0 ∷ c ∷ []) m → IsUnder (path ++ 0 ∷ []) m
  under_two c m u = (c ∷ u.0, u.1 ∙ ap Made (append_assoc path (0 ∷ c ∷ []) u.0 ∙ sym (append_assoc path (0 ∷ []) (c ∷ u.0))))

  pub block_goes : (block : ℕ) (items : List ReadItem) (reads : Reads Name) (body : List Stmt) (inner : Standing) (left : List ℕ) → Matches w h items reads → with_values items st ≡ Some inner → Leaves (map series_of body) inner left → settled left st ≡ mid → Goes (Block block reads body (with_reads env items reads))
  block_goes block items reads body inner left k e l q =
      let env' : Env Name = with_reads env items reads in
      let p = path ++ 0 ∷ 2 ∷ [] in
      let t = safe_reads w items reads st inner env h p (safe_at w st env h path (0 ∷ 2 ∷ []) s) e k in
      let same = with_values_same items st inner e in
      let back : (x : ℕ) → has x inner.unwritten ≡ true → has x st.unwritten ≡ true = λ x i. subst (λ z. has x z ≡ true) same i in
      let on : (x : ℕ) → has x st.unwritten ≡ true → has x inner.unwritten ≡ true = λ x i. subst (λ z. has x z ≡ true) (sym same) i in
      let f : Runs = λ a g. fs a body env' g p in
      let r = good_block (May inner left env' p) (Target inner left env') h f block env reads (matches_held w h items reads k) (inner_good body inner env' p left l t.safe) in (
        matches_held w h items reads k,
        record { names = inner; after = l.end; meets = l.meets; safe = t.safe },
        record {
          left = left;
          within = subst (λ z. all_in left z ≡ true) same l.within;
          settles_to = q;
          good = good_more (May inner left env' p) (Target inner left env') (May st left env (path ++ 0 ∷ [])) (Target st left env) h (λ a g. under (R block env reads) (f a g)) r
              (λ m y. elim y [ inl u ↦ inl (under_two 2 m u) | inr z ↦ inr (z.0, back z.0 z.1, z.2, sym (t.old z.0 (back z.0 z.1)) ∙ z.3) ])
              (λ m z. (z.0, on z.0 z.1, z.2, t.old z.0 z.1 ∙ z.3));
        },
      )

  pub sides_goes : (left right : List Stmt) (one two : List ℕ) → Leaves (map series_of left) st one → Leaves (map series_of right) st two → all_in (without one st.unwritten) two ≡ true → settled (in_both one two) st ≡ mid → Goes (Sides left right)
  sides_goes left right one two l r share q =
      let p = path ++ 0 ∷ 0 ∷ [] in
      let k = path ++ 0 ∷ 1 ∷ [] in
      let rest_of = in_both one two in
      let x = inner_good left st env p one l (safe_at w st env h path (0 ∷ 0 ∷ []) s) in
      let y = inner_good right st env k two r (safe_at w st env h path (0 ∷ 1 ∷ []) s) in
      let split_path : (c : ℕ) (m : Name) → IsUnder (path ++ 0 ∷ c ∷ []) m → IsUnder ((path ++ 0 ∷ []) ++ c ∷ []) m = λ c m u. subst (λ z. IsUnder z m) (sym (append_assoc path (0 ∷ []) (c ∷ []))) u in
      let apart : (m : Name) → May st one env p m → May st two env k m → ⊥ = λ m a b.
      elim a [
        | inl u ↦ elim b [
          | inl v ↦ turned (path ++ 0 ∷ []) 0 1 m (λ e. omega arith) (split_path 0 m u) (split_path 1 m v)
          | inr t ↦ s.away t.0 m t.1 t.3 (wider_path path (0 ∷ 0 ∷ []) m u)
        ]
        | inr t ↦ elim b [
          | inl v ↦ s.away t.0 m t.1 t.3 (wider_path path (0 ∷ 1 ∷ []) m v)
          | inr z ↦
              (let e : t.0 ≡ z.0 = s.apart t.0 z.0 m t.1 z.1 t.3 z.3 in
              not_both (subst (λ n. has n two ≡ true) e (all_in_has t.0 (without one st.unwritten) two share (without_has t.0 one st.unwritten t.1 t.2))) z.2)
        ]
      ] in (
        record { names = st; after = l.end; meets = l.meets; safe = safe_at w st env h path (0 ∷ 0 ∷ []) s },
        record { names = st; after = r.end; meets = r.meets; safe = safe_at w st env h path (0 ∷ 1 ∷ []) s },
        record {
          left = rest_of;
          within = both_in one two st.unwritten l.within;
          settles_to = q;
          good = good_pair (May st one env p) (Target st one env) (May st two env k) (Target st two env) (May st rest_of env (path ++ 0 ∷ [])) (Target st rest_of env) h path (λ a g. fs a left env g p) (λ a g. fs a right env g k) x y apart
              (λ m a. elim a [ inl u ↦ inl (under_two 0 m u) | inr t ↦ inr (t.0, t.1, not_true (has t.0 rest_of) (λ z. not_both (has_both t.0 one two z).0 t.2), t.3) ])
              (λ m a. elim a [ inl u ↦ inl (under_two 1 m u) | inr t ↦ inr (t.0, t.1, not_true (has t.0 rest_of) (λ z. not_both (has_both t.0 one two z).1 t.2), t.3) ])
              (λ m t. elim (test_or (has t.0 one)) [
                | inl e ↦
                    elim (test_or (has t.0 two)) [
                      | inl f ↦ absurd (not_both (both_has t.0 one two e f) t.2)
                      | inr f ↦ inr (t.0, t.1, f, t.3)
                    ]
                | inr e ↦ inl (t.0, t.1, e, t.3)
              ]);
        },
      )

  -- from what a statement asks for to the claims
  pub goes_fine : (act : Action Name) → Goes act → Fine (Ok act)
  goes_fine (Bind x v) g = bind_fine x v g.0 g.1 g.2
  goes_fine (Make d) g = make_fine d g.0 g.1
  goes_fine (Put m v) g = put_fine g.2.0 m v g.2.1 g.2.2 g.2.3 g.0 g.1
  goes_fine (Body body inner) g = compound (λ a k. fs a body inner k (path ++ 0 ∷ [])) g.1
  goes_fine (Block block reads body inner) g = compound (λ a k. under (R block env reads) (fs a body inner k (path ++ 0 ∷ 2 ∷ []))) g.2
  goes_fine (Sides left right) g = compound (pair_runs path (λ a k. fs a left env k (path ++ 0 ∷ 0 ∷ [])) (λ a k. fs a right env k (path ++ 0 ∷ 1 ∷ []))) g.2

  pub result_fine : (r : Result (Action Name) FaultKind) → Where Goes r → Fine r
  result_fine (Ok act) g = goes_fine act g
  result_fine (Err k) g = stopped_fine k
