-- What both sides of a par can raise, and what they raised together.
use Rattle.std.proofs.Common.{◌≡◌, ◌⊎◌, ℕ, ◌<◌, ◌&&◌, ◌==◌, Bool, true, false, not, List, [], ◌∷◌, ◌++◌, map, refl, ap, sym, ◌∙◌, subst, inl, inr, ⊎_elim, arith}
use Rattle.std.specs.Prelude.{filter, cond, ltb}
use Rattle.std.proofs.lemmas.Grind.{common_steps}
use Rattle.psac_ops.specs.declared.plain.Handle.{Handle}
use Rattle.psac_ops.specs.declared.plain.Plain.{Plain}
use Rattle.psac_syntax.specs.declared.program.Stmt.{Stmt}
use Rattle.psac_slots.specs.Handles.{Member}
use Rattle.psac_slots.specs.Claiming.{times}
use Rattle.psac_slots.specs.Divided.{stays, goes}
use Rattle.psac_slots.proofs.Pairs.{member_left, member_right, member_cases, member_filter, filter_member}
use Rattle.psac_values.specs.declared.view.OwnedView.{OwnedView}
use Rattle.psac_values.specs.declared.view.KnownView.{KnownView}
use Rattle.psac_values.specs.declared.view.ValueView.{ValueView}
use Rattle.psac_values.specs.Valued as values_rule
use Rattle.psac_values.specs.Steps as values
use Rattle.psac_values.specs.Knowing.{Has, Knows, United, all_words}
use Rattle.psac_readers.specs.declared.view.LinkView.{LinkView}
use Rattle.psac_readers.specs.declared.view.ReadersView.{ReadersView}
use Rattle.psac_readers.specs.Chained as readers_rule
use Rattle.psac_readers.specs.Chained.{mods_of}
use Rattle.psac_readers.specs.Steps as readers
use Rattle.psac_marks.specs.declared.view.MarksView.{MarksView}
use Rattle.psac_marks.specs.Marked as marks_rule
use Rattle.psac_marks.specs.Marked.{Place}
use Rattle.psac_marks.specs.Steps as marks
use Rattle.psac_marks.specs.Passes.{IsKept, IsBusy, Leads}
use Rattle.psac_fork.specs.declared.tables.Pass.{Pass}
use Rattle.psac_model.specs.Names.{Env}
use Rattle.psac_model.specs.Expression.{Setting}
use Rattle.psac_model.specs.Run.{Sides}
use Rattle.psac_model.specs.Series.{has}
use Rattle.psac_laws.specs.Standing.{in_both, series_of}
use Rattle.psac_laws.proofs.Places.{test_or, not_true, not_both, nat_same}
use Rattle.psac_laws.proofs.Rules.{has_both, leaves}
use Rattle.psac_trace.specs.Rights.{Tidy, Shares, Target, Ready, Kept as Stays}
use Rattle.psac_trace.specs.Divided.{neither, writes_slot, sets_shared}
use Rattle.psac_trace.specs.Fit.{Rooted, both_have}
use Rattle.psac_trace.specs.Raising.{Calm, Raisable, Aged, Warns, Only, Raises}
use Rattle.psac_trace.specs.Running.{WarnsAct}
use Rattle.psac_trace.proofs.Claims.{times_append}
use Rattle.psac_trace.proofs.Sums.{keeps_all}
use Rattle.psac_trace.proofs.Joining.{none_of, mods_filter}
use Rattle.psac_trace.proofs.Fitting.{told_place, left_dropped, right_dropped}
use Rattle.psac_trace.proofs.Forks.{lent, lent_in, told_known, left_has, right_has, left_from, right_from, lent_left, shares_left, left_right, right_shares}
use Rattle.psac_trace.proofs.Moves.{narrow, target_narrow, ready_left, ready_right}
use Rattle.psac_trace.proofs.Leading.{leads_more, lead_up, lead_up_in, busy_on, zero_or, FewerIn}
use Rattle.psac_trace.proofs.Raised.{knows_cases}
use Rattle.psac_trace.proofs.Warning.{open_at}

-- what a filter keeps it keeps as often
times_kept : (f : ℕ → Bool) (x : ℕ) (xs : List ℕ) → f x ≡ true → times x (filter f xs) ≡ times x xs
times_kept f x [] h = refl
times_kept f x (y ∷ ys) h =
    let r = times_kept f x ys h in
    elim (test_or (f y)) [
      | inl t ↦ rw t (let a = times_append x (y ∷ []) (filter f ys) in let b = times_append x (y ∷ []) ys in omega (arith, a, b, r))
      | inr t ↦
          rw t
          (let far : times x (y ∷ []) ≡ 0 = other x y (λ e. not_both h (ap f (sym e) ∙ t)) in
          let b = times_append x (y ∷ []) ys in
          omega (arith, b, r, far))
    ]
  where
    other : (x y : ℕ) → (y ≡ x → ⊥) → times x (y ∷ []) ≡ 0
    other x y d = grind (arith, common_steps)

-- nodes and marks, where both sides have all that is kept
module _ (v : MarksView) (r : Rooted v) where
  abbrev B : ℕ → Bool
  B = both_have v

  abbrev N : ℕ → Bool
  N = λ x. false

  abbrev ML : MarksView
  ML = marks.left_of B N v

  abbrev MR : MarksView
  MR = marks.right_of B N v

  and_no : (b : Bool) → (b && false) ≡ false
  and_no true = refl
  and_no false = refl

  over_none : (x : ℕ) → marks.goes_over B N v x ≡ false
  over_none x = ap (λ t. ltb 0 (times x (map marks_rule.ways.slot v.own)) && t) (and_no (not (B x))) ∙ and_no (ltb 0 (times x (map marks_rule.ways.slot v.own)))

  here_none : (x : ℕ) → IsKept v x → marks.stays_here B N v x ≡ false
  here_none x k =
      let s : B x ≡ true = ap (λ n. n == 0) k ∙ nat_same 0 in
      ap (λ b. ltb 0 (times x (map marks_rule.ways.slot v.own)) && (not b && true)) s ∙ and_no (ltb 0 (times x (map marks_rule.ways.slot v.own)))

  pub left_marked : ML.marked ≡ v.marked
  left_marked = keeps_all (λ y. not (marks.goes_over B N v y)) v.marked (λ y i. ap not (over_none y))

  pub right_marked : MR.marked ≡ []
  right_marked = none_of (marks.goes_over B N v) v.marked over_none

  busy_told : (x : ℕ) → IsBusy v x → 0 < times x (v.busy ++ v.marked)
  busy_told x h =
      let a = times_append x v.busy v.marked in
      ⊎_elim (λ (i : 0 < times x v.marked). omega (arith, a, i)) (λ (i : 0 < times x v.busy). omega (arith, a, i)) h

  busy_left : (x : ℕ) → IsBusy v x → IsBusy ML x
  busy_left x h = inr (subst (λ z. 0 < times x z) (sym (keeps_all (λ y. not (marks.goes_over B N v y)) (v.busy ++ v.marked) (λ y i. ap not (over_none y)))) (busy_told x h))

  busy_right : (x : ℕ) → IsKept v x → IsBusy v x → IsBusy MR x
  busy_right x k h = inr (subst (λ n. 0 < n) (sym (times_kept (λ y. not (marks.stays_here B N v y)) x (v.busy ++ v.marked) (ap not (here_none x k)))) (busy_told x h))

  pub leads_left : (x : ℕ) (path : List Place) → Leads v x path → Leads ML x path
  leads_left =
      leads_more v ML
      (λ e i k. member_right e (map (marks_rule.own_place ML.claims.branch) ML.own) (map marks_rule.shared_place ML.shared) (told_place v r e i k))
      (λ x k. ap (times x) (left_dropped v r) ∙ k)
      (λ x k b. busy_left x b)

  pub leads_right : (x : ℕ) (path : List Place) → Leads v x path → Leads MR x path
  leads_right =
      leads_more v MR
      (λ e i k. member_right e (map (marks_rule.own_place MR.claims.branch) MR.own) (map marks_rule.shared_place MR.shared) (told_place v r e i k))
      (λ x k. ap (times x) (right_dropped v r))
      (λ x k b. busy_right x k b)

pub busy_joined : (l r j : MarksView) → j ≡ marks.joined l r → (x : ℕ) → IsBusy l x ⊎ IsBusy r x → IsBusy j x
busy_joined l r j is x h =
    let a = times_append x l.marked r.marked in
    let b = times_append x l.busy r.busy in
    subst (λ (z : MarksView). IsBusy z x) (sym is)
    (⊎_elim
    (λ (p : IsBusy l x). ⊎_elim (λ (i : 0 < times x l.marked). inl (omega (arith, a, i))) (λ (i : 0 < times x l.busy). inr (omega (arith, b, i))) p)
    (λ (p : IsBusy r x). ⊎_elim (λ (i : 0 < times x r.marked). inl (omega (arith, a, i))) (λ (i : 0 < times x r.busy). inr (omega (arith, b, i))) p)
    h)

-- links and sets
module _ (shared to_right : ℕ → Bool) (r : ReadersView) where
  abbrev N0 : ℕ → Bool
  N0 = λ x. false

  abbrev RL : ReadersView
  RL = readers.left_of shared to_right N0 r

  abbrev RR : ReadersView
  RR = readers.right_of shared to_right N0 r

  pub fewer_left : (s : ℕ) → FewerIn r RL s
  fewer_left s k i o e = (k, (member_filter (λ x. not (readers.right_link shared to_right N0 x)) k r.links i).0, o, e, refl)

  pub fewer_right : (s : ℕ) → FewerIn r RR s
  fewer_right s k i o e = (k, (member_filter (readers.right_link shared to_right N0) k r.links i).0, o, e, refl)

  stays_left : (s : ℕ) (k : LinkView) → k.of ≡ s → to_right s ≡ false → readers.right_link shared to_right N0 k ≡ false
  stays_left s k o t =
      elim (test_or (shared k.of)) [
        | inl a ↦ ap (λ b. cond b false (to_right k.of)) a
        | inr a ↦ ap (λ b. cond b false (to_right k.of)) a ∙ ap to_right o ∙ t
      ]

  pub all_left : (s : ℕ) → to_right s ≡ false → FewerIn RL r s
  all_left s t k i o e = (k, filter_member (λ x. not (readers.right_link shared to_right N0 x)) k r.links i (ap not (stays_left s k o t)), o, e, refl)

  pub all_right : (s : ℕ) → shared s ≡ false → to_right s ≡ true → FewerIn RR r s
  all_right s a t k i o e =
      (k, filter_member (readers.right_link shared to_right N0) k r.links i (ap (λ b. cond b false (to_right k.of)) (ap shared o ∙ a) ∙ ap to_right o ∙ t), o, e, refl)

  pub walk_left : (s : ℕ) → shared s ≡ false → to_right s ≡ false → Member s (mods_of r.walk) → Member s (mods_of RL.walk)
  walk_left s a t i = subst (Member s) (sym (mods_filter (stays readers_rule.ways shared to_right) r.walk)) (filter_member (stays readers_rule.ways shared to_right) s (mods_of r.walk) i (rw (a, t) refl))

  pub walk_right : (s : ℕ) → shared s ≡ false → to_right s ≡ true → Member s (mods_of r.walk) → Member s (mods_of RR.walk)
  walk_right s a t i = subst (Member s) (sym (mods_filter (goes readers_rule.ways shared to_right) r.walk)) (filter_member (goes readers_rule.ways shared to_right) s (mods_of r.walk) i (rw (a, t) refl))

-- words
module _ (shared to_right : ℕ → Bool) (v : ValueView) where
  abbrev VL : ValueView
  VL = values.left_of shared to_right v

  abbrev VR : ValueView
  VR = values.right_of shared to_right v

  -- what is known a side knows
  pub knows_either : (m : Handle) (us : List ℕ) → Knows v m us → Knows VL m us ⊎ Knows VR m us
  knows_either m us k =
      ⊎_elim
      (λ (a : (w : OwnedView) × Member w v.mine × (w.of ≡ m) × (w.words ≡ all_words us)).
      elim (test_or (shared a.0.of.slot)) [
        | inl s ↦ inl (inr (lent v.claims.branch a.0, lent_in shared to_right v a.0 a.1 s, a.2, a.3))
        | inr s ↦
            elim (test_or (to_right a.0.of.slot)) [
              | inl t ↦ inr (inl (a.0, filter_member (goes values_rule.ways shared to_right) a.0 v.mine a.1 (rw (s, t) refl), a.2, a.3))
              | inr t ↦ inl (inl (a.0, filter_member (stays values_rule.ways shared to_right) a.0 v.mine a.1 (rw (s, t) refl), a.2, a.3))
            ]
      ])
      (λ (a : (e : KnownView) × Member e v.known × (e.of ≡ m) × (e.words ≡ all_words us)). inl (inr (a.0, told_known shared to_right v a.0 a.1, a.2, a.3)))
      k

  pub knows_left : (m : Handle) (us : List ℕ) → shared m.slot ≡ false → to_right m.slot ≡ false → Knows v m us → Knows VL m us
  knows_left m us s t k =
      ⊎_elim
      (λ (a : (w : OwnedView) × Member w v.mine × (w.of ≡ m) × (w.words ≡ all_words us)).
      let e : a.0.of.slot ≡ m.slot = ap (λ (z : Handle). z.slot) a.2 in
      let s' : shared a.0.of.slot ≡ false = ap shared e ∙ s in
      let t' : to_right a.0.of.slot ≡ false = ap to_right e ∙ t in
      inl (a.0, filter_member (stays values_rule.ways shared to_right) a.0 v.mine a.1 (rw (s', t') refl), a.2, a.3))
      (λ (a : (e : KnownView) × Member e v.known × (e.of ≡ m) × (e.words ≡ all_words us)). inr (a.0, told_known shared to_right v a.0 a.1, a.2, a.3))
      k

  pub knows_right : (m : Handle) (us : List ℕ) → shared m.slot ≡ false → to_right m.slot ≡ true → Knows v m us → Knows VR m us
  knows_right m us s t k =
      ⊎_elim
      (λ (a : (w : OwnedView) × Member w v.mine × (w.of ≡ m) × (w.words ≡ all_words us)).
      let e : a.0.of.slot ≡ m.slot = ap (λ (z : Handle). z.slot) a.2 in
      let s' : shared a.0.of.slot ≡ false = ap shared e ∙ s in
      let t' : to_right a.0.of.slot ≡ true = ap to_right e ∙ t in
      inl (a.0, filter_member (goes values_rule.ways shared to_right) a.0 v.mine a.1 (rw (s', t') refl), a.2, a.3))
      (λ (a : (e : KnownView) × Member e v.known × (e.of ≡ m) × (e.words ≡ all_words us)). inr (a.0, told_known shared to_right v a.0 a.1, a.2, a.3))
      k

  -- what a side has at its end it had alone
  module _ (t : Tidy v) (l r j : ValueView) (kl : Stays VL l) (kr : Stays VR r) (is : j ≡ values.joined l r) (un : United l r j) where
    pub slot_left : (m : Handle) (us : List ℕ) → Knows v m us → Has l m → (shared m.slot ≡ false) × (to_right m.slot ≡ false)
    slot_left m us k h =
        knows_cases v m us
        (λ (a : Has v m).
        elim (test_or (shared m.slot)) [
          | inl s ↦ absurd (kl.tidy.apart m m h (lent_left shared to_right v t l r j kl kr is un m a s) refl)
          | inr s ↦
              elim (test_or (to_right m.slot)) [
                | inl z ↦ absurd (left_right shared to_right v t l r j kl kr is un m m h (kr.mine m (right_has shared to_right v m a s z)) refl)
                | inr z ↦ (s, z)
              ]
        ])
        (λ (a : Shares v m). absurd (kl.tidy.apart m m h (shares_left shared to_right v t l r j kl kr is un m a) refl))
        k

    pub slot_right : (m : Handle) (us : List ℕ) → Knows v m us → Has r m → (shared m.slot ≡ false) × (to_right m.slot ≡ true)
    slot_right m us k h =
        knows_cases v m us
        (λ (a : Has v m).
        elim (test_or (shared m.slot)) [
          | inl s ↦ absurd (right_shares shared to_right v t l r j kl kr is un m m h (lent_left shared to_right v t l r j kl kr is un m a s) refl)
          | inr s ↦
              elim (test_or (to_right m.slot)) [
                | inl z ↦ (s, z)
                | inr z ↦ absurd (left_right shared to_right v t l r j kl kr is un m m (kl.mine m (left_has shared to_right v m a s z)) h refl)
              ]
        ])
        (λ (a : Shares v m). absurd (right_shares shared to_right v t l r j kl kr is un m m h (shares_left shared to_right v t l r j kl kr is un m a) refl))
        k

-- a pass, divided for both sides of a par
module _ (w : Setting Handle) (olds : List Handle) (p l k : Pass) (ls rs rest : List Stmt) (env : Env Handle) (nodes : Rooted p.marks.knows) (tidy : Tidy p.values.knows) (aged : Aged olds p.values.knows)
    (lv : l.values.knows ≡ values.left_of (neither ls rs env) (writes_slot rs env) p.values.knows)
    (kv : k.values.knows ≡ values.right_of (neither ls rs env) (writes_slot rs env) p.values.knows)
    (lr : l.readers.knows ≡ readers.left_of (sets_shared ls rs env p.values.knows) (writes_slot rs env) (λ x. false) p.readers.knows)
    (kr : k.readers.knows ≡ readers.right_of (sets_shared ls rs env p.values.knows) (writes_slot rs env) (λ x. false) p.readers.knows)
    (lm : l.marks.knows ≡ marks.left_of (both_have p.marks.knows) (λ x. false) p.marks.knows)
    (km : k.marks.knows ≡ marks.right_of (both_have p.marks.knows) (λ x. false) p.marks.knows) where
  abbrev S : ℕ → Bool
  S = neither ls rs env

  abbrev T : ℕ → Bool
  T = writes_slot rs env

  abbrev D : ℕ → Bool
  D = sets_shared ls rs env p.values.knows

  not_shared : (m : Handle) → Member m olds → S m.slot ≡ false → D m.slot ≡ false
  not_shared m o s = let a = aged m o in rw (s, a) refl

  path_left : (x : ℕ) (path : List Place) → Leads p.marks.knows x path → Leads l.marks.knows x path
  path_left x path h = subst (λ z. Leads z x path) (sym lm) (leads_left p.marks.knows nodes x path h)

  path_right : (x : ℕ) (path : List Place) → Leads p.marks.knows x path → Leads k.marks.knows x path
  path_right x path h = subst (λ z. Leads z x path) (sym km) (leads_right p.marks.knows nodes x path h)

  some_left : (s : ℕ) → FewerIn p.readers.knows l.readers.knows s
  some_left s = subst (λ z. FewerIn p.readers.knows z s) (sym lr) (fewer_left D T p.readers.knows s)

  some_right : (s : ℕ) → FewerIn p.readers.knows k.readers.knows s
  some_right s = subst (λ z. FewerIn p.readers.knows z s) (sym kr) (fewer_right D T p.readers.knows s)

  raisable_left : (m : Handle) → Member m olds → S m.slot ≡ false → T m.slot ≡ false → Raisable p m → Raisable l m
  raisable_left m o s z r =
      record {
        inside = subst (λ (y : ReadersView). m.slot < y.mods) (sym lr) r.inside;
        walk = subst (λ (y : ReadersView). Member m.slot (mods_of y.walk)) (sym lr) (walk_left D T p.readers.knows m.slot (not_shared m o s) z r.walk);
        leads = lead_up p.readers.knows l.readers.knows p.marks.knows l.marks.knows m.slot (some_left m.slot) path_left r.leads;
        words = (r.words.0, subst (λ y. Knows y m r.words.0) (sym lv) (knows_left S T p.values.knows m r.words.0 s z r.words.1));
      }

  raisable_right : (m : Handle) → Member m olds → S m.slot ≡ false → T m.slot ≡ true → Raisable p m → Raisable k m
  raisable_right m o s z r =
      record {
        inside = subst (λ (y : ReadersView). m.slot < y.mods) (sym kr) r.inside;
        walk = subst (λ (y : ReadersView). Member m.slot (mods_of y.walk)) (sym kr) (walk_right D T p.readers.knows m.slot (not_shared m o s) z r.walk);
        leads = lead_up p.readers.knows k.readers.knows p.marks.knows k.marks.knows m.slot (some_right m.slot) path_right r.leads;
        words = (r.words.0, subst (λ y. Knows y m r.words.0) (sym kv) (knows_right S T p.values.knows m r.words.0 s z r.words.1));
      }

  pub warns_left : WarnsAct w olds (Sides ls rs) rest env p → Warns w olds ls env l
  warns_left n =
      let g = n.goes in
      let e = leaves (map series_of ls) n.st g.one g.first in
      let near = narrow rest n.st n.mid n.end (in_both g.one g.two) g.settles n.meets in
      let r = ready_left w n.st n.mid n.end.unwritten env p.values.knows n.base ls rs g tidy n.ready near in
      record {
        aged = subst (Aged olds) (sym lv) n.aged;
        base = n.base;
        st = n.st;
        end = e.end;
        meets = e.meets;
        ready = subst (λ y. Ready w n.st e.end.unwritten env y n.base) (sym lv) (subst (λ y. Ready w n.st y env (values.left_of S T p.values.knows) n.base) (sym e.unwritten) r);
        may = λ m o z.
            let b = subst (λ y. Target n.st y env m) e.unwritten z in
            let here = left_from S T p.values.knows m (open_at w n.st g.one env (values.left_of S T p.values.knows) n.base m r b).1 in
            raisable_left m o here.1 here.2 (n.may m o (target_narrow n.st (in_both g.one g.two) n.end.unwritten env m near (b.0, b.1, not_true (has b.0 (in_both g.one g.two)) (λ j. not_both (has_both b.0 g.one g.two j).0 b.2), b.3)));
      }

  pub warns_right : WarnsAct w olds (Sides ls rs) rest env p → Warns w olds rs env k
  warns_right n =
      let g = n.goes in
      let e = leaves (map series_of rs) n.st g.two g.second in
      let near = narrow rest n.st n.mid n.end (in_both g.one g.two) g.settles n.meets in
      let r = ready_right w n.st n.mid n.end.unwritten env p.values.knows n.base ls rs g tidy n.ready near in
      record {
        aged = subst (Aged olds) (sym kv) n.aged;
        base = n.base;
        st = n.st;
        end = e.end;
        meets = e.meets;
        ready = subst (λ y. Ready w n.st e.end.unwritten env y n.base) (sym kv) (subst (λ y. Ready w n.st y env (values.right_of S T p.values.knows) n.base) (sym e.unwritten) r);
        may = λ m o z.
            let b = subst (λ y. Target n.st y env m) e.unwritten z in
            let here = right_from S T p.values.knows m (open_at w n.st g.two env (values.right_of S T p.values.knows) n.base m r b).1 in
            raisable_right m o here.1 here.2 (n.may m o (target_narrow n.st (in_both g.one g.two) n.end.unwritten env m near (b.0, b.1, not_true (has b.0 (in_both g.one g.two)) (λ j. not_both (has_both b.0 g.one g.two j).1 b.2), b.3)));
      }

  pub calm_joined : (l' k' j : Pass) → j.marks.knows ≡ marks.joined l'.marks.knows k'.marks.knows → Calm olds l l' → Calm olds k k' → Calm olds p j
  calm_joined l' k' j jm a b none y =
      let c = ap (λ (z : MarksView). times y z.marked) jm in
      let d = times_append y l'.marks.knows.marked k'.marks.knows.marked in
      let e = ap (λ (z : MarksView). times y z.marked) lm ∙ ap (times y) (left_marked p.marks.knows nodes) in
      let f : times y k.marks.knows.marked ≡ 0 = ap (λ (z : MarksView). times y z.marked) km ∙ ap (times y) (right_marked p.marks.knows nodes) in
      let g = a none y in
      let h = b none y in
      omega (arith, c, d, e, f, g, h)

  -- and joined, after each side has run
  module _ (l' k' j : Pass) (kl : Stays l.values.knows l'.values.knows) (kk : Stays k.values.knows k'.values.knows)
      (jv : j.values.knows ≡ values.joined l'.values.knows k'.values.knows) (un : United l'.values.knows k'.values.knows j.values.knows) (jm : j.marks.knows ≡ marks.joined l'.marks.knows k'.marks.knows)
      (a b : List (Handle × Plain)) where
    sl : Stays (values.left_of S T p.values.knows) l'.values.knows
    sl = subst (λ z. Stays z l'.values.knows) lv kl

    sk : Stays (values.right_of S T p.values.knows) k'.values.knows
    sk = subst (λ z. Stays z k'.values.knows) kv kk

    at_left : (m : Handle) (us : List ℕ) → Knows p.values.knows m us → Has l'.values.knows m → (S m.slot ≡ false) × (T m.slot ≡ false)
    at_left = slot_left S T p.values.knows tidy l'.values.knows k'.values.knows j.values.knows sl sk jv un

    at_right : (m : Handle) (us : List ℕ) → Knows p.values.knows m us → Has k'.values.knows m → (S m.slot ≡ false) × (T m.slot ≡ true)
    at_right = slot_right S T p.values.knows tidy l'.values.knows k'.values.knows j.values.knows sl sk jv un

    known_left : (m : Handle) (us : List ℕ) → Knows p.values.knows m us → Has l'.values.knows m → Knows l.values.knows m us
    known_left m us kn h = let s = at_left m us kn h in subst (λ z. Knows z m us) (sym lv) (knows_left S T p.values.knows m us s.0 s.1 kn)

    known_right : (m : Handle) (us : List ℕ) → Knows p.values.knows m us → Has k'.values.knows m → Knows k.values.knows m us
    known_right m us kn h = let s = at_right m us kn h in subst (λ z. Knows z m us) (sym kv) (knows_right S T p.values.knows m us s.0 s.1 kn)

    pub only_joined : ((m : Handle) (x : Plain) → Member (m, x) a → Has l'.values.knows m) → ((m : Handle) (x : Plain) → Member (m, x) b → Has k'.values.knows m) → Only olds l l' a → Only olds k k' b → Only olds p j (a ++ b)
    only_joined ha hb oa ob ns h y less =
        let c = ap (λ (z : MarksView). times y z.marked) jm in
        let d = times_append y l'.marks.knows.marked k'.marks.knows.marked in
        let e = ap (λ (z : MarksView). times y z.marked) lm ∙ ap (times y) (left_marked p.marks.knows nodes) in
        let f : times y k.marks.knows.marked ≡ 0 = ap (λ (z : MarksView). times y z.marked) km ∙ ap (times y) (right_marked p.marks.knows nodes) in
        let one = oa ns (λ m x o i n.
        lead_up_in p.readers.knows l.readers.knows p.marks.knows l.marks.knows m.slot (some_left m.slot) path_left ns
        (h m x o (member_left (m, x) a b i) (λ s. n (s.0, s.1, known_left m s.0 s.2 (ha m x i), s.3, s.4)))) y in
        let two = ob ns (λ m x o i n.
        lead_up_in p.readers.knows k.readers.knows p.marks.knows k.marks.knows m.slot (some_right m.slot) path_right ns
        (h m x o (member_right (m, x) a b i) (λ s. n (s.0, s.1, known_right m s.0 s.2 (hb m x i), s.3, s.4)))) y in
        elim (zero_or (times y k'.marks.knows.marked)) [
          | inl z ↦ one (omega (arith, c, d, e, z, less))
          | inr z ↦ two (omega (arith, f, z))
        ]

    pub raises_joined : Raises olds l l' a → Raises olds k k' b → Raises olds p j (a ++ b)
    raises_joined ra rb =
        record {
          warned = λ m x us o i kn d.
              elim (member_cases (m, x) a b i) [
                | inl y ↦
                    (let s = at_left m us kn (ra.owned m x y) in
                    let all = subst (λ z. FewerIn z p.readers.knows m.slot) (sym lr) (all_left D T p.readers.knows m.slot s.1) in
                    busy_on p.readers.knows l.readers.knows l'.marks.knows j.marks.knows m.slot all (λ n z. busy_joined l'.marks.knows k'.marks.knows j.marks.knows jm n (inl z)) (ra.warned m x us o y (known_left m us kn (ra.owned m x y)) d))
                | inr y ↦
                    (let s = at_right m us kn (rb.owned m x y) in
                    let all = subst (λ z. FewerIn z p.readers.knows m.slot) (sym kr) (all_right D T p.readers.knows m.slot (not_shared m o s.0) s.1) in
                    busy_on p.readers.knows k.readers.knows k'.marks.knows j.marks.knows m.slot all (λ n z. busy_joined l'.marks.knows k'.marks.knows j.marks.knows jm n (inr z)) (rb.warned m x us o y (known_right m us kn (rb.owned m x y)) d))
              ];
          only = only_joined ra.owned rb.owned ra.only rb.only;
          stays = λ m us kn n.
              elim (knows_either S T p.values.knows m us kn) [
                | inl y ↦ un.knows m us (inl (ra.stays m us (subst (λ z. Knows z m us) (sym lv) y) (λ x i. n x (member_left (m, x) a b i))))
                | inr y ↦ un.knows m us (inr (rb.stays m us (subst (λ z. Knows z m us) (sym kv) y) (λ x i. n x (member_right (m, x) a b i))))
              ];
          owned = λ m x i.
              elim (member_cases (m, x) a b i) [
                | inl y ↦ un.has m (inl (ra.owned m x y))
                | inr y ↦ un.has m (inr (rb.owned m x y))
              ];
          told = λ m x i.
              elim (member_cases (m, x) a b i) [
                | inl y ↦ (let s = ra.told m x y in (s.0, s.1, un.knows m s.0 (inl s.2), s.3, s.4))
                | inr y ↦ (let s = rb.told m x y in (s.0, s.1, un.knows m s.0 (inr s.2), s.3, s.4))
              ];
        }
