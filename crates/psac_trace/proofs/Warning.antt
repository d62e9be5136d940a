-- Where the readers of the old destinations that are still to be written can be raised.
use Rattle.std.proofs.Common.{◌≡◌, ◌≢◌, ℕ, ◌+◌, ◌<◌, ◌==◌, ◌||◌, true, List, [], ◌∷◌, Some, None, Ok, refl, ap, sym, ◌∙◌, subst, inl, inr, ⊎_elim, arith}
use Rattle.std.specs.Prelude.{cond}
use Rattle.psac_ops.specs.declared.plain.Handle.{Handle}
use Rattle.psac_ops.specs.Value.{Value, ref}
use Rattle.psac_ops.specs.Named.{same_handle}
use Rattle.psac_syntax.specs.declared.program.Stmt.{Stmt, out-Stmt}
use Rattle.psac_syntax.specs.declared.program.Func.{Func}
use Rattle.psac_syntax.specs.declared.program.ReadItem.{ReadItem}
use Rattle.psac_slots.specs.Handles.{Member}
use Rattle.psac_values.specs.declared.view.ValueView.{ValueView}
use Rattle.psac_values.specs.Steps.{Lacks}
use Rattle.psac_values.specs.Knowing.{Has, Knows, Claims}
use Rattle.psac_readers.specs.declared.view.ReadersView.{ReadersView}
use Rattle.psac_readers.specs.Chained.{mods_of}
use Rattle.psac_fork.specs.declared.tables.Pass.{Pass}
use Rattle.psac_fork.specs.declared.tables.Tables.{Tables}
use Rattle.psac_model.specs.declared.ends.CapKind.TheVariants as cap
use Rattle.psac_model.specs.Names.{Env, bind}
use Rattle.psac_model.specs.Tree.{Reads}
use Rattle.psac_model.specs.Expression.{Setting}
use Rattle.psac_model.specs.Run.{Action, Bind, Make, Put, Body, Block, Sides, action_of}
use Rattle.psac_model.specs.Series.{has, all_in}
use Rattle.psac_laws.specs.Standing.{Standing, settled, series}
use Rattle.psac_laws.proofs.Places.{nat_is, nat_same, test_or, not_both}
use Rattle.psac_laws.proofs.Rules.{all_in_has, new_is, other}
use Rattle.psac_traced.specs.Traced.{listed}
use Rattle.psac_traced.specs.Holds.{EachOf}
use Rattle.psac_traced.proofs.Asked.{asked_read}
use Rattle.psac_record.specs.Kept.{Stands}
use Rattle.psac_trace.specs.Rights.{Heap, held, In, Target, Tidy, Ready}
use Rattle.psac_trace.specs.Fit.{is_spare}
use Rattle.psac_trace.specs.Told.{Needs}
use Rattle.psac_trace.specs.Grown.{Made, MoreLinks, Moves}
use Rattle.psac_trace.specs.Raising.{Raisable, Aged, Warns}
use Rattle.psac_trace.specs.Running.{Enters, Saw, WarnsAct}
use Rattle.psac_trace.proofs.Results.{ref_is}
use Rattle.psac_trace.proofs.Bound.{bound_old, bound_new}
use Rattle.psac_trace.proofs.Heaps.{in_and_none}
use Rattle.psac_trace.proofs.Moves.{narrow, target_narrow, ready_bind, ready_make, Matches}
use Rattle.psac_trace.proofs.Goes.{reads_match}
use Rattle.psac_trace.proofs.Leading.{leads_on, link_from, lead_up, member_sum, sum_member}
use Rattle.psac_trace.proofs.Raised.{slots_apart}

-- a set that the pass has it has on
one_at : (s x : ℕ) → 0 < cond (x == s) 1 0 → x ≡ s
one_at s x h =
    elim (test_or (x == s)) [
      | inl e ↦ nat_is x s e
      | inr e ↦ absurd (let z : 0 < 0 = rw e at h in omega (arith, z))
    ]

pub walk_on : (v u : ReadersView) (made : List Stands) → MoreLinks v u made → (s : ℕ) → Member s (mods_of v.walk) → Member s (mods_of u.walk)
walk_on v u made m s i =
    let g : ℕ → ℕ = λ x. cond (x == s) 1 0 in
    let one : g s ≡ 1 = ap {B = ℕ} (λ b. cond b 1 0) (nat_same s) in
    let here = member_sum g s (mods_of v.walk) i (omega (arith, one)) in
    let sum = m.walk g in
    let b = sum_member g (mods_of u.walk) (omega (arith, here, sum)) in
    subst (λ z. Member z (mods_of u.walk)) (one_at s b.0 b.2) b.1

pub raisable_on : (t : Tables) (p u : Pass) (a : Made) → Moves t p u a → (m : Handle) → ((s : Stands) → Member s a.links → s.of.slot ≢ m.slot) → ((us : List ℕ) → Knows p.values.knows m us → Knows u.values.knows m us) → Raisable p m → Raisable u m
raisable_on t p u a mv m unread words r =
    record {
      inside = subst (λ n. m.slot < n) (sym mv.links.mods) r.inside;
      walk = walk_on p.readers.knows u.readers.knows a.links mv.links m.slot r.walk;
      leads = lead_up p.readers.knows u.readers.knows p.marks.knows u.marks.knows m.slot
          (λ k j s e.
          elim (link_from p.readers.knows u.readers.knows a.links mv.links m.slot k j s e) [
            | inl old ↦ old
            | inr new ↦ absurd (unread new.0 new.1 new.2)
          ])
          (leads_on p.marks.knows u.marks.knows a.nodes mv.nodes mv.marks) r.leads;
      words = (r.words.0, words r.words.0 r.words.1);
    }

pub aged_on : (olds : List Handle) (t : Tables) (p u : Pass) (a : Made) → Moves t p u a → Aged olds p.values.knows → Aged olds u.values.knows
aged_on olds t p u a mv h m i =
    let list : u.values.knows.claims.list ≡ p.values.knows.claims.list = (mv.claims cap.Mods).list in
    ap (λ f. is_spare f u.values.knows.claims.list m.slot) mv.stays.fixed ∙ ap (λ l. is_spare p.values.knows.fixed l m.slot) list ∙ h m i

spare_in : (fixed : ℕ) (hs : List Handle) (h : Handle) → Member h hs → is_spare fixed hs (fixed + h.slot) ≡ true
spare_in fixed [] h i = absurd i
spare_in fixed (x ∷ hs) h i =
    ⊎_elim
    (λ (e : x ≡ h). let s : ((fixed + x.slot) == (fixed + h.slot)) ≡ true = ap (λ (z : Handle). (fixed + z.slot) == (fixed + h.slot)) e ∙ nat_same (fixed + h.slot) in rw s refl)
    (λ (j : Member h hs).
    elim (test_or ((fixed + x.slot) == (fixed + h.slot))) [
      | inl s ↦ rw s refl
      | inr s ↦ rw s (spare_in fixed hs h j)
    ])
    i

-- a destination that is open behind a part was open before it
pub target_back : (st mid : Standing) (inner left : List ℕ) (env : Env Handle) (m : Handle) → settled inner st ≡ mid → all_in inner st.unwritten ≡ true → Target mid left env m → Target st left env m
target_back st mid inner left env m q within t =
    let b = subst (λ z. Target z left env m) (sym q) t in
    (b.0, all_in_has b.0 inner st.unwritten within b.1, b.2, b.3)

-- the base lacks an open destination, and the pass has it
pub open_at : (w : Setting Handle) (st : Standing) (left : List ℕ) (env : Env Handle) (v : ValueView) (base : Heap) (m : Handle) → Ready w st left env v base → Target st left env m → (held base m ≡ None) × Has v m
open_at w st left env v base m r t =
    let b = r.opens t.0 t.1 t.2 in
    let e : b.0 ≡ m = ref_is (sym b.1 ∙ t.3) in
    (subst (λ z. held base z ≡ None) e b.2, subst (Has v) e b.3)

module _ (w : Setting Handle) (olds : List Handle) (t : Tables) (rest : List Stmt) (env : Env Handle) (p : Pass) where
  pub warns_bind : (x : ℕ) (y : Value Handle) → WarnsAct w olds (Bind x y) rest env p → Warns w olds rest (bind x y env) p
  warns_bind x y n =
      let g = n.goes in
      let r = ready_bind w n.st n.end.unwritten env p.values.knows n.base x y n.ready g.0 g.2 in
      record {
        aged = n.aged;
        base = n.base;
        st = n.mid;
        end = n.end;
        meets = n.meets;
        ready = subst (λ z. Ready w z n.end.unwritten (bind x y env) p.values.knows n.base) g.1 r;
        may = λ m o z.
            let b = subst (λ s. Target s n.end.unwritten (bind x y env) m) (sym g.1) z in
            n.may m o (b.0, b.1, b.2, sym (bound_old x b.0 y env (other x b.0 n.st.unwritten (new_is n.st x g.0).1 b.1)) ∙ b.3);
      }

  pub warns_make : (d : ℕ) (m : Handle) (u : Pass) (a : Made) (c : Claims p.values.knows m u.values.knows) (l : Lacks p.values.knows m.slot) → Member c.1 p.values.knows.claims.list → p.values.knows.fixed + c.1.slot ≡ m.slot → Moves t p u a → a.links ≡ [] → ((n : Handle) (us : List ℕ) → Knows p.values.knows n us → Knows u.values.knows n us)
      → WarnsAct w olds (Make d) rest env p → Warns w olds rest (bind d (ref m) env) u
  warns_make d m u a c l listed slot mv none words n =
      let g = n.goes in
      let r = ready_make w n.st n.end.unwritten env p.values.knows u.values.knows n.base d m c l n.ready g.0 in
      record {
        aged = aged_on olds t p u a mv n.aged;
        base = n.base;
        st = n.mid;
        end = n.end;
        meets = n.meets;
        ready = subst (λ z. Ready w z n.end.unwritten (bind d (ref m) env) u.values.knows n.base) g.1 r;
        may = λ k o z.
            let b = subst (λ s. Target s n.end.unwritten (bind d (ref m) env) k) (sym g.1) z in
            elim (test_or (d == b.0)) [
              | inl e ↦
                  (let same : m ≡ k = ref_is (sym (bound_new d b.0 (ref m) env e) ∙ b.3) in
                  let spare : is_spare p.values.knows.fixed p.values.knows.claims.list k.slot ≡ true = ap (is_spare p.values.knows.fixed p.values.knows.claims.list) (ap (λ (y : Handle). y.slot) (sym same) ∙ sym slot) ∙ spare_in p.values.knows.fixed p.values.knows.claims.list c.1 listed in
                  absurd (not_both spare (n.aged k o)))
              | inr e ↦
                  (let old : has b.0 n.st.unwritten ≡ true = subst (λ y. (y || has b.0 n.st.unwritten) ≡ true) e b.1 in
                  raisable_on t p u a mv k (λ s i. absurd (subst (Member s) none i)) (λ us y. words k us y) (n.may k o (b.0, old, b.2, sym (bound_old d b.0 (ref m) env e) ∙ b.3)))
            ];
      }

  -- an inner body
  pub warns_inner : (u : Pass) (a : Made) (body : List Stmt) (inner : Env Handle) (base : Heap) (st mid end : Standing) → series rest mid ≡ Some end → (g : Enters w st mid env p.values.knows base body inner) → Tidy p.values.knows → Moves t p u a → u.values.knows ≡ p.values.knows → ((s : Stands) → Member s a.links → In base s.of) → Aged olds p.values.knows
      → ((m : Handle) → Member m olds → Target st end.unwritten env m → Raisable p m) → Warns w olds body inner u
  warns_inner u a body inner base st mid end more g tidy mv same linked aged may =
      record {
        aged = aged_on olds t p u a mv aged;
        base = base;
        st = g.names;
        end = g.end;
        meets = g.meets;
        ready = subst (λ v. Ready w g.names g.end.unwritten inner v base) (sym same) g.ready;
        may = λ m o z.
            let here = open_at w g.names g.end.unwritten inner p.values.knows base m g.ready z in
            raisable_on t p u a mv m
            (λ s i. let b = linked s i in slots_apart p.values.knows tidy s.of m b.0 (g.ready.sees s.of b.0 b.1) here.1 (λ e. in_and_none base m (subst (In base) e b) here.0))
            (λ us k. subst (λ v. Knows v m us) (sym same) k)
            (may m o (target_narrow st g.left end.unwritten env m (narrow rest st mid end g.left g.settles more) (g.out m z)));
      }

-- what a block read its heap has
matches_saw : (w : Setting Handle) (base : Heap) (items : List ReadItem) (rs : Reads Handle) → Matches w base items rs → EachOf (λ m x. held base m ≡ Some x) rs
matches_saw w base [] [] k = tt
matches_saw w base [] (x ∷ rs) k = absurd k
matches_saw w base (item ∷ items) [] k = absurd k
matches_saw w base (item ∷ items) (x ∷ rs) k = (k.0, matches_saw w base items rs k.1)

pub saw_at : (w : Setting Handle) (funcs : List Func) (env : Env Handle) (base : Heap) (s : Stmt) (a : Action Handle) → w.same ≡ same_handle → action_of (listed w) w funcs env base (out-Stmt s) ≡ Ok a → Saw base a
saw_at w funcs env base s (Bind x v) same h = tt
saw_at w funcs env base s (Make d) same h = tt
saw_at w funcs env base s (Put m v) same h = tt
saw_at w funcs env base s (Body body inner) same h = tt
saw_at w funcs env base s (Sides ls rs) same h = tt
saw_at w funcs env base s (Block block reads body inner) same h =
    let b = asked_read w funcs env base (out-Stmt s) block reads body inner h in
    matches_saw w base b.0 reads (reads_match w env same base b.0 reads b.1)

-- with no old destinations
pub warns_of_none : (w : Setting Handle) (body : List Stmt) (env : Env Handle) (p : Pass) → Needs w body env p.values.knows → Warns w [] body env p
warns_of_none w body env p n = record { aged = λ m i. absurd i; base = n.0; st = n.1; end = n.2; meets = n.3; ready = n.4; may = λ m i. absurd i }
