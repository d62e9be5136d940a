-- What a pass has where a block runs again, once its record was taken off.
use Rattle.std.proofs.Common.{◌≡◌, ◌≢◌, ℕ, false, List, [], ◌∷◌, Option, refl, ap, sym, subst, inl, inr, ⊎_elim, arith}
use Rattle.psac_ops.specs.declared.plain.Handle.{Handle}
use Rattle.psac_ops.specs.declared.plain.Plain.{Plain}
use Rattle.psac_ops.specs.Named.{value_of}
use Rattle.psac_syntax.specs.declared.program.Stmt.{Stmt}
use Rattle.psac_slots.specs.Handles.{Member}
use Rattle.psac_slots.proofs.Pairs.{member_left, member_right, member_cases}
use Rattle.psac_values.specs.declared.view.ValueView.{ValueView}
use Rattle.psac_values.specs.Knowing.{Knows}
use Rattle.psac_readers.specs.declared.view.ReadersView.{ReadersView}
use Rattle.psac_readers.specs.declared.view.SharedView.{SharedView as SetView}
use Rattle.psac_readers.specs.Chained.{mods_of}
use Rattle.psac_readers.specs.Steps.{left}
use Rattle.psac_marks.proofs.Parts.{times_else}
use Rattle.psac_raise.specs.Raise.{LeadsIn, LeadUpIn}
use Rattle.psac_fork.specs.declared.tables.Pass.{Pass}
use Rattle.psac_model.specs.Names.{Env}
use Rattle.psac_model.specs.Expression.{Setting}
use Rattle.psac_record.specs.declared.parts.Reading.{Reading}
use Rattle.psac_record.specs.Kept.{Kept, E, A, W, S, P, R, bare, links_of}
use Rattle.psac_traced.specs.Rec.{writes}
use Rattle.psac_trace.specs.Rights.{In, Ready}
use Rattle.psac_trace.specs.Fit.{Fit, SetsReady, Rooted, is_spare}
use Rattle.psac_trace.specs.Raising.{puts, Aged, Raisable, Warns}
use Rattle.psac_trace.proofs.Fitting.{sets_links}
use Rattle.psac_trace.proofs.Heaps.{in_either, one_is}
use Rattle.psac_repair.specs.Taken.{all_left, indexes}
use Rattle.psac_repair.specs.Stood.{Owned}
use Rattle.psac_repair.specs.Planted.{Planted}
use Rattle.psac_repair.specs.Rewired.{Writes, Ordered, Wired}
use Rattle.psac_repair.specs.Unshared.{Unshared}
use Rattle.psac_repair.specs.Rebuilt.{Begun, Olds, TakenOff}
use Rattle.psac_repair.proofs.Grafting.{ready, kept_now, ready_rooted}
use Rattle.psac_repair.proofs.Rewiring.{led_on}
use Rattle.psac_repair.proofs.Rerunning.{readers_lead, set_stays}

-- leaving changes links alone
left_rest : (ls : List ℕ) (r : ReadersView) → all_left ls r ≡ record r { links = (all_left ls r).links }
left_rest [] r = refl
left_rest (l ∷ ls) r = left_rest ls (left l r)

pub left_claims : (ls : List ℕ) (r : ReadersView) → (all_left ls r).claims ≡ r.claims
left_claims ls r = ap (λ (z : ReadersView). z.claims) (left_rest ls r)

pub sets_left : (v : ValueView) (ls : List ℕ) (r : ReadersView) → SetsReady v r → SetsReady v (all_left ls r)
sets_left v ls r =
    let e = left_rest ls r in
    sets_links v r (all_left ls r) (ap (λ (z : ReadersView). z.mods) e)
    (λ m h. ⊎_elim
    (λ (i : Member m (mods_of r.walk)). inl (subst (λ w. Member m (mods_of w)) (sym (ap (λ (z : ReadersView). z.walk) e)) i))
    (λ (i : (f : SetView) × Member f r.shared × (f.of ≡ m)). inr (i.0, subst (Member i.0) (sym (ap (λ (z : ReadersView). z.shared) e)) i.1, i.2))
    h)
    (ap (λ (z : ReadersView). z.shared) e)
    (ap (λ (z : ReadersView). z.claims.branch) e)

-- what stands in the writes a record wrote
pub in_puts : (k : Kept) (m : Handle) → In (writes (bare k)) m → (x : Plain) × Member (m, x) (puts k)
in_puts E m i = absurd cc
in_puts (A n r) m i = in_puts r m i
in_puts (W n v r) m i =
    ⊎_elim
    (λ (j : In (writes (bare r)) m). let a = in_puts r m j in (a.0, inr a.1))
    (λ (j : In ((n, value_of v) ∷ []) m). (v, inl (ap (λ h. (h, v)) (one_is n m (value_of v) j.0 j.1).0)))
    (in_either (writes (bare r)) ((n, value_of v) ∷ []) m i)
in_puts (S n t r) m i =
    ⊎_elim
    (λ (j : In (writes (bare r)) m). let a = in_puts r m j in (a.0, member_right (m, a.0) (puts t) (puts r) a.1))
    (λ (j : In (writes (bare t)) m). let a = in_puts t m j in (a.0, member_left (m, a.0) (puts t) (puts r) a.1))
    (in_either (writes (bare r)) (writes (bare t)) m i)
in_puts (P n t r) m i =
    ⊎_elim
    (λ (j : In (writes (bare r)) m). let a = in_puts r m j in (a.0, member_right (m, a.0) (puts t) (puts r) a.1))
    (λ (j : In (writes (bare t)) m). let a = in_puts t m j in (a.0, member_left (m, a.0) (puts t) (puts r) a.1))
    (in_either (writes (bare r)) (writes (bare t)) m i)
in_puts (R b t) m i = in_puts t m i

-- a pass that owns what a record wrote knows its words
owned_words : (v : ValueView) (k : Kept) (m : Handle) (x : Plain) → Owned v (bare k) → Member (m, x) (puts k) → (ws : List ℕ) × Knows v m ws
owned_words v E m x o i = absurd i
owned_words v (A n r) m x o i = owned_words v r m x o.1 i
owned_words v (W n y r) m x o i =
    ⊎_elim
    (λ (e : (n, y) ≡ (m, x)). (o.1.0, subst (λ (h : Handle). Knows v h o.1.0) (ap (λ (z : Handle × Plain). z.0) e) o.1.2))
    (λ (j : Member (m, x) (puts r)). owned_words v r m x o.2 j)
    i
owned_words v (S n t r) m x o i =
    ⊎_elim (λ (j : Member (m, x) (puts t)). owned_words v t m x o.0 j) (λ (j : Member (m, x) (puts r)). owned_words v r m x o.1 j) (member_cases (m, x) (puts t) (puts r) i)
owned_words v (P n t r) m x o i =
    ⊎_elim (λ (j : Member (m, x) (puts t)). owned_words v t m x o.0 j) (λ (j : Member (m, x) (puts r)). owned_words v r m x o.1 j) (member_cases (m, x) (puts t) (puts r) i)
owned_words v (R b t) m x o i = owned_words v t m x o i

pub old_put : (olds : List Handle) (env : Env Handle) (t : Kept) → Olds olds env t → (m : Handle) → Member m olds → (x : Plain) × Member (m, x) (puts t)
old_put olds env t are m i = ⊎_elim (λ (j : Member m []). absurd j) (λ (j : (x : Plain) × Member (m, x) (puts t)). j) (are.wrote m i)

module _ (p q : Pass) (us : List ℕ) (above : Option Handle) (b : Reading) (t : Kept) (planted : Planted p.marks.knows us above (R b t)) (wired : Wired p.readers.knows p.marks.knows us above (R b t)) (ordered : Ordered (R b t)) (off : TakenOff p q b t) where
  pub fit_off : SetsReady p.values.knows p.readers.knows → Rooted p.marks.knows → Unshared p.marks.knows → Fit q
  fit_off sets rooted apart =
      record {
        sets = subst (λ v. SetsReady v q.readers.knows) (ap (λ z. z.knows) (sym off.values)) (subst (SetsReady p.values.knows) (sym off.left) (sets_left p.values.knows (indexes (links_of t)) p.readers.knows sets));
        nodes = subst Rooted (sym off.marks) (ready_rooted p.marks.knows us above b t planted rooted apart);
      }

  -- what leads up outside does so on
  pub led_off : (x : ℕ) → LeadsIn p.marks.knows us x → LeadsIn q.marks.knows us x
  led_off x l =
      let m = p.marks.knows in
      let other_one : (y : ℕ) → Member y us → y ≢ b.node.slot = λ y u e. planted.apart y u (inl (sym e)) in
      subst (λ n. LeadsIn n us x) (sym off.marks) (led_on m (ready m us above b t planted) us (λ e i u. i)
      (λ y u k. kept_now m us above b t planted y (λ j. planted.apart y u (inr j)) k)
      (λ y u c. elim c [
        | inl a ↦ inl (let d = times_else y b.node.slot m.marked (other_one y u) in omega (arith, a, d))
        | inr a ↦ inr (let d = times_else y b.node.slot m.busy (other_one y u) in omega (arith, a, d))
      ])
      x l)

  -- the readers of what the record wrote lead up outside
  pub wrote_leads : (s : ℕ) → Writes t s → LeadUpIn q.readers.knows q.marks.knows us s
  wrote_leads s d = readers_lead p.readers.knows p.marks.knows us above b t planted wired ordered q.readers.knows off.relinked q.marks.knows led_off s d

  pub raisable : Owned p.values.knows (bare t) → (m : Handle) (x : Plain) → Member (m, x) (puts t) → Raisable q m
  raisable o m x i =
      let s = set_stays p.readers.knows p.marks.knows us above b t planted wired ordered q.readers.knows off.relinked m.slot ((m, x), i, refl) in
      let known = owned_words p.values.knows t m x o i in
      record {
        inside = s.0;
        walk = s.1;
        leads = λ k j e f. let a = wrote_leads m.slot ((m, x), i, refl) k j e f in (a.0, a.1, a.2, (a.3.0, a.3.1));
        words = (known.0, subst (λ (z : _). Knows z m known.0) (ap (λ z. z.knows) (sym off.values)) known.1);
      }

  module _ (w : Setting Handle) (body : List Stmt) (env : Env Handle) (olds : List Handle) (are : Olds olds env t) (owned : Owned p.values.knows (bare t)) (aged : (s : ℕ) → Writes (R b t) s → is_spare p.values.knows.fixed p.values.knows.claims.list s ≡ false) where
    pub warns_off : Begun w (bare t) body env p.values.knows → Warns w olds body env q
    warns_off g =
        record {
          aged = subst (Aged olds) (ap (λ z. z.knows) (sym off.values)) (λ m i. let a = old_put olds env t are m i in aged m.slot ((m, a.0), a.1, refl));
          base = g.base;
          st = g.st;
          end = g.end;
          meets = g.meets;
          ready = subst (λ v. Ready w g.st g.end.unwritten env v g.base) (ap (λ z. z.knows) (sym off.values)) g.ready;
          may = λ m i j. let a = old_put olds env t are m i in raisable owned m a.0 a.1;
        }
