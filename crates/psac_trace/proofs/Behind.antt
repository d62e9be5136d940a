-- What holds behind a part of a run, for what comes next on the pass.
use Rattle.std.proofs.Common.{◌≡◌, List, ◌++◌, Some, subst}
use Rattle.psac_ops.specs.declared.plain.Handle.{Handle}
use Rattle.psac_syntax.specs.declared.program.Stmt.{Stmt}
use Rattle.psac_slots.specs.Handles.{Member}
use Rattle.psac_fork.specs.declared.tables.Pass.{Pass}
use Rattle.psac_fork.specs.declared.tables.Tables.{Tables}
use Rattle.psac_model.specs.Names.{Env}
use Rattle.psac_model.specs.Expression.{Setting}
use Rattle.psac_laws.specs.Standing.{Standing, series}
use Rattle.psac_traced.specs.Rec.{writes}
use Rattle.psac_traced.specs.Traced.{Traces as Tracing}
use Rattle.psac_cut.specs.CutShort.{Cuts}
use Rattle.psac_record.specs.Kept.{Kept, Stands, bare}
use Rattle.psac_trace.specs.Rights.{Heap, In, Target, Ready}
use Rattle.psac_trace.specs.Grown.{Made, Moves}
use Rattle.psac_trace.specs.Told.{Ended, Good, Fault, Other, Tells, what, then_ended, bared}
use Rattle.psac_trace.specs.Raising.{puts, Aged, Raisable, Warns, Only, Raises, RaisesBy, Rewrote}
use Rattle.psac_trace.proofs.Heaps.{Fresh, in_front, in_and_none}
use Rattle.psac_trace.proofs.Tells.{told_within}
use Rattle.psac_trace.proofs.Raised.{calm_by, calm_then, puts_in, slots_apart, Sequel, sequel_apart, sequel_unread, raises_then, only_then}
use Rattle.psac_trace.proofs.Warning.{raisable_on, aged_on, open_at}

-- a part left this record, made these and wrote its destinations; other old ones are still to be written
pub record Behind (w : Setting Handle) (olds : List Handle) (body : List Stmt) (env : Env Handle) (p u : Pass) (made : Made) (k : Kept) : Type 0 where
  pub aged : Aged olds p.values.knows
  pub base : Heap
  pub mid : Standing
  pub end : Standing
  pub meets : series body mid ≡ Some end
  pub ready : Ready w mid end.unwritten env u.values.knows (writes (bare k) ++ base)
  pub begun : Fresh (writes (bare k)) base
  pub raised : Raises olds p u (puts k)
  pub linked : (s : Stands) → Member s made.links → In (writes (bare k) ++ base) s.of
  pub may : (m : Handle) → Member m olds → Target mid end.unwritten env m → Raisable p m

module _ (w : Setting Handle) (olds : List Handle) (t : Tables) (body : List Stmt) (env : Env Handle) (p u : Pass) (made : Made) (k : Kept) (mv : Moves t p u made) (b : Behind w olds body env p u made k) where
  pub behind_warns : Warns w olds body env u
  behind_warns =
      let after : Heap = writes (bare k) ++ b.base in
      record {
        aged = aged_on olds t p u made mv b.aged;
        base = after;
        st = b.mid;
        end = b.end;
        meets = b.meets;
        ready = b.ready;
        may = λ m o z.
            let here = open_at w b.mid b.end.unwritten env u.values.knows after m b.ready z in
            raisable_on t p u made mv m
            (λ s i. let n = b.linked s i in slots_apart u.values.knows mv.stays.tidy s.of m n.0 (b.ready.sees s.of n.0 n.1) here.1 (λ e. in_and_none after m (subst (In after) e n) here.0))
            (λ us y. b.raised.stays m us y (λ x i. in_and_none after m (in_front (writes (bare k)) b.base m (puts_in k m x i)) here.0))
            (b.may m o z);
      }

  -- what the next part raised, together with what this one did
  pub behind_raises : (deep : Tracing Handle) (first : Cuts Handle) (f : Kept → Kept) → ((n : Kept) → puts k ++ puts n ≡ puts (f n)) → (q : Pass) (more : Made) → Moves t u q more → (e : Ended Kept) → RaisesBy olds u q e → Rewrote u.values.knows q.values.knows (puts (what e)) → Tells w deep first body env u.values.knows q.values.knows (bared e) → RaisesBy olds p q (then_ended f e)
  behind_raises deep first f s q more mq (Good n) r words tells =
      let after : Heap = writes (bare k) ++ b.base in
      let told = tells after b.mid b.end b.meets b.ready in
      let seq : Sequel b.base q.values.knows (writes (bare k)) (writes (bare n)) =
      record { begun = b.begun; fresh = told.0.fresh; sees = told_within deep first body b.mid b.end.unwritten env u.values.knows q.values.knows after (Good (bare n)) told } in
      subst (Raises olds p q) (s n)
      (raises_then olds t p u q made more (puts k) (puts n) mv mq b.raised (sequel_apart b.base k n q seq)
      (λ m x o i y j. sequel_unread b.base k n q seq mq.stays.tidy m x i (r.owned m x i) y.of (b.linked y j)) r)
  behind_raises deep first f s q more mq (Fault n i l) r words tells =
      let after : Heap = writes (bare k) ++ b.base in
      let told = tells after b.mid b.end b.meets b.ready in
      let seq : Sequel b.base q.values.knows (writes (bare k)) (writes (bare n)) =
      record { begun = b.begun; fresh = told.0.fresh; sees = told.1 } in
      subst (Only olds p q) (s n)
      (only_then olds t p u q made more (puts k) (puts n) mv mq b.raised (sequel_apart b.base k n q seq)
      (λ m x o i y j. sequel_unread b.base k n q seq mq.stays.tidy m x i (words.owned m x i) y.of (b.linked y j)) r)
  behind_raises deep first f s q more mq (Other n why) r words tells = calm_then olds p u q (calm_by olds p u mv.marks (Good k) b.raised) r
