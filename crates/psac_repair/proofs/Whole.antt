-- What a repair of a whole record tells, over the base itself.
use Rattle.std.proofs.Common.{◌≡◌, ◌⊎◌, ℕ, List, Contains, ap, inl, inr, arith}
use Rattle.psac_ops.specs.declared.plain.Handle.{Handle}
use Rattle.psac_syntax.specs.declared.program.Stmt.{Stmt}
use Rattle.psac_values.specs.declared.view.ValueView.{ValueView}
use Rattle.psac_model.specs.declared.ends.CapKind.{CapKind}
use Rattle.psac_model.specs.Names.{Env}
use Rattle.psac_laws.specs.Standing.{Standing}
use Rattle.psac_traced.specs.Rec.{Rec, writes}
use Rattle.psac_traced.specs.Places.{Makes}
use Rattle.psac_traced.specs.Bodies.{IsCode}
use Rattle.psac_traced.specs.Mending.{mended}
use Rattle.psac_trace.specs.Rights.{Heap, In, Within, Sees}
use Rattle.psac_trace.specs.Laws.{NewMade}
use Rattle.psac_repair.specs.Ended.{Ended, Good, Fault, Other}
use Rattle.psac_repair.specs.Stood.{Stood, Owned}
use Rattle.psac_repair.specs.Mends.{Told}
use Rattle.psac_repair.specs.Laws.{Program}
use Rattle.psac_repair.specs.Going.{claims_of}
use Rattle.psac_repair.specs.Whole.{MadeAnew, TellsWhole, WholeIsTold, BaseIsSeen, DrawnIsGiven}
use Rattle.psac_repair.proofs.Steps.{made_owned, had_not_lacked, within_base}
use Rattle.psac_trace.proofs.Moving.{each_cap}

module _ (g : Program) (v u : ValueView) (old : Rec Handle) (room : ℕ) (body : List Stmt) (env : Env Handle) (heap base : Heap) (st end : Standing) (s : Stood g.setting g.funcs (IsCode g.funcs g.main) v old room body env heap base st end) (owned : Owned v old) where
  made_anew : (new : Rec Handle) → NewMade v u (mended g.setting.same old new).created → MadeAnew g old base new
  made_anew new made = record { distinct = made.distinct; anew = anew }
    where
      anew : (m : Handle) → Contains (mended g.setting.same old new).created m → In base m ⊎ Makes old m → ⊥
      anew m i (inr k) = had_not_lacked v m (made_owned v old owned m k) (made.lacked m i)
      anew m i (inl b) =
          let l = made.lacked m i in
          let sees = s.ready.sees m b.0 b.1 in
          elim sees.2 [
            | inl h ↦ l.mine h.0 h.1 (ap (λ (z : Handle). z.slot) h.2)
            | inr h ↦ l.known h.0 h.1 (ap (λ (z : Handle). z.slot) h.2)
          ]

  pub whole_of : (drawn : CapKind → ℕ) (e : Ended)
      → Told g.setting g.funcs (IsCode g.funcs g.main) st end.unwritten env old v u base drawn e → TellsWhole g old base drawn e
  whole_of drawn (Good new) t = (t.0.run base (λ m x e. e), made_anew new t.3, t.4)
  whole_of drawn (Fault k n) t = (t.0, t.1.run base (λ m x e. e), made_anew t.0 t.4, t.5)
  whole_of drawn (Other why) t = (t.0, t.1, t.2.run base (λ m x e. e), made_anew t.0 t.3, t.4)

pub whole_told : WholeIsTold
whole_told g v u old drawn e room body env heap base st end s owned tells =
    whole_of g v u old room body env heap base st end s owned drawn e (tells room body env heap base st end s)

base_of : (g : Program) (st : Standing) (left : List ℕ) (env : Env Handle) (old : Rec Handle) (v u : ValueView) (base : Heap)
    (drawn : CapKind → ℕ) (e : Ended) → Told g.setting g.funcs (IsCode g.funcs g.main) st left env old v u base drawn e
    → Within base (Sees u)
base_of g st left env old v u base drawn (Good new) t = within_base (writes new) base u t.0.fresh t.1.sees
base_of g st left env old v u base drawn (Fault k n) t = t.2
base_of g st left env old v u base drawn (Other why) t = t.5

pub base_seen : BaseIsSeen
base_seen g v u old drawn e room body env heap base st end s tells =
    base_of g st end.unwritten env old v u base drawn e (tells room body env heap base st end s)

pub drawn_given : DrawnIsGiven
drawn_given p q l room c =
    let none = each_cap (λ d. (claims_of d p).over ≡ 0) room.2 room.0 room.1 c in
    let a = (l.claims c).drawn in
    let b = l.indexes c in
    omega (arith, none, a, b)
