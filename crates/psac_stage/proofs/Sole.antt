-- That a run may leave a record has at most one proof, so it comes out of a truncation.
use Rattle.std.proofs.Common.{◌≡◌, ℕ, zero, suc, List, [], ◌∷◌, ◌++◌, Result, Ok, Err, ap, sym, ◌∙◌, subst}
use Rattle.std.proofs.Math.Logic.{∥∥₁_elim}
use mathlib.Core.HLevel.{×_prop, Σ_prop_path, ⊥_prop}
use native.Mathlib.Nat.{ℕ_set}
use Rattle.psac_ops.specs.Value.{ref}
use Rattle.psac_syntax.specs.declared.program.Stmt.{Stmt, out-Stmt}
use Rattle.psac_syntax.specs.declared.program.Func.{Func}
use Rattle.psac_model.specs.declared.ends.FaultKind.{FaultKind}
use Rattle.psac_model.specs.declared.ends.FaultKind.TheVariants.{TooDeep}
use Rattle.psac_model.specs.declared.ends.End.{End}
use Rattle.psac_model.specs.declared.ends.End.TheVariants.{Done, Stop}
use Rattle.psac_model.specs.Names.{Env, bind}
use Rattle.psac_model.specs.Expression.{Setting}
use Rattle.psac_model.specs.Run.{Action, Bind, Make, Put, Body, Block, Sides, action_of, line_of, first_stop}
use Rattle.psac_traced.specs.Rec.{Rec, E, A, W, S, P, R, HeapOf, writes}
use Rattle.psac_traced.specs.Traced.{Traces, listed, stops, goes_on, acts, acts_or_stops, traced}
use Rattle.psac_stage.proofs.Sets.{end_set, value_set, env_set, reads_set, rec_set}

-- what is said of an end: in one way at most, and of one end
abbrev pub Sole : (End → Type 0) → Type 0
Sole Is = ((e : End) → IsProp (Is e)) × ((e f : End) → Is e → Is f → e ≡ f)

none_sole : Sole (λ e. ⊥)
none_sole = (λ e. ⊥_prop, λ e f h k. absurd h)

-- an end that is determined, with what is said behind it
module _ (Is : End → Type 0) (Next : End → End → Type 0) where
  then_sole : Sole Is → ((e : End) → Sole (Next e)) → Sole (λ last. (e : End) × Is e × Next e last)
  then_sole a b = (
    λ last x y. ap (λ (z : (e : End) × (Is e × Next e last)). (z.0, z.1.0, z.1.1))
        (Σ_prop_path (λ e. ×_prop (a.0 e) ((b e).0 last)) {u = (x.0, (x.1, x.2))} {v = (y.0, (y.1, y.2))} (a.1 x.0 y.0 x.1 y.1)),
    λ last other x y. (b y.0).1 last other (subst (λ e. Next e last) (a.1 x.0 y.0 x.1 y.1) x.2) y.2,
  )

module _ {N : Type 0} (set : IsSet N) where
  -- each record is left in one way at most, and with one end
  abbrev pub Soles : Traces N → Type 0
  Soles deep = (body : List Stmt) (env : Env N) (heap : HeapOf N) (r : Rec N) → Sole (deep body env heap r)

  stops_sole : (k : FaultKind) (line : ℕ) (r : Rec N) → Sole (stops k line r)
  stops_sole k line r = (λ e. ×_prop (rec_set set r E) (end_set e (Stop k line)), λ e f h i. h.1 ∙ sym i.1)

  module _ (deep : Traces N) (go : Soles deep) where
    on_sole : (e : End) → Soles (goes_on e deep)
    on_sole Done = go
    on_sole (Stop k line) = λ rest env heap r. stops_sole k line r

    act_sole : (room : ℕ) (a : Action N) → Soles (acts room deep a)
    act_sole room (Bind x v) rest env heap r = go rest (bind x v env) heap r
    act_sole room (Make d) rest env heap (A m r) = go rest (bind d (ref m) env) heap r
    act_sole room (Put m v) rest env heap (W n u r) =
        let g = go rest env ((n, u) ∷ heap) r in
        (λ e x y i. (set m n x.0 y.0 i, value_set set v u x.1 y.1 i, g.0 e x.2 y.2 i), λ e f x y. g.1 e f x.2 y.2)
    act_sole room (Body body inner) rest env heap (S t r) =
        then_sole _ _ (go body inner heap t) (λ e. on_sole e rest env (writes t ++ heap) r)
    act_sole room (Block block reads body inner) rest env heap (S (R level b f seen t) r) =
        let g = then_sole _ _ (go body inner heap t) (λ e. on_sole e rest env (writes t ++ heap) r) in (
          λ e x y i. (ℕ_set _ _ x.0 y.0 i, ℕ_set _ _ x.1 y.1 i, env_set set _ _ x.2 y.2 i, reads_set set _ _ x.3 y.3 i, g.0 e x.4 y.4 i),
          λ e o x y. g.1 e o x.4 y.4,
        )
    act_sole room (Sides left right) rest env heap (S (P l k) r) =
        let other = go right env (writes l ++ heap) k in
        let behind = λ (e : End) (f : End). on_sole (first_stop e f) rest env (writes k ++ (writes l ++ heap)) r in
        let g = then_sole _ _ (go left env heap l) (λ e. then_sole _ _ other (behind e)) in (
          λ last x y. ap (λ z. (z.0, z.2.0, z.1, z.2.1, z.2.2)) (g.0 last (x.0, x.2, (x.1, x.3, x.4)) (y.0, y.2, (y.1, y.3, y.4))),
          λ last other x y. g.1 last other (x.0, x.2, (x.1, x.3, x.4)) (y.0, y.2, (y.1, y.3, y.4)),
        )
    act_sole room _ rest env heap _ = none_sole

    step_sole : (room : ℕ) (a : Result (Action N) FaultKind) (line : ℕ) → Soles (acts_or_stops room deep a line)
    step_sole room (Ok a) line = act_sole room a
    step_sole room (Err k) line = λ rest env heap r. stops_sole k line r

  module _ (w : Setting N) (funcs : List Func) where
    pub traced_sole : (room : ℕ) → Soles (traced w funcs room)
    unfolding traced
    traced_sole room [] env heap r = (λ e. ×_prop (rec_set set r E) (end_set e Done), λ e f h i. h.1 ∙ sym i.1)
    traced_sole zero (s ∷ rest) env heap r = stops_sole TooDeep (line_of (out-Stmt s)) r
    traced_sole (suc room) (s ∷ rest) env heap r =
        let what = action_of (listed w) w funcs env heap (out-Stmt s) in
        step_sole (traced w funcs room) (traced_sole room) room what (line_of (out-Stmt s)) rest env heap r

    module _ (room : ℕ) (body : List Stmt) (env : Env N) (heap : HeapOf N) (r : Rec N) where
      pub traced_prop : (end : End) → IsProp (traced w funcs room body env heap r end)
      traced_prop = (traced_sole room body env heap r).0

      pub traced_end : (end last : End) → traced w funcs room body env heap r end → traced w funcs room body env heap r last → end ≡ last
      traced_end = (traced_sole room body env heap r).1

      pub traced_out : (end : End) → ∥ traced w funcs room body env heap r end ∥₁ → traced w funcs room body env heap r end
      traced_out end t = ∥∥₁_elim t (traced_prop end) (λ x. x)
