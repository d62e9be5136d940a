-- The call that repairs a record, by what it is passed.
use Rattle.std.proofs.Common.{◌≡◌, ℕ, List, [], length, Some, None, Bor, ap, sym, ◌∙◌, subst}
use Rattle.psac_ops.specs.declared.plain.Handle.{Handle}
use Rattle.psac_ops.specs.declared.plain.TextId.{TextId}
use Rattle.psac_syntax.specs.declared.program.Stmt.{Stmt}
use Rattle.psac_syntax.specs.declared.program.Func.{Func}
use Rattle.psac_syntax.specs.declared.program.Program.{Program}
use Rattle.psac_fork.specs.declared.crew.Crew.{Crew}
use Rattle.psac_fork.specs.declared.tables.Tables.{Tables}
use Rattle.psac_fork.specs.declared.tables.Pass.{Pass}
use Rattle.psac_inputs.specs.Grid.{Grid}
use Rattle.psac_model.specs.Expression.{Setting}
use Rattle.psac_model.specs.Fresh.{World, main_of}
use Rattle.psac_plain.specs.Opened.{setting_over}
use Rattle.psac_traced.specs.Bodies.{IsCode}
use Rattle.psac_record.specs.Kept.{Kept, bare}
use Rattle.psac_record.specs.Shown.{kept_of}
use Rattle.psac_trace.specs.Asking.{setting_on}
use Rattle.psac_trace.specs.declared.ground.Ground.{Ground}
use Rattle.psac_repair.specs.declared.world.World.{World as Around}
use Rattle.psac_repair.specs.Ended.{Ended, Good, Fault, Other}
use Rattle.psac_repair.specs.Going.{Views, views, Before, After}
use Rattle.psac_repair.specs.Indexed.{Code}
use Rattle.psac_repair.specs.Counted.{Spent}
use Rattle.psac_repair.specs.Founded.{Coherent, Founded}
use Rattle.psac_repair.specs.Mends.{Needs, Tells}
use Rattle.psac_repair.specs.Outcomes.{end_of, OnGood}
use Rattle.psac_repair.specs.Repairing.{setting_of, BeforeIn, Leaves, Spares}
use Rattle.psac_repair.specs.declared.outcome.Outcome.{Outcome}
use Rattle.psac_stage.specs.Recorded.{Mendable, setting_at}
use Rattle.psac_engine.specs.Mending.{Told}
use Rattle.psac_engine.specs.Sound.{world_with}
use Rattle.psac_engine.proofs.Worlds.{main_is}

-- what expressions of main read, by what they are called with
setting_is : (g : Ground) (h : Grid) (w : World) (texts : List TextId) (outs : List ℕ)
    → ((ts : List TextId) → setting_on g ts ≡ setting_over h ts (length outs)) → texts ≡ w.texts → outs ≡ w.main.dests
    → setting_on g texts ≡ setting_at w h
setting_is g h w texts outs e same is = e texts ∙ ap (λ ts. setting_over h ts (length outs)) same ∙ ap
    (λ ds. setting_over h w.texts (length ds)) is

-- where there is a record
on_good : {S T : Type 0} → (S → T) → (e : Ended) → OnGood e S → OnGood e T
on_good f (Good r) s = f s
on_good f (Fault why line) s = tt
on_good f (Other why) s = tt

module _ (w : World) (h : Grid) (g : Around) (setting : setting_of g ≡ setting_at w h) (funcs : g.funcs.now ≡ w.program.funcs)
    (main : g.main.now ≡ w.main.body) (k : Kept) where
  abbrev Begun : Setting Handle → List Func → List Stmt → Views → Type 0
  Begun s fs body p = Before (Needs s fs (IsCode fs body)) fs [] None (bare k) k p

  abbrev pub Spends : Pass → Pass → Outcome → Type 0
  Spends p q o = Spent p.values.knows q.values.knows p.marks.knows q.marks.knows k (kept_of o.tree)

  begins_around : (p : Views) → Mendable w h k p → BeforeIn g [] None (bare k) k p
  begins_around p b =
      subst (λ s. Begun s g.funcs.now g.main.now p) (sym setting)
      (subst (λ fs. Begun (setting_at w h) fs g.main.now p) (sym funcs)
      (subst (λ body. Begun (setting_at w h) w.program.funcs body p) (sym main) b))

  abbrev Went : Setting Handle → List Func → List Stmt → Kept → Views → Views → Ended → Type 0
  Went s fs body new = After (Tells s fs (IsCode fs body) (bare k)) [] None k new

  told_around : (new : Kept) (p q : Pass) (e : Ended) → Mendable w h k (views p) → Leaves g k new p q e
      → Told w h k new (views p) (views q) e
  told_around new p q e b l =
      let a = l [] None (begins_around (views p) b) in
      subst (λ body. Went (setting_at w h) w.program.funcs body new (views p) (views q) e) main
      (subst (λ fs. Went (setting_at w h) fs g.main.now new (views p) (views q) e) funcs
      (subst (λ s. Went s g.funcs.now g.main.now new (views p) (views q) e) setting a))

  spent_around : (p q : Pass) (o : Outcome) → Mendable w h k (views p) → Coherent p.values.knows k
      → Founded p.values.knows p.marks.knows k → Spares g k p q o → OnGood (end_of o) (Spends p q o)
  spent_around p q o b co fo l = on_good (λ s. s.spent) (end_of o) (l [] None (begins_around (views p) b) (co, fo))

-- what the repair runs over
abbrev pub around : Bor Crew → Bor Tables → Ground → Bor (List TextId) → Bor (List Func) → Bor (List Stmt) → Bor (List Code) → Around
around crew tables ground texts funcs main blocks =
    record { crew = crew; tables = tables; ground = ground; texts = texts; funcs = funcs; main = main; blocks = blocks }

module _ (o q : Program) (texts : List TextId) (h : Grid) (f : Func) (same : q ≡ o) (found : main_of q ≡ Some f) (g : Around)
    (outs : List ℕ)
    (ground : (ts : List TextId) → setting_on g.ground ts ≡ setting_over h ts (length outs)) (outs_are : outs ≡ f.dests)
    (texts_are : g.texts.now ≡ texts) (funcs_are : g.funcs.now ≡ q.funcs) (main_are : g.main.now ≡ f.body) (k : Kept) where
  here : (world_with o texts).main ≡ f
  here = main_is o texts f (ap main_of (sym same) ∙ found)

  setting_here : setting_of g ≡ setting_at (world_with o texts) h
  setting_here = setting_is g.ground h (world_with o texts) g.texts.now outs ground texts_are
      (outs_are ∙ ap (λ (z : Func). z.dests) (sym here))

  funcs_here : g.funcs.now ≡ o.funcs
  funcs_here = funcs_are ∙ ap (λ (z : Program). z.funcs) same

  main_here : g.main.now ≡ (world_with o texts).main.body
  main_here = main_are ∙ ap (λ (z : Func). z.body) (sym here)

  pub begins_here : (p : Views) → Mendable (world_with o texts) h k p → BeforeIn g [] None (bare k) k p
  begins_here = begins_around (world_with o texts) h g setting_here funcs_here main_here k

  pub told_here : (new : Kept) (p q : Pass) (e : Ended) → Mendable (world_with o texts) h k (views p) → Leaves g k new p q e
      → Told (world_with o texts) h k new (views p) (views q) e
  told_here = told_around (world_with o texts) h g setting_here funcs_here main_here k

  pub spent_here : (p x : Pass) (out : Outcome) → Mendable (world_with o texts) h k (views p)
      → Coherent p.values.knows k → Founded p.values.knows p.marks.knows k → Spares g k p x out
      → OnGood (end_of out) (Spent p.values.knows x.values.knows p.marks.knows x.marks.knows k (kept_of out.tree))
  spent_here = spent_around (world_with o texts) h g setting_here funcs_here main_here k
