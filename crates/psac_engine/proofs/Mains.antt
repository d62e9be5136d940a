-- The call that runs main's body, by what it is passed.
use Rattle.std.proofs.Common.{◌≡◌, ℕ, ◌+◌, List, [], length, None, refl, ap, sym, ◌∙◌, subst, arith}
use Rattle.psac_ops.specs.declared.plain.Handle.{Handle}
use Rattle.psac_ops.specs.declared.plain.TextId.{TextId}
use Rattle.psac_ops.specs.Named.{same_handle}
use Rattle.psac_syntax.specs.declared.program.Stmt.{Stmt}
use Rattle.psac_syntax.specs.declared.program.Func.{Func}
use Rattle.psac_inputs.specs.Grid.{Grid}
use Rattle.psac_fork.specs.declared.tables.Pass.{Pass}
use Rattle.psac_fork.specs.declared.tables.Tables.{Tables}
use Rattle.psac_model.specs.Names.{Env}
use Rattle.psac_model.specs.Expression.{Setting}
use Rattle.psac_model.specs.Fresh.{levels}
use Rattle.psac_plain.specs.Slots.{cell_place}
use Rattle.psac_plain.specs.Opened.{at_slot, first_output, output_env, setting_over}
use Rattle.psac_traced.specs.Rec as rec
use Rattle.psac_traced.specs.Traced.{traced}
use Rattle.psac_cut.specs.CutShort.{cut_short}
use Rattle.psac_cut.specs.Based.{CutOn}
use Rattle.psac_cut.proofs.Based.{cut_on_none}
use Rattle.psac_record.specs.Kept.{Kept, E}
use Rattle.psac_trace.specs.Grown.{nothing}
use Rattle.psac_trace.specs.Told.{Ended, Other}
use Rattle.psac_trace.specs.Running.{Begins, Leaves}
use Rattle.psac_trace.proofs.Looking.{looks_none}
use Rattle.psac_trace.proofs.Moving.{moves_none}
use Rattle.psac_trace.proofs.Rewriting.{rewrote_none}
use Rattle.psac_engine.specs.Tracing.{main_setting, main_places, MainBegins, MainLeaves}

module _ (g : Grid) (texts : List TextId) (funcs : List Func) (main : Func) (t : Tables) (p : Pass) (s : Setting Handle) (body : List Stmt) (env : Env Handle) (first : ℕ) (dests : List ℕ) (ground : s ≡ setting_over g texts (length dests)) (outs : dests ≡ main.dests) (whole : body ≡ main.body) (bound : env ≡ output_env first dests []) (at : first ≡ first_output g) where
  setting_is : s ≡ main_setting g texts main
  setting_is = ground ∙ ap (λ ds. setting_over g texts (length ds)) outs

  places_is : env ≡ main_places g main
  places_is = bound ∙ ap (λ ds. output_env first ds []) outs ∙ ap (λ k. output_env k main.dests []) at

  pub begins_same : MainBegins g texts funcs main t p → Begins s funcs [] t body env None p
  begins_same b =
      subst (λ z. Begins z funcs [] t body env None p) (sym setting_is)
      (subst (λ z. Begins (main_setting g texts main) funcs [] t z env None p) (sym whole)
      (subst (λ z. Begins (main_setting g texts main) funcs [] t main.body z None p) (sym places_is) b))

  pub leaves_same : (q : Pass) (e : Ended Kept) → Leaves s (traced s funcs levels) (cut_short s funcs levels) [] t body env None p q e → MainLeaves g texts funcs main t p q e
  leaves_same q e l =
      subst (λ z. Leaves (main_setting g texts main) (traced (main_setting g texts main) funcs levels) (cut_short (main_setting g texts main) funcs levels) [] t main.body z None p q e) places_is
      (subst (λ z. Leaves (main_setting g texts main) (traced (main_setting g texts main) funcs levels) (cut_short (main_setting g texts main) funcs levels) [] t z env None p q e) whole
      (subst (λ z. Leaves z (traced z funcs levels) (cut_short z funcs levels) [] t body env None p q e) setting_is l))

-- a run that wants memory before it begins
pub made_nothing : (g : Grid) (texts : List TextId) (funcs : List Func) (main : Func) (t : Tables) (p : Pass) → MainBegins g texts funcs main t p → MainLeaves g texts funcs main t p p (Other E None)
made_nothing g texts funcs main t p b =
    record {
      made = nothing;
      moves = moves_none t p b.of b.tidy b.fit;
      all = (refl, (omega (arith, b.room.2), omega (arith, b.room.1)));
      room = tt;
      full = tt;
      raises = λ e y. refl;
      words = rewrote_none p.values.knows;
      looks = looks_none p.values.knows p.values.knows E refl refl;
      tells = λ base st end m r. (
        subst (CutOn same_handle (cut_short (main_setting g texts main) funcs levels) main.body (main_places g main) base rec.E) (sym b.room.0) (cut_on_none same_handle (main_setting g texts main) funcs levels main.body (main_places g main) base),
        r.sees,
      );
    }

pub ground_is : (g : Grid) (texts : List TextId) (outs opened room cols k : ℕ) → opened ≡ g.opened → room ≡ g.room → cols ≡ g.cols → k ≡ first_output g + outs → (let s : Setting Handle = record { opened = opened; room = room; cols = cols; texts = texts; cell = cell_place cols; row_count = record { slot = k; generation = 0 }; same = same_handle } in s) ≡ setting_over g texts outs
ground_is g texts outs opened room cols k a b c e =
    ap (λ z. let s : Setting Handle = record { opened = z; room = room; cols = cols; texts = texts; cell = cell_place cols; row_count = at_slot k; same = same_handle } in s) a
    ∙ ap (λ z. let s : Setting Handle = record { opened = g.opened; room = z; cols = cols; texts = texts; cell = cell_place cols; row_count = at_slot k; same = same_handle } in s) b
    ∙ ap (λ z. let s : Setting Handle = record { opened = g.opened; room = g.room; cols = z; texts = texts; cell = cell_place z; row_count = at_slot k; same = same_handle } in s) c
    ∙ ap (λ z. let s : Setting Handle = record { opened = g.opened; room = g.room; cols = g.cols; texts = texts; cell = cell_place g.cols; row_count = at_slot z; same = same_handle } in s) e
