-- What an engine hands to a commit, and what the commit told is worth to it.
use Rattle.std.proofs.Common.{◌≡◌, ℕ, ◌+◌, ◌*◌, ◌<◌, List, Option, Some, Result, is_some, ap, sym, ◌∙◌, subst, arith}
use Rattle.std.specs.Prelude.{option_map}
use Rattle.psac_ops.specs.declared.plain.TextId.{TextId}
use Rattle.psac_fork.specs.declared.tables.Pass.{Pass}
use Rattle.psac_inputs.specs.Grid.{Grid}
use Rattle.psac_model.specs.declared.ends.Caps.{Caps}
use Rattle.psac_model.specs.declared.ends.Work.{Work}
use Rattle.psac_model.specs.Fresh.{World}
use Rattle.psac_record.specs.declared.record.Record.{Record}
use Rattle.psac_record.specs.Shown.{kept_of}
use Rattle.psac_engine.specs.declared.answer.Answer.{Answer}
use Rattle.psac_engine.specs.declared.engine.Engine.{Engine}
use Rattle.psac_engine.specs.Commit.{IsCaps}
use Rattle.psac_engine.specs.Mending.{Keeps, HasRunFrom}
use Rattle.psac_engine.specs.Sound.{world_with}
use Rattle.psac_engine.proofs.Kept.{record_out}

-- with the pass and the record taken out of the engine, and its texts as a slice
module _ (e : Engine) (few : e.commits < 1000000000) {p : Pass} (at : e.pass ≡ Some p) {kept : Option Record} (same : kept ≡ e.kept)
    {ts : List TextId} (texts : ts ≡ e.consts.items) where
  abbrev pub w : World
  w = world_with e.program e.consts.items

  abbrev pub age : ℕ
  age = 1 + 2 * e.commits

  pub low : age + 2 < 4294967295
  low = omega (arith, few)

  pub keeps : Keeps (world_with e.program ts) e.grid e.caps age e.tables kept p
  keeps =
      let k : Keeps w e.grid e.caps age e.tables kept p =
      record {
        of = e.held p at;
        all = e.all p at;
        rested = e.rested p at;
        cleared = λ z. e.cleared p at (sym (ap is_some same) ∙ z);
        recorded = λ r is. record_out w e.grid (kept_of r) p (e.stands p at r (sym same ∙ is));
        shows = λ r is. e.shows r (sym same ∙ is);
        outputs = λ z. e.outputs p at (sym (ap is_some same) ∙ z);
        small = λ z. e.small (sym (ap is_some same) ∙ z);
        done = λ z. e.done (sym (ap is_some same) ∙ z);
      } in
      subst (λ (xs : List TextId). Keeps (world_with e.program xs) e.grid e.caps age e.tables kept p) (sym texts) k

  -- the grid of the run that was kept
  abbrev pub before : Option Grid
  before = option_map (λ (r : Record). e.grid) kept

  pub ran : (h : Grid) (q : Pass) {told end : Result (Work × Record) Answer} → told ≡ end
      → ((caps : Caps) (n : ℕ) → IsCaps caps → n + 2 < 4294967295 → Keeps (world_with e.program ts) e.grid caps n e.tables kept p
      → HasRunFrom (world_with e.program ts) before h caps (n + 1) q told)
      → HasRunFrom w before h e.caps (age + 1) q end
  ran h q {told} {end} is run =
      subst (λ (o : Result (Work × Record) Answer). HasRunFrom w before h e.caps (age + 1) q o) is
      (subst (λ (xs : List TextId). HasRunFrom (world_with e.program xs) before h e.caps (age + 1) q told) texts
      (run e.caps age e.within low keeps))
