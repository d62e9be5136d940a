-- A handle of an engine has one name at most, and none where it is outlived.
use Rattle.std.proofs.Common.{◌≡◌, List, [], ◌++◌, Option, Some, None, refl, sym, ap, subst, inl, inr, true, false, ◌∙◌}
use Rattle.std.specs.Prelude.{is_some}
use Rattle.psac_ops.specs.declared.plain.Handle.{Handle}
use Rattle.psac_values.specs.declared.view.ValueView.{ValueView}
use Rattle.psac_slots.specs.Claiming.{Accounted}
use Rattle.psac_fork.specs.declared.tables.Pass.{Pass}
use Rattle.psac_inputs.specs.Grid.{Grid, IsGrid}
use Rattle.psac_model.specs.Names.{Name}
use Rattle.psac_model.specs.Fresh.{World}
use Rattle.psac_naming.specs.Naming.{IsNamed, IsOneToOne}
use Rattle.psac_naming.proofs.Namings.{named_either}
use Rattle.psac_laws.proofs.Opening.{IsChecked}
use Rattle.psac_record.specs.declared.record.Record.{Record}
use Rattle.psac_record.specs.Shown.{kept_of}
use Rattle.psac_stage.specs.Places.{fixed_slots}
use Rattle.psac_stage.specs.Holding.{HasFixed, HasGrid}
use Rattle.psac_stage.proofs.Starts.{start, one}
use Rattle.std.specs.Prelude.{length}
use Rattle.psac_engine.specs.declared.engine.Engine.{Engine}
use Rattle.psac_engine.specs.Engine.{world_in}
use Rattle.psac_engine.specs.Held.{AreNamed, IsOutlived, Names, made_names}
use Rattle.psac_engine.proofs.Helds.{Keeping, all_names, live_of, serial}
use Rattle.psac_engine.proofs.Handling as handling

module _ (w : World) (g : Grid) (ok : IsGrid g) (checked : IsChecked w) (v : ValueView) (fixed : HasFixed (fixed_slots g (length w.main.dests)) v)
    (grid : HasGrid g (length w.main.dests) v) (whole : Accounted v.claims) where
  one_of : (kept : Option Record) → Keeping w g ok checked v fixed grid whole kept → (m : Handle) (n k : Name)
      → IsNamed (all_names w g ok checked v fixed grid whole kept) m n → IsNamed (all_names w g ok checked v fixed grid
      whole kept) m k → n ≡ k
  one_of None h m n k i j =
      (one g w.main.dests ok m m n k (there n i) (there k j)).0 refl
    where
      there : (l : Name) → IsNamed (start g w.main.dests ok ++ []) m l → IsNamed (start g w.main.dests ok) m l
      there l p = elim (named_either (start g w.main.dests ok) [] m l p) [ inl q ↦ q | inr q ↦ absurd q ]
  one_of (Some x) h m n k i j = ((serial w g ok checked v fixed grid whole (kept_of x) h.0 h.1).one m m n k i j).0 refl

module _ (e : Engine) (ok : IsGrid e.grid) (checked : IsChecked (world_in e)) where
  named_by : (o : Option Pass) → e.pass ≡ o → AreNamed e
  named_by None is = absurd (let bad : false ≡ true = sym (ap is_some is) ∙ e.here in cc)
  named_by (Some p) is = record {
    one = λ m n k i j.
        one_of (world_in e) e.grid ok checked p.values.knows (handling.fixed e p is ok checked) (handling.grid e p is
        ok checked) (handling.whole e p is ok checked)
        e.kept (handling.keeping e p is ok checked) m n k (handling.named_all e p is ok checked m n i)
        (handling.named_all e p is ok checked m k j);
    none = λ m n out i.
        handling.outlived_dead e p is ok checked m out
        (live_of (world_in e) e.grid ok checked p.values.knows (handling.fixed e p is ok checked) (handling.grid e p is
        ok checked) (handling.whole e p is ok checked)
        e.kept (handling.keeping e p is ok checked) m n (handling.named_all e p is ok checked m n i));
  }

  pub are_named : AreNamed e
  are_named = named_by e.pass refl
