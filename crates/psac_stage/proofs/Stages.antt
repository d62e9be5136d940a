-- A pass with which a run may begin, after a batch was put in.
use Rattle.std.proofs.Common.{◌≡◌, ℕ, ◌+◌, ap, sym, ◌∙◌, subst}
use Rattle.psac_slots.specs.declared.view.ClaimView.{ClaimView}
use Rattle.psac_fork.specs.declared.tables.Pass.{Pass}
use Rattle.psac_fork.specs.declared.tables.Tables.{Tables}
use Rattle.psac_inputs.specs.Grid.{Grid}
use Rattle.psac_model.specs.declared.ends.Caps.{Caps}
use Rattle.psac_plain.specs.Opened.{first_output}
use Rattle.psac_stage.specs.Places.{fixed_slots}
use Rattle.psac_stage.specs.Holding.{HasGrid, HasFixed, IsBare}
use Rattle.psac_stage.specs.Resting.{IsTop, IsRewound, IsYoung, HasSets, HasAll}
use Rattle.psac_stage.specs.Resting.{MayRun}
use Rattle.psac_stage.specs.Storing.{SameSlots}
use Rattle.psac_stage.proofs.Storing.{fixed_same, bare_same}

module _ (outs : ℕ) (g h : Grid) (caps : Caps) (age : ℕ) (t : Tables) (p q : Pass) (same : SameSlots p.values.knows q.values.knows) (readers : q.readers ≡ p.readers) (marks : q.marks ≡ p.marks) (of : q.values.table ≡ p.values.table) (first : first_output h ≡ first_output g) (has : HasGrid h outs q.values.knows) where
  slots : fixed_slots h outs ≡ fixed_slots g outs
  slots = ap (λ n. n + (outs + 1)) first

  staged_all : HasAll g outs caps age p → HasAll h outs caps age q
  staged_all a =
      record {
        mods = subst (IsTop caps.mods) (sym same.claims) a.mods;
        links = subst (λ r. IsTop caps.links r.knows.claims) (sym readers) a.links;
        nodes = subst (λ m. IsTop caps.nodes m.knows.claims) (sym marks) a.nodes;
        young_mods = subst (IsYoung age) (sym same.claims) a.young_mods;
        young_nodes = subst (λ m. IsYoung age m.knows.claims) (sym marks) a.young_nodes;
        fixed = subst (λ n. HasFixed n q.values.knows) (sym slots) (fixed_same p.values.knows q.values.knows same (fixed_slots g outs) a.fixed);
        grid = has;
        sets = subst (λ r. HasSets (fixed_slots h outs + caps.mods) r.knows) (sym readers) (subst (λ n. HasSets (n + caps.mods) p.readers.knows) (sym slots) a.sets);
        alone = ap (λ m. m.knows.shared) marks ∙ a.alone;
      }

  pub staged_may : MayRun outs g caps age t p → MayRun outs h caps age t q
  staged_may m =
      record {
        of = (of ∙ m.of.0, ap (λ r. r.table) readers ∙ m.of.1, ap (λ k. k.table) marks ∙ m.of.2);
        all = staged_all m.all;
        rested = record {
          mods = subst IsRewound (sym same.claims) m.rested.mods;
          links = subst (λ r. IsRewound r.knows.claims) (sym readers) m.rested.links;
          nodes = subst (λ k. IsRewound k.knows.claims) (sym marks) m.rested.nodes;
        };
        clear = record {
          mods = ap (λ (c : ClaimView). c.held) same.claims ∙ m.clear.mods;
          bare = subst (λ n. IsBare n q.values.knows) (sym slots) (bare_same p.values.knows q.values.knows same (fixed_slots g outs) m.clear.bare);
          links = ap (λ r. r.knows.links) readers ∙ m.clear.links;
          links_out = ap (λ r. r.knows.claims.held) readers ∙ m.clear.links_out;
          nodes = ap (λ k. k.knows.own) marks ∙ m.clear.nodes;
          nodes_out = ap (λ k. k.knows.claims.held) marks ∙ m.clear.nodes_out;
          marks = (ap (λ k. k.knows.marked) marks ∙ m.clear.marks.0, ap (λ k. k.knows.busy) marks ∙ m.clear.marks.1, ap (λ k. k.knows.dropped) marks ∙ m.clear.marks.2);
        };
      }
