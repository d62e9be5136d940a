-- What a repair took off main's record may go back, and a run over the present inputs may leave the new one.
use Rattle.std.proofs.Common.{ℕ, ◌<◌, List, map, length, ap, sym, ◌∙◌, subst, arith}
use Rattle.std.specs.Prelude.{sum_by}
use Rattle.psac_ops.specs.declared.plain.Handle.{Handle}
use Rattle.psac_slots.specs.Handles.{Member, slot_times}
use Rattle.psac_slots.specs.Claiming.{times}
use Rattle.psac_slots.specs.declared.view.ClaimView.{ClaimView}
use Rattle.psac_slots.proofs.Pairs.{member_map, map_member}
use Rattle.psac_values.specs.declared.view.OwnedView.{OwnedView}
use Rattle.psac_values.specs.Knowing.{Has}
use Rattle.psac_values.specs.Steps.{made_handle}
use Rattle.psac_readers.specs.declared.view.LinkView.{LinkView}
use Rattle.psac_readers.specs.Chained.{mods_of}
use Rattle.psac_marks.specs.declared.view.MarksView.{MarksView}
use Rattle.psac_fork.specs.declared.tables.Pass.{Pass}
use Rattle.psac_fork.specs.declared.tables.Tables.{Tables}
use Rattle.psac_inputs.specs.Grid.{Grid}
use Rattle.psac_model.specs.declared.ends.Caps.{Caps}
use Rattle.psac_model.specs.declared.ends.End.TheVariants.{Done}
use Rattle.psac_model.specs.Fresh.{World, levels}
use Rattle.psac_traced.specs.Bodies.{IsCode}
use Rattle.psac_traced.specs.Bodies as code
use Rattle.psac_traced.specs.Mended.{Mended}
use Rattle.psac_traced.specs.Scoped.{Scoped}
use Rattle.psac_traced.proofs.Bodies.{code_closed}
use Rattle.psac_traced.proofs.Mended.{traced_mended}
use Rattle.psac_record.specs.Kept.{Kept, Stands, bare, made_of, nodes_in, links_of, all_of}
use Rattle.psac_trace.specs.Grown.{MoreValues}
use Rattle.psac_repair.specs.Ended.{Good}
use Rattle.psac_repair.specs.Exchanged.{Swapped}
use Rattle.psac_repair.specs.Going.{views}
use Rattle.psac_repair.specs.Taking.{taken, given}
use Rattle.psac_reclaim.specs.Owed.{IsNamed}
use Rattle.psac_stage.specs.Places.{base_heap}
use Rattle.psac_stage.specs.Resting.{HasAll}
use Rattle.psac_stage.specs.Settling.{Settles}
use Rattle.psac_stage.specs.Storing.{handles}
use Rattle.psac_stage.specs.Recorded.{setting_at, places_at, LeftBy}
use Rattle.psac_stage.specs.Reclaiming.{HasRecord, Repairs, IsFresh, Owes, HasSlots}
use Rattle.psac_stage.proofs.Begins.{time_in}
use Rattle.psac_stage.proofs.Named.{names_stand}
use Rattle.psac_stage.proofs.Reclaiming.{parts_owed}
use Rattle.psac_engine.specs.Mending.{Staged, Told}
use Rattle.psac_engine.proofs.Repairs.{placed}
use Rattle.psac_engine.proofs.Scopes.{scoped_low}
use Rattle.psac_engine.proofs.Tellings.{Tells, tells, once_each}

module _ (w : World) (g h : Grid) (caps : Caps) (age : ℕ) (t : Tables) (k : Kept) (p : Pass) (s : Staged w g h caps age t k p) where
  abbrev outs : ℕ
  outs = length w.main.dests

  -- what the pass had before the words were put it has
  pub has_now : (m : Handle) → Has s.before.values m → Has p.values.knows m
  has_now m i =
      let at : Member m (handles p.values.knows.mine) =
      subst (Member m) (sym s.changes.same.slots) (subst (λ x. Member x (handles s.before.values.mine)) i.2
      (map_member (λ (o : OwnedView). o.of) i.0 s.before.values.mine i.1)) in
      member_map (λ (o : OwnedView). o.of) m p.values.knows.mine at

  pub has_slots : HasSlots k p.values.knows
  has_slots =
      record {
        once = once_each w g h caps age t k p s;
        mine = λ o i high.
            let at = subst (Member o.of) s.changes.same.slots (map_member (λ (y : OwnedView). y.of) o p.values.knows.mine i) in
            let b = member_map (λ (y : OwnedView). y.of) o.of s.before.values.mine at in
            let e = ap (λ (m : Handle). m.slot) b.2 in
            let f = s.changes.same.fixed in
            let n = s.recorded.values.mine b.0 b.1 (omega (arith, high, e, f)) in
            subst (λ x. 0 < slot_times x (made_of k)) e n;
      }

  pub has_record : HasRecord k (views p)
  has_record =
      record {
        mods = λ f.
            ap (λ (c : ClaimView). sum_by f (map (made_handle p.values.knows.fixed) c.held)) s.changes.same.claims
            ∙ ap (λ n. sum_by f (map (made_handle n) s.before.values.claims.held)) s.changes.same.fixed
            ∙ s.recorded.values.out f;
        nodes = λ f. ap (λ (m : MarksView). sum_by f m.claims.held) s.changes.becomes ∙ s.recorded.nodes.out f;
        links = λ f. ap (λ (ls : List LinkView). sum_by f ls) s.changes.readers.links ∙ s.recorded.links.links f;
        undropped = λ x. ap (λ (m : MarksView). times x m.dropped) s.changes.becomes ∙ s.recorded.nodes.undropped x;
        sets = λ m low. time_in m (mods_of p.readers.knows.walk) (s.all.sets.all m (subst (λ n. m < n) s.all.sets.mods_is low));
      }

  module _ (q : Pass) (new : Kept) (a : Told w h k new (views p) (views q) (Good (bare new))) where
    pub done_told : Tells w g h caps age t k p s q a.lasting.drawn (Good (bare new))
    done_told = tells w g h caps age t k p s q new (Good (bare new)) a

    pub done_mended : Mended (setting_at w h) w.program.funcs (IsCode w.program.funcs w.main.body) (base_heap h w.main.dests) (bare k)
        (bare new) Done
    done_mended = done_told.0.run (base_heap h w.main.dests) (λ m x e. e)

    -- a run over the present inputs may leave the new record
    pub left_now : LeftBy w h (bare new)
    left_now =
        traced_mended (setting_at w h) w.program.funcs (IsCode w.program.funcs w.main.body) (code_closed w.program.funcs w.main.body)
        (bare k) (bare new) levels w.main.body (places_at w h) (base_heap g w.main.dests) (base_heap h w.main.dests) Done
        code.itself
        (placed w g h caps age t k p s).left_it done_mended

    pub repairs : Repairs k new (views p) (views q)
    repairs =
        let l = a.lasting in
        let e = a.replaced in
        record {
          exchanged = e.exchanged;
          swapped = subst (λ xs. Swapped p.marks.knows q.marks.knows xs (all_of nodes_in (given k new))) e.gone_are
              (subst (λ hs. Swapped p.marks.knows q.marks.knows l.gone_nodes hs) e.nodes_are l.swapped);
          values = subst (MoreValues p.values.knows q.values.knows) e.mods_are l.values;
          gone = a.gone;
          made = a.made;
          went = a.went;
          beside = a.beside;
        }

    module _ (z : Pass) (settles : Settles q z) (all : HasAll h outs caps age z) (young : ℕ) (fresh : IsFresh young z) where
      pub owes : Owes new (taken k new) z
      owes = parts_owed k new (views p) q z young has_record repairs settles fresh

      pub names : (x : Stands) → Member x (links_of new) → IsNamed z.values.knows.fixed (made_of new) x.of
      names x i =
          names_stand z.values.knows.fixed new (subst (λ n. Scoped (λ m. m.slot < n) (bare new)) (sym all.fixed.fixed_is)
          (scoped_low w h s.now (bare new) left_now).0) x i
