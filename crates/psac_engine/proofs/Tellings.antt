-- What a repair of main's record tells, and what the pass has then.
use Rattle.std.proofs.Common.{◌≡◌, ℕ, ◌≤◌, ◌==◌, cond, List, [], map, length, ap, arith}
use Rattle.psac_ops.specs.declared.plain.Handle.{Handle}
use Rattle.psac_slots.specs.Handles.{slot_times}
use Rattle.psac_values.specs.declared.view.OwnedView.{OwnedView}
use Rattle.psac_fork.specs.declared.tables.Pass.{Pass}
use Rattle.psac_fork.specs.declared.tables.Tables.{Tables}
use Rattle.psac_inputs.specs.Grid.{Grid}
use Rattle.psac_model.specs.declared.ends.Caps.{Caps}
use Rattle.psac_model.specs.declared.ends.CapKind.{CapKind}
use Rattle.psac_model.specs.declared.ends.CapKind.TheVariants as cap
use Rattle.psac_model.specs.Fresh.{World, levels}
use Rattle.psac_laws.specs.Standing.{series_of, params}
use Rattle.psac_laws.proofs.Rules.{Leaves, leaves}
use Rattle.psac_traced.specs.Bodies.{IsCode}
use Rattle.psac_traced.specs.Rec.{writes}
use Rattle.psac_record.specs.Kept.{Kept, bare}
use Rattle.psac_trace.specs.Rights.{Heap, Within, Sees}
use Rattle.psac_trace.specs.Grown.{MoreClaims, claims_in}
use Rattle.psac_repair.specs.Ended.{Ended, Good, Fault, Other}
use Rattle.psac_repair.specs.Going.{views}
use Rattle.psac_repair.specs.Mends as mends
use Rattle.psac_repair.proofs.Steps.{within_base}
use Rattle.psac_stage.specs.Places.{base_heap}
use Rattle.psac_stage.specs.Holding.{entries}
use Rattle.psac_stage.specs.Resting.{HasAll}
use Rattle.psac_stage.specs.Recorded.{setting_at, places_at}
use Rattle.psac_stage.specs.Storing.{handles}
use Rattle.psac_stage.proofs.Counts.{sum_map}
use Rattle.psac_engine.specs.Mending.{Staged, Told}
use Rattle.psac_stage.proofs.Grown.{Grew, all_grown}
use Rattle.psac_engine.proofs.Repairs.{placed}

module _ (w : World) (g h : Grid) (caps : Caps) (age : ℕ) (t : Tables) (k : Kept) (p : Pass) (s : Staged w g h caps age t k p) where
  abbrev ds : List ℕ
  ds = w.main.dests

  abbrev base : Heap
  base = base_heap h ds

  abbrev pub whole_left : Leaves (map series_of w.main.body) (params w.main) []
  whole_left = leaves (map series_of w.main.body) (params w.main) [] s.checked.start.body

  entries_handles : (x : ℕ) (mine : List OwnedView) → slot_times x (handles mine) ≡ entries x mine
  entries_handles x mine = sum_map (λ (o : OwnedView). o.of) (λ (m : Handle). cond (m.slot == x) 1 0) mine

  -- each slot stands once
  pub once_each : (x : ℕ) → entries x p.values.knows.mine ≤ 1
  once_each x =
      let a = s.recorded.values.once x in
      let b = entries_handles x p.values.knows.mine in
      let c = entries_handles x s.before.values.mine in
      let d = ap (slot_times x) s.changes.same.slots in
      omega (arith, a, b, c, d)

  -- what is told of a repair of main's record, over the present inputs
  abbrev pub Tells : Pass → (CapKind → ℕ) → Ended → Type 0
  Tells q drawn e =
      mends.Told (setting_at w h) w.program.funcs (IsCode w.program.funcs w.main.body) (params w.main) whole_left.end.unwritten
      (places_at w h) (bare k) p.values.knows q.values.knows base drawn e

  pub inputs_seen : (q : Pass) (drawn : CapKind → ℕ) (e : Ended) → Tells q drawn e → Within base (Sees q.values.knows)
  inputs_seen q drawn (Good new) a = within_base (writes new) base q.values.knows a.0.fresh a.1.sees
  inputs_seen q drawn (Fault why line) a = a.2
  inputs_seen q drawn (Other why) a = a.5

  module _ (q : Pass) (new : Kept) (e : Ended) (a : Told w h k new (views p) (views q) e) where
    pub tells : Tells q a.lasting.drawn e
    tells =
        a.tells levels w.main.body (places_at w h) (base_heap g ds) base (params w.main) whole_left.end (placed w g h caps age t k p s)

    pub grew : Grew p q a.lasting.mods
    grew =
        let l = a.lasting in
        let r = a.relinks.relinked in
        record {
          stays = l.stays;
          many = l.drew;
          claims = claims;
          values = l.values;
          sets = r.mods;
          walk = r.walk;
          shared = r.shared;
          nodes_shared = l.shared;
        }
      where
        claims : (c : CapKind) → MoreClaims (claims_in c p) (claims_in c q) (a.lasting.drew c)
        claims cap.Nodes = a.lasting.claims cap.Nodes
        claims cap.Mods = a.lasting.claims cap.Mods
        claims cap.Links = a.lasting.claims cap.Links

    -- the pass has all, however the repair ended
    pub all_told : HasAll h (length ds) caps age q
    all_told = all_grown h s.now ds caps age p q s.all once_each a.lasting.mods grew (inputs_seen q a.lasting.drawn e tells)
