-- What a pass has after a run of main's body.
use Rattle.std.proofs.Common.{◌≡◌, ℕ, ◌+◌, ◌≤◌, ◌==◌, List, [], length, inl, inr, arith}
use Rattle.std.proofs.lemmas.Bool.{cases_lt}
use Rattle.psac_ops.specs.declared.plain.Handle.{Handle}
use Rattle.psac_slots.specs.Handles.{Member, IsDistinct, slot_times}
use Rattle.psac_values.specs.declared.view.OwnedView.{OwnedView}
use Rattle.psac_fork.specs.declared.tables.Pass.{Pass}
use Rattle.psac_fork.specs.declared.tables.Tables.{Tables}
use Rattle.psac_inputs.specs.Grid.{Grid, IsGrid}
use Rattle.psac_model.specs.declared.ends.Caps.{Caps}
use Rattle.psac_laws.proofs.Places.{nat_is, zero_or}
use Rattle.psac_trace.specs.Rights.{Within, Sees}
use Rattle.psac_trace.specs.Grown.{count, Made, Moves}
use Rattle.psac_stage.specs.Places.{fixed_slots, base_heap}
use Rattle.psac_stage.specs.Holding.{entries}
use Rattle.psac_stage.specs.Resting.{HasAll, IsCleared}
use Rattle.psac_stage.proofs.Members.{counted_in}
use Rattle.psac_stage.proofs.Grown.{Grew, all_grown, grown_alone, grown_behind, grown_distinct, grown_entries, grown_few}

module _ (g : Grid) (ok : IsGrid g) (ds : List ℕ) (caps : Caps) (age : ℕ) (t : Tables) (p q : Pass) (all : HasAll g (length ds) caps age p) (clear : IsCleared (fixed_slots g (length ds)) p) (made : Made) (moves : Moves t p q made) where
  abbrev fixed : ℕ
  fixed = fixed_slots g (length ds)

  pub none_before : (s : ℕ) → fixed ≤ s → entries s p.values.knows.mine ≡ 0
  none_before s high =
      elim (zero_or (entries s p.values.knows.mine)) [
        | inl z ↦ z
        | inr more ↦
            (let k = counted_in (λ (o : OwnedView). o.of.slot == s) p.values.knows.mine more in
            let e = nat_is k.0.of.slot s k.2 in
            let b = clear.bare k.0 k.1 in
            absurd (omega (arith, e, b, high)))
      ]

  once_then : (s : ℕ) → entries s p.values.knows.mine ≤ 1
  once_then s =
      elim (cases_lt s fixed) [
        | inl low ↦ (let o = all.fixed.once s low in omega (arith, o))
        | inr high ↦ (let z = none_before s high in omega (arith, z))
      ]

  grew : Grew p q made.mods
  grew =
      record {
        stays = moves.stays;
        many = λ c. count c made;
        claims = moves.claims;
        values = moves.values;
        sets = moves.links.mods;
        walk = moves.links.walk;
        shared = moves.links.shared;
        nodes_shared = moves.nodes.shared;
      }

  -- what was made lies behind the inputs and outputs
  pub behind : (m : Handle) → Member m made.mods → fixed ≤ m.slot
  behind = grown_behind g ok ds caps age p q all once_then made.mods grew

  pub distinct : IsDistinct made.mods
  distinct = grown_distinct g ok ds caps age p q all once_then made.mods grew

  pub entries_now : (s : ℕ) → entries s q.values.knows.mine ≡ entries s p.values.knows.mine + slot_times s made.mods
  entries_now = grown_entries g ok ds caps age p q all once_then made.mods grew

  pub few : (s : ℕ) → entries s q.values.knows.mine ≤ 1
  few = grown_few g ok ds caps age p q all once_then made.mods grew

  pub alone_now : q.values.knows.known ≡ []
  alone_now = grown_alone g ok ds caps age p q all once_then made.mods grew

  pub all_after : Within (base_heap g ds) (Sees q.values.knows) → HasAll g (length ds) caps age q
  all_after = all_grown g ok ds caps age p q all once_then made.mods grew
