-- What an owned record shows.
use Rattle.std.specs.Prelude.{List, [], ◌∷◌}
use Rattle.psac_ops.specs.declared.plain.Handle.{Handle}
use Rattle.psac_traced.specs.Rec.{Rec}
use Rattle.psac_record.specs.declared.record.Record.{Record, fold-Record}
use Rattle.psac_record.specs.declared.record.Record.TheOpen.{Record-F}
use Rattle.psac_record.specs.Kept.{Kept, E, A, W, S, P, R, bare}

-- a tree, and it in front of the list that it leads to
abbrev pub leads : Kept → List Kept → Kept × List Kept
leads k more = (k, k ∷ more)

abbrev pub shown_step : Record-F (Kept × List Kept) → Kept × List Kept
shown_step Record-F.End = (E, [])
shown_step (Record-F.Made b) = leads (A b.value.modifiable b.value.rest.0) b.value.next.1
shown_step (Record-F.Wrote b) = leads (W b.value.modifiable b.value.value b.value.rest.0) b.value.next.1
shown_step (Record-F.Step b) = leads (S b.value.node b.value.inner.0 b.value.rest.0) b.value.next.1
shown_step (Record-F.Both b) = leads (P b.value.node b.value.left.0 b.value.right.0) b.value.next.1
shown_step (Record-F.Block b) = leads (R b.value.reading b.value.inner.0) b.value.next.1

unfoldable pub shown : Record → Kept × List Kept
shown r = fold-Record (Kept × List Kept) shown_step r

-- the record with its nodes and links
abbrev pub kept_of : Record → Kept
kept_of r = (shown r).0

-- the record that the definitions speak of
abbrev pub rec_of : Record → Rec Handle
rec_of r = bare (kept_of r)

-- the subtrees of a chain
abbrev pub chain_of : Record → List Kept
chain_of r = (shown r).1
