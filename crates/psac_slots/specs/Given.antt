-- Slots that are given back one after another.
use Rattle.std.specs.Prelude.{ℕ, zero, suc, List, [], ◌++◌, filter, ◌==◌}
use Rattle.psac_ops.specs.declared.plain.Handle.{Handle}

-- the list's handles of a slot
abbrev pub only : ℕ → List Handle → List Handle
only s hs = filter (λ (h : Handle). h.slot == s) hs

-- the list's handles of the slots from 0 to n-1, lower slots first
abbrev pub by_slot : ℕ → List Handle → List Handle
by_slot zero hs = []
by_slot (suc n) hs = by_slot n hs ++ only n hs
