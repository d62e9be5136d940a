-- Lists of handles.
use Rattle.std.specs.Prelude.{◌≡◌, ◌⊎◌, ℕ, zero, suc, ◌+◌, ◌*◌, ◌<◌, ◌≤◌, List, [], ◌∷◌, ◌++◌, filter, not, count_by, cond, ltb, ◌==◌}
use Rattle.psac_ops.specs.declared.plain.Handle.{Handle}

abbrev pub Member : {A : Type 0} → A → List A → Type 0
Member x [] = ⊥
Member x (y ∷ ys) = (y ≡ x) ⊎ Member x ys

-- a handle as one word
abbrev pub word_of : Handle → ℕ
word_of h = h.generation * 4294967296 + h.slot

abbrev pub IsHandle : Handle → Type 0
IsHandle h = (h.slot < 4294967296) × (h.generation < 4294967296)

-- the slots from 0 to n-1, with generation 1
abbrev pub fresh : ℕ → List Handle
fresh zero = []
fresh (suc n) = fresh n ++ record { slot = n; generation = 1 } ∷ []

-- the slot with the next generation
abbrev pub later : Handle → Handle
later h = record { slot = h.slot; generation = suc h.generation }

-- how often a slot stands in the list
abbrev pub slot_times : ℕ → List Handle → ℕ
slot_times s hs = count_by (λ (h : Handle). h.slot == s) hs

-- no slot stands twice
abbrev pub IsDistinct : List Handle → Type 0
IsDistinct hs = (s : ℕ) → slot_times s hs ≤ 1

-- the list without a slot
abbrev pub removed : ℕ → List Handle → List Handle
removed s hs = filter (λ (h : Handle). not (h.slot == s)) hs

abbrev pub once_below : ℕ → ℕ → ℕ
once_below k n = cond (ltb k n) 1 0
