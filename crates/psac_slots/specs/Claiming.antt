-- The rule of a table of claims, and what each step makes of a view.
use Rattle.std.specs.Prelude.{◌≡◌, ◌≢◌, ℕ, suc, ◌+◌, ◌-◌, ◌%◌, ◌^◌, ◌<◌, ◌≤◌, List, [], ◌∷◌, ◌++◌, length, take, drop, true, false, cond, ltb, ◌==◌, Option, Some, None, All, sum_by, count_by, IfSome}
use mathlib.Core.Option.{some}
use lib.ListN.{get_elem?}
use Rattle.psac_slots.specs.declared.view.ClaimView.{ClaimView}
use Rattle.psac_ops.specs.declared.plain.Handle.{Handle}
use Rattle.psac_slots.specs.Branches.{is_prefix, stem}
use Rattle.psac_slots.specs.Handles.{word_of, IsHandle, fresh, later, slot_times, removed, once_below}

abbrev pub first_view : ℕ → ClaimView
first_view count = record { live = true; branch = []; count = count; head = 0; list = fresh count; drawn = []; held = []; over = 0; counter = Some 0 }

abbrev pub spent : ClaimView
spent = record { live = false; branch = []; count = 0; head = 0; list = []; drawn = []; held = []; over = 0; counter = None }

-- the part of the whole that a branch of this length has
abbrev pub weight : ClaimView → ℕ
weight v = cond v.live (2 ^ (62 - length v.branch)) 0

abbrev pub times : ℕ → List ℕ → ℕ
times k xs = count_by (λ x. x == k) xs

-- the word of the ring's k-th entry
abbrev pub place : ℕ → ℕ → ℕ
place count k = suc (k % count)

-- what the rule says of one view
pub record Fits (count counter head : ℕ) (list : List Handle) (v : ClaimView) : Type 0 where
  pub over : v.over ≤ weight v
  pub count_is : v.live ≡ true → v.count ≡ count
  pub head_is : v.live ≡ true → v.head ≡ head
  pub list_is : v.live ≡ true → v.list ≡ list
  pub short : v.live ≡ true → length v.branch ≤ 62
  pub gone : v.live ≡ false → (v.drawn ≡ []) × (v.held ≡ [])
  pub sole : IfSome v.counter (λ c. (c ≡ counter) × (v.live ≡ true) × (v.branch ≡ []))

-- no branch of a live pass begins another's
abbrev pub Apart : List ClaimView → Type 0
Apart views = (i j : ℕ) (v w : ClaimView) → get_elem? views i ≡ some v → get_elem? views j ≡ some w → i ≢ j → v.live ≡ true → w.live ≡ true → is_prefix v.branch w.branch ≡ false

-- the counter, where the list begins in the ring, and the list are these
pub record Claimed (count counter head : ℕ) (list : List Handle) (words : List ℕ) (views : List ClaimView) : Type 0 where
  pub long : count < length words
  pub head_low : head ≤ count
  pub counter_is : get_elem? words 0 ≡ some counter
  pub stored : (k : ℕ) (x : Handle) → get_elem? list k ≡ some x → get_elem? words (place count (head + k)) ≡ some (word_of x)
  pub sized : All IsHandle list
  pub room : (length list ≤ count) × (count < 4294967296)
  pub weights : sum_by weight views ≡ 2 ^ 62
  pub over : sum_by (λ (v : ClaimView). v.over) views ≡ counter - length list
  pub drawn : (k : ℕ) → sum_by (λ (v : ClaimView). times k v.drawn) views ≡ once_below k counter
  pub slots : (s : ℕ) → sum_by (λ (v : ClaimView). slot_times s v.held) views + slot_times s (drop counter list) ≡ once_below s count
  pub all : sum_by (λ (v : ClaimView). length v.held) views + length (drop counter list) ≡ count
  pub each : (id : ℕ) (v : ClaimView) → get_elem? views id ≡ some v → Fits count counter head list v
  pub apart : Apart views

-- the rule of a table of claims
abbrev pub Rule : ℕ → List ℕ → List ClaimView → Type 0
Rule count words views = (counter head : ℕ) × (list : List Handle) × Claimed count counter head list words views

-- the list's entry at the index, where it has one
abbrev pub entry : List Handle → ℕ → List Handle
entry list n = take 1 (drop n list)

-- a sole pass still knows the counter after its own claim
abbrev pub counted_on : Option ℕ → ℕ → Option ℕ
counted_on None n = None
counted_on (Some c) n = Some (suc n)

abbrev pub drew : ClaimView → ℕ → ClaimView
drew v n = record v { drawn = v.drawn ++ n ∷ []; held = v.held ++ entry v.list n; over = v.over + cond (ltb n (length v.list)) 0 1; counter = counted_on v.counter n }

abbrev pub left_of : ClaimView → ClaimView
left_of v = record v { branch = v.branch ++ false ∷ []; counter = None }

abbrev pub right_of : ClaimView → ClaimView
right_of v = record { live = true; branch = v.branch ++ true ∷ []; count = v.count; head = v.head; list = v.list; drawn = []; held = []; over = 0; counter = None }

abbrev pub joined : ClaimView → ClaimView → ClaimView
joined v w = record v { branch = stem v.branch; drawn = v.drawn ++ w.drawn; held = v.held ++ w.held; over = v.over + w.over; counter = None }

-- a claim drew the index n, and h is the slot there
abbrev pub Claims : ClaimView → Handle → ClaimView → Type 0
Claims v h w = (n : ℕ) × (n < length v.list) × (w ≡ drew v n) × (entry v.list n ≡ h ∷ [])

-- the pass is sole: it knows the counter
abbrev pub IsSole : ClaimView → Type 0
IsSole v = (c : ℕ) × (v.counter ≡ Some c)

-- the pass drew the indexes below n, each once, and no other
abbrev pub DrewBelow : ℕ → ClaimView → Type 0
DrewBelow n v = (k : ℕ) → times k v.drawn ≡ once_below k n

abbrev pub learned : ℕ → ClaimView → ClaimView
learned n v = record v { counter = Some n }

abbrev pub counted : Option ℕ → ℕ
counted None = 0
counted (Some c) = c

-- a place of the ring, one turn back where it is past the end
abbrev pub turned : ℕ → ℕ → ℕ
turned count k = cond (ltb k count) k (k - count)

-- the counter is 0 again, and what is left of the list is the list
abbrev pub rewound : ClaimView → ClaimView
rewound v = record v {
  head = turned v.count (v.head + length (take (counted v.counter) v.list));
  list = drop (counted v.counter) v.list;
  drawn = [];
  over = 0;
  counter = Some 0;
}

-- each slot of the table is free or held, and none is both, or stands twice
pub record Accounted (v : ClaimView) : Type 0 where
  pub all : length v.list + length v.held ≡ v.count
  pub slots : (s : ℕ) → slot_times s v.list + slot_times s v.held ≡ once_below s v.count

-- the slot of the handle is free again, with the handle's generation, behind all others
abbrev pub returned : Handle → ClaimView → ClaimView
returned h v = record v { list = v.list ++ h ∷ []; held = removed h.slot v.held }

-- the slot is free again, with the next generation, behind all others
abbrev pub gave : Handle → ClaimView → ClaimView
gave h v = returned (later h) v
