-- What a tree's writes do to a heap.
use Rattle.std.proofs.Common.{◌≡◌, ◌+◌, ◌≤◌, if◌then◌else◌, [], ◌∷◌, Some, refl, ap, sym, ◌∙◌, arith, inl, inr}
use Rattle.psac_ops.specs.Value.{Value, nil, bool, int, text, ref, pair}
use Rattle.psac_model.specs.Names.{Name, Heap, held, same_name}
use Rattle.psac_model.specs.Tree.{Tree, E, A, W, S, P, R, Reads}
use Rattle.psac_laws.specs.Writes.{times}
use Rattle.psac_laws.proofs.Placed.{written, Placed, AllHeld}
use Rattle.psac_laws.proofs.Places.{test_or, zero_or}

abbrev pub IsHeld : Heap → Name → Type 0
IsHeld h m = (v : Value Name) × (held h m ≡ Some v)

-- the heap has each name in a value
abbrev pub Known : Heap → Value Name → Type 0
Known h (ref m) = IsHeld h m
Known h (pair m n) = IsHeld h m × IsHeld h n
Known h _ = Unit {0}

-- the heap has each name that a value in it names
abbrev pub Closed : Heap → Type 0
Closed h = (m : Name) (v : Value Name) → held h m ≡ Some v → Known h v

-- the second heap has what the first has
abbrev pub Wider : Heap → Heap → Type 0
Wider h g = (m : Name) (v : Value Name) → held h m ≡ Some v → held g m ≡ Some v

pub untouched : (t : Tree Name) (g : Heap) (m : Name) → times m t ≡ 0 → held (written t g) m ≡ held g m
untouched E g m h = refl
untouched (A rest) g m h = untouched rest g m h
untouched (W n v rest) g m h =
    elim (test_or (same_name n m)) [
      | inl e ↦ (let k : 1 + times m rest ≡ 0 = rw e at h in absurd (omega arith))
      | inr e ↦
          (let k : 0 + times m rest ≡ 0 = rw e at h in
          let z : times m rest ≡ 0 = omega arith in
          untouched rest ((n, v) ∷ g) m z ∙ rw e refl)
    ]
untouched (S t rest) g m h =
    let a : times m t ≡ 0 = omega arith in
    let b : times m rest ≡ 0 = omega arith in
    untouched rest (written t g) m b ∙ untouched t g m a
untouched (P l r) g m h =
    let a : times m l ≡ 0 = omega arith in
    let b : times m r ≡ 0 = omega arith in
    untouched r (written l g) m b ∙ untouched l g m a
untouched (R block env reads t) g m h = untouched t g m h

-- a written name has the same value whatever the heap was
abbrev pub Gives : Tree Name → Name → Type 0
Gives t m = (v : Value Name) × ((g : Heap) → held (written t g) m ≡ Some v)

pub writes_some : (t : Tree Name) (m : Name) → 1 ≤ times m t → Gives t m
writes_some E m h = absurd (omega arith)
writes_some (A rest) m h = writes_some rest m h
writes_some (W n v rest) m h =
    elim (zero_or (times m rest)) [
      | inl z ↦
          elim (test_or (same_name n m)) [
            | inl e ↦ (v, λ g. untouched rest ((n, v) ∷ g) m z ∙ rw e refl)
            | inr e ↦ (let k : 1 ≤ 0 + times m rest = rw e at h in absurd (omega arith))
          ]
      | inr o ↦ (let k = writes_some rest m o in (k.0, λ g. k.1 ((n, v) ∷ g)))
    ]
writes_some (S t rest) m h =
    elim (zero_or (times m rest)) [
      | inl z ↦ (let o : 1 ≤ times m t = omega arith in let k = writes_some t m o in (k.0, λ g. untouched rest (written t g) m z ∙ k.1 g))
      | inr o ↦ (let k = writes_some rest m o in (k.0, λ g. k.1 (written t g)))
    ]
writes_some (P l r) m h =
    elim (zero_or (times m r)) [
      | inl z ↦ (let o : 1 ≤ times m l = omega arith in let k = writes_some l m o in (k.0, λ g. untouched r (written l g) m z ∙ k.1 g))
      | inr o ↦ (let k = writes_some r m o in (k.0, λ g. k.1 (written l g)))
    ]
writes_some (R block env reads t) m h = writes_some t m h

pub held_on : (t : Tree Name) (g : Heap) (m : Name) → IsHeld g m → IsHeld (written t g) m
held_on t g m h =
    elim (zero_or (times m t)) [
      | inl z ↦ (h.0, untouched t g m z ∙ h.1)
      | inr o ↦ (let k = writes_some t m o in (k.0, k.1 g))
    ]

pub held_more : (t : Tree Name) (a b : Heap) → ((n : Name) → IsHeld a n → IsHeld b n) → (m : Name) → IsHeld (written t a) m → IsHeld (written t b) m
held_more t a b f m h =
    elim (zero_or (times m t)) [
      | inl z ↦ (let k = f m (h.0, sym (untouched t a m z) ∙ h.1) in (k.0, untouched t b m z ∙ k.1))
      | inr o ↦ (let k = writes_some t m o in (k.0, k.1 b))
    ]

pub wider_written : (t : Tree Name) (a b : Heap) → Wider a b → Wider (written t a) (written t b)
wider_written t a b f m v h =
    elim (zero_or (times m t)) [
      | inl z ↦ untouched t b m z ∙ f m v (sym (untouched t a m z) ∙ h)
      | inr o ↦ (let k = writes_some t m o in k.1 b ∙ sym (k.1 a) ∙ h)
    ]

pub same_written : (t : Tree Name) (a b : Heap) → ((m : Name) → held a m ≡ held b m) → (m : Name) → held (written t a) m ≡ held (written t b) m
same_written t a b f m =
    elim (zero_or (times m t)) [
      | inl z ↦ untouched t a m z ∙ f m ∙ sym (untouched t b m z)
      | inr o ↦ (let k = writes_some t m o in k.1 a ∙ sym (k.1 b))
    ]

-- what two trees write, where no name is written by both
pub swapped : (l r : Tree Name) (g : Heap) (m : Name) → times m l + times m r ≤ 1 → held (written l (written r g)) m ≡ held (written r (written l g)) m
swapped l r g m h =
    elim (zero_or (times m l)) [
      | inl z ↦
          (let first = untouched l (written r g) m z in
          elim (zero_or (times m r)) [
            | inl y ↦ first ∙ untouched r g m y ∙ sym (untouched l g m z) ∙ sym (untouched r (written l g) m y)
            | inr o ↦ (let k = writes_some r m o in first ∙ k.1 g ∙ sym (k.1 (written l g)))
          ])
      | inr o ↦
          (let k = writes_some l m o in
          let y : times m r ≡ 0 = omega arith in
          k.1 (written r g) ∙ sym (k.1 g) ∙ sym (untouched r (written l g) m y))
    ]

pub known_more : (a b : Heap) → ((n : Name) → IsHeld a n → IsHeld b n) → (v : Value Name) → Known a v → Known b v
known_more a b f nil h = tt
known_more a b f (bool x) h = tt
known_more a b f (int x) h = tt
known_more a b f (text x y) h = tt
known_more a b f (ref m) h = f m h
known_more a b f (pair m n) h = (f m h.0, f n h.1)

pub all_held_same : (a b : Heap) → ((m : Name) → held a m ≡ held b m) → (rs : Reads Name) → AllHeld a rs → AllHeld b rs
all_held_same a b f [] h = tt
all_held_same a b f (r ∷ rs) h = (sym (f r.0) ∙ h.0, all_held_same a b f rs h.1)

pub same_cons : (a b : Heap) (n : Name) (v : Value Name) → ((m : Name) → held a m ≡ held b m) → (m : Name) → held ((n, v) ∷ a) m ≡ held ((n, v) ∷ b) m
same_cons a b n v f m = ap (λ o. if same_name n m then Some v else o) (f m)

pub placed_same : (t : Tree Name) (a b : Heap) → ((m : Name) → held a m ≡ held b m) → Placed a t → Placed b t
placed_same E a b f h = tt
placed_same (A rest) a b f h = placed_same rest a b f h
placed_same (W n v rest) a b f h = placed_same rest ((n, v) ∷ a) ((n, v) ∷ b) (same_cons a b n v f) h
placed_same (S t rest) a b f h = (placed_same t a b f h.0, placed_same rest (written t a) (written t b) (same_written t a b f) h.1)
placed_same (P l r) a b f h = (placed_same l a b f h.0, placed_same r a b f h.1)
placed_same (R block env reads t) a b f h = (all_held_same a b f reads h.0, placed_same t a b f h.1)
