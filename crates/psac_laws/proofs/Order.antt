-- Each block that reads a written name stands after its write.
use Rattle.std.proofs.Common.{◌≡◌, ℕ, ◌==◌, ◌&&◌, ◌||◌, nat_lt, Bool, true, false, if◌then◌else◌, [], ◌∷◌, Some, None, refl, ap, sym, ◌∙◌, subst, ◌⊎◌, inl, inr}
use Rattle.psac_ops.specs.Value.{Value}
use Rattle.psac_model.specs.Names.{Path, Name, Env, Heap, held, same_name}
use Rattle.psac_model.specs.Tree.{Tree, E, A, W, S, P, R, Reads}
use Rattle.psac_laws.proofs.Placed.{written, Placed, AllHeld}
use Rattle.psac_laws.specs.Places.{part_at, stands_before, parted, IsIn, is_input, WrittenBefore, ReadsAfterWrites}
use Rattle.psac_laws.proofs.Places.{none_some, some_is, test_or, nat_is, nat_same, name_is}

-- a write that a tree has
abbrev pub Has : Tree Name → Name → Value Name → Type 0
Has tree m v = (q : Path) × (more : Tree Name) × (part_at q tree ≡ Some (W m v more))

pub write_at : (tree : Tree Name) (h : Heap) (m : Name) (v : Value Name) → held (written tree h) m ≡ Some v → (held h m ≡ Some v) ⊎ Has tree m v
write_at E h m v e = inl e
write_at (A rest) h m v e = elim (write_at rest h m v e) [ inl k ↦ inl k | inr k ↦ inr (3 ∷ k.0, k.1, k.2) ]
write_at (W n u rest) h m v e =
    elim (write_at rest ((n, u) ∷ h) m v e) [
      | inl k ↦
          elim (test_or (same_name n m)) [
            | inl t ↦ (let j : Some u ≡ Some v = rw t at k in inr ([], rest, ap (λ z. Some (W z u rest)) (name_is n m t) ∙ ap (λ z. Some (W m z rest)) (some_is j)))
            | inr t ↦ (let j : held h m ≡ Some v = rw t at k in inl j)
          ]
      | inr k ↦ inr (3 ∷ k.0, k.1, k.2)
    ]
write_at (S t rest) h m v e =
    elim (write_at rest (written t h) m v e) [
      | inl k ↦ elim (write_at t h m v k) [ inl j ↦ inl j | inr j ↦ inr (0 ∷ j.0, j.1, j.2) ]
      | inr k ↦ inr (1 ∷ k.0, k.1, k.2)
    ]
write_at (P l r) h m v e =
    elim (write_at r (written l h) m v e) [
      | inl k ↦ elim (write_at l h m v k) [ inl j ↦ inl j | inr j ↦ inr (0 ∷ j.0, j.1, j.2) ]
      | inr k ↦ inr (1 ∷ k.0, k.1, k.2)
    ]
write_at (R block env reads t) h m v e = elim (write_at t h m v e) [ inl k ↦ inl k | inr k ↦ inr (2 ∷ k.0, k.1, k.2) ]

read_is : (h : Heap) (reads : Reads Name) (m : Name) (v : Value Name) → AllHeld h reads → IsIn (m, v) reads → held h m ≡ Some v
read_is h [] m v k i = absurd i
read_is h (r ∷ rs) m v k (inl e) = subst (λ (z : Name × Value Name). held h z.0 ≡ Some z.1) e k.0
read_is h (r ∷ rs) m v k (inr i) = read_is h rs m v k.1 i

abbrev Found : Heap → Tree Name → Path → Name → Value Name → Type 0
Found h tree at m v = (held h m ≡ Some v) ⊎ WrittenBefore tree at m v

or_true : (b : Bool) → (b || true) ≡ true
or_true true = refl
or_true false = refl

pub found : (tree : Tree Name) (h : Heap) (at : Path) (block : ℕ) (env : Env Name) (reads : Reads Name) (t : Tree Name) (m : Name) (v : Value Name) → Placed h tree → part_at at tree ≡ Some (R block env reads t) → IsIn (m, v) reads → Found h tree at m v
found E h [] block env reads t m v k e i = absurd (let c : E ≡ R block env reads t = some_is e in cc)
found E h (x ∷ at) block env reads t m v k e i = absurd (none_some e)
found (A rest) h [] block env reads t m v k e i = absurd (let c : A rest ≡ R block env reads t = some_is e in cc)
found (A rest) h (x ∷ at) block env reads t m v k e i =
    elim (test_or (x == 3)) [
      | inl q ↦
          (let f : part_at at rest ≡ Some (R block env reads t) = rw q at e in
          elim (found rest h at block env reads t m v k f i) [
            | inl j ↦ inl j
            | inr j ↦ inr (record { place = x ∷ j.place; more = j.more; is = rw q j.is; before = rw (nat_same x, j.before) (or_true (nat_lt x x)); together = j.together })
          ])
      | inr q ↦ (let f : None ≡ Some (R block env reads t) = rw q at e in absurd (none_some f))
    ]
found (W n u rest) h [] block env reads t m v k e i = absurd (let c : W n u rest ≡ R block env reads t = some_is e in cc)
found (W n u rest) h (x ∷ at) block env reads t m v k e i =
    elim (test_or (x == 3)) [
      | inl q ↦
          (let f : part_at at rest ≡ Some (R block env reads t) = rw q at e in
          elim (found rest ((n, u) ∷ h) at block env reads t m v k f i) [
            | inl j ↦
                elim (test_or (same_name n m)) [
                  | inl w ↦ (let y : Some u ≡ Some v = rw w at j in inr (record { place = []; more = rest; is = ap (λ z. Some (W z u rest)) (name_is n m w) ∙ ap (λ z. Some (W m z rest)) (some_is y); before = refl; together = refl }))
                  | inr w ↦ (let y : held h m ≡ Some v = rw w at j in inl y)
                ]
            | inr j ↦ inr (record { place = x ∷ j.place; more = j.more; is = rw q j.is; before = rw (nat_same x, j.before) (or_true (nat_lt x x)); together = j.together })
          ])
      | inr q ↦ (let f : None ≡ Some (R block env reads t) = rw q at e in absurd (none_some f))
    ]
found (S one rest) h [] block env reads t m v k e i = absurd (let c : S one rest ≡ R block env reads t = some_is e in cc)
found (S one rest) h (x ∷ at) block env reads t m v k e i =
    elim (test_or (x == 0)) [
      | inl q ↦
          (let f : part_at at one ≡ Some (R block env reads t) = rw q at e in
          elim (found one h at block env reads t m v k.0 f i) [
            | inl j ↦ inl j
            | inr j ↦ inr (record { place = x ∷ j.place; more = j.more; is = rw q j.is; before = rw (nat_same x, j.before) (or_true (nat_lt x x)); together = rw (nat_same x, q) j.together })
          ])
      | inr q ↦
          elim (test_or (x == 1)) [
            | inl p ↦
                (let f : part_at at rest ≡ Some (R block env reads t) = rw (q, p) at e in
                elim (found rest (written one h) at block env reads t m v k.1 f i) [
                  | inl j ↦
                      elim (write_at one h m v j) [
                        | inl y ↦ inl y
                        | inr y ↦ inr (record {
                          place = 0 ∷ y.0;
                          more = y.1;
                          is = y.2;
                          before = subst (λ z. (nat_lt 0 z || ((0 == z) && stands_before y.0 at)) ≡ true) (sym (nat_is x 1 p)) refl;
                          together = subst (λ z. ((0 == z) && (if 0 == 0 then parted one y.0 at else parted rest y.0 at)) ≡ false) (sym (nat_is x 1 p)) refl;
                        })
                      ]
                  | inr j ↦ inr (record { place = x ∷ j.place; more = j.more; is = rw (q, p) j.is; before = rw (nat_same x, j.before) (or_true (nat_lt x x)); together = rw (nat_same x, q) j.together })
                ])
            | inr p ↦ (let f : None ≡ Some (R block env reads t) = rw (q, p) at e in absurd (none_some f))
          ]
    ]
found (P l r) h [] block env reads t m v k e i = absurd (let c : P l r ≡ R block env reads t = some_is e in cc)
found (P l r) h (x ∷ at) block env reads t m v k e i =
    elim (test_or (x == 0)) [
      | inl q ↦
          (let f : part_at at l ≡ Some (R block env reads t) = rw q at e in
          elim (found l h at block env reads t m v k.0 f i) [
            | inl j ↦ inl j
            | inr j ↦ inr (record { place = x ∷ j.place; more = j.more; is = rw q j.is; before = rw (nat_same x, j.before) (or_true (nat_lt x x)); together = rw (nat_same x, q) j.together })
          ])
      | inr q ↦
          elim (test_or (x == 1)) [
            | inl p ↦
                (let f : part_at at r ≡ Some (R block env reads t) = rw (q, p) at e in
                elim (found r h at block env reads t m v k.1 f i) [
                  | inl j ↦ inl j
                  | inr j ↦ inr (record { place = x ∷ j.place; more = j.more; is = rw (q, p) j.is; before = rw (nat_same x, j.before) (or_true (nat_lt x x)); together = rw (nat_same x, q) j.together })
                ])
            | inr p ↦ (let f : None ≡ Some (R block env reads t) = rw (q, p) at e in absurd (none_some f))
          ]
    ]
found (R b c d one) h [] block env reads t m v k e i =
    let f : R b c d one ≡ R block env reads t = some_is e in
    let g : d ≡ reads = cc in
    inl (read_is h d m v k.0 (subst (IsIn (m, v)) (sym g) i))
found (R b c d one) h (x ∷ at) block env reads t m v k e i =
    elim (test_or (x == 2)) [
      | inl q ↦
          (let f : part_at at one ≡ Some (R block env reads t) = rw q at e in
          elim (found one h at block env reads t m v k.1 f i) [
            | inl j ↦ inl j
            | inr j ↦ inr (record { place = x ∷ j.place; more = j.more; is = rw q j.is; before = rw (nat_same x, j.before) (or_true (nat_lt x x)); together = j.together })
          ])
      | inr q ↦ (let f : None ≡ Some (R block env reads t) = rw q at e in absurd (none_some f))
    ]

pub reads_after_writes : (tree : Tree Name) (h : Heap) → Placed h tree → ((m : Name) → is_input m ≡ false → held h m ≡ None) → ReadsAfterWrites tree
reads_after_writes tree h k lacks at block env reads t m v e i own =
    elim (found tree h at block env reads t m v k e i) [
      | inl j ↦ absurd (none_some (sym (lacks m own) ∙ j))
      | inr j ↦ j
    ]
