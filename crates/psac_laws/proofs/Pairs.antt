-- The claims of the two sides of a par, run in either order.
use Rattle.std.proofs.Common.{◌≡◌, ◌+◌, ◌≤◌, true, false, Some, refl, ap, sym, ◌∙◌, subst, arith, ◌⊎◌, inl, inr}
use Rattle.psac_model.specs.declared.ends.End.{End}
use Rattle.psac_model.specs.declared.ends.End.TheVariants.{Done, Stop}
use Rattle.psac_model.specs.Names.{Name, Heap, Path, held}
use Rattle.psac_model.specs.Tree.{P}
use Rattle.psac_model.specs.Run.{plainly, sides, first_stop}
use Rattle.psac_laws.specs.Writes.{times}
use Rattle.psac_laws.proofs.Placed.{written, Placed}
use Rattle.psac_laws.proofs.Places.{zero_or}
use Rattle.psac_laws.proofs.Heaps.{IsHeld, Wider, untouched, writes_some, held_on, held_more, same_written, swapped, known_more}
use Rattle.psac_laws.proofs.Good.{plainly_reads_held, wider_same, Same, Runs, Good, left_is, held_left, wider_first}

abbrev pub pair_runs : Path → Runs → Runs → Runs
pair_runs path f k a g = sides (a.left_first path) (f a) (k a) g

first_done : (a b : End) → first_stop a b ≡ Done → (a ≡ Done) × (b ≡ Done)
first_done Done b e = (refl, e)
first_done (Stop k n) b e = absurd cc

-- both sides of a par
pub good_pair : (may1 must1 may2 must2 may must : Name → Type 0) (h : Heap) (path : Path) (f k : Runs) → Good may1 must1 h f → Good may2 must2 h k → ((m : Name) → may1 m → may2 m → ⊥) → ((m : Name) → may1 m → may m) → ((m : Name) → may2 m → may m) → ((m : Name) → must m → must1 m ⊎ must2 m) → Good may must h (pair_runs path f k)
good_pair may1 must1 may2 must2 may must h path f k x y apart i j split =
    let l = f plainly h in
    let o = k plainly h in
    let r = k plainly l.heap in
    let after_left : Wider h l.heap = wider_first x plainly h plainly_reads_held (wider_same h) in
    let at : Same o.tree o.end r l.heap = y.frame plainly l.heap plainly_reads_held after_left in
    let up : (n : Name) → IsHeld l.heap n → IsHeld r.heap n = λ n z. let q = held_on o.tree l.heap n z in (q.0, at.heap n ∙ q.1) in
    let one : (m : Name) → times m l.tree + times m o.tree ≤ 1 = λ m.
    let a : times m l.tree ≤ 1 = x.once m in
    let b : times m o.tree ≤ 1 = y.once m in
    elim (zero_or (times m l.tree)) [
      | inl z ↦ omega arith
      | inr p ↦
          elim (zero_or (times m o.tree)) [
            | inl z ↦ omega arith
            | inr q ↦ absurd (let c : times m o.tree ≡ 0 = y.kept m (λ two. let d : times m l.tree ≡ 0 = x.kept m (λ first. apart m first two) in omega arith) in omega arith)
          ]
    ] in
    record {
      closed = λ m v e.
          elim (zero_or (times m o.tree)) [
            | inl z ↦ known_more l.heap r.heap up v (x.closed m v (sym (at.heap m ∙ untouched o.tree l.heap m z) ∙ e))
            | inr p ↦
                (let w = writes_some o.tree m p in
                let here : held o.heap m ≡ Some v = left_is y m ∙ w.1 h ∙ sym (w.1 l.heap) ∙ sym (at.heap m) ∙ e in
                known_more o.heap r.heap (λ n z.
                let q = held_more o.tree h l.heap (held_left x) n (z.0, sym (left_is y n) ∙ z.1) in
                (q.0, at.heap n ∙ q.1)) v (y.closed m v here))
          ];
      kept = λ m not_may.
          let a : times m l.tree ≡ 0 = x.kept m (λ z. not_may (i m z)) in
          let b : times m o.tree ≡ 0 = y.kept m (λ z. not_may (j m z)) in
          rw (at.tree, a, b) (omega arith);
      new = λ m had.
          let a : times m l.tree ≡ 0 = x.new m had in
          let b : times m o.tree ≡ 0 = y.new m had in
          rw (at.tree, a, b) (omega arith);
      once = λ m. rw at.tree (one m);
      done = λ q m z.
          let e = first_done l.end r.end q in
          elim (split m z) [
            | inl s ↦ up m (x.done e.0 m s)
            | inr s ↦
                (let p = y.done (sym at.end ∙ e.1) m s in
                let n = held_more o.tree h l.heap (held_left x) m (p.0, sym (left_is y m) ∙ p.1) in
                (n.0, at.heap m ∙ n.1))
          ];
      placed = (x.placed, subst (Placed h) (sym at.tree) y.placed);
      frame = λ a g fa wi.
          let first = x.frame a g fa wi in
          let second = y.frame a (f a g).heap fa (wider_first x a g fa wi) in
          let early = y.frame a g fa wi in
          let late = x.frame a (k a g).heap fa (wider_first y a g fa wi) in
          elim (a.left_first path) as (λ b. Same (P l.tree r.tree) (first_stop l.end r.end) (sides b (f a) (k a) g) g) [
            | true ↦ record {
              tree = ap (λ z. P z (k a (f a g).heap).tree) first.tree ∙ ap (P l.tree) (second.tree ∙ sym at.tree);
              end = ap (λ z. first_stop z (k a (f a g).heap).end) first.end ∙ ap (first_stop l.end) (second.end ∙ sym at.end);
              heap = λ m. second.heap m ∙ same_written o.tree (f a g).heap (written l.tree g) first.heap m ∙ ap (λ z. held (written z (written l.tree g)) m) (sym at.tree);
            }
            | false ↦ record {
              tree = ap (λ z. P z (k a g).tree) late.tree ∙ ap (P l.tree) (early.tree ∙ sym at.tree);
              end = ap (λ z. first_stop z (k a g).end) late.end ∙ ap (first_stop l.end) (early.end ∙ sym at.end);
              heap = λ m. late.heap m ∙ same_written l.tree (k a g).heap (written o.tree g) early.heap m ∙ swapped l.tree o.tree g m (one m) ∙ ap (λ z. held (written z (written l.tree g)) m) (sym at.tree);
            }
          ];
    }
