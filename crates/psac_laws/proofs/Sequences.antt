-- The claims of a compound statement and the rest of its body.
use Rattle.std.proofs.Common.{◌≡◌, ℕ, ◌≤◌, refl, ap, sym, ◌∙◌, arith, ◌⊎◌, inl, inr}
use Rattle.psac_model.specs.declared.ends.FaultKind.{FaultKind}
use Rattle.psac_model.specs.declared.ends.End.{End}
use Rattle.psac_model.specs.declared.ends.End.TheVariants.{Done, Stop}
use Rattle.psac_model.specs.Names.{Name, Heap}
use Rattle.psac_model.specs.Tree.{E, S}
use Rattle.psac_model.specs.Run.{Ran, plainly, under, sequence}
use Rattle.psac_laws.specs.Writes.{times}
use Rattle.psac_laws.proofs.Placed.{written}
use Rattle.psac_laws.proofs.Places.{zero_or}
use Rattle.psac_laws.proofs.Heaps.{writes_some, same_written, placed_same}
use Rattle.psac_laws.proofs.Good.{Runs, Good, good_by, left_is, held_left, wider_left}

-- a compound statement that is done, and the rest
abbrev pub next_runs : Runs → Runs → Runs
next_runs f k a g = under (S (f a g).tree) (k a (f a g).heap)

pub good_next : (may1 must1 may2 must2 may must : Name → Type 0) (h : Heap) (f k : Runs) → Good may1 must1 h f → Good may2 must2 (f plainly h).heap k → (f plainly h).end ≡ Done → ((m : Name) → may1 m → may m) → ((m : Name) → may2 m → may m) → ((m : Name) → must m → must1 m ⊎ must2 m) → Good may must h (next_runs f k)
good_next may1 must1 may2 must2 may must h f k x y e i j split =
    let t = f plainly h in
    let u = k plainly t.heap in
    record {
      closed = y.closed;
      kept = λ m not_may.
          let a : times m t.tree ≡ 0 = x.kept m (λ z. not_may (i m z)) in
          let b : times m u.tree ≡ 0 = y.kept m (λ z. not_may (j m z)) in
          rw (a, b) (omega arith);
      new = λ m had.
          let a : times m t.tree ≡ 0 = x.new m had in
          let b : times m u.tree ≡ 0 = y.new m (held_left x m had) in
          rw (a, b) (omega arith);
      once = λ m.
          elim (zero_or (times m t.tree)) [
            | inl z ↦ (let b : times m u.tree ≤ 1 = y.once m in omega arith)
            | inr o ↦
                (let w = writes_some t.tree m o in
                let a : times m t.tree ≤ 1 = x.once m in
                let b : times m u.tree ≡ 0 = y.new m (w.0, left_is x m ∙ w.1 h) in
                omega arith)
          ];
      done = λ q m z.
          elim (split m z) [
            | inl r ↦ held_left y m (x.done e m r)
            | inr r ↦ y.done q m r
          ];
      placed = (x.placed, placed_same u.tree t.heap (written t.tree h) (left_is x) y.placed);
      frame = λ a g fa wi.
          let s = x.frame a g fa wi in
          let r = y.frame a (f a g).heap fa (wider_left x a g fa wi) in
          record {
            tree = ap (λ z. S z (k a (f a g).heap).tree) s.tree ∙ ap (S t.tree) r.tree;
            end = r.end;
            heap = λ m. r.heap m ∙ same_written u.tree (f a g).heap (written t.tree g) s.heap m;
          };
    }

-- a compound statement that stops
abbrev pub stop_runs : Runs → Runs
stop_runs f a g = record { tree = S (f a g).tree E; heap = (f a g).heap; end = (f a g).end }

pub good_stop : (may1 must1 may must : Name → Type 0) (h : Heap) (f : Runs) (why : FaultKind) (line : ℕ) → Good may1 must1 h f → (f plainly h).end ≡ Stop why line → ((m : Name) → may1 m → may m) → Good may must h (stop_runs f)
good_stop may1 must1 may must h f why line x e i =
    let t = f plainly h in
    record {
      closed = x.closed;
      kept = λ m not_may. let a : times m t.tree ≡ 0 = x.kept m (λ z. not_may (i m z)) in omega arith;
      new = λ m had. let a : times m t.tree ≡ 0 = x.new m had in omega arith;
      once = λ m. let a : times m t.tree ≤ 1 = x.once m in omega arith;
      done = λ q m z. absurd (let c : Stop why line ≡ Done = sym e ∙ q in cc);
      placed = (x.placed, tt);
      frame = λ a g fa wi.
          let s = x.frame a g fa wi in
          record { tree = ap (λ z. S z E) s.tree; end = s.end; heap = s.heap };
    }

abbrev pub seq_runs : Runs → Runs → Runs
seq_runs f k a g = sequence (f a g) (k a)

seq_done : (t : Ran Name Heap) (rest : Heap → Ran Name Heap) → t.end ≡ Done → under (S t.tree) (rest t.heap) ≡ sequence t rest
seq_done t rest e = rw e refl

seq_stop : (t : Ran Name Heap) (rest : Heap → Ran Name Heap) (why : FaultKind) (line : ℕ) → t.end ≡ Stop why line → record { tree = S t.tree E; heap = t.heap; end = t.end } ≡ sequence t rest
seq_stop t rest why line e = rw e refl

seq_by : (may1 must1 may2 must2 may must : Name → Type 0) (h : Heap) (f k : Runs) (end : End) → (f plainly h).end ≡ end → Good may1 must1 h f → ((f plainly h).end ≡ Done → Good may2 must2 (f plainly h).heap k) → ((m : Name) → may1 m → may m) → ((m : Name) → may2 m → may m) → ((m : Name) → must m → must1 m ⊎ must2 m) → Good may must h (seq_runs f k)
seq_by may1 must1 may2 must2 may must h f k Done e x y i j split =
    good_by may must h (next_runs f k) (seq_runs f k) (good_next may1 must1 may2 must2 may must h f k x (y e) e i j split)
    (λ a g fa wi. seq_done (f a g) (k a) ((x.frame a g fa wi).end ∙ e))
seq_by may1 must1 may2 must2 may must h f k (Stop why line) e x y i j split =
    good_by may must h (stop_runs f) (seq_runs f k) (good_stop may1 must1 may must h f why line x e i)
    (λ a g fa wi. seq_stop (f a g) (k a) why line ((x.frame a g fa wi).end ∙ e))

-- a compound statement, and the rest where it is done
pub good_seq : (may1 must1 may2 must2 may must : Name → Type 0) (h : Heap) (f k : Runs) → Good may1 must1 h f → ((f plainly h).end ≡ Done → Good may2 must2 (f plainly h).heap k) → ((m : Name) → may1 m → may m) → ((m : Name) → may2 m → may m) → ((m : Name) → must m → must1 m ⊎ must2 m) → Good may must h (seq_runs f k)
good_seq may1 must1 may2 must2 may must h f k x y i j split =
    seq_by may1 must1 may2 must2 may must h f k (f plainly h).end refl x y i j split
