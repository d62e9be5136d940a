-- The claims of a run that stops or is done at once, of an A, a W and an R.
use Rattle.std.proofs.Common.{◌≡◌, ℕ, ◌≤◌, ◌∷◌, Some, None, refl, ap, sym, ◌∙◌, subst, arith, ◌⊎◌, inl, inr}
use Rattle.psac_ops.specs.Value.{Value}
use Rattle.psac_model.specs.declared.ends.End.{End}
use Rattle.psac_model.specs.declared.ends.End.TheVariants.{Done}
use Rattle.psac_model.specs.Names.{Name, Heap, Env, held, same_name}
use Rattle.psac_model.specs.Tree.{E, A, W, R, Reads}
use Rattle.psac_model.specs.Run.{plainly, under}
use Rattle.psac_laws.specs.Writes.{times}
use Rattle.psac_laws.proofs.Placed.{AllHeld}
use Rattle.psac_laws.proofs.Places.{none_some, test_or, name_same, name_is}
use Rattle.psac_laws.proofs.Heaps.{IsHeld, Closed, Wider, held_on}
use Rattle.psac_laws.proofs.Good.{Runs, Good, held_left}

abbrev pub at_once_runs : End → Runs
at_once_runs e a g = record { tree = E; heap = g; end = e }

pub good_at_once : (may must : Name → Type 0) (h : Heap) (e : End) → Closed h → (e ≡ Done → (m : Name) → must m → IsHeld h m) → Good may must h (at_once_runs e)
good_at_once may must h e c d =
    record {
      closed = c;
      kept = λ m not_may. refl;
      new = λ m k. refl;
      once = λ m. omega arith;
      done = d;
      placed = tt;
      frame = λ a g fa wi. record { tree = refl; end = refl; heap = λ m. refl };
    }

pub good_made : (may must : Name → Type 0) (h : Heap) (f : Runs) → Good may must h f → Good may must h (λ a g. under A (f a g))
good_made may must h f x =
    record {
      closed = x.closed;
      kept = x.kept;
      new = x.new;
      once = x.once;
      done = x.done;
      placed = x.placed;
      frame = λ a g fa wi. let s = x.frame a g fa wi in record { tree = ap A s.tree; end = s.end; heap = s.heap };
    }

pub good_block : (may must : Name → Type 0) (h : Heap) (f : Runs) (block : ℕ) (env : Env Name) (reads : Reads Name) → AllHeld h reads → Good may must h f → Good may must h (λ a g. under (R block env reads) (f a g))
good_block may must h f block env reads ah x =
    record {
      closed = x.closed;
      kept = x.kept;
      new = x.new;
      once = x.once;
      done = x.done;
      placed = (ah, x.placed);
      frame = λ a g fa wi. let s = x.frame a g fa wi in record { tree = ap (R block env reads) s.tree; end = s.end; heap = s.heap };
    }

wider_cons : (h g : Heap) (n : Name) (v : Value Name) → Wider h g → Wider ((n, v) ∷ h) ((n, v) ∷ g)
wider_cons h g n v wi m u e =
    elim (test_or (same_name n m)) [
      | inl t ↦ (let k : Some v ≡ Some u = rw t at e in rw t k)
      | inr t ↦ (let k : held h m ≡ Some u = rw t at e in rw t (wi m u k))
    ]

pub held_cons : (h : Heap) (n : Name) (v : Value Name) (m : Name) → IsHeld h m → IsHeld ((n, v) ∷ h) m
held_cons h n v m k = held_on (W n v E) h m k

pub here_cons : (h : Heap) (n : Name) (v : Value Name) → IsHeld ((n, v) ∷ h) n
here_cons h n v = (v, rw (name_same n) refl)

-- a write of a name that the heap lacks
pub good_put : (may must may' must' : Name → Type 0) (h : Heap) (f : Runs) (n : Name) (v : Value Name) → held h n ≡ None → may' n → ((m : Name) → may m → may' m) → ((m : Name) → must' m → (n ≡ m) ⊎ must m) → Good may must ((n, v) ∷ h) f → Good may' must' h (λ a g. under (W n v) (f a ((n, v) ∷ g)))
good_put may must may' must' h f n v lacks mine i j x =
    let t = (f plainly ((n, v) ∷ h)).tree in
    let no_more : times n t ≡ 0 = x.new n (here_cons h n v) in
    record {
      closed = x.closed;
      kept = λ m not_may.
          let k : times m t ≡ 0 = x.kept m (λ y. not_may (i m y)) in
          elim (test_or (same_name n m)) as (λ _. times m (W n v t) ≡ 0) [
            | inl e ↦ absurd (not_may (subst may' (name_is n m e) mine))
            | inr e ↦ rw (e, k) (omega arith)
          ];
      new = λ m had.
          let k : times m t ≡ 0 = x.new m (held_cons h n v m had) in
          elim (test_or (same_name n m)) as (λ _. times m (W n v t) ≡ 0) [
            | inl e ↦ absurd (none_some (sym lacks ∙ ap (held h) (name_is n m e) ∙ had.1))
            | inr e ↦ rw (e, k) (omega arith)
          ];
      once = λ m.
          let k : times m t ≤ 1 = x.once m in
          elim (test_or (same_name n m)) as (λ _. times m (W n v t) ≤ 1) [
            | inl e ↦ (let z : times m t ≡ 0 = subst (λ y. times y t ≡ 0) (name_is n m e) no_more in rw (e, z) (omega arith))
            | inr e ↦ rw e (omega arith)
          ];
      done = λ e m y.
          elim (j m y) [
            | inl q ↦ held_left x m (subst (IsHeld ((n, v) ∷ h)) q (here_cons h n v))
            | inr q ↦ x.done e m q
          ];
      placed = x.placed;
      frame = λ a g fa wi.
          let s = x.frame a ((n, v) ∷ g) fa (wider_cons h g n v wi) in
          record { tree = ap (W n v) s.tree; end = s.end; heap = s.heap };
    }
