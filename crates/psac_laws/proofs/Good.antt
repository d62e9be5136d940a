-- What is claimed of a run.
use Rattle.std.proofs.Common.{◌≡◌, ◌≤◌, None, sym, ◌∙◌, subst, arith, inl, inr}
use Rattle.psac_model.specs.declared.ends.End.{End}
use Rattle.psac_model.specs.declared.ends.End.TheVariants.{Done}
use Rattle.psac_model.specs.Names.{Name, Heap, held}
use Rattle.psac_model.specs.Tree.{Tree}
use Rattle.psac_model.specs.Run.{Ran, Manner, plainly}
use Rattle.psac_laws.specs.Manners.{ReadsHeld}
use Rattle.psac_laws.specs.Writes.{times}
use Rattle.psac_laws.proofs.Placed.{written, Placed}
use Rattle.psac_laws.proofs.Places.{none_some, zero_or}
use Rattle.psac_laws.proofs.Heaps.{IsHeld, Closed, Wider, untouched, held_on, wider_written}

pub plainly_reads_held : ReadsHeld plainly
plainly_reads_held h m v e = e

pub wider_same : (h : Heap) → Wider h h
wider_same h m v e = e

-- a run on a heap gives a tree and an end
pub record Same (t : Tree Name) (e : End) (s : Ran Name Heap) (g : Heap) : Type 0 where
  pub tree : s.tree ≡ t
  pub end : s.end ≡ e
  pub heap : (m : Name) → held s.heap m ≡ held (written t g) m

abbrev pub Runs : Type 0
Runs = Manner → Heap → Ran Name Heap

-- a run from a heap writes each name once, none that the heap has, and none but those it may; its reads are placed; and in each manner and on each wider heap it is the same
pub record Good (may must : Name → Type 0) (h : Heap) (f : Runs) : Type 0 where
  pub closed : Closed (f plainly h).heap
  pub kept : (m : Name) → (may m → ⊥) → times m (f plainly h).tree ≡ 0
  pub new : (m : Name) → IsHeld h m → times m (f plainly h).tree ≡ 0
  pub once : (m : Name) → times m (f plainly h).tree ≤ 1
  pub done : (f plainly h).end ≡ Done → (m : Name) → must m → IsHeld (f plainly h).heap m
  pub placed : Placed h (f plainly h).tree
  pub frame : (a : Manner) (g : Heap) → ReadsHeld a → Wider h g → Same (f plainly h).tree (f plainly h).end (f a g) g

pub good_by : (may must : Name → Type 0) (h : Heap) (f k : Runs) → Good may must h f → ((a : Manner) (g : Heap) → ReadsHeld a → Wider h g → f a g ≡ k a g) → Good may must h k
good_by may must h f k x e =
    let p = e plainly h plainly_reads_held (wider_same h) in
    record {
      closed = subst (λ (r : Ran Name Heap). Closed r.heap) p x.closed;
      kept = subst (λ (r : Ran Name Heap). (m : Name) → (may m → ⊥) → times m r.tree ≡ 0) p x.kept;
      new = subst (λ (r : Ran Name Heap). (m : Name) → IsHeld h m → times m r.tree ≡ 0) p x.new;
      once = subst (λ (r : Ran Name Heap). (m : Name) → times m r.tree ≤ 1) p x.once;
      done = subst (λ (r : Ran Name Heap). r.end ≡ Done → (m : Name) → must m → IsHeld r.heap m) p x.done;
      placed = subst (λ (r : Ran Name Heap). Placed h r.tree) p x.placed;
      frame = λ a g fa wi. subst (λ (r : Ran Name Heap). Same r.tree r.end (k a g) g) p (subst (λ s. Same (f plainly h).tree (f plainly h).end s g) (e a g fa wi) (x.frame a g fa wi));
    }

pub good_more : (may must may' must' : Name → Type 0) (h : Heap) (f : Runs) → Good may must h f → ((m : Name) → may m → may' m) → ((m : Name) → must' m → must m) → Good may' must' h f
good_more may must may' must' h f x i j =
    record {
      closed = x.closed;
      kept = λ m not_may. x.kept m (λ y. not_may (i m y));
      new = x.new;
      once = x.once;
      done = λ e m y. x.done e m (j m y);
      placed = x.placed;
      frame = x.frame;
    }

-- the heap that a run leaves, told from its tree
pub left_is : {may must : Name → Type 0} {h : Heap} {f : Runs} → Good may must h f → (m : Name) → held (f plainly h).heap m ≡ held (written (f plainly h).tree h) m
left_is {h = h} x = (x.frame plainly h plainly_reads_held (wider_same h)).heap

pub held_left : {may must : Name → Type 0} {h : Heap} {f : Runs} → Good may must h f → (m : Name) → IsHeld h m → IsHeld (f plainly h).heap m
held_left {h = h} {f = f} x m k =
    let o = held_on (f plainly h).tree h m k in (o.0, left_is x m ∙ o.1)

-- what a run may not write is left as it is
pub same_left : {may must : Name → Type 0} {h : Heap} {f : Runs} → Good may must h f → (m : Name) → (may m → ⊥) → held (f plainly h).heap m ≡ held h m
same_left {h = h} {f = f} x m not_may = left_is x m ∙ untouched (f plainly h).tree h m (x.kept m not_may)

-- a run in a manner on a wider heap leaves a heap that is wider than the first heap, and than the one that was left
pub wider_first : {may must : Name → Type 0} {h : Heap} {f : Runs} → Good may must h f → (a : Manner) (g : Heap) → ReadsHeld a → Wider h g → Wider h (f a g).heap
wider_first {h = h} {f = f} x a g fa wi m v e =
    (x.frame a g fa wi).heap m ∙ untouched (f plainly h).tree g m (x.new m (v, e)) ∙ wi m v e

pub wider_left : {may must : Name → Type 0} {h : Heap} {f : Runs} → Good may must h f → (a : Manner) (g : Heap) → ReadsHeld a → Wider h g → Wider (f plainly h).heap (f a g).heap
wider_left {h = h} {f = f} x a g fa wi m v e =
    (x.frame a g fa wi).heap m ∙ wider_written (f plainly h).tree h g wi m v (sym (left_is x m) ∙ e)

-- a run that is done wrote each name that it had to, once
pub wrote : {may must : Name → Type 0} {h : Heap} {f : Runs} → Good may must h f → (f plainly h).end ≡ Done → (m : Name) → must m → held h m ≡ None → times m (f plainly h).tree ≡ 1
wrote {h = h} {f = f} x e m i lacks =
    let most : times m (f plainly h).tree ≤ 1 = x.once m in
    elim (zero_or (times m (f plainly h).tree)) [
      | inl z ↦ (let k = x.done e m i in absurd (none_some (sym lacks ∙ sym (untouched (f plainly h).tree h m z) ∙ sym (left_is x m) ∙ k.1)))
      | inr o ↦ omega arith
    ]
