-- Parts of two runs that are alike: with one tree and one heap, and both done or neither.
use Rattle.std.proofs.Common.{◌≡◌, Bool, true, false, refl, ap, sym, ◌∙◌, subst}
use Rattle.psac_model.specs.declared.ends.End.{End}
use Rattle.psac_model.specs.declared.ends.End.TheVariants.{Done, Stop}
use Rattle.psac_model.specs.Names.{Name, Heap}
use Rattle.psac_model.specs.Tree.{Tree, E, S, P}
use Rattle.psac_model.specs.Run.{Ran, under, sequence, sequence_by, first_stop, sides}
use Rattle.psac_series.specs.Ways.{told_stop, sides_by}

pub record Alike (s r : Ran Name Heap) : Type 0 where
  pub tree : s.tree ≡ r.tree
  pub heap : s.heap ≡ r.heap
  pub on : s.end ≡ Done → r.end ≡ Done
  pub back : r.end ≡ Done → s.end ≡ Done

pub alike_is : (s t r u : Ran Name Heap) → s ≡ t → r ≡ u → Alike s r → Alike t u
alike_is s t r u e f x = subst (Alike t) f (subst (λ z. Alike z r) e x)

pub alike_self : (r : Ran Name Heap) → Alike r r
alike_self r = record { tree = refl; heap = refl; on = λ e. e; back = λ e. e }

pub alike_under : (f : Tree Name → Tree Name) (s r : Ran Name Heap) → Alike s r → Alike (under f s) (under f r)
alike_under f s r x = record { tree = ap f x.tree; heap = x.heap; on = x.on; back = x.back }

-- a compound statement, and the rest of its body where it is done
alike_next : (s r : Ran Name Heap) (k l : Heap → Ran Name Heap) → Alike s r → Alike (k r.heap) (l r.heap)
    → Alike (under (S s.tree) (k s.heap)) (under (S r.tree) (l r.heap))
alike_next s r k l x more =
    subst (λ z. Alike (under (S s.tree) (k z)) (under (S r.tree) (l r.heap))) (sym x.heap)
    (subst (λ z. Alike (under (S z) (k r.heap)) (under (S r.tree) (l r.heap))) (sym x.tree)
    (alike_under (S r.tree) (k r.heap) (l r.heap) more))

alike_by : (e d : End) (s r : Ran Name Heap) (k l : Heap → Ran Name Heap) → Alike s r → (e ≡ Done → d ≡ Done)
    → (d ≡ Done → e ≡ Done) → (d ≡ Done → Alike (k r.heap) (l r.heap)) → Alike (sequence_by e s k) (sequence_by d r l)
alike_by Done Done s r k l x i j more = alike_next s r k l x (more refl)
alike_by Done (Stop why line) s r k l x i j more = absurd (let c : Stop why line ≡ Done = i refl in cc)
alike_by (Stop why line) Done s r k l x i j more = absurd (let c : Stop why line ≡ Done = j refl in cc)
alike_by (Stop why line) (Stop because at) s r k l x i j more =
    record {
      tree = ap (λ z. S z E) x.tree;
      heap = x.heap;
      on = λ e. absurd (let c : Stop why line ≡ Done = e in cc);
      back = λ e. absurd (let c : Stop because at ≡ Done = e in cc);
    }

pub alike_sequence : (s r : Ran Name Heap) (k l : Heap → Ran Name Heap) → Alike s r
    → (r.end ≡ Done → Alike (k r.heap) (l r.heap)) → Alike (sequence s k) (sequence r l)
alike_sequence s r k l x more = alike_by s.end r.end s r k l x x.on x.back more

first_parts : (l r : End) → first_stop l r ≡ Done → (l ≡ Done) × (r ≡ Done)
first_parts Done r e = (refl, e)
first_parts (Stop why line) r e = absurd cc

first_both : (l r : End) → l ≡ Done → r ≡ Done → first_stop l r ≡ Done
first_both l r e f = ap (λ z. first_stop z r) e ∙ f

told_parts : (told : Bool) (l r : End) → told_stop told l r ≡ Done → (l ≡ Done) × (r ≡ Done)
told_parts true l r e = first_parts l r e
told_parts false l r e = let b = first_parts r l e in (b.1, b.0)

told_both : (told : Bool) (l r : End) → l ≡ Done → r ≡ Done → told_stop told l r ≡ Done
told_both true l r e f = first_both l r e f
told_both false l r e f = first_both r l f e

-- both sides of a par, in one order
pub alike_sides : (first told : Bool) (f g k l : Heap → Ran Name Heap) (h : Heap) → Alike (f h) (g h)
    → Alike (k h) (l h) → Alike (k (g h).heap) (l (g h).heap) → Alike (f (l h).heap) (g (l h).heap)
    → Alike (sides_by first told f k h) (sides first g l h)
alike_sides true told f g k l h x y later early =
    let at : Alike (k (f h).heap) (l (g h).heap) = subst (λ z. Alike (k z) (l (g h).heap)) (sym x.heap) later in
    record {
      tree = ap (λ z. P z (k (f h).heap).tree) x.tree ∙ ap (P (g h).tree) at.tree;
      heap = at.heap;
      on = λ e. let b = told_parts told (f h).end (k (f h).heap).end e in first_both (g h).end (l (g h).heap).end
          (x.on b.0) (at.on b.1);
      back = λ e. let b = first_parts (g h).end (l (g h).heap).end e in told_both told (f h).end (k (f h).heap).end
          (x.back b.0) (at.back b.1);
    }
alike_sides false told f g k l h x y later early =
    let at : Alike (f (k h).heap) (g (l h).heap) = subst (λ z. Alike (f z) (g (l h).heap)) (sym y.heap) early in
    record {
      tree = ap (λ z. P z (k h).tree) at.tree ∙ ap (P (g (l h).heap).tree) y.tree;
      heap = at.heap;
      on = λ e. let b = told_parts told (f (k h).heap).end (k h).end e in first_both (g (l h).heap).end (l h).end
          (at.on b.0) (y.on b.1);
      back = λ e. let b = first_parts (g (l h).heap).end (l h).end e in told_both told (f (k h).heap).end (k h).end
          (at.back b.0) (y.back b.1);
    }

-- the end of a compound statement and the rest of its body
ends_by : (e : End) (s r : Ran Name Heap) (k l : Heap → Ran Name Heap) → s.end ≡ e → r.end ≡ e
    → (s.end ≡ Done → (k s.heap).end ≡ (l r.heap).end) → (sequence_by e s k).end ≡ (sequence_by e r l).end
ends_by Done s r k l i j more = more i
ends_by (Stop why line) s r k l i j more = refl

pub ends_sequence : (s r : Ran Name Heap) (k l : Heap → Ran Name Heap) → s.end ≡ r.end
    → (s.end ≡ Done → (k s.heap).end ≡ (l r.heap).end) → (sequence s k).end ≡ (sequence r l).end
ends_sequence s r k l e more =
    subst (λ z. (sequence_by s.end s k).end ≡ (sequence_by z r l).end) e (ends_by s.end s r k l refl (sym e) more)
