-- A run looks at nothing but what its names reach.
use Rattle.std.proofs.Common.{◌≡◌, ℕ, nat_lt, Bool, true, false, if◌then◌else◌, List, [], ◌∷◌, Option, Some, None, refl, ap, sym, ◌∙◌, subst, inl, inr}
use Rattle.psac_ops.specs.Value.{Value, nil, bool, int, text, ref, pair}
use Rattle.psac_syntax.specs.declared.program.Stmt.{Stmt}
use Rattle.psac_syntax.specs.declared.program.Func.{Func}
use Rattle.psac_model.specs.Names.{Path, Name, Env, Heap, bound, held, same_name}
use Rattle.psac_model.specs.Expression.{Setting}
use Rattle.psac_model.specs.Run.{Manner, plainly, by_path, by_path_in, run, func_named}
use Rattle.psac_laws.specs.Manners.{ReadsHeld}
use Rattle.psac_laws.proofs.Placed.{written}
use Rattle.psac_model.specs.Series.{has}
use Rattle.psac_laws.specs.Standing.{Standing, series, MeetsSeries}
use Rattle.psac_laws.proofs.Places.{none_some, some_is, test_or, name_is}
use Rattle.psac_laws.proofs.Heaps.{IsHeld, Known, Closed, Wider}
use Rattle.psac_laws.proofs.Good.{plainly_reads_held, Same}
use Rattle.psac_laws.proofs.Safe.{Safe}
use Rattle.psac_laws.proofs.Sound.{run_sound}

lacks_or : (o : Option (Value Name)) (a b : Heap) (m : Name) → Wider a b → held b m ≡ None → held a m ≡ o → o ≡ None
lacks_or None a b m wi e f = refl
lacks_or (Some v) a b m wi e f = absurd (none_some (sym e ∙ wi m v f))

lacks_by : (a b : Heap) (m : Name) → Wider a b → held b m ≡ None → held a m ≡ None
lacks_by a b m wi e = lacks_or (held a m) a b m wi e refl

-- what holds over a heap holds over a part of it that has all that is reached
pub safe_narrow : (w : Setting Name) (st : Standing) (env : Env Name) (h k : Heap) (path : Path) → Safe w st env h path → Wider k h → Closed k → ((r c : ℕ) → nat_lt r w.room ≡ true → nat_lt c w.cols ≡ true → IsHeld k (w.cell r c)) → IsHeld k w.row_count → ((x : ℕ) (v : Value Name) → has x st.known ≡ true → bound x env ≡ Some v → Known k v) → Safe w st env k path
safe_narrow w st env h k path s wi closed cells row_count knows =
    record {
      closed = closed;
      cells = cells;
      row_count = row_count;
      names = s.names;
      knows = λ x i. let b = s.knows x i in (b.0, b.1, knows x b.0 i b.1);
      opens = λ x i. let b = s.opens x i in (b.0, b.1, lacks_by k h b.0 wi b.2);
      apart = s.apart;
      fresh = λ m u. lacks_by k h m wi (s.fresh m u);
      away = s.away;
    }

-- the pairs of a heap whose names pass a test
abbrev pub only : (Name → Bool) → Heap → Heap
only k [] = []
only k (p ∷ h) = if k p.0 then p ∷ only k h else only k h

pub held_only : (k : Name → Bool) (h : Heap) (m : Name) → held (only k h) m ≡ (if k m then held h m else None)
held_only k [] m = let n : Option (Value Name) = None in elim (k m) as (λ b. n ≡ (if b then n else n)) [ true ↦ refl | false ↦ refl ]
held_only k (p ∷ h) m =
    elim (test_or (k p.0)) [
      | inl t ↦
          elim (test_or (same_name p.0 m)) [
            | inl e ↦ (let q : k m ≡ true = subst (λ z. k z ≡ true) (name_is p.0 m e) t in rw (t, e, q) refl)
            | inr e ↦ rw (t, e) (held_only k h m)
          ]
      | inr t ↦
          elim (test_or (same_name p.0 m)) [
            | inl e ↦ (let q : k m ≡ false = subst (λ z. k z ≡ false) (name_is p.0 m e) t in rw (t, q) (held_only k h m ∙ rw q refl))
            | inr e ↦ rw (t, e) (held_only k h m)
          ]
    ]

-- the names in a value pass a test
abbrev pub Within : (Name → Bool) → Value Name → Type 0
Within k (ref m) = k m ≡ true
Within k (pair m n) = (k m ≡ true) × (k n ≡ true)
Within k _ = Unit {0}

-- the test holds of all that is reached from the inputs, the values in scope and the written destinations
pub record Reaches (w : Setting Name) (k : Name → Bool) (st : Standing) (env : Env Name) (h : Heap) : Type 0 where
  pub cells : (r c : ℕ) → nat_lt r w.room ≡ true → nat_lt c w.cols ≡ true → k (w.cell r c) ≡ true
  pub row_count : k w.row_count ≡ true
  pub knows : (x : ℕ) (v : Value Name) → has x st.known ≡ true → bound x env ≡ Some v → Within k v
  pub closed : (m : Name) (v : Value Name) → k m ≡ true → held h m ≡ Some v → Within k v

held_on_only : (k : Name → Bool) (h : Heap) (m : Name) → k m ≡ true → IsHeld h m → IsHeld (only k h) m
held_on_only k h m t i = (i.0, held_only k h m ∙ rw t i.1)

known_only : (k : Name → Bool) (h : Heap) (v : Value Name) → Within k v → Known h v → Known (only k h) v
known_only k h nil t i = tt
known_only k h (bool b) t i = tt
known_only k h (int j) t i = tt
known_only k h (text a b) t i = tt
known_only k h (ref m) t i = held_on_only k h m t i
known_only k h (pair m n) t i = (held_on_only k h m t.0 i.0, held_on_only k h n t.1 i.1)

from_only : (k : Name → Bool) (h : Heap) (m : Name) (v : Value Name) → held (only k h) m ≡ Some v → (k m ≡ true) × (held h m ≡ Some v)
from_only k h m v e =
    elim (test_or (k m)) [
      | inl t ↦ (let f : held h m ≡ Some v = rw t at (sym (held_only k h m) ∙ e) in (t, f))
      | inr t ↦ (let f : None ≡ Some v = rw t at (sym (held_only k h m) ∙ e) in absurd (none_some f))
    ]

-- two heaps that agree on all that is reached give one tree and one end, in every manner
pub agree : (w : Setting Name) (funcs : List Func) → ((f : ℕ) (g : Func) → func_named f funcs ≡ Some g → MeetsSeries g) → (room : ℕ) (body : List Stmt) (st end : Standing) (env : Env Name) (h g : Heap) (path : Path) (k : Name → Bool) → series body st ≡ Some end → Safe w st env h path → Reaches w k st env h → ((m : Name) → k m ≡ true → held g m ≡ held h m) → (a : Manner) → ReadsHeld a → Same (run by_path w funcs room body env h path).tree (run by_path w funcs room body env h path).end (run (by_path_in a) w funcs room body env g path) g
agree w funcs checked room body st end env h g path k t s r same a fa =
    let o = only k h in
    let down : Wider o h = λ m v e. (from_only k h m v e).1 in
    let across : Wider o g = λ m v e. let f = from_only k h m v e in same m f.0 ∙ f.1 in
    let safe = safe_narrow w st env h o path s down
    (λ m v e. let f = from_only k h m v e in known_only k h v (r.closed m v f.0 f.1) (s.closed m v f.1))
    (λ i c p q. held_on_only k h (w.cell i c) (r.cells i c p q) (s.cells i c p q))
    (held_on_only k h w.row_count r.row_count s.row_count)
    (λ x v i e. let b = s.knows x i in known_only k h v (r.knows x v i e) (subst (Known h) (some_is (sym b.1 ∙ e)) b.2)) in
    let good = run_sound w funcs checked room body st end env o path t safe in
    let here = good.frame plainly h plainly_reads_held down in
    let there = good.frame a g fa across in
    record {
      tree = there.tree ∙ sym here.tree;
      end = there.end ∙ sym here.end;
      heap = λ m. there.heap m ∙ ap (λ z. held (written z g) m) (sym here.tree);
    }
