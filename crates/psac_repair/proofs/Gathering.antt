-- Destinations are gathered part by part.
use Rattle.std.proofs.Common.{◌≡◌, ◌⊎◌, ℕ, ◌==◌, List, [], ◌∷◌, ◌++◌, if◌then◌else◌, Some, ap, sym, ◌∙◌, subst, inl, inr, ⊎_elim}
use Rattle.psac_ops.specs.declared.plain.Handle.{Handle}
use Rattle.psac_ops.specs.declared.plain.Plain.{Plain}
use Rattle.psac_ops.specs.Value.{ref}
use Rattle.psac_ops.specs.Named.{value_of}
use Rattle.psac_slots.specs.Handles.{Member}
use Rattle.psac_slots.proofs.Pairs.{member_left, member_right, member_cases}
use Rattle.psac_laws.proofs.Places.{some_is, test_or}
use Rattle.psac_model.specs.Names.{Env, bound}
use Rattle.psac_plain.specs.declared.binding.Binding.{Binding}
use Rattle.psac_plain.specs.Slots.{env_of}
use Rattle.psac_record.specs.declared.parts.Reading.{Reading}
use Rattle.psac_record.specs.Kept.{Kept, E, A, W, S, P, R}
use Rattle.psac_trace.specs.Raising.{puts}
use Rattle.psac_repair.specs.Rebuilt.{Gathers}

pub gathers_none : (env : Env Handle) (xs : List Handle) → Gathers env E xs xs
gathers_none env xs = record { old = λ m i. i; wrote = λ m i. inl i; all = λ m x n i. absurd i }

pub gathers_made : (env : Env Handle) (h : Handle) (k : Kept) (xs ys : List Handle) → Gathers env k xs ys → Gathers env (A h k) xs ys
gathers_made env h k xs ys g = record { old = g.old; wrote = g.wrote; all = g.all }

pub gathers_block : (env : Env Handle) (b : Reading) (k : Kept) (xs ys : List Handle) → Gathers env k xs ys → Gathers env (R b k) xs ys
gathers_block env b k xs ys g = record { old = g.old; wrote = g.wrote; all = g.all }

pub gathers_other : (env : Env Handle) (h : Handle) (v : Plain) (k : Kept) (xs ys : List Handle) → ((n : ℕ) → bound n env ≡ Some (ref h) → ⊥) → Gathers env k xs ys → Gathers env (W h v k) xs ys
gathers_other env h v k xs ys out g =
    record {
      old = g.old;
      wrote = λ m i. ⊎_elim (λ (j : Member m xs). inl j) (λ (j : (x : Plain) × Member (m, x) (puts k)). inr (j.0, inr j.1)) (g.wrote m i);
      all = λ m x n i b.
          ⊎_elim
          (λ (e : (h, v) ≡ (m, x)). absurd (out n (subst (λ (z : Handle). bound n env ≡ Some (ref z)) (ap (λ (z : Handle × Plain). z.0) (sym e)) b)))
          (λ (j : Member (m, x) (puts k)). g.all m x n j b)
          i;
    }

pub gathers_wrote : (env : Env Handle) (h : Handle) (v : Plain) (k : Kept) (xs ys : List Handle) → Gathers env k (xs ++ h ∷ []) ys → Gathers env (W h v k) xs ys
gathers_wrote env h v k xs ys g =
    record {
      old = λ m i. g.old m (member_left m xs (h ∷ []) i);
      wrote = λ m i.
          ⊎_elim
          (λ (j : Member m (xs ++ h ∷ [])).
          ⊎_elim
          (λ (c : Member m xs). inl c)
          (λ (c : Member m (h ∷ [])). ⊎_elim (λ (e : h ≡ m). inr (v, inl (ap (λ (z : Handle). (z, v)) e))) (λ (d : Member m []). absurd d) c)
          (member_cases m xs (h ∷ []) j))
          (λ (j : (x : Plain) × Member (m, x) (puts k)). inr (j.0, inr j.1))
          (g.wrote m i);
      all = λ m x n i b.
          ⊎_elim
          (λ (e : (h, v) ≡ (m, x)). g.old m (member_right m xs (h ∷ []) (inl (ap (λ (z : Handle × Plain). z.0) e))))
          (λ (j : Member (m, x) (puts k)). g.all m x n j b)
          i;
    }

pub gathers_then : (env : Env Handle) (node : Handle) (t k : Kept) (xs ys zs : List Handle) → Gathers env t xs ys → Gathers env k ys zs → Gathers env (S node t k) xs zs
gathers_then env node t k xs ys zs a b =
    record {
      old = λ m i. b.old m (a.old m i);
      wrote = λ m i.
          ⊎_elim
          (λ (j : Member m ys).
          ⊎_elim
          (λ (c : Member m xs). inl c)
          (λ (c : (x : Plain) × Member (m, x) (puts t)). inr (c.0, member_left (m, c.0) (puts t) (puts k) c.1))
          (a.wrote m j))
          (λ (j : (x : Plain) × Member (m, x) (puts k)). inr (j.0, member_right (m, j.0) (puts t) (puts k) j.1))
          (b.wrote m i);
      all = λ m x n i c.
          ⊎_elim
          (λ (j : Member (m, x) (puts t)). b.old m (a.all m x n j c))
          (λ (j : Member (m, x) (puts k)). b.all m x n j c)
          (member_cases (m, x) (puts t) (puts k) i);
    }

pub gathers_both : (env : Env Handle) (node : Handle) (t k : Kept) (xs ys zs : List Handle) → Gathers env t xs ys → Gathers env k ys zs → Gathers env (P node t k) xs zs
gathers_both env node t k xs ys zs a b = let g = gathers_then env node t k xs ys zs a b in record { old = g.old; wrote = g.wrote; all = g.all }

-- a name that is bound to a modifiable is bound by the first binding or behind it
pub bound_front : (n : ℕ) (b : Binding) (bs : List Binding) (m : Handle) → bound n (env_of (b ∷ bs)) ≡ Some (ref m) → (value_of b.value ≡ ref m) ⊎ (bound n (env_of bs) ≡ Some (ref m))
bound_front n b bs m e =
    elim (test_or (b.name == n)) [
      | inl h ↦ inl (some_is (ap (λ z. if z then Some (value_of b.value) else bound n (env_of bs)) (sym h) ∙ e))
      | inr h ↦ inr (ap (λ z. if z then Some (value_of b.value) else bound n (env_of bs)) (sym h) ∙ e)
    ]
