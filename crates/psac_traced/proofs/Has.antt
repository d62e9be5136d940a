-- Modifiables that have a name.
use Rattle.std.proofs.Common.{◌≡◌, Bool, true, false, if◌then◌else◌, [], ◌∷◌, refl, ap, sym, ◌∙◌, ◌⊎◌, inl, inr}
use Rattle.psac_ops.specs.Value.{Value, nil, bool, int, text, ref, pair}
use Rattle.psac_model.specs.Names.{Name, Env}
use Rattle.psac_naming.specs.Alike.{Alike, Envs}
use Rattle.psac_naming.specs.Naming.{Naming, IsNamed, IsOneToOne, IsSameTest}
use Rattle.psac_traced.specs.Rec.{HeapOf}
use Rattle.psac_traced.specs.Renamed.{Heaps}
use Rattle.psac_traced.specs.Places.{name_in}
use Rattle.psac_traced.specs.Scoped.{On, ReadsOf}

-- what is alike to something names only what has a name
module _ {M N : Type 0} (T : M → N → Type 0) where
  abbrev pub Has : M → Type 0
  Has m = (n : N) × T m n

  value_has : (v : Value M) (u : Value N) → Alike T v u → Alike (On Has) v v
  value_has nil nil h = tt
  value_has (bool a) (bool b) h = refl
  value_has (int a) (int b) h = refl
  value_has (text i k) (text j l) h = (refl, refl)
  value_has (ref m) (ref n) h = ((n, h), refl)
  value_has (pair k l) (pair m n) h = (((m, h.0), refl), ((n, h.1), refl))
  value_has _ _ h = absurd h

  pub env_has : (env : Env M) (env' : Env N) → Envs T env env' → Envs (On Has) env env
  env_has [] [] h = tt
  env_has (a ∷ env) (b ∷ env') h = ((refl, value_has a.1 b.1 h.0.1), env_has env env' h.1)
  env_has [] (b ∷ env') h = absurd h
  env_has (a ∷ env) [] h = absurd h

  pub heap_has : (heap : HeapOf M) (heap' : HeapOf N) → Heaps T heap heap' → ReadsOf Has heap
  heap_has [] [] h = tt
  heap_has (a ∷ heap) (b ∷ heap') h = ((((b.0, h.0.0), refl), value_has a.1 b.1 h.0.1), heap_has heap heap' h.1)
  heap_has [] (b ∷ heap') h = absurd h
  heap_has (a ∷ heap) [] h = absurd h

module _ {M : Type 0} (same : M → M → Bool) (is : IsSameTest same) where
  -- the first name is the one name
  pub name_in_is : (ns : Naming M) → IsOneToOne ns → (m : M) (n : Name) → IsNamed ns m n → name_in same ns m ≡ n
  name_in_is [] one m n h = absurd h
  name_in_is (p ∷ ns) one m n h = by (same p.0 m) refl h (name_in_is ns (λ k l o q i j. one k l o q (inr i) (inr j)) m n)
    where
      by : (b : Bool) → same p.0 m ≡ b → ((p.0 ≡ m) × (p.1 ≡ n)) ⊎ IsNamed ns m n → (IsNamed ns m n → name_in same ns m ≡ n) → (if same p.0 m then p.1 else name_in same ns m) ≡ n
      by true e i later = ap (λ b. if b then p.1 else name_in same ns m) e ∙ (one m m p.1 n (inl (is.alone p.0 m e, refl)) i).0 refl
      by false e (inl i) later = absurd (let c : same p.0 m ≡ true = ap (same p.0) (sym i.0) ∙ is.itself p.0 in cc)
      by false e (inr i) later = ap (λ b. if b then p.1 else name_in same ns m) e ∙ later i
