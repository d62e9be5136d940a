-- Binding a name, found from the front.
use Rattle.std.proofs.Common.{◌≡◌, ℕ, zero, suc, ◌<◌, List, [], ◌∷◌, ◌++◌, length, take, drop, slice_set, slice_index_or, refl, ap, sym, ◌∙◌, arith}
use Rattle.psac_ops.specs.declared.plain.Plain.{Plain}
use Rattle.psac_ops.specs.Named.{value_of}
use Rattle.psac_model.specs.Names.{bind}
use Rattle.psac_plain.specs.Slots.{env_of}
use Rattle.psac_plain.specs.declared.binding.Binding.{Binding}

pub bind_here : (x : ℕ) (v : Plain) (c : Binding) (env : List Binding) → c.name ≡ x → (x, value_of v) ∷ env_of env ≡ bind x (value_of v) (env_of (c ∷ env))
bind_here x v c env p = grind (arith, p)

pub bind_hit : (x : ℕ) (v : Plain) (env : List Binding) (i : ℕ) (b : Binding) → i < length env → b ≡ slice_index_or env i b → b.name ≡ x → env_of (slice_set env i (record { name = x; value = v })) ≡ env_of (take i env) ++ bind x (value_of v) (env_of (drop i env))
bind_hit x v [] i b h e p = absurd (omega arith)
bind_hit x v (c ∷ env) zero b h e p = bind_here x v c env (ap (λ y. y.name) (sym e) ∙ p)
bind_hit x v (c ∷ env) (suc i) b h e p = ap (λ y. (c.name, value_of c.value) ∷ y) (bind_hit x v env i b (omega arith) e p)

pub bind_end : (x : ℕ) (v : Plain) (env : List Binding) (i : ℕ) → i ≡ length env → env_of (env ++ record { name = x; value = v } ∷ []) ≡ env_of (take i env) ++ bind x (value_of v) (env_of (drop i env))
bind_end x v [] zero e = refl
bind_end x v [] (suc i) e = refl
bind_end x v (c ∷ env) zero e = absurd (omega arith)
bind_end x v (c ∷ env) (suc i) e = ap (λ y. (c.name, value_of c.value) ∷ y) (bind_end x v env i (omega arith))
