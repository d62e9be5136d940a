-- Two ways to name that give each modifiable the same name give the same record.
use Rattle.std.proofs.Common.{◌≡◌, ◌∙◌, List, [], ◌∷◌, refl, ap}
use Rattle.psac_ops.specs.Value.{Value, nil, bool, int, text, ref, pair}
use Rattle.psac_ops.specs.Named.{renamed}
use Rattle.psac_model.specs.Names.{Env}
use Rattle.psac_model.specs.Tree.{Reads}
use Rattle.psac_traced.specs.Rec.{Rec, E, A, W, S, P, R}
use Rattle.psac_traced.specs.Renamed.{env_named, reads_named, rec_named}

module _ {M N : Type 0} (f g : M → N) (same : (m : M) → f m ≡ g m) where
  value_same : (v : Value M) → renamed f v ≡ renamed g v
  value_same nil = refl
  value_same (bool b) = refl
  value_same (int i) = refl
  value_same (text id len) = refl
  value_same (ref m) = ap (λ (x : N). ref x) (same m)
  value_same (pair m n) = ap (λ (x : N). pair x (f n)) (same m) ∙ ap (λ (x : N). pair (g m) x) (same n)

  env_same : (env : Env M) → env_named f env ≡ env_named g env
  env_same [] = refl
  env_same (b ∷ more) = rw (value_same b.1, env_same more) refl

  reads_same : (reads : Reads M) → reads_named f reads ≡ reads_named g reads
  reads_same [] = refl
  reads_same (r ∷ more) = rw (same r.0, value_same r.1, reads_same more) refl

  pub rec_same : (r : Rec M) → rec_named f r ≡ rec_named g r
  rec_same E = refl
  rec_same (A m r) = rw (same m, rec_same r) refl
  rec_same (W m v r) = rw (same m, value_same v, rec_same r) refl
  rec_same (S t r) = rw (rec_same t, rec_same r) refl
  rec_same (P l r) = rw (rec_same l, rec_same r) refl
  rec_same (R room block env reads t) = rw (env_same env, reads_same reads, rec_same t) refl
