-- Records over two sorts of names, alike but for names that a relation ties.
use Rattle.std.specs.Prelude.{◌≡◌, map}
use Rattle.psac_ops.specs.Named.{renamed}
use Rattle.psac_model.specs.Names.{Env}
use Rattle.psac_model.specs.Tree.{Reads}
use Rattle.psac_naming.specs.Alike.{Each, Alike, AlikeRead, Envs}
use Rattle.psac_traced.specs.Rec.{Rec, E, A, W, S, P, R, HeapOf}

module _ {M N : Type 0} (T : M → N → Type 0) where
  abbrev pub Heaps : HeapOf M → HeapOf N → Type 0
  Heaps = Each (AlikeRead T)

  abbrev pub Recs : Rec M → Rec N → Type 0
  Recs E E = Unit {0}
  Recs (A m r) (A n s) = T m n × Recs r s
  Recs (W m v r) (W n u s) = T m n × Alike T v u × Recs r s
  Recs (S t r) (S u s) = Recs t u × Recs r s
  Recs (P l r) (P k s) = Recs l k × Recs r s
  Recs (R room block env reads t) (R level again env' seen u) = (room ≡ level) × (block ≡ again) × Envs T env env' × Each (AlikeRead T) reads seen × Recs t u
  Recs _ _ = ⊥

  -- each modifiable that the record made has a name
  abbrev pub Tied : Rec M → Type 0
  Tied E = Unit {0}
  Tied (A m r) = (n : N) × T m n × Tied r
  Tied (W m v r) = Tied r
  Tied (S t r) = Tied t × Tied r
  Tied (P l r) = Tied l × Tied r
  Tied (R room block env reads t) = Tied t

  -- modifiables that two records made at one place are tied
  abbrev pub Matched : Rec M → Rec N → Type 0
  Matched (A m r) (A n s) = T m n × Matched r s
  Matched (W m v r) (W n u s) = Matched r s
  Matched (S t r) (S u s) = Matched t u × Matched r s
  Matched (P t r) (P u s) = Matched t u × Matched r s
  Matched (R room block env reads t) (R level again env' seen u) = Matched t u
  Matched _ _ = Unit {0}

  -- a modifiable has one name
  abbrev pub IsOnly : Type 0
  IsOnly = (m : M) (n k : N) → T m n → T m k → n ≡ k

-- other names put for the names
module _ {M N : Type 0} (f : M → N) where
  abbrev pub env_named : Env M → Env N
  env_named = map (λ b. (b.0, renamed f b.1))

  abbrev pub reads_named : Reads M → Reads N
  reads_named = map (λ r. (f r.0, renamed f r.1))

  abbrev pub rec_named : Rec M → Rec N
  rec_named E = E
  rec_named (A m r) = A (f m) (rec_named r)
  rec_named (W m v r) = W (f m) (renamed f v) (rec_named r)
  rec_named (S t r) = S (rec_named t) (rec_named r)
  rec_named (P l r) = P (rec_named l) (rec_named r)
  rec_named (R room block env reads t) = R room block (env_named env) (reads_named reads) (rec_named t)

-- a record over other names that is alike, and of which this is said
pub record Twin {M N : Type 0} (T : M → N → Type 0) (r : Rec M) (Q : Rec N → Type 0) : Type 0 where
  pub rec : Rec N
  pub alike : Recs T r rec
  pub stands : Q rec
