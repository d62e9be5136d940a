-- Which modifiables the reads of a record name.
use Rattle.std.specs.Prelude.{◌≡◌, ◌⊎◌}
use Rattle.psac_model.specs.Tree.{Reads}
use Rattle.psac_naming.specs.Alike.{Each, AlikeRead}
use Rattle.psac_traced.specs.Rec.{Rec, E, A, W, S, P, R}
use Rattle.psac_traced.specs.Places.{Makes}

module _ {M : Type 0} where
  -- a modifiable of this sort, and itself
  abbrev pub On : (M → Type 0) → M → M → Type 0
  On K m n = K m × (m ≡ n)

  abbrev pub Or : (M → Type 0) → (M → Type 0) → M → Type 0
  Or K L m = K m ⊎ L m

  -- only modifiables of this sort were read, and their values name only such
  abbrev pub ReadsOf : (M → Type 0) → Reads M → Type 0
  ReadsOf K reads = Each (AlikeRead (On K)) reads reads

  abbrev pub Reading : (M → Type 0) → Rec M → Type 0
  Reading K E = Unit {0}
  Reading K (A m r) = Reading K r
  Reading K (W m v r) = Reading K r
  Reading K (S t r) = Reading K t × Reading K r
  Reading K (P l r) = Reading K l × Reading K r
  Reading K (R room block env reads t) = ReadsOf K reads × Reading K t

  -- each read names only what is of this sort, or was made before it
  abbrev pub Scoped : (M → Type 0) → Rec M → Type 0
  Scoped K E = Unit {0}
  Scoped K (A m r) = Scoped (Or K (λ k. m ≡ k)) r
  Scoped K (W m v r) = Scoped K r
  Scoped K (S t r) = Scoped K t × Scoped (Or K (Makes t)) r
  Scoped K (P l r) = Scoped K l × Scoped (Or K (Makes l)) r
  Scoped K (R room block env reads t) = ReadsOf K reads × Scoped K t
