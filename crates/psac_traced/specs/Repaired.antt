-- A record that a repair leaves.
use Rattle.std.specs.Prelude.{◌≡◌, Bool, true, false}
use Rattle.psac_traced.specs.Rec.{Rec, E, A, W, S, P, R}
use Rattle.psac_traced.specs.Holds.{read_names}
use Rattle.psac_traced.specs.Mending.{unlike}

-- only what applies inside a block whose reads are alike
abbrev pub WhereLike : Bool → Type 0 → Type 0
WhereLike true inside = Unit {0}
WhereLike false inside = inside

module _ {N : Type 0} (same : N → N → Bool) where
  -- the new record is the old one but inside blocks whose reads are unlike
  abbrev pub Repaired : Rec N → Rec N → Type 0
  Repaired E E = Unit {0}
  Repaired (A m old) (A n new) = (m ≡ n) × Repaired old new
  Repaired (W m v old) (W n u new) = (m ≡ n) × (v ≡ u) × Repaired old new
  Repaired (S t old) (S u new) = Repaired t u × Repaired old new
  Repaired (P t old) (P u new) = Repaired t u × Repaired old new
  Repaired (R room b e reads t) (R level c f again u) =
      (room ≡ level) × (b ≡ c) × (e ≡ f) × (read_names reads ≡ read_names again) × WhereLike (unlike same reads again) (Repaired t u)
  Repaired _ _ = ⊥

  -- the same where the new record may break off, of what was made
  abbrev pub Grown : Rec N → Rec N → Type 0
  Grown old E = Unit {0}
  Grown (A m old) (A n new) = (m ≡ n) × Grown old new
  Grown (W m v old) (W n u new) = Grown old new
  Grown (S t old) (S u new) = Grown t u × Grown old new
  Grown (P t old) (P u new) = Grown t u × Grown old new
  Grown (R room b e reads t) (R level c f again u) = WhereLike (unlike same reads again) (Grown t u)
  Grown _ _ = ⊥
