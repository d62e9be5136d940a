-- A size within small caps is below the greatest number of 64 bits.
use Rattle.std.proofs.Common.{◌≡◌, ℕ, ◌+◌, ◌<◌, ◌≤◌, ◌^◌, [], ◌++◌, Bool, true, false, nat_lt, refl, arith}
use Rattle.std.proofs.lemmas.Bool.Decides.{nat_tests}
use Rattle.psac_model.specs.declared.ends.CapKind.TheVariants.{Nodes, Mods, Links}
use Rattle.psac_model.specs.declared.ends.Size.{Size}
use Rattle.psac_model.specs.declared.ends.Caps.{Caps}
use Rattle.psac_model.specs.Fresh.{over, nodes_of, when}
use Rattle.psac_model.specs.Plain.{capped, capped_count}
use Rattle.psac_engine.specs.Commit.{IsCaps}

none_when : (a b c : Bool) → when a Nodes ++ when b Mods ++ when c Links ≡ [] → (a ≡ false) × (b ≡ false) × (c ≡ false)
none_when true b c none = absurd (cc)
none_when false true c none = absurd (cc)
none_when false false true none = absurd (cc)
none_when false false false none = (refl, refl, refl)

capped_below : (cap n : ℕ) → cap < 2 ^ 32 → nat_lt cap n ≡ false → capped_count n ≡ n
capped_below cap n small none = grind (arith, nat_tests)

nodes_below : (cap a b c n : ℕ) → cap < 2 ^ 32 → nat_lt cap (a + b + c) ≡ false → n ≤ a + b + c → capped_count n ≡ n
nodes_below cap a b c n small none within = grind (arith, nat_tests)

low_by : (cap n : ℕ) → nat_lt cap n ≡ false → n ≤ cap
low_by cap n none = grind (arith, nat_tests)

pub uncapped : (z : Size) (caps : Caps) → IsCaps caps → over z caps ≡ [] → capped z ≡ z
uncapped z caps fit none =
    let each = none_when (nat_lt caps.nodes (nodes_of z)) (nat_lt caps.mods z.mods) (nat_lt caps.links z.links) none in
    let nodes : caps.nodes < 2 ^ 32 = omega arith in
    let mods : caps.mods < 2 ^ 32 = omega arith in
    let links : caps.links < 2 ^ 32 = omega arith in
    rw (
      nodes_below caps.nodes z.s z.p z.r z.s nodes each.0 (omega arith),
      nodes_below caps.nodes z.s z.p z.r z.p nodes each.0 (omega arith),
      nodes_below caps.nodes z.s z.p z.r z.r nodes each.0 (omega arith),
      capped_below caps.mods z.mods mods each.1,
      capped_below caps.links z.links links each.2,
    )
    refl

pub nodes_small : (z : Size) (caps : Caps) → IsCaps caps → over z caps ≡ [] → nodes_of z < 2 ^ 32
nodes_small z caps fit none =
    let each = none_when (nat_lt caps.nodes (nodes_of z)) (nat_lt caps.mods z.mods) (nat_lt caps.links z.links) none in
    let low = low_by caps.nodes (nodes_of z) each.0 in
    omega (arith, low)
