-- What a record that was taken apart shows.
use Rattle.psac_record.specs.declared.look.Look.{Look}
use Rattle.psac_record.specs.declared.look.Look.TheVariants as look
use Rattle.psac_record.specs.declared.part.Part.{Part}
use Rattle.psac_record.specs.declared.part.Part.TheVariants as part
use Rattle.psac_record.specs.Kept.{Kept, E, A, W, S, P, R}
use Rattle.psac_record.specs.Shown.{kept_of}

abbrev pub part_of : Part → Kept
part_of part.End = E
part_of (part.Made place rest) = A place.value.modifiable (kept_of rest)
part_of (part.Wrote place rest) = W place.value.modifiable place.value.value (kept_of rest)
part_of (part.Step place inner rest) = S place.value.node (kept_of inner) (kept_of rest)
part_of (part.Both place left right) = P place.value.node (kept_of left) (kept_of right)
part_of (part.Block place inner) = R place.value.reading (kept_of inner)

-- what a record that is looked at shows
abbrev pub look_of : Look → Kept
look_of look.End = E
look_of (look.Made m rest) = A m (kept_of rest.now)
look_of (look.Wrote m v rest) = W m v (kept_of rest.now)
look_of (look.Step node inner rest) = S node (kept_of inner.now) (kept_of rest.now)
look_of (look.Both node left right) = P node (kept_of left.now) (kept_of right.now)
look_of (look.Block reading inner) = R reading.now (kept_of inner.now)
