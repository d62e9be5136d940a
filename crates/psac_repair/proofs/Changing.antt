-- What a block reads now, where that isn't what it read.
use Rattle.std.proofs.Common.{◌≡◌, true, List, [], ◌∷◌, map, refl}
use Rattle.psac_ops.specs.declared.plain.Handle.{Handle}
use Rattle.psac_ops.specs.Named.{same_handle}
use Rattle.psac_values.specs.declared.view.ValueView.{ValueView}
use Rattle.psac_traced.specs.Mending.{unlike}
use Rattle.psac_record.specs.declared.parts.Seen.{Seen}
use Rattle.psac_record.specs.Kept.{reads_of, stands}
use Rattle.psac_repair.specs.Seen.{SeenNow}
use Rattle.psac_repair.specs.Changing.{Changed}
use Rattle.psac_repair.proofs.Sighted.{now_of}

links_now : (v : ValueView) (reads again : List Seen) → SeenNow v reads again → (n : Handle) → map (stands n) again ≡ map (stands n) reads
links_now v [] [] s n = refl
links_now v [] (t ∷ again) s n = absurd s
links_now v (r ∷ reads) [] s n = absurd s
links_now v (r ∷ reads) (t ∷ again) s n = rw (s.0, s.1, links_now v reads again s.3 n) refl

pub changed_now : (v : ValueView) (reads again : List Seen) → SeenNow v reads again → unlike same_handle (reads_of reads) (reads_of again) ≡ true → Changed v reads again
changed_now v reads again s e = record { links = links_now v reads again s; now = now_of v reads again s; other = e }
