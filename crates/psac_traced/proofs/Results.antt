-- What a result that is one came from.
use Rattle.std.proofs.Common.{◌≡◌, Result, Ok, Err, refl}
use Rattle.psac_ops.specs.Table.{◌>>=◌}

pub ok_is : {A X : Type 0} {x y : A} → (let r : Result A X = Ok x in r ≡ Ok y) → x ≡ y
ok_is h = cc

pub ok_then : {A B X : Type 0} (r : Result A X) (f : A → Result B X) (y : B) → (r >>= f) ≡ Ok y → (x : A) × (r ≡ Ok x) × (f x ≡ Ok y)
ok_then (Ok x) f y h = (x, refl, h)
ok_then (Err k) f y h = absurd cc
