-- What a result that is one came from.
use Rattle.std.proofs.Common.{◌≡◌, ℕ, Option, Some, None, Result, Ok, Err, refl, ap, ◌∙◌}
use Rattle.psac_ops.specs.Value.{Value, nil, bool, int, text, ref, pair}
use Rattle.psac_ops.specs.Table.{◌>>=◌}
use Rattle.psac_model.specs.Names.{Name, Env, bound}
use Rattle.psac_model.specs.Expression.{or_kind}
use Rattle.psac_model.specs.Run.{target, destination}

-- a result is of one of two kinds
pub result_or : {A B X : Type 0} (Q : Result B X → Type 0) (r : Result A X) (f : A → Result B X) → ((k : X) → Q (Err k)) → ((x : A) → r ≡ Ok x → Q (f x)) → Q (r >>= f)
result_or Q (Ok x) f e o = o x refl
result_or Q (Err k) f e o = e k

pub ok_is : {A X : Type 0} {x y : A} → (let r : Result A X = Ok x in r ≡ Ok y) → x ≡ y
ok_is h = cc

pub ok_then : {A B X : Type 0} (r : Result A X) (f : A → Result B X) (y : B) → (r >>= f) ≡ Ok y → (x : A) × (r ≡ Ok x) × (f x ≡ Ok y)
ok_then (Ok x) f y h = (x, refl, h)
ok_then (Err k) f y h = absurd cc

pub or_kind_is : {A : Type 0} (o : Option A) (x : A) → or_kind o ≡ Ok x → o ≡ Some x
or_kind_is (Some y) x h = ap Some (ok_is h)
or_kind_is None x h = absurd cc

pub target_is : (v : Value Name) (m : Name) → target v ≡ Ok m → v ≡ ref m
target_is (ref n) m h = ap ref (ok_is h)
target_is nil m h = absurd cc
target_is (bool b) m h = absurd cc
target_is (int i) m h = absurd cc
target_is (text a b) m h = absurd cc
target_is (pair a b) m h = absurd cc

pub destination_is : (env : Env Name) (d : ℕ) (m : Name) → destination env d ≡ Ok m → bound d env ≡ Some (ref m)
destination_is env d m h =
    let a = ok_then (or_kind (bound d env)) target m h in
    or_kind_is (bound d env) a.0 a.1 ∙ ap Some (target_is a.0 m a.2)
