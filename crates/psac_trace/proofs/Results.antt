-- What a result that is one came from.
use Rattle.std.proofs.Common.{◌≡◌, ℕ, Some, Ok, ap, ◌∙◌}
use Rattle.psac_ops.specs.declared.plain.Handle.{Handle}
use Rattle.psac_ops.specs.Value.{Value, nil, bool, int, text, ref, pair}
use Rattle.psac_model.specs.Names.{Env, bound}
use Rattle.psac_model.specs.Run.{target, destination}
use Rattle.psac_model.specs.Expression.{or_kind}
use Rattle.psac_laws.proofs.Results.{ok_is, ok_then, or_kind_is}

pub target_is : (v : Value Handle) (m : Handle) → target v ≡ Ok m → v ≡ ref m
target_is (ref n) m h = ap ref (ok_is h)
target_is nil m h = absurd cc
target_is (bool b) m h = absurd cc
target_is (int i) m h = absurd cc
target_is (text a b) m h = absurd cc
target_is (pair a b) m h = absurd cc

pub destination_is : (env : Env Handle) (d : ℕ) (m : Handle) → destination env d ≡ Ok m → bound d env ≡ Some (ref m)
destination_is env d m h =
    let a = ok_then (or_kind (bound d env)) target m h in
    or_kind_is (bound d env) a.0 a.1 ∙ ap Some (target_is a.0 m a.2)

pub ref_is : {m n : Handle} → Some (ref m) ≡ Some (ref n) → m ≡ n
ref_is h = cc
