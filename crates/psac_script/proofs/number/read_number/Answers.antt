use Rattle.std.proofs.Common.{arith}
use Rattle.psac_script.proofs.Digits.{few_digits}
use Rattle.psac_script.proofs.number.read_number.Goals as goal

pub overflow_mul-value : goal.overflow_mul-value
overflow_mul-value c =
    let few = few_digits c.loop-digit.digit-index c.loop-digit.value (omega arith) c.loop-digit.invariant.bound in
    omega arith

pub overflow_add-value : goal.overflow_add-value
overflow_add-value c =
    let few = few_digits c.loop-digit.digit-index c.loop-digit.value (omega arith) c.loop-digit.invariant.bound in
    omega arith
