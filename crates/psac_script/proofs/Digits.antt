-- Numbers of few digits are small.
use Rattle.std.proofs.Common.{ℕ, ◌+◌, ◌*◌, ◌<◌, ◌≤◌, ◌^◌, arith}
use Rattle.std.proofs.lemmas.Grind.{pow_more}
use Rattle.std.proofs.Math.Nat.{pow-le-pow_right}

pub more_digits : (i n d : ℕ) → n < 10 ^ i → d < 10 → n * 10 + d < 10 ^ (i + 1)
more_digits i n d low digit = omega (arith, pow_more 10 i)

pub few_digits : (i n : ℕ) → i < 9 → n < 10 ^ i → n < 100000000
few_digits i n few low =
    let eight : i ≤ 8 = omega arith in
    let most : 10 ^ i ≤ 10 ^ 8 = pow-le-pow_right {n = 10} (omega arith) {i = i} {j = 8} eight in
    omega arith
