use Rattle.std.proofs.Common.{◌≡◌, ◌≤◌, All, vec_capacity, vec_len}
use Rattle.psac_publish.proofs.publisher.seat_all.Given as goal

abbrev pub invariant-loop : goal.invariant-loop
invariant-loop g l = (vec_len l.observers ≡ l.counter) × (l.count ≤ vec_capacity l.observers) × All (λ o. o ≡ l.front.log) l.observers.items
