-- The near bound of an allocation that is priced fits into a word.
use Rattle.std.proofs.Common.{ℕ, zero, suc, ◌+◌, ◌*◌, ◌/◌, ◌<◌, ◌≤◌, ◌^◌, max, arith}
use Rattle.std.proofs.Math.Nat.{div-le_self, max-le}
use Rattle.std.proofs.lemmas.Nat.{mul-le}
use Rattle.rate_plan.specs.solo_bound.Near.{changes_cost, cycle_cost, farthest, flip_cost, near_bound, near_unit}

farthest_small : (n passes : ℕ) → farthest n passes ≤ n * n
farthest_small zero passes = omega arith
farthest_small (suc n) zero = omega arith
farthest_small (suc n) (suc passes) =
    let rest : farthest n passes ≤ n * n = farthest_small n passes in omega (arith, rest)

changes_small : (n m r : ℕ) → n ≤ 16 → changes_cost n m r ≤ 295 + 63 * r
changes_small n m zero low = omega arith
changes_small n m (suc r) low =
    let square : n * n ≤ 16 * 16 = mul-le n n 16 16 low low in
    let far : farthest n r ≤ n * n = farthest_small n r in
    let once : max (flip_cost n + farthest n r) (cycle_cost n) ≤ 295 =
    max-le (omega (arith, far, square, low)) (omega (arith, low)) in
    let less : r / m ≤ r = div-le_self r m in
    let cycles : cycle_cost n * (r / m) ≤ 63 * r =
    mul-le (cycle_cost n) (r / m) 63 r (omega (arith, low)) less in
    omega (arith, once, cycles)

pub near_small : (n w m r k : ℕ) → n ≤ 16 → w ≤ 8 → r ≤ 134215680 → k ≤ 1024
    → near_bound n w m r k < 2 ^ 64
near_small n w m r k low narrow few short =
    let made : r * near_unit w ≤ 134215680 * 23 =
    mul-le r (near_unit w) 134215680 23 few (omega (arith, narrow)) in
    let changes : changes_cost n m r ≤ 295 + 63 * r = changes_small n m r low in
    let written : (w + 4) * k ≤ 12 * 1024 = mul-le (w + 4) k 12 1024 (omega (arith, narrow)) short in
    omega (arith, made, changes, written, few, low)
