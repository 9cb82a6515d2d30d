use Rattle.std.proofs.Common.{◌+◌, ◌*◌, length, arith}
use Rattle.historian_core.specs.StoredReadings.{samples}
use Rattle.historian_core.proofs.Readings.{long_as}
use Rattle.historian_core.proofs.Life.{left}
use Rattle.historian_core.proofs.lives_end_with_the_heap.Goals as goal

pub returns : goal.returns
returns _ h l xs k =
    let long = long_as l xs in
    let by = left h (2 + 207 * length xs) (samples l xs) k (omega (arith, long)) in (
      λ low. by.0 (omega (arith, low, long)),
      λ more. (let low = by.1 more in omega (arith, low, long)),
    )
