-- The figures so far are those of the newest readings.
use Rattle.std.proofs.Common.{◌≡◌, ◌≤◌, ◌+◌, ◌-◌, ◌*◌, ◌^◌, ℕ, List, drop}
use Rattle.heap_structures.specs.Circles.{last_of}
use Rattle.heap_structures.specs.Trends.{alarms_in, values_in}
use Rattle.heap_structures.specs.declared.trend.Sample.{Sample}
use Rattle.historian_core.specs.StoredReadings.{Fits, IsGiven, counted}
use Rattle.historian_core.proofs.Historian.figures.Given as goal

abbrev pub invariant-loop-back : goal.invariant-loop-back
invariant-loop-back l = record {
  told : (most : ℕ) (xs : List Sample) → IsGiven l.fn.self most xs → Fits most xs 80
      → IsGiven l.self (most + 2 * l.back) xs
      × (l.figures ≡ counted (alarms_in (last_of 40 xs))
      (drop (l.kept - l.back) (values_in (last_of 40 xs))));
  total : l.figures.total ≤ l.back * 2 ^ 32;
  count : l.figures.count ≡ l.back;
}
