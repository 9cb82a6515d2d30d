-- A heap that keeps readings.
use Rattle.std.specs.Prelude.{ℕ, ◌+◌, ◌*◌, ◌^◌, ◌≤◌, List, length, map}
use Rattle.block_store.specs.declared.Config.{Config}
use Rattle.block_store.specs.declared.Width.TheVariants.{Eight}
use Rattle.control_heap.specs.Controls.{Control}
use Rattle.heap_structures.specs.Circles.{last_of}
use Rattle.heap_structures.specs.Trends.{IsTrend, alarms_in, trend_heap, values_in}
use Rattle.heap_structures.specs.declared.trend.Sample.{Sample}
use Rattle.historian_core.specs.declared.Figures.{Figures}
use Rattle.historian_core.specs.declared.Historian.{Historian}
use Rattle.historian_core.specs.declared.Limits.{Limits}
use Rattle.historian_core.specs.ReportTexts.{life}
use Rattle.historian_core.specs.Windows.{is_alarm, least_in, greatest_in, total_in}

abbrev pub heap_config : Config
heap_config = record { width = Eight; threads = 1; blocks = 512; live = 64; object = 6; shared = 1 }

abbrev pub heap_of : Historian → Control
heap_of h = trend_heap h.trend

-- the figures of some readings, of which n are alarms
abbrev pub counted : ℕ → List ℕ → Figures
counted n ys = record {
  least = least_in ys;
  greatest = greatest_in ys;
  total = total_in ys;
  count = length ys;
  alarms = n;
}

-- the figures of the last 40 of some samples
abbrev pub counted_in : List Sample → Figures
counted_in xs = counted (alarms_in (last_of 40 xs)) (values_in (last_of 40 xs))

-- a historian that was given these samples, by at most so many commands
abbrev pub IsGiven : Historian → ℕ → List Sample → Type 0
IsGiven h most xs = IsTrend h.trend heap_config 40 most xs

-- after at most so many commands, for these samples, the life of a heap has room for n more
abbrev pub Fits : ℕ → List Sample → ℕ → Type 0
Fits most xs n = (most + n ≤ 2 ^ 60) × (length xs ≤ life)

-- readings as samples: those outside the limits are alarms
abbrev pub samples : Limits → List ℕ → List Sample
samples l xs = map (λ x. record { value = x; alarm = is_alarm l x }) xs

-- A historian that was given these readings shows the last 40 of them and their alarms. It has made
-- an object of each, by at most 207 commands for each and two at the start.
abbrev pub Stores : Historian → Limits → List ℕ → Type 0
Stores h l xs = IsGiven h (2 + 207 * length xs) (samples l xs)
