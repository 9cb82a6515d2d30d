-- The control law, in whole numbers. A difference below 0 is 0.
use Rattle.std.specs.Prelude.{ℕ, ◌+◌, ◌*◌, ◌-◌, ◌/◌, ◌%◌, ◌==◌, nat_lt, ◌&&◌, ◌||◌, min, if◌then◌else◌, Option, Some, None}
use Rattle.array_tables.specs.tag_table.Tables.{Tag}
use Rattle.plantrun_core.specs.declared.law.Loop.{Loop}

-- the value of a tag that is there and good, at most 1,000,000; the word of a good one is odd
abbrev pub value_of : Tag → Option ℕ
value_of None = None
value_of (Some (v, w)) = if w % 2 == 1 then Some (min v 1000000) else None

-- eight times the error and the integral, divided by 16,384, and clamped between 0 and 1,000
abbrev pub output_of : ℕ → ℕ → ℕ → ℕ
output_of set measured integral = min (((8 * set + integral) - 8 * measured) / 16384) 1000

-- The error is added to the integral, which is clamped between 0 and 16,384,000. Where the output is
-- clamped and the error would drive it further, the integral stays.
abbrev pub integral_after : ℕ → ℕ → ℕ → ℕ → ℕ
integral_after set measured integral output =
    if (output == 1000 && nat_lt measured set) || (output == 0 && nat_lt set measured)
    then integral else min ((integral + set) - measured) 16384000

abbrev pub driven : Loop → ℕ → ℕ → Loop
driven l measured set = record {
  integral = integral_after set measured l.integral (output_of set measured l.integral);
  output = output_of set measured l.integral;
}

-- the state after a tick: as it was where a value is missing or bad
abbrev pub loop_after : Loop → Option ℕ → Option ℕ → Loop
loop_after l (Some measured) (Some set) = driven l measured set
loop_after l _ _ = l
