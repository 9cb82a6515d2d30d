use Rattle.std.proofs.Common.{◌≡◌, ◌^◌, ◌<◌, drop}
use Rattle.trace_text.specs.Reading.{digits_on}
use Rattle.trace_text.proofs.reading.numbers.value_of.Given as goal

-- the digits that are left, after the value so far, make the value of all
abbrev pub invariant-loop-byte : goal.invariant-loop-byte
invariant-loop-byte l = record {
  small : l.value < 10 ^ l.byte-index;
  whole : digits_on l.value (drop l.byte-index l.digits) ≡ digits_on 0 l.digits;
}
