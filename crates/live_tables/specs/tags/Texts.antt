-- The printed texts of faults and refusals: what is wrong, and what to do.
use Rattle.std.specs.Prelude.{ℕ, List, codes}
use Rattle.live_tables.specs.declared.tags.table.OpenFault.{OpenFault}
use Rattle.live_tables.specs.declared.tags.table.OpenFault.TheVariants as faults
use Rattle.live_tables.specs.declared.tags.table.Refused.{Refused}
use Rattle.live_tables.specs.declared.tags.table.Refused.TheVariants as refusals

abbrev pub open_fault_text : OpenFault → List ℕ
open_fault_text faults.OutOfRange =
    codes "a table has at most 1,024 tags, and 1 to 16 threads; ask for fewer"
open_fault_text faults.NoMemory = codes "memory ran out; free memory, or open a smaller table"

abbrev pub refused_text : Refused → List ℕ
refused_text refusals.OutOfRange =
    codes "the table has no such place, or a number is 2^62 or more; correct the call"
refused_text refusals.NoLifeLeft =
    codes "too little is left of this worker's lifetime; close the table, and open a new one"
