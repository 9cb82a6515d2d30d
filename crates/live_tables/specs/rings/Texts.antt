-- The printed texts of faults and refusals: what is wrong, and what to do.
use Rattle.std.specs.Prelude.{ℕ, List, codes}
use Rattle.live_tables.specs.declared.rings.faults.OpenFault.{OpenFault}
use Rattle.live_tables.specs.declared.rings.faults.OpenFault.TheVariants as faults
use Rattle.live_tables.specs.declared.rings.faults.Refused.{Refused}
use Rattle.live_tables.specs.declared.rings.faults.Refused.TheVariants as refusals

abbrev pub open_fault_text : OpenFault → List ℕ
open_fault_text faults.OutOfRange =
    codes "there are rings for 1 to 16 threads; ask for fewer"
open_fault_text faults.NoMemory = codes "memory ran out; free memory, or open fewer rings"

abbrev pub refused_text : Refused → List ℕ
refused_text refusals.OutOfRange =
    codes "there is no such ring or place, or the number is 2^62 or more; correct the call"
refused_text refusals.NoLifeLeft =
    codes "too little is left of this worker's lifetime; close the rings, and open new ones"
