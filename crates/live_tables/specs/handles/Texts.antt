-- The printed texts of faults and refusals: what is wrong, and what to do.
use Rattle.std.specs.Prelude.{ℕ, List, codes}
use Rattle.live_tables.specs.declared.handles.faults.OpenFault.{OpenFault}
use Rattle.live_tables.specs.declared.handles.faults.OpenFault.TheVariants as faults
use Rattle.live_tables.specs.declared.handles.faults.Refused.{Refused}
use Rattle.live_tables.specs.declared.handles.faults.Refused.TheVariants as refusals

abbrev pub open_fault_text : OpenFault → List ℕ
open_fault_text faults.OutOfRange =
    codes "there are at most 512 slots, and 1 to 16 threads; ask for fewer"
open_fault_text faults.NoMemory = codes "memory ran out; free memory, or open fewer slots"

abbrev pub refused_text : Refused → List ℕ
refused_text refusals.OutOfRange =
    codes "there is no such slot or handle, or the number is 2^62 or more; correct the call"
refused_text refusals.NotMade = codes "the worker has not made this handle; make it first"
refused_text refusals.NoLifeLeft =
    codes "too little is left of this worker's lifetime; close the slots, and open new ones"
