-- The printed texts of faults.
use Rattle.std.specs.Prelude.{ℕ, List, codes}
use Rattle.saved_heap.specs.declared.heap_pictures.faults.SaveFault.{SaveFault}
use Rattle.saved_heap.specs.declared.heap_pictures.faults.SaveFault.TheVariants.{NotASave, Version, Torn, Checksum, Malformed}

abbrev pub save_fault_text : SaveFault → List ℕ
save_fault_text NotASave = codes "not a saved heap; name the file that a save wrote"
save_fault_text (Version v) =
    codes "saved in another version; load it with the program that saved it"
save_fault_text Torn = codes "the saved heap is cut short or too long; take another copy"
save_fault_text Checksum = codes "the saved heap was changed; take another copy"
save_fault_text Malformed = codes "the saved heap has no picture of a heap; take another copy"
