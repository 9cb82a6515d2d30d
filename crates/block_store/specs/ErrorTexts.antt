-- The printed text of an error.
use Rattle.std.specs.Prelude.{ℕ, List, codes}

abbrev pub out_of_memory_text : List ℕ
out_of_memory_text = codes "memory ran out; free memory, or open a smaller heap"
