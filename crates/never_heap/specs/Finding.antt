-- The field that a command on a register speaks of, or the refusal.
use Rattle.std.specs.Prelude.{ℕ, Result, Ok, Err, nat_lt, if◌then◌else◌, length}
use Rattle.block_store.specs.declared.Name.{Name}
use Rattle.block_store.specs.declared.Value.{Value}
use Rattle.block_store.specs.declared.Value.TheVariants.{Nil, Int, Ref}
use Rattle.never_heap.specs.declared.Reply.{Reply}
use Rattle.never_heap.specs.declared.Reply.TheVariants.{Null, Kind, Range}
use Rattle.never_heap.specs.Graphs.{Graph, object_of, field_of}

-- the object that a value refers to and what its field i holds, or the first refusal that applies
abbrev pub found : Graph → Value → ℕ → Result (Name × Value) Reply
found g Nil i = Err Null
found g (Int v) i = Err Kind
found g (Ref name) i =
    if nat_lt i (length (object_of g name).fields)
    then Ok (name, field_of (object_of g name) i)
    else Err Range
