-- What is so of a thread beside the room that it has for the blocks that it holds while it builds:
-- the one thing in which two openings of a job may differ.
use Rattle.std.specs.Prelude.{List, map}
use Rattle.heap_system.specs.Parts.{Part, Build}
use Rattle.heap_system.specs.Locals.{LocalState}
use Rattle.heap_system.specs.Machines.{State}

-- a thread that builds has its room with it
abbrev pub part_without_room : Part → Part
part_without_room (Build b) = Build (record b { capacity = 0 })
part_without_room p = p

abbrev pub without_room : LocalState → LocalState
without_room l = record l { space = 0; part = part_without_room l.part }

abbrev pub threads_without_room : State → List LocalState
threads_without_room s = map without_room s.locals
