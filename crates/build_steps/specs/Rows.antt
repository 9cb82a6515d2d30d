-- Building, as rows of one event each: a thread reserves the blocks of an object, collects them
-- from the free lists, writes them from the last ordinal to the first, and publishes the object.
-- What each row wants, and what it becomes on the word that it read.
use Rattle.std.specs.Prelude.{
  ℕ,
  ◌+◌,
  ◌-◌,
  ◌%◌,
  ◌==◌,
  nat_lt,
  Bool,
  true,
  false,
  if◌then◌else◌,
  Option,
  Some,
  None,
  List,
  [],
  ◌∷◌,
  ◌++◌,
  length,
  take,
}
use Rattle.block_store.specs.declared.Width.{Width}
use Rattle.block_store.specs.Colours.{link, black_word}
use Rattle.block_store.specs.WideOwners.{wide_word}
use Rattle.block_store.specs.Payloads.{reference_word}
use Rattle.block_store.specs.Places.{
  Extent,
  Place,
  Phase,
  FreeCount,
  FreeList,
  ColourOf,
  OwnerOf,
  ShapeOf,
  PayloadOf,
}
use Rattle.block_store.specs.Registers.{register_block, register_slot}
use Rattle.block_store.specs.Widths.{payloads}
use Rattle.object_lists.specs.Parts.{link_in}
use Rattle.never_heap.specs.declared.Command.{Command}
use Rattle.never_heap.specs.declared.Reply.{Reply}
use Rattle.never_heap.specs.declared.Reply.TheVariants as replies
use Rattle.never_heap.specs.Steps.{blocks_of}
use Rattle.heap_machine.specs.WorkInHand.{WorkInHand, holds_nothing}
use Rattle.heap_machine.specs.Operations.{Operation, Load, Exchange, CompareExchange}
use Rattle.heap_machine.specs.declared.Step.{Step}
use Rattle.heap_machine.specs.declared.Step.TheVariants.{Went, Waited, Over}
use Rattle.build_steps.specs.declared.rows.BuildRow.{BuildRow}
use Rattle.build_steps.specs.declared.rows.BuildRow.TheVariants.{
  ReadCount,
  Reserve,
  TakeFree,
  Collect,
  PutRest,
  WriteOwner,
  WriteShape,
  WritePayload,
  WriteColour,
  Publish,
  Built,
  Refused,
}
use Rattle.build_steps.specs.Objects.{made_register, made_shape, made_part, block_at, link_word}

-- a thread that builds: of how many it is one, the cycle of its pass, the serial of the object's
-- name, the command that makes it and how many blocks it takes; the blocks that it holds, in the
-- order of their ordinals, and for how many it has room; and its row
pub record BuildState : Type 0 where
  pub thread : ℕ
  pub threads : ℕ
  pub cycle : ℕ
  pub serial : ℕ
  pub command : Command
  pub blocks : ℕ
  pub held : List ℕ
  pub capacity : ℕ
  pub row : BuildRow

-- the list that thread t of n takes as the u-th, from 0: the first is its own
unfoldable pub list_of : ℕ → ℕ → ℕ → ℕ
list_of t n u = (t + u) % n

-- the block of ordinal o
abbrev pub built_at : BuildState → ℕ → ℕ
built_at s o = block_at s.held o

-- the words of that block: its owner, its shape, and payload j
abbrev pub built_owner : BuildState → ℕ → ℕ
built_owner s o = wide_word s.thread s.serial o

abbrev pub built_shape : BuildState → ℕ
built_shape s = made_shape s.command

abbrev pub built_payload : Width → BuildState → ℕ → ℕ → ℕ
built_payload w s o j = link_word s.held (link_in (made_part w s.command o j))

-- where the register of the command is
abbrev pub made_place : Width → BuildState → Place
made_place w s =
    let r = made_register s.command in PayloadOf (register_block w s.thread r) (register_slot w r)

-- the operation of a row. A part that is over would look at the phase once more
abbrev pub row_want : Width → BuildState → BuildRow → Operation
row_want w s ReadCount = Load FreeCount
row_want w s (Reserve seen) = CompareExchange FreeCount seen (seen - s.blocks)
row_want w s (TakeFree u) = Exchange (FreeList (list_of s.thread s.threads u)) 0
row_want w s (Collect list u) = Load (ColourOf list)
row_want w s (PutRest list) = Exchange (FreeList s.thread) list
row_want w s (WriteOwner o) = Exchange (OwnerOf (built_at s o)) (built_owner s o)
row_want w s (WriteShape o) = Exchange (ShapeOf (built_at s o)) (built_shape s)
row_want w s (WritePayload o j) = Exchange (PayloadOf (built_at s o) j) (built_payload w s o j)
row_want w s (WriteColour o) = Exchange (ColourOf (built_at s o)) (black_word s.cycle)
row_want w s Publish = Exchange (made_place w s) (reference_word (built_at s 0))
row_want w s Built = Load Phase
row_want w s Refused = Load Phase

-- the next list of n, and after the last the first
abbrev pub next_list : ℕ → ℕ → ℕ
next_list n u = if nat_lt (u + 1) n then u + 1 else 0

-- after the free count was read, for k blocks
abbrev pub after_count : ℕ → ℕ → BuildRow
after_count k w = if nat_lt w k then Refused else Reserve w

-- after the reservation: only where the count was still the one that was seen
abbrev pub after_reserve : ℕ → ℕ → BuildRow
after_reserve seen w = if w == seen then TakeFree 0 else ReadCount

-- after the u-th list was taken: one that is not empty is the private list
abbrev pub after_take : ℕ → ℕ → ℕ → BuildRow
after_take n u w = if w == 0 then TakeFree (next_list n u) else Collect w u

-- after the last of k blocks was collected, with the rest of its private list
abbrev pub after_last : ℕ → ℕ → BuildRow
after_last k list = if list == 0 then WriteOwner (k - 1) else PutRest list

-- after a block of the u-th list was collected, which is the count-th
abbrev pub after_collect : ℕ → ℕ → ℕ → ℕ → ℕ → BuildRow
after_collect k n count list u =
    if count == k then after_last k list
    else if list == 0 then TakeFree (next_list n u) else Collect list u

-- after payload j of ordinal o was written, of as many as a block has
abbrev pub after_payload : ℕ → ℕ → ℕ → BuildRow
after_payload many o j = if nat_lt (j + 1) many then WritePayload o (j + 1) else WriteColour o

-- after the block of ordinal o became black
abbrev pub after_colour : ℕ → BuildRow
after_colour o = if o == 0 then Publish else WriteOwner (o - 1)

-- the row after it, where it read v
abbrev pub row_got : Width → BuildState → BuildRow → ℕ → BuildRow
row_got w s ReadCount v = after_count s.blocks v
row_got w s (Reserve seen) v = after_reserve seen v
row_got w s (TakeFree u) v = after_take s.threads u v
row_got w s (Collect list u) v = after_collect s.blocks s.threads (length s.held + 1) (link v) u
row_got w s (PutRest list) v = WriteOwner (s.blocks - 1)
row_got w s (WriteOwner o) v = WriteShape o
row_got w s (WriteShape o) v = WritePayload o 0
row_got w s (WritePayload o j) v = after_payload (payloads w) o j
row_got w s (WriteColour o) v = after_colour o
row_got w s Publish v = Built
row_got w s Built v = Built
row_got w s Refused v = Refused

-- the blocks that are then held
abbrev pub held_got : List ℕ → BuildRow → List ℕ
held_got held (Collect list u) = held ++ list ∷ []
held_got held _ = held

-- A row waits where it lost the reservation, and where the last list was empty. The event that
-- leads to an end is the last
abbrev pub row_step : BuildState → BuildRow → ℕ → Step
row_step s ReadCount v = if nat_lt v s.blocks then Over else Went
row_step s (Reserve seen) v = if v == seen then Went else Waited
row_step s (TakeFree u) v =
    if v == 0 then (if nat_lt (u + 1) s.threads then Went else Waited) else Went
row_step s Publish v = Over
row_step s Built v = Over
row_step s Refused v = Over
row_step s _ v = Went

abbrev pub build_want : Extent → BuildState → Operation
build_want e s = row_want e.width s s.row

abbrev pub build_got : Extent → BuildState → ℕ → BuildState
build_got e s v = record s { held = held_got s.held s.row; row = row_got e.width s s.row v }

abbrev pub build_step : BuildState → ℕ → Step
build_step s v = row_step s s.row v

-- the ends
abbrev pub build_over : BuildRow → Bool
build_over Built = true
build_over Refused = true
build_over _ = false

-- the cycle that a reply full in cycle c names: the one before it, and in the first cycle that one
abbrev pub full_cycle : ℕ → ℕ
full_cycle c = if c == 1 then 1 else c - 1

-- the reply, once the part is over
abbrev pub row_reply : BuildState → BuildRow → Option Reply
row_reply s Built = Some (replies.New (record { thread = s.thread; serial = s.serial }))
row_reply s Refused = Some (replies.Full (full_cycle s.cycle))
row_reply s _ = None

abbrev pub build_reply : BuildState → Option Reply
build_reply s = row_reply s s.row

-- the first state, with room for so many blocks
abbrev pub building : Width → ℕ → ℕ → ℕ → ℕ → Command → ℕ → BuildState
building w t n c serial command capacity = record {
  thread = t;
  threads = n;
  cycle = c;
  serial = serial;
  command = command;
  blocks = blocks_of w command;
  held = [];
  capacity = capacity;
  row = ReadCount;
}

-- the thread holds the blocks of the first n ordinals, which are Free still
abbrev pub holds_first : ℕ → List ℕ → WorkInHand
holds_first n held = record holds_nothing { held = take n held; reserved = n }

-- what the thread holds before the event of a row, for k blocks. Its own list is the first that it
-- takes, and stays empty until it puts the rest there
abbrev pub row_in_hand : ℕ → List ℕ → BuildRow → WorkInHand
row_in_hand k held (TakeFree u) = record holds_nothing {
  free_emptied = nat_lt 0 (u + length held);
  held = held;
  reserved = k;
}
row_in_hand k held (Collect list u) = record holds_nothing {
  free_list = list;
  free_emptied = true;
  held = held;
  reserved = k;
}
row_in_hand k held (PutRest list) = record holds_nothing {
  free_list = list;
  free_emptied = true;
  held = held;
  reserved = k;
}
row_in_hand k held (WriteOwner o) = holds_first (o + 1) held
row_in_hand k held (WriteShape o) = holds_first (o + 1) held
row_in_hand k held (WritePayload o j) = holds_first (o + 1) held
row_in_hand k held (WriteColour o) = holds_first (o + 1) held
row_in_hand k held _ = holds_nothing

abbrev pub build_in_hand : BuildState → WorkInHand
build_in_hand s = row_in_hand s.blocks s.held s.row
