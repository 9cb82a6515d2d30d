-- One thread and an array of one element, over a whole cycle: `nil 0` leaves the array unreached,
-- the register array is marked, the array's block is freed, a record of two blocks is built in it
-- and in another and refers to itself, and the next cycle starts; then come a few commands more.
use Rattle.std.specs.Prelude.{ℕ, ◌+◌, ◌==◌, nat_le, if◌then◌else◌, List, [], ◌∷◌, ◌++◌}
use Rattle.block_store.specs.declared.Config.{Config}
use Rattle.block_store.specs.declared.Name.{Name}
use Rattle.block_store.specs.declared.Shape.TheVariants as shapes
use Rattle.block_store.specs.declared.Value.TheVariants.{Nil, Ref}
use Rattle.block_store.specs.declared.Width.{Width}
use Rattle.block_store.specs.declared.Width.TheVariants.{Four, Eight}
use Rattle.block_store.specs.Colours.{free_word, grey_word, white_word}
use Rattle.block_store.specs.Registers.{registers_end}
use Rattle.block_store.specs.Widths.{payloads}
use Rattle.never_heap.specs.declared.Command.{Command}
use Rattle.never_heap.specs.declared.Command.TheVariants as commands
use Rattle.never_heap.specs.declared.Entry.{Entry}
use Rattle.never_heap.specs.declared.Reply.{Reply}
use Rattle.never_heap.specs.declared.Reply.TheVariants as replies
use Rattle.never_heap.specs.Graphs.{Record}
use Rattle.heap_invariant.specs.graph_relation.Events.Event.{ReadObject, ReadValue, ReadExpected, ReadShape, ReadField, StorePending, StoreValue, StoreConstant, StoreField, ExchangeField, Finish}
use Rattle.heap_invariant.specs.name_invariant.Events.{KeptEvent, run}
use Rattle.heap_invariant.specs.name_invariant.InitialHeaps.{opening_kept}
use Rattle.heap_invariant.specs.name_invariant.States.{KeptState}
use Rattle.heap_invariant.specs.name_invariant.Events.KeptEvent.{Serve, Decide, Answer, ShadeLoaded, ReadWord, ShadeRead, Blacken, Flip, Free, ShadeRoot, Start, Reserve, Collect, WriteOwner, WriteShape, WritePayload, WriteColour, Publish}

abbrev pub one_thread : Width → Config
one_thread W = record {
  width = W;
  threads = 1;
  blocks = 20;
  live = 15;
  object = 3;
  shared = 1;
}

-- the array's block, the last one that is not Free
abbrev pub array_block : Width → ℕ
array_block W = registers_end W 1 + 1

abbrev pub first_colours : Width → ℕ → ℕ
first_colours W x =
    if x == 0 then free_word 0
    else if x == 1 then grey_word 0
    else if nat_le x (array_block W) then white_word 1
    else free_word 0

-- an entry of the thread that was paid with no work
abbrev pub unpaid : Command → Reply → Entry
unpaid command reply = record { thread = 0; command = command; reply = reply; work = 0 }

-- the thread gives up its only reference, and its root refers to the other blocks of its registers
abbrev pub mark_events : Width → List KeptEvent
mark_events Four =
    Decide (StoreConstant 0 0 Nil) (unpaid (commands.Nil 0) replies.Stored)
    ∷ ReadWord 0 1 0 ∷ ShadeRead 0 0 ∷ ReadWord 0 1 1 ∷ ShadeRead 0 0
    ∷ ReadWord 0 1 2 ∷ ShadeRead 0 0 ∷ ReadWord 0 1 3 ∷ ShadeRead 0 0
    ∷ Blacken 1 ∷ Blacken 2 ∷ Blacken 3 ∷ Blacken 4 ∷ Blacken 5 ∷ []
mark_events Eight =
    Decide (StoreConstant 0 0 Nil) (unpaid (commands.Nil 0) replies.Stored)
    ∷ ReadWord 0 1 0 ∷ ShadeRead 0 0 ∷ ReadWord 0 1 1 ∷ ShadeRead 0 0
    ∷ Blacken 1 ∷ Blacken 2 ∷ Blacken 3 ∷ []

abbrev pub payload_events : Width → ℕ → List KeptEvent
payload_events Four o =
    WritePayload 0 o 0 ∷ WritePayload 0 o 1 ∷ WritePayload 0 o 2 ∷ WritePayload 0 o 3 ∷ []
payload_events Eight o =
    WritePayload 0 o 0 ∷ WritePayload 0 o 1 ∷ WritePayload 0 o 2 ∷ WritePayload 0 o 3
    ∷ WritePayload 0 o 4 ∷ WritePayload 0 o 5 ∷ WritePayload 0 o 6 ∷ WritePayload 0 o 7 ∷ []

abbrev pub ordinal_events : Width → ℕ → List KeptEvent
ordinal_events W o =
    WriteOwner 0 o ∷ WriteShape 0 o ∷ payload_events W o ++ WriteColour 0 o ∷ []

-- the array's block is freed and collected for the record, with the next one
abbrev pub build_events : Width → List KeptEvent
build_events W =
    Flip ∷ Free (array_block W) 0 ∷ Reserve 0 Record (payloads W)
    ∷ Collect 0 (array_block W) ∷ Collect 0 (array_block W + 1)
    ∷ ordinal_events W 1 ++ ordinal_events W 0 ++ Publish 0 0 0 ∷ []

abbrev pub start_events : List KeptEvent
start_events = ShadeRoot 0 0 ∷ Start ∷ []

-- the array's name, and the record's
abbrev pub array_name : Name
array_name = record { thread = 1; serial = 0 }

abbrev pub record_name : Name
record_name = record { thread = 0; serial = 1 }

-- a command comes to the record to which register 0 refers
abbrev pub finding : Width → List KeptEvent
finding W = Serve (ReadObject 0 0) ∷ Serve (ReadShape 0 (shapes.List (payloads W))) ∷ []

-- `put 0 0 0`: the record's first field refers to the record
abbrev pub put_events : Width → List KeptEvent
put_events W = finding W
    ++ (Serve (ReadValue 0 0)
    ∷ Decide (StoreField 0 record_name 0 1) (unpaid (commands.Put 0 0 0) replies.Stored) ∷ [])

-- `swap 0 0 1` with nil shades the record, of which it has the reference
abbrev pub nil_swap_events : Width → List KeptEvent
nil_swap_events W = finding W
    ++ (Serve (ReadValue 0 1)
    ∷ Decide (ExchangeField 0 record_name 0 1)
    (unpaid (commands.Swap 0 0 1) (replies.Val (Ref record_name)))
    ∷ ShadeLoaded 0 0 ∷ Serve (StorePending 0) ∷ [])

-- `mov 3 1`, and `get 2 0 0` reads the nil
abbrev pub read_events : Width → List KeptEvent
read_events W =
    Serve (ReadValue 0 1)
    ∷ Decide (StoreValue 0 3) (unpaid (commands.Mov 3 1) replies.Stored)
    ∷ finding W
    ++ (Decide (ReadField 0 2 record_name 0 1) (unpaid (commands.Get 2 0 0) (replies.Val Nil))
    ∷ Serve (StorePending 0) ∷ [])

-- `cas 0 0 2 1` finds nil, and stores a reference to the record
abbrev pub cas_events : Width → List KeptEvent
cas_events W = finding W
    ++ (Serve (ReadExpected 0 2) ∷ Serve (ReadValue 0 1)
    ∷ Decide (StoreField 0 record_name 0 1) (unpaid (commands.Cas 0 0 2 1) replies.Yes) ∷ [])

-- `swap 0 0 3` exchanges two references
abbrev pub swap_events : Width → List KeptEvent
swap_events W = finding W
    ++ (Serve (ReadValue 0 3)
    ∷ Decide (ExchangeField 0 record_name 0 1)
    (unpaid (commands.Swap 0 0 3) (replies.Val (Ref record_name)))
    ∷ Serve (StorePending 0) ∷ [])

-- `idle 2`, with its two units
abbrev pub idle_entry : Entry
idle_entry =
    record { thread = 0; command = commands.Idle 2; reply = replies.Idle; work = 2 }

-- two commands are refused
abbrev pub last_events : List KeptEvent
last_events =
    Answer (unpaid (commands.Len 4) replies.Null)
    ∷ Answer (unpaid (commands.New 2 1) (replies.Full 1))
    ∷ Decide (Finish 0) idle_entry ∷ []

abbrev pub command_events : Width → List KeptEvent
command_events W =
    nil_swap_events W ++ (read_events W ++ (cas_events W ++ (swap_events W ++ last_events)))

abbrev pub some_events : Width → List KeptEvent
some_events W = mark_events W
    ++ (build_events W ++ (put_events W ++ (start_events ++ command_events W)))

abbrev pub example_start : Width → KeptState
example_start W = opening_kept (one_thread W) (first_colours W)

abbrev pub example_end : Width → KeptState
example_end W = run (one_thread W) (example_start W) (some_events W)
