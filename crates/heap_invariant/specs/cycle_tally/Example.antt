-- One thread that pays for a record of one block by a whole cycle: all blocks are scanned, the
-- phase is turned over, all are passed in two claims, the record is published, and the next cycle
-- starts. In that it idles for two units, and then pays for another record.
use Rattle.std.specs.Prelude.{ℕ, zero, suc, ◌+◌, ◌*◌, List, [], ◌∷◌, ◌++◌}
use Rattle.block_store.specs.declared.Config.{Config}
use Rattle.block_store.specs.declared.Width.{Width}
use Rattle.block_store.specs.declared.Name.{Name}
use Rattle.block_store.specs.Registers.{registers_end}
use Rattle.never_heap.specs.declared.Command.TheVariants as commands
use Rattle.never_heap.specs.declared.Entry.{Entry}
use Rattle.never_heap.specs.declared.Reply.{Reply}
use Rattle.never_heap.specs.declared.Reply.TheVariants as replies
use Rattle.heap_invariant.specs.cycle_tally.Tallies.{Tally}
use Rattle.heap_invariant.specs.cycle_tally.Events.{Event, Enter, Leave, SetCursor, Flip, Start, Paint, Scan, Claim, Pass, Clear, Credit, Reserve, Publish, Refuse, Answer, Next, run}
use Rattle.heap_invariant.specs.cycle_tally.InitialHeaps.{opening_tally}

-- ten blocks, of which six may be live
abbrev pub small : Width → Config
small w = record { width = w; threads = 1; blocks = 10; live = 6; object = 1; shared = 0 }

-- the least rate that keeps up here: two units for each block pay for one block
abbrev pub small_rate : ℕ
small_rate = 20

-- the number of a cycle serves as its black word, and 0 as a colour of none
abbrev pub blacks : ℕ → ℕ
blacks z = z

abbrev pub made_entry : Entry
made_entry = record {
  thread = 0;
  command = commands.New 0 1;
  reply = replies.New (record { thread = 0; serial = 1 });
  work = 20;
}

abbrev pub dropped_entry : Entry
dropped_entry =
    record { thread = 0; command = commands.Nil 0; reply = replies.Stored; work = 0 }

abbrev pub mark_events : List Event
mark_events =
    Enter 0
    ∷ Scan 0 1 ∷ Scan 0 2 ∷ Scan 0 3 ∷ Scan 0 4 ∷ Scan 0 5
    ∷ Scan 0 6 ∷ Scan 0 7 ∷ Scan 0 8 ∷ Scan 0 9 ∷ Scan 0 10
    ∷ Leave 0 ∷ SetCursor ∷ Flip ∷ []

abbrev pub sweep_events : List Event
sweep_events =
    Enter 0
    ∷ Claim 0 8 ∷ Pass 0 ∷ Pass 0 ∷ Pass 0 ∷ Pass 0 ∷ Pass 0 ∷ Pass 0 ∷ Pass 0 ∷ Pass 0 ∷ Clear 0
    ∷ Claim 0 2 ∷ Pass 0 ∷ Pass 0 ∷ Clear 0
    ∷ Paint 10 0 ∷ Credit 1 ∷ Reserve 0 ∷ Publish 0 made_entry ∷ Leave 0 ∷ []

abbrev pub idle_entry : Entry
idle_entry =
    record { thread = 0; command = commands.Idle 2; reply = replies.Idle; work = 2 }

-- the record is dropped, and the cycle after that begins with the two units of an idle, and one
-- that is paid
abbrev pub next_events : List Event
next_events =
    Next 0 0 0 ∷ Answer 0 dropped_entry ∷ Start
    ∷ Next 0 0 2 ∷ Enter 0 ∷ Scan 0 1 ∷ Leave 0 ∷ Enter 0 ∷ Scan 0 2 ∷ Leave 0
    ∷ Enter 0 ∷ Answer 0 idle_entry ∷ Leave 0
    ∷ Next 0 1 0 ∷ Enter 0 ∷ Scan 0 3 ∷ []

abbrev pub some_events : List Event
some_events = mark_events ++ (sweep_events ++ next_events)

abbrev pub example_start : Width → Tally
example_start w = opening_tally (small w) (λ x. 0) (λ t. 1) (λ t. 0)

abbrev pub example_end : Width → Tally
example_end w = run (small w) small_rate blacks (example_start w) some_events

-- The same thread where four blocks are free: it is given one of them in each of the first four
-- cycles, keeps what it is given, and is refused in the fifth.
abbrev pub tight : Width → Config
tight w = record {
  width = w;
  threads = 1;
  blocks = registers_end w 1 + 5;
  live = registers_end w 1 + 1;
  object = 1;
  shared = 0;
}

abbrev pub tight_rate : Width → ℕ
tight_rate w = 2 * (tight w).blocks

-- this allocation is the k-th
abbrev pub asked_entry : Width → ℕ → Reply → Entry
asked_entry w k reply =
    record { thread = 0; command = commands.New k 1; reply = reply; work = tight_rate w }

-- all blocks are scanned, and the phase is turned over
abbrev pub scans : ℕ → List Event
scans zero = Leave 0 ∷ SetCursor ∷ Flip ∷ []
scans (suc x) = Scan 0 (suc x) ∷ scans x

-- all blocks of the claim are passed
abbrev pub passes : ℕ → List Event
passes zero = Clear 0 ∷ []
passes (suc x) = Pass 0 ∷ passes x

abbrev pub paying_events : Width → List Event
paying_events w =
    let m = (tight w).blocks in
    Enter 0 ∷ scans m ++ (Enter 0 ∷ Claim 0 m ∷ passes m)

-- the k-th cycle and those before it
abbrev pub giving_events : Width → ℕ → List Event
giving_events w zero = []
giving_events w (suc k) =
    let name : Name = record { thread = 0; serial = suc k } in
    giving_events w k ++ (paying_events w
    ++ (Reserve 0 ∷ Publish 0 (asked_entry w (suc k) (replies.New name)) ∷ Leave 0 ∷ Next 0 1 0
    ∷ Start ∷ []))

abbrev pub full_events : Width → List Event
full_events w =
    giving_events w 4
    ++ (paying_events w ++ (Refuse 0 (asked_entry w 5 (replies.Full 4)) ∷ Leave 0 ∷ []))

abbrev pub full_start : Width → Tally
full_start w = opening_tally (tight w) (λ x. 0) (λ t. 1) (λ t. 0)

abbrev pub full_end : Width → Tally
full_end w = run (tight w) (tight_rate w) blacks (full_start w) (full_events w)
