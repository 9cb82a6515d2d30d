-- A thread that builds, as the rules of kept names see it: the object that it builds, from the
-- reservation on until it is published; and the names and the order when that is decided.
use Rattle.std.specs.Prelude.{
  ℕ,
  ◌<◌,
  ◌≤◌,
  ◌≡◌,
  Bool,
  true,
  false,
  if◌then◌else◌,
  Option,
  Some,
  None,
  IfSome,
  List,
  length,
}
use Rattle.block_store.specs.declared.Config.{Config}
use Rattle.block_store.specs.declared.Name.{Name}
use Rattle.block_store.specs.declared.Width.{Width}
use Rattle.block_store.specs.Counts.{changed, times}
use Rattle.block_store.specs.Heaps.{Heap}
use Rattle.block_store.specs.Phases.{cycle_of}
use Rattle.block_store.specs.Places.{extent, Phase}
use Rattle.block_store.specs.Widths.{payloads}
use Rattle.never_heap.specs.declared.Command.{Command}
use Rattle.never_heap.specs.declared.Command.TheVariants.{Arr}
use Rattle.never_heap.specs.declared.Entry.{Entry}
use Rattle.never_heap.specs.declared.Reply.{Reply}
use Rattle.never_heap.specs.Graphs.{Graph, ObjectKind, Record, Array, next_name}
use Rattle.never_heap.specs.Histories.{HistoryItem}
use Rattle.never_heap.specs.Steps.{length_made}
use Rattle.heap_invariant.specs.graph_relation.Events.{unloaded}
use Rattle.heap_invariant.specs.graph_relation.Made.{with_blocks}
use Rattle.heap_invariant.specs.name_invariant.Building.{Build}
use Rattle.heap_invariant.specs.name_invariant.Invariant.{Invariant}
use Rattle.heap_invariant.specs.name_invariant.Pictures.{Names, Task, picture}
use Rattle.heap_invariant.specs.name_invariant.States.{with_name}
use Rattle.heap_machine.specs.WorkInHand.{WorkInHand}
use Rattle.heap_machine.specs.Operations.{place_of}
use Rattle.heap_machine.specs.ReuseKept.{ReuseKept}
use Rattle.build_steps.specs.declared.rows.BuildRow.{BuildRow}
use Rattle.build_steps.specs.declared.rows.BuildRow.TheVariants.{
  ReadCount,
  Reserve,
  Built,
  Refused,
}
use Rattle.build_steps.specs.Fits.{BuildFits}
use Rattle.build_steps.specs.Rows.{BuildState, built_at, build_want, build_in_hand}
use Rattle.build_steps.specs.Standing.{left_of, begun_of}

-- what the command makes
abbrev pub made_kind : Command → ObjectKind
made_kind (Arr d e) = Array
made_kind _ = Record

-- the name that the object will have
abbrev pub built_name : BuildState → Name
built_name s = record { thread = s.thread; serial = s.serial }

-- the blocks are reserved, and the object is not published
abbrev pub is_building : BuildRow → Bool
is_building ReadCount = false
is_building (Reserve seen) = false
is_building Built = false
is_building Refused = false
is_building _ = true

-- the object, where so many ordinals are not coloured yet, and of the last of them so many words
-- are written
abbrev pub built_object : BuildState → ℕ → ℕ → Build
built_object s left step = record {
  name = built_name s;
  kind = made_kind s.command;
  size = length_made s.command;
  held = built_at s;
  collected = length s.held;
  left = left;
  step = step;
}

abbrev pub row_build : Width → BuildState → BuildRow → Option Build
row_build W s r =
    if is_building r
    then Some (built_object s (left_of s.blocks r) (begun_of (payloads W) r)) else None

-- what the thread builds
abbrev pub build_of : Width → BuildState → Option Build
build_of W s = row_build W s s.row

-- what is held for an object and not coloured yet is among the Free blocks that a thread holds
abbrev pub HoldsBuild : Option Build → WorkInHand → Type 0
HoldsBuild build work_in_hand =
    IfSome build (λ b. (o : ℕ) → o < b.collected → o < b.left → 1 ≤ times (b.held o) work_in_hand.held)

-- thread t is at this build, and else at what it was
abbrev pub with_task_build : (ℕ → Task) → ℕ → Option Build → ℕ → Task
with_task_build tasks t b = changed tasks t (record (tasks t) { build = b })

-- the names with one that was made, whose object is at these blocks
abbrev pub names_made : Names → Name → (ℕ → ℕ) → Names
names_made names a blocks = record {
  at = with_blocks names.at a blocks;
  known = with_name names.known a;
  kept = with_name names.kept a;
  shaded = names.shaded;
}

-- the word that the event reads
abbrev pub word_read : Config → Heap → BuildState → ℕ
word_read c h s = h (place_of (build_want (extent c) s))

-- what the order gets where the command is decided with this reply, for so much work
abbrev pub built_entry : BuildState → Reply → ℕ → Entry
built_entry s reply work =
    record { thread = s.thread; command = s.command; reply = reply; work = work }

-- Before an event of a thread that builds: the rules hold of the picture of the heap, in which the
-- threads build with blocks that they hold; of this thread the picture says what its state does,
-- with nothing loaded; and the object's name is the thread's next.
pub record IsPictured (c : Config) (g : Graph) (order : List HistoryItem) (h : Heap) (names : Names)
    (tasks : ℕ → Task) (hs : ℕ → WorkInHand) (s : BuildState) : Type 0 where
  pub fits : BuildFits c s
  pub cycle : cycle_of (h Phase) ≡ s.cycle
  pub reuse : ReuseKept (extent c) h hs
  pub work_in_hand : hs s.thread ≡ build_in_hand s
  pub kept : Invariant c (picture g order h names tasks)
  pub builds : (u : ℕ) → u < c.threads → HoldsBuild (tasks u).build (hs u)
  pub build : (tasks s.thread).build ≡ build_of c.width s
  pub loading : (tasks s.thread).loading ≡ unloaded
  pub title : next_name g s.thread ≡ built_name s
