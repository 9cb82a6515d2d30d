-- One thread alone has turns: what it begins from, how many turns its command takes at most, and
-- what they lead to.
use Rattle.std.specs.Prelude.{ℕ, suc, ◌+◌, ◌-◌, ◌*◌, max, min, ◌<◌, ◌≤◌, ◌≡◌, ◌≢◌, ◌++◌, nat_lt, Bool, true, false, if◌then◌else◌, [], ◌∷◌, length, replicate}
use Rattle.block_store.specs.declared.Config.{Config}
use Rattle.block_store.specs.Phases.{inside_of, is_closed, is_sweep}
use Rattle.block_store.specs.Places.{Phase}
use Rattle.block_store.specs.Widths.{payloads}
use Rattle.object_lists.specs.Records.{record_slot}
use Rattle.array_trees.specs.Levels.{array_depth}
use Rattle.never_heap.specs.declared.Command.{Command}
use Rattle.never_heap.specs.declared.Command.TheVariants as commands
use Rattle.never_heap.specs.declared.Entry.{Entry}
use Rattle.never_heap.specs.RightWork.{requested_units}
use Rattle.barrier_steps.specs.Operands.{is_idle}
use Rattle.never_heap.specs.Steps.{blocks_of}
use Rattle.rate_plan.specs.solo_bound.Near.{near_bound, near_other_bound}
use Rattle.rate_plan.specs.solo_bound.Prices.{allocation_bound, idle_bound, other_bound}
use Rattle.heap_system.specs.declared.Turn.TheVariants.{Went}
use Rattle.heap_system.specs.Locals.{LocalState, command_of, is_rest}
use Rattle.heap_system.specs.Machines.{Run, local_in, heap_in, after_turns, answer}
use Rattle.heap_system.specs.Units.{is_unit}

-- nobody is inside, and the gate is open
pub record IsQuiet (c : Config) (r : Run) : Type 0 where
  pub nobody : inside_of (heap_in c r.state Phase) ≡ 0
  pub opened : is_closed (heap_in c r.state Phase) ≡ false

-- at rest, with a command left
pub record HasCommand (l : LocalState) : Type 0 where
  pub rest : is_rest l.part ≡ true
  pub left : length l.log < length l.trace

-- the most turns of a command, at this rate
abbrev pub command_bound : Config → ℕ → Command → ℕ
command_bound c rate k =
    if nat_lt 0 (blocks_of c.width k) then allocation_bound c.threads (blocks_of c.width k) rate
    else (if is_idle k then idle_bound c.threads (requested_units k) else other_bound c.object)

-- no array has more elements: the shared array, or one of as many blocks as the largest object
abbrev pub longest_array : Config → ℕ
longest_array c = max c.shared (payloads c.width * c.object)

-- the most links from an object's first block to field i: in a record one for each block before
-- that of the field, in an array one for each level above the leaves
abbrev pub most_links : Config → ℕ → ℕ
most_links c i =
    max (min (record_slot c.width i).0 (c.object - 1)) (array_depth c.width (longest_array c))

-- The most events inside of a command that makes no object. It loads its registers, the object's
-- shape, the links and the field, or exchanges it. Where it names a value, it loads an owner word;
-- and where it stores a reference in Mark, the write barrier has three events before the store.
abbrev pub most_events : Config → Command → ℕ
most_events c (commands.Mov d s) = 5
most_events c (commands.Get d s i) = most_links c i + 8
most_events c (commands.Put s i v) = most_links c i + 7
most_events c (commands.Swap s i v) = most_links c i + 12
most_events c (commands.Cas s i a v) = most_links c i + 8
most_events c (commands.Len s) = 2
most_events c (commands.Same a b) = 2
most_events c (commands.Say s) = 2
most_events c _ = 1

-- the near bound of a command, at this rate
abbrev pub command_near : Config → ℕ → Command → ℕ
command_near c rate k =
    if nat_lt 0 (blocks_of c.width k)
    then near_bound c.threads (payloads c.width) c.blocks (rate * blocks_of c.width k)
    (blocks_of c.width k)
    else near_other_bound c.threads (payloads c.width) c.blocks (requested_units k) (most_events c k)

-- after so many turns of thread t, and of no other
abbrev pub after_alone : Config → ℕ → Run → ℕ → Run
after_alone c t r k = after_turns c r (replicate k t)

-- After at most so many turns of thread t alone, none of which waits, it is at rest with one entry
-- more, of the command that it had in hand. Then nobody is inside, and the gate is open.
pub record EndsWithin (c : Config) (t : ℕ) (r : Run) (bound : ℕ) : Type 0 where
  pub turns : ℕ
  pub few : turns ≤ bound
  pub went : (k : ℕ) → k < turns → answer c t (after_alone c t r k).state ≡ Went
  pub rest : is_rest (local_in c (after_alone c t r turns) t).part ≡ true
  pub entry : Entry
  pub log : (local_in c (after_alone c t r turns) t).log ≡ (local_in c r t).log ++ entry ∷ []
  pub command : entry.command ≡ command_of (local_in c r t)
  pub quiet : IsQuiet c (after_alone c t r turns)

-- whether turn k of thread t, of those of it alone from a run on, changes the phase
abbrev pub is_sweep_after : Config → ℕ → Run → ℕ → Bool
is_sweep_after c t r k = is_sweep (heap_in c (after_alone c t r k).state Phase)

abbrev pub ChangesPhase : Config → ℕ → Run → ℕ → Type 0
ChangesPhase c t r k = is_sweep_after c t r (suc k) ≢ is_sweep_after c t r k

-- one of these turns, after turn i and before turn j, is a unit
pub record UnitBetween (c : Config) (t : ℕ) (r : Run) (i j : ℕ) : Type 0 where
  pub turn : ℕ
  pub later : i < turn
  pub sooner : turn < j
  pub unit : is_unit c t (after_alone c t r turn).state ≡ true
