-- A thread that is driven by a memory, and a mutator after turns by the words that they read.
use Rattle.std.specs.Prelude.{ℕ, ◌+◌, ◌≡◌, Bool, true, false, List, [], ◌∷◌, length}
use Rattle.block_store.specs.Phases.{bit}
use Rattle.heap_machine.specs.Memories.{Acts}
use Rattle.heap_system.specs.ThreadMemories.{Ran}
use Rattle.heap_system.specs.Locals.{LocalState, LocalReads, is_done, local_got}
use Rattle.heap_system.specs.Parts.{Part, Rest, Leave}
use Rattle.atom_board.specs.Mutators.{MutatorState}

-- The memory made events of the thread one after the other: each is the one that the thread wants
-- there, and reads one of these words. A body of which this is proved for any memory makes no other
-- operation, since one more might change the memory.
pub record HasDriven {M S : Type 0} (acts : Acts M S) (s : S) (before : M) (old : LocalState)
    (after : M) (new : LocalState) : Type 0 where
  pub words : List ℕ
  pub ran : Ran acts s before old words after new

-- A mutator has made a turn by each of these words, one after the other, and no other. Before each
-- its thread was not done, and its row may read the word; it moved on by that row, and one turn was
-- counted.
abbrev pub MadeTurns : MutatorState → List ℕ → MutatorState → Type 0
MadeTurns m [] n = m ≡ n
MadeTurns m (w ∷ ws) n = (is_done m.local ≡ false) × LocalReads m.local.config m.local w
    × MadeTurns (record m { local = local_got m.local w; turns = m.turns + 1 }) ws n

-- some such words
pub record HasTurnedBy (old new : MutatorState) : Type 0 where
  pub words : List ℕ
  pub made : MadeTurns old words new

-- a thread in this part has made an event of the command after its log
abbrev pub has_begun : Part → Bool
has_begun Rest = false
has_begun Leave = false
has_begun _ = true

-- How many commands a thread has begun: those in its log, and the one of which it has made an
-- event. The pace may be told of a command only before that.
abbrev pub commands_begun : LocalState → ℕ
commands_begun l = length l.log + bit (has_begun l.part)
