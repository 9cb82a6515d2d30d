-- The events that a worker's code makes for a command, and when they end.
use Rattle.std.specs.Prelude.{ℕ, ◌<◌, ◌≤◌, ◌≡◌, false, List, [], ◌∷◌, length}
use Rattle.heap_machine.specs.Memories.{Acts}
use Rattle.heap_system.specs.ThreadMemories.{Ran}
use Rattle.heap_system.specs.Locals.{LocalState, LocalReads, is_done, local_got, part_step, turn_of}
use Rattle.heap_system.specs.declared.Turn.TheVariants.{Waited}

-- A thread has made an event by each of these words, one after the other, and no other. Before each
-- it was not done, and its row may read the word; it moved on by that row.
abbrev pub MadeTurns : LocalState → List ℕ → LocalState → Type 0
MadeTurns l [] k = l ≡ k
MadeTurns l (w ∷ ws) k =
    (is_done l ≡ false) × LocalReads l.config l w × MadeTurns (local_got l w) ws k

-- the last of these events waited for another thread
abbrev pub LastWaited : LocalState → List ℕ → Type 0
LastWaited l [] = ⊥
LastWaited l (w ∷ []) = turn_of (part_step l.config l.part w) ≡ Waited
LastWaited l (w ∷ v ∷ ws) = LastWaited (local_got l w) (v ∷ ws)

-- Events by these words are as many as were allowed: the thread is done, or there are `most` of
-- them, or the last one waited for another thread.
abbrev pub GoesFar : ℕ → LocalState → List ℕ → LocalState → Type 0
GoesFar most l ws k = is_done k ≡ false → length ws < most → LastWaited l ws

-- A memory made at most so many events of a thread one after the other. A body of which this is
-- proved for any memory makes no other operation, since one more might change the memory.
pub record HasDrivenIn {M S : Type 0} (most : ℕ) (acts : Acts M S) (s : S) (before : M)
    (old : LocalState) (after : M) (new : LocalState) : Type 0 where
  pub words : List ℕ
  pub ran : Ran acts s before old words after new
  pub few : length words ≤ most
  pub far : GoesFar most old words new
