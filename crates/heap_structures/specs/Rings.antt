-- Rings and queues: the array that each has on the heap, and the values that it shows.
use Rattle.std.specs.Prelude.{ℕ, ◌<◌, ◌≤◌, ◌≡◌, ◌⊎◌, Bool, true, false, Option, Some, None, List, [], ◌∷◌, ◌++◌, drop, length}
use Rattle.block_store.specs.declared.Value.{Value}
use Rattle.never_heap.specs.Graphs.{Graph}
use Rattle.heap_structures.specs.declared.cells.Cells.{Cells}
use Rattle.heap_structures.specs.declared.ring.Ring.{Ring}
use Rattle.heap_structures.specs.declared.queue.Queue.{Queue}
use Rattle.heap_structures.specs.Cells.{IsCells, held}
use Rattle.heap_structures.specs.Circles.{IsCircle}

-- the array has these values, from place `first` on
pub record IsRound (g : Graph) (c : Cells) (first count : ℕ) (xs : List Value) : Type 0 where
  pub array : List Value
  pub cells : IsCells g c array
  pub circle : IsCircle c.size first array xs
  pub counted : length xs ≡ count

-- a ring shows these values, the oldest first
abbrev pub IsRing : Graph → Ring → List Value → Type 0
IsRing g r xs = IsRound g r.cells r.first r.count xs

abbrev pub ring_cells : Ring → Cells
ring_cells r = r.cells

-- a queue shows these values, the first to leave first
abbrev pub IsQueue : Graph → Queue → List Value → Type 0
IsQueue g q xs = IsRound g q.cells q.first q.count xs

abbrev pub queue_cells : Queue → Cells
queue_cells q = q.cells

-- a register into which no value may be loaded
abbrev pub IsNoTarget : Cells → ℕ → Type 0
IsNoTarget c d = (16 ≤ d) ⊎ (d ≡ c.base) ⊎ (d ≡ c.spare)

-- A value was added at the end of at most n, or there were n.
abbrev pub Adds : ℕ → (List Value → Type 0) → List Value → Value → Bool → Type 0
Adds n Shows xs v true = (length xs < n) × Shows (xs ++ v ∷ [])
Adds n Shows xs v false = (length xs ≡ n) × Shows xs

-- the first of some values is this one, and in this register; or there is none
abbrev pub Gives : Graph → ℕ → List Value → Option Value → Type 0
Gives g d (x ∷ xs) (Some v) = (v ≡ x) × (held g d ≡ x)
Gives g d [] None = Unit {0}
Gives g d xs v = ⊥

-- the first of a queue's values, if there is one, has left to a register
abbrev pub Pops : Graph → Queue → ℕ → List Value → Option Value → Type 0
Pops g q d xs v = IsQueue g q (drop 1 xs) × Gives g d xs v
