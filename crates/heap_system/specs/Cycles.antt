-- How often the turns of a run scan and pass a block, cycle by cycle.
use Rattle.std.specs.Prelude.{ℕ, suc, ◌+◌, ◌==◌, ◌&&◌, nat_lt, Bool, List, [], ◌∷◌}
use Rattle.block_store.specs.declared.Config.{Config}
use Rattle.block_store.specs.Counts.{total}
use Rattle.block_store.specs.Phases.{bit, cycle_of}
use Rattle.block_store.specs.Places.{Phase, Cursor, ColourOf, same_place}
use Rattle.heap_machine.specs.WorkInHand.{sweep_held}
use Rattle.heap_machine.specs.Operations.{place_of}
use Rattle.heap_machine.specs.Sweeping.{claims}
use Rattle.heap_system.specs.Locals.{part_want}
use Rattle.heap_system.specs.Machines.{State, local_at, heap_in, Run, next, opened, IsAfterTurns}
use Rattle.heap_system.specs.Pictures.{work_in_hand_of}
use Rattle.heap_system.specs.Units.{turn_blackens, turn_passes}

-- whether the next event of thread t is on the colour of block x
abbrev pub is_at_block : Config → ℕ → ℕ → State → Bool
is_at_block c x t s = same_place (place_of (part_want c (local_at c s t).part)) (ColourOf x)

-- whether the phase word has cycle z
abbrev pub is_in_cycle : Config → ℕ → State → Bool
is_in_cycle c z s = cycle_of (heap_in c s Phase) == z

-- whether a turn of thread t makes block x black by a scan in cycle z
abbrev pub scans_block : Config → ℕ → ℕ → ℕ → State → Bool
scans_block c z x t s = turn_blackens c t s && is_at_block c x t s && is_in_cycle c z s

-- whether it passes block x of the sweep in cycle z
abbrev pub passes_block : Config → ℕ → ℕ → ℕ → State → Bool
passes_block c z x t s = turn_passes c t s && is_at_block c x t s && is_in_cycle c z s

-- how many turns, of any thread, are so, over a list of turns from a run on
abbrev pub times_that : (ℕ → State → Bool) → Config → Run → List ℕ → ℕ
times_that is c r [] = 0
times_that is c r (t ∷ ts) = bit (is t r.state) + times_that is c (next c t r) ts

-- how often block x was scanned in cycle z of a run, and how often it was passed
abbrev pub times_scanned : (c : Config) (r : Run) → IsAfterTurns c r → ℕ → ℕ → ℕ
times_scanned c r is z x = times_that (scans_block c z x) c (opened c is.by_turns.first) is.turns

abbrev pub times_passed : (c : Config) (r : Run) → IsAfterTurns c r → ℕ → ℕ → ℕ
times_passed c r is z x = times_that (passes_block c z x) c (opened c is.by_turns.first) is.turns

-- both, over blocks 1 to m
abbrev pub taken_in : (c : Config) (r : Run) → IsAfterTurns c r → ℕ → ℕ
taken_in c r is z =
    total c.blocks (λ x. times_scanned c r is z (suc x))
    + total c.blocks (λ x. times_passed c r is z (suc x))

-- whether block x is below the sweep cursor, and no thread has claimed it and not yet passed it
abbrev pub is_behind : Config → State → ℕ → Bool
is_behind c s x =
    nat_lt x (heap_in c s Cursor)
    && (claims c.threads (λ t. sweep_held (work_in_hand_of c s t)) x == 0)
