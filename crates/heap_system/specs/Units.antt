-- The units that a run makes, which its rows tell, and what a unit does.
use Rattle.std.specs.Prelude.{ℕ, ◌+◌, ◌≡◌, ◌==◌, ◌&&◌, ◌<◌, if◌then◌else◌, Bool, false, List, [], ◌∷◌, length, slice_index_or}
use Rattle.block_store.specs.declared.Config.{Config}
use Rattle.block_store.specs.declared.Width.{Width}
use Rattle.block_store.specs.Colours.{is_grey, black_word}
use Rattle.block_store.specs.Heaps.{Heap}
use Rattle.block_store.specs.Phases.{bit, cycle_of}
use Rattle.block_store.specs.Places.{Place, Phase, ColourOf}
use Rattle.never_heap.specs.declared.Entry.{Entry}
use Rattle.never_heap.specs.Histories.{part}
use Rattle.never_heap.specs.RightWork.{units_owed}
use Rattle.heap_machine.specs.Operations.{Operation, place_of, heap_after}
use Rattle.heap_system.specs.Parts.{Part, Sweep}
use Rattle.heap_system.specs.Locals.{part_want, makes_unit, is_decided, works}
use Rattle.heap_system.specs.Machines.{State, local_at, local_in, heap_in, word_read, next_effect, has_event, Run, next}

-- whether a place is the colour of a block, and of its words before and after the first is grey and
-- the second black in cycle c
abbrev pub turns_black : ℕ → Place → ℕ → ℕ → Bool
turns_black c (ColourOf x) before after = is_grey before && (after == black_word c)
turns_black c _ before after = false

-- whether an operation on this heap makes a grey block black, in the colours of the heap's cycle
abbrev pub blackens : Heap → Operation → Bool
blackens h o = turns_black (cycle_of (h Phase)) (place_of o) (h (place_of o))
    (heap_after h o (place_of o))

-- whether an event passes a block of the sweep
abbrev pub passes : Config → Part → ℕ → Bool
passes c (Sweep s) w = makes_unit c (Sweep s) w
passes c _ w = false

-- whether a turn of thread t makes a grey block black
abbrev pub turn_blackens : Config → ℕ → State → Bool
turn_blackens c t s = if has_event c t s then blackens (heap_in c s)
    (part_want c (local_at c s t).part) else false

-- whether it passes a block of the sweep
abbrev pub turn_passes : Config → ℕ → State → Bool
turn_passes c t s = if has_event c t s then passes c (local_at c s t).part
    (word_read c s (local_at c s t)) else false

-- whether it makes a unit
abbrev pub is_unit : Config → ℕ → State → Bool
is_unit c t s = if has_event c t s then makes_unit c (local_at c s t).part
    (word_read c s (local_at c s t)) else false

-- how many turns of thread t are so, over a list of turns from a run on
abbrev pub turns_that : (ℕ → State → Bool) → Config → ℕ → Run → List ℕ → ℕ
turns_that is c t r [] = 0
turns_that is c t r (u ∷ us) = (if u == t then bit (is t r.state) else 0)
    + turns_that is c t (next c u r) us

abbrev pub units_made : Config → ℕ → Run → List ℕ → ℕ
units_made c = turns_that (is_unit c) c

-- what thread t has made: the works of its commands in the order, and its units for the command in
-- hand
abbrev pub made_by : Config → ℕ → Run → ℕ
made_by c t r = works (part t r.order) + (local_in c r t).spent

-- whether a turn of thread t decides its command
abbrev pub decides : Config → ℕ → State → Bool
decides c t s = if has_event c t s then is_decided (next_effect c s t).verdict else false

-- whether it makes a unit while its log has k entries: then that is for its k-th command, counted
-- from 0
abbrev pub is_unit_for : Config → ℕ → ℕ → State → Bool
is_unit_for c k t s = is_unit c t s && (length (local_at c s t).log == k)

-- how many units of thread t are for its k-th command
abbrev pub units_made_for : Config → ℕ → ℕ → Run → List ℕ → ℕ
units_made_for c t k = turns_that (is_unit_for c k) c t

-- the work of each of these entries of thread t is the units that it made for its command
abbrev pub AreMadeFor : Config → ℕ → List Entry → Run → List ℕ → Type 0
AreMadeFor c t entries r ts = (k : ℕ) (d : Entry) → k < length entries
    → (slice_index_or entries k d).work ≡ units_made_for c t k r ts

abbrev pub blacks_made : Config → ℕ → Run → List ℕ → ℕ
blacks_made c = turns_that (turn_blackens c) c

abbrev pub passes_made : Config → ℕ → Run → List ℕ → ℕ
passes_made c = turns_that (turn_passes c) c

-- each entry has the work that its command owes at this rate, on blocks of this width
abbrev pub IsRight : Width → ℕ → List Entry → Type 0
IsRight w rate [] = Unit {0}
IsRight w rate (e ∷ es) = (e.work ≡ units_owed w rate e.command) × IsRight w rate es
