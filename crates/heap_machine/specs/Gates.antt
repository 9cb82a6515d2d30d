-- The part of a thread's work that goes in or out at the gate, or closes it and turns the phase
-- over or starts the next cycle: what each row wants, and what it becomes on the word that it read.
-- W is the width of the blocks.
use Rattle.std.specs.Prelude.{ℕ, ◌+◌, ◌≡◌, ◌<◌, ◌≤◌, ◌==◌, ◌&&◌, nat_lt, not, Bool, true, false, if◌then◌else◌, Option, Some, None}
use Rattle.block_store.specs.declared.Config.{Config}
use Rattle.block_store.specs.declared.Width.{Width}
use Rattle.block_store.specs.Colours.{grey_word}
use Rattle.block_store.specs.Places.{Phase, Cursor, GreyList, ColourOf}
use Rattle.block_store.specs.Phases.{phase_of, inside_of, is_sweep, is_closed, cycle_of}
use Rattle.block_store.specs.Registers.{root_block, registers_end}
use Rattle.block_store.specs.declared.PhaseWord.{PhaseWord}
use Rattle.heap_machine.specs.Operations.{Operation, Load, Exchange, CompareExchange, FetchSub}
use Rattle.heap_machine.specs.Readings.{IsPhaseWord}
use Rattle.heap_machine.specs.Gating.{closed_word, open_word}
use Rattle.heap_machine.specs.Passes.{IsPass}
use Rattle.heap_machine.specs.declared.gate.GateRow.{GateRow}
use Rattle.heap_machine.specs.declared.gate.GateRow.TheVariants.{Look, Enter, Entered, Leave, Left, CloseLook, Close, CheckList, SetCursor, Flip, Reopen, ShadeRoot, PutRoots, Start, TurnedOver, StartedCycle, KeptOut}
use Rattle.heap_machine.specs.declared.pass.Pass.{Pass}
use Rattle.heap_machine.specs.declared.Step.{Step}
use Rattle.heap_machine.specs.declared.Step.TheVariants.{Went, Waited, Over, WaitedOver}

-- the rows of a part on its way in: it looks, or goes in
abbrev pub is_going_in : GateRow → Bool
is_going_in Look = true
is_going_in (Enter seen) = true
is_going_in _ = false

-- the operation of a row. A part that is over would look once more
abbrev pub gate_want : Width → GateRow → Operation
gate_want W Look = Load Phase
gate_want W (Enter seen) = CompareExchange Phase seen (seen + 1)
gate_want W (Entered seen) = Load Phase
gate_want W Leave = FetchSub Phase 1
gate_want W Left = Load Phase
gate_want W (CloseLook p) = Load Phase
gate_want W (Close p seen) = CompareExchange Phase seen (closed_word seen)
gate_want W (CheckList p u) = Load (GreyList u)
gate_want W (SetCursor p) = Exchange Cursor 1
gate_want W (Flip p) = Exchange Phase (open_word p.cycle true)
gate_want W (Reopen p) = Exchange Phase (open_word p.cycle false)
gate_want W (ShadeRoot p u list) = Exchange (ColourOf (root_block W u)) (grey_word list)
gate_want W (PutRoots p list) = Exchange (GreyList p.thread) list
gate_want W (Start p) = Exchange Phase (open_word (p.cycle + 1) false)
gate_want W TurnedOver = Load Phase
gate_want W (StartedCycle y) = Load Phase
gate_want W KeptOut = Load Phase

-- the word w says the cycle and phase of the pass
abbrev pub is_of_pass : Pass → ℕ → Bool
is_of_pass p w = (cycle_of w == p.cycle) && (if is_sweep w then p.sweep else not p.sweep)

-- the gate is open, and nobody is inside
abbrev pub is_empty : ℕ → Bool
is_empty w = not (is_closed w) && (inside_of w == 0)

-- after the look whether the gate can be closed
abbrev pub look_to_close : Pass → ℕ → GateRow
look_to_close p w = if is_of_pass p w then (if is_empty w then Close p w else KeptOut) else KeptOut

-- after list u was looked at
abbrev pub list_checked : Pass → ℕ → ℕ → GateRow
list_checked p u w = if w == 0 then (if nat_lt (u + 1) p.threads then CheckList p (u + 1)
    else SetCursor p) else Reopen p

-- after the gate was to be closed: a Mark pass looks at the grey lists, and a Sweep pass shades the
-- roots for the next cycle
abbrev pub closed_by : Pass → GateRow
closed_by p = if p.sweep then ShadeRoot p 0 0 else CheckList p 0

-- after the root block of thread u became grey, and the first of the private list
abbrev pub root_shaded : Width → Pass → ℕ → GateRow
root_shaded W p u = if nat_lt (u + 1) p.threads then ShadeRoot p (u + 1) (root_block W u)
    else PutRoots p (root_block W u)

-- the row after it, of a part on its way in
abbrev pub going_got : GateRow → ℕ → GateRow
going_got Look w = if is_closed w then Look else Enter w
going_got (Enter seen) w = if w == seen then Entered seen else Look
going_got r w = r

-- the row after it, where it read w
abbrev pub gate_got : Width → GateRow → ℕ → GateRow
gate_got W Look w = going_got Look w
gate_got W (Enter seen) w = going_got (Enter seen) w
gate_got W (Entered seen) w = Entered seen
gate_got W Leave w = Left
gate_got W Left w = Left
gate_got W (CloseLook p) w = look_to_close p w
gate_got W (Close p seen) w = if w == seen then closed_by p else KeptOut
gate_got W (CheckList p u) w = list_checked p u w
gate_got W (SetCursor p) w = Flip p
gate_got W (Flip p) w = TurnedOver
gate_got W (Reopen p) w = TurnedOver
gate_got W (ShadeRoot p u list) w = root_shaded W p u
gate_got W (PutRoots p list) w = Start p
gate_got W (Start p) w = StartedCycle (p.cycle + 1)
gate_got W TurnedOver w = TurnedOver
gate_got W (StartedCycle y) w = StartedCycle y
gate_got W KeptOut w = KeptOut

-- An entering part waits at a closed gate and at a lost exchange. A closing part waits where, in
-- its own cycle and phase, the gate is closed or somebody is inside, and at a lost exchange; it
-- does not wait where the cycle or phase is another.
abbrev pub gate_step : GateRow → ℕ → Step
gate_step Look w = if is_closed w then Waited else Went
gate_step (Enter seen) w = if w == seen then Over else Waited
gate_step (Entered seen) w = Over
gate_step Leave w = Over
gate_step Left w = Over
gate_step (CloseLook p) w = if is_of_pass p w then (if is_empty w then Went else WaitedOver)
    else Over
gate_step (Close p seen) w = if w == seen then Went else WaitedOver
gate_step (CheckList p u) w = Went
gate_step (SetCursor p) w = Went
gate_step (Flip p) w = Over
gate_step (Reopen p) w = Over
gate_step (ShadeRoot p u list) w = Went
gate_step (PutRoots p list) w = Went
gate_step (Start p) w = Over
gate_step TurnedOver w = Over
gate_step (StartedCycle y) w = Over
gate_step KeptOut w = Over

-- the word with which the thread entered
abbrev pub gate_entered : GateRow → Option PhaseWord
gate_entered (Entered seen) = Some (phase_of seen)
gate_entered _ = None

-- the cycle that the part started
abbrev pub gate_started : GateRow → Option ℕ
gate_started (StartedCycle y) = Some y
gate_started _ = None

-- the word seen was that of an open gate
pub record SeenOpen (seen : ℕ) : Type 0 where
  pub word : IsPhaseWord seen
  pub opened : is_closed seen ≡ false

-- a pass that found nothing to do, and was a Mark pass
pub record IsIdle (p : Pass) : Type 0 where
  pub pass : IsPass p
  pub mark : p.sweep ≡ false

-- a pass that found nothing to do, and was a Sweep pass
pub record IsSwept (p : Pass) : Type 0 where
  pub pass : IsPass p
  pub sweep : p.sweep ≡ true

-- the word seen was that of an open gate with nobody inside, in the cycle and phase of the pass
pub record SeenEmpty (p : Pass) (seen : ℕ) : Type 0 where
  pub word : IsPhaseWord seen
  pub pass : is_of_pass p seen ≡ true
  pub empty : is_empty seen ≡ true

-- what is so of the numbers of a row
abbrev pub GateFits : GateRow → Type 0
GateFits Look = Unit {0}
GateFits (Enter seen) = SeenOpen seen
GateFits (Entered seen) = SeenOpen seen
GateFits Leave = Unit {0}
GateFits Left = Unit {0}
GateFits (CloseLook p) = IsPass p
GateFits (Close p seen) = IsPass p × SeenEmpty p seen
GateFits (CheckList p u) = IsIdle p × (u < p.threads)
GateFits (SetCursor p) = IsIdle p
GateFits (Flip p) = IsIdle p
GateFits (Reopen p) = IsIdle p
GateFits (ShadeRoot p u list) = IsSwept p × (u < p.threads)
GateFits (PutRoots p list) = IsSwept p
GateFits (Start p) = IsSwept p
GateFits TurnedOver = Unit {0}
GateFits (StartedCycle y) = Unit {0}
GateFits KeptOut = Unit {0}

-- the heap has as many threads as the pass says, and blocks for their register arrays
pub record IsAt (c : Config) (p : Pass) : Type 0 where
  pub threads : p.threads ≡ c.threads
  pub arrays : registers_end c.width c.threads ≤ c.blocks

-- and the row is one of the heap: the private list is a block of the first arrays, or 0
abbrev pub GateAt : Config → GateRow → Type 0
GateAt c (CloseLook p) = IsAt c p
GateAt c (Close p seen) = IsAt c p
GateAt c (CheckList p u) = IsAt c p
GateAt c (SetCursor p) = IsAt c p
GateAt c (Flip p) = IsAt c p
GateAt c (Reopen p) = IsAt c p
GateAt c (ShadeRoot p u list) = IsAt c p × (list ≤ registers_end c.width u)
GateAt c (PutRoots p list) = IsAt c p × (list ≤ registers_end c.width c.threads)
GateAt c (Start p) = IsAt c p
GateAt c _ = Unit {0}
