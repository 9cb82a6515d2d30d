-- A command that owes nothing, done from the look at the gate to the way out while its row is in
-- hand: the thread as it is at each row.
use Rattle.std.specs.Prelude.{ℕ, ◌+◌, ◌-◌, ◌<◌, ◌≤◌, ◌^◌, ◌≡◌, Option, Some, None, length}
use Rattle.never_heap.specs.declared.Command.{Command}
use Rattle.never_heap.specs.declared.Reply.{Reply}
use Rattle.never_heap.specs.Bounds.{IsCommandInBounds}
use Rattle.never_heap.specs.RightWork.{units_owed, requested_units}
use Rattle.never_heap.specs.Steps.{blocks_of}
use Rattle.block_store.specs.declared.Width.{Width}
use Rattle.barrier_steps.specs.declared.rows.FieldRow.{FieldRow}
use Rattle.barrier_steps.specs.Rows.{field_reply, first_row}
use Rattle.heap_machine.specs.Memories.{Acts}
use Rattle.heap_machine.specs.Passes.{IsPass}
use Rattle.heap_machine.specs.declared.pass.Pass.{Pass}
use Rattle.heap_machine.specs.declared.gate.GateRow.{GateRow}
use Rattle.work_account.specs.Accounts.{entered}
use Rattle.heap_machine.specs.declared.op.Op.{Op}
use Rattle.heap_system.specs.declared.Turn.{Turn}
use Rattle.heap_system.specs.declared.Turn.TheVariants.{Waited}
use Rattle.heap_system.specs.ThreadMemories.{HasRun, HasRunOn, MayRun}
use Rattle.heap_system.specs.Lives.{most_objects, most_units, objects_of}
use Rattle.heap_system.specs.Locals.{LocalState, answered, command_of, errand_of, first_part, owed, works}
use Rattle.heap_system.specs.Parts.{Rest, Enter, Access}

-- the thread that has seen this phase word, and goes in
abbrev pub entering_by : LocalState → ℕ → LocalState
entering_by l seen = record l { part = Enter (GateRow.Enter seen) }

-- the thread inside, in this pass, at its first row
abbrev pub inside_by : LocalState → Pass → LocalState
inside_by l p = record l {
  balance = entered p.cycle l.balance;
  pass = p;
  part = first_part l.config p (errand_of l);
}

-- at this row of its command
abbrev pub serving_at : LocalState → Pass → FieldRow → LocalState
serving_at l p r = record l {
  balance = entered p.cycle l.balance;
  pass = p;
  part = Access (record { pass = p; command = command_of l; row = r });
}

-- or on its way out, where that row has the reply
abbrev pub if_answered : Option Reply → LocalState → LocalState
if_answered None l = l
if_answered (Some r) l = answered l r

abbrev pub come_to : LocalState → Pass → FieldRow → LocalState
come_to l p r = if_answered (field_reply r) (serving_at l p r)

-- a command makes no object and no units, and this is its first row
pub record OwesNothing (k : Command) (r : FieldRow) : Type 0 where
  pub first : r ≡ first_row k
  pub told : requested_units k ≡ 0
  pub blocks : (w : Width) → blocks_of w k ≡ 0
  pub unsaid : field_reply r ≡ None

-- A thread at rest has a command, and goes in by this pass to do it: all is made that the command
-- owes, which takes no blocks.
pub record GoesIn (l : LocalState) (p : Pass) (k : Command) : Type 0 where
  pub rest : l.part ≡ Rest
  pub low : length l.log < length l.trace
  pub pass : IsPass p
  pub thread : p.thread ≡ l.thread
  pub threads : p.threads ≡ l.config.threads
  pub later : l.balance.cycle ≤ p.cycle
  pub command : k ≡ command_of l
  pub paid : l.spent ≡ owed l
  pub blocks : blocks_of l.config.width k ≡ 0

-- a thread has made events, at most so many and perhaps none
abbrev pub HasRunUpTo : {M S : Type 0} → ℕ → Acts M S → S → M → LocalState → M → LocalState → Turn
    → Type 0
HasRunUpTo most acts s before old after new turn =
    (run : HasRun acts s before old after new turn) × (length run.words ≤ most)

-- A thread has entered, with this pass. At most 62 events may follow, and any run of them, with the
-- events before, is one that `on` describes.
pub record HasEntered {M S : Type 0} (may : M → S → Op → Type 0) (acts : Acts M S) (s : S)
    (on : M → LocalState → Turn → Type 0) (l : LocalState) (now : M) (p : Pass) : Type 0 where
  pub cycle : (1 ≤ p.cycle) × (p.cycle ≤ 2 ^ 54 - 2)
  pub later : l.balance.cycle ≤ p.cycle
  pub mine : (p.thread ≡ l.thread) × (p.threads ≡ l.config.threads)
  pub may_on : MayRun may acts 62 now s (inside_by l p)
  pub leads : (after : M) (new : LocalState) (turn : Turn)
      → HasRunUpTo 62 acts s now (inside_by l p) after new turn → on after new turn

-- it has not entered, and looks at the gate again
abbrev pub HasNotEntered : {M : Type 0} → (M → LocalState → Turn → Type 0) → LocalState → M → Type 0
HasNotEntered on l now = on now (record l { part = Enter GateRow.Look }) Waited

-- a run from rest, and a run from a phase word that it has read
abbrev pub HasRunFromRest : {M S : Type 0} → Acts M S → S → M → LocalState → M → LocalState → Turn
    → Type 0
HasRunFromRest acts s before l after new turn = HasRunOn acts s before l after new turn

abbrev pub HasRunFromGate : {M S : Type 0} → Acts M S → S → M → LocalState → ℕ → M → LocalState → Turn
    → Type 0
HasRunFromGate acts s before l seen after new turn =
    HasRunUpTo 63 acts s before (entering_by l seen) after new turn

-- A thread that is alone and at rest, and has one command, may begin this one in its place.
pub record MayBegin (k : Command) (l : LocalState) : Type 0 where
  pub one : length l.trace ≡ 1
  pub rest : l.part ≡ Rest
  pub settled : l.spent ≡ 0
  pub alone : l.config.threads ≡ 1
  pub bounds : IsCommandInBounds l.config k
  pub units : l.before + works l.log + units_owed l.config.width l.rate k ≤ most_units
  pub objects : l.made + objects_of k ≤ most_objects
