-- What every list of turns keeps of a thread at each part of its work, what a turn sees, and what
-- its event is to keep.
use Rattle.std.proofs.Common.{◌≡◌, ℕ, ◌+◌, ◌-◌, ◌*◌, ◌^◌, ◌<◌, ◌≤◌, Bool, true, false, cond, ltb, Option, Some, None, List, [], ◌∷◌, ◌++◌}
use Rattle.block_store.specs.declared.Config.{Config}
use Rattle.block_store.specs.Configs.{IsInBounds}
use Rattle.block_store.specs.Counts.{changed}
use Rattle.block_store.specs.Heaps.{Heap}
use Rattle.block_store.specs.Phases.{bit, is_closed, is_sweep, cycle_of}
use Rattle.block_store.specs.Places.{Phase, Cursor, GreyList, ColourOf, extent, is_block}
use Rattle.rate_plan.specs.Rates.{IsAdmitted}
use Rattle.never_heap.specs.declared.Command.{Command}
use Rattle.never_heap.specs.declared.Entry.{Entry}
use Rattle.never_heap.specs.declared.Reply.{Reply}
use Rattle.never_heap.specs.Bounds.{IsCommandInBounds}
use Rattle.never_heap.specs.Graphs.{Graph, count_of}
use Rattle.never_heap.specs.Histories.{HistoryItem, Did}
use Rattle.never_heap.specs.RightWork.{requested_units, units_owed}
use Rattle.never_heap.specs.Steps.{blocks_of, step}
use Rattle.heap_machine.specs.Gating.{Gating, GateOf, is_outside, is_inside}
use Rattle.heap_machine.specs.WorkInHand.{WorkInHand, holds_nothing}
use Rattle.heap_machine.specs.PhaseKept.{PhaseKept}
use Rattle.heap_machine.specs.Readings.{IsHeld}
use Rattle.heap_machine.specs.ChangingPhase.{lists_read}
use Rattle.heap_machine.specs.declared.gate.GateRow.{GateRow}
use Rattle.heap_machine.specs.declared.gate.GateRow.TheVariants as gates
use Rattle.heap_machine.specs.declared.pass.Pass.{Pass}
use Rattle.grey_steps.specs.MarkUnits.{is_shading}
use Rattle.grey_steps.specs.Rows.{GreyState, grey_over}
use Rattle.barrier_steps.specs.Replies.{IsKnown}
use Rattle.barrier_steps.specs.Rows.{FieldState, field_reply}
use Rattle.sweep_steps.specs.SweepUnits.{unpassed}
use Rattle.sweep_steps.specs.Rows.{SweepState, sweep_over, sweep_passed}
use Rattle.build_steps.specs.Rows.{BuildState, build_over}
use Rattle.build_steps.specs.Naming.{HoldsBuild}
use Rattle.heap_invariant.specs.name_invariant.Invariant.{Invariant}
use Rattle.work_account.specs.Accounts.{Balance}
use Rattle.heap_invariant.specs.name_invariant.Pictures.{Names, Task, no_task, picture}
use Rattle.heap_system.specs.Parts.{Part, Rest, Enter, Access, Mark, Sweep, Build, LeaveToChangePhase, PhaseChange, Leave}
use Rattle.heap_system.specs.Lives.{objects_of}
use Rattle.heap_system.specs.Locals.{paid_part, Errand, Effect, Verdict, Open, AsStep, Refused, task, pass_got, spent_got, made_got, entry_of, entries_of, works, unit_to_come, PartFits, IsRoomy}
use Rattle.heap_system.specs.Machines.{starts_by}
use Rattle.heap_system.specs.Naming.{renamed}
use Rattle.heap_system.specs.Pictures.{gating, work_in_hand, waiting}

-- how far a cycle and its phase are on: Mark of a cycle before its Sweep, and that before the next
abbrev pub stage : ℕ → Bool → ℕ
stage cycle sweep = 2 * cycle + bit sweep

abbrev pub stage_of : Heap → ℕ
stage_of h = stage (cycle_of (h Phase)) (is_sweep (h Phase))

-- thread t in command k, in this pass, that is not over
pub record RowKept (c : Config) (g : Graph) (t : ℕ) (pass : Pass) (k : Command) (f : FieldState) : Type 0 where
  pub serves : blocks_of c.width k ≡ 0
  pub passes : f.pass ≡ pass
  pub thread : f.pass.thread ≡ t
  pub command : f.command ≡ k
  pub known : IsKnown g f
  pub going : field_reply f.row ≡ None

-- a Mark pass of thread t, which scans
pub record MarkKept (t : ℕ) (pass : Pass) (m : GreyState) : Type 0 where
  pub passes : m.pass ≡ pass
  pub thread : m.pass.thread ≡ t
  pub mark : pass.sweep ≡ false
  pub scans : is_shading m.row ≡ false
  pub going : grey_over m.row ≡ false

-- a Sweep pass
pub record SweepingKept (c : Config) (t : ℕ) (pass : Pass) (s : SweepState) : Type 0 where
  pub thread : s.thread ≡ t
  pub own : pass.thread ≡ t
  pub cycle : s.cycle ≡ pass.cycle
  pub sweep : pass.sweep ≡ true
  pub going : sweep_over s.row ≡ false

-- a builder of the thread's next object
pub record BuildKept (c : Config) (g : Graph) (t : ℕ) (pass : Pass) (k : Command) (b : BuildState) : Type 0 where
  pub thread : b.thread ≡ t
  pub threads : b.threads ≡ c.threads
  pub cycle : b.cycle ≡ pass.cycle
  pub serial : b.serial ≡ count_of g t + 1
  pub command : b.command ≡ k
  pub going : build_over b.row ≡ false

-- a part on its way in is not over
abbrev pub IsEntering : GateRow → Type 0
IsEntering gates.Look = Unit {0}
IsEntering (gates.Enter seen) = Unit {0}
IsEntering _ = ⊥

-- and neither is one that changes the phase, which does it for the thread's pass
abbrev pub IsChangingPhase : Pass → GateRow → Type 0
IsChangingPhase q (gates.CloseLook p) = p ≡ q
IsChangingPhase q (gates.Close p seen) = p ≡ q
IsChangingPhase q (gates.CheckList p u) = (p ≡ q) × (q.sweep ≡ false)
IsChangingPhase q (gates.SetCursor p) = (p ≡ q) × (q.sweep ≡ false)
IsChangingPhase q (gates.Flip p) = (p ≡ q) × (q.sweep ≡ false)
IsChangingPhase q (gates.Reopen p) = (p ≡ q) × (q.sweep ≡ false)
IsChangingPhase q (gates.ShadeRoot p u list) = (p ≡ q) × (q.sweep ≡ true)
IsChangingPhase q (gates.PutRoots p list) = (p ≡ q) × (q.sweep ≡ true)
IsChangingPhase q (gates.Start p) = (p ≡ q) × (q.sweep ≡ true)
IsChangingPhase q _ = ⊥

abbrev pub PartKept : Config → Graph → ℕ → Pass → Command → Part → Type 0
PartKept c g t pass k (Enter a) = IsEntering a
PartKept c g t pass k (Access f) = RowKept c g t pass k f
PartKept c g t pass k (Mark m) = MarkKept t pass m
PartKept c g t pass k (Sweep s) = SweepingKept c t pass s
PartKept c g t pass k (Build b) = BuildKept c g t pass k b
PartKept c g t pass k LeaveToChangePhase = pass.thread ≡ t
PartKept c g t pass k (PhaseChange a) = IsChangingPhase pass a × (pass.thread ≡ t)
PartKept c g t pass k _ = Unit {0}

-- What a thread knows of the heap. After a Sweep pass that found nothing, as long as that sweep
-- goes on, the cursor is after the last block.
abbrev pub IsSwept : Config → Heap → Pass → Type 0
IsSwept c h q = q.sweep ≡ true → stage_of h ≡ stage q.cycle q.sweep → h Cursor ≡ c.blocks + 1

-- which roots a thread that closed the gate has shaded
abbrev pub HasShaded : ℕ → (ℕ → Bool) → GateRow → Type 0
HasShaded n shaded (gates.ShadeRoot p u list) = (t : ℕ) → t < n → shaded t ≡ ltb t u
HasShaded n shaded (gates.PutRoots p list) = (t : ℕ) → t < n → shaded t ≡ true
HasShaded n shaded (gates.Start p) = (t : ℕ) → t < n → shaded t ≡ true
HasShaded n shaded _ = Unit {0}

abbrev pub IsAtFirst : Heap → GateRow → Type 0
IsAtFirst h (gates.Flip p) = h Cursor ≡ 1
IsAtFirst h _ = Unit {0}

pub record TurnKnows (c : Config) (h : Heap) (ns : Names) (q : Pass) (a : GateRow) : Type 0 where
  pub swept : IsSwept c h q
  pub lists : (u : ℕ) → u < lists_read a → h (GreyList u) ≡ 0
  pub first : IsAtFirst h a
  pub roots : HasShaded c.threads ns.shaded a

abbrev pub Knows : Config → Heap → Names → Pass → Part → Type 0
Knows c h ns q LeaveToChangePhase = IsSwept c h q
Knows c h ns q (PhaseChange a) = TurnKnows c h ns q a
Knows c h ns q _ = Unit {0}

-- between two commands nothing is paid; a sweep has paid what it passed of what it owed; and where
-- the command is done all is paid
abbrev pub IsSettled : ℕ → ℕ → Part → Type 0
IsSettled due paid Rest = paid ≡ 0
IsSettled due paid (Sweep s) = paid + s.owed ≡ due + sweep_passed s.row
IsSettled due paid (Access f) = paid ≡ due
IsSettled due paid (Build b) = paid ≡ due
IsSettled due paid Leave = paid ≡ 0
IsSettled due paid _ = Unit {0}

-- the blocks that were passed or claimed over all cycles: all in each cycle before, and those below
-- the cursor in this one, while it is swept
abbrev pub lead : Config → Heap → ℕ
lead c h = (cycle_of (h Phase) - 1) * c.blocks + cond (is_sweep (h Phase)) (h Cursor - 1) 0

-- no phase comes back, and in Sweep the cursor does not go back
pub record Forward (h new : Heap) : Type 0 where
  pub stages : stage_of h ≤ stage_of new
  pub cursor : stage_of h ≡ stage_of new → is_sweep (h Phase) ≡ true → h Cursor ≤ new Cursor

-- What a turn sees: the graph of the order, the order, the names, the heap, and of each thread
-- where it is, what it is at and what it holds; of the thread whose turn it is its pass, its
-- command, how many are done of all, the rate, the units due, its balance, the objects made and its
-- room. And what holds of them.
pub record Seen (c : Config) : Type 0 where
  pub graph : Graph
  pub order : List HistoryItem
  pub names : Names
  pub heap : Heap
  pub gatings : ℕ → Gating
  pub tasks : ℕ → Task
  pub holds : ℕ → WorkInHand
  pub thread : ℕ
  pub pass : Pass
  pub command : Command
  pub done : ℕ
  pub all : ℕ
  pub rate : ℕ
  pub due : ℕ
  pub balance : Balance
  pub spent : ℕ
  pub made : ℕ
  pub space : ℕ
  pub bounds : IsInBounds c
  pub plan : IsAdmitted c
  pub low : thread < c.threads
  pub inside : IsCommandInBounds c command
  pub count : made ≡ count_of graph thread
  pub few : made + objects_of command < 2 ^ 43
  pub room : c.object ≤ space
  pub owes : due ≡ units_owed c.width rate command
  pub account : balance.paid ≡ paid_part (requested_units command) spent
  pub gate : GateOf c.threads (heap Phase) gatings
  pub held : IsHeld c heap
  pub beyond : (x : ℕ) → is_block (extent c) x ≡ false → heap (ColourOf x) ≡ 0
  pub rules : PhaseKept (extent c) heap holds
  pub kept : Invariant c (picture graph order heap names tasks)
  pub unshaded : is_sweep (heap Phase) ≡ true → is_closed (heap Phase) ≡ false → (t : ℕ) → t < c.threads → names.shaded t ≡ false
  pub cycle : cycle_of (heap Phase) ≤ 2 ^ 54 - 3
  pub behind : stage pass.cycle pass.sweep ≤ stage_of heap
  pub resting : (u : ℕ) → u < c.threads → is_inside (gatings u).stand ≡ false → tasks u ≡ no_task
  pub empty : (u : ℕ) → u < c.threads → is_outside (gatings u).stand ≡ true → holds u ≡ holds_nothing
  pub builders : (u : ℕ) → u < c.threads → HoldsBuild (tasks u).build (holds u)

abbrev pub errand : (c : Config) → Seen c → Errand
errand c s = record { command = s.command; due = s.due - s.spent; serial = s.made + 1; space = s.space }

-- the graph after an event of thread t in command k, by its verdict
abbrev pub graph_decided : Graph → ℕ → Command → Verdict → Graph
graph_decided g t k Open = g
graph_decided g t k AsStep = (step g t k).0
graph_decided g t k (Refused r) = g

-- the entry that it adds to the order
abbrev pub told_by : Graph → ℕ → Command → ℕ → Verdict → List Entry
told_by g t k work Open = []
told_by g t k work AsStep = entry_of t k work (step g t k).1 ∷ []
told_by g t k work (Refused r) = entry_of t k work r ∷ []

abbrev pub items_told : Graph → ℕ → Command → ℕ → Verdict → List HistoryItem
items_told g t k work Open = []
items_told g t k work AsStep = Did (entry_of t k work (step g t k).1) ∷ []
items_told g t k work (Refused r) = Did (entry_of t k work r) ∷ []

abbrev pub IsDecided : Verdict → Type 0
IsDecided Open = ⊥
IsDecided AsStep = Unit {0}
IsDecided (Refused r) = Unit {0}

-- One event of that thread: the heap after it, what the event is, the reply that was decided before
-- it, and the part after it.
pub record EventKept (c : Config) (s : Seen c) (new : Heap) (e : Effect) (before : Option Reply) (p : Part) : Type 0 where
  pub gate : GateOf c.threads (new Phase) (changed s.gatings s.thread (gating c (pass_got e.entered s.thread c.threads s.pass) p))
  pub held : IsHeld c new
  pub rules : PhaseKept (extent c) new (changed s.holds s.thread (work_in_hand c p))
  pub kept : Invariant c (picture (graph_decided s.graph s.thread s.command e.verdict) (s.order ++ (items_told s.graph s.thread s.command s.spent e.verdict ++ starts_by e.naming)) new
      (renamed s.thread s.graph s.heap e.naming s.names) (changed s.tasks s.thread (task c p)))
  pub unshaded : is_sweep (new Phase) ≡ true → is_closed (new Phase) ≡ false → (t : ℕ) → t < c.threads → (renamed s.thread s.graph s.heap e.naming s.names).shaded t ≡ false
  pub forward : Forward s.heap new
  pub behind : stage (pass_got e.entered s.thread c.threads s.pass).cycle (pass_got e.entered s.thread c.threads s.pass).sweep ≤ stage_of new
  pub leads : lead c new + (s.spent + unpassed (s.holds s.thread)) ≤ lead c s.heap + (works (entries_of s.thread s.command s.spent e.reply) + spent_got e.reply e.unit s.spent + unpassed (work_in_hand c p))
  pub part : PartKept c (graph_decided s.graph s.thread s.command e.verdict) s.thread (pass_got e.entered s.thread c.threads s.pass) s.command p
  pub knows : Knows c new (renamed s.thread s.graph s.heap e.naming s.names) (pass_got e.entered s.thread c.threads s.pass) p
  pub fits : PartFits c s.done s.all (pass_got e.entered s.thread c.threads s.pass) p
  pub roomy : IsRoomy s.space p
  pub over : (r : Reply) → e.reply ≡ Some r → p ≡ Leave
  pub told : entries_of s.thread s.command s.spent before ++ told_by s.graph s.thread s.command s.spent e.verdict
      ≡ entries_of s.thread s.command s.spent e.reply ++ entries_of s.thread s.command (spent_got e.reply e.unit s.spent) (waiting (graph_decided s.graph s.thread s.command e.verdict) p)
  pub low : spent_got e.reply e.unit s.spent + unit_to_come c p ≤ s.due
  pub settled : IsSettled s.due (spent_got e.reply e.unit s.spent) p
  pub exact : IsDecided e.verdict → s.spent ≡ s.due
  pub counted : works (told_by s.graph s.thread s.command s.spent e.verdict) ≡ works (entries_of s.thread s.command s.spent e.reply)
  pub counts : made_got s.command e.reply s.made ≡ count_of (graph_decided s.graph s.thread s.command e.verdict) s.thread
