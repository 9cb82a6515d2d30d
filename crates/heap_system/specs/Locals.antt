-- One thread's state, and its events as a table of rows: what each row wants, and what it becomes
-- on the word that it read.
use Rattle.std.specs.Prelude.{ℕ, ◌+◌, ◌-◌, ◌==◌, ◌&&◌, ◌++◌, ◌<◌, ◌≤◌, ◌≡◌, nat_lt, if◌then◌else◌, Bool, true, false, Option, Some, None, List, [], ◌∷◌, length, slice_index_or, not, is_some}
use Rattle.block_store.specs.declared.Config.{Config}
use Rattle.block_store.specs.declared.PhaseWord.{PhaseWord}
use Rattle.block_store.specs.Configs.{IsInBounds}
use Rattle.block_store.specs.Phases.{bit, is_closed, cycle_of}
use Rattle.block_store.specs.Places.{Phase, extent}
use Rattle.rate_plan.specs.Rates.{IsRate, IsAdmitted}
use Rattle.never_heap.specs.declared.Command.{Command}
use Rattle.never_heap.specs.declared.Command.TheVariants as commands
use Rattle.never_heap.specs.declared.Entry.{Entry}
use Rattle.never_heap.specs.declared.Reply.{Reply}
use Rattle.never_heap.specs.declared.Reply.TheVariants as replies
use Rattle.never_heap.specs.RightWork.{requested_units, units_owed}
use Rattle.never_heap.specs.Steps.{blocks_of}
use Rattle.work_account.specs.Accounts.{Balance, IsSound, entered, with_unit, with_idle, published, refused}
use Rattle.work_account.specs.Accounts as accounts
use Rattle.heap_machine.specs.declared.op.Op.{Op}
use Rattle.heap_machine.specs.Operations.{Operation, place_of, op_at}
use Rattle.heap_machine.specs.Readings.{CanHold}
use Rattle.heap_machine.specs.Gates.{gate_want, gate_got, gate_step, gate_entered, is_going_in, is_of_pass, is_empty, GateFits, GateAt}
use Rattle.heap_machine.specs.Gating.{Stand, Outside, Inside}
use Rattle.heap_machine.specs.ChangingPhase.{turns_over, changing_gating, changing_in_hand}
use Rattle.heap_machine.specs.WorkInHand.{WorkInHand, holds_nothing}
use Rattle.heap_machine.specs.Passes.{IsPass}
use Rattle.heap_machine.specs.declared.pass.Pass.{Pass}
use Rattle.heap_machine.specs.declared.gate.GateRow.{GateRow}
use Rattle.heap_machine.specs.declared.gate.GateRow.TheVariants as gates
use Rattle.heap_machine.specs.declared.Step.{Step}
use Rattle.heap_machine.specs.declared.Step.TheVariants as steps
use Rattle.grey_steps.specs.Rows.{grey_want, grey_got, grey_step, grey_over, grey_unit, grey_nothing, marking_in_hand, scanning}
use Rattle.grey_steps.specs.Fits.{GreyFits, GreyReads}
use Rattle.grey_steps.specs.MarkUnits.{is_blackening}
use Rattle.barrier_steps.specs.Rows.{at_first_row, field_want, field_got, field_step, field_reply, field_decided, field_in_hand}
use Rattle.barrier_steps.specs.Deciding.{is_deciding}
use Rattle.barrier_steps.specs.Fits.{FieldFits, FieldReads}
use Rattle.barrier_steps.specs.Projection.{loading_of}
use Rattle.sweep_steps.specs.Rows.{sweep_want, sweep_got, sweep_step, sweep_over, sweep_passed, sweep_nothing, sweep_in_hand, sweeping}
use Rattle.sweep_steps.specs.Fits.{SweepFits, SweepReads}
use Rattle.sweep_steps.specs.SweepUnits.{row_passes}
use Rattle.sweep_steps.specs.declared.rows.SweepRow.{SweepRow}
use Rattle.sweep_steps.specs.declared.rows.SweepRow.TheVariants as sweeps
use Rattle.build_steps.specs.Rows.{BuildState, build_want, build_got, build_step, build_reply, build_in_hand, built_at, building, full_cycle}
use Rattle.build_steps.specs.Fits.{BuildFits, BuildReads}
use Rattle.build_steps.specs.LinearizationPoints.{is_counting, is_publishing}
use Rattle.build_steps.specs.Naming.{build_of}
use Rattle.build_steps.specs.declared.rows.BuildRow.{BuildRow}
use Rattle.build_steps.specs.declared.rows.BuildRow.TheVariants as builds
use Rattle.heap_invariant.specs.graph_relation.Events.{Loading, unloaded}
use Rattle.heap_invariant.specs.name_invariant.Building.{Build as Builder}
use Rattle.heap_invariant.specs.name_invariant.Pictures.{Task}
use Rattle.heap_system.specs.Lives.{AreCommands, sum_after, objects_of, most_units, most_objects}
use Rattle.heap_system.specs.Naming.{Naming, Same, Lost, Begun, Shaded, Made}
use Rattle.heap_system.specs.Parts.{Part, Rest, Enter, Access, Mark, Sweep, Build, Retry, LeaveToChangePhase, PhaseChange, Leave}
use Rattle.heap_system.specs.declared.Turn.{Turn}
use Rattle.heap_system.specs.declared.Turn.TheVariants as turns

-- A thread of a heap: its commands, the entries of those that are done, and the row at which it
-- is. The rate is the number of units that an allocation owes for each of its blocks. So many
-- units were made for the command in hand (spent); the balance has those of them that are paid,
-- which those of an idle are not, and the units of the cycle that it entered last. It has made so
-- many objects, and has room to hold so many blocks. The pass is the one of its last entry. So many
-- units were made for the commands before those of the trace, which are in no log any more.
pub record LocalState : Type 0 where
  pub config : Config
  pub rate : ℕ
  pub thread : ℕ
  pub before : ℕ
  pub trace : List Command
  pub log : List Entry
  pub balance : Balance
  pub spent : ℕ
  pub made : ℕ
  pub space : ℕ
  pub pass : Pass
  pub part : Part

-- the command of a trace that comes after those in a log
abbrev pub command_behind : List Command → List Entry → Command
command_behind trace log = slice_index_or trace (length log) (commands.Nil 0)

-- the command in hand, or the next one
abbrev pub command_of : LocalState → Command
command_of l = command_behind l.trace l.log

-- the units that it is told to make
abbrev pub told_behind : List Command → List Entry → ℕ
told_behind trace log = requested_units (command_behind trace log)

-- the units that the command in hand owes
abbrev pub owed : LocalState → ℕ
owed l = units_owed l.config.width l.rate (command_of l)

-- what a thread goes in for: its command, the units that it still owes, the serial of the object
-- that it would make, and for how many blocks it has room
pub record Errand : Type 0 where
  pub command : Command
  pub due : ℕ
  pub serial : ℕ
  pub space : ℕ

abbrev pub errand_of : LocalState → Errand
errand_of l = record {
  command = command_of l;
  due = owed l - l.spent;
  serial = l.made + 1;
  space = l.space;
}

-- what a part of a thread's work says before its next event: the operation that it wants, where the
-- thread is at the gate, what it holds, has loaded and builds, and the units that it may still
-- make
pub record View : Type 0 where
  pub want : Operation
  pub stand : Stand
  pub work_in_hand : WorkInHand
  pub loading : Loading
  pub build : Option Builder
  pub to_come : ℕ

-- what most say: inside, and no more than an operation
abbrev pub quiet : Operation → View
quiet o = record {
  want = o;
  stand = Inside;
  work_in_hand = holds_nothing;
  loading = unloaded;
  build = None;
  to_come = 0;
}

-- what each says; a thread at rest begins with the look at the gate
abbrev pub view : Config → Part → View
view c Rest = record (quiet (gate_want c.width gates.Look)) { stand = Outside }
view c (Enter g) = record (quiet (gate_want c.width g)) { stand = Outside }
view c (Access f) = record (quiet (field_want (extent c) f)) {
  work_in_hand = field_in_hand (extent c) f;
  loading = loading_of (extent c) f;
}
view c (Mark m) = record (quiet (grey_want m)) {
  work_in_hand = marking_in_hand (extent c) m;
  to_come = bit (not (grey_unit m.row));
}
view c (Sweep s) = record (quiet (sweep_want s)) {
  work_in_hand = sweep_in_hand s.row;
  to_come = s.owed - sweep_passed s.row;
}
view c (Build b) = record (quiet (build_want (extent c) b)) {
  work_in_hand = build_in_hand b;
  build = build_of c.width b;
}
view c Retry = quiet (gate_want c.width gates.Leave)
view c LeaveToChangePhase = quiet (gate_want c.width gates.Leave)
view c (PhaseChange g) = record (quiet (gate_want c.width g)) {
  stand = (changing_gating g).stand;
  work_in_hand = changing_in_hand g;
}
view c Leave = quiet (gate_want c.width gates.Leave)

abbrev pub part_want : Config → Part → Operation
part_want c p = (view c p).want

-- what a thread is at, as the rules on names see it
abbrev pub task : Config → Part → Task
task c p = record {
  loading = (view c p).loading;
  build = (view c p).build;
  scan = (view c p).work_in_hand.found;
}

abbrev pub is_rest : Part → Bool
is_rest Rest = true
is_rest _ = false

abbrev pub is_build : Part → Bool
is_build (Build b) = true
is_build _ = false

-- what a part is about: it is at the gate outside, marks, sweeps, does a command that makes no
-- object, or goes out
abbrev pub is_at_gate : Part → Bool
is_at_gate Rest = true
is_at_gate (Enter g) = true
is_at_gate (PhaseChange g) = true
is_at_gate _ = false

abbrev pub is_marking : Part → Bool
is_marking (Mark m) = true
is_marking _ = false

abbrev pub is_sweeping : Part → Bool
is_sweeping (Sweep s) = true
is_sweeping _ = false

abbrev pub is_serving : Part → Bool
is_serving (Access f) = true
is_serving _ = false

abbrev pub is_on_way_out : Part → Bool
is_on_way_out Retry = true
is_on_way_out LeaveToChangePhase = true
is_on_way_out Leave = true
is_on_way_out _ = false

-- at rest with a log as long as the trace
abbrev pub is_done : LocalState → Bool
is_done l = is_rest l.part && (length l.log == length l.trace)

-- the pass of thread t of n that goes in by this phase word
abbrev pub pass_by : ℕ → ℕ → PhaseWord → Pass
pass_by t n p = record { thread = t; threads = n; cycle = p.cycle; sweep = p.sweep }

-- what a thread does in a pass that begins: where units are owed it sweeps or marks, by the phase;
-- where none are it builds, for an allocation, and does any other command
abbrev pub first_part : Config → Pass → Errand → Part
first_part c p e =
    if nat_lt 0 e.due
    then (if p.sweep then Sweep (sweeping p.thread p.cycle c.blocks e.due) else Mark (scanning p))
    else (if nat_lt 0 (blocks_of c.width e.command)
    then Build (building c.width p.thread p.threads p.cycle e.serial e.command e.space)
    else Access (at_first_row p e.command))

abbrev pub if_entered : Option PhaseWord → Config → ℕ → Errand → GateRow → Part
if_entered None c t e g = Enter g
if_entered (Some p) c t e g = first_part c (pass_by t c.threads p) e

abbrev pub pass_got : Option PhaseWord → ℕ → ℕ → Pass → Pass
pass_got None t n q = q
pass_got (Some p) t n q = pass_by t n p

-- a command that has its reply is over, and the thread goes out
abbrev pub if_replied : Option Reply → Part → Part
if_replied None p = p
if_replied (Some r) p = Leave

-- a pass that is over: the thread goes out, to come in again, or, where the pass found nothing to
-- do, to change the phase
abbrev pub if_over : Bool → Bool → Part → Part
if_over over nothing p = if over then (if nothing then LeaveToChangePhase else Retry) else p

-- whether the step is the last of its part
abbrev pub is_last : Step → Bool
is_last steps.Went = false
is_last steps.Over = true
is_last steps.Waited = false
is_last steps.WaitedOver = true

-- a part that changes the phase, and then the thread comes in again
abbrev pub if_turned : Bool → GateRow → Part
if_turned over g = if over then Enter gates.Look else PhaseChange g

-- the part after it, of thread t in this pass and for this errand, where it read w
abbrev pub part_got : Config → ℕ → Errand → Pass → Part → ℕ → Part
part_got c t e q Rest w = if_entered (gate_entered (gate_got c.width gates.Look w)) c t e
    (gate_got c.width gates.Look w)
part_got c t e q (Enter g) w =
    let n = gate_got c.width g w in if_entered (gate_entered n) c t e n
part_got c t e q (Access f) w = if_replied (field_reply (field_got (extent c) f w).row)
    (Access (field_got (extent c) f w))
part_got c t e q (Mark m) w =
    let n = grey_got (extent c) m w in if_over (grey_over n.row) (grey_nothing n.row) (Mark n)
part_got c t e q (Sweep s) w =
    let n = sweep_got s w in if_over (sweep_over n.row) (sweep_nothing n.row) (Sweep n)
part_got c t e q (Build b) w = if_replied (build_reply (build_got (extent c) b w))
    (Build (build_got (extent c) b w))
part_got c t e q Retry w = Enter gates.Look
part_got c t e q LeaveToChangePhase w = PhaseChange (gates.CloseLook q)
part_got c t e q (PhaseChange g) w = if_turned (is_last (gate_step g w)) (gate_got c.width g w)
part_got c t e q Leave w = Rest

-- how an event decides the command: not; as the heap that never frees answers it there; or it is
-- refused with this reply
pub data Verdict : Type 0 where
  Open : Verdict
  AsStep : Verdict
  Refused : (reply : Reply) → Verdict

abbrev pub is_decided : Verdict → Bool
is_decided Open = false
is_decided AsStep = true
is_decided (Refused reply) = true

abbrev pub if_decides : Bool → Verdict
if_decides b = if b then AsStep else Open

-- an allocation is refused where fewer blocks are free than it takes, and made where it is
-- published
abbrev pub build_verdict : BuildState → ℕ → Verdict
build_verdict b w =
    if is_counting b.row && nat_lt w b.blocks then Refused (replies.Full (full_cycle b.cycle))
    else if_decides (is_publishing b.row)

-- what an event is: its step; the phase word by which the thread went in; the reply that it brings,
-- at the last event before the thread goes out; its verdict on the command; whether it makes a
-- unit; and what it changes of the names
pub record Effect : Type 0 where
  pub step : Step
  pub entered : Option PhaseWord
  pub reply : Option Reply
  pub verdict : Verdict
  pub unit : Bool
  pub naming : Naming

-- what most are: no more than a step
abbrev pub plain : Step → Effect
plain s = record {
  step = s;
  entered = None;
  reply = None;
  verdict = Open;
  unit = false;
  naming = Same;
}

-- the flip and a start change the names, and so does a root that is shaded
abbrev pub turn_naming : GateRow → Naming
turn_naming (gates.Flip p) = Lost
turn_naming (gates.ShadeRoot p u list) = Shaded u
turn_naming (gates.Start p) = Begun
turn_naming _ = Same

-- what the event of each part is that reads w. A unit is the event that makes the block under scan
-- black, or passes a block of the sweep
abbrev pub effect : Config → Part → ℕ → Effect
effect c Rest w = record (plain (gate_step gates.Look w)) {
  entered = gate_entered (gate_got c.width gates.Look w);
}
effect c (Enter g) w = record (plain (gate_step g w)) {
  entered = gate_entered (gate_got c.width g w);
}
effect c (Access f) w = record (plain (field_step (extent c) f w)) {
  reply = field_reply (field_got (extent c) f w).row;
  verdict = if_decides (is_deciding f.command f.row w);
}
effect c (Mark m) w = record (plain (grey_step (extent c) m w)) { unit = is_blackening m.row }
effect c (Sweep s) w = record (plain (sweep_step s w)) {
  unit = is_some (row_passes s.cycle s.row w);
}
effect c (Build b) w = record (plain (build_step b w)) {
  reply = build_reply (build_got (extent c) b w);
  verdict = build_verdict b w;
  naming = if is_publishing b.row then Made (built_at b) else Same;
}
effect c Retry w = plain (gate_step gates.Leave w)
effect c LeaveToChangePhase w = plain (gate_step gates.Leave w)
effect c (PhaseChange g) w = record (plain (gate_step g w)) { naming = turn_naming g }
effect c Leave w = plain (gate_step gates.Leave w)

abbrev pub part_step : Config → Part → ℕ → Step
part_step c p w = (effect c p w).step

abbrev pub makes_unit : Config → Part → ℕ → Bool
makes_unit c p w = (effect c p w).unit

-- the units made for the command in hand after an event: where it brings a reply the next command
-- has none
abbrev pub spent_got : Option Reply → Bool → ℕ → ℕ
spent_got None unit spent = if unit then spent + 1 else spent
spent_got (Some r) unit spent = 0

-- The balance after an event. A thread that went in enters the cycle of the word; a unit is paid,
-- unless it is made for an idle; and where a command of k blocks has its reply these were given, or
-- the command is over without.
abbrev pub balance_in : Option PhaseWord → Balance → Balance
balance_in None b = b
balance_in (Some p) b = entered p.cycle b

-- a unit of a command that is told of so many: it is paid, but for an idle
abbrev pub balance_made : ℕ → Balance → Balance
balance_made told b = if told == 0 then with_unit b else with_idle b

abbrev pub balance_on : Bool → ℕ → Balance → Balance
balance_on unit told b = if unit then balance_made told b else b

abbrev pub balance_over : Reply → ℕ → Balance → Balance
balance_over (replies.New name) k b = published k b
balance_over _ k b = refused b

abbrev pub balance_paid : Option Reply → Bool → ℕ → ℕ → Balance → Balance
balance_paid None unit told k b = balance_on unit told b
balance_paid (Some reply) unit told k b = balance_over reply k b

-- of so many units made for a command that is told of so many, those that are paid, and those of an
-- idle
abbrev pub paid_part : ℕ → ℕ → ℕ
paid_part told spent = if told == 0 then spent else 0

abbrev pub idle_part : ℕ → ℕ → ℕ
idle_part told spent = if told == 0 then 0 else spent

abbrev pub balance_got : Effect → ℕ → ℕ → Balance → Balance
balance_got e told k b = balance_paid e.reply e.unit told k (balance_in e.entered b)

-- and the objects made, after a reply to this command
abbrev pub made_got : Command → Option Reply → ℕ → ℕ
made_got k (Some (replies.New name)) made = made + objects_of k
made_got k _ made = made

-- what a turn answers
abbrev pub turn_of : Step → Turn
turn_of steps.Went = turns.Went
turn_of steps.Over = turns.Went
turn_of steps.Waited = turns.Waited
turn_of steps.WaitedOver = turns.Waited

-- whether a turn at the gate that reads w waits: at a look on a closed gate, where the phase word
-- was changed since the look, and at a look whether the gate can be closed where it is closed or
-- somebody is inside
abbrev pub gate_waits : GateRow → ℕ → Bool
gate_waits gates.Look w = is_closed w
gate_waits (gates.Enter seen) w = not (w == seen)
gate_waits (gates.CloseLook p) w = is_of_pass p w && not (is_empty w)
gate_waits (gates.Close p seen) w = not (w == seen)
gate_waits _ w = false

-- at the cursor and at the free count a turn waits where the word was changed since it was read
abbrev pub sweep_waits : SweepRow → ℕ → Bool
sweep_waits (sweeps.ClaimRange x high) w = not (w == x)
sweep_waits _ w = false

-- and where the last of all free lists was empty
abbrev pub build_waits : ℕ → BuildRow → ℕ → Bool
build_waits n (builds.Reserve seen) w = not (w == seen)
build_waits n (builds.TakeFree u) w = (w == 0) && not (nat_lt (u + 1) n)
build_waits n _ w = false

-- whether a turn that reads w waits
abbrev pub waits : Part → ℕ → Bool
waits Rest w = gate_waits gates.Look w
waits (Enter g) w = gate_waits g w
waits (PhaseChange g) w = gate_waits g w
waits (Sweep s) w = sweep_waits s.row w
waits (Build b) w = build_waits b.threads b.row w
waits _ w = false

-- the entry of a command for which this many units were made
abbrev pub entry_of : ℕ → Command → ℕ → Reply → Entry
entry_of t k work r = record { thread = t; command = k; reply = r; work = work }

abbrev pub entries_of : ℕ → Command → ℕ → Option Reply → List Entry
entries_of t k work None = []
entries_of t k work (Some r) = entry_of t k work r ∷ []

-- how many commands are decided: those in the log, and the one in hand where it is and has no entry
-- there yet
abbrev pub decided_in : Part → ℕ
decided_in (Access f) = bit (field_decided f.row)
decided_in _ = 0

abbrev pub commands_decided : LocalState → ℕ
commands_decided l = length l.log + decided_in l.part

-- the thread after its event, which read w
abbrev pub local_got : LocalState → ℕ → LocalState
local_got l w =
    let e = effect l.config l.part w in
    record l {
      log = l.log ++ entries_of l.thread (command_of l) l.spent e.reply;
      balance = balance_got e (requested_units (command_of l)) (blocks_of l.config.width (command_of l))
          l.balance;
      spent = spent_got e.reply e.unit l.spent;
      made = made_got (command_of l) e.reply l.made;
      pass = pass_got e.entered l.thread l.config.threads l.pass;
      part = part_got l.config l.thread (errand_of l) l.pass l.part w;
    }

-- the thread with its command in the log, and this reply
abbrev pub answered : LocalState → Reply → LocalState
answered l reply = record l {
  log = l.log ++ entry_of l.thread (command_of l) l.spent reply ∷ [];
  balance = balance_over reply (blocks_of l.config.width (command_of l)) l.balance;
  spent = 0;
  made = made_got (command_of l) (Some reply) l.made;
  part = Leave;
}

-- the sum of the works
abbrev pub works : List Entry → ℕ
works [] = 0
works (e ∷ es) = e.work + works es

-- A thread at rest that has done its trace, with this command in its place: what is in the log is
-- let go, and counted.
abbrev pub begun : Command → LocalState → LocalState
begun k l = record l { before = l.before + works l.log; trace = k ∷ []; log = [] }

-- a pass of a thread of the heap
abbrev pub IsPassAt : Config → Pass → Type 0
IsPassAt c q = IsPass q × (q.threads ≡ c.threads)

-- the numbers of a row are in range, and a thread that has begun a command has one
abbrev pub PartFits : Config → ℕ → ℕ → Pass → Part → Type 0
PartFits c done all q Rest = Unit {0}
PartFits c done all q (Enter g) = GateFits g × (is_going_in g ≡ true) × (done < all)
PartFits c done all q (Access f) = FieldFits c f × (done < all)
PartFits c done all q (Mark m) = GreyFits c m × (done < all) × IsPassAt c q
PartFits c done all q (Sweep s) = SweepFits c s × (done < all) × IsPassAt c q
PartFits c done all q (Build b) = BuildFits c b × (done < all)
PartFits c done all q Retry = done < all
PartFits c done all q LeaveToChangePhase = (done < all) × IsPassAt c q
PartFits c done all q (PhaseChange g) =
    GateFits g × GateAt c g × (turns_over g ≡ true) × (done < all)
PartFits c done all q Leave = Unit {0}

-- the units that a part may still make
abbrev pub unit_to_come : Config → Part → ℕ
unit_to_come c p = (view c p).to_come

-- where a thread does its command, all that this owes is made
abbrev pub IsAllMade : ℕ → ℕ → Part → Type 0
IsAllMade due spent (Access f) = spent ≡ due
IsAllMade due spent (Build b) = spent ≡ due
IsAllMade due spent _ = Unit {0}

-- a builder has the thread's room
abbrev pub IsRoomy : ℕ → Part → Type 0
IsRoomy space (Build b) = b.capacity ≡ space
IsRoomy space _ = Unit {0}

-- A thread of a configuration that has a rate. No command has made more units than it owes, and the
-- balance is sound; its units are in the log, or paid, or were those of the commands before. There
-- is room for the blocks of the largest object. The units made before, those of the log and those
-- that the commands to come owe are few, and so are the objects made and those that may be asked
-- for.
pub record IsLocal (l : LocalState) : Type 0 where
  pub bounds : IsInBounds l.config
  pub plan : IsAdmitted l.config
  pub rate : IsRate l.config l.rate
  pub thread : l.thread < l.config.threads
  pub trace : AreCommands l.config l.trace
  pub life : l.before + works l.log
      + sum_after (units_owed l.config.width l.rate) (length l.log) l.trace ≤ most_units
  pub log : length l.log ≤ length l.trace
  pub part : PartFits l.config (length l.log) (length l.trace) l.pass l.part
  pub paid : l.spent + unit_to_come l.config l.part ≤ owed l
  pub settled : IsAllMade (owed l) l.spent l.part
  pub sound : IsSound l.rate l.config.object l.balance
  pub account : l.balance.paid ≡ paid_part (requested_units (command_of l)) l.spent
  pub units : l.balance.units ≤ l.before + works l.log + l.spent
  pub made : l.made + sum_after objects_of (length l.log) l.trace ≤ most_objects
  pub space : l.config.object ≤ l.space
  pub roomy : IsRoomy l.space l.part

-- the words that a row may read. A thread goes in by the word of a cycle that has begun
abbrev pub PartReads : Config → Part → ℕ → Type 0
PartReads c Rest w = CanHold (extent c) Phase w × (1 ≤ cycle_of w)
PartReads c (Enter g) w = CanHold (extent c) Phase w × (1 ≤ cycle_of w)
PartReads c (Access f) w = FieldReads c f w
PartReads c (Mark m) w = GreyReads c m w
PartReads c (Sweep s) w = SweepReads c s w
PartReads c (Build b) w = BuildReads c b w
PartReads c Retry w = CanHold (extent c) Phase w
PartReads c LeaveToChangePhase w = CanHold (extent c) Phase w
PartReads c (PhaseChange g) w = CanHold (extent c) (place_of (gate_want c.width g)) w
PartReads c Leave w = CanHold (extent c) Phase w

-- and a thread goes in by the word of a cycle that is not before the one that it entered last
abbrev pub EntersOn : Part → ℕ → ℕ → Type 0
EntersOn (Enter g) z w = z ≤ cycle_of w
EntersOn _ z w = Unit {0}

-- the words that a thread may read at its next event
abbrev pub LocalReads : Config → LocalState → ℕ → Type 0
LocalReads c l w = PartReads c l.part w × EntersOn l.part l.balance.cycle w

-- the operation of the thread's next event, as the code makes it
abbrev pub op_wanted : LocalState → Op
op_wanted l = op_at (extent l.config) (part_want l.config l.part)

-- a thread has moved on by its next event, which read w, and told what its turn was
abbrev pub HasGot : LocalState → ℕ → LocalState → Turn → Type 0
HasGot old w new turn =
    (new ≡ local_got old w) × (turn ≡ turn_of (part_step old.config old.part w))

-- the pass of a thread that has not yet gone in
abbrev pub no_pass : ℕ → ℕ → Pass
no_pass t n = record { thread = t; threads = n; cycle = 0; sweep = false }

-- a thread at rest before its first command, with this rate and room
abbrev pub at_start : Config → ℕ → ℕ → ℕ → List Command → LocalState
at_start c rate space t trace = record {
  config = c;
  rate = rate;
  thread = t;
  before = 0;
  trace = trace;
  log = [];
  balance = accounts.opened;
  spent = 0;
  made = 0;
  space = space;
  pass = no_pass t c.threads;
  part = Rest;
}
