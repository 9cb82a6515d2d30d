-- Calls of one command each: what they return of its reply, and when each fault comes.
use Rattle.std.specs.Prelude.{ℕ, ◌+◌, ◌≡◌, Bool, true, false, if◌then◌else◌, Result, Ok, Err, List, [], ◌∷◌, codes}
use Rattle.never_heap.specs.declared.Command.{Command}
use Rattle.never_heap.specs.declared.Command.TheVariants as commands
use Rattle.never_heap.specs.declared.Reply.{Reply}
use Rattle.never_heap.specs.declared.Reply.TheVariants as replies
use Rattle.never_heap.specs.Bounds.{IsCommandInBounds}
use Rattle.never_heap.specs.Signatures.{Operand, Register, Field, Base, operands}
use Rattle.never_heap.specs.Steps.{makes_object}
use Rattle.heap_machine.specs.Memories.{Acts}
use Rattle.heap_system.specs.Lives.{objects_of}
use Rattle.control_heap.specs.declared.control.Refused.{Refused}
use Rattle.control_heap.specs.declared.control.Refused.TheVariants as refusals
use Rattle.control_heap.specs.declared.faults.Fault.{Fault}
use Rattle.control_heap.specs.declared.faults.Fault.TheVariants as faults
use Rattle.control_heap.specs.Controls.{ControlOf, HasAnswered, HasLeft, HasMade, asked}
use Rattle.control_heap.specs.Refusals.{IsRefused}

-- ---- which replies a command can have

-- whether the command reads the object in a register, and whether it reads or writes a field
abbrev pub has_base : List Operand → Bool
has_base [] = false
has_base (Register Base s ∷ os) = true
has_base (o ∷ os) = has_base os

abbrev pub has_field : List Operand → Bool
has_field [] = false
has_field (Field access i ∷ os) = true
has_field (o ∷ os) = has_field os

abbrev pub IsName : Reply → Type 0
IsName (replies.New n) = Unit {0}
IsName _ = ⊥

abbrev pub IsValue : Reply → Type 0
IsValue (replies.Val v) = Unit {0}
IsValue _ = ⊥

abbrev pub IsLength : Reply → Type 0
IsLength (replies.Len n) = Unit {0}
IsLength _ = ⊥

abbrev pub IsTest : Reply → Type 0
IsTest replies.Yes = Unit {0}
IsTest replies.No = Unit {0}
IsTest _ = ⊥

abbrev pub IsStored : Reply → Type 0
IsStored replies.Stored = Unit {0}
IsStored _ = ⊥

abbrev pub IsIdle : Reply → Type 0
IsIdle replies.Idle = Unit {0}
IsIdle _ = ⊥

-- the kinds of reply of each command where it succeeds
abbrev pub Says : Command → Reply → Type 0
Says (commands.New d f) a = IsName a
Says (commands.Arr d e) a = IsName a
Says (commands.Set d v) a = IsStored a
Says (commands.Nil d) a = IsStored a
Says (commands.Mov d s) a = IsStored a
Says (commands.Get d s i) a = IsValue a
Says (commands.Put s i v) a = IsStored a
Says (commands.Len s) a = IsLength a
Says (commands.Same a b) r = IsTest r
Says (commands.Say s) a = IsValue a
Says (commands.Swap s i v) a = IsValue a
Says (commands.Cas s i a v) r = IsTest r
Says (commands.Idle u) a = IsIdle a

-- The replies that a command can have. An allocation can be answered full. A command on an object
-- can find nil or a number in the register, and one on a field can find no field of its index.
-- Any other reply is of the command's own kind.
abbrev pub MayAnswer : Command → Reply → Type 0
MayAnswer k (replies.Full c) = makes_object k ≡ true
MayAnswer k replies.Null = has_base (operands k) ≡ true
MayAnswer k replies.Kind = has_base (operands k) ≡ true
MayAnswer k replies.Range = has_field (operands k) ≡ true
MayAnswer k a = Says k a

-- ---- what a call returns

-- the command was done, as by `ask`, and had this reply
pub record HasAsked {M : Type 0} (acts : Acts M (Unit {0})) (old : ControlOf M) (k : Command)
    (a : Reply) (new : ControlOf M) : Type 0 where
  pub bounds : IsCommandInBounds old.config k
  pub left : HasLeft old k
  pub one_more : asked new ≡ asked old + 1
  pub objects : new.objects ≡ old.objects + objects_of k
  pub answered : HasAnswered old k a new
  pub made : HasMade acts old k new

-- When each fault comes, where `done` says what holds if the command was executed and had a reply,
-- and `refused` what holds if it was refused. The command had that reply, which it can have; or it
-- was refused for that cause.
abbrev pub IsFaultOf : (Reply → Type 0) → (Refused → Type 0) → Command → Fault → Type 0
IsFaultOf done refused k (faults.Full c) = (makes_object k ≡ true) × done (replies.Full c)
IsFaultOf done refused k faults.Null = (has_base (operands k) ≡ true) × done replies.Null
IsFaultOf done refused k faults.Kind = (has_base (operands k) ≡ true) × done replies.Kind
IsFaultOf done refused k faults.Range = (has_field (operands k) ≡ true) × done replies.Range
IsFaultOf done refused k faults.OutOfBounds = refused refusals.OutOfBounds
IsFaultOf done refused k faults.NoLifeLeft = refused refusals.NoLifeLeft

-- The result of a call, in these words: the command was executed, and its reply carries this value;
-- or a fault. The heap may be any that executes commands.
abbrev pub IsOutcome : {T : Type 0} → (T → Reply) → (Reply → Type 0) → (Refused → Type 0) → Command
    → Result T Fault → Type 0
IsOutcome says done refused k (Ok x) = done (says x)
IsOutcome says done refused k (Err f) = IsFaultOf done refused k f

-- of this heap: a command that is refused leaves it unchanged
abbrev pub WasRefused : {M : Type 0} → ControlOf M → Command → ControlOf M → Refused → Type 0
WasRefused old k new r = IsRefused old k r × (new ≡ old)

abbrev pub HasReturned : {M T : Type 0} → (T → Reply) → Acts M (Unit {0}) → ControlOf M → Command
    → ControlOf M → Result T Fault → Type 0
HasReturned says acts old k new =
    IsOutcome says (λ a. HasAsked acts old k a new) (WasRefused old k new) k

-- the replies that carry no value, and yes or no
abbrev pub stored : Unit {0} → Reply
stored none = replies.Stored

abbrev pub idled : Unit {0} → Reply
idled none = replies.Idle

abbrev pub tested : Bool → Reply
tested b = if b then replies.Yes else replies.No

-- a refusal as a fault, and an outcome in which replies that carry no result are faults
abbrev pub fault_of : Refused → Fault
fault_of refusals.OutOfBounds = faults.OutOfBounds
fault_of refusals.NoLifeLeft = faults.NoLifeLeft

abbrev pub outcome_of : Result Reply Refused → Result Reply Fault
outcome_of (Ok (replies.Full c)) = Err (faults.Full c)
outcome_of (Ok replies.Null) = Err faults.Null
outcome_of (Ok replies.Kind) = Err faults.Kind
outcome_of (Ok replies.Range) = Err faults.Range
outcome_of (Ok a) = Ok a
outcome_of (Err r) = Err (fault_of r)

-- ---- the printed text of a fault

abbrev pub fault_text : Fault → List ℕ
fault_text (faults.Full c) =
    codes "full: more blocks were live than the limit; let go of objects, or raise the limit"
fault_text faults.Null = codes "null: the register is nil; put an object into it first"
fault_text faults.Kind =
    codes "kind: the register holds a number; name one that refers to an object"
fault_text faults.Range =
    codes "range: the object has no such field; len returns how many it has"
fault_text faults.OutOfBounds =
    codes "out of bounds: this heap allows no such operand or command; correct the call"
fault_text faults.NoLifeLeft =
    codes "no life left: too little is left for this command; open a new heap"

-- of a refusal: that of its fault
abbrev pub refused_text : Refused → List ℕ
refused_text r = fault_text (fault_of r)
