-- What a call from C does to the heap of its handle, and the numbers that it returns.
use Rattle.std.specs.Prelude.{ℕ, ◌+◌, ◌-◌, ◌*◌, ◌/◌, ◌≡◌, ◌==◌, if◌then◌else◌, Option, Some, None, Result, Ok, Err, min, List, [], ◌∷◌}
use Rattle.block_store.specs.declared.Config.{Config}
use Rattle.block_store.specs.declared.Width.{Width}
use Rattle.block_store.specs.declared.Width.TheVariants.{Four, Eight}
use Rattle.block_store.specs.Widths.{payloads}
use Rattle.block_store.specs.declared.Name.{Name}
use Rattle.block_store.specs.declared.Value.TheVariants as values
use Rattle.never_heap.specs.declared.Command.{Command}
use Rattle.never_heap.specs.declared.Reply.{Reply}
use Rattle.never_heap.specs.declared.Reply.TheVariants as replies
use Rattle.never_heap.specs.Bounds.{IsCommandInBounds}
use Rattle.never_heap.specs.Histories.{Started}
use Rattle.heap_machine.specs.declared.op.Op.{Op}
use Rattle.heap_machine.specs.Operations.{HasActed}
use Rattle.heap_system.specs.Lives.{objects_of, most_units, most_objects}
use Rattle.heap_system.specs.Machines.{Run}
use Rattle.control_heap.specs.declared.control.OpenFault.TheVariants as faults
use Rattle.control_heap.specs.declared.control.Refused.TheVariants as refused
use Rattle.control_heap.specs.Calls.{MayAnswer}
use Rattle.control_heap.specs.Controls.{Control, CanOpen, HasLeft, HasAnswered, HasMade, Stands, asked, units}
use Rattle.control_heap.specs.Refusals.{IsOpenFault, IsRefused}
use Rattle.control_heap_c.specs.declared.answer.Answer.{Answer}
use Rattle.control_heap_c.specs.declared.answer.Refusal.{Refusal}
use Rattle.control_heap_c.specs.declared.answer.Refusal.TheVariants as refusals
use Rattle.control_heap_c.specs.declared.handle.Counts.{Counts}
use Rattle.control_heap_c.specs.declared.handle.OpenRefusal.{OpenRefusal}
use Rattle.control_heap_c.specs.declared.handle.OpenRefusal.TheVariants as opening
use Rattle.control_heap_c.specs.declared.owned.Owned.{Owned}
use Rattle.control_heap_c.specs.declared.owned.Owned.TheVariants.{Heap, Group, Resting, Executing, Moved}

-- ---- a command

-- an operation on a list of words, the word that it read, and the list after it
abbrev pub acts_on_words : List ℕ → Unit {0} → Op → ℕ → List ℕ → Type 0
acts_on_words ws none op word after = HasActed ws op word after

-- The heap carried the command out, as `ControlHeap::ask` ensures: the command was in bounds, the
-- life had room for it, and it is counted. Each run of the heap before is extended by this command
-- and this reply. The memory made the operations of the command, one after the other, and the reply
-- is one that the command can have.
pub record Answered (old new : Control) (k : Command) (a : Reply) : Type 0 where
  pub config : new.config ≡ old.config
  pub bounds : IsCommandInBounds old.config k
  pub left : HasLeft old k
  pub one_more : asked new ≡ asked old + 1
  pub objects : new.objects ≡ old.objects + objects_of k
  pub answered : HasAnswered old k a new
  pub made : HasMade acts_on_words old k new
  pub fits : MayAnswer k a

-- the heap of one thread that a handle has, if it has one
abbrev pub heap_in : Option Owned → Option Control
heap_in None = None
heap_in (Some (Heap h)) = Some h
heap_in (Some (Group g)) = None
heap_in (Some (Resting r)) = None
heap_in (Some (Executing e)) = None
heap_in (Some Moved) = None

-- the handle had a heap and has one, which carried the command out
abbrev pub IsAnswered : Option Control → Command → Reply → Option Control → Type 0
IsAnswered None k a h = ⊥
IsAnswered (Some old) k a None = ⊥
IsAnswered (Some old) k a (Some new) = Answered old new k a

-- or the command was refused: the handle is closed, or the heap refuses the command
abbrev pub IsNotAsked : Option Control → Command → Refusal → Type 0
IsNotAsked None k refusals.Closed = Unit {0}
IsNotAsked None k (refusals.Heap r) = ⊥
IsNotAsked (Some c) k refusals.Closed = ⊥
IsNotAsked (Some c) k (refusals.Heap r) = IsRefused c k r

-- the outcome of a command; a refused command leaves what the handle has unchanged
abbrev pub Became : Option Owned → Command → Result Reply Refusal → Option Owned → Type 0
Became old k (Ok a) new = IsAnswered (heap_in old) k a (heap_in new)
Became old k (Err e) new = IsNotAsked (heap_in old) k e × (new ≡ old)

-- its status: a different number for each refusal
abbrev pub status_of : Result Reply Refusal → ℕ
status_of (Ok a) = 0
status_of (Err refusals.Closed) = 1
status_of (Err (refusals.Heap refused.OutOfBounds)) = 2
status_of (Err (refusals.Heap refused.NoLifeLeft)) = 3

abbrev pub answer : ℕ → ℕ → ℕ → Answer
answer kind thread value = record { kind = kind; thread = thread; value = value }

-- a reply as numbers: a different triple for each
abbrev pub written : Reply → Answer
written (replies.New n) = answer 0 n.thread n.serial
written (replies.Full c) = answer 1 0 c
written replies.Stored = answer 2 0 0
written (replies.Val values.Nil) = answer 3 0 0
written (replies.Val (values.Int n)) = answer 4 0 n
written (replies.Val (values.Ref n)) = answer 5 n.thread n.serial
written (replies.Len n) = answer 6 0 n
written replies.Yes = answer 7 0 0
written replies.No = answer 8 0 0
written replies.Null = answer 9 0 0
written replies.Kind = answer 10 0 0
written replies.Range = answer 11 0 0
written replies.Idle = answer 12 0 0

abbrev pub named : Answer → Name
named w = record { thread = w.thread; serial = w.value }

-- the reply with such a triple
abbrev pub reply_in : Answer → Option Reply
reply_in w =
    if w.kind == 0 then Some (replies.New (named w))
    else if w.kind == 1 then Some (replies.Full w.value)
    else if w.kind == 2 then Some replies.Stored
    else if w.kind == 3 then Some (replies.Val values.Nil)
    else if w.kind == 4 then Some (replies.Val (values.Int w.value))
    else if w.kind == 5 then Some (replies.Val (values.Ref (named w)))
    else if w.kind == 6 then Some (replies.Len w.value)
    else if w.kind == 7 then Some replies.Yes
    else if w.kind == 8 then Some replies.No
    else if w.kind == 9 then Some replies.Null
    else if w.kind == 10 then Some replies.Kind
    else if w.kind == 11 then Some replies.Range
    else if w.kind == 12 then Some replies.Idle
    else None

-- the refusal with such a status
abbrev pub refusal_in : ℕ → Option Refusal
refusal_in s =
    if s == 1 then Some refusals.Closed
    else if s == 2 then Some (refusals.Heap refused.OutOfBounds)
    else if s == 3 then Some (refusals.Heap refused.NoLifeLeft)
    else None

-- what the caller's struct holds after the call: a refusal leaves it unchanged
abbrev pub told : Result Reply Refusal → Answer → Answer
told (Ok a) old = written a
told (Err e) old = old

-- a call of a command: what the handle has before and after, the caller's struct before and after,
-- and the status
pub record Called (k : Command) (old new : Option Owned) (before after : Answer) (status : ℕ)
    : Type 0 where
  pub outcome : Result Reply Refusal
  pub became : Became old k outcome new
  pub status_is : status ≡ status_of outcome
  pub answer_is : after ≡ told outcome before

-- A heap was called with these commands one after the other, each call returned status 0 and wrote
-- this reply, and the heap is then z.
abbrev pub AllCalled : Control → List Command → List Reply → Control → Type 0
AllCalled h [] [] z = h ≡ z
AllCalled h (k ∷ ks) (a ∷ ys) z =
    (n : Control) × (before : Answer)
    × Called k (Some (Heap h)) (Some (Heap n)) before (written a) 0
    × AllCalled n ks ys z
AllCalled h _ _ z = ⊥

-- A register argument has 32 bits, so that no large number is truncated to a valid register. From
-- 255 on all are taken as 255, which is out of bounds.
abbrev pub register : ℕ → ℕ
register r = min r 255

-- ---- opening

abbrev pub width_of : ℕ → Option Width
width_of v = if v == 1 then Some Four else if v == 2 then Some Eight else None

abbrev pub config_of : Width → ℕ → ℕ → ℕ → ℕ → Config
config_of w blocks live object shared = record {
  width = w;
  threads = 1;
  blocks = blocks;
  live = live;
  object = object;
  shared = shared;
}

-- a heap before its first command
pub record Fresh (c : Config) (h : Control) : Type 0 where
  pub can : CanOpen c
  pub config : h.config ≡ c
  pub asked : asked h ≡ 0
  pub units : units h ≡ 0
  pub objects : h.objects ≡ 0
  pub run : Run
  pub stands : Stands h run
  pub order : run.order ≡ Started ∷ []

abbrev pub IsOpened : Option Width → (Width → Config) → Option Control → Type 0
IsOpened None c h = ⊥
IsOpened (Some w) c None = ⊥
IsOpened (Some w) c (Some h) = Fresh (c w) h

-- why no heap is opened: the handle is open, there is no such version, or the heap's own cause
abbrev pub IsNotOpened : Option Owned → Option Width → (Width → Config) → OpenRefusal → Type 0
IsNotOpened (Some x) w c opening.Open = Unit {0}
IsNotOpened None None c opening.Version = Unit {0}
IsNotOpened None (Some w) c (opening.Heap f) = IsOpenFault (c w) f
IsNotOpened _ _ c _ = ⊥

abbrev pub BecameOpen : Option Owned → Option Width → (Width → Config) → Option OpenRefusal
    → Option Owned → Type 0
BecameOpen None w c None new = IsOpened w c (heap_in new)
BecameOpen (Some x) w c None new = ⊥
BecameOpen old w c (Some e) new = IsNotOpened old w c e × (new ≡ old)

-- its status: a different number for each cause
abbrev pub open_status : Option OpenRefusal → ℕ
open_status None = 0
open_status (Some (opening.Heap faults.OutOfBounds)) = 2
open_status (Some opening.Open) = 4
open_status (Some opening.Version) = 5
open_status (Some (opening.Heap faults.LiveTooSmall)) = 6
open_status (Some (opening.Heap faults.NoRate)) = 7
open_status (Some (opening.Heap faults.NoMemory)) = 8
open_status (Some (opening.Heap faults.NotOneThread)) = 9

-- the cause with such a status
abbrev pub open_refusal_in : ℕ → Option OpenRefusal
open_refusal_in s =
    if s == 2 then Some (opening.Heap faults.OutOfBounds)
    else if s == 4 then Some opening.Open
    else if s == 5 then Some opening.Version
    else if s == 6 then Some (opening.Heap faults.LiveTooSmall)
    else if s == 7 then Some (opening.Heap faults.NoRate)
    else if s == 8 then Some (opening.Heap faults.NoMemory)
    else if s == 9 then Some (opening.Heap faults.NotOneThread)
    else None

-- a call of open: what the handle has before and after, and the status
pub record Opened (w : Option Width) (c : Width → Config) (old new : Option Owned) (status : ℕ)
    : Type 0 where
  pub refusal : Option OpenRefusal
  pub became : BecameOpen old w c refusal new
  pub status_is : status ≡ open_status refusal

-- a call of close: a handle that has no heap of one thread is left as it is
abbrev pub IsClosed : Option Control → ℕ → Option Owned → Option Owned → Type 0
IsClosed None status old new = (status ≡ 1) × (new ≡ old)
IsClosed (Some h) status old new = (status ≡ 0) × (new ≡ None)

abbrev pub Shut : Option Owned → ℕ → Option Owned → Type 0
Shut old status new = IsClosed (heap_in old) status old new

-- ---- lent memory

-- how many words of 64 bits a heap takes, if there is such a version: those of its blocks, half a
-- word for each block of the largest object, and 128 more
abbrev pub lent_words : Option Width → ℕ → ℕ → ℕ
lent_words None blocks object = 0
lent_words (Some w) blocks object = 128 + (3 + payloads w) * blocks + (object + 1) / 2

-- ---- counts: what is left of the life, and how many commands it was asked

abbrev pub counts_of : Option Control → Counts
counts_of None = record { units = 0; objects = 0; asked = 0 }
counts_of (Some h) = record {
  units = most_units - units h;
  objects = most_objects - h.objects;
  asked = asked h;
}
