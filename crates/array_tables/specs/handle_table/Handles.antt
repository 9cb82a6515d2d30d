-- Handles: slots that keep objects for all threads, and how the operations are made of commands.
use Rattle.std.specs.Prelude.{ℕ, ◌+◌, ◌-◌, ◌*◌, ◌/◌, ◌%◌, ◌≡◌, ◌<◌, ◌==◌, ◌&&◌, ◌≤◌, ◌^◌, Bool, true, false, if◌then◌else◌, Option, Some, None, List, [], ◌∷◌, ◌++◌, length, drop, replicate, slice_index_or, slice_set}
use Rattle.array_trees.specs.Trees.{array_blocks}
use Rattle.block_store.specs.declared.Config.{Config}
use Rattle.block_store.specs.declared.Width.TheVariants.{Eight}
use Rattle.block_store.specs.declared.Value.TheVariants.{Int}
use Rattle.array_tables.specs.operations.Linearizations.{Call}
use Rattle.array_tables.specs.declared.handle_table.operation.Operation.{Operation}
use Rattle.array_tables.specs.declared.handle_table.operation.Operation.TheVariants as said
use Rattle.array_tables.specs.declared.handle_table.told.Outcome.{Outcome}
use Rattle.array_tables.specs.declared.handle_table.told.Outcome.TheVariants as outcomes
use Rattle.never_heap.specs.declared.Command.{Command}
use Rattle.never_heap.specs.declared.Command.TheVariants as commands
use Rattle.never_heap.specs.declared.Reply.{Reply}
use Rattle.never_heap.specs.declared.Reply.TheVariants as replies

-- A deed is an operation that says whose handle it is about: that of make j of thread t, counted
-- from 0. A see or a drop is about the last make of h before it in its thread.
pub data Deed : Type 0 where
  Make : (t j h i x : ℕ) → Deed
  See : (t j h i : ℕ) → Deed
  Drop : (t j h i : ℕ) → Deed
  Take : (i : ℕ) → Deed
  Evict : (i : ℕ) → Deed

-- what a slot holds: the handle of make j of thread t, with its number x; or nothing
abbrev pub Slot : Type 0
Slot = Option (ℕ × ℕ × ℕ)

-- whether the slot was as the operation asks for it; or the id and the number that it showed
pub data Answer : Type 0 where
  Matched : (b : Bool) → Answer
  Found : (found : Option (ℕ × ℕ)) → Answer

-- the id of a handle
abbrev pub id : ℕ → ℕ → ℕ
id t j = t * 2 ^ 20 + (j + 1)

abbrev pub is_free : Slot → Bool
is_free None = true
is_free (Some c) = false

-- whether a slot holds this handle
abbrev pub holds : Slot → ℕ → ℕ → Bool
holds None t j = false
holds (Some c) t j = (c.0 == t) && (c.1 == j)

abbrev pub shown : Slot → Option (ℕ × ℕ)
shown None = None
shown (Some c) = Some (id c.0 c.1, c.2)

abbrev pub slot_at : List Slot → ℕ → Slot
slot_at slots i = slice_index_or slots i None

-- A make asks for a free slot; a see and a drop ask whether the slot holds their handle; a take and
-- an evict show the slot.
abbrev pub answer : Deed → List Slot → Answer
answer (Make t j h i x) slots = Matched (is_free (slot_at slots i))
answer (See t j h i) slots = Matched (holds (slot_at slots i) t j)
answer (Drop t j h i) slots = Matched (holds (slot_at slots i) t j)
answer (Take i) slots = Found (shown (slot_at slots i))
answer (Evict i) slots = Found (shown (slot_at slots i))

-- a make fills a free slot, a drop empties the slot that holds its handle, and an evict any
abbrev pub slots_after : Deed → List Slot → List Slot
slots_after (Make t j h i x) slots =
    if is_free (slot_at slots i) then slice_set slots i (Some (t, j, x)) else slots
slots_after (See t j h i) slots = slots
slots_after (Drop t j h i) slots =
    if holds (slot_at slots i) t j then slice_set slots i None else slots
slots_after (Take i) slots = slots
slots_after (Evict i) slots = slice_set slots i None

abbrev pub empty_slots : ℕ → List Slot
empty_slots n = replicate n None

-- A command of an operation, with what it is for. A make makes an item with its number, and a box
-- that refers to the item and has the handle's id, and claims the slot for the box.
pub data Row : Type 0 where
  NewItem : (t j h i x : ℕ) → Row
  SetNumber : (t j h i x : ℕ) → Row
  PutNumber : (t j h i x : ℕ) → Row
  NewBox : (t j h i x : ℕ) → Row
  PutItem : (t j h i x : ℕ) → Row
  SetId : (t j h i x : ℕ) → Row
  PutId : (t j h i x : ℕ) → Row
  Clean : (t j h i x : ℕ) → Row
  Claim : (t j h i x : ℕ) → Row
  Look : (t j h i : ℕ) → Row
  Compare : (t j h i : ℕ) → Row
  Calm : (t j h i : ℕ) → Row
  Release : (t j h i : ℕ) → Row
  Fetch : (i : ℕ) → Row
  Blank : (i : ℕ) → Row
  Withdraw : (i : ℕ) → Row
  TellId : Row
  TellItem : Row
  TellNumber : Row

abbrev pub rows_of : Deed → List Row
rows_of (Make t j h i x) =
    NewItem t j h i x ∷ SetNumber t j h i x ∷ PutNumber t j h i x ∷ NewBox t j h i x
    ∷ PutItem t j h i x ∷ SetId t j h i x ∷ PutId t j h i x ∷ Clean t j h i x
    ∷ Claim t j h i x ∷ []
rows_of (See t j h i) = Look t j h i ∷ Compare t j h i ∷ []
rows_of (Drop t j h i) = Calm t j h i ∷ Release t j h i ∷ []
rows_of (Take i) = Fetch i ∷ TellId ∷ TellItem ∷ TellNumber ∷ []
rows_of (Evict i) = Blank i ∷ Withdraw i ∷ TellId ∷ TellItem ∷ TellNumber ∷ []

-- the register of h
abbrev pub register_of_h : ℕ → ℕ
register_of_h h = 4 + h

abbrev pub command_at : Row → Command
command_at (NewItem t j h i x) = commands.New 1 1
command_at (SetNumber t j h i x) = commands.Set 2 x
command_at (PutNumber t j h i x) = commands.Put 1 0 2
command_at (NewBox t j h i x) = commands.New (register_of_h h) 2
command_at (PutItem t j h i x) = commands.Put (register_of_h h) 0 1
command_at (SetId t j h i x) = commands.Set 2 (id t j)
command_at (PutId t j h i x) = commands.Put (register_of_h h) 1 2
command_at (Clean t j h i x) = commands.Nil 2
command_at (Claim t j h i x) = commands.Cas 0 i 2 (register_of_h h)
command_at (Look t j h i) = commands.Get 1 0 i
command_at (Compare t j h i) = commands.Same 1 (register_of_h h)
command_at (Calm t j h i) = commands.Nil 2
command_at (Release t j h i) = commands.Cas 0 i (register_of_h h) 2
command_at (Fetch i) = commands.Get 1 0 i
command_at (Blank i) = commands.Nil 1
command_at (Withdraw i) = commands.Swap 0 i 1
command_at TellId = commands.Get 2 1 1
command_at TellItem = commands.Get 3 1 0
command_at TellNumber = commands.Get 3 3 0

-- the rows at which an operation takes effect
abbrev pub decides : Row → Option Deed
decides (Claim t j h i x) = Some (Make t j h i x)
decides (Look t j h i) = Some (See t j h i)
decides (Release t j h i) = Some (Drop t j h i)
decides (Fetch i) = Some (Take i)
decides (Withdraw i) = Some (Evict i)
decides _ = None

abbrev pub is_yes : Reply → Bool
is_yes replies.Yes = true
is_yes _ = false

-- the last of these replies, and the last three
abbrev pub last_of : Reply → List Reply → Reply
last_of r [] = r
last_of r (s ∷ rs) = last_of s rs

abbrev pub done_told : List Reply → Answer
done_told [] = Matched false
done_told (r ∷ rs) = Matched (is_yes (last_of r rs))

-- an id and a number, or refused since there is none
abbrev pub number_found : ℕ → Reply → Option (ℕ × ℕ)
number_found n (replies.Val (Int x)) = Some (n, x)
number_found n _ = None

abbrev pub found_by : Reply → Reply → Option (ℕ × ℕ)
found_by (replies.Val (Int n)) r = number_found n r
found_by _ r = None

abbrev pub found_behind : Reply → Reply → Reply → List Reply → Answer
found_behind a b c [] = Found (found_by a c)
found_behind a b c (d ∷ rs) = found_behind b c d rs

abbrev pub found_told : List Reply → Answer
found_told (a ∷ b ∷ c ∷ rs) = found_behind a b c rs
found_told _ = Found None

-- the last row of an operation, and how its replies tell its answer
abbrev pub ends : Row → Option (List Reply → Answer)
ends (Claim t j h i x) = Some done_told
ends (Compare t j h i) = Some done_told
ends (Release t j h i) = Some done_told
ends TellNumber = Some found_told
ends _ = None

-- after h was made with this number
abbrev pub last_after : (ℕ → ℕ) → ℕ → ℕ → ℕ → ℕ
last_after last h n g = if h == g then n else last g

-- The operations of thread t are numbered, from make j on: a make has its thread and number, and a
-- see or drop those of the last make of its h. Of each h one more than that number is known, and 0
-- before the first make. Each h is below 8, and each slot one of these.
abbrev pub AreNumbered : ℕ → ℕ → ℕ → (ℕ → ℕ) → List Deed → Type 0
AreNumbered slots t n last [] = Unit {0}
AreNumbered slots t n last (Make u j h i x ∷ ops) =
    ((u ≡ t) × (j ≡ n) × (h < 8) × (i < slots))
    × AreNumbered slots t (n + 1) (last_after last h (n + 1)) ops
AreNumbered slots t n last (See u j h i ∷ ops) =
    ((u ≡ t) × (last h ≡ j + 1) × (h < 8) × (i < slots)) × AreNumbered slots t n last ops
AreNumbered slots t n last (Drop u j h i ∷ ops) =
    ((u ≡ t) × (last h ≡ j + 1) × (h < 8) × (i < slots)) × AreNumbered slots t n last ops
AreNumbered slots t n last (Take i ∷ ops) = (i < slots) × AreNumbered slots t n last ops
AreNumbered slots t n last (Evict i ∷ ops) = (i < slots) × AreNumbered slots t n last ops

-- The heap of the slots: three blocks of registers a thread, the array, a box and an item for each
-- slot; and for each thread 16 for the registers of the h, two for register 1 and one for register
-- 3.
abbrev pub handle_config : ℕ → ℕ → ℕ → Config
handle_config threads slots blocks = record {
  width = Eight;
  threads = threads;
  blocks = blocks;
  live = 22 * threads + array_blocks Eight slots + 2 * slots;
  object = 1;
  shared = slots;
}

-- ---- the operations of a script, and what they are about

-- the deeds of thread t from make n on, where of each h the last make is known
abbrev pub numbered : ℕ → ℕ → (ℕ → ℕ) → List Operation → List Deed
numbered t n last [] = []
numbered t n last (said.Make h i x ∷ ops) =
    Make t n h i x ∷ numbered t (n + 1) (last_after last h (n + 1)) ops
numbered t n last (said.See h i ∷ ops) = See t (last h - 1) h i ∷ numbered t n last ops
numbered t n last (said.Drop h i ∷ ops) = Drop t (last h - 1) h i ∷ numbered t n last ops
numbered t n last (said.Take i ∷ ops) = Take i ∷ numbered t n last ops
numbered t n last (said.Evict i ∷ ops) = Evict i ∷ numbered t n last ops

abbrev pub deeds_of : ℕ → List Operation → List Deed
deeds_of t ops = numbered t 0 (λ h. 0) ops

-- those of the threads from thread t on
abbrev pub all_deeds : ℕ → List (List Operation) → List (List Deed)
all_deeds t [] = []
all_deeds t (ops ∷ scripts) = deeds_of t ops ∷ all_deeds (t + 1) scripts

-- the slot of the last make of h
abbrev pub slot_by : ℕ → Option ℕ → Operation → Option ℕ
slot_by h slot (said.Make g i x) = if g == h then Some i else slot
slot_by h slot _ = slot

abbrev pub slot_behind : ℕ → Option ℕ → List Operation → Option ℕ
slot_behind h slot [] = slot
slot_behind h slot (op ∷ ops) = slot_behind h (slot_by h slot op) ops

abbrev pub slot_of : ℕ → List Operation → Option ℕ
slot_of h ops = slot_behind h None ops

-- an operation in its ranges; a see or a drop is at the slot of the last make of its h
abbrev pub CanStand : ℕ → List Operation → Operation → Type 0
CanStand slots before (said.Make h i x) = (h < 8) × (i < slots) × (x < 2 ^ 62)
CanStand slots before (said.See h i) = (h < 8) × (i < slots) × (slot_of h before ≡ Some i)
CanStand slots before (said.Drop h i) = (h < 8) × (i < slots) × (slot_of h before ≡ Some i)
CanStand slots before (said.Take i) = i < slots
CanStand slots before (said.Evict i) = i < slots

-- operations of which each may come after those before it
abbrev pub AreInTurn : ℕ → List Operation → List Operation → Type 0
AreInTurn slots before [] = Unit {0}
AreInTurn slots before (op ∷ ops) =
    CanStand slots before op × AreInTurn slots (before ++ op ∷ []) ops

-- a thread's script: at most 14,000 operations, each of which may come
pub record IsScriptInRange (slots : ℕ) (ops : List Operation) : Type 0 where
  pub few : length ops ≤ 14000
  pub each : AreInTurn slots [] ops

-- the handle that an operation names; a take or an evict names none
abbrev pub handle_of : Operation → ℕ
handle_of (said.Make h i x) = h
handle_of (said.See h i) = h
handle_of (said.Drop h i) = h
handle_of _ = 0

-- each is one of the thread's eight
abbrev pub AreNamed : List Operation → Type 0
AreNamed ops = (k : ℕ) (d : Operation) → k < length ops → handle_of (slice_index_or ops k d) < 8

-- ---- the commands of an operation, and the answer that the replies to them tell

abbrev pub makes : Operation → ℕ
makes (said.Make h i x) = 1
makes _ = 0

-- the commands that make an item and its box in the register of h, and those that show a box
abbrev pub box_commands : ℕ → ℕ → ℕ → List Command
box_commands number h x =
    commands.New 1 1 ∷ commands.Set 2 x ∷ commands.Put 1 0 2 ∷ commands.New (register_of_h h) 2
    ∷ commands.Put (register_of_h h) 0 1 ∷ commands.Set 2 number
    ∷ commands.Put (register_of_h h) 1 2 ∷ []

abbrev pub shown_commands : List Command
shown_commands = commands.Get 2 1 1 ∷ commands.Get 3 1 0 ∷ commands.Get 3 3 0 ∷ []

-- the commands of thread t's next operation, after n makes, and of its next operations
abbrev pub commands_of : ℕ → ℕ → Operation → List Command
commands_of t n (said.Make h i x) =
    box_commands (id t n) h x ++ commands.Nil 2 ∷ commands.Cas 0 i 2 (register_of_h h) ∷ []
commands_of t n (said.See h i) = commands.Get 1 0 i ∷ commands.Same 1 (register_of_h h) ∷ []
commands_of t n (said.Drop h i) = commands.Nil 2 ∷ commands.Cas 0 i (register_of_h h) 2 ∷ []
commands_of t n (said.Take i) = commands.Get 1 0 i ∷ shown_commands
commands_of t n (said.Evict i) = commands.Nil 1 ∷ commands.Swap 0 i 1 ∷ shown_commands

abbrev pub commands_from : ℕ → ℕ → List Operation → List Command
commands_from t n [] = []
commands_from t n (op ∷ ops) = commands_of t n op ++ commands_from t (n + makes op) ops

-- how many commands an operation has
abbrev pub size_of : Operation → ℕ
size_of (said.Make h i x) = 9
size_of (said.See h i) = 2
size_of (said.Drop h i) = 2
size_of (said.Take i) = 4
size_of (said.Evict i) = 5

abbrev pub sizes_of : List Operation → ℕ
sizes_of [] = 0
sizes_of (op ∷ ops) = size_of op + sizes_of ops

abbrev pub reply_at : List Reply → ℕ → Reply
reply_at rs k = slice_index_or rs k replies.Null

-- ---- what an operation came to

abbrev pub is_matched : Answer → Bool
is_matched (Matched b) = b
is_matched (Found f) = false

abbrev pub found_in : Answer → Option (ℕ × ℕ)
found_in (Matched b) = None
found_in (Found f) = f

-- a handle is told as the thread whose make it is of, and the make's number from 1 on
abbrev pub shown_as : Option (ℕ × ℕ) → Outcome
shown_as None = outcomes.Empty
shown_as (Some p) = outcomes.Shown (p.0 / 2 ^ 20) (p.0 % 2 ^ 20) p.1

abbrev pub outcome_of : Deed → Answer → Outcome
outcome_of (Make t j h i x) a = if is_matched a then outcomes.Made t (j + 1) else outcomes.Taken
outcome_of (See t j h i) a = if is_matched a then outcomes.Live else outcomes.Stale
outcome_of (Drop t j h i) a = if is_matched a then outcomes.Dropped else outcomes.Stale
outcome_of (Take i) a = shown_as (found_in a)
outcome_of (Evict i) a = shown_as (found_in a)

-- what an operation of thread t, after n makes, came to by these replies
abbrev pub outcome_told : ℕ → ℕ → Operation → List Reply → Outcome
outcome_told t n (said.Make h i x) rs =
    if is_yes (reply_at rs 8) then outcomes.Made t (n + 1) else outcomes.Taken
outcome_told t n (said.See h i) rs = if is_yes (reply_at rs 1) then outcomes.Live else outcomes.Stale
outcome_told t n (said.Drop h i) rs =
    if is_yes (reply_at rs 1) then outcomes.Dropped else outcomes.Stale
outcome_told t n (said.Take i) rs = shown_as (found_by (reply_at rs 1) (reply_at rs 3))
outcome_told t n (said.Evict i) rs = shown_as (found_by (reply_at rs 2) (reply_at rs 4))

abbrev pub outcomes_told : ℕ → ℕ → List Operation → List Reply → List Outcome
outcomes_told t n [] rs = []
outcomes_told t n (op ∷ ops) rs =
    outcome_told t n op rs ∷ outcomes_told t (n + makes op) ops (drop (size_of op) rs)

-- an example: the operations of one thread on one slot, and the answers
abbrev pub example_operations : List Operation
example_operations =
    said.Take 0 ∷ said.Make 0 0 7 ∷ said.Take 0 ∷ said.Make 1 0 8 ∷ said.See 0 0 ∷ said.Drop 1 0
    ∷ said.Evict 0 ∷ said.See 0 0 ∷ said.Drop 0 0 ∷ said.Make 1 0 9 ∷ said.Take 0 ∷ []

abbrev pub answered_by : List Deed → List Answer → List (Call Deed Answer)
answered_by [] answers = []
answered_by (op ∷ ops) [] = []
answered_by (op ∷ ops) (a ∷ answers) =
    record { thread = 0; operation = op; answer = a } ∷ answered_by ops answers

abbrev pub example_answers : List Answer
example_answers =
    Found None ∷ Matched true ∷ Found (Some (1, 7)) ∷ Matched false ∷ Matched true ∷ Matched false
    ∷ Found (Some (1, 7)) ∷ Matched false ∷ Matched false ∷ Matched true ∷ Found (Some (3, 9))
    ∷ []
