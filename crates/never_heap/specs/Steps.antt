-- What one command does to the graph, and what it answers.
use Rattle.std.specs.Prelude.{ℕ, ◌==◌, nat_lt, Bool, false, true, Option, Some, None, is_some, if◌then◌else◌, length}
use Rattle.block_store.specs.declared.Width.{Width}
use Rattle.block_store.specs.declared.Value.{Value}
use Rattle.block_store.specs.declared.Value.TheVariants.{Nil, Int, Ref}
use Rattle.block_store.specs.declared.Name.{Name}
use Rattle.never_heap.specs.declared.Command.{Command}
use Rattle.never_heap.specs.declared.Command.TheVariants as commands
use Rattle.never_heap.specs.declared.Reply.{Reply}
use Rattle.never_heap.specs.declared.Reply.TheVariants as replies
use Rattle.never_heap.specs.Graphs.{Graph, Object, ObjectKind, Record, Array, nil_object, same_name, register_of, object_of, field_of, with_register, with_field, with_object, next_name}
use Rattle.never_heap.specs.LiveBlocks.{blocks_of_kind}
use Rattle.never_heap.specs.Signatures.{operands, object_in, destination_in, place_in}

-- the kind and the length of the object that a command makes
abbrev pub object_made : Command → Option (ObjectKind × ℕ)
object_made k = object_in (operands k)

abbrev pub length_in : Option (ObjectKind × ℕ) → ℕ
length_in None = 0
length_in (Some o) = o.1

abbrev pub blocks_in : Width → Option (ObjectKind × ℕ) → ℕ
blocks_in w None = 0
blocks_in w (Some o) = blocks_of_kind w o.0 o.1

-- how long the object is that a command makes; 0 for a command that makes none
abbrev pub length_made : Command → ℕ
length_made k = length_in (object_made k)

-- the blocks of this width that a command allocates
abbrev pub blocks_of : Width → Command → ℕ
blocks_of w k = blocks_in w (object_made k)

-- whether a command makes an object
abbrev pub makes_object : Command → Bool
makes_object k = is_some (object_made k)

abbrev pub is_register : Option ℕ → ℕ → Bool
is_register None q = false
is_register (Some r) q = r == q

-- whether a command, where it is not refused, stores in register q
abbrev pub stores_in : Command → ℕ → Bool
stores_in k q = is_register (destination_in (operands k)) q

-- the register of whose object a command, where it is not refused, stores in a field, and the field
abbrev pub stored_at : Command → Option (ℕ × ℕ)
stored_at k = place_in (operands k)

-- a new object in register d
abbrev pub made : Graph → ℕ → ℕ → Object → Graph × Reply
made g t d o =
    (with_register (with_object g t o) t d (Ref (next_name g t)), replies.New (next_name g t))

-- What is done with the object that a value refers to. The refusals are tried in this order, and
-- leave the graph as it was.
abbrev pub at_object : Graph → Value → (Name → Graph × Reply) → Graph × Reply
at_object g Nil act = (g, replies.Null)
at_object g (Int v) act = (g, replies.Kind)
at_object g (Ref name) act = act name

-- What is done with field i of the object that a value refers to. The refusals are tried in this
-- order, and leave the graph as it was.
abbrev pub at_field : Graph → Value → ℕ → (Name → Graph × Reply) → Graph × Reply
at_field g Nil i act = (g, replies.Null)
at_field g (Int v) i act = (g, replies.Kind)
at_field g (Ref name) i act =
    if nat_lt i (length (object_of g name).fields) then act name else (g, replies.Range)

-- whether two values are both nil, the same number, or references to the same object
abbrev pub same_value : Value → Value → Bool
same_value Nil Nil = true
same_value (Int m) (Int n) = m == n
same_value (Ref a) (Ref b) = same_name a b
same_value _ _ = false

-- Field i of the object of a name and register v of a thread exchange their values.
abbrev pub swapped : Graph → ℕ → Name → ℕ → ℕ → Graph
swapped g t name i v =
    with_register (with_field g name i (register_of g t v)) t v (field_of (object_of g name) i)

-- the graph after a command of thread t, and the reply
abbrev pub step : Graph → ℕ → Command → Graph × Reply
step g t (commands.New d f) = made g t d (nil_object Record f)
step g t (commands.Arr d e) = made g t d (nil_object Array e)
step g t (commands.Set d v) = (with_register g t d (Int v), replies.Stored)
step g t (commands.Nil d) = (with_register g t d Nil, replies.Stored)
step g t (commands.Mov d s) = (with_register g t d (register_of g t s), replies.Stored)
step g t (commands.Get d s i) =
    at_field g (register_of g t s) i (λ name.
    let v = field_of (object_of g name) i in (with_register g t d v, replies.Val v))
step g t (commands.Put s i v) =
    at_field g (register_of g t s) i (λ name.
    (with_field g name i (register_of g t v), replies.Stored))
step g t (commands.Len s) =
    at_object g (register_of g t s) (λ name. (g, replies.Len (length (object_of g name).fields)))
step g t (commands.Same a b) =
    (g, if same_value (register_of g t a) (register_of g t b) then replies.Yes else replies.No)
step g t (commands.Say s) = (g, replies.Val (register_of g t s))
step g t (commands.Swap s i v) =
    at_field g (register_of g t s) i (λ name.
    (swapped g t name i v, replies.Val (field_of (object_of g name) i)))
step g t (commands.Cas s i a v) =
    at_field g (register_of g t s) i (λ name.
    if same_value (field_of (object_of g name) i) (register_of g t a)
    then (with_field g name i (register_of g t v), replies.Yes)
    else (g, replies.No))
step g t (commands.Idle u) = (g, replies.Idle)
