-- The commands that build what a picture shows, on a heap that was just opened. Register 1 refers to
-- a table while they are done: an array whose element k refers to object k, counted from 1.
use Rattle.std.specs.Prelude.{ℕ, zero, suc, ◌+◌, ◌*◌, ◌-◌, ◌≤◌, ◌≡◌, true, nat_lt, if◌then◌else◌, List, [], ◌∷◌, ◌++◌, length, drop, take, slice_index_or}
use Rattle.block_store.specs.declared.Value.{Value}
use Rattle.block_store.specs.declared.Value.TheVariants.{Nil, Int, Ref}
use Rattle.never_heap.specs.declared.Command.{Command}
use Rattle.never_heap.specs.declared.Command.TheVariants as commands
use Rattle.never_heap.specs.Graphs.{Graph, Object, ObjectKind, Record, Array}
use Rattle.never_heap.specs.Steps.{step}
use Rattle.saved_heap.specs.heap_pictures.Pictures.{Content, is_sound}

-- loads a value into register d
abbrev pub load : ℕ → Value → Command
load d Nil = commands.Nil d
load d (Int n) = commands.Set d n
load d (Ref a) = commands.Get d 1 a.serial

-- makes an object of nils
abbrev pub make_of : ObjectKind → ℕ → Command
make_of Record n = commands.New 2 n
make_of Array n = commands.Arr 2 n

abbrev pub make : Object → Command
make o = make_of o.kind (length o.fields)

-- makes object k, and notes it in the table
abbrev pub made : ℕ → Object → List Command
made k o = make o ∷ commands.Put 1 k 2 ∷ []

-- makes objects from number k on, and notes them in the table
abbrev pub makes : ℕ → List Object → List Command
makes k [] = []
makes k (o ∷ os) = make o ∷ commands.Put 1 k 2 ∷ makes (suc k) os

-- stores what a field holds; it is nil at first
abbrev pub store : ℕ → Value → List Command
store i Nil = []
store i v = load 3 v ∷ commands.Put 2 i 3 ∷ []

abbrev pub stores : ℕ → List Value → List Command
stores i [] = []
stores i (v ∷ vs) = store i v ++ stores (suc i) vs

-- fetches object k, and stores its fields
abbrev pub filled : ℕ → Object → List Command
filled k o = commands.Get 2 1 k ∷ stores 0 o.fields

-- fetches objects from number k on, and stores their fields
abbrev pub fills : ℕ → List Object → List Command
fills k [] = []
fills k (o ∷ os) = commands.Get 2 1 k ∷ stores 0 o.fields ++ fills (suc k) os

abbrev pub loads : ℕ → List Value → List Command
loads d [] = []
loads d (v ∷ vs) = load d v ∷ loads (suc d) vs

-- loads all registers, that of the table last
abbrev pub all_loads : List Value → List Command
all_loads vs =
    load 0 (slice_index_or vs 0 Nil) ∷ loads 2 (drop 2 vs) ++ load 1 (slice_index_or vs 1 Nil) ∷ []

-- makes the table for n objects
abbrev pub make_table : ℕ → Command
make_table n = commands.Arr 1 (suc n)

abbrev pub plan_of : Content → List Command
plan_of p =
    make_table (length p.objects) ∷ makes 1 p.objects ++ fills 1 p.objects
    ++ all_loads p.registers

-- A plan of n objects in turns: one for the table, one to make each object, one to fill each, and
-- one for the registers.
abbrev pub turns : ℕ → ℕ
turns n = 2 * n + 2

-- the commands of the first turns
abbrev pub planned : Content → ℕ → List Command
planned p zero = []
planned p (suc d) =
    make_table (length p.objects) ∷ makes 1 (take d p.objects)
    ++ fills 1 (take (d - length p.objects) p.objects)
    ++ (if nat_lt (2 * length p.objects) d then all_loads p.registers else [])

-- a picture that is planned in pieces, and how many turns are left
pub record Planned : Type 0 where
  pub picture : Content
  pub left : ℕ

-- the first d turns are done
pub record IsPlanning (p : Content) (ks : List Command) (d : ℕ) : Type 0 where
  pub sound : is_sound p ≡ true
  pub few : length p.objects ≤ 65534
  pub low : d ≤ turns (length p.objects)
  pub commands : ks ≡ planned p d

-- the graph after some commands of the one thread
abbrev pub graph_after : Graph → List Command → Graph
graph_after g [] = g
graph_after g (k ∷ ks) = graph_after (step g 0 k).0 ks
