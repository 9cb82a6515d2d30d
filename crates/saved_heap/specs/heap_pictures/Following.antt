-- The same commands on two graphs of one thread that are one up to names.
use Rattle.std.specs.Prelude.{◌≡◌, Bool, true, List, [], ◌∷◌, map, length}
use Rattle.std.specs.List.{list_all}
use Rattle.block_store.specs.declared.Name.{Name}
use Rattle.block_store.specs.declared.TheConstants.{REGISTERS}
use Rattle.block_store.specs.declared.Value.TheVariants.{Ref}
use Rattle.never_heap.specs.declared.Command.{Command}
use Rattle.never_heap.specs.declared.Reply.{Reply}
use Rattle.never_heap.specs.declared.Reply.TheVariants.{New, Val}
use Rattle.never_heap.specs.Graphs.{Graph, mutator_at}
use Rattle.never_heap.specs.Steps.{step}
use Rattle.saved_heap.specs.heap_pictures.UpToNames.{AreOneUpToNames, renamed}

-- a graph of one thread, which has all registers
pub record HasOneThread (g : Graph) : Type 0 where
  pub threads : length g.mutators ≡ 1
  pub registers : length (mutator_at g 0).registers ≡ REGISTERS

-- a reply where each name is replaced; lengths, tests and refusals stay
abbrev pub renamed_reply : (Name → Name) → Reply → Reply
renamed_reply to (New a) = New (to a)
renamed_reply to (Val v) = Val (renamed to v)
renamed_reply to r = r

-- whether the names in a reply, if any, are of this set
abbrev pub names_only : (Name → Bool) → Reply → Bool
names_only reached (New a) = reached a
names_only reached (Val (Ref a)) = reached a
names_only reached r = true

-- what the one thread is answered to some commands
abbrev pub replies_to : Graph → List Command → List Reply
replies_to g [] = []
replies_to g (k ∷ ks) = (step g 0 k).1 ∷ replies_to (step g 0 k).0 ks

-- What was reached is reached, and has the same name in the other graph as before.
pub record KeepsNames {g z h y : Graph} (one : AreOneUpToNames g z) (next : AreOneUpToNames h y)
    : Type 0 where
  pub reached : (a : Name) → one.reached a ≡ true → next.reached a ≡ true
  pub to : (a : Name) → one.reached a ≡ true → next.to a ≡ one.to a

-- Two graphs that were one up to names have become h and y, which are so too. Names that were
-- reached keep their names in the other graph, and the replies xs and ys are one up to these names,
-- of which each name in a reply is one.
pub record StayOneUpToNames {g z : Graph} (one : AreOneUpToNames g z) (h y : Graph)
    (xs ys : List Reply) : Type 0 where
  pub next : AreOneUpToNames h y
  pub kept : KeepsNames one next
  pub replies : ys ≡ map (renamed_reply next.to) xs
  pub names : list_all (names_only next.reached) xs ≡ true
