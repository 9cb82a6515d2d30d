-- The numbers that a thread shows by `say`.
use Rattle.std.specs.Prelude.{ℕ, ◌+◌, ◌<◌, ◌^◌, Option, Some, None, List, [], ◌∷◌}
use Rattle.std.specs.List.{AllByRecursion}
use Rattle.block_store.specs.declared.Value.TheVariants.{Int}
use Rattle.never_heap.specs.declared.Command.{Command}
use Rattle.never_heap.specs.declared.Command.TheVariants.{Say}
use Rattle.never_heap.specs.declared.Entry.{Entry}
use Rattle.never_heap.specs.declared.Reply.{Reply}
use Rattle.never_heap.specs.declared.Reply.TheVariants.{Val}

-- what an entry shows, where it is a `say` that is answered with a number
abbrev pub shown_by : Command → Reply → Option ℕ
shown_by (Say s) (Val (Int v)) = Some v
shown_by _ _ = None

abbrev pub number_said : Entry → Option ℕ
number_said e = shown_by e.command e.reply

abbrev pub with_number : Option ℕ → List ℕ → List ℕ
with_number None vs = vs
with_number (Some v) vs = v ∷ vs

-- those of a log, in order
abbrev pub numbers_said : List Entry → List ℕ
numbers_said [] = []
numbers_said (e ∷ es) = with_number (number_said e) (numbers_said es)

-- how many `say` commands a trace has
abbrev pub one_say : Command → ℕ
one_say (Say s) = 1
one_say _ = 0

abbrev pub says_in : List Command → ℕ
says_in [] = 0
says_in (command ∷ commands) = one_say command + says_in commands

-- all are numbers that a register can hold
abbrev pub AreNumbers : List ℕ → Type 0
AreNumbers vs = AllByRecursion (λ (v : ℕ). v < 2 ^ 62) vs
