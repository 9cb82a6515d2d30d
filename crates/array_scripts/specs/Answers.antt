-- The commands of all threads, and their answers: by their logs, and in an order of their calls.
use Rattle.std.specs.Prelude.{ℕ, zero, suc, ◌+◌, List, [], ◌∷◌, map, slice_index_or}
use Rattle.never_heap.specs.declared.Command.{Command}
use Rattle.never_heap.specs.declared.Entry.{Entry}
use Rattle.never_heap.specs.declared.Reply.{Reply}
use Rattle.array_tables.specs.operations.Linearizations.{Call, calls_of}

-- what is made of each of the threads from thread t on
abbrev pub each_from : {X Y : Type 0} → (ℕ → X → Y) → ℕ → List X → List Y
each_from make t [] = []
each_from make t (x ∷ xs) = make t x ∷ each_from make (t + 1) xs

-- the traces of scripts, where `commands` has the commands of a thread's operations
abbrev pub traces_in :
    {Op : Type 0} → (ℕ → List Op → List Command) → List (List Op) → List (List Command)
traces_in commands scripts = each_from commands 0 scripts

-- The answers of scripts, each thread's by its log, where `told` says what replies to a thread's
-- operations tell.
abbrev pub answers_in :
    {Op T : Type 0} → (ℕ → List Op → List Reply → List T) → List (List Op) → List (List Entry)
    → List (List T)
answers_in told scripts logs =
    each_from (λ t ops. told t ops (map (λ (e : Entry). e.reply) (slice_index_or logs t []))) 0
    scripts

-- what the calls of the n threads from thread t on answered, thread by thread
abbrev pub answers_from :
    {Op Answer T : Type 0} → (Call Op Answer → T) → ℕ → ℕ → List (Call Op Answer) → List (List T)
answers_from answer t zero order = []
answers_from answer t (suc n) order =
    map answer (calls_of t order) ∷ answers_from answer (t + 1) n order
