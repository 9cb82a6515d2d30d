-- Which thread has each turn of a replay: the first turns of a schedule, from a state on.
use Rattle.std.specs.Prelude.{ℕ, zero, suc, ◌+◌, ◌%◌, Option, Some, None, List, [], ◌∷◌, not, position}
use Rattle.block_store.specs.declared.Config.{Config}
use Rattle.heap_system.specs.Locals.{is_done}
use Rattle.heap_system.specs.Machines.{State, turned}
use Rattle.rand_pcg.specs.Lcg.{Lcg, started, increment_of}
use Rattle.rand_pcg.specs.Pcg.{pcg32, multiplier_64}
use Rattle.rtheap_core.specs.declared.schedules.Schedule.{Schedule}
use Rattle.rtheap_core.specs.declared.schedules.Schedule.TheVariants.{Robin, Serial, Key}

-- the generator of a key
unfoldable pub generator : ℕ → Lcg
generator key = started 64 multiplier_64 key (increment_of 64 1)

-- a generator's next word, and the generator after it
unfoldable pub word : Lcg → ℕ × Lcg
word g = pcg32 g

-- the generator after so many words
abbrev pub after_words : ℕ → Lcg → Lcg
after_words zero g = g
after_words (suc j) g = (word (after_words j g)).1

-- word j of a key, from 0 on
abbrev pub word_of : ℕ → ℕ → ℕ
word_of key j = (word (after_words j (generator key))).0

-- the least thread that is not done
abbrev pub least_undone : State → Option ℕ
least_undone s = position (λ l. not (is_done l)) s.locals

-- the thread of turn j, from 0 on, in a state of n threads
abbrev pub thread_of : Schedule → ℕ → ℕ → State → Option ℕ
thread_of Robin n j s = Some (j % n)
thread_of Serial n j s = least_undone s
thread_of (Key key) n j s = Some (word_of key j % n)

-- a turn of this thread and those after it; none where no thread has a turn
abbrev pub turns_on : Option ℕ → (ℕ → List ℕ) → List ℕ
turns_on None rest = []
turns_on (Some t) rest = t ∷ rest t

-- so many turns from turn j on
abbrev pub turns_from : Schedule → Config → ℕ → State → ℕ → List ℕ
turns_from schedule c j s zero = []
turns_from schedule c j s (suc more) =
    turns_on (thread_of schedule c.threads j s)
    (λ t. turns_from schedule c (j + 1) (turned c t s) more)

-- The first turns of a schedule. A turn for a thread that is done counts, and changes nothing.
abbrev pub turns_of : Schedule → Config → State → ℕ → List ℕ
turns_of schedule c s turns = turns_from schedule c 0 s turns
