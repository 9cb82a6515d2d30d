-- What the thread of the next turn is taken from, before turn j of n threads.
use Rattle.std.specs.Prelude.{ℕ, ◌+◌, ◌%◌, ◌<◌, nat_lt, if◌then◌else◌}
use Rattle.rtheap_core.specs.declared.schedules.Schedule.{Schedule}
use Rattle.rtheap_core.specs.declared.schedules.Schedule.TheVariants as schedules
use Rattle.rtheap_core.specs.declared.schedules.replaying.Next.{Next}
use Rattle.rtheap_core.specs.declared.schedules.replaying.Next.TheVariants.{Robin, Serial, Key}
use Rattle.rtheap_core.specs.schedules.Schedules.{word, after_words, generator}

abbrev pub next_at : Schedule → ℕ → ℕ → Next
next_at schedules.Robin n j = Robin (j % n)
next_at schedules.Serial n j = Serial
next_at (schedules.Key key) n j = Key (after_words j (generator key))

-- it names a thread
abbrev pub IsNextBelow : ℕ → Next → Type 0
IsNextBelow n (Robin t) = t < n
IsNextBelow n _ = Unit {0}

-- the thread of the turn, where this is the least that is not done
abbrev pub thread_next : ℕ → ℕ → Next → ℕ
thread_next n least (Robin t) = t
thread_next n least Serial = least
thread_next n least (Key g) = (word g).0 % n

-- and what the turn after it is taken from
abbrev pub after_next : ℕ → Next → Next
after_next n (Robin t) = Robin (if nat_lt (t + 1) n then t + 1 else 0)
after_next n Serial = Serial
after_next n (Key g) = Key (word g).1
