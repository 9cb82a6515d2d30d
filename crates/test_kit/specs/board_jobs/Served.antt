-- Threads that were served: what their logs have in any order of the threads.
use Rattle.std.specs.Prelude.{◌≡◌, false, List, [], ◌∷◌, length, map}
use Rattle.std.specs.List.{AllByRecursion}
use Rattle.block_store.specs.declared.Value.TheVariants.{Ref}
use Rattle.block_store.specs.declared.Width.TheVariants.{Four}
use Rattle.never_heap.specs.declared.Entry.{Entry}
use Rattle.never_heap.specs.declared.Reply.{Reply}
use Rattle.never_heap.specs.declared.Reply.TheVariants.{Val}
use Rattle.never_heap.specs.Histories.{is_full, is_refusal}
use Rattle.never_heap.specs.RightWork.{units_owed}

-- The entry was neither refused nor answered full, and made the units that its command owes at
-- rate 8.
pub record IsServed (e : Entry) : Type 0 where
  pub given : is_full e.reply ≡ false
  pub done : is_refusal e.reply ≡ false
  pub work : e.work ≡ units_owed Four 8 e.command

-- A thread has done its 40 rounds of 14 commands, and was served at each.
pub record AreServed (log : List Entry) : Type 0 where
  pub all : length log ≡ 560
  pub each : AllByRecursion IsServed log

-- what shows the array that two threads share
abbrev pub shared_array : Reply
shared_array = Val (Ref (record { thread = 2; serial = 0 }))

-- A thread has shown the array twice, and done nothing else.
abbrev pub HasSaid : List Entry → Type 0
HasSaid log = map (λ (e : Entry). e.reply) log ≡ shared_array ∷ shared_array ∷ []
