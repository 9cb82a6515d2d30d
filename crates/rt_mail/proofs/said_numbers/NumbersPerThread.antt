-- A thread shows at most as many numbers as it has `say` commands.
use Rattle.std.proofs.Common.{ℕ, ◌+◌, ◌≤◌, List, [], ◌∷◌, length, map, arith}
use Rattle.block_store.specs.declared.Value.TheVariants.{Nil, Int, Ref}
use Rattle.never_heap.specs.declared.Command.{Command}
use Rattle.never_heap.specs.declared.Command.TheVariants as commands
use Rattle.never_heap.specs.declared.Entry.{Entry}
use Rattle.never_heap.specs.declared.Reply.{Reply}
use Rattle.never_heap.specs.declared.Reply.TheVariants as replies
use Rattle.rt_mail.specs.said_numbers.Said.{shown_by, with_number, numbers_said, one_say, says_in}

one_more : (command : Command) (r : Reply) (vs : List ℕ)
    → length (with_number (shown_by command r) vs) ≤ one_say command + length vs
one_more (commands.Say s) (replies.Val (Int v)) vs = omega arith
one_more (commands.Say s) (replies.Val Nil) vs = omega arith
one_more (commands.Say s) (replies.Val (Ref a)) vs = omega arith
one_more (commands.Say s) _ vs = omega arith
one_more _ r vs = omega arith

pub few_said : (log : List Entry)
    → length (numbers_said log) ≤ says_in (map (λ (e : Entry). e.command) log)
few_said [] = omega arith
few_said (e ∷ es) = omega (arith, one_more e.command e.reply (numbers_said es), few_said es)
