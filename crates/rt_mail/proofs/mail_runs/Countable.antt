-- The letters of a job are few enough to be counted.
use Rattle.std.proofs.Common.{ℕ, ◌+◌, ◌*◌, ◌≡◌, ◌≤◌, List, [], ◌∷◌, length, map, get_or, drop, arith, ap, sym, ◌∙◌, ◌<◌}
use Rattle.std.specs.List.{AllByRecursion}
use Rattle.std.proofs.lemmas.List.{drop_more}
use Rattle.block_store.specs.declared.Config.{Config}
use Rattle.never_heap.specs.declared.Command.{Command}
use Rattle.never_heap.specs.declared.Command.TheVariants.{Say}
use Rattle.never_heap.specs.Jobs.{IsTraceInBounds, IsJobInBounds}
use Rattle.rt_mail.specs.said_numbers.Said.{one_say, says_in}
use Rattle.rt_mail.specs.mail_runs.Rooms.{all_says}

one_few : (command : Command) → one_say command ≤ 1
one_few (Say s) = omega arith
one_few _ = omega arith

says_few : (trace : List Command) → says_in trace ≤ length trace
says_few [] = omega arith
says_few (command ∷ commands) = omega (arith, one_few command, says_few commands)

all_few : (c : Config) (traces : List (List Command)) → AllByRecursion (IsTraceInBounds c) traces
    → all_says traces ≤ 131072 * length traces
all_few c [] each = omega arith
all_few c (trace ∷ traces) each =
    omega (arith, says_few trace, each.0.few, all_few c traces each.1)

pub says_countable : (c : Config) (traces : List (List Command)) → IsJobInBounds c traces
    → all_says traces ≤ 2097152
says_countable c traces job = omega (arith, all_few c traces job.each, job.threads, job.config.threads)

-- one trace more is counted
pub says_so_far : {V : Type 0} (f : V → List Command) (vs : List V) (i says total : ℕ) (v : V)
    → i < length vs → v ≡ get_or vs i v → says + all_says (map f (drop i vs)) ≡ total
    → total ≤ 2097152 → says + says_in (f v) ≤ 2097152
says_so_far f vs i says total v low is so_far few =
    let left : drop i vs ≡ get_or vs i v ∷ drop (i + 1) vs = drop_more vs i v low in
    let all : all_says (map f (drop i vs)) ≡ says_in (f v) + all_says (map f (drop (i + 1) vs)) =
    ap (λ us. all_says (map f us)) left
    ∙ ap (λ u. says_in (f u) + all_says (map f (drop (i + 1) vs))) (sym is) in
    omega (arith, all, so_far, few)
