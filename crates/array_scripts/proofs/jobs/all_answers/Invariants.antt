-- The answers so far and those of the threads that are left are all answers.
use Rattle.std.proofs.Common.{◌≡◌, ◌++◌, [], drop, map, slice_index_or}
use Rattle.never_heap.specs.declared.Entry.{Entry}
use Rattle.array_scripts.specs.Answers.{each_from, answers_in}
use Rattle.array_scripts.proofs.jobs.all_answers.Given as goal

abbrev pub invariant-loop-t : goal.invariant-loop-t
invariant-loop-t g l =
    let logs = g.L.Logs.logs l.run in
    map (λ v. v.items) l.told.items
    ++ each_from (λ t ops. g.K.Runnable.told t ops
    (map (λ (e : Entry). e.reply) (slice_index_or logs t []))) l.t
    (drop l.t (map (λ ops. ops.items) l.scripts))
    ≡ answers_in g.K.Runnable.told (map (λ ops. ops.items) l.scripts) logs
