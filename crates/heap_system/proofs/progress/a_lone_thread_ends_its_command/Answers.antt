use Rattle.std.proofs.Common.{cond, ap, ◌∙◌, arith, le-ltb, lt-ltb}
use Rattle.never_heap.specs.RightWork.{requested_units}
use Rattle.never_heap.specs.Steps.{blocks_of}
use Rattle.barrier_steps.specs.Operands.{is_idle}
use Rattle.rate_plan.specs.solo_bound.Prices.{allocation_bound, idle_bound, other_bound}
use Rattle.heap_system.specs.Locals.{command_of}
use Rattle.heap_system.specs.Machines.{local_in}
use Rattle.heap_system.proofs.invariant.InvariantHolds.{run_kept}
use Rattle.heap_system.proofs.step_rows.LawsOfParts.{laws_of}
use Rattle.heap_system.proofs.alone.Near.{near_ends, stated, within}
use Rattle.heap_system.proofs.progress.a_lone_thread_ends_its_command.Goals as goal

pub returns-clause-command : goal.returns-clause-command
returns-clause-command _ c r t rate is planned quiet low has =
    within c t r _ _
    (near_ends c is.traces is.job rate planned t low r
    (run_kept c is.traces (laws_of c) is.job is.turns r is.by_turns) quiet has)
    (stated c (command_of (local_in c r t)) rate is.job.bounds.config is.job.plan)

pub returns-clause-allocation : goal.returns-clause-allocation
returns-clause-allocation _ c k rate some =
    ap (λ b. cond b (allocation_bound c.threads (blocks_of c.width k) rate)
    (cond (is_idle k) (idle_bound c.threads (requested_units k)) (other_bound c.object))) (lt-ltb 0 (blocks_of c.width k) some)

pub returns-clause-other : goal.returns-clause-other
returns-clause-other _ c k rate none quick =
    ap (λ b. cond b (allocation_bound c.threads (blocks_of c.width k) rate)
    (cond (is_idle k) (idle_bound c.threads (requested_units k)) (other_bound c.object))) (le-ltb 0 (blocks_of c.width k) (omega (arith, none)))
    ∙ ap (λ b. cond b (idle_bound c.threads (requested_units k)) (other_bound c.object)) quick
