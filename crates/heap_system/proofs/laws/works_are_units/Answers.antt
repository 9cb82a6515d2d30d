use Rattle.std.proofs.Common.{cond, ap, sym, ◌∙◌}
use Rattle.barrier_steps.specs.Operands.{is_idle}
use Rattle.heap_system.specs.Locals.{command_of}
use Rattle.heap_system.specs.Machines.{local_in}
use Rattle.heap_system.proofs.invariant.InvariantHolds.{run_kept}
use Rattle.heap_system.proofs.step_rows.LawsOfParts.{laws_of}
use Rattle.heap_system.proofs.accounting.MadeFor.{each_made, hand_made}
use Rattle.heap_system.proofs.accounting.UnitsOfTurns.{run_makes, run_units}
use Rattle.heap_system.proofs.invariant.RunLaws.{paid_low, paid_made, rest_settled, leave_settled, build_settled, serve_settled, rate_is, entries_right}
use Rattle.heap_system.proofs.laws.works_are_units.Goals as goal

pub returns-clause-made : goal.returns-clause-made
returns-clause-made _ c r is t tl = run_makes c is.traces is.job is.turns r is.by_turns t tl

pub returns-clause-each : goal.returns-clause-each
returns-clause-each _ c r is t tl = each_made c is.traces is.job is.turns r is.by_turns t tl (run_kept c is.traces (laws_of c) is.job is.turns r is.by_turns)

pub returns-clause-hand : goal.returns-clause-hand
returns-clause-hand _ c r is t tl = hand_made c is.traces is.job is.turns r is.by_turns t tl

pub returns-clause-units : goal.returns-clause-units
returns-clause-units _ c r is t tl = run_units c is.traces is.job is.turns r is.by_turns t tl

pub returns-clause-owed : goal.returns-clause-owed
returns-clause-owed _ c r is t tl = paid_low c is.traces r (run_kept c is.traces (laws_of c) is.job is.turns r is.by_turns) t tl

pub returns-clause-entries : goal.returns-clause-entries
returns-clause-entries _ c r is t tl rate planned = entries_right c is.traces r (run_kept c is.traces (laws_of c) is.job is.turns r is.by_turns) t tl rate planned

pub returns-clause-paid : goal.returns-clause-paid
returns-clause-paid _ c r is t tl =
    paid_made c is.traces r (run_kept c is.traces (laws_of c) is.job is.turns r is.by_turns) t tl
    ∙ ap (λ n. cond (is_idle (command_of (local_in c r t))) 0 n) (hand_made c is.traces is.job is.turns r is.by_turns t tl)

pub returns-clause-rest : goal.returns-clause-rest
returns-clause-rest _ c r is t tl e = rest_settled c is.traces r (run_kept c is.traces (laws_of c) is.job is.turns r is.by_turns) t tl e

pub returns-clause-settled : goal.returns-clause-settled
returns-clause-settled _ c r is t tl e = leave_settled c is.traces r (run_kept c is.traces (laws_of c) is.job is.turns r is.by_turns) t tl e

pub returns-clause-builds : goal.returns-clause-builds
returns-clause-builds _ c r is t tl b at rate planned = build_settled c is.traces r (run_kept c is.traces (laws_of c) is.job is.turns r is.by_turns) t tl b at rate planned

pub returns-clause-serves : goal.returns-clause-serves
returns-clause-serves _ c r is t tl f at =
    let all = serve_settled c is.traces r (run_kept c is.traces (laws_of c) is.job is.turns r is.by_turns) t tl f at in
    (all.0, sym (hand_made c is.traces is.job is.turns r is.by_turns t tl) ∙ all.1)

pub returns-clause-rate : goal.returns-clause-rate
returns-clause-rate _ c r is t tl = rate_is c is.traces r (run_kept c is.traces (laws_of c) is.job is.turns r is.by_turns) t tl
