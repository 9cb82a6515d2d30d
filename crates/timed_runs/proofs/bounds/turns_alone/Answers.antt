use Rattle.std.proofs.Common.{◌≡◌, ℕ, Option, Some, None, IfSome, sym, ◌∙◌, subst, arith}
use Rattle.block_store.specs.declared.Config.{Config}
use Rattle.heap_system.specs.Alone.{EndsWithin, command_near}
use Rattle.never_heap.specs.declared.Command.{Command}
use Rattle.rt_check.specs.rt_limit.Prices.{IsInWord}
use Rattle.timed_runs.specs.Turns.{IsBoundAlone, other_near}
use Rattle.timed_runs.proofs.bounds.turns_alone.Goals as goal

pub returns-else-blocks-gt0-clause-bound : goal.returns-else-blocks-gt0-clause-bound
returns-else-blocks-gt0-clause-bound c = by c.other_turns.result c.other_turns.ensures
  where
    config : Config
    config = c.args.config.now

    command : Command
    command = c.args.command.now

    other : command_near config c.args.rate command ≡ other_near config command
    other =
        c.a_lone_command_ends_near_its_bound.ensures.other config command c.args.rate
        (sym c.blocks-blocks.ensures ∙ omega (arith, c.if-blocks-gt0.false))

    within : IsBoundAlone config c.args.rate command (other_near config command)
    within = λ r t is planned quiet low has same.
        subst (λ n. EndsWithin config t r n) other
        (subst (λ k. EndsWithin config t r (command_near config c.args.rate k)) same
        (c.a_lone_command_ends_near_its_bound.ensures.near config r t c.args.rate is planned quiet low has))

    by : (o : Option ℕ) → IsInWord o (other_near config command) → IfSome o (IsBoundAlone config c.args.rate command)
    by None is = tt
    by (Some n) is = subst (IsBoundAlone config c.args.rate command) (sym is.1) within
