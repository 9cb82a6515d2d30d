use Rattle.std.proofs.Common.{sym, ap, ◌∙◌, arith}
use Rattle.block_store.specs.declared.Config.{Config}
use Rattle.heap_system.specs.Locals.{is_done}
use Rattle.rtheap_core.proofs.schedules.LeftTurns.{is_least, is_none, one_done}
use Rattle.rtheap_core.proofs.schedules.replaying.first_undone.Goals as goal

pub returns-then-not-done-clause-value : goal.returns-then-not-done-clause-value
returns-then-not-done-clause-value c =
    sym (is_least c.args.system.now.config c.args.system.now.state c.loop-thread.thread c.config.ensures.reached (omega (arith, c.loop-thread-test.true, ap (λ (x : Config). x.threads) c.config.ensures.same)) c.loop-thread.invariant (sym (c.done.ensures ∙ ap is_done c.local.ensures) ∙ c.if-not-done.true))

pub loop-thread-preserved : goal.loop-thread-preserved
loop-thread-preserved c = one_done c.args.system.now.config c.args.system.now.state c.loop-thread.thread c.loop-thread.invariant (sym (c.done.ensures ∙ ap is_done c.local.ensures) ∙ c.if-not-done.false)

pub returns-clause-value : goal.returns-clause-value
returns-clause-value c = sym (is_none c.args.system.now.config c.args.system.now.state c.config.ensures.reached (λ t low. c.loop-thread.invariant t (omega (arith, low, c.loop-thread-test.false, ap (λ (x : Config). x.threads) c.config.ensures.same))))
