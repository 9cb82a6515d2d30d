use Rattle.std.proofs.Common.{◌≡◌, ◌<◌, ◌-◌, ap, sym, ◌∙◌, arith, subst, length}
use Rattle.barrier_steps.proofs.Decisions.{first_undecided}
use Rattle.work_account.specs.Accounts.{AccountState}
use Rattle.heap_system.specs.Locals.{LocalState, command_of, owed, pass_by}
use Rattle.heap_system.proofs.accounting.OwedAndPaid.{view_of, entered_local, begins_build, begins_serve, serial_low}
use Rattle.heap_system.proofs.local.Local.goes_in.Goals as goal

pub invariant_of-self-then-blocks-gt0 : goal.invariant_of-self-then-blocks-gt0
invariant_of-self-then-blocks-gt0 c =
    let low : length c.self.inside.log.items < length c.self.inside.trace.items = subst (λ (l : LocalState). length l.log < length l.trace) (sym c.self.view_is) c.requires.command in
    let k = c.self.invariant in
    let there = entered_local c.self.inside c.args.phase.cycle c.enter.new.self k.0 c.enter.ensures.value in
    let none : owed (view_of c.self.inside) - c.self.inside.spent ≡ 0 = omega (arith, k.4, c.if-due-gt0.false) in (
      begins_build (record (view_of c.self.inside) { balance = c.enter.new.self.balance }) c.args.phase c.pass_by-pass.result c.command-command.result c.begin.new.self there low (c.pass_by-pass.ensures.is ∙ ap (λ (l : LocalState). pass_by l.thread l.config.threads c.args.phase) (sym c.self.view_is)) c.pass_by-pass.ensures.fits
          (c.command-command.ensures ∙ ap command_of (sym c.self.view_is)) (subst (λ n. 0 < n) c.blocks-else-due-gt0.ensures c.if-blocks-gt0.true) none c.begin.ensures,
      ap (λ (a : AccountState). a.rate) c.enter.ensures.value ∙ k.1,
      ap (λ (a : AccountState). a.object) c.enter.ensures.value ∙ k.2,
      k.3,
      k.4,
    )

pub invariant_of-self-else-blocks-gt0 : goal.invariant_of-self-else-blocks-gt0
invariant_of-self-else-blocks-gt0 c =
    let low : length c.self.inside.log.items < length c.self.inside.trace.items = subst (λ (l : LocalState). length l.log < length l.trace) (sym c.self.view_is) c.requires.command in
    let k = c.self.invariant in
    let there = entered_local c.self.inside c.args.phase.cycle c.enter.new.self k.0 c.enter.ensures.value in
    let none : owed (view_of c.self.inside) - c.self.inside.spent ≡ 0 = omega (arith, k.4, c.if-due-gt0.false) in (
      begins_serve (record (view_of c.self.inside) { balance = c.enter.new.self.balance }) c.args.phase c.pass_by-pass.result c.command-command.result c.new_in-self-inside.result there low (c.pass_by-pass.ensures.is ∙ ap (λ (l : LocalState). pass_by l.thread l.config.threads c.args.phase) (sym c.self.view_is)) c.pass_by-pass.ensures.fits
          (c.command-command.ensures ∙ ap command_of (sym c.self.view_is)) none c.new_in-self-inside.ensures,
      ap (λ (a : AccountState). a.rate) c.enter.ensures.value ∙ k.1,
      ap (λ (a : AccountState). a.object) c.enter.ensures.value ∙ k.2,
      k.3,
      k.4,
    )

pub begin-requires-clause-serial : goal.begin-requires-clause-serial
begin-requires-clause-serial c =
    let few = serial_low (view_of c.self.inside) c.self.invariant.0 c.command-command.result
    (c.command-command.ensures ∙ ap command_of (sym c.self.view_is))
    (subst (λ n. 0 < n) c.blocks-else-due-gt0.ensures c.if-blocks-gt0.true) in
    (omega arith, omega (arith, few))

pub new_in-self-inside-requires-clause-allocates : goal.new_in-self-inside-requires-clause-allocates
new_in-self-inside-requires-clause-allocates c =
    first_undecided c.self.inside.config.width c.command-command.result
    (omega (arith, c.blocks-else-due-gt0.ensures, c.if-blocks-gt0.false))
