use Rattle.std.proofs.Common.{◌≡◌, ap, sym, ◌∙◌, arith, subst, length, ◌<◌, ◌+◌}
use Rattle.std.specs.Prelude.{slice_index_or}
use Rattle.never_heap.specs.declared.Command.TheVariants as commands
use Rattle.never_heap.specs.RightWork.{units_owed}
use Rattle.never_heap.specs.Steps.{blocks_of}
use Rattle.work_account.specs.Accounts.{AccountState}
use Rattle.heap_system.specs.Locals.{LocalState, owed, command_of, balance_over}
use Rattle.heap_system.proofs.accounting.OwedAndPaid.{view_of, answered_with, next_price}
use Rattle.heap_system.proofs.local.Local.answer_to.Goals as goal

pub invariant_of-self : goal.invariant_of-self
invariant_of-self c =
    let low : length c.self.inside.log.items < length c.self.inside.trace.items = subst (λ (l : LocalState). length l.log < length l.trace) (sym c.self.view_is) c.requires.there in
    let is = c.requires.command ∙ ap command_of (sym c.self.view_is) in (
      answered_with (view_of c.self.inside) c.args.reply c.push_reserved.new.self.items c.args.command c.settle.new.account.balance c.made_after-self-inside.result c.self.invariant.0 low (subst (λ (l : LocalState). l.spent ≡ owed l) (sym c.self.view_is) c.requires.paid) c.push_reserved.ensures.items is
          (ap (λ (a : AccountState). a.balance) c.settle.ensures ∙ ap (λ n. balance_over c.args.reply n c.self.inside.account.balance) (c.requires.blocks ∙ ap (λ (l : LocalState). blocks_of l.config.width c.args.command) (sym c.self.view_is))) c.made_after-self-inside.ensures,
      ap (λ (a : AccountState). a.rate) c.settle.ensures ∙ c.self.invariant.1,
      ap (λ (a : AccountState). a.object) c.settle.ensures ∙ c.self.invariant.2,
      omega (arith, c.push_reserved.ensures.capacity, c.self.invariant.3),
      next_price (view_of c.self.inside) _ _ _ c.push_reserved.ensures.items (c.next_price-price.ensures ∙ ap (λ (l : LocalState). units_owed l.config.width l.rate (slice_index_or l.trace (length l.log + 1) (commands.Nil 0))) (sym c.self.view_is)),
    )
