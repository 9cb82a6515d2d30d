use Rattle.std.proofs.Common.{◌≡◌, ◌<◌, ◌≤◌, ◌*◌, ℕ, Some, ap, sym, subst, ◌∙◌}
use Rattle.never_heap.specs.Steps.{blocks_of}
use Rattle.trace_text.specs.Jobs.{Job}
use Rattle.trace_text.specs.Lines.{tokens_of}
use Rattle.trace_text.specs.RunTexts.{entry_text}
use Rattle.rt_check.specs.Taking.{number_behind}
use Rattle.rt_check.proofs.GoodLaws.{step_entry}
use Rattle.rt_check.proofs.TakenLaws.{command_left, command_taken}
use Rattle.rt_check.proofs.follower.Follower.take_command.Goals as goal

pub returns-then-branch : goal.returns-then-branch
returns-then-branch c past s =
    let is = c.full_entry-entry.ensures in
    let taken = c.in_ok-takes_step.ensures.taken c.if-branch.true in
    command_taken c.args.job.now past c.args.self.now c.args.line.now c.args.thread c.args.command
    c.requires.job s c.requires.begun c.requires.left c.rate_shown-rate.result
    c.rate_shown-rate.ensures.low c.full_entry-entry.result is.thread is.command is.work is.reply
    c.takes_step.new.self taken.0 taken.1

pub returns : goal.returns
returns c past s =
    let is = c.full_entry-entry.ensures in
    let job = c.args.job.now in
    let blocks : c.blocks-2.result ≡ blocks_of job.config.width c.args.command =
    c.blocks-2.ensures ∙ ap (λ (j : Job). blocks_of j.config.width c.args.command) c.job.view_is in
    let same = step_entry job c.rate_shown-rate.result past c.args.self.now c.args.line.now
    c.args.thread c.args.command c.requires.job c.rate_shown-rate.ensures.low s c.requires.begun
    c.requires.left c.full_entry-entry.result is.thread is.command is.work is.reply in
    command_left job past c.args.self.now c.args.line.now c.args.thread c.args.command
    c.requires.job s c.requires.begun c.requires.left c.requires.number c.rate_shown-rate.result
    (subst (λ (k : ℕ). (r : ℕ) → r ≤ 131070 → 0 < k
    → number_behind 4 (tokens_of c.args.line.now) ≡ Some (r * k) → c.rate_shown-rate.result ≡ r)
    blocks c.rate_shown-rate.ensures.shown)
    (λ text. c.in_ok-takes_step.ensures.left c.if-branch.false (text ∙ ap entry_text (sym same)))
