use Rattle.std.proofs.Common.{◌≡◌, ap, sym, subst}
use Rattle.block_store.specs.declared.Config.{Config}
use Rattle.trace_text.specs.Jobs.{Job}
use Rattle.trace_text.specs.RunTexts.{entry_text}
use Rattle.rt_check.specs.declared.follower.Follower.{Follower}
use Rattle.rt_check.specs.Standing.{IsFullHere, Counted, entry_here, graph_here}
use Rattle.rt_check.proofs.GoodLaws.{full_taken, step_taken, none_taken}
use Rattle.rt_check.proofs.follower.Follower.answered.Goals as goal

pub returns-then-takes_full : goal.returns-then-takes_full
returns-then-takes_full c past s =
    let same = ap (λ (j : Job). j.config) c.job.view_is in
    let e = c.full_entry-entry.result in
    let is = c.full_entry-entry.ensures in
    let taken = c.takes_full.ensures.taken c.if-takes_full.true in
    full_taken c.args.job.now c.args.rate past c.args.self.now c.args.line.now c.args.thread
    c.args.command c.requires.job c.requires.rate s c.requires.begun c.requires.left
    e is.thread is.command is.work is.reply c.takes_full.new.self
    (subst (λ (k : Config). IsFullHere k c.args.self.now e.command) same taken.0)
    taken.1 taken.2

pub returns-then-branch : goal.returns-then-branch
returns-then-branch c past s =
    let e = c.full_entry-entry.result in
    let is = c.full_entry-entry.ensures in
    let kept = (c.takes_full.ensures.left c.if-takes_full.false).0 in
    let taken = c.in_ok-takes_step.ensures.taken c.if-branch.true in
    step_taken c.args.job.now c.args.rate past c.args.self.now c.args.line.now c.args.thread
    c.args.command c.requires.job c.requires.rate s c.requires.begun c.requires.left
    e is.thread is.command is.work is.reply c.takes_step.new.self
    (subst (λ (f : Follower). c.args.line.now ≡ entry_text (entry_here f e)) kept taken.0)
    (subst (λ (f : Follower). Counted f c.takes_step.new.self (graph_here f e) e) kept taken.1)

pub returns : goal.returns
returns c past s =
    let same = ap (λ (j : Job). j.config) c.job.view_is in
    let e = c.full_entry-entry.result in
    let is = c.full_entry-entry.ensures in
    let left = c.takes_full.ensures.left c.if-takes_full.false in
    none_taken c.args.job.now c.args.rate past c.args.self.now c.args.line.now c.args.thread
    c.args.command c.requires.job c.requires.rate s c.requires.begun c.requires.left
    e is.thread is.command is.work is.reply c.requires.number
    (λ full text. left.1 (subst (λ (k : Config). IsFullHere k c.args.self.now e.command)
    (sym same) full) text)
    (λ text. c.in_ok-takes_step.ensures.left c.if-branch.false
    (subst (λ (f : Follower). c.args.line.now ≡ entry_text (entry_here f e))
    (sym left.0) text))
