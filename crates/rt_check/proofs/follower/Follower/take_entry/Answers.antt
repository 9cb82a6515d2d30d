use Rattle.std.proofs.Common.{◌≤◌, ◌∙◌, length, sym, arith}
use Rattle.rt_check.proofs.GoodLaws.{no_past, left_is, none_begun, none_left_bad, first_bad}
use Rattle.rt_check.proofs.TakenLaws.{number_left}
use Rattle.rt_check.proofs.follower.Follower.take_entry.Goals as goal

pub returns-then-not-has_begun : goal.returns-then-not-has_begun
returns-then-not-has_begun c past s =
    let few : length c.args.job.now.traces ≤ 16 =
    (let l = c.requires.job.threads in let b = c.requires.job.config in omega arith) in
    number_left c.args.job.now.config c.args.job.now.traces past c.args.line.now c.args.thread
    c.requires.number
    (λ rate. first_bad c.args.job.now.config rate c.args.job.now.traces past c.args.line.now
    c.args.thread few c.requires.number
    (no_past c.args.job.now.config c.args.job.now.traces past c.args.self.now s
    (none_begun c.has_begun.result (length c.args.self.now.live.items) c.has_begun.ensures
    c.if-not-has_begun.true)))

pub returns-in_default : goal.returns-in_default
returns-in_default c past s =
    let few : length c.args.job.now.traces ≤ 16 =
    (let l = c.requires.job.threads in let b = c.requires.job.config in omega arith) in
    number_left c.args.job.now.config c.args.job.now.traces past c.args.line.now c.args.thread
    c.requires.number
    (λ rate. none_left_bad c.args.job.now.config rate c.args.job.now.traces past c.args.line.now
    c.args.thread few c.requires.number
    (sym (left_is c.args.job.now.config c.args.job.now.traces past c.args.self.now s c.args.thread)
    ∙ c.in_default.ensures))
