use Rattle.std.proofs.Common.{ap, ◌∙◌, arith, refl}
use Rattle.crossbeam_queue.specs.Passes.{view}
use Rattle.rt_mail.specs.mail_post.Rule.{sent_in}
use Rattle.rt_mail.specs.mail_post.NumberRows.{rows_of}
use Rattle.rt_mail.proofs.mail_post.Moves.{begins}
use Rattle.rt_mail.proofs.mail_post.EndFacts.{fresh, ends_more, rows_more}
use Rattle.rt_mail.proofs.mail_post.post.Post.new.Goals as goal

pub ruled-requires-clause-rule : goal.ruled-requires-clause-rule
ruled-requires-clause-rule c = begins

pub loop-thread-preserved : goal.loop-thread-preserved
loop-thread-preserved c = (
  (
    c.next_end-end.ensures.line.0.0 ∙ c.loop-thread.invariant.0.0,
    c.next_end-end.ensures.line.0.2
        ∙ c.loop-thread.invariant.0.1,
  ),
  c.next_end-end.ensures.views.0,
  ends_more c.in_ok-line.line.table.shared.table_id c.loop-thread.thread c.loop-thread.ends.items
      c.push.new.self.items _ c.in_ok-push.ensures.items c.next_end-end.ensures.line.1.0 refl
      (ap sent_in c.next_end-end.ensures.views.1) c.loop-thread.invariant.2,
  rows_more c.loop-thread.thread c.loop-thread.rows.items c.push-in-loop-thread.new.self.items
      c.new.result c.in_ok-push-2.ensures.items (c.new.ensures
      ∙ c.new-numbers.ensures.items) c.loop-thread.invariant.3,
)

pub invariant_of-result : goal.invariant_of-result
invariant_of-result c = (
  c.loop-thread.invariant.0.1,
  fresh
      (rows_of c.loop-thread.rows.items) c.loop-thread.thread (view c.loop-thread.pass)
      (omega arith) c.loop-thread.invariant.1 c.loop-thread.invariant.3,
)
