use Rattle.std.proofs.Common.{ap, sym, subst, ◌∙◌}
use Rattle.block_store.specs.declared.Config.{Config}
use Rattle.heap_system.specs.Machines.{IsJob}
use Rattle.heap_system.proofs.Lemmas.{job_of_text}
use Rattle.rt_mail.specs.mail_post.PostStates.{fresh_senders}
use Rattle.trace_text.specs.Jobs.{Job}
use Rattle.rt_mail.specs.declared.mail_runs.mail_board.MailBoard.{MailBoard}
use Rattle.rt_mail.specs.mail_runs.MailThreads.{AreMailThreads}
use Rattle.rt_mail.proofs.mail_runs.FreshMailThreads.{ready_count, speakers_ready}
use Rattle.rt_mail.proofs.mail_runs.letters.opened.Goals as goal

pub new-requires : goal.new-requires
new-requires c =
    subst (λ (j : Job). IsJob j.config j.traces) (sym c.job.view_is)
    (job_of_text _ _ c.requires.bounds c.requires.admitted)

pub paired-requires : goal.paired-requires
paired-requires c =
    ready_count c.in_ok-board.board c.in_ok-board.mutators.items c.in_ok-post.senders.items _ _
    c.in_ok-board.ensures.mutators c.in_ok-post.ensures.senders
    (ap (λ (k : Config). k.threads) (sym c.in_ok-board.ensures.board.0))

pub returns-clause-mail_threads : goal.returns-clause-mail_threads
returns-clause-mail_threads c =
    let o : MailBoard = record {
      board = c.in_ok-board.board;
      post = c.in_ok-post.post;
      ended = c.new-ended.result;
    } in
    subst (AreMailThreads o) (sym c.in_ok-mail_threads.ensures)
    (speakers_ready o _ _ c.in_ok-board.mutators.items c.in_ok-post.senders.items
    c.in_ok-board.ensures.mutators c.in_ok-board.ensures.start
    (c.in_ok-post.ensures.senders
    ∙ ap (λ (k : Config). fresh_senders o.post.id k.threads) (sym c.in_ok-board.ensures.board.0)))
