use Rattle.std.proofs.Common.{ap, sym, subst, ◌∙◌, ◌≡◌, length}
use Rattle.rt_mail.specs.mail_post.PostStates.{TakerState, OfPost, AreAll}
use Rattle.rt_mail.proofs.mail_runs.SpawnedThreads.{all_spoken}
use Rattle.rt_mail.proofs.mail_runs.MailThreadsDone.{of_post, are_all, fresh_count, received}
use Rattle.rt_mail.proofs.mail_runs.receiving.receive.Goals as goal

pub take_rest-requires-clause-post : goal.take_rest-requires-clause-post
take_rest-requires-clause-post g c =
    let mail_board = c.args.mail_board.now in
    let spoken = all_spoken mail_board 0 c.args.spawned.items c.in_ok-mail_threads.mail_threads.items
    c.requires.spawned.0 c.in_ok-mail_threads.ensures in (
      c.in_ok-take_while_they_speak.ensures.post ∙ ap (λ (t : TakerState). t.post) c.requires.taker,
      subst (OfPost mail_board.post.id) (sym c.in_ok-mutators.ensures.senders)
          (of_post mail_board 0 c.in_ok-mail_threads.mail_threads.items spoken.0),
    )

pub take_rest-requires-clause-all : goal.take_rest-requires-clause-all
take_rest-requires-clause-all g c =
    let mail_board = c.args.mail_board.now in
    let spoken = all_spoken mail_board 0 c.args.spawned.items c.in_ok-mail_threads.mail_threads.items
    c.requires.spawned.0 c.in_ok-mail_threads.ensures in
    let count : length c.take_while_they_speak.new.who.taken ≡ length c.in_ok-mail_threads.mail_threads.items =
    c.in_ok-take_while_they_speak.ensures.size ∙ fresh_count mail_board _ _ c.requires.taker
    ∙ sym c.requires.spawned.1 ∙ sym spoken.1 in
    subst (λ n. AreAll n c.in_ok-mutators.senders.items) (sym count)
    (subst (AreAll (length c.in_ok-mail_threads.mail_threads.items)) (sym c.in_ok-mutators.ensures.senders)
    (are_all mail_board c.in_ok-mail_threads.mail_threads.items spoken.0))

pub returns : goal.returns
returns g c =
    let mail_board = c.args.mail_board.now in
    let spoken = all_spoken mail_board 0 c.args.spawned.items c.in_ok-mail_threads.mail_threads.items
    c.requires.spawned.0 c.in_ok-mail_threads.ensures in
    let count : length c.take_while_they_speak.new.who.taken ≡ length c.in_ok-mail_threads.mail_threads.items =
    c.in_ok-take_while_they_speak.ensures.size ∙ fresh_count mail_board _ _ c.requires.taker
    ∙ sym c.requires.spawned.1 ∙ sym spoken.1 in
    received mail_board c.in_ok-mail_threads.mail_threads.items _ c.in_ok-mutators.senders.items
    c.take_rest.new.who _ spoken.0 (spoken.1 ∙ c.requires.spawned.1)
    c.in_ok-mutators.ensures.mutators c.in_ok-mutators.ensures.senders count
    (c.in_ok-take_rest.ensures.post ∙ c.in_ok-take_while_they_speak.ensures.post
    ∙ ap (λ (t : TakerState). t.post) c.requires.taker)
    c.in_ok-take_rest.ensures.taken c.in_ok-take_rest.ensures.sent

pub take_rest-requires-clause-first : goal.take_rest-requires-clause-first
take_rest-requires-clause-first g c =
    c.in_ok-take_while_they_speak.ensures.sent ∙ ap (λ (t : TakerState). t.sent) c.requires.taker
