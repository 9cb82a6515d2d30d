use Rattle.rt_mail.proofs.mail_post.EndFacts.{put_row}
use Rattle.rt_mail.proofs.mail_post.rows.put_in.Goals as goal

pub returns : goal.returns
returns c = put_row c.args.rows.now.items c.args.thread c.args.number c.push.new.self
    c.index_mut.result.now c.requires.thread c.push.ensures c.index_mut.ensures.value
