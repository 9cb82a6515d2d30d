use Rattle.std.proofs.Common.{◌∙◌, arith}
use Rattle.std.proofs.Math.ListN.{length-set}
use Rattle.rt_mail.proofs.mail_post.EndFacts.{same_rows, room_more}
use Rattle.rt_mail.proofs.mail_post.rows.make_room.Goals as goal

pub returns-in_err-make_room-clause-same : goal.returns-in_err-make_room-clause-same
returns-in_err-make_room-clause-same c = same_rows c.loop-t.rows.items c.loop-t.t
    c.make_room.new.self c.index_mut.result.now c.make_room.ensures.same c.index_mut.ensures.value
    ∙ c.loop-t.invariant.0

pub loop-t-preserved : goal.loop-t-preserved
loop-t-preserved c = (
  same_rows c.loop-t.rows.items c.loop-t.t c.make_room.new.self c.index_mut.result.now
      c.make_room.ensures.same c.index_mut.ensures.value ∙ c.loop-t.invariant.0,
  length-set c.loop-t.rows.items c.loop-t.t c.make_room.new.self ∙ c.loop-t.invariant.1,
  room_more c.loop-t.rows.items c.loop-t.t c.make_room.new.self
      (omega arith) c.in_ok-make_room.ensures.room c.loop-t.invariant.2,
)
