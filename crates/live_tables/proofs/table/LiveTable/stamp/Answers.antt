use Rattle.std.proofs.Common.{subst}
use Rattle.live_tables.specs.rows.Workers.{HasDrawn, row_worker}
use Rattle.live_tables.proofs.rows.Doing.{all_seen, row_drawn, row_kept}
use Rattle.live_tables.proofs.rows.Tables.{drawn_still}
use Rattle.live_tables.proofs.table.LiveTable.stamp.Goals as goal

pub returns-clause-drawn : goal.returns-clause-drawn
returns-clause-drawn g c =
    subst (λ w. HasDrawn w c.stamp.result (row_worker g.K.Table.rows c.stamp.new.who)) c.who.view_is
    (row_drawn g.K.Table.rows c.who.inside.worker c.stamp.new.who c.stamp.result c.stamp.ensures)

pub returns-clause-all : goal.returns-clause-all
returns-clause-all g c =
    all_seen g.K.Table.rows c.is_lawful.ensures c.stamp.new.who
    (row_kept g.K.Table.rows c.who.inside.worker c.stamp.new.who c.stamp.result c.stamp.ensures
    c.who.invariant.worker) c.stamp.ensures.sound

pub invariant_of-who : goal.invariant_of-who
invariant_of-who g c =
    drawn_still g.K.Table.rows c.is_lawful.ensures g.K.Table.Keeps c.who.inside.worker c.stamp.new.who
    c.stamp.result c.who.inside.own c.stamp.ensures c.who.invariant
