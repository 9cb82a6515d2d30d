use Rattle.std.proofs.Common.{subst}
use Rattle.live_tables.specs.rows.Workers.{HasSeenAll}
use Rattle.live_tables.proofs.rows.Doing.{all_seen}
use Rattle.live_tables.proofs.table.LiveTable.note.Goals as goal

pub returns-clause-all : goal.returns-clause-all
returns-clause-all g c =
    subst (λ w. HasSeenAll g.K.Table.rows w) c.who.view_is
    (all_seen g.K.Table.rows c.is_lawful.ensures c.who.inside.worker c.who.invariant.worker
    c.note-note.ensures.all)
