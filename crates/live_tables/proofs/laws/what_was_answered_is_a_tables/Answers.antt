use Rattle.live_tables.proofs.rows.SoFar.{fits_between, fits_order_of, fits_working}
use Rattle.live_tables.proofs.laws.what_was_answered_is_a_tables.Goals as goal

pub returns-clause-between : goal.returns-clause-between
returns-clause-between g c k s kept between heap =
    fits_between g.K.Table.rows c.is_lawful.ensures k s kept between heap

pub returns-clause-anytime : goal.returns-clause-anytime
returns-clause-anytime g c k s kept working heap =
    fits_working g.K.Table.rows c.is_lawful.ensures k s kept working heap

pub returns-clause-meanwhile : goal.returns-clause-meanwhile
returns-clause-meanwhile g c k s kept heap scripts execute =
    fits_order_of g.K.Table.rows c.is_lawful.ensures k s kept heap scripts execute
