use Rattle.heap_system.proofs.accounting.ThreadAccounts.{account_sound, not_later, present}
use Rattle.heap_system.proofs.accounting.SharesKept.{run_shares}
use Rattle.heap_system.proofs.accounting.CycleShares.{given_here, given_later}
use Rattle.heap_system.proofs.accounts.accounts_are_sound.Goals as goal

pub returns-clause-sound : goal.returns-clause-sound
returns-clause-sound _ c r rate is planned t tl = account_sound c is.traces is.job is.turns r is.by_turns t tl rate planned

pub returns-clause-entered : goal.returns-clause-entered
returns-clause-entered _ c r is t tl = not_later c is.traces is.job is.turns r is.by_turns t tl

pub returns-clause-present : goal.returns-clause-present
returns-clause-present _ c r is t tl = present c is.traces is.job is.turns r is.by_turns t tl

pub returns-clause-units : goal.returns-clause-units
returns-clause-units _ c r is t tl = (run_shares c is.traces is.job is.by_turns.opening.rate is.by_turns.opening.planned is.turns r is.by_turns t tl).units.here

pub returns-clause-given : goal.returns-clause-given
returns-clause-given _ c r is t tl = given_here c.width t r.order _ (run_shares c is.traces is.job is.by_turns.opening.rate is.by_turns.opening.planned is.turns r is.by_turns t tl).given

pub returns-clause-later : goal.returns-clause-later
returns-clause-later _ c r is t tl z l =
    let shares = run_shares c is.traces is.job is.by_turns.opening.rate is.by_turns.opening.planned is.turns r is.by_turns t tl in
    (shares.units.later z l, given_later c.width t r.order _ shares.given z l)
