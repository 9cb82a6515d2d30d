use Rattle.shared_heap.proofs.EntryAfterSeen.{stands_behind, stands_behind_all, stands_still}
use Rattle.shared_heap.proofs.laws.commands_stand_behind_what_was_seen.Goals as goal

pub returns-clause-seen : goal.returns-clause-seen
returns-clause-seen _ old new k a is = stands_behind old new k a is

pub returns-clause-noted : goal.returns-clause-noted
returns-clause-noted _ old new k a is = stands_behind_all old new k a is

pub returns-clause-still : goal.returns-clause-still
returns-clause-still _ first h order log e is more = stands_still first h order log e is more
