use Rattle.array_tables.proofs.handle_table.MakeBeforeUse.{makes_are_shown, fates_are_told}
use Rattle.array_tables.proofs.handle_table.handles_are_told.Goals as goal

pub returns-clause-shown : goal.returns-clause-shown
returns-clause-shown c = makes_are_shown

pub returns-clause-stale : goal.returns-clause-stale
returns-clause-stale c = fates_are_told
