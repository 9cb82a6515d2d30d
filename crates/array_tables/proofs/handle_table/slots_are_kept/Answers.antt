use Rattle.array_tables.proofs.handle_table.SlotApplication.{slots_are_kept}
use Rattle.array_tables.proofs.handle_table.slots_are_kept.Goals as goal

pub returns : goal.returns
returns c = slots_are_kept
