use Rattle.object_lists.proofs.Lists.{record_layout}
use Rattle.object_lists.proofs.record_layouts.Goals as goal

pub returns : goal.returns
returns c = record_layout
