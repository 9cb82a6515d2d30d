use Rattle.std.proofs.Common.{None, refl}
use Rattle.std.proofs.lemmas.List.{get_or-replicate}
use Rattle.live_tables.proofs.handles.kind.HandlesTable.start.Goals as goal

pub returns : goal.returns
returns _ c t shape low = record {
  made_so = refl;
  slots_so = λ h small. get_or-replicate 8 h None None small;
}
