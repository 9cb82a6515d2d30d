use Rattle.rt_handles.proofs.LineLaws.{handle_reads}
use Rattle.rt_handles.proofs.script.script_of.Goals as goal

pub script_of-requires-clause-reads : goal.script_of-requires-clause-reads
script_of-requires-clause-reads c = handle_reads
