use Rattle.rt_tags.proofs.LineLaws.{tag_reads}
use Rattle.rt_tags.proofs.script.script_of.Goals as goal

pub script_of-requires-clause-reads : goal.script_of-requires-clause-reads
script_of-requires-clause-reads c = tag_reads
