use Rattle.heap_invariant.specs.graph_relation.GraphOfWords.{named}
use Rattle.barrier_steps.proofs.RowReads.{row_reads, row_shown, row_named}
use Rattle.barrier_steps.proofs.RepliesDue.{due_shows, after, row_decides, row_due}
use Rattle.barrier_steps.proofs.laws.rows_read_the_graph.Goals as goal

pub returns : goal.returns
returns c = record {
  reads = λ c m kept at s h f w few low k. row_reads c m (named kept) at few low s k h f.pass f.command f.row w;
  shown = λ c m kept at s h f w few low k. row_shown c m (named kept) at few low s k h f.pass f.command f.row w;
  register = λ c head s a f w sized fits h loads hand n. due_shows (after c head s a f.pass f.command w f.row) f.pass.thread f.command _ _
      (row_decides c head s a f.pass f.command w f.row sized fits h loads hand n);
  name = λ c m kept at s h f w reply few low k. row_named c m (named kept) at few low s k h f.pass f.command f.row w reply;
  due = λ c m kept at s h a f w few low k fits is hand known. (row_due c m (named kept) at few low s k h a f.pass f.command f.row w fits is hand known).0;
  known = λ c m kept at s h a f w few low k fits is hand known. (row_due c m (named kept) at few low s k h a f.pass f.command f.row w fits is hand known).1;
}
