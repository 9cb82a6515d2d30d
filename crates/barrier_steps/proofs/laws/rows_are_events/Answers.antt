use Rattle.barrier_steps.proofs.RowEvents.{words_moved, loads_moved, row_guarded, graph_stays, graph_steps}
use Rattle.barrier_steps.proofs.laws.rows_are_events.Goals as goal

pub returns : goal.returns
returns c = record {
  words = λ c h s a f. words_moved c s a f.pass f.command h f.row;
  loads = λ c h s a f w fits reads. loads_moved c s a f.pass f.command h f.row w fits (λ _. reads);
  stays = λ c s a f. graph_stays c s a f.pass f.command f.row;
  steps = λ c head s a f. graph_steps c s a f.pass f.command head f.row;
  guarded = λ c h s a f w fits reads. row_guarded c s a f.pass f.command h f.row w fits (λ _. reads);
}
