use Rattle.barrier_steps.proofs.PhaseRulesKept.{keeps_phase, first_nothing, over_nothing, keeps_words}
use Rattle.barrier_steps.proofs.rules.rows_keep_the_heap.Goals as goal

pub returns : goal.returns
returns c = record { kept = keeps_phase; first = first_nothing; over = λ e f. over_nothing _ f.pass f.row; words = keeps_words }
