use Rattle.std.proofs.Common.{map, Vec, List, Global}
use Rattle.never_heap.specs.declared.Command.{Command}
use Rattle.heap_system.proofs.Lemmas.{job_of_text, text_few}
use Rattle.heap_tests.proofs.judging.run_of.Goals as goal

abbrev items_of : Vec Command Global → List Command
items_of v = v.items

pub new_ordered-requires-clause-job : goal.new_ordered-requires-clause-job
new_ordered-requires-clause-job c =
    job_of_text c.args.c (map items_of c.args.traces.items) c.requires.job c.requires.plan

pub new_ordered-requires-clause-few : goal.new_ordered-requires-clause-few
new_ordered-requires-clause-few c =
    text_few c.args.c (map items_of c.args.traces.items) c.requires.job
