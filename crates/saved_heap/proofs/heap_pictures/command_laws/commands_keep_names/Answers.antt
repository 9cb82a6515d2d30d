use Rattle.saved_heap.proofs.heap_pictures.Following.{names_stay, thread_of_replay, threads_stay}
use Rattle.saved_heap.proofs.heap_pictures.command_laws.commands_keep_names.Goals as goal

pub returns-clause-runs : goal.returns-clause-runs
returns-clause-runs c = thread_of_replay

pub returns-clause-threads : goal.returns-clause-threads
returns-clause-threads c = threads_stay

pub returns-clause-names : goal.returns-clause-names
returns-clause-names c = names_stay
