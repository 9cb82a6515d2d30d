use Rattle.std.proofs.Common.{◌∙◌, ap, List}
use Rattle.never_heap.specs.declared.Command.{Command}
use Rattle.trace_text.specs.Jobs.{Job}
use Rattle.rtheap_core.specs.schedules.Schedules.{generator}
use Rattle.rtheap_core.specs.Generated.{generated_config, traces_from}
use Rattle.rtheap_core.proofs.GeneratedHeap.{admitted, rate}
use Rattle.rtheap_core.proofs.generated.generate.Goals as goal

abbrev job : List (List Command) → Job
job traces = record { config = generated_config; traces = traces }

pub returns-clause-job : goal.returns-clause-job
unfolding generator
returns-clause-job c =
    ap job (c.in_ok-traces.ensures.traces ∙ ap (traces_from 4 c.args.lines) c.new-words.ensures)

pub returns-clause-admitted : goal.returns-clause-admitted
returns-clause-admitted c = admitted

pub returns-clause-rate : goal.returns-clause-rate
returns-clause-rate c = rate
