-- Why a heap is not opened, and why a command is refused.
use Rattle.std.specs.Prelude.{ℕ, List, codes}
use Rattle.block_store.specs.declared.Config.{Config}
use Rattle.block_store.specs.Configs.{IsInBounds}
use Rattle.block_store.specs.ErrorTexts.{out_of_memory_text}
use Rattle.rate_plan.specs.Rates.{IsRefusal, plan_fault_text}
use Rattle.rate_plan.specs.declared.PlanFault.TheVariants as plans
use Rattle.never_heap.specs.declared.Command.{Command}
use Rattle.never_heap.specs.Bounds.{IsCommandInBounds}
use Rattle.shared_heap.specs.declared.heap.OpenFault.{OpenFault}
use Rattle.shared_heap.specs.declared.heap.OpenFault.TheVariants.{OutOfBounds, LiveTooSmall, NoRate, NoMemory}
use Rattle.control_heap.specs.declared.control.Refused.{Refused}
use Rattle.control_heap.specs.declared.control.Refused.TheVariants as refusals
use Rattle.shared_heap.specs.Workers.{CanOpen, HasLeft, WorkerState}

-- The cause of each fault. At most one fits a configuration; one that can be opened has only the
-- last, which says that memory was refused.
abbrev pub IsOpenFault : Config → OpenFault → Type 0
IsOpenFault c OutOfBounds = ¬ IsInBounds c
IsOpenFault c LiveTooSmall = IsInBounds c × IsRefusal c plans.LiveTooSmall
IsOpenFault c NoRate = IsInBounds c × IsRefusal c plans.NoRate
IsOpenFault c NoMemory = CanOpen c

-- the cause of each refusal of a command
abbrev pub IsRefused : WorkerState → Command → Refused → Type 0
IsRefused w k refusals.OutOfBounds = ¬ IsCommandInBounds w.thread.config k
IsRefused w k refusals.NoLifeLeft = IsCommandInBounds w.thread.config k × ¬ HasLeft w k

-- the printed text of a fault
abbrev pub open_fault_text : OpenFault → List ℕ
open_fault_text OutOfBounds = codes "a number of the configuration is out of range; correct it"
open_fault_text LiveTooSmall = plan_fault_text plans.LiveTooSmall
open_fault_text NoRate = plan_fault_text plans.NoRate
open_fault_text NoMemory = out_of_memory_text
