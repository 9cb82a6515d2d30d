-- Why a heap could not be opened, and why a command is refused.
use Rattle.std.specs.Prelude.{ℕ, ◌≡◌, ◌≢◌, List, codes}
use Rattle.block_store.specs.declared.Config.{Config}
use Rattle.block_store.specs.Configs.{IsInBounds}
use Rattle.block_store.specs.ErrorTexts.{out_of_memory_text}
use Rattle.rate_plan.specs.Rates.{IsRefusal, plan_fault_text}
use Rattle.rate_plan.specs.declared.PlanFault.TheVariants as plans
use Rattle.never_heap.specs.declared.Command.{Command}
use Rattle.never_heap.specs.Bounds.{IsCommandInBounds}
use Rattle.control_heap.specs.declared.control.OpenFault.{OpenFault}
use Rattle.control_heap.specs.declared.control.OpenFault.TheVariants.{OutOfBounds, NotOneThread, LiveTooSmall, NoRate, NoMemory}
use Rattle.control_heap.specs.declared.control.Refused.{Refused}
use Rattle.control_heap.specs.declared.control.Refused.TheVariants as refusals
use Rattle.control_heap.specs.Controls.{ControlOf, CanOpen, HasLeft}

-- the cause of each fault. At most one fits a configuration, and only the last fits one that can be
-- opened.
abbrev pub IsOpenFault : Config → OpenFault → Type 0
IsOpenFault c OutOfBounds = ¬ IsInBounds c
IsOpenFault c NotOneThread = IsInBounds c × (c.threads ≢ 1)
IsOpenFault c LiveTooSmall = IsInBounds c × (c.threads ≡ 1) × IsRefusal c plans.LiveTooSmall
IsOpenFault c NoRate = IsInBounds c × (c.threads ≡ 1) × IsRefusal c plans.NoRate
IsOpenFault c NoMemory = CanOpen c

-- the cause of each refusal of a command
abbrev pub IsRefused : {M : Type 0} → ControlOf M → Command → Refused → Type 0
IsRefused h k refusals.OutOfBounds = ¬ IsCommandInBounds h.config k
IsRefused h k refusals.NoLifeLeft = IsCommandInBounds h.config k × ¬ HasLeft h k

-- the printed text of a fault
abbrev pub open_fault_text : OpenFault → List ℕ
open_fault_text OutOfBounds = codes "a number of the configuration is out of range; correct it"
open_fault_text NotOneThread =
    codes "the configuration has more than one thread; set `threads` to 1"
open_fault_text LiveTooSmall = plan_fault_text plans.LiveTooSmall
open_fault_text NoRate = plan_fault_text plans.NoRate
open_fault_text NoMemory = out_of_memory_text
