-- What a kind owes whose scripts are run.
use Rattle.std.specs.Prelude.{ℕ, ◌*◌, ◌≡◌, ◌≤◌, List}
use Rattle.array_trees.specs.InitialHeaps.{opening_blocks}
use Rattle.never_heap.specs.declared.Command.{Command}
use Rattle.never_heap.specs.Jobs.{IsJobInBounds}
use Rattle.array_scripts.specs.scripts.Scripts.{Reads}
use Rattle.array_scripts.specs.declared.header.Header.{Header}
use Rattle.array_scripts.specs.Answers.{traces_in}
use Rattle.array_scripts.specs.Kinds.{Kind, Tokens, language, IsHeader, Fits, IsScriptIn}

pub record IsRunnable {Op : Type 0} (kind : Kind Op) (commands : ℕ → List Op → List Command)
    : Type 0 where
  -- Its lines are read as they are spelled.
  pub reads : Reads (language kind) (IsHeader kind) (Fits kind)
  -- The job of a script is in its ranges.
  pub fits : (lines : List Tokens) (h : Header) (scripts : List (List Op))
      → IsScriptIn kind lines h scripts
      → IsJobInBounds (kind.config_of h) (traces_in commands scripts)
  -- Its heap opens within the live limit, and has the blocks of the header. In one round of
  -- allocations each thread asks for one block.
  pub opens : (h : Header) → opening_blocks (kind.config_of h) ≤ (kind.config_of h).live
  pub blocks : (h : Header) → (kind.config_of h).blocks ≡ h.blocks
  pub rounds : (h : Header)
      → (kind.config_of h).threads * (kind.config_of h).object ≡ h.threads
