-- The traces of a finished run are the commands of its logs.
use Rattle.std.proofs.Common.{◌≡◌, List, Result, Ok, Err, IfOk, sym, subst}
use Rattle.block_store.specs.declared.Config.{Config}
use Rattle.never_heap.specs.declared.Command.{Command}
use Rattle.never_heap.specs.declared.Entry.{Entry}
use Rattle.heap_system.specs.Systems.{Finish, IsFinished}
use Rattle.heap_system.proofs.Lemmas.{traces_logged}
use Rattle.lock_board.specs.Logs.{commands_of}

-- what shows a run of some traces shows one of the commands of its logs
pub shown : {E : Type 0} (c : Config) (traces : List (List Command)) (logs : List (List Entry))
    → (x : Result Finish E)
    → IfOk x (λ f. (f.config ≡ c) × (f.logs ≡ logs) × IsFinished c traces f.logs f.cycles)
    → IfOk x (λ f. IsFinished f.config (commands_of f.logs) f.logs f.cycles)
shown c traces logs (Ok f) h =
    subst (λ k. IsFinished k (commands_of f.logs) f.logs f.cycles) (sym h.0)
    (subst (λ ts. IsFinished c ts f.logs f.cycles) (sym (traces_logged c traces f.logs f.cycles h.2)) h.2)
shown c traces logs (Err e) h = tt
