use Rattle.std.proofs.Common.{arith}
use Rattle.rtheap_core.proofs.GeneratedHeap.{arrays_fit}
use Rattle.rtheap_core.proofs.generated.command_of.Goals as goal

pub returns-in-2-clause-bounds : goal.returns-in-2-clause-bounds
returns-in-2-clause-bounds c =
    record {
      range = (omega arith, omega arith);
      blocks = arrays_fit _ (omega arith);
      units = omega arith;
      version = tt;
    }
