use Rattle.std.proofs.Common.{sym, subst}
use Rattle.std.specs.Prelude.{Some}
use Rattle.control_heap_c.specs.Outcomes.{heap_in}
use Rattle.control_heap_c.specs.Saves.{IsLoaded}
use Rattle.control_heap_c.specs.declared.owned.Owned.{Owned}
use Rattle.control_heap_c.proofs.saves.loaded.Goals as goal

pub returns-in-Ok-clause-shown : goal.returns-in-Ok-clause-shown
returns-in-Ok-clause-shown c =
    subst (λ (x : Owned). IsLoaded c.args.bytes.now c.args.config (heap_in (Some x))) (sym c.in-Ok.ensures.ok)
    (record {
      config = c.in_ok-heap.ensures.config;
      shown = c.in_ok-heap.ensures.shown;
      built = c.in_ok-heap.ensures.built;
      again = c.in_ok-heap.ensures.again;
    })
