use Rattle.std.proofs.Common.{sym, subst}
use Rattle.saved_heap.specs.declared.heap_pictures.needs.Needs.{Needs}
use Rattle.saved_heap.specs.heap_pictures.Needs.{IsRaised}
use Rattle.control_heap_c.proofs.needs.raised.Goals as goal

pub returns-in-None-clause-refused : goal.returns-in-None-clause-refused
returns-in-None-clause-refused c = record {
  picture = c.in-Ok.ensures.needs.0;
  shown = c.in-Ok.ensures.needs.1;
  none = λ d is. c.in-None.ensures.none d (subst (λ (n : Needs). IsRaised c.args.config n d) (sym c.in-Ok.ensures.needs.3) is);
}
