use Rattle.std.proofs.Common.{refl, sym, ap, ◌∙◌}
use Rattle.std.specs.Prelude.{Some}
use Rattle.shared_heap.specs.Workers.{HeapState}
use Rattle.control_heap_c.specs.declared.owned.Owned.{Owned}
use Rattle.control_heap_c.specs.Shared.{worker_at}
use Rattle.control_heap_c.proofs.Handing.{first_of, others_of, same_home}
use Rattle.control_heap_c.proofs.shared.group.split.Goals as goal

pub invariant_of-replace : goal.invariant_of-replace
invariant_of-replace c = record {
  own = first_of _ _ _ _ c.first_and_rest-worker.ensures c.args.group.own ∙ ap (λ (h : HeapState). h.id) (sym c.in-Ok-Ok.ensures);
}

pub invariant_of-result : goal.invariant_of-result
invariant_of-result c = record { own = others_of _ _ _ _ c.first_and_rest-worker.ensures c.args.group.own }

pub returns-clause-first : goal.returns-clause-first
returns-clause-first c = record {
  closed = refl;
  first = _;
  rest = _;
  is_first = ap (λ (x : Owned). worker_at (Some x)) c.replace.ensures.after;
  before = ap Some (sym c.first_and_rest-worker.ensures);
  after = refl;
  home = refl;
  own = λ s at. first_of _ _ _ _ c.first_and_rest-worker.ensures c.args.group.own ∙ same_home _ s at;
}
