use Rattle.std.proofs.Common.{refl}
use Rattle.control_heap_c.proofs.Handing.{more_of, same_of, same_resting}
use Rattle.std.specs.Arc.{arc_value}
use Rattle.control_heap_c.proofs.shared.closing.grown.Goals as goal

pub invariant_of-result : goal.invariant_of-result
invariant_of-result c = record {
  own = more_of (arc_value c.args.group.heap).id c.args.group.workers.items c.push.new.self.items
      c.args.at.worker c.in-Ok.ensures.items c.args.group.own c.requires;
}

pub invariant_of-result-in-Err : goal.invariant_of-result-in-Err
invariant_of-result-in-Err c = record {
  own = same_of (arc_value c.args.group.heap).id c.args.group.workers.items c.push.new.self.items
      c.in-Err.ensures.items c.args.group.own;
}

pub returns-in-Err-clause-refused : goal.returns-in-Err-clause-refused
returns-in-Err-clause-refused c = (same_resting c.args.at _ _ c.in-Err.ensures.value_returned, refl)
