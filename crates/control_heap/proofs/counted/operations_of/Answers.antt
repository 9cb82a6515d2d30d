use Rattle.std.proofs.Common.{◌-◌, ap, ◌∙◌, arith}
use Rattle.control_heap.specs.declared.counted.Counted.{Counted}
use Rattle.control_heap.proofs.Counts.{few_counted, has_counted, near_counted}
use Rattle.control_heap.proofs.counted.operations_of.Goals as goal

pub returns-in-Ok-clause-counted : goal.returns-in-Ok-clause-counted
returns-in-Ok-clause-counted c =
    let of = c.in-Ok.ensures in
    let before = c.made-before.ensures ∙ ap (λ (m : Counted). m.made) c.memory.ensures.memory in
    let after = c.made.ensures ∙ ap (λ (m : Counted). m.made) c.memory-in-Ok.ensures.memory in
    has_counted c.args.heap.now c.ask.new.self c.args.command c.in-Ok._reply of.fits (record {
      bounds = of.can.0;
      left = of.can.1;
      one_more = of.one_more;
      objects = of.objects;
      answered = of.answered;
      made = of.made;
    }) (omega (arith, before)) _ (c.saturating_sub.ensures ∙ (λ i. after i - before i))

pub returns-in-Ok-clause-few : goal.returns-in-Ok-clause-few
returns-in-Ok-clause-few c = few_counted c.args.heap.now c.ask.new.self c.args.command _ (returns-in-Ok-clause-counted c)

pub returns-in-Err-clause-counted : goal.returns-in-Err-clause-counted
returns-in-Err-clause-counted c = (c.in-Err._refused, c.in-Err.ensures.refused, c.in-Err.ensures.unchanged)

pub returns-in-Ok-clause-near : goal.returns-in-Ok-clause-near
returns-in-Ok-clause-near c = near_counted c.args.heap.now c.ask.new.self c.args.command _ (returns-in-Ok-clause-counted c)
