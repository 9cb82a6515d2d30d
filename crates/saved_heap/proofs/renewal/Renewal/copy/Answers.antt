use Rattle.std.proofs.Common.{◌≡◌, ◌+◌, ◌-◌, ◌∙◌, drop, length, take, IfErr, Result, ap, arith, subst}
use Rattle.std.proofs.lemmas.List.{take_rest}
use Rattle.saved_heap.specs.declared.faults.CopyFault.{CopyFault}
use Rattle.saved_heap.specs.Faults.{StopsAt}
use Rattle.saved_heap.specs.Renewals.{Copying, rest_of}
use Rattle.saved_heap.proofs.Copied.{copied_more, stops_there}
use Rattle.saved_heap.proofs.renewal.Renewal.copy.Goals as goal

pub invariant_of-self : goal.invariant_of-self
invariant_of-self c =
    copied_more c.self.inside.heap c.copied-more.new.heap c.self.inside.commands.items _
    c.self.inside.done c.copied-more.result.0 c.args.most _
    (take_rest c.deref.result.now c.self.inside.done
    ∙ ap (drop c.self.inside.done) c.deref.ensures.value) c.self.invariant.few c.copied-more.ensures.low
    c.copied-more.ensures.config c.self.invariant.leaves c.copied-more.ensures.leaves

pub invariant_of-self-in-Err : goal.invariant_of-self-in-Err
invariant_of-self-in-Err c =
    copied_more c.self.inside.heap c.copied-more.new.heap c.self.inside.commands.items _
    c.self.inside.done c.copied-more.result.0 c.args.most _
    (take_rest c.deref.result.now c.self.inside.done
    ∙ ap (drop c.self.inside.done) c.deref.ensures.value) c.self.invariant.few c.copied-more.ensures.low
    c.copied-more.ensures.config c.self.invariant.leaves c.copied-more.ensures.leaves

pub returns-in-Err-clause-stops : goal.returns-in-Err-clause-stops
returns-in-Err-clause-stops c =
    let more : c.copied-more.result.0 ≡ c.self.inside.done + c.copied-more.result.0 - c.self.inside.done =
    omega arith in
    subst (λ (s : Copying). StopsAt s.heap (rest_of s)
    (c.self.inside.done + c.copied-more.result.0 - s.done) c.copied-more.new.heap c.in-Err.fault)
    c.self.view_is
    (stops_there c.self.inside.heap c.copied-more.new.heap _
    (drop c.self.inside.done c.self.inside.commands.items) _ _ c.in-Err.fault
    (take_rest c.deref.result.now c.self.inside.done
    ∙ ap (drop c.self.inside.done) c.deref.ensures.value) more
    (subst (λ (x : Result (Unit {0}) CopyFault). IfErr x (StopsAt c.self.inside.heap
    (take (length c.deref.result.now - c.self.inside.done) (drop c.self.inside.done c.deref.result.now))
    c.copied-more.result.0 c.copied-more.new.heap))
    c.in-Err.is c.copied-more.ensures.stops))
