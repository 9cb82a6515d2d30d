use Rattle.std.proofs.Common.{◌∙◌, length, ap}
use Rattle.saved_heap.specs.heap_pictures.Pictures.{content_of}
use Rattle.saved_heap.specs.heap_pictures.Plans.{plan_of}
use Rattle.saved_heap.proofs.Copied.{all_built}
use Rattle.saved_heap.proofs.renewal.build.Goals as goal

pub returns-clause-shown : goal.returns-clause-shown
returns-clause-shown c =
    c.in-Ok.ensures.shown (content_of c.args.picture.now) c.in_ok-renewal.ensures.sound
    (c.copy.ensures.commands ∙ c.in_ok-renewal.ensures.commands)

pub returns-clause-built : goal.returns-clause-built
returns-clause-built c = record {
  first = c.in_ok-renewal.renewal.heap;
  opened = c.in_ok-renewal.ensures.opened;
  built = all_built c.in_ok-renewal.renewal.heap c.copy.new.self.heap c.in-Ok.heap
      c.in_ok-renewal.renewal.commands (plan_of (content_of c.args.picture.now))
      c.in_ok-renewal.renewal.done c.copy.new.self.done c.in_ok-renewal.ensures.none
      (c.in-Ok.ensures.all ∙ ap length c.copy.ensures.commands) c.in_ok-renewal.ensures.commands
      c.in-Ok.ensures.heap c.in_default.ensures.built;
}

pub returns-in-Err-clause-enough : goal.returns-in-Err-clause-enough
returns-in-Err-clause-enough c = λ enough.
    c.needs_are_enough.ensures c.args.c (content_of c.args.picture.now) c.stopped.result enough
    c.stopped.ensures
