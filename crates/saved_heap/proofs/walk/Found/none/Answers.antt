use Rattle.std.proofs.Common.{get_or, ap, ◌∙◌}
use Rattle.saved_heap.proofs.walk.Found.none.Goals as goal

pub returns : goal.returns
returns c = record {
  found = c.in_ok-with_capacity.ensures.items;
  numbers = λ x. c.grow.ensures.same x ∙ ap (λ l. get_or l x 0) c.new-numbers.ensures.items;
}
