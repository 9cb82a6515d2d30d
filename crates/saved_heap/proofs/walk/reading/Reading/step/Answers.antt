use Rattle.std.proofs.Common.{◌≡◌, ◌<◌, ◌≤◌, ◌+◌, ◌⊎◌, length, map, ap, ◌∙◌, arith, rules}
use Rattle.saved_heap.specs.heap_pictures.Pictures.{view}
use Rattle.saved_heap.proofs.heap_pictures.Lists.{length_map}
use Rattle.saved_heap.specs.Walks.{Progress, State, Walks, state_of}
use Rattle.saved_heap.proofs.Pictured.{left_over, read_on}
use Rattle.saved_heap.proofs.walk.reading.Reading.step.Goals as goal

pub returns-clause-all : goal.returns-clause-all
returns-clause-all c = λ left.
    let how : (length c.read_more-end.new.objects.items ≡ length c.self.inside.objects.items + c.args.most)
    ⊎ (length c.read_more-end.new.found.objects.items ≤ length c.read_more-end.new.objects.items) = search rules in
    let walked : (first : State) → Walks c.self.inside.from first (state_of c.self.inside.found) (map view c.self.inside.objects.items)
    → Walks c.self.inside.from first (state_of c.read_more-end.new.found) (map view c.read_more-end.new.objects.items) = search rules in
    let some : 0 < length c.self.inside.registers.items = search (rules, arith) in
    left_over c.self.inside.from c.self.inside.registers.items (state_of c.read_more-end.new.found)
    (map view c.read_more-end.new.objects.items) (length c.read_more-end.new.objects.items) (length c.self.inside.objects.items) c.args.most
    (length_map view c.read_more-end.new.objects.items) some
    (read_on c.self.inside.from c.self.inside.registers.items (state_of c.self.inside.found) (state_of c.read_more-end.new.found)
    (map view c.self.inside.objects.items) (map view c.read_more-end.new.objects.items) some c.self.invariant walked) how left
    ∙ ap (λ (p : Progress). p.read + c.args.most) c.self.view_is
