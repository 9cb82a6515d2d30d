use Rattle.std.proofs.Common.{◌≡◌, length, map, true, sym, ap, ◌∙◌, rules}
use Rattle.saved_heap.specs.heap_pictures.Pictures.{view}
use Rattle.saved_heap.proofs.heap_pictures.Lists.{length_map}
use Rattle.saved_heap.specs.Walks.{Progress, is_whole, state_of}
use Rattle.saved_heap.proofs.Pictured.{end_of, ordered, pictured, sound_whole}
use Rattle.saved_heap.proofs.walk.reading.Reading.finish.Goals as goal

pub returns-clause-picture : goal.returns-clause-picture
returns-clause-picture c = λ h same.
    let whole : is_whole (length c.self.inside.registers.items) (length c.self.inside.objects.items) (length c.self.inside.found.objects.items) ≡ true = search rules in
    let all = end_of c.self.inside.from c.self.inside.registers.items (state_of c.self.inside.found) (map view c.self.inside.objects.items)
    (length c.self.inside.objects.items) (length_map view c.self.inside.objects.items) c.self.invariant whole in
    pictured c.self.inside.from c.self.inside.registers.items (state_of c.self.inside.found) (map view c.self.inside.objects.items) all.0 all.1 h
    (same ∙ sym (ap (λ (p : Progress). p.from) c.self.view_is))

pub returns-clause-order : goal.returns-clause-order
returns-clause-order c =
    let whole : is_whole (length c.self.inside.registers.items) (length c.self.inside.objects.items) (length c.self.inside.found.objects.items) ≡ true = search rules in
    let all = end_of c.self.inside.from c.self.inside.registers.items (state_of c.self.inside.found) (map view c.self.inside.objects.items)
    (length c.self.inside.objects.items) (length_map view c.self.inside.objects.items) c.self.invariant whole in
    ordered c.self.inside.from c.self.inside.registers.items (state_of c.self.inside.found) (map view c.self.inside.objects.items) all.0 all.1

pub returns-clause-sound : goal.returns-clause-sound
returns-clause-sound c =
    let whole : is_whole (length c.self.inside.registers.items) (length c.self.inside.objects.items) (length c.self.inside.found.objects.items) ≡ true = search rules in
    let all = end_of c.self.inside.from c.self.inside.registers.items (state_of c.self.inside.found) (map view c.self.inside.objects.items)
    (length c.self.inside.objects.items) (length_map view c.self.inside.objects.items) c.self.invariant whole in
    sound_whole c.self.inside.from c.self.inside.registers.items (state_of c.self.inside.found) (map view c.self.inside.objects.items) all.0 all.1
