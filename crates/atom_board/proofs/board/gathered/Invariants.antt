use Rattle.std.proofs.Common.{◌≡◌, ◌≤◌, ◌++◌, [], ◌∷◌, length, map}
use Rattle.std.specs.Vec.{vec_capacity}
use Rattle.std.specs.Vec.Iter.{into_iter_items, into_iter_len}
use Rattle.atom_board.specs.Mutators.{held_of, local_of}
use Rattle.atom_board.proofs.board.gathered.Given as goal

abbrev pub invariant-loop-mutator : goal.invariant-loop-mutator
invariant-loop-mutator l =
    (l.yielded ++ into_iter_items l.mutator-iterator ≡ l.fn.rest.items)
    × (into_iter_len l.mutator-iterator ≡ length (into_iter_items l.mutator-iterator))
    × (l.seat.table_id ≡ l.shared.table_id)
    × (l.seat.me ≡ (record { locals = map held_of (l.fn.first ∷ l.yielded) }, []))
    × (l.locals.items ≡ map local_of (l.fn.first ∷ l.yielded))
    × (length (l.fn.first ∷ l.fn.rest.items) ≤ vec_capacity l.locals)
    × ((goal.iterator-loop-mutator).can_next l.mutator-iterator) × ((goal.iterator-loop-mutator).is_finite l.mutator-iterator)
