use Rattle.std.proofs.Common.{◌≡◌, ◌≤◌, ◌++◌, [], length, map}
use Rattle.std.specs.Vec.{vec_capacity}
use Rattle.std.specs.Vec.Iter.{into_iter_items, into_iter_len}
use Rattle.atom_board.specs.Boards.{start_held}
use Rattle.atom_board.specs.Mutators.{start_mutator}
use Rattle.atom_board.proofs.board.dealt.Given as goal

abbrev pub invariant-loop-local : goal.invariant-loop-local
invariant-loop-local l =
    (l.yielded ++ into_iter_items l.local-iterator ≡ l.fn.locals.items)
    × (into_iter_len l.local-iterator ≡ length (into_iter_items l.local-iterator))
    × (l.seat.table_id ≡ l.shared.table_id)
    × (l.seat.me ≡ (record { locals = map start_held (into_iter_items l.local-iterator) }, []))
    × (l.mutators.items ≡ map (start_mutator l.shared.table_id) l.yielded)
    × (length l.fn.locals.items ≤ vec_capacity l.mutators)
    × ((goal.iterator-loop-local).can_next l.local-iterator) × ((goal.iterator-loop-local).is_finite l.local-iterator)
