use Rattle.std.proofs.Common.{◌≡◌, ◌≤◌, suc, ap, sym, subst, ◌∙◌, ◌∷◌, length, arith}
use Rattle.std.specs.Vec.Iter.{into_iter_items}
use Rattle.atom_board.specs.Boards.{turns_in}
use Rattle.atom_board.specs.Mutators.{MutatorState}
use Rattle.atom_board.proofs.Steps.{joins}
use Rattle.atom_board.proofs.AllMutators.{at_middle, first_seat, first_local}
use Rattle.atom_board.proofs.board.gathered.Goals as goal

pub join_seat-requires : goal.join_seat-requires
join_seat-requires c =
    let here = at_middle c.loop-mutator.yielded (into_iter_items c.next.new.self) (into_iter_items c.loop-mutator.mutator-iterator) c.args.rest.items c.in-Some.mutator c.in-Some.mutator c.loop-mutator.invariant.0 c.in-Some.ensures.steps.0 in
    let board : c.mutator.inside.port.seat.table_id ≡ c.args.shared.now.table_id = ap (λ (h : MutatorState). h.board) (c.mutator.view_is ∙ sym here.0) ∙ c.requires.own (suc (length c.loop-mutator.yielded)) c.in-Some.mutator (omega (arith, here.1)) in
    (c.loop-mutator.invariant.2, board, ap (λ m. m.1) c.mutator.invariant.0, c.requires.table.1, joins c.args.shared.now.key c.loop-mutator.seat.id c.loop-mutator.seat.me.0 c.mutator.inside.port.seat.id c.mutator.inside.port.seat.me.0)

pub loop-mutator-init : goal.loop-mutator-init
loop-mutator-init c =
    let board : c.first.inside.port.seat.table_id ≡ c.args.shared.now.table_id = ap (λ (m : MutatorState). m.board) c.first.view_is ∙ c.requires.own 0 c.args.first (omega arith) in (
      search,
      search,
      board,
      first_seat c.first.inside.port.seat.me c.first.inside.local (turns_in c.first.inside.port.seat.me.0.locals) c.first.inside.port.seat.table_id c.args.first c.first.invariant.0 c.first.view_is,
      first_local c.push_reserved.new.self.items c.args.room.items c.first.inside.local c.args.first c.push_reserved.ensures.items c.requires.room.0 (ap (λ (m : MutatorState). m.local) c.first.view_is),
      subst (λ n. length (c.args.first ∷ c.args.rest.items) ≤ n) (sym c.push_reserved.ensures.capacity) c.requires.room.1,
      tt,
      tt,
    )
