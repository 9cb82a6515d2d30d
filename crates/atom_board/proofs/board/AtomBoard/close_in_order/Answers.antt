use Rattle.std.proofs.Common.{ap, sym, ◌∙◌, List, ◌∷◌, map}
use Rattle.block_store.specs.declared.PhaseWord.{PhaseWord}
use Rattle.heap_system.specs.Locals.{LocalState}
use Rattle.atom_board.specs.declared.rules.View.{View}
use Rattle.atom_board.specs.Mutators.{BoardState, MutatorState, held_of, local_of, log_of}
use Rattle.atom_board.proofs.AllMutators.{map_map, own_of, closes}
use Rattle.atom_board.proofs.Endings.{cycle_is}
use Rattle.atom_board.proofs.board.AtomBoard.close_in_order.Goals as goal

pub gathered-seat-requires-clause-own : goal.gathered-seat-requires-clause-own
gathered-seat-requires-clause-own c =
    own_of c.args.self c.args.who.items (c.first_and_rest-first.result.0 ∷ c.first_and_rest-first.result.1.items) c.self.inside.table.shared.table_id
    c.first_and_rest-first.ensures (sym (ap (λ (b : BoardState). b.id) c.self.view_is)) c.requires.mutators

pub returns-clause-logs : goal.returns-clause-logs
returns-clause-logs c =
    let ms : List MutatorState = c.first_and_rest-first.result.0 ∷ c.first_and_rest-first.result.1.items in
    ap (map (λ (l : LocalState). l.log)) c.gathered-seat.ensures.locals ∙ map_map local_of (λ (l : LocalState). l.log) ms ∙ ap (map log_of) c.first_and_rest-first.ensures

pub returns-clause-counted : goal.returns-clause-counted
returns-clause-counted c =
    let last = c.close_with-closed.ensures.values.2 in
    let ms : List MutatorState = c.first_and_rest-first.result.0 ∷ c.first_and_rest-first.result.1.items in
    closes c.args.self c.self.inside.table.shared.key last.0 c.gathered-seat.result.0.id c.gathered-seat.result.0.me.0 c.args.who.items (map (λ (l : LocalState). l.log) c.gathered-seat.result.1.items) c.read_phase-cycles.result.cycle
    last.1.0 last.1.1
    (ap (λ m. m.0) c.gathered-seat.ensures.knows ∙ ap (λ (xs : List MutatorState). let v : View = record { locals = map held_of xs } in v) c.first_and_rest-first.ensures)
    (sym c.self.invariant.0 ∙ ap (λ (b : BoardState). b.config) c.self.view_is) (ap (λ (b : BoardState). b.traces) c.self.view_is)
    c.requires.mutators c.requires.done
    (ap (map (λ (l : LocalState). l.log)) c.gathered-seat.ensures.locals ∙ map_map local_of (λ (l : LocalState). l.log) ms ∙ ap (map log_of) c.first_and_rest-first.ensures)
    (ap (λ (p : PhaseWord). p.cycle) c.read_phase-cycles.ensures ∙ sym (cycle_is last.0 _ c.word.result last.2 c.word.ensures))
