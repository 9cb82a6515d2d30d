use Rattle.std.proofs.Common.{◌≡◌, ℕ, List, ap, sym, subst, ◌∙◌, map, length, Vec, Global}
use Rattle.never_heap.specs.declared.Command.{Command}
use Rattle.heap_system.specs.Locals.{LocalState}
use Rattle.heap_system.specs.Systems.{traces_of}
use Rattle.block_store.specs.Places.{extent, words_count}
use Rattle.std.proofs.Common.{get_or, ◌<◌}
use Rattle.atom_board.specs.LoneTurns.{EndsAlone}
use Rattle.atom_board.specs.Mutators.{BoardState, start_mutator}
use Rattle.atom_board.proofs.AllMutators.{start_few, opens_of, in_order_of, fresh_of, start_words}
use Rattle.atom_board.proofs.board.AtomBoard.new.Goals as goal

abbrev items_of : Vec Command Global → List Command
items_of v = v.items

pub of_words-requires : goal.of_words-requires
of_words-requires c = opens_of c.in_ok-system.system c.args.c (map items_of c.args.traces.items) c.as_slice.result.now c.in_ok-system.ensures.config c.requires c.in_ok-system.ensures.opening (c.as_slice.ensures.value ∙ c.in_ok-words.ensures)

pub dealt-mutators-requires-clause-words : goal.dealt-mutators-requires-clause-words
dealt-mutators-requires-clause-words c =
    subst (λ (ls : List LocalState). (i : ℕ) (d : LocalState) → i < length ls → words_count (extent (get_or ls i d).config) ≡ c.in_ok-table.table.shared.table_id.words) (sym c.into_locals.ensures)
    (start_words c.args.c (map items_of c.args.traces.items) c.requires c.in_ok-system.system.state c.in_ok-system.ensures.opening c.in_ok-table.table.shared.table_id.words (c.in_ok-table.ensures.0 ∙ ap length (c.as_slice.ensures.value ∙ c.in_ok-words.ensures)))

pub dealt-mutators-requires-clause-few : goal.dealt-mutators-requires-clause-few
dealt-mutators-requires-clause-few c =
    subst (λ (ls : List LocalState). (i : ℕ) (d : LocalState) → i < length ls → EndsAlone (get_or ls i d) 0) (sym c.into_locals.ensures)
    (start_few c.args.c (map items_of c.args.traces.items) c.requires c.in_ok-system.system.state c.in_ok-system.ensures.opening)

pub returns-clause-mutators : goal.returns-clause-mutators
returns-clause-mutators c =
    let b : BoardState = record { id = c.in_ok-table.table.shared.table_id; config = c.args.c; traces = traces_of c.in_ok-table.table.shared.key.state } in
    let traces : traces_of c.in_ok-table.table.shared.key.state ≡ map items_of c.args.traces.items = ap (λ k. traces_of k.state) c.in_ok-table.ensures.5 ∙ c.in_ok-system.ensures.traces in
    in_order_of b c.args.c (map items_of c.args.traces.items) c.in_ok-system.system.state c.dealt-mutators.result.items (ap (λ ts. let x : BoardState = record { id = c.in_ok-table.table.shared.table_id; config = c.args.c; traces = ts } in x) traces) c.requires c.in_ok-system.ensures.opening
    (c.dealt-mutators.ensures ∙ ap (map (start_mutator c.in_ok-table.table.shared.table_id)) c.into_locals.ensures)

pub returns-clause-start : goal.returns-clause-start
returns-clause-start c =
    fresh_of c.in_ok-table.table.shared.table_id c.args.c (map items_of c.args.traces.items) c.in_ok-system.system.state c.dealt-mutators.result.items c.requires c.in_ok-system.ensures.opening
    (c.dealt-mutators.ensures ∙ ap (map (start_mutator c.in_ok-table.table.shared.table_id)) c.into_locals.ensures)
