use Rattle.std.proofs.Common.{◌≡◌, ℕ, List, [], ◌∷◌, ◌++◌, ap, sym, subst, ◌∙◌, map, length, Vec, Global, get_or, ◌<◌}
use Rattle.never_heap.specs.declared.Command.{Command}
use Rattle.heap_system.specs.Locals.{LocalState}
use Rattle.heap_system.specs.Machines.{IsJob}
use Rattle.shared_heap.specs.Workers.{IsDealt, start_worker}
use Rattle.shared_heap.proofs.InitialHeaps.{config_at, dealt_at, first_job, opens_of}
use Rattle.shared_heap.proofs.AllWorkers.{fresh, in_order}
use Rattle.shared_heap.proofs.WorkersInOrder.{in_order_each}
use Rattle.shared_heap.proofs.heap.opened.Goals as goal

abbrev items_of : Vec Command Global → List Command
items_of v = v.items

pub new-requires : goal.new-requires
new-requires c = first_job c.args.c (map items_of c.in_ok-traces.traces.items) c.requires c.in_ok-traces.ensures.0 c.in_ok-traces.ensures.1

pub of_words-requires : goal.of_words-requires
of_words-requires c =
    let job : IsJob c.args.c (map items_of c.in_ok-traces.traces.items) = first_job c.args.c (map items_of c.in_ok-traces.traces.items) c.requires c.in_ok-traces.ensures.0 c.in_ok-traces.ensures.1 in
    opens_of c.in_ok-system.system c.args.c (map items_of c.in_ok-traces.traces.items) c.as_slice.result.now c.in_ok-system.ensures.config job c.in_ok-system.ensures.opening (c.as_slice.ensures.value ∙ c.in_ok-push.ensures.items ∙ ap (λ ws. ws ++ 0 ∷ []) c.in_ok-words.ensures)

pub dealt-workers-requires-clause-each : goal.dealt-workers-requires-clause-each
dealt-workers-requires-clause-each c =
    let job : IsJob c.args.c (map items_of c.in_ok-traces.traces.items) = first_job c.args.c (map items_of c.in_ok-traces.traces.items) c.requires c.in_ok-traces.ensures.0 c.in_ok-traces.ensures.1 in
    subst (λ (ls : List LocalState). (i : ℕ) (d : LocalState) → i < length ls → IsDealt c.in_ok-table.table.shared.table_id.words (get_or ls i d)) (sym c.into_locals.ensures)
    (dealt_at c.args.c (map items_of c.in_ok-traces.traces.items) job c.in_ok-system.system.state c.in_ok-system.ensures.opening c.in_ok-traces.ensures.1 c.in_ok-table.table.shared.table_id.words (c.in_ok-table.ensures.0 ∙ ap length (c.as_slice.ensures.value ∙ c.in_ok-push.ensures.items ∙ ap (λ ws. ws ++ 0 ∷ []) c.in_ok-words.ensures)))

pub dealt-workers-requires-clause-config : goal.dealt-workers-requires-clause-config
dealt-workers-requires-clause-config c =
    let job : IsJob c.args.c (map items_of c.in_ok-traces.traces.items) = first_job c.args.c (map items_of c.in_ok-traces.traces.items) c.requires c.in_ok-traces.ensures.0 c.in_ok-traces.ensures.1 in
    subst (λ (ls : List LocalState). (i : ℕ) (d : LocalState) → i < length ls → c.args.c ≡ (get_or ls i d).config) (sym c.into_locals.ensures)
    (λ i d low. sym (config_at c.args.c (map items_of c.in_ok-traces.traces.items) job c.in_ok-system.system.state c.in_ok-system.ensures.opening c.in_ok-traces.ensures.1 i d low))

pub returns-clause-workers : goal.returns-clause-workers
returns-clause-workers c =
    let job : IsJob c.args.c (map items_of c.in_ok-traces.traces.items) = first_job c.args.c (map items_of c.in_ok-traces.traces.items) c.requires c.in_ok-traces.ensures.0 c.in_ok-traces.ensures.1 in
    in_order c.args.c (map items_of c.in_ok-traces.traces.items) job c.in_ok-system.system.state c.in_ok-system.ensures.opening c.in_ok-traces.ensures.1 c.in_ok-table.table.shared.table_id c.dealt-workers.result.items
    (c.dealt-workers.ensures ∙ ap (map (start_worker c.in_ok-table.table.shared.table_id)) c.into_locals.ensures)
    (record { id = c.in_ok-table.table.shared.table_id; config = c.args.c }) (λ i. record { id = c.in_ok-table.table.shared.table_id; config = c.args.c })

pub returns-clause-each : goal.returns-clause-each
returns-clause-each c = in_order_each (record { id = c.in_ok-table.table.shared.table_id; config = c.args.c }) c.dealt-workers.result.items (returns-clause-workers c)

pub returns-clause-fresh : goal.returns-clause-fresh
returns-clause-fresh c =
    let job : IsJob c.args.c (map items_of c.in_ok-traces.traces.items) = first_job c.args.c (map items_of c.in_ok-traces.traces.items) c.requires c.in_ok-traces.ensures.0 c.in_ok-traces.ensures.1 in
    fresh c.args.c (map items_of c.in_ok-traces.traces.items) job c.in_ok-system.system.state c.in_ok-system.ensures.opening c.in_ok-traces.ensures.1 c.in_ok-table.table.shared.table_id c.dealt-workers.result.items
    (c.dealt-workers.ensures ∙ ap (map (start_worker c.in_ok-table.table.shared.table_id)) c.into_locals.ensures)
