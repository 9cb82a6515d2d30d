use Rattle.heap_system.proofs.invariant.InvariantHolds.{run_kept}
use Rattle.heap_system.proofs.step_rows.LawsOfParts.{laws_of}
use Rattle.heap_invariant.proofs.Lemmas.{blocks_apart, reached_kept, reached_not_held, reached_solid}
use Rattle.heap_invariant.specs.name_invariant.States.{Kept}
use Rattle.never_heap.specs.Histories.{replay}
use Rattle.heap_invariant.specs.graph_relation.Events.{pending_registers}
use Rattle.heap_invariant.specs.graph_relation.Words.{block_words}
use Rattle.heap_system.specs.Machines.{heap_in}
use Rattle.heap_system.specs.Pictures.{tasks_in, kept_state}
use Rattle.heap_system.proofs.step_rows.LoadedBlocks.{loaded_safe, pending_get}
use Rattle.heap_system.proofs.laws.words_show_the_order.Goals as goal

pub returns-clause-words : goal.returns-clause-words
returns-clause-words _ c r is = (run_kept c is.traces (laws_of c) is.job is.turns r is.by_turns).names.follows.shows

pub returns-clause-reached : goal.returns-clause-reached
returns-clause-reached _ c r is a reached = reached_kept c (kept_state c r) (run_kept c is.traces (laws_of c) is.job is.turns r is.by_turns).names a reached

pub returns-clause-older : goal.returns-clause-older
returns-clause-older _ c r is t q tl ql pending = (run_kept c is.traces (laws_of c) is.job is.turns r is.by_turns).names.older t q tl ql pending

pub returns-clause-loads : goal.returns-clause-loads
returns-clause-loads _ c r is = (run_kept c is.traces (laws_of c) is.job is.turns r is.by_turns).names.follows

pub returns-clause-free : goal.returns-clause-free
returns-clause-free _ c r is x reached = reached_solid c (kept_state c r) (run_kept c is.traces (laws_of c) is.job is.turns r is.by_turns).names x reached

pub returns-clause-not_held : goal.returns-clause-not_held
returns-clause-not_held _ c r is x t b reached tl builds = reached_not_held c (kept_state c r) (run_kept c is.traces (laws_of c) is.job is.turns r is.by_turns).names x t b reached tl builds

pub returns-clause-loaded : goal.returns-clause-loaded
returns-clause-loaded _ c r is t x tl loaded = loaded_safe c (kept_state c r) (run_kept c is.traces (laws_of c) is.job is.turns r is.by_turns).names t x tl loaded

pub returns-clause-apart : goal.returns-clause-apart
returns-clause-apart _ c r is a b o p ka kb ol pl e =
    blocks_apart c.width c.threads c.blocks (Kept (kept_state c r)) (replay c r.order) r.names.at (block_words (heap_in c r.state)) (pending_registers (λ t. (tasks_in c r.state t).loading))
    (run_kept c is.traces (laws_of c) is.job is.turns r is.by_turns).names.follows.shows a b o p ka kb ol pl e

pub returns-clause-pending : goal.returns-clause-pending
returns-clause-pending _ c r is t q tl ql pending = pending_get c is.traces r (run_kept c is.traces (laws_of c) is.job is.turns r is.by_turns) t tl q pending
