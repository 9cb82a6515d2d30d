-- The lemmas of this crate that other crates use.
pub use Rattle.heap_system.proofs.accounting.OwedAndPaid.{works_append}
pub use Rattle.heap_system.proofs.accounting.RunBounds.{least, licensed, most, never_full}
pub use Rattle.heap_system.proofs.accounting.RunTally.{RunTallied, after, event_tallied}
pub use Rattle.heap_system.proofs.accounting.RunTally.{run_tallied, spent_is}
pub use Rattle.heap_system.proofs.accounting.TalliesOfParts.{tallies_of}
pub use Rattle.heap_system.proofs.accounting.TallyLaw.{past_by, reserved_for}
pub use Rattle.heap_system.proofs.accounting.ThreadAccounts.{local_reads}
pub use Rattle.heap_system.proofs.alone.Near.{makes_near, near_ends, owes_blocks, serves_near}
pub use Rattle.heap_system.proofs.alone.Near.{stated}
pub use Rattle.heap_system.proofs.alone.Runs.{lone_ends}
pub use Rattle.heap_system.proofs.alone.Serials.{least_of, serial_ends, single_few}
pub use Rattle.heap_system.proofs.history.FinishedRun.{done_run, done_turns, logged_all}
pub use Rattle.heap_system.proofs.history.FirstCommands.{as_many_commands, first_commands}
pub use Rattle.heap_system.proofs.history.LoggedTraces.{traces_logged}
pub use Rattle.heap_system.proofs.history.OrderGrowth.{entries_start_none, starts_after}
pub use Rattle.heap_system.proofs.history.OrderKept.{items_grow, left_after}
pub use Rattle.heap_system.proofs.history.TraceSums.{owed_works, sum_last, sum_more}
pub use Rattle.heap_system.proofs.invariant.Invariant.{Kept, LocalKept}
pub use Rattle.heap_system.proofs.invariant.InvariantByTurns.{cell, effect_here, next_is, sums}
pub use Rattle.heap_system.proofs.invariant.InvariantHolds.{here, opening_kept, run_kept, start_at}
pub use Rattle.heap_system.proofs.invariant.InvariantHolds.{start_count, turn_kept}
pub use Rattle.heap_system.proofs.invariant.RunLaws.{entries_right, kept_of}
pub use Rattle.heap_system.proofs.invariant.SeenAndKept.{IsSettled}
pub use Rattle.heap_system.proofs.openings.Jobs.{alone, both, both_of, config, lone, long}
pub use Rattle.heap_system.proofs.openings.Jobs.{long_in_bounds, two}
pub use Rattle.heap_system.proofs.openings.SystemStart.{length_starts, one_log, opened_traces}
pub use Rattle.heap_system.proofs.openings.TextLives.{job_of_text, one_owes, text_few}
pub use Rattle.heap_system.proofs.step_rows.LawsOfParts.{laws_of}
pub use Rattle.heap_system.proofs.work.EventsInARow.{ran_on}
pub use Rattle.heap_system.proofs.work.Rooms.{done_agree, done_room, logs_agree, openings_agree}
pub use Rattle.heap_system.proofs.work.Rooms.{runs_agree, state_without_room, turned_room}
pub use Rattle.heap_system.proofs.work.TurnFacts.{after_last, as_long, at_rest, reached_kept}
pub use Rattle.heap_system.proofs.work.TurnFacts.{rest_is, right_work, turn_facts, turn_made}
pub use Rattle.heap_system.proofs.work.TurnFacts.{turned_traces}
