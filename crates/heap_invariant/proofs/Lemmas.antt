-- The lemmas of this crate that other crates use.
pub use Rattle.heap_invariant.proofs.cycle_tally.CountBounds.{counts_small}
pub use Rattle.heap_invariant.proofs.cycle_tally.CycleUnits.{few_units}
pub use Rattle.heap_invariant.proofs.cycle_tally.InUse.{one_of}
pub use Rattle.heap_invariant.proofs.cycle_tally.InitialHeaps.{opens}
pub use Rattle.heap_invariant.proofs.cycle_tally.KeptStart.{few_at_start}
pub use Rattle.heap_invariant.proofs.cycle_tally.Laws.{bound_of, run_kept}
pub use Rattle.heap_invariant.proofs.cycle_tally.MadeNames.{same_blocks}
pub use Rattle.heap_invariant.proofs.cycle_tally.OneThreadEvents.{others_twice, spends_here}
pub use Rattle.heap_invariant.proofs.cycle_tally.OneThreadEvents.{spends_twice}
pub use Rattle.heap_invariant.proofs.graph_relation.Loads.{name_shown}
pub use Rattle.heap_invariant.proofs.graph_relation.ObjectLayouts.{object_layout}
pub use Rattle.heap_invariant.proofs.graph_relation.OpeningWords.{opening_shows}
pub use Rattle.heap_invariant.proofs.graph_relation.Stores.{words_change}
pub use Rattle.heap_invariant.proofs.graph_relation.WordReads.{blocks_apart, length_read}
pub use Rattle.heap_invariant.proofs.graph_relation.WordReads.{owner_read, register_read}
pub use Rattle.heap_invariant.proofs.graph_relation.WordReads.{value_read, words_tell}
pub use Rattle.heap_invariant.proofs.name_invariant.ChangedTasks.{build_changed, scan_changed}
pub use Rattle.heap_invariant.proofs.name_invariant.ColourEvents.{blackens, frees, reads_word}
pub use Rattle.heap_invariant.proofs.name_invariant.ColourEvents.{shades_loaded, shades_read}
pub use Rattle.heap_invariant.proofs.name_invariant.Colours.{differ}
pub use Rattle.heap_invariant.proofs.name_invariant.Commands.{answers, decides, serves}
pub use Rattle.heap_invariant.proofs.name_invariant.FlipAndStart.{reached_kept}
pub use Rattle.heap_invariant.proofs.name_invariant.HeldBlocks.{some_is}
pub use Rattle.heap_invariant.proofs.name_invariant.KeptStates.{build_of, kept_not_held}
pub use Rattle.heap_invariant.proofs.name_invariant.KeptStates.{loaded_kept, scanned, value_refers}
pub use Rattle.heap_invariant.proofs.name_invariant.OpeningKept.{opening_is_kept}
pub use Rattle.heap_invariant.proofs.name_invariant.ReachedBlocks.{coloured_refers, dark_refers}
pub use Rattle.heap_invariant.proofs.name_invariant.ReachedBlocks.{flipped_black, marked_is}
pub use Rattle.heap_invariant.proofs.name_invariant.ReachedBlocks.{reached_black, reached_not_held}
pub use Rattle.heap_invariant.proofs.name_invariant.ReachedBlocks.{reached_solid, started_black}
pub use Rattle.heap_invariant.proofs.name_invariant.WordTargets.{root_in}
