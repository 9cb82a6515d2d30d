-- The lemmas of this crate that other crates use.
pub use Rattle.never_heap.proofs.BlockLists.{blocks_at, length_blocks, length_these, listed, these}
pub use Rattle.never_heap.proofs.BlockLists.{times_blocks, times_these}
pub use Rattle.never_heap.proofs.CommandBounds.{all_of_each, blocks_low, bounds_at, each_of_all}
pub use Rattle.never_heap.proofs.CommandBounds.{in_range, operands_in_range, operands_low}
pub use Rattle.never_heap.proofs.CommandBounds.{plain_fits, told_low}
pub use Rattle.never_heap.proofs.CycleGrowth.{after_more, after_nought, given_ended, given_more}
pub use Rattle.never_heap.proofs.CycleGrowth.{given_none, given_nought, given_past, graph_at_more}
pub use Rattle.never_heap.proofs.CycleGrowth.{graph_at_next, licensed_more, replay_parts}
pub use Rattle.never_heap.proofs.CycleGrowth.{right_work_more, taken_none}
pub use Rattle.never_heap.proofs.Effects.{Effect, cas_is, gets, makes, nothing, puts, puts_is}
pub use Rattle.never_heap.proofs.Effects.{stores, swaps, swaps_is}
pub use Rattle.never_heap.proofs.FieldStores.{count_with_field, count_with_object}
pub use Rattle.never_heap.proofs.FieldStores.{has_name_with_field, has_name_with_object}
pub use Rattle.never_heap.proofs.FieldStores.{object_with_field, object_with_object}
pub use Rattle.never_heap.proofs.FieldStores.{registers_with_field, registers_with_object}
pub use Rattle.never_heap.proofs.FieldStores.{threads_with_field}
pub use Rattle.never_heap.proofs.GraphMoves.{get_or_set, has_name_with_register, name_of_thread}
pub use Rattle.never_heap.proofs.GraphMoves.{object_with_register, objects_with}
pub use Rattle.never_heap.proofs.GraphMoves.{register_with_register, same_from}
pub use Rattle.never_heap.proofs.GraphMoves.{sixteen_with_register}
pub use Rattle.never_heap.proofs.HistoryGrowth.{legal_back, legal_history_more, part_append}
pub use Rattle.never_heap.proofs.HistoryGrowth.{replay_append, replay_more, starts_append}
pub use Rattle.never_heap.proofs.HistoryGrowth.{work_append}
pub use Rattle.never_heap.proofs.ItemsOfRuns.{all_come, begun, made, no_thread, none_left}
pub use Rattle.never_heap.proofs.ItemsOfRuns.{thread_low}
pub use Rattle.never_heap.proofs.LiveBlocksBound.{live_sum, once_below, within}
pub use Rattle.never_heap.proofs.LiveGrows.{grows}
pub use Rattle.never_heap.proofs.NameLists.{any_of_names, not_next, one_name, ref_name, same_itself}
pub use Rattle.never_heap.proofs.NameLists.{same_parts}
pub use Rattle.never_heap.proofs.NamesInValues.{refs, refs_weigh, register_in, registers_at}
pub use Rattle.never_heap.proofs.NamesInValues.{registers_long}
pub use Rattle.never_heap.proofs.NoFullRuns.{needs_no_licence, none_full}
pub use Rattle.never_heap.proofs.OneHistory.{other_part, own_part}
pub use Rattle.never_heap.proofs.OpeningLiveBlocks.{opening_live}
pub use Rattle.never_heap.proofs.PartLogs.{logged, parts_count, replies}
pub use Rattle.never_heap.proofs.ReachSteps.{nil_of, reachable_named, sound_start}
pub use Rattle.never_heap.proofs.ReachableNames.{field_there, reachable_closed, reachable_least}
pub use Rattle.never_heap.proofs.ReachableNames.{reachable_within}
pub use Rattle.never_heap.proofs.RunInduction.{walk_all}
pub use Rattle.never_heap.proofs.StartGraph.{count_of_start, has_shared, name_of_start}
pub use Rattle.never_heap.proofs.StartGraph.{object_of_start, register_of_start, registers_of_start}
pub use Rattle.never_heap.proofs.StartGraph.{threads_of_start}
pub use Rattle.never_heap.proofs.StepAnswers.{answered_by_step, blocks_answer, blocks_count}
pub use Rattle.never_heap.proofs.StepAnswers.{blocks_make, blocks_untold, makers_have_blocks}
pub use Rattle.never_heap.proofs.StepAnswers.{none_make, others_have_none, owes_told, step_not_full}
pub use Rattle.never_heap.proofs.StepChanges.{Change, change_of, count_of_other, has_field, make}
pub use Rattle.never_heap.proofs.StepChanges.{none, put, step_count, step_counts_one, step_threads}
pub use Rattle.never_heap.proofs.StepChanges.{store, swap, threads_put, with_object_threads}
pub use Rattle.never_heap.proofs.Sums.{all_named, sum_same}
pub use Rattle.never_heap.proofs.UnchangedBySteps.{next_is_new, replay_keeps, replay_names}
pub use Rattle.never_heap.proofs.UnchangedBySteps.{replay_shape, step_counts, step_names, step_past}
pub use Rattle.never_heap.proofs.UnchangedBySteps.{step_register, step_registers, thread_of}
pub use Rattle.never_heap.proofs.UnchangedBySteps.{threads_of_replay}
