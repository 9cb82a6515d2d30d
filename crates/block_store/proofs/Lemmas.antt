-- The lemmas of this crate that other crates use.
pub use Rattle.block_store.proofs.ColourWords.{black-next, black-white, black_grey, black_solid}
pub use Rattle.block_store.proofs.ColourWords.{colour-black, colour-code, colours, free-black}
pub use Rattle.block_store.proofs.ColourWords.{free-white, free_free, free_grey, free_is}
pub use Rattle.block_store.proofs.ColourWords.{free_not_grey, free_word-zero, grey-black}
pub use Rattle.block_store.proofs.ColourWords.{grey-white, grey_grey, kind-zero, link-black}
pub use Rattle.block_store.proofs.ColourWords.{link-free, link-grey, not_free_black, not_free_grey}
pub use Rattle.block_store.proofs.ColourWords.{not_free_white, not_grey_black, not_grey_free}
pub use Rattle.block_store.proofs.ColourWords.{not_grey_white, reads, white-next, white_black}
pub use Rattle.block_store.proofs.ColourWords.{white_grey, white_solid}
pub use Rattle.block_store.proofs.Functions.{bit_le, bit_one, bit_zero, changed_both, changed_else}
pub use Rattle.block_store.proofs.Functions.{changed_here, changed_map, changed_self, funext}
pub use Rattle.block_store.proofs.Functions.{total_bits, total_changed, total_none, total_part}
pub use Rattle.block_store.proofs.Functions.{total_parts, total_same}
pub use Rattle.block_store.proofs.Indexes.{back, below, block_in, hand_block, heap_of-put}
pub use Rattle.block_store.proofs.Indexes.{one_place}
pub use Rattle.block_store.proofs.PayloadWords.{number-reference, number_positive, one_number}
pub use Rattle.block_store.proofs.PayloadWords.{one_reference, payload-code, reference_positive}
pub use Rattle.block_store.proofs.PayloadWords.{target-nil, target-number, target-reference}
pub use Rattle.block_store.proofs.PhaseWords.{closed-code, cycle-code, inside-code, phase-code}
pub use Rattle.block_store.proofs.PhaseWords.{phase-less, phase-more, sweep-code}
pub use Rattle.block_store.proofs.Registers.{arrays_small, end_few, end_more, in_array, many}
pub use Rattle.block_store.proofs.Registers.{not_root, one_register, one_root, ordinal_low}
pub use Rattle.block_store.proofs.Registers.{ordinal_of, own_array, register_low, register_some}
pub use Rattle.block_store.proofs.Registers.{root_end, root_first, root_in, root_is, root_low}
pub use Rattle.block_store.proofs.Registers.{root_ordinal, root_some, slot_low, thread_low}
pub use Rattle.block_store.proofs.Registers.{thread_of, wide}
pub use Rattle.block_store.proofs.ShapeWords.{shape-code}
pub use Rattle.block_store.proofs.Totals.{all_times, none_above, times_append, times_more}
pub use Rattle.block_store.proofs.Totals.{total_below, total_least, total_nought, total_ones}
pub use Rattle.block_store.proofs.Totals.{total_plus}
pub use Rattle.block_store.proofs.WideWords.{one_wide, read_wide}
