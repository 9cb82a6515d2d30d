-- The lemmas of this crate that other crates use.
pub use Rattle.shared_heap.proofs.AllWorkers.{same_here, same_on}
pub use Rattle.shared_heap.proofs.DrawnStamps.{drawn_same, stamps_in_order}
pub use Rattle.shared_heap.proofs.EntryAfterSeen.{part_before}
pub use Rattle.shared_heap.proofs.Prefixes.{fits_one, fits_order}
pub use Rattle.shared_heap.proofs.RealTime.{has_invoked, invoked_before, line_of}
pub use Rattle.shared_heap.proofs.Timelines.{before_or_after, history_append, history_start}
pub use Rattle.shared_heap.proofs.Timelines.{invoked_append, invoked_start, part_start}
pub use Rattle.shared_heap.proofs.Timelines.{stamps_append, stamps_start}
pub use Rattle.shared_heap.proofs.Views.{starts_itself, starts_on}
pub use Rattle.shared_heap.proofs.WorkersInOrder.{in_order_each, nobody}
