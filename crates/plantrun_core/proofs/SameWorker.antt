-- A worker stays the worker of its thread and table (lemmas of `live_tables`).
pub use Rattle.live_tables.proofs.rows.Crews.{of_same, same_first, same_then}
