-- The lemmas of this crate that other crates use.
pub use Rattle.array_tables.proofs.handle_table.MakeBeforeUse.{fates_are_told, makes_are_shown}
pub use Rattle.array_tables.proofs.handle_table.NumberedDeeds.{sizes_are, slot_more}
pub use Rattle.array_tables.proofs.handle_table.SlotApplication.{slots_are_kept, slots_owe}
pub use Rattle.array_tables.proofs.handle_table.SlotTable.{kept}
pub use Rattle.array_tables.proofs.number_rings.Chunks.{rows_long}
pub use Rattle.array_tables.proofs.number_rings.Jobs.{rings_admitted, rings_fit}
pub use Rattle.array_tables.proofs.number_rings.RingRuns.{own_script, rings_show, scripts_long}
pub use Rattle.array_tables.proofs.number_rings.RingTable.{rings_owe}
pub use Rattle.array_tables.proofs.operations.Applied.{applied}
pub use Rattle.array_tables.proofs.operations.LinearizedRuns.{linearized, linearized_so_far}
pub use Rattle.array_tables.proofs.operations.Pairs.{◌▸◌}
pub use Rattle.array_tables.proofs.tag_table.TableApplication.{tables_are_kept, tables_so_far}
