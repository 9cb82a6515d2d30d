-- The lemmas of this crate that other crates use.
pub use Rattle.heap_machine.proofs.ChainLaws.{Chain-zero}
pub use Rattle.heap_machine.proofs.ChangingPhaseKnown.{changing_held, changing_knows, none_at_flip}
pub use Rattle.heap_machine.proofs.ChangingPhaseRules.{changing_rules, nobody_holds}
pub use Rattle.heap_machine.proofs.FreeBlocks.{free_builds, free_collects, free_counts, free_empty}
pub use Rattle.heap_machine.proofs.FreeBlocks.{free_few, free_frees, free_in_hand, free_lets_go}
pub use Rattle.heap_machine.proofs.FreeBlocks.{free_one_held, free_other, free_puts, free_stays}
pub use Rattle.heap_machine.proofs.FreeBlocks.{free_takes}
pub use Rattle.heap_machine.proofs.GateRows.{gate_at, gate_fits, gate_place, inside_low}
pub use Rattle.heap_machine.proofs.Gatings.{close_parts, closed_phase, entered_phase, gate_closing}
pub use Rattle.heap_machine.proofs.Gatings.{gate_enters, gate_leaves, gate_stays, inside_most}
pub use Rattle.heap_machine.proofs.Gatings.{inside_some, left_phase, open_parts, stand_out}
pub use Rattle.heap_machine.proofs.GreyBlocks.{first_is_grey, kept_other, kept_other_colour}
pub use Rattle.heap_machine.proofs.GreyBlocks.{scan_is_grey}
pub use Rattle.heap_machine.proofs.GreyEvents.{blackens, own_empty, pops, puts, shades, stays}
pub use Rattle.heap_machine.proofs.GreyEvents.{takes}
pub use Rattle.heap_machine.proofs.HeapAfter.{heap_of-after, length-after, op_place-at}
pub use Rattle.heap_machine.proofs.HeapAfter.{op_place_below, sum_fits, word_before}
pub use Rattle.heap_machine.proofs.HeapRules.{part_changed}
pub use Rattle.heap_machine.proofs.Held.{held_after, held_put}
pub use Rattle.heap_machine.proofs.OpeningFreeList.{free_opens}
pub use Rattle.heap_machine.proofs.PhaseRules.{from_mark, from_sweep, in_mark, phase_stays}
pub use Rattle.heap_machine.proofs.ReuseRules.{reuse_colour, reuse_goes, reuse_other, reuse_stays}
pub use Rattle.heap_machine.proofs.Solids.{solid_colour, solid_other, solid_payload, solid_place}
pub use Rattle.heap_machine.proofs.SweepRule.{sweep_claims, sweep_colour, sweep_dooms, sweep_frees}
pub use Rattle.heap_machine.proofs.SweepRule.{sweep_other, sweep_passes, sweep_stays}
pub use Rattle.heap_machine.proofs.Tricolours.{HeldAt, goes_on, held_as, held_colour, kept_colour}
pub use Rattle.heap_machine.proofs.Tricolours.{kept_payload, tricolour_other}
pub use Rattle.heap_machine.proofs.Turnovers.{changing_cycle, changing_kept, changing_phase}
pub use Rattle.heap_machine.proofs.Turnovers.{empty_gate, of_pass}
