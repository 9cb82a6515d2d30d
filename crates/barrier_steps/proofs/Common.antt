-- The names of other modules that the proofs of this crate cite, passed on from one place. Declares
-- nothing.
pub use Rattle.barrier_steps.specs.Deciding.{refers, length_decides, register_decides, is_deciding}
pub use Rattle.barrier_steps.specs.Fits.{is_row_of, FitsAt, IsThread, IsWalk, IsThere, IsBarrier, is_store_of, StoreFits, is_wanted_by, FieldFits, ReadsAt, FieldReads, IsLoaded, RowFits}
pub use Rattle.barrier_steps.specs.Operands.{from_register, other_register, field_index, to_register, answered_register, is_say, takes_field, constant_word, is_get, goes_to_field, is_swap, is_cas, answers_value, stores_in_field, expected_register, is_put, looks_at_object, sets_constant, is_mov, is_same, is_idle, or_zero, reads_in}
pub use Rattle.barrier_steps.specs.Projection.{row_loading, row_event, after_event, InHandAt, IsAt, store_loading, wanted_loading, register_event, store_event, constant_set, walk_load, object_on, object_load}
pub use Rattle.barrier_steps.specs.Replies.{answer, IsWordOf, ShownAt, Promises, NameShown, ShowsAt, due_at, KnownAt, graph_after, ShapeShown, FieldFound}
pub use Rattle.barrier_steps.specs.Rows.{payload_in, shape_in, is_taken, before_store, first_row, row_got, field_reply, field_decided, after_object, after_shape, after_field, after_owner, after_register, after_store, on_way, way_from, way_on, row_in_hand, payload_or_nil, after_said, FieldState, register_place, stored_word, shaded_for, at_first_row, register_wanted, store_want, row_want, field_got, shades, field_want, field_place, word_stored, shape_or_empty, reads_beside_graph, in_barrier, at_block, field_in_hand, object_in, held_before_store, object_or_nil}
pub use Rattle.barrier_steps.specs.Walks.{shape_length, links_to, link_at, field_at, ordinal_at}
pub use Rattle.barrier_steps.specs.declared.rows.FieldRow.{FieldRow}
pub use Rattle.barrier_steps.specs.declared.rows.FieldRow.TheVariants.{LoadRegister, LoadShape, LoadLink, LoadField, LoadOwner, Shade, Store, StoreConstant, IdleLook, Answered}
pub use Rattle.barrier_steps.specs.declared.rows.FieldStore.{FieldStore}
pub use Rattle.barrier_steps.specs.declared.rows.FieldStore.TheVariants.{Moved, Pending, InField, Exchanged, Compared}
pub use Rattle.barrier_steps.specs.declared.rows.Purpose.{Purpose}
pub use Rattle.barrier_steps.specs.declared.rows.Purpose.TheVariants.{Copied, Object, Expected, Stored, First, Second, Shown}
pub use Rattle.barrier_steps.specs.declared.rows.TreePath.{TreePath}
pub use Rattle.block_store.proofs.Functions.{changed_map, changed_self}
pub use Rattle.block_store.proofs.PayloadWords.{payload-code, target-number, target-nil, reads as payload_reads}
pub use Rattle.block_store.specs.Colours.{white_word, is_grey}
pub use Rattle.block_store.specs.Counts.{changed}
pub use Rattle.block_store.specs.Heaps.{Heap, put_at}
pub use Rattle.block_store.specs.Payloads.{target, payload_of, payload_code, IsPayload}
pub use Rattle.block_store.specs.Phases.{is_sweep, cycle_of}
pub use Rattle.block_store.specs.Places.{Extent, extent, PayloadOf, Phase, ColourOf, Cursor, in_range, is_block, IsBlock}
pub use Rattle.block_store.specs.Registers.{register_block, register_slot, registers_end}
pub use Rattle.block_store.specs.Shapes.{IsShape, shape_of}
pub use Rattle.block_store.specs.Widths.{payloads}
pub use Rattle.block_store.specs.declared.Config.{Config}
pub use Rattle.block_store.specs.declared.Name.{Name}
pub use Rattle.block_store.specs.declared.Payload.{Payload}
pub use Rattle.block_store.specs.declared.Shape.{Shape}
pub use Rattle.block_store.specs.declared.TheConstants.{REGISTERS}
pub use Rattle.block_store.specs.declared.Value.{Value}
pub use Rattle.block_store.specs.declared.Width.{Width}
pub use Rattle.grey_steps.proofs.MarkUnits.{block_stays, shading_goes_on}
pub use Rattle.grey_steps.specs.MarkUnits.{is_shading, block_stored}
pub use Rattle.grey_steps.specs.Rows.{grey_over, grey_in_hand, row_got as marking_got}
pub use Rattle.grey_steps.specs.declared.rows.GreyRow.{GreyRow}
pub use Rattle.grey_steps.specs.declared.rows.GreyRow.TheVariants.{TakeOwn, ShadeStored, PutOwn, Shaded}
pub use Rattle.heap_machine.specs.WorkInHand.{holds_nothing, sweep_held, WorkInHand, grey_held, tricolour_held, free_held}
pub use Rattle.heap_machine.specs.Operations.{place_of, heap_after, Exchange, Fits}
pub use Rattle.heap_machine.specs.Readings.{CanHold, IsHeld, StoresHeld}
pub use Rattle.heap_machine.specs.Solid.{NotFree}
pub use Rattle.heap_machine.specs.declared.pass.Pass.{Pass}
pub use Rattle.never_heap.specs.Bounds.{IsCommandInRange}
pub use Rattle.never_heap.specs.Graphs.{Graph, object_of, register_of, with_register, with_field, ObjectKind, Record, Array, field_of, mutator_at}
pub use Rattle.never_heap.specs.Steps.{step, same_value, swapped, blocks_of, at_object, at_field}
pub use Rattle.never_heap.specs.declared.Command.{Command}
pub use Rattle.never_heap.specs.declared.Command.TheVariants.{New, Arr, Set, Mov, Get, Put, Len, Same, Say, Swap, Cas, Idle}
pub use Rattle.never_heap.specs.declared.Reply.{Reply}
pub use Rattle.heap_invariant.specs.graph_relation.Events.{unloaded, GraphState, value_in, Follows, ValueLoad, Loading, Event, IsPrompt, value_at}
pub use Rattle.heap_invariant.specs.graph_relation.Layouts.{shape_part, kind_shape}
pub use Rattle.heap_invariant.specs.graph_relation.GraphOfWords.{heads, IsSized}
pub use Rattle.heap_invariant.specs.graph_relation.Words.{block_words, value_word}
pub use Rattle.std.proofs.lemmas.Bool.{cases_Bool, cases_eq, ne_eqb, lt-ltb, le-leb, eqb-false, or_right, false_from_ne_true, not-true}
