use Rattle.std.proofs.Common.{map, Some, Ok, Err, sym, subst, arith}
use Rattle.block_store.specs.declared.Value.TheVariants.{Ref}
use Rattle.heap_structures.proofs.cell_arrays.Answered.{room_less}
use Rattle.heap_structures.proofs.rings.NumberRings.{Got, got_none, got_number, is_target}
use Rattle.heap_structures.proofs.rings.Rounds.{not_stopped}
use Rattle.heap_structures.proofs.records.Records.get.Goals as goal

pub returns-in_err-get : goal.returns-in_err-get
returns-in_err-get c s g ns has is =
    let room = c.in_ok-admit.ensures.admitted in
    let may = c.may_load.ensures.yes room.0 in
    absurd (not_stopped 1 _ c.args.heap.now _ c.in_err-get.field-0.0
    (room_less 2 1 c.args.heap.now (omega arith) room.1)
    (is_target c.args.self.now.ring.cells c.args.d may.0 may.1 may.2)
    (c.in_err-get.ensures s g (map Ref is.names) has is.ring).0)

pub returns-in_default : goal.returns-in_default
returns-in_default c s g ns has is =
    let may = c.may_load.ensures.yes c.in_ok-admit.ensures.admitted.0 in
    got_none s c.args.heap.now c.get.new.heap g c.args.self.now ns is c.args.d c.args.i may.0 may.2
    c.in_ok-get.field-0 (c.in_ok-get.ensures s g (map Ref is.names) has is.ring)
    c.in_default.is

pub returns-in_err-value : goal.returns-in_err-value
returns-in_err-value c s g ns has is =
    let room = c.in_ok-admit.ensures.admitted in
    let may = c.may_load.ensures.yes room.0 in
    absurd (got_number s c.args.heap.now c.get.new.heap g c.args.self.now ns is c.args.d c.args.i
    may.0 may.2 c.in_ok-get.field-0 (c.in_ok-get.ensures s g (map Ref is.names) has is.ring)
    c.quiet_commands_keep_graphs.ensures room.1 c.in-Some.field-0 c.in-Some.is c.get-2.new.self _
    (Err c.in_err-value.field-0.0) c.in_err-value.ensures.config c.in_err-value.ensures.returned)

pub returns : goal.returns
returns c s g ns has is =
    let room = c.in_ok-admit.ensures.admitted in
    let may = c.may_load.ensures.yes room.0 in
    let v = c.in_ok-get.field-0 in
    let e = c.in_ok-get.ensures s g (map Ref is.names) has is.ring in
    let t = got_number s c.args.heap.now c.get.new.heap g c.args.self.now ns is c.args.d c.args.i
    may.0 may.2 v e c.quiet_commands_keep_graphs.ensures room.1 c.in-Some.field-0 c.in-Some.is
    c.get-2.new.self _ (Ok c.in_ok-value.value) c.in_ok-value.ensures.config
    c.in_ok-value.ensures.returned in
    subst (λ n. Got s c.args.heap.now c.get.new.heap g c.args.self.now ns is c.args.d c.args.i may.0
    may.2 v e c.get-2.new.self (Some n)) (sym (c.number_in.ensures t.0 t.1 t.2)) t.3
