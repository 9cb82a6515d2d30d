use Rattle.std.proofs.Common.{sym, subst, arith}
use Rattle.shared_heap.specs.Shared.{held_of}
use Rattle.shared_heap.specs.Pending.{HasAnnounced}
use Rattle.shared_heap.proofs.Asking.{announced, begin_objects, begin_units, has_room, unspent}
use Rattle.shared_heap.proofs.AnnouncedCommands.{gift_here}
use Rattle.shared_heap.proofs.heap.announce.Goals as goal

pub compare_exchange_with-requires : goal.compare_exchange_with-requires
compare_exchange_with-requires c =
    let s = c.args.port.now.seat in
    let m = c.requires.may in (
      c.requires.table.0,
      omega (arith, c.requires.table.2),
      gift_here c.args.shared.now.key c.args.shared.now.table_id.slots s.id (held_of c.args.local.now s.me.0.threads) s.me.0.notes s.me c.args.command c.requires.table.1 m.kept.knows m.bounds (has_room s.me s.table_id c.args.local.now m.count m.objects m.kept c.args.command m.bounds m.left) m.kept.done,
    )

pub begin-requires-clause-settled : goal.begin-requires-clause-settled
begin-requires-clause-settled c =
    let s = c.args.port.now.seat in
    let m = c.requires.may in
    unspent s.me s.table_id c.args.local.now m.count m.objects m.kept

pub begin-requires-clause-units : goal.begin-requires-clause-units
begin-requires-clause-units c =
    let s = c.args.port.now.seat in
    let m = c.requires.may in
    begin_units s.me s.table_id c.args.local.now m.count m.objects m.kept c.args.command m.bounds m.left c.compare_exchange_with.new.seat.me _ c.compare_exchange_with.ensures.2

pub begin-requires-clause-objects : goal.begin-requires-clause-objects
begin-requires-clause-objects c =
    let s = c.args.port.now.seat in
    let m = c.requires.may in
    begin_objects s.me s.table_id c.args.local.now m.count m.objects m.kept c.args.command m.bounds m.left c.compare_exchange_with.new.seat.me _ c.compare_exchange_with.ensures.2

pub returns : goal.returns
returns c =
    let s = c.args.port.now.seat in
    let now = c.compare_exchange_with.new.seat in
    subst (λ x. HasAnnounced s.me s.table_id c.args.local.now c.args.command now.me now.table_id x) (sym c.begin.ensures)
    (announced s.me s.table_id c.args.local.now c.args.command c.requires.may now.me _ c.compare_exchange_with.ensures.2 now.table_id c.compare_exchange_with.ensures.0)
