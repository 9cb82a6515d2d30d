use Rattle.std.proofs.Common.{arith}
use Rattle.live_tables.proofs.handles.Doing.{keeps_on, names_of}
use Rattle.live_tables.proofs.handles.Makes.{made_few}
use Rattle.live_tables.proofs.handles.kind.HandlesTable.next.Goals as goal

pub made_next-made-requires : goal.made_next-made-requires
made_next-made-requires c =
    let e = c.requires in omega (arith, e.3.made_so, made_few 0 e.0.done, e.4)

pub slots_next-slots-requires : goal.slots_next-slots-requires
slots_next-slots-requires c =
    let e = c.requires in names_of _ e.2 _ _ e.0 c.args.request.now e.5

pub returns : goal.returns
returns c w k t is next =
    keeps_on w c.args.request.now c.args.held
    (record { made = c.made_next-made.result; slots = c.slots_next-slots.result })
    c.made_next-made.ensures c.slots_next-slots.ensures k t w.done is
