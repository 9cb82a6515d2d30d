use Rattle.std.proofs.Common.{◌<◌, ◌∙◌, sym, subst}
use Rattle.block_store.specs.Places.{extent, words_count}
use Rattle.heap_machine.specs.declared.op.Op.TheVariants as ops
use Rattle.heap_machine.specs.Operations.{op_place}
use Rattle.shared_heap.proofs.Steps.{op_allowed}
use Rattle.shared_heap.proofs.port.PortMemory.act.Goals as goal

pub load-requires : goal.load-requires
load-requires c =
    let m = c.requires in
    (m.table, subst (λ o. op_place o < c.args.shared.now.table_id.words) c.in-Load.is m.place, op_allowed c.args.shared.now.key c.args.shared.now.table_id.slots c.args.self.now.seat.id m.one m.notes c.args.self.now.seat.me (ops.Load c.in-Load.place) m.going m.slots m.knows (sym c.in-Load.is ∙ m.wants) (subst (λ o. op_place o < words_count (extent m.one.local.config)) c.in-Load.is m.within))

pub swap-requires : goal.swap-requires
swap-requires c =
    let m = c.requires in
    (m.table, subst (λ o. op_place o < c.args.shared.now.table_id.words) c.in-Exchange.is m.place, op_allowed c.args.shared.now.key c.args.shared.now.table_id.slots c.args.self.now.seat.id m.one m.notes c.args.self.now.seat.me (ops.Exchange c.in-Exchange.place c.in-Exchange.new) m.going m.slots m.knows (sym c.in-Exchange.is ∙ m.wants) (subst (λ o. op_place o < words_count (extent m.one.local.config)) c.in-Exchange.is m.within))

pub compare_exchange-requires : goal.compare_exchange-requires
compare_exchange-requires c =
    let m = c.requires in
    (m.table, subst (λ o. op_place o < c.args.shared.now.table_id.words) c.in-CompareExchange.is m.place, op_allowed c.args.shared.now.key c.args.shared.now.table_id.slots c.args.self.now.seat.id m.one m.notes c.args.self.now.seat.me (ops.CompareExchange c.in-CompareExchange.place c.in-CompareExchange.old c.in-CompareExchange.new) m.going m.slots m.knows (sym c.in-CompareExchange.is ∙ m.wants) (subst (λ o. op_place o < words_count (extent m.one.local.config)) c.in-CompareExchange.is m.within))

pub fetch_add-requires : goal.fetch_add-requires
fetch_add-requires c =
    let m = c.requires in
    (m.table, subst (λ o. op_place o < c.args.shared.now.table_id.words) c.in-FetchAdd.is m.place, op_allowed c.args.shared.now.key c.args.shared.now.table_id.slots c.args.self.now.seat.id m.one m.notes c.args.self.now.seat.me (ops.FetchAdd c.in-FetchAdd.place c.in-FetchAdd.by) m.going m.slots m.knows (sym c.in-FetchAdd.is ∙ m.wants) (subst (λ o. op_place o < words_count (extent m.one.local.config)) c.in-FetchAdd.is m.within))

pub fetch_sub-requires : goal.fetch_sub-requires
fetch_sub-requires c =
    let m = c.requires in
    (m.table, subst (λ o. op_place o < c.args.shared.now.table_id.words) c.in-FetchSub.is m.place, op_allowed c.args.shared.now.key c.args.shared.now.table_id.slots c.args.self.now.seat.id m.one m.notes c.args.self.now.seat.me (ops.FetchSub c.in-FetchSub.place c.in-FetchSub.by) m.going m.slots m.knows (sym c.in-FetchSub.is ∙ m.wants) (subst (λ o. op_place o < words_count (extent m.one.local.config)) c.in-FetchSub.is m.within))
