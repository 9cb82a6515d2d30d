use Rattle.std.proofs.Common.{◌≡◌, ◌+◌, ◌-◌, refl, ap, sym, ◌∙◌, arith}
use Rattle.block_store.specs.declared.Config.{Config}
use Rattle.block_store.specs.Places.{extent, words_count}
use Rattle.shared_heap.specs.Shared.{held_of}
use Rattle.shared_heap.specs.Workers.{HeapState, WorkerState}
use Rattle.shared_heap.proofs.Draws.{draw_here}
use Rattle.shared_heap.proofs.DrawnStamps.{has_drawn, kept_drawn}
use Rattle.shared_heap.proofs.heap.SharedHeap.stamp.Goals as goal

pub fetch_add-requires : goal.fetch_add-requires
fetch_add-requires c =
    let w = c.who.inside in
    let k = c.who.invariant.0 in
    let shared = c.self.inside.table.shared in
    let table : w.port.seat.table_id ≡ shared.table_id = ap (λ (x : WorkerState). x.heap) c.who.view_is ∙ c.requires ∙ sym (ap (λ (x : HeapState). x.id) c.self.view_is) in
    let last : c.word_count-place.result - 1 ≡ words_count (extent shared.key.config) = omega (arith, c.self.invariant.2, c.word_count-place.ensures, ap (λ (x : Config). words_count (extent x)) c.self.invariant.0) in
    (table, omega (arith, c.self.invariant.2, c.word_count-place.ensures), draw_here shared.key shared.table_id.slots w.port.seat.id (held_of w.local w.port.seat.me.0.threads) w.port.seat.me.0.notes w.port.seat.me _ c.self.invariant.1 k.knows k.done last)

pub returns : goal.returns
returns c =
    let w = c.who.inside in
    has_drawn w.port.seat.me w.port.seat.table_id w.local w.count w.objects c.who.invariant.0 c.fetch_add.result c.fetch_add.new.seat.me c.fetch_add.new.seat.table_id c.fetch_add.ensures.0 c.fetch_add.ensures.2 c.args.who.now _ c.who.view_is refl

pub invariant_of-who : goal.invariant_of-who
invariant_of-who c =
    let w = c.who.inside in (
      kept_drawn w.port.seat.me w.port.seat.table_id w.local w.count w.objects c.who.invariant.0 c.fetch_add.result c.fetch_add.new.seat.me c.fetch_add.new.seat.table_id c.fetch_add.ensures.0 c.fetch_add.ensures.2,
      c.who.invariant.1,
    )
