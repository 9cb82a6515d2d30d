use Rattle.std.proofs.Common.{◌∙◌, subst}
use Rattle.saved_heap.specs.heap_pictures.Pictures.{view}
use Rattle.saved_heap.specs.Walks.{Reads, state_of}
use Rattle.saved_heap.proofs.Pictured.{item_read}
use Rattle.saved_heap.proofs.walk.item_of.Goals as goal

pub returns : goal.returns
returns c =
    item_read c.args.from.now (state_of c.args.found.now) (state_of c.values.new.self) c.args.seen
    (view (record { kind = c.kind_of-kind.result; fields = c.in_ok-fields.fields })) c.in_ok-seen_fields.seen_fields.items c.in_ok-seen_fields.ensures.few
    (subst (λ l. Reads (state_of c.args.found.now) (state_of c.values.new.self) l c.in_ok-fields.fields.items) c.deref.ensures.value c.in_ok-fields.ensures)
    (λ r a st at. (c.kind_of-kind.ensures ∙ c.shape_seen.ensures r a st at, c.in_ok-seen_fields.ensures.fields r a st at))
