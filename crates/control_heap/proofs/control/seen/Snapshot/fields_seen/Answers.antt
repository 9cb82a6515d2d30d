use Rattle.std.proofs.Common.{Result, Ok, Err, IfOk}
use Rattle.control_heap.specs.Images.{Image}
use Rattle.control_heap.proofs.SeenRead.{fields_seen_now}
use Rattle.control_heap.proofs.control.seen.Snapshot.fields_seen.Goals as goal

pub all_seen-requires-clause-bounds : goal.all_seen-requires-clause-bounds
all_seen-requires-clause-bounds c = c.self.invariant.bounds

pub all_seen-requires-clause-there : goal.all_seen-requires-clause-there
all_seen-requires-clause-there c = c.self.invariant.there

ok_map : {A E : Type 0} {P Q : A → Type 0} → ((x : A) → P x → Q x) → (r : Result A E) → IfOk r P → IfOk r Q
ok_map f (Ok x) p = f x p
ok_map f (Err e) p = tt

pub returns-clause-fields : goal.returns-clause-fields
returns-clause-fields c =
    let i : Image = record { config = c.self.inside.config; words = c.self.inside.words } in
    ok_map (λ v is. λ r a has at. fields_seen_now i c.args.self.now c.self.view_is c.args.reference.block v.items is r a has at) c.all_seen.result c.all_seen.ensures.read
