-- Events come closer to a link one by one, and a row that is not at one may read any word.
use Rattle.std.proofs.Common.{◌≡◌, ◌≢◌, ℕ, ◌+◌, ◌≤◌, ◌==◌, nat_lt, true, false, inl, inr, refl, arith, sym, subst, cond, Bool}
use Rattle.std.proofs.lemmas.Bool.{cases_Bool}
use Rattle.block_store.specs.declared.Payload.{Payload}
use Rattle.block_store.specs.declared.Payload.TheVariants as holds
use Rattle.block_store.specs.declared.Value.{Value}
use Rattle.block_store.specs.declared.Shape.{Shape}
use Rattle.block_store.specs.Payloads.{target}
use Rattle.block_store.specs.Places.{Extent}
use Rattle.block_store.specs.Widths.{payloads}
use Rattle.never_heap.specs.declared.Command.{Command}
use Rattle.never_heap.specs.declared.Command.TheVariants as commands
use Rattle.heap_machine.specs.declared.pass.Pass.{Pass}
use Rattle.heap_machine.specs.declared.op.Op.{Op}
use Rattle.heap_machine.specs.declared.op.Op.TheVariants as ops
use Rattle.heap_machine.specs.Operations.{op_at}
use Rattle.grey_steps.specs.declared.rows.GreyRow.{GreyRow}
use Rattle.grey_steps.specs.Rows as marking
use Rattle.grey_steps.specs.Rows.{grey_over}
use Rattle.barrier_steps.specs.declared.rows.FieldRow.{FieldRow}
use Rattle.barrier_steps.specs.declared.rows.FieldRow.TheVariants.{LoadRegister, LoadShape, LoadLink, LoadField, LoadOwner, Shade, Store, StoreConstant, IdleLook, Answered}
use Rattle.barrier_steps.specs.declared.rows.Purpose.TheVariants as wants
use Rattle.barrier_steps.specs.declared.rows.FieldStore.{FieldStore}
use Rattle.barrier_steps.specs.declared.rows.FieldStore.TheVariants.{Moved, Pending, InField, Exchanged, Compared}
use Rattle.barrier_steps.specs.Walks.{shape_length}
use Rattle.barrier_steps.specs.Rows.{FieldState, field_got, row_want, row_got, before_store, in_barrier, after_object, after_shape, after_field, after_said, after_owner, after_store, shaded_for, stored_word, payload_in, shape_in, object_in}
use Rattle.barrier_steps.specs.Fits.{LinkReads}
use Rattle.heap_tests.specs.machine_tests.Links.{loads_before, before_link}

before_stored : (p : Pass) (k : Command) (store : FieldStore) → 20 ≤ before_link k (before_store p store) + 1
before_stored p k store = elim (cases_Bool (shaded_for p (stored_word store) == 0)) [
  | inl e ↦ rw e (omega arith)
  | inr e ↦ rw e (omega arith)
]

in_barrier_far : (k : Command) (r : GreyRow) (store : FieldStore) → 20 ≤ before_link k (in_barrier r store) + 1
in_barrier_far k r store = elim (cases_Bool (grey_over r)) [
  | inl e ↦ rw e (omega arith)
  | inr e ↦ rw e (omega arith)
]

loads_few : (k : Command) → loads_before k + 2 ≤ 21
loads_few (commands.Get d s i) = omega arith
loads_few (commands.Put s i v) = omega arith
loads_few (commands.Swap s i v) = omega arith
loads_few (commands.Cas s i a v) = omega arith
loads_few _ = omega arith

object_near : (k : Command) (v : Payload) → loads_before k + 2 ≤ before_link k (after_object v) + 1
object_near k holds.Nil = loads_few k
object_near k (holds.Int n) = loads_few k
object_near k (holds.Block x) = omega arith

shape_near : (e : Extent) (p : Pass) (k : Command) (x : ℕ) (f : Shape) → loads_before k + 1 ≤ before_link k (after_shape e p k x f) + 1
shape_near e p (commands.Get d s i) x f = omega arith
shape_near e p (commands.Put s i v) x f = elim (cases_Bool (nat_lt i (shape_length f))) [
  | inl y ↦ rw y (omega arith)
  | inr n ↦ rw n (omega arith)
]
shape_near e p (commands.Swap s i v) x f = elim (cases_Bool (nat_lt i (shape_length f))) [
  | inl y ↦ rw y (omega arith)
  | inr n ↦ rw n (omega arith)
]
shape_near e p (commands.Cas s i a v) x f = elim (cases_Bool (nat_lt i (shape_length f))) [
  | inl y ↦ rw y (omega arith)
  | inr n ↦ rw n (omega arith)
]
shape_near e p _ x f = omega arith

said_far : (k : Command) (w : ℕ) (v : Payload) → 20 ≤ before_link k (after_said w v) + 1
said_far k w holds.Nil = omega arith
said_far k w (holds.Int n) = omega arith
said_far k w (holds.Block x) = omega arith

field_far : (k : Command) (w : ℕ) (v : Payload) → 20 ≤ before_link k (after_field w v) + 1
field_far k w holds.Nil = omega arith
field_far k w (holds.Int n) = omega arith
field_far k w (holds.Block x) = omega arith

owner_far : (p : Pass) (k : Command) (w : ℕ) (v : Value) → 20 ≤ before_link k (after_owner p k w v) + 1
owner_far p (commands.Say s) w v = omega arith
owner_far p k w v = before_stored p k (Pending w v)

store_far : (k : Command) (store : FieldStore) (w : ℕ) → 20 ≤ before_link k (after_store store w) + 1
store_far k (Exchanged way word) w = field_far k w (payload_in w)
store_far k _ w = omega arith

pub goes_down : (e : Extent) (p : Pass) (k : Command) (row : FieldRow) (w : ℕ) → before_link k row ≤ before_link k (row_got e p k row w) + 1
goes_down e p k (LoadRegister wants.Copied) w = before_stored p k (Moved w)
goes_down e p k (LoadRegister wants.Object) w = object_near k (payload_in w)
goes_down e p k (LoadRegister (wants.Expected way)) w = omega arith
goes_down e p k (LoadRegister (wants.Stored way)) w = omega arith
goes_down e p k (LoadRegister wants.First) w = omega arith
goes_down e p k (LoadRegister (wants.Second word)) w = omega arith
goes_down e p k (LoadRegister wants.Shown) w = said_far k w (payload_in w)
goes_down e p k (LoadShape x) w = shape_near e p k x (shape_in w)
goes_down e p k (LoadLink way word) w = omega arith
goes_down e p k (LoadField way) w = field_far k w (payload_in w)
goes_down e p k (LoadOwner word) w = owner_far p k word (object_in w)
goes_down e p k (Shade r store) w = in_barrier_far k (marking.row_got (payloads e.width) p.threads p.cycle r w) store
goes_down e p k (Store store) w = store_far k store w
goes_down e p k _ w = omega arith

pub goes_on : (e : Extent) (s : FieldState) (w n : ℕ) (now : FieldState) → now ≡ field_got e s w → n ≤ before_link s.command s.row → n ≤ before_link now.command now.row + 1
goes_on e s w n now is low = subst (λ (x : FieldState). n ≤ before_link x.command x.row + 1) (sym is) (omega (arith, low, goes_down e s.pass s.command s.row w))

pub reads : (e : Extent) (p : Pass) (k : Command) (row : FieldRow) (w n : ℕ) (op : Op) → n ≤ before_link k row → op ≡ op_at e (row_want e p k row) → ((i : ℕ) → n ≡ 0 → op ≡ ops.Load i → target w ≢ 0) → LinkReads row w
reads e p k (LoadLink way word) w n op low is refers = refers _ (omega (arith, low)) is
reads e p k _ w n op low is refers = tt
