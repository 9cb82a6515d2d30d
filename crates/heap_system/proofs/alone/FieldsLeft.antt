-- How many events a command that allocates nothing has left at most, before it goes out: each event
-- leaves fewer.
use Rattle.std.proofs.Common.{◌≡◌, ◌≢◌, ℕ, zero, suc, ◌+◌, ◌-◌, ◌*◌, ◌≤◌, ◌<◌, eqb, ltb, refl, arith, sym, ◌∙◌, ltb-true, Some, None, inl, inr}
use Rattle.std.proofs.lemmas.Bool.{cases_Bool, cases_lt}
use Rattle.std.proofs.lemmas.Nat.{mul-le}
use Rattle.block_store.specs.declared.Config.{Config}
use Rattle.block_store.specs.declared.Payload.{Payload}
use Rattle.block_store.specs.declared.Payload.TheVariants as payloads
use Rattle.block_store.specs.declared.Shape.{Shape}
use Rattle.block_store.specs.declared.Shape.TheVariants as shapes
use Rattle.block_store.specs.declared.Value.{Value}
use Rattle.block_store.specs.declared.Width.{Width}
use Rattle.block_store.specs.declared.Width.TheVariants.{Four, Eight}
use Rattle.block_store.specs.Configs.{IsInBounds}
use Rattle.block_store.specs.Payloads.{target}
use Rattle.block_store.specs.Places.{extent}
use Rattle.block_store.specs.Widths.{payloads as payloads_of}
use Rattle.block_store.proofs.Lemmas.{many}
use Rattle.object_lists.specs.Records.{record_blocks, record_slot}
use Rattle.array_trees.specs.Levels.{array_depth, level}
use Rattle.array_trees.specs.Trees.{array_blocks, leaves}
use Rattle.array_trees.proofs.Arrays.{depth_is}
use Rattle.array_trees.proofs.Counts.{le-tree}
use Rattle.array_trees.proofs.Depths.{depth_few}
use Rattle.never_heap.specs.declared.Command.{Command}
use Rattle.never_heap.specs.declared.Command.TheVariants as commands
use Rattle.heap_machine.specs.declared.pass.Pass.{Pass}
use Rattle.grey_steps.specs.declared.rows.GreyRow.{GreyRow}
use Rattle.grey_steps.specs.declared.rows.GreyRow.TheVariants as greys
use Rattle.grey_steps.specs.MarkUnits.{block_stored}
use Rattle.grey_steps.specs.Rows as marking
use Rattle.barrier_steps.specs.declared.rows.FieldRow.{FieldRow}
use Rattle.barrier_steps.specs.declared.rows.FieldRow.TheVariants.{LoadRegister, LoadShape, LoadLink, LoadField, LoadOwner, Shade, Store, StoreConstant, IdleLook, Answered}
use Rattle.barrier_steps.specs.declared.rows.Purpose.{Purpose}
use Rattle.barrier_steps.specs.declared.rows.Purpose.TheVariants as wants
use Rattle.barrier_steps.specs.declared.rows.FieldStore.{FieldStore}
use Rattle.barrier_steps.specs.declared.rows.FieldStore.TheVariants.{Moved, Pending, InField, Exchanged, Compared}
use Rattle.barrier_steps.specs.declared.rows.TreePath.{TreePath}
use Rattle.barrier_steps.specs.Fits.{RowFits}
use Rattle.barrier_steps.specs.Operands.{field_index}
use Rattle.barrier_steps.specs.Rows.{first_row, row_got, field_reply, shape_in, payload_in, on_way, at_block, after_object, after_shape, after_field, after_said, after_owner, after_register, after_store, object_in, before_store, in_barrier, stored_word, shaded_for, way_from, way_on}
use Rattle.barrier_steps.specs.Walks.{links_to, shape_length}
use Rattle.rate_plan.proofs.solo_bound.Near.{div_low}
use Rattle.heap_system.specs.Alone.{longest_array, most_events, most_links}

-- from the block of the field on: `put` and `cas` shade and store, `get` loads, names, shades and
-- stores, and `swap` shades, exchanges, names, shades and stores
abbrev pub errand_left : Command → ℕ
errand_left (commands.Put s i v) = 4
errand_left (commands.Cas s i a v) = 4
errand_left (commands.Swap s i v) = 9
errand_left _ = 6

-- in a barrier, with the store after it
abbrev pub barrier_left : GreyRow → ℕ
barrier_left (greys.TakeOwn y) = 4
barrier_left (greys.ShadeStored y list) = 3
barrier_left _ = 2

-- and after that store
abbrev pub after_left : FieldStore → ℕ
after_left (Exchanged way word) = 5
after_left _ = 0

-- After the object's shape: the registers that are stored and compared, the way, and the errand.
abbrev pub behind_shape : Config → Command → ℕ
behind_shape c (commands.Get d s i) = most_links c i + 6
behind_shape c (commands.Put s i v) = most_links c i + 5
behind_shape c (commands.Swap s i v) = most_links c i + 10
behind_shape c (commands.Cas s i a v) = most_links c i + 6
behind_shape c _ = 0

-- and from the owner word on, which `say` answers, and by which the others store what they name
abbrev pub owned_left : Command → ℕ
owned_left (commands.Say s) = 1
owned_left _ = 5

-- how many events command k has left at most at a row
abbrev pub register_left : Config → Command → Purpose → ℕ
register_left c k wants.Copied = 5
register_left c k wants.Object = 2 + behind_shape c k
register_left c k (wants.Expected way) =
    links_to (extent c) way.shape (field_index k) + errand_left k + 2
register_left c k (wants.Stored way) =
    links_to (extent c) way.shape (field_index k) + errand_left k + 1
register_left c k wants.First = 2
register_left c k (wants.Second word) = 1
register_left c k wants.Shown = 1 + owned_left k

abbrev pub field_left : Config → Command → FieldRow → ℕ
field_left c k (LoadRegister wanted) = register_left c k wanted
field_left c k (LoadShape x) = 1 + behind_shape c k
field_left c k (LoadLink way word) =
    links_to (extent c) way.shape (field_index k) - way.level + errand_left k
field_left c k (LoadField way) = 6
field_left c k (LoadOwner word) = owned_left k
field_left c k (Shade r store) = barrier_left r + after_left store
field_left c k (Store store) = 1 + after_left store
field_left c k StoreConstant = 1
field_left c k IdleLook = 1
field_left c k (Answered reply) = 0

-- the object whose shape is read has no longer way to the field of command k
abbrev pub IsWayShort : Config → Command → FieldRow → ℕ → Type 0
IsWayShort c k (LoadShape x) w = field_index k < shape_length (shape_in w)
    → links_to (extent c) (shape_in w) (field_index k) ≤ most_links c (field_index k)
IsWayShort c k _ w = Unit {0}

owned_few : (k : Command) → owned_left k ≤ 5
owned_few (commands.Say s) = omega arith
owned_few _ = omega arith

module _ (c : Config) (p : Pass) where
  abbrev L : Command → FieldRow → ℕ
  L k r = field_left c k r

  before_left : (k : Command) (s : FieldStore) → L k (before_store p s) ≤ 4 + after_left s
  before_left k s = elim (cases_Bool (eqb (shaded_for p (stored_word s)) 0)) [
    | inl q ↦ rw q (omega arith)
    | inr q ↦ rw q (omega arith)
  ]

  block_left : (k : Command) (way : TreePath) (word : ℕ) → L k (at_block p k way word) ≤ errand_left k
  block_left (commands.Put s i v) way word = before_left (commands.Put s i v) (InField way word)
  block_left (commands.Swap s i v) way word = before_left (commands.Swap s i v) (Exchanged way word)
  block_left (commands.Cas s i a v) way word = before_left (commands.Cas s i a v) (Compared way word)
  block_left _ way word = omega arith

  -- at any point of a way
  way_left : (k : Command) (way : TreePath) (word : ℕ) → L k (on_way (extent c) p k way word) ≤ links_to (extent c) way.shape (field_index k) - way.level + errand_left k
  way_left k way word = elim (cases_Bool (ltb way.level (links_to (extent c) way.shape (field_index k)))) [
    | inl q ↦ rw q (omega arith)
    | inr q ↦ (let b = block_left k way word in rw q (omega arith))
  ]

  object_left : (k : Command) (v : Payload) → L k (after_object v) ≤ 1 + behind_shape c k
  object_left k payloads.Nil = omega arith
  object_left k (payloads.Int v) = omega arith
  object_left k (payloads.Block x) = omega arith

  shape_left : (k : Command) (x : ℕ) (f : Shape) → (field_index k < shape_length f → links_to (extent c) f (field_index k) ≤ most_links c (field_index k)) → L k (after_shape (extent c) p k x f) ≤ behind_shape c k
  shape_left (commands.Get d s i) x f low = elim (cases_Bool (ltb i (shape_length f))) [
    | inl q ↦ (let l = low (ltb-true i (shape_length f) q) in let w = way_left (commands.Get d s i) (way_from f x) 0 in rw q (omega arith))
    | inr q ↦ rw q (omega arith)
  ]
  shape_left (commands.Put s i v) x f low = elim (cases_Bool (ltb i (shape_length f))) [
    | inl q ↦ (let l = low (ltb-true i (shape_length f) q) in rw q (omega arith))
    | inr q ↦ rw q (omega arith)
  ]
  shape_left (commands.Swap s i v) x f low = elim (cases_Bool (ltb i (shape_length f))) [
    | inl q ↦ (let l = low (ltb-true i (shape_length f) q) in rw q (omega arith))
    | inr q ↦ rw q (omega arith)
  ]
  shape_left (commands.Cas s i a v) x f low = elim (cases_Bool (ltb i (shape_length f))) [
    | inl q ↦ (let l = low (ltb-true i (shape_length f) q) in rw q (omega arith))
    | inr q ↦ rw q (omega arith)
  ]
  shape_left _ x f low = omega arith

  field_next : (k : Command) (w : ℕ) (v : Payload) → L k (after_field w v) ≤ 5
  field_next k w payloads.Nil = omega arith
  field_next k w (payloads.Int v) = omega arith
  field_next k w (payloads.Block x) = owned_few k

  said_next : (k : Command) (w : ℕ) (v : Payload) → L k (after_said w v) ≤ owned_left k
  said_next k w payloads.Nil = omega arith
  said_next k w (payloads.Int v) = omega arith
  said_next k w (payloads.Block x) = omega arith

  -- a barrier comes to its store
  stored_next : (k : Command) (y list : ℕ) (s : FieldStore) → L k (in_barrier (marking.after_stored y list) s) ≤ 2 + after_left s
  stored_next k y list s = elim (cases_Bool (eqb list 0)) [
    | inl q ↦ rw q (omega arith)
    | inr q ↦ rw q (omega arith)
  ]

  barrier_next : (k : Command) (r : GreyRow) (s : FieldStore) (n w : ℕ) → block_stored r ≢ 0 → L k (in_barrier (marking.row_got n p.threads p.cycle r w) s) < barrier_left r + after_left s
  barrier_next k (greys.TakeOwn y) s n w some = omega arith
  barrier_next k (greys.ShadeStored y list) s n w some = omega (arith, stored_next k y (marking.shaded_list p.cycle y list w) s)
  barrier_next k (greys.PutOwn y list) s n w some = omega arith
  barrier_next k (greys.Shaded y) s n w some = omega arith
  barrier_next k _ s n w some = absurd (some refl)

  -- each event leaves fewer
  owner_left : (k : Command) (word : ℕ) (v : Value) → L k (after_owner p k word v) < owned_left k
  owner_left (commands.Say s) word v = omega arith
  owner_left k word v = omega (arith, before_left k (Pending word v))

  register_falls : (k : Command) (wanted : Purpose) (w : ℕ) → L k (after_register (extent c) p k wanted w) < register_left c k wanted
  register_falls k wants.Copied w = omega (arith, before_left k (Moved w))
  register_falls k wants.Object w = omega (arith, object_left k (payload_in w))
  register_falls k (wants.Expected way) w = omega arith
  register_falls k (wants.Stored way) w = omega (arith, way_left k way w)
  register_falls k wants.First w = omega arith
  register_falls k (wants.Second word) w = omega arith
  register_falls k wants.Shown w = omega (arith, said_next k w (payload_in w))

  store_falls : (k : Command) (s : FieldStore) (w : ℕ) → L k (after_store s w) < 1 + after_left s
  store_falls k (Exchanged way word) w = omega (arith, field_next k w (payload_in w))
  store_falls k _ w = omega arith

  pub field_falls : (k : Command) (r : FieldRow) (w : ℕ) → RowFits c p k r → field_reply r ≡ None → IsWayShort c k r w → L k (row_got (extent c) p k r w) < L k r
  field_falls k (LoadRegister wanted) w fits going low = register_falls k wanted w
  field_falls k (LoadShape x) w fits going low = omega (arith, shape_left k x (shape_in w) low)
  field_falls k (LoadLink way word) w fits going low = omega (arith, way_left k (way_on way (target w)) word, fits.1)
  field_falls k (LoadField way) w fits going low = omega (arith, field_next k w (payload_in w))
  field_falls k (LoadOwner word) w fits going low = owner_left k word (object_in w)
  field_falls k (Shade r store) w fits going low = barrier_next k r store (payloads_of c.width) w (λ z. fits.0.refers (sym fits.0.stores ∙ z))
  field_falls k (Store store) w fits going low = store_falls k store w
  field_falls k StoreConstant w fits going low = omega arith
  field_falls k IdleLook w fits going low = omega arith
  field_falls k (Answered reply) w fits going low = absurd (let z : Some reply ≡ None = going in cc)

-- at its first row a command has its events inside
pub fields_first : (c : Config) (k : Command) → field_left c k (first_row k) ≤ most_events c k
fields_first c (commands.New d f) = omega arith
fields_first c (commands.Arr d f) = omega arith
fields_first c (commands.Set d v) = omega arith
fields_first c (commands.Nil d) = omega arith
fields_first c (commands.Mov d s) = omega arith
fields_first c (commands.Get d s i) = omega arith
fields_first c (commands.Put s i v) = omega arith
fields_first c (commands.Len s) = omega arith
fields_first c (commands.Same a b) = omega arith
fields_first c (commands.Say s) = omega arith
fields_first c (commands.Swap s i v) = omega arith
fields_first c (commands.Cas s i a v) = omega arith
fields_first c (commands.Idle u) = omega arith

-- and these are few
wide : (w : Width) → payloads_of w ≤ 8
wide Four = omega arith
wide Eight = omega arith

arrays_few : (c : Config) → IsInBounds c → longest_array c ≤ 65535
arrays_few c is =
    let all : payloads_of c.width * c.object ≤ 8 * 1024 = mul-le (payloads_of c.width) c.object 8 1024 (wide c.width) is.object in
    omega (arith, all, is.shared)

links_few : (c : Config) (i : ℕ) → IsInBounds c → most_links c i ≤ c.object + 7
links_few c i is = omega (arith, depth_few c.width (longest_array c) (arrays_few c is))

pub events_few : (c : Config) (k : Command) → IsInBounds c → most_events c k ≤ c.object + 19
events_few c (commands.Mov d s) is = omega arith
events_few c (commands.Get d s i) is = omega (arith, links_few c i is)
events_few c (commands.Put s i v) is = omega (arith, links_few c i is)
events_few c (commands.Len s) is = omega arith
events_few c (commands.Same a b) is = omega arith
events_few c (commands.Say s) is = omega arith
events_few c (commands.Swap s i v) is = omega (arith, links_few c i is)
events_few c (commands.Cas s i a v) is = omega (arith, links_few c i is)
events_few c _ is = omega arith

-- the block of a field of a record is one of the record's
record_way : (w : Width) (n i : ℕ) → i < n → (record_slot w i).0 < record_blocks w n
record_way Four n i low = omega arith
record_way Eight n i low = omega arith

level_low : (w q r h : ℕ) → 0 < w → q ≤ r → level w q h ≤ level w r h
level_low w q r zero some low = low
level_low w q r (suc h) some low =
    div_low (level w q h + (w - 1)) (level w r h + (w - 1)) w some
    (let l = level_low w q r h some low in omega arith)

leaves_low : (w a b : ℕ) → 0 < w → a ≤ b → leaves w a ≤ leaves w b
leaves_low w a b some low =
    let l = div_low (a + (w - 1)) (b + (w - 1)) w some (omega arith) in omega arith

depth_low : (w : Width) (a b : ℕ) → a ≤ b → array_depth w a ≤ array_depth w b
depth_low w a b low = elim (cases_lt (array_depth w b) (array_depth w a)) [
  | inl deep ↦
      let some : 0 < payloads_of w = omega (arith, many w) in
      let more = (depth_is (payloads_of w) a (many w)).more (array_depth w b) deep in
      let root = (depth_is (payloads_of w) b (many w)).root in
      let levels = level_low (payloads_of w) (leaves (payloads_of w) a) (leaves (payloads_of w) b) (array_depth w b) some
      (leaves_low (payloads_of w) a b some low) in
      absurd (omega arith)
  | inr few ↦ few
]

-- an array of few blocks has few elements
elements_few : (w : Width) (e : ℕ) → e ≤ payloads_of w * leaves (payloads_of w) e
elements_few Four e = omega arith
elements_few Eight e = omega arith

pub array_short : (c : Config) (e : ℕ) → array_blocks c.width e ≤ c.object → e ≤ longest_array c
array_short c e few =
    let leaves_few : leaves (payloads_of c.width) e ≤ c.object = omega (arith, few, le-tree (payloads_of c.width) (leaves (payloads_of c.width) e) (many c.width)) in
    let all = mul-le (payloads_of c.width) (leaves (payloads_of c.width) e) (payloads_of c.width) c.object (omega arith) leaves_few in
    omega (arith, all, elements_few c.width e)

-- no object has a longer way to its field i
pub ways_are_short : (c : Config) (f : Shape) (i : ℕ) → i < shape_length f → ((n : ℕ) → f ≡ shapes.List n → record_blocks c.width n ≤ c.object) → ((n : ℕ) → f ≡ shapes.Tree n → n ≤ longest_array c) → links_to (extent c) f i ≤ most_links c i
ways_are_short c (shapes.List n) i low records arrays = omega (arith, records n refl, record_way c.width n i low)
ways_are_short c (shapes.Tree n) i low records arrays = omega (arith, depth_low c.width n (longest_array c) (arrays n refl))
