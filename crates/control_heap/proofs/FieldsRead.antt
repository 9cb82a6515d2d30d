-- What is read of registers and objects is what the graph has.
use Rattle.std.proofs.Common.{◌≡◌, ℕ, zero, suc, ◌+◌, ◌<◌, ◌≤◌, Bool, true, false, List, ◌∷◌, ◌++◌, [], length, take, refl, sym, ap, ◌∙◌, subst, arith}
use Rattle.std.proofs.Math.Seq.{take-length, take-suc}
use Rattle.block_store.specs.declared.Config.{Config}
use Rattle.block_store.specs.declared.Name.{Name}
use Rattle.block_store.specs.declared.Shape.{Shape}
use Rattle.block_store.specs.declared.Value.{Value}
use Rattle.block_store.specs.declared.Value.TheVariants.{Nil, Int, Ref}
use Rattle.block_store.specs.declared.TheConstants.{REGISTERS}
use Rattle.block_store.specs.Heaps.{Heap, heap_of}
use Rattle.block_store.specs.declared.Payload.TheVariants as payload_words
use Rattle.block_store.specs.Payloads.{reference_word}
use Rattle.block_store.specs.Places.{PayloadOf, ShapeOf, extent}
use Rattle.block_store.specs.Widths.{payloads}
use Rattle.block_store.specs.Registers.{register_block, register_slot}
use Rattle.block_store.proofs.Lemmas.{payload-code}
use Rattle.never_heap.specs.Graphs.{Graph, Object, ObjectKind, Record, Array, field_of, object_of, register_of}
use Rattle.never_heap.specs.Histories.{replay}
use Rattle.object_lists.specs.Layouts.{IsWay}
use Rattle.object_lists.specs.Parts.{Part, Field}
use Rattle.heap_invariant.specs.graph_relation.Events.{is_pending, pending_registers}
use Rattle.heap_invariant.specs.graph_relation.Layouts.{kind_shape, layout_part, object_blocks, shape_part}
use Rattle.heap_invariant.specs.graph_relation.GraphOfWords.{IsValueOf, Shows, heads}
use Rattle.heap_invariant.specs.graph_relation.Words.{block_words, part_word, value_word}
use Rattle.heap_invariant.proofs.Lemmas.{length_read, object_layout, owner_read, register_read}
use Rattle.heap_invariant.proofs.graph_relation.WordReads.{value_read as word_read}
use Rattle.barrier_steps.specs.Rows.{object_or_nil, shape_in, shape_or_empty}
use Rattle.barrier_steps.specs.Walks.{field_at, link_at, links_to, ordinal_at, shape_length}
use Rattle.barrier_steps.proofs.Decisions.{kind_length}
use Rattle.barrier_steps.proofs.FieldRows.{field_low, link_low, way_is}
use Rattle.heap_system.specs.Locals.{is_rest, task}
use Rattle.heap_system.specs.Machines.{Run, local_in}
use Rattle.heap_system.specs.Pictures.{tasks_in}
use Rattle.heap_system.proofs.Lemmas.{Kept, rest_is}
use Rattle.control_heap.specs.Controls.{ControlOf, Stands}
use Rattle.control_heap.specs.Readings.{HasFields, HasNoObject, block_read, field_read, fields_read, payload_block, payload_value, value_read, walked}
use Rattle.control_heap.proofs.CommandBound.{rests}
use Rattle.control_heap.proofs.HeapAsRun.{kept_of, low}

-- what is in the blocks of an object's shape is what is in those of the object
same_part : (c : Config) (k : ObjectKind) (n o j : ℕ) → shape_part c.width (kind_shape k n) o j ≡ layout_part c.width k n o j
same_part c Record n o j = refl
same_part c Array n o j = refl

module _ (c : Config) (few : c.blocks ≤ 65535) (K : Name → Type 0) (g : Graph) (at : Name → ℕ → ℕ) (h : Heap) (pending : ℕ → ℕ → Bool) (shows : Shows c.width c.threads c.blocks K g at (block_words h) pending) where
  -- the word of a kept value is read as the value
  pub value_is : (v : Value) → IsValueOf K v → value_read h (value_word (heads at) v) ≡ v
  value_is Nil kept = ap (payload_value h) (word_read c.width c.threads c.blocks K g at (block_words h) pending shows Nil few kept)
  value_is (Int n) kept = ap (payload_value h) (word_read c.width c.threads c.blocks K g at (block_words h) pending shows (Int n) few kept)
  value_is (Ref a) kept =
      ap (payload_value h) (word_read c.width c.threads c.blocks K g at (block_words h) pending shows (Ref a) few kept)
      ∙ ap object_or_nil (owner_read c.width c.threads c.blocks K g at (block_words h) pending shows a 0 kept (object_layout c.width (object_of g a)).first)

  module _ (a : Name) (kept : K a) where
    abbrev pub object : Object
    object = object_of g a

    abbrev pub shape : Shape
    shape = kind_shape object.kind (length object.fields)

    -- the shape word of its first block
    pub shape_is : shape_in (h (ShapeOf (at a 0))) ≡ shape
    shape_is = ap shape_or_empty (length_read c.width c.threads c.blocks K g at (block_words h) pending shows a 0 kept (object_layout c.width object).first)

    pub long : shape_length shape ≡ length object.fields
    long = kind_length object.kind (length object.fields)

    -- what is in a block of the object
    stands : (o j : ℕ) (p : Part) → o < object_blocks c.width object → j < payloads c.width → shape_part c.width shape o j ≡ p
        → h (PayloadOf (at a o) j) ≡ part_word (heads at) (at a) (field_of object) p
    stands o j p there small is =
        (shows.written.blocks a o kept there).words j small
        ∙ ap (part_word (heads at) (at a) (field_of object)) (sym (same_part c object.kind (length object.fields) o j) ∙ is)

    -- a reference to one of its blocks is read as that block
    refers : (o : ℕ) → o < object_blocks c.width object → block_read (reference_word (at a o)) ≡ at a o
    refers o there =
        let behind = shows.placed.behind a o kept there in
        let within = shows.placed.within a o kept there in
        ap payload_block (payload-code (payload_words.Block (at a o)) (omega (arith, behind), omega (arith, within, few)))

    module _ (i : ℕ) (index : i < shape_length shape) where
      abbrev steps : ℕ
      steps = links_to (extent c) shape i

      way : IsWay (shape_part c.width shape) i steps (field_at (extent c) shape i) (ordinal_at (extent c) shape i) (link_at (extent c) shape i)
      way = way_is c shape i index

      -- the ordinals on the way are of the object
      on_way : (l : ℕ) → l < steps → (ordinal_at (extent c) shape i l < object_blocks c.width object) × (ordinal_at (extent c) shape i (l + 1) < object_blocks c.width object)
      on_way l less =
          let o = ordinal_at (extent c) shape i l in
          let j = link_at (extent c) shape i l in
          let on = (object_layout c.width object).onward o j _ (sym (same_part c object.kind (length object.fields) o j) ∙ way.links l less) in
          (omega (arith, on.1, on.2), on.2)

      last : ordinal_at (extent c) shape i steps < object_blocks c.width object
      last =
          let o = ordinal_at (extent c) shape i steps in
          let j = field_at (extent c) shape i in
          ((object_layout c.width object).slots o j i (sym (same_part c object.kind (length object.fields) o j) ∙ way.ends)).1

      walk_is : (l : ℕ) → l ≤ steps → walked (extent c) h shape i (at a 0) l ≡ at a (ordinal_at (extent c) shape i l)
      walk_is zero low = ap (at a) (sym way.starts)
      walk_is (suc l) low =
          let less : l < steps = omega (arith, low) in
          let ordinals = on_way l less in
          let j = link_at (extent c) shape i l in
          let more : l + 1 ≡ suc l = omega arith in
          ap (λ x. block_read (h (PayloadOf x j))) (walk_is l (omega (arith, low)))
          ∙ ap block_read (stands (ordinal_at (extent c) shape i l) j _ ordinals.0 (link_low c shape i l) (way.links l less))
          ∙ refers (ordinal_at (extent c) shape i (l + 1)) ordinals.1
          ∙ ap (λ m. at a (ordinal_at (extent c) shape i m)) more

      pub field_word_is : field_read (extent c) h shape i (at a 0) ≡ value_word (heads at) (field_of object i)
      field_word_is =
          ap (λ x. h (PayloadOf x (field_at (extent c) shape i))) (walk_is steps (omega arith))
          ∙ stands (ordinal_at (extent c) shape i steps) (field_at (extent c) shape i) (Field i) last (field_low c shape i) way.ends

      pub field_is : value_read h (field_read (extent c) h shape i (at a 0)) ≡ field_of object i
      field_is = ap (value_read h) field_word_is ∙ value_is (field_of object i) (shows.closed.fields a i kept)

    -- the first n fields
    some_are : (n : ℕ) → n ≤ length object.fields → fields_read (extent c) h shape (at a 0) n ≡ take n object.fields
    some_are zero low = refl
    some_are (suc n) low =
        let less : n < length object.fields = omega (arith, low) in
        let index : n < shape_length shape = omega (arith, less, long) in
        (λ i. some_are n (omega (arith, low)) i ++ field_is n index i ∷ []) ∙ sym (take-suc object.fields n Nil less)

    pub fields_are : fields_read (extent c) h shape (at a 0) (shape_length shape) ≡ object.fields
    fields_are =
        ap (fields_read (extent c) h shape (at a 0)) long
        ∙ some_are (length object.fields) (omega arith)
        ∙ take-length object.fields

    -- the same over the shape that the shape word says
    pub fields_there : fields_read (extent c) h (shape_in (h (ShapeOf (at a 0)))) (at a 0) (shape_length (shape_in (h (ShapeOf (at a 0))))) ≡ object.fields
    fields_there = (λ i. fields_read (extent c) h (shape_is i) (at a 0) (shape_length (shape_is i))) ∙ fields_are

  -- what the word of a kept value refers to, and whether it refers to an object
  pub block_is : (a : Name) → K a → block_read (value_word (heads at) (Ref a)) ≡ at a 0
  block_is a kept = refers a kept 0 (object_layout c.width (object_of g a)).first

  pub block_none : (v : Value) → IsValueOf K v → block_read (value_word (heads at) v) ≡ 0 → (a : Name) → v ≡ Ref a → ⊥
  block_none v kept none a e =
      let ka : K a = subst (IsValueOf K) e kept in
      let zero_is : at a 0 ≡ 0 = sym (block_is a ka) ∙ ap (λ x. block_read (value_word (heads at) x)) (sym e) ∙ none in
      let behind = shows.placed.behind a 0 ka (object_layout c.width (object_of g a)).first in
      absurd (omega (arith, behind, zero_is))

  pub block_some : (v : Value) → IsValueOf K v → (block_read (value_word (heads at) v) ≡ 0 → ⊥) → (a : Name) × (v ≡ Ref a) × (block_read (value_word (heads at) v) ≡ at a 0) × K a
  block_some Nil kept some = absurd (some (ap payload_block (payload-code payload_words.Nil tt)))
  block_some (Int n) kept some = absurd (some (ap payload_block (payload-code (payload_words.Int n) kept)))
  block_some (Ref a) kept some = (a, refl, block_is a kept, kept)

-- the word of register q
abbrev pub register_at : {M : Type 0} → ControlOf M → ℕ → ℕ
register_at h q = heap_of (extent h.config) h.words (PayloadOf (register_block h.config.width 0 q) (register_slot h.config.width q))

module _ {M : Type 0} (s : ControlOf M) (r : Run) (st : Stands s r) where
  abbrev pub heap : Heap
  heap = heap_of (extent s.config) s.words

  abbrev pub graph : Graph
  graph = replay s.config r.order

  kept : Kept s.config st.run.after.traces r
  kept = kept_of s.config st.single r st.run.after

  pub shows : Shows s.config.width s.config.threads s.config.blocks (λ a. r.names.kept a ≡ true) graph r.names.at (block_words heap) (pending_registers (λ t. (tasks_in s.config r.state t).loading))
  shows = subst (λ ws. Shows s.config.width s.config.threads s.config.blocks (λ a. r.names.kept a ≡ true) graph r.names.at (block_words (heap_of (extent s.config) ws)) (pending_registers (λ t. (tasks_in s.config r.state t).loading)))
      st.words kept.names.follows.shows

  pub few_blocks : s.config.blocks ≤ 65535
  few_blocks = st.run.after.job.bounds.config.blocks

  prompt : (q : ℕ) → pending_registers (λ t. (tasks_in s.config r.state t).loading) 0 q ≡ false
  prompt q =
      let rest : is_rest (local_in s.config r 0).part ≡ true = ap (λ l. is_rest l.part) st.thread ∙ rests s r st in
      ap (λ p. is_pending (task s.config p).loading.value q) (rest_is (local_in s.config r 0).part rest)

  pub word_is : (q : ℕ) → q < REGISTERS → register_at s q ≡ value_word (heads r.names.at) (register_of graph 0 q)
  word_is q ql = register_read s.config.width s.config.threads s.config.blocks _ graph r.names.at (block_words heap) _ shows 0 q (low s.config st.single) ql (prompt q)

  pub register_told : (q : ℕ) → q < REGISTERS → value_read heap (register_at s q) ≡ register_of graph 0 q
  register_told q ql =
      ap (value_read heap) (word_is q ql)
      ∙ value_is s.config few_blocks _ graph r.names.at heap _ shows (register_of graph 0 q) (shows.closed.registers 0 q (low s.config st.single) ql)

  pub kept_value : (q : ℕ) → q < REGISTERS → IsValueOf (λ a. r.names.kept a ≡ true) (register_of graph 0 q)
  kept_value q ql = shows.closed.registers 0 q (low s.config st.single) ql

  pub none_told : (q : ℕ) → q < REGISTERS → block_read (register_at s q) ≡ 0 → HasNoObject graph q
  none_told q ql none a e =
      block_none s.config few_blocks _ graph r.names.at heap _ shows (register_of graph 0 q) (kept_value q ql)
      (ap block_read (sym (word_is q ql)) ∙ none) a e

  pub fields_told : (q : ℕ) → q < REGISTERS → (x : ℕ) → x ≡ block_read (register_at s q) → (x ≡ 0 → ⊥) → (fields : List Value)
      → fields ≡ fields_read (extent s.config) heap (shape_in (heap (ShapeOf x))) x (shape_length (shape_in (heap (ShapeOf x)))) → HasFields graph q fields
  fields_told q ql x is some fields read =
      let word : x ≡ block_read (value_word (heads r.names.at) (register_of graph 0 q)) = is ∙ ap block_read (word_is q ql) in
      let found = block_some s.config few_blocks _ graph r.names.at heap _ shows (register_of graph 0 q) (kept_value q ql) (λ z. some (word ∙ z)) in
      let block : x ≡ r.names.at found.0 0 = word ∙ found.2 in (
        found.0,
        found.1,
        read ∙ ap (λ y. fields_read (extent s.config) heap (shape_in (heap (ShapeOf y))) y (shape_length (shape_in (heap (ShapeOf y))))) block
            ∙ fields_there s.config few_blocks _ graph r.names.at heap _ shows found.0 found.3,
      )

-- as the calls say it, of the value of the heap
pub register_now : {M : Type 0} (h now : ControlOf M) → h ≡ now → (v : Value) (q : ℕ) → q < REGISTERS → v ≡ value_read (heap_of (extent h.config) h.words) (register_at h q)
    → (r : Run) → Stands now r → v ≡ register_of (replay now.config r.order) 0 q
register_now h now same v q ql is r st =
    subst (λ x. (z : Stands x r) → v ≡ register_of (replay x.config r.order) 0 q) same (λ z. is ∙ register_told h r z q ql) st

pub none_now : {M : Type 0} (h now : ControlOf M) → h ≡ now → (q : ℕ) → q < REGISTERS → block_read (register_at h q) ≡ 0
    → (r : Run) → Stands now r → HasNoObject (replay now.config r.order) q
none_now h now same q ql none r st =
    subst (λ x. (z : Stands x r) → HasNoObject (replay x.config r.order) q) same (λ z. none_told h r z q ql none) st

pub fields_now : {M : Type 0} (h now : ControlOf M) → h ≡ now → (q : ℕ) → q < REGISTERS → (x : ℕ) → x ≡ block_read (register_at h q) → (x ≡ 0 → ⊥) → (fields : List Value)
    → fields ≡ fields_read (extent h.config) (heap_of (extent h.config) h.words) (shape_in (heap_of (extent h.config) h.words (ShapeOf x))) x (shape_length (shape_in (heap_of (extent h.config) h.words (ShapeOf x))))
    → (r : Run) → Stands now r → HasFields (replay now.config r.order) q fields
fields_now h now same q ql x is some fields read r st =
    subst (λ y. (z : Stands y r) → HasFields (replay y.config r.order) q fields) same (λ z. fields_told h r z q ql x is some fields read) st
