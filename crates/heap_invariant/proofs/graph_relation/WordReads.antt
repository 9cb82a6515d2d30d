-- What is read from the words: a value, a length, the name of a block's object, the block at the
-- end of a way.
use Rattle.std.proofs.Common.{◌≡◌, ℕ, Bool, true, false, zero, suc, ◌+◌, ◌<◌, ◌≤◌, inl, inr, Some, eqb, length, refl, sym, ap, ◌∙◌, subst, arith, eq-eqb, ne_eqb}
use Rattle.std.proofs.lemmas.Bool.{cases_eq, cases_Bool}
use Rattle.block_store.specs.Registers.{register_block, register_slot}
use Rattle.block_store.specs.declared.TheConstants.{REGISTERS}
use Rattle.block_store.specs.declared.Width.{Width}
use Rattle.block_store.specs.declared.Name.{Name}
use Rattle.block_store.specs.declared.Value.{Value}
use Rattle.block_store.specs.declared.Value.TheVariants as values
use Rattle.block_store.specs.declared.Payload.TheVariants as payloads
use Rattle.block_store.specs.declared.Shape.TheVariants as shapes
use Rattle.block_store.specs.WideOwners.{wide_of}
use Rattle.block_store.specs.Payloads.{payload_of, reference_word}
use Rattle.block_store.specs.Shapes.{shape_of}
use Rattle.block_store.proofs.Lemmas.{number-reference, number_positive, one_number, one_reference, payload-code, read_wide, reference_positive, shape-code}
use Rattle.never_heap.specs.Graphs.{Graph, ObjectKind, Record, Array, object_of, field_of, register_of}
use Rattle.never_heap.specs.Steps.{same_value}
use Rattle.never_heap.proofs.Lemmas.{one_name}
use Rattle.object_lists.specs.Parts.{Link}
use Rattle.object_lists.specs.Layouts.{IsWay}
use Rattle.heap_invariant.specs.graph_relation.Layouts.{kind_shape, object_blocks, object_part, object_slot}
use Rattle.heap_invariant.specs.graph_relation.Words.{BlockWords, value_word, part_word, kind_word}
use Rattle.heap_invariant.specs.graph_relation.GraphOfWords.{IsValueOf, heads, Shows}
use Rattle.heap_invariant.specs.graph_relation.Read.{value_payload}
use Rattle.heap_invariant.proofs.graph_relation.ObjectLayouts.{object_layout, few_fields}
use Rattle.heap_invariant.proofs.graph_relation.Names.{apart, same_as_itself, values_one}

module _ (W : Width) (n m : ℕ) (K : Name → Type 0) (g : Graph) (at : Name → ℕ → ℕ)
    (w : BlockWords) (pending : ℕ → ℕ → Bool) (shows : Shows W n m K g at w pending) where
  first_block : (a : Name) → K a → 0 < object_blocks W (object_of g a)
  first_block a ka = (object_layout W (object_of g a)).first

  -- the owner word of a kept object's block reads as the name and the ordinal
  pub owner_read : (a : Name) (o : ℕ) → K a → o < object_blocks W (object_of g a)
      → wide_of (w.owner (at a o))
      ≡ Some (record { thread = a.thread; serial = a.serial; ordinal = o })
  owner_read a o ka ol =
      ap wide_of (shows.written.blocks a o ka ol).owned
      ∙ read_wide a.thread a.serial o (shows.numbered.threads a ka)
      (omega (arith, shows.numbered.ordinals a ka, ol))

  -- the word of a kept value reads as nil, as its number, or as the first block of its name
  pub value_read : (v : Value) → m ≤ 65535 → IsValueOf K v
      → payload_of (value_word (heads at) v) ≡ Some (value_payload (heads at) v)
  value_read values.Nil few kept = payload-code payloads.Nil tt
  value_read (values.Int k) few kept = payload-code (payloads.Int k) kept
  value_read (values.Ref a) few kept =
      payload-code (payloads.Block (at a 0)) (
        omega (arith, shows.placed.behind a 0 kept (first_block a kept)),
        omega (arith, few, shows.placed.within a 0 kept (first_block a kept)),
      )

  kind_read : (k : ObjectKind) (l : ℕ) → l ≤ 65535
      → shape_of (kind_word k l) ≡ Some (kind_shape k l)
  kind_read Record l h = shape-code (shapes.List l) h
  kind_read Array l h = shape-code (shapes.Tree l) h

  -- the shape word of a kept object's block reads as its kind and its length
  pub length_read : (a : Name) (o : ℕ) → K a → o < object_blocks W (object_of g a)
      → shape_of (w.shape (at a o))
      ≡ Some (kind_shape (object_of g a).kind (length (object_of g a).fields))
  length_read a o ka ol =
      ap shape_of (shows.written.blocks a o ka ol).shaped
      ∙ kind_read (object_of g a).kind (length (object_of g a).fields)
      (few_fields W (object_of g a).kind (length (object_of g a).fields)
      (shows.numbered.ordinals a ka))

  -- the word of a register that is not pending is that of its value
  pub register_read : (t r : ℕ) → t < n → r < REGISTERS → pending t r ≡ false
      → w.payload (register_block W t r) (register_slot W r)
      ≡ value_word (heads at) (register_of g t r)
  register_read t r tn rl now = let h = shows.registers.holds t r tn rl in
      h.reads ∙ ap (value_word (heads at)) (h.now now)

  -- the word at a field's slot is that of the field's value
  pub field_read : (a : Name) (i : ℕ) → K a → i < length (object_of g a).fields
      → w.payload (at a (object_slot W (object_of g a) i).0) (object_slot W (object_of g a) i).1
      ≡ value_word (heads at) (field_of (object_of g a) i)
  field_read a i ka within =
      let laws = object_layout W (object_of g a) in
      let here = laws.fields i within in
      let place = laws.slots _ _ i here in
      (shows.written.blocks a _ ka place.1).words _ place.2
      ∙ ap (part_word (heads at) (at a) (field_of (object_of g a))) here

  -- a link refers to the block of the ordinal to which it goes
  pub link_read : (a : Name) (o j p : ℕ) → K a → object_part W (object_of g a) o j ≡ Link p
      → w.payload (at a o) j ≡ reference_word (at a p)
  link_read a o j p ka link =
      let laws = object_layout W (object_of g a) in
      let on = laws.onward o j p link in
      (shows.written.blocks a o ka (omega (arith, on.1, on.2))).words j on.0
      ∙ ap (part_word (heads at) (at a) (field_of (object_of g a))) link

  module _ (a : Name) (i : ℕ) (ka : K a) (within : i < length (object_of g a).fields)
      (steps last : ℕ) (way turn : ℕ → ℕ)
      (is : IsWay (object_part W (object_of g a)) i steps last way turn)
      (walked : ℕ → ℕ) (starts : walked 0 ≡ at a 0)
      (goes : (l : ℕ) → l < steps
      → w.payload (walked l) (turn l) ≡ reference_word (walked (l + 1))) where
    -- who follows the links of a way is at the blocks of its ordinals
    pub walk_at : (l : ℕ) → l ≤ steps → walked l ≡ at a (way l)
    walk_at zero h = starts ∙ ap (at a) (sym is.starts)
    walk_at (suc l) h =
        let before : walked l ≡ at a (way l) = walk_at l (omega arith) in
        let low : l < steps = omega arith in
        let next : l + 1 ≡ suc l = omega arith in
        let e : reference_word (walked (l + 1)) ≡ reference_word (at a (way (l + 1))) =
        sym (goes l low) ∙ ap (λ x. w.payload x (turn l)) before
        ∙ link_read a (way l) (turn l) (way (l + 1)) ka (is.links l low) in
        subst (λ k. walked k ≡ at a (way k)) next (one_reference _ _ e)

    -- a way ends at the field's slot
    pub way_slot : (way steps ≡ (object_slot W (object_of g a) i).0)
        × (last ≡ (object_slot W (object_of g a) i).1)
    way_slot = let place = (object_layout W (object_of g a)).slots _ _ i is.ends in
        (place.3, place.4)

    -- and so at the field's word
    pub walk_ends : (walked steps ≡ at a (object_slot W (object_of g a) i).0)
        × (w.payload (walked steps) last ≡ value_word (heads at) (field_of (object_of g a) i))
    walk_ends =
        let e : walked steps ≡ at a (object_slot W (object_of g a) i).0 =
        walk_at steps (omega arith) ∙ ap (at a) way_slot.0 in (
          e,
          ap (λ x. w.payload x last) e
              ∙ ap (λ j. w.payload (at a (object_slot W (object_of g a) i).0) j) way_slot.1
              ∙ field_read a i ka within,
        )

  -- kept values of one word are one
  pub one_value : (v u : Value) → IsValueOf K v → IsValueOf K u
      → value_word (heads at) v ≡ value_word (heads at) u → v ≡ u
  one_value values.Nil values.Nil kv ku e = refl
  one_value values.Nil (values.Int k) kv ku e = absurd (number_positive k (sym e))
  one_value values.Nil (values.Ref b) kv ku e =
      absurd (reference_positive (at b 0)
      (omega (arith, shows.placed.behind b 0 ku (first_block b ku))) (sym e))
  one_value (values.Int k) values.Nil kv ku e = absurd (number_positive k e)
  one_value (values.Int k) (values.Int l) kv ku e = ap values.Int (one_number k l e)
  one_value (values.Int k) (values.Ref b) kv ku e = absurd (number-reference k (at b 0) e)
  one_value (values.Ref a) values.Nil kv ku e =
      absurd (reference_positive (at a 0)
      (omega (arith, shows.placed.behind a 0 kv (first_block a kv))) e)
  one_value (values.Ref a) (values.Int k) kv ku e = absurd (number-reference k (at a 0) (sym e))
  one_value (values.Ref a) (values.Ref b) kv ku e =
      ap values.Ref (one_name a b
      (apart W K (object_of g) at w shows.numbered shows.written a b 0 0 kv ku
      (first_block a kv) (first_block b ku) (one_reference (at a 0) (at b 0) e)).0)

  -- their words are one exactly where they are the same
  pub words_tell : (v u : Value) → IsValueOf K v → IsValueOf K u
      → eqb (value_word (heads at) v) (value_word (heads at) u) ≡ same_value v u
  words_tell v u kv ku = elim (cases_eq (value_word (heads at) v) (value_word (heads at) u)) [
    | inl e ↦ eq-eqb _ _ e
        ∙ sym (subst (λ y. same_value v y ≡ true) (one_value v u kv ku e) (same_as_itself v))
    | inr ne ↦ elim (cases_Bool (same_value v u)) [
      | inl is ↦ absurd (ne (ap (value_word (heads at)) (values_one v u is)))
      | inr is ↦ ne_eqb _ _ ne ∙ sym is
    ]
  ]

  -- blocks of kept objects are apart
  pub blocks_apart : (a b : Name) (o p : ℕ) → K a → K b → o < object_blocks W (object_of g a)
      → p < object_blocks W (object_of g b) → at a o ≡ at b p → (a ≡ b) × (o ≡ p)
  blocks_apart a b o p ka kb ol pl e = let one =
      apart W K (object_of g) at w shows.numbered shows.written a b o p ka kb ol pl e in
      (one_name a b one.0, one.1)
