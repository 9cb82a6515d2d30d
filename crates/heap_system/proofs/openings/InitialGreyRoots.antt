-- The opening's grey blocks are the roots, each alone in its list; the blocks of its arrays are not
-- Free; each place has a word that it can hold; and each payload refers to a block of the arrays.
use Rattle.std.proofs.Common.{◌≡◌, ℕ, zero, suc, ◌+◌, ◌-◌, ◌<◌, ◌≤◌, Bool, true, false, cond, ◌&&◌, eqb, leb, ltb, eqb-true, leb-true, ltb-true, eq-eqb, ne_eqb, lt-ltb, le-ltb, le-leb, Option, Some, IsSome, [], ◌∷◌, refl, sym, ap, ◌∙◌, subst, arith, inl, inr}
use Rattle.std.proofs.lemmas.Bool.{cases_Bool, cases_eq, cases_lt, and_parts, and_from}
use Rattle.block_store.specs.declared.Config.{Config}
use Rattle.block_store.specs.declared.Colour.{Colour}
use Rattle.block_store.specs.declared.Colour.TheVariants as colours
use Rattle.block_store.specs.declared.WideOwner.{WideOwner}
use Rattle.block_store.specs.declared.TheConstants.{REGISTERS}
use Rattle.block_store.specs.declared.Width.{Width}
use Rattle.block_store.specs.declared.Payload.TheVariants as held
use Rattle.block_store.specs.declared.Shape.TheVariants as shapes
use Rattle.block_store.specs.declared.Name.{Name}
use Rattle.block_store.specs.declared.Value.{Value}
use Rattle.block_store.specs.declared.Value.TheVariants as values
use Rattle.block_store.specs.Configs.{IsInBounds}
use Rattle.block_store.specs.Colours.{is_grey, is_free, link, grey_word, white_word, free_word, colour_of, colour_code, colour_link, IsColour}
use Rattle.block_store.specs.Heaps.{Heap}
use Rattle.block_store.specs.WideOwners.{wide_word, wide_of}
use Rattle.block_store.specs.Payloads.{payload_of, reference_word}
use Rattle.block_store.specs.Phases.{bit}
use Rattle.block_store.specs.Places.{Place, Phase, Cursor, FreeCount, GreyList, FreeList, ColourOf, OwnerOf, ShapeOf, PayloadOf, extent, in_range, is_block}
use Rattle.block_store.specs.Registers.{root_block, registers_end, register_thread, register_ordinal}
use Rattle.block_store.specs.Widths.{payloads}
use Rattle.block_store.proofs.Lemmas.{arrays_small, colour-code, grey_grey, kind-zero, link-grey, many, not_free_grey, not_free_white, not_grey_free, not_grey_white, one_root, ordinal_low, payload-code, read_wide, reads, root_in, root_is, root_low, root_ordinal, root_some, shape-code, target-nil, target-reference, thread_low, total_none}
use Rattle.block_store.specs.Shapes.{shape_of, array_word, record_word}
use Rattle.rate_plan.specs.Rates.{IsAdmitted}
use Rattle.object_lists.specs.Parts.{Part, Link, Field, Blank}
use Rattle.array_trees.specs.Trees.{array_blocks}
use Rattle.array_trees.specs.Levels.{array_part}
use Rattle.array_trees.proofs.Arrays.{tree_layout}
use Rattle.array_trees.proofs.Counts.{few_shared}
use Rattle.array_trees.proofs.RegisterArrays.{array_of}
use Rattle.never_heap.specs.Graphs.{start_graph, shared_name, register_of}
use Rattle.never_heap.proofs.Lemmas.{register_of_start}
use Rattle.heap_invariant.specs.graph_relation.Words.{part_word, value_word}
use Rattle.heap_invariant.specs.graph_relation.InitialHeaps.{register_word, shared_word}
use Rattle.array_trees.specs.InitialHeaps.{opening_blocks}
use Rattle.block_store.specs.Counts.{total}
use Rattle.heap_machine.specs.Grey.{GreyInHand, no_grey, Stands, GreyKept}
use Rattle.heap_machine.specs.Readings.{CanHold, IsPhaseWord, IsHeld}
use Rattle.heap_system.specs.InitialHeaps.{is_root, opening_colour, opening_heap}

some_is : {A : Type 0} (o : Option A) (x : A) → o ≡ Some x → IsSome o
some_is o x e = subst (λ p. IsSome p) (sym e) refl

-- how often x is a root of n threads
no_root : (w : Width) (n x : ℕ) → ((t : ℕ) → t < n → x ≡ root_block w t → ⊥) → total n (λ t. bit (eqb x (root_block w t)) + 0) ≡ 0
no_root w n x ne = total_none n (λ t. bit (eqb x (root_block w t)) + 0) (λ t tl. rw (ne_eqb x (root_block w t) (ne t tl)) refl)

root_once : (w : Width) (n x t : ℕ) → t < n → x ≡ root_block w t → total n (λ u. bit (eqb x (root_block w u)) + 0) ≡ 1
root_once w zero x t tl e = absurd (omega arith)
root_once w (suc n) x t tl e = elim (cases_eq t n) [
  | inl s ↦
      let none = no_root w n x (λ u ul q. let same : u ≡ t = one_root w u t (sym q ∙ e) in omega arith) in
      let here : bit (eqb x (root_block w n)) ≡ 1 = ap bit (eq-eqb x (root_block w n) (e ∙ ap (root_block w) s)) in omega arith
  | inr ne ↦
      let below = root_once w n x t (omega arith) e in
      let here : bit (eqb x (root_block w n)) ≡ 0 = ap bit (ne_eqb x (root_block w n) (λ q. ne (one_root w t n (sym e ∙ q)))) in omega arith
]

-- a root is the first block of a thread's registers
pub is_of_thread : (w : Width) (n x : ℕ) → 1 ≤ x → (leb x (registers_end w n) && eqb (register_ordinal w x) 0) ≡ true → (register_thread w x < n) × (x ≡ root_block w (register_thread w x))
is_of_thread w n x some e =
    let p = and_parts (leb x (registers_end w n)) (eqb (register_ordinal w x) 0) e in
    (thread_low w n x some (leb-true x (registers_end w n) p.0), root_is w x some (eqb-true (register_ordinal w x) 0 p.1))

pub is_the_root : (w : Width) (n t : ℕ) → t < n → (leb (root_block w t) (registers_end w n) && eqb (register_ordinal w (root_block w t)) 0) ≡ true
is_the_root w n t tl = and_from _ _ (le-leb (root_block w t) (registers_end w n) (root_in w n t tl)) (eq-eqb (register_ordinal w (root_block w t)) 0 (root_ordinal w t))

white_even : white_word 1 ≡ 1
unfolding white_word
white_even = refl

owner_zero : wide_word 0 0 0 ≡ 0
unfolding wide_word
owner_zero = refl

record_zero : record_word 0 ≡ 0
unfolding record_word
record_zero = refl

module _ (c : Config) (bounds : IsInBounds c) (plan : IsAdmitted c) where
  last_low : opening_blocks c + 1 ≤ c.blocks
  last_low = omega (arith, plan.opens, plan.room)

  some_shared : 1 ≤ array_blocks c.width c.shared
  some_shared = omega (arith, (tree_layout (payloads c.width) c.shared (many c.width)).first)

  pub block_in : (x : ℕ) → 1 ≤ x → x ≤ c.blocks → is_block (extent c) x ≡ true
  block_in x some low = and_from _ _ (le-leb 1 x some) (le-leb x c.blocks low)

  -- the colours of the opening
  colour_grey : (x : ℕ) → is_grey (opening_colour c x) ≡ is_root c x
  colour_grey x = elim (cases_Bool (is_root c x)) [
    | inl e ↦ rw e (grey_grey 0)
    | inr e ↦ rw e (elim (cases_Bool (leb x (opening_blocks c))) [
      | inl f ↦ rw f (not_grey_white 1)
      | inr f ↦ rw f (not_grey_free (cond (ltb x c.blocks) (x + 1) 0))
    ])
  ]

  colour_solid : (x : ℕ) → x ≤ opening_blocks c → is_free (opening_colour c x) ≡ false
  colour_solid x low = elim (cases_Bool (is_root c x)) [
    | inl e ↦ rw e (not_free_grey 0)
    | inr e ↦ rw e (rw (le-leb x (opening_blocks c) low) (not_free_white 1))
  ]

  colour_held : (x : ℕ) (w : ℕ) (k : Colour) → w ≡ colour_code k → IsColour k → colour_link k ≤ c.blocks → CanHold (extent c) (ColourOf x) w
  colour_held x w k is fits low =
      let r : colour_of w ≡ Some k = ap colour_of is ∙ colour-code k fits in
      (some_is (colour_of w) k r, subst (λ n. n ≤ c.blocks) (reads w k r).2 low)

  free_link_low : (x : ℕ) → cond (ltb x c.blocks) (x + 1) 0 ≤ c.blocks
  free_link_low x = elim (cases_lt x c.blocks) [
    | inl l ↦ rw (lt-ltb x c.blocks l) (omega arith)
    | inr l ↦ rw (le-ltb x c.blocks l) (omega arith)
  ]

  opening_colour_held : (x : ℕ) → CanHold (extent c) (ColourOf x) (opening_colour c x)
  opening_colour_held x = elim (cases_Bool (is_root c x)) [
    | inl e ↦ rw e (colour_held x (grey_word 0) (colours.Grey 0) refl (omega arith) (omega arith))
    | inr e ↦ rw e (elim (cases_Bool (leb x (opening_blocks c))) [
      | inl f ↦ rw f (colour_held x (white_word 1) colours.Even white_even tt (omega arith))
      | inr f ↦ rw f (colour_held x (free_word (cond (ltb x c.blocks) (x + 1) 0)) (colours.Free (cond (ltb x c.blocks) (x + 1) 0)) refl (omega (arith, free_link_low x, bounds.blocks)) (free_link_low x))
    ])
  ]

  -- the owners and shapes
  owner_held : (t o : ℕ) → t ≤ 16 → o ≤ 1023 → IsSome (wide_of (wide_word t 0 o))
  owner_held t o tl ol = let owner : WideOwner = record { thread = t; serial = 0; ordinal = o } in some_is (wide_of (wide_word t 0 o)) owner (read_wide t 0 o tl ol)

  no_owner : IsSome (wide_of 0)
  no_owner = subst (λ w. IsSome (wide_of w)) owner_zero (owner_held 0 0 (omega arith) (omega arith))

  shape_held : (e : ℕ) → e ≤ 65535 → IsSome (shape_of (array_word e))
  shape_held e el = some_is (shape_of (array_word e)) (shapes.Tree e) (shape-code (shapes.Tree e) el)

  no_shape : IsSome (shape_of 0)
  no_shape = subst (λ w. IsSome (shape_of w)) record_zero (some_is (shape_of (record_word 0)) (shapes.List 0) (shape-code (shapes.List 0) (omega arith)))

  abbrev shared_first : ℕ
  shared_first = registers_end c.width c.threads + 1

  array_room : (t : ℕ) → t < c.threads → root_block c.width t + array_blocks c.width REGISTERS ≤ opening_blocks c + 1
  array_room t tl = omega (arith, root_low c.width c.threads t tl, array_of c.width)

  -- what holds of nothing, and of a reference to a block of the arrays, holds of each payload
  module _ (P : ℕ → Type 0) (nothing : P 0) (block : (y : ℕ) → 1 ≤ y → y ≤ opening_blocks c → P (reference_word y)) where
    -- a part of an array whose blocks are those from this one on
    part_is : (head : Name → ℕ) (first : ℕ) (field : ℕ → Value) (e o j : ℕ) → 1 ≤ first → first + array_blocks c.width e ≤ opening_blocks c + 1
        → ((i : ℕ) → i < e → P (value_word head (field i))) → P (part_word head (λ p. first + p) field (array_part c.width e o j))
    part_is head first field e o j some low fields = by (array_part c.width e o j) refl
      where
        by : (p : Part) → array_part c.width e o j ≡ p → P (part_word head (λ p. first + p) field p)
        by (Link q) is = let within = ((tree_layout (payloads c.width) e (many c.width)).onward o j q is).2 in block (first + q) (omega arith) (omega arith)
        by (Field i) is = fields i ((tree_layout (payloads c.width) e (many c.width)).slots o j i is).0
        by Blank is = nothing

    register_is : (t o j : ℕ) → t < c.threads → P (register_word c t o j)
    register_is t o j tl = part_is (λ a. shared_first) (root_block c.width t) (register_of (start_graph c) t) REGISTERS o j (root_some c.width t) (array_room t tl)
        (λ i il. subst (λ v. P (value_word (λ a. shared_first) v)) (sym (register_of_start c t i tl il)) (by (eqb i 0)))
      where
        by : (b : Bool) → P (value_word (λ a. shared_first) (cond b (values.Ref (shared_name c.threads)) values.Nil))
        by true = block shared_first (omega arith) (omega (arith, some_shared))
        by false = nothing

    shared_is : (o j : ℕ) → P (shared_word c o j)
    shared_is o j = part_is (λ a. shared_first) shared_first (λ i. values.Nil) c.shared o j (omega arith) (omega arith) (λ i il. nothing)

    pub payload_is : (x j : ℕ) → 1 ≤ x → P (opening_heap c (PayloadOf x j))
    payload_is x j some = elim (cases_Bool (leb x (registers_end c.width c.threads))) [
      | inl e ↦ rw e (register_is (register_thread c.width x) (register_ordinal c.width x) j (thread_low c.width c.threads x some (leb-true x (registers_end c.width c.threads) e)))
      | inr e ↦ rw e (elim (cases_Bool (leb x (opening_blocks c))) [
        | inl f ↦ rw f (shared_is (x - shared_first) j)
        | inr f ↦ rw f nothing
      ])
    ]

  nothing_held : (x j : ℕ) → CanHold (extent c) (PayloadOf x j) 0
  nothing_held x j = (some_is (payload_of 0) held.Nil (payload-code held.Nil tt), omega (arith, target-nil))

  block_held : (x j y : ℕ) → 1 ≤ y → y ≤ opening_blocks c → CanHold (extent c) (PayloadOf x j) (reference_word y)
  block_held x j y some low = (some_is (payload_of (reference_word y)) (held.Block y) (payload-code (held.Block y) (some, omega (arith, bounds.blocks, last_low))), omega (arith, target-reference y, last_low))

  payload_held : (x j : ℕ) → 1 ≤ x → CanHold (extent c) (PayloadOf x j) (opening_heap c (PayloadOf x j))
  payload_held x j some = payload_is (CanHold (extent c) (PayloadOf x j)) (nothing_held x j) (block_held x j) x j some

  owner_here : (x : ℕ) → 1 ≤ x → CanHold (extent c) (OwnerOf x) (opening_heap c (OwnerOf x))
  owner_here x some = elim (cases_Bool (leb x (registers_end c.width c.threads))) [
    | inl e ↦ rw e (owner_held (register_thread c.width x) (register_ordinal c.width x) (omega (arith, thread_low c.width c.threads x some (leb-true x (registers_end c.width c.threads) e), bounds.threads)) (omega (arith, ordinal_low c.width x, (arrays_small c.width).1)))
    | inr e ↦ rw e (elim (cases_Bool (leb x (opening_blocks c))) [
      | inl f ↦ rw f (let low : x ≤ opening_blocks c = leb-true x (opening_blocks c) f in owner_held c.threads (x - shared_first) (omega (arith, bounds.threads)) (omega (arith, few_shared c.width c.shared bounds.shared)))
      | inr f ↦ rw f no_owner
    ])
  ]

  shape_here : (x : ℕ) → CanHold (extent c) (ShapeOf x) (opening_heap c (ShapeOf x))
  shape_here x = elim (cases_Bool (leb x (registers_end c.width c.threads))) [
    | inl e ↦ rw e (shape_held REGISTERS (omega arith))
    | inr e ↦ rw e (elim (cases_Bool (leb x (opening_blocks c))) [
      | inl f ↦ rw f (shape_held c.shared (omega (arith, bounds.shared)))
      | inr f ↦ rw f no_shape
    ])
  ]

  module _ (h : Heap) (words : (p : Place) → in_range (extent c) p ≡ true → h p ≡ opening_heap c p) where
    -- each place has a word that it can hold
    pub opening_held : IsPhaseWord (h Phase) → IsHeld c h
    opening_held phase Phase inp = phase
    opening_held phase Cursor inp = subst (CanHold (extent c) Cursor) (sym (words Cursor inp)) (omega arith, omega arith)
    opening_held phase FreeCount inp = subst (CanHold (extent c) FreeCount) (sym (words FreeCount inp)) (omega arith)
    opening_held phase (GreyList t) inp = subst (CanHold (extent c) (GreyList t)) (sym (words (GreyList t) inp)) (omega (arith, root_in c.width c.threads t (ltb-true t c.threads inp), last_low))
    opening_held phase (FreeList t) inp = subst (CanHold (extent c) (FreeList t)) (sym (words (FreeList t) inp)) (by (eqb t 0))
      where
        by : (b : Bool) → cond b (opening_blocks c + 1) 0 ≤ c.blocks
        by true = last_low
        by false = omega arith
    opening_held phase (ColourOf x) inp = subst (CanHold (extent c) (ColourOf x)) (sym (words (ColourOf x) inp)) (opening_colour_held x)
    opening_held phase (OwnerOf x) inp = subst (CanHold (extent c) (OwnerOf x)) (sym (words (OwnerOf x) inp)) (owner_here x (leb-true 1 x (and_parts (leb 1 x) (leb x c.blocks) inp).0))
    opening_held phase (ShapeOf x) inp = subst (CanHold (extent c) (ShapeOf x)) (sym (words (ShapeOf x) inp)) (shape_here x)
    opening_held phase (PayloadOf x j) inp = subst (CanHold (extent c) (PayloadOf x j)) (sym (words (PayloadOf x j) inp)) (payload_held x j (leb-true 1 x (and_parts (leb 1 x) (leb x c.blocks) (and_parts (leb 1 x && leb x c.blocks) (ltb j (payloads c.width)) inp).0).0))

    -- no block of the arrays is Free
    pub opening_taken : (x : ℕ) → 1 ≤ x → x ≤ opening_blocks c → is_free (h (ColourOf x)) ≡ false
    opening_taken x some low = ap is_free (words (ColourOf x) (block_in x some (omega (arith, last_low)))) ∙ colour_solid x low

    -- each root is in its list
    module _ (outside : (x : ℕ) → is_block (extent c) x ≡ false → h (ColourOf x) ≡ 0) (hs : ℕ → GreyInHand) (empty : (t : ℕ) → t < c.threads → hs t ≡ no_grey) where
      root_inside : (t : ℕ) → t < c.threads → is_block (extent c) (root_block c.width t) ≡ true
      root_inside t tl = block_in (root_block c.width t) (root_some c.width t) (omega (arith, root_in c.width c.threads t tl, last_low))

      root_colour : (t : ℕ) → t < c.threads → h (ColourOf (root_block c.width t)) ≡ grey_word 0
      root_colour t tl = words (ColourOf (root_block c.width t)) (root_inside t tl) ∙ ap (λ b. cond b (grey_word 0) (cond (leb (root_block c.width t) (opening_blocks c)) (white_word 1) (free_word (cond (ltb (root_block c.width t) c.blocks) (root_block c.width t + 1) 0)))) (is_the_root c.width c.threads t tl)

      once : (x : ℕ) → total c.threads (λ t. bit (eqb x (root_block c.width t)) + 0) ≡ bit (is_grey (h (ColourOf x)))
      once x = elim (cases_Bool (is_block (extent c) x)) [
        | inl inp ↦
            let some : 1 ≤ x = leb-true 1 x (and_parts (leb 1 x) (leb x c.blocks) inp).0 in
            let grey : is_grey (h (ColourOf x)) ≡ is_root c x = ap is_grey (words (ColourOf x) inp) ∙ colour_grey x in
            elim (cases_Bool (is_root c x)) [
              | inl e ↦ (let r = is_of_thread c.width c.threads x some e in root_once c.width c.threads x (register_thread c.width x) r.0 r.1 ∙ sym (ap bit (grey ∙ e)))
              | inr e ↦ no_root c.width c.threads x (λ t tl is. (let z : true ≡ false = sym (is_the_root c.width c.threads t tl) ∙ sym (ap (is_root c) is) ∙ e in absurd cc)) ∙ sym (ap bit (grey ∙ e))
            ]
        | inr out ↦
            no_root c.width c.threads x (λ t tl is. (let z : true ≡ false = sym (root_inside t tl) ∙ sym (ap (is_block (extent c)) is) ∙ out in absurd cc))
            ∙ sym (ap (λ w. bit (is_grey w)) (outside x out) ∙ ap (λ k. bit (eqb k 3)) kind-zero)
      ]

      pub opening_grey : GreyKept c.threads h hs
      opening_grey = record {
        lists = λ t. (root_block c.width t) ∷ [];
        private_lists = λ t. [];
        list_chain = λ t tl. (words (GreyList t) (lt-ltb t c.threads tl), λ z. omega (arith, z, root_some c.width t), ap link (root_colour t tl) ∙ link-grey 0);
        private_chain = λ t tl. subst (λ (v : GreyInHand). Stands (λ x. h (ColourOf x)) v.scan v.list []) (sym (empty t tl)) refl;
        once = λ x. (let none : total c.threads (λ t. 0) ≡ 0 = total_none c.threads (λ t. 0) (λ u ul. refl) in omega (arith, once x, none));
        emptied = λ t tl e. absurd (let z : false ≡ true = sym (ap (λ (v : GreyInHand). v.emptied) (empty t tl)) ∙ e in cc);
      }
