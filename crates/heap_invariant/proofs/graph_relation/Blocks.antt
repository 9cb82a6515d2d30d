-- What the words of kept objects show after a write, and after a change of the graph.
use Rattle.std.proofs.Common.{◌≡◌, ℕ, ◌<◌, inl, inr, true, false, cond, ◌&&◌, eqb, length, refl, sym, ap, ◌∙◌, subst, eq-eqb, ne_eqb}
use Rattle.std.proofs.lemmas.Bool.{cases_Bool, eqb-true, and_parts}
use Rattle.std.proofs.lemmas.List.{length-set}
use Rattle.block_store.specs.declared.Width.{Width}
use Rattle.block_store.specs.declared.Name.{Name}
use Rattle.block_store.specs.declared.Value.{Value}
use Rattle.block_store.specs.declared.Value.TheVariants.{Nil}
use Rattle.never_heap.specs.Graphs.{Object, same_name, field_of, set_field}
use Rattle.never_heap.proofs.Lemmas.{get_or_set, one_name}
use Rattle.object_lists.specs.Parts.{Part, Link, Field, Blank}
use Rattle.heap_invariant.specs.graph_relation.Layouts.{layout_blocks, layout_part, object_blocks, object_part, object_slot}
use Rattle.heap_invariant.specs.graph_relation.Words.{Agrees, BlockWords, value_word, part_word, kind_word, with_payload}
use Rattle.heap_invariant.specs.graph_relation.GraphOfWords.{heads, BlockShows, Written, Numbered}
use Rattle.heap_invariant.proofs.graph_relation.Names.{apart, true≢false}
use Rattle.heap_invariant.proofs.graph_relation.ObjectLayouts.{object_layout}

pub block_stays : (W : Width) (head : Name → ℕ) (w u : BlockWords) (a : Name) (object : Object)
    (block_of : ℕ → ℕ) (o : ℕ) → Agrees W w u (block_of o)
    → BlockShows W head w a object block_of o → BlockShows W head u a object block_of o
block_stays W head w u a object block_of o same k = record {
  owned = same.owners ∙ k.owned;
  shaped = same.shapes ∙ k.shaped;
  words = λ j jl. same.payloads j jl ∙ k.words j jl;
}

-- a word at another payload or block is as it was
pub payload_other : (w : BlockWords) (x j v y k : ℕ) → eqb x y && eqb j k ≡ false
    → (with_payload w x j v).payload y k ≡ w.payload y k
payload_other w x j v y k is = ap (λ b. cond b v (w.payload y k)) is

pub payload_here : (w : BlockWords) (x j v y k : ℕ) → eqb x y && eqb j k ≡ true
    → (with_payload w x j v).payload y k ≡ v
payload_here w x j v y k is = ap (λ b. cond b v (w.payload y k)) is

pub other_block : (W : Width) (w : BlockWords) (x j v y : ℕ) → (x ≡ y → ⊥)
    → Agrees W w (with_payload w x j v) y
other_block W w x j v y ne =
    record {
      owners = refl;
      shapes = refl;
      payloads = λ k kl. payload_other w x j v y k (rw (ne_eqb x y ne) refl);
    }

-- a part of an object after a store in a field that it is not
part_other : (head : Name → ℕ) (block_of : ℕ → ℕ) (object : Object) (i : ℕ) (v : Value) (p : Part)
    → i < length object.fields → (p ≡ Field i → ⊥)
    → part_word head block_of (field_of (set_field object i v)) p
    ≡ part_word head block_of (field_of object) p
part_other head block_of object i v (Link o) h ne = refl
part_other head block_of object i v (Field k) h ne =
    ap (value_word head) (get_or_set object.fields i k v Nil h
    ∙ ap (λ t. cond t v (field_of object k)) (ne_eqb i k (λ e. ne (ap Field (sym e)))))
part_other head block_of object i v Blank h ne = refl

part_here : (head : Name → ℕ) (block_of : ℕ → ℕ) (object : Object) (i : ℕ) (v : Value) (p : Part)
    → i < length object.fields → p ≡ Field i
    → part_word head block_of (field_of (set_field object i v)) p ≡ value_word head v
part_here head block_of object i v p h e =
    ap (part_word head block_of (field_of (set_field object i v))) e
    ∙ ap (value_word head) (get_or_set object.fields i i v Nil h
    ∙ ap (λ t. cond t v (field_of object i)) (eq-eqb i i refl))

module _ (W : Width) (head : Name → ℕ) (w : BlockWords) (a : Name) (object : Object)
    (block_of : ℕ → ℕ) (i : ℕ) (v : Value) (within : i < length object.fields) where
  -- the parts of an object's layout do not depend on its values
  part_set : (o j : ℕ) → object_part W (set_field object i v) o j ≡ object_part W object o j
  part_set o j = ap (λ n. layout_part W object.kind n o j) (length-set object.fields i v)

  -- a block of the object itself after the store, where no other ordinal is at the field's
  -- block
  own_block : (o : ℕ) → (block_of (object_slot W object i).0 ≡ block_of o
      → (object_slot W object i).0 ≡ o) → BlockShows W head w a object block_of o
      → BlockShows W head (with_payload w (block_of (object_slot W object i).0)
      (object_slot W object i).1 (value_word head v)) a (set_field object i v) block_of o
  own_block o one k =
      let laws = object_layout W object in
      record {
        owned = k.owned;
        shaped = k.shaped ∙ ap (kind_word object.kind) (sym (length-set object.fields i v));
        words = λ j jl. elim (cases_Bool
            (eqb (block_of (object_slot W object i).0) (block_of o) && eqb
            (object_slot W object i).1 j)) [
              | inl is ↦
                  let e = and_parts (eqb (block_of (object_slot W object i).0) (block_of o))
                  (eqb (object_slot W object i).1 j) is in
                  let os : (object_slot W object i).0 ≡ o = one (eqb-true _ _ e.0) in
                  let js : (object_slot W object i).1 ≡ j = eqb-true _ _ e.1 in
                  let here : object_part W object o j ≡ Field i =
                  subst (λ q. object_part W object o q ≡ Field i) js
                  (subst (λ q. object_part W object q (object_slot W object i).1 ≡ Field i) os
                  (laws.fields i within)) in
                  payload_here w _ _ _ (block_of o) j is
                  ∙ sym (part_here head block_of object i v
                  (object_part W (set_field object i v) o j) within (part_set o j ∙ here))
              | inr is ↦
                  let away : object_part W (set_field object i v) o j ≡ Field i → ⊥ = λ f.
                  (let p = laws.slots o j i (sym (part_set o j) ∙ f) in
                  let yes : eqb (block_of (object_slot W object i).0) (block_of o) && eqb
                  (object_slot W object i).1 j ≡ true =
                  rw (
                    eq-eqb (block_of (object_slot W object i).0) (block_of o)
                        (ap block_of (sym p.3)),
                    eq-eqb (object_slot W object i).1 j (sym p.4),
                  ) refl in
                  true≢false (sym yes ∙ is)) in
                  payload_other w _ _ _ (block_of o) j is ∙ k.words j jl
                  ∙ ap (part_word head block_of (field_of object)) (sym (part_set o j))
                  ∙ sym (part_other head block_of object i v
                  (object_part W (set_field object i v) o j) within away)
            ];
      }

-- a store in field i of a kept object
pub field_written : (W : Width) (K : Name → Type 0) (object object' : Name → Object)
    (at : Name → ℕ → ℕ) (w : BlockWords) (a : Name) (i : ℕ) (v : Value) → Numbered W K object
    → K a → i < length (object a).fields
    → ((b : Name) → object' b ≡ cond (same_name a b) (set_field (object a) i v) (object b))
    → Written W K object at w
    → Written W K object' at (with_payload w (at a (object_slot W (object a) i).0)
    (object_slot W (object a) i).1 (value_word (heads at) v))
field_written W K object object' at w a i v numbered ka within change written = record {
  blocks = λ b o kb ol.
      let slot : (object_slot W (object a) i).0 < object_blocks W (object a) =
      ((object_layout W (object a)).slots _ _ i
      ((object_layout W (object a)).fields i within)).1 in
      elim (cases_Bool (same_name a b)) [
        | inl same ↦
            let e : a ≡ b = one_name a b same in
            let is : object' b ≡ set_field (object a) i v =
            change b ∙ ap (λ t. cond t (set_field (object a) i v) (object b)) same in
            let low : o < object_blocks W (object a) =
            subst (λ n. o < layout_blocks W (object a).kind n)
            (length-set (object a).fields i v)
            (subst (λ (x : Object). o < object_blocks W x) is ol) in
            let old = own_block W (heads at) w a (object a) (at a) i v within o
            (λ f. (apart W K object at w numbered written a a _ o ka ka slot low f).1)
            (written.blocks a o ka low) in
            subst (λ (x : Object). BlockShows W (heads at)
            (with_payload w (at a (object_slot W (object a) i).0)
            (object_slot W (object a) i).1 (value_word (heads at) v)) b x (at b) o) (sym is)
            (subst (λ (c : Name). BlockShows W (heads at)
            (with_payload w (at a (object_slot W (object a) i).0)
            (object_slot W (object a) i).1 (value_word (heads at) v)) c
            (set_field (object a) i v) (at c) o) e old)
        | inr other ↦
            let is : object' b ≡ object b =
            change b ∙ ap (λ t. cond t (set_field (object a) i v) (object b)) other in
            let low : o < object_blocks W (object b) =
            subst (λ (x : Object). o < object_blocks W x) is ol in
            subst (λ (x : Object). BlockShows W (heads at)
            (with_payload w (at a (object_slot W (object a) i).0)
            (object_slot W (object a) i).1 (value_word (heads at) v)) b x (at b) o) (sym is)
            (block_stays W (heads at) w
            (with_payload w (at a (object_slot W (object a) i).0)
            (object_slot W (object a) i).1 (value_word (heads at) v)) b (object b) (at b) o
            (other_block W w _ _ _ (at b o)
            (λ f. true≢false
            (sym (apart W K object at w numbered written a b _ o ka kb slot low f).0
            ∙ other)))
            (written.blocks b o kb low))
      ];
}

-- writes at other blocks, in a graph with the same objects
pub others_written : (W : Width) (K L : Name → Type 0) (object object' : Name → Object)
    (at : Name → ℕ → ℕ) (w u : BlockWords) → ((a : Name) → L a → K a)
    → ((a : Name) → L a → object' a ≡ object a)
    → ((a : Name) (o : ℕ) → L a → o < object_blocks W (object a) → Agrees W w u (at a o))
    → Written W K object at w → Written W L object' at u
others_written W K L object object' at w u down same agrees written = record {
  blocks = λ a o la ol.
      let low : o < object_blocks W (object a) =
      subst (λ (x : Object). o < object_blocks W x) (same a la) ol in
      subst (λ (x : Object). BlockShows W (heads at) u a x (at a) o) (sym (same a la))
      (block_stays W (heads at) w u a (object a) (at a) o (agrees a o la low)
      (written.blocks a o (down a la) low));
}
