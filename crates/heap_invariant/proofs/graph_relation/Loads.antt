-- What a thread has loaded reads as the graph says.
use Rattle.std.proofs.Common.{◌≡◌, ℕ, ◌<◌, ◌≤◌, Some, IfSome, eqb, length, sym, ap, ◌∙◌, subst}
use Rattle.block_store.specs.declared.Width.{Width}
use Rattle.block_store.specs.declared.Name.{Name}
use Rattle.block_store.specs.declared.Shape.{Shape}
use Rattle.block_store.specs.declared.Value.TheVariants.{Ref}
use Rattle.block_store.specs.WideOwners.{wide_of}
use Rattle.block_store.specs.Payloads.{payload_of, target}
use Rattle.block_store.proofs.Lemmas.{target-reference}
use Rattle.never_heap.specs.Graphs.{Graph, object_of, field_of, register_of}
use Rattle.never_heap.specs.Steps.{same_value}
use Rattle.heap_invariant.specs.graph_relation.Layouts.{kind_shape}
use Rattle.heap_invariant.specs.graph_relation.Words.{value_word}
use Rattle.heap_invariant.specs.graph_relation.GraphOfWords.{IsValueOf, heads}
use Rattle.heap_invariant.specs.graph_relation.Read.{value_payload}
use Rattle.heap_invariant.specs.graph_relation.Events.{ObjectLoad, ValueLoad, GraphState, object_at, expected_at, pending_registers, HasExpected, IsAtField, ObjectIs, ValueIs, Follows}
use Rattle.heap_invariant.proofs.graph_relation.ObjectLayouts.{object_layout}
use Rattle.heap_invariant.proofs.graph_relation.WordReads.{value_read, owner_read, words_tell}
use Rattle.heap_invariant.proofs.graph_relation.CommandEvents.{expected_is, at_field, field_word}

module _ (W : Width) (n m : ℕ) (K : Name → Type 0) (at : Name → ℕ → ℕ) (s : GraphState)
    (k : Follows W n m K at s) (t : ℕ) (there : t < n) where
  pub value_shown : (v : ValueLoad) → m ≤ 65535 → ValueIs s.graph at t v
      → payload_of v.word ≡ Some (value_payload (heads at) (register_of s.graph t v.origin))
  value_shown v few is = ap payload_of is.word
      ∙ value_read W n m K s.graph at s.words (pending_registers s.loads) k.shows
      (register_of s.graph t v.origin) few
      (k.shows.closed.registers t v.origin there is.origin)

  -- the word of a field and the one with which it is compared are one exactly where the values are
  -- the same
  pub compared : (a : Name) (i j : ℕ) → IsAtField W s t a i j → HasExpected s t
      → eqb (s.words.payload (object_at s t).block j) (expected_at s t).word
      ≡ same_value (field_of (object_of s.graph a) i)
      (register_of s.graph t (expected_at s t).origin)
  compared a i j q has =
      let v = expected_is W n m K at s k t there has in
      let kept = (at_field W n m K at s k t a i j there q).0 in
      ap (λ x. eqb x (expected_at s t).word) (field_word W n m K at s k t a i j there q)
      ∙ ap (λ y. eqb (value_word (heads at) (field_of (object_of s.graph a) i)) y) v.word
      ∙ words_tell W n m K s.graph at s.words (pending_registers s.loads) k.shows
      (field_of (object_of s.graph a) i) (register_of s.graph t (expected_at s t).origin)
      (k.shows.closed.fields a i kept)
      (k.shows.closed.registers t (expected_at s t).origin there v.origin)

  pub name_shown : (v : ValueLoad) (a : Name) → ValueIs s.graph at t v
      → register_of s.graph t v.origin ≡ Ref a
      → wide_of (s.words.owner (target v.word))
      ≡ Some (record { thread = a.thread; serial = a.serial; ordinal = 0 })
  name_shown v a is refers =
      let kept : K a = subst (λ x. IsValueOf K x) refers
      (k.shows.closed.registers t v.origin there is.origin) in
      let block : target v.word ≡ at a 0 =
      ap target (is.word ∙ ap (value_word (heads at)) refers) ∙ target-reference (at a 0) in
      ap (λ x. wide_of (s.words.owner x)) block
      ∙ owner_read W n m K s.graph at s.words (pending_registers s.loads) k.shows a 0 kept
      (object_layout W (object_of s.graph a)).first

pub length_shown : (W : Width) (t : ℕ) (at : Name → ℕ → ℕ) (g : Graph) (l : ObjectLoad)
    (f : Shape) (a : Name) → ObjectIs W g at t l → l.shape ≡ Some f
    → register_of g t l.source ≡ Ref a
    → f ≡ kind_shape (object_of g a).kind (length (object_of g a).fields)
length_shown W t at g l f a is read refers =
    let same : Ref is.name ≡ Ref a = sym is.refers ∙ refers in
    let one : is.name ≡ a = cc in
    subst (λ b. f ≡ kind_shape (object_of g b).kind (length (object_of g b).fields)) one
    (subst (λ o. IfSome o (λ f. f
    ≡ kind_shape (object_of g is.name).kind
    (length (object_of g is.name).fields))) read is.shape)
