-- The events of the example may come one after another, and its record is one that was made.
use Rattle.std.proofs.Common.{zero, suc, ◌+◌, ◌*◌, ◌≡◌, ◌≢◌, ℕ, ◌<◌, Some, None, take, cond, eqb, ltb, inl, inr, refl, sym, ap, ◌∙◌, ne_eqb, arith}
use Rattle.std.proofs.lemmas.Bool.{cases_Bool}
use Rattle.block_store.specs.declared.Shape.TheVariants as shapes
use Rattle.block_store.specs.declared.Value.TheVariants.{Int, Ref}
use Rattle.block_store.specs.WideOwners.{wide_word}
use Rattle.block_store.specs.Payloads.{target, reference_word, number_word}
use Rattle.block_store.specs.Shapes.{shape_of, array_word}
use Rattle.block_store.specs.declared.Width.TheVariants.{Four, Eight}
use Rattle.block_store.specs.declared.Width.{Width}
use Rattle.block_store.specs.Widths.{payloads}
use Rattle.block_store.specs.Registers.{registers_end}
use Rattle.array_trees.specs.Trees.{tree}
use Rattle.array_trees.specs.Levels.{tree_depth}
use Rattle.never_heap.specs.Graphs.{Record, start_graph, register_of}
use Rattle.object_lists.specs.Parts.{Field, link_in}
use Rattle.object_lists.specs.Records.{list_part}
use Rattle.heap_invariant.specs.graph_relation.Layouts.{layout_blocks, layout_part, shape_part}
use Rattle.heap_invariant.specs.graph_relation.Made.{IsMade, IsWritten, link_word}
use Rattle.heap_invariant.specs.graph_relation.InitialHeaps.{opening_words}
use Rattle.heap_invariant.proofs.graph_relation.Publish.{written_shows}
use Rattle.heap_invariant.specs.graph_relation.Events.{GraphState, object_at, register_word_in, IsAtField, run, Guarded, opening_state}
use Rattle.heap_invariant.specs.graph_relation.Example.{small_config, wide_config, shared_array, some_events, with_record}

-- what one event asks, and then the others
infixr 5 ◌▸◌
◌▸◌ : {A B : Type 0} → A → B → A × B
a ▸ b = (a, b)

-- the state after the first of the events
abbrev after : Width → ℕ → GraphState
after W k = run W (opening_state (small_config W)) (take k some_events)

-- register 0 of the thread refers to the array
abbrev register_at : Width → ℕ → ℕ → ℕ
register_at W k t = target (register_word_in W (after W k).words t 0)

found : (W : Width) → (register_at W 1 0 ≢ 0) × (register_at W 5 1 ≢ 0) × (register_at W 9 0 ≢ 0)
    × (register_at W 13 1 ≢ 0) × (register_at W 19 1 ≢ 0)
unfolding target reference_word number_word array_word shape_of tree tree_depth
found Four = (
  (λ e. omega arith),
  (λ e. omega arith),
  (λ e. omega arith),
  (λ e. omega arith),
  (λ e. omega arith),
)
found Eight = (
  (λ e. omega arith),
  (λ e. omega arith),
  (λ e. omega arith),
  (λ e. omega arith),
  (λ e. omega arith),
)

-- whose shape it reads
abbrev HasArray : Width → ℕ → ℕ → Type 0
HasArray W k t =
    shape_of ((after W k).words.shape (object_at (after W k) t).block) ≡ Some (shapes.Tree 4)

shaped : (W : Width) → HasArray W 2 0 × HasArray W 6 1 × HasArray W 10 0 × HasArray W 14 1
    × HasArray W 20 1
unfolding target reference_word number_word array_word shape_of tree tree_depth
shaped Four = (refl, refl, refl, refl, refl)
shaped Eight = (refl, refl, refl, refl, refl)

-- and its payload 2 is field 2
at_two : (W : Width) → shape_part W (shapes.Tree 4) 0 2 ≡ Field 2
unfolding tree tree_depth
at_two Four = refl
at_two Eight = refl

abbrev IsAtTwo : Width → ℕ → ℕ → Type 0
IsAtTwo W k t = IsAtField W (after W k) t shared_array 2 2

at_field : (W : Width) → IsAtTwo W 4 0 × IsAtTwo W 7 1 × IsAtTwo W 12 0 × IsAtTwo W 16 1
    × IsAtTwo W 23 1
at_field W = (
  record { object = refl; refers = refl; shape = shapes.Tree 4; read = refl; field = at_two W },
  record { object = refl; refers = refl; shape = shapes.Tree 4; read = refl; field = at_two W },
  record { object = refl; refers = refl; shape = shapes.Tree 4; read = refl; field = at_two W },
  record { object = refl; refers = refl; shape = shapes.Tree 4; read = refl; field = at_two W },
  record { object = refl; refers = refl; shape = shapes.Tree 4; read = refl; field = at_two W },
)

pub example_runs : (W : Width) → Guarded W 2 (opening_state (small_config W)) some_events
unfolding target reference_word number_word array_word shape_of tree tree_depth
example_runs W =
    (omega arith, omega arith, refl, omega arith)
    ▸ (omega arith, omega arith, refl, (found W).0)
    ▸ (omega arith, refl, (shaped W).0)
    ▸ (omega arith, omega arith, refl)
    ▸ (omega arith, refl, refl, (at_field W).0)
    ▸ (omega arith, omega arith, refl, (found W).1)
    ▸ (omega arith, refl, (shaped W).1)
    ▸ (omega arith, omega arith, refl, (at_field W).1)
    ▸ (omega arith, refl, refl)
    ▸ (omega arith, omega arith, refl, (found W).2)
    ▸ (omega arith, refl, (shaped W).2)
    ▸ (omega arith, omega arith, refl)
    ▸ (omega arith, refl, refl, (at_field W).2)
    ▸ (omega arith, omega arith, refl, (found W).3)
    ▸ (omega arith, refl, (shaped W).3)
    ▸ (omega arith, omega arith, refl)
    ▸ (omega arith, refl, refl, (at_field W).3)
    ▸ (omega arith, refl, refl)
    ▸ (omega arith, refl, refl)
    ▸ (omega arith, omega arith, refl, (found W).4)
    ▸ (omega arith, refl, (shaped W).4)
    ▸ (omega arith, omega arith, refl)
    ▸ (omega arith, omega arith, refl)
    ▸ (omega arith, refl, refl, (at_field W).4)
    ▸ (omega arith, refl)
    ▸ tt

pub example_reads : (W : Width)
    → register_of (run W (opening_state (small_config W)) some_events).graph 1 2 ≡ Int 7
example_reads Four = refl
example_reads Eight = refl

-- thread 0 has what the field held, and thread 1 a reference to the array in its place
pub example_swaps : (W : Width)
    → (register_of (run W (opening_state (small_config W)) some_events).graph 0 0 ≡ Int 7)
    × (register_of (run W (opening_state (small_config W)) some_events).graph 1 0
    ≡ Ref shared_array)
example_swaps Four = (refl, refl)
example_swaps Eight = (refl, refl)

-- no payload of a record but the first is a link
no_link : (k f o j : ℕ) → link_in (list_part k f o (suc j)) ≡ None
no_link k f o j = elim (cases_Bool (ltb j k)) [
  | inr out ↦ rw out refl
  | inl in_row ↦ elim (cases_Bool (ltb (o * k + j) f)) [
    | inl is ↦ rw (in_row, is) refl
    | inr is ↦
        rw (in_row, is) refl
  ]
]

-- a write at payload 0 is none at another
not_first : (j v : ℕ) → cond (eqb (suc j) 0) v 0 ≡ 0
not_first j v = rw (ne_eqb (suc j) 0 (λ e. absurd (omega arith))) refl

links : (W : Width) (o j : ℕ) → o < 2
    → (with_record W (opening_words (small_config W))).payload (12 + o) j
    ≡ link_word (λ p. 12 + p) (link_in (layout_part W Record (payloads W) o j))
unfolding reference_word tree tree_depth
links Four zero zero ol = refl
links Four zero (suc j) ol = not_first j 26 ∙ sym (ap (link_word (λ p. 12 + p)) (no_link 3 4 0 j))
links Four (suc zero) zero ol = refl
links Four (suc zero) (suc j) ol = sym (ap (link_word (λ p. 12 + p)) (no_link 3 4 1 j))
links Four (suc (suc o)) j ol = absurd (omega arith)
links Eight zero zero ol = refl
links Eight zero (suc j) ol = not_first j 26 ∙ sym (ap (link_word (λ p. 12 + p)) (no_link 7 8 0 j))
links Eight (suc zero) zero ol = refl
links Eight (suc zero) (suc j) ol = sym (ap (link_word (λ p. 12 + p)) (no_link 7 8 1 j))
links Eight (suc (suc o)) j ol = absurd (omega arith)

written : (W : Width) (o : ℕ) → o < 2
    → IsWritten W (with_record W (opening_words (small_config W)))
    (record { thread = 0; serial = 1 }) Record (payloads W) (λ p. 12 + p) o
written W zero ol = record { owned = refl; shaped = refl; links = λ j jl. links W zero j ol }
written W (suc zero) ol =
    record { owned = refl; shaped = refl; links = λ j jl. links W (suc zero) j ol }
written W (suc (suc o)) ol = absurd (omega arith)

two : (W : Width) → layout_blocks W Record (payloads W) ≡ 2
two Four = refl
two Eight = refl

end_low : (W : Width) → registers_end W 2 < 12
end_low Four = omega arith
end_low Eight = omega arith

pub example_made : (W : Width)
    → IsMade W 2 13 (start_graph (small_config W))
    (with_record W (opening_words (small_config W))) 0 Record (payloads W) (λ o. 12 + o)
example_made W = record {
  thread = omega arith;
  few_threads = omega arith;
  serial = omega arith;
  ordinals = omega (arith, two W);
  behind = λ o ol. omega (arith, end_low W);
  within = λ o ol. omega (arith, two W, ol);
  blocks = λ o ol. written_shows W (λ a. 0) (with_record W (opening_words (small_config W)))
      (record { thread = 0; serial = 1 }) Record (payloads W) (λ p. 12 + p) o
      (written W o (omega (arith, two W, ol)));
}

pub wide_root : ((opening_words wide_config).payload 1 0 ≡ 4)
    × ((opening_words wide_config).payload 1 1 ≡ 6)
unfolding reference_word tree tree_depth
wide_root = (refl, refl)

-- what is 0 from 2 on
zeros : (f : ℕ → ℕ) → f 2 ≡ 0 → f 3 ≡ 0 → f 4 ≡ 0 → f 5 ≡ 0 → f 6 ≡ 0 → f 7 ≡ 0
    → (j : ℕ) → 1 < j → j < 8 → f j ≡ 0
zeros f c d e g h i zero low high = absurd (omega arith)
zeros f c d e g h i (suc zero) low high = absurd (omega arith)
zeros f c d e g h i (suc (suc zero)) low high = c
zeros f c d e g h i (suc (suc (suc zero))) low high = d
zeros f c d e g h i (suc (suc (suc (suc zero)))) low high = e
zeros f c d e g h i (suc (suc (suc (suc (suc zero))))) low high = g
zeros f c d e g h i (suc (suc (suc (suc (suc (suc zero)))))) low high = h
zeros f c d e g h i (suc (suc (suc (suc (suc (suc (suc zero))))))) low high = i
zeros f c d e g h i (suc (suc (suc (suc (suc (suc (suc (suc j)))))))) low high =
    absurd (omega arith)

pub wide_root_rest : (j : ℕ) → 1 < j → j < 8 → (opening_words wide_config).payload 1 j ≡ 0
unfolding reference_word tree tree_depth
wide_root_rest =
    zeros (λ j. (opening_words wide_config).payload 1 j) refl refl refl refl refl refl

pub wide_registers : (opening_words wide_config).payload 2 0 ≡ 8
unfolding reference_word tree tree_depth
wide_registers = refl

pub wide_rest : (j : ℕ) → 0 < j → j < 8 → (opening_words wide_config).payload 2 j ≡ 0
unfolding reference_word tree tree_depth
wide_rest zero low high = absurd (omega arith)
wide_rest (suc zero) low high = refl
wide_rest (suc (suc j)) low high =
    zeros (λ j. (opening_words wide_config).payload 2 j) refl refl refl refl refl refl
    (suc (suc j)) (omega arith) high

pub wide_shared : ((opening_words wide_config).owner 4 ≡ 1099511627776)
    × ((opening_words wide_config).shape 4 ≡ 1)
unfolding wide_word array_word tree
wide_shared = (refl, refl)
