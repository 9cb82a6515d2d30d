-- What is in the arrays of the opening heap.
use Rattle.std.proofs.Common.{◌≡◌, ℕ, ◌+◌, ◌<◌, ◌≤◌, true, cond, Some, refl, sym, ap, ◌∙◌, arith, ne_eqb, List, length, get_or, set, inl, inr, get_or-set_same, get_or-set_other}
use Rattle.std.proofs.lemmas.Bool.{cases_eq}
use Rattle.block_store.specs.declared.Config.{Config}
use Rattle.block_store.specs.declared.Value.TheVariants.{Nil, Ref}
use Rattle.block_store.specs.Configs.{IsInBounds}
use Rattle.block_store.specs.declared.TheConstants.{REGISTERS}
use Rattle.block_store.specs.declared.Width.{Width}
use Rattle.block_store.specs.declared.Width.TheVariants.{Four, Eight}
use Rattle.block_store.specs.Registers.{root_block, registers_end}
use Rattle.block_store.specs.Widths.{payloads}
use Rattle.block_store.proofs.Lemmas.{back, below, end_few, many}
use Rattle.block_store.specs.Heaps.{heap_of}
use Rattle.block_store.specs.Payloads.{reference_word}
use Rattle.block_store.specs.Places.{Place, extent, in_range, index, place_at, words_count}
use Rattle.object_lists.specs.Parts.{Part, Link, Field, Blank, link_in}
use Rattle.object_lists.proofs.Parts.{is_link}
use Rattle.array_trees.specs.Trees.{tree, array_blocks}
use Rattle.array_trees.specs.Levels.{array_part, array_slot, tree_depth}
use Rattle.array_trees.proofs.Arrays.{tree_layout}
use Rattle.array_trees.proofs.Counts.{few_shared}
use Rattle.never_heap.specs.Graphs.{start_graph, shared_name, register_of}
use Rattle.never_heap.proofs.Lemmas.{register_of_start}
use Rattle.heap_invariant.specs.graph_relation.Words.{value_word, part_word}
use Rattle.heap_invariant.specs.graph_relation.Made.{link_word}
use Rattle.heap_invariant.specs.graph_relation.InitialHeaps.{opening_at, shared_block, register_word, shared_word}
use Rattle.array_trees.specs.InitialHeaps.{opening_blocks}
use Rattle.heap_system.specs.InitialHeaps.{opening_heap}

-- a link goes to an ordinal of the array
pub link_low : (w : Width) (e o j p : ℕ) → link_in (array_part w e o j) ≡ Some p → p < array_blocks w e
link_low w e o j p is = ((tree_layout (payloads w) e (many w)).onward o j p (is_link (array_part w e o j) p is)).2

-- the opening has at most 421 blocks that are not Free
pub last_low : (c : Config) → IsInBounds c → opening_blocks c ≤ 421
last_low c inside = omega (arith, few_shared c.width c.shared inside.shared, end_few c.width c.threads inside.threads)

-- where register 0 is in its array: after the root, in the first payload
first_slot : (w : Width) → array_slot w REGISTERS 0 ≡ (1, 0)
unfolding tree
first_slot Four = refl
first_slot Eight = refl

first_field : (w : Width) → array_part w REGISTERS 1 0 ≡ Field 0
unfolding tree tree_depth
first_field Four = refl
first_field Eight = refl

-- register 0 refers to the shared array
pub first_register : (c : Config) (t : ℕ) → t < c.threads → register_word c t 1 0 ≡ reference_word (registers_end c.width c.threads + 1)
first_register c t tl =
    ap (part_word (shared_block c) (λ p. root_block c.width t + p) (register_of (start_graph c) t)) (first_field c.width)
    ∙ ap (value_word (shared_block c)) (register_of_start c t 0 tl (omega arith))

-- the other registers are nil
pub other_register : (c : Config) (t o j : ℕ) → t < c.threads → ((o ≡ 1) → (j ≡ 0) → ⊥) → link_word (λ p. root_block c.width t + p) (link_in (array_part c.width REGISTERS o j)) ≡ register_word c t o j
other_register c t o j tl ne = shown (array_part c.width REGISTERS o j) refl
  where
    not_first : (i : ℕ) → o ≡ (array_slot c.width REGISTERS i).0 → j ≡ (array_slot c.width REGISTERS i).1 → i ≡ 0 → ⊥
    not_first i a b z =
        ne (a ∙ ap (λ k. (array_slot c.width REGISTERS k).0) z ∙ ap (λ (p : ℕ × ℕ). p.0) (first_slot c.width))
        (b ∙ ap (λ k. (array_slot c.width REGISTERS k).1) z ∙ ap (λ (p : ℕ × ℕ). p.1) (first_slot c.width))

    nil_field : (i : ℕ) → i < REGISTERS → (i ≡ 0 → ⊥) → register_of (start_graph c) t i ≡ Nil
    nil_field i il n = register_of_start c t i tl il ∙ ap (λ b. cond b (Ref (shared_name c.threads)) Nil) (ne_eqb i 0 n)

    shown : (p : Part) → array_part c.width REGISTERS o j ≡ p → link_word (λ p. root_block c.width t + p) (link_in p) ≡ part_word (shared_block c) (λ p. root_block c.width t + p) (register_of (start_graph c) t) p
    shown (Link q) e = refl
    shown (Field i) e =
        let s = (tree_layout (payloads c.width) REGISTERS (many c.width)).slots o j i e in
        sym (ap (value_word (shared_block c)) (nil_field i s.0 (not_first i s.3 s.4)))
    shown Blank e = refl

-- the elements of the shared array are nil
pub shared_links : (c : Config) (o j : ℕ) → link_word (λ p. registers_end c.width c.threads + 1 + p) (link_in (array_part c.width c.shared o j)) ≡ shared_word c o j
shared_links c o j = shown (array_part c.width c.shared o j)
  where
    shown : (p : Part) → link_word (λ p. registers_end c.width c.threads + 1 + p) (link_in p) ≡ part_word (shared_block c) (opening_at c.width c.threads (shared_name c.threads)) (λ i. Nil) p
    shown (Link q) = refl
    shown (Field i) = refl
    shown Blank = refl

-- words that are those of the opening by their numbers are so by their places
pub by_places : (c : Config) (ws : List ℕ) → length ws ≡ words_count (extent c) → ((k : ℕ) → k < words_count (extent c) → get_or ws k 0 ≡ opening_heap c (place_at (extent c) k))
    → (p : Place) → in_range (extent c) p ≡ true → heap_of (extent c) ws p ≡ opening_heap c p
by_places c ws long each p inp =
    rw inp (each (index (extent c) p) (below (extent c) p inp) ∙ ap (opening_heap c) (back (extent c) p inp))

-- one word more
pub one_more : (ws new : List ℕ) (i v : ℕ) (f : ℕ → ℕ) → i < length ws → new ≡ set ws i v → v ≡ f i → ((k : ℕ) → k < i → get_or ws k 0 ≡ f k) → (k : ℕ) → k < i + 1 → get_or new k 0 ≡ f k
one_more ws new i v f low is e below k kl = elim (cases_eq k i) [
  | inl s ↦ rw (is, s, get_or-set_same ws i v 0 low) e
  | inr n ↦ rw (is, get_or-set_other ws i k v 0 n) (below k (omega arith))
]
