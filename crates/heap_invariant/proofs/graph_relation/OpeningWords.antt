-- The opening words show the start graph.
use Rattle.std.proofs.Common.{◌≡◌, ℕ, ◌+◌, ◌-◌, ◌<◌, ◌≤◌, inl, inr, true, cond, leb, ltb, refl, sym, ap, ◌∙◌, subst, arith, eq-eqb, ne_eqb}
use Rattle.std.proofs.lemmas.Bool.{cases_eq, cases_Bool, le-leb, lt-leb}
use Rattle.std.proofs.lemmas.List.{length-replicate}
use Rattle.block_store.specs.declared.Config.{Config}
use Rattle.block_store.specs.declared.Name.{Name}
use Rattle.block_store.specs.declared.TheConstants.{REGISTERS}
use Rattle.block_store.specs.declared.Value.{Value}
use Rattle.block_store.specs.declared.Value.TheVariants.{Nil}
use Rattle.block_store.specs.Configs.{IsInBounds}
use Rattle.block_store.specs.WideOwners.{wide_word}
use Rattle.block_store.specs.Payloads.{reference_word}
use Rattle.block_store.specs.Registers.{root_block, register_block, register_slot, registers_end, register_ordinal}
use Rattle.block_store.specs.Shapes.{array_word}
use Rattle.block_store.specs.Widths.{payloads, register_blocks}
use Rattle.block_store.proofs.Lemmas.{arrays_small, many, ordinal_of, root_low, thread_of}
use Rattle.object_lists.specs.Parts.{Part, Link, Field, Blank, link_below}
use Rattle.array_trees.specs.Trees.{array_blocks}
use Rattle.array_trees.specs.Levels.{array_part, array_slot}
use Rattle.array_trees.specs.InitialHeaps.{opening_blocks}
use Rattle.array_trees.proofs.Arrays.{tree_layout}
use Rattle.array_trees.proofs.Counts.{few_shared}
use Rattle.array_trees.proofs.RegisterArrays.{array_of, slot_of, root_of}
use Rattle.never_heap.specs.Graphs.{Object, Array, shared_name, start_graph, object_of, field_of, register_of, has_name}
use Rattle.never_heap.proofs.Lemmas.{has_shared, name_of_start, object_of_start, register_of_start, registers_of_start, threads_of_start}
use Rattle.heap_invariant.specs.graph_relation.Layouts.{object_blocks}
use Rattle.heap_invariant.specs.graph_relation.Words.{value_word, part_word}
use Rattle.heap_invariant.specs.graph_relation.GraphOfWords.{IsValueOf, heads, BlockShows, Shows, root_word, every_name, none_pending}
use Rattle.heap_invariant.specs.graph_relation.Made.{new_object}
use Rattle.heap_invariant.specs.graph_relation.InitialHeaps.{opening_at, shared_block, register_word, shared_word, opening_words}
use Rattle.heap_invariant.proofs.graph_relation.Publish.{field_of_new, blocks_of_new}

-- the word at a block of the registers, of the shared array
in_registers : (x l a b d : ℕ) → x ≤ l → cond (leb x l) a (cond (leb x b) d 0) ≡ a
in_registers x l a b d h = rw (le-leb x l h) refl

in_shared : (x l a b d : ℕ) → l < x → x ≤ b → cond (leb x l) a (cond (leb x b) d 0) ≡ d
in_shared x l a b d h k = rw (lt-leb x l h, le-leb x b k) refl

-- the word of a link that there may be
link_word_below : (head : Name → ℕ) (block_of : ℕ → ℕ) (field : ℕ → Value) (o n : ℕ)
    → part_word head block_of field (link_below o n)
    ≡ cond (ltb o n) (reference_word (block_of o)) 0
link_word_below head block_of field o n =
    elim (cases_Bool (ltb o n)) [ inl e ↦ rw e refl | inr e ↦ rw e refl ]

module _ (c : Config) (inside : IsInBounds c) where
  shared_is : (a : Name) → has_name (start_graph c) a ≡ true
      → object_of (start_graph c) a ≡ new_object Array c.shared
  shared_is a h = object_of_start c a h

  ordinal_is : (e o : ℕ) → e + 1 + o - (e + 1) ≡ o
  ordinal_is e o = omega arith

  -- what is at ordinal o of the shared array
  shared_at : (o a d : ℕ) → o < array_blocks c.width c.shared
      → cond (leb (registers_end c.width c.threads + 1 + o) (registers_end c.width c.threads)) a
      (cond (leb (registers_end c.width c.threads + 1 + o) (opening_blocks c)) d 0) ≡ d
  shared_at o a d ol = in_shared (registers_end c.width c.threads + 1 + o)
      (registers_end c.width c.threads) a (opening_blocks c) d (omega arith) (omega arith)

  shared_shows : (a : Name) (o : ℕ) → a.thread ≡ c.threads → a.serial ≡ 0
      → o < array_blocks c.width c.shared
      → BlockShows c.width (heads (opening_at c.width c.threads)) (opening_words c) a
      (new_object Array c.shared) (opening_at c.width c.threads a) o
  shared_shows a o t s ol = record {
    owned = shared_at o _ _ ol
        ∙ ap (λ k. wide_word c.threads 0 k) (ordinal_is (registers_end c.width c.threads) o)
        ∙ ap (λ k. wide_word k 0 o) (sym t) ∙ ap (λ k. wide_word a.thread k o) (sym s);
    shaped = shared_at o _ _ ol ∙ sym (ap array_word (length-replicate c.shared Nil));
    words = λ j jl. shared_at o _ _ ol
        ∙ ap (λ k. shared_word c k j) (ordinal_is (registers_end c.width c.threads) o)
        ∙ shared_part (array_part c.width c.shared o j)
        ∙ sym (ap (λ l. part_word (heads (opening_at c.width c.threads))
        (opening_at c.width c.threads a) (field_of (new_object Array c.shared))
        (array_part c.width l o j)) (length-replicate c.shared Nil));
  }
    where
      shared_part : (p : Part) → part_word (shared_block c)
          (opening_at c.width c.threads (shared_name c.threads)) (λ i. Nil) p
          ≡ part_word (heads (opening_at c.width c.threads)) (opening_at c.width c.threads a)
          (field_of (new_object Array c.shared)) p
      shared_part (Link q) = refl
      shared_part (Field i) = sym
          (ap (value_word (heads (opening_at c.width c.threads))) (field_of_new Array c.shared i))
      shared_part Blank = refl

  start_kept : (t r : ℕ) → t < c.threads → r < REGISTERS
      → IsValueOf (every_name (start_graph c)) (register_of (start_graph c) t r)
  start_kept t r tn rl = subst (λ v. IsValueOf (every_name (start_graph c)) v)
      (sym (register_of_start c t r tn rl)) (elim (cases_eq r 0) [
        | inl e ↦ rw (eq-eqb r 0 e) (has_shared c)
        | inr ne ↦ rw (ne_eqb r 0 ne) tt
      ])

  -- the words of the register array of thread t
  array_at : (t o j : ℕ) → t < c.threads → o < register_blocks c.width
      → (opening_words c).payload (root_block c.width t + o) j ≡ register_word c t o j
  array_at t o j tn ol =
      in_registers (root_block c.width t + o) (registers_end c.width c.threads) _
      (opening_blocks c) _ (omega (arith, root_low c.width c.threads t tn))
      ∙ ap (λ k. register_word c k (register_ordinal c.width (root_block c.width t + o)) j)
      (thread_of c.width t o ol)
      ∙ ap (λ k. register_word c t k j) (ordinal_of c.width t o ol)

  -- a register's word
  register_reads : (t r : ℕ) → t < c.threads → r < REGISTERS
      → (opening_words c).payload (register_block c.width t r) (register_slot c.width r)
      ≡ value_word (heads (opening_at c.width c.threads)) (register_of (start_graph c) t r)
  register_reads t r tn rl =
      let laws = tree_layout (payloads c.width) REGISTERS (many c.width) in
      let field = laws.fields r rl in
      let place = laws.slots _ _ r field in
      let low : (array_slot c.width REGISTERS r).0 < register_blocks c.width =
      subst (λ b. (array_slot c.width REGISTERS r).0 < b) (sym (array_of c.width)) place.1 in
      let slot = slot_of c.width t r in
      let first : registers_end c.width c.threads + 1 ≡ registers_end c.width c.threads + 1 + 0 =
      omega arith in
      ap (λ x. (opening_words c).payload x (register_slot c.width r)) slot.0
      ∙ ap (λ j. (opening_words c).payload
      (root_block c.width t + (array_slot c.width REGISTERS r).0) j) slot.1
      ∙ array_at t (array_slot c.width REGISTERS r).0 (array_slot c.width REGISTERS r).1 tn low
      ∙ ap (part_word (shared_block c) (λ p. root_block c.width t + p)
      (register_of (start_graph c) t)) field
      ∙ ap (λ x. value_word (λ a. x) (register_of (start_graph c) t r)) first

  root_reads : (t j : ℕ) → t < c.threads → j < payloads c.width
      → (opening_words c).payload (root_block c.width t) j ≡ root_word c.width t j
  root_reads t j tn jl =
      let block : root_block c.width t ≡ root_block c.width t + 0 = omega arith in
      ap (λ x. (opening_words c).payload x j) block
      ∙ array_at t 0 j tn (omega (arith, (arrays_small c.width).0))
      ∙ ap (part_word (shared_block c) (λ p. root_block c.width t + p)
      (register_of (start_graph c) t)) (root_of c.width j jl)
      ∙ link_word_below (shared_block c) (λ p. root_block c.width t + p)
      (register_of (start_graph c) t) (1 + j) (register_blocks c.width)

  few_ordinals : (a : Name) → has_name (start_graph c) a ≡ true
      → object_blocks c.width (object_of (start_graph c) a) ≡ array_blocks c.width c.shared
  few_ordinals a h = ap (object_blocks c.width) (shared_is a h)
      ∙ blocks_of_new c.width Array c.shared

  -- The opening words show the start graph, all of whose names are kept.
  pub opening_shows : Shows c.width c.threads (opening_blocks c) (every_name (start_graph c))
      (start_graph c) (opening_at c.width c.threads) (opening_words c) none_pending
  opening_shows = record {
    sized = record { threads = threads_of_start c; sixteen = registers_of_start c };
    names = λ a h. h;
    closed = record {
      fields = λ a i h. subst (λ (x : Object). IsValueOf (every_name (start_graph c))
          (field_of x i)) (sym (shared_is a h))
          (subst (λ v. IsValueOf (every_name (start_graph c)) v)
          (sym (field_of_new Array c.shared i)) tt);
      registers = start_kept;
    };
    numbered = record {
      threads = λ a h. omega (arith, (name_of_start c a h).0, inside.threads);
      serials = λ a h. omega (arith, (name_of_start c a h).1);
      ordinals = λ a h. omega (arith, few_ordinals a h, few_shared c.width c.shared inside.shared);
    };
    placed = record {
      behind = λ a o h ol. omega arith;
      within = λ a o h ol. omega (arith, few_ordinals a h);
    };
    written = record {
      blocks = λ a o h ol.
          let low : o < array_blocks c.width c.shared = subst (λ b. o < b) (few_ordinals a h) ol in
          subst (λ (x : Object). BlockShows c.width (heads (opening_at c.width c.threads))
          (opening_words c) a x (opening_at c.width c.threads a) o) (sym (shared_is a h))
          (shared_shows a o (name_of_start c a h).0 (name_of_start c a h).1 low);
    };
    registers = record {
      holds = λ t r tn rl. record {
        value = register_of (start_graph c) t r;
        kept = start_kept t r tn rl;
        reads = register_reads t r tn rl;
        now = λ e. refl;
      };
      roots = root_reads;
    };
  }
