-- The words go on showing the graph when an object that was made gets its name.
use Rattle.std.proofs.Common.{◌≡◌, ℕ, ◌<◌, ◌≤◌, ⊎_elim, inl, inr, true, false, cond, Bool, [], ◌∷◌, ◌++◌, length, get_or, refl, sym, ap, ◌∙◌, subst, arith, ◌^◌}
use Rattle.std.proofs.lemmas.Bool.{cases_lt}
use Rattle.std.proofs.lemmas.List.{length-set, length-replicate, get_or-replicate, get_or_past}
use Rattle.block_store.specs.Registers.{registers_end}
use Rattle.block_store.specs.declared.Width.{Width}
use Rattle.block_store.specs.declared.Name.{Name}
use Rattle.block_store.specs.declared.Value.TheVariants.{Nil}
use Rattle.never_heap.specs.Graphs.{Graph, Object, ObjectKind, nils, object_of, field_of, register_of, mutator_at, same_name, with_object, next_name}
use Rattle.never_heap.proofs.Lemmas.{has_name_with_object, not_next, object_with_object, one_name, registers_with_object, same_itself, same_parts}
use Rattle.object_lists.specs.Parts.{Part, Link, Field, Blank, link_in}
use Rattle.heap_invariant.specs.graph_relation.Layouts.{layout_blocks, layout_part, object_blocks, object_part}
use Rattle.heap_invariant.specs.graph_relation.Words.{BlockWords, value_word, part_word, kind_word}
use Rattle.heap_invariant.specs.graph_relation.GraphOfWords.{IsValueOf, heads, BlockShows, Written, Shows}
use Rattle.heap_invariant.specs.graph_relation.Made.{new_object, with_blocks, and_name, IsMade, link_word, IsWritten}
use Rattle.heap_invariant.proofs.graph_relation.Names.{value_stays, word_stays}
use Rattle.heap_invariant.proofs.graph_relation.RegisterBlocks.{registers_renamed, registers_stay}

-- each field of a new object is nil
pub field_of_new : (k : ObjectKind) (n i : ℕ) → field_of (new_object k n) i ≡ Nil
field_of_new k n i = elim (cases_lt i n) [
  | inl l ↦ get_or-replicate n i Nil Nil l
  | inr l ↦ get_or_past (nils n) i Nil (omega (arith, length-replicate n Nil))
]

pub blocks_of_new : (W : Width) (k : ObjectKind) (n : ℕ)
    → object_blocks W (new_object k n) ≡ layout_blocks W k n
blocks_of_new W k n = ap (layout_blocks W k) (length-replicate n Nil)

-- its words are the same wherever the other objects are
pub part_of_new : (head other : Name → ℕ) (block_of : ℕ → ℕ) (k : ObjectKind) (n : ℕ) (p : Part)
    → part_word head block_of (field_of (new_object k n)) p
    ≡ part_word other block_of (field_of (new_object k n)) p
part_of_new head other block_of k n (Link o) = refl
part_of_new head other block_of k n (Field i) =
    ap (value_word head) (field_of_new k n i) ∙ sym (ap (value_word other) (field_of_new k n i))
part_of_new head other block_of k n Blank = refl

pub new_shows : (W : Width) (head other : Name → ℕ) (w : BlockWords) (a : Name) (k : ObjectKind)
    (n : ℕ) (block_of : ℕ → ℕ) (o : ℕ) → BlockShows W head w a (new_object k n) block_of o
    → BlockShows W other w a (new_object k n) block_of o
new_shows W head other w a k n block_of o s = record {
  owned = s.owned;
  shaped = s.shaped;
  words = λ j jl. s.words j jl
      ∙ part_of_new head other block_of k n (object_part W (new_object k n) o j);
}

-- the words of a new object's block are its links, and nil elsewhere
pub part_links : (head : Name → ℕ) (block_of : ℕ → ℕ) (k : ObjectKind) (n : ℕ) (p : Part)
    → part_word head block_of (field_of (new_object k n)) p ≡ link_word block_of (link_in p)
part_links head block_of k n (Link o) = refl
part_links head block_of k n (Field i) = ap (value_word head) (field_of_new k n i)
part_links head block_of k n Blank = refl

pub written_shows : (W : Width) (head : Name → ℕ) (w : BlockWords) (a : Name) (k : ObjectKind)
    (n : ℕ) (block_of : ℕ → ℕ) (o : ℕ) → IsWritten W w a k n block_of o
    → BlockShows W head w a (new_object k n) block_of o
written_shows W head w a k n block_of o s = record {
  owned = s.owned;
  shaped = s.shaped ∙ sym (ap (kind_word k) (length-replicate n Nil));
  words = λ j jl. s.links j jl ∙ sym (part_links head block_of k n (layout_part W k n o j))
      ∙ sym (ap (λ l. part_word head block_of (field_of (new_object k n)) (layout_part W k l o j))
      (length-replicate n Nil));
}

-- a block that shows a part of a kept object shows it where other objects have come
pub part_renamed : (K : Name → Type 0) (head other : Name → ℕ) (block_of : ℕ → ℕ)
    (object : Object) (p : Part) → ((a : Name) → K a → other a ≡ head a)
    → ((i : ℕ) → IsValueOf K (field_of object i))
    → part_word other block_of (field_of object) p ≡ part_word head block_of (field_of object) p
part_renamed K head other block_of object (Link o) same kept = refl
part_renamed K head other block_of object (Field i) same kept =
    word_stays K head other (field_of object i) same (kept i)
part_renamed K head other block_of object Blank same kept = refl

module _ (W : Width) (n m : ℕ) (K : Name → Type 0) (g : Graph) (at : Name → ℕ → ℕ)
    (w : BlockWords) (pending : ℕ → ℕ → Bool) (shows : Shows W n m K g at w pending)
    (t : ℕ) (k : ObjectKind) (f : ℕ) (block_of : ℕ → ℕ)
    (made : IsMade W n m g w t k f block_of) where
  in_graph : t < length g.mutators
  in_graph = subst (λ l. t < l) (sym shows.sized.threads) made.thread

  not_fresh : (a : Name) → K a → same_name (next_name g t) a ≡ false
  not_fresh a ka = not_next g t a (shows.names a ka)

  object_new : (a : Name) → same_name (next_name g t) a ≡ true
      → object_of (with_object g t (new_object k f)) a ≡ new_object k f
  object_new a is = object_with_object g t (new_object k f) in_graph a
      ∙ ap (λ b. cond b (new_object k f) (object_of g a)) is

  object_old : (a : Name) → K a → object_of (with_object g t (new_object k f)) a ≡ object_of g a
  object_old a ka = object_with_object g t (new_object k f) in_graph a
      ∙ ap (λ b. cond b (new_object k f) (object_of g a)) (not_fresh a ka)

  more_new : (a : Name) → same_name (next_name g t) a ≡ true
      → with_blocks at (next_name g t) block_of a ≡ block_of
  more_new a is = ap (λ b. cond b block_of (at a)) is

  more_old : (a : Name) → K a → with_blocks at (next_name g t) block_of a ≡ at a
  more_old a ka = ap (λ b. cond b block_of (at a)) (not_fresh a ka)

  heads_old : (a : Name) → K a → heads (with_blocks at (next_name g t) block_of) a ≡ heads at a
  heads_old a ka = ap (λ (b : ℕ → ℕ). b 0) (more_old a ka)

  -- what is said of a kept name in the grown graph follows from the two kinds of names
  by_name : (P : Name → Object → (ℕ → ℕ) → Type 0)
      → ((a : Name) → same_name (next_name g t) a ≡ true → P a (new_object k f) block_of)
      → ((a : Name) → K a → P a (object_of g a) (at a))
      → (a : Name) → and_name K (next_name g t) a
      → P a (object_of (with_object g t (new_object k f)) a)
      (with_blocks at (next_name g t) block_of a)
  by_name P new old a (inl is) =
      subst (λ b. P a (object_of (with_object g t (new_object k f)) a) b) (sym (more_new a is))
      (subst (λ x. P a x block_of) (sym (object_new a is)) (new a is))
  by_name P new old a (inr ka) =
      subst (λ b. P a (object_of (with_object g t (new_object k f)) a) b) (sym (more_old a ka))
      (subst (λ x. P a x (at a)) (sym (object_old a ka)) (old a ka))

  low_new : (o : ℕ) → o < object_blocks W (new_object k f) → o < layout_blocks W k f
  low_new o l = subst (λ b. o < b) (blocks_of_new W k f) l

  register_kept : (u q : ℕ) → register_of g u q ≡ register_of (with_object g t (new_object k f)) u q
  register_kept u q = ap (λ rs. get_or rs q Nil)
      (sym (registers_with_object g t (new_object k f) in_graph u))

  grown_written : Written W (and_name K (next_name g t))
      (object_of (with_object g t (new_object k f))) (with_blocks at (next_name g t) block_of) w
  grown_written = record {
    blocks = λ a o name. by_name
        (λ a x b. o < object_blocks W x
        → BlockShows W (heads (with_blocks at (next_name g t) block_of)) w a x b o)
        (λ a is ol. subst (λ (c : Name). BlockShows W
        (heads (with_blocks at (next_name g t) block_of)) w c (new_object k f) block_of o)
        (one_name (next_name g t) a is)
        (new_shows W (λ a. 0) (heads (with_blocks at (next_name g t) block_of)) w
        (next_name g t) k f block_of o (made.blocks o (low_new o ol))))
        (λ a ka ol. (let s = shows.written.blocks a o ka ol in
        record {
          owned = s.owned;
          shaped = s.shaped;
          words = λ j jl. s.words j jl
              ∙ sym (part_renamed K (heads at) (heads (with_blocks at (next_name g t) block_of))
              (at a) (object_of g a) (object_part W (object_of g a) o j) heads_old
              (λ i. shows.closed.fields a i ka));
        }))
        a name;
  }

  -- The next name of thread t is kept from now on.
  pub publish : Shows W n m (and_name K (next_name g t)) (with_object g t (new_object k f))
      (with_blocks at (next_name g t) block_of) w pending
  publish = record {
    sized = record {
      threads = length-set g.mutators t
          (record {
            registers = (mutator_at g t).registers;
            objects = (mutator_at g t).objects ++ new_object k f ∷ [];
          }) ∙ shows.sized.threads;
      sixteen = λ u un. ap length (registers_with_object g t (new_object k f) in_graph u)
          ∙ shows.sized.sixteen u un;
    };
    names = λ a name. has_name_with_object g t (new_object k f) in_graph a
        ∙ ⊎_elim (λ (is : same_name (next_name g t) a ≡ true). rw is refl)
        (λ (ka : K a). rw (not_fresh a ka) (shows.names a ka)) name;
    closed = record {
      fields = λ a i name. by_name (λ a x b. IsValueOf (and_name K (next_name g t)) (field_of x i))
          (λ a is. subst (λ v. IsValueOf (and_name K (next_name g t)) v)
          (sym (field_of_new k f i)) tt)
          (λ a ka. value_stays K (and_name K (next_name g t)) (field_of (object_of g a) i)
          (λ b kb. inr kb) (shows.closed.fields a i ka)) a name;
      registers = λ u q un ql. subst (λ v. IsValueOf (and_name K (next_name g t)) v)
          (register_kept u q) (value_stays K (and_name K (next_name g t)) (register_of g u q)
          (λ b kb. inr kb) (shows.closed.registers u q un ql));
    };
    numbered = record {
      threads = λ a name. by_name (λ a x b. a.thread ≤ 16)
          (λ a is. omega (arith, (same_parts (next_name g t) a is).0, made.few_threads))
          (λ a ka. shows.numbered.threads a ka) a name;
      serials = λ a name. by_name (λ a x b. a.serial < 2 ^ 43)
          (λ a is. omega (arith, (same_parts (next_name g t) a is).1, made.serial))
          (λ a ka. shows.numbered.serials a ka) a name;
      ordinals = λ a name. by_name (λ a x b. object_blocks W x ≤ 1024)
          (λ a is. subst (λ b. b ≤ 1024) (sym (blocks_of_new W k f)) made.ordinals)
          (λ a ka. shows.numbered.ordinals a ka) a name;
    };
    placed = record {
      behind = λ a o name. by_name (λ a x b. o < object_blocks W x → registers_end W n < b o)
          (λ a is ol. made.behind o (low_new o ol))
          (λ a ka ol. shows.placed.behind a o ka ol) a name;
      within = λ a o name. by_name (λ a x b. o < object_blocks W x → b o ≤ m)
          (λ a is ol. made.within o (low_new o ol))
          (λ a ka ol. shows.placed.within a o ka ol) a name;
    };
    written = grown_written;
    registers = registers_stay W n (and_name K (next_name g t))
        (heads (with_blocks at (next_name g t) block_of)) (register_of g)
        (register_of (with_object g t (new_object k f))) pending pending w w
        (λ x j some xl jl. refl)
        (λ u q un ql e. (e, register_kept u q))
        (registers_renamed W n K (and_name K (next_name g t)) (heads at)
        (heads (with_blocks at (next_name g t) block_of)) (register_of g) pending w
        (λ a ka. inr ka) heads_old shows.registers);
  }

  -- its first block is the first of the new blocks
  pub fresh_head : heads (with_blocks at (next_name g t) block_of) (next_name g t) ≡ block_of 0
  fresh_head = ap (λ (b : ℕ → ℕ). b 0) (more_new (next_name g t) (same_itself (next_name g t)))
