-- The moves where all names of the graph are kept.
use Rattle.std.proofs.Common.{◌≡◌, ℕ, ◌<◌, ◌≤◌, ⊎_elim, inl, inr, Bool, true, false, ◌||◌, length, refl, sym, ap, ◌∙◌, subst, arith}
use Rattle.std.proofs.lemmas.Bool.{cases_Bool}
use Rattle.block_store.specs.Registers.{register_block, register_slot, registers_end}
use Rattle.block_store.specs.declared.TheConstants.{REGISTERS}
use Rattle.block_store.specs.declared.Width.{Width}
use Rattle.block_store.specs.declared.Name.{Name}
use Rattle.block_store.specs.declared.Value.{Value}
use Rattle.block_store.specs.declared.Value.TheVariants.{Ref}
use Rattle.block_store.specs.Payloads.{reference_word}
use Rattle.never_heap.specs.Graphs.{Graph, ObjectKind, object_of, has_name, same_name, with_register, with_field, with_object, next_name}
use Rattle.never_heap.proofs.Lemmas.{has_name_with_field, has_name_with_object, has_name_with_register, same_itself}
use Rattle.heap_invariant.specs.graph_relation.Layouts.{object_slot}
use Rattle.heap_invariant.specs.graph_relation.Words.{Agrees, BlockWords, value_word, with_payload}
use Rattle.heap_invariant.specs.graph_relation.GraphOfWords.{IsValueOf, heads, Shows, every_name}
use Rattle.heap_invariant.specs.graph_relation.Made.{new_object, with_blocks, and_name, IsMade}
use Rattle.heap_invariant.proofs.graph_relation.Stores.{register_store, register_pending, field_store, same_names, words_change}
use Rattle.heap_invariant.proofs.graph_relation.Publish.{publish, fresh_head}

module _ (W : Width) (n m : ℕ) (K : Name → Type 0) (g : Graph) (at : Name → ℕ → ℕ)
    (w : BlockWords) (pending : ℕ → ℕ → Bool) (shows : Shows W n m K g at w pending) where
  -- Only words after block m change.
  pub words_behind : (u : BlockWords) → registers_end W n ≤ m
      → ((x : ℕ) → 0 < x → x ≤ m → Agrees W w u x) → Shows W n m K g at u pending
  words_behind u room same =
      words_change W n m K g at w pending shows u
      (λ x j some xl jl. (same x some (omega arith)).payloads j jl)
      (λ a o ka ol. same (at a o) (omega (arith, shows.placed.behind a o ka ol))
      (shows.placed.within a o ka ol))

module _ (W : Width) (n m : ℕ) (g : Graph) (at : Name → ℕ → ℕ) (w : BlockWords)
    (pending : ℕ → ℕ → Bool) (shows : Shows W n m (every_name g) g at w pending) where
  thread_in : (t : ℕ) → t < n → t < length g.mutators
  thread_in t there = subst (λ k. t < k) (sym shows.sized.threads) there

  pub every_register_store : (pending' : ℕ → ℕ → Bool) (t r : ℕ) (v : Value) → t < n → r < REGISTERS
      → IsValueOf (every_name g) v
      → ((u q : ℕ) → pending' u q ≡ false → ((t ≡ u) → (r ≡ q) → ⊥) → pending u q ≡ false)
      → Shows W n m (every_name (with_register g t r v)) (with_register g t r v) at
      (with_payload w (register_block W t r) (register_slot W r)
      (value_word (heads at) v)) pending'
  every_register_store pending' t r v there small kept others =
      same_names W n m (every_name g) (with_register g t r v) at _ pending'
      (register_store W n m
      (every_name g) g at w pending shows pending' t r there small v kept others)
      (every_name (with_register g t r v))
      (λ a h. sym (has_name_with_register g t r v a (thread_in t there)) ∙ h)
      (λ a h. has_name_with_register g t r v a (thread_in t there) ∙ h)

  pub every_register_pending : (pending' : ℕ → ℕ → Bool) (t r : ℕ) (v : Value) → t < n
      → r < REGISTERS
      → IsValueOf (every_name g) v → pending' t r ≡ true
      → ((u q : ℕ) → pending' u q ≡ false → pending u q ≡ false)
      → Shows W n m (every_name (with_register g t r v)) (with_register g t r v) at w pending'
  every_register_pending pending' t r v there small kept is others =
      same_names W n m (every_name g) (with_register g t r v) at w pending'
      (register_pending W n m
      (every_name g) g at w pending shows pending' t r there small v kept is others)
      (every_name (with_register g t r v))
      (λ a h. sym (has_name_with_register g t r v a (thread_in t there)) ∙ h)
      (λ a h. has_name_with_register g t r v a (thread_in t there) ∙ h)

  pub every_field_store : (a : Name) (i : ℕ) (v : Value) → has_name g a ≡ true
      → i < length (object_of g a).fields → IsValueOf (every_name g) v
      → Shows W n m (every_name (with_field g a i v)) (with_field g a i v) at
      (with_payload w (at a (object_slot W (object_of g a) i).0)
      (object_slot W (object_of g a) i).1 (value_word (heads at) v)) pending
  every_field_store a i v has within kept =
      same_names W n m (every_name g) (with_field g a i v) at _ pending
      (field_store W n m (every_name g) g at w pending shows a i v has within kept)
      (every_name (with_field g a i v))
      (λ b h. sym (has_name_with_field g a i v has b) ∙ h)
      (λ b h. has_name_with_field g a i v has b ∙ h)

  module _ (t : ℕ) (k : ObjectKind) (f : ℕ) (block_of : ℕ → ℕ)
      (made : IsMade W n m g w t k f block_of) where
    old_or_new : (b : Name) → has_name (with_object g t (new_object k f)) b ≡ true
        → and_name (every_name g) (next_name g t) b
    old_or_new b h = elim (cases_Bool (same_name (next_name g t) b)) [
      | inl is ↦ inl is
      | inr is ↦ inr (sym (ap (λ x. x || has_name g b) is)
          ∙ sym (has_name_with_object g t (new_object k f) (thread_in t made.thread) b) ∙ h)
    ]

    new_or_old : (b : Name) → and_name (every_name g) (next_name g t) b
        → has_name (with_object g t (new_object k f)) b ≡ true
    new_or_old b name = has_name_with_object g t (new_object k f) (thread_in t made.thread) b
        ∙ ⊎_elim (λ (is : same_name (next_name g t) b ≡ true). rw is refl)
        (λ (h : has_name g b ≡ true). elim (cases_Bool (same_name (next_name g t) b)) [
          | inl is ↦ rw is refl
          | inr is ↦ rw is h
        ]) name

    pub every_publish : Shows W n m (every_name (with_object g t (new_object k f)))
        (with_object g t (new_object k f)) (with_blocks at (next_name g t) block_of) w pending
    every_publish =
        same_names W n m (and_name (every_name g) (next_name g t))
        (with_object g t (new_object k f)) (with_blocks at (next_name g t) block_of) w pending
        (publish W n m (every_name g) g at w pending shows t k f block_of made)
        (every_name (with_object g t (new_object k f))) old_or_new new_or_old

    -- the grown graph has the new name
    pub has_fresh : has_name (with_object g t (new_object k f)) (next_name g t) ≡ true
    has_fresh = new_or_old (next_name g t) (inl (same_itself (next_name g t)))

-- The object that was made is referred to by register d.
pub every_new : (W : Width) (n m : ℕ) (g : Graph) (at : Name → ℕ → ℕ) (w : BlockWords)
    (pending : ℕ → ℕ → Bool) → Shows W n m (every_name g) g at w pending
    → (t d : ℕ) (k : ObjectKind) (f : ℕ) (block_of : ℕ → ℕ) → IsMade W n m g w t k f block_of
    → d < REGISTERS
    → Shows W n m (every_name
    (with_register (with_object g t (new_object k f)) t d (Ref (next_name g t))))
    (with_register (with_object g t (new_object k f)) t d (Ref (next_name g t)))
    (with_blocks at (next_name g t) block_of)
    (with_payload w (register_block W t d) (register_slot W d)
    (reference_word (block_of 0))) pending
every_new W n m g at w pending shows t d k f block_of made small =
    let new = every_publish W n m g at w pending shows t k f block_of made in
    subst (λ x. Shows W n m (every_name
    (with_register (with_object g t (new_object k f)) t d (Ref (next_name g t))))
    (with_register (with_object g t (new_object k f)) t d (Ref (next_name g t)))
    (with_blocks at (next_name g t) block_of)
    (with_payload w (register_block W t d) (register_slot W d) (reference_word x)) pending)
    (fresh_head W n m (every_name g) g at w pending shows t k f block_of made)
    (every_register_store W n m (with_object g t (new_object k f))
    (with_blocks at (next_name g t) block_of) w pending new pending t d
    (Ref (next_name g t)) made.thread small
    (has_fresh W n m g at w pending shows t k f block_of made) (λ u q e _. e))
