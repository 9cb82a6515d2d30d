-- The words go on showing the kept part of the graph: after a store in a register, after a store
-- in a field, after writes of words that nothing kept has, and where fewer names are kept.
use Rattle.std.proofs.Common.{◌≡◌, ℕ, ◌<◌, ◌≤◌, inl, inr, Bool, true, false, cond, ◌&&◌, eqb, length, set, get_or, refl, sym, ap, ◌∙◌, subst, arith, eq-eqb, ne_eqb}
use Rattle.std.proofs.lemmas.Bool.{cases_eq, cases_Bool}
use Rattle.std.proofs.lemmas.List.{length-set}
use Rattle.block_store.proofs.Lemmas.{register_low}
use Rattle.block_store.specs.Registers.{register_block, register_slot, registers_end}
use Rattle.block_store.specs.Widths.{payloads}
use Rattle.block_store.specs.declared.TheConstants.{REGISTERS}
use Rattle.block_store.specs.declared.Width.{Width}
use Rattle.block_store.specs.declared.Name.{Name}
use Rattle.block_store.specs.declared.Value.{Value}
use Rattle.block_store.specs.declared.Value.TheVariants.{Nil}
use Rattle.never_heap.specs.Graphs.{Graph, Object, object_of, field_of, register_of, mutator_at, same_name, with_register, with_field, set_field}
use Rattle.never_heap.proofs.Lemmas.{get_or_set, has_name_with_field, has_name_with_register, object_with_field, object_with_register, one_name, register_with_register, registers_with_field, sixteen_with_register, threads_with_field}
use Rattle.heap_invariant.specs.graph_relation.Layouts.{layout_blocks, object_blocks, object_slot}
use Rattle.heap_invariant.specs.graph_relation.Words.{Agrees, BlockWords, value_word, with_payload}
use Rattle.heap_invariant.specs.graph_relation.GraphOfWords.{IsValueOf, heads, Placed, Numbered, Closed, IsSized, Shows}
use Rattle.heap_invariant.proofs.graph_relation.Names.{true≢false, value_stays}
use Rattle.heap_invariant.proofs.graph_relation.Blocks.{other_block, payload_other, field_written, others_written}
use Rattle.heap_invariant.proofs.graph_relation.RegisterBlocks.{registers_stored, registers_stay, registers_fewer, registers_renamed}
use Rattle.heap_invariant.proofs.graph_relation.ObjectLayouts.{object_layout}

-- other objects of as many blocks, for fewer names
pub numbered_like : (W : Width) (K L : Name → Type 0) (object object' : Name → Object)
    → ((a : Name) → L a → K a)
    → ((a : Name) → L a → object_blocks W (object' a) ≡ object_blocks W (object a))
    → Numbered W K object → Numbered W L object'
numbered_like W K L object object' down same k = record {
  threads = λ a la. k.threads a (down a la);
  serials = λ a la. k.serials a (down a la);
  ordinals = λ a la. subst (λ n. n ≤ 1024) (sym (same a la)) (k.ordinals a (down a la));
}

pub placed_like : (W : Width) (n m : ℕ) (K L : Name → Type 0) (object object' : Name → Object)
    (at : Name → ℕ → ℕ) → ((a : Name) → L a → K a)
    → ((a : Name) → L a → object_blocks W (object' a) ≡ object_blocks W (object a))
    → Placed W n m K object at → Placed W n m L object' at
placed_like W n m K L object object' at down same k = record {
  behind = λ a o la ol. k.behind a o (down a la) (subst (λ b. o < b) (same a la) ol);
  within = λ a o la ol. k.within a o (down a la) (subst (λ b. o < b) (same a la) ol);
}

-- the block of a register is none of a kept object
pub register_apart : (W : Width) (n m : ℕ) (K : Name → Type 0) (object : Name → Object)
    (at : Name → ℕ → ℕ) → Placed W n m K object at → (x : ℕ) → x ≤ registers_end W n
    → (a : Name) (o : ℕ) → K a → o < object_blocks W (object a) → x ≡ at a o → ⊥
register_apart W n m K object at placed x low a o ka ol e = omega (arith, placed.behind a o ka ol)

module _ (W : Width) (n m : ℕ) (K : Name → Type 0) (g : Graph) (at : Name → ℕ → ℕ)
    (w : BlockWords) (pending : ℕ → ℕ → Bool) (shows : Shows W n m K g at w pending) where
  -- Words change that are of no register block and of no block of a kept object.
  pub words_change : (u : BlockWords)
      → ((x j : ℕ) → 0 < x → x ≤ registers_end W n → j < payloads W
      → u.payload x j ≡ w.payload x j)
      → ((a : Name) (o : ℕ) → K a → o < object_blocks W (object_of g a) → Agrees W w u (at a o))
      → Shows W n m K g at u pending
  words_change u registers objects = record {
    sized = shows.sized;
    names = shows.names;
    closed = shows.closed;
    numbered = shows.numbered;
    placed = shows.placed;
    written = others_written W K K (object_of g) (object_of g) at w u (λ a k. k)
        (λ a k. refl) objects shows.written;
    registers = registers_stay W n K (heads at) (register_of g)
        (register_of g) pending pending w u registers (λ t r tn rl e. (e, refl)) shows.registers;
  }

  -- A register that is pending may have the value that it shows.
  pub more_pending : (pending' : ℕ → ℕ → Bool)
      → ((t r : ℕ) → t < n → r < REGISTERS → pending' t r ≡ false → pending t r ≡ false)
      → Shows W n m K g at w pending'
  more_pending pending' more = record {
    sized = shows.sized;
    names = shows.names;
    closed = shows.closed;
    numbered = shows.numbered;
    placed = shows.placed;
    written = shows.written;
    registers = registers_stay W n K (heads at) (register_of g) (register_of g) pending pending' w w
        (λ x j some xl jl. refl) (λ t r tn rl e. (more t r tn rl e, refl)) shows.registers;
  }

  -- There is room after the last block.
  pub later_last : (l : ℕ) → m ≤ l → Shows W n l K g at w pending
  later_last l more = record {
    sized = shows.sized;
    names = shows.names;
    closed = shows.closed;
    numbered = shows.numbered;
    written = shows.written;
    registers = shows.registers;
    placed = record {
      behind = shows.placed.behind;
      within = λ a o ka ol. omega (arith, shows.placed.within a o ka ol);
    };
  }

  -- Fewer names are kept, where these refer to each other alone and no register is pending.
  pub fewer_names : (L : Name → Type 0) → ((a : Name) → L a → K a)
      → Closed n L (object_of g) (register_of g)
      → ((t r : ℕ) → t < n → r < REGISTERS → pending t r ≡ false) → Shows W n m L g at w pending
  fewer_names L down closed none = record {
    sized = shows.sized;
    names = λ a la. shows.names a (down a la);
    closed = closed;
    numbered = numbered_like W K L (object_of g) (object_of g) down (λ a la. refl) shows.numbered;
    placed = placed_like W n m K L (object_of g) (object_of g) at down (λ a la. refl) shows.placed;
    written = others_written W K L (object_of g) (object_of g) at w w down (λ a la. refl)
        (λ a o la ol. record {
          owners = refl;
          shapes = refl;
          payloads = λ j jl. refl;
        }) shows.written;
    registers = registers_fewer W n K L (heads at)
        (register_of g) pending w none closed.registers shows.registers;
  }

  -- The same names, said otherwise.
  pub same_names : (L : Name → Type 0) → ((a : Name) → L a → K a) → ((a : Name) → K a → L a)
      → Shows W n m L g at w pending
  same_names L down up = record {
    sized = shows.sized;
    names = λ a la. shows.names a (down a la);
    closed = record {
      fields = λ a i la. value_stays K L (field_of (object_of g a) i) up
          (shows.closed.fields a i (down a la));
      registers = λ t r tn rl. value_stays K L (register_of g t r) up
          (shows.closed.registers t r tn rl);
    };
    numbered = numbered_like W K L (object_of g) (object_of g) down (λ a la. refl) shows.numbered;
    placed = placed_like W n m K L (object_of g) (object_of g) at down (λ a la. refl) shows.placed;
    written = others_written W K L (object_of g) (object_of g) at w w down (λ a la. refl)
        (λ a o la ol. record {
          owners = refl;
          shapes = refl;
          payloads = λ j jl. refl;
        }) shows.written;
    registers = registers_renamed W n K L (heads at) (heads at) (register_of g) pending w up
        (λ a ka. refl) shows.registers;
  }

  module _ (pending' : ℕ → ℕ → Bool) (t r : ℕ) (there : t < n) (small : r < REGISTERS) where
    in_graph : t < length g.mutators
    in_graph = subst (λ k. t < k) (sym shows.sized.threads) there

    full : r < length (mutator_at g t).registers
    full = subst (λ k. r < k) (sym (shows.sized.sixteen t there)) small

    -- The word of the value that the register has is stored. This ends a pending store.
    pub pending_store : ((u q : ℕ) → pending' u q ≡ false → ((t ≡ u) → (r ≡ q) → ⊥)
        → pending u q ≡ false)
        → Shows W n m K g at (with_payload w (register_block W t r) (register_slot W r)
        (value_word (heads at) (register_of g t r))) pending'
    pending_store others = record {
      sized = shows.sized;
      names = shows.names;
      closed = shows.closed;
      numbered = shows.numbered;
      placed = shows.placed;
      written = others_written W K K (object_of g) (object_of g) at w _ (λ a k. k) (λ a k. refl)
          (λ a o ka ol. other_block W w _ _ _ (at a o)
          (register_apart W n m K (object_of g) at shows.placed (register_block W t r)
          (register_low W n t r there small) a o ka ol)) shows.written;
      registers = registers_stored W n K (heads at) (register_of g)
          (register_of g) pending pending' w t r (register_of g t r) there small
          (shows.closed.registers t r there small) (λ e. refl)
          (λ u q ne e. (others u q e ne, refl)) shows.registers;
    }

    module _ (v : Value) (kept : IsValueOf K v) where
      register_moved : (u q : ℕ)
          → register_of (with_register g t r v) u q
          ≡ cond (eqb t u && eqb r q) v (register_of g u q)
      register_moved u q = register_with_register g t r u q v in_graph full

      pub register_same : (u q : ℕ) → ((t ≡ u) → (r ≡ q) → ⊥)
          → register_of g u q ≡ register_of (with_register g t r v) u q
      register_same u q ne = sym (register_moved u q ∙ elim (cases_eq t u) [
        | inr m ↦ ap (λ b. cond (b && eqb r q) v (register_of g u q)) (ne_eqb t u m)
        | inl e ↦ elim (cases_eq r q) [
          | inr m ↦ ap (λ b. cond (b && eqb r q) v (register_of g u q)) (eq-eqb t u e)
              ∙ ap (λ b. cond b v (register_of g u q)) (ne_eqb r q m)
          | inl f ↦ absurd (ne e f)
        ]
      ])

      pub register_new : v ≡ register_of (with_register g t r v) t r
      register_new = sym (register_moved t r ∙ rw (eq-eqb t t refl, eq-eqb r r refl) refl)

      moved_sized : IsSized n (with_register g t r v)
      moved_sized = record {
        threads = length-set g.mutators t
            (record {
              registers = set (mutator_at g t).registers r v;
              objects = (mutator_at g t).objects;
            }) ∙ shows.sized.threads;
        sixteen = λ u un. sixteen_with_register g t r u v in_graph ∙ shows.sized.sixteen u un;
      }

      pub object_same : (a : Name) → object_of (with_register g t r v) a ≡ object_of g a
      object_same a = object_with_register g t r v a in_graph

      moved_closed : Closed n K (object_of (with_register g t r v))
          (register_of (with_register g t r v))
      moved_closed = record {
        fields = λ a i ka. subst (λ (x : Object). IsValueOf K (field_of x i))
            (sym (object_same a)) (shows.closed.fields a i ka);
        registers = λ u q un ql. subst (λ x. IsValueOf K x) (sym (register_moved u q))
            (elim (cases_Bool (eqb t u && eqb r q)) [
              | inl is ↦ rw is kept
              | inr is ↦ rw is (shows.closed.registers u q un ql)
            ]);
      }

      -- A kept value is stored in a register, by the word and in the graph.
      pub register_store : ((u q : ℕ) → pending' u q ≡ false → ((t ≡ u) → (r ≡ q) → ⊥)
          → pending u q ≡ false) → Shows W n m K (with_register g t r v) at
          (with_payload w (register_block W t r) (register_slot W r)
          (value_word (heads at) v)) pending'
      register_store others = record {
        sized = moved_sized;
        names = λ a ka. has_name_with_register g t r v a in_graph ∙ shows.names a ka;
        closed = moved_closed;
        numbered = numbered_like W K K (object_of g) (object_of (with_register g t r v))
            (λ a k. k) (λ a k. ap (object_blocks W) (object_same a)) shows.numbered;
        placed = placed_like W n m K K (object_of g) (object_of (with_register g t r v)) at
            (λ a k. k) (λ a k. ap (object_blocks W) (object_same a)) shows.placed;
        written = others_written W K K (object_of g) (object_of (with_register g t r v)) at w _
            (λ a k. k) (λ a k. object_same a)
            (λ a o ka ol. other_block W w _ _ _ (at a o)
            (register_apart W n m K (object_of g) at shows.placed (register_block W t r)
            (register_low W n t r there small) a o ka ol)) shows.written;
        registers = registers_stored W n K (heads at) (register_of g)
            (register_of (with_register g t r v)) pending pending' w t r v there small kept
            (λ e. register_new)
            (λ u q ne e. (others u q e ne, register_same u q ne)) shows.registers;
      }

      -- A kept value is stored in a register of the graph, whose word is pending from now on.
      pub register_pending : pending' t r ≡ true
          → ((u q : ℕ) → pending' u q ≡ false → pending u q ≡ false)
          → Shows W n m K (with_register g t r v) at w pending'
      register_pending is others = record {
        sized = moved_sized;
        names = λ a ka. has_name_with_register g t r v a in_graph ∙ shows.names a ka;
        closed = moved_closed;
        numbered = numbered_like W K K (object_of g) (object_of (with_register g t r v))
            (λ a k. k) (λ a k. ap (object_blocks W) (object_same a)) shows.numbered;
        placed = placed_like W n m K K (object_of g) (object_of (with_register g t r v)) at
            (λ a k. k) (λ a k. ap (object_blocks W) (object_same a)) shows.placed;
        written = others_written W K K (object_of g) (object_of (with_register g t r v)) at w w
            (λ a k. k) (λ a k. object_same a)
            (λ a o ka ol. record {
              owners = refl;
              shapes = refl;
              payloads = λ j jl. refl;
            }) shows.written;
        registers = registers_stay W n K (heads at) (register_of g)
            (register_of (with_register g t r v)) pending pending' w w (λ x j some xl jl. refl)
            (λ u q un ql e. (
              others u q e,
              register_same u q (λ tu rq. true≢false
                  (sym is ∙ rw (tu, rq) e)),
            )) shows.registers;
      }

  module _ (a : Name) (i : ℕ) (v : Value) (ka : K a) (within : i < length (object_of g a).fields)
      (kept : IsValueOf K v) where
    pub changed_object : (b : Name)
        → object_of (with_field g a i v) b
        ≡ cond (same_name a b) (set_field (object_of g a) i v) (object_of g b)
    changed_object b = object_with_field g a i v (shows.names a ka) b

    pub blocks_same : (b : Name) → object_blocks W (object_of (with_field g a i v) b)
        ≡ object_blocks W (object_of g b)
    blocks_same b = ap (object_blocks W) (changed_object b) ∙ elim (cases_Bool (same_name a b)) [
      | inl same ↦ ap (λ t. object_blocks W
          (cond t (set_field (object_of g a) i v) (object_of g b))) same
          ∙ ap (layout_blocks W (object_of g a).kind) (length-set (object_of g a).fields i v)
          ∙ ap (λ c. object_blocks W (object_of g c)) (one_name a b same)
      | inr other ↦ ap (λ t. object_blocks W
          (cond t (set_field (object_of g a) i v) (object_of g b))) other
    ]

    pub register_kept : (t r : ℕ) → register_of g t r ≡ register_of (with_field g a i v) t r
    register_kept t r = sym (ap (λ rs. get_or rs r Nil)
        (registers_with_field g a i v (shows.names a ka) t))

    fields_kept : (b : Name) (k : ℕ) → K b
        → IsValueOf K (field_of (object_of (with_field g a i v) b) k)
    fields_kept b k kb = subst (λ (x : Object). IsValueOf K (field_of x k))
        (sym (changed_object b)) (elim (cases_Bool (same_name a b)) [
          | inl same ↦ rw same (subst (λ x. IsValueOf K x)
              (sym (get_or_set (object_of g a).fields i k v Nil within))
              (elim (cases_Bool (eqb i k)) [
                | inl is ↦ rw is kept
                | inr is ↦ rw is (shows.closed.fields a k ka)
              ]))
          | inr other ↦ rw other (shows.closed.fields b k kb)
        ])

    -- A kept value is stored in a field of a kept object, at the field's slot.
    pub field_store : Shows W n m K (with_field g a i v) at
        (with_payload w (at a (object_slot W (object_of g a) i).0)
        (object_slot W (object_of g a) i).1 (value_word (heads at) v)) pending
    field_store =
        let slot : (object_slot W (object_of g a) i).0 < object_blocks W (object_of g a) =
        ((object_layout W (object_of g a)).slots _ _ i
        ((object_layout W (object_of g a)).fields i within)).1 in
        record {
          sized = record {
            threads = threads_with_field g a i v (shows.names a ka) ∙ shows.sized.threads;
            sixteen = λ t tn. ap length (registers_with_field g a i v (shows.names a ka) t)
                ∙ shows.sized.sixteen t tn;
          };
          names = λ b kb. has_name_with_field g a i v (shows.names a ka) b ∙ shows.names b kb;
          closed = record {
            fields = fields_kept;
            registers = λ t r tn rl. subst (λ x. IsValueOf K x) (register_kept t r)
                (shows.closed.registers t r tn rl);
          };
          numbered = numbered_like W K K (object_of g) (object_of (with_field g a i v)) (λ b k. k)
              (λ b k. blocks_same b) shows.numbered;
          placed = placed_like W n m K K (object_of g) (object_of (with_field g a i v)) at
              (λ b k. k) (λ b k. blocks_same b) shows.placed;
          written = field_written W K (object_of g)
              (object_of (with_field g a i v)) at w a i v
              shows.numbered ka within changed_object shows.written;
          registers = registers_stay W n K (heads at) (register_of g)
              (register_of (with_field g a i v)) pending pending w _
              (λ x j some xl jl. payload_other w _ _ _ x j
              (rw (ne_eqb (at a (object_slot W (object_of g a) i).0) x
              (λ e. register_apart W n m K (object_of g) at shows.placed x xl a _ ka slot
              (sym e))) refl))
              (λ t r tn rl e. (e, register_kept t r)) shows.registers;
        }
