-- What the register blocks show after a write in one of them, after a write elsewhere, and while
-- a store is still to come.
use Rattle.std.proofs.Common.{◌≡◌, ℕ, ◌<◌, ◌≤◌, inl, inr, Bool, false, ◌&&◌, eqb, refl, sym, ◌∙◌, subst, arith, eq-eqb, ne_eqb}
use Rattle.std.proofs.lemmas.Bool.{cases_Bool, eqb-true, and_parts}
use Rattle.block_store.specs.declared.Name.{Name}
use Rattle.block_store.specs.declared.Value.{Value}
use Rattle.block_store.specs.declared.TheConstants.{REGISTERS}
use Rattle.block_store.specs.declared.Width.{Width}
use Rattle.block_store.specs.Widths.{payloads}
use Rattle.block_store.specs.Registers.{root_block, register_block, register_slot, registers_end}
use Rattle.block_store.proofs.Lemmas.{arrays_small, not_root, one_register, register_low, register_some, root_low, root_some, slot_low}
use Rattle.heap_invariant.specs.graph_relation.Words.{BlockWords, value_word, with_payload}
use Rattle.heap_invariant.specs.graph_relation.GraphOfWords.{IsValueOf, RegisterShows, Registers}
use Rattle.heap_invariant.proofs.graph_relation.Names.{value_stays, word_stays, true≢false}
use Rattle.heap_invariant.proofs.graph_relation.Blocks.{payload_other, payload_here}

-- the same in an equal word, of an equal value, and no later than before
pub register_at : (word word' : ℕ) (head : Name → ℕ) (K : Name → Type 0) (v v' : Value)
    (pending pending' : Bool) → word' ≡ word → (pending' ≡ false → (pending ≡ false) × (v ≡ v'))
    → RegisterShows word head K v pending → RegisterShows word' head K v' pending'
register_at word word' head K v v' pending pending' e now k = record {
  value = k.value;
  kept = k.kept;
  reads = e ∙ k.reads;
  now = λ f. k.now (now f).0 ∙ (now f).1;
}

module _ (W : Width) (n : ℕ) (K : Name → Type 0) (head : Name → ℕ)
    (register register' : ℕ → ℕ → Value) (pending pending' : ℕ → ℕ → Bool) (w : BlockWords) where
  -- Register r of thread t is written with the word of a kept value. It is the register's value,
  -- or the register is pending.
  pub registers_stored : (t r : ℕ) (v : Value) → t < n → r < REGISTERS → IsValueOf K v
      → (pending' t r ≡ false → v ≡ register' t r)
      → ((u q : ℕ) → ((t ≡ u) → (r ≡ q) → ⊥) → pending' u q ≡ false
      → (pending u q ≡ false) × (register u q ≡ register' u q))
      → Registers W n K head register pending w
      → Registers W n K head register' pending'
      (with_payload w (register_block W t r) (register_slot W r) (value_word head v))
  registers_stored t r v tn small kept now others k = record {
    holds = λ u q un ql. elim
        (cases_Bool (eqb (register_block W t r) (register_block W u q) && eqb (register_slot W r)
        (register_slot W q))) [
          | inl is ↦
              let e = and_parts (eqb (register_block W t r) (register_block W u q))
              (eqb (register_slot W r) (register_slot W q)) is in
              let one = one_register W t r u q small ql (eqb-true _ _ e.0) (eqb-true _ _ e.1) in
              record {
                value = v;
                kept = kept;
                reads = payload_here w _ _ _ (register_block W u q) (register_slot W q) is;
                now = subst (λ x. pending' x q ≡ false → v ≡ register' x q) one.0
                    (subst (λ x. pending' t x ≡ false → v ≡ register' t x) one.1 now);
              }
          | inr is ↦ register_at _ _ head K _ _ (pending u q) (pending' u q)
              (payload_other w _ _ _ (register_block W u q) (register_slot W q) is)
              (others u q (λ e f. true≢false
              (sym (rw (e, f) (rw (
                eq-eqb (register_block W u q) (register_block W u q) refl,
                eq-eqb (register_slot W q) (register_slot W q) refl,
              ) refl)) ∙ is)))
              (k.holds u q un ql)
        ];
    roots = λ u j un jl. payload_other w _ _ _ (root_block W u) j
        (rw (ne_eqb (register_block W t r) (root_block W u) (not_root W t r u small)) refl)
        ∙ k.roots u j un jl;
  }

  -- the words of the register blocks stay, and a register that is not pending has its value as
  -- before
  pub registers_stay : (u : BlockWords)
      → ((x j : ℕ) → 0 < x → x ≤ registers_end W n → j < payloads W
      → u.payload x j ≡ w.payload x j)
      → ((t r : ℕ) → t < n → r < REGISTERS → pending' t r ≡ false
      → (pending t r ≡ false) × (register t r ≡ register' t r))
      → Registers W n K head register pending w → Registers W n K head register' pending' u
  registers_stay u same now k = record {
    holds = λ t r tn rl. register_at _ _ head K _ _ (pending t r) (pending' t r)
        (same (register_block W t r) (register_slot W r) (register_some W t r)
        (register_low W n t r tn rl) (slot_low W r)) (now t r tn rl) (k.holds t r tn rl);
    roots = λ t j tn jl. same (root_block W t) j (root_some W t)
        (omega (arith, root_low W n t tn, (arrays_small W).0)) jl ∙ k.roots t j tn jl;
  }

-- other names are kept, and none of the old values moves
pub registers_renamed : (W : Width) (n : ℕ) (K L : Name → Type 0) (head other : Name → ℕ)
    (register : ℕ → ℕ → Value) (pending : ℕ → ℕ → Bool) (w : BlockWords) → ((a : Name) → K a → L a)
    → ((a : Name) → K a → other a ≡ head a)
    → Registers W n K head register pending w → Registers W n L other register pending w
registers_renamed W n K L head other register pending w up same k = record {
  holds = λ t r tn rl.
      let h = k.holds t r tn rl in
      record {
        value = h.value;
        kept = value_stays K L h.value up h.kept;
        reads = h.reads
            ∙ sym (word_stays K head other h.value same h.kept);
        now = h.now;
      };
  roots = k.roots;
}

-- where no register is pending, fewer names serve as long as the registers' values are of them
pub registers_fewer : (W : Width) (n : ℕ) (K L : Name → Type 0) (head : Name → ℕ)
    (register : ℕ → ℕ → Value) (pending : ℕ → ℕ → Bool) (w : BlockWords)
    → ((t r : ℕ) → t < n → r < REGISTERS → pending t r ≡ false)
    → ((t r : ℕ) → t < n → r < REGISTERS → IsValueOf L (register t r))
    → Registers W n K head register pending w → Registers W n L head register pending w
registers_fewer W n K L head register pending w none kept k = record {
  holds = λ t r tn rl.
      let h = k.holds t r tn rl in
      let e : h.value ≡ register t r = h.now (none t r tn rl) in
      record {
        value = h.value;
        kept = subst (λ v. IsValueOf L v) (sym e) (kept t r tn rl);
        reads = h.reads;
        now = h.now;
      };
  roots = k.roots;
}
