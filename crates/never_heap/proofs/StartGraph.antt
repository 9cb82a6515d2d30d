-- What the opening graph has.
use Rattle.std.proofs.Common.{ℕ, zero, suc, ◌-◌, ◌≡◌, ◌<◌, ◌≤◌, true, cond, eqb, ◌∷◌, length, get_or, refl, sym, ap, ◌∙◌, arith, eq-eqb, ne_eqb, inl, inr}
use Rattle.std.proofs.lemmas.Bool.{cases_eq, cases_lt}
use Rattle.std.proofs.lemmas.List.{length-replicate, get_or-replicate, get_or_past}
use Rattle.block_store.specs.declared.Config.{Config}
use Rattle.block_store.specs.declared.Name.{Name}
use Rattle.block_store.specs.declared.TheConstants.{REGISTERS}
use Rattle.block_store.specs.declared.Value.{Value}
use Rattle.block_store.specs.declared.Value.TheVariants.{Nil, Ref}
use Rattle.never_heap.specs.Graphs.{Mutator, Array, no_mutator, no_object, start_graph, start_mutator, shared_name, nils, mutator_at, count_of, register_of, object_of, has_name}
use Rattle.never_heap.proofs.GraphMoves.{name_of_shared, name_of_thread, at_zero}

pub threads_of_start : (c : Config) → length (start_graph c).mutators ≡ c.threads
threads_of_start c = length-replicate c.threads (start_mutator c.threads)

pub start_at : (c : Config) (t : ℕ) → t < c.threads
    → mutator_at (start_graph c) t ≡ start_mutator c.threads
start_at c t h = get_or-replicate c.threads t (start_mutator c.threads) no_mutator h

-- no thread has made an object
pub count_of_start : (c : Config) (t : ℕ) → count_of (start_graph c) t ≡ 0
count_of_start c t = elim (cases_lt t c.threads) [
  | inl h ↦ ap (λ (m : Mutator). length m.objects) (start_at c t h)
  | inr h ↦ ap (λ (m : Mutator). length m.objects)
      (get_or_past (start_graph c).mutators t no_mutator (omega (arith, threads_of_start c)))
]

-- the one name is that of the shared array
pub name_of_start : (c : Config) (a : Name) → has_name (start_graph c) a ≡ true
    → (a.thread ≡ c.threads) × (a.serial ≡ 0)
name_of_start c a h = elim (cases_eq a.serial 0) [
  | inl z ↦ (name_of_shared (start_graph c) a z h ∙ threads_of_start c, z)
  | inr z ↦ let few : a.serial ≤ count_of (start_graph c) a.thread =
      name_of_thread (start_graph c) a z h in
      absurd (z (omega (arith, count_of_start c a.thread)))
]

pub object_of_start : (c : Config) (a : Name) → has_name (start_graph c) a ≡ true
    → object_of (start_graph c) a ≡ record { kind = Array; fields = nils c.shared }
object_of_start c a h =
    let p = name_of_start c a h in
    at_zero (start_graph c).shared (length (start_graph c).mutators)
    (mutator_at (start_graph c) a.thread).objects a p.1
    ∙ ap (λ b. cond b (start_graph c).shared no_object)
    (eq-eqb a.thread (length (start_graph c).mutators) (p.0 ∙ sym (threads_of_start c)))

pub has_shared : (c : Config) → has_name (start_graph c) (shared_name c.threads) ≡ true
has_shared c = eq-eqb c.threads (length (start_graph c).mutators) (sym (threads_of_start c))

later_registers : (v : Value) (r : ℕ) → r < REGISTERS → (r ≡ 0 → ⊥)
    → get_or (v ∷ nils (REGISTERS - 1)) r Nil ≡ Nil
later_registers v zero h n = absurd (n refl)
later_registers v (suc r) h n = get_or-replicate (REGISTERS - 1) r Nil Nil (omega arith)

first_register : (v : Value) (r : ℕ) → r ≡ 0 → get_or (v ∷ nils (REGISTERS - 1)) r Nil ≡ v
first_register v r e = ap (λ k. get_or (v ∷ nils (REGISTERS - 1)) k Nil) e

-- register 0 refers to the shared array, and the others are nil
pub register_of_start : (c : Config) (t r : ℕ) → t < c.threads → r < REGISTERS
    → register_of (start_graph c) t r ≡ cond (eqb r 0) (Ref (shared_name c.threads)) Nil
register_of_start c t r h l = elim (cases_eq r 0) [
  | inl e ↦ ap (λ (m : Mutator). get_or m.registers r Nil) (start_at c t h)
      ∙ first_register (Ref (shared_name c.threads)) r e
      ∙ sym (ap (λ b. cond b (Ref (shared_name c.threads)) Nil) (eq-eqb r 0 e))
  | inr n ↦ ap (λ (m : Mutator). get_or m.registers r Nil) (start_at c t h)
      ∙ later_registers (Ref (shared_name c.threads)) r l n
      ∙ sym (ap (λ b. cond b (Ref (shared_name c.threads)) Nil) (ne_eqb r 0 n))
]

pub registers_of_start : (c : Config) (t : ℕ) → t < c.threads
    → length (mutator_at (start_graph c) t).registers ≡ REGISTERS
registers_of_start c t h = ap (λ (m : Mutator). length m.registers) (start_at c t h)
