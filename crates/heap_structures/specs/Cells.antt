-- An array of a graph, and what else of the graph stays.
use Rattle.std.specs.Prelude.{ℕ, ◌<◌, ◌≤◌, ◌≡◌, ◌≢◌, true, List, length}
use Rattle.std.specs.List.{AllByRecursion}
use Rattle.block_store.specs.declared.Name.{Name}
use Rattle.block_store.specs.declared.Value.{Value}
use Rattle.block_store.specs.declared.Value.TheVariants.{Ref}
use Rattle.never_heap.specs.Graphs.{Graph, has_name, object_of, register_of}
use Rattle.heap_structures.specs.declared.cells.Cells.{Cells}

-- the value of a register of the one thread
abbrev pub held : Graph → ℕ → Value
held g r = register_of g 0 r

-- it is none of these registers
abbrev pub IsNone : List ℕ → ℕ → Type 0
IsNone rs q = AllByRecursion (λ r. q ≢ r) rs

-- From graph g to graph z all registers but these and all objects but this one stay as they were,
-- and no name is gone.
pub record Spares (rs : List ℕ) (a : Name) (g z : Graph) : Type 0 where
  pub registers : (q : ℕ) → IsNone rs q → held z q ≡ held g q
  pub objects : (b : Name) → b ≢ a → object_of z b ≡ object_of g b
  pub names : (b : Name) → has_name g b ≡ true → has_name z b ≡ true

-- the same where also objects are made: of those that were there, all but this one stay
pub record Saves (rs : List ℕ) (a : Name) (g z : Graph) : Type 0 where
  pub registers : (q : ℕ) → IsNone rs q → held z q ≡ held g q
  pub objects : (b : Name) → has_name g b ≡ true → b ≢ a → object_of z b ≡ object_of g b
  pub names : (b : Name) → has_name g b ≡ true → has_name z b ≡ true

-- the ranges of an array, and of the two registers of its own
pub record IsPlaced (c : Cells) : Type 0 where
  pub size : c.size ≤ 65535
  pub base : c.base < 16
  pub spare : c.spare < 16
  pub apart : c.spare ≢ c.base

-- the base register refers to the array, which has these values
pub record IsCells (g : Graph) (c : Cells) (vs : List Value) : Type 0 where
  pub base : held g c.base ≡ Ref c.array
  pub named : has_name g c.array ≡ true
  pub values : (object_of g c.array).fields ≡ vs
  pub size : length vs ≡ c.size
  pub placed : IsPlaced c

-- these are its registers, and so many its values
abbrev pub HasPlace : Cells → ℕ → ℕ → ℕ → Type 0
HasPlace c base spare size = (c.base ≡ base) × (c.spare ≡ spare) × (c.size ≡ size)
