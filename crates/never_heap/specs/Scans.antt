-- A scan over what can be reached.
use Rattle.std.specs.Prelude.{ℕ, ◌+◌, ◌*◌, ◌≡◌, ◌≤◌, true, if◌then◌else◌, List, ◌++◌, length}
use Rattle.std.specs.List.{list_any, sum_by}
use Rattle.block_store.specs.declared.Name.{Name}
use Rattle.block_store.specs.declared.Width.{Width}
use Rattle.block_store.specs.Registers.{registers_end}
use Rattle.block_store.specs.declared.Value.{Value}
use Rattle.never_heap.specs.declared.live.Scan.{Scan}
use Rattle.never_heap.specs.Graphs.{Graph, WideGraph, same_name, has_name, object_of}
use Rattle.never_heap.specs.LiveBlocks.{object_blocks}
use Rattle.never_heap.specs.Marks.{Marked, has_place, has_mark}
use Rattle.never_heap.specs.Reach.{names, in_round, stands_in, reachable}

-- the weights of the marked names of a graph
abbrev pub marked_weight : (Name → ℕ) → Graph → Marked → ℕ
marked_weight w g m = sum_by (λ (a : Name). if has_mark m a then w a else 0) (names g)

-- The names found are those marked, each once, and all can be reached. The blocks are theirs and
-- those of the registers.
pub record Scanned
    (w : Width) (g : Graph) (m : Marked) (found : List Name) (blocks : ℕ)
    : Type 0 where
  pub places : (b : Name) → has_place m b ≡ has_name g b
  pub sound : (b : Name) → has_mark m b ≡ true → reachable g b ≡ true
  pub listed : (b : Name) → list_any (same_name b) found ≡ has_mark m b
  pub once : length found ≡ marked_weight (λ _. 1) g m
  pub sum : blocks ≡ registers_end w (length g.mutators)
      + marked_weight (λ a. object_blocks w (object_of g a)) g m
  pub small : blocks ≤ 80 + 21845 * length found

-- what is found in a list of values: the objects to which they refer, after what was found before
pub record Finds
    (g : Graph) (old new : Marked) (before after : List Name) (vs : List Value)
    : Type 0 where
  pub kept : (b : Name) → has_mark old b ≡ true → has_mark new b ≡ true
  pub all : (b : Name) → stands_in b vs ≡ true → has_name g b ≡ true → has_mark new b ≡ true
  pub behind : (more : List Name) × (after ≡ before ++ more)

-- what is in registers is marked
abbrev pub HasRegisters : Graph → Marked → Type 0
HasRegisters g m = (b : Name) → in_round g 0 b ≡ true → has_name g b ≡ true → has_mark m b ≡ true

-- what a scan holds, and what it finds
abbrev pub IsScanOf : WideGraph → Scan → Type 0
IsScanOf g s = Scanned g.width g.graph s.marks s.found.items s.total

abbrev pub HasFound : Graph → Scan → Scan → List Value → Type 0
HasFound g old new vs = Finds g old.marks new.marks old.found.items new.found.items vs
