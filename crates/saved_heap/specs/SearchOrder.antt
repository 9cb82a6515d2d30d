-- The order in which a breadth-first search names objects, from 1 on.
use Rattle.std.specs.Prelude.{ℕ, suc, ◌<◌, ◌≤◌, ◌≡◌, List, [], ◌∷◌, max, length}
use Rattle.block_store.specs.declared.Value.{Value}
use Rattle.block_store.specs.declared.Value.TheVariants.{Nil, Int, Ref}
use Rattle.never_heap.specs.Graphs.{Object}
use Rattle.saved_heap.specs.heap_pictures.Pictures.{Content}

-- the number of the object to which a value refers, or 0
abbrev pub serial_in : Value → ℕ
serial_in Nil = 0
serial_in (Int n) = 0
serial_in (Ref a) = a.serial

-- how many objects have names after these values, where n had before
abbrev pub named_after : ℕ → List Value → ℕ
named_after n [] = n
named_after n (v ∷ vs) = named_after (max n (serial_in v)) vs

-- Each reference is to an object that has a name, or gives the next name.
abbrev pub AreInTurn : ℕ → List Value → Type 0
AreInTurn n [] = Unit {0}
AreInTurn n (v ∷ vs) = (serial_in v ≤ suc n) × AreInTurn (max n (serial_in v)) vs

-- Objects from number k + 1 on are read, each after it has a name. n objects have names before,
-- and m at the end.
abbrev pub AreSearched : ℕ → ℕ → List Object → ℕ → Type 0
AreSearched k n [] m = n ≡ m
AreSearched k n (o ∷ os) m =
    (k < n) × AreInTurn n o.fields × AreSearched (suc k) (named_after n o.fields) os m

-- A search from the registers names all objects, in their order.
abbrev pub IsInOrder : Content → Type 0
IsInOrder p =
    AreInTurn 0 p.registers
    × AreSearched 0 (named_after 0 p.registers) p.objects (length p.objects)
