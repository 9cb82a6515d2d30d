-- Which objects of a graph can be reached from its registers, by rounds.
use Rattle.std.specs.Prelude.{ℕ, zero, suc, ◌+◌, ◌≡◌, ◌&&◌, ◌||◌, Bool, true, false, List, [], ◌∷◌, ◌++◌, length}
use Rattle.std.specs.List.{list_any}
use Rattle.block_store.specs.declared.Name.{Name}
use Rattle.block_store.specs.declared.Value.{Value}
use Rattle.block_store.specs.declared.Value.TheVariants.{Ref}
use Rattle.never_heap.specs.Graphs.{Graph, Mutator, same_name, shared_name, count_of, register_of, object_of, field_of}

-- whether a value is a reference to the object of this name
abbrev pub refers : Name → Value → Bool
refers a (Ref b) = same_name b a
refers a _ = false

-- whether a name is in a list of values
abbrev pub stands_in : Name → List Value → Bool
stands_in a vs = list_any (refers a) vs

-- the names of the first k objects of thread t
abbrev pub thread_names : ℕ → ℕ → List Name
thread_names t zero = []
thread_names t (suc k) = thread_names t k ++ record { thread = t; serial = k + 1 } ∷ []

-- the names of the shared array and of the objects of the first t threads
abbrev pub names_below : Graph → ℕ → List Name
names_below g zero = shared_name (length g.mutators) ∷ []
names_below g (suc t) = names_below g t ++ thread_names t (count_of g t)

-- all names of a graph
abbrev pub names : Graph → List Name
names g = names_below g (length g.mutators)

-- whether a name is in a field of one of these objects that is in a set
abbrev pub leads_to : Graph → (Name → Bool) → List Name → Name → Bool
leads_to g set list a = list_any (λ (b : Name). set b && stands_in a (object_of g b).fields) list

-- Round 0 is the names in registers, and each later round is the one before and the names in fields
-- of its objects.
abbrev pub in_round : Graph → ℕ → Name → Bool
in_round g zero a = list_any (λ (m : Mutator). stands_in a m.registers) g.mutators
in_round g (suc j) a = in_round g j a || leads_to g (in_round g j) (names g) a

-- a name is reachable where it is in the round whose number is the number of names
unfoldable pub reachable : Graph → Name → Bool
reachable g a = in_round g (length (names g)) a

-- whether a name is one of these
abbrev pub is_among : List Name → Name → Bool
is_among ss a = list_any (λ (s : Name). same_name a s) ss

-- all that a set has is reachable
abbrev pub AreAllReachable : Graph → (Name → Bool) → Type 0
AreAllReachable g set = (b : Name) → set b ≡ true → reachable g b ≡ true

-- a set that has each name in a register, and each name in a field of an object that it has
pub record IsClosed (g : Graph) (s : Name → Bool) : Type 0 where
  pub registers : (t r : ℕ) (a : Name) → register_of g t r ≡ Ref a → s a ≡ true
  pub fields : (b a : Name) (i : ℕ) → s b ≡ true → field_of (object_of g b) i ≡ Ref a → s a ≡ true
