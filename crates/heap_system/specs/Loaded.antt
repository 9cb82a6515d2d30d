-- The blocks to which a thread has loaded a reference, and the commands in which a register's word
-- is older than its value.
use Rattle.std.specs.Prelude.{ℕ, ◌≡◌, ◌≢◌, ◌⊎◌, true, Option, Some}
use Rattle.block_store.specs.Payloads.{target}
use Rattle.barrier_steps.specs.Operands.{takes_field, to_register}
use Rattle.heap_invariant.specs.graph_relation.Events.{Loading, ObjectLoad, ValueLoad}
use Rattle.barrier_steps.specs.Rows.{FieldState, field_decided}
use Rattle.heap_system.specs.Parts.{Access}
use Rattle.heap_system.specs.Locals.{LocalState, command_of}

-- a loaded value refers to block x: one that is to be stored, or with which a field is compared
pub record IsOfValue (loaded : Option ValueLoad) (x : ℕ) : Type 0 where
  pub load : ValueLoad
  pub there : loaded ≡ Some load
  pub refers : target load.word ≢ 0
  pub is : x ≡ target load.word

-- a loaded object is at block x
pub record IsOfObject (loaded : Option ObjectLoad) (x : ℕ) : Type 0 where
  pub load : ObjectLoad
  pub there : loaded ≡ Some load
  pub is : x ≡ load.block

-- what is loaded refers to block x
abbrev pub IsLoadedBlock : Loading → ℕ → Type 0
IsLoadedBlock l x = IsOfObject l.object x ⊎ (IsOfValue l.expected x ⊎ IsOfValue l.value x)

-- the thread is in a `get` or a `swap` that is decided: register q becomes what the field held
pub record IsTaking (l : LocalState) (q : ℕ) : Type 0 where
  pub field : FieldState
  pub serves : l.part ≡ Access field
  pub takes : takes_field (command_of l) ≡ true
  pub register : to_register (command_of l) ≡ q
  pub own : field.command ≡ command_of l
  pub decided : field_decided field.row ≡ true
