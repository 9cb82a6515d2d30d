-- What is enough to build a picture.
use Rattle.std.specs.Prelude.{◌≡◌, ◌+◌, ◌*◌, ◌≤◌, true}
use Rattle.block_store.specs.declared.Config.{Config}
use Rattle.saved_heap.specs.heap_pictures.Needs.{Meets, needs_of}
use Rattle.saved_heap.specs.heap_pictures.Pictures.{Content, is_sound}
use Rattle.control_heap.specs.declared.control.OpenFault.TheVariants as opening
use Rattle.control_heap.specs.Controls.{CanOpen}
use Rattle.saved_heap.specs.declared.faults.LoadFault.{LoadFault}
use Rattle.saved_heap.specs.declared.faults.LoadFault.TheVariants as load_faults
use Rattle.saved_heap.specs.declared.faults.RenewFault.{RenewFault}
use Rattle.saved_heap.specs.declared.faults.RenewFault.TheVariants as renew_faults

-- A heap of this configuration can be opened, and allows what the picture needs.
pub record IsEnough (c : Config) (p : Content) : Type 0 where
  pub can : CanOpen c
  pub sound : is_sound p ≡ true
  pub meets : Meets c (needs_of c.width c.shared p)

-- memory ran out
abbrev pub IsOutOfMemory : RenewFault → Type 0
IsOutOfMemory renew_faults.NoMemory = Unit {0}
IsOutOfMemory (renew_faults.Open opening.NoMemory) = Unit {0}
IsOutOfMemory _ = ⊥

-- bytes were those of a picture, and memory ran out
abbrev pub IsLoadOutOfMemory : LoadFault → Type 0
IsLoadOutOfMemory (load_faults.Build f) = IsOutOfMemory f
IsLoadOutOfMemory _ = ⊥

-- some configuration is enough
abbrev pub SomeIsEnough : Content → Type 0
SomeIsEnough p = (c : Config) × IsEnough c p

-- a configuration has no more blocks than another, and its limits are no higher
pub record IsNoLarger (c d : Config) : Type 0 where
  pub live : c.live ≤ d.live
  pub object : c.object ≤ d.object
  pub blocks : c.blocks ≤ d.blocks

-- a configuration for one thread has room for a cycle beyond its limits
pub record HasRoom (c : Config) : Type 0 where
  pub single : c.threads ≡ 1
  pub shared : c.shared ≤ 1024
  pub object : 1 ≤ c.object
  pub room : c.live + 2 * (1 + c.object) ≤ c.blocks
