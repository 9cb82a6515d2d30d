-- What a call from C does that raises a configuration to what a saved heap needs.
use Rattle.std.specs.Prelude.{ℕ, ◌≡◌, ◌<◌, Option, Some, None, Result, Ok, Err, List}
use Rattle.block_store.specs.declared.Config.{Config}
use Rattle.block_store.specs.declared.Width.{Width}
use Rattle.saved_heap.specs.heap_pictures.Needs.{IsRaised, needs_of}
use Rattle.saved_heap.specs.heap_pictures.Pictures.{Content}
use Rattle.saved_heap.specs.heap_pictures.Reading.{picture_at}
use Rattle.saved_heap.specs.Enough.{HasRoom, IsEnough}
use Rattle.saved_heap.specs.Faults.{IsNeedsFault}
use Rattle.control_heap_c.specs.Outcomes.{config_of}
use Rattle.control_heap_c.specs.Saves.{load_status}
use Rattle.control_heap_c.specs.declared.needs.Limits.{Limits}
use Rattle.control_heap_c.specs.declared.needs.RaiseRefusal.{RaiseRefusal}
use Rattle.control_heap_c.specs.declared.needs.RaiseRefusal.TheVariants as raising
use Rattle.control_heap_c.specs.declared.saves.LoadRefusal.TheVariants as loading

-- The second configuration is the first, raised no further than the bytes need. If the first has
-- room for a cycle, as each that can be opened, the second is enough to load them.
pub record HasRaised (bytes : List ℕ) (c d : Config) : Type 0 where
  pub picture : Content
  pub shown : picture_at bytes ≡ Ok picture
  pub raised : IsRaised c (needs_of c.width c.shared picture) d
  pub enough : HasRoom c → IsEnough d picture

-- no configuration is raised so far
pub record IsTooLarge (bytes : List ℕ) (c : Config) : Type 0 where
  pub picture : Content
  pub shown : picture_at bytes ≡ Ok picture
  pub none : (d : Config) → IsRaised c (needs_of c.width c.shared picture) d → ⊥

-- why it is not raised
abbrev pub IsNotRaised : List ℕ → Config → RaiseRefusal → Type 0
IsNotRaised bytes c raising.Version = ⊥
IsNotRaised bytes c raising.Shared = 65535 < c.shared
IsNotRaised bytes c (raising.Bytes f) = IsNeedsFault bytes f
IsNotRaised bytes c raising.TooLarge = IsTooLarge bytes c

abbrev pub BecameRaised : List ℕ → Option Width → (Width → Config) → Result Config RaiseRefusal
    → Type 0
BecameRaised bytes None c outcome = outcome ≡ Err raising.Version
BecameRaised bytes (Some w) c (Ok d) = HasRaised bytes (c w) d
BecameRaised bytes (Some w) c (Err e) = IsNotRaised bytes (c w) e

abbrev pub raise_status : Result Config RaiseRefusal → ℕ
raise_status (Ok d) = 0
raise_status (Err raising.Shared) = 2
raise_status (Err raising.Version) = 5
raise_status (Err (raising.Bytes f)) = load_status (Some (loading.Heap f))
raise_status (Err raising.TooLarge) = 31

-- what the caller's limits are after the call
abbrev pub raised_limits : Result Config RaiseRefusal → Limits → Limits
raised_limits (Ok d) before = record { blocks = d.blocks; live = d.live; object = d.object }
raised_limits (Err e) before = before

-- a call: the caller's limits before and after, and the status
pub record RaisedBy (bytes : List ℕ) (w : Option Width) (shared : ℕ) (before after : Limits)
    (status : ℕ) : Type 0 where
  pub outcome : Result Config RaiseRefusal
  pub became : BecameRaised bytes w
      (λ w. config_of w before.blocks before.live before.object shared) outcome
  pub status_is : status ≡ raise_status outcome
  pub limits_are : after ≡ raised_limits outcome before
