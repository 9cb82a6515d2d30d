-- What a call from C does that saves a heap as bytes, or loads one.
use Rattle.std.specs.Prelude.{ℕ, ◌≡◌, ◌<◌, ◌^◌, Option, Some, None, Result, Ok, Err, List, length}
use Rattle.block_store.specs.declared.Config.{Config}
use Rattle.block_store.specs.declared.Width.{Width}
use Rattle.control_heap.specs.declared.control.Refused.TheVariants as refused
use Rattle.control_heap.specs.Controls.{Control}
use Rattle.saved_heap.specs.heap_pictures.Pictures.{Content, graph_of}
use Rattle.saved_heap.specs.heap_pictures.Plans.{plan_of}
use Rattle.saved_heap.specs.heap_pictures.Reading.{picture_at}
use Rattle.saved_heap.specs.heap_pictures.Spelling.{saved}
use Rattle.saved_heap.specs.declared.faults.CopyFault.TheVariants as copy_faults
use Rattle.saved_heap.specs.declared.faults.LoadFault.{LoadFault}
use Rattle.saved_heap.specs.declared.faults.LoadFault.TheVariants as load_faults
use Rattle.saved_heap.specs.declared.faults.NotSaved.TheVariants as not_saved
use Rattle.saved_heap.specs.declared.faults.RenewFault.{RenewFault}
use Rattle.saved_heap.specs.declared.faults.RenewFault.TheVariants as renew_faults
use Rattle.saved_heap.specs.declared.heap_pictures.faults.SaveFault.{SaveFault}
use Rattle.saved_heap.specs.declared.heap_pictures.faults.SaveFault.TheVariants as save_faults
use Rattle.saved_heap.specs.Enough.{SomeIsEnough, IsEnough, IsLoadOutOfMemory}
use Rattle.saved_heap.specs.Faults.{IsLoadFault, IsNotSaved}
use Rattle.saved_heap.specs.Renewals.{IsBuilt, IsPictureOf, ShowOneGraph, ShowsUpToNames}
use Rattle.saved_heap.specs.SearchOrder.{IsInOrder}
use Rattle.control_heap_c.specs.Buffers.{HasNoRoom, HasWritten}
use Rattle.control_heap_c.specs.Outcomes.{heap_in, open_status}
use Rattle.control_heap_c.specs.declared.handle.OpenRefusal.TheVariants as opening
use Rattle.control_heap_c.specs.declared.owned.Owned.{Owned}
use Rattle.control_heap_c.specs.declared.saves.LoadRefusal.{LoadRefusal}
use Rattle.control_heap_c.specs.declared.saves.LoadRefusal.TheVariants as loading
use Rattle.control_heap_c.specs.declared.saves.SaveRefusal.{SaveRefusal}
use Rattle.control_heap_c.specs.declared.saves.SaveRefusal.TheVariants as saving

-- ---- a heap is saved

-- The bytes of a heap, as `save` ensures: those of its picture, which has no other objects. Some
-- configuration is enough to load them.
pub record IsSave (h : Control) (bytes : List ℕ) : Type 0 where
  pub picture : Content
  pub bytes_are : bytes ≡ saved picture
  pub shows : IsPictureOf h picture
  pub order : IsInOrder picture
  pub enough : SomeIsEnough picture

-- The caller's memory has the bytes of the heap, or is unchanged.
abbrev pub HasKept : Control → List ℕ → List ℕ → Result ℕ SaveRefusal → Type 0
HasKept h before after (Ok n) =
    (bytes : List ℕ) × IsSave h bytes × HasWritten bytes before after n
HasKept h before after (Err (saving.TooSmall n)) =
    (bytes : List ℕ) × IsSave h bytes × HasNoRoom bytes before after n
HasKept h before after (Err (saving.Heap e)) = IsNotSaved h e × (after ≡ before)
HasKept h before after (Err saving.Closed) = ⊥

-- the same of a handle, which may have no heap
abbrev pub HasSaved : Option Control → List ℕ → List ℕ → Result ℕ SaveRefusal → Type 0
HasSaved None before after outcome = (outcome ≡ Err saving.Closed) × (after ≡ before)
HasSaved (Some h) before after outcome = HasKept h before after outcome

abbrev pub save_status : Result ℕ SaveRefusal → ℕ
save_status (Ok n) = 0
save_status (Err saving.Closed) = 1
save_status (Err (saving.Heap not_saved.NoMemory)) = 8
save_status (Err (saving.TooSmall n)) = 15
save_status (Err (saving.Heap (not_saved.TooLarge n))) = 31

-- what the caller's number is after the call: how many bytes there are, or objects if these are too
-- many
abbrev pub save_length : Result ℕ SaveRefusal → ℕ → ℕ
save_length (Ok n) before = n
save_length (Err saving.Closed) before = before
save_length (Err (saving.Heap not_saved.NoMemory)) before = before
save_length (Err (saving.TooSmall n)) before = n
save_length (Err (saving.Heap (not_saved.TooLarge n))) before = n

-- A call: what the handle has before and after, the caller's memory and number before and after,
-- and the status. The handle has the same after it.
pub record Saved (old new : Option Owned) (out out' : List ℕ) (length length' status : ℕ)
    : Type 0 where
  pub outcome : Result ℕ SaveRefusal
  pub saved : HasSaved (heap_in old) out out' outcome
  pub unchanged : new ≡ old
  pub status_is : status ≡ save_status outcome
  pub length_is : length' ≡ save_length outcome length

-- ---- a heap is loaded

-- A heap that was loaded, as `load` ensures: it was built from the picture that the bytes are of,
-- and shows it up to names. If they are those of a heap, it shows what that did.
pub record Loaded (bytes : List ℕ) (c : Config) (h : Control) : Type 0 where
  pub config : h.config ≡ c
  pub shown : (p : Content) × (picture_at bytes ≡ Ok p) × ShowsUpToNames h (graph_of p)
  pub built : (p : Content) × (picture_at bytes ≡ Ok p) × IsBuilt c (plan_of p) h
  pub again : (from : Control) (p : Content) → IsPictureOf from p → length (saved p) < 2 ^ 64
      → bytes ≡ saved p → ShowOneGraph from h

abbrev pub IsLoaded : List ℕ → Config → Option Control → Type 0
IsLoaded bytes c None = ⊥
IsLoaded bytes c (Some h) = Loaded bytes c h

-- why bytes cannot be loaded: if the configuration is enough, for memory
pub record IsNotBuilt (bytes : List ℕ) (c : Config) (f : LoadFault) : Type 0 where
  pub fault : IsLoadFault bytes c f
  pub enough : (p : Content) → picture_at bytes ≡ Ok p → IsEnough c p → IsLoadOutOfMemory f

-- why no heap is loaded: the handle is open, there is no such version, or the cause of `load`
abbrev pub IsNotLoaded : Option Owned → List ℕ → Option Width → (Width → Config) → LoadRefusal
    → Type 0
IsNotLoaded (Some x) bytes w c loading.Open = Unit {0}
IsNotLoaded None bytes None c loading.Version = Unit {0}
IsNotLoaded None bytes (Some w) c (loading.Heap f) = IsNotBuilt bytes (c w) f
IsNotLoaded _ bytes _ c _ = ⊥

abbrev pub BecameLoaded : Option Owned → List ℕ → Option Width → (Width → Config)
    → Option LoadRefusal → Option Owned → Type 0
BecameLoaded None bytes (Some w) c None new = IsLoaded bytes (c w) (heap_in new)
BecameLoaded None bytes None c None new = ⊥
BecameLoaded (Some x) bytes w c None new = ⊥
BecameLoaded old bytes w c (Some e) new = IsNotLoaded old bytes w c e × (new ≡ old)

-- its status: a different number for each cause that occurs, but that bytes with another picture
-- than that of a heap are 36 whoever finds it
abbrev pub bytes_status : SaveFault → ℕ
bytes_status save_faults.NotASave = 32
bytes_status (save_faults.Version v) = 33
bytes_status save_faults.Torn = 34
bytes_status save_faults.Checksum = 35
bytes_status save_faults.Malformed = 36

abbrev pub build_status : RenewFault → ℕ
build_status renew_faults.NoMemory = 8
build_status (renew_faults.Open f) = open_status (Some (opening.Heap f))
build_status renew_faults.Unsound = 36
build_status (renew_faults.TooManyObjects n) = 31
build_status (renew_faults.ObjectTooLarge needed most) = 37
build_status (renew_faults.LiveTooSmall needed live cycle) = 38
build_status (renew_faults.Copy (copy_faults.Full c)) = 11
build_status (renew_faults.Copy (copy_faults.Refused refused.OutOfBounds)) = 2
build_status (renew_faults.Copy (copy_faults.Refused refused.NoLifeLeft)) = 3

abbrev pub load_status : Option LoadRefusal → ℕ
load_status None = 0
load_status (Some loading.Open) = 4
load_status (Some loading.Version) = 5
load_status (Some (loading.Heap (load_faults.Bytes f))) = bytes_status f
load_status (Some (loading.Heap (load_faults.Build f))) = build_status f

-- what the caller's number is after the call: the version that the bytes are of, how many objects
-- there are, or what `object` or `live` has to be
abbrev pub bytes_number : SaveFault → ℕ → ℕ
bytes_number (save_faults.Version v) before = v
bytes_number save_faults.NotASave before = before
bytes_number save_faults.Torn before = before
bytes_number save_faults.Checksum before = before
bytes_number save_faults.Malformed before = before

abbrev pub build_number : RenewFault → ℕ → ℕ
build_number (renew_faults.TooManyObjects n) before = n
build_number (renew_faults.ObjectTooLarge needed most) before = needed
build_number (renew_faults.LiveTooSmall needed live cycle) before = needed
build_number renew_faults.NoMemory before = before
build_number (renew_faults.Open f) before = before
build_number renew_faults.Unsound before = before
build_number (renew_faults.Copy f) before = before

abbrev pub load_number : Option LoadRefusal → ℕ → ℕ
load_number (Some (loading.Heap (load_faults.Bytes f))) before = bytes_number f before
load_number (Some (loading.Heap (load_faults.Build f))) before = build_number f before
load_number (Some loading.Open) before = before
load_number (Some loading.Version) before = before
load_number None before = before

-- a call: what the handle has before and after, the caller's number before and after, the status
pub record LoadedBy (bytes : List ℕ) (w : Option Width) (c : Width → Config)
    (old new : Option Owned) (before after status : ℕ) : Type 0 where
  pub refusal : Option LoadRefusal
  pub became : BecameLoaded old bytes w c refusal new
  pub status_is : status ≡ load_status refusal
  pub number_is : after ≡ load_number refusal before
