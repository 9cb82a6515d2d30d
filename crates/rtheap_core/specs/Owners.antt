-- The serials and the owner words of a run of a text's job.
use Rattle.std.specs.Prelude.{ℕ, ◌<◌, ◌≤◌, ◌≡◌, true, Some, take}
use Rattle.block_store.specs.declared.Config.{Config}
use Rattle.block_store.specs.declared.Name.{Name}
use Rattle.block_store.specs.Owners.{owner_of}
use Rattle.block_store.specs.Places.{OwnerOf}
use Rattle.never_heap.specs.Graphs.{has_name}
use Rattle.never_heap.specs.Histories.{replay}
use Rattle.heap_invariant.specs.name_invariant.States.{sizes}
use Rattle.heap_system.specs.Machines.{Run, IsRunOf, heap_in}
use Rattle.heap_system.specs.Pictures.{kept_state}
use Rattle.exit_statuses.specs.Sides.{Sides}
use Rattle.rtheap_core.specs.declared.exit.RunEnd.{RunEnd}
use Rattle.rtheap_core.specs.EndedRuns.{job_of}
use Rattle.rtheap_core.specs.Exits.{Headline}

-- No name has a serial above 131,072, and each block of a kept object has the owner word of its
-- name and ordinal.
pub record HasOwners (c : Config) (r : Run) : Type 0 where
  pub serials : (a : Name) → has_name (replay c r.order) a ≡ true → a.serial ≤ 131072
  pub words : (a : Name) (o : ℕ) → r.names.kept a ≡ true → o < sizes c (kept_state c r) a
      → owner_of (heap_in c r.state (OwnerOf (r.names.at a o)))
      ≡ Some (record { thread = a.thread; serial = a.serial; ordinal = o })

-- The headline holds, and this is so after any number of the turns of its history.
abbrev pub OwnersStand : Sides → Sides → ℕ → RunEnd → Type 0
OwnersStand source sink status end = (h : Headline source sink status end)
    × ((n : ℕ) (r : Run)
    → IsRunOf (job_of end).config (job_of end).traces (take n h.ran.turned.turns) r
    → HasOwners (job_of end).config r)
