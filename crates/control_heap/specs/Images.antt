-- The words of a heap at a time, and what can be read of them later.
use Rattle.std.specs.Prelude.{ℕ, ◌≡◌, List, length}
use Rattle.block_store.specs.declared.Config.{Config}
use Rattle.block_store.specs.Configs.{IsInBounds}
use Rattle.block_store.specs.Places.{extent, words_count}
use Rattle.heap_system.specs.Machines.{Run}
use Rattle.control_heap.specs.Controls.{Control, Stands}

-- the configuration and the words
pub record Image : Type 0 where
  pub config : Config
  pub words : List ℕ

abbrev pub image_of : Control → Image
image_of h = record { config = h.config; words = h.words }

-- A heap with these words represents the run. What such a heap shows, the image shows.
pub record HasRun (i : Image) (r : Run) : Type 0 where
  pub heap : Control
  pub same : image_of heap ≡ i
  pub stands : Stands heap r

-- an image of a heap that can be opened has as many words as its configuration takes
pub record IsImage (i : Image) : Type 0 where
  pub bounds : IsInBounds i.config
  pub there : length i.words ≡ words_count (extent i.config)
