-- What a heap has to allow so that a picture can be built in it.
use Rattle.std.specs.Prelude.{ℕ, suc, ◌+◌, ◌*◌, ◌<◌, ◌≤◌, ◌≡◌, max, List, [], ◌∷◌, length, slice_index_or}
use Rattle.std.specs.List.{sum_by}
use Rattle.block_store.specs.declared.Config.{Config}
use Rattle.block_store.specs.declared.Width.{Width}
use Rattle.block_store.specs.Registers.{registers_end}
use Rattle.never_heap.specs.Graphs.{Array, Object}
use Rattle.never_heap.specs.LiveBlocks.{blocks_of_kind, object_blocks}
use Rattle.saved_heap.specs.declared.heap_pictures.needs.Needs.{Needs}
use Rattle.saved_heap.specs.declared.heap_pictures.picture.Item.{Item}
use Rattle.saved_heap.specs.heap_pictures.Pictures.{Content}

-- no object is longer than 65,535
abbrev pub AreShort : List Item → Type 0
AreShort os =
    (i : ℕ) (d : Item) → i < length os → length (slice_index_or os i d).fields.items ≤ 65535

-- the blocks of the largest of these objects
abbrev pub largest : Width → List Object → ℕ
largest w [] = 0
largest w (o ∷ os) = max (object_blocks w o) (largest w os)

-- the blocks of the table of n objects
abbrev pub table_blocks : Width → ℕ → ℕ
table_blocks w n = blocks_of_kind w Array (suc n)

-- The blocks of one object: those of the largest, or of the table. And all blocks: those of the
-- registers, of a shared array so long, of the table, and of the objects.
abbrev pub needs_of : Width → ℕ → Content → Needs
needs_of w shared p = record {
  width = w;
  object = max (table_blocks w (length p.objects)) (largest w p.objects);
  live = registers_end w 1 + blocks_of_kind w Array shared + table_blocks w (length p.objects)
      + sum_by (object_blocks w) p.objects;
  objects = length p.objects;
}

-- a configuration allows so much
pub record Meets (c : Config) (n : Needs) : Type 0 where
  pub width : c.width ≡ n.width
  pub object : n.object ≤ c.object
  pub live : n.live ≤ c.live
  pub few : n.objects ≤ 65534

-- a configuration raised no further than needed, with as many blocks beyond its limits as before
pub record IsRaised (c : Config) (n : Needs) (d : Config) : Type 0 where
  pub meets : Meets d n
  pub width : d.width ≡ c.width
  pub threads : d.threads ≡ c.threads
  pub shared : d.shared ≡ c.shared
  pub live : d.live ≡ max c.live n.live
  pub object : d.object ≡ max c.object n.object
  pub room : d.blocks + c.live + 2 * c.object ≡ c.blocks + d.live + 2 * d.object
  pub few_blocks : d.blocks ≤ 65535
  pub few_live : d.live ≤ 65535
  pub few_object : d.object ≤ 1024
