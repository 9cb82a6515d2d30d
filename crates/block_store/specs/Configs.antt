-- The ranges of a configuration.
use Rattle.std.specs.Prelude.{◌≤◌}
use Rattle.block_store.specs.declared.Config.{Config}

-- each of the five numbers is in its range
pub record IsInBounds (c : Config) : Type 0 where
  pub some_thread : 1 ≤ c.threads
  pub threads : c.threads ≤ 16
  pub some_block : 1 ≤ c.blocks
  pub blocks : c.blocks ≤ 65535
  pub live : c.live ≤ 65535
  pub some_object : 1 ≤ c.object
  pub object : c.object ≤ 1024
  pub shared : c.shared ≤ 1024
