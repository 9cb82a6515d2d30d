-- The two widths of blocks.
use Rattle.std.specs.Prelude.{ℕ}
use Rattle.block_store.specs.declared.Width.{Width}
use Rattle.block_store.specs.declared.Width.TheVariants.{Four, Eight}

-- how many payload words a block has
abbrev pub payloads : Width → ℕ
payloads Four = 4
payloads Eight = 8

-- how many blocks the register array of a thread takes
abbrev pub register_blocks : Width → ℕ
register_blocks Four = 5
register_blocks Eight = 3
