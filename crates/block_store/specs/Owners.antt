-- The words of owners: which block of which object a block is.
use Rattle.std.specs.Prelude.{ℕ, ◌+◌, ◌*◌, ◌/◌, ◌%◌, ◌^◌, ◌≤◌, nat_le, ◌&&◌, if◌then◌else◌, Option, Some, None}
use Rattle.block_store.specs.declared.Owner.{Owner}

-- the word of a thread, a serial and an ordinal
unfoldable pub owner_word : ℕ → ℕ → ℕ → ℕ
owner_word thread serial ordinal = thread * 2 ^ 40 + serial * 2 ^ 16 + ordinal

-- the owners that have a word
pub record IsOwner (o : Owner) : Type 0 where
  pub thread : o.thread ≤ 16
  pub serial : o.serial ≤ 131072
  pub ordinal : o.ordinal ≤ 1023

-- the word of an owner
abbrev pub owner_code : Owner → ℕ
owner_code o = owner_word o.thread o.serial o.ordinal

-- the three numbers of a word
unfoldable pub owner_parts : ℕ → Owner
owner_parts w = record { thread = w / 2 ^ 40; serial = w / 2 ^ 16 % 2 ^ 24; ordinal = w % 2 ^ 16 }

-- the owner that a word is, or none
unfoldable pub owner_of : ℕ → Option Owner
owner_of w =
    let o = owner_parts w in
    if nat_le o.thread 16 && nat_le o.serial 131072 && nat_le o.ordinal 1023 then Some o else None
