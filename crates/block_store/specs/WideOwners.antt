-- The words of owners whose serials take 43 bits. The bits of a serial above its 24 lowest are
-- above the thread, so that the word of a small serial is that of `Owners`.
use Rattle.std.specs.Prelude.{ℕ, ◌+◌, ◌*◌, ◌/◌, ◌%◌, ◌^◌, ◌<◌, ◌≤◌, nat_le, ◌&&◌, if◌then◌else◌, Option, Some, None}
use Rattle.block_store.specs.declared.Owner.{Owner}
use Rattle.block_store.specs.declared.WideOwner.{WideOwner}

-- the word of a thread, a serial and an ordinal
unfoldable pub wide_word : ℕ → ℕ → ℕ → ℕ
wide_word thread serial ordinal =
    serial / 2 ^ 24 * 2 ^ 45 + thread * 2 ^ 40 + serial % 2 ^ 24 * 2 ^ 16 + ordinal

-- the owners that have a word of 64 bits
pub record IsWide (o : WideOwner) : Type 0 where
  pub thread : o.thread ≤ 16
  pub serial : o.serial < 2 ^ 43
  pub ordinal : o.ordinal ≤ 1023

-- the word of an owner
abbrev pub wide_code : WideOwner → ℕ
wide_code o = wide_word o.thread o.serial o.ordinal

-- the three numbers of a word
unfoldable pub wide_parts : ℕ → WideOwner
wide_parts w = record {
  thread = w / 2 ^ 40 % 2 ^ 5;
  serial = w / 2 ^ 45 * 2 ^ 24 + w / 2 ^ 16 % 2 ^ 24;
  ordinal = w % 2 ^ 16;
}

-- the owner that a word is, or none
unfoldable pub wide_of : ℕ → Option WideOwner
wide_of w =
    let o = wide_parts w in if nat_le o.thread 16 && nat_le o.ordinal 1023 then Some o else None

-- the same owner, with room for a larger serial
abbrev pub widened : Owner → WideOwner
widened o = record { thread = o.thread; serial = o.serial; ordinal = o.ordinal }
