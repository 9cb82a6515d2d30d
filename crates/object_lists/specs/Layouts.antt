-- What holds of the layout of every object, record or array.
use Rattle.std.specs.Prelude.{ℕ, ◌+◌, ◌<◌, ◌≡◌}
use Rattle.object_lists.specs.Parts.{Part, Link, Field}

-- The layout of an object of `len` fields in `blocks` blocks of w payload words. `part o j` is what
-- is at payload j of the block of ordinal o, and `slot i` is where field i is: an ordinal
-- and a payload.
pub record IsLayout (w len blocks : ℕ) (part : ℕ → ℕ → Part) (slot : ℕ → ℕ × ℕ) : Type 0 where
  -- there is a first block
  pub first : 0 < blocks
  -- a field is where its slot is
  pub fields : (i : ℕ) → i < len → part (slot i).0 (slot i).1 ≡ Field i
  -- and nowhere else; no other fields are anywhere
  pub slots : (o j i : ℕ) → part o j ≡ Field i
      → (i < len) × (o < blocks) × (j < w) × (o ≡ (slot i).0) × (j ≡ (slot i).1)
  -- distinct fields have distinct slots
  pub apart : (i k : ℕ) → i < len → k < len
      → (slot i).0 ≡ (slot k).0 → (slot i).1 ≡ (slot k).1 → i ≡ k
  -- a link goes to a larger ordinal
  pub onward : (o j p : ℕ) → part o j ≡ Link p → (j < w) × (o < p) × (p < blocks)
  -- each block but the first is linked
  pub linked : (p : ℕ) → 0 < p → p < blocks → (o : ℕ) × (j : ℕ) × (part o j ≡ Link p)
  -- from one place
  pub once : (o j q k p : ℕ) → part o j ≡ Link p → part q k ≡ Link p → (o ≡ q) × (j ≡ k)

-- The way to field i: from the first block by this many steps, of which step l takes the link at
-- payload `turn l`, from ordinal `way l` to `way (l + 1)`. The field is then at payload `last`.
pub record IsWay (part : ℕ → ℕ → Part) (i steps last : ℕ) (way turn : ℕ → ℕ) : Type 0 where
  pub starts : way 0 ≡ 0
  pub links : (l : ℕ) → l < steps → part (way l) (turn l) ≡ Link (way (l + 1))
  pub ends : part (way steps) last ≡ Field i

-- A way along links from the first block to the block of ordinal o: by this many steps, of which
-- step l takes the link at payload `turn l`, from ordinal `way l` to `way (l + 1)`.
pub record IsPath (part : ℕ → ℕ → Part) (o steps : ℕ) (way turn : ℕ → ℕ) : Type 0 where
  pub starts : way 0 ≡ 0
  pub links : (l : ℕ) → l < steps → part (way l) (turn l) ≡ Link (way (l + 1))
  pub ends : way steps ≡ o
