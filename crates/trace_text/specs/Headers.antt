-- The form of a header, by its tokens.
use Rattle.std.specs.Prelude.{ℕ, List, [], ◌∷◌, Option, None, Some, codes, if◌then◌else◌}
use Rattle.std.specs.Str.{bytes_eq}
use Rattle.block_store.specs.declared.Width.{Width}
use Rattle.block_store.specs.declared.Width.TheVariants.{Four, Eight}
use Rattle.trace_text.specs.Reading.{◌>>=◌, parted, no_more_of}

-- the tokens after this word
unfoldable pub behind_at : List ℕ → List (List ℕ) → Option (List (List ℕ))
behind_at word [] = None
behind_at word (first ∷ others) = if bytes_eq first word then Some others else None

-- the token after this label, and the tokens after it
unfoldable pub labelled_at : List ℕ → List (List ℕ) → Option (List ℕ × List (List ℕ))
labelled_at label tokens = behind_at label tokens >>= parted

-- the width of the blocks in a job of this version
abbrev pub width_at : List ℕ → Option Width
width_at token =
    if bytes_eq token (codes "1") then Some Four else
    if bytes_eq token (codes "2") then Some Eight else None

-- the same of the version in front, and the tokens after it
unfoldable pub version_at : List (List ℕ) → Option (Width × List (List ℕ))
version_at tokens = do
  p ← parted tokens
  width ← width_at p.0
  Some (width, p.1)

-- the width that the version names, and the tokens that the five labels name
abbrev pub Labels : Type 0
Labels = Width × List ℕ × List ℕ × List ℕ × List ℕ × List ℕ

unfoldable pub labels_at : List (List ℕ) → Option Labels
labels_at line = do
  rest ← behind_at (codes "rtheap") line
  version ← version_at rest
  threads ← labelled_at (codes "threads") version.1
  blocks ← labelled_at (codes "blocks") threads.1
  live ← labelled_at (codes "live") blocks.1
  object ← labelled_at (codes "object") live.1
  shared ← labelled_at (codes "shared") object.1
  _ ← no_more_of shared.1
  Some (version.0, threads.0, blocks.0, live.0, object.0, shared.0)
