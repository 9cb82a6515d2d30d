-- Chains of blocks by the links of colour words.
use Rattle.std.specs.Prelude.{ℕ, ◌≡◌, ◌≢◌, List, [], ◌∷◌}
use Rattle.block_store.specs.Colours.{link}

-- the blocks xs are those from block number a on, by the links of the colour words c, until 0
abbrev pub Chain : (ℕ → ℕ) → ℕ → List ℕ → Type 0
Chain c a [] = a ≡ 0
Chain c a (x ∷ xs) = (a ≡ x) × (x ≢ 0) × Chain c (link (c x)) xs
