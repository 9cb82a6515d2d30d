-- The commands of an operation in its ranges are in bounds.
use Rattle.std.proofs.Common.{ℕ, ◌<◌, ◌≤◌, ◌^◌, refl, arith, List, [], ◌∷◌}
use Rattle.std.specs.List.{AllByRecursion}
use Rattle.never_heap.specs.Bounds.{IsCommandInBounds}
use Rattle.never_heap.proofs.Lemmas.{plain_fits}
use Rattle.array_tables.proofs.Lemmas.{◌▸◌}
use Rattle.array_tables.specs.number_rings.Rings.{Operation, Keep, Recall, cell_config}
use Rattle.live_tables.specs.rings.Live.{CanBeNext, commands_of}

abbrev pub Fits : ℕ → Operation → Type 0
Fits places (Keep i v) = (i < places) × (v < 2 ^ 62)
Fits places (Recall i) = i < places

pub fits_next : (places t : ℕ) (ops : List Operation) (op : Operation) → CanBeNext places t ops op
    → Fits places op
fits_next places t ops (Keep i v) is = (is.1, is.2)
fits_next places t ops (Recall i) is = is

module _ (n places blocks : ℕ) (few_places : places ≤ 1024) where
  pub fits_there : (op : Operation) → Fits places op
      → AllByRecursion (IsCommandInBounds (cell_config n places blocks)) (commands_of (op ∷ []))
  fits_there (Keep i v) is =
      record { range = omega arith; blocks = omega arith; units = omega arith; version = tt }
      ▸ plain_fits refl refl tt (omega (arith, is.1))
      ▸ plain_fits refl refl tt (omega arith)
      ▸ plain_fits refl refl tt (omega (arith, is.0))
      ▸ tt
  fits_there (Recall i) is =
      plain_fits refl refl tt (omega (arith, is))
      ▸ plain_fits refl refl tt (omega arith)
      ▸ tt
