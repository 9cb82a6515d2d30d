-- The commands of a deed that can come next are in bounds.
use Rattle.std.proofs.Common.{ℕ, ◌<◌, ◌≤◌, ◌^◌, refl, arith, List, [], ◌∷◌, length}
use Rattle.std.specs.List.{AllByRecursion}
use Rattle.never_heap.specs.Bounds.{IsCommandInBounds}
use Rattle.never_heap.proofs.Lemmas.{plain_fits}
use Rattle.array_tables.proofs.Lemmas.{◌▸◌}
use Rattle.array_tables.specs.handle_table.Handles.{Deed, Make, See, Drop, Take, Evict, handle_config, id}
use Rattle.live_tables.specs.handles.Live.{CanFollow, commands_of}
use Rattle.live_tables.specs.handles.Makes.{last_by, made_by}
use Rattle.live_tables.proofs.handles.Makes.{made_few}

module _ (n slots blocks : ℕ) (few_slots : slots ≤ 1024) (t : ℕ) (few_threads : n ≤ 16)
    (low : t < n) where
  pub fits_there : (ops : List Deed) → length (commands_of ops) ≤ 2 ^ 60 → (op : Deed)
      → CanFollow slots t (made_by ops) (last_by ops) op
      → AllByRecursion (IsCommandInBounds (handle_config n slots blocks)) (commands_of (op ∷ []))
  fits_there ops short (Make u j h i x) is =
      let small : id u j < 2 ^ 62 = omega (arith, is.0, is.1, low, few_threads, short, made_few 0 ops) in
      record { range = omega arith; blocks = omega arith; units = omega arith; version = tt }
      ▸ plain_fits refl refl tt (omega (arith, is.4))
      ▸ plain_fits refl refl tt (omega arith)
      ▸ record { range = omega (arith, is.2); blocks = omega arith; units = omega arith; version = tt }
      ▸ plain_fits refl refl tt (omega (arith, is.2))
      ▸ plain_fits refl refl tt (omega (arith, small))
      ▸ plain_fits refl refl tt (omega (arith, is.2))
      ▸ plain_fits refl refl tt (omega arith)
      ▸ plain_fits refl refl refl (omega arith, omega (arith, is.3), omega arith, omega (arith, is.2))
      ▸ tt
  fits_there ops short (See u j h i) is =
      plain_fits refl refl tt (omega (arith, is.3))
      ▸ plain_fits refl refl tt (omega arith, omega (arith, is.2))
      ▸ tt
  fits_there ops short (Drop u j h i) is =
      plain_fits refl refl tt (omega arith)
      ▸ plain_fits refl refl refl (omega arith, omega (arith, is.3), omega (arith, is.2), omega arith)
      ▸ tt
  fits_there ops short (Take i) is =
      plain_fits refl refl tt (omega (arith, is))
      ▸ plain_fits refl refl tt (omega arith)
      ▸ plain_fits refl refl tt (omega arith)
      ▸ plain_fits refl refl tt (omega arith)
      ▸ tt
  fits_there ops short (Evict i) is =
      plain_fits refl refl tt (omega arith)
      ▸ plain_fits refl refl refl (omega arith, omega (arith, is), omega arith)
      ▸ plain_fits refl refl tt (omega arith)
      ▸ plain_fits refl refl tt (omega arith)
      ▸ plain_fits refl refl tt (omega arith)
      ▸ tt
