use Rattle.std.proofs.Common.{ℕ, map, ◌≡◌, ◌≤◌, List, [], ◌∷◌, sym, subst, refl, arith}
use Rattle.std.specs.List.{AllByRecursion}
use Rattle.array_trees.specs.Trees.{tree, array_blocks}
use Rattle.block_store.specs.declared.Config.{Config}
use Rattle.block_store.specs.declared.Width.TheVariants.{Four}
use Rattle.never_heap.specs.declared.Command.{Command}
use Rattle.never_heap.specs.declared.Command.TheVariants.{New, Arr, Set, Nil, Mov, Get, Put, Len, Same, Say}
use Rattle.never_heap.specs.Bounds.{IsCommandInBounds}
use Rattle.never_heap.proofs.Lemmas.{plain_fits}
use Rattle.trace_text.specs.Jobs.{Job, IsJobInBounds}
use Rattle.model_tests.proofs.text_tests.ten_commands.job.Goals as goal

abbrev config : ℕ → Config
config object =
    record { width = Four; threads = 2; blocks = 65535; live = 0; object = object; shared = 1024 }

abbrev first : List Command
first = New 3 5 ∷ Arr 15 0 ∷ Set 1 4611686018427387903 ∷ Nil 0 ∷ Mov 4 3 ∷ []

abbrev second : List Command
second = Get 2 0 17 ∷ Put 0 1 12 ∷ Len 7 ∷ Same 8 9 ∷ Say 10 ∷ []

abbrev job : ℕ → List (List Command) → Job
job object traces = record { config = config object; traces = traces }

empty_array : array_blocks Four 0 ≡ 1
unfolding tree
empty_array = refl

-- the record of five fields takes two blocks
first_fits : (object : ℕ) → 2 ≤ object → AllByRecursion (IsCommandInBounds (config object)) first
first_fits object large = (
  record { range = omega arith; blocks = omega arith; units = omega arith; version = tt },
  (
    record {
      range = (omega arith, omega arith);
      blocks = omega (arith, empty_array);
      units = omega arith;
      version = tt;
    },
    (
      plain_fits refl refl tt (omega arith, omega arith),
      (
        plain_fits refl refl tt (omega arith),
        (
          plain_fits refl refl tt (omega arith, omega arith),
          tt,
        ),
      ),
    ),
  ),
)

second_fits : (object : ℕ) → AllByRecursion (IsCommandInBounds (config object)) second
second_fits object = (
  plain_fits refl refl tt (omega arith, omega arith, omega arith),
  (
    plain_fits refl refl tt (omega arith, omega arith, omega arith),
    (
      plain_fits refl refl tt (omega arith),
      (
        plain_fits refl refl tt (omega arith, omega arith),
        (
          plain_fits refl refl tt (omega arith),
          tt,
        ),
      ),
    ),
  ),
)

in_bounds : (object : ℕ) → 2 ≤ object → object ≤ 1024 → (traces : List (List Command))
    → traces ≡ first ∷ second ∷ [] → IsJobInBounds (job object traces)
in_bounds object large small traces is =
    subst (λ (all : List (List Command)). IsJobInBounds (job object all)) (sym is) record {
      config = record {
        some_thread = omega arith;
        threads = omega arith;
        some_block = omega arith;
        blocks = omega arith;
        live = omega arith;
        some_object = omega arith;
        object = omega arith;
        shared = omega arith;
      };
      threads = refl;
      each = (
        record { few = omega arith; commands = first_fits object large },
        (record { few = omega arith; commands = second_fits object }, tt),
      );
    }

pub returns : goal.returns
returns c =
    let made : map (λ v. v.items) c.push-2.new.self.items ≡ first ∷ second ∷ [] =
    rw (
      c.in_ok-push-2.ensures.items,
      c.in_ok-push.ensures.items,
      c.new-traces.ensures.items,
      c.in_ok-from_slice.ensures.items,
      c.in_ok-from_slice-2.ensures.items,
    ) refl in
    in_bounds _ (omega arith) (omega arith) _ made
