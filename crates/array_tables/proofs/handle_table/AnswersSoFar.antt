-- One operation's commands or answer more.
use Rattle.std.proofs.Common.{◌≡◌, ℕ, ◌≤◌, List, ◌++◌, length, map, drop, sym, ap, ◌∙◌, append-nil}
use Rattle.std.proofs.lemmas.List.{drop_all}
use Rattle.never_heap.specs.declared.Command.{Command}
use Rattle.never_heap.specs.declared.Entry.{Entry}
use Rattle.never_heap.proofs.Lemmas.{replies}
use Rattle.array_tables.specs.declared.handle_table.operation.Operation.{Operation}
use Rattle.array_tables.specs.declared.handle_table.told.Outcome.{Outcome}
use Rattle.array_tables.specs.handle_table.Handles.{outcomes_told, sizes_of, commands_from, rows_of, command_at, deeds_of}
use Rattle.array_tables.proofs.handle_table.NumberedDeeds.{commands_are}
use Rattle.std.specs.Prelude.{flat_map}

pub record IsToldSoFar (t : ℕ) (ops : List Operation) (i made : ℕ) (told : List Outcome)
    (log rest : List Entry) : Type 0 where
  pub told_so_far : told ++ outcomes_told t made (drop i ops) (replies rest)
      ≡ outcomes_told t 0 ops (replies log)
  pub enough : sizes_of (drop i ops) ≤ length rest
  pub few : made ≤ i

pub all_commands : (t made i : ℕ) (ops : List Operation) (so_far : List Command) → length ops ≤ i
    → so_far ++ commands_from t made (drop i ops) ≡ commands_from t 0 ops
    → so_far ≡ map command_at (flat_map rows_of (deeds_of t ops))
all_commands t made i ops so_far past is =
    sym (append-nil so_far)
    ∙ ap (λ (l : List Operation). so_far ++ commands_from t made l) (sym (drop_all i ops past))
    ∙ is ∙ sym (commands_are t 0 (λ h. 0) ops)
