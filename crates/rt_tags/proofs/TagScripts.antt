-- What a script of tags holds: as many threads as its header says, and operations in their ranges.
use Rattle.std.proofs.Common.{ℕ, List, [], ◌∷◌, ◌++◌, slice_index_or}
use Rattle.std.specs.List.{AllByRecursion}
use Rattle.array_scripts.specs.declared.header.Header.{Header}
use Rattle.array_scripts.specs.Kinds.{Tokens, FitBehind}
use Rattle.array_scripts.proofs.ScriptSizes.{few_ops, each_thread, fit_at}
use Rattle.array_tables.specs.declared.tag_table.operation.Operation.{Operation}
use Rattle.array_tables.specs.declared.tag_table.operation.Operation.TheVariants.{Write, Clear, Read}
use Rattle.array_tables.specs.tag_table.Tables.{AreInTable, IsOperationInRange, IsScriptInRange}
use Rattle.rt_tags.specs.Lines.{tag_kind, IsTagScript}

each_fits : (h : Header) (before ops : List Operation) → FitBehind tag_kind h before ops
    → AllByRecursion (IsOperationInRange h.places) ops
each_fits h before [] f = tt
each_fits h before (op ∷ ops) f = (f.0.1, each_fits h (before ++ op ∷ []) ops f.1)

in_table : (tags : ℕ) (ops : List Operation) → AllByRecursion (IsOperationInRange tags) ops
    → AreInTable tags ops
in_table tags [] a = tt
in_table tags (Write i v q ∷ ops) a = (a.0.0, in_table tags ops a.1)
in_table tags (Clear i ∷ ops) a = (a.0, in_table tags ops a.1)
in_table tags (Read i ∷ ops) a = (a.0, in_table tags ops a.1)

module _ (lines : List Tokens) (h : Header) (scripts : List (List Operation))
    (is : IsTagScript lines h scripts) where
  pub in_range : AllByRecursion (IsScriptInRange h.places) scripts
  in_range = each_thread tag_kind h lines scripts is (IsScriptInRange h.places) (λ ops f. record {
    few = few_ops tag_kind h ops f;
    each = each_fits h [] ops f;
  })

  pub places : (t : ℕ) → AreInTable h.places (slice_index_or scripts t [])
  places t =
      in_table h.places _ (each_fits h [] _ (fit_at tag_kind h lines scripts is t))
