-- The answers that replies tell row by row are those that they tell operation by operation.
use Rattle.std.proofs.Common.{◌≡◌, ◌≤◌, List, [], ◌∷◌, length, refl, ap, arith}
use Rattle.std.specs.Prelude.{flat_map}
use Rattle.never_heap.specs.declared.Reply.{Reply}
use Rattle.array_tables.specs.operations.Linearizations.{answers_told}
use Rattle.array_tables.specs.declared.tag_table.operation.Operation.{Operation}
use Rattle.array_tables.specs.declared.tag_table.operation.Operation.TheVariants.{Write, Clear, Read}
use Rattle.array_tables.specs.tag_table.Tables.{rows_of, ends, pair_of, answers_of}

pub by_chunks : (ops : List Operation) (rs : List Reply)
    → length (flat_map rows_of ops) ≤ length rs
    → answers_told ends [] (flat_map rows_of ops) rs ≡ answers_of ops rs
by_chunks [] rs enough = refl
by_chunks (Read i ∷ ops) (a ∷ b ∷ c ∷ rs) enough =
    ap (λ l. pair_of b c ∷ l) (by_chunks ops rs (omega arith))
by_chunks (Clear i ∷ ops) (a ∷ b ∷ c ∷ d ∷ rs) enough =
    ap (λ l. pair_of c d ∷ l) (by_chunks ops rs (omega arith))
by_chunks (Write i v q ∷ ops) (a ∷ b ∷ c ∷ d ∷ e ∷ f ∷ g ∷ h ∷ rs) enough =
    ap (λ l. pair_of g h ∷ l) (by_chunks ops rs (omega arith))
by_chunks (op ∷ ops) rs enough = absurd (omega arith)
