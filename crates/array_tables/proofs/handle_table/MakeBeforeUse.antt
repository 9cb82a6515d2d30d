-- What orders of scripts in their ranges tell of handles.
use Rattle.std.proofs.Common.{◌≡◌, ℕ, None, List, [], slice_index_or, sym, refl, ◌∙◌, subst, arith}
use Rattle.std.specs.List.{AllByRecursion}
use Rattle.array_tables.specs.operations.Linearizations.{Call, AreAnswered}
use Rattle.array_tables.proofs.operations.CallsOfThread.{ops_of, by_threads}
use Rattle.array_tables.specs.declared.handle_table.operation.Operation.{Operation}
use Rattle.array_tables.specs.handle_table.Handles.{Deed, Answer, all_deeds, IsScriptInRange, answer, slots_after, empty_slots}
use Rattle.array_tables.specs.handle_table.Fates.{TellFates, ShowMakes}
use Rattle.array_tables.proofs.handle_table.Makes.{shown_made, none_made}
use Rattle.array_tables.proofs.handle_table.NumberedDeeds.{IsOwn, IsOwnCall, Numbered, so_numbered, deeds_of_thread}
use Rattle.array_tables.proofs.handle_table.SlotsByFate.{fate_told}

module _ (slots : ℕ) (scripts : List (List Operation)) (order : List (Call Deed Answer))
    (in_range : (t : ℕ) → IsScriptInRange slots (slice_index_or scripts t []))
    (each : (t : ℕ) → ops_of t order ≡ slice_index_or (all_deeds 0 scripts) t [])
    (answered : AreAnswered answer slots_after (empty_slots slots) order) where
  -- each thread's deeds in the order are numbered, and come after their makes
  numbered : (t j : ℕ) → Numbered slots 14000 t j 0 (λ h. 0) None (ops_of t order)
  numbered t j = subst (Numbered slots 14000 t j 0 (λ h. 0) None)
      (sym (each t ∙ deeds_of_thread scripts t))
      (so_numbered slots 14000 t j (slice_index_or scripts t []) (in_range t).few (in_range t).each)

  all_own : AllByRecursion (IsOwnCall slots 14000) order
  all_own = by_threads (IsOwn slots 14000) order (λ t. (numbered t 0).2)

  pub fates_are_told : TellFates order
  fates_are_told before since d t j h i is op =
      fate_told t j slots 14000 order before since d h i answered all_own (numbered t j).1 is op

  pub makes_are_shown : ShowMakes order
  makes_are_shown before since d i t k x is op shows =
      shown_made slots 14000 (omega arith) [] before since before d (empty_slots slots) i t k x refl
      (none_made slots 14000) (subst (AreAnswered answer slots_after
      (empty_slots slots)) is answered)
      (subst (AllByRecursion (IsOwnCall slots 14000)) is all_own) op shows
