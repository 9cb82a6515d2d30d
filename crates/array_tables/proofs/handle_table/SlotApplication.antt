-- What has to be shown of the table of handles, and that every run has a linearization.
use Rattle.std.proofs.Common.{◌≡◌, ℕ, ◌+◌, ◌≤◌, List, [], ◌∷◌, ◌++◌, length, map, slice_index_or, refl, ap, ◌∙◌, subst, arith}
use Rattle.std.specs.Prelude.{flat_map}
use Rattle.never_heap.specs.Histories.{HistoryItem}
use Rattle.never_heap.specs.Licensed.{NoFulls}
use Rattle.never_heap.specs.Runs.{IsRun}
use Rattle.array_tables.specs.operations.Applications.{ops_in}
use Rattle.array_tables.specs.operations.Linearizations.{Call, calls_of, answers_told, replies_in, traces_of, IsLinearization}
use Rattle.array_tables.proofs.operations.Applied.{Owes, applied, as_many_replies}
use Rattle.array_tables.proofs.operations.LinearizedRuns.{linearized}
use Rattle.array_tables.proofs.operations.Pairs.{◌▸◌}
use Rattle.array_tables.proofs.operations.Tables.{nowhere, spot_of, IsProper}
use Rattle.array_tables.specs.declared.handle_table.operation.Operation.{Operation}
use Rattle.array_tables.specs.handle_table.Handles.{Answer, Deed, Make, See, Drop, Take, Evict, Slot, answer, slots_after, empty_slots, Row, rows_of, command_at, decides, ends, last_after, AreNumbered, handle_config, all_deeds, AreInTurn, outcome_of, outcomes_told}
use Rattle.array_tables.proofs.handle_table.Chunks.{by_chunks}
use Rattle.array_tables.proofs.handle_table.NumberedDeeds.{deeds_count, deeds_of_thread, all_numbered}
use Rattle.array_tables.proofs.handle_table.SlotRows.{nil_rests, goes, tells}
use Rattle.array_tables.proofs.handle_table.SlotTable.{kept, weights}

pub whole : (op : Deed) (rows : List Row)
    → ops_in decides (rows_of op ++ rows) ≡ op ∷ ops_in decides rows
whole (Make t j q i x) rows = refl
whole _ rows = refl

-- nothing is known before the first row of a script
at_first : (slots : ℕ) (ops : List Deed) (c : Slot)
    → spot_of (kept slots) (flat_map rows_of ops) c ≡ nowhere
at_first slots [] c = refl
at_first slots (Make t j q i x ∷ ops) c = refl
at_first slots (op ∷ ops) c = refl

proper : (slots t n : ℕ) (last : ℕ → ℕ) (ops : List Deed) → AreNumbered slots t n last ops
    → IsProper (kept slots) t (record { done = n; last = last }) (flat_map rows_of ops)
proper s t n last [] low = tt
proper s t n last (Make u j q i x ∷ ops) low =
    let f = low.0 in
    (tt, λ c. refl) ▸ (tt, λ c. refl) ▸ (tt, λ c. refl) ▸ (f, λ c. refl) ▸ (f, λ c. refl)
    ▸ (f, λ c. refl) ▸ (f, λ c. refl) ▸ (f, λ c. refl) ▸ (f, at_first s ops)
    ▸ proper s t (n + 1) (last_after last q (n + 1)) ops low.1
proper s t n last (See u j q i ∷ ops) low =
    (low.0, λ c. refl) ▸ (low.0, at_first s ops) ▸ proper s t n last ops low.1
proper s t n last (Drop u j q i ∷ ops) low =
    (tt, λ c. refl) ▸ (low.0, at_first s ops) ▸ proper s t n last ops low.1
proper s t n last (Take i ∷ ops) low =
    (low.0, λ c. refl) ▸ (tt, λ c. refl) ▸ (tt, λ c. refl) ▸ (tt, at_first s ops)
    ▸ proper s t n last ops low.1
proper s t n last (Evict i ∷ ops) low =
    (tt, λ c. refl) ▸ (low.0, λ c. refl) ▸ (tt, λ c. refl) ▸ (tt, λ c. refl) ▸ (tt, at_first s ops)
    ▸ proper s t n last ops low.1

pub slots_owe : (n slots blocks : ℕ) (scripts : List (List Deed)) → length scripts ≡ n
    → ((t : ℕ) → AreNumbered slots t 0 (λ h. 0) (slice_index_or scripts t []))
    → Owes (kept slots) (handle_config n slots blocks) rows_of scripts
slots_owe n slots blocks scripts count numbered = record {
  eight = refl;
  shared = refl;
  count = count;
  whole = whole;
  first = record { done = 0; last = λ h. 0 };
  none_finished = omega arith;
  at_first = λ t c. at_first slots (slice_index_or scripts t []) c;
  proper = λ t. proper slots t 0 (λ h. 0) (slice_index_or scripts t []) (numbered t);
  nil_shown = λ obj out. tt;
  nil_rests = λ obj out t q. nil_rests slots obj out t q;
  weights = weights slots;
  fits = omega arith;
  goes = goes slots;
  tells = tells slots;
}

-- every run of a job of handles has a linearization, and none of its allocations is full
pub slots_are_kept : (n slots blocks rate : ℕ) (scripts : List (List Operation))
    (h : List HistoryItem) → length scripts ≡ n
    → ((t : ℕ) → AreInTurn slots [] (slice_index_or scripts t []))
    → IsRun (handle_config n slots blocks) rate
    (traces_of rows_of command_at (all_deeds 0 scripts)) h
    → (order : List (Call Deed Answer))
    × IsLinearization rows_of decides ends answer slots_after (empty_slots slots)
    (all_deeds 0 scripts) h order
    × ((t : ℕ) → map (λ (d : Call Deed Answer). outcome_of d.operation d.answer) (calls_of t order)
    ≡ outcomes_told t 0 (slice_index_or scripts t []) (replies_in t h))
    × NoFulls h
slots_are_kept n slots blocks rate scripts h count inside run =
    let c = handle_config n slots blocks in
    let deeds = all_deeds 0 scripts in
    let all = linearized (applied (kept slots) c rows_of deeds (slots_owe n slots blocks deeds
    (deeds_count 0 scripts ∙ count) (all_numbered slots scripts inside))) rate h run in (
      all.0,
      all.1,
      λ t.
          let same = deeds_of_thread scripts t in
          by_chunks t 0 (λ h. 0) (slice_index_or scripts t []) (replies_in t h)
          (calls_of t all.0) (
            all.1.each t ∙ same,
            all.1.told t ∙ ap (λ (ops : List Deed).
                answers_told ends [] (flat_map rows_of ops) (replies_in t h)) same,
          )
          (subst (λ (ops : List Deed). length (flat_map rows_of ops) ≤ length (replies_in t h)) same
          (omega (arith, as_many_replies c rate rows_of command_at deeds h run t))),
      all.2,
    )
