-- In every run of rings each thread is told the last eight of its numbers, and nothing is full.
use Rattle.std.proofs.Common.{◌≡◌, ℕ, zero, suc, ◌+◌, ◌*◌, ◌<◌, inl, inr, None, List, [], ◌∷◌, length, map, slice_index_or, sym, refl, ap, ◌∙◌, subst, arith}
use Rattle.std.specs.Prelude.{flat_map}
use Rattle.std.specs.List.{AllByRecursion}
use Rattle.std.proofs.lemmas.Bool.{cases_lt}
use Rattle.std.proofs.lemmas.List.{get_or_past, length-replicate}
use Rattle.never_heap.specs.Histories.{HistoryItem}
use Rattle.never_heap.specs.Licensed.{NoFulls}
use Rattle.never_heap.specs.Runs.{IsRun}
use Rattle.array_tables.specs.operations.Linearizations.{Call, calls_of, replies_in, IsLinearization}
use Rattle.array_tables.proofs.operations.Applied.{applied, as_many_replies}
use Rattle.array_tables.proofs.operations.LinearizedRuns.{linearized}
use Rattle.array_tables.proofs.operations.CallsOfThread.{by_threads}
use Rattle.array_tables.specs.number_rings.Rings.{Operation, Cell, answer, cells_after, empty_cells, rows_of, command_at, decides, ends, AreInCells, ring_config, ring_traces, scripts_from, script_of, recalled, last_numbers}
use Rattle.array_tables.proofs.number_rings.OwnPlaces.{IsOwn, Agree, alone, answers_alone}
use Rattle.array_tables.proofs.number_rings.Chunks.{numbers_in, by_chunks, script_tells, answers_of}
use Rattle.array_tables.proofs.number_rings.LastEight.{script_own, script_shows}
use Rattle.array_tables.proofs.number_rings.RingTable.{rings, rings_owe}

pub scripts_long : (t : ℕ) (lists : List (List ℕ)) → length (scripts_from t lists) ≡ length lists
scripts_long t [] = refl
scripts_long t (vs ∷ lists) = ap suc (scripts_long (t + 1) lists)

script_at : (from t : ℕ) (lists : List (List ℕ)) → t < length lists
    → slice_index_or (scripts_from from lists) t []
    ≡ script_of (from + t) (slice_index_or lists t [])
script_at from t [] low = absurd (omega arith)
script_at from zero (vs ∷ lists) low = ap (λ (k : ℕ). script_of k vs) (omega arith)
script_at from (suc t) (vs ∷ lists) low =
    script_at (from + 1) t lists (omega arith)
    ∙ ap (λ (k : ℕ). script_of k (slice_index_or lists t [])) (omega arith)

pub own_script : (lists : List (List ℕ)) (t : ℕ) → t < length lists
    → slice_index_or (scripts_from 0 lists) t [] ≡ script_of t (slice_index_or lists t [])
own_script lists t low =
    script_at 0 t lists low ∙ ap (λ (k : ℕ). script_of k (slice_index_or lists t [])) (omega arith)

-- each script is in its thread's ring
each_own : (lists : List (List ℕ)) (t : ℕ)
    → AllByRecursion (IsOwn t) (slice_index_or (scripts_from 0 lists) t [])
    × AreInCells (8 * length lists) (slice_index_or (scripts_from 0 lists) t [])
each_own lists t = elim (cases_lt t (length lists)) [
  | inl low ↦ subst (λ (ops : List Operation). AllByRecursion (IsOwn t) ops
      × AreInCells (8 * length lists) ops) (sym (own_script lists t low)) (
        script_own t (slice_index_or lists t []),
        all_low low (script_of t (slice_index_or lists t []))
            (script_own t (slice_index_or lists t [])),
      )
  | inr high ↦ subst (λ (ops : List Operation). AllByRecursion (IsOwn t) ops
      × AreInCells (8 * length lists) ops) (sym (get_or_past (scripts_from 0 lists) t []
      (omega (arith, scripts_long 0 lists)))) (tt, tt)
]
  where
    all_low : t < length lists → (ops : List Operation) → AllByRecursion (IsOwn t) ops
        → AreInCells (8 * length lists) ops
    all_low low [] own = tt
    all_low low (op ∷ ops) own = (omega (arith, own.0.is, own.0.low), all_low low ops own.1)

abbrev Runs : List (List ℕ) → ℕ → List HistoryItem → Type 0
Runs lists rate h = IsRun (ring_config (length lists)) rate (ring_traces lists) h

abbrev Orders : List (List ℕ) → List HistoryItem → List (Call Operation Cell) → Type 0
Orders lists h order =
    IsLinearization rows_of decides ends answer cells_after (empty_cells (8 * length lists))
    (scripts_from 0 lists) h order

-- one thread, by the order of all operations
shown : (lists : List (List ℕ)) (rate : ℕ) (h : List HistoryItem)
    (order : List (Call Operation Cell)) → Runs lists rate h → Orders lists h order
    → (t : ℕ) → t < length lists
    → recalled (length (slice_index_or lists t [])) (replies_in t h)
    ≡ last_numbers (slice_index_or lists t [])
shown lists rate h order run linear t low =
    let vs = slice_index_or lists t [] in
    let size : ℕ = 8 * length lists in
    let scripts = scripts_from 0 lists in
    let rs = replies_in t h in
    let is : slice_index_or scripts t [] ≡ script_of t vs = own_script lists t low in
    let c = ring_config (length lists) in
    let many = as_many_replies c rate rows_of command_at scripts h run t in
    let enough = by_chunks (slice_index_or scripts t []) rs (omega (arith, many)) in
    let by_log : map (λ (d : Call Operation Cell). d.answer) (calls_of t order)
    ≡ answers_of (script_of t vs) rs =
    linear.told t ∙ enough ∙ ap (λ (ops : List Operation). answers_of ops rs) is in
    let long = length-replicate {A = Cell} size None in
    let agree : Agree t (empty_cells size) (empty_cells size) =
    record { room = omega (arith, long); long = refl; same = λ i own. refl } in
    let own = by_threads IsOwn order (λ u.
    subst (λ (ops : List Operation). AllByRecursion (IsOwn u) ops) (sym (linear.each u))
    (each_own lists u).0) in
    let by_order : map (λ (d : Call Operation Cell). d.answer) (calls_of t order)
    ≡ alone (script_of t vs) (empty_cells size) =
    answers_alone t order (empty_cells size) (empty_cells size) linear.answered own agree
    ∙ ap (λ (ops : List Operation). alone ops (empty_cells size)) (linear.each t ∙ is) in
    sym (script_tells t vs rs (many ∙ ap (λ ops. length (flat_map rows_of ops)) is))
    ∙ ap numbers_in (sym by_log ∙ by_order)
    ∙ script_shows t vs (empty_cells size) (omega (arith, long))

pub rings_show : (rate : ℕ) (lists : List (List ℕ)) (h : List HistoryItem) → Runs lists rate h
    → ((t : ℕ) → t < length lists
    → recalled (length (slice_index_or lists t [])) (replies_in t h)
    ≡ last_numbers (slice_index_or lists t []))
    × NoFulls h
rings_show rate lists h run =
    let n = length lists in
    let scripts = scripts_from 0 lists in
    let all = linearized (applied (rings (8 * n)) (ring_config n) rows_of scripts
    (rings_owe n (8 * n) _ scripts (scripts_long 0 lists)
    (λ t. (each_own lists t).1))) rate h run in
    (shown lists rate h all.0 run all.1, all.2)
