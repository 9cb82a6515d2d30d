-- The commands in the logs of a finished run are those of its traces.
use Rattle.std.proofs.Common.{ℕ, zero, suc, ◌+◌, ◌≡◌, List, [], ◌∷◌, map, length, get_or, refl, ap, ◌∙◌, sym, subst, arith, zero-add}
use Rattle.block_store.specs.declared.Config.{Config}
use Rattle.never_heap.specs.declared.Command.{Command}
use Rattle.never_heap.specs.declared.Entry.{Entry}
use Rattle.never_heap.specs.Histories.{HistoryItem, part, parts_from}
use Rattle.heap_system.specs.Systems.{IsFinished}

abbrev commands_of : List Entry → List Command
commands_of log = map (λ (e : Entry). e.command) log

-- where the commands of each part are the trace of its thread, those of all parts are all traces
traces_from : (h : List HistoryItem) (t n : ℕ) (traces : List (List Command)) → length traces ≡ n
    → ((u : ℕ) → commands_of (part (t + u) h) ≡ get_or traces u [])
    → map commands_of (parts_from t n h) ≡ traces
traces_from h t zero [] e each = refl
traces_from h t zero (x ∷ xs) e each = absurd cc
traces_from h t (suc n) [] e each = absurd cc
traces_from h t (suc n) (x ∷ xs) e each =
    let first : commands_of (part t h) ≡ x =
    subst (λ k. commands_of (part k h) ≡ x) (zero_more t) (each 0) in
    let rest : map commands_of (parts_from (t + 1) n h) ≡ xs =
    traces_from h (t + 1) n xs (omega (arith, e))
    (λ u. subst (λ k. commands_of (part k h) ≡ get_or xs u []) (one_more t u) (each (suc u))) in
    λ i. first i ∷ rest i
  where
    zero_more : (t : ℕ) → t + 0 ≡ t
    zero_more t = omega arith

    one_more : (t u : ℕ) → t + suc u ≡ (t + 1) + u
    one_more t u = omega arith

pub traces_logged : (c : Config) (traces : List (List Command)) (logs : List (List Entry)) (cycles : ℕ)
    → IsFinished c traces logs cycles → map (λ log. map (λ (e : Entry). e.command) log) logs ≡ traces
traces_logged c traces logs cycles f =
    ap (map commands_of) f.parts_logged
    ∙ traces_from f.run.order 0 c.threads traces f.job.bounds.threads
    (λ u. subst (λ k. commands_of (part k f.run.order) ≡ get_or traces u []) (sym (zero-add u))
    ((f.is_run f.by_turns.opening.rate f.by_turns.opening.planned).traces_whole u))
