-- The four workers of a table, one by one.
use Rattle.std.proofs.Common.{◌≡◌, ◌∙◌, ℕ, zero, suc, ◌<◌, List, [], ◌∷◌, ◌++◌, length, slice_index_or, sym, ap, subst, arith}
use Rattle.std.specs.Prelude.{remove}
use Rattle.block_store.specs.declared.Config.{Config}
use Rattle.shared_heap.specs.Workers.{HeapState}
use Rattle.plantrun_core.specs.PlantWorkers.{IsWorker}
use Rattle.live_tables.specs.tags.Live.{TagWorkerState, opened_config}
use Rattle.live_tables.specs.rows.Workers.{AreEachOnce, AreInOrder, AreFresh, HasWorker, IsFresh, IsOf}

-- four workers, by their threads, are all workers of a table with four
pub four_each : (t : HeapState) (a b c d : TagWorkerState) → t.config.threads ≡ 4
    → IsWorker t 0 a → IsWorker t 1 b → IsWorker t 2 c → IsWorker t 3 d
    → AreEachOnce t (a ∷ b ∷ c ∷ d ∷ [])
four_each t a b c d threads wa wb wc wd = record {
  count = sym threads;
  own = own_of;
  each = λ u lt. each_of u (subst (λ (n : ℕ). u < n) threads lt);
}
  where
    own_of : (i : ℕ) (x : TagWorkerState) → i < 4 → IsOf t (slice_index_or (a ∷ b ∷ c ∷ d ∷ []) i x)
    own_of zero x lt = wa.0
    own_of (suc zero) x lt = wb.0
    own_of (suc (suc zero)) x lt = wc.0
    own_of (suc (suc (suc zero))) x lt = wd.0
    own_of (suc (suc (suc (suc n)))) x lt = absurd (omega (arith, lt))

    each_of : (u : ℕ) → u < 4 → HasWorker u (a ∷ b ∷ c ∷ d ∷ [])
    each_of zero lt = (0, omega arith, λ x. wa.1)
    each_of (suc zero) lt = (1, omega arith, λ x. wb.1)
    each_of (suc (suc zero)) lt = (2, omega arith, λ x. wc.1)
    each_of (suc (suc (suc zero))) lt = (3, omega arith, λ x. wd.1)
    each_of (suc (suc (suc (suc n)))) lt = absurd (omega (arith, lt))

-- the workers of a new table of four, one by one
pub order_four : (t : HeapState) (ws : List TagWorkerState) (a b c d : TagWorkerState)
    → ws ≡ a ∷ b ∷ c ∷ d ∷ [] → AreInOrder t ws
    → IsWorker t 0 a × IsWorker t 1 b × IsWorker t 2 c × IsWorker t 3 d
order_four t ws a b c d is order =
    let o : AreInOrder t (a ∷ b ∷ c ∷ d ∷ []) = subst (AreInOrder t) is order in (
      o.each 0 a (omega arith),
      o.each 1 a (omega arith),
      o.each 2 a (omega arith),
      o.each 3 a (omega arith),
    )

pub fresh_four : (ws : List TagWorkerState) (a b c d : TagWorkerState)
    → ws ≡ a ∷ b ∷ c ∷ d ∷ [] → AreFresh ws → IsFresh a × IsFresh b × IsFresh c × IsFresh d
fresh_four ws a b c d is fresh =
    let o : AreFresh (a ∷ b ∷ c ∷ d ∷ []) = subst AreFresh is fresh in (
      o 0 a (omega arith),
      o 1 a (omega arith),
      o 2 a (omega arith),
      o 3 a (omega arith),
    )

-- four workers that were pushed one after the other
pub closing : (t : HeapState) (w0 w1 w2 w3 w4 : List TagWorkerState) (a b c d : TagWorkerState)
    → w0 ≡ [] → w1 ≡ w0 ++ a ∷ [] → w2 ≡ w1 ++ b ∷ [] → w3 ≡ w2 ++ c ∷ [] → w4 ≡ w3 ++ d ∷ []
    → t.config ≡ opened_config 4 48
    → IsWorker t 0 a → IsWorker t 1 b → IsWorker t 2 c → IsWorker t 3 d → AreEachOnce t w4
closing t w0 w1 w2 w3 w4 a b c d e0 e1 e2 e3 e4 config wa wb wc wd =
    let f1 : w1 ≡ a ∷ [] = e1 ∙ ap (λ (w : List TagWorkerState). w ++ a ∷ []) e0 in
    let f2 : w2 ≡ a ∷ b ∷ [] = e2 ∙ ap (λ (w : List TagWorkerState). w ++ b ∷ []) f1 in
    let f3 : w3 ≡ a ∷ b ∷ c ∷ [] = e3 ∙ ap (λ (w : List TagWorkerState). w ++ c ∷ []) f2 in
    let f4 : w4 ≡ a ∷ b ∷ c ∷ d ∷ [] = e4 ∙ ap (λ (w : List TagWorkerState). w ++ d ∷ []) f3 in
    subst (AreEachOnce t) (sym f4)
    (four_each t a b c d (ap (λ (k : Config). k.threads) config) wa wb wc wd)

-- the elements of a list of four, as they are removed one after the other
pub four_heads : (ws w1 w2 w3 : List TagWorkerState) (a b c d : TagWorkerState)
    → length ws ≡ 4 → a ≡ slice_index_or ws 0 a → w1 ≡ remove ws 0
    → b ≡ slice_index_or w1 0 b → w2 ≡ remove w1 0 → c ≡ slice_index_or w2 0 c
    → w3 ≡ remove w2 0 → d ≡ slice_index_or w3 0 d → ws ≡ a ∷ b ∷ c ∷ d ∷ []
four_heads [] w1 w2 w3 a b c d len ea e1 eb e2 ec e3 ed = absurd (omega (arith, len))
four_heads (x ∷ []) w1 w2 w3 a b c d len ea e1 eb e2 ec e3 ed = absurd (omega (arith, len))
four_heads (x ∷ y ∷ []) w1 w2 w3 a b c d len ea e1 eb e2 ec e3 ed = absurd (omega (arith, len))
four_heads (x ∷ y ∷ z ∷ []) w1 w2 w3 a b c d len ea e1 eb e2 ec e3 ed =
    absurd (omega (arith, len))
four_heads (x ∷ y ∷ z ∷ u ∷ []) w1 w2 w3 a b c d len ea e1 eb e2 ec e3 ed =
    let f2 : w2 ≡ z ∷ u ∷ [] = e2 ∙ ap (λ (w : List TagWorkerState). remove w 0) e1 in
    let f3 : w3 ≡ u ∷ [] = e3 ∙ ap (λ (w : List TagWorkerState). remove w 0) f2 in
    let gb : b ≡ y = eb ∙ ap (λ (w : List TagWorkerState). slice_index_or w 0 b) e1 in
    let gc : c ≡ z = ec ∙ ap (λ (w : List TagWorkerState). slice_index_or w 0 c) f2 in
    let gd : d ≡ u = ed ∙ ap (λ (w : List TagWorkerState). slice_index_or w 0 d) f3 in
    sym (λ i. ea i ∷ gb i ∷ gc i ∷ gd i ∷ [])
four_heads (x ∷ y ∷ z ∷ u ∷ v ∷ ws) w1 w2 w3 a b c d len ea e1 eb e2 ec e3 ed =
    absurd (omega (arith, len))
