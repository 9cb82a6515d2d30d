-- All workers of a heap, and some of them.
use Rattle.std.proofs.Common.{◌≡◌, ℕ, zero, suc, ◌<◌, arith, subst, sym, ap, ◌∙◌, List, [], ◌∷◌, length, get_or, inl, inr}
use Rattle.std.proofs.lemmas.Bool.{cases_eq}
use Rattle.std.specs.List.{SwappedAt}
use Rattle.shared_heap.proofs.Lemmas.{drawn_same}
use Rattle.live_tables.specs.tags.Live.{TagWorkerState}
use Rattle.live_tables.specs.rows.Workers.{HasDrawn, IsOf}
use Rattle.live_tables.proofs.rows.Crews.{of_same}
use Rattle.shared_heap.specs.Workers.{AreEachOnce, AreInOrder, AreSome, HasWorker, HeapState, IsSame, IsWorkerOf, WorkerState}

-- the two workers of a heap, one by one
pub two_of : (h : HeapState) (ws rest none : List WorkerState) (a b : WorkerState) → AreInOrder h ws
    → a ∷ rest ≡ ws → b ∷ none ≡ rest → IsWorkerOf h 0 a × IsWorkerOf h 1 b
two_of h ws rest none a b order first second =
    let both : a ∷ b ∷ none ≡ ws = ap (λ xs. a ∷ xs) second ∙ first in
    let own : AreInOrder h (a ∷ b ∷ none) = subst (λ xs. AreInOrder h xs) (sym both) order in
    (own.each 0 a (omega arith), own.each 1 a (omega arith))

-- the two workers of a heap in the other order
pub two_each : (h : HeapState) (a b : WorkerState) → h.config.threads ≡ 2 → IsWorkerOf h 0 a
    → IsWorkerOf h 1 b → AreEachOnce h (b ∷ a ∷ [])
two_each h a b two wa wb = record {
  count = sym two;
  own = own_at;
  each = λ t low. each_of t (omega (arith, low, two));
}
  where
    own_at : (i : ℕ) (d : WorkerState) → i < 2 → (get_or (b ∷ a ∷ []) i d).heap ≡ h.id
    own_at zero d low = wb.0
    own_at (suc zero) d low = wa.0
    own_at (suc (suc i)) d low = absurd (omega (arith, low))

    each_of : (t : ℕ) → t < 2 → HasWorker t (b ∷ a ∷ [])
    each_of zero low = (1, omega arith, λ d. wa.1)
    each_of (suc zero) low = (0, omega arith, λ d. wb.1)
    each_of (suc (suc t)) low = absurd (omega (arith, low))

pub one_some : (h : HeapState) (w : WorkerState) → w.heap ≡ h.id → AreSome h (w ∷ [])
one_some h w own = (omega arith, each)
  where
    each : (i : ℕ) (d : WorkerState) → i < 1 → (get_or (w ∷ []) i d).heap ≡ h.id
    each zero d low = own
    each (suc i) d low = absurd (omega (arith, low))

-- a worker of a thread, after more commands
pub same_worker : (h : HeapState) (t : ℕ) (a b : WorkerState) → IsWorkerOf h t a → IsSame a b
    → IsWorkerOf h t b
same_worker h t a b is same = (same.heap ∙ is.0, same.thread ∙ is.1)

-- two workers are exchanged
pub exchanged : (h : HeapState) (hs ys : List WorkerState) (a b : ℕ) → AreEachOnce h hs
    → SwappedAt hs ys a b → a < length hs → b < length hs → length ys ≡ length hs → AreEachOnce h ys
exchanged h hs ys a b are swap al bl long = record {
  count = long ∙ are.count;
  own = λ i d low. elim (cases_eq i a) [
    | inl e ↦ ap (λ k. (get_or ys k d).heap) e ∙ ap (λ (w : WorkerState). w.heap) (swap.0 d)
        ∙ are.own b d bl
    | inr na ↦ elim (cases_eq i b) [
      | inl e ↦ ap (λ k. (get_or ys k d).heap) e ∙ ap (λ (w : WorkerState). w.heap) (swap.1 d)
          ∙ are.own a d al
      | inr nb ↦ ap (λ (w : WorkerState). w.heap) (swap.2 i d na nb)
          ∙ are.own i d (omega (arith, low, long))
    ]
  ];
  each = λ t low. there t (are.each t low);
}
  where
    there : (t : ℕ) → HasWorker t hs → HasWorker t ys
    there t j = elim (cases_eq j.0 a) [
      | inl e ↦ (
        b,
        omega (arith, bl, long),
        λ d. ap (λ (w : WorkerState). w.thread.thread) (swap.1 d)
            ∙ ap (λ k. (get_or hs k d).thread.thread) (sym e) ∙ j.2 d,
      )
      | inr na ↦ elim (cases_eq j.0 b) [
        | inl e ↦ (
          a,
          omega (arith, al, long),
          λ d. ap (λ (w : WorkerState). w.thread.thread) (swap.0 d)
              ∙ ap (λ k. (get_or hs k d).thread.thread) (sym e) ∙ j.2 d,
        )
        | inr nb ↦ (
          j.0,
          omega (arith, j.1, long),
          λ d. ap (λ (w : WorkerState). w.thread.thread) (swap.2 j.0 d na nb) ∙ j.2 d,
        )
      ]
    ]

-- a worker of a table that has drawn a stamp
pub of_drawn : (t : HeapState) (a b : TagWorkerState) (n : ℕ) → IsOf t a → HasDrawn a n b → IsOf t b
of_drawn t a b n is drawn = of_same t a b is (drawn_same a.worker b.worker n drawn.drawn)
