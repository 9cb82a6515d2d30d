-- Workers are put in the order of their threads.
use Rattle.std.proofs.Common.{◌≡◌, ℕ, ◌≤◌, ◌<◌, ◌+◌, refl, arith, subst, sym, ap, ◌∙◌, List, [], length, get_or, inl, inr}
use Rattle.std.proofs.lemmas.Bool.{cases_eq}
use Rattle.std.specs.List.{SwappedAt}
use Rattle.block_store.specs.declared.Config.{Config}
use Rattle.block_store.specs.declared.Width.TheVariants.{Four}
use Rattle.never_heap.specs.Histories.{HistoryItem}
use Rattle.heap_system.specs.Machines.{no_local}
use Rattle.shared_heap.specs.Shared.{no_span}
use Rattle.shared_heap.specs.Workers.{HeapState, WorkerState, AreInOrder, AreEachOnce, HasWorker, AreAmong, HasPart, HaveOneHistory, IsOfMachine}

abbrev pub nobody : WorkerState
nobody = record {
  heap = record { words = 0; slots = 0; views_name = 0; atom = 0; block = 0; offset = 0; slot_names = [] };
  thread = no_local (record { width = Four; threads = 0; blocks = 0; live = 0; object = 0; shared = 0 });
  timeline = [];
  seen = [];
  notes = [];
  span = no_span;
}

abbrev pub is_at : List WorkerState → ℕ → ℕ → Type 0
is_at hs k t = (d : WorkerState) → (get_or hs k d).thread.thread ≡ t

-- the first t are in order, the others have the threads from t on, and all are among those
pub record IsSorted (t n : ℕ) (hs those : List WorkerState) : Type 0 where
  pub count : length hs ≡ n
  pub first : (k : ℕ) → k < t → is_at hs k k
  pub later : (u : ℕ) → t ≤ u → u < n → (j : ℕ) × (t ≤ j) × (j < n) × is_at hs j u
  pub among : AreAmong hs those

pub sorted_none : (n : ℕ) (hs : List WorkerState) → length hs ≡ n → ((t : ℕ) → t < n → HasWorker t hs) → IsSorted 0 n hs hs
sorted_none n hs long each = record {
  count = long;
  first = λ k low. absurd (omega arith);
  later = λ u _ ul. (let h = each u ul in (h.0, omega arith, omega (arith, h.1), h.2));
  among = λ k low. (k, low, λ d. refl);
}

-- one more is in its place
pub sorted_more : (t at n : ℕ) (hs ys those : List WorkerState) → IsSorted t n hs those → t < n → t ≤ at → at < n → is_at hs at t → length ys ≡ length hs → SwappedAt hs ys t at → IsSorted (t + 1) n ys those
sorted_more t at n hs ys those s low from below here long swap = record {
  count = long ∙ s.count;
  first = λ k kl. elim (cases_eq k t) [
    | inl e ↦ subst (λ x. is_at ys x x) (sym e) (λ d. ap (λ (h : WorkerState). h.thread.thread) (swap.0 d) ∙ here d)
    | inr ne ↦ (λ d. ap (λ (h : WorkerState). h.thread.thread) (swap.2 k d ne (λ e. omega arith)) ∙ s.first k (omega arith) d)
  ];
  later = λ u ul un. (let j = s.later u (omega arith) un in after u ul j.0 j.1 j.2 j.3);
  among = λ k kl. elim (cases_eq k t) [
    | inl e ↦ (let j = s.among at (omega (arith, s.count)) in (j.0, j.1, λ d. ap (λ x. get_or ys x d) e ∙ swap.0 d ∙ j.2 d))
    | inr ne ↦ elim (cases_eq k at) [
      | inl e ↦ (let j = s.among t (omega (arith, s.count)) in (j.0, j.1, λ d. ap (λ x. get_or ys x d) e ∙ swap.1 d ∙ j.2 d))
      | inr na ↦ (let j = s.among k (omega arith) in (j.0, j.1, λ d. swap.2 k d ne na ∙ j.2 d))
    ]
  ];
}
  where
    one_thread : (j u : ℕ) → j ≡ at → is_at hs j u → t + 1 ≤ u → ⊥
    one_thread j u e is ul =
        let a : (get_or hs at nobody).thread.thread ≡ t = here nobody in
        let b : (get_or hs j nobody).thread.thread ≡ u = is nobody in
        let f : (get_or hs j nobody).thread.thread ≡ (get_or hs at nobody).thread.thread = ap (λ x. (get_or hs x nobody).thread.thread) e in
        omega arith

    after : (u : ℕ) → t + 1 ≤ u → (j : ℕ) → t ≤ j → j < n → is_at hs j u → (i : ℕ) × (t + 1 ≤ i) × (i < n) × is_at ys i u
    after u ul j jl jn is = elim (cases_eq j t) [
      | inl e ↦ elim (cases_eq at t) [
        | inl same ↦ absurd (one_thread j u (e ∙ sym same) is ul)
        | inr apart ↦ (at, omega arith, below, λ d. ap (λ (h : WorkerState). h.thread.thread) (swap.1 d) ∙ subst (λ x. is_at hs x u) e is d)
      ]
      | inr ne ↦ elim (cases_eq j at) [
        | inl e ↦ absurd (one_thread j u e is ul)
        | inr na ↦ (j, omega arith, jn, λ d. ap (λ (h : WorkerState). h.thread.thread) (swap.2 j d ne na) ∙ is d)
      ]
    ]

-- the workers in order
pub ordered_each : (b : HeapState) (n : ℕ) (hs ys : List WorkerState) → n ≡ b.config.threads → AreEachOnce b hs → length ys ≡ n → ((t : ℕ) (d : WorkerState) → t < n → (get_or ys t d).thread.thread ≡ t) → AreAmong ys hs → AreInOrder b ys
ordered_each b n hs ys same crew count order among = record {
  count = count ∙ same;
  each = λ t d low. (let j = among t low in (ap (λ (h : WorkerState). h.heap) (j.2 d) ∙ crew.own j.0 d j.1, order t d (omega arith)));
}

-- facts of all workers of the second list hold of those of the first
ordered_machine : (c : Config) (hs ys : List WorkerState) (order : List HistoryItem) → AreAmong ys hs → IsOfMachine c ys order → IsOfMachine c hs order
ordered_machine c hs ys order among is = record {
  run = is.run;
  by = is.by;
  ordered = is.ordered;
  done = is.done;
  threads = λ t tl.
      (let i = is.threads t tl in
      let j = among i.0 i.1 in
      (j.0, j.1, λ d. ap (λ (w : WorkerState). w.thread) (sym (j.2 d)) ∙ i.2 d));
}

pub ordered_history : (c : Config) (hs ys : List WorkerState) (cycles : ℕ) → AreAmong ys hs → HaveOneHistory c ys cycles → HaveOneHistory c hs cycles
ordered_history c hs ys cycles among is = record {
  timeline = is.timeline;
  order = is.order;
  legal = is.legal;
  licensed = is.licensed;
  never = is.never;
  right = is.right;
  parts = λ t tl.
      (let i = is.parts t tl in
      let j = among i.0 i.1 in
      (j.0, j.1, λ d. subst (HasPart is.timeline is.order t) (j.2 d) (i.2 d)));
  others = is.others;
  ordered = is.ordered;
  no_others = is.no_others;
  formed = is.formed;
  real_time = is.real_time;
  starts = is.starts;
  least_units = is.least_units;
  most_units = is.most_units;
  machine = ordered_machine c hs ys is.order among is.machine;
}

-- workers in thread order are all workers, each once
pub in_order_each : (b : HeapState) (hs : List WorkerState) → AreInOrder b hs → AreEachOnce b hs
in_order_each b hs s = record {
  count = s.count;
  own = λ i d low. (s.each i d low).0;
  each = λ t low. (let tl : t < length hs = omega (arith, s.count) in (t, tl, λ d. (s.each t d tl).1));
}
