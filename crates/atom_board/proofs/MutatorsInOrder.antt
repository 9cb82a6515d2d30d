-- Mutators are put in the order of their threads.
use Rattle.std.proofs.Common.{◌≡◌, ℕ, ◌≤◌, ◌<◌, ◌+◌, refl, arith, subst, sym, ap, ◌∙◌, List, [], length, get_or, map, inl, inr}
use Rattle.std.proofs.lemmas.Bool.{cases_eq}
use Rattle.std.proofs.lemmas.List.{length-map}
use Rattle.std.specs.List.{SwappedAt}
use Rattle.block_store.specs.declared.Config.{Config}
use Rattle.block_store.specs.declared.Width.TheVariants.{Four}
use Rattle.never_heap.specs.declared.Command.{Command}
use Rattle.never_heap.specs.declared.Entry.{Entry}
use Rattle.heap_system.specs.Locals.{is_done}
use Rattle.heap_system.specs.Machines.{no_local}
use Rattle.atom_board.specs.Mutators.{BoardState, MutatorState, AreInOrder, AreEachOnce, HasMutator, AreAmong, AreLogsOf, AllAreDone, EndsIn, IsFinishedBy, log_of}
use Rattle.atom_board.proofs.AllMutators.{get_or_map}

abbrev pub nobody : MutatorState
nobody = record {
  board = record { words = 0; slots = 0; views_name = 0; atom = 0; block = 0; offset = 0; slot_names = [] };
  local = no_local (record { width = Four; threads = 0; blocks = 0; live = 0; object = 0; shared = 0 });
  turns = 0;
}

abbrev pub is_at : List MutatorState → ℕ → ℕ → Type 0
is_at hs k t = (d : MutatorState) → (get_or hs k d).local.thread ≡ t

-- the first t are in order, the others have the threads from t on, and all are among those
pub record IsSorted (t n : ℕ) (hs those : List MutatorState) : Type 0 where
  pub count : length hs ≡ n
  pub first : (k : ℕ) → k < t → is_at hs k k
  pub later : (u : ℕ) → t ≤ u → u < n → (j : ℕ) × (t ≤ j) × (j < n) × is_at hs j u
  pub among : AreAmong hs those

pub sorted_none : (n : ℕ) (hs : List MutatorState) → length hs ≡ n → ((t : ℕ) → t < n → HasMutator t hs) → IsSorted 0 n hs hs
sorted_none n hs long each = record {
  count = long;
  first = λ k low. absurd (omega arith);
  later = λ u _ ul. (let h = each u ul in (h.0, omega arith, omega (arith, h.1), h.2));
  among = λ k low. (k, low, λ d. refl);
}

-- one more is in its place
pub sorted_more : (t at n : ℕ) (hs ys those : List MutatorState) → IsSorted t n hs those → t < n → t ≤ at → at < n → is_at hs at t → length ys ≡ length hs → SwappedAt hs ys t at → IsSorted (t + 1) n ys those
sorted_more t at n hs ys those s low from below here long swap = record {
  count = long ∙ s.count;
  first = λ k kl. elim (cases_eq k t) [
    | inl e ↦ subst (λ x. is_at ys x x) (sym e) (λ d. ap (λ (h : MutatorState). h.local.thread) (swap.0 d) ∙ here d)
    | inr ne ↦ (λ d. ap (λ (h : MutatorState). h.local.thread) (swap.2 k d ne (λ e. omega arith)) ∙ s.first k (omega arith) d)
  ];
  later = λ u ul un. (let j = s.later u (omega arith) un in after u ul j.0 j.1 j.2 j.3);
  among = λ k kl. elim (cases_eq k t) [
    | inl e ↦ (let j = s.among at (omega (arith, s.count)) in (j.0, j.1, λ d. ap (λ x. get_or ys x d) e ∙ swap.0 d ∙ j.2 d))
    | inr ne ↦ elim (cases_eq k at) [
      | inl e ↦ (let j = s.among t (omega (arith, s.count)) in (j.0, j.1, λ d. ap (λ x. get_or ys x d) e ∙ swap.1 d ∙ j.2 d))
      | inr na ↦ (let j = s.among k (omega arith) in (j.0, j.1, λ d. swap.2 k d ne na ∙ j.2 d))
    ]
  ];
}
  where
    one_thread : (j u : ℕ) → j ≡ at → is_at hs j u → t + 1 ≤ u → ⊥
    one_thread j u e is ul =
        let a : (get_or hs at nobody).local.thread ≡ t = here nobody in
        let b : (get_or hs j nobody).local.thread ≡ u = is nobody in
        let f : (get_or hs j nobody).local.thread ≡ (get_or hs at nobody).local.thread = ap (λ x. (get_or hs x nobody).local.thread) e in
        omega arith

    after : (u : ℕ) → t + 1 ≤ u → (j : ℕ) → t ≤ j → j < n → is_at hs j u → (i : ℕ) × (t + 1 ≤ i) × (i < n) × is_at ys i u
    after u ul j jl jn is = elim (cases_eq j t) [
      | inl e ↦ elim (cases_eq at t) [
        | inl same ↦ absurd (one_thread j u (e ∙ sym same) is ul)
        | inr apart ↦ (at, omega arith, below, λ d. ap (λ (h : MutatorState). h.local.thread) (swap.1 d) ∙ subst (λ x. is_at hs x u) e is d)
      ]
      | inr ne ↦ elim (cases_eq j at) [
        | inl e ↦ absurd (one_thread j u e is ul)
        | inr na ↦ (j, omega arith, jn, λ d. ap (λ (h : MutatorState). h.local.thread) (swap.2 j d ne na) ∙ is d)
      ]
    ]

-- the mutators in order
pub ordered_each : (b : BoardState) (n : ℕ) (hs ys : List MutatorState) → n ≡ b.config.threads → AreEachOnce b hs → length ys ≡ n → ((t : ℕ) (d : MutatorState) → t < n → (get_or ys t d).local.thread ≡ t) → AreAmong ys hs → AreInOrder b ys
ordered_each b n hs ys same crew count order among = record {
  count = count ∙ same;
  each = λ t d low. (let j = among t low in (ap (λ (h : MutatorState). h.board) (j.2 d) ∙ crew.own j.0 d j.1, order t d (omega arith)));
}

pub ordered_done : (hs ys : List MutatorState) → AllAreDone hs → AreAmong ys hs → AllAreDone ys
ordered_done hs ys done among t d low = let j = among t low in ap (λ (h : MutatorState). is_done h.local) (j.2 d) ∙ done j.0 d j.1

pub ordered_logs : (b : BoardState) (hs ys : List MutatorState) (logs : List (List Entry)) → AreInOrder b ys → AreAmong ys hs → logs ≡ map log_of ys → AreLogsOf logs hs
ordered_logs b hs ys logs crew among are t low =
    let tl : t < length ys = omega (arith, ap length are, length-map ys log_of) in
    let j = among t tl in (
      j.0,
      j.1,
      λ d. (
        ap (λ (h : MutatorState). h.local.thread) (sym (j.2 d)) ∙ (crew.each t d tl).1,
        ap (λ xs. get_or xs t []) are ∙ get_or_map log_of ys t [] d tl ∙ ap log_of (j.2 d),
      ),
    )

-- a run that has ended with mutators that are among these has ended with these
pub ordered_counted : (c : Config) (traces : List (List Command)) (hs ys : List MutatorState) (logs : List (List Entry)) (cycles : ℕ) → AreAmong ys hs → IsFinishedBy c traces ys logs cycles → IsFinishedBy c traces hs logs cycles
ordered_counted c traces hs ys logs cycles among f = record {
  finished = f.finished;
  counted = λ t tl.
      (let i = f.counted t tl in
      let j = among i.0 i.1 in
      (j.0, j.1, λ d. subst (EndsIn c f.finished.turns f.finished.run t) (j.2 d) (i.2 d)));
  own = f.own;
  few = f.few;
}

-- mutators in order are all, each once
pub in_order_each : (b : BoardState) (hs : List MutatorState) → AreInOrder b hs → AreEachOnce b hs
in_order_each b hs s = record {
  count = s.count;
  own = λ i d low. (s.each i d low).0;
  each = λ t low. (let tl : t < length hs = omega (arith, s.count) in (t, tl, λ d. (s.each t d tl).1));
}
