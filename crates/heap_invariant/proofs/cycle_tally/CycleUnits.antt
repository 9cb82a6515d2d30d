-- What a kept tally says of the units of its cycle, and of its order with one item more.
use Rattle.std.proofs.Common.{◌≡◌, ℕ, suc, ◌+◌, ◌-◌, ◌*◌, ◌/◌, ◌≤◌, ◌<◌, max, ◌&&◌, ◌||◌, eqb, ltb, refl, arith, ap, sym, ◌∙◌, subst, List, [], ◌∷◌, ◌++◌, inl, inr}
use Rattle.std.proofs.lemmas.Bool.{cases_eq}
use Rattle.std.proofs.lemmas.Nat.{le-div}
use Rattle.block_store.specs.declared.Config.{Config}
use Rattle.rate_plan.specs.Rates.{ceiling}
use Rattle.never_heap.specs.declared.Entry.{Entry}
use Rattle.never_heap.specs.declared.Reply.{Reply}
use Rattle.never_heap.specs.declared.Reply.TheVariants.{Full}
use Rattle.never_heap.specs.Histories.{HistoryItem, Started, Did}
use Rattle.never_heap.specs.Cycles.{graph_at}
use Rattle.never_heap.specs.GivenBlocks.{given}
use Rattle.never_heap.specs.LiveBlocks.{live_blocks}
use Rattle.never_heap.specs.Taken.{taken_by, blocks_if_new}
use Rattle.never_heap.proofs.Lemmas.{given_more, given_nought, given_past, graph_at_more}
use Rattle.block_store.specs.Counts.{changed, total}
use Rattle.block_store.proofs.Lemmas.{bit_le, changed_both, total_ones}
use Rattle.work_account.proofs.Balances.{all_given, whole_paid}
use Rattle.heap_invariant.specs.cycle_tally.Tallies.{Spending, Tally, units_now, given_now}
use Rattle.heap_invariant.specs.cycle_tally.Entries.{entries_in, InThreads}
use Rattle.heap_invariant.specs.cycle_tally.TallyInvariant.{most_given, SpendingKept, live_before, TallyKept}

-- plain arithmetic
pub one_less : (z m : ℕ) → 1 ≤ z → z * m ≡ (z - 1) * m + m
one_less z m l = let e : z ≡ z - 1 + 1 = omega arith in
    let p : z * m ≡ (z - 1 + 1) * m = ap (λ q. q * m) e in omega arith

pub one_more : (z m : ℕ) → (z + 1) * m ≡ z * m + m
one_more z m = omega arith

pub entries_more : (h : List HistoryItem) (e : Entry)
    → entries_in (h ++ Did e ∷ []) ≡ entries_in h + 1
entries_more [] e = refl
entries_more (Started ∷ h) e = entries_more h e
entries_more (Did x ∷ h) e = ap (λ z. z + 1) (entries_more h e)

pub entries_started : (h : List HistoryItem) → entries_in (h ++ Started ∷ []) ≡ entries_in h
entries_started [] = refl
entries_started (Started ∷ h) = entries_started h
entries_started (Did x ∷ h) = ap (λ z. z + 1) (entries_started h)

pub in_threads_more : (n : ℕ) (h : List HistoryItem) (i : HistoryItem) → InThreads n h
    → InThreads n (i ∷ []) → InThreads n (h ++ i ∷ [])
in_threads_more n [] i t u = u
in_threads_more n (Started ∷ h) i t u = in_threads_more n h i t u
in_threads_more n (Did e ∷ h) i t u = (t.0, in_threads_more n h i t.1 u)

pub floor_ceiling : (x y : ℕ) → 0 < y → x / y ≤ ceiling x y
floor_ceiling x y some = let whole : x / y * y ≤ x = (let e = whole_paid y x in omega arith) in
    le-div (x / y) (x + (y - 1)) y some (omega arith)

pub taken_full : (r : Reply) (z k : ℕ) → r ≡ Full z → blocks_if_new r k ≡ 0
taken_full r z k e = ap (λ q. blocks_if_new q k) e

module _ (c : Config) (rate : ℕ) (black : ℕ → ℕ) (some : 0 < rate) (s : Tally)
    (k : TallyKept c rate black s) where
  -- the units of a cycle
  pub scanned_one : (x : ℕ) → s.scanned x ≤ 1
  scanned_one x = omega (arith, k.scans x, bit_le (s.sweep || eqb (s.colour x) (black s.cycle)))

  pub passed_one : (x : ℕ) → 0 < x → s.passed x ≤ 1
  passed_one x pos = omega (arith, k.passes x pos, bit_le (s.sweep && ltb x s.cursor))

  pub few_units : units_now c.blocks s ≤ 2 * c.blocks
  few_units =
      let a : total c.blocks (λ x. s.scanned (suc x)) ≤ c.blocks =
      total_ones c.blocks (λ x. s.scanned (suc x)) (λ x l. scanned_one (suc x)) in
      let b : total c.blocks (λ x. s.passed (suc x)) ≤ c.blocks =
      total_ones c.blocks (λ x. s.passed (suc x)) (λ x l. passed_one (suc x) (omega arith)) in
      omega arith

  -- what is given and paid in a cycle
  pub all_given_now : given_now c.threads s + total c.threads
      (λ t. (s.threads t).balance.paid / rate) ≤ most_given c rate
  all_given_now = all_given c.threads rate c.object s.cycle (2 * c.blocks)
      (λ t. (s.threads t).balance) some (λ t l. (k.each t l).sound)
      (omega (arith, k.counted, few_units))

  -- the order with one item more
  pub given_here : (e : Entry) → given c.width (s.order ++ Did e ∷ []) s.cycle
      ≡ given c.width s.order s.cycle + taken_by c.width e
  given_here e = subst (λ z. given c.width (s.order ++ Did e ∷ []) z
      ≡ given c.width s.order z + taken_by c.width e) k.starts
      (given_more c.width s.order e (omega (arith, k.starts, k.some)))

  pub given_then : (i : HistoryItem) (z : ℕ) → z < s.cycle
      → given c.width (s.order ++ i ∷ []) z ≡ given c.width s.order z
  given_then i z l = elim (cases_eq z 0) [
    | inl e ↦ ap (given c.width (s.order ++ i ∷ [])) e ∙ given_nought c.width (s.order ++ i ∷ [])
        ∙ sym (given_nought c.width s.order) ∙ ap (given c.width s.order) (sym e)
    | inr ne ↦ given_past c.width s.order (i ∷ []) z (omega arith) (omega (arith, k.starts))
  ]

  pub base_same : (i : HistoryItem) → live_blocks c.width
      (graph_at c (s.order ++ i ∷ []) (max 1 (s.cycle - 1))) ≡ live_before c s
  base_same i = ap (live_blocks c.width) (graph_at_more c s.order (i ∷ []) (max 1 (s.cycle - 1))
      (omega arith) (omega (arith, k.starts, k.some)))

  pub each_changed : (z t : ℕ) (w : Spending)
      → ((u : ℕ) → u < c.threads → SpendingKept c rate z (s.threads u))
      → SpendingKept c rate z w → (u : ℕ) → u < c.threads
      → SpendingKept c rate z (changed s.threads t w u)
  each_changed z t w old new u l = changed_both
      (λ _ (q : Spending). SpendingKept c rate z q) s.threads t w u (λ _. new) (λ _. old u l)
