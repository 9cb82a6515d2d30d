-- The opening is kept, every list of events that may come keeps a tally, and what is kept is
-- within the bound.
use Rattle.std.proofs.Common.{◌≡◌, ℕ, zero, suc, ◌+◌, ◌-◌, ◌*◌, ◌≤◌, ◌<◌, max, ◌&&◌, ◌||◌, eqb, ltb, arith, ap, sym, ◌∙◌, subst, List, [], ◌∷◌, inl, inr}
use Rattle.std.proofs.lemmas.Bool.{cases_eq, both_ways}
use Rattle.std.proofs.lemmas.Nat.{mul-le}
use Rattle.block_store.specs.declared.Config.{Config}
use Rattle.block_store.specs.Phases.{bit}
use Rattle.rate_plan.specs.Rates.{KeepsUp}
use Rattle.never_heap.specs.Histories.{HistoryItem, Started, starts_in, work_in}
use Rattle.never_heap.specs.Cycles.{graph_at}
use Rattle.never_heap.specs.GivenBlocks.{given}
use Rattle.never_heap.specs.Licensed.{Licensed}
use Rattle.never_heap.specs.LiveBlocks.{live_blocks}
use Rattle.never_heap.specs.RightWork.{RightWork}
use Rattle.never_heap.proofs.Lemmas.{given_nought}
use Rattle.block_store.specs.Counts.{total}
use Rattle.work_account.specs.Accounts.{Balance, opened, IsSound, units_in, given_in}
use Rattle.block_store.proofs.Lemmas.{bit_le, total_none}
use Rattle.work_account.proofs.Balances.{opened_sound}
use Rattle.heap_invariant.specs.cycle_tally.Tallies.{Spending, Tally, claims, units, given_now, made_of, made_now}
use Rattle.heap_invariant.specs.cycle_tally.Events.{Event, apply, run, Guarded}
use Rattle.heap_invariant.specs.cycle_tally.Entries.{entries_in, InThreads}
use Rattle.heap_invariant.specs.cycle_tally.TallyInvariant.{most_work, SpendingKept, live_before, TallyKept}
use Rattle.heap_invariant.specs.cycle_tally.InitialHeaps.{Opened}
use Rattle.heap_invariant.specs.cycle_tally.Bounds.{AsksNothing, Bound}
use Rattle.heap_invariant.proofs.cycle_tally.Sums.{no_claims}
use Rattle.heap_invariant.proofs.cycle_tally.CycleUnits.{one_less, few_units, all_given_now}
use Rattle.heap_invariant.proofs.cycle_tally.GateAndPhaseEvents.{passed_all}
use Rattle.heap_invariant.proofs.cycle_tally.Steps.{step_kept}

both_parts : (x y z : ℕ) → (x + y) * z ≡ x * z + y * z
both_parts x y z = omega arith

sum_few : (sum one n most : ℕ) → sum ≤ n * most → one ≤ most → sum + one ≤ suc n * most
sum_few sum one n most a b = omega arith

all_few : (work made all a b limit : ℕ) → work + made ≡ all → work ≤ a → made ≤ b → limit ≡ a + b
    → all ≤ limit
all_few work made all a b limit e f g h = omega arith

module _ (c : Config) (rate : ℕ) (black : ℕ → ℕ) (some : 0 < rate) where
  pub opening_kept : (s : Tally) → Opened c s → TallyKept c rate black s
  opening_kept s o =
      let first : List HistoryItem = Started ∷ [] in
      let idle : (t : ℕ) → t < c.threads → (s.threads t).balance ≡ opened =
      λ t tl. (o.threads t tl).balance in
      let paid : (t : ℕ) → t < c.threads → (s.threads t).balance.paid ≡ 0 =
      λ t tl. ap (λ (b : Balance). b.paid) (idle t tl) in
      let nothing : (t : ℕ) → t < c.threads → given_in s.cycle (s.threads t).balance ≡ 0 =
      λ t tl. ap (λ (b : Balance). given_in s.cycle b) (idle t tl)
      ∙ ap (λ z. given_in z opened) o.cycle in
      let made : (t : ℕ) → t < c.threads → units_in s.cycle (s.threads t).balance ≡ 0 =
      λ t tl. ap (λ (b : Balance). units_in s.cycle b) (idle t tl)
      ∙ ap (λ z. units_in z opened) o.cycle in
      let scans : total c.blocks (λ x. s.scanned (suc x)) ≡ 0 =
      total_none c.blocks (λ x. s.scanned (suc x)) (λ x l. o.scanned (suc x)) in
      let passes : total c.blocks (λ x. s.passed (suc x)) ≡ 0 =
      total_none c.blocks (λ x. s.passed (suc x)) (λ x l. o.passed (suc x)) in
      let now : given_now c.threads s ≡ 0 = total_none c.threads
      (λ t. given_in s.cycle (s.threads t).balance) nothing in
      let none : given c.width s.order s.cycle ≡ 0 = ap (λ h. given c.width h s.cycle) o.order
      ∙ ap (given c.width first) o.cycle in
      let number : max 1 (s.cycle - 1) ≡ 1 = ap (λ z. max 1 (z - 1)) o.cycle in
      record {
        starts = ap starts_in o.order ∙ sym o.cycle;
        some = omega (arith, o.cycle);
        each = λ t tl. (let i = o.threads t tl in record {
          sound = subst (λ b. IsSound rate c.object b) (sym i.balance) (opened_sound rate c.object);
          entered = (let z : (s.threads t).balance.cycle ≡ 1 =
              ap (λ (b : Balance). b.cycle) i.balance in omega (arith, o.cycle));
          present = λ h. absurd (both_ways _ i.inside h);
          asked = i.asked;
          requested = i.requested;
          within = omega (arith, paid t tl);
          owed = omega (arith, paid t tl, i.idled);
          claimed = λ h. absurd (omega (arith, i.claimed));
          reserved = λ h. absurd (h i.reserved);
        });
        cursor = (omega (arith, o.cursor), omega (arith, o.cursor));
        scans = λ x. omega (arith, o.scanned x);
        passes = λ x pos. (let z : total c.threads (λ t. claims x (s.threads t)) ≡ 0 =
            total_none c.threads (λ t. claims x (s.threads t))
            (λ t tl. no_claims x (s.threads t) (o.threads t tl).claimed) in
            let m : bit (s.sweep && ltb x s.cursor) ≡ 0 =
            ap (λ b. bit (b && ltb x s.cursor)) o.sweep in omega (arith, o.passed x));
        counted = (let z : total c.threads (λ t. units_in s.cycle (s.threads t).balance) ≡ 0 =
            total_none c.threads (λ t. units_in s.cycle (s.threads t).balance) made in omega arith);
        handed = now ∙ sym none;
        ended = λ z l. (let e : z ≡ 0 = omega (arith, o.cycle) in
            let g : given c.width s.order z ≡ 0 = ap (given c.width s.order) e
            ∙ given_nought c.width s.order in omega arith);
        room =
            let b : live_before c s ≡ live_blocks c.width (graph_at c s.order 1) =
            ap (λ z. live_blocks c.width (graph_at c s.order z)) number in
            omega (arith, o.free);
        few = (let p : (s.cycle - 1) * c.blocks ≡ 0 * c.blocks =
            ap (λ z. (z - 1) * c.blocks) o.cycle in omega (arith, o.past));
        many = omega (arith, o.past);
        works =
            let w : work_in s.order ≡ 0 = ap work_in o.order in
            let p : made_now c.threads s ≡ 0 =
            total_none c.threads (λ t. made_of (s.threads t))
            (λ t tl. omega (arith, paid t tl, (o.threads t tl).idled)) in
            omega (arith, o.past);
        cheap = (let w : work_in s.order ≡ 0 = ap work_in o.order in omega arith);
        entries = subst (λ h. InThreads c.threads h) (sym o.order) tt;
        right = subst (λ h. RightWork c.width rate h) (sym o.order) (tt, tt);
        licensed = subst (λ h. Licensed c h) (sym o.order) (tt, tt);
      }

  pub run_kept : KeepsUp c rate → (es : List Event) (s : Tally) → TallyKept c rate black s
      → Guarded c rate black s es → TallyKept c rate black (run c rate black s es)
  run_kept plan [] s k g = k
  run_kept plan (e ∷ es) s k g = run_kept plan es (apply c rate black s e)
      (step_kept c rate black some s k e plan g.0) g.1

  -- what all threads have made for what is not decided yet
  one_few : (z : ℕ) (w : Spending) → SpendingKept c rate z w → made_of w ≤ most_work c rate
  one_few z w k =
      let product : rate * w.asked ≤ rate * c.object =
      mul-le rate w.asked rate c.object (omega arith) k.asked in
      omega (arith, k.owed, k.requested.few)

  made_few : (n z : ℕ) (s : Tally) → ((t : ℕ) → t < n → SpendingKept c rate z (s.threads t))
      → made_now n s ≤ n * most_work c rate
  made_few zero z s k = omega arith
  made_few (suc n) z s k =
      let r : made_now n s ≤ n * most_work c rate = made_few n z s (λ t l. k t (omega arith)) in
      sum_few (made_now n s) (made_of (s.threads n)) n (most_work c rate) r
      (one_few z (s.threads n) (k n (omega arith)))

  all_cheap : (s : Tally) → TallyKept c rate black s
      → units c.blocks s ≤ (entries_in s.order + c.threads) * most_work c rate
  all_cheap s k =
      let p : made_now c.threads s ≤ c.threads * most_work c rate =
      made_few c.threads s.cycle s k.each in
      let q : (entries_in s.order + c.threads) * most_work c rate
      ≡ entries_in s.order * most_work c rate + c.threads * most_work c rate =
      both_parts (entries_in s.order) c.threads (most_work c rate) in
      all_few (work_in s.order) (made_now c.threads s) (units c.blocks s)
      (entries_in s.order * most_work c rate) (c.threads * most_work c rate) _
      k.works k.cheap p q

  all_worked : (s : Tally) → TallyKept c rate black s → AsksNothing c s
      → work_in s.order ≡ units c.blocks s
  all_worked s k nothing =
      let made : made_now c.threads s ≡ 0 =
      total_none c.threads (λ t. made_of (s.threads t)) (λ t tl.
      let cost : rate * (s.threads t).asked ≡ rate * 0 = ap (λ z. rate * z) (nothing t tl).0 in
      omega (arith, (k.each t tl).owed, (nothing t tl).1)) in
      omega (arith, k.works)

  pub bound_of : (s : Tally) → TallyKept c rate black s → Bound c rate s
  bound_of s k = record {
    account = λ t tl. (k.each t tl).sound;
    scanned_once = λ x. omega (
      arith,
      k.scans x,
      bit_le
          (s.sweep || eqb (s.colour x) (black s.cycle)),
    );
    passed_once = λ x pos. omega (arith, k.passes x pos, bit_le (s.sweep && ltb x s.cursor));
    all_passed = λ e. passed_all c rate black some s k e.sweep e.cursor e.empty;
    gave = λ z l. elim (cases_eq z s.cycle) [
      | inl e ↦ (let now : given c.width s.order z ≡ given c.width s.order s.cycle =
          ap (given c.width s.order) e in omega
          (arith, k.handed, all_given_now c rate black some s k))
      | inr ne ↦ k.ended z (omega arith)
    ];
    cycles = k.starts;
    few = omega (arith, k.few);
    many = (let q : s.cycle * (2 * c.blocks) ≡ (s.cycle - 1) * (2 * c.blocks) + 2 * c.blocks =
        one_less s.cycle (2 * c.blocks) k.some in
        omega (arith, k.many, few_units c rate black some s k));
    works = k.works;
    all_works = λ nothing. all_worked s k nothing;
    cheap = all_cheap s k;
    entries = k.entries;
    right = k.right;
    licensed = k.licensed;
  }

  pub always_bound : KeepsUp c rate → (s : Tally) → Opened c s → (es : List Event)
      → Guarded c rate black s es → Bound c rate (run c rate black s es)
  always_bound plan s o es g = bound_of (run c rate black s es)
      (run_kept plan es s (opening_kept s o) g)
