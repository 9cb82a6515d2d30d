-- What every run is within: the bound of the tally that counts it.
use Rattle.std.proofs.Common.{◌≡◌, ℕ, ◌+◌, ◌-◌, ◌*◌, ◌^◌, ◌<◌, ◌≤◌, eq-eqb, ne_eqb, suc, List, [], ◌∷◌, length, get_or, map, refl, sym, ap, ◌∙◌, subst, arith, inl, inr}
use Rattle.std.proofs.lemmas.Bool.{cases_eq, and_parts}
use Rattle.block_store.specs.declared.Config.{Config}
use Rattle.block_store.specs.Colours.{black_word}
use Rattle.block_store.specs.Counts.{changed, total}
use Rattle.block_store.proofs.Lemmas.{total_changed, total_none, total_plus, total_same}
use Rattle.rate_plan.specs.Rates.{IsRate}
use Rattle.never_heap.specs.declared.Command.{Command}
use Rattle.never_heap.specs.GivenBlocks.{given}
use Rattle.never_heap.specs.Histories.{HistoryItem, Started, Did, part, starts_in, work_in}
use Rattle.never_heap.specs.Licensed.{Licensed, StartsSmall, NoFulls}
use Rattle.never_heap.specs.RightWork.{RightWork}
use Rattle.never_heap.proofs.Lemmas.{none_full}
use Rattle.heap_invariant.specs.cycle_tally.Bounds.{Bound}
use Rattle.heap_invariant.specs.cycle_tally.Entries.{InThreads}
use Rattle.heap_invariant.specs.cycle_tally.TallyInvariant.{most_given}
use Rattle.heap_invariant.specs.cycle_tally.Tallies.{units, made_now}
use Rattle.heap_invariant.proofs.Lemmas.{bound_of, counts_small}
use Rattle.heap_system.specs.Parts.{Part}
use Rattle.heap_system.specs.Costs.{units_so_far}
use Rattle.heap_system.specs.Locals.{LocalState, works}
use Rattle.heap_system.specs.Machines.{Run, IsJob, IsRunOf, local_at, local_in, no_local}
use Rattle.heap_system.specs.Systems.{AllDone, units_of}
use Rattle.heap_system.proofs.invariant.InvariantHolds.{run_kept}
use Rattle.heap_system.proofs.invariant.Invariant.{Kept}
use Rattle.heap_system.proofs.step_rows.PartLaws.{PartLaws}
use Rattle.heap_system.proofs.accounting.OwedAndPaid.{worked_low, paid_low}
use Rattle.heap_system.proofs.accounting.RunTally.{RunTallied, run_tallied, spent_is}
use Rattle.heap_system.proofs.accounting.TallyLaw.{TallyLaw}
use Rattle.heap_system.proofs.invariant.RunLaws.{rest_settled}
use Rattle.heap_system.proofs.invariant.InvariantByTurns.{total_most}

-- the work of an order is that of its parts
work_of : (n : ℕ) (h : List HistoryItem) → InThreads n h → work_in h ≡ total n (λ t. works (part t h))
work_of n [] in_ = sym (total_none n (λ t. 0) (λ t tl. refl))
work_of n (Started ∷ h) in_ = work_of n h in_
work_of n (Did e ∷ h) in_ =
    let f : ℕ → ℕ = λ t. works (part t h) in
    let one = total_changed (λ (x : ℕ). x) n f e.thread (e.work + f e.thread) in_.0 in
    let same = total_same n (λ t. works (part t (Did e ∷ h))) (changed f e.thread (e.work + f e.thread)) (λ t tl. own t) in
    omega (arith, work_of n h in_.1, one, same)
  where
    own : (t : ℕ) → works (part t (Did e ∷ h)) ≡ changed (λ u. works (part u h)) e.thread (e.work + works (part e.thread h)) t
    own t = elim (cases_eq e.thread t) [
      | inl is ↦ rw (eq-eqb e.thread t is) (ap (λ u. e.work + works (part u h)) (sym is))
      | inr ne ↦ rw (ne_eqb e.thread t ne) refl
    ]

-- the works of all logs are few, where those of each are
units_few : (m : ℕ) (d : LocalState) (ls : List LocalState) → ((i : ℕ) → i < length ls → works (get_or ls i d).log ≤ m) → units_of (map (λ (l : LocalState). l.log) ls) ≤ length ls * m
units_few m d [] each = omega arith
units_few m d (l ∷ ls) each = omega (arith, each 0 (omega arith), units_few m d ls (λ i low. each (suc i) (omega arith)))

module _ (c : Config) (traces : List (List Command)) (laws : (p : Part) → PartLaws c p) (tally_laws : (p : Part) → TallyLaw c p) (job : IsJob c traces) (ts : List ℕ) (r : Run) (is : IsRunOf c traces ts r) (rate : ℕ) (planned : IsRate c rate) where
  kept : Kept c traces r
  kept = run_kept c traces laws job ts r is

  counts : RunTallied c rate r
  counts = run_tallied c traces job rate planned laws tally_laws ts r is

  bound : Bound c rate counts.tally
  bound = bound_of c rate black_word planned.some counts.tally counts.kept

  order : counts.tally.order ≡ r.order
  order = counts.of.order

  cycles : starts_in r.order ≡ counts.tally.cycle
  cycles = ap starts_in (sym order) ∙ bound.cycles

  paid : made_now c.threads counts.tally ≡ total c.threads (λ t. (local_in c r t).spent)
  paid = total_same c.threads _ _ (λ t tl. spent_is c (local_at c r.state t) (counts.tally.threads t) (counts.threads t tl) (kept.locals t tl).fits.account)

  so_far : units c.blocks counts.tally ≡ units_so_far c r
  so_far = omega (arith, bound.works, paid, ap work_in order)

  pub licensed : Licensed c r.order
  licensed = subst (λ h. Licensed c h) order bound.licensed

  pub never_full : StartsSmall c r.order → NoFulls r.order
  never_full small = none_full c r.order kept.names.ordered.legal licensed small

  pub gives : (z : ℕ) → z ≤ starts_in r.order → given c.width r.order z ≤ most_given c rate
  gives z low = subst (λ h. given c.width h z ≤ most_given c rate) order (bound.gave z (omega (arith, low, cycles)))

  pub least : (starts_in r.order - 1) * c.blocks ≤ units_so_far c r
  least = subst (λ y. (y - 1) * c.blocks ≤ units_so_far c r) (sym cycles) (omega (arith, bound.few, so_far))

  pub most : units_so_far c r ≤ 2 * c.blocks * starts_in r.order
  most = subst (λ y. units_so_far c r ≤ 2 * c.blocks * y) (sym cycles) (omega (arith, bound.many, so_far))

  pub right : RightWork c.width rate r.order
  right = subst (λ h. RightWork c.width rate h) order bound.right

  pub small : (units_so_far c r < 2 ^ 50) × (starts_in r.order < 2 ^ 50)
  small =
      let works_few = units_few (2 ^ 45) (no_local c) r.state.locals (λ t low. (let w = worked_low (local_at c r.state t) (kept.locals t (omega (arith, low, kept.threads))).fits in omega (arith, w))) in
      let paid_few = total_most c.threads (λ t. (local_in c r t).spent) 134346750 (λ t tl. paid_low (local_at c r.state t) (kept.locals t tl).fits) in
      let both = counts_small c rate counts.tally bound job.bounds.config.some_block (omega (arith, ap work_in order, paid, works_few, paid_few, kept.counted, kept.threads, job.bounds.config.threads)) in
      (omega (arith, both.0, so_far), omega (arith, both.1, cycles))

  -- where no command is in hand they are the work of the order
  pub all_done : AllDone c r.state → units_so_far c r ≡ work_in r.order
  all_done done =
      let none : total c.threads (λ t. (local_in c r t).spent) ≡ 0 = total_none c.threads _ (λ t tl. (rest_settled c traces r kept t tl (and_parts _ _ (done t tl)).0).0) in
      omega (arith, none)

  pub in_threads : InThreads c.threads r.order
  in_threads = subst (λ h. InThreads c.threads h) order bound.entries

  -- and always those of the threads' entries and what they paid since
  pub by_thread : units_so_far c r ≡ total c.threads (λ t. works (part t r.order) + (local_in c r t).spent)
  by_thread = omega (arith, work_of c.threads r.order in_threads, total_plus c.threads (λ t. works (part t r.order)) (λ t. (local_in c r t).spent))
