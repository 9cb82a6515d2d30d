-- What the gauges read.
use Rattle.std.proofs.Common.{◌≡◌, ℕ, ◌+◌, ◌-◌, ◌*◌, ◌<◌, ◌≤◌, max, true, false, length, refl, sym, ap, ◌∙◌, subst, arith}
use Rattle.block_store.specs.declared.Config.{Config}
use Rattle.block_store.specs.declared.Width.{Width}
use Rattle.block_store.specs.declared.Width.TheVariants.{Four, Eight}
use Rattle.block_store.specs.Configs.{IsInBounds}
use Rattle.block_store.specs.Counts.{total}
use Rattle.block_store.specs.Heaps.{heap_of}
use Rattle.block_store.specs.Phases.{cycle_of, is_sweep}
use Rattle.block_store.specs.Places.{ColourOf, FreeCount, Phase, extent, words_count}
use Rattle.block_store.specs.Widths.{payloads}
use Rattle.block_store.proofs.Lemmas.{total_none}
use Rattle.rate_plan.specs.Rates.{IsRate}
use Rattle.rate_plan.proofs.Rates.{one_rate, opening_room}
use Rattle.never_heap.specs.declared.Command.{Command}
use Rattle.never_heap.specs.declared.Command.TheVariants as commands
use Rattle.never_heap.specs.Bounds.{IsCommandInBounds}
use Rattle.never_heap.specs.Cycles.{graph_at}
use Rattle.never_heap.specs.GivenBlocks.{given}
use Rattle.never_heap.specs.Histories.{replay, starts_in}
use Rattle.never_heap.specs.LiveBlocks.{live_blocks}
use Rattle.never_heap.specs.RightWork.{units_owed, requested_units}
use Rattle.never_heap.specs.Steps.{blocks_of}
use Rattle.never_heap.proofs.Lemmas.{owes_told}
use Rattle.rate_plan.specs.solo_bound.Near.{near_bound, near_other_bound}
use Rattle.heap_machine.specs.FreeBlocks.{FreeKept, count_free}
use Rattle.heap_machine.specs.WorkInHand.{free_held, holds_nothing}
use Rattle.heap_invariant.specs.cycle_tally.TallyInvariant.{live_before}
use Rattle.heap_invariant.specs.cycle_tally.Tallies.{given_now, reserved_now}
use Rattle.heap_system.specs.Locals.{is_rest, view}
use Rattle.heap_system.specs.Machines.{Run, heap_in, local_in}
use Rattle.heap_system.specs.Pictures.{work_in_hand, work_in_hand_of}
use Rattle.heap_system.specs.Alone.{most_events}
use Rattle.heap_system.proofs.Lemmas.{Kept, RunTallied, laws_of, makes_near, owes_blocks, reserved_for, rest_is, run_tallied, serves_near, tallies_of}
use Rattle.control_heap.specs.Controls.{ControlOf, Stands}
use Rattle.control_heap.specs.Gauges.{cycle_before, live_at_start, live_or_made, most_operations}
use Rattle.control_heap.proofs.CommandBound.{config_is, rate_is, rests}
use Rattle.control_heap.proofs.HeapAsRun.{kept_of}
use Rattle.control_heap.proofs.InUse.{live_few, start_few}
use Rattle.control_heap.proofs.KnownAtStart.{knows_start}

module _ {M : Type 0} (h : ControlOf M) (r : Run) (st : Stands h r) where
  kept : Kept h.config st.run.after.traces r
  kept = kept_of h.config st.single r st.run.after

  pub bounds_is : IsInBounds h.config
  bounds_is = st.run.after.job.bounds.config

  pub long_is : length h.words ≡ words_count (extent h.config)
  long_is = ap length (sym st.words) ∙ kept.long

  started : cycle_of (heap_of (extent h.config) h.words Phase) ≡ starts_in r.order
  started = ap (λ ws. cycle_of (heap_of (extent h.config) ws Phase)) (sym st.words) ∙ sym kept.names.ordered.started

  -- the thread is at rest and holds nothing, so that all Free blocks are counted
  rests_here : (t : ℕ) → t < h.config.threads → work_in_hand h.config (local_in h.config r t).part ≡ holds_nothing
  rests_here t tl =
      let zero_is : 0 ≡ t = (let s = st.single in omega (arith, tl, s)) in
      let rest : is_rest (local_in h.config r 0).part ≡ true = ap (λ l. is_rest l.part) st.thread ∙ rests h r st in
      subst (λ u. work_in_hand h.config (local_in h.config r u).part ≡ holds_nothing) zero_is
      (ap (work_in_hand h.config) (rest_is (local_in h.config r 0).part rest))

  free_here : heap_of (extent h.config) h.words FreeCount ≡ count_free (extent h.config) (λ x. heap_of (extent h.config) h.words (ColourOf x))
  free_here =
      let all : FreeKept (extent h.config) (heap_in h.config r.state) (λ t. free_held (work_in_hand_of h.config r.state t)) = kept.rules.reuse.free in
      let reserved : total h.config.threads (λ t. (free_held (work_in_hand_of h.config r.state t)).reserved) ≡ 0 = total_none h.config.threads _ (λ t tl. ap (λ w. (free_held w).reserved) (rests_here t tl)) in
      let freed : total h.config.threads (λ t. (free_held (work_in_hand_of h.config r.state t)).freed) ≡ 0 = total_none h.config.threads _ (λ t tl. ap (λ w. (free_held w).freed) (rests_here t tl)) in
      subst (λ ws. heap_of (extent h.config) ws FreeCount ≡ count_free (extent h.config) (λ x. heap_of (extent h.config) ws (ColourOf x))) st.words
      (omega (arith, all.credit, reserved, freed))

  pub free_told : (now : ControlOf M) → h ≡ now → (n : ℕ) → n ≡ heap_of (extent h.config) h.words FreeCount → n ≡ count_free (extent now.config) (λ x. heap_of (extent now.config) now.words (ColourOf x))
  free_told now same n is = subst (λ (x : ControlOf M). n ≡ count_free (extent x.config) (λ y. heap_of (extent x.config) x.words (ColourOf y))) same (is ∙ free_here)

pub cycle_told : {M : Type 0} (h now : ControlOf M) → h ≡ now → (n : ℕ) → n ≡ cycle_of (heap_of (extent h.config) h.words Phase) → (q : Run) → Stands now q → n ≡ starts_in q.order
cycle_told h now same n is q st = is ∙ started h q (subst (λ x. Stands x q) (sym same) st)

-- ---- the rate

one_block : (w : Width) → blocks_of w (commands.New 0 0) ≡ 1
one_block Four = refl
one_block Eight = refl

-- what the smallest object owes is the rate
pub owes_rate : (w : Width) (rate n : ℕ) → n ≡ units_owed w rate (commands.New 0 0) → n ≡ rate
owes_rate w rate n is = is ∙ (ap (λ b. rate * b + 0) (one_block w) ∙ omega arith)

pub smallest_fits : (c : Config) → IsInBounds c → IsCommandInBounds c (commands.New 0 0)
smallest_fits c is = record {
  range = (omega arith, omega arith);
  blocks = (let e = one_block c.width in let s = is.some_object in omega (arith, e, s));
  units = omega arith;
  version = tt;
}

module _ {M : Type 0} (h : ControlOf M) (r : Run) (st : Stands h r) where
  pub fits_thread : IsCommandInBounds h.thread.config (commands.New 0 0)
  fits_thread = subst (λ c. IsCommandInBounds c (commands.New 0 0)) (sym (config_is h r st)) (smallest_fits h.config st.run.after.job.bounds.config)

  pub rate_told : (now : ControlOf M) → h ≡ now → (n : ℕ) → n ≡ units_owed h.thread.config.width h.thread.rate (commands.New 0 0) → IsRate now.config n
  rate_told now same n is =
      let e : n ≡ h.thread.rate = owes_rate h.thread.config.width h.thread.rate n is in
      subst (λ (x : ControlOf M). IsRate x.config n) same (subst (λ p. IsRate h.config p) (sym e) (rate_is h r st))

-- ---- the most operations

module _ {M : Type 0} (h : ControlOf M) (r : Run) (st : Stands h r) (k : Command) where
  -- what the command owes at the heap's rate
  owed_here : (units : ℕ) → units ≡ units_owed h.thread.config.width h.thread.rate k → (p : ℕ) → IsRate h.config p
      → units ≡ units_owed h.config.width p k
  owed_here units owed p planned =
      owed ∙ ap (λ c. units_owed c.width h.thread.rate k) (config_is h r st)
      ∙ ap (λ q. units_owed h.config.width q k) (one_rate h.config h.thread.rate p (rate_is h r st) planned)

  near_here : (units taken n : ℕ) → units ≡ units_owed h.thread.config.width h.thread.rate k → taken ≡ blocks_of h.config.width k → 0 < taken
      → n ≡ near_bound 1 (payloads h.config.width) h.config.blocks units taken
      → (p : ℕ) → IsRate h.config p → n ≡ most_operations h.config p k
  near_here units taken n owed blocks some is p planned =
      let there : 0 < blocks_of h.config.width k = subst (λ x. 0 < x) blocks some in
      let units_is : units ≡ p * blocks_of h.config.width k = owed_here units owed p planned ∙ owes_blocks h.config p k there in
      is ∙ (λ i. near_bound (sym st.single i) (payloads h.config.width) h.config.blocks (units_is i) (blocks i))
      ∙ sym (makes_near h.config k p there)

  other_here : (units taken n : ℕ) → units ≡ units_owed h.thread.config.width h.thread.rate k → taken ≡ blocks_of h.config.width k → taken ≤ 0
      → n ≡ near_other_bound 1 (payloads h.config.width) h.config.blocks units (most_events h.config k)
      → (p : ℕ) → IsRate h.config p → n ≡ most_operations h.config p k
  other_here units taken n owed blocks none is p planned =
      let zero_is : blocks_of h.config.width k ≡ 0 = sym blocks ∙ omega (arith, none) in
      let units_is : units ≡ requested_units k = owed_here units owed p planned ∙ owes_told h.config.width p k zero_is in
      is ∙ (λ i. near_other_bound (sym st.single i) (payloads h.config.width) h.config.blocks (units_is i) (most_events h.config k))
      ∙ sym (serves_near h.config k p zero_is)

  pub near_told : (now : ControlOf M) → h ≡ now → (units taken n : ℕ) → units ≡ units_owed h.thread.config.width h.thread.rate k → taken ≡ blocks_of h.config.width k → 0 < taken
      → n ≡ near_bound 1 (payloads h.config.width) h.config.blocks units taken
      → (p : ℕ) → IsRate now.config p → n ≡ most_operations now.config p k
  near_told now same units taken n owed blocks some is p planned =
      subst (λ (x : ControlOf M). n ≡ most_operations x.config p k) same
      (near_here units taken n owed blocks some is p (subst (λ (x : ControlOf M). IsRate x.config p) (sym same) planned))

  pub other_told : (now : ControlOf M) → h ≡ now → (units taken n : ℕ) → units ≡ units_owed h.thread.config.width h.thread.rate k → taken ≡ blocks_of h.config.width k → taken ≤ 0
      → n ≡ near_other_bound 1 (payloads h.config.width) h.config.blocks units (most_events h.config k)
      → (p : ℕ) → IsRate now.config p → n ≡ most_operations now.config p k
  other_told now same units taken n owed blocks none is p planned =
      subst (λ (x : ControlOf M). n ≡ most_operations x.config p k) same
      (other_here units taken n owed blocks none is p (subst (λ (x : ControlOf M). IsRate x.config p) (sym same) planned))

-- ---- the blocks in use

module _ {M : Type 0} (h : ControlOf M) (r : Run) (st : Stands h r) where
  live_here : live_blocks h.config.width (replay h.config r.order) + count_free (extent h.config) (λ x. heap_of (extent h.config) h.words (ColourOf x)) ≤ h.config.blocks
  live_here =
      let is = st.run.after in
      let some = live_few h.config is.traces r (kept_of h.config st.single r is) (opening_room h.config is.job.plan) in
      subst (λ ws. live_blocks h.config.width (replay h.config r.order) + count_free (extent h.config) (λ x. heap_of (extent h.config) ws (ColourOf x)) ≤ h.config.blocks) st.words some

  pub in_use_told : (n : ℕ) → n ≡ h.config.blocks - count_free (extent h.config) (λ x. heap_of (extent h.config) h.words (ColourOf x)) → live_blocks h.config.width (replay h.config r.order) ≤ n
  in_use_told n is = omega (arith, is, live_here)

  pub start_told : (n : ℕ) → n ≡ h.config.blocks - count_free (extent h.config) (λ x. heap_of (extent h.config) h.words (ColourOf x)) → is_sweep (heap_of (extent h.config) h.words Phase) ≡ false → live_at_start h.config r.order ≤ n
  start_told n is mark =
      let a = st.run.after in
      let here : is_sweep (heap_in h.config r.state Phase) ≡ false = ap (λ ws. is_sweep (heap_of (extent h.config) ws Phase)) st.words ∙ mark in
      let some = start_few h.config a.traces r (kept_of h.config st.single r a) (opening_room h.config a.job.plan) here (knows_start h.config r a) in
      let low = subst (λ ws. live_at_start h.config r.order + count_free (extent h.config) (λ x. heap_of (extent h.config) ws (ColourOf x)) ≤ h.config.blocks) st.words some in
      omega (arith, is, low)

  -- the tally's account of the blocks, where nothing is reserved
  reserved_none : (rate : ℕ) → (counts : RunTallied h.config rate r) → reserved_now h.config.threads counts.tally ≡ 0
  reserved_none rate counts = total_none h.config.threads _ (λ t tl.
      let zero_is : 0 ≡ t = (let s = st.single in omega (arith, tl, s)) in
      let rest : is_rest (local_in h.config r 0).part ≡ true = ap (λ l. is_rest l.part) st.thread ∙ rests h r st in
      let none : reserved_for h.config.width (view h.config (local_in h.config r 0).part).build ≡ 0 = ap (λ p. reserved_for h.config.width (view h.config p).build) (rest_is (local_in h.config r 0).part rest) in
      (counts.threads t tl).reserved ∙ subst (λ u. reserved_for h.config.width (view h.config (local_in h.config r u).part).build ≡ 0) zero_is none)

  pub made_told : (n : ℕ) → n ≡ h.config.blocks - count_free (extent h.config) (λ x. heap_of (extent h.config) h.words (ColourOf x)) → n ≤ live_or_made h.config r.order
  made_told n is =
      let c = h.config in
      let a = st.run.after in
      let rate = a.by_turns.opening.rate in
      let counts : RunTallied c rate r = run_tallied c a.traces a.job rate a.by_turns.opening.planned (laws_of c) (tallies_of c) a.turns r a.by_turns in
      let free : counts.tally.free ≡ count_free (extent c) (λ x. heap_of (extent c) h.words (ColourOf x)) = counts.of.free ∙ ap (λ ws. heap_of (extent c) ws FreeCount) st.words ∙ free_here h r st in
      let cycle : counts.tally.cycle ≡ starts_in r.order = sym counts.kept.starts ∙ ap starts_in counts.of.order in
      let before : live_before c counts.tally ≡ live_blocks c.width (graph_at c r.order (cycle_before r.order)) = λ i. live_blocks c.width (graph_at c (counts.of.order i) (max 1 (cycle i - 1))) in
      let last : given c.width counts.tally.order (counts.tally.cycle - 1) ≡ given c.width r.order (starts_in r.order - 1) = λ i. given c.width (counts.of.order i) (cycle i - 1) in
      let now : given_now c.threads counts.tally ≡ given c.width r.order (starts_in r.order) = counts.kept.handed ∙ (λ i. given c.width (counts.of.order i) (cycle i)) in
      omega (arith, is, free, before, last, now, counts.kept.room, reserved_none rate counts)
