-- How many units a cycle can take: what a run that goes on makes of the units of the cycles before.
use Rattle.std.proofs.Common.{◌≡◌, ℕ, zero, suc, ◌+◌, ◌*◌, ◌<◌, ◌≤◌, Bool, true, false, cond, eqb, List, refl, sym, ap, ◌∙◌, subst, arith}
use Rattle.block_store.specs.declared.Config.{Config}
use Rattle.block_store.specs.Colours.{black_word}
use Rattle.block_store.specs.Counts.{total}
use Rattle.block_store.proofs.Lemmas.{total_same}
use Rattle.rate_plan.specs.Rates.{IsRate}
use Rattle.never_heap.specs.declared.Command.{Command}
use Rattle.never_heap.specs.declared.Reply.{Reply}
use Rattle.never_heap.specs.Bounds.{IsCommandInBounds}
use Rattle.never_heap.specs.Histories.{replay, starts_in, work_in}
use Rattle.work_account.specs.Accounts.{units_in}
use Rattle.heap_invariant.specs.cycle_tally.Tallies.{made_now, units_now}
use Rattle.heap_invariant.proofs.Lemmas.{few_units}
use Rattle.heap_system.specs.declared.Turn.TheVariants.{Went}
use Rattle.heap_system.specs.Alone.{after_alone}
use Rattle.heap_system.specs.Costs.{units_so_far}
use Rattle.heap_system.specs.Locals.{LocalState, Effect, command_of, is_done, turn_of}
use Rattle.heap_system.specs.Machines.{Run, IsJob, answer, local_at, local_in, next, next_effect, starts_by}
use Rattle.heap_system.specs.Naming.{Naming, Begun}
use Rattle.heap_system.proofs.Lemmas.{Kept, RunTallied, after, effect_here, event_tallied, laws_of, next_is, past_by, run_tallied, spent_is, starts_after, tallies_of, turn_kept}
use Rattle.control_heap.specs.Controls.{ControlOf, Stands, Answers, HasLeft}
use Rattle.control_heap.specs.Growth.{given, grown, run_grown, state_grown}
use Rattle.control_heap.proofs.CommandBound.{begins, not_done}
use Rattle.control_heap.proofs.GrownRuns.{local_grown}
use Rattle.control_heap.proofs.HeapAsRun.{kept_of, low}

-- the units of the cycles before, where an event starts one or none
past_step : (m : ℕ) (n : Naming) (now past : ℕ) → now ≤ 2 * m → past_by n now past ≤ past + 2 * m * starts_in (starts_by n)
past_step m Begun now past few = omega (arith, few)
past_step m _ now past few = omega arith

balance_grown : (k : Command) (b : Bool) (l : LocalState) → (cond b (given k l) l).balance ≡ l.balance
balance_grown k true l = refl
balance_grown k false l = refl

spent_grown : (k : Command) (b : Bool) (l : LocalState) → (cond b (given k l) l).spent ≡ l.spent
spent_grown k true l = refl
spent_grown k false l = refl

-- Run z is after run r: so many cycles more have begun, and the units of all cycles before the
-- present one are at most two a block more for each.
pub record Onward (c : Config) (rate : ℕ) (r z : Run) (from : RunTallied c rate r) : Type 0 where
  pub counts : RunTallied c rate z
  pub begun : ℕ
  pub cycle : counts.tally.cycle ≡ from.tally.cycle + begun
  pub past : counts.tally.past ≤ from.tally.past + 2 * c.blocks * begun

further : (m d e p q s : ℕ) → q ≤ p + 2 * m * d → s ≤ q + 2 * m * e → s ≤ p + 2 * m * (d + e)
further m d e p q s a b = omega (arith, a, b)

pub onward_on : (c : Config) (rate : ℕ) (r q z : Run) (from : RunTallied c rate r) (one : Onward c rate r q from) → Onward c rate q z one.counts → Onward c rate r z from
onward_on c rate r q z from one two = record {
  counts = two.counts;
  begun = one.begun + two.begun;
  cycle = omega (arith, one.cycle, two.cycle);
  past = further c.blocks one.begun two.begun from.tally.past one.counts.tally.past two.counts.tally.past one.past two.past;
}

module _ (c : Config) (rate : ℕ) (planned : IsRate c rate) where
  -- the units of the cycles before, by what the run shows
  past_shown : (traces : List (List Command)) (r : Run) → Kept c traces r → (counts : RunTallied c rate r)
      → counts.tally.past + total c.threads (λ t. units_in (starts_in r.order) (local_at c r.state t).balance) ≡ units_so_far c r
  past_shown traces r kept counts =
      let s = counts.tally in
      let order : work_in s.order ≡ work_in r.order = ap work_in counts.of.order in
      let made : made_now c.threads s ≡ total c.threads (λ t. (local_in c r t).spent) = total_same c.threads _ _ (λ t tl. spent_is c (local_at c r.state t) (s.threads t) (counts.threads t tl) (kept.locals t tl).fits.account) in
      let cycle : s.cycle ≡ starts_in r.order = sym counts.kept.starts ∙ ap starts_in counts.of.order in
      let now : total c.threads (λ t. units_in s.cycle (s.threads t).balance) ≡ total c.threads (λ t. units_in (starts_in r.order) (local_at c r.state t).balance) = total_same c.threads _ _ (λ t tl. λ i. units_in (cycle i) ((counts.threads t tl).account i)) in
      omega (arith, order, made, now, counts.kept.works, counts.kept.counted)

  -- they are few in the present cycle
  pub now_few : (traces : List (List Command)) (r : Run) → Kept c traces r → (counts : RunTallied c rate r) → units_so_far c r ≤ counts.tally.past + 2 * c.blocks
  now_few traces r kept counts =
      let shown = past_shown traces r kept counts in
      let cycle : counts.tally.cycle ≡ starts_in r.order = sym counts.kept.starts ∙ ap starts_in counts.of.order in
      let now : total c.threads (λ t. units_in counts.tally.cycle (counts.tally.threads t).balance) ≡ total c.threads (λ t. units_in (starts_in r.order) (local_at c r.state t).balance) = total_same c.threads _ _ (λ t tl. λ i. units_in (cycle i) ((counts.threads t tl).account i)) in
      let few = few_units c rate black_word planned.some counts.tally counts.kept in
      omega (arith, shown, now, few, counts.kept.counted)

  pub past_few : (traces : List (List Command)) (r : Run) → Kept c traces r → (counts : RunTallied c rate r) → counts.tally.past ≤ units_so_far c r
  past_few traces r kept counts = omega (arith, past_shown traces r kept counts)

  -- a command more leaves them
  past_grown : (traces more : List (List Command)) (k : Command) (r : Run) → 0 < c.threads → Kept c traces r → Kept c more (run_grown 0 k r) → (counts : RunTallied c rate r) (grew : RunTallied c rate (run_grown 0 k r)) → grew.tally.past ≡ counts.tally.past
  past_grown traces more k r some kept kept_grown counts grew =
      let here : (t : ℕ) → local_at c (state_grown 0 k r.state) t ≡ grown 0 k (local_at c r.state t) = local_grown 0 k c some r.state in
      let balances : total c.threads (λ t. units_in (starts_in r.order) (local_at c (state_grown 0 k r.state) t).balance) ≡ total c.threads (λ t. units_in (starts_in r.order) (local_at c r.state t).balance) =
      total_same c.threads _ _ (λ t tl. ap (λ (l : LocalState). units_in (starts_in r.order) l.balance) (here t) ∙ ap (units_in (starts_in r.order)) (balance_grown k (eqb (local_at c r.state t).thread 0) (local_at c r.state t))) in
      let spent : total c.threads (λ t. (local_in c (run_grown 0 k r) t).spent) ≡ total c.threads (λ t. (local_in c r t).spent) =
      total_same c.threads _ _ (λ t tl. ap (λ (l : LocalState). l.spent) (here t) ∙ spent_grown k (eqb (local_at c r.state t).thread 0) (local_at c r.state t)) in
      omega (arith, balances, spent, past_shown traces r kept counts, past_shown more (run_grown 0 k r) kept_grown grew)

  module _ (traces : List (List Command)) (job : IsJob c traces) where
    onward_event : (r : Run) (kept : Kept c traces r) (counts : RunTallied c rate r) (t : ℕ) (tl : t < c.threads) → is_done (local_at c r.state t) ≡ false → Onward c rate r (next c t r) counts
    onward_event r kept counts t tl going =
        let e = after c traces job rate planned (laws_of c) (tallies_of c) r kept counts t tl going in
        let n : Naming = (effect_here c traces (laws_of c) job.bounds.config job.plan r kept t tl).naming in
        let few = few_units c rate black_word planned.some counts.tally counts.kept in
        let effect : Effect = effect_here c traces (laws_of c) job.bounds.config job.plan r kept t tl in
        let more : starts_in e.tally.order ≡ starts_in r.order + starts_in (starts_by n) =
        ap starts_in e.of.order ∙ starts_after (replay c r.order) t (command_of (local_at c r.state t)) (local_at c r.state t).spent effect.verdict r.order (starts_by n) in
        let now : starts_in r.order ≡ counts.tally.cycle = ap starts_in (sym counts.of.order) ∙ counts.kept.starts in
        subst (λ x. Onward c rate r x counts) (sym (next_is c traces (laws_of c) job.bounds.config job.plan r kept t tl going)) (record {
          counts = event_tallied c traces job rate planned (laws_of c) (tallies_of c) r kept counts t tl going;
          begun = starts_in (starts_by n);
          cycle = omega (arith, more, now, e.kept.starts);
          past = subst (λ x. x ≤ counts.tally.past + 2 * c.blocks * starts_in (starts_by n)) (sym e.past) (past_step c.blocks n (units_now c.blocks counts.tally) counts.tally.past few);
        })

    pub onward_alone : (some : 0 < c.threads) (n : ℕ) (r : Run) (kept : Kept c traces r) (counts : RunTallied c rate r) → ((i : ℕ) → i < n → answer c 0 (after_alone c 0 r i).state ≡ Went) → Onward c rate r (after_alone c 0 r n) counts
    onward_alone some zero r kept counts went = record { counts = counts; begun = 0; cycle = omega arith; past = omega arith }
    onward_alone some (suc n) r kept counts went =
        let first = onward_event r kept counts 0 some (not_done _ (turn_of (next_effect c r.state 0).step) (went 0 (omega arith))) in
        onward_on c rate r (next c 0 r) (after_alone c 0 r (suc n)) counts first
        (onward_alone some n (next c 0 r) (turn_kept c traces (laws_of c) job r kept 0) first.counts (λ i il. went (suc i) (omega (arith, il))))

-- a command that a heap does
module _ {M : Type 0} (h : ControlOf M) (r : Run) (stands : Stands h r) (k : Command) (bounds : IsCommandInBounds h.config k) (left : HasLeft h k) (a : Reply) (z : Run) (s : Answers h.config k a r z) (rate : ℕ) (planned : IsRate h.config rate) where
  pub onward_command : (counts : RunTallied h.config rate r) → Onward h.config rate r z counts
  onward_command counts =
      let c = h.config in
      let is = (begins h r stands k bounds left).run.after in
      let some : 0 < h.config.threads = low h.config stands.single in
      let kept_grown = kept_of h.config stands.single (run_grown 0 k r) is in
      let grew = run_tallied h.config is.traces is.job rate planned (laws_of h.config) (tallies_of h.config) is.turns (run_grown 0 k r) is.by_turns in
      let on = onward_alone h.config rate planned is.traces is.job some s.turns (run_grown 0 k r) kept_grown grew s.went in
      let cycle : grew.tally.cycle ≡ counts.tally.cycle = sym grew.kept.starts ∙ ap starts_in (grew.of.order ∙ sym counts.of.order) ∙ counts.kept.starts in
      let past : grew.tally.past ≡ counts.tally.past = past_grown h.config rate planned stands.run.after.traces is.traces k r some (kept_of h.config stands.single r stands.run.after) kept_grown counts grew in
      subst (λ x. Onward h.config rate r x counts) (sym s.after) (record {
        counts = on.counts;
        begun = on.begun;
        cycle = omega (arith, on.cycle, cycle);
        past = omega (arith, on.past, past);
      })
