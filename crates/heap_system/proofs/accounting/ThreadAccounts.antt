-- What the tally of a run says of each thread's account.
use Rattle.std.proofs.Common.{◌≡◌, ℕ, ◌<◌, ◌≤◌, true, false, List, ap, sym, ◌∙◌, subst, arith}
use Rattle.block_store.specs.declared.Config.{Config}
use Rattle.block_store.specs.Heaps.{Heap}
use Rattle.block_store.specs.Phases.{cycle_of}
use Rattle.block_store.specs.Places.{Phase}
use Rattle.rate_plan.specs.Rates.{IsRate}
use Rattle.never_heap.specs.declared.Command.{Command}
use Rattle.work_account.specs.Accounts.{Balance, IsSound}
use Rattle.heap_machine.specs.Gating.{is_inside}
use Rattle.heap_machine.specs.Operations.{place_of}
use Rattle.heap_machine.specs.declared.gate.GateRow.TheVariants as gates
use Rattle.heap_machine.specs.declared.pass.Pass.{Pass}
use Rattle.heap_system.specs.Parts.{Part, Enter}
use Rattle.heap_system.specs.Locals.{part_want, PartFits, EntersOn, LocalReads}
use Rattle.heap_system.specs.Machines.{Run, local_in, word_read, heap_in, IsJob, IsRunOf}
use Rattle.heap_system.specs.Pictures.{stand_of}
use Rattle.heap_system.proofs.invariant.InvariantHolds.{run_kept}
use Rattle.heap_system.proofs.invariant.Invariant.{Kept}
use Rattle.heap_system.proofs.step_rows.LawsOfParts.{laws_of}
use Rattle.heap_system.proofs.accounting.RunTally.{RunTallied, run_tallied}
use Rattle.heap_system.proofs.accounting.TalliesOfParts.{tallies_of}
use Rattle.heap_system.proofs.invariant.InvariantByTurns.{fits_at, reads, word_is}

-- a thread on its way in reads the phase word
enters_on : (c : Config) (h : Heap) (p : Part) (done all : ℕ) (q : Pass) (z : ℕ)
    → PartFits c done all q p → z ≤ cycle_of (h Phase)
    → EntersOn p z (h (place_of (part_want c p)))
enters_on c h (Enter gates.Look) done all q z fits low = low
enters_on c h (Enter (gates.Enter seen)) done all q z fits low = low
enters_on c h (Enter _) done all q z fits low = absurd (let e : false ≡ true = fits.1 in cc)
enters_on c h _ done all q z fits low = tt

module _ (c : Config) (traces : List (List Command)) (job : IsJob c traces) (ts : List ℕ) (r : Run)
    (is : IsRunOf c traces ts r) (t : ℕ) (tl : t < c.threads) where
  kept : Kept c traces r
  kept = run_kept c traces (laws_of c) job ts r is

  module _ (rate : ℕ) (planned : IsRate c rate) where
    counts : RunTallied c rate r
    counts = run_tallied c traces job rate planned (laws_of c) (tallies_of c) ts r is

    pub account_sound : IsSound rate c.object (local_in c r t).balance
    account_sound = subst (λ b. IsSound rate c.object b) (counts.threads t tl).account
        (counts.kept.each t tl).sound

    cycle_is : (counts.tally.threads t).balance.cycle ≡ (local_in c r t).balance.cycle
    cycle_is = ap (λ (b : Balance). b.cycle) (counts.threads t tl).account

    low : (local_in c r t).balance.cycle ≤ cycle_of (heap_in c r.state Phase)
    low = omega (arith, cycle_is, (counts.kept.each t tl).entered, counts.of.cycle)

    now : is_inside (stand_of c (local_in c r t).part) ≡ true
        → (local_in c r t).balance.cycle ≡ cycle_of (heap_in c r.state Phase)
    now e = sym cycle_is
        ∙ (counts.kept.each t tl).present ((counts.threads t tl).inside ∙ e) ∙ counts.of.cycle

  -- it has entered no later cycle, and the present one where it is inside
  pub not_later : (local_in c r t).balance.cycle ≤ cycle_of (heap_in c r.state Phase)
  not_later = low is.opening.rate is.opening.planned

  pub present : is_inside (stand_of c (local_in c r t).part) ≡ true
      → (local_in c r t).balance.cycle ≡ cycle_of (heap_in c r.state Phase)
  present = now is.opening.rate is.opening.planned

  -- what its next event reads
  pub local_reads : LocalReads c (local_in c r t) (word_read c r.state (local_in c r t))
  local_reads = (
    reads c traces (laws_of c) job.bounds.config job.plan r kept t tl,
    subst (λ w. EntersOn (local_in c r t).part (local_in c r t).balance.cycle w)
        (sym (word_is c traces (laws_of c) job.bounds.config job.plan r kept t tl))
        (enters_on c (heap_in c r.state) (local_in c r t).part _ _ _ _
        (fits_at c traces (laws_of c) job.bounds.config job.plan r kept t tl t tl) not_later),
  )
