-- Each event that may come keeps a tally.
use Rattle.std.proofs.Common.{ℕ, ◌<◌}
use Rattle.block_store.specs.declared.Config.{Config}
use Rattle.rate_plan.specs.Rates.{KeepsUp}
use Rattle.heap_invariant.specs.cycle_tally.Tallies.{Tally}
use Rattle.heap_invariant.specs.cycle_tally.Events.{Event, Enter, Leave, SetCursor, Flip, Start, Paint, Scan, Claim, Pass, Clear, Credit, Reserve, Publish, Refuse, Answer, Next, apply, Guard}
use Rattle.heap_invariant.specs.cycle_tally.TallyInvariant.{TallyKept}
use Rattle.heap_invariant.proofs.cycle_tally.GateAndPhaseEvents.{enters, leaves, asks, clears, cursor_set, flips, begins}
use Rattle.heap_invariant.proofs.cycle_tally.MarkAndSweepEvents.{paints, scans_one, claims_more, passes_one}
use Rattle.heap_invariant.proofs.cycle_tally.DecisionEvents.{credits, reserves, gives, answers, refuses}

module _ (c : Config) (rate : ℕ) (black : ℕ → ℕ) (some : 0 < rate) (s : Tally)
    (k : TallyKept c rate black s) where
  -- each event with its guard
  pub step_kept : (e : Event) → KeepsUp c rate → Guard c rate black s e
      → TallyKept c rate black (apply c rate black s e)
  step_kept (Enter t) plan g = enters c rate black some s k t g
  step_kept (Leave t) plan g = leaves c rate black some s k t g
  step_kept SetCursor plan g = cursor_set c rate black some s k g
  step_kept Flip plan g = flips c rate black some s k g
  step_kept Start plan g = begins c rate black some s k g
  step_kept (Paint x w) plan g = paints c rate black some s k x w g
  step_kept (Scan t x) plan g = scans_one c rate black some s k t x g
  step_kept (Claim t r) plan g = claims_more c rate black some s k t r g
  step_kept (Pass t) plan g = passes_one c rate black some s k t g
  step_kept (Clear t) plan g = clears c rate black some s k t g
  step_kept (Credit y) plan g = credits c rate black some s k y
  step_kept (Reserve t) plan g = reserves c rate black some s k t g
  step_kept (Publish t e) plan g = gives c rate black some s k t e g
  step_kept (Refuse t e) plan g = refuses c rate black some s k t e plan g
  step_kept (Answer t e) plan g = answers c rate black some s k t e g
  step_kept (Next t y u) plan g = asks c rate black some s k t y u g
