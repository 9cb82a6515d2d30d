-- A thread in a Sweep pass: the tally has its claim, each block that it passes, and what it frees
-- and credits.
use Rattle.std.proofs.Common.{◌≡◌, ℕ, ◌+◌, ◌-◌, ◌*◌, ◌<◌, ◌≤◌, Bool, true, false, ◌&&◌, cond, eqb, eq-eqb, ne_eqb, ltb, is_some, eqb-true, ltb-false, None, Some, [], ◌∷◌, ◌++◌, refl, sym, ap, ◌∙◌, arith, inl, inr}
use Rattle.std.proofs.lemmas.Bool.{cases_Bool, cases_eq}
use Rattle.block_store.specs.declared.Config.{Config}
use Rattle.block_store.specs.Colours.{is_grey, free_word, black_word, white_word}
use Rattle.block_store.specs.Counts.{changed}
use Rattle.block_store.specs.Heaps.{Heap, put_at}
use Rattle.block_store.specs.Phases.{is_sweep, cycle_of}
use Rattle.block_store.specs.Places.{Phase, Cursor, FreeCount, ColourOf}
use Rattle.block_store.proofs.Lemmas.{changed_else}
use Rattle.never_heap.specs.RightWork.{requested_units}
use Rattle.never_heap.specs.Steps.{blocks_of}
use Rattle.heap_machine.specs.Operations.{place_of, heap_after}
use Rattle.heap_machine.specs.declared.Step.{Step}
use Rattle.sweep_steps.specs.declared.rows.SweepRow.{SweepRow}
use Rattle.sweep_steps.specs.declared.rows.SweepRow.TheVariants as sweeps
use Rattle.sweep_steps.specs.SweepUnits.{row_passes}
use Rattle.sweep_steps.specs.Fits.{RowFits, IsLeft}
use Rattle.sweep_steps.specs.Rows.{SweepState, row_want, row_got, after_read, after_range, next_block, before_free, sweep_want, sweep_got, sweep_over, sweep_step, sweep_passed, sweep_nothing, sweep_in_hand}
use Rattle.sweep_steps.proofs.ReuseRulesKept.{over_holds_none}
use Rattle.work_account.specs.Accounts.{Balance}
use Rattle.heap_invariant.specs.cycle_tally.Events.{apply}
use Rattle.heap_invariant.specs.cycle_tally.Events as events
use Rattle.heap_invariant.specs.cycle_tally.TallyInvariant.{TallyKept}
use Rattle.heap_invariant.proofs.Lemmas.{others_twice, run_kept, spends_here, spends_twice}
use Rattle.heap_invariant.proofs.cycle_tally.Steps.{step_kept}
use Rattle.heap_invariant.specs.cycle_tally.Tallies.{Spending, Tally, with_made}
use Rattle.heap_system.specs.Locals.{idle_part, balance_made}
use Rattle.heap_system.proofs.accounting.Balances.{idle_more}
use Rattle.heap_system.specs.Parts.{Part, Sweep, Retry, LeaveToChangePhase}
use Rattle.heap_system.proofs.step_rows.PartLaws.{AtPart}
use Rattle.heap_system.proofs.invariant.SeenAndKept.{Seen}
use Rattle.heap_system.proofs.accounting.TallyLaw.{IsSpending, IsTallyOf, Counted, TallyEvent, TallyLaw, more_if, Asking, asking}
use Rattle.heap_system.specs.Units.{turns_black}
use Rattle.heap_system.proofs.parts.InPass.{of_pass, pass_is, grey_or_black}
use Rattle.heap_system.proofs.parts.Sweep.{freed_word}
use Rattle.heap_system.proofs.tallies.Moves.{SameWords, same_words, paid_by, told_none, stays, moves}

-- what the rows after a look at the cursor, at a block and past a block claim
read_claims : (m owed w : ℕ) → ((sweep_in_hand (after_read m owed w)).low ≡ 0) × ((sweep_in_hand (after_read m owed w)).high ≡ 0)
read_claims m owed w = elim (cases_Bool (ltb m w)) [ inl e ↦ rw e (refl, refl) | inr e ↦ rw e (refl, refl) ]

free_claims : (x high y a f : ℕ) → ((sweep_in_hand (before_free x high y a f)).low ≡ x) × ((sweep_in_hand (before_free x high y a f)).high ≡ high)
free_claims x high y a f = elim (cases_Bool (eqb f 0)) [ inl e ↦ rw e (refl, refl) | inr e ↦ rw e (refl, refl) ]

range_claims : (y a f : ℕ) → ((sweep_in_hand (after_range y a f)).low ≡ 0) × ((sweep_in_hand (after_range y a f)).high ≡ 0)
range_claims y a f = elim (cases_Bool (eqb f 0)) [ inl e ↦ rw e (refl, refl) | inr e ↦ rw e (refl, refl) ]

next_more : (x high y a f : ℕ) → ltb (x + 1) high ≡ true → ((sweep_in_hand (next_block x high y a f)).low ≡ x + 1) × ((sweep_in_hand (next_block x high y a f)).high ≡ high)
next_more x high y a f e = rw e (refl, refl)

next_last : (x high y a f : ℕ) → ltb (x + 1) high ≡ false → ((sweep_in_hand (next_block x high y a f)).low ≡ 0) × ((sweep_in_hand (next_block x high y a f)).high ≡ 0)
next_last x high y a f e = rw e (range_claims (y + 1) a f)

-- a block that is freed is not made black, and no other is
freed_black : (h : Heap) (x a z : ℕ) → turns_black (cycle_of (h Phase)) (ColourOf z) (h (ColourOf z)) (put_at h (ColourOf x) (free_word a) (ColourOf z)) ≡ false
freed_black h x a z = elim (cases_Bool (eqb x z)) [
  | inl is ↦ rw is (freed_word (cycle_of (h Phase)) a (is_grey (h (ColourOf z))))
  | inr other ↦ rw other (grey_or_black (cycle_of (h Phase)) (h (ColourOf z)))
]

module _ (c : Config) (rate : ℕ) (s : Seen c) (p : SweepState) (at : AtPart c s (Sweep p)) (before : Tally) (k : Counted c rate s (Sweep p) before) (next : Asking) where
  -- a thread inside with this balance, that claims this
  record AtClaim (b : Balance) (made from until : ℕ) (w : Spending) : Type 0 where
    pub inside : w.inside ≡ true
    pub account : w.balance ≡ b
    pub asked : w.asked ≡ blocks_of c.width s.command
    pub requested : w.requested ≡ requested_units s.command
    pub idled : w.idled ≡ idle_part (requested_units s.command) made
    pub low : w.low ≡ from
    pub high : w.high ≡ until
    pub reserved : w.reserved ≡ 0

  abbrev AtRow : Balance → ℕ → SweepRow → Spending → Type 0
  AtRow b made r w = AtClaim b made (sweep_in_hand r).low (sweep_in_hand r).high w

  -- the part of that row
  comes : (n : SweepState) (over none : Bool) → sweep_over n.row ≡ over → (b : Balance) (made : ℕ) (w : Spending) → AtRow b made n.row w → IsSpending c (cond over (cond none LeaveToChangePhase Retry) (Sweep n)) b (asking c s.command made) w
  comes n true true is b made w a = record { inside = a.inside; account = a.account; asked = a.asked; requested = a.requested; idled = a.idled; low = a.low ∙ ap (λ h. h.low) (over_holds_none n.row is); high = a.high ∙ ap (λ h. h.high) (over_holds_none n.row is); reserved = a.reserved }
  comes n true false is b made w a = record { inside = a.inside; account = a.account; asked = a.asked; requested = a.requested; idled = a.idled; low = a.low ∙ ap (λ h. h.low) (over_holds_none n.row is); high = a.high ∙ ap (λ h. h.high) (over_holds_none n.row is); reserved = a.reserved }
  comes n false none is b made w a = record { inside = a.inside; account = a.account; asked = a.asked; requested = a.requested; idled = a.idled; low = a.low; high = a.high; reserved = a.reserved }

  sweep : before.sweep ≡ true
  sweep = k.of.sweep ∙ sym (pass_is c s (Sweep p) at refl).1 ∙ at.part.sweep

  module _ (step : Step) (q : Part) where
    -- the row claims the same
    quiet : (new : Heap) → SameWords s.heap new → IsSpending c q s.balance (asking c s.command s.spent) (before.threads s.thread) → TallyEvent c rate s new (of_pass step false) q next before
    quiet new same own = stays c rate s (Sweep p) before k new (of_pass step false) q next same refl refl refl own

    -- a range is claimed
    claims : (x high : ℕ) → s.heap Cursor ≡ x → x < high → high ≤ c.blocks + 1 → high + s.spent ≤ x + s.due → (before.threads s.thread).low ≡ 0 → (before.threads s.thread).high ≡ 0
        → ((w : Spending) → AtRow s.balance s.spent (sweeps.PassBlock x high 0 0 0) w → IsSpending c q s.balance (asking c s.command s.spent) w)
        → TallyEvent c rate s (put_at s.heap Cursor high) (of_pass step false) q next before
    claims x high is some last due low none spends =
        let w : Spending = before.threads s.thread in
        let new : Spending = record w { low = before.cursor; high = before.cursor + (high - x) } in
        let cost : rate * w.asked ≡ rate * blocks_of c.width s.command = ap (λ n. rate * n) k.own.asked in
        let ends : before.cursor + (high - x) ≡ high = omega (arith, k.of.cursor, is, some) in
        moves c rate s (Sweep p) before k (events.Claim s.thread (high - x) ∷ []) ((s.low, k.own.inside, sweep, omega (arith, ends, last), omega (arith, cost, k.own.requested, k.due, paid_by c rate s (Sweep p) before k, due, some), omega (arith, low, none)), tt)
        (put_at s.heap Cursor high) (of_pass step false) q next
        (record { cycle = k.of.cycle; sweep = k.of.sweep; cursor = ends; free = k.of.free; colour = k.of.colour; order = told_none c rate s (Sweep p) before k (of_pass step false) refl refl })
        (spends_here (IsSpending c q s.balance (asking c s.command s.spent)) before.threads s.thread new
        (spends new (record { inside = k.own.inside; account = k.own.account; asked = k.own.asked; requested = k.own.requested; idled = k.own.idled; low = k.of.cursor ∙ is; high = ends; reserved = k.own.reserved })))
        (λ u other. changed_else before.threads s.thread u new other) (λ x. refl) (λ x. refl) refl

    -- a block is passed, and its colour written or not
    module _ (x high y a f : ℕ) (low : (before.threads s.thread).low ≡ x) (until : (before.threads s.thread).high ≡ high) (some : x < high) (spends : (w : Spending) → AtRow (balance_made (requested_units s.command) s.balance) (s.spent + 1) (next_block x high y a f) w → IsSpending c q (balance_made (requested_units s.command) s.balance) (asking c s.command (s.spent + 1)) w)
        (new : Heap) (painted : ℕ → ℕ) (kept : TallyKept c rate black_word (record before { colour = painted })) (of : IsTallyOf new (s.order ++ ([] ++ [])) (record before { colour = painted })) (no_scan : (z : ℕ) → turns_black (cycle_of (s.heap Phase)) (ColourOf z) (s.heap (ColourOf z)) (new (ColourOf z)) ≡ false) where
      abbrev one : Spending
      one = record (with_made (before.threads s.thread)) { low = (before.threads s.thread).low + 1 }

      abbrev passed : Tally
      passed = apply c rate black_word (record before { colour = painted }) (events.Pass s.thread)

      -- it is passed once more, and none is scanned
      scanned : (z : ℕ) → before.scanned z ≡ more_if (turns_black (cycle_of (s.heap Phase)) (ColourOf z) (s.heap (ColourOf z)) (new (ColourOf z))) (before.scanned z)
      scanned z = rw (no_scan z) refl

      once_more : (z : ℕ) → changed before.passed (before.threads s.thread).low (before.passed (before.threads s.thread).low + 1) z ≡ more_if (is_sweep (s.heap Phase) && eqb (before.threads s.thread).low z) (before.passed z)
      once_more z =
          let now : is_sweep (s.heap Phase) ≡ true = sym k.of.sweep ∙ sweep in
          elim (cases_eq (before.threads s.thread).low z) [
            | inl is ↦ (let count : before.passed (before.threads s.thread).low ≡ before.passed z = ap before.passed is in rw (now, eq-eqb _ _ is) (omega (arith, count)))
            | inr ne ↦ rw (now, ne_eqb _ _ ne) refl
          ]

      passes : TallyEvent c rate s new (of_pass step true) q next before
      passes = elim (cases_Bool (ltb (x + 1) high)) [
        | inl more ↦ record {
          tally = passed;
          kept = run_kept c rate black_word k.some k.plan (events.Pass s.thread ∷ []) (record before { colour = painted }) kept ((s.low, omega (arith, low, until, some)), tt);
          of = record { cycle = of.cycle; sweep = of.sweep; cursor = of.cursor; free = of.free; colour = of.colour; order = of.order };
          own = spends_here (IsSpending c q (balance_made (requested_units s.command) s.balance) (asking c s.command (s.spent + 1))) before.threads s.thread one
              (spends one (record { inside = k.own.inside; account = λ i. balance_made (k.own.requested i) (k.own.account i); asked = k.own.asked; requested = k.own.requested; idled = idle_more (requested_units s.command) s.spent (before.threads s.thread).requested (before.threads s.thread).idled k.own.requested k.own.idled; low = omega (arith, low, (next_more x high y a f more).0); high = until ∙ sym (next_more x high y a f more).1; reserved = k.own.reserved }));
          others = λ u other. changed_else before.threads s.thread u one other;
          scanned = scanned;
          passed = once_more;
          past = refl;
        }
        | inr last ↦ record {
          tally = apply c rate black_word passed (events.Clear s.thread);
          kept = run_kept c rate black_word k.some k.plan (events.Pass s.thread ∷ events.Clear s.thread ∷ []) (record before { colour = painted }) kept
              ((s.low, omega (arith, low, until, some)), ((s.low, spends_here (λ w. w.high ≤ w.low) before.threads s.thread one (omega (arith, low, until, ltb-false (x + 1) high last))), tt));
          of = record { cycle = of.cycle; sweep = of.sweep; cursor = of.cursor; free = of.free; colour = of.colour; order = of.order };
          own = spends_twice (IsSpending c q (balance_made (requested_units s.command) s.balance) (asking c s.command (s.spent + 1))) before.threads s.thread one (λ w. record w { low = 0; high = 0 })
              (spends (record one { low = 0; high = 0 }) (record { inside = k.own.inside; account = λ i. balance_made (k.own.requested i) (k.own.account i); asked = k.own.asked; requested = k.own.requested; idled = idle_more (requested_units s.command) s.spent (before.threads s.thread).requested (before.threads s.thread).idled k.own.requested k.own.idled; low = sym (next_last x high y a f last).0; high = sym (next_last x high y a f last).1; reserved = k.own.reserved }));
          others = λ u other. others_twice before.threads s.thread one _ u other;
          scanned = scanned;
          passed = once_more;
          past = refl;
        }
      ]

    -- what comes after a claim, won or lost
    claiming : (x high : ℕ) (b : Bool) → eqb (s.heap Cursor) x ≡ b → IsLeft c.blocks p.owed x high 0 → s.spent + p.owed ≡ s.due → AtRow s.balance s.spent sweeps.ReadCursor (before.threads s.thread)
        → ((w : Spending) → AtRow s.balance s.spent (cond b (sweeps.PassBlock x high 0 0 0) sweeps.ReadCursor) w → IsSpending c q s.balance (asking c s.command s.spent) w)
        → TallyEvent c rate s (cond b (put_at s.heap Cursor high) s.heap) (of_pass step false) q next before
    claiming x high true is left settled own spends = claims x high (eqb-true (s.heap Cursor) x is) left.left left.last (omega (arith, left.due, settled)) own.low own.high spends
    claiming x high false is left settled own spends = quiet s.heap (same_words s.heap) (spends (before.threads s.thread) own)

    -- and after a block was read
    reading : (x high y a f : ℕ) (b : Bool) → x < high → AtRow s.balance s.spent (sweeps.PassBlock x high y a f) (before.threads s.thread)
        → ((v : Balance) (made : ℕ) (w : Spending) → AtRow v made (cond b (before_free x high y a f) (next_block x high y a f)) w → IsSpending c q v (asking c s.command made) w)
        → TallyEvent c rate s s.heap (of_pass step (is_some (cond b None (Some x)))) q next before
    reading x high y a f true some own spends = quiet s.heap (same_words s.heap) (spends s.balance s.spent (before.threads s.thread) (record {
      inside = own.inside;
      account = own.account;
      asked = own.asked;
      requested = own.requested;
      idled = own.idled;
      low = own.low ∙ sym (free_claims x high y a f).0;
      high = own.high ∙ sym (free_claims x high y a f).1;
      reserved = own.reserved;
    }))
    reading x high y a f false some own spends = passes x high y a f own.low own.high some (spends (balance_made (requested_units s.command) s.balance) (s.spent + 1)) s.heap before.colour k.kept
        (record { cycle = k.of.cycle; sweep = k.of.sweep; cursor = k.of.cursor; free = k.of.free; colour = k.of.colour; order = told_none c rate s (Sweep p) before k (of_pass step false) refl refl })
        (λ z. grey_or_black (cycle_of (s.heap Phase)) (s.heap (ColourOf z)))

    by : (r : SweepRow) → RowFits c.blocks p.owed r → sweep_over r ≡ false → s.spent + p.owed ≡ s.due + sweep_passed r → AtRow s.balance s.spent r (before.threads s.thread)
        → ((b : Balance) (made : ℕ) (w : Spending) → AtRow b made (row_got p.cycle p.blocks p.owed r (s.heap (place_of (row_want p.thread p.cycle r)))) w → IsSpending c q b (asking c s.command made) w)
        → TallyEvent c rate s (heap_after s.heap (row_want p.thread p.cycle r)) (of_pass step (is_some (row_passes p.cycle r (s.heap (place_of (row_want p.thread p.cycle r)))))) q next before
    by sweeps.ReadCursor fits going settled own spends = quiet s.heap (same_words s.heap) (spends s.balance s.spent (before.threads s.thread) (record {
      inside = own.inside;
      account = own.account;
      asked = own.asked;
      requested = own.requested;
      idled = own.idled;
      low = own.low ∙ sym (read_claims p.blocks p.owed (s.heap Cursor)).0;
      high = own.high ∙ sym (read_claims p.blocks p.owed (s.heap Cursor)).1;
      reserved = own.reserved;
    }))
    by (sweeps.ClaimRange x high) fits going settled own spends = claiming x high (eqb (s.heap Cursor) x) refl fits (omega (arith, settled)) own (spends s.balance s.spent)
    by (sweeps.PassBlock x high y a f) fits going settled own spends = reading x high y a f (eqb (s.heap (ColourOf x)) (white_word p.cycle)) fits.0.left own spends
    by (sweeps.TakeFree x high y) fits going settled own spends = quiet _ (record { cycle = refl; sweep = refl; cursor = refl; free = refl; colour = λ x. refl }) (spends s.balance s.spent (before.threads s.thread) own)
    by (sweeps.FreeBlock x high y a f) fits going settled own spends = passes x high y x (f + 1) own.low own.high fits.0.left (spends (balance_made (requested_units s.command) s.balance) (s.spent + 1)) (put_at s.heap (ColourOf x) (free_word a)) (changed before.colour x (free_word a))
        (step_kept c rate black_word k.some before k.kept (events.Paint x (free_word a)) k.plan (λ mark. absurd (let z : true ≡ false = sym sweep ∙ mark in cc)))
        (record { cycle = k.of.cycle; sweep = k.of.sweep; cursor = k.of.cursor; free = k.of.free; colour = λ z. (λ i. cond (eqb x z) (free_word a) (k.of.colour z i)); order = told_none c rate s (Sweep p) before k (of_pass step false) refl refl })
        (freed_black s.heap x a)
    by (sweeps.PutFree a y f) fits going settled own spends = quiet _ (record { cycle = refl; sweep = refl; cursor = refl; free = refl; colour = λ x. refl }) (spends s.balance s.spent (before.threads s.thread) own)
    by (sweeps.Credit y f) fits going settled own spends = moves c rate s (Sweep p) before k (events.Credit f ∷ []) (tt, tt) (put_at s.heap FreeCount (s.heap FreeCount + f)) (of_pass step false) q next
        (record { cycle = k.of.cycle; sweep = k.of.sweep; cursor = k.of.cursor; free = omega (arith, k.of.free); colour = k.of.colour; order = told_none c rate s (Sweep p) before k (of_pass step false) refl refl })
        (spends s.balance s.spent (before.threads s.thread) own) (λ u other. refl) (λ x. refl) (λ x. refl) refl
    by (sweeps.Swept y f) fits going settled own spends = absurd cc
    by sweeps.NothingLeft fits going settled own spends = absurd cc

pub sweep_tallied : (c : Config) (p : SweepState) → TallyLaw c (Sweep p)
sweep_tallied c p rate s at next few before k =
    let n : SweepState = sweep_got p (s.heap (place_of (sweep_want p))) in
    by c rate s p at before k next (sweep_step p (s.heap (place_of (sweep_want p)))) (cond (sweep_over n.row) (cond (sweep_nothing n.row) LeaveToChangePhase Retry) (Sweep n))
    p.row at.fits.0.row at.part.going at.settled (record { inside = k.own.inside; account = k.own.account; asked = k.own.asked; requested = k.own.requested; idled = k.own.idled; low = k.own.low; high = k.own.high; reserved = k.own.reserved })
    (comes c rate s p at before k next n (sweep_over n.row) (sweep_nothing n.row) refl)
