-- A thread in a Mark pass: the tally has the scan at the event that makes the block under scan
-- black, and each block that is shaded in its new colour.
use Rattle.std.proofs.Common.{◌≡◌, ℕ, ◌+◌, ◌*◌, ◌<◌, ◌≤◌, Bool, true, false, not, ◌&&◌, cond, eqb, eqb-true, eq-eqb, ne_eqb, Some, [], ◌∷◌, refl, sym, ap, ◌∙◌, arith, inl, inr}
use Rattle.std.proofs.lemmas.Bool.{cases_Bool, cases_eq}
use Rattle.block_store.specs.declared.Config.{Config}
use Rattle.block_store.specs.Colours.{is_grey, grey_word, black_word, white_word}
use Rattle.block_store.specs.Counts.{changed}
use Rattle.block_store.specs.Heaps.{Heap, put_at}
use Rattle.block_store.specs.Phases.{bit, is_sweep, cycle_of}
use Rattle.block_store.specs.Places.{Phase, ColourOf, extent}
use Rattle.block_store.specs.Widths.{payloads}
use Rattle.block_store.proofs.Lemmas.{black-white, changed_else, not_grey_black}
use Rattle.never_heap.specs.RightWork.{requested_units}
use Rattle.never_heap.specs.Steps.{blocks_of}
use Rattle.heap_machine.specs.WorkInHand.{grey_held}
use Rattle.heap_machine.specs.Operations.{CompareExchange, place_of, heap_after}
use Rattle.heap_machine.specs.declared.Step.{Step}
use Rattle.heap_machine.specs.declared.pass.Pass.{Pass}
use Rattle.grey_steps.specs.declared.rows.GreyRow.{GreyRow}
use Rattle.grey_steps.specs.declared.rows.GreyRow.TheVariants as marks
use Rattle.grey_steps.specs.MarkUnits.{is_blackening, is_shading}
use Rattle.grey_steps.specs.Fits.{RowFits}
use Rattle.grey_steps.specs.Rows.{GreyState, row_want, grey_unit, grey_want, grey_got, grey_over, grey_step, grey_nothing, grey_in_hand, marking_in_hand}
use Rattle.grey_steps.proofs.MarkUnits.{unit_grey}
use Rattle.work_account.specs.Accounts.{Balance}
use Rattle.heap_invariant.specs.cycle_tally.Events as events
use Rattle.heap_invariant.specs.cycle_tally.Tallies.{Spending, Tally, made_of, due_of, with_made}
use Rattle.heap_invariant.proofs.Lemmas.{spends_here}
use Rattle.heap_system.specs.Parts.{Part, Mark, Retry, LeaveToChangePhase}
use Rattle.heap_system.specs.Locals.{Effect, Open, idle_part, spent_got, balance_made, balance_got}
use Rattle.heap_system.proofs.accounting.Balances.{idle_more}
use Rattle.heap_system.specs.Machines.{starts_by}
use Rattle.heap_system.specs.Units.{turns_black}
use Rattle.heap_system.proofs.step_rows.PartLaws.{AtPart}
use Rattle.heap_system.proofs.invariant.SeenAndKept.{Seen}
use Rattle.heap_system.proofs.accounting.TallyLaw.{asked_got, IsSpending, Counted, TallyEvent, TallyLaw, more_if, Asking, asking}
use Rattle.heap_system.proofs.parts.InPass.{of_pass, pass_is, grey_or_black}
use Rattle.heap_system.proofs.parts.Mark.{no_claim}
use Rattle.heap_system.proofs.tallies.Moves.{SameWords, same_words, paid_by, told_none, no_more, same_past, stays, moves}

module _ (c : Config) (rate : ℕ) (s : Seen c) (p : Part) (before : Tally) (k : Counted c rate s p before) (next : Asking) where
  -- a block of the phase's white becomes grey
  pub shades : (y list z : ℕ) → z ≡ cycle_of (s.heap Phase) → (e : Effect) → e.verdict ≡ Open → starts_by e.naming ≡ [] → e.unit ≡ false → (q : Part)
      → IsSpending c q (balance_got e (requested_units s.command) (blocks_of c.width s.command) s.balance) (asked_got e.reply (asking c s.command (spent_got e.reply e.unit s.spent)) next) (before.threads s.thread)
      → TallyEvent c rate s (heap_after s.heap (CompareExchange (ColourOf y) (white_word z) (grey_word list))) e q next before
  shades y list z same e undecided still none q own = elim (cases_Bool (eqb (s.heap (ColourOf y)) (white_word z))) [
    | inl is ↦ rw is (moves c rate s p before k (events.Paint y (grey_word list) ∷ [])
        ((λ mark black. absurd (black-white z (let w : black_word z ≡ before.colour y = ap black_word (same ∙ sym k.of.cycle) ∙ sym black in w ∙ k.of.colour y ∙ eqb-true _ _ is))), tt)
        (put_at s.heap (ColourOf y) (grey_word list)) e q next
        (record { cycle = k.of.cycle; sweep = k.of.sweep; cursor = k.of.cursor; free = k.of.free; colour = λ x. (λ i. cond (eqb y x) (grey_word list) (k.of.colour x i)); order = told_none c rate s p before k e undecided still })
        own (λ u other. refl) (λ x. no_more e.naming e.unit _ (before.scanned x) still none) (λ x. no_more e.naming e.unit _ (before.passed x) still none) (same_past e.naming _ before.past still))
    | inr not ↦ rw not (stays c rate s p before k s.heap e q next (same_words s.heap) undecided still none own)
  ]

module _ (c : Config) (rate : ℕ) (s : Seen c) (m : GreyState) (at : AtPart c s (Mark m)) (before : Tally) (k : Counted c rate s (Mark m) before) (next : Asking) where
  abbrev read : ℕ
  read = s.heap (place_of (grey_want m))

  -- the part after it claims nothing either
  comes : (n : GreyState) (over none : Bool) (b : Balance) (made : ℕ) (w : Spending) → w.inside ≡ true → w.balance ≡ b → w.asked ≡ blocks_of c.width s.command → w.requested ≡ requested_units s.command → w.idled ≡ idle_part (requested_units s.command) made → w.low ≡ 0 → w.high ≡ 0 → w.reserved ≡ 0 → IsSpending c (cond over (cond none LeaveToChangePhase Retry) (Mark n)) b (asking c s.command made) w
  comes n true true b made w inside pays asked requested idled low high reserved = record { inside = inside; account = pays; asked = asked; requested = requested; idled = idled; low = low; high = high; reserved = reserved }
  comes n true false b made w inside pays asked requested idled low high reserved = record { inside = inside; account = pays; asked = asked; requested = requested; idled = idled; low = low; high = high; reserved = reserved }
  comes n false none b made w inside pays asked requested idled low high reserved = record { inside = inside; account = pays; asked = asked; requested = requested; idled = idled; low = low ∙ sym (no_claim (payloads c.width) n.row).0; high = high ∙ sym (no_claim (payloads c.width) n.row).1; reserved = reserved }

  low : (before.threads s.thread).low ≡ 0
  low = k.own.low ∙ (no_claim (payloads c.width) m.row).0

  high : (before.threads s.thread).high ≡ 0
  high = k.own.high ∙ (no_claim (payloads c.width) m.row).1

  cycle : m.pass.cycle ≡ cycle_of (s.heap Phase)
  cycle = ap (λ (q : Pass). q.cycle) at.part.passes ∙ (pass_is c s (Mark m) at refl).0

  black : before.cycle ≡ m.pass.cycle
  black = k.of.cycle ∙ sym cycle

  mark : before.sweep ≡ false
  mark = k.of.sweep ∙ sym (pass_is c s (Mark m) at refl).1 ∙ at.part.mark

  held : grey_held (s.holds m.pass.thread) ≡ grey_held (marking_in_hand (extent c) m)
  held = ap (λ t. grey_held (s.holds t)) at.part.thread ∙ ap grey_held at.holds

  -- the block under scan is grey
  grey : (x : ℕ) → is_blackening m.row ≡ true → (marking_in_hand (extent c) m).scan ≡ Some x → is_grey (s.heap (ColourOf x)) ≡ true
  grey x is scan = (unit_grey c s.heap (λ u. grey_held (s.holds u)) m x at.fits.0 s.rules.grey held is scan).0

  module _ (step : Step) (q : Part) (spends : (b : Balance) (made : ℕ) (w : Spending) → w.inside ≡ true → w.balance ≡ b → w.asked ≡ blocks_of c.width s.command → w.requested ≡ requested_units s.command → w.idled ≡ idle_part (requested_units s.command) made → w.low ≡ 0 → w.high ≡ 0 → w.reserved ≡ 0 → IsSpending c q b (asking c s.command made) w) where
    here : IsSpending c q s.balance (asking c s.command s.spent) (before.threads s.thread)
    here = spends s.balance s.spent (before.threads s.thread) k.own.inside k.own.account k.own.asked k.own.requested k.own.idled low high k.own.reserved

    -- it is scanned once more, and none is passed
    scanned : (x : ℕ) → is_grey (s.heap (ColourOf x)) ≡ true → (y : ℕ) → changed before.scanned x (before.scanned x + 1) y ≡ more_if (turns_black (cycle_of (s.heap Phase)) (ColourOf y) (s.heap (ColourOf y)) (put_at s.heap (ColourOf x) (black_word m.pass.cycle) (ColourOf y))) (before.scanned y)
    scanned x grey y = elim (cases_eq x y) [
      | inl is ↦
          let colour : is_grey (s.heap (ColourOf y)) ≡ true = ap (λ v. is_grey (s.heap (ColourOf v))) (sym is) ∙ grey in
          let now : eqb (black_word m.pass.cycle) (black_word (cycle_of (s.heap Phase))) ≡ true = eq-eqb _ _ (ap black_word cycle) in
          let count : before.scanned x ≡ before.scanned y = ap before.scanned is in
          rw (eq-eqb x y is, colour, now) (omega (arith, count))
      | inr ne ↦ rw (ne_eqb x y ne, grey_or_black (cycle_of (s.heap Phase)) (s.heap (ColourOf y))) refl
    ]

    no_pass : (x y : ℕ) → before.passed y ≡ more_if (is_sweep (s.heap Phase) && eqb (before.threads s.thread).low y) (before.passed y)
    no_pass x y = (let still : is_sweep (s.heap Phase) ≡ false = sym k.of.sweep ∙ mark in rw still refl)

    -- it becomes black
    scans : (x : ℕ) → (1 ≤ x) × (x ≤ c.blocks) → is_grey (s.heap (ColourOf x)) ≡ true → s.spent + 1 ≤ s.due → TallyEvent c rate s (put_at s.heap (ColourOf x) (black_word m.pass.cycle)) (of_pass step true) q next before
    scans x inside grey pays =
        let w : Spending = before.threads s.thread in
        let new : Spending = with_made w in
        let less : made_of w < due_of rate w = (let e : rate * w.asked ≡ rate * blocks_of c.width s.command = ap (λ n. rate * n) k.own.asked in omega (arith, e, k.own.requested, k.due, pays, paid_by c rate s (Mark m) before k)) in
        let not_black : before.colour x ≡ black_word before.cycle → ⊥ = (λ e. let z : true ≡ false = sym grey ∙ ap is_grey (sym (k.of.colour x) ∙ e) ∙ not_grey_black before.cycle in cc) in
        moves c rate s (Mark m) before k (events.Scan s.thread x ∷ []) ((s.low, k.own.inside, mark, inside.0, inside.1, not_black, less, omega (arith, low, high)), tt)
        (put_at s.heap (ColourOf x) (black_word m.pass.cycle)) (of_pass step true) q next
        (record { cycle = k.of.cycle; sweep = k.of.sweep; cursor = k.of.cursor; free = k.of.free; colour = λ y. (λ i. cond (eqb x y) (black_word (black i)) (k.of.colour y i)); order = told_none c rate s (Mark m) before k (of_pass step true) refl refl })
        (spends_here (IsSpending c q (balance_made (requested_units s.command) s.balance) (asking c s.command (s.spent + 1))) before.threads s.thread new
        (spends (balance_made (requested_units s.command) s.balance) (s.spent + 1) new k.own.inside (λ i. balance_made (k.own.requested i) (k.own.account i)) k.own.asked k.own.requested (idle_more (requested_units s.command) s.spent w.requested w.idled k.own.requested k.own.idled) low high k.own.reserved))
        (λ u other. changed_else before.threads s.thread u new other) (scanned x grey) (no_pass x) refl

    quiet : (new : Heap) → SameWords s.heap new → TallyEvent c rate s new (of_pass step false) q next before
    quiet new same = stays c rate s (Mark m) before k new (of_pass step false) q next same refl refl refl here

    by : (r : GreyRow) → RowFits c r → is_shading r ≡ false → grey_over r ≡ false → s.spent + bit (not (grey_unit r)) ≤ s.due → ((x : ℕ) → is_blackening r ≡ true → (grey_in_hand (payloads c.width) r).scan ≡ Some x → is_grey (s.heap (ColourOf x)) ≡ true)
        → TallyEvent c rate s (heap_after s.heap (row_want m.pass.thread m.pass.threads m.pass.cycle r)) (of_pass step (is_blackening r)) q next before
    by (marks.Take u) fits scan going pays grey = quiet _ (record { cycle = refl; sweep = refl; cursor = refl; free = refl; colour = λ x. refl })
    by (marks.Pop a) fits scan going pays grey = quiet _ (same_words s.heap)
    by (marks.ScanWord x j a) fits scan going pays grey = quiet _ (same_words s.heap)
    by (marks.Shade x j y a) fits scan going pays grey = shades c rate s (Mark m) before k next y a m.pass.cycle cycle (of_pass step false) refl refl refl q here
    by (marks.Blacken x a) fits scan going pays grey = scans x fits.0 (grey x refl refl) pays
    by (marks.Put a) fits scan going pays grey = quiet _ (record { cycle = refl; sweep = refl; cursor = refl; free = refl; colour = λ x. refl })
    by marks.Scanned fits scan going pays grey = absurd cc
    by marks.NothingGrey fits scan going pays grey = absurd cc
    by (marks.TakeOwn y) fits scan going pays grey = absurd cc
    by (marks.ShadeStored y a) fits scan going pays grey = absurd cc
    by (marks.PutOwn y a) fits scan going pays grey = absurd cc
    by (marks.Shaded y) fits scan going pays grey = absurd cc

pub mark_tallied : (c : Config) (m : GreyState) → TallyLaw c (Mark m)
mark_tallied c m rate s at next few before k =
    let n : GreyState = grey_got (extent c) m (s.heap (place_of (grey_want m))) in
    by c rate s m at before k next (grey_step (extent c) m (s.heap (place_of (grey_want m)))) (cond (grey_over n.row) (cond (grey_nothing n.row) LeaveToChangePhase Retry) (Mark n))
    (comes c rate s m at before k next n (grey_over n.row) (grey_nothing n.row)) m.row at.fits.0.row at.part.scans at.part.going at.pays (grey c rate s m at before k next)
