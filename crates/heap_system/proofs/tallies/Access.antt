-- A thread in a command that allocates nothing: the tally has the blocks that its barrier shades,
-- the answer and the next command.
use Rattle.std.proofs.Common.{◌⊎◌, ◌≡◌, ℕ, ◌≤◌, Bool, true, false, eqb, Option, None, Some, is_some, [], ◌∷◌, ◌++◌, refl, sym, ap, ◌∙◌, subst, arith, inl, inr}
use Rattle.std.proofs.lemmas.Bool.{cases_Bool}
use Rattle.block_store.specs.declared.Config.{Config}
use Rattle.block_store.specs.Colours.{black_word}
use Rattle.block_store.specs.Heaps.{Heap}
use Rattle.block_store.specs.Phases.{cycle_of}
use Rattle.block_store.specs.Places.{Phase, PayloadOf, extent}
use Rattle.block_store.specs.Widths.{payloads}
use Rattle.block_store.proofs.Lemmas.{changed_else}
use Rattle.never_heap.specs.RightWork.{requested_units}
use Rattle.never_heap.specs.declared.Entry.{Entry}
use Rattle.never_heap.specs.declared.Reply.{Reply}
use Rattle.never_heap.specs.Histories.{Did}
use Rattle.never_heap.specs.Steps.{step, blocks_of}
use Rattle.never_heap.proofs.Lemmas.{owes_told, step_not_full}
use Rattle.heap_machine.specs.Gating.{Gating, is_outside}
use Rattle.heap_machine.specs.Operations.{CompareExchange, place_of, heap_after}
use Rattle.barrier_steps.specs.Operands.{field_index}
use Rattle.barrier_steps.specs.Walks.{field_at}
use Rattle.heap_machine.specs.declared.Step.{Step}
use Rattle.heap_machine.specs.declared.pass.Pass.{Pass}
use Rattle.grey_steps.specs.declared.rows.GreyRow.{GreyRow}
use Rattle.grey_steps.specs.declared.rows.GreyRow.TheVariants as marks
use Rattle.grey_steps.specs.MarkUnits.{block_stored}
use Rattle.grey_steps.specs.Rows as marking
use Rattle.grey_steps.specs.Rows.{grey_over}
use Rattle.barrier_steps.specs.declared.rows.FieldRow.{FieldRow}
use Rattle.barrier_steps.specs.declared.rows.FieldRow.TheVariants as rows
use Rattle.barrier_steps.specs.declared.rows.FieldStore.{FieldStore}
use Rattle.barrier_steps.specs.declared.rows.FieldStore.TheVariants.{Compared}
use Rattle.barrier_steps.specs.Deciding.{is_deciding}
use Rattle.barrier_steps.specs.Fits.{RowFits}
use Rattle.barrier_steps.specs.Rows.{FieldState, field_reply, field_got, field_step, store_want, row_want, row_got, row_in_hand, in_barrier}
use Rattle.heap_invariant.specs.cycle_tally.Events as events
use Rattle.heap_invariant.specs.cycle_tally.Tallies.{Spending, Tally, made_of}
use Rattle.heap_invariant.proofs.Lemmas.{others_twice, spends_here, spends_twice}
use Rattle.work_account.specs.Accounts.{Balance}
use Rattle.heap_system.specs.Parts.{Access, Leave}
use Rattle.heap_system.specs.Locals.{Open, AsStep, plain, if_decides, if_replied, entry_of, balance_paid}
use Rattle.heap_system.proofs.accounting.Balances.{nothing_paid, all_made, no_idle}
use Rattle.heap_system.proofs.step_rows.IdleLook.{looks}
use Rattle.heap_system.proofs.step_rows.PartLaws.{AtPart}
use Rattle.heap_system.proofs.invariant.SeenAndKept.{Seen}
use Rattle.heap_system.proofs.parts.Mark as mark
use Rattle.heap_system.proofs.accounting.TallyLaw.{IsSpending, Counted, TallyEvent, TallyLaw, Asking, asking, IsNext}
use Rattle.heap_system.proofs.tallies.Mark.{shades}
use Rattle.heap_system.proofs.tallies.Moves.{SameWords, same_words, paid_by, told_none, stays, moves}

-- such a command claims nothing
no_claim : (m : ℕ) (q : Pass) (r : FieldRow) → ((row_in_hand m q r).low ≡ 0) × ((row_in_hand m q r).high ≡ 0)
no_claim m q (rows.Shade r store) = mark.no_claim m r
no_claim m q _ = (refl, refl)

-- no event of the barrier replies
barrier_none : (r : GreyRow) (store : FieldStore) → field_reply (in_barrier r store) ≡ None
barrier_none r store = elim (cases_Bool (grey_over r)) [ inl e ↦ rw e refl | inr e ↦ rw e refl ]

-- a field that is compared is no word that a tally counts
compared : (h : Heap) (x j old v : ℕ) → SameWords h (heap_after h (CompareExchange (PayloadOf x j) old v))
compared h x j old v = elim (cases_Bool (eqb (h (PayloadOf x j)) old)) [
  | inl e ↦ rw e (record { cycle = refl; sweep = refl; cursor = refl; free = refl; colour = λ y. refl })
  | inr e ↦ rw e (same_words h)
]

module _ (c : Config) (rate : ℕ) (s : Seen c) (f : FieldState) (at : AtPart c s (Access f)) (before : Tally) (k : Counted c rate s (Access f) before) (next : Asking) (few : IsNext c next) where
  low : (before.threads s.thread).low ≡ 0
  low = k.own.low ∙ (no_claim (payloads c.width) f.pass f.row).0

  high : (before.threads s.thread).high ≡ 0
  high = k.own.high ∙ (no_claim (payloads c.width) f.pass f.row).1

  -- all that it is told to make is made
  told_made : s.spent ≡ requested_units s.command
  told_made = at.settled ∙ s.owes ∙ owes_told c.width s.rate s.command at.part.serves

  -- it asks for nothing, so nothing is paid
  asks_none : blocks_of c.width s.command ≡ 0
  asks_none = at.part.serves

  pays_none : s.balance.paid ≡ 0
  pays_none = s.account ∙ all_made (requested_units s.command) s.spent told_made

  cycle : f.pass.cycle ≡ cycle_of (s.heap Phase)
  cycle = ap (λ (q : Pass). q.cycle) at.part.passes ∙ ap (λ (x : Gating). x.cycle) (sym at.gating) ∙ (s.gate.passes s.thread s.low (ap (λ (x : Gating). is_outside x.stand) at.gating)).0

  abbrev entry : Entry
  entry = entry_of s.thread s.command s.spent (step s.graph s.thread s.command).1

  decides : events.Decides c s.thread (before.threads s.thread) entry
  decides = record { thread = refl; blocks = sym k.own.asked; requested = sym k.own.requested; work = sym (paid_by c rate s (Access f) before k) }

  answers : events.Guard c rate black_word before (events.Answer s.thread entry)
  answers = (s.low, decides, k.own.asked ∙ asks_none, step_not_full s.graph s.thread s.command, paid_by c rate s (Access f) before k ∙ told_made ∙ sym k.own.requested)

  -- the thread once its command is decided
  abbrev answered : Spending
  answered = record (before.threads s.thread) { idled = 0 }

  asks : requested_units s.command ≡ 0 → events.Guard c rate black_word before (events.Next s.thread next.blocks next.requested)
  asks none = (s.low, omega (arith, low, high), k.own.reserved, paid_by c rate s (Access f) before k ∙ told_made ∙ none, few.blocks, few.apart, few.few)

  asks_then : events.Guard c rate black_word (events.apply c rate black_word before (events.Answer s.thread entry)) (events.Next s.thread next.blocks next.requested)
  asks_then = (
    s.low,
    spends_here (λ v. v.high ≤ v.low) before.threads s.thread answered (omega (arith, low, high)),
    spends_here (λ v. v.reserved ≡ 0) before.threads s.thread answered k.own.reserved,
    spends_here (λ v. made_of v ≡ 0) before.threads s.thread answered (let paid : (before.threads s.thread).balance.paid ≡ s.balance.paid = ap (λ (b : Balance). b.paid) k.own.account in omega (arith, paid, pays_none)),
    few.blocks,
    few.apart,
    few.few,
  )

  module _ (step_is : Step) (n : FieldState) where
    abbrev Goes : Heap → Bool → Option Reply → Type 0
    Goes new b o = TallyEvent c rate s new (record (plain step_is) { reply = o; verdict = if_decides b }) (if_replied o (Access n)) next before

    goes_on : IsSpending c (Access n) s.balance (asking c s.command s.spent) (before.threads s.thread)
    goes_on = record { inside = k.own.inside; account = k.own.account; asked = k.own.asked; requested = k.own.requested; idled = k.own.idled; low = low ∙ sym (no_claim (payloads c.width) n.pass n.row).0; high = high ∙ sym (no_claim (payloads c.width) n.pass n.row).1; reserved = k.own.reserved }

    decided_on : requested_units s.command ≡ 0 → IsSpending c (Access n) s.balance (asking c s.command s.spent) answered
    decided_on none = record { inside = k.own.inside; account = k.own.account; asked = k.own.asked; requested = k.own.requested; idled = sym (no_idle (requested_units s.command) s.spent none); low = low ∙ sym (no_claim (payloads c.width) n.pass n.row).0; high = high ∙ sym (no_claim (payloads c.width) n.pass n.row).1; reserved = k.own.reserved }

    abbrev paid_over : Reply → Balance
    paid_over r = balance_paid (Some r) false (requested_units s.command) (blocks_of c.width s.command) s.balance

    over : (r : Reply) (w : Spending) → w.inside ≡ true → w.balance ≡ s.balance → w.low ≡ 0 → w.high ≡ 0 → w.reserved ≡ 0 → w.idled ≡ 0 → IsSpending c Leave (paid_over r) next (record w { asked = next.blocks; requested = next.requested })
    over r w inside account low high reserved idled = record { inside = inside; account = account ∙ sym (nothing_paid r (blocks_of c.width s.command) s.balance asks_none pays_none); asked = refl; requested = refl; idled = idled ∙ sym few.none; low = low; high = high; reserved = reserved }

    abbrev Same : Heap → Type 0
    Same new = SameWords s.heap new

    -- it goes on
    goes_same : (new : Heap) → Same new → Goes new false None
    goes_same new same = stays c rate s (Access f) before k new (record (plain step_is) { reply = None; verdict = Open }) (Access n) next same refl refl refl goes_on

    -- its command is decided at the event, or not, and has its reply with it, or not
    by_same : (new : Heap) → Same new → (b : Bool) (o : Option Reply) → (requested_units s.command ≡ 0) ⊎ ((b ≡ true) × (is_some o ≡ true)) → Goes new b o
    by_same new same false None why = goes_same new same
    by_same new same true None (inr look) = absurd (let z : false ≡ true = look.1 in cc)
    by_same new same false (Some r) (inr look) = absurd (let z : false ≡ true = look.0 in cc)
    by_same new same true None (inl none) = moves c rate s (Access f) before k (events.Answer s.thread entry ∷ []) (answers, tt) new (record (plain step_is) { reply = None; verdict = AsStep }) (Access n) next
        (record { cycle = k.of.cycle ∙ sym same.cycle; sweep = k.of.sweep ∙ sym same.sweep; cursor = k.of.cursor ∙ sym same.cursor; free = k.of.free ∙ sym same.free; colour = λ x. k.of.colour x ∙ sym (same.colour x); order = ap (λ o. o ++ Did entry ∷ []) k.of.order })
        (spends_here (IsSpending c (Access n) s.balance (asking c s.command s.spent)) before.threads s.thread answered (decided_on none))
        (λ u other. changed_else before.threads s.thread u _ other) (λ x. refl) (λ x. refl) refl
    by_same new same false (Some r) (inl none) = moves c rate s (Access f) before k (events.Next s.thread next.blocks next.requested ∷ []) (asks none, tt) new (record (plain step_is) { reply = Some r; verdict = Open }) Leave next
        (record { cycle = k.of.cycle ∙ sym same.cycle; sweep = k.of.sweep ∙ sym same.sweep; cursor = k.of.cursor ∙ sym same.cursor; free = k.of.free ∙ sym same.free; colour = λ x. k.of.colour x ∙ sym (same.colour x); order = told_none c rate s (Access f) before k (record (plain step_is) { reply = Some r; verdict = Open }) refl refl })
        (spends_here (IsSpending c Leave (paid_over r) next) before.threads s.thread (record (before.threads s.thread) { asked = next.blocks; requested = next.requested })
        (over r (before.threads s.thread) k.own.inside k.own.account low high k.own.reserved (k.own.idled ∙ no_idle (requested_units s.command) s.spent none)))
        (λ u other. changed_else before.threads s.thread u _ other) (λ x. refl) (λ x. refl) refl
    by_same new same true (Some r) why = moves c rate s (Access f) before k (events.Answer s.thread entry ∷ events.Next s.thread next.blocks next.requested ∷ []) (answers, (asks_then, tt)) new (record (plain step_is) { reply = Some r; verdict = AsStep }) Leave next
        (record { cycle = k.of.cycle ∙ sym same.cycle; sweep = k.of.sweep ∙ sym same.sweep; cursor = k.of.cursor ∙ sym same.cursor; free = k.of.free ∙ sym same.free; colour = λ x. k.of.colour x ∙ sym (same.colour x); order = ap (λ o. o ++ Did entry ∷ []) k.of.order })
        (spends_twice (IsSpending c Leave (paid_over r) next) before.threads s.thread answered (λ v. record v { asked = next.blocks; requested = next.requested }) (over r answered k.own.inside k.own.account low high k.own.reserved refl))
        (λ u other. others_twice before.threads s.thread answered _ u other) (λ x. refl) (λ x. refl) refl

    -- a row of the barrier
    by_barrier : (r : GreyRow) → (block_stored r ≡ 0 → ⊥) → Goes (heap_after s.heap (marking.row_want f.pass.thread f.pass.threads f.pass.cycle r)) false None
    by_barrier (marks.TakeOwn y) some = goes_same _ (record { cycle = refl; sweep = refl; cursor = refl; free = refl; colour = λ x. refl })
    by_barrier (marks.ShadeStored y a) some = shades c rate s (Access f) before k next y a f.pass.cycle cycle (record (plain step_is) { reply = None; verdict = Open }) refl refl refl (Access n) goes_on
    by_barrier (marks.PutOwn y a) some = goes_same _ (record { cycle = refl; sweep = refl; cursor = refl; free = refl; colour = λ x. refl })
    by_barrier (marks.Shaded y) some = goes_same _ (same_words s.heap)
    by_barrier _ some = absurd (some refl)

    abbrev read : FieldRow → ℕ
    read r = s.heap (place_of (row_want (extent c) f.pass f.command r))

    abbrev GoesFrom : FieldRow → Type 0
    GoesFrom r = Goes (heap_after s.heap (row_want (extent c) f.pass f.command r)) (is_deciding f.command r (read r)) (field_reply (row_got (extent c) f.pass f.command r (read r)))

    -- it is told of no units, or the row decides and replies
    abbrev Why : FieldRow → Type 0
    Why r = (requested_units s.command ≡ 0) ⊎ ((is_deciding f.command r (read r) ≡ true) × (is_some (field_reply (row_got (extent c) f.pass f.command r (read r))) ≡ true))

    same : (r : FieldRow) → SameWords s.heap (heap_after s.heap (row_want (extent c) f.pass f.command r)) → Why r → GoesFrom r
    same r words = by_same (heap_after s.heap (row_want (extent c) f.pass f.command r)) words (is_deciding f.command r (read r)) (field_reply (row_got (extent c) f.pass f.command r (read r)))

    stored : (store : FieldStore) → SameWords s.heap (heap_after s.heap (store_want (extent c) f.pass.thread f.command store))
    stored (Compared way word) = compared s.heap way.block (field_at (extent c) way.shape (field_index f.command)) way.expected word
    stored _ = record { cycle = refl; sweep = refl; cursor = refl; free = refl; colour = λ x. refl }

    by : (r : FieldRow) → RowFits c f.pass f.command r → Why r → GoesFrom r
    by (rows.Shade r store) fits why = subst (λ o. Goes (heap_after s.heap (marking.row_want f.pass.thread f.pass.threads f.pass.cycle r)) false o) (sym (barrier_none _ store))
        (by_barrier r (λ none. fits.0.refers (sym fits.0.stores ∙ none)))
    by (rows.Store store) fits why = same (rows.Store store) (stored store) why
    by rows.StoreConstant fits why = same rows.StoreConstant (record { cycle = refl; sweep = refl; cursor = refl; free = refl; colour = λ x. refl }) why
    by r fits why = same r (same_words s.heap) why

pub serve_tallied : (c : Config) (f : FieldState) → TallyLaw c (Access f)
serve_tallied c f rate s at next few before k =
    let w : ℕ = s.heap (place_of (row_want (extent c) f.pass f.command f.row)) in
    by c rate s f at before k next few (field_step (extent c) f w) (field_got (extent c) f w) f.row at.fits.0.row (elim (looks c f.pass f.command f.row w at.fits.0.belongs at.part.going) [
      | inl none ↦ inl (ap requested_units (sym at.part.command) ∙ none)
      | inr look ↦ inr (look.decides, ap is_some look.replied)
    ])
