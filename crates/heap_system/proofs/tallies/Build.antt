-- A thread that builds: the tally has its reservation, the blocks that it makes black, and the
-- object that it publishes or the refusal.
use Rattle.std.proofs.Common.{◌≡◌, ℕ, ◌+◌, ◌-◌, ◌*◌, ◌<◌, ◌≤◌, max, Bool, true, false, ◌&&◌, cond, eqb, ltb, eqb-true, ltb-true, None, Some, List, [], ◌∷◌, ◌++◌, length, refl, sym, ap, ◌∙◌, subst, arith, inl, inr}
use Rattle.std.proofs.lemmas.Bool.{cases_Bool, cases_eq}
use Rattle.block_store.specs.declared.Config.{Config}
use Rattle.block_store.specs.declared.Width.{Width}
use Rattle.block_store.specs.Colours.{link, black_word}
use Rattle.block_store.specs.Heaps.{Heap, put_at}
use Rattle.block_store.specs.Places.{FreeCount, ColourOf}
use Rattle.block_store.specs.Widths.{payloads}
use Rattle.block_store.proofs.Lemmas.{changed_else}
use Rattle.never_heap.specs.RightWork.{requested_units}
use Rattle.never_heap.specs.declared.Entry.{Entry}
use Rattle.never_heap.specs.declared.Reply.{Reply}
use Rattle.never_heap.specs.declared.Reply.TheVariants as replies
use Rattle.never_heap.specs.Graphs.{next_name}
use Rattle.never_heap.specs.Histories.{Did, is_full}
use Rattle.never_heap.specs.Steps.{step, blocks_of}
use Rattle.never_heap.specs.Taken.{blocks_if_new}
use Rattle.never_heap.proofs.Lemmas.{blocks_answer, blocks_untold}
use Rattle.heap_machine.specs.Gating.{Gating, is_outside}
use Rattle.heap_machine.specs.Operations.{place_of, heap_after}
use Rattle.heap_machine.specs.declared.Step.{Step}
use Rattle.build_steps.specs.declared.rows.BuildRow.{BuildRow}
use Rattle.build_steps.specs.declared.rows.BuildRow.TheVariants as rows
use Rattle.build_steps.specs.LinearizationPoints.{is_counting, is_publishing}
use Rattle.build_steps.specs.Fits.{RowFits}
use Rattle.build_steps.specs.Naming.{is_building, row_build, built_object}
use Rattle.build_steps.specs.Rows.{BuildState, row_want, row_got, row_step, row_reply, row_in_hand, held_got, built_at, after_take, after_collect, after_last, after_payload, after_colour, build_over, full_cycle}
use Rattle.build_steps.specs.Standing.{left_of, begun_of}
use Rattle.build_steps.proofs.Parts.{has_blocks}
use Rattle.build_steps.proofs.Shapes.{made_blocks}
use Rattle.work_account.specs.Accounts.{published, refused}
use Rattle.heap_invariant.specs.cycle_tally.Events as events
use Rattle.heap_invariant.specs.cycle_tally.Tallies.{Spending, Tally, made_of}
use Rattle.heap_invariant.proofs.Lemmas.{others_twice, spends_here, spends_twice}
use Rattle.heap_system.specs.Parts.{Build, Leave}
use Rattle.heap_system.specs.Locals.{Open, AsStep, Refused, plain, if_decides, if_replied, entry_of, idle_part}
use Rattle.heap_system.proofs.accounting.Balances.{no_idle}
use Rattle.heap_system.specs.Naming.{Same, Made}
use Rattle.heap_system.proofs.step_rows.PartLaws.{AtPart}
use Rattle.heap_system.proofs.invariant.SeenAndKept.{Seen}
use Rattle.heap_system.proofs.parts.Build.{row_no_reply}
use Rattle.heap_system.proofs.accounting.TallyLaw.{IsSpending, Counted, TallyEvent, TallyLaw, reserved_for, Asking, asking, IsNext}
use Rattle.heap_system.proofs.tallies.Moves.{SameWords, same_words, paid_by, told_none, stays, moves}

-- a builder claims nothing
no_claim : (k : ℕ) (held : List ℕ) (r : BuildRow) → ((row_in_hand k held r).low ≡ 0) × ((row_in_hand k held r).high ≡ 0)
no_claim k held (rows.TakeFree u) = (refl, refl)
no_claim k held _ = (refl, refl)

-- while it is at work it has reserved all blocks of its command
row_reserved : (w : Width) (b : BuildState) → 1 ≤ blocks_of w b.command → (r : BuildRow) → reserved_for w (row_build w b r) ≡ cond (is_building r) (blocks_of w b.command) 0
row_reserved w b some r = by (is_building r)
  where
    by : (x : Bool) → reserved_for w (cond x (Some (built_object b (left_of b.blocks r) (begun_of (payloads w) r))) None) ≡ cond x (blocks_of w b.command) 0
    by true = made_blocks w b.command some
    by false = refl

-- the rows of which the part goes on, before its blocks are reserved or after that
abbrev IsOn : BuildRow → Bool → Type 0
IsOn r building = (build_over r ≡ false) × (is_building r ≡ building)

take_on : (n u v : ℕ) → IsOn (after_take n u v) true
take_on n u v = elim (cases_Bool (eqb v 0)) [ inl e ↦ rw e (refl, refl) | inr e ↦ rw e (refl, refl) ]

last_on : (k list : ℕ) → IsOn (after_last k list) true
last_on k list = elim (cases_Bool (eqb list 0)) [ inl e ↦ rw e (refl, refl) | inr e ↦ rw e (refl, refl) ]

collect_on : (k n count list u : ℕ) → IsOn (after_collect k n count list u) true
collect_on k n count list u = elim (cases_Bool (eqb count k)) [
  | inl e ↦ rw e (last_on k list)
  | inr e ↦ elim (cases_Bool (eqb list 0)) [ inl z ↦ rw (e, z) (refl, refl) | inr z ↦ rw (e, z) (refl, refl) ]
]

payload_on : (many o j : ℕ) → IsOn (after_payload many o j) true
payload_on many o j = elim (cases_Bool (ltb (j + 1) many)) [ inl e ↦ rw e (refl, refl) | inr e ↦ rw e (refl, refl) ]

colour_on : (o : ℕ) → IsOn (after_colour o) true
colour_on o = elim (cases_Bool (eqb o 0)) [ inl e ↦ rw e (refl, refl) | inr e ↦ rw e (refl, refl) ]

-- a full names the cycle before, and in the first that one
full_is : (z : ℕ) → 1 ≤ z → full_cycle z ≡ max 1 (z - 1)
full_is z some = elim (cases_Bool (eqb z 1)) [
  | inl e ↦ let one : z ≡ 1 = eqb-true z 1 e in rw e (omega arith)
  | inr e ↦ elim (cases_eq z 1) [
    | inl one ↦ absurd (let t : true ≡ false = sym (ap (λ n. eqb n 1) one) ∙ e in cc)
    | inr more ↦ rw e (omega arith)
  ]
]

module _ (c : Config) (rate : ℕ) (s : Seen c) (b : BuildState) (at : AtPart c s (Build b)) (before : Tally) (k : Counted c rate s (Build b) before) (next : Asking) (few : IsNext c next) where
  abbrev asked : ℕ
  asked = blocks_of c.width s.command

  size : b.blocks ≡ asked
  size = at.fits.0.size ∙ ap (blocks_of c.width) at.part.command

  asks : blocks_of c.width b.command ≡ asked
  asks = ap (blocks_of c.width) at.part.command

  low : (before.threads s.thread).low ≡ 0
  low = k.own.low ∙ (no_claim b.blocks b.held b.row).0

  high : (before.threads s.thread).high ≡ 0
  high = k.own.high ∙ (no_claim b.blocks b.held b.row).1

  cycle : b.cycle ≡ before.cycle
  cycle = at.part.cycle ∙ ap (λ (x : Gating). x.cycle) (sym at.gating) ∙ (s.gate.passes s.thread s.low (ap (λ (x : Gating). is_outside x.stand) at.gating)).0 ∙ sym k.of.cycle

  asks_some : 1 ≤ blocks_of c.width s.command
  asks_some = subst (λ k. 1 ≤ blocks_of c.width k) at.part.command (has_blocks c b at.fits.0)

  -- all is paid
  untold : requested_units s.command ≡ 0
  untold = blocks_untold c.width s.command asks_some

  idled_none : (before.threads s.thread).idled ≡ 0
  idled_none = k.own.idled ∙ no_idle (requested_units s.command) s.spent untold

  paid_all : events.IsAllPaid rate (before.threads s.thread)
  paid_all =
      let price : rate * (before.threads s.thread).asked ≡ rate * blocks_of c.width s.command = ap (λ n. rate * n) k.own.asked in
      record { paid = omega (arith, price, paid_by c rate s (Build b) before k, idled_none, at.settled, k.due, untold); untold = k.own.requested ∙ untold }

  -- a part that goes on, and has so much reserved
  spends : (later : BuildState) → later.command ≡ b.command → (x : Bool) → is_building later.row ≡ x → (w : Spending) → w.inside ≡ true → w.balance ≡ s.balance → w.asked ≡ asked → w.requested ≡ requested_units s.command → w.idled ≡ idle_part (requested_units s.command) s.spent → w.low ≡ 0 → w.high ≡ 0 → w.reserved ≡ cond x asked 0 → IsSpending c (Build later) s.balance (asking c s.command s.spent) w
  spends later same x builds w inside paid asks_ tells idles low high reserved = record {
    inside = inside;
    account = paid;
    asked = asks_;
    requested = tells;
    idled = idles;
    low = low ∙ sym (no_claim later.blocks later.held later.row).0;
    high = high ∙ sym (no_claim later.blocks later.held later.row).1;
    reserved = reserved ∙ ap (λ n. cond x n 0) (sym asks ∙ ap (blocks_of c.width) (sym same)) ∙ ap (λ y. cond y (blocks_of c.width later.command) 0) (sym builds) ∙ sym (row_reserved c.width later (subst (λ k. 1 ≤ blocks_of c.width k) (sym same) (has_blocks c b at.fits.0)) later.row);
  }

  -- an event that decides nothing, after which the part goes on
  abbrev Goes : Heap → Step → BuildState → Type 0
  Goes new step later = TallyEvent c rate s new (record (plain step) { reply = row_reply later later.row; verdict = Open; naming = Same }) (if_replied (row_reply later later.row) (Build later)) next before

  goes : (new : Heap) (step : Step) (later : BuildState) → build_over later.row ≡ false → TallyEvent c rate s new (record (plain step) { reply = None; verdict = Open; naming = Same }) (Build later) next before → Goes new step later
  goes new step later going event = subst (λ o. TallyEvent c rate s new (record (plain step) { reply = o; verdict = Open; naming = Same }) (if_replied o (Build later)) next before) (sym (row_no_reply later later.row going)) event

  -- nothing of it counts
  quiet : (new : Heap) → SameWords s.heap new → (step : Step) (later : BuildState) → later.command ≡ b.command → (x : Bool) → (before.threads s.thread).reserved ≡ cond x asked 0 → IsOn later.row x → Goes new step later
  quiet new same step later own x reserved on = goes new step later on.0 (stays c rate s (Build b) before k new (record (plain step) { reply = None; verdict = Open; naming = Same }) (Build later) next same refl refl refl
      (spends later own x on.1 (before.threads s.thread) k.own.inside k.own.account k.own.asked k.own.requested k.own.idled low high reserved))

  -- the reservation, won or lost
  reserving : (seen : ℕ) (won : Bool) → eqb (s.heap FreeCount) seen ≡ won → b.blocks ≤ seen → (before.threads s.thread).reserved ≡ 0 → (step : Step) → Goes (cond won (put_at s.heap FreeCount (seen - b.blocks)) s.heap) step (record b { row = cond won (rows.TakeFree 0) rows.ReadCount })
  reserving seen true is enough none step =
      let w : Spending = before.threads s.thread in
      let new : Spending = record w { reserved = w.asked } in
      let later : BuildState = record b { row = rows.TakeFree 0 } in
      let seen_is : s.heap FreeCount ≡ seen = eqb-true (s.heap FreeCount) seen is in
      goes _ step later refl (moves c rate s (Build b) before k (events.Reserve s.thread ∷ []) ((s.low, k.own.inside, none, paid_all, omega (arith, k.own.asked, size, enough, seen_is, k.of.free)), tt)
      (put_at s.heap FreeCount (seen - b.blocks)) (record (plain step) { reply = None; verdict = Open; naming = Same }) (Build later) next
      (record { cycle = k.of.cycle; sweep = k.of.sweep; cursor = k.of.cursor; free = omega (arith, k.own.asked, size, seen_is, k.of.free); colour = k.of.colour; order = told_none c rate s (Build b) before k (record (plain step) { reply = None; verdict = Open; naming = Same }) refl refl })
      (spends_here (IsSpending c (Build later) s.balance (asking c s.command s.spent)) before.threads s.thread new (spends later refl true refl new k.own.inside k.own.account k.own.asked k.own.requested k.own.idled low high k.own.asked))
      (λ u other. changed_else before.threads s.thread u new other) (λ x. refl) (λ x. refl) refl)
  reserving seen false is enough none step = quiet s.heap (same_words s.heap) step (record b { row = rows.ReadCount }) refl false none (refl, refl)

  abbrev entry : Reply → Entry
  entry r = entry_of s.thread s.command s.spent r

  decides : (r : Reply) → events.Decides c s.thread (before.threads s.thread) (entry r)
  decides r = record { thread = refl; blocks = sym k.own.asked; requested = sym k.own.requested; work = sym (paid_by c rate s (Build b) before k) }

  -- too few blocks are free
  refuses : s.heap FreeCount < b.blocks → (before.threads s.thread).reserved ≡ 0 → (step : Step) → TallyEvent c rate s s.heap (record (plain step) { reply = Some (replies.Full (full_cycle b.cycle)); verdict = Refused (replies.Full (full_cycle b.cycle)); naming = Same }) Leave next before
  refuses less none step =
      let w : Spending = before.threads s.thread in
      let r : Reply = replies.Full (full_cycle b.cycle) in
      let new : Spending = record w { balance = refused w.balance } in
      moves c rate s (Build b) before k (events.Refuse s.thread (entry r) ∷ events.Next s.thread next.blocks next.requested ∷ []) (
        (s.low, k.own.inside, omega (arith, low, high), decides r, none, paid_all, omega (arith, k.own.asked, size, less, k.of.free), ap replies.Full (full_is b.cycle (omega (arith, cycle, k.kept.some)) ∙ ap (λ z. max 1 (z - 1)) cycle)),
        ((s.low, spends_here (λ v. v.high ≤ v.low) before.threads s.thread new (omega (arith, low, high)), spends_here (λ v. v.reserved ≡ 0) before.threads s.thread new none, spends_here (λ v. made_of v ≡ 0) before.threads s.thread new (omega (arith, idled_none)), few.blocks, few.apart, few.few), tt),
      )
      s.heap (record (plain step) { reply = Some r; verdict = Refused r; naming = Same }) Leave next
      (record { cycle = k.of.cycle; sweep = k.of.sweep; cursor = k.of.cursor; free = k.of.free; colour = k.of.colour; order = ap (λ o. o ++ Did (entry r) ∷ []) k.of.order })
      (spends_twice (IsSpending c Leave (refused s.balance) next) before.threads s.thread new (λ v. record v { asked = next.blocks; requested = next.requested }) (record { inside = k.own.inside; account = ap refused k.own.account; asked = refl; requested = refl; idled = idled_none ∙ sym few.none; low = low; high = high; reserved = none }))
      (λ u other. others_twice before.threads s.thread new _ u other) (λ x. refl) (λ x. refl) refl

  -- the object is published
  publishes : (new : Heap) → SameWords s.heap new → (before.threads s.thread).reserved ≡ asked → (step_is : Step) → (name : _) → TallyEvent c rate s new (record (plain step_is) { reply = Some (replies.New name); verdict = AsStep; naming = Made (built_at b) }) Leave next before
  publishes new same all step_is name =
      let w : Spending = before.threads s.thread in
      let r : Reply = (step s.graph s.thread s.command).1 in
      let made : r ≡ replies.New (next_name s.graph s.thread) = blocks_answer c.width s.graph s.thread s.command asks_some in
      let later : Spending = record w { reserved = 0; balance = published w.asked w.balance } in
      moves c rate s (Build b) before k (events.Publish s.thread (entry r) ∷ events.Next s.thread next.blocks next.requested ∷ []) (
        (s.low, k.own.inside, omega (arith, low, high), decides r, all ∙ sym k.own.asked, paid_all, ap (λ x. blocks_if_new x asked) made ∙ sym k.own.asked, ap is_full made),
        ((s.low, spends_here (λ v. v.high ≤ v.low) before.threads s.thread later (omega (arith, low, high)), spends_here (λ v. v.reserved ≡ 0) before.threads s.thread later refl, spends_here (λ v. made_of v ≡ 0) before.threads s.thread later (omega (arith, idled_none)), few.blocks, few.apart, few.few), tt),
      )
      new (record (plain step_is) { reply = Some (replies.New name); verdict = AsStep; naming = Made (built_at b) }) Leave next
      (record { cycle = k.of.cycle ∙ sym same.cycle; sweep = k.of.sweep ∙ sym same.sweep; cursor = k.of.cursor ∙ sym same.cursor; free = k.of.free ∙ sym same.free; colour = λ x. k.of.colour x ∙ sym (same.colour x); order = ap (λ o. o ++ Did (entry r) ∷ []) k.of.order })
      (spends_twice (IsSpending c Leave (published asked s.balance) next) before.threads s.thread later (λ v. record v { asked = next.blocks; requested = next.requested }) (record { inside = k.own.inside; account = λ i. published (k.own.asked i) (k.own.account i); asked = refl; requested = refl; idled = idled_none ∙ sym few.none; low = low; high = high; reserved = refl }))
      (λ u other. others_twice before.threads s.thread later _ u other) (λ x. refl) (λ x. refl) refl

  -- a block becomes black
  blackens : (x : ℕ) (step : Step) (later : BuildState) → later.command ≡ b.command → (before.threads s.thread).reserved ≡ asked → IsOn later.row true → Goes (put_at s.heap (ColourOf x) (black_word b.cycle)) step later
  blackens x step later own all on = goes _ step later on.0 (moves c rate s (Build b) before k (events.Paint x (black_word b.cycle) ∷ []) ((λ mark black. ap black_word cycle), tt)
      (put_at s.heap (ColourOf x) (black_word b.cycle)) (record (plain step) { reply = None; verdict = Open; naming = Same }) (Build later) next
      (record { cycle = k.of.cycle; sweep = k.of.sweep; cursor = k.of.cursor; free = k.of.free; colour = λ y. (λ i. cond (eqb x y) (black_word b.cycle) (k.of.colour y i)); order = told_none c rate s (Build b) before k (record (plain step) { reply = None; verdict = Open; naming = Same }) refl refl })
      (spends later own true on.1 (before.threads s.thread) k.own.inside k.own.account k.own.asked k.own.requested k.own.idled low high all) (λ u other. refl) (λ x. refl) (λ x. refl) refl)

  -- the free count was read
  counting : (less : Bool) → ltb (s.heap FreeCount) b.blocks ≡ less → (before.threads s.thread).reserved ≡ 0 → (later : BuildState) → later ≡ record b { row = cond less rows.Refused (rows.Reserve (s.heap FreeCount)) } → (step : Step)
      → TallyEvent c rate s s.heap (record (plain step) { reply = row_reply later later.row; verdict = cond less (Refused (replies.Full (full_cycle b.cycle))) Open; naming = Same }) (if_replied (row_reply later later.row) (Build later)) next before
  counting true is none later from step = subst (λ (l : BuildState). TallyEvent c rate s s.heap (record (plain step) { reply = row_reply l l.row; verdict = Refused (replies.Full (full_cycle b.cycle)); naming = Same }) (if_replied (row_reply l l.row) (Build l)) next before) (sym from)
      (refuses (ltb-true (s.heap FreeCount) b.blocks is) none step)
  counting false is none later from step = subst (λ (l : BuildState). TallyEvent c rate s s.heap (record (plain step) { reply = row_reply l l.row; verdict = Open; naming = Same }) (if_replied (row_reply l l.row) (Build l)) next before) (sym from)
      (quiet s.heap (same_words s.heap) step (record b { row = rows.Reserve (s.heap FreeCount) }) refl false none (refl, refl))

  abbrev read : BuildRow → ℕ
  read r = s.heap (place_of (row_want c.width b r))

  abbrev later_at : BuildRow → BuildState
  later_at r = record b { held = held_got b.held r; row = row_got c.width b r (read r) }

  by : (r : BuildRow) → RowFits c b.blocks b.held r → build_over r ≡ false → (before.threads s.thread).reserved ≡ cond (is_building r) asked 0
      → TallyEvent c rate s (heap_after s.heap (row_want c.width b r)) (record (plain (row_step b r (read r))) {
        reply = row_reply (later_at r) (later_at r).row;
        verdict = cond (is_counting r && ltb (read r) b.blocks) (Refused (replies.Full (full_cycle b.cycle))) (if_decides (is_publishing r));
        naming = cond (is_publishing r) (Made (built_at b)) Same;
      }) (if_replied (row_reply (later_at r) (later_at r).row) (Build (later_at r))) next before
  by rows.ReadCount fits going reserved = counting (ltb (s.heap FreeCount) b.blocks) refl reserved (later_at rows.ReadCount) refl (row_step b rows.ReadCount (s.heap FreeCount))
  by (rows.Reserve seen) fits going reserved = reserving seen (eqb (s.heap FreeCount) seen) refl fits.1 reserved (row_step b (rows.Reserve seen) (s.heap FreeCount))
  by (rows.TakeFree u) fits going reserved = quiet _ (record { cycle = refl; sweep = refl; cursor = refl; free = refl; colour = λ x. refl }) _ (later_at (rows.TakeFree u)) refl true reserved (take_on b.threads u (read (rows.TakeFree u)))
  by (rows.Collect a u) fits going reserved = quiet _ (same_words s.heap) _ (later_at (rows.Collect a u)) refl true reserved (collect_on b.blocks b.threads (length b.held + 1) (link (read (rows.Collect a u))) u)
  by (rows.PutRest a) fits going reserved = quiet _ (record { cycle = refl; sweep = refl; cursor = refl; free = refl; colour = λ x. refl }) _ (later_at (rows.PutRest a)) refl true reserved (refl, refl)
  by (rows.WriteOwner o) fits going reserved = quiet _ (record { cycle = refl; sweep = refl; cursor = refl; free = refl; colour = λ x. refl }) _ (later_at (rows.WriteOwner o)) refl true reserved (refl, refl)
  by (rows.WriteShape o) fits going reserved = quiet _ (record { cycle = refl; sweep = refl; cursor = refl; free = refl; colour = λ x. refl }) _ (later_at (rows.WriteShape o)) refl true reserved (refl, refl)
  by (rows.WritePayload o j) fits going reserved = quiet _ (record { cycle = refl; sweep = refl; cursor = refl; free = refl; colour = λ x. refl }) _ (later_at (rows.WritePayload o j)) refl true reserved (payload_on (payloads c.width) o j)
  by (rows.WriteColour o) fits going reserved = blackens (built_at b o) _ (later_at (rows.WriteColour o)) refl reserved (colour_on o)
  by rows.Publish fits going reserved = publishes _ (record { cycle = refl; sweep = refl; cursor = refl; free = refl; colour = λ x. refl }) reserved _ _
  by rows.Built fits going reserved = absurd (let z : true ≡ false = going in cc)
  by rows.Refused fits going reserved = absurd (let z : true ≡ false = going in cc)

pub build_tallied : (c : Config) (b : BuildState) → TallyLaw c (Build b)
build_tallied c b rate s at next few before k = by c rate s b at before k next few b.row at.fits.0.row at.part.going
    (k.own.reserved ∙ row_reserved c.width b (has_blocks c b at.fits.0) b.row ∙ ap (λ n. cond (is_building b.row) n 0) (ap (blocks_of c.width) at.part.command))
