-- One event of a pass that pays, where its row is in hand: what the thread is after it.
use Rattle.std.proofs.Common.{◌≡◌, ℕ, ◌+◌, ◌-◌, ◌<◌, ◌≤◌, Bool, true, false, not, cond, None, [], length, append-nil, refl, sym, ap, ◌∙◌, subst, arith}
use Rattle.std.specs.Vec.{vec_capacity}
use Rattle.block_store.specs.declared.Config.{Config}
use Rattle.block_store.specs.Phases.{bit}
use Rattle.block_store.specs.Places.{extent}
use Rattle.heap_machine.specs.declared.Outcome.{Outcome}
use Rattle.heap_machine.specs.declared.Step.{Step}
use Rattle.heap_machine.specs.declared.Step.TheVariants as steps
use Rattle.heap_machine.specs.declared.op.Op.{Op}
use Rattle.heap_machine.specs.Memories.{Acts}
use Rattle.grey_steps.specs.Fits.{GreyFits}
use Rattle.grey_steps.specs.MarkUnits.{is_blackening, grey_outcome}
use Rattle.grey_steps.specs.Rows.{GreyState, grey_got, grey_step, grey_over, grey_nothing, grey_unit}
use Rattle.sweep_steps.specs.Fits.{SweepFits}
use Rattle.sweep_steps.specs.SweepUnits.{sweep_outcome}
use Rattle.sweep_steps.specs.Rows.{SweepState, sweep_got, sweep_over, sweep_nothing}
use Rattle.never_heap.specs.RightWork.{units_owed, requested_units}
use Rattle.work_account.specs.Accounts.{AccountState}
use Rattle.heap_system.specs.declared.local.Local.TheInside.{Inside}
use Rattle.heap_system.specs.declared.Turn.{Turn}
use Rattle.heap_system.specs.declared.Turn.TheVariants.{Went}
use Rattle.heap_system.specs.Parts.{Part, Mark, Sweep, Retry, LeaveToChangePhase}
use Rattle.heap_system.specs.declared.rows.Row.{Row}
use Rattle.heap_system.specs.declared.rows.Row.TheVariants as rows
use Rattle.heap_system.specs.ThreadMemories.{goes_on, HasRunIn, MayRun}
use Rattle.heap_system.specs.Locals.{LocalState, IsAllMade, IsLocal, IsPassAt, IsRoomy, PartFits, command_behind, is_done, op_wanted, balance_on, spent_got, command_of, if_over, is_last, local_got, owed, part_step, turn_of, unit_to_come}
use Rattle.heap_system.proofs.accounting.OwedAndPaid.{part_of, view_of, swept_last}
use Rattle.heap_system.proofs.accounting.UnitMade.{counted_local, mark_owes, over_local, over_part, swept_fits, swept_owes, ties}
use Rattle.heap_system.proofs.work.EventsInARow.{Goes, going_in, more_ends, more_goes}

-- a step that goes on and does not end its part is one that went
marked_last : (over : Bool) → is_last (cond over steps.Over steps.Went) ≡ over
marked_last true = refl
marked_last false = refl

-- what an event is told that counts a unit or none
module _ (i : Inside) (w : ℕ) (a : AccountState) (told spent : ℕ) (o : Outcome)
    (counts : a ≡ record i.account { balance = balance_on o.unit told i.account.balance })
    (reads : told ≡ requested_units (command_of (view_of i)))
    (makes : spent ≡ spent_got None o.unit i.spent) where
  -- a Mark pass, whose next part is p
  pub marked : (m n : GreyState) (x : Config) → x ≡ i.config → part_of i ≡ Mark m
      → n ≡ grey_got (extent x) m w → o ≡ grey_outcome (extent x) m w → (p : Part)
      → p ≡ if_over (is_last o.step) (grey_nothing n.row) (Mark n)
      → record (view_of i) { balance = a.balance; spent = spent; part = p } ≡ local_got (view_of i) w
  marked m n x same at got was p next =
      let unit : o.unit ≡ is_blackening m.row = ap (λ (y : Outcome). y.unit) was in
      let goes : n ≡ grey_got (extent i.config) m w =
      got ∙ ap (λ y. grey_got (extent y) m w) same in
      let last : is_last o.step ≡ grey_over (grey_got (extent i.config) m w).row =
      ap (λ (y : Outcome). is_last y.step) was ∙ marked_last (grey_over (grey_got (extent x) m w).row)
      ∙ ap (λ y. grey_over (grey_got (extent y) m w).row) same in
      (λ j. record (view_of i) { balance = (counts j).balance; spent = makes j; part = next j })
      ∙ (λ j. record (view_of i) {
        log = sym (append-nil i.log.items) j;
        balance = balance_on (unit j) (reads j) i.account.balance;
        spent = spent_got None (unit j) i.spent;
        part = if_over (last j) (grey_nothing (goes j).row) (Mark (goes j));
      })
      ∙ sym (ap (λ q. local_got (record (view_of i) { part = q }) w) at)

  -- a Sweep pass
  pub swept : (s n : SweepState) → part_of i ≡ Sweep s → n ≡ sweep_got s w → o ≡ sweep_outcome s w
      → (p : Part) → p ≡ if_over (is_last o.step) (sweep_nothing n.row) (Sweep n)
      → record (view_of i) { balance = a.balance; spent = spent; part = p } ≡ local_got (view_of i) w
  swept s n at got was p next =
      let unit = ap (λ (y : Outcome). y.unit) was in
      let last : is_last o.step ≡ sweep_over (sweep_got s w).row =
      ap (λ (y : Outcome). is_last y.step) was ∙ swept_last s w in
      (λ j. record (view_of i) { balance = (counts j).balance; spent = makes j; part = next j })
      ∙ (λ j. record (view_of i) {
        log = sym (append-nil i.log.items) j;
        balance = balance_on (unit j) (reads j) i.account.balance;
        spent = spent_got None (unit j) i.spent;
        part = if_over (last j) (sweep_nothing (got j).row) (Sweep (got j));
      })
      ∙ sym (ap (λ q. local_got (record (view_of i) { part = q }) w) at)

-- what its turn was
pub mark_turn : (i : Inside) (m : GreyState) (x : Config) (w : ℕ) (o : Outcome) (turn : Turn)
    → x ≡ i.config → part_of i ≡ Mark m → o ≡ grey_outcome (extent x) m w → turn ≡ turn_of o.step
    → turn ≡ turn_of (part_step i.config (part_of i) w)
mark_turn i m x w o turn same at was is =
    is ∙ ap (λ (y : Outcome). turn_of y.step) was
    ∙ ap (λ y. turn_of (grey_step (extent y) m w)) same
    ∙ sym (ap (λ p. turn_of (part_step i.config p w)) at)

pub sweep_turn : (i : Inside) (s : SweepState) (w : ℕ) (o : Outcome) (turn : Turn)
    → part_of i ≡ Sweep s → o ≡ sweep_outcome s w → turn ≡ turn_of o.step
    → turn ≡ turn_of (part_step i.config (part_of i) w)
sweep_turn i s w o turn at was is =
    is ∙ ap (λ (y : Outcome). turn_of y.step) was
    ∙ sym (ap (λ p. turn_of (part_step i.config p w)) at)

-- a step of marking that is not the last
pub mark_goes : (m : GreyState) (x : Config) (w : ℕ) (o : Outcome) → o ≡ grey_outcome (extent x) m w
    → is_last o.step ≡ false → goes_on o.step ≡ true
mark_goes m x w o was on =
    ap (λ (y : Outcome). goes_on y.step) was
    ∙ here (grey_over (grey_got (extent x) m w).row) (sym (ap (λ (y : Outcome). is_last y.step) was) ∙ on)
  where
    here : (b : Bool) → is_last (cond b steps.Over steps.Went) ≡ false
        → goes_on (cond b steps.Over steps.Went) ≡ true
    here true e = absurd cc
    here false e = refl

-- the units that a Mark pass owes after its event
pub marks_owe : (i : Inside) (k : IsLocal (view_of i)) (m n : GreyState) (x : Config) (w : ℕ)
    (o : Outcome) → part_of i ≡ Mark m → n ≡ grey_got (extent x) m w → o ≡ grey_outcome (extent x) m w
    → i.spent + bit o.unit + bit (not (grey_unit n.row)) ≤ owed (view_of i)
marks_owe i k m n x w o at got was =
    mark_owes (extent x) m n w o.unit got (ap (λ (y : Outcome). y.unit) was) i.spent
    (owed (view_of i))
    (subst (λ p. i.spent + unit_to_come i.config p ≤ owed (view_of i)) at k.paid)

-- what it fits
pub mark_fits : (i : Inside) (k : IsLocal (view_of i)) (m : GreyState) → part_of i ≡ Mark m
    → PartFits i.config (length i.log.items) (length i.trace.items) i.pass (Mark m)
mark_fits i k m at =
    subst (λ p. PartFits i.config (length i.log.items) (length i.trace.items) i.pass p) at k.part

-- a step that goes on
pub went_on : (s : Step) → goes_on s ≡ true → (is_last s ≡ false) × (Went ≡ turn_of s)
went_on steps.Went e = (refl, refl)
went_on _ e = absurd cc

-- a row after this step, as the code keeps it
pub behind_at : (i : Inside) (last none : Bool) (row r : Row) (q : Part)
    → r ≡ cond last (cond none rows.LeaveToChangePhase rows.Retry) row → over_part i row ≡ q
    → over_part i r ≡ if_over last none q
behind_at i last none row r q is at = ap (over_part i) is ∙ by last none
  where
    by : (b c : Bool) → over_part i (cond b (cond c rows.LeaveToChangePhase rows.Retry) row) ≡ if_over b c q
    by true true = refl
    by true false = refl
    by false c = at

-- a part that is over or goes on
pub behind_local : (l : LocalState) (last none : Bool) (p q : Part) → p ≡ if_over last none q
    → IsLocal (record l { part = LeaveToChangePhase }) → IsLocal (record l { part = Retry })
    → IsLocal (record l { part = q }) → IsLocal (record l { part = p })
behind_local l last none p q is idle again goes =
    subst (λ x. IsLocal (record l { part = x })) (sym is) (by last none)
  where
    by : (b c : Bool) → IsLocal (record l { part = if_over b c q })
    by true true = idle
    by true false = again
    by false c = goes

-- A thread that has counted, and has come to this part.
abbrev pub counted : Inside → AccountState → ℕ → Part → LocalState
counted i n spent p = record (view_of i) { balance = n.balance; spent = spent; part = p }

-- What an event of a pass that pays makes of its thread, which has counted it: where the pass has
-- come to part q, or, where that is over, found nothing to do or something.
pub record Counted (i : Inside) (w : ℕ) (o : Outcome) (n : AccountState) (spent : ℕ) (none : Bool)
    (q : Part) : Type 0 where
  pub got : (p : Part) → p ≡ if_over (is_last o.step) none q
      → counted i n spent p ≡ local_got (view_of i) w
  pub turn : turn_of o.step ≡ turn_of (part_step i.config (part_of i) w)
  pub fits : (p : Part) → p ≡ if_over (is_last o.step) none q → IsLocal (counted i n spent p)
  pub rate : n.rate ≡ i.rate
  pub object : n.object ≡ i.config.object

module _ (i : Inside) (k : IsLocal (view_of i)) (rate : i.account.rate ≡ i.rate)
    (object : i.account.object ≡ i.config.object) (x : Config) (same : x ≡ i.config) (w : ℕ)
    (o : Outcome) (a : AccountState) (told spent : ℕ)
    (counts : a ≡ record i.account { balance = balance_on o.unit told i.account.balance })
    (reads : told ≡ requested_units (command_of (view_of i)))
    (makes : spent ≡ spent_got None o.unit i.spent) where
  fits_behind : (none : Bool) (q : Part)
      → PartFits i.config (length i.log.items) (length i.trace.items) i.pass q
      → length i.log.items < length i.trace.items → IsPassAt i.config i.pass
      → i.spent + bit o.unit + unit_to_come i.config q ≤ owed (view_of i)
      → IsAllMade (owed (view_of i)) spent q → IsRoomy i.builder.capacity q
      → (p : Part) → p ≡ if_over (is_last o.step) none q → IsLocal (counted i a spent p)
  fits_behind none q fits low pass owes settled roomy p is =
      let over = over_local i k rate object a o.unit told spent counts reads makes in
      let some : i.spent + bit o.unit ≤ owed (view_of i) = omega (arith, owes) in
      behind_local (record (view_of i) { balance = a.balance; spent = spent }) (is_last o.step) none p q is
      (over LeaveToChangePhase true refl low pass some) (over Retry false refl low pass some)
      (counted_local i k rate object a o.unit told spent counts reads makes q fits owes settled roomy)

  pub mark_counted : (m n : GreyState) → part_of i ≡ Mark m → n ≡ grey_got (extent x) m w
      → o ≡ grey_outcome (extent x) m w → GreyFits x n
      → Counted i w o a spent (grey_nothing n.row) (Mark n)
  mark_counted m n at got was fit =
      let fits = mark_fits i k m at in
      let both = ties i k rate object a o.unit told spent counts reads makes in
      record {
        got = marked i w a told spent o counts reads makes m n x same at got was;
        turn = mark_turn i m x w o (turn_of o.step) same at was refl;
        fits = fits_behind (grey_nothing n.row) (Mark n) (subst (λ y. GreyFits y n) same fit, fits.1, fits.2)
            fits.1 fits.2 (marks_owe i k m n x w o at got was) tt tt;
        rate = both.0;
        object = both.1;
      }

  pub sweep_counted : (s n : SweepState) → part_of i ≡ Sweep s → n ≡ sweep_got s w
      → o ≡ sweep_outcome s w → SweepFits x n → Counted i w o a spent (sweep_nothing n.row) (Sweep n)
  sweep_counted s n at got was fit =
      let fits = swept_fits i k s n at in
      let both = ties i k rate object a o.unit told spent counts reads makes in
      record {
        got = swept i w a told spent o counts reads makes s n at got was;
        turn = sweep_turn i s w o (turn_of o.step) at was refl;
        fits = fits_behind (sweep_nothing n.row) (Sweep n) (subst (λ y. SweepFits y n) same fit, fits.1, fits.2)
            fits.1 fits.2 (swept_owes i k s n at x w o.unit got (ap (λ (y : Outcome). y.unit) was) fit) tt tt;
        rate = both.0;
        object = both.1;
      }

-- what a sweep keeps of its thread
pub sweep_stays : (t c b owed w : ℕ) (s n : SweepState) → n ≡ sweep_got s w
    → s ≡ record { thread = t; cycle = c; blocks = b; owed = owed; row = s.row }
    → n ≡ record { thread = t; cycle = c; blocks = b; owed = owed; row = n.row }
sweep_stays t c b owed w s n got at = λ j. record {
  thread = (ap (λ (x : SweepState). x.thread) got ∙ ap (λ (x : SweepState). x.thread) at) j;
  cycle = (ap (λ (x : SweepState). x.cycle) got ∙ ap (λ (x : SweepState). x.cycle) at) j;
  blocks = (ap (λ (x : SweepState). x.blocks) got ∙ ap (λ (x : SweepState). x.blocks) at) j;
  owed = (ap (λ (x : SweepState). x.owed) got ∙ ap (λ (x : SweepState). x.owed) at) j;
  row = n.row;
}

-- The loop of such a pass, of which so many events were made: it begins, has one more, or ends.
pub begins : {M S : Type 0} (acts : Acts M S) (s : S) (m : M) (l : LocalState) (i : Inside) (r : Row)
    → (k : IsLocal (view_of i)) → i.account.rate ≡ i.rate → i.account.object ≡ i.config.object
    → length i.trace.items ≤ vec_capacity i.log
    → i.price ≡ units_owed i.config.width i.rate (command_behind i.trace.items i.log.items)
    → view_of i ≡ l → over_part i r ≡ part_of i
    → (g : Goes acts s m l m (record i { row = r })) × (length g.run.words ≡ 0)
begins acts s m l i r k rate object room price is at =
    let same : view_of (record i { row = r }) ≡ view_of i = λ j. record (view_of i) { part = at j } in (
      record {
        fits = subst IsLocal (sym same) k;
        rate = rate;
        object = object;
        room = room;
        price = price;
        run = record { words = []; ran = (refl, sym (same ∙ is)); told = refl };
      },
      refl,
    )

module _ {M S : Type 0} (may : M → S → Op → Type 0) {acts : Acts M S} {s : S} {before : M}
    {self : LocalState} {m : M} {i : Inside} (k : Goes acts s before self m i) (most made : ℕ)
    (long : length k.run.words ≡ made) (low : made < most)
    (has : MayRun may acts (most - made) m s (view_of i)) (going : is_done (view_of i) ≡ false)
    {w : ℕ} {after : M} (acted : acts m s (op_wanted (view_of i)) w after)
    {o : Outcome} {n : AccountState} {spent : ℕ} {none : Bool} {q : Part}
    (is : Counted i w o n spent none q) where
  pub ends : (r : Row) → over_part i r ≡ if_over (is_last o.step) none q → (turn : Turn)
      → turn ≡ turn_of o.step
      → HasRunIn most acts s before self after (counted i n spent (over_part i r)) turn
  ends r part turn told = more_ends may k.run most made long low has (going_in (view_of i) k.fits going)
      acted (is.got (over_part i r) part, told ∙ is.turn)

  pub goes : (r : Row) → over_part i r ≡ q → goes_on o.step ≡ true
      → (g : Goes acts s before self after (record i { account = n; spent = spent; row = r }))
      × MayRun may acts (most - (made + 1)) after s (counted i n spent (over_part i r))
      × (length g.run.words ≡ made + 1)
  goes r part on =
      let went = went_on o.step on in
      let at : over_part i r ≡ if_over (is_last o.step) none q =
      part ∙ (λ j. if_over (sym went.0 j) none q) in
      let more = more_goes may k.run most made long low has (going_in (view_of i) k.fits going) acted
      (is.got (over_part i r) at, went.1 ∙ is.turn) refl in (
        record {
          fits = is.fits (over_part i r) at;
          rate = is.rate;
          object = is.object;
          room = k.room;
          price = k.price;
          run = more.0;
        },
        more.1,
        more.2,
      )
