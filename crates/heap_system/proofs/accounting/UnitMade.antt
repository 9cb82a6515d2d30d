-- What the code of a pass that pays meets: a unit that it makes is owed, and counts once.
use Rattle.std.proofs.Common.{◌≡◌, ℕ, ◌+◌, ◌-◌, ◌*◌, ◌<◌, ◌≤◌, ◌^◌, Bool, true, false, not, ◌||◌, cond, None, List, length, is_some, refl, sym, ap, ◌∙◌, subst, arith}
use Rattle.block_store.specs.declared.Config.{Config}
use Rattle.block_store.specs.Phases.{bit}
use Rattle.block_store.specs.Places.{Extent}
use Rattle.grey_steps.specs.MarkUnits.{is_blackening}
use Rattle.grey_steps.specs.Rows.{GreyState, grey_got, grey_unit}
use Rattle.grey_steps.proofs.MarkUnits.{unit_after, unit_once}
use Rattle.sweep_steps.specs.SweepUnits.{row_passes}
use Rattle.sweep_steps.specs.Fits.{SweepFits}
use Rattle.sweep_steps.specs.Rows.{SweepState, sweep_got, sweep_passed}
use Rattle.sweep_steps.proofs.PassedBlocks.{passed_bits, passed_few}
use Rattle.work_account.specs.Accounts.{AccountState}
use Rattle.heap_system.specs.declared.local.Local.TheInside.{Inside}
use Rattle.heap_system.specs.Parts.{part_at, Part, Sweep, Retry, LeaveToChangePhase, PhaseChange}
use Rattle.heap_system.specs.declared.rows.Row.{Row}
use Rattle.heap_system.specs.declared.rows.Row.TheVariants as rows
use Rattle.heap_machine.specs.declared.gate.GateRow.{GateRow}
use Rattle.never_heap.specs.declared.Command.{Command}
use Rattle.never_heap.specs.declared.Entry.{Entry}
use Rattle.never_heap.specs.RightWork.{requested_units}
use Rattle.never_heap.specs.Steps.{blocks_of}
use Rattle.heap_system.specs.Locals.{LocalState, told_behind, IsLocal, PartFits, IsRoomy, IsAllMade, IsPassAt, balance_on, spent_got, command_of, owed, unit_to_come, works}
use Rattle.heap_system.proofs.accounting.Balances.{paid_after, part_low, units_on, sound_on}
use Rattle.heap_system.proofs.accounting.OwedAndPaid.{part_of, view_of, price_low, paid_low, worked_low}
use Rattle.heap_system.proofs.parts.InPass.{paid_more}

-- what the command in hand is told to make, read off the trace after the log
pub units_read : (l : LocalState) (trace : List Command) (log : List Entry)
    → trace ≡ l.trace → log ≡ l.log → told_behind trace log ≡ requested_units (command_of l)
units_read l trace log same logged = λ i. told_behind (same i) (logged i)

-- a Mark pass makes one unit at most
mark_sum : (a black : Bool) (paid due : ℕ) → (a ≡ true → black ≡ false) → paid + bit (not a) ≤ due
    → paid + bit black + bit (not (a || black)) ≤ due
mark_sum true black paid due once low = let none : bit black ≡ 0 = ap bit (once refl) in omega (arith, low, none)
mark_sum false true paid due once low = omega (arith, low)
mark_sum false false paid due once low = omega (arith, low)

pub mark_owes : (e : Extent) (m n : GreyState) (w : ℕ) (unit : Bool)
    → n ≡ grey_got e m w → unit ≡ is_blackening m.row
    → (paid due : ℕ) → paid + bit (not (grey_unit m.row)) ≤ due
    → paid + bit unit + bit (not (grey_unit n.row)) ≤ due
mark_owes e m n w unit got new paid due low =
    let after : grey_unit n.row ≡ (grey_unit m.row || is_blackening m.row) =
    ap (λ (x : GreyState). grey_unit x.row) got ∙ unit_after e m w in
    subst (λ u. paid + bit u + bit (not (grey_unit n.row)) ≤ due) (sym new)
    (subst (λ u. paid + bit (is_blackening m.row) + bit (not u) ≤ due) (sym after)
    (mark_sum (grey_unit m.row) (is_blackening m.row) paid due (unit_once m) low))

-- and a Sweep pass as many as are owed
pub sweep_owes : (s n : SweepState) (w : ℕ) (unit : Bool) → n ≡ sweep_got s w
    → unit ≡ is_some (row_passes s.cycle s.row w)
    → sweep_passed n.row ≤ s.owed → (paid due : ℕ) → paid + (s.owed - sweep_passed s.row) ≤ due
    → paid + bit unit + (s.owed - sweep_passed n.row) ≤ due
sweep_owes s n w unit got new few paid due low =
    let more : sweep_passed n.row ≡ sweep_passed s.row + bit (is_some (row_passes s.cycle s.row w)) =
    ap (λ (x : SweepState). sweep_passed x.row) got ∙ passed_bits s w in
    let one : bit unit ≡ bit (is_some (row_passes s.cycle s.row w)) = ap bit new in
    omega (arith, more, one, few, low)

module _ (i : Inside) (k : IsLocal (view_of i)) (rate : i.account.rate ≡ i.rate)
    (object : i.account.object ≡ i.config.object) where
  pub units_few : i.account.balance.units < 2 ^ 50
  units_few = omega (arith, k.units, worked_low (view_of i) k, paid_low (view_of i) k)

  pub spent_few : i.spent < 2 ^ 50
  spent_few = omega (arith, paid_low (view_of i) k)

  pub unit_owed : (requested : ℕ) (unit : Bool) (more : ℕ) → requested ≡ requested_units (command_of (view_of i))
      → i.spent + bit unit + more ≤ owed (view_of i) → unit ≡ true → requested ≡ 0
      → i.account.balance.paid < i.account.rate * i.account.object
  unit_owed requested unit more same low e untold =
      let price : i.account.rate * i.account.object ≡ i.rate * i.config.object =
      λ j. rate j * object j in
      let one : bit unit ≡ 1 = ap bit e in
      let paid : i.account.balance.paid ≤ i.spent =
      part_low (requested_units (command_of (view_of i))) i.spent i.account.balance.paid k.account in
      omega (arith, price, one, low, same, untold, paid, price_low (view_of i) k)

  module _ (n : AccountState) (unit : Bool) (requested spent : ℕ)
      (counts : n ≡ record i.account { balance = balance_on unit requested i.account.balance })
      (same : requested ≡ requested_units (command_of (view_of i)))
      (makes : spent ≡ spent_got None unit i.spent) where
    pub ties : (n.rate ≡ i.rate) × (n.object ≡ i.config.object)
    ties = (
      ap (λ (a : AccountState). a.rate) counts ∙ rate,
      ap (λ (a : AccountState). a.object) counts ∙ object,
    )

    -- the thread that has counted it, in its next part
    pub counted_local : (part : Part)
        → PartFits i.config (length i.log.items) (length i.trace.items) i.pass part
        → i.spent + bit unit + unit_to_come i.config part ≤ owed (view_of i)
        → IsAllMade (owed (view_of i)) spent part → IsRoomy i.builder.capacity part
        → IsLocal (record (view_of i) { balance = n.balance; spent = spent; part = part })
    counted_local part fits pays all roomy =
        let is : n.balance ≡ balance_on unit (requested_units (command_of (view_of i))) i.account.balance =
        ap (λ (a : AccountState). a.balance) counts
        ∙ ap (λ x. balance_on unit x i.account.balance) same in
        let more : spent_got None unit i.spent ≡ i.spent + bit unit = paid_more unit i.spent in
        subst (λ b. IsLocal (record (view_of i) { balance = b; spent = spent; part = part })) (sym is)
        (subst (λ x. IsAllMade (owed (view_of i)) x part → IsLocal (record (view_of i) {
          balance = balance_on unit (requested_units (command_of (view_of i))) i.account.balance;
          spent = x;
          part = part;
        })) (sym makes)
        (λ settled. record {
          bounds = k.bounds;
          plan = k.plan;
          rate = k.rate;
          thread = k.thread;
          trace = k.trace;
          life = k.life;
          log = k.log;
          part = fits;
          paid = omega (arith, more, pays);
          settled = settled;
          sound = sound_on i.rate i.config.object unit (requested_units (command_of (view_of i)))
              (blocks_of i.config.width (command_of (view_of i))) i.spent i.account.balance
              k.account (price_low (view_of i) k) (omega (arith, more, pays)) k.sound;
          account = paid_after None unit (requested_units (command_of (view_of i))) 0 i.spent i.account.balance k.account;
          units = units_on unit (requested_units (command_of (view_of i))) (i.before + works i.log.items) i.spent i.account.balance k.units;
          made = k.made;
          space = k.space;
          roomy = roomy;
        }) all)

    -- on its way out
    pub over_local : (part : Part) (none : Bool) → part ≡ cond none LeaveToChangePhase Retry
        → length i.log.items < length i.trace.items → IsPassAt i.config i.pass
        → i.spent + bit unit ≤ owed (view_of i)
        → IsLocal (record (view_of i) { balance = n.balance; spent = spent; part = part })
    over_local part none is low pass pays =
        subst (λ p. IsLocal (record (view_of i) { balance = n.balance; spent = spent; part = p })) (sym is) (by none)
      where
        by : (b : Bool)
            → IsLocal (record (view_of i) { balance = n.balance; spent = spent; part = cond b LeaveToChangePhase Retry })
        by true = counted_local LeaveToChangePhase (low, pass) (omega (arith, pays)) tt tt
        by false = counted_local Retry low (omega (arith, pays)) tt tt

-- the event of a sweep: what its thread was, and the units owed after it
module _ (i : Inside) (k : IsLocal (view_of i)) (s n : SweepState) (at : part_of i ≡ Sweep s) where
  pub swept_fits : PartFits i.config (length i.log.items) (length i.trace.items) i.pass (Sweep s)
  swept_fits = subst (λ p. PartFits i.config (length i.log.items) (length i.trace.items) i.pass p) at k.part

  pub swept_owes : (x : Config) (w : ℕ) (unit : Bool) → n ≡ sweep_got s w
      → unit ≡ is_some (row_passes s.cycle s.row w) → SweepFits x n
      → i.spent + bit unit + (n.owed - sweep_passed n.row) ≤ owed (view_of i)
  swept_owes x w unit got new fits =
      let same : n.owed ≡ s.owed = ap (λ (y : SweepState). y.owed) got in
      omega (
        arith,
        same,
        sweep_owes s n w unit got new (omega (arith, same, (passed_few x n fits).1)) i.spent
            (owed (view_of i)) (subst (λ p. i.spent + unit_to_come i.config p ≤ owed (view_of i)) at k.paid),
      )

-- a part that changes the phase, as the code keeps it, with this row of the gate
pub turn_to : (i : Inside) (g : GateRow) → i.row ≡ rows.PhaseChange
    → part_at i.config i.pass i.field g i.builder i.row ≡ PhaseChange g
turn_to i g is = ap (part_at i.config i.pass i.field g i.builder) is

-- a part on its way out
abbrev pub over_part : Inside → Row → Part
over_part i r = part_at i.config i.pass i.field i.gate i.builder r

pub over_at : (i : Inside) (r : Row) (none : Bool) → r ≡ cond none rows.LeaveToChangePhase rows.Retry
    → over_part i r ≡ cond none LeaveToChangePhase Retry
over_at i r none is = ap (over_part i) is ∙ by none
  where
    by : (b : Bool) → over_part i (cond b rows.LeaveToChangePhase rows.Retry) ≡ cond b LeaveToChangePhase Retry
    by true = refl
    by false = refl
