-- What a thread owes and has paid, and the ranges of the parts that it comes to.
use Rattle.std.proofs.Common.{◌≡◌, ℕ, zero, suc, ◌+◌, ◌-◌, ◌*◌, ◌<◌, ◌≤◌, ◌^◌, Bool, true, false, cond, ltb, eqb, refl, sym, ap, ◌∙◌, subst, arith, List, [], ◌∷◌, ◌++◌, length, length-append, get_or, set, take, Some, inl, inr, mul_comm, ◌⊎◌, ne_eqb, Option, None}
use Rattle.std.proofs.lemmas.Bool.{cases_eq}
use Rattle.std.proofs.Math.Nat.{mul-le-mul_right}
use Rattle.block_store.specs.declared.Config.{Config}
use Rattle.block_store.specs.declared.PhaseWord.{PhaseWord}
use Rattle.block_store.specs.declared.Width.{Width}
use Rattle.block_store.specs.Phases.{bit}
use Rattle.block_store.specs.Registers.{root_block}
use Rattle.block_store.proofs.Lemmas.{end_more}
use Rattle.rate_plan.proofs.Rates.{rate_low, opening_room}
use Rattle.never_heap.specs.declared.Command.{Command}
use Rattle.never_heap.specs.declared.Command.TheVariants as commands
use Rattle.never_heap.specs.declared.Entry.{Entry}
use Rattle.never_heap.specs.declared.Reply.{Reply}
use Rattle.never_heap.specs.declared.Reply.TheVariants as replies
use Rattle.std.proofs.lemmas.List.Elements.{All-from_recursion}
use Rattle.never_heap.specs.Bounds.{IsCommandInBounds}
use Rattle.never_heap.specs.RightWork.{requested_units, units_owed}
use Rattle.heap_invariant.specs.cycle_tally.TallyInvariant.{most_work}
use Rattle.never_heap.specs.Steps.{blocks_of}
use Rattle.never_heap.proofs.Lemmas.{blocks_low, blocks_make, bounds_at, told_low}
use Rattle.never_heap.proofs.CommandBounds as ranges
use Rattle.heap_machine.specs.Gates.{gate_got, closed_by, is_going_in, is_of_pass, is_empty, GateFits, GateAt}
use Rattle.heap_machine.proofs.Lemmas.{gate_fits}
use Rattle.heap_machine.specs.Passes.{IsPass}
use Rattle.heap_machine.specs.ChangingPhase.{turns_over}
use Rattle.heap_machine.specs.declared.pass.Pass.{Pass}
use Rattle.heap_machine.specs.declared.gate.GateRow.{GateRow}
use Rattle.heap_machine.specs.declared.gate.GateRow.TheVariants as gates
use Rattle.barrier_steps.specs.Rows.{FieldState, at_first_row}
use Rattle.barrier_steps.specs.Fits.{IsThread}
use Rattle.barrier_steps.proofs.FieldRows.{first_fits}
use Rattle.grey_steps.specs.Rows.{scanning}
use Rattle.grey_steps.proofs.RowsFit.{scan_fits}
use Rattle.sweep_steps.specs.Rows.{SweepState, sweep_got, sweep_over, step_to, sweeping}
use Rattle.sweep_steps.specs.declared.rows.SweepRow.{SweepRow}
use Rattle.sweep_steps.specs.declared.rows.SweepRow.TheVariants as sweeps
use Rattle.sweep_steps.proofs.RowsFit as sweeping_ranges
use Rattle.build_steps.specs.Rows.{BuildState, building}
use Rattle.build_steps.proofs.RowsFit as building_ranges
use Rattle.work_account.specs.Accounts.{Balance, AccountState, entered}
use Rattle.heap_system.specs.declared.local.Local.TheInside.{Inside}
use Rattle.heap_system.specs.Parts.{part_at, Part, Rest, Enter, Access, Mark, Sweep, Build, PhaseChange, Leave}
use Rattle.heap_system.specs.Machines.{IsJob}
use Rattle.heap_system.specs.Lives.{IsLife, sum_after, objects_of, most_units, most_objects}
use Rattle.heap_system.specs.Locals.{LocalState, command_behind, IsLocal, PartFits, PartReads, IsRoomy, IsAllMade, errand_of, answered, command_of, owed, pass_by, is_last, is_rest, unit_to_come, works, entry_of, made_got, balance_over, paid_part, begun, spent_got, entries_of}
use Rattle.work_account.proofs.Balances.{entered_sound, paid_entered}
use Rattle.heap_system.proofs.accounting.Balances.{none_spent, units_entered, paid_over, all_paid, units_over, sound_over}

-- the part at which a thread is, and what is seen of it
abbrev pub part_of : Inside → Part
part_of l = part_at l.config l.pass l.field l.gate l.builder l.row

abbrev pub view_of : Inside → LocalState
view_of l = record { config = l.config; rate = l.rate; thread = l.thread; before = l.before; trace = l.trace.items; log = l.log.items; balance = l.account.balance; spent = l.spent; made = l.made; space = l.builder.capacity; pass = l.pass; part = part_of l }

pub told_apart : (w : Width) (k : Command) → (requested_units k ≡ 0) ⊎ (blocks_of w k ≡ 0)
told_apart w (commands.Idle u) = inr refl
told_apart w _ = inl refl

-- it makes one object where it has blocks, and else none
pub one_object : (k : Command) → objects_of k ≤ 1
one_object (commands.New d f) = omega arith
one_object (commands.Arr d e) = omega arith
one_object _ = omega arith

pub blocks_object : (w : Width) (k : Command) → 0 < blocks_of w k → objects_of k ≡ 1
blocks_object w k some = ap bit (blocks_make w k some)

-- a sum over what is to come is the next command's, and what is to come after it
pub sum_next : (f : Command → ℕ) (ks : List Command) (n : ℕ) → f (commands.Nil 0) ≡ 0 → sum_after f n ks ≡ f (get_or ks n (commands.Nil 0)) + sum_after f (suc n) ks
sum_next f [] n none = omega (arith, none)
sum_next f (k ∷ ks) zero none = refl
sum_next f (k ∷ ks) (suc n) none = sum_next f ks n none

pub owed_next : (l : LocalState) → sum_after (units_owed l.config.width l.rate) (length l.log) l.trace ≡ owed l + sum_after (units_owed l.config.width l.rate) (suc (length l.log)) l.trace
owed_next l = sum_next (units_owed l.config.width l.rate) l.trace (length l.log) (omega arith)

pub objects_next : (l : LocalState) → sum_after objects_of (length l.log) l.trace ≡ objects_of (command_of l) + sum_after objects_of (suc (length l.log)) l.trace
objects_next l = sum_next objects_of l.trace (length l.log) refl

-- the trace of a thread of a job
pub each_at : (c : Config) (traces : List (List Command)) → IsJob c traces → (t : ℕ) → t < c.threads → IsLife c (get_or traces t [])
each_at c traces job t tl = All-from_recursion (IsLife c) traces job.bounds.each t [] (omega (arith, job.bounds.threads))

-- the price of its blocks is at most that of the largest object
pub price_low : (l : LocalState) → IsLocal l → l.rate * blocks_of l.config.width (command_of l) ≤ l.rate * l.config.object
price_low l k =
    let low : blocks_of l.config.width (command_of l) ≤ l.config.object = blocks_low l.config (command_of l) (bounds_at l.config l.trace (length l.log) k.trace.commands) in
    let more : blocks_of l.config.width (command_of l) * l.rate ≤ l.config.object * l.rate = mul-le-mul_right l.rate low in
    omega (arith, mul_comm l.rate (blocks_of l.config.width (command_of l)), mul_comm l.rate l.config.object)

pub told_few : (l : LocalState) → IsLocal l → requested_units (command_of l) ≤ 131070
told_few l k = told_low l.config (command_of l) (bounds_at l.config l.trace (length l.log) k.trace.commands)

-- so the units owed are few
pub owed_low : (l : LocalState) → IsLocal l → owed l ≤ most_work l.config l.rate
owed_low l k = omega (arith, price_low l k, told_few l k)

-- where all is made that a command owes, the price of its blocks is paid
pub price_paid : (l : LocalState) → IsLocal l → l.spent ≡ owed l → l.balance.paid ≡ l.rate * blocks_of l.config.width (command_of l)
price_paid l k all = elim (cases_eq (requested_units (command_of l)) 0) [
  | inl e ↦ (let paid : l.balance.paid ≡ l.spent = all_paid (requested_units (command_of l)) l.spent l.balance.paid k.account e in omega arith)
  | inr ne ↦
      let none : l.balance.paid ≡ 0 = k.account ∙ ap (λ x. cond x l.spent 0) (ne_eqb (requested_units (command_of l)) 0 ne) in
      elim (told_apart l.config.width (command_of l)) [
        | inl e ↦ absurd (ne e)
        | inr b ↦ (let zero : l.rate * blocks_of l.config.width (command_of l) ≡ l.rate * 0 = ap (λ x. l.rate * x) b in omega arith)
      ]
]

-- and these are few
pub units_low : (l : LocalState) → IsLocal l → l.rate * l.config.object ≤ 134215680
units_low l k =
    let low : l.rate ≤ 131070 = rate_low l.config l.rate k.bounds k.plan k.rate in
    let a : l.rate * l.config.object ≤ 131070 * l.config.object = mul-le-mul_right l.config.object low in
    omega (arith, k.bounds.object)

pub thread_is : (l : LocalState) → IsLocal l → IsThread l.config l.thread
thread_is l k = record { few = k.bounds.threads; thread = k.thread; registers = omega (arith, opening_room l.config k.plan, end_more l.config.width (l.thread + 1) l.config.threads (omega (arith, k.thread))) }

-- the command in hand is in bounds
pub command_fits : (l : LocalState) → IsLocal l → IsCommandInBounds l.config (command_of l)
command_fits l k = bounds_at l.config l.trace (length l.log) k.trace.commands

pub command_small : (l : LocalState) → IsLocal l → blocks_of l.config.width (command_of l) ≤ l.config.object
command_small l k = blocks_low l.config (command_of l) (command_fits l k)

-- the serial of the object that it would make
pub serial_low : (l : LocalState) → IsLocal l → (k : Command) → k ≡ command_of l → 0 < blocks_of l.config.width k → l.made + 1 < 2 ^ 43
serial_low l is k same some =
    omega (arith, is.made, objects_next l, ap objects_of (sym same) ∙ blocks_object l.config.width k some)

-- the part with which a thread begins what it went in for fits, and pays
module _ (l : LocalState) (k : IsLocal l) (low : length l.log < length l.trace) (p : Pass)
    (mine : p.thread ≡ l.thread) (same : p.threads ≡ l.config.threads) (pass : IsPass p) where
  thread : IsThread l.config p.thread
  thread = subst (λ t. IsThread l.config t) (sym mine) (thread_is l k)

  build_fits : 0 < blocks_of l.config.width (command_of l) → PartFits l.config (length l.log) (length l.trace) p (Build (building l.config.width p.thread p.threads p.cycle (l.made + 1) (command_of l) l.space))
  build_fits some = subst (λ n. PartFits l.config (length l.log) (length l.trace) p (Build (building l.config.width p.thread n p.cycle (l.made + 1) (command_of l) l.space))) (sym same) (
    building_ranges.first_fits l.config p.thread p.cycle (l.made + 1) (command_of l) l.space thread.thread thread.few k.bounds.blocks thread.registers (serial_low l k (command_of l) refl some) (ranges.in_range l.config (command_of l) (command_fits l k)) some
        (omega (arith, command_small l k, k.bounds.object)) (omega (arith, command_small l k, k.space)),
    low,
  )

  sweep_fits : 1 ≤ (errand_of l).due → PartFits l.config (length l.log) (length l.trace) p (Sweep (sweeping p.thread p.cycle l.config.blocks (errand_of l).due))
  sweep_fits some = (sweeping_ranges.first_fits l.config p.thread p.cycle (errand_of l).due thread.thread k.bounds.blocks some, low, (pass, same))

  mark_fits : PartFits l.config (length l.log) (length l.trace) p (Mark (scanning p))
  mark_fits = (scan_fits l.config p same pass.few k.bounds.blocks pass.thread, low, (pass, same))

  serve_fits : PartFits l.config (length l.log) (length l.trace) p (Access (at_first_row p (command_of l)))
  serve_fits = (first_fits l.config p (command_of l) thread same k.bounds.blocks (ranges.in_range l.config (command_of l) (command_fits l k)), low)

-- a thread in another pass and part
pub begins : (l : LocalState) (p : Pass) (part : Part) → IsLocal l → PartFits l.config (length l.log) (length l.trace) p part → l.spent + unit_to_come l.config part ≤ owed l → IsAllMade (owed l) l.spent part → IsRoomy l.space part → IsLocal (record l { pass = p; part = part })
begins l p part k fits pays all roomy = record { bounds = k.bounds; plan = k.plan; rate = k.rate; thread = k.thread; trace = k.trace; life = k.life; log = k.log; part = fits; paid = pays; settled = all; sound = k.sound; account = k.account; units = k.units; made = k.made; space = k.space; roomy = roomy }

-- a thread that enters a cycle
pub entered_local : (i : Inside) (z : ℕ) (a : AccountState) → IsLocal (view_of i) → a ≡ record i.account { balance = entered z i.account.balance } → IsLocal (record (view_of i) { balance = a.balance })
entered_local i z a k is =
    let same : (entered z i.account.balance).paid ≡ i.account.balance.paid = paid_entered z i.account.balance in
    subst (λ (x : AccountState). IsLocal (record (view_of i) { balance = x.balance })) (sym is) (record {
      bounds = k.bounds;
      plan = k.plan;
      rate = k.rate;
      thread = k.thread;
      trace = k.trace;
      life = k.life;
      log = k.log;
      part = k.part;
      paid = k.paid;
      settled = k.settled;
      sound = entered_sound i.rate i.config.object z i.account.balance k.sound;
      account = same ∙ k.account;
      units = units_entered z (i.before + works i.log.items + i.spent) i.account.balance k.units;
      made = k.made;
      space = k.space;
      roomy = k.roomy;
    })

-- a build that begins
pub begins_build : (l : LocalState) (phase : PhaseWord) (p : Pass) (command : Command) (b : BuildState) → IsLocal l → length l.log < length l.trace → p ≡ pass_by l.thread l.config.threads phase → IsPass p → command ≡ command_of l → 0 < blocks_of l.config.width command → owed l - l.spent ≡ 0 → b ≡ building l.config.width p.thread p.threads p.cycle (l.made + 1) command l.space → IsLocal (record l { space = b.capacity; pass = p; part = Build b })
begins_build l phase p command b k low by pass is some none built =
    let whole : b ≡ building l.config.width p.thread p.threads p.cycle (l.made + 1) (command_of l) l.space = built ∙ ap (λ q. building l.config.width p.thread p.threads p.cycle (l.made + 1) q l.space) is in
    subst (λ x. IsLocal (record l { space = x.capacity; pass = p; part = Build x })) (sym whole)
    (begins l p (Build (building l.config.width p.thread p.threads p.cycle (l.made + 1) (command_of l) l.space)) k
    (build_fits l k low p (ap (λ (q : Pass). q.thread) by) (ap (λ (q : Pass). q.threads) by) pass (subst (λ x. 0 < blocks_of l.config.width x) is some)) (omega (arith, k.paid)) (omega (arith, k.paid, none)) refl)

-- a command that makes no object begins
pub begins_serve : (l : LocalState) (phase : PhaseWord) (p : Pass) (command : Command) (f : FieldState) → IsLocal l → length l.log < length l.trace → p ≡ pass_by l.thread l.config.threads phase → IsPass p → command ≡ command_of l → owed l - l.spent ≡ 0 → f ≡ at_first_row p command → IsLocal (record l { pass = p; part = Access f })
begins_serve l phase p command f k low by pass is none first =
    subst (λ x. IsLocal (record l { pass = p; part = Access x })) (sym (first ∙ ap (at_first_row p) is))
    (begins l p (Access (at_first_row p (command_of l))) k (serve_fits l k low p (ap (λ (q : Pass). q.thread) by) (ap (λ (q : Pass). q.threads) by) pass) (omega (arith, k.paid)) (omega (arith, k.paid, none)) tt)

-- a part that turns over goes on with such rows
turns_either : (b : Bool) (p q : GateRow) → turns_over p ≡ true → turns_over q ≡ true → turns_over (cond b p q) ≡ true
turns_either true p q a c = a
turns_either false p q a c = c

pub turns_on : (W : Width) (g : GateRow) (w : ℕ) → turns_over g ≡ true → turns_over (gate_got W g w) ≡ true
turns_on W (gates.CloseLook p) w e = turns_either (is_of_pass p w) (cond (is_empty w) (gates.Close p w) gates.KeptOut) gates.KeptOut (turns_either (is_empty w) (gates.Close p w) gates.KeptOut refl refl) refl
turns_on W (gates.Close p seen) w e = turns_either (eqb w seen) (closed_by p) gates.KeptOut (turns_either p.sweep (gates.ShadeRoot p 0 0) (gates.CheckList p 0) refl refl) refl
turns_on W (gates.CheckList p u) w e = turns_either (eqb w 0) (cond (ltb (u + 1) p.threads) (gates.CheckList p (u + 1)) (gates.SetCursor p)) (gates.Reopen p) (turns_either (ltb (u + 1) p.threads) (gates.CheckList p (u + 1)) (gates.SetCursor p) refl refl) refl
turns_on W (gates.SetCursor p) w e = refl
turns_on W (gates.Flip p) w e = refl
turns_on W (gates.Reopen p) w e = refl
turns_on W (gates.ShadeRoot p u list) w e = turns_either (ltb (u + 1) p.threads) (gates.ShadeRoot p (u + 1) (root_block W u)) (gates.PutRoots p (root_block W u)) refl refl
turns_on W (gates.PutRoots p list) w e = refl
turns_on W (gates.Start p) w e = refl
turns_on W gates.TurnedOver w e = refl
turns_on W (gates.StartedCycle y) w e = refl
turns_on W gates.KeptOut w e = refl
turns_on W _ w e = absurd cc

pub going_at : (c : Config) (g : GateRow) → is_going_in g ≡ true → GateAt c g
going_at c gates.Look e = tt
going_at c (gates.Enter seen) e = tt
going_at c _ e = absurd cc

-- a sweep is over at its last step
pub swept_last : (s : SweepState) (w : ℕ) → is_last (step_to (sweep_got s w).row) ≡ sweep_over (sweep_got s w).row
swept_last s w = here (sweep_got s w).row
  where
    here : (r : SweepRow) → is_last (step_to r) ≡ sweep_over r
    here (sweeps.Swept passed freed) = refl
    here sweeps.NothingLeft = refl
    here _ = refl

-- a part that turns over goes on
pub turned_on : (l : LocalState) (g n : GateRow) (w : ℕ) (c : Config) → IsLocal l → PartReads l.config l.part w → l.part ≡ PhaseChange g → c ≡ l.config → n ≡ gate_got c.width g w → GateAt c n → IsLocal (record l { part = PhaseChange n })
turned_on l g n w c k reads at same is there =
    let was = subst (λ (p : Part). PartFits l.config (length l.log) (length l.trace) l.pass p) at k.part in
    let read = subst (λ (p : Part). PartReads l.config p w) at reads in
    let next : n ≡ gate_got l.config.width g w = is ∙ ap (λ (x : Config). gate_got x.width g w) same in
    begins l l.pass (PhaseChange n) k (subst GateFits (sym next) (gate_fits l.config g w was.0 read), subst (λ x. GateAt x n) same there, ap turns_over next ∙ turns_on l.config.width g w was.2, was.3) (omega (arith, k.paid)) tt tt

-- a thread on its way in has a command
pub on_way_low : (l : LocalState) (g : GateRow) → IsLocal l → l.part ≡ Enter g → length l.log < length l.trace
on_way_low l g k e = (subst (λ (p : Part). PartFits l.config (length l.log) (length l.trace) l.pass p) e k.part).2

-- the works of a log
pub works_append : (xs ys : List Entry) → works (xs ++ ys) ≡ works xs + works ys
works_append [] ys = omega arith
works_append (x ∷ xs) ys = omega (arith, works_append xs ys)

pub works_take : (xs : List Entry) (i : ℕ) → works (take i xs) ≤ works xs
works_take [] zero = omega arith
works_take [] (suc i) = omega arith
works_take (x ∷ xs) zero = omega arith
works_take (x ∷ xs) (suc i) = omega (arith, works_take xs i)

works_suc : (xs : List Entry) (i : ℕ) (d : Entry) → i < length xs → works (take (suc i) xs) ≡ works (take i xs) + (get_or xs i d).work
works_suc [] i d low = absurd (omega arith)
works_suc (x ∷ xs) zero d low = omega arith
works_suc (x ∷ xs) (suc i) d low = omega (arith, works_suc xs i d (omega arith))

pub works_at : (xs : List Entry) (i : ℕ) (d : Entry) → i < length xs → works (take (i + 1) xs) ≡ works (take i xs) + (get_or xs i d).work
works_at xs i d low = let e : i + 1 ≡ suc i = omega arith in ap (λ n. works (take n xs)) e ∙ works_suc xs i d low

-- at most one object is made for each reply, and none but for a command that makes one
pub made_low : (k : Command) (r : Reply) (n : ℕ) → made_got k (Some r) n ≤ n + objects_of k
made_low k (replies.New a) n = omega arith
made_low k _ n = omega arith

pub answered_local : (l : LocalState) (reply : Reply) → IsLocal l → length l.log < length l.trace → l.spent ≡ owed l → IsLocal (answered l reply)
answered_local l reply k low all = record {
  bounds = k.bounds;
  plan = k.plan;
  rate = k.rate;
  thread = k.thread;
  trace = k.trace;
  life = subst (λ n. l.before + works (l.log ++ entry_of l.thread (command_of l) l.spent reply ∷ []) + sum_after (units_owed l.config.width l.rate) n l.trace ≤ most_units) (sym longer) (omega (arith, more, k.life, owed_next l, all));
  log = omega (arith, longer);
  part = tt;
  paid = omega arith;
  settled = tt;
  sound = sound_over l.rate l.config.object reply (blocks_of l.config.width (command_of l)) l.balance (price_paid l k all) k.sound;
  account = paid_over reply _ (blocks_of l.config.width (command_of l)) l.balance;
  units = omega (arith, more, k.units, units_over reply (blocks_of l.config.width (command_of l)) l.balance);
  made = subst (λ n. made_got (command_of l) (Some reply) l.made + sum_after objects_of n l.trace ≤ most_objects) (sym longer) (omega (arith, made_low (command_of l) reply l.made, k.made, objects_next l));
  space = k.space;
  roomy = tt;
}
  where
    longer : length (l.log ++ entry_of l.thread (command_of l) l.spent reply ∷ []) ≡ suc (length l.log)
    longer = length-append l.log (entry_of l.thread (command_of l) l.spent reply ∷ []) ∙ omega arith

    more : works (l.log ++ entry_of l.thread (command_of l) l.spent reply ∷ []) ≡ works l.log + (l.spent + 0)
    more = works_append l.log (entry_of l.thread (command_of l) l.spent reply ∷ [])

pub answered_with : (l : LocalState) (reply : Reply) (log : List Entry) (k : Command) (b : Balance) (made : ℕ) → IsLocal l → length l.log < length l.trace → l.spent ≡ owed l → log ≡ l.log ++ entry_of l.thread k l.spent reply ∷ [] → k ≡ command_of l
    → b ≡ balance_over reply (blocks_of l.config.width k) l.balance → made ≡ made_got k (Some reply) l.made → IsLocal (record l { log = log; balance = b; spent = 0; made = made; part = Leave })
answered_with l reply log k b made inside low all is e pays more =
    subst (λ x. IsLocal (record l { log = log; balance = b; spent = 0; made = x; part = Leave })) (sym (more ∙ ap (λ y. made_got y (Some reply) l.made) e))
    (subst (λ x. IsLocal (record l { log = log; balance = x; spent = 0; made = made_got (command_of l) (Some reply) l.made; part = Leave })) (sym (pays ∙ ap (λ y. balance_over reply (blocks_of l.config.width y) l.balance) e))
    (subst (λ x. IsLocal (record l { log = x; balance = balance_over reply (blocks_of l.config.width (command_of l)) l.balance; spent = 0; made = made_got (command_of l) (Some reply) l.made; part = Leave }))
    (sym (is ∙ ap (λ y. l.log ++ entry_of l.thread y l.spent reply ∷ []) e)) (answered_local l reply inside low all)))

pub paid_low : (l : LocalState) → IsLocal l → l.spent ≤ 134346750
paid_low l k = omega (arith, k.paid, owed_low l k, units_low l k)

pub worked_low : (l : LocalState) → IsLocal l → l.before + works l.log ≤ 2 ^ 45
worked_low l k = omega (arith, k.life)

-- a thread that has done its trace, with one command more in place of this
pub begun_local : (l : LocalState) (k : Command) → IsLocal l → is_rest l.part ≡ true → l.spent ≡ 0 → IsCommandInBounds l.config k → l.before + works l.log + units_owed l.config.width l.rate k ≤ most_units → l.made + objects_of k ≤ most_objects → IsLocal (begun k l)
begun_local l k is rest none fits units objects =
    let at : l.part ≡ Rest = rest_part l.part rest in
    record {
      bounds = is.bounds;
      plan = is.plan;
      rate = is.rate;
      thread = is.thread;
      trace = record { few = omega arith; commands = (fits, tt) };
      life = omega (arith, units);
      log = omega arith;
      part = subst (λ p. PartFits l.config 0 1 l.pass p) (sym at) tt;
      paid = subst (λ p. l.spent + unit_to_come l.config p ≤ units_owed l.config.width l.rate k) (sym at) (omega (arith, none));
      settled = subst (λ p. IsAllMade (units_owed l.config.width l.rate k) l.spent p) (sym at) tt;
      sound = is.sound;
      account = is.account ∙ ap (paid_part (requested_units (command_of l))) none ∙ none_spent (requested_units (command_of l)) ∙ sym (none_spent (requested_units k)) ∙ ap (paid_part (requested_units k)) (sym none);
      units = omega (arith, is.units, none);
      made = omega (arith, objects);
      space = is.space;
      roomy = is.roomy;
    }
  where
    rest_part : (p : Part) → is_rest p ≡ true → p ≡ Rest
    rest_part Rest e = refl
    rest_part _ e = absurd cc

one_set : (xs : List Command) (k : Command) → length xs ≡ 1 → set xs 0 k ≡ k ∷ []
one_set [] k e = absurd (omega arith)
one_set (x ∷ []) k e = refl
one_set (x ∷ y ∷ zs) k e = absurd (omega arith)

pub begun_with : (l : LocalState) (k : Command) (before : ℕ) (log : List Entry) → IsLocal (begun k l) → length l.trace ≡ 1 → before ≡ l.before + works l.log → log ≡ [] → IsLocal (record l { before = before; trace = set l.trace 0 k; log = log })
begun_with l k before log is one more none =
    subst (λ n. IsLocal (record l { before = n; trace = set l.trace 0 k; log = log })) (sym more)
    (subst (λ x. IsLocal (record l { before = l.before + works l.log; trace = set l.trace 0 k; log = x })) (sym none)
    (subst (λ x. IsLocal (record l { before = l.before + works l.log; trace = x; log = [] })) (sym (one_set l.trace k one)) is))

-- the price of the command that it has then
pub begun_price : (l : LocalState) (k : Command) (log : List Entry) (price : ℕ) → length l.trace ≡ 1 → log ≡ []
    → price ≡ units_owed l.config.width l.rate k
    → price ≡ units_owed l.config.width l.rate (command_behind (set l.trace 0 k) log)
begun_price l k log price one none is =
    is ∙ sym (λ i. units_owed l.config.width l.rate (command_behind (one_set l.trace k one i) (none i)))

-- and of the next one, where one more is in the log
pub next_price : (l : LocalState) (log : List Entry) (e : Entry) (price : ℕ) → log ≡ l.log ++ e ∷ []
    → price ≡ units_owed l.config.width l.rate (get_or l.trace (length l.log + 1) (commands.Nil 0))
    → price ≡ units_owed l.config.width l.rate (command_behind l.trace log)
next_price l log e price same is =
    let long : length log ≡ length l.log + 1 = ap length same ∙ length-append l.log (e ∷ []) ∙ omega arith in
    is ∙ sym (ap (λ n. units_owed l.config.width l.rate (get_or l.trace n (commands.Nil 0))) long)

pub begun_long : (xs : List Command) (k : Command) (n : ℕ) → length xs ≡ 1 → length xs ≤ n → length (set xs 0 k) ≤ n
begun_long xs k n one low = let e : length (set xs 0 k) ≡ 1 = ap length (one_set xs k one) in omega arith

-- what is paid goes into the entry, or stays spent
pub replied_sum : (t : ℕ) (k : Command) (paid : ℕ) (o : Option Reply) → works (entries_of t k paid o) + spent_got o false paid ≡ paid + 0
replied_sum t k paid None = omega arith
replied_sum t k paid (Some r) = omega arith
