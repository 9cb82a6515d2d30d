-- A command whose row is in hand: its events, one by one.
use Rattle.std.proofs.Common.{◌≡◌, ℕ, zero, suc, ◌+◌, ◌-◌, ◌*◌, ◌<◌, ◌≤◌, ◌^◌, true, false, cond, ltb, eqb, eq-eqb, ne_eqb, Option, Some, None, List, [], ◌∷◌, ◌++◌, length, append-nil, refl, sym, ap, ◌∙◌, subst, arith}
use Rattle.block_store.specs.declared.Config.{Config}
use Rattle.block_store.specs.Phases.{cycle_of, is_closed, phase_of}
use Rattle.block_store.specs.Places.{Phase, extent, index, words_count}
use Rattle.block_store.proofs.Lemmas.{below}
use Rattle.never_heap.specs.declared.Command.{Command}
use Rattle.never_heap.specs.declared.Reply.{Reply}
use Rattle.never_heap.specs.Bounds.{IsCommandInRange}
use Rattle.never_heap.specs.RightWork.{requested_units}
use Rattle.never_heap.specs.Steps.{blocks_of}
use Rattle.never_heap.proofs.CommandBounds as ranges
use Rattle.barrier_steps.specs.declared.rows.FieldRow.{FieldRow}
use Rattle.barrier_steps.specs.Fits.{FitsAt, IsThread, ReadsAt}
use Rattle.barrier_steps.specs.Rows.{at_first_row, field_reply, first_row, row_got, row_want, step_of}
use Rattle.barrier_steps.proofs.FieldRows as fields
use Rattle.barrier_steps.proofs.FieldRows.{first_fits}
use Rattle.build_steps.specs.Rows.{building}
use Rattle.grey_steps.specs.Rows.{scanning}
use Rattle.sweep_steps.specs.Rows.{sweeping}
use Rattle.heap_machine.specs.declared.op.Op.{Op}
use Rattle.heap_machine.specs.declared.pass.Pass.{Pass}
use Rattle.heap_machine.specs.declared.gate.GateRow.{GateRow}
use Rattle.heap_machine.specs.declared.gate.GateRow.TheVariants as gates
use Rattle.heap_machine.specs.declared.Step.TheVariants as steps
use Rattle.heap_machine.specs.Gates.{SeenOpen, gate_entered}
use Rattle.heap_machine.specs.Memories.{Acts, ReadsOnly}
use Rattle.heap_machine.specs.Operations.{CompareExchange, op_at, op_place, place_of}
use Rattle.heap_machine.specs.Readings.{IsPhaseWord}
use Rattle.heap_machine.proofs.Lemmas.{op_place-at}
use Rattle.work_account.specs.Accounts.{entered}
use Rattle.heap_system.specs.declared.Turn.{Turn}
use Rattle.heap_system.specs.declared.Turn.TheVariants.{Went, Waited}
use Rattle.heap_system.specs.AtOnce.{GoesIn, HasEntered, HasRunUpTo, OwesNothing, come_to, entering_by, HasRunFromGate, if_answered, inside_by, serving_at}
use Rattle.heap_system.specs.ThreadMemories.{HasRunOn, IsGoing, MakesTheNextEvent, MayRun, TellsLast, longest}
use Rattle.heap_system.specs.Locals.{Errand, IsLocal, LocalState, LocalReads, answered, balance_in, balance_paid, command_of, entries_of, errand_of, first_part, if_entered, if_replied, is_done, local_got, made_got, op_wanted, owed, part_step, pass_by, pass_got, spent_got, turn_of}
use Rattle.heap_system.specs.Parts.{Build, Enter, Mark, Rest, Access, Sweep}
use Rattle.heap_system.proofs.accounting.OwedAndPaid.{command_fits, thread_is}

-- fewer events may be made where more may
pub may_fewer : {M S : Type 0} (may : M → S → Op → Type 0) (acts : Acts M S) (k n : ℕ) → k ≤ n
    → (m : M) (s : S) (l : LocalState) → MayRun may acts n m s l → MayRun may acts k m s l
may_fewer may acts zero n low m s l has = tt
may_fewer may acts (suc k) zero low m s l has = absurd (omega (arith, low))
may_fewer may acts (suc k) (suc n) low m s l has = λ (going : IsGoing l).
    let lead = has going in
    record {
      allowed = lead.allowed;
      reads = lead.reads;
      on = λ w o acted. may_fewer may acts k n (omega (arith, low)) o s (local_got l w) (lead.on w o acted);
    }

-- one event in front of others, which did not wait
pub run_first : {M S : Type 0} (acts : Acts M S) (s : S) (n : ℕ) (m : M) (l : LocalState) (w : ℕ)
    (o : M) → acts m s (op_wanted l) w o → LocalReads l.config l w → IsGoing l
    → Went ≡ turn_of (part_step l.config l.part w) → (k : LocalState) → k ≡ local_got l w
    → (after : M) (new : LocalState) (turn : Turn) → HasRunUpTo n acts s o k after new turn
    → (all : HasRunUpTo (suc n) acts s m l after new turn) × (0 < length all.0.words)
run_first acts s n m l w o acted reads going went k is after new turn has =
    let rest : HasRunUpTo n acts s o (local_got l w) after new turn =
    subst (λ (x : LocalState). HasRunUpTo n acts s o x after new turn) is has in (
      (
        record {
          words = w ∷ rest.0.words;
          ran = (o, acted, reads, rest.0.ran, going);
          told = tells rest.0.words rest.0.told;
        },
        omega (arith, rest.1),
      ),
      omega arith,
    )
  where
    tells : (ws : List ℕ) → TellsLast (local_got l w) ws turn → TellsLast l (w ∷ ws) turn
    tells [] told = told ∙ went
    tells (v ∷ vs) told = (went, told)

-- no event
pub run_none : {M S : Type 0} (acts : Acts M S) (s : S) (n : ℕ) (m : M) (l k : LocalState) → k ≡ l
    → HasRunUpTo n acts s m l m k Went
run_none acts s n m l k is = (record { words = []; ran = (refl, sym is); told = refl }, omega arith)

-- a step of a command does not wait
step_went : (o : Option Reply) → Went ≡ turn_of (step_of o)
step_went None = refl
step_went (Some r) = refl

-- the thread after an event at a row, by the reply that it brings
module _ (l : LocalState) (p : Pass) (row r : FieldRow) where
  abbrev L : LocalState
  L = serving_at l p row

  got_by : (o : Option Reply)
      → record L {
        log = l.log ++ entries_of l.thread (command_of l) l.spent o;
        balance = balance_paid o false (requested_units (command_of l))
            (blocks_of l.config.width (command_of l)) L.balance;
        spent = spent_got o false l.spent;
        made = made_got (command_of l) o l.made;
        part = if_replied o (Access (record { pass = p; command = command_of l; row = r }));
      } ≡ if_answered o (serving_at l p r)
  got_by None = λ i. record (serving_at l p r) { log = append-nil l.log i }
  got_by (Some a) = refl

-- An event at a row that has no reply yet, where the code has x for the configuration and k for the
-- command.
module _ {M S : Type 0} (may : M → S → Op → Type 0) (acts : Acts M S) (s : S) (l : LocalState)
    (p : Pass) (x : Config) (same : x ≡ l.config) (k : Command) (is : k ≡ command_of l)
    (row : FieldRow) (fits : FitsAt x p k row) (unsaid : field_reply row ≡ None) (n : ℕ) (m : M)
    (has : MayRun may acts (suc n) m s (come_to l p row)) where
  abbrev X : LocalState
  X = serving_at l p row

  abbrev op : Op
  op = op_at (extent x) (row_want (extent x) p k row)

  here : come_to l p row ≡ X
  here = ap (λ o. if_answered o X) unsaid

  op_same : op ≡ op_wanted X
  op_same = λ i. op_at (extent (same i)) (row_want (extent (same i)) p (is i) row)

  low : op_place op < words_count (extent x)
  low =
      let want = row_want (extent x) p k row in
      let inside : index (extent x) (place_of want) < words_count (extent x) =
      below (extent x) (place_of want) (fields.place_at x p k row fits) in
      let at : op_place op ≡ index (extent x) (place_of want) = op_place-at (extent x) want in
      omega (arith, inside, at)

  going : IsGoing X
  going = (
    refl,
    subst (λ y. op_place y < words_count (extent l.config)) op_same
        (subst (λ (c : Config). op_place op < words_count (extent c)) same low),
  )

  lead : MakesTheNextEvent may acts (MayRun may acts n) m s X
  lead = (subst (λ (y : LocalState). MayRun may acts (suc n) m s y) here has) going

  pub allowed : may m s op
  allowed = subst (may m s) (sym op_same) lead.allowed

  reads_at : (w : ℕ) → LocalReads l.config X w → ReadsAt x p k row w
  reads_at w reads = subst (λ (c : Config). ReadsAt c p k row w) (sym same)
      (subst (λ (y : Command). ReadsAt l.config p y row w) (sym is) reads.0)

  pub reads_well : ReadsOnly acts m s op (ReadsAt x p k row)
  reads_well w o acted = reads_at w (lead.reads w o (subst (λ y. acts m s y w o) op_same acted))

  module _ (w : ℕ) (o : M) (acted : acts m s op w o) (r : FieldRow)
      (got : r ≡ row_got (extent x) p k row w) where
    acted_so : acts m s (op_wanted X) w o
    acted_so = subst (λ y. acts m s y w o) op_same acted

    came : come_to l p r ≡ local_got X w
    came =
        let next = row_got (extent l.config) p (command_of l) row w in
        let e : r ≡ next = got ∙ (λ i. row_got (extent (same i)) p (is i) row w) in
        ap (come_to l p) e ∙ sym (got_by l p row next (field_reply next))

    -- some events may be made after it
    pub may_on : (j : ℕ) → j ≤ n → MayRun may acts j o s (come_to l p r)
    may_on j few = may_fewer may acts j n few o s (come_to l p r)
        (subst (λ (y : LocalState). MayRun may acts n o s y) (sym came) (lead.on w o acted_so))

    -- and those that were made have this one in front
    pub run_on : (j : ℕ) → j ≤ n → (after : M) (new : LocalState) (turn : Turn)
        → HasRunUpTo j acts s o (come_to l p r) after new turn
        → HasRunUpTo (suc n) acts s m (come_to l p row) after new turn
    run_on j few after new turn run =
        let went : Went ≡ turn_of (part_step l.config X.part w) =
        step_went (field_reply (row_got (extent l.config) p (command_of l) row w)) in
        let all = run_first acts s j m X w o acted_so (lead.reads w o acted_so) going went
        (come_to l p r) came after new turn run in
        subst (λ (y : LocalState). HasRunUpTo (suc n) acts s m y after new turn) (sym here)
        (all.0.0, omega (arith, all.0.1, few))

-- no event, at a row that has no reply
pub stays_at : {M S : Type 0} (acts : Acts M S) (s : S) (n : ℕ) (m : M) (l : LocalState) (p : Pass)
    (row : FieldRow) → field_reply row ≡ None → (new : LocalState) → new ≡ serving_at l p row
    → HasRunUpTo n acts s m (come_to l p row) m new Went
stays_at acts s n m l p row unsaid new is =
    run_none acts s n m (come_to l p row) new
    (is ∙ sym (ap (λ o. if_answered o (serving_at l p row)) unsaid))

-- the way out, at a row that has the reply
module _ {M S : Type 0} (may : M → S → Op → Type 0) (acts : Acts M S) (s : S) (l : LocalState)
    (p : Pass) (x : Config) (same : x ≡ l.config) (row : FieldRow) (reply : Reply)
    (said : field_reply row ≡ Some reply) (m : M) (has : MayRun may acts 1 m s (come_to l p row)) where
  abbrev K : LocalState
  K = answered (serving_at l p row) reply

  at_out : come_to l p row ≡ K
  at_out = ap (λ o. if_answered o (serving_at l p row)) said

  out_low : op_place (op_wanted K) < words_count (extent l.config)
  out_low = (let inside = below (extent l.config) Phase refl in omega (arith, inside))

  pub goes_out : (place : ℕ) → place ≡ index (extent x) Phase → (w : ℕ) (o : M)
      → acts m s (Op.FetchSub place 1) w o → (new : LocalState)
      → new ≡ record (come_to l p (FieldRow.Answered reply)) { part = Rest }
      → HasRunUpTo 1 acts s m (come_to l p row) o new Went
  goes_out place at w o acted new is =
      let by : acts m s (op_wanted K) w o =
      subst (λ i. acts m s (Op.FetchSub i 1) w o) (at ∙ ap (λ (c : Config). index (extent c) Phase) same) acted in
      let going : IsGoing K = (refl, out_low) in
      let lead = (subst (λ (y : LocalState). MayRun may acts 1 m s y) at_out has) going in
      let got : new ≡ local_got K w =
      is ∙ (λ i. record K { log = sym (append-nil K.log) i; part = Rest }) in
      let all = run_first acts s 0 m K w o by (lead.reads w o by) going refl new got o new Went
      (run_none acts s 0 o new new refl) in
      subst (λ (y : LocalState). HasRunUpTo 1 acts s m y o new Went) (sym at_out) all.0

-- the same, of more events and at a row by another name
module _ {M S : Type 0} (acts : Acts M S) (s : S) (m : M) (l : LocalState) (p : Pass)
    (row r : FieldRow) (same : row ≡ r) (j n : ℕ) (few : j ≤ n) where
  pub may_from : (may : M → S → Op → Type 0) → MayRun may acts n m s (come_to l p row)
      → MayRun may acts j m s (come_to l p r)
  may_from may has = may_fewer may acts j n few m s (come_to l p r)
      (subst (λ x. MayRun may acts n m s (come_to l p x)) same has)

  pub run_from : (after : M) (new : LocalState) (turn : Turn)
      → HasRunUpTo j acts s m (come_to l p r) after new turn
      → HasRunUpTo n acts s m (come_to l p row) after new turn
  run_from after new turn run = subst (λ x. HasRunUpTo n acts s m (come_to l p x) after new turn)
      (sym same) (run.0, omega (arith, run.1, few))

-- a thread that owes nothing and goes in, at the first row of its command
first_serves : (c : Config) (p : Pass) (e : Errand) → e.due ≡ 0 → blocks_of c.width e.command ≡ 0
    → first_part c p e ≡ Access (at_first_row p e.command)
first_serves c p e none some =
    ap (λ n. cond (ltb 0 n)
    (cond p.sweep (Sweep (sweeping p.thread p.cycle c.blocks e.due)) (Mark (scanning p)))
    (cond (ltb 0 (blocks_of c.width e.command))
    (Build (building c.width p.thread p.threads p.cycle e.serial e.command e.space))
    (Access (at_first_row p e.command)))) none
    ∙ ap (λ n. cond (ltb 0 n)
    (Build (building c.width p.thread p.threads p.cycle e.serial e.command e.space))
    (Access (at_first_row p e.command))) some

module _ (l : LocalState) (p : Pass) (k : Command) (r : FieldRow) (owes : OwesNothing k r) where
  pub inside_is : GoesIn l p k → inside_by l p ≡ come_to l p r
  inside_is goes =
      let none : owed l - l.spent ≡ 0 = (let paid = goes.paid in omega (arith, paid)) in
      let blocks : blocks_of l.config.width (command_of l) ≡ 0 =
      ap (blocks_of l.config.width) (sym goes.command) ∙ owes.blocks l.config.width in
      let row : first_row (command_of l) ≡ r = ap first_row (sym goes.command) ∙ sym owes.first in
      ap (λ q. record l { balance = entered p.cycle l.balance; pass = p; part = q })
      (first_serves l.config p (errand_of l) none blocks)
      ∙ ap (serving_at l p) row ∙ sym (ap (λ o. if_answered o (serving_at l p r)) owes.unsaid)

  pub goes_by_pass : IsLocal l → l.part ≡ Rest → length l.log < length l.trace
      → (1 ≤ p.cycle) × (p.cycle ≤ 2 ^ 54 - 2) → l.balance.cycle ≤ p.cycle
      → (p.thread ≡ l.thread) × (p.threads ≡ l.config.threads) → k ≡ command_of l
      → GoesIn l p k × FitsAt l.config p k r
  goes_by_pass is rest low cycle later mine command =
      let price : l.rate * blocks_of l.config.width (command_of l) ≡ l.rate * 0 =
      ap (λ y. l.rate * blocks_of l.config.width y) (sym command) ∙ ap (λ n. l.rate * n) (owes.blocks l.config.width) in
      let told : requested_units (command_of l) ≡ 0 = ap requested_units (sym command) ∙ owes.told in
      let paid : l.spent ≡ owed l = (let most = is.paid in omega (arith, most, price, told)) in
      let thread : IsThread l.config p.thread = subst (IsThread l.config) (sym mine.0) (thread_is l is) in
      let fits : FitsAt l.config p k (first_row k) = first_fits l.config p k thread mine.1 is.bounds.blocks
      (subst IsCommandInRange (sym command) (ranges.in_range l.config (command_of l) (command_fits l is))) in (
        record {
          rest = rest;
          low = low;
          pass = record {
            thread = (let one = is.thread in omega (arith, one, mine.0, mine.1));
            few = (let few = is.bounds.threads in omega (arith, few, mine.1));
            first = cycle.0;
            last = cycle.1;
          };
          thread = mine.0;
          threads = mine.1;
          later = later;
          command = command;
          paid = paid;
          blocks = owes.blocks l.config.width;
        },
        subst (FitsAt l.config p k) (sym owes.first) fits,
      )

-- ---- at the gate

-- the thread after an event at the gate, where that came to this row
abbrev pub gated : LocalState → GateRow → LocalState
gated l g = record l {
  log = l.log ++ [];
  balance = balance_in (gate_entered g) l.balance;
  pass = pass_got (gate_entered g) l.thread l.config.threads l.pass;
  part = if_entered (gate_entered g) l.config l.thread (errand_of l) g;
}

-- one event, the last
run_last : {M S : Type 0} (acts : Acts M S) (s : S) (n : ℕ) (m : M) (l : LocalState) (w : ℕ) (o : M)
    → acts m s (op_wanted l) w o → LocalReads l.config l w → IsGoing l → (new : LocalState)
    → new ≡ local_got l w → (turn : Turn) → turn ≡ turn_of (part_step l.config l.part w)
    → (all : HasRunUpTo (suc n) acts s m l o new turn) × (0 < length all.0.words)
run_last acts s n m l w o acted reads going new got turn told = (
  (
    record { words = w ∷ []; ran = (o, acted, reads, (refl, sym got), going); told = told },
    omega arith,
  ),
  omega arith,
)

gate_low : (c : Config) → index (extent c) Phase < words_count (extent c)
gate_low c = below (extent c) Phase refl

-- From where it has seen an open gate.
module _ {M S : Type 0} (may : M → S → Op → Type 0) (acts : Acts M S) (s : S) (l : LocalState)
    (x : Config) (same : x ≡ l.config) (seen : ℕ) (m : M)
    (has : MayRun may acts 63 m s (entering_by l seen)) where
  abbrev T : LocalState
  T = entering_by l seen

  trying : IsGoing T
  trying = (refl, gate_low l.config)

  trying_leads : MakesTheNextEvent may acts (MayRun may acts 62) m s T
  trying_leads = has trying

  trying_op : op_at (extent x) (CompareExchange Phase seen (seen + 1)) ≡ op_wanted T
  trying_op = ap (λ (c : Config). op_at (extent c) (CompareExchange Phase seen (seen + 1))) same

  pub tries_may : may m s (op_at (extent x) (CompareExchange Phase seen (seen + 1)))
  tries_may = subst (may m s) (sym trying_op) trying_leads.allowed

  module _ (w : ℕ) (o : M)
      (acted : acts m s (op_at (extent x) (CompareExchange Phase seen (seen + 1))) w o) where
    by : acts m s (op_wanted T) w o
    by = subst (λ y. acts m s y w o) trying_op acted

    pub tried_reads : LocalReads l.config T w
    tried_reads = trying_leads.reads w o by

    module _ (won : w ≡ seen) (p : Pass) (mine : p ≡ pass_by l.thread l.config.threads (phase_of seen)) where
      wins : eqb w seen ≡ true
      wins = eq-eqb w seen won

      went_in : inside_by l p ≡ local_got T w
      went_in =
          ap (inside_by l) mine
          ∙ (λ i. record (inside_by l (pass_by l.thread l.config.threads (phase_of seen))) { log = sym (append-nil l.log) i })
          ∙ ap (λ b. gated l (cond b (gates.Entered seen) gates.Look)) (sym wins)

      pub inside_may : MayRun may acts 62 o s (inside_by l p)
      inside_may = subst (λ (y : LocalState). MayRun may acts 62 o s y) (sym went_in) (trying_leads.on w o by)

      pub inside_run : (after : M) (new : LocalState) (turn : Turn)
          → HasRunUpTo 62 acts s o (inside_by l p) after new turn
          → HasRunUpTo 63 acts s m T after new turn
      inside_run after new turn run =
          let went : Went ≡ turn_of (part_step l.config T.part w) =
          ap (λ b. turn_of (cond b steps.Over steps.Waited)) (sym wins) in
          (run_first acts s 62 m T w o by tried_reads trying went (inside_by l p) went_in after new turn run).0

      pub gone_in : SeenOpen seen × (1 ≤ cycle_of seen) → HasEntered may acts s (HasRunFromGate acts s m l seen) l o p
      gone_in good =
          let cycle : p.cycle ≡ cycle_of seen = ap (λ (q : Pass). q.cycle) mine in
          let last = good.0.word.cycle in
          let first = good.1 in
          let entered : l.balance.cycle ≤ cycle_of w = tried_reads.1 in
          let same_word : cycle_of w ≡ cycle_of seen = ap cycle_of won in
          record {
            cycle = (omega (arith, cycle, first), omega (arith, cycle, last));
            later = omega (arith, cycle, entered, same_word);
            mine = (ap (λ (q : Pass). q.thread) mine, ap (λ (q : Pass). q.threads) mine);
            may_on = inside_may;
            leads = inside_run;
          }

    pub lost_run : (w ≡ seen → ⊥) → (new : LocalState) → new ≡ record l { part = Enter gates.Look }
        → HasRunUpTo 63 acts s m T o new Waited
    lost_run lost new is =
        let loses : eqb w seen ≡ false = ne_eqb w seen lost in
        let got : new ≡ local_got T w =
        is ∙ (λ i. record l { log = sym (append-nil l.log) i; part = Enter gates.Look })
        ∙ ap (λ b. gated l (cond b (gates.Entered seen) gates.Look)) (sym loses) in
        (run_last acts s 62 m T w o by tried_reads trying new got Waited
        (ap (λ b. turn_of (cond b steps.Over steps.Waited)) (sym loses))).0

-- From rest.
module _ {M S : Type 0} (may : M → S → Op → Type 0) (acts : Acts M S) (s : S) (l : LocalState)
    (rest : l.part ≡ Rest) (undone : is_done l ≡ false) (x : Config) (same : x ≡ l.config) (m : M)
    (has : MayRun may acts longest m s l) where
  abbrev R : LocalState
  R = record l { part = Rest }

  at_rest : l ≡ R
  at_rest = λ i. record l { part = rest i }

  looking : IsGoing R
  looking = (ap is_done (sym at_rest) ∙ undone, gate_low l.config)

  looking_leads : MakesTheNextEvent may acts (MayRun may acts 63) m s R
  looking_leads = (subst (λ (y : LocalState). MayRun may acts longest m s y) at_rest has) looking

  looking_op : Op.Load (index (extent x) Phase) ≡ op_wanted R
  looking_op = ap (λ (c : Config). Op.Load (index (extent c) Phase)) same

  pub looks_may : (place : ℕ) → place ≡ index (extent x) Phase → may m s (Op.Load place)
  looks_may place at = subst (λ n. may m s (Op.Load n)) (sym at)
      (subst (may m s) (sym looking_op) looking_leads.allowed)

  module _ (place : ℕ) (at : place ≡ index (extent x) Phase) (w : ℕ) (o : M)
      (acted : acts m s (Op.Load place) w o) where
    looked : acts m s (op_wanted R) w o
    looked = subst (λ y. acts m s y w o) (ap (λ n. Op.Load n) at ∙ looking_op) acted

    reads : LocalReads l.config R w
    reads = looking_leads.reads w o looked

    pub seen_word : IsPhaseWord w × (1 ≤ cycle_of w)
    seen_word = (reads.0.0, reads.0.1)

    module _ (opened : is_closed w ≡ false) where
      goes_to : entering_by l w ≡ local_got R w
      goes_to =
          (λ i. record (entering_by l w) { log = sym (append-nil l.log) i })
          ∙ ap (λ b. gated l (cond b gates.Look (gates.Enter w))) (sym opened)

      pub entering_may : MayRun may acts 63 o s (entering_by l w)
      entering_may = subst (λ (y : LocalState). MayRun may acts 63 o s y) (sym goes_to) (looking_leads.on w o looked)

      pub entering_run : (after : M) (new : LocalState) (turn : Turn)
          → HasRunUpTo 63 acts s o (entering_by l w) after new turn → HasRunOn acts s m l after new turn
      entering_run after new turn run =
          let went : Went ≡ turn_of (part_step l.config Rest w) =
          ap (λ b. turn_of (cond b steps.Waited steps.Went)) (sym opened) in
          let all = run_first acts s 63 m R w o looked reads looking went (entering_by l w) goes_to after new turn run in
          subst (λ (y : LocalState). HasRunOn acts s m y after new turn) (sym at_rest) (all.0.0, all.1, all.0.1)

    pub closed_run : is_closed w ≡ true → (new : LocalState)
        → new ≡ record l { part = Enter gates.Look } → HasRunOn acts s m l o new Waited
    closed_run closed new is =
        let got : new ≡ local_got R w =
        is ∙ (λ i. record l { log = sym (append-nil l.log) i; part = Enter gates.Look })
        ∙ ap (λ b. gated l (cond b gates.Look (gates.Enter w))) (sym closed) in
        let all = run_last acts s 63 m R w o looked reads looking new got Waited
        (ap (λ b. turn_of (cond b steps.Waited steps.Went)) (sym closed)) in
        subst (λ (y : LocalState). HasRunOn acts s m y o new Waited) (sym at_rest) (all.0.0, all.1, all.0.1)

-- ---- a thread that is alone, and went in

-- what leads on from one moment leads on from an earlier one
pub gone_earlier : {M S : Type 0} (may : M → S → Op → Type 0) (acts : Acts M S) (s : S)
    (on from : M → LocalState → Turn → Type 0)
    → ((after : M) (new : LocalState) (turn : Turn) → on after new turn → from after new turn)
    → (l : LocalState) (o : M) (p : Pass) → HasEntered may acts s on l o p → HasEntered may acts s from l o p
gone_earlier may acts s on from back l o p is = record {
  cycle = is.cycle;
  later = is.later;
  mine = is.mine;
  may_on = is.may_on;
  leads = λ after new turn run. back after new turn (is.leads after new turn run);
}

-- from the first row of a command that owes nothing
module _ {M S : Type 0} (may : M → S → Op → Type 0) (acts : Acts M S) (s : S)
    (on : M → LocalState → Turn → Type 0) (l : LocalState) (o : M) (p : Pass)
    (is : HasEntered may acts s on l o p) (k : Command) (r : FieldRow) (owes : OwesNothing k r)
    (goes : GoesIn l p k) (j : ℕ) (few : j ≤ 62) where
  pub row_may : MayRun may acts j o s (come_to l p r)
  row_may = may_fewer may acts j 62 few o s (come_to l p r)
      (subst (λ (y : LocalState). MayRun may acts 62 o s y) (inside_is l p k r owes goes) is.may_on)

  pub row_run : (after : M) (new : LocalState) (turn : Turn)
      → HasRunUpTo j acts s o (come_to l p r) after new turn → on after new turn
  row_run after new turn run =
      is.leads after new turn
      (subst (λ (y : LocalState). HasRunUpTo 62 acts s o y after new turn)
      (sym (inside_is l p k r owes goes)) (run.0, omega (arith, run.1, few)))
