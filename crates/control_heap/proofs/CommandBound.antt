-- A command is served within its bound, and what the heap represents then.
use Rattle.std.proofs.Common.{◌≡◌, ℕ, zero, suc, ◌+◌, ◌*◌, ◌^◌, ◌≤◌, Bool, true, false, cond, ltb, ◌&&◌, eqb, eqb-true, subst, List, [], ◌∷◌, ◌++◌, length, length-append, append-nil, get_or, map, take, refl, sym, ap, ◌∙◌, arith, inl, inr}
use Rattle.std.proofs.lemmas.Bool.{cases_lt, and_parts}
use Rattle.std.proofs.lemmas.List.{append_cancel_left}
use Rattle.std.proofs.Math.Seq.{take-length}
use Rattle.std.proofs.Math.Nat.{mul-le-mul_right}
use Rattle.block_store.specs.declared.Config.{Config}
use Rattle.block_store.specs.Configs.{IsInBounds}
use Rattle.rate_plan.specs.Rates.{IsRate}
use Rattle.rate_plan.proofs.Plans.{found}
use Rattle.rate_plan.proofs.Rates.{one_rate, rate_low}
use Rattle.never_heap.specs.declared.Command.{Command}
use Rattle.never_heap.specs.declared.Entry.{Entry}
use Rattle.never_heap.specs.declared.Reply.{Reply}
use Rattle.never_heap.specs.Bounds.{IsCommandInBounds}
use Rattle.never_heap.specs.Histories.{part, replay}
use Rattle.never_heap.specs.RightWork.{requested_units, units_owed}
use Rattle.heap_system.specs.Lives.{sum_after, objects_of, most_units, most_objects}
use Rattle.heap_system.specs.Units.{IsRight}
use Rattle.heap_system.proofs.Lemmas.{IsSettled, Kept, entries_right, lone_ends, near_ends, owed_works, rest_is, sum_last, sum_more, works_append}
use Rattle.control_heap.proofs.GrownJobs.{HasRoomFor}
use Rattle.never_heap.specs.Steps.{blocks_of}
use Rattle.never_heap.proofs.Lemmas.{blocks_low, part_append, told_low}
use Rattle.barrier_steps.specs.Operands.{is_idle}
use Rattle.rate_plan.specs.solo_bound.Prices.{allocation_bound, idle_bound, other_bound}
use Rattle.heap_system.specs.Parts.{Rest}
use Rattle.heap_system.specs.declared.Turn.{Turn}
use Rattle.heap_system.specs.declared.Turn.TheVariants.{Went, Done}
use Rattle.heap_system.specs.Alone.{IsQuiet, HasCommand, EndsWithin, after_alone, command_bound, command_near}
use Rattle.heap_system.specs.Locals.{LocalState, begun, command_of, entries_of, is_done, is_rest, owed, turn_of, works, IsLocal}
use Rattle.heap_system.specs.Machines.{Run, IsAfterTurns, local_in, next_effect}
use Rattle.heap_system.specs.Pictures.{waiting}
use Rattle.control_heap.specs.Controls.{ControlOf, Stands, Answers, Machine, Served, GoesOn, asked, HasLeft, given_to, moved_times, entries_in}
use Rattle.control_heap.specs.Growth.{run_grown, given}
use Rattle.control_heap.proofs.DroppedHistory.{behind, behind_done, command_same, given_behind, history_of}
use Rattle.control_heap.proofs.HeapAsRun.{Carries, IsSafe, carried, events_grown, kept_of, low, safe}
use Rattle.control_heap.proofs.GrownRuns.{local_grown}
use Rattle.control_heap.proofs.Items.{Added, added_alone}

-- the bound of a command of a heap of one thread
pub bound_low : (c : Config) (rate : ℕ) (k : Command) → IsInBounds c → rate ≤ 131070 → c.threads ≡ 1 → IsCommandInBounds c k → command_bound c rate k ≤ 2 ^ 40
bound_low c rate k bounds few single fits = by (ltb 0 (blocks_of c.width k)) (is_idle k)
  where
    made : allocation_bound c.threads (blocks_of c.width k) rate ≤ 2 ^ 40
    made =
        let price : rate * blocks_of c.width k ≤ 131070 * blocks_of c.width k = mul-le-mul_right (blocks_of c.width k) few in
        let blocks : blocks_of c.width k ≤ c.object = blocks_low c k fits in
        subst (λ n. allocation_bound n (blocks_of c.width k) rate ≤ 2 ^ 40) (sym single) (omega (arith, price, blocks, bounds.object))

    idle : idle_bound c.threads (requested_units k) ≤ 2 ^ 40
    idle = subst (λ n. idle_bound n (requested_units k) ≤ 2 ^ 40) (sym single) (omega (arith, told_low c k fits))

    other : other_bound c.object ≤ 2 ^ 40
    other = omega (arith, bounds.object)

    by : (a b : Bool) → cond a (allocation_bound c.threads (blocks_of c.width k) rate) (cond b (idle_bound c.threads (requested_units k)) (other_bound c.object)) ≤ 2 ^ 40
    by true b = made
    by false true = idle
    by false false = other

pub not_done : (b : Bool) (x : Turn) → cond b Done x ≡ Went → b ≡ false
not_done true x e = absurd cc
not_done false x e = refl

moved_trace : (n : ℕ) (m : Machine) → (moved_times n m).thread.trace ≡ m.thread.trace
moved_trace zero m = refl
moved_trace (suc n) m = moved_trace n m

moved_before : (n : ℕ) (m : Machine) → (moved_times n m).thread.before ≡ m.thread.before
moved_before zero m = refl
moved_before (suc n) m = moved_before n m

-- a thread at rest has its part of the order in its log
told_at_rest : (c : Config) (single : c.threads ≡ 1) (r : Run) (is : IsAfterTurns c r) → is_rest (local_in c r 0).part ≡ true → part 0 r.order ≡ (local_in c r 0).log
told_at_rest c single r is rest =
    let l = local_in c r 0 in
    ((kept_of c single r is).locals 0 (low c single)).told
    ∙ ap (λ p. l.log ++ entries_of l.thread (command_of l) l.spent (waiting (replay c r.order) p)) (rest_is l.part rest)
    ∙ append-nil l.log

module _ {M : Type 0} (h : ControlOf M) (r : Run) (st : Stands h r) where
  abbrev c : Config
  c = h.config

  abbrev own : LocalState
  own = local_in h.config r 0

  kept : Kept h.config st.run.after.traces r
  kept = kept_of h.config st.single r st.run.after

  at_rest : is_rest own.part ≡ true
  at_rest = (and_parts (is_rest own.part) (eqb (length own.log) (length own.trace)) st.done).0

  pub rests : is_rest h.thread.part ≡ true
  rests = sym (ap (λ (l : LocalState). is_rest l.part) st.thread) ∙ at_rest

  pub long : length own.trace ≡ length own.log
  long = sym (eqb-true (length own.log) (length own.trace) (and_parts (is_rest own.part) (eqb (length own.log) (length own.trace)) st.done).1)

  pub unspent : h.thread.spent ≡ 0
  unspent =
      let settled : IsSettled (owed own) own.spent Rest = subst (λ p. IsSettled (owed own) own.spent p) (rest_is own.part at_rest) (kept.locals 0 (low h.config st.single)).settled in
      sym (ap (λ (l : LocalState). l.spent) st.thread) ∙ settled

  -- what its commands owe was made
  owed_is : (p : ℕ) → IsRate h.config p → sum_after (units_owed h.config.width p) 0 own.trace ≡ works own.log
  owed_is p is =
      let right : IsRight h.config.width p own.log = subst (λ es. IsRight h.config.width p es) (told_at_rest h.config st.single r st.run.after at_rest) (entries_right h.config st.run.after.traces r kept 0 (low h.config st.single) p is) in
      let all : map (λ (e : Entry). e.command) own.log ≡ own.trace = (kept.locals 0 (low h.config st.single)).said ∙ ap (λ n. take n own.trace) (sym long) ∙ take-length own.trace in
      sym (ap (sum_after (units_owed h.config.width p) 0) all) ∙ owed_works h.config.width p own.log right

  -- the thread has the configuration's rate
  pub rate_is : IsRate h.config h.thread.rate
  rate_is =
      let same : own.rate ≡ h.thread.rate = ap (λ (l : LocalState). l.rate) st.thread in
      subst (λ n. IsRate h.config n) same (subst (λ x. IsRate x own.rate) (kept.locals 0 (low h.config st.single)).config (kept.locals 0 (low h.config st.single)).fits.rate)

  pub config_is : h.thread.config ≡ h.config
  config_is = sym (ap (λ (l : LocalState). l.config) st.thread) ∙ (kept.locals 0 (low h.config st.single)).config

  module _ (k : Command) (fits : IsCommandInBounds h.config k) (left : HasLeft h k) where
    abbrev first : Machine
    first = given_to h k

    abbrev grown : Run
    grown = run_grown 0 k r

    room_here : HasRoomFor h.config 0 k own.trace
    room_here = record {
      few = (let l = long in omega (arith, l, st.count, left.0));
      units = λ p is. omega (arith, owed_is p is, st.units, left.2 p is);
      objects = omega (arith, st.objects, left.1);
    }

    pub begins : Carries h.config own.trace own.log first grown
    begins = record {
      run = events_grown h.config st.single r st.run k fits (subst (λ x. HasRoomFor h.config 0 k x) (kept.locals 0 (low h.config st.single)).trace room_here);
      words = st.words;
      thread = local_grown 0 k h.config (low h.config st.single) r.state 0
          ∙ ap (λ n. cond (eqb n 0) (given k own) own) (kept.locals 0 (low h.config st.single)).thread
          ∙ given_behind own h.thread k st.thread;
    }

    grown_fits : IsLocal (behind own.trace own.log first.thread)
    grown_fits = subst (λ l. IsLocal l) begins.thread ((kept_of h.config st.single grown begins.run.after).locals 0 (low h.config st.single)).fits

    as_long : length (own.log ++ []) ≡ length own.trace
    as_long = ap length (append-nil own.log) ∙ sym long

    pub begin_units : h.thread.before + works h.thread.log + units_owed h.thread.config.width h.thread.rate k ≤ most_units
    begin_units = omega (arith, grown_fits.life, sum_last (units_owed h.thread.config.width h.thread.rate) own.trace k (length (own.log ++ [])) as_long, ap works (append-nil own.log), st.units)

    pub begin_objects : h.thread.made + objects_of k ≤ most_objects
    begin_objects = omega (arith, grown_fits.made, sum_last objects_of own.trace k (length (own.log ++ [])) as_long)

    quiet : IsQuiet h.config grown
    quiet = record { nobody = st.quiet.nobody; opened = st.quiet.opened }

    has : HasCommand (local_in h.config grown 0)
    has = subst (λ l. HasCommand l) (sym begins.thread) (record {
      rest = rests;
      left = (let a : length (own.log ++ []) ≡ length own.log + 0 = length-append own.log [] in let b : length (own.trace ++ k ∷ []) ≡ length own.trace + 1 = length-append own.trace (k ∷ []) in let l = long in omega (arith, a, b, l));
    })

    abbrev rate : ℕ
    rate = (found h.config st.run.after.job.plan).0

    planned : IsRate h.config rate
    planned = (found h.config st.run.after.job.plan).1

    pub ends : EndsWithin h.config 0 grown (command_bound h.config rate (command_of (local_in h.config grown 0)))
    ends = lone_ends h.config begins.run.after.traces begins.run.after.job rate planned 0 (low h.config st.single) grown (kept_of h.config st.single grown begins.run.after) quiet has

    abbrev pub turns : ℕ
    turns = ends.turns

    command_is : command_of (local_in h.config grown 0) ≡ k
    command_is = ap command_of begins.thread ∙ command_same own.trace own.log long (begun k h.thread)

    pub turns_few : (p : ℕ) → IsRate h.config p → turns ≤ command_bound h.config p k
    turns_few p is = subst (λ q. turns ≤ command_bound h.config q k) (one_rate h.config rate p planned is) (subst (λ x. turns ≤ command_bound h.config rate x) command_is ends.few)

    goes : (n : ℕ) → n ≤ turns → GoesOn n first
    goes zero le i il = absurd (omega (arith, il))
    goes (suc n) le i il = elim (cases_lt i n) [
      | inl lower ↦ goes n (omega (arith, le)) i lower
      | inr high ↦
          let e : i ≡ n = omega (arith, il, high) in
          let at : Carries h.config own.trace own.log (moved_times n first) (after_alone h.config 0 grown n) = carried h.config st.single own.trace own.log long first grown begins n (goes n (omega (arith, le))) in
          let going : is_done (local_in h.config (after_alone h.config 0 grown n) 0) ≡ false = not_done _ (turn_of (next_effect h.config (after_alone h.config 0 grown n).state 0).step) (ends.went n (omega (arith, le))) in
          subst (λ j. is_done (moved_times j first).thread ≡ false) (sym e) (sym (behind_done own.trace own.log long (moved_times n first).thread) ∙ sym (ap is_done at.thread) ∙ going)
    ]

    -- where the run ends the command so does the machine
    module _ (b : ℕ) (e : EndsWithin h.config 0 grown b) (going : GoesOn e.turns first) where
      comes : Carries h.config own.trace own.log (moved_times e.turns first) (after_alone h.config 0 grown e.turns)
      comes = carried h.config st.single own.trace own.log long first grown begins e.turns going

      log_at : (moved_times e.turns first).thread.log ≡ e.entry ∷ []
      log_at = append_cancel_left own.log (moved_times e.turns first).thread.log (e.entry ∷ [])
          (sym (ap (λ (l : LocalState). l.log) comes.thread) ∙ e.log ∙ ap (λ (l : LocalState). l.log ++ e.entry ∷ []) begins.thread ∙ ap (λ x. x ++ e.entry ∷ []) (append-nil own.log))

      rest_at : is_rest (moved_times e.turns first).thread.part ≡ true
      rest_at = sym (ap (λ (l : LocalState). is_rest l.part) comes.thread) ∙ e.rest

      done_at : is_done (moved_times e.turns first).thread ≡ true
      done_at = λ i. rest_at i && eqb (length (log_at i)) (length (moved_trace e.turns first i))

    abbrev pub last : Machine
    last = moved_times turns first

    abbrev pub later : Run
    later = after_alone h.config 0 grown turns

    arrives : Carries h.config own.trace own.log last later
    arrives = carried h.config st.single own.trace own.log long first grown begins turns (goes turns (omega arith))

    pub log_is : last.thread.log ≡ ends.entry ∷ []
    log_is = log_at (command_bound h.config rate (command_of (local_in h.config grown 0))) ends (goes turns (omega arith))

    trace_is : last.thread.trace ≡ k ∷ []
    trace_is = moved_trace turns first

    pub over : is_done last.thread ≡ true
    over = done_at (command_bound h.config rate (command_of (local_in h.config grown 0))) ends (goes turns (omega arith))

    -- an end in fewer turns would be an end before the last
    pub turns_near : (p : ℕ) → IsRate h.config p → turns ≤ command_near h.config p k
    turns_near p is =
        let near = near_ends h.config begins.run.after.traces begins.run.after.job p is 0 (low h.config st.single) grown (kept_of h.config st.single grown begins.run.after) quiet has in
        let few : near.turns ≤ command_near h.config p k = subst (λ x. near.turns ≤ command_near h.config p x) command_is near.few in
        elim (cases_lt near.turns turns) [
          | inl fewer ↦ (let z : false ≡ true = sym (goes turns (omega arith) near.turns fewer) ∙ done_at (command_near h.config p (command_of (local_in h.config grown 0))) near (goes near.turns (omega arith)) in cc)
          | inr more ↦ omega (arith, few, more)
        ]

    -- no more events than these go on
    pub no_more : (n : ℕ) → GoesOn n first → n ≤ turns
    no_more n going = elim (cases_lt turns n) [
      | inl more ↦ (let z : false ≡ true = sym (going turns more) ∙ over in cc)
      | inr fine ↦ fine
    ]

    pub never_long : (n : ℕ) → GoesOn n first → n ≤ 2 ^ 40
    never_long n going = omega (arith, no_more n going, turns_few rate planned, bound_low h.config rate k st.run.after.job.bounds.config (rate_low h.config rate st.run.after.job.bounds.config st.run.after.job.plan planned) st.single fits)

    pub stays_safe : (n : ℕ) → GoesOn n first → IsSafe (moved_times n first).thread.config (moved_times n first).words (moved_times n first).thread
    stays_safe n going = safe h.config st.single own.trace own.log long (moved_times n first) (after_alone h.config 0 grown n) (carried h.config st.single own.trace own.log long first grown begins n going)

    then_log : (local_in h.config later 0).log ≡ own.log ++ ends.entry ∷ []
    then_log = ap (λ (l : LocalState). l.log) arrives.thread ∙ ap (λ x. own.log ++ x) log_is

    -- the heap that has served it
    abbrev pub served : M → ControlOf M
    served m = record { config = h.config; memory = m; words = last.words; thread = last.thread; count = h.count + 1; objects = h.objects + objects_of k }

    pub stands_then : (m : M) → Stands (served m) later
    stands_then m = record {
      single = st.single;
      run = arrives.run;
      words = arrives.words;
      thread = history_of (local_in h.config later 0) last.thread own.trace own.log arrives.thread;
      count = (let a : length (local_in h.config later 0).log ≡ length own.log + 1 = ap length then_log ∙ length-append own.log (ends.entry ∷ []) in let n = st.count in omega (arith, a, n));
      units = (let a : works (local_in h.config later 0).log ≡ works own.log + (ends.entry.work + 0) = ap works then_log ∙ works_append own.log (ends.entry ∷ []) in let b : works last.thread.log ≡ ends.entry.work + 0 = ap works log_is in omega (arith, a, b, moved_before turns first, st.units));
      objects = ap (sum_after objects_of 0) (ap (λ (l : LocalState). l.trace) arrives.thread ∙ ap (λ x. own.trace ++ x) trace_is) ∙ sum_more objects_of own.trace k ∙ ap (λ n. n + objects_of k) st.objects;
      done = ap is_done arrives.thread ∙ behind_done own.trace own.log long last.thread ∙ over;
      quiet = ends.quiet;
      one = ap length trace_is;
    }

    items_added : Added grown later
    items_added = added_alone h.config turns grown

    -- the entries that it adds
    entries_are : entries_in items_added.items ≡ ends.entry ∷ []
    entries_are = sym items_added.own ∙ append_cancel_left own.log (part 0 items_added.items) (ends.entry ∷ [])
        (ap (λ x. x ++ part 0 items_added.items) (sym (told_at_rest h.config st.single r st.run.after at_rest))
        ∙ sym (part_append 0 r.order items_added.items) ∙ ap (part 0) (sym items_added.order)
        ∙ told_at_rest h.config st.single later arrives.run.after ends.rest ∙ then_log)

    pub answers_then : (a : Reply) → a ≡ ends.entry.reply → Answers h.config k a r later
    answers_then a is = record {
      turns = turns;
      few = turns_few;
      near = turns_near;
      went = ends.went;
      after = refl;
      items = items_added.items;
      order = items_added.order;
      entry = ends.entry;
      entries = entries_are;
      command = ends.command ∙ command_is;
      reply = sym is;
    }

    -- whoever has served it
    module _ (z : Machine) (m : M) (is : Served first z) where
      pub events_are : is.events ≡ turns
      events_are = elim (cases_lt is.events turns) [
        | inl fewer ↦ (let e : false ≡ true = sym (goes turns (omega arith) is.events fewer) ∙ sym (ap (λ (x : Machine). is_done x.thread) is.after) ∙ is.done in cc)
        | inr more ↦ (let n = no_more is.events is.going in omega (arith, n, more))
      ]

      pub machine_is : z ≡ last
      machine_is = is.after ∙ ap (λ n. moved_times n first) events_are

      pub served_is : record { config = h.config; memory = m; words = z.words; thread = z.thread; count = h.count + 1; objects = h.objects + objects_of k } ≡ served m
      served_is = λ i. record { config = h.config; memory = m; words = (machine_is i).words; thread = (machine_is i).thread; count = h.count + 1; objects = h.objects + objects_of k }

      pub reply_is : (d : Entry) (a : Reply) → a ≡ (get_or z.thread.log 0 d).reply → a ≡ ends.entry.reply
      reply_is d a e = e ∙ ap (λ (x : Machine). (get_or x.thread.log 0 d).reply) machine_is ∙ ap (λ (x : List Entry). (get_or x 0 d).reply) log_is

      pub has_answered : (d : Entry) (a : Reply) → a ≡ (get_or z.thread.log 0 d).reply → (new : ControlOf M) → new ≡ record { config = h.config; memory = m; words = z.words; thread = z.thread; count = h.count + 1; objects = h.objects + objects_of k } → (q : Run) × Stands new q × Answers h.config k a r q
      has_answered d a e new same = (later, subst (λ x. Stands x later) (sym (same ∙ served_is)) (stands_then m), answers_then a (reply_is d a e))

      pub stands_after : Stands (record { config = h.config; memory = m; words = z.words; thread = z.thread; count = h.count + 1; objects = h.objects + objects_of k }) later
      stands_after = subst (λ x. Stands x later) (sym served_is) (stands_then m)

      pub more_asked : asked (record { config = h.config; memory = m; words = z.words; thread = z.thread; count = h.count + 1; objects = h.objects + objects_of k }) ≡ asked h + 1
      more_asked = refl

      pub logged : length z.thread.log ≡ 1
      logged = ap (λ (x : Machine). length x.thread.log) machine_is ∙ ap length log_is

      -- as many events as the run has turns, so within the same bounds
      pub events_few : (n : ℕ) → is.events ≡ n → (p : ℕ) → IsRate h.config p → n ≤ command_bound h.config p k
      events_few n counted p planned = subst (λ x. x ≤ command_bound h.config p k) (sym events_are ∙ counted) (turns_few p planned)

      pub events_near : (n : ℕ) → is.events ≡ n → (p : ℕ) → IsRate h.config p → n ≤ command_near h.config p k
      events_near n counted p planned = subst (λ x. x ≤ command_near h.config p k) (sym events_are ∙ counted) (turns_near p planned)
