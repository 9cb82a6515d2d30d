-- A thread makes no more objects than it has entries. So the names of a text's job are few, and
-- their owner words are those of 17 bits for a serial.
use Rattle.std.proofs.Common.{ℕ, zero, suc, ◌+◌, ◌<◌, ◌≤◌, ◌^◌, ◌≡◌, Bool, true, false, cond, eq-eqb, ne_eqb, Option, Some, None, List, [], ◌∷◌, length, length-append, get_or, refl, sym, ap, ◌∙◌, subst, inl, inr, arith}
use Rattle.std.proofs.lemmas.Bool.{cases_eq, cases_lt}
use Rattle.std.specs.List.{AllByRecursion}
use Rattle.block_store.specs.declared.Config.{Config}
use Rattle.block_store.specs.declared.Name.{Name}
use Rattle.block_store.specs.declared.Owner.{Owner}
use Rattle.block_store.specs.Owners.{IsOwner, owner_code, owner_of, owner_word}
use Rattle.block_store.specs.WideOwners.{wide_word}
use Rattle.rate_plan.specs.Rates.{IsAdmitted}
use Rattle.never_heap.specs.declared.Command.{Command}
use Rattle.never_heap.specs.declared.Entry.{Entry}
use Rattle.never_heap.specs.declared.Reply.{Reply}
use Rattle.never_heap.specs.Graphs.{Graph, count_of, has_name, start_graph}
use Rattle.never_heap.specs.Histories.{HistoryItem, Started, Did, is_full, after, replay, replay_from, part}
use Rattle.never_heap.specs.Jobs.{IsTraceInBounds}
use Rattle.never_heap.specs.Steps.{step, makes_object}
use Rattle.never_heap.proofs.Lemmas.{change_of, count_of_other, count_of_start, name_of_thread, step_count, step_threads, threads_of_start}
use Rattle.heap_machine.specs.declared.pass.Pass.{Pass}
use Rattle.heap_system.specs.Locals.{LocalState, PartFits, command_of, entries_of}
use Rattle.heap_system.specs.Machines.{Run, IsRunOf, IsJob, IsAfterTurns, local_in}
use Rattle.heap_system.specs.Parts.{Part, Rest, Enter, Access, Mark, Sweep, Build, Retry, LeaveToChangePhase, PhaseChange, Leave}
use Rattle.heap_system.specs.Pictures.{waiting, entries_waiting}
use Rattle.heap_system.proofs.Lemmas.{Kept, job_of_text, laws_of, run_kept}
use Rattle.trace_text.specs.Jobs.{Job, IsJobInBounds}

-- ---- as many objects as entries at most

-- no thread from number n on has an entry
abbrev AreBelow : ℕ → List HistoryItem → Type 0
AreBelow n h = (u : ℕ) → n ≤ u → part u h ≡ []

first_below : (n : ℕ) (e : Entry) (h : List HistoryItem) → AreBelow n (Did e ∷ h) → e.thread < n
first_below n e h are = elim (cases_lt e.thread n) [
  | inl low ↦ low
  | inr out ↦
      let some : e ∷ part e.thread h ≡ [] =
      sym (ap (λ b. cond b (e ∷ part e.thread h) (part e.thread h)) (eq-eqb e.thread e.thread refl)) ∙ are e.thread out in
      absurd cc
]

rest_below : (n : ℕ) (e : Entry) (h : List HistoryItem) → AreBelow n (Did e ∷ h) → AreBelow n h
rest_below n e h are u out =
    let low = first_below n e h are in
    sym (ap (λ b. cond b (e ∷ part u h) (part u h)) (ne_eqb e.thread u (λ same. absurd (omega (arith, low, out, same)))))
    ∙ are u out

after_threads : (g : Graph) (e : Entry) → length (after g (Did e)).mutators ≡ length g.mutators
after_threads g e = chosen (is_full e.reply)
  where
    chosen : (b : Bool) → length (cond b g (step g e.thread e.command).0).mutators ≡ length g.mutators
    chosen true = refl
    chosen false = step_threads g e.thread e.command

after_own : (g : Graph) (e : Entry) → e.thread < length g.mutators
    → count_of (after g (Did e)) e.thread ≤ count_of g e.thread + 1
after_own g e there = chosen (is_full e.reply)
  where
    chosen : (b : Bool) → count_of (cond b g (step g e.thread e.command).0) e.thread ≤ count_of g e.thread + 1
    chosen true = omega arith
    chosen false = step_count g e.thread e.command there

after_other : (g : Graph) (e : Entry) (t : ℕ) → e.thread < length g.mutators → (e.thread ≡ t → ⊥)
    → count_of (after g (Did e)) t ≡ count_of g t
after_other g e t there other = chosen (is_full e.reply)
  where
    chosen : (b : Bool) → count_of (cond b g (step g e.thread e.command).0) t ≡ count_of g t
    chosen true = refl
    chosen false = count_of_other g e.thread t (makes_object e.command) (step g e.thread e.command).0 there other (change_of g e.thread e.command)

one_more : (g : Graph) (e : Entry) (h : List HistoryItem) (t : ℕ) → e.thread < length g.mutators
    → count_of (after g (Did e)) t + length (part t h) ≤ count_of g t + length (part t (Did e ∷ h))
one_more g e h t there = elim (cases_eq e.thread t) [
  | inl same ↦
      let longer : part t (Did e ∷ h) ≡ e ∷ part t h =
      ap (λ b. cond b (e ∷ part t h) (part t h)) (eq-eqb e.thread t same) in
      let long = ap length longer in
      let most = subst (λ u. count_of (after g (Did e)) u ≤ count_of g u + 1) same (after_own g e there) in
      omega (arith, long, most)
  | inr other ↦
      let same_part : part t (Did e ∷ h) ≡ part t h =
      ap (λ b. cond b (e ∷ part t h) (part t h)) (ne_eqb e.thread t other) in
      let long = ap length same_part in
      let same_count = after_other g e t there other in
      omega (arith, long, same_count)
]

counts_from : (n : ℕ) (g : Graph) (h : List HistoryItem) (t : ℕ) → length g.mutators ≡ n
    → AreBelow n h → count_of (replay_from g h) t ≤ count_of g t + length (part t h)
counts_from n g [] t long are = omega arith
counts_from n g (Started ∷ h) t long are = counts_from n g h t long are
counts_from n g (Did e ∷ h) t long are =
    let low = first_below n e h are in
    let rest = counts_from n (after g (Did e)) h t (after_threads g e ∙ long) (rest_below n e h are) in
    let one = one_more g e h t (omega (arith, low, long)) in
    omega (arith, rest, one)

counts_logged : (c : Config) (h : List HistoryItem) (t : ℕ) → AreBelow c.threads h
    → count_of (replay c h) t ≤ length (part t h)
counts_logged c h t are =
    let most = counts_from c.threads (start_graph c) h t (threads_of_start c) are in
    omega (arith, most, count_of_start c t)

-- ---- as many entries as commands at most

-- a thread that is not done with its trace has room for the entry that is to come
waiting_fits : (g : Graph) (c : Config) (done all t work : ℕ) (pass : Pass) (k : Command) (p : Part)
    → done ≤ all → PartFits c done all pass p
    → done + length (entries_of t k work (waiting g p)) ≤ all
waiting_fits g c done all t work pass k Rest low fits = omega arith
waiting_fits g c done all t work pass k (Enter x) low fits = omega arith
waiting_fits g c done all t work pass k (Access f) low fits = one (waiting g (Access f))
  where
    one : (o : Option Reply) → done + length (entries_of t k work o) ≤ all
    one None = omega arith
    one (Some r) = omega (arith, fits.1)
waiting_fits g c done all t work pass k (Mark x) low fits = omega arith
waiting_fits g c done all t work pass k (Sweep x) low fits = omega arith
waiting_fits g c done all t work pass k (Build x) low fits = omega arith
waiting_fits g c done all t work pass k Retry low fits = omega arith
waiting_fits g c done all t work pass k LeaveToChangePhase low fits = omega arith
waiting_fits g c done all t work pass k (PhaseChange x) low fits = omega arith
waiting_fits g c done all t work pass k Leave low fits = omega arith

few_at : (c : Config) (traces : List (List Command)) (t : ℕ)
    → AllByRecursion (IsTraceInBounds c) traces → length (get_or traces t []) ≤ 131072
few_at c [] t each = omega arith
few_at c (x ∷ xs) zero each = each.0.few
few_at c (x ∷ xs) (suc t) each = few_at c xs t each.1

module _ (job : Job) (is : IsJobInBounds job) (plan : IsAdmitted job.config) (turns : List ℕ)
    (r : Run) (by : IsRunOf job.config job.traces turns r) where
  pub life : IsJob job.config job.traces
  life = job_of_text job.config job.traces is plan

  pub ran : IsAfterTurns job.config r
  ran = record { traces = job.traces; job = life; turns = turns; by_turns = by }

  kept : Kept job.config job.traces r
  kept = run_kept job.config job.traces (laws_of job.config) life turns r by

  few_entries : (t : ℕ) → length (part t r.order) ≤ 131072
  few_entries t = elim (cases_lt t job.config.threads) [
    | inl low ↦
        let l : LocalState = local_in job.config r t in
        let k = kept.locals t low in
        let g : Graph = replay job.config r.order in
        let long : length (part t r.order) ≡ length l.log + length (entries_waiting g l) =
        ap length k.told ∙ length-append l.log (entries_waiting g l) in
        let fits = waiting_fits g l.config (length l.log) (length l.trace) l.thread l.spent l.pass (command_of l) l.part k.fits.log k.fits.part in
        let given = ap length k.trace in
        let few = few_at job.config job.traces t is.each in
        omega (arith, long, fits, given, few)
    | inr out ↦ let none = ap length (kept.foreign t out) in omega (arith, none)
  ]

  pub few_serials : (a : Name) → has_name (replay job.config r.order) a ≡ true → a.serial ≤ 131072
  few_serials a has = elim (cases_eq a.serial 0) [
    | inl zeroth ↦ omega (arith, zeroth)
    | inr other ↦
        let made = name_of_thread (replay job.config r.order) a other has in
        let logged = counts_logged job.config r.order a.thread kept.foreign in
        omega (arith, made, logged, few_entries a.thread)
  ]

-- ---- the words

-- the word of a small serial reads as its owner
pub narrow : ((o : Owner) → IsOwner o → owner_of (owner_code o) ≡ Some o)
    → ((t s o : ℕ) → s < 2 ^ 24 → wide_word t s o ≡ owner_word t s o)
    → (w t s o : ℕ) → w ≡ wide_word t s o → t ≤ 16 → s ≤ 131072 → o < 1024
    → owner_of w ≡ Some (record { thread = t; serial = s; ordinal = o })
narrow back same w t s o is thread serial ordinal =
    ap owner_of (is ∙ same t s o (omega (arith, serial)))
    ∙ back (record { thread = t; serial = s; ordinal = o })
    (record { thread = thread; serial = serial; ordinal = omega (arith, ordinal) })
