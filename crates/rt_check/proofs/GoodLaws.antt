-- Which lines are good or bad, by what the follower looks at.
use Rattle.std.proofs.Common.{◌+◌, ◌≡◌, ◌≢◌, ℕ, zero, suc, ◌-◌, ◌*◌, ◌^◌, ◌<◌, ◌≤◌, ◌↔◌, inl, inr, Bool, true, false, max, cond, List, [], ◌∷◌, ◌++◌, length, drop, get_or, Some, None, sym, refl, ap, ◌∙◌, subst, arith}
use Rattle.std.proofs.lemmas.Bool.{both_ways, cases_lt}
use Rattle.std.proofs.lemmas.Nat.{mul-le}
use Rattle.std.specs.List.{AllByRecursion}
use Rattle.block_store.specs.declared.Config.{Config}
use Rattle.never_heap.specs.declared.Command.{Command}
use Rattle.never_heap.specs.declared.Entry.{Entry}
use Rattle.never_heap.specs.declared.Reply.{Reply}
use Rattle.never_heap.specs.declared.Reply.TheVariants as replies
use Rattle.never_heap.specs.Bounds.{IsCommandInBounds}
use Rattle.never_heap.specs.Jobs.{IsTraceInBounds}
use Rattle.never_heap.specs.Coming.{left_of}
use Rattle.never_heap.specs.Cycles.{graph_at}
use Rattle.never_heap.specs.Graphs.{WideGraph}
use Rattle.never_heap.specs.Histories.{HistoryItem, Started, Did, after, replay, starts_in}
use Rattle.never_heap.specs.LiveBlocks.{live_blocks}
use Rattle.never_heap.specs.RightWork.{requested_units, units_owed}
use Rattle.never_heap.specs.Steps.{step, blocks_of}
use Rattle.never_heap.proofs.Lemmas.{blocks_make, needs_no_licence, step_not_full, thread_low}
use Rattle.trace_text.specs.Jobs.{Job, IsJobInBounds}
use Rattle.trace_text.specs.OrderTexts.{item_text, end_text}
use Rattle.trace_text.specs.RunTexts.{entry_text}
use Rattle.rt_check.specs.declared.follower.Follower.{Follower}
use Rattle.rt_check.specs.Good.{IsGood, IsLast, IsBad}
use Rattle.rt_check.specs.Standing.{Stands, HasNext, Begins, Counted, IsFullHere, entry_here, graph_here, rest_of}
use Rattle.rt_check.proofs.ItemOfLine.{begins_one, begins_as, end_begins, full_cycle, Allows, stepped, filled, same_entry, candidate, thread_of, no_entry, no_start}
use Rattle.rt_check.proofs.FollowerState.{stands_entry}

-- ---- what a job holds

all_at : {X : Type 0} (P : X → Type 0) (xs : List X) (n : ℕ) (x : X) (rest : List X)
    → AllByRecursion P xs → drop n xs ≡ x ∷ rest → P x
all_at P [] zero x rest all e = cc
all_at P [] (suc n) x rest all e = cc
all_at P (y ∷ xs) zero x rest all e = subst P (let f : y ≡ x = cc in f) all.0
all_at P (y ∷ xs) (suc n) x rest all e = all_at P xs n x rest all.1 e

pub all_or : {X : Type 0} (P : X → Type 0) (xs : List X) (d : X) (n : ℕ) → AllByRecursion P xs → P d
    → P (get_or xs n d)
all_or P [] d n all none = none
all_or P (x ∷ xs) d zero all none = all.0
all_or P (x ∷ xs) d (suc n) all none = all_or P xs d n all.1 none

module _ (job : Job) (b : IsJobInBounds job) (t n : ℕ) (command : Command) (rest : List Command)
    (next : drop n (get_or job.traces t []) ≡ command ∷ rest) where
  none_in_bounds : IsTraceInBounds job.config []
  none_in_bounds = record { few = omega arith; commands = tt }

  pub command_in_bounds : IsCommandInBounds job.config command
  command_in_bounds =
      all_at (IsCommandInBounds job.config) (get_or job.traces t []) n command rest
      (all_or (IsTraceInBounds job.config) job.traces [] t b.each none_in_bounds).commands next

pub work_small : (c : Config) (rate : ℕ) (command : Command) → IsCommandInBounds c command
    → c.object ≤ 1024 → rate ≤ 131070 → units_owed c.width rate command ≤ 2 ^ 32
work_small c rate command b object low =
    let few = b.blocks in
    let most = mul-le rate (blocks_of c.width command) 131070 1024 low (omega arith) in
    omega (arith, b.units)

-- ---- the state and the items

module _ (c : Config) (traces : List (List Command)) (past : List HistoryItem) (f : Follower)
    (s : Stands c past f) where
  pub some_past : 1 ≤ length f.live.items → past ≢ []
  some_past l e = let none : starts_in past ≡ 0 = ap starts_in e in omega (arith, s.starts)

  pub no_past : length f.live.items ≡ 0 → past ≡ []
  no_past l = empty past (λ some. omega (arith, s.begun some, s.starts))
    where
      empty : (p : List HistoryItem) → (p ≢ [] → ⊥) → p ≡ []
      empty [] h = refl
      empty (i ∷ p) h = absurd (h (λ e. cc))

  pub left_is : (t : ℕ) → rest_of traces f.done.items t ≡ left_of traces past t
  left_is t = ap (λ (n : ℕ). drop n (get_or traces t [])) (s.done t)

-- no cycle was started
pub none_begun : (begun : Bool) (n : ℕ) → (begun ≡ true ↔ (1 ≤ n)) → begun ≡ false → n ≡ 0
none_begun begun n tells not_yet = elim (cases_lt 0 n) [
  | inl some ↦ absurd (both_ways begun not_yet (tells.1 some))
  | inr none ↦ omega arith
]

-- ---- the start of a cycle and the totals

module _ (c : Config) (rate : ℕ) (traces : List (List Command)) (past : List HistoryItem)
    (line : List ℕ) where
  pub start_good : line ≡ item_text (starts_in past) Started
      → IsGood c rate traces past line Started
  start_good text = record {
    may_come = record {
      first = λ _. refl;
      next = tt;
      answered = tt;
      licensed = tt;
      right_work = tt;
    };
    text = text;
  }

  pub mark_bad : length traces ≤ 16 → Begins line None
      → (line ≡ item_text (starts_in past) Started → ⊥)
      → (IsLast traces past line → ⊥) → IsBad c rate traces past line
  mark_bad few begins other last = (last, items)
    where
      items : (i : HistoryItem) → IsGood c rate traces past line i → ⊥
      items Started good = other good.text
      items (Did e) good = no_entry c rate traces past few line begins e good

  -- ---- an entry

  pub number_is_not_last : (t : ℕ) → Begins line (Some t) → IsLast traces past line → ⊥
  number_is_not_last t begins last =
      let f = begins_one line (Some t) None begins
      (begins_as line (end_text past) None last.text (end_begins past)) in cc

  pub first_bad : (t : ℕ) → length traces ≤ 16 → Begins line (Some t) → past ≡ []
      → IsBad c rate traces past line
  first_bad t few begins none = (number_is_not_last t begins, items)
    where
      items : (i : HistoryItem) → IsGood c rate traces past line i → ⊥
      items Started good = no_start c rate traces past few line t begins good
      items (Did e) good = let f : Did e ≡ Started = good.may_come.first none in cc

  pub entry_bad : (t : ℕ) → length traces ≤ 16 → Begins line (Some t)
      → ((e : Entry) → IsGood c rate traces past line (Did e) → ⊥) → IsBad c rate traces past line
  entry_bad t few begins none = (number_is_not_last t begins, items)
    where
      items : (i : HistoryItem) → IsGood c rate traces past line i → ⊥
      items Started good = no_start c rate traces past few line t begins good
      items (Did e) good = none e good

module _ (c : Config) (rate : ℕ) (traces : List (List Command)) (past : List HistoryItem)
    (line : List ℕ)
    (t : ℕ) (command : Command) (rest : List Command)
    (left : left_of traces past t ≡ command ∷ rest) where
  pub stepped_good : past ≢ []
      → line ≡ item_text (starts_in past) (Did (stepped c rate traces past t command))
      → IsGood c rate traces past line (Did (stepped c rate traces past t command))
  stepped_good begun text = record {
    may_come = record {
      first = λ e. absurd (begun e);
      next = (rest, left);
      answered = inl refl;
      licensed = needs_no_licence c past (step (replay c past) t command).1
          (step_not_full (replay c past) t command);
      right_work = refl;
    };
    text = text;
  }

  pub filled_good : past ≢ [] → 0 < blocks_of c.width command → Allows c past
      → line ≡ item_text (starts_in past) (Did (filled c rate traces past t command))
      → IsGood c rate traces past line (Did (filled c rate traces past t command))
  filled_good begun some allows text = record {
    may_come = record {
      first = λ e. absurd (begun e);
      next = (rest, left);
      answered = inr (refl, blocks_make c.width command some);
      licensed = (refl, allows);
      right_work = refl;
    };
    text = text;
  }

  -- neither entry has the line's text
  pub command_bad : length traces ≤ 16 → Begins line (Some t)
      → (line ≡ item_text (starts_in past) (Did (stepped c rate traces past t command)) → ⊥)
      → (0 < blocks_of c.width command → Allows c past
      → line ≡ item_text (starts_in past) (Did (filled c rate traces past t command)) → ⊥)
      → IsBad c rate traces past line
  command_bad few begins step_no full_no = entry_bad c rate traces past line t few begins (λ e good.
      elim (candidate c rate traces past few line t command rest begins left e good) [
        | inl is ↦ step_no (good.text ∙ ap (λ (x : Entry). item_text (starts_in past) (Did x)) is)
        | inr is ↦ full_no is.1 is.2
            (good.text ∙ ap (λ (x : Entry). item_text (starts_in past) (Did x)) is.0)
      ])

-- a thread with no command left has no entry
pub none_left_bad : (c : Config) (rate : ℕ) (traces : List (List Command))
    (past : List HistoryItem) (line : List ℕ) (t : ℕ)
    → length traces ≤ 16 → Begins line (Some t) → left_of traces past t ≡ []
    → IsBad c rate traces past line
none_left_bad c rate traces past line t few begins none =
    entry_bad c rate traces past line t few begins (λ e good.
    let thread = thread_of c rate traces past few line t begins e good in
    let next = good.may_come.next in
    let f : [] ≡ e.command ∷ next.0 =
    sym none ∙ ap (left_of traces past) (sym thread) ∙ next.1 in cc)

-- ---- what the follower took in

module _ (job : Job) (rate : ℕ) (past : List HistoryItem) (f : Follower) (line : List ℕ) (t : ℕ)
    (command : Command)
    (b : IsJobInBounds job) (low : rate ≤ 131070) (s : Stands job.config past f)
    (begun : 1 ≤ length f.live.items) (next : HasNext job.traces f t command) where
  few : length job.traces ≤ 16
  few = let l = b.threads in let k = b.config in omega arith

  left : left_of job.traces past t ≡ command ∷ next.0
  left = sym (left_is job.config job.traces past f s t) ∙ next.1

  here : t < job.config.threads
  here = let l = thread_low job.traces past t command next.0 left in omega (arith, b.threads)

  some : 1 ≤ starts_in past
  some = omega (arith, s.starts)

  work_low : units_owed job.config.width rate command ≤ 2 ^ 32
  work_low = work_small job.config rate command
      (command_in_bounds job b t (get_or f.done.items t 0) command next.0 next.1)
      (let k = b.config in omega arith) low

  -- what may be live at the cycle that a full names
  cycle_is : max 1 (length f.live.items - 1) ≡ full_cycle past
  cycle_is = ap (λ (n : ℕ). max 1 (n - 1)) s.starts

  live_is : get_or f.live.items (max 1 (length f.live.items - 1) - 1) 0
      ≡ live_blocks job.config.width (graph_at job.config past (full_cycle past))
  live_is = ap (λ (n : ℕ). get_or f.live.items (n - 1) 0) cycle_is
      ∙ s.live (full_cycle past - 1) (omega arith)
      ∙ ap (λ (n : ℕ). live_blocks job.config.width (graph_at job.config past n))
      (omega arith)

  module _ (e : Entry) (thread : e.thread ≡ t) (told : e.command ≡ command)
      (work : e.work ≡ units_owed job.config.width rate command)
      (reply : e.reply ≡ replies.Full (max 1 (length f.live.items - 1))) where
    full_entry : e ≡ filled job.config rate job.traces past t command
    full_entry = same_entry e (filled job.config rate job.traces past t command) thread told
        (reply ∙ ap replies.Full cycle_is) work

    pub full_taken : (f' : Follower) → IsFullHere job.config f e.command → line ≡ entry_text e
        → Counted f f' f.graph e
        → (i : HistoryItem) × IsGood job.config rate job.traces past line i
        × Stands job.config (past ++ i ∷ []) f'
    full_taken f' full text counted = (
      Did e,
      subst (λ (x : Entry). IsGood job.config rate job.traces past line (Did x)) (sym full_entry)
          (filled_good job.config rate job.traces past line t command next.0 left
          (some_past job.config job.traces past f s begun)
          (subst (λ (k : Command). 0 < blocks_of job.config.width k) told full.0)
          (subst (λ (n : ℕ). job.config.live < n) live_is full.1)
          (text ∙ ap entry_text full_entry)),
      stands_entry job.config past f f' s e some (omega (arith, thread, here))
          (omega (arith, work, work_low)) (ap (λ (g : WideGraph). g.width) counted.graph_is)
          (ap (λ (g : WideGraph). g.graph) counted.graph_is
          ∙ sym (ap (λ (r : Reply). after f.graph.graph
          (Did (record e { reply = r }))) reply)) counted.done counted.live counted.work,
    )

    pub step_entry : entry_here f e ≡ stepped job.config rate job.traces past t command
    step_entry = same_entry (entry_here f e)
        (stepped job.config rate job.traces past t command) thread told
        (λ i. (step (s.graph i) (thread i) (told i)).1) work

    pub step_taken_as : (f' : Follower) → line ≡ entry_text (entry_here f e)
        → Counted f f' (graph_here f e) e
        → IsGood job.config rate job.traces past line (Did (entry_here f e))
        × Stands job.config (past ++ Did (entry_here f e) ∷ []) f'
    step_taken_as f' text counted = (
      subst (λ (y : Entry). IsGood job.config rate job.traces past line (Did y))
          (sym step_entry)
          (stepped_good job.config rate job.traces past line t command next.0 left
          (some_past job.config job.traces past f s begun)
          (text ∙ ap entry_text step_entry)),
      stands_entry job.config past f f' s (entry_here f e) some (omega (arith, thread, here))
          (omega (arith, work, work_low)) (ap (λ (g : WideGraph). g.width) counted.graph_is)
          (ap (λ (g : WideGraph). g.graph) counted.graph_is
          ∙ sym (ap (λ (k : Bool). cond k f.graph.graph
          (step f.graph.graph e.thread e.command).0)
          (step_not_full f.graph.graph e.thread e.command)))
          counted.done counted.live counted.work,
    )

    pub step_taken : (f' : Follower) → line ≡ entry_text (entry_here f e)
        → Counted f f' (graph_here f e) e
        → (i : HistoryItem) × IsGood job.config rate job.traces past line i
        × Stands job.config (past ++ i ∷ []) f'
    step_taken f' text counted = let taken = step_taken_as f' text counted in
        (Did (entry_here f e), taken.0, taken.1)

    pub none_taken : Begins line (Some t)
        → (IsFullHere job.config f e.command → line ≡ entry_text e → ⊥)
        → (line ≡ entry_text (entry_here f e) → ⊥)
        → IsBad job.config rate job.traces past line
    none_taken begins full_no step_no =
        command_bad job.config rate job.traces past line t command next.0 left few begins
        (λ text. step_no (text ∙ ap entry_text (sym step_entry)))
        (λ some allows text. full_no (
          subst (λ (k : Command). 0 < blocks_of job.config.width k) (sym told) some,
          subst (λ (n : ℕ). job.config.live < n) (sym live_is) allows,
        )
        (text ∙ ap entry_text (sym full_entry)))

-- the work of an entry, over a configuration that is the job's
pub work_is : (k c : Config) (rate n blocks told : ℕ) (command : Command) → k ≡ c → n ≡ blocks
    → blocks ≡ blocks_of k.width command → told ≡ requested_units command
    → rate * n + told ≡ units_owed c.width rate command
work_is k c rate n blocks told command same is counted tells =
    ap (λ (x : ℕ). rate * x + told)
    (is ∙ counted ∙ ap (λ (y : Config). blocks_of y.width command) same)
    ∙ ap (λ (x : ℕ). rate * blocks_of c.width command + x) tells
