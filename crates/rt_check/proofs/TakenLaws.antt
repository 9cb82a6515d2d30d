-- Which lines are taken or left, by what the follower looks at.
use Rattle.std.proofs.Common.{◌-◌, ◌*◌, ◌^◌, ◌≡◌, ℕ, zero, suc, max, ◌<◌, ◌≤◌, inl, inr, false, List, [], ◌∷◌, ◌++◌, length, drop, get_or, codes, decimal, Some, None, sym, refl, ap, ◌∙◌, arith}
use Rattle.std.proofs.lemmas.Bool.{cases_eq, both_ways}
use Rattle.block_store.specs.declared.Config.{Config}
use Rattle.never_heap.specs.declared.Command.{Command}
use Rattle.never_heap.specs.declared.Entry.{Entry}
use Rattle.never_heap.specs.declared.Reply.{Reply}
use Rattle.never_heap.specs.declared.Reply.TheVariants as replies
use Rattle.never_heap.specs.Bounds.{IsCommandInBounds}
use Rattle.never_heap.specs.Coming.{left_of}
use Rattle.never_heap.specs.Graphs.{Graph, count_of, next_name}
use Rattle.never_heap.specs.Histories.{HistoryItem, Started, Did, is_full, replay, starts_in}
use Rattle.never_heap.specs.Jobs.{IsTraceInBounds}
use Rattle.never_heap.specs.RightWork.{units_owed}
use Rattle.never_heap.specs.Steps.{step, blocks_of}
use Rattle.never_heap.proofs.Lemmas.{blocks_answer, blocks_untold, owes_told, step_not_full, thread_low}
use Rattle.trace_text.specs.Jobs.{Job, IsJobInBounds}
use Rattle.trace_text.specs.Lines.{tokens_of}
use Rattle.trace_text.specs.OrderTexts.{item_text}
use Rattle.trace_text.specs.Reading.{number_at, digits_on}
use Rattle.trace_text.specs.RunTexts.{entry_text, totals_text, reply_text}
use Rattle.trace_text.proofs.NumberLaws.{number_sound}
use Rattle.rt_check.specs.declared.follower.Follower.{Follower}
use Rattle.rt_check.specs.declared.moves.Move.{Move}
use Rattle.rt_check.specs.Good.{IsBad}
use Rattle.rt_check.specs.Standing.{Stands, HasNext, Begins, Counted, entry_here, graph_here}
use Rattle.rt_check.specs.Taken.{IsTaken, TellsTotals, IsEnd, IsLeft}
use Rattle.rt_check.specs.Taking.{first_number, number_behind}
use Rattle.rt_check.proofs.GoodLaws.{all_or, command_in_bounds, work_small, left_is, start_good, step_taken_as}
use Rattle.rt_check.proofs.TokensLeft.{made_units, totals_cycles, totals_units}
use Rattle.rt_check.proofs.ItemOfLine.{begins_one, begins_as, stepped, candidate, no_entry, no_start}

-- ---- the totals

pub totals_begin : (cycles units : ℕ) → Begins (totals_text cycles units) None
unfolding number_at digits_on
totals_begin cycles units = (
  codes "end",
  tokens_of (codes "cycles " ++ decimal cycles ++ codes " work " ++ decimal units),
  refl,
  refl,
)

pub number_no_totals : (line : List ℕ) (t : ℕ) → Begins line (Some t) → TellsTotals line → ⊥
number_no_totals line t begins tells =
    let f = begins_one line (Some t) None begins
    (begins_as line (totals_text tells.cycles tells.units) None tells.text
    (totals_begin tells.cycles tells.units)) in cc

pub no_cycles : (line : List ℕ) → number_behind 2 (tokens_of line) ≡ None → TellsTotals line → ⊥
no_cycles line none tells =
    let some : number_behind 2 (tokens_of line) ≡ Some tells.cycles =
    ap (λ (l : List ℕ). number_behind 2 (tokens_of l)) tells.text
    ∙ totals_cycles tells.cycles tells.units tells.few_cycles tells.few_units in
    let f : None ≡ Some tells.cycles = sym none ∙ some in cc

pub no_units : (line : List ℕ) → number_behind 4 (tokens_of line) ≡ None → TellsTotals line → ⊥
no_units line none tells =
    let some : number_behind 4 (tokens_of line) ≡ Some tells.units =
    ap (λ (l : List ℕ). number_behind 4 (tokens_of l)) tells.text
    ∙ totals_units tells.cycles tells.units tells.few_cycles tells.few_units in
    let f : None ≡ Some tells.units = sym none ∙ some in cc

same_some : (m n : ℕ) → Some m ≡ Some n → m ≡ n
same_some m n e = cc

-- the totals that a line tells are the numbers that are in it
pub tells_these : (line : List ℕ) (cycles units : ℕ)
    → number_behind 2 (tokens_of line) ≡ Some cycles
    → number_behind 4 (tokens_of line) ≡ Some units
    → TellsTotals line → line ≡ totals_text cycles units
tells_these line cycles units third fifth tells =
    let c : tells.cycles ≡ cycles = same_some tells.cycles cycles
    (sym (ap (λ (l : List ℕ). number_behind 2 (tokens_of l)) tells.text
    ∙ totals_cycles tells.cycles tells.units tells.few_cycles tells.few_units) ∙ third) in
    let u : tells.units ≡ units = same_some tells.units units
    (sym (ap (λ (l : List ℕ). number_behind 4 (tokens_of l)) tells.text
    ∙ totals_units tells.cycles tells.units tells.few_cycles tells.few_units) ∙ fifth) in
    tells.text ∙ (λ i. totals_text (c i) (u i))

-- ---- items

pub no_one_full : (r : Reply) (c : ℕ) → r ≡ replies.Full c → is_full r ≡ false → ⊥
no_one_full r c e f = both_ways (is_full r) f (ap is_full e)

pub start_taken : (c : Config) (traces : List (List Command)) (past : List HistoryItem)
    (line : List ℕ) → line ≡ item_text (starts_in past) Started → IsTaken c traces past line Started
start_taken c traces past line text = record {
  rate = 0;
  low = omega arith;
  good = start_good c 0 traces past line text;
  no_full = tt;
}

-- a line that begins with no number is left, where it is neither the next start nor the end
pub mark_left : (c : Config) (traces : List (List Command)) (past : List HistoryItem)
    (line : List ℕ) → length traces ≤ 16 → Begins line None
    → (line ≡ item_text (starts_in past) Started → ⊥) → (IsEnd traces past line → ⊥)
    → IsLeft c traces past line
mark_left c traces past line few begins not_start not_end = (not_end, items)
  where
    items : (i : HistoryItem) → IsTaken c traces past line i → ⊥
    items Started taken = not_start taken.good.text
    items (Did e) taken = no_entry c taken.rate traces past few line begins e taken.good

-- a line that begins with a number is left, where it is bad at each rate
pub number_left : (c : Config) (traces : List (List Command)) (past : List HistoryItem)
    (line : List ℕ) (t : ℕ) → Begins line (Some t)
    → ((rate : ℕ) → IsBad c rate traces past line) → IsLeft c traces past line
number_left c traces past line t begins bad = (
  λ end. number_no_totals line t begins end.totals,
  λ i taken. (bad taken.rate).1 i taken.good,
)

-- ---- the next command of a thread

some_of_drop : (xs : List Command) (n : ℕ) (x : Command) (rest : List Command)
    → drop n xs ≡ x ∷ rest → n < length xs
some_of_drop [] zero x rest e = absurd cc
some_of_drop [] (suc n) x rest e = absurd cc
some_of_drop (y ∷ xs) zero x rest e = omega arith
some_of_drop (y ∷ xs) (suc n) x rest e = let l = some_of_drop xs n x rest e in omega arith

module _ (job : Job) (past : List HistoryItem) (f : Follower) (line : List ℕ) (t : ℕ)
    (command : Command)
    (b : IsJobInBounds job) (s : Stands job.config past f)
    (begun : 1 ≤ length f.live.items) (next : HasNext job.traces f t command) where
  few : length job.traces ≤ 16
  few = let l = b.threads in let k = b.config in omega arith

  left : left_of job.traces past t ≡ command ∷ next.0
  left = sym (left_is job.config job.traces past f s t) ∙ next.1

  here : t < job.config.threads
  here = let l = thread_low job.traces past t command next.0 left in omega (arith, b.threads)

  in_bounds : IsCommandInBounds job.config command
  in_bounds = command_in_bounds job b t (get_or f.done.items t 0) command next.0 next.1

  none_in_bounds : IsTraceInBounds job.config []
  none_in_bounds = record { few = omega arith; commands = tt }

  -- the thread has made fewer objects than its trace has commands
  made_few : count_of f.graph.graph t < 131072
  made_few =
      let trace = all_or (IsTraceInBounds job.config) job.traces [] t b.each none_in_bounds in
      let long = trace.few in
      let passed = some_of_drop (get_or job.traces t []) (get_or f.done.items t 0) command next.0
      next.1 in
      let done = s.done t in
      let made = s.made t in
      omega arith

  -- the units of an allocation are in its line
  units_stand : (rate : ℕ) → rate ≤ 131070 → 0 < blocks_of job.config.width command
      → number_behind 4 (tokens_of (entry_text (stepped job.config rate job.traces past t command)))
      ≡ Some (rate * blocks_of job.config.width command)
  units_stand rate low some =
      let g : Graph = replay job.config past in
      let units : ℕ = units_owed job.config.width rate command in
      let small = work_small job.config rate command in_bounds
      (let k = b.config in omega arith) low in
      let made = ap (λ (h : Graph). count_of h t) s.graph in
      let told = blocks_untold job.config.width command some in
      ap (λ (r : Reply). number_behind 4 (tokens_of (decimal t ++ (32 ∷ reply_text r units))))
      (blocks_answer job.config.width g t command some)
      ∙ made_units t (next_name g t) units
      (let k = b.config in let h = here in omega arith)
      (let k = b.config in let h = here in omega arith)
      (let m = made_few in omega arith) (omega arith)
      ∙ ap Some (let e : units ≡ rate * blocks_of job.config.width command = omega arith in e)

  -- so the rate that the line shows is the rate at which it is good
  same_units : (rate shown : ℕ) → rate ≤ 131070
      → line ≡ entry_text (stepped job.config rate job.traces past t command)
      → ((r : ℕ) → r ≤ 131070 → 0 < blocks_of job.config.width command
      → number_behind 4 (tokens_of line) ≡ Some (r * blocks_of job.config.width command)
      → shown ≡ r)
      → units_owed job.config.width rate command ≡ units_owed job.config.width shown command
  same_units rate shown low text shows =
      let k : ℕ = blocks_of job.config.width command in
      elim (cases_eq k 0) [
        | inl none ↦ owes_told job.config.width rate command none
            ∙ sym (owes_told job.config.width shown command none)
        | inr some ↦
            let there : 0 < k = omega arith in
            let is = shows rate low there
            (ap (λ (l : List ℕ). number_behind 4 (tokens_of l)) text
            ∙ units_stand rate low there) in
            ap (λ (n : ℕ). units_owed job.config.width n command) (sym is)
      ]

  pub command_left : Begins line (Some t) → (shown : ℕ)
      → ((r : ℕ) → r ≤ 131070 → 0 < blocks_of job.config.width command
      → number_behind 4 (tokens_of line) ≡ Some (r * blocks_of job.config.width command)
      → shown ≡ r)
      → (line ≡ entry_text (stepped job.config shown job.traces past t command) → ⊥)
      → IsLeft job.config job.traces past line
  command_left begins shown shows other = (
    λ end. number_no_totals line t begins end.totals,
    items,
  )
    where
      items : (i : HistoryItem) → IsTaken job.config job.traces past line i → ⊥
      items Started taken = no_start job.config taken.rate job.traces past few line t begins taken.good
      items (Did e) taken = elim (candidate job.config taken.rate job.traces past few line t command
          next.0 begins left e taken.good) [
            | inl is ↦
                let text : line ≡ entry_text (stepped job.config taken.rate job.traces past t command)
                = taken.good.text ∙ ap entry_text is in
                other (text ∙ ap (λ (n : ℕ). decimal t ++ (32 ∷ reply_text
                (step (replay job.config past) t command).1 n))
                (same_units taken.rate shown taken.low text shows))
            | inr is ↦ no_one_full e.reply _ (ap (λ (x : Entry). x.reply) is.0) taken.no_full
          ]

  pub command_taken : (rate : ℕ) → rate ≤ 131070 → (e : Entry) → e.thread ≡ t
      → e.command ≡ command → e.work ≡ units_owed job.config.width rate command
      → (reply : e.reply ≡ replies.Full (max 1 (length f.live.items - 1)))
      → (f' : Follower) → line ≡ entry_text (entry_here f e) → Counted f f' (graph_here f e) e
      → (x : Entry) × IsTaken job.config job.traces past line (Did x)
      × Stands job.config (past ++ Did x ∷ []) f'
      × (let m : Move = record { thread = t; command = command } in m
      ≡ record { thread = x.thread; command = x.command })
  command_taken rate low e thread told work reply f' text counted =
      let taken = step_taken_as job rate past f line t command b low s begun next e thread told work
      reply f' text counted in (
        entry_here f e,
        record {
          rate = rate;
          low = low;
          good = taken.0;
          no_full = step_not_full f.graph.graph e.thread e.command;
        },
        taken.1,
        λ i. let m : Move = record { thread = sym thread i; command = sym told i } in m,
      )

-- a line with these totals tells totals
pub totals_told : (line : List ℕ) (cycles units : ℕ)
    → number_behind 2 (tokens_of line) ≡ Some cycles
    → number_behind 4 (tokens_of line) ≡ Some units
    → line ≡ totals_text cycles units → TellsTotals line
totals_told line cycles units third fifth text = record {
  cycles = cycles;
  units = units;
  few_cycles = number_low (drop 2 (tokens_of line)) cycles third;
  few_units = number_low (drop 4 (tokens_of line)) units fifth;
  text = text;
}
  where
    number_low : (tokens : List (List ℕ)) (n : ℕ) → first_number tokens ≡ Some n → n < 10 ^ 19
    number_low [] n e = absurd cc
    number_low (token ∷ tokens) n e = (number_sound token n e).1
