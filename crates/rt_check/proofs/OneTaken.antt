-- A line is taken as one item at most, and lines are taken to the end or one of them is left.
use Rattle.std.proofs.Common.{◌≡◌, ℕ, ◌^◌, ◌≤◌, inl, inr, List, [], ◌∷◌, ◌++◌, length, get_or, codes, decimal, None, sym, refl, ap, ◌∙◌, subst, arith}
use Rattle.std.proofs.lemmas.Bool.{cases_eq}
use Rattle.std.proofs.lemmas.Fmt.{decimal_injective}
use Rattle.std.proofs.lemmas.List.{append_cancel_left}
use Rattle.never_heap.specs.declared.Command.{Command}
use Rattle.never_heap.specs.declared.Entry.{Entry}
use Rattle.never_heap.specs.declared.Reply.{Reply}
use Rattle.never_heap.specs.declared.Reply.TheVariants as replies
use Rattle.never_heap.specs.Bounds.{IsCommandInBounds}
use Rattle.never_heap.specs.Coming.{left_of}
use Rattle.never_heap.specs.Graphs.{Graph, next_name}
use Rattle.never_heap.specs.Histories.{HistoryItem, Started, Did, part, replay}
use Rattle.never_heap.specs.RightWork.{units_owed}
use Rattle.never_heap.specs.Steps.{step, blocks_of}
use Rattle.never_heap.proofs.Lemmas.{blocks_answer, owes_told}
use Rattle.trace_text.specs.Jobs.{Job, IsJobInBounds}
use Rattle.trace_text.specs.RunTexts.{entry_text, name_text, reply_text, totals_text}
use Rattle.rt_check.specs.Taken.{IsTaken, IsEnd, AreTaken, FirstLeft}
use Rattle.rt_check.proofs.GoodLaws.{command_in_bounds, work_small}
use Rattle.rt_check.proofs.TakenLaws.{totals_begin, no_one_full}
use Rattle.rt_check.proofs.ItemOfLine.{begins_as, differ, stepped, candidate, entry_tells, no_entry, no_start}

module _ (job : Job) (b : IsJobInBounds job) (past : List HistoryItem) where
  few : length job.traces ≤ 16
  few = let l = b.threads in let k = b.config in omega arith

  module _ (t : ℕ) (command : Command) (rest : List Command)
      (left : left_of job.traces past t ≡ command ∷ rest) where
    in_bounds : IsCommandInBounds job.config command
    in_bounds = command_in_bounds job b t (length (part t past)) command rest left

    small : (rate : ℕ) → rate ≤ 131070 → units_owed job.config.width rate command ≤ 2 ^ 32
    small rate low = work_small job.config rate command in_bounds
        (let k = b.config in omega arith) low

    -- what two lines show of their rates is the same
    one_work : (p q : ℕ) → p ≤ 131070 → q ≤ 131070
        → entry_text (stepped job.config p job.traces past t command)
        ≡ entry_text (stepped job.config q job.traces past t command)
        → units_owed job.config.width p command ≡ units_owed job.config.width q command
    one_work p q low few_q same = elim (cases_eq (blocks_of job.config.width command) 0) [
      | inr blocks ↦
          let g : Graph = replay job.config past in
          let u : ℕ = units_owed job.config.width p command in
          let v : ℕ = units_owed job.config.width q command in
          let new = blocks_answer job.config.width g t command (omega arith) in
          let tail : 32 ∷ reply_text (step g t command).1 u ≡ 32 ∷ reply_text (step g t command).1 v =
          append_cancel_left (decimal t) (32 ∷ reply_text (step g t command).1 u)
          (32 ∷ reply_text (step g t command).1 v) same in
          let made : 32 ∷ reply_text (replies.New (next_name g t)) u
          ≡ 32 ∷ reply_text (replies.New (next_name g t)) v =
          subst (λ (r : Reply). 32 ∷ reply_text r u ≡ 32 ∷ reply_text r v) new tail in
          let front : List ℕ =
          32 ∷ ((codes "new " ++ name_text (next_name g t)) ++ codes " work ") in
          decimal_injective u v (let s = small p low in omega arith)
          (let s = small q few_q in omega arith)
          (append_cancel_left front (decimal u) (decimal v) made)
      | inl none ↦ owes_told job.config.width p command none
          ∙ sym (owes_told job.config.width q command none)
    ]

    one_stepped : (p q : ℕ) → units_owed job.config.width p command
        ≡ units_owed job.config.width q command
        → stepped job.config p job.traces past t command
        ≡ stepped job.config q job.traces past t command
    one_stepped p q e = ap (λ (n : ℕ). let x : Entry = record {
      thread = t;
      command = command;
      reply = (step (replay job.config past) t command).1;
      work = n;
    } in x) e

  module _ (line : List ℕ) where
    pub one_taken : (i j : HistoryItem) → IsTaken job.config job.traces past line i
        → IsTaken job.config job.traces past line j → i ≡ j
    one_taken Started Started p q = refl
    one_taken Started (Did e) p q = absurd (no_start job.config p.rate job.traces past few line e.thread
        (entry_tells job.config q.rate job.traces past few line e q.good) p.good)
    one_taken (Did e) Started p q = absurd (no_start job.config q.rate job.traces past few line e.thread
        (entry_tells job.config p.rate job.traces past few line e p.good) q.good)
    one_taken (Did e) (Did f) p q =
        let t : ℕ = e.thread in
        let next = p.good.may_come.next in
        let begins = entry_tells job.config p.rate job.traces past few line e p.good in
        elim (candidate job.config p.rate job.traces past few line t e.command next.0 begins next.1
        e p.good) [
          | inr full ↦ absurd (no_one_full e.reply _ (ap (λ (x : Entry). x.reply) full.0) p.no_full)
          | inl is ↦ elim (candidate job.config q.rate job.traces past few line t e.command next.0
              begins next.1 f q.good) [
                | inr full ↦ absurd
                    (no_one_full f.reply _ (ap (λ (x : Entry). x.reply) full.0) q.no_full)
                | inl same ↦ ap Did (is
                    ∙ one_stepped t e.command next.0 next.1 p.rate q.rate
                    (one_work t e.command next.0 next.1 p.rate q.rate p.low q.low
                    (ap entry_text (sym is) ∙ sym p.good.text ∙ q.good.text ∙ ap entry_text same))
                    ∙ sym same)
              ]
        ]

    -- the line of the totals is no item's
    no_item : IsEnd job.traces past line → (i : HistoryItem)
        → IsTaken job.config job.traces past line i → ⊥
    no_item end Started taken =
        let h = ap (λ (l : List ℕ). get_or l 0 0) (sym end.totals.text ∙ taken.good.text) in
        differ 101 115 h (omega arith)
    no_item end (Did e) taken =
        no_entry job.config taken.rate job.traces past few line
        (begins_as line (totals_text end.totals.cycles end.totals.units) None end.totals.text
        (totals_begin end.totals.cycles end.totals.units)) e taken.good

-- lines are not both taken to the end and left
pub apart_taken : (job : Job) → IsJobInBounds job → (past : List HistoryItem) (ls : List (List ℕ))
    (h : List HistoryItem) (n : ℕ) → AreTaken job.config job.traces past ls h
    → FirstLeft job.config job.traces past ls n → ⊥
apart_taken job b past [] h n taken left = absurd taken
apart_taken job b past (l ∷ ls) h n (inl end) (inl left) = left.1.0 end.0
apart_taken job b past (l ∷ ls) h n (inl end) (inr (inl pending)) = pending.2 end.1
apart_taken job b past (l ∷ ls) h n (inl end) (inr (inr more)) =
    no_item job b past l end.0 more.2.0 more.2.1
apart_taken job b past (l ∷ ls) h n (inr next) (inl left) = left.1.1 next.0 next.1
apart_taken job b past (l ∷ ls) h n (inr next) (inr (inl pending)) =
    no_item job b past l pending.1 next.0 next.1
apart_taken job b past (l ∷ ls) h n (inr next) (inr (inr more)) =
    let same = one_taken job b past l more.2.0 next.0 more.2.1 next.1 in
    apart_taken job b (past ++ next.0 ∷ []) ls h more.0 next.2
    (subst (λ (i : HistoryItem). FirstLeft job.config job.traces
    (past ++ i ∷ []) ls more.0) same more.2.2)
