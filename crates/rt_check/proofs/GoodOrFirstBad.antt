-- Lines of an order are good to their end, or one of them is the first that is not.
use Rattle.std.proofs.Common.{◌≡◌, ◌≢◌, ℕ, zero, suc, ◌+◌, ◌<◌, ◌≤◌, ◌⊎◌, inl, inr, List, [], ◌∷◌, ◌++◌, length, Some, sym, refl, ap, ◌∙◌, subst, arith}
use Rattle.std.proofs.lemmas.Bool.{cases_eq, cases_lt}
use Rattle.block_store.specs.declared.Config.{Config}
use Rattle.never_heap.specs.declared.Command.{Command}
use Rattle.never_heap.specs.declared.Entry.{Entry}
use Rattle.never_heap.specs.Coming.{left_of, MayCome}
use Rattle.never_heap.specs.Cycles.{graph_at}
use Rattle.never_heap.specs.Histories.{HistoryItem, Started, Did, replay, starts_in}
use Rattle.never_heap.specs.LiveBlocks.{live_blocks}
use Rattle.never_heap.specs.Steps.{step, blocks_of}
use Rattle.never_heap.proofs.Lemmas.{blocks_make, needs_no_licence, no_thread, step_not_full, thread_low}
use Rattle.trace_text.specs.OrderTexts.{item_text, end_text}
use Rattle.rt_check.specs.Good.{IsGood, IsLast, AreGood, FirstBad}
use Rattle.rt_check.specs.Standing.{Begins}
use Rattle.rt_check.proofs.ItemOfLine.{stepped, filled, Allows, full_cycle, entry_tells, candidate}

-- ---- what can be told apart

same_or : (xs ys : List ℕ) → (xs ≡ ys) ⊎ (xs ≢ ys)
same_or [] [] = inl refl
same_or [] (y ∷ ys) = inr (λ e. cc)
same_or (x ∷ xs) [] = inr (λ e. cc)
same_or (x ∷ xs) (y ∷ ys) = elim (cases_eq x y) [
  | inl e ↦ elim (same_or xs ys) [
    | inl es ↦ inl (λ i. e i ∷ es i)
    | inr ne ↦ inr (λ all. ne (let f = all in cc))
  ]
  | inr ne ↦ inr (λ all. ne (let f = all in cc))
]

-- ---- one line

module _ (c : Config) (rate : ℕ) (traces : List (List Command)) (few : length traces ≤ 16)
    (past : List HistoryItem) (line : List ℕ) where
  -- some entry of the thread is good, or none
  abbrev OfThread : ℕ → Type 0
  OfThread t = ((e : Entry) × IsGood c rate traces past line (Did e))
      ⊎ ((e : Entry) → e.thread ≡ t → IsGood c rate traces past line (Did e) → ⊥)

  module _ (begun : past ≢ []) (t : ℕ) (command : Command) (rest : List Command)
      (left : left_of traces past t ≡ command ∷ rest) where
    begins : (e : Entry) → e.thread ≡ t → IsGood c rate traces past line (Did e)
        → Begins line (Some t)
    begins e is good = subst (λ u. Begins line (Some u)) is
        (entry_tells c rate traces past few line e good)

    may_step : MayCome c rate traces past (Did (stepped c rate traces past t command))
    may_step = record {
      first = λ none. absurd (begun none);
      next = (rest, left);
      answered = inl refl;
      licensed = needs_no_licence c past (step (replay c past) t command).1
          (step_not_full (replay c past) t command);
      right_work = refl;
    }

    may_fill : 0 < blocks_of c.width command → Allows c past
        → MayCome c rate traces past (Did (filled c rate traces past t command))
    may_fill some allows = record {
      first = λ none. absurd (begun none);
      next = (rest, left);
      answered = inr (refl, blocks_make c.width command some);
      licensed = (refl, allows);
      right_work = refl;
    }

    -- the line is that of no step; so it is that of a full, or of no entry
    full_or : line ≢ item_text (starts_in past) (Did (stepped c rate traces past t command))
        → OfThread t
    full_or other =
        let none : (0 < blocks_of c.width command → Allows c past
        → line ≡ item_text (starts_in past) (Did (filled c rate traces past t command)) → ⊥)
        → OfThread t =
        λ unfilled. inr (λ e is good.
        elim (candidate c rate traces past few line t command rest (begins e is good) left e good) [
          | inl same ↦ other (good.text ∙ ap (λ x. item_text (starts_in past) (Did x)) same)
          | inr same ↦ unfilled same.1 same.2
              (good.text ∙ ap (λ x. item_text (starts_in past) (Did x)) same.0)
        ]) in
        elim (cases_lt 0 (blocks_of c.width command)) [
          | inl some ↦ elim (cases_lt c.live
              (live_blocks c.width (graph_at c past (full_cycle past)))) [
                | inl allows ↦ elim (same_or line
                    (item_text (starts_in past) (Did (filled c rate traces past t command)))) [
                      | inl same ↦ inl (
                        filled c rate traces past t command,
                        record { may_come = may_fill some allows; text = same },
                      )
                      | inr ne ↦ none (λ m a same. ne same)
                    ]
                | inr few ↦ none (λ m a same. omega arith)
              ]
          | inr few ↦ none (λ m a same. omega arith)
        ]

    with_command : OfThread t
    with_command =
        elim (same_or line
        (item_text (starts_in past) (Did (stepped c rate traces past t command)))) [
          | inl same ↦ inl (
            stepped c rate traces past t command,
            record { may_come = may_step; text = same },
          )
          | inr other ↦ full_or other
        ]

  of_thread : past ≢ [] → (t : ℕ) → OfThread t
  of_thread begun t = by (left_of traces past t) refl
    where
      by : (l : List Command) → left_of traces past t ≡ l → OfThread t
      by [] none = inr (λ e is good.
          (let next = good.may_come.next in
          let f : command_list next.0 e ≡ [] = sym next.1 ∙ ap (left_of traces past) is ∙ none in cc))
        where
          command_list : List Command → Entry → List Command
          command_list rest e = e.command ∷ rest
      by (command ∷ rest) left = with_command begun t command rest left

  -- some entry of the first n threads, or none
  of_threads : past ≢ [] → (n : ℕ) → ((e : Entry) × IsGood c rate traces past line (Did e))
      ⊎ ((e : Entry) → e.thread < n → IsGood c rate traces past line (Did e) → ⊥)
  of_threads begun zero = inr (λ e low good. omega arith)
  of_threads begun (suc n) = elim (of_threads begun n) [
    | inl some ↦ inl some
    | inr none ↦ elim (of_thread begun n) [
      | inl some ↦ inl some
      | inr other ↦ inr (λ e low good. elim (cases_eq e.thread n) [
        | inl is ↦ other e is good
        | inr ne ↦ none e (omega (arith, ne)) good
      ])
    ]
  ]

  some_entry : ((e : Entry) × IsGood c rate traces past line (Did e))
      ⊎ ((e : Entry) → IsGood c rate traces past line (Did e) → ⊥)
  some_entry = by past refl
    where
      by : (p : List HistoryItem) → past ≡ p
          → ((e : Entry) × IsGood c rate traces past line (Did e))
          ⊎ ((e : Entry) → IsGood c rate traces past line (Did e) → ⊥)
      by [] none = inr (λ e good. (let f = good.may_come.first none in cc))
      by (i ∷ is) some = elim (of_threads (λ none. (let f = sym none ∙ some in cc)) (length traces)) [
        | inl entry ↦ inl entry
        | inr none ↦ inr (λ e good. none e (thread_low traces past e.thread e.command
            good.may_come.next.0 good.may_come.next.1) good)
      ]

  -- the line is good as some item, or as none
  good_or : ((i : HistoryItem) × IsGood c rate traces past line i)
      ⊎ ((i : HistoryItem) → IsGood c rate traces past line i → ⊥)
  good_or = elim (same_or line (item_text (starts_in past) Started)) [
    | inl same ↦ inl (
      Started,
      record {
        may_come = record {
          first = λ _. refl;
          next = tt;
          answered = tt;
          licensed = tt;
          right_work = tt;
        };
        text = same;
      },
    )
    | inr other ↦ elim some_entry [
      | inl entry ↦ inl (Did entry.0, entry.1)
      | inr none ↦ inr (no_item other none)
    ]
  ]
    where
      no_item : line ≢ item_text (starts_in past) Started
          → ((e : Entry) → IsGood c rate traces past line (Did e) → ⊥)
          → (i : HistoryItem) → IsGood c rate traces past line i → ⊥
      no_item other none Started good = other good.text
      no_item other none (Did e) good = none e good

  -- no command of the first n threads is left, or one is
  none_left_or : (n : ℕ) → ((t : ℕ) → t < n → left_of traces past t ≡ [])
      ⊎ (((t : ℕ) → left_of traces past t ≡ []) → ⊥)
  none_left_or zero = inl (λ t low. absurd (omega arith))
  none_left_or (suc n) = elim (none_left_or n) [
    | inl none ↦ by (left_of traces past n) refl none
    | inr some ↦ inr some
  ]
    where
      by : (l : List Command) → left_of traces past n ≡ l
          → ((t : ℕ) → t < n → left_of traces past t ≡ [])
          → ((t : ℕ) → t < suc n → left_of traces past t ≡ [])
          ⊎ (((t : ℕ) → left_of traces past t ≡ []) → ⊥)
      by [] is none = inl (λ t low. elim (cases_eq t n) [
        | inl e ↦ ap (left_of traces past) e ∙ is
        | inr ne ↦ none t (omega (arith, ne))
      ])
      by (k ∷ ks) is none = inr (λ all. (let f = sym (all n) ∙ is in cc))

  -- the line is good as the last, or not
  last_or : IsLast traces past line ⊎ (IsLast traces past line → ⊥)
  last_or = by past refl
    where
      by : (p : List HistoryItem) → past ≡ p
          → IsLast traces past line ⊎ (IsLast traces past line → ⊥)
      by [] none = inr (λ last. last.begun none)
      by (i ∷ is) some = elim (same_or line (end_text past)) [
        | inl same ↦ elim (none_left_or (length traces)) [
          | inl none ↦ inl (record {
            begun = λ e. (let f = sym e ∙ some in cc);
            no_command = λ t. elim (cases_lt t (length traces)) [
              | inl low ↦ none t low
              | inr out ↦ no_thread traces past t out
            ];
            text = same;
          })
          | inr left ↦ inr (λ last. left last.no_command)
        ]
        | inr other ↦ inr (λ last. other last.text)
      ]

-- ---- all lines

module _ (c : Config) (rate : ℕ) (traces : List (List Command)) (few : length traces ≤ 16) where
  abbrev Settled : List HistoryItem → List (List ℕ) → Type 0
  Settled past ls = AreGood c rate traces past ls ⊎ ((n : ℕ) × FirstBad c rate traces past ls n)

  last_here : (past : List HistoryItem) (l : List ℕ) (ls : List (List ℕ)) → IsLast traces past l
      → Settled past (l ∷ ls)
  last_here past l [] last = inl (inl (last, refl))
  last_here past l (m ∷ ls) last = inr (2, inr (inl (refl, last, λ e. cc)))

  pub settled : (past : List HistoryItem) (ls : List (List ℕ)) → Settled past ls
  settled past [] = inr (1, refl)
  settled past (l ∷ ls) = elim (last_or c rate traces few past l) [
    | inl last ↦ last_here past l ls last
    | inr unlast ↦ elim (good_or c rate traces few past l) [
      | inl next ↦ elim (settled (past ++ next.0 ∷ []) ls) [
        | inl good ↦ inl (inr (next.0, next.1, good))
        | inr bad ↦ inr (bad.0 + 1, inr (inr (bad.0, refl, (next.0, next.1, bad.1))))
      ]
      | inr none ↦ inr (1, inl (refl, (unlast, none)))
    ]
  ]
