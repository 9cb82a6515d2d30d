-- The lines that are good to the end are those of a run in order.
use Rattle.std.proofs.Common.{◌≡◌, ◌≢◌, ℕ, ◌+◌, inl, inr, ◌↔◌, List, [], ◌∷◌, ◌++◌, sym, refl, ap, ◌∙◌, subst, append_assoc, append-nil, arith}
use Rattle.block_store.specs.declared.Config.{Config}
use Rattle.never_heap.specs.declared.Command.{Command}
use Rattle.never_heap.specs.Coming.{left_of, AllMayCome}
use Rattle.never_heap.specs.Histories.{HistoryItem, Started, Did, starts_in}
use Rattle.never_heap.specs.Runs.{IsRun}
use Rattle.never_heap.proofs.Lemmas.{all_come, begun, made, none_left, starts_append}
use Rattle.trace_text.specs.OrderTexts.{item_text, end_text, lines_from, order_lines}
use Rattle.rt_check.specs.Good.{AreGood}

-- the lines of an item and those after it
one_line : (s : ℕ) (i : HistoryItem) (h : List HistoryItem)
    → lines_from s (i ∷ h) ≡ item_text s i ∷ lines_from (s + starts_in (i ∷ [])) h
one_line s Started h = refl
one_line s (Did e) h = ap (λ (n : ℕ). item_text s (Did e) ∷ lines_from n h) (omega arith)

-- the lines of what comes after these items, to the end
abbrev lines_after : List HistoryItem → List HistoryItem → List (List ℕ)
lines_after past h = lines_from (starts_in past) h ++ end_text (past ++ h) ∷ []

line_then : (past : List HistoryItem) (i : HistoryItem) (h : List HistoryItem)
    → lines_after past (i ∷ h) ≡ item_text (starts_in past) i ∷ lines_after (past ++ i ∷ []) h
line_then past i h =
    ap (λ (ls : List (List ℕ)). ls ++ end_text (past ++ i ∷ h) ∷ []) (one_line (starts_in past) i h)
    ∙ ap (λ (n : ℕ). item_text (starts_in past) i ∷
    (lines_from n h ++ end_text (past ++ i ∷ h) ∷ []))
    (sym (starts_append past (i ∷ [])))
    ∙ ap (λ (p : List HistoryItem). item_text (starts_in past) i
    ∷ (lines_from (starts_in (past ++ i ∷ [])) h ++ end_text p ∷ []))
    (sym (append_assoc past (i ∷ []) h))

module _ (c : Config) (rate : ℕ) (traces : List (List Command)) where
  -- what good lines are, after these items
  record Goes (past : List HistoryItem) (lines : List (List ℕ)) (h : List HistoryItem)
      : Type 0 where
    come : AllMayCome c rate traces past h
    begun : past ++ h ≢ []
    none : (t : ℕ) → left_of traces (past ++ h) t ≡ []
    text : lines ≡ lines_after past h

  forward : (past : List HistoryItem) (ls : List (List ℕ)) → AreGood c rate traces past ls
      → (h : List HistoryItem) × Goes past ls h
  forward past [] good = absurd good
  forward past (l ∷ ls) (inl last) = (
    [],
    record {
      come = tt;
      begun = subst (λ (p : List HistoryItem). p ≢ []) (sym (append-nil past)) last.0.begun;
      none = λ t. ap (λ (p : List HistoryItem). left_of traces p t) (append-nil past)
          ∙ last.0.no_command t;
      text = λ i. (last.0.text ∙ ap end_text (sym (append-nil past))) i ∷ last.1 i;
    },
  )
  forward past (l ∷ ls) (inr next) =
      let i : HistoryItem = next.0 in
      let rest = forward (past ++ i ∷ []) ls next.2 in
      let goes = rest.1 in
      let same = append_assoc past (i ∷ []) rest.0 in (
        i ∷ rest.0,
        record {
          come = (next.1.may_come, goes.come);
          begun = subst (λ (p : List HistoryItem). p ≢ []) same goes.begun;
          none = λ t. ap (λ (p : List HistoryItem). left_of traces p t) (sym same) ∙ goes.none t;
          text = (λ k. next.1.text k ∷ goes.text k) ∙ sym (line_then past i rest.0);
        },
      )

  backward : (past h : List HistoryItem) → AllMayCome c rate traces past h → past ++ h ≢ []
      → ((t : ℕ) → left_of traces (past ++ h) t ≡ [])
      → AreGood c rate traces past (lines_after past h)
  backward past [] come begun none = inl (
    record {
      begun = subst (λ (p : List HistoryItem). p ≢ []) (append-nil past) begun;
      no_command = λ t. ap (λ (p : List HistoryItem). left_of traces p t) (sym (append-nil past))
          ∙ none t;
      text = ap end_text (append-nil past);
    },
    refl,
  )
  backward past (i ∷ h) come begun none =
      let same = append_assoc past (i ∷ []) h in
      subst (AreGood c rate traces past) (sym (line_then past i h)) (inr (
        i,
        record { may_come = come.0; text = refl },
        backward (past ++ i ∷ []) h come.1
            (subst (λ (p : List HistoryItem). p ≢ []) (sym same) begun)
            (λ t. ap (λ (p : List HistoryItem). left_of traces p t) same ∙ none t),
      ))

  pub to_run : (ls : List (List ℕ)) → AreGood c rate traces [] ls
      → (h : List HistoryItem) × IsRun c rate traces h × (ls ≡ order_lines h)
  to_run ls good =
      let f = forward [] ls good in
      (f.0, made c rate traces f.0 f.1.begun f.1.come f.1.none, f.1.text)

  pub of_run : (h : List HistoryItem) → IsRun c rate traces h
      → AreGood c rate traces [] (order_lines h)
  of_run h run = backward [] h (all_come c rate traces h run) (begun c rate traces h run)
      (λ t. none_left c rate traces h t run)

pub law : (c : Config) (rate : ℕ) (traces : List (List Command)) (ls : List (List ℕ))
    → AreGood c rate traces [] ls ↔
    ((h : List HistoryItem) × IsRun c rate traces h × (ls ≡ order_lines h))
law c rate traces ls = (
  to_run c rate traces ls,
  λ r. subst (AreGood c rate traces []) (sym r.2) (of_run c rate traces r.0 r.1),
)
