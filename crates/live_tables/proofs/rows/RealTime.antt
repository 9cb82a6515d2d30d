-- The operations that are complete in a prefix of the timeline come before those that begin after it.
use Rattle.std.proofs.Common.{◌≡◌, ℕ, zero, suc, ◌-◌, ◌≤◌, Option, Some, None, List, [], ◌∷◌, ◌++◌, length, map, take, drop, slice_index_or, sym, refl, ap, ◌∙◌, arith}
use Rattle.std.specs.Prelude.{flat_map}
use Rattle.std.proofs.lemmas.List.{append-nil, length-map, take-append-drop}
use Rattle.never_heap.specs.Histories.{HistoryItem, part}
use Rattle.array_tables.specs.operations.Applications.{ops_in, op_by}
use Rattle.array_tables.specs.operations.Linearizations.{Call, decided_behind}
use Rattle.shared_heap.specs.declared.rules.Moment.{Moment}
use Rattle.shared_heap.specs.Shared.{IsWellFormed, IsStartOf, history_of}
use Rattle.shared_heap.proofs.Lemmas.{has_invoked, history_start, invoked_start, line_of, starts_on}
use Rattle.live_tables.specs.rows.Behind.{operations_in}
use Rattle.live_tables.specs.rows.RealTime.{ComeBefore, KeepsRealTime}
use Rattle.live_tables.specs.rows.Rows.{Rows, commands_of}
use Rattle.live_tables.specs.rows.SoFar.{SeenComesBeforeLater}
use Rattle.live_tables.specs.rows.Lawful.{Lawful}
use Rattle.live_tables.proofs.rows.AnswersOfOperations.{rows_more}
use Rattle.live_tables.proofs.rows.Cuts.{IsSplit, decided_so_far, ops_behind, ops_of, ops_of_calls, pair_of_call, split_behind, split_map, whole_ops}

take_low : {X : Type 0} (k : ℕ) (xs ys : List X) → k ≤ length xs → take k (xs ++ ys) ≡ take k xs
take_low zero xs ys low = refl
take_low (suc k) [] ys low = absurd (omega arith)
take_low (suc k) (x ∷ xs) ys low = ap (λ l. x ∷ l) (take_low k xs ys (omega arith))

by_append : {Op : Type 0} (o : Option Op) (xs ys : List Op) → op_by o (xs ++ ys) ≡ op_by o xs ++ ys
by_append None xs ys = refl
by_append (Some op) xs ys = refl

ops_append : {Op Row : Type 0} (decides : Row → Option Op) (xs ys : List Row)
    → ops_in decides (xs ++ ys) ≡ ops_in decides xs ++ ops_in decides ys
ops_append decides [] ys = refl
ops_append decides (x ∷ xs) ys =
    ap (op_by (decides x)) (ops_append decides xs ys)
    ∙ by_append (decides x) (ops_in decides xs) (ops_in decides ys)

module _ {Op Row Answer S : Type 0} (a : Rows Op Row Answer S) (law : Lawful a)
    (scripts : List (List Op)) (h : List HistoryItem) (order : List (Call Op Answer))
    (deciding : map (pair_of_call a) order ≡ decided_behind a.rows_of a.decides scripts [] h) where
  abbrev script : ℕ → List Op
  script t = slice_index_or scripts t []

  -- the commands of the first operations are as many as their rows
  rows_count : (n t : ℕ) → length (commands_of a (take n (script t)))
      ≡ length (flat_map a.rows_of (take n (script t)))
  rows_count n t = length-map (flat_map a.rows_of (take n (script t))) a.command_at

  module _ (start : List HistoryItem) (begins : IsStartOf start h) where
    abbrev cut : IsSplit (pair_of_call a) order (decided_behind a.rows_of a.decides scripts [] start)
        (decided_behind a.rows_of a.decides scripts start begins.0)
    cut = split_map (pair_of_call a) order (decided_behind a.rows_of a.decides scripts [] start)
        (decided_behind a.rows_of a.decides scripts start begins.0)
        (deciding ∙ ap (λ x. decided_behind a.rows_of a.decides scripts [] x) begins.1
        ∙ split_behind a scripts [] start begins.0)

    at_first : (t : ℕ) → operations_in t cut.first
        ≡ ops_of a t (decided_behind a.rows_of a.decides scripts [] start)
    at_first t = ops_of_calls a t cut.first ∙ ap (ops_of a t) cut.is_first

    abbrev extra : ℕ → ℕ → ℕ
    extra t n = length (part t start) - length (flat_map a.rows_of (take n (script t)))

    has_many : (t n : ℕ) → length (commands_of a (take n (script t))) ≤ length (part t start)
        → operations_in t cut.first ≡ take n (script t)
        ++ ops_in a.decides (take (extra t n) (flat_map a.rows_of (drop n (script t))))
    has_many t n many =
        at_first t
        ∙ decided_so_far a law scripts start t (take n (script t)) (drop n (script t)) (extra t n)
        (sym (take-append-drop n (script t))) (omega (arith, many, rows_count n t))

    has_few : (u m : ℕ) → length (part u start) ≤ length (commands_of a (take m (script u)))
        → take m (script u) ≡ operations_in u cut.first ++ ops_in a.decides
        (drop (length (part u start)) (flat_map a.rows_of (take m (script u))))
    has_few u m few =
        let k : ℕ = length (part u start) in
        let front : List Row = flat_map a.rows_of (take m (script u)) in
        let back : List Row = flat_map a.rows_of (drop m (script u)) in
        let rows_are : flat_map a.rows_of (script u) ≡ front ++ back =
        ap (flat_map a.rows_of) (sym (take-append-drop m (script u)))
        ∙ rows_more a (take m (script u)) (drop m (script u)) in
        let is : operations_in u cut.first ≡ ops_in a.decides (take k front) =
        at_first u ∙ ops_behind a scripts u [] start
        ∙ ap (λ rows. ops_in a.decides (take k rows)) rows_are
        ∙ ap (ops_in a.decides) (take_low k front back (omega (arith, few, rows_count m u))) in
        let all : ops_in a.decides front ≡ take m (script u) =
        ap (ops_in a.decides) (sym (append-nil front))
        ∙ whole_ops a law (take m (script u)) [] ∙ append-nil (take m (script u)) in
        sym all ∙ ap (ops_in a.decides) (sym (take-append-drop k front))
        ∙ ops_append a.decides (take k front) (drop k front)
        ∙ ap (λ l. l ++ ops_in a.decides (drop k front)) (sym is)

    come_before : (t n u m : ℕ) → length (commands_of a (take n (script t))) ≤ length (part t start)
        → length (part u start) ≤ length (commands_of a (take m (script u)))
        → ComeBefore scripts order t n u m
    come_before t n u m many few = record {
      first = cut.first;
      later = cut.later;
      split = cut.split;
      more = _;
      many = has_many t n many;
      rest = _;
      few = has_few u m few;
    }

  pub keeps_real_time : (timeline : List Moment) → h ≡ history_of timeline → IsWellFormed timeline
      → KeepsRealTime a scripts timeline order
  keeps_real_time timeline is formed p begins t n u m many few =
      let s = history_start p timeline begins in
      come_before (history_of p) (s.0, is ∙ s.1) t n u m many
      (omega (arith, (formed p begins u).0, few))

-- What was seen in one state of a table comes, in a later one, before what began after it.
pub seen_before_later : {Op Row Answer S : Type 0} (a : Rows Op Row Answer S)
    → SeenComesBeforeLater a
seen_before_later a k s later now p was still h seat scripts history fits t n m complete few =
    let there = still.seat in
    let begins : IsStartOf p fits.timeline =
    starts_on p still.worker.past.seen fits.timeline still.seen (fits.each there.0 _ there.2).1.0 in
    fits.real_time p begins t n h.local.thread m complete (omega (
      arith,
      few,
      invoked_start h.local.thread p now.timeline (line_of k s now p was),
      ap length (has_invoked k s now h seat),
    ))
