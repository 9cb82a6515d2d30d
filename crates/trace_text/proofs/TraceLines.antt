-- The lines of a job's traces, thread by thread.
use Rattle.std.proofs.Common.{◌≡◌, ℕ, ◌+◌, ◌<◌, ◌≤◌, List, [], ◌∷◌, ◌++◌, length, get_or, take, drop, codes, Option, sym, ap, subst, ◌∙◌, append_assoc, append-nil, length-take, arith}
use Rattle.std.specs.List.{flat_map}
use Rattle.std.proofs.lemmas.Grind.{flat_map-append}
use Rattle.std.proofs.lemmas.List.{take-append-drop, take_all}
use Rattle.std.proofs.Math.Numerals.{add-one}
use Rattle.std.proofs.Math.Seq.{take-suc}
use Rattle.never_heap.specs.declared.Command.{Command}
use Rattle.trace_text.specs.Jobs.{Job}
use Rattle.trace_text.specs.Spellings.{header, trace_lines, traces_lines}
use Rattle.trace_text.specs.JobTexts.{line_text, job_text}
use Rattle.trace_text.specs.Streams.{Appends, AppendsPrefix}
use Rattle.trace_text.proofs.AppendedTexts.{appends_in_turn, front_in_turn, front_longer}

traces_lines-append : (s : ℕ) (xs ys : List (List Command))
    → traces_lines s (xs ++ ys) ≡ traces_lines s xs ++ traces_lines (s + length xs) ys
traces_lines-append s [] ys = let same : s ≡ s + 0 = omega arith in ap (λ t. traces_lines t ys) same
traces_lines-append s (x ∷ xs) ys =
    let place : (s + 1) + length xs ≡ s + length (x ∷ xs) = omega arith in
    ap (λ ls. trace_lines s x ++ ls)
    (traces_lines-append (s + 1) xs ys
    ∙ ap (λ t. traces_lines (s + 1) xs ++ traces_lines t ys) place)
    ∙ sym (append_assoc (trace_lines s x) (traces_lines (s + 1) xs)
    (traces_lines (s + length (x ∷ xs)) ys))

abbrev pub trace_text : ℕ → List Command → List ℕ
trace_text t trace = flat_map line_text (trace_lines t trace)

-- the text of the traces from thread s on
abbrev pub traces_text : ℕ → List (List Command) → List ℕ
traces_text s traces = flat_map line_text (traces_lines s traces)

traces_text-append : (s : ℕ) (xs ys : List (List Command))
    → traces_text s (xs ++ ys) ≡ traces_text s xs ++ traces_text (s + length xs) ys
traces_text-append s xs ys =
    ap (flat_map line_text) (traces_lines-append s xs ys)
    ∙ flat_map-append line_text (traces_lines s xs) (traces_lines (s + length xs) ys)

-- the text of one trace
traces_text-one : (s t : ℕ) (x : List Command) → s ≡ t → traces_text s (x ∷ []) ≡ trace_text t x
traces_text-one s t x same =
    ap (flat_map line_text) (append-nil (trace_lines s x)) ∙ ap (λ n. trace_text n x) same

module _ (xs : List (List Command)) (i : ℕ) (d : List Command) (lt : i < length xs) where
  text_next : traces_text 0 (take (i + 1) xs)
      ≡ traces_text 0 (take i xs) ++ trace_text i (get_or xs i d)
  text_next =
      let cut : take (i + 1) xs ≡ take i xs ++ get_or xs i d ∷ [] =
      ap (λ n. take n xs) (add-one i) ∙ take-suc xs i d lt in
      let place : 0 + length (take i xs) ≡ i = omega (arith, length-take i xs) in
      ap (traces_text 0) cut ∙ traces_text-append 0 (take i xs) (get_or xs i d ∷ [])
      ∙ ap (λ text. traces_text 0 (take i xs) ++ text)
      (traces_text-one (0 + length (take i xs)) i (get_or xs i d) place)

  -- the traces before a thread, and then its own
  pub traces_more : (a b c : Option (List ℕ)) → Appends a b (traces_text 0 (take i xs))
      → Appends b c (trace_text i (get_or xs i d)) → Appends a c (traces_text 0 (take (i + 1) xs))
  traces_more a b c before h =
      let P : List ℕ → Type 0 = λ text. Appends a c text in
      subst P (sym text_next) (appends_in_turn a b c _ _ before h)

  -- the traces before a thread, and a prefix of its own
  pub traces_front : (a b c : Option (List ℕ)) → Appends a b (traces_text 0 (take i xs))
      → AppendsPrefix b c (trace_text i (get_or xs i d)) → AppendsPrefix a c (traces_text 0 xs)
  traces_front a b c before h =
      let P : List ℕ → Type 0 = λ text. AppendsPrefix a c text in
      let whole : traces_text 0 (take (i + 1) xs) ++ traces_text (0 + length (take (i + 1) xs))
      (drop (i + 1) xs) ≡ traces_text 0 xs =
      sym (traces_text-append 0 (take (i + 1) xs) (drop (i + 1) xs))
      ∙ ap (traces_text 0) (take-append-drop (i + 1) xs) in
      let so_far : AppendsPrefix a c (traces_text 0 (take (i + 1) xs)) =
      subst P (sym text_next) (front_in_turn a b c _ _ before h) in
      subst P whole (front_longer a c _ _ so_far)

-- the traces of all threads
pub traces_whole : (a b : Option (List ℕ)) (xs : List (List Command)) (i : ℕ) → length xs ≤ i
    → Appends a b (traces_text 0 (take i xs)) → Appends a b (traces_text 0 xs)
traces_whole a b xs i le h =
    let P : List (List Command) → Type 0 = λ ys. Appends a b (traces_text 0 ys) in
    subst P (take_all i xs le) h

-- ---- the whole text

module _ (job : Job) where
  parts : job_text job ≡ (line_text
      (header job.config) ++ traces_text 0 job.traces) ++ codes "end\n"
  parts =
      ap (λ text. line_text (header job.config) ++ text)
      (flat_map-append line_text (traces_lines 0 job.traces) ((codes "end" ∷ []) ∷ []))
      ∙ sym (append_assoc (line_text (header job.config)) (traces_text 0 job.traces)
      (codes "end\n"))

  -- a prefix of the first line
  pub first_front : (a b : Option (List ℕ)) → AppendsPrefix a b (line_text (header job.config))
      → AppendsPrefix a b (job_text job)
  first_front a b h = front_longer a b (line_text (header job.config))
      (flat_map line_text (traces_lines 0 job.traces ++ (codes "end" ∷ []) ∷ [])) h

  -- the first line, and a prefix of the traces
  pub middle_front : (a b c : Option (List ℕ)) → Appends a b (line_text (header job.config))
      → AppendsPrefix b c (traces_text 0 job.traces) → AppendsPrefix a c (job_text job)
  middle_front a b c before h =
      let P : List ℕ → Type 0 = λ text. AppendsPrefix a c text in
      subst P (sym parts) (front_longer a c _ (codes "end\n")
      (front_in_turn a b c (line_text (header job.config))
      (traces_text 0 job.traces) before h))

  -- all but the last line, and a prefix of it
  pub last_front : (a b c d : Option (List ℕ)) → Appends a b (line_text (header job.config))
      → Appends b c (traces_text 0 job.traces) → AppendsPrefix c d (codes "end\n")
      → AppendsPrefix a d (job_text job)
  last_front a b c d first before h =
      let P : List ℕ → Type 0 = λ text. AppendsPrefix a d text in
      let so_far = appends_in_turn a b c (line_text (header job.config))
      (traces_text 0 job.traces) first before in
      subst P (sym parts) (front_in_turn a c d _ (codes "end\n") so_far h)

  -- all lines
  pub all_lines : (a b c d : Option (List ℕ)) → Appends a b (line_text (header job.config))
      → Appends b c (traces_text 0 job.traces) → Appends c d (codes "end\n")
      → Appends a d (job_text job)
  all_lines a b c d first before h =
      let P : List ℕ → Type 0 = λ text. Appends a d text in
      let so_far = appends_in_turn a b c (line_text (header job.config))
      (traces_text 0 job.traces) first before in
      subst P (sym parts) (appends_in_turn a c d _ (codes "end\n") so_far h)
