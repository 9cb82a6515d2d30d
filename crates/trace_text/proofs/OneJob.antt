-- Bytes are at most one job.
use Rattle.std.proofs.Common.{◌≡◌, ℕ, ◌+◌, Bool, true, false, List, [], ◌∷◌, ◌++◌, map, decimal, codes, Option, Some, None, refl, sym, ap, subst, ◌∙◌, append_assoc, arith}
use Rattle.std.specs.List.{AllByRecursion}
use Rattle.block_store.specs.declared.Config.{Config}
use Rattle.block_store.specs.Configs.{IsInBounds}
use Rattle.never_heap.specs.declared.Command.{Command}
use Rattle.never_heap.specs.Bounds.{IsCommandInBounds}
use Rattle.never_heap.specs.Jobs.{IsTraceInBounds}
use Rattle.trace_text.specs.declared.reading.lines.Line.{Line}
use Rattle.trace_text.specs.declared.reading.lines.Line.TheVariants.{Told}
use Rattle.trace_text.specs.declared.reading.words.Word.{Word}
use Rattle.trace_text.specs.declared.reading.words.Word.TheVariants as words
use Rattle.trace_text.specs.Spellings.{header, command_line, trace_lines, traces_lines, job_lines}
use Rattle.trace_text.specs.Jobs.{Job, IsJob}
use Rattle.trace_text.specs.Words.{word_at, is_command}
use Rattle.trace_text.specs.Said.{line_at, header_at}
use Rattle.trace_text.proofs.CommandWords.{spelled, word_again}
use Rattle.trace_text.proofs.LineLaws.{place, line_complete}
use Rattle.trace_text.proofs.HeaderLaws.{header_complete}
use Rattle.trace_text.proofs.Binds.{same_Ok}

abbrev first_of : {A : Type 0} → A → List A → A
first_of d [] = d
first_of d (x ∷ xs) = x

same_first : {A : Type 0} (x y : A) (xs ys : List A) → x ∷ xs ≡ y ∷ ys → x ≡ y
same_first x y xs ys e = ap (first_of x) e

same_Told : (x y : Command) → ◌≡◌ {A = Line} (Told x) (Told y) → x ≡ y
same_Told x y e = cc

-- the word that a line begins with
abbrev named : List (List ℕ) → Option Word
named [] = None
named (first ∷ others) = word_at first

abbrev commands_word : Option Word → Bool
commands_word None = false
commands_word (Some w) = is_command w

command_named : (x : Command) → commands_word (named (command_line x)) ≡ true
command_named x = ap commands_word (word_again x) ∙ (spelled x).command

-- commands on equal lines are equal
same_command : (c : Config) (x y : Command) → IsCommandInBounds c x → IsCommandInBounds c y
    → command_line x ≡ command_line y → x ≡ y
same_command c x y p q e =
    let at_x = line_complete c 1 0 (Told x) (omega arith) (p, omega arith) refl in
    let at_y = line_complete c 1 0 (Told y) (omega arith) (q, omega arith) refl in
    same_Told x y (same_Ok (Told x) (Told y) (sym at_x ∙ ap (line_at (place c 1 0)) e ∙ at_y))

-- the lines of threads from t on, and that of the end
abbrev tail_lines : ℕ → List (List Command) → List (List (List ℕ))
tail_lines t traces = traces_lines t traces ++ (codes "end" ∷ []) ∷ []

-- the same after the lines of some commands
abbrev rest_lines : ℕ → List Command → List (List Command) → List (List (List ℕ))
rest_lines t trace traces = map command_line trace ++ tail_lines t traces

no_command : (t : ℕ) (traces : List (List Command)) (x : Command) (more : List (List (List ℕ)))
    → tail_lines t traces ≡ command_line x ∷ more → ⊥
no_command t [] x more e =
    let head : (codes "end" ∷ []) ≡ command_line x = same_first _ _ _ _ e in
    let tells : false ≡ true =
    ap (λ (ps : List (List ℕ)). commands_word (named ps)) head ∙ command_named x in
    absurd cc
no_command t (trace ∷ traces) x more e =
    let head : (codes "thread" ∷ decimal t ∷ []) ≡ command_line x = same_first _ _ _ _ e in
    let tells : false ≡ true =
    ap (λ (ps : List (List ℕ)). commands_word (named ps)) head ∙ command_named x in
    absurd cc

abbrev AllFit : Config → List Command → Type 0
AllFit c trace = AllByRecursion (IsCommandInBounds c) trace

abbrev AllTracesFit : Config → List (List Command) → Type 0
AllTracesFit c traces = AllByRecursion (IsTraceInBounds c) traces

same_rest : (c : Config) (t : ℕ) (traces others : List (List Command))
    → (tail_lines t traces ≡ tail_lines t others → traces ≡ others)
    → (xs ys : List Command) → AllFit c xs → AllFit c ys
    → rest_lines t xs traces ≡ rest_lines t ys others → (xs ≡ ys) × (traces ≡ others)
same_rest c t traces others same [] [] p q e = (refl, same e)
same_rest c t traces others same [] (y ∷ ys) p q e =
    absurd (no_command t traces y (rest_lines t ys others) e)
same_rest c t traces others same (x ∷ xs) [] p q e =
    absurd (no_command t others x (rest_lines t xs traces) (sym e))
same_rest c t traces others same (x ∷ xs) (y ∷ ys) p q e =
    let head : command_line x ≡ command_line y = cc in
    let rest : rest_lines t xs traces ≡ rest_lines t ys others = cc in
    let first : x ≡ y = same_command c x y p.0 q.0 head in
    let more = same_rest c t traces others same xs ys p.1 q.1 rest in
    (ap (λ (z : Command). z ∷ xs) first ∙ ap (λ (zs : List Command). y ∷ zs) more.0, more.1)

-- after a thread's line are its commands and what follows them
parted_tail : (t : ℕ) (trace : List Command) (traces : List (List Command))
    → tail_lines t (trace ∷ traces)
    ≡ (codes "thread" ∷ decimal t ∷ []) ∷ rest_lines (t + 1) trace traces
parted_tail t trace traces =
    append_assoc (trace_lines t trace) (traces_lines (t + 1) traces) ((codes "end" ∷ []) ∷ [])

no_more_threads : (t : ℕ) (trace : List Command) (traces : List (List Command))
    → tail_lines t [] ≡ tail_lines t (trace ∷ traces) → ⊥
no_more_threads t trace traces e =
    let head : (codes "end" ∷ []) ≡ (codes "thread" ∷ decimal t ∷ []) = same_first _ _ _ _ e in
    let tells : ◌≡◌ {A = Option Word} (Some words.End) (Some words.Thread) = ap named head in
    absurd cc

same_tail : (c : Config) (t : ℕ) (traces others : List (List Command)) → AllTracesFit c traces
    → AllTracesFit c others → tail_lines t traces ≡ tail_lines t others → traces ≡ others
same_tail c t [] [] p q e = refl
same_tail c t [] (other ∷ others) p q e = absurd (no_more_threads t other others e)
same_tail c t (trace ∷ traces) [] p q e = absurd (no_more_threads t trace traces (sym e))
same_tail c t (trace ∷ traces) (other ∷ others) p q e =
    let both = sym (parted_tail t trace traces) ∙ e ∙ parted_tail t other others in
    let rest : rest_lines (t + 1) trace traces ≡ rest_lines (t + 1) other others = cc both in
    let same = same_rest c (t + 1) traces others
    (same_tail c (t + 1) traces others p.1 q.1) trace other p.0.commands q.0.commands rest in
    ap (λ (z : List Command). z ∷ traces) same.0
    ∙ ap (λ (zs : List (List Command)). other ∷ zs) same.1

same_header : (c k : Config) → IsInBounds c → IsInBounds k → header c ≡ header k → c ≡ k
same_header c k p q e = same_Ok c k
    (sym (header_complete c p) ∙ ap header_at e ∙ header_complete k q)

abbrev made : Config → List (List Command) → Job
made c traces = record { config = c; traces = traces }

pub one_job : (bytes : List ℕ) (job other : Job) → IsJob bytes job → IsJob bytes other → job ≡ other
one_job bytes job other p q =
    let lines : job_lines job.config job.traces ≡ job_lines other.config other.traces =
    sym p.lines ∙ q.lines in
    let head : header job.config ≡ header other.config = cc in
    let tail : tail_lines 0 job.traces ≡ tail_lines 0 other.traces = cc in
    let config = same_header job.config other.config p.in_bounds.config q.in_bounds.config head in
    let traces = same_tail job.config 0 job.traces other.traces p.in_bounds.each
    (subst (λ (c : Config). AllTracesFit c other.traces)
    (sym config) q.in_bounds.each) tail in
    ap (λ c. made c job.traces) config ∙ ap (made other.config) traces
