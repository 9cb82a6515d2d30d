-- The lines that are written are read again.
use Rattle.std.proofs.Common.{◌≡◌, ℕ, ◌+◌, ◌<◌, ◌≤◌, ◌^◌, Bool, true, false, eqb, ltb, ◌&&◌, List, [], ◌∷◌, ◌++◌, length, map, codes, decimal, refl, sym, ap, ◌∙◌, append_assoc, append-nil, arith}
use Rattle.std.specs.List.{flat_map, join_with_byte, AllByRecursion}
use Rattle.std.specs.Str.Parse.{AllDigits}
use Rattle.std.proofs.lemmas.Bool.Decides.{nat_tests}
use Rattle.std.proofs.lemmas.Fmt.{decimal_is_IsNumeral}
use Rattle.std.proofs.lemmas.Str.Parse.{digit_from_value}
use Rattle.std.proofs.lemmas.Bool.{and_parts}
use Rattle.block_store.specs.declared.Config.{Config}
use Rattle.block_store.specs.declared.Width.{Width}
use Rattle.block_store.specs.declared.Width.TheVariants.{Four, Eight}
use Rattle.block_store.specs.Configs.{IsInBounds}
use Rattle.never_heap.specs.declared.Command.{Command}
use Rattle.never_heap.specs.Bounds.{IsCommandInBounds}
use Rattle.never_heap.specs.Signatures.{numbers, operands}
use Rattle.never_heap.proofs.Lemmas.{operands_in_range, operands_low}
use Rattle.never_heap.specs.Jobs.{IsTraceInBounds}
use Rattle.trace_text.specs.Lines.{lines_of, tokens_of, onto_first}
use Rattle.trace_text.specs.Reading.{tokenized}
use Rattle.trace_text.specs.Spellings.{version, header, command_line, trace_lines, traces_lines, job_lines}
use Rattle.trace_text.specs.Jobs.{Job, input_limit, IsJobInBounds, IsJob, IsInput}
use Rattle.trace_text.specs.JobTexts.{line_text, job_text}
use Rattle.trace_text.proofs.CommandWords.{is_token, spelled}

-- ---- bytes

-- the first line of these bytes has these tokens, and the others these
record Begins (bytes first : List ℕ) (others : List (List ℕ)) (more : List (List (List ℕ)))
    : Type 0 where
  line : List ℕ
  lines : List (List ℕ)
  parted : lines_of bytes ≡ line ∷ lines
  tokens : tokens_of line ≡ first ∷ others
  rest : map tokens_of lines ≡ more

at_feed : (rest : List ℕ) → Begins (10 ∷ rest) [] [] (tokenized rest)
at_feed rest = record {
  line = [];
  lines = lines_of rest;
  parted = refl;
  tokens = refl;
  rest = refl;
}

at_space : (bytes first : List ℕ) (others : List (List ℕ)) (more : List (List (List ℕ)))
    → Begins bytes first others more → Begins (32 ∷ bytes) [] (first ∷ others) more
at_space bytes first others more h =
    record {
      line = 32 ∷ h.line;
      lines = h.lines;
      parted = ap (onto_first 32) h.parted;
      tokens = ap (λ ps. [] ∷ ps) h.tokens;
      rest = h.rest;
    }

at_byte : (b : ℕ) (bytes first : List ℕ) (others : List (List ℕ)) (more : List (List (List ℕ)))
    → 32 < b → Begins bytes first others more → Begins (b ∷ bytes) (b ∷ first) others more
at_byte b bytes first others more above h =
    let no_feed : eqb b 10 ≡ false = grind (arith, nat_tests) in
    let no_space : eqb b 32 ≡ false = grind (arith, nat_tests) in
    record {
      line = b ∷ h.line;
      lines = h.lines;
      parted = rw no_feed (ap (onto_first b) h.parted);
      tokens = rw no_space (ap (onto_first b) h.tokens);
      rest = h.rest;
    }

record Above (b : ℕ) (bs : List ℕ) : Type 0 where
  first : 32 < b
  others : is_token bs ≡ true

above : (b : ℕ) (bs : List ℕ) → is_token (b ∷ bs) ≡ true → Above b bs
above b bs e = record { first = grind (arith, nat_tests); others = grind (arith, nat_tests) }

at_token : (token bytes first : List ℕ) (others : List (List ℕ)) (more : List (List (List ℕ)))
    → is_token token ≡ true → Begins bytes first others more
    → Begins (token ++ bytes) (token ++ first) others more
at_token [] bytes first others more is h = h
at_token (b ∷ bs) bytes first others more is h =
    let a = above b bs is in
    at_byte b (bs ++ bytes) (bs ++ first) others more a.first
    (at_token bs bytes first others more a.others h)

-- ---- lines

abbrev are_tokens : List (List ℕ) → Bool
are_tokens [] = true
are_tokens (token ∷ tokens) = is_token token && are_tokens tokens

-- at least one token
abbrev IsLine : List (List ℕ) → Type 0
IsLine [] = ⊥
IsLine (token ∷ tokens) = are_tokens (token ∷ tokens) ≡ true

seen_as : (bytes as_bytes first as_first : List ℕ) (others : List (List ℕ))
    (more : List (List (List ℕ))) → bytes ≡ as_bytes → first ≡ as_first
    → Begins bytes first others more → Begins as_bytes as_first others more
seen_as bytes as_bytes first as_first others more e f h =
    record {
      line = h.line;
      lines = h.lines;
      parted = ap lines_of (sym e)
          ∙ h.parted;
      tokens = h.tokens ∙ ap (λ p. p ∷ others) f;
      rest = h.rest;
    }

line_begins : (token : List ℕ) (tokens : List (List ℕ)) (rest : List ℕ) → IsLine (token ∷ tokens)
    → Begins (line_text (token ∷ tokens) ++ rest) token tokens (tokenized rest)
line_begins token [] rest is =
    let own = and_parts (is_token token) true is in
    let h = at_token token (10 ∷ rest) [] [] (tokenized rest) own.0 (at_feed rest) in
    seen_as _ _ _ _ [] (tokenized rest) (sym (append_assoc token (10 ∷ []) rest))
    (append-nil token) h
line_begins token (next ∷ tokens) rest is =
    let own = and_parts (is_token token) (are_tokens (next ∷ tokens)) is in
    let behind = line_begins next tokens rest own.1 in
    let bytes : List ℕ = line_text (next ∷ tokens) ++ rest in
    let spaced = at_space bytes next tokens (tokenized rest) behind in
    let h = at_token token (32 ∷ bytes) [] (next ∷ tokens) (tokenized rest) own.0 spaced in
    let joined : List ℕ = 32 ∷ join_with_byte 32 (next ∷ tokens) in
    let text : (token ++ joined) ++ 10 ∷ [] ++ rest ≡ token ++ 32 ∷ bytes =
    ap (λ l. l ++ rest) (append_assoc token joined (10 ∷ []))
    ∙ append_assoc token (joined ++ 10 ∷ []) rest in
    seen_as _ _ _ _ (next ∷ tokens) (tokenized rest) (sym text) (append-nil token) h

tokenized_first : (bytes first : List ℕ) (others : List (List ℕ)) (more : List (List (List ℕ)))
    → Begins bytes first others more → tokenized bytes ≡ (first ∷ others) ∷ more
tokenized_first bytes first others more h =
    ap (map tokens_of) h.parted ∙ ap (λ ps. ps ∷ map tokens_of h.lines) h.tokens
    ∙ ap (λ ls. (first ∷ others) ∷ ls) h.rest

lines_again : (lines : List (List (List ℕ))) → AllByRecursion IsLine lines
    → tokenized (flat_map line_text lines) ≡ lines
lines_again [] are = refl
lines_again ([] ∷ lines) are = absurd are.0
lines_again ((token ∷ tokens) ∷ lines) are =
    tokenized_first _ token tokens _ (line_begins token tokens (flat_map line_text lines) are.0)
    ∙ ap (λ ls. (token ∷ tokens) ∷ ls) (lines_again lines are.1)

-- ---- the lines of a job

digits_token : (bs : List ℕ) → AllDigits 10 bs → is_token bs ≡ true
digits_token [] digits = refl
digits_token (b ∷ bs) digits =
    let range = digit_from_value b digits.0 in
    let above : ltb 32 b ≡ true = grind (arith, nat_tests) in
    rw above (digits_token bs digits.1)

number_token : (n : ℕ) → n < 2 ^ 64 → is_token (decimal n) ≡ true
number_token n fits = let numeral = decimal_is_IsNumeral n fits in
    digits_token (decimal n) numeral.0.1

version_token : (w : Width) → is_token (version w) ≡ true
version_token Four = refl
version_token Eight = refl

header_line : (c : Config) → IsInBounds c → IsLine (header c)
header_line c b =
    rw (
      version_token c.width,
      number_token c.threads (omega (arith, b.threads)),
      number_token c.blocks (omega (arith, b.blocks)),
      number_token c.live (omega (arith, b.live)),
      number_token c.object (omega (arith, b.object)),
      number_token c.shared (omega (arith, b.shared)),
    ) refl

thread_line : (t : ℕ) → t < 16 → IsLine (codes "thread" ∷ decimal t ∷ [])
thread_line t lt = rw (number_token t (omega arith)) refl

numbers_tokens : (ns : List ℕ) → AllByRecursion (λ n. n < 2 ^ 62) ns
    → are_tokens (map decimal ns) ≡ true
numbers_tokens [] h = refl
numbers_tokens (n ∷ ns) h = rw (number_token n (omega (arith, h.0))) (numbers_tokens ns h.1)

a_line : (c : Config) (x : Command) → IsCommandInBounds c x → IsLine (command_line x)
a_line c x b =
    rw (spelled x).token
    (numbers_tokens (numbers x) (operands_low (operands x) (operands_in_range x b.range)))

commands_lines : (c : Config) (trace : List Command) → AllByRecursion (IsCommandInBounds c) trace
    → AllByRecursion IsLine (map command_line trace)
commands_lines c [] b = tt
commands_lines c (x ∷ trace) b = (a_line c x b.0, commands_lines c trace b.1)

all_append : (xs ys : List (List (List ℕ))) → AllByRecursion IsLine xs → AllByRecursion IsLine ys
    → AllByRecursion IsLine (xs ++ ys)
all_append [] ys p q = q
all_append (x ∷ xs) ys p q = (p.0, all_append xs ys p.1 q)

threads_lines : (c : Config) (t : ℕ) (traces : List (List Command)) → t + length traces ≤ 16
    → AllByRecursion (IsTraceInBounds c) traces
    → AllByRecursion IsLine (traces_lines t traces)
threads_lines c t [] few b = tt
threads_lines c t (trace ∷ traces) few b =
    all_append (trace_lines t trace) (traces_lines (t + 1) traces)
    (thread_line t (omega arith), commands_lines c trace b.0.commands)
    (threads_lines c (t + 1) traces (omega arith) b.1)

-- the text of a job is that job
pub text_is_job : (job : Job) → IsJobInBounds job → IsJob (job_text job) job
text_is_job job b =
    let few : 0 + length job.traces ≤ 16 = omega (arith, b.threads, b.config.threads) in
    let threads = threads_lines job.config 0 job.traces few b.each in
    let last : AllByRecursion IsLine ((codes "end" ∷ []) ∷ []) = (refl, tt) in
    let are : AllByRecursion IsLine (job_lines job.config job.traces) = (
      header_line job.config b.config,
      all_append (traces_lines 0 job.traces) ((codes "end" ∷ []) ∷ []) threads last,
    ) in
    record { in_bounds = b; lines = lines_again (job_lines job.config job.traces) are }

pub text_is_input : (job : Job) → IsJobInBounds job → length (job_text job) ≤ input_limit
    → IsInput (job_text job) job
text_is_input job b short = record { within = short; is_job = text_is_job job b }
