-- Nothing is wrong with the lines that a job begins with.
use Rattle.std.proofs.Common.{◌≡◌, ℕ, zero, suc, ◌+◌, ◌-◌, ◌^◌, ◌<◌, ◌≤◌, true, false, eqb, ◌&&◌, List, [], ◌∷◌, ◌++◌, map, length, take, drop, decimal, codes, Some, None, refl, sym, ap, subst, ◌∙◌, arith}
use Rattle.std.specs.List.{AllByRecursion}
use Rattle.std.proofs.lemmas.Bool.{ne_eqb}
use Rattle.block_store.specs.declared.Config.{Config}
use Rattle.block_store.specs.Configs.{IsInBounds}
use Rattle.never_heap.specs.declared.Command.{Command}
use Rattle.never_heap.specs.Bounds.{IsCommandInBounds}
use Rattle.trace_text.specs.declared.trace_faults.Why.{Why}
use Rattle.trace_text.specs.declared.reading.lines.Line.{Line}
use Rattle.trace_text.specs.declared.reading.lines.Line.TheVariants.{Thread, End, Told}
use Rattle.trace_text.specs.declared.reading.words.Word.{Word}
use Rattle.trace_text.specs.declared.reading.words.Word.TheVariants as words
use Rattle.trace_text.specs.Words.{is_command}
use Rattle.trace_text.proofs.CommandWords.{spelled, word_again, word_of}
use Rattle.trace_text.specs.Spellings.{header, command_line, trace_lines, traces_lines}
use Rattle.trace_text.specs.Reading.{tokenized}
use Rattle.trace_text.specs.Refusals.{Before, nothing_before, after_word, after_line, after_lines, later_fault, next_fault, header_fault, config_of, fault_at, IsFirstBadLine}
use Rattle.never_heap.specs.Jobs.{IsTraceInBounds}
use Rattle.trace_text.proofs.LineLaws.{reason, prior, line_text, Fits, is_told, line_agrees, line_complete}
use Rattle.trace_text.proofs.HeaderLaws.{header_agrees, header_sound, header_complete}

abbrev pub Lines : Type 0
Lines = List (List (List ℕ))

-- nothing is wrong with these lines after others
abbrev pub IsQuiet : Config → Before → Lines → Type 0
IsQuiet c b [] = Unit {0}
IsQuiet c b (line ∷ lines) = (later_fault c b line ≡ None) × IsQuiet c (after_line b line) lines

pub quiet_append : (c : Config) (b : Before) (xs ys : Lines) → IsQuiet c b xs
    → IsQuiet c (after_lines b xs) ys → IsQuiet c b (xs ++ ys)
quiet_append c b [] ys p q = q
quiet_append c b (x ∷ xs) ys p q = (p.0, quiet_append c (after_line b x) xs ys p.1 q)

pub after_append : (b : Before) (xs ys : Lines)
    → after_lines b (xs ++ ys) ≡ after_lines (after_lines b xs) ys
after_append b [] ys = refl
after_append b (x ∷ xs) ys = after_append (after_line b x) xs ys

-- ---- by lines

quiet_line : (c : Config) (t k : ℕ) (l : Line) → t < 10 ^ 19 → Fits c t k l
    → (is_told l && eqb t 0) ≡ false → later_fault c (prior t k) (line_text l) ≡ None
quiet_line c t k l le f turn =
    line_agrees c t k (line_text l) ∙ ap reason (line_complete c t k l le f turn)

one_more : (b : Before) (w : Word) → is_command w ≡ true
    → after_word b (Some w)
    ≡ record { threads = b.threads; commands = b.commands + 1; ended = b.ended }
one_more b words.Thread is = absurd cc
one_more b words.End is = absurd cc
one_more b _ is = refl

after_command : (t k : ℕ) (x : Command) → after_line (prior t k) (command_line x) ≡ prior t (k + 1)
after_command t k x =
    ap (after_word (prior t k)) (word_again x)
    ∙ one_more (prior t k) (word_of x) (spelled x).command

-- nothing is wrong with lines after t threads and k commands of the last, and they lead on to
-- other counts
pub record LeadsOn (c : Config) (t k : ℕ) (lines : Lines) (t' k' : ℕ) : Type 0 where
  pub quiet : IsQuiet c (prior t k) lines
  pub after : after_lines (prior t k) lines ≡ prior t' k'

-- the same in turn
pub in_turn : (c : Config) (t k : ℕ) (xs ys : Lines) (t' k' u v : ℕ) → LeadsOn c t k xs t' k'
    → LeadsOn c t' k' ys u v → LeadsOn c t k (xs ++ ys) u v
in_turn c t k xs ys t' k' u v p q =
    record {
      quiet = quiet_append c (prior t k) xs ys p.quiet
          (subst (λ (b : Before). IsQuiet c b ys) (sym p.after) q.quiet);
      after = after_append (prior t k) xs ys ∙ ap (λ (b : Before). after_lines b ys) p.after
          ∙ q.after;
    }

told_behind : (t : ℕ) → 0 < t → eqb t 0 ≡ false
told_behind t lt = ne_eqb t 0 (λ e. omega arith)

pub commands_lead : (c : Config) (t k : ℕ) (trace : List Command) → 0 < t → t ≤ 16
    → k + length trace ≤ 131072 → AllByRecursion (IsCommandInBounds c) trace
    → LeadsOn c t k (map command_line trace) t (k + length trace)
commands_lead c t k [] some le few fit = record { quiet = tt; after = ap (prior t) (omega arith) }
commands_lead c t k (x ∷ trace) some le few fit =
    let own = quiet_line c t k (Told x) (omega arith) (fit.0, omega arith) (told_behind t some) in
    let more = commands_lead c t (k + 1) trace some le (omega arith) fit.1 in
    record {
      quiet = (
        own,
        subst (λ (b : Before). IsQuiet c b (map command_line trace))
            (sym (after_command t k x)) more.quiet,
      );
      after = ap (λ (b : Before). after_lines b (map command_line trace)) (after_command t k x)
          ∙ more.after ∙ ap (prior t) (omega arith);
    }

pub thread_leads : (c : Config) (t k : ℕ) → t < c.threads → t < 10 ^ 19
    → LeadsOn c t k ((codes "thread" ∷ decimal t ∷ []) ∷ []) (t + 1) 0
thread_leads c t k lt le =
    record {
      quiet = (quiet_line c t k (Thread t) le (refl, λ e. omega arith) refl, tt);
      after = refl;
    }

pub trace_leads : (c : Config) (t k : ℕ) (trace : List Command) → t < c.threads → t < 16
    → IsTraceInBounds c trace → LeadsOn c t k (trace_lines t trace) (t + 1) (length trace)
trace_leads c t k trace lt le fits =
    let begins = thread_leads c t k lt (omega arith) in
    let more = commands_lead c (t + 1) 0 trace (omega arith) (omega arith)
    (omega (arith, fits.few)) fits.commands in
    let both = in_turn c t k ((codes "thread" ∷ decimal t ∷ []) ∷ []) (map command_line trace)
    (t + 1) 0 (t + 1) (0 + length trace) begins more in
    record { quiet = both.quiet; after = both.after ∙ ap (prior (t + 1)) (omega arith) }

-- the lines of some traces lead on to n threads, with how many commands the last of them has
pub record LeadsThrough (c : Config) (t k : ℕ) (traces : List (List Command)) (n : ℕ) : Type 0 where
  pub last : ℕ
  pub leads : LeadsOn c t k (traces_lines t traces) n last

pub traces_lead : (c : Config) (t k : ℕ) (traces : List (List Command)) (n : ℕ)
    → n ≡ t + length traces → n ≤ c.threads → c.threads ≤ 16
    → AllByRecursion (IsTraceInBounds c) traces → LeadsThrough c t k traces n
traces_lead c t k [] n is le few fit =
    record {
      last = k;
      leads = record {
        quiet = tt;
        after = ap (λ (m : ℕ). prior m k) (omega arith);
      };
    }
traces_lead c t k (trace ∷ traces) n is le few fit =
    let first = trace_leads c t k trace (omega arith) (omega arith) fit.0 in
    let more = traces_lead c (t + 1) (length trace) traces n (omega arith) le few fit.1 in
    record {
      last = more.last;
      leads = in_turn c t k (trace_lines t trace) (traces_lines (t + 1) traces) (t + 1)
          (length trace) n more.last first more.leads;
    }

pub end_is_quiet : (c : Config) (t k : ℕ) → t ≡ c.threads → t ≤ 16
    → later_fault c (prior t k) (codes "end" ∷ []) ≡ None
end_is_quiet c t k e le = quiet_line c t k End (omega arith) e refl

-- ---- by places

quiet_at : (c : Config) (b : Before) (ls rest : Lines) (i : ℕ) → IsQuiet c b ls → i < length ls
    → next_fault c (after_lines b (take i (ls ++ rest))) (drop i (ls ++ rest)) ≡ None
quiet_at c b [] rest i q lt = absurd (omega arith)
quiet_at c b (l ∷ ls) rest zero q lt = q.0
quiet_at c b (l ∷ ls) rest (suc i) q lt = quiet_at c (after_line b l) ls rest i q.1 (omega arith)

fault_behind : (c : Config) (b : Before) (ls rest : Lines)
    → next_fault c (after_lines b (take (length ls) (ls ++ rest))) (drop (length ls) (ls ++ rest))
    ≡ next_fault c (after_lines b ls) rest
fault_behind c b [] rest = refl
fault_behind c b (l ∷ ls) rest = fault_behind c (after_line b l) ls rest

pub all_quiet : (c : Config) (b : Before) (ls : Lines) (i : ℕ) → IsQuiet c b ls
    → (after_lines b ls).ended ≡ true
    → next_fault c (after_lines b (take i ls)) (drop i ls) ≡ None
all_quiet c b [] zero q e = rw e refl
all_quiet c b [] (suc i) q e = rw e refl
all_quiet c b (l ∷ ls) zero q e = q.0
all_quiet c b (l ∷ ls) (suc i) q e = all_quiet c (after_line b l) ls i q.1 e

-- a header that is written
pub header_quiet : (c : Config) → IsInBounds c → header_fault (header c) ≡ None
header_quiet c fits = header_agrees (header c) ∙ ap reason (header_complete c fits)

pub header_config : (c : Config) → IsInBounds c → config_of (header c) ≡ c
header_config c fits = (header_sound (header c) c (header_complete c fits)).config

-- in lines that begin with a header and others with which nothing is wrong
module _ (c : Config) (fits : IsInBounds c) (ls rest : Lines)
    (quiet : IsQuiet c nothing_before ls) where
  none_before : (i : ℕ) → i < length ls + 1 → fault_at (header c ∷ (ls ++ rest)) i ≡ None
  none_before zero lt = header_quiet c fits
  none_before (suc i) lt =
      ap (λ (d : Config). next_fault d (after_lines nothing_before (take i (ls ++ rest)))
      (drop i (ls ++ rest))) (header_config c fits)
      ∙ quiet_at c nothing_before ls rest i quiet (omega arith)

  fault_next : fault_at (header c ∷ (ls ++ rest)) (suc (length ls))
      ≡ next_fault c (after_lines nothing_before ls) rest
  fault_next = ap (λ (d : Config). next_fault d
      (after_lines nothing_before (take (length ls) (ls ++ rest)))
      (drop (length ls) (ls ++ rest))) (header_config c fits)
      ∙ fault_behind c nothing_before ls rest

  pub first_bad : (bytes : List ℕ) (line : ℕ) (why : Why) (b : Before)
      → tokenized bytes ≡ header c ∷ (ls ++ rest) → line ≡ length ls + 2
      → after_lines nothing_before ls ≡ b → next_fault c b rest ≡ Some why
      → IsFirstBadLine bytes line why
  first_bad bytes line why b text is after fault =
      let index : line - 1 ≡ suc (length ls) = omega arith in
      record {
        some = omega arith;
        before = λ i lt. subst (λ (all : Lines). fault_at all i ≡ None) (sym text)
            (none_before i (omega arith));
        fault = subst (λ (all : Lines). fault_at all (line - 1) ≡ Some why) (sym text)
            (ap (fault_at (header c ∷ (ls ++ rest))) index ∙ fault_next
            ∙ ap (λ (d : Before). next_fault c d rest) after ∙ fault);
      }
