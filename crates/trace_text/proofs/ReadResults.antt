-- What a reading leaves, and what it says of the bytes.
use Rattle.std.proofs.Common.{◌≡◌, ℕ, ◌+◌, ◌<◌, ◌≤◌, List, [], ◌++◌, length, drop, Option, Some, None, Result, Ok, Err, refl, sym, ap, subst, ◌∙◌, inl, inr, arith}
use Rattle.std.specs.Prelude.{IfSome, IfOk, MatchResult, IsErrOf}
use Rattle.std.proofs.lemmas.List.{append-nil, drop_at, length-append}
use Rattle.std.proofs.lemmas.Option.{same_Some}
use Rattle.trace_text.specs.declared.trace_faults.Why.{Why}
use Rattle.trace_text.specs.declared.trace_faults.TraceFault.{TraceFault}
use Rattle.trace_text.specs.declared.trace_faults.TraceFault.TheVariants.{ReadFault, TooLong, BadLine, OutOfMemory}
use Rattle.trace_text.specs.Jobs.{Job, input_limit, IsJobInBounds, IsJob, IsInput}
use Rattle.trace_text.specs.Refusals.{IsFirstBadLine}
use Rattle.trace_text.specs.Streams.{IsAtEnd, TookAtMost}
use Rattle.trace_text.specs.Wholes.{IsLineFault}
use Rattle.trace_text.specs.Inputs.{HasRead, IsRead, IsRefused, StopsAt}
use Rattle.trace_text.proofs.OneJob.{one_job}
use Rattle.trace_text.proofs.WholeLaws.{apart, one_first}

-- of a source that is at its end all bytes were read
pub all_read : (bytes input : List ℕ) (new : Option (List ℕ)) → HasRead (Some bytes) input new
    → new ≡ Some [] → bytes ≡ input
all_read bytes input new h e =
    let none : h.0 ≡ [] = same_Some h.0 [] (sym h.2 ∙ e) in
    h.1 ∙ ap (λ (r : List ℕ). input ++ r) none ∙ append-nil input

abbrev pub Answers : Result Job TraceFault → List ℕ → Type 0
Answers r input = MatchResult r (IsJob input) (IsLineFault (IsFirstBadLine input))

-- the job is in bounds, whatever the source told
pub bounded : (r : Result Job TraceFault) (input : List ℕ) → Answers r input → IfOk r IsJobInBounds
bounded (Ok job) input is = is.in_bounds
bounded (Err e) input is = tt

-- ---- bytes that were all read

read_job : (r : Result Job TraceFault) (bytes : List ℕ) → Answers r bytes → (job : Job)
    → IsJob bytes job → IsRead r job
read_job (Ok found) bytes is job of = one_job bytes found job is of
read_job (Err ReadFault) bytes is job of = tt
read_job (Err TooLong) bytes is job of = absurd is
read_job (Err (BadLine line why)) bytes is job of = absurd (apart bytes job line why of is)
read_job (Err OutOfMemory) bytes is job of = tt

same_fault : (line other : ℕ) (why reason : Why) → line ≡ other → why ≡ reason
    → ◌≡◌ {A = TraceFault} (BadLine line why) (BadLine other reason)
same_fault line other why reason e f = cc

refused : (r : Result Job TraceFault) (bytes : List ℕ) → Answers r bytes → (line : ℕ) (why : Why)
    → IsFirstBadLine bytes line why → IsRefused r (BadLine line why)
refused (Ok job) bytes is line why bad = apart bytes job line why is bad
refused (Err ReadFault) bytes is line why bad = inr tt
refused (Err TooLong) bytes is line why bad = absurd is
refused (Err (BadLine other reason)) bytes is line why bad = let same =
    one_first bytes other line reason why is bad in
    inl (same_fault other line reason why same.0 same.1)
refused (Err OutOfMemory) bytes is line why bad = inr tt

blamed : (r : Result Job TraceFault) (bytes : List ℕ) → Answers r bytes → (line : ℕ) (why : Why)
    → r ≡ Err (BadLine line why) → IsFirstBadLine bytes line why
blamed r bytes is line why e = subst (λ (s : Result Job TraceFault). Answers s bytes) e is

not_long : (r : Result Job TraceFault) (bytes : List ℕ) → Answers r bytes → r ≡ Err TooLong → ⊥
not_long r bytes is e = subst (λ (s : Result Job TraceFault). Answers s bytes) e is

ok_input : (r : Result Job TraceFault) (bytes : List ℕ) → length bytes ≤ input_limit
    → Answers r bytes → IfOk r (λ job. IsInput bytes job)
ok_input (Ok job) bytes short is = record { within = short; is_job = is }
ok_input (Err e) bytes short is = tt

whatever : (r : Result Job TraceFault) (P : Job → Type 0) → ((job : Job) → P job) → IfOk r P
whatever (Ok job) P h = h job
whatever (Err e) P h = tt

ended_few : (old new : Option (List ℕ)) (input : List ℕ) → length input ≤ input_limit
    → HasRead old input new → TookAtMost (input_limit + 1) old new
ended_few None new input short read = tt
ended_few (Some bytes) new input short read = (
  length input,
  omega arith,
  read.2
      ∙ ap Some (sym (ap (drop (length input)) read.1
      ∙ drop_at input read.0 (length input) refl)),
)

ends_by : (r : Result Job TraceFault) (input : List ℕ) (old new : Option (List ℕ))
    → Answers r input → IsAtEnd old new → TookAtMost (input_limit + 1) old new → StopsAt r old new
ends_by (Ok job) input old new is ended few = ended
ends_by (Err ReadFault) input old new is ended few = few
ends_by (Err TooLong) input old new is ended few = absurd is
ends_by (Err (BadLine line why)) input old new is ended few = ended
ends_by (Err OutOfMemory) input old new is ended few = few

-- what is known of each source's bytes
pub record Known (r : Result Job TraceFault) (old : Option (List ℕ)) : Type 0 where
  pub job : IfOk r (λ job. IfSome old (λ bytes. IsInput bytes job))
  pub complete : IfSome old (λ bytes. (job : Job) → IsInput bytes job → IsRead r job)
  pub long : IfSome old (λ bytes. input_limit < length bytes → IsRefused r TooLong)
  pub too_long : IsErrOf r TooLong → IfSome old (λ bytes. input_limit < length bytes)
  pub wrong : IfSome old (λ bytes. (line : ℕ) (why : Why) → length bytes ≤ input_limit
      → IsFirstBadLine bytes line why → IsRefused r (BadLine line why))
  pub bad_line : (line : ℕ) (why : Why) → IsErrOf r (BadLine line why)
      → IfSome old (λ bytes. (length bytes ≤ input_limit) × IsFirstBadLine bytes line why)

pub known : (r : Result Job TraceFault) (old new : Option (List ℕ)) (input : List ℕ)
    → Answers r input → length input ≤ input_limit → HasRead old input new → IsAtEnd old new
    → Known r old
known r None new input is short read ended =
    record {
      job = whatever r _ (λ job. tt);
      complete = tt;
      long = tt;
      too_long = λ e. tt;
      wrong = tt;
      bad_line = λ line why e. tt;
    }
known r (Some bytes) new input is short read ended =
    let same = all_read bytes input new read ended in
    let told : Answers r bytes = subst (Answers r) (sym same) is in
    let few : length bytes ≤ input_limit = omega (arith, ap length same) in
    record {
      job = ok_input r bytes few told;
      complete = λ job of. read_job r bytes told job of.is_job;
      long = λ more. absurd (omega arith);
      too_long = λ e. absurd (not_long r bytes told e);
      wrong = λ line why within bad. refused r bytes told line why bad;
      bad_line = λ line why e. (few, blamed r bytes told line why e);
    }

pub stops : (r : Result Job TraceFault) (old new : Option (List ℕ)) (input : List ℕ)
    → Answers r input → length input ≤ input_limit → HasRead old input new → IsAtEnd old new
    → StopsAt r old new
stops r old new input is short read ended =
    ends_by r input old new is ended (ended_few old new input short read)

-- a source that told too many bytes was read as far as the first of them
pub stops_early : (old new : Option (List ℕ)) (input : List ℕ) → length input ≡ input_limit + 1
    → HasRead old input new → IfSome old (λ bytes. new ≡ Some (drop (input_limit + 1) bytes))
stops_early None new input len read = tt
stops_early (Some bytes) new input len read =
    read.2 ∙ ap Some (sym (ap (drop (input_limit + 1)) read.1
    ∙ drop_at input read.0 (input_limit + 1) len))

more_told : (bytes input : List ℕ) (new : Option (List ℕ)) → length input ≡ input_limit + 1
    → HasRead (Some bytes) input new → input_limit < length bytes
more_told bytes input new len read =
    omega (arith, ap length read.1, length-append input read.0)

-- what is known of a source with too many bytes
pub known_long : (old new : Option (List ℕ)) (input : List ℕ) → length input ≡ input_limit + 1
    → HasRead old input new → Known (Err TooLong) old
known_long None new input len read =
    record {
      job = tt;
      complete = tt;
      long = tt;
      too_long = λ e. tt;
      wrong = tt;
      bad_line = λ line why e. tt;
    }
known_long (Some bytes) new input len read =
    let more = more_told bytes input new len read in
    record {
      job = tt;
      complete = λ job of. absurd (omega (arith, of.within));
      long = λ h. inl refl;
      too_long = λ e. more;
      wrong = λ line why within bad. absurd (omega arith);
      bad_line = λ line why e. absurd cc;
    }
