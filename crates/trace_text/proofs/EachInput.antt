-- Each input is a job or has a first bad line.
use Rattle.std.proofs.Common.{◌≡◌, ℕ, ◌+◌, ◌<◌, List, [], ◌∷◌, ◌++◌, length, Result, Ok, Err, refl, ◌⊎◌, inl, inr, arith}
use Rattle.std.proofs.lemmas.Bool.{cases_eq}
use Rattle.block_store.specs.declared.Config.{Config}
use Rattle.never_heap.specs.declared.Command.{Command}
use Rattle.trace_text.specs.declared.trace_faults.Why.{Why}
use Rattle.trace_text.specs.declared.reading.lines.Line.{Line}
use Rattle.trace_text.specs.declared.reading.lines.Line.TheVariants.{Thread, End, Told}
use Rattle.trace_text.specs.Jobs.{Job, IsJob}
use Rattle.trace_text.specs.Reading.{tokenized}
use Rattle.trace_text.specs.Said.{line_at, header_at}
use Rattle.trace_text.specs.Refusals.{IsFirstBadLine}
use Rattle.trace_text.specs.Wholes.{IsBegun}
use Rattle.trace_text.proofs.LineLaws.{place}
use Rattle.trace_text.proofs.HeaderLaws.{header_sound}
use Rattle.trace_text.proofs.QuietLaws.{Lines}
use Rattle.trace_text.proofs.WholeLaws.{IsSoFar, trace_ends, trace_goes_on, trace_stops, trace_is_bad, no_header, bad_header, no_thread, bad_thread, opens, goes_on, goes_wrong, is_whole, is_too_long}

abbrev Outcome : List ℕ → Type 0
Outcome bytes = ((job : Job) × IsJob bytes job) ⊎
    ((line : ℕ) × (why : Why) × IsFirstBadLine bytes line why)

bad : (bytes : List ℕ) (line : ℕ) (why : Why) → IsFirstBadLine bytes line why → Outcome bytes
bad bytes line why is = inr (line, why, is)

-- what follows after some traces and a part of one more, when these lines are left
abbrev Follows : List ℕ → Config → Lines → Type 0
Follows bytes c others =
    (done : List (List Command)) (read : ℕ) (left : Lines) (trace : List Command)
    → IsBegun c done bytes read left → length done < c.threads → IsSoFar c left trace others
    → Outcome bytes

-- after the last trace
behind_last : (bytes : List ℕ) (c : Config) (done : List (List Command)) (read : ℕ)
    (others : Lines) → IsBegun c done bytes read others → length done ≡ c.threads → Outcome bytes
behind_last bytes c done read [] begun last =
    inl (record { config = c; traces = done }, is_whole c done bytes read [] begun last refl)
behind_last bytes c done read (ps ∷ others) begun last =
    bad bytes _ _ (is_too_long c done bytes read (ps ∷ others) begun last ps others refl)

none_so_far : (c : Config) (lines : Lines) → IsSoFar c lines [] lines
none_so_far c lines = record {
  text = refl;
  in_bounds = record { few = omega arith; commands = tt };
}

-- after a trace
behind_trace : (bytes : List ℕ) (c : Config) (done : List (List Command)) (read : ℕ)
    (others : Lines) → Follows bytes c others → IsBegun c done bytes read others → Outcome bytes
behind_trace bytes c done read others follows begun =
    elim (cases_eq (length done) c.threads) [
      | inl e ↦ behind_last bytes c done read others begun e
      | inr ne ↦ follows done read others [] begun (omega (arith, begun.threads))
          (none_so_far c others)
    ]

behind_line : (bytes : List ℕ) (c : Config) (ps : List (List ℕ)) (others : Lines)
    (done : List (List Command)) (read : ℕ) (left : Lines) (trace : List Command)
    (said : Result Line Why) → Follows bytes c others
    → IsBegun c done bytes read left → length done < c.threads
    → IsSoFar c left trace (ps ∷ others)
    → line_at (place c (length done + 1) (length trace)) ps ≡ said → Outcome bytes
behind_line bytes c ps others done read left trace (Err why) follows begun more so_far is =
    bad bytes _ why (goes_wrong c done bytes read left begun more _ why
    (trace_is_bad c (length done + 1) left trace
    (ps ∷ others) so_far ps others refl why is read))
behind_line bytes c ps others done read left trace (Ok (Told x)) follows begun more so_far is =
    follows done read left (trace ++ x ∷ []) begun more
    (trace_goes_on c (length done + 1) left trace (ps ∷ others) so_far ps others refl x is)
behind_line bytes c ps others done read left trace (Ok (Thread n)) follows begun more so_far is =
    behind_trace bytes c (done ++ trace ∷ []) _ others follows
    (goes_on c done bytes read left begun more trace others
    (trace_stops c (length done + 1) left trace (ps ∷ others) so_far ps others refl
    (Thread n) is refl))
behind_line bytes c ps others done read left trace (Ok End) follows begun more so_far is =
    behind_trace bytes c (done ++ trace ∷ []) _ others follows
    (goes_on c done bytes read left begun more trace others
    (trace_stops c (length done + 1) left trace
    (ps ∷ others) so_far ps others refl End is refl))

follow : (bytes : List ℕ) (c : Config) (others : Lines) → Follows bytes c others
follow bytes c [] = λ done read left trace begun more so_far.
    bad bytes _ _ (goes_wrong c done bytes read left begun more _ _
    (trace_ends c (length done + 1) left trace [] so_far refl read))
follow bytes c (ps ∷ others) = λ done read left trace begun more so_far.
    behind_line bytes c ps others done read left trace
    (line_at (place c (length done + 1) (length trace)) ps)
    (follow bytes c others) begun more so_far refl

behind_thread : (bytes : List ℕ) (c : Config) (ps qs : List (List ℕ)) (more : Lines)
    (said : Result Line Why) → tokenized bytes ≡ ps ∷ qs ∷ more → header_at ps ≡ Ok c
    → line_at (place c 0 0) qs ≡ said → Outcome bytes
behind_thread bytes c ps qs more (Err why) text is said =
    bad bytes 2 why (bad_thread bytes ps (qs ∷ more) c text is qs more why refl said)
behind_thread bytes c ps qs more (Ok l) text is said =
    follow bytes c more [] 2 more [] (opens bytes ps (qs ∷ more) c text is qs more l refl said)
    (omega (arith, (header_sound ps c is).fits.some_thread)) (none_so_far c more)

behind_header : (bytes : List ℕ) (ps : List (List ℕ)) (others : Lines) (named : Result Config Why)
    → tokenized bytes ≡ ps ∷ others → header_at ps ≡ named → Outcome bytes
behind_header bytes ps others (Err why) text is =
    bad bytes 1 why (bad_header bytes ps others why text is)
behind_header bytes ps [] (Ok c) text is = bad bytes 2 _ (no_thread bytes ps [] c text is refl)
behind_header bytes ps (qs ∷ more) (Ok c) text is =
    behind_thread bytes c ps qs more (line_at (place c 0 0) qs) text is refl

by_lines : (bytes : List ℕ) (lines : Lines) → tokenized bytes ≡ lines → Outcome bytes
by_lines bytes [] text = bad bytes 1 _ (no_header bytes text)
by_lines bytes (ps ∷ others) text = behind_header bytes ps others (header_at ps) text refl

pub either : (bytes : List ℕ) → Outcome bytes
either bytes = by_lines bytes (tokenized bytes) refl
