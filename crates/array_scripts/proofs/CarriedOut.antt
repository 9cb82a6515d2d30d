-- A call that ran a script, or was refused, did what it is to do.
use Rattle.std.proofs.Common.{◌≡◌, ◌≢◌, ◌↔◌, ℕ, List, [], ◌∷◌, Option, Some, None, IfSome, IsSome, refl, sym, ◌∙◌, subst}
use Rattle.exit_statuses.specs.declared.refusal.Refusal.{Refusal}
use Rattle.exit_statuses.specs.Exits.{Exit, IsToldBy}
use Rattle.exit_statuses.specs.Refusals.{AreNone, status_of, refusal_line}
use Rattle.exit_statuses.specs.Sides.{Sides, IsUnfailed}
use Rattle.exit_statuses.proofs.ExitStatuses.{never_done, done_is_ended, refusal_is_ended}
use Rattle.array_scripts.specs.scripts.Scripts.{Reads}
use Rattle.trace_text.specs.Jobs.{input_limit}
use Rattle.trace_text.specs.Streams.{Appends, AppendsPrefix}
use Rattle.array_scripts.specs.declared.header.Header.{Header}
use Rattle.array_scripts.specs.ScriptCalls.{IsCarriedOut, exit_of}
use Rattle.array_scripts.specs.Kinds.{Kind, language, IsHeader, Fits}
use Rattle.array_scripts.specs.JobsOfScripts.{HasRoom, Causes, IsCause, IsFine, IsReadAs}
use Rattle.array_scripts.proofs.Apart.{are_apart, script_read}

-- a run is shown exactly where nothing refused it
module _ {Run : Type 0} (o : Option Run) where
  not_some : o ≡ None → IsSome o → ⊥
  not_some e s =
      let none : IsSome {T = Run} None = subst (λ (x : Option Run). IsSome x) e s in cc

  pub there : (run : Run) (due : ℕ) → o ≡ Some run → due ≡ 0 → IsSome o ↔ (due ≡ 0)
  there run due is zero = (λ _. zero, λ _. subst (λ (p : Option Run). IsSome p) (sym is) refl)

  pub absent : (r : Refusal) (due : ℕ) → o ≡ None → due ≡ status_of r → IsSome o ↔ (due ≡ 0)
  absent r due is e = (
    λ some. absurd (not_some is some),
    λ zero. absurd (never_done r (sym e ∙ zero)),
  )

  pub of_none : (P : Run → Type 0) → o ≡ None → IfSome o P
  of_none P is = subst (λ (x : Option Run). IfSome x P) (sym is) tt

module _ {Op Run : Type 0} (kind : Kind Op)
    (reads : Reads (language kind) (IsHeader kind) (Fits kind)) (name : List ℕ)
    (Headline : Run → Type 0) (words : List (List ℕ)) (source sink : Sides) (status due : ℕ)
    (shown : Option Run) (told : IsToldBy sink status due) where
  abbrev Done : Type 0
  Done = IsCarriedOut kind name Headline words source sink status due shown

  abbrev exit : Exit
  exit = exit_of words source sink status due

  -- a script was run
  pub run_is_carried_out : (run : Run) → words ≡ [] → Headline run → (h : Header)
      (scripts : List (List Op)) → IsReadAs kind source h scripts → HasRoom kind h
      → IsUnfailed source → due ≡ 0 → shown ≡ Some run → Done
  run_is_carried_out run none headline h scripts read room still zero is = record {
    run = there shown run due is zero;
    headline = subst (λ (o : Option Run). IfSome o Headline) (sym is) headline;
    ended = done_is_ended AreNone AreNone input_limit (Causes kind) (IsFine kind) (4 ∷ [])
        (are_apart kind reads) name exit told none zero still
        (λ _. script_read kind source h scripts read still (HasRoom kind) room);
  }

  -- the call was refused
  pub refusal_is_carried_out : (r : Refusal) → due ≡ status_of r → shown ≡ None
      → IsCause kind words source r
      → (status ≢ 6 → Appends sink.bytes sink.bytes_now (refusal_line name r))
      → (status ≡ 6 → AppendsPrefix sink.bytes sink.bytes_now (refusal_line name r))
      → Done
  refusal_is_carried_out r own is cause line prefix = record {
    run = absent shown r due is own;
    headline = of_none shown Headline is;
    ended = refusal_is_ended AreNone AreNone input_limit (Causes kind) (IsFine kind) (4 ∷ [])
        (are_apart kind reads) name exit told r own line prefix cause;
  }

if_some : {Run : Type 0} (P Q : Run → Type 0) → ((r : Run) → P r → Q r) → (o : Option Run)
    → IfSome o P → IfSome o Q
if_some P Q f None p = tt
if_some P Q f (Some r) p = f r p

-- what is said of the run may be said in other words
pub carried_out_as : {Op Run : Type 0} (kind : Kind Op) (name : List ℕ) (P Q : Run → Type 0)
    (words : List (List ℕ)) (source sink : Sides) (status due : ℕ) (shown : Option Run)
    → ((r : Run) → P r → Q r) → IsCarriedOut kind name P words source sink status due shown
    → IsCarriedOut kind name Q words source sink status due shown
carried_out_as kind name P Q words source sink status due shown f is =
    record { run = is.run; headline = if_some P Q f shown is.headline; ended = is.ended }
