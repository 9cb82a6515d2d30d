-- A source that was read to its end, or to the first byte too many.
use Rattle.std.proofs.Common.{◌≡◌, ℕ, ◌+◌, ◌<◌, ◌≤◌, inl, List, [], ◌++◌, length, drop, Option, Some, None, IfSome, sym, ap, ◌∙◌, append-nil, length-append, arith}
use Rattle.std.proofs.Math.Seq.{drop-append_seam}
use Rattle.std.proofs.lemmas.Option.{same_Some}
use Rattle.trace_text.specs.Inputs as inputs
use Rattle.trace_text.specs.Streams.{IsAtEnd, TookAtMost}
use Rattle.exit_statuses.specs.declared.refusal.Refusal.{Refusal}
use Rattle.exit_statuses.specs.declared.refusal.Refusal.TheVariants as refusals
use Rattle.exit_statuses.specs.Refusals.{IsReadWhole, IsReadTooFar, IsReadInPart, IsReadRefusal, IsCause, HasRead}
use Rattle.exit_statuses.specs.Sides.{Sides, IsUnfailed}

left_behind : (bytes front rest : List ℕ) → bytes ≡ front ++ rest → drop (length front) bytes ≡ rest
left_behind bytes front rest e = ap (drop (length front)) e ∙ drop-append_seam front rest

too_far : (limit : ℕ) (old new : Option (List ℕ)) (front : List ℕ) → length front ≡ limit + 1
    → inputs.HasRead old front new
    → IfSome old (λ bytes. (limit < length bytes) × (new ≡ Some (drop (limit + 1) bytes)))
too_far limit None new front long h = tt
too_far limit (Some bytes) new front long h =
    let size : length bytes ≡ length front + length h.0 = ap length h.1 ∙ length-append front h.0 in (
      omega arith,
      h.2 ∙ ap Some (sym (left_behind bytes front h.0 h.1)
          ∙ ap (λ (n : ℕ). drop n bytes) long),
    )

whole : (old new : Option (List ℕ)) (front : List ℕ) → inputs.HasRead old front new
    → IsAtEnd old new → IfSome old (λ bytes. bytes ≡ front)
whole None new front h e = tt
whole (Some bytes) new front h e =
    let none : h.0 ≡ [] = same_Some h.0 [] (sym h.2 ∙ e) in
    h.1 ∙ ap (λ (r : List ℕ). front ++ r) none ∙ append-nil front

-- what holds of a text that was read whole was read
pub has_read : {limit : ℕ} (source : Sides) (text : List ℕ) → IsReadWhole limit source text
    → IsUnfailed source → (P : List ℕ → Type 0) → P text → HasRead limit P source
has_read source text whole still P p = record {
  text = text;
  whole = whole;
  holds = p;
  unfailed = still;
}

module _ (limit : ℕ) (source : Sides) (front : List ℕ)
    (read : inputs.HasRead source.bytes front source.bytes_now) where
  pub read_too_far : length front ≡ limit + 1 → IsReadTooFar limit source
  read_too_far long = too_far limit source.bytes source.bytes_now front long read

  pub read_whole : length front ≤ limit → IsAtEnd source.bytes source.bytes_now
      → IsReadWhole limit source front
  read_whole few ended = record {
    told = whole source.bytes source.bytes_now front read ended;
    short = few;
    ended = ended;
  }

-- all of a text that was read to its end is no more than its limit and one byte
taken : (limit : ℕ) (old new : Option (List ℕ)) (text : List ℕ) → length text ≤ limit
    → IfSome old (λ bytes. bytes ≡ text) → IsAtEnd old new → TookAtMost (limit + 1) old new
taken limit None new text few h e = tt
taken limit (Some bytes) new text few h e =
    (length bytes, omega (arith, ap length h), e ∙ ap Some (sym (all_dropped bytes)))
  where
    all_dropped : (xs : List ℕ) → drop (length xs) xs ≡ []
    all_dropped xs = ap (drop (length xs)) (sym (append-nil xs)) ∙ drop-append_seam xs []

pub few_taken : (limit : ℕ) (source : Sides) (text : List ℕ) → IsReadWhole limit source text
    → IsReadInPart limit source
few_taken limit source text w =
    taken limit source.bytes source.bytes_now text w.short w.told w.ended

-- a text that was not read is refused by its cause
pub refused_unread : (Ask AskForText : List (List ℕ) → Type 0) (limit : ℕ)
    (Causes : List ℕ → Refusal → Type 0) (words : List (List ℕ)) → Ask words → AskForText words
    → (source : Sides) (r : Refusal) → IsReadRefusal limit source r
    → IsCause Ask AskForText limit Causes words source r
refused_unread Ask AskForText limit Causes words ask reads source refusals.TooLong c = inl (reads, c)
refused_unread Ask AskForText limit Causes words ask reads source refusals.ReadFault c = (reads, c)
refused_unread Ask AskForText limit Causes words ask reads source refusals.OutOfMemory c = (ask, c)
refused_unread Ask AskForText limit Causes words ask reads source _ c = absurd c
