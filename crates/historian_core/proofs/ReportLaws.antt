-- How a report goes on from line to line, and how it ends.
use Rattle.std.proofs.Common.{◌≡◌, ℕ, ◌+◌, ◌<◌, ◌≤◌, inl, inr, List, [], ◌∷◌, ◌++◌, length, length-append, le-ltb, lt-ltb, Option, Some, None, IfSome, Result, Ok, Err, sym, refl, ap, ◌∙◌, subst, arith}
use Rattle.trace_text.specs.Lines.{lines_of}
use Rattle.trace_text.specs.Streams.{Appends, AppendsPrefix}
use Rattle.trace_text.proofs.AppendedTexts.{appends_none, appends_in_turn, front_in_turn, front_longer}
use Rattle.historian_core.specs.declared.Limits.{Limits}
use Rattle.historian_core.specs.declared.stops.Stop.{Stop}
use Rattle.historian_core.specs.declared.stops.Stop.TheVariants.{ReadFault, WriteFault}
use Rattle.historian_core.specs.Lines.{Spells, EndsHere}
use Rattle.historian_core.specs.Reports.{AreReadings, IsReport, IsFineText, IsToldOrFails}
use Rattle.historian_core.specs.ReportTexts.{Due, life, reading_at, checked, with_text, due_after, due_from, due_in}
use Rattle.historian_core.specs.Windows.{told_line, told_lines}

-- nothing more is written
pub ends_here : (due : List (List ℕ) → Due) → (due []).text ≡ []
    → (all left held : Option (List ℕ)) (r : Result (Unit {0}) Stop)
    → IfSome all (λ bytes. EndsHere due bytes left r)
    → IfSome all (λ bytes. IsReport due bytes left held held r)
ends_here due none None left held r by = tt
ends_here due none (Some bytes) left held (Ok done) by = rw by.0 (refl, by.1, appends_none held)
ends_here due none (Some bytes) left held (Err WriteFault) by = absurd by
ends_here due none (Some bytes) left held (Err ReadFault) by = record {
  lines = [];
  rest = bytes;
  split = refl;
  fine = inl refl;
  told = rw none (appends_none held);
  cut = by;
}
ends_here due none (Some bytes) left held (Err stop) by = rw by (refl, appends_none held)

-- a line that spells x, for which a text is due, and the lines after it
module _ {X : Type 0} (at : List ℕ → X) (x : X) (due others : List (List ℕ) → Due) (text : List ℕ)
    (is : (line : List ℕ) (ls : List (List ℕ)) → at line ≡ x
    → due (line ∷ ls) ≡ with_text text (others ls)) where
  module _ (bytes : List ℕ) (left : Option (List ℕ)) (by : Spells at x bytes left) where
    all_due : due (lines_of bytes) ≡ with_text text (others (lines_of by.rest))
    all_due = ap due by.lines ∙ is by.line (lines_of by.rest) by.spelled

    in_front : (new held mid now : Option (List ℕ)) (r : Result (Unit {0}) Stop)
        → Appends held mid text → (others []).stop ≡ None → IsReport others by.rest new mid now r
        → IsReport due bytes new held now r
    in_front new held mid now (Ok done) put going report =
        rw all_due (report.0, report.1, appends_in_turn held mid now text _ put report.2)
    in_front new held mid now (Err WriteFault) put going report =
        let more = (others (lines_of by.rest)).text in
        rw all_due (
          omega (arith, length-append text more, report.0),
          front_in_turn held mid now text more put report.1,
        )
    in_front new held mid now (Err ReadFault) put going report =
        let first_due = is by.line report.lines by.spelled in
        record {
          lines = by.line ∷ report.lines;
          rest = report.rest;
          split = by.lines ∙ ap (λ ls. by.line ∷ ls) report.split;
          fine = inr (ap (λ d. d.stop) first_due ∙ elim report.fine [
            | inl e ↦ ap (λ ls. (others ls).stop) e ∙ going
            | inr e ↦ e
          ]);
          told = rw first_due (appends_in_turn held mid now text _ put report.told);
          cut = report.cut;
        }
    in_front new held mid now (Err stop) put going report =
        rw all_due (report.0, appends_in_turn held mid now text _ put report.1)

  pub goes_on : (all left new held mid now : Option (List ℕ)) (r : Result (Unit {0}) Stop)
      → IfSome all (λ bytes. Spells at x bytes left) → Appends held mid text
      → (others []).stop ≡ None → IfSome left (λ bytes. IsReport others bytes new mid now r)
      → IfSome all (λ bytes. IsReport due bytes new held now r)
  goes_on None left new held mid now r by put going report = tt
  goes_on (Some bytes) left new held mid now r by put going report =
      in_front bytes left by new held mid now r put going
      (subst (λ o. IfSome o (λ b. IsReport others b new mid now r)) by.now report)

  pub breaks_off : (all left held now : Option (List ℕ)) → 0 < length text
      → IfSome all (λ bytes. Spells at x bytes left) → AppendsPrefix held now text
      → IfSome all (λ bytes. IsReport due bytes left held now (Err WriteFault))
  breaks_off None left held now some by put = tt
  breaks_off (Some bytes) left held now some by put =
      let more = (others (lines_of by.rest)).text in
      rw (all_due bytes left by) (
        omega (arith, length-append text more, some),
        front_longer held now text more put,
      )

-- a report of what is left, after what is written, makes one of the whole
abbrev pub LeadsOn : (due others : List (List ℕ) → Due) (all left held now : Option (List ℕ))
    → Type 0
LeadsOn due others all left held now = (new last : Option (List ℕ)) (r : Result (Unit {0}) Stop)
    → IfSome left (λ bytes. IsReport others bytes new now last r)
    → IfSome all (λ bytes. IsReport due bytes new held last r)

-- what is due for a line that spells a reading
pub due_more : (l : Limits) (past : List ℕ) (r : ℕ) → length past < life → (line : List ℕ)
    (ls : List (List ℕ)) → reading_at line ≡ Some r
    → due_after l past (line ∷ ls)
    ≡ with_text (told_line l (past ++ r ∷ [])) (due_after l (past ++ r ∷ []) ls)
due_more l past r room line ls is = rw (is, lt-ltb (length past) life room) refl

-- ---- a text of limits and readings

due_readings : (l : Limits) (past xs : List ℕ) (lines : List (List ℕ)) → AreReadings lines xs
    → length past + length xs ≤ life
    → due_after l past lines ≡ record { text = told_lines l past xs; stop = None }
due_readings l past [] [] are few = refl
due_readings l past (x ∷ xs) (line ∷ lines) are few =
    due_more l past x (omega arith) line lines are.0
    ∙ ap (with_text (told_line l (past ++ x ∷ []))) (due_readings l (past ++ x ∷ []) xs lines are.1
    (omega (arith, length-append past (x ∷ []))))
due_readings l past xs lines are few = absurd are

fine_due : (bytes : List ℕ) (l : Limits) (xs : List ℕ) → IsFineText bytes l xs
    → due_in (lines_of bytes) ≡ record { text = told_lines l [] xs; stop = None }
fine_due bytes l xs fine =
    ap due_in fine.lines ∙ ap (λ o. due_from (checked o) fine.others) fine.limits
    ∙ rw (le-ltb l.high l.low fine.in_order)
    (due_readings l [] xs fine.others fine.readings (omega (arith, fine.few)))

pub fine_reported : (all left held now : Option (List ℕ)) (r : Result (Unit {0}) Stop)
    → IfSome all (λ bytes. IsReport due_in bytes left held now r)
    → IfSome all (λ bytes. (l : Limits) (xs : List ℕ) → IsFineText bytes l xs
    → IsToldOrFails l xs held now r)
fine_reported None left held now r by = tt
fine_reported (Some bytes) left held now (Ok done) by =
    λ l xs fine. subst (λ (d : Due). Appends held now d.text) (fine_due bytes l xs fine) by.2
fine_reported (Some bytes) left held now (Err ReadFault) by = λ l xs fine. tt
fine_reported (Some bytes) left held now (Err WriteFault) by = λ l xs fine. tt
fine_reported (Some bytes) left held now (Err stop) by = λ l xs fine.
    let told : (due_in (lines_of bytes)).stop ≡ None =
    ap (λ (d : Due). d.stop) (fine_due bytes l xs fine) in
    let e : None ≡ Some stop = sym told ∙ by.0 in absurd cc
