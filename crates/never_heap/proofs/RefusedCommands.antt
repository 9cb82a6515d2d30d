-- A command that is refused, or answered no, leaves the graph.
use Rattle.std.proofs.Common.{ℕ, ◌≡◌, Bool, true, false, ap, refl}
use Rattle.std.proofs.lemmas.Bool.{both_ways}
use Rattle.block_store.specs.declared.Name.{Name}
use Rattle.block_store.specs.declared.Value.{Value}
use Rattle.never_heap.specs.declared.Command.{Command}
use Rattle.never_heap.specs.declared.Reply.{Reply}
use Rattle.never_heap.specs.declared.Reply.TheVariants as replies
use Rattle.never_heap.specs.Graphs.{Graph}
use Rattle.never_heap.specs.Histories.{is_refusal}
use Rattle.never_heap.specs.Steps.{step}
use Rattle.never_heap.proofs.StepAnswers.{neither}
use Rattle.never_heap.proofs.Outcomes.{Outcome, unchanged, in_register, in_field, in_both, new_object, outcome_of}

-- what is done and what is answered leave the graph where the answer is one of these
abbrev Leaves : (Reply → Bool) → Graph → Graph × Reply → Type 0
Leaves test g r = test r.1 ≡ true → r.0 ≡ g

-- of the answers that commands have where they are done, these are none
module _ (test : Reply → Bool) (new : (a : Name) → test (replies.New a) ≡ false)
    (stored : test replies.Stored ≡ false) (valued : (v : Value) → test (replies.Val v) ≡ false)
    (yes' : test replies.Yes ≡ false) where
  outcome_leaves : (g : Graph) (t : ℕ) (k : Command) (p : Graph × Reply) → Outcome g t k p
      → Leaves test g p
  outcome_leaves g t k _ (unchanged r told makes by) y = refl
  outcome_leaves g t k _ (in_register d v r s said to makes by) y =
      absurd (both_ways (test r)
      (neither test r replies.Stored (replies.Val v) said stored (valued v)) y)
  outcome_leaves g t k _ (in_field s i v a r e l said at makes by) y =
      absurd (both_ways (test r) (neither test r replies.Stored replies.Yes said stored yes') y)
  outcome_leaves g t k _ (in_both s i v a e l to at makes by) y =
      absurd (both_ways _ (valued _) y)
  outcome_leaves g t k _ (new_object d kind n is to at by) y = absurd (both_ways _ (new _) y)

  step_leaves : (g : Graph) (t : ℕ) (command : Command) → Leaves test g (step g t command)
  step_leaves g t command = outcome_leaves g t command _ (outcome_of g t command)

pub step_refused : (g : Graph) (t : ℕ) (command : Command) → Leaves is_refusal g (step g t command)
step_refused = step_leaves is_refusal (λ a. refl) refl (λ v. refl) refl

abbrev is_no : Reply → Bool
is_no replies.No = true
is_no _ = false

pub step_lost : (g : Graph) (t : ℕ) (command : Command) → (step g t command).1 ≡ replies.No
    → (step g t command).0 ≡ g
step_lost g t command e =
    step_leaves is_no (λ a. refl) refl (λ v. refl) refl g t command (ap is_no e)
