-- What a step answers, and which commands have blocks.
use Rattle.std.proofs.Common.{ℕ, Option, Some, None, is_some, ◌+◌, ◌*◌, ◌≡◌, ◌<◌, ◌⊎◌, Bool, true, false, inl, inr, ap, ◌∙◌, length, refl, arith, sym}
use Rattle.std.proofs.lemmas.Bool.{cases_Bool}
use Rattle.array_trees.specs.Trees.{leaves}
use Rattle.array_trees.proofs.Counts.{le-tree}
use Rattle.block_store.specs.declared.Width.{Width}
use Rattle.block_store.specs.Widths.{payloads}
use Rattle.block_store.proofs.Lemmas.{wide}
use Rattle.never_heap.specs.declared.Command.{Command}
use Rattle.never_heap.specs.declared.Command.TheVariants as commands
use Rattle.never_heap.specs.declared.Reply.{Reply}
use Rattle.never_heap.specs.declared.Reply.TheVariants as replies
use Rattle.never_heap.specs.Graphs.{Graph, ObjectKind, Record, Array, count_of, next_name}
use Rattle.never_heap.specs.Histories.{is_full, Did, IsAnswered}
use Rattle.never_heap.specs.LiveBlocks.{blocks_of_kind}
use Rattle.never_heap.specs.RightWork.{requested_units, units_owed}
use Rattle.never_heap.specs.Steps.{step, blocks_of, blocks_in, makes_object, object_made}
use Rattle.never_heap.specs.declared.Entry.{Entry}
use Rattle.never_heap.proofs.Outcomes.{Told, plain, held, is_plain, Outcome, unchanged, in_register, in_field, in_both, new_object, outcome_of}
use Rattle.never_heap.proofs.UnchangedBySteps.{step_made}

plain_not_full : (r : Reply) → is_plain r ≡ true → is_full r ≡ false
plain_not_full (replies.Full c) y = absurd cc
plain_not_full _ y = refl

told_not_full : (g : Graph) (t : ℕ) (r : Reply) → Told g t r → is_full r ≡ false
told_not_full g t _ (plain r y) = plain_not_full r y
told_not_full g t _ (held s) = refl

-- one of two answers, neither of which is full
pub neither : (test : Reply → Bool) (r a b : Reply) → (r ≡ a) ⊎ (r ≡ b) → test a ≡ false
    → test b ≡ false → test r ≡ false
neither test r a b (inl e) n m = ap test e ∙ n
neither test r a b (inr e) n m = ap test e ∙ m

outcome_not_full : (g : Graph) (t : ℕ) (k : Command) (p : Graph × Reply) → Outcome g t k p
    → is_full p.1 ≡ false
outcome_not_full g t k _ (unchanged r told makes by) = told_not_full g t r told
outcome_not_full g t k _ (in_register d v r s said to makes by) =
    neither is_full r replies.Stored (replies.Val v) said refl refl
outcome_not_full g t k _ (in_field s i v a r e l said at makes by) =
    neither is_full r replies.Stored replies.Yes said refl refl
outcome_not_full g t k _ (in_both s i v a e l to at makes by) = refl
outcome_not_full g t k _ (new_object d kind n is to at by) = refl

-- no step answers with a full
pub step_not_full : (g : Graph) (t : ℕ) (command : Command) → is_full (step g t command).1 ≡ false
step_not_full g t command = outcome_not_full g t command _ (outcome_of g t command)

outcome_makes : (g : Graph) (t : ℕ) (k : Command) (p : Graph × Reply) → Outcome g t k p
    → makes_object k ≡ true → p.1 ≡ replies.New (next_name g t)
outcome_makes g t k _ (unchanged r told none by) makes = absurd cc
outcome_makes g t k _ (in_register d v r s said to none by) makes = absurd cc
outcome_makes g t k _ (in_field s i v a r e l said at none by) makes = absurd cc
outcome_makes g t k _ (in_both s i v a e l to at none by) makes = absurd cc
outcome_makes g t k _ (new_object d kind n is to at by) makes = refl

-- a command that makes an object answers its name
pub makers_answer : (g : Graph) (t : ℕ) (command : Command) → makes_object command ≡ true
    → (step g t command).1 ≡ replies.New (next_name g t)
makers_answer g t command makes = outcome_makes g t command _ (outcome_of g t command) makes

some_blocks : (w : Width) (kind : ObjectKind) (n : ℕ) → 0 < blocks_of_kind w kind n
some_blocks w Record n = omega arith
some_blocks w Array n =
    omega (arith, le-tree (payloads w) (leaves (payloads w) n) (omega (arith, wide w)))

made_blocks : (w : Width) (o : Option (ObjectKind × ℕ)) → is_some o ≡ true → 0 < blocks_in w o
made_blocks w None e = absurd cc
made_blocks w (Some o) e = some_blocks w o.0 o.1

no_blocks : (w : Width) (o : Option (ObjectKind × ℕ)) → is_some o ≡ false → blocks_in w o ≡ 0
no_blocks w None e = refl
no_blocks w (Some o) e = absurd cc

-- a command that makes an object has a block at least, and any other has none
pub makers_have_blocks : (w : Width) (command : Command) → makes_object command ≡ true
    → 0 < blocks_of w command
makers_have_blocks w command e = made_blocks w (object_made command) e

pub others_have_none : (w : Width) (command : Command) → makes_object command ≡ false
    → blocks_of w command ≡ 0
others_have_none w command e = no_blocks w (object_made command) e

pub blocks_make : (w : Width) (command : Command) → 0 < blocks_of w command
    → makes_object command ≡ true
blocks_make w command some = elim (cases_Bool (makes_object command)) [
  | inl y ↦ y
  | inr n ↦ absurd (omega (arith, others_have_none w command n, some))
]

-- nor is it told to make units
pub makers_untold : (command : Command) → makes_object command ≡ true → requested_units command ≡ 0
makers_untold (commands.Idle u) e = absurd cc
makers_untold _ e = refl

-- a command that has no blocks owes what it is told to make
pub owes_told : (w : Width) (rate : ℕ) (command : Command) → blocks_of w command ≡ 0
    → units_owed w rate command ≡ requested_units command
owes_told w rate command none =
    let price : rate * blocks_of w command ≡ rate * 0 = ap (λ n. rate * n) none in omega arith

pub none_make : (w : Width) (command : Command) → blocks_of w command ≡ 0
    → makes_object command ≡ false
none_make w command none = elim (cases_Bool (makes_object command)) [
  | inl y ↦ absurd (omega (arith, makers_have_blocks w command y, none))
  | inr n ↦ n
]

-- one that has blocks is told of no units, and is answered with the name of its object
pub blocks_untold : (w : Width) (command : Command) → 0 < blocks_of w command
    → requested_units command ≡ 0
blocks_untold w command some = makers_untold command (blocks_make w command some)

pub blocks_answer : (w : Width) (g : Graph) (t : ℕ) (command : Command) → 0 < blocks_of w command
    → (step g t command).1 ≡ replies.New (next_name g t)
blocks_answer w g t command some = makers_answer g t command (blocks_make w command some)

-- and it is one object more
pub blocks_count : (w : Width) (g : Graph) (t : ℕ) (command : Command) → 0 < blocks_of w command
    → t < length g.mutators → count_of (step g t command).0 t ≡ count_of g t + 1
blocks_count w g t command some = step_made g t command (blocks_make w command some)

-- a reply that is no full comes of the step
pub answered_by_step : (g : Graph) (e : Entry) → IsAnswered g (Did e) → is_full e.reply ≡ false
    → e.reply ≡ (step g e.thread e.command).1
answered_by_step g e (inl same) unfull = same
answered_by_step g e (inr full) unfull = absurd (let both : true ≡ false = sym full.0 ∙ unfull in cc)
