-- Words ask for one task at most.
use Rattle.std.proofs.Common.{ℕ, ◌≡◌, ◌==◌, cond, List, [], ◌∷◌, Option, Some, None, codes, slice_index, refl, sym, ap, ◌∙◌, subst}
use Rattle.trace_text.specs.Reading.{digits_on, number_at}
use Rattle.rtheap_core.specs.declared.schedules.Schedule.{Schedule}
use Rattle.rtheap_core.specs.declared.schedules.Schedule.TheVariants.{Robin, Serial, Key}
use Rattle.rtheap_core.specs.declared.task.Task.{Task}
use Rattle.rtheap_core.specs.declared.task.Task.TheVariants.{Run, Replay, Plan, Make, Trial}
use Rattle.rtheap_core.specs.Tasks.{Names, AsksFor}

-- the one schedule that a word may name: a number, a word with r in front, or another
abbrev named : Option ℕ → ℕ → Schedule
named (Some key) first = Key key
named None first = cond (first == 114) Robin Serial

robin_is : named (number_at (codes "robin")) (slice_index (codes "robin") 0) ≡ Robin
unfolding number_at digits_on
robin_is = refl

serial_is : named (number_at (codes "serial")) (slice_index (codes "serial") 0) ≡ Serial
unfolding number_at digits_on
serial_is = refl

name_is : (word : List ℕ) (s : Schedule) → Names word s
    → named (number_at word) (slice_index word 0) ≡ s
name_is word Robin n =
    subst (λ w. named (number_at w) (slice_index w 0) ≡ Robin) (sym n) robin_is
name_is word Serial n =
    subst (λ w. named (number_at w) (slice_index w 0) ≡ Serial) (sym n) serial_is
name_is word (Key key) n = ap (λ o. named o (slice_index word 0)) n

-- the one number that a word may be
abbrev the_number : Option ℕ → ℕ
the_number (Some n) = n
the_number None = 0

-- the one task of these parts, by the first letter of the word: r of replay, m of make, or another
abbrev of_parts : ℕ → Schedule → ℕ → ℕ → Task
of_parts first schedule key n =
    cond (first == 114) (Replay schedule n) (cond (first == 109) (Make key n) (Trial key n))

abbrev of_words : List (List ℕ) → Task
of_words [] = Run
of_words (w ∷ []) = cond (slice_index w 0 == 114) Run Plan
of_words (w ∷ x ∷ []) = Run
of_words (w ∷ x ∷ y ∷ []) =
    of_parts (slice_index w 0) (named (number_at x) (slice_index x 0)) (the_number (number_at x))
    (the_number (number_at y))
of_words (w ∷ x ∷ y ∷ z ∷ words) = Run

three : (w x y : List ℕ) (t : Task) → AsksFor (w ∷ x ∷ y ∷ []) t
    → of_words (w ∷ x ∷ y ∷ []) ≡ t
three w x y Run a = absurd a
three w x y Plan a = absurd a
three w x y (Replay schedule turns) a =
    ap (λ v. of_parts (slice_index v 0) (named (number_at x) (slice_index x 0))
    (the_number (number_at x)) (the_number (number_at y))) a.0
    ∙ (λ i. Replay (name_is x schedule a.1 i) (the_number (a.2.0 i)))
three w x y (Make key lines) a =
    ap (λ v. of_parts (slice_index v 0) (named (number_at x) (slice_index x 0))
    (the_number (number_at x)) (the_number (number_at y))) a.0
    ∙ (λ i. Make (the_number (a.1 i)) (the_number (a.2.0 i)))
three w x y (Trial key lines) a =
    ap (λ v. of_parts (slice_index v 0) (named (number_at x) (slice_index x 0))
    (the_number (number_at x)) (the_number (number_at y))) a.0
    ∙ (λ i. Trial (the_number (a.1 i)) (the_number (a.2.0 i)))

one : (w : List ℕ) (t : Task) → AsksFor (w ∷ []) t → of_words (w ∷ []) ≡ t
one w Run a = ap (λ v. of_words (v ∷ [])) a
one w Plan a = ap (λ v. of_words (v ∷ [])) a
one w (Replay schedule turns) a = absurd a
one w (Make key lines) a = absurd a
one w (Trial key lines) a = absurd a

asked : (words : List (List ℕ)) (t : Task) → AsksFor words t → of_words words ≡ t
asked [] Run a = absurd a
asked [] t a = absurd a
asked (w ∷ []) t a = one w t a
asked (w ∷ x ∷ []) t a = absurd a
asked (w ∷ x ∷ y ∷ []) t a = three w x y t a
asked (w ∷ x ∷ y ∷ z ∷ words) t a = absurd a

pub one_task : (words : List (List ℕ)) (s t : Task) → AsksFor words s → AsksFor words t → s ≡ t
one_task words s t a b = sym (asked words s a) ∙ asked words t b
