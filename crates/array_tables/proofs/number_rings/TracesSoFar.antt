-- One operation's commands more, and one recall more that a log tells.
use Rattle.std.proofs.Common.{◌≡◌, ℕ, suc, ◌+◌, ◌-◌, ◌<◌, ◌≤◌, Some, None, List, [], ◌∷◌, ◌++◌, length, drop, map, get_or, append_assoc, refl, sym, ap, ◌∙◌, arith}
use Rattle.std.specs.Prelude.{flat_map}
use Rattle.std.proofs.lemmas.List.{drop-map}
use Rattle.never_heap.specs.declared.Command.{Command}
use Rattle.never_heap.specs.declared.Entry.{Entry}
use Rattle.never_heap.proofs.Lemmas.{replies}
use Rattle.array_tables.specs.number_rings.Rings.{Operation, Recall, Cell, rows_of, command_at, ring_place, recalls, number_of, with_number, numbers_told}

abbrev pub commands_of : List Operation → List Command
commands_of ops = map command_at (flat_map rows_of ops)

-- after these commands those of one recall more
pub recall_more : (t j k : ℕ) (so_far more whole : List Command) → j < k
    → more ≡ so_far ++ map command_at (rows_of (Recall (ring_place t j)))
    → so_far ++ commands_of (recalls t j (k - j)) ≡ whole
    → more ++ commands_of (recalls t (j + 1) (k - (j + 1))) ≡ whole
recall_more t j k so_far more whole low is was =
    let rest : List Operation = recalls t (j + 1) (k - (j + 1)) in
    let next : k - j ≡ suc (k - (j + 1)) = omega arith in
    ap (λ (l : List Command). l ++ commands_of rest) is
    ∙ append_assoc so_far (map command_at (rows_of (Recall (ring_place t j)))) (commands_of rest)
    ∙ ap (λ (n : ℕ). so_far ++ commands_of (recalls t j n)) (sym next) ∙ was

-- ---- what a log tells

with_front : (c : Cell) (ns : List ℕ) → with_number c [] ++ ns ≡ with_number c ns
with_front None ns = refl
with_front (Some v) ns = refl

pub told_more : (rest behind : List Entry) (d : Entry) (ns more whole : List ℕ)
    → 2 ≤ length rest → behind ≡ drop 2 rest
    → more ≡ ns ++ with_number (number_of (get_or rest 1 d).reply) []
    → ns ++ numbers_told (replies rest) ≡ whole → more ++ numbers_told (replies behind) ≡ whole
told_more (a ∷ b ∷ rest) behind d ns more whole enough after is was =
    let tail : List ℕ = numbers_told (replies rest) in
    let own : Cell = number_of b.reply in
    ap (λ (l : List Entry). more ++ numbers_told (replies l)) after
    ∙ ap (λ (l : List ℕ). l ++ tail) is
    ∙ append_assoc ns (with_number own []) tail
    ∙ ap (λ (l : List ℕ). ns ++ l) (with_front own tail) ∙ was
told_more rest behind d ns more whole enough after is was = absurd (omega arith)

-- at first nothing is told
pub told_none : (log rest : List Entry) (n : ℕ) (ns : List ℕ) → ns ≡ [] → rest ≡ drop n log
    → ns ++ numbers_told (replies rest) ≡ numbers_told (drop n (replies log))
told_none log rest n ns none is =
    ap (λ (l : List ℕ). l ++ numbers_told (replies rest)) none
    ∙ ap (λ (l : List Entry). numbers_told (replies l)) is
    ∙ ap numbers_told (sym (drop-map (λ (e : Entry). e.reply) n log))
