-- The entries of a thread in the order of a run are of the first commands of its trace.
use Rattle.std.proofs.Common.{◌≡◌, ℕ, zero, suc, ◌<◌, ◌≤◌, Option, Some, None, refl, arith, subst, sym, ap, ◌∙◌, List, [], ◌∷◌, ◌++◌, append-nil, append_assoc, length, length-append, get_or, map, take, drop}
use Rattle.std.proofs.lemmas.List.{length-map, map-append, take-append-drop}
use Rattle.block_store.specs.declared.Config.{Config}
use Rattle.heap_machine.specs.declared.pass.Pass.{Pass}
use Rattle.never_heap.specs.declared.Command.{Command}
use Rattle.never_heap.specs.declared.Command.TheVariants as commands
use Rattle.never_heap.specs.declared.Entry.{Entry}
use Rattle.never_heap.specs.declared.Reply.{Reply}
use Rattle.never_heap.specs.Graphs.{Graph}
use Rattle.never_heap.specs.Histories.{part, replay}
use Rattle.heap_system.specs.Locals.{IsLocal, LocalState, PartFits, command_of, entries_of}
use Rattle.heap_system.specs.Machines.{Run, IsAfterTurns, local_in}
use Rattle.heap_system.specs.Parts.{Part, Access}
use Rattle.heap_system.specs.Pictures.{entries_waiting, waiting}
use Rattle.heap_system.proofs.invariant.Invariant.{Kept}
use Rattle.heap_system.proofs.invariant.RunLaws.{kept_of}

abbrev commands_in : List Entry → List Command
commands_in es = map (λ (e : Entry). e.command) es

-- the next command of a trace comes after the first ones
split_next : (n : ℕ) (xs : List Command) → n < length xs
    → take n xs ++ get_or xs n (commands.Nil 0) ∷ drop (suc n) xs ≡ xs
split_next n [] low = absurd (omega arith)
split_next zero (x ∷ xs) low = refl
split_next (suc n) (x ∷ xs) low = ap (λ l. x ∷ l) (split_next n xs (omega arith))

-- an entry waits only where a command is left
waits_low : (c : Config) (n m : ℕ) (q : Pass) (g : Graph) (p : Part) (r : Reply)
    → PartFits c n m q p → waiting g p ≡ Some r → n < m
waits_low c n m q g (Access f) r fits e = fits.1
waits_low c n m q g _ r fits e = absurd cc

first_by : (l : LocalState) (o : Option Reply)
    → ((r : Reply) → o ≡ Some r → length l.log < length l.trace)
    → commands_in l.log ≡ take (length l.log) l.trace
    → (rest : List Command)
    × (l.trace ≡ commands_in (l.log ++ entries_of l.thread (command_of l) l.spent o) ++ rest)
first_by l None low said = (
  drop (length l.log) l.trace,
  sym ((λ i. commands_in (append-nil l.log i) ++ drop (length l.log) l.trace)
      ∙ ap (λ ks. ks ++ drop (length l.log) l.trace) said
      ∙ take-append-drop (length l.log) l.trace),
)
first_by l (Some r) low said =
    let n : ℕ = length l.log in
    let later : List Command = drop (suc n) l.trace in (
      later,
      sym (ap (λ ks. ks ++ later)
          (map-append (λ (e : Entry). e.command) l.log
          (entries_of l.thread (command_of l) l.spent (Some r)))
          ∙ append_assoc (commands_in l.log) (command_of l ∷ []) later
          ∙ ap (λ ks. ks ++ command_of l ∷ later) said
          ∙ split_next n l.trace (low r refl)),
    )

-- of a thread with these entries
pub first_commands : (g : Graph) (l : LocalState) (es : List Entry)
    → es ≡ l.log ++ entries_waiting g l → IsLocal l
    → commands_in l.log ≡ take (length l.log) l.trace
    → (rest : List Command) × (l.trace ≡ commands_in es ++ rest)
first_commands g l es told fits said =
    subst (λ xs. (rest : List Command) × (l.trace ≡ commands_in xs ++ rest)) (sym told)
    (first_by l (waiting g l.part)
    (λ r e. waits_low l.config (length l.log) (length l.trace) l.pass g l.part r fits.part e)
    said)

-- a thread of a run has at most as many entries as commands
pub as_many_commands : (c : Config) (r : Run) (is : IsAfterTurns c r) (t : ℕ) → t < c.threads
    → length (part t r.order) ≤ length (local_in c r t).trace
as_many_commands c r is t tl =
    let all : Kept c is.traces r = kept_of c r is in
    let own = all.locals t tl in
    let first = first_commands (replay c r.order) (local_in c r t) (part t r.order) own.told
    own.fits own.said in
    omega (
      arith,
      ap length first.1,
      length-append (commands_in (part t r.order)) first.0,
      length-map (part t r.order) (λ (e : Entry). e.command),
    )
