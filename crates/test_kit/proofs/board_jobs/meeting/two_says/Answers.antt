use Rattle.std.proofs.Common.{sym, subst, map, Vec, Global, List, [], ◌∷◌, refl, arith}
use Rattle.block_store.specs.declared.Width.TheVariants.{Four}
use Rattle.never_heap.specs.declared.Command.{Command}
use Rattle.never_heap.specs.declared.Command.TheVariants as commands
use Rattle.never_heap.specs.Jobs.{IsTraceInBounds}
use Rattle.never_heap.proofs.Lemmas.{plain_fits}
use Rattle.heap_system.specs.Machines.{IsJob}
use Rattle.heap_system.proofs.Lemmas.{both, config, two}
use Rattle.test_kit.proofs.board_jobs.meeting.two_says.Goals as goal

abbrev says : List Command
says = commands.Say 0 ∷ commands.Say 0 ∷ []

fits : IsTraceInBounds (config Four) says
fits = two Four (commands.Say 0) (commands.Say 0) (plain_fits refl refl tt (omega arith)) (plain_fits refl refl tt (omega arith))

pub returns : goal.returns
returns c =
    subst (λ xs. IsJob (config Four) (map (λ (v : Vec Command Global). v.items) xs)) (sym c.in_ok-vec.ensures.items)
    (subst (λ xs. IsJob (config Four) (xs ∷ c.in_ok-second.second.items ∷ [])) (sym c.in_ok-first.ensures.items)
    (subst (λ xs. IsJob (config Four) (says ∷ xs ∷ [])) (sym c.in_ok-second.ensures.items) (both Four says says fits fits)))
