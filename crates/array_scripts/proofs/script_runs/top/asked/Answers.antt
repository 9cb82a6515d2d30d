use Rattle.std.proofs.Common.{arith, ◌≡◌, [], map, string_bytes, sym, subst, IfErr, List, ℕ}
use Rattle.std.proofs.lemmas.Grind.{common_steps}
use Rattle.exit_statuses.specs.Sides.{sides}
use Rattle.array_scripts.specs.JobsOfScripts.{IsCause}
use Rattle.array_scripts.proofs.script_runs.top.asked.Goals as goal

pub returns-clause-refused : goal.returns-clause-refused
returns-clause-refused g c =
    let none : map (λ w. string_bytes w) c.args.words.now ≡ [] = grind (arith, common_steps) in
    subst (λ (ws : List (List ℕ)). IfErr c.kept.result (IsCause g.K.Scripted.kind ws
    (sides g.S.Source.left g.S.Source.faults c.args.source.now c.kept.new.source)))
    (sym none) c.kept.ensures.refused
