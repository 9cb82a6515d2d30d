use Rattle.std.proofs.Common.{refl}
use Rattle.array_trees.specs.Trees.{tree}
use Rattle.array_tables.proofs.handle_table.the_example_holds.Goals as goal

pub returns-clause-answers : goal.returns-clause-answers
returns-clause-answers c =
    (refl, (refl, (refl, (refl, (refl, (refl, (refl, (refl, (refl, (refl, (refl, tt)))))))))))

pub returns-clause-live : goal.returns-clause-live
unfolding tree
returns-clause-live c = refl
