use Rattle.std.proofs.Common.{◌≡◌, arith, List, ℕ, [], map, string_bytes, IfErr, sym, subst}
use Rattle.std.proofs.lemmas.Grind.{common_steps}
use Rattle.exit_statuses.specs.Sides.{sides}
use Rattle.rt_mail.specs.RefusedTexts.{IsCause}
use Rattle.rt_mail.proofs.top.asked.Goals as goal

pub returns-clause-refused : goal.returns-clause-refused
returns-clause-refused g c =
    let none : map (λ w. string_bytes w) c.args.words.now ≡ [] = grind (arith, common_steps) in
    subst (λ (words : List (List ℕ)). IfErr c.mailed.result (IsCause words
    (sides g.S.Source.left g.S.Source.faults c.args.source.now c.mailed.new.source)))
    (sym none) c.mailed.ensures.refused
