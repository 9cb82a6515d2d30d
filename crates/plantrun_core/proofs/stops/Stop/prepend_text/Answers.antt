use Rattle.std.proofs.Common.{ℕ, List, ◌++◌, sym, ap, ◌∙◌, append_assoc}
use Rattle.std.specs.Prelude.{codes, decimal}
use Rattle.plantrun_core.specs.declared.stops.Stop.{Stop}
use Rattle.plantrun_core.specs.Exits.{stop_text}
use Rattle.plantrun_core.proofs.stops.Stop.prepend_text.Goals as goal

pub returns-in-BadLine-clause-text : goal.returns-in-BadLine-clause-text
returns-in-BadLine-clause-text c =
    c.prepend-in-BadLine.ensures.text
    ∙ ap (λ (l : List ℕ). codes "line " ++ l)
    (c.prepend_number.ensures.text
    ∙ ap (λ (l : List ℕ). decimal c.in-BadLine.number ++ l) c.prepend.ensures.text
    ∙ sym (append_assoc (decimal c.in-BadLine.number) (codes ": no reading") c.args.line.now))
    ∙ ap (λ (s : Stop). stop_text s ++ c.args.line.now) (sym c.in-BadLine.is)
