use Rattle.std.proofs.Common.{ap, sym, subst}
use Rattle.std.specs.List.{All}
use Rattle.block_store.specs.declared.Config.{Config}
use Rattle.never_heap.specs.Graphs.{start_graph}
use Rattle.trace_text.specs.Jobs.{Job}
use Rattle.rt_check.specs.rt_limit.Counting.{IsMoveInRange}
use Rattle.rt_check.specs.rt_limit.Figures.{AreFigures}
use Rattle.rt_check.specs.rt_limit.NeedTexts.{IsText}
use Rattle.rt_check.specs.declared.rt_limit.counts.Figures.{Figures}
use Rattle.rt_check.proofs.rt_limit.AnswerLaws.{ok_map}
use Rattle.rt_check.proofs.rt_limit.JobLaws.{moves_in_range, moves_short}
use Rattle.rt_check.proofs.rt_limit.top.counted.Goals as goal

pub figures_of-requires-clause-moves : goal.figures_of-requires-clause-moves
figures_of-requires-clause-moves c =
    subst (λ (k : Config). All (IsMoveInRange k) c.args.moves.now)
    (ap (λ (j : Job). j.config) (sym c.job.view_is))
    (moves_in_range c.args.job.now c.args.moves.now c.requires.job c.requires.order)

pub figures_of-requires-clause-short : goal.figures_of-requires-clause-short
figures_of-requires-clause-short c =
    moves_short c.args.job.now c.args.moves.now c.requires.job c.requires.order

pub returns : goal.returns
returns c =
    let f = c.in_ok-figures.figures in
    let same = ap (λ (j : Job). j.config) c.job.view_is in
    ok_map (λ v. IsText c.job.inside.config c.args.given f v.items)
    (λ v. (x : Figures) × AreFigures c.args.job.now.config.width
    (start_graph c.args.job.now.config) c.args.moves.now x
    × IsText c.args.job.now.config c.args.given x v.items)
    c.text_of.result
    (λ v t. (
      f,
      subst (λ (k : Config). AreFigures k.width (start_graph k) c.args.moves.now f) same
          c.in_ok-figures.ensures,
      subst (λ (k : Config). IsText k c.args.given f v.items) same t,
    )) c.text_of.ensures
