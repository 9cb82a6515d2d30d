use Rattle.std.proofs.Common.{false, true, sym, subst, ◌∙◌}
use Rattle.trace_text.specs.Lines.{lines_of}
use Rattle.rt_check.specs.Moves.{AreMovesOf}
use Rattle.rt_check.specs.Taken.{AreMoves}
use Rattle.rt_check.proofs.rt_limit.JobLaws.{all_by_threads, all_given}
use Rattle.rt_check.proofs.rt_limit.top.needed.Goals as goal

pub counted-requires-clause-order : goal.counted-requires-clause-order
counted-requires-clause-order c =
    subst (AreMovesOf c.args.job.now.traces) (sym (c.deref.ensures.value ∙ c.in_ok-moves.ensures))
    (all_by_threads c.args.job.now.traces)

pub returns-then-not-has_lines : goal.returns-then-not-has_lines
returns-then-not-has_lines c =
    let needs = c.in_ok-counted.ensures in
    record {
      given = false;
      moves = c.deref.result.now;
      order = (
        c.has_lines.ensures.none c.if-not-has_lines.true,
        c.deref.ensures.value ∙ c.in_ok-moves.ensures,
      );
      figures = needs.0;
      are_figures = needs.1;
      is_text = needs.2;
    }

pub counted-requires-2-clause-order : goal.counted-requires-2-clause-order
counted-requires-2-clause-order c =
    subst (AreMovesOf c.args.job.now.traces) (sym c.deref-2.ensures.value)
    (all_given c.args.job.now.config c.args.job.now.traces (lines_of c.args.order.now)
    c.in_ok-moves-2.moves.items c.in_ok-moves-2.ensures)

pub returns : goal.returns
returns c =
    let needs = c.in_ok-counted-2.ensures in
    record {
      given = true;
      moves = c.deref-2.result.now;
      order = (
        c.has_lines.ensures.some c.if-not-has_lines.false,
        subst (AreMoves c.args.job.now.config c.args.job.now.traces (lines_of c.args.order.now))
            (sym c.deref-2.ensures.value) c.in_ok-moves-2.ensures,
      );
      figures = needs.0;
      are_figures = needs.1;
      is_text = needs.2;
    }
