use Rattle.std.proofs.Common.{inl, ap, refl, subst, ◌∙◌, arith}
use Rattle.trace_text.specs.Lines.{lines_of}
use Rattle.rt_check.specs.declared.taken.Line.{Line}
use Rattle.rt_check.specs.Taking.{SaysTaken}
use Rattle.rt_check.proofs.AnswerSoFar.{one_left, go_start, go_entry}
use Rattle.rt_check.proofs.taken.moves_of.Goals as goal
use Rattle.rt_check.proofs.taken.moves_of.Goals.{in-Start, in-Entry+in_ok-push-in-Entry}

pub returns-in-Left : goal.returns-in-Left
returns-in-Left c =
    let config = c.args.job.now.config in
    let traces = c.args.job.now.traces in
    let has = c.loop-line.invariant.taken in
    let said = subst (λ (v : Line). SaysTaken config traces has.0 c.in-Some.line.now v c.take.new.self)
    c.in-Left.is (c.in_ok-take.ensures has.0 has.1) in
    inl (
      _,
      refl,
      one_left config traces (lines_of c.args.order.now) has.0 (lines_of c.loop-line.rest.now)
          c.loop-line.read has.2 c.in-Some.line.now (lines_of c.in-Some.after.now)
          c.in-Some.ensures.bytes said,
    )

pub loop-line-preserved : goal.loop-line-preserved
loop-line-preserved c =
    let config = c.args.job.now.config in
    let traces = c.args.job.now.traces in
    let has = c.loop-line.invariant.taken in
    let said = c.in_ok-take.ensures has.0 has.1 in
    record {
      room = omega (arith, c.loop-line.invariant.room, c.in-Some.ensures.shorter);
      taken = elim c.match-branch-3.branch [
        | in-Start w ↦
            let start = subst (λ
            (v : Line). SaysTaken config traces has.0 c.in-Some.line.now v c.take.new.self)
            w.in-Start.is said in
            go_start config traces (lines_of c.args.order.now) has.0
            (lines_of c.loop-line.rest.now)
            c.loop-line.read has.2 c.in-Some.line.now (lines_of c.in-Some.after.now)
            c.in-Some.ensures.bytes c.take.new.self c.loop-line.moves.items
            c.match-branch-3.moves.items has.3 (ap (λ m. m.items) w.moves-is) start.0 start.1
        | in-Entry+in_ok-push-in-Entry w ↦
            let entry = subst (λ
            (v : Line). SaysTaken config traces has.0 c.in-Some.line.now v c.take.new.self)
            w.in-Entry.is said in
            go_entry config traces (lines_of c.args.order.now) has.0
            (lines_of c.loop-line.rest.now)
            c.loop-line.read has.2 c.in-Some.line.now (lines_of c.in-Some.after.now)
            c.in-Some.ensures.bytes c.take.new.self c.loop-line.moves.items
            c.match-branch-3.moves.items w.in-Entry.next has.3
            (ap (λ m. m.items) w.moves-is ∙ w.in_ok-push-in-Entry.ensures.items)
            entry.0 entry.1 entry.2 entry.3
      ];
    }
