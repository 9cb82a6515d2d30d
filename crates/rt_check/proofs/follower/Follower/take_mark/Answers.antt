use Rattle.std.proofs.Common.{Bool, length, sym, subst, ◌∙◌, arith}
use Rattle.std.proofs.lemmas.Bool.{both_ways}
use Rattle.rt_check.specs.Standing.{Stands, StartsHere}
use Rattle.rt_check.proofs.GoodLaws.{some_past, no_past, none_begun, left_is}
use Rattle.rt_check.proofs.TakenLaws.{start_taken, mark_left}
use Rattle.rt_check.proofs.follower.Follower.take_mark.Goals as goal
use Rattle.rt_check.proofs.follower.Follower.take_mark.Goals.{else-tells_totals-via-then-tells_totals+then-has_begun+else-is_done, else-tells_totals-via-then-tells_totals+else-has_begun, else-tells_totals-via-else-tells_totals}

pub returns-then-branch : goal.returns-then-branch
returns-then-branch c past s =
    let config = c.args.job.now.config in
    let starts = subst (λ (b : Bool). StartsHere config past c.args.line.now b c.take_start.new.self)
    c.if-branch.true (c.in_ok-take_start.ensures.taken config past s) in
    (start_taken config c.args.job.now.traces past c.args.line.now starts.0, starts.1)

pub returns-then-is_done : goal.returns-then-is_done
returns-then-is_done c past before =
    let config = c.args.job.now.config in
    let s : Stands config past c.take_start.new.self =
    subst (Stands config past) (sym (c.in_ok-take_start.ensures.left c.if-branch.false)) before in
    record {
      begun = some_past config c.args.job.now.traces past c.take_start.new.self s
          (c.has_begun.ensures.0 c.if-has_begun.true);
      no_command = λ t. sym (left_is config c.args.job.now.traces past c.take_start.new.self s t)
          ∙ c.is_done.ensures.0 c.if-is_done.true t;
      totals = c.tells_totals.ensures.0 c.if-tells_totals.true;
    }

pub returns : goal.returns
returns c past before =
    let config = c.args.job.now.config in
    let traces = c.args.job.now.traces in
    let f = c.take_start.new.self in
    let s : Stands config past f =
    subst (Stands config past) (sym (c.in_ok-take_start.ensures.left c.if-branch.false)) before in
    let start = subst (λ (b : Bool). StartsHere config past c.args.line.now b f)
    c.if-branch.false (c.in_ok-take_start.ensures.taken config past before) in
    mark_left config traces past c.args.line.now
    (let l = c.requires.job.threads in let b = c.requires.job.config in
    omega (arith)) c.requires.number start
    (λ end. elim c.else-tells_totals.branch [
      | else-tells_totals-via-then-tells_totals+then-has_begun+else-is_done w ↦
          both_ways w.is_done.result w.if-is_done.false
          (w.is_done.ensures.1 (λ t. left_is config traces past f s t ∙ end.no_command t))
      | else-tells_totals-via-then-tells_totals+else-has_begun w ↦
          end.begun (no_past config traces past f s
          (none_begun w.has_begun.result (length f.live.items) w.has_begun.ensures
          w.if-has_begun.false))
      | else-tells_totals-via-else-tells_totals w ↦
          both_ways c.tells_totals.result w.if-tells_totals.false
          (c.tells_totals.ensures.1 end.totals)
    ])
