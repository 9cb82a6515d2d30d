use Rattle.std.proofs.Common.{Bool, ◌≡◌, length, sym, subst, ◌∙◌, arith}
use Rattle.std.proofs.lemmas.Bool.{both_ways}
use Rattle.never_heap.specs.Histories.{Started, starts_in}
use Rattle.trace_text.specs.OrderTexts.{end_text}
use Rattle.trace_text.specs.RunTexts.{totals_line}
use Rattle.rt_check.specs.Standing.{Stands, StartsHere}
use Rattle.rt_check.proofs.GoodLaws.{some_past, no_past, none_begun, left_is, start_good, mark_bad}
use Rattle.rt_check.proofs.follower.Follower.mark.Goals as goal
use Rattle.rt_check.proofs.follower.Follower.mark.Goals.{else-is_line-via-then-is_line+then-has_begun+else-is_done, else-is_line-via-then-is_line+else-has_begun, else-is_line-via-else-is_line}

pub returns-then-branch : goal.returns-then-branch
returns-then-branch c rate past s =
    let config = c.args.job.now.config in
    let starts = subst (λ (b : Bool). StartsHere config past c.args.line.now b c.take_start.new.self)
    c.if-branch.true (c.in_ok-take_start.ensures.taken config past s) in (
      Started,
      start_good config rate c.args.job.now.traces past c.args.line.now starts.0,
      starts.1,
    )

pub returns-then-is_done : goal.returns-then-is_done
returns-then-is_done c rate past before =
    let config = c.args.job.now.config in
    let s : Stands config past c.take_start.new.self =
    subst (Stands config past) (sym (c.in_ok-take_start.ensures.left c.if-branch.false)) before in
    let starts : c.len.result ≡ starts_in past = omega (arith, c.len.ensures, s.starts) in
    let whole = c.fill_totals.ensures.text ∙ (λ i. totals_line (starts i) (s.work i)) in
    record {
      begun = some_past config c.args.job.now.traces past c.take_start.new.self s
          (c.has_begun.ensures.0 c.if-has_begun.true);
      no_command = λ t. sym (left_is config c.args.job.now.traces past c.take_start.new.self s t)
          ∙ c.is_done.ensures.0 c.if-is_done.true t;
      text = (c.is_line.ensures (end_text past) whole).0 c.if-is_line.true;
    }

pub returns : goal.returns
returns c rate past before =
    let config = c.args.job.now.config in
    let traces = c.args.job.now.traces in
    let f = c.take_start.new.self in
    let s : Stands config past f =
    subst (Stands config past) (sym (c.in_ok-take_start.ensures.left c.if-branch.false)) before in
    let ends : c.len.result ≡ starts_in past = omega (arith, c.len.ensures, s.starts) in
    let start = subst (λ (b : Bool). StartsHere config past c.args.line.now b f)
    c.if-branch.false (c.in_ok-take_start.ensures.taken config past before) in
    let total = c.is_line.ensures (end_text past)
    (c.fill_totals.ensures.text ∙ (λ i. totals_line (ends i) (s.work i))) in
    mark_bad config rate traces past c.args.line.now
    (let l = c.requires.job.threads in let b = c.requires.job.config in
    omega (arith)) c.requires.number start
    (λ last. elim c.else-is_line.branch [
      | else-is_line-via-then-is_line+then-has_begun+else-is_done w ↦
          both_ways w.is_done.result w.if-is_done.false
          (w.is_done.ensures.1 (λ t. left_is config traces past f s t ∙ last.no_command t))
      | else-is_line-via-then-is_line+else-has_begun w ↦
          last.begun (no_past config traces past f s
          (none_begun w.has_begun.result (length f.live.items) w.has_begun.ensures
          w.if-has_begun.false))
      | else-is_line-via-else-is_line w ↦
          both_ways c.is_line.result w.if-is_line.false (total.1 last.text)
    ])
