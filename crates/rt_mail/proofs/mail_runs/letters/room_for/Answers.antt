use Rattle.std.proofs.Common.{arith, ap, sym, subst, map, List, Vec, Global, ◌≡◌, ◌≤◌, ◌∙◌}
use Rattle.never_heap.specs.declared.Command.{Command}
use Rattle.trace_text.specs.Jobs.{Job}
use Rattle.rt_mail.specs.said_numbers.Said.{says_in}
use Rattle.rt_mail.specs.mail_runs.Rooms.{all_says}
use Rattle.rt_mail.proofs.mail_runs.Countable.{says_countable, says_so_far}
use Rattle.rt_mail.proofs.mail_runs.letters.room_for.Goals as goal

pub overflow_add-says : goal.overflow_add-says
overflow_add-says c =
    let items : Vec Command Global → List Command = λ v. v.items in
    let whole : map items c.deref-trace-items.result.now ≡ c.args.job.now.traces =
    ap (map items) c.deref-trace-items.ensures.value ∙ ap (λ (j : Job). j.traces) c.job.view_is in
    let few = subst (λ ts. all_says ts ≤ 2097152) (sym whole) (says_countable _ _ c.requires) in
    let far = says_so_far items _ _ _ _ c.trace-item.result c.loop-trace-test.true c.trace-item.is
    c.loop-trace.invariant few in
    let one : c.says_of-says.result ≡ says_in c.trace-item.result.items =
    c.says_of-says.ensures ∙ ap says_in c.deref.ensures.value in
    omega (arith, far, one)
